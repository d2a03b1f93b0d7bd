-- The report of a search, written answer by answer.
use Rattle.std.proofs.Common.{◌≡◌, ℕ, zero, suc, ◌+◌, ◌-◌, ◌<◌, ◌≤◌, Bool, true, false, cond, List, [], ◌∷◌, ◌++◌, length, take, drop, slice_get, get_or, nat_lt, nat_le, Option, None, Some, Result, Ok, Err, IsSome, ⊎_elim, inl, inr, refl, subst, ap, sym, ◌∙◌, append_assoc, append-nil, arith}
use Rattle.std.specs.Option.{unwrap_or}
use Rattle.std.specs.Io.KnownBytes.{Appends}
use Rattle.std.proofs.KnownBytes.{Appends-trans}
use Rattle.std.proofs.lemmas.List.{take-append-drop, take_all, take_more, length-take-le}
use Rattle.std.proofs.lemmas.Option.{unwrap_or-slice_get, slice_get_within}
use Rattle.std.proofs.lemmas.Bool.{cases_Bool, ltb-false, le-leb, lt-leb, false≢true}
use Rattle.le_base.specs.declared.stop.Refusal.{Refusal}
use Rattle.le_base.specs.Outside.{AppendsPrefix}
use Rattle.le_base.proofs.OutsideLemmas.{written_part}
use Rattle.le_terms.specs.declared.program.Program.{Program}
use Rattle.le_clauses.specs.declared.whole.Whole.{Whole}
use Rattle.le_clauses.specs.Selection.{selected}
use Rattle.le_proofs.specs.declared.next.Next.{Next}
use Rattle.le_proofs.specs.declared.next.Next.TheVariants.{Answer, Done, Floundered, OutOfRange, Spent}
use Rattle.le_proofs.specs.Proofs.{Leaf}
use Rattle.le_proofs.specs.Search.{answers_of, end_of, next_of}
use Rattle.le_bundle.specs.Head.{is_ended, ended}
use Rattle.le_machine.specs.State.{Shown, next_answer, given_after, told, last_leaf}
use Rattle.le_tool.specs.Report.{answer_text, answers_text, said_text, end_line, end_status, stopped_line, last_line, search_report, query_report, Question, document_report, clauses_report}
use Rattle.le_tool.specs.declared.asking.Detail.{Detail}
use Rattle.le_tool.specs.Statuses.{is_answer, IsSearchStatus, IsClausesStatus}

-- where nothing was written, a prefix was
pub nothing_written : (a : Option (List ℕ)) (bytes : List ℕ) → AppendsPrefix a a bytes
nothing_written None bytes = (0, tt)
nothing_written (Some xs) bytes = (0, sym (append-nil xs))

-- what was written, and then a prefix of what comes next
pub part_more : (a b c : Option (List ℕ)) (done piece more : List ℕ) → Appends a b done → AppendsPrefix b c piece → AppendsPrefix a c (done ++ (piece ++ more))
part_more a b c done piece more before part =
    let n = part.0 in
    let front = done ++ take n piece in
    let rest = drop n piece ++ more in
    let same : done ++ (piece ++ more) ≡ front ++ rest =
    ap (λ xs. done ++ (xs ++ more)) (sym (take-append-drop n piece)) ∙ ap (λ xs. done ++ xs) (append_assoc (take n piece) (drop n piece) more) ∙ sym (append_assoc done (take n piece) rest) in
    written_part a c (done ++ (piece ++ more)) rest (front, same, Appends-trans a b c done (take n piece) before part.1)

-- the answers so far and some more
pub answers_split : (detail : Detail) (whole : Whole) (program : Program) (before : ℕ) (xs ys : List Leaf) → answers_text detail whole program before (xs ++ ys) ≡ answers_text detail whole program before xs ++ answers_text detail whole program (before + length xs) ys
answers_split detail whole program before [] ys = ap (λ n. answers_text detail whole program n ys) (omega arith)
answers_split detail whole program before (x ∷ xs) ys =
    let t = answer_text detail whole program (before + 1) x in
    let count : before + 1 + length xs ≡ before + length (x ∷ xs) = omega arith in
    ap (λ rest. t ++ rest) (answers_split detail whole program (before + 1) xs ys ∙ ap (λ n. answers_text detail whole program (before + 1) xs ++ answers_text detail whole program n ys) count)
    ∙ sym (append_assoc t (answers_text detail whole program (before + 1) xs) (answers_text detail whole program (before + length (x ∷ xs)) ys))

-- the first so many and the one after them
take_next : {X : Type 0} (xs : List X) (n : ℕ) (x : X) → slice_get xs n ≡ Some x → take (n + 1) xs ≡ take n xs ++ x ∷ []
take_next xs n x h =
    let there : get_or xs n x ≡ x = sym (unwrap_or-slice_get xs n x) ∙ ap (λ o. unwrap_or o x) h in
    take_more xs n x (slice_get_within xs n x h) ∙ ap (λ y. take n xs ++ y ∷ []) there

-- the first of the first
take_take : {X : Type 0} (n m : ℕ) (xs : List X) → n ≤ m → take n (take m xs) ≡ take n xs
take_take zero m xs h = refl
take_take (suc n) zero xs h = absurd (omega (arith, h))
take_take (suc n) (suc m) [] h = refl
take_take (suc n) (suc m) (x ∷ xs) h = ap (λ ys. x ∷ ys) (take_take n m xs (omega (arith, h)))

-- the answers at the first so many leaves
abbrev pub done : Detail → Whole → Program → ℕ → ℕ → List ℕ
done detail whole program budget n = answers_text detail whole program 0 (take n (answers_of program budget))

-- the whole text
abbrev full : Detail → Whole → Program → ℕ → ℕ → List ℕ
full detail whole program budget most = (search_report detail whole most budget program).text

-- the text goes on after the answers at the first so many leaves
goes_on : (detail : Detail) (whole : Whole) (program : Program) (budget most n : ℕ) → n ≤ most → (rest : List ℕ) × (full detail whole program budget most ≡ done detail whole program budget n ++ rest)
unfolding search_report
goes_on detail whole program budget most n low =
    let leaves = answers_of program budget in
    let ys = drop n (take most leaves) in
    let xs = take n leaves in
    let last = last_line most budget (length leaves) (end_of program budget) in
    let split : take most leaves ≡ xs ++ ys = sym (take-append-drop n (take most leaves)) ∙ ap (λ front. front ++ ys) (take_take n most leaves low) in
    let more = answers_text detail whole program (0 + length xs) ys in
    (more ++ last, ap (λ ls. answers_text detail whole program 0 ls ++ last) split ∙ ap (λ text. text ++ last) (answers_split detail whole program 0 xs ys) ∙ append_assoc (answers_text detail whole program 0 xs) more last)

-- the answers so far are a prefix of the text
pub so_far : (a b : Option (List ℕ)) (detail : Detail) (whole : Whole) (program : Program) (budget most n : ℕ) → n ≤ most → Appends a b (done detail whole program budget n) → AppendsPrefix a b (full detail whole program budget most)
so_far a b detail whole program budget most n low before =
    let rest = goes_on detail whole program budget most n low in
    written_part a b (full detail whole program budget most) rest.0 (done detail whole program budget n, rest.1, before)

-- one leaf more is one answer more
one_more : (detail : Detail) (whole : Whole) (program : Program) (budget n : ℕ) (leaf : Leaf) → n ≤ length (answers_of program budget) → slice_get (answers_of program budget) n ≡ Some leaf →
    done detail whole program budget (n + 1) ≡ done detail whole program budget n ++ answer_text detail whole program (n + 1) leaf
one_more detail whole program budget n leaf within there =
    let leaves = answers_of program budget in
    let t = answer_text detail whole program (n + 1) leaf in
    let count : 0 + length (take n leaves) ≡ n = omega (arith, length-take-le n leaves within) in
    ap (answers_text detail whole program 0) (take_next leaves n leaf there)
    ∙ answers_split detail whole program 0 (take n leaves) (leaf ∷ [])
    ∙ ap (λ k. done detail whole program budget n ++ answers_text detail whole program k (leaf ∷ [])) count
    ∙ ap (λ xs. done detail whole program budget n ++ xs) (append-nil t)

-- a machine that gave so many answers and one more
pub record IsPast (shown : Shown) (program : Program) (budget n : ℕ) : Type 0 where
  pub program_ : shown.program ≡ program
  pub budget_ : shown.budget ≡ budget
  pub given : shown.given ≡ n + 1

-- its last leaf
leaf_of : (shown : Shown) (program : Program) (budget n : ℕ) → IsPast shown program budget n → last_leaf shown ≡ slice_get (answers_of program budget) n
leaf_of shown program budget n past =
    let place : shown.given - 1 ≡ n = omega (arith, past.given) in
    ap (λ k. slice_get (answers_of shown.program shown.budget) k) place
    ∙ ap (λ p. slice_get (answers_of p shown.budget) n) past.program_
    ∙ ap (λ b. slice_get (answers_of program b) n) past.budget_

-- the answer of a leaf, where there is one
abbrev leaf_text : Detail → Whole → Program → ℕ → Option Leaf → List ℕ
leaf_text detail whole program n leaf = said_text detail whole program (n + 1) leaf

said_leaf : (detail : Detail) (whole : Whole) (shown : Shown) (program : Program) (budget n : ℕ) → IsPast shown program budget n →
    said_text detail whole program (n + 1) (last_leaf shown) ≡ leaf_text detail whole program n (slice_get (answers_of program budget) n)
said_leaf detail whole shown program budget n past = ap (leaf_text detail whole program n) (leaf_of shown program budget n past)

part_at : (a b c : Option (List ℕ)) (detail : Detail) (whole : Whole) (program : Program) (budget most n : ℕ) (leaf : Option Leaf) → slice_get (answers_of program budget) n ≡ leaf →
    n < most → n ≤ length (answers_of program budget) → Appends a b (done detail whole program budget n) → AppendsPrefix b c (leaf_text detail whole program n leaf) → AppendsPrefix a c (full detail whole program budget most)
part_at a b c detail whole program budget most n None there low within before part =
    let rest = goes_on detail whole program budget most n (omega arith) in
    subst (AppendsPrefix a c) (sym rest.1) (part_more a b c (done detail whole program budget n) [] rest.0 before part)
part_at a b c detail whole program budget most n (Some leaf) there low within before part =
    let d = done detail whole program budget n in
    let t = answer_text detail whole program (n + 1) leaf in
    let rest = goes_on detail whole program budget most (n + 1) (omega arith) in
    let same = rest.1 ∙ ap (λ xs. xs ++ rest.0) (one_more detail whole program budget n leaf within there) ∙ append_assoc d t rest.0 in
    subst (AppendsPrefix a c) (sym same) (part_more a b c d t rest.0 before part)

-- where a prefix of the next answer is written, it is one of the text
pub next_part : (a b c : Option (List ℕ)) (detail : Detail) (whole : Whole) (shown : Shown) (program : Program) (budget most n : ℕ) → IsPast shown program budget n →
    n < most → n ≤ length (answers_of program budget) → Appends a b (done detail whole program budget n) → AppendsPrefix b c (said_text detail whole program (n + 1) (last_leaf shown)) → AppendsPrefix a c (full detail whole program budget most)
next_part a b c detail whole shown program budget most n past low within before part =
    part_at a b c detail whole program budget most n (slice_get (answers_of program budget) n) refl low within before (subst (AppendsPrefix b c) (said_leaf detail whole shown program budget n past) part)

whole_at : (a b c : Option (List ℕ)) (detail : Detail) (whole : Whole) (program : Program) (budget n : ℕ) (leaf : Option Leaf) → slice_get (answers_of program budget) n ≡ leaf → IsSome leaf →
    n ≤ length (answers_of program budget) → Appends a b (done detail whole program budget n) → Appends b c (leaf_text detail whole program n leaf) → (n + 1 ≤ length (answers_of program budget)) × Appends a c (done detail whole program budget (n + 1))
whole_at a b c detail whole program budget n None there some within before more = absurd (false≢true some)
whole_at a b c detail whole program budget n (Some leaf) there some within before more =
    let t = answer_text detail whole program (n + 1) leaf in
    (omega (arith, slice_get_within (answers_of program budget) n leaf there), subst (Appends a c) (sym (one_more detail whole program budget n leaf within there)) (Appends-trans a b c (done detail whole program budget n) t before more))

-- where the next answer is written whole, one answer more is
pub next_whole : (a b c : Option (List ℕ)) (detail : Detail) (whole : Whole) (shown : Shown) (program : Program) (budget n : ℕ) → IsPast shown program budget n → IsSome (last_leaf shown) →
    n ≤ length (answers_of program budget) → Appends a b (done detail whole program budget n) → Appends b c (said_text detail whole program (n + 1) (last_leaf shown)) → (n + 1 ≤ length (answers_of program budget)) × Appends a c (done detail whole program budget (n + 1))
next_whole a b c detail whole shown program budget n past some within before more =
    let same = leaf_of shown program budget n past in
    whole_at a b c detail whole program budget n (slice_get (answers_of program budget) n) refl (subst IsSome same some) within before (subst (Appends b c) (said_leaf detail whole shown program budget n past) more)

-- a search that answers something else has given all its leaves, and this is its end
no_answer : (program : Program) (budget n : ℕ) (next : Next) → next ≡ next_of program budget n → is_answer next ≡ false → (length (answers_of program budget) ≤ n) × (next ≡ end_of program budget)
no_answer program budget n next is other =
    let count = length (answers_of program budget) in
    ⊎_elim (λ (less : nat_lt n count ≡ true). let answer : next ≡ Answer = is ∙ ap (λ b. cond b Answer (end_of program budget)) less in absurd (false≢true (sym other ∙ ap is_answer answer)))
    (λ (more : nat_lt n count ≡ false). (ltb-false n count more, is ∙ ap (λ b. cond b Answer (end_of program budget)) more))
    (cases_Bool (nat_lt n count))

-- then the text is the answers so far and the end's line
pub at_end : (detail : Detail) (whole : Whole) (program : Program) (budget most n : ℕ) (next : Next) → next ≡ next_of program budget n → is_answer next ≡ false → n < most → n ≤ length (answers_of program budget) →
    (full detail whole program budget most ≡ done detail whole program budget n ++ end_line budget next) × (end_status next ≡ (search_report detail whole most budget program).status)
unfolding search_report
at_end detail whole program budget most n next is other low within =
    let leaves = answers_of program budget in
    let found = no_answer program budget n next is other in
    let short : length leaves < most = omega (arith, found.0) in
    let all : take most leaves ≡ take n leaves = take_all most leaves (omega arith) ∙ sym (take_all n leaves found.0) in
    let fewer : nat_le most (length leaves) ≡ false = lt-leb most (length leaves) short in (
      ap (λ ls. answers_text detail whole program 0 ls ++ last_line most budget (length leaves) (end_of program budget)) all
          ∙ ap (λ b. done detail whole program budget n ++ cond b (stopped_line most) (end_line budget (end_of program budget))) fewer
          ∙ ap (λ e. done detail whole program budget n ++ end_line budget e) (sym found.1),
      ap end_status found.1 ∙ sym (ap (λ b. cond b 0 (end_status (end_of program budget))) fewer),
    )

-- where the limit on answers is reached, the text is those and the line that says so
pub at_stop : (detail : Detail) (whole : Whole) (program : Program) (budget most n : ℕ) → most ≤ n → n ≤ most → n ≤ length (answers_of program budget) →
    (full detail whole program budget most ≡ done detail whole program budget n ++ stopped_line most) × ((let zero : ℕ = 0 in zero) ≡ (search_report detail whole most budget program).status)
unfolding search_report
at_stop detail whole program budget most n low high within =
    let leaves = answers_of program budget in
    let same : most ≡ n = omega arith in
    let enough : nat_le most (length leaves) ≡ true = le-leb most (length leaves) (omega arith) in (
      ap (λ k. answers_text detail whole program 0 (take k leaves) ++ last_line most budget (length leaves) (end_of program budget)) same
          ∙ ap (λ b. done detail whole program budget n ++ cond b (stopped_line most) (end_line budget (end_of program budget))) enough,
      sym (ap (λ b. cond b 0 (end_status (end_of program budget))) enough),
    )

-- an answer
pub answer_is : (next : Next) → is_answer next ≡ true → next ≡ Answer
answer_is Answer h = refl
answer_is Done h = absurd (false≢true h)
answer_is (Floundered line) h = absurd (false≢true h)
answer_is (OutOfRange line) h = absurd (false≢true h)
answer_is Spent h = absurd (false≢true h)

-- what a machine that gave so many answers tells next
pub told_next : (shown : Shown) (program : Program) (budget n : ℕ) (next : Next) → shown.program ≡ program → shown.budget ≡ budget → shown.given ≡ n → next ≡ next_answer shown → next ≡ next_of program budget n
told_next shown program budget n next p b g is =
    is ∙ ap (λ q. next_of q shown.budget shown.given) p ∙ ap (λ c. next_of program c shown.given) b ∙ ap (λ k. next_of program budget k) g

-- a machine that told another answer
pub past : (shown later : Shown) (program : Program) (budget n : ℕ) (next : Next) → shown.program ≡ program → shown.budget ≡ budget → shown.given ≡ n → next ≡ next_answer shown → later ≡ told shown → is_answer next ≡ true → IsPast later program budget n
past shown later program budget n next p b g is step answers =
    let answer : next_answer shown ≡ Answer = sym is ∙ answer_is next answers in
    record {
      program_ = ap (λ s. s.program) step ∙ p;
      budget_ = ap (λ s. s.budget) step ∙ b;
      given = ap (λ s. s.given) step ∙ ap (λ a. given_after a shown.given) answer ∙ ap (λ k. k + 1) g;
    }

-- what was written, and then a prefix of the last line
pub part_end : (a b c : Option (List ℕ)) (done last : List ℕ) → Appends a b done → AppendsPrefix b c last → AppendsPrefix a c (done ++ last)
part_end a b c done last before part = subst (AppendsPrefix a c) (ap (λ xs. done ++ xs) (append-nil last)) (part_more a b c done last [] before part)

end_done : (next : Next) → IsSearchStatus (end_status next)
end_done Answer = inl refl
end_done Done = inl refl
end_done (Floundered line) = inr (inr (inl refl))
end_done (OutOfRange line) = inr (inr (inr (inr refl)))
end_done Spent = inr (inr (inr (inl refl)))

-- the status of a search's report
search_done : (detail : Detail) (whole : Whole) (most budget : ℕ) (program : Program) → IsSearchStatus (search_report detail whole most budget program).status
unfolding search_report
search_done detail whole most budget program =
    let count = length (answers_of program budget) in
    let next = end_of program budget in
    ⊎_elim (λ (stop : nat_le most count ≡ true). subst IsSearchStatus (sym (ap (λ b. cond b 0 (end_status next)) stop)) (inl refl))
    (λ (end : nat_le most count ≡ false). subst IsSearchStatus (sym (ap (λ b. cond b 0 (end_status next)) end)) (end_done next))
    (cases_Bool (nat_le most count))

-- the status of a query's report
query_done : (bytes : List ℕ) (q : Question) (whole : Whole) (found : Result Program Refusal) → IsSearchStatus (query_report bytes q whole found).status
query_done bytes q whole (Ok program) = search_done q.detail whole q.most q.budget program
query_done bytes q whole (Err refusal) = inr (inl refl)

-- the status of a task's report
pub document_done : (bytes : List ℕ) (q : Question) (found : Result Whole Refusal) → IsSearchStatus (document_report bytes q found).status
document_done bytes q (Ok whole) = query_done bytes q whole (selected whole q.scenario q.query)
document_done bytes q (Err refusal) = inr (inl refl)

-- the status of a report of clauses
pub clauses_done : (found : Result Whole Refusal) → IsClausesStatus (clauses_report found).status
clauses_done (Ok whole) = inl refl
clauses_done (Err refusal) = inr refl

-- ---- what stands before the answers

-- where nothing stands there, nothing is written
pub nothing_more : (a : Option (List ℕ)) → Appends a a []
nothing_more None = tt
nothing_more (Some xs) = sym (append-nil xs)

-- a prefix of the front is one of the whole
pub part_front : (a b : Option (List ℕ)) (front rest : List ℕ) → AppendsPrefix a b front → AppendsPrefix a b (front ++ rest)
part_front a b front rest part = part_more a a b [] front rest (nothing_more a) part

-- a prefix of a document is one of the document with its last LF
pub ended_part : (a b : Option (List ℕ)) (bytes : List ℕ) → AppendsPrefix a b bytes → AppendsPrefix a b (ended bytes)
ended_part a b bytes part = by (is_ended bytes) a b bytes part
  where
    by : (yes : Bool) (a b : Option (List ℕ)) (bytes : List ℕ) → AppendsPrefix a b bytes → AppendsPrefix a b (cond yes bytes (bytes ++ (10 ∷ [])))
    by true a b bytes part = part
    by false a b bytes part = part_front a b bytes (10 ∷ []) part

-- where the last byte isn't an LF, one is written
pub ended_more : (a b c : Option (List ℕ)) (bytes : List ℕ) → is_ended bytes ≡ false → Appends a b bytes → AppendsPrefix b c (10 ∷ []) → AppendsPrefix a c (ended bytes)
ended_more a b c bytes unended written part =
    subst (AppendsPrefix a c) (ap (λ yes. cond yes bytes (bytes ++ (10 ∷ []))) (sym unended)) (part_end a b c bytes (10 ∷ []) written part)
