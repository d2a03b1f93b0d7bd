-- What a machine's turns keep.
use Rattle.std.specs.List.{AllByRecursion}
use Rattle.std.specs.Prelude.{Result, Ok, Err, IfOk, reverse, slice_get}
use Rattle.std.proofs.Common.{◌≡◌, ℕ, zero, suc, ◌+◌, ◌-◌, ◌*◌, ◌<◌, ◌≤◌, List, [], ◌∷◌, ◌++◌, map, get_or, take, drop, length, Some, refl, sym, ap, subst, ◌∙◌, mul-le-mul, le_refl, arith}
use Rattle.std.proofs.lemmas.List.{reverse-append, length-take}
use Rattle.le_subst.specs.Solution.{run, solve_of}
use Rattle.le_subst.specs.Unifiers.{Bindings, value_at}
use Rattle.le_terms.specs.Tree.{Tree}
use Rattle.le_terms.specs.Program.{predefined_arities}
use Rattle.le_terms.specs.declared.program.Form.{Form}
use Rattle.le_terms.specs.declared.program.Form.TheVariants.{Pos, Neg, Calc, Gather}
use Rattle.le_terms.specs.declared.program.Literal.{Literal}
use Rattle.le_proofs.specs.Goals.{Goal, form_under, literals_under, terms_under}
use Rattle.le_proofs.specs.Search.{goes_on, by_solution}
use Rattle.le_proofs.proofs.Alls.{all-both, all-left, all-right}
use Rattle.le_goals.specs.Shown.{Snapshot, goal_at}
use Rattle.le_cells.specs.declared.goals.OpenGoal.{OpenGoal}
use Rattle.le_cells.specs.declared.goals.Searches.{Searches}
use Rattle.le_cells.specs.declared.goals.Waiting.{Waiting}
use Rattle.le_cells.specs.Keeping.{put_at, goal_with, snapshot_at, IsComputable, AreComputable, IsReady, IsReadyAt, IsOpen, AreOpen, CanWait, CanWaitAll, AreReady, AreFalling, open_marks, waiting_marks, marks_of}
use Rattle.le_cells.specs.Turns.{opens_weight, waiting_weight}

-- computed literals stay so under a substitution
length-under : (by : ℕ → Tree) (trees : List Tree) → length (terms_under by trees) ≡ length trees
length-under by [] = refl
length-under by (t ∷ trees) = ap suc (length-under by trees)

form-computable : (by : ℕ → Tree) (form : Form) → IsComputable form → IsComputable (form_under by form)
form-computable by (Pos atom) h = tt
form-computable by (Neg atom) h = tt
form-computable by (Calc atom) h = (h.0, h.1 ∙ ap Some (sym (length-under by atom.args)))
form-computable by (Gather fold result value atom) h = tt

pub under-computable : (by : ℕ → Tree) (literals : List Literal) → AreComputable literals → AreComputable (literals_under by literals)
under-computable by [] h = tt
under-computable by (literal ∷ literals) h = (form-computable by literal.form h.0, under-computable by literals h.1)

take-computable : (n : ℕ) (literals : List Literal) → AreComputable literals → AreComputable (take n literals)
take-computable zero literals h = tt
take-computable (suc n) [] h = tt
take-computable (suc n) (literal ∷ literals) h = (h.0, take-computable n literals h.1)

drop-computable : (n : ℕ) (literals : List Literal) → AreComputable literals → AreComputable (drop n literals)
drop-computable zero literals h = h
drop-computable (suc n) [] h = tt
drop-computable (suc n) (literal ∷ literals) h = drop-computable n literals h.1

pub put-computable : (literals : List Literal) (place : ℕ) (new : List Literal) → AreComputable literals → AreComputable new → AreComputable (put_at literals place new)
put-computable literals place new h more =
    all-both (λ literal. IsComputable literal.form) (take place literals) (new ++ drop (place + 1) literals) (take-computable place literals h)
    (all-both (λ literal. IsComputable literal.form) new (drop (place + 1) literals) more (drop-computable (place + 1) literals h))

pub with-computable : (goal : Goal) (place next : ℕ) (new : List Literal) (bindings : Bindings) → AreComputable goal.literals → AreComputable new → AreComputable (goal_with goal place next new bindings).literals
with-computable goal place next new bindings h more = under-computable (value_at bindings) (put_at goal.literals place new) (put-computable goal.literals place new h more)

pub newest : {X : Type 0} (xs : List X) (x : X) → reverse (xs ++ x ∷ []) ≡ x ∷ reverse xs
newest xs x = reverse-append xs (x ∷ [])

-- a goal without a literal, under a unifier, is ready where it was
pub rest-ready : (left : ℕ) (goal rest : Goal) (place : ℕ) (bindings : Bindings) → rest ≡ goal_with goal place goal.next [] bindings → IsReady left goal → IsReady left rest
rest-ready left goal rest place bindings same ready =
    let next : rest.next ≡ goal.next = ap (λ (g : Goal). g.next) same in
    record {
      low = let low_ : goal.next + 64 * left ≤ 64000064 = ready.low in omega arith;
      computable = subst AreComputable (sym (ap (λ (g : Goal). g.literals) same)) (with-computable goal place goal.next [] bindings ready.computable tt);
    }

-- a place of some literals has that many literals before it
pub place-long : (literals : List Literal) (place : ℕ) → place < length literals → length (take place literals) ≡ place
place-long literals place inside = length-take place literals ∙ (omega (arith, inside))

pub ready-fewer : (left less : ℕ) (goal : Goal) → less ≤ left → IsReady left goal → IsReady less goal
ready-fewer left less goal fewer ready = record {
  low = let more : 64 * less ≤ 64 * left = mul-le-mul (le_refl 64) fewer in let low_ : goal.next + 64 * left ≤ 64000064 = ready.low in omega arith;
  computable = ready.computable;
}

pub ready-at-fewer : (left less : ℕ) (snapshot : Snapshot) (number : ℕ) → less ≤ left → IsReadyAt left snapshot number → IsReadyAt less snapshot number
ready-at-fewer left less snapshot number fewer h = record { there = h.there; next_ = h.next_; ready = ready-fewer left less (goal_at snapshot number) fewer h.ready }

pub open-fewer : (left less : ℕ) (snapshot : Snapshot) (number place : ℕ) → less ≤ left → IsOpen left snapshot number place → IsOpen less snapshot number place
open-fewer left less snapshot number place fewer h = record { ready = ready-at-fewer (suc left) (suc less) snapshot number (omega arith) h.ready; inside = h.inside }

pub opens-fewer : (left less : ℕ) (marks : List Snapshot) (opens : List OpenGoal) → less ≤ left → AreOpen left marks opens → AreOpen less marks opens
opens-fewer left less marks [] fewer h = tt
opens-fewer left less marks (kept ∷ opens) fewer h = (open-fewer left less (snapshot_at marks kept.mark) kept.goal kept.place fewer h.0, opens-fewer left less marks opens fewer h.1)

waiting-fewer : (left less : ℕ) (marks : List Snapshot) (around : List Waiting) → less ≤ left → CanWaitAll left marks around → CanWaitAll less marks around
waiting-fewer left less marks [] fewer h = tt
waiting-fewer left less marks (waiting ∷ around) fewer h = (
  record { goal = open-fewer left less (snapshot_at marks waiting.mark) waiting.goal waiting.place fewer h.0.goal; opens = opens-fewer left less marks waiting.search.opens.items fewer h.0.opens },
  waiting-fewer left less marks around fewer h.1,
)

pub all-fewer : (left less : ℕ) (marks : List Snapshot) (searches : Searches) → less ≤ left → AreReady left marks searches → AreReady less marks searches
all-fewer left less marks searches fewer h = record { marked = h.marked; opens = opens-fewer left less marks searches.inner.opens.items fewer h.opens; waiting = waiting-fewer left less marks searches.waiting.items fewer h.waiting }

-- of open goals and searches that wait, the newest last
pub opens-front : (left : ℕ) (marks : List Snapshot) (opens : List OpenGoal) (kept : OpenGoal) → AreOpen left marks (opens ++ kept ∷ []) → AreOpen left marks opens
opens-front left marks opens kept h = all-left (λ k. IsOpen left (snapshot_at marks k.mark) k.goal k.place) opens (kept ∷ []) h

pub opens-last : (left : ℕ) (marks : List Snapshot) (opens : List OpenGoal) (kept : OpenGoal) → AreOpen left marks (opens ++ kept ∷ []) → IsOpen left (snapshot_at marks kept.mark) kept.goal kept.place
opens-last left marks opens kept h = (all-right (λ k. IsOpen left (snapshot_at marks k.mark) k.goal k.place) opens (kept ∷ []) h).0

pub opens-both : (left : ℕ) (marks : List Snapshot) (opens : List OpenGoal) (kept : OpenGoal) → AreOpen left marks opens → IsOpen left (snapshot_at marks kept.mark) kept.goal kept.place → AreOpen left marks (opens ++ kept ∷ [])
opens-both left marks opens kept h last = all-both (λ k. IsOpen left (snapshot_at marks k.mark) k.goal k.place) opens (kept ∷ []) h (last, tt)

pub waiting-front : (left : ℕ) (marks : List Snapshot) (around : List Waiting) (waiting : Waiting) → CanWaitAll left marks (around ++ waiting ∷ []) → CanWaitAll left marks around
waiting-front left marks around waiting h = all-left (CanWait left marks) around (waiting ∷ []) h

pub waiting-last : (left : ℕ) (marks : List Snapshot) (around : List Waiting) (waiting : Waiting) → CanWaitAll left marks (around ++ waiting ∷ []) → CanWait left marks waiting
waiting-last left marks around waiting h = (all-right (CanWait left marks) around (waiting ∷ []) h).0

pub waiting-both : (left : ℕ) (marks : List Snapshot) (around : List Waiting) (waiting : Waiting) → CanWaitAll left marks around → CanWait left marks waiting → CanWaitAll left marks (around ++ waiting ∷ [])
waiting-both left marks around waiting h last = all-both (CanWait left marks) around (waiting ∷ []) h (last, tt)

-- ---- marks

-- two lists of marks show the same at these marks
abbrev pub SameAt : List Snapshot → List Snapshot → List ℕ → Type 0
SameAt marks marks' ns = AllByRecursion (λ n. snapshot_at marks' n ≡ snapshot_at marks n) ns

get-or-append : {X : Type 0} (xs more : List X) (n : ℕ) (d : X) → n < length xs → get_or (xs ++ more) n d ≡ get_or xs n d
get-or-append [] more n d less = absurd (omega (arith, less))
get-or-append (x ∷ xs) more zero d less = refl
get-or-append (x ∷ xs) more (suc n) d less = get-or-append xs more n d (omega (arith, less))

get-or-take : {X : Type 0} (xs : List X) (m n : ℕ) (d : X) → n < m → get_or (take m xs) n d ≡ get_or xs n d
get-or-take xs zero n d less = absurd (omega (arith, less))
get-or-take [] (suc m) n d less = refl
get-or-take (x ∷ xs) (suc m) zero d less = refl
get-or-take (x ∷ xs) (suc m) (suc n) d less = get-or-take xs m n d (omega (arith, less))

-- those before a mark are the same where later ones went, and where others came
pub snapshot-taken : (marks : List Snapshot) (m n : ℕ) → n < m → snapshot_at (take m marks) n ≡ snapshot_at marks n
snapshot-taken marks m n less = get-or-take marks m n (let none : Snapshot = record { next = 0; goals = [] } in none) less

pub snapshot-more : (marks more : List Snapshot) (n : ℕ) → n < length marks → snapshot_at (marks ++ more) n ≡ snapshot_at marks n
snapshot-more marks more n less = get-or-append marks more n (let none : Snapshot = record { next = 0; goals = [] } in none) less

pub same-by : (marks marks' : List Snapshot) (high : ℕ) (ns : List ℕ) → ((n : ℕ) → n < high → snapshot_at marks' n ≡ snapshot_at marks n) → AreFalling high ns → SameAt marks marks' ns
same-by marks marks' high [] same falling = tt
same-by marks marks' high (n ∷ ns) same falling = (same n falling.0, same-by marks marks' n ns (λ k low. same k (let below : n < high = falling.0 in omega (arith, low, below))) falling.1)

pub same-taken : (marks : List Snapshot) (m high : ℕ) (ns : List ℕ) → high ≤ m → AreFalling high ns → SameAt marks (take m marks) ns
same-taken marks m high ns fits falling = same-by marks (take m marks) high ns (λ n low. snapshot-taken marks m n (omega (arith, fits, low))) falling

pub same-more : (marks more : List Snapshot) (ns : List ℕ) → AreFalling (length marks) ns → SameAt marks (marks ++ more) ns
same-more marks more ns falling = same-by marks (marks ++ more) (length marks) ns (λ n low. snapshot-more marks more n low) falling

-- falling numbers fall below a higher one, and so do those after some
pub falling-higher : (high higher : ℕ) (ns : List ℕ) → high ≤ higher → AreFalling high ns → AreFalling higher ns
falling-higher high higher [] fits falling = tt
falling-higher high higher (n ∷ ns) fits falling = (let low : n < high = falling.0 in omega (arith, low, fits), falling.1)

pub falling-behind : (high : ℕ) (ns others : List ℕ) → AreFalling high (ns ++ others) → AreFalling high others
falling-behind high [] others falling = falling
falling-behind high (n ∷ ns) others falling = falling-higher n high others (let low : n < high = falling.0 in omega (arith, low)) (falling-behind n ns others falling.1)

-- the marks of open goals with one more, and with none
pub marks-newest : (opens : List OpenGoal) (kept : OpenGoal) (others : List ℕ) → open_marks (opens ++ kept ∷ []) others ≡ kept.mark ∷ open_marks opens others
marks-newest opens kept others = ap (λ (ks : List OpenGoal). map (λ (k : OpenGoal). k.mark) ks ++ others) (newest opens kept)

pub same-front : (marks marks' : List Snapshot) (ns others : List ℕ) → SameAt marks marks' (ns ++ others) → SameAt marks marks' ns
same-front marks marks' ns others h = all-left (λ n. snapshot_at marks' n ≡ snapshot_at marks n) ns others h

pub same-behind : (marks marks' : List Snapshot) (ns others : List ℕ) → SameAt marks marks' (ns ++ others) → SameAt marks marks' others
same-behind marks marks' ns others h = all-right (λ n. snapshot_at marks' n ≡ snapshot_at marks n) ns others h

pub weight-push : (clauses : ℕ) (opens : List OpenGoal) (kept : OpenGoal) → opens_weight clauses (opens ++ kept ∷ []) ≡ (2 * (clauses - kept.from) + 2) + opens_weight clauses opens
weight-push clauses [] kept = refl
weight-push clauses (first ∷ opens) kept = let rest : opens_weight clauses (opens ++ kept ∷ []) ≡ (2 * (clauses - kept.from) + 2) + opens_weight clauses opens = weight-push clauses opens kept in omega arith

pub waiting-push : (clauses : ℕ) (around : List Waiting) (waiting : Waiting) → waiting_weight clauses (around ++ waiting ∷ []) ≡ (2 + opens_weight clauses waiting.search.opens.items) + waiting_weight clauses around
waiting-push clauses [] waiting = refl
waiting-push clauses (first ∷ around) waiting = let rest : waiting_weight clauses (around ++ waiting ∷ []) ≡ (2 + opens_weight clauses waiting.search.opens.items) + waiting_weight clauses around = waiting-push clauses around waiting in omega arith

-- facts on Ok
pub ok-all : {X E : Type 0} (P Q : X → Type 0) → ((x : X) → P x → Q x) → (r : Result X E) → IfOk r P → IfOk r Q
ok-all P Q give (Ok x) h = give x h
ok-all P Q give (Err e) h = tt

pub ok-any : {X E : Type 0} (P : X → Type 0) → ((x : X) → P x) → (r : Result X E) → IfOk r P
ok-any P give (Ok x) = give x
ok-any P give (Err e) = tt

pub ok-both : {X E : Type 0} (P Q R : X → Type 0) → ((x : X) → P x → Q x → R x) → (r : Result X E) → IfOk r P → IfOk r Q → IfOk r R
ok-both P Q R give (Ok x) p q = give x p q
ok-both P Q R give (Err e) p q = tt

-- a computed literal that holds goes on without a unifier, as by no equations
pub by-none : by_solution (solve_of []) ≡ goes_on []
unfolding run
by-none = refl

-- a computed predicate has arguments
all-get : (ns : List ℕ) (i n : ℕ) → AllByRecursion (λ k. 0 < k) ns → slice_get ns i ≡ Some n → 0 < n
all-get [] i n all h = absurd (cc h)
all-get (k ∷ ns) zero n all h = let same : k ≡ n = cc h in let low : 0 < k = all.0 in omega arith
all-get (k ∷ ns) (suc i) n all h = all-get ns i n all.1 h

pub some-arguments : (pred n : ℕ) → slice_get predefined_arities pred ≡ Some n → 0 < n
some-arguments pred n h =
    let two : 0 < 2 = omega arith in
    let three : 0 < 3 = omega arith in
    all-get predefined_arities pred n
    (two, (two, (two, (two, (two, (two, (two, (two, (two, (two, (three, (three, (three, (three, (three, (three, (three, (two, (two, (three, tt)))))))))))))))))))) h
