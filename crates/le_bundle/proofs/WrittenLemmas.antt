-- The text of a bundle, read line by line.
use Rattle.std.proofs.Common.{◌≡◌, ℕ, zero, suc, ◌+◌, ◌^◌, ◌<◌, ◌≤◌, ◌==◌, ◌||◌, Bool, true, false, not, cond, nat_le, nat_lt, List, [], ◌∷◌, ◌++◌, length, drop, get_or, slice_index, Option, None, Some, IfSome, is_some, Result, Ok, pos, ⊎_elim, codes, decimal, refl, ap, sym, ◌∙◌, subst, arith, append_assoc}
use Rattle.std.proofs.lemmas.Bool.{cases_Bool, and_parts, and_from, or_left, or_right, ltb-true, le-leb, ne_eqb, eqb-true, false_from_ne_true}
use Rattle.std.proofs.lemmas.Fmt.{IsAscii-decimal, first_decimal, decimal_digit}
use Rattle.std.proofs.lemmas.Int.{ints}
use Rattle.std.proofs.lemmas.List.Folds.{list_all-append}
use Rattle.std.proofs.lemmas.Str.{IsUtf8-from_ascii, is_utf8-from_IsUtf8}
use Rattle.std.specs.List.{AllByRecursion, list_all, starts_with}
use Rattle.std.specs.Str.{bytes_eq, is_utf8}
use Rattle.le_values.specs.Numbers.{number_of}
use Rattle.le_values.proofs.NumberLemmas.{written}
use Rattle.le_proofs.specs.declared.derivation.Derivation.{Derivation}
use Rattle.le_proofs.specs.declared.next.Next.{Next}
use Rattle.le_proofs.specs.declared.next.Next.TheVariants.{Answer, Done, Floundered, OutOfRange, Spent}
use Rattle.le_proofs.specs.declared.node.Node.{Node}
use Rattle.le_prooftext.specs.declared.word.Word.{Word}
use Rattle.le_prooftext.specs.Lines.{node_words, words_line, node_line, nodes_text, count_line, derivation_text, IsSpellable, AreSpellable}
use Rattle.le_prooftext.specs.Reading.{count_of, node_of}
use Rattle.le_prooftext.specs.Words.{word_text, IsWord}
use Rattle.le_prooftext.proofs.Counts.{count_of-line}
use Rattle.le_prooftext.proofs.NodeLemmas.{node_of-line}
use Rattle.le_prooftext.proofs.Numbers.{bytes_same, same_bytes}
use Rattle.le_prooftext.proofs.WordLemmas.{are_dark, dark-word, dark-decimal}
use Rattle.le_bundle.specs.Bundle.{Bundle, Parted, Asked, name_in, number_in, is_numbered, is_at_line, is_ending, ending_in, begins, is_next, marker, with_line, parted, scenario_read, with_node, nodes_read, derivation_read, with_derivation, answers_read, answer_words, at_end, ending_read, asked_read, bundle_with, bundle_after, bundle_of}
use Rattle.le_bundle.specs.Endings.{end_words, stopped_words}
use Rattle.le_bundle.specs.Head.{scenario_line, head_lines}
use Rattle.le_bundle.specs.Lines.{Line, whole, cut, with_byte, lines_of, Read, then_read, next_line}
use Rattle.le_bundle.specs.Numbers.{from_one, count_up_to, number_up_to, is_line_number}
use Rattle.le_bundle.specs.Written.{answers_lines, bundle_text, is_line, IsName, AreUnmarked, IsEnd, IsEnding, IsBundle}
use Rattle.le_bundle.proofs.LineLemmas.{next_some}
use Rattle.le_bundle.proofs.ReadLemmas.{utf8_name}

-- ---- bytes without an LF

not_true : (b : Bool) → not b ≡ true → b ≡ false
not_true false h = refl
not_true true h = sym h

line_append : (xs ys : List ℕ) → is_line xs ≡ true → is_line ys ≡ true → is_line (xs ++ ys) ≡ true
line_append xs ys h k = list_all-append (λ b. not (b == 10)) xs ys ∙ and_from _ _ h k

line_dark : (bytes : List ℕ) → are_dark bytes ≡ true → is_line bytes ≡ true
line_dark [] h = refl
line_dark (b ∷ bytes) h =
    let parts = and_parts (nat_lt 32 b) (are_dark bytes) h in
    let above : 32 < b = ltb-true 32 b parts.0 in
    let other : not (b == 10) ≡ true = ap not (ne_eqb b 10 (λ (e : b ≡ 10). absurd (omega arith))) in
    and_from (not (b == 10)) (is_line bytes) other (line_dark bytes parts.1)

line_decimal : (n : ℕ) → n < 2 ^ 64 → is_line (decimal n) ≡ true
line_decimal n h = line_dark (decimal n) (dark-decimal n h)

line_words : (ws : List Word) → AllByRecursion IsWord ws → is_line (words_line ws) ≡ true
line_words [] h = refl
line_words (w ∷ []) h = line_dark (word_text w) (dark-word w h.0)
line_words (w ∷ v ∷ vs) h = line_append (word_text w) (32 ∷ words_line (v ∷ vs)) (line_dark (word_text w) (dark-word w h.0)) (line_words (v ∷ vs) h.1)

line_node : (node : Node) → IsSpellable node → is_line (node_line node) ≡ true
line_node node h = line_words (node_words node) h

-- ---- the first line

-- a line, and what follows it
pub line_first : (line rest : List ℕ) → is_line line ≡ true → lines_of (line ++ (10 ∷ rest)) ≡ whole line ∷ lines_of rest
line_first [] rest h = refl
line_first (b ∷ bytes) rest h =
    let parts = and_parts (not (b == 10)) (is_line bytes) h in
    let other : (b == 10) ≡ false = not_true (b == 10) parts.0 in
    ap (λ t. cond t (whole [] ∷ lines_of (bytes ++ (10 ∷ rest))) (with_byte b (lines_of (bytes ++ (10 ∷ rest))))) other
    ∙ ap (with_byte b) (line_first bytes rest parts.1)

next_written : {X : Type 0} (says : List ℕ → Option X) (n : ℕ) (line rest : List ℕ) (x : X) → is_line line ≡ true → says line ≡ Some x →
    next_line says n (lines_of (line ++ (10 ∷ rest))) ≡ Ok (record { value = x; number = n + 1; lines = lines_of rest })
next_written says n line rest x h some = next_some says n (n + 1) (line ++ (10 ∷ rest)) line rest x (line_first line rest h) refl some

-- what is read is this value, and these lines are left
abbrev pub Leaves : {X : Type 0} → Result (Read X) ℕ → X → List Line → Type 0
Leaves r x lines = (m : ℕ) × (r ≡ Ok (record { value = x; number = m; lines = lines }))

-- ---- nodes and derivations

abbrev node_then : ℕ → Node → ℕ → List Line → Result (Read (List Node)) ℕ
node_then k node m rest = with_node node (nodes_read k m rest)

nodes_written : (nodes : List Node) (n : ℕ) (rest : List ℕ) → AllByRecursion IsSpellable nodes → Leaves (nodes_read (length nodes) n (lines_of (nodes_text nodes ++ rest))) nodes (lines_of rest)
nodes_written [] n rest h = (n, refl)
nodes_written (node ∷ nodes) n rest h =
    let more = nodes_written nodes (n + 1) rest h.1 in
    let text = append_assoc (node_line node) (10 ∷ nodes_text nodes) rest in
    let first = next_written node_of n (node_line node) (nodes_text nodes ++ rest) node (line_node node h.0) (node_of-line node h.0) in
    (more.0, ap (λ t. then_read (next_line node_of n (lines_of t)) (node_then (length nodes))) text ∙ ap (λ r. then_read r (node_then (length nodes))) first ∙ ap (with_node node) more.1)

line_count : (n : ℕ) → n < 2 ^ 64 → is_line (count_line n) ≡ true
line_count n h = line_decimal n h

derivation_written : (nodes : List Node) (n : ℕ) (rest : List ℕ) → AreSpellable nodes → Leaves (derivation_read n (lines_of (derivation_text nodes ++ rest))) nodes (lines_of rest)
unfolding derivation_read
derivation_written nodes n rest h =
    let more = nodes_written nodes (n + 1) rest h.1 in
    let count = length nodes in
    let text = append_assoc (count_line count) (10 ∷ nodes_text nodes) rest in
    let first = next_written count_of n (count_line count) (nodes_text nodes ++ rest) count (line_count count h.0) (count_of-line count h.0) in
    (more.0, ap (λ t. then_read (next_line count_of n (lines_of t)) nodes_read) text ∙ ap (λ r. then_read r nodes_read) first ∙ more.1)

-- ---- answers

abbrev derivation_then : ℕ → ℕ → List Node → ℕ → List Line → Result (Read (List Derivation)) ℕ
derivation_then left k nodes m rest = with_derivation nodes (answers_read left (k + 1) m rest)

abbrev answer_by : Bool → ℕ → ℕ → ℕ → List Line → Result (Read (List Derivation)) ℕ
answer_by b left k n lines = cond b (then_read (derivation_read (n + 1) (drop 1 lines)) (derivation_then left k)) (Ok (record { value = []; number = n; lines = lines }))

line_answer : (k : ℕ) → k < 2 ^ 64 → is_line (answer_words k) ≡ true
line_answer k h = line_decimal k h

-- the lines of answers are read, and then lines that are no answer's
answers_written : (ds : List Derivation) (left k n : ℕ) (rest : List ℕ) → length ds ≤ left → k + left < 2 ^ 64 → AllByRecursion (λ d. AreSpellable d.nodes) ds → ((j : ℕ) → is_next (answer_words j) (lines_of rest) ≡ false) →
    Leaves (answers_read left k n (lines_of (answers_lines k ds ++ rest))) ds (lines_of rest)
answers_written [] zero k n rest few low h other = (n, refl)
answers_written [] (suc left) k n rest few low h other = (n, ap (λ b. answer_by b left k n (lines_of rest)) (other k))
answers_written (d ∷ ds) zero k n rest few low h other = absurd (omega (arith, few))
answers_written (d ∷ ds) (suc left) k n rest few low h other =
    let behind = answers_lines (k + 1) ds ++ rest in
    let text = append_assoc (answer_words k) (10 ∷ (derivation_text d.nodes ++ answers_lines (k + 1) ds)) rest ∙ ap (λ t. answer_words k ++ (10 ∷ t)) (append_assoc (derivation_text d.nodes) (answers_lines (k + 1) ds) rest) in
    let cut_off = ap lines_of text ∙ line_first (answer_words k) (derivation_text d.nodes ++ behind) (line_answer k (omega (arith, low))) in
    let first = derivation_written d.nodes (n + 1) behind h.0 in
    let more = answers_written ds left (k + 1) first.0 rest (omega (arith, few)) (omega (arith, low)) h.1 other in (
      more.0,
      ap (λ ls. answer_by (is_next (answer_words k) ls) left k n ls) cut_off
          ∙ ap (λ b. answer_by b left k n (whole (answer_words k) ∷ lines_of (derivation_text d.nodes ++ behind))) (bytes_same (answer_words k) (answer_words k) refl)
          ∙ ap (λ r. then_read r (derivation_then left k)) first.1
          ∙ ap (with_derivation d.nodes) more.1,
    )

-- ---- numbers

count_written : (most n : ℕ) → 1 ≤ n → n ≤ most → n < 2 ^ 33 → count_up_to most (decimal n) ≡ Some n
unfolding count_up_to
count_written most n low high small =
    let lead : 48 < get_or (decimal n) 0 0 = first_decimal n (omega arith) (omega arith) in
    let other : (slice_index (decimal n) 0 == 48) ≡ false = ne_eqb (slice_index (decimal n) 0) 48 (λ (e : get_or (decimal n) 0 0 ≡ 48). absurd (omega (arith, lead, e))) in
    let value : number_of (decimal n) ≡ Some (pos n) = written (pos n) (omega (arith, ints), omega (arith, ints)) in
    ap (λ b. cond b None (from_one most (number_of (decimal n)))) other
    ∙ ap (from_one most) value
    ∙ ap (λ b. cond b (Some n) None) (and_from (nat_le 1 n) (nat_le n most) (le-leb 1 n low) (le-leb n most high))

number_written : (most n : ℕ) → 1 ≤ n → n ≤ most → n < 2 ^ 33 → number_up_to most (decimal n) ≡ Some n
unfolding number_up_to
number_written most n low high small =
    ap (λ b. cond b (count_up_to most (decimal n)) None) (is_utf8-from_IsUtf8 (decimal n) (IsUtf8-from_ascii (decimal n) (IsAscii-decimal n (omega arith))))
    ∙ count_written most n low high small

-- the number of a line
line_number_written : (n : ℕ) → n ≤ 4294967295 → is_line_number (decimal n) ≡ true
unfolding is_line_number
line_number_written zero h = or_left (bytes_eq (decimal 0) (codes "0")) (is_some (number_up_to 4294967295 (decimal 0))) (bytes_same (decimal 0) (codes "0") (decimal_digit 0 (omega arith)))
line_number_written (suc n) h =
    or_right (bytes_eq (decimal (suc n)) (codes "0")) (is_some (number_up_to 4294967295 (decimal (suc n))))
    (ap is_some (number_written 4294967295 (suc n) (omega arith) h (omega (arith, h))))

-- ---- names and limits

query_written : (name : List ℕ) → IsName name → name_in (codes "query ") (codes "query " ++ name) ≡ Some name
unfolding name_in
query_written name is = sym (utf8_name name name is.some refl is.text)

scenario_written : (name : List ℕ) → IsName name → name_in (codes "scenario ") (codes "scenario " ++ name) ≡ Some name
unfolding name_in
scenario_written name is = sym (utf8_name name name is.some refl is.text)

budget_written : (n : ℕ) → 1 ≤ n → n ≤ 1000000 → number_in (codes "budget ") 1000000 (codes "budget " ++ decimal n) ≡ Some n
unfolding number_in
budget_written n low high = number_written 1000000 n low high (omega (arith, high))

most_written : (n : ℕ) → 1 ≤ n → n ≤ 1000 → number_in (codes "answers ") 1000 (codes "answers " ++ decimal n) ≡ Some n
unfolding number_in
most_written n low high = number_written 1000 n low high (omega (arith, high))

-- the scenario's line where there is one, before that of the budget
scenario_lines : (scenario : Option (List ℕ)) (budget n : ℕ) (rest : List ℕ) → IfSome scenario IsName → budget < 2 ^ 64 →
    Leaves (scenario_read n (lines_of (scenario_line scenario ++ ((codes "budget " ++ decimal budget) ++ (10 ∷ rest))))) scenario (lines_of ((codes "budget " ++ decimal budget) ++ (10 ∷ rest)))
unfolding scenario_read
scenario_lines None budget n rest is small =
    let here : List ℕ = (codes "budget " ++ decimal budget) ++ (10 ∷ rest) in
    let other : begins (codes "scenario ") (lines_of here) ≡ false = ap (begins (codes "scenario ")) (line_first (codes "budget " ++ decimal budget) rest (line_decimal budget small)) in
    (n, ap (λ b. cond b (next_line (λ line. Rattle.std.specs.Option.option_map Some (name_in (codes "scenario ") line)) n (lines_of here)) (Ok (record { value = None; number = n; lines = lines_of here }))) other)
scenario_lines (Some name) budget n rest is small =
    let behind : List ℕ = (codes "budget " ++ decimal budget) ++ (10 ∷ rest) in
    let says : List ℕ → Option (Option (List ℕ)) = λ line. Rattle.std.specs.Option.option_map Some (name_in (codes "scenario ") line) in
    let line : List ℕ = codes "scenario " ++ name in
    let text : scenario_line (Some name) ++ behind ≡ line ++ (10 ∷ behind) = ap (λ t. codes "scenario " ++ t) (append_assoc name (10 ∷ []) behind) in
    let here : begins (codes "scenario ") (lines_of (scenario_line (Some name) ++ behind)) ≡ true = ap (λ t. begins (codes "scenario ") (lines_of t)) text ∙ ap (begins (codes "scenario ")) (line_first line behind is.line) in
    let read = next_written says n line behind (Some name) is.line (ap (λ o. Rattle.std.specs.Option.option_map Some o) (scenario_written name is)) in (
      n + 1,
      ap (λ b. cond b (next_line says n (lines_of (scenario_line (Some name) ++ behind))) (Ok (record { value = None; number = n; lines = lines_of (scenario_line (Some name) ++ behind) }))) here
          ∙ ap (λ t. next_line says n (lines_of t)) text
          ∙ read,
    )

-- the lines of the head one after another
head_split : (query : List ℕ) (scenario : Option (List ℕ)) (budget most : ℕ) (rest : List ℕ) →
    head_lines query scenario budget most ++ rest
    ≡ marker ++ (10 ∷ ((codes "query " ++ query) ++ (10 ∷ (scenario_line scenario ++ ((codes "budget " ++ decimal budget) ++ (10 ∷ ((codes "answers " ++ decimal most) ++ (10 ∷ rest))))))))
unfolding head_lines
head_split query scenario budget most rest =
    let z : List ℕ = codes "\nanswers " ++ (decimal most ++ codes "\n") in
    let y : List ℕ = codes "budget " ++ (decimal budget ++ z) in
    let x : List ℕ = codes "\n" ++ (scenario_line scenario ++ y) in
    let z_is : z ++ rest ≡ codes "\nanswers " ++ (decimal most ++ (10 ∷ rest)) = ap (λ t. codes "\nanswers " ++ t) (append_assoc (decimal most) (10 ∷ []) rest) in
    let y_is : y ++ rest ≡ codes "budget " ++ (decimal budget ++ (codes "\nanswers " ++ (decimal most ++ (10 ∷ rest)))) = ap (λ t. codes "budget " ++ t) (append_assoc (decimal budget) z rest ∙ ap (λ t. decimal budget ++ t) z_is) in
    let x_is : x ++ rest ≡ codes "\n" ++ (scenario_line scenario ++ (codes "budget " ++ (decimal budget ++ (codes "\nanswers " ++ (decimal most ++ (10 ∷ rest)))))) =
    ap (λ t. codes "\n" ++ t) (append_assoc (scenario_line scenario) y rest ∙ ap (λ t. scenario_line scenario ++ t) y_is) in
    ap (λ t. codes "=== certificates ===\nquery " ++ t) (append_assoc query x rest ∙ ap (λ t. query ++ t) x_is)

abbrev asked_by : List ℕ → Option (List ℕ) → ℕ → ℕ → Asked
asked_by query scenario budget most = record { query = query; scenario = scenario; budget = budget; most = most }

-- what is asked, by its lines
asked_written : (query : List ℕ) (scenario : Option (List ℕ)) (budget most n : ℕ) (rest : List ℕ) → IsName query → IfSome scenario IsName → (1 ≤ budget) × (budget ≤ 1000000) → (1 ≤ most) × (most ≤ 1000) →
    Leaves (asked_read n (lines_of ((codes "query " ++ query) ++ (10 ∷ (scenario_line scenario ++ ((codes "budget " ++ decimal budget) ++ (10 ∷ ((codes "answers " ++ decimal most) ++ (10 ∷ rest)))))))))
    (asked_by query scenario budget most) (lines_of rest)
unfolding asked_read
asked_written query scenario budget most n rest named under limited asked =
    let rest3 : List ℕ = (codes "answers " ++ decimal most) ++ (10 ∷ rest) in
    let rest2 : List ℕ = (codes "budget " ++ decimal budget) ++ (10 ∷ rest3) in
    let rest1 : List ℕ = scenario_line scenario ++ rest2 in
    let small : budget < 2 ^ 64 = omega (arith, limited.1) in
    let short : most < 2 ^ 64 = omega (arith, asked.1) in
    let first = next_written (name_in (codes "query ")) n (codes "query " ++ query) rest1 query named.line (query_written query named) in
    let second = scenario_lines scenario budget (n + 1) rest3 under small in
    let third = next_written (number_in (codes "budget ") 1000000) second.0 (codes "budget " ++ decimal budget) rest3 budget (line_decimal budget small) (budget_written budget limited.0 limited.1) in
    let fourth = next_written (number_in (codes "answers ") 1000) (second.0 + 1) (codes "answers " ++ decimal most) rest most (line_decimal most short) (most_written most asked.0 asked.1) in
    let done : List ℕ → Option (List ℕ) → ℕ → ℕ → ℕ → List Line → Result (Read Asked) ℕ = λ q s b m n4 lines4. Ok (record { value = asked_by q s b m; number = n4; lines = lines4 }) in
    let after_budget : List ℕ → Option (List ℕ) → ℕ → ℕ → List Line → Result (Read Asked) ℕ = λ q s b n3 lines3. then_read (next_line (number_in (codes "answers ") 1000) n3 lines3) (done q s b) in
    let after_scenario : List ℕ → Option (List ℕ) → ℕ → List Line → Result (Read Asked) ℕ = λ q s n2 lines2. then_read (next_line (number_in (codes "budget ") 1000000) n2 lines2) (after_budget q s) in
    let after_query : List ℕ → ℕ → List Line → Result (Read Asked) ℕ = λ q n1 lines1. then_read (scenario_read n1 lines1) (after_scenario q) in (
      second.0 + 1 + 1,
      ap (λ r. then_read r after_query) first
          ∙ ap (λ r. then_read r (after_scenario query)) second.1
          ∙ ap (λ r. then_read r (after_budget query scenario)) third
          ∙ ap (λ r. then_read r (done query scenario budget)) fourth,
    )

-- ---- the document part

-- each line has its LF
abbrev AreWhole : List Line → Type 0
AreWhole [] = Unit {0}
AreWhole (whole line ∷ lines) = AreWhole lines
AreWhole (cut line ∷ lines) = ⊥

are_whole : (lines : List Line) → AreUnmarked lines → AreWhole lines
are_whole [] is = tt
are_whole (whole line ∷ lines) is = are_whole lines is.1
are_whole (cut line ∷ lines) is = absurd is

-- the lines of two texts, where those of the first are whole
with_append : (b : ℕ) (bytes more : List ℕ) (lines : List Line) → lines_of bytes ≡ lines → AreWhole (with_byte b lines) → (AreWhole (lines_of bytes) → lines_of (bytes ++ more) ≡ lines_of bytes ++ lines_of more) →
    with_byte b (lines_of (bytes ++ more)) ≡ with_byte b lines ++ lines_of more
with_append b bytes more [] e is others = absurd is
with_append b bytes more (cut line ∷ lines) e is others = absurd is
with_append b bytes more (whole line ∷ lines) e is others =
    let kept : AreWhole (lines_of bytes) = subst AreWhole (sym e) is in
    ap (with_byte b) (others kept ∙ ap (λ ls. ls ++ lines_of more) e)

lines_append : (text more : List ℕ) → AreWhole (lines_of text) → lines_of (text ++ more) ≡ lines_of text ++ lines_of more
lines_append [] more is = refl
lines_append (b ∷ bytes) more is =
    ⊎_elim (λ (here : (b == 10) ≡ true).
    let same = ap (λ t. cond t (whole [] ∷ lines_of bytes) (with_byte b (lines_of bytes))) here in
    let kept : AreWhole (whole [] ∷ lines_of bytes) = subst AreWhole same is in
    ap (λ t. cond t (whole [] ∷ lines_of (bytes ++ more)) (with_byte b (lines_of (bytes ++ more)))) here
    ∙ ap (λ ls. whole [] ∷ ls) (lines_append bytes more kept)
    ∙ ap (λ ls. ls ++ lines_of more) (sym same))
    (λ (other : (b == 10) ≡ false).
    let same = ap (λ t. cond t (whole [] ∷ lines_of bytes) (with_byte b (lines_of bytes))) other in
    ap (λ t. cond t (whole [] ∷ lines_of (bytes ++ more)) (with_byte b (lines_of (bytes ++ more)))) other
    ∙ with_append b bytes more (lines_of bytes) refl (subst AreWhole same is) (lines_append bytes more)
    ∙ ap (λ ls. ls ++ lines_of more) (sym same))
    (cases_Bool (b == 10))

-- the text of lines
abbrev lines_text : List Line → List ℕ
lines_text [] = []
lines_text (whole line ∷ lines) = line ++ (10 ∷ lines_text lines)
lines_text (cut line ∷ lines) = line ++ lines_text lines

text_with : (b : ℕ) (lines : List Line) → lines_text (with_byte b lines) ≡ b ∷ lines_text lines
text_with b [] = refl
text_with b (whole line ∷ lines) = refl
text_with b (cut line ∷ lines) = refl

text_of_lines : (text : List ℕ) → lines_text (lines_of text) ≡ text
text_of_lines [] = refl
text_of_lines (b ∷ bytes) =
    ⊎_elim (λ (here : (b == 10) ≡ true).
    ap (λ t. lines_text (cond t (whole [] ∷ lines_of bytes) (with_byte b (lines_of bytes)))) here
    ∙ ap (λ xs. 10 ∷ xs) (text_of_lines bytes)
    ∙ ap (λ x. x ∷ bytes) (sym (eqb-true b 10 here)))
    (λ (other : (b == 10) ≡ false).
    ap (λ t. lines_text (cond t (whole [] ∷ lines_of bytes) (with_byte b (lines_of bytes)))) other
    ∙ text_with b (lines_of bytes)
    ∙ ap (λ xs. b ∷ xs) (text_of_lines bytes))
    (cases_Bool (b == 10))

-- a document part is read up to the marker
abbrev pub Parts : Result Parted ℕ → List ℕ → List Line → Type 0
Parts r document lines = (m : ℕ) × (r ≡ Ok (record { document = document; number = m; lines = lines }))

parted_lines : (front : List Line) (n : ℕ) (rest : List Line) → AreUnmarked front → Parts (parted n (front ++ (whole marker ∷ rest))) (lines_text front) rest
parted_lines [] n rest is = (n + 1, refl)
parted_lines (cut line ∷ front) n rest is = absurd is
parted_lines (whole line ∷ front) n rest is =
    let other : bytes_eq line marker ≡ false = false_from_ne_true (bytes_eq line marker) (λ h. is.0 (same_bytes line marker h)) in
    let more = parted_lines front (n + 1) rest is.1 in
    let all : List Line = front ++ (whole marker ∷ rest) in
    (more.0, ap (λ b. cond b (Ok (record { document = []; number = n + 1; lines = all })) (with_line line (parted (n + 1) all))) other ∙ ap (with_line line) more.1)

document_written : (document rest : List ℕ) (n : ℕ) → AreUnmarked (lines_of document) → Parts (parted n (lines_of (document ++ (marker ++ (10 ∷ rest))))) document (lines_of rest)
document_written document rest n is =
    let lines = lines_append document (marker ++ (10 ∷ rest)) (are_whole (lines_of document) is) ∙ ap (λ ls. lines_of document ++ ls) (line_first marker rest refl) in
    let found = parted_lines (lines_of document) n (lines_of rest) is in
    (found.0, ap (parted n) lines ∙ found.1 ∙ ap (λ d. Ok (record { document = d; number = found.0; lines = lines_of rest })) (text_of_lines document))

-- ---- the last line

ending_cases : (P : List ℕ → Type 0) (budget most : ℕ) → P (stopped_words most) → ((next : Next) → IsEnd next → P (end_words budget next)) → (ending : List ℕ) → IsEnding budget most ending → P ending
ending_cases P budget most stopped ended ending is = ⊎_elim (λ e. subst P (sym e) stopped) (λ n. subst P (sym n.2) (ended n.0 n.1)) is

-- it is a line
line_ended : (budget : ℕ) (next : Next) → budget ≤ 1000000 → IsEnd next → is_line (end_words budget next) ≡ true
line_ended budget Answer few is = absurd is
line_ended budget Done few is = refl
line_ended budget (Floundered line) few is = line_decimal line (omega (arith, is))
line_ended budget (OutOfRange line) few is = line_decimal line (omega (arith, is))
line_ended budget Spent few is = line_append (decimal budget) (codes " selections") (line_decimal budget (omega (arith, few))) refl

line_ending : (budget most : ℕ) (ending : List ℕ) → budget ≤ 1000000 → most ≤ 1000 → IsEnding budget most ending → is_line ending ≡ true
line_ending budget most ending few short is =
    ending_cases (λ t. is_line t ≡ true) budget most (line_append (decimal most) (codes " answers") (line_decimal most (omega (arith, short))) refl) (λ next ends. line_ended budget next few ends) ending is

-- it is no line of an answer
ended_other : (budget j : ℕ) (next : Next) → IsEnd next → bytes_eq (end_words budget next) (answer_words j) ≡ false
ended_other budget j Answer is = absurd is
ended_other budget j Done is = refl
ended_other budget j (Floundered line) is = refl
ended_other budget j (OutOfRange line) is = refl
ended_other budget j Spent is = refl

ending_other : (budget most j : ℕ) (ending : List ℕ) → IsEnding budget most ending → bytes_eq ending (answer_words j) ≡ false
ending_other budget most j ending is = ending_cases (λ t. bytes_eq t (answer_words j) ≡ false) budget most refl (λ next ends. ended_other budget j next ends) ending is

-- it says how the search ended
at_floundered : (line : ℕ) → line ≤ 4294967295 → is_numbered (codes "floundered at line ") (codes "floundered at line " ++ decimal line) ≡ true
unfolding is_numbered
at_floundered line h = line_number_written line h

at_range : (line : ℕ) → line ≤ 4294967295 → is_numbered (codes "out of range at line ") (codes "out of range at line " ++ decimal line) ≡ true
unfolding is_numbered
at_range line h = line_number_written line h

at_line : (line : List ℕ) → (is_numbered (codes "floundered at line ") line || is_numbered (codes "out of range at line ") line) ≡ true → is_at_line line ≡ true
unfolding is_at_line
at_line line h = h

says_end : (budget most : ℕ) (line : List ℕ) → ((bytes_eq line (end_words budget Done) || (bytes_eq line (stopped_words most) || bytes_eq line (end_words budget Spent))) || is_at_line line) ≡ true → is_ending budget most line ≡ true
unfolding is_ending
says_end budget most line h = h

says_stopped : (budget most : ℕ) → is_ending budget most (stopped_words most) ≡ true
says_stopped budget most =
    let line = stopped_words most in
    let a = bytes_eq line (end_words budget Done) in
    let b = bytes_eq line (stopped_words most) in
    let c = bytes_eq line (end_words budget Spent) in
    says_end budget most line (or_left (a || (b || c)) (is_at_line line) (or_right a (b || c) (or_left b c (bytes_same line line refl))))

says_ended : (budget most : ℕ) (next : Next) → IsEnd next → is_ending budget most (end_words budget next) ≡ true
says_ended budget most Answer is = absurd is
says_ended budget most Done is =
    let line = end_words budget Done in
    let a = bytes_eq line (end_words budget Done) in
    let b = bytes_eq line (stopped_words most) in
    let c = bytes_eq line (end_words budget Spent) in
    says_end budget most line (or_left (a || (b || c)) (is_at_line line) (or_left a (b || c) (bytes_same line line refl)))
says_ended budget most Spent is =
    let line = end_words budget Spent in
    let a = bytes_eq line (end_words budget Done) in
    let b = bytes_eq line (stopped_words most) in
    let c = bytes_eq line (end_words budget Spent) in
    says_end budget most line (or_left (a || (b || c)) (is_at_line line) (or_right a (b || c) (or_right b c (bytes_same line line refl))))
says_ended budget most (Floundered n) is =
    let line = end_words budget (Floundered n) in
    let a = bytes_eq line (end_words budget Done) in
    let b = bytes_eq line (stopped_words most) in
    let c = bytes_eq line (end_words budget Spent) in
    says_end budget most line (or_right (a || (b || c)) (is_at_line line) (at_line line (or_left (is_numbered (codes "floundered at line ") line) (is_numbered (codes "out of range at line ") line) (at_floundered n is))))
says_ended budget most (OutOfRange n) is =
    let line = end_words budget (OutOfRange n) in
    let a = bytes_eq line (end_words budget Done) in
    let b = bytes_eq line (stopped_words most) in
    let c = bytes_eq line (end_words budget Spent) in
    says_end budget most line (or_right (a || (b || c)) (is_at_line line) (at_line line (or_right (is_numbered (codes "floundered at line ") line) (is_numbered (codes "out of range at line ") line) (at_range n is))))

says_ending : (budget most : ℕ) (ending : List ℕ) → IsEnding budget most ending → is_ending budget most ending ≡ true
says_ending budget most ending is = ending_cases (λ t. is_ending budget most t ≡ true) budget most (says_stopped budget most) (λ next ends. says_ended budget most next ends) ending is

ending_written : (budget most n : ℕ) (ending : List ℕ) → is_line ending ≡ true → is_ending budget most ending ≡ true → ending_read budget most n (lines_of (ending ++ (10 ∷ []))) ≡ Ok ending
unfolding ending_read
ending_written budget most n ending line says =
    ap (λ r. then_read r at_end) (next_written (ending_in budget most) n ending [] ending line (ap (λ b. cond b (Some ending) None) says))

-- ---- the bundle

abbrev after_answers : List ℕ → Asked → List Derivation → ℕ → List Line → Result Bundle ℕ
after_answers document asked derivations n lines = bundle_with document asked derivations (ending_read asked.budget asked.most n lines)

abbrev after_asked : List ℕ → Asked → ℕ → List Line → Result Bundle ℕ
after_asked document asked n lines = then_read (answers_read asked.most 1 n lines) (after_answers document asked)

-- the text of a bundle reads back
pub reads_back : (b : Bundle) → IsBundle b → bundle_of (bundle_text b) ≡ Ok b
unfolding bundle_of
reads_back b is =
    let last : List ℕ = b.ending ++ (10 ∷ []) in
    let answers : List ℕ = answers_lines 1 b.derivations ++ last in
    let rest : List ℕ = (codes "query " ++ b.query) ++ (10 ∷ (scenario_line b.scenario ++ ((codes "budget " ++ decimal b.budget) ++ (10 ∷ ((codes "answers " ++ decimal b.most) ++ (10 ∷ answers)))))) in
    let asked : Asked = asked_by b.query b.scenario b.budget b.most in
    let line = line_ending b.budget b.most b.ending is.limited.1 is.asked.1 is.ended in
    let other : (j : ℕ) → is_next (answer_words j) (lines_of last) ≡ false = λ j. ap (is_next (answer_words j)) (line_first b.ending [] line) ∙ ending_other b.budget b.most j b.ending is.ended in
    let text : bundle_text b ≡ b.document ++ (marker ++ (10 ∷ rest)) = ap (λ t. b.document ++ t) (head_split b.query b.scenario b.budget b.most answers) in
    let first = document_written b.document rest 1 is.unmarked in
    let second = asked_written b.query b.scenario b.budget b.most first.0 answers is.named is.under is.limited is.asked in
    let third = answers_written b.derivations b.most 1 second.0 last is.few (omega (arith, is.asked.1)) is.spelled other in
    let fourth = ending_written b.budget b.most third.0 b.ending line (says_ending b.budget b.most b.ending is.ended) in
    ap (λ t. bundle_after (parted 1 (lines_of t))) text
    ∙ ap bundle_after first.1
    ∙ ap (λ r. then_read r (after_asked b.document)) second.1
    ∙ ap (λ r. then_read r (after_answers b.document asked)) third.1
    ∙ ap (bundle_with b.document asked b.derivations) fourth
