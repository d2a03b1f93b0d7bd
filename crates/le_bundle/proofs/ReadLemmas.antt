-- Texts, nodes, answers and the document part, read one after another.
use Rattle.std.proofs.Common.{◌≡◌, ℕ, zero, suc, ◌+◌, ◌-◌, ◌<◌, ◌≤◌, Bool, true, false, cond, List, [], ◌∷◌, ◌++◌, length, drop, Option, None, Some, Result, Ok, Err, IsUtf8, ◌&&◌, lt-ltb, refl, ap, sym, ◌∙◌, arith, append_assoc, append-nil, length-append, ◌==◌}
use Rattle.std.specs.Str.{bytes_eq, is_utf8}
use Rattle.std.proofs.lemmas.Bool.{false_from_ne_true}
use Rattle.std.proofs.lemmas.Str.{IsUtf8-from_is_utf8, is_utf8-from_IsUtf8}
use Rattle.le_proofs.specs.declared.derivation.Derivation.{Derivation}
use Rattle.le_proofs.specs.declared.node.Node.{Node}
use Rattle.le_proofs.specs.declared.node.Node.TheVariants.{Use, Compute, Absent, Gather, Split, Branch, Computed, Lacking, Present, Gathered, Ungathered, Success, Dead}
use Rattle.le_prooftext.specs.Lines.{node_line}
use Rattle.le_prooftext.specs.Reading.{node_of}
use Rattle.le_bundle.specs.Bundle.{name_of, Parted, marker, with_line, parted, with_node, nodes_read, derivation_read, with_derivation, answers_read, answer_words, is_next, at_end, ending_in, ending_read}
use Rattle.le_bundle.specs.Lines.{Line, whole, cut, with_byte, lines_of, last_lines, Read, then_read, next_line}
use Rattle.le_bundle.specs.Numbers.{count_up_to, number_up_to}

-- ---- texts

pub utf8_number : (most : ℕ) (bytes word : List ℕ) → word ≡ bytes → IsUtf8 bytes → count_up_to most word ≡ number_up_to most bytes
unfolding number_up_to
utf8_number most bytes word e is = ap (count_up_to most) e ∙ sym (ap (λ b. cond b (count_up_to most bytes) None) (is_utf8-from_IsUtf8 bytes is))

pub no_number : (most : ℕ) (bytes : List ℕ) → (IsUtf8 bytes → ⊥) → (let none : Option ℕ = None in none) ≡ number_up_to most bytes
unfolding number_up_to
no_number most bytes bad = sym (ap (λ b. cond b (count_up_to most bytes) None) (false_from_ne_true (is_utf8 bytes) (λ h. bad (IsUtf8-from_is_utf8 bytes h))))

abbrev named : Bool → Bool → List ℕ → Option (List ℕ)
named some is bytes = cond (some && is) (Some bytes) None

pub utf8_name : (bytes word : List ℕ) → 0 < length bytes → word ≡ bytes → IsUtf8 bytes → Some word ≡ name_of bytes
utf8_name bytes word low e is =
    ap (λ w. Some w) e
    ∙ sym (ap (λ t. named true t bytes) (is_utf8-from_IsUtf8 bytes is))
    ∙ sym (ap (λ t. named t (is_utf8 bytes) bytes) (lt-ltb 0 (length bytes) low))

pub no_name : (bytes : List ℕ) → 0 < length bytes → (IsUtf8 bytes → ⊥) → (let none : Option (List ℕ) = None in none) ≡ name_of bytes
no_name bytes low bad =
    sym (ap (λ t. named true t bytes) (false_from_ne_true (is_utf8 bytes) (λ h. bad (IsUtf8-from_is_utf8 bytes h))))
    ∙ sym (ap (λ t. named t (is_utf8 bytes) bytes) (lt-ltb 0 (length bytes) low))

-- ---- nodes

-- what was read before what is read
abbrev pub onto : {X : Type 0} → List X → Result (Read (List X)) ℕ → Result (Read (List X)) ℕ
onto front (Err n) = Err n
onto front (Ok r) = Ok (record { value = front ++ r.value; number = r.number; lines = r.lines })

pub onto_none : {X : Type 0} (r : Result (Read (List X)) ℕ) → onto [] r ≡ r
onto_none (Err n) = refl
onto_none (Ok r) = refl

onto_node : (front : List Node) (node : Node) (r : Result (Read (List Node)) ℕ) → onto front (with_node node r) ≡ onto (front ++ (node ∷ [])) r
onto_node front node (Err n) = refl
onto_node front node (Ok r) = ap (λ xs. Ok (record { value = xs; number = r.number; lines = r.lines })) (sym (append_assoc front (node ∷ []) r.value))

abbrev node_then : ℕ → Node → ℕ → List Line → Result (Read (List Node)) ℕ
node_then k node m rest = with_node node (nodes_read k m rest)

-- one node more
pub nodes_more : (front : List Node) (left : ℕ) (n : ℕ) (lines : List Line) (r : Read Node) → 0 < left → next_line node_of n lines ≡ Ok r →
    onto (front ++ (r.value ∷ [])) (nodes_read (left - 1) r.number r.lines) ≡ onto front (nodes_read left n lines)
nodes_more front zero n lines r low e = absurd (omega (arith, low))
nodes_more front (suc k) n lines r low e =
    let less : suc k - 1 ≡ k = omega arith in
    ap (λ j. onto (front ++ (r.value ∷ [])) (nodes_read j r.number r.lines)) less
    ∙ sym (onto_node front r.value (nodes_read k r.number r.lines))
    ∙ sym (ap (λ x. onto front (then_read x (node_then k))) e)

-- a line that is no node
pub nodes_end : (front : List Node) (left : ℕ) (n m : ℕ) (lines : List Line) → 0 < left → next_line node_of n lines ≡ Err m → onto front (nodes_read left n lines) ≡ Err m
nodes_end front zero n m lines low e = absurd (omega (arith, low))
nodes_end front (suc k) n m lines low e = ap (λ x. onto front (then_read x (node_then k))) e

-- no node is left to read
pub nodes_done : (front : List Node) (left : ℕ) (n : ℕ) (lines : List Line) → left ≤ 0 → onto front (nodes_read left n lines) ≡ Ok (record { value = front; number = n; lines = lines })
nodes_done front zero n lines low = ap (λ xs. Ok (record { value = xs; number = n; lines = lines })) (append-nil front)
nodes_done front (suc k) n lines low = absurd (omega (arith, low))

-- ---- answers

onto_derivation : (front : List Derivation) (nodes : List Node) (r : Result (Read (List Derivation)) ℕ) → onto front (with_derivation nodes r) ≡ onto (front ++ (record { nodes = nodes } ∷ [])) r
onto_derivation front nodes (Err n) = refl
onto_derivation front nodes (Ok r) = ap (λ xs. Ok (record { value = xs; number = r.number; lines = r.lines })) (sym (append_assoc front (record { nodes = nodes } ∷ []) r.value))

abbrev derivation_then : ℕ → ℕ → List Node → ℕ → List Line → Result (Read (List Derivation)) ℕ
derivation_then left k nodes m rest = with_derivation nodes (answers_read left (k + 1) m rest)

abbrev answer_by : Bool → ℕ → ℕ → ℕ → List Line → Result (Read (List Derivation)) ℕ
answer_by b left k n lines = cond b (then_read (derivation_read (n + 1) (drop 1 lines)) (derivation_then left k)) (Ok (record { value = []; number = n; lines = lines }))

-- one answer more, where so many may come in all
pub answers_more : (front : List Derivation) (most k n m : ℕ) (lines rest : List Line) (r : Read (List Node)) → k ≤ most → is_next (answer_words k) lines ≡ true → m ≡ n + 1 → rest ≡ drop 1 lines → derivation_read m rest ≡ Ok r →
    onto (front ++ (record { nodes = r.value } ∷ [])) (answers_read (most + 1 - (k + 1)) (k + 1) r.number r.lines) ≡ onto front (answers_read (most + 1 - k) k n lines)
answers_more front most k n m lines rest r low is more next e =
    let count : most + 1 - k ≡ suc (most + 1 - (k + 1)) = omega (arith, low) in
    let left = most + 1 - (k + 1) in
    let read : derivation_read (n + 1) (drop 1 lines) ≡ Ok r = ap (λ j. derivation_read j (drop 1 lines)) (sym more) ∙ ap (derivation_read m) (sym next) ∙ e in
    sym (onto_derivation front r.value (answers_read left (k + 1) r.number r.lines))
    ∙ sym (ap (λ x. onto front (then_read x (derivation_then left k))) read)
    ∙ sym (ap (λ b. onto front (answer_by b left k n lines)) is)
    ∙ sym (ap (λ j. onto front (answers_read j k n lines)) count)

-- an answer whose derivation doesn't fit
pub answers_unfit : (front : List Derivation) (most k n m bad : ℕ) (lines rest : List Line) → k ≤ most → is_next (answer_words k) lines ≡ true → m ≡ n + 1 → rest ≡ drop 1 lines → derivation_read m rest ≡ Err bad →
    onto front (answers_read (most + 1 - k) k n lines) ≡ Err bad
answers_unfit front most k n m bad lines rest low is more next e =
    let count : most + 1 - k ≡ suc (most + 1 - (k + 1)) = omega (arith, low) in
    let left = most + 1 - (k + 1) in
    let read : derivation_read (n + 1) (drop 1 lines) ≡ Err bad = ap (λ j. derivation_read j (drop 1 lines)) (sym more) ∙ ap (derivation_read m) (sym next) ∙ e in
    ap (λ j. onto front (answers_read j k n lines)) count
    ∙ ap (λ b. onto front (answer_by b left k n lines)) is
    ∙ ap (λ x. onto front (then_read x (derivation_then left k))) read

-- no answer comes
pub answers_last : (front : List Derivation) (most k n : ℕ) (lines : List Line) → k ≤ most → is_next (answer_words k) lines ≡ false → onto front (answers_read (most + 1 - k) k n lines) ≡ Ok (record { value = front; number = n; lines = lines })
answers_last front most k n lines low is =
    let count : most + 1 - k ≡ suc (most + 1 - (k + 1)) = omega (arith, low) in
    ap (λ j. onto front (answers_read j k n lines)) count
    ∙ ap (λ b. onto front (answer_by b (most + 1 - (k + 1)) k n lines)) is
    ∙ ap (λ xs. Ok (record { value = xs; number = n; lines = lines })) (append-nil front)

-- no answer may come
pub answers_full : (front : List Derivation) (most k n : ℕ) (lines : List Line) → most < k → onto front (answers_read (most + 1 - k) k n lines) ≡ Ok (record { value = front; number = n; lines = lines })
answers_full front most k n lines low =
    let none : most + 1 - k ≡ 0 = omega (arith, low) in
    ap (λ j. onto front (answers_read j k n lines)) none ∙ ap (λ xs. Ok (record { value = xs; number = n; lines = lines })) (append-nil front)

-- ---- the document part

-- lines before a document part
abbrev pub after : List ℕ → Result Parted ℕ → Result Parted ℕ
after front (Err n) = Err n
after front (Ok p) = Ok (record { document = front ++ p.document; number = p.number; lines = p.lines })

pub after_none : (r : Result Parted ℕ) → after [] r ≡ r
after_none (Err n) = refl
after_none (Ok p) = refl

after_line : (front line : List ℕ) (r : Result Parted ℕ) → after front (with_line line r) ≡ after (front ++ (line ++ (10 ∷ []))) r
after_line front line (Err n) = refl
after_line front line (Ok p) =
    ap (λ xs. Ok (record { document = xs; number = p.number; lines = p.lines }))
    (ap (λ xs. front ++ xs) (sym (append_assoc line (10 ∷ []) p.document)) ∙ sym (append_assoc front (line ++ (10 ∷ [])) p.document))

abbrev parted_at : Bool → ℕ → List ℕ → List Line → Result Parted ℕ
parted_at b n line lines = cond b (Ok (record { document = []; number = n + 1; lines = lines })) (with_line line (parted (n + 1) lines))

-- a line more
pub parted_more : (front line text rest : List ℕ) (n m : ℕ) → lines_of text ≡ whole line ∷ lines_of rest → m ≡ n + 1 → bytes_eq line marker ≡ false →
    after (front ++ (line ++ (10 ∷ []))) (parted m (lines_of rest)) ≡ after front (parted n (lines_of text))
parted_more front line text rest n m e more other =
    ap (λ k. after (front ++ (line ++ (10 ∷ []))) (parted k (lines_of rest))) more
    ∙ sym (after_line front line (parted (n + 1) (lines_of rest)))
    ∙ sym (ap (λ b. after front (parted_at b n line (lines_of rest))) other)
    ∙ sym (ap (λ ls. after front (parted n ls)) e)

-- the marker
pub parted_here : (front line text rest : List ℕ) (n m : ℕ) → lines_of text ≡ whole line ∷ lines_of rest → m ≡ n + 1 → bytes_eq line marker ≡ true →
    after front (parted n (lines_of text)) ≡ Ok (record { document = front; number = m; lines = lines_of rest })
parted_here front line text rest n m e more is =
    ap (λ ls. after front (parted n ls)) e
    ∙ ap (λ b. after front (parted_at b n line (lines_of rest))) is
    ∙ ap (λ k. Ok (record { document = front ++ []; number = k; lines = lines_of rest })) (sym more)
    ∙ ap (λ xs. Ok (record { document = xs; number = m; lines = lines_of rest })) (append-nil front)

-- no marker
pub unmarked_some : (b : ℕ) (bytes : List ℕ) (n : ℕ) (is : Bool) → bytes_eq (b ∷ bytes) marker ≡ is → lines_of (b ∷ bytes) ≡ last_lines (b ∷ bytes) → parted n (lines_of (b ∷ bytes)) ≡ Err (cond is n (n + 1))
unmarked_some b bytes n is e last = ap (parted n) last ∙ ap (λ t. Err (cond t n (n + 1))) e

-- nothing follows the last line only where no text is left
rest_by : {X : Type 0} (x : X) (n b : ℕ) (t : Bool) (lines : List Line) → at_end x n (cond t (whole [] ∷ lines) (with_byte b lines)) ≡ Err n
rest_by x n b true lines = refl
rest_by x n b false [] = refl
rest_by x n b false (whole line ∷ lines) = refl
rest_by x n b false (cut line ∷ lines) = refl

end_more : {X : Type 0} (x : X) (n : ℕ) (text : List ℕ) → 0 < length text → at_end x n (lines_of text) ≡ Err n
end_more x n [] low = absurd (omega (arith, low))
end_more x n (b ∷ bytes) low = rest_by x n b (b == 10) (lines_of bytes)

pub ending_more : (budget most n : ℕ) (lines : List Line) (line text : List ℕ) (m : ℕ) → 0 < length text → next_line (ending_in budget most) n lines ≡ Ok (record { value = line; number = m; lines = lines_of text }) →
    ending_read budget most n lines ≡ Err m
unfolding ending_read
ending_more budget most n lines line text m low e = ap (λ r. then_read r at_end) e ∙ end_more line m text low

-- ---- lengths

-- a line that spells a node has at least four bytes
pub node_long : (node : Node) (line : List ℕ) → node_line node ≡ line → 4 ≤ length line
node_long (Use clause count atom) line e = omega (arith, ap length (sym e))
node_long (Compute atom) line e = omega (arith, ap length (sym e))
node_long (Absent atom) line e = omega (arith, ap length (sym e))
node_long (Gather fold result value atom) line e = omega (arith, ap length (sym e))
node_long (Split count) line e = omega (arith, ap length (sym e))
node_long (Branch clause) line e = omega (arith, ap length (sym e))
node_long Computed line e = omega (arith, ap length (sym e))
node_long Lacking line e = omega (arith, ap length (sym e))
node_long Present line e = omega (arith, ap length (sym e))
node_long Gathered line e = omega (arith, ap length (sym e))
node_long Ungathered line e = omega (arith, ap length (sym e))
node_long Success line e = omega (arith, ap length (sym e))
node_long Dead line e = omega (arith, ap length (sym e))

pub next_long : (n : ℕ) (text line rest : List ℕ) (node : Node) → text ≡ line ++ (10 ∷ rest) → node_line node ≡ line → length rest + 5 ≤ length text
next_long n text line rest node e spelled = omega (arith, ap length e, length-append line (10 ∷ rest), node_long node line spelled)
