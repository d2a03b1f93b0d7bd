-- The lines of a text, taken one by one.
use Rattle.std.proofs.Common.{◌≡◌, ℕ, zero, suc, ◌+◌, ◌<◌, ◌==◌, true, false, cond, List, [], ◌∷◌, ◌++◌, length, take, drop, slice_index, Option, None, Some, Ok, Err, refl, ap, sym, ◌∙◌, arith}
use Rattle.std.proofs.lemmas.Bool.{eqb-true, false_from_ne_true}
use Rattle.memchr.specs.Find.{IsFirstByte, is_byte}
use Rattle.le_bundle.specs.Lines.{whole, cut, with_byte, lines_of, last_lines, read_by, next_line}

-- a line up to an LF, and what follows it
first_whole : (text : List ℕ) (k : ℕ) → k < length text → ((j : ℕ) → j < k → (slice_index text j == 10) ≡ true → ⊥) → (slice_index text k == 10) ≡ true →
    lines_of text ≡ whole (take k text) ∷ lines_of (drop (k + 1) text)
first_whole [] k low before here = absurd (omega (arith, low))
first_whole (b ∷ bytes) zero low before here = ap (λ t. cond t (whole [] ∷ lines_of bytes) (with_byte b (lines_of bytes))) here
first_whole (b ∷ bytes) (suc k) low before here =
    let other : (b == 10) ≡ false = false_from_ne_true (b == 10) (before 0 (omega arith)) in
    let rest = first_whole bytes k (omega (arith, low)) (λ j (h : j < k). before (suc j) (omega arith)) here in
    let more : suc k + 1 ≡ suc (k + 1) = omega arith in
    ap (λ t. cond t (whole [] ∷ lines_of bytes) (with_byte b (lines_of bytes))) other
    ∙ ap (with_byte b) rest
    ∙ ap (λ m. whole (b ∷ take k bytes) ∷ lines_of (drop m (b ∷ bytes))) (sym more)

-- a text without an LF
with_last : (b : ℕ) (bytes : List ℕ) → with_byte b (last_lines bytes) ≡ cut (b ∷ bytes) ∷ []
with_last b [] = refl
with_last b (c ∷ bytes) = refl

all_cut : (text : List ℕ) → ((j : ℕ) → j < length text → (slice_index text j == 10) ≡ true → ⊥) → lines_of text ≡ last_lines text
all_cut [] none = refl
all_cut (b ∷ bytes) none =
    let other : (b == 10) ≡ false = false_from_ne_true (b == 10) (none 0 (omega arith)) in
    ap (λ t. cond t (whole [] ∷ lines_of bytes) (with_byte b (lines_of bytes))) other
    ∙ ap (with_byte b) (all_cut bytes (λ j (h : j < length bytes). none (suc j) (omega (arith, h))))
    ∙ with_last b bytes

-- a text in front of a place and after it
cut_at : (text : List ℕ) (k : ℕ) → k < length text → (slice_index text k == 10) ≡ true → text ≡ take k text ++ (10 ∷ drop (k + 1) text)
cut_at [] k low here = absurd (omega (arith, low))
cut_at (b ∷ bytes) zero low here = ap (λ x. x ∷ bytes) (eqb-true b 10 here)
cut_at (b ∷ bytes) (suc k) low here =
    let more : suc k + 1 ≡ suc (k + 1) = omega arith in
    ap (λ xs. b ∷ xs) (cut_at bytes k (omega (arith, low)) here) ∙ ap (λ m. (b ∷ take k bytes) ++ (10 ∷ drop m (b ∷ bytes))) (sym more)

-- what the first LF cuts off
pub cut_first : (text : List ℕ) (k : ℕ) → IsFirstByte (is_byte 10) text (Some k) →
    (lines_of text ≡ whole (take k text) ∷ lines_of (drop (k + 1) text)) × (text ≡ take k text ++ (10 ∷ drop (k + 1) text)) × (k < length text)
cut_first text k is = (first_whole text k is.0.high (λ j (h : j < k). is.0.before j (omega arith) h) is.1, cut_at text k is.0.high is.1, is.0.high)

pub cut_nowhere : (text : List ℕ) → IsFirstByte (is_byte 10) text None → lines_of text ≡ last_lines text
cut_nowhere text is = all_cut text (λ j (h : j < length text). is j (omega arith) h)

-- what the next line doesn't give
pub next_none : {X : Type 0} (says : List ℕ → Option X) (n : ℕ) (text : List ℕ) → lines_of text ≡ last_lines text → next_line says n (lines_of text) ≡ Err n
next_none says n [] e = refl
next_none says n (b ∷ bytes) e = ap (next_line says n) e

pub next_other : {X : Type 0} (says : List ℕ → Option X) (n : ℕ) (text line rest : List ℕ) → lines_of text ≡ whole line ∷ lines_of rest → says line ≡ None → next_line says n (lines_of text) ≡ Err n
next_other says n text line rest e none = ap (next_line says n) e ∙ ap (read_by n (lines_of rest)) none

-- what the next line gives
pub next_some : {X : Type 0} (says : List ℕ → Option X) (n m : ℕ) (text line rest : List ℕ) (x : X) → lines_of text ≡ whole line ∷ lines_of rest → m ≡ n + 1 → says line ≡ Some x →
    next_line says n (lines_of text) ≡ Ok (record { value = x; number = m; lines = lines_of rest })
next_some says n m text line rest x e more some =
    ap (next_line says n) e ∙ ap (read_by n (lines_of rest)) some ∙ ap (λ k. Ok (record { value = x; number = k; lines = lines_of rest })) (sym more)
