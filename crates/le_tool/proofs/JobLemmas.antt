-- The options, read two words at a time.
use Rattle.std.proofs.Common.{◌≡◌, ℕ, ◌+◌, ◌-◌, ◌<◌, List, [], ◌∷◌, length, get_or, map, drop, None, Some, String, Global, string_bytes, refl, ap, sym, ◌∙◌, arith}
use Rattle.std.specs.Option.{option_and_then}
use Rattle.std.proofs.lemmas.List.{drop_more, length-drop}
use Rattle.le_tool.specs.declared.jobs.Options.{Options}
use Rattle.le_tool.specs.Job.{with_option, options_from}

-- an option and its value, and the options after them
pub options_more : (words : List (String Global)) (at : ℕ) (o p : Options) (name value : String Global) (n v : List ℕ) → at + 1 < length words →
    name ≡ get_or words at name → value ≡ get_or words (at + 1) value → n ≡ string_bytes name → v ≡ string_bytes value →
    with_option o n (at + 1) v ≡ Some p →
    options_from at o (map string_bytes (drop at words)) ≡ options_from (at + 2) p (map string_bytes (drop (at + 2) words))
options_more words at o p name value n v h is_name is_value en ev found =
    let e : at + 1 + 1 ≡ at + 2 = omega arith in
    let first = drop_more words at name (omega arith) ∙ ap (λ x. x ∷ drop (at + 1) words) (sym is_name) in
    let second = drop_more words (at + 1) value h ∙ ap (λ x. x ∷ drop (at + 1 + 1) words) (sym is_value) ∙ ap (λ k. value ∷ drop k words) e in
    let found_there : with_option o (string_bytes name) (at + 1) (string_bytes value) ≡ Some p = rw (← en, ← ev) found in
    ap (λ xs. options_from at o (map string_bytes xs)) (first ∙ ap (λ ys. name ∷ ys) second)
    ∙ ap (option_and_then (λ q. options_from (at + 2) q (map string_bytes (drop (at + 2) words)))) found_there

one_word : (words : List (String Global)) (at : ℕ) (o : Options) → length words ≡ 1 → options_from at o (map string_bytes words) ≡ None
one_word [] at o h = absurd (omega (arith, h))
one_word (w ∷ []) at o h = refl
one_word (w ∷ v ∷ ws) at o h = absurd (omega (arith, h))

-- a last word without a value
pub options_odd : (words : List (String Global)) (at : ℕ) (o : Options) → at + 1 ≡ length words → options_from at o (map string_bytes (drop at words)) ≡ None
options_odd words at o h =
    let rest : length words - at ≡ 1 = omega (arith, h) in
    one_word (drop at words) at o (length-drop at words ∙ rest)
