-- What is made of the values from one place on, in terms of the value there and of those that follow it.
use Rattle.std.proofs.Common.{◌≡◌, ℕ, ◌+◌, ◌<◌, List, ◌∷◌, length, drop, get_or, ℤ, sym, ap, ◌∙◌, add-one, drop-cons}
use Rattle.le_terms.specs.Tree.{Tree, number}
use Rattle.le_gather.specs.Folds.{FoldAnswer, with_numbers}

pub number-next : (step : ℤ → ℤ → ℤ) (all : ℤ → FoldAnswer) (so_far n : ℤ) (values : List Tree) (k : ℕ) (x : Tree) → k < length values → x ≡ get_or values k x → x ≡ number n → with_numbers step all (step so_far n) (drop (k + 1) values) ≡ with_numbers step all so_far (drop k values)
number-next step all so_far n values k x inside is same =
    sym (
    ap (with_numbers step all so_far) (drop-cons values k x inside ∙ ap (λ m. get_or values k x ∷ drop m values) (sym (add-one k)))
    ∙ ap (λ t. with_numbers step all so_far (t ∷ drop (k + 1) values)) (sym is ∙ same))
