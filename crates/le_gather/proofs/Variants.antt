-- What is made of values and of their variants.
use Rattle.std.proofs.Common.{◌≡◌, ℕ, suc, List, [], ◌∷◌, length, ℤ, pos, ◌+ℤ◌, refl, ap, ◌∙◌}
use Rattle.le_base.specs.declared.stop.FoldKind.{FoldKind}
use Rattle.le_base.specs.declared.stop.FoldKind.TheVariants.{Sum, Number, Greatest}
use Rattle.le_terms.specs.Tree.{Tree, constant, number, date, variable, nil, cell}
use Rattle.le_terms.specs.Variables.{replaced}
use Rattle.le_gather.specs.Folds.{FoldAnswer, value, unbound, with_numbers, greater, in_range, greatest_of, fold_of}

-- a term is a variant of another one, by substitutions there and back
abbrev pub IsVaried : Tree → Tree → Type 0
IsVaried s t = (to : ℕ → Tree) × (back : ℕ → Tree) × (t ≡ replaced to s) × (replaced back t ≡ s)

-- terms are variants one by one, each by substitutions of its own
abbrev pub AreVaried : List Tree → List Tree → Type 0
AreVaried [] [] = Unit {0}
AreVaried (s ∷ ss) (t ∷ ts) = IsVaried s t × AreVaried ss ts
AreVaried ss ts = ⊥

numbers-same : (step : ℤ → ℤ → ℤ) (all : ℤ → FoldAnswer) (so_far : ℤ) (ss ts : List Tree) → AreVaried ss ts → with_numbers step all so_far ts ≡ with_numbers step all so_far ss
numbers-same step all so_far [] [] varied = refl
numbers-same step all so_far (constant n ∷ ss) (t ∷ ts) varied = ap (λ u. with_numbers step all so_far (u ∷ ts)) varied.0.2
numbers-same step all so_far (number z ∷ ss) (t ∷ ts) varied = ap (λ u. with_numbers step all so_far (u ∷ ts)) varied.0.2 ∙ numbers-same step all (step so_far z) ss ts varied.1
numbers-same step all so_far (date d ∷ ss) (t ∷ ts) varied = ap (λ u. with_numbers step all so_far (u ∷ ts)) varied.0.2
numbers-same step all so_far (variable v ∷ ss) (t ∷ ts) varied = by t varied.0.3
  where
    by : (u : Tree) → replaced varied.0.1 u ≡ variable v → with_numbers step all so_far (u ∷ ts) ≡ unbound
    by (variable w) r = refl
    by u r = absurd (cc r)
numbers-same step all so_far (nil ∷ ss) (t ∷ ts) varied = ap (λ u. with_numbers step all so_far (u ∷ ts)) varied.0.2
numbers-same step all so_far (cell head tail ∷ ss) (t ∷ ts) varied = ap (λ u. with_numbers step all so_far (u ∷ ts)) varied.0.2
numbers-same step all so_far ss ts varied = absurd varied

greatest-same : (ss ts : List Tree) → AreVaried ss ts → greatest_of ts ≡ greatest_of ss
greatest-same [] [] varied = refl
greatest-same (constant n ∷ ss) (t ∷ ts) varied = ap (λ u. greatest_of (u ∷ ts)) varied.0.2
greatest-same (number z ∷ ss) (t ∷ ts) varied = ap (λ u. greatest_of (u ∷ ts)) varied.0.2 ∙ numbers-same greater value z ss ts varied.1
greatest-same (date d ∷ ss) (t ∷ ts) varied = ap (λ u. greatest_of (u ∷ ts)) varied.0.2
greatest-same (variable v ∷ ss) (t ∷ ts) varied = by t varied.0.3
  where
    by : (u : Tree) → replaced varied.0.1 u ≡ variable v → greatest_of (u ∷ ts) ≡ unbound
    by (variable w) r = refl
    by u r = absurd (cc r)
greatest-same (nil ∷ ss) (t ∷ ts) varied = ap (λ u. greatest_of (u ∷ ts)) varied.0.2
greatest-same (cell head tail ∷ ss) (t ∷ ts) varied = ap (λ u. greatest_of (u ∷ ts)) varied.0.2
greatest-same ss ts varied = absurd varied

length-varied : (ss ts : List Tree) → AreVaried ss ts → length ts ≡ length ss
length-varied [] [] varied = refl
length-varied (s ∷ ss) (t ∷ ts) varied = ap suc (length-varied ss ts varied.1)
length-varied ss ts varied = absurd varied

-- what is made of values is made of their variants
pub fold-same : (fold : FoldKind) (ss ts : List Tree) → AreVaried ss ts → fold_of fold ts ≡ fold_of fold ss
fold-same Sum ss ts varied = numbers-same (λ x y. x +ℤ y) in_range (pos 0) ss ts varied
fold-same Number ss ts varied = ap (λ n. value (pos n)) (length-varied ss ts varied)
fold-same Greatest ss ts varied = greatest-same ss ts varied
