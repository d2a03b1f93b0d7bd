-- What is made of the values at all cases of a gather: this project's profile.
use Rattle.std.specs.Prelude.{List, [], ◌∷◌, length, ℤ, pos, ◌+ℤ◌, int_lt, if◌then◌else◌, Option, Some, None}
use Rattle.le_base.specs.declared.stop.FoldKind.{FoldKind}
use Rattle.le_base.specs.declared.stop.FoldKind.TheVariants.{Sum, Number, Greatest}
use Rattle.le_terms.specs.Tree.{Tree, constant, number, date, variable, nil, cell}
use Rattle.le_values.specs.Numbers.{is_number}
pub use Rattle.le_gather.specs.declared.folding.FoldAnswer.{FoldAnswer}
pub use Rattle.le_gather.specs.declared.folding.FoldAnswer.TheVariants.{Value as value, No as no, Unbound as unbound, Range as range}

-- what a value answers that isn't a number: an unbound variable leaves it open, another term ends it
abbrev pub if_no_number : Tree → Option FoldAnswer
if_no_number (number z) = None
if_no_number (variable v) = Some unbound
if_no_number (constant n) = Some no
if_no_number (date d) = Some no
if_no_number nil = Some no
if_no_number (cell head tail) = Some no

-- the first value that isn't a number decides; of numbers what `all` says of what `step` makes of them one after another
abbrev pub with_numbers : (ℤ → ℤ → ℤ) → (ℤ → FoldAnswer) → ℤ → List Tree → FoldAnswer
with_numbers step all so_far [] = all so_far
with_numbers step all so_far (number z ∷ values) = with_numbers step all (step so_far z) values
with_numbers step all so_far (variable v ∷ values) = unbound
with_numbers step all so_far (constant n ∷ values) = no
with_numbers step all so_far (date d ∷ values) = no
with_numbers step all so_far (nil ∷ values) = no
with_numbers step all so_far (cell head tail ∷ values) = no

-- the greater of two numbers
abbrev pub greater : ℤ → ℤ → ℤ
greater x y = if int_lt x y then y else x

-- a sum as an answer: it is a number from -10^18 to 10^18, or out of range
abbrev pub in_range : ℤ → FoldAnswer
in_range z = if is_number z then value z else range

-- the greatest value; there is none of no values
abbrev pub greatest_of : List Tree → FoldAnswer
greatest_of [] = no
greatest_of (number z ∷ values) = with_numbers greater value z values
greatest_of (variable v ∷ values) = unbound
greatest_of (constant n ∷ values) = no
greatest_of (date d ∷ values) = no
greatest_of (nil ∷ values) = no
greatest_of (cell head tail ∷ values) = no

-- the sum of the values, how many they are, or the greatest of them
abbrev pub fold_of : FoldKind → List Tree → FoldAnswer
fold_of Sum values = with_numbers (λ x y. x +ℤ y) in_range (pos 0) values
fold_of Number values = value (pos (length values))
fold_of Greatest values = greatest_of values
