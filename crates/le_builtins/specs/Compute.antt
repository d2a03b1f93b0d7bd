-- What the predefined sentences answer: this project's profile.
use Rattle.std.specs.Prelude.{ℕ, ◌==◌, ◌&&◌, Bool, true, false, not, if◌then◌else◌, List, slice_index_or, Option, Some, None, ℤ, pos, ◌+ℤ◌, ◌-ℤ◌, ◌*ℤ◌}
use Rattle.std.specs.Option.{option_map}
use Rattle.std.specs.Ordering.{int_eq}
use Rattle.le_terms.specs.declared.term.Sym.{Sym}
use Rattle.le_terms.specs.declared.term.Sym.TheVariants.{Num, Day}
use Rattle.le_terms.specs.Tree.{Tree, constant, number, date, variable, nil, cell, IsLeaf}
use Rattle.le_values.specs.Numbers.{is_number}
use Rattle.le_values.specs.Days.{days_later, months_later}
use Rattle.le_builtins.specs.declared.computing.Calc.{Calc}
use Rattle.le_builtins.specs.declared.computing.Calc.TheVariants.{Same, Gives, Holds, No, Unbound, Range}
use Rattle.le_builtins.specs.declared.sentences.Operation.{Operation}
use Rattle.le_builtins.specs.declared.sentences.Operation.TheVariants.{Plus, Minus, Times, DividedBy}
use Rattle.le_builtins.specs.declared.sentences.Sentence.{Sentence}
use Rattle.le_builtins.specs.declared.sentences.Sentence.TheVariants.{EqualTo, DifferentFrom, Numbers, Dates, Arithmetic, DaysAfter, MonthsAfter, DaysFromTo, LengthOf}
use Rattle.le_builtins.specs.Lists.{list_length}
use Rattle.le_builtins.specs.Numbers.{compares, floor_quotient}
use Rattle.le_builtins.specs.Sentences.{Need, sentence_of, needs, is_unbound, is_other_kind, is_some_so}

-- whether two terms are the same
abbrev pub is_same : Tree → Tree → Bool
is_same (constant m) (constant n) = m == n
is_same (number x) (number y) = int_eq x y
is_same (date x) (date y) = int_eq x y
is_same (variable v) (variable w) = v == w
is_same nil nil = true
is_same (cell head tail) (cell head' tail') = is_same head head' && is_same tail tail'
is_same a b = false

-- what a sentence says once its arguments are as it asks: that the first two are to be unified, whether it holds, or what the first is to be unified with, which is none where that is outside the range of its kind
pub data Saying : Type 0 where
  equation : Saying
  truth : Bool → Saying
  result : Option Sym → Saying

-- a number as a result: none outside -10^18 to 10^18
abbrev pub number_result : ℤ → Saying
number_result n = result (if is_number n then Some (Num n) else None)

-- a date as a result, where there is one in the years 0001 to 9999
abbrev pub date_result : Option ℤ → Saying
date_result day = result (option_map Day day)

-- what an operation says; a quotient by 0 holds for no number
abbrev pub calculated : Operation → ℤ → ℤ → Saying
calculated Plus x y = number_result (x +ℤ y)
calculated Minus x y = number_result (x -ℤ y)
calculated Times x y = number_result (x *ℤ y)
calculated DividedBy x y = if int_eq y (pos 0) then truth false else number_result (floor_quotient x y)

-- the argument at a place, from 0
abbrev pub argument : List Tree → ℕ → Tree
argument terms place = slice_index_or terms place nil

-- the number or the day number that a term is, and 0 for any other term
abbrev pub value_of : Tree → ℤ
value_of (number z) = z
value_of (date d) = d
value_of term = pos 0

-- that of the argument at a place
abbrev pub value_at : List Tree → ℕ → ℤ
value_at terms place = value_of (argument terms place)

-- what each sentence says of arguments that are as it asks
abbrev pub says : Sentence → List Tree → Saying
says EqualTo terms = equation
says DifferentFrom terms = truth (not (is_same (argument terms 0) (argument terms 1)))
says (Numbers comparison) terms = truth (compares comparison (value_at terms 0) (value_at terms 1))
says (Dates comparison) terms = truth (compares comparison (value_at terms 0) (value_at terms 1))
says (Arithmetic operation) terms = calculated operation (value_at terms 1) (value_at terms 2)
says DaysAfter terms = date_result (days_later (value_at terms 2) (value_at terms 1))
says MonthsAfter terms = date_result (months_later (value_at terms 2) (value_at terms 1))
says DaysFromTo terms = number_result (value_at terms 2 -ℤ value_at terms 1)
says LengthOf terms = number_result (pos (list_length (argument terms 1)))

-- No where the comparison is false or the divisor is 0, Range where the result is outside, and otherwise Same, Holds or Gives
abbrev pub settled : Saying → Calc
settled equation = Same
settled (truth true) = Holds
settled (truth false) = No
settled (result (Some symbol)) = Gives symbol
settled (result None) = Range

-- Unbound where an argument that must be bound isn't, before anything else; then No where one isn't of the kind that is asked for; then what the sentence says
abbrev pub answered : List Need → List Tree → Saying → Calc
answered asked terms saying =
    if is_some_so is_unbound asked terms then Unbound
    else (if is_some_so is_other_kind asked terms then No
    else settled saying)

-- what a predefined sentence answers for its arguments
unfoldable pub compute : ℕ → List Tree → Calc
compute pred terms = answered (needs (sentence_of pred)) terms (says (sentence_of pred) terms)

-- what it gives is a symbol that is a term alone
abbrev pub GivesLeaf : Calc → Type 0
GivesLeaf (Gives symbol) = IsLeaf symbol
GivesLeaf answer = Unit {0}
