-- The predefined sentences that are computed, and what each of them asks of its arguments: this project's profile.
use Rattle.std.specs.Prelude.{ℕ, ◌||◌, Bool, true, false, not, nat_lt, List, [], ◌∷◌, length, slice_index_or}
use Rattle.le_terms.specs.Tree.{Tree, number, date, variable, nil}
use Rattle.le_terms.specs.Variables.{variables}
use Rattle.le_builtins.specs.declared.sentences.Comparison.TheVariants.{GreaterThan, LessThan, AtLeast, AtMost}
use Rattle.le_builtins.specs.declared.sentences.Operation.TheVariants.{Plus, Minus, Times, DividedBy}
use Rattle.le_builtins.specs.declared.sentences.Sentence.{Sentence}
use Rattle.le_builtins.specs.declared.sentences.Sentence.TheVariants.{EqualTo, DifferentFrom, Numbers, Dates, Arithmetic, DaysAfter, MonthsAfter, DaysFromTo, LengthOf}
use Rattle.le_builtins.specs.Lists.{last_tail}

-- the predefined sentences in the order of their predicates, from 0
abbrev pub sentences : List Sentence
sentences =
    -- *a thing* is equal to *a thing*
    EqualTo
    -- *a thing* is different from *a thing*
    ∷ DifferentFrom
    -- *a number* is greater than *a number*
    ∷ Numbers GreaterThan
    -- *a number* is less than *a number*
    ∷ Numbers LessThan
    -- *a number* is at least *a number*
    ∷ Numbers AtLeast
    -- *a number* is at most *a number*
    ∷ Numbers AtMost
    -- *a date* is before *a date*
    ∷ Dates LessThan
    -- *a date* is after *a date*
    ∷ Dates GreaterThan
    -- *a date* is on or before *a date*
    ∷ Dates AtMost
    -- *a date* is on or after *a date*
    ∷ Dates AtLeast
    -- *a number* is *a number* plus *a number*
    ∷ Arithmetic Plus
    -- *a number* is *a number* minus *a number*
    ∷ Arithmetic Minus
    -- *a number* is *a number* times *a number*
    ∷ Arithmetic Times
    -- *a number* is *a number* divided by *a number*
    ∷ Arithmetic DividedBy
    -- *a date* is *a number* days after *a date*
    ∷ DaysAfter
    -- *a date* is *a number* months after *a date*
    ∷ MonthsAfter
    -- *a number* is the number of days from *a date* to *a date*
    ∷ DaysFromTo
    -- *a number* is the length of *a list*
    ∷ LengthOf
    ∷ []

-- the sentence of a predefined predicate
abbrev pub sentence_of : ℕ → Sentence
sentence_of pred = slice_index_or sentences pred EqualTo

-- what a sentence asks of one argument: nothing, that it have no variable, or that it be bound to a number, to a date, or to a list up to its end
pub data Need : Type 0 where
  anything : Need
  no_variable : Need
  a_number : Need
  a_date : Need
  a_list : Need

-- what each sentence asks of its arguments, from the first to the last
abbrev pub needs : Sentence → List Need
needs EqualTo = anything ∷ anything ∷ []
needs DifferentFrom = no_variable ∷ no_variable ∷ []
needs (Numbers comparison) = a_number ∷ a_number ∷ []
needs (Dates comparison) = a_date ∷ a_date ∷ []
needs (Arithmetic operation) = anything ∷ a_number ∷ a_number ∷ []
needs DaysAfter = anything ∷ a_number ∷ a_date ∷ []
needs MonthsAfter = anything ∷ a_number ∷ a_date ∷ []
needs DaysFromTo = anything ∷ a_date ∷ a_date ∷ []
needs LengthOf = anything ∷ a_list ∷ []

-- whether a term is an unbound variable
abbrev pub is_variable : Tree → Bool
is_variable (variable v) = true
is_variable term = false

-- whether it is a number
abbrev pub is_a_number : Tree → Bool
is_a_number (number z) = true
is_a_number term = false

-- whether it is a date
abbrev pub is_a_date : Tree → Bool
is_a_date (date d) = true
is_a_date term = false

-- whether it is the empty list
abbrev pub is_empty_list : Tree → Bool
is_empty_list nil = true
is_empty_list term = false

-- whether an argument that must be bound isn't
abbrev pub is_unbound : Need → Tree → Bool
is_unbound anything term = false
is_unbound no_variable term = nat_lt 0 (length (variables term))
is_unbound a_number term = is_variable term
is_unbound a_date term = is_variable term
is_unbound a_list term = is_variable (last_tail term)

-- whether an argument isn't of the kind that is asked for
abbrev pub is_other_kind : Need → Tree → Bool
is_other_kind anything term = false
is_other_kind no_variable term = false
is_other_kind a_number term = not (is_a_number term)
is_other_kind a_date term = not (is_a_date term)
is_other_kind a_list term = not (is_empty_list (last_tail term))

-- whether this is so of some argument and what is asked of it
abbrev pub is_some_so : (Need → Tree → Bool) → List Need → List Tree → Bool
is_some_so is_so [] terms = false
is_some_so is_so (need ∷ others) [] = false
is_some_so is_so (need ∷ others) (term ∷ terms) = is_so need term || is_some_so is_so others terms
