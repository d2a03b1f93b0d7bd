-- Worked examples of the definitions.
use Rattle.std.proofs.Common.{◌≡◌, pos, negsuc, [], ◌∷◌, ◌-◌, ◌^◌, refl}
use Rattle.le_terms.specs.declared.term.Sym.TheVariants.{Num}
use Rattle.le_terms.specs.Tree.{constant, number, date, variable, nil, cell}
use Rattle.le_values.specs.Days.{days_later}
use Rattle.le_builtins.specs.declared.computing.Calc.TheVariants.{Gives, Holds, No, Unbound, Range}
use Rattle.le_builtins.specs.Compute.{compute}

-- an unbound argument comes before one of another kind
unbound_first : compute 2 (constant 4 ∷ variable 0 ∷ []) ≡ Unbound
unfolding compute
unbound_first = refl

-- a name is no number
no_number : compute 2 (constant 4 ∷ number (pos 1) ∷ []) ≡ No
unfolding compute
no_number = refl

-- terms with different items are different, and a variable inside makes the answer open
different_lists : compute 1 (cell (constant 4) nil ∷ cell (constant 5) nil ∷ []) ≡ Holds
unfolding compute
different_lists = refl

open_list : compute 1 (cell (variable 0) nil ∷ constant 5 ∷ []) ≡ Unbound
unfolding compute
open_list = refl

-- the floor of -7 over 2 is -4, and there is none over 0
floor_of_half : compute 13 (variable 0 ∷ number (negsuc 6) ∷ number (pos 2) ∷ []) ≡ Gives (Num (negsuc 3))
unfolding compute
floor_of_half = refl

none_by_zero : compute 13 (variable 0 ∷ number (pos 7) ∷ number (pos 0) ∷ []) ≡ No
unfolding compute
none_by_zero = refl

-- 10^18 is the greatest sum
greatest_sum : compute 10 (variable 0 ∷ number (pos (10 ^ 18 - 1)) ∷ number (pos 1) ∷ []) ≡ Gives (Num (pos (10 ^ 18)))
unfolding compute
greatest_sum = refl

too_great : compute 10 (variable 0 ∷ number (pos (10 ^ 18)) ∷ number (pos 1) ∷ []) ≡ Range
unfolding compute
too_great = refl

-- the days from one date to a later one
days_on : compute 16 (variable 0 ∷ date (pos 10) ∷ date (pos 12) ∷ []) ≡ Gives (Num (pos 2))
unfolding compute
days_on = refl

-- no day follows the last
after_the_last : compute 14 (variable 0 ∷ number (pos 1) ∷ date (pos 2_932_896) ∷ []) ≡ Range
unfolding compute days_later
after_the_last = refl

-- a list has as many items as it has cells, if it ends
two_items : compute 17 (variable 0 ∷ cell (variable 1) (cell nil nil) ∷ []) ≡ Gives (Num (pos 2))
unfolding compute
two_items = refl

improper : compute 17 (variable 0 ∷ cell nil (constant 4) ∷ []) ≡ No
unfolding compute
improper = refl
