-- What a walk over the symbols of terms finds, one symbol after another.
use Rattle.std.specs.Prelude.{ℕ, suc, ◌==◌, Bool, true, false, List, [], ◌∷◌, ◌++◌, if◌then◌else◌}
use Rattle.std.specs.List.{list_any}
use Rattle.le_terms.specs.declared.term.Sym.{Sym}
use Rattle.le_terms.specs.declared.term.Sym.TheVariants.{Name, Num, Day, Var, Nil, Cons}
use Rattle.le_terms.specs.Variables.{place_in}

-- whether a symbol is a variable
abbrev pub is_variable : Sym → Bool
is_variable (Name n) = false
is_variable (Num z) = false
is_variable (Day d) = false
is_variable (Var v) = true
is_variable Nil = false
is_variable Cons = false

-- the variables among some symbols
abbrev pub symbol_variables : List Sym → List ℕ
symbol_variables [] = []
symbol_variables (Name n ∷ symbols) = symbol_variables symbols
symbol_variables (Num z ∷ symbols) = symbol_variables symbols
symbol_variables (Day d ∷ symbols) = symbol_variables symbols
symbol_variables (Var v ∷ symbols) = v ∷ symbol_variables symbols
symbol_variables (Nil ∷ symbols) = symbol_variables symbols
symbol_variables (Cons ∷ symbols) = symbol_variables symbols

-- numbers with one more at their end, unless it is there
abbrev pub noted : List ℕ → ℕ → List ℕ
noted ns n = if list_any (λ m. n == m) ns then ns else ns ++ n ∷ []

-- numbers with each of some more at their end, unless it is there by then
abbrev pub all_noted : List ℕ → List ℕ → List ℕ
all_noted ns [] = ns
all_noted ns (m ∷ ms) = all_noted (noted ns m) ms

-- a symbol whose variable has its place among some variables as its number
abbrev pub renumbered : List ℕ → Sym → Sym
renumbered vars (Name n) = Name n
renumbered vars (Num z) = Num z
renumbered vars (Day d) = Day d
renumbered vars (Var v) = Var (place_in vars v)
renumbered vars Nil = Nil
renumbered vars Cons = Cons

-- how many trees are wanted after a symbol, where so many more were wanted with it
abbrev pub wanted_after : Sym → ℕ → ℕ
wanted_after (Name n) more = more
wanted_after (Num z) more = more
wanted_after (Day d) more = more
wanted_after (Var v) more = more
wanted_after Nil more = more
wanted_after Cons more = suc (suc more)
