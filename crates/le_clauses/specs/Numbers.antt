-- The numbering of variables by their places. Callers don't need it.
use Rattle.std.specs.Prelude.{ℕ, List}
use Rattle.le_terms.specs.Tree.{Tree, variable}
use Rattle.le_terms.specs.declared.term.Sym.{Sym}
use Rattle.le_terms.specs.declared.term.Sym.TheVariants.{Name, Num, Day, Var, Nil, Cons}
use Rattle.le_clauses.specs.Groups.{number_in}

-- the variable whose number is the place of another among some
abbrev pub by_place : List ℕ → ℕ → Tree
by_place vars v = variable (number_in vars v)

-- a symbol whose variable has its place as its number
abbrev pub numbered_sym : List ℕ → Sym → Sym
numbered_sym vars (Name n) = Name n
numbered_sym vars (Num z) = Num z
numbered_sym vars (Day d) = Day d
numbered_sym vars (Var v) = Var (number_in vars v)
numbered_sym vars Nil = Nil
numbered_sym vars Cons = Cons
