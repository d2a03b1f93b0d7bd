-- What becomes of the variables of terms at a step of the search.
use Rattle.std.specs.Prelude.{ℕ, ◌+◌, ◌<◌, ◌^◌, List}
use Rattle.std.specs.List.{AllByRecursion}
use Rattle.le_terms.specs.declared.term.Sym.{Sym}
use Rattle.le_terms.specs.declared.term.Sym.TheVariants.{Name, Num, Day, Var, Nil, Cons}
use Rattle.le_terms.specs.Tree.{Tree}
use Rattle.le_subst.specs.Unifiers.{value_at}
use Rattle.le_proofs.specs.Goals.{raised}
use Rattle.le_literals.specs.declared.changing.Change.{Change}
use Rattle.le_literals.specs.declared.changing.Change.TheVariants.{Raise, Apply}

-- what a change has for a variable
abbrev pub by_of : Change → ℕ → Tree
by_of (Raise next) = raised next
by_of (Apply subst) = value_at subst.now

-- the numbers of some variables stay numbers of 32 bits once they are raised
abbrev pub CanRaise : ℕ → List ℕ → Type 0
CanRaise next vars = AllByRecursion (λ v. next + v < 2 ^ 32) vars

-- some variables can be changed so
abbrev pub Allows : Change → List ℕ → Type 0
Allows (Raise next) vars = CanRaise next vars
Allows (Apply subst) vars = Unit {0}

-- a symbol with a variable's number raised
abbrev pub raised_symbol : ℕ → Sym → Sym
raised_symbol next (Name n) = Name n
raised_symbol next (Num z) = Num z
raised_symbol next (Day d) = Day d
raised_symbol next (Var v) = Var (next + v)
raised_symbol next Nil = Nil
raised_symbol next Cons = Cons
