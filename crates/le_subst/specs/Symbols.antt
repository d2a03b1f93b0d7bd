-- Equations as two lists of symbols: those of the left sides, one term after another, and those of the right sides.
use Rattle.std.specs.Prelude.{◌≡◌, ℕ, ◌==◌, List, [], ◌∷◌, ◌++◌, if◌then◌else◌}
use Rattle.le_terms.specs.declared.term.Sym.{Sym}
use Rattle.le_terms.specs.declared.term.Sym.TheVariants.{Name, Num, Day, Var, Nil, Cons}
use Rattle.le_base.specs.Ranges.{IsNumber, IsDay}
use Rattle.le_terms.specs.Tree.{Tree, flat, trees_of}
use Rattle.le_subst.specs.Unifiers.{Equation, Bindings, value_at}

-- the symbols of the left sides
abbrev pub lefts : List Equation → List Sym
lefts [] = []
lefts (equation ∷ equations) = flat equation.0 ++ lefts equations

-- the symbols of the right sides
abbrev pub rights : List Equation → List Sym
rights [] = []
rights (equation ∷ equations) = flat equation.1 ++ rights equations

-- trees as the sides of equations, as far as both lists go
abbrev pub joined : List Tree → List Tree → List Equation
joined [] rights = []
joined (left ∷ lefts) [] = []
joined (left ∷ lefts) (right ∷ rights) = (left, right) ∷ joined lefts rights

-- the equations whose sides have these symbols
abbrev pub equations_of : List Sym → List Sym → List Equation
equations_of left right = joined (trees_of left) (trees_of right)

-- a number or a day is one that a term may have
abbrev pub IsSymbol : Sym → Type 0
IsSymbol (Name n) = Unit {0}
IsSymbol (Num z) = IsNumber z
IsSymbol (Day d) = IsDay d
IsSymbol (Var v) = Unit {0}
IsSymbol Nil = Unit {0}
IsSymbol Cons = Unit {0}

-- each number and each day among some symbols is so
abbrev pub AreSymbols : List Sym → Type 0
AreSymbols [] = Unit {0}
AreSymbols (symbol ∷ symbols) = IsSymbol symbol × AreSymbols symbols

-- two lists of symbols are those of the sides of equations
pub record AreSides (left right : List Sym) : Type 0 where
  pub left_whole : lefts (equations_of left right) ≡ left
  pub right_whole : rights (equations_of left right) ≡ right
  pub left_symbols : AreSymbols left
  pub right_symbols : AreSymbols right

-- a symbol with a variable replaced by some symbols
abbrev pub symbol_image : (ℕ → List Sym) → Sym → List Sym
symbol_image by (Name n) = Name n ∷ []
symbol_image by (Num z) = Num z ∷ []
symbol_image by (Day d) = Day d ∷ []
symbol_image by (Var v) = by v
symbol_image by Nil = Nil ∷ []
symbol_image by Cons = Cons ∷ []

-- symbols with each variable replaced by some symbols
abbrev pub images : (ℕ → List Sym) → List Sym → List Sym
images by [] = []
images by (symbol ∷ symbols) = symbol_image by symbol ++ images by symbols

-- one variable's symbols
abbrev pub one_image : ℕ → List Sym → ℕ → List Sym
one_image v image w = if w == v then image else Var w ∷ []

-- the symbols that a finite map has for a variable
abbrev pub map_image : Bindings → ℕ → List Sym
map_image bindings v = flat (value_at bindings v)
