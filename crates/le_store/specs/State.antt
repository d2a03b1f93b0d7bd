-- What holds of the fields of each store.
use Rattle.std.specs.Prelude.{◌≡◌, ℕ, ◌<◌, ◌≤◌, false, List, [], ◌∷◌, length, map, get_or, take, None}
use Rattle.std.specs.List.{AllByRecursion}
use Rattle.le_base.specs.Ranges.{IsNumber, IsDay}
use Rattle.le_terms.specs.Tree.{Tree, variable, nil}
use Rattle.le_terms.specs.Variables.{replaced}
use Rattle.le_subst.specs.Solution.{occurs}
use Rattle.le_store.specs.declared.cells.Cell.{Cell}
use Rattle.le_store.specs.declared.cells.Cell.TheVariants.{Name, Num, Day, Nil, Cons, Link, Var, Bound}
use Rattle.le_store.specs.declared.cells.Entry.{Entry}
use Rattle.le_store.specs.declared.cells.Lengths.{Lengths}
use Rattle.le_store.specs.Cells.{written, trees_in, extended, variable_cells, target, binding_at}

-- a written cell after so many cells, so many of them variables: it points to those alone, and a variable's number is how many there are
abbrev pub IsCellAfter : ℕ → ℕ → Cell → Type 0
IsCellAfter at vars (Name n) = Unit {0}
IsCellAfter at vars (Num z) = IsNumber z
IsCellAfter at vars (Day d) = IsDay d
IsCellAfter at vars Nil = Unit {0}
IsCellAfter at vars (Cons tail end) = (tail < at) × (end ≤ tail)
IsCellAfter at vars (Link to) = to < at
IsCellAfter at vars (Var n) = n ≡ vars
IsCellAfter at vars (Bound n to) = ⊥

-- each of some written cells is so
abbrev pub AreCells : List Cell → Type 0
AreCells cells = (at : ℕ) → at < length cells → IsCellAfter at (length (variable_cells 0 (take at cells))) (get_or cells at Nil)

-- a binding's variable is a variable cell, and the cell that it is bound to is there
pub record Fits (cells : List Cell) (entry : Entry) : Type 0 where
  pub var_there : entry.var < length cells
  pub var : get_or cells entry.var Nil ≡ Var entry.number
  pub to : entry.to < length cells

-- no cell is bound twice
abbrev pub AreDistinct : List Entry → Type 0
AreDistinct [] = Unit {0}
AreDistinct (entry ∷ entries) = (binding_at entries entry.var ≡ None) × AreDistinct entries

-- each variable was free when it was bound, and didn't occur in its term
abbrev pub AreApart : List Tree → (ℕ → Tree) → List Entry → Type 0
AreApart trees by [] = Unit {0}
AreApart trees by (entry ∷ entries) =
    (by entry.number ≡ variable entry.number)
    × (occurs entry.number (replaced by (get_or trees entry.to nil)) ≡ false)
    × AreApart trees (extended by entry.number (replaced by (get_or trees entry.to nil))) entries

-- the bindings of written cells
pub record AreBindings (cells : List Cell) (trail : List Entry) : Type 0 where
  pub fit : AllByRecursion (Fits cells) trail
  pub distinct : AreDistinct trail
  pub apart : AreApart (trees_in cells) variable trail

-- a mark's lengths lie within, and its bindings are of its cells
pub record IsMark (cells : List Cell) (trail : List Entry) (mark : Lengths) : Type 0 where
  pub cells_ : mark.cells ≤ length cells
  pub trail_ : mark.trail ≤ length trail
  pub vars : mark.vars ≡ length (variable_cells 0 (take mark.cells cells))
  pub bindings : AreBindings (take mark.cells cells) (take mark.trail trail)

-- no mark has more cells or bindings than a later one
abbrev pub AreBelow : ℕ → ℕ → List Lengths → Type 0
AreBelow cells trail [] = Unit {0}
AreBelow cells trail (mark ∷ marks) = (cells ≤ mark.cells) × (trail ≤ mark.trail) × AreBelow mark.cells mark.trail marks

-- the cells that are bound are those of the bindings
abbrev pub Agrees : List Cell → List Entry → Type 0
Agrees cells trail = (at : ℕ) → target (get_or cells at Nil) ≡ binding_at trail at

-- a store's fields
pub record IsStore (cells : List Cell) (trail : List Entry) (marks : List Lengths) (vars : ℕ) : Type 0 where
  pub cells_ : AreCells (map written cells)
  pub bindings : AreBindings (map written cells) trail
  pub agrees : Agrees cells trail
  pub vars_ : vars ≡ length (variable_cells 0 (map written cells))
  pub marks_ : AllByRecursion (IsMark (map written cells) trail) marks
  pub order : AreBelow 0 0 marks
