-- The cells and the bindings of a store, and the terms that they are. A cell as it was written points to earlier cells alone, so its tree is found from the first cell to the last; and the bindings replace variables in the order in which they were made, so the terms under them are found from the first binding to the last.
use Rattle.std.specs.Prelude.{ℕ, suc, ◌-◌, ◌==◌, List, [], ◌∷◌, ◌++◌, length, map, get_or, take, Option, Some, None, if◌then◌else◌}
use Rattle.le_terms.specs.Tree.{Tree, constant, number, date, variable, nil, cell}
use Rattle.le_terms.specs.Variables.{replaced}
use Rattle.le_subst.specs.Solution.{one}
use Rattle.le_store.specs.declared.cells.Cell.{Cell}
use Rattle.le_store.specs.declared.cells.Cell.TheVariants.{Name, Num, Day, Nil, Cons, Link, Var, Bound}
use Rattle.le_store.specs.declared.cells.Entry.{Entry}
use Rattle.le_store.specs.declared.cells.Lengths.{Lengths}
use Rattle.le_store.specs.Shown.{Snapshot}

-- a cell as it was written: that of a variable without its binding
abbrev pub written : Cell → Cell
written (Name n) = Name n
written (Num z) = Num z
written (Day d) = Day d
written Nil = Nil
written (Cons tail end) = Cons tail end
written (Link to) = Link to
written (Var n) = Var n
written (Bound n to) = Var n

-- the tree of a cell after cells with these trees
abbrev pub tree_after : List Tree → Cell → Tree
tree_after trees (Name n) = constant n
tree_after trees (Num z) = number z
tree_after trees (Day d) = date d
tree_after trees Nil = nil
tree_after trees (Cons tail end) = cell (get_or trees (length trees - 1) nil) (get_or trees tail nil)
tree_after trees (Link to) = get_or trees to nil
tree_after trees (Var n) = variable n
tree_after trees (Bound n to) = variable n

-- the trees of cells after cells with these trees
abbrev pub trees_from : List Tree → List Cell → List Tree
trees_from trees [] = trees
trees_from trees (one_cell ∷ cells) = trees_from (trees ++ tree_after trees one_cell ∷ []) cells

-- the trees of cells, without bindings
abbrev pub trees_in : List Cell → List Tree
trees_in cells = trees_from [] cells

-- what variables stand for, once one more variable is bound
abbrev pub extended : (ℕ → Tree) → ℕ → Tree → ℕ → Tree
extended by var tree v = replaced (one var tree) (by v)

-- what variables stand for once these bindings were made too, the first of them first
abbrev pub values_from : List Tree → (ℕ → Tree) → List Entry → ℕ → Tree
values_from trees by [] = by
values_from trees by (entry ∷ entries) = values_from trees (extended by entry.number (replaced by (get_or trees entry.to nil))) entries

-- what variables stand for under all bindings
abbrev pub values_under : List Cell → List Entry → ℕ → Tree
values_under cells trail = values_from (trees_in cells) variable trail

-- the cells of the variables
abbrev pub variable_cells : ℕ → List Cell → List ℕ
variable_cells at [] = []
variable_cells at (Name n ∷ cells) = variable_cells (suc at) cells
variable_cells at (Num z ∷ cells) = variable_cells (suc at) cells
variable_cells at (Day d ∷ cells) = variable_cells (suc at) cells
variable_cells at (Nil ∷ cells) = variable_cells (suc at) cells
variable_cells at (Cons tail end ∷ cells) = variable_cells (suc at) cells
variable_cells at (Link to ∷ cells) = variable_cells (suc at) cells
variable_cells at (Var n ∷ cells) = at ∷ variable_cells (suc at) cells
variable_cells at (Bound n to ∷ cells) = at ∷ variable_cells (suc at) cells

-- what contracts see of cells as they were written and their bindings
abbrev pub shown_cells : List Cell → List Entry → Snapshot
shown_cells cells trail = record { terms = map (replaced (values_under cells trail)) (trees_in cells); variables = variable_cells 0 cells }

-- the same at a mark, which keeps how many cells and bindings there were
abbrev pub shown_at : List Cell → List Entry → Lengths → Snapshot
shown_at cells trail lengths = shown_cells (take lengths.cells cells) (take lengths.trail trail)

-- the cell that a variable cell is bound to
abbrev pub target : Cell → Option ℕ
target (Name n) = None
target (Num z) = None
target (Day d) = None
target Nil = None
target (Cons tail end) = None
target (Link to) = None
target (Var n) = None
target (Bound n to) = Some to

-- the binding of a cell among some bindings
abbrev pub binding_at : List Entry → ℕ → Option ℕ
binding_at [] at = None
binding_at (entry ∷ entries) at = if entry.var == at then Some entry.to else binding_at entries at
