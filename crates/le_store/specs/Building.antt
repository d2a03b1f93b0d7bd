-- The cells of a term that is being built, from its last symbol to its first.
use Rattle.std.specs.Prelude.{◌≡◌, ℕ, suc, ◌+◌, ◌-◌, ◌<◌, ◌≤◌, List, [], ◌∷◌, ◌++◌, length, get_or}
use Rattle.le_terms.specs.declared.term.Sym.{Sym}
use Rattle.le_terms.specs.declared.term.Sym.TheVariants as symbol
use Rattle.le_base.specs.Ranges.{IsNumber, IsDay}
use Rattle.le_terms.specs.Tree.{Tree, nil, trees_of}
use Rattle.le_subst.specs.Solution.{size}
use Rattle.le_store.specs.declared.cells.Cell.{Cell}
use Rattle.le_store.specs.declared.cells.Cell.TheVariants.{Name, Num, Day, Nil, Cons, Link, Var, Bound}
use Rattle.le_store.specs.Cells.{trees_in}

-- the lowest cell of the cells of a term
abbrev pub end_from : ℕ → Cell → ℕ
end_from at (Name n) = at
end_from at (Num z) = at
end_from at (Day d) = at
end_from at Nil = at
end_from at (Cons tail end) = end
end_from at (Link to) = at
end_from at (Var n) = at
end_from at (Bound n to) = at

abbrev pub end_at : List Cell → ℕ → ℕ
end_at cells at = end_from at (get_or cells at Nil)

-- the cells from one on up to another are those of these trees, the first tree's last
abbrev pub Holds : List Cell → ℕ → ℕ → List Tree → Type 0
Holds cells from top [] = top ≡ from
Holds cells from top (tree ∷ trees) =
    (from < top) × (top ≤ length cells) × (get_or (trees_in cells) (top - 1) nil ≡ tree) × (end_at cells (top - 1) < top) × Holds cells from (end_at cells (top - 1)) trees

-- a cell that is no variable's, after so many cells: it points to those alone
abbrev pub IsPlain : ℕ → Cell → Type 0
IsPlain at (Name n) = Unit {0}
IsPlain at (Num z) = IsNumber z
IsPlain at (Day d) = IsDay d
IsPlain at Nil = Unit {0}
IsPlain at (Cons tail end) = (tail < at) × (end ≤ tail)
IsPlain at (Link to) = to < at
IsPlain at (Var n) = ⊥
IsPlain at (Bound n to) = ⊥

abbrev pub ArePlain : ℕ → List Cell → Type 0
ArePlain at [] = Unit {0}
ArePlain at (one_cell ∷ cells) = IsPlain at one_cell × ArePlain (suc at) cells

-- so many such cells were put after some cells
pub record Grown (old new : List Cell) (count : ℕ) : Type 0 where
  pub more : List Cell
  pub is : new ≡ old ++ more
  pub few : length more ≡ count
  pub plain : ArePlain (length old) more

-- a symbol that a term may have, whose variable has a cell among so many from this one on
abbrev pub FitsCells : ℕ → ℕ → Sym → Type 0
FitsCells base count (symbol.Name n) = Unit {0}
FitsCells base count (symbol.Num z) = IsNumber z
FitsCells base count (symbol.Day d) = IsDay d
FitsCells base count (symbol.Var v) = base + v < count
FitsCells base count symbol.Nil = Unit {0}
FitsCells base count symbol.Cons = Unit {0}

-- how many symbols some trees have
abbrev pub forest_size : List Tree → ℕ
forest_size [] = 0
forest_size (tree ∷ trees) = size tree + forest_size trees

-- some symbols are those of trees, and none is left
abbrev pub IsWhole : List Sym → Type 0
IsWhole syms = forest_size (trees_of syms) ≡ length syms

-- the tree of the cell of a variable
abbrev pub by_cells : List Cell → ℕ → ℕ → Tree
by_cells cells base v = get_or (trees_in cells) (base + v) nil

-- the cell of a symbol, after the cells of the trees of the symbols that follow it
abbrev pub cell_of : List Cell → ℕ → Sym → Cell
cell_of cells base (symbol.Name n) = Name n
cell_of cells base (symbol.Num z) = Num z
cell_of cells base (symbol.Day d) = Day d
cell_of cells base (symbol.Var v) = Link (base + v)
cell_of cells base symbol.Nil = Nil
cell_of cells base symbol.Cons = Cons (end_at cells (length cells - 1) - 1) (end_at cells (end_at cells (length cells - 1) - 1))

-- what that cell points to is there
abbrev pub IsReady : List Cell → ℕ → Sym → Type 0
IsReady cells base (symbol.Name n) = Unit {0}
IsReady cells base (symbol.Num z) = Unit {0}
IsReady cells base (symbol.Day d) = Unit {0}
IsReady cells base (symbol.Var v) = base + v < length cells
IsReady cells base symbol.Nil = Unit {0}
IsReady cells base symbol.Cons = (0 < length cells) × (0 < end_at cells (length cells - 1)) × (end_at cells (length cells - 1) ≤ length cells)
