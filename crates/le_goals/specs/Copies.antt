-- The symbols of terms that are read out of cells.
use Rattle.std.specs.Prelude.{ℕ, List}
use Rattle.le_terms.specs.Tree.{flat}
use Rattle.le_terms.specs.declared.term.Sym.{Sym}
use Rattle.le_store.specs.Shown.{Snapshot}
use Rattle.le_goals.specs.Frames.{cell_term}

-- the symbols of the term of the cell of a variable
abbrev pub cell_symbols : Snapshot → ℕ → ℕ → List Sym
cell_symbols cells base v = flat (cell_term cells base v)
