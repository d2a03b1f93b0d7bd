-- The length and the end of a list: a cell's tail is the rest of its list.
use Rattle.std.specs.Prelude.{ℕ, suc}
use Rattle.le_terms.specs.Tree.{Tree, cell}

-- how many items a list has, up to its last tail
abbrev pub list_length : Tree → ℕ
list_length (cell head tail) = suc (list_length tail)
list_length term = 0

-- what stands after the last item of a list: the empty list where it ends there
abbrev pub last_tail : Tree → Tree
last_tail (cell head tail) = last_tail tail
last_tail term = term
