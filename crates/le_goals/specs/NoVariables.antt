-- Whether the terms of variables' cells have variables of their own.
use Rattle.std.specs.Prelude.{ℕ, ◌==◌, ◌&&◌, Bool, true, List, [], ◌∷◌, length}
use Rattle.le_terms.specs.Tree.{Tree}
use Rattle.le_terms.specs.Variables.{occurrences}

-- a term has no variable
abbrev pub has_no_variable : Tree → Bool
has_no_variable tree = length (occurrences tree) == 0

-- the terms of some variables have none
abbrev pub have_no_variable : (ℕ → Tree) → List ℕ → Bool
have_no_variable by [] = true
have_no_variable by (v ∷ vs) = has_no_variable (by v) && have_no_variable by vs
