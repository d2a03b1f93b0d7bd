-- The variables of terms in the order in which they first occur, and their renumbering.
use Rattle.std.specs.Prelude.{◌≡◌, ℕ, ◌+◌, ◌==◌, not, List, [], ◌∷◌, ◌++◌, map, filter, position, Option, Some, None}
use Rattle.le_terms.specs.Tree.{Tree, constant, number, date, variable, nil, cell}

-- the variables of a tree from left to right, each as often as it occurs
abbrev pub occurrences : Tree → List ℕ
occurrences (constant n) = []
occurrences (number z) = []
occurrences (date d) = []
occurrences (variable v) = v ∷ []
occurrences nil = []
occurrences (cell head tail) = occurrences head ++ occurrences tail

-- those of several trees
abbrev pub all_occurrences : List Tree → List ℕ
all_occurrences [] = []
all_occurrences (tree ∷ trees) = occurrences tree ++ all_occurrences trees

-- each number of a list once, where it first occurs
abbrev pub firsts : List ℕ → List ℕ
firsts [] = []
firsts (n ∷ ns) = n ∷ filter (λ m. not (n == m)) (firsts ns)

-- the variables of a tree, in order of first occurrence
abbrev pub variables : Tree → List ℕ
variables tree = firsts (occurrences tree)

-- those of several trees
abbrev pub all_variables : List Tree → List ℕ
all_variables trees = firsts (all_occurrences trees)

-- a tree without variables
abbrev pub IsGround : Tree → Type 0
IsGround tree = variables tree ≡ []

-- a tree with each variable replaced by a tree, all at once
abbrev pub replaced : (ℕ → Tree) → Tree → Tree
replaced by (constant n) = constant n
replaced by (number z) = number z
replaced by (date d) = date d
replaced by (variable v) = by v
replaced by nil = nil
replaced by (cell head tail) = cell (replaced by head) (replaced by tail)

-- the place of a number in a list, counted from 1, or 0 where it isn't there
abbrev pub place_after : Option ℕ → ℕ
place_after (Some place) = place + 1
place_after None = 0

abbrev pub place_in : List ℕ → ℕ → ℕ
place_in ns n = place_after (position (λ m. n == m) ns)

-- trees whose variables are numbered from 1, in order of first occurrence over all of them
abbrev pub canonical_of : List Tree → List Tree
canonical_of trees = map (replaced (λ v. variable (place_in (all_variables trees) v))) trees
