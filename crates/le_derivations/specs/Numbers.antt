-- How the variables of a derivation are told apart and numbered, one after another.
use Rattle.std.specs.Prelude.{ℕ, suc, ◌+◌, ◌*◌, ◌<◌, ◌≤◌, ◌^◌, length, List, [], ◌∷◌, ◌++◌, map}
use Rattle.le_terms.specs.declared.term.Sym.{Sym}
use Rattle.le_terms.specs.declared.term.Sym.TheVariants.{Name, Num, Day, Var, Nil, Cons}
use Rattle.le_terms.specs.Tree.{Tree, variable}
use Rattle.le_terms.specs.Variables.{all_occurrences, place_in}
use Rattle.le_subst.specs.Unifiers.{value_at}
use Rattle.le_proofs.specs.declared.node.Node.{Node}
use Rattle.le_proofs.specs.Derivations.{node_terms, node_under, told_apart, parts_of, scope_below, times}
use Rattle.le_derivations.specs.declared.changing.Change.{Change}
use Rattle.le_derivations.specs.declared.changing.Change.TheVariants.{Apply, Number}

-- the number of a variable of one of fewer searches than this width, among those of all of them
abbrev pub key : ℕ → ℕ → ℕ → ℕ
key width scope v = v * width + scope

-- the numbers of the variables of terms of a search, each as often as it occurs
abbrev pub keys_of : ℕ → ℕ → List Tree → List ℕ
keys_of width scope terms = map (key width scope) (all_occurrences terms)

-- those of nodes, each of the search beside it
abbrev pub nodes_keys : ℕ → List ℕ → List Node → List ℕ
nodes_keys width [] nodes = []
nodes_keys width (scope ∷ scopes) [] = []
nodes_keys width (scope ∷ scopes) (node ∷ nodes) = keys_of width scope (node_terms node) ++ nodes_keys width scopes nodes

-- the searches whose variables nodes have, where these are the searches of the parts still to come
abbrev pub scopes_of : ℕ → List ℕ → List Node → List ℕ
scopes_of number scopes [] = []
scopes_of number [] (node ∷ nodes) = []
scopes_of number (scope ∷ scopes) (node ∷ nodes) = scope ∷ scopes_of (suc number) (times (parts_of node) (scope_below number scope node) scopes) nodes

-- the place of a variable of a search among some numbers, as a variable
abbrev pub numbered_by : List ℕ → ℕ → ℕ → ℕ → Tree
numbered_by keys width scope v = variable (place_in keys (key width scope v))

-- nodes with their variables told apart, each of the search beside it
abbrev pub told : ℕ → List ℕ → List Node → List Node
told count [] nodes = []
told count (scope ∷ scopes) [] = []
told count (scope ∷ scopes) (node ∷ nodes) = node_under (told_apart count scope) node ∷ told count scopes nodes

-- nodes with their variables numbered so
abbrev pub numbered_nodes : List ℕ → ℕ → List ℕ → List Node → List Node
numbered_nodes keys width [] nodes = []
numbered_nodes keys width (scope ∷ scopes) [] = []
numbered_nodes keys width (scope ∷ scopes) (node ∷ nodes) = node_under (numbered_by keys width scope) node ∷ numbered_nodes keys width scopes nodes

-- what a change has for a variable
abbrev pub by_of : Change → ℕ → Tree
by_of (Apply subst) = value_at subst.now
by_of (Number keys width scope) = numbered_by keys.now.keys width scope

-- a change can be made: the numbers fit
abbrev pub CanChange : Change → Type 0
CanChange (Apply subst) = Unit {0}
CanChange (Number keys width scope) = (length keys.now.keys < 2 ^ 32) × (width ≤ 2 ^ 31) × (scope < width)

-- a symbol with a variable's number changed
abbrev pub renamed_symbol : (ℕ → ℕ) → Sym → Sym
renamed_symbol rename (Name n) = Name n
renamed_symbol rename (Num z) = Num z
renamed_symbol rename (Day d) = Day d
renamed_symbol rename (Var v) = Var (rename v)
renamed_symbol rename Nil = Nil
renamed_symbol rename Cons = Cons
