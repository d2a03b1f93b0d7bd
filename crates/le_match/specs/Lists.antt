-- The term of a list by the tree of its tokens: this project's profile.
use Rattle.std.specs.Prelude.{ℕ, Bool, Result, Ok, Err, List}
use Rattle.le_base.specs.declared.stop.Refusal.{Refusal}
use Rattle.le_layout.specs.declared.layout.Layout.{Layout}
use Rattle.le_templates.specs.declared.part.Template.{Template}
use Rattle.le_terms.specs.Tree.{Tree, nil, cell}
use Rattle.le_scope.specs.Lists.{Phrase, simple, empty, list, Items, last, more, tail}
use Rattle.le_scope.specs.Scopes.{ScopeState}
use Rattle.le_match.specs.Terms.{Found, term_found, simple_term}

-- a term as the head of a cell whose tail was found after it
abbrev pub as_head : Tree → Result (Found Tree) Refusal → Result (Found Tree) Refusal
as_head head (Ok f) = Ok (record { value = cell head f.value; names = f.names; scope = f.scope })
as_head head (Err refusal) = Err refusal

-- the cell of a head, and of a tail that is found with the names and the scope after the head
abbrev pub cell_found : Result (Found Tree) Refusal → (List (List ℕ) → ScopeState → Result (Found Tree) Refusal) → Result (Found Tree) Refusal
cell_found (Ok f) rest = as_head f.value (rest f.names f.scope)
cell_found (Err refusal) rest = Err refusal

-- The term of a phrase by its tree, from left to right: `[]` is the empty list, the last phrase of a list is the head of a cell whose tail is the empty list, a phrase before a comma is the head of a cell whose tail is the term of the items that follow, and a phrase before a bar is the head of a cell whose tail is the term of the phrase after the bar.
abbrev mutual
  pub tree_term : List Template → List (List ℕ) → ScopeState → Bool → Layout → Phrase → Result (Found Tree) Refusal
  tree_term users names scope query layout (simple ts) = simple_term users names scope query layout ts
  tree_term users names scope query layout (empty opening closing) = term_found names scope nil
  tree_term users names scope query layout (list opening items) = items_term users names scope query layout items

  pub items_term : List Template → List (List ℕ) → ScopeState → Bool → Layout → Items → Result (Found Tree) Refusal
  items_term users names scope query layout (last p closing) =
      cell_found (tree_term users names scope query layout p) (λ ns s. term_found ns s nil)
  items_term users names scope query layout (more p comma items) =
      cell_found (tree_term users names scope query layout p) (λ ns s. items_term users ns s query layout items)
  items_term users names scope query layout (tail p bar q closing) =
      cell_found (tree_term users names scope query layout p) (λ ns s. tree_term users ns s query layout q)
