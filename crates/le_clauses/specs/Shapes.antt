-- Which lists of conditions and of parts are those of trees in preorder.
use Rattle.std.specs.Prelude.{◌≡◌, ◌⊎◌, ℕ, zero, suc, ◌+◌, List, [], ◌∷◌, length, All, Option, None, Some}
use Rattle.le_layout.specs.declared.layout.Layout.{Layout}
use Rattle.le_conds.specs.Bounds.{IsCondIn}
use Rattle.le_conds.specs.declared.cond.Conds.{Conds}
use Rattle.le_conds.specs.declared.cond.CondKind.{CondKind}
use Rattle.le_conds.specs.declared.cond.CondKind.TheVariants as conds
use Rattle.le_conds.specs.declared.cond.Cond.{Cond}
use Rattle.le_clauses.specs.declared.part.Part.{Part}
use Rattle.le_clauses.specs.Walks.{below}

-- how many conditions stand below one of this kind
abbrev pub count_below : CondKind → ℕ
count_below (conds.Sentence span) = 0
count_below (conds.And n) = n
count_below (conds.Or n) = n
count_below conds.Not = 1
count_below conds.ForAll = 2
count_below (conds.Gather fold total name) = 1

-- conditions are those of so many trees
abbrev pub NodesFit : ℕ → List Cond → Type 0
NodesFit zero [] = Unit {0}
NodesFit zero (c ∷ cs) = ⊥
NodesFit (suc n) [] = ⊥
NodesFit (suc n) (c ∷ cs) = NodesFit (n + count_below c.kind) cs

-- parts are those of so many trees
abbrev pub PartsFit : ℕ → List Part → Type 0
PartsFit zero [] = Unit {0}
PartsFit zero (p ∷ ps) = ⊥
PartsFit (suc n) [] = ⊥
PartsFit (suc n) (p ∷ ps) = PartsFit (n + length (below p)) ps

-- the conditions of a query or a rule are those of one tree; a fact has none
abbrev pub IsShape : List Part → Type 0
IsShape ps = (ps ≡ []) ⊎ PartsFit 1 ps

-- a rule's conditions lie among the tokens of a layout and are those of one tree
abbrev pub AreNodesIn : Layout → Option Conds → Type 0
AreNodesIn layout None = Unit {0}
AreNodesIn layout (Some conds) = All (IsCondIn layout) conds.nodes × NodesFit 1 conds.nodes
