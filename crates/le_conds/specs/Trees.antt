-- Trees of conditions, and their conditions in preorder: this project's profile.
use Rattle.std.specs.Prelude.{◌≡◌, ℕ, suc, ◌≤◌, List, [], ◌∷◌, ◌++◌}
use Rattle.le_layout.specs.declared.span.Span.{Span}
use Rattle.le_base.specs.declared.stop.FoldKind.{FoldKind}
use Rattle.le_conds.specs.declared.cond.CondKind.{CondKind}
use Rattle.le_conds.specs.declared.cond.CondKind.TheVariants as kinds
use Rattle.le_conds.specs.declared.cond.Cond.{Cond}

-- a condition: a sentence, all or one of several, a negation, a `for all` with its two blocks, or a gather; each opener with its first token
mutual
  pub data Tree : Type 0 where
    sentence : Span → Tree
    all : Trees → Tree
    some : Trees → Tree
    negation : ℕ → Tree → Tree
    for_all : ℕ → Tree → Tree → Tree
    gather : ℕ → FoldKind → Span → Span → Tree → Tree

  pub data Trees : Type 0 where
    none : Trees
    more : Tree → Trees → Trees

-- the first token of a condition; that of several is the first one's
abbrev mutual
  pub at_of : Tree → ℕ
  at_of (sentence s) = s.from
  at_of (all ts) = at_of_first ts
  at_of (some ts) = at_of_first ts
  at_of (negation at t) = at
  at_of (for_all at t u) = at
  at_of (gather at fold result name t) = at

  pub at_of_first : Trees → ℕ
  at_of_first none = 0
  at_of_first (more t ts) = at_of t

-- how many conditions there are
abbrev pub count_of : Trees → ℕ
count_of none = 0
count_of (more t ts) = suc (count_of ts)

abbrev pub cond : CondKind → ℕ → Cond
cond kind at = record { kind = kind; at = at }

-- The conditions of a tree, each before those below it.
abbrev mutual
  pub flat : Tree → List Cond
  flat (sentence s) = cond (kinds.Sentence s) s.from ∷ []
  flat (all ts) = cond (kinds.And (count_of ts)) (at_of_first ts) ∷ flat_each ts
  flat (some ts) = cond (kinds.Or (count_of ts)) (at_of_first ts) ∷ flat_each ts
  flat (negation at t) = cond kinds.Not at ∷ flat t
  flat (for_all at t u) = cond kinds.ForAll at ∷ (flat t ++ flat u)
  flat (gather at fold result name t) = cond (kinds.Gather fold result name) at ∷ flat t

  pub flat_each : Trees → List Cond
  flat_each none = []
  flat_each (more t ts) = flat t ++ flat_each ts

-- wherever conditions are joined there are at least two
abbrev mutual
  pub IsJoined : Tree → Type 0
  IsJoined (sentence s) = Unit {0}
  IsJoined (all ts) = (2 ≤ count_of ts) × AreJoined ts
  IsJoined (some ts) = (2 ≤ count_of ts) × AreJoined ts
  IsJoined (negation at t) = IsJoined t
  IsJoined (for_all at t u) = IsJoined t × IsJoined u
  IsJoined (gather at fold result name t) = IsJoined t

  pub AreJoined : Trees → Type 0
  AreJoined none = Unit {0}
  AreJoined (more t ts) = IsJoined t × AreJoined ts

-- some conditions are those of one tree, in which at least two are joined wherever some are
pub record IsTree (conds : List Cond) : Type 0 where
  pub tree : Tree
  pub same : flat tree ≡ conds
  pub joined : IsJoined tree
