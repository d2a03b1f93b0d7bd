-- Which trees the blocks of conditions have: this project's profile.
use Rattle.std.specs.Prelude.{◌≡◌, ◌≤◌, ◌<◌, ℕ, true, false, Option, Some, None, List, [], ◌∷◌, ◌++◌}
use Rattle.std.specs.List.{AllByRecursion}
use Rattle.le_layout.specs.declared.span.Span.{Span}
use Rattle.le_base.specs.declared.stop.FoldKind.{FoldKind}
use Rattle.le_conds.specs.declared.entry.Join.{Join}
use Rattle.le_conds.specs.declared.entry.Join.TheVariants.{Plain}
use Rattle.le_conds.specs.declared.entry.Opens.{Opens}
use Rattle.le_conds.specs.declared.entry.Opens.TheVariants.{Nothing, Negation, ForAll, Second, Stray, Gather}
use Rattle.le_conds.specs.declared.entry.Entry.{Entry}
use Rattle.le_conds.specs.Trees.{Tree, Trees, none, more, sentence, negation, for_all, gather}
use Rattle.le_conds.specs.Members.{is_empty, of_several}
use Rattle.le_conds.specs.Faults.{is_connective}

-- each of some items is deeper than this column
abbrev pub AreDeeper : ℕ → List Entry → Type 0
AreDeeper column es = AllByRecursion (λ (e : Entry). column < e.column) es

-- the sentence that follows an opener or a marker in its own item, if there is one
abbrev pub HasHead : Entry → Option Span → Type 0
HasHead e (Some s) = (is_empty e.inline ≡ false) × (e.inline ≡ s)
HasHead e None = is_empty e.inline ≡ true

-- What stands in a block, case by case.
mutual
  -- these items are a member at this column, which begins so, and this is its tree
  pub data IsMember : ℕ → Join → List Entry → Tree → Type 0 where
    a_sentence : (e : Entry) (deeper : List Entry) (t : Tree) → e.opens ≡ Nothing → AreDeeper e.column deeper → IsBlock (Some e.inline) deeper t → IsMember e.column e.lead (e ∷ deeper) t
    a_negation : (e : Entry) → e.opens ≡ Negation → is_empty e.inline ≡ false → IsMember e.column e.lead (e ∷ []) (negation e.own (sentence e.inline))
    a_negation_of_block : (e : Entry) (deeper : List Entry) (t : Tree) → e.opens ≡ Negation → is_empty e.inline ≡ true → AreDeeper e.column deeper → IsBlock None deeper t → IsMember e.column e.lead (e ∷ deeper) (negation e.own t)
    a_gather : (e : Entry) (fold : FoldKind) (result name : Span) (head : Option Span) (deeper : List Entry) (t : Tree) → e.opens ≡ Gather fold result name → HasHead e head → AreDeeper e.column deeper → IsBlock head deeper t → IsMember e.column e.lead (e ∷ deeper) (gather e.own fold result name t)
    a_for_all : (e marker : Entry) (head second_head : Option Span) (first second : List Entry) (t u : Tree) → e.opens ≡ ForAll → HasHead e head → AreDeeper e.column first → IsBlock head first t
        → marker.opens ≡ Second e.column → e.column ≤ marker.column → HasHead marker second_head → AreDeeper e.column second → IsBlock second_head second u
        → IsMember e.column e.lead (e ∷ first ++ marker ∷ second) (for_all e.own t u)

  -- these items are a block after a sentence that heads it, or without one, and this is its tree
  pub data IsBlock : Option Span → List Entry → Tree → Type 0 where
    head_alone : (s : Span) → IsBlock (Some s) [] (sentence s)
    head_with : (s : Span) (column : ℕ) (lead : Join) (es : List Entry) (ts : Trees) → is_connective lead ≡ true → IsMembers column lead es ts → IsBlock (Some s) es (of_several lead (more (sentence s) ts))
    one : (column : ℕ) (es : List Entry) (t : Tree) → IsMember column Plain es t → IsBlock None es t
    several : (column : ℕ) (lead : Join) (first others : List Entry) (t : Tree) (ts : Trees) → is_connective lead ≡ true → IsMember column Plain first t → IsMembers column lead others ts → IsBlock None (first ++ others) (of_several lead (more t ts))

  -- these items are one or more members at this column, each of which begins so, and these are their trees
  pub data IsMembers : ℕ → Join → List Entry → Trees → Type 0 where
    last : (column : ℕ) (lead : Join) (es : List Entry) (t : Tree) → IsMember column lead es t → IsMembers column lead es (more t none)
    next : (column : ℕ) (lead : Join) (es others : List Entry) (t : Tree) (ts : Trees) → IsMember column lead es t → IsMembers column lead others ts → IsMembers column lead (es ++ others) (more t ts)

-- each marker is that of the last `for all` before it that has none yet, where the `for all`s of these columns have none
abbrev pub IsMatched : Opens → ℕ → List ℕ → (List ℕ → Type 0) → Type 0
IsMatched Nothing column columns rest = rest columns
IsMatched Negation column columns rest = rest columns
IsMatched (Gather fold result name) column columns rest = rest columns
IsMatched ForAll column columns rest = rest (column ∷ columns)
IsMatched (Second c) column [] rest = ⊥
IsMatched (Second c) column (d ∷ columns) rest = (c ≡ d) × rest columns
IsMatched Stray column [] rest = rest []
IsMatched Stray column (d ∷ columns) rest = ⊥

abbrev pub AreMatched : List ℕ → List Entry → Type 0
AreMatched columns [] = Unit {0}
AreMatched columns (e ∷ es) = IsMatched e.opens e.column columns (λ others. AreMatched others es)
