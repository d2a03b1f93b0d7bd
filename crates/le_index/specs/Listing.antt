-- What an index keeps of each predicate.
use Rattle.std.specs.Prelude.{◌≡◌, ℕ, ◌==◌, nat_eq, List, [], ◌∷◌, ◌++◌, Option, Some, None, if◌then◌else◌}
use Rattle.indexmap.specs.IndexMap.{IndexMap, get}
use Rattle.le_terms.specs.declared.program.Atom.{Atom}
use Rattle.le_terms.specs.declared.program.Clause.{Clause}
use Rattle.le_index.specs.declared.index.Index.{Index}
use Rattle.le_index.specs.declared.listed.Listed.{Listed}
use Rattle.le_index.specs.Keys.{key_of}
use Rattle.le_index.specs.Candidates.{numbers_from, keys_from}

-- the numbers and the keys of what is listed, if anything
abbrev pub numbers_in : Option Listed → List ℕ
numbers_in None = []
numbers_in (Some listed) = listed.numbers.items

abbrev pub keys_in : Option Listed → List ℕ
keys_in None = []
keys_in (Some listed) = listed.keys.items

module _ {S : Type 0} where
  -- lists hold the numbers and the keys of each predicate's clauses
  pub record Lists (lists : IndexMap ℕ Listed S) (clauses : List Clause) : Type 0 where
    pub numbers : (pred : ℕ) → numbers_in (get nat_eq lists pred) ≡ numbers_from pred 1 clauses
    pub keys : (pred : ℕ) → keys_in (get nat_eq lists pred) ≡ keys_from pred clauses

  -- the clause of this number and head was added
  pub record Adds (old new : IndexMap ℕ Listed S) (number : ℕ) (head : Atom) : Type 0 where
    pub numbers : (pred : ℕ) → numbers_in (get nat_eq new pred) ≡ numbers_in (get nat_eq old pred) ++ (if head.pred == pred then number ∷ [] else [])
    pub keys : (pred : ℕ) → keys_in (get nat_eq new pred) ≡ keys_in (get nat_eq old pred) ++ (if head.pred == pred then key_of head ∷ [] else [])

-- an index is that of these clauses
abbrev pub IsIndexOf : Index → List Clause → Type 0
IsIndexOf index clauses = Lists index.lists clauses
