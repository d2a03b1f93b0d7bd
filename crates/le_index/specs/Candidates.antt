-- The next clause of a predicate whose head an atom of a key may meet: this project's profile.
use Rattle.std.specs.Prelude.{ℕ, ◌+◌, ◌≤◌, ◌==◌, ◌&&◌, ◌||◌, Bool, nat_le, List, [], ◌∷◌, Option, Some, None, if◌then◌else◌}
use Rattle.le_terms.specs.declared.program.Clause.{Clause}
use Rattle.le_index.specs.Keys.{key_of}

-- a key may meet another: they are the same, or one of them is 0
abbrev pub may_meet : ℕ → ℕ → Bool
may_meet key other = (key == 0) || ((other == 0) || (other == key))

-- a clause's head has the predicate, and its key may be met
abbrev pub is_candidate : ℕ → ℕ → Clause → Bool
is_candidate pred key clause = (clause.head.pred == pred) && may_meet key (key_of clause.head)

-- the number of the first candidate from a number on, where the first of the clauses has this number
abbrev pub candidate_from : ℕ → ℕ → ℕ → ℕ → List Clause → Option ℕ
candidate_from pred key from number [] = None
candidate_from pred key from number (clause ∷ clauses) =
    if nat_le from number && is_candidate pred key clause then Some number else candidate_from pred key from (number + 1) clauses

-- the least number of a candidate from a number on; clauses are numbered from 1
abbrev pub candidate_of : List Clause → ℕ → ℕ → ℕ → Option ℕ
candidate_of clauses pred key from = candidate_from pred key from 1 clauses

-- the numbers and the keys of the clauses of a predicate, where the first of the clauses has this number
abbrev pub numbers_from : ℕ → ℕ → List Clause → List ℕ
numbers_from pred number [] = []
numbers_from pred number (clause ∷ clauses) =
    if clause.head.pred == pred then number ∷ numbers_from pred (number + 1) clauses else numbers_from pred (number + 1) clauses

abbrev pub keys_from : ℕ → List Clause → List ℕ
keys_from pred [] = []
keys_from pred (clause ∷ clauses) = if clause.head.pred == pred then key_of clause.head ∷ keys_from pred clauses else keys_from pred clauses

-- of clauses with these numbers and keys, the number of the first from a number on whose key may be met
abbrev pub candidate_among : ℕ → ℕ → List ℕ → List ℕ → Option ℕ
candidate_among key from [] keys = None
candidate_among key from (number ∷ numbers) [] = None
candidate_among key from (number ∷ numbers) (other ∷ keys) =
    if nat_le from number && may_meet key other then Some number else candidate_among key from numbers keys

-- numbers that rise, each at least this one
abbrev pub AreRisingFrom : ℕ → List ℕ → Type 0
AreRisingFrom low [] = Unit {0}
AreRisingFrom low (n ∷ ns) = (low ≤ n) × AreRisingFrom (n + 1) ns

abbrev pub AreRising : List ℕ → Type 0
AreRising ns = AreRisingFrom 0 ns
