-- Conditions that are read: their trees, and the variables that occur in them.
use Rattle.std.specs.Prelude.{ℕ, zero, suc, List, [], ◌∷◌, ◌++◌}
use Rattle.le_base.specs.declared.stop.FoldKind.{FoldKind}
use Rattle.le_terms.specs.Tree.{Tree}
use Rattle.le_terms.specs.Variables.{occurrences, all_occurrences}
use Rattle.le_terms.specs.declared.program.Atom.{Atom}
use Rattle.le_clauses.specs.declared.part.Part.{Part}
use Rattle.le_clauses.specs.declared.part.Part.TheVariants as parts

-- a condition that is read: a sentence's atom, all or one of several, a negation, a `for all` with its two blocks, or a gather with its result and the variable of its value; each with its line
mutual
  pub data Condition : Type 0 where
    sentence : ℕ → Atom → Condition
    all : Conditions → Condition
    some : Conditions → Condition
    negation : ℕ → Condition → Condition
    for_all : ℕ → Condition → Condition → Condition
    gather : ℕ → FoldKind → Tree → ℕ → Condition → Condition

  pub data Conditions : Type 0 where
    none : Conditions
    more : Condition → Conditions → Conditions

-- the line of a condition's first token
abbrev mutual
  pub line_of : Condition → ℕ
  line_of (sentence line atom) = line
  line_of (all cs) = line_of_first cs
  line_of (some cs) = line_of_first cs
  line_of (negation line c) = line
  line_of (for_all line c d) = line
  line_of (gather line fold result value c) = line

  pub line_of_first : Conditions → ℕ
  line_of_first none = 0
  line_of_first (more c cs) = line_of c

-- the variables of a condition from left to right, each as often as it occurs
abbrev mutual
  pub occurring : Condition → List ℕ
  occurring (sentence line atom) = all_occurrences atom.args
  occurring (all cs) = all_occurring cs
  occurring (some cs) = all_occurring cs
  occurring (negation line c) = occurring c
  occurring (for_all line c d) = occurring c ++ occurring d
  occurring (gather line fold result value c) = occurrences result ++ value ∷ occurring c

  pub all_occurring : Conditions → List ℕ
  all_occurring none = []
  all_occurring (more c cs) = occurring c ++ all_occurring cs

-- the first of some conditions; without one, nothing is said
abbrev pub first_of : List Condition → Condition
first_of [] = all none
first_of (c ∷ cs) = c

abbrev pub without_first : List Condition → List Condition
without_first [] = []
without_first (c ∷ cs) = cs

-- so many conditions from the first on, and those after them
abbrev pub taken : ℕ → List Condition → Conditions
taken zero cs = none
taken (suc n) cs = more (first_of cs) (taken n (without_first cs))

abbrev pub left : ℕ → List Condition → List Condition
left zero cs = cs
left (suc n) cs = left n (without_first cs)

-- a part before the conditions that stand after it: it takes those below it
abbrev pub with_part : Part → List Condition → List Condition
with_part p cs = elim p [
  | parts.Sentence line atom ↦ sentence line atom ∷ cs
  | parts.And n ↦ all (taken n cs) ∷ left n cs
  | parts.Or n ↦ some (taken n cs) ∷ left n cs
  | parts.Not line ↦ negation line (first_of cs) ∷ without_first cs
  | parts.ForAll line ↦ for_all line (first_of cs) (first_of (without_first cs)) ∷ without_first (without_first cs)
  | parts.Gather line fold result value ↦ gather line fold result value (first_of cs) ∷ without_first cs
]

-- the conditions whose parts in preorder a list has, one after another
abbrev pub conditions_of : List Part → List Condition
conditions_of [] = []
conditions_of (p ∷ ps) = with_part p (conditions_of ps)

-- the condition that a list of parts begins with
abbrev pub condition_of : List Part → Condition
condition_of ps = first_of (conditions_of ps)
