-- The truth of conditions and of bodies in a set of atoms, over some values (Lloyd, Foundations of Logic Programming, chapter 1, section 3, for interpretations; chapter 4 for general programs).
use Rattle.std.specs.Prelude.{◌≡◌, ℕ, ◌==◌, ◌&&◌, ◌||◌, Bool, true, false, not, if◌then◌else◌, nat_lt, List, [], ◌∷◌, filter}
use Rattle.std.specs.List.{list_all, list_any}
use Rattle.le_terms.specs.Tree.{Tree, variable, nil}
use Rattle.le_terms.specs.Variables.{firsts, all_occurrences, all_variables}
use Rattle.le_terms.specs.Program.{literals_terms, clause_terms}
use Rattle.le_terms.specs.declared.program.Atom.{Atom}
use Rattle.le_terms.specs.declared.program.Form.{Form}
use Rattle.le_terms.specs.declared.program.Form.TheVariants.{Pos, Neg, Calc, Gather}
use Rattle.le_terms.specs.declared.program.Literal.{Literal}
use Rattle.le_terms.specs.declared.program.Clause.{Clause}
use Rattle.le_proofs.specs.Goals.{atom_under}
use Rattle.le_clauses.specs.Conditions.{Condition, Conditions, sentence, all, some, negation, for_all, gather, none, more}
use Rattle.le_clauses.specs.Groups.{has, own, at_place}

-- an assignment of values to variables, with another value for one of them
abbrev pub with_value : ℕ → Tree → (ℕ → Tree) → ℕ → Tree
with_value v x by w = if v == w then x else by w

-- something is so for some values of these variables, the others kept
abbrev pub for_some : List Tree → List ℕ → ((ℕ → Tree) → Bool) → (ℕ → Tree) → Bool
for_some values [] is_so by = is_so by
for_some values (v ∷ vars) is_so by = list_any (λ x. for_some values vars is_so (with_value v x by)) values

-- something is so for all values of these variables, the others kept
abbrev pub for_each : List Tree → List ℕ → ((ℕ → Tree) → Bool) → (ℕ → Tree) → Bool
for_each values [] is_so by = is_so by
for_each values (v ∷ vars) is_so by = list_all (λ x. for_each values vars is_so (with_value v x by)) values

-- A condition is true in a set of atoms under an assignment, where these are the occurrences of variables in the rule.
abbrev mutual
  pub is_true : List Tree → (Atom → Bool) → List ℕ → Condition → (ℕ → Tree) → Bool
  is_true values set rule (sentence line atom) by = set (atom_under by atom)
  is_true values set rule (all cs) by = are_true values set rule cs by
  is_true values set rule (some cs) by = for_some values (own rule (some cs)) (is_one_true values set rule cs) by
  is_true values set rule (negation line c) by = not (for_some values (own rule c) (is_true values set rule c) by)
  is_true values set rule (for_all line c d) by =
      for_each values (own rule (for_all line c d)) (λ a.
      not (is_true values set rule c a)
      || for_some values (own rule d) (is_true values set rule d) a) by
  is_true values set rule (gather line fold result value c) by = false

  -- each of some conditions is true
  pub are_true : List Tree → (Atom → Bool) → List ℕ → Conditions → (ℕ → Tree) → Bool
  are_true values set rule none by = true
  are_true values set rule (more c cs) by = is_true values set rule c by && are_true values set rule cs by

  -- one of some conditions is true
  pub is_one_true : List Tree → (Atom → Bool) → List ℕ → Conditions → (ℕ → Tree) → Bool
  is_one_true values set rule none by = false
  is_one_true values set rule (more c cs) by = is_true values set rule c by || is_one_true values set rule cs by

-- a literal is true where its atom is in a set, or for a negative one isn't; gathers are left out
abbrev pub is_literal_true : (Atom → Bool) → (ℕ → Tree) → Form → Bool
is_literal_true set by (Pos atom) = set (atom_under by atom)
is_literal_true set by (Neg atom) = not (set (atom_under by atom))
is_literal_true set by (Calc atom) = set (atom_under by atom)
is_literal_true set by (Gather fold result value atom) = false

-- a body is true where each of its literals is
abbrev pub is_body_true : (Atom → Bool) → (ℕ → Tree) → List Literal → Bool
is_body_true set by literals = list_all (λ (l : Literal). is_literal_true set by l.form) literals

-- the assignment of a clause's arguments, which are variables, to these values
abbrev pub assigned : List Tree → List Tree → ℕ → Tree
assigned (variable v ∷ heads) (t ∷ ts) = with_value v t (assigned heads ts)
assigned (_ ∷ heads) (t ∷ ts) = assigned heads ts
assigned heads ts = λ v. nil

-- the variables of a clause that its head hasn't
abbrev pub others : Clause → List ℕ
others clause = filter (λ v. not (has (all_occurrences clause.head.args) v)) (firsts (all_occurrences (literals_terms clause.body)))

-- A clause of an auxiliary predicate gives an atom with these arguments where its body is true for some values of its other variables.
abbrev pub gives : List Tree → (Atom → Bool) → Clause → List Tree → Bool
gives values set clause args = for_some values (others clause) (λ by. is_body_true set by clause.body) (assigned clause.head.args args)

-- The atoms that are true by a set and by the clauses of auxiliary predicates: the body of a clause speaks of groups inside its own alone, whose clauses stand after it.
abbrev pub meant : List Tree → (Atom → Bool) → List Clause → Atom → Bool
meant values set [] atom = set atom
meant values set (clause ∷ clauses) atom =
    ((clause.head.pred == atom.pred) && gives values (meant values set clauses) clause atom.args) || meant values set clauses atom

-- a set's atoms of templates alone, whose predicates are below this one
abbrev pub of_templates : ℕ → (Atom → Bool) → Atom → Bool
of_templates pred set atom = nat_lt atom.pred pred && set atom

-- each sentence has a predicate below this one, and there is no gather
abbrev mutual
  pub IsPlain : ℕ → Condition → Type 0
  IsPlain pred (sentence line atom) = nat_lt atom.pred pred ≡ true
  IsPlain pred (all cs) = ArePlain pred cs
  IsPlain pred (some cs) = ArePlain pred cs
  IsPlain pred (negation line c) = IsPlain pred c
  IsPlain pred (for_all line c d) = IsPlain pred c × IsPlain pred d
  IsPlain pred (gather line fold result value c) = ⊥

  pub ArePlain : ℕ → Conditions → Type 0
  ArePlain pred none = Unit {0}
  ArePlain pred (more c cs) = IsPlain pred c × ArePlain pred cs

-- the values of variables by their places among these, where these are the values by their own numbers
abbrev pub by_place : List ℕ → (ℕ → Tree) → ℕ → Tree
by_place vars by k = by (at_place vars k)

-- the values of a clause's variables by their numbers, where these are the values of the rule's variables
abbrev pub by_number : Clause → (ℕ → Tree) → ℕ → Tree
by_number clause = by_place (all_variables (clause_terms clause))
