-- Worked examples: explanations, whose sentences are empty here since their atoms are of no template.
use Rattle.std.specs.Prelude.{◌≡◌, ℕ, List, [], ◌∷◌, ◌++◌, codes, decimal, refl}
use Rattle.le_terms.specs.declared.program.Atom.{Atom}
use Rattle.le_terms.specs.declared.program.Clause.{Clause}
use Rattle.le_terms.specs.declared.program.ClauseKind.{ClauseKind}
use Rattle.le_terms.specs.declared.program.ClauseKind.TheVariants.{Written, Branch as Auxiliary, Prelude}
use Rattle.le_terms.specs.declared.program.Form.TheVariants.{Pos}
use Rattle.le_terms.specs.declared.program.GroupKind.TheVariants as groups
use Rattle.le_terms.specs.declared.program.Literal.{Literal}
use Rattle.le_terms.specs.declared.program.Program.{Program}
use Rattle.le_proofs.specs.declared.node.Node.TheVariants.{Use, Absent, Split, Branch, Gathered, Lacking, Success, Dead}
use Rattle.le_english.specs.Explanations.{leaves, tagged, sentence_of, absent_line, explanation}

abbrev atom : ℕ → Atom
atom pred = record { pred = pred; args = [] }

abbrev literal : ℕ → Literal
literal line = record { line = line; form = Pos (atom 30) }

abbrev clause : ClauseKind → ℕ → List Literal → Clause
clause kind line body = record { head = atom 30; body = body; vars = 0; line = line; kind = kind }

-- a rule, a clause of a group, a fact and a predefined clause
abbrev rules : Program
rules = record {
  clauses = clause Written 4 (literal 5 ∷ literal 6 ∷ []) ∷ clause Auxiliary 5 (literal 5 ∷ []) ∷ clause Written 7 [] ∷ clause Prelude 0 [] ∷ [];
  query = literal 9 ∷ [];
  asked = [];
  vars = 0;
  users = 0;
  groups = groups.Case ∷ groups.Not ∷ [];
  version = 1;
}

-- what stands below a clause of a group stands at the group's depth, and what follows a failed tree isn't part of it
below_a_group : explanation [] [] rules (Use 1 2 (atom 30) ∷ Use 2 1 (atom 30) ∷ Use 3 0 (atom 30) ∷ Use 4 0 (atom 30) ∷ []) ≡ tagged 1 [] (codes "rule, line " ++ decimal 4) ++ (tagged 2 [] (codes "fact, line " ++ decimal 7) ++ (tagged 2 [] (codes "predefined") ++ []))
unfolding explanation sentence_of
below_a_group = refl

behind_a_tree : explanation [] [] rules (Use 1 2 (atom 30) ∷ Absent (atom 20) ∷ Split 1 ∷ Branch 3 ∷ Dead ∷ Absent (atom 21) ∷ Split 0 ∷ []) ≡ tagged 1 [] (codes "rule, line " ++ decimal 4) ++ (tagged 2 (codes "the condition at line " ++ (decimal 5 ++ codes " is met in every case")) (codes "all cases") ++ (tagged 2 (codes "the condition at line " ++ (decimal 6 ++ codes " is never met")) (codes "no way") ++ []))
unfolding explanation sentence_of absent_line
behind_a_tree = refl

-- a gather within a gather: only the leaves of the outer tree count
outer_leaves : leaves 0 1 (Split 2 ∷ Branch 1 ∷ Gathered ∷ Split 2 ∷ Branch 2 ∷ Success ∷ Branch 3 ∷ Success ∷ Success ∷ Branch 3 ∷ Lacking ∷ Dead ∷ Success ∷ Success ∷ []) ≡ 2
outer_leaves = refl
