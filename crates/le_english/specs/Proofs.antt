-- The lines of an explanation, read off the proofs themselves: this project's profile.
use Rattle.std.specs.Prelude.{◌≡◌, ℕ, ◌+◌, Some, None, List, [], ◌∷◌, ◌++◌, codes}
use Rattle.le_templates.specs.declared.part.Template.{Template}
use Rattle.le_terms.specs.declared.program.Clause.{Clause}
use Rattle.le_terms.specs.declared.program.Literal.{Literal}
use Rattle.le_terms.specs.declared.program.Program.{Program}
use Rattle.le_proofs.specs.Proofs.{Proof, by_clause, by_computing, by_failure, by_gathering, Proofs, none, first, WholeTree, success, split, computed, dead, lacking, present, gathered, ungathered, WholeBranches, no_branch, branch}
use Rattle.le_proofs.specs.declared.node.Node.{Node}
use Rattle.le_proofs.specs.Derivations.{proofs_nodes}
use Rattle.le_english.specs.Explanations.{explanation, tagged, sentence_of, use_line, depth_below, clause_at, absent_line, gather_line}

-- how many success leaves a tree has, without those of trees and proofs below its negations and gathers
abbrev mutual
  pub leaf_count : WholeTree → ℕ
  leaf_count success = 1
  leaf_count (split branches) = branch_leaves branches
  leaf_count (computed tree) = leaf_count tree
  leaf_count dead = 0
  leaf_count (lacking sub tree) = leaf_count tree
  leaf_count (present proof) = 0
  leaf_count (gathered sub tree) = leaf_count tree
  leaf_count (ungathered sub) = 0

  pub branch_leaves : WholeBranches → ℕ
  branch_leaves no_branch = 0
  branch_leaves (branch clause tree branches) = leaf_count tree + branch_leaves branches

-- The lines of a proof of a literal, at this depth: its own, and those of the proofs of its clause's body, one deeper, but at the same depth below a clause of an auxiliary predicate. Trees below negations and gathers have none.
abbrev mutual
  pub proof_lines : List Template → List (List ℕ) → Program → ℕ → ℕ → Proof → List ℕ
  proof_lines users names program depth line (by_clause number atom proofs) =
      elim (clause_at program number) [
        | Some c ↦ use_line (sentence_of users names atom) depth c.kind c.body c.line ++ proofs_lines users names program (depth_below c.kind depth) c.body proofs
        | None ↦ []
      ]
  proof_lines users names program depth line (by_computing atom) = tagged depth (sentence_of users names atom) (codes "computed")
  proof_lines users names program depth line (by_failure atom tree) = absent_line users names program depth line atom
  proof_lines users names program depth line (by_gathering fold result value atom tree) = gather_line users names depth line fold result (leaf_count tree)

  -- those of proofs of literals, one after another
  pub proofs_lines : List Template → List (List ℕ) → Program → ℕ → List Literal → Proofs → List ℕ
  proofs_lines users names program depth literals none = []
  proofs_lines users names program depth [] (first proof proofs) = []
  proofs_lines users names program depth (literal ∷ literals) (first proof proofs) = proof_lines users names program depth literal.line proof ++ proofs_lines users names program depth literals proofs

-- each proof by a clause is by one of the program, and has one proof for each literal of its body
abbrev mutual
  pub IsByProgram : Program → Proof → Type 0
  IsByProgram program (by_clause number atom proofs) = (c : Clause) × (clause_at program number ≡ Some c) × AreByProgram program c.body proofs
  IsByProgram program (by_computing atom) = Unit {0}
  IsByProgram program (by_failure atom tree) = Unit {0}
  IsByProgram program (by_gathering fold result value atom tree) = Unit {0}

  -- so are proofs, one for each literal
  pub AreByProgram : Program → List Literal → Proofs → Type 0
  AreByProgram program [] none = Unit {0}
  AreByProgram program (literal ∷ literals) none = ⊥
  AreByProgram program [] (first proof proofs) = ⊥
  AreByProgram program (literal ∷ literals) (first proof proofs) = IsByProgram program proof × AreByProgram program literals proofs

-- Nodes are those of proofs of a program's query, and their explanation has the lines of these proofs, one after another.
pub record HasLines (users : List Template) (names : List (List ℕ)) (program : Program) (nodes : List Node) : Type 0 where
  pub proofs : Proofs
  pub nodes_ : proofs_nodes proofs ≡ nodes
  pub by_program : AreByProgram program program.query proofs
  pub lines : explanation users names program nodes ≡ proofs_lines users names program 1 program.query proofs
