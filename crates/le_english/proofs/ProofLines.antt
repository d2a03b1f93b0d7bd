-- The explanation of the nodes of proofs is made of the lines of the proofs.
use Rattle.std.proofs.Common.{◌≡◌, ℕ, ◌+◌, Option, Some, None, List, [], ◌∷◌, ◌++◌, refl, sym, ap, subst, ◌∙◌, append_assoc, append-nil, arith}
use Rattle.le_templates.specs.declared.part.Template.{Template}
use Rattle.le_terms.specs.declared.program.Literal.{Literal}
use Rattle.le_terms.specs.declared.program.Clause.{Clause}
use Rattle.le_terms.specs.declared.program.Program.{Program}
use Rattle.le_proofs.specs.declared.node.Node.{Node}
use Rattle.le_proofs.specs.Proofs.{Proof, by_clause, by_computing, by_failure, by_gathering, Proofs, none, first, WholeTree}
use Rattle.le_proofs.specs.Derivations.{proof_nodes, proofs_nodes, tree_nodes}
use Rattle.le_english.specs.declared.pending.Pending.{Pending}
use Rattle.le_english.specs.Explanations.{leaves, pending_at, lines_of, explanation, absent_line, gather_line, use_line, clause_line, body_pending, sentence_of, depth_below, clause_at}
use Rattle.le_english.specs.Proofs.{leaf_count, proof_lines, proofs_lines, IsByProgram, AreByProgram}
use Rattle.le_english.proofs.Passing.{leaves-none, lines-unshown}
use Rattle.le_english.proofs.Trees.{past-tree, leaf-tree}

module _ (users : List Template) (names : List (List ℕ)) (program : Program) where
  -- a tree that isn't shown
  behind-it : (pending : List Pending) (tree : WholeTree) (rest : List Node) → lines_of users names program 1 pending (tree_nodes tree ++ rest) ≡ lines_of users names program 0 pending rest
  behind-it pending tree rest = lines-unshown users names program pending 1 (tree_nodes tree ++ rest) ∙ ap (λ ns. lines_of users names program 0 pending ns) (past-tree tree 0 rest)

  cases : (tree : WholeTree) (rest : List Node) → leaves 0 1 (tree_nodes tree ++ rest) ≡ leaf_count tree
  cases tree rest =
      leaf-tree tree 0 rest
      ∙ (ap (λ n. leaf_count tree + n) (leaves-none rest) ∙ (let e : leaf_count tree + 0 ≡ leaf_count tree = omega arith in e))

  -- the use of a clause, and then the proofs of its body
  by_use : (number : ℕ) (sentence : List ℕ) (proofs : Proofs) (depth : ℕ) (pending : List Pending) (nodes : List Node) (after : List ℕ) (found : Option Clause) (c : Clause) → found ≡ Some c
      → lines_of users names program 0 (pending_at (depth_below c.kind depth) c.body pending) nodes ≡ proofs_lines users names program (depth_below c.kind depth) c.body proofs ++ after
      → clause_line sentence depth found ++ lines_of users names program 0 (body_pending depth found pending) nodes
      ≡ (elim found [
        | Some c ↦ use_line sentence depth c.kind c.body c.line ++ proofs_lines users names program (depth_below c.kind depth) c.body proofs
        | None ↦ []
      ]) ++ after
  by_use number sentence proofs depth pending nodes after None c is below = absurd (cc is)
  by_use number sentence proofs depth pending nodes after (Some d) c is below =
      let same : d ≡ c = cc is in
      let P : Clause → Type 0 = λ e. use_line sentence depth e.kind e.body e.line ++ lines_of users names program 0 (pending_at (depth_below e.kind depth) e.body pending) nodes ≡ (use_line sentence depth e.kind e.body e.line ++ proofs_lines users names program (depth_below e.kind depth) e.body proofs) ++ after in
      subst P (sym same)
      (ap (λ t. use_line sentence depth c.kind c.body c.line ++ t) below
      ∙ sym (append_assoc (use_line sentence depth c.kind c.body c.line) (proofs_lines users names program (depth_below c.kind depth) c.body proofs) after))

  mutual
    pub lines-proof : (proof : Proof) (depth line : ℕ) (pending : List Pending) (rest : List Node) → IsByProgram program proof
        → lines_of users names program 0 (record { depth = depth; line = line } ∷ pending) (proof_nodes proof ++ rest) ≡ proof_lines users names program depth line proof ++ lines_of users names program 0 pending rest
    lines-proof (by_clause number atom proofs) depth line pending rest (c, is, below) = by_use number (sentence_of users names atom) proofs depth pending (proofs_nodes proofs ++ rest) (lines_of users names program 0 pending rest) (clause_at program number) c is (lines-proofs proofs c.body (depth_below c.kind depth) pending rest below)
    lines-proof (by_computing atom) depth line pending rest is = refl
    lines-proof (by_failure atom tree) depth line pending rest is = ap (λ t. absent_line users names program depth line atom ++ t) (behind-it pending tree rest)
    lines-proof (by_gathering fold result value atom tree) depth line pending rest is =
        ap (λ n. gather_line users names depth line fold result n ++ lines_of users names program 1 pending (tree_nodes tree ++ rest)) (cases tree rest)
        ∙ ap (λ t. gather_line users names depth line fold result (leaf_count tree) ++ t) (behind-it pending tree rest)

    pub lines-proofs : (proofs : Proofs) (literals : List Literal) (depth : ℕ) (pending : List Pending) (rest : List Node) → AreByProgram program literals proofs
        → lines_of users names program 0 (pending_at depth literals pending) (proofs_nodes proofs ++ rest) ≡ proofs_lines users names program depth literals proofs ++ lines_of users names program 0 pending rest
    lines-proofs none [] depth pending rest is = refl
    lines-proofs none (literal ∷ literals) depth pending rest is = absurd is
    lines-proofs (first proof proofs) [] depth pending rest is = absurd is
    lines-proofs (first proof proofs) (literal ∷ literals) depth pending rest is =
        ap (λ ns. lines_of users names program 0 (pending_at depth (literal ∷ literals) pending) ns) (append_assoc (proof_nodes proof) (proofs_nodes proofs) rest)
        ∙ (lines-proof proof depth literal.line (pending_at depth literals pending) (proofs_nodes proofs ++ rest) is.0
        ∙ (ap (λ t. proof_lines users names program depth literal.line proof ++ t) (lines-proofs proofs literals depth pending rest is.1)
        ∙ sym (append_assoc (proof_lines users names program depth literal.line proof) (proofs_lines users names program depth literals proofs) (lines_of users names program 0 pending rest))))

  pub explains : (proofs : Proofs) → AreByProgram program program.query proofs → explanation users names program (proofs_nodes proofs) ≡ proofs_lines users names program 1 program.query proofs
  unfolding explanation
  explains proofs is =
      ap (λ ns. lines_of users names program 0 (pending_at 1 program.query []) ns) (sym (append-nil (proofs_nodes proofs)))
      ∙ (lines-proofs proofs program.query 1 [] [] is ∙ append-nil (proofs_lines users names program 1 program.query proofs))
