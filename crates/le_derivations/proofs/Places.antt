-- The nodes of a proof are as many as their counts say: what stands after them is what is after one part.
use Rattle.std.proofs.Common.{◌≡◌, ℕ, suc, ◌+◌, List, ◌∷◌, ◌++◌, length, ap, ◌∙◌, append_assoc, arith}
use Rattle.le_proofs.specs.declared.node.Node.{Node}
use Rattle.le_proofs.specs.declared.node.Node.TheVariants.{Branch as Branch_node}
use Rattle.le_proofs.specs.Proofs.{Proof, by_clause, by_computing, by_failure, by_gathering, Proofs, none, first, WholeTree, success, split, computed, dead, lacking, present, gathered, ungathered, WholeBranches, no_branch, branch, listed}
use Rattle.le_proofs.specs.Derivations.{branch_count, proof_nodes, proofs_nodes, tree_nodes, branches_nodes}
use Rattle.le_proofs.specs.Replay.{behind}

fewer : (m n : ℕ) (nodes : List Node) → m ≡ n → behind m nodes ≡ behind n nodes
fewer m n nodes same = ap (λ k. behind k nodes) same

mutual
  pub behind-proof : (proof : Proof) (parts : ℕ) (more : List Node) → behind (suc parts) (proof_nodes proof ++ more) ≡ behind parts more
  behind-proof (by_clause clause atom proofs) parts more = behind-proofs proofs parts more
  behind-proof (by_computing atom) parts more = fewer (0 + parts) parts more (omega arith)
  behind-proof (by_failure atom tree) parts more = fewer (1 + parts) (suc parts) (tree_nodes tree ++ more) (omega arith) ∙ behind-tree tree parts more
  behind-proof (by_gathering fold result value atom tree) parts more = fewer (1 + parts) (suc parts) (tree_nodes tree ++ more) (omega arith) ∙ behind-tree tree parts more

  pub behind-proofs : (proofs : Proofs) (parts : ℕ) (more : List Node) → behind (length (listed proofs) + parts) (proofs_nodes proofs ++ more) ≡ behind parts more
  behind-proofs none parts more = fewer (0 + parts) parts more (omega arith)
  behind-proofs (first proof proofs) parts more =
      ap (behind (suc (length (listed proofs)) + parts)) (append_assoc (proof_nodes proof) (proofs_nodes proofs) more)
      ∙ (fewer (suc (length (listed proofs)) + parts) (suc (length (listed proofs) + parts)) (proof_nodes proof ++ (proofs_nodes proofs ++ more)) (omega arith)
      ∙ (behind-proof proof (length (listed proofs) + parts) (proofs_nodes proofs ++ more)
      ∙ behind-proofs proofs parts more))

  pub behind-tree : (tree : WholeTree) (parts : ℕ) (more : List Node) → behind (suc parts) (tree_nodes tree ++ more) ≡ behind parts more
  behind-tree success parts more = fewer (0 + parts) parts more (omega arith)
  behind-tree (split branches) parts more = behind-branches branches parts more
  behind-tree (computed tree) parts more = fewer (1 + parts) (suc parts) (tree_nodes tree ++ more) (omega arith) ∙ behind-tree tree parts more
  behind-tree dead parts more = fewer (0 + parts) parts more (omega arith)
  behind-tree (lacking sub tree) parts more =
      ap (behind (2 + parts)) (append_assoc (tree_nodes sub) (tree_nodes tree) more)
      ∙ (fewer (2 + parts) (suc (suc parts)) (tree_nodes sub ++ (tree_nodes tree ++ more)) (omega arith)
      ∙ (behind-tree sub (suc parts) (tree_nodes tree ++ more) ∙ behind-tree tree parts more))
  behind-tree (present proof) parts more = fewer (1 + parts) (suc parts) (proof_nodes proof ++ more) (omega arith) ∙ behind-proof proof parts more
  behind-tree (gathered sub tree) parts more =
      ap (behind (2 + parts)) (append_assoc (tree_nodes sub) (tree_nodes tree) more)
      ∙ (fewer (2 + parts) (suc (suc parts)) (tree_nodes sub ++ (tree_nodes tree ++ more)) (omega arith)
      ∙ (behind-tree sub (suc parts) (tree_nodes tree ++ more) ∙ behind-tree tree parts more))
  behind-tree (ungathered sub) parts more = fewer (1 + parts) (suc parts) (tree_nodes sub ++ more) (omega arith) ∙ behind-tree sub parts more

  pub behind-branches : (branches : WholeBranches) (parts : ℕ) (more : List Node) → behind (branch_count branches + parts) (branches_nodes branches ++ more) ≡ behind parts more
  behind-branches no_branch parts more = fewer (0 + parts) parts more (omega arith)
  behind-branches (branch clause tree branches) parts more =
      let rest : List Node = branches_nodes branches ++ more in
      ap (λ ns. behind (suc (branch_count branches) + parts) (Branch_node clause ∷ ns)) (append_assoc (tree_nodes tree) (branches_nodes branches) more)
      ∙ (fewer (suc (branch_count branches) + parts) (suc (branch_count branches + parts)) (Branch_node clause ∷ (tree_nodes tree ++ rest)) (omega arith)
      ∙ (fewer (1 + (branch_count branches + parts)) (suc (branch_count branches + parts)) (tree_nodes tree ++ rest) (omega arith)
      ∙ (behind-tree tree (branch_count branches + parts) rest ∙ behind-branches branches parts more)))
