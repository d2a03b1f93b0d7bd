-- The nodes of a tree or of a proof are one part, and the leaves counted over them are those of the tree.
use Rattle.std.proofs.Common.{◌≡◌, ℕ, zero, suc, ◌+◌, ◌-◌, List, [], ◌∷◌, ◌++◌, length, refl, sym, ap, ◌∙◌, append_assoc, arith}
use Rattle.le_proofs.specs.declared.node.Node.{Node}
use Rattle.le_proofs.specs.declared.node.Node.TheVariants.{Branch}
use Rattle.le_proofs.specs.Proofs.{Proof, by_clause, by_computing, by_failure, by_gathering, Proofs, none, first, WholeTree, success, split, computed, dead, lacking, present, gathered, ungathered, WholeBranches, no_branch, branch, listed}
use Rattle.le_proofs.specs.Derivations.{branch_count, proof_nodes, proofs_nodes, tree_nodes, branches_nodes, parts_of}
use Rattle.le_proofs.specs.Replay.{behind}
use Rattle.le_english.specs.Explanations.{leaves}
use Rattle.le_english.specs.Proofs.{leaf_count, branch_leaves}
use Rattle.le_english.proofs.Passing.{behind-end}

fewer : (m n : ℕ) (nodes : List Node) → m ≡ n → behind m nodes ≡ behind n nodes
fewer m n nodes same = ap (λ k. behind k nodes) same

mutual
  pub past-proof : (proof : Proof) (n : ℕ) (rest : List Node) → behind (suc n) (proof_nodes proof ++ rest) ≡ behind n rest
  past-proof (by_clause clause atom proofs) n rest = past-proofs proofs n rest
  past-proof (by_computing atom) n rest = fewer (0 + n) n rest (omega arith)
  past-proof (by_failure atom tree) n rest = fewer (1 + n) (suc n) (tree_nodes tree ++ rest) (omega arith) ∙ past-tree tree n rest
  past-proof (by_gathering fold result value atom tree) n rest = fewer (1 + n) (suc n) (tree_nodes tree ++ rest) (omega arith) ∙ past-tree tree n rest

  pub past-proofs : (proofs : Proofs) (n : ℕ) (rest : List Node) → behind (length (listed proofs) + n) (proofs_nodes proofs ++ rest) ≡ behind n rest
  past-proofs none n rest = fewer (0 + n) n rest (omega arith)
  past-proofs (first proof proofs) n rest =
      ap (behind (suc (length (listed proofs)) + n)) (append_assoc (proof_nodes proof) (proofs_nodes proofs) rest)
      ∙ (fewer (suc (length (listed proofs)) + n) (suc (length (listed proofs) + n)) (proof_nodes proof ++ (proofs_nodes proofs ++ rest)) (omega arith)
      ∙ (past-proof proof (length (listed proofs) + n) (proofs_nodes proofs ++ rest)
      ∙ past-proofs proofs n rest))

  pub past-tree : (tree : WholeTree) (n : ℕ) (rest : List Node) → behind (suc n) (tree_nodes tree ++ rest) ≡ behind n rest
  past-tree success n rest = fewer (0 + n) n rest (omega arith)
  past-tree (split branches) n rest = past-branches branches n rest
  past-tree (computed tree) n rest = fewer (1 + n) (suc n) (tree_nodes tree ++ rest) (omega arith) ∙ past-tree tree n rest
  past-tree dead n rest = fewer (0 + n) n rest (omega arith)
  past-tree (lacking sub tree) n rest =
      ap (behind (2 + n)) (append_assoc (tree_nodes sub) (tree_nodes tree) rest)
      ∙ (fewer (2 + n) (suc (suc n)) (tree_nodes sub ++ (tree_nodes tree ++ rest)) (omega arith)
      ∙ (past-tree sub (suc n) (tree_nodes tree ++ rest) ∙ past-tree tree n rest))
  past-tree (present proof) n rest = fewer (1 + n) (suc n) (proof_nodes proof ++ rest) (omega arith) ∙ past-proof proof n rest
  past-tree (gathered sub tree) n rest =
      ap (behind (2 + n)) (append_assoc (tree_nodes sub) (tree_nodes tree) rest)
      ∙ (fewer (2 + n) (suc (suc n)) (tree_nodes sub ++ (tree_nodes tree ++ rest)) (omega arith)
      ∙ (past-tree sub (suc n) (tree_nodes tree ++ rest) ∙ past-tree tree n rest))
  past-tree (ungathered sub) n rest = fewer (1 + n) (suc n) (tree_nodes sub ++ rest) (omega arith) ∙ past-tree sub n rest

  pub past-branches : (branches : WholeBranches) (n : ℕ) (rest : List Node) → behind (branch_count branches + n) (branches_nodes branches ++ rest) ≡ behind n rest
  past-branches no_branch n rest = fewer (0 + n) n rest (omega arith)
  past-branches (branch clause tree branches) n rest =
      ap (λ ns. behind (suc (branch_count branches) + n) (Branch clause ∷ ns)) (append_assoc (tree_nodes tree) (branches_nodes branches) rest)
      ∙ (fewer (suc (branch_count branches) + n) (suc (branch_count branches + n)) (Branch clause ∷ (tree_nodes tree ++ (branches_nodes branches ++ rest))) (omega arith)
      ∙ (fewer (1 + (branch_count branches + n)) (suc (branch_count branches + n)) (tree_nodes tree ++ (branches_nodes branches ++ rest)) (omega arith)
      ∙ (past-tree tree (branch_count branches + n) (branches_nodes branches ++ rest) ∙ past-branches branches n rest)))

-- parts of others have no leaf that is counted
leaves-past : (others own : ℕ) (nodes : List Node) → leaves others own nodes ≡ leaves 0 own (behind others nodes)
leaves-past others own [] = ap (leaves 0 own) (sym (behind-end others))
leaves-past zero own (node ∷ nodes) = refl
leaves-past (suc others) own (node ∷ nodes) = leaves-past (parts_of node + others) own nodes

same : (others others' own own' : ℕ) (nodes : List Node) → others ≡ others' → own ≡ own' → leaves others own nodes ≡ leaves others' own' nodes
same others others' own own' nodes a b = ap (λ n. leaves n own nodes) a ∙ ap (λ n. leaves others' n nodes) b

plus_none : {m n : ℕ} → m ≡ n → 0 + m ≡ n
plus_none {m = m} {n = n} is = let e : 0 + m ≡ m = omega arith in e ∙ is

-- a tree of others, and then these
past-sub : (tree : WholeTree) (own : ℕ) (rest : List Node) → leaves 1 own (tree_nodes tree ++ rest) ≡ leaves 0 own rest
past-sub tree own rest = leaves-past 1 own (tree_nodes tree ++ rest) ∙ ap (leaves 0 own) (past-tree tree 0 rest)

past-below : (proof : Proof) (own : ℕ) (rest : List Node) → leaves 1 own (proof_nodes proof ++ rest) ≡ leaves 0 own rest
past-below proof own rest = leaves-past 1 own (proof_nodes proof ++ rest) ∙ ap (leaves 0 own) (past-proof proof 0 rest)

mutual
  pub leaf-tree : (tree : WholeTree) (own : ℕ) (rest : List Node) → leaves 0 (suc own) (tree_nodes tree ++ rest) ≡ leaf_count tree + leaves 0 own rest
  leaf-tree success own rest = ap (λ n. 1 + n) (same 0 0 (0 + own) own rest refl (omega arith))
  leaf-tree (split branches) own rest =
      (let z : branch_count branches - branch_count branches ≡ 0 = omega arith in plus_none (same (branch_count branches - branch_count branches) 0 (branch_count branches + own) (branch_count branches + own) (branches_nodes branches ++ rest) z refl))
      ∙ leaf-branches branches own rest
  leaf-tree (computed tree) own rest = plus_none (same 0 0 (1 + own) (suc own) (tree_nodes tree ++ rest) refl (omega arith)) ∙ leaf-tree tree own rest
  leaf-tree dead own rest = ap (λ n. 0 + n) (same 0 0 (0 + own) own rest refl (omega arith))
  leaf-tree (lacking sub tree) own rest =
      plus_none (same 1 1 (1 + own) (suc own) ((tree_nodes sub ++ tree_nodes tree) ++ rest) refl (omega arith))
      ∙ (ap (leaves 1 (suc own)) (append_assoc (tree_nodes sub) (tree_nodes tree) rest)
      ∙ (past-sub sub (suc own) (tree_nodes tree ++ rest) ∙ leaf-tree tree own rest))
  leaf-tree (present proof) own rest = ap (λ n. 0 + n) (same 1 1 (0 + own) own (proof_nodes proof ++ rest) refl (omega arith) ∙ past-below proof own rest)
  leaf-tree (gathered sub tree) own rest =
      plus_none (same 1 1 (1 + own) (suc own) ((tree_nodes sub ++ tree_nodes tree) ++ rest) refl (omega arith))
      ∙ (ap (leaves 1 (suc own)) (append_assoc (tree_nodes sub) (tree_nodes tree) rest)
      ∙ (past-sub sub (suc own) (tree_nodes tree ++ rest) ∙ leaf-tree tree own rest))
  leaf-tree (ungathered sub) own rest = ap (λ n. 0 + n) (same 1 1 (0 + own) own (tree_nodes sub ++ rest) refl (omega arith) ∙ past-sub sub own rest)

  pub leaf-branches : (branches : WholeBranches) (own : ℕ) (rest : List Node) → leaves 0 (branch_count branches + own) (branches_nodes branches ++ rest) ≡ branch_leaves branches + leaves 0 own rest
  leaf-branches no_branch own rest = same 0 0 (0 + own) own rest refl (omega arith) ∙ sym (plus_none refl)
  leaf-branches (branch clause tree branches) own rest =
      let more : List Node = branches_nodes branches ++ rest in
      ap (λ ns. leaves 0 (suc (branch_count branches) + own) (Branch clause ∷ ns)) (append_assoc (tree_nodes tree) (branches_nodes branches) rest)
      ∙ (same 0 0 (suc (branch_count branches) + own) (suc (branch_count branches + own)) (Branch clause ∷ (tree_nodes tree ++ more)) refl (omega arith)
      ∙ (plus_none (same 0 0 (1 + (branch_count branches + own)) (suc (branch_count branches + own)) (tree_nodes tree ++ more) refl (omega arith))
      ∙ (leaf-tree tree (branch_count branches + own) more
      ∙ (ap (λ n. leaf_count tree + n) (leaf-branches branches own rest)
      ∙ (let e : leaf_count tree + (branch_leaves branches + leaves 0 own rest) ≡ leaf_count tree + branch_leaves branches + leaves 0 own rest = omega arith in e)))))
