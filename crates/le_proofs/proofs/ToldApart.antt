-- The variables of a derivation's nodes, told apart by the searches that they belong to, are among those of its proofs.
use Rattle.std.proofs.Common.{◌≡◌, ℕ, suc, ◌+◌, ◌*◌, List, [], ◌∷◌, ◌++◌, map, length, length-append, refl, sym, ap, subst, ◌∙◌, arith, append_assoc}
use Rattle.std.specs.List.{AllByRecursion}
use Rattle.std.proofs.lemmas.List.{length-map}
use Rattle.le_terms.specs.Variables.{all_occurrences, all_variables}
use Rattle.le_proofs.specs.declared.node.Node.{Node}
use Rattle.le_proofs.specs.declared.node.Node.TheVariants.{Use, Compute, Absent, Gather, Split, Branch as Branch_node, Computed, Lacking, Present, Gathered, Ungathered, Success, Dead}
use Rattle.le_proofs.specs.Proofs.{Proof, by_clause, by_computing, by_failure, by_gathering, Proofs, none, first, WholeTree, success, split, computed, dead, lacking, present, gathered, ungathered, WholeBranches, no_branch, branch, listed}
use Rattle.le_proofs.specs.Derivations.{branch_count, proof_nodes, proofs_nodes, tree_nodes, branches_nodes, node_terms, nodes_terms, node_under, parts_of, times, scope_below, told_apart, scoped}
use Rattle.le_proofs.proofs.Alls.{all-left, all-right}
use Rattle.le_proofs.proofs.Closed.{AllHave, terms-have, both-have, front-has, back-has}
use Rattle.le_proofs.proofs.Numbering.{node-terms-under}
use Rattle.le_proofs.proofs.OwnVariables.{own_proof, own_proofs, inner_proof, inner_proofs, inner_tree, inner_branches, all-back}

nodes_terms-append : (xs ys : List Node) → nodes_terms (xs ++ ys) ≡ nodes_terms xs ++ nodes_terms ys
nodes_terms-append [] ys = refl
nodes_terms-append (x ∷ xs) ys = ap (λ ts. node_terms x ++ ts) (nodes_terms-append xs ys) ∙ sym (append_assoc (node_terms x) (nodes_terms xs) (nodes_terms ys))

added : (xs ys : List ℕ) (m n : ℕ) → length xs ≡ m → length ys ≡ n → length (xs ++ ys) ≡ m + n
added xs ys m n one other = let both : length (xs ++ ys) ≡ length xs + length ys = length-append xs ys in omega (arith, one, other)

module _ (count : ℕ) where
  -- a variable of the search of this number, among those of all searches
  abbrev pub told : ℕ → ℕ → ℕ
  told scope v = v * suc count + scope

  abbrev mutual
    -- the variables of the searches in the trees of proofs, whose first node has this number
    pub told_proof : ℕ → Proof → List ℕ
    told_proof number (by_clause clause atom proofs) = told_proofs (suc number) proofs
    told_proof number (by_computing atom) = []
    told_proof number (by_failure atom t) = told_tree (suc number) t
    told_proof number (by_gathering fold result value atom t) = told_tree (suc number) t

    pub told_proofs : ℕ → Proofs → List ℕ
    told_proofs number none = []
    told_proofs number (first proof proofs) = told_proof number proof ++ told_proofs (number + length (proof_nodes proof)) proofs

    pub told_tree : ℕ → WholeTree → List ℕ
    told_tree number success = []
    told_tree number (split branches) = told_branches (suc number) branches
    told_tree number (computed t) = told_tree (suc number) t
    told_tree number dead = []
    told_tree number (lacking sub t) = told_tree (suc number) sub ++ told_tree (suc number + length (tree_nodes sub)) t
    told_tree number (present proof) = map (told number) (all_variables (own_proof proof)) ++ told_proof (suc number) proof
    told_tree number (gathered sub t) = told_tree (suc number) sub ++ told_tree (suc number + length (tree_nodes sub)) t
    told_tree number (ungathered sub) = told_tree (suc number) sub

    pub told_branches : ℕ → WholeBranches → List ℕ
    told_branches number no_branch = []
    told_branches number (branch clause t branches) = told_tree (suc number) t ++ told_branches (number + suc (length (tree_nodes t))) branches

  mutual
    told-proof : (number : ℕ) (proof : Proof) → length (told_proof number proof) ≡ inner_proof proof
    told-proof number (by_clause clause atom proofs) = told-proofs (suc number) proofs
    told-proof number (by_computing atom) = refl
    told-proof number (by_failure atom t) = told-tree (suc number) t
    told-proof number (by_gathering fold result value atom t) = told-tree (suc number) t

    -- they are as many as are counted
    pub told-proofs : (number : ℕ) (proofs : Proofs) → length (told_proofs number proofs) ≡ inner_proofs proofs
    told-proofs number none = refl
    told-proofs number (first proof proofs) = added (told_proof number proof) (told_proofs (number + length (proof_nodes proof)) proofs) (inner_proof proof) (inner_proofs proofs) (told-proof number proof) (told-proofs (number + length (proof_nodes proof)) proofs)

    told-tree : (number : ℕ) (t : WholeTree) → length (told_tree number t) ≡ inner_tree t
    told-tree number success = refl
    told-tree number (split branches) = told-branches (suc number) branches
    told-tree number (computed t) = told-tree (suc number) t
    told-tree number dead = refl
    told-tree number (lacking sub t) = added (told_tree (suc number) sub) (told_tree (suc number + length (tree_nodes sub)) t) (inner_tree sub) (inner_tree t) (told-tree (suc number) sub) (told-tree (suc number + length (tree_nodes sub)) t)
    told-tree number (present proof) = added (map (told number) (all_variables (own_proof proof))) (told_proof (suc number) proof) (length (all_variables (own_proof proof))) (inner_proof proof) (length-map (all_variables (own_proof proof)) (told number)) (told-proof (suc number) proof)
    told-tree number (gathered sub t) = added (told_tree (suc number) sub) (told_tree (suc number + length (tree_nodes sub)) t) (inner_tree sub) (inner_tree t) (told-tree (suc number) sub) (told-tree (suc number + length (tree_nodes sub)) t)
    told-tree number (ungathered sub) = told-tree (suc number) sub

    told-branches : (number : ℕ) (branches : WholeBranches) → length (told_branches number branches) ≡ inner_branches branches
    told-branches number no_branch = refl
    told-branches number (branch clause t branches) = added (told_tree (suc number) t) (told_branches (number + suc (length (tree_nodes t))) branches) (inner_tree t) (inner_branches branches) (told-tree (suc number) t) (told-branches (number + suc (length (tree_nodes t))) branches)

  module _ (Q : ℕ → Type 0) where
    -- the variables of a search are among those of all
    abbrev pub IsTold : ℕ → ℕ → Type 0
    IsTold scope v = Q (told scope v)

    pub told-all : (scope : ℕ) (vs : List ℕ) → AllByRecursion Q (map (told scope) vs) → AllByRecursion (IsTold scope) vs
    told-all scope [] all = tt
    told-all scope (v ∷ vs) all = (all.0, told-all scope vs all.1)

    -- nodes from a number on, so many parts of a search, once they are told apart
    pub record Chunk (scope number parts : ℕ) (nodes : List Node) : Type 0 where
      pub done : List Node
      pub is : (scopes : List ℕ) (more : List Node) → scoped count number (times parts scope scopes) (nodes ++ more) ≡ done ++ scoped count (number + length nodes) scopes more
      pub all : AllHave Q (nodes_terms done)

    no-chunk : (scope number : ℕ) → Chunk scope number 0 []
    no-chunk scope number = record { done = []; is = λ scopes more. ap (λ n. scoped count n scopes more) (let same : number ≡ number + 0 = omega arith in same); all = tt }

    -- one part and others after it
    join-chunk : (scope number parts : ℕ) (xs more : List Node) → Chunk scope number 1 xs → Chunk scope (number + length xs) parts more → Chunk scope number (suc parts) (xs ++ more)
    join-chunk scope number parts xs more one rest = record {
      done = one.done ++ rest.done;
      is = λ scopes last.
          ap (scoped count number (scope ∷ times parts scope scopes)) (append_assoc xs more last)
          ∙ (one.is (times parts scope scopes) (more ++ last)
          ∙ (ap (λ ns. one.done ++ ns) (rest.is scopes last ∙ ap (λ n. rest.done ++ scoped count n scopes last) (shift last))
          ∙ sym (append_assoc one.done rest.done (scoped count (number + length (xs ++ more)) scopes last))));
      all = subst (AllHave Q) (sym (nodes_terms-append one.done rest.done)) (both-have Q (nodes_terms one.done) (nodes_terms rest.done) one.all rest.all);
    }
      where
        shift : List Node → (number + length xs) + length more ≡ number + length (xs ++ more)
        shift last = let both : length (xs ++ more) ≡ length xs + length more = length-append xs more in omega arith

    -- a node above its parts, whose variables are of this search
    node-chunk : (scope number parts inner : ℕ) (x : Node) (xs : List Node) → AllHave (IsTold scope) (node_terms x) → parts_of x ≡ parts → scope_below number scope x ≡ inner → Chunk inner (suc number) parts xs → Chunk scope number 1 (x ∷ xs)
    node-chunk scope number parts inner x xs own is_parts is_scope rest = record {
      done = node_under (told_apart count scope) x ∷ rest.done;
      is = λ scopes more. ap (λ ns. node_under (told_apart count scope) x ∷ ns)
          (ap (λ k. scoped count (suc number) (times k (scope_below number scope x) scopes) (xs ++ more)) is_parts
          ∙ (ap (λ s. scoped count (suc number) (times parts s scopes) (xs ++ more)) is_scope
          ∙ (rest.is scopes more ∙ ap (λ n. rest.done ++ scoped count n scopes more) (let same : suc number + length xs ≡ number + suc (length xs) = omega arith in same))));
      all = both-have Q (node_terms (node_under (told_apart count scope) x)) (nodes_terms rest.done)
          (subst (AllHave Q) (sym (node-terms-under (told_apart count scope) x)) (terms-have (IsTold scope) Q (told_apart count scope) (λ v h. (h, tt)) (node_terms x) own)) rest.all;
    }

    leaf-chunk : (scope number : ℕ) (x : Node) → AllHave (IsTold scope) (node_terms x) → parts_of x ≡ 0 → scope_below number scope x ≡ scope → Chunk scope number 1 (x ∷ [])
    leaf-chunk scope number x own is_parts is_scope = node-chunk scope number 0 scope x [] own is_parts is_scope (no-chunk scope (suc number))

    two-chunk : (scope number : ℕ) (x : Node) (xs ys : List Node) → AllHave (IsTold scope) (node_terms x) → parts_of x ≡ 2 → scope_below number scope x ≡ scope → Chunk scope (suc number) 1 xs → Chunk scope (suc number + length xs) 1 ys → Chunk scope number 1 (x ∷ (xs ++ ys))
    two-chunk scope number x xs ys own is_parts is_scope one other = node-chunk scope number 2 scope x (xs ++ ys) own is_parts is_scope (join-chunk scope (suc number) 1 xs ys one other)

    mutual
      proof-chunk : (scope number : ℕ) (proof : Proof) → AllHave (IsTold scope) (own_proof proof) → AllByRecursion Q (told_proof number proof) → Chunk scope number 1 (proof_nodes proof)
      proof-chunk scope number (by_clause clause atom proofs) own inner =
          node-chunk scope number (length (listed proofs)) scope (Use clause (length (listed proofs)) atom) (proofs_nodes proofs) (front-has (IsTold scope) atom.args (own_proofs proofs) own) refl refl
          (proofs-chunk scope (suc number) proofs (back-has (IsTold scope) atom.args (own_proofs proofs) own) inner)
      proof-chunk scope number (by_computing atom) own inner = leaf-chunk scope number (Compute atom) own refl refl
      proof-chunk scope number (by_failure atom t) own inner = node-chunk scope number 1 scope (Absent atom) (tree_nodes t) own refl refl (tree-chunk scope (suc number) t inner)
      proof-chunk scope number (by_gathering fold result value atom t) own inner = node-chunk scope number 1 scope (Gather fold result value atom) (tree_nodes t) own refl refl (tree-chunk scope (suc number) t inner)

      pub proofs-chunk : (scope number : ℕ) (proofs : Proofs) → AllHave (IsTold scope) (own_proofs proofs) → AllByRecursion Q (told_proofs number proofs) → Chunk scope number (length (listed proofs)) (proofs_nodes proofs)
      proofs-chunk scope number none own inner = no-chunk scope number
      proofs-chunk scope number (first proof proofs) own inner =
          join-chunk scope number (length (listed proofs)) (proof_nodes proof) (proofs_nodes proofs)
          (proof-chunk scope number proof (front-has (IsTold scope) (own_proof proof) (own_proofs proofs) own) (all-left Q (told_proof number proof) (told_proofs (number + length (proof_nodes proof)) proofs) inner))
          (proofs-chunk scope (number + length (proof_nodes proof)) proofs (back-has (IsTold scope) (own_proof proof) (own_proofs proofs) own) (all-right Q (told_proof number proof) (told_proofs (number + length (proof_nodes proof)) proofs) inner))

      tree-chunk : (scope number : ℕ) (t : WholeTree) → AllByRecursion Q (told_tree number t) → Chunk scope number 1 (tree_nodes t)
      tree-chunk scope number success inner = leaf-chunk scope number Success tt refl refl
      tree-chunk scope number (split branches) inner = node-chunk scope number (branch_count branches) scope (Split (branch_count branches)) (branches_nodes branches) tt refl refl (branches-chunk scope (suc number) branches inner)
      tree-chunk scope number (computed t) inner = node-chunk scope number 1 scope Computed (tree_nodes t) tt refl refl (tree-chunk scope (suc number) t inner)
      tree-chunk scope number dead inner = leaf-chunk scope number Dead tt refl refl
      tree-chunk scope number (lacking sub t) inner =
          two-chunk scope number Lacking (tree_nodes sub) (tree_nodes t) tt refl refl
          (tree-chunk scope (suc number) sub (all-left Q (told_tree (suc number) sub) (told_tree (suc number + length (tree_nodes sub)) t) inner))
          (tree-chunk scope (suc number + length (tree_nodes sub)) t (all-right Q (told_tree (suc number) sub) (told_tree (suc number + length (tree_nodes sub)) t) inner))
      tree-chunk scope number (present proof) inner =
          node-chunk scope number 1 number Present (proof_nodes proof) tt refl refl
          (proof-chunk number (suc number) proof
          (all-back (IsTold number) (all_occurrences (own_proof proof)) (told-all number (all_variables (own_proof proof)) (all-left Q (map (told number) (all_variables (own_proof proof))) (told_proof (suc number) proof) inner)))
          (all-right Q (map (told number) (all_variables (own_proof proof))) (told_proof (suc number) proof) inner))
      tree-chunk scope number (gathered sub t) inner =
          two-chunk scope number Gathered (tree_nodes sub) (tree_nodes t) tt refl refl
          (tree-chunk scope (suc number) sub (all-left Q (told_tree (suc number) sub) (told_tree (suc number + length (tree_nodes sub)) t) inner))
          (tree-chunk scope (suc number + length (tree_nodes sub)) t (all-right Q (told_tree (suc number) sub) (told_tree (suc number + length (tree_nodes sub)) t) inner))
      tree-chunk scope number (ungathered sub) inner = node-chunk scope number 1 scope Ungathered (tree_nodes sub) tt refl refl (tree-chunk scope (suc number) sub inner)

      branches-chunk : (scope number : ℕ) (branches : WholeBranches) → AllByRecursion Q (told_branches number branches) → Chunk scope number (branch_count branches) (branches_nodes branches)
      branches-chunk scope number no_branch inner = no-chunk scope number
      branches-chunk scope number (branch clause t branches) inner =
          join-chunk scope number (branch_count branches) (Branch_node clause ∷ tree_nodes t) (branches_nodes branches)
          (node-chunk scope number 1 scope (Branch_node clause) (tree_nodes t) tt refl refl (tree-chunk scope (suc number) t (all-left Q (told_tree (suc number) t) (told_branches (number + suc (length (tree_nodes t))) branches) inner)))
          (branches-chunk scope (number + suc (length (tree_nodes t))) branches (all-right Q (told_tree (suc number) t) (told_branches (number + suc (length (tree_nodes t))) branches) inner))
