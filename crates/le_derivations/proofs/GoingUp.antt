-- Going up a path, step by step.
use Rattle.std.proofs.Common.{◌≡◌, ℕ, suc, ◌+◌, ◌-◌, List, [], ◌∷◌, ◌++◌, take, drop, length, min, refl, sym, ap, ap₂, subst, ◌∙◌, length-append, append-nil, arith}
use Rattle.std.proofs.lemmas.List.{length-take, length-drop, append_cancel_right}
use Rattle.le_terms.specs.Tree.{Tree}
use Rattle.le_subst.specs.Unifiers.{Bindings, value_at, apply}
use Rattle.le_subst.proofs.Replacing.{replaced-agree}
use Rattle.le_proofs.specs.declared.node.Node.{Node}
use Rattle.le_proofs.specs.Proofs.{Proof, Step, Leaf, packed, from_above, joined_proofs, proof_by, then_by}
use Rattle.le_proofs.specs.SearchTree.{first_proof}
use Rattle.le_proofs.specs.Derivations.{node_under, proof_nodes, proofs_nodes}
use Rattle.le_proofs.specs.Replay.{behind}
use Rattle.le_proofs.specs.UnderWay.{leaf_along}
use Rattle.le_derivations.specs.declared.path.PathStep.{PathStep}
use Rattle.le_derivations.specs.Paths.{count_of, with_count, IsStep, AreSteps, AreProofs, IsPartWay}
use Rattle.le_derivations.proofs.Joined.{nodes_of, nodes-split, nodes-behind, node-agree, joined-nodes}

-- how many proofs there are once some are one
joined-length : (p c : ℕ) (join : List Proof → Proof) (ps : List Proof) → length (joined_proofs p c join ps) ≡ (length ps - min c (length ps - p)) + 1
joined-length p c join ps =
    let front : length (take p ps) ≡ min p (length ps) = length-take p ps in
    let back : length (drop p ps) ≡ length ps - p = length-drop p ps in
    let rest : length (drop c (drop p ps)) ≡ length (drop p ps) - c = length-drop c (drop p ps) in
    let all : length (joined_proofs p c join ps) ≡ length (take p ps) + suc (length (drop c (drop p ps))) = length-append (take p ps) (join (take c (drop p ps)) ∷ drop c (drop p ps)) in
    omega (arith, front, back, rest, all)

-- one step up
pub goes-up : (kept : PathStep) (step : Step) (leaf : Leaf) (nodes front new : List Node) (count taken more : ℕ) (bindings maps : Bindings) (node : Node) → IsStep kept step → AreProofs nodes count bindings leaf
    → ((v : ℕ) → value_at maps v ≡ apply bindings (value_at kept.unifier v)) → taken ≡ min (count_of kept.node) (count - kept.place) → more ≡ (count - taken) + 1
    → node ≡ with_count taken (node_under (value_at maps) kept.node) → front ++ behind kept.place nodes ≡ nodes → new ≡ front ++ (node ∷ (kept.below ++ behind kept.place nodes))
    → AreProofs new more maps (from_above step leaf)
goes-up kept step leaf nodes front new count taken more bindings maps node is are after took counted made parted put =
    let ps : List Proof = leaf.proofs in
    let p : ℕ = kept.place in
    let c : ℕ = count_of kept.node in
    let by : ℕ → Tree = then_by step.unifier leaf.by in
    let agree : (v : ℕ) → value_at maps v ≡ by v = λ v. after v ∙ (replaced-agree (value_at bindings) leaf.by are.by_ (value_at kept.unifier v) ∙ ap (λ u. then_by u leaf.by v) (sym is.unifier_)) in
    let back : behind p nodes ≡ nodes_of (drop p ps) = ap (behind p) are.nodes_ ∙ nodes-behind p ps in
    let fronts : front ++ nodes_of (drop p ps) ≡ nodes_of (take p ps) ++ nodes_of (drop p ps) =
    ap (λ ns. front ++ ns) (sym back) ∙ (parted ∙ (are.nodes_ ∙ sym (nodes-split p ps))) in
    let ahead : front ≡ nodes_of (take p ps) = append_cancel_right front (nodes_of (take p ps)) (nodes_of (drop p ps)) fronts in
    let many : length (take c (drop p ps)) ≡ taken = length-take c (drop p ps) ∙ (ap (min c) (length-drop p ps) ∙ (ap (λ n. min c (n - p)) (sym are.count_) ∙ sym took)) in
    let own : node ≡ with_count (length (take c (drop p ps))) (node_under by kept.node) =
    made ∙ ap₂ (λ n m. with_count n m) (sym many) (node-agree (value_at maps) by agree kept.node) in
    record {
      nodes_ = put
          ∙ (ap₂ (λ f b. f ++ (node ∷ (kept.below ++ b))) ahead back
          ∙ (ap (λ n. nodes_of (take p ps) ++ (n ∷ (kept.below ++ nodes_of (drop p ps)))) own ∙ sym (joined-nodes kept step by ps is)));
      count_ = counted
          ∙ (ap₂ (λ n t. (n - t) + 1) are.count_ (took ∙ ap (λ n. min c (n - p)) are.count_)
          ∙ (sym (joined-length p c (λ below. proof_by by below step.reason) ps)
          ∙ ap₂ (λ q d. length (joined_proofs q d (λ below. proof_by by below step.reason) ps)) (sym is.place_) (sym is.count_)));
      by_ = agree;
    }

-- the rest of a path once a step is made
pub part-step : (kept : PathStep) (keeps : List PathStep) (nodes new : List Node) (count more : ℕ) (bindings maps : Bindings) (whole : Leaf) → IsPartWay (kept ∷ keeps) nodes count bindings whole
    → ((step : Step) (leaf : Leaf) → IsStep kept step → AreProofs nodes count bindings leaf → AreProofs new more maps (from_above step leaf)) → IsPartWay keeps new more maps whole
part-step kept keeps nodes new count more bindings maps whole part up = by part.steps part.are part.along
  where
    by : (steps : List Step) → AreSteps (kept ∷ keeps) steps → leaf_along steps part.leaf ≡ whole → IsPartWay keeps new more maps whole
    by [] are along = absurd are
    by (step ∷ steps) are along = record { steps = steps; leaf = from_above step part.leaf; are = are.1; proofs_ = up step part.leaf are.0 part.proofs_; along = along }

-- the end of a path
pub part-end : (nodes : List Node) (count : ℕ) (bindings : Bindings) (whole : Leaf) → IsPartWay [] nodes count bindings whole → AreProofs nodes count bindings whole
part-end nodes count bindings whole part = by part.steps part.are part.along
  where
    by : (steps : List Step) → AreSteps [] steps → leaf_along steps part.leaf ≡ whole → AreProofs nodes count bindings whole
    by [] are along = subst (AreProofs nodes count bindings) along part.proofs_
    by (step ∷ steps) are along = absurd are

-- the nodes of a leaf's only proof
pub only-proof : (leaf : Leaf) → length leaf.proofs ≡ 1 → proofs_nodes (packed leaf.proofs) ≡ proof_nodes (first_proof leaf)
only-proof leaf one = by leaf.proofs one
  where
    by : (ps : List Proof) → length ps ≡ 1 → proofs_nodes (packed ps) ≡ proof_nodes (first_proof (record { terms = leaf.terms; left = leaf.left; by = leaf.by; proofs = ps }))
    by [] none = absurd (cc none)
    by (p ∷ []) same = append-nil (proof_nodes p)
    by (p ∷ q ∷ ps) more = absurd (omega (arith, more))

-- a leaf seen from above has the same terms
pub along-terms : (path : List Step) (leaf : Leaf) → (leaf_along path leaf).terms ≡ leaf.terms
along-terms [] leaf = refl
along-terms (step ∷ path) leaf = along-terms path (from_above step leaf)
