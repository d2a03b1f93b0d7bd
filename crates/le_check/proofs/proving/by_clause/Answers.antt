use Rattle.std.proofs.Common.{◌≡◌, ◌++◌, [], ◌∷◌, List, length, drop, Some, rules, sym, refl, ◌∙◌, subst}
use Rattle.le_proofs.specs.declared.node.Node.{Node}
use Rattle.le_proofs.specs.Goals.{child_by, resolvent_by, head_solution}
use Rattle.le_proofs.specs.Proofs.{step_to}
use Rattle.le_proofs.specs.Replay.{put_places, use_one, proofs_within, tree_within, clause_at}
use Rattle.le_check.specs.Goals.{goal_of, placed}
use Rattle.le_check.specs.Parts.{nodes_from}
use Rattle.le_check.specs.Left.{ProofGives, ProofOnward, ProofDone, proof_below}
use Rattle.le_check.proofs.Resuming.{ok-all, use-one-goes}
use Rattle.le_check.proofs.proving.by_clause.Goals as goal

pub returns-clause-means : goal.returns-clause-means
returns-clause-means g c =
    let program = c.args.program.now in
    let nodes = c.args.nodes.now in
    let proof = c.args.proof in
    let counts : c.args.claim.2 ≡ length c.in-Some.it.now.body = search rules in
    let found : clause_at c.args.program.now c.args.claim.1 ≡ Some c.in-Some.it.now = c.in-Some.ensures.some.0 in
    let solves : head_solution c.args.proof.goal.next c.in-Some.it.now c.args.claim.0 ≡ Some c.in-Some-2.unifier = sym c.in_ok-unifier.ensures.exact ∙ c.in-Some-2.is in
    ok-all _ _
    (λ turn goes frames order whole literal h.
    goes program nodes frames (order ++ c.args.number ∷ []) whole literal c.args.claim.0 c.args.claim.1 c.args.claim.2 refl counts
    (subst (λ (ns : List (List Node)). ProofOnward program nodes (ProofDone program nodes frames) proof.path.items (step_to c.args.place c.args.claim.0 (child_by (goal_of proof.goal) (placed proof.goal.literals.items c.args.place literal) c.args.claim.1 c.in-Some.it.now c.in-Some-2.unifier)) (order ++ c.args.number ∷ []) (proof_below program nodes proof.fuel (resolvent_by (goal_of proof.goal) (placed proof.goal.literals.items c.args.place literal) c.in-Some.it.now c.in-Some-2.unifier) (put_places c.args.place ns (nodes_from nodes proof.places.items))) whole)
    (sym c.in_ok-below.ensures.places)
    (use-one-goes program nodes frames proof.path.items order whole proof.fuel (goal_of proof.goal) (nodes_from nodes proof.places.items) c.args.place literal c.args.claim.0 c.args.number c.args.claim.1 c.args.claim.2 (drop c.args.at nodes) c.in-Some.it.now c.in-Some-2.unifier
    c.requires.inside counts solves
    (subst (λ o. ProofGives program nodes frames proof.path.items order (use_one program (length nodes) (proofs_within program (length nodes) proof.fuel) (tree_within program (length nodes) proof.fuel) (goal_of proof.goal) (nodes_from nodes proof.places.items) (placed proof.goal.literals.items c.args.place literal) c.args.claim.0 c.args.number c.args.claim.1 c.args.claim.2 (drop c.args.at nodes) o) whole) found h)))) c.used.result c.used.ensures
