use Rattle.std.proofs.Common.{sym, refl, ap, ◌∙◌}
use Rattle.le_proofs.specs.declared.node.Node.TheVariants.{Use}
use Rattle.le_proofs.specs.Proofs.{clause_used, step_to}
use Rattle.le_proofs.specs.Goals.{child_by}
use Rattle.le_check.specs.Goals.{goal_of, placed}
use Rattle.le_derivations.specs.Paths.{Shows, count_of}
use Rattle.le_check.proofs.Resuming.{goes-onward, put-from}
use Rattle.le_check.proofs.proving.used.Goals as goal

pub returns : goal.returns
returns c = λ program nodes frames order whole literal atom clause count node-is counts h.
    let shown : Shows (clause_used clause atom) c.args.node c.from_vec.result = (node-is ∙ ap (λ n. Use clause n atom) (sym (ap count_of node-is)), c.from_vec.ensures ∙ c.new.ensures.items) in
    goes-onward program nodes frames order whole c.args.proof.fuel c.args.proof.path.items c.push.new.self.items _ (step_to c.args.place atom (child_by (goal_of c.args.proof.goal) (placed c.args.proof.goal.literals.items c.args.place literal) clause c.args.it.now c.args.unifier)) _ _ _ _ c.in_ok-push.ensures.items
    (record { place_ = refl; count_ = sym counts ∙ sym (ap count_of node-is); unifier_ = refl; reason_ = shown })
    (c.in_ok-goal.ensures literal) (put-from nodes c.args.place c.args.proof.places.items c.args.below.items _ c.in_ok-places.ensures) h
