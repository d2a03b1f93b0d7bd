use Rattle.std.proofs.Common.{[], refl, sym, ◌∙◌}
use Rattle.le_proofs.specs.declared.node.Node.TheVariants as node
use Rattle.le_proofs.specs.Proofs.{failure_shown}
use Rattle.le_derivations.specs.Paths.{Shows}
use Rattle.le_check.specs.Goals.{goal_of}
use Rattle.le_check.specs.Parts.{nodes_from}
use Rattle.le_check.specs.Left.{past}
use Rattle.le_check.proofs.Resuming.{goes-onward}
use Rattle.le_check.proofs.returning.absent_done.Goals as goal

pub returns : goal.returns
returns c = λ program nodes frames order whole rest h.
    let frame = c.args.frame in
    let shown : Shows (failure_shown c.args.frame.atom h.0) (node.Absent c.args.frame.atom) c.from_vec.result = (refl, c.from_vec.ensures ∙ sym h.1) in
    goes-onward program nodes frames order whole frame.proof.fuel frame.proof.path.items c.push.new.self.items _ (past frame.place [] (failure_shown frame.atom h.0)) (goal_of frame.proof.goal) (goal_of frame.proof.goal) (nodes_from nodes frame.proof.places.items) (nodes_from nodes frame.proof.places.items)
    c.in_ok-push.ensures.items (record { place_ = refl; count_ = refl; unifier_ = sym c.empty.ensures; reason_ = shown }) refl refl h.2
