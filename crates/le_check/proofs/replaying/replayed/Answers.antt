use Rattle.std.proofs.Common.{◌+◌, reverse, ap, le_refl, subst}
use Rattle.le_proofs.specs.Replay.{replay_of}
use Rattle.le_check.specs.Goals.{goal_of}
use Rattle.le_check.specs.Parts.{nodes_from}
use Rattle.le_check.specs.Left.{Left, Means}
use Rattle.le_check.specs.Progress.{Goes}
use Rattle.le_check.specs.declared.levels.Turn.TheVariants.{Prove}
use Rattle.le_check.proofs.Growing.{left-none, left-then, starts}
use Rattle.le_check.proofs.replaying.replayed.Goals as goal

pub loop-init : goal.loop-init
loop-init g c =
    let proof = c.in_ok-root.field-0 in
    left-none _ _ (λ rest. Means c.args.program.now c.args.nodes.now (reverse c.new.result.items) c.new-2.result.items (Prove proof) rest) (replay_of c.args.program.now c.args.nodes.now) (le_refl _)
    (starts c.args.program.now c.args.nodes.now (reverse c.new.result.items) proof.path.items c.new-2.result.items proof.fuel (goal_of proof.goal) (nodes_from c.args.nodes.now proof.places.items)
    (ap reverse c.new.ensures.items) c.in_ok-root.ensures.path c.new-2.ensures.items c.in_ok-root.ensures.fuel c.in_ok-root.ensures.goal c.in_ok-root.ensures.places)

pub loop-preserved : goal.loop-preserved
loop-preserved g c =
    left-then _ _ _ (λ rest. Means c.args.program.now c.args.nodes.now (reverse c.loop.state.frames.items) c.loop.state.order.items c.loop.turn rest)
    (λ rest. Means c.args.program.now c.args.nodes.now (reverse c.take_turn.new.state.frames.items) c.take_turn.new.state.order.items c.in-Goes.next rest) (replay_of c.args.program.now c.args.nodes.now) c.loop.invariant
    (λ rest h. subst (λ p. Left (c.loop.steps + c.loop.state.allowed) (c.take_turn.new.steps + c.take_turn.new.state.allowed) (λ r. Goes c.args.program.now c.args.nodes.now (reverse c.take_turn.new.state.frames.items) c.take_turn.new.state.order.items p r) rest) c.in-Goes.is (c.in_ok-next.ensures.means rest h))
