use Rattle.std.proofs.Common.{◌+◌, ◌≤◌, reverse, ap, subst, le_refl, arith}
use Rattle.std.specs.Prelude.{IfOk}
use Rattle.le_check.specs.Left.{Means}
use Rattle.le_check.specs.Progress.{Goes}
use Rattle.le_check.specs.declared.replaying.Progress.TheVariants.{Over}
use Rattle.le_check.specs.declared.replaying.Replay.TheVariants.{Stopped}
use Rattle.le_check.proofs.Growing.{left-none}
use Rattle.le_check.proofs.Resuming.{ok-all}
use Rattle.le_check.proofs.replaying.take_turn.Goals as goal

pub returns-in-Prove : goal.returns-in-Prove
returns-in-Prove g c = record {
  means = λ whole h.
      let frames = reverse c.args.state.now.frames.items in
      let order = c.args.state.now.order.items in
      left-none _ _ (λ rest. IfOk c.prove_on.result (λ progress. Goes c.args.program.now c.args.nodes.now (reverse c.prove_on.new.state.frames.items) c.prove_on.new.state.order.items progress rest)) whole c.prove_on.ensures.steps
      (ok-all _ _ (λ progress means. means whole (subst (λ t. Means c.args.program.now c.args.nodes.now frames order t whole) c.in-Prove.is h)) c.prove_on.result c.prove_on.ensures.means);
}

pub returns-in-Walk : goal.returns-in-Walk
returns-in-Walk g c = record {
  means = λ whole h.
      c.walk_on.ensures.means whole (subst (λ t. Means c.args.program.now c.args.nodes.now (reverse c.args.state.now.frames.items) c.args.state.now.order.items t whole) c.in-Walk.is h);
}

pub returns-in-Through : goal.returns-in-Through
returns-in-Through g c = record {
  means = λ whole h.
      let frames = reverse c.args.state.now.frames.items in
      let order = c.args.state.now.order.items in
      let fewer : c.args.steps.now + c.close_proof.new.state.allowed ≤ c.args.steps.now + c.args.state.now.allowed = omega (arith, c.close_proof.ensures.allowed) in
      left-none _ _ (λ rest. IfOk c.close_proof.result (λ progress. Goes c.args.program.now c.args.nodes.now (reverse c.close_proof.new.state.frames.items) c.close_proof.new.state.order.items progress rest)) whole fewer
      (ok-all _ _ (λ progress means. means c.args.program.now c.args.nodes.now whole (subst (λ t. Means c.args.program.now c.args.nodes.now frames order t whole) c.in-Through.is h)) c.close_proof.result c.close_proof.ensures.means);
}

pub returns-in-Walked : goal.returns-in-Walked
returns-in-Walked g c = record {
  means = λ whole h.
      let frames = reverse c.args.state.now.frames.items in
      let order = c.args.state.now.order.items in
      left-none _ _ (λ rest. IfOk c.close_tree.result (λ progress. Goes c.args.program.now c.args.nodes.now (reverse c.close_tree.new.state.frames.items) c.close_tree.new.state.order.items progress rest)) whole c.close_tree.ensures.steps
      (ok-all _ _ (λ progress means. means whole (subst (λ t. Means c.args.program.now c.args.nodes.now frames order t whole) c.in-Walked.is h)) c.close_tree.result c.close_tree.ensures.means);
}

pub returns-in-Stopped : goal.returns-in-Stopped
returns-in-Stopped g c = record {
  means = λ whole h.
      let stopped = subst (λ t. Means c.args.program.now c.args.nodes.now (reverse c.args.state.now.frames.items) c.args.state.now.order.items t whole) c.in-Stopped.is h in
      left-none _ _ (λ rest. Goes c.args.program.now c.args.nodes.now (reverse c.args.state.now.frames.items) c.args.state.now.order.items (Over (Stopped c.in-Stopped.fault)) rest) whole (le_refl _) (ap (λ w. w.answer) stopped);
}
