use Rattle.std.proofs.Common.{reverse}
use Rattle.std.proofs.lemmas.Result.{err_from_is_err_and}
use Rattle.le_check.proofs.Growing.{err-any}
use Rattle.le_check.proofs.replaying.walk_on.Goals as goal

pub returns-in_err-opening : goal.returns-in_err-opening
returns-in_err-opening g c = record {
  means = λ whole h.
      let l = c.walk_next.ensures.means (reverse c.args.state.now.frames.items) c.args.state.now.order.items whole h in
      let p = err_from_is_err_and c.from_residual.result c.from_residual.ensures.1 in
      (l.0, l.1, l.2, l.3, l.4, err-any c.from_residual.result _ _ p.1);
}

pub returns-in_err-turn : goal.returns-in_err-turn
returns-in_err-turn g c = record {
  means = λ whole h.
      let l = c.walk_next.ensures.means (reverse c.args.state.now.frames.items) c.args.state.now.order.items whole h in
      let p = err_from_is_err_and c.from_residual-in_err-turn.result c.from_residual-in_err-turn.ensures.1 in
      (l.0, l.1, l.2, l.3, l.4, err-any c.from_residual-in_err-turn.result _ _ p.1);
}

pub returns : goal.returns
returns g c = record {
  means = λ whole h.
      let l = c.in_ok-opening.ensures.means (reverse c.args.state.now.frames.items) c.args.state.now.order.items whole h in
      (l.0, l.1, l.2, l.3, l.4, c.in_ok-turn.ensures c.args.program.now c.args.nodes.now c.args.state.now.order.items l.1 l.5);
}
