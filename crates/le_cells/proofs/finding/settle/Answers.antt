use Rattle.std.proofs.Common.{rules, ◌≡◌, None, sym, subst, ◌∙◌}
use Rattle.std.specs.Prelude.{slice_get}
use Rattle.le_goals.specs.Shown.{shape_of}
use Rattle.le_cells.specs.declared.goals.Turn.{Turn}
use Rattle.le_cells.specs.Keeping.{goal_now}
use Rattle.le_cells.specs.Turns.{Comes}
use Rattle.le_cells.proofs.Picking.{shape-none, first-none}
use Rattle.le_cells.proofs.finding.settle.Goals as goal

pub loop-turn-preserved : goal.loop-turn-preserved
loop-turn-preserved c =
    let literals = (goal_now c.loop-turn.goals c.in-Visit.goal).literals in
    let off : c.shape_at.result ≡ None = search rules in
    record {
      comes = λ budget given h.
          c.in_ok-turn-in-Visit.ensures.comes c.args.program.now budget given c.args.left (first-none literals (shape-none shape_of (slice_get literals 0) (sym c.shape_at.ensures ∙ off)))
          (subst (λ (t : Turn). Comes c.args.program.now budget given c.loop-turn.goals c.loop-turn.searches t c.args.left) c.in-Visit.is (c.loop-turn.invariant.comes budget given h));
      ready = c.in_ok-turn-in-Visit.ensures.ready c.args.left;
      opens = c.in_ok-turn-in-Visit.ensures.opens c.args.left c.loop-turn.invariant.opens;
      same = c.loop-turn.invariant.same;
    }
