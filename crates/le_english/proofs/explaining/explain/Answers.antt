use Rattle.std.specs.Prelude.{vec_len}
use Rattle.std.proofs.Common.{rules, length, ◌≡◌, ◌∙◌, ap, sym, drop_of_length-le}
use Rattle.std.proofs.lemmas.Bool.{eqb-true}
use Rattle.std.proofs.lemmas.List.{nil_from_length}
use Rattle.le_english.specs.Explanations.{explanation}
use Rattle.le_english.proofs.LineSteps.{nodes-end, stack-end}
use Rattle.le_english.proofs.explaining.explain.Goals as goal
use Rattle.le_english.proofs.explaining.explain.Goals.{then-loop-at-test+else-not-is_empty, else-loop-at-test}

pub returns : goal.returns
returns c =
    elim c.loop-at-test.branch [
      | then-loop-at-test+else-not-is_empty w ↦
          (let count : vec_len c.loop-at.so_far.pending ≡ 0 = eqb-true _ _ (sym w.is_empty.ensures ∙ w.if-not-is_empty.false) in
          let none : length c.loop-at.so_far.pending.items ≡ 0 = search rules in
          stack-end c.args.templates.now c.args.names.now c.args.program.now c.loop-at.so_far.text _ c.loop-at.so_far.pending.items _ (nil_from_length c.loop-at.so_far.pending.items none) c.loop-at.invariant.lines
          ∙ ap (explanation c.args.templates.now c.args.names.now c.args.program.now) c.as_slice-nodes.ensures)
      | else-loop-at-test w ↦
          nodes-end c.args.templates.now c.args.names.now c.args.program.now c.loop-at.so_far.text _ _ _ (drop_of_length-le c.as_slice-nodes.result.now w.loop-at-test.false) c.loop-at.invariant.lines
          ∙ ap (explanation c.args.templates.now c.args.names.now c.args.program.now) c.as_slice-nodes.ensures
    ]
