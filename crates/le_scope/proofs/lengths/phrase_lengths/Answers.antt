use Rattle.std.proofs.Common.{◌≡◌, ◌∙◌, ◌+◌, ◌-◌, ◌<◌, reverse, ap, arith}
use Rattle.le_scope.specs.Lengths.{plain_run, phrase_lengths, lengths_from}
use Rattle.le_scope.specs.Lists.{until_end, rows_of, first_row}
use Rattle.le_scope.proofs.TokenLemmas.{span}
use Rattle.le_scope.proofs.RowLemmas.{until_none, rows_none, rows_more}
use Rattle.le_scope.proofs.RunLemmas.{found_more, found_none, found_all, run_none}
use Rattle.le_scope.proofs.lengths.phrase_lengths.Goals as goal

pub loop-taken-init : goal.loop-taken-init
loop-taken-init c =
    let to = c.args.tokens.to in
    (c.new-found.ensures.items ∙ found_none c.args.layout.now (to - 0) to (omega arith), run_none c.args.layout.now (to - 0) to (omega arith), until_none c.args.layout.now (to - 0) to (omega arith), c.new-rows.ensures.items ∙ rows_none c.args.layout.now (to - 0) to (omega arith))

pub loop-taken-preserved : goal.loop-taken-preserved
loop-taken-preserved c =
    let l = c.args.layout.now in
    let to = c.args.tokens.to in
    let at = to - (c.loop-taken.taken + 1) in
    let here : to - 1 - c.loop-taken.taken ≡ at = omega arith in
    let next : to - c.loop-taken.taken ≡ at + 1 = omega (arith, c.loop-taken-test.true, c.requires.tokens.ordered) in
    let low : at < to = omega (arith, c.loop-taken-test.true, c.requires.tokens.ordered) in (
      found_more l at to c.loop-taken.found.items c.push-in-loop-taken.new.self.items c.lengths_at.result low c.requires.tokens.within
          (c.loop-taken.invariant.0 ∙ ap (λ k. reverse (lengths_from l (span l k to))) next)
          (c.lengths_at.ensures ∙ ap (λ k. phrase_lengths l (span l k to)) here)
          c.in_ok-push-2.ensures.items,
      c.run_at-run.ensures ∙ ap (λ k. plain_run l (span l k to)) here,
      c.count_at-count.ensures ∙ ap (λ k. until_end (span l k to)) here,
      rows_more l at to c.loop-taken.rows.items c.push.new.self.items c.row_at-row.result low c.requires.tokens.within
          (c.loop-taken.invariant.3 ∙ ap (λ k. reverse (rows_of l (span l k to))) next)
          (c.row_at-row.ensures ∙ ap (λ k. first_row l (span l k to)) here)
          c.in_ok-push.ensures.items,
    )

pub returns : goal.returns
returns c =
    let to = c.args.tokens.to in
    found_all c.args.layout.now c.args.tokens.from (to - c.loop-taken.taken) to c.loop-taken.found.items c.reverse.new.self.items
    (omega (arith, c.loop-taken-test.false, c.loop-taken.auto.taken-end, c.requires.tokens.ordered)) c.loop-taken.invariant.0 c.reverse.ensures.items
