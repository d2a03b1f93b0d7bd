use Rattle.std.proofs.Common.{sym, ◌∙◌, arith}
use Rattle.le_tool.proofs.ChecksLemmas.{verdict_part, verdict_next, verdict_last, all_part}
use Rattle.le_tool.proofs.checks.say_verdicts.Goals as goal

pub returns-in_err-accepted-clause-part : goal.returns-in_err-accepted-clause-part
returns-in_err-accepted-clause-part g c =
    verdict_part _ _ _ c.args.whole.now c.args.program.now c.args.derivations.now c.loop-at.at c.index-derivations-at.result _ c.loop-at-test.true c.index-derivations-at.is c.loop-at.invariant.0 c.say_verdict.ensures.part

pub returns-then-not-accepted-clause-part : goal.returns-then-not-accepted-clause-part
returns-then-not-accepted-clause-part g c =
    verdict_part _ _ _ c.args.whole.now c.args.program.now c.args.derivations.now c.loop-at.at c.index-derivations-at.result _ c.loop-at-test.true c.index-derivations-at.is c.loop-at.invariant.0 c.say_verdict.ensures.part

pub returns-then-not-accepted-clause-done : goal.returns-then-not-accepted-clause-done
returns-then-not-accepted-clause-done g c =
    verdict_last _ _ _ c.args.whole.now c.args.program.now c.args.derivations.now c.loop-at.at c.index-derivations-at.result _ c.loop-at-test.true c.index-derivations-at.is (sym c.in_ok-accepted.ensures.done.1 ∙ c.if-not-accepted.true) c.loop-at.invariant.0 c.in_ok-accepted.ensures.done.0

pub loop-at-preserved : goal.loop-at-preserved
loop-at-preserved g c = (
  verdict_next _ _ _ c.args.whole.now c.args.program.now c.args.derivations.now c.loop-at.at c.index-derivations-at.result _ c.loop-at-test.true c.index-derivations-at.is (sym c.in_ok-accepted.ensures.done.1 ∙ c.if-not-accepted.false) c.loop-at.invariant.0 c.in_ok-accepted.ensures.done.0,
  omega (arith, c.loop-at.invariant.1, c.say_verdict.ensures.count),
)

pub returns-clause-part : goal.returns-clause-part
returns-clause-part g c =
    all_part _ _ _ c.args.whole.now c.args.program.now c.args.derivations.now c.loop-at.at _ c.loop-at-test.false c.loop-at.invariant.0 c.say_all_accepted.ensures.part
