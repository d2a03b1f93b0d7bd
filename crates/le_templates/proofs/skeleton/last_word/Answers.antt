use Rattle.std.proofs.Common.{◌-◌, arith}
use Rattle.le_templates.proofs.SkeletonLemmas.{last_found, last_all}
use Rattle.le_templates.proofs.skeleton.last_word.Goals as goal
use Rattle.le_templates.proofs.skeleton.last_word.Goals.{then-loop-from-test+else-phrase-from-ne32, else-loop-from-test}

pub returns : goal.returns
returns c = elim c.loop-from-test.branch [
  | then-loop-from-test+else-phrase-from-ne32 w ↦ last_found c.args.phrase.now c.loop-from.from (c.loop-from.from - 1) (omega (arith, w.loop-from-test.true)) c.loop-from.invariant.0 w.if-phrase-from-ne32.false c.loop-from.invariant.1
  | else-loop-from-test w ↦ last_all c.args.phrase.now c.loop-from.from w.loop-from-test.false c.loop-from.invariant.1
]
