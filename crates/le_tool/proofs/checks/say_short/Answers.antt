use Rattle.std.proofs.lemmas.Result.{IfOk-weaker}
use Rattle.le_tool.proofs.ChecksLemmas.{same_part, same_whole, short_is, short_judged}
use Rattle.le_tool.proofs.checks.say_short.Goals as goal

pub returns-clause-accepted : goal.returns-clause-accepted
returns-clause-accepted g c = IfOk-weaker c.say_bundle.result _ _ (λ status h. short_judged c.args.bytes.now c.requires h) c.say_bundle.ensures.accepted

pub returns-clause-done : goal.returns-clause-done
returns-clause-done g c = IfOk-weaker c.say_bundle.result _ _ (λ status h. same_whole _ _ _ _ status (short_is c.args.bytes.now c.requires) h) c.say_bundle.ensures.done

pub returns-clause-part : goal.returns-clause-part
returns-clause-part g c = same_part _ _ _ _ (short_is c.args.bytes.now c.requires) c.say_bundle.ensures.part
