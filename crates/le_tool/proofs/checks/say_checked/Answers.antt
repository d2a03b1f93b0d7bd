use Rattle.std.proofs.Common.{Ok}
use Rattle.le_bundle.specs.Parts.{bundle_by}
use Rattle.le_tool.proofs.ChecksLemmas.{judged_in}
use Rattle.le_tool.proofs.checks.say_checked.Goals as goal

pub returns-in-Ok-clause-accepted : goal.returns-in-Ok-clause-accepted
returns-in-Ok-clause-accepted g c = judged_in (bundle_by c.args.parts.now) (Ok c.args.whole.now) c.requires.whole

pub returns-in-Err-Memory-clause-accepted : goal.returns-in-Err-Memory-clause-accepted
returns-in-Err-Memory-clause-accepted g c = judged_in (bundle_by c.args.parts.now) (Ok c.args.whole.now) c.requires.whole
