use Rattle.std.proofs.Common.{sym}
use Rattle.le_check.proofs.SameNodes.{other-lengths}
use Rattle.le_check.proofs.comparing.same_nodes.Goals as goal

pub returns-then-some-others : goal.returns-then-some-others
returns-then-some-others c = sym (other-lengths c.args.some.now c.args.others.now c.if-some-others.true)
