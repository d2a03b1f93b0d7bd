use Rattle.std.proofs.Common.{subst, ◌∙◌}
use Rattle.le_base.specs.Outside.{AppendsPrefix}
use Rattle.le_bundle.specs.Head.{ended}
use Rattle.le_tool.proofs.SearchLemmas.{part_front, part_end}
use Rattle.le_tool.proofs.answers.say_head.Goals as goal

pub returns-in_err-say_ended-clause-part : goal.returns-in_err-say_ended-clause-part
returns-in_err-say_ended-clause-part g c = part_front _ _ (ended c.args.bytes.now) _ c.say_ended.ensures.part

pub returns-clause-part : goal.returns-clause-part
returns-clause-part g c =
    part_end _ _ _ (ended c.args.bytes.now) _ c.in_ok-say_ended.ensures.done (subst (AppendsPrefix _ _) (c.as_str.ensures ∙ c.in_ok-lines.ensures) c.say.ensures.part)
