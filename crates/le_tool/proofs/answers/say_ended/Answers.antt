use Rattle.std.proofs.Common.{sym, ◌∙◌}
use Rattle.le_tool.proofs.SearchLemmas.{ended_part, ended_more}
use Rattle.le_tool.proofs.answers.say_ended.Goals as goal

pub returns-in_err-say_bytes-clause-part : goal.returns-in_err-say_bytes-clause-part
returns-in_err-say_bytes-clause-part g c = ended_part _ _ c.args.bytes.now c.say_bytes.ensures.part

pub returns-clause-part : goal.returns-clause-part
returns-clause-part g c = ended_more _ _ _ c.args.bytes.now (sym c.is_ended.ensures ∙ c.if-is_ended.false) c.in_ok-say_bytes.ensures.done c.say.ensures.part
