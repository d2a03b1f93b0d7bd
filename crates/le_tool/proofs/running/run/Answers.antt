use Rattle.std.proofs.Common.{map, string_bytes, Global}
use Rattle.le_tool.proofs.DocumentLemmas.{task_part}
use Rattle.le_tool.proofs.SentenceLemmas.{known-back}
use Rattle.le_tool.proofs.running.run.Goals as goal

pub returns-in-None-clause-sentences : goal.returns-in-None-clause-sentences
returns-in-None-clause-sentences g c = known-back _ (map (string_bytes {Z = Global}) c.args.words.now)

pub returns-in-Some-clause-sentences : goal.returns-in-Some-clause-sentences
returns-in-Some-clause-sentences g c = known-back _ (map (string_bytes {Z = Global}) c.args.words.now)

pub returns-in-Some-clause-part : goal.returns-in-Some-clause-part
returns-in-Some-clause-part g c = task_part _ _ _ (map (string_bytes {Z = Global}) c.args.words.now) c.in-Some.task c.in-Some.ensures.exact c.task_status.ensures.part
