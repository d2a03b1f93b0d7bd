use Rattle.le_conds.proofs.EntryLemmas.{nothing_begins}
use Rattle.le_conds.proofs.faults.begins_opener.Goals as goal

pub returns-then-span : goal.returns-then-span
returns-then-span c = nothing_begins c.args.layout.now c.args.span c.if-span.true
