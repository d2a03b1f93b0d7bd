use Rattle.le_bundle.proofs.ReadLemmas.{utf8_number, no_number}
use Rattle.std.proofs.Common.{◌∙◌}
use Rattle.le_bundle.proofs.numbers.number_up_to.Goals as goal

pub returns-in-Ok-clause-exact : goal.returns-in-Ok-clause-exact
returns-in-Ok-clause-exact c = c.count_up_to.ensures.exact ∙ utf8_number c.args.most c.args.bytes.now c.in-Ok.word.now c.in-Ok.ensures.cases.0 c.in-Ok.ensures.cases.1

pub returns-in-Err-clause-exact : goal.returns-in-Err-clause-exact
returns-in-Err-clause-exact c = no_number c.args.most c.args.bytes.now c.in-Err.ensures.cases.0
