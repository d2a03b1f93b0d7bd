use Rattle.std.proofs.Common.{rules}
use Rattle.le_bundle.proofs.ReadLemmas.{utf8_name, no_name}
use Rattle.le_bundle.proofs.opening.name_of.Goals as goal

pub returns-in-Ok : goal.returns-in-Ok
returns-in-Ok c = utf8_name c.args.bytes.now c.in-Ok.name.now (search rules) c.in-Ok.ensures.cases.0 c.in-Ok.ensures.cases.1

pub returns-in-Err : goal.returns-in-Err
returns-in-Err c = no_name c.args.bytes.now (search rules) c.in-Err.ensures.cases.0
