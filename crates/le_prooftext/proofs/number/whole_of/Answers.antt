use Rattle.std.proofs.Common.{sym}
use Rattle.le_prooftext.proofs.Numbers.{whole_of-no_text}
use Rattle.le_prooftext.proofs.number.whole_of.Goals as goal

pub returns-in_default-clause-value : goal.returns-in_default-clause-value
returns-in_default-clause-value c = sym (whole_of-no_text c.args.bytes.now c.in_default.ensures.cases.0)
