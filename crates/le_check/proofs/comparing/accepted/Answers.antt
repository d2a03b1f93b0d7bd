use Rattle.std.proofs.Common.{sym, ◌∙◌}
use Rattle.le_check.proofs.Expected.{few-variables}
use Rattle.le_check.proofs.comparing.accepted.Goals as goal

pub canonical-requires : goal.canonical-requires
canonical-requires c = few-variables c.args.terms.now (sym c.are_low.ensures ∙ c.if-not-are_low.false)
