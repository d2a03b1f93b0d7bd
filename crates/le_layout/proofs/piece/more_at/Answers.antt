use Rattle.std.proofs.Common.{sym, ◌∙◌, arith}
use Rattle.le_layout.proofs.PieceLemmas.{quote_inside, end_inside}
use Rattle.le_layout.proofs.piece.more_at.Goals as goal

pub returns-in-Quote-clause-inside : goal.returns-in-Quote-clause-inside
returns-in-Quote-clause-inside c = omega (arith, c.before_quote.ensures.value, quote_inside c.args.first c.args.rest.now (sym c.requires ∙ c.in-Quote.is))

pub returns-in-LineEnd-clause-inside : goal.returns-in-LineEnd-clause-inside
returns-in-LineEnd-clause-inside c = end_inside c.args.first c.args.rest.now (sym c.requires ∙ c.in-LineEnd.is) c.if-first-eq13.true
