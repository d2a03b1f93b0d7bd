use Rattle.std.proofs.Common.{ap, sym, ◌∙◌}
use Rattle.le_proofs.specs.declared.next.Next.TheVariants.{Floundered, OutOfRange}
use Rattle.le_proofs.specs.Search.{by_fold}
use Rattle.le_check.proofs.equating.folded.Goals as goal

pub returns-in-Unbound-clause-exact : goal.returns-in-Unbound-clause-exact
returns-in-Unbound-clause-exact g c = λ line. (Floundered line, ap (by_fold line c.args.target.now) (sym c.fold.ensures ∙ c.in-Unbound.is))

pub returns-in-Range-clause-exact : goal.returns-in-Range-clause-exact
returns-in-Range-clause-exact g c = λ line. (OutOfRange line, ap (by_fold line c.args.target.now) (sym c.fold.ensures ∙ c.in-Range.is))
