use Rattle.std.proofs.Common.{◌≡◌, ap, sym, ◌∙◌}
use Rattle.le_builtins.specs.Compute.{compute}
use Rattle.le_builtins.specs.declared.computing.Calc.TheVariants.{Unbound, Range}
use Rattle.le_proofs.specs.declared.next.Next.TheVariants.{Floundered, OutOfRange}
use Rattle.le_proofs.specs.Search.{by_answer}
use Rattle.le_check.proofs.equating.computed.Goals as goal

pub returns-in-Unbound-clause-exact : goal.returns-in-Unbound-clause-exact
returns-in-Unbound-clause-exact g c =
    let same : compute c.args.atom.now.pred c.args.atom.now.args ≡ Unbound = ap (compute c.args.atom.now.pred) (sym c.as_slice-args.ensures) ∙ (sym c.compute.ensures.answer ∙ c.in-Unbound.is) in
    λ line. (Floundered line, ap (by_answer line c.args.atom.now.args) same)

pub returns-in-Range-clause-exact : goal.returns-in-Range-clause-exact
returns-in-Range-clause-exact g c =
    let same : compute c.args.atom.now.pred c.args.atom.now.args ≡ Range = ap (compute c.args.atom.now.pred) (sym c.as_slice-args.ensures) ∙ (sym c.compute.ensures.answer ∙ c.in-Range.is) in
    λ line. (OutOfRange line, ap (by_answer line c.args.atom.now.args) same)
