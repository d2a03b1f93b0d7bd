use Rattle.std.proofs.Common.{◌<◌, ◌∙◌, ap, arith}
use Rattle.le_scope.specs.Lists.{is_close}
use Rattle.le_scope.proofs.PartLemmas.{closes_at}
use Rattle.le_scope.proofs.parts.closes.Goals as goal

pub returns : goal.returns
returns c =
    let low : c.args.at < c.args.to = omega (arith, c.requires.ordered, c.if-at-to.false) in
    c.is_close.ensures ∙ ap (λ t. is_close t.kind) c.token.ensures ∙ closes_at c.args.layout.now c.args.at c.args.to low c.requires.within
