use Rattle.std.proofs.Common.{true, false, sym, ap, ◌∙◌, arith}
use Rattle.le_layout.specs.Words.{is_star}
use Rattle.le_match.proofs.MarkedLemmas.{star_step}
use Rattle.le_match.proofs.marked.until_star.Goals as goal

pub returns-then-is_star-clause-exact : goal.returns-then-is_star-clause-exact
returns-then-is_star-clause-exact c =
    let here = star_step c.args.layout.now c.loop-at.at c.args.to true c.loop-at-test.true c.requires.within (sym c.if-is_star.true ∙ c.is_star.ensures ∙ ap (λ t. is_star t.kind) c.token.ensures) in
    let all = c.loop-at.invariant in
    omega arith

pub loop-at-preserved : goal.loop-at-preserved
loop-at-preserved c =
    let here = star_step c.args.layout.now c.loop-at.at c.args.to false c.loop-at-test.true c.requires.within (sym c.if-is_star.false ∙ c.is_star.ensures ∙ ap (λ t. is_star t.kind) c.token.ensures) in
    let all = c.loop-at.invariant in
    omega arith
