use Rattle.std.proofs.Common.{true, false, sym, ap, ◌∙◌, arith}
use Rattle.le_layout.specs.declared.token.Token.{Token}
use Rattle.le_layout.specs.Words.{is_colon}
use Rattle.le_docs.proofs.HeaderLemmas.{colon_step}
use Rattle.le_docs.proofs.headers.first_colon.Goals as goal

pub returns-then-is_colon-clause-exact : goal.returns-then-is_colon-clause-exact
returns-then-is_colon-clause-exact c =
    let e = sym (ap (λ (t : Token). is_colon t.kind) c.token.ensures) ∙ sym c.is_colon.ensures ∙ c.if-is_colon.true in
    sym (colon_step c.args.layout.now c.loop-k.k c.args.to true c.loop-k-test.true c.requires.inside e) ∙ c.loop-k.invariant.same

pub loop-k-preserved : goal.loop-k-preserved
loop-k-preserved c =
    let e = sym (ap (λ (t : Token). is_colon t.kind) c.token.ensures) ∙ sym c.is_colon.ensures ∙ c.if-is_colon.false in
    record { low = omega arith; same = sym (colon_step c.args.layout.now c.loop-k.k c.args.to false c.loop-k-test.true c.requires.inside e) ∙ c.loop-k.invariant.same }
