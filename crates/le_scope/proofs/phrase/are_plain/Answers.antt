use Rattle.std.proofs.Common.{◌∙◌, ◌+◌, sym, ap, ◌&&◌}
use Rattle.std.specs.List.{list_all}
use Rattle.le_scope.specs.Phrases.{is_plain}
use Rattle.le_scope.proofs.TokenLemmas.{span, plain_more}
use Rattle.le_scope.proofs.phrase.are_plain.Goals as goal

pub returns-then-not-is_plain : goal.returns-then-not-is_plain
returns-then-not-is_plain c =
    sym (ap (λ b. b && list_all (is_plain c.args.layout.now) (span c.args.layout.now (c.loop-at.at + 1) c.args.tokens.to)) c.if-not-is_plain.true)
    ∙ plain_more c.args.layout.now c.loop-at.at c.args.tokens.to c.is_plain.result _ c.loop-at-test.true c.requires.tokens.within c.is_plain.ensures c.loop-at.invariant

pub loop-at-preserved : goal.loop-at-preserved
loop-at-preserved c =
    sym (ap (λ b. b && list_all (is_plain c.args.layout.now) (span c.args.layout.now (c.loop-at.at + 1) c.args.tokens.to)) c.if-not-is_plain.false)
    ∙ plain_more c.args.layout.now c.loop-at.at c.args.tokens.to c.is_plain.result _ c.loop-at-test.true c.requires.tokens.within c.is_plain.ensures c.loop-at.invariant
