use Rattle.std.proofs.Common.{◌∙◌}
use Rattle.le_layout.proofs.SpacedLemmas.{spaced_first, spaced_more, spaced_end, spaced_none}
use Rattle.le_layout.proofs.layout.Layout.spaced.Goals as goal

pub returns-then-tokens : goal.returns-then-tokens
returns-then-tokens c = c.new.ensures ∙ spaced_none c.args.self.now c.args.tokens.from c.args.tokens.to c.if-tokens.true

pub loop-at-init : goal.loop-at-init
loop-at-init c = spaced_first c.args.self.now c.args.tokens.from c.args.tokens.to c.in_ok-text.text c.if-tokens.false c.requires.inside (c.in_ok-text.ensures ∙ c.word.ensures)

pub loop-at-preserved : goal.loop-at-preserved
loop-at-preserved c = spaced_more c.args.self.now c.loop-at.at c.args.tokens.to c.loop-at.text c.push_str.new.self c.push_str-in-loop-at.new.self c.word-in-loop-at.result.now _ c.loop-at-test.true c.requires.inside c.loop-at.invariant c.in_ok-push_str.ensures.ok c.in_ok-push_str-2.ensures.ok c.word-in-loop-at.ensures

pub returns : goal.returns
returns c = spaced_end c.args.self.now c.loop-at.at c.args.tokens.to c.loop-at.text _ c.loop-at-test.false c.loop-at.invariant
