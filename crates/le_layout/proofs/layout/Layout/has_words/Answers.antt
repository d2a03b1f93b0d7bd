use Rattle.std.proofs.Common.{sym, ◌∙◌}
use Rattle.le_layout.proofs.WordsLemmas.{words_step, words_end}
use Rattle.le_layout.proofs.layout.Layout.has_words.Goals as goal

pub returns-then-not-has_word : goal.returns-then-not-has_word
returns-then-not-has_word c = words_step c.args.self.now c.args.token c.args.words.now c.loop-i.i _ c.loop-i-test.true (sym c.if-not-has_word.true ∙ c.has_word.ensures) c.loop-i.invariant

pub loop-i-preserved : goal.loop-i-preserved
loop-i-preserved c = words_step c.args.self.now c.args.token c.args.words.now c.loop-i.i _ c.loop-i-test.true (sym c.if-not-has_word.false ∙ c.has_word.ensures) c.loop-i.invariant

pub returns : goal.returns
returns c = words_end c.args.self.now c.args.token c.args.words.now c.loop-i.i c.loop-i-test.false c.loop-i.invariant
