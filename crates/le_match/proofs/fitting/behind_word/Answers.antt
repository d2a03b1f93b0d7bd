use Rattle.std.proofs.Common.{sym, ◌∙◌, true, false}
use Rattle.le_match.proofs.FitLemmas.{behind_word_step}
use Rattle.le_match.proofs.fitting.behind_word.Goals as goal

pub returns-then-has_word-clause-place : goal.returns-then-has_word-clause-place
returns-then-has_word-clause-place c =
    sym (behind_word_step c.args.layout.now c.args.word.now c.loop-at.at c.args.to true c.loop-at-test.true c.requires.within (sym c.if-has_word.true ∙ c.has_word.ensures)) ∙ c.loop-at.invariant

pub loop-at-preserved : goal.loop-at-preserved
loop-at-preserved c =
    sym (behind_word_step c.args.layout.now c.args.word.now c.loop-at.at c.args.to false c.loop-at-test.true c.requires.within (sym c.if-has_word.false ∙ c.has_word.ensures)) ∙ c.loop-at.invariant
