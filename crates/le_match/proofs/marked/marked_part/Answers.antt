use Rattle.std.proofs.Common.{true, false, slice_range, sym, ap, ◌∙◌}
use Rattle.le_layout.specs.Words.{has_word}
use Rattle.le_match.specs.Walks.{taken_by}
use Rattle.le_match.proofs.MarkedLemmas.{word_taken_is, word_ended}
use Rattle.le_match.proofs.marked.marked_part.Goals as goal
use Rattle.le_match.proofs.marked.marked_part.Goals.{else-tokens-via-then-tokens+else-has_word, else-tokens-via-else-tokens}

pub returns-then-has_word-clause-exact : goal.returns-then-has_word-clause-exact
returns-then-has_word-clause-exact c =
    let l = c.args.layout.now in
    let from = c.args.tokens.from in
    let to = c.args.tokens.to in
    sym (ap (λ p. taken_by l p (slice_range l.tokens from to)) c.in-Word.is
    ∙ word_taken_is l c.in-Word.word from to true c.if-tokens.true c.requires.tokens.within (sym c.if-has_word.true ∙ c.has_word.ensures ∙ ap (has_word l from) c.as_str.ensures))

pub returns-else-tokens-clause-exact : goal.returns-else-tokens-clause-exact
returns-else-tokens-clause-exact c =
    let l = c.args.layout.now in
    let from = c.args.tokens.from in
    let to = c.args.tokens.to in
    sym (ap (λ p. taken_by l p (slice_range l.tokens from to)) c.in-Word.is
    ∙ elim c.else-tokens.branch [
      | else-tokens-via-then-tokens+else-has_word w ↦ word_taken_is l c.in-Word.word from to false w.if-tokens.true c.requires.tokens.within (sym w.if-has_word.false ∙ w.has_word.ensures ∙ ap (has_word l from) w.as_str.ensures)
      | else-tokens-via-else-tokens w ↦ word_ended l c.in-Word.word from to w.if-tokens.false
    ])
