use Rattle.std.proofs.Common.{◌≡◌, ◌+◌, take, slice_range, sym, ap, ◌∙◌}
use Rattle.le_templates.specs.Form.{word_count}
use Rattle.le_match.specs.Readings.{ways}
use Rattle.le_match.specs.Walks.{IsBestOf, readings_before, most_with, readings_with}
use Rattle.le_match.proofs.BestLemmas.{best_of_unused, best_of_fewer, best_of_more, both_ok}
use Rattle.le_match.proofs.choosing.consider.Goals as goal

pub returns-then-not-in_use : goal.returns-then-not-in_use
returns-then-not-in_use c =
    let l = c.args.layout.now in
    let ts = slice_range l.tokens c.args.sentence.now.tokens.from c.args.sentence.now.tokens.to in
    best_of_unused c.args.templates.now l ts c.args.pred c.args.found.now c.requires.pred (sym c.if-not-in_use.true ∙ c.in_use.ensures) c.requires.found

pub returns-then-words-found : goal.returns-then-words-found
returns-then-words-found c =
    let l = c.args.layout.now in
    let ts = slice_range l.tokens c.args.sentence.now.tokens.from c.args.sentence.now.tokens.to in
    best_of_fewer c.args.templates.now l ts c.args.pred c.get.result.now c.word_count-words.result c.args.found.now c.get.ensures (sym c.if-not-in_use.false ∙ c.in_use.ensures)
    (c.word_count-words.ensures ∙ ap word_count c.as_slice-parts.ensures) c.requires.found c.if-words-found.true

pub returns : goal.returns
returns c =
    let us = c.args.templates.now in
    let l = c.args.layout.now in
    let ts = slice_range l.tokens c.args.sentence.now.tokens.from c.args.sentence.now.tokens.to in
    let n = c.args.pred in
    let w = c.word_count-words.result in
    let t = c.get.result.now in
    let old = c.args.found.now in
    let new = c.add.new.found in
    let ks = c.as_slice.result.now in
    let is : ks ≡ take 2 (ways l t.parts ts) = c.as_slice.ensures ∙ c.in_ok-ways.ensures ∙ ap (λ ps. take 2 (ways l ps ts)) c.as_slice-parts.ensures in
    both_ok c.add.result (new.most ≡ most_with w ks old.most) (new.readings.items ≡ readings_with n w ks old.most old.readings.items) (IsBestOf us (readings_before us l ts (n + 1)) new)
    c.add.ensures.most c.add.ensures.readings
    (best_of_more us l ts n t w ks old new c.get.ensures (sym c.if-not-in_use.false ∙ c.in_use.ensures)
    (c.word_count-words.ensures ∙ ap word_count c.as_slice-parts.ensures) c.requires.found c.if-words-found.false is)
