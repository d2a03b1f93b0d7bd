use Rattle.std.proofs.Common.{◌∙◌, [], ap}
use Rattle.le_english.specs.Phrases.{phrases_of}
use Rattle.le_english.specs.Saying.{reads_alone}
use Rattle.le_english.specs.Sentences.{slot_lengths}
use Rattle.le_english.proofs.AtomLemmas.{text-back}
use Rattle.le_english.proofs.SayLemmas.{parts-at, say-plain, say-marked}
use Rattle.le_english.proofs.sentences.say.Goals as goal

pub returns-then-branch-clause-text : goal.returns-then-branch-clause-text
returns-then-branch-clause-text c =
    let users = c.args.templates.now in
    let names = c.args.names.now in
    let atom = c.args.atom.now in
    let parts = c.as_slice-parts.result.now in
    let args = c.as_slice-args.result.now in
    let own = parts-at users atom.pred c.get.result.now parts c.get.ensures c.as_slice-parts.ensures in
    let lengths = slot_lengths parts (phrases_of users names [] args) in
    let read = c.in_ok-reads_alone.ensures lengths (c.as_slice.ensures.value ∙ c.in_ok-plain.ensures.lengths) ∙ ap (reads_alone users atom.pred lengths) c.as_str-text.ensures in
    say-plain users names atom.pred atom.args args parts c.in_ok-plain.plain.line.text c.in_ok-reads_alone.field-0 own c.as_slice-args.ensures c.in_ok-plain.ensures.text read c.if-branch.true

pub returns-clause-text : goal.returns-clause-text
returns-clause-text c =
    let users = c.args.templates.now in
    let names = c.args.names.now in
    let atom = c.args.atom.now in
    let parts = c.as_slice-parts.result.now in
    let args = c.as_slice-args.result.now in
    let own = parts-at users atom.pred c.get.result.now parts c.get.ensures c.as_slice-parts.ensures in
    let lengths = slot_lengths parts (phrases_of users names [] args) in
    let read = c.in_ok-reads_alone.ensures lengths (c.as_slice.ensures.value ∙ c.in_ok-plain.ensures.lengths) ∙ ap (reads_alone users atom.pred lengths) c.as_str-text.ensures in
    say-marked users names atom.pred atom.args args parts c.in_ok-plain.plain.line.text c.in_ok-marked.marked.line.text c.in_ok-reads_alone.field-0 own c.as_slice-args.ensures c.in_ok-plain.ensures.text c.in_ok-marked.ensures.text read c.if-branch.false

pub returns-then-branch-clause-reads_back : goal.returns-then-branch-clause-reads_back
returns-then-branch-clause-reads_back c =
    λ a.
    let atom = c.args.atom.now in
    text-back c.args.templates.now c.args.names.now atom.pred atom.args c.in_ok-plain.plain.line.text (returns-then-branch-clause-text c) a

pub returns-clause-reads_back : goal.returns-clause-reads_back
returns-clause-reads_back c =
    λ a.
    let atom = c.args.atom.now in
    text-back c.args.templates.now c.args.names.now atom.pred atom.args c.in_ok-marked.marked.line.text (returns-clause-text c) a
