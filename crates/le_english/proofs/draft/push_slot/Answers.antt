use Rattle.std.proofs.Common.{◌≡◌, true, false, rules}
use Rattle.le_english.specs.Phrases.{phrase_of}
use Rattle.le_english.proofs.LineLemmas.{slot-plain, slot-marked, phrase-count}
use Rattle.le_english.proofs.draft.push_slot.Goals as goal

pub returns-then-not-marked-clause-line : goal.returns-then-not-marked-clause-line
returns-then-not-marked-clause-line c =
    λ ks rest same.
    let plain : c.args.marked ≡ false = search rules in
    slot-plain c.args.marked c.args.line.now c.push_phrase.new.line (phrase_of c.args.templates.now c.args.names.now ks c.args.term.now) rest plain (c.in_ok-push_phrase.ensures.line ks same)

pub returns-then-not-marked-clause-count : goal.returns-then-not-marked-clause-count
returns-then-not-marked-clause-count c =
    λ ks same. phrase-count c.args.line.now c.push_phrase.new.line (phrase_of c.args.templates.now c.args.names.now ks c.args.term.now) (c.in_ok-push_phrase.ensures.line ks same)

pub returns-clause-line : goal.returns-clause-line
returns-clause-line c =
    λ ks rest same.
    let marked : c.args.marked ≡ true = search rules in
    slot-marked c.args.marked c.args.line.now c.open_slot.new.self c.push_phrase-2.new.line c.close_slot.new.self (phrase_of c.args.templates.now c.args.names.now ks c.args.term.now) rest marked c.in_ok-open_slot.ensures (c.in_ok-push_phrase-2.ensures.line ks same) c.in_ok-close_slot.ensures

pub returns-clause-count : goal.returns-clause-count
returns-clause-count c =
    λ ks same. phrase-count c.open_slot.new.self c.push_phrase-2.new.line (phrase_of c.args.templates.now c.args.names.now ks c.args.term.now) (c.in_ok-push_phrase-2.ensures.line ks same)
