use Rattle.std.proofs.Common.{◌≡◌, ℕ, [], rules}
use Rattle.std.specs.BTreeSet.{contains}
use Rattle.std.specs.Ordering.{nat_cmp}
use Rattle.le_english.specs.Phrases.{is_seen}
use Rattle.le_english.proofs.LineLemmas.{phrase-text}
use Rattle.le_english.proofs.TermLemmas.{term-text-back}
use Rattle.le_english.proofs.phrases.say_term.Goals as goal

pub returns-clause-text : goal.returns-clause-text
returns-clause-text c =
    let none : (k : ℕ) → contains nat_cmp c.new-seen.result k ≡ is_seen [] k = λ k. search rules in
    phrase-text c.args.templates.now c.args.names.now c.args.term.now c.new-line.result c.push_phrase.new.line c.new-line.ensures (c.in_ok-push_phrase.ensures.line [] none)

pub returns-clause-reads_back : goal.returns-clause-reads_back
returns-clause-reads_back c = λ distinct h. term-text-back c.args.templates.now c.args.names.now c.args.term.now c.push_phrase.new.line.text (returns-clause-text c) distinct h
