use Rattle.std.proofs.Common.{◌≡◌, ◌∙◌, ◌++◌, ℕ, ap, true}
use Rattle.std.specs.BTreeSet.{contains}
use Rattle.std.specs.Ordering.{nat_cmp}
use Rattle.std.proofs.lemmas.List.Elements.{All-same}
use Rattle.le_terms.specs.Tree.{flat}
use Rattle.le_terms.specs.Variables.{occurrences}
use Rattle.le_english.specs.Phrases.{is_seen, phrase_of}
use Rattle.le_english.specs.Lines.{HasDay, symbols_phrase, seen_after_all, with_tokens}
use Rattle.le_english.proofs.LineLemmas.{ok-same}
use Rattle.le_english.proofs.SymbolLemmas.{days, term_symbols, seen_after_all-agree, tree_seen}
use Rattle.le_english.proofs.phrases.push_phrase.Goals as goal

pub push_symbols-requires : goal.push_symbols-requires
push_symbols-requires c = All-same HasDay c.as_syms.result.now (flat c.args.term.now) c.as_syms.ensures.symbols (days c.args.term.now c.as_syms.ensures.in_range)

pub returns-clause-line : goal.returns-clause-line
returns-clause-line c =
    λ ks same.
    let users = c.args.templates.now in
    let names = c.args.names.now in
    let seen = contains nat_cmp c.args.seen.now in
    let line = c.args.line.now in
    ok-same c.push_symbols.result _ (c.push_symbols.new.line ≡ with_tokens line (phrase_of users names ks c.args.term.now))
    (λ put. put ∙ ap (with_tokens line) (ap (symbols_phrase users names seen true) c.as_syms.ensures.symbols ∙ term_symbols users names seen ks c.args.term.now same))
    c.push_symbols.ensures.line

pub returns-clause-seen : goal.returns-clause-seen
returns-clause-seen c =
    λ ks same.
    let seen = contains nat_cmp c.args.seen.now in
    ok-same c.push_symbols.result _ ((k : ℕ) → contains nat_cmp c.push_symbols.new.seen k ≡ is_seen (ks ++ occurrences c.args.term.now) k)
    (λ put k. put k ∙ ap (λ ss. seen_after_all seen ss k) c.as_syms.ensures.symbols ∙ seen_after_all-agree seen (is_seen ks) same (flat c.args.term.now) k ∙ tree_seen ks c.args.term.now k)
    c.push_symbols.ensures.seen
