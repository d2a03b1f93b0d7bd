use Rattle.std.proofs.Common.{◌≡◌, ◌∙◌, ◌+◌, sym, ap, drop, drop_of_length-le}
use Rattle.le_terms.specs.Variables.{occurrences, all_occurrences}
use Rattle.le_terms.specs.Walks.{symbol_variables, all_noted}
use Rattle.le_terms.proofs.Firsts.{all_noted-firsts, all_noted-append}
use Rattle.le_terms.proofs.Preorder.{symbol_variables-flat, drop-item}
use Rattle.le_terms.proofs.variables.noted_variables.Goals as goal

pub loop-term-preserved : goal.loop-term-preserved
loop-term-preserved c =
    let rest = all_occurrences (drop (c.loop-term.term-index + 1) c.args.terms.now) in
    let item = c.term-item.result in
    let added : c.note_variables.new.seen.keys ≡ all_noted c.loop-term.seen.keys (occurrences item) =
    c.in_ok-note_variables.ensures
    ∙ (ap (λ symbols. all_noted c.loop-term.seen.keys (symbol_variables symbols)) c.as_syms.ensures.symbols
    ∙ ap (all_noted c.loop-term.seen.keys) (symbol_variables-flat item)) in
    ap (λ ns. all_noted ns rest) added
    ∙ (sym (all_noted-append c.loop-term.seen.keys (occurrences item) rest)
    ∙ (ap (λ terms. all_noted c.loop-term.seen.keys (all_occurrences terms)) (sym (drop-item c.args.terms.now c.loop-term.term-index item c.loop-term-test.true c.term-item.is))
    ∙ c.loop-term.invariant))

pub returns : goal.returns
returns c =
    ap (λ terms. all_noted c.loop-term.seen.keys (all_occurrences terms)) (sym (drop_of_length-le c.args.terms.now c.loop-term-test.false))
    ∙ (c.loop-term.invariant ∙ all_noted-firsts (all_occurrences c.args.terms.now))
