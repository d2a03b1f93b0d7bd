use Rattle.std.proofs.Common.{◌≡◌, ℕ, ◌+◌, drop, sym, ap, ◌∙◌}
use Rattle.std.specs.Prelude.{◌==◌}
use Rattle.std.proofs.Common.{Bool, true, false, ◌&&◌}
use Rattle.std.specs.List.{list_all, list_any}
use Rattle.le_terms.specs.Variables.{occurrences, all_occurrences}
use Rattle.le_terms.specs.Walks.{symbol_variables}
use Rattle.le_terms.proofs.Preorder.{symbol_variables-flat}
use Rattle.le_literals.proofs.Walks.{rest-from, all-append}
use Rattle.le_literals.proofs.covering.is_covered.Goals as goal

pub returns-then-not-covers : goal.returns-then-not-covers
returns-then-not-covers c =
    let p : ℕ → Bool = λ v. list_any (λ w. v == w) (occurrences c.args.value.now) in
    let value_ : symbol_variables c.as_syms.result.now ≡ occurrences c.args.value.now = ap symbol_variables c.as_syms.ensures.symbols ∙ symbol_variables-flat c.args.value.now in
    let term_ : symbol_variables c.as_syms-in-loop-term.result.now ≡ occurrences c.term-item.result = ap symbol_variables c.as_syms-in-loop-term.ensures.symbols ∙ symbol_variables-flat c.term-item.result in
    let here : list_all (λ v. list_any (λ w. v == w) (occurrences c.args.value.now)) (occurrences c.term-item.result) ≡ false =
    sym (ap (λ vs. list_all (λ v. list_any (λ w. v == w) vs) (symbol_variables c.as_syms-in-loop-term.result.now)) value_ ∙ ap (list_all (λ v. list_any (λ w. v == w) (occurrences c.args.value.now))) term_) ∙ (sym c.covers.ensures ∙ c.if-not-covers.true) in
    sym (c.loop-term.invariant
    ∙ (ap (λ ts. list_all (λ v. list_any (λ w. v == w) (occurrences c.args.value.now)) (all_occurrences ts)) (rest-from c.as_slice-term-items.result.now c.loop-term.term-index c.term-item.result c.term-item.result c.loop-term-test.true (sym c.term-item.is))
    ∙ (all-append (λ v. list_any (λ w. v == w) (occurrences c.args.value.now)) (occurrences c.term-item.result) (all_occurrences (drop (c.loop-term.term-index + 1) c.as_slice-term-items.result.now))
    ∙ ap (λ b. b && list_all (λ v. list_any (λ w. v == w) (occurrences c.args.value.now)) (all_occurrences (drop (c.loop-term.term-index + 1) c.as_slice-term-items.result.now))) here)))

pub loop-term-preserved : goal.loop-term-preserved
loop-term-preserved c =
    let value_ : symbol_variables c.as_syms.result.now ≡ occurrences c.args.value.now = ap symbol_variables c.as_syms.ensures.symbols ∙ symbol_variables-flat c.args.value.now in
    let term_ : symbol_variables c.as_syms-in-loop-term.result.now ≡ occurrences c.term-item.result = ap symbol_variables c.as_syms-in-loop-term.ensures.symbols ∙ symbol_variables-flat c.term-item.result in
    let here : list_all (λ v. list_any (λ w. v == w) (occurrences c.args.value.now)) (occurrences c.term-item.result) ≡ true =
    sym (ap (λ vs. list_all (λ v. list_any (λ w. v == w) vs) (symbol_variables c.as_syms-in-loop-term.result.now)) value_ ∙ ap (list_all (λ v. list_any (λ w. v == w) (occurrences c.args.value.now))) term_) ∙ (sym c.covers.ensures ∙ c.if-not-covers.false) in
    c.loop-term.invariant
    ∙ (ap (λ ts. list_all (λ v. list_any (λ w. v == w) (occurrences c.args.value.now)) (all_occurrences ts)) (rest-from c.as_slice-term-items.result.now c.loop-term.term-index c.term-item.result c.term-item.result c.loop-term-test.true (sym c.term-item.is))
    ∙ (all-append (λ v. list_any (λ w. v == w) (occurrences c.args.value.now)) (occurrences c.term-item.result) (all_occurrences (drop (c.loop-term.term-index + 1) c.as_slice-term-items.result.now))
    ∙ ap (λ b. b && list_all (λ v. list_any (λ w. v == w) (occurrences c.args.value.now)) (all_occurrences (drop (c.loop-term.term-index + 1) c.as_slice-term-items.result.now))) here))
