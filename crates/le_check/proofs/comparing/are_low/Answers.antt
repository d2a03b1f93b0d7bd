use Rattle.std.proofs.Common.{◌+◌, ◌&&◌, drop, nat_lt, sym, ap, ◌∙◌}
use Rattle.std.specs.List.{list_all}
use Rattle.le_terms.specs.Variables.{all_occurrences}
use Rattle.le_literals.proofs.Walks.{all-terms}
use Rattle.le_check.proofs.comparing.are_low.Goals as goal

pub returns-then-not-is_low : goal.returns-then-not-is_low
returns-then-not-is_low c =
    sym (c.loop-term.invariant
    ∙ (all-terms (λ v. nat_lt v 4000000000) c.args.terms.now c.loop-term.term-index c.term-item.result c.as_syms.result.now c.is_low.result c.loop-term-test.true c.term-item.is c.as_syms.ensures.symbols c.is_low.ensures
    ∙ ap (λ b. b && list_all (λ v. nat_lt v 4000000000) (all_occurrences (drop (c.loop-term.term-index + 1) c.args.terms.now))) c.if-not-is_low.true))

pub loop-term-preserved : goal.loop-term-preserved
loop-term-preserved c =
    c.loop-term.invariant
    ∙ (all-terms (λ v. nat_lt v 4000000000) c.args.terms.now c.loop-term.term-index c.term-item.result c.as_syms.result.now c.is_low.result c.loop-term-test.true c.term-item.is c.as_syms.ensures.symbols c.is_low.ensures
    ∙ ap (λ b. b && list_all (λ v. nat_lt v 4000000000) (all_occurrences (drop (c.loop-term.term-index + 1) c.args.terms.now))) c.if-not-is_low.false)
