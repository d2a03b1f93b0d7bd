use Rattle.std.proofs.Common.{rules, ◌≡◌, ◌+◌, ℕ, List, true, false, sym, ap, subst, ◌∙◌}
use Rattle.std.specs.List.{AllByRecursion}
use Rattle.le_terms.specs.Tree.{Tree}
use Rattle.le_terms.specs.Variables.{occurrences}
use Rattle.le_terms.specs.Walks.{symbol_variables}
use Rattle.le_terms.proofs.Preorder.{symbol_variables-flat}
use Rattle.le_store.specs.Shown.{IsThere}
use Rattle.le_goals.specs.Frames.{cell_term}
use Rattle.le_goals.specs.NoVariables.{have_no_variable}
use Rattle.le_goals.proofs.Pairings.{one-there}
use Rattle.le_goals.proofs.VariableFree.{next-term, last-term}
use Rattle.le_goals.proofs.goals.grounding.are_ground.Goals as goal

pub are_ground_syms-requires : goal.are_ground_syms-requires
are_ground_syms-requires c =
    let here : AllByRecursion (λ v. IsThere c.args.store.now (c.args.base + v)) (occurrences c.term-item.result) =
    subst (λ (t : Tree). AllByRecursion (λ v. IsThere c.args.store.now (c.args.base + v)) (occurrences t)) (sym c.term-item.is)
    (one-there (λ v. IsThere c.args.store.now (c.args.base + v)) c.args.terms.now c.loop-term.term-index c.term-item.result c.loop-term-test.true c.requires) in
    subst (λ (vs : List ℕ). AllByRecursion (λ v. IsThere c.args.store.now (c.args.base + v)) vs) (sym (ap symbol_variables c.as_syms.ensures.symbols ∙ symbol_variables-flat c.term-item.result)) here

pub returns-then-not-branch : goal.returns-then-not-branch
returns-then-not-branch c =
    let some : c.in_ok-are_ground_syms.field-0 ≡ false = search rules in
    let here : have_no_variable (cell_term c.args.store.now.now c.args.base) (occurrences c.term-item.result) ≡ false =
    ap (have_no_variable (cell_term c.args.store.now.now c.args.base)) (sym (ap symbol_variables c.as_syms.ensures.symbols ∙ symbol_variables-flat c.term-item.result)) ∙ (sym c.in_ok-are_ground_syms.ensures ∙ some) in
    sym (c.loop-term.invariant ∙ last-term c.args.terms.now c.loop-term.term-index c.term-item.result c.loop-term-test.true c.term-item.is (cell_term c.args.store.now.now c.args.base) here)

pub loop-term-preserved : goal.loop-term-preserved
loop-term-preserved c =
    let none : c.in_ok-are_ground_syms.field-0 ≡ true = search rules in
    let here : have_no_variable (cell_term c.args.store.now.now c.args.base) (occurrences c.term-item.result) ≡ true =
    ap (have_no_variable (cell_term c.args.store.now.now c.args.base)) (sym (ap symbol_variables c.as_syms.ensures.symbols ∙ symbol_variables-flat c.term-item.result)) ∙ (sym c.in_ok-are_ground_syms.ensures ∙ none) in
    c.loop-term.invariant ∙ next-term c.args.terms.now c.loop-term.term-index c.term-item.result c.loop-term-test.true c.term-item.is (cell_term c.args.store.now.now c.args.base) here
