use Rattle.std.proofs.Common.{rules, ◌≡◌, suc, Some, None, get_or, reverse, refl, sym, ap, ◌∙◌}
use Rattle.le_terms.specs.declared.program.Atom.{Atom}
use Rattle.le_terms.specs.declared.program.Form.{Form}
use Rattle.le_terms.specs.declared.program.Form.TheVariants.{Pos, Neg, Calc, Gather}
use Rattle.le_machine.specs.declared.goals.Kind.TheVariants.{Atom as Atomic, Computed}
use Rattle.le_machine.specs.declared.goals.Searches.{Searches}
use Rattle.le_machine.specs.Keeping.{goal_of, kind_of}
use Rattle.le_machine.proofs.SelectedAt.{same-at}
use Rattle.le_machine.proofs.Turning.{ok-both}
use Rattle.le_machine.proofs.UnderWay.{within, comes-by}
use Rattle.le_machine.proofs.visiting.selected.Goals as goal

-- a form of a kind is of that kind
atomic : (form : Form) → Atomic ≡ kind_of form → (atom : Atom) × (form ≡ Pos atom)
atomic (Pos atom) is = (atom, refl)
atomic (Neg atom) is = absurd (cc is)
atomic (Calc atom) is = absurd (cc is)
atomic (Gather fold result value atom) is = absurd (cc is)

computed : (form : Form) → Computed ≡ kind_of form → (atom : Atom) × (form ≡ Calc atom)
computed (Pos atom) is = absurd (cc is)
computed (Neg atom) is = absurd (cc is)
computed (Calc atom) is = (atom, refl)
computed (Gather fold result value atom) is = absurd (cc is)

pub returns-in_ok-split-in-Atom-clause-comes : goal.returns-in_ok-split-in-Atom-clause-comes
returns-in_ok-split-in-Atom-clause-comes c = λ program budget given left literal selects way.
    let there : c.index.result.now ≡ get_or c.args.goal.literals.items c.args.place c.index.result.now = search rules in
    let same : literal ≡ c.index.result.now = same-at c.args.goal.literals.items c.args.place literal c.index.result.now c.requires.inside selects.1 there in
    let is = atomic literal.form (c.in-Atom.ensures ∙ ap (λ l. kind_of l.form) (sym same)) in
    within program budget given (reverse c.args.searches.now.waiting.items) c.args.searches.now.inner c.split.new.search (Some (goal_of c.args.goal)) None (suc left) left c.in_ok-split-in-Atom.ensures.keeps
    (c.in_ok-split-in-Atom.ensures.leads program left literal is.0 selects is.1) way

pub returns-in_ok-split-in-Atom-clause-opens : goal.returns-in_ok-split-in-Atom-clause-opens
returns-in_ok-split-in-Atom-clause-opens c = λ left open_ ready. record { opens = c.in_ok-split-in-Atom.ensures.opens left open_ ready.opens; waiting = ready.waiting }

pub returns-in-Computed-clause-comes : goal.returns-in-Computed-clause-comes
returns-in-Computed-clause-comes c =
    let there : c.index.result.now ≡ get_or c.args.goal.literals.items c.args.place c.index.result.now = search rules in
    let after : Searches = record { inner = c.computed_literal.new.search; waiting = c.args.searches.now.waiting } in
    ok-both _ _ _
    (λ turn leads keeps program budget given left literal selects way.
    let same : literal ≡ c.index.result.now = same-at c.args.goal.literals.items c.args.place literal c.index.result.now c.requires.inside selects.1 there in
    let is = computed literal.form (c.in-Computed.ensures ∙ ap (λ l. kind_of l.form) (sym same)) in
    comes-by program budget given (reverse c.args.searches.now.waiting.items) c.args.searches.now.inner after (goal_of c.args.goal) (suc left) left turn refl keeps (leads program left literal is.0 selects is.1) way) c.computed_literal.result c.computed_literal.ensures.leads c.computed_literal.ensures.keeps
