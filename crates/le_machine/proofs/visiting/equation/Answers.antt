use Rattle.std.proofs.Common.{rules, ◌≡◌, [], ◌∷◌, refl, sym, ap, subst, ◌∙◌}
use Rattle.le_proofs.specs.declared.node.Node.TheVariants.{Compute, Computed}
use Rattle.le_proofs.specs.Search.{computing}
use Rattle.le_derivations.specs.declared.path.PathStep.{PathStep}
use Rattle.le_derivations.proofs.Stops.{computed-ends}
use Rattle.le_machine.specs.Keeping.{goal_of, outcome_of, placed}
use Rattle.le_machine.specs.Turns.{Extends, MayEnd}
use Rattle.le_machine.proofs.SelectedAt.{selects-first}
use Rattle.le_machine.proofs.Turning.{place-long, rest-ready}
use Rattle.le_machine.proofs.Walking.{computed-leads, dead-leads}
use Rattle.le_machine.proofs.visiting.equation.Goals as goal

pub returns-in_ok-go_on-in-GoesOn-clause-leads : goal.returns-in_ok-go_on-in-GoesOn-clause-leads
returns-in_ok-go_on-in-GoesOn-clause-leads c = λ program left literal selects form line root total found walk.
    let below : c.from_vec.result ≡ [] = search rules in
    let copied : c.in_ok-atom-in-GoesOn.atom ≡ c.args.atom.now = search rules in
    let kept : PathStep = record { place = c.args.place; unifier = c.in-GoesOn.unifier; node = Compute c.in_ok-atom-in-GoesOn.atom; below = c.from_vec.result } in
    let outcome : computing literal.line c.args.atom.now ≡ outcome_of c.in_ok-unifier.field-0 = ap (λ n. computing n c.args.atom.now) line ∙ sym c.in_ok-unifier.ensures.outcome in
    computed-leads program c.args.search.now c.go_on.new.search c.args.goal.now c.args.place literal selects c.args.atom.now c.in-GoesOn.unifier kept (goal_of c.in_ok-rest-in-GoesOn.rest) left form (outcome ∙ ap outcome_of c.in-GoesOn.is)
    (record {
      place_ = place-long c.args.goal.now.literals.items c.args.place c.requires.inside;
      count_ = refl;
      unifier_ = refl;
      reason_ = (ap Compute copied, below);
    }) c.in_ok-rest-in-GoesOn.ensures (subst (λ ns. Extends c.args.search.now c.go_on.new.search (kept ∷ []) (Computed ∷ ns)) below c.in_ok-go_on-in-GoesOn.ensures) root total found walk

pub returns-in_ok-go_on-in-GoesOn-clause-ready : goal.returns-in_ok-go_on-in-GoesOn-clause-ready
returns-in_ok-go_on-in-GoesOn-clause-ready c = λ left ready. rest-ready left c.args.goal.now c.in_ok-rest-in-GoesOn.rest c.args.place c.in-GoesOn.unifier c.in_ok-rest-in-GoesOn.ensures ready

pub returns-in_ok-note-in-Fails-clause-leads : goal.returns-in_ok-note-in-Fails-clause-leads
returns-in_ok-note-in-Fails-clause-leads c = λ program left literal selects form line root total found walk.
    let outcome : computing literal.line c.args.atom.now ≡ outcome_of c.in_ok-unifier.field-0 = ap (λ n. computing n c.args.atom.now) line ∙ sym c.in_ok-unifier.ensures.outcome in
    dead-leads program c.args.search.now c.note.new.search c.args.goal.now c.args.place literal selects c.args.atom.now left form (outcome ∙ ap outcome_of c.in-Fails.is) c.in_ok-note-in-Fails.ensures root total found walk

pub returns-in-Ends-clause-leads : goal.returns-in-Ends-clause-leads
returns-in-Ends-clause-leads c = λ program left literal selects form line.
    let outcome : computing literal.line c.args.atom.now ≡ outcome_of c.in_ok-unifier.field-0 = ap (λ n. computing n c.args.atom.now) line ∙ sym c.in_ok-unifier.ensures.outcome in
    let first = selects-first program c.args.goal.now.literals.items c.args.place literal selects in (
      subst MayEnd c.in-Ends.is c.in_ok-unifier.ensures.ends,
      computed-ends program (goal_of c.args.goal.now) first.0 first.1 first.2 (placed c.args.goal.now.literals.items c.args.place literal) first.3 left c.args.atom.now c.in-Ends.next form (outcome ∙ ap outcome_of c.in-Ends.is),
    )
