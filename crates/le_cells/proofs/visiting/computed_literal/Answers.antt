use Rattle.std.proofs.Common.{rules, ◌≡◌, ℕ, [], ◌∷◌, refl, sym, ap, subst, ◌∙◌}
use Rattle.le_terms.specs.declared.program.Atom.{Atom}
use Rattle.le_terms.specs.declared.program.Form.TheVariants.{Calc}
use Rattle.le_terms.specs.declared.program.Literal.{Literal}
use Rattle.le_terms.specs.Program.{form_atom}
use Rattle.le_proofs.specs.declared.node.Node.TheVariants.{Computed}
use Rattle.le_proofs.specs.Goals.{Goal}
use Rattle.le_proofs.specs.Search.{computing, fails, ends}
use Rattle.le_derivations.proofs.Stops.{computed-ends}
use Rattle.le_goals.specs.Shown.{Snapshot, literal_of}
use Rattle.le_paths.specs.declared.step.CellStep.{CellStep}
use Rattle.le_paths.proofs.Leads.{made-computed}
use Rattle.le_cells.specs.declared.goals.Outcome.TheVariants.{GoesOn, Fails, Ends}
use Rattle.le_cells.specs.Keeping.{goal_now, placed, Becomes}
use Rattle.le_cells.specs.Turns.{past, Extends, MayEnd}
use Rattle.le_cells.proofs.Resting.{rest-is, rest-ready-at, selected-there, calc-form, there-under}
use Rattle.le_cells.proofs.SelectedAt.{selects-first}
use Rattle.le_cells.proofs.Walking.{computed-leads, dead-leads}
use Rattle.le_cells.proofs.visiting.computed_literal.Goals as goal

pub rest-requires : goal.rest-requires
rest-requires c =
    let old : Snapshot = c.args.goals.now.now in
    let literal : Literal = literal_of (goal_now c.args.goals.now c.args.goal) c.args.place in
    let calc = calc-form literal.form (sym (ap (λ s. s.kind) c.requires.shape) ∙ c.requires.kind) in
    let pred : c.args.shape.pred ≡ calc.0.pred = ap (λ s. s.pred) c.requires.shape ∙ ap (λ f. (form_atom f).pred) calc.1 in
    let becomes : Becomes old c.computed.new.goals.now GoesOn (computing c.args.shape.line calc.0) = subst (λ o. Becomes old c.computed.new.goals.now o (computing c.args.shape.line calc.0)) c.in-GoesOn.is (c.in_ok-computed.ensures.outcome calc.0 calc.1 pred) in
    there-under becomes.0 old c.computed.new.goals.now c.args.goal c.args.place becomes.2 c.requires.literal

pub returns-in_ok-go_past-in-GoesOn-clause-leads : goal.returns-in_ok-go_past-in-GoesOn-clause-leads
returns-in_ok-go_past-in-GoesOn-clause-leads c = λ left program literal atom selects form root total found walk.
    let old : Snapshot = c.args.goals.now.now in
    let mid : Snapshot = c.computed.new.goals.now in
    let goal_ : Goal = goal_now c.args.goals.now c.args.goal in
    let same : literal_of goal_ c.args.place ≡ literal = selected-there program goal_ c.args.place literal c.requires.literal.literal selects in
    let form_ : (literal_of goal_ c.args.place).form ≡ Calc atom = ap (λ l. l.form) same ∙ form in
    let line : literal.line ≡ c.args.shape.line = sym (ap (λ s. s.line) c.requires.shape ∙ ap (λ l. l.line) same) in
    let pred : c.args.shape.pred ≡ atom.pred = ap (λ s. s.pred) c.requires.shape ∙ ap (λ f. (form_atom f).pred) form_ in
    let becomes : Becomes old mid GoesOn (computing c.args.shape.line atom) = subst (λ o. Becomes old mid o (computing c.args.shape.line atom)) c.in-GoesOn.is (c.in_ok-computed.ensures.outcome atom form_ pred) in
    let below : c.new.result.items ≡ [] = search rules in
    let kept : CellStep = past c.args.goal c.args.place [] in
    computed-leads program c.args.goals.now c.rest.new.self (c.rest.ensures.marks ∙ c.computed.ensures.marks) c.args.search.now c.go_past.new.search goal_ c.args.place literal selects atom becomes.0 mid kept (goal_now c.rest.new.self c.in_ok-rest-in-GoesOn.rest) left form
    (ap (λ n. computing n atom) line ∙ becomes.1) (made-computed old kept c.requires.literal (placed goal_.literals c.args.place literal) becomes.0 atom refl form_ refl) becomes.2 c.rest.ensures.others
    (rest-is old mid c.rest.new.self.now c.args.goal c.args.place c.requires.literal becomes.0 becomes.2 c.in_ok-rest-in-GoesOn.rest c.in_ok-rest-in-GoesOn.ensures.rest c.requires.next)
    (subst (λ ns. Extends c.args.search.now c.go_past.new.search (past c.args.goal c.args.place ns ∷ []) (Computed ∷ ns)) below c.in_ok-go_past-in-GoesOn.ensures) root total found walk

pub returns-in_ok-go_past-in-GoesOn-clause-ready : goal.returns-in_ok-go_past-in-GoesOn-clause-ready
returns-in_ok-go_past-in-GoesOn-clause-ready c = λ left ready.
    let old : Snapshot = c.args.goals.now.now in
    let mid : Snapshot = c.computed.new.goals.now in
    let literal : Literal = literal_of (goal_now c.args.goals.now c.args.goal) c.args.place in
    let calc = calc-form literal.form (sym (ap (λ s. s.kind) c.requires.shape) ∙ c.requires.kind) in
    let pred : c.args.shape.pred ≡ calc.0.pred = ap (λ s. s.pred) c.requires.shape ∙ ap (λ f. (form_atom f).pred) calc.1 in
    let becomes : Becomes old mid GoesOn (computing c.args.shape.line calc.0) = subst (λ o. Becomes old mid o (computing c.args.shape.line calc.0)) c.in-GoesOn.is (c.in_ok-computed.ensures.outcome calc.0 calc.1 pred) in
    rest-ready-at old mid c.rest.new.self.now c.args.goal c.args.place c.requires.literal becomes.0 becomes.2 c.in_ok-rest-in-GoesOn.rest c.in_ok-rest-in-GoesOn.ensures.rest left c.rest.ensures.others ready

pub returns-in_ok-note-in-Fails-clause-leads : goal.returns-in_ok-note-in-Fails-clause-leads
returns-in_ok-note-in-Fails-clause-leads c = λ left program literal atom selects form root total found walk.
    let old : Snapshot = c.args.goals.now.now in
    let mid : Snapshot = c.computed.new.goals.now in
    let goal_ : Goal = goal_now c.args.goals.now c.args.goal in
    let same : literal_of goal_ c.args.place ≡ literal = selected-there program goal_ c.args.place literal c.requires.literal.literal selects in
    let form_ : (literal_of goal_ c.args.place).form ≡ Calc atom = ap (λ l. l.form) same ∙ form in
    let line : literal.line ≡ c.args.shape.line = sym (ap (λ s. s.line) c.requires.shape ∙ ap (λ l. l.line) same) in
    let pred : c.args.shape.pred ≡ atom.pred = ap (λ s. s.pred) c.requires.shape ∙ ap (λ f. (form_atom f).pred) form_ in
    let becomes : computing c.args.shape.line atom ≡ fails = subst (λ o. Becomes old mid o (computing c.args.shape.line atom)) c.in-Fails.is (c.in_ok-computed.ensures.outcome atom form_ pred) in
    dead-leads program c.args.goals.now c.computed.new.goals c.computed.ensures.marks c.args.search.now c.note.new.search goal_ c.args.place literal selects atom left form (ap (λ n. computing n atom) line ∙ becomes) c.in_ok-note-in-Fails.ensures root total found walk

pub returns-in-Ends-clause-leads : goal.returns-in-Ends-clause-leads
returns-in-Ends-clause-leads c = λ left program literal atom selects form.
    let old : Snapshot = c.args.goals.now.now in
    let mid : Snapshot = c.computed.new.goals.now in
    let goal_ : Goal = goal_now c.args.goals.now c.args.goal in
    let same : literal_of goal_ c.args.place ≡ literal = selected-there program goal_ c.args.place literal c.requires.literal.literal selects in
    let form_ : (literal_of goal_ c.args.place).form ≡ Calc atom = ap (λ l. l.form) same ∙ form in
    let line : literal.line ≡ c.args.shape.line = sym (ap (λ s. s.line) c.requires.shape ∙ ap (λ l. l.line) same) in
    let pred : c.args.shape.pred ≡ atom.pred = ap (λ s. s.pred) c.requires.shape ∙ ap (λ f. (form_atom f).pred) form_ in
    let becomes : computing c.args.shape.line atom ≡ ends c.in-Ends.next = subst (λ o. Becomes old mid o (computing c.args.shape.line atom)) c.in-Ends.is (c.in_ok-computed.ensures.outcome atom form_ pred) in
    let first = selects-first program goal_.literals c.args.place literal selects in (
      subst MayEnd c.in-Ends.is c.in_ok-computed.ensures.ends,
      computed-ends program goal_ first.0 first.1 first.2 (placed goal_.literals c.args.place literal) first.3 left atom c.in-Ends.next form (ap (λ n. computing n atom) line ∙ becomes),
    )
