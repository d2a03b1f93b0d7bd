use Rattle.std.proofs.Common.{◌≡◌, [], ◌∷◌, refl, sym, ap, ◌∙◌}
use Rattle.std.proofs.lemmas.Option.{get_or_from_slice_get}
use Rattle.le_proofs.specs.Goals.{Goal, sub_goal, rest_goal}
use Rattle.le_proofs.specs.Search.{tree}
use Rattle.le_proofs.specs.SearchTree.{SearchTree, whole_of}
use Rattle.le_proofs.specs.Derivations.{tree_nodes}
use Rattle.le_derivations.proofs.Exact.{tree-exact}
use Rattle.le_goals.specs.Shown.{goal_at, literal_of, picked_at, no_goal}
use Rattle.le_paths.specs.declared.step.CellStep.{CellStep}
use Rattle.le_paths.proofs.Leads.{made-lacking}
use Rattle.le_cells.specs.Keeping.{goal_now, placed, unchanged}
use Rattle.le_cells.specs.Turns.{past}
use Rattle.le_cells.proofs.Resting.{rest-ready-at, selected-there}
use Rattle.le_cells.proofs.Walking.{lacking-leads}
use Rattle.le_cells.proofs.returning.lacking.Goals as goal

pub returns-clause-leads : goal.returns-clause-leads
returns-clause-leads c = λ program spare left literal atom selects form ground walked root total found walk.
    let goal_ : Goal = goal_now c.args.goals.now c.args.goal in
    let same : literal_of goal_ c.args.place ≡ literal = selected-there program goal_ c.args.place literal c.requires.literal.literal selects in
    let t : SearchTree = tree program (sub_goal goal_ literal.line atom []) spare in
    let nodes : c.args.nodes.items ≡ tree_nodes (whole_of t) = sym (ap (λ w. w.nodes) walked) ∙ tree-exact program (sub_goal goal_ literal.line atom []) spare (ap (λ w. w.ending) walked) in
    let kept : CellStep = past c.args.goal c.args.place c.args.nodes.items in
    let rest : goal_now c.rest.new.self c.in_ok-rest.rest ≡ rest_goal goal_ (picked_at goal_ c.args.place) =
    get_or_from_slice_get c.rest.new.self.now.goals c.in_ok-rest.rest (rest_goal goal_ (picked_at goal_ c.args.place)) no_goal c.in_ok-rest.ensures.rest in
    lacking-leads program c.args.goals.now c.rest.new.self c.rest.ensures.marks c.args.search.now c.go_past.new.search goal_ c.args.place literal selects atom spare left c.args.nodes.items kept (goal_now c.rest.new.self c.in_ok-rest.rest) form ground walked
    (made-lacking c.args.goals.now.now kept c.requires.literal (placed goal_.literals c.args.place literal) atom (whole_of t) refl (ap (λ l. l.form) same ∙ form) nodes) c.rest.ensures.others rest c.in_ok-go_past.ensures root total found walk

pub returns-clause-ready : goal.returns-clause-ready
returns-clause-ready c = λ left ready.
    rest-ready-at c.args.goals.now.now c.args.goals.now.now c.rest.new.self.now c.args.goal c.args.place c.requires.literal [] (unchanged refl refl) c.in_ok-rest.rest c.in_ok-rest.ensures.rest left c.rest.ensures.others ready
