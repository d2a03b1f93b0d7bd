use Rattle.std.proofs.Common.{rules, ◌≡◌, ℕ, [], ◌∷◌, List, refl, sym, ap, subst, ◌∙◌}
use Rattle.le_base.specs.declared.stop.FoldKind.{FoldKind}
use Rattle.le_gather.specs.Folds.{fold_of}
use Rattle.le_terms.specs.Tree.{Tree}
use Rattle.le_proofs.specs.declared.node.Node.TheVariants.{Ungathered}
use Rattle.le_proofs.specs.Goals.{Goal, sub_goal}
use Rattle.le_proofs.specs.Search.{tree, by_fold, folding, fails, ends}
use Rattle.le_proofs.specs.SearchTree.{SearchTree, whole_of}
use Rattle.le_proofs.specs.Derivations.{tree_nodes}
use Rattle.le_derivations.proofs.Exact.{tree-exact}
use Rattle.le_derivations.proofs.Stops.{folded-ends}
use Rattle.le_goals.specs.declared.reading.Shape.{Shape}
use Rattle.le_goals.specs.Shown.{Snapshot, literal_of, shape_of}
use Rattle.le_paths.specs.declared.step.CellStep.{CellStep}
use Rattle.le_paths.proofs.Leads.{made-gathered}
use Rattle.le_cells.specs.declared.goals.Outcome.TheVariants.{GoesOn, Fails, Ends}
use Rattle.le_cells.specs.Keeping.{goal_now, placed, Becomes}
use Rattle.le_cells.specs.Turns.{past, Extends, MayEnd}
use Rattle.le_cells.proofs.Gathers.{shape-there, some-becomes, folding-becomes}
use Rattle.le_cells.proofs.Resting.{rest-is, rest-ready-at, selected-there, there-under}
use Rattle.le_cells.proofs.SelectedAt.{selects-first}
use Rattle.le_cells.proofs.Walking.{gathered-leads, ungathered-leads}
use Rattle.le_cells.proofs.returning.folded.Goals as goal

pub rest-requires : goal.rest-requires
rest-requires c =
    let old : Snapshot = c.args.goals.now.now in
    let mid : Snapshot = c.gathered.new.goals.now in
    let goal_ : Goal = goal_now c.args.goals.now c.args.goal in
    let shape : c.in-Some.shape ≡ shape_of (literal_of goal_ c.args.place) = shape-there goal_ c.args.place c.in-Some.shape c.requires.literal.literal (sym c.shape_at.ensures ∙ c.in-Some.is) in
    let some = some-becomes goal_ c.args.place c.in-Some.shape c.in-Gather.kind c.requires.literal.literal shape c.in-Gather.is c.args.values.now old mid c.in_ok-gathered.field-0 c.in_ok-gathered.ensures.outcome in
    let said = by_fold c.in-Some.shape.line some.0 (fold_of c.in-Gather.kind c.args.values.now) in
    let becomes : Becomes old mid GoesOn said = subst (λ o. Becomes old mid o said) c.in-GoesOn.is some.1 in
    there-under becomes.0 old mid c.args.goal c.args.place becomes.2 c.requires.literal

pub returns-in_ok-go_past-in-GoesOn-clause-leads : goal.returns-in_ok-go_past-in-GoesOn-clause-leads
returns-in_ok-go_past-in-GoesOn-clause-leads c = λ program spare left literal kind target value atom found selects form covered values walked root total others walk.
    let old : Snapshot = c.args.goals.now.now in
    let mid : Snapshot = c.gathered.new.goals.now in
    let goal_ : Goal = goal_now c.args.goals.now c.args.goal in
    let shape : c.in-Some.shape ≡ shape_of (literal_of goal_ c.args.place) = shape-there goal_ c.args.place c.in-Some.shape c.requires.literal.literal (sym c.shape_at.ensures ∙ c.in-Some.is) in
    let becomes : Becomes old mid GoesOn (folding literal.line kind target found) =
    subst (λ o. Becomes old mid o (folding literal.line kind target found)) c.in-GoesOn.is
    (folding-becomes goal_ c.args.place c.in-Some.shape c.in-Gather.kind c.requires.literal.literal shape c.in-Gather.is c.args.values.now old mid c.in_ok-gathered.field-0 c.in_ok-gathered.ensures.outcome program literal kind target value atom found selects form values) in
    let same : literal_of goal_ c.args.place ≡ literal = selected-there program goal_ c.args.place literal c.requires.literal.literal selects in
    let t : SearchTree = tree program (sub_goal goal_ literal.line atom (value ∷ [])) spare in
    let nodes : c.args.nodes.items ≡ tree_nodes (whole_of t) = sym (ap (λ w. w.nodes) walked) ∙ tree-exact program (sub_goal goal_ literal.line atom (value ∷ [])) spare (ap (λ w. w.ending) walked) in
    let kept : CellStep = past c.args.goal c.args.place c.args.nodes.items in
    gathered-leads program c.args.goals.now c.rest.new.self (c.rest.ensures.marks ∙ c.gathered.ensures.marks) c.args.search.now c.go_past.new.search goal_ c.args.place literal selects kind target value atom form covered found c.args.nodes.items spare left walked
    becomes.0 mid kept (goal_now c.rest.new.self c.in_ok-rest-in-GoesOn.rest) becomes.1
    (made-gathered old kept c.requires.literal (placed goal_.literals c.args.place literal) becomes.0 kind target value atom (whole_of t) refl (ap (λ l. l.form) same ∙ form) nodes) becomes.2 c.rest.ensures.others
    (rest-is old mid c.rest.new.self.now c.args.goal c.args.place c.requires.literal becomes.0 becomes.2 c.in_ok-rest-in-GoesOn.rest c.in_ok-rest-in-GoesOn.ensures.rest c.requires.next)
    c.in_ok-go_past-in-GoesOn.ensures root total others walk

pub returns-in_ok-go_past-in-GoesOn-clause-ready : goal.returns-in_ok-go_past-in-GoesOn-clause-ready
returns-in_ok-go_past-in-GoesOn-clause-ready c = λ left ready.
    let old : Snapshot = c.args.goals.now.now in
    let mid : Snapshot = c.gathered.new.goals.now in
    let goal_ : Goal = goal_now c.args.goals.now c.args.goal in
    let shape : c.in-Some.shape ≡ shape_of (literal_of goal_ c.args.place) = shape-there goal_ c.args.place c.in-Some.shape c.requires.literal.literal (sym c.shape_at.ensures ∙ c.in-Some.is) in
    let some = some-becomes goal_ c.args.place c.in-Some.shape c.in-Gather.kind c.requires.literal.literal shape c.in-Gather.is c.args.values.now old mid c.in_ok-gathered.field-0 c.in_ok-gathered.ensures.outcome in
    let said = by_fold c.in-Some.shape.line some.0 (fold_of c.in-Gather.kind c.args.values.now) in
    let becomes : Becomes old mid GoesOn said = subst (λ o. Becomes old mid o said) c.in-GoesOn.is some.1 in
    rest-ready-at old mid c.rest.new.self.now c.args.goal c.args.place c.requires.literal becomes.0 becomes.2 c.in_ok-rest-in-GoesOn.rest c.in_ok-rest-in-GoesOn.ensures.rest left c.rest.ensures.others ready

pub returns-in_ok-note_all-in-Fails-clause-leads : goal.returns-in_ok-note_all-in-Fails-clause-leads
returns-in_ok-note_all-in-Fails-clause-leads c = λ program spare left literal kind target value atom found selects form covered values walked root total others walk.
    let old : Snapshot = c.args.goals.now.now in
    let mid : Snapshot = c.gathered.new.goals.now in
    let goal_ : Goal = goal_now c.args.goals.now c.args.goal in
    let shape : c.in-Some.shape ≡ shape_of (literal_of goal_ c.args.place) = shape-there goal_ c.args.place c.in-Some.shape c.requires.literal.literal (sym c.shape_at.ensures ∙ c.in-Some.is) in
    let becomes : folding literal.line kind target found ≡ fails =
    subst (λ o. Becomes old mid o (folding literal.line kind target found)) c.in-Fails.is
    (folding-becomes goal_ c.args.place c.in-Some.shape c.in-Gather.kind c.requires.literal.literal shape c.in-Gather.is c.args.values.now old mid c.in_ok-gathered.field-0 c.in_ok-gathered.ensures.outcome program literal kind target value atom found selects form values) in
    let below : c.deref.result.now ≡ c.args.nodes.items = search rules in
    ungathered-leads program c.args.goals.now c.gathered.new.goals c.gathered.ensures.marks c.args.search.now c.note_all.new.search goal_ c.args.place literal selects kind target value atom form covered found c.args.nodes.items spare left walked becomes
    (subst (λ ns. Extends c.args.search.now c.note_all.new.search [] (Ungathered ∷ ns)) below c.in_ok-note_all-in-Fails.ensures) root total others walk

pub returns-in-Ends-clause-leads : goal.returns-in-Ends-clause-leads
returns-in-Ends-clause-leads c = λ program spare left literal kind target value atom found selects form covered values walked.
    let old : Snapshot = c.args.goals.now.now in
    let mid : Snapshot = c.gathered.new.goals.now in
    let goal_ : Goal = goal_now c.args.goals.now c.args.goal in
    let shape : c.in-Some.shape ≡ shape_of (literal_of goal_ c.args.place) = shape-there goal_ c.args.place c.in-Some.shape c.requires.literal.literal (sym c.shape_at.ensures ∙ c.in-Some.is) in
    let becomes : folding literal.line kind target found ≡ ends c.in-Ends.next =
    subst (λ o. Becomes old mid o (folding literal.line kind target found)) c.in-Ends.is
    (folding-becomes goal_ c.args.place c.in-Some.shape c.in-Gather.kind c.requires.literal.literal shape c.in-Gather.is c.args.values.now old mid c.in_ok-gathered.field-0 c.in_ok-gathered.ensures.outcome program literal kind target value atom found selects form values) in
    let first = selects-first program goal_.literals c.args.place literal selects in (
      subst MayEnd c.in-Ends.is c.in_ok-gathered.ensures.ends,
      folded-ends program goal_ first.0 first.1 first.2 (placed goal_.literals c.args.place literal) first.3 spare kind target value atom form covered found c.in-Ends.next left
          (record { leaves_ = ap (λ w. w.leaves) walked; ending_ = ap (λ w. w.ending) walked; left_ = ap (λ w. w.left) walked }) becomes,
    )
