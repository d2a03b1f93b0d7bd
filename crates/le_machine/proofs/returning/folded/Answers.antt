use Rattle.std.proofs.Common.{rules, ◌≡◌, [], ◌∷◌, get_or, sym, ap, subst, ◌∙◌}
use Rattle.le_gather.specs.Folds.{fold_of}
use Rattle.le_proofs.specs.declared.node.Node.TheVariants.{Ungathered}
use Rattle.le_proofs.specs.Search.{by_fold, folding}
use Rattle.le_derivations.proofs.Stops.{folded-ends}
use Rattle.le_machine.specs.Keeping.{goal_of, outcome_of, placed}
use Rattle.le_machine.specs.Turns.{Extends, MayEnd}
use Rattle.le_machine.proofs.SelectedAt.{same-at, selects-first}
use Rattle.le_machine.proofs.Turning.{ok-all}
use Rattle.le_machine.proofs.Walking.{ungathered-leads}
use Rattle.le_machine.proofs.returning.folded.Goals as goal

pub returns-in-GoesOn-clause-leads : goal.returns-in-GoesOn-clause-leads
returns-in-GoesOn-clause-leads c =
    ok-all _ _
    (λ turn leads program spare left literal kind target value atom found selects form covered values walked.
    let there : c.index-literal.result.now ≡ get_or c.args.goal.now.literals.items c.args.place c.index-literal.result.now = search rules in
    let same : literal ≡ c.index-literal.result.now = same-at c.args.goal.now.literals.items c.args.place literal c.index-literal.result.now c.requires.inside selects.1 there in
    let forms = sym form ∙ (ap (λ l. l.form) same ∙ c.in-Gather.is) in
    let kinds : kind ≡ c.in-Gather.fold = cc forms in
    let targets : target ≡ c.in-Gather.target = cc forms in
    let lines : literal.line ≡ c.index-literal.result.now.line = ap (λ l. l.line) same in
    let outcome : folding literal.line kind target found ≡ outcome_of c.in_ok-unifier.field-0 =
    ap (λ vs. by_fold literal.line target (fold_of kind vs)) (sym values)
    ∙ (ap (λ n. by_fold n target (fold_of kind c.args.values.now)) lines
    ∙ (ap (λ t. by_fold c.index-literal.result.now.line t (fold_of kind c.args.values.now)) targets
    ∙ (ap (λ k. by_fold c.index-literal.result.now.line c.in-Gather.target (fold_of k c.args.values.now)) kinds ∙ sym c.in_ok-unifier.ensures.outcome))) in
    leads program spare left literal kind target value atom found selects form covered (outcome ∙ ap outcome_of c.in-GoesOn.is) walked) c.gather_goes_on.result c.gather_goes_on.ensures.leads

pub returns-in_ok-note_all-in-Fails-clause-leads : goal.returns-in_ok-note_all-in-Fails-clause-leads
returns-in_ok-note_all-in-Fails-clause-leads c = λ program spare left literal kind target value atom found selects form covered values walked root total others walk.
    let there : c.index-literal.result.now ≡ get_or c.args.goal.now.literals.items c.args.place c.index-literal.result.now = search rules in
    let same : literal ≡ c.index-literal.result.now = same-at c.args.goal.now.literals.items c.args.place literal c.index-literal.result.now c.requires.inside selects.1 there in
    let forms = sym form ∙ (ap (λ l. l.form) same ∙ c.in-Gather.is) in
    let kinds : kind ≡ c.in-Gather.fold = cc forms in
    let targets : target ≡ c.in-Gather.target = cc forms in
    let lines : literal.line ≡ c.index-literal.result.now.line = ap (λ l. l.line) same in
    let outcome : folding literal.line kind target found ≡ outcome_of c.in_ok-unifier.field-0 =
    ap (λ vs. by_fold literal.line target (fold_of kind vs)) (sym values)
    ∙ (ap (λ n. by_fold n target (fold_of kind c.args.values.now)) lines
    ∙ (ap (λ t. by_fold c.index-literal.result.now.line t (fold_of kind c.args.values.now)) targets
    ∙ (ap (λ k. by_fold c.index-literal.result.now.line c.in-Gather.target (fold_of k c.args.values.now)) kinds ∙ sym c.in_ok-unifier.ensures.outcome))) in
    let below : c.deref.result.now ≡ c.args.nodes.items = search rules in
    ungathered-leads program c.args.search.now c.note_all.new.search c.args.goal.now c.args.place literal selects kind target value atom form covered found c.args.nodes.items spare left walked (outcome ∙ ap outcome_of c.in-Fails.is)
    (subst (λ ns. Extends c.args.search.now c.note_all.new.search [] (Ungathered ∷ ns)) below c.in_ok-note_all-in-Fails.ensures) root total others walk

pub returns-in-Ends-clause-leads : goal.returns-in-Ends-clause-leads
returns-in-Ends-clause-leads c = λ program spare left literal kind target value atom found selects form covered values walked.
    let there : c.index-literal.result.now ≡ get_or c.args.goal.now.literals.items c.args.place c.index-literal.result.now = search rules in
    let same : literal ≡ c.index-literal.result.now = same-at c.args.goal.now.literals.items c.args.place literal c.index-literal.result.now c.requires.inside selects.1 there in
    let forms = sym form ∙ (ap (λ l. l.form) same ∙ c.in-Gather.is) in
    let kinds : kind ≡ c.in-Gather.fold = cc forms in
    let targets : target ≡ c.in-Gather.target = cc forms in
    let lines : literal.line ≡ c.index-literal.result.now.line = ap (λ l. l.line) same in
    let outcome : folding literal.line kind target found ≡ outcome_of c.in_ok-unifier.field-0 =
    ap (λ vs. by_fold literal.line target (fold_of kind vs)) (sym values)
    ∙ (ap (λ n. by_fold n target (fold_of kind c.args.values.now)) lines
    ∙ (ap (λ t. by_fold c.index-literal.result.now.line t (fold_of kind c.args.values.now)) targets
    ∙ (ap (λ k. by_fold c.index-literal.result.now.line c.in-Gather.target (fold_of k c.args.values.now)) kinds ∙ sym c.in_ok-unifier.ensures.outcome))) in
    let first = selects-first program c.args.goal.now.literals.items c.args.place literal selects in (
      subst MayEnd c.in-Ends.is c.in_ok-unifier.ensures.ends,
      folded-ends program (goal_of c.args.goal.now) first.0 first.1 first.2 (placed c.args.goal.now.literals.items c.args.place literal) first.3 spare kind target value atom form covered found c.in-Ends.next left
          (record { leaves_ = ap (λ w. w.leaves) walked; ending_ = ap (λ w. w.ending) walked; left_ = ap (λ w. w.left) walked }) (outcome ∙ ap outcome_of c.in-Ends.is),
    )
