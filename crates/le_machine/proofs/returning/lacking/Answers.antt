use Rattle.std.proofs.Common.{rules, ◌≡◌, [], ◌∷◌, get_or, refl, sym, ap, subst, ◌∙◌}
use Rattle.le_proofs.specs.declared.node.Node.TheVariants.{Absent, Lacking}
use Rattle.le_proofs.specs.Goals.{sub_goal}
use Rattle.le_proofs.specs.Search.{tree}
use Rattle.le_proofs.specs.SearchTree.{SearchTree, whole_of}
use Rattle.le_proofs.specs.Derivations.{tree_nodes}
use Rattle.le_derivations.specs.declared.path.PathStep.{PathStep}
use Rattle.le_derivations.proofs.Exact.{tree-exact}
use Rattle.le_machine.specs.Keeping.{goal_of}
use Rattle.le_machine.specs.Turns.{Extends}
use Rattle.le_machine.proofs.SelectedAt.{same-at}
use Rattle.le_machine.proofs.Turning.{place-long}
use Rattle.le_machine.proofs.Walking.{lacking-leads}
use Rattle.le_machine.proofs.returning.lacking.Goals as goal

pub returns-clause-leads : goal.returns-clause-leads
returns-clause-leads c = λ program spare left literal atom selects form ground walked root total found walk.
    let literals = c.args.goal.literals.items in
    let there : c.index.result.now ≡ get_or literals c.args.place c.index.result.now = search rules in
    let same : literal ≡ c.index.result.now = same-at literals c.args.place literal c.index.result.now c.requires.inside selects.1 there in
    let atoms : atom ≡ c.in-Neg.atom = cc (sym form ∙ (ap (λ l. l.form) same ∙ c.in-Neg.is)) in
    let t : SearchTree = tree program (sub_goal (goal_of c.args.goal) literal.line atom []) spare in
    let below : c.from_vec.result ≡ c.args.nodes.items = search rules in
    let copied : c.in_ok-atom.atom ≡ c.in-Neg.atom = search rules in
    let nodes : c.args.nodes.items ≡ tree_nodes (whole_of t) = sym (ap (λ w. w.nodes) walked) ∙ tree-exact program (sub_goal (goal_of c.args.goal) literal.line atom []) spare (ap (λ w. w.ending) walked) in
    let kept : PathStep = record { place = c.args.place; unifier = c.empty.result; node = Absent c.in_ok-atom.atom; below = c.from_vec.result } in
    let none : c.empty.result ≡ [] = search rules in
    lacking-leads program c.args.search.now c.go_on.new.search c.args.goal c.args.place literal selects atom spare left c.args.nodes.items kept (goal_of c.without_literal.result) form ground walked
    (record {
      place_ = place-long literals c.args.place c.requires.inside;
      count_ = refl;
      unifier_ = sym none;
      reason_ = (ap Absent (copied ∙ sym atoms), below ∙ nodes);
    }) c.without_literal.ensures (subst (λ ns. Extends c.args.search.now c.go_on.new.search (kept ∷ []) (Lacking ∷ ns)) below c.in_ok-go_on.ensures) root total found walk
