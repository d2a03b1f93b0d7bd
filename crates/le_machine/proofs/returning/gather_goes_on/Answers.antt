use Rattle.std.proofs.Common.{rules, ◌≡◌, [], ◌∷◌, get_or, refl, sym, ap, subst, ◌∙◌}
use Rattle.le_proofs.specs.declared.node.Node.TheVariants.{Gather as GatherNode, Gathered}
use Rattle.le_proofs.specs.Goals.{sub_goal}
use Rattle.le_proofs.specs.Search.{tree}
use Rattle.le_proofs.specs.SearchTree.{SearchTree, whole_of}
use Rattle.le_proofs.specs.Derivations.{tree_nodes}
use Rattle.le_derivations.specs.declared.path.PathStep.{PathStep}
use Rattle.le_derivations.specs.Paths.{count_of}
use Rattle.le_derivations.proofs.Exact.{tree-exact}
use Rattle.le_machine.specs.Keeping.{goal_of}
use Rattle.le_machine.specs.Turns.{Extends}
use Rattle.le_machine.proofs.SelectedAt.{same-at}
use Rattle.le_machine.proofs.Turning.{place-long, rest-ready}
use Rattle.le_machine.proofs.Walking.{gathered-leads}
use Rattle.le_machine.proofs.returning.gather_goes_on.Goals as goal

pub returns-clause-leads : goal.returns-clause-leads
returns-clause-leads c = λ program spare left literal kind target value atom found selects form covered outcome walked root total others walk.
    let literals = c.args.goal.now.literals.items in
    let there : c.index.result.now ≡ get_or literals c.args.place c.index.result.now = search rules in
    let same : literal ≡ c.index.result.now = same-at literals c.args.place literal c.index.result.now c.requires.inside selects.1 there in
    let t : SearchTree = tree program (sub_goal (goal_of c.args.goal.now) literal.line atom (value ∷ [])) spare in
    let below : c.from_vec.result ≡ c.args.nodes.items = search rules in
    let nodes : c.args.nodes.items ≡ tree_nodes (whole_of t) = sym (ap (λ w. w.nodes) walked) ∙ tree-exact program (sub_goal (goal_of c.args.goal.now) literal.line atom (value ∷ [])) spare (ap (λ w. w.ending) walked) in
    let node : c.in-Some.node ≡ GatherNode kind target value atom = cc (sym c.in-Some.is ∙ c.in_ok-node.ensures kind target value atom (sym (ap (λ l. l.form) same) ∙ form)) in
    let kept : PathStep = record { place = c.args.place; unifier = c.args.unifier; node = c.in-Some.node; below = c.from_vec.result } in
    gathered-leads program c.args.search.now c.go_on.new.search c.args.goal.now c.args.place literal selects kind target value atom form covered found c.args.nodes.items spare left walked c.args.unifier kept (goal_of c.in_ok-rest.rest) outcome
    (record {
      place_ = place-long literals c.args.place c.requires.inside;
      count_ = sym (ap count_of node);
      unifier_ = refl;
      reason_ = (node, below ∙ nodes);
    }) c.in_ok-rest.ensures (subst (λ ns. Extends c.args.search.now c.go_on.new.search (kept ∷ []) (Gathered ∷ ns)) below c.in_ok-go_on.ensures) root total others walk

pub returns-clause-ready : goal.returns-clause-ready
returns-clause-ready c = λ left ready. rest-ready left c.args.goal.now c.in_ok-rest.rest c.args.place c.args.unifier c.in_ok-rest.ensures ready
