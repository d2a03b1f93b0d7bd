-- What a replay's trees give, one after the other.
use Rattle.std.proofs.Common.{◌≡◌, ℕ, suc, ◌+◌, ◌-◌, ◌<◌, ◌≤◌, Option, Bool, true, false, List, [], ◌∷◌, ◌++◌, drop, length, not, Some, None, refl, sym, ap, subst, ◌∙◌, append-nil, append_assoc, arith}
use Rattle.std.specs.Prelude.{Result, Ok, Err, IfOk}
use Rattle.le_gather.specs.Folds.{fold_of}
use Rattle.le_builtins.specs.Compute.{argument}
use Rattle.le_terms.specs.Tree.{Tree}
use Rattle.le_terms.specs.declared.program.Atom.{Atom}
use Rattle.le_terms.specs.declared.program.Literal.{Literal}
use Rattle.le_terms.specs.declared.program.Program.{Program}
use Rattle.le_proofs.specs.declared.node.Node.{Node}
use Rattle.le_proofs.specs.declared.node.Node.TheVariants as node
use Rattle.le_proofs.specs.Goals.{Goal, Picked, root_of, selected, sub_goal, rest_goal, rest_by, is_ground_atom}
use Rattle.le_proofs.specs.Proofs.{WholeTree}
use Rattle.le_proofs.specs.Proofs as whole_
use Rattle.le_proofs.specs.SearchTree.{first_proof}
use Rattle.le_proofs.specs.Search.{Outcome, goes_on, fails, ends, computing, by_fold, is_covered}
use Rattle.le_proofs.specs.Derivations.{tree_nodes, proof_nodes}
use Rattle.le_proofs.specs.Lloyd.{values_at}
use Rattle.le_proofs.specs.Replay.{Replayed, Fault, Proven, Walked, gives, faulty, then_on, and_on, unless, above, computed_tree, dead_tree, empty_tree, tree_at, or_first, kind_of, tree_of_kind, lacks, presents, gathers, misses, proofs_within, tree_within, behind}
use Rattle.le_derivations.specs.declared.path.PathStep.{PathStep}
use Rattle.le_check.specs.declared.levels.Frame.{Frame}
use Rattle.le_check.specs.declared.levels.Frame.TheVariants.{Lacking, Present, Gathered, Ungathered}
use Rattle.le_check.specs.declared.levels.Walk.{Walk}
use Rattle.le_check.specs.declared.levels.Grown.{Grown}
use Rattle.le_proofs.specs.Replay as spec
use Rattle.le_check.specs.declared.levels.LackingFrame.{LackingFrame}
use Rattle.le_check.specs.declared.levels.PresentFrame.{PresentFrame}
use Rattle.le_check.specs.declared.levels.GatheredFrame.{GatheredFrame}
use Rattle.le_check.specs.declared.levels.UngatheredFrame.{UngatheredFrame}
use Rattle.le_check.specs.Goals.{goal_of, placed}
use Rattle.le_check.specs.Left.{Left, TreeOn, TreeGives, TreePast, TreeDone, FailsBy, ProofGives, proof_below, tree_below}
use Rattle.le_check.proofs.Resuming.{and-on-on, and-on-same, and-on-gives, number-is}

-- a tree above another one
pub above-on : (program : Program) (nodes : List Node) (frames : List Frame) (log : List Node) (found : List Tree) (order : List ℕ) (whole : Replayed Proven) (make : WholeTree → WholeTree) (front : List Node) (before : List ℕ) (more_ : Replayed Walked) (proofs : Goal → List (List Node) → Replayed Proven) (walk : Bool → Goal → List Node → Replayed Walked)
    → ((t : WholeTree) → tree_nodes (make t) ≡ front ++ tree_nodes t)
    → TreeOn (TreeDone program nodes frames) log found order (above program (length nodes) proofs walk make before more_) whole
    → TreeOn (TreeDone program nodes frames) (log ++ front) found (order ++ before) more_ whole
above-on program nodes frames log found order whole make front before more_ proofs walk made (more, done, eq) = (
  (λ w. more (up w)),
  (λ w. subst (λ l. TreeDone program nodes frames l (found ++ values_at w.found) ((order ++ before) ++ w.order) w.rest (more (up w))) (ap (λ l. log ++ l) (made w.tree) ∙ sym (append_assoc log front (tree_nodes w.tree)))
      (subst (λ o. TreeDone program nodes frames (log ++ tree_nodes (make w.tree)) (found ++ values_at w.found) o w.rest (more (up w))) (sym (append_assoc order before w.order)) (done (up w)))),
  eq ∙ (and-on-on more_ (λ w. gives (up w)) more ∙ and-on-same more_ (λ w. and_on (gives (up w)) more) (λ w. more (up w)) (λ w. and-on-gives (up w) more)),
)
  where
    up : Walked → Walked
    up w = record { found = w.found; tree = make w.tree; order = before ++ w.order; rest = w.rest }

-- a tree that is done
pub given-done : (program : Program) (nodes : List Node) (frames : List Frame) (log : List Node) (found : List Tree) (order : List ℕ) (whole : Replayed Proven) (w : Walked)
    → TreeOn (TreeDone program nodes frames) log found order (gives w) whole
    → TreeDone program nodes frames (log ++ tree_nodes w.tree) (found ++ values_at w.found) (order ++ w.order) w.rest whole
given-done program nodes frames log found order whole w (more, done, eq) =
    subst (λ r. TreeDone program nodes frames (log ++ tree_nodes w.tree) (found ++ values_at w.found) (order ++ w.order) w.rest r) (sym (eq ∙ and-on-gives w more)) (done w)

-- a faulty part of a tree is the fault of the whole
pub tree-faulty : (program : Program) (nodes : List Node) (frames : List Frame) (log : List Node) (found : List Tree) (order : List ℕ) (number why : ℕ) (whole : Replayed Proven)
    → TreeOn (TreeDone program nodes frames) log found order (faulty number why) whole → whole ≡ faulty number why
tree-faulty program nodes frames log found order number why whole (more, done, eq) = eq

-- a tree past a literal that is computed or gathered
pub computed-tree-past : (program : Program) (nodes : List Node) (frames : List Frame) (log : List Node) (found : List Tree) (order : List ℕ) (whole : Replayed Proven) (walk : Walk) (place number : ℕ) (literal : Literal) (make : WholeTree → WholeTree) (front : List Node) (below : List Node) (before : List ℕ) (outcome : Outcome)
    → ((t : WholeTree) → tree_nodes (make t) ≡ front ++ tree_nodes t)
    → TreeOn (TreeDone program nodes frames) log found order (computed_tree program (length nodes) (proofs_within program (length nodes) walk.fuel) (tree_within program (length nodes) walk.fuel) walk.failed (goal_of walk.goal) (placed walk.goal.literals.items place literal) make number below before outcome) whole
    → TreePast program nodes (TreeDone program nodes frames) walk place number (log ++ front) found (order ++ before) below outcome whole
computed-tree-past program nodes frames log found order whole walk place number literal make front below before (goes_on unifier) made on =
    (literal, above-on program nodes frames log found order whole make front before (tree_below program nodes walk.fuel walk.failed (rest_by (goal_of walk.goal) (placed walk.goal.literals.items place literal) unifier) below) (proofs_within program (length nodes) walk.fuel) (tree_within program (length nodes) walk.fuel) made on)
computed-tree-past program nodes frames log found order whole walk place number literal make front below before fails made on = (literal, tree-faulty program nodes frames log found order number 7 whole on)
computed-tree-past program nodes frames log found order whole walk place number literal make front below before (ends e) made on = (literal, tree-faulty program nodes frames log found order number 7 whole on)

-- a tree that ends at such a literal
pub dead-tree-fails : (program : Program) (nodes : List Node) (frames : List Frame) (log : List Node) (found : List Tree) (order : List ℕ) (whole : Replayed Proven) (fuel number : ℕ) (tree : WholeTree) (below : List Node) (before : List ℕ) (outcome : Outcome)
    → TreeOn (TreeDone program nodes frames) log found order (dead_tree program (length nodes) (proofs_within program (length nodes) fuel) (tree_within program (length nodes) fuel) tree number below before outcome) whole
    → FailsBy outcome number (TreeDone program nodes frames (log ++ tree_nodes tree) found (order ++ before) below whole) whole
dead-tree-fails program nodes frames log found order whole fuel number tree below before (goes_on unifier) on = tree-faulty program nodes frames log found order number 7 whole on
dead-tree-fails program nodes frames log found order whole fuel number tree below before fails on =
    subst (λ f. TreeDone program nodes frames (log ++ tree_nodes tree) f (order ++ before) below whole) (append-nil found)
    (given-done program nodes frames log found order whole (record { found = []; tree = tree; order = before; rest = below }) on)
dead-tree-fails program nodes frames log found order whole fuel number tree below before (ends e) on = tree-faulty program nodes frames log found order number 7 whole on

-- a tree once what comes before it is done
bind-tree : (program : Program) (nodes : List Node) (frames : List Frame) (frame : Frame) (log log' : List Node) (found found' : List Tree) (order : List ℕ) (whole : Replayed Proven) (tree : Replayed Walked) (next : Walked → Replayed Walked)
    → ((sub : Walked) (w : Replayed Proven) → TreeOn (TreeDone program nodes frames) log found order (next sub) w → TreeDone program nodes (frame ∷ frames) (log' ++ tree_nodes sub.tree) (found' ++ values_at sub.found) (order ++ sub.order) sub.rest w)
    → TreeOn (TreeDone program nodes frames) log found order (and_on tree next) whole
    → TreeOn (TreeDone program nodes (frame ∷ frames)) log' found' order tree whole
bind-tree program nodes frames frame log log' found found' order whole tree next opens (more, done, eq) =
    ((λ sub. and_on (next sub) more), (λ sub. opens sub (and_on (next sub) more) (more, done, refl)), eq ∙ and-on-on tree next more)

-- a negation in a tree that holds
pub lacking-opens : (program : Program) (nodes : List Node) (frames : List Frame) (log : List Node) (found : List Tree) (order : List ℕ) (whole : Replayed Proven) (goal : Goal) (picked : Picked Literal) (atom : Atom) (line number : ℕ) (below : List Node) (f : LackingFrame)
    → is_ground_atom atom ≡ true → goal_of f.walk.goal ≡ rest_goal goal picked → f.found.items ≡ found
    → TreeOn (TreeDone program nodes frames) log found order (tree_of_kind program (length nodes) (proofs_within program (length nodes) f.walk.fuel) (tree_within program (length nodes) f.walk.fuel) f.walk.failed goal picked line number below (lacks atom)) whole
    → TreeOn (TreeDone program nodes (Lacking f ∷ frames)) (log ++ node.Lacking ∷ []) [] order (tree_below program nodes f.walk.fuel true (sub_goal goal line atom []) below) whole
lacking-opens program nodes frames log found order whole goal picked atom line number below f ground goal-is found-is on =
    bind-tree program nodes frames (Lacking f) log (log ++ node.Lacking ∷ []) found [] order whole (tree_below program nodes f.walk.fuel true (sub_goal goal line atom []) below) next opens
    (subst (λ b. TreeOn (TreeDone program nodes frames) log found order (unless (not b) number 4 (and_on (tree_below program nodes f.walk.fuel true (sub_goal goal line atom []) below) next)) whole) ground on)
  where
    next : Walked → Replayed Walked
    next sub = above program (length nodes) (proofs_within program (length nodes) f.walk.fuel) (tree_within program (length nodes) f.walk.fuel) (whole_.lacking sub.tree) sub.order (tree_below program nodes f.walk.fuel f.walk.failed (rest_goal goal picked) sub.rest)

    opens : (sub : Walked) (w : Replayed Proven) → TreeOn (TreeDone program nodes frames) log found order (next sub) w → TreeDone program nodes (Lacking f ∷ frames) ((log ++ node.Lacking ∷ []) ++ tree_nodes sub.tree) ([] ++ values_at sub.found) (order ++ sub.order) sub.rest w
    opens sub w h =
        subst (λ l. TreeOn (TreeDone program nodes frames) l f.found.items (order ++ sub.order) (tree_below program nodes f.walk.fuel f.walk.failed (goal_of f.walk.goal) sub.rest) w) (sym (append_assoc log (node.Lacking ∷ []) (tree_nodes sub.tree)))
        (subst (λ fs. TreeOn (TreeDone program nodes frames) (log ++ node.Lacking ∷ tree_nodes sub.tree) fs (order ++ sub.order) (tree_below program nodes f.walk.fuel f.walk.failed (goal_of f.walk.goal) sub.rest) w) (sym found-is)
        (subst (λ g. TreeOn (TreeDone program nodes frames) (log ++ node.Lacking ∷ tree_nodes sub.tree) found (order ++ sub.order) (tree_below program nodes f.walk.fuel f.walk.failed g sub.rest) w) (sym goal-is)
        (above-on program nodes frames log found order w (whole_.lacking sub.tree) (node.Lacking ∷ tree_nodes sub.tree) sub.order (tree_below program nodes f.walk.fuel f.walk.failed (rest_goal goal picked) sub.rest) (proofs_within program (length nodes) f.walk.fuel) (tree_within program (length nodes) f.walk.fuel) (λ t. refl) h)))

-- a gather in a tree that holds
pub gathered-opens : (program : Program) (nodes : List Node) (frames : List Frame) (log : List Node) (found : List Tree) (order : List ℕ) (whole : Replayed Proven) (literal : Literal) (value : Tree) (atom : Atom) (line : ℕ) (below : List Node) (f : GatheredFrame)
    → is_covered value atom ≡ true → f.found.items ≡ found
    → TreeOn (TreeDone program nodes frames) log found order (tree_of_kind program (length nodes) (proofs_within program (length nodes) f.walk.fuel) (tree_within program (length nodes) f.walk.fuel) f.walk.failed (goal_of f.walk.goal) (placed f.walk.goal.literals.items f.place literal) line f.number below (gathers f.fold f.result value atom)) whole
    → TreeOn (TreeDone program nodes (Gathered f ∷ frames)) (log ++ node.Gathered ∷ []) [] order (tree_below program nodes f.walk.fuel false (sub_goal (goal_of f.walk.goal) line atom (value ∷ [])) below) whole
gathered-opens program nodes frames log found order whole literal value atom line below f covers found-is on =
    bind-tree program nodes frames (Gathered f) log (log ++ node.Gathered ∷ []) found [] order whole sub_tree next opens
    (subst (λ b. TreeOn (TreeDone program nodes frames) log found order (unless (not b) f.number 4 (and_on sub_tree next)) whole) covers on)
  where
    sub_tree : Replayed Walked
    sub_tree = tree_below program nodes f.walk.fuel false (sub_goal (goal_of f.walk.goal) line atom (value ∷ [])) below

    next : Walked → Replayed Walked
    next sub = computed_tree program (length nodes) (proofs_within program (length nodes) f.walk.fuel) (tree_within program (length nodes) f.walk.fuel) f.walk.failed (goal_of f.walk.goal) (placed f.walk.goal.literals.items f.place literal) (whole_.gathered sub.tree) f.number sub.rest sub.order (by_fold line f.result (fold_of f.fold (values_at sub.found)))

    opens : (sub : Walked) (w : Replayed Proven) → TreeOn (TreeDone program nodes frames) log found order (next sub) w → TreeDone program nodes (Gathered f ∷ frames) ((log ++ node.Gathered ∷ []) ++ tree_nodes sub.tree) ([] ++ values_at sub.found) (order ++ sub.order) sub.rest w
    opens sub w h = (
      line,
      subst (λ l. TreePast program nodes (TreeDone program nodes frames) f.walk f.place f.number l f.found.items (order ++ sub.order) sub.rest (by_fold line f.result (fold_of f.fold (values_at sub.found))) w) (sym (append_assoc log (node.Gathered ∷ []) (tree_nodes sub.tree)))
          (subst (λ fs. TreePast program nodes (TreeDone program nodes frames) f.walk f.place f.number (log ++ node.Gathered ∷ tree_nodes sub.tree) fs (order ++ sub.order) sub.rest (by_fold line f.result (fold_of f.fold (values_at sub.found))) w) (sym found-is)
          (computed-tree-past program nodes frames log found order w f.walk f.place f.number literal (whole_.gathered sub.tree) (node.Gathered ∷ tree_nodes sub.tree) sub.rest sub.order (by_fold line f.result (fold_of f.fold (values_at sub.found))) (λ t. refl) h)),
    )

-- a gather in a tree that doesn't hold
pub ungathered-opens : (program : Program) (nodes : List Node) (frames : List Frame) (log : List Node) (found : List Tree) (order : List ℕ) (whole : Replayed Proven) (fuel : ℕ) (failed : Bool) (goal : Goal) (picked : Picked Literal) (value : Tree) (atom : Atom) (line : ℕ) (below : List Node) (f : UngatheredFrame)
    → is_covered value atom ≡ true → f.found.items ≡ found
    → TreeOn (TreeDone program nodes frames) log found order (tree_of_kind program (length nodes) (proofs_within program (length nodes) fuel) (tree_within program (length nodes) fuel) failed goal picked line f.number below (misses f.fold f.result value atom)) whole
    → TreeOn (TreeDone program nodes (Ungathered f ∷ frames)) (log ++ node.Ungathered ∷ []) [] order (tree_below program nodes fuel false (sub_goal goal line atom (value ∷ [])) below) whole
ungathered-opens program nodes frames log found order whole fuel failed goal picked value atom line below f covers found-is on =
    bind-tree program nodes frames (Ungathered f) log (log ++ node.Ungathered ∷ []) found [] order whole sub_tree next opens
    (subst (λ b. TreeOn (TreeDone program nodes frames) log found order (unless (not b) f.number 4 (and_on sub_tree next)) whole) covers on)
  where
    sub_tree : Replayed Walked
    sub_tree = tree_below program nodes fuel false (sub_goal goal line atom (value ∷ [])) below

    next : Walked → Replayed Walked
    next sub = dead_tree program (length nodes) (proofs_within program (length nodes) fuel) (tree_within program (length nodes) fuel) (whole_.ungathered sub.tree) f.number sub.rest sub.order (by_fold line f.result (fold_of f.fold (values_at sub.found)))

    opens : (sub : Walked) (w : Replayed Proven) → TreeOn (TreeDone program nodes frames) log found order (next sub) w → TreeDone program nodes (Ungathered f ∷ frames) ((log ++ node.Ungathered ∷ []) ++ tree_nodes sub.tree) ([] ++ values_at sub.found) (order ++ sub.order) sub.rest w
    opens sub w h = (
      line,
      subst (λ l. FailsBy (by_fold line f.result (fold_of f.fold (values_at sub.found))) f.number (TreeDone program nodes frames l f.found.items (order ++ sub.order) sub.rest w) w) (sym (append_assoc log (node.Ungathered ∷ []) (tree_nodes sub.tree)))
          (subst (λ fs. FailsBy (by_fold line f.result (fold_of f.fold (values_at sub.found))) f.number (TreeDone program nodes frames (log ++ node.Ungathered ∷ tree_nodes sub.tree) fs (order ++ sub.order) sub.rest w) w) (sym found-is)
          (dead-tree-fails program nodes frames log found order w fuel f.number (whole_.ungathered sub.tree) sub.rest sub.order (by_fold line f.result (fold_of f.fold (values_at sub.found))) h)),
    )

-- a negation in a tree that doesn't hold
pub present-opens : (program : Program) (nodes : List Node) (frames : List Frame) (log : List Node) (found : List Tree) (order : List ℕ) (whole : Replayed Proven) (fuel : ℕ) (failed : Bool) (goal : Goal) (picked : Picked Literal) (atom : Atom) (line number : ℕ) (below : List Node) (f : PresentFrame)
    → is_ground_atom atom ≡ true → f.grown.nodes.items ≡ log ++ node.Present ∷ [] → f.grown.found.items ≡ found → drop f.after nodes ≡ behind 1 below
    → TreeOn (TreeDone program nodes frames) log found order (tree_of_kind program (length nodes) (proofs_within program (length nodes) fuel) (tree_within program (length nodes) fuel) failed goal picked line number below (presents atom)) whole
    → ProofGives program nodes (Present f ∷ frames) [] order (proof_below program nodes fuel (sub_goal goal line atom []) (below ∷ [])) whole
present-opens program nodes frames log found order whole fuel failed goal picked atom line number below f ground log-is found-is after-is on =
    opens (subst (λ b. TreeOn (TreeDone program nodes frames) log found order (unless (not b) number 4 (and_on (proof_below program nodes fuel (sub_goal goal line atom []) (below ∷ [])) (λ p. gives (up p)))) whole) ground on)
  where
    up : Proven → Walked
    up p = record { found = []; tree = whole_.present (first_proof p.leaf); order = p.order; rest = behind 1 below }

    opens : TreeOn (TreeDone program nodes frames) log found order (and_on (proof_below program nodes fuel (sub_goal goal line atom []) (below ∷ [])) (λ p. gives (up p))) whole → ProofGives program nodes (Present f ∷ frames) [] order (proof_below program nodes fuel (sub_goal goal line atom []) (below ∷ [])) whole
    opens (more, done, eq) = (
      [],
      tt,
      (
        (λ p. more (up p)),
        (λ p. subst (λ ns. TreeDone program nodes frames ns f.grown.found.items (order ++ p.order) (drop f.after nodes) (more (up p))) (sym (ap (λ l. l ++ tree_tail p) log-is ∙ append_assoc log (node.Present ∷ []) (tree_tail p)))
            (subst (λ fs. TreeDone program nodes frames (log ++ node.Present ∷ tree_tail p) fs (order ++ p.order) (drop f.after nodes) (more (up p))) (append-nil found ∙ sym found-is)
            (subst (λ r. TreeDone program nodes frames (log ++ node.Present ∷ tree_tail p) (found ++ []) (order ++ p.order) r (more (up p))) (sym after-is) (done (up p))))),
        eq ∙ (and-on-on (proof_below program nodes fuel (sub_goal goal line atom []) (below ∷ [])) (λ p. gives (up p)) more ∙ and-on-same (proof_below program nodes fuel (sub_goal goal line atom []) (below ∷ [])) (λ p. and_on (gives (up p)) more) (λ p. more (up p)) (λ p. and-on-gives (up p) more)),
      ),
    )
      where
        tree_tail : Proven → List Node
        tree_tail p = proof_nodes (first_proof p.leaf)

-- a proof that begins
pub proof-begins : (program : Program) (nodes : List Node) (frames : List Frame) (order : List ℕ) (whole : Replayed Proven) (fuel : ℕ) (goal next : Goal) (places others : List (List Node)) (path : List PathStep) → path ≡ [] → next ≡ goal → others ≡ places
    → ProofGives program nodes frames [] order (proof_below program nodes fuel goal places) whole → ProofGives program nodes frames path order (proof_below program nodes fuel next others) whole
proof-begins program nodes frames order whole fuel goal next places others path path-is goal-is places-are on =
    subst (λ p. ProofGives program nodes frames p order (proof_below program nodes fuel next others) whole) (sym path-is)
    (subst (λ g. ProofGives program nodes frames [] order (proof_below program nodes fuel g others) whole) (sym goal-is)
    (subst (λ ps. ProofGives program nodes frames [] order (proof_below program nodes fuel goal ps) whole) (sym places-are) on))

-- a success leaf
pub success-done : (program : Program) (nodes : List Node) (frames : List Frame) (log more : List Node) (found others : List Tree) (order : List ℕ) (whole : Replayed Proven) (fuel number : ℕ) (terms : List Tree) (below : List Node)
    → more ≡ log ++ node.Success ∷ [] → others ≡ found ++ argument terms 0 ∷ []
    → TreeOn (TreeDone program nodes frames) log found order (empty_tree program (length nodes) (proofs_within program (length nodes) fuel) (tree_within program (length nodes) fuel) false terms number below node.Success) whole
    → TreeDone program nodes frames more others order below whole
success-done program nodes frames log more found others order whole fuel number terms below log-is found-is on =
    subst (λ l. TreeDone program nodes frames l others order below whole) (sym log-is)
    (subst (λ fs. TreeDone program nodes frames (log ++ node.Success ∷ []) fs order below whole) (sym found-is)
    (subst (λ o. TreeDone program nodes frames (log ++ node.Success ∷ []) (found ++ argument terms 0 ∷ []) o below whole) (append-nil order)
    (given-done program nodes frames log found order whole (record { found = terms ∷ []; tree = whole_.success; order = []; rest = below }) on)))

-- what is left where no clauses were tried
pub left-none : (before after : ℕ) (P : Replayed Proven → Type 0) (whole : Replayed Proven) → after ≤ before → P whole → Left before after P whole
left-none before after P whole fewer h =
    let none : whole.tried ≡ 0 + whole.tried = omega arith in
    let less : after ≤ before + 0 = omega (arith, fewer) in
    (0, whole, none, refl, less, h)

-- a tree with the literal that is selected and its node gives this
abbrev pub Grows : Program → List Node → List Frame → Grown → List ℕ → Walk → ℕ → Literal → ℕ → ℕ → List Node → Replayed Proven → spec.Kind → Type 0
Grows program nodes frames grown order walk place literal line number below whole kind =
    TreeGives program nodes frames grown order (tree_of_kind program (length nodes) (proofs_within program (length nodes) walk.fuel) (tree_within program (length nodes) walk.fuel) walk.failed (goal_of walk.goal) (placed walk.goal.literals.items place literal) line number below kind) whole

pub grows-computed : (program : Program) (nodes : List Node) (frames : List Frame) (grown : Grown) (order : List ℕ) (walk : Walk) (place : ℕ) (literal : Literal) (line number : ℕ) (below : List Node) (whole : Replayed Proven) (atom : Atom)
    → Grows program nodes frames grown order walk place literal line number below whole (spec.computes atom)
    → TreePast program nodes (TreeDone program nodes frames) walk place number (grown.nodes.items ++ node.Computed ∷ []) grown.found.items order below (computing line atom) whole
grows-computed program nodes frames grown order walk place literal line number below whole atom h =
    subst (λ o. TreePast program nodes (TreeDone program nodes frames) walk place number (grown.nodes.items ++ node.Computed ∷ []) grown.found.items o below (computing line atom) whole) (append-nil order)
    (computed-tree-past program nodes frames grown.nodes.items grown.found.items order whole walk place number literal whole_.computed (node.Computed ∷ []) below [] (computing line atom) (λ t. refl) h)

pub grows-dead : (program : Program) (nodes : List Node) (frames : List Frame) (grown : Grown) (order : List ℕ) (walk : Walk) (place : ℕ) (literal : Literal) (line number : ℕ) (below : List Node) (whole : Replayed Proven) (atom : Atom)
    → Grows program nodes frames grown order walk place literal line number below whole (spec.dies atom)
    → FailsBy (computing line atom) number (TreeDone program nodes frames (grown.nodes.items ++ node.Dead ∷ []) grown.found.items order below whole) whole
grows-dead program nodes frames grown order walk place literal line number below whole atom h =
    subst (λ o. FailsBy (computing line atom) number (TreeDone program nodes frames (grown.nodes.items ++ node.Dead ∷ []) grown.found.items o below whole) whole) (append-nil order)
    (dead-tree-fails program nodes frames grown.nodes.items grown.found.items order whole walk.fuel number whole_.dead below [] (computing line atom) h)

-- where no node of a tree may be read any more
pub tree-no-fuel : (program : Program) (nodes : List Node) (frames : List Frame) (grown : Grown) (order : List ℕ) (whole : Replayed Proven) (fuel : ℕ) (failed : Bool) (goal : Goal) (below : List Node)
    → fuel ≡ 0 → TreeGives program nodes frames grown order (tree_below program nodes fuel failed goal below) whole → whole ≡ faulty (suc (length nodes) - 0) 9
tree-no-fuel program nodes frames grown order whole fuel failed goal below none h =
    tree-faulty program nodes frames grown.nodes.items grown.found.items order (suc (length nodes) - 0) 9 whole (subst (λ n. TreeGives program nodes frames grown order (tree_below program nodes n failed goal below) whole) none h)

-- where there is none
pub tree-none : (program : Program) (nodes : List Node) (frames : List Frame) (grown : Grown) (order : List ℕ) (whole : Replayed Proven) (fuel less : ℕ) (failed : Bool) (goal : Goal) (below : List Node)
    → fuel ≡ suc less → below ≡ [] → TreeGives program nodes frames grown order (tree_below program nodes fuel failed goal below) whole → whole ≡ faulty (suc (length nodes) - 0) 9
tree-none program nodes frames grown order whole fuel less failed goal below one none h =
    tree-faulty program nodes frames grown.nodes.items grown.found.items order (suc (length nodes) - 0) 9 whole
    (subst (λ ns. TreeGives program nodes frames grown order (tree_below program nodes (suc less) failed goal ns) whole) none (subst (λ n. TreeGives program nodes frames grown order (tree_below program nodes n failed goal below) whole) one h))

-- the tree of a goal at a node
tree-reads : (program : Program) (nodes : List Node) (frames : List Frame) (grown : Grown) (order : List ℕ) (whole : Replayed Proven) (fuel less : ℕ) (failed : Bool) (goal : Goal) (at : ℕ) (node_ : Node) (picked : Option (Picked Literal))
    → fuel ≡ suc less → drop at nodes ≡ node_ ∷ drop (at + 1) nodes → or_first goal.literals (selected program.version goal.literals) ≡ picked
    → TreeGives program nodes frames grown order (tree_below program nodes fuel failed goal (drop at nodes)) whole
    → TreeGives program nodes frames grown order (tree_at program (length nodes) (proofs_within program (length nodes) less) (tree_within program (length nodes) less) failed goal picked (node_ ∷ drop (at + 1) nodes)) whole
tree-reads program nodes frames grown order whole fuel less failed goal at node_ picked one is picks h =
    subst (λ o. TreeGives program nodes frames grown order (tree_at program (length nodes) (proofs_within program (length nodes) less) (tree_within program (length nodes) less) failed goal o (node_ ∷ drop (at + 1) nodes)) whole) picks
    (subst (λ ns. TreeGives program nodes frames grown order (tree_below program nodes (suc less) failed goal ns) whole) is (subst (λ n. TreeGives program nodes frames grown order (tree_below program nodes n failed goal (drop at nodes)) whole) one h))

number-of : (nodes : List Node) (at : ℕ) (node_ : Node) → at < length nodes → drop at nodes ≡ node_ ∷ drop (at + 1) nodes → suc (length nodes) - length (node_ ∷ drop (at + 1) nodes) ≡ at + 1
number-of nodes at node_ low is = ap (λ (ns : List Node). suc (length nodes) - length ns) (sym is) ∙ number-is nodes at low

pub tree-ends : (program : Program) (nodes : List Node) (frames : List Frame) (grown : Grown) (order : List ℕ) (whole : Replayed Proven) (fuel less : ℕ) (failed : Bool) (goal : Goal) (at : ℕ) (node_ : Node)
    → fuel ≡ suc less → at < length nodes → drop at nodes ≡ node_ ∷ drop (at + 1) nodes → goal.literals ≡ []
    → TreeGives program nodes frames grown order (tree_below program nodes fuel failed goal (drop at nodes)) whole
    → TreeGives program nodes frames grown order (empty_tree program (length nodes) (proofs_within program (length nodes) less) (tree_within program (length nodes) less) failed goal.terms (at + 1) (drop (at + 1) nodes) node_) whole
tree-ends program nodes frames grown order whole fuel less failed goal at node_ one low is none h =
    subst (λ n. TreeGives program nodes frames grown order (empty_tree program (length nodes) (proofs_within program (length nodes) less) (tree_within program (length nodes) less) failed goal.terms n (drop (at + 1) nodes) node_) whole) (number-of nodes at node_ low is)
    (tree-reads program nodes frames grown order whole fuel less failed goal at node_ None one is (ap (λ ls. or_first ls (selected program.version ls)) none) h)

pub tree-picks : (program : Program) (nodes : List Node) (frames : List Frame) (grown : Grown) (order : List ℕ) (whole : Replayed Proven) (fuel less : ℕ) (failed : Bool) (goal : Goal) (at place : ℕ) (literal : Literal) (node_ : Node)
    → fuel ≡ suc less → at < length nodes → drop at nodes ≡ node_ ∷ drop (at + 1) nodes → or_first goal.literals (selected program.version goal.literals) ≡ Some (placed goal.literals place literal)
    → TreeGives program nodes frames grown order (tree_below program nodes fuel failed goal (drop at nodes)) whole
    → TreeGives program nodes frames grown order (tree_of_kind program (length nodes) (proofs_within program (length nodes) less) (tree_within program (length nodes) less) failed goal (placed goal.literals place literal) literal.line (at + 1) (drop (at + 1) nodes) (kind_of literal.form node_)) whole
tree-picks program nodes frames grown order whole fuel less failed goal at place literal node_ one low is picks h =
    subst (λ n. TreeGives program nodes frames grown order (tree_of_kind program (length nodes) (proofs_within program (length nodes) less) (tree_within program (length nodes) less) failed goal (placed goal.literals place literal) literal.line n (drop (at + 1) nodes) (kind_of literal.form node_)) whole) (number-of nodes at node_ low is)
    (tree-reads program nodes frames grown order whole fuel less failed goal at node_ (Some (placed goal.literals place literal)) one is picks h)

pub err-any : {X E : Type 0} (r : Result X E) (e : E) (Q : X → Type 0) → r ≡ Err e → IfOk r Q
err-any r e Q is = subst (λ s. IfOk s Q) (sym is) tt

-- what is left, and what is left of that
pub left-then : (first then_ last : ℕ) (P Q : Replayed Proven → Type 0) (whole : Replayed Proven) → Left first then_ P whole → ((rest : Replayed Proven) → P rest → Left then_ last Q rest) → Left first last Q whole
left-then first then_ last P Q whole (tried, rest, tried-is, answer-is, less, h) more = by (more rest h)
  where
    by : Left then_ last Q rest → Left first last Q whole
    by (tried', rest', tried-is', answer-is', less', h') =
        let one : whole.tried ≡ (tried + tried') + rest'.tried = omega (arith, tried-is, tried-is') in
        let two : last ≤ first + (tried + tried') = omega (arith, less, less') in
        (tried + tried', rest', one, answer-is ∙ answer-is', two, h')

-- a replay that begins
and-on-all : (first : Replayed Proven) → first ≡ and_on first gives
and-on-all first = by first.answer refl
  where
    by : (answer : Result Proven Fault) → first.answer ≡ answer → first ≡ then_on first.tried first.answer gives
    by (Ok p) is =
        let same : first.tried ≡ first.tried + 0 = omega arith in
        subst (λ (a : Result Proven Fault). record { tried = first.tried; answer = a } ≡ then_on first.tried a gives) (sym is) (ap (λ n. record { tried = n; answer = Ok p }) same)
    by (Err fault) is = subst (λ (a : Result Proven Fault). record { tried = first.tried; answer = a } ≡ then_on first.tried a gives) (sym is) refl

pub begins : (program : Program) (nodes : List Node) (path : List PathStep) (order : List ℕ) (proof : Replayed Proven) → path ≡ [] → order ≡ [] → ProofGives program nodes [] path order proof proof
begins program nodes path order proof none empty =
    subst (λ p. ProofGives program nodes [] p order proof proof) (sym none)
    (subst (λ o. ProofGives program nodes [] [] o proof proof) (sym empty) ([], tt, (gives, (λ p. refl), and-on-all proof)))

pub starts : (program : Program) (nodes : List Node) (frames : List Frame) (path : List PathStep) (order : List ℕ) (fuel : ℕ) (goal : Goal) (places : List (List Node)) → frames ≡ [] → path ≡ [] → order ≡ [] → fuel ≡ suc (length nodes) → goal ≡ root_of program → places ≡ spec.beginnings (length program.query) nodes
    → ProofGives program nodes frames path order (proof_below program nodes fuel goal places) (spec.replay_of program nodes)
starts program nodes frames path order fuel goal places frames-is path-is order-is fuel-is goal-is places-is =
    subst (λ fs. ProofGives program nodes fs path order (proof_below program nodes fuel goal places) (spec.replay_of program nodes)) (sym frames-is)
    (subst (λ n. ProofGives program nodes [] path order (proof_below program nodes n goal places) (spec.replay_of program nodes)) (sym fuel-is)
    (subst (λ g. ProofGives program nodes [] path order (proof_below program nodes (suc (length nodes)) g places) (spec.replay_of program nodes)) (sym goal-is)
    (subst (λ ps. ProofGives program nodes [] path order (proof_below program nodes (suc (length nodes)) (root_of program) ps) (spec.replay_of program nodes)) (sym places-is)
    (begins program nodes path order (spec.replay_of program nodes) path-is order-is))))
