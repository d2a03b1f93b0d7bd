-- The replay of a tree comes through where the relation has the tree: one step, over what comes through with less fuel.
use Rattle.std.proofs.Common.{◌≡◌, ℕ, zero, suc, ◌+◌, ◌-◌, ◌<◌, ◌≤◌, ◌==◌, Bool, true, false, not, List, [], ◌∷◌, ◌++◌, map, zip, length, length-append, slice_get, Option, Some, None, option_map, refl, sym, ap, ◌∙◌, subst, true≢false, arith, if◌then◌else◌}
use Rattle.std.specs.Prelude.{Result, Ok}
use Rattle.std.specs.List.{AllByRecursion, cons_option}
use Rattle.std.proofs.lemmas.List.{map-append, length-map}
use Rattle.std.proofs.lemmas.Bool.Decides.{Decides-eqb}
use Rattle.le_base.specs.declared.stop.FoldKind.{FoldKind}
use Rattle.le_terms.specs.Tree.{Tree}
use Rattle.le_terms.specs.Variables.{occurrences, all_occurrences, replaced}
use Rattle.le_terms.specs.Program.{IsLiteral, IsProgramClause, form_terms}
use Rattle.le_terms.specs.declared.program.Atom.{Atom}
use Rattle.le_terms.specs.declared.program.Clause.{Clause}
use Rattle.le_terms.specs.declared.program.Form.{Form}
use Rattle.le_terms.specs.declared.program.Form.TheVariants.{Pos, Neg, Calc, Gather}
use Rattle.le_terms.specs.declared.program.Literal.{Literal}
use Rattle.le_terms.specs.declared.program.Program.{Program}
use Rattle.le_subst.specs.Unifiers.{Bindings, value_at}
use Rattle.le_builtins.specs.Compute.{compute}
use Rattle.le_builtins.proofs.Results.{results}
use Rattle.le_builtins.proofs.Variants.{ground-same, compute-same}
use Rattle.le_proofs.specs.declared.node.Node.{Node}
use Rattle.le_proofs.specs.declared.node.Node.TheVariants.{Branch as Branch_node, Split, Computed, Dead, Lacking, Present, Gathered, Ungathered}
use Rattle.le_gather.specs.Folds.{fold_of}
use Rattle.le_proofs.specs.Goals.{Goal, Picked, Child, is_delayed, selected, put_in_place, children, child_by, rest_by, rest_goal, rest_of, sub_goal, terms_under, atom_under, form_under, literal_under, literals_under, raised, head_solution, is_ground_atom}
use Rattle.le_proofs.specs.Proofs.{Proof, WholeTree, WholeBranches, Leaf, no_branch, branch}
use Rattle.le_proofs.specs.Proofs as whole
use Rattle.le_proofs.specs.SearchTree.{first_proof}
use Rattle.le_proofs.specs.Search.{Outcome, goes_on, fails, computing, by_answer, by_fold, is_covered}
use Rattle.le_proofs.specs.Derivations.{branch_count, proof_nodes, tree_nodes, branches_nodes}
use Rattle.le_proofs.specs.Lloyd.{IsClauseOf, HeadUnifies, Resolves, named, seen_by, map_variables, only, values_at, ComputesNothing, GoesOn, Lacks, Gathers, Branches, Misses, IsWhole, AreWhole, WholeBelow, RefutableBelow, goal_variables}
use Rattle.le_proofs.specs.Replay.{Fault, Replayed, gives, then_on, and_on, Proven, Walked, WalkedEach, kind_of, presents, clause_at, number_at, above, branch_before, branch_unifies, branch_fault, branch_on, branch_at, branches_at, split_of, computed_tree, dead_tree, tree_of_kind, tree_at, behind}
use Rattle.le_proofs.proofs.Alls.{all-both, all-left, all-right}
use Rattle.le_proofs.proofs.Apart.{resolves}
use Rattle.le_proofs.proofs.Variants.{terms-terms}
use Rattle.le_proofs.proofs.Picks.{pick-means}
use Rattle.le_proofs.proofs.Trees.{Numbered}
use Rattle.le_proofs.proofs.Shapes.{bare, under_then, two, Begun, begun, kind-bare, behind-bare, behind-proof}
use Rattle.le_proofs.proofs.Same.{SameProof, SameTree, SameBranches, AreSame}
use Rattle.le_proofs.proofs.Instances.{picked_map, terms-split}
use Rattle.le_gather.proofs.Variants.{fold-same}
use Rattle.le_proofs.proofs.Invariant.{covered-under}
use Rattle.le_proofs.proofs.Alike.{Tied, Alike, dropped-only}
use Rattle.le_proofs.proofs.Steps.{tied-rounds, tied-low, form-tied, form-right, unifies-too, has-solution, clause-step, Past, past-step, past-computed, past-folded, never-computed, never-folded, zip-unified}
use Rattle.le_proofs.proofs.Coming.{IsCome, IsWalkedOut, AreFound, ProofsCome, TreesCome, found-values, came-and, came-unless, under-split, clause-there, sub-alike}

-- a state without the first of the terms that it keeps
pub forget : (arity : ℕ → ℕ) (predicates : ℕ) (seen : List ℕ) (literals : List Literal) (next : ℕ) (goals : List Literal) (unifier other : ℕ → Tree) (firsts others kept terms : List Tree) → length others ≡ length firsts
    → Alike arity predicates seen literals (terms_under unifier (firsts ++ kept)) (record { next = next; literals = goals; terms = terms_under other (others ++ terms) })
    → Alike arity predicates seen literals (terms_under unifier kept) (record { next = next; literals = goals; terms = terms_under other terms })
forget arity predicates seen literals next goals unifier other firsts others kept terms lengths alike = record {
  to = alike.to;
  back = alike.back;
  same = alike.same;
  same_kept = (under-split other alike.to unifier others firsts terms kept lengths alike.same_kept).1;
  tied = alike.tied;
  tied_kept = (terms-split (Tied seen alike.to alike.back next) (terms_under unifier firsts) (terms_under unifier kept) (subst (λ ts. AllByRecursion (Tied seen alike.to alike.back next) (all_occurrences ts)) (map-append (replaced unifier) firsts kept) alike.tied_kept)).1;
  right = alike.right;
}

-- the branches of an atom come through
pub record IsWalkedEach (branches : WholeBranches) (found : List (List Tree)) (more : List Node) (answer : Result WalkedEach Fault) : Type 0 where
  pub walked : WalkedEach
  pub came : answer ≡ Ok walked
  pub same : SameBranches branches walked.branches
  pub rest : map bare walked.rest ≡ more
  pub varied : AreFound found walked.found

pub found-join : (as_ bs cs ds : List (List Tree)) → AreFound as_ cs → AreFound bs ds → AreFound (as_ ++ bs) (cs ++ ds)
found-join [] bs [] ds one other = other
found-join [] bs (c ∷ cs) ds one other = absurd one
found-join (a ∷ as_) bs [] ds one other = absurd one
found-join (a ∷ as_) bs (c ∷ cs) ds one other = (one.0, found-join as_ bs cs ds one.1 other)

nil-left : {X : Type 0} (xs ys : List X) → xs ++ ys ≡ [] → (xs ≡ []) × (ys ≡ [])
nil-left [] ys is = (refl, is)
nil-left (x ∷ xs) ys is = absurd (cc is)

pub slice-below : {X : Type 0} (xs : List X) (i : ℕ) (x : X) → slice_get xs i ≡ Some x → i < length xs
slice-below [] i x is = absurd (cc is)
slice-below (y ∷ xs) zero x is = omega arith
slice-below (y ∷ xs) (suc i) x is = let rest : i < length xs = slice-below xs i x is in omega arith

first-same : (to back : ℕ → Tree) (p : Proof) (leaf : Leaf) → AreSame to back (p ∷ []) leaf.proofs → SameProof to back p (first_proof leaf)
first-same to back p leaf same = by leaf.proofs same
  where
    by : (ps : List Proof) → AreSame to back (p ∷ []) ps → SameProof to back p (first_proof (record { terms = leaf.terms; left = leaf.left; by = leaf.by; proofs = ps }))
    by [] same = absurd same
    by (q ∷ ps) same = same.0

branch-node : (it : Node) (clause : ℕ) → bare it ≡ Branch_node clause → it ≡ Branch_node clause
branch-node (Branch_node c) clause is = is
branch-node it clause is = absurd (cc is)

module _ (program : Program) (arity : ℕ → ℕ) (predicates : ℕ) (valid : AllByRecursion (IsProgramClause arity predicates) program.clauses) (total fuel : ℕ)
    (proofs : Goal → List (List Node) → Replayed Proven) (walk : Bool → Goal → List Node → Replayed Walked) (proofs_come : ProofsCome program arity predicates fuel proofs) (trees_come : TreesCome program arity predicates fuel walk)
    (rank : ℕ) (seen : List ℕ) (literals : List Literal) (kept : List Tree) (goal : Goal) (alike : Alike arity predicates seen literals kept goal) (failed : Bool) (picked : Picked Literal) (one : selected program.version literals ≡ Some picked) where
  parts : literals ≡ picked.before ++ picked.chosen ∷ picked.behind
  parts = (pick-means (is_delayed program.version) literals picked one).all

  abbrev chosen : Picked Literal
  chosen = picked_map (literal_under alike.to) picked

  abbrev Ties : ℕ → Type 0
  Ties = Tied seen alike.to alike.back goal.next

  tied-form : (form : Form) → picked.chosen.form ≡ form → AllByRecursion Ties (all_occurrences (form_terms form))
  tied-form form is = form-tied arity predicates seen literals kept goal alike picked parts form is

  lengths : length (terms_under alike.to (form_terms picked.chosen.form)) ≡ length (form_terms picked.chosen.form)
  lengths = length-map (form_terms picked.chosen.form) (replaced alike.to)

  abbrev Out : WholeTree → List (List Tree) → List Node → Replayed Walked → Type 0
  Out tree found more r = IsWalkedOut tree found more r.answer

  -- at a node whose shape is known
  at-node : (tree : WholeTree) (found : List (List Tree)) (end : List Node) (nodes : List Node) (node : Node) (more : List Node) (form : Form) → picked.chosen.form ≡ form → map bare nodes ≡ node ∷ more
      → ((below : List Node) (number : ℕ) → map bare below ≡ more → Out tree found end (tree_of_kind program total proofs walk failed goal chosen chosen.chosen.line number below (kind_of (form_under alike.to form) node)))
      → Out tree found end (tree_at program total proofs walk failed goal (Some chosen) nodes)
  at-node tree found end nodes node more form is begins make =
      let at : Begun nodes node more = begun nodes node more begins in
      subst (λ ns. Out tree found end (tree_at program total proofs walk failed goal (Some chosen) ns)) (sym at.all)
      (subst (λ k. Out tree found end (tree_of_kind program total proofs walk failed goal chosen chosen.chosen.line (number_at program total (at.it ∷ at.below)) at.below k))
      (sym (kind-bare (form_under alike.to picked.chosen.form) at.it ∙ (ap (kind_of (form_under alike.to picked.chosen.form)) at.is ∙ ap (λ f. kind_of (form_under alike.to f) node) is)))
      (make at.below (number_at program total (at.it ∷ at.below)) at.rest))

  -- the tree of the rest, below this one
  above-comes : (tree sub : WholeTree) (make : WholeTree → WholeTree) → ((t : WholeTree) → SameTree sub t → SameTree tree (make t)) → (found : List (List Tree)) (more : List Node) (orders : List ℕ) (r : Replayed Walked) → IsWalkedOut sub found more r.answer
      → Out tree found more (above program total proofs walk make orders r)
  above-comes tree sub make give found more orders r out = record {
    walked = record { found = out.walked.found; tree = make out.walked.tree; order = orders ++ out.walked.order; rest = out.walked.rest };
    came = came-and r (λ rest. gives (record { found = rest.found; tree = make rest.tree; order = orders ++ rest.order; rest = rest.rest })) out.walked (record { found = out.walked.found; tree = make out.walked.tree; order = orders ++ out.walked.order; rest = out.walked.rest }) out.came refl;
    same = give out.walked.tree out.same;
    rest = out.rest;
    varied = out.varied;
  }

  past-walks : (tree sub : WholeTree) (make : WholeTree → WholeTree) → ((t : WholeTree) → SameTree sub t → SameTree tree (make t)) → (unifier other : Bindings) → Past arity predicates seen literals kept goal alike picked parts unifier other → (found : List (List Tree))
      → IsWhole program (WholeBelow rank program) (RefutableBelow rank program) sub (map_variables unifier ++ seen) (literals_under (value_at unifier) (rest_of picked)) (terms_under (value_at unifier) kept) found
      → (below more : List Node) → map bare below ≡ under_then (tree_nodes sub) more → length (tree_nodes sub) < fuel → (failed ≡ true → found ≡ []) → (number : ℕ) (orders : List ℕ) (outcome : Outcome) → outcome ≡ goes_on other
      → Out tree found more (computed_tree program total proofs walk failed goal chosen make number below orders outcome)
  past-walks tree sub make give unifier other past found is below more begins less none number orders outcome goes =
      subst (λ o. Out tree found more (computed_tree program total proofs walk failed goal chosen make number below orders o)) (sym goes)
      (above-comes tree sub make give found more orders (walk failed (rest_by goal chosen other) below)
      (trees_come rank sub (map_variables unifier ++ seen) (literals_under (value_at unifier) (rest_of picked)) (terms_under (value_at unifier) kept) (rest_by goal chosen other) failed below more found
      (forget arity predicates (map_variables unifier ++ seen) (literals_under (value_at unifier) (rest_of picked)) goal.next (literals_under (value_at other) (rest_of chosen)) (value_at unifier) (value_at other) (form_terms picked.chosen.form) (terms_under alike.to (form_terms picked.chosen.form)) kept goal.terms lengths
      (past-step arity predicates seen literals kept goal alike picked parts unifier other past))
      is begins less none))

  calc-same : (atom : Atom) → picked.chosen.form ≡ Calc atom → compute atom.pred (terms_under alike.to atom.args) ≡ compute atom.pred atom.args
  calc-same atom form = compute-same alike.to alike.back atom.pred atom.args (tied-rounds seen alike.to alike.back goal.next atom.args (tied-form (Calc atom) form))

  -- a computed literal that holds
  pub computed-walks : (sub : WholeTree) (atom : Atom) → picked.chosen.form ≡ Calc atom → (found : List (List Tree)) → GoesOn program (WholeBelow rank program) (RefutableBelow rank program) (IsWhole program (WholeBelow rank program) (RefutableBelow rank program) sub) seen picked atom kept found
      → (nodes more : List Node) → map bare nodes ≡ Computed ∷ under_then (tree_nodes sub) more → length (tree_nodes sub) < fuel → (failed ≡ true → found ≡ []) → Out (whole.computed sub) found more (tree_at program total proofs walk failed goal (Some chosen) nodes)
  computed-walks sub atom form found step nodes more begins less none =
      let past : (other : Bindings) × (by_answer chosen.chosen.line (terms_under alike.to atom.args) (compute atom.pred atom.args) ≡ goes_on other) × Past arity predicates seen literals kept goal alike picked parts step.unifier other =
      past-computed arity predicates seen literals kept goal alike picked parts chosen.chosen.line atom.args (tied-form (Calc atom) form) step.unifier (compute atom.pred atom.args) (results atom.pred atom.args) step.computes in
      at-node (whole.computed sub) found more nodes Computed (under_then (tree_nodes sub) more) (Calc atom) form begins
      (λ below number rest. past-walks (whole.computed sub) sub whole.computed (λ t same. same) step.unifier past.0 past.2 found step.rest below more rest less none number [] (computing chosen.chosen.line (atom_under alike.to atom))
      (ap (by_answer chosen.chosen.line (terms_under alike.to atom.args)) (calc-same atom form) ∙ past.1))

  dead-comes : (tree tree' : WholeTree) → SameTree tree tree' → (found : List (List Tree)) → found ≡ [] → (below more : List Node) → map bare below ≡ more → (number : ℕ) (orders : List ℕ) (outcome : Outcome) → outcome ≡ fails
      → Out tree found more (dead_tree program total proofs walk tree' number below orders outcome)
  dead-comes tree tree' same found none below more rest number orders outcome is =
      subst (λ o. Out tree found more (dead_tree program total proofs walk tree' number below orders o)) (sym is)
      (record { walked = record { found = []; tree = tree'; order = orders; rest = below }; came = refl; same = same; rest = rest; varied = subst (λ f. AreFound f []) (sym none) tt })

  -- and one that doesn't
  pub dead-walks : (atom : Atom) → picked.chosen.form ≡ Calc atom → (found : List (List Tree)) → ComputesNothing atom → found ≡ [] → (nodes more : List Node) → map bare nodes ≡ Dead ∷ more → Out whole.dead found more (tree_at program total proofs walk failed goal (Some chosen) nodes)
  dead-walks atom form found never none nodes more begins =
      at-node whole.dead found more nodes Dead more (Calc atom) form begins
      (λ below number rest. dead-comes whole.dead whole.dead tt found none below more rest number [] (computing chosen.chosen.line (atom_under alike.to atom))
      (ap (by_answer chosen.chosen.line (terms_under alike.to atom.args)) (calc-same atom form) ∙ never-computed arity predicates seen literals kept goal alike picked parts chosen.chosen.line atom.args (compute atom.pred atom.args) (results atom.pred atom.args) never))

  -- the tree of an atom, of the rank below
  below-walks : (atom : Atom) (terms : List Tree) (tree : WholeTree) (found : List (List Tree)) (fail : Bool) (nodes more : List Node) → AllByRecursion Ties (all_occurrences atom.args) → AllByRecursion Ties (all_occurrences terms) → IsLiteral arity predicates (record { line = picked.chosen.line; form = Pos atom })
      → WholeBelow rank program (only picked.chosen.line atom) terms tree found → map bare nodes ≡ under_then (tree_nodes tree) more → length (tree_nodes tree) < fuel → (fail ≡ true → found ≡ [])
      → IsWalkedOut tree found more (walk fail (sub_goal goal picked.chosen.line (atom_under alike.to atom) (terms_under alike.to terms)) nodes).answer
  below-walks atom terms tree found fail nodes more tied tied_terms right is begins less none = by_rank rank is
    where
      by_rank : (r : ℕ) → WholeBelow r program (only picked.chosen.line atom) terms tree found → IsWalkedOut tree found more (walk fail (sub_goal goal picked.chosen.line (atom_under alike.to atom) (terms_under alike.to terms)) nodes).answer
      by_rank zero is = absurd is
      by_rank (suc r) is =
          trees_come r tree (goal_variables (only picked.chosen.line atom) terms) (only picked.chosen.line atom) terms (sub_goal goal picked.chosen.line (atom_under alike.to atom) (terms_under alike.to terms)) fail nodes more found
          (sub-alike arity predicates seen alike.to alike.back goal picked.chosen.line atom terms tied tied_terms right) is begins less none

  ground-too : (atom : Atom) → picked.chosen.form ≡ Neg atom → is_ground_atom atom ≡ true → is_ground_atom (atom_under alike.to atom) ≡ true
  ground-too atom form is = ground-same alike.to alike.back atom.args (tied-rounds seen alike.to alike.back goal.next atom.args (tied-form (Neg atom) form)) ∙ is

  -- a negation that holds
  pub lacking-walks : (sub tree : WholeTree) (atom : Atom) → picked.chosen.form ≡ Neg atom → (found : List (List Tree)) → Lacks program (WholeBelow rank program) (RefutableBelow rank program) (IsWhole program (WholeBelow rank program) (RefutableBelow rank program) tree) seen picked atom kept sub found
      → (nodes more : List Node) → map bare nodes ≡ Lacking ∷ under_then (tree_nodes sub ++ tree_nodes tree) more → length (tree_nodes sub ++ tree_nodes tree) < fuel → (failed ≡ true → found ≡ [])
      → Out (whole.lacking sub tree) found more (tree_at program total proofs walk failed goal (Some chosen) nodes)
  lacking-walks sub tree atom form found step nodes more begins less none =
      let both : length (tree_nodes sub ++ tree_nodes tree) ≡ length (tree_nodes sub) + length (tree_nodes tree) = length-append (tree_nodes sub) (tree_nodes tree) in
      let less_ : length (tree_nodes sub ++ tree_nodes tree) < fuel = less in
      let atom' : Atom = atom_under alike.to atom in
      let middle : List Node = under_then (tree_nodes tree) more in
      at-node (whole.lacking sub tree) found more nodes Lacking (under_then (tree_nodes sub ++ tree_nodes tree) more) (Neg atom) form begins
      (λ below number rest.
      let first : IsWalkedOut sub [] middle (walk true (sub_goal goal chosen.chosen.line atom' []) below).answer =
      below-walks atom [] sub [] true below middle (tied-form (Neg atom) form) tt (form-right arity predicates seen literals kept goal alike picked parts (Neg atom) form) step.fails (rest ∙ two (tree_nodes sub) (tree_nodes tree) more) (omega arith) (λ h. refl) in
      let then_more : Walked → Replayed Walked = λ w. above program total proofs walk (whole.lacking w.tree) w.order (walk failed (rest_goal goal chosen) w.rest) in
      let second : IsWalkedOut tree found more (walk failed (rest_goal goal chosen) first.walked.rest).answer =
      trees_come rank tree seen (put_in_place picked []) kept (rest_goal goal chosen) failed first.walked.rest more found (dropped-only arity predicates seen literals kept goal alike picked parts) step.rest first.rest (omega arith) none in
      let inner : Out (whole.lacking sub tree) found more (then_more first.walked) =
      above-comes (whole.lacking sub tree) tree (whole.lacking first.walked.tree) (λ t same. (first.same, same)) found more first.walked.order (walk failed (rest_goal goal chosen) first.walked.rest) second in
      subst (λ a. IsWalkedOut (whole.lacking sub tree) found more a)
      (sym (came-unless (not (is_ground_atom atom')) number 4 (and_on (walk true (sub_goal goal chosen.chosen.line atom' []) below) then_more) (ap not (ground-too atom form step.ground))
      ∙ ap (λ a. (then_on (walk true (sub_goal goal chosen.chosen.line atom' []) below).tried a then_more).answer) first.came)) inner)

  -- and one that doesn't
  pub present-walks : (proof : Proof) (atom : Atom) → picked.chosen.form ≡ Neg atom → (found : List (List Tree)) → is_ground_atom atom ≡ true → RefutableBelow rank program (only picked.chosen.line atom) (proof ∷ []) → found ≡ []
      → (nodes more : List Node) → map bare nodes ≡ Present ∷ under_then (proof_nodes proof) more → length (proof_nodes proof) < fuel → Out (whole.present proof) found more (tree_at program total proofs walk failed goal (Some chosen) nodes)
  present-walks proof atom form found ground refuted none nodes more begins less =
      at-node (whole.present proof) found more nodes Present (under_then (proof_nodes proof) more) (Neg atom) form begins (λ below number rest. by_rank rank refuted below number rest)
    where
      atom' : Atom
      atom' = atom_under alike.to atom

      by_rank : (r : ℕ) → RefutableBelow r program (only picked.chosen.line atom) (proof ∷ []) → (below : List Node) (number : ℕ) → map bare below ≡ under_then (proof_nodes proof) more
          → Out (whole.present proof) found more (tree_of_kind program total proofs walk failed goal chosen chosen.chosen.line number below (presents atom'))
      by_rank zero is below number rest = absurd is
      by_rank (suc r) is below number rest =
          let come : IsCome (sub_goal goal chosen.chosen.line atom' []) [] [] is.0 (proof ∷ []) (proofs (sub_goal goal chosen.chosen.line atom' []) (below ∷ [])).answer =
          proofs_come r is.1.steps (goal_variables (only picked.chosen.line atom) []) (zip (only picked.chosen.line atom) (proof ∷ [])) [] is.0 (sub_goal goal chosen.chosen.line atom' []) [] (below ∷ [])
          (sub-alike arity predicates seen alike.to alike.back goal picked.chosen.line atom [] (tied-form (Neg atom) form) tt (form-right arity predicates seen literals kept goal alike picked parts (Neg atom) form))
          is.1.runs ((more, rest), tt) (let l : length (proof_nodes proof) < fuel = less in omega arith) in
          let then_more : Proven → Replayed Walked = λ p. gives (record { found = []; tree = whole.present (first_proof p.leaf); order = p.order; rest = behind 1 below }) in
          let inner : Out (whole.present proof) found more (then_more come.proven) =
          record {
            walked = record { found = []; tree = whole.present (first_proof come.proven.leaf); order = come.proven.order; rest = behind 1 below };
            came = refl;
            same = (come.to, come.back, first-same come.to come.back proof come.proven.leaf come.same);
            rest = behind-bare 1 below ∙ (ap (behind 1) rest ∙ behind-proof proof 0 more);
            varied = subst (λ f. AreFound f []) (sym none) tt;
          } in
          subst (λ a. IsWalkedOut (whole.present proof) found more a)
          (sym (came-unless (not (is_ground_atom atom')) number 4 (and_on (proofs (sub_goal goal chosen.chosen.line atom' []) (below ∷ [])) then_more) (ap not (ground-too atom form ground))
          ∙ ap (λ a. (then_on (proofs (sub_goal goal chosen.chosen.line atom' []) (below ∷ [])).tried a then_more).answer) come.came)) inner

  -- the parts of a gather
  gather-parts : (fold : FoldKind) (result value : Tree) (atom : Atom) → picked.chosen.form ≡ Gather fold result value atom → AllByRecursion Ties (occurrences result) × AllByRecursion Ties (all_occurrences (value ∷ [])) × AllByRecursion Ties (all_occurrences atom.args)
  gather-parts fold result value atom form =
      let tied : AllByRecursion Ties (all_occurrences (result ∷ value ∷ atom.args)) = tied-form (Gather fold result value atom) form in
      let rest : AllByRecursion Ties (all_occurrences (value ∷ atom.args)) = all-right Ties (occurrences result) (all_occurrences (value ∷ atom.args)) tied in (
        all-left Ties (occurrences result) (all_occurrences (value ∷ atom.args)) tied,
        all-both Ties (occurrences value) [] (all-left Ties (occurrences value) (all_occurrences atom.args) rest) tt,
        all-right Ties (occurrences value) (all_occurrences atom.args) rest,
      )

  -- a gather whose result fits
  pub gathered-walks : (sub tree : WholeTree) (fold : FoldKind) (result value : Tree) (atom : Atom) → picked.chosen.form ≡ Gather fold result value atom → (found : List (List Tree))
      → Gathers program (WholeBelow rank program) (RefutableBelow rank program) (IsWhole program (WholeBelow rank program) (RefutableBelow rank program) tree) seen picked fold result value atom kept sub found
      → (nodes more : List Node) → map bare nodes ≡ Gathered ∷ under_then (tree_nodes sub ++ tree_nodes tree) more → length (tree_nodes sub ++ tree_nodes tree) < fuel → (failed ≡ true → found ≡ [])
      → Out (whole.gathered sub tree) found more (tree_at program total proofs walk failed goal (Some chosen) nodes)
  gathered-walks sub tree fold result value atom form found step nodes more begins less none =
      let both : length (tree_nodes sub ++ tree_nodes tree) ≡ length (tree_nodes sub) + length (tree_nodes tree) = length-append (tree_nodes sub) (tree_nodes tree) in
      let less_ : length (tree_nodes sub ++ tree_nodes tree) < fuel = less in
      let tied : AllByRecursion Ties (occurrences result) × AllByRecursion Ties (all_occurrences (value ∷ [])) × AllByRecursion Ties (all_occurrences atom.args) = gather-parts fold result value atom form in
      let middle : List Node = under_then (tree_nodes tree) more in
      let inside : Goal = sub_goal goal chosen.chosen.line (atom_under alike.to atom) (replaced alike.to value ∷ []) in
      let past : (other : Bindings) × (by_fold chosen.chosen.line (replaced alike.to result) (fold_of fold (values_at step.cases)) ≡ goes_on other) × Past arity predicates seen literals kept goal alike picked parts step.unifier other =
      past-folded arity predicates seen literals kept goal alike picked parts chosen.chosen.line result tied.0 step.unifier (fold_of fold (values_at step.cases)) step.fits in
      at-node (whole.gathered sub tree) found more nodes Gathered (under_then (tree_nodes sub ++ tree_nodes tree) more) (Gather fold result value atom) form begins
      (λ below number rest.
      let first : IsWalkedOut sub step.cases middle (walk false inside below).answer =
      below-walks atom (value ∷ []) sub step.cases false below middle tied.2 tied.1 (form-right arity predicates seen literals kept goal alike picked parts (Gather fold result value atom) form) step.whole (rest ∙ two (tree_nodes sub) (tree_nodes tree) more) (omega arith) (λ h. absurd (true≢false (sym h))) in
      let then_more : Walked → Replayed Walked = λ w. computed_tree program total proofs walk failed goal chosen (whole.gathered w.tree) number w.rest w.order (by_fold chosen.chosen.line (replaced alike.to result) (fold_of fold (values_at w.found))) in
      let inner : Out (whole.gathered sub tree) found more (then_more first.walked) =
      past-walks (whole.gathered sub tree) tree (whole.gathered first.walked.tree) (λ t same. (first.same, same)) step.unifier past.0 past.2 found step.rest first.walked.rest more first.rest (omega arith) none number first.walked.order
      (by_fold chosen.chosen.line (replaced alike.to result) (fold_of fold (values_at first.walked.found)))
      (ap (by_fold chosen.chosen.line (replaced alike.to result)) (fold-same fold (values_at step.cases) (values_at first.walked.found) (found-values step.cases first.walked.found first.varied)) ∙ past.1) in
      subst (λ a. IsWalkedOut (whole.gathered sub tree) found more a)
      (sym (came-unless (not (is_covered (replaced alike.to value) (atom_under alike.to atom))) number 4 (and_on (walk false inside below) then_more) (ap not (covered-under alike.to value atom step.covered))
      ∙ ap (λ a. (then_on (walk false inside below).tried a then_more).answer) first.came)) inner)

  -- and one whose result doesn't
  pub ungathered-walks : (sub : WholeTree) (fold : FoldKind) (result value : Tree) (atom : Atom) → picked.chosen.form ≡ Gather fold result value atom → (found : List (List Tree))
      → Misses program (WholeBelow rank program) (RefutableBelow rank program) picked.chosen.line fold result value atom sub → found ≡ []
      → (nodes more : List Node) → map bare nodes ≡ Ungathered ∷ under_then (tree_nodes sub) more → length (tree_nodes sub) < fuel → Out (whole.ungathered sub) found more (tree_at program total proofs walk failed goal (Some chosen) nodes)
  ungathered-walks sub fold result value atom form found step none nodes more begins less =
      let tied : AllByRecursion Ties (occurrences result) × AllByRecursion Ties (all_occurrences (value ∷ [])) × AllByRecursion Ties (all_occurrences atom.args) = gather-parts fold result value atom form in
      let inside : Goal = sub_goal goal chosen.chosen.line (atom_under alike.to atom) (replaced alike.to value ∷ []) in
      at-node (whole.ungathered sub) found more nodes Ungathered (under_then (tree_nodes sub) more) (Gather fold result value atom) form begins
      (λ below number rest.
      let first : IsWalkedOut sub step.cases more (walk false inside below).answer =
      below-walks atom (value ∷ []) sub step.cases false below more tied.2 tied.1 (form-right arity predicates seen literals kept goal alike picked parts (Gather fold result value atom) form) step.whole rest less (λ h. absurd (true≢false (sym h))) in
      let then_more : Walked → Replayed Walked = λ w. dead_tree program total proofs walk (whole.ungathered w.tree) number w.rest w.order (by_fold chosen.chosen.line (replaced alike.to result) (fold_of fold (values_at w.found))) in
      let inner : Out (whole.ungathered sub) found more (then_more first.walked) =
      dead-comes (whole.ungathered sub) (whole.ungathered first.walked.tree) first.same found none first.walked.rest more first.rest number first.walked.order
      (by_fold chosen.chosen.line (replaced alike.to result) (fold_of fold (values_at first.walked.found)))
      (ap (by_fold chosen.chosen.line (replaced alike.to result)) (fold-same fold (values_at step.cases) (values_at first.walked.found) (found-values step.cases first.walked.found first.varied))
      ∙ never-folded arity predicates seen literals kept goal alike picked parts chosen.chosen.line result (fold_of fold (values_at step.cases)) step.misses) in
      subst (λ a. IsWalkedOut (whole.ungathered sub) found more a)
      (sym (came-unless (not (is_covered (replaced alike.to value) (atom_under alike.to atom))) number 4 (and_on (walk false inside below) then_more) (ap not (covered-under alike.to value atom step.covered))
      ∙ ap (λ a. (then_on (walk false inside below).tried a then_more).answer) first.came)) inner)

  -- an atom
  module _ (atom : Atom) (form : picked.chosen.form ≡ Pos atom) where
    abbrev atom' : Atom
    atom' = atom_under alike.to atom

    -- a head that unifies with the variant unifies with the atom
    unifies-back : (clause : Clause) (is : IsProgramClause arity predicates clause) (number : ℕ) → IsClauseOf program number clause → (other : Bindings) → head_solution goal.next clause atom' ≡ Some other → HeadUnifies clause atom
    unifies-back clause is number is_clause other solved =
        let solution : Resolves program [] atom' number clause (λ v. goal.next + v) other = resolves program [] goal.next number clause atom' other is_clause tt solved in
        let same_length : length (terms_under (named (λ v. goal.next + v)) clause.head.args) ≡ length atom'.args =
        length-map clause.head.args (replaced (named (λ v. goal.next + v))) ∙ (is.head.1 ∙ (ap arity solution.predicate ∙ sym (length-map atom.args (replaced alike.to) ∙ (form-right arity predicates seen literals kept goal alike picked parts (Pos atom) form).1.1))) in (
          solution.predicate,
          λ v. value_at other (goal.next + v),
          λ v. replaced (value_at other) (alike.to v),
          sym (terms-terms (named (λ v. goal.next + v)) (value_at other) clause.head.args)
              ∙ (zip-unified (value_at other) (terms_under (named (λ v. goal.next + v)) clause.head.args) atom'.args same_length solution.unifier_.unifies
              ∙ terms-terms alike.to (value_at other) atom.args),
        )

    solution-of : (number : ℕ) (clause : Clause) (names : ℕ → ℕ) (unifier : Bindings) → IsProgramClause arity predicates clause → Resolves program seen atom number clause names unifier → (other : Bindings) × (head_solution goal.next clause atom' ≡ Some other)
    solution-of number clause names unifier is step =
        has-solution goal.next clause atom' (tied-low seen alike.to alike.back goal.next atom.args (tied-form (Pos atom) form)) (unifies-too arity predicates seen literals kept goal alike picked parts program atom form number clause names unifier is step)

    same-clause : (number : ℕ) (clause it : Clause) → IsClauseOf program number clause → IsClauseOf program number it → clause ≡ it
    same-clause number clause it is also = let same : Some clause ≡ Some it = sym is.1 ∙ also.1 in cc same

    abbrev WholeEach : WholeBranches → ℕ → List (List Tree) → Type 0
    WholeEach branches from found = AreWhole program (WholeBelow rank program) (RefutableBelow rank program) branches seen picked atom kept from found

    abbrev Each : WholeBranches → List (List Tree) → List Child → Type 0
    Each branches found all =
        (branch_count branches ≡ length all) × ((nodes more : List Node) → map bare nodes ≡ under_then (branches_nodes branches) more → IsWalkedEach branches found more (branches_at program total proofs walk failed goal atom' all nodes).answer)

    abbrev Branch_ : WholeTree → ℕ → ℕ → List (List Tree) → Type 0
    Branch_ tree from number found = Branches program (WholeBelow rank program) (RefutableBelow rank program) (IsWhole program (WholeBelow rank program) (RefutableBelow rank program) tree) seen picked atom kept from number found

    -- a branch by this clause, and those after it
    branch-comes : (number : ℕ) (tree : WholeTree) (branches : WholeBranches) (clause : Clause) (is : IsProgramClause arity predicates clause) (names : ℕ → ℕ) (unifier other : Bindings) (step : Resolves program seen atom number clause names unifier) → head_solution goal.next clause atom' ≡ Some other
        → (here there : List (List Tree)) → IsWhole program (WholeBelow rank program) (RefutableBelow rank program) tree (seen_by seen clause names unifier) (literals_under (value_at unifier) (put_in_place picked (literals_under (named names) clause.body))) (terms_under (value_at unifier) kept) here
        → length (tree_nodes tree) < fuel → (failed ≡ true → here ≡ []) → (others : List Child) → Each branches there others → Each (branch number tree branches) (here ++ there) (child_by goal chosen number clause other ∷ others)
    branch-comes number tree branches clause is names unifier other step solved here there whole_ less none others rest = (ap suc rest.0, comes)
      where
        child : Child
        child = child_by goal chosen number clause other

        comes : (nodes more : List Node) → map bare nodes ≡ under_then (branches_nodes (branch number tree branches)) more → IsWalkedEach (branch number tree branches) (here ++ there) more (branches_at program total proofs walk failed goal atom' (child_by goal chosen number clause other ∷ others) nodes).answer
        comes nodes more begins =
            let at : Begun nodes (Branch_node number) (under_then (tree_nodes tree ++ branches_nodes branches) more) = begun nodes (Branch_node number) (under_then (tree_nodes tree ++ branches_nodes branches) more) begins in
            let place : ℕ = number_at program total (at.it ∷ at.below) in
            let then_more : List Node → Replayed WalkedEach = branches_at program total proofs walk failed goal atom' others in
            let first : IsWalkedOut tree here (under_then (branches_nodes branches) more) (walk failed (child_by goal chosen number clause other).goal at.below).answer =
            trees_come rank tree (seen_by seen clause names unifier) (literals_under (value_at unifier) (put_in_place picked (literals_under (named names) clause.body))) (terms_under (value_at unifier) kept) (child_by goal chosen number clause other).goal failed at.below (under_then (branches_nodes branches) more) here
            (forget arity predicates (seen_by seen clause names unifier) (literals_under (value_at unifier) (put_in_place picked (literals_under (named names) clause.body))) (goal.next + clause.vars) (literals_under (value_at other) (put_in_place chosen (literals_under (raised goal.next) clause.body)))
            (value_at unifier) (value_at other) (form_terms picked.chosen.form) (terms_under alike.to (form_terms picked.chosen.form)) kept goal.terms lengths
            (clause-step arity predicates seen literals kept goal alike picked parts program atom form number clause names unifier is step other solved))
            whole_ (at.rest ∙ two (tree_nodes tree) (branches_nodes branches) more) less none in
            let second : IsWalkedEach branches there more (then_more first.walked.rest).answer = rest.1 first.walked.rest more first.rest in
            let joined : Walked → Replayed WalkedEach = λ w. branch_before program total proofs walk number w (then_more w.rest) in
            let last : Replayed WalkedEach = joined first.walked in
            let result : WalkedEach = record { found = first.walked.found ++ second.walked.found; branches = whole.branch number first.walked.tree second.walked.branches; order = first.walked.order ++ second.walked.order; rest = second.walked.rest } in
            let inner : (joined first.walked).answer ≡ Ok result =
            came-and (then_more first.walked.rest)
            (λ others_. gives (record { found = first.walked.found ++ others_.found; branches = whole.branch number first.walked.tree others_.branches; order = first.walked.order ++ others_.order; rest = others_.rest }))
            second.walked result second.came refl in
            let no_fault : branch_fault program total proofs walk goal atom' number (child_by goal chosen number clause other) (clause_at program number) ≡ None =
            ap (branch_fault program total proofs walk goal atom' number (child_by goal chosen number clause other)) (clause-there program number clause step.clause_)
            ∙ (ap (branch_unifies program total proofs walk goal atom' number (child_by goal chosen number clause other)) solved
            ∙ ap (λ b. if b then None else Some 6) ((Decides-eqb number number).1 refl)) in
            record {
              walked = result;
              came = ap (λ ns. (branches_at program total proofs walk failed goal atom' (child_by goal chosen number clause other ∷ others) ns).answer) at.all
                  ∙ (ap (λ it. (branch_at program total proofs walk failed goal atom' (child_by goal chosen number clause other) place at.below then_more it).answer) (branch-node at.it number at.is)
                  ∙ (ap (λ o. (branch_on program total proofs walk failed number (child_by goal chosen number clause other) place at.below then_more o).answer) no_fault
                  ∙ came-and (walk failed (child_by goal chosen number clause other).goal at.below) joined first.walked result first.came inner));
              same = (refl, first.same, second.same);
              rest = second.rest;
              varied = found-join here there first.walked.found second.walked.found first.varied second.varied;
            }

    -- the branches by the clauses from a number on
    each-comes : (number : ℕ) (clauses : List Clause) → 1 ≤ number → number + length clauses ≡ suc (length program.clauses) → Numbered program number clauses → AllByRecursion (IsProgramClause arity predicates) clauses
        → (branches : WholeBranches) (found : List (List Tree)) → WholeEach branches number found → length (branches_nodes branches) < fuel → (failed ≡ true → found ≡ []) → Each branches found (children goal chosen atom' number clauses)
    each-comes number [] positive count numbered are no_branch found is less none =
        (refl, λ nodes more begins. record { walked = record { found = []; branches = whole.no_branch; order = []; rest = nodes }; came = refl; same = tt; rest = begins; varied = subst (λ f. AreFound f []) (sym is.1) tt })
    each-comes number [] positive count numbered are (branch n tree branches) found is less none =
        let in_order : number ≤ n = is.3.in_order in
        let there : n - 1 < length program.clauses = slice-below program.clauses (n - 1) is.3.clause is.3.resolves.clause_.1 in
        let all_of : number + 0 ≡ suc (length program.clauses) = count in
        absurd (omega arith)
    each-comes number (clause ∷ clauses) positive count numbered are branches found is less none =
        by (head_solution goal.next clause atom') refl
        (λ bs fs w l n. each-comes (suc number) clauses (omega arith) (let c : number + suc (length clauses) ≡ suc (length program.clauses) = count in omega arith) numbered-rest are.1 bs fs w l n)
        branches is less
      where
        numbered-rest : Numbered program (suc number) clauses
        numbered-rest c = numbered (suc c) ∙ ap (slice_get program.clauses) (let same : (number - 1) + suc c ≡ (suc number - 1) + c = (let p : 1 ≤ number = positive in omega arith) in same)

        is_clause : IsClauseOf program number clause
        is_clause = (positive, ap (slice_get program.clauses) (let same : number - 1 ≡ (number - 1) + 0 = omega arith in same) ∙ sym (numbered 0))

        by : (o : Option Bindings) → head_solution goal.next clause atom' ≡ o
            → ((bs : WholeBranches) (fs : List (List Tree)) → WholeEach bs (suc number) fs → length (branches_nodes bs) < fuel → (failed ≡ true → fs ≡ []) → Each bs fs (children goal chosen atom' (suc number) clauses))
            → (bs : WholeBranches) → WholeEach bs number found → length (branches_nodes bs) < fuel → Each bs found (cons_option (option_map (child_by goal chosen number clause) o) (children goal chosen atom' (suc number) clauses))
        by None unsolved onward no_branch w l = onward no_branch found ((λ n c from to is_c unifies. w.0 n c (omega arith) to is_c unifies), w.1) l none
        by None unsolved onward (branch n tree bs) w l =
            onward (branch n tree bs) found (
              w.0,
              w.1,
              w.2,
              record {
                in_order = differs (n == number) refl;
                others = λ k c from to is_c unifies. w.3.others k c (omega arith) to is_c unifies;
                clause = w.3.clause;
                names = w.3.names;
                unifier = w.3.unifier;
                resolves = w.3.resolves;
                tree = w.3.tree;
              },
              w.4,
            ) l none
          where
            differs : (b : Bool) → (n == number) ≡ b → suc number ≤ n
            differs true same =
                let equal : n ≡ number = (Decides-eqb n number).0 same in
                let it_is : w.3.clause ≡ clause = same-clause number w.3.clause clause (subst (λ k. IsClauseOf program k w.3.clause) equal w.3.resolves.clause_) is_clause in
                let solved : (other : Bindings) × (head_solution goal.next w.3.clause atom' ≡ Some other) = solution-of n w.3.clause w.3.names w.3.unifier (subst (IsProgramClause arity predicates) (sym it_is) are.0) w.3.resolves in
                let bad : None ≡ Some solved.0 = sym unsolved ∙ (ap (λ c. head_solution goal.next c atom') (sym it_is) ∙ solved.1) in
                absurd (cc bad)
            differs false same =
                let apart : n ≡ number → ⊥ = λ equal. true≢false (sym ((Decides-eqb n number).1 equal) ∙ same) in
                let order : number ≤ n = w.3.in_order in
                omega (arith, apart)
        by (Some other) solved onward no_branch w l =
            absurd (w.0 number clause (omega arith) (let c : number + suc (length clauses) ≡ suc (length program.clauses) = count in omega arith) is_clause (unifies-back clause are.0 number is_clause other solved))
        by (Some other) solved onward (branch n tree bs) w l = here (n == number) refl
          where
            here : (b : Bool) → (n == number) ≡ b → Each (branch n tree bs) found (child_by goal chosen number clause other ∷ children goal chosen atom' (suc number) clauses)
            here false same =
                let apart : n ≡ number → ⊥ = λ equal. true≢false (sym ((Decides-eqb n number).1 equal) ∙ same) in
                let order : number ≤ n = w.3.in_order in
                absurd (w.3.others number clause (omega arith) (omega (arith, apart)) is_clause (unifies-back clause are.0 number is_clause other solved))
            here true same =
                let equal : n ≡ number = (Decides-eqb n number).0 same in
                let it_is : w.3.clause ≡ clause = same-clause number w.3.clause clause (subst (λ k. IsClauseOf program k w.3.clause) equal w.3.resolves.clause_) is_clause in
                let split_none : failed ≡ true → (w.0 ≡ []) × (w.1 ≡ []) = λ h. nil-left w.0 w.1 (sym w.2 ∙ none h) in
                let sizes : length (tree_nodes tree ++ branches_nodes bs) ≡ length (tree_nodes tree) + length (branches_nodes bs) = length-append (tree_nodes tree) (branches_nodes bs) in
                let all_of : suc (length (tree_nodes tree ++ branches_nodes bs)) < fuel = l in
                let rest : Each bs w.1 (children goal chosen atom' (suc number) clauses) = onward bs w.1 (subst (λ k. WholeEach bs (suc k) w.1) equal w.4) (omega arith) (λ h. (split_none h).1) in
                let solved_ : head_solution goal.next w.3.clause atom' ≡ Some other = ap (λ c. head_solution goal.next c atom') it_is ∙ solved in
                let made : Each (branch n tree bs) (w.0 ++ w.1) (child_by goal chosen n w.3.clause other ∷ children goal chosen atom' (suc number) clauses) =
                branch-comes n tree bs w.3.clause (subst (IsProgramClause arity predicates) (sym it_is) are.0) w.3.names w.3.unifier other w.3.resolves solved_ w.0 w.1 w.3.tree (omega arith) (λ h. (split_none h).0) (children goal chosen atom' (suc number) clauses) rest in
                subst (λ f. Each (branch n tree bs) f (child_by goal chosen number clause other ∷ children goal chosen atom' (suc number) clauses)) (sym w.2)
                (subst (λ k. Each (branch n tree bs) (w.0 ++ w.1) (child_by goal chosen k clause other ∷ children goal chosen atom' (suc number) clauses)) equal
                (subst (λ c. Each (branch n tree bs) (w.0 ++ w.1) (child_by goal chosen n c other ∷ children goal chosen atom' (suc number) clauses)) it_is made))

    -- an atom's tree
    pub split-walks : (branches : WholeBranches) (found : List (List Tree)) → WholeEach branches 1 found → (nodes more : List Node) → map bare nodes ≡ Split (branch_count branches) ∷ under_then (branches_nodes branches) more → length (branches_nodes branches) < fuel → (failed ≡ true → found ≡ [])
        → Out (whole.split branches) found more (tree_at program total proofs walk failed goal (Some chosen) nodes)
    split-walks branches found is nodes more begins less none =
        at-node (whole.split branches) found more nodes (Split (branch_count branches)) (under_then (branches_nodes branches) more) (Pos atom) form begins
        (λ below number rest.
        let all : List Child = children goal chosen atom' 1 program.clauses in
        let each : Each branches found all = each-comes 1 program.clauses (omega arith) (omega arith) (λ c. ap (slice_get program.clauses) (let same : c ≡ (1 - 1) + c = omega arith in same)) valid branches found is less none in
        let walked_each : IsWalkedEach branches found more (branches_at program total proofs walk failed goal atom' all below).answer = each.1 below more rest in
        let result : Walked = record { found = walked_each.walked.found; tree = whole.split walked_each.walked.branches; order = walked_each.walked.order; rest = walked_each.walked.rest } in
        record {
          walked = result;
          came = came-unless (not (branch_count branches == length all)) number 6 (split_of program total proofs walk (branches_at program total proofs walk failed goal atom' all below)) (ap not ((Decides-eqb (branch_count branches) (length all)).1 each.0))
              ∙ came-and (branches_at program total proofs walk failed goal atom' all below) (λ each_. gives (record { found = each_.found; tree = whole.split each_.branches; order = each_.order; rest = each_.rest })) walked_each.walked result walked_each.came refl;
          same = walked_each.same;
          rest = walked_each.rest;
          varied = walked_each.varied;
        })
