-- The replay of a derivation that someone made, and its first fault: this project's profile. It unifies by the solution, and takes the steps that refutations and whole trees take, so it says which derivations are admitted.
use Rattle.std.specs.Prelude.{ℕ, zero, suc, ◌+◌, ◌-◌, ◌==◌, Bool, true, false, not, ◌&&◌, List, [], ◌∷◌, ◌++◌, length, take, drop, get_or, count_by, slice_get, Option, Some, None, Result, Ok, Err, if◌then◌else◌}
use Rattle.le_base.specs.declared.stop.FoldKind.{FoldKind}
use Rattle.le_base.specs.declared.stop.FoldKind.TheVariants.{Sum, Number, Greatest}
use Rattle.le_builtins.specs.Compute.{is_same}
use Rattle.le_terms.specs.Tree.{Tree}
use Rattle.le_terms.specs.declared.program.Atom.{Atom}
use Rattle.le_terms.specs.declared.program.Clause.{Clause}
use Rattle.le_terms.specs.declared.program.Form.{Form}
use Rattle.le_terms.specs.declared.program.Form.TheVariants.{Pos, Neg, Calc, Gather}
use Rattle.le_terms.specs.declared.program.Literal.{Literal}
use Rattle.le_terms.specs.declared.program.Program.{Program}
use Rattle.le_subst.specs.Unifiers.{Bindings}
use Rattle.le_proofs.specs.declared.node.Node.{Node}
use Rattle.le_proofs.specs.declared.node.Node.TheVariants.{Use, Compute, Absent, Gather as Gathering, Split, Branch, Computed, Lacking, Present, Gathered, Ungathered, Success, Dead}
use Rattle.le_proofs.specs.Goals.{Goal, Picked, Child, selected, child_by, rest_by, rest_goal, sub_goal, children, head_solution, is_ground_atom, root_of}
use Rattle.le_proofs.specs.Proofs.{WholeTree, WholeBranches, Step, Reason, Leaf, from_above, step_to, step_past, value_computed, failure_shown, cases_gathered}
use Rattle.le_proofs.specs.Proofs as whole
use Rattle.le_proofs.specs.SearchTree.{empty_leaf, first_proof}
use Rattle.le_proofs.specs.Search.{Outcome, goes_on, fails, ends, computing, by_fold, is_covered}
use Rattle.le_gather.specs.Folds.{fold_of}
use Rattle.le_proofs.specs.Derivations.{Certificate, parts_of, times, certificate_of}
use Rattle.le_proofs.specs.Lloyd.{values_at}

-- what is wrong with a derivation: a node's number, counted from 1, and why
pub record Fault : Type 0 where
  pub node : ℕ
  pub why : ℕ

-- what a part of the replay gives, or the first fault, and how many clauses were tried at the splits that it reached
pub record Replayed (X : Type 0) : Type 0 where
  pub tried : ℕ
  pub answer : Result X Fault

abbrev pub gives : {X : Type 0} → X → Replayed X
gives x = record { tried = 0; answer = Ok x }

abbrev pub faulty : {X : Type 0} → ℕ → ℕ → Replayed X
faulty node why = record { tried = 0; answer = Err (record { node = node; why = why }) }

abbrev pub then_on : {X Y : Type 0} → ℕ → Result X Fault → (X → Replayed Y) → Replayed Y
then_on tried (Ok x) more = record { tried = tried + (more x).tried; answer = (more x).answer }
then_on tried (Err fault) more = record { tried = tried; answer = Err fault }

abbrev pub and_on : {X Y : Type 0} → Replayed X → (X → Replayed Y) → Replayed Y
and_on first more = then_on first.tried first.answer more

abbrev pub unless : {X : Type 0} → Bool → ℕ → ℕ → Replayed X → Replayed X
unless true node why more = faulty node why
unless false node why more = more

-- the nodes after so many parts
abbrev pub behind : ℕ → List Node → List Node
behind zero nodes = nodes
behind (suc parts) [] = []
behind (suc parts) (node ∷ nodes) = behind (parts_of node + parts) nodes

-- where so many parts begin, one after another
abbrev pub beginnings : ℕ → List Node → List (List Node)
beginnings zero nodes = []
beginnings (suc parts) nodes = nodes ∷ beginnings parts (behind 1 nodes)

-- places with others in the place of one
abbrev pub put_places : ℕ → List (List Node) → List (List Node) → List (List Node)
put_places n new places = take n places ++ (new ++ drop (suc n) places)

-- the nodes from a place on
abbrev pub nodes_at : ℕ → List (List Node) → List Node
nodes_at n places = get_or places n []

-- what the replay of proofs gives: the leaf that the steps lead to, seen from the goal, with the proofs that the nodes should be, and the numbers of their nodes in the order of the steps
pub record Proven : Type 0 where
  pub leaf : Leaf
  pub order : List ℕ

-- what the replay of a tree gives: the terms at its success leaves, the tree that the nodes should be, the numbers of the nodes of proofs in it, and the nodes after it
pub record Walked : Type 0 where
  pub found : List (List Tree)
  pub tree : WholeTree
  pub order : List ℕ
  pub rest : List Node

-- and that of branches
pub record WalkedEach : Type 0 where
  pub found : List (List Tree)
  pub branches : WholeBranches
  pub order : List ℕ
  pub rest : List Node

-- the first that is selected; where none can be, the first
abbrev pub or_first : {X : Type 0} → List X → Option (Picked X) → Option (Picked X)
or_first [] found = None
or_first (x ∷ xs) (Some picked) = Some picked
or_first (x ∷ xs) None = Some (record { before = []; chosen = x; behind = xs })

-- a literal's form with the node that claims it, where its kind fits
pub data Meeting : Type 0 where
  of_atom : Atom → ℕ → ℕ → Meeting
  of_computed : Atom → Meeting
  of_negation : Atom → Meeting
  of_gather : FoldKind → Tree → Tree → Atom → Meeting
  of_none : Meeting

abbrev pub met : Form → Node → Meeting
met (Pos atom) (Use clause count shown) = of_atom atom clause count
met (Calc atom) (Compute shown) = of_computed atom
met (Neg atom) (Absent shown) = of_negation atom
met (Gather fold result value atom) (Gathering fold' result' value' atom') = of_gather fold result value atom
met form node = of_none

-- the same in a tree
pub data Kind : Type 0 where
  splits : Atom → ℕ → Kind
  computes : Atom → Kind
  dies : Atom → Kind
  lacks : Atom → Kind
  presents : Atom → Kind
  gathers : FoldKind → Tree → Tree → Atom → Kind
  misses : FoldKind → Tree → Tree → Atom → Kind
  unfit : Kind

abbrev pub kind_of : Form → Node → Kind
kind_of (Pos atom) (Split count) = splits atom count
kind_of (Calc atom) Computed = computes atom
kind_of (Calc atom) Dead = dies atom
kind_of (Neg atom) Lacking = lacks atom
kind_of (Neg atom) Present = presents atom
kind_of (Gather fold result value atom) Gathered = gathers fold result value atom
kind_of (Gather fold result value atom) Ungathered = misses fold result value atom
kind_of form node = unfit

-- a clause's number from 1 as a place
abbrev pub clause_at : Program → ℕ → Option Clause
clause_at program zero = None
clause_at program (suc place) = slice_get program.clauses place

-- how many clauses a predicate has
abbrev pub clauses_of : Program → ℕ → ℕ
clauses_of program pred = count_by (λ clause. clause.head.pred == pred) program.clauses

module _ (program : Program) (total : ℕ) where
  -- the number of the node that some nodes begin with; one more than all where there is none
  abbrev pub number_at : List Node → ℕ
  number_at nodes = suc total - length nodes

  module _ (proofs : Goal → List (List Node) → Replayed Proven) (walk : Bool → Goal → List Node → Replayed Walked) where
    -- the rest of a proof after a step
    abbrev pub onward : ℕ → Step → List ℕ → Goal → List (List Node) → Replayed Proven
    onward number step before goal places = and_on (proofs goal places) (λ rest. gives (record { leaf = from_above step rest.leaf; order = number ∷ (before ++ rest.order) }))

    abbrev pub use_clause : Goal → List (List Node) → Picked Literal → Atom → ℕ → ℕ → List Node → Clause → Option Bindings → Replayed Proven
    use_clause goal places picked atom number clause below it None = faulty number 2
    use_clause goal places picked atom number clause below it (Some unifier) =
        let child : Child = child_by goal picked clause it unifier in
        onward number (step_to (length picked.before) atom child) [] child.goal (put_places (length picked.before) (beginnings child.count below) places)

    abbrev pub use_one : Goal → List (List Node) → Picked Literal → Atom → ℕ → ℕ → ℕ → List Node → Option Clause → Replayed Proven
    use_one goal places picked atom number clause count below None = faulty number 1
    use_one goal places picked atom number clause count below (Some it) = unless (not (count == length it.body)) number 3 (use_clause goal places picked atom number clause below it (head_solution goal.next it atom))

    abbrev pub computed_on : Goal → List (List Node) → Picked Literal → Reason → List ℕ → ℕ → Outcome → Replayed Proven
    computed_on goal places picked reason before number (goes_on unifier) = onward number (step_past picked unifier reason) before (rest_by goal picked unifier) (put_places (length picked.before) [] places)
    computed_on goal places picked reason before number fails = faulty number 7
    computed_on goal places picked reason before number (ends e) = faulty number 7

    abbrev pub prove : Goal → List (List Node) → Picked Literal → ℕ → ℕ → List Node → Meeting → Replayed Proven
    prove goal places picked line number below (of_atom atom clause count) = use_one goal places picked atom number clause count below (clause_at program clause)
    prove goal places picked line number below (of_computed atom) = computed_on goal places picked (value_computed atom) [] number (computing line atom)
    prove goal places picked line number below (of_negation atom) =
        unless (not (is_ground_atom atom)) number 4 (and_on (walk true (sub_goal goal line atom []) below)
        (λ sub. onward number (step_past picked [] (failure_shown atom sub.tree)) sub.order (rest_goal goal picked) (put_places (length picked.before) [] places)))
    prove goal places picked line number below (of_gather fold result value atom) =
        unless (not (is_covered value atom)) number 4 (and_on (walk false (sub_goal goal line atom (value ∷ [])) below)
        (λ sub. computed_on goal places picked (cases_gathered fold result value atom sub.tree) sub.order number (by_fold line result (fold_of fold (values_at sub.found)))))
    prove goal places picked line number below of_none = faulty number 3

    -- the literal that is selected, with the nodes from its proof on
    abbrev pub proof_nodes_at : Goal → List (List Node) → Picked Literal → List Node → Replayed Proven
    proof_nodes_at goal places picked [] = faulty (number_at []) 9
    proof_nodes_at goal places picked (node ∷ below) = prove goal places picked picked.chosen.line (number_at (node ∷ below)) below (met picked.chosen.form node)

    abbrev pub proofs_at : Goal → List (List Node) → Option (Picked Literal) → Replayed Proven
    proofs_at goal places None = gives (record { leaf = empty_leaf goal.terms 0; order = [] })
    proofs_at goal places (Some picked) = proof_nodes_at goal places picked (nodes_at (length picked.before) places)

    -- a tree once the tree of the rest is walked, after the numbers of what came before
    abbrev pub above : (WholeTree → WholeTree) → List ℕ → Replayed Walked → Replayed Walked
    above make before more = and_on more (λ rest. gives (record { found = rest.found; tree = make rest.tree; order = before ++ rest.order; rest = rest.rest }))

    -- a branch, and those after it
    abbrev pub branch_before : ℕ → Walked → Replayed WalkedEach → Replayed WalkedEach
    branch_before clause first more = and_on more (λ others. gives (record {
      found = first.found ++ others.found;
      branches = whole.branch clause first.tree others.branches;
      order = first.order ++ others.order;
      rest = others.rest;
    }))

    -- a branch that should be this child
    abbrev pub branch_unifies : Goal → Atom → ℕ → Child → Option Bindings → Option ℕ
    branch_unifies goal atom clause child None = Some 2
    branch_unifies goal atom clause child (Some unifier) = if clause == child.clause then None else Some 6

    abbrev pub branch_fault : Goal → Atom → ℕ → Child → Option Clause → Option ℕ
    branch_fault goal atom clause child None = Some 1
    branch_fault goal atom clause child (Some it) = branch_unifies goal atom clause child (head_solution goal.next it atom)

    abbrev pub branch_on : Bool → ℕ → Child → ℕ → List Node → (List Node → Replayed WalkedEach) → Option ℕ → Replayed WalkedEach
    branch_on failed clause child number below more (Some why) = faulty number why
    branch_on failed clause child number below more None = and_on (walk failed child.goal below) (λ first. branch_before clause first (more first.rest))

    abbrev pub branch_at : Bool → Goal → Atom → Child → ℕ → List Node → (List Node → Replayed WalkedEach) → Node → Replayed WalkedEach
    branch_at failed goal atom child number below more (Branch clause) = branch_on failed clause child number below more (branch_fault goal atom clause child (clause_at program clause))
    branch_at failed goal atom child number below more node = faulty number 3

    abbrev pub branches_at : Bool → Goal → Atom → List Child → List Node → Replayed WalkedEach
    branches_at failed goal atom [] nodes = gives (record { found = []; branches = whole.no_branch; order = []; rest = nodes })
    branches_at failed goal atom (child ∷ others) [] = faulty (number_at []) 9
    branches_at failed goal atom (child ∷ others) (node ∷ below) = branch_at failed goal atom child (number_at (node ∷ below)) below (branches_at failed goal atom others) node

    abbrev pub counted : ℕ → Replayed Walked → Replayed Walked
    counted clauses more = record { tried = clauses + more.tried; answer = more.answer }

    abbrev pub split_of : Replayed WalkedEach → Replayed Walked
    split_of each = and_on each (λ all. gives (record { found = all.found; tree = whole.split all.branches; order = all.order; rest = all.rest }))

    abbrev pub computed_tree : Bool → Goal → Picked Literal → (WholeTree → WholeTree) → ℕ → List Node → List ℕ → Outcome → Replayed Walked
    computed_tree failed goal picked make number below before (goes_on unifier) = above make before (walk failed (rest_by goal picked unifier) below)
    computed_tree failed goal picked make number below before fails = faulty number 7
    computed_tree failed goal picked make number below before (ends e) = faulty number 7

    abbrev pub dead_tree : WholeTree → ℕ → List Node → List ℕ → Outcome → Replayed Walked
    dead_tree tree number below before (goes_on unifier) = faulty number 7
    dead_tree tree number below before fails = gives (record { found = []; tree = tree; order = before; rest = below })
    dead_tree tree number below before (ends e) = faulty number 7

    abbrev pub tree_of_kind : Bool → Goal → Picked Literal → ℕ → ℕ → List Node → Kind → Replayed Walked
    tree_of_kind failed goal picked line number below (splits atom count) =
        let all : List Child = children goal picked atom 1 program.clauses in
        counted (clauses_of program atom.pred) (unless (not (count == length all)) number 6 (split_of (branches_at failed goal atom all below)))
    tree_of_kind failed goal picked line number below (computes atom) = computed_tree failed goal picked whole.computed number below [] (computing line atom)
    tree_of_kind failed goal picked line number below (dies atom) = dead_tree whole.dead number below [] (computing line atom)
    tree_of_kind failed goal picked line number below (lacks atom) =
        unless (not (is_ground_atom atom)) number 4 (and_on (walk true (sub_goal goal line atom []) below) (λ sub. above (whole.lacking sub.tree) sub.order (walk failed (rest_goal goal picked) sub.rest)))
    tree_of_kind failed goal picked line number below (presents atom) =
        unless (not (is_ground_atom atom)) number 4 (and_on (proofs (sub_goal goal line atom []) (below ∷ []))
        (λ proof. gives (record { found = []; tree = whole.present (first_proof proof.leaf); order = proof.order; rest = behind 1 below })))
    tree_of_kind failed goal picked line number below (gathers fold result value atom) =
        unless (not (is_covered value atom)) number 4 (and_on (walk false (sub_goal goal line atom (value ∷ [])) below)
        (λ sub. computed_tree failed goal picked (whole.gathered sub.tree) number sub.rest sub.order (by_fold line result (fold_of fold (values_at sub.found)))))
    tree_of_kind failed goal picked line number below (misses fold result value atom) =
        unless (not (is_covered value atom)) number 4 (and_on (walk false (sub_goal goal line atom (value ∷ [])) below)
        (λ sub. dead_tree (whole.ungathered sub.tree) number sub.rest sub.order (by_fold line result (fold_of fold (values_at sub.found)))))
    tree_of_kind failed goal picked line number below unfit = faulty number 3

    -- the tree of a goal without literals
    abbrev pub empty_tree : Bool → List Tree → ℕ → List Node → Node → Replayed Walked
    empty_tree failed terms number below Success = unless failed number 5 (gives (record { found = terms ∷ []; tree = whole.success; order = []; rest = below }))
    empty_tree failed terms number below node = faulty number 3

    abbrev pub tree_at : Bool → Goal → Option (Picked Literal) → List Node → Replayed Walked
    tree_at failed goal picked [] = faulty (number_at []) 9
    tree_at failed goal None (node ∷ below) = empty_tree failed goal.terms (number_at (node ∷ below)) below node
    tree_at failed goal (Some picked) (node ∷ below) = tree_of_kind failed goal picked picked.chosen.line (number_at (node ∷ below)) below (kind_of picked.chosen.form node)

  abbrev mutual
    -- the replay of a goal's proofs, which begin at these places, by at most so many nodes one below the other
    pub proofs_within : ℕ → Goal → List (List Node) → Replayed Proven
    proofs_within zero goal places = faulty (number_at []) 9
    proofs_within (suc fuel) goal places = proofs_at (proofs_within fuel) (tree_within fuel) goal places (or_first goal.literals (selected program.version goal.literals))

    -- the replay of a goal's tree, which may not have a success leaf where it is that of a negation's atom
    pub tree_within : ℕ → Bool → Goal → List Node → Replayed Walked
    tree_within zero failed goal nodes = faulty (number_at []) 9
    tree_within (suc fuel) failed goal nodes = tree_at (proofs_within fuel) (tree_within fuel) failed goal (or_first goal.literals (selected program.version goal.literals)) nodes

-- what may stand at a place of a derivation
pub data Role : Type 0 where
  proof : Role
  tree : Role
  branch : Role

abbrev pub role_of : Node → Role
role_of (Use clause count atom) = proof
role_of (Compute atom) = proof
role_of (Absent atom) = proof
role_of (Gathering fold result value atom) = proof
role_of (Branch clause) = branch
role_of node = tree

abbrev pub is_role : Role → Role → Bool
is_role proof proof = true
is_role tree tree = true
is_role branch branch = true
is_role role other = false

-- the roles of a node's parts
abbrev pub part_role : Node → Role
part_role (Use clause count atom) = proof
part_role (Split count) = branch
part_role Present = proof
part_role node = tree

-- the first fault of a derivation's cut by the counts of its nodes alone, where these roles are still to come
abbrev pub cut_fault : ℕ → List Role → List Node → Option Fault
cut_fault number [] [] = None
cut_fault number [] (node ∷ nodes) = Some (record { node = number; why = 10 })
cut_fault number (role ∷ roles) [] = Some (record { node = number; why = 9 })
cut_fault number (role ∷ roles) (node ∷ nodes) =
    if is_role role (role_of node) then cut_fault (suc number) (times (parts_of node) (part_role node) roles) nodes else Some (record { node = number; why = 3 })

-- what the replay says of a derivation
pub data Verdict : Type 0 where
  accepted : List Tree → Verdict
  refused : ℕ → ℕ → Verdict

-- whether terms are the same, one by one
abbrev pub same_terms : List Tree → List Tree → Bool
same_terms [] [] = true
same_terms (x ∷ xs) (y ∷ ys) = is_same x y && same_terms xs ys
same_terms xs ys = false

abbrev pub same_atom : Atom → Atom → Bool
same_atom a b = a.pred == b.pred && same_terms a.args b.args

abbrev pub same_fold : FoldKind → FoldKind → Bool
same_fold Sum Sum = true
same_fold Number Number = true
same_fold Greatest Greatest = true
same_fold a b = false

-- whether two nodes are the same
abbrev pub same_node : Node → Node → Bool
same_node (Use clause count a) (Use clause' count' b) = clause == clause' && (count == count' && same_atom a b)
same_node (Compute a) (Compute b) = same_atom a b
same_node (Absent a) (Absent b) = same_atom a b
same_node (Gathering fold result value a) (Gathering fold' result' value' b) = same_fold fold fold' && (same_terms (result ∷ value ∷ []) (result' ∷ value' ∷ []) && same_atom a b)
same_node (Split m) (Split n) = m == n
same_node (Branch m) (Branch n) = m == n
same_node Computed Computed = true
same_node Lacking Lacking = true
same_node Present Present = true
same_node Gathered Gathered = true
same_node Ungathered Ungathered = true
same_node Success Success = true
same_node Dead Dead = true
same_node a b = false

-- whether nodes are the same, one by one
abbrev pub same_nodes : List Node → List Node → Bool
same_nodes [] [] = true
same_nodes (a ∷ as_) (b ∷ bs) = same_node a b && same_nodes as_ bs
same_nodes as_ bs = false

abbrev pub same_at : Option Node → Option Node → Bool
same_at (Some a) (Some b) = same_node a b
same_at a b = true

abbrev pub node_number : ℕ → List Node → Option Node
node_number zero nodes = None
node_number (suc place) nodes = slice_get nodes place

-- the first in the order of the replay that isn't the node that it should be
abbrev pub first_other : List Node → List Node → List ℕ → Option Fault
first_other expected nodes [] = None
first_other expected nodes (n ∷ order) = if same_at (node_number n expected) (node_number n nodes) then first_other expected nodes order else Some (record { node = n; why = 8 })

-- the verdict by whether all nodes are those that they should be
abbrev pub other_at : Option Fault → Verdict
other_at None = refused 0 8
other_at (Some fault) = refused fault.node fault.why

abbrev pub verdict_by : Bool → List Tree → Option Fault → Verdict
verdict_by true values other = accepted values
verdict_by false values other = other_at other

-- the verdict once the replay has come through: nodes after the proofs, and then the first literal that isn't the one that it should be
abbrev pub compared : List Node → List Node → Proven → Verdict
compared nodes [] proven =
    let should : Certificate = certificate_of proven.leaf in
    verdict_by (same_nodes should.nodes nodes) should.values (first_other should.nodes nodes proven.order)
compared nodes (node ∷ rest) proven = refused (suc (length nodes) - length (node ∷ rest)) 10

abbrev pub settled : Program → List Node → Result Proven Fault → Verdict
settled program nodes (Ok proven) = compared nodes (behind (length program.query) nodes) proven
settled program nodes (Err fault) = refused fault.node fault.why

-- the replay of a derivation of a program's query
abbrev pub replay_of : Program → List Node → Replayed Proven
replay_of program nodes = proofs_within program (length nodes) (suc (length nodes)) (root_of program) (beginnings (length program.query) nodes)

-- in version 2 the derivation is cut first
abbrev pub cut_of : Program → List Node → Option Fault
cut_of program nodes = if program.version == 2 then cut_fault 1 (times (length program.query) proof []) nodes else None

abbrev pub after_cut : Program → List Node → Option Fault → Verdict
after_cut program nodes None = settled program nodes (replay_of program nodes).answer
after_cut program nodes (Some fault) = refused fault.node fault.why

-- what `check` answers
unfoldable pub verdict_of : Program → List Node → Verdict
verdict_of program nodes = after_cut program nodes (cut_of program nodes)

-- how many unifications it may take: one for each node, and for each split that the replay reaches one for each clause of its predicate
abbrev pub steps_of : Program → List Node → ℕ
steps_of program nodes = length nodes + (replay_of program nodes).tried
