-- What a replay's branches give, one after the other.
use Rattle.std.proofs.Common.{◌≡◌, ◌≢◌, ℕ, suc, ◌+◌, ◌-◌, Bool, List, [], ◌∷◌, ◌++◌, length, map, reverse, not, Option, Some, None, if◌then◌else◌, refl, sym, ap, ap₂, subst, ◌∙◌, append-nil, append_assoc, length-append, arith}
use Rattle.std.specs.Prelude.{Result, Ok, Err, slice_get, option_map}
use Rattle.std.specs.List.{AllByRecursion, cons_option}
use Rattle.std.proofs.lemmas.Bool.{eq-eqb, ne_eqb}
use Rattle.le_terms.specs.Tree.{Tree}
use Rattle.le_terms.specs.declared.program.Atom.{Atom}
use Rattle.le_terms.specs.declared.program.Clause.{Clause}
use Rattle.le_terms.specs.declared.program.Literal.{Literal}
use Rattle.le_terms.specs.declared.program.Program.{Program}
use Rattle.le_subst.specs.Unifiers.{Bindings}
use Rattle.le_proofs.specs.declared.node.Node.{Node}
use Rattle.le_proofs.specs.declared.node.Node.TheVariants as node
use Rattle.le_proofs.specs.Goals.{Goal, Child, children, child_by, head_solution, resolvent_by}
use Rattle.le_proofs.specs.Proofs as whole_
use Rattle.le_proofs.specs.Derivations.{tree_nodes, branches_nodes}
use Rattle.le_proofs.specs.Lloyd.{values_at}
use Rattle.le_proofs.specs.Replay.{Replayed, Fault, Proven, Walked, WalkedEach, gives, faulty, then_on, and_on, unless, split_of, branch_at, branch_on, branch_fault, branch_unifies, clause_at, counted, proofs_within, tree_within}
use Rattle.le_check.specs.declared.levels.Frame.{Frame}
use Rattle.le_check.specs.declared.levels.Frame.TheVariants.{Split}
use Rattle.le_check.specs.declared.levels.SplitFrame.{SplitFrame}
use Rattle.le_check.specs.Goals.{goal_of, placed}
use Rattle.le_check.specs.Left.{NextBranch, TreeOn, BranchesOn, TreeDone, IsChild, tree_below, branches_below, split_below}
use Rattle.le_check.proofs.Resuming.{and-on-on, and-on-same, and-on-gives, newest}

-- clauses that were counted
counted-on : {X : Type 0} (c : ℕ) (tried : ℕ) (answer : Result X Fault) (more : X → Replayed Proven) → (then_on (c + tried) answer more).tried ≡ c + (then_on tried answer more).tried
counted-on c tried (Ok x) more = omega arith
counted-on c tried (Err fault) more = refl

counted-answer : {X : Type 0} (c : ℕ) (tried : ℕ) (answer : Result X Fault) (more : X → Replayed Proven) → (then_on (c + tried) answer more).answer ≡ (then_on tried answer more).answer
counted-answer c tried (Ok x) more = refl
counted-answer c tried (Err fault) more = refl

pub uncounted : (program : Program) (nodes : List Node) (frames : List Frame) (log : List Node) (found : List Tree) (order : List ℕ) (whole : Replayed Proven) (clauses : ℕ) (x : Replayed Walked) (proofs : Goal → List (List Node) → Replayed Proven) (walk : Bool → Goal → List Node → Replayed Walked)
    → TreeOn (TreeDone program nodes frames) log found order (counted program (length nodes) proofs walk clauses x) whole
    → (rest : Replayed Proven) × (whole.tried ≡ clauses + rest.tried) × (whole.answer ≡ rest.answer) × TreeOn (TreeDone program nodes frames) log found order x rest
uncounted program nodes frames log found order whole clauses x proofs walk (more, done, eq) =
    (and_on x more, ap (λ (r : Replayed Proven). r.tried) eq ∙ counted-on clauses x.tried x.answer more, ap (λ (r : Replayed Proven). r.answer) eq ∙ counted-answer clauses x.tried x.answer more, (more, done, refl))

-- an item after others
get-behind : {X : Type 0} (front : List X) (x : X) (xs : List X) → slice_get (front ++ x ∷ xs) (length front) ≡ Some x
get-behind [] x xs = refl
get-behind (y ∷ front) x xs = get-behind front x xs

-- the children of a goal are resolvents by the clauses of their numbers
some-same : {X : Type 0} (x y : X) → Some x ≡ Some y → x ≡ y
some-same x y h = cc h

children-all : (program : Program) (goal : Goal) (place : ℕ) (literal : Literal) (atom : Atom) (front clauses : List Clause) → front ++ clauses ≡ program.clauses
    → AllByRecursion (IsChild program goal place atom) (children goal (placed goal.literals place literal) atom (suc (length front)) clauses)
children-all program goal place literal atom front [] all = tt
children-all program goal place literal atom front (clause ∷ clauses) all =
    by (head_solution goal.next clause atom) refl
    (subst (λ n. AllByRecursion (IsChild program goal place atom) (children goal (placed goal.literals place literal) atom (suc n) clauses)) longer
    (children-all program goal place literal atom (front ++ clause ∷ []) clauses (append_assoc front (clause ∷ []) clauses ∙ all)))
  where
    longer : length (front ++ clause ∷ []) ≡ suc (length front)
    longer = let l : length (front ++ clause ∷ []) ≡ length front + length (clause ∷ []) = length-append front (clause ∷ []) in omega (arith, l)

    here : slice_get program.clauses (length front) ≡ Some clause
    here = ap (λ cs. slice_get cs (length front)) (sym all) ∙ get-behind front clause clauses

    by : (solution : Option Bindings) → head_solution goal.next clause atom ≡ solution → AllByRecursion (IsChild program goal place atom) (children goal (placed goal.literals place literal) atom (suc (suc (length front))) clauses)
        → AllByRecursion (IsChild program goal place atom) (cons_option (option_map (child_by goal (placed goal.literals place literal) (suc (length front)) clause) solution) (children goal (placed goal.literals place literal) atom (suc (suc (length front))) clauses))
    by None same rest = rest
    by (Some unifier) same rest = (
      (λ other it by_ found solves.
          let one : clause ≡ it = some-same clause it (sym here ∙ found) in
          let two : unifier ≡ by_ = some-same unifier by_ (sym same ∙ (ap (λ c. head_solution goal.next c atom) one ∙ solves)) in
          ap₂ (λ c u. resolvent_by goal (placed goal.literals place other) c u) one two),
      rest,
    )

-- an atom in a tree leaves its branches open
pub split-opens : (program : Program) (nodes : List Node) (frames : List Frame) (log more_ : List Node) (found others : List Tree) (order : List ℕ) (whole : Replayed Proven) (literal : Literal) (number count : ℕ) (below : List Node) (f : SplitFrame)
    → count ≡ length (children (goal_of f.walk.goal) (placed f.walk.goal.literals.items f.place literal) f.atom 1 program.clauses)
    → map (λ (child : Child). child.clause) (children (goal_of f.walk.goal) (placed f.walk.goal.literals.items f.place literal) f.atom 1 program.clauses) ≡ reverse f.left.items
    → more_ ≡ log ++ node.Split count ∷ [] → others ≡ found
    → TreeOn (TreeDone program nodes frames) log found order (split_below program nodes f.walk.fuel f.walk.failed (goal_of f.walk.goal) (placed f.walk.goal.literals.items f.place literal) number below f.atom count) whole
    → TreeDone program nodes (Split f ∷ frames) more_ others order below whole
split-opens program nodes frames log more_ found others order whole literal number count below f counts left log-is found-is on =
    subst (λ l. TreeDone program nodes (Split f ∷ frames) l others order below whole) (sym log-is)
    (subst (λ fs. TreeDone program nodes (Split f ∷ frames) (log ++ node.Split count ∷ []) fs order below whole) (sym found-is)
    (opens (subst (λ b. TreeOn (TreeDone program nodes frames) log found order (unless (not b) number 6 (split_of program (length nodes) (proofs_within program (length nodes) f.walk.fuel) (tree_within program (length nodes) f.walk.fuel) each)) whole) (eq-eqb count (length all) counts) on)))
  where
    all : List Child
    all = children (goal_of f.walk.goal) (placed f.walk.goal.literals.items f.place literal) f.atom 1 program.clauses

    each : Replayed WalkedEach
    each = branches_below program nodes f.walk.fuel f.walk.failed (goal_of f.walk.goal) f.atom all below

    up : WalkedEach → Walked
    up e = record { found = e.found; tree = whole_.split e.branches; order = e.order; rest = e.rest }

    opens : TreeOn (TreeDone program nodes frames) log found order (split_of program (length nodes) (proofs_within program (length nodes) f.walk.fuel) (tree_within program (length nodes) f.walk.fuel) each) whole → TreeDone program nodes (Split f ∷ frames) (log ++ node.Split count ∷ []) found order below whole
    opens (more, done, eq) = (
      all,
      left,
      children-all program (goal_of f.walk.goal) f.place literal f.atom [] program.clauses refl,
      (
        (λ e. more (up e)),
        (λ e many. subst (λ l. TreeDone program nodes frames l (found ++ values_at e.found) (order ++ e.order) e.rest (more (up e)))
            (ap (λ n. log ++ node.Split n ∷ branches_nodes e.branches) (many ∙ sym counts) ∙ sym (append_assoc log (node.Split count ∷ []) (branches_nodes e.branches))) (done (up e))),
        eq ∙ (and-on-on each (λ e. gives (up e)) more ∙ and-on-same each (λ e. and_on (gives (up e)) more) (λ e. more (up e)) (λ e. and-on-gives (up e) more)),
      ),
    )

-- values of leaves, one list after another
pub values-append : (xs ys : List (List Tree)) → values_at (xs ++ ys) ≡ values_at xs ++ values_at ys
values-append [] ys = refl
values-append (x ∷ xs) ys = ap (λ vs. values_at (x ∷ []) ++ vs) (values-append xs ys)

-- how many things a list's images are
pub images-length : {X Y : Type 0} (f : X → Y) (xs : List X) → length (map f xs) ≡ length xs
images-length f [] = refl
images-length f (x ∷ xs) = ap suc (images-length f xs)

-- the branches are done
pub branches-done : (program : Program) (nodes : List Node) (frames : List Frame) (log : List Node) (found : List Tree) (order : List ℕ) (rest : List Node) (whole : Replayed Proven) (f : SplitFrame) → f.left.items ≡ []
    → TreeDone program nodes (Split f ∷ frames) log found order rest whole → TreeDone program nodes frames log found order rest whole
branches-done program nodes frames log found order rest whole f none (others, left, all, on) = by others (left ∙ ap reverse none) on
  where
    by : (cs : List Child) → map (λ (child : Child). child.clause) cs ≡ [] → BranchesOn (TreeDone program nodes frames) log found order (length cs) (branches_below program nodes f.walk.fuel f.walk.failed (goal_of f.walk.goal) f.atom cs rest) whole → TreeDone program nodes frames log found order rest whole
    by [] none_ (more, done, eq) =
        let w : WalkedEach = record { found = []; branches = whole_.no_branch; order = []; rest = rest } in
        subst (λ l. TreeDone program nodes frames l found order rest whole) (append-nil log)
        (subst (λ fs. TreeDone program nodes frames (log ++ []) fs order rest whole) (append-nil found)
        (subst (λ o. TreeDone program nodes frames (log ++ []) (found ++ []) o rest whole) (append-nil order)
        (subst (λ r. TreeDone program nodes frames (log ++ []) (found ++ []) (order ++ []) rest r) (sym (eq ∙ and-on-gives w more)) (done w refl))))
    by (c ∷ cs) none_ on_ = absurd (cc none_)

pub branch-goes : (program : Program) (nodes : List Node) (frames : List Frame) (log : List Node) (found : List Tree) (order : List ℕ) (whole : Replayed Proven) (f : SplitFrame) (number : ℕ) (below : List Node) (clause due : ℕ) (it : Clause) (unifier : Bindings) (literal : Literal) (goal : Goal)
    → clause_at program clause ≡ Some it → head_solution f.walk.goal.next it f.atom ≡ Some unifier → clause ≡ due → goal ≡ resolvent_by (goal_of f.walk.goal) (placed f.walk.goal.literals.items f.place literal) it unifier
    → NextBranch program nodes frames log found order whole f number below clause due (reverse f.left.items)
    → TreeOn (TreeDone program nodes (Split f ∷ frames)) (log ++ node.Branch clause ∷ []) found order (tree_below program nodes f.walk.fuel f.walk.failed goal below) whole
branch-goes program nodes frames log found order whole f number below clause due it unifier literal goal found_ solves due-is goal-by next =
    opens next.on_
  where
    fault : Option Clause → Option ℕ
    fault o = branch_fault program (length nodes) (proofs_within program (length nodes) f.walk.fuel) (tree_within program (length nodes) f.walk.fuel) (goal_of f.walk.goal) f.atom clause next.child o

    same : clause ≡ next.child.clause
    same = due-is ∙ sym next.due_

    none : fault (clause_at program clause) ≡ None
    none = ap fault found_ ∙ (ap (λ s. branch_unifies program (length nodes) (proofs_within program (length nodes) f.walk.fuel) (tree_within program (length nodes) f.walk.fuel) (goal_of f.walk.goal) f.atom clause next.child s) solves
        ∙ ap (λ b. if b then None else Some 6) (eq-eqb clause next.child.clause same))

    goal-same : goal ≡ next.child.goal
    goal-same = goal-by ∙ sym (next.child_ literal it unifier (ap (clause_at program) (sym same) ∙ found_) solves)

    up : Walked → WalkedEach → WalkedEach
    up first e = record { found = first.found ++ e.found; branches = whole_.branch clause first.tree e.branches; order = first.order ++ e.order; rest = e.rest }

    each : Walked → Replayed WalkedEach
    each first = branches_below program nodes f.walk.fuel f.walk.failed (goal_of f.walk.goal) f.atom next.others first.rest

    BranchTree : Replayed Walked
    BranchTree = tree_below program nodes f.walk.fuel f.walk.failed next.child.goal below

    opens : BranchesOn (TreeDone program nodes frames) log found order (suc (length next.others)) (branch_on program (length nodes) (proofs_within program (length nodes) f.walk.fuel) (tree_within program (length nodes) f.walk.fuel) f.walk.failed clause next.child number below (branches_below program nodes f.walk.fuel f.walk.failed (goal_of f.walk.goal) f.atom next.others) (fault (clause_at program clause))) whole
        → TreeOn (TreeDone program nodes (Split f ∷ frames)) (log ++ node.Branch clause ∷ []) found order (tree_below program nodes f.walk.fuel f.walk.failed goal below) whole
    opens (more, done, eq) = (
      (λ first. and_on (and_on (each first) (λ e. gives (up first e))) more),
      (λ first. (
        next.others,
        next.left_,
        next.all_,
        (
          (λ e. more (up first e)),
          (λ e many.
              subst (λ l. TreeDone program nodes frames l ((found ++ values_at first.found) ++ values_at e.found) ((order ++ first.order) ++ e.order) e.rest (more (up first e))) (sym (append_assoc (log ++ node.Branch clause ∷ []) (tree_nodes first.tree) (branches_nodes e.branches) ∙ append_assoc log (node.Branch clause ∷ []) (tree_nodes first.tree ++ branches_nodes e.branches)))
              (subst (λ fs. TreeDone program nodes frames (log ++ node.Branch clause ∷ (tree_nodes first.tree ++ branches_nodes e.branches)) fs ((order ++ first.order) ++ e.order) e.rest (more (up first e))) (ap (λ vs. found ++ vs) (values-append first.found e.found) ∙ sym (append_assoc found (values_at first.found) (values_at e.found)))
              (subst (λ o. TreeDone program nodes frames (log ++ node.Branch clause ∷ (tree_nodes first.tree ++ branches_nodes e.branches)) (found ++ values_at (first.found ++ e.found)) o e.rest (more (up first e))) (sym (append_assoc order first.order e.order))
              (done (up first e) (ap suc many))))),
          and-on-on (each first) (λ e. gives (up first e)) more ∙ and-on-same (each first) (λ e. and_on (gives (up first e)) more) (λ e. more (up first e)) (λ e. and-on-gives (up first e) more),
        ),
      )),
      eq ∙ (ap (λ o. and_on (branch_on program (length nodes) (proofs_within program (length nodes) f.walk.fuel) (tree_within program (length nodes) f.walk.fuel) f.walk.failed clause next.child number below (branches_below program nodes f.walk.fuel f.walk.failed (goal_of f.walk.goal) f.atom next.others) o) more) none
          ∙ (and-on-on BranchTree (λ first. and_on (each first) (λ e. gives (up first e))) more
          ∙ ap (λ g. and_on (tree_below program nodes f.walk.fuel f.walk.failed g below) (λ first. and_on (and_on (each first) (λ e. gives (up first e))) more)) (sym goal-same))),
    )

-- the next branch of an atom, by the node that should be it
last-of : {X : Type 0} (xs : List X) (x : X) (all : List X) → all ≡ xs ++ x ∷ [] → reverse all ≡ x ∷ reverse xs
last-of xs x all is = ap reverse is ∙ newest xs x

pub branch-next : (program : Program) (nodes : List Node) (frames : List Frame) (log : List Node) (found : List Tree) (order : List ℕ) (whole : Replayed Proven) (f g : SplitFrame) (number : ℕ) (rest below : List Node) (clause due : ℕ)
    → f.walk ≡ g.walk → f.place ≡ g.place → f.atom ≡ g.atom → g.left.items ≡ f.left.items ++ due ∷ [] → rest ≡ node.Branch clause ∷ below → suc (length nodes) - length rest ≡ number
    → TreeDone program nodes (Split g ∷ frames) log found order rest whole
    → NextBranch program nodes frames log found order whole f number below clause due (reverse f.left.items)
branch-next program nodes frames log found order whole f g number rest below clause due walk-is place-is atom-is left-is rest-is number-is (others, left, all, on) =
    by others (left ∙ last-of f.left.items due g.left.items left-is)
    (subst (λ a. AllByRecursion (IsChild program (goal_of f.walk.goal) f.place a) others) (sym atom-is) (subst (λ p. AllByRecursion (IsChild program (goal_of f.walk.goal) p g.atom) others) (sym place-is) (subst (λ w. AllByRecursion (IsChild program (goal_of w.goal) g.place g.atom) others) (sym walk-is) all)))
    (subst (λ a. BranchesOn (TreeDone program nodes frames) log found order (length others) (branches_below program nodes f.walk.fuel f.walk.failed (goal_of f.walk.goal) a others (node.Branch clause ∷ below)) whole) (sym atom-is)
    (subst (λ w. BranchesOn (TreeDone program nodes frames) log found order (length others) (branches_below program nodes w.fuel w.failed (goal_of w.goal) g.atom others (node.Branch clause ∷ below)) whole) (sym walk-is)
    (subst (λ r. BranchesOn (TreeDone program nodes frames) log found order (length others) (branches_below program nodes g.walk.fuel g.walk.failed (goal_of g.walk.goal) g.atom others r) whole) rest-is on)))
  where
    by : (cs : List Child) → map (λ (child : Child). child.clause) cs ≡ due ∷ reverse f.left.items → AllByRecursion (IsChild program (goal_of f.walk.goal) f.place f.atom) cs
        → BranchesOn (TreeDone program nodes frames) log found order (length cs) (branches_below program nodes f.walk.fuel f.walk.failed (goal_of f.walk.goal) f.atom cs (node.Branch clause ∷ below)) whole
        → NextBranch program nodes frames log found order whole f number below clause due (reverse f.left.items)
    by [] none all_ on_ = absurd (cc none)
    by (c ∷ cs) same all_ on_ = record {
      others = cs;
      child = c;
      due_ = cc same;
      left_ = cc same;
      child_ = all_.0;
      all_ = all_.1;
      on_ = subst (λ n. BranchesOn (TreeDone program nodes frames) log found order (suc (length cs)) (branch_on program (length nodes) (proofs_within program (length nodes) f.walk.fuel) (tree_within program (length nodes) f.walk.fuel) f.walk.failed clause c n below (branches_below program nodes f.walk.fuel f.walk.failed (goal_of f.walk.goal) f.atom cs) (branch_fault program (length nodes) (proofs_within program (length nodes) f.walk.fuel) (tree_within program (length nodes) f.walk.fuel) (goal_of f.walk.goal) f.atom clause c (clause_at program clause))) whole)
          (ap (λ (r : List Node). suc (length nodes) - length r) (sym rest-is) ∙ number-is) on_;
    }

-- a branch that has a fault
pub branch-faulty : (program : Program) (nodes : List Node) (frames : List Frame) (log : List Node) (found : List Tree) (order : List ℕ) (whole : Replayed Proven) (f : SplitFrame) (number : ℕ) (below : List Node) (clause due : ℕ) (rest : List ℕ) (why : ℕ)
    → (next : NextBranch program nodes frames log found order whole f number below clause due rest)
    → branch_fault program (length nodes) (proofs_within program (length nodes) f.walk.fuel) (tree_within program (length nodes) f.walk.fuel) (goal_of f.walk.goal) f.atom clause next.child (clause_at program clause) ≡ Some why
    → whole ≡ faulty number why
branch-faulty program nodes frames log found order whole f number below clause due rest why next is = by next.on_
  where
    on : Option ℕ → Replayed WalkedEach
    on o = branch_on program (length nodes) (proofs_within program (length nodes) f.walk.fuel) (tree_within program (length nodes) f.walk.fuel) f.walk.failed clause next.child number below (branches_below program nodes f.walk.fuel f.walk.failed (goal_of f.walk.goal) f.atom next.others) o

    by : BranchesOn (TreeDone program nodes frames) log found order (suc (length next.others)) (on (branch_fault program (length nodes) (proofs_within program (length nodes) f.walk.fuel) (tree_within program (length nodes) f.walk.fuel) (goal_of f.walk.goal) f.atom clause next.child (clause_at program clause))) whole → whole ≡ faulty number why
    by (more, done, eq) = eq ∙ ap (λ o. and_on (on o) more) is

pub no-clause : (program : Program) (nodes : List Node) (frames : List Frame) (log : List Node) (found : List Tree) (order : List ℕ) (whole : Replayed Proven) (f : SplitFrame) (number : ℕ) (below : List Node) (clause due : ℕ) (rest : List ℕ)
    → NextBranch program nodes frames log found order whole f number below clause due rest → clause_at program clause ≡ None → whole ≡ faulty number 1
no-clause program nodes frames log found order whole f number below clause due rest next none =
    branch-faulty program nodes frames log found order whole f number below clause due rest 1 next
    (ap (λ o. branch_fault program (length nodes) (proofs_within program (length nodes) f.walk.fuel) (tree_within program (length nodes) f.walk.fuel) (goal_of f.walk.goal) f.atom clause next.child o) none)

pub no-unifier : (program : Program) (nodes : List Node) (frames : List Frame) (log : List Node) (found : List Tree) (order : List ℕ) (whole : Replayed Proven) (f : SplitFrame) (number : ℕ) (below : List Node) (clause due : ℕ) (rest : List ℕ) (it : Clause)
    → NextBranch program nodes frames log found order whole f number below clause due rest → clause_at program clause ≡ Some it → head_solution f.walk.goal.next it f.atom ≡ None → whole ≡ faulty number 2
no-unifier program nodes frames log found order whole f number below clause due rest it next is none =
    branch-faulty program nodes frames log found order whole f number below clause due rest 2 next
    (ap (λ o. branch_fault program (length nodes) (proofs_within program (length nodes) f.walk.fuel) (tree_within program (length nodes) f.walk.fuel) (goal_of f.walk.goal) f.atom clause next.child o) is
    ∙ ap (λ s. branch_unifies program (length nodes) (proofs_within program (length nodes) f.walk.fuel) (tree_within program (length nodes) f.walk.fuel) (goal_of f.walk.goal) f.atom clause next.child s) none)

pub other-clause : (program : Program) (nodes : List Node) (frames : List Frame) (log : List Node) (found : List Tree) (order : List ℕ) (whole : Replayed Proven) (f : SplitFrame) (number : ℕ) (below : List Node) (clause due : ℕ) (rest : List ℕ) (it : Clause) (unifier : Bindings)
    → NextBranch program nodes frames log found order whole f number below clause due rest → clause_at program clause ≡ Some it → head_solution f.walk.goal.next it f.atom ≡ Some unifier → clause ≢ due → whole ≡ faulty number 6
other-clause program nodes frames log found order whole f number below clause due rest it unifier next is solves other =
    branch-faulty program nodes frames log found order whole f number below clause due rest 6 next
    (ap (λ o. branch_fault program (length nodes) (proofs_within program (length nodes) f.walk.fuel) (tree_within program (length nodes) f.walk.fuel) (goal_of f.walk.goal) f.atom clause next.child o) is
    ∙ (ap (λ s. branch_unifies program (length nodes) (proofs_within program (length nodes) f.walk.fuel) (tree_within program (length nodes) f.walk.fuel) (goal_of f.walk.goal) f.atom clause next.child s) solves
    ∙ ap (λ b. if b then None else Some 6) (ne_eqb clause next.child.clause (λ same. other (same ∙ next.due_)))))

-- where a branch is due and there is no node
pub branch-none : (program : Program) (nodes : List Node) (frames : List Frame) (log : List Node) (found : List Tree) (order : List ℕ) (whole : Replayed Proven) (g : SplitFrame) (ls : List ℕ) (due : ℕ) (rest : List Node) → g.left.items ≡ ls ++ due ∷ [] → rest ≡ []
    → TreeDone program nodes (Split g ∷ frames) log found order rest whole → whole ≡ faulty (suc (length nodes) - 0) 9
branch-none program nodes frames log found order whole g ls due rest left-is none (others, left, all, on) = by others (left ∙ last-of ls due g.left.items left-is)
    (subst (λ r. BranchesOn (TreeDone program nodes frames) log found order (length others) (branches_below program nodes g.walk.fuel g.walk.failed (goal_of g.walk.goal) g.atom others r) whole) none on)
  where
    by : (cs : List Child) → map (λ (child : Child). child.clause) cs ≡ due ∷ reverse ls → BranchesOn (TreeDone program nodes frames) log found order (length cs) (branches_below program nodes g.walk.fuel g.walk.failed (goal_of g.walk.goal) g.atom cs []) whole → whole ≡ faulty (suc (length nodes) - 0) 9
    by [] same on_ = absurd (cc same)
    by (c ∷ cs) same (more, done, eq) = eq

-- a node that isn't a branch's
other-node : (program : Program) (total fuel : ℕ) (failed : Bool) (goal : Goal) (atom : Atom) (child : Child) (number : ℕ) (below : List Node) (more : List Node → Replayed WalkedEach) (n : Node) → ((k : ℕ) → n ≡ node.Branch k → ⊥)
    → branch_at program total (proofs_within program total fuel) (tree_within program total fuel) failed goal atom child number below more n ≡ faulty number 3
other-node program total fuel failed goal atom child number below more (node.Use clause count a) h = refl
other-node program total fuel failed goal atom child number below more (node.Compute a) h = refl
other-node program total fuel failed goal atom child number below more (node.Absent a) h = refl
other-node program total fuel failed goal atom child number below more (node.Gather fold result value a) h = refl
other-node program total fuel failed goal atom child number below more (node.Split count) h = refl
other-node program total fuel failed goal atom child number below more (node.Branch k) h = absurd (h k refl)
other-node program total fuel failed goal atom child number below more node.Computed h = refl
other-node program total fuel failed goal atom child number below more node.Lacking h = refl
other-node program total fuel failed goal atom child number below more node.Present h = refl
other-node program total fuel failed goal atom child number below more node.Gathered h = refl
other-node program total fuel failed goal atom child number below more node.Ungathered h = refl
other-node program total fuel failed goal atom child number below more node.Success h = refl
other-node program total fuel failed goal atom child number below more node.Dead h = refl

pub branch-other : (program : Program) (nodes : List Node) (frames : List Frame) (log : List Node) (found : List Tree) (order : List ℕ) (whole : Replayed Proven) (g : SplitFrame) (ls : List ℕ) (due number : ℕ) (rest below : List Node) (n : Node) → g.left.items ≡ ls ++ due ∷ [] → rest ≡ n ∷ below → suc (length nodes) - length rest ≡ number → ((k : ℕ) → n ≡ node.Branch k → ⊥)
    → TreeDone program nodes (Split g ∷ frames) log found order rest whole → whole ≡ faulty number 3
branch-other program nodes frames log found order whole g ls due number rest below n left-is rest-is number-is_ other (others, left, all, on) = by others (left ∙ last-of ls due g.left.items left-is)
    (subst (λ r. BranchesOn (TreeDone program nodes frames) log found order (length others) (branches_below program nodes g.walk.fuel g.walk.failed (goal_of g.walk.goal) g.atom others r) whole) rest-is on)
  where
    by : (cs : List Child) → map (λ (child : Child). child.clause) cs ≡ due ∷ reverse ls → BranchesOn (TreeDone program nodes frames) log found order (length cs) (branches_below program nodes g.walk.fuel g.walk.failed (goal_of g.walk.goal) g.atom cs (n ∷ below)) whole → whole ≡ faulty number 3
    by [] same on_ = absurd (cc same)
    by (c ∷ cs) same (more, done, eq) =
        eq ∙ (ap (λ x. and_on x more) (other-node program (length nodes) g.walk.fuel g.walk.failed (goal_of g.walk.goal) g.atom c (suc (length nodes) - length (n ∷ below)) below (branches_below program nodes g.walk.fuel g.walk.failed (goal_of g.walk.goal) g.atom cs) n other)
        ∙ ap (λ k. faulty k 3) (ap (λ (r : List Node). suc (length nodes) - length r) (sym rest-is) ∙ number-is_))
