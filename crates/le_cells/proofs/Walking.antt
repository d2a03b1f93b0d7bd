-- What the steps of a search keep: it stays the walk under way of its tree.
use Rattle.std.proofs.Common.{◌≡◌, Bool, true, ℕ, suc, ◌+◌, ◌<◌, ◌≤◌, List, [], ◌∷◌, ◌++◌, take, drop, length, map, get_or, reverse, Option, Some, None, refl, sym, ap, ap₂, subst, ◌∙◌, append_assoc, append-nil, length-append, arith}
use Rattle.std.proofs.lemmas.List.{take-append-le, take_all}
use Rattle.le_base.specs.declared.stop.FoldKind.{FoldKind}
use Rattle.le_terms.specs.Tree.{Tree}
use Rattle.le_terms.specs.declared.program.Atom.{Atom}
use Rattle.le_terms.specs.declared.program.Form.TheVariants.{Pos, Neg, Calc, Gather}
use Rattle.le_terms.specs.declared.program.Literal.{Literal}
use Rattle.le_terms.specs.declared.program.Program.{Program}
use Rattle.le_subst.specs.Unifiers.{Bindings}
use Rattle.le_proofs.specs.declared.node.Node.{Node}
use Rattle.le_proofs.specs.declared.node.Node.TheVariants.{Split, Computed, Lacking, Present, Gathered, Ungathered, Dead}
use Rattle.le_proofs.specs.declared.next.Next.TheVariants.{Done}
use Rattle.le_proofs.specs.Goals.{Goal, Picked, Child, children, rest_by, rest_goal, sub_goal, is_ground_atom}
use Rattle.le_proofs.specs.Proofs.{Step, Leaf, step_past, value_computed, failure_shown, cases_gathered}
use Rattle.le_proofs.specs.SearchTree.{first_proof, whole_of}
use Rattle.le_proofs.specs.Derivations.{proof_nodes}
use Rattle.le_proofs.specs.Search.{goes_on, fails, computing, folding, is_covered, tree}
use Rattle.le_derivations.specs.Walks.{Walk, Choice, walk_of, walk_under_way}
use Rattle.le_derivations.proofs.WalkLaws.{walk-done, walk-atom, walk-computed, walk-dead, walk-lacking, walk-present, walk-gathered, walk-ungathered}
use Rattle.le_goals.specs.Shown.{Snapshot, Shown, Keeps, goal_at}
use Rattle.le_paths.specs.declared.step.CellStep.{CellStep}
use Rattle.le_paths.specs.Paths.{IsMade, LeadHere}
use Rattle.le_cells.specs.declared.goals.OpenGoal.{OpenGoal}
use Rattle.le_cells.specs.declared.goals.Search.{Search}
use Rattle.le_cells.specs.Keeping.{snapshot_at, goal_now, goal_of, children_from, placed, Selects, IsUnder, unchanged, IsOpenGoal, AreOpenGoals, HasSplit, AreNodes, LeadTo, IsWalk, Walks, AreFalling, open_marks}
use Rattle.le_cells.specs.Turns.{Extends, Leads, opened}
use Rattle.le_cells.proofs.Resting.{step-leads}
use Rattle.le_cells.proofs.Same.{open-goals-same}
use Rattle.le_cells.proofs.SelectedAt.{selects-first}
use Rattle.le_cells.proofs.Turning.{SameAt, newest, same-more, same-front, snapshot-more}

-- open goals stay so where the path goes on
pub opens-more : (program : Program) (marks : List Snapshot) (choices : List Choice) (opens : List OpenGoal) (path more : List CellStep) → AreOpenGoals program marks choices opens path → AreOpenGoals program marks choices opens (path ++ more)
opens-more program marks [] opens path more h = h
opens-more program marks (choice ∷ choices) [] path more h = h
opens-more program marks (choice ∷ choices) (kept ∷ opens) path more h =
    let long : length (path ++ more) ≡ length path + length more = length-append path more in
    let front : take kept.steps (path ++ more) ≡ take kept.steps path = take-append-le kept.steps path more h.0 in (
      omega (arith, h.0, long),
      subst (IsOpenGoal program marks kept choice) (sym front) h.1,
      subst (AreOpenGoals program marks choices opens) (sym front) h.2,
    )

-- nodes stay so where more come
pub nodes-more : (choices : List Choice) (opens : List OpenGoal) (noted nodes more : List Node) → AreNodes choices opens noted nodes → AreNodes choices opens (noted ++ more) (nodes ++ more)
nodes-more [] opens noted nodes more h = ap (λ ns. ns ++ more) h
nodes-more (choice ∷ choices) [] noted nodes more h = h
nodes-more (choice ∷ choices) (kept ∷ opens) noted nodes more h =
    let long : length (noted ++ more) ≡ length noted + length more = length-append noted more in
    let inside : kept.split ≤ length noted = omega (arith, h.inside) in
    let front : take kept.split (noted ++ more) ≡ take kept.split noted = take-append-le kept.split noted more inside in
    record {
      before = h.before;
      shown = h.shown;
      after = h.after ++ more;
      inside = omega (arith, h.inside, long);
      noted_ = ap (λ ns. ns ++ more) h.noted_ ∙ (append_assoc (take kept.split noted) (h.shown ∷ h.after) more ∙ ap (λ ns. ns ++ (h.shown ∷ (h.after ++ more))) (sym front));
      nodes_ = ap (λ ns. ns ++ more) h.nodes_ ∙ append_assoc h.before (Split (kept.children + length choice.others) ∷ h.after) more;
      before_ = subst (λ ns. AreNodes choices opens ns h.before) (sym front) h.before_;
    }

-- a search with steps and nodes more, by a law of walks
pub extends : (program : Program) (cells cells' : Shown) (before after : Search) (root : Goal) (total : ℕ) (current next : Option Goal) (left less : ℕ) (found : List Leaf) (kept : List CellStep) (more : List Node) (onto : List Step → List Step) → cells'.marks ≡ cells.marks
    → Extends before after kept more
    → ((choices : List Choice) (nodes : List Node) (steps : List Step) → walk_under_way program choices found nodes steps current left ≡ walk_under_way program choices found (nodes ++ more) (onto steps) next less)
    → ((steps : List Step) → LeadTo cells.now current before.path.items steps → LeadTo cells'.now next (before.path.items ++ kept) (onto steps)) → Walks program cells before root total current left found → Walks program cells' after root total next less found
extends program cells cells' before after root total current next left less found kept more onto marks ext law lead walk = record {
  choices = walk.choices;
  nodes = walk.nodes ++ more;
  steps = onto walk.steps;
  walk = sym (law walk.choices walk.nodes walk.steps) ∙ walk.walk;
  opens_ = subst (λ ms. AreOpenGoals program ms walk.choices (reverse after.opens.items) after.path.items) (sym marks)
      (subst (λ os. AreOpenGoals program cells.marks walk.choices (reverse os) after.path.items) (sym ext.opens_)
      (subst (AreOpenGoals program cells.marks walk.choices (reverse before.opens.items)) (sym ext.path_) (opens-more program cells.marks walk.choices (reverse before.opens.items) before.path.items kept walk.opens_)));
  nodes_ = λ keeps.
      let kept_ : before.keeps ≡ true = sym ext.keeps_ ∙ keeps in
      subst (λ os. AreNodes walk.choices (reverse os) after.nodes.items (walk.nodes ++ more)) (sym ext.opens_)
      (subst (λ ns. AreNodes walk.choices (reverse before.opens.items) ns (walk.nodes ++ more)) (sym (ext.nodes_ kept_)) (nodes-more walk.choices (reverse before.opens.items) before.nodes.items walk.nodes more (walk.nodes_ kept_)));
  steps_ = subst (λ p. LeadTo cells'.now next p (onto walk.steps)) (sym ext.path_) (lead walk.steps walk.steps_);
}

module _ (program : Program) (cells cells' : Shown) (marks : cells'.marks ≡ cells.marks) (before after : Search) (goal : Goal) (place : ℕ) (literal : Literal) (selects : Selects program goal.literals place literal) where
  -- a computed literal holds
  pub computed-leads : (atom : Atom) (bindings : Bindings) (mid : Snapshot) (kept : CellStep) (rest : Goal) (left : ℕ) → literal.form ≡ Calc atom → computing literal.line atom ≡ goes_on bindings
      → IsMade cells.now kept (step_past (placed goal.literals place literal) bindings (value_computed atom)) → IsUnder bindings cells.now mid → Keeps mid cells'.now
      → rest ≡ rest_by goal (placed goal.literals place literal) bindings → Extends before after (kept ∷ []) (Computed ∷ []) → Leads program cells before (Some goal) (suc left) cells' after (Some rest) left
  computed-leads atom bindings mid kept rest left is outcome made under more same ext = λ root total found walk.
      let picked : Picked Literal = placed goal.literals place literal in
      let first = selects-first program goal.literals place literal selects in
      let shown : Step = step_past picked bindings (value_computed atom) in
      extends program cells cells' before after root total (Some goal) (Some rest) (suc left) left found (kept ∷ []) (Computed ∷ []) (λ steps. shown ∷ steps) marks ext
      (λ choices nodes steps.
      walk-computed program choices found nodes steps goal first.0 first.1 first.2 picked first.3 left atom bindings is outcome
      ∙ ap (λ g. walk_under_way program choices found (nodes ++ Computed ∷ []) (shown ∷ steps) (Some g) left) (sym same))
      (λ steps lead. step-leads cells.now mid cells'.now before.path.items kept shown steps made under more lead) walk

  -- it fails
  pub dead-leads : (atom : Atom) (left : ℕ) → literal.form ≡ Calc atom → computing literal.line atom ≡ fails → Extends before after [] (Dead ∷ []) → Leads program cells before (Some goal) (suc left) cells' after None left
  dead-leads atom left is outcome ext = λ root total found walk.
      let first = selects-first program goal.literals place literal selects in
      extends program cells cells' before after root total (Some goal) None (suc left) left found [] (Dead ∷ []) (λ steps. []) marks ext
      (λ choices nodes steps. walk-dead program choices found nodes steps goal first.0 first.1 first.2 (placed goal.literals place literal) first.3 left atom is outcome) (λ steps lead. tt) walk

  -- a negation holds
  pub lacking-leads : (atom : Atom) (spare left : ℕ) (sub : List Node) (kept : CellStep) (rest : Goal) → literal.form ≡ Neg atom → is_ground_atom atom ≡ true
      → walk_of (tree program (sub_goal goal literal.line atom []) spare) ≡ (let w : Walk = record { leaves = []; nodes = sub; ending = Done; left = left } in w)
      → IsMade cells.now kept (step_past (placed goal.literals place literal) [] (failure_shown atom (whole_of (tree program (sub_goal goal literal.line atom []) spare)))) → Keeps cells.now cells'.now
      → rest ≡ rest_goal goal (placed goal.literals place literal) → Extends before after (kept ∷ []) (Lacking ∷ sub) → Leads program cells before (Some goal) (suc spare) cells' after (Some rest) left
  lacking-leads atom spare left sub kept rest is ground walked made more same ext = λ root total found walk.
      let picked : Picked Literal = placed goal.literals place literal in
      let first = selects-first program goal.literals place literal selects in
      let shown : Step = step_past picked [] (failure_shown atom (whole_of (tree program (sub_goal goal literal.line atom []) spare))) in
      extends program cells cells' before after root total (Some goal) (Some rest) (suc spare) left found (kept ∷ []) (Lacking ∷ sub) (λ steps. shown ∷ steps) marks ext
      (λ choices nodes steps.
      walk-lacking program choices found nodes steps goal first.0 first.1 first.2 picked first.3 spare atom is ground sub left walked
      ∙ ap (λ g. walk_under_way program choices found (nodes ++ Lacking ∷ sub) (shown ∷ steps) (Some g) left) (sym same))
      (λ steps lead. step-leads cells.now cells.now cells'.now before.path.items kept shown steps made (unchanged refl refl) more lead) walk

  -- it doesn't
  pub present-leads : (atom : Atom) (spare left : ℕ) (leaf : Leaf) (others : List Leaf) → literal.form ≡ Neg atom → is_ground_atom atom ≡ true
      → (walk_of (tree program (sub_goal goal literal.line atom []) spare)).leaves ≡ leaf ∷ others → leaf.left ≡ left → Extends before after [] (Present ∷ proof_nodes (first_proof leaf))
      → Leads program cells before (Some goal) (suc spare) cells' after None left
  present-leads atom spare left leaf others is ground found_ same ext = λ root total found walk.
      let first = selects-first program goal.literals place literal selects in
      extends program cells cells' before after root total (Some goal) None (suc spare) left found [] (Present ∷ proof_nodes (first_proof leaf)) (λ steps. []) marks ext
      (λ choices nodes steps.
      walk-present program choices found nodes steps goal first.0 first.1 first.2 (placed goal.literals place literal) first.3 spare atom is ground leaf others found_
      ∙ ap (walk_under_way program choices found (nodes ++ Present ∷ proof_nodes (first_proof leaf)) [] None) same) (λ steps lead. tt) walk

  module _ (kind : FoldKind) (target value : Tree) (atom : Atom) (is : literal.form ≡ Gather kind target value atom) (covered : is_covered value atom ≡ true) (cases : List Leaf) (sub : List Node) (spare left : ℕ)
      (walked : walk_of (tree program (sub_goal goal literal.line atom (value ∷ [])) spare) ≡ (let w : Walk = record { leaves = cases; nodes = sub; ending = Done; left = left } in w)) where
    -- a gather's result fits
    pub gathered-leads : (bindings : Bindings) (mid : Snapshot) (kept : CellStep) (rest : Goal) → folding literal.line kind target cases ≡ goes_on bindings
        → IsMade cells.now kept (step_past (placed goal.literals place literal) bindings (cases_gathered kind target value atom (whole_of (tree program (sub_goal goal literal.line atom (value ∷ [])) spare))))
        → IsUnder bindings cells.now mid → Keeps mid cells'.now
        → rest ≡ rest_by goal (placed goal.literals place literal) bindings → Extends before after (kept ∷ []) (Gathered ∷ sub) → Leads program cells before (Some goal) (suc spare) cells' after (Some rest) left
    gathered-leads bindings mid kept rest outcome made under more same ext = λ root total found walk.
        let picked : Picked Literal = placed goal.literals place literal in
        let first = selects-first program goal.literals place literal selects in
        let shown : Step = step_past picked bindings (cases_gathered kind target value atom (whole_of (tree program (sub_goal goal literal.line atom (value ∷ [])) spare))) in
        extends program cells cells' before after root total (Some goal) (Some rest) (suc spare) left found (kept ∷ []) (Gathered ∷ sub) (λ steps. shown ∷ steps) marks ext
        (λ choices nodes steps.
        walk-gathered program choices found nodes steps goal first.0 first.1 first.2 picked first.3 spare kind target value atom is covered cases sub left bindings walked outcome
        ∙ ap (λ g. walk_under_way program choices found (nodes ++ Gathered ∷ sub) (shown ∷ steps) (Some g) left) (sym same))
        (λ steps lead. step-leads cells.now mid cells'.now before.path.items kept shown steps made under more lead) walk

    -- it doesn't
    pub ungathered-leads : folding literal.line kind target cases ≡ fails → Extends before after [] (Ungathered ∷ sub) → Leads program cells before (Some goal) (suc spare) cells' after None left
    ungathered-leads outcome ext = λ root total found walk.
        let first = selects-first program goal.literals place literal selects in
        extends program cells cells' before after root total (Some goal) None (suc spare) left found [] (Ungathered ∷ sub) (λ steps. []) marks ext
        (λ choices nodes steps. walk-ungathered program choices found nodes steps goal first.0 first.1 first.2 (placed goal.literals place literal) first.3 spare kind target value atom is covered cases sub left walked outcome) (λ steps lead. tt) walk

-- the goals at a mark that was made last
snapshot-last : (marks : List Snapshot) (now : Snapshot) → snapshot_at (marks ++ now ∷ []) (length marks) ≡ now
snapshot-last marks now = by marks (let none : Snapshot = record { next = 0; goals = [] } in none)
  where
    by : (ms : List Snapshot) (none : Snapshot) → get_or (ms ++ now ∷ []) (length ms) none ≡ now
    by [] none = refl
    by (m ∷ ms) none = by ms none

-- an open goal by the goals at its mark
record IsOpenNow (program : Program) (snapshot : Snapshot) (goal place : ℕ) (choice : Choice) (front : List CellStep) : Type 0 where
  literal : Literal
  selects : Selects program (goal_at snapshot goal).literals place literal
  form : literal.form ≡ Pos choice.atom
  place_ : choice.place ≡ length (take place (goal_at snapshot goal).literals)
  others_ : choice.others ≡ children_from (goal_at snapshot goal) place literal choice.atom program.clauses 0
  steps_ : LeadHere snapshot (reverse front) choice.path

at-mark : (program : Program) (marks : List Snapshot) (kept : OpenGoal) (choice : Choice) (front : List CellStep) → kept.from ≡ 0 → IsOpenNow program (snapshot_at marks kept.mark) kept.goal kept.place choice front → IsOpenGoal program marks kept choice front
at-mark program marks kept choice front none h = record {
  literal = h.literal;
  selects = h.selects;
  form = h.form;
  place_ = h.place_;
  others_ = h.others_ ∙ ap (children_from (goal_of marks kept) kept.place h.literal choice.atom program.clauses) (sym none);
  steps_ = h.steps_;
}

-- a goal is left open, at a mark that is made
pub split-leads : (program : Program) (cells cells' : Shown) (before after : Search) (goal place : ℕ) (literal : Literal) (atom : Atom) (left : ℕ) (others : List ℕ) → AreFalling (length cells.marks) (open_marks before.opens.items others)
    → cells'.marks ≡ cells.marks ++ cells.now ∷ [] → Selects program (goal_now cells goal).literals place literal → literal.form ≡ Pos atom → after.keeps ≡ before.keeps → after.path.items ≡ before.path.items
    → after.opens.items ≡ before.opens.items ++ opened cells before goal place ∷ [] → (before.keeps ≡ true → after.nodes.items ≡ before.nodes.items ++ Split 0 ∷ []) → Leads program cells before (Some (goal_now cells goal)) (suc left) cells' after None left
split-leads program cells cells' before after goal place literal atom left others falling marks selects is keeps_ path_ opens_ nodes_ = λ root total found walk.
    let goal_ : Goal = goal_now cells goal in
    let picked : Picked Literal = placed goal_.literals place literal in
    let first = selects-first program goal_.literals place literal selects in
    let kept : OpenGoal = opened cells before goal place in
    let all : List Child = children goal_ picked atom 1 program.clauses in
    let choice : Choice = record { path = walk.steps; place = length picked.before; atom = atom; others = all } in
    let marks' : List Snapshot = cells.marks ++ cells.now ∷ [] in
    let last : snapshot_at marks' (length cells.marks) ≡ cells.now = snapshot-last cells.marks cells.now in
    let turned : reverse after.opens.items ≡ kept ∷ reverse before.opens.items = ap reverse opens_ ∙ newest before.opens.items kept in
    let whole : take (length before.path.items) before.path.items ≡ before.path.items = take_all (length before.path.items) before.path.items (omega arith) in
    let front_ : List CellStep = take kept.steps before.path.items in
    let open_now : IsOpenNow program cells.now goal place choice front_ =
    record { literal = literal; selects = selects; form = is; place_ = refl; others_ = refl; steps_ = subst (λ p. LeadHere cells.now (reverse p) walk.steps) (sym whole) walk.steps_ } in
    let open_ : IsOpenGoal program marks' kept choice front_ = at-mark program marks' kept choice front_ refl (subst (λ s. IsOpenNow program s goal place choice front_) (sym last) open_now) in
    let same : SameAt cells.marks marks' (map (λ (k : OpenGoal). k.mark) (reverse before.opens.items)) =
    same-front cells.marks marks' (map (λ (k : OpenGoal). k.mark) (reverse before.opens.items)) others (same-more cells.marks (cells.now ∷ []) (open_marks before.opens.items others) falling) in
    let olds : AreOpenGoals program marks' walk.choices (reverse before.opens.items) before.path.items = open-goals-same program cells.marks marks' walk.choices (reverse before.opens.items) before.path.items same walk.opens_ in
    let noted : List Node = before.nodes.items in
    let front : take (length noted) (noted ++ Split 0 ∷ []) ≡ noted = take-append-le (length noted) noted (Split 0 ∷ []) (omega arith) ∙ take_all (length noted) noted (omega arith) in
    let long : length (noted ++ Split 0 ∷ []) ≡ length noted + 1 = length-append noted (Split 0 ∷ []) in
    record {
      choices = choice ∷ walk.choices;
      nodes = walk.nodes ++ Split (length all) ∷ [];
      steps = [];
      walk = sym (walk-atom program walk.choices found walk.nodes walk.steps goal_ first.0 first.1 first.2 picked first.3 left atom is) ∙ walk.walk;
      opens_ = subst (λ ms. AreOpenGoals program ms (choice ∷ walk.choices) (reverse after.opens.items) after.path.items) (sym marks)
          (subst (λ os. AreOpenGoals program marks' (choice ∷ walk.choices) os after.path.items) (sym turned)
          (subst (AreOpenGoals program marks' (choice ∷ walk.choices) (kept ∷ reverse before.opens.items)) (sym path_)
          (omega arith, open_, subst (AreOpenGoals program marks' walk.choices (reverse before.opens.items)) (sym whole) olds)));
      nodes_ = λ keeps.
          let k : before.keeps ≡ true = sym keeps_ ∙ keeps in
          subst (λ os. AreNodes (choice ∷ walk.choices) os after.nodes.items (walk.nodes ++ Split (length all) ∷ [])) (sym turned)
          (subst (λ ns. AreNodes (choice ∷ walk.choices) (kept ∷ reverse before.opens.items) ns (walk.nodes ++ Split (length all) ∷ [])) (sym (nodes_ k)) (record {
            before = walk.nodes;
            shown = Split 0;
            after = [];
            inside = omega (arith, long);
            noted_ = ap (λ ns. ns ++ Split 0 ∷ []) (sym front);
            nodes_ = let none : length all ≡ 0 + length all = omega arith in ap (λ n. walk.nodes ++ Split n ∷ []) none;
            before_ = subst (λ ns. AreNodes walk.choices (reverse before.opens.items) ns walk.nodes) (sym front) (walk.nodes_ k);
          }));
      steps_ = tt;
    }

-- a search without an open goal is done
pub walked : (program : Program) (cells : Shown) (done_ : Search) (root : Goal) (total left : ℕ) (found : List Leaf) → done_.opens.items ≡ [] → Walks program cells done_ root total None left found
    → (nodes : List Node) × (walk_of (tree program root total) ≡ (let w : Walk = record { leaves = found; nodes = nodes; ending = Done; left = left } in w)) × (done_.keeps ≡ true → done_.nodes.items ≡ nodes)
walked program cells done_ root total left found none walk =
    by walk.choices walk.nodes walk.walk (subst (λ os. AreOpenGoals program cells.marks walk.choices (reverse os) done_.path.items) none walk.opens_) (λ k. subst (λ os. AreNodes walk.choices (reverse os) done_.nodes.items walk.nodes) none (walk.nodes_ k))
  where
    by : (choices : List Choice) (nodes : List Node) → walk_under_way program choices found nodes walk.steps None left ≡ walk_of (tree program root total) → AreOpenGoals program cells.marks choices [] done_.path.items
        → (done_.keeps ≡ true → AreNodes choices [] done_.nodes.items nodes)
        → (ns : List Node) × (walk_of (tree program root total) ≡ (let w : Walk = record { leaves = found; nodes = ns; ending = Done; left = left } in w)) × (done_.keeps ≡ true → done_.nodes.items ≡ ns)
    by [] nodes same are kept = (nodes, sym same ∙ walk-done program [] found nodes walk.steps left, kept)
    by (choice ∷ choices) nodes same are kept = absurd are
