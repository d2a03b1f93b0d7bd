-- What the steps of a search keep: it stays the walk under way of its tree.
use Rattle.std.proofs.Common.{◌≡◌, Bool, true, ℕ, suc, ◌+◌, ◌<◌, ◌≤◌, List, [], ◌∷◌, ◌++◌, take, drop, length, get_or, reverse, Option, Some, None, refl, sym, ap, ap₂, subst, ◌∙◌, append_assoc, length-append, arith}
use Rattle.std.proofs.lemmas.List.{take-append-le, take-append-drop, take_all, length-take}
use Rattle.le_base.specs.declared.stop.FoldKind.{FoldKind}
use Rattle.le_terms.specs.Tree.{Tree}
use Rattle.le_terms.specs.declared.program.Atom.{Atom}
use Rattle.le_terms.specs.declared.program.Form.TheVariants.{Pos, Neg, Calc, Gather}
use Rattle.le_terms.specs.declared.program.Literal.{Literal}
use Rattle.le_terms.specs.declared.program.Program.{Program}
use Rattle.le_subst.specs.Unifiers.{Bindings}
use Rattle.le_proofs.specs.declared.node.Node.{Node}
use Rattle.le_proofs.specs.declared.node.Node.TheVariants.{Use, Split, Branch, Computed, Lacking, Present, Gathered, Ungathered, Dead}
use Rattle.le_proofs.specs.declared.next.Next.TheVariants.{Done}
use Rattle.le_proofs.specs.Goals.{Goal, Picked, Child, children, rest_by, rest_goal, sub_goal, is_ground_atom}
use Rattle.le_proofs.specs.Proofs.{Step, Leaf, step_to, step_past, value_computed, failure_shown, cases_gathered}
use Rattle.le_proofs.specs.SearchTree.{first_proof, whole_of}
use Rattle.le_proofs.specs.Derivations.{proof_nodes}
use Rattle.le_proofs.specs.Search.{goes_on, fails, computing, folding, is_covered, tree}
use Rattle.le_derivations.specs.declared.path.PathStep.{PathStep}
use Rattle.le_derivations.specs.Paths.{IsStep, AreSteps, count_of}
use Rattle.le_derivations.specs.Walks.{Walk, Choice, walk_of, walk_under_way}
use Rattle.le_derivations.proofs.WalkLaws.{walk-no-child, walk-child, walk-done, walk-atom, walk-computed, walk-dead, walk-lacking, walk-present, walk-gathered, walk-ungathered}
use Rattle.le_machine.specs.declared.goals.Goal as code
use Rattle.le_machine.specs.declared.goals.Child as code_child
use Rattle.le_machine.specs.declared.goals.OpenGoal.{OpenGoal}
use Rattle.le_machine.specs.declared.goals.Search.{Search}
use Rattle.le_machine.specs.Keeping.{goal_of, child_of, placed, children_from, Selects, IsOpenGoal, AreOpenGoals, HasSplit, AreNodes, LeadTo, IsWalk, Walks}
use Rattle.le_machine.specs.Turns.{Extends, Leads, SplitIs}
use Rattle.le_machine.proofs.SelectedAt.{selects-first, same-at}
use Rattle.le_machine.proofs.Turning.{newest}

-- open goals stay so where the path goes on
pub opens-more : (program : Program) (choices : List Choice) (opens : List OpenGoal) (path more : List PathStep) → AreOpenGoals program choices opens path → AreOpenGoals program choices opens (path ++ more)
opens-more program [] opens path more h = h
opens-more program (choice ∷ choices) [] path more h = h
opens-more program (choice ∷ choices) (kept ∷ opens) path more h =
    let long : length (path ++ more) ≡ length path + length more = length-append path more in
    let front : take kept.steps (path ++ more) ≡ take kept.steps path = take-append-le kept.steps path more h.0 in (
      omega (arith, h.0, long),
      subst (IsOpenGoal program kept choice) (sym front) h.1,
      subst (AreOpenGoals program choices opens) (sym front) h.2,
    )

-- nodes stay so where more come
pub nodes-more : (choices : List Choice) (opens : List OpenGoal) (noted nodes more : List Node) → AreNodes choices opens noted nodes → AreNodes choices opens (noted ++ more) (nodes ++ more)
nodes-more [] opens noted nodes more h = ap (λ ns. ns ++ more) h
nodes-more (choice ∷ choices) [] noted nodes more h = h
nodes-more (choice ∷ choices) (kept ∷ opens) noted nodes more h =
    let long : length (noted ++ more) ≡ length noted + length more = length-append noted more in
    let inside : kept.split ≤ length noted = omega (arith, h.inside) in
    let front : take kept.split (noted ++ more) ≡ take kept.split noted = take-append-le kept.split noted more inside in
    record {
      before = h.before;
      shown = h.shown;
      after = h.after ++ more;
      inside = omega (arith, h.inside, long);
      noted_ = ap (λ ns. ns ++ more) h.noted_ ∙ (append_assoc (take kept.split noted) (h.shown ∷ h.after) more ∙ ap (λ ns. ns ++ (h.shown ∷ (h.after ++ more))) (sym front));
      nodes_ = ap (λ ns. ns ++ more) h.nodes_ ∙ append_assoc h.before (Split (kept.children + length choice.others) ∷ h.after) more;
      before_ = subst (λ ns. AreNodes choices opens ns h.before) (sym front) h.before_;
    }

-- a search with steps and nodes more, by a law of walks
pub extends : (program : Program) (before after : Search) (root : Goal) (total : ℕ) (current next : Option Goal) (left less : ℕ) (found : List Leaf) (kept : List PathStep) (more : List Node) (onto : List Step → List Step) → Extends before after kept more
    → ((choices : List Choice) (nodes : List Node) (steps : List Step) → walk_under_way program choices found nodes steps current left ≡ walk_under_way program choices found (nodes ++ more) (onto steps) next less)
    → ((steps : List Step) → LeadTo current before.path.items steps → LeadTo next (before.path.items ++ kept) (onto steps)) → Walks program before root total current left found → Walks program after root total next less found
extends program before after root total current next left less found kept more onto ext law lead walk = record {
  choices = walk.choices;
  nodes = walk.nodes ++ more;
  steps = onto walk.steps;
  walk = sym (law walk.choices walk.nodes walk.steps) ∙ walk.walk;
  opens_ = subst (λ os. AreOpenGoals program walk.choices (reverse os) after.path.items) (sym ext.opens_)
      (subst (AreOpenGoals program walk.choices (reverse before.opens.items)) (sym ext.path_) (opens-more program walk.choices (reverse before.opens.items) before.path.items kept walk.opens_));
  nodes_ = λ keeps.
      let kept_ : before.keeps ≡ true = sym ext.keeps_ ∙ keeps in
      subst (λ os. AreNodes walk.choices (reverse os) after.nodes.items (walk.nodes ++ more)) (sym ext.opens_)
      (subst (λ ns. AreNodes walk.choices (reverse before.opens.items) ns (walk.nodes ++ more)) (sym (ext.nodes_ kept_)) (nodes-more walk.choices (reverse before.opens.items) before.nodes.items walk.nodes more (walk.nodes_ kept_)));
  steps_ = subst (λ p. LeadTo next p (onto walk.steps)) (sym ext.path_) (lead walk.steps walk.steps_);
}

-- one step more leads on
pub step-leads : (path : List PathStep) (kept : PathStep) (step : Step) (goal : Goal) (steps : List Step) → IsStep kept step → AreSteps (reverse path) steps → LeadTo (Some goal) (path ++ kept ∷ []) (step ∷ steps)
step-leads path kept step goal steps is are = subst (λ ps. AreSteps ps (step ∷ steps)) (sym (newest path kept)) (is, are)

module _ (program : Program) (before after : Search) (goal : code.Goal) (place : ℕ) (literal : Literal) (selects : Selects program goal.literals.items place literal) where
  -- a computed literal holds
  pub computed-leads : (atom : Atom) (bindings : Bindings) (kept : PathStep) (rest : Goal) (left : ℕ) → literal.form ≡ Calc atom → computing literal.line atom ≡ goes_on bindings
      → IsStep kept (step_past (placed goal.literals.items place literal) bindings (value_computed atom)) → rest ≡ rest_by (goal_of goal) (placed goal.literals.items place literal) bindings → Extends before after (kept ∷ []) (Computed ∷ [])
      → Leads program before (Some (goal_of goal)) (suc left) after (Some rest) left
  computed-leads atom bindings kept rest left is outcome step same ext = λ root total found walk.
      let picked : Picked Literal = placed goal.literals.items place literal in
      let first = selects-first program goal.literals.items place literal selects in
      extends program before after root total (Some (goal_of goal)) (Some rest) (suc left) left found (kept ∷ []) (Computed ∷ []) (λ steps. step_past picked bindings (value_computed atom) ∷ steps) ext
      (λ choices nodes steps.
      walk-computed program choices found nodes steps (goal_of goal) first.0 first.1 first.2 picked first.3 left atom bindings is outcome
      ∙ ap (λ g. walk_under_way program choices found (nodes ++ Computed ∷ []) (step_past picked bindings (value_computed atom) ∷ steps) (Some g) left) (sym same))
      (λ steps are. step-leads before.path.items kept (step_past picked bindings (value_computed atom)) rest steps step are) walk

  -- it fails
  pub dead-leads : (atom : Atom) (left : ℕ) → literal.form ≡ Calc atom → computing literal.line atom ≡ fails → Extends before after [] (Dead ∷ []) → Leads program before (Some (goal_of goal)) (suc left) after None left
  dead-leads atom left is outcome ext = λ root total found walk.
      let first = selects-first program goal.literals.items place literal selects in
      extends program before after root total (Some (goal_of goal)) None (suc left) left found [] (Dead ∷ []) (λ steps. []) ext
      (λ choices nodes steps. walk-dead program choices found nodes steps (goal_of goal) first.0 first.1 first.2 (placed goal.literals.items place literal) first.3 left atom is outcome) (λ steps are. tt) walk

  -- a negation holds
  pub lacking-leads : (atom : Atom) (spare left : ℕ) (sub : List Node) (kept : PathStep) (rest : Goal) → literal.form ≡ Neg atom → is_ground_atom atom ≡ true
      → walk_of (tree program (sub_goal (goal_of goal) literal.line atom []) spare) ≡ (let w : Walk = record { leaves = []; nodes = sub; ending = Done; left = left } in w)
      → IsStep kept (step_past (placed goal.literals.items place literal) [] (failure_shown atom (whole_of (tree program (sub_goal (goal_of goal) literal.line atom []) spare)))) → rest ≡ rest_goal (goal_of goal) (placed goal.literals.items place literal)
      → Extends before after (kept ∷ []) (Lacking ∷ sub) → Leads program before (Some (goal_of goal)) (suc spare) after (Some rest) left
  lacking-leads atom spare left sub kept rest is ground walked step same ext = λ root total found walk.
      let picked : Picked Literal = placed goal.literals.items place literal in
      let first = selects-first program goal.literals.items place literal selects in
      let shown : Step = step_past picked [] (failure_shown atom (whole_of (tree program (sub_goal (goal_of goal) literal.line atom []) spare))) in
      extends program before after root total (Some (goal_of goal)) (Some rest) (suc spare) left found (kept ∷ []) (Lacking ∷ sub) (λ steps. shown ∷ steps) ext
      (λ choices nodes steps.
      walk-lacking program choices found nodes steps (goal_of goal) first.0 first.1 first.2 picked first.3 spare atom is ground sub left walked
      ∙ ap (λ g. walk_under_way program choices found (nodes ++ Lacking ∷ sub) (shown ∷ steps) (Some g) left) (sym same))
      (λ steps are. step-leads before.path.items kept shown rest steps step are) walk

  -- it doesn't
  pub present-leads : (atom : Atom) (spare left : ℕ) (leaf : Leaf) (others : List Leaf) → literal.form ≡ Neg atom → is_ground_atom atom ≡ true
      → (walk_of (tree program (sub_goal (goal_of goal) literal.line atom []) spare)).leaves ≡ leaf ∷ others → leaf.left ≡ left → Extends before after [] (Present ∷ proof_nodes (first_proof leaf))
      → Leads program before (Some (goal_of goal)) (suc spare) after None left
  present-leads atom spare left leaf others is ground found_ same ext = λ root total found walk.
      let first = selects-first program goal.literals.items place literal selects in
      extends program before after root total (Some (goal_of goal)) None (suc spare) left found [] (Present ∷ proof_nodes (first_proof leaf)) (λ steps. []) ext
      (λ choices nodes steps.
      walk-present program choices found nodes steps (goal_of goal) first.0 first.1 first.2 (placed goal.literals.items place literal) first.3 spare atom is ground leaf others found_
      ∙ ap (walk_under_way program choices found (nodes ++ Present ∷ proof_nodes (first_proof leaf)) [] None) same) (λ steps are. tt) walk

  module _ (kind : FoldKind) (target value : Tree) (atom : Atom) (is : literal.form ≡ Gather kind target value atom) (covered : is_covered value atom ≡ true) (cases : List Leaf) (sub : List Node) (spare left : ℕ)
      (walked : walk_of (tree program (sub_goal (goal_of goal) literal.line atom (value ∷ [])) spare) ≡ (let w : Walk = record { leaves = cases; nodes = sub; ending = Done; left = left } in w)) where
    -- a gather's result fits
    pub gathered-leads : (bindings : Bindings) (kept : PathStep) (rest : Goal) → folding literal.line kind target cases ≡ goes_on bindings
        → IsStep kept (step_past (placed goal.literals.items place literal) bindings (cases_gathered kind target value atom (whole_of (tree program (sub_goal (goal_of goal) literal.line atom (value ∷ [])) spare))))
        → rest ≡ rest_by (goal_of goal) (placed goal.literals.items place literal) bindings → Extends before after (kept ∷ []) (Gathered ∷ sub) → Leads program before (Some (goal_of goal)) (suc spare) after (Some rest) left
    gathered-leads bindings kept rest outcome step same ext = λ root total found walk.
        let picked : Picked Literal = placed goal.literals.items place literal in
        let first = selects-first program goal.literals.items place literal selects in
        let shown : Step = step_past picked bindings (cases_gathered kind target value atom (whole_of (tree program (sub_goal (goal_of goal) literal.line atom (value ∷ [])) spare))) in
        extends program before after root total (Some (goal_of goal)) (Some rest) (suc spare) left found (kept ∷ []) (Gathered ∷ sub) (λ steps. shown ∷ steps) ext
        (λ choices nodes steps.
        walk-gathered program choices found nodes steps (goal_of goal) first.0 first.1 first.2 picked first.3 spare kind target value atom is covered cases sub left bindings walked outcome
        ∙ ap (λ g. walk_under_way program choices found (nodes ++ Gathered ∷ sub) (shown ∷ steps) (Some g) left) (sym same))
        (λ steps are. step-leads before.path.items kept shown rest steps step are) walk

    -- it doesn't
    pub ungathered-leads : folding literal.line kind target cases ≡ fails → Extends before after [] (Ungathered ∷ sub) → Leads program before (Some (goal_of goal)) (suc spare) after None left
    ungathered-leads outcome ext = λ root total found walk.
        let first = selects-first program goal.literals.items place literal selects in
        extends program before after root total (Some (goal_of goal)) None (suc spare) left found [] (Ungathered ∷ sub) (λ steps. []) ext
        (λ choices nodes steps. walk-ungathered program choices found nodes steps (goal_of goal) first.0 first.1 first.2 (placed goal.literals.items place literal) first.3 spare kind target value atom is covered cases sub left walked outcome) (λ steps are. tt) walk

-- a goal that is left open
abbrev pub opened : Search → code.Goal → ℕ → OpenGoal
opened search goal place = record { goal = goal; place = place; from = 0; steps = length search.path.items; split = length search.nodes.items; children = 0 }

pub split-leads : (program : Program) (before after : Search) (goal : code.Goal) (place : ℕ) (literal : Literal) (atom : Atom) (left : ℕ) → Selects program goal.literals.items place literal → literal.form ≡ Pos atom → after.keeps ≡ before.keeps
    → after.path.items ≡ before.path.items → after.opens.items ≡ before.opens.items ++ opened before goal place ∷ [] → (before.keeps ≡ true → after.nodes.items ≡ before.nodes.items ++ Split 0 ∷ []) → Leads program before (Some (goal_of goal)) (suc left) after None left
split-leads program before after goal place literal atom left selects is keeps_ path_ opens_ nodes_ = λ root total found walk.
    let picked : Picked Literal = placed goal.literals.items place literal in
    let first = selects-first program goal.literals.items place literal selects in
    let kept : OpenGoal = opened before goal place in
    let all : List Child = children (goal_of goal) picked atom 1 program.clauses in
    let choice : Choice = record { path = walk.steps; place = length picked.before; atom = atom; others = all } in
    let turned : reverse after.opens.items ≡ kept ∷ reverse before.opens.items = ap reverse opens_ ∙ newest before.opens.items kept in
    let whole : take (length before.path.items) before.path.items ≡ before.path.items = take_all (length before.path.items) before.path.items (omega arith) in
    let open_ : IsOpenGoal program kept choice (take kept.steps before.path.items) =
    record { literal = literal; selects = selects; form = is; place_ = refl; others_ = refl; steps_ = subst (λ p. AreSteps (reverse p) walk.steps) (sym whole) walk.steps_ } in
    let noted : List Node = before.nodes.items in
    let front : take (length noted) (noted ++ Split 0 ∷ []) ≡ noted = take-append-le (length noted) noted (Split 0 ∷ []) (omega arith) ∙ take_all (length noted) noted (omega arith) in
    let long : length (noted ++ Split 0 ∷ []) ≡ length noted + 1 = length-append noted (Split 0 ∷ []) in
    record {
      choices = choice ∷ walk.choices;
      nodes = walk.nodes ++ Split (length all) ∷ [];
      steps = [];
      walk = sym (walk-atom program walk.choices found walk.nodes walk.steps (goal_of goal) first.0 first.1 first.2 picked first.3 left atom is) ∙ walk.walk;
      opens_ = subst (λ os. AreOpenGoals program (choice ∷ walk.choices) os after.path.items) (sym turned)
          (subst (AreOpenGoals program (choice ∷ walk.choices) (kept ∷ reverse before.opens.items)) (sym path_) (omega arith, open_, subst (AreOpenGoals program walk.choices (reverse before.opens.items)) (sym whole) walk.opens_));
      nodes_ = λ keeps.
          let k : before.keeps ≡ true = sym keeps_ ∙ keeps in
          subst (λ os. AreNodes (choice ∷ walk.choices) os after.nodes.items (walk.nodes ++ Split (length all) ∷ [])) (sym turned)
          (subst (λ ns. AreNodes (choice ∷ walk.choices) (kept ∷ reverse before.opens.items) ns (walk.nodes ++ Split (length all) ∷ [])) (sym (nodes_ k)) (record {
            before = walk.nodes;
            shown = Split 0;
            after = [];
            inside = omega (arith, long);
            noted_ = ap (λ ns. ns ++ Split 0 ∷ []) (sym front);
            nodes_ = let none : length all ≡ 0 + length all = omega arith in ap (λ n. walk.nodes ++ Split n ∷ []) none;
            before_ = subst (λ ns. AreNodes walk.choices (reverse before.opens.items) ns walk.nodes) (sym front) (walk.nodes_ k);
          }));
      steps_ = tt;
    }

-- the newest open goal of a walk, and what is left without it
module _ (program : Program) (keeps : Bool) (path : List PathStep) (noted : List Node) (pending : OpenGoal) (opens : List OpenGoal) (root : Goal) (total left : ℕ) (found : List Leaf) where
  abbrev Open : List Choice → List Node → List Step → Type 0
  Open choices nodes steps =
      (walk_under_way program choices found nodes steps None left ≡ walk_of (tree program root total)) × AreOpenGoals program choices (pending ∷ opens) path × (keeps ≡ true → AreNodes choices (pending ∷ opens) noted nodes)

  -- it has no child more
  pub no-child : (after : Search) → after.keeps ≡ keeps → after.path.items ≡ path → reverse after.opens.items ≡ opens → SplitIs keeps pending.split pending.children noted after.nodes.items
      → ((literal : Literal) (atom : Atom) → literal ≡ get_or pending.goal.literals.items pending.place literal → literal.form ≡ Pos atom → children_from (goal_of pending.goal) pending.place literal atom program.clauses pending.from ≡ [])
      → IsWalk program keeps path noted (pending ∷ opens) root total None left found → Walks program after root total None left found
  no-child after keeps_ path_ opens_ split_ none walk = by walk.choices walk.nodes (walk.walk, walk.opens_, walk.nodes_)
    where
      by : (choices : List Choice) (nodes : List Node) → Open choices nodes walk.steps → Walks program after root total None left found
      by [] nodes h = absurd (cc h.1)
      by (choice ∷ choices) nodes h =
          let at : IsOpenGoal program pending choice (take pending.steps path) = h.1.1 in
          let empty : choice.others ≡ [] = at.others_ ∙ none at.literal choice.atom at.selects.1 at.form in
          let back : take pending.steps path ++ drop pending.steps path ≡ path = take-append-drop pending.steps path in
          let others_ : List Node = nodes in
          record {
            choices = choices;
            nodes = nodes;
            steps = [];
            walk = sym (ap (λ os. walk_under_way program (let c : Choice = record { path = choice.path; place = choice.place; atom = choice.atom; others = os } in c ∷ choices) found nodes walk.steps None left) empty ∙ walk-no-child program choices found nodes choice.path walk.steps [] choice.place choice.atom left) ∙ h.0;
            opens_ = subst (λ os. AreOpenGoals program choices os after.path.items) (sym opens_)
                (subst (AreOpenGoals program choices opens) (back ∙ sym path_) (opens-more program choices opens (take pending.steps path) (drop pending.steps path) h.1.2));
            nodes_ = λ k.
                let kept : keeps ≡ true = sym keeps_ ∙ k in
                let s : HasSplit pending (length choice.others) noted nodes (AreNodes choices opens (take pending.split noted)) = h.2 kept in
                let front : length (take pending.split noted) ≡ pending.split = length-take pending.split noted ∙ (let inside : pending.split < length noted = s.inside in omega arith) in
                let new : after.nodes.items ≡ take pending.split noted ++ (Split pending.children ∷ s.after) = split_ kept (take pending.split noted) s.shown s.after s.noted_ front in
                let count : pending.children + length choice.others ≡ pending.children = ap (λ os. pending.children + length os) empty ∙ (omega arith) in
                let same : nodes ≡ s.before ++ (Split pending.children ∷ s.after) = s.nodes_ ∙ ap (λ n. s.before ++ (Split n ∷ s.after)) count in
                subst (λ os. AreNodes choices os after.nodes.items nodes) (sym opens_)
                (subst (λ ns. AreNodes choices opens ns nodes) (sym new)
                (subst (AreNodes choices opens (take pending.split noted ++ (Split pending.children ∷ s.after))) (sym same)
                (nodes-more choices opens (take pending.split noted) s.before (Split pending.children ∷ s.after) s.before_)));
            steps_ = tt;
          }

  -- its next child is visited
  pub next-child : (after : Search) (child : code_child.Child) (tried : ℕ) (literal : Literal) (atom : Atom) (step : PathStep) (kept : OpenGoal) → after.keeps ≡ keeps → after.path.items ≡ take pending.steps path ++ step ∷ [] → reverse after.opens.items ≡ kept ∷ opens
      → (keeps ≡ true → after.nodes.items ≡ noted ++ Branch child.clause ∷ [])
      → kept ≡ (let k : OpenGoal = record { goal = pending.goal; place = pending.place; from = tried; steps = pending.steps; split = pending.split; children = pending.children + 1 } in k)
      → step.place ≡ pending.place → step.unifier ≡ child.unifier → step.node ≡ Use child.clause child.count atom → step.below ≡ [] → pending.place < length pending.goal.literals.items
      → literal ≡ get_or pending.goal.literals.items pending.place literal → literal.form ≡ Pos atom
      → children_from (goal_of pending.goal) pending.place literal atom program.clauses pending.from ≡ child_of child ∷ children_from (goal_of pending.goal) pending.place literal atom program.clauses tried
      → IsWalk program keeps path noted (pending ∷ opens) root total None left found → Walks program after root total (Some (goal_of child.goal)) left found
  next-child after child tried literal atom step kept keeps_ path_ opens_ nodes_ kept_ place_ unifier_ node_ below_ inside read form goes walk = by walk.choices walk.nodes (walk.walk, walk.opens_, walk.nodes_)
    where
      by : (choices : List Choice) (nodes : List Node) → Open choices nodes walk.steps → Walks program after root total (Some (goal_of child.goal)) left found
      by [] nodes h = absurd (cc h.1)
      by (choice ∷ choices) nodes h =
          let at : IsOpenGoal program pending choice (take pending.steps path) = h.1.1 in
          let literals : List Literal = pending.goal.literals.items in
          let same : at.literal ≡ literal = same-at literals pending.place at.literal literal inside at.selects.1 read in
          let atoms : choice.atom ≡ atom = cc (sym at.form ∙ (ap (λ l. l.form) same ∙ form)) in
          let rest : List Child = children_from (goal_of pending.goal) pending.place literal atom program.clauses tried in
          let others : choice.others ≡ child_of child ∷ rest =
          at.others_ ∙ (ap₂ (λ l a. children_from (goal_of pending.goal) pending.place l a program.clauses pending.from) same atoms ∙ goes) in
          let choice' : Choice = record { path = choice.path; place = choice.place; atom = choice.atom; others = rest } in
          let back : take pending.steps path ++ drop pending.steps path ≡ path = take-append-drop pending.steps path in
          let steps_long : length (take pending.steps path) ≡ pending.steps = length-take pending.steps path ∙ (let fits : pending.steps ≤ length path = h.1.0 in omega arith) in
          let front : take pending.steps (take pending.steps path ++ step ∷ []) ≡ take pending.steps path =
          take-append-le pending.steps (take pending.steps path) (step ∷ []) (omega (arith, steps_long)) ∙ take_all pending.steps (take pending.steps path) (omega (arith, steps_long)) in
          let shown : Step = step_to choice.place choice.atom (child_of child) in
          let at_place : choice.place ≡ pending.place = at.place_ ∙ (length-take pending.place literals ∙ (omega (arith, inside))) in
          let is : IsStep step shown = record {
            place_ = at_place ∙ sym place_;
            count_ = sym (ap count_of node_);
            unifier_ = sym unifier_;
            reason_ = (node_ ∙ ap₂ (λ n a. Use child.clause n a) (sym (ap count_of node_)) (sym atoms), below_);
          } in
          let long : length (take pending.steps path ++ step ∷ []) ≡ length (take pending.steps path) + 1 = length-append (take pending.steps path) (step ∷ []) in
          let opened_ : AreOpenGoals program (choice' ∷ choices) (kept ∷ opens) (take pending.steps path ++ step ∷ []) =
          subst (λ k. AreOpenGoals program (choice' ∷ choices) (k ∷ opens) (take pending.steps path ++ step ∷ [])) (sym kept_) (
            omega (arith, long, steps_long),
            record {
              literal = literal;
              selects = subst (Selects program literals pending.place) same at.selects;
              form = form ∙ ap Pos (sym atoms);
              place_ = at.place_;
              others_ = ap (λ a. children_from (goal_of pending.goal) pending.place literal a program.clauses tried) (sym atoms);
              steps_ = subst (λ p. AreSteps (reverse p) choice.path) (sym front) at.steps_;
            },
            subst (AreOpenGoals program choices opens) (sym front) h.1.2,
          ) in
          record {
            choices = choice' ∷ choices;
            nodes = nodes ++ Branch child.clause ∷ [];
            steps = shown ∷ choice.path;
            walk = sym (ap (λ os. walk_under_way program (let c : Choice = record { path = choice.path; place = choice.place; atom = choice.atom; others = os } in c ∷ choices) found nodes walk.steps None left) others ∙ walk-child program choices found nodes choice.path walk.steps choice.place choice.atom (child_of child) rest left) ∙ h.0;
            opens_ = subst (λ os. AreOpenGoals program (choice' ∷ choices) os after.path.items) (sym opens_) (subst (AreOpenGoals program (choice' ∷ choices) (kept ∷ opens)) (sym path_) opened_);
            nodes_ = λ k.
                let keeps' : keeps ≡ true = sym keeps_ ∙ k in
                let s : HasSplit pending (length choice.others) noted nodes (AreNodes choices opens (take pending.split noted)) = h.2 keeps' in
                let count : pending.children + length choice.others ≡ (pending.children + 1) + length rest = ap (λ os. pending.children + length os) others ∙ (omega arith) in
                let split_ : AreNodes (choice' ∷ choices) (kept ∷ opens) noted nodes =
                subst (λ o. AreNodes (choice' ∷ choices) (o ∷ opens) noted nodes) (sym kept_)
                (record { before = s.before; shown = s.shown; after = s.after; inside = s.inside; noted_ = s.noted_; nodes_ = s.nodes_ ∙ ap (λ n. s.before ++ (Split n ∷ s.after)) count; before_ = s.before_ }) in
                subst (λ os. AreNodes (choice' ∷ choices) os after.nodes.items (nodes ++ Branch child.clause ∷ [])) (sym opens_)
                (subst (λ ns. AreNodes (choice' ∷ choices) (kept ∷ opens) ns (nodes ++ Branch child.clause ∷ [])) (sym (nodes_ keeps')) (nodes-more (choice' ∷ choices) (kept ∷ opens) noted nodes (Branch child.clause ∷ []) split_));
            steps_ = subst (λ p. LeadTo (Some (goal_of child.goal)) p (shown ∷ choice.path)) (sym path_) (step-leads (take pending.steps path) step shown (goal_of child.goal) choice.path is at.steps_);
          }

-- a search without an open goal is done
pub walked : (program : Program) (done_ : Search) (root : Goal) (total left : ℕ) (found : List Leaf) → done_.opens.items ≡ [] → Walks program done_ root total None left found
    → (nodes : List Node) × (walk_of (tree program root total) ≡ (let w : Walk = record { leaves = found; nodes = nodes; ending = Done; left = left } in w)) × (done_.keeps ≡ true → done_.nodes.items ≡ nodes)
walked program done_ root total left found none walk =
    by walk.choices walk.nodes walk.walk (subst (λ os. AreOpenGoals program walk.choices (reverse os) done_.path.items) none walk.opens_) (λ k. subst (λ os. AreNodes walk.choices (reverse os) done_.nodes.items walk.nodes) none (walk.nodes_ k))
  where
    by : (choices : List Choice) (nodes : List Node) → walk_under_way program choices found nodes walk.steps None left ≡ walk_of (tree program root total) → AreOpenGoals program choices [] done_.path.items
        → (done_.keeps ≡ true → AreNodes choices [] done_.nodes.items nodes)
        → (ns : List Node) × (walk_of (tree program root total) ≡ (let w : Walk = record { leaves = found; nodes = ns; ending = Done; left = left } in w)) × (done_.keeps ≡ true → done_.nodes.items ≡ ns)
    by [] nodes same are kept = (nodes, sym same ∙ walk-done program [] found nodes walk.steps left, kept)
    by (choice ∷ choices) nodes same are kept = absurd are

-- the literal of a search's newest open goal
pub open-literal : (program : Program) (keeps : Bool) (path : List PathStep) (noted : List Node) (pending : OpenGoal) (opens : List OpenGoal) (root : Goal) (total left : ℕ) (found : List Leaf) → IsWalk program keeps path noted (pending ∷ opens) root total None left found
    → (literal : Literal) × (atom : Atom) × (literal ≡ get_or pending.goal.literals.items pending.place literal) × (literal.form ≡ Pos atom)
open-literal program keeps path noted pending opens root total left found walk = by walk.choices walk.opens_
  where
    by : (choices : List Choice) → AreOpenGoals program choices (pending ∷ opens) path → (literal : Literal) × (atom : Atom) × (literal ≡ get_or pending.goal.literals.items pending.place literal) × (literal.form ≡ Pos atom)
    by [] h = absurd (cc h)
    by (choice ∷ choices) h = (h.1.literal, choice.atom, h.1.selects.1, h.1.form)
