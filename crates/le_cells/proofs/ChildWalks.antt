-- What becomes of a search that goes back to its newest open goal: its next child is visited, or it has none.
use Rattle.std.proofs.Common.{◌≡◌, Bool, true, ℕ, ◌+◌, ◌<◌, ◌≤◌, List, [], ◌∷◌, ◌++◌, take, drop, length, get_or, map, reverse, Some, None, refl, sym, ap, ap₂, subst, ◌∙◌, length-append, arith}
use Rattle.std.proofs.lemmas.List.{take-append-le, take-append-drop, take_all, length-take}
use Rattle.std.proofs.lemmas.List.{get_or_default}
use Rattle.le_terms.specs.Tree.{variable}
use Rattle.le_terms.specs.declared.program.Atom.{Atom}
use Rattle.le_terms.specs.declared.program.Form.TheVariants.{Pos}
use Rattle.le_terms.specs.declared.program.Literal.{Literal}
use Rattle.le_terms.specs.declared.program.Program.{Program}
use Rattle.le_subst.specs.Unifiers.{Bindings}
use Rattle.le_proofs.specs.declared.node.Node.{Node}
use Rattle.le_proofs.specs.declared.node.Node.TheVariants.{Split, Branch}
use Rattle.le_proofs.specs.Goals.{Goal, Child}
use Rattle.le_proofs.specs.Proofs.{Step, Leaf, step_to}
use Rattle.le_proofs.specs.Search.{tree}
use Rattle.le_derivations.specs.Walks.{Choice, walk_of, walk_under_way}
use Rattle.le_derivations.proofs.WalkLaws.{walk-no-child, walk-child}
use Rattle.le_goals.specs.Shown.{Snapshot, Shown, HasLiteral, goal_at, literal_of, no_literal}
use Rattle.le_paths.specs.declared.step.CellStep.{CellStep}
use Rattle.le_paths.specs.Paths.{IsMade, LeadHere}
use Rattle.le_paths.proofs.Leads.{lead-step, lead-pushed, made-clause}
use Rattle.le_cells.specs.declared.returning.Child.{Child as CodeChild}
use Rattle.le_cells.specs.declared.goals.OpenGoal.{OpenGoal}
use Rattle.le_cells.specs.declared.goals.Search.{Search}
use Rattle.le_cells.specs.Keeping.{placed, snapshot_at, goal_of, children_from, Selects, IsOpenGoal, AreOpenGoals, HasSplit, AreNodes, LeadTo, IsWalk, Walks, AreFalling, open_marks}
use Rattle.le_cells.specs.Turns.{SplitIs, GoOn, Enters}
use Rattle.le_cells.proofs.Same.{open-goals-same}
use Rattle.le_cells.proofs.SelectedAt.{same-at}
use Rattle.le_cells.proofs.Turning.{SameAt, newest, same-front, same-taken, snapshot-taken}
use Rattle.le_cells.proofs.Walking.{opens-more, nodes-more}

-- the older open goals show the same where the marks after the newest one's went
pub older-same : (marks marks' : List Snapshot) (mark : ℕ) (opens : List OpenGoal) (others : List ℕ) → marks' ≡ take (mark + 1) marks → AreFalling mark (open_marks opens others) → SameAt marks marks' (map (λ (kept : OpenGoal). kept.mark) (reverse opens))
older-same marks marks' mark opens others is falling =
    subst (λ ms. SameAt marks ms (map (λ (kept : OpenGoal). kept.mark) (reverse opens))) (sym is)
    (same-front marks (take (mark + 1) marks) (map (λ (kept : OpenGoal). kept.mark) (reverse opens)) others (same-taken marks (mark + 1) mark (open_marks opens others) (omega arith) falling))

-- so does the newest one
pub newest-same : (marks marks' : List Snapshot) (mark : ℕ) → marks' ≡ take (mark + 1) marks → snapshot_at marks' mark ≡ snapshot_at marks mark
newest-same marks marks' mark is = ap (λ (ms : List Snapshot). snapshot_at ms mark) is ∙ snapshot-taken marks (mark + 1) mark (omega arith)

-- the newest open goal of a walk, and what is left without it; the older open goals show the same afterwards
module _ (program : Program) (cells cells' : Shown) (keeps : Bool) (path : List CellStep) (noted : List Node) (pending : OpenGoal) (opens : List OpenGoal) (root : Goal) (total left : ℕ) (found : List Leaf)
    (older : SameAt cells.marks cells'.marks (map (λ (kept : OpenGoal). kept.mark) opens)) where
  abbrev Open : List Choice → List Node → List Step → Type 0
  Open choices nodes steps =
      (walk_under_way program choices found nodes steps None left ≡ walk_of (tree program root total)) × AreOpenGoals program cells.marks choices (pending ∷ opens) path × (keeps ≡ true → AreNodes choices (pending ∷ opens) noted nodes)

  abbrev at_goal : Goal
  at_goal = goal_of cells.marks pending

  -- it has no child more
  pub no-child : (after : Search) → after.keeps ≡ keeps → after.path.items ≡ path → reverse after.opens.items ≡ opens → SplitIs keeps pending.split pending.children noted after.nodes.items
      → ((literal : Literal) (atom : Atom) → literal ≡ get_or at_goal.literals pending.place literal → literal.form ≡ Pos atom → children_from at_goal pending.place literal atom program.clauses pending.from ≡ [])
      → IsWalk program cells keeps path noted (pending ∷ opens) root total None left found → Walks program cells' after root total None left found
  no-child after keeps_ path_ opens_ split_ none walk = by walk.choices walk.nodes (walk.walk, walk.opens_, walk.nodes_)
    where
      by : (choices : List Choice) (nodes : List Node) → Open choices nodes walk.steps → Walks program cells' after root total None left found
      by [] nodes h = absurd (cc h.1)
      by (choice ∷ choices) nodes h =
          let at : IsOpenGoal program cells.marks pending choice (take pending.steps path) = h.1.1 in
          let empty : choice.others ≡ [] = at.others_ ∙ none at.literal choice.atom at.selects.1 at.form in
          let back : take pending.steps path ++ drop pending.steps path ≡ path = take-append-drop pending.steps path in
          let olds : AreOpenGoals program cells'.marks choices opens (take pending.steps path) = open-goals-same program cells.marks cells'.marks choices opens (take pending.steps path) older h.1.2 in
          record {
            choices = choices;
            nodes = nodes;
            steps = [];
            walk = sym (ap (λ os. walk_under_way program (let c : Choice = record { path = choice.path; place = choice.place; atom = choice.atom; others = os } in c ∷ choices) found nodes walk.steps None left) empty ∙ walk-no-child program choices found nodes choice.path walk.steps [] choice.place choice.atom left) ∙ h.0;
            opens_ = subst (λ os. AreOpenGoals program cells'.marks choices os after.path.items) (sym opens_)
                (subst (AreOpenGoals program cells'.marks choices opens) (back ∙ sym path_) (opens-more program cells'.marks choices opens (take pending.steps path) (drop pending.steps path) olds));
            nodes_ = λ k.
                let kept : keeps ≡ true = sym keeps_ ∙ k in
                let s : HasSplit pending (length choice.others) noted nodes (AreNodes choices opens (take pending.split noted)) = h.2 kept in
                let front : length (take pending.split noted) ≡ pending.split = length-take pending.split noted ∙ (let inside : pending.split < length noted = s.inside in omega arith) in
                let new : after.nodes.items ≡ take pending.split noted ++ (Split pending.children ∷ s.after) = split_ kept (take pending.split noted) s.shown s.after s.noted_ front in
                let count : pending.children + length choice.others ≡ pending.children = ap (λ os. pending.children + length os) empty ∙ (omega arith) in
                let same : nodes ≡ s.before ++ (Split pending.children ∷ s.after) = s.nodes_ ∙ ap (λ n. s.before ++ (Split n ∷ s.after)) count in
                subst (λ os. AreNodes choices os after.nodes.items nodes) (sym opens_)
                (subst (λ ns. AreNodes choices opens ns nodes) (sym new)
                (subst (AreNodes choices opens (take pending.split noted ++ (Split pending.children ∷ s.after))) (sym same)
                (nodes-more choices opens (take pending.split noted) s.before (Split pending.children ∷ s.after) s.before_)));
            steps_ = tt;
          }

  -- its next child is visited
  pub next-child : (before after : Search) (child : CodeChild) (tried : ℕ) (literal : Literal) (atom : Atom) → before.keeps ≡ keeps → before.path.items ≡ path → before.nodes.items ≡ noted → reverse before.opens.items ≡ opens → Enters before after pending tried child
      → snapshot_at cells'.marks pending.mark ≡ snapshot_at cells.marks pending.mark → HasLiteral (snapshot_at cells.marks pending.mark) pending.goal pending.place → literal ≡ get_or at_goal.literals pending.place literal → literal.form ≡ Pos atom
      → GoOn (snapshot_at cells.marks pending.mark) cells'.now (children_from at_goal pending.place literal atom program.clauses pending.from) (Some child) (children_from at_goal pending.place literal atom program.clauses tried)
      → IsWalk program cells keeps path noted (pending ∷ opens) root total None left found → Walks program cells' after root total (Some (goal_at cells'.now child.goal)) left found
  next-child before after child tried literal atom keeps_ path_ noted_ opens_ enters marked there read form goes walk = by walk.choices walk.nodes (walk.walk, walk.opens_, walk.nodes_)
    where
      unifier : Bindings
      unifier = goes.0

      given : Child
      given = record { clause = child.clause; count = child.count; unifier = unifier; goal = goal_at cells'.now child.goal }

      step : CellStep
      step = record { goal = pending.goal; place = pending.place; clause = child.clause; count = child.count; below = [] }

      kept : OpenGoal
      kept = record { mark = pending.mark; goal = pending.goal; place = pending.place; from = tried; steps = pending.steps; split = pending.split; children = pending.children + 1 }

      literals : List Literal
      literals = at_goal.literals

      rest : List Child
      rest = children_from at_goal pending.place literal atom program.clauses tried

      path' : after.path.items ≡ take pending.steps path ++ step ∷ []
      path' = enters.path_ ∙ ap (λ ps. take pending.steps ps ++ step ∷ []) path_

      opens' : reverse after.opens.items ≡ kept ∷ opens
      opens' = ap reverse enters.opens_ ∙ (newest before.opens.items kept ∙ ap (λ os. kept ∷ os) opens_)

      made : (picked : Literal) → picked ≡ literal → IsMade (snapshot_at cells.marks pending.mark) step (step_to (length (take pending.place literals)) atom given)
      made picked same =
          let here : literal_of at_goal pending.place ≡ literal = get_or_default literals pending.place no_literal literal there.literal ∙ sym read in
          made-clause (snapshot_at cells.marks pending.mark) step there (placed literals pending.place literal) atom given refl (ap (λ (l : Literal). l.form) here ∙ form) refl refl refl

      by : (choices : List Choice) (nodes : List Node) → Open choices nodes walk.steps → Walks program cells' after root total (Some (goal_at cells'.now child.goal)) left found
      by [] nodes h = absurd (cc h.1)
      by (choice ∷ choices) nodes h =
          let at : IsOpenGoal program cells.marks pending choice (take pending.steps path) = h.1.1 in
          let same : at.literal ≡ literal = same-at literals pending.place at.literal literal there.literal at.selects.1 read in
          let atoms : choice.atom ≡ atom = cc (sym at.form ∙ (ap (λ (l : Literal). l.form) same ∙ form)) in
          let others : choice.others ≡ given ∷ rest =
          at.others_ ∙ (ap₂ (λ l a. children_from at_goal pending.place l a program.clauses pending.from) same atoms ∙ goes.1) in
          let choice' : Choice = record { path = choice.path; place = choice.place; atom = choice.atom; others = rest } in
          let steps_long : length (take pending.steps path) ≡ pending.steps = length-take pending.steps path ∙ (let fits : pending.steps ≤ length path = h.1.0 in omega arith) in
          let front : take pending.steps (take pending.steps path ++ step ∷ []) ≡ take pending.steps path =
          take-append-le pending.steps (take pending.steps path) (step ∷ []) (omega (arith, steps_long)) ∙ take_all pending.steps (take pending.steps path) (omega (arith, steps_long)) in
          let shown : Step = step_to choice.place choice.atom given in
          let is : IsMade (snapshot_at cells.marks pending.mark) step shown =
          subst (λ n. IsMade (snapshot_at cells.marks pending.mark) step (step_to n choice.atom given)) (sym at.place_)
          (subst (λ a. IsMade (snapshot_at cells.marks pending.mark) step (step_to (length (take pending.place literals)) a given)) (sym atoms) (made at.literal same)) in
          let leads : LeadHere cells'.now (reverse (take pending.steps path ++ step ∷ [])) (shown ∷ choice.path) =
          lead-pushed cells'.now variable (take pending.steps path) step (shown ∷ choice.path)
          (lead-step (goal_at cells'.now child.goal).next (snapshot_at cells.marks pending.mark) cells'.now step shown (reverse (take pending.steps path)) choice.path is goes.2 at.steps_) in
          let long : length (take pending.steps path ++ step ∷ []) ≡ length (take pending.steps path) + 1 = length-append (take pending.steps path) (step ∷ []) in
          let still : IsOpenGoal program cells.marks kept choice' (take pending.steps path) = record {
            literal = literal;
            selects = subst (Selects program literals pending.place) same at.selects;
            form = form ∙ ap Pos (sym atoms);
            place_ = at.place_;
            others_ = ap (λ a. children_from at_goal pending.place literal a program.clauses tried) (sym atoms);
            steps_ = at.steps_;
          } in
          let old : AreOpenGoals program cells.marks (choice' ∷ choices) (kept ∷ opens) (take pending.steps path ++ step ∷ []) = (
            omega (arith, long, steps_long),
            subst (IsOpenGoal program cells.marks kept choice') (sym front) still,
            subst (AreOpenGoals program cells.marks choices opens) (sym front) h.1.2,
          ) in
          let opened_ : AreOpenGoals program cells'.marks (choice' ∷ choices) (kept ∷ opens) (take pending.steps path ++ step ∷ []) =
          open-goals-same program cells.marks cells'.marks (choice' ∷ choices) (kept ∷ opens) (take pending.steps path ++ step ∷ []) (marked, older) old in
          record {
            choices = choice' ∷ choices;
            nodes = nodes ++ Branch child.clause ∷ [];
            steps = shown ∷ choice.path;
            walk = sym (ap (λ os. walk_under_way program (let c : Choice = record { path = choice.path; place = choice.place; atom = choice.atom; others = os } in c ∷ choices) found nodes walk.steps None left) others ∙ walk-child program choices found nodes choice.path walk.steps choice.place choice.atom given rest left) ∙ h.0;
            opens_ = subst (λ os. AreOpenGoals program cells'.marks (choice' ∷ choices) os after.path.items) (sym opens') (subst (AreOpenGoals program cells'.marks (choice' ∷ choices) (kept ∷ opens)) (sym path') opened_);
            nodes_ = λ k.
                let keeps' : before.keeps ≡ true = sym enters.keeps_ ∙ k in
                let s : HasSplit pending (length choice.others) noted nodes (AreNodes choices opens (take pending.split noted)) = h.2 (sym keeps_ ∙ keeps') in
                let count : pending.children + length choice.others ≡ (pending.children + 1) + length rest = ap (λ os. pending.children + length os) others ∙ (omega arith) in
                let split_ : AreNodes (choice' ∷ choices) (kept ∷ opens) noted nodes =
                record { before = s.before; shown = s.shown; after = s.after; inside = s.inside; noted_ = s.noted_; nodes_ = s.nodes_ ∙ ap (λ n. s.before ++ (Split n ∷ s.after)) count; before_ = s.before_ } in
                let new : after.nodes.items ≡ noted ++ Branch child.clause ∷ [] = enters.nodes_ keeps' ∙ ap (λ ns. ns ++ Branch child.clause ∷ []) noted_ in
                subst (λ os. AreNodes (choice' ∷ choices) os after.nodes.items (nodes ++ Branch child.clause ∷ [])) (sym opens')
                (subst (λ ns. AreNodes (choice' ∷ choices) (kept ∷ opens) ns (nodes ++ Branch child.clause ∷ [])) (sym new) (nodes-more (choice' ∷ choices) (kept ∷ opens) noted nodes (Branch child.clause ∷ []) split_));
            steps_ = subst (λ p. LeadTo cells'.now (Some (goal_at cells'.now child.goal)) p (shown ∷ choice.path)) (sym path') leads;
          }

-- the literal of a search's newest open goal
pub open-literal : (program : Program) (cells : Shown) (keeps : Bool) (path : List CellStep) (noted : List Node) (pending : OpenGoal) (opens : List OpenGoal) (root : Goal) (total left : ℕ) (found : List Leaf) → IsWalk program cells keeps path noted (pending ∷ opens) root total None left found
    → (literal : Literal) × (atom : Atom) × (literal ≡ get_or (goal_of cells.marks pending).literals pending.place literal) × (literal.form ≡ Pos atom)
open-literal program cells keeps path noted pending opens root total left found walk = by walk.choices walk.opens_
  where
    by : (choices : List Choice) → AreOpenGoals program cells.marks choices (pending ∷ opens) path → (literal : Literal) × (atom : Atom) × (literal ≡ get_or (goal_of cells.marks pending).literals pending.place literal) × (literal.form ≡ Pos atom)
    by [] h = absurd (cc h)
    by (choice ∷ choices) h = (h.1.literal, choice.atom, h.1.selects.1, h.1.form)
