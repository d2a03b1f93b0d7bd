-- What a search under way comes to, step by step.
use Rattle.std.proofs.Common.{◌≡◌, ℕ, suc, true, false, List, [], ◌∷◌, ◌++◌, map, length, Some, None, refl, sym, ap, ◌∙◌, append_assoc, append-nil, if◌then◌else◌}
use Rattle.std.specs.List.{cons_option}
use Rattle.std.proofs.lemmas.List.{map-append}
use Rattle.le_base.specs.declared.stop.FoldKind.{FoldKind}
use Rattle.le_terms.specs.Tree.{Tree}
use Rattle.le_terms.specs.declared.program.Atom.{Atom}
use Rattle.le_terms.specs.declared.program.Form.{Form}
use Rattle.le_terms.specs.declared.program.Form.TheVariants.{Pos, Neg, Calc, Gather}
use Rattle.le_terms.specs.declared.program.Literal.{Literal}
use Rattle.le_terms.specs.declared.program.Program.{Program}
use Rattle.le_subst.specs.Unifiers.{Bindings}
use Rattle.le_proofs.specs.Goals.{Goal, Picked, Child, selected, children, sub_goal, rest_by, rest_goal, is_ground_atom}
use Rattle.le_proofs.specs.Proofs.{Step, Leaf, from_above, step_to, step_past, value_computed, failure_shown, cases_gathered}
use Rattle.le_proofs.specs.SearchTree.{SearchTree, Branches, Event, found, parted, entered, held, died, tried, folded, succeeded, stopped, leaf_at, seen_outside, seen_above, leaves_of, up_to_first, begun, Course, leaves, ended, after_events, course_above, continued, and_then, empty_leaf, course_of, course_each, whole_of}
use Rattle.le_proofs.specs.Search.{Outcome, goes_on, fails, ends, computing, folding, is_covered, branch_before, grow_each, grow_computed, grow_lacking, grow_negation, grow_folded, grow_gather, grow_form, grow_picked, grow_at, tree, visit}
use Rattle.le_proofs.specs.UnderWay.{through, Asking, Frame, choice, negation, gather, negation_tree, gather_tree, IsStop, by_ending, by_leaves, behind_negation, by_outcome, by_gathering_end, behind_gather, visit_children, resumed, under_way, all_events, IsQuiet, leaf_along}
use Rattle.le_proofs.specs.declared.next.Next.{Next}
use Rattle.le_proofs.specs.declared.next.Next.TheVariants.{Answer, Done, Floundered, OutOfRange, Spent}
use Rattle.le_proofs.proofs.Courses.{leaves-append, leaves-outside, after-append, after-continued, through-and_then, through-plain, through-ended}
use Rattle.le_proofs.proofs.Growing.{tree-grows}

-- what a subsidiary visit gives is the same along a path
outside-above : (step : Step) (events : List Event) → map (seen_above step) (map seen_outside events) ≡ map seen_outside events
outside-above step [] = refl
outside-above step (event ∷ events) = one event (outside-above step events)
  where
    one : (event : Event) → map (seen_above step) (map seen_outside events) ≡ map seen_outside events → map (seen_above step) (map seen_outside (event ∷ events)) ≡ map seen_outside (event ∷ events)
    one (found leaf) rest = ap (λ es. succeeded ∷ es) rest
    one (parted atom count) rest = ap (λ es. parted atom count ∷ es) rest
    one (entered clause) rest = ap (λ es. entered clause ∷ es) rest
    one held rest = ap (λ es. held ∷ es) rest
    one died rest = ap (λ es. died ∷ es) rest
    one tried rest = ap (λ es. tried ∷ es) rest
    one folded rest = ap (λ es. folded ∷ es) rest
    one succeeded rest = ap (λ es. succeeded ∷ es) rest
    one stopped rest = ap (λ es. stopped ∷ es) rest

above-after : (step : Step) (events : List Event) (course : Course) → course_above step (after_events events course) ≡ after_events (map (seen_above step) events) (course_above step course)
above-after step events course = ap (λ es. let c : Course = record { events = es; ending = course.ending; left = course.left } in c) (map-append (seen_above step) events course.events)

through-outside : (path : List Step) (events : List Event) (course : Course) → through path (after_events (map seen_outside events) course) ≡ after_events (map seen_outside events) (through path course)
through-outside [] events course = refl
through-outside (step ∷ path) events course =
    ap (through path) (above-after step (map seen_outside events) course ∙ ap (λ es. after_events es (course_above step course)) (outside-above step events))
    ∙ through-outside path events (course_above step course)

through-begun : (path : List Step) (event : Event) (events : List Event) (course : Course) → ((step : Step) → seen_above step event ≡ event) → through path (after_events (begun event events) course) ≡ after_events (begun event events) (through path course)
through-begun path event events course plain =
    through-plain path event (after_events (map seen_outside events) course) plain
    ∙ ap (after_events (event ∷ [])) (through-outside path events course)

through-leaf : (path : List Step) (leaf : Leaf) (course : Course) → through path (after_events (found leaf ∷ []) course) ≡ after_events (found (leaf_along path leaf) ∷ []) (through path course)
through-leaf [] leaf course = refl
through-leaf (step ∷ path) leaf course = through-leaf path (from_above step leaf) (course_above step course)

-- one event more, before a visit
one-more : (passed : List Event) (event : Event) (course : Course) → after_events passed (after_events (event ∷ []) course) ≡ after_events (passed ++ event ∷ []) course
one-more passed event course = sym (after-append passed (event ∷ []) course)

-- events, and then nothing
after-nothing : (passed : List Event) (left : ℕ) → after_events (passed ++ []) (ended Done left) ≡ after_events passed (ended Done left)
after-nothing passed left = ap (λ es. after_events es (ended Done left)) (append-nil passed)

module _ (program : Program) (frames : List Frame) (passed : List Event) where
  -- at the start
  pub start : (goal : Goal) (left : ℕ) → under_way program [] [] (Some (record { path = []; goal = goal })) left ≡ visit program goal left
  start goal left = refl

  by_goal : (path : List Step) (goal : Goal) (literals : List Literal) (left : ℕ) → goal.literals ≡ literals
      → under_way program frames passed (Some (record { path = path; goal = goal })) left ≡ resumed program frames (after_events passed (through path (course_of (grow_at (tree program) program goal literals left))))
  by_goal path goal literals left are =
      ap (λ t. resumed program frames (after_events passed (through path (course_of t)))) (tree-grows program goal left ∙ ap (λ ls. grow_at (tree program) program goal ls left) are)

  -- a goal without literals is a success leaf
  pub leaf : (path : List Step) (goal : Goal) (left : ℕ) → goal.literals ≡ []
      → under_way program frames passed (Some (record { path = path; goal = goal })) left ≡ under_way program frames (passed ++ found (leaf_along path (empty_leaf goal.terms left)) ∷ []) None left
  leaf path goal left none =
      by_goal path goal [] left none
      ∙ ap (λ c. resumed program frames (after_events passed c)) (through-leaf path (empty_leaf goal.terms left) (ended Done left) ∙ ap (after_events (found (leaf_along path (empty_leaf goal.terms left)) ∷ [])) (through-ended path Done left))
      ∙ ap (resumed program frames) (one-more passed (found (leaf_along path (empty_leaf goal.terms left))) (ended Done left))

  -- a goal at which the visit ends
  halts : (path : List Step) (e : Next) (left : ℕ) → resumed program frames (after_events passed (through path (course_of (SearchTree.halted e left)))) ≡ resumed program frames (after_events (passed ++ stopped ∷ []) (ended e left))
  halts path e left =
      ap (λ c. resumed program frames (after_events passed c)) (through-plain path stopped (ended e left) (λ step. refl) ∙ ap (after_events (stopped ∷ [])) (through-ended path e left))
      ∙ ap (resumed program frames) (one-more passed stopped (ended e left))

  -- no selection is left
  pub spent : (path : List Step) (goal : Goal) (literal : Literal) (literals : List Literal) → goal.literals ≡ literal ∷ literals
      → under_way program frames passed (Some (record { path = path; goal = goal })) 0 ≡ resumed program frames (after_events (passed ++ stopped ∷ []) (ended Spent 0))
  spent path goal literal literals are = by_goal path goal (literal ∷ literals) 0 are ∙ halts path Spent 0

  -- no literal can be selected
  pub unselected : (path : List Step) (goal : Goal) (literal : Literal) (literals : List Literal) (left : ℕ) → goal.literals ≡ literal ∷ literals → selected program.version (literal ∷ literals) ≡ None
      → under_way program frames passed (Some (record { path = path; goal = goal })) (suc left) ≡ resumed program frames (after_events (passed ++ stopped ∷ []) (ended (Floundered literal.line) (suc left)))
  unselected path goal literal literals left are none =
      by_goal path goal (literal ∷ literals) (suc left) are
      ∙ ap (λ o. resumed program frames (after_events passed (through path (course_of (grow_picked (tree program) program.clauses goal literal left o))))) none
      ∙ halts path (Floundered literal.line) (suc left)

  -- a literal is selected
  by_picked : (path : List Step) (goal : Goal) (literal : Literal) (literals : List Literal) (picked : Picked Literal) (form : Form) (left : ℕ) → goal.literals ≡ literal ∷ literals
      → selected program.version (literal ∷ literals) ≡ Some picked → picked.chosen.form ≡ form
      → under_way program frames passed (Some (record { path = path; goal = goal })) (suc left) ≡ resumed program frames (after_events passed (through path (course_of (grow_form (tree program) program.clauses goal picked left picked.chosen.line form))))
  by_picked path goal literal literals picked form left are one is =
      by_goal path goal (literal ∷ literals) (suc left) are
      ∙ ap (λ o. resumed program frames (after_events passed (through path (course_of (grow_picked (tree program) program.clauses goal literal left o))))) one
      ∙ ap (λ f. resumed program frames (after_events passed (through path (course_of (grow_form (tree program) program.clauses goal picked left picked.chosen.line f))))) is

  -- an atom: its children are left open
  pub atom_selected : (path : List Step) (goal : Goal) (literal : Literal) (literals : List Literal) (picked : Picked Literal) (atom : Atom) (left : ℕ) → goal.literals ≡ literal ∷ literals
      → selected program.version (literal ∷ literals) ≡ Some picked → picked.chosen.form ≡ Pos atom
      → under_way program frames passed (Some (record { path = path; goal = goal })) (suc left)
      ≡ under_way program (choice path (length picked.before) atom (children goal picked atom 1 program.clauses) ∷ frames) (passed ++ parted atom (length (children goal picked atom 1 program.clauses)) ∷ []) None left
  atom_selected path goal literal literals picked atom left are one is =
      let all : List Child = children goal picked atom 1 program.clauses in
      let event : Event = parted atom (length all) in
      by_picked path goal literal literals picked (Pos atom) left are one is
      ∙ ap (λ c. resumed program frames (after_events passed c)) (through-plain path event (course_each (grow_each (tree program) (length picked.before) atom all left)) (λ step. refl))
      ∙ ap (resumed program frames) (one-more passed event (visit_children program path (length picked.before) atom all left)
      ∙ ap (λ es. after_events es (visit_children program path (length picked.before) atom all left)) (sym (append-nil (passed ++ event ∷ []))))

  -- a branch and those after it
  each-step : (child : Child) (step : Step) (first : SearchTree) (more : ℕ → Branches) (e : Next) → course_each (branch_before e child step first more) ≡ continued e (after_events (entered child.clause ∷ []) (course_above step (course_of first))) (λ k. course_each (more k))
  each-step child step first more Done = refl
  each-step child step first more Answer = refl
  each-step child step first more (Floundered line) = refl
  each-step child step first more (OutOfRange line) = refl
  each-step child step first more Spent = refl

  -- the next child is visited
  pub next_child : (path : List Step) (place : ℕ) (atom : Atom) (child : Child) (others : List Child) (left : ℕ)
      → under_way program (choice path place atom (child ∷ others) ∷ frames) passed None left
      ≡ under_way program (choice path place atom others ∷ frames) (passed ++ entered child.clause ∷ []) (Some (record { path = step_to place atom child ∷ path; goal = child.goal })) left
  next_child path place atom child others left =
      let step : Step = step_to place atom child in
      let below : Course = course_above step (visit program child.goal left) in
      let first : Course = after_events (entered child.clause ∷ []) below in
      let more : ℕ → Course = visit_children program path place atom others in
      ap (λ es. resumed program frames (after_events es (visit_children program path place atom (child ∷ others) left))) (append-nil passed)
      ∙ ap (λ c. resumed program frames (after_events passed (through path c))) (each-step child step (tree program child.goal left) (grow_each (tree program) place atom others) (visit program child.goal left).ending)
      ∙ ap (λ c. resumed program frames (after_events passed c)) (through-and_then path first (λ k. course_each (grow_each (tree program) place atom others k))
      ∙ ap (λ c. and_then c more) (through-plain path (entered child.clause) below (λ step. refl)))
      ∙ ap (resumed program frames) (sym (after-continued (through path below).ending passed (after_events (entered child.clause ∷ []) (through path below)) more)
      ∙ ap (λ c. and_then c more) (one-more passed (entered child.clause) (through path below)))

  -- no child is left
  pub no_child : (path : List Step) (place : ℕ) (atom : Atom) (left : ℕ) → under_way program (choice path place atom [] ∷ frames) passed None left ≡ under_way program frames passed None left
  no_child path place atom left =
      ap (λ c. resumed program frames (after_events (passed ++ []) c)) (through-ended path Done left) ∙ ap (resumed program frames) (after-nothing passed left)

  -- a computed literal holds
  pub computed_holds : (path : List Step) (goal : Goal) (literal : Literal) (literals : List Literal) (picked : Picked Literal) (atom : Atom) (left : ℕ) (bindings : Bindings) → goal.literals ≡ literal ∷ literals
      → selected program.version (literal ∷ literals) ≡ Some picked → picked.chosen.form ≡ Calc atom → computing picked.chosen.line atom ≡ goes_on bindings
      → under_way program frames passed (Some (record { path = path; goal = goal })) (suc left)
      ≡ under_way program frames (passed ++ held ∷ []) (Some (record { path = step_past picked bindings (value_computed atom) ∷ path; goal = rest_by goal picked bindings })) left
  computed_holds path goal literal literals picked atom left bindings are one is outcome =
      by_picked path goal literal literals picked (Calc atom) left are one is
      ∙ ap (λ o. resumed program frames (after_events passed (through path (course_of (grow_computed (tree program) goal picked atom left o))))) outcome
      ∙ ap (λ c. resumed program frames (after_events passed c)) (through-plain path held (course_above (step_past picked bindings (value_computed atom)) (visit program (rest_by goal picked bindings) left)) (λ step. refl))
      ∙ ap (resumed program frames) (one-more passed held (through path (course_above (step_past picked bindings (value_computed atom)) (visit program (rest_by goal picked bindings) left))))

  -- it doesn't hold
  pub computed_fails : (path : List Step) (goal : Goal) (literal : Literal) (literals : List Literal) (picked : Picked Literal) (atom : Atom) (left : ℕ) → goal.literals ≡ literal ∷ literals
      → selected program.version (literal ∷ literals) ≡ Some picked → picked.chosen.form ≡ Calc atom → computing picked.chosen.line atom ≡ fails
      → under_way program frames passed (Some (record { path = path; goal = goal })) (suc left) ≡ under_way program frames (passed ++ died ∷ []) None left
  computed_fails path goal literal literals picked atom left are one is outcome =
      by_picked path goal literal literals picked (Calc atom) left are one is
      ∙ ap (λ o. resumed program frames (after_events passed (through path (course_of (grow_computed (tree program) goal picked atom left o))))) outcome
      ∙ ap (λ c. resumed program frames (after_events passed c)) (through-plain path died (ended Done left) (λ step. refl) ∙ ap (after_events (died ∷ [])) (through-ended path Done left))
      ∙ ap (resumed program frames) (one-more passed died (ended Done left))

  -- it ends the visit
  pub computed_ends : (path : List Step) (goal : Goal) (literal : Literal) (literals : List Literal) (picked : Picked Literal) (atom : Atom) (left : ℕ) (e : Next) → goal.literals ≡ literal ∷ literals
      → selected program.version (literal ∷ literals) ≡ Some picked → picked.chosen.form ≡ Calc atom → computing picked.chosen.line atom ≡ ends e
      → under_way program frames passed (Some (record { path = path; goal = goal })) (suc left) ≡ resumed program frames (after_events (passed ++ stopped ∷ []) (ended e left))
  computed_ends path goal literal literals picked atom left e are one is outcome =
      by_picked path goal literal literals picked (Calc atom) left are one is
      ∙ ap (λ o. resumed program frames (after_events passed (through path (course_of (grow_computed (tree program) goal picked atom left o))))) outcome
      ∙ halts path e left

  -- a negation whose atom holds a variable
  pub negation_flounders : (path : List Step) (goal : Goal) (literal : Literal) (literals : List Literal) (picked : Picked Literal) (atom : Atom) (left : ℕ) → goal.literals ≡ literal ∷ literals
      → selected program.version (literal ∷ literals) ≡ Some picked → picked.chosen.form ≡ Neg atom → is_ground_atom atom ≡ false
      → under_way program frames passed (Some (record { path = path; goal = goal })) (suc left) ≡ resumed program frames (after_events (passed ++ stopped ∷ []) (ended (Floundered picked.chosen.line) left))
  negation_flounders path goal literal literals picked atom left are one is not_ground =
      by_picked path goal literal literals picked (Neg atom) left are one is
      ∙ ap (λ b. resumed program frames (after_events passed (through path (course_of (if b then grow_negation (tree program) goal picked atom (tree program (sub_goal goal picked.chosen.line atom []) left) (leaves (visit program (sub_goal goal picked.chosen.line atom []) left)) else SearchTree.halted (Floundered picked.chosen.line) left))))) not_ground
      ∙ halts path (Floundered picked.chosen.line) left

  -- a ground negation: the tree of its atom is visited
  lacking-course : (asking : Asking) (e : Next) → e ≡ (course_of (negation_tree program asking)).ending
      → course_of (grow_lacking (tree program) asking.goal asking.picked asking.atom (negation_tree program asking) e) ≡ after_events (begun tried (course_of (negation_tree program asking)).events) (by_ending program asking (course_of (negation_tree program asking)) e)
  lacking-course asking Done same = refl
  lacking-course asking Answer same = ap (λ e. after_events (begun tried (course_of (negation_tree program asking)).events) (ended e (course_of (negation_tree program asking)).left)) (sym same)
  lacking-course asking (Floundered line) same = ap (λ e. after_events (begun tried (course_of (negation_tree program asking)).events) (ended e (course_of (negation_tree program asking)).left)) (sym same)
  lacking-course asking (OutOfRange line) same = ap (λ e. after_events (begun tried (course_of (negation_tree program asking)).events) (ended e (course_of (negation_tree program asking)).left)) (sym same)
  lacking-course asking Spent same = ap (λ e. after_events (begun tried (course_of (negation_tree program asking)).events) (ended e (course_of (negation_tree program asking)).left)) (sym same)

  negation-course : (asking : Asking) (ls : List Leaf) → course_of (grow_negation (tree program) asking.goal asking.picked asking.atom (negation_tree program asking) ls) ≡ by_leaves program asking (course_of (negation_tree program asking)) ls
  negation-course asking [] = lacking-course asking (course_of (negation_tree program asking)).ending refl
  negation-course asking (leaf ∷ ls) = ap (λ es. let c : Course = record { events = es; ending = Done; left = leaf.left } in c) (sym (append-nil (begun tried (up_to_first (course_of (negation_tree program asking)).events))))

  -- a ground negation: the tree of its atom is visited
  pub negation_selected : (path : List Step) (goal : Goal) (literal : Literal) (literals : List Literal) (picked : Picked Literal) (atom : Atom) (left : ℕ) → goal.literals ≡ literal ∷ literals
      → selected program.version (literal ∷ literals) ≡ Some picked → picked.chosen.form ≡ Neg atom → is_ground_atom atom ≡ true
      → under_way program frames passed (Some (record { path = path; goal = goal })) (suc left)
      ≡ under_way program (negation passed (record { path = path; goal = goal; picked = picked; atom = atom; left = left }) ∷ frames) [] (Some (record { path = []; goal = sub_goal goal picked.chosen.line atom [] })) left
  negation_selected path goal literal literals picked atom left are one is ground =
      let asking : Asking = record { path = path; goal = goal; picked = picked; atom = atom; left = left } in
      by_picked path goal literal literals picked (Neg atom) left are one is
      ∙ ap (λ b. resumed program frames (after_events passed (through path (course_of (if b then grow_negation (tree program) goal picked atom (negation_tree program asking) (leaves (course_of (negation_tree program asking))) else SearchTree.halted (Floundered picked.chosen.line) left))))) ground
      ∙ ap (λ c. resumed program frames (after_events passed (through path c))) (negation-course asking (leaves (course_of (negation_tree program asking))))

  -- a gather
  folded-course : (asking : Asking) (fold : FoldKind) (result value : Tree) (outcome : Outcome)
      → course_of (grow_folded (tree program) asking.goal asking.picked (Gather fold result value asking.atom) (gather_tree program asking value) outcome)
      ≡ after_events (begun folded (course_of (gather_tree program asking value)).events) (by_outcome program asking fold result value (course_of (gather_tree program asking value)).left outcome)
  folded-course asking fold result value (goes_on bindings) = refl
  folded-course asking fold result value fails = refl
  folded-course asking fold result value (ends e) = refl

  gather-course : (asking : Asking) (fold : FoldKind) (result value : Tree) (e : Next) → e ≡ (course_of (gather_tree program asking value)).ending
      → course_of (grow_gather (tree program) asking.goal asking.picked (Gather fold result value asking.atom) (gather_tree program asking value) (folding asking.picked.chosen.line fold result (leaves (course_of (gather_tree program asking value)))) e)
      ≡ after_events (begun folded (course_of (gather_tree program asking value)).events) (by_gathering_end program asking fold result value (course_of (gather_tree program asking value)) e)
  gather-course asking fold result value Done same = folded-course asking fold result value (folding asking.picked.chosen.line fold result (leaves (course_of (gather_tree program asking value))))
  gather-course asking fold result value Answer same = ap (λ e. after_events (begun folded (course_of (gather_tree program asking value)).events) (ended e (course_of (gather_tree program asking value)).left)) (sym same)
  gather-course asking fold result value (Floundered line) same = ap (λ e. after_events (begun folded (course_of (gather_tree program asking value)).events) (ended e (course_of (gather_tree program asking value)).left)) (sym same)
  gather-course asking fold result value (OutOfRange line) same = ap (λ e. after_events (begun folded (course_of (gather_tree program asking value)).events) (ended e (course_of (gather_tree program asking value)).left)) (sym same)
  gather-course asking fold result value Spent same = ap (λ e. after_events (begun folded (course_of (gather_tree program asking value)).events) (ended e (course_of (gather_tree program asking value)).left)) (sym same)

  pub gather_selected : (path : List Step) (goal : Goal) (literal : Literal) (literals : List Literal) (picked : Picked Literal) (fold : FoldKind) (result value : Tree) (atom : Atom) (left : ℕ) → goal.literals ≡ literal ∷ literals
      → selected program.version (literal ∷ literals) ≡ Some picked → picked.chosen.form ≡ Gather fold result value atom → is_covered value atom ≡ true
      → under_way program frames passed (Some (record { path = path; goal = goal })) (suc left)
      ≡ under_way program (gather passed (record { path = path; goal = goal; picked = picked; atom = atom; left = left }) fold result value ∷ frames) [] (Some (record { path = []; goal = sub_goal goal picked.chosen.line atom (value ∷ []) })) left
  gather_selected path goal literal literals picked fold result value atom left are one is covered =
      let asking : Asking = record { path = path; goal = goal; picked = picked; atom = atom; left = left } in
      let sub : Course = course_of (gather_tree program asking value) in
      by_picked path goal literal literals picked (Gather fold result value atom) left are one is
      ∙ ap (λ b. resumed program frames (after_events passed (through path (course_of (if b then grow_gather (tree program) goal picked (Gather fold result value atom) (gather_tree program asking value) (folding picked.chosen.line fold result (leaves sub)) sub.ending else SearchTree.halted (Floundered picked.chosen.line) left))))) covered
      ∙ ap (λ c. resumed program frames (after_events passed (through path c))) (gather-course asking fold result value sub.ending refl)

  pub gather_flounders : (path : List Step) (goal : Goal) (literal : Literal) (literals : List Literal) (picked : Picked Literal) (fold : FoldKind) (result value : Tree) (atom : Atom) (left : ℕ) → goal.literals ≡ literal ∷ literals
      → selected program.version (literal ∷ literals) ≡ Some picked → picked.chosen.form ≡ Gather fold result value atom → is_covered value atom ≡ false
      → under_way program frames passed (Some (record { path = path; goal = goal })) (suc left) ≡ resumed program frames (after_events (passed ++ stopped ∷ []) (ended (Floundered picked.chosen.line) left))
  gather_flounders path goal literal literals picked fold result value atom left are one is covered =
      let asking : Asking = record { path = path; goal = goal; picked = picked; atom = atom; left = left } in
      let sub : Course = course_of (gather_tree program asking value) in
      by_picked path goal literal literals picked (Gather fold result value atom) left are one is
      ∙ ap (λ b. resumed program frames (after_events passed (through path (course_of (if b then grow_gather (tree program) goal picked (Gather fold result value atom) (gather_tree program asking value) (folding picked.chosen.line fold result (leaves sub)) sub.ending else SearchTree.halted (Floundered picked.chosen.line) left))))) covered
      ∙ halts path (Floundered picked.chosen.line) left

  -- the tree of a negation's atom is done without a success leaf: the negation holds
  pub negation_holds : (before : List Event) (asking : Asking) (left : ℕ) → leaves_of passed ≡ []
      → under_way program (negation before asking ∷ frames) passed None left
      ≡ under_way program frames (before ++ begun tried passed) (Some (record { path = step_past asking.picked [] (failure_shown asking.atom (whole_of (negation_tree program asking))) ∷ asking.path; goal = rest_goal asking.goal asking.picked })) left
  negation_holds before asking left quiet =
      let step : Step = step_past asking.picked [] (failure_shown asking.atom (whole_of (negation_tree program asking))) in
      let below : Course = course_above step (visit program (rest_goal asking.goal asking.picked) left) in
      ap (λ es. resumed program frames (after_events before (through asking.path (behind_negation program asking (record { events = es; ending = Done; left = left }))))) (append-nil passed)
      ∙ ap (λ ls. resumed program frames (after_events before (through asking.path (by_leaves program asking (record { events = passed; ending = Done; left = left }) ls)))) quiet
      ∙ ap (λ c. resumed program frames (after_events before c)) (through-begun asking.path tried passed below (λ step. refl))
      ∙ ap (resumed program frames) (sym (after-append before (begun tried passed) (through asking.path below)))

  -- the tree of a gather's atom is done
  pub gather_done : (before : List Event) (asking : Asking) (fold : FoldKind) (result value : Tree) (left : ℕ)
      → under_way program (gather before asking fold result value ∷ frames) passed None left
      ≡ resumed program frames (after_events (before ++ begun folded passed) (through asking.path (by_outcome program asking fold result value left (folding asking.picked.chosen.line fold result (leaves_of passed)))))
  gather_done before asking fold result value left =
      let below : Course = by_outcome program asking fold result value left (folding asking.picked.chosen.line fold result (leaves_of passed)) in
      ap (λ es. resumed program frames (after_events before (through asking.path (behind_gather program asking fold result value (record { events = es; ending = Done; left = left }))))) (append-nil passed)
      ∙ ap (λ c. resumed program frames (after_events before c)) (through-begun asking.path folded passed below (λ step. refl))
      ∙ ap (resumed program frames) (sym (after-append before (begun folded passed) (through asking.path below)))

  -- its result fits
  pub gather_holds : (before : List Event) (asking : Asking) (fold : FoldKind) (result value : Tree) (left : ℕ) (bindings : Bindings) → folding asking.picked.chosen.line fold result (leaves_of passed) ≡ goes_on bindings
      → under_way program (gather before asking fold result value ∷ frames) passed None left
      ≡ under_way program frames (before ++ begun folded passed) (Some (record { path = step_past asking.picked bindings (cases_gathered fold result value asking.atom (whole_of (gather_tree program asking value))) ∷ asking.path; goal = rest_by asking.goal asking.picked bindings })) left
  gather_holds before asking fold result value left bindings outcome =
      gather_done before asking fold result value left
      ∙ ap (λ o. resumed program frames (after_events (before ++ begun folded passed) (through asking.path (by_outcome program asking fold result value left o)))) outcome

  -- it doesn't
  pub gather_fails : (before : List Event) (asking : Asking) (fold : FoldKind) (result value : Tree) (left : ℕ) → folding asking.picked.chosen.line fold result (leaves_of passed) ≡ fails
      → under_way program (gather before asking fold result value ∷ frames) passed None left ≡ under_way program frames (before ++ begun folded passed) None left
  gather_fails before asking fold result value left outcome =
      gather_done before asking fold result value left
      ∙ ap (λ o. resumed program frames (after_events (before ++ begun folded passed) (through asking.path (by_outcome program asking fold result value left o)))) outcome
      ∙ ap (λ c. resumed program frames (after_events (before ++ begun folded passed) c)) (through-ended asking.path Done left)

  -- the visit ends there
  pub gather_stops : (before : List Event) (asking : Asking) (fold : FoldKind) (result value : Tree) (left : ℕ) (e : Next) → folding asking.picked.chosen.line fold result (leaves_of passed) ≡ ends e
      → under_way program (gather before asking fold result value ∷ frames) passed None left ≡ resumed program frames (after_events ((before ++ begun folded passed) ++ stopped ∷ []) (ended e left))
  gather_stops before asking fold result value left e outcome =
      gather_done before asking fold result value left
      ∙ ap (λ o. resumed program frames (after_events (before ++ begun folded passed) (through asking.path (by_outcome program asking fold result value left o)))) outcome
      ∙ ap (λ c. resumed program frames (after_events (before ++ begun folded passed) c)) (through-plain asking.path stopped (ended e left) (λ step. refl) ∙ ap (after_events (stopped ∷ [])) (through-ended asking.path e left))
      ∙ ap (resumed program frames) (one-more (before ++ begun folded passed) stopped (ended e left))

-- a course in which a success leaf is found
pub record HasLeaf (course : Course) (before : List Event) (leaf : Leaf) : Type 0 where
  pub behind : List Event
  pub events : course.events ≡ before ++ found leaf ∷ behind
  pub quiet : leaves_of before ≡ []

has-leaf-continued : (e : Next) (course : Course) (more : ℕ → Course) (before : List Event) (leaf : Leaf) → HasLeaf course before leaf → HasLeaf (continued e course more) before leaf
has-leaf-continued Done course more before leaf has = record { behind = has.behind ++ (more course.left).events; events = ap (λ es. es ++ (more course.left).events) has.events ∙ append_assoc before (found leaf ∷ has.behind) (more course.left).events; quiet = has.quiet }
has-leaf-continued Answer course more before leaf has = has
has-leaf-continued (Floundered line) course more before leaf has = has
has-leaf-continued (OutOfRange line) course more before leaf has = has
has-leaf-continued Spent course more before leaf has = has

-- events up to the first leaf, and that leaf
first-leaf : (before behind : List Event) (leaf : Leaf) → leaves_of before ≡ [] → (up_to_first (before ++ found leaf ∷ behind) ≡ before ++ found leaf ∷ []) × (leaves_of (before ++ found leaf ∷ behind) ≡ leaf ∷ leaves_of behind)
first-leaf [] behind leaf quiet = (refl, refl)
first-leaf (event ∷ before) behind leaf quiet = one event quiet (λ h. first-leaf before behind leaf h)
  where
    one : (event : Event) → leaves_of (event ∷ before) ≡ [] → (leaves_of before ≡ [] → (up_to_first (before ++ found leaf ∷ behind) ≡ before ++ found leaf ∷ []) × (leaves_of (before ++ found leaf ∷ behind) ≡ leaf ∷ leaves_of behind))
        → (up_to_first ((event ∷ before) ++ found leaf ∷ behind) ≡ (event ∷ before) ++ found leaf ∷ []) × (leaves_of ((event ∷ before) ++ found leaf ∷ behind) ≡ leaf ∷ leaves_of behind)
    one (found other) quiet rest = absurd (cc quiet)
    one (parted atom count) quiet rest = (ap (λ es. parted atom count ∷ es) (rest quiet).0, (rest quiet).1)
    one (entered clause) quiet rest = (ap (λ es. entered clause ∷ es) (rest quiet).0, (rest quiet).1)
    one held quiet rest = (ap (λ es. held ∷ es) (rest quiet).0, (rest quiet).1)
    one died quiet rest = (ap (λ es. died ∷ es) (rest quiet).0, (rest quiet).1)
    one tried quiet rest = (ap (λ es. tried ∷ es) (rest quiet).0, (rest quiet).1)
    one folded quiet rest = (ap (λ es. folded ∷ es) (rest quiet).0, (rest quiet).1)
    one succeeded quiet rest = (ap (λ es. succeeded ∷ es) (rest quiet).0, (rest quiet).1)
    one stopped quiet rest = (ap (λ es. stopped ∷ es) (rest quiet).0, (rest quiet).1)

-- the frames of the innermost search left out: all choices before the first negation or gather
abbrev pub inner_left : List Frame → List Frame
inner_left [] = []
inner_left (choice path place atom others ∷ frames) = inner_left frames
inner_left (negation before asking ∷ frames) = negation before asking ∷ frames
inner_left (gather before asking fold result value ∷ frames) = gather before asking fold result value ∷ frames

module _ (program : Program) (before : List Event) (asking : Asking) (frames : List Frame) where
  -- where the tree of a negation's atom has a success leaf, the negation fails, whatever else its visit left open
  pub negation_fails : (inner : List Frame) (course : Course) (passed : List Event) (leaf : Leaf) → inner_left inner ≡ negation before asking ∷ frames → HasLeaf course passed leaf
      → resumed program inner course ≡ under_way program frames (before ++ begun tried (passed ++ found leaf ∷ [])) None leaf.left
  negation_fails [] course passed leaf is has = absurd (cc is)
  negation_fails (choice path place atom others ∷ inner) course passed leaf is has =
      negation_fails inner (and_then course (visit_children program path place atom others)) passed leaf is (has-leaf-continued course.ending course (visit_children program path place atom others) passed leaf has)
  negation_fails (negation before' asking' ∷ inner) course passed leaf is has =
      ap (λ fs. resumed program fs course) is
      ∙ ap (λ es. resumed program frames (after_events before (through asking.path (by_leaves program asking (record { events = es; ending = course.ending; left = course.left }) (leaves_of es))))) has.events
      ∙ ap (λ ls. resumed program frames (after_events before (through asking.path (by_leaves program asking (record { events = passed ++ found leaf ∷ has.behind; ending = course.ending; left = course.left }) ls)))) (first-leaf passed has.behind leaf has.quiet).1
      ∙ ap (λ es. resumed program frames (after_events before (through asking.path (after_events (begun tried es) (ended Done leaf.left))))) (first-leaf passed has.behind leaf has.quiet).0
      ∙ ap (λ c. resumed program frames (after_events before c)) (through-begun asking.path tried (passed ++ found leaf ∷ []) (ended Done leaf.left) (λ step. refl) ∙ ap (after_events (begun tried (passed ++ found leaf ∷ []))) (through-ended asking.path Done leaf.left))
      ∙ ap (resumed program frames) (sym (after-append before (begun tried (passed ++ found leaf ∷ [])) (ended Done leaf.left)))
  negation_fails (gather before' asking' fold result value ∷ inner) course passed leaf is has = absurd (cc is)

continued-stops : (e : Next) → IsStop e → (course : Course) (more : ℕ → Course) → continued e course more ≡ course
continued-stops Answer stop course more = absurd stop
continued-stops Done stop course more = absurd stop
continued-stops (Floundered line) stop course more = refl
continued-stops (OutOfRange line) stop course more = refl
continued-stops Spent stop course more = refl

by_ending-stops : (program : Program) (asking : Asking) (sub : Course) (e : Next) → IsStop e → by_ending program asking sub e ≡ ended e sub.left
by_ending-stops program asking sub Answer stop = absurd stop
by_ending-stops program asking sub Done stop = absurd stop
by_ending-stops program asking sub (Floundered line) stop = refl
by_ending-stops program asking sub (OutOfRange line) stop = refl
by_ending-stops program asking sub Spent stop = refl

by_gathering_end-stops : (program : Program) (asking : Asking) (fold : FoldKind) (result value : Tree) (sub : Course) (e : Next) → IsStop e → by_gathering_end program asking fold result value sub e ≡ ended e sub.left
by_gathering_end-stops program asking fold result value sub Answer stop = absurd stop
by_gathering_end-stops program asking fold result value sub Done stop = absurd stop
by_gathering_end-stops program asking fold result value sub (Floundered line) stop = refl
by_gathering_end-stops program asking fold result value sub (OutOfRange line) stop = refl
by_gathering_end-stops program asking fold result value sub Spent stop = refl

-- what a subsidiary visit gives leaves a visit quiet
quiet-begun : (event : Event) (before passed : List Event) → leaf_at event ≡ None → leaves_of before ≡ [] → leaves_of (before ++ begun event passed) ≡ []
quiet-begun event before passed plain quiet =
    leaves-append before (begun event passed)
    ∙ ap (λ ls. ls ++ leaves_of (begun event passed)) quiet
    ∙ ap (λ o. cons_option o (leaves_of (map seen_outside passed))) plain
    ∙ leaves-outside passed

pub IsQuiet-begun : (frames : List Frame) (event : Event) (before passed : List Event) → leaf_at event ≡ None → IsQuiet frames before → IsQuiet frames (before ++ begun event passed)
IsQuiet-begun [] event before passed plain quiet = tt
IsQuiet-begun (choice path place atom others ∷ frames) event before passed plain quiet = IsQuiet-begun frames event before passed plain quiet
IsQuiet-begun (negation outer asking ∷ frames) event before passed plain quiet = (quiet-begun event before passed plain quiet.0, quiet.1)
IsQuiet-begun (gather outer asking fold result value ∷ frames) event before passed plain quiet = quiet

-- where the innermost visit stops, the whole search stops
pub stops : (program : Program) (e : Next) → IsStop e → (frames : List Frame) (passed : List Event) (left : ℕ) → IsQuiet frames passed
    → resumed program frames (after_events passed (ended e left)) ≡ after_events (all_events frames passed) (ended e left)
stops program e stop [] passed left quiet = refl
stops program e stop (choice path place atom others ∷ frames) passed left quiet =
    ap (resumed program frames) (continued-stops e stop (after_events passed (ended e left)) (visit_children program path place atom others)) ∙ stops program e stop frames passed left quiet
stops program e stop (negation before asking ∷ frames) passed left quiet =
    ap (λ es. resumed program frames (after_events before (through asking.path (behind_negation program asking (record { events = es; ending = e; left = left }))))) (append-nil passed)
    ∙ ap (λ ls. resumed program frames (after_events before (through asking.path (by_leaves program asking (record { events = passed; ending = e; left = left }) ls)))) quiet.0
    ∙ ap (λ c. resumed program frames (after_events before (through asking.path (after_events (begun tried passed) c)))) (by_ending-stops program asking (record { events = passed; ending = e; left = left }) e stop)
    ∙ ap (λ c. resumed program frames (after_events before c)) (through-begun asking.path tried passed (ended e left) (λ step. refl) ∙ ap (after_events (begun tried passed)) (through-ended asking.path e left))
    ∙ ap (resumed program frames) (sym (after-append before (begun tried passed) (ended e left)))
    ∙ stops program e stop frames (before ++ begun tried passed) left (IsQuiet-begun frames tried before passed refl quiet.1)
stops program e stop (gather before asking fold result value ∷ frames) passed left quiet =
    ap (λ es. resumed program frames (after_events before (through asking.path (behind_gather program asking fold result value (record { events = es; ending = e; left = left }))))) (append-nil passed)
    ∙ ap (λ c. resumed program frames (after_events before (through asking.path (after_events (begun folded passed) c)))) (by_gathering_end-stops program asking fold result value (record { events = passed; ending = e; left = left }) e stop)
    ∙ ap (λ c. resumed program frames (after_events before c)) (through-begun asking.path folded passed (ended e left) (λ step. refl) ∙ ap (after_events (begun folded passed)) (through-ended asking.path e left))
    ∙ ap (resumed program frames) (sym (after-append before (begun folded passed) (ended e left)))
    ∙ stops program e stop frames (before ++ begun folded passed) left (IsQuiet-begun frames folded before passed refl quiet)
