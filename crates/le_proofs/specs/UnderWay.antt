-- What a search under way means: what happened in it, what its open goals still give, how it ends, and the selections left. Every machine is proved against it.
use Rattle.std.specs.Prelude.{◌≡◌, ℕ, List, [], ◌∷◌, ◌++◌, Option, Some, None}
use Rattle.le_base.specs.declared.stop.FoldKind.{FoldKind}
use Rattle.le_terms.specs.Tree.{Tree}
use Rattle.le_terms.specs.declared.program.Atom.{Atom}
use Rattle.le_terms.specs.declared.program.Literal.{Literal}
use Rattle.le_terms.specs.declared.program.Program.{Program}
use Rattle.le_proofs.specs.Goals.{Goal, Picked, Child, rest_by, rest_goal, sub_goal}
use Rattle.le_proofs.specs.Proofs.{Step, Leaf, from_above, step_past, failure_shown, cases_gathered}
use Rattle.le_proofs.specs.SearchTree.{SearchTree, Event, tried, folded, stopped, leaves_of, up_to_first, begun, Course, leaves, ended, after_events, course_above, and_then, course_each, whole_of}
use Rattle.le_proofs.specs.Search.{Outcome, goes_on, fails, ends, folding, grow_each, tree, visit}
use Rattle.le_proofs.specs.declared.next.Next.{Next}
use Rattle.le_proofs.specs.declared.next.Next.TheVariants.{Answer, Done, Floundered, OutOfRange, Spent}

-- a visit below the steps of a path, the last step first, seen from its beginning
abbrev pub through : List Step → Course → Course
through [] course = course
through (step ∷ steps) course = through steps (course_above step course)

-- a goal whose selected literal is a negation or a gather, with the selections left once it was selected
pub record Asking : Type 0 where
  pub path : List Step
  pub goal : Goal
  pub picked : Picked Literal
  pub atom : Atom
  pub left : ℕ

-- what a machine keeps of what it left open, the newest first: the children of a goal that are still to be visited; a negation whose atom's tree is being visited, with what had happened before around it; and such a gather
pub data Frame : Type 0 where
  choice : List Step → ℕ → Atom → List Child → Frame
  negation : List Event → Asking → Frame
  gather : List Event → Asking → FoldKind → Tree → Tree → Frame

-- the goal that is visited next, with the path that led to it
pub record Current : Type 0 where
  pub path : List Step
  pub goal : Goal

module _ (program : Program) where
  -- the tree of a negation's atom, and of a gather's
  abbrev pub negation_tree : Asking → SearchTree
  negation_tree asking = tree program (sub_goal asking.goal asking.picked.chosen.line asking.atom []) asking.left

  abbrev pub gather_tree : Asking → Tree → SearchTree
  gather_tree asking value = tree program (sub_goal asking.goal asking.picked.chosen.line asking.atom (value ∷ [])) asking.left

  -- the visit of a negation's goal after that of its atom, by how that ended and its first success leaf
  abbrev pub by_ending : Asking → Course → Next → Course
  by_ending asking sub Done =
      course_above (step_past asking.picked [] (failure_shown asking.atom (whole_of (negation_tree asking)))) (visit program (rest_goal asking.goal asking.picked) sub.left)
  by_ending asking sub Answer = ended Answer sub.left
  by_ending asking sub (Floundered line) = ended (Floundered line) sub.left
  by_ending asking sub (OutOfRange line) = ended (OutOfRange line) sub.left
  by_ending asking sub Spent = ended Spent sub.left

  abbrev pub by_leaves : Asking → Course → List Leaf → Course
  by_leaves asking sub [] = after_events (begun tried sub.events) (by_ending asking sub sub.ending)
  by_leaves asking sub (leaf ∷ others) = after_events (begun tried (up_to_first sub.events)) (ended Done leaf.left)

  abbrev pub behind_negation : Asking → Course → Course
  behind_negation asking sub = by_leaves asking sub (leaves sub)

  -- that of a gather's goal
  abbrev pub by_outcome : Asking → FoldKind → Tree → Tree → ℕ → Outcome → Course
  by_outcome asking fold result value left (goes_on bindings) =
      course_above (step_past asking.picked bindings (cases_gathered fold result value asking.atom (whole_of (gather_tree asking value)))) (visit program (rest_by asking.goal asking.picked bindings) left)
  by_outcome asking fold result value left fails = ended Done left
  by_outcome asking fold result value left (ends ending) = record { events = stopped ∷ []; ending = ending; left = left }

  abbrev pub by_gathering_end : Asking → FoldKind → Tree → Tree → Course → Next → Course
  by_gathering_end asking fold result value sub Done = by_outcome asking fold result value sub.left (folding asking.picked.chosen.line fold result (leaves sub))
  by_gathering_end asking fold result value sub Answer = ended Answer sub.left
  by_gathering_end asking fold result value sub (Floundered line) = ended (Floundered line) sub.left
  by_gathering_end asking fold result value sub (OutOfRange line) = ended (OutOfRange line) sub.left
  by_gathering_end asking fold result value sub Spent = ended Spent sub.left

  abbrev pub behind_gather : Asking → FoldKind → Tree → Tree → Course → Course
  behind_gather asking fold result value sub = after_events (begun folded sub.events) (by_gathering_end asking fold result value sub sub.ending)

  -- the visits of a goal's children, seen from the beginning of its path
  abbrev pub visit_children : List Step → ℕ → Atom → List Child → ℕ → Course
  visit_children path place atom others left = through path (course_each (grow_each (tree program) place atom others left))

  -- the whole search, of what the innermost search under way comes to
  abbrev pub resumed : List Frame → Course → Course
  resumed [] course = course
  resumed (choice path place atom others ∷ frames) course = resumed frames (and_then course (visit_children path place atom others))
  resumed (negation passed asking ∷ frames) course = resumed frames (after_events passed (through asking.path (behind_negation asking course)))
  resumed (gather passed asking fold result value ∷ frames) course = resumed frames (after_events passed (through asking.path (behind_gather asking fold result value course)))

  abbrev pub visit_current : Option Current → ℕ → Course
  visit_current None left = ended Done left
  visit_current (Some current) left = through current.path (visit program current.goal left)

  -- a search under way: what it left open, what happened in the innermost search, the goal that is visited next, and the selections left
  abbrev pub under_way : List Frame → List Event → Option Current → ℕ → Course
  under_way frames passed current left = resumed frames (after_events passed (visit_current current left))

-- what happened in a whole search, of what happened in the innermost one
abbrev pub all_events : List Frame → List Event → List Event
all_events [] passed = passed
all_events (choice path place atom others ∷ frames) passed = all_events frames passed
all_events (negation before asking ∷ frames) passed = all_events frames (before ++ begun tried passed)
all_events (gather before asking fold result value ∷ frames) passed = all_events frames (before ++ begun folded passed)

-- what happened in the outermost search, of what happened in the innermost one
abbrev pub outermost : List Frame → List Event → List Event
outermost [] passed = passed
outermost (choice path place atom others ∷ frames) passed = outermost frames passed
outermost (negation before asking ∷ frames) passed = outermost frames before
outermost (gather before asking fold result value ∷ frames) passed = outermost frames before

-- in the tree of a negation under way no success leaf was found
abbrev pub IsQuiet : List Frame → List Event → Type 0
IsQuiet [] passed = Unit {0}
IsQuiet (choice path place atom others ∷ frames) passed = IsQuiet frames passed
IsQuiet (negation before asking ∷ frames) passed = (leaves_of passed ≡ []) × IsQuiet frames before
IsQuiet (gather before asking fold result value ∷ frames) passed = IsQuiet frames before

-- a success leaf seen from the beginning of the path that led to it
abbrev pub leaf_along : List Step → Leaf → Leaf
leaf_along [] leaf = leaf
leaf_along (step ∷ steps) leaf = leaf_along steps (from_above step leaf)

-- an end at which a visit stops
abbrev pub IsStop : Next → Type 0
IsStop Answer = ⊥
IsStop Done = ⊥
IsStop (Floundered line) = Unit {0}
IsStop (OutOfRange line) = Unit {0}
IsStop Spent = Unit {0}
