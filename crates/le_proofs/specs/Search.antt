-- The search of a program: the tree of its query, visited depth first and in the order of the clauses (Lloyd, Foundations of Logic Programming, chapter 2, sections 9 and 10, and chapter 3). The budget of selections is this project's profile.
use Rattle.std.specs.Prelude.{ℕ, zero, suc, ◌-◌, ◌==◌, nat_lt, Bool, List, [], ◌∷◌, length, map, slice_get, Option, Some, None, option_map, if◌then◌else◌}
use Rattle.std.specs.List.{list_all, list_any}
use Rattle.le_base.specs.declared.stop.FoldKind.{FoldKind}
use Rattle.le_terms.specs.Tree.{Tree, number, tree_of}
use Rattle.le_terms.specs.Variables.{occurrences, all_occurrences}
use Rattle.le_terms.specs.declared.program.Atom.{Atom}
use Rattle.le_terms.specs.declared.program.Clause.{Clause}
use Rattle.le_terms.specs.declared.program.Form.{Form}
use Rattle.le_terms.specs.declared.program.Form.TheVariants.{Pos, Neg, Calc, Gather}
use Rattle.le_terms.specs.declared.program.Literal.{Literal}
use Rattle.le_terms.specs.declared.program.Program.{Program}
use Rattle.le_subst.specs.Unifiers.{Bindings}
use Rattle.le_subst.specs.Solution.{solve_of}
use Rattle.le_builtins.specs.declared.computing.Calc as computing_of
use Rattle.le_builtins.specs.declared.computing.Calc.TheVariants.{Same, Gives, Holds, No, Unbound, Range}
use Rattle.le_builtins.specs.Compute.{compute, argument}
use Rattle.le_gather.specs.declared.folding.FoldAnswer.{FoldAnswer}
use Rattle.le_gather.specs.Folds.{fold_of}
use Rattle.le_gather.specs.declared.folding.FoldAnswer.TheVariants as folds
use Rattle.le_proofs.specs.Goals.{Goal, Picked, Child, selected, children, rest_by, rest_goal, sub_goal, is_ground_atom, root_of}
use Rattle.le_proofs.specs.Proofs.{Step, Leaf, step_to, step_past, value_computed, failure_shown, cases_gathered}
use Rattle.le_proofs.specs.SearchTree.{SearchTree, success, halted, split, computed, dead, lacking, present, trying, gathered, ungathered, unfolded, gathering, Branches, no_branch, branch, last_branch, Course, leaves, course_of, whole_of}
use Rattle.le_proofs.specs.declared.next.Next.{Next}
use Rattle.le_proofs.specs.declared.next.Next.TheVariants.{Answer, Done, Floundered, OutOfRange, Spent}

-- what becomes of a computed literal or of a gather's result: the goal goes on under a unifier, it fails, or the visit ends
pub data Outcome : Type 0 where
  goes_on : Bindings → Outcome
  fails : Outcome
  ends : Next → Outcome

-- an equation: its unifier is applied, and where there is none it fails
abbrev pub by_solution : Option Bindings → Outcome
by_solution (Some bindings) = goes_on bindings
by_solution None = fails

-- what becomes of a computed literal of this line by what is computed of its arguments
abbrev pub by_answer : ℕ → List Tree → computing_of.Calc → Outcome
by_answer line terms Same = by_solution (solve_of ((argument terms 0, argument terms 1) ∷ []))
by_answer line terms (Gives symbol) = by_solution (solve_of ((argument terms 0, tree_of (symbol ∷ [])) ∷ []))
by_answer line terms Holds = goes_on []
by_answer line terms No = fails
by_answer line terms Unbound = ends (Floundered line)
by_answer line terms Range = ends (OutOfRange line)

abbrev pub computing : ℕ → Atom → Outcome
computing line atom = by_answer line atom.args (compute atom.pred atom.args)

-- what becomes of a gather's result of this line by what is made of the values
abbrev pub by_fold : ℕ → Tree → FoldAnswer → Outcome
by_fold line result (folds.Value n) = by_solution (solve_of ((result, number n) ∷ []))
by_fold line result folds.No = fails
by_fold line result folds.Unbound = ends (Floundered line)
by_fold line result folds.Range = ends (OutOfRange line)

-- the first term of a leaf: the value at one case of a gather
abbrev pub value_of : Leaf → Tree
value_of leaf = argument leaf.terms 0

abbrev pub folding : ℕ → FoldKind → Tree → List Leaf → Outcome
folding line fold result cases = by_fold line result (fold_of fold (map value_of cases))

-- each variable of an atom is one of a term's
abbrev pub is_covered : Tree → Atom → Bool
is_covered value atom = list_all (λ v. list_any (λ w. v == w) (occurrences value)) (all_occurrences atom.args)

-- a branch before others: where its visit ends other than by Done, no other is visited
abbrev pub branch_before : Next → Child → Step → SearchTree → (ℕ → Branches) → Branches
branch_before Done child step tree more = branch child.clause step tree (more (course_of tree).left)
branch_before Answer child step tree more = last_branch child.clause step tree
branch_before (Floundered line) child step tree more = last_branch child.clause step tree
branch_before (OutOfRange line) child step tree more = last_branch child.clause step tree
branch_before Spent child step tree more = last_branch child.clause step tree

module _ (grow : Goal → ℕ → SearchTree) where
  -- the trees of some children in order, each with the selections that the earlier ones left
  abbrev pub grow_each : ℕ → Atom → List Child → ℕ → Branches
  grow_each place atom [] left = no_branch left
  grow_each place atom (child ∷ others) left =
      let tree : SearchTree = grow child.goal left in
      branch_before (course_of tree).ending child (step_to place atom child) tree (grow_each place atom others)

  -- a computed literal that is selected
  abbrev pub grow_computed : Goal → Picked Literal → Atom → ℕ → Outcome → SearchTree
  grow_computed goal picked atom left (goes_on bindings) =
      computed (step_past picked bindings (value_computed atom)) (grow (rest_by goal picked bindings) left)
  grow_computed goal picked atom left fails = dead left
  grow_computed goal picked atom left (ends ending) = halted ending left

  -- a ground negation that is selected, by its atom's tree: it fails where that has a success leaf, which ends its visit, and holds where that is done without one
  abbrev pub grow_lacking : Goal → Picked Literal → Atom → SearchTree → Next → SearchTree
  grow_lacking goal picked atom sub Done =
      lacking sub (step_past picked [] (failure_shown atom (whole_of sub))) (grow (rest_goal goal picked) (course_of sub).left)
  grow_lacking goal picked atom sub Answer = trying sub
  grow_lacking goal picked atom sub (Floundered line) = trying sub
  grow_lacking goal picked atom sub (OutOfRange line) = trying sub
  grow_lacking goal picked atom sub Spent = trying sub

  abbrev pub grow_negation : Goal → Picked Literal → Atom → SearchTree → List Leaf → SearchTree
  grow_negation goal picked atom sub [] = grow_lacking goal picked atom sub (course_of sub).ending
  grow_negation goal picked atom sub (leaf ∷ others) = present sub leaf

  -- a gather that is selected, by its atom's tree: where that is done, its result goes on, fails or ends the visit
  abbrev pub grow_folded : Goal → Picked Literal → Form → SearchTree → Outcome → SearchTree
  grow_folded goal picked (Gather fold result value atom) sub (goes_on bindings) =
      gathered sub (step_past picked bindings (cases_gathered fold result value atom (whole_of sub))) (grow (rest_by goal picked bindings) (course_of sub).left)
  grow_folded goal picked form sub (goes_on bindings) = ungathered sub
  grow_folded goal picked form sub fails = ungathered sub
  grow_folded goal picked form sub (ends ending) = unfolded sub ending

  abbrev pub grow_gather : Goal → Picked Literal → Form → SearchTree → Outcome → Next → SearchTree
  grow_gather goal picked form sub outcome Done = grow_folded goal picked form sub outcome
  grow_gather goal picked form sub outcome Answer = gathering sub
  grow_gather goal picked form sub outcome (Floundered line) = gathering sub
  grow_gather goal picked form sub outcome (OutOfRange line) = gathering sub
  grow_gather goal picked form sub outcome Spent = gathering sub

  -- the tree of a goal once a literal of this line and form is selected, with the selections then left
  abbrev pub grow_form : List Clause → Goal → Picked Literal → ℕ → ℕ → Form → SearchTree
  grow_form clauses goal picked left line (Pos atom) =
      let all : List Child = children goal picked atom 1 clauses in
      split atom (length all) (grow_each (length picked.before) atom all left)
  grow_form clauses goal picked left line (Calc atom) = grow_computed goal picked atom left (computing line atom)
  grow_form clauses goal picked left line (Neg atom) =
      let sub : SearchTree = grow (sub_goal goal line atom []) left in
      if is_ground_atom atom then grow_negation goal picked atom sub (leaves (course_of sub)) else halted (Floundered line) left
  grow_form clauses goal picked left line (Gather fold result value atom) =
      let sub : SearchTree = grow (sub_goal goal line atom (value ∷ [])) left in
      if is_covered value atom then grow_gather goal picked (Gather fold result value atom) sub (folding line fold result (leaves (course_of sub))) (course_of sub).ending
      else halted (Floundered line) left

  -- the tree of a goal by its selected literal; where there is none the visit ends, without a selection
  abbrev pub grow_picked : List Clause → Goal → Literal → ℕ → Option (Picked Literal) → SearchTree
  grow_picked clauses goal first left None = halted (Floundered first.line) (suc left)
  grow_picked clauses goal first left (Some picked) = grow_form clauses goal picked left picked.chosen.line picked.chosen.form

  -- the tree of a goal whose literals are these: none is a success leaf; else the selected one takes one selection, and where none is left the budget is spent
  abbrev pub grow_at : Program → Goal → List Literal → ℕ → SearchTree
  grow_at program goal [] left = success goal.terms left
  grow_at program goal (literal ∷ literals) zero = halted Spent 0
  grow_at program goal (literal ∷ literals) (suc left) = grow_picked program.clauses goal literal left (selected program.version (literal ∷ literals))

-- the tree of a goal down to so many literals selected one below the other
abbrev pub grow_within : ℕ → Program → Goal → ℕ → SearchTree
grow_within zero program goal left = halted Spent left
grow_within (suc depth) program goal left = grow_at (grow_within depth program) program goal goal.literals left

-- the search tree of a goal with so many selections, below which there can't be more literals selected
unfoldable pub tree : Program → Goal → ℕ → SearchTree
tree program goal left = grow_within (suc left) program goal left

-- the visit of a goal's search tree
abbrev pub visit : Program → Goal → ℕ → Course
visit program goal left = course_of (tree program goal left)

-- the search of a program with a budget of selections
abbrev pub search_of : Program → ℕ → Course
search_of program budget = visit program (root_of program) budget

-- the answers of a program, as the success leaves of its search
abbrev pub answers_of : Program → ℕ → List Leaf
answers_of program budget = leaves (search_of program budget)

-- how the search of a program ends
abbrev pub end_of : Program → ℕ → Next
end_of program budget = (search_of program budget).ending

-- how many selections the whole search takes
abbrev pub used_of : Program → ℕ → ℕ
used_of program budget = budget - (search_of program budget).left

-- how many selections a search makes up to its answer of this number, counted from 0; none where there is no such answer
abbrev pub selections_at : Program → ℕ → ℕ → Option ℕ
selections_at program budget place = option_map (λ leaf. budget - leaf.left) (slice_get (answers_of program budget) place)

-- what a search answers after so many answers: another one, or its end
abbrev pub next_of : Program → ℕ → ℕ → Next
next_of program budget given = if nat_lt given (length (answers_of program budget)) then Answer else end_of program budget
