-- A search ends with Spent only where no selection is left, and never with an answer.
use Rattle.std.proofs.Common.{ℕ, zero, suc, ◌<◌, ◌≤◌, Bool, true, false, List, [], ◌∷◌, length, map, Option, Some, None, refl, le_refl, le_trans, arith, if◌then◌else◌}
use Rattle.le_base.specs.declared.stop.FoldKind.{FoldKind}
use Rattle.le_terms.specs.Tree.{Tree, number, tree_of}
use Rattle.le_terms.specs.declared.program.Atom.{Atom}
use Rattle.le_terms.specs.declared.program.Clause.{Clause}
use Rattle.le_terms.specs.declared.program.Form.{Form}
use Rattle.le_terms.specs.declared.program.Form.TheVariants.{Pos, Neg, Calc, Gather}
use Rattle.le_terms.specs.declared.program.Literal.{Literal}
use Rattle.le_terms.specs.declared.program.Program.{Program}
use Rattle.le_subst.specs.Unifiers.{Bindings}
use Rattle.le_subst.specs.Solution.{solve_of}
use Rattle.le_builtins.specs.declared.computing.Calc as computing_of
use Rattle.le_builtins.specs.declared.computing.Calc.TheVariants.{Same, Gives, Holds, No, Unbound, Range}
use Rattle.le_builtins.specs.Compute.{compute, argument}
use Rattle.le_gather.specs.declared.folding.FoldAnswer.{FoldAnswer}
use Rattle.le_gather.specs.Folds.{fold_of}
use Rattle.le_gather.specs.declared.folding.FoldAnswer.TheVariants as folds
use Rattle.le_proofs.specs.Goals.{Goal, Picked, Child, selected, children, sub_goal, rest_by, rest_goal, is_ground_atom}
use Rattle.le_proofs.specs.Proofs.{Step, Leaf, step_to}
use Rattle.le_proofs.specs.SearchTree.{SearchTree, Branches, leaves, course_of, course_each}
use Rattle.le_proofs.specs.Search.{Outcome, goes_on, fails, ends, by_solution, by_answer, computing, by_fold, value_of, folding, is_covered, branch_before, grow_each, grow_computed, grow_lacking, grow_negation, grow_folded, grow_gather, grow_form, grow_picked, grow_at, grow_within}
use Rattle.le_proofs.specs.Laws.{IsEnd}
use Rattle.le_proofs.specs.declared.next.Next.{Next}
use Rattle.le_proofs.specs.declared.next.Next.TheVariants.{Answer, Done, Floundered, OutOfRange, Spent}
use Rattle.le_proofs.proofs.Growing.{Falls, within-falls}

-- what becomes of a computed literal or a fold ends a visit by floundering or out of range alone
abbrev AtLine : Next → Type 0
AtLine Answer = ⊥
AtLine Done = Unit {0}
AtLine (Floundered line) = Unit {0}
AtLine (OutOfRange line) = Unit {0}
AtLine Spent = ⊥

abbrev IsOutcome : Outcome → Type 0
IsOutcome (goes_on bindings) = Unit {0}
IsOutcome fails = Unit {0}
IsOutcome (ends ending) = AtLine ending

at-line : (e : Next) (left : ℕ) → AtLine e → IsEnd e left
at-line Answer left h = h
at-line Done left h = tt
at-line (Floundered line) left h = tt
at-line (OutOfRange line) left h = tt
at-line Spent left h = absurd h

solution-outcome : (found : Option Bindings) → IsOutcome (by_solution found)
solution-outcome None = tt
solution-outcome (Some bindings) = tt

computing-outcome : (line : ℕ) (atom : Atom) → IsOutcome (computing line atom)
computing-outcome line atom = by (compute atom.pred atom.args)
  where
    by : (answer : computing_of.Calc) → IsOutcome (by_answer line atom.args answer)
    by Same = solution-outcome (solve_of ((argument atom.args 0, argument atom.args 1) ∷ []))
    by (Gives symbol) = solution-outcome (solve_of ((argument atom.args 0, tree_of (symbol ∷ [])) ∷ []))
    by Holds = tt
    by No = tt
    by Unbound = tt
    by Range = tt

folding-outcome : (line : ℕ) (fold : FoldKind) (result : Tree) (cases : List Leaf) → IsOutcome (folding line fold result cases)
folding-outcome line fold result cases = by (fold_of fold (map value_of cases))
  where
    by : (answer : FoldAnswer) → IsOutcome (by_fold line result answer)
    by (folds.Value n) = solution-outcome (solve_of ((result, number n) ∷ []))
    by folds.No = tt
    by folds.Unbound = tt
    by folds.Range = tt

module _ (grow : Goal → ℕ → SearchTree) (falls : Falls grow) (most : ℕ) (well : (goal : Goal) (k : ℕ) → k ≤ most → IsEnd (course_of (grow goal k)).ending (course_of (grow goal k)).left) where
  branch-ends : (e : Next) (child : Child) (step : Step) (first : SearchTree) (more : ℕ → Branches) → IsEnd (course_of first).ending (course_of first).left
      → IsEnd (course_each (more (course_of first).left)).ending (course_each (more (course_of first).left)).left
      → IsEnd (course_each (branch_before e child step first more)).ending (course_each (branch_before e child step first more)).left
  branch-ends Done child step first more h rest = rest
  branch-ends Answer child step first more h rest = h
  branch-ends (Floundered line) child step first more h rest = h
  branch-ends (OutOfRange line) child step first more h rest = h
  branch-ends Spent child step first more h rest = h

  each-ends : (place : ℕ) (atom : Atom) (others : List Child) (left : ℕ) → left ≤ most → IsEnd (course_each (grow_each grow place atom others left)).ending (course_each (grow_each grow place atom others left)).left
  each-ends place atom [] left few = tt
  each-ends place atom (child ∷ others) left few =
      branch-ends (course_of (grow child.goal left)).ending child (step_to place atom child) (grow child.goal left) (grow_each grow place atom others)
      (well child.goal left few) (each-ends place atom others (course_of (grow child.goal left)).left (le_trans (falls child.goal left).end few))

  computed-ends : (goal : Goal) (picked : Picked Literal) (atom : Atom) (outcome : Outcome) → IsOutcome outcome → IsEnd (course_of (grow_computed grow goal picked atom most outcome)).ending (course_of (grow_computed grow goal picked atom most outcome)).left
  computed-ends goal picked atom (goes_on bindings) h = well (rest_by goal picked bindings) most (le_refl most)
  computed-ends goal picked atom fails h = tt
  computed-ends goal picked atom (ends ending) h = at-line ending most h

  lacking-ends : (goal : Goal) (picked : Picked Literal) (atom : Atom) (sub : SearchTree) → (course_of sub).left ≤ most → IsEnd (course_of sub).ending (course_of sub).left
      → (e : Next) → IsEnd (course_of (grow_lacking grow goal picked atom sub e)).ending (course_of (grow_lacking grow goal picked atom sub e)).left
  lacking-ends goal picked atom sub few h Done = well (rest_goal goal picked) (course_of sub).left few
  lacking-ends goal picked atom sub few h Answer = h
  lacking-ends goal picked atom sub few h (Floundered line) = h
  lacking-ends goal picked atom sub few h (OutOfRange line) = h
  lacking-ends goal picked atom sub few h Spent = h

  negation-ends : (goal : Goal) (picked : Picked Literal) (atom : Atom) (sub : SearchTree) → (course_of sub).left ≤ most → IsEnd (course_of sub).ending (course_of sub).left
      → (ls : List Leaf) → IsEnd (course_of (grow_negation grow goal picked atom sub ls)).ending (course_of (grow_negation grow goal picked atom sub ls)).left
  negation-ends goal picked atom sub few h [] = lacking-ends goal picked atom sub few h (course_of sub).ending
  negation-ends goal picked atom sub few h (leaf ∷ ls) = tt

  folded-ends : (goal : Goal) (picked : Picked Literal) (form : Form) (sub : SearchTree) → (course_of sub).left ≤ most
      → (outcome : Outcome) → IsOutcome outcome → IsEnd (course_of (grow_folded grow goal picked form sub outcome)).ending (course_of (grow_folded grow goal picked form sub outcome)).left
  folded-ends goal picked (Gather fold result value atom) sub few (goes_on bindings) h = well (rest_by goal picked bindings) (course_of sub).left few
  folded-ends goal picked (Pos atom) sub few (goes_on bindings) h = tt
  folded-ends goal picked (Neg atom) sub few (goes_on bindings) h = tt
  folded-ends goal picked (Calc atom) sub few (goes_on bindings) h = tt
  folded-ends goal picked form sub few fails h = tt
  folded-ends goal picked form sub few (ends ending) h = at-line ending (course_of sub).left h

  gather-ends : (goal : Goal) (picked : Picked Literal) (form : Form) (sub : SearchTree) → (course_of sub).left ≤ most → IsEnd (course_of sub).ending (course_of sub).left
      → (outcome : Outcome) → IsOutcome outcome → (e : Next) → IsEnd (course_of (grow_gather grow goal picked form sub outcome e)).ending (course_of (grow_gather grow goal picked form sub outcome e)).left
  gather-ends goal picked form sub few h outcome is Done = folded-ends goal picked form sub few outcome is
  gather-ends goal picked form sub few h outcome is Answer = h
  gather-ends goal picked form sub few h outcome is (Floundered line) = h
  gather-ends goal picked form sub few h outcome is (OutOfRange line) = h
  gather-ends goal picked form sub few h outcome is Spent = h

  form-ends : (clauses : List Clause) (goal : Goal) (picked : Picked Literal) (line : ℕ) (form : Form) → IsEnd (course_of (grow_form grow clauses goal picked most line form)).ending (course_of (grow_form grow clauses goal picked most line form)).left
  form-ends clauses goal picked line (Pos atom) = each-ends (length picked.before) atom (children goal picked atom 1 clauses) most (le_refl most)
  form-ends clauses goal picked line (Calc atom) = computed-ends goal picked atom (computing line atom) (computing-outcome line atom)
  form-ends clauses goal picked line (Neg atom) = by (is_ground_atom atom)
    where
      by : (b : Bool) → let t : SearchTree = if b then grow_negation grow goal picked atom (grow (sub_goal goal line atom []) most) (leaves (course_of (grow (sub_goal goal line atom []) most))) else SearchTree.halted (Floundered line) most in IsEnd (course_of t).ending (course_of t).left
      by true = negation-ends goal picked atom (grow (sub_goal goal line atom []) most) (falls (sub_goal goal line atom []) most).end (well (sub_goal goal line atom []) most (le_refl most)) (leaves (course_of (grow (sub_goal goal line atom []) most)))
      by false = tt
  form-ends clauses goal picked line (Gather fold result value atom) = by (is_covered value atom)
    where
      by : (b : Bool) → let t : SearchTree = if b then grow_gather grow goal picked (Gather fold result value atom) (grow (sub_goal goal line atom (value ∷ [])) most) (folding line fold result (leaves (course_of (grow (sub_goal goal line atom (value ∷ [])) most)))) (course_of (grow (sub_goal goal line atom (value ∷ [])) most)).ending else SearchTree.halted (Floundered line) most in IsEnd (course_of t).ending (course_of t).left
      by true =
          gather-ends goal picked (Gather fold result value atom) (grow (sub_goal goal line atom (value ∷ [])) most) (falls (sub_goal goal line atom (value ∷ [])) most).end (well (sub_goal goal line atom (value ∷ [])) most (le_refl most))
          (folding line fold result (leaves (course_of (grow (sub_goal goal line atom (value ∷ [])) most)))) (folding-outcome line fold result (leaves (course_of (grow (sub_goal goal line atom (value ∷ [])) most)))) (course_of (grow (sub_goal goal line atom (value ∷ [])) most)).ending
      by false = tt

picked-ends : (grow : Goal → ℕ → SearchTree) → Falls grow → (most : ℕ) → ((goal : Goal) (k : ℕ) → k ≤ most → IsEnd (course_of (grow goal k)).ending (course_of (grow goal k)).left)
    → (clauses : List Clause) (goal : Goal) (first : Literal) (picked : Option (Picked Literal)) → IsEnd (course_of (grow_picked grow clauses goal first most picked)).ending (course_of (grow_picked grow clauses goal first most picked)).left
picked-ends grow falls most well clauses goal first None = tt
picked-ends grow falls most well clauses goal first (Some picked) = form-ends grow falls most well clauses goal picked picked.chosen.line picked.chosen.form

at-ends : (grow : Goal → ℕ → SearchTree) → Falls grow → (program : Program) (goal : Goal) (literals : List Literal) (left : ℕ)
    → ((g : Goal) (k : ℕ) → k < left → IsEnd (course_of (grow g k)).ending (course_of (grow g k)).left)
    → IsEnd (course_of (grow_at grow program goal literals left)).ending (course_of (grow_at grow program goal literals left)).left
at-ends grow falls program goal [] left well = tt
at-ends grow falls program goal (literal ∷ literals) zero well = refl
at-ends grow falls program goal (literal ∷ literals) (suc left) well =
    picked-ends grow falls left (λ g k (less : k ≤ left). well g k (omega arith)) program.clauses goal literal (selected program.version (literal ∷ literals))

-- with more depth than selections a visit ends so
pub within-ends : (program : Program) (depth : ℕ) (goal : Goal) (left : ℕ) → left < depth → IsEnd (course_of (grow_within depth program goal left)).ending (course_of (grow_within depth program goal left)).left
within-ends program zero goal left few = absurd (omega arith)
within-ends program (suc depth) goal left few =
    at-ends (grow_within depth program) (within-falls program depth) program goal goal.literals left (λ g k (less : k < left). within-ends program depth g k (omega arith))
