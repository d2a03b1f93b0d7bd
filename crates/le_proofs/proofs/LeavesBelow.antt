-- The variables of answers have numbers below 64 for each selection, and the query's 64.
use Rattle.std.proofs.Common.{◌≡◌, ℕ, zero, suc, ◌+◌, ◌*◌, ◌≤◌, ◌<◌, Bool, true, false, List, [], ◌∷◌, ◌++◌, map, length, Option, Some, None, option_map, refl, sym, ap, subst, ◌∙◌, le_refl, mul-le-mul, arith, if◌then◌else◌}
use Rattle.std.specs.List.{AllByRecursion, cons_option}
use Rattle.le_base.specs.declared.stop.FoldKind.{FoldKind}
use Rattle.le_terms.specs.Tree.{Tree}
use Rattle.le_terms.specs.Variables.{occurrences, all_occurrences}
use Rattle.le_terms.specs.Program.{HasVariablesBelow, IsClause, IsProgram, form_terms, literals_terms}
use Rattle.le_terms.specs.declared.program.Atom.{Atom}
use Rattle.le_terms.specs.declared.program.Clause.{Clause}
use Rattle.le_terms.specs.declared.program.Form.{Form}
use Rattle.le_terms.specs.declared.program.Form.TheVariants.{Pos, Neg, Calc, Gather}
use Rattle.le_terms.specs.declared.program.Literal.{Literal}
use Rattle.le_terms.specs.declared.program.Program.{Program}
use Rattle.le_subst.specs.Unifiers.{Bindings}
use Rattle.le_builtins.specs.Compute.{compute}
use Rattle.le_builtins.proofs.Results.{results}
use Rattle.le_gather.specs.Folds.{fold_of}
use Rattle.le_proofs.specs.Goals.{Goal, Picked, Child, is_delayed, selected, children, child_by, head_solution, sub_goal, rest_by, rest_goal, is_ground_atom, root_of}
use Rattle.le_proofs.specs.Proofs.{Step, Leaf, from_above, step_to, step_past, value_computed, failure_shown, cases_gathered}
use Rattle.le_proofs.specs.SearchTree.{SearchTree, Branches, Event, stopped, up_to_first, leaves_of, seen_above, seen_outside, leaves, course_of, course_each, whole_of}
use Rattle.le_proofs.specs.Search.{Outcome, goes_on, fails, ends, computing, folding, value_of, is_covered, branch_before, grow_each, grow_computed, grow_lacking, grow_negation, grow_folded, grow_gather, grow_form, grow_picked, grow_at, grow_within, tree, answers_of}
use Rattle.le_proofs.specs.Lloyd.{Computes, ComputesNothing, FitsBy, MissesBy}
use Rattle.le_proofs.specs.declared.next.Next.{Next}
use Rattle.le_proofs.specs.declared.next.Next.TheVariants.{Answer, Done, Floundered, OutOfRange, Spent}
use Rattle.le_proofs.proofs.Alls.{all-both, all-left}
use Rattle.le_proofs.proofs.Answers.{program-clauses, asked-below}
use Rattle.le_proofs.proofs.Below.{IsBelow, BindsBelow, AnswerBelow, more-below, solution-below, around-below, resolvent-below, rest-below, rest_goal-below}
use Rattle.le_proofs.proofs.Courses.{leaves-append, leaves-outside, leaves-above}
use Rattle.le_proofs.proofs.Growing.{Falls, within-falls}
use Rattle.le_proofs.proofs.Picks.{pick-means}
use Rattle.le_proofs.proofs.Trees.{Means, by-calc, by-folded}

module _ (most : ℕ) where
  -- leaves whose terms have variables with numbers below this one
  abbrev pub AreBelow : List Leaf → Type 0
  AreBelow ls = AllByRecursion (λ leaf. HasVariablesBelow most leaf.terms) ls

  -- a goal whose variables have numbers so low that so many selections keep them below it
  pub record Fits (left : ℕ) (goal : Goal) : Type 0 where
    pub below : IsBelow goal
    pub room : goal.next + 64 * left ≤ most

  below-map : (step : Step) (ls : List Leaf) → AreBelow ls → AreBelow (map (from_above step) ls)
  below-map step [] h = tt
  below-map step (l ∷ ls) h = (h.0, below-map step ls h.1)

  below-above : (step : Step) (events : List Event) → AreBelow (leaves_of events) → AreBelow (leaves_of (map (seen_above step) events))
  below-above step events h = subst AreBelow (sym (leaves-above step events)) (below-map step (leaves_of events) h)

  below-behind : (events others : List Event) → AreBelow (leaves_of others) → AreBelow (leaves_of (map seen_outside events ++ others))
  below-behind events others h = subst AreBelow (sym (leaves-append (map seen_outside events) others ∙ ap (λ ls. ls ++ leaves_of others) (leaves-outside events))) h

  fits-fewer : (k left : ℕ) (goal : Goal) → k ≤ left → Fits left goal → Fits k goal
  fits-fewer k left goal less fit = record { below = fit.below; room = let more : 64 * k ≤ 64 * left = mul-le-mul (le_refl 64) less in omega (arith, fit.room) }

  module _ (grow : Goal → ℕ → SearchTree) (falls : Falls grow) (keeps : (goal : Goal) (left : ℕ) → Fits left goal → AreBelow (leaves (course_of (grow goal left)))) where
    below-branch : (e : Next) (child : Child) (step : Step) (first : SearchTree) (more : ℕ → Branches) → AreBelow (leaves (course_of first)) → AreBelow (leaves (course_each (more (course_of first).left))) → AreBelow (leaves (course_each (branch_before e child step first more)))
    below-branch Done child step first more here there =
        subst AreBelow (sym (leaves-append (map (seen_above step) (course_of first).events) (course_each (more (course_of first).left)).events))
        (all-both (λ leaf. HasVariablesBelow most leaf.terms) (leaves_of (map (seen_above step) (course_of first).events)) (leaves (course_each (more (course_of first).left))) (below-above step (course_of first).events here) there)
    below-branch Answer child step first more here there = below-above step (course_of first).events here
    below-branch (Floundered line) child step first more here there = below-above step (course_of first).events here
    below-branch (OutOfRange line) child step first more here there = below-above step (course_of first).events here
    below-branch Spent child step first more here there = below-above step (course_of first).events here

    below-each : (place : ℕ) (atom : Atom) (others : List Child) (left : ℕ) → AllByRecursion (λ child. Fits left child.goal) others → AreBelow (leaves (course_each (grow_each grow place atom others left)))
    below-each place atom [] left fits = tt
    below-each place atom (child ∷ others) left fits =
        below-branch (course_of (grow child.goal left)).ending child (step_to place atom child) (grow child.goal left) (grow_each grow place atom others) (keeps child.goal left fits.0)
        (below-each place atom others (course_of (grow child.goal left)).left (fewer others fits.1))
      where
        fewer : (cs : List Child) → AllByRecursion (λ child. Fits left child.goal) cs → AllByRecursion (λ c. Fits (course_of (grow child.goal left)).left c.goal) cs
        fewer [] h = tt
        fewer (c ∷ cs) h = (fits-fewer (course_of (grow child.goal left)).left left c.goal (falls child.goal left).end h.0, fewer cs h.1)

    module _ (goal : Goal) (left : ℕ) (fit : Fits (suc left) goal) (picked : Picked Literal) (are : goal.literals ≡ picked.before ++ picked.chosen ∷ picked.behind) where
      form-low : (form : Form) → picked.chosen.form ≡ form → HasVariablesBelow goal.next (form_terms form)
      form-low form is = subst (λ f. HasVariablesBelow goal.next (form_terms f)) is (around-below goal.next picked (subst (λ ls. HasVariablesBelow goal.next (literals_terms ls)) are fit.below.literals)).1

      children-fit : (atom : Atom) → HasVariablesBelow goal.next atom.args → (place : ℕ) (clauses : List Clause) → AllByRecursion IsClause clauses → AllByRecursion (λ child. Fits left child.goal) (children goal picked atom place clauses)
      children-fit atom low place [] all = tt
      children-fit atom low place (clause ∷ clauses) all = by (head_solution goal.next clause atom) (solution-below goal.next clause atom all.0 low) (children-fit atom low (suc place) clauses all.1)
        where
          by : (o : Option Bindings) → AnswerBelow (goal.next + clause.vars) o → AllByRecursion (λ child. Fits left child.goal) (children goal picked atom (suc place) clauses)
              → AllByRecursion (λ child. Fits left child.goal) (cons_option (option_map (child_by goal picked place clause) o) (children goal picked atom (suc place) clauses))
          by (Some bindings) binds rest = (record { below = resolvent-below goal picked clause bindings all.0 fit.below are binds; room = omega (arith, fit.room, all.0.few) }, rest)
          by None binds rest = rest

      rest-fit : (bindings : Bindings) → BindsBelow goal.next bindings → Fits left (rest_by goal picked bindings)
      rest-fit bindings binds = record { below = rest-below goal picked bindings fit.below are binds; room = omega (arith, fit.room) }

      below-computed : (atom : Atom) (outcome : Outcome) (Holds_ : Bindings → Type 0) (Missed : Type 0) → Means goal.next Holds_ Missed outcome → AreBelow (leaves (course_of (grow_computed grow goal picked atom left outcome)))
      below-computed atom (goes_on bindings) Holds_ Missed meant = below-above (step_past picked bindings (value_computed atom)) (course_of (grow (rest_by goal picked bindings) left)).events (keeps (rest_by goal picked bindings) left (rest-fit bindings meant.1))
      below-computed atom fails Holds_ Missed meant = tt
      below-computed atom (ends e) Holds_ Missed meant = tt

      below-lacking : (atom : Atom) (sub : SearchTree) → (course_of sub).left ≤ left → (e : Next) → AreBelow (leaves (course_of (grow_lacking grow goal picked atom sub e)))
      below-lacking atom sub less Done =
          below-behind (course_of sub).events (map (seen_above (step_past picked [] (failure_shown atom (whole_of sub)))) (course_of (grow (rest_goal goal picked) (course_of sub).left)).events)
          (below-above (step_past picked [] (failure_shown atom (whole_of sub))) (course_of (grow (rest_goal goal picked) (course_of sub).left)).events
          (keeps (rest_goal goal picked) (course_of sub).left (fits-fewer (course_of sub).left left (rest_goal goal picked) less (record { below = rest_goal-below goal picked fit.below are; room = omega (arith, fit.room) }))))
      below-lacking atom sub less Answer = below-behind (course_of sub).events [] tt
      below-lacking atom sub less (Floundered line) = below-behind (course_of sub).events [] tt
      below-lacking atom sub less (OutOfRange line) = below-behind (course_of sub).events [] tt
      below-lacking atom sub less Spent = below-behind (course_of sub).events [] tt

      below-negation : (atom : Atom) (sub : SearchTree) → (course_of sub).left ≤ left → (ls : List Leaf) → AreBelow (leaves (course_of (grow_negation grow goal picked atom sub ls)))
      below-negation atom sub less [] = below-lacking atom sub less (course_of sub).ending
      below-negation atom sub less (leaf ∷ ls) = subst AreBelow (sym (leaves-outside (up_to_first (course_of sub).events))) tt

      below-folded : (fold : FoldKind) (result value : Tree) (atom : Atom) (sub : SearchTree) → (course_of sub).left ≤ left → (outcome : Outcome) (Holds_ : Bindings → Type 0) (Missed : Type 0) → Means goal.next Holds_ Missed outcome
          → AreBelow (leaves (course_of (grow_folded grow goal picked (Gather fold result value atom) sub outcome)))
      below-folded fold result value atom sub less (goes_on bindings) Holds_ Missed meant =
          let step : Step = step_past picked bindings (cases_gathered fold result value atom (whole_of sub)) in
          below-behind (course_of sub).events (map (seen_above step) (course_of (grow (rest_by goal picked bindings) (course_of sub).left)).events)
          (below-above step (course_of (grow (rest_by goal picked bindings) (course_of sub).left)).events
          (keeps (rest_by goal picked bindings) (course_of sub).left (fits-fewer (course_of sub).left left (rest_by goal picked bindings) less (rest-fit bindings meant.1))))
      below-folded fold result value atom sub less fails Holds_ Missed meant = below-behind (course_of sub).events [] tt
      below-folded fold result value atom sub less (ends e) Holds_ Missed meant = below-behind (course_of sub).events (stopped ∷ []) tt

      below-gather : (fold : FoldKind) (result value : Tree) (atom : Atom) (sub : SearchTree) → (course_of sub).left ≤ left → (outcome : Outcome) (Holds_ : Bindings → Type 0) (Missed : Type 0) → Means goal.next Holds_ Missed outcome → (e : Next)
          → AreBelow (leaves (course_of (grow_gather grow goal picked (Gather fold result value atom) sub outcome e)))
      below-gather fold result value atom sub less outcome Holds_ Missed meant Done = below-folded fold result value atom sub less outcome Holds_ Missed meant
      below-gather fold result value atom sub less outcome Holds_ Missed meant Answer = below-behind (course_of sub).events [] tt
      below-gather fold result value atom sub less outcome Holds_ Missed meant (Floundered line) = below-behind (course_of sub).events [] tt
      below-gather fold result value atom sub less outcome Holds_ Missed meant (OutOfRange line) = below-behind (course_of sub).events [] tt
      below-gather fold result value atom sub less outcome Holds_ Missed meant Spent = below-behind (course_of sub).events [] tt

      below-form : (clauses : List Clause) → AllByRecursion IsClause clauses → (line : ℕ) (form : Form) → picked.chosen.form ≡ form → AreBelow (leaves (course_of (grow_form grow clauses goal picked left line form)))
      below-form clauses all line (Pos atom) is = below-each (length picked.before) atom (children goal picked atom 1 clauses) left (children-fit atom (form-low (Pos atom) is) 1 clauses all)
      below-form clauses all line (Calc atom) is = below-computed atom (computing line atom) (Computes atom) (ComputesNothing atom) (by-calc goal.next line atom.args (compute atom.pred atom.args) (results atom.pred atom.args) (form-low (Calc atom) is))
      below-form clauses all line (Neg atom) is = by (is_ground_atom atom)
        where
          by : (b : Bool) → AreBelow (leaves (course_of (if b then grow_negation grow goal picked atom (grow (sub_goal goal line atom []) left) (leaves (course_of (grow (sub_goal goal line atom []) left))) else SearchTree.halted (Floundered line) left)))
          by true = below-negation atom (grow (sub_goal goal line atom []) left) (falls (sub_goal goal line atom []) left).end (leaves (course_of (grow (sub_goal goal line atom []) left)))
          by false = tt
      below-form clauses all line (Gather fold result value atom) is = by (is_covered value atom)
        where
          by : (b : Bool) → AreBelow (leaves (course_of (if b then grow_gather grow goal picked (Gather fold result value atom) (grow (sub_goal goal line atom (value ∷ [])) left) (folding line fold result (leaves (course_of (grow (sub_goal goal line atom (value ∷ [])) left)))) (course_of (grow (sub_goal goal line atom (value ∷ [])) left)).ending else SearchTree.halted (Floundered line) left)))
          by true =
              let sub : SearchTree = grow (sub_goal goal line atom (value ∷ [])) left in
              below-gather fold result value atom sub (falls (sub_goal goal line atom (value ∷ [])) left).end (folding line fold result (leaves (course_of sub))) (λ bindings. FitsBy result bindings (fold_of fold (map value_of (leaves (course_of sub))))) (MissesBy result (fold_of fold (map value_of (leaves (course_of sub)))))
              (by-folded goal.next line result (fold_of fold (map value_of (leaves (course_of sub)))) (all-left (λ v. v < goal.next) (occurrences result) (all_occurrences (value ∷ atom.args)) (form-low (Gather fold result value atom) is))) (course_of sub).ending
          by false = tt

    below-at : (program : Program) → AllByRecursion IsClause program.clauses → (goal : Goal) (literals : List Literal) → goal.literals ≡ literals → (left : ℕ) → Fits left goal → AreBelow (leaves (course_of (grow_at grow program goal literals left)))
    below-at program all goal [] is left fit = (more-below goal.next most (omega (arith, fit.room)) goal.terms fit.below.terms, tt)
    below-at program all goal (literal ∷ literals) is zero fit = tt
    below-at program all goal (literal ∷ literals) is (suc left) fit = by (selected program.version (literal ∷ literals)) refl
      where
        by : (o : Option (Picked Literal)) → selected program.version (literal ∷ literals) ≡ o → AreBelow (leaves (course_of (grow_picked grow program.clauses goal literal left o)))
        by None one = tt
        by (Some picked) one =
            below-form goal left fit picked (is ∙ (pick-means (is_delayed program.version) (literal ∷ literals) picked one).all) program.clauses all picked.chosen.line picked.chosen.form refl

  below-within : (program : Program) → AllByRecursion IsClause program.clauses → (depth : ℕ) (goal : Goal) (left : ℕ) → Fits left goal → AreBelow (leaves (course_of (grow_within depth program goal left)))
  below-within program all zero goal left fit = tt
  below-within program all (suc depth) goal left fit = below-at (grow_within depth program) (within-falls program depth) (below-within program all depth) program all goal goal.literals refl left fit

-- the variables of a program's answers have numbers below 64 for each selection, and the query's 64
pub answers-below : (program : Program) (budget : ℕ) → IsProgram program → AreBelow (64 + 64 * budget) (answers_of program budget)
unfolding tree
answers-below program budget is =
    below-within (64 + 64 * budget) program (program-clauses program is) (suc budget) (root_of program) budget
    (record { below = record { literals = is.query_variables; terms = asked-below program.vars program.asked is.asked }; room = omega (arith, is.few) })
