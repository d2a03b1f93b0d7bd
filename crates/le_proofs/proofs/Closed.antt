-- Terms whose variables have a property, through solutions and the steps of goals.
use Rattle.std.proofs.Common.{◌≡◌, ◌⊎◌, ℕ, ◌==◌, Bool, true, false, cond, List, [], ◌∷◌, ◌++◌, zip, Option, Some, None, sym, subst, inl, inr, option_map}
use Rattle.std.specs.List.{AllByRecursion}
use Rattle.le_terms.specs.Tree.{Tree, constant, number as numeral, date, variable, nil, cell, tree_of}
use Rattle.le_terms.specs.Variables.{occurrences, all_occurrences, replaced}
use Rattle.le_terms.specs.Program.{form_terms, literals_terms}
use Rattle.le_terms.specs.declared.program.Literal.{Literal}
use Rattle.le_subst.specs.Unifiers.{Equation, Bindings, value_at, apply, mapped}
use Rattle.le_subst.specs.Solution.{Move, dropped, split, bound, contradictory, move, one, with_replaced, after, run, to_map, solve_of}
use Rattle.le_subst.proofs.Moves.{Means, means, Binds}
use Rattle.le_subst.proofs.Induction.{Next, by_moves, run-none, run-move}
use Rattle.le_subst.proofs.Replacing.{value_at-mapped}
use Rattle.le_builtins.specs.declared.computing.Calc.{Calc}
use Rattle.le_builtins.specs.declared.computing.Calc.TheVariants.{Same, Gives, Holds, No, Unbound, Range}
use Rattle.le_builtins.specs.Compute.{argument}
use Rattle.le_builtins.proofs.Results.{GivesGround}
use Rattle.le_gather.specs.declared.folding.FoldAnswer.{FoldAnswer}
use Rattle.le_gather.specs.declared.folding.FoldAnswer.TheVariants as folds
use Rattle.le_proofs.specs.Goals.{Picked, terms_under, literals_under, put_in_place}
use Rattle.le_proofs.specs.Search.{Outcome, goes_on, fails, ends, by_solution, by_answer, by_fold}
use Rattle.le_proofs.proofs.Alls.{all-left, all-right, all-both}
use Rattle.le_proofs.proofs.Below.{literals_terms-under, literals_terms-append, all_occurrences-append}

-- each variable of a tree has a property, and each of some trees
abbrev pub Has : (ℕ → Type 0) → Tree → Type 0
Has Q tree = AllByRecursion Q (occurrences tree)

abbrev pub AllHave : (ℕ → Type 0) → List Tree → Type 0
AllHave Q trees = AllByRecursion Q (all_occurrences trees)

-- the terms that variables with a property are replaced by have variables with another one
abbrev pub MapsInto : (ℕ → Type 0) → (ℕ → Type 0) → (ℕ → Tree) → Type 0
MapsInto Q R by = (v : ℕ) → Q v → Has R (by v)

module _ (Q R : ℕ → Type 0) (by : ℕ → Tree) (maps : MapsInto Q R by) where
  pub replaced-has : (tree : Tree) → Has Q tree → Has R (replaced by tree)
  replaced-has (constant n) h = tt
  replaced-has (numeral z) h = tt
  replaced-has (date d) h = tt
  replaced-has (variable v) h = maps v h.0
  replaced-has nil h = tt
  replaced-has (cell head tail) h =
      all-both R (occurrences (replaced by head)) (occurrences (replaced by tail))
      (replaced-has head (all-left Q (occurrences head) (occurrences tail) h)) (replaced-has tail (all-right Q (occurrences head) (occurrences tail) h))

  pub terms-have : (trees : List Tree) → AllHave Q trees → AllHave R (terms_under by trees)
  terms-have [] h = tt
  terms-have (tree ∷ trees) h =
      all-both R (occurrences (replaced by tree)) (all_occurrences (terms_under by trees))
      (replaced-has tree (all-left Q (occurrences tree) (all_occurrences trees) h)) (terms-have trees (all-right Q (occurrences tree) (all_occurrences trees) h))

  pub literals-have : (literals : List Literal) → AllHave Q (literals_terms literals) → AllHave R (literals_terms (literals_under by literals))
  literals-have literals h = subst (AllHave R) (sym (literals_terms-under by literals)) (terms-have (literals_terms literals) h)

module _ (Q : ℕ → Type 0) where
  pub both-have : (trees others : List Tree) → AllHave Q trees → AllHave Q others → AllHave Q (trees ++ others)
  both-have trees others h k = subst (AllByRecursion Q) (sym (all_occurrences-append trees others)) (all-both Q (all_occurrences trees) (all_occurrences others) h k)

  pub front-has : (trees others : List Tree) → AllHave Q (trees ++ others) → AllHave Q trees
  front-has trees others h = all-left Q (all_occurrences trees) (all_occurrences others) (subst (AllByRecursion Q) (all_occurrences-append trees others) h)

  pub back-has : (trees others : List Tree) → AllHave Q (trees ++ others) → AllHave Q others
  back-has trees others h = all-right Q (all_occurrences trees) (all_occurrences others) (subst (AllByRecursion Q) (all_occurrences-append trees others) h)

  abbrev EquationsHave : List Equation → Type 0
  EquationsHave equations = AllByRecursion (λ equation. Has Q equation.0 × Has Q equation.1) equations

  abbrev pub AnswerHas : Option Bindings → Type 0
  AnswerHas (Some bindings) = MapsInto Q Q (value_at bindings)
  AnswerHas None = Unit {0}

  one-has : (v : ℕ) (tree : Tree) → Has Q tree → MapsInto Q Q (one v tree)
  one-has v tree h w is = by (w == v)
    where
      by : (b : Bool) → Has Q (cond b tree (variable w))
      by true = h
      by false = (is, tt)

  with-have : (v : ℕ) (tree : Tree) → Has Q tree → (equations : List Equation) → EquationsHave equations → EquationsHave (with_replaced v tree equations)
  with-have v tree h [] all = tt
  with-have v tree h (equation ∷ equations) all = (
    (replaced-has Q Q (one v tree) (one-has v tree h) equation.0 all.0.0, replaced-has Q Q (one v tree) (one-has v tree h) equation.1 all.0.1),
    with-have v tree h equations all.1,
  )

  bound-has : (v : ℕ) (tree : Tree) → Has Q tree → (answer : Option Bindings) → AnswerHas answer → AnswerHas (option_map (λ bindings. mapped bindings v (apply bindings tree)) answer)
  bound-has v tree h (Some bindings) maps = λ w is. subst (Has Q) (sym (value_at-mapped bindings v (apply bindings tree) w)) (by w is (w == v))
    where
      by : (w : ℕ) → Q w → (b : Bool) → Has Q (cond b (apply bindings tree) (value_at bindings w))
      by w is true = replaced-has Q Q (value_at bindings) maps tree h
      by w is false = maps w is
  bound-has v tree h None maps = tt

  binding-has : (left right : Tree) (v : ℕ) (tree : Tree) → Binds left right v tree → Has Q left → Has Q right → Has Q tree
  binding-has left right v tree binds in_left in_right = by binds.sides
    where
      by : ((left ≡ variable v) × (right ≡ tree)) ⊎ ((right ≡ variable v) × (left ≡ tree)) → Has Q tree
      by (inl (is_left, is_right)) = subst (Has Q) is_right in_right
      by (inr (is_right, is_left)) = subst (Has Q) is_left in_left

  abbrev SolvesSo : List Equation → Type 0
  SolvesSo equations = EquationsHave equations → AnswerHas (solve_of equations)

  move-has : (left right : Tree) (rest : List Equation) (m : Move) → Means m left right → Next SolvesSo m rest → EquationsHave ((left, right) ∷ rest) → AnswerHas (after to_map (run to_map) (run to_map) m rest)
  move-has left right rest dropped meant solves all = solves all.1
  move-has left right rest (split heads tails) meant solves all =
      let in_left : Has Q (cell heads.0 tails.0) = subst (Has Q) meant.0 all.0.0 in
      let in_right : Has Q (cell heads.1 tails.1) = subst (Has Q) meant.1 all.0.1 in
      solves (
        (all-left Q (occurrences heads.0) (occurrences tails.0) in_left, all-left Q (occurrences heads.1) (occurrences tails.1) in_right),
        ((all-right Q (occurrences heads.0) (occurrences tails.0) in_left, all-right Q (occurrences heads.1) (occurrences tails.1) in_right), all.1),
      )
  move-has left right rest (bound v tree) meant solves all =
      let has : Has Q tree = binding-has left right v tree meant all.0.0 all.0.1 in
      bound-has v tree has (solve_of (with_replaced v tree rest)) (solves (with-have v tree has rest all.1))
  move-has left right rest contradictory meant solves all = tt

  -- the solution of equations has no other variables
  solve-has : (equations : List Equation) → SolvesSo equations
  solve-has = by_moves SolvesSo (λ all. subst AnswerHas (sym (run-none to_map)) (λ v is. (is, tt))) (λ left right rest behind all.
      subst AnswerHas (sym (run-move to_map left right rest)) (move-has left right rest (move left right) (means left right) behind all))

  zip-have : (lefts rights : List Tree) → AllHave Q lefts → AllHave Q rights → EquationsHave (zip lefts rights)
  zip-have [] rights h k = tt
  zip-have (left ∷ lefts) [] h k = tt
  zip-have (left ∷ lefts) (right ∷ rights) h k = (
    (all-left Q (occurrences left) (all_occurrences lefts) h, all-left Q (occurrences right) (all_occurrences rights) k),
    zip-have lefts rights (all-right Q (occurrences left) (all_occurrences lefts) h) (all-right Q (occurrences right) (all_occurrences rights) k),
  )

  -- the unifier of arguments
  pub arguments-solved : (lefts rights : List Tree) → AllHave Q lefts → AllHave Q rights → AnswerHas (solve_of (zip lefts rights))
  arguments-solved lefts rights h k = solve-has (zip lefts rights) (zip-have lefts rights h k)

  -- the literals around a selected one, and others in its place
  pub record AroundHas (picked : Picked Literal) : Type 0 where
    pub before : AllHave Q (literals_terms picked.before)
    pub chosen : AllHave Q (form_terms picked.chosen.form)
    pub behind : AllHave Q (literals_terms picked.behind)

  pub around-has : (picked : Picked Literal) → AllHave Q (literals_terms (picked.before ++ picked.chosen ∷ picked.behind)) → AroundHas picked
  around-has picked h =
      let all : AllHave Q (literals_terms picked.before ++ (form_terms picked.chosen.form ++ literals_terms picked.behind)) = subst (AllHave Q) (literals_terms-append picked.before (picked.chosen ∷ picked.behind)) h in
      let rest : AllHave Q (form_terms picked.chosen.form ++ literals_terms picked.behind) = back-has (literals_terms picked.before) (form_terms picked.chosen.form ++ literals_terms picked.behind) all in
      record {
        before = front-has (literals_terms picked.before) (form_terms picked.chosen.form ++ literals_terms picked.behind) all;
        chosen = front-has (form_terms picked.chosen.form) (literals_terms picked.behind) rest;
        behind = back-has (form_terms picked.chosen.form) (literals_terms picked.behind) rest;
      }

  pub put-has : (picked : Picked Literal) (new : List Literal) → AroundHas picked → AllHave Q (literals_terms new) → AllHave Q (literals_terms (put_in_place picked new))
  put-has picked new h fits =
      subst (AllHave Q) (sym (literals_terms-append picked.before (new ++ picked.behind)))
      (both-have (literals_terms picked.before) (literals_terms (new ++ picked.behind)) h.before
      (subst (AllHave Q) (sym (literals_terms-append new picked.behind)) (both-have (literals_terms new) (literals_terms picked.behind) fits h.behind)))

  -- what becomes of computed literals and gathers
  abbrev pub OutcomeHas : Outcome → Type 0
  OutcomeHas (goes_on bindings) = MapsInto Q Q (value_at bindings)
  OutcomeHas fails = Unit {0}
  OutcomeHas (ends next) = Unit {0}

  equation-has : (left right : Tree) → Has Q left → Has Q right → OutcomeHas (by_solution (solve_of ((left, right) ∷ [])))
  equation-has left right in_left in_right = by (solve_of ((left, right) ∷ [])) (solve-has ((left, right) ∷ []) ((in_left, in_right), tt))
    where
      by : (o : Option Bindings) → AnswerHas o → OutcomeHas (by_solution o)
      by (Some bindings) maps = maps
      by None maps = tt

  argument-has : (terms : List Tree) → AllHave Q terms → Has Q (argument terms 0) × Has Q (argument terms 1)
  argument-has [] h = (tt, tt)
  argument-has (t ∷ []) h = (all-left Q (occurrences t) [] h, tt)
  argument-has (t ∷ u ∷ terms) h = (all-left Q (occurrences t) (all_occurrences (u ∷ terms)) h, all-left Q (occurrences u) (all_occurrences terms) (all-right Q (occurrences t) (all_occurrences (u ∷ terms)) h))

  pub by-answer-has : (line : ℕ) (terms : List Tree) (answer : Calc) → GivesGround answer → AllHave Q terms → OutcomeHas (by_answer line terms answer)
  by-answer-has line terms Same ground h = equation-has (argument terms 0) (argument terms 1) (argument-has terms h).0 (argument-has terms h).1
  by-answer-has line terms (Gives symbol) ground h = equation-has (argument terms 0) (tree_of (symbol ∷ [])) (argument-has terms h).0 (subst (AllByRecursion Q) (sym ground) tt)
  by-answer-has line terms Holds ground h = λ v is. (is, tt)
  by-answer-has line terms No ground h = tt
  by-answer-has line terms Unbound ground h = tt
  by-answer-has line terms Range ground h = tt

  pub by-fold-has : (line : ℕ) (result : Tree) (answer : FoldAnswer) → Has Q result → OutcomeHas (by_fold line result answer)
  by-fold-has line result (folds.Value z) h = equation-has result (numeral z) h tt
  by-fold-has line result folds.No h = tt
  by-fold-has line result folds.Unbound h = tt
  by-fold-has line result folds.Range h = tt
