-- The terms of a search have names that can be quoted, and numbers and dates in range: unification, computing and gathering make no new constant, and no number or date out of range.
use Rattle.std.proofs.Common.{◌≡◌, ℕ, zero, suc, ◌<◌, ◌≤◌, ◌^◌, ◌==◌, Bool, true, false, cond, List, [], ◌∷◌, map, zip, length, slice_index_or, Option, Some, None, option_map, refl, sym, subst, inl, inr, ◌⊎◌, if◌then◌else◌, ℤ, pos, ◌+ℤ◌, ◌-ℤ◌, ◌*ℤ◌}
use Rattle.std.specs.Prelude.{IfSome}
use Rattle.std.specs.List.{AllByRecursion}
use Rattle.std.specs.Ordering.{int_eq}
use Rattle.std.proofs.lemmas.List.{length-map}
use Rattle.le_base.specs.declared.stop.FoldKind.{FoldKind}
use Rattle.le_layout.specs.Written.{IsQuotable}
use Rattle.le_base.specs.Ranges.{IsNumber, IsDay}
use Rattle.le_terms.specs.Tree.{Tree, constant, number as numeral, date, variable, nil, cell, tree_of, IsInRange}
use Rattle.le_terms.specs.Variables.{replaced}
use Rattle.le_terms.specs.declared.term.Sym.TheVariants.{Num}
use Rattle.le_terms.specs.declared.program.Atom.{Atom}
use Rattle.le_terms.specs.declared.program.Clause.{Clause}
use Rattle.le_values.specs.Numbers.{is_number}
use Rattle.le_values.specs.Days.{days_later, months_later}
use Rattle.le_subst.specs.Unifiers.{Equation, Bindings, value_at, apply, mapped}
use Rattle.le_subst.specs.Solution.{Move, dropped, split, bound, contradictory, move, one, with_replaced, after, run, to_map, solve_of}
use Rattle.le_subst.proofs.Moves.{Means, means, Binds}
use Rattle.le_subst.proofs.Induction.{Next, by_moves, run-none, run-move}
use Rattle.le_subst.proofs.Replacing.{value_at-mapped}
use Rattle.le_builtins.specs.declared.computing.Calc.{Calc}
use Rattle.le_builtins.specs.declared.computing.Calc.TheVariants.{Same, Gives, Holds, No, Unbound, Range}
use Rattle.le_builtins.specs.Compute.{compute, argument, value_at as value_of, truth, result, number_result, date_result, says, settled}
use Rattle.le_builtins.specs.Numbers.{floor_quotient}
use Rattle.le_builtins.specs.Lists.{list_length}
use Rattle.le_builtins.specs.Sentences.{sentences, sentence_of, needs, is_unbound, is_other_kind, is_some_so}
use Rattle.le_gather.specs.declared.folding.FoldAnswer.{FoldAnswer}
use Rattle.le_gather.specs.declared.folding.FoldAnswer.TheVariants as folds
use Rattle.le_gather.specs.Folds.{fold_of}
use Rattle.le_match.specs.Sayable.{IsTermToSay, AreTermsToSay}
use Rattle.le_proofs.specs.Goals.{terms_under, head_equations, head_solution, raised}
use Rattle.le_proofs.specs.Proofs.{Leaf}
use Rattle.le_proofs.specs.Search.{Outcome, goes_on, fails, ends, by_solution, by_answer, by_fold, folding, value_of as value_at_leaf}
use Rattle.le_english.proofs.RangeLemmas.{number-inside, later-inside, months-inside, FoldInside, fold-inside}

-- a symbol that is given is a number or a day that a term may have
abbrev IsValue : Tree → Type 0
IsValue (numeral z) = IsNumber z
IsValue (date d) = IsDay d
IsValue tree = ⊥

abbrev GivesValue : Calc → Type 0
GivesValue (Gives symbol) = IsValue (tree_of (symbol ∷ []))
GivesValue answer = Unit {0}

number-value : (n : ℤ) → GivesValue (settled (number_result n))
number-value n = by (is_number n) refl
  where
    by : (b : Bool) → is_number n ≡ b → GivesValue (settled (result (if b then Some (Num n) else None)))
    by true test = number-inside n test
    by false test = tt

date-value : (day : Option ℤ) → IfSome day IsDay → GivesValue (settled (date_result day))
date-value (Some d) inside = inside
date-value None inside = tt

truth-value : (b : Bool) → GivesValue (settled (truth b))
truth-value true = tt
truth-value false = tt

quotient-value : (x y : ℤ) → GivesValue (settled (if int_eq y (pos 0) then truth false else number_result (floor_quotient x y)))
quotient-value x y = by (int_eq y (pos 0))
  where
    by : (b : Bool) → GivesValue (settled (if b then truth false else number_result (floor_quotient x y)))
    by true = tt
    by false = number-value (floor_quotient x y)

-- what is said of each predefined sentence
says-value : AllByRecursion (λ sentence. (terms : List Tree) → GivesValue (settled (says sentence terms))) sentences
says-value = (
  λ terms. tt,
  (
    λ terms. truth-value _,
    (
      λ terms. truth-value _,
      (
        λ terms. truth-value _,
        (
          λ terms. truth-value _,
          (
            λ terms. truth-value _,
            (
              λ terms. truth-value _,
              (
                λ terms. truth-value _,
                (
                  λ terms. truth-value _,
                  (
                    λ terms. truth-value _,
                    (
                      λ terms. number-value (value_of terms 1 +ℤ value_of terms 2),
                      (
                        λ terms. number-value (value_of terms 1 -ℤ value_of terms 2),
                        (
                          λ terms. number-value (value_of terms 1 *ℤ value_of terms 2),
                          (
                            λ terms. quotient-value (value_of terms 1) (value_of terms 2),
                            (
                              λ terms. date-value (days_later (value_of terms 2) (value_of terms 1)) (later-inside (value_of terms 2) (value_of terms 1)),
                              (
                                λ terms. date-value (months_later (value_of terms 2) (value_of terms 1)) (months-inside (value_of terms 2) (value_of terms 1)),
                                (
                                  λ terms. number-value (value_of terms 2 -ℤ value_of terms 1),
                                  (
                                    λ terms. number-value (pos (list_length (argument terms 1))),
                                    tt,
                                  ),
                                ),
                              ),
                            ),
                          ),
                        ),
                      ),
                    ),
                  ),
                ),
              ),
            ),
          ),
        ),
      ),
    ),
  ),
)

all-at : {X : Type 0} (P : X → Type 0) (xs : List X) (n : ℕ) (x : X) → AllByRecursion P xs → P x → P (slice_index_or xs n x)
all-at P [] n x all h = h
all-at P (y ∷ xs) zero x all h = all.0
all-at P (y ∷ xs) (suc n) x all h = all-at P xs n x all.1 h

gives-value : (pred : ℕ) (terms : List Tree) → GivesValue (compute pred terms)
unfolding compute
gives-value pred terms = by (is_some_so is_unbound (needs (sentence_of pred)) terms) (is_some_so is_other_kind (needs (sentence_of pred)) terms)
  where
    by : (b c : Bool) → GivesValue (if b then Unbound else (if c then No else settled (says (sentence_of pred) terms)))
    by true c = tt
    by false true = tt
    by false false = all-at (λ sentence. (ts : List Tree) → GivesValue (settled (says sentence ts))) sentences pred _ says-value (λ ts. tt) terms

module _ (names : List (List ℕ)) where
  -- each constant of a term has a name that can be quoted, and its numbers and days are in range
  abbrev pub IsNamed : Tree → Type 0
  IsNamed (constant n) = (n < length names) × IsQuotable (slice_index_or names n [])
  IsNamed (numeral z) = IsNumber z
  IsNamed (date d) = IsDay d
  IsNamed (variable v) = Unit {0}
  IsNamed nil = Unit {0}
  IsNamed (cell head tail) = IsNamed head × IsNamed tail

  abbrev pub AreNamed : List Tree → Type 0
  AreNamed trees = AllByRecursion IsNamed trees

  -- so has each term that some variables are replaced by
  abbrev pub MapsNamed : (ℕ → Tree) → Type 0
  MapsNamed by = (v : ℕ) → IsNamed (by v)

  pub term-named : (tree : Tree) → IsTermToSay names tree → IsNamed tree
  term-named (constant n) h = h
  term-named (numeral z) h = h
  term-named (date d) h = h
  term-named (variable v) h = tt
  term-named nil h = tt
  term-named (cell head tail) h = (term-named head h.0, term-named tail h.1)

  pub named-in-range : (tree : Tree) → IsNamed tree → IsInRange tree
  named-in-range (constant n) h = tt
  named-in-range (numeral z) h = h
  named-in-range (date d) h = h
  named-in-range (variable v) h = tt
  named-in-range nil h = tt
  named-in-range (cell head tail) h = (named-in-range head h.0, named-in-range tail h.1)

  pub terms-named : (trees : List Tree) → AreTermsToSay names trees → AreNamed trees
  terms-named [] h = tt
  terms-named (tree ∷ trees) h = (term-named tree h.0, terms-named trees h.1)

  pub replaced-named : (by : ℕ → Tree) → MapsNamed by → (tree : Tree) → IsNamed tree → IsNamed (replaced by tree)
  replaced-named by maps (constant n) h = h
  replaced-named by maps (numeral z) h = h
  replaced-named by maps (date d) h = h
  replaced-named by maps (variable v) h = maps v
  replaced-named by maps nil h = tt
  replaced-named by maps (cell head tail) h = (replaced-named by maps head h.0, replaced-named by maps tail h.1)

  pub under-named : (by : ℕ → Tree) → MapsNamed by → (trees : List Tree) → AreNamed trees → AreNamed (terms_under by trees)
  under-named by maps [] h = tt
  under-named by maps (tree ∷ trees) h = (replaced-named by maps tree h.0, under-named by maps trees h.1)

  -- ---- equations and their solutions

  abbrev AreNamedEquations : List Equation → Type 0
  AreNamedEquations equations = AllByRecursion (λ equation. IsNamed equation.0 × IsNamed equation.1) equations

  abbrev pub AnswerNamed : Option Bindings → Type 0
  AnswerNamed (Some bindings) = MapsNamed (value_at bindings)
  AnswerNamed None = Unit {0}

  one-named : (v : ℕ) (tree : Tree) → IsNamed tree → MapsNamed (one v tree)
  one-named v tree h w = by (w == v)
    where
      by : (b : Bool) → IsNamed (cond b tree (variable w))
      by true = h
      by false = tt

  with-named : (v : ℕ) (tree : Tree) → IsNamed tree → (equations : List Equation) → AreNamedEquations equations → AreNamedEquations (with_replaced v tree equations)
  with-named v tree h [] all = tt
  with-named v tree h (equation ∷ equations) all = (
    (replaced-named (one v tree) (one-named v tree h) equation.0 all.0.0, replaced-named (one v tree) (one-named v tree h) equation.1 all.0.1),
    with-named v tree h equations all.1,
  )

  bound-named : (v : ℕ) (tree : Tree) → IsNamed tree → (answer : Option Bindings) → AnswerNamed answer → AnswerNamed (option_map (λ bindings. mapped bindings v (apply bindings tree)) answer)
  bound-named v tree h (Some bindings) maps = λ w. subst IsNamed (sym (value_at-mapped bindings v (apply bindings tree) w)) (by w (w == v))
    where
      by : (w : ℕ) (b : Bool) → IsNamed (cond b (apply bindings tree) (value_at bindings w))
      by w true = replaced-named (value_at bindings) maps tree h
      by w false = maps w
  bound-named v tree h None maps = tt

  -- the term of a binding
  binding-named : (left right : Tree) (v : ℕ) (tree : Tree) → Binds left right v tree → IsNamed left → IsNamed right → IsNamed tree
  binding-named left right v tree binds in_left in_right = by binds.sides
    where
      by : ((left ≡ variable v) × (right ≡ tree)) ⊎ ((right ≡ variable v) × (left ≡ tree)) → IsNamed tree
      by (inl (is_left, is_right)) = subst IsNamed is_right in_right
      by (inr (is_right, is_left)) = subst IsNamed is_left in_left

  abbrev SolvesNamed : List Equation → Type 0
  SolvesNamed equations = AreNamedEquations equations → AnswerNamed (solve_of equations)

  move-named : (left right : Tree) (rest : List Equation) (m : Move) → Means m left right → Next SolvesNamed m rest → AreNamedEquations ((left, right) ∷ rest) → AnswerNamed (after to_map (run to_map) (run to_map) m rest)
  move-named left right rest dropped meant solves all = solves all.1
  move-named left right rest (split heads tails) meant solves all =
      let in_left : IsNamed (cell heads.0 tails.0) = subst IsNamed meant.0 all.0.0 in
      let in_right : IsNamed (cell heads.1 tails.1) = subst IsNamed meant.1 all.0.1 in
      solves ((in_left.0, in_right.0), ((in_left.1, in_right.1), all.1))
  move-named left right rest (bound v tree) meant solves all =
      let named : IsNamed tree = binding-named left right v tree meant all.0.0 all.0.1 in
      bound-named v tree named (solve_of (with_replaced v tree rest)) (solves (with-named v tree named rest all.1))
  move-named left right rest contradictory meant solves all = tt

  solve-named : (equations : List Equation) → SolvesNamed equations
  solve-named = by_moves SolvesNamed (λ all. subst AnswerNamed (sym (run-none to_map)) (λ v. tt)) (λ left right rest behind all.
      subst AnswerNamed (sym (run-move to_map left right rest)) (move-named left right rest (move left right) (means left right) behind all))

  zip-named : (lefts rights : List Tree) → AreNamed lefts → AreNamed rights → AreNamedEquations (zip lefts rights)
  zip-named [] rights h k = tt
  zip-named (left ∷ lefts) [] h k = tt
  zip-named (left ∷ lefts) (right ∷ rights) h k = ((h.0, k.0), zip-named lefts rights h.1 k.1)

  -- the unifier of a clause's head, renamed apart, and an atom
  pub head-named : (next : ℕ) (clause : Clause) (atom : Atom) → AreNamed clause.head.args → AreNamed atom.args → AnswerNamed (head_solution next clause atom)
  head-named next clause atom head args = by (clause.head.pred == atom.pred)
    where
      by : (b : Bool) → AnswerNamed (if b then solve_of (head_equations next clause atom) else None)
      by true = solve-named (head_equations next clause atom) (zip-named (terms_under (raised next) clause.head.args) atom.args (under-named (raised next) (λ v. tt) clause.head.args head) args)
      by false = tt

  -- ---- outcomes

  abbrev pub OutcomeNamed : Outcome → Type 0
  OutcomeNamed (goes_on bindings) = MapsNamed (value_at bindings)
  OutcomeNamed fails = Unit {0}
  OutcomeNamed (ends next) = Unit {0}

  equation-named : (left right : Tree) → IsNamed left → IsNamed right → OutcomeNamed (by_solution (solve_of ((left, right) ∷ [])))
  equation-named left right in_left in_right = by (solve_of ((left, right) ∷ [])) (solve-named ((left, right) ∷ []) ((in_left, in_right), tt))
    where
      by : (o : Option Bindings) → AnswerNamed o → OutcomeNamed (by_solution o)
      by (Some bindings) maps = maps
      by None maps = tt

  argument-named : (terms : List Tree) → AreNamed terms → IsNamed (argument terms 0) × IsNamed (argument terms 1)
  argument-named [] h = (tt, tt)
  argument-named (t ∷ []) h = (h.0, tt)
  argument-named (t ∷ u ∷ terms) h = (h.0, h.1.0)

  value-named : (tree : Tree) → IsValue tree → IsNamed tree
  value-named (numeral z) is = is
  value-named (date d) is = is
  value-named (constant n) is = absurd is
  value-named (variable v) is = absurd is
  value-named nil is = absurd is
  value-named (cell head tail) is = absurd is

  by-answer-named : (line : ℕ) (terms : List Tree) (answer : Calc) → GivesValue answer → AreNamed terms → OutcomeNamed (by_answer line terms answer)
  by-answer-named line terms Same given h = let both = argument-named terms h in equation-named (argument terms 0) (argument terms 1) both.0 both.1
  by-answer-named line terms (Gives symbol) given h = equation-named (argument terms 0) (tree_of (symbol ∷ [])) (argument-named terms h).0 (value-named (tree_of (symbol ∷ [])) given)
  by-answer-named line terms Holds given h = λ v. tt
  by-answer-named line terms No given h = tt
  by-answer-named line terms Unbound given h = tt
  by-answer-named line terms Range given h = tt

  pub computing-named : (line : ℕ) (atom : Atom) → AreNamed atom.args → OutcomeNamed (by_answer line atom.args (compute atom.pred atom.args))
  computing-named line atom h = by-answer-named line atom.args (compute atom.pred atom.args) (gives-value atom.pred atom.args) h

  by-fold-named : (line : ℕ) (shown : Tree) (answer : FoldAnswer) → FoldInside answer → IsNamed shown → OutcomeNamed (by_fold line shown answer)
  by-fold-named line shown (folds.Value z) inside h = equation-named shown (numeral z) h inside
  by-fold-named line shown folds.No inside h = tt
  by-fold-named line shown folds.Unbound inside h = tt
  by-fold-named line shown folds.Range inside h = tt

  pub folding-named : (line : ℕ) (fold : FoldKind) (shown : Tree) (cases : List Leaf) → AllByRecursion (λ leaf. AreNamed leaf.terms) cases → length cases ≤ 10 ^ 18 → IsNamed shown → OutcomeNamed (folding line fold shown cases)
  folding-named line fold shown cases all few h =
      by-fold-named line shown (fold_of fold (map value_at_leaf cases)) (fold-inside fold (map value_at_leaf cases) (inside cases all) (subst (λ n. n ≤ 10 ^ 18) (sym (length-map cases value_at_leaf)) few)) h
    where
      inside : (leaves : List Leaf) → AllByRecursion (λ leaf. AreNamed leaf.terms) leaves → AllByRecursion IsInRange (map value_at_leaf leaves)
      inside [] all = tt
      inside (leaf ∷ leaves) all = (named-in-range (value_at_leaf leaf) (argument-named leaf.terms all.0).0, inside leaves all.1)
