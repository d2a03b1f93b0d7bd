-- The steps of the relation are steps of the replay, between states that are alike.
use Rattle.std.proofs.Common.{◌≡◌, ℕ, ◌+◌, ◌<◌, ◌≤◌, ◌==◌, Bool, true, false, List, [], ◌∷◌, ◌++◌, zip, length, Option, Some, None, refl, sym, ap, ◌∙◌, subst, arith}
use Rattle.std.specs.Prelude.{nat_lt}
use Rattle.std.specs.List.{AllByRecursion, list_any}
use Rattle.std.proofs.lemmas.Bool.{ltb-true, ltb-false}
use Rattle.std.proofs.lemmas.List.{length-map}
use Rattle.le_terms.specs.Tree.{Tree, variable, tree_of, number as numeral}
use Rattle.le_terms.specs.Variables.{occurrences, all_occurrences, replaced}
use Rattle.le_terms.specs.Program.{HasVariablesBelow, IsLiteral, IsProgramClause, clause_terms, form_terms, literals_terms}
use Rattle.le_terms.specs.declared.program.Atom.{Atom}
use Rattle.le_terms.specs.declared.program.Clause.{Clause}
use Rattle.le_terms.specs.declared.program.Form.{Form}
use Rattle.le_terms.specs.declared.program.Form.TheVariants.{Pos}
use Rattle.le_terms.specs.declared.program.Literal.{Literal}
use Rattle.le_terms.specs.declared.program.Program.{Program}
use Rattle.le_subst.specs.Unifiers.{Bindings, value_at, Unifies, IsMgu}
use Rattle.le_subst.specs.Solution.{solve_of}
use Rattle.le_subst.proofs.Mgu.{Solves, solves}
use Rattle.le_subst.proofs.Replacing.{replaced-agree, replaced-replaced}
use Rattle.le_builtins.specs.declared.computing.Calc as computing_of
use Rattle.le_builtins.specs.declared.computing.Calc.TheVariants.{Same, Gives, Holds, No, Unbound, Range}
use Rattle.le_builtins.specs.Compute.{argument}
use Rattle.le_builtins.proofs.Results.{GivesGround}
use Rattle.le_builtins.proofs.Variants.{Round, Rounds, rounds, argument-under, argument-round}
use Rattle.le_gather.specs.declared.folding.FoldAnswer.TheVariants as folds
use Rattle.le_gather.specs.declared.folding.FoldAnswer.{FoldAnswer}
use Rattle.le_proofs.specs.Goals.{Goal, Picked, put_in_place, terms_under, atom_under, literal_under, literals_under, raised, head_solution}
use Rattle.le_proofs.specs.Search.{goes_on, fails, by_solution, by_answer, by_fold}
use Rattle.le_proofs.specs.Lloyd.{named, map_variables, Resolves, HeadUnifies, seen_by, HoldsBy, FailsBy, NeverEqual, FitsBy, MissesBy}
use Rattle.le_proofs.proofs.Alls.{all-both, all-left, all-right, all-weaken}
use Rattle.le_proofs.proofs.Apart.{resolves, never-unifies}
use Rattle.le_proofs.proofs.Below.{Below, BindsBelow, AnswerBelow, solution-below, solve-below}
use Rattle.le_proofs.proofs.Variants.{replaced-there, terms-terms, in-itself}
use Rattle.le_proofs.proofs.Trees.{replaced-same}
use Rattle.le_proofs.proofs.Instances.{after_by, literals-around, literals-twice, terms-hold, literals-hold, terms-split, picked_map}
use Rattle.le_proofs.proofs.Alike.{In, in-later, in-first, value-in, inside-under, Tied, tied-tree, Alike, literals-right, chosen-tied, chosen-right, stepped, clause-instance, equation-instance}

-- terms whose variables are tied come back
pub tied-round : (seen : List ℕ) (to back : ℕ → Tree) (next : ℕ) (t : Tree) → AllByRecursion (Tied seen to back next) (occurrences t) → Round to back t
tied-round seen to back next t all =
    replaced-replaced to back t
    ∙ (replaced-there (after_by to back) variable t (all-weaken (Tied seen to back next) (λ v. replaced back (to v) ≡ variable v) (λ v tied. tied.round) (occurrences t) all) ∙ replaced-same t)

pub tied-rounds : (seen : List ℕ) (to back : ℕ → Tree) (next : ℕ) (ts : List Tree) → AllByRecursion (Tied seen to back next) (all_occurrences ts) → Rounds to back ts
tied-rounds seen to back next [] all = tt
tied-rounds seen to back next (t ∷ ts) all =
    (tied-round seen to back next t (all-left (Tied seen to back next) (occurrences t) (all_occurrences ts) all), tied-rounds seen to back next ts (all-right (Tied seen to back next) (occurrences t) (all_occurrences ts) all))

pub tied-low : (seen : List ℕ) (to back : ℕ → Tree) (next : ℕ) (ts : List Tree) → AllByRecursion (Tied seen to back next) (all_occurrences ts) → HasVariablesBelow next (terms_under to ts)
tied-low seen to back next ts all = terms-hold (Tied seen to back next) (λ w. w < next) to (λ v tied. tied.low) ts all

terms-inside : (Q : ℕ → Type 0) (f : ℕ → Tree) (ts : List Tree) → AllByRecursion Q (all_occurrences (terms_under f ts)) → AllByRecursion (λ v. AllByRecursion Q (occurrences (f v))) (all_occurrences ts)
terms-inside Q f [] all = tt
terms-inside Q f (t ∷ ts) all =
    all-both (λ v. AllByRecursion Q (occurrences (f v))) (occurrences t) (all_occurrences ts)
    (inside-under Q f t (all-left Q (occurrences (replaced f t)) (all_occurrences (terms_under f ts)) all))
    (terms-inside Q f ts (all-right Q (occurrences (replaced f t)) (all_occurrences (terms_under f ts)) all))

-- terms that are unified one by one
pub zip-unified : (by : ℕ → Tree) (xs ys : List Tree) → length xs ≡ length ys → Unifies by (zip xs ys) → terms_under by xs ≡ terms_under by ys
zip-unified by [] [] same u = refl
zip-unified by [] (y ∷ ys) same u = absurd (cc same)
zip-unified by (x ∷ xs) [] same u = absurd (cc same)
zip-unified by (x ∷ xs) (y ∷ ys) same u = ap (λ t. t ∷ terms_under by xs) u.0 ∙ ap (λ ts. replaced by y ∷ ts) (zip-unified by xs ys (cc same) u.1)

pub is-low : (v n : ℕ) → v < n → nat_lt v n ≡ true
is-low v n less = by (nat_lt v n) refl
  where
    by : (b : Bool) → nat_lt v n ≡ b → b ≡ true
    by true test = refl
    by false test = absurd (let high : n ≤ v = ltb-false v n test in omega arith)

is-high : (n v : ℕ) → nat_lt (n + v) n ≡ false
is-high n v = by (nat_lt (n + v) n) refl
  where
    by : (b : Bool) → nat_lt (n + v) n ≡ b → b ≡ false
    by true test = absurd (let low : n + v < n = ltb-true (n + v) n test in omega arith)
    by false test = refl

-- a head that unifies has a solution
pub has-solution : (next : ℕ) (clause : Clause) (atom : Atom) → HasVariablesBelow next atom.args → HeadUnifies clause atom → (other : Bindings) × (head_solution next clause atom ≡ Some other)
has-solution next clause atom low unifies = by (head_solution next clause atom) refl
  where
    by : (o : Option Bindings) → head_solution next clause atom ≡ o → (other : Bindings) × (head_solution next clause atom ≡ Some other)
    by (Some other) same = (other, same)
    by None same = absurd (never-unifies next clause atom low same unifies)

module _ (arity : ℕ → ℕ) (predicates : ℕ) (seen : List ℕ) (literals : List Literal) (kept : List Tree) (goal : Goal) (alike : Alike arity predicates seen literals kept goal) (picked : Picked Literal) (parts : literals ≡ picked.before ++ picked.chosen ∷ picked.behind) where
  abbrev Ties : ℕ → Type 0
  Ties = Tied seen alike.to alike.back goal.next

  pub form-tied : (form : Form) → picked.chosen.form ≡ form → AllByRecursion Ties (all_occurrences (form_terms form))
  form-tied form is = subst (λ f. AllByRecursion Ties (all_occurrences (form_terms f))) is (chosen-tied arity predicates seen literals kept goal alike picked parts)

  pub form-right : (form : Form) → picked.chosen.form ≡ form → IsLiteral arity predicates (record { line = picked.chosen.line; form = form })
  form-right form is = subst (λ f. IsLiteral arity predicates (record { line = picked.chosen.line; form = f })) is (chosen-right arity predicates seen literals kept goal alike picked parts)

  -- a head that unifies with an atom unifies with its variant
  pub unifies-too : (program : Program) (atom : Atom) → picked.chosen.form ≡ Pos atom → (number : ℕ) (clause : Clause) (names : ℕ → ℕ) (unifier : Bindings) → IsProgramClause arity predicates clause → Resolves program seen atom number clause names unifier
      → HeadUnifies clause (atom_under alike.to atom)
  unifies-too program atom form number clause names unifier is step =
      let tied : AllByRecursion Ties (all_occurrences atom.args) = form-tied (Pos atom) form in
      let lengths : length (terms_under (named names) clause.head.args) ≡ length atom.args = length-map clause.head.args (replaced (named names)) ∙ (is.head.1 ∙ (ap arity step.predicate ∙ sym (form-right (Pos atom) form).1.1)) in (
        step.predicate,
        λ v. value_at unifier (names v),
        after_by alike.back (value_at unifier),
        sym (terms-terms (named names) (value_at unifier) clause.head.args)
            ∙ (zip-unified (value_at unifier) (terms_under (named names) clause.head.args) atom.args lengths step.unifier_.unifies
            ∙ (ap (terms_under (value_at unifier)) (sym (rounds alike.to alike.back atom.args (tied-rounds seen alike.to alike.back goal.next atom.args tied)))
            ∙ terms-terms alike.back (value_at unifier) (terms_under alike.to atom.args))),
      )

  -- a step by a clause
  pub clause-step : (program : Program) (atom : Atom) → picked.chosen.form ≡ Pos atom → (number : ℕ) (clause : Clause) (names : ℕ → ℕ) (unifier : Bindings) → IsProgramClause arity predicates clause → Resolves program seen atom number clause names unifier
      → (other : Bindings) → head_solution goal.next clause (atom_under alike.to atom) ≡ Some other
      → Alike arity predicates (seen_by seen clause names unifier) (literals_under (value_at unifier) (put_in_place picked (literals_under (named names) clause.body))) (terms_under (value_at unifier) (form_terms picked.chosen.form ++ kept))
      (record { next = goal.next + clause.vars; literals = literals_under (value_at other) (put_in_place (picked_map (literal_under alike.to) picked) (literals_under (raised goal.next) clause.body)); terms = terms_under (value_at other) (terms_under alike.to (form_terms picked.chosen.form) ++ goal.terms) })
  clause-step program atom form number clause names unifier is step other solved =
      let next : ℕ = goal.next in
      let vars : ℕ = clause.vars in
      let tied : AllByRecursion Ties (all_occurrences atom.args) = form-tied (Pos atom) form in
      let args : List Tree = terms_under alike.to atom.args in
      let low : HasVariablesBelow next args = tied-low seen alike.to alike.back next atom.args tied in
      let solution : Resolves program [] (atom_under alike.to atom) number clause (λ v. next + v) other = resolves program [] next number clause (atom_under alike.to atom) other step.clause_ tt solved in
      let binds : BindsBelow (next + vars) other = subst (AnswerBelow (next + vars)) solved (solution-below next clause (atom_under alike.to atom) is.variables low) in
      let parts_low : HasVariablesBelow vars clause.head.args × HasVariablesBelow vars (literals_terms clause.body) = terms-split (λ v. v < vars) clause.head.args (literals_terms clause.body) is.variables.variables in
      let there : (h : ℕ → Tree) × ((v : ℕ) → In seen v → replaced (value_at other) (alike.to v) ≡ replaced h (value_at unifier v)) × ((v : ℕ) → v < vars → value_at other (next + v) ≡ replaced h (value_at unifier (names v))) =
      clause-instance vars names (λ v. next + v) step.variant.distinct (λ v. list_any (λ w. v == w) seen) step.variant.apart unifier other alike.to clause.head.args atom.args parts_low.0
      (all-weaken Ties (In seen) (λ v t. t.there) (all_occurrences atom.args) tied) step.unifier_ solution.unifier_.unifies in
      let again : (h : ℕ → Tree) × ((w : ℕ) → nat_lt w next ≡ true → replaced (value_at unifier) (alike.back w) ≡ replaced h (value_at other w)) × ((v : ℕ) → v < vars → value_at unifier (names v) ≡ replaced h (value_at other (next + v))) =
      clause-instance vars (λ v. next + v) names (λ v w low_v low_w (same : next + v ≡ next + w). omega arith) (λ w. nat_lt w next) (λ v less. is-high next v) other unifier alike.back clause.head.args args parts_low.0
      (all-weaken (λ w. w < next) (λ w. nat_lt w next ≡ true) (λ w less. is-low w next less) (all_occurrences args) low) solution.unifier_
      (subst (λ ts. Unifies (value_at unifier) (zip (terms_under (named names) clause.head.args) ts)) (sym (rounds alike.to alike.back atom.args (tied-rounds seen alike.to alike.back next atom.args tied))) step.unifier_.unifies) in
      let after : List ℕ = seen_by seen clause names unifier in
      let own : List ℕ = all_occurrences (terms_under (named names) (clause_terms clause)) in
      let in_map : AllByRecursion (In after) (map_variables unifier) = in-itself (In after) (map_variables unifier) (λ v h. in-later own (map_variables unifier ++ seen) v (in-first (map_variables unifier) seen v h)) in
      let in_clause : AllByRecursion (λ v. AllByRecursion (In after) (names v ∷ [])) (all_occurrences (clause_terms clause)) =
      terms-inside (In after) (named names) (clause_terms clause) (in-itself (In after) own (λ v h. in-first own (map_variables unifier ++ seen) v h)) in
      let in_body : AllByRecursion (λ v. AllByRecursion (In after) (names v ∷ [])) (all_occurrences (literals_terms clause.body)) = (terms-split (λ v. AllByRecursion (In after) (names v ∷ [])) clause.head.args (literals_terms clause.body) in_clause).1 in
      stepped arity predicates seen literals kept goal alike picked parts after there.0 again.0 (next + vars) unifier other
      (λ v h. value-in (In after) unifier v in_map (in-later own (map_variables unifier ++ seen) v (in-later (map_variables unifier) seen v h)))
      there.1
      (λ w less. again.1 w (is-low w next less))
      (λ w less. binds.maps w (omega arith))
      (literals_under (named names) clause.body) (literals_under (raised next) clause.body)
      (subst (λ ls. AllByRecursion (Tied after there.0 again.0 (next + vars)) (all_occurrences (literals_terms ls))) (sym (literals-twice (named names) (value_at unifier) clause.body))
      (literals-hold (λ v. (v < vars) × AllByRecursion (In after) (names v ∷ [])) (Tied after there.0 again.0 (next + vars)) (λ v. value_at unifier (names v))
      (λ v h. tied-tree after there.0 again.0 (next + vars) (value_at unifier (names v)) (value-in (In after) unifier (names v) in_map h.1.0)
      (ap (replaced again.0) (sym (there.2 v h.0)) ∙ sym (again.2 v h.0))
      (subst (Below (next + vars)) (there.2 v h.0) (binds.maps (next + v) (let less : v < vars = h.0 in omega arith))))
      clause.body (all-pairs (λ v. v < vars) (λ v. AllByRecursion (In after) (names v ∷ [])) (all_occurrences (literals_terms clause.body)) parts_low.1 in_body)))
      (literals-around (λ v. v < vars) (raised next) (value_at other) (λ v. value_at unifier (names v)) there.0 there.2 clause.body parts_low.1 ∙ ap (literals_under there.0) (sym (literals-twice (named names) (value_at unifier) clause.body)))
      (literals-right arity predicates (named names) clause.body is.body)
    where
      all-pairs : (P Q : ℕ → Type 0) (vs : List ℕ) → AllByRecursion P vs → AllByRecursion Q vs → AllByRecursion (λ v. P v × Q v) vs
      all-pairs P Q [] a b = tt
      all-pairs P Q (v ∷ vs) a b = ((a.0, b.0), all-pairs P Q vs a.1 b.1)

  -- unifiers of both sides that keep the states alike
  pub record Past (unifier other : Bindings) : Type 0 where
    pub then_to : ℕ → Tree
    pub then_back : ℕ → Tree
    pub there : (v : ℕ) → replaced (value_at other) (alike.to v) ≡ replaced then_to (value_at unifier v)
    pub again : (w : ℕ) → replaced (value_at unifier) (alike.back w) ≡ replaced then_back (value_at other w)
    pub binds : BindsBelow goal.next other

  -- a step past a literal
  pub past-step : (unifier other : Bindings) → Past unifier other
      → Alike arity predicates (map_variables unifier ++ seen) (literals_under (value_at unifier) (put_in_place picked [])) (terms_under (value_at unifier) (form_terms picked.chosen.form ++ kept))
      (record { next = goal.next; literals = literals_under (value_at other) (put_in_place (picked_map (literal_under alike.to) picked) []); terms = terms_under (value_at other) (terms_under alike.to (form_terms picked.chosen.form) ++ goal.terms) })
  past-step unifier other past =
      let after : List ℕ = map_variables unifier ++ seen in
      stepped arity predicates seen literals kept goal alike picked parts after past.then_to past.then_back goal.next unifier other
      (λ v h. value-in (In after) unifier v (in-itself (In after) (map_variables unifier) (λ w there. in-first (map_variables unifier) seen w there)) (in-later (map_variables unifier) seen v h))
      (λ v h. past.there v)
      (λ w less. past.again w)
      (λ w less. past.binds.maps w less)
      [] [] tt refl tt

  same-none : (t : Tree) → replaced (value_at []) t ≡ t
  same-none t = replaced-agree (value_at []) variable (λ v. refl) t ∙ replaced-same t

  -- nothing is applied
  pub past-none : Past [] []
  past-none = record {
    then_to = alike.to;
    then_back = alike.back;
    there = λ v. same-none (alike.to v);
    again = λ w. same-none (alike.back w);
    binds = record { maps = λ v less. (less, tt); variables = tt };
  }

  -- an equation
  pub past-equation : (left right other_left other_right : Tree) → other_left ≡ replaced alike.to left → other_right ≡ replaced alike.to right → Round alike.to alike.back left → Round alike.to alike.back right → Below goal.next other_left → Below goal.next other_right
      → (unifier : Bindings) → IsMgu unifier ((left, right) ∷ []) → (other : Bindings) × (by_solution (solve_of ((other_left, other_right) ∷ [])) ≡ goes_on other) × Past unifier other
  past-equation left right other_left other_right is_left is_right round_left round_right low_left low_right unifier is =
      by (solve_of ((other_left, other_right) ∷ [])) (solves ((other_left, other_right) ∷ [])) (solve-below ((other_left, other_right) ∷ []) goal.next (low_left, low_right, tt))
    where
      left_back : replaced alike.back other_left ≡ left
      left_back = ap (replaced alike.back) is_left ∙ round_left

      right_back : replaced alike.back other_right ≡ right
      right_back = ap (replaced alike.back) is_right ∙ round_right

      by : (o : Option Bindings) → Solves o ((other_left, other_right) ∷ []) → AnswerBelow goal.next o → (other : Bindings) × (by_solution o ≡ goes_on other) × Past unifier other
      by (Some other) also low =
          let there : (h : ℕ → Tree) × ((v : ℕ) → replaced (value_at other) (alike.to v) ≡ replaced h (value_at unifier v)) =
          equation-instance left right unifier other alike.to is (ap (replaced (value_at other)) (sym is_left) ∙ (also.unifies.0 ∙ ap (replaced (value_at other)) is_right)) in
          let again : (h : ℕ → Tree) × ((w : ℕ) → replaced (value_at unifier) (alike.back w) ≡ replaced h (value_at other w)) =
          equation-instance other_left other_right other unifier alike.back also (ap (replaced (value_at unifier)) left_back ∙ (is.unifies.0 ∙ ap (replaced (value_at unifier)) (sym right_back))) in
          (other, refl, record { then_to = there.0; then_back = again.0; there = there.1; again = again.1; binds = low })
      by None never low =
          absurd (never (after_by alike.back (value_at unifier))
          (sym (replaced-replaced alike.back (value_at unifier) other_left) ∙ (ap (replaced (value_at unifier)) left_back ∙ (is.unifies.0 ∙ (ap (replaced (value_at unifier)) (sym right_back) ∙ replaced-replaced alike.back (value_at unifier) other_right))), tt))

  pub never-equation : (left right other_left other_right : Tree) → other_left ≡ replaced alike.to left → other_right ≡ replaced alike.to right → NeverEqual left right → by_solution (solve_of ((other_left, other_right) ∷ [])) ≡ fails
  never-equation left right other_left other_right is_left is_right never = by (solve_of ((other_left, other_right) ∷ [])) (solves ((other_left, other_right) ∷ []))
    where
      by : (o : Option Bindings) → Solves o ((other_left, other_right) ∷ []) → by_solution o ≡ fails
      by None also = refl
      by (Some other) also =
          absurd (never (after_by alike.to (value_at other))
          (sym (replaced-replaced alike.to (value_at other) left) ∙ (ap (replaced (value_at other)) (sym is_left) ∙ (also.unifies.0 ∙ (ap (replaced (value_at other)) is_right ∙ replaced-replaced alike.to (value_at other) right)))))

  ground-round : (by with : ℕ → Tree) (t : Tree) → occurrences t ≡ [] → (t ≡ replaced by t) × Round by with t
  ground-round by with t none =
      let stays : (f : ℕ → Tree) → replaced f t ≡ t = λ f. replaced-there f variable t (subst (AllByRecursion (λ v. f v ≡ variable v)) (sym none) tt) ∙ replaced-same t in
      (sym (stays by), ap (replaced with) (stays by) ∙ stays with)

  argument-low : (ts : List Tree) → HasVariablesBelow goal.next ts → Below goal.next (argument ts 0) × Below goal.next (argument ts 1)
  argument-low [] h = (tt, tt)
  argument-low (t ∷ []) h = (all-left (λ v. v < goal.next) (occurrences t) [] h, tt)
  argument-low (t ∷ u ∷ ts) h = (
    all-left (λ v. v < goal.next) (occurrences t) (occurrences u ++ all_occurrences ts) h,
    all-left (λ v. v < goal.next) (occurrences u) (all_occurrences ts) (all-right (λ v. v < goal.next) (occurrences t) (occurrences u ++ all_occurrences ts) h),
  )

  -- a computed literal that holds, and one that doesn't
  pub past-computed : (line : ℕ) (args : List Tree) → AllByRecursion Ties (all_occurrences args) → (unifier : Bindings) (answer : computing_of.Calc) → GivesGround answer → HoldsBy args unifier answer
      → (other : Bindings) × (by_answer line (terms_under alike.to args) answer ≡ goes_on other) × Past unifier other
  past-computed line args tied unifier Same ground holds =
      let low : Below goal.next (argument (terms_under alike.to args) 0) × Below goal.next (argument (terms_under alike.to args) 1) = argument-low (terms_under alike.to args) (tied-low seen alike.to alike.back goal.next args tied) in
      let all : Rounds alike.to alike.back args = tied-rounds seen alike.to alike.back goal.next args tied in
      past-equation (argument args 0) (argument args 1) (argument (terms_under alike.to args) 0) (argument (terms_under alike.to args) 1) (argument-under alike.to alike.back args).0 (argument-under alike.to alike.back args).1
      (argument-round alike.to alike.back args all).0 (argument-round alike.to alike.back args all).1 low.0 low.1 unifier holds
  past-computed line args tied unifier (Gives symbol) ground holds =
      let low : Below goal.next (argument (terms_under alike.to args) 0) × Below goal.next (argument (terms_under alike.to args) 1) = argument-low (terms_under alike.to args) (tied-low seen alike.to alike.back goal.next args tied) in
      let all : Rounds alike.to alike.back args = tied-rounds seen alike.to alike.back goal.next args tied in
      let g : (tree_of (symbol ∷ []) ≡ replaced alike.to (tree_of (symbol ∷ []))) × Round alike.to alike.back (tree_of (symbol ∷ [])) = ground-round alike.to alike.back (tree_of (symbol ∷ [])) ground in
      past-equation (argument args 0) (tree_of (symbol ∷ [])) (argument (terms_under alike.to args) 0) (tree_of (symbol ∷ [])) (argument-under alike.to alike.back args).0 g.0 (argument-round alike.to alike.back args all).0 g.1 low.0
      (subst (AllByRecursion (λ v. v < goal.next)) (sym ground) tt) unifier holds
  past-computed line args tied unifier Holds ground holds = ([], refl, subst (λ u. Past u []) (sym holds) past-none)
  past-computed line args tied unifier No ground holds = absurd holds
  past-computed line args tied unifier Unbound ground holds = absurd holds
  past-computed line args tied unifier Range ground holds = absurd holds

  pub never-computed : (line : ℕ) (args : List Tree) (answer : computing_of.Calc) → GivesGround answer → FailsBy args answer → by_answer line (terms_under alike.to args) answer ≡ fails
  never-computed line args Same ground never = never-equation (argument args 0) (argument args 1) (argument (terms_under alike.to args) 0) (argument (terms_under alike.to args) 1) (argument-under alike.to alike.back args).0 (argument-under alike.to alike.back args).1 never
  never-computed line args (Gives symbol) ground never =
      never-equation (argument args 0) (tree_of (symbol ∷ [])) (argument (terms_under alike.to args) 0) (tree_of (symbol ∷ [])) (argument-under alike.to alike.back args).0 (ground-round alike.to alike.back (tree_of (symbol ∷ [])) ground).0 never
  never-computed line args Holds ground never = absurd never
  never-computed line args No ground never = refl
  never-computed line args Unbound ground never = absurd never
  never-computed line args Range ground never = absurd never

  -- a gather's result
  pub past-folded : (line : ℕ) (result : Tree) → AllByRecursion Ties (occurrences result) → (unifier : Bindings) (answer : FoldAnswer) → FitsBy result unifier answer → (other : Bindings) × (by_fold line (replaced alike.to result) answer ≡ goes_on other) × Past unifier other
  past-folded line result tied unifier (folds.Value n) fits =
      past-equation result (numeral n) (replaced alike.to result) (numeral n) refl refl (tied-round seen alike.to alike.back goal.next result tied) refl
      (all-left (λ v. v < goal.next) (occurrences (replaced alike.to result)) [] (tied-low seen alike.to alike.back goal.next (result ∷ []) (all-both Ties (occurrences result) [] tied tt))) tt unifier fits
  past-folded line result tied unifier folds.No fits = absurd fits
  past-folded line result tied unifier folds.Unbound fits = absurd fits
  past-folded line result tied unifier folds.Range fits = absurd fits

  pub never-folded : (line : ℕ) (result : Tree) (answer : FoldAnswer) → MissesBy result answer → by_fold line (replaced alike.to result) answer ≡ fails
  never-folded line result (folds.Value n) never = never-equation result (numeral n) (replaced alike.to result) (numeral n) refl refl never
  never-folded line result folds.No never = refl
  never-folded line result folds.Unbound never = absurd never
  never-folded line result folds.Range never = absurd never
