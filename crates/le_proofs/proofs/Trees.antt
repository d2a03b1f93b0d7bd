-- A grown tree is right: its leaves are proved, and where its visit is done it is a whole tree.
use Rattle.std.proofs.Common.{◌≡◌, ℕ, zero, suc, ◌+◌, ◌-◌, ◌<◌, ◌≤◌, Bool, true, false, List, [], ◌∷◌, ◌++◌, map, zip, length, slice_get, Option, Some, None, option_map, refl, sym, ap, ◌∙◌, subst, le_refl, arith, if◌then◌else◌, IsTrue}
use Rattle.std.specs.Prelude.{IsSomeAnd, nat_lt}
use Rattle.std.proofs.lemmas.Bool.{ltb-true, ltb-false}
use Rattle.std.specs.List.{AllByRecursion, cons_option}
use Rattle.std.proofs.lemmas.List.{map-append}
use Rattle.le_base.specs.declared.stop.FoldKind.{FoldKind}
use Rattle.le_terms.specs.Tree.{Tree, constant, variable, date, nil, cell, number as numeral, tree_of}
use Rattle.le_terms.specs.Variables.{replaced, occurrences, all_occurrences}
use Rattle.le_terms.specs.Program.{HasVariablesBelow, IsClause, form_terms, literals_terms, clause_terms}
use Rattle.le_terms.specs.declared.program.Atom.{Atom}
use Rattle.le_terms.specs.declared.program.Clause.{Clause}
use Rattle.le_terms.specs.declared.program.Form.{Form}
use Rattle.le_terms.specs.declared.program.Form.TheVariants.{Pos, Neg, Calc, Gather}
use Rattle.le_terms.specs.declared.program.Literal.{Literal}
use Rattle.le_terms.specs.declared.program.Program.{Program}
use Rattle.le_subst.specs.Unifiers.{Bindings, IsMgu}
use Rattle.le_subst.specs.Solution.{solve_of}
use Rattle.le_subst.proofs.Mgu.{Solves, solves}
use Rattle.le_builtins.specs.declared.computing.Calc as computing_of
use Rattle.le_builtins.specs.declared.computing.Calc.TheVariants.{Same, Gives, Holds, No, Unbound, Range}
use Rattle.le_builtins.specs.Compute.{compute, argument}
use Rattle.le_builtins.proofs.Results.{GivesGround}
use Rattle.le_gather.specs.declared.folding.FoldAnswer.TheVariants as folds
use Rattle.le_gather.specs.declared.folding.FoldAnswer.{FoldAnswer}
use Rattle.le_gather.specs.Folds.{fold_of}
use Rattle.le_proofs.specs.Goals.{Goal, Picked, is_delayed, selected, Child, children, child_by, resolvent_by, rest_by, rest_goal, sub_goal, raised, head_solution, terms_under, is_ground_atom}
use Rattle.le_proofs.specs.Proofs.{Proof, WholeTree, Step, Leaf, step_to, step_past, from_above, value_computed, failure_shown, cases_gathered}
use Rattle.le_proofs.specs.SearchTree.{SearchTree, Branches, Event, tried, folded, stopped, leaf_at, begun, up_to_first, leaves_of, seen_above, seen_outside, Course, leaves, course_of, course_each, whole_of, whole_each, first_proof}
use Rattle.le_proofs.specs.Search.{Outcome, goes_on, fails, ends, by_solution, by_answer, by_fold, computing, folding, value_of, is_covered, branch_before, grow_each, grow_computed, grow_lacking, grow_negation, grow_folded, grow_gather, grow_form, grow_picked, grow_at, grow_within, tree}
use Rattle.le_proofs.specs.Lloyd.{IsRefutation, OfAtom, OfComputed, OfNegation, OfGather, Selects, IsClauseOf, NoneUnifies, HeadUnifies, seen_by, map_variables, only, Computes, ComputesNothing, HoldsBy, FailsBy, NeverEqual, GoesOn, Lacks, Gathers, Misses, FitsBy, MissesBy, values_at, IsWhole, AreWhole, WholeBelow, RefutableBelow, goal_variables}
use Rattle.le_proofs.specs.declared.next.Next.{Next}
use Rattle.le_proofs.specs.declared.next.Next.TheVariants.{Answer, Done, Floundered, OutOfRange, Spent}
use Rattle.le_proofs.proofs.Alls.{all-both, all-left, all-right, all-weaken}
use Rattle.le_proofs.proofs.Apart.{Seen, resolves, never-unifies}
use Rattle.le_proofs.proofs.Below.{Below, solve-below, IsBelow, BindsBelow, AnswerBelow, raised-below, terms-below, both-below, solution-below, around-below, resolvent-below, rest-below, rest_goal-below}
use Rattle.le_proofs.proofs.Courses.{leaves-append, leaves-outside, leaves-above}
use Rattle.le_proofs.proofs.Picks.{IsPicked, pick-means}
use Rattle.le_proofs.specs.UnderWay.{IsStop}
use Rattle.le_proofs.proofs.Sound.{IsProved, IsRight, clause-proves, computed-proves, gather-proves, negation-proves}

pub replaced-same : (t : Tree) → replaced variable t ≡ t
replaced-same (constant n) = refl
replaced-same (numeral z) = refl
replaced-same (date d) = refl
replaced-same (variable v) = refl
replaced-same nil = refl
replaced-same (cell head tail) = ap (λ t. cell t (replaced variable tail)) (replaced-same head) ∙ ap (cell head) (replaced-same tail)

pub terms-same : (terms : List Tree) → terms_under variable terms ≡ terms
terms-same [] = refl
terms-same (t ∷ terms) = ap (λ u. u ∷ terms_under variable terms) (replaced-same t) ∙ ap (λ us. t ∷ us) (terms-same terms)

-- the terms at leaves
abbrev pub terms_at : List Leaf → List (List Tree)
terms_at ls = map (λ leaf. leaf.terms) ls

pub terms-above : (step : Step) (ls : List Leaf) → terms_at (map (from_above step) ls) ≡ terms_at ls
terms-above step [] = refl
terms-above step (l ∷ ls) = ap (λ ts. l.terms ∷ ts) (terms-above step ls)

pub all-map : {X Y : Type 0} (P : X → Type 0) (Q : Y → Type 0) (f : X → Y) → ((x : X) → P x → Q (f x)) → (xs : List X) → AllByRecursion P xs → AllByRecursion Q (map f xs)
all-map P Q f give [] h = tt
all-map P Q f give (x ∷ xs) h = (give x h.0, all-map P Q f give xs h.1)

-- the clauses from a number on
abbrev pub Numbered : Program → ℕ → List Clause → Type 0
Numbered program number clauses = (c : ℕ) → slice_get clauses c ≡ slice_get program.clauses ((number - 1) + c)

-- the variables seen once a step by a clause is made
pub seen-after : (n : ℕ) (seen : List ℕ) (clause : Clause) (bindings : Bindings) → IsClause clause → Seen n seen → BindsBelow (n + clause.vars) bindings → Seen (n + clause.vars) (seen_by seen clause (λ v. n + v) bindings)
seen-after n seen clause bindings is low binds =
    let m : ℕ = n + clause.vars in
    all-both (λ v. v < m) (all_occurrences (terms_under (raised n) (clause_terms clause))) (map_variables bindings ++ seen)
    (terms-below clause.vars m (raised n) (raised-below n clause.vars) (clause_terms clause) is.variables)
    (all-both (λ v. v < m) (map_variables bindings) seen binds.variables (all-weaken (λ v. v < n) (λ v. v < m) (λ v (less : v < n). omega arith) seen low))

module _ (program : Program) (are : AllByRecursion IsClause program.clauses) (rank : ℕ) (grow : Goal → ℕ → SearchTree)
    (right : (goal : Goal) (left : ℕ) (seen : List ℕ) → IsBelow goal → Seen goal.next seen → IsRight program rank seen goal (grow goal left))
    (goal : Goal) (seen : List ℕ) (below : IsBelow goal) (low : Seen goal.next seen) (picked : Picked Literal) (one : selected program.version goal.literals ≡ Some picked) where
  means : IsPicked (is_delayed program.version) goal.literals picked
  means = pick-means (is_delayed program.version) goal.literals picked one

  abbrev Proved : Leaf → Type 0
  Proved leaf = IsProved program rank seen goal.literals goal.terms leaf

  -- the leaves of a branch and of those after it
  branch-leaves : (e : Next) (child : Child) (step : Step) (first : SearchTree) (more : ℕ → Branches) → AllByRecursion Proved (map (from_above step) (leaves (course_of first)))
      → ((k : ℕ) → AllByRecursion Proved (leaves (course_each (more k)))) → AllByRecursion Proved (leaves (course_each (branch_before e child step first more)))
  branch-leaves Done child step first more here there =
      subst (AllByRecursion Proved) (sym (leaves-append (map (seen_above step) (course_of first).events) (course_each (more (course_of first).left)).events ∙ ap (λ ls. ls ++ leaves (course_each (more (course_of first).left))) (leaves-above step (course_of first).events)))
      (all-both Proved (map (from_above step) (leaves (course_of first))) (leaves (course_each (more (course_of first).left))) here (there (course_of first).left))
  branch-leaves Answer child step first more here there = subst (AllByRecursion Proved) (sym (leaves-above step (course_of first).events)) here
  branch-leaves (Floundered line) child step first more here there = subst (AllByRecursion Proved) (sym (leaves-above step (course_of first).events)) here
  branch-leaves (OutOfRange line) child step first more here there = subst (AllByRecursion Proved) (sym (leaves-above step (course_of first).events)) here
  branch-leaves Spent child step first more here there = subst (AllByRecursion Proved) (sym (leaves-above step (course_of first).events)) here

  abbrev AllWhole : Atom → ℕ → Branches → Type 0
  AllWhole atom from branches = (course_each branches).ending ≡ Done → AreWhole program (WholeBelow rank program) (RefutableBelow rank program) (whole_each branches) seen picked atom goal.terms from (terms_at (leaves (course_each branches)))

  module _ (atom : Atom) (form : picked.chosen.form ≡ Pos atom) where
    atom-below : HasVariablesBelow goal.next atom.args
    atom-below = subst (λ f. HasVariablesBelow goal.next (form_terms f)) form (around-below goal.next picked (subst (λ ls. HasVariablesBelow goal.next (literals_terms ls)) means.all below.literals)).1

    -- a child's tree
    child-right : (place : ℕ) (clause : Clause) (bindings : Bindings) (left : ℕ) → IsClause clause → head_solution goal.next clause atom ≡ Some bindings
        → IsRight program rank (seen_by seen clause (λ v. goal.next + v) bindings) (resolvent_by goal picked clause bindings) (grow (resolvent_by goal picked clause bindings) left)
    child-right place clause bindings left is solved =
        let binds : BindsBelow (goal.next + clause.vars) bindings = subst (AnswerBelow (goal.next + clause.vars)) solved (solution-below goal.next clause atom is atom-below) in
        right (resolvent_by goal picked clause bindings) left (seen_by seen clause (λ v. goal.next + v) bindings) (resolvent-below goal picked clause bindings is below means.all binds) (seen-after goal.next seen clause bindings is low binds)

    -- a branch and those after it are whole
    branch-whole : (e : Next) (place from : ℕ) (clause : Clause) (bindings : Bindings) (first : SearchTree) (more : ℕ → Branches) → e ≡ (course_of first).ending → from ≤ place → NoneUnifies program atom from place
        → IsClauseOf program place clause → head_solution goal.next clause atom ≡ Some bindings
        → IsRight program rank (seen_by seen clause (λ v. goal.next + v) bindings) (resolvent_by goal picked clause bindings) first
        → ((k : ℕ) → AllWhole atom (suc place) (more k)) → AllWhole atom from (branch_before e (child_by goal picked place clause bindings) (step_to (length picked.before) atom (child_by goal picked place clause bindings)) first more)
    branch-whole Done place from clause bindings first more same less none is solved here there done =
        let step : Step = step_to (length picked.before) atom (child_by goal picked place clause bindings) in
        let rest : Course = course_each (more (course_of first).left) in (
          terms_at (leaves (course_of first)),
          terms_at (leaves rest),
          ap terms_at (leaves-append (map (seen_above step) (course_of first).events) rest.events ∙ ap (λ ls. ls ++ leaves rest) (leaves-above step (course_of first).events))
              ∙ map-append (λ (leaf : Leaf). leaf.terms) (map (from_above step) (leaves (course_of first))) (leaves rest)
              ∙ ap (λ ts. ts ++ terms_at (leaves rest)) (terms-above step (leaves (course_of first))),
          record {
            in_order = less;
            others = none;
            clause = clause;
            names = λ v. goal.next + v;
            unifier = bindings;
            resolves = resolves program seen goal.next place clause atom bindings is low solved;
            tree = here.whole (sym same);
          },
          there (course_of first).left done,
        )
    branch-whole Answer place from clause bindings first more same less none is solved here there done = absurd (cc (same, done))
    branch-whole (Floundered line) place from clause bindings first more same less none is solved here there done = absurd (cc (same, done))
    branch-whole (OutOfRange line) place from clause bindings first more same less none is solved here there done = absurd (cc (same, done))
    branch-whole Spent place from clause bindings first more same less none is solved here there done = absurd (cc (same, done))

    pub record AreRight (from : ℕ) (branches : Branches) : Type 0 where
      pub each : AllByRecursion Proved (leaves (course_each branches))
      pub whole : AllWhole atom from branches

    numbered-first : (place : ℕ) (clause : Clause) (clauses : List Clause) → 1 ≤ place → Numbered program place (clause ∷ clauses) → IsClauseOf program place clause
    numbered-first place clause clauses positive numbered = (positive, sym (numbered 0 ∙ ap (slice_get program.clauses) (let same : (place - 1) + 0 ≡ place - 1 = omega arith in same)))

    numbered-rest : (place : ℕ) (clause : Clause) (clauses : List Clause) → 1 ≤ place → Numbered program place (clause ∷ clauses) → Numbered program (suc place) clauses
    numbered-rest place clause clauses positive numbered c = numbered (suc c) ∙ ap (slice_get program.clauses) (let same : (place - 1) + suc c ≡ (suc place - 1) + c = omega arith in same)

    none-left : (place from number : ℕ) (clause : Clause) → 1 ≤ place → Numbered program place [] → NoneUnifies program atom from place → from ≤ number → IsClauseOf program number clause → HeadUnifies clause atom → ⊥
    none-left place from number clause positive numbered none from_low is unifies = by (nat_lt number place) refl
      where
        by : (b : Bool) → nat_lt number place ≡ b → ⊥
        by true test = none number clause from_low (ltb-true number place test) is unifies
        by false test =
            let high : place ≤ number = ltb-false number place test in
            let there : None ≡ Some clause = numbered (number - place) ∙ (ap (slice_get program.clauses) (let same : (place - 1) + (number - place) ≡ number - 1 = omega (arith, is.0) in same) ∙ is.1) in
            absurd (cc there)

    none-more : (place from : ℕ) (clause : Clause) → IsClauseOf program place clause → head_solution goal.next clause atom ≡ None → NoneUnifies program atom from place → NoneUnifies program atom from (suc place)
    none-more place from clause is unsolved none number other from_low to_low is_other unifies = by (nat_lt number place) refl
      where
        by : (b : Bool) → nat_lt number place ≡ b → ⊥
        by true test = none number other from_low (ltb-true number place test) is_other unifies
        by false test =
            let high : place ≤ number = ltb-false number place test in
            let same_place : number - 1 ≡ place - 1 = omega arith in
            let same : Some other ≡ Some clause = sym is_other.1 ∙ (ap (slice_get program.clauses) same_place ∙ is.1) in
            let equal : other ≡ clause = cc same in
            never-unifies goal.next clause atom atom-below unsolved (subst (λ c. HeadUnifies c atom) equal unifies)

    each-right : (clauses : List Clause) (place from left : ℕ) → AllByRecursion IsClause clauses → 1 ≤ place → Numbered program place clauses → from ≤ place → NoneUnifies program atom from place
        → AreRight from (grow_each grow (length picked.before) atom (children goal picked atom place clauses) left)
    each-right [] place from left is positive numbered less none = record {
      each = tt;
      whole = λ done. (λ number clause from_low to_low is_clause unifies. none-left place from number clause positive numbered none from_low is_clause unifies, refl);
    }
    each-right (clause ∷ clauses) place from left is positive numbered less none =
        by (head_solution goal.next clause atom) refl
        (λ from' left' less' none'. each-right clauses (suc place) from' left' is.1 (omega arith) (numbered-rest place clause clauses positive numbered) less' none')
      where
        first : IsClauseOf program place clause
        first = numbered-first place clause clauses positive numbered

        by : (o : Option Bindings) → head_solution goal.next clause atom ≡ o
            → ((from' left' : ℕ) → from' ≤ suc place → NoneUnifies program atom from' (suc place) → AreRight from' (grow_each grow (length picked.before) atom (children goal picked atom (suc place) clauses) left'))
            → AreRight from (grow_each grow (length picked.before) atom (cons_option (option_map (child_by goal picked place clause) o) (children goal picked atom (suc place) clauses)) left)
        by None unsolved rest = rest from left (omega arith) (none-more place from clause first unsolved none)
        by (Some bindings) solved rest =
            let child : Child = child_by goal picked place clause bindings in
            let step : Step = step_to (length picked.before) atom child in
            let T : SearchTree = grow child.goal left in
            let here : IsRight program rank (seen_by seen clause (λ v. goal.next + v) bindings) (resolvent_by goal picked clause bindings) T = child-right place clause bindings left is.0 solved in
            let behind : (k : ℕ) → AreRight (suc place) (grow_each grow (length picked.before) atom (children goal picked atom (suc place) clauses) k) =
            λ k. rest (suc place) k (le_refl (suc place)) (λ number other (from_low : suc place ≤ number) (to_low : number < suc place) is_other unifies. absurd (omega arith)) in
            record {
              each = branch-leaves (course_of T).ending child step T (grow_each grow (length picked.before) atom (children goal picked atom (suc place) clauses))
                  (all-map (IsProved program rank (seen_by seen clause (λ v. goal.next + v) bindings) (resolvent_by goal picked clause bindings).literals (resolvent_by goal picked clause bindings).terms) Proved (from_above step)
                  (λ leaf proved. clause-proves program rank seen goal picked atom place clause bindings first low one form solved leaf proved) (leaves (course_of T)) here.each)
                  (λ k. (behind k).each);
              whole = branch-whole (course_of T).ending place from clause bindings T (grow_each grow (length picked.before) atom (children goal picked atom (suc place) clauses)) refl less none first solved here (λ k. (behind k).whole);
            }

    -- the tree of an atom
    pub split-right : (left : ℕ) → IsRight program rank seen goal (SearchTree.split atom (length (children goal picked atom 1 program.clauses)) (grow_each grow (length picked.before) atom (children goal picked atom 1 program.clauses) left))
    split-right left =
        let all : AreRight 1 (grow_each grow (length picked.before) atom (children goal picked atom 1 program.clauses) left) =
        each-right program.clauses 1 1 left are (le_refl 1) (λ c. ap (slice_get program.clauses) (let same : c ≡ (1 - 1) + c = omega arith in same)) (le_refl 1) (λ number other (from_low : 1 ≤ number) (to_low : number < 1) is_other unifies. absurd (omega arith)) in
        record {
          each = all.each;
          whole = λ done. subst (λ o. IsSomeAnd o (λ p. OfAtom p.chosen.form (λ a. AreWhole program (WholeBelow rank program) (RefutableBelow rank program) (whole_each (grow_each grow (length picked.before) atom (children goal picked atom 1 program.clauses) left)) seen p a goal.terms 1 (terms_at (leaves (course_each (grow_each grow (length picked.before) atom (children goal picked atom 1 program.clauses) left))))))) (sym one)
              (subst (λ f. OfAtom f (λ a. AreWhole program (WholeBelow rank program) (RefutableBelow rank program) (whole_each (grow_each grow (length picked.before) atom (children goal picked atom 1 program.clauses) left)) seen picked a goal.terms 1 (terms_at (leaves (course_each (grow_each grow (length picked.before) atom (children goal picked atom 1 program.clauses) left)))))) (sym form) (all.whole done));
        }

-- what an outcome says
abbrev pub Means : ℕ → (Bindings → Type 0) → Type 0 → Outcome → Type 0
Means n Fits Misses_ (goes_on bindings) = Fits bindings × BindsBelow n bindings
Means n Fits Misses_ fails = Misses_
Means n Fits Misses_ (ends e) = IsStop e

by-equation : (n : ℕ) (left right : Tree) → Below n left → Below n right → Means n (λ bindings. IsMgu bindings ((left, right) ∷ [])) (NeverEqual left right) (by_solution (solve_of ((left, right) ∷ [])))
by-equation n left right low_left low_right = by (solve_of ((left, right) ∷ [])) (solves ((left, right) ∷ [])) (solve-below ((left, right) ∷ []) n (low_left, low_right, tt))
  where
    by : (o : Option Bindings) → Solves o ((left, right) ∷ []) → AnswerBelow n o → Means n (λ bindings. IsMgu bindings ((left, right) ∷ [])) (NeverEqual left right) (by_solution o)
    by (Some bindings) is low = (is, low)
    by None never low = λ s equal. never s (equal, tt)

argument-below : (n : ℕ) (terms : List Tree) → HasVariablesBelow n terms → Below n (argument terms 0) × Below n (argument terms 1)
argument-below n [] h = (tt, tt)
argument-below n (t ∷ []) h = (all-left (λ v. v < n) (occurrences t) [] h, tt)
argument-below n (t ∷ u ∷ terms) h = (all-left (λ v. v < n) (occurrences t) (occurrences u ++ all_occurrences terms) h, all-left (λ v. v < n) (occurrences u) (all_occurrences terms) (all-right (λ v. v < n) (occurrences t) (occurrences u ++ all_occurrences terms) h))

ground-below : (n : ℕ) (tree : Tree) → occurrences tree ≡ [] → Below n tree
ground-below n tree none = subst (AllByRecursion (λ v. v < n)) (sym none) tt

pub by-calc : (n line : ℕ) (terms : List Tree) (answer : computing_of.Calc) → GivesGround answer → HasVariablesBelow n terms → Means n (λ bindings. HoldsBy terms bindings answer) (FailsBy terms answer) (by_answer line terms answer)
by-calc n line terms Same ground low = by-equation n (argument terms 0) (argument terms 1) (argument-below n terms low).0 (argument-below n terms low).1
by-calc n line terms (Gives symbol) ground low = by-equation n (argument terms 0) (tree_of (symbol ∷ [])) (argument-below n terms low).0 (ground-below n (tree_of (symbol ∷ [])) ground)
by-calc n line terms Holds ground low = (refl, record { maps = λ v less. (less, tt); variables = tt })
by-calc n line terms No ground low = tt
by-calc n line terms Unbound ground low = tt
by-calc n line terms Range ground low = tt

pub by-folded : (n line : ℕ) (result : Tree) (answer : FoldAnswer) → Below n result → Means n (λ bindings. FitsBy result bindings answer) (MissesBy result answer) (by_fold line result answer)
by-folded n line result (folds.Value z) low = by-equation n result (numeral z) low tt
by-folded n line result folds.No low = tt
by-folded n line result folds.Unbound low = tt
by-folded n line result folds.Range low = tt

pub stop-not-done : (e : Next) → IsStop e → e ≡ Done → ⊥
stop-not-done Answer stop is = stop
stop-not-done Done stop is = stop
stop-not-done (Floundered line) stop is = cc is
stop-not-done (OutOfRange line) stop is = cc is
stop-not-done Spent stop is = cc is

values-at-cases : (ls : List Leaf) → values_at (terms_at ls) ≡ map value_of ls
values-at-cases [] = refl
values-at-cases (l ∷ ls) = ap (λ vs. argument l.terms 0 ∷ vs) (values-at-cases ls)

pub one-proof : (leaf : Leaf) → length leaf.proofs ≡ 1 → first_proof leaf ∷ [] ≡ leaf.proofs
one-proof leaf count = by leaf.proofs count
  where
    by : (ps : List Proof) → length ps ≡ 1 → first_proof (record { terms = leaf.terms; left = leaf.left; by = leaf.by; proofs = ps }) ∷ [] ≡ ps
    by [] count = absurd (omega arith)
    by (p ∷ []) count = refl
    by (p ∷ q ∷ ps) count = absurd (omega arith)

module _ (results : (pred : ℕ) (terms : List Tree) → GivesGround (compute pred terms)) (program : Program) (rank : ℕ) (grow : Goal → ℕ → SearchTree)
    (right : (goal : Goal) (left : ℕ) (seen : List ℕ) → IsBelow goal → Seen goal.next seen → IsRight program (suc rank) seen goal (grow goal left))
    (right_below : (goal : Goal) (left : ℕ) (seen : List ℕ) → IsBelow goal → Seen goal.next seen → IsRight program rank seen goal (grow goal left))
    (goal : Goal) (seen : List ℕ) (below : IsBelow goal) (low : Seen goal.next seen) (picked : Picked Literal) (one : selected program.version goal.literals ≡ Some picked) where
  around : HasVariablesBelow goal.next (form_terms picked.chosen.form)
  around = (around-below goal.next picked (subst (λ ls. HasVariablesBelow goal.next (literals_terms ls)) (pick-means (is_delayed program.version) goal.literals picked one).all below.literals)).1

  form-low : (form : Form) → picked.chosen.form ≡ form → HasVariablesBelow goal.next (form_terms form)
  form-low form is = subst (λ f. HasVariablesBelow goal.next (form_terms f)) is around

  abbrev Whole_ : WholeTree → List (List Tree) → Type 0
  Whole_ t all = IsWhole program (WholeBelow (suc rank) program) (RefutableBelow (suc rank) program) t seen goal.literals goal.terms all

  abbrev Proved_ : Leaf → Type 0
  Proved_ leaf = IsProved program (suc rank) seen goal.literals goal.terms leaf

  -- a whole tree by its selected literal
  selects : (P : Picked Literal → Type 0) → P picked → Selects program.version goal.literals P
  selects P h = subst (λ o. IsSomeAnd o P) (sym one) h

  seen-more : (bindings : Bindings) → BindsBelow goal.next bindings → Seen goal.next (map_variables bindings ++ seen)
  seen-more bindings binds = all-both (λ v. v < goal.next) (map_variables bindings) seen binds.variables low

  rest-right : (bindings : Bindings) (left : ℕ) → BindsBelow goal.next bindings → IsRight program (suc rank) (map_variables bindings ++ seen) (rest_by goal picked bindings) (grow (rest_by goal picked bindings) left)
  rest-right bindings left binds = right (rest_by goal picked bindings) left (map_variables bindings ++ seen) (rest-below goal picked bindings below (pick-means (is_delayed program.version) goal.literals picked one).all binds) (seen-more bindings binds)

  -- a computed literal
  pub computed-right : (atom : Atom) → picked.chosen.form ≡ Calc atom → (left : ℕ) (outcome : Outcome) → Means goal.next (Computes atom) (ComputesNothing atom) outcome → IsRight program (suc rank) seen goal (grow_computed grow goal picked atom left outcome)
  computed-right atom form left (goes_on bindings) meant =
      let here : IsRight program (suc rank) (map_variables bindings ++ seen) (rest_by goal picked bindings) (grow (rest_by goal picked bindings) left) = rest-right bindings left meant.1 in
      let step : Step = step_past picked bindings (value_computed atom) in
      let inner : Course = course_of (grow (rest_by goal picked bindings) left) in
      record {
        each = subst (AllByRecursion Proved_) (sym (leaves-above step inner.events))
            (all-map (IsProved program (suc rank) (map_variables bindings ++ seen) (rest_by goal picked bindings).literals (rest_by goal picked bindings).terms) Proved_ (from_above step)
            (λ leaf proved. computed-proves program (suc rank) seen goal picked atom bindings one form meant.0 leaf proved) (leaves inner) here.each);
        whole = λ done. subst (Whole_ (whole_of (grow_computed grow goal picked atom left (goes_on bindings)))) (sym (ap terms_at (leaves-above step inner.events) ∙ terms-above step (leaves inner)))
            (selects (λ p. OfComputed p.chosen.form (λ a. GoesOn program (WholeBelow (suc rank) program) (RefutableBelow (suc rank) program) (IsWhole program (WholeBelow (suc rank) program) (RefutableBelow (suc rank) program) (whole_of (grow (rest_by goal picked bindings) left))) seen p a goal.terms (terms_at (leaves inner))))
            (subst (λ f. OfComputed f (λ a. GoesOn program (WholeBelow (suc rank) program) (RefutableBelow (suc rank) program) (IsWhole program (WholeBelow (suc rank) program) (RefutableBelow (suc rank) program) (whole_of (grow (rest_by goal picked bindings) left))) seen picked a goal.terms (terms_at (leaves inner)))) (sym form)
            (record { unifier = bindings; computes = meant.0; rest = here.whole done })));
      }
  computed-right atom form left fails meant = record {
    each = tt;
    whole = λ done. selects (λ p. OfComputed p.chosen.form (λ a. ComputesNothing a × ◌≡◌ {A = List (List Tree)} [] [])) (subst (λ f. OfComputed f (λ a. ComputesNothing a × ◌≡◌ {A = List (List Tree)} [] [])) (sym form) (meant, refl));
  }
  computed-right atom form left (ends e) meant = record { each = tt; whole = λ done. absurd (stop-not-done e meant done) }

  -- the leaves after a subsidiary visit
  leaves-behind : (event : Event) (events others : List Event) → leaf_at event ≡ None → leaves_of (begun event events ++ others) ≡ leaves_of others
  leaves-behind event events others plain =
      ap (λ o. cons_option o (leaves_of (map seen_outside events ++ others))) plain
      ∙ (leaves-append (map seen_outside events) others ∙ ap (λ ls. ls ++ leaves_of others) (leaves-outside events))

  sub-right : (atom : Atom) (terms : List Tree) (left : ℕ) → HasVariablesBelow goal.next atom.args → HasVariablesBelow goal.next terms
      → IsRight program rank (goal_variables (only picked.chosen.line atom) terms) (sub_goal goal picked.chosen.line atom terms) (grow (sub_goal goal picked.chosen.line atom terms) left)
  sub-right atom terms left low_atom low_terms =
      let all : HasVariablesBelow goal.next (atom.args ++ []) = both-below goal.next atom.args [] low_atom tt in
      right_below (sub_goal goal picked.chosen.line atom terms) left (goal_variables (only picked.chosen.line atom) terms) (record { literals = all; terms = low_terms })
      (both-below goal.next (atom.args ++ []) terms all low_terms)

  -- a ground negation
  module _ (atom : Atom) (form : picked.chosen.form ≡ Neg atom) (ground : IsTrue (is_ground_atom atom)) (left : ℕ) where
    sub : SearchTree
    sub = grow (sub_goal goal picked.chosen.line atom []) left

    sub-is : IsRight program rank (goal_variables (only picked.chosen.line atom) []) (sub_goal goal picked.chosen.line atom []) (grow (sub_goal goal picked.chosen.line atom []) left)
    sub-is = sub-right atom [] left (form-low (Neg atom) form) tt

    selects-negation : (P : Picked Literal → Atom → Type 0) → P picked atom → Selects program.version goal.literals (λ p. OfNegation p.chosen.form (P p))
    selects-negation P h = selects (λ p. OfNegation p.chosen.form (P p)) (subst (λ f. OfNegation f (P picked)) (sym form) h)

    trying-right : (t : SearchTree) (e : Next) → e ≡ (course_of t).ending → (e ≡ Done → ⊥) → IsRight program (suc rank) seen goal (SearchTree.trying t)
    trying-right t e same other = record {
      each = subst (AllByRecursion Proved_) (sym (leaves-behind tried (course_of t).events [] refl)) tt;
      whole = λ done. absurd (other (same ∙ done));
    }

    lacking-right : (e : Next) → e ≡ (course_of (grow (sub_goal goal picked.chosen.line atom []) left)).ending → leaves (course_of (grow (sub_goal goal picked.chosen.line atom []) left)) ≡ []
        → IsRight program (suc rank) seen goal (grow_lacking grow goal picked atom (grow (sub_goal goal picked.chosen.line atom []) left) e)
    lacking-right Done same none =
        let t : SearchTree = grow (sub_goal goal picked.chosen.line atom []) left in
        let inner : SearchTree = grow (rest_goal goal picked) (course_of t).left in
        let step : Step = step_past picked [] (failure_shown atom (whole_of t)) in
        let here : IsRight program (suc rank) seen (rest_goal goal picked) inner = right (rest_goal goal picked) (course_of t).left seen (rest_goal-below goal picked below (pick-means (is_delayed program.version) goal.literals picked one).all) low in
        let fails_ : WholeBelow (suc rank) program (only picked.chosen.line atom) [] (whole_of t) [] = subst (WholeBelow (suc rank) program (only picked.chosen.line atom) [] (whole_of t)) (ap terms_at none) (sub-is.whole (sym same)) in
        let found_are : leaves_of (begun tried (course_of t).events ++ map (seen_above step) (course_of inner).events) ≡ map (from_above step) (leaves (course_of inner)) =
        leaves-behind tried (course_of t).events (map (seen_above step) (course_of inner).events) refl ∙ leaves-above step (course_of inner).events in
        record {
          each = subst (AllByRecursion Proved_) (sym found_are)
              (all-map (IsProved program (suc rank) seen (rest_goal goal picked).literals goal.terms) Proved_ (from_above step)
              (λ leaf proved. negation-proves program (suc rank) seen goal picked atom (whole_of t) one form ground fails_ leaf proved) (leaves (course_of inner)) here.each);
          whole = λ done. subst (Whole_ (WholeTree.lacking (whole_of t) (whole_of inner))) (sym (ap terms_at found_are ∙ terms-above step (leaves (course_of inner))))
              (selects-negation (λ p a. Lacks program (WholeBelow (suc rank) program) (RefutableBelow (suc rank) program) (IsWhole program (WholeBelow (suc rank) program) (RefutableBelow (suc rank) program) (whole_of inner)) seen p a goal.terms (whole_of t) (terms_at (leaves (course_of inner))))
              (record { ground = ground; fails = fails_; rest = here.whole done }));
        }
    lacking-right Answer same none = trying-right (grow (sub_goal goal picked.chosen.line atom []) left) Answer same (λ is. cc is)
    lacking-right (Floundered line) same none = trying-right (grow (sub_goal goal picked.chosen.line atom []) left) (Floundered line) same (λ is. cc is)
    lacking-right (OutOfRange line) same none = trying-right (grow (sub_goal goal picked.chosen.line atom []) left) (OutOfRange line) same (λ is. cc is)
    lacking-right Spent same none = trying-right (grow (sub_goal goal picked.chosen.line atom []) left) Spent same (λ is. cc is)

    pub negation-right : (ls : List Leaf) → leaves (course_of (grow (sub_goal goal picked.chosen.line atom []) left)) ≡ ls
        → IsRight program (suc rank) seen goal (grow_negation grow goal picked atom (grow (sub_goal goal picked.chosen.line atom []) left) ls)
    negation-right [] none = lacking-right (course_of (grow (sub_goal goal picked.chosen.line atom []) left)).ending refl none
    negation-right (leaf ∷ ls) some =
        let t : SearchTree = grow (sub_goal goal picked.chosen.line atom []) left in
        let all : AllByRecursion (IsProved program rank (goal_variables (only picked.chosen.line atom) []) (only picked.chosen.line atom) []) (leaf ∷ ls) = subst (AllByRecursion (IsProved program rank (goal_variables (only picked.chosen.line atom) []) (only picked.chosen.line atom) [])) some sub-is.each in
        let first : IsProved program rank (goal_variables (only picked.chosen.line atom) []) (only picked.chosen.line atom) [] leaf = all.0 in
        let nothing : leaves_of (begun tried (up_to_first (course_of t).events)) ≡ [] = leaves-outside (up_to_first (course_of t).events) in
        record {
          each = subst (AllByRecursion Proved_) (sym nothing) tt;
          whole = λ done. subst (Whole_ (WholeTree.present (first_proof leaf))) (sym (ap terms_at nothing))
              (selects-negation (λ p a. IsTrue (is_ground_atom a) × RefutableBelow (suc rank) program (only p.chosen.line a) (first_proof leaf ∷ []) × ◌≡◌ {A = List (List Tree)} [] [])
              (ground, (leaf.by, subst (λ ps. IsRefutation program (WholeBelow rank program) (goal_variables (only picked.chosen.line atom) []) (only picked.chosen.line atom) ps leaf.by) (sym (one-proof leaf first.count)) (record { count = first.count; steps = first.steps; runs = first.runs })), refl));
        }

  -- a gather whose variables are the value's
  module _ (fold : FoldKind) (result value : Tree) (atom : Atom) (form : picked.chosen.form ≡ Gather fold result value atom) (covered : IsTrue (is_covered value atom)) (left : ℕ) where
    gather-low : HasVariablesBelow goal.next (result ∷ value ∷ atom.args)
    gather-low = form-low (Gather fold result value atom) form

    result-low : Below goal.next result
    result-low = all-left (λ v. v < goal.next) (occurrences result) (all_occurrences (value ∷ atom.args)) gather-low

    value-low : HasVariablesBelow goal.next (value ∷ [])
    value-low = all-both (λ v. v < goal.next) (occurrences value) [] (all-left (λ v. v < goal.next) (occurrences value) (all_occurrences atom.args) (all-right (λ v. v < goal.next) (occurrences result) (all_occurrences (value ∷ atom.args)) gather-low)) tt

    args-low : HasVariablesBelow goal.next atom.args
    args-low = all-right (λ v. v < goal.next) (occurrences value) (all_occurrences atom.args) (all-right (λ v. v < goal.next) (occurrences result) (all_occurrences (value ∷ atom.args)) gather-low)

    cases-is : IsRight program rank (goal_variables (only picked.chosen.line atom) (value ∷ [])) (sub_goal goal picked.chosen.line atom (value ∷ [])) (grow (sub_goal goal picked.chosen.line atom (value ∷ [])) left)
    cases-is = sub-right atom (value ∷ []) left args-low value-low

    selects-gather : (P : Picked Literal → FoldKind → Tree → Tree → Atom → Type 0) → P picked fold result value atom → Selects program.version goal.literals (λ p. OfGather p.chosen.form (P p))
    selects-gather P h = selects (λ p. OfGather p.chosen.form (P p)) (subst (λ f. OfGather f (P picked)) (sym form) h)

    abbrev Cases : SearchTree
    Cases = grow (sub_goal goal picked.chosen.line atom (value ∷ [])) left

    abbrev Found : List (List Tree)
    Found = terms_at (leaves (course_of (grow (sub_goal goal picked.chosen.line atom (value ∷ [])) left)))

    folded-right : (outcome : Outcome) → WholeBelow (suc rank) program (only picked.chosen.line atom) (value ∷ []) (whole_of Cases) Found
        → Means goal.next (λ bindings. FitsBy result bindings (fold_of fold (values_at Found))) (MissesBy result (fold_of fold (values_at Found))) outcome
        → IsRight program (suc rank) seen goal (grow_folded grow goal picked (Gather fold result value atom) Cases outcome)
    folded-right (goes_on bindings) whole_cases meant =
        let inner : SearchTree = grow (rest_by goal picked bindings) (course_of Cases).left in
        let step : Step = step_past picked bindings (cases_gathered fold result value atom (whole_of Cases)) in
        let here : IsRight program (suc rank) (map_variables bindings ++ seen) (rest_by goal picked bindings) inner = rest-right bindings (course_of Cases).left meant.1 in
        let found_are : leaves_of (begun folded (course_of Cases).events ++ map (seen_above step) (course_of inner).events) ≡ map (from_above step) (leaves (course_of inner)) =
        leaves-behind folded (course_of Cases).events (map (seen_above step) (course_of inner).events) refl ∙ leaves-above step (course_of inner).events in
        record {
          each = subst (AllByRecursion Proved_) (sym found_are)
              (all-map (IsProved program (suc rank) (map_variables bindings ++ seen) (rest_by goal picked bindings).literals (rest_by goal picked bindings).terms) Proved_ (from_above step)
              (λ leaf proved. gather-proves program (suc rank) seen goal picked fold result value atom bindings (whole_of Cases) Found one form covered whole_cases meant.0 leaf proved) (leaves (course_of inner)) here.each);
          whole = λ done. subst (Whole_ (WholeTree.gathered (whole_of Cases) (whole_of inner))) (sym (ap terms_at found_are ∙ terms-above step (leaves (course_of inner))))
              (selects-gather (λ p f r v a. Gathers program (WholeBelow (suc rank) program) (RefutableBelow (suc rank) program) (IsWhole program (WholeBelow (suc rank) program) (RefutableBelow (suc rank) program) (whole_of inner)) seen p f r v a goal.terms (whole_of Cases) (terms_at (leaves (course_of inner))))
              (record { covered = covered; cases = Found; whole = whole_cases; unifier = bindings; fits = meant.0; rest = here.whole done }));
        }
    folded-right fails whole_cases meant = record {
      each = subst (AllByRecursion Proved_) (sym (leaves-behind folded (course_of Cases).events [] refl)) tt;
      whole = λ done. subst (Whole_ (WholeTree.ungathered (whole_of Cases))) (sym (ap terms_at (leaves-behind folded (course_of Cases).events [] refl)))
          (selects-gather (λ p f r v a. Misses program (WholeBelow (suc rank) program) (RefutableBelow (suc rank) program) p.chosen.line f r v a (whole_of Cases) × ◌≡◌ {A = List (List Tree)} [] [])
          (record { covered = covered; cases = Found; whole = whole_cases; misses = meant }, refl));
    }
    folded-right (ends e) whole_cases meant = record {
      each = subst (AllByRecursion Proved_) (sym (leaves-behind folded (course_of Cases).events (stopped ∷ []) refl)) tt;
      whole = λ done. absurd (stop-not-done e meant done);
    }

    gathering-right : (e : Next) → e ≡ (course_of Cases).ending → (e ≡ Done → ⊥) → IsRight program (suc rank) seen goal (SearchTree.gathering Cases)
    gathering-right e same other = record {
      each = subst (AllByRecursion Proved_) (sym (leaves-behind folded (course_of Cases).events [] refl)) tt;
      whole = λ done. absurd (other (same ∙ done));
    }

    folding-means : Means goal.next (λ bindings. FitsBy result bindings (fold_of fold (values_at Found))) (MissesBy result (fold_of fold (values_at Found))) (folding picked.chosen.line fold result (leaves (course_of Cases)))
    folding-means =
        subst (λ vs. Means goal.next (λ bindings. FitsBy result bindings (fold_of fold (values_at Found))) (MissesBy result (fold_of fold (values_at Found))) (by_fold picked.chosen.line result (fold_of fold vs))) (values-at-cases (leaves (course_of Cases)))
        (by-folded goal.next picked.chosen.line result (fold_of fold (values_at Found)) result-low)

    pub gather-right : (e : Next) → e ≡ (course_of Cases).ending → IsRight program (suc rank) seen goal (grow_gather grow goal picked (Gather fold result value atom) Cases (folding picked.chosen.line fold result (leaves (course_of Cases))) e)
    gather-right Done same = folded-right (folding picked.chosen.line fold result (leaves (course_of Cases))) (cases-is.whole (sym same)) folding-means
    gather-right Answer same = gathering-right Answer same (λ is. cc is)
    gather-right (Floundered line) same = gathering-right (Floundered line) same (λ is. cc is)
    gather-right (OutOfRange line) same = gathering-right (OutOfRange line) same (λ is. cc is)
    gather-right Spent same = gathering-right Spent same (λ is. cc is)

  -- what is selected
  pub form-right : (are : AllByRecursion IsClause program.clauses) (left : ℕ) (form : Form) → picked.chosen.form ≡ form → IsRight program (suc rank) seen goal (grow_form grow program.clauses goal picked left picked.chosen.line form)
  form-right are left (Pos atom) is = split-right program are (suc rank) grow right goal seen below low picked one atom is left
  form-right are left (Calc atom) is = computed-right atom is left (computing picked.chosen.line atom) (by-calc goal.next picked.chosen.line atom.args (compute atom.pred atom.args) (results atom.pred atom.args) (form-low (Calc atom) is))
  form-right are left (Neg atom) is = by (is_ground_atom atom) refl
    where
      by : (b : Bool) → is_ground_atom atom ≡ b → IsRight program (suc rank) seen goal (if b then grow_negation grow goal picked atom (grow (sub_goal goal picked.chosen.line atom []) left) (leaves (course_of (grow (sub_goal goal picked.chosen.line atom []) left))) else SearchTree.halted (Floundered picked.chosen.line) left)
      by true test = negation-right atom is test left (leaves (course_of (grow (sub_goal goal picked.chosen.line atom []) left))) refl
      by false test = record { each = tt; whole = λ done. absurd (cc done) }
  form-right are left (Gather fold result value atom) is = by (is_covered value atom) refl
    where
      by : (b : Bool) → is_covered value atom ≡ b → IsRight program (suc rank) seen goal (if b then grow_gather grow goal picked (Gather fold result value atom) (grow (sub_goal goal picked.chosen.line atom (value ∷ [])) left) (folding picked.chosen.line fold result (leaves (course_of (grow (sub_goal goal picked.chosen.line atom (value ∷ [])) left)))) (course_of (grow (sub_goal goal picked.chosen.line atom (value ∷ [])) left)).ending else SearchTree.halted (Floundered picked.chosen.line) left)
      by true test = gather-right fold result value atom is test left (course_of (grow (sub_goal goal picked.chosen.line atom (value ∷ [])) left)).ending refl
      by false test = record { each = tt; whole = λ done. absurd (cc done) }

module _ (results : (pred : ℕ) (terms : List Tree) → GivesGround (compute pred terms)) (program : Program) (are : AllByRecursion IsClause program.clauses) where
  at-right : (rank depth : ℕ) (goal : Goal) (seen : List ℕ) (left : ℕ) → IsBelow goal → Seen goal.next seen
      → ((g : Goal) (k : ℕ) (s : List ℕ) → IsBelow g → Seen g.next s → IsRight program (suc rank) s g (grow_within depth program g k))
      → ((g : Goal) (k : ℕ) (s : List ℕ) → IsBelow g → Seen g.next s → IsRight program rank s g (grow_within depth program g k))
      → IsRight program (suc rank) seen goal (grow_at (grow_within depth program) program goal goal.literals left)
  at-right rank depth goal seen left below low right right_below = by goal.literals refl left
    where
      by_picked : (left : ℕ) (first : Literal) (o : Option (Picked Literal)) → selected program.version goal.literals ≡ o → IsRight program (suc rank) seen goal (grow_picked (grow_within depth program) program.clauses goal first left o)
      by_picked left first None is = record { each = tt; whole = λ done. absurd (cc done) }
      by_picked left first (Some picked) is = form-right results program rank (grow_within depth program) right right_below goal seen below low picked is are left picked.chosen.form refl

      by : (literals : List Literal) → goal.literals ≡ literals → (left : ℕ) → IsRight program (suc rank) seen goal (grow_at (grow_within depth program) program goal literals left)
      by [] none left = record {
        each = (record { count = ap length (sym none); steps = 0; runs = (ap (λ ls. zip ls []) none, λ v. refl); values = sym (terms-same goal.terms) }, tt);
        whole = λ done. (none, refl);
      }
      by (literal ∷ literals) is zero = record { each = tt; whole = λ done. absurd (cc done) }
      by (literal ∷ literals) is (suc left) = by_picked left literal (selected program.version (literal ∷ literals)) (ap (selected program.version) is)

  -- each grown tree is right, at each rank that isn't below its depth
  pub within-right : (depth rank : ℕ) → depth ≤ rank → (goal : Goal) (left : ℕ) (seen : List ℕ) → IsBelow goal → Seen goal.next seen → IsRight program rank seen goal (grow_within depth program goal left)
  within-right zero rank less goal left seen below low = record { each = tt; whole = λ done. absurd (cc done) }
  within-right (suc depth) zero less goal left seen below low = absurd (omega arith)
  within-right (suc depth) (suc rank) less goal left seen below low =
      at-right rank depth goal seen left below low
      (λ g k s b l. within-right depth (suc rank) (omega arith) g k s b l)
      (λ g k s b l. within-right depth rank (omega arith) g k s b l)
