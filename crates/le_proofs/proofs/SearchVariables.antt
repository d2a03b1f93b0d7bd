-- How many variables the answers of a search and the proofs in its trees have: at most 64 for each selection.
use Rattle.std.proofs.Common.{◌≡◌, ℕ, zero, suc, ◌+◌, ◌*◌, ◌<◌, ◌≤◌, ◌==◌, Bool, true, false, List, [], ◌∷◌, ◌++◌, map, length, take, drop, Option, Some, None, option_map, refl, sym, ap, subst, ◌∙◌, le_refl, le_trans, arith, if◌then◌else◌}
use Rattle.std.proofs.lemmas.Bool.{eqb-true}
use Rattle.std.specs.List.{AllByRecursion, cons_option}
use Rattle.le_base.specs.declared.stop.FoldKind.{FoldKind}
use Rattle.le_terms.specs.Tree.{Tree}
use Rattle.le_terms.specs.Variables.{occurrences, all_occurrences, all_variables}
use Rattle.le_terms.specs.Program.{IsClause, form_terms, literals_terms}
use Rattle.le_terms.specs.declared.program.Atom.{Atom}
use Rattle.le_terms.specs.declared.program.Clause.{Clause}
use Rattle.le_terms.specs.declared.program.Form.{Form}
use Rattle.le_terms.specs.declared.program.Form.TheVariants.{Pos, Neg, Calc, Gather}
use Rattle.le_terms.specs.declared.program.Literal.{Literal}
use Rattle.le_terms.specs.declared.program.Program.{Program}
use Rattle.le_subst.specs.Unifiers.{Bindings, value_at}
use Rattle.le_subst.specs.Solution.{solve_of}
use Rattle.le_builtins.specs.Compute.{compute}
use Rattle.le_builtins.proofs.Results.{results}
use Rattle.le_gather.specs.Folds.{fold_of}
use Rattle.le_proofs.specs.Goals.{Goal, Picked, Child, is_delayed, selected, children, child_by, head_equations, head_solution, raised, terms_under, literals_under, put_in_place, rest_of, sub_goal, rest_by, rest_goal, is_ground_atom}
use Rattle.le_proofs.specs.Proofs.{Proof, packed, Reason, clause_used, value_computed, failure_shown, cases_gathered, Step, Leaf, from_above, step_to, step_past, proof_by, then_by}
use Rattle.le_proofs.specs.SearchTree.{SearchTree, Branches, Event, stopped, up_to_first, leaves_of, seen_above, seen_outside, leaves, course_of, course_each, whole_of, whole_each, first_proof}
use Rattle.le_proofs.specs.Search.{Outcome, goes_on, fails, ends, computing, folding, value_of, is_covered, branch_before, grow_each, grow_computed, grow_lacking, grow_negation, grow_folded, grow_gather, grow_form, grow_picked, grow_at, grow_within}
use Rattle.le_proofs.specs.declared.next.Next.{Next}
use Rattle.le_proofs.specs.declared.next.Next.TheVariants.{Answer, Done, Floundered, OutOfRange, Spent}
use Rattle.le_proofs.proofs.Alls.{all-both, all-left, all-right, all-weaken}
use Rattle.le_proofs.proofs.Closed.{Has, AllHave, MapsInto, replaced-has, terms-have, literals-have, both-have, front-has, back-has, AnswerHas, arguments-solved, AroundHas, around-has, put-has, OutcomeHas, by-answer-has, by-fold-has}
use Rattle.le_proofs.proofs.Courses.{leaves-append, leaves-outside, leaves-above}
use Rattle.le_proofs.proofs.Growing.{Falls, within-falls}
use Rattle.le_proofs.proofs.OwnVariables.{own_proof, own_proofs, inner_proof, inner_listed, inner_tree, inner_branches, inner-packed, inner-append, inner-cut, own-packed, From, few-from}
use Rattle.le_proofs.proofs.Picks.{pick-means}

pub all-take : {X : Type 0} (P : X → Type 0) (n : ℕ) (xs : List X) → AllByRecursion P xs → AllByRecursion P (take n xs)
all-take P zero xs h = tt
all-take P (suc n) [] h = tt
all-take P (suc n) (x ∷ xs) h = (h.0, all-take P n xs h.1)

pub all-drop : {X : Type 0} (P : X → Type 0) (n : ℕ) (xs : List X) → AllByRecursion P xs → AllByRecursion P (drop n xs)
all-drop P zero xs h = h
all-drop P (suc n) [] h = tt
all-drop P (suc n) (x ∷ xs) h = all-drop P n xs h.1

-- a goal whose variables are from a number on and below its next one
pub record Since (low : ℕ) (goal : Goal) : Type 0 where
  pub from : low ≤ goal.next
  pub literals : AllHave (From low goal.next) (literals_terms goal.literals)
  pub terms : AllHave (From low goal.next) goal.terms

-- the variables of what a step shows
abbrev ReasonHas : (ℕ → Type 0) → Reason → Type 0
ReasonHas Q (clause_used number atom) = AllHave Q atom.args
ReasonHas Q (value_computed atom) = AllHave Q atom.args
ReasonHas Q (failure_shown atom t) = AllHave Q atom.args
ReasonHas Q (cases_gathered fold result value atom t) = AllHave Q (result ∷ value ∷ atom.args)

abbrev inner_reason : Reason → ℕ
inner_reason (clause_used number atom) = 0
inner_reason (value_computed atom) = 0
inner_reason (failure_shown atom t) = inner_tree t
inner_reason (cases_gathered fold result value atom t) = inner_tree t

own-by : (Q R : ℕ → Type 0) (by : ℕ → Tree) → MapsInto Q R by → (below : List Proof) → AllByRecursion (λ proof. AllHave R (own_proof proof)) below → (reason : Reason) → ReasonHas Q reason → AllHave R (own_proof (proof_by by below reason))
own-by Q R by maps below all (clause_used number atom) h = both-have R (terms_under by atom.args) (own_proofs (packed below)) (terms-have Q R by maps atom.args h) (own-packed R below all)
own-by Q R by maps below all (value_computed atom) h = terms-have Q R by maps atom.args h
own-by Q R by maps below all (failure_shown atom t) h = terms-have Q R by maps atom.args h
own-by Q R by maps below all (cases_gathered fold result value atom t) h = terms-have Q R by maps (result ∷ value ∷ atom.args) h

inner-by : (by : ℕ → Tree) (below : List Proof) (reason : Reason) → inner_proof (proof_by by below reason) ≤ inner_listed below + inner_reason reason
inner-by by below (clause_used number atom) = let same = inner-packed below in omega arith
inner-by by below (value_computed atom) = omega arith
inner-by by below (failure_shown atom t) = omega arith
inner-by by below (cases_gathered fold result value atom t) = omega arith

-- A leaf of a goal whose variables are from one number on and below another, with so many selections: what it has variables of is from that number on, and with the variables of the proofs in trees it has at most 64 for each selection that was made.
pub record LeafFew (low next left : ℕ) (leaf : Leaf) : Type 0 where
  pub high : ℕ
  pub more : next ≤ high
  pub terms : AllHave (From low high) leaf.terms
  pub maps : MapsInto (From low next) (From low high) leaf.by
  pub owns : AllByRecursion (λ proof. AllHave (From low high) (own_proof proof)) leaf.proofs
  pub room : high + inner_listed leaf.proofs + 64 * leaf.left ≤ next + 64 * left

-- a step from variables below one number to those below another
record StepFew (low next then_next : ℕ) (step : Step) : Type 0 where
  more : next ≤ then_next
  maps : MapsInto (From low then_next) (From low then_next) (value_at step.unifier)
  reason : ReasonHas (From low next) step.reason

leaf-above : (low next left then_next then_left : ℕ) (step : Step) → StepFew low next then_next step → then_next + inner_reason step.reason + 64 * then_left ≤ next + 64 * left → (leaf : Leaf) → LeafFew low then_next then_left leaf → LeafFew low next left (from_above step leaf)
leaf-above low next left then_next then_left step fits room leaf h =
    let Q : ℕ → Type 0 = From low next in
    let R : ℕ → Type 0 = From low h.high in
    let P : Proof → Type 0 = λ proof. AllHave R (own_proof proof) in
    let by : ℕ → Tree = then_by step.unifier leaf.by in
    let maps : MapsInto Q R by = λ v is. replaced-has (From low then_next) R leaf.by h.maps (value_at step.unifier v) (fits.maps v (is.0, let less : v < next = is.1 in let grown : next ≤ then_next = fits.more in omega arith)) in
    let front : List Proof = take step.place leaf.proofs in
    let rest : List Proof = drop step.place leaf.proofs in
    let new : List Proof = take step.count rest in
    let behind : List Proof = drop step.count rest in
    let proof : Proof = proof_by by new step.reason in
    let in_rest : AllByRecursion P rest = all-drop P step.place leaf.proofs h.owns in
    let first_cut : inner_listed front + inner_listed rest ≡ inner_listed leaf.proofs = inner-cut step.place leaf.proofs in
    let second_cut : inner_listed new + inner_listed behind ≡ inner_listed rest = inner-cut step.count rest in
    let joined : inner_listed (front ++ (proof ∷ behind)) ≡ inner_listed front + (inner_proof proof + inner_listed behind) = inner-append front (proof ∷ behind) in
    let one : inner_proof proof ≤ inner_listed new + inner_reason step.reason = inner-by by new step.reason in
    record {
      high = h.high;
      more = le_trans fits.more h.more;
      terms = h.terms;
      maps = maps;
      owns = all-both P front (proof ∷ behind) (all-take P step.place leaf.proofs h.owns) (own-by Q R by maps new (all-take P step.count rest in_rest) step.reason fits.reason, all-drop P step.count rest in_rest);
      room = let below : h.high + inner_listed leaf.proofs + 64 * leaf.left ≤ then_next + 64 * then_left = h.room in omega arith;
    }

abbrev LeavesFew : ℕ → ℕ → ℕ → List Leaf → Type 0
LeavesFew low next left ls = AllByRecursion (LeafFew low next left) ls

few-map : (low next left then_next then_left : ℕ) (step : Step) → StepFew low next then_next step → then_next + inner_reason step.reason + 64 * then_left ≤ next + 64 * left → (ls : List Leaf) → LeavesFew low then_next then_left ls → LeavesFew low next left (map (from_above step) ls)
few-map low next left then_next then_left step fits room [] h = tt
few-map low next left then_next then_left step fits room (leaf ∷ ls) h = (leaf-above low next left then_next then_left step fits room leaf h.0, few-map low next left then_next then_left step fits room ls h.1)

few-above : (low next left then_next then_left : ℕ) (step : Step) → StepFew low next then_next step → then_next + inner_reason step.reason + 64 * then_left ≤ next + 64 * left → (events : List Event) → LeavesFew low then_next then_left (leaves_of events) → LeavesFew low next left (leaves_of (map (seen_above step) events))
few-above low next left then_next then_left step fits room events h = subst (LeavesFew low next left) (sym (leaves-above step events)) (few-map low next left then_next then_left step fits room (leaves_of events) h)

few-behind : (low next left : ℕ) (events others : List Event) → LeavesFew low next left (leaves_of others) → LeavesFew low next left (leaves_of (map seen_outside events ++ others))
few-behind low next left events others h = subst (LeavesFew low next left) (sym (leaves-append (map seen_outside events) others ∙ ap (λ ls. ls ++ leaves_of others) (leaves-outside events))) h

-- a grown tree of a goal with this next variable and so many selections
pub record Fits (low next left : ℕ) (t : SearchTree) : Type 0 where
  pub each : LeavesFew low next left (leaves (course_of t))
  pub whole : inner_tree (whole_of t) + 64 * (course_of t).left ≤ 64 * left

record AllFits (low next left : ℕ) (branches : Branches) : Type 0 where
  each : LeavesFew low next (suc left) (leaves (course_each branches))
  whole : inner_branches (whole_each branches) + 64 * (course_each branches).left ≤ 64 * left

-- the proof in a tree, of a leaf whose goal has no variables of before
inner-first : (next left : ℕ) (leaf : Leaf) → LeafFew next next left leaf → length (all_variables (own_proof (first_proof leaf))) + inner_proof (first_proof leaf) + 64 * leaf.left ≤ 64 * left
inner-first next left leaf h = by leaf.proofs h.owns h.room
  where
    by : (ps : List Proof) → AllByRecursion (λ proof. AllHave (From next h.high) (own_proof proof)) ps → h.high + inner_listed ps + 64 * leaf.left ≤ next + 64 * left
        → length (all_variables (own_proof (first_proof (record { terms = leaf.terms; left = leaf.left; by = leaf.by; proofs = ps })))) + inner_proof (first_proof (record { terms = leaf.terms; left = leaf.left; by = leaf.by; proofs = ps })) + 64 * leaf.left ≤ 64 * left
    by [] all room = let more : next ≤ h.high = h.more in omega arith
    by (p ∷ ps) all room = let few : length (all_variables (own_proof p)) + next ≤ h.high = few-from next h.high h.more (own_proof p) all.0 in omega arith

wider : (low next then_next : ℕ) → next ≤ then_next → (trees : List Tree) → AllHave (From low next) trees → AllHave (From low then_next) trees
wider low next then_next more trees h = all-weaken (From low next) (From low then_next) (λ v (is : From low next v). (is.0, let less : v < next = is.1 in omega arith)) (all_occurrences trees) h

-- a ground atom has no variables at all
ground-has : (Q : ℕ → Type 0) (atom : Atom) → is_ground_atom atom ≡ true → AllHave Q atom.args
ground-has Q atom ground = by (all_occurrences atom.args) (eqb-true (length (all_occurrences atom.args)) 0 ground)
  where
    by : (vs : List ℕ) → length vs ≡ 0 → AllByRecursion Q vs
    by [] none = tt
    by (v ∷ vs) none = absurd (omega (arith, none))

module _ (grow : Goal → ℕ → SearchTree) (falls : Falls grow) (keeps : (low : ℕ) (goal : Goal) (left : ℕ) → Since low goal → Fits low goal.next left (grow goal left)) where
  -- a child by a clause
  record ChildFew (low next : ℕ) (child : Child) : Type 0 where
    more : next ≤ child.goal.next
    few : child.goal.next ≤ next + 64
    maps : MapsInto (From low child.goal.next) (From low child.goal.next) (value_at child.unifier)
    since : Since low child.goal

  fits-branch : (low next left : ℕ) (e : Next) (child : Child) (step : Step) (first : SearchTree) (more : ℕ → Branches) → StepFew low next child.goal.next step → inner_reason step.reason ≡ 0 → child.goal.next ≤ next + 64 → Fits low child.goal.next left first → (course_of first).left ≤ left
      → AllFits low next (course_of first).left (more (course_of first).left) → AllFits low next left (branch_before e child step first more)
  fits-branch low next left e child step first more fits none_ few here less there =
      let room : child.goal.next + inner_reason step.reason + 64 * left ≤ next + 64 * suc left = omega arith in
      let each : LeavesFew low next (suc left) (leaves_of (map (seen_above step) (course_of first).events)) = few-above low next (suc left) child.goal.next left step fits room (course_of first).events here.each in
      by e each
    where
      later : (ls : List Leaf) → LeavesFew low next (suc (course_of first).left) ls → LeavesFew low next (suc left) ls
      later ls h = all-weaken (LeafFew low next (suc (course_of first).left)) (LeafFew low next (suc left)) (λ leaf (k : LeafFew low next (suc (course_of first).left) leaf). record {
        high = k.high;
        more = k.more;
        terms = k.terms;
        maps = k.maps;
        owns = k.owns;
        room = let below : k.high + inner_listed leaf.proofs + 64 * leaf.left ≤ next + 64 * suc (course_of first).left = k.room in omega arith;
      }) ls h

      by : (e : Next) → LeavesFew low next (suc left) (leaves_of (map (seen_above step) (course_of first).events)) → AllFits low next left (branch_before e child step first more)
      by Done each = record {
        each = subst (LeavesFew low next (suc left)) (sym (leaves-append (map (seen_above step) (course_of first).events) (course_each (more (course_of first).left)).events))
            (all-both (LeafFew low next (suc left)) (leaves_of (map (seen_above step) (course_of first).events)) (leaves (course_each (more (course_of first).left))) each (later (leaves (course_each (more (course_of first).left))) there.each));
        whole = let one : inner_tree (whole_of first) + 64 * (course_of first).left ≤ 64 * left = here.whole in
            let rest : inner_branches (whole_each (more (course_of first).left)) + 64 * (course_each (more (course_of first).left)).left ≤ 64 * (course_of first).left = there.whole in omega arith;
      }
      by Answer each = record { each = each; whole = omega arith }
      by (Floundered line) each = record { each = each; whole = omega arith }
      by (OutOfRange line) each = record { each = each; whole = omega arith }
      by Spent each = record { each = each; whole = omega arith }

  fits-each : (low next place : ℕ) (atom : Atom) → AllHave (From low next) atom.args → (others : List Child) → AllByRecursion (ChildFew low next) others → (left : ℕ) → AllFits low next left (grow_each grow place atom others left)
  fits-each low next place atom is [] all left = record { each = tt; whole = omega arith }
  fits-each low next place atom is (child ∷ others) all left =
      fits-branch low next left (course_of (grow child.goal left)).ending child (step_to place atom child) (grow child.goal left) (grow_each grow place atom others)
      (record { more = all.0.more; maps = all.0.maps; reason = is }) refl all.0.few (keeps low child.goal left all.0.since) (falls child.goal left).end
      (fits-each low next place atom is others all.1 (course_of (grow child.goal left)).left)

  module _ (low : ℕ) (goal : Goal) (left : ℕ) (since : Since low goal) (picked : Picked Literal) (h : AroundHas (From low goal.next) picked) where
    child-few : (place : ℕ) (clause : Clause) (bindings : Bindings) → IsClause clause → MapsInto (From low (goal.next + clause.vars)) (From low (goal.next + clause.vars)) (value_at bindings) → ChildFew low goal.next (child_by goal picked place clause bindings)
    child-few place clause bindings is maps =
        let n : ℕ = goal.next + clause.vars in
        let Q : ℕ → Type 0 = From low n in
        let V : ℕ → Type 0 = λ v. v < clause.vars in
        let more : goal.next ≤ n = omega arith in
        let wide : AroundHas Q picked = record {
          before = wider low goal.next n more (literals_terms picked.before) h.before;
          chosen = wider low goal.next n more (form_terms picked.chosen.form) h.chosen;
          behind = wider low goal.next n more (literals_terms picked.behind) h.behind;
        } in
        let body : AllHave Q (literals_terms (literals_under (raised goal.next) clause.body)) = literals-have V Q (raised goal.next) (λ v (less : v < clause.vars). ((let from : low ≤ goal.next = since.from in omega arith, omega arith), tt)) clause.body (back-has V clause.head.args (literals_terms clause.body) is.variables) in
        record {
          more = more;
          few = let few : clause.vars ≤ 64 = is.few in omega arith;
          maps = maps;
          since = record {
            from = let from : low ≤ goal.next = since.from in omega arith;
            literals = literals-have Q Q (value_at bindings) maps (put_in_place picked (literals_under (raised goal.next) clause.body)) (put-has Q picked (literals_under (raised goal.next) clause.body) wide body);
            terms = terms-have Q Q (value_at bindings) maps goal.terms (wider low goal.next n more goal.terms since.terms);
          };
        }

    head-has : (clause : Clause) (atom : Atom) → IsClause clause → AllHave (From low goal.next) atom.args → AnswerHas (From low (goal.next + clause.vars)) (head_solution goal.next clause atom)
    head-has clause atom is args = by (clause.head.pred == atom.pred)
      where
        by : (b : Bool) → AnswerHas (From low (goal.next + clause.vars)) (if b then solve_of (head_equations goal.next clause atom) else None)
        by true =
            let V : ℕ → Type 0 = λ v. v < clause.vars in
            arguments-solved (From low (goal.next + clause.vars)) (terms_under (raised goal.next) clause.head.args) atom.args
            (terms-have V (From low (goal.next + clause.vars)) (raised goal.next) (λ v (less : v < clause.vars). ((let from : low ≤ goal.next = since.from in omega arith, omega arith), tt)) clause.head.args (front-has V clause.head.args (literals_terms clause.body) is.variables))
            (wider low goal.next (goal.next + clause.vars) (omega arith) atom.args args)
        by false = tt

    children-few : (atom : Atom) → AllHave (From low goal.next) atom.args → (place : ℕ) (clauses : List Clause) → AllByRecursion IsClause clauses → AllByRecursion (ChildFew low goal.next) (children goal picked atom place clauses)
    children-few atom is place [] all = tt
    children-few atom is place (clause ∷ clauses) all = by (head_solution goal.next clause atom) (head-has clause atom all.0 is) (children-few atom is (suc place) clauses all.1)
      where
        by : (o : Option Bindings) → AnswerHas (From low (goal.next + clause.vars)) o → AllByRecursion (ChildFew low goal.next) (children goal picked atom (suc place) clauses)
            → AllByRecursion (ChildFew low goal.next) (cons_option (option_map (child_by goal picked place clause) o) (children goal picked atom (suc place) clauses))
        by (Some bindings) maps rest = (child-few place clause bindings all.0 maps, rest)
        by None maps rest = rest

    fits-rest : (bindings : Bindings) → MapsInto (From low goal.next) (From low goal.next) (value_at bindings) → (k : ℕ) → Fits low goal.next k (grow (rest_by goal picked bindings) k)
    fits-rest bindings maps k = keeps low (rest_by goal picked bindings) k (record {
      from = since.from;
      literals = literals-have (From low goal.next) (From low goal.next) (value_at bindings) maps (rest_of picked) (put-has (From low goal.next) picked [] h tt);
      terms = terms-have (From low goal.next) (From low goal.next) (value_at bindings) maps goal.terms since.terms;
    })

    step-few : (bindings : Bindings) (reason : Reason) → MapsInto (From low goal.next) (From low goal.next) (value_at bindings) → ReasonHas (From low goal.next) reason → StepFew low goal.next goal.next (step_past picked bindings reason)
    step-few bindings reason maps is = record { more = le_refl goal.next; maps = maps; reason = is }

    fits-computed : (atom : Atom) → AllHave (From low goal.next) atom.args → (outcome : Outcome) → OutcomeHas (From low goal.next) outcome → Fits low goal.next (suc left) (grow_computed grow goal picked atom left outcome)
    fits-computed atom is (goes_on bindings) maps =
        let here : Fits low goal.next left (grow (rest_by goal picked bindings) left) = fits-rest bindings maps left in
        record {
          each = few-above low goal.next (suc left) goal.next left (step_past picked bindings (value_computed atom)) (step-few bindings (value_computed atom) maps is) (omega arith) (course_of (grow (rest_by goal picked bindings) left)).events here.each;
          whole = let below = here.whole in omega arith;
        }
    fits-computed atom is fails maps = record { each = tt; whole = omega arith }
    fits-computed atom is (ends e) maps = record { each = tt; whole = omega arith }

    -- the trees of negations and gathers, which leave no more selections than there are
    module _ (sub : SearchTree) (below : inner_tree (whole_of sub) + 64 * (course_of sub).left ≤ 64 * left) where
      fits-none : Fits low goal.next (suc left) (SearchTree.trying sub)
      fits-none = record { each = few-behind low goal.next (suc left) (course_of sub).events [] tt; whole = omega (arith, below) }

      fits-lacking : (atom : Atom) → AllHave (From low goal.next) atom.args → (e : Next) → Fits low goal.next (suc left) (grow_lacking grow goal picked atom sub e)
      fits-lacking atom is Done =
          let step : Step = step_past picked [] (failure_shown atom (whole_of sub)) in
          let inner : SearchTree = grow (rest_goal goal picked) (course_of sub).left in
          let here : Fits low goal.next (course_of sub).left inner = keeps low (rest_goal goal picked) (course_of sub).left (record { from = since.from; literals = put-has (From low goal.next) picked [] h tt; terms = since.terms }) in
          record {
            each = few-behind low goal.next (suc left) (course_of sub).events (map (seen_above step) (course_of inner).events)
                (few-above low goal.next (suc left) goal.next (course_of sub).left step (step-few [] (failure_shown atom (whole_of sub)) (λ v in_. (in_, tt)) is) (omega (arith, below)) (course_of inner).events here.each);
            whole = let rest = here.whole in omega (arith, below);
          }
      fits-lacking atom is Answer = fits-none
      fits-lacking atom is (Floundered line) = fits-none
      fits-lacking atom is (OutOfRange line) = fits-none
      fits-lacking atom is Spent = fits-none

      fits-negation : (atom : Atom) → AllHave (From low goal.next) atom.args → (ls : List Leaf) → LeavesFew goal.next goal.next left ls → Fits low goal.next (suc left) (grow_negation grow goal picked atom sub ls)
      fits-negation atom is [] all = fits-lacking atom is (course_of sub).ending
      fits-negation atom is (leaf ∷ ls) all = record {
        each = subst (LeavesFew low goal.next (suc left)) (sym (leaves-outside (up_to_first (course_of sub).events))) tt;
        whole = let few = inner-first goal.next left leaf all.0 in omega arith;
      }

      fits-gathering : Fits low goal.next (suc left) (SearchTree.gathering sub)
      fits-gathering = record { each = few-behind low goal.next (suc left) (course_of sub).events [] tt; whole = omega (arith, below) }

      fits-folded : (fold : FoldKind) (result value : Tree) (atom : Atom) → AllHave (From low goal.next) (result ∷ value ∷ atom.args) → (outcome : Outcome) → OutcomeHas (From low goal.next) outcome → Fits low goal.next (suc left) (grow_folded grow goal picked (Gather fold result value atom) sub outcome)
      fits-folded fold result value atom is (goes_on bindings) maps =
          let reason : Reason = cases_gathered fold result value atom (whole_of sub) in
          let step : Step = step_past picked bindings reason in
          let inner : SearchTree = grow (rest_by goal picked bindings) (course_of sub).left in
          let here : Fits low goal.next (course_of sub).left inner = fits-rest bindings maps (course_of sub).left in
          record {
            each = few-behind low goal.next (suc left) (course_of sub).events (map (seen_above step) (course_of inner).events)
                (few-above low goal.next (suc left) goal.next (course_of sub).left step (step-few bindings reason maps is) (omega (arith, below)) (course_of inner).events here.each);
            whole = let rest = here.whole in omega (arith, below);
          }
      fits-folded fold result value atom is fails maps = record { each = few-behind low goal.next (suc left) (course_of sub).events [] tt; whole = omega (arith, below) }
      fits-folded fold result value atom is (ends e) maps = record { each = few-behind low goal.next (suc left) (course_of sub).events (stopped ∷ []) tt; whole = omega (arith, below) }

      fits-gather : (fold : FoldKind) (result value : Tree) (atom : Atom) → AllHave (From low goal.next) (result ∷ value ∷ atom.args) → (outcome : Outcome) → OutcomeHas (From low goal.next) outcome → (e : Next) → Fits low goal.next (suc left) (grow_gather grow goal picked (Gather fold result value atom) sub outcome e)
      fits-gather fold result value atom is outcome maps Done = fits-folded fold result value atom is outcome maps
      fits-gather fold result value atom is outcome maps Answer = fits-gathering
      fits-gather fold result value atom is outcome maps (Floundered line) = fits-gathering
      fits-gather fold result value atom is outcome maps (OutOfRange line) = fits-gathering
      fits-gather fold result value atom is outcome maps Spent = fits-gathering

    fits-form : (clauses : List Clause) → AllByRecursion IsClause clauses → (line : ℕ) (form : Form) → AllHave (From low goal.next) (form_terms form) → Fits low goal.next (suc left) (grow_form grow clauses goal picked left line form)
    fits-form clauses all line (Pos atom) is =
        let branches : AllFits low goal.next left (grow_each grow (length picked.before) atom (children goal picked atom 1 clauses) left) = fits-each low goal.next (length picked.before) atom is (children goal picked atom 1 clauses) (children-few atom is 1 clauses all) left in
        record { each = branches.each; whole = let few = branches.whole in omega arith }
    fits-form clauses all line (Calc atom) is = fits-computed atom is (computing line atom) (by-answer-has (From low goal.next) line atom.args (compute atom.pred atom.args) (results atom.pred atom.args) is)
    fits-form clauses all line (Neg atom) is = by (is_ground_atom atom) refl
      where
        by : (b : Bool) → is_ground_atom atom ≡ b → Fits low goal.next (suc left) (if b then grow_negation grow goal picked atom (grow (sub_goal goal line atom []) left) (leaves (course_of (grow (sub_goal goal line atom []) left))) else SearchTree.halted (Floundered line) left)
        by true ground =
            let sub : SearchTree = grow (sub_goal goal line atom []) left in
            let below : Fits goal.next goal.next left sub = keeps goal.next (sub_goal goal line atom []) left (record { from = le_refl goal.next; literals = both-have (From goal.next goal.next) atom.args [] (ground-has (From goal.next goal.next) atom ground) tt; terms = tt }) in
            fits-negation sub below.whole atom is (leaves (course_of sub)) below.each
        by false open_ = record { each = tt; whole = omega arith }
    fits-form clauses all line (Gather fold result value atom) is = by (is_covered value atom)
      where
        by : (b : Bool) → Fits low goal.next (suc left) (if b then grow_gather grow goal picked (Gather fold result value atom) (grow (sub_goal goal line atom (value ∷ [])) left) (folding line fold result (leaves (course_of (grow (sub_goal goal line atom (value ∷ [])) left)))) (course_of (grow (sub_goal goal line atom (value ∷ [])) left)).ending else SearchTree.halted (Floundered line) left)
        by true =
            let Q : ℕ → Type 0 = From low goal.next in
            let sub : SearchTree = grow (sub_goal goal line atom (value ∷ [])) left in
            let in_result : Has Q result = all-left Q (occurrences result) (all_occurrences (value ∷ atom.args)) is in
            let rest : AllByRecursion Q (all_occurrences (value ∷ atom.args)) = all-right Q (occurrences result) (all_occurrences (value ∷ atom.args)) is in
            let in_value : Has Q value = all-left Q (occurrences value) (all_occurrences atom.args) rest in
            let in_atom : AllHave Q atom.args = all-right Q (occurrences value) (all_occurrences atom.args) rest in
            let below : Fits low goal.next left sub = keeps low (sub_goal goal line atom (value ∷ [])) left (record { from = since.from; literals = both-have Q atom.args [] in_atom tt; terms = all-both Q (occurrences value) [] in_value tt }) in
            fits-gather sub below.whole fold result value atom is (folding line fold result (leaves (course_of sub))) (by-fold-has Q line result (fold_of fold (map value_of (leaves (course_of sub)))) in_result) (course_of sub).ending
        by false = record { each = tt; whole = omega arith }

  fits-at : (program : Program) → AllByRecursion IsClause program.clauses → (low : ℕ) (goal : Goal) (literals : List Literal) → goal.literals ≡ literals → (left : ℕ) → Since low goal → Fits low goal.next left (grow_at grow program goal literals left)
  fits-at program all low goal [] is left since = record { each = (record { high = goal.next; more = le_refl goal.next; terms = since.terms; maps = λ v in_. (in_, tt); owns = tt; room = omega arith }, tt); whole = omega arith }
  fits-at program all low goal (literal ∷ literals) is zero since = record { each = tt; whole = omega arith }
  fits-at program all low goal (literal ∷ literals) is (suc left) since = by (selected program.version (literal ∷ literals)) refl
    where
      by : (o : Option (Picked Literal)) → selected program.version (literal ∷ literals) ≡ o → Fits low goal.next (suc left) (grow_picked grow program.clauses goal literal left o)
      by None one = record { each = tt; whole = omega arith }
      by (Some picked) one =
          let around : AroundHas (From low goal.next) picked = around-has (From low goal.next) picked (subst (λ ls. AllHave (From low goal.next) (literals_terms ls)) (is ∙ (pick-means (is_delayed program.version) (literal ∷ literals) picked one).all) since.literals) in
          fits-form low goal left since picked around program.clauses all picked.chosen.line picked.chosen.form around.chosen

pub fits-within : (program : Program) → AllByRecursion IsClause program.clauses → (depth low : ℕ) (goal : Goal) (left : ℕ) → Since low goal → Fits low goal.next left (grow_within depth program goal left)
fits-within program all zero low goal left since = record { each = tt; whole = omega arith }
fits-within program all (suc depth) low goal left since = fits-at (grow_within depth program) (within-falls program depth) (fits-within program all depth) program all low goal goal.literals refl left since
