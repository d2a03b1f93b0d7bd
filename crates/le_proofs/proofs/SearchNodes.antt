-- How many nodes the derivations of a search have, and the numbers in them: at most 2^33 nodes for each selection, and numbers below 2^31.
use Rattle.std.proofs.Common.{◌≡◌, ℕ, zero, suc, ◌+◌, ◌*◌, ◌^◌, ◌<◌, ◌≤◌, Bool, true, false, List, [], ◌∷◌, ◌++◌, map, length, length-append, take, drop, Option, Some, None, option_map, refl, sym, ap, subst, ◌∙◌, le_trans, arith, if◌then◌else◌}
use Rattle.std.proofs.lemmas.List.{length-map}
use Rattle.std.specs.List.{AllByRecursion, cons_option}
use Rattle.le_base.specs.declared.stop.FoldKind.{FoldKind}
use Rattle.le_terms.specs.Tree.{Tree}
use Rattle.le_terms.specs.Program.{IsProgram, IsProgramClause, IsLiteral, predefined_count, form_atom}
use Rattle.le_terms.specs.declared.program.Atom.{Atom}
use Rattle.le_terms.specs.declared.program.Clause.{Clause}
use Rattle.le_terms.specs.declared.program.Form.{Form}
use Rattle.le_terms.specs.declared.program.Form.TheVariants.{Pos, Neg, Calc, Gather}
use Rattle.le_terms.specs.declared.program.Literal.{Literal}
use Rattle.le_terms.specs.declared.program.Program.{Program}
use Rattle.le_subst.specs.Unifiers.{Bindings, value_at}
use Rattle.le_proofs.specs.declared.node.Node.{Node}
use Rattle.le_proofs.specs.declared.node.Node.TheVariants as nodes
use Rattle.le_proofs.specs.Goals.{Goal, Picked, Child, is_delayed, selected, children, child_by, head_solution, raised, form_under, literals_under, put_in_place, rest_of, sub_goal, rest_by, rest_goal, is_ground_atom, root_of}
use Rattle.le_proofs.specs.Proofs.{Proof, packed, WholeTree, Reason, clause_used, value_computed, failure_shown, cases_gathered, Step, Leaf, from_above, step_to, step_past, proof_by, then_by}
use Rattle.le_proofs.specs.Derivations.{branch_count, proof_nodes, proofs_nodes, tree_nodes, branches_nodes, node_under, parts_of, times, scope_below, told_apart, scoped, certificate_of}
use Rattle.le_proofs.specs.SearchTree.{SearchTree, Branches, Event, stopped, up_to_first, leaves_of, seen_above, seen_outside, leaves, course_of, course_each, whole_of, whole_each, first_proof}
use Rattle.le_proofs.specs.Search.{Outcome, goes_on, fails, ends, computing, folding, is_covered, branch_before, grow_each, grow_computed, grow_lacking, grow_negation, grow_folded, grow_gather, grow_form, grow_picked, grow_at, grow_within, answers_of, tree}
use Rattle.le_proofs.specs.declared.next.Next.{Next}
use Rattle.le_proofs.specs.declared.next.Next.TheVariants.{Answer, Done, Floundered, OutOfRange, Spent}
use Rattle.le_proofs.proofs.Alls.{all-both, all-left, all-right, all-weaken}
use Rattle.le_proofs.proofs.Courses.{leaves-append, leaves-outside, leaves-above}
use Rattle.le_proofs.proofs.Growing.{Falls, within-falls}
use Rattle.le_proofs.proofs.Picks.{pick-means}
use Rattle.le_proofs.proofs.SearchVariables.{all-take, all-drop}
use Rattle.le_proofs.proofs.Sound.{listed-packed}

-- so many nodes for each selection
abbrev per : ℕ
per = 8589934592

-- the greatest number of a clause, and the greatest count of literals or branches
abbrev most : ℕ
most = 2147483648

abbrev nodes_listed : List Proof → ℕ
nodes_listed [] = 0
nodes_listed (proof ∷ proofs) = length (proof_nodes proof) + nodes_listed proofs

nodes-packed : (proofs : List Proof) → length (proofs_nodes (packed proofs)) ≡ nodes_listed proofs
nodes-packed [] = refl
nodes-packed (proof ∷ proofs) =
    let rest : length (proofs_nodes (packed proofs)) ≡ nodes_listed proofs = nodes-packed proofs in
    let both : length (proof_nodes proof ++ proofs_nodes (packed proofs)) ≡ length (proof_nodes proof) + length (proofs_nodes (packed proofs)) = length-append (proof_nodes proof) (proofs_nodes (packed proofs)) in
    omega arith

nodes-append : (xs ys : List Proof) → nodes_listed (xs ++ ys) ≡ nodes_listed xs + nodes_listed ys
nodes-append [] ys = omega arith
nodes-append (x ∷ xs) ys = let rest : nodes_listed (xs ++ ys) ≡ nodes_listed xs + nodes_listed ys = nodes-append xs ys in omega arith

nodes-cut : (n : ℕ) (proofs : List Proof) → nodes_listed (take n proofs) + nodes_listed (drop n proofs) ≡ nodes_listed proofs
nodes-cut zero proofs = omega arith
nodes-cut (suc n) [] = omega arith
nodes-cut (suc n) (proof ∷ proofs) = let rest : nodes_listed (take n proofs) + nodes_listed (drop n proofs) ≡ nodes_listed proofs = nodes-cut n proofs in omega arith

few-first : {X : Type 0} (n : ℕ) (xs : List X) → length (take n xs) ≤ n
few-first zero xs = omega arith
few-first (suc n) [] = omega arith
few-first (suc n) (x ∷ xs) = let rest : length (take n xs) ≤ n = few-first n xs in omega arith

module _ (predicates : ℕ) where
  abbrev HasPredicate : Atom → Type 0
  HasPredicate atom = atom.pred < predicates

  -- the numbers of a node are in their ranges
  abbrev pub IsNumbered : Node → Type 0
  IsNumbered (nodes.Use clause count atom) = (clause ≤ most) × (count ≤ most) × HasPredicate atom
  IsNumbered (nodes.Compute atom) = HasPredicate atom
  IsNumbered (nodes.Absent atom) = HasPredicate atom
  IsNumbered (nodes.Gather fold result value atom) = HasPredicate atom
  IsNumbered (nodes.Split count) = count ≤ most
  IsNumbered (nodes.Branch clause) = clause ≤ most
  IsNumbered node = Unit {0}

  abbrev ProofNumbered : Proof → Type 0
  ProofNumbered proof = AllByRecursion IsNumbered (proof_nodes proof)

  abbrev TreeNumbered : WholeTree → Type 0
  TreeNumbered t = AllByRecursion IsNumbered (tree_nodes t)

  abbrev ReasonNumbered : Reason → Type 0
  ReasonNumbered (clause_used number atom) = (number ≤ most) × HasPredicate atom
  ReasonNumbered (value_computed atom) = HasPredicate atom
  ReasonNumbered (failure_shown atom t) = HasPredicate atom × TreeNumbered t
  ReasonNumbered (cases_gathered fold result value atom t) = HasPredicate atom × TreeNumbered t

  abbrev reason_nodes : Reason → ℕ
  reason_nodes (clause_used number atom) = 0
  reason_nodes (value_computed atom) = 0
  reason_nodes (failure_shown atom t) = length (tree_nodes t)
  reason_nodes (cases_gathered fold result value atom t) = length (tree_nodes t)

  packed-numbered : (proofs : List Proof) → AllByRecursion ProofNumbered proofs → AllByRecursion IsNumbered (proofs_nodes (packed proofs))
  packed-numbered [] all = tt
  packed-numbered (proof ∷ proofs) all = all-both IsNumbered (proof_nodes proof) (proofs_nodes (packed proofs)) all.0 (packed-numbered proofs all.1)

  by-numbered : (by : ℕ → Tree) (below : List Proof) → AllByRecursion ProofNumbered below → length below ≤ most → (reason : Reason) → ReasonNumbered reason → ProofNumbered (proof_by by below reason)
  by-numbered by below all few (clause_used number atom) h = ((h.0, subst (λ n. n ≤ most) (sym (ap length (listed-packed below))) few, h.1), packed-numbered below all)
  by-numbered by below all few (value_computed atom) h = (h, tt)
  by-numbered by below all few (failure_shown atom t) h = (h.0, h.1)
  by-numbered by below all few (cases_gathered fold result value atom t) h = (h.0, h.1)

  by-nodes : (by : ℕ → Tree) (below : List Proof) (reason : Reason) → length (proof_nodes (proof_by by below reason)) ≤ 1 + nodes_listed below + reason_nodes reason
  by-nodes by below (clause_used number atom) = let same : length (proofs_nodes (packed below)) ≡ nodes_listed below = nodes-packed below in omega arith
  by-nodes by below (value_computed atom) = omega arith
  by-nodes by below (failure_shown atom t) = omega arith
  by-nodes by below (cases_gathered fold result value atom t) = omega arith

  -- a leaf of a goal with so many selections
  record LeafSmall (left : ℕ) (leaf : Leaf) : Type 0 where
    proofs : AllByRecursion ProofNumbered leaf.proofs
    few : nodes_listed leaf.proofs + per * leaf.left ≤ per * left

  record StepSmall (step : Step) : Type 0 where
    reason : ReasonNumbered step.reason
    count : step.count ≤ most

  leaf-above : (left then_left : ℕ) (step : Step) → StepSmall step → 1 + reason_nodes step.reason + per * then_left ≤ per * left → (leaf : Leaf) → LeafSmall then_left leaf → LeafSmall left (from_above step leaf)
  leaf-above left then_left step fits room leaf h =
      let by : ℕ → Tree = then_by step.unifier leaf.by in
      let front : List Proof = take step.place leaf.proofs in
      let rest : List Proof = drop step.place leaf.proofs in
      let new : List Proof = take step.count rest in
      let behind : List Proof = drop step.count rest in
      let proof : Proof = proof_by by new step.reason in
      let in_rest : AllByRecursion ProofNumbered rest = all-drop ProofNumbered step.place leaf.proofs h.proofs in
      let first_cut : nodes_listed front + nodes_listed rest ≡ nodes_listed leaf.proofs = nodes-cut step.place leaf.proofs in
      let second_cut : nodes_listed new + nodes_listed behind ≡ nodes_listed rest = nodes-cut step.count rest in
      let joined : nodes_listed (front ++ (proof ∷ behind)) ≡ nodes_listed front + (length (proof_nodes proof) + nodes_listed behind) = nodes-append front (proof ∷ behind) in
      let one : length (proof_nodes proof) ≤ 1 + nodes_listed new + reason_nodes step.reason = by-nodes by new step.reason in
      record {
        proofs = all-both ProofNumbered front (proof ∷ behind) (all-take ProofNumbered step.place leaf.proofs h.proofs)
            (by-numbered by new (all-take ProofNumbered step.count rest in_rest) (le_trans (few-first step.count rest) fits.count) step.reason fits.reason, all-drop ProofNumbered step.count rest in_rest);
        few = let below : nodes_listed leaf.proofs + per * leaf.left ≤ per * then_left = h.few in omega arith;
      }

  abbrev LeavesSmall : ℕ → List Leaf → Type 0
  LeavesSmall left ls = AllByRecursion (LeafSmall left) ls

  small-map : (left then_left : ℕ) (step : Step) → StepSmall step → 1 + reason_nodes step.reason + per * then_left ≤ per * left → (ls : List Leaf) → LeavesSmall then_left ls → LeavesSmall left (map (from_above step) ls)
  small-map left then_left step fits room [] h = tt
  small-map left then_left step fits room (leaf ∷ ls) h = (leaf-above left then_left step fits room leaf h.0, small-map left then_left step fits room ls h.1)

  small-above : (left then_left : ℕ) (step : Step) → StepSmall step → 1 + reason_nodes step.reason + per * then_left ≤ per * left → (events : List Event) → LeavesSmall then_left (leaves_of events) → LeavesSmall left (leaves_of (map (seen_above step) events))
  small-above left then_left step fits room events h = subst (LeavesSmall left) (sym (leaves-above step events)) (small-map left then_left step fits room (leaves_of events) h)

  small-behind : (left : ℕ) (events others : List Event) → LeavesSmall left (leaves_of others) → LeavesSmall left (leaves_of (map seen_outside events ++ others))
  small-behind left events others h = subst (LeavesSmall left) (sym (leaves-append (map seen_outside events) others ∙ ap (λ ls. ls ++ leaves_of others) (leaves-outside events))) h

  record Fits (left : ℕ) (t : SearchTree) : Type 0 where
    each : LeavesSmall left (leaves (course_of t))
    whole : TreeNumbered (whole_of t)
    few : length (tree_nodes (whole_of t)) + per * (course_of t).left ≤ 1 + per * left

  record AllFits (many left : ℕ) (branches : Branches) : Type 0 where
    each : LeavesSmall (suc left) (leaves (course_each branches))
    whole : AllByRecursion IsNumbered (branches_nodes (whole_each branches))
    count : branch_count (whole_each branches) ≤ many
    few : length (branches_nodes (whole_each branches)) + per * (course_each branches).left ≤ 2 * many + per * left

  -- the proof in a tree
  first-small : (left : ℕ) (leaf : Leaf) → 0 < predicates → LeafSmall left leaf → ProofNumbered (first_proof leaf) × (length (proof_nodes (first_proof leaf)) + per * leaf.left ≤ 1 + per * left)
  first-small left leaf some h = by leaf.proofs h.proofs h.few
    where
      by : (ps : List Proof) → AllByRecursion ProofNumbered ps → nodes_listed ps + per * leaf.left ≤ per * left
          → ProofNumbered (first_proof (record { terms = leaf.terms; left = leaf.left; by = leaf.by; proofs = ps })) × (length (proof_nodes (first_proof (record { terms = leaf.terms; left = leaf.left; by = leaf.by; proofs = ps }))) + per * leaf.left ≤ 1 + per * left)
      by [] all few = ((some, tt), omega arith)
      by (p ∷ ps) all few = (all.0, omega arith)

  -- literals with predicates
  abbrev AllHavePredicates : List Literal → Type 0
  AllHavePredicates literals = AllByRecursion (λ literal. HasPredicate (form_atom literal.form)) literals

  form-under : (by : ℕ → Tree) (form : Form) → HasPredicate (form_atom form) → HasPredicate (form_atom (form_under by form))
  form-under by (Pos atom) h = h
  form-under by (Neg atom) h = h
  form-under by (Calc atom) h = h
  form-under by (Gather fold result value atom) h = h

  literals-under : (by : ℕ → Tree) (literals : List Literal) → AllHavePredicates literals → AllHavePredicates (literals_under by literals)
  literals-under by [] h = tt
  literals-under by (literal ∷ literals) h = (form-under by literal.form h.0, literals-under by literals h.1)

  abbrev Q : Literal → Type 0
  Q literal = HasPredicate (form_atom literal.form)

  record Around (picked : Picked Literal) : Type 0 where
    before : AllHavePredicates picked.before
    chosen : HasPredicate (form_atom picked.chosen.form)
    behind : AllHavePredicates picked.behind

  around : (picked : Picked Literal) → AllHavePredicates (picked.before ++ picked.chosen ∷ picked.behind) → Around picked
  around picked h =
      let rest : AllHavePredicates (picked.chosen ∷ picked.behind) = all-right Q picked.before (picked.chosen ∷ picked.behind) h in
      record { before = all-left Q picked.before (picked.chosen ∷ picked.behind) h; chosen = rest.0; behind = rest.1 }

  put : (picked : Picked Literal) (new : List Literal) → Around picked → AllHavePredicates new → AllHavePredicates (put_in_place picked new)
  put picked new h fits = all-both Q picked.before (new ++ picked.behind) h.before (all-both Q new picked.behind fits h.behind)

  record IsSmallClause (clause : Clause) : Type 0 where
    body : AllHavePredicates clause.body
    short : length clause.body ≤ most

  module _ (grow : Goal → ℕ → SearchTree) (falls : Falls grow) (some : 0 < predicates) (keeps : (goal : Goal) (left : ℕ) → AllHavePredicates goal.literals → Fits left (grow goal left)) where
    record ChildSmall (child : Child) : Type 0 where
      number : child.clause ≤ most
      count : child.count ≤ most
      literals : AllHavePredicates child.goal.literals

    fits-branch : (many left : ℕ) (e : Next) (child : Child) (step : Step) (t : SearchTree) (more : ℕ → Branches) → ChildSmall child → StepSmall step → reason_nodes step.reason ≡ 0 → Fits left t → (course_of t).left ≤ left
        → AllFits many (course_of t).left (more (course_of t).left) → AllFits (suc many) left (branch_before e child step t more)
    fits-branch many left e child step t more small fits none_ here less there =
        let room : 1 + reason_nodes step.reason + per * left ≤ per * suc left = omega arith in
        by e (small-above (suc left) left step fits room (course_of t).events here.each)
      where
        later : (ls : List Leaf) → LeavesSmall (suc (course_of t).left) ls → LeavesSmall (suc left) ls
        later ls h = all-weaken (LeafSmall (suc (course_of t).left)) (LeafSmall (suc left)) (λ leaf (k : LeafSmall (suc (course_of t).left) leaf). record {
          proofs = k.proofs;
          few = let below : nodes_listed leaf.proofs + per * leaf.left ≤ per * suc (course_of t).left = k.few in omega arith;
        }) ls h

        by : (e : Next) → LeavesSmall (suc left) (leaves_of (map (seen_above step) (course_of t).events)) → AllFits (suc many) left (branch_before e child step t more)
        by Done each = record {
          each = subst (LeavesSmall (suc left)) (sym (leaves-append (map (seen_above step) (course_of t).events) (course_each (more (course_of t).left)).events))
              (all-both (LeafSmall (suc left)) (leaves_of (map (seen_above step) (course_of t).events)) (leaves (course_each (more (course_of t).left))) each (later (leaves (course_each (more (course_of t).left))) there.each));
          whole = (small.number, all-both IsNumbered (tree_nodes (whole_of t)) (branches_nodes (whole_each (more (course_of t).left))) here.whole there.whole);
          count = let others : branch_count (whole_each (more (course_of t).left)) ≤ many = there.count in omega arith;
          few = let one : length (tree_nodes (whole_of t)) + per * (course_of t).left ≤ 1 + per * left = here.few in
              let rest : length (branches_nodes (whole_each (more (course_of t).left))) + per * (course_each (more (course_of t).left)).left ≤ 2 * many + per * (course_of t).left = there.few in
              let both : length (tree_nodes (whole_of t) ++ branches_nodes (whole_each (more (course_of t).left))) ≡ length (tree_nodes (whole_of t)) + length (branches_nodes (whole_each (more (course_of t).left))) = length-append (tree_nodes (whole_of t)) (branches_nodes (whole_each (more (course_of t).left))) in omega arith;
        }
        by Answer each = record { each = each; whole = tt; count = omega arith; few = omega arith }
        by (Floundered line) each = record { each = each; whole = tt; count = omega arith; few = omega arith }
        by (OutOfRange line) each = record { each = each; whole = tt; count = omega arith; few = omega arith }
        by Spent each = record { each = each; whole = tt; count = omega arith; few = omega arith }

    fits-each : (place : ℕ) (atom : Atom) → HasPredicate atom → (others : List Child) → AllByRecursion ChildSmall others → (left : ℕ) → AllFits (length others) left (grow_each grow place atom others left)
    fits-each place atom is [] all left = record { each = tt; whole = tt; count = omega arith; few = omega arith }
    fits-each place atom is (child ∷ others) all left =
        fits-branch (length others) left (course_of (grow child.goal left)).ending child (step_to place atom child) (grow child.goal left) (grow_each grow place atom others) all.0
        (record { reason = (all.0.number, is); count = all.0.count }) refl (keeps child.goal left all.0.literals) (falls child.goal left).end
        (fits-each place atom is others all.1 (course_of (grow child.goal left)).left)

    module _ (goal : Goal) (left : ℕ) (picked : Picked Literal) (h : Around picked) where
      children-small : (atom : Atom) (place : ℕ) (clauses : List Clause) → place + length clauses ≤ suc most → AllByRecursion IsSmallClause clauses → AllByRecursion ChildSmall (children goal picked atom place clauses) × (length (children goal picked atom place clauses) ≤ length clauses)
      children-small atom place [] within all = (tt, omega arith)
      children-small atom place (clause ∷ clauses) within all = by (head_solution goal.next clause atom) (children-small atom (suc place) clauses (omega (arith, within)) all.1)
        where
          by : (o : Option Bindings) → AllByRecursion ChildSmall (children goal picked atom (suc place) clauses) × (length (children goal picked atom (suc place) clauses) ≤ length clauses)
              → AllByRecursion ChildSmall (cons_option (option_map (child_by goal picked place clause) o) (children goal picked atom (suc place) clauses)) × (length (cons_option (option_map (child_by goal picked place clause) o) (children goal picked atom (suc place) clauses)) ≤ suc (length clauses))
          by (Some bindings) rest = (
            (
              record {
                number = omega (arith, within);
                count = all.0.short;
                literals = literals-under (value_at bindings) (put_in_place picked (literals_under (raised goal.next) clause.body)) (put picked (literals_under (raised goal.next) clause.body) h (literals-under (raised goal.next) clause.body all.0.body));
              },
              rest.0,
            ),
            omega (arith, rest.1),
          )
          by None rest = (rest.0, omega (arith, rest.1))

      fits-rest : (bindings : Bindings) (k : ℕ) → Fits k (grow (rest_by goal picked bindings) k)
      fits-rest bindings k = keeps (rest_by goal picked bindings) k (literals-under (value_at bindings) (rest_of picked) (put picked [] h tt))

      fits-computed : (atom : Atom) → HasPredicate atom → (outcome : Outcome) → Fits (suc left) (grow_computed grow goal picked atom left outcome)
      fits-computed atom is (goes_on bindings) =
          let here : Fits left (grow (rest_by goal picked bindings) left) = fits-rest bindings left in
          record {
            each = small-above (suc left) left (step_past picked bindings (value_computed atom)) (record { reason = is; count = omega arith }) (omega arith) (course_of (grow (rest_by goal picked bindings) left)).events here.each;
            whole = (tt, here.whole);
            few = let below = here.few in omega arith;
          }
      fits-computed atom is fails = record { each = tt; whole = (tt, tt); few = omega arith }
      fits-computed atom is (ends e) = record { each = tt; whole = (tt, tt); few = omega arith }

      module _ (sub : SearchTree) (numbered_ : TreeNumbered (whole_of sub)) (below : length (tree_nodes (whole_of sub)) + per * (course_of sub).left ≤ 1 + per * left) (fell : (course_of sub).left ≤ left) where
        fits-trying : Fits (suc left) (SearchTree.trying sub)
        fits-trying = record { each = small-behind (suc left) (course_of sub).events [] tt; whole = (tt, tt); few = omega (arith, fell) }

        fits-lacking : (atom : Atom) → HasPredicate atom → (e : Next) → Fits (suc left) (grow_lacking grow goal picked atom sub e)
        fits-lacking atom is Done =
            let step : Step = step_past picked [] (failure_shown atom (whole_of sub)) in
            let inner : SearchTree = grow (rest_goal goal picked) (course_of sub).left in
            let here : Fits (course_of sub).left inner = keeps (rest_goal goal picked) (course_of sub).left (put picked [] h tt) in
            record {
              each = small-behind (suc left) (course_of sub).events (map (seen_above step) (course_of inner).events)
                  (small-above (suc left) (course_of sub).left step (record { reason = (is, numbered_); count = omega arith }) (omega (arith, below)) (course_of inner).events here.each);
              whole = (tt, all-both IsNumbered (tree_nodes (whole_of sub)) (tree_nodes (whole_of inner)) numbered_ here.whole);
              few = let rest = here.few in let both : length (tree_nodes (whole_of sub) ++ tree_nodes (whole_of inner)) ≡ length (tree_nodes (whole_of sub)) + length (tree_nodes (whole_of inner)) = length-append (tree_nodes (whole_of sub)) (tree_nodes (whole_of inner)) in omega (arith, below);
            }
        fits-lacking atom is Answer = fits-trying
        fits-lacking atom is (Floundered line) = fits-trying
        fits-lacking atom is (OutOfRange line) = fits-trying
        fits-lacking atom is Spent = fits-trying

        fits-negation : (atom : Atom) → HasPredicate atom → (ls : List Leaf) → LeavesSmall left ls → Fits (suc left) (grow_negation grow goal picked atom sub ls)
        fits-negation atom is [] all = fits-lacking atom is (course_of sub).ending
        fits-negation atom is (leaf ∷ ls) all =
            let one = first-small left leaf some all.0 in
            record {
              each = subst (LeavesSmall (suc left)) (sym (leaves-outside (up_to_first (course_of sub).events))) tt;
              whole = (tt, one.0);
              few = let count = one.1 in omega arith;
            }

        fits-gathering : Fits (suc left) (SearchTree.gathering sub)
        fits-gathering = record { each = small-behind (suc left) (course_of sub).events [] tt; whole = (tt, tt); few = omega (arith, fell) }

        fits-folded : (fold : FoldKind) (result value : Tree) (atom : Atom) → HasPredicate atom → (outcome : Outcome) → Fits (suc left) (grow_folded grow goal picked (Gather fold result value atom) sub outcome)
        fits-folded fold result value atom is (goes_on bindings) =
            let reason : Reason = cases_gathered fold result value atom (whole_of sub) in
            let step : Step = step_past picked bindings reason in
            let inner : SearchTree = grow (rest_by goal picked bindings) (course_of sub).left in
            let here : Fits (course_of sub).left inner = fits-rest bindings (course_of sub).left in
            record {
              each = small-behind (suc left) (course_of sub).events (map (seen_above step) (course_of inner).events)
                  (small-above (suc left) (course_of sub).left step (record { reason = (is, numbered_); count = omega arith }) (omega (arith, below)) (course_of inner).events here.each);
              whole = (tt, all-both IsNumbered (tree_nodes (whole_of sub)) (tree_nodes (whole_of inner)) numbered_ here.whole);
              few = let rest = here.few in let both : length (tree_nodes (whole_of sub) ++ tree_nodes (whole_of inner)) ≡ length (tree_nodes (whole_of sub)) + length (tree_nodes (whole_of inner)) = length-append (tree_nodes (whole_of sub)) (tree_nodes (whole_of inner)) in omega (arith, below);
            }
        fits-folded fold result value atom is fails = record { each = small-behind (suc left) (course_of sub).events [] tt; whole = (tt, numbered_); few = omega (arith, below) }
        fits-folded fold result value atom is (ends e) = record { each = small-behind (suc left) (course_of sub).events (stopped ∷ []) tt; whole = (tt, tt); few = omega (arith, fell) }

        fits-gather : (fold : FoldKind) (result value : Tree) (atom : Atom) → HasPredicate atom → (outcome : Outcome) (e : Next) → Fits (suc left) (grow_gather grow goal picked (Gather fold result value atom) sub outcome e)
        fits-gather fold result value atom is outcome Done = fits-folded fold result value atom is outcome
        fits-gather fold result value atom is outcome Answer = fits-gathering
        fits-gather fold result value atom is outcome (Floundered line) = fits-gathering
        fits-gather fold result value atom is outcome (OutOfRange line) = fits-gathering
        fits-gather fold result value atom is outcome Spent = fits-gathering

      fits-form : (clauses : List Clause) → length clauses < most → AllByRecursion IsSmallClause clauses → (line : ℕ) (form : Form) → HasPredicate (form_atom form) → Fits (suc left) (grow_form grow clauses goal picked left line form)
      fits-form clauses short all line (Pos atom) is =
          let kids : List Child = children goal picked atom 1 clauses in
          let small = children-small atom 1 clauses (omega (arith, short)) all in
          let branches : AllFits (length kids) left (grow_each grow (length picked.before) atom kids left) = fits-each (length picked.before) atom is kids small.0 left in
          let many : length kids ≤ length clauses = small.1 in
          let count : branch_count (whole_each (grow_each grow (length picked.before) atom kids left)) ≤ length kids = branches.count in
          record { each = branches.each; whole = (omega (arith, short), branches.whole); few = let few = branches.few in omega (arith, short) }
      fits-form clauses short all line (Calc atom) is = fits-computed atom is (computing line atom)
      fits-form clauses short all line (Neg atom) is = by (is_ground_atom atom)
        where
          by : (b : Bool) → Fits (suc left) (if b then grow_negation grow goal picked atom (grow (sub_goal goal line atom []) left) (leaves (course_of (grow (sub_goal goal line atom []) left))) else SearchTree.halted (Floundered line) left)
          by true =
              let sub : SearchTree = grow (sub_goal goal line atom []) left in
              let below : Fits left sub = keeps (sub_goal goal line atom []) left (is, tt) in
              fits-negation sub below.whole below.few (falls (sub_goal goal line atom []) left).end atom is (leaves (course_of sub)) below.each
          by false = record { each = tt; whole = (tt, tt); few = omega arith }
      fits-form clauses short all line (Gather fold result value atom) is = by (is_covered value atom)
        where
          by : (b : Bool) → Fits (suc left) (if b then grow_gather grow goal picked (Gather fold result value atom) (grow (sub_goal goal line atom (value ∷ [])) left) (folding line fold result (leaves (course_of (grow (sub_goal goal line atom (value ∷ [])) left)))) (course_of (grow (sub_goal goal line atom (value ∷ [])) left)).ending else SearchTree.halted (Floundered line) left)
          by true =
              let sub : SearchTree = grow (sub_goal goal line atom (value ∷ [])) left in
              let below : Fits left sub = keeps (sub_goal goal line atom (value ∷ [])) left (is, tt) in
              fits-gather sub below.whole below.few (falls (sub_goal goal line atom (value ∷ [])) left).end fold result value atom is (folding line fold result (leaves (course_of sub))) (course_of sub).ending
          by false = record { each = tt; whole = (tt, tt); few = omega arith }

    fits-at : (program : Program) → length program.clauses < most → AllByRecursion IsSmallClause program.clauses → (goal : Goal) (literals : List Literal) → AllHavePredicates literals → (left : ℕ) → Fits left (grow_at grow program goal literals left)
    fits-at program short all goal [] h left = record { each = (record { proofs = tt; few = omega arith }, tt); whole = (tt, tt); few = omega arith }
    fits-at program short all goal (literal ∷ literals) h zero = record { each = tt; whole = (tt, tt); few = omega arith }
    fits-at program short all goal (literal ∷ literals) h (suc left) = by (selected program.version (literal ∷ literals)) refl
      where
        by : (o : Option (Picked Literal)) → selected program.version (literal ∷ literals) ≡ o → Fits (suc left) (grow_picked grow program.clauses goal literal left o)
        by None one = record { each = tt; whole = (tt, tt); few = omega arith }
        by (Some picked) one =
            let parts : Around picked = around picked (subst AllHavePredicates (pick-means (is_delayed program.version) (literal ∷ literals) picked one).all h) in
            fits-form goal left picked parts program.clauses short all picked.chosen.line picked.chosen.form parts.chosen

  fits-within : (program : Program) → 0 < predicates → length program.clauses < most → AllByRecursion IsSmallClause program.clauses → (depth : ℕ) (goal : Goal) (left : ℕ) → AllHavePredicates goal.literals → Fits left (grow_within depth program goal left)
  fits-within program some short all zero goal left h = record { each = tt; whole = (tt, tt); few = omega arith }
  fits-within program some short all (suc depth) goal left h = fits-at (grow_within depth program) (within-falls program depth) some (fits-within program some short all depth) program short all goal goal.literals h left

  -- ---- the nodes of a certificate

  node-under : (by : ℕ → Tree) (node : Node) → IsNumbered node → IsNumbered (node_under by node)
  node-under by (nodes.Use clause count atom) h = h
  node-under by (nodes.Compute atom) h = h
  node-under by (nodes.Absent atom) h = h
  node-under by (nodes.Gather fold result value atom) h = h
  node-under by (nodes.Split count) h = h
  node-under by (nodes.Branch clause) h = h
  node-under by nodes.Computed h = tt
  node-under by nodes.Lacking h = tt
  node-under by nodes.Present h = tt
  node-under by nodes.Gathered h = tt
  node-under by nodes.Ungathered h = tt
  node-under by nodes.Success h = tt
  node-under by nodes.Dead h = tt

  nodes-under : (by : ℕ → Tree) (ns : List Node) → AllByRecursion IsNumbered ns → AllByRecursion IsNumbered (map (node_under by) ns)
  nodes-under by [] h = tt
  nodes-under by (node ∷ ns) h = (node-under by node h.0, nodes-under by ns h.1)

  scoped-numbered : (count number : ℕ) (scopes : List ℕ) (ns : List Node) → AllByRecursion IsNumbered ns → AllByRecursion IsNumbered (scoped count number scopes ns)
  scoped-numbered count number [] [] h = tt
  scoped-numbered count number (scope ∷ scopes) [] h = tt
  scoped-numbered count number [] (node ∷ ns) h = (h.0, scoped-numbered count (suc number) [] ns h.1)
  scoped-numbered count number (scope ∷ scopes) (node ∷ ns) h = (node-under (told_apart count scope) node h.0, scoped-numbered count (suc number) (times (parts_of node) (scope_below number scope node) scopes) ns h.1)

  -- the nodes of an answer's derivation are at most so many, and numbered in their ranges
  pub record IsSmall (budget : ℕ) (leaf : Leaf) : Type 0 where
    pub few : length (certificate_of leaf).nodes ≤ 8589934592 * budget
    pub numbers : AllByRecursion IsNumbered (certificate_of leaf).nodes

scoped-length : (count number : ℕ) (scopes : List ℕ) (ns : List Node) → length (scoped count number scopes ns) ≡ length ns
scoped-length count number [] [] = refl
scoped-length count number (scope ∷ scopes) [] = refl
scoped-length count number [] (node ∷ ns) = ap suc (scoped-length count (suc number) [] ns)
scoped-length count number (scope ∷ scopes) (node ∷ ns) = ap suc (scoped-length count (suc number) (times (parts_of node) (scope_below number scope node) scopes) ns)

leaf-small : (predicates budget : ℕ) (leaf : Leaf) → LeafSmall predicates budget leaf → IsSmall predicates budget leaf
leaf-small predicates budget leaf h =
    let own : List Node = proofs_nodes (packed leaf.proofs) in
    let apart : List Node = scoped (length own) 1 (times (length leaf.proofs) 0 []) own in
    let same : length (certificate_of leaf).nodes ≡ nodes_listed leaf.proofs = length-map apart _ ∙ (scoped-length (length own) 1 (times (length leaf.proofs) 0 []) own ∙ nodes-packed leaf.proofs) in
    record {
      few = let count : nodes_listed leaf.proofs + per * leaf.left ≤ per * budget = h.few in omega arith;
      numbers = nodes-under predicates _ apart (scoped-numbered predicates (length own) 1 (times (length leaf.proofs) 0 []) own (packed-numbered predicates leaf.proofs h.proofs));
    }

-- how many predicates a program has
abbrev pub predicates_in : Program → ℕ
predicates_in program = predefined_count + program.users + length program.groups

clause-small : (arity : ℕ → ℕ) (predicates : ℕ) (clause : Clause) → IsProgramClause arity predicates clause → IsSmallClause predicates clause
clause-small arity predicates clause is = record {
  body = all-weaken (IsLiteral arity predicates) (λ literal. (form_atom literal.form).pred < predicates) (λ literal h. h.1.0) clause.body is.body;
  short = let short : length clause.body < 2 ^ 31 = is.short in omega arith;
}

-- the answers of a program
pub answers-small : (program : Program) (budget : ℕ) → IsProgram program → AllByRecursion (IsSmall (predicates_in program) budget) (answers_of program budget)
unfolding tree
answers-small program budget is =
    let p : ℕ = predicates_in program in
    let query : AllByRecursion (λ literal. (form_atom literal.form).pred < p) program.query = all-weaken (IsLiteral is.arity p) (λ literal. (form_atom literal.form).pred < p) (λ literal h. h.1.0) program.query is.query in
    let all : Fits p budget (grow_within (suc budget) program (root_of program) budget) =
    fits-within p program (omega arith) (let short : length program.clauses < 2 ^ 31 = is.count in omega arith) (all-weaken (IsProgramClause is.arity p) (IsSmallClause p) (clause-small is.arity p) program.clauses is.clauses) (suc budget) (root_of program) budget query in
    all-weaken (LeafSmall p budget) (IsSmall p budget) (leaf-small p budget) (answers_of program budget) all.each
