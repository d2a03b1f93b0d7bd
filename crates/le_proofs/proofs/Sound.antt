-- Each success leaf of a search tree has a refutation, and a tree whose visit is done is a whole tree with its leaves.
use Rattle.std.proofs.Common.{◌≡◌, ℕ, suc, ◌+◌, ◌-◌, List, [], ◌∷◌, ◌++◌, map, zip, take, drop, length, length-append, Some, refl, sym, ap, ◌∙◌, subst, arith, IsTrue}
use Rattle.std.specs.Prelude.{IsSomeAnd}
use Rattle.std.specs.List.{AllByRecursion}
use Rattle.std.proofs.lemmas.List.{length-map, length-take-le, length-drop}
use Rattle.le_base.specs.declared.stop.FoldKind.{FoldKind}
use Rattle.le_terms.specs.Tree.{Tree}
use Rattle.le_terms.specs.Variables.{replaced}
use Rattle.le_terms.specs.declared.program.Atom.{Atom}
use Rattle.le_terms.specs.declared.program.Clause.{Clause}
use Rattle.le_terms.specs.declared.program.Form.{Form}
use Rattle.le_terms.specs.declared.program.Form.TheVariants.{Pos, Neg, Calc, Gather}
use Rattle.le_terms.specs.declared.program.Literal.{Literal}
use Rattle.le_terms.specs.declared.program.Program.{Program}
use Rattle.le_subst.specs.Unifiers.{Bindings, value_at}
use Rattle.le_subst.proofs.Replacing.{replaced-replaced}
use Rattle.le_proofs.specs.Goals.{Goal, Picked, pick, is_delayed, selected, child_by, resolvent_by, rest_by, rest_goal, rest_of, put_in_place, raised, head_solution, literal_under, literals_under, terms_under, is_ground_atom}
use Rattle.le_proofs.specs.Proofs.{Proof, WholeTree, Leaf, step_to, step_past, from_above, then_by, joined_proofs, proof_by, clause_used, value_computed, failure_shown, cases_gathered, listed, packed}
use Rattle.le_proofs.specs.SearchTree.{SearchTree, leaves, course_of, whole_of}
use Rattle.le_proofs.specs.Search.{is_covered}
use Rattle.le_gather.specs.Folds.{fold_of}
use Rattle.le_proofs.specs.Lloyd.{IsClauseOf, Pair, pairs_under, seen_by, map_variables, only, Computes, FitsBy, values_at, Proves, Runs, IsWhole, WholeBelow, RefutableBelow}
use Rattle.le_proofs.specs.declared.next.Next.TheVariants.{Done}
use Rattle.le_proofs.proofs.Apart.{Seen, resolves}
use Rattle.le_proofs.proofs.Picks.{IsPicked, pick-means, pick-there, zip-append, zip-map, zip-passed, parts}

-- packed proofs, listed again
pub listed-packed : (proofs : List Proof) → listed (packed proofs) ≡ proofs
listed-packed [] = refl
listed-packed (proof ∷ proofs) = ap (λ ps. proof ∷ ps) (listed-packed proofs)

-- a goal's proofs, of those of the goal that a step leads to
module _ (before new behind : List Literal) (proofs : List Proof) (count : length proofs ≡ length (before ++ (new ++ behind))) where
  abbrev pub front : List Proof
  front = take (length before) proofs

  abbrev pub middle : List Proof
  middle = take (length new) (drop (length before) proofs)

  abbrev pub back : List Proof
  back = drop (length new) (drop (length before) proofs)

  counted : length proofs ≡ length before + (length new + length behind)
  counted = let outer : length (before ++ (new ++ behind)) ≡ length before + length (new ++ behind) = length-append before (new ++ behind) in
      let inner : length (new ++ behind) ≡ length new + length behind = length-append new behind in omega (arith, count)

  pub front-count : length front ≡ length before
  front-count = length-take-le (length before) proofs (let all : length proofs ≡ length before + (length new + length behind) = counted in omega arith)

  dropped : length (drop (length before) proofs) ≡ length new + length behind
  dropped = let all : length proofs ≡ length before + (length new + length behind) = counted in let rest : length (drop (length before) proofs) ≡ length proofs - length before = length-drop (length before) proofs in omega arith

  pub middle-count : length middle ≡ length new
  middle-count = length-take-le (length new) (drop (length before) proofs) (let all : length (drop (length before) proofs) ≡ length new + length behind = dropped in omega arith)

  pub back-count : length back ≡ length behind
  back-count = let all : length (drop (length before) proofs) ≡ length new + length behind = dropped in
      let rest : length back ≡ length (drop (length before) proofs) - length new = length-drop (length new) (drop (length before) proofs) in omega arith

  pub cut : zip (before ++ (new ++ behind)) proofs ≡ zip before front ++ (zip new middle ++ zip behind back)
  cut = ap (zip (before ++ (new ++ behind))) (sym (parts (length before) (length new) proofs))
      ∙ zip-append before (new ++ behind) front (middle ++ back) front-count
      ∙ ap (λ ps. zip before front ++ ps) (zip-append new behind middle back middle-count)

-- the pair that is selected
selected-pair : (version : ℕ) (literals : List Literal) (picked : Picked Literal) (proof : Proof) (front back : List Proof) → selected version literals ≡ Some picked → length front ≡ length picked.before
    → pick (λ (pair : Pair). is_delayed version pair.0) (zip literals (front ++ (proof ∷ back))) ≡ Some (record { before = zip picked.before front; chosen = (picked.chosen, proof); behind = zip picked.behind back })
selected-pair version literals picked proof front back is count =
    let means : IsPicked (is_delayed version) literals picked = pick-means (is_delayed version) literals picked is in
    ap (λ ls. pick (λ (pair : Pair). is_delayed version pair.0) (zip ls (front ++ (proof ∷ back)))) means.all
    ∙ ap (pick (λ (pair : Pair). is_delayed version pair.0)) (zip-append picked.before (picked.chosen ∷ picked.behind) front (proof ∷ back) count)
    ∙ pick-there (λ (pair : Pair). is_delayed version pair.0) (zip picked.before front) (picked.chosen, proof) (zip picked.behind back) (zip-passed (is_delayed version) picked.before front means.passed) means.stopped

-- pairs under a substitution
pairs-cut : (by : ℕ → Tree) (before new behind : List Literal) (proofs : List Proof) (count : length proofs ≡ length (before ++ (new ++ behind)))
    → zip (literals_under by (before ++ (new ++ behind))) proofs ≡ pairs_under by (zip before (front before new behind proofs count) ++ (zip new (middle before new behind proofs count) ++ zip behind (back before new behind proofs count)))
pairs-cut by before new behind proofs count = zip-map (literal_under by) (before ++ (new ++ behind)) proofs ∙ ap (pairs_under by) (cut before new behind proofs count)

pub terms-then : (unifier : Bindings) (by : ℕ → Tree) (terms : List Tree) → terms_under by (terms_under (value_at unifier) terms) ≡ terms_under (then_by unifier by) terms
terms-then unifier by [] = refl
terms-then unifier by (t ∷ terms) = ap (λ u. u ∷ terms_under by (terms_under (value_at unifier) terms)) (replaced-replaced (value_at unifier) by t) ∙ ap (λ us. replaced (then_by unifier by) t ∷ us) (terms-then unifier by terms)

module _ (program : Program) where
  -- a leaf of a goal's tree has a refutation of the goal
  pub record IsProved (rank : ℕ) (seen : List ℕ) (literals : List Literal) (terms : List Tree) (leaf : Leaf) : Type 0 where
    pub count : length leaf.proofs ≡ length literals
    pub steps : ℕ
    pub runs : Runs program (WholeBelow rank program) steps seen (zip literals leaf.proofs) leaf.by
    pub values : leaf.terms ≡ terms_under leaf.by terms

  -- a goal's tree: its leaves are proved, and where its visit is done it is a whole tree
  pub record IsRight (rank : ℕ) (seen : List ℕ) (goal : Goal) (grown : SearchTree) : Type 0 where
    pub each : AllByRecursion (IsProved rank seen goal.literals goal.terms) (leaves (course_of grown))
    pub whole : (course_of grown).ending ≡ Done → IsWhole program (WholeBelow rank program) (RefutableBelow rank program) (whole_of grown) seen goal.literals goal.terms (map (λ leaf. leaf.terms) (leaves (course_of grown)))

  -- how many proofs a goal has above a step
  joined-count : (picked : Picked Literal) (new : List Literal) (literals : List Literal) (proofs : List Proof) (join : List Proof → Proof) → literals ≡ picked.before ++ picked.chosen ∷ picked.behind
      → (count : length proofs ≡ length (put_in_place picked new)) → length (joined_proofs (length picked.before) (length new) join proofs) ≡ length literals
  joined-count picked new literals proofs join are count =
      let f : length (front picked.before new picked.behind proofs count) ≡ length picked.before = front-count picked.before new picked.behind proofs count in
      let b : length (back picked.before new picked.behind proofs count) ≡ length picked.behind = back-count picked.before new picked.behind proofs count in
      let whole : length (joined_proofs (length picked.before) (length new) join proofs) ≡ length (take (length picked.before) proofs) + length (join (take (length new) (drop (length picked.before) proofs)) ∷ drop (length new) (drop (length picked.before) proofs)) =
      length-append (take (length picked.before) proofs) (join (take (length new) (drop (length picked.before) proofs)) ∷ drop (length new) (drop (length picked.before) proofs)) in
      let all : length (picked.before ++ picked.chosen ∷ picked.behind) ≡ length picked.before + length (picked.chosen ∷ picked.behind) = length-append picked.before (picked.chosen ∷ picked.behind) in
      let same : length literals ≡ length (picked.before ++ picked.chosen ∷ picked.behind) = ap length are in
      omega arith

  -- a selected literal and its proof, and the rest of the derivation
  abbrev Onward : ℕ → ℕ → List ℕ → List Literal → (ℕ → Tree) → List Proof → Type 0
  Onward rank steps seen literals by proofs = Runs program (WholeBelow rank program) steps seen (zip literals proofs) by

  runs-step : (rank steps : ℕ) (seen : List ℕ) (literals : List Literal) (picked : Picked Literal) (proof : Proof) (before behind : List Proof) (by : ℕ → Tree) (form : Form) → selected program.version literals ≡ Some picked
      → picked.chosen.form ≡ form → length before ≡ length picked.before
      → Proves program (WholeBelow rank program) (Runs program (WholeBelow rank program) steps) seen (record { before = zip picked.before before; chosen = (picked.chosen, proof); behind = zip picked.behind behind }) by picked.chosen.line form proof
      → Onward rank (suc steps) seen literals by (before ++ (proof ∷ behind))
  runs-step rank steps seen literals picked proof before behind by form one is count proves =
      let pair : Picked Pair = record { before = zip picked.before before; chosen = (picked.chosen, proof); behind = zip picked.behind behind } in
      let P : Picked Pair → Type 0 = λ p. Proves program (WholeBelow rank program) (Runs program (WholeBelow rank program) steps) seen p by p.chosen.0.line p.chosen.0.form p.chosen.1 in
      subst (λ o. IsSomeAnd o P) (sym (selected-pair program.version literals picked proof before behind one count))
      (subst (λ f. Proves program (WholeBelow rank program) (Runs program (WholeBelow rank program) steps) seen pair by picked.chosen.line f proof) (sym is) proves)

  clause-runs : (rank : ℕ) (seen : List ℕ) (goal : Goal) (picked : Picked Literal) (atom : Atom) (place : ℕ) (clause : Clause) (bindings : Bindings) → IsClauseOf program place clause → Seen goal.next seen
      → selected program.version goal.literals ≡ Some picked → picked.chosen.form ≡ Pos atom → head_solution goal.next clause atom ≡ Some bindings
      → (leaf : Leaf) (steps : ℕ) (count : length leaf.proofs ≡ length (put_in_place picked (literals_under (raised goal.next) clause.body)))
      → Onward rank steps (seen_by seen clause (λ v. goal.next + v) bindings) (resolvent_by goal picked clause bindings).literals leaf.by leaf.proofs
      → Onward rank (suc steps) seen goal.literals (then_by bindings leaf.by) (joined_proofs (length picked.before) (length (literals_under (raised goal.next) clause.body)) (λ below. proof_by (then_by bindings leaf.by) below (clause_used place atom)) leaf.proofs)
  clause-runs rank seen goal picked atom place clause bindings is low one form solved leaf steps count runs =
      let new : List Literal = literals_under (raised goal.next) clause.body in
      let f : List Proof = front picked.before new picked.behind leaf.proofs count in
      let m : List Proof = middle picked.before new picked.behind leaf.proofs count in
      let b : List Proof = back picked.before new picked.behind leaf.proofs count in
      runs-step rank steps seen goal.literals picked (proof_by (then_by bindings leaf.by) m (clause_used place atom)) f b (then_by bindings leaf.by) (Pos atom) one form (front-count picked.before new picked.behind leaf.proofs count)
      (record {
        clause = clause;
        names = λ v. goal.next + v;
        unifier = bindings;
        rest_by = leaf.by;
        resolves = resolves program seen goal.next place clause atom bindings is low solved;
        count = ap length (listed-packed m) ∙ (middle-count picked.before new picked.behind leaf.proofs count ∙ length-map clause.body (literal_under (raised goal.next)));
        instance = refl;
        composed = λ v. refl;
        rest = subst (λ ps. Runs program (WholeBelow rank program) steps (seen_by seen clause (λ v. goal.next + v) bindings) (pairs_under (value_at bindings) (zip picked.before f ++ (zip new ps ++ zip picked.behind b))) leaf.by) (sym (listed-packed m))
            (subst (λ ps. Runs program (WholeBelow rank program) steps (seen_by seen clause (λ v. goal.next + v) bindings) ps leaf.by) (pairs-cut (value_at bindings) picked.before new picked.behind leaf.proofs count) runs);
      })

  -- a step by a clause
  pub clause-proves : (rank : ℕ) (seen : List ℕ) (goal : Goal) (picked : Picked Literal) (atom : Atom) (place : ℕ) (clause : Clause) (bindings : Bindings) → IsClauseOf program place clause → Seen goal.next seen
      → selected program.version goal.literals ≡ Some picked → picked.chosen.form ≡ Pos atom → head_solution goal.next clause atom ≡ Some bindings
      → (leaf : Leaf) → IsProved rank (seen_by seen clause (λ v. goal.next + v) bindings) (resolvent_by goal picked clause bindings).literals (resolvent_by goal picked clause bindings).terms leaf
      → IsProved rank seen goal.literals goal.terms (from_above (step_to (length picked.before) atom (child_by goal picked place clause bindings)) leaf)
  clause-proves rank seen goal picked atom place clause bindings is low one form solved leaf proved =
      let means : IsPicked (is_delayed program.version) goal.literals picked = pick-means (is_delayed program.version) goal.literals picked one in
      let new : List Literal = literals_under (raised goal.next) clause.body in
      let same_new : length new ≡ length clause.body = length-map clause.body (literal_under (raised goal.next)) in
      let count : length leaf.proofs ≡ length (put_in_place picked new) = proved.count ∙ length-map (put_in_place picked new) (literal_under (value_at bindings)) in
      subst (λ n. IsProved rank seen goal.literals goal.terms (from_above (record { place = length picked.before; count = n; unifier = bindings; reason = clause_used place atom }) leaf)) same_new
      (record {
        count = joined-count picked new goal.literals leaf.proofs (λ below. proof_by (then_by bindings leaf.by) below (clause_used place atom)) means.all count;
        steps = suc proved.steps;
        runs = clause-runs rank seen goal picked atom place clause bindings is low one form solved leaf proved.steps count proved.runs;
        values = proved.values ∙ terms-then bindings leaf.by goal.terms;
      })

  -- a step past a literal, with a unifier
  past-count : (picked : Picked Literal) (by : ℕ → Tree) (literals : List Literal) (proofs : List Proof) → literals ≡ literals_under by (rest_of picked) → length proofs ≡ length literals → length proofs ≡ length (put_in_place picked [])
  past-count picked by literals proofs are count = count ∙ ap length are ∙ length-map (rest_of picked) (literal_under by)

  pub computed-proves : (rank : ℕ) (seen : List ℕ) (goal : Goal) (picked : Picked Literal) (atom : Atom) (bindings : Bindings) → selected program.version goal.literals ≡ Some picked → picked.chosen.form ≡ Calc atom → Computes atom bindings
      → (leaf : Leaf) → IsProved rank (map_variables bindings ++ seen) (rest_by goal picked bindings).literals (rest_by goal picked bindings).terms leaf
      → IsProved rank seen goal.literals goal.terms (from_above (step_past picked bindings (value_computed atom)) leaf)
  computed-proves rank seen goal picked atom bindings one form computes leaf proved =
      let means : IsPicked (is_delayed program.version) goal.literals picked = pick-means (is_delayed program.version) goal.literals picked one in
      let count : length leaf.proofs ≡ length (put_in_place picked []) = past-count picked (value_at bindings) (rest_by goal picked bindings).literals leaf.proofs refl proved.count in
      let f : List Proof = front picked.before [] picked.behind leaf.proofs count in
      let b : List Proof = back picked.before [] picked.behind leaf.proofs count in
      record {
        count = joined-count picked [] goal.literals leaf.proofs (λ below. proof_by (then_by bindings leaf.by) below (value_computed atom)) means.all count;
        steps = suc proved.steps;
        runs = runs-step rank proved.steps seen goal.literals picked (proof_by (then_by bindings leaf.by) [] (value_computed atom)) f b (then_by bindings leaf.by) (Calc atom) one form (front-count picked.before [] picked.behind leaf.proofs count)
            (record {
              unifier = bindings;
              rest_by = leaf.by;
              computes = computes;
              instance = refl;
              composed = λ v. refl;
              rest = subst (λ ps. Runs program (WholeBelow rank program) proved.steps (map_variables bindings ++ seen) ps leaf.by) (pairs-cut (value_at bindings) picked.before [] picked.behind leaf.proofs count) proved.runs;
            });
        values = proved.values ∙ terms-then bindings leaf.by goal.terms;
      }

  pub gather-proves : (rank : ℕ) (seen : List ℕ) (goal : Goal) (picked : Picked Literal) (fold : FoldKind) (result value : Tree) (atom : Atom) (bindings : Bindings) (sub : WholeTree) (cases : List (List Tree)) → selected program.version goal.literals ≡ Some picked → picked.chosen.form ≡ Gather fold result value atom
      → IsTrue (is_covered value atom) → WholeBelow rank program (only picked.chosen.line atom) (value ∷ []) sub cases → FitsBy result bindings (fold_of fold (values_at cases))
      → (leaf : Leaf) → IsProved rank (map_variables bindings ++ seen) (rest_by goal picked bindings).literals (rest_by goal picked bindings).terms leaf
      → IsProved rank seen goal.literals goal.terms (from_above (step_past picked bindings (cases_gathered fold result value atom sub)) leaf)
  gather-proves rank seen goal picked fold result value atom bindings sub cases one form covered whole fits leaf proved =
      let means : IsPicked (is_delayed program.version) goal.literals picked = pick-means (is_delayed program.version) goal.literals picked one in
      let count : length leaf.proofs ≡ length (put_in_place picked []) = past-count picked (value_at bindings) (rest_by goal picked bindings).literals leaf.proofs refl proved.count in
      let f : List Proof = front picked.before [] picked.behind leaf.proofs count in
      let b : List Proof = back picked.before [] picked.behind leaf.proofs count in
      record {
        count = joined-count picked [] goal.literals leaf.proofs (λ below. proof_by (then_by bindings leaf.by) below (cases_gathered fold result value atom sub)) means.all count;
        steps = suc proved.steps;
        runs = runs-step rank proved.steps seen goal.literals picked (proof_by (then_by bindings leaf.by) [] (cases_gathered fold result value atom sub)) f b (then_by bindings leaf.by) (Gather fold result value atom) one form (front-count picked.before [] picked.behind leaf.proofs count) (
          refl,
          refl,
          refl,
          refl,
          record {
            covered = covered;
            found = cases;
            whole = whole;
            unifier = bindings;
            rest_by = leaf.by;
            fits = fits;
            composed = λ v. refl;
            rest = subst (λ ps. Runs program (WholeBelow rank program) proved.steps (map_variables bindings ++ seen) ps leaf.by) (pairs-cut (value_at bindings) picked.before [] picked.behind leaf.proofs count) proved.runs;
          },
        );
        values = proved.values ∙ terms-then bindings leaf.by goal.terms;
      }

  pub negation-proves : (rank : ℕ) (seen : List ℕ) (goal : Goal) (picked : Picked Literal) (atom : Atom) (sub : WholeTree) → selected program.version goal.literals ≡ Some picked → picked.chosen.form ≡ Neg atom
      → IsTrue (is_ground_atom atom) → WholeBelow rank program (only picked.chosen.line atom) [] sub []
      → (leaf : Leaf) → IsProved rank seen (rest_goal goal picked).literals goal.terms leaf
      → IsProved rank seen goal.literals goal.terms (from_above (step_past picked [] (failure_shown atom sub)) leaf)
  negation-proves rank seen goal picked atom sub one form ground whole leaf proved =
      let means : IsPicked (is_delayed program.version) goal.literals picked = pick-means (is_delayed program.version) goal.literals picked one in
      let f : List Proof = front picked.before [] picked.behind leaf.proofs proved.count in
      let b : List Proof = back picked.before [] picked.behind leaf.proofs proved.count in
      record {
        count = joined-count picked [] goal.literals leaf.proofs (λ below. proof_by (then_by [] leaf.by) below (failure_shown atom sub)) means.all proved.count;
        steps = suc proved.steps;
        runs = runs-step rank proved.steps seen goal.literals picked (proof_by (then_by [] leaf.by) [] (failure_shown atom sub)) f b (then_by [] leaf.by) (Neg atom) one form (front-count picked.before [] picked.behind leaf.proofs proved.count)
            (record {
              ground = ground;
              instance = refl;
              fails = whole;
              rest = subst (λ ps. Runs program (WholeBelow rank program) proved.steps seen ps leaf.by) (cut picked.before [] picked.behind leaf.proofs proved.count) proved.runs;
            });
        values = proved.values;
      }
