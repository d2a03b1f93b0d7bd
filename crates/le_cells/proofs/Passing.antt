-- Clauses that the index passes over have no child.
use Rattle.std.specs.Prelude.{slice_get, nat_le}
use Rattle.std.proofs.Common.{◌≡◌, ℕ, zero, suc, ◌+◌, ◌-◌, ◌<◌, ◌≤◌, Bool, true, false, cond, ◌&&◌, List, [], ◌∷◌, length, get_or, Option, Some, None, refl, sym, ap, subst, ◌∙◌, arith}
use Rattle.std.proofs.lemmas.Bool.{leb-true}
use Rattle.le_terms.specs.declared.program.Atom.{Atom}
use Rattle.le_terms.specs.declared.program.Clause.{Clause}
use Rattle.le_terms.specs.declared.program.Literal.{Literal}
use Rattle.le_index.specs.Keys.{key_of}
use Rattle.le_index.specs.Candidates.{is_candidate, candidate_from, candidate_of}
use Rattle.le_index.specs.Laws.{IsBefore}
use Rattle.le_index.proofs.KeyLaw.{passed-clauses}
use Rattle.le_proofs.specs.Goals.{head_solution}
use Rattle.le_goals.specs.Shown.{Snapshot, goal_at}
use Rattle.le_cells.specs.declared.returning.Child.{Child as CodeChild}
use Rattle.le_cells.specs.Keeping.{children_from}
use Rattle.le_cells.specs.Turns.{GoOn, IsChild}
use Rattle.le_cells.proofs.Children.{Follows, follows, none-left}

-- the clause at a place
pub clause-at : (clauses : List Clause) (i : ℕ) → i < length clauses → (clause : Clause) × (slice_get clauses i ≡ Some clause) × (get_or clauses i clause ≡ clause)
clause-at [] i less = absurd (omega (arith, less))
clause-at (clause ∷ clauses) zero less = (clause, refl, refl)
clause-at (clause ∷ clauses) (suc i) less = clause-at clauses i (omega (arith, less))

-- clauses whose heads have no unifier with the atom have no child
without-child : (old : Snapshot) (goal place : ℕ) (literal : Literal) (atom : Atom) (clauses : List Clause) (i n : ℕ) → (goal_at old goal).next ≡ old.next → i + n ≤ length clauses
    → ((k : ℕ) (clause : Clause) → i ≤ k → k < i + n → slice_get clauses k ≡ Some clause → head_solution old.next clause atom ≡ None)
    → children_from (goal_at old goal) place literal atom clauses i ≡ children_from (goal_at old goal) place literal atom clauses (i + n)
without-child old goal place literal atom clauses i zero own within none =
    let same : i ≡ i + 0 = omega arith in
    ap (children_from (goal_at old goal) place literal atom clauses) same
without-child old goal place literal atom clauses i (suc n) own within none =
    let here = clause-at clauses i (omega (arith, within)) in
    let no : head_solution old.next here.0 atom ≡ None = none i here.0 (omega arith) (omega arith) here.1 in
    let later : i + 1 + n ≡ i + suc n = omega arith in
    follows old old goal place literal atom clauses i here.0 here.0 None own (omega (arith, within)) here.2 no
    ∙ (without-child old goal place literal atom clauses (i + 1) n own (omega (arith, within)) (λ k clause low high at. none k clause (omega (arith, low)) (omega (arith, high)) at)
    ∙ ap (children_from (goal_at old goal) place literal atom clauses) later)

-- a candidate is one of the clauses, from the number on
candidate-within : (pred key from m : ℕ) (clauses : List Clause) (n : ℕ) → candidate_from pred key from m clauses ≡ Some n → (from ≤ n) × (m ≤ n) × (n < m + length clauses)
candidate-within pred key from m [] n h = absurd (cc h)
candidate-within pred key from m (clause ∷ clauses) n h = by (nat_le from m) (is_candidate pred key clause) (candidate-within pred key from (m + 1) clauses n) refl h
  where
    later : ((from ≤ n) × (m + 1 ≤ n) × (n < m + 1 + length clauses)) → (from ≤ n) × (m ≤ n) × (n < m + length (clause ∷ clauses))
    later is = (is.0, omega (arith, is.1), omega (arith, is.2))

    by : (low b : Bool) → (candidate_from pred key from (m + 1) clauses ≡ Some n → (from ≤ n) × (m + 1 ≤ n) × (n < m + 1 + length clauses)) → nat_le from m ≡ low → cond (low && b) (Some m) (candidate_from pred key from (m + 1) clauses) ≡ Some n
        → (from ≤ n) × (m ≤ n) × (n < m + length (clause ∷ clauses))
    by true true others is e =
        let same : m ≡ n = cc e in
        let under : from ≤ m = leb-true from m is in (omega (arith, same, under), omega (arith, same), omega (arith, same))
    by true false others is e = later (others e)
    by false b others is e = later (others e)

-- the clauses from a place on that come before the candidate have no unifier with the atom
passed-over : (next : ℕ) (atom : Atom) (clauses : List Clause) (i k : ℕ) (clause : Clause) → i ≤ k → slice_get clauses k ≡ Some clause → IsBefore (k + 1) (candidate_of clauses atom.pred (key_of atom) (i + 1)) → head_solution next clause atom ≡ None
passed-over next atom clauses i k clause reached there before =
    let same : k ≡ k + 1 - 1 = omega arith in
    (passed-clauses clauses atom (i + 1) (k + 1) clause (omega arith) (subst (λ n. slice_get clauses n ≡ Some clause) same there) (omega (arith, reached)) before).0 next

-- what an index answers that is asked for an atom's key
pub asked : (clauses : List Clause) (atom : Atom) (key i : ℕ) (answer : Option ℕ) → key ≡ key_of atom → answer ≡ candidate_of clauses atom.pred key (i + 1) → candidate_of clauses atom.pred (key_of atom) (i + 1) ≡ answer
asked clauses atom key i answer same is = sym (is ∙ ap (λ k. candidate_of clauses atom.pred k (i + 1)) same)

-- where there is no candidate, there is no child
pub no-candidate : (old : Snapshot) (goal place : ℕ) (literal : Literal) (atom : Atom) (clauses : List Clause) (i : ℕ) → (goal_at old goal).next ≡ old.next → i < length clauses → candidate_of clauses atom.pred (key_of atom) (i + 1) ≡ None
    → children_from (goal_at old goal) place literal atom clauses i ≡ []
no-candidate old goal place literal atom clauses i own within none =
    let all : i + (length clauses - i) ≡ length clauses = omega (arith, within) in
    without-child old goal place literal atom clauses i (length clauses - i) own (omega (arith, within)) (λ k clause low high at. passed-over old.next atom clauses i k clause low at (subst (IsBefore (k + 1)) (sym none) tt))
    ∙ none-left (goal_at old goal) place literal atom clauses (i + (length clauses - i)) (omega (arith, all))

-- the number of a candidate is that of one of the clauses from a place on
pub candidate-bounds : (atom : Atom) (clauses : List Clause) (i n : ℕ) → candidate_of clauses atom.pred (key_of atom) (i + 1) ≡ Some n → (i < n) × (n ≤ length clauses)
candidate-bounds atom clauses i n is =
    let within = candidate-within atom.pred (key_of atom) (i + 1) 1 clauses n is in (omega (arith, within.0), omega (arith, within.2))

-- the child by a candidate before the others, if there is one
pub candidate-follows : (old new : Snapshot) (goal place : ℕ) (literal : Literal) (atom : Atom) (clauses : List Clause) (i n : ℕ) (clause : Clause) (answer : Option CodeChild) → (goal_at old goal).next ≡ old.next
    → candidate_of clauses atom.pred (key_of atom) (i + 1) ≡ Some n → get_or clauses (n - 1) clause ≡ clause → IsChild old new goal place atom n clause answer
    → Follows old new goal place literal atom clauses i n answer
candidate-follows old new goal place literal atom clauses i n clause answer own is read child = by answer next
  where
    within : (i < n) × (n ≤ length clauses)
    within = candidate-bounds atom clauses i n is

    number : n ≡ n - 1 + 1
    number = let low : i < n = within.0 in omega (arith, low)

    place_ : i + (n - 1 - i) ≡ n - 1
    place_ = let low : i < n = within.0 in omega (arith, low)

    passed : children_from (goal_at old goal) place literal atom clauses i ≡ children_from (goal_at old goal) place literal atom clauses (n - 1)
    passed =
        let low : i < n = within.0 in
        let high : n ≤ length clauses = within.1 in
        without-child old goal place literal atom clauses i (n - 1 - i) own (omega (arith, low, high, place_)) (λ k one reached before at. passed-over old.next atom clauses i k one reached at (subst (IsBefore (k + 1)) (sym is) (omega (arith, before, place_, number))))
        ∙ ap (children_from (goal_at old goal) place literal atom clauses) place_

    next : Follows old new goal place literal atom clauses (n - 1) n answer
    next =
        let low : i < n = within.0 in
        let high : n ≤ length clauses = within.1 in
        subst (λ j. Follows old new goal place literal atom clauses (n - 1) j answer) (sym number)
        (follows old new goal place literal atom clauses (n - 1) clause clause answer own (omega (arith, low, high)) read (subst (λ m. IsChild old new goal place atom m clause answer) number child))

    by : (a : Option CodeChild) → Follows old new goal place literal atom clauses (n - 1) n a → Follows old new goal place literal atom clauses i n a
    by None after = passed ∙ after
    by (Some one) after = subst (λ all. GoOn old new all (Some one) (children_from (goal_at old goal) place literal atom clauses n)) (sym passed) after
