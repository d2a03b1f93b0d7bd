-- The clauses of an open goal that weren't tried, one after another, and the goals as they were at its mark before each.
use Rattle.std.specs.Prelude.{option_map, slice_get}
use Rattle.std.proofs.Common.{◌≡◌, ℕ, zero, suc, ◌+◌, ◌-◌, ◌<◌, ◌≤◌, List, [], ◌∷◌, take, length, get_or, Option, Some, None, refl, sym, ap, subst, ◌∙◌, arith}
use Rattle.std.proofs.lemmas.List.{length-take}
use Rattle.std.proofs.lemmas.Option.{get_or_from_slice_get, slice_get-get_or}
use Rattle.le_terms.specs.declared.program.Atom.{Atom}
use Rattle.le_terms.specs.declared.program.Clause.{Clause}
use Rattle.le_terms.specs.declared.program.Form.TheVariants.{Pos}
use Rattle.le_terms.specs.declared.program.Literal.{Literal}
use Rattle.le_terms.specs.Program.{form_atom}
use Rattle.le_index.specs.Keys.{key_of}
use Rattle.le_index.specs.Candidates.{candidate_of}
use Rattle.le_goals.specs.declared.reading.Shape.{Shape}
use Rattle.le_goals.specs.Shown.{Snapshot, Shown, HasLiteral, goal_at, literal_of, no_literal, shape_of}
use Rattle.le_proofs.specs.Goals.{Child}
use Rattle.le_cells.specs.declared.returning.Child.{Child as CodeChild}
use Rattle.le_cells.specs.declared.goals.OpenGoal.{OpenGoal}
use Rattle.le_cells.specs.Keeping.{snapshot_at, no_snapshot, goal_of, children_from}
use Rattle.le_cells.specs.Turns.{GoOn, IsChild}
use Rattle.le_cells.proofs.Turning.{snapshot-taken}
use Rattle.le_cells.proofs.Children.{Follows, none-left}
use Rattle.le_cells.proofs.Passing.{no-candidate, candidate-follows}

-- the atom of an open goal
abbrev pub atom_at : List Snapshot → OpenGoal → Atom
atom_at marks pending = form_atom (literal_of (goal_of marks pending) pending.place).form

-- its children by the clauses from a place on
abbrev pub left_from : List Snapshot → OpenGoal → Literal → List Clause → ℕ → List Child
left_from marks pending literal clauses from = children_from (goal_of marks pending) pending.place literal (atom_at marks pending) clauses from

-- the goals are as they were at the mark, and the clauses that were tried have no child
pub record Tried (old cells : Shown) (pending : OpenGoal) (clauses : List Clause) (first from : ℕ) : Type 0 where
  pub marks_ : cells.marks ≡ take (pending.mark + 1) old.marks
  pub now_ : cells.now ≡ snapshot_at old.marks pending.mark
  pub program_ : cells.program ≡ old.program
  pub same : (literal : Literal) → left_from old.marks pending literal clauses first ≡ left_from old.marks pending literal clauses from
  pub on : first ≤ from

taken-twice : {X : Type 0} (n : ℕ) (xs : List X) → take n (take n xs) ≡ take n xs
taken-twice zero xs = refl
taken-twice (suc n) [] = refl
taken-twice (suc n) (x ∷ xs) = ap (λ ys. x ∷ ys) (taken-twice n xs)

-- the goals at a mark
pub at-mark : (marks : List Snapshot) (mark : ℕ) (now : Snapshot) → slice_get marks mark ≡ Some now → now ≡ snapshot_at marks mark
at-mark marks mark now h = sym (get_or_from_slice_get marks mark now no_snapshot h)

pub begun : (old cells : Shown) (pending : OpenGoal) (clauses : List Clause) (first : ℕ) → slice_get old.marks pending.mark ≡ Some cells.now → cells.marks ≡ take (pending.mark + 1) old.marks → cells.program ≡ old.program → Tried old cells pending clauses first first
begun old cells pending clauses first now marks program = record { marks_ = marks; now_ = at-mark old.marks pending.mark cells.now now; program_ = program; same = λ literal. refl; on = omega arith }

-- the mark still stands
pub still-marked : (old cells : Shown) (pending : OpenGoal) (clauses : List Clause) (first from : ℕ) → pending.mark < length old.marks → Tried old cells pending clauses first from → pending.mark < length cells.marks
still-marked old cells pending clauses first from low tried =
    let long : length cells.marks ≡ length (take (pending.mark + 1) old.marks) = ap length tried.marks_ in
    let taken = length-take (pending.mark + 1) old.marks in
    omega (arith, long, taken, low)

-- the literal at a place, by either default
default-at : (literals : List Literal) (place : ℕ) (a b : Literal) → place < length literals → get_or literals place a ≡ get_or literals place b
default-at [] place a b less = absurd (omega (arith, less))
default-at (l ∷ literals) zero a b less = refl
default-at (l ∷ literals) (suc place) a b less = default-at literals place a b (omega (arith, less))

pub atom-is : (marks : List Snapshot) (pending : OpenGoal) (literal : Literal) (atom : Atom) → HasLiteral (snapshot_at marks pending.mark) pending.goal pending.place → literal ≡ get_or (goal_of marks pending).literals pending.place literal → literal.form ≡ Pos atom → atom_at marks pending ≡ atom
atom-is marks pending literal atom there read form =
    ap (λ (l : Literal). form_atom l.form) (default-at (goal_of marks pending).literals pending.place no_literal literal there.literal ∙ sym read) ∙ ap form_atom form

-- what an index answers that is asked for the atom's predicate and key
pub answered : (old : Shown) (pending : OpenGoal) (clauses : List Clause) (shown : Snapshot) (shaped : Option Shape) (shape : Shape) (key i : ℕ) (answer : Option ℕ) → HasLiteral (snapshot_at old.marks pending.mark) pending.goal pending.place
    → slice_get old.marks pending.mark ≡ Some shown → shaped ≡ option_map shape_of (slice_get (goal_at shown pending.goal).literals pending.place) → shaped ≡ Some shape
    → key ≡ key_of (form_atom (literal_of (goal_at shown pending.goal) pending.place).form) → answer ≡ candidate_of clauses shape.pred key (i + 1)
    → candidate_of clauses (atom_at old.marks pending).pred (key_of (atom_at old.marks pending)) (i + 1) ≡ answer
answered old pending clauses shown shaped shape key i answer there now is given key_ said =
    let here : shown ≡ snapshot_at old.marks pending.mark = at-mark old.marks pending.mark shown now in
    let literals : List Literal = (goal_of old.marks pending).literals in
    let first : slice_get literals pending.place ≡ Some (get_or literals pending.place no_literal) = slice_get-get_or literals pending.place no_literal there.literal in
    let all : Some (shape_of (get_or literals pending.place no_literal)) ≡ Some shape =
    sym (ap (option_map shape_of) first) ∙ (ap (λ (s : Snapshot). option_map shape_of (slice_get (goal_at s pending.goal).literals pending.place)) (sym here) ∙ (sym is ∙ given)) in
    let same : shape_of (get_or literals pending.place no_literal) ≡ shape = cc all in
    let pred : (atom_at old.marks pending).pred ≡ shape.pred = ap (λ (s : Shape). s.pred) same in
    let keys : key_of (atom_at old.marks pending) ≡ key = ap (λ (s : Snapshot). key_of (form_atom (literal_of (goal_at s pending.goal) pending.place).form)) (sym here) ∙ sym key_ in
    ap (λ p. candidate_of clauses p (key_of (atom_at old.marks pending)) (i + 1)) pred ∙ (ap (λ k. candidate_of clauses shape.pred k (i + 1)) keys ∙ sym said)

-- what the clause of a number gives, of the goals at the mark
abbrev pub Gives : Shown → Shown → OpenGoal → ℕ → Clause → Option CodeChild → Type 0
Gives cells new pending number clause answer = IsChild cells.now new.now pending.goal pending.place (form_atom (literal_of (goal_at cells.now pending.goal) pending.place).form) number clause answer

module _ (old cells new : Shown) (pending : OpenGoal) (clauses : List Clause) (first from : ℕ) (own : (goal_of old.marks pending).next ≡ (snapshot_at old.marks pending.mark).next) (tried : Tried old cells pending clauses first from) where
  -- what it gives follows
  pub gives-follows : (number : ℕ) (clause : Clause) (answer : Option CodeChild) (literal : Literal) → candidate_of clauses (atom_at old.marks pending).pred (key_of (atom_at old.marks pending)) (from + 1) ≡ Some number
      → get_or clauses (number - 1) clause ≡ clause → Gives cells new pending number clause answer
      → Follows (snapshot_at old.marks pending.mark) new.now pending.goal pending.place literal (atom_at old.marks pending) clauses from number answer
  gives-follows number clause answer literal is read gives =
      candidate-follows (snapshot_at old.marks pending.mark) new.now pending.goal pending.place literal (atom_at old.marks pending) clauses from number clause answer own is read
      (subst (λ (s : Snapshot). IsChild s new.now pending.goal pending.place (form_atom (literal_of (goal_at s pending.goal) pending.place).form) number clause answer) tried.now_ gives)

  -- its child is visited
  pub child-goes : (number : ℕ) (clause : Clause) (child : CodeChild) (literal : Literal) (atom : Atom) → candidate_of clauses (atom_at old.marks pending).pred (key_of (atom_at old.marks pending)) (from + 1) ≡ Some number
      → get_or clauses (number - 1) clause ≡ clause → Gives cells new pending number clause (Some child) → atom_at old.marks pending ≡ atom
      → GoOn (snapshot_at old.marks pending.mark) new.now (children_from (goal_of old.marks pending) pending.place literal atom clauses first) (Some child) (children_from (goal_of old.marks pending) pending.place literal atom clauses number)
  child-goes number clause child literal atom is read gives same =
      subst (λ (a : Atom). GoOn (snapshot_at old.marks pending.mark) new.now (children_from (goal_of old.marks pending) pending.place literal a clauses first) (Some child) (children_from (goal_of old.marks pending) pending.place literal a clauses number)) same
      (subst (λ all. GoOn (snapshot_at old.marks pending.mark) new.now all (Some child) (left_from old.marks pending literal clauses number)) (sym (tried.same literal)) (gives-follows number clause (Some child) literal is read gives))

  -- there is none: the next clause is tried
  pub goes-on : (number : ℕ) (clause : Clause) (after : Shown) → candidate_of clauses (atom_at old.marks pending).pred (key_of (atom_at old.marks pending)) (from + 1) ≡ Some number
      → get_or clauses (number - 1) clause ≡ clause → Gives cells new pending number clause None → from < number → new.marks ≡ cells.marks → new.program ≡ cells.program
      → slice_get new.marks pending.mark ≡ Some after.now → after.marks ≡ take (pending.mark + 1) new.marks → after.program ≡ new.program → Tried old after pending clauses first number
  goes-on number clause after is read gives less marks program now taken program' = record {
    marks_ = taken ∙ (ap (take (pending.mark + 1)) (marks ∙ tried.marks_) ∙ taken-twice (pending.mark + 1) old.marks);
    now_ = at-mark new.marks pending.mark after.now now ∙ (ap (λ (ms : List Snapshot). snapshot_at ms pending.mark) (marks ∙ tried.marks_) ∙ snapshot-taken old.marks (pending.mark + 1) pending.mark (omega arith));
    program_ = program' ∙ (program ∙ tried.program_);
    same = λ literal. tried.same literal ∙ gives-follows number clause None literal is read gives;
    on = let low : first ≤ from = tried.on in omega (arith, low, less);
  }

  -- no clause is left that has a child
  pub none-goes : (literal : Literal) (atom : Atom) → atom_at old.marks pending ≡ atom → from < length clauses → candidate_of clauses (atom_at old.marks pending).pred (key_of (atom_at old.marks pending)) (from + 1) ≡ None
      → children_from (goal_of old.marks pending) pending.place literal atom clauses first ≡ []
  none-goes literal atom same less none =
      ap (λ (a : Atom). children_from (goal_of old.marks pending) pending.place literal a clauses first) (sym same)
      ∙ (tried.same literal ∙ no-candidate (snapshot_at old.marks pending.mark) pending.goal pending.place literal (atom_at old.marks pending) clauses from own less none)

  pub all-tried : (literal : Literal) (atom : Atom) → atom_at old.marks pending ≡ atom → length clauses ≤ from → children_from (goal_of old.marks pending) pending.place literal atom clauses first ≡ []
  all-tried literal atom same past =
      ap (λ (a : Atom). children_from (goal_of old.marks pending) pending.place literal a clauses first) (sym same)
      ∙ (tried.same literal ∙ none-left (goal_of old.marks pending) pending.place literal (atom_at old.marks pending) clauses from past)
