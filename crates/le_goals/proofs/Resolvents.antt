-- The resolvent, read in the cells after unification.
use Rattle.std.proofs.Common.{◌≡◌, ℕ, zero, suc, ◌+◌, ◌-◌, ◌<◌, ◌≤◌, List, [], ◌∷◌, ◌++◌, length, map, slice_get, take, drop, Option, Some, refl, sym, ap, subst, ◌∙◌, length-append, arith}
use Rattle.std.specs.List.{AllByRecursion}
use Rattle.std.proofs.lemmas.List.{length-map, map-append}
use Rattle.std.proofs.Math.Seq.{take-length}
use Rattle.le_terms.specs.Variables.{all_occurrences}
use Rattle.le_terms.specs.Program.{form_atom, form_terms, IsProgram}
use Rattle.le_terms.specs.declared.program.Clause.{Clause}
use Rattle.le_terms.specs.declared.program.Literal.{Literal}
use Rattle.le_terms.specs.declared.program.Program.{Program}
use Rattle.le_subst.specs.Unifiers.{Bindings, apply, value_at}
use Rattle.le_store.specs.Shown as store
use Rattle.le_store.specs.Shown.{new_variables}
use Rattle.le_store.proofs.Views.{length-new_variables}
use Rattle.le_proofs.specs.Goals.{Goal, literal_under, literals_under, terms_under, raised, head_solution, resolvent_by, put_in_place}
use Rattle.le_proofs.proofs.Alls.{all-weaken}
use Rattle.le_proofs.proofs.Instances.{form-there}
use Rattle.le_goals.specs.declared.frames.Source.TheVariants.{Body}
use Rattle.le_goals.specs.declared.frames.Part.{Part}
use Rattle.le_goals.specs.declared.frames.Frame.{Frame}
use Rattle.le_goals.specs.declared.frames.Kept.{Kept}
use Rattle.le_goals.specs.Frames.{Laid, nothing_laid, body_of, literals_in, based, part_of, laid_from, cell_term, read, goal_of, goals_of}
use Rattle.le_goals.specs.Shown.{Shown, goal_at, literal_of, picked_at, goal_under, KeepsUnder, Resolves}
use Rattle.le_goals.specs.State.{snapshot_of, snapshots_of, shown, clause_vars, vars_in, IsPart, AreFrames, AreKept, IsGoals}
use Rattle.le_goals.specs.Parting.{laid_at, Grows, Puts, put_at}
use Rattle.le_goals.specs.Unifying.{UnifiesFresh, UnifiesClause, body_of_clause}
use Rattle.le_goals.proofs.Laying.{laid-append, laid-front, length-laid}
use Rattle.le_goals.proofs.Bindings.{goal-bound}
use Rattle.le_goals.proofs.Inside.{HasBelow, LiesInside, LieInside, all-within, body-below, frames-inside, goal-kept}
use Rattle.le_goals.proofs.Keeping.{frames-more}
use Rattle.le_goals.proofs.Heads.{fresh-term}
use Rattle.le_goals.proofs.Restings.{goal-laid, goal-found, goal-put, snapshots-grown, kept-grown}

-- the parts of goals with more cells
pub more-cells : (program : Program) (cells other : store.Shown) (frames : List Frame) (kept : List Kept) → IsGoals program cells frames kept → other.marks ≡ cells.marks → length cells.now.terms ≤ length other.now.terms → IsGoals program other frames kept
more-cells program cells other frames kept is marks more = record {
  program_ = is.program_;
  frames_ = frames-more program (length cells.now.terms) (length other.now.terms) 0 more frames is.frames_;
  kept_ = subst (λ (ms : List store.Snapshot). AreKept program frames 0 0 ms kept) (sym marks) is.kept_;
}

pub grown-more : (program : Program) (cells other : store.Shown) (frames new : List Frame) (kept : List Kept) → IsGoals program cells frames kept → other.marks ≡ cells.marks → Grows program (length other.now.terms) frames new → IsGoals program other new kept
grown-more program cells other frames new kept is marks grows = record {
  program_ = is.program_;
  frames_ = grows.fits;
  kept_ =
      subst (λ (ms : List store.Snapshot). AreKept program new 0 0 ms kept) (sym marks)
      (subst (λ (fs : List Frame). AreKept program fs 0 0 cells.marks kept) (sym grows.front) (kept-grown program frames grows.more 0 0 cells.marks kept is.kept_));
}

pub grown-more-marks : (program : Program) (cells other : store.Shown) (frames new : List Frame) (kept : List Kept) (old : Shown) → IsGoals program cells frames kept → ◌≡◌ {A = Shown} (shown program cells frames kept) old → other.marks ≡ cells.marks → Grows program (length other.now.terms) frames new
    → snapshots_of program new other.marks kept ≡ old.marks
grown-more-marks program cells other frames new kept old is view marks grows =
    ap (λ ms. snapshots_of program new ms kept) marks
    ∙ (ap (λ fs. snapshots_of program fs cells.marks kept) grows.front
    ∙ (snapshots-grown program frames grows.more 0 0 cells.marks kept is.kept_
    ∙ ap (λ (v : Shown). v.marks) view))

pub same-marks : (program : Program) (cells other : store.Shown) (frames : List Frame) (kept : List Kept) (old : Shown) → ◌≡◌ {A = Shown} (shown program cells frames kept) old → other.marks ≡ cells.marks → snapshots_of program frames other.marks kept ≡ old.marks
same-marks program cells other frames kept old view marks = ap (λ ms. snapshots_of program frames ms kept) marks ∙ ap (λ (v : Shown). v.marks) view

-- goals that differ in their next variable alone are one under a unifier
under-next : (bindings : Bindings) (next : ℕ) (goal : Goal) (other : ℕ) → goal_under bindings next (record { next = other; literals = goal.literals; terms = goal.terms }) ≡ goal_under bindings next goal
under-next bindings next goal other = refl

module _ (program : Program) (is : IsProgram program) (old new : store.Shown) (place_ : ℕ) (one : Clause) (found : slice_get program.clauses place_ ≡ Some one) (fresh : ℕ) (bindings : Bindings) (made : UnifiesFresh old new one.vars fresh bindings) where
  -- the cells before the unifier
  abbrev pub between : store.Snapshot
  between = record { terms = old.now.terms ++ (new_variables (length old.now.variables) one.vars ++ made.more); variables = new.now.variables }

  literals-one : literals_in program (Body place_) ≡ one.body
  literals-one = ap body_of found

  pub body-fits : IsPart program (length new.now.terms) (body_of_clause place_ fresh one)
  body-fits =
      let vars : vars_in program (Body place_) ≡ one.vars = ap clause_vars found in
      let bound : length new.now.terms ≡ length (old.now.terms ++ (new_variables (length old.now.variables) one.vars ++ made.more)) = ap length made.terms_ ∙ length-map (old.now.terms ++ (new_variables (length old.now.variables) one.vars ++ made.more)) (apply bindings) in
      let all : length (old.now.terms ++ (new_variables (length old.now.variables) one.vars ++ made.more)) ≡ length old.now.terms + length (new_variables (length old.now.variables) one.vars ++ made.more) = length-append old.now.terms (new_variables (length old.now.variables) one.vars ++ made.more) in
      let behind : length (new_variables (length old.now.variables) one.vars ++ made.more) ≡ length (new_variables (length old.now.variables) one.vars) + length made.more = length-append (new_variables (length old.now.variables) one.vars) made.more in
      let own : length (new_variables (length old.now.variables) one.vars) ≡ one.vars = length-new_variables (length old.now.variables) one.vars in
      let first : fresh ≡ length old.now.terms = made.first in
      let within : length one.body ≡ length (literals_in program (Body place_)) = ap length (sym literals-one) in
      record { cells_ = omega (arith, vars, bound, all, behind, own, first); order = omega arith; within = omega (arith, within) }

  -- the body is renamed apart there
  read-fresh : (literals : List Literal) → AllByRecursion (HasBelow one.vars) literals → map (read between) (map (based (body_of_clause place_ fresh one)) literals) ≡ literals_under (raised (length old.now.variables)) literals
  read-fresh [] low = refl
  read-fresh (literal ∷ literals) low =
      ap (λ f. let l : Literal = record { line = literal.line; form = f } in l ∷ map (read between) (map (based (body_of_clause place_ fresh one)) literals))
      (form-there (cell_term between fresh) (raised (length old.now.variables)) literal.form
      (all-weaken (λ v. v < one.vars) (λ v. cell_term between fresh v ≡ raised (length old.now.variables) v)
      (λ v less. fresh-term between old.now.terms made.more (length old.now.variables) one.vars fresh refl made.first v less) (all_occurrences (form_terms literal.form)) low.0))
      ∙ ap (λ ls. literal_under (raised (length old.now.variables)) literal ∷ ls) (read-fresh literals low.1)

  body-read : map (read between) (part_of program (body_of_clause place_ fresh one)) ≡ literals_under (raised (length old.now.variables)) one.body
  body-read =
      let whole : take (length one.body - 0) (drop 0 (literals_in program (Body place_))) ≡ one.body =
      let count : length one.body - 0 ≡ length one.body = omega arith in
      ap (λ n. take n (literals_in program (Body place_))) count ∙ (ap (take (length one.body)) literals-one ∙ take-length one.body) in
      let low : AllByRecursion (HasBelow one.vars) one.body =
      subst (λ n. AllByRecursion (HasBelow n) one.body) (ap clause_vars found) (subst (AllByRecursion (HasBelow (vars_in program (Body place_)))) literals-one (body-below program is (Body place_))) in
      ap (λ ls. map (read between) (map (based (body_of_clause place_ fresh one)) ls)) whole ∙ read-fresh one.body low

  module _ (laid : Laid) (inside : LiesInside program (length old.now.terms) laid) where
    -- an old goal before the unifier is as it was
    pub goal-between : goal_of program between laid ≡ record { next = length new.now.variables; literals = (goal_of program old.now laid).literals; terms = (goal_of program old.now laid).terms }
    goal-between = goal-kept old.now between (new_variables (length old.now.variables) one.vars ++ made.more) refl program is laid inside

    pub goal-after : goal_of program new.now laid ≡ goal_under bindings (length new.now.variables) (goal_of program old.now laid)
    goal-after = goal-bound between new.now bindings made.terms_ program laid ∙ ap (goal_under bindings (length new.now.variables)) goal-between

    -- the resolvent
    pub resolvent-after : (place : ℕ) → goal_of program new.now (put_at place (part_of program (body_of_clause place_ fresh one)) laid) ≡ resolvent_by (goal_of program old.now laid) (picked_at (goal_of program old.now laid) place) one bindings
    resolvent-after place =
        goal-bound between new.now bindings made.terms_ program (put_at place (part_of program (body_of_clause place_ fresh one)) laid)
        ∙ (ap (goal_under bindings (length new.now.variables)) (goal-put program between place (part_of program (body_of_clause place_ fresh one)) laid)
        ∙ (ap (λ (g : Goal). goal_under bindings (length new.now.variables) (let h : Goal = record { next = length new.now.variables; literals = put_in_place (picked_at g place) (map (read between) (part_of program (body_of_clause place_ fresh one))); terms = g.terms } in h)) goal-between
        ∙ (ap (λ ls. goal_under bindings (length new.now.variables) (let h : Goal = record { next = length new.now.variables; literals = put_in_place (picked_at (goal_of program old.now laid) place) ls; terms = (goal_of program old.now laid).terms } in h)) body-read
        ∙ ap (λ n. let h : Goal = record { next = n; literals = literals_under (value_at bindings) (put_in_place (picked_at (goal_of program old.now laid) place) (literals_under (raised (length old.now.variables)) one.body)); terms = terms_under (value_at bindings) (goal_of program old.now laid).terms } in h) made.count)))

  goals-after : (laid : List Laid) → LieInside program (length old.now.terms) laid → map (goal_of program new.now) laid ≡ map (goal_under bindings (length new.now.variables)) (map (goal_of program old.now) laid)
  goals-after [] inside = refl
  goals-after (one_laid ∷ laid) inside =
      ap (λ g. g ∷ map (goal_of program new.now) laid) (goal-after one_laid inside.0)
      ∙ ap (λ gs. goal_under bindings (length new.now.variables) (goal_of program old.now one_laid) ∷ gs) (goals-after laid inside.1)

  -- all goals, and those that came
  pub keeps-under : (frames new_frames more : List Frame) → AreFrames program (length old.now.terms) 0 frames → new_frames ≡ frames ++ more
      → KeepsUnder bindings (length old.now.variables + one.vars) (snapshot_of program old.now frames) (snapshot_of program new.now new_frames)
  keeps-under frames new_frames more fits grown =
      let inside : LieInside program (length old.now.terms) (laid_from program [] frames) = frames-inside program is (length old.now.terms) [] tt 0 frames fits in
      let front : (others : List Laid) × (laid_from program (laid_from program [] frames) more ≡ laid_from program [] frames ++ others) = laid-front program (laid_from program [] frames) more in
      record {
        next_ = made.count;
        more = map (goal_of program new.now) front.0;
        goals_ =
            ap (goals_of program new.now) grown
            ∙ (ap (map (goal_of program new.now)) (laid-append program [] frames more ∙ front.1)
            ∙ (map-append (goal_of program new.now) (laid_from program [] frames) front.0
            ∙ (ap (λ gs. gs ++ map (goal_of program new.now) front.0) (goals-after (laid_from program [] frames) inside)
            ∙ ap (λ n. map (goal_under bindings n) (goals_of program old.now frames) ++ map (goal_of program new.now) front.0) made.count)));
      }

-- ---- a goal that was resolved

pub a-clause : (clauses : List Clause) (place : ℕ) → place < length clauses → (one : Clause) × (slice_get clauses place ≡ Some one)
a-clause [] place low = absurd (omega (arith, low))
a-clause (clause ∷ clauses) zero low = (clause, refl)
a-clause (clause ∷ clauses) (suc place) low = a-clause clauses place (omega (arith, low))

pub unified-some : (program : Program) (old new : store.Shown) (frames items : List Frame) (goal place : ℕ) (one : Clause) (answer : Option ℕ) (fresh : ℕ) → frames ≡ items → answer ≡ Some fresh → UnifiesClause program old new frames goal place one answer → UnifiesClause program old new items goal place one (Some fresh)
unified-some program old new frames items goal place one answer fresh same some made =
    subst (λ (fs : List Frame). UnifiesClause program old new fs goal place one (Some fresh)) same (subst (λ (a : Option ℕ). UnifiesClause program old new frames goal place one a) some made)

pub body-ready : (program : Program) → IsProgram program → (old new : store.Shown) (frames : List Frame) (goal place place_ : ℕ) (one : Clause) (fresh : ℕ) (part : Part) → slice_get program.clauses place_ ≡ Some one → UnifiesClause program old new frames goal place one (Some fresh) → part ≡ body_of_clause place_ fresh one
    → IsPart program (length new.now.terms) part
body-ready program is old new frames goal place place_ one fresh part found made same = subst (IsPart program (length new.now.terms)) (sym same) (body-fits program is old new place_ one found fresh made.0 made.2)

pub resolved : (program : Program) (cells other : store.Shown) (frames new : List Frame) (kept : List Kept) (old : Shown) → IsGoals program cells frames kept → ◌≡◌ {A = Shown} (shown program cells frames kept) old
    → (goal place place_ : ℕ) (one : Clause) (fresh child : ℕ) (part : Part) → goal < length frames → slice_get program.clauses place_ ≡ Some one → UnifiesClause program cells other frames goal place one (Some fresh) → part ≡ body_of_clause place_ fresh one
    → Grows program (length other.now.terms) frames new → Puts program (length other.now.terms) frames new child (put_at place (part_of program part) (laid_at program frames goal))
    → Resolves old.now (snapshot_of program other.now new) goal place one (Some child)
resolved program cells other frames new kept old is view goal place place_ one fresh child part low found made same grows puts =
    let laid : Laid = laid_at program frames goal in
    let before_ : Goal = goal_at (snapshot_of program cells.now frames) goal in
    let seen : before_ ≡ goal_of program cells.now laid = goal-laid program cells.now frames goal low in
    let all : LieInside program (length cells.now.terms) (laid_from program [] frames) = frames-inside program is.program_ (length cells.now.terms) [] tt 0 frames is.frames_ in
    let count : length (laid_from program [] frames) ≡ 0 + length frames = length-laid program [] frames in
    let inside : LiesInside program (length cells.now.terms) laid = all-within (LiesInside program (length cells.now.terms)) (laid_from program [] frames) goal nothing_laid (omega (arith, count, low)) all in
    let head : head_solution (length cells.now.variables) one (form_atom (literal_of before_ place).form) ≡ Some made.0 =
    ap (λ (g : Goal). head_solution (length cells.now.variables) one (form_atom (literal_of g place).form)) seen ∙ made.1 in
    let child_ : slice_get (goals_of program other.now new) child ≡ Some (resolvent_by before_ (picked_at before_ place) one made.0) =
    goal-found program other.now new child (put_at place (part_of program part) laid) puts.there puts.laid_
    ∙ ap Some (ap (λ (p : Part). goal_of program other.now (put_at place (part_of program p) laid)) same
    ∙ (resolvent-after program is.program_ cells other place_ one found fresh made.0 made.2 laid inside place
    ∙ ap (λ (g : Goal). resolvent_by g (picked_at g place) one made.0) (sym seen))) in
    subst (λ (v : Shown). Resolves v.now (snapshot_of program other.now new) goal place one (Some child)) view
    (made.0, head, child_, keeps-under program is.program_ cells other place_ one found fresh made.0 made.2 frames new grows.more is.frames_ grows.front)
