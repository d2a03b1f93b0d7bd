-- The last frame of a goal, and the terms of its answer.
use Rattle.std.proofs.Common.{◌≡◌, ℕ, ◌+◌, ◌<◌, ◌≤◌, List, [], length, get_or, slice_get, Option, Some, sym, ap, subst, ◌∙◌, arith}
use Rattle.std.specs.List.{AllByRecursion}
use Rattle.std.proofs.lemmas.Option.{slice_get-get_or, slice_get_past}
use Rattle.le_terms.specs.Tree.{Tree, nil}
use Rattle.le_terms.specs.Variables.{replaced, all_occurrences}
use Rattle.le_terms.specs.Program.{form_terms, IsProgram}
use Rattle.le_terms.specs.declared.program.Literal.{Literal}
use Rattle.le_terms.specs.declared.program.Program.{Program}
use Rattle.le_store.specs.Shown as store
use Rattle.le_proofs.specs.Goals.{Goal}
use Rattle.le_proofs.proofs.Alls.{all-weaken}
use Rattle.le_goals.specs.declared.frames.Answers.{Answers}
use Rattle.le_goals.specs.declared.frames.Part.{Part}
use Rattle.le_goals.specs.declared.frames.Source.{Source}
use Rattle.le_goals.specs.declared.frames.Kept.{Kept}
use Rattle.le_goals.specs.declared.frames.Frame.{Frame}
use Rattle.le_goals.specs.declared.frames.Frame.TheVariants.{Empty, Before}
use Rattle.le_goals.specs.Frames.{Laid, literals_in, form_value, value_in}
use Rattle.le_goals.specs.Shown.{Shown, goal_at}
use Rattle.le_goals.specs.State.{vars_in, HasCells, AreFrames, shown}
use Rattle.le_goals.specs.Parting.{laid_at}
use Rattle.le_goals.specs.Unifying.{HasVariables}
use Rattle.le_goals.specs.Ends.{HasAnswers}
use Rattle.le_goals.proofs.Inside.{HasBelow, all-within, body-below}
use Rattle.le_goals.proofs.Parts.{frame-laid, frame-fits}
use Rattle.le_goals.proofs.Walks.{laid-before}
use Rattle.le_goals.proofs.ReadLiterals.{goal-past}

-- a goal has the answer of the goal of a frame
pub record LeadsTo (frames : List Frame) (goal at : ℕ) : Type 0 where
  pub same : (program : Program) (cells : ℕ) → AreFrames program cells 0 frames → (laid_at program frames goal).answers ≡ (laid_at program frames at).answers

pub leads-on : (frames : List Frame) (at : ℕ) (low : at < length frames) (default : Frame) (part : Part) (rest : ℕ) → get_or frames at default ≡ Before part rest → (goal : ℕ) → LeadsTo frames goal at → LeadsTo frames goal rest
leads-on frames at low default part rest is goal leads = record {
  same = λ program cells fits. leads.same program cells fits ∙ ap (λ (l : Laid). l.answers) (laid-before frames at low default part rest is program cells fits);
}

pub leads-end : (frames : List Frame) (at : ℕ) → at < length frames → (default : Frame) (answers : Answers) → get_or frames at default ≡ Empty answers → (goal : ℕ) → LeadsTo frames goal at → (program : Program) (cells : ℕ) → AreFrames program cells 0 frames
    → HasAnswers program cells frames goal answers
leads-end frames at low default answers is goal leads program cells fits = record {
  laid = leads.same program cells fits ∙ ap (λ (l : Laid). l.answers) (frame-laid program cells frames at (Empty answers) default fits low (sym is));
  fits = frame-fits program cells frames at (Empty answers) default fits low (sym is);
}

-- ---- the terms

pub value-there : (program : Program) → IsProgram program → (shown : store.Shown) (source : Source) (base at : ℕ) (items : List Literal) (literal : Literal) → HasCells program (length shown.now.terms) source base → items ≡ literals_in program source → at < length items → literal ≡ get_or items at literal
    → HasVariables shown base (form_terms literal.form)
value-there program is shown source base at items literal fits same low read =
    let vars : ℕ = vars_in program source in
    let below : HasBelow vars literal = subst (HasBelow vars) (sym read) (all-within (HasBelow vars) items at literal low (subst (AllByRecursion (HasBelow vars)) (sym same) (body-below program is source))) in
    let fits_ : base + vars_in program source ≤ length shown.now.terms = fits in
    all-weaken (λ v. v < vars_in program source) (λ v. store.IsThere shown (base + v)) (λ v (less : v < vars_in program source). omega (arith, fits_, less)) (all_occurrences (form_terms literal.form)) below

pub value-found : (literals items : List Literal) (at : ℕ) (literal : Literal) (by : ℕ → Tree) → items ≡ literals → at < length items → literal ≡ get_or items at literal → replaced by (form_value literal.form) ≡ replaced by (value_in (slice_get literals at))
value-found literals items at literal by same low read =
    ap (replaced by)
    (sym (ap value_in (slice_get-get_or items at literal low ∙ ap Some (sym read)))
    ∙ ap (λ ls. value_in (slice_get ls at)) same)

pub value-none : (literals items : List Literal) (at : ℕ) (by : ℕ → Tree) → items ≡ literals → length items ≤ at → nil ≡ replaced by (value_in (slice_get literals at))
value-none literals items at by same past = ap (λ (found : Option Literal). replaced by (value_in found)) (sym (slice_get_past items at past)) ∙ ap (λ ls. replaced by (value_in (slice_get ls at))) same

-- ---- goals that contracts see

pub past-terms : (program : Program) (cells : store.Shown) (frames : List Frame) (kept : List Kept) (old : Shown) (goal : ℕ) → ◌≡◌ {A = Shown} (shown program cells frames kept) old → length frames ≤ goal → [] ≡ (goal_at old.now goal).terms
past-terms program cells frames kept old goal view past = ap (λ (g : Goal). g.terms) (sym (goal-past program cells frames kept old goal view past))
