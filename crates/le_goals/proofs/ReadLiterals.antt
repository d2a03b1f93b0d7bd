-- A goal's literal, read out of the cells.
use Rattle.std.proofs.Common.{◌≡◌, ℕ, ◌+◌, ◌<◌, ◌≤◌, List, length, map, get_or, slice_get, Option, Some, None, refl, sym, ap, subst, ◌∙◌, arith}
use Rattle.std.proofs.lemmas.List.{length-map, get_or_past}
use Rattle.std.proofs.lemmas.Option.{slice_get-get_or, slice_get_past}
use Rattle.le_terms.specs.Tree.{Tree}
use Rattle.le_terms.specs.Program.{form_atom, form_terms, IsProgram}
use Rattle.le_terms.specs.declared.program.Atom.{Atom}
use Rattle.le_terms.specs.declared.program.Literal.{Literal}
use Rattle.le_terms.specs.declared.program.Program.{Program}
use Rattle.le_store.specs.Shown as store
use Rattle.le_proofs.specs.Goals.{Goal, terms_under, literal_under}
use Rattle.le_goals.specs.declared.frames.Part.{Part}
use Rattle.le_goals.specs.declared.frames.Spot.{Spot}
use Rattle.le_goals.specs.declared.frames.Kept.{Kept}
use Rattle.le_goals.specs.declared.frames.Frame.{Frame}
use Rattle.le_goals.specs.Frames.{literals_in, shaped, cell_term, read, goal_of, goals_of}
use Rattle.le_goals.specs.Shown.{Shown, no_goal, no_literal, literal_of, goal_at}
use Rattle.le_goals.specs.State.{vars_in, shown}
use Rattle.le_goals.specs.Parting.{laid_at, StandsIn}
use Rattle.le_goals.specs.Unifying.{HasVariables}
use Rattle.le_goals.proofs.Inside.{HasBelow, all-within, body-below}
use Rattle.le_goals.proofs.Spots.{inside-body, inside-goal, read-literal, variables-there, Comes, comes, get-from}
use Rattle.le_goals.proofs.Restings.{length-goals, goal-laid}

-- the variables of a goal's literal are there
pub literal-there : (program : Program) → IsProgram program → (shown : store.Shown) (frames : List Frame) (goal place : ℕ) (spot : Spot) → (passed : List Part) × StandsIn program (length shown.now.terms) frames goal place passed spot → (literal default : Literal)
    → literal ≡ get_or (literals_in program spot.part.source) (spot.part.from + spot.left) default → HasVariables shown spot.part.base (form_terms literal.form)
literal-there program is shown frames goal place spot found literal default same =
    let inside : spot.part.from + spot.left < length (literals_in program spot.part.source) = inside-body program (length shown.now.terms) frames goal place found.0 spot found.1 in
    variables-there program (length shown.now.terms) frames goal place found.0 spot found.1 shown refl (form_terms literal.form)
    (subst (HasBelow (vars_in program spot.part.source)) (sym same) (all-within (HasBelow (vars_in program spot.part.source)) (literals_in program spot.part.source) (spot.part.from + spot.left) default inside (body-below program is spot.part.source)))

pub literal-found : (program : Program) (count : ℕ) (cells : store.Snapshot) (frames : List Frame) (goal place : ℕ) (spot : Spot) → (passed : List Part) × StandsIn program count frames goal place passed spot → (literal default new : Literal)
    → literal ≡ get_or (literals_in program spot.part.source) (spot.part.from + spot.left) default → new ≡ literal_under (cell_term cells spot.part.base) (shaped spot.part.alone literal)
    → ◌≡◌ {A = Option Literal} (Some new) (slice_get (goal_of program cells (laid_at program frames goal)).literals place)
literal-found program count cells frames goal place spot found literal default new same is =
    let inside : place < length (laid_at program frames goal).literals = inside-goal program count frames goal place found.0 spot found.1 in
    let mapped : length (map (read cells) (laid_at program frames goal).literals) ≡ length (laid_at program frames goal).literals = length-map (laid_at program frames goal).literals (read cells) in
    ap Some (is ∙ sym (read-literal program count frames goal place found.0 spot found.1 cells literal default same))
    ∙ sym (slice_get-get_or (map (read cells) (laid_at program frames goal).literals) place no_literal (omega (arith, inside, mapped)))

pub literal-none : (program : Program) (cells : store.Snapshot) (frames : List Frame) (goal place : ℕ) → length (laid_at program frames goal).literals ≤ place
    → ◌≡◌ {A = Option Literal} None (slice_get (goal_of program cells (laid_at program frames goal)).literals place)
literal-none program cells frames goal place past =
    let mapped : length (map (read cells) (laid_at program frames goal).literals) ≡ length (laid_at program frames goal).literals = length-map (laid_at program frames goal).literals (read cells) in
    sym (slice_get_past (map (read cells) (laid_at program frames goal).literals) place (omega (arith, past, mapped)))

-- the arguments of a goal's literal, whose variables are cells from this one on
pub record HasArguments (program : Program) (shown : store.Shown) (frames : List Frame) (goal place base : ℕ) (args : List Tree) : Type 0 where
  pub there : HasVariables shown base args
  pub seen : terms_under (cell_term shown.now base) args ≡ (form_atom (literal_of (goal_of program shown.now (laid_at program frames goal)) place).form).args

pub has-arguments : (program : Program) → IsProgram program → (shown : store.Shown) (frames : List Frame) (goal place : ℕ) (spot : Spot) → (passed : List Part) × StandsIn program (length shown.now.terms) frames goal place passed spot → (literals : List Literal) (literal default : Literal) (atom : Atom) (args : List Tree)
    → literal ≡ get_or literals (spot.part.from + spot.left) default → literals ≡ literals_in program spot.part.source → atom ≡ form_atom literal.form → args ≡ atom.args → HasArguments program shown frames goal place spot.part.base args
has-arguments program is shown frames goal place spot found literals literal default atom args read body is_atom is_args =
    let one : Comes program shown frames goal place spot.part.base atom =
    comes program is shown frames goal place spot found literal default atom (get-from literals (literals_in program spot.part.source) (spot.part.from + spot.left) literal default read body) is_atom in
    record {
      there = subst (HasVariables shown spot.part.base) (sym is_args) one.there;
      seen = ap (terms_under (cell_term shown.now spot.part.base)) is_args ∙ ap (λ (a : Atom). a.args) (sym one.seen);
    }

-- ---- goals that contracts see

pub goal-shown : (program : Program) (cells : store.Shown) (frames : List Frame) (kept : List Kept) (old : Shown) (goal : ℕ) → ◌≡◌ {A = Shown} (shown program cells frames kept) old → goal < length frames → goal_of program cells.now (laid_at program frames goal) ≡ goal_at old.now goal
goal-shown program cells frames kept old goal view low = sym (goal-laid program cells.now frames goal low) ∙ ap (λ (v : Shown). goal_at v.now goal) view

-- a number that no goal has
pub goal-past : (program : Program) (cells : store.Shown) (frames : List Frame) (kept : List Kept) (old : Shown) (goal : ℕ) → ◌≡◌ {A = Shown} (shown program cells frames kept) old → length frames ≤ goal → goal_at old.now goal ≡ no_goal
goal-past program cells frames kept old goal view past =
    let count : length (goals_of program cells.now frames) ≡ length frames = length-goals program cells.now frames in
    ap (λ (v : Shown). goal_at v.now goal) (sym view) ∙ get_or_past (goals_of program cells.now frames) goal no_goal (omega (arith, past, count))

pub past-literal : (program : Program) (cells : store.Shown) (frames : List Frame) (kept : List Kept) (old : Shown) (goal place : ℕ) → ◌≡◌ {A = Shown} (shown program cells frames kept) old → length frames ≤ goal
    → ◌≡◌ {A = Option Literal} None (slice_get (goal_at old.now goal).literals place)
past-literal program cells frames kept old goal place view past = ap (λ (g : Goal). slice_get g.literals place) (sym (goal-past program cells frames kept old goal view past))
