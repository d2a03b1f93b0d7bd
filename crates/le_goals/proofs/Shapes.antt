-- A literal without its terms.
use Rattle.std.proofs.Common.{◌≡◌, ℕ, ◌+◌, ◌<◌, ◌≤◌, Bool, true, false, List, length, map, get_or, slice_get, Some, None, option_map, refl, sym, ap, ◌∙◌, arith}
use Rattle.std.proofs.lemmas.List.{length-map}
use Rattle.std.proofs.lemmas.Option.{slice_get-get_or, slice_get_past}
use Rattle.le_terms.specs.declared.program.Form.{Form}
use Rattle.le_terms.specs.declared.program.Form.TheVariants.{Pos, Neg, Calc, Gather}
use Rattle.le_terms.specs.declared.program.Literal.{Literal}
use Rattle.le_terms.specs.declared.program.Program.{Program}
use Rattle.le_store.specs.Shown.{Snapshot}
use Rattle.le_goals.specs.declared.frames.Part.{Part}
use Rattle.le_goals.specs.declared.frames.Spot.{Spot}
use Rattle.le_goals.specs.declared.frames.Frame.{Frame}
use Rattle.le_goals.specs.declared.reading.Shape.{Shape}
use Rattle.le_goals.specs.Frames.{literals_in, shaped, based, read, goal_of}
use Rattle.le_goals.specs.Shown.{no_literal, shape_of}
use Rattle.le_goals.specs.Parting.{laid_at, StandsIn}
use Rattle.le_goals.proofs.Spots.{inside-goal, read-literal}

shape-read : (cells : Snapshot) (part : Part) (literal : Literal) → shape_of (read cells (based part literal)) ≡ shape_of (shaped part.alone literal)
shape-read cells part literal = by part.alone literal.form
  where
    by : (is_alone : Bool) (form : Form) → shape_of (read cells (record { literal = shaped is_alone (record { line = literal.line; form = form }); base = part.base })) ≡ shape_of (shaped is_alone (record { line = literal.line; form = form }))
    by true form = refl
    by false (Pos atom) = refl
    by false (Neg atom) = refl
    by false (Calc atom) = refl
    by false (Gather fold result value atom) = refl

pub shape-found : (program : Program) (count : ℕ) (cells : Snapshot) (frames : List Frame) (goal place : ℕ) (spot : Spot) → (passed : List Part) × StandsIn program count frames goal place passed spot → (literal default : Literal) (shape : Shape)
    → literal ≡ get_or (literals_in program spot.part.source) (spot.part.from + spot.left) default → shape ≡ shape_of (shaped spot.part.alone literal)
    → Some shape ≡ option_map shape_of (slice_get (goal_of program cells (laid_at program frames goal)).literals place)
shape-found program count cells frames goal place spot found literal default shape same is =
    let inside : place < length (laid_at program frames goal).literals = inside-goal program count frames goal place found.0 spot found.1 in
    let mapped : length (map (read cells) (laid_at program frames goal).literals) ≡ length (laid_at program frames goal).literals = length-map (laid_at program frames goal).literals (read cells) in
    ap Some (is ∙ (sym (shape-read cells spot.part literal) ∙ ap shape_of (sym (read-literal program count frames goal place found.0 spot found.1 cells literal default same))))
    ∙ ap (option_map shape_of) (sym (slice_get-get_or (map (read cells) (laid_at program frames goal).literals) place no_literal (omega (arith, inside, mapped))))

pub shape-none : (program : Program) (cells : Snapshot) (frames : List Frame) (goal place : ℕ) → length (laid_at program frames goal).literals ≤ place → None ≡ option_map shape_of (slice_get (goal_of program cells (laid_at program frames goal)).literals place)
shape-none program cells frames goal place past =
    let mapped : length (map (read cells) (laid_at program frames goal).literals) ≡ length (laid_at program frames goal).literals = length-map (laid_at program frames goal).literals (read cells) in
    ap (option_map shape_of) (sym (slice_get_past (map (read cells) (laid_at program frames goal).literals) place (omega (arith, past, mapped))))
