-- The goal of the atom of a literal alone.
use Rattle.std.proofs.Common.{◌≡◌, ℕ, ◌+◌, ◌-◌, ◌<◌, ◌≤◌, Bool, true, false, List, [], ◌∷◌, ◌++◌, length, map, get_or, slice_get, take, drop, Some, refl, sym, ap, subst, ◌∙◌, length-append, arith}
use Rattle.std.proofs.Math.Seq.{drop-cons}
use Rattle.std.proofs.Math.Seq.{get_or-append_seam}
use Rattle.std.proofs.lemmas.Option.{slice_get-get_or, get_or_from_slice_get}
use Rattle.le_terms.specs.Variables.{replaced}
use Rattle.le_terms.specs.Program.{form_atom}
use Rattle.le_terms.specs.declared.program.Form.{Form}
use Rattle.le_terms.specs.declared.program.Form.TheVariants.{Pos, Neg, Calc, Gather}
use Rattle.le_terms.specs.declared.program.Literal.{Literal}
use Rattle.le_terms.specs.declared.program.Program.{Program}
use Rattle.le_store.specs.Shown as store
use Rattle.le_proofs.specs.Goals.{Goal, sub_goal}
use Rattle.le_goals.specs.declared.frames.Source.{Source}
use Rattle.le_goals.specs.declared.frames.Answers.{Answers}
use Rattle.le_goals.specs.declared.frames.Part.{Part}
use Rattle.le_goals.specs.declared.frames.Spot.{Spot}
use Rattle.le_goals.specs.declared.frames.Kept.{Kept}
use Rattle.le_goals.specs.declared.frames.Frame.{Frame}
use Rattle.le_goals.specs.declared.frames.Frame.TheVariants.{Empty}
use Rattle.le_goals.specs.Frames.{Laid, nothing_laid, literals_in, value_in, shaped, based, part_of, before, laid_from, cell_term, read, answer_terms, goal_of, goals_of}
use Rattle.le_goals.specs.Shown.{Shown, literal_of, goal_at, sub_terms, sub_goal_at}
use Rattle.le_goals.specs.State.{vars_in, AreAnswers, IsPart, AreFrames, shown}
use Rattle.le_goals.specs.Parting.{laid_at, StandsIn, Grows, Puts, PutsSub, answers_for, sub_answers, one_part}
use Rattle.le_goals.proofs.Laying.{laid-append, length-laid}
use Rattle.le_goals.proofs.Keeping.{frames-push}
use Rattle.le_goals.proofs.Spots.{inside-body, read-literal, atom-read}
use Rattle.le_goals.proofs.Restings.{goal-laid, goal-found}

answers-fit : (program : Program) (cells : ℕ) (is_alone : Bool) (form : Form) (source : Source) (base at : ℕ) → base + vars_in program source ≤ cells → AreAnswers program cells (answers_for is_alone form source base at)
answers-fit program cells true form source base at fits = tt
answers-fit program cells false (Pos atom) source base at fits = tt
answers-fit program cells false (Neg atom) source base at fits = tt
answers-fit program cells false (Calc atom) source base at fits = tt
answers-fit program cells false (Gather fold result value atom) source base at fits = fits

-- the frame of the empty goal, with those answers
module _ (program : Program) (cells : ℕ) (old mid : List Frame) (goal place : ℕ) (passed : List Part) (spot : Spot) (stands : StandsIn program cells old goal place passed spot) (literal : Literal) (fits : AreFrames program cells 0 old)
    (pushed : mid ≡ old ++ Empty (sub_answers literal spot.part (spot.part.from + spot.left)) ∷ []) where
  answers : Answers
  answers = sub_answers literal spot.part (spot.part.from + spot.left)

  pub end-grows : Grows program cells old mid
  end-grows = record {
    fits = subst (AreFrames program cells 0) (sym pushed) (frames-push program cells 0 old (Empty (sub_answers literal spot.part (spot.part.from + spot.left))) fits (answers-fit program cells spot.part.alone literal.form spot.part.source spot.part.base (spot.part.from + spot.left) stands.part.cells_));
    more = Empty (sub_answers literal spot.part (spot.part.from + spot.left)) ∷ [];
    front = pushed;
  }

  pub end-there : length old < length mid
  end-there = let grown : length mid ≡ length old + 1 = ap length pushed ∙ length-append old (Empty (sub_answers literal spot.part (spot.part.from + spot.left)) ∷ []) in omega (arith, grown)

  pub end-laid : laid_at program mid (length old) ≡ record { literals = []; answers = sub_answers literal spot.part (spot.part.from + spot.left) }
  end-laid =
      let laid : List Laid = laid_from program [] old in
      let last : Laid = record { literals = []; answers = sub_answers literal spot.part (spot.part.from + spot.left) } in
      let count : length laid ≡ 0 + length old = length-laid program [] old in
      let at : length old ≡ length laid = omega (arith, count) in
      ap (λ fs. laid_at program fs (length old)) pushed
      ∙ (ap (λ ls. get_or ls (length old) nothing_laid) (laid-append program [] old (Empty (sub_answers literal spot.part (spot.part.from + spot.left)) ∷ []))
      ∙ (ap (λ n. get_or (laid ++ last ∷ []) n nothing_laid) at
      ∙ get_or-append_seam laid last [] nothing_laid))

  pub one-fits : IsPart program cells (one_part spot.part (spot.part.from + spot.left))
  one-fits =
      let inside : spot.part.from + spot.left < length (literals_in program spot.part.source) = inside-body program cells old goal place passed spot stands in
      record { cells_ = stands.part.cells_; order = omega arith; within = omega (arith, inside) }

  pub put-sub : (new : List Frame) (number : ℕ) (default : Literal) → literal ≡ get_or (literals_in program spot.part.source) (spot.part.from + spot.left) default
      → Puts program cells mid new number (before (part_of program (one_part spot.part (spot.part.from + spot.left))) (laid_at program mid (length old))) → PutsSub program cells old new goal place number
  put-sub new number default same puts =
      let inside : spot.part.from + spot.left < length (literals_in program spot.part.source) = inside-body program cells old goal place passed spot stands in
      record {
        there = puts.there;
        passed = passed;
        spot = spot;
        stands = stands;
        literal = literal;
        literal_ = slice_get-get_or (literals_in program spot.part.source) (spot.part.from + spot.left) default inside ∙ ap Some (sym same);
        laid_ = puts.laid_ ∙ ap (before (part_of program (one_part spot.part (spot.part.from + spot.left)))) end-laid;
      }

-- ---- as the cells show it

one-of : {X : Type 0} (xs : List X) (at : ℕ) (x : X) → slice_get xs at ≡ Some x → at < length xs → take ((at + 1) - at) (drop at xs) ≡ x ∷ []
one-of xs at x found low =
    let count : (at + 1) - at ≡ 1 = omega arith in
    ap (λ n. take n (drop at xs)) count ∙ (ap (take 1) (drop-cons xs at x low) ∙ ap (λ y. y ∷ []) (get_or_from_slice_get xs at x x found))

sub-terms : (program : Program) (cells : store.Snapshot) (part : Part) (literal : Literal) (at : ℕ) → slice_get (literals_in program part.source) at ≡ Some literal
    → answer_terms program cells (sub_answers literal part at) ≡ sub_terms (read cells (based part literal)).form
sub-terms program cells part literal at found = by part.alone literal.form (ap value_in found)
  where
    by : (is_alone : Bool) (form : Form) → value_in (slice_get (literals_in program part.source) at) ≡ value_in (Some (record { line = literal.line; form = form }))
        → answer_terms program cells (answers_for is_alone form part.source part.base at) ≡ sub_terms (read cells (record { literal = shaped is_alone (record { line = literal.line; form = form }); base = part.base })).form
    by true form value = refl
    by false (Pos atom) value = refl
    by false (Neg atom) value = refl
    by false (Calc atom) value = refl
    by false (Gather fold result value_ atom) value = ap (λ t. replaced (cell_term cells part.base) t ∷ []) value

line-read : (cells : store.Snapshot) (part : Part) (literal : Literal) → (read cells (based part literal)).line ≡ literal.line
line-read cells part literal = by part.alone
  where
    by : (is_alone : Bool) → (read cells (record { literal = shaped is_alone literal; base = part.base })).line ≡ literal.line
    by true = refl
    by false = refl

pub sub-found : (program : Program) (cells : store.Shown) (frames new : List Frame) (kept : List Kept) (old : Shown) → ◌≡◌ {A = Shown} (shown program cells frames kept) old → (goal place number : ℕ) → goal < length frames
    → PutsSub program (length cells.now.terms) frames new goal place number → slice_get (goals_of program cells.now new) number ≡ Some (sub_goal_at (goal_at old.now goal) place)
sub-found program cells frames new kept old view goal place number low puts =
    let part : Part = puts.spot.part in
    let at : ℕ = part.from + puts.spot.left in
    let laid : Laid = laid_at program frames goal in
    let last : Laid = before (part_of program (one_part part at)) (record { literals = []; answers = sub_answers puts.literal part at }) in
    let inside : at < length (literals_in program part.source) = inside-body program (length cells.now.terms) frames goal place puts.passed puts.spot puts.stands in
    let same : goal_of program cells.now laid ≡ goal_at old.now goal = sym (goal-laid program cells.now frames goal low) ∙ ap (λ (v : Shown). goal_at v.now goal) view in
    let literal_ : literal_of (goal_of program cells.now laid) place ≡ read cells.now (based part puts.literal) =
    read-literal program (length cells.now.terms) frames goal place puts.passed puts.spot puts.stands cells.now puts.literal puts.literal (sym (get_or_from_slice_get (literals_in program part.source) at puts.literal puts.literal puts.literal_)) in
    let own : part_of program (one_part part at) ≡ based (one_part part at) puts.literal ∷ [] = ap (map (based (one_part part at))) (one-of (literals_in program part.source) at puts.literal puts.literal_ inside) in
    let seen : Literal = read cells.now (based part puts.literal) in
    let is : goal_of program cells.now last ≡ sub_goal (goal_of program cells.now laid) seen.line (form_atom seen.form) (sub_terms seen.form) =
    ap (λ ls. let g : Goal = record { next = length cells.now.variables; literals = map (read cells.now) (ls ++ []); terms = answer_terms program cells.now (sub_answers puts.literal part at) } in g) own
    ∙ (ap (λ a. let g : Goal = record { next = length cells.now.variables; literals = record { line = puts.literal.line; form = Pos a } ∷ []; terms = answer_terms program cells.now (sub_answers puts.literal part at) } in g) (sym (atom-read cells.now part puts.literal))
    ∙ (ap (λ n. let g : Goal = record { next = length cells.now.variables; literals = record { line = n; form = Pos (form_atom seen.form) } ∷ []; terms = answer_terms program cells.now (sub_answers puts.literal part at) } in g) (sym (line-read cells.now part puts.literal))
    ∙ ap (λ ts. let g : Goal = record { next = length cells.now.variables; literals = record { line = seen.line; form = Pos (form_atom seen.form) } ∷ []; terms = ts } in g) (sub-terms program cells.now part puts.literal at puts.literal_))) in
    goal-found program cells.now new number last puts.there puts.laid_
    ∙ ap Some (is
    ∙ (ap (λ (l : Literal). sub_goal (goal_of program cells.now laid) l.line (form_atom l.form) (sub_terms l.form)) (sym literal_)
    ∙ ap (λ (g : Goal). sub_goal_at g place) same))
