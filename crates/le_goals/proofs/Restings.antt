-- Frames that are put where the cells are the same.
use Rattle.std.proofs.Common.{◌≡◌, ℕ, zero, suc, ◌+◌, ◌<◌, List, [], ◌∷◌, ◌++◌, length, map, slice_get, take, drop, Some, refl, sym, ap, subst, ◌∙◌, length-append, arith}
use Rattle.std.proofs.lemmas.List.{map-append, length-map, get_or-map, take-append-le}
use Rattle.std.proofs.lemmas.Option.{slice_get-get_or}
use Rattle.le_terms.specs.declared.program.Program.{Program}
use Rattle.le_store.specs.Shown as store
use Rattle.le_proofs.specs.Goals.{Goal, rest_goal, put_in_place}
use Rattle.le_goals.specs.declared.frames.Kept.{Kept}
use Rattle.le_goals.specs.declared.frames.Frame.{Frame}
use Rattle.le_goals.specs.Frames.{Based, Laid, nothing_laid, laid_from, read, answer_terms, goal_of, goals_of}
use Rattle.le_goals.specs.Shown.{Shown, no_goal, goal_at, picked_at, HasLiteral, Keeps}
use Rattle.le_goals.specs.State.{snapshot_of, snapshots_of, shown, AreFrames, AreKept, IsGoals}
use Rattle.le_goals.specs.Parting.{laid_at, Grows, Puts, put_at}
use Rattle.le_goals.proofs.Laying.{laid-append, length-laid, laid-front}
use Rattle.le_goals.proofs.Keeping.{kept-low}

-- ---- marks, as frames come

pub kept-grown : (program : Program) (frames more : List Frame) (at low : ℕ) (marks : List store.Snapshot) (kept : List Kept) → AreKept program frames at low marks kept → AreKept program (frames ++ more) at low marks kept
kept-grown program frames more at low [] [] h = let count : length (frames ++ more) ≡ length frames + length more = length-append frames more in omega (arith, h, count)
kept-grown program frames more at low [] (one ∷ kept) h = absurd h
kept-grown program frames more at low (cells ∷ marks) [] h = absurd h
kept-grown program frames more at low (cells ∷ marks) (one ∷ kept) h =
    (h.0, h.1, subst (AreFrames program (length cells.terms) 0) (sym (take-append-le one.frames frames more (kept-low program frames (suc at) one.frames marks kept h.3))) h.2, kept-grown program frames more (suc at) one.frames marks kept h.3)

pub snapshots-grown : (program : Program) (frames more : List Frame) (at low : ℕ) (marks : List store.Snapshot) (kept : List Kept) → AreKept program frames at low marks kept → snapshots_of program (frames ++ more) marks kept ≡ snapshots_of program frames marks kept
snapshots-grown program frames more at low [] [] h = refl
snapshots-grown program frames more at low [] (one ∷ kept) h = absurd h
snapshots-grown program frames more at low (cells ∷ marks) [] h = absurd h
snapshots-grown program frames more at low (cells ∷ marks) (one ∷ kept) h =
    ap (λ fs. snapshot_of program cells fs ∷ snapshots_of program (frames ++ more) marks kept) (take-append-le one.frames frames more (kept-low program frames (suc at) one.frames marks kept h.3))
    ∙ ap (λ ss. snapshot_of program cells (take one.frames frames) ∷ ss) (snapshots-grown program frames more (suc at) one.frames marks kept h.3)

-- ---- goals of frames

pub length-goals : (program : Program) (cells : store.Snapshot) (frames : List Frame) → length (goals_of program cells frames) ≡ length frames
length-goals program cells frames =
    let count : length (laid_from program [] frames) ≡ 0 + length frames = length-laid program [] frames in
    let mapped : length (goals_of program cells frames) ≡ length (laid_from program [] frames) = length-map (laid_from program [] frames) (goal_of program cells) in
    omega (arith, count, mapped)

-- the goal of a number is that of its frame
pub goal-laid : (program : Program) (cells : store.Snapshot) (frames : List Frame) (at : ℕ) → at < length frames → goal_at (snapshot_of program cells frames) at ≡ goal_of program cells (laid_at program frames at)
goal-laid program cells frames at low =
    let count : length (laid_from program [] frames) ≡ 0 + length frames = length-laid program [] frames in
    get_or-map (goal_of program cells) (laid_from program [] frames) at nothing_laid no_goal (omega (arith, count, low))

pub goal-found : (program : Program) (cells : store.Snapshot) (frames : List Frame) (at : ℕ) (laid : Laid) → at < length frames → laid_at program frames at ≡ laid → slice_get (goals_of program cells frames) at ≡ Some (goal_of program cells laid)
goal-found program cells frames at laid low is =
    let count : length (goals_of program cells frames) ≡ length frames = length-goals program cells frames in
    slice_get-get_or (goals_of program cells frames) at no_goal (omega (arith, count, low))
    ∙ ap Some (goal-laid program cells frames at low ∙ ap (goal_of program cells) is)

-- frames that come leave the goals before them
pub keeps-grown : (program : Program) (cells : store.Snapshot) (frames new more : List Frame) → new ≡ frames ++ more → Keeps (snapshot_of program cells frames) (snapshot_of program cells new)
keeps-grown program cells frames new more grown =
    let front : (others : List Laid) × (laid_from program (laid_from program [] frames) more ≡ laid_from program [] frames ++ others) = laid-front program (laid_from program [] frames) more in
    record {
      next_ = refl;
      more = map (goal_of program cells) front.0;
      goals_ =
          ap (goals_of program cells) grown
          ∙ (ap (map (goal_of program cells)) (laid-append program [] frames more ∙ front.1)
          ∙ map-append (goal_of program cells) (laid_from program [] frames) front.0);
    }

-- ---- literals of a goal

read-take : (cells : store.Snapshot) (n : ℕ) (ones : List Based) → map (read cells) (take n ones) ≡ take n (map (read cells) ones)
read-take cells zero ones = refl
read-take cells (suc n) [] = refl
read-take cells (suc n) (one ∷ ones) = ap (λ ls. read cells one ∷ ls) (read-take cells n ones)

read-drop : (cells : store.Snapshot) (n : ℕ) (ones : List Based) → map (read cells) (drop n ones) ≡ drop n (map (read cells) ones)
read-drop cells zero ones = refl
read-drop cells (suc n) [] = refl
read-drop cells (suc n) (one ∷ ones) = read-drop cells n ones

-- a goal with other literals in the place of one
pub goal-put : (program : Program) (cells : store.Snapshot) (place : ℕ) (new : List Based) (laid : Laid)
    → goal_of program cells (put_at place new laid) ≡ record { next = length cells.variables; literals = put_in_place (picked_at (goal_of program cells laid) place) (map (read cells) new); terms = answer_terms program cells laid.answers }
goal-put program cells place new laid =
    let literals_ : map (read cells) (take place laid.literals ++ (new ++ drop (place + 1) laid.literals)) ≡ put_in_place (picked_at (goal_of program cells laid) place) (map (read cells) new) =
    map-append (read cells) (take place laid.literals) (new ++ drop (place + 1) laid.literals)
    ∙ (ap (λ ls. ls ++ map (read cells) (new ++ drop (place + 1) laid.literals)) (read-take cells place laid.literals)
    ∙ ap (λ ls. take place (map (read cells) laid.literals) ++ ls)
    (map-append (read cells) new (drop (place + 1) laid.literals) ∙ ap (λ ls. map (read cells) new ++ ls) (read-drop cells (place + 1) laid.literals))) in
    ap (λ ls. let g : Goal = record { next = length cells.variables; literals = ls; terms = answer_terms program cells laid.answers } in g) literals_

-- ---- frames that come, and the rest as it was

module _ (program : Program) (cells : store.Shown) (frames : List Frame) (kept : List Kept) (is : IsGoals program cells frames kept) where
  pub grown : (new : List Frame) → Grows program (length cells.now.terms) frames new → IsGoals program cells new kept
  grown new grows = record {
    program_ = is.program_;
    frames_ = grows.fits;
    kept_ = subst (λ (fs : List Frame). AreKept program fs 0 0 cells.marks kept) (sym grows.front) (kept-grown program frames grows.more 0 0 cells.marks kept is.kept_);
  }

  pub grown-marks : (new : List Frame) (old : Shown) → ◌≡◌ {A = Shown} (shown program cells frames kept) old → Grows program (length cells.now.terms) frames new → snapshots_of program new cells.marks kept ≡ old.marks
  grown-marks new old view grows =
      ap (λ fs. snapshots_of program fs cells.marks kept) grows.front
      ∙ (snapshots-grown program frames grows.more 0 0 cells.marks kept is.kept_
      ∙ ap (λ (v : Shown). v.marks) view)

  pub grown-keeps : (new : List Frame) (old : Shown) → ◌≡◌ {A = Shown} (shown program cells frames kept) old → Grows program (length cells.now.terms) frames new → Keeps old.now (snapshot_of program cells.now new)
  grown-keeps new old view grows = subst (λ (v : Shown). Keeps v.now (snapshot_of program cells.now new)) view (keeps-grown program cells.now frames new grows.more grows.front)

  -- a literal of a goal that contracts see
  pub there : (old : Shown) (goal place : ℕ) → ◌≡◌ {A = Shown} (shown program cells frames kept) old → HasLiteral old.now goal place → (goal < length frames) × (place < length (laid_at program frames goal).literals)
  there old goal place view has =
      let low : goal < length (goals_of program cells.now frames) = subst (λ (v : Shown). goal < length v.now.goals) (sym view) has.goal in
      let count : length (goals_of program cells.now frames) ≡ length frames = length-goals program cells.now frames in
      let low_ : goal < length frames = omega (arith, low, count) in
      let inside : place < length (goal_at (snapshot_of program cells.now frames) goal).literals = subst (λ (v : Shown). place < length (goal_at v.now goal).literals) (sym view) has.literal in
      let same : length (goal_at (snapshot_of program cells.now frames) goal).literals ≡ length (map (read cells.now) (laid_at program frames goal).literals) = ap (λ (g : Goal). length g.literals) (goal-laid program cells.now frames goal low_) in
      let mapped : length (map (read cells.now) (laid_at program frames goal).literals) ≡ length (laid_at program frames goal).literals = length-map (laid_at program frames goal).literals (read cells.now) in
      (low_, omega (arith, inside, same, mapped))

  pub rest-found : (new : List Frame) (old : Shown) (goal place number : ℕ) → ◌≡◌ {A = Shown} (shown program cells frames kept) old → goal < length frames → Puts program (length cells.now.terms) frames new number (put_at place [] (laid_at program frames goal))
      → slice_get (goals_of program cells.now new) number ≡ Some (rest_goal (goal_at old.now goal) (picked_at (goal_at old.now goal) place))
  rest-found new old goal place number view low puts =
      let laid : Laid = laid_at program frames goal in
      let same : goal_of program cells.now laid ≡ goal_at old.now goal = sym (goal-laid program cells.now frames goal low) ∙ ap (λ (v : Shown). goal_at v.now goal) view in
      goal-found program cells.now new number (put_at place [] laid) puts.there puts.laid_
      ∙ ap Some (goal-put program cells.now place [] laid ∙ ap (λ (g : Goal). rest_goal g (picked_at g place)) same)

-- a goal that contracts see
pub seen-there : (program : Program) (cells : store.Shown) (frames : List Frame) (kept : List Kept) (old : Shown) (goal : ℕ) → ◌≡◌ {A = Shown} (shown program cells frames kept) old → goal < length old.now.goals → goal < length frames
seen-there program cells frames kept old goal view low =
    let here : goal < length (goals_of program cells.now frames) = subst (λ (v : Shown). goal < length v.now.goals) (sym view) low in
    let count : length (goals_of program cells.now frames) ≡ length frames = length-goals program cells.now frames in
    omega (arith, here, count)

pub goal-seen : (program : Program) (cells : store.Shown) (frames : List Frame) (kept : List Kept) (old : Shown) (goal : ℕ) → ◌≡◌ {A = Shown} (shown program cells frames kept) old → goal < length old.now.goals → goal_of program cells.now (laid_at program frames goal) ≡ goal_at old.now goal
goal-seen program cells frames kept old goal view low =
    sym (goal-laid program cells.now frames goal (seen-there program cells frames kept old goal view low)) ∙ ap (λ (v : Shown). goal_at v.now goal) view
