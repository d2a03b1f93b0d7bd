-- Frames and marks as they come and go.
use Rattle.std.proofs.Common.{◌≡◌, ℕ, zero, suc, ◌+◌, ◌<◌, ◌≤◌, List, [], ◌∷◌, ◌++◌, length, get_or, slice_get, take, Some, refl, sym, ap, subst, ◌∙◌, arith}
use Rattle.std.proofs.lemmas.List.{length-take-le}
use Rattle.std.proofs.Math.Seq.{take-length}
use Rattle.std.proofs.lemmas.Option.{get_or_from_slice_get, slice_get_within}
use Rattle.le_terms.specs.declared.program.Program.{Program}
use Rattle.le_store.specs.Shown as store
use Rattle.le_goals.specs.declared.frames.Answers.{Answers}
use Rattle.le_goals.specs.declared.frames.Answers.TheVariants.{Asked, Nothing, Value}
use Rattle.le_goals.specs.declared.frames.Frame.{Frame}
use Rattle.le_goals.specs.declared.frames.Frame.TheVariants.{Empty, Before}
use Rattle.le_goals.specs.declared.frames.Kept.{Kept}
use Rattle.le_goals.specs.State.{snapshot_of, snapshots_of, vars_in, AreAnswers, IsFrame, AreFrames, AreKept}
use Rattle.le_goals.proofs.Laying.{RestBelow}

-- ---- frames

answers-more : (program : Program) (few more : ℕ) → few ≤ more → (answers : Answers) → AreAnswers program few answers → AreAnswers program more answers
answers-more program few more less Asked fits = omega (arith, less, fits)
answers-more program few more less Nothing fits = tt
answers-more program few more less (Value source base at) fits = omega (arith, less, fits)

frame-more : (program : Program) (few more at : ℕ) → few ≤ more → (frame : Frame) → IsFrame program few at frame → IsFrame program more at frame
frame-more program few more at less (Empty answers) fits = answers-more program few more less answers fits
frame-more program few more at less (Before part rest) fits =
    let cells : part.base + vars_in program part.source ≤ few = fits.0.cells_ in
    (record { cells_ = omega (arith, less, cells); order = fits.0.order; within = fits.0.within }, fits.1)

pub frames-more : (program : Program) (few more at : ℕ) → few ≤ more → (frames : List Frame) → AreFrames program few at frames → AreFrames program more at frames
frames-more program few more at less [] fits = tt
frames-more program few more at less (frame ∷ frames) fits = (frame-more program few more at less frame fits.0, frames-more program few more (suc at) less frames fits.1)

pub frames-push : (program : Program) (cells at : ℕ) (frames : List Frame) (frame : Frame) → AreFrames program cells at frames → IsFrame program cells (at + length frames) frame → AreFrames program cells at (frames ++ frame ∷ [])
frames-push program cells at [] frame fits last =
    let same : at + 0 ≡ at = omega arith in
    let P : ℕ → Type 0 = λ n. IsFrame program cells n frame in
    (subst P same last, tt)
frames-push program cells at (one ∷ frames) frame fits last =
    let same : at + suc (length frames) ≡ suc at + length frames = omega arith in
    let P : ℕ → Type 0 = λ n. IsFrame program cells n frame in
    (fits.0, frames-push program cells (suc at) frames frame fits.1 (subst P same last))

pub frame-at : (program : Program) (cells at : ℕ) (frames : List Frame) (k : ℕ) (default : Frame) → k < length frames → AreFrames program cells at frames → IsFrame program cells (at + k) (get_or frames k default)
frame-at program cells at [] k default low fits = absurd (omega (arith, low))
frame-at program cells at (frame ∷ frames) zero default low fits =
    let same : at ≡ at + 0 = omega arith in
    let P : ℕ → Type 0 = λ n. IsFrame program cells n frame in
    subst P same fits.0
frame-at program cells at (frame ∷ frames) (suc k) default low fits =
    let same : suc at + k ≡ at + suc k = omega arith in
    let P : ℕ → Type 0 = λ n. IsFrame program cells n (get_or frames k default) in
    subst P same (frame-at program cells (suc at) frames k default (omega (arith, low)) fits.1)

pub frame-rest : (program : Program) (cells at : ℕ) (frame : Frame) → IsFrame program cells at frame → RestBelow at frame
frame-rest program cells at (Empty answers) fits = tt
frame-rest program cells at (Before part rest) fits = fits.1

-- ---- marks

take-take : {X : Type 0} (few more : ℕ) (xs : List X) → few ≤ more → take few (take more xs) ≡ take few xs
take-take zero more xs less = refl
take-take (suc few) zero xs less = absurd (omega (arith, less))
take-take (suc few) (suc more) [] less = refl
take-take (suc few) (suc more) (x ∷ xs) less = ap (λ ys. x ∷ ys) (take-take few more xs (omega (arith, less)))

-- each mark has at least as many frames as an earlier one, and no more than there are
pub kept-low : (program : Program) (frames : List Frame) (at low : ℕ) (marks : List store.Snapshot) (kept : List Kept) → AreKept program frames at low marks kept → low ≤ length frames
kept-low program frames at low [] [] h = h
kept-low program frames at low [] (one ∷ kept) h = absurd h
kept-low program frames at low (cells ∷ marks) [] h = absurd h
kept-low program frames at low (cells ∷ marks) (one ∷ kept) h =
    let rest : one.frames ≤ length frames = kept-low program frames (suc at) one.frames marks kept h.3 in
    let first : low ≤ one.frames = h.1 in
    omega (arith, first, rest)

-- a mark more
pub kept-push : (program : Program) (frames : List Frame) (at low : ℕ) (marks : List store.Snapshot) (kept : List Kept) (cells : store.Snapshot) (last : Kept)
    → AreKept program frames at low marks kept → AreFrames program (length cells.terms) 0 frames → last.mark ≡ at + length marks → last.frames ≡ length frames
    → AreKept program frames at low (marks ++ cells ∷ []) (kept ++ last ∷ [])
kept-push program frames at low [] [] cells last h fits number count =
    let same : take last.frames frames ≡ frames = ap (λ n. take n frames) count ∙ take-length frames in
    let number_ : last.mark ≡ at = omega (arith, number) in
    let low_ : low ≤ last.frames = omega (arith, h, count) in
    let high : last.frames ≤ length frames = omega (arith, count) in
    (number_, low_, subst (AreFrames program (length cells.terms) 0) (sym same) fits, high)
kept-push program frames at low [] (one ∷ kept) cells last h fits number count = absurd h
kept-push program frames at low (other ∷ marks) [] cells last h fits number count = absurd h
kept-push program frames at low (other ∷ marks) (one ∷ kept) cells last h fits number count =
    let number_ : last.mark ≡ suc at + length marks = omega (arith, number) in
    (h.0, h.1, h.2, kept-push program frames (suc at) one.frames marks kept cells last h.3 fits number_ count)

pub snapshots-push : (program : Program) (frames : List Frame) (at low : ℕ) (marks : List store.Snapshot) (kept : List Kept) (cells : store.Snapshot) (last : Kept)
    → AreKept program frames at low marks kept → last.frames ≡ length frames
    → snapshots_of program frames (marks ++ cells ∷ []) (kept ++ last ∷ []) ≡ snapshots_of program frames marks kept ++ snapshot_of program cells frames ∷ []
snapshots-push program frames at low [] [] cells last h count = ap (λ fs. snapshot_of program cells fs ∷ []) (ap (λ n. take n frames) count ∙ take-length frames)
snapshots-push program frames at low [] (one ∷ kept) cells last h count = absurd h
snapshots-push program frames at low (other ∷ marks) [] cells last h count = absurd h
snapshots-push program frames at low (other ∷ marks) (one ∷ kept) cells last h count =
    ap (λ ss. snapshot_of program other (take one.frames frames) ∷ ss) (snapshots-push program frames (suc at) one.frames marks kept cells last h.3 count)

pub length-kept : (program : Program) (frames : List Frame) (at low : ℕ) (marks : List store.Snapshot) (kept : List Kept) → AreKept program frames at low marks kept → length kept ≡ length marks
length-kept program frames at low [] [] h = refl
length-kept program frames at low [] (one ∷ kept) h = absurd h
length-kept program frames at low (cells ∷ marks) [] h = absurd h
length-kept program frames at low (cells ∷ marks) (one ∷ kept) h = ap suc (length-kept program frames (suc at) one.frames marks kept h.3)

pub length-snapshots : (program : Program) (frames : List Frame) (at low : ℕ) (marks : List store.Snapshot) (kept : List Kept) → AreKept program frames at low marks kept → length (snapshots_of program frames marks kept) ≡ length marks
length-snapshots program frames at low [] [] h = refl
length-snapshots program frames at low [] (one ∷ kept) h = absurd h
length-snapshots program frames at low (cells ∷ marks) [] h = absurd h
length-snapshots program frames at low (cells ∷ marks) (one ∷ kept) h = ap suc (length-snapshots program frames (suc at) one.frames marks kept h.3)

-- ---- going back to a mark

-- a mark's frames are no more than there are
pub kept-at : (program : Program) (frames : List Frame) (at low : ℕ) (marks : List store.Snapshot) (kept : List Kept) (k : ℕ) (default : Kept) → AreKept program frames at low marks kept → k < length kept
    → ((get_or kept k default).mark ≡ at + k) × (low ≤ (get_or kept k default).frames) × ((get_or kept k default).frames ≤ length frames)
kept-at program frames at low marks [] k default h less = absurd (omega (arith, less))
kept-at program frames at low [] (one ∷ kept) k default h less = absurd h
kept-at program frames at low (cells ∷ marks) (one ∷ kept) zero default h less = let number : one.mark ≡ at = h.0 in (omega (arith, number), h.1, kept-low program frames (suc at) one.frames marks kept h.3)
kept-at program frames at low (cells ∷ marks) (one ∷ kept) (suc k) default h less =
    let rest : ((get_or kept k default).mark ≡ suc at + k) × (one.frames ≤ (get_or kept k default).frames) × ((get_or kept k default).frames ≤ length frames) = kept-at program frames (suc at) one.frames marks kept k default h.3 (omega (arith, less)) in
    let number : (get_or kept k default).mark ≡ suc at + k = rest.0 in
    let first : low ≤ one.frames = h.1 in
    let then : one.frames ≤ (get_or kept k default).frames = rest.1 in
    (omega (arith, number), omega (arith, first, then), rest.2)

-- the frames and marks that are left
pub kept-back : (program : Program) (frames : List Frame) (at low : ℕ) (marks : List store.Snapshot) (kept : List Kept) (k : ℕ) (default : Kept) → AreKept program frames at low marks kept → k < length kept
    → AreKept program (take (get_or kept k default).frames frames) at low (take (suc k) marks) (take (suc k) kept)
kept-back program frames at low marks [] k default h less = absurd (omega (arith, less))
kept-back program frames at low [] (one ∷ kept) k default h less = absurd h
kept-back program frames at low (cells ∷ marks) (one ∷ kept) zero default h less =
    let high : one.frames ≤ length frames = kept-low program frames (suc at) one.frames marks kept h.3 in
    let count : length (take one.frames frames) ≡ one.frames = length-take-le one.frames frames high in
    let left : one.frames ≤ length (take one.frames frames) = omega (arith, count) in
    (h.0, h.1, subst (AreFrames program (length cells.terms) 0) (sym (take-take one.frames one.frames frames (omega arith))) h.2, left)
kept-back program frames at low (cells ∷ marks) (one ∷ kept) (suc k) default h less =
    let low_ : k < length kept = omega (arith, less) in
    let here : ((get_or kept k default).mark ≡ suc at + k) × (one.frames ≤ (get_or kept k default).frames) × ((get_or kept k default).frames ≤ length frames) = kept-at program frames (suc at) one.frames marks kept k default h.3 low_ in
    (h.0, h.1, subst (AreFrames program (length cells.terms) 0) (sym (take-take one.frames (get_or kept k default).frames frames here.1)) h.2, kept-back program frames (suc at) one.frames marks kept k default h.3 low_)

pub snapshots-back : (program : Program) (frames : List Frame) (at low : ℕ) (marks : List store.Snapshot) (kept : List Kept) (k : ℕ) (default : Kept) → AreKept program frames at low marks kept → k < length kept
    → snapshots_of program (take (get_or kept k default).frames frames) (take (suc k) marks) (take (suc k) kept) ≡ take (suc k) (snapshots_of program frames marks kept)
snapshots-back program frames at low marks [] k default h less = absurd (omega (arith, less))
snapshots-back program frames at low [] (one ∷ kept) k default h less = absurd h
snapshots-back program frames at low (cells ∷ marks) (one ∷ kept) zero default h less =
    ap (λ fs. snapshot_of program cells fs ∷ []) (take-take one.frames one.frames frames (omega arith))
snapshots-back program frames at low (cells ∷ marks) (one ∷ kept) (suc k) default h less =
    let low_ : k < length kept = omega (arith, less) in
    let here : ((get_or kept k default).mark ≡ suc at + k) × (one.frames ≤ (get_or kept k default).frames) × ((get_or kept k default).frames ≤ length frames) = kept-at program frames (suc at) one.frames marks kept k default h.3 low_ in
    ap (λ fs. snapshot_of program cells fs ∷ snapshots_of program (take (get_or kept k default).frames frames) (take (suc k) marks) (take (suc k) kept)) (take-take one.frames (get_or kept k default).frames frames here.1)
    ∙ ap (λ ss. snapshot_of program cells (take one.frames frames) ∷ ss) (snapshots-back program frames (suc at) one.frames marks kept k default h.3 low_)

-- the goals at a mark, and the frames that they fit
pub snapshot-at : (program : Program) (frames : List Frame) (at low : ℕ) (marks : List store.Snapshot) (kept : List Kept) (k : ℕ) (default : Kept) (cells : store.Snapshot) → AreKept program frames at low marks kept → slice_get marks k ≡ Some cells
    → (slice_get (snapshots_of program frames marks kept) k ≡ Some (snapshot_of program cells (take (get_or kept k default).frames frames))) × AreFrames program (length cells.terms) 0 (take (get_or kept k default).frames frames)
snapshot-at program frames at low [] kept k default cells h found = let within : k < 0 = slice_get_within [] k cells found in absurd (omega (arith, within))
snapshot-at program frames at low (other ∷ marks) [] k default cells h found = absurd h
snapshot-at program frames at low (other ∷ marks) (one ∷ kept) zero default cells h found =
    let same : other ≡ cells = get_or_from_slice_get (other ∷ marks) 0 cells cells found in
    (ap (λ c. Some (snapshot_of program c (take one.frames frames))) same, subst (λ c. AreFrames program (length c.terms) 0 (take one.frames frames)) same h.2)
snapshot-at program frames at low (other ∷ marks) (one ∷ kept) (suc k) default cells h found = snapshot-at program frames (suc at) one.frames marks kept k default cells h.3 found
