-- A mark that is set, and going back to one.
use Rattle.std.proofs.Common.{◌≡◌, ℕ, suc, ◌+◌, ◌<◌, ◌≤◌, List, [], ◌∷◌, ◌++◌, length, get_or, slice_get, take, Some, sym, ap, subst, ◌∙◌, arith}
use Rattle.std.proofs.lemmas.Option.{get_or_from_slice_get, slice_get_within}
use Rattle.le_terms.specs.declared.program.Program.{Program}
use Rattle.le_store.specs.Shown as store
use Rattle.le_goals.specs.declared.frames.Frame.{Frame}
use Rattle.le_goals.specs.declared.frames.Kept.{Kept}
use Rattle.le_goals.specs.Shown.{Shown}
use Rattle.le_goals.specs.State.{snapshot_of, snapshots_of, shown, AreFrames, AreKept, IsGoals}
use Rattle.le_goals.proofs.Keeping.{kept-push, snapshots-push, length-kept, length-snapshots, kept-at, kept-back, snapshots-back, snapshot-at}

module _ (program : Program) (cells : store.Shown) (frames : List Frame) (kept : List Kept) (is : IsGoals program cells frames kept) where
  -- other cells that are the same
  pub same-cells : (other : store.Shown) → other.now ≡ cells.now → other.marks ≡ cells.marks → IsGoals program other frames kept
  same-cells other now marks = record {
    program_ = is.program_;
    frames_ = subst (λ (s : store.Snapshot). AreFrames program (length s.terms) 0 frames) (sym now) is.frames_;
    kept_ = subst (λ (ms : List store.Snapshot). AreKept program frames 0 0 ms kept) (sym marks) is.kept_;
  }

  pub same-view : (other : store.Shown) → other.now ≡ cells.now → other.marks ≡ cells.marks → ◌≡◌ {A = Shown} (shown program other frames kept) (shown program cells frames kept)
  same-view other now marks =
      ap (λ (s : store.Snapshot). let v : Shown = record { program = program; now = snapshot_of program s frames; marks = snapshots_of program frames other.marks kept } in v) now
      ∙ ap (λ (ms : List store.Snapshot). let v : Shown = record { program = program; now = snapshot_of program cells.now frames; marks = snapshots_of program frames ms kept } in v) marks

  -- ---- a mark that is set
  pub marked : (new_cells : store.Shown) (new : List Kept) (mark count : ℕ) → new_cells.now ≡ cells.now → new_cells.marks ≡ cells.marks ++ cells.now ∷ [] → mark ≡ length cells.marks → count ≡ length frames
      → new ≡ kept ++ record { mark = mark; frames = count } ∷ [] → IsGoals program new_cells frames new
  marked new_cells new mark count now marks number counted grown = let number_ : mark ≡ 0 + length cells.marks = omega (arith, number) in record {
    program_ = is.program_;
    frames_ = subst (λ (s : store.Snapshot). AreFrames program (length s.terms) 0 frames) (sym now) is.frames_;
    kept_ =
        subst (λ (ms : List store.Snapshot). AreKept program frames 0 0 ms new) (sym marks)
        (subst (λ (ks : List Kept). AreKept program frames 0 0 (cells.marks ++ cells.now ∷ []) ks) (sym grown)
        (kept-push program frames 0 0 cells.marks kept cells.now (record { mark = mark; frames = count }) is.kept_ is.frames_ number_ counted));
  }

  pub marked-marks : (new_cells : store.Shown) (new : List Kept) (mark count : ℕ) (old : Shown) → ◌≡◌ {A = Shown} (shown program cells frames kept) old → new_cells.marks ≡ cells.marks ++ cells.now ∷ [] → count ≡ length frames
      → new ≡ kept ++ record { mark = mark; frames = count } ∷ [] → snapshots_of program frames new_cells.marks new ≡ old.marks ++ old.now ∷ []
  marked-marks new_cells new mark count old view marks counted grown =
      ap (λ ms. snapshots_of program frames ms new) marks
      ∙ (ap (snapshots_of program frames (cells.marks ++ cells.now ∷ [])) grown
      ∙ (snapshots-push program frames 0 0 cells.marks kept cells.now (record { mark = mark; frames = count }) is.kept_ counted
      ∙ ap (λ (v : Shown). v.marks ++ v.now ∷ []) view))

  pub count-marks : (old : Shown) → ◌≡◌ {A = Shown} (shown program cells frames kept) old → length kept ≡ length old.marks
  count-marks old view =
      length-kept program frames 0 0 cells.marks kept is.kept_ ∙ (sym (length-snapshots program frames 0 0 cells.marks kept is.kept_) ∙ ap (λ (v : Shown). length v.marks) view)

  -- ---- going back to a mark
  module _ (mark : ℕ) (one : Kept) (found : slice_get kept mark ≡ Some one) where
    within : mark < length kept
    within = slice_get_within kept mark one found

    is-one : get_or kept mark one ≡ one
    is-one = get_or_from_slice_get kept mark one one found

    pub back-mark : (one.mark ≡ mark) × (one.frames ≤ length frames)
    back-mark =
        let at : ((get_or kept mark one).mark ≡ 0 + mark) × (0 ≤ (get_or kept mark one).frames) × ((get_or kept mark one).frames ≤ length frames) = kept-at program frames 0 0 cells.marks kept mark one is.kept_ within in
        let found_ : (get_or kept mark one).mark ≡ 0 + mark = at.0 in
        let number : (get_or kept mark one).mark ≡ mark = omega (arith, found_) in
        (ap (λ (k : Kept). k.mark) (sym is-one) ∙ number, subst (λ (k : Kept). k.frames ≤ length frames) is-one at.2)

    pub back-there : one.mark < length cells.marks
    back-there =
        let count : length kept ≡ length cells.marks = length-kept program frames 0 0 cells.marks kept is.kept_ in
        let number : one.mark ≡ mark = back-mark.0 in
        let less : mark < length kept = within in
        omega (arith, count, number, less)

    at-mark : (now : store.Snapshot) → slice_get cells.marks one.mark ≡ Some now
        → (slice_get (snapshots_of program frames cells.marks kept) mark ≡ Some (snapshot_of program now (take one.frames frames))) × AreFrames program (length now.terms) 0 (take one.frames frames)
    at-mark now there =
        let both : (slice_get (snapshots_of program frames cells.marks kept) mark ≡ Some (snapshot_of program now (take (get_or kept mark one).frames frames))) × AreFrames program (length now.terms) 0 (take (get_or kept mark one).frames frames) =
        snapshot-at program frames 0 0 cells.marks kept mark one now is.kept_ (ap (slice_get cells.marks) (sym back-mark.0) ∙ there) in
        (both.0 ∙ ap (λ (k : Kept). Some (snapshot_of program now (take k.frames frames))) is-one, subst (λ (k : Kept). AreFrames program (length now.terms) 0 (take k.frames frames)) is-one both.1)

    pub back : (new_cells : store.Shown) (new_frames : List Frame) (new : List Kept) → slice_get cells.marks one.mark ≡ Some new_cells.now → new_cells.marks ≡ take (one.mark + 1) cells.marks
        → new_frames ≡ take one.frames frames → new ≡ take (mark + 1) kept → IsGoals program new_cells new_frames new
    back new_cells new_frames new there marks cut cut_kept =
        let next : mark + 1 ≡ suc mark = omega arith in
        let marks_ : new_cells.marks ≡ take (suc mark) cells.marks = marks ∙ (ap (λ n. take (n + 1) cells.marks) back-mark.0 ∙ ap (λ n. take n cells.marks) next) in
        let kept_ : new ≡ take (suc mark) kept = cut_kept ∙ ap (λ n. take n kept) next in
        record {
          program_ = is.program_;
          frames_ = subst (λ (fs : List Frame). AreFrames program (length new_cells.now.terms) 0 fs) (sym cut) (at-mark new_cells.now there).1;
          kept_ =
              subst (λ (fs : List Frame). AreKept program fs 0 0 new_cells.marks new) (sym cut)
              (subst (λ (ms : List store.Snapshot). AreKept program (take one.frames frames) 0 0 ms new) (sym marks_)
              (subst (λ (ks : List Kept). AreKept program (take one.frames frames) 0 0 (take (suc mark) cells.marks) ks) (sym kept_)
              (subst (λ (k : Kept). AreKept program (take k.frames frames) 0 0 (take (suc mark) cells.marks) (take (suc mark) kept)) is-one (kept-back program frames 0 0 cells.marks kept mark one is.kept_ within))));
        }

    pub back-now : (now : store.Snapshot) (new_frames : List Frame) (old : Shown) → ◌≡◌ {A = Shown} (shown program cells frames kept) old → slice_get cells.marks one.mark ≡ Some now → new_frames ≡ take one.frames frames
        → slice_get old.marks mark ≡ Some (snapshot_of program now new_frames)
    back-now now new_frames old view there cut =
        ap (λ (v : Shown). slice_get v.marks mark) (sym view) ∙ ((at-mark now there).0 ∙ ap (λ fs. Some (snapshot_of program now fs)) (sym cut))

    pub back-marks : (new_cells : store.Shown) (new_frames : List Frame) (new : List Kept) (old : Shown) → ◌≡◌ {A = Shown} (shown program cells frames kept) old → new_cells.marks ≡ take (one.mark + 1) cells.marks
        → new_frames ≡ take one.frames frames → new ≡ take (mark + 1) kept → snapshots_of program new_frames new_cells.marks new ≡ take (mark + 1) old.marks
    back-marks new_cells new_frames new old view marks cut cut_kept =
        let next : mark + 1 ≡ suc mark = omega arith in
        let marks_ : new_cells.marks ≡ take (suc mark) cells.marks = marks ∙ (ap (λ n. take (n + 1) cells.marks) back-mark.0 ∙ ap (λ n. take n cells.marks) next) in
        let kept_ : new ≡ take (suc mark) kept = cut_kept ∙ ap (λ n. take n kept) next in
        ap (λ fs. snapshots_of program fs new_cells.marks new) cut
        ∙ (ap (λ ms. snapshots_of program (take one.frames frames) ms new) marks_
        ∙ (ap (snapshots_of program (take one.frames frames) (take (suc mark) cells.marks)) kept_
        ∙ (ap (λ (k : Kept). snapshots_of program (take k.frames frames) (take (suc mark) cells.marks) (take (suc mark) kept)) (sym is-one)
        ∙ (snapshots-back program frames 0 0 cells.marks kept mark one is.kept_ within
        ∙ (ap (λ n. take n (snapshots_of program frames cells.marks kept)) (sym next)
        ∙ ap (λ (v : Shown). take (mark + 1) v.marks) view)))))
