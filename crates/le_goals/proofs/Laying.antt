-- What frames are, as more of them come.
use Rattle.std.proofs.Common.{◌≡◌, ℕ, zero, suc, ◌+◌, ◌<◌, List, [], ◌∷◌, ◌++◌, length, map, get_or, refl, sym, ap, subst, ◌∙◌, append_assoc, append-nil, length-append, arith}
use Rattle.std.proofs.lemmas.List.{get_or_append_left, map-append}
use Rattle.std.proofs.Math.Seq.{get_or-append_seam}
use Rattle.le_terms.specs.declared.program.Program.{Program}
use Rattle.le_store.specs.Shown as store
use Rattle.le_goals.specs.declared.frames.Frame.{Frame}
use Rattle.le_goals.specs.declared.frames.Frame.TheVariants.{Empty, Before}
use Rattle.le_goals.specs.Frames.{Laid, laid_after, laid_from, nothing_laid, before, part_of, goal_of, goals_of}

-- a frame refers to frames before this number
abbrev pub RestBelow : ℕ → Frame → Type 0
RestBelow at (Empty answers) = Unit {0}
RestBelow at (Before part rest) = rest < at

module _ (program : Program) where
  pub laid-append : (laid : List Laid) (frames others : List Frame) → laid_from program laid (frames ++ others) ≡ laid_from program (laid_from program laid frames) others
  laid-append laid [] others = refl
  laid-append laid (frame ∷ frames) others = laid-append (laid ++ laid_after program laid frame ∷ []) frames others

  pub length-laid : (laid : List Laid) (frames : List Frame) → length (laid_from program laid frames) ≡ length laid + length frames
  length-laid laid [] = omega arith
  length-laid laid (frame ∷ frames) =
      let one : length (laid ++ laid_after program laid frame ∷ []) ≡ length laid + 1 = length-append laid (laid_after program laid frame ∷ []) in
      let more : length (laid_from program (laid ++ laid_after program laid frame ∷ []) frames) ≡ length (laid ++ laid_after program laid frame ∷ []) + length frames = length-laid (laid ++ laid_after program laid frame ∷ []) frames in
      omega (arith, one, more)

  -- what was laid stands in front
  pub laid-front : (laid : List Laid) (frames : List Frame) → (more : List Laid) × (laid_from program laid frames ≡ laid ++ more)
  laid-front laid [] = ([], sym (append-nil laid))
  laid-front laid (frame ∷ frames) =
      let x : Laid = laid_after program laid frame in
      let rest : (more : List Laid) × (laid_from program (laid ++ x ∷ []) frames ≡ (laid ++ x ∷ []) ++ more) = laid-front (laid ++ x ∷ []) frames in
      (x ∷ rest.0, rest.1 ∙ append_assoc laid (x ∷ []) rest.0)

  pub get-laid : (laid : List Laid) (frames : List Frame) (k : ℕ) → k < length laid → get_or (laid_from program laid frames) k nothing_laid ≡ get_or laid k nothing_laid
  get-laid laid frames k within =
      let front : (more : List Laid) × (laid_from program laid frames ≡ laid ++ more) = laid-front laid frames in
      ap (λ ls. get_or ls k nothing_laid) front.1 ∙ get_or_append_left laid front.0 nothing_laid k within

  -- a frame is the same where more frames come
  pub after-more : (laid : List Laid) (frames : List Frame) (frame : Frame) → RestBelow (length laid) frame → laid_after program (laid_from program laid frames) frame ≡ laid_after program laid frame
  after-more laid frames (Empty answers) below = refl
  after-more laid frames (Before part rest) below = ap (before (part_of program part)) (get-laid laid frames rest below)

  laid-at-from : (laid : List Laid) (frames : List Frame) (k : ℕ) (default : Frame) → k < length frames → RestBelow (length laid + k) (get_or frames k default)
      → get_or (laid_from program laid frames) (length laid + k) nothing_laid ≡ laid_after program (laid_from program laid frames) (get_or frames k default)
  laid-at-from laid [] k default within below = absurd (omega (arith, within))
  laid-at-from laid (frame ∷ frames) zero default within below =
      let x : Laid = laid_after program laid frame in
      let at : length laid + 0 ≡ length laid = omega arith in
      let inside : length laid < length (laid ++ x ∷ []) = let count : length (laid ++ x ∷ []) ≡ length laid + 1 = length-append laid (x ∷ []) in omega (arith, count) in
      let front : (more : List Laid) × (laid_from program (laid ++ x ∷ []) frames ≡ (laid ++ x ∷ []) ++ more) = laid-front (laid ++ x ∷ []) frames in
      let P : ℕ → Type 0 = λ n. RestBelow n frame in
      let low : RestBelow (length laid) frame = subst P at below in
      ap (λ n. get_or (laid_from program (laid ++ x ∷ []) frames) n nothing_laid) at
      ∙ (get-laid (laid ++ x ∷ []) frames (length laid) inside
      ∙ (get_or-append_seam laid x [] nothing_laid
      ∙ sym (after-more laid (frame ∷ frames) frame low)))
  laid-at-from laid (frame ∷ frames) (suc k) default within below =
      let x : Laid = laid_after program laid frame in
      let count : length (laid ++ x ∷ []) ≡ length laid + 1 = length-append laid (x ∷ []) in
      let at : length (laid ++ x ∷ []) + k ≡ length laid + suc k = omega (arith, count) in
      let P : ℕ → Type 0 = λ n. RestBelow n (get_or frames k default) in
      let Q : ℕ → Type 0 = λ n. get_or (laid_from program (laid ++ x ∷ []) frames) n nothing_laid ≡ laid_after program (laid_from program (laid ++ x ∷ []) frames) (get_or frames k default) in
      subst Q at (laid-at-from (laid ++ x ∷ []) frames k default (omega (arith, within)) (subst P (sym at) below))

  -- the goal of a frame
  pub laid-at : (frames : List Frame) (k : ℕ) (default : Frame) → k < length frames → RestBelow k (get_or frames k default)
      → get_or (laid_from program [] frames) k nothing_laid ≡ laid_after program (laid_from program [] frames) (get_or frames k default)
  laid-at frames k default within below =
      let at : 0 + k ≡ k = omega arith in
      let P : ℕ → Type 0 = λ n. RestBelow n (get_or frames k default) in
      let Q : ℕ → Type 0 = λ n. get_or (laid_from program [] frames) n nothing_laid ≡ laid_after program (laid_from program [] frames) (get_or frames k default) in
      subst Q at (laid-at-from [] frames k default within (subst P (sym at) below))

  -- one frame more
  pub goals-push : (cells : store.Snapshot) (frames : List Frame) (frame : Frame)
      → goals_of program cells (frames ++ frame ∷ []) ≡ goals_of program cells frames ++ goal_of program cells (laid_after program (laid_from program [] frames) frame) ∷ []
  goals-push cells frames frame =
      ap (map (goal_of program cells)) (laid-append [] frames (frame ∷ []))
      ∙ map-append (goal_of program cells) (laid_from program [] frames) (laid_after program (laid_from program [] frames) frame ∷ [])
