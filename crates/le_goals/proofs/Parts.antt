-- The literals of parts, and the frames that parts become.
use Rattle.std.proofs.Common.{◌≡◌, ℕ, ◌+◌, ◌-◌, ◌<◌, ◌≤◌, List, [], ◌∷◌, ◌++◌, length, map, get_or, take, drop, refl, sym, ap, subst, ◌∙◌, append_assoc, append-nil, length-append, arith}
use Rattle.std.specs.List.{AllByRecursion}
use Rattle.std.proofs.lemmas.List.{length-map, length-take-le, length-drop}
use Rattle.std.proofs.Math.Seq.{get_or-append_seam}
use Rattle.le_terms.specs.declared.program.Program.{Program}
use Rattle.le_goals.specs.declared.frames.Part.{Part}
use Rattle.le_goals.specs.declared.frames.Frame.{Frame}
use Rattle.le_goals.specs.declared.frames.Frame.TheVariants.{Before}
use Rattle.le_goals.specs.Frames.{Laid, nothing_laid, based, part_of, before, laid_after, laid_from, literals_in}
use Rattle.le_goals.specs.State.{IsPart, IsFrame, AreFrames}
use Rattle.le_goals.specs.Parting.{laid_at, before_all, literal_count, Grows, Puts}
use Rattle.le_goals.proofs.Laying.{laid-append, length-laid, get-laid, laid-at}
use Rattle.le_goals.proofs.Keeping.{frames-push, frame-at, frame-rest}

pub length-part : (program : Program) (cells : ℕ) (part : Part) → IsPart program cells part → length (part_of program part) ≡ part.to - part.from
length-part program cells part is =
    let dropped : length (drop part.from (literals_in program part.source)) ≡ length (literals_in program part.source) - part.from = length-drop part.from (literals_in program part.source) in
    let order : part.from ≤ part.to = is.order in
    let high : part.to ≤ length (literals_in program part.source) = is.within in
    length-map (take (part.to - part.from) (drop part.from (literals_in program part.source))) (based part)
    ∙ length-take-le (part.to - part.from) (drop part.from (literals_in program part.source)) (omega (arith, dropped, order, high))

-- an empty part
take-none : {X : Type 0} (n : ℕ) (xs : List X) → n ≡ 0 → take n xs ≡ []
take-none n xs none = ap (λ m. take m xs) none

pub empty-part : (program : Program) (part : Part) → part.from ≡ part.to → part_of program part ≡ []
empty-part program part same = let none : part.to - part.from ≡ 0 = omega (arith, same) in ap (map (based part)) (take-none (part.to - part.from) (drop part.from (literals_in program part.source)) none)

pub before-empty : (program : Program) (part : Part) (laid : Laid) → part.from ≡ part.to → before (part_of program part) laid ≡ laid
before-empty program part laid same = ap (λ ls. before ls laid) (empty-part program part same)

-- parts with one more after them
pub before_all-push : (program : Program) (parts : List Part) (last : Part) (laid : Laid) → before_all program (parts ++ last ∷ []) laid ≡ before_all program parts (before (part_of program last) laid)
before_all-push program [] last laid = refl
before_all-push program (part ∷ parts) last laid = ap (before (part_of program part)) (before_all-push program parts last laid)

pub count-push : (parts : List Part) (last : Part) → literal_count (parts ++ last ∷ []) ≡ literal_count parts + (last.to - last.from)
count-push [] last = omega arith
count-push (part ∷ parts) last = let rest : literal_count (parts ++ last ∷ []) ≡ literal_count parts + (last.to - last.from) = count-push parts last in omega (arith, rest)

pub all-push : {X : Type 0} (P : X → Type 0) (xs : List X) (last : X) → AllByRecursion P xs → P last → AllByRecursion P (xs ++ last ∷ [])
all-push P [] last h p = (p, tt)
all-push P (x ∷ xs) last h p = (h.0, all-push P xs last h.1 p)

pub all-pop : {X : Type 0} (P : X → Type 0) (xs : List X) (last : X) → AllByRecursion P (xs ++ last ∷ []) → AllByRecursion P xs × P last
all-pop P [] last h = (tt, h.0)
all-pop P (x ∷ xs) last h = let rest : AllByRecursion P xs × P last = all-pop P xs last h.1 in ((h.0, rest.0), rest.1)

-- what the goal of a frame is
pub frame-laid : (program : Program) (cells : ℕ) (frames : List Frame) (at : ℕ) (frame default : Frame) → AreFrames program cells 0 frames → at < length frames → frame ≡ get_or frames at default → laid_at program frames at ≡ laid_after program (laid_from program [] frames) frame
frame-laid program cells frames at frame default fits low is =
    let zero_ : 0 + at ≡ at = omega arith in
    let Q : ℕ → Type 0 = λ n. IsFrame program cells n (get_or frames at default) in
    laid-at program frames at default low (frame-rest program cells at (get_or frames at default) (subst Q zero_ (frame-at program cells 0 frames at default low fits)))
    ∙ ap (laid_after program (laid_from program [] frames)) (sym is)

pub frame-fits : (program : Program) (cells : ℕ) (frames : List Frame) (at : ℕ) (frame default : Frame) → AreFrames program cells 0 frames → at < length frames → frame ≡ get_or frames at default → IsFrame program cells at frame
frame-fits program cells frames at frame default fits low is =
    let zero_ : 0 + at ≡ at = omega arith in
    let Q : ℕ → Type 0 = λ n. IsFrame program cells n (get_or frames at default) in
    subst (IsFrame program cells at) (sym is) (subst Q zero_ (frame-at program cells 0 frames at default low fits))

-- ---- frames that come

pub grows-none : (program : Program) (cells : ℕ) (frames : List Frame) → AreFrames program cells 0 frames → Grows program cells frames frames
grows-none program cells frames fits = record { fits = fits; more = []; front = sym (append-nil frames) }

pub grows-then : (program : Program) (cells : ℕ) (old mid new : List Frame) → Grows program cells old mid → Grows program cells mid new → Grows program cells old new
grows-then program cells old mid new first second = record {
  fits = second.fits;
  more = first.more ++ second.more;
  front = second.front ∙ (ap (λ fs. fs ++ second.more) first.front ∙ append_assoc old first.more second.more);
}

-- earlier goals are the same
pub laid-grown : (program : Program) (cells : ℕ) (old new : List Frame) → Grows program cells old new → (at : ℕ) → at < length old → laid_at program new at ≡ laid_at program old at
laid-grown program cells old new grows at low =
    let count : length (laid_from program [] old) ≡ 0 + length old = length-laid program [] old in
    ap (λ fs. laid_at program fs at) grows.front
    ∙ (ap (λ ls. get_or ls at nothing_laid) (laid-append program [] old grows.more)
    ∙ get-laid program (laid_from program [] old) grows.more at (omega (arith, count, low)))

pub length-grown : (program : Program) (cells : ℕ) (old new : List Frame) → Grows program cells old new → length old ≤ length new
length-grown program cells old new grows = let count : length (old ++ grows.more) ≡ length old + length grows.more = length-append old grows.more in let same : length new ≡ length (old ++ grows.more) = ap length grows.front in omega (arith, count, same)

-- a frame more
pub grows-push : (program : Program) (cells : ℕ) (frames new : List Frame) (part : Part) (rest : ℕ) → AreFrames program cells 0 frames → IsPart program cells part → rest < length frames → new ≡ frames ++ Before part rest ∷ [] → Grows program cells frames new
grows-push program cells frames new part rest fits is low pushed =
    let zero_ : length frames ≡ 0 + length frames = omega arith in
    let less : rest < 0 + length frames = omega (arith, low) in
    record {
      fits = subst (AreFrames program cells 0) (sym pushed) (frames-push program cells 0 frames (Before part rest) fits (is, less));
      more = Before part rest ∷ [];
      front = pushed;
    }

pub puts-push : (program : Program) (cells : ℕ) (frames new : List Frame) (part : Part) (rest number : ℕ) → AreFrames program cells 0 frames → new ≡ frames ++ Before part rest ∷ [] → number ≡ length frames
    → Puts program cells frames new number (before (part_of program part) (laid_at program frames rest))
puts-push program cells frames new part rest number fits pushed counted =
    let laid : List Laid = laid_from program [] frames in
    let last : Laid = before (part_of program part) (laid_at program frames rest) in
    let count : length laid ≡ 0 + length frames = length-laid program [] frames in
    let number_ : number ≡ length laid = omega (arith, count, counted) in
    let grown : length (frames ++ Before part rest ∷ []) ≡ length frames + 1 = length-append frames (Before part rest ∷ []) in
    let grown_ : length new ≡ length frames + 1 = ap length pushed ∙ grown in
    record {
      there = omega (arith, grown_, counted);
      laid_ =
          ap (λ fs. laid_at program fs number) pushed
          ∙ (ap (λ ls. get_or ls number nothing_laid) (laid-append program [] frames (Before part rest ∷ []))
          ∙ (ap (λ n. get_or (laid ++ last ∷ []) n nothing_laid) number_
          ∙ get_or-append_seam laid last [] nothing_laid));
    }
