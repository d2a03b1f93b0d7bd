-- Parts that are put before goals, one after another.
use Rattle.std.proofs.Common.{◌≡◌, ℕ, zero, suc, ◌+◌, ◌-◌, ◌<◌, ◌≤◌, List, [], ◌∷◌, ◌++◌, length, map, take, drop, refl, sym, ap, subst, ◌∙◌, append_assoc, length-append, arith}
use Rattle.std.specs.List.{AllByRecursion}
use Rattle.std.proofs.lemmas.List.{drop-append-le, take-append-le}
use Rattle.std.proofs.Math.Seq.{drop-append-add, take-append-add}
use Rattle.le_terms.specs.declared.program.Program.{Program}
use Rattle.le_goals.specs.declared.frames.Part.{Part}
use Rattle.le_goals.specs.declared.frames.Spot.{Spot}
use Rattle.le_goals.specs.declared.frames.Frame.{Frame}
use Rattle.le_goals.specs.Frames.{Based, Laid, nothing_laid, based, literals_in, part_of, before}
use Rattle.le_goals.specs.State.{IsPart, AreFrames}
use Rattle.le_goals.specs.Parting.{laid_at, before_all, literal_count, part_up_to, part_behind, StandsIn, Grows, Puts, put_at}
use Rattle.le_goals.proofs.Parts.{length-part, before_all-push, all-pop, grows-none, grows-then}

-- parts that are still to be put before what was put
pub record PutSoFar (program : Program) (cells : ℕ) (old new : List Frame) (all left : List Part) (rest last : ℕ) : Type 0 where
  pub grows : Grows program cells old new
  pub parts : AllByRecursion (IsPart program cells) left
  pub there : last < length new
  pub laid : before_all program left (laid_at program new last) ≡ before_all program all (laid_at program old rest)

pub put-none : (program : Program) (cells : ℕ) (old : List Frame) (all : List Part) (rest : ℕ) → AreFrames program cells 0 old → AllByRecursion (IsPart program cells) all → rest < length old → PutSoFar program cells old old all all rest rest
put-none program cells old all rest fits are low = record { grows = grows-none program cells old fits; parts = are; there = low; laid = refl }

module _ (program : Program) (cells : ℕ) (old mid new : List Frame) (all left fewer : List Part) (part : Part) (rest last number : ℕ) (so_far : PutSoFar program cells old mid all left rest last) (popped : left ≡ fewer ++ part ∷ []) where
  both : AllByRecursion (IsPart program cells) fewer × IsPart program cells part
  both = all-pop (IsPart program cells) fewer part (subst (AllByRecursion (IsPart program cells)) popped so_far.parts)

  pub put-grows : (AreFrames program cells 0 mid → IsPart program cells part → last < length mid → Grows program cells mid new) → Grows program cells old new
  put-grows one = grows-then program cells old mid new so_far.grows (one so_far.grows.fits both.1 so_far.there)

  pub put-one : (AreFrames program cells 0 mid → IsPart program cells part → last < length mid → Grows program cells mid new)
      → (AreFrames program cells 0 mid → IsPart program cells part → last < length mid → Puts program cells mid new number (before (part_of program part) (laid_at program mid last)))
      → PutSoFar program cells old new all fewer rest number
  put-one one put = record {
    grows = put-grows one;
    parts = both.0;
    there = (put so_far.grows.fits both.1 so_far.there).there;
    laid =
        ap (before_all program fewer) (put so_far.grows.fits both.1 so_far.there).laid_
        ∙ (sym (before_all-push program fewer part (laid_at program mid last))
        ∙ (ap (λ ps. before_all program ps (laid_at program mid last)) (sym popped)
        ∙ so_far.laid));
  }

pub put-done : (program : Program) (cells : ℕ) (old new : List Frame) (all left : List Part) (rest last : ℕ) → PutSoFar program cells old new all left rest last → left ≡ [] → Puts program cells old new last (before_all program all (laid_at program old rest))
put-done program cells old new all left rest last so_far none = record {
  there = so_far.there;
  laid_ = ap (λ ps. before_all program ps (laid_at program new last)) (sym none) ∙ so_far.laid;
}

-- ---- a part on both sides of a literal

pub up-to : (program : Program) (cells : ℕ) (part : Part) (left : ℕ) → IsPart program cells part → part.from + left < part.to → IsPart program cells (part_up_to part left)
up-to program cells part left is less = let high : part.to ≤ length (literals_in program part.source) = is.within in record { cells_ = is.cells_; order = omega arith; within = omega (arith, less, high) }

pub behind : (program : Program) (cells : ℕ) (part : Part) (left : ℕ) → IsPart program cells part → part.from + left < part.to → IsPart program cells (part_behind part left)
behind program cells part left is less = record { cells_ = is.cells_; order = omega (arith, less); within = is.within }

take-take-lower : {X : Type 0} (few more : ℕ) (xs : List X) → few ≤ more → take few (take more xs) ≡ take few xs
take-take-lower zero more xs less = refl
take-take-lower (suc few) zero xs less = absurd (omega (arith, less))
take-take-lower (suc few) (suc more) [] less = refl
take-take-lower (suc few) (suc more) (x ∷ xs) less = ap (λ ys. x ∷ ys) (take-take-lower few more xs (omega (arith, less)))

take-map : {X Y : Type 0} (f : X → Y) (n : ℕ) (xs : List X) → take n (map f xs) ≡ map f (take n xs)
take-map f zero xs = refl
take-map f (suc n) [] = refl
take-map f (suc n) (x ∷ xs) = ap (λ ys. f x ∷ ys) (take-map f n xs)

drop-map : {X Y : Type 0} (f : X → Y) (n : ℕ) (xs : List X) → drop n (map f xs) ≡ map f (drop n xs)
drop-map f zero xs = refl
drop-map f (suc n) [] = refl
drop-map f (suc n) (x ∷ xs) = drop-map f n xs

take-of-none : {X : Type 0} (j : ℕ) → take {A = X} j [] ≡ []
take-of-none zero = refl
take-of-none (suc j) = refl

drop-of-none : {X : Type 0} (j : ℕ) → drop {A = X} j [] ≡ []
drop-of-none zero = refl
drop-of-none (suc j) = refl

drop-take : {X : Type 0} (n m : ℕ) (xs : List X) → drop n (take (n + m) xs) ≡ take m (drop n xs)
drop-take zero m xs = let same : 0 + m ≡ m = omega arith in ap (λ k. take k xs) same
drop-take (suc n) m [] = ap (drop (suc n)) (take-of-none (suc n + m)) ∙ sym (take-of-none m)
drop-take (suc n) m (x ∷ xs) = let same : suc n + m ≡ suc (n + m) = omega arith in ap (λ k. drop (suc n) (take k (x ∷ xs))) same ∙ drop-take n m xs

drop-drop-more : {X : Type 0} (n m : ℕ) (xs : List X) → drop m (drop n xs) ≡ drop (n + m) xs
drop-drop-more zero m xs = let same : m ≡ 0 + m = omega arith in ap (λ k. drop k xs) same
drop-drop-more (suc n) m [] = drop-of-none m ∙ sym (drop-of-none (suc n + m))
drop-drop-more (suc n) m (x ∷ xs) = let same : suc (n + m) ≡ suc n + m = omega arith in drop-drop-more n m xs ∙ ap (λ k. drop k (x ∷ xs)) same

pub up-to-is : (program : Program) (part : Part) (left : ℕ) → part.from + left < part.to → part_of program (part_up_to part left) ≡ take left (part_of program part)
up-to-is program part left less =
    let literals = literals_in program part.source in
    let few : (part.from + left) - part.from ≡ left = omega arith in
    ap (λ n. map (based part) (take n (drop part.from literals))) few
    ∙ (ap (map (based part)) (sym (take-take-lower left (part.to - part.from) (drop part.from literals) (omega (arith, less))))
    ∙ sym (take-map (based part) left (take (part.to - part.from) (drop part.from literals))))

pub behind-is : (program : Program) (part : Part) (left : ℕ) → part.from + left < part.to → part_of program (part_behind part left) ≡ drop (left + 1) (part_of program part)
behind-is program part left less =
    let literals = literals_in program part.source in
    let start : part.from + left + 1 ≡ part.from + (left + 1) = omega arith in
    let all : part.to - part.from ≡ (left + 1) + (part.to - (part.from + left + 1)) = omega (arith, less) in
    ap (λ n. map (based part) (take (part.to - (part.from + left + 1)) (drop n literals))) start
    ∙ (ap (λ ls. map (based part) (take (part.to - (part.from + left + 1)) ls)) (sym (drop-drop-more part.from (left + 1) literals))
    ∙ (ap (map (based part)) (sym (drop-take (left + 1) (part.to - (part.from + left + 1)) (drop part.from literals)))
    ∙ (sym (drop-map (based part) (left + 1) (take ((left + 1) + (part.to - (part.from + left + 1))) (drop part.from literals)))
    ∙ ap (λ n. drop (left + 1) (map (based part) (take n (drop part.from literals)))) (sym all))))

-- ---- other literals in the place of one

-- parts and then a goal, as one list of literals
pub before_all-is : (program : Program) (parts : List Part) (laid : Laid) → (own : List Based) × (before_all program parts laid ≡ before own laid) × ((other : Laid) → before_all program parts other ≡ before own other)
before_all-is program [] laid = ([], refl, λ other. refl)
before_all-is program (part ∷ parts) laid =
    let rest : (own : List Based) × (before_all program parts laid ≡ before own laid) × ((other : Laid) → before_all program parts other ≡ before own other) = before_all-is program parts laid in
    let joined : (other : Laid) → before_all program (part ∷ parts) other ≡ before (part_of program part ++ rest.0) other =
    λ other. ap (before (part_of program part)) (rest.2 other) ∙ ap (λ ls. let l : Laid = record { literals = ls; answers = other.answers } in l) (sym (append_assoc (part_of program part) rest.0 other.literals)) in
    (part_of program part ++ rest.0, joined laid, joined)

pub length-all : (program : Program) (cells : ℕ) (parts : List Part) → AllByRecursion (IsPart program cells) parts → length (before_all program parts nothing_laid).literals ≡ literal_count parts
length-all program cells [] are = refl
length-all program cells (part ∷ parts) are =
    let one : length (part_of program part) ≡ part.to - part.from = length-part program cells part are.0 in
    let rest : length (before_all program parts nothing_laid).literals ≡ literal_count parts = length-all program cells parts are.1 in
    let both : length (part_of program part ++ (before_all program parts nothing_laid).literals) ≡ length (part_of program part) + length (before_all program parts nothing_laid).literals = length-append (part_of program part) (before_all program parts nothing_laid).literals in
    omega (arith, one, rest, both)

-- the list fact: of three lists one after another, the place is in the second
put-lists : (xs ys zs new : List Based) (left place : ℕ) → length xs + left ≡ place → left < length ys
    → xs ++ (take left ys ++ (new ++ (drop (left + 1) ys ++ zs))) ≡ take place (xs ++ (ys ++ zs)) ++ (new ++ drop (place + 1) (xs ++ (ys ++ zs)))
put-lists xs ys zs new left place is less =
    let low : left ≤ length ys = omega (arith, less) in
    let high : left + 1 ≤ length ys = omega (arith, less) in
    let next : place + 1 ≡ length xs + (left + 1) = omega (arith, is) in
    let front : take place (xs ++ (ys ++ zs)) ≡ xs ++ take left ys =
    ap (λ n. take n (xs ++ (ys ++ zs))) (sym is) ∙ (take-append-add xs (ys ++ zs) left ∙ ap (λ ls. xs ++ ls) (take-append-le left ys zs low)) in
    let back : drop (place + 1) (xs ++ (ys ++ zs)) ≡ drop (left + 1) ys ++ zs =
    ap (λ n. drop n (xs ++ (ys ++ zs))) next ∙ (drop-append-add xs (ys ++ zs) (left + 1) ∙ drop-append-le (left + 1) ys zs high) in
    sym (ap (λ ls. ls ++ (new ++ drop (place + 1) (xs ++ (ys ++ zs)))) front
    ∙ (ap (λ ls. (xs ++ take left ys) ++ (new ++ ls)) back
    ∙ append_assoc xs (take left ys) (new ++ (drop (left + 1) ys ++ zs))))

pub put-is : (program : Program) (cells : ℕ) (frames : List Frame) (goal place : ℕ) (passed : List Part) (spot : Spot) (new : List Based) → StandsIn program cells frames goal place passed spot
    → before_all program passed (before (part_of program (part_up_to spot.part spot.left)) (before new (before (part_of program (part_behind spot.part spot.left)) (laid_at program frames spot.rest))))
    ≡ put_at place new (laid_at program frames goal)
put-is program cells frames goal place passed spot new stands =
    let rest : Laid = laid_at program frames spot.rest in
    let own : List Based = part_of program spot.part in
    let is : (front : List Based) × (before_all program passed nothing_laid ≡ before front nothing_laid) × ((other : Laid) → before_all program passed other ≡ before front other) = before_all-is program passed nothing_laid in
    let less : spot.left < spot.part.to - spot.part.from = stands.left in
    let inside : spot.part.from + spot.left < spot.part.to = omega (arith, less) in
    let count : length own ≡ spot.part.to - spot.part.from = length-part program cells spot.part stands.part in
    let front_ : length (is.0 ++ []) ≡ literal_count passed = ap (λ (l : Laid). length l.literals) (sym is.1) ∙ length-all program cells passed stands.passed_ in
    let front_count : length (is.0 ++ []) ≡ length is.0 + 0 = length-append is.0 [] in
    let place_ : literal_count passed + spot.left ≡ place = stands.place_ in
    let at : length is.0 + spot.left ≡ place = omega (arith, front_, front_count, place_) in
    let whole : laid_at program frames goal ≡ before is.0 (before own rest) = stands.laid ∙ is.2 (before own rest) in
    is.2 (before (part_of program (part_up_to spot.part spot.left)) (before new (before (part_of program (part_behind spot.part spot.left)) rest)))
    ∙ (ap (λ ls. before is.0 (before ls (before new (before (part_of program (part_behind spot.part spot.left)) rest)))) (up-to-is program spot.part spot.left inside)
    ∙ (ap (λ ls. before is.0 (before (take spot.left own) (before new (before ls rest)))) (behind-is program spot.part spot.left inside)
    ∙ (ap (λ ls. let l : Laid = record { literals = ls; answers = rest.answers } in l) (put-lists is.0 own rest.literals new spot.left place at (omega (arith, less, count)))
    ∙ ap (put_at place new) (sym whole))))

-- a literal's place is one of the goal's
pub put-result : (program : Program) (cells : ℕ) (old mid new : List Frame) (goal place rest number : ℕ) (passed : List Part) (spot : Spot) (literals : List Based) → StandsIn program cells old goal place passed spot → AreFrames program cells 0 old
    → Puts program cells old mid rest (before (part_of program (part_up_to spot.part spot.left)) (before literals (before (part_of program (part_behind spot.part spot.left)) (laid_at program old spot.rest))))
    → Puts program cells mid new number (before_all program passed (laid_at program mid rest))
    → Puts program cells old new number (put_at place literals (laid_at program old goal))
put-result program cells old mid new goal place rest number passed spot literals stands fits around all = record {
  there = all.there;
  laid_ = all.laid_ ∙ (ap (before_all program passed) around.laid_ ∙ put-is program cells old goal place passed spot literals stands);
}
