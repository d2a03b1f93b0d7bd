-- How single reads and writes add up to whole ones.
use Rattle.std.proofs.Common.{◌≡◌, ℕ, ◌+◌, ◌≤◌, List, ◌++◌, length, take, drop, Option, None, Some, sym, ap, ◌∙◌, arith, subst, append_assoc, append-nil, length-append}
use Rattle.std.proofs.lemmas.List.{take_all, take-append-drop, length-drop, length-take-le, drop-drop}
use Rattle.std.proofs.Math.Seq.{take-append_seam}
use Rattle.std.specs.Io.KnownBytes.{Appends, Consumes, Keeps, IsAtEnd}
use Rattle.std.proofs.KnownBytes.{Appends-trans, Consumes-trans}
use Rattle.le_base.specs.Outside.{AppendsPrefix, ReadsAll}

-- all that is left after n, taken with room for it
rest_taken : (rest : List ℕ) (n m : ℕ) → length rest ≤ m + n → take m (drop n rest) ≡ drop n rest
rest_taken rest n m h = take_all m (drop n rest) (omega (arith, length-drop n rest))

-- what was written before and the first n of the rest are what is written then
pub written_more : (a b c : Option (List ℕ)) (bytes rest : List ℕ) (n m : ℕ) → length rest ≤ m + n → ((done : List ℕ) × (bytes ≡ done ++ rest) × Appends a b done) → Appends b c (take n rest) → (done : List ℕ) × (bytes ≡ done ++ take m (drop n rest)) × Appends a c done
written_more a b c bytes rest n m fits before more =
    let done = before.0 ++ take n rest in
    let same : bytes ≡ done ++ take m (drop n rest) = before.1 ∙ ap (λ xs. before.0 ++ xs) (sym (take-append-drop n rest)) ∙ sym (append_assoc before.0 (take n rest) (drop n rest)) ∙ ap (λ xs. done ++ xs) (sym (rest_taken rest n m fits)) in
    (done, same, Appends-trans a b c before.0 (take n rest) before.2 more)

-- what was written is a first part of all
pub written_part : (a b : Option (List ℕ)) (bytes rest : List ℕ) → ((done : List ℕ) × (bytes ≡ done ++ rest) × Appends a b done) → AppendsPrefix a b bytes
written_part a b bytes rest before =
    let e : take (length before.0) bytes ≡ before.0 = ap (take (length before.0)) before.1 ∙ take-append_seam before.0 rest in
    (length before.0, subst (Appends a b) (sym e) before.2)

-- a read into the front of a buffer gives what was left, up to where it goes on
pub front_given : (bytes buffer copied : List ℕ) (at n m : ℕ) → copied ≡ take m (drop at bytes) → m ≡ n → at + n ≤ length bytes → drop at bytes ≡ take n (copied ++ drop n buffer) ++ drop (at + n) bytes
front_given bytes buffer copied at n m is same fits =
    let front : copied ≡ take n (drop at bytes) = is ∙ ap (λ k. take k (drop at bytes)) same in
    let long : length copied ≡ n = ap length front ∙ length-take-le n (drop at bytes) (omega (arith, length-drop at bytes)) in
    let taken : take n (copied ++ drop n buffer) ≡ copied = ap (λ k. take k (copied ++ drop n buffer)) (sym long) ∙ take-append_seam copied (drop n buffer) in
    sym (take-append-drop n (drop at bytes)) ∙ ap (λ xs. xs ++ drop n (drop at bytes)) (sym front ∙ sym taken) ∙ ap (λ xs. take n (copied ++ drop n buffer) ++ xs) (drop-drop n at bytes)

-- what was read before a read that finds nothing left is all that was left
pub all_read : (a b c : Option (List ℕ)) (bytes : List ℕ) → Consumes a b bytes → Keeps b c → IsAtEnd b → ReadsAll a c bytes
all_read None b c bytes before kept end = tt
all_read (Some xs) None c bytes before kept end = absurd before
all_read (Some xs) (Some ys) None bytes before kept end = absurd kept
all_read (Some xs) (Some ys) (Some zs) bytes before kept end =
    (sym (before ∙ ap (λ more. bytes ++ more) end ∙ append-nil bytes), ap Some (kept ∙ end))

-- the bytes read before and the n that this read gave
pub consumed_more : (a b c : Option (List ℕ)) (bytes buffer : List ℕ) (n k : ℕ) → Consumes a b bytes → Consumes b c (take n buffer) → n ≤ length buffer → length bytes + n ≡ k → (all : List ℕ) × (length all ≡ k) × Consumes a c all
consumed_more a b c bytes buffer n k before more fits sum =
    (bytes ++ take n buffer, omega (arith, length-append bytes (take n buffer), length-take-le n buffer fits), Consumes-trans a b c bytes (take n buffer) before more)
