-- The numbers and the keys of a predicate's clauses.
use Rattle.std.proofs.Common.{◌≡◌, ℕ, zero, suc, ◌+◌, ◌<◌, ◌≤◌, ◌==◌, List, [], ◌∷◌, ◌++◌, length, length-take-le, take, get_or, Bool, true, false, cond, if◌then◌else◌, refl, sym, ap, ◌∙◌, arith}
use Rattle.std.proofs.lemmas.List.{take_more}
use Rattle.std.specs.List.Sorted.{IsNonDecreasingBy}
use Rattle.le_terms.specs.declared.program.Clause.{Clause}
use Rattle.le_index.specs.Keys.{key_of}
use Rattle.le_index.specs.Candidates.{numbers_from, keys_from, AreRisingFrom}

-- one clause more
pub numbers-push : (pred number : ℕ) (clauses : List Clause) (last : Clause) → numbers_from pred number (clauses ++ last ∷ []) ≡ numbers_from pred number clauses ++ (if last.head.pred == pred then (number + length clauses) ∷ [] else [])
numbers-push pred number [] last = ap (λ n. if last.head.pred == pred then n ∷ [] else []) (omega arith)
numbers-push pred number (clause ∷ clauses) last = by (clause.head.pred == pred)
    (numbers-push pred (number + 1) clauses last ∙ ap (λ n. numbers_from pred (number + 1) clauses ++ (if last.head.pred == pred then n ∷ [] else [])) (omega arith))
  where
    by : (b : Bool) → numbers_from pred (number + 1) (clauses ++ last ∷ []) ≡ numbers_from pred (number + 1) clauses ++ (if last.head.pred == pred then (number + suc (length clauses)) ∷ [] else [])
        → cond b (number ∷ numbers_from pred (number + 1) (clauses ++ last ∷ [])) (numbers_from pred (number + 1) (clauses ++ last ∷ []))
        ≡ cond b (number ∷ numbers_from pred (number + 1) clauses) (numbers_from pred (number + 1) clauses) ++ (if last.head.pred == pred then (number + suc (length clauses)) ∷ [] else [])
    by true same = ap (λ ns. number ∷ ns) same
    by false same = same

pub keys-push : (pred : ℕ) (clauses : List Clause) (last : Clause) → keys_from pred (clauses ++ last ∷ []) ≡ keys_from pred clauses ++ (if last.head.pred == pred then key_of last.head ∷ [] else [])
keys-push pred [] last = refl
keys-push pred (clause ∷ clauses) last = by (clause.head.pred == pred) (keys-push pred clauses last)
  where
    by : (b : Bool) → keys_from pred (clauses ++ last ∷ []) ≡ keys_from pred clauses ++ (if last.head.pred == pred then key_of last.head ∷ [] else [])
        → cond b (key_of clause.head ∷ keys_from pred (clauses ++ last ∷ [])) (keys_from pred (clauses ++ last ∷ []))
        ≡ cond b (key_of clause.head ∷ keys_from pred clauses) (keys_from pred clauses) ++ (if last.head.pred == pred then key_of last.head ∷ [] else [])
    by true same = ap (λ ks. key_of clause.head ∷ ks) same
    by false same = same

-- so what is listed of the first clauses grows by the next one
next-clause : (clauses : List Clause) (place : ℕ) (clause : Clause) → place < length clauses → clause ≡ get_or clauses place clause → take (place + 1) clauses ≡ take place clauses ++ clause ∷ []
next-clause clauses place clause inside is = take_more clauses place clause inside ∙ ap (λ c. take place clauses ++ c ∷ []) (sym is)

pub numbers-next : (pred : ℕ) (clauses : List Clause) (place : ℕ) (clause : Clause) → place < length clauses → clause ≡ get_or clauses place clause
    → numbers_from pred 1 (take place clauses) ++ (if clause.head.pred == pred then (place + 1) ∷ [] else []) ≡ numbers_from pred 1 (take (place + 1) clauses)
numbers-next pred clauses place clause inside is =
    let few : length (take place clauses) ≡ place = length-take-le place clauses (omega (arith, inside)) in
    sym (
    ap (numbers_from pred 1) (next-clause clauses place clause inside is)
    ∙ (numbers-push pred 1 (take place clauses) clause
    ∙ ap (λ n. numbers_from pred 1 (take place clauses) ++ (if clause.head.pred == pred then n ∷ [] else [])) (omega (arith, few))))

pub keys-next : (pred : ℕ) (clauses : List Clause) (place : ℕ) (clause : Clause) → place < length clauses → clause ≡ get_or clauses place clause
    → keys_from pred (take place clauses) ++ (if clause.head.pred == pred then key_of clause.head ∷ [] else []) ≡ keys_from pred (take (place + 1) clauses)
keys-next pred clauses place clause inside is = sym (ap (keys_from pred) (next-clause clauses place clause inside is) ∙ keys-push pred (take place clauses) clause)

-- there are as many numbers as keys
pub same-lengths : (pred number : ℕ) (clauses : List Clause) → length (numbers_from pred number clauses) ≡ length (keys_from pred clauses)
same-lengths pred number [] = refl
same-lengths pred number (clause ∷ clauses) = by (clause.head.pred == pred) (same-lengths pred (number + 1) clauses)
  where
    by : (b : Bool) → length (numbers_from pred (number + 1) clauses) ≡ length (keys_from pred clauses)
        → length (cond b (number ∷ numbers_from pred (number + 1) clauses) (numbers_from pred (number + 1) clauses)) ≡ length (cond b (key_of clause.head ∷ keys_from pred clauses) (keys_from pred clauses))
    by true same = ap suc same
    by false same = same

-- the numbers rise
pub rising-from_less : (low high : ℕ) (ns : List ℕ) → low ≤ high → AreRisingFrom high ns → AreRisingFrom low ns
rising-from_less low high [] less rising = tt
rising-from_less low high (n ∷ ns) less rising = (omega (arith, less, rising.0), rising.1)

pub numbers-rise : (pred number : ℕ) (clauses : List Clause) → AreRisingFrom number (numbers_from pred number clauses)
numbers-rise pred number [] = tt
numbers-rise pred number (clause ∷ clauses) = by (clause.head.pred == pred) (numbers-rise pred (number + 1) clauses)
  where
    by : (b : Bool) → AreRisingFrom (number + 1) (numbers_from pred (number + 1) clauses) → AreRisingFrom number (cond b (number ∷ numbers_from pred (number + 1) clauses) (numbers_from pred (number + 1) clauses))
    by true rising = (omega arith, rising)
    by false rising = rising-from_less number (number + 1) (numbers_from pred (number + 1) clauses) (omega arith) rising

-- so none is below one before it
at_least : (low : ℕ) (ns : List ℕ) (j d : ℕ) → AreRisingFrom low ns → j < length ns → low ≤ get_or ns j d
at_least low [] j d rising inside = absurd (omega (arith, inside))
at_least low (n ∷ ns) zero d rising inside = rising.0
at_least low (n ∷ ns) (suc j) d rising inside = let rest : n + 1 ≤ get_or ns j d = at_least (n + 1) ns j d rising.1 (omega (arith, inside)) in omega (arith, rest, rising.0)

pub rising-ordered : (low : ℕ) (ns : List ℕ) → AreRisingFrom low ns → IsNonDecreasingBy (λ n. n) ns
rising-ordered low [] rising i j d order inside = absurd (omega (arith, inside))
rising-ordered low (n ∷ ns) rising zero zero d order inside = omega arith
rising-ordered low (n ∷ ns) rising zero (suc j) d order inside = let rest : n + 1 ≤ get_or ns j d = at_least (n + 1) ns j d rising.1 (omega (arith, inside)) in omega (arith, rest)
rising-ordered low (n ∷ ns) rising (suc i) zero d order inside = absurd (omega (arith, order))
rising-ordered low (n ∷ ns) rising (suc i) (suc j) d order inside = rising-ordered (n + 1) ns rising.1 i j d (omega (arith, order)) (omega (arith, inside))
