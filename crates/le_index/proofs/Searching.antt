-- The next candidate among the numbers and the keys of a predicate's clauses.
use Rattle.std.proofs.Common.{◌≡◌, ℕ, zero, suc, ◌+◌, ◌<◌, ◌≤◌, ◌==◌, ◌&&◌, ◌||◌, List, [], ◌∷◌, length, get_or, get_or-drop, drop, Bool, true, false, cond, Option, Some, None, add-one, length-drop, refl, sym, ap, ◌∙◌, arith}
use Rattle.std.specs.Prelude.{nat_le, nat_lt, slice_get}
use Rattle.std.proofs.lemmas.Bool.{leb-true, ltb-true, ltb-false, leb-false}
use Rattle.std.proofs.lemmas.Bool.Decides.{Decides-eqb}
use Rattle.le_lanes.specs.Next.{first_from, next_of, is_match}
use Rattle.le_terms.specs.declared.program.Clause.{Clause}
use Rattle.le_index.specs.Keys.{key_of}
use Rattle.le_index.specs.Candidates.{may_meet, candidate_from, candidate_among, numbers_from, keys_from}

-- the next candidate is found among the clauses of the predicate
pub among-clauses : (pred key from number : ℕ) (clauses : List Clause) → candidate_among key from (numbers_from pred number clauses) (keys_from pred clauses) ≡ candidate_from pred key from number clauses
among-clauses pred key from number [] = refl
among-clauses pred key from number (clause ∷ clauses) = by (clause.head.pred == pred) (among-clauses pred key from (number + 1) clauses)
  where
    never : (b : Bool) → (b && false) ≡ false
    never true = refl
    never false = refl

    by : (b : Bool) → candidate_among key from (numbers_from pred (number + 1) clauses) (keys_from pred clauses) ≡ candidate_from pred key from (number + 1) clauses
        → candidate_among key from (cond b (number ∷ numbers_from pred (number + 1) clauses) (numbers_from pred (number + 1) clauses)) (cond b (key_of clause.head ∷ keys_from pred clauses) (keys_from pred clauses))
        ≡ cond (nat_le from number && (b && may_meet key (key_of clause.head))) (Some number) (candidate_from pred key from (number + 1) clauses)
    by true same = ap (λ rest. cond (nat_le from number && may_meet key (key_of clause.head)) (Some number) rest) same
    by false same = same ∙ sym (ap (λ low. cond low (Some number) (candidate_from pred key from (number + 1) clauses)) (never (nat_le from number)))

-- no key is left
among-none : (key from : ℕ) (numbers : List ℕ) → candidate_among key from numbers [] ≡ None
among-none key from [] = refl
among-none key from (number ∷ numbers) = refl

-- numbers that are too low are skipped
pub among-from : (key from n : ℕ) (numbers keys : List ℕ) → n ≤ length numbers → ((k d : ℕ) → k < n → nat_lt (get_or numbers k d) from ≡ true) → candidate_among key from numbers keys ≡ candidate_among key from (drop n numbers) (drop n keys)
among-from key from zero numbers keys room low = refl
among-from key from (suc n) [] keys room low = refl
among-from key from (suc n) (number ∷ numbers) [] room low = sym (among-none key from (drop n numbers))
among-from key from (suc n) (number ∷ numbers) (other ∷ keys) room low =
    by (nat_le from number) refl
    ∙ among-from key from n numbers keys (omega (arith, room)) (λ k d inside. low (suc k) d (omega (arith, inside)))
  where
    by : (b : Bool) → nat_le from number ≡ b → cond (b && may_meet key other) (Some number) (candidate_among key from numbers keys) ≡ candidate_among key from numbers keys
    by true is = let less : number < from = ltb-true number from (low zero 0 (omega arith)) in let more : from ≤ number = leb-true from number is in absurd (omega (arith, less, more))
    by false is = refl

-- the item at a place, and those that follow it
pub item-at : (xs : List ℕ) (at n : ℕ) (ns : List ℕ) → drop at xs ≡ n ∷ ns → (slice_get xs at ≡ Some n) × (drop (at + 1) xs ≡ ns)
item-at [] zero n ns same = absurd (cc same)
item-at [] (suc at) n ns same = absurd (cc same)
item-at (x ∷ xs) zero n ns same = (cc same, ap (drop 1) same)
item-at (x ∷ xs) (suc at) n ns same = let rest = item-at xs at n ns same in (rest.0, ap (λ k. drop k (x ∷ xs)) (add-one (suc at)) ∙ (ap (λ k. drop k xs) (sym (add-one at)) ∙ rest.1))

-- of numbers that are high enough the first whose key may be met
abbrev pub number_by : List ℕ → Option ℕ → Option ℕ
number_by numbers None = None
number_by numbers (Some place) = slice_get numbers place

reached : (from number : ℕ) → nat_lt number from ≡ false → nat_le from number ≡ true
reached from number low = by (nat_le from number) refl
  where
    by : (b : Bool) → nat_le from number ≡ b → b ≡ true
    by true is = refl
    by false is = let more : from ≤ number = ltb-false number from low in let less : number < from = leb-false from number is in absurd (omega (arith, more, less))

by_key : (key from : ℕ) (all : List ℕ) (at : ℕ) (numbers keys : List ℕ) → (key == 0) ≡ false → drop at all ≡ numbers → length numbers ≡ length keys
    → ((k d : ℕ) → k < length numbers → nat_lt (get_or numbers k d) from ≡ false) → candidate_among key from numbers keys ≡ number_by all (first_from (is_match key) at keys)
by_key key from all at [] [] some is same high = refl
by_key key from all at [] (other ∷ keys) some is same high = absurd (omega (arith, same))
by_key key from all at (number ∷ numbers) [] some is same high = absurd (omega (arith, same))
by_key key from all at (number ∷ numbers) (other ∷ keys) some is same high =
    let here = item-at all at number numbers is in
    ap (λ b. cond (b && may_meet key other) (Some number) (candidate_among key from numbers keys)) (reached from number (high zero 0 (omega arith)))
    ∙ (ap (λ b. cond (b || is_match key other) (Some number) (candidate_among key from numbers keys)) some
    ∙ by (is_match key other) here.0 (by_key key from all (at + 1) numbers keys some here.1 (omega (arith, same)) (λ k d inside. high (suc k) d (omega (arith, inside)))))
  where
    by : (b : Bool) → slice_get all at ≡ Some number → candidate_among key from numbers keys ≡ number_by all (first_from (is_match key) (at + 1) keys)
        → cond b (Some number) (candidate_among key from numbers keys) ≡ number_by all (cond b (Some at) (first_from (is_match key) (at + 1) keys))
    by true found rest = sym found
    by false found rest = rest

-- any key will do
by_any : (from : ℕ) (all : List ℕ) (at : ℕ) (numbers keys : List ℕ) → drop at all ≡ numbers → length numbers ≡ length keys
    → ((k d : ℕ) → k < length numbers → nat_lt (get_or numbers k d) from ≡ false) → candidate_among 0 from numbers keys ≡ slice_get all at
by_any from all at [] [] is same high = sym (past all at is)
  where
    past : (xs : List ℕ) (k : ℕ) → drop k xs ≡ [] → slice_get xs k ≡ None
    past [] zero none = refl
    past [] (suc k) none = refl
    past (x ∷ xs) zero none = absurd (cc none)
    past (x ∷ xs) (suc k) none = past xs k none
by_any from all at [] (other ∷ keys) is same high = absurd (omega (arith, same))
by_any from all at (number ∷ numbers) [] is same high = absurd (omega (arith, same))
by_any from all at (number ∷ numbers) (other ∷ keys) is same high =
    ap (λ b. cond (b && true) (Some number) (candidate_among 0 from numbers keys)) (reached from number (high zero 0 (omega arith)))
    ∙ sym (item-at all at number numbers is).0

dropped : (n : ℕ) (xs ys : List ℕ) → length xs ≡ length ys → length (drop n xs) ≡ length (drop n ys)
dropped n xs ys same = omega (arith, same, length-drop n xs, length-drop n ys)

rest-high : (from first : ℕ) (numbers : List ℕ) → ((k d : ℕ) → first ≤ k → k < length numbers → nat_lt (get_or numbers k d) from ≡ false)
    → (k d : ℕ) → k < length (drop first numbers) → nat_lt (get_or (drop first numbers) k d) from ≡ false
rest-high from first numbers high k d inside =
    ap (λ n. nat_lt n from) (get_or-drop first numbers k d) ∙ high (first + k) d (omega arith) (omega (arith, inside, length-drop first numbers))

pub not-zero : (key : ℕ) → (key ≡ 0 → ⊥) → (key == 0) ≡ false
not-zero key some = by (key == 0) refl
  where
    by : (b : Bool) → (key == 0) ≡ b → b ≡ false
    by true is = absurd (some ((Decides-eqb key 0).0 is))
    by false is = refl

-- so from the first number that is high enough on the next one is found by its key
pub among-by_key : (key from first : ℕ) (numbers keys : List ℕ) → (key == 0) ≡ false → length numbers ≡ length keys → first ≤ length numbers
    → ((k d : ℕ) → 0 ≤ k → k < first → nat_lt (get_or numbers k d) from ≡ true) → ((k d : ℕ) → first ≤ k → k < length numbers → nat_lt (get_or numbers k d) from ≡ false)
    → candidate_among key from numbers keys ≡ number_by numbers (next_of (is_match key) keys first)
among-by_key key from first numbers keys some same room low high =
    among-from key from first numbers keys room (λ k d inside. low k d (omega arith) inside)
    ∙ by_key key from numbers first (drop first numbers) (drop first keys) some refl (dropped first numbers keys same) (rest-high from first numbers high)

pub among-any : (from first : ℕ) (numbers keys : List ℕ) → length numbers ≡ length keys → first ≤ length numbers
    → ((k d : ℕ) → 0 ≤ k → k < first → nat_lt (get_or numbers k d) from ≡ true) → ((k d : ℕ) → first ≤ k → k < length numbers → nat_lt (get_or numbers k d) from ≡ false)
    → candidate_among 0 from numbers keys ≡ slice_get numbers first
among-any from first numbers keys same room low high =
    among-from 0 from first numbers keys room (λ k d inside. low k d (omega arith) inside)
    ∙ by_any from numbers first (drop first numbers) (drop first keys) refl (dropped first numbers keys same) (rest-high from first numbers high)
