-- What entering a name, cutting the names short and looking one up do to names without repeats.
use Rattle.std.proofs.Common.{◌≡◌, ℕ, zero, suc, ◌+◌, ◌-◌, ◌^◌, ◌<◌, ◌≤◌, Bool, true, false, cond, not, ◌||◌, List, [], ◌∷◌, ◌++◌, length, map, take, slice_get, Some, None, refl, sym, ap, subst, ◌∙◌, arith, true≢false, position, length-append, length-take, nat_lt}
use Rattle.std.proofs.lemmas.List.{map-append}
use Rattle.std.proofs.lemmas.Cmp.{nat_list_eq_equiv}
use Rattle.std.proofs.lemmas.List.Sums.{prefix_len-le-length}
use Rattle.std.specs.List.{list_any, position_or_len, prefix_len}
use Rattle.std.specs.Str.{bytes_eq}
use Rattle.le_terms.specs.Names.{is_named, number_of_name, entered, HasNoRepeats, IsNames}

-- where neither of two holds
pub neither : (a b : Bool) → (a || b) ≡ false → (a ≡ false) × (b ≡ false)
neither true b none = absurd (true≢false none)
neither false b none = (refl, none)

-- a test on the images is a test on the elements
pub prefix_len-map : {X Y : Type 0} (p : Y → Bool) (f : X → Y) (xs : List X) → prefix_len p (map f xs) ≡ prefix_len (λ x. p (f x)) xs
prefix_len-map p f [] = refl
prefix_len-map p f (x ∷ xs) = ap (λ n. cond (p (f x)) (1 + n) 0) (prefix_len-map p f xs)

pub list_any-map : {X Y : Type 0} (p : Y → Bool) (f : X → Y) (xs : List X) → list_any p (map f xs) ≡ list_any (λ x. p (f x)) xs
list_any-map p f [] = refl
list_any-map p f (x ∷ xs) = ap (λ b. p (f x) || b) (list_any-map p f xs)

-- a place that is found is the length of what fails before it
pub found_place : {X : Type 0} (p : X → Bool) (xs : List X) (i : ℕ) → position p xs ≡ Some i → position_or_len p xs ≡ i
found_place p xs i = by (nat_lt (position_or_len p xs) (length xs))
  where
    by : (b : Bool) → cond b (Some (position_or_len p xs)) None ≡ Some i → position_or_len p xs ≡ i
    by true e = cc
    by false e = absurd (let n : None ≡ Some i = e in cc)

-- what fails everywhere is found after the end
pub missing_place : {X : Type 0} (p : X → Bool) (xs : List X) → list_any p xs ≡ false → position_or_len p xs ≡ length xs
missing_place p [] none = refl
missing_place p (x ∷ xs) none =
    let more : position_or_len p xs ≡ length xs = missing_place p xs (neither (p x) (list_any p xs) none).1 in
    ap (λ c. cond (not c) (1 + position_or_len p xs) 0) (neither (p x) (list_any p xs) none).0 ∙ omega arith

-- what fails everywhere fails at each place
pub fails_at : {X : Type 0} (p : X → Bool) (xs : List X) (i : ℕ) (y : X) → list_any p xs ≡ false → slice_get xs i ≡ Some y → p y ≡ false
fails_at p [] i y none at = absurd (let n : None ≡ Some y = at in cc)
fails_at p (x ∷ xs) zero y none at = let same : x ≡ y = cc in ap p (sym same) ∙ (neither (p x) (list_any p xs) none).0
fails_at p (x ∷ xs) (suc i) y none at = fails_at p xs i y (neither (p x) (list_any p xs) none).1 at

-- the first names of names without the name are without it
pub is_named-take : (names : List (List ℕ)) (n : ℕ) (name : List ℕ) → is_named names name ≡ false → is_named (take n names) name ≡ false
is_named-take names zero name none = refl
is_named-take [] (suc n) name none = refl
is_named-take (x ∷ xs) (suc n) name none =
    ap (λ c. c || is_named (take n xs) name) (neither (bytes_eq name x) (is_named xs name) none).0
    ∙ is_named-take xs n name (neither (bytes_eq name x) (is_named xs name) none).1

-- the first names of names without repeats have none
pub HasNoRepeats-take : (names : List (List ℕ)) (n : ℕ) → HasNoRepeats names → HasNoRepeats (take n names)
HasNoRepeats-take names zero h = tt
HasNoRepeats-take [] (suc n) h = tt
HasNoRepeats-take (x ∷ xs) (suc n) h = (is_named-take xs n x h.0, HasNoRepeats-take xs n h.1)

-- names without the name, and with another at their end, are still without it
pub is_named-push : (names : List (List ℕ)) (name other : List ℕ) → is_named names name ≡ false → bytes_eq name other ≡ false → is_named (names ++ other ∷ []) name ≡ false
is_named-push [] name other none differ = ap (λ c. c || false) differ
is_named-push (x ∷ xs) name other none differ =
    ap (λ c. c || is_named (xs ++ other ∷ []) name) (neither (bytes_eq name x) (is_named xs name) none).0
    ∙ is_named-push xs name other (neither (bytes_eq name x) (is_named xs name) none).1 differ

-- a name that isn't there makes no repeat at the end
pub HasNoRepeats-push : (names : List (List ℕ)) (name : List ℕ) → HasNoRepeats names → is_named names name ≡ false → HasNoRepeats (names ++ name ∷ [])
HasNoRepeats-push [] name h none = (refl, tt)
HasNoRepeats-push (x ∷ xs) name h none =
    let parts : (bytes_eq name x ≡ false) × (is_named xs name ≡ false) = neither (bytes_eq name x) (is_named xs name) none in
    (is_named-push xs x name h.0 (nat_list_eq_equiv.symm x name ∙ parts.0), HasNoRepeats-push xs name h.1 parts.1)

-- names without repeats that fit stay so when they are cut short
pub IsNames-take : (names : List (List ℕ)) (n : ℕ) → IsNames names → IsNames (take n names)
IsNames-take names n h = record {
  small = (let fits : length names < 2 ^ 32 = h.small in omega (arith, length-take n names));
  distinct = HasNoRepeats-take names n h.distinct;
}

-- and when a name is entered where there is room
pub IsNames-entered : (names : List (List ℕ)) (name : List ℕ) → IsNames names → length names < 2 ^ 32 - 1 → IsNames (entered names name)
IsNames-entered names name h room = by (is_named names name) refl
  where
    by : (b : Bool) → is_named names name ≡ b → IsNames (entered names name)
    by true e = subst (λ c. IsNames (cond c names (names ++ name ∷ []))) (sym e) h
    by false e = subst (λ c. IsNames (cond c names (names ++ name ∷ []))) (sym e) (record {
      small = omega (arith, length-append names (name ∷ []));
      distinct = HasNoRepeats-push names name h.distinct e;
    })

-- a number is at most the count
pub number_of_name-le : (names : List (List ℕ)) (name : List ℕ) → number_of_name names name ≤ length names
number_of_name-le names name = prefix_len-le-length (λ other. not (bytes_eq name other)) names

-- the number of the name at a place is the place
pub number_of_name-at : (names : List (List ℕ)) (n : ℕ) (name : List ℕ) → HasNoRepeats names → slice_get names n ≡ Some name → number_of_name names name ≡ n
number_of_name-at [] n name h at = absurd (let none : None ≡ Some name = at in cc)
number_of_name-at (x ∷ xs) zero name h at =
    let same : x ≡ name = cc in
    ap (λ c. cond (not c) (1 + number_of_name xs name) 0) (ap (bytes_eq name) same ∙ nat_list_eq_equiv.refl name)
number_of_name-at (x ∷ xs) (suc n) name h at =
    ap (λ c. cond (not c) (1 + number_of_name xs name) 0) (nat_list_eq_equiv.symm name x ∙ fails_at (bytes_eq x) xs n name h.0 at)
    ∙ (let more : number_of_name xs name ≡ n = number_of_name-at xs n name h.1 at in omega arith)

-- the same at elements that have the names as their texts
pub is_named-map : {K : Type 0} (text : K → List ℕ) (keys : List K) (name : List ℕ) → is_named (map text keys) name ≡ list_any (λ k. bytes_eq name (text k)) keys
is_named-map text keys name = list_any-map (bytes_eq name) text keys

pub number_of_name-found : {K : Type 0} (text : K → List ℕ) (keys : List K) (name : List ℕ) (i : ℕ) → position (λ k. bytes_eq name (text k)) keys ≡ Some i → number_of_name (map text keys) name ≡ i
number_of_name-found text keys name i found =
    prefix_len-map (λ other. not (bytes_eq name other)) text keys ∙ found_place (λ k. bytes_eq name (text k)) keys i found

pub number_of_name-missing : {K : Type 0} (text : K → List ℕ) (keys : List K) (name : List ℕ) → list_any (λ k. bytes_eq name (text k)) keys ≡ false → number_of_name (map text keys) name ≡ length keys
number_of_name-missing text keys name none =
    prefix_len-map (λ other. not (bytes_eq name other)) text keys ∙ missing_place (λ k. bytes_eq name (text k)) keys none

-- to enter a name that is there changes nothing
pub entered-there : (names : List (List ℕ)) (name : List ℕ) → is_named names name ≡ true → entered names name ≡ names
entered-there names name there = ap (λ b. cond b names (names ++ name ∷ [])) there

-- and one that isn't puts it at the end
pub entered-inserted : {K : Type 0} (text : K → List ℕ) (keys : List K) (key : K) (name : List ℕ) → text key ≡ name → list_any (λ k. bytes_eq name (text k)) keys ≡ false
    → map text (cond (list_any (λ k. bytes_eq (text key) (text k)) keys) keys (keys ++ key ∷ [])) ≡ entered (map text keys) name
entered-inserted text keys key name same none =
    let own : list_any (λ k. bytes_eq (text key) (text k)) keys ≡ false = subst (λ n. list_any (λ k. bytes_eq n (text k)) keys ≡ false) (sym same) none in
    ap (λ b. map text (cond b keys (keys ++ key ∷ []))) own
    ∙ (map-append text keys (key ∷ [])
    ∙ (ap (λ n. map text keys ++ n ∷ []) same
    ∙ sym (ap (λ b. cond b (map text keys) (map text keys ++ name ∷ [])) (is_named-map text keys name ∙ none))))
