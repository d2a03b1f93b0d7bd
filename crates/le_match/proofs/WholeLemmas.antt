-- Each list of lengths that fits the tokens of a sentence without asterisks is one of its ways.
use Rattle.std.proofs.Common.{◌≡◌, ℕ, zero, suc, ◌+◌, ◌<◌, ◌≤◌, Bool, true, false, cond, List, [], ◌∷◌, length, map, filter, flat_map, take, drop, sym, refl, ap, ◌∙◌, subst, arith, inl, inr}
use Rattle.std.specs.List.{Contains}
use Rattle.std.proofs.lemmas.Bool.{cases_lt}
use Rattle.std.proofs.lemmas.List.{length-map, get_or-map}
use Rattle.std.proofs.lemmas.List.Elements.{Contains-append_left, Contains-append_right}
use Rattle.le_layout.specs.declared.token.Token.{Token}
use Rattle.le_layout.specs.declared.layout.Layout.{Layout}
use Rattle.le_templates.specs.declared.part.Part.{Part}
use Rattle.le_templates.specs.declared.part.Part.TheVariants.{Word, Slot}
use Rattle.le_scope.specs.Phrases.{is_phrase}
use Rattle.le_match.specs.Readings.{count_from, phrase_lengths, cuts, marked_cuts, is_marked, ways}
use Rattle.le_match.specs.Shares.{Fits}

pub here : {X : Type 0} (x y : X) (xs : List X) → x ≡ y → Contains (x ∷ xs) y
here x y xs e = (0, omega arith, e)

pub later : {X : Type 0} (x y : X) (xs : List X) → Contains xs y → Contains (x ∷ xs) y
later x y xs (i, low, e) = (suc i, omega arith, e)

pub in_map : {X Y : Type 0} (f : X → Y) (xs : List X) (x : X) → Contains xs x → Contains (map f xs) (f x)
in_map f xs x (i, low, e) = let size = length-map xs f in (i, omega arith, get_or-map f xs i x (f x) low ∙ ap f e)

pub in_flat_map : {X Y : Type 0} (f : X → List Y) (xs : List X) (x : X) (y : Y) → Contains xs x → Contains (f x) y → Contains (flat_map f xs) y
in_flat_map f [] x y (i, low, e) g = absurd (omega arith)
in_flat_map {X} {Y} f (w ∷ xs) x y (zero, low, e) g =
    let P : X → Type 0 = λ v. Contains (f v) y in
    Contains-append_left (f w) (flat_map f xs) y (subst P (sym e) g)
in_flat_map f (w ∷ xs) x y (suc i, low, e) g = Contains-append_right (f w) (flat_map f xs) y (in_flat_map f xs x y (i, omega arith, e) g)

pub in_filter : (p : ℕ → Bool) (xs : List ℕ) (x : ℕ) → p x ≡ true → Contains xs x → Contains (filter p xs) x
in_filter p [] x t (i, low, e) = absurd (omega arith)
in_filter p (w ∷ xs) x t (zero, low, e) =
    let P : Bool → Type 0 = λ b. Contains (cond b (w ∷ filter p xs) (filter p xs)) x in
    subst P (sym (ap p e ∙ t)) (here w x (filter p xs) e)
in_filter p (w ∷ xs) x t (suc i, low, e) = cases (in_filter p xs x t (i, omega arith, e)) (p w)
  where
    cases : Contains (filter p xs) x → (b : Bool) → Contains (cond b (w ∷ filter p xs) (filter p xs)) x
    cases h true = later w x (filter p xs) h
    cases h false = h

pub in_count : {X : Type 0} (n k : ℕ) (xs : List X) → n ≤ k → k < n + length xs → Contains (count_from n xs) k
in_count n k [] low high = absurd (omega arith)
in_count n k (x ∷ xs) low high =
    elim (cases_lt n k) [
      | inl less ↦ later n k (count_from (n + 1) xs) (in_count (n + 1) k xs (omega arith) (omega arith))
      | inr past ↦ here n k (count_from (n + 1) xs) (omega arith)
    ]

pub cuts_whole : (l : Layout) (ps : List Part) (ts : List Token) (ks : List ℕ) → Fits l 0 ps ts ks → Contains (cuts l ps ts) ks
cuts_whole l [] [] [] h = here [] [] [] refl
cuts_whole l [] [] (k ∷ ks) h = absurd h
cuts_whole l [] (t ∷ ts) ks h = absurd h
cuts_whole l (Word w ∷ ps) [] ks h = absurd h
cuts_whole l (Word w ∷ ps) (t ∷ ts) ks h =
    let P : Bool → Type 0 = λ b. Contains (cond b (cuts l ps ts) []) ks in
    subst P (sym h.0) (cuts_whole l ps ts ks h.1)
cuts_whole l (Slot s ∷ ps) ts [] h = absurd h
cuts_whole l (Slot s ∷ ps) ts (k ∷ ks) h =
    let f : ℕ → List (List ℕ) = λ n. map (λ ns. n ∷ ns) (cuts l ps (drop n ts)) in
    let some : 0 < k = h.0 in
    let high : k + (0 + 0) ≤ length ts = h.1 in
    let same : k + (0 + 0) ≡ k = omega arith in
    let P : ℕ → Type 0 = λ n. Contains (cuts l ps (drop n ts)) ks in
    in_flat_map f (phrase_lengths l ts) k (k ∷ ks)
    (in_filter (λ n. is_phrase l (take n ts)) (count_from 1 ts) k h.2 (in_count 1 k ts (omega arith) (omega arith)))
    (in_map (λ ns. k ∷ ns) (cuts l ps (drop k ts)) ks (subst P same (cuts_whole l ps (drop (k + (0 + 0)) ts) ks h.3)))

pub ways_whole : (l : Layout) (ps : List Part) (ts : List Token) (ks : List ℕ) → is_marked ts ≡ false → Fits l 0 ps ts ks → Contains (ways l ps ts) ks
ways_whole l ps ts ks e h =
    let P : Bool → Type 0 = λ b. Contains (cond b (marked_cuts l ps ts) (cuts l ps ts)) ks in
    subst P (sym e) (cuts_whole l ps ts ks h)
