-- The bytes of characters that stand in a text.
use Rattle.std.proofs.Common.{◌≡◌, ◌==◌, ℕ, ◌+◌, ◌-◌, ◌≤◌, true, ◌&&◌, List, [], ◌∷◌, ◌++◌, length, take, drop, IsCharBoundary, sym, refl, ap, ap₂, ◌∙◌, subst, ⊎_elim, arith, append_assoc, length-append, take-append-drop, drop-drop, take_at, drop_at}
use Rattle.std.specs.Str.{encode_utf8_all, all_scalars}
use Rattle.std.specs.Char.{encode_utf8, len_utf8}
use Rattle.std.proofs.lemmas.Bool.{cases_Bool, cond-true, cond-false, and_parts, eqb-true}
use Rattle.std.proofs.lemmas.Str.{IsCharBoundary-at_seam, encodes-append, length-encode}
use Rattle.le_layout.specs.declared.place.Place.{Place}
use Rattle.le_layout.specs.Places.{next_place, place_behind}
use Rattle.le_layout.specs.Room.{StandsIn}

-- bytes of places
pub bytes-append : (xs ys : List ℕ) → length (encode_utf8_all (xs ++ ys)) ≡ length (encode_utf8_all xs) + length (encode_utf8_all ys)
bytes-append xs ys = ap length (encodes-append xs ys) ∙ length-append (encode_utf8_all xs) (encode_utf8_all ys)

pub bytes-cons : (c : ℕ) (cs : List ℕ) → length (encode_utf8_all (c ∷ cs)) ≡ len_utf8 c + length (encode_utf8_all cs)
bytes-cons c cs = length-append (encode_utf8 c) (encode_utf8_all cs) ∙ ap (λ n. n + length (encode_utf8_all cs)) (length-encode c)

next_byte : (place : Place) (c : ℕ) → (next_place place c).byte ≡ place.byte + len_utf8 c
unfolding next_place
next_byte place c =
    ⊎_elim (λ h. rw (cond-true (c == 10) _ _ h) (ap (λ d. place.byte + len_utf8 d) (sym (eqb-true c 10 h))))
    (λ h. rw (cond-false (c == 10) _ _ h) refl)
    (cases_Bool (c == 10))

pub behind_byte : (place : Place) (cs : List ℕ) → (place_behind place cs).byte ≡ place.byte + length (encode_utf8_all cs)
behind_byte place [] = omega arith
behind_byte place (c ∷ cs) = omega (arith, behind_byte (next_place place c) cs, next_byte place c, bytes-cons c cs)

pub moved : (front middle after : List ℕ) → front ++ (middle ++ after) ≡ (front ++ middle) ++ after
moved front middle after = sym (append_assoc front middle after)

-- parts of scalar values
pub scalars_parts : (xs ys : List ℕ) → all_scalars (xs ++ ys) ≡ true → (all_scalars xs ≡ true) × (all_scalars ys ≡ true)
scalars_parts [] ys h = (refl, h)
scalars_parts (x ∷ xs) ys h =
    let p = and_parts _ (all_scalars (xs ++ ys)) h in
    let q = scalars_parts xs ys p.1 in
    (ap₂ (λ a b. a && b) p.0 q.0, q.1)

-- the characters that stand at a place, in two parts
pub stands_front : (text : List ℕ) (place : Place) (xs ys : List ℕ) → StandsIn text place (xs ++ ys) → StandsIn text place xs
stands_front text place xs ys s =
    let e : s.front ++ (xs ++ (ys ++ s.back)) ≡ s.front ++ ((xs ++ ys) ++ s.back) = ap (λ zs. s.front ++ zs) (sym (append_assoc xs ys s.back)) in
    record {
      front = s.front;
      back = ys ++ s.back;
      text_is = ap encode_utf8_all e ∙ s.text_is;
      scalars = ap all_scalars e ∙ s.scalars;
      byte = s.byte;
    }

pub stands_next : (text : List ℕ) (place : Place) (xs ys : List ℕ) → StandsIn text place (xs ++ ys) → StandsIn text (place_behind place xs) ys
stands_next text place xs ys s =
    let e : (s.front ++ xs) ++ (ys ++ s.back) ≡ s.front ++ ((xs ++ ys) ++ s.back) = sym (moved s.front xs (ys ++ s.back)) ∙ ap (λ zs. s.front ++ zs) (sym (append_assoc xs ys s.back)) in
    record {
      front = s.front ++ xs;
      back = s.back;
      text_is = ap encode_utf8_all e ∙ s.text_is;
      scalars = ap all_scalars e ∙ s.scalars;
      byte = behind_byte place xs ∙ ap (λ n. n + length (encode_utf8_all xs)) s.byte ∙ sym (bytes-append s.front xs);
    }

-- what is left of a list of characters, and the first of it
pub stands_taken : (text cs : List ℕ) (at n : ℕ) (place : Place) → StandsIn text place (drop at cs) → StandsIn text place (take (at + n - at) (drop at cs))
stands_taken text cs at n place s =
    let count = at + n - at in
    stands_front text place (take count (drop at cs)) (drop count (drop at cs)) (subst (StandsIn text place) (sym (take-append-drop count (drop at cs))) s)

pub stands_on : (text cs : List ℕ) (at n : ℕ) (place behind : Place) → behind ≡ place_behind place (take (at + n - at) (drop at cs)) → StandsIn text place (drop at cs) → StandsIn text behind (drop (at + n) cs)
stands_on text cs at n place behind e s =
    let count = at + n - at in
    let n_is : count ≡ n = omega arith in
    let rest : drop count (drop at cs) ≡ drop (at + n) cs = ap (λ k. drop k (drop at cs)) n_is ∙ drop-drop n at cs in
    let next = stands_next text place (take count (drop at cs)) (drop count (drop at cs)) (subst (StandsIn text place) (sym (take-append-drop count (drop at cs))) s) in
    subst (λ p. StandsIn text p (drop (at + n) cs)) (sym e) (subst (StandsIn text (place_behind place (take count (drop at cs)))) rest next)

-- so the bytes of the first of them can be taken from the text
pub record IsCutOut (text chars : List ℕ) (from to : ℕ) : Type 0 where
  pub ordered : from ≤ to
  pub inside : to ≤ length text
  pub begins : IsCharBoundary text from
  pub ends : IsCharBoundary text to
  pub bytes : take (to - from) (drop from text) ≡ encode_utf8_all chars

pub cut_out : (text : List ℕ) (place behind : Place) (xs : List ℕ) → StandsIn text place xs → behind ≡ place_behind place xs → IsCutOut text xs place.byte behind.byte
cut_out text place behind xs s n =
    let f = encode_utf8_all s.front in
    let m = encode_utf8_all xs in
    let b = encode_utf8_all s.back in
    let rest = (scalars_parts s.front (xs ++ s.back) s.scalars).1 in
    let last = (scalars_parts xs s.back rest).1 in
    let tail : encode_utf8_all (xs ++ s.back) ≡ m ++ b = encodes-append xs s.back in
    let all : text ≡ f ++ (m ++ b) = sym s.text_is ∙ encodes-append s.front (xs ++ s.back) ∙ ap (λ zs. f ++ zs) tail in
    let size : length text ≡ length f + (length m + length b) = ap length all ∙ length-append f (m ++ b) ∙ ap (λ k. length f + k) (length-append m b) in
    let far : behind.byte ≡ place.byte + length m = ap (λ (p : Place). p.byte) n ∙ behind_byte place xs in
    let wide : behind.byte - place.byte ≡ length m = omega (arith, far) in
    record {
      ordered = omega (arith, far);
      inside = omega (arith, far, s.byte, size);
      begins = subst (IsCharBoundary text) (sym s.byte) (IsCharBoundary-at_seam text f (m ++ b) all (xs ++ s.back, (rest, tail)));
      ends = subst (IsCharBoundary text) (length-append f m ∙ omega (arith, far, s.byte)) (IsCharBoundary-at_seam text (f ++ m) b (all ∙ moved f m b) (s.back, (last, refl)));
      bytes = ap₂ (λ k zs. take k zs) wide (ap₂ drop s.byte all ∙ drop_at f (m ++ b) (length f) refl) ∙ take_at m b (length m) refl;
    }
