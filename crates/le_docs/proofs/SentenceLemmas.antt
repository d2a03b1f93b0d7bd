-- The sentences of a section are runs of tokens that end none.
use Rattle.std.proofs.Common.{◌≡◌, ℕ, zero, suc, ◌+◌, ◌-◌, ◌<◌, ◌≤◌, ◌==◌, ◌⊎◌, inl, inr, ⊎_elim, Bool, true, false, cond, List, [], ◌∷◌, ◌++◌, length, refl, sym, ap, ◌∙◌, subst, arith, true≢false}
use Rattle.std.specs.List.{All, filter}
use Rattle.std.proofs.lemmas.Bool.{cases_order, cases_lt, eq-eqb, ne_eqb}
use Rattle.std.proofs.lemmas.List.Elements.{All-nil, All-cons}
use Rattle.le_layout.specs.declared.span.Span.{Span}
use Rattle.le_layout.specs.declared.layout.Layout.{Layout}
use Rattle.le_layout.proofs.SpanLemmas.{slice_none}
use Rattle.le_docs.specs.Cuts.{Parts, last, part, longer, parts_of, parts_in, some_at, spans_at, open_at}
use Rattle.le_docs.specs.Rule.{ends_at, NoneEnd, AreSentences, Holds, OneHolds}
use Rattle.le_docs.proofs.CutLemmas.{parts_step, some_some}

-- a fact of one token and of all that follow it
step : (l : Layout) (commas b : Bool) (k to : ℕ) → ends_at l commas k ≡ b → ((i : ℕ) → k + 1 ≤ i → i < to → ends_at l commas i ≡ b) → (i : ℕ) → k ≤ i → i < to → ends_at l commas i ≡ b
step l commas b k to e rest i low high =
    ⊎_elim
    (λ (same : k ≡ i). subst (λ j. ends_at l commas j ≡ b) same e)
    (λ (other : (k < i) ⊎ (i < k)). ⊎_elim (λ (less : k < i). rest i (omega (arith, less)) high) (λ (more : i < k). absurd (omega (arith, low, more))) other)
    (cases_order k i)

-- the parts of the tokens from one place to another
abbrev PartsAre : Layout → Bool → ℕ → ℕ → Parts → Type 0
PartsAre l commas from to (last n) = (from + n ≡ to) × NoneEnd l commas from to
PartsAre l commas from to (part n p) = NoneEnd l commas from (from + n) × (ends_at l commas (from + n) ≡ true) × (from + n < to) × PartsAre l commas (from + n + 1) to p

longer_are : (l : Layout) (commas : Bool) (from to : ℕ) (p : Parts) → ends_at l commas from ≡ false → PartsAre l commas (from + 1) to p → PartsAre l commas from to (longer 1 p)
longer_are l commas from to (last n) e h = (omega (arith, h.0), step l commas false from to e h.1)
longer_are l commas from to (part n p) e h =
    let same : from + 1 + n ≡ from + (1 + n) = omega arith in (
      step l commas false from (from + (1 + n)) e (subst (NoneEnd l commas (from + 1)) same h.0),
      subst (λ k. ends_at l commas k ≡ true) same h.1,
      omega (arith, h.2),
      subst (λ k. PartsAre l commas (k + 1) to p) same h.3,
    )

parts_are : (l : Layout) (commas : Bool) (n from to : ℕ) → from + n ≡ to → to ≤ length l.tokens → PartsAre l commas from to (parts_in l commas from to)
unfolding parts_of
parts_are l commas zero from to e high =
    let over : to ≤ from = omega (arith, e) in
    let none : parts_in l commas from to ≡ last 0 = ap (parts_of commas) (slice_none l.tokens from to over) in
    let end : from + 0 ≡ to = omega (arith, e) in
    subst (PartsAre l commas from to) (sym none) (end, λ i low less. absurd (omega (arith, low, less, e)))
parts_are l commas (suc n) from to e high = by (ends_at l commas from) refl (parts_are l commas n (from + 1) to (omega (arith, e)) high) where
  by : (b : Bool) → ends_at l commas from ≡ b → PartsAre l commas (from + 1) to (parts_in l commas (from + 1) to) → PartsAre l commas from to (parts_in l commas from to)
  by true is rest =
      let same : from ≡ from + 0 = omega arith in
      let low : from < to = omega (arith, e) in
      subst (PartsAre l commas from to) (sym (parts_step l commas from to true low high is)) (
        λ i low less. absurd (omega (arith, low, less)),
        subst (λ k. ends_at l commas k ≡ true) same is,
        omega (arith, e),
        subst (λ k. PartsAre l commas (k + 1) to (parts_in l commas (from + 1) to)) same rest,
      )
  by false is rest =
      let low : from < to = omega (arith, e) in
      subst (PartsAre l commas from to) (sym (parts_step l commas from to false low high is)) (longer_are l commas from to (parts_in l commas (from + 1) to) is rest)

-- a token that ends a sentence put before sentences
after_end : (l : Layout) (commas : Bool) (from to : ℕ) (ss : List Span) → ends_at l commas from ≡ true → AreSentences l commas (from + 1) to ss → AreSentences l commas from to ss
after_end l commas from to [] e h = step l commas true from to e h
after_end l commas from to (s ∷ ss) e h = (omega (arith, h.0), step l commas true from s.from e h.1, h.2, h.3, h.4)

spans_are : (l : Layout) (commas : Bool) (from to : ℕ) (p : Parts) → PartsAre l commas from to p → AreSentences l commas from to (spans_at from p)
spans_are l commas from to (last zero) h = λ i low less. absurd (omega (arith, low, less, h.0))
spans_are l commas from to (last (suc n)) h =
    let end = from + suc n in
    let span : Span = record { from = from; to = end } in
    let is : some_at from (suc n) ≡ span ∷ [] = some_some from (suc n) end (omega arith) refl in
    let none : NoneEnd l commas from end = subst (NoneEnd l commas from) (sym h.0) h.1 in
    let all : AreSentences l commas from to (span ∷ []) = (omega arith, λ i low less. absurd (omega (arith, low, less)), omega arith, none, inl (h.0, refl)) in
    subst (AreSentences l commas from to) (sym is) all
spans_are l commas from to (part zero p) h =
    let same : from + 0 ≡ from = omega arith in
    let rest : AreSentences l commas (from + 1) to (spans_at (from + 0 + 1) p) = subst (λ k. AreSentences l commas (k + 1) to (spans_at (from + 0 + 1) p)) same (spans_are l commas (from + 0 + 1) to p h.3) in
    after_end l commas from to (spans_at (from + 0 + 1) p) (subst (λ k. ends_at l commas k ≡ true) same h.1) rest
spans_are l commas from to (part (suc n) p) h =
    let end = from + suc n in
    let span : Span = record { from = from; to = end } in
    let later = spans_at (end + 1) p in
    let is : some_at from (suc n) ≡ span ∷ [] = some_some from (suc n) end (omega arith) refl in
    let rest = after_end l commas end to later h.1 (spans_are l commas (end + 1) to p h.3) in
    let all : AreSentences l commas from to (span ∷ later) = (omega arith, λ i low less. absurd (omega (arith, low, less)), omega arith, h.0, inr (h.2, h.1, rest)) in
    subst (AreSentences l commas from to) (ap (λ v. v ++ later) (sym is)) all

-- the sentence that isn't ended is the one that reaches the end
unended_is : (l : Layout) (commas : Bool) (from to : ℕ) (p : Parts) → PartsAre l commas from to p → open_at from p ≡ filter (λ s. s.to == to) (spans_at from p)
unended_is l commas from to (last zero) h = refl
unended_is l commas from to (last (suc n)) h =
    let end = from + suc n in
    let span : Span = record { from = from; to = end } in
    let is : some_at from (suc n) ≡ span ∷ [] = some_some from (suc n) end (omega arith) refl in
    let kept : span ∷ [] ≡ filter (λ (s : Span). s.to == to) (span ∷ []) = sym (ap (λ b. cond b (span ∷ []) []) (eq-eqb end to h.0)) in
    subst (λ xs. xs ≡ filter (λ (s : Span). s.to == to) xs) (sym is) kept
unended_is l commas from to (part zero p) h = unended_is l commas (from + 0 + 1) to p h.3
unended_is l commas from to (part (suc n) p) h =
    let end = from + suc n in
    let span : Span = record { from = from; to = end } in
    let later = spans_at (end + 1) p in
    let is : some_at from (suc n) ≡ span ∷ [] = some_some from (suc n) end (omega arith) refl in
    let ne : end ≡ to → ⊥ = λ same. absurd (omega (arith, same, h.2)) in
    let dropped : filter (λ (s : Span). s.to == to) (span ∷ later) ≡ filter (λ (s : Span). s.to == to) later = ap (λ b. cond b (span ∷ filter (λ (s : Span). s.to == to) later) (filter (λ (s : Span). s.to == to) later)) (ne_eqb end to ne) in
    unended_is l commas (end + 1) to p h.3 ∙ sym dropped ∙ ap (λ v. filter (λ (s : Span). s.to == to) (v ++ later)) (sym is)

-- the sentences of the tokens of a section
pub sentences_are : (l : Layout) (commas : Bool) (from to : ℕ) → from ≤ to → to ≤ length l.tokens → AreSentences l commas from to (spans_at from (parts_in l commas from to))
sentences_are l commas from to low high =
    let e : from + (to - from) ≡ to = omega (arith, low) in
    spans_are l commas from to (parts_in l commas from to) (parts_are l commas (to - from) from to e high)

-- and the one among them that isn't ended
pub unended_there : (l : Layout) (commas : Bool) (from to : ℕ) → from ≤ to → to ≤ length l.tokens → open_at from (parts_in l commas from to) ≡ filter (λ s. s.to == to) (spans_at from (parts_in l commas from to))
unended_there l commas from to low high =
    let e : from + (to - from) ≡ to = omega (arith, low) in
    unended_is l commas from to (parts_in l commas from to) (parts_are l commas (to - from) from to e high)

-- none of the sentences from a place on holds a token before it
none_before : (l : Layout) (commas : Bool) (from to k : ℕ) (ss : List Span) → k < from → AreSentences l commas from to ss → All (λ s. Holds k s → ⊥) ss
none_before l commas from to k [] low h = All-nil (λ (s : Span). Holds k s → ⊥)
none_before l commas from to k (s ∷ ss) low h =
    let P = λ (r : Span). Holds k r → ⊥ in
    let this : P s = λ at. absurd (omega (arith, at.0, low, h.0)) in
    let rest : All P ss =
    ⊎_elim
    (λ (end : (s.to ≡ to) × (ss ≡ [])). subst (All P) (sym end.1) (All-nil P))
    (λ (more : (s.to < to) × (ends_at l commas s.to ≡ true) × AreSentences l commas s.to to ss). none_before l commas s.to to k ss (omega (arith, low, h.0, h.2, more.0)) more.2)
    h.4 in
    All-cons P s ss this rest

-- a token that ends nothing lies in exactly one sentence
pub one_holds : (l : Layout) (commas : Bool) (from to k : ℕ) (ss : List Span) → AreSentences l commas from to ss → from ≤ k → k < to → ends_at l commas k ≡ false → OneHolds k ss
one_holds l commas from to k [] h low high e = true≢false (sym (h k low high) ∙ e)
one_holds l commas from to k (s ∷ ss) h low high e =
    ⊎_elim
    (λ (before : k < s.from). absurd (true≢false (sym (h.1 k low before) ∙ e)))
    (λ (after : s.from ≤ k).
    ⊎_elim
    (λ (within : k < s.to).
    inl (
      (after, within),
      ⊎_elim
          (λ (end : (s.to ≡ to) × (ss ≡ [])). subst (All (λ r. Holds k r → ⊥)) (sym end.1) (All-nil (λ (r : Span). Holds k r → ⊥)))
          (λ (more : (s.to < to) × (ends_at l commas s.to ≡ true) × AreSentences l commas s.to to ss). none_before l commas s.to to k ss within more.2)
          h.4,
    ))
    (λ (past : s.to ≤ k).
    inr (
      (λ at. absurd (omega (arith, at.1, past))),
      ⊎_elim
          (λ (end : (s.to ≡ to) × (ss ≡ [])). absurd (omega (arith, end.0, past, high)))
          (λ (more : (s.to < to) × (ends_at l commas s.to ≡ true) × AreSentences l commas s.to to ss). one_holds l commas s.to to k ss more.2 past high e)
          h.4,
    ))
    (cases_lt k s.to))
    (cases_lt k s.from)
