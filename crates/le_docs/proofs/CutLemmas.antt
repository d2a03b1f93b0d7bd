-- One step of the walks that cut a section into sentences and join the words of a name.
use Rattle.std.proofs.Common.{◌≡◌, ℕ, ◌+◌, ◌-◌, ◌<◌, ◌≤◌, Bool, true, false, cond, List, [], ◌∷◌, ◌++◌, length, get_or, slice_range, append_assoc, ◌⊎◌, ⊎_elim, sym, ap, ◌∙◌, arith}
use Rattle.std.proofs.lemmas.Bool.{cond-false, ne_eqb}
use Rattle.le_layout.specs.declared.span.Span.{Span}
use Rattle.le_layout.specs.declared.layout.Layout.{Layout}
use Rattle.le_layout.specs.Layout.{no_token, token_text}
use Rattle.le_docs.specs.Kinds.{ends_sentence}
use Rattle.le_docs.specs.Cuts.{Parts, last, part, longer, parts_of, parts_in, some_at, spans_at, open_at}
use Rattle.le_layout.proofs.SpanLemmas.{slice_more, slice_none}

longer_longer : (n m : ℕ) (p : Parts) → m ≡ n + 1 → longer n (longer 1 p) ≡ longer m p
longer_longer n m (last k) e = let h : n + (1 + k) ≡ m + k = omega arith in ap last h
longer_longer n m (part k p) e = let h : n + (1 + k) ≡ m + k = omega arith in ap (λ i. part i p) h

pub longer_none : (p : Parts) → longer 0 p ≡ p
longer_none (last k) = let h : 0 + k ≡ k = omega arith in ap last h
longer_none (part k p) = let h : 0 + k ≡ k = omega arith in ap (λ i. part i p) h

pub parts_step : (l : Layout) (commas : Bool) (k to : ℕ) (b : Bool) → k < to → to ≤ length l.tokens → ends_sentence commas (get_or l.tokens k no_token).kind ≡ b → parts_in l commas k to ≡ cond b (part 0 (parts_in l commas (k + 1) to)) (longer 1 (parts_in l commas (k + 1) to))
unfolding parts_of
parts_step l commas k to b low high e =
    ap (parts_of commas) (slice_more l.tokens k to no_token low high)
    ∙ ap (λ w. cond w (part 0 (parts_in l commas (k + 1) to)) (longer 1 (parts_in l commas (k + 1) to))) e

-- a token that ends nothing makes the first part longer
pub goes_on : (l : Layout) (commas : Bool) (start k to : ℕ) → start ≤ k → k < to → to ≤ length l.tokens → ends_sentence commas (get_or l.tokens k no_token).kind ≡ false → longer (k - start) (parts_in l commas k to) ≡ longer (k + 1 - start) (parts_in l commas (k + 1) to)
goes_on l commas start k to begun low high e =
    ap (longer (k - start)) (parts_step l commas k to false low high e) ∙ longer_longer (k - start) (k + 1 - start) (parts_in l commas (k + 1) to) (omega arith)

-- a token that ends a sentence ends the first part, and another begins after it
pub ends : (l : Layout) (commas : Bool) (start k to : ℕ) → start ≤ k → k < to → to ≤ length l.tokens → ends_sentence commas (get_or l.tokens k no_token).kind ≡ true → longer (k - start) (parts_in l commas k to) ≡ part (k - start) (longer (k + 1 - (k + 1)) (parts_in l commas (k + 1) to))
ends l commas start k to begun low high e =
    let p = parts_in l commas (k + 1) to in
    let none : k + 1 - (k + 1) ≡ 0 = omega arith in
    let same : k - start + 0 ≡ k - start = omega arith in
    ap (longer (k - start)) (parts_step l commas k to true low high e)
    ∙ ap (λ i. part i p) same
    ∙ ap (part (k - start)) (sym (longer_none p) ∙ ap (λ i. longer i p) (sym none))

pub spans_end : (start k : ℕ) (p : Parts) → start ≤ k → spans_at start (part (k - start) p) ≡ some_at start (k - start) ++ spans_at (k + 1) p
spans_end start k p begun = let e : start + (k - start) + 1 ≡ k + 1 = omega arith in ap (λ i. some_at start (k - start) ++ spans_at i p) e

pub open_end : (start k : ℕ) (p : Parts) → start ≤ k → open_at start (part (k - start) p) ≡ open_at (k + 1) p
open_end start k p begun = let e : start + (k - start) + 1 ≡ k + 1 = omega arith in ap (λ i. open_at i p) e

pub some_none : (at n : ℕ) → n ≡ 0 → some_at at n ≡ []
some_none at n e = ap (some_at at) e

pub some_some : (at n to : ℕ) → 0 < n → at + n ≡ to → some_at at n ≡ record { from = at; to = to } ∷ []
some_some at n to low e =
    let ne : n ≡ 0 → ⊥ = λ z. absurd (omega arith) in
    cond-false _ _ _ (ne_eqb n 0 ne) ∙ ap (λ (t : ℕ). record { from = at; to = t } ∷ []) e

-- at the end there is one part left
pub ended : (l : Layout) (commas : Bool) (start k to : ℕ) → start ≤ k → to ≤ k → (k ≤ to) ⊎ (start ≡ k) → longer (k - start) (parts_in l commas k to) ≡ last (to - start)
unfolding parts_of
ended l commas start k to begun over h =
    let e : k - start + 0 ≡ to - start = ⊎_elim (λ same. omega arith) (λ same. omega arith) h in
    ap (λ ts. longer (k - start) (parts_of commas ts)) (slice_none l.tokens k to over) ∙ ap last e

-- what was found, and one more list of spans
pub more_spans : (xs zs ys rest all : List Span) → zs ≡ xs ++ ys → xs ++ (ys ++ rest) ≡ all → zs ++ rest ≡ all
more_spans xs zs ys rest all e h = ap (λ v. v ++ rest) e ∙ append_assoc xs ys rest ∙ h

pub all_spans : (xs zs ys all : List Span) → zs ≡ xs ++ ys → xs ++ ys ≡ all → zs ≡ all
all_spans xs zs ys all e h = e ∙ h
