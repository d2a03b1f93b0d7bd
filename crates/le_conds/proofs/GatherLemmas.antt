-- The first place after a gather's words, one token further.
use Rattle.std.proofs.Common.{◌≡◌, ℕ, zero, suc, ◌+◌, ◌-◌, ◌<◌, ◌≤◌, ◌&&◌, Bool, true, false, nat_le, Option, None, Some, ⊎_elim, refl, sym, ap, ◌∙◌, arith}
use Rattle.std.proofs.lemmas.Bool.{cases_lt, and_parts, leb-true}
use Rattle.std.proofs.lemmas.Option.{none-some}
use Rattle.le_layout.specs.declared.layout.Layout.{Layout}
use Rattle.le_conds.specs.Openers.{or_here, first_after, ends_each, ends_such_that, says_each, says_such_that, each_end, such_that_end, gather_end}

after_none : (is_so : ℕ → Bool) (from n : ℕ) → n ≡ 0 → first_after is_so from n ≡ None
unfolding first_after
after_none is_so from n e = ap (first_after is_so from) e

after_suc : (is_so : ℕ → Bool) (from n k : ℕ) → from + suc n ≡ k → first_after is_so from (suc n) ≡ or_here (first_after is_so from n) (is_so k) k
unfolding first_after
after_suc is_so from n k e = ap (λ (i : ℕ). or_here (first_after is_so from n) (is_so i) i) e

-- the first place up to the next token is the one up to this token, or else the next
pub after_step : (is_so : ℕ → Bool) (from k : ℕ) → (k < from → is_so (k + 1) ≡ false) → first_after is_so from (k + 1 - from) ≡ or_here (first_after is_so from (k - from)) (is_so (k + 1)) (k + 1)
after_step is_so from k short = ⊎_elim
    (λ (low : k < from).
    let one : k + 1 - from ≡ 0 = omega arith in
    let none : k - from ≡ 0 = omega arith in
    after_none is_so from (k + 1 - from) one
    ∙ sym (ap (λ found. or_here found (is_so (k + 1)) (k + 1)) (after_none is_so from (k - from) none) ∙ ap (λ b. or_here None b (k + 1)) (short low)))
    (λ (high : from ≤ k).
    let e : k + 1 - from ≡ suc (k - from) = omega arith in
    ap (first_after is_so from) e ∙ after_suc is_so from (k - from) (k + 1) (omega arith))
    (cases_lt k from)

each_short : (l : Layout) (from k : ℕ) → k < from → ends_each l from (k + 1) ≡ false
unfolding ends_each
each_short l from k h = let none : k + 1 - from ≡ 0 = omega arith in ap (λ n. nat_le 5 n && says_each l (k + 1 - 5)) none

such_that_short : (l : Layout) (from k : ℕ) → k < from → ends_such_that l from (k + 1) ≡ false
unfolding ends_such_that
such_that_short l from k h = let none : k + 1 - from ≡ 0 = omega arith in ap (λ n. nat_le 2 n && says_such_that l (k + 1 - 2)) none

pub each_step : (l : Layout) (from k : ℕ) → each_end l from (k + 1) ≡ or_here (each_end l from k) (ends_each l from (k + 1)) (k + 1)
each_step l from k = after_step (ends_each l from) from k (each_short l from k)

-- where `is the sum of each` was found
pub each_kept : (l : Layout) (from k each : ℕ) → Some each ≡ each_end l from k → Some each ≡ each_end l from (k + 1)
each_kept l from k each e = sym (each_step l from k ∙ ap (λ found. or_here found (ends_each l from (k + 1)) (k + 1)) (sym e))

pub gather_more : (l : Layout) (from k each : ℕ) (found : Option ℕ) → Some each ≡ each_end l from k → found ≡ gather_end l from k → or_here found (ends_such_that l each (k + 1)) (k + 1) ≡ gather_end l from (k + 1)
gather_more l from k each found e f =
    ap (λ g. or_here g (ends_such_that l each (k + 1)) (k + 1)) (f ∙ sym (ap (λ g. such_that_end l g k) e))
    ∙ sym (after_step (ends_such_that l each) each k (such_that_short l each k))
    ∙ ap (λ g. such_that_end l g (k + 1)) (each_kept l from k each e)

-- where it wasn't found yet
pub each_found : (l : Layout) (from k : ℕ) → None ≡ each_end l from k → or_here None (ends_each l from (k + 1)) (k + 1) ≡ each_end l from (k + 1)
each_found l from k e = sym (each_step l from k ∙ ap (λ found. or_here found (ends_each l from (k + 1)) (k + 1)) (sym e))

nothing_yet : (l : Layout) (b : Bool) (k : ℕ) → such_that_end l (or_here None b k) k ≡ None
nothing_yet l true k = let none : k - k ≡ 0 = omega arith in after_none (ends_such_that l k) k (k - k) none
nothing_yet l false k = refl

pub gather_none : (l : Layout) (from k : ℕ) → None ≡ each_end l from k → None ≡ gather_end l from (k + 1)
gather_none l from k e = sym (ap (λ g. such_that_end l g (k + 1)) (sym (each_found l from k e)) ∙ nothing_yet l (ends_each l from (k + 1)) (k + 1))

-- nothing is found in no content
pub no_each : (l : Layout) (from k : ℕ) → k ≤ from → each_end l from k ≡ None
no_each l from k h = after_none (ends_each l from) from (k - from) (omega arith)

pub no_gather : (l : Layout) (from k : ℕ) → k ≤ from → gather_end l from k ≡ None
no_gather l from k h = ap (λ g. such_that_end l g k) (no_each l from k h)

-- a place that was found is one of those after the first, and it is so there
record FoundAt (is_so : ℕ → Bool) (from n k : ℕ) : Type 0 where
  holds : is_so k ≡ true
  above : from < k
  within : k ≤ from + n

the_place : Option ℕ → ℕ
the_place None = 0
the_place (Some k) = k

found_step : (is_so : ℕ → Bool) (from n k : ℕ) (found : Option ℕ) (b : Bool) → ((j : ℕ) → found ≡ Some j → FoundAt is_so from n j) → is_so (from + suc n) ≡ b → or_here found b (from + suc n) ≡ Some k → FoundAt is_so from (suc n) k
unfolding the_place
found_step is_so from n k (Some j) b before here e =
    let r = before k e in
    record { holds = r.holds; above = r.above; within = omega (arith, r.within) }
found_step is_so from n k None true before here e =
    let same : from + suc n ≡ k = ap the_place e in
    record { holds = ap is_so (sym same) ∙ here; above = omega (arith, same); within = omega (arith, same) }
found_step is_so from n k None false before here e = absurd (none-some k e)

found_at : (is_so : ℕ → Bool) (from n k : ℕ) → first_after is_so from n ≡ Some k → FoundAt is_so from n k
unfolding first_after
found_at is_so from zero k e = absurd (none-some k e)
found_at is_so from (suc n) k e = found_step is_so from n k (first_after is_so from n) (is_so (from + suc n)) (λ j. found_at is_so from n j) refl e

pub each_bounds : (l : Layout) (from to each : ℕ) → each_end l from to ≡ Some each → (from + 5 ≤ each) × (each ≤ to)
unfolding ends_each
each_bounds l from to each e =
    let r = found_at (ends_each l from) from (to - from) each e in
    let five = leb-true 5 (each - from) (and_parts (nat_le 5 (each - from)) (says_each l (each - 5)) r.holds).0 in
    (omega (arith, five, r.above), omega (arith, r.above, r.within))

pub that_bounds : (l : Layout) (from to each that : ℕ) → each_end l from to ≡ Some each → gather_end l from to ≡ Some that → (each + 2 ≤ that) × (that ≤ to)
unfolding ends_such_that
that_bounds l from to each that e f =
    let r = found_at (ends_such_that l each) each (to - each) that (sym (ap (λ g. such_that_end l g to) e) ∙ f) in
    let two = leb-true 2 (that - each) (and_parts (nat_le 2 (that - each)) (says_such_that l (that - 2)) r.holds).0 in
    (omega (arith, two, r.above), omega (arith, r.above, r.within))
