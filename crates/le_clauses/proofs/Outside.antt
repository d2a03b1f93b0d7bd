-- A variable of a group occurs more often in its rule exactly where it occurs before the group or after it.
use Rattle.std.proofs.Common.{◌≡◌, ◌+◌, ℕ, suc, ◌==◌, ◌||◌, Bool, true, false, cond, ltb, List, [], ◌∷◌, ◌++◌, sym, ap, ◌∙◌, arith}
use Rattle.std.proofs.lemmas.Bool.{ltb-true, lt-ltb, le-ltb}
use Rattle.le_clauses.specs.Conditions.{Condition, occurring}
use Rattle.le_clauses.specs.Groups.{has, count_in, is_outside}
use Rattle.le_clauses.proofs.ForSome.{same_tests}
use Rattle.le_clauses.proofs.Sets.{has-append}

append_step : (b : Bool) (n x y : ℕ) → n ≡ x + y → cond b (suc n) n ≡ cond b (suc x) x + y
append_step true n x y e = omega (arith, e)
append_step false n x y e = e

count-append : (xs ys : List ℕ) (v : ℕ) → count_in (xs ++ ys) v ≡ count_in xs v + count_in ys v
count-append [] ys v = omega arith
count-append (x ∷ xs) ys v = append_step (x == v) (count_in (xs ++ ys) v) (count_in xs v) (count_in ys v) (count-append xs ys v)

has_step : (b c : Bool) (n : ℕ) → c ≡ ltb 0 n → (b || c) ≡ ltb 0 (cond b (suc n) n)
has_step true c n e = sym (lt-ltb 0 (suc n) (omega arith))
has_step false c n e = e

has_count : (xs : List ℕ) (v : ℕ) → has xs v ≡ ltb 0 (count_in xs v)
has_count [] v = sym (le-ltb 0 0 (omega arith))
has_count (x ∷ xs) v = has_step (x == v) (has xs v) (count_in xs v) (has_count xs v)

-- A variable of a group occurs more often in its rule exactly where it also stands before the group or after it.
pub outside_law : (before after : List ℕ) (c : Condition) (v : ℕ) → is_outside (before ++ (occurring c ++ after)) c v ≡ (has before v || has after v)
outside_law before after c v =
    let inner = count_in (occurring c) v in
    let total : count_in (before ++ (occurring c ++ after)) v ≡ count_in before v + (inner + count_in after v) = count-append before (occurring c ++ after) v ∙ ap (λ n. count_in before v + n) (count-append (occurring c) after v) in
    ap (ltb inner) total
    ∙ same_tests (ltb inner (count_in before v + (inner + count_in after v))) (ltb 0 (count_in (before ++ after) v))
    (λ h. lt-ltb 0 (count_in (before ++ after) v) (omega (arith, ltb-true inner (count_in before v + (inner + count_in after v)) h, count-append before after v)))
    (λ h. lt-ltb inner (count_in before v + (inner + count_in after v)) (omega (arith, ltb-true 0 (count_in (before ++ after) v) h, count-append before after v)))
    ∙ sym (has_count (before ++ after) v) ∙ has-append before after v
