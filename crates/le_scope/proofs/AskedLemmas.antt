-- The numbers of the names that `which` introduced.
use Rattle.std.proofs.Common.{◌≡◌, ℕ, ◌+◌, ◌<◌, ◌≤◌, min, nat_lt, cond, List, [], ◌∷◌, ◌++◌, length, take, subst, sym, refl, ap, ◌∙◌, ⊎_elim, arith}
use Rattle.std.proofs.lemmas.Bool.{lt-ltb, le-ltb, cases_lt}
use Rattle.std.proofs.lemmas.List.{length-append, length-take, take_all, take-take}
use Rattle.le_scope.specs.Scopes.{ScopeState, IsScope, Ascend, first_names, numbers_below}

pub ascend_within : (least most : ℕ) (ns : List ℕ) → Ascend least ns most → least ≤ most
ascend_within least most [] h = h
ascend_within least most (n ∷ ns) h = let g = ascend_within (n + 1) most ns h.1 in let k = h.0 in omega (arith, g, k)

-- a greater bound
pub ascend_wider : (least most wide : ℕ) (ns : List ℕ) → most ≤ wide → Ascend least ns most → Ascend least ns wide
ascend_wider least most wide [] e h = omega (arith, e, h)
ascend_wider least most wide (n ∷ ns) e h = (h.0, ascend_wider (n + 1) most wide ns e h.1)

-- one number more
pub ascend_push : (least most : ℕ) (ns : List ℕ) → Ascend least ns most → Ascend least (ns ++ most ∷ []) (most + 1)
ascend_push least most [] h = (h, omega arith)
ascend_push least most (n ∷ ns) h = (h.0, ascend_push (n + 1) most ns h.1)

-- those below a bound
below_none : (least bound most : ℕ) (ns : List ℕ) → bound ≤ least → Ascend least ns most → numbers_below bound ns ≡ []
below_none least bound most [] e h = refl
below_none least bound most (n ∷ ns) e h =
    let k = h.0 in
    ap (λ b. cond b (n ∷ numbers_below bound ns) (numbers_below bound ns)) (le-ltb n bound (omega (arith, e, k)))
    ∙ below_none (n + 1) bound most ns (omega (arith, e, k)) h.1

pub ascend_below : (least bound most : ℕ) (ns : List ℕ) → least ≤ bound → Ascend least ns most → Ascend least (numbers_below bound ns) bound
ascend_below least bound most [] e h = e
ascend_below least bound most (n ∷ ns) e h = ⊎_elim
    (λ (k : n < bound). subst (λ s. Ascend least s bound) (sym (ap (λ b. cond b (n ∷ numbers_below bound ns) (numbers_below bound ns)) (lt-ltb n bound k))) (h.0, ascend_below (n + 1) bound most ns (omega (arith, k)) h.1))
    (λ (k : bound ≤ n). subst (λ s. Ascend least s bound) (sym (ap (λ b. cond b (n ∷ numbers_below bound ns) (numbers_below bound ns)) (le-ltb n bound k) ∙ below_none (n + 1) bound most ns (omega (arith, k)) h.1)) e)
    (cases_lt n bound)

pub all_below : (least most : ℕ) (ns : List ℕ) → Ascend least ns most → numbers_below most ns ≡ ns
all_below least most [] h = refl
all_below least most (n ∷ ns) h =
    let k = ascend_within (n + 1) most ns h.1 in
    ap (λ b. cond b (n ∷ numbers_below most ns) (numbers_below most ns)) (lt-ltb n most (omega (arith, k)))
    ∙ ap (λ s. n ∷ s) (all_below (n + 1) most ns h.1)

-- a scope is that of all its names
pub whole_scope : (scope : ScopeState) → IsScope scope → first_names scope (length scope.names) ≡ scope
whole_scope scope h =
    ap (λ ns. record { limit = scope.limit; names = ns; asked = numbers_below (length scope.names) scope.asked }) (take_all (length scope.names) scope.names (omega arith))
    ∙ ap (λ ns. record { limit = scope.limit; names = scope.names; asked = ns }) (all_below 0 (length scope.names) scope.asked h.noted)

-- ---- what the calls keep

pub with_name_kept : (before after : ScopeState) (name : List ℕ) → IsScope before → length before.names < before.limit → after.limit ≡ before.limit → after.names ≡ before.names ++ name ∷ [] → after.asked ≡ before.asked → IsScope after
with_name_kept before after name h room limit names asked =
    let size : length after.names ≡ length before.names + 1 = ap length names ∙ length-append before.names (name ∷ []) in
    let few = h.few in
    let small = h.small in
    record {
      few = omega (arith, size, limit, room);
      small = omega (arith, limit, small);
      noted = subst (λ n. Ascend 0 after.asked n) (sym size) (subst (λ ns. Ascend 0 ns (length before.names + 1)) (sym asked) (ascend_wider 0 (length before.names) (length before.names + 1) before.asked (omega arith) h.noted));
    }

pub with_asked_kept : (before after : ScopeState) (name : List ℕ) → IsScope before → length before.names < before.limit → after.limit ≡ before.limit → after.names ≡ before.names ++ name ∷ [] → after.asked ≡ before.asked ++ length before.names ∷ [] → IsScope after
with_asked_kept before after name h room limit names asked =
    let size : length after.names ≡ length before.names + 1 = ap length names ∙ length-append before.names (name ∷ []) in
    let few = h.few in
    let small = h.small in
    record {
      few = omega (arith, size, limit, room);
      small = omega (arith, limit, small);
      noted = subst (λ n. Ascend 0 after.asked n) (sym size) (subst (λ ns. Ascend 0 ns (length before.names + 1)) (sym asked) (ascend_push 0 (length before.names) before.asked h.noted));
    }

pub first_kept : (before after : ScopeState) (n : ℕ) → IsScope before → after.limit ≡ before.limit → after.names ≡ take n before.names → after.asked ≡ numbers_below n before.asked → IsScope after
first_kept before after n h limit names asked =
    let size : length after.names ≡ min n (length before.names) = ap length names ∙ length-take n before.names in
    let few = h.few in
    let small = h.small in
    record {
      few = omega (arith, size, limit, few);
      small = omega (arith, limit, small);
      noted = ⊎_elim
          (λ (k : n < length before.names). subst (λ m. Ascend 0 after.asked m) (let g : n ≡ length after.names = omega (arith, size, k) in g) (subst (λ ns. Ascend 0 ns n) (sym asked) (ascend_below 0 n (length before.names) before.asked (omega arith) h.noted)))
          (λ (k : length before.names ≤ n). subst (λ m. Ascend 0 after.asked m) (let g : length before.names ≡ length after.names = omega (arith, size, k) in g) (subst (λ ns. Ascend 0 ns (length before.names)) (sym (asked ∙ all_below 0 n before.asked (ascend_wider 0 (length before.names) n before.asked k h.noted))) h.noted))
          (cases_lt n (length before.names));
    }

-- ---- the first names of the first names

below_twice : (m n : ℕ) (ks : List ℕ) → m ≤ n → numbers_below m (numbers_below n ks) ≡ numbers_below m ks
below_twice m n [] e = refl
below_twice m n (k ∷ ks) e = ⊎_elim
    (λ (h : k < n).
    ap (λ b. numbers_below m (cond b (k ∷ numbers_below n ks) (numbers_below n ks))) (lt-ltb k n h)
    ∙ ap (λ s. cond (nat_lt k m) (k ∷ s) s) (below_twice m n ks e))
    (λ (h : n ≤ k).
    ap (λ b. numbers_below m (cond b (k ∷ numbers_below n ks) (numbers_below n ks))) (le-ltb k n h)
    ∙ below_twice m n ks e
    ∙ sym (ap (λ b. cond b (k ∷ numbers_below m ks) (numbers_below m ks)) (le-ltb k m (omega (arith, e, h)))))
    (cases_lt k n)

pub first_twice : (scope : ScopeState) (m n : ℕ) → m ≤ n → first_names (first_names scope n) m ≡ first_names scope m
first_twice scope m n e =
    ap (λ ns. record { limit = scope.limit; names = ns; asked = numbers_below m (numbers_below n scope.asked) }) (take-take m n scope.names e)
    ∙ ap (λ ns. record { limit = scope.limit; names = take m scope.names; asked = ns }) (below_twice m n scope.asked e)
