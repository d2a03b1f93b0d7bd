-- The fault that decides is one that none precedes.
use Rattle.std.proofs.Common.{◌≡◌, ℕ, zero, suc, ◌<◌, ◌≤◌, ◌==◌, ◌&&◌, ◌||◌, ◌⊎◌, inl, inr, ⊎_elim, Bool, true, false, cond, nat_lt, List, [], ◌∷◌, None, Some, refl, sym, ap, ◌∙◌, subst, arith, true≢false}
use Rattle.std.specs.List.{Contains}
use Rattle.std.proofs.lemmas.Bool.{false≢true, cases_order, ltb-true, ltb-false, le-ltb, eqb-true, eq-eqb, ne_eqb}
use Rattle.std.proofs.Math.Bool.{and-false}
use Rattle.std.proofs.lemmas.List.Elements.{All-nil, All-cons, All-head, All-tail}
use Rattle.le_base.specs.Code.{code_number}
use Rattle.le_layout.specs.declared.layout.Layout.{Layout}
use Rattle.le_layout.specs.declared.fault.Fault.{Fault}
use Rattle.le_layout.specs.Fault.{precedes, IsLeast}
use Rattle.le_layout.proofs.FaultLemmas.{same_not, chain_not, other_not}
use Rattle.le_docs.specs.Faults.{least_from}
use Rattle.le_docs.specs.Rule.{IsReported}
use Rattle.le_docs.specs.Sections.{all_faults, all_sections, decided, sections_of}

one_more : (x : Fault) (xs : List Fault) (g : Fault) → Contains xs g → Contains (x ∷ xs) g
one_more x xs g h = (suc h.0, omega (arith, h.1), h.2)

with_second : (f x : Fault) (xs : List Fault) (g : Fault) → Contains (f ∷ xs) g → Contains (f ∷ x ∷ xs) g
with_second f x xs g (zero, low, at) = (0, omega arith, at)
with_second f x xs g (suc k, low, at) = (suc (suc k), omega (arith, low), at)

-- the fault that decides among these and one that was found before
abbrev Found : Fault → List Fault → Type 0
Found f fs = (g : Fault) × (least_from (Some f) fs ≡ Some g) × IsLeast (f ∷ fs) g

found_first : (fs : List Fault) (f : Fault) → Found f fs
found_first [] f =
    let none = λ (other : Fault). precedes other f ≡ false in
    (f, refl, record { one = (0, omega arith, refl); least = All-cons none f [] (same_not f) (All-nil none) })
found_first (x ∷ xs) f = by (precedes x f) refl (found_first xs x) (found_first xs f) where
  by : (b : Bool) → precedes x f ≡ b → Found x xs → Found f xs → Found f (x ∷ xs)
  by true e h other =
      let none = λ (other : Fault). precedes other h.0 ≡ false in
      let is : least_from (Some f) (x ∷ xs) ≡ Some h.0 = ap (λ b. least_from (cond b (Some x) (Some f)) xs) e ∙ h.1 in (
        h.0,
        is,
        record {
          one = one_more f (x ∷ xs) h.0 h.2.one;
          least = All-cons none f (x ∷ xs) (chain_not f x h.0 (other_not x f e) (All-head none x xs h.2.least)) h.2.least;
        },
      )
  by false e other h =
      let none = λ (other : Fault). precedes other h.0 ≡ false in
      let is : least_from (Some f) (x ∷ xs) ≡ Some h.0 = ap (λ b. least_from (cond b (Some x) (Some f)) xs) e ∙ h.1 in
      let mine = All-head none f xs h.2.least in
      let others = All-tail none f xs h.2.least in
      let least = All-cons none f (x ∷ xs) mine (All-cons none x xs (chain_not x f h.0 e mine) others) in
      (h.0, is, record { one = with_second f x xs h.0 h.2.one; least = least })

pub reported : (layout : Layout) → IsReported layout (sections_of layout)
reported layout = by (all_faults layout) refl where
  by : (fs : List Fault) → all_faults layout ≡ fs → IsReported layout (decided layout (least_from None fs) (all_sections layout))
  by [] e = (e, refl)
  by (f ∷ fs) e =
      let h = found_first fs f in
      subst (λ o. IsReported layout (decided layout o (all_sections layout))) (sym h.1) (h.0, subst (λ xs. IsLeast xs h.0) (sym e) h.2, refl)
