-- The fault that decides is one that none precedes.
use Rattle.std.proofs.Common.{◌≡◌, zero, suc, Bool, true, false, cond, List, [], ◌∷◌, Option, Some, None, refl, ap, arith}
use Rattle.std.specs.Prelude.{All, IfSome}
use Rattle.std.specs.List.{Contains}
use Rattle.std.proofs.lemmas.Bool.{true≢false}
use Rattle.std.proofs.lemmas.List.Elements.{All-nil, All-cons, All-head, All-tail}
use Rattle.le_layout.specs.declared.fault.Fault.{Fault}
use Rattle.le_layout.specs.Fault.{precedes, sooner, IsLeast}
use Rattle.le_layout.proofs.FaultLemmas.{same_not, chain_not, other_not}
use Rattle.le_conds.specs.Faults.{least_of}
use Rattle.le_conds.proofs.SoundLemmas.{least_none}

all_not : (fs : List Fault) (g f : Fault) → All (λ h. precedes h g ≡ false) fs → precedes g f ≡ false → All (λ h. precedes h f ≡ false) fs
all_not [] g f all b = All-nil (λ h. precedes h f ≡ false)
all_not (h ∷ fs) g f all b =
    All-cons (λ h. precedes h f ≡ false) h fs
    (chain_not h g f (All-head (λ h. precedes h g ≡ false) h fs all) b)
    (all_not fs g f (All-tail (λ h. precedes h g ≡ false) h fs all) b)

-- the first of faults that it precedes or equals decides
first_least : (f : Fault) (fs : List Fault) → All (λ h. precedes h f ≡ false) fs → IsLeast (f ∷ fs) f
first_least f fs all = record {
  one = (0, omega arith, refl);
  least = All-cons (λ h. precedes h f ≡ false) f fs (same_not f) all;
}

with_first : (f g : Fault) (fs : List Fault) (b : Bool) → precedes g f ≡ b → IsLeast fs g → IfSome (cond b (Some g) (Some f)) (λ x. IsLeast (f ∷ fs) x)
with_first f g fs true e law = record {
  one = (suc law.one.0, omega (arith, law.one.1), law.one.2);
  least = All-cons (λ h. precedes h g ≡ false) f fs (other_not g f e) law.least;
}
with_first f g fs false e law = first_least f fs (all_not fs g f law.least e)

alone : (f : Fault) (fs : List Fault) → fs ≡ [] → IsLeast (f ∷ fs) f
alone f [] e = first_least f [] (All-nil (λ h. precedes h f ≡ false))
alone f (g ∷ fs) e = absurd (true≢false (ap is_more e))
  where
    is_more : List Fault → Bool
    is_more [] = false
    is_more (x ∷ xs) = true

by_least : (f : Fault) (fs : List Fault) (found : Option Fault) → least_of fs ≡ found → IfSome found (λ g. IsLeast fs g) → IfSome (sooner f found) (λ x. IsLeast (f ∷ fs) x)
by_least f fs None e law = alone f fs (least_none fs e)
by_least f fs (Some g) e law = with_first f g fs (precedes g f) refl law

pub least_law : (fs : List Fault) → IfSome (least_of fs) (λ f. IsLeast fs f)
least_law [] = tt
least_law (f ∷ fs) = by_least f fs (least_of fs) refl (least_law fs)
