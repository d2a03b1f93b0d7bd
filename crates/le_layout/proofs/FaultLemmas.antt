-- Precedence of faults: none precedes itself, and not to precede carries over.
use Rattle.std.proofs.Common.{◌≡◌, ◌≤◌, ◌==◌, ◌&&◌, ◌||◌, Bool, true, false, nat_lt, refl, sym, ap, ◌∙◌, arith}
use Rattle.std.proofs.lemmas.Bool.{or_parts, le-ltb, ltb-false, eqb-true, eq-eqb, ltb-true, true≢false}
use Rattle.le_base.specs.Code.{code_number}
use Rattle.le_layout.specs.declared.fault.Fault.{Fault}
use Rattle.le_layout.specs.Fault.{precedes}

-- what it is not to precede: a greater place, or the same with no lesser number
record NotBefore (f g : Fault) : Type 0 where
  place : g.place ≤ f.place
  number : f.place ≡ g.place → code_number g.code ≤ code_number f.code

not_before : (f g : Fault) → precedes f g ≡ false → NotBefore f g
not_before f g e =
    let parts = or_parts (nat_lt f.place g.place) ((f.place == g.place) && nat_lt (code_number f.code) (code_number g.code)) e in
    record {
      place = ltb-false f.place g.place parts.0;
      number = λ (same : f.place ≡ g.place). ltb-false (code_number f.code) (code_number g.code) (sym (ap (λ b. b && nat_lt (code_number f.code) (code_number g.code)) (eq-eqb f.place g.place same)) ∙ parts.1);
    }

both_false : (a b : Bool) → a ≡ false → b ≡ false → (a || b) ≡ false
both_false a b e f = ap (λ x. x || b) e ∙ f

by_equal : (f g : Fault) (b : Bool) → (f.place == g.place) ≡ b → NotBefore f g → (b && nat_lt (code_number f.code) (code_number g.code)) ≡ false
by_equal f g true e n = le-ltb (code_number f.code) (code_number g.code) (n.number (eqb-true f.place g.place e))
by_equal f g false e n = refl

before_not : (f g : Fault) → NotBefore f g → precedes f g ≡ false
before_not f g n =
    both_false (nat_lt f.place g.place) ((f.place == g.place) && nat_lt (code_number f.code) (code_number g.code))
    (le-ltb f.place g.place n.place) (by_equal f g (f.place == g.place) refl n)

-- no fault precedes itself
pub same_not : (f : Fault) → precedes f f ≡ false
same_not f = before_not f f (record { place = omega arith; number = λ (e : f.place ≡ f.place). omega arith })

-- where one fault doesn't precede another, and that not a third, the first doesn't precede the third
pub chain_not : (h g f : Fault) → precedes h g ≡ false → precedes g f ≡ false → precedes h f ≡ false
chain_not h g f a b =
    let x = not_before h g a in
    let y = not_before g f b in
    before_not h f (record {
      place = omega (arith, x.place, y.place);
      number = λ (e : h.place ≡ f.place).
          let i : h.place ≡ g.place = omega (arith, x.place, y.place, e) in
          let j : g.place ≡ f.place = omega (arith, x.place, y.place, e) in
          let m = x.number i in
          let n = y.number j in
          omega (arith, m, n);
    })

by_parts : (g f : Fault) (low same less : Bool) → nat_lt g.place f.place ≡ low → (g.place == f.place) ≡ same → nat_lt (code_number g.code) (code_number f.code) ≡ less → (low || (same && less)) ≡ true → NotBefore f g
by_parts g f true same less a b c h =
    let low = ltb-true g.place f.place a in
    record { place = omega (arith, low); number = λ (e : f.place ≡ g.place). omega (arith, low, e) }
by_parts g f false true true a b c h =
    let e = eqb-true g.place f.place b in
    let low = ltb-true (code_number g.code) (code_number f.code) c in
    record { place = omega (arith, e); number = λ (e2 : f.place ≡ g.place). omega (arith, low) }
by_parts g f false true false a b c h = absurd (true≢false (sym h))
by_parts g f false false less a b c h = absurd (true≢false (sym h))

-- of two faults one doesn't precede the other
pub other_not : (g f : Fault) → precedes g f ≡ true → precedes f g ≡ false
other_not g f e = before_not f g (by_parts g f (nat_lt g.place f.place) (g.place == f.place) (nat_lt (code_number g.code) (code_number f.code)) refl refl refl e)
