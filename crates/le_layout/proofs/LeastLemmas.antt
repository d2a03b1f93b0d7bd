-- No fault of a text precedes the one that is reported.
use Rattle.std.proofs.Common.{◌≡◌, ◌==◌, ◌⊎◌, ℕ, ◌+◌, ◌*◌, ◌/◌, ◌<◌, ◌≤◌, Bool, true, false, if◌then◌else◌, ◌&&◌, List, [], ◌∷◌, ◌++◌, length, Ok, Err, IsUtf8, chars, sym, refl, ◌∙◌, subst, inl, inr, ⊎_elim, arith, append_assoc}
use Rattle.std.specs.List.{AllByRecursion}
use Rattle.std.specs.Str.{is_utf8, encode_utf8_all}
use Rattle.std.proofs.lemmas.Bool.{cases_Bool, cond-true, cond-false}
use Rattle.std.proofs.lemmas.List.Elements.{All-from_recursion}
use Rattle.std.proofs.lemmas.Str.{is_utf8-from_IsUtf8}
use Rattle.le_base.specs.Code.{code_number}
use Rattle.le_base.specs.declared.code.Code.TheVariants.{BadCharacter}
use Rattle.le_base.specs.declared.stop.Refusal.{Refusal}
use Rattle.le_layout.specs.declared.place.Place.{Place}
use Rattle.le_layout.specs.declared.piece.Form.{Form}
use Rattle.le_layout.specs.declared.piece.Form.TheVariants as forms
use Rattle.le_layout.specs.declared.layout.Layout.{Layout}
use Rattle.le_layout.specs.Places.{next_column, next_place, place_behind, refused}
use Rattle.le_layout.specs.Pieces.{Piece, pieces_of, Cuts}
use Rattle.le_layout.specs.Faults.{is_bad_number, is_bad_date, word_faults, faults_among, single_faults, own_faults, is_word_form, begins_comment, faults_at, faults_from, unless_faulty, Precedes, IsLeastFault}
use Rattle.le_layout.specs.Layout.{faults_of, layout_in, layout_of}
use Rattle.le_layout.proofs.CutLemmas.{cuts-pieces_of}
use Rattle.le_layout.proofs.SoundLemmas.{piece_some}

-- places in order
abbrev Before : Place → Place → Type 0
Before a b = (a.line < b.line) ⊎ ((a.line ≡ b.line) × (a.column < b.column))

abbrev NotAfter : Place → Place → Type 0
NotAfter a b = (a.line < b.line) ⊎ ((a.line ≡ b.line) × (a.column ≤ b.column))

column_later : (column c : ℕ) → column < next_column column c
column_later column c =
    ⊎_elim (λ (h : (c == 9) ≡ true). rw (cond-true _ ((column / 4 + 1) * 4) (column + 1) h) (omega arith))
    (λ (h : (c == 9) ≡ false). rw (cond-false _ ((column / 4 + 1) * 4) (column + 1) h) (omega arith))
    (cases_Bool (c == 9))

next_after : (place : Place) (c : ℕ) → Before place (next_place place c)
unfolding next_place
next_after place c =
    ⊎_elim (λ h. rw (cond-true (c == 10) _ _ h) (inl (omega arith)))
    (λ h. rw (cond-false (c == 10) _ _ h) (inr (refl, column_later place.column c)))
    (cases_Bool (c == 10))

before_through : (a b c : Place) → Before a b → NotAfter b c → Before a c
before_through a b c h k =
    ⊎_elim (λ l. ⊎_elim (λ m. inl (omega (arith, l, m))) (λ m. inl (omega (arith, l, m.0))) k)
    (λ l. ⊎_elim (λ m. inl (omega (arith, l.0, m))) (λ m. inr (l.0 ∙ m.0, omega (arith, l.1, m.1))) k)
    h

weaker : (a b : Place) → Before a b → NotAfter a b
weaker a b h = ⊎_elim (λ l. inl l) (λ l. inr (l.0, omega (arith, l.1))) h

behind_not_after : (place : Place) (cs : List ℕ) → NotAfter place (place_behind place cs)
behind_not_after place [] = inr (refl, omega arith)
behind_not_after place (c ∷ cs) = weaker place (place_behind (next_place place c) cs) (before_through place (next_place place c) (place_behind (next_place place c) cs) (next_after place c) (behind_not_after (next_place place c) cs))

behind_after : (place : Place) (cs : List ℕ) → 0 < length cs → Before place (place_behind place cs)
behind_after place [] n = absurd (omega arith)
behind_after place (c ∷ cs) n = before_through place (next_place place c) (place_behind (next_place place c) cs) (next_after place c) (behind_not_after (next_place place c) cs)

-- a fault that doesn't stand before a place, with a number from 3 on
record IsFrom (place : Place) (r : Refusal) : Type 0 where
  later : (place.line < r.line) ⊎ ((place.line ≡ r.line) × (place.column + 1 ≤ r.column))
  high : 3 ≤ code_number r.code

from_earlier : (a b : Place) (r : Refusal) → NotAfter a b → IsFrom b r → IsFrom a r
from_earlier a b r h f = record {
  later = ⊎_elim (λ l. ⊎_elim (λ m. inl (omega (arith, l, m))) (λ m. inl (omega (arith, l, m.0))) f.later)
      (λ l. ⊎_elim (λ m. inl (omega (arith, l.0, m))) (λ m. inr (l.0 ∙ m.0, omega (arith, l.1, m.1))) f.later)
      h;
  high = f.high;
}

abbrev AllFrom : Place → List Refusal → Type 0
AllFrom place rs = AllByRecursion (IsFrom place) rs

all_earlier : (a b : Place) (rs : List Refusal) → NotAfter a b → AllFrom b rs → AllFrom a rs
all_earlier a b [] h k = tt
all_earlier a b (r ∷ rs) h k = (from_earlier a b r h k.0, all_earlier a b rs h k.1)

all_both : (place : Place) (rs ss : List Refusal) → AllFrom place rs → AllFrom place ss → AllFrom place (rs ++ ss)
all_both place [] ss h k = k
all_both place (r ∷ rs) ss h k = (h.0, all_both place rs ss h.1 k)

-- the first of faults is one that none of the others precedes
abbrev NoneBefore : Refusal → List Refusal → Type 0
NoneBefore r rs = AllByRecursion (λ s. Precedes s r → ⊥) rs

abbrev IsLed : List Refusal → Type 0
IsLed [] = Unit {0}
IsLed (r ∷ rs) = NoneBefore r rs

-- a bad character at a place goes before all faults from there on, and any fault at a place before those at later places
bad_first : (place : Place) (s : Refusal) → IsFrom place s → Precedes s (refused BadCharacter place) → ⊥
bad_first place s f p =
    ⊎_elim (λ l. ⊎_elim (λ m. omega (arith, l, m)) (λ m. omega (arith, l, m.0)) f.later)
    (λ l. ⊎_elim (λ m. omega (arith, l.0, m))
    (λ m. ⊎_elim (λ k. omega (arith, k, m.1)) (λ k. omega (arith, k.1, f.high)) l.1) f.later)
    p

later_last : (place next : Place) (r s : Refusal) → r.line ≡ place.line → r.column ≡ place.column + 1 → Before place next → IsFrom next s → Precedes s r → ⊥
later_last place next r s e c b f p =
    ⊎_elim (λ l. ⊎_elim (λ m. ⊎_elim (λ n. omega (arith, l, m, n, e)) (λ n. omega (arith, l, m, n.0, e)) b) (λ m. ⊎_elim (λ n. omega (arith, l, m.0, n, e)) (λ n. omega (arith, l, m.0, n.0, e)) b) f.later)
    (λ l. ⊎_elim (λ m. ⊎_elim (λ n. omega (arith, l.0, m, n, e)) (λ n. omega (arith, l.0, m, n.0, e)) b)
    (λ m. ⊎_elim (λ n. omega (arith, l.0, m.0, n, e))
    (λ n. ⊎_elim (λ k. omega (arith, k, c, m.1, n.1)) (λ k. omega (arith, k.0, c, m.1, n.1)) l.1) b) f.later)
    p

bad_leads : (place : Place) (rs : List Refusal) → AllFrom place rs → NoneBefore (refused BadCharacter place) rs
bad_leads place [] h = tt
bad_leads place (s ∷ rs) h = (bad_first place s h.0, bad_leads place rs h.1)

later_leads : (place next : Place) (r : Refusal) (rs : List Refusal) → r.line ≡ place.line → r.column ≡ place.column + 1 → Before place next → AllFrom next rs → NoneBefore r rs
later_leads place next r [] e c b h = tt
later_leads place next r (s ∷ rs) e c b h = (later_last place next r s e c b h.0, later_leads place next r rs e c b h.1)

-- faults among characters, before others
among_from : (may : ℕ → Bool) (place : Place) (cs : List ℕ) → AllFrom place (faults_among may place cs)
among_from may place [] = tt
among_from may place (c ∷ cs) =
    let next = next_place place c in
    let rest = all_earlier place next (faults_among may next cs) (weaker place next (next_after place c)) (among_from may next cs) in
    ⊎_elim (λ h. subst (AllFrom place) (sym (cond-true (may c) _ _ h)) rest)
    (λ h. subst (AllFrom place) (sym (cond-false (may c) _ _ h)) (record { later = inr (refl, omega arith); high = omega arith }, rest))
    (cases_Bool (may c))

among_led : (may : ℕ → Bool) (place : Place) (cs : List ℕ) (more : List Refusal) → AllFrom (place_behind place cs) more → IsLed more → IsLed (faults_among may place cs ++ more)
among_led may place [] more h k = k
among_led may place (c ∷ cs) more h k =
    let next = next_place place c in
    let rest = faults_among may next cs in
    let all = all_both place rest more
    (all_earlier place next rest (weaker place next (next_after place c)) (among_from may next cs))
    (all_earlier place (place_behind next cs) more (behind_not_after place (c ∷ cs)) h) in
    ⊎_elim (λ t. subst (λ fs. IsLed (fs ++ more)) (sym (cond-true (may c) _ _ t)) (among_led may next cs more h k))
    (λ t. subst (λ fs. IsLed (fs ++ more)) (sym (cond-false (may c) _ _ t)) (bad_leads place (rest ++ more) all))
    (cases_Bool (may c))

-- what faults that stand at one place may be
record IsOwn (place : Place) (cs : List ℕ) (own : List Refusal) : Type 0 where
  from : AllFrom place own
  led : (more : List Refusal) → AllFrom (place_behind place cs) more → IsLed more → IsLed (own ++ more)

own_none : (place : Place) (cs : List ℕ) → IsOwn place cs []
own_none place cs = record { from = tt; led = λ more h k. k }

own_one : (place : Place) (cs : List ℕ) (r : Refusal) → 0 < length cs → r.line ≡ place.line → r.column ≡ place.column + 1 → 3 ≤ code_number r.code → IsOwn place cs (r ∷ [])
own_one place cs r n e c high = record {
  from = (record { later = inr (sym e, omega (arith, c)); high = high }, tt);
  led = λ more h k. later_leads place (place_behind place cs) r more e c (behind_after place cs n) h;
}

own_word : (place : Place) (cs word : List ℕ) → 0 < length cs → IsOwn place cs (word_faults place word)
unfolding word_faults
own_word place cs word n =
    ⊎_elim (λ h. subst (IsOwn place cs) (sym (cond-true (is_bad_number word) _ _ h)) (own_one place cs _ n refl refl (omega arith)))
    (λ h. ⊎_elim (λ k. subst (IsOwn place cs) (sym (cond-false (is_bad_number word) _ _ h ∙ cond-true (is_bad_date word) _ _ k)) (own_one place cs _ n refl refl (omega arith)))
    (λ k. subst (IsOwn place cs) (sym (cond-false (is_bad_number word) _ _ h ∙ cond-false (is_bad_date word) _ _ k)) (own_none place cs))
    (cases_Bool (is_bad_date word)))
    (cases_Bool (is_bad_number word))

own_among : (may : ℕ → Bool) (place : Place) (cs : List ℕ) → IsOwn place cs (faults_among may place cs)
own_among may place cs = record { from = among_from may place cs; led = λ more h k. among_led may place cs more h k }

own_single : (place : Place) (cs : List ℕ) (c : ℕ) → 0 < length cs → IsOwn place cs (single_faults place c)
unfolding single_faults
own_single place cs c n = one_or_none _
  where
    one_or_none : (b : Bool) → IsOwn place cs (if b then [] else refused BadCharacter place ∷ [])
    one_or_none true = own_none place cs
    one_or_none false = own_one place cs (refused BadCharacter place) n refl refl (omega arith)

own_piece : (place : Place) (form : Form) (cs : List ℕ) → 0 < length cs → IsOwn place cs (own_faults place form cs)
unfolding own_faults
own_piece place forms.Word cs n = own_word place cs (encode_utf8_all cs) n
own_piece place forms.Quote cs n = own_among _ place cs
own_piece place forms.OpenQuote cs n = own_one place cs _ n refl refl (omega arith)
own_piece place forms.Comment cs n = own_among _ place cs
own_piece place forms.LineEnd cs n = own_none place cs
own_piece place forms.Single cs n = own_single place cs _ n

-- faults of pieces, before others
faults_at-cons : (place : Place) (p : Piece) (ps : List Piece) → faults_at place (p ∷ ps) ≡ own_faults place p.form p.chars ++ ((if is_word_form p.form && begins_comment ps then refused BadCharacter (place_behind place p.chars) ∷ [] else []) ++ faults_at (place_behind place p.chars) ps)
unfolding faults_at
faults_at-cons place p ps = refl

faults_at-nil : (place : Place) → faults_at place [] ≡ []
unfolding faults_at
faults_at-nil place = refl

-- faults from a place on, of which the first is led, up to what follows them
record IsPart (place : Place) (cs : List ℕ) (faults : List Refusal) : Type 0 where
  from : AllFrom place faults
  led : (more : List Refusal) → AllFrom (place_behind place cs) more → IsLed more → IsLed (faults ++ more)

joined_part : (b : Bool) (place : Place) (cs : List ℕ) (faults : List Refusal) → IsPart place cs faults → IsPart place cs ((if b then refused BadCharacter place ∷ [] else []) ++ faults)
joined_part true place cs faults p = record {
  from = (record { later = inr (refl, omega arith); high = omega arith }, p.from);
  led = λ more h k. bad_leads place (faults ++ more) (all_both place faults more p.from (all_earlier place (place_behind place cs) more (behind_not_after place cs) h));
}
joined_part false place cs faults p = p

behind_append : (place : Place) (xs ys : List ℕ) → place_behind place (xs ++ ys) ≡ place_behind (place_behind place xs) ys
behind_append place [] ys = refl
behind_append place (x ∷ xs) ys = behind_append (next_place place x) xs ys

own_part : (place : Place) (xs ys : List ℕ) (own faults : List Refusal) → IsOwn place xs own → IsPart (place_behind place xs) ys faults → IsPart place (xs ++ ys) (own ++ faults)
own_part place xs ys own faults o p =
    let next = place_behind place xs in
    record {
      from = all_both place own faults o.from (all_earlier place next faults (behind_not_after place xs) p.from);
      led = λ more h k.
          let low = subst (λ q. AllFrom q more) (behind_append place xs ys) h in
          subst IsLed (sym (append_assoc own faults more))
          (o.led (faults ++ more) (all_both next faults more p.from (all_earlier next (place_behind next ys) more (behind_not_after next ys) low)) (p.led more low k));
    }

pieces_part : (place : Place) (line : List ℕ) (ps : List Piece) → Cuts line ps → IsPart place line (faults_at place ps)
pieces_part place line [] c = subst (IsPart place line) (sym (faults_at-nil place)) (record { from = tt; led = λ more h k. k })
pieces_part place line (p ∷ ps) c =
    let next = place_behind place p.chars in
    subst (λ xs. IsPart place xs (faults_at place (p ∷ ps))) (sym c.1)
    (subst (IsPart place (p.chars ++ c.0)) (sym (faults_at-cons place p ps))
    (own_part place p.chars c.0 (own_faults place p.form p.chars) _ (own_piece place p.form p.chars (piece_some p c.0 c.2))
    (joined_part (is_word_form p.form && begins_comment ps) next c.0 (faults_at next ps) (pieces_part next c.0 ps c.3))))

-- faults of lines
faults_from-cons : (place : Place) (line : List ℕ) (lines : List (List ℕ)) → faults_from place (line ∷ lines) ≡ faults_at place (pieces_of line) ++ faults_from (place_behind place line) lines
unfolding faults_from
faults_from-cons place line lines = refl

faults_from-nil : (place : Place) → faults_from place [] ≡ []
unfolding faults_from
faults_from-nil place = refl

record IsLedFrom (place : Place) (faults : List Refusal) : Type 0 where
  from : AllFrom place faults
  led : IsLed faults

lines_led : (place : Place) (lines : List (List ℕ)) → IsLedFrom place (faults_from place lines)
lines_led place [] = subst (IsLedFrom place) (sym (faults_from-nil place)) (record { from = tt; led = tt })
lines_led place (line ∷ lines) =
    let next = place_behind place line in
    let part = pieces_part place line (pieces_of line) (cuts-pieces_of line) in
    let rest = lines_led next lines in
    subst (IsLedFrom place) (sym (faults_from-cons place line lines))
    (record {
      from = all_both place (faults_at place (pieces_of line)) (faults_from next lines) part.from (all_earlier place next (faults_from next lines) (behind_not_after place line) rest.from);
      led = part.led (faults_from next lines) rest.from rest.led;
    })

-- so the fault that is reported is one that none precedes
not_itself : (r : Refusal) → Precedes r r → ⊥
not_itself r p = ⊎_elim (λ h. omega (arith, h)) (λ h. ⊎_elim (λ k. omega (arith, k)) (λ k. omega (arith, k.1)) h.1) p

least_of : {X : Type 0} (x : X) (faults : List Refusal) (r : Refusal) → IsLed faults → unless_faulty x faults ≡ Err r → IsLeastFault faults r
least_of x [] r led e = let f : Ok x ≡ Err r = e in cc
least_of x (fault ∷ faults) r led e =
    let same : fault ≡ r = cc in
    subst (IsLeastFault (fault ∷ faults)) same
    (record {
      one = (0, omega arith, refl);
      least = All-from_recursion (λ s. Precedes s fault → ⊥) (fault ∷ faults) (not_itself fault, led);
    })

none_of : {X : Type 0} (x y : X) (faults : List Refusal) → unless_faulty x faults ≡ Ok y → faults ≡ []
none_of x y [] e = refl
none_of x y (fault ∷ faults) e = let f : Err fault ≡ Ok y = e in cc

layout_of-cases : (bytes : List ℕ) → IsUtf8 bytes → layout_of bytes ≡ unless_faulty (layout_in bytes) (faults_of (chars bytes))
unfolding layout_of
layout_of-cases bytes utf8 = cond-true (is_utf8 bytes) _ _ (is_utf8-from_IsUtf8 bytes utf8)

pub least_fault_lem : (bytes : List ℕ) (refusal : Refusal) → IsUtf8 bytes → layout_of bytes ≡ Err refusal → IsLeastFault (faults_of (chars bytes)) refusal
least_fault_lem bytes refusal utf8 e =
    least_of (layout_in bytes) (faults_of (chars bytes)) refusal (lines_led _ _).led (sym (layout_of-cases bytes utf8) ∙ e)

pub no_fault_lem : (bytes : List ℕ) (layout : Layout) → IsUtf8 bytes → layout_of bytes ≡ Ok layout → faults_of (chars bytes) ≡ []
no_fault_lem bytes layout utf8 e = none_of (layout_in bytes) layout (faults_of (chars bytes)) (sym (layout_of-cases bytes utf8) ∙ e)
