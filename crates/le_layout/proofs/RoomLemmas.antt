-- The numbers of places stay within their bounds.
use Rattle.std.proofs.Common.{◌≡◌, ◌==◌, ℕ, suc, ◌+◌, ◌*◌, ◌/◌, ◌≤◌, List, [], ◌∷◌, length, true, false, ⊎_elim, arith}
use Rattle.std.proofs.lemmas.Bool.{cases_Bool, cond-true, cond-false}
use Rattle.std.proofs.lemmas.Str.{len_utf8_bounds}
use Rattle.le_layout.specs.declared.place.Place.{Place}
use Rattle.le_layout.specs.Places.{next_column, next_place, place_behind}
use Rattle.le_layout.specs.Room.{HasRoom}

pub room_less : (place : Place) (n m : ℕ) → HasRoom place n → m ≤ n → HasRoom place m
room_less place n m r h = record { bytes = omega (arith, r.bytes); lines = omega (arith, r.lines); columns = omega (arith, r.columns) }

column_le : (column c : ℕ) → next_column column c ≤ column + 4
column_le column c =
    ⊎_elim (λ (h : (c == 9) ≡ true). rw (cond-true _ ((column / 4 + 1) * 4) (column + 1) h) (omega arith))
    (λ (h : (c == 9) ≡ false). rw (cond-false _ ((column / 4 + 1) * 4) (column + 1) h) (omega arith))
    (cases_Bool (c == 9))

pub room_next : (place : Place) (c n : ℕ) → HasRoom place (suc n) → HasRoom (next_place place c) n
unfolding next_place
room_next place c n r =
    let width = len_utf8_bounds c in
    ⊎_elim (λ h. rw (cond-true (c == 10) _ _ h) (record { bytes = omega (arith, r.bytes); lines = omega (arith, r.lines); columns = omega (arith, r.columns) }))
    (λ h. rw (cond-false (c == 10) _ _ h) (record { bytes = omega (arith, r.bytes, width); lines = omega (arith, r.lines); columns = omega (arith, r.columns, column_le place.column c) }))
    (cases_Bool (c == 10))

-- characters that were passed take their room
pub room_behind : (place : Place) (cs : List ℕ) (n : ℕ) → HasRoom place (length cs + n) → HasRoom (place_behind place cs) n
room_behind place [] n r = room_less place (length {A = ℕ} [] + n) n r (omega arith)
room_behind place (c ∷ cs) n r = room_behind (next_place place c) cs n (room_next place c (length cs + n) (room_less place (length (c ∷ cs) + n) (suc (length cs + n)) r (omega arith)))
