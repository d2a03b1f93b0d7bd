-- The definitions taken from the left, one character further.
use Rattle.std.proofs.Common.{◌≡◌, ◌==◌, ℕ, suc, ◌+◌, ◌-◌, ◌<◌, ◌≤◌, Bool, true, false, List, [], ◌∷◌, length, drop, get_or, Some, sym, refl, ap, ◌∙◌, arith}
use Rattle.std.proofs.lemmas.Bool.{cond-true, cond-false, ne_eqb}
use Rattle.std.proofs.lemmas.List.{at_drop_more, at_drop_all}
use Rattle.le_base.specs.declared.code.Code.TheVariants.{BadCharacter}
use Rattle.le_layout.specs.declared.place.Place.{Place}
use Rattle.le_layout.specs.Places.{next_place, place_behind, refused}
use Rattle.le_layout.specs.Faults.{faults_among, first_fault}
use Rattle.le_layout.specs.Lines.{first_line}
use Rattle.le_layout.specs.Room.{HasRoom}
use Rattle.le_layout.proofs.RoomLemmas.{room_less, room_next}

-- the room at a place with characters left
pub room_here : (place : Place) (n i : ℕ) → i < n → HasRoom place (n - i) → HasRoom place 1
room_here place n i h r = room_less place (n - i) 1 r (omega arith)

pub room_on : (place : Place) (c n i : ℕ) → i < n → HasRoom place (n - i) → HasRoom (next_place place c) (n - (i + 1))
room_on place c n i h r = room_next place c (n - (i + 1)) (room_less place (n - i) (suc (n - (i + 1))) r (omega arith))

-- one character further
pub place_more : (place : Place) (cs : List ℕ) (i c : ℕ) → i < length cs → c ≡ get_or cs i c → place_behind place (drop i cs) ≡ place_behind (next_place place c) (drop (i + 1) cs)
place_more place cs i c h e = at_drop_more (place_behind place) cs i c h ∙ ap (λ d. place_behind (next_place place d) (drop (i + 1) cs)) (sym e)

pub place_none : (place : Place) (cs : List ℕ) (i : ℕ) → length cs ≤ i → place_behind place (drop i cs) ≡ place
place_none place cs i h = at_drop_all (place_behind place) cs i h

-- a character that passes is no fault
pub faults_more : (may : ℕ → Bool) (place : Place) (cs : List ℕ) (i c : ℕ) → i < length cs → c ≡ get_or cs i c → may c ≡ true → faults_among may place (drop i cs) ≡ faults_among may (next_place place c) (drop (i + 1) cs)
faults_more may place cs i c h e t =
    at_drop_more (faults_among may place) cs i c h
    ∙ ap (λ d. faults_among may place (d ∷ drop (i + 1) cs)) (sym e)
    ∙ cond-true (may c) _ _ t

pub faults_here : (may : ℕ → Bool) (place : Place) (cs : List ℕ) (i c : ℕ) → i < length cs → c ≡ get_or cs i c → may c ≡ false → first_fault (faults_among may place (drop i cs)) ≡ Some (refused BadCharacter place)
faults_here may place cs i c h e t =
    ap first_fault (at_drop_more (faults_among may place) cs i c h
    ∙ ap (λ d. faults_among may place (d ∷ drop (i + 1) cs)) (sym e)
    ∙ cond-false (may c) _ _ t)

-- the length of the first line
line_stop : (c : ℕ) (cs : List ℕ) → (c == 10) ≡ true → length (first_line (c ∷ cs)) ≡ 1
unfolding first_line
line_stop c cs h = ap length (cond-true (c == 10) (c ∷ []) (c ∷ first_line cs) h)

line_step : (c : ℕ) (cs : List ℕ) → (c == 10) ≡ false → length (first_line (c ∷ cs)) ≡ 1 + length (first_line cs)
unfolding first_line
line_step c cs h = ap length (cond-false (c == 10) (c ∷ []) (c ∷ first_line cs) h) ∙ omega arith

first_none : length (first_line []) ≡ 0
unfolding first_line
first_none = refl

pub line_none : (cs : List ℕ) (i : ℕ) → length cs ≤ i → length (first_line (drop i cs)) ≡ 0
line_none cs i h = at_drop_all (λ xs. length (first_line xs)) cs i h ∙ first_none

pub line_further : (cs : List ℕ) (i c : ℕ) → i < length cs → c ≡ get_or cs i c → (c ≡ 10 → ⊥) → length (first_line (drop i cs)) ≡ 1 + length (first_line (drop (i + 1) cs))
line_further cs i c h e n =
    at_drop_more (λ xs. length (first_line xs)) cs i c h
    ∙ ap (λ d. length (first_line (d ∷ drop (i + 1) cs))) (sym e)
    ∙ line_step c (drop (i + 1) cs) (ne_eqb c 10 n)

pub line_ends : (cs : List ℕ) (i c : ℕ) → i < length cs → c ≡ get_or cs i c → c ≡ 10 → length (first_line (drop i cs)) ≡ 1
line_ends cs i c h e n =
    at_drop_more (λ xs. length (first_line xs)) cs i c h
    ∙ ap (λ d. length (first_line (d ∷ drop (i + 1) cs))) (sym e ∙ n)
    ∙ line_stop 10 (drop (i + 1) cs) refl
