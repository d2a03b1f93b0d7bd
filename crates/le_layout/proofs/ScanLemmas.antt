-- The layout of whole texts, and the places in them.
use Rattle.std.proofs.Common.{true, false, ◌≡◌, ℕ, ◌+◌, ◌^◌, ◌<◌, ◌≤◌, List, [], ◌++◌, length, take, drop, flat_map, Result, Ok, Err, IfOk, All, IsUtf8, chars, sym, ap, ap₂, ◌∙◌, subst, ⊎_elim, arith, append-nil, length-drop}
use Rattle.std.specs.Str.{is_utf8, encode_utf8_all, all_scalars}
use Rattle.std.specs.Str.Lossy.{utf8_valid_len}
use Rattle.std.proofs.lemmas.Bool.{cases_Bool, cond-true, cond-false, false_from_ne_true}
use Rattle.std.proofs.lemmas.Str.{encodes-chars, scalars-chars, length-le-encodes, is_utf8-from_IsUtf8, IsUtf8-from_is_utf8}
use Rattle.le_base.specs.declared.code.Code.TheVariants.{NotUtf8}
use Rattle.le_base.specs.declared.stop.Stop.{Stop}
use Rattle.le_base.specs.Stop.{Gives}
use Rattle.le_layout.specs.declared.place.Place.{Place}
use Rattle.le_layout.specs.declared.token.Token.{Token}
use Rattle.le_layout.specs.declared.token.Line.{Line}
use Rattle.le_layout.specs.declared.layout.Layout.{Layout}
use Rattle.le_layout.specs.Places.{place_behind, has_mark, without_mark, first_place, refused}
use Rattle.le_layout.specs.Lines.{lines_of}
use Rattle.le_layout.specs.Room.{HasRoom, StandsIn}
use Rattle.le_layout.specs.Faults.{faults_from, unless_faulty}
use Rattle.le_layout.specs.Layout.{rows_from, lines_from, faults_of, layout_in, place_in, layout_of, IsTokenIn, IsLayout}
use Rattle.le_layout.proofs.RoomLemmas.{room_less, room_behind}
use Rattle.le_layout.proofs.RowLemmas.{no_faults}
use Rattle.le_layout.proofs.SoundLemmas.{has_front, tokens_in_layout, sound_in}

pub chars_short : (text : List ℕ) → IsUtf8 text → length (chars text) ≤ length text
chars_short text utf8 = omega (arith, length-le-encodes (chars text), ap length (encodes-chars text utf8))

-- the first place has room for the characters of a text
rest_le : (cs : List ℕ) → length (without_mark cs) ≤ length cs
rest_le cs =
    ⊎_elim (λ h. omega (arith, ap length (cond-true (has_mark cs) (drop 1 cs) cs h), length-drop 1 cs))
    (λ h. omega (arith, ap length (cond-false (has_mark cs) (drop 1 cs) cs h)))
    (cases_Bool (has_mark cs))

first_byte : (cs : List ℕ) → (first_place cs).byte ≤ 3
first_byte cs =
    ⊎_elim (λ h. let e : (first_place cs).byte ≡ 3 = cond-true (has_mark cs) _ _ h in omega (arith, e))
    (λ h. let e : (first_place cs).byte ≡ 0 = cond-false (has_mark cs) _ _ h in omega (arith, e))
    (cases_Bool (has_mark cs))

first_room : (cs : List ℕ) → length cs ≤ 2 ^ 28 → HasRoom (first_place cs) (length (without_mark cs))
first_room cs h = record { bytes = omega (arith, rest_le cs, first_byte cs); lines = omega (arith, rest_le cs); columns = omega (arith, rest_le cs) }

-- the same for what the code has of them
pub room_in : (text cs ds rest : List ℕ) (place : Place) → IsUtf8 text → length text ≤ 2 ^ 28 → cs ≡ chars text → ds ≡ chars text → place ≡ first_place cs → rest ≡ without_mark ds → HasRoom place (length rest)
room_in text cs ds rest place utf8 short c d p r =
    subst (λ q. HasRoom q (length rest)) (sym (p ∙ ap first_place c))
    (subst (λ xs. HasRoom (first_place (chars text)) (length xs)) (sym (r ∙ ap without_mark d)) (first_room (chars text) (omega (arith, chars_short text utf8))))

pub rest_short : (text ds rest : List ℕ) → IsUtf8 text → length text ≤ 2 ^ 28 → ds ≡ chars text → rest ≡ without_mark ds → length rest < 2 ^ 32
rest_short text ds rest utf8 short d r = omega (arith, ap length (r ∙ ap without_mark d), rest_le (chars text), chars_short text utf8)

-- the characters after a mark stand in the text from the first place on
stands_first : (text : List ℕ) → IsUtf8 text → StandsIn text (first_place (chars text)) (without_mark (chars text))
stands_first text utf8 =
    let cs = chars text in
    let f = has_front cs in
    let e : f.front ++ (without_mark cs ++ []) ≡ cs = ap (λ xs. f.front ++ xs) (append-nil (without_mark cs)) ∙ sym f.whole in
    record {
      front = f.front;
      back = [];
      text_is = ap encode_utf8_all e ∙ encodes-chars text utf8;
      scalars = ap all_scalars e ∙ scalars-chars text utf8;
      byte = f.leads.byte;
    }

pub stands_in : (text cs ds rest : List ℕ) (place : Place) → IsUtf8 text → cs ≡ chars text → ds ≡ chars text → place ≡ first_place cs → rest ≡ without_mark ds → StandsIn text place rest
stands_in text cs ds rest place utf8 c d p r =
    subst (λ q. StandsIn text q rest) (sym (p ∙ ap first_place c)) (subst (StandsIn text (first_place (chars text))) (sym (r ∙ ap without_mark d)) (stands_first text utf8))

pub place_is : (text bytes cs ds rest : List ℕ) (place result : Place) → text ≡ bytes → cs ≡ chars text → ds ≡ chars text → place ≡ first_place cs → rest ≡ without_mark ds → result ≡ place_behind place rest → result ≡ place_in bytes
unfolding place_in
place_is text bytes cs ds rest place result t c d p r e =
    e ∙ ap₂ place_behind (p ∙ ap first_place (c ∙ ap chars t)) (r ∙ ap without_mark (d ∙ ap chars t))

pub place_room : (text cs ds rest : List ℕ) (place result : Place) → IsUtf8 text → length text ≤ 2 ^ 28 → cs ≡ chars text → ds ≡ chars text → place ≡ first_place cs → rest ≡ without_mark ds → result ≡ place_behind place rest → HasRoom result 0
place_room text cs ds rest place result utf8 short c d p r e =
    let room = room_in text cs ds rest place utf8 short c d p r in
    subst (λ q. HasRoom q 0) (sym e) (room_behind place rest 0 (room_less place (length rest) (length rest + 0) room (omega arith)))

-- the layout that the code makes of the tokens and lines
abbrev Scanned : Place → List ℕ → List Token → List Line → Type 0
Scanned place rest tokens lines =
    unless_faulty {X = List Token × List Line} (flat_map (λ row. row) (rows_from place (lines_of rest)), lines_from 0 (rows_from place (lines_of rest))) (faults_from place (lines_of rest)) ≡ Ok (tokens, lines)

pub layout_is : (text own cs ds rest : List ℕ) (place : Place) (tokens ts : List Token) (lines ls : List Line) → own ≡ text → cs ≡ chars text → ds ≡ chars text → place ≡ first_place cs → rest ≡ without_mark ds → Scanned place rest tokens lines → ts ≡ tokens → ls ≡ lines → unless_faulty (layout_in text) (faults_of (chars text)) ≡ Ok (record { text = own; tokens = ts; lines = ls })
unfolding layout_in
layout_is text own cs ds rest place tokens ts lines ls o c d p r e f g =
    let scanned : Scanned (first_place (chars text)) (without_mark (chars text)) tokens lines =
    subst (λ q. Scanned q (without_mark (chars text)) tokens lines) (p ∙ ap first_place c) (subst (λ xs. Scanned place xs tokens lines) (r ∙ ap without_mark d) e) in
    let q = no_faults _ (tokens, lines) (faults_of (chars text)) scanned in
    ap (unless_faulty (layout_in text)) q.1
    ∙ ap Ok (ap₂ (λ xs ys. record { text = text; tokens = xs; lines = ys }) (ap (λ z. z.0) q.0 ∙ sym f) (ap (λ z. z.1) q.0 ∙ sym g)
    ∙ ap (λ t. record { text = t; tokens = ts; lines = ls }) (sym o))

-- the definition by cases
pub layout_of-utf8 : (bytes text : List ℕ) → IsUtf8 bytes → text ≡ bytes → unless_faulty (layout_in text) (faults_of (chars text)) ≡ layout_of bytes
unfolding layout_of
layout_of-utf8 bytes text utf8 e =
    ap (λ t. unless_faulty (layout_in t) (faults_of (chars t))) e
    ∙ sym (cond-true (is_utf8 bytes) _ _ (is_utf8-from_IsUtf8 bytes utf8))

pub layout_of-bad : (bytes : List ℕ) (n : ℕ) (place : Place) → (IsUtf8 bytes → ⊥) → n ≡ utf8_valid_len bytes → place ≡ place_in (take n bytes) → layout_of bytes ≡ Err (refused NotUtf8 place)
unfolding layout_of
layout_of-bad bytes n place bad e p =
    cond-false (is_utf8 bytes) _ _ (false_from_ne_true (is_utf8 bytes) (λ h. bad (IsUtf8-from_is_utf8 bytes h)))
    ∙ ap (λ q. Err (refused NotUtf8 q)) (sym (p ∙ ap (λ k. place_in (take k bytes)) e))

pub layout_sound : (bytes text : List ℕ) (result : Result Layout Stop) → IsUtf8 bytes → length bytes ≤ 2 ^ 28 → text ≡ bytes → Gives (λ layout. layout) result (unless_faulty (layout_in text) (faults_of (chars text))) → IfOk result IsLayout
layout_sound bytes text (Ok layout) utf8 short e h =
    let q = no_faults (layout_in text) layout (faults_of (chars text)) h in
    subst IsLayout (ap layout_in (sym e) ∙ q.0) (sound_in bytes utf8 short (ap (λ t. faults_of (chars t)) (sym e) ∙ q.1))
layout_sound bytes text (Err stop) utf8 short e h = tt

-- the tokens of every layout are written as their kinds are
bad_layout : (bytes : List ℕ) (layout : Layout) → is_utf8 bytes ≡ false → layout_of bytes ≡ Ok layout → ⊥
unfolding layout_of
bad_layout bytes layout h e = let f : Err (refused NotUtf8 (place_in (take (utf8_valid_len bytes) bytes))) ≡ Ok layout = sym (cond-false (is_utf8 bytes) _ _ h) ∙ e in cc

good_layout : (bytes : List ℕ) (layout : Layout) → is_utf8 bytes ≡ true → layout_of bytes ≡ Ok layout → unless_faulty (layout_in bytes) (faults_of (chars bytes)) ≡ Ok layout
unfolding layout_of
good_layout bytes layout h e = sym (cond-true (is_utf8 bytes) _ _ h) ∙ e

pub written_tokens_lem : (bytes : List ℕ) (layout : Layout) → layout_of bytes ≡ Ok layout → All (IsTokenIn layout.text) layout.tokens
written_tokens_lem bytes layout e =
    ⊎_elim (λ h. let q = no_faults (layout_in bytes) layout (faults_of (chars bytes)) (good_layout bytes layout h e) in
    subst (λ (l : Layout). All (IsTokenIn l.text) l.tokens) q.0 (tokens_in_layout bytes (IsUtf8-from_is_utf8 bytes h) q.1))
    (λ h. absurd (bad_layout bytes layout h e))
    (cases_Bool (is_utf8 bytes))
