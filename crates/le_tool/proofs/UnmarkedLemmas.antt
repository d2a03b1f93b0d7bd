-- No line of an accepted document is the marker of a bundle.
use Rattle.std.proofs.Common.{◌≡◌, ℕ, suc, ◌-◌, ◌<◌, ◌==◌, true, false, cond, List, [], ◌∷◌, ◌++◌, length, get_or, slice_index, take, chars, Ok, IsUtf8, ⊎_elim, refl, subst, ap, sym, ◌∙◌, append-nil, arith}
use Rattle.std.proofs.lemmas.Bool.{cases_Bool, cond-true, cond-false, eqb-true, eqb-false, ne_eqb, false_from_ne_true}
use Rattle.std.proofs.lemmas.Str.{IsUtf8-from_is_utf8, encodes-chars, encode_ascii, inside_one, length-encode, len_utf8_bounds}
use Rattle.std.specs.Char.{encode_utf8}
use Rattle.std.specs.List.{AllByRecursion}
use Rattle.std.specs.Str.{is_utf8, encode_utf8_all}
use Rattle.unicode_ident.proofs.IdentLemmas.{is_xid_continue-ascii}
use Rattle.le_base.specs.declared.code.Code.TheVariants.{BadCharacter}
use Rattle.le_base.specs.declared.stop.Refusal.{Refusal}
use Rattle.le_layout.specs.declared.layout.Layout.{Layout}
use Rattle.le_layout.specs.declared.piece.Form.TheVariants as forms
use Rattle.le_layout.specs.declared.place.Place.{Place}
use Rattle.le_layout.specs.Characters.{is_space, is_ascii_sign, is_further_sign, is_word_character, kind_of, begins_with}
use Rattle.le_layout.specs.Faults.{single_faults, own_faults, joined_faults, faults_at, faults_from}
use Rattle.le_layout.specs.Layout.{faults_of, layout_of}
use Rattle.le_layout.specs.Lines.{onto_first_line, lines_of}
use Rattle.le_layout.specs.Pieces.{ends_line, form_at, more_at, piece, pieces_behind, pieces_of}
use Rattle.le_layout.specs.Places.{place_behind, without_mark, first_place, refused}
use Rattle.le_layout.proofs.LeastLemmas.{no_fault_lem}
use Rattle.le_layout.proofs.PieceLemmas.{mark_no_word}
use Rattle.le_bundle.specs.Bundle.{marker}
use Rattle.le_bundle.specs.Head.{is_ended}
use Rattle.le_bundle.specs.Lines.{Line, whole, cut, with_byte, lines_of as byte_lines}
use Rattle.le_bundle.specs.Written.{AreUnmarked}

-- ---- lines of bytes

-- no line is the marker, whether or not it has its LF
abbrev NoMarker : List Line → Type 0
NoMarker [] = Unit {0}
NoMarker (whole line ∷ lines) = (line ≡ marker → ⊥) × NoMarker lines
NoMarker (cut line ∷ lines) = NoMarker lines

-- none after the first is
abbrev NoneAfter : List Line → Type 0
NoneAfter [] = Unit {0}
NoneAfter (line ∷ lines) = NoMarker lines

after_with : (b : ℕ) (lines : List Line) → NoneAfter lines → NoneAfter (with_byte b lines)
after_with b [] h = tt
after_with b (whole line ∷ lines) h = h
after_with b (cut line ∷ lines) h = h

-- the marker begins with `=`
marker_head : (b : ℕ) (line : List ℕ) → (b ≡ 61 → ⊥) → (b ∷ line) ≡ marker → ⊥
marker_head b line other e = other (ap (λ xs. slice_index xs 0) e)

empty_line : (let line : List ℕ = [] in line) ≡ marker → ⊥
empty_line e = omega (arith, ap length e)

none_with : (b : ℕ) (lines : List Line) → (b ≡ 61 → ⊥) → NoneAfter lines → NoMarker (with_byte b lines)
none_with b [] other h = tt
none_with b (whole line ∷ lines) other h = (marker_head b line other, h)
none_with b (cut line ∷ lines) other h = h

-- bytes other than LF
abbrev pub NoEnd : List ℕ → Type 0
NoEnd [] = Unit {0}
NoEnd (b ∷ bytes) = (b ≡ 10 → ⊥) × NoEnd bytes

line_onto : (b : ℕ) (bytes : List ℕ) → (b ≡ 10 → ⊥) → byte_lines (b ∷ bytes) ≡ with_byte b (byte_lines bytes)
line_onto b bytes other = ap (λ t. cond t (whole [] ∷ byte_lines bytes) (with_byte b (byte_lines bytes))) (ne_eqb b 10 other)

after_bytes : (xs rest : List ℕ) → NoEnd xs → NoneAfter (byte_lines rest) → NoneAfter (byte_lines (xs ++ rest))
after_bytes [] rest h n = n
after_bytes (b ∷ xs) rest h n = subst NoneAfter (sym (line_onto b (xs ++ rest) h.0)) (after_with b (byte_lines (xs ++ rest)) (after_bytes xs rest h.1 n))

none_bytes : (xs rest : List ℕ) → NoEnd xs → 0 < length xs → (slice_index xs 0 ≡ 61 → ⊥) → NoneAfter (byte_lines rest) → NoMarker (byte_lines (xs ++ rest))
none_bytes [] rest h some other n = absurd (omega (arith, some))
none_bytes (b ∷ xs) rest h some other n = subst NoMarker (sym (line_onto b (xs ++ rest) h.0)) (none_with b (byte_lines (xs ++ rest)) other (after_bytes xs rest h.1 n))

-- ---- the bytes of a character

no_end_from : (xs : List ℕ) → ((k : ℕ) → k < length xs → get_or xs k 0 ≡ 10 → ⊥) → NoEnd xs
no_end_from [] h = tt
no_end_from (b ∷ xs) h = (h 0 (omega arith), no_end_from xs (λ k (low : k < length xs). h (suc k) (omega (arith, low))))

pub no_end : (c : ℕ) → (c ≡ 10 → ⊥) → NoEnd (encode_utf8 c)
no_end c other = no_end_from (encode_utf8 c) (λ k low e. other (inside_one c [] (encode_utf8 c) k (sym (append-nil (encode_utf8 c))) low (omega (arith, e)) ∙ e))

pub encoded : (c : ℕ) → 0 < length (encode_utf8 c)
encoded c = omega (arith, length-encode c, (len_utf8_bounds c).0)

first_is : (c : ℕ) → slice_index (encode_utf8 c) 0 ≡ 61 → c ≡ 61
first_is c e = inside_one c [] (encode_utf8 c) 0 (sym (append-nil (encode_utf8 c))) (encoded c) (omega (arith, e)) ∙ e

-- ---- lines of characters

-- no line begins with `=`
abbrev NoEquals : List (List ℕ) → Type 0
NoEquals lines = AllByRecursion (λ line. begins_with 61 line ≡ false) lines

-- none after the first does
abbrev NoEqualsAfter : List (List ℕ) → Type 0
NoEqualsAfter [] = Unit {0}
NoEqualsAfter (line ∷ lines) = NoEquals lines

equals_after : (lines : List (List ℕ)) → NoEquals lines → NoEqualsAfter lines
equals_after [] h = tt
equals_after (line ∷ lines) h = h.1

onto_after : (c : ℕ) (lines : List (List ℕ)) → NoEqualsAfter (onto_first_line c lines) → NoEqualsAfter lines
onto_after c [] h = tt
onto_after c (line ∷ lines) h = h

onto_first : (c : ℕ) (lines : List (List ℕ)) → NoEquals (onto_first_line c lines) → (c ≡ 61 → ⊥) × NoEqualsAfter lines
onto_first c [] h = (eqb-false c 61 h.0, tt)
onto_first c (line ∷ lines) h = (eqb-false c 61 h.0, h.1)

char_end : (c : ℕ) (cs : List ℕ) → (c == 10) ≡ true → lines_of (c ∷ cs) ≡ (c ∷ []) ∷ lines_of cs
unfolding lines_of
char_end c cs h = cond-true (c == 10) _ _ h

char_onto : (c : ℕ) (cs : List ℕ) → (c == 10) ≡ false → lines_of (c ∷ cs) ≡ onto_first_line c (lines_of cs)
unfolding lines_of
char_onto c cs h = cond-false (c == 10) _ _ h

-- what the lines of characters say of those of their bytes
abbrev Both : List ℕ → Type 0
Both cs = (NoEqualsAfter (lines_of cs) → NoneAfter (byte_lines (encode_utf8_all cs))) × (NoEquals (lines_of cs) → NoMarker (byte_lines (encode_utf8_all cs)))

both_end : (c : ℕ) (cs : List ℕ) → Both cs → (c == 10) ≡ true → Both (c ∷ cs)
both_end c cs others is =
    let lf : c ≡ 10 = eqb-true c 10 is in
    let bytes : encode_utf8_all (c ∷ cs) ≡ 10 ∷ encode_utf8_all cs = ap (λ x. x ++ encode_utf8_all cs) (encode_ascii c (omega (arith, lf)) ∙ ap (λ x. x ∷ []) lf) in
    let lines : byte_lines (encode_utf8_all (c ∷ cs)) ≡ whole [] ∷ byte_lines (encode_utf8_all cs) = ap byte_lines bytes in
    let same = char_end c cs is in (
      λ h. let kept : NoEquals (lines_of cs) = subst NoEqualsAfter same h in subst NoneAfter (sym lines) (others.1 kept),
      λ h. let kept : NoEquals ((c ∷ []) ∷ lines_of cs) = subst NoEquals same h in subst NoMarker (sym lines) (empty_line, others.1 kept.1),
    )

both_more : (c : ℕ) (cs : List ℕ) → Both cs → (c == 10) ≡ false → Both (c ∷ cs)
both_more c cs others is =
    let other : c ≡ 10 → ⊥ = eqb-false c 10 is in
    let same = char_onto c cs is in (
      λ h. after_bytes (encode_utf8 c) (encode_utf8_all cs) (no_end c other) (others.0 (onto_after c (lines_of cs) (subst NoEqualsAfter same h))),
      λ h. let first = onto_first c (lines_of cs) (subst NoEquals same h) in
          none_bytes (encode_utf8 c) (encode_utf8_all cs) (no_end c other) (encoded c) (λ e. first.0 (first_is c e)) (others.0 first.1),
    )

both : (cs : List ℕ) → Both cs
both [] = (λ h. tt, λ h. tt)
both (c ∷ cs) = ⊎_elim (both_end c cs (both cs)) (both_more c cs (both cs)) (cases_Bool (c == 10))

-- ---- where nothing is wrong with a text, no line begins with `=`

front_nil : (xs ys : List Refusal) → xs ++ ys ≡ [] → xs ≡ []
front_nil [] ys e = refl
front_nil (x ∷ xs) ys e = absurd (cc e)

back_nil : (xs ys : List Refusal) → xs ++ ys ≡ [] → ys ≡ []
back_nil [] ys e = e
back_nil (x ∷ xs) ys e = absurd (cc e)

equals_no_word : is_word_character 61 ≡ false
unfolding is_ascii_sign is_further_sign
equals_no_word = mark_no_word 61 (is_xid_continue-ascii 61 (omega arith)) refl

equals_form : (cs : List ℕ) → form_at 61 cs ≡ forms.Single
unfolding form_at ends_line
equals_form cs = rw equals_no_word refl

single_equals : (place : Place) (xs : List ℕ) → own_faults place forms.Single (61 ∷ xs) ≡ refused BadCharacter place ∷ []
unfolding own_faults single_faults is_space kind_of
single_equals place xs = refl

equals_faulty : (place : Place) (cs : List ℕ) → faults_at place (pieces_of (61 ∷ cs)) ≡ [] → ⊥
unfolding faults_at pieces_behind
equals_faulty place cs e =
    let more = more_at (form_at 61 cs) 61 cs in
    let first = piece (form_at 61 cs) (61 ∷ take more cs) in
    let rest = pieces_behind more cs in
    let none : own_faults place (form_at 61 cs) (61 ∷ take more cs) ≡ [] = front_nil (own_faults place (form_at 61 cs) (61 ∷ take more cs)) (joined_faults place first rest ++ faults_at (place_behind place first.chars) rest) e in
    let some : own_faults place (form_at 61 cs) (61 ∷ take more cs) ≡ refused BadCharacter place ∷ [] = ap (λ f. own_faults place f (61 ∷ take more cs)) (equals_form cs) ∙ single_equals place (take more cs) in
    absurd (omega (arith, ap length (sym none ∙ some)))

line_no_equals : (place : Place) (line : List ℕ) → faults_at place (pieces_of line) ≡ [] → begins_with 61 line ≡ false
line_no_equals place [] e = refl
line_no_equals place (c ∷ cs) e =
    false_from_ne_true (c == 61) (λ h. equals_faulty place cs (subst (λ d. faults_at place (pieces_of (d ∷ cs)) ≡ []) (eqb-true c 61 h) e))

no_equals : (place : Place) (lines : List (List ℕ)) → faults_from place lines ≡ [] → NoEquals lines
unfolding faults_from
no_equals place [] e = tt
no_equals place (line ∷ lines) e =
    let own = faults_at place (pieces_of line) in
    let others = faults_from (place_behind place line) lines in
    (line_no_equals place line (front_nil own others e), no_equals (place_behind place line) lines (back_nil own others e))

-- a byte order mark before the first line changes nothing
marked : (cs : List ℕ) → NoEquals (lines_of (without_mark cs)) → NoMarker (byte_lines (encode_utf8_all cs))
marked [] h = (both []).1 h
marked (c ∷ cs) h =
    ⊎_elim (λ (is : (c == 65279) ≡ true).
    let mark : c ≡ 65279 = eqb-true c 65279 is in
    let kept : NoEquals (lines_of cs) = subst NoEquals (ap (λ b. lines_of (cond b cs (c ∷ cs))) is) h in
    none_bytes (encode_utf8 c) (encode_utf8_all cs) (no_end c (λ (e : c ≡ 10). omega (arith, e, mark))) (encoded c) (λ e. omega (arith, first_is c e, mark)) ((both cs).0 (equals_after (lines_of cs) kept)))
    (λ (other : (c == 65279) ≡ false).
    let kept : NoEquals (lines_of (c ∷ cs)) = subst NoEquals (ap (λ b. lines_of (cond b cs (c ∷ cs))) other) h in
    (both (c ∷ cs)).1 kept)
    (cases_Bool (c == 65279))

utf8_of : (bytes : List ℕ) (layout : Layout) → layout_of bytes ≡ Ok layout → is_utf8 bytes ≡ true
unfolding layout_of
utf8_of bytes layout e = ⊎_elim (λ holds. holds) (λ fails. absurd (cc (rw fails at e))) (cases_Bool (is_utf8 bytes))

none_in : (bytes : List ℕ) (layout : Layout) → layout_of bytes ≡ Ok layout → NoMarker (byte_lines bytes)
none_in bytes layout e =
    let utf8 : IsUtf8 bytes = IsUtf8-from_is_utf8 bytes (utf8_of bytes layout e) in
    let cs = chars bytes in
    let none : faults_of cs ≡ [] = no_fault_lem bytes layout utf8 e in
    let found : NoEquals (lines_of (without_mark cs)) = no_equals (first_place cs) (lines_of (without_mark cs)) none in
    subst (λ t. NoMarker (byte_lines t)) (encodes-chars bytes utf8) (marked cs found)

-- ---- a text whose last byte is an LF has whole lines

abbrev AreWhole : List Line → Type 0
AreWhole [] = Unit {0}
AreWhole (whole line ∷ lines) = AreWhole lines
AreWhole (cut line ∷ lines) = ⊥

-- and at least one of them
abbrev AreSome : List Line → Type 0
AreSome [] = ⊥
AreSome (whole line ∷ lines) = AreWhole lines
AreSome (cut line ∷ lines) = ⊥

some_whole : (lines : List Line) → AreSome lines → AreWhole lines
some_whole [] h = tt
some_whole (whole line ∷ lines) h = h
some_whole (cut line ∷ lines) h = h

whole_with : (b : ℕ) (lines : List Line) → AreSome lines → AreSome (with_byte b lines)
whole_with b [] h = absurd h
whole_with b (whole line ∷ lines) h = h
whole_with b (cut line ∷ lines) h = absurd h

ended_some : (b : ℕ) (bytes : List ℕ) → slice_index (b ∷ bytes) (length bytes) ≡ 10 → AreSome (byte_lines (b ∷ bytes))
ended_some b [] e = subst (λ d. AreSome (byte_lines (d ∷ []))) (sym e) tt
ended_some b (c ∷ cs) e =
    let others : AreSome (byte_lines (c ∷ cs)) = ended_some c cs e in
    ⊎_elim (λ (is : (b == 10) ≡ true). subst AreSome (sym (ap (λ t. cond t (whole [] ∷ byte_lines (c ∷ cs)) (with_byte b (byte_lines (c ∷ cs)))) is)) (some_whole (byte_lines (c ∷ cs)) others))
    (λ (other : (b == 10) ≡ false). subst AreSome (sym (ap (λ t. cond t (whole [] ∷ byte_lines (c ∷ cs)) (with_byte b (byte_lines (c ∷ cs)))) other)) (whole_with b (byte_lines (c ∷ cs)) others))
    (cases_Bool (b == 10))

ended_whole : (bytes : List ℕ) → is_ended bytes ≡ true → AreWhole (byte_lines bytes)
ended_whole [] h = tt
ended_whole (b ∷ bytes) h =
    let place : suc (length bytes) - 1 ≡ length bytes = omega arith in
    let last : slice_index (b ∷ bytes) (suc (length bytes) - 1) ≡ 10 = eqb-true (slice_index (b ∷ bytes) (suc (length bytes) - 1)) 10 h in
    some_whole (byte_lines (b ∷ bytes)) (ended_some b bytes (ap (slice_index (b ∷ bytes)) (sym place) ∙ last))

both_unmarked : (lines : List Line) → AreWhole lines → NoMarker lines → AreUnmarked lines
both_unmarked [] w n = tt
both_unmarked (whole line ∷ lines) w n = (n.0, both_unmarked lines w n.1)
both_unmarked (cut line ∷ lines) w n = absurd w

-- a text that has a layout and ends with an LF is whole lines without the marker
pub unmarked : (bytes : List ℕ) (layout : Layout) → is_ended bytes ≡ true → layout_of bytes ≡ Ok layout → AreUnmarked (byte_lines bytes)
unmarked bytes layout last e = both_unmarked (byte_lines bytes) (ended_whole bytes last) (none_in bytes layout e)
