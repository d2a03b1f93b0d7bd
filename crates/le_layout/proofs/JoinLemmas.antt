-- The text of items is scanned as these items.
use Rattle.std.proofs.Common.{◌≡◌, ◌==◌, ℕ, zero, suc, ◌+◌, ◌-◌, ◌<◌, Bool, true, false, cond, not, ◌&&◌, ◌||◌, if◌then◌else◌, List, [], ◌∷◌, ◌++◌, map, length, take, drop, flat_map, slice_index, slice_range, Ok, IsUtf8, IsAscii, chars, is_some, sym, refl, ap, ap₂, ◌∙◌, subst, ⊎_elim, inl, inr, arith, append_assoc, append-nil, length-append, take_at, drop_at}
use Rattle.std.specs.Str.{is_utf8}
use Rattle.std.specs.List.{list_all}
use Rattle.std.proofs.lemmas.Bool.{cases_Bool, cond-true, cond-false, and_parts, and_from, and_right, both_ways, ne_eqb}
use Rattle.std.proofs.lemmas.Str.{IsUtf8-from_ascii, IsUtf8-append, chars-IsAscii, chars-append, chars-nil, encodes-chars, IsUtf8-nil, is_utf8-from_IsUtf8}
use Rattle.unicode_ident.proofs.IdentLemmas.{is_xid_continue-ascii}
use Rattle.unicode_ident.proofs.Computing.{unicode_ident}
use Rattle.le_layout.specs.declared.token.Kind.{Kind}
use Rattle.le_layout.specs.declared.token.Kind.TheVariants as kinds
use Rattle.le_layout.specs.declared.token.Token.{Token}
use Rattle.le_layout.specs.declared.layout.Layout.{Layout}
use Rattle.le_layout.specs.declared.place.Place.{Place}
use Rattle.le_layout.specs.declared.piece.Form.{Form}
use Rattle.le_layout.specs.declared.piece.Form.TheVariants as forms
use Rattle.le_layout.specs.Characters.{is_ascii_sign, is_further_sign, is_word_character, is_space, may_be_quoted, kind_of, begins_with}
use Rattle.le_layout.specs.Places.{next_place, place_behind, has_mark, without_mark, first_place}
use Rattle.le_layout.specs.Lines.{lines_of}
use Rattle.le_layout.specs.Pieces.{joins, goes_on, all_go_on, is_word, ends_line, Piece, piece, pieces_of, IsPiece}
use Rattle.le_layout.specs.Faults.{is_bad_number, is_bad_date, word_faults, faults_among, single_faults, own_faults, begins_comment, is_word_form, faults_at, faults_from, unless_faulty}
use Rattle.le_layout.specs.Layout.{token, single_token, token_at, tokens_at, rows_from, faults_of, layout_in, layout_of}
use Rattle.le_layout.specs.Written.{is_quotable, IsWordText, IsQuotable, IsSign, IsWrittenAs}
use Rattle.le_layout.specs.Spellings.{Spelling, spelling_of, spellings, IsWritten}
use Rattle.le_layout.specs.Joined.{Item, opening, closing, plain, spelling_in, written, item_text, glues_kind, glues, hugs_kind, hugs, joined_from, joined, AllWritten}
use Rattle.le_layout.proofs.WordLemmas.{goes_on-more, joins-word, goes_on-cases}
use Rattle.le_layout.proofs.PieceLemmas.{mark_no_word, lf_no_word, pieces_of-nil}
use Rattle.le_layout.proofs.LineLemmas.{lines_of-nil, unended_line}
use Rattle.le_layout.proofs.CutLemmas.{pieces_of-piece}
use Rattle.le_layout.proofs.StandLemmas.{behind_byte}
use Rattle.le_layout.proofs.KindLemmas.{IsSignCharacter, sign_character}
use Rattle.le_layout.proofs.SoundLemmas.{tokens_at-cons, tokens_at-nil}

-- ASCII characters
one_ascii : (c : ℕ) → c < 128 → IsAscii (c ∷ [])
one_ascii c h zero = h
one_ascii c h (suc i) = omega arith

one_utf8 : (c : ℕ) → c < 128 → IsUtf8 (c ∷ [])
one_utf8 c h = IsUtf8-from_ascii (c ∷ []) (one_ascii c h)

pub cons_utf8 : (c : ℕ) (bs : List ℕ) → c < 128 → IsUtf8 bs → IsUtf8 (c ∷ bs)
cons_utf8 c bs h u = IsUtf8-append (c ∷ []) bs (one_utf8 c h) u

pub cons_chars : (c : ℕ) (bs : List ℕ) → c < 128 → chars (c ∷ bs) ≡ c ∷ chars bs
cons_chars c bs h = chars-append (c ∷ []) bs (one_utf8 c h) ∙ ap (λ xs. xs ++ chars bs) (chars-IsAscii (c ∷ []) (one_ascii c h))

-- neither a space nor a byte order mark stands in a word
space_no_word : is_word_character 32 ≡ false
unfolding is_ascii_sign is_further_sign
space_no_word = mark_no_word 32 (is_xid_continue-ascii 32 (omega arith)) refl

bom_no_word : is_word_character 65279 ≡ false
unfolding is_word_character unicode_ident is_ascii_sign is_further_sign
bom_no_word = refl

-- what follows a word ends it
abbrev breaks : List ℕ → Bool
breaks [] = true
breaks (c ∷ cs) = not (is_word_character c)

record Follows (cs : List ℕ) : Type 0 where
  ends : (a : ℕ) → goes_on a cs ≡ false
  breaking : breaks cs ≡ true

joins-nil : (a b : ℕ) → joins a b [] ≡ false
unfolding joins
joins-nil a b = refl

joins-breaks : (a b : ℕ) (cs : List ℕ) → breaks cs ≡ true → joins a b cs ≡ false
joins-breaks a b [] h = joins-nil a b
joins-breaks a b (c ∷ cs) h =
    ⊎_elim (λ k. absurd (both_ways (breaks (c ∷ cs)) (ap not (joins-word a b c cs k)) h))
    (λ k. k)
    (cases_Bool (joins a b (c ∷ cs)))

goes_on-nil : (a : ℕ) → goes_on a [] ≡ false
unfolding goes_on
goes_on-nil a = refl

joins-space : (a : ℕ) (cs : List ℕ) → joins a 32 cs ≡ false
unfolding joins
joins-space a [] = refl
joins-space a (c ∷ cs) = refl

joins-lf : (a : ℕ) (cs : List ℕ) → joins a 10 cs ≡ false
unfolding joins
joins-lf a [] = refl
joins-lf a (c ∷ cs) = refl

follows_nil : Follows []
follows_nil = record { ends = goes_on-nil; breaking = refl }

follows_space : (cs : List ℕ) → Follows (32 ∷ cs)
follows_space cs = record { ends = λ a. goes_on-cases a 32 cs ∙ ap₂ (λ x y. x || y) space_no_word (joins-space a cs); breaking = ap not space_no_word }

follows_sign : (c : ℕ) (cs : List ℕ) → IsSignCharacter c → breaks cs ≡ true → Follows (c ∷ cs)
follows_sign c cs s h = record { ends = λ a. goes_on-cases a c cs ∙ ap₂ (λ x y. x || y) s.no_word (joins-breaks a c cs h); breaking = ap not s.no_word }

-- UTF-8
sign_utf8 : (k : Kind) (text : List ℕ) → IsSign k text → IsUtf8 text
sign_utf8 k text s = subst IsUtf8 (sym s.only) (one_utf8 s.sign (sign_character s.sign k s.token).small)

written_utf8 : (k : Kind) (text : List ℕ) → IsWrittenAs k text → IsUtf8 (written k text)
written_utf8 kinds.Word text w = w.utf8
written_utf8 kinds.Quote text w = cons_utf8 34 (text ++ 34 ∷ []) (omega arith) (IsUtf8-append text (34 ∷ []) w.utf8 (one_utf8 34 (omega arith)))
written_utf8 kinds.Open text w = sign_utf8 kinds.Open text w
written_utf8 kinds.Close text w = sign_utf8 kinds.Close text w
written_utf8 kinds.Bar text w = sign_utf8 kinds.Bar text w
written_utf8 kinds.Comma text w = sign_utf8 kinds.Comma text w
written_utf8 kinds.Colon text w = sign_utf8 kinds.Colon text w
written_utf8 kinds.Star text w = sign_utf8 kinds.Star text w
written_utf8 kinds.Stop text w = sign_utf8 kinds.Stop text w

gap_utf8 : (glued : Bool) (bs : List ℕ) → IsUtf8 bs → IsUtf8 ((if glued then [] else 32 ∷ []) ++ bs)
gap_utf8 true bs u = u
gap_utf8 false bs u = cons_utf8 32 bs (omega arith) u

joined_utf8 : (glued : Bool) (ps : List Item) → AllWritten ps → IsUtf8 (joined_from glued ps)
joined_utf8 glued [] w = IsUtf8-nil
joined_utf8 glued (p ∷ ps) w =
    gap_utf8 (glued || hugs p) _ (IsUtf8-append (item_text p) (joined_from (glues p) ps) (written_utf8 (spelling_in p).kind (spelling_in p).text w.0) (joined_utf8 (glues p) ps w.1))

-- the characters of a text of pieces
piece_chars : (k : Kind) (text rest : List ℕ) → IsWrittenAs k text → chars (written k text ++ rest) ≡ chars (written k text) ++ chars rest
piece_chars k text rest w = chars-append (written k text) rest (written_utf8 k text w)

quote_chars : (text : List ℕ) → IsUtf8 text → chars (34 ∷ text ++ 34 ∷ []) ≡ 34 ∷ chars text ++ 34 ∷ []
quote_chars text u =
    cons_chars 34 (text ++ 34 ∷ []) (omega arith)
    ∙ ap (λ xs. 34 ∷ xs) (chars-append text (34 ∷ []) u ∙ ap (λ xs. chars text ++ xs) (cons_chars 34 [] (omega arith) ∙ ap (λ xs. 34 ∷ xs) chars-nil))

sign_chars : (k : Kind) (text : List ℕ) (s : IsSign k text) → chars text ≡ s.sign ∷ []
sign_chars k text s = ap chars s.only ∙ cons_chars s.sign [] (sign_character s.sign k s.token).small ∙ ap (λ xs. s.sign ∷ xs) chars-nil

-- a word ends before what follows a piece that isn't an opening one
signed : (k : Kind) (text rest : List ℕ) → IsSign k text → Follows (chars rest) → Follows (chars (text ++ rest))
signed k text rest s f =
    let c = sign_character s.sign k s.token in
    subst Follows (sym (ap (λ xs. chars (xs ++ rest)) s.only ∙ cons_chars s.sign rest c.small)) (follows_sign s.sign (chars rest) c f.breaking)

spaced : (bs : List ℕ) → Follows (chars (32 ∷ bs))
spaced bs = subst Follows (sym (cons_chars 32 bs (omega arith))) (follows_space (chars bs))

closing_sign : IsSign kinds.Star (42 ∷ [])
unfolding kind_of
closing_sign = record { sign = 42; only = refl; token = refl }

follows_plain : (k : Kind) (text : List ℕ) (ps : List Item) → IsWrittenAs k text → Follows (chars (joined_from false ps)) → Follows (chars ((if hugs_kind k then [] else 32 ∷ []) ++ (written k text ++ joined_from (glues_kind k) ps)))
follows_plain kinds.Word text ps w f = spaced _
follows_plain kinds.Quote text ps w f = spaced _
follows_plain kinds.Open text ps w f = spaced _
follows_plain kinds.Close text ps w f = signed kinds.Close text (joined_from false ps) w f
follows_plain kinds.Bar text ps w f = spaced _
follows_plain kinds.Comma text ps w f = signed kinds.Comma text (joined_from false ps) w f
follows_plain kinds.Colon text ps w f = spaced _
follows_plain kinds.Star text ps w f = spaced _
follows_plain kinds.Stop text ps w f = spaced _

follows : (ps : List Item) → AllWritten ps → Follows (chars (joined_from false ps))
follows [] w = subst Follows (sym chars-nil) follows_nil
follows (opening ∷ ps) w = spaced _
follows (closing ∷ ps) w = signed kinds.Star (42 ∷ []) (joined_from false ps) closing_sign (follows ps w.1)
follows (plain s ∷ ps) w = follows_plain s.kind s.text ps w.0 (follows ps w.1)

-- a piece is a piece of its line
abbrev form_as : Kind → Form
form_as kinds.Word = forms.Word
form_as kinds.Quote = forms.Quote
form_as _ = forms.Single

no_more : (a : ℕ) (xs more others rest : List ℕ) → Follows rest → rest ≡ more ++ others → all_go_on a (xs ++ more) ≡ true → more ≡ []
no_more a [] [] others rest f e h = refl
no_more a [] (m ∷ ms) others rest f e h =
    let on = goes_on-more a m ms others (and_parts (goes_on a (m ∷ ms)) (all_go_on m ms) h).0 in
    absurd (both_ways (goes_on a rest) (f.ends a) (ap (goes_on a) e ∙ on))
no_more a (x ∷ xs) more others rest f e h = no_more x xs more others rest f e (and_parts (goes_on a (x ∷ (xs ++ more))) (all_go_on x (xs ++ more)) h).1

longest : (cs more others rest : List ℕ) → is_word cs ≡ true → Follows rest → rest ≡ more ++ others → is_word (cs ++ more) ≡ true → more ≡ []
longest [] more others rest w f e h = cc
longest (c ∷ cs) more others rest w f e h = no_more c cs more others rest f e (and_parts (is_word_character c) (all_go_on c (cs ++ more)) h).1

word_is : (text rest : List ℕ) → IsWordText text → Follows rest → IsPiece (piece forms.Word (chars text)) rest
word_is text rest w f = inl (record { form = refl; word = w.word; longest = λ more others e h. longest (chars text) more others rest w.word f e h })

quotable_inner : (cs : List ℕ) → list_all is_quotable cs ≡ true → list_all (λ c. not (c == 34)) cs ≡ true
unfolding is_quotable
quotable_inner [] h = refl
quotable_inner (c ∷ cs) h =
    let both = and_parts (is_quotable c) (list_all is_quotable cs) h in
    and_from _ _ (and_parts (may_be_quoted c) (not (c == 34)) both.0).1 (quotable_inner cs both.1)

quote_is : (text rest : List ℕ) → IsQuotable text → IsPiece (piece forms.Quote (chars (34 ∷ text ++ 34 ∷ []))) rest
quote_is text rest w = inr (inl (record { form = refl; content = chars text; chars = quote_chars text w.utf8; inner = quotable_inner (chars text) w.inner }))

single_is : (c : ℕ) (cs rest : List ℕ) → cs ≡ c ∷ [] → is_word_character c ≡ false → (c == 34) ≡ false → (c == 37) ≡ false → ends_line c rest ≡ false → IsPiece (piece forms.Single cs) rest
single_is c cs rest e w q k l = inr (inr (inr (inr (inr (record { form = refl; char = c; chars = e; no_word = w; no_quote = q; no_comment = k; no_end = l })))))

sign_is : (k : Kind) (text rest : List ℕ) → IsSign k text → IsPiece (piece forms.Single (chars text)) rest
sign_is k text rest s =
    let c = sign_character s.sign k s.token in
    single_is s.sign (chars text) rest (sign_chars k text s) c.no_word c.no_quote c.no_comment (c.no_end rest)

piece_is : (k : Kind) (text rest : List ℕ) → IsWrittenAs k text → (k ≡ kinds.Word → Follows rest) → IsPiece (piece (form_as k) (chars (written k text))) rest
piece_is kinds.Word text rest w f = word_is text rest w (f refl)
piece_is kinds.Quote text rest w f = quote_is text rest w
piece_is kinds.Open text rest w f = sign_is kinds.Open text rest w
piece_is kinds.Close text rest w f = sign_is kinds.Close text rest w
piece_is kinds.Bar text rest w f = sign_is kinds.Bar text rest w
piece_is kinds.Comma text rest w f = sign_is kinds.Comma text rest w
piece_is kinds.Colon text rest w f = sign_is kinds.Colon text rest w
piece_is kinds.Star text rest w f = sign_is kinds.Star text rest w
piece_is kinds.Stop text rest w f = sign_is kinds.Stop text rest w

-- the pieces of the line that the text is
abbrev space_cut : Piece
space_cut = piece forms.Single (32 ∷ [])

abbrev cut_of : Item → Piece
cut_of p = piece (form_as (spelling_in p).kind) (chars (item_text p))

abbrev gap_cut : Bool → List Piece → List Piece
gap_cut true cuts = cuts
gap_cut false cuts = space_cut ∷ cuts

abbrev cuts_from : Bool → List Item → List Piece
cuts_from glued [] = []
cuts_from glued (p ∷ ps) = gap_cut (glued || hugs p) (cut_of p ∷ cuts_from (glues p) ps)

space_is : (rest : List ℕ) → IsPiece (piece forms.Single (32 ∷ [])) rest
unfolding ends_line
space_is rest = single_is 32 (32 ∷ []) rest refl space_no_word refl refl refl

with_gap : (glued : Bool) (bs : List ℕ) (cuts : List Piece) → pieces_of (chars bs) ≡ cuts → pieces_of (chars ((if glued then [] else 32 ∷ []) ++ bs)) ≡ gap_cut glued cuts
with_gap true bs cuts e = e
with_gap false bs cuts e = ap pieces_of (cons_chars 32 bs (omega arith)) ∙ pieces_of-piece (piece forms.Single (32 ∷ [])) (chars bs) (space_is (chars bs)) ∙ ap (λ qs. piece forms.Single (32 ∷ []) ∷ qs) e

-- after a word no piece is glued
follows_piece : (p : Item) (ps : List Item) → AllWritten ps → (spelling_in p).kind ≡ kinds.Word → Follows (chars (joined_from (glues p) ps))
follows_piece opening ps w e = cc
follows_piece closing ps w e = cc
follows_piece (plain s) ps w e = subst (λ k. Follows (chars (joined_from (glues_kind k) ps))) (sym e) (follows ps w)

cut_joined : (glued : Bool) (ps : List Item) → AllWritten ps → pieces_of (chars (joined_from glued ps)) ≡ cuts_from glued ps
cut_joined glued [] w = ap pieces_of chars-nil ∙ pieces_of-nil
cut_joined glued (p ∷ ps) w =
    let rest = chars (joined_from (glues p) ps) in
    with_gap (glued || hugs p) _ _
    (ap pieces_of (piece_chars (spelling_in p).kind (spelling_in p).text (joined_from (glues p) ps) w.0)
    ∙ pieces_of-piece (cut_of p) rest (piece_is (spelling_in p).kind (spelling_in p).text rest w.0 (follows_piece p ps w.1))
    ∙ ap (λ qs. cut_of p ∷ qs) (cut_joined (glues p) ps w.1))

-- without faults
none_among : (may : ℕ → Bool) (place : Place) (cs : List ℕ) → list_all may cs ≡ true → faults_among may place cs ≡ []
none_among may place [] h = refl
none_among may place (c ∷ cs) h =
    let both = and_parts (may c) (list_all may cs) h in
    cond-true (may c) _ _ both.0 ∙ none_among may (next_place place c) cs both.1

all-append : (p : ℕ → Bool) (xs ys : List ℕ) → list_all p xs ≡ true → list_all p ys ≡ true → list_all p (xs ++ ys) ≡ true
all-append p [] ys h k = k
all-append p (x ∷ xs) ys h k = let both = and_parts (p x) (list_all p xs) h in and_from _ _ both.0 (all-append p xs ys both.1 k)

quotable_may : (cs : List ℕ) → list_all is_quotable cs ≡ true → list_all may_be_quoted cs ≡ true
unfolding is_quotable
quotable_may [] h = refl
quotable_may (c ∷ cs) h =
    let both = and_parts (is_quotable c) (list_all is_quotable cs) h in
    and_from _ _ (and_parts (may_be_quoted c) (not (c == 34)) both.0).0 (quotable_may cs both.1)

mark_may : may_be_quoted 34 ≡ true
unfolding may_be_quoted
mark_may = refl

quote_may : (text : List ℕ) → IsQuotable text → list_all may_be_quoted (chars (34 ∷ text ++ 34 ∷ [])) ≡ true
quote_may text w =
    ap (list_all may_be_quoted) (quote_chars text w.utf8)
    ∙ and_from _ _ mark_may (all-append may_be_quoted (chars text) (34 ∷ []) (quotable_may (chars text) w.inner) (and_from _ _ mark_may refl))

word_good : (place : Place) (text : List ℕ) → IsWordText text → word_faults place text ≡ []
unfolding word_faults
word_good place text w = cond-false (is_bad_number text) _ _ w.number ∙ cond-false (is_bad_date text) _ _ w.date

word_sound : (place : Place) (text : List ℕ) → IsWordText text → own_faults place forms.Word (chars text) ≡ []
unfolding own_faults
word_sound place text w = ap (word_faults place) (encodes-chars text w.utf8) ∙ word_good place text w

quote_sound : (place : Place) (text : List ℕ) → IsQuotable text → own_faults place forms.Quote (chars (34 ∷ text ++ 34 ∷ [])) ≡ []
unfolding own_faults
quote_sound place text w = none_among may_be_quoted place (chars (34 ∷ text ++ 34 ∷ [])) (quote_may text w)

single_sound : (place : Place) (c : ℕ) (cs : List ℕ) → cs ≡ c ∷ [] → (is_space c || is_some (kind_of c)) ≡ true → own_faults place forms.Single cs ≡ []
unfolding own_faults single_faults
single_sound place c cs e h = ap (λ xs. single_faults place (slice_index xs 0)) e ∙ cond-true (is_space c || is_some (kind_of c)) _ _ h

or_second : (x y : Bool) → y ≡ true → (x || y) ≡ true
or_second true y h = refl
or_second false y h = h

sign_sound : (k : Kind) (place : Place) (text : List ℕ) → IsSign k text → own_faults place forms.Single (chars text) ≡ []
sign_sound k place text s = single_sound place s.sign (chars text) (sign_chars k text s) (or_second (is_space s.sign) (is_some (kind_of s.sign)) (ap is_some s.token))

space_sound : (place : Place) → own_faults place forms.Single (32 ∷ []) ≡ []
unfolding is_space
space_sound place = single_sound place 32 (32 ∷ []) refl refl

piece_sound : (k : Kind) (place : Place) (text : List ℕ) → IsWrittenAs k text → own_faults place (form_as k) (chars (written k text)) ≡ []
piece_sound kinds.Word place text w = word_sound place text w
piece_sound kinds.Quote place text w = quote_sound place text w
piece_sound kinds.Open place text w = sign_sound kinds.Open place text w
piece_sound kinds.Close place text w = sign_sound kinds.Close place text w
piece_sound kinds.Bar place text w = sign_sound kinds.Bar place text w
piece_sound kinds.Comma place text w = sign_sound kinds.Comma place text w
piece_sound kinds.Colon place text w = sign_sound kinds.Colon place text w
piece_sound kinds.Star place text w = sign_sound kinds.Star place text w
piece_sound kinds.Stop place text w = sign_sound kinds.Stop place text w

no_comment_as : (k : Kind) (cs : List ℕ) (cuts : List Piece) → begins_comment (piece (form_as k) cs ∷ cuts) ≡ false
no_comment_as kinds.Word cs cuts = refl
no_comment_as kinds.Quote cs cuts = refl
no_comment_as kinds.Open cs cuts = refl
no_comment_as kinds.Close cs cuts = refl
no_comment_as kinds.Bar cs cuts = refl
no_comment_as kinds.Comma cs cuts = refl
no_comment_as kinds.Colon cs cuts = refl
no_comment_as kinds.Star cs cuts = refl
no_comment_as kinds.Stop cs cuts = refl

no_comment_after : (glued : Bool) (cut : Piece) (cuts : List Piece) → begins_comment (cut ∷ cuts) ≡ false → begins_comment (gap_cut glued (cut ∷ cuts)) ≡ false
no_comment_after true cut cuts h = h
no_comment_after false cut cuts h = refl

no_comment : (glued : Bool) (ps : List Item) → begins_comment (cuts_from glued ps) ≡ false
no_comment glued [] = refl
no_comment glued (p ∷ ps) = no_comment_after (glued || hugs p) (cut_of p) (cuts_from (glues p) ps) (no_comment_as (spelling_in p).kind (chars (item_text p)) (cuts_from (glues p) ps))

faults_at-cons : (place : Place) (cut : Piece) (cuts : List Piece) → own_faults place cut.form cut.chars ≡ [] → begins_comment cuts ≡ false → faults_at place (cut ∷ cuts) ≡ faults_at (place_behind place cut.chars) cuts
unfolding faults_at
faults_at-cons place cut cuts own none =
    ap₂ (λ xs ys. xs ++ (ys ++ faults_at (place_behind place cut.chars) cuts)) own
    (cond-false (is_word_form cut.form && begins_comment cuts) _ _ (and_right (is_word_form cut.form) (begins_comment cuts) none))

faults_at-nil : (place : Place) → faults_at place [] ≡ []
unfolding faults_at
faults_at-nil place = refl

gap_sound : (glued : Bool) (cuts : List Piece) → begins_comment cuts ≡ false → ((place : Place) → faults_at place cuts ≡ []) → (place : Place) → faults_at place (gap_cut glued cuts) ≡ []
gap_sound true cuts n h place = h place
gap_sound false cuts n h place = faults_at-cons place space_cut cuts (space_sound place) n ∙ h (place_behind place (32 ∷ []))

cuts_sound : (glued : Bool) (ps : List Item) → AllWritten ps → (place : Place) → faults_at place (cuts_from glued ps) ≡ []
cuts_sound glued [] w place = faults_at-nil place
cuts_sound glued (p ∷ ps) w place =
    gap_sound (glued || hugs p) (cut_of p ∷ cuts_from (glues p) ps)
    (no_comment_as (spelling_in p).kind (chars (item_text p)) (cuts_from (glues p) ps))
    (λ at. faults_at-cons at (cut_of p) (cuts_from (glues p) ps) (piece_sound (spelling_in p).kind at (spelling_in p).text w.0) (no_comment (glues p) ps) ∙ cuts_sound (glues p) ps w.1 (place_behind at (chars (item_text p))))
    place

behind_text : (place : Place) (text : List ℕ) → IsUtf8 text → (place_behind place (chars text)).byte ≡ place.byte + length text
behind_text place text u = behind_byte place (chars text) ∙ ap (λ xs. place.byte + length xs) (encodes-chars text u)

-- the token of a piece spells it
middle : (text front mid back : List ℕ) (from to : ℕ) → text ≡ front ++ (mid ++ back) → from ≡ length front → to ≡ from + length mid → slice_range text from to ≡ mid
middle text front mid back from to e f t =
    let n : to - from ≡ length mid = omega arith in
    ap₂ (λ k xs. take k (drop from xs)) n e ∙ ap (take (length mid)) (drop_at front (mid ++ back) from (sym f)) ∙ take_at mid back (length mid) refl

abbrev one : Kind → List ℕ → List Spelling
one k text = record { kind = k; text = text } ∷ []

one_token : (layout : Layout) (front mid back : List ℕ) (k : Kind) (place : Place) (from to : ℕ) → layout.text ≡ front ++ (mid ++ back) → from ≡ length front → to ≡ from + length mid → spellings layout (token k place from to ∷ []) ≡ one k mid
one_token layout front mid back k place from to e f t = ap (λ text. one k text) (middle layout.text front mid back from to e f t)

word_token : (layout : Layout) (front text back : List ℕ) (place : Place) (to : ℕ) → layout.text ≡ front ++ (text ++ back) → place.byte ≡ length front → to ≡ place.byte + length text → spellings layout (token_at forms.Word (chars text) place to) ≡ one kinds.Word text
unfolding token_at
word_token layout front text back place to e f t = one_token layout front text back kinds.Word place place.byte to e f t

quote_token : (layout : Layout) (front text back : List ℕ) (place : Place) (to : ℕ) → layout.text ≡ front ++ ((34 ∷ text ++ 34 ∷ []) ++ back) → place.byte ≡ length front → to ≡ place.byte + length (34 ∷ text ++ 34 ∷ []) → spellings layout (token_at forms.Quote (chars (34 ∷ text ++ 34 ∷ [])) place to) ≡ one kinds.Quote text
unfolding token_at
quote_token layout front text back place to e f t =
    one_token layout (front ++ 34 ∷ []) text (34 ∷ back) kinds.Quote place (place.byte + 1) (to - 1)
    (e ∙ ap (λ xs. front ++ (34 ∷ xs)) (append_assoc text (34 ∷ []) back) ∙ sym (append_assoc front (34 ∷ []) (text ++ 34 ∷ back)))
    (omega (arith, length-append front (34 ∷ [])))
    (omega (arith, length-append text (34 ∷ [])))

sign_token : (k : Kind) (layout : Layout) (front text back : List ℕ) (place : Place) (to : ℕ) → IsSign k text → layout.text ≡ front ++ (text ++ back) → place.byte ≡ length front → to ≡ place.byte + length text → spellings layout (token_at forms.Single (chars text) place to) ≡ one k text
unfolding token_at
sign_token k layout front text back place to s e f t =
    ap (λ xs. spellings layout (single_token (kind_of (slice_index xs 0)) place to)) (sign_chars k text s)
    ∙ ap (λ found. spellings layout (single_token found place to)) s.token
    ∙ one_token layout front text back k place place.byte to e f t

piece_token : (k : Kind) (layout : Layout) (front text back : List ℕ) (place : Place) (to : ℕ) → IsWrittenAs k text → layout.text ≡ front ++ (written k text ++ back) → place.byte ≡ length front → to ≡ place.byte + length (written k text) → spellings layout (token_at (form_as k) (chars (written k text)) place to) ≡ one k text
piece_token kinds.Word layout front text back place to w e f t = word_token layout front text back place to e f t
piece_token kinds.Quote layout front text back place to w e f t = quote_token layout front text back place to e f t
piece_token kinds.Open layout front text back place to w e f t = sign_token kinds.Open layout front text back place to w e f t
piece_token kinds.Close layout front text back place to w e f t = sign_token kinds.Close layout front text back place to w e f t
piece_token kinds.Bar layout front text back place to w e f t = sign_token kinds.Bar layout front text back place to w e f t
piece_token kinds.Comma layout front text back place to w e f t = sign_token kinds.Comma layout front text back place to w e f t
piece_token kinds.Colon layout front text back place to w e f t = sign_token kinds.Colon layout front text back place to w e f t
piece_token kinds.Star layout front text back place to w e f t = sign_token kinds.Star layout front text back place to w e f t
piece_token kinds.Stop layout front text back place to w e f t = sign_token kinds.Stop layout front text back place to w e f t

spellings-append : (layout : Layout) (ts us : List Token) → spellings layout (ts ++ us) ≡ spellings layout ts ++ spellings layout us
spellings-append layout [] us = refl
spellings-append layout (t ∷ ts) us = ap (λ xs. spelling_of layout t ∷ xs) (spellings-append layout ts us)

space_token : (place : Place) (to : ℕ) → token_at forms.Single (32 ∷ []) place to ≡ []
unfolding token_at kind_of
space_token place to = refl

-- what is spelled from a place on, whatever stands before it
abbrev Spells : Layout → List Piece → List ℕ → List Spelling → Type 0
Spells layout cuts bytes spelled = (front : List ℕ) (place : Place) → layout.text ≡ front ++ bytes → place.byte ≡ length front → spellings layout (tokens_at place cuts) ≡ spelled

space_byte : (place : Place) → (place_behind place (32 ∷ [])).byte ≡ place.byte + 1
unfolding next_place
space_byte place = refl

gap_spells : (layout : Layout) (glued : Bool) (cuts : List Piece) (bytes : List ℕ) (spelled : List Spelling) → Spells layout cuts bytes spelled → Spells layout (gap_cut glued cuts) ((if glued then [] else 32 ∷ []) ++ bytes) spelled
gap_spells layout true cuts bytes spelled h front place e f = h front place e f
gap_spells layout false cuts bytes spelled h front place e f =
    let next = place_behind place (32 ∷ []) in
    ap (spellings layout) (tokens_at-cons place space_cut cuts ∙ ap (λ ts. ts ++ tokens_at next cuts) (space_token place next.byte))
    ∙ h (front ++ 32 ∷ []) next (e ∙ sym (append_assoc front (32 ∷ []) bytes)) (omega (arith, space_byte place, length-append front (32 ∷ [])))

piece_spells : (layout : Layout) (p : Item) (ps : List Item) → IsWritten (spelling_in p) → Spells layout (cuts_from (glues p) ps) (joined_from (glues p) ps) (map spelling_in ps) → Spells layout (cut_of p ∷ cuts_from (glues p) ps) (item_text p ++ joined_from (glues p) ps) (map spelling_in (p ∷ ps))
piece_spells layout p ps w rest front place e f =
    let u = written_utf8 (spelling_in p).kind (spelling_in p).text w in
    let next = place_behind place (chars (item_text p)) in
    let far = behind_text place (item_text p) u in
    ap (spellings layout) (tokens_at-cons place (cut_of p) (cuts_from (glues p) ps))
    ∙ spellings-append layout (token_at (form_as (spelling_in p).kind) (chars (item_text p)) place next.byte) (tokens_at next (cuts_from (glues p) ps))
    ∙ ap₂ (λ xs ys. xs ++ ys)
    (piece_token (spelling_in p).kind layout front (spelling_in p).text (joined_from (glues p) ps) place next.byte w e f far)
    (rest (front ++ item_text p) next (e ∙ sym (append_assoc front (item_text p) (joined_from (glues p) ps))) (omega (arith, far, f, length-append front (item_text p))))

joined_spells : (layout : Layout) (glued : Bool) (ps : List Item) → AllWritten ps → Spells layout (cuts_from glued ps) (joined_from glued ps) (map spelling_in ps)
joined_spells layout glued [] w front place e f = ap (spellings layout) (tokens_at-nil place)
joined_spells layout glued (p ∷ ps) w front place e f =
    gap_spells layout (glued || hugs p) (cut_of p ∷ cuts_from (glues p) ps) (item_text p ++ joined_from (glues p) ps) (map spelling_in (p ∷ ps))
    (λ front2 place2 e2 f2. piece_spells layout p ps w.0 (joined_spells layout (glues p) ps w.1) front2 place2 e2 f2)
    front place e f

-- one line
abbrev not_lf : ℕ → Bool
not_lf c = not (c == 10)

word_lf : (c : ℕ) → is_word_character c ≡ true → not_lf c ≡ true
word_lf c h = ap not (ne_eqb c 10 (λ e. both_ways (is_word_character c) (ap is_word_character e ∙ lf_no_word) h))

on_lf : (a b : ℕ) (bs : List ℕ) → goes_on a (b ∷ bs) ≡ true → not_lf b ≡ true
on_lf a b bs h = ap not (ne_eqb b 10 (λ e. both_ways (goes_on a (b ∷ bs)) (ap (λ c. goes_on a (c ∷ bs)) e ∙ goes_on-cases a 10 bs ∙ ap₂ (λ x y. x || y) lf_no_word (joins-lf a bs)) h))

more_lf : (a : ℕ) (bs : List ℕ) → all_go_on a bs ≡ true → list_all not_lf bs ≡ true
more_lf a [] h = refl
more_lf a (b ∷ bs) h = let both = and_parts (goes_on a (b ∷ bs)) (all_go_on b bs) h in and_from _ _ (on_lf a b bs both.0) (more_lf b bs both.1)

is_word_lf : (cs : List ℕ) → is_word cs ≡ true → list_all not_lf cs ≡ true
is_word_lf [] h = refl
is_word_lf (c ∷ cs) h = let both = and_parts (is_word_character c) (all_go_on c cs) h in and_from _ _ (word_lf c both.0) (more_lf c cs both.1)

lf_not_quoted : may_be_quoted 10 ≡ false
unfolding may_be_quoted
lf_not_quoted = refl

quoted_lf : (c : ℕ) → may_be_quoted c ≡ true → not_lf c ≡ true
quoted_lf c h = ap not (ne_eqb c 10 (λ e. both_ways (may_be_quoted c) (ap may_be_quoted e ∙ lf_not_quoted) h))

quoted_all_lf : (cs : List ℕ) → list_all may_be_quoted cs ≡ true → list_all not_lf cs ≡ true
quoted_all_lf [] h = refl
quoted_all_lf (c ∷ cs) h = let both = and_parts (may_be_quoted c) (list_all may_be_quoted cs) h in and_from _ _ (quoted_lf c both.0) (quoted_all_lf cs both.1)

sign_lf : (k : Kind) (text : List ℕ) → IsSign k text → list_all not_lf (chars text) ≡ true
sign_lf k text s = ap (list_all not_lf) (sign_chars k text s) ∙ and_from _ _ (ap not (sign_character s.sign k s.token).no_lf) refl

piece_lf : (k : Kind) (text : List ℕ) → IsWrittenAs k text → list_all not_lf (chars (written k text)) ≡ true
piece_lf kinds.Word text w = is_word_lf (chars text) w.word
piece_lf kinds.Quote text w = quoted_all_lf (chars (34 ∷ text ++ 34 ∷ [])) (quote_may text w)
piece_lf kinds.Open text w = sign_lf kinds.Open text w
piece_lf kinds.Close text w = sign_lf kinds.Close text w
piece_lf kinds.Bar text w = sign_lf kinds.Bar text w
piece_lf kinds.Comma text w = sign_lf kinds.Comma text w
piece_lf kinds.Colon text w = sign_lf kinds.Colon text w
piece_lf kinds.Star text w = sign_lf kinds.Star text w
piece_lf kinds.Stop text w = sign_lf kinds.Stop text w

gap_lf : (glued : Bool) (bs : List ℕ) → list_all not_lf (chars bs) ≡ true → list_all not_lf (chars ((if glued then [] else 32 ∷ []) ++ bs)) ≡ true
gap_lf true bs h = h
gap_lf false bs h = ap (list_all not_lf) (cons_chars 32 bs (omega arith)) ∙ h

joined_lf : (glued : Bool) (ps : List Item) → AllWritten ps → list_all not_lf (chars (joined_from glued ps)) ≡ true
joined_lf glued [] w = ap (list_all not_lf) chars-nil
joined_lf glued (p ∷ ps) w =
    gap_lf (glued || hugs p) (item_text p ++ joined_from (glues p) ps)
    (ap (list_all not_lf) (piece_chars (spelling_in p).kind (spelling_in p).text (joined_from (glues p) ps) w.0)
    ∙ all-append not_lf (chars (item_text p)) (chars (joined_from (glues p) ps)) (piece_lf (spelling_in p).kind (spelling_in p).text w.0) (joined_lf (glues p) ps w.1))

faults_from-line : (place : Place) (line : List ℕ) → faults_from place (line ∷ []) ≡ faults_at place (pieces_of line) ++ []
unfolding faults_from
faults_from-line place line = refl

faults_from-nil : (place : Place) → faults_from place [] ≡ []
unfolding faults_from
faults_from-nil place = refl

line_faults : (place : Place) (cs : List ℕ) → list_all not_lf cs ≡ true → faults_from place (lines_of cs) ≡ faults_at place (pieces_of cs)
line_faults place [] h = ap (faults_from place) lines_of-nil ∙ faults_from-nil place ∙ sym (ap (faults_at place) pieces_of-nil ∙ faults_at-nil place)
line_faults place (c ∷ cs) h = ap (faults_from place) (unended_line (c ∷ cs) (omega arith) h) ∙ faults_from-line place (c ∷ cs) ∙ append-nil (faults_at place (pieces_of (c ∷ cs)))

rows_from-line : (place : Place) (line : List ℕ) → flat_map (λ row. row) (rows_from place (line ∷ [])) ≡ tokens_at place (pieces_of line) ++ []
unfolding rows_from
rows_from-line place line = refl

rows_from-nil : (place : Place) → flat_map (λ row. row) (rows_from place []) ≡ []
unfolding rows_from
rows_from-nil place = refl

line_tokens : (place : Place) (cs : List ℕ) → list_all not_lf cs ≡ true → flat_map (λ row. row) (rows_from place (lines_of cs)) ≡ tokens_at place (pieces_of cs)
line_tokens place [] h = ap (λ ls. flat_map (λ row. row) (rows_from place ls)) lines_of-nil ∙ rows_from-nil place ∙ sym (ap (tokens_at place) pieces_of-nil ∙ tokens_at-nil place)
line_tokens place (c ∷ cs) h = ap (λ ls. flat_map (λ row. row) (rows_from place ls)) (unended_line (c ∷ cs) (omega arith) h) ∙ rows_from-line place (c ∷ cs) ∙ append-nil (tokens_at place (pieces_of (c ∷ cs)))

-- no byte order mark
is_mark_false : (c : ℕ) → is_word_character c ≡ true → (c == 65279) ≡ false
is_mark_false c h = ne_eqb c 65279 (λ e. both_ways (is_word_character c) (ap is_word_character e ∙ bom_no_word) h)

word_begins : (cs rest : List ℕ) → is_word cs ≡ true → begins_with 65279 (cs ++ rest) ≡ false
word_begins [] rest h = cc
word_begins (c ∷ cs) rest h = is_mark_false c (and_parts (is_word_character c) (all_go_on c cs) h).0

sign_begins : (k : Kind) (text rest : List ℕ) → IsSign k text → begins_with 65279 (chars text ++ rest) ≡ false
sign_begins k text rest s =
    ap (λ xs. begins_with 65279 (xs ++ rest)) (sign_chars k text s)
    ∙ ne_eqb s.sign 65279 (λ e. omega (arith, (sign_character s.sign k s.token).small, e))

piece_begins : (k : Kind) (text rest : List ℕ) → IsWrittenAs k text → begins_with 65279 (chars (written k text) ++ rest) ≡ false
piece_begins kinds.Word text rest w = word_begins (chars text) rest w.word
piece_begins kinds.Quote text rest w = ap (λ xs. begins_with 65279 (xs ++ rest)) (quote_chars text w.utf8)
piece_begins kinds.Open text rest w = sign_begins kinds.Open text rest w
piece_begins kinds.Close text rest w = sign_begins kinds.Close text rest w
piece_begins kinds.Bar text rest w = sign_begins kinds.Bar text rest w
piece_begins kinds.Comma text rest w = sign_begins kinds.Comma text rest w
piece_begins kinds.Colon text rest w = sign_begins kinds.Colon text rest w
piece_begins kinds.Star text rest w = sign_begins kinds.Star text rest w
piece_begins kinds.Stop text rest w = sign_begins kinds.Stop text rest w

no_mark : (ps : List Item) → AllWritten ps → has_mark (chars (joined_from true ps)) ≡ false
no_mark [] w = ap has_mark chars-nil
no_mark (p ∷ ps) w =
    ap has_mark (piece_chars (spelling_in p).kind (spelling_in p).text (joined_from (glues p) ps) w.0)
    ∙ piece_begins (spelling_in p).kind (spelling_in p).text (chars (joined_from (glues p) ps)) w.0

-- the layout
abbrev start : Place
start = record { byte = 0; line = 1; column = 0 }

first_is : (cs : List ℕ) → has_mark cs ≡ false → first_place cs ≡ start
first_is cs h = ap (λ b. record { byte = cond b 3 0; line = 1; column = 0 }) h

rest_is : (cs : List ℕ) → has_mark cs ≡ false → without_mark cs ≡ cs
rest_is cs h = cond-false (has_mark cs) _ _ h

faults_are : (cs : List ℕ) → has_mark cs ≡ false → list_all not_lf cs ≡ true → faults_of cs ≡ faults_at start (pieces_of cs)
faults_are cs h k = ap₂ (λ place xs. faults_from place (lines_of xs)) (first_is cs h) (rest_is cs h) ∙ line_faults start cs k

tokens_are : (text : List ℕ) → has_mark (chars text) ≡ false → list_all not_lf (chars text) ≡ true → (layout_in text).tokens ≡ tokens_at start (pieces_of (chars text))
unfolding layout_in
tokens_are text h k = ap₂ (λ place xs. flat_map (λ row. row) (rows_from place (lines_of xs))) (first_is (chars text) h) (rest_is (chars text) h) ∙ line_tokens start (chars text) k

text_is : (text : List ℕ) → (layout_in text).text ≡ text
unfolding layout_in
text_is text = refl

scanned : (text : List ℕ) → IsUtf8 text → faults_of (chars text) ≡ [] → layout_of text ≡ Ok (layout_in text)
unfolding layout_of
scanned text u f = cond-true (is_utf8 text) _ _ (is_utf8-from_IsUtf8 text u) ∙ ap (unless_faulty (layout_in text)) f

joined_is : (ps : List Item) → joined ps ≡ joined_from true ps
unfolding joined
joined_is ps = refl

back : (ps : List Item) → AllWritten ps → (layout : Layout) × (layout_of (joined_from true ps) ≡ Ok layout) × (spellings layout layout.tokens ≡ map spelling_in ps)
back ps w =
    let text = joined_from true ps in
    let cs = chars text in
    let mark = no_mark ps w in
    let lf = joined_lf true ps w in
    let cut = cut_joined true ps w in (
      layout_in text,
      scanned text (joined_utf8 true ps w) (faults_are cs mark lf ∙ ap (faults_at start) cut ∙ cuts_sound true ps w start),
      ap (spellings (layout_in text)) (tokens_are text mark lf ∙ ap (tokens_at start) cut)
          ∙ joined_spells (layout_in text) true ps w [] start (text_is text) refl,
    )

pub scans_back_lem : (ps : List Item) → AllWritten ps → (layout : Layout) × (layout_of (joined ps) ≡ Ok layout) × (spellings layout layout.tokens ≡ map spelling_in ps)
scans_back_lem ps w =
    let P : List ℕ → Type 0 = λ text. (layout : Layout) × (layout_of text ≡ Ok layout) × (spellings layout layout.tokens ≡ map spelling_in ps) in
    subst P (sym (joined_is ps)) (back ps w)
