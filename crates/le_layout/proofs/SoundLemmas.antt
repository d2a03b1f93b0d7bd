-- A layout's tokens lie in its text, and its lines have tokens.
use Rattle.std.proofs.Common.{◌≡◌, ◌==◌, ℕ, ◌+◌, ◌-◌, ◌^◌, ◌<◌, ◌≤◌, Bool, true, false, not, if◌then◌else◌, List, [], ◌∷◌, ◌++◌, length, take, drop, flat_map, slice_index, slice_range, Option, Some, None, All, IsUtf8, IsCharBoundary, chars, sym, refl, ap, ap₂, ◌∙◌, subst, ⊎_elim, arith, append_assoc, length-append, take_at, drop_at}
use Rattle.std.specs.Str.{encode_utf8_all, all_scalars}
use Rattle.std.specs.Char.{len_utf8}
use Rattle.std.specs.List.{AllByRecursion, list_all}
use Rattle.std.proofs.lemmas.Bool.{cases_Bool, cond-true, cond-false, and_parts, and_from, eqb-true}
use Rattle.std.proofs.lemmas.List.Elements.{All-from_recursion, All-weaker}
use Rattle.std.proofs.lemmas.Str.{IsCharBoundary-at_seam, chars-encodes, encode_ascii, encodes-append, encodes-chars, scalars-chars, length-le-encodes}
use Rattle.le_base.specs.declared.stop.Refusal.{Refusal}
use Rattle.le_layout.specs.declared.token.Kind.{Kind}
use Rattle.le_layout.specs.declared.token.Kind.TheVariants as kinds
use Rattle.le_layout.specs.declared.token.Token.{Token}
use Rattle.le_layout.specs.declared.token.Line.{Line}
use Rattle.le_layout.specs.declared.place.Place.{Place}
use Rattle.le_layout.specs.declared.piece.Form.{Form}
use Rattle.le_layout.specs.declared.piece.Form.TheVariants as forms
use Rattle.le_layout.specs.Characters.{kind_of, may_be_quoted}
use Rattle.le_layout.specs.Places.{next_place, place_behind, has_mark, without_mark, first_place}
use Rattle.le_layout.specs.Lines.{lines_of, text_of_lines}
use Rattle.le_layout.specs.Pieces.{Piece, pieces_of, is_word, IsPiece, IsLongestWord, IsClosedQuote, IsOpenQuote, IsComment, IsLineEnd, IsSingle, Cuts}
use Rattle.le_layout.specs.Faults.{is_bad_number, is_bad_date, word_faults, faults_among, own_faults, joined_faults, faults_at, faults_from}
use Rattle.le_layout.specs.Written.{is_quotable, IsWordText, IsQuotable, IsWrittenAs}
use Rattle.le_layout.specs.Layout.{token, single_token, token_at, tokens_at, rows_from, rows_of, line_of, lines_from, layout_in, faults_of, place_after, place_in, first_byte, InOrder, IsTokenIn, IsLineOver, Follow, IsLayout}
use Rattle.le_layout.proofs.LineLemmas.{text_of_lines-lines_of}
use Rattle.le_layout.proofs.CutLemmas.{cuts-pieces_of}
use Rattle.le_layout.proofs.StandLemmas.{bytes-append, bytes-cons, behind_byte, moved, scalars_parts}
use Rattle.le_layout.proofs.StepLemmas.{place_behind-append, behind_later}
use Rattle.le_layout.proofs.KindLemmas.{sign_character, sign_as, sign_first}

-- the place that characters lead to, in a text that they begin
pub record Leads (cs front : List ℕ) (place : Place) : Type 0 where
  pub same : has_mark front ≡ has_mark cs
  pub led : place ≡ place_after front
  pub byte : place.byte ≡ length (encode_utf8_all front)

without_more : (front xs : List ℕ) → has_mark (front ++ xs) ≡ has_mark front → without_mark (front ++ xs) ≡ without_mark front ++ xs
without_more [] xs h = cond-false (has_mark xs) _ _ h
without_more (c ∷ front) xs h =
    ⊎_elim (λ k. cond-true (c == 65_279) (front ++ xs) (c ∷ (front ++ xs)) k ∙ ap (λ ys. ys ++ xs) (sym (cond-true (c == 65_279) front (c ∷ front) k)))
    (λ k. cond-false (c == 65_279) (front ++ xs) (c ∷ (front ++ xs)) k ∙ ap (λ ys. ys ++ xs) (sym (cond-false (c == 65_279) front (c ∷ front) k)))
    (cases_Bool (c == 65_279))

after_more : (front xs : List ℕ) → has_mark (front ++ xs) ≡ has_mark front → place_after (front ++ xs) ≡ place_behind (place_after front) xs
after_more front xs h =
    ap₂ place_behind (ap (λ b. record { byte = if b then 3 else 0; line = 1; column = 0 }) h) (without_more front xs h)
    ∙ place_behind-append (first_place front) (without_mark front) xs

mark_more : (cs front xs more : List ℕ) → cs ≡ front ++ (xs ++ more) → has_mark front ≡ has_mark cs → has_mark (front ++ xs) ≡ has_mark cs
mark_more cs [] [] more e h = h
mark_more cs [] (x ∷ xs) more e h = ap has_mark (sym e)
mark_more cs (c ∷ front) xs more e h = h

leads_on : (cs front xs more : List ℕ) (place : Place) → cs ≡ front ++ (xs ++ more) → Leads cs front place → Leads cs (front ++ xs) (place_behind place xs)
leads_on cs front xs more place e l =
    let same = mark_more cs front xs more e l.same in
    record {
      same = same;
      led = ap (λ p. place_behind p xs) l.led ∙ sym (after_more front xs (same ∙ sym l.same));
      byte = omega (arith, behind_byte place xs, l.byte, bytes-append front xs);
    }

-- the characters of a token stand among those of the text, with so many bytes before them, and those before its first character lead to its place
record LiesIn (cs : List ℕ) (t : Token) : Type 0 where
  front : List ℕ
  middle : List ℕ
  back : List ℕ
  whole : cs ≡ front ++ (middle ++ back)
  from : t.from ≡ length (encode_utf8_all front)
  to : t.to ≡ length (encode_utf8_all front) + length (encode_utf8_all middle)
  written : all_scalars middle ≡ true → IsWrittenAs t.kind (encode_utf8_all middle)
  before : List ℕ
  after : List ℕ
  begun : cs ≡ before ++ after
  first : first_byte t.kind t.from ≡ length (encode_utf8_all before)
  line : t.line ≡ (place_after before).line
  column : t.column ≡ (place_after before).column + 1

both : {X : Type 0} (P : X → Type 0) (xs ys : List X) → AllByRecursion P xs → AllByRecursion P ys → AllByRecursion P (xs ++ ys)
both P [] ys h k = k
both P (x ∷ xs) ys h k = (h.0, both P xs ys h.1 k)

-- what stands where a piece does, without faults
record Stands (cs front middle back : List ℕ) (place : Place) (to : ℕ) : Type 0 where
  whole : cs ≡ front ++ (middle ++ back)
  leads : Leads cs front place
  until : to ≡ place.byte + length (encode_utf8_all middle)

-- the token of a piece lies where the piece does
one_lies : (cs front middle back : List ℕ) (kind : Kind) (place : Place) (to : ℕ) → Stands cs front middle back place to → first_byte kind place.byte ≡ place.byte → (all_scalars middle ≡ true → IsWrittenAs kind (encode_utf8_all middle)) → AllByRecursion (LiesIn cs) (token kind place place.byte to ∷ [])
one_lies cs front middle back kind place to s f w = (
  record {
    front = front;
    middle = middle;
    back = back;
    whole = s.whole;
    from = s.leads.byte;
    to = omega (arith, s.until, s.leads.byte);
    written = w;
    before = front;
    after = middle ++ back;
    begun = s.whole;
    first = f ∙ s.leads.byte;
    line = ap (λ (p : Place). p.line) s.leads.led;
    column = ap (λ (p : Place). p.column + 1) s.leads.led;
  },
  tt,
)

-- a word
utf8_of : (cs : List ℕ) → all_scalars cs ≡ true → IsUtf8 (encode_utf8_all cs)
utf8_of cs h = (cs, (h, refl))

some_fault : (r : Refusal) (rs : List Refusal) → r ∷ rs ≡ [] → ⊥
some_fault r rs e = cc

word_sound : (place : Place) (cs : List ℕ) → own_faults place forms.Word cs ≡ [] → (is_bad_number (encode_utf8_all cs) ≡ false) × (is_bad_date (encode_utf8_all cs) ≡ false)
unfolding own_faults word_faults
word_sound place cs e =
    let word = encode_utf8_all cs in
    ⊎_elim (λ h. absurd (some_fault _ _ (sym (cond-true (is_bad_number word) _ _ h) ∙ e)))
    (λ h. ⊎_elim (λ k. absurd (some_fault _ _ (sym (cond-true (is_bad_date word) _ _ k) ∙ sym (cond-false (is_bad_number word) _ _ h) ∙ e))) (λ k. (h, k)) (cases_Bool (is_bad_date word)))
    (cases_Bool (is_bad_number word))

word_text : (place : Place) (cs : List ℕ) → is_word cs ≡ true → own_faults place forms.Word cs ≡ [] → all_scalars cs ≡ true → IsWordText (encode_utf8_all cs)
word_text place cs w f h =
    let sound = word_sound place cs f in
    record { utf8 = utf8_of cs h; word = ap is_word (chars-encodes cs h) ∙ w; number = sound.0; date = sound.1 }

word_lies : (cs front middle back : List ℕ) (place : Place) (to : ℕ) → Stands cs front middle back place to → is_word middle ≡ true → own_faults place forms.Word middle ≡ [] → AllByRecursion (LiesIn cs) (token_at forms.Word middle place to)
unfolding token_at
word_lies cs front middle back place to s w f = one_lies cs front middle back kinds.Word place to s refl (word_text place middle w f)

-- a character that is a token by itself
single_lies : (cs front back : List ℕ) (c : ℕ) (place : Place) (to : ℕ) (kind : Option Kind) → Stands cs front (c ∷ []) back place to → kind_of c ≡ kind → AllByRecursion (LiesIn cs) (single_token kind place to)
single_lies cs front back c place to None s e = tt
single_lies cs front back c place to (Some kind) s e =
    let bytes : encode_utf8_all (c ∷ []) ≡ c ∷ [] = ap (λ xs. xs ++ []) (encode_ascii c (sign_character c kind e).small) in
    one_lies cs front (c ∷ []) back kind place to s (sign_first c kind e place.byte) (λ h. sign_as c kind e (encode_utf8_all (c ∷ [])) (record { sign = c; only = bytes; token = e }))

alone_lies : (cs front back : List ℕ) (c : ℕ) (place : Place) (to : ℕ) → Stands cs front (c ∷ []) back place to → AllByRecursion (LiesIn cs) (token_at forms.Single (c ∷ []) place to)
unfolding token_at
alone_lies cs front back c place to s = single_lies cs front back c place to (kind_of c) s refl

-- a quoted text
none_among : (may : ℕ → Bool) (place : Place) (cs : List ℕ) → faults_among may place cs ≡ [] → list_all may cs ≡ true
none_among may place [] e = refl
none_among may place (c ∷ cs) e =
    ⊎_elim (λ h. and_from _ _ h (none_among may (next_place place c) cs (sym (cond-true (may c) _ _ h) ∙ e)))
    (λ h. absurd (some_fault _ _ (sym (cond-false (may c) _ _ h) ∙ e)))
    (cases_Bool (may c))

quote_among : (place : Place) (cs : List ℕ) → own_faults place forms.Quote cs ≡ [] → list_all may_be_quoted cs ≡ true
unfolding own_faults
quote_among place cs e = none_among may_be_quoted place cs e

all_front : (p : ℕ → Bool) (xs ys : List ℕ) → list_all p (xs ++ ys) ≡ true → list_all p xs ≡ true
all_front p [] ys h = refl
all_front p (x ∷ xs) ys h = let parts = and_parts (p x) (list_all p (xs ++ ys)) h in and_from _ _ parts.0 (all_front p xs ys parts.1)

quotable_all : (cs : List ℕ) → list_all may_be_quoted cs ≡ true → list_all (λ c. not (c == 34)) cs ≡ true → list_all is_quotable cs ≡ true
unfolding is_quotable
quotable_all [] h k = refl
quotable_all (c ∷ cs) h k =
    let may = and_parts (may_be_quoted c) (list_all may_be_quoted cs) h in
    let inner = and_parts (not (c == 34)) (list_all (λ d. not (d == 34)) cs) k in
    and_from _ _ (and_from _ _ may.0 inner.0) (quotable_all cs may.1 inner.1)

quote_text : (place : Place) (content : List ℕ) → list_all (λ c. not (c == 34)) content ≡ true → own_faults place forms.Quote (34 ∷ content ++ 34 ∷ []) ≡ [] → all_scalars content ≡ true → IsQuotable (encode_utf8_all content)
quote_text place content inner f h =
    let may = all_front may_be_quoted content (34 ∷ []) (and_parts (may_be_quoted 34) (list_all may_be_quoted (content ++ 34 ∷ [])) (quote_among place (34 ∷ content ++ 34 ∷ []) f)).1 in
    record { utf8 = utf8_of content h; inner = ap (list_all is_quotable) (chars-encodes content h) ∙ quotable_all content may inner }

quote_lies : (cs front content back : List ℕ) (place : Place) (to : ℕ) → Stands cs front (34 ∷ content ++ 34 ∷ []) back place to → list_all (λ c. not (c == 34)) content ≡ true → own_faults place forms.Quote (34 ∷ content ++ 34 ∷ []) ≡ [] → AllByRecursion (LiesIn cs) (token_at forms.Quote (34 ∷ content ++ 34 ∷ []) place to)
unfolding token_at
quote_lies cs front content back place to s inner f =
    let mark : length (encode_utf8_all (34 ∷ [])) ≡ 1 = bytes-cons 34 [] in
    let opened = bytes-append front (34 ∷ []) in
    let all = bytes-cons 34 (content ++ 34 ∷ []) in
    let rest = bytes-append content (34 ∷ []) in (
      record {
        front = front ++ 34 ∷ [];
        middle = content;
        back = 34 ∷ back;
        whole = s.whole ∙ ap (λ xs. front ++ (34 ∷ xs)) (append_assoc content (34 ∷ []) back) ∙ sym (append_assoc front (34 ∷ []) (content ++ 34 ∷ back));
        from = omega (arith, s.leads.byte, opened, mark);
        to = omega (arith, s.leads.byte, s.until, opened, mark, all, rest);
        written = λ h. quote_text place content inner f h;
        before = front;
        after = (34 ∷ content ++ 34 ∷ []) ++ back;
        begun = s.whole;
        first = omega (arith, s.leads.byte);
        line = ap (λ (p : Place). p.line) s.leads.led;
        column = ap (λ (p : Place). p.column + 1) s.leads.led;
      },
      tt,
    )

no_lies : (cs chars : List ℕ) (place : Place) (to : ℕ) → AllByRecursion (LiesIn cs) (token_at forms.OpenQuote chars place to) × AllByRecursion (LiesIn cs) (token_at forms.Comment chars place to) × AllByRecursion (LiesIn cs) (token_at forms.LineEnd chars place to)
unfolding token_at
no_lies cs chars place to = (tt, tt, tt)

piece_lies : (cs front back rest : List ℕ) (p : Piece) (place : Place) (to : ℕ) → IsPiece p rest → Stands cs front p.chars back place to → own_faults place p.form p.chars ≡ [] → AllByRecursion (LiesIn cs) (token_at p.form p.chars place to)
piece_lies cs front back rest p place to h s n =
    let P : List ℕ → Form → Type 0 = λ xs form. Stands cs front xs back place to → own_faults place form xs ≡ [] → AllByRecursion (LiesIn cs) (token_at form xs place to) in
    let at : (xs : List ℕ) (form : Form) → p.chars ≡ xs → p.form ≡ form → P xs form → AllByRecursion (LiesIn cs) (token_at p.form p.chars place to) = λ xs form e f q. subst (λ ys. P ys p.form) (sym e) (subst (P xs) (sym f) q) s n in
    ⊎_elim (λ (w : IsLongestWord p rest). at p.chars forms.Word refl w.form (λ t k. word_lies cs front p.chars back place to t w.word k))
    (λ h2. ⊎_elim (λ (q : IsClosedQuote p). at (34 ∷ q.content ++ 34 ∷ []) forms.Quote q.chars q.form (λ t k. quote_lies cs front q.content back place to t q.inner k))
    (λ h3. ⊎_elim (λ (q : IsOpenQuote p rest). at p.chars forms.OpenQuote refl q.form (λ t k. (no_lies cs p.chars place to).0))
    (λ h4. ⊎_elim (λ (q : IsComment p rest). at p.chars forms.Comment refl q.form (λ t k. (no_lies cs p.chars place to).1))
    (λ h5. ⊎_elim (λ (q : IsLineEnd p). at p.chars forms.LineEnd refl q.form (λ t k. (no_lies cs p.chars place to).2))
    (λ (q : IsSingle p rest). at (q.char ∷ []) forms.Single q.chars q.form (λ t k. alone_lies cs front back q.char place to t))
    h5) h4) h3) h2) h

pub tokens_at-cons : (place : Place) (p : Piece) (ps : List Piece) → tokens_at place (p ∷ ps) ≡ token_at p.form p.chars place (place_behind place p.chars).byte ++ tokens_at (place_behind place p.chars) ps
unfolding tokens_at
tokens_at-cons place p ps = refl

pub tokens_at-nil : (place : Place) → tokens_at place [] ≡ []
unfolding tokens_at
tokens_at-nil place = refl

faults_at-cons : (place : Place) (p : Piece) (ps : List Piece) → faults_at place (p ∷ ps) ≡ own_faults place p.form p.chars ++ (joined_faults place p ps ++ faults_at (place_behind place p.chars) ps)
unfolding faults_at
faults_at-cons place p ps = refl

faults_from-cons : (place : Place) (line : List ℕ) (lines : List (List ℕ)) → faults_from place (line ∷ lines) ≡ faults_at place (pieces_of line) ++ faults_from (place_behind place line) lines
unfolding faults_from
faults_from-cons place line lines = refl

empty_parts : {X : Type 0} (xs ys : List X) → xs ++ ys ≡ [] → (xs ≡ []) × (ys ≡ [])
empty_parts [] ys e = (refl, e)
empty_parts (x ∷ xs) ys e = cc

tokens_lie : (cs front line after : List ℕ) (place : Place) (ps : List Piece) → Cuts line ps → cs ≡ front ++ (line ++ after) → Leads cs front place → faults_at place ps ≡ [] → AllByRecursion (LiesIn cs) (tokens_at place ps)
tokens_lie cs front line after place [] c e l n = subst (AllByRecursion (LiesIn cs)) (sym (tokens_at-nil place)) tt
tokens_lie cs front line after place (p ∷ ps) c e l n =
    let next = place_behind place p.chars in
    let all : cs ≡ front ++ (p.chars ++ (c.0 ++ after)) = e ∙ ap (λ xs. front ++ (xs ++ after)) c.1 ∙ ap (λ xs. front ++ xs) (append_assoc p.chars c.0 after) in
    let none = empty_parts (own_faults place p.form p.chars) (joined_faults place p ps ++ faults_at next ps) (sym (faults_at-cons place p ps) ∙ n) in
    let rest = empty_parts (joined_faults place p ps) (faults_at next ps) none.1 in
    subst (AllByRecursion (LiesIn cs)) (sym (tokens_at-cons place p ps))
    (both (LiesIn cs) (token_at p.form p.chars place next.byte) (tokens_at next ps)
    (piece_lies cs front (c.0 ++ after) c.0 p place next.byte c.2 (record { whole = all; leads = l; until = behind_byte place p.chars }) none.0)
    (tokens_lie cs (front ++ p.chars) c.0 after next ps c.3 (all ∙ moved front p.chars (c.0 ++ after)) (leads_on cs front p.chars (c.0 ++ after) place all l) rest.1))

rows_from-cons : (place : Place) (line : List ℕ) (lines : List (List ℕ)) → flat_map (λ row. row) (rows_from place (line ∷ lines)) ≡ tokens_at place (pieces_of line) ++ flat_map (λ row. row) (rows_from (place_behind place line) lines)
unfolding rows_from
rows_from-cons place line lines = refl

rows_from-nil : (place : Place) → rows_from place [] ≡ []
unfolding rows_from
rows_from-nil place = refl

rows_lie : (cs front : List ℕ) (place : Place) (lines : List (List ℕ)) → cs ≡ front ++ text_of_lines lines → Leads cs front place → faults_from place lines ≡ [] → AllByRecursion (LiesIn cs) (flat_map (λ row. row) (rows_from place lines))
rows_lie cs front place [] e l n = subst (λ rows. AllByRecursion (LiesIn cs) (flat_map (λ row. row) rows)) (sym (rows_from-nil place)) tt
rows_lie cs front place (line ∷ lines) e l n =
    let next = place_behind place line in
    let none = empty_parts (faults_at place (pieces_of line)) (faults_from next lines) (sym (faults_from-cons place line lines) ∙ n) in
    subst (AllByRecursion (LiesIn cs)) (sym (rows_from-cons place line lines))
    (both (LiesIn cs) (tokens_at place (pieces_of line)) (flat_map (λ row. row) (rows_from next lines))
    (tokens_lie cs front line (text_of_lines lines) place (pieces_of line) (cuts-pieces_of line) e l none.0)
    (rows_lie cs (front ++ line) next lines (e ∙ moved front line (text_of_lines lines)) (leads_on cs front line (text_of_lines lines) place e l) none.1))

-- a mark at the start stands before the first place
pub record HasFront (cs : List ℕ) : Type 0 where
  pub front : List ℕ
  pub whole : cs ≡ front ++ without_mark cs
  pub leads : Leads cs front (first_place cs)

pub has_front : (cs : List ℕ) → HasFront cs
has_front [] = record { front = []; whole = refl; leads = record { same = refl; led = refl; byte = refl } }
has_front (c ∷ cs) =
    ⊎_elim (λ h. record {
      front = c ∷ [];
      whole = ap (λ xs. c ∷ xs) (sym (cond-true (c == 65_279) cs (c ∷ cs) h));
      leads = record {
        same = refl;
        led = sym (ap (place_behind (first_place (c ∷ []))) (cond-true (c == 65_279) [] (c ∷ []) h));
        byte = cond-true (c == 65_279) 3 0 h ∙ sym (bytes-cons c [] ∙ ap (λ d. len_utf8 d + 0) (eqb-true c 65_279 h));
      };
    })
    (λ h. record {
      front = [];
      whole = sym (cond-false (c == 65_279) cs (c ∷ cs) h);
      leads = record {
        same = sym h;
        led = ap (λ b. record { byte = if b then 3 else 0; line = 1; column = 0 }) h;
        byte = cond-false (c == 65_279) 3 0 h;
      };
    })
    (cases_Bool (c == 65_279))

-- so the tokens lie in the text
place_in-after : (front : List ℕ) → all_scalars front ≡ true → place_in (encode_utf8_all front) ≡ place_after front
unfolding place_in
place_in-after front h = ap place_after (chars-encodes front h)

first_place_of : (text cs before after : List ℕ) (n : ℕ) → all_scalars cs ≡ true → encode_utf8_all cs ≡ text → cs ≡ before ++ after → n ≡ length (encode_utf8_all before) → place_in (take n text) ≡ place_after before
first_place_of text cs before after n good spelled e f =
    let text_is : text ≡ encode_utf8_all before ++ encode_utf8_all after = sym spelled ∙ ap encode_utf8_all e ∙ encodes-append before after in
    ap place_in (ap₂ take f text_is ∙ take_at (encode_utf8_all before) (encode_utf8_all after) (length (encode_utf8_all before)) refl)
    ∙ place_in-after before (scalars_parts before after (ap all_scalars (sym e) ∙ good)).0

token_in : (text cs : List ℕ) → all_scalars cs ≡ true → encode_utf8_all cs ≡ text → (t : Token) → LiesIn cs t → IsTokenIn text t
token_in text cs good spelled t h =
    let rest = (scalars_parts h.front (h.middle ++ h.back) (ap all_scalars (sym h.whole) ∙ good)).1 in
    let parts = scalars_parts h.middle h.back rest in
    let f = encode_utf8_all h.front in
    let m = encode_utf8_all h.middle in
    let b = encode_utf8_all h.back in
    let tail : encode_utf8_all (h.middle ++ h.back) ≡ m ++ b = encodes-append h.middle h.back in
    let all : text ≡ f ++ (m ++ b) = sym spelled ∙ ap encode_utf8_all h.whole ∙ encodes-append h.front (h.middle ++ h.back) ∙ ap (λ xs. f ++ xs) tail in
    let size : length text ≡ length f + (length m + length b) = ap length all ∙ length-append f (m ++ b) ∙ ap (λ n. length f + n) (length-append m b) in
    let wide : t.to - t.from ≡ length m = omega (arith, h.from, h.to) in
    let bytes : m ≡ slice_range text t.from t.to = sym (ap₂ (λ n xs. take n xs) wide (ap₂ drop h.from all ∙ drop_at f (m ++ b) (length f) refl) ∙ take_at m b (length m) refl) in
    let begun = first_place_of text cs h.before h.after (first_byte t.kind t.from) good spelled h.begun h.first in
    record {
      ordered = omega (arith, h.from, h.to);
      inside = omega (arith, h.to, size);
      begins = subst (IsCharBoundary text) (sym h.from) (IsCharBoundary-at_seam text f (m ++ b) all (h.middle ++ h.back, (rest, tail)));
      ends = subst (IsCharBoundary text) (length-append f m ∙ sym h.to) (IsCharBoundary-at_seam text (f ++ m) b (all ∙ moved f m b) (h.back, (parts.1, refl)));
      written = subst (IsWrittenAs t.kind) bytes (h.written parts.0);
      line = h.line ∙ sym (ap (λ (p : Place). p.line) begun);
      column = h.column ∙ sym (ap (λ (p : Place). p.column + 1) begun);
    }

-- tokens in order
order_later : (a b : ℕ) (ts : List Token) (to : ℕ) → a ≤ b → InOrder b ts to → InOrder a ts to
order_later a b [] to h o = omega (arith, h, o)
order_later a b (t ∷ ts) to h o = (omega (arith, h, o.0), o.1, o.2)

order_both : (a b : ℕ) (ts us : List Token) (to : ℕ) → InOrder a ts b → InOrder b us to → InOrder a (ts ++ us) to
order_both a b [] us to o p = order_later a b us to o p
order_both a b (t ∷ ts) us to o p = (o.0, o.1, order_both t.to b ts us to o.2 p)

single_order : (kind : Option Kind) (place : Place) (to : ℕ) → place.byte ≤ to → InOrder place.byte (single_token kind place to) to
single_order None place to h = h
single_order (Some kind) place to h = (omega arith, h, omega arith)

token_order : (form : Form) (xs : List ℕ) (place : Place) (to : ℕ) → place.byte ≤ to → (form ≡ forms.Quote → place.byte + 2 ≤ to) → InOrder place.byte (token_at form xs place to) to
unfolding token_at
token_order forms.Word xs place to h q = (omega arith, h, omega arith)
token_order forms.Quote xs place to h q = let wide = q refl in (omega arith, omega (arith, wide), omega arith)
token_order forms.OpenQuote xs place to h q = h
token_order forms.Comment xs place to h q = h
token_order forms.LineEnd xs place to h q = h
token_order forms.Single xs place to h q = single_order (kind_of (slice_index xs 0)) place to h

quote_wide : (p : Piece) (rest : List ℕ) → IsPiece p rest → p.form ≡ forms.Quote → 2 ≤ length p.chars
quote_wide p rest h e =
    ⊎_elim (λ (w : IsLongestWord p rest). let f : forms.Word ≡ forms.Quote = sym w.form ∙ e in cc)
    (λ h2. ⊎_elim (λ (q : IsClosedQuote p). omega (arith, ap length q.chars, length-append q.content (34 ∷ [])))
    (λ h3. ⊎_elim (λ (q : IsOpenQuote p rest). let f : forms.OpenQuote ≡ forms.Quote = sym q.form ∙ e in cc)
    (λ h4. ⊎_elim (λ (k : IsComment p rest). let f : forms.Comment ≡ forms.Quote = sym k.form ∙ e in cc)
    (λ h5. ⊎_elim (λ (k : IsLineEnd p). let f : forms.LineEnd ≡ forms.Quote = sym k.form ∙ e in cc)
    (λ (s : IsSingle p rest). let f : forms.Single ≡ forms.Quote = sym s.form ∙ e in cc)
    h5) h4) h3) h2) h

tokens_order : (place : Place) (line : List ℕ) (ps : List Piece) → Cuts line ps → InOrder place.byte (tokens_at place ps) (place_behind place line).byte
tokens_order place line [] c =
    subst (λ ts. InOrder place.byte ts (place_behind place line).byte) (sym (tokens_at-nil place)) (omega (arith, behind_later place line))
tokens_order place line (p ∷ ps) c =
    let next = place_behind place p.chars in
    let far = behind_later place p.chars in
    let end : place_behind place line ≡ place_behind next c.0 = ap (place_behind place) c.1 ∙ place_behind-append place p.chars c.0 in
    subst (λ (q : Place). InOrder place.byte (tokens_at place (p ∷ ps)) q.byte) (sym end)
    (subst (λ ts. InOrder place.byte ts (place_behind next c.0).byte) (sym (tokens_at-cons place p ps))
    (order_both place.byte next.byte (token_at p.form p.chars place next.byte) (tokens_at next ps) (place_behind next c.0).byte
    (token_order p.form p.chars place next.byte (omega (arith, far)) (λ e. omega (arith, far, quote_wide p c.0 c.2 e)))
    (tokens_order next c.0 ps c.3)))

rows_order : (place : Place) (lines : List (List ℕ)) → InOrder place.byte (flat_map (λ row. row) (rows_from place lines)) (place_behind place (text_of_lines lines)).byte
rows_order place [] = subst (λ rows. InOrder place.byte (flat_map (λ row. row) rows) place.byte) (sym (rows_from-nil place)) (omega arith)
rows_order place (line ∷ lines) =
    let next = place_behind place line in
    let end : place_behind place (line ++ text_of_lines lines) ≡ place_behind next (text_of_lines lines) = place_behind-append place line (text_of_lines lines) in
    subst (λ (q : Place). InOrder place.byte (flat_map (λ row. row) (rows_from place (line ∷ lines))) q.byte) (sym end)
    (subst (λ ts. InOrder place.byte ts (place_behind next (text_of_lines lines)).byte) (sym (rows_from-cons place line lines))
    (order_both place.byte next.byte (tokens_at place (pieces_of line)) (flat_map (λ row. row) (rows_from next lines)) (place_behind next (text_of_lines lines)).byte
    (tokens_order place line (pieces_of line) (cuts-pieces_of line))
    (rows_order next lines)))

-- lines and counts
line_inside : (count : ℕ) (row : List Token) (n : ℕ) → count + length row ≤ n → AllByRecursion (IsLineOver n) (line_of count row)
line_inside count [] n h = tt
line_inside count (t ∷ ts) n h = (record { some = omega arith; inside = omega arith }, tt)

lines_inside : (count : ℕ) (rows : List (List Token)) (n : ℕ) → count + length (flat_map (λ row. row) rows) ≤ n → AllByRecursion (IsLineOver n) (lines_from count rows)
unfolding lines_from
lines_inside count [] n h = tt
lines_inside count (row ∷ rows) n h =
    let total = length-append row (flat_map (λ row. row) rows) in
    both (IsLineOver n) (line_of count row) (lines_from (count + length row) rows)
    (line_inside count row n (omega arith))
    (lines_inside (count + length row) rows n (omega arith))

follow_one : (count : ℕ) (row : List Token) (ls : List Line) (to : ℕ) → Follow (count + length row) ls to → Follow count (line_of count row ++ ls) to
follow_one count [] ls to h = let e : count + length {A = Token} [] ≡ count = omega arith in subst (λ n. Follow n ls to) e h
follow_one count (t ∷ ts) ls to h = (refl, h)

follow : (count : ℕ) (rows : List (List Token)) → Follow count (lines_from count rows) (count + length (flat_map (λ row. row) rows))
unfolding lines_from
follow count [] = omega arith
follow count (row ∷ rows) =
    let total = length-append row (flat_map (λ row. row) rows) in
    let e : (count + length row) + length (flat_map (λ row. row) rows) ≡ count + length (row ++ flat_map (λ row. row) rows) = omega arith in
    subst (Follow count (line_of count row ++ lines_from (count + length row) rows)) e
    (follow_one count row (lines_from (count + length row) rows) _ (follow (count + length row) rows))

token_one : (form : Form) (chars : List ℕ) (place : Place) (to : ℕ) → length (token_at form chars place to) ≤ 1
unfolding token_at
token_one forms.Word chars place to = omega arith
token_one forms.Quote chars place to = omega arith
token_one forms.OpenQuote chars place to = omega arith
token_one forms.Comment chars place to = omega arith
token_one forms.LineEnd chars place to = omega arith
token_one forms.Single chars place to = single_one (kind_of (slice_index chars 0)) place to
  where
    single_one : (kind : Option Kind) (place : Place) (to : ℕ) → length (single_token kind place to) ≤ 1
    single_one None place to = omega arith
    single_one (Some kind) place to = omega arith

word_some : (cs : List ℕ) → is_word cs ≡ true → 0 < length cs
word_some [] h = cc
word_some (c ∷ cs) h = omega arith

pub piece_some : (p : Piece) (rest : List ℕ) → IsPiece p rest → 0 < length p.chars
piece_some p rest h =
    ⊎_elim (λ (w : IsLongestWord p rest). word_some p.chars w.word)
    (λ h2. ⊎_elim (λ (q : IsClosedQuote p). omega (arith, ap length q.chars))
    (λ h3. ⊎_elim (λ (q : IsOpenQuote p rest). omega (arith, ap length q.chars))
    (λ h4. ⊎_elim (λ (k : IsComment p rest). omega (arith, ap length k.chars))
    (λ h5. ⊎_elim (λ (k : IsLineEnd p). ⊎_elim (λ e. omega (arith, ap length e)) (λ e. omega (arith, ap length e)) k.chars)
    (λ (s : IsSingle p rest). omega (arith, ap length s.chars))
    h5) h4) h3) h2) h

tokens_few : (place : Place) (line : List ℕ) (ps : List Piece) → Cuts line ps → length (tokens_at place ps) ≤ length line
tokens_few place line [] c = omega (arith, ap length (tokens_at-nil place))
tokens_few place line (p ∷ ps) c =
    let next = place_behind place p.chars in
    let total = ap length c.1 ∙ length-append p.chars c.0 in
    omega (arith, total, ap length (tokens_at-cons place p ps), length-append (token_at p.form p.chars place next.byte) (tokens_at next ps), token_one p.form p.chars place next.byte, piece_some p c.0 c.2, tokens_few next c.0 ps c.3)

rows_few : (place : Place) (lines : List (List ℕ)) → length (flat_map (λ row. row) (rows_from place lines)) ≤ length (text_of_lines lines)
rows_few place [] = omega (arith, ap (λ rows. length (flat_map (λ row. row) rows)) (rows_from-nil place))
rows_few place (line ∷ lines) =
    let next = place_behind place line in
    omega (arith, ap length (rows_from-cons place line lines), length-append (tokens_at place (pieces_of line)) (flat_map (λ row. row) (rows_from next lines)), length-append line (text_of_lines lines), tokens_few place line (pieces_of line) (cuts-pieces_of line), rows_few next lines)

-- the tokens of a text without faults
pub tokens_in : (text : List ℕ) → IsUtf8 text → faults_of (chars text) ≡ [] → All (IsTokenIn text) (flat_map (λ row. row) (rows_of (chars text)))
tokens_in text utf8 none =
    let cs = chars text in
    let f = has_front cs in
    let lines = lines_of (without_mark cs) in
    let all = text_of_lines-lines_of (without_mark cs) in
    let tokens = flat_map (λ row. row) (rows_of cs) in
    All-weaker (LiesIn cs) (IsTokenIn text) (token_in text cs (scalars-chars text utf8) (encodes-chars text utf8)) tokens (All-from_recursion (LiesIn cs) tokens (rows_lie cs f.front (first_place cs) lines (f.whole ∙ ap (λ xs. f.front ++ xs) (sym all)) f.leads none))

pub tokens_in_layout : (text : List ℕ) → IsUtf8 text → faults_of (chars text) ≡ [] → All (IsTokenIn (layout_in text).text) (layout_in text).tokens
unfolding layout_in
tokens_in_layout text utf8 none = tokens_in text utf8 none

-- the layout of a text without faults keeps what every layout keeps
pub sound_in : (text : List ℕ) → IsUtf8 text → length text ≤ 2 ^ 28 → faults_of (chars text) ≡ [] → IsLayout (layout_in text)
unfolding layout_in
sound_in text utf8 short none =
    let cs = chars text in
    let f = has_front cs in
    let lines = lines_of (without_mark cs) in
    let rows = rows_of cs in
    let tokens = flat_map (λ row. row) rows in
    let all = text_of_lines-lines_of (without_mark cs) in
    let spelled = encodes-chars text utf8 in
    let end : (place_behind (first_place cs) (text_of_lines lines)).byte ≡ length text = ap (λ xs. (place_behind (first_place cs) xs).byte) all ∙ behind_byte (first_place cs) (without_mark cs) ∙ ap (λ n. n + length (encode_utf8_all (without_mark cs))) f.leads.byte ∙ sym (bytes-append f.front (without_mark cs)) ∙ ap (λ xs. length (encode_utf8_all xs)) (sym f.whole) ∙ ap length spelled in
    record {
      short = short;
      few = omega (arith, rows_few (first_place cs) lines, ap length all, ap length f.whole, length-append f.front (without_mark cs), length-le-encodes cs, ap length spelled);
      tokens = tokens_in text utf8 none;
      order = order_later 0 (first_place cs).byte tokens (length text) (omega arith) (subst (InOrder (first_place cs).byte tokens) end (rows_order (first_place cs) lines));
      lines = All-from_recursion (IsLineOver (length tokens)) (lines_from 0 rows) (lines_inside 0 rows (length tokens) (omega arith));
      whole = subst (Follow 0 (lines_from 0 rows)) (omega arith) (follow 0 rows);
    }
