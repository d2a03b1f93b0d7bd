-- A line has one cut.
use Rattle.std.proofs.Common.{◌≡◌, ◌==◌, ◌⊎◌, ℕ, zero, suc, ◌+◌, ◌<◌, ◌≤◌, true, false, cond, not, ◌&&◌, List, [], ◌∷◌, ◌++◌, length, take, drop, sym, refl, ap, ap₂, ◌∙◌, inl, inr, subst, ⊎_elim, arith, append_assoc, take-append-drop, length-append, length-take-le, take_at, drop_at, take_all}
use Rattle.std.specs.List.{list_all}
use Rattle.std.proofs.lemmas.Bool.{cases_Bool, cond-true, cond-false, and_parts, and_from, or_cases, eqb-true}
use Rattle.std.proofs.lemmas.Bool.Decides.{nat_tests}
use Rattle.le_layout.specs.declared.piece.Form.{Form}
use Rattle.le_layout.specs.declared.piece.Form.TheVariants as forms
use Rattle.le_layout.specs.Characters.{is_word_character}
use Rattle.le_layout.specs.Pieces.{is_word, word_more, before_quote, has_quote, ends_line, before_end, Piece, piece, chars_of, form_at, more_at, pieces_behind, pieces_of, IsLongestWord, IsClosedQuote, IsOpenQuote, IsComment, IsLineEnd, IsSingle, IsPiece, Cuts}
use Rattle.le_layout.proofs.PieceLemmas.{lf_no_word, cr_no_word, form_at-word, form_at-quote, form_at-comment, form_at-other, IsOther, form_cases, pieces_of-nil, pieces_of-cons}
use Rattle.le_layout.proofs.WordLemmas.{word_front, word_longest, word_more-longest}

-- quotation marks
quote_none : (cs : List ℕ) → list_all (λ c. not (c == 34)) (take (before_quote cs) cs) ≡ true
quote_none [] = refl
quote_none (c ∷ cs) =
    ⊎_elim (λ h. ap (λ n. list_all (λ d. not (d == 34)) (take n (c ∷ cs))) (cond-true (c == 34) 0 (before_quote cs + 1) h))
    (λ h. let n : before_quote (c ∷ cs) ≡ suc (before_quote cs) = cond-false (c == 34) 0 (before_quote cs + 1) h ∙ omega arith in
    ap (λ k. list_all (λ d. not (d == 34)) (take k (c ∷ cs))) n ∙ and_from _ _ (ap not h) (quote_none cs))
    (cases_Bool (c == 34))

quote_front : (cs : List ℕ) → before_quote cs < length cs → take (before_quote cs + 1) cs ≡ take (before_quote cs) cs ++ 34 ∷ []
quote_front [] n = absurd (omega arith)
quote_front (c ∷ cs) n =
    ⊎_elim (λ h. ap (λ k. take (k + 1) (c ∷ cs)) (cond-true (c == 34) 0 (before_quote cs + 1) h)
    ∙ ap (λ d. d ∷ []) (eqb-true c 34 h)
    ∙ sym (ap (λ k. take k (c ∷ cs) ++ 34 ∷ []) (cond-true (c == 34) 0 (before_quote cs + 1) h)))
    (λ h. let k : before_quote (c ∷ cs) ≡ suc (before_quote cs) = cond-false (c == 34) 0 (before_quote cs + 1) h ∙ omega arith in
    let k2 : before_quote (c ∷ cs) + 1 ≡ suc (before_quote cs + 1) = omega (arith, k) in
    ap (λ m. take m (c ∷ cs)) k2 ∙ ap (λ xs. c ∷ xs) (quote_front cs (omega (arith, k, n))) ∙ sym (ap (λ m. take m (c ∷ cs) ++ 34 ∷ []) k))
    (cases_Bool (c == 34))

pub quote_at : (content rest : List ℕ) → list_all (λ c. not (c == 34)) content ≡ true → before_quote (content ++ 34 ∷ rest) ≡ length content
quote_at [] rest h = refl
quote_at (c ∷ content) rest h =
    let both = and_parts (not (c == 34)) (list_all (λ d. not (d == 34)) content) h in
    ⊎_elim (λ q. let f : false ≡ true = ap not (sym q) ∙ both.0 in cc)
    (λ q. cond-false (c == 34) 0 (before_quote (content ++ 34 ∷ rest) + 1) q ∙ omega (arith, quote_at content rest both.1))
    (cases_Bool (c == 34))

no_quote : (cs : List ℕ) → list_all (λ c. not (c == 34)) cs ≡ true → before_quote cs ≡ length cs
no_quote [] h = refl
no_quote (c ∷ cs) h =
    let both = and_parts (not (c == 34)) (list_all (λ d. not (d == 34)) cs) h in
    ⊎_elim (λ q. let f : false ≡ true = ap not (sym q) ∙ both.0 in cc)
    (λ q. cond-false (c == 34) 0 (before_quote cs + 1) q ∙ omega (arith, no_quote cs both.1))
    (cases_Bool (c == 34))

open_quote : (cs : List ℕ) → has_quote cs ≡ false → list_all (λ c. not (c == 34)) cs ≡ true
open_quote cs h =
    let short : length cs ≤ before_quote cs = grind (arith, nat_tests, h) in
    ap (list_all (λ c. not (c == 34))) (sym (take_all (before_quote cs) cs short)) ∙ quote_none cs

-- the end of a line
end_le : (cs : List ℕ) → before_end cs ≤ length cs
end_le [] = omega arith
end_le (c ∷ cs) =
    ⊎_elim (λ h. omega (arith, cond-true (ends_line c cs) 0 (before_end cs + 1) h))
    (λ h. omega (arith, cond-false (ends_line c cs) 0 (before_end cs + 1) h, end_le cs))
    (cases_Bool (ends_line c cs))

end_chars : (c : ℕ) (cs : List ℕ) → ends_line c cs ≡ true → (c ∷ take (more_at forms.LineEnd c cs) cs ≡ 10 ∷ []) ⊎ (c ∷ take (more_at forms.LineEnd c cs) cs ≡ 13 ∷ 10 ∷ [])
unfolding ends_line more_at
end_chars c [] h =
    ⊎_elim (λ k. let e = eqb-true c 10 k in inl (ap (λ d. d ∷ take (cond (d == 13) 1 0) []) e)) (λ k. let f = (and_parts (c == 13) false k).1 in cc) (or_cases (c == 10) ((c == 13) && false) h)
end_chars c (d ∷ ds) h =
    ⊎_elim (λ k. let e = eqb-true c 10 k in inl (ap (λ x. x ∷ take (cond (x == 13) 1 0) (d ∷ ds)) e))
    (λ k. let both = and_parts (c == 13) (d == 10) k in
    inr (ap₂ (λ x y. x ∷ take (cond (x == 13) 1 0) (y ∷ ds)) (eqb-true c 13 both.0) (eqb-true d 10 both.1)))
    (or_cases (c == 10) ((c == 13) && (d == 10)) h)

-- what is more of each form
more_word : (c : ℕ) (cs : List ℕ) → more_at forms.Word c cs ≡ word_more c cs
unfolding more_at
more_word c cs = refl

more_quote : (c : ℕ) (cs : List ℕ) → more_at forms.Quote c cs ≡ before_quote cs + 1
unfolding more_at
more_quote c cs = refl

more_open : (c : ℕ) (cs : List ℕ) → more_at forms.OpenQuote c cs ≡ 0
unfolding more_at
more_open c cs = refl

more_comment : (c : ℕ) (cs : List ℕ) → more_at forms.Comment c cs ≡ before_end cs
unfolding more_at
more_comment c cs = refl

more_single : (c : ℕ) (cs : List ℕ) → more_at forms.Single c cs ≡ 0
unfolding more_at
more_single c cs = refl

-- the first piece of a line is one
abbrev First : ℕ → List ℕ → Form → ℕ → Type 0
First c cs form n = IsPiece (piece form (c ∷ take n cs)) (drop n cs)

first_word : (c : ℕ) (cs : List ℕ) → is_word_character c ≡ true → First c cs forms.Word (word_more c cs)
first_word c cs h = inl (record {
  form = refl;
  word = and_from _ _ h (word_front c cs);
  longest = λ more others e k. word_longest c cs more others e (and_parts (is_word_character c) _ k).1;
})

first_quote : (c : ℕ) (cs : List ℕ) → c ≡ 34 → has_quote cs ≡ true → First c cs forms.Quote (before_quote cs + 1)
first_quote c cs e h =
    let short : before_quote cs < length cs = grind (arith, nat_tests, h) in
    inr (inl (record {
      form = refl;
      content = take (before_quote cs) cs;
      chars = ap₂ (λ d xs. d ∷ xs) e (quote_front cs short);
      inner = quote_none cs;
    }))

first_open : (c : ℕ) (cs : List ℕ) → c ≡ 34 → has_quote cs ≡ false → First c cs forms.OpenQuote 0
first_open c cs e h = inr (inr (inl (record { form = refl; chars = ap (λ d. d ∷ []) e; no_more = open_quote cs h })))

first_comment : (c : ℕ) (cs : List ℕ) → c ≡ 37 → First c cs forms.Comment (before_end cs)
first_comment c cs e =
    inr (inr (inr (inl (record {
      form = refl;
      text = take (before_end cs) cs;
      chars = ap (λ d. d ∷ take (before_end cs) cs) e;
      whole = ap before_end (take-append-drop (before_end cs) cs) ∙ sym (length-take-le (before_end cs) cs (end_le cs));
    }))))

first_single : (c : ℕ) (cs : List ℕ) → IsOther c cs → ends_line c cs ≡ false → First c cs forms.Single 0
first_single c cs o h = inr (inr (inr (inr (inr (record {
  form = refl;
  char = c;
  chars = refl;
  no_word = o.no_word;
  no_quote = o.no_quote;
  no_comment = o.no_comment;
  no_end = h;
})))))

first_is : (c : ℕ) (cs : List ℕ) (form : Form) (n : ℕ) → form_at c cs ≡ form → more_at form c cs ≡ n → First c cs form n → First c cs (form_at c cs) (more_at (form_at c cs) c cs)
first_is c cs form n e f p =
    let P : Form → Type 0 = λ g. First c cs g (more_at g c cs) in
    subst P (sym e) (subst (First c cs form) (sym f) p)

pub first_piece : (c : ℕ) (cs : List ℕ) → First c cs (form_at c cs) (more_at (form_at c cs) c cs)
first_piece c cs =
    ⊎_elim (λ h. first_is c cs forms.Word _ h.1 (more_word c cs) (first_word c cs h.0))
    (λ h. ⊎_elim (λ k. first_is c cs forms.Quote _ k.2 (more_quote c cs) (first_quote c cs k.0 k.1))
    (λ k. ⊎_elim (λ l. first_is c cs forms.OpenQuote _ l.2 (more_open c cs) (first_open c cs l.0 l.1))
    (λ l. ⊎_elim (λ m. first_is c cs forms.Comment _ m.1 (more_comment c cs) (first_comment c cs m.0))
    (λ m. ⊎_elim (λ n. first_is c cs forms.LineEnd _ n.2 refl (inr (inr (inr (inr (inl (record { form = refl; chars = end_chars c cs n.1 })))))))
    (λ n. first_is c cs forms.Single _ n.2 (more_single c cs) (first_single c cs n.0 n.1)) m) l) k) h)
    (form_cases c cs)

-- so the pieces of a line are a cut of it
behind_nil : (n : ℕ) → pieces_behind n [] ≡ []
unfolding pieces_behind
behind_nil zero = refl
behind_nil (suc n) = refl

behind_front : (c : ℕ) (cs : List ℕ) → pieces_behind 0 (c ∷ cs) ≡ piece (form_at c cs) (c ∷ take (more_at (form_at c cs) c cs) cs) ∷ pieces_behind (more_at (form_at c cs) c cs) cs
unfolding pieces_behind
behind_front c cs = refl

behind_next : (n c : ℕ) (cs : List ℕ) → pieces_behind (suc n) (c ∷ cs) ≡ pieces_behind n cs
unfolding pieces_behind
behind_next n c cs = refl

drop_none : (n : ℕ) → drop n (◌++◌ {A = ℕ} [] []) ≡ []
drop_none zero = refl
drop_none (suc n) = refl

cuts_behind : (n : ℕ) (cs : List ℕ) → Cuts (drop n cs) (pieces_behind n cs)
cuts_behind n [] = subst (Cuts (drop n [])) (sym (behind_nil n)) (drop_none n)
cuts_behind zero (c ∷ cs) =
    let more = more_at (form_at c cs) c cs in
    subst (Cuts (c ∷ cs)) (sym (behind_front c cs)) (drop more cs, ap (λ xs. c ∷ xs) (sym (take-append-drop more cs)), first_piece c cs, cuts_behind more cs)
cuts_behind (suc n) (c ∷ cs) = subst (Cuts (drop n cs)) (sym (behind_next n c cs)) (cuts_behind n cs)

pub cuts-pieces_of : (line : List ℕ) → Cuts line (pieces_of line)
cuts-pieces_of line = cuts_behind 0 line

-- the pieces joined are the line
pub cut_chars : (line : List ℕ) (ps : List Piece) → Cuts line ps → chars_of ps ≡ line
cut_chars line [] c = sym c
cut_chars line (p ∷ ps) c = ap (λ xs. p.chars ++ xs) (cut_chars c.0 ps c.3) ∙ sym c.1

-- a piece at the front of a line is its first piece
front_is : (form : Form) (c : ℕ) (xs rest : List ℕ) → form_at c (xs ++ rest) ≡ form → more_at form c (xs ++ rest) ≡ length xs → pieces_of (c ∷ (xs ++ rest)) ≡ piece form (c ∷ xs) ∷ pieces_of rest
front_is form c xs rest e f =
    let n : more_at (form_at c (xs ++ rest)) c (xs ++ rest) ≡ length xs = ap (λ g. more_at g c (xs ++ rest)) e ∙ f in
    pieces_of-cons c (xs ++ rest)
    ∙ ap₂ (λ g k. piece g (c ∷ take k (xs ++ rest)) ∷ pieces_of (drop k (xs ++ rest))) e n
    ∙ ap₂ (λ ys zs. piece form (c ∷ ys) ∷ pieces_of zs) (take_at xs rest (length xs) refl) (drop_at xs rest (length xs) refl)

-- of pieces that have these characters and forms
piece_is : (p : Piece) (form : Form) (cs rest : List ℕ) → p.form ≡ form → p.chars ≡ cs → pieces_of (cs ++ rest) ≡ piece form cs ∷ pieces_of rest → pieces_of (p.chars ++ rest) ≡ p ∷ pieces_of rest
piece_is p form cs rest e f h = ap (λ xs. pieces_of (xs ++ rest)) f ∙ h ∙ ap₂ (λ g xs. piece g xs ∷ pieces_of rest) (sym e) (sym f)

word_piece : (cs rest : List ℕ) → is_word cs ≡ true → ((more others : List ℕ) → rest ≡ more ++ others → is_word (cs ++ more) ≡ true → more ≡ []) → pieces_of (cs ++ rest) ≡ piece forms.Word cs ∷ pieces_of rest
word_piece [] rest h longest = cc
word_piece (c ∷ xs) rest h longest =
    let both = and_parts (is_word_character c) _ h in
    front_is forms.Word c xs rest (form_at-word c (xs ++ rest) both.0)
    (more_word c (xs ++ rest) ∙ word_more-longest c xs rest both.1 (λ more others e k. longest more others e (and_from _ _ both.0 k)))

quote_piece : (content rest : List ℕ) → list_all (λ c. not (c == 34)) content ≡ true → pieces_of (34 ∷ ((content ++ 34 ∷ []) ++ rest)) ≡ piece forms.Quote (34 ∷ content ++ 34 ∷ []) ∷ pieces_of rest
quote_piece content rest h =
    let all = append_assoc content (34 ∷ []) rest in
    let n : before_quote ((content ++ 34 ∷ []) ++ rest) ≡ length content = ap before_quote all ∙ quote_at content rest h in
    let long : length ((content ++ 34 ∷ []) ++ rest) ≡ length content + (length rest + 1) = ap length all ∙ length-append content (34 ∷ rest) ∙ omega arith in
    let yes : has_quote ((content ++ 34 ∷ []) ++ rest) ≡ true = grind (arith, nat_tests, n, long) in
    front_is forms.Quote 34 (content ++ 34 ∷ []) rest
    (form_at-quote ((content ++ 34 ∷ []) ++ rest) ∙ cond-true _ forms.Quote forms.OpenQuote yes)
    (more_quote 34 ((content ++ 34 ∷ []) ++ rest) ∙ omega (arith, n, length-append content (34 ∷ [])))

open_piece : (rest : List ℕ) → list_all (λ c. not (c == 34)) rest ≡ true → pieces_of (34 ∷ rest) ≡ piece forms.OpenQuote (34 ∷ []) ∷ pieces_of rest
open_piece rest h =
    let n = no_quote rest h in
    let none : has_quote rest ≡ false = grind (arith, nat_tests, n) in
    front_is forms.OpenQuote 34 [] rest (form_at-quote rest ∙ cond-false _ forms.Quote forms.OpenQuote none) (more_open 34 rest)

ends_lf : (cs : List ℕ) → ends_line 10 cs ≡ true
unfolding ends_line
ends_lf cs = refl

ends_cr : (cs : List ℕ) → ends_line 13 (10 ∷ cs) ≡ true
unfolding ends_line
ends_cr cs = refl

more_lf : (cs : List ℕ) → more_at forms.LineEnd 10 cs ≡ 0
unfolding more_at
more_lf cs = refl

more_cr : (cs : List ℕ) → more_at forms.LineEnd 13 cs ≡ 1
unfolding more_at
more_cr cs = refl

end_piece : (cs rest : List ℕ) → (cs ≡ 10 ∷ []) ⊎ (cs ≡ 13 ∷ 10 ∷ []) → pieces_of (cs ++ rest) ≡ piece forms.LineEnd cs ∷ pieces_of rest
end_piece cs rest h =
    let P : List ℕ → Type 0 = λ xs. pieces_of (xs ++ rest) ≡ piece forms.LineEnd xs ∷ pieces_of rest in
    ⊎_elim (λ e. subst P (sym e) (front_is forms.LineEnd 10 [] rest (form_at-other 10 rest lf_no_word refl refl ∙ cond-true _ forms.LineEnd forms.Single (ends_lf rest)) (more_lf rest)))
    (λ e. subst P (sym e) (front_is forms.LineEnd 13 (10 ∷ []) rest (form_at-other 13 (10 ∷ rest) cr_no_word refl refl ∙ cond-true _ forms.LineEnd forms.Single (ends_cr rest)) (more_cr (10 ∷ rest))))
    h

pub pieces_of-piece : (p : Piece) (rest : List ℕ) → IsPiece p rest → pieces_of (p.chars ++ rest) ≡ p ∷ pieces_of rest
pieces_of-piece p rest h =
    ⊎_elim (λ (w : IsLongestWord p rest). piece_is p forms.Word p.chars rest w.form refl (word_piece p.chars rest w.word w.longest))
    (λ h2. ⊎_elim (λ (q : IsClosedQuote p). piece_is p forms.Quote _ rest q.form q.chars (quote_piece q.content rest q.inner))
    (λ h3. ⊎_elim (λ (q : IsOpenQuote p rest). piece_is p forms.OpenQuote _ rest q.form q.chars (open_piece rest q.no_more))
    (λ h4. ⊎_elim (λ (k : IsComment p rest). piece_is p forms.Comment _ rest k.form k.chars (front_is forms.Comment 37 k.text rest (form_at-comment (k.text ++ rest)) (more_comment 37 (k.text ++ rest) ∙ k.whole)))
    (λ h5. ⊎_elim (λ (e : IsLineEnd p). piece_is p forms.LineEnd p.chars rest e.form refl (end_piece p.chars rest e.chars))
    (λ (s : IsSingle p rest). piece_is p forms.Single _ rest s.form s.chars (front_is forms.Single s.char [] rest (form_at-other s.char rest s.no_word s.no_quote s.no_comment ∙ cond-false _ forms.LineEnd forms.Single s.no_end) (more_single s.char rest)))
    h5) h4) h3) h2) h

-- so a cut of a line is its pieces, and there is one
pieces_of-cut : (line : List ℕ) (ps : List Piece) → Cuts line ps → ps ≡ pieces_of line
pieces_of-cut line [] c = sym (ap pieces_of c ∙ pieces_of-nil)
pieces_of-cut line (p ∷ ps) c = ap (λ qs. p ∷ qs) (pieces_of-cut c.0 ps c.3) ∙ sym (ap pieces_of c.1 ∙ pieces_of-piece p c.0 c.2)

pub one_cut_lem : (line : List ℕ) (a b : List Piece) → Cuts line a → Cuts line b → a ≡ b
one_cut_lem line a b c d = pieces_of-cut line a c ∙ sym (pieces_of-cut line b d)
