-- The form of the first piece of a line, and the pieces after it.
use Rattle.std.proofs.Common.{◌≡◌, ◌==◌, ◌⊎◌, zero, ℕ, suc, ◌+◌, ◌<◌, ◌≤◌, true, false, cond, ◌||◌, List, [], ◌∷◌, length, take, drop, get_or, sym, refl, ap, ap₂, ◌∙◌, inl, inr, subst, ⊎_elim, arith}
use Rattle.std.proofs.lemmas.Bool.{cases_Bool, cond-true, cond-false, eqb-true, ne_eqb, both_ways}
use Rattle.std.proofs.lemmas.Bool.Decides.{nat_tests}
use Rattle.unicode_ident.specs.Ident.{is_xid_continue}
use Rattle.unicode_ident.proofs.IdentLemmas.{is_xid_continue-ascii}
use Rattle.le_layout.specs.declared.piece.Form.{Form}
use Rattle.le_layout.specs.declared.piece.Form.TheVariants as forms
use Rattle.le_layout.specs.Characters.{is_ascii_sign, is_further_sign, is_word_character, begins_with}
use Rattle.le_layout.specs.Pieces.{before_quote, has_quote, ends_line, form_at, more_at, piece, pieces_behind, pieces_of}
use Rattle.le_layout.specs.Faults.{is_comment_form, begins_comment}

-- the marks that begin other pieces stand in no word
pub mark_no_word : (c : ℕ) → is_xid_continue c ≡ false → (is_ascii_sign c || is_further_sign c) ≡ false → is_word_character c ≡ false
unfolding is_word_character
mark_no_word c h k = ap (λ b. b || (is_ascii_sign c || is_further_sign c)) h ∙ k

pub quote_no_word : is_word_character 34 ≡ false
unfolding is_ascii_sign is_further_sign
quote_no_word = mark_no_word 34 (is_xid_continue-ascii 34 (omega arith)) refl

pub percent_no_word : is_word_character 37 ≡ false
unfolding is_ascii_sign is_further_sign
percent_no_word = mark_no_word 37 (is_xid_continue-ascii 37 (omega arith)) refl

pub lf_no_word : is_word_character 10 ≡ false
unfolding is_ascii_sign is_further_sign
lf_no_word = mark_no_word 10 (is_xid_continue-ascii 10 (omega arith)) refl

pub cr_no_word : is_word_character 13 ≡ false
unfolding is_ascii_sign is_further_sign
cr_no_word = mark_no_word 13 (is_xid_continue-ascii 13 (omega arith)) refl

-- the form of a piece by the character that begins it
pub form_at-word : (c : ℕ) (cs : List ℕ) → is_word_character c ≡ true → form_at c cs ≡ forms.Word
unfolding form_at
form_at-word c cs h = cond-true (is_word_character c) _ _ h

pub form_at-quote : (cs : List ℕ) → form_at 34 cs ≡ cond (has_quote cs) forms.Quote forms.OpenQuote
unfolding form_at
form_at-quote cs = cond-false (is_word_character 34) _ _ quote_no_word

pub form_at-comment : (cs : List ℕ) → form_at 37 cs ≡ forms.Comment
unfolding form_at
form_at-comment cs = cond-false (is_word_character 37) _ _ percent_no_word

pub form_at-other : (c : ℕ) (cs : List ℕ) → is_word_character c ≡ false → (c == 34) ≡ false → (c == 37) ≡ false → form_at c cs ≡ cond (ends_line c cs) forms.LineEnd forms.Single
unfolding form_at
form_at-other c cs h k l = cond-false (is_word_character c) _ _ h ∙ cond-false (c == 34) _ _ k ∙ cond-false (c == 37) _ _ l

-- so there are six cases
pub record IsOther (c : ℕ) (cs : List ℕ) : Type 0 where
  pub no_word : is_word_character c ≡ false
  pub no_quote : (c == 34) ≡ false
  pub no_comment : (c == 37) ≡ false

abbrev pub FormCases : ℕ → List ℕ → Type 0
FormCases c cs =
    ((is_word_character c ≡ true) × (form_at c cs ≡ forms.Word))
    ⊎ (((c ≡ 34) × (has_quote cs ≡ true) × (form_at c cs ≡ forms.Quote))
    ⊎ (((c ≡ 34) × (has_quote cs ≡ false) × (form_at c cs ≡ forms.OpenQuote))
    ⊎ (((c ≡ 37) × (form_at c cs ≡ forms.Comment))
    ⊎ ((IsOther c cs × (ends_line c cs ≡ true) × (form_at c cs ≡ forms.LineEnd))
    ⊎ (IsOther c cs × (ends_line c cs ≡ false) × (form_at c cs ≡ forms.Single))))))

pub form_cases : (c : ℕ) (cs : List ℕ) → FormCases c cs
form_cases c cs =
    ⊎_elim (λ h. inl (h, form_at-word c cs h))
    (λ h. inr (⊎_elim (λ k. let e = eqb-true c 34 k in
    let f = ap (λ d. form_at d cs) e ∙ form_at-quote cs in
    ⊎_elim (λ l. inl (e, l, f ∙ cond-true (has_quote cs) forms.Quote forms.OpenQuote l))
    (λ l. inr (inl (e, l, f ∙ cond-false (has_quote cs) forms.Quote forms.OpenQuote l)))
    (cases_Bool (has_quote cs)))
    (λ k. inr (inr (⊎_elim (λ l. let e = eqb-true c 37 l in inl (e, ap (λ d. form_at d cs) e ∙ form_at-comment cs))
    (λ l. let other : IsOther c cs = record { no_word = h; no_quote = k; no_comment = l } in
    let f = form_at-other c cs h k l in
    inr (⊎_elim (λ m. inl (other, m, f ∙ cond-true (ends_line c cs) forms.LineEnd forms.Single m))
    (λ m. inr (other, m, f ∙ cond-false (ends_line c cs) forms.LineEnd forms.Single m))
    (cases_Bool (ends_line c cs))))
    (cases_Bool (c == 37)))))
    (cases_Bool (c == 34))))
    (cases_Bool (is_word_character c))

-- a piece lies on its line
pub quote_inside : (c : ℕ) (cs : List ℕ) → form_at c cs ≡ forms.Quote → before_quote cs < length cs
quote_inside c cs e =
    ⊎_elim (λ h. let f : forms.Word ≡ forms.Quote = sym h.1 ∙ e in cc)
    (λ h. ⊎_elim (λ k. grind (arith, nat_tests, k.1))
    (λ k. ⊎_elim (λ l. let f : forms.OpenQuote ≡ forms.Quote = sym l.2 ∙ e in cc)
    (λ l. ⊎_elim (λ m. let f : forms.Comment ≡ forms.Quote = sym m.1 ∙ e in cc)
    (λ m. ⊎_elim (λ n. let f : forms.LineEnd ≡ forms.Quote = sym n.2 ∙ e in cc)
    (λ n. let f : forms.Single ≡ forms.Quote = sym n.2 ∙ e in cc) m) l) k) h)
    (form_cases c cs)

ends_some : (cs : List ℕ) → ends_line 13 cs ≡ true → 1 ≤ length cs
unfolding ends_line
ends_some [] h = cc
ends_some (c ∷ cs) h = omega arith

pub end_inside : (c : ℕ) (cs : List ℕ) → form_at c cs ≡ forms.LineEnd → c ≡ 13 → 1 ≤ length cs
end_inside c cs e r =
    ⊎_elim (λ h. let f : forms.Word ≡ forms.LineEnd = sym h.1 ∙ e in cc)
    (λ h. ⊎_elim (λ k. let f : forms.Quote ≡ forms.LineEnd = sym k.2 ∙ e in cc)
    (λ k. ⊎_elim (λ l. let f : forms.OpenQuote ≡ forms.LineEnd = sym l.2 ∙ e in cc)
    (λ l. ⊎_elim (λ m. let f : forms.Comment ≡ forms.LineEnd = sym m.1 ∙ e in cc)
    (λ m. ⊎_elim (λ n. ends_some cs (subst (λ d. ends_line d cs ≡ true) r n.1))
    (λ n. let f : forms.Single ≡ forms.LineEnd = sym n.2 ∙ e in cc) m) l) k) h)
    (form_cases c cs)

-- the pieces after so many characters are those of what is left
pub pieces_behind-drop : (n : ℕ) (cs : List ℕ) → pieces_behind n cs ≡ pieces_of (drop n cs)
unfolding pieces_behind
pieces_behind-drop zero [] = refl
pieces_behind-drop (suc n) [] = refl
pieces_behind-drop zero (c ∷ cs) = refl
pieces_behind-drop (suc n) (c ∷ cs) = pieces_behind-drop n cs

pub pieces_of-nil : pieces_of [] ≡ []
unfolding pieces_behind
pieces_of-nil = refl

pieces_of-front : (c : ℕ) (cs : List ℕ) → pieces_of (c ∷ cs) ≡ piece (form_at c cs) (c ∷ take (more_at (form_at c cs) c cs) cs) ∷ pieces_behind (more_at (form_at c cs) c cs) cs
unfolding pieces_behind
pieces_of-front c cs = refl

-- the pieces of a line are its first piece and those of what is left
pub pieces_of-cons : (c : ℕ) (cs : List ℕ) → pieces_of (c ∷ cs) ≡ piece (form_at c cs) (c ∷ take (more_at (form_at c cs) c cs) cs) ∷ pieces_of (drop (more_at (form_at c cs) c cs) cs)
pieces_of-cons c cs =
    let more = more_at (form_at c cs) c cs in
    pieces_of-front c cs ∙ ap (λ ps. piece (form_at c cs) (c ∷ take more cs) ∷ ps) (pieces_behind-drop more cs)

pub first_cut : (cs others : List ℕ) (c n more : ℕ) (form : Form) → 0 < length cs → c ≡ get_or cs 0 c → others ≡ drop 1 cs → form ≡ form_at c others → more ≡ more_at form c others → n ≡ more + 1 → pieces_of cs ≡ piece form (take n cs) ∷ pieces_of (drop n cs)
first_cut [] others c n more form h e o f m w = absurd (omega arith)
first_cut (d ∷ cs) others c n more form h e o f m w =
    let form_is : form_at d cs ≡ form = sym (f ∙ ap₂ form_at e o) in
    let more_is : more_at (form_at d cs) d cs ≡ more = ap (λ g. more_at g d cs) form_is ∙ sym (m ∙ ap₂ (more_at form) e o) in
    let wide : suc more ≡ n = omega arith in
    pieces_of-cons d cs
    ∙ ap₂ (λ g k. piece g (d ∷ take k cs) ∷ pieces_of (drop k cs)) form_is more_is
    ∙ ap (λ k. piece form (take k (d ∷ cs)) ∷ pieces_of (drop k (d ∷ cs))) wide

-- whether a comment is next
comment_form : (c : ℕ) (cs : List ℕ) → is_comment_form (form_at c cs) ≡ (c == 37)
comment_form c cs =
    ⊎_elim (λ h. ap is_comment_form h.1 ∙ sym (ne_eqb c 37 (λ e. both_ways (is_word_character c) (ap is_word_character e ∙ percent_no_word) h.0)))
    (λ h. ⊎_elim (λ k. ap is_comment_form k.2 ∙ sym (ap (λ d. d == 37) k.0))
    (λ k. ⊎_elim (λ l. ap is_comment_form l.2 ∙ sym (ap (λ d. d == 37) l.0))
    (λ l. ⊎_elim (λ m. ap is_comment_form m.1 ∙ sym (ap (λ d. d == 37) m.0))
    (λ m. ⊎_elim (λ n. ap is_comment_form n.2 ∙ sym n.0.no_comment)
    (λ n. ap is_comment_form n.2 ∙ sym n.0.no_comment) m) l) k) h)
    (form_cases c cs)

pub begins_comment-pieces_of : (cs : List ℕ) → begins_comment (pieces_of cs) ≡ begins_with 37 cs
begins_comment-pieces_of [] = ap begins_comment pieces_of-nil
begins_comment-pieces_of (c ∷ cs) = ap begins_comment (pieces_of-cons c cs) ∙ comment_form c cs
