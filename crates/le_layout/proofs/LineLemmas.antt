-- The lines of a text, and the front of one.
use Rattle.std.proofs.Common.{◌≡◌, ◌==◌, ℕ, ◌<◌, true, false, not, List, [], ◌∷◌, ◌++◌, length, take, drop, sym, refl, ap, ◌∙◌, subst, inl, inr, ⊎_elim, arith, append_assoc, append-nil}
use Rattle.std.proofs.lemmas.Bool.{cases_Bool, cond-true, cond-false, and_parts, and_from, eqb-true}
use Rattle.le_layout.specs.Lines.{onto_first_line, lines_of, text_of_lines, first_line, has_no_end, IsEnded, AreLines}

lines_end : (c : ℕ) (cs : List ℕ) → (c == 10) ≡ true → lines_of (c ∷ cs) ≡ (c ∷ []) ∷ lines_of cs
unfolding lines_of
lines_end c cs h = cond-true (c == 10) _ _ h

lines_onto : (c : ℕ) (cs : List ℕ) → (c == 10) ≡ false → lines_of (c ∷ cs) ≡ onto_first_line c (lines_of cs)
unfolding lines_of
lines_onto c cs h = cond-false (c == 10) _ _ h

pub lines_of-nil : lines_of [] ≡ []
unfolding lines_of
lines_of-nil = refl

front_end : (c : ℕ) (cs : List ℕ) → (c == 10) ≡ true → first_line (c ∷ cs) ≡ c ∷ []
unfolding first_line
front_end c cs h = cond-true (c == 10) _ _ h

front_onto : (c : ℕ) (cs : List ℕ) → (c == 10) ≡ false → first_line (c ∷ cs) ≡ c ∷ first_line cs
unfolding first_line
front_onto c cs h = cond-false (c == 10) _ _ h

front_nil : first_line [] ≡ []
unfolding first_line
front_nil = refl

-- the lines of a text that isn't empty are its first line and those of what is left
pub splits_line : (cs : List ℕ) → 0 < length cs → lines_of cs ≡ first_line cs ∷ lines_of (drop (length (first_line cs)) cs)
splits_line [] n = absurd (omega arith)
splits_line (c ∷ []) n =
    ⊎_elim (λ h. lines_end c [] h ∙ ap (λ line. line ∷ lines_of (drop (length line) (c ∷ []))) (sym (front_end c [] h)))
    (λ h. lines_onto c [] h ∙ ap (onto_first_line c) lines_of-nil
    ∙ ap (λ lines. (c ∷ []) ∷ lines) (sym lines_of-nil)
    ∙ ap (λ line. line ∷ lines_of (drop (length line) (c ∷ []))) (sym (front_onto c [] h ∙ ap (λ line. c ∷ line) front_nil)))
    (cases_Bool (c == 10))
splits_line (c ∷ d ∷ ds) n =
    ⊎_elim (λ h. lines_end c (d ∷ ds) h ∙ ap (λ line. line ∷ lines_of (drop (length line) (c ∷ d ∷ ds))) (sym (front_end c (d ∷ ds) h)))
    (λ h. lines_onto c (d ∷ ds) h ∙ ap (onto_first_line c) (splits_line (d ∷ ds) (omega arith))
    ∙ ap (λ line. line ∷ lines_of (drop (length line) (c ∷ d ∷ ds))) (sym (front_onto c (d ∷ ds) h)))
    (cases_Bool (c == 10))

-- the first line is the front of the text
pub first_line-front : (cs : List ℕ) → take (length (first_line cs)) cs ≡ first_line cs
first_line-front [] = ap (λ line. take (length line) []) front_nil ∙ sym front_nil
first_line-front (c ∷ cs) =
    ⊎_elim (λ h. ap (λ line. take (length line) (c ∷ cs)) (front_end c cs h) ∙ sym (front_end c cs h))
    (λ h. ap (λ line. take (length line) (c ∷ cs)) (front_onto c cs h) ∙ ap (λ line. c ∷ line) (first_line-front cs) ∙ sym (front_onto c cs h))
    (cases_Bool (c == 10))

pub first_line-some : (cs : List ℕ) → 0 < length cs → 0 < length (first_line cs)
first_line-some [] n = absurd (omega arith)
first_line-some (c ∷ cs) n =
    ⊎_elim (λ h. omega (arith, ap length (front_end c cs h)))
    (λ h. omega (arith, ap length (front_onto c cs h)))
    (cases_Bool (c == 10))

-- the lines one after another are the text
text_onto : (c : ℕ) (lines : List (List ℕ)) → text_of_lines (onto_first_line c lines) ≡ c ∷ text_of_lines lines
text_onto c [] = refl
text_onto c (line ∷ lines) = refl

pub text_of_lines-lines_of : (cs : List ℕ) → text_of_lines (lines_of cs) ≡ cs
text_of_lines-lines_of [] = ap text_of_lines lines_of-nil
text_of_lines-lines_of (c ∷ cs) =
    ⊎_elim (λ h. ap text_of_lines (lines_end c cs h) ∙ ap (λ xs. c ∷ xs) (text_of_lines-lines_of cs))
    (λ h. ap text_of_lines (lines_onto c cs h) ∙ text_onto c (lines_of cs) ∙ ap (λ xs. c ∷ xs) (text_of_lines-lines_of cs))
    (cases_Bool (c == 10))

-- each line but the last ends with LF, which is its only one
put_on_ended : (c : ℕ) (line : List ℕ) → (c == 10) ≡ false → IsEnded line → IsEnded (c ∷ line)
put_on_ended c line h e = (c ∷ e.0, ap (λ xs. c ∷ xs) e.1, and_from _ _ (ap not h) e.2)

put_on : (c : ℕ) (lines : List (List ℕ)) → (c == 10) ≡ false → AreLines lines → AreLines (onto_first_line c lines)
put_on c [] h a = inr (omega arith, and_from _ _ (ap not h) refl)
put_on c (line ∷ []) h a =
    ⊎_elim (λ k. inl (put_on_ended c line h k)) (λ k. inr (omega arith, and_from _ _ (ap not h) k.1)) a
put_on c (line ∷ next ∷ lines) h a = (put_on_ended c line h a.0, a.1)

lf_first : (c : ℕ) (lines : List (List ℕ)) → (c == 10) ≡ true → AreLines lines → AreLines ((c ∷ []) ∷ lines)
lf_first c [] h a = inl ([], ap (λ d. d ∷ []) (eqb-true c 10 h), refl)
lf_first c (line ∷ lines) h a = (([], ap (λ d. d ∷ []) (eqb-true c 10 h), refl), a)

pub are_lines-lines_of : (cs : List ℕ) → AreLines (lines_of cs)
are_lines-lines_of [] = subst AreLines (sym lines_of-nil) tt
are_lines-lines_of (c ∷ cs) =
    ⊎_elim (λ h. subst AreLines (sym (lines_end c cs h)) (lf_first c (lines_of cs) h (are_lines-lines_of cs)))
    (λ h. subst AreLines (sym (lines_onto c cs h)) (put_on c (lines_of cs) h (are_lines-lines_of cs)))
    (cases_Bool (c == 10))

-- and there is one such list of lines
not_lf : (c : ℕ) → not (c == 10) ≡ true → (c == 10) ≡ false
not_lf c h = ⊎_elim (λ k. let f : false ≡ true = ap not (sym k) ∙ h in cc) (λ k. k) (cases_Bool (c == 10))

ended_front : (content rest : List ℕ) → has_no_end content ≡ true → lines_of (content ++ 10 ∷ rest) ≡ (content ++ 10 ∷ []) ∷ lines_of rest
ended_front [] rest h = lines_end 10 rest refl
ended_front (c ∷ content) rest h =
    let both = and_parts (not (c == 10)) (has_no_end content) h in
    lines_onto c (content ++ 10 ∷ rest) (not_lf c both.0) ∙ ap (onto_first_line c) (ended_front content rest both.1)

ended_line : (line rest : List ℕ) → IsEnded line → lines_of (line ++ rest) ≡ line ∷ lines_of rest
ended_line line rest e =
    ap (λ xs. lines_of (xs ++ rest)) e.1 ∙ ap lines_of (append_assoc e.0 (10 ∷ []) rest) ∙ ended_front e.0 rest e.2 ∙ ap (λ xs. xs ∷ lines_of rest) (sym e.1)

pub unended_line : (line : List ℕ) → 0 < length line → has_no_end line ≡ true → lines_of line ≡ line ∷ []
unended_line [] n h = absurd (omega arith)
unended_line (c ∷ []) n h = lines_onto c [] (not_lf c (and_parts (not (c == 10)) true h).0) ∙ ap (onto_first_line c) lines_of-nil
unended_line (c ∷ d ∷ ds) n h =
    let both = and_parts (not (c == 10)) (has_no_end (d ∷ ds)) h in
    lines_onto c (d ∷ ds) (not_lf c both.0) ∙ ap (onto_first_line c) (unended_line (d ∷ ds) (omega arith) both.1)

pub lines_of-lines : (lines : List (List ℕ)) → AreLines lines → lines_of (text_of_lines lines) ≡ lines
lines_of-lines [] a = lines_of-nil
lines_of-lines (line ∷ []) a =
    ⊎_elim (λ k. ended_line line [] k ∙ ap (λ xs. line ∷ xs) lines_of-nil)
    (λ k. ap lines_of (append-nil line) ∙ unended_line line k.0 k.1)
    a
lines_of-lines (line ∷ next ∷ lines) a = ended_line line (text_of_lines (next ∷ lines)) a.0 ∙ ap (λ xs. line ∷ xs) (lines_of-lines (next ∷ lines) a.1)
