-- Words that can't be made longer.
use Rattle.std.proofs.Common.{◌≡◌, ◌==◌, ℕ, suc, ◌<◌, ◌≤◌, true, false, ◌||◌, List, [], ◌∷◌, ◌++◌, length, take, drop, sym, refl, ap, ◌∙◌, ⊎_elim, arith, take-append-drop, length-take-le}
use Rattle.std.specs.Char.{is_ascii_digit}
use Rattle.std.specs.Int.{is_in_range}
use Rattle.std.proofs.lemmas.Bool.{cases_Bool, cond-true, cond-false, and_parts, and_from, or_cases, both_ways}
use Rattle.std.proofs.lemmas.Bool.Decides.{nat_tests}
use Rattle.unicode_ident.specs.Ident.{is_xid_continue}
use Rattle.unicode_ident.proofs.IdentLemmas.{is_xid_continue-ascii}
use Rattle.le_layout.specs.Characters.{is_ascii_sign, is_further_sign, is_word_character}
use Rattle.le_layout.specs.Pieces.{joins, goes_on, all_go_on, word_more}

-- a digit stands in words
pub digit_small : (c : ℕ) → is_ascii_digit c ≡ true → c < 128
digit_small c h = grind (arith, nat_tests, h)

xid_word : (c : ℕ) → is_xid_continue c ≡ true → is_word_character c ≡ true
unfolding is_word_character
xid_word c h = ap (λ b. b || (is_ascii_sign c || is_further_sign c)) h

pub digit_word : (c : ℕ) → is_ascii_digit c ≡ true → is_word_character c ≡ true
digit_word c h = xid_word c (is_xid_continue-ascii c (digit_small c h) ∙ ap (λ b. ((b || is_in_range 65 90 c) || is_in_range 97 122 c) || (c == 95)) h)

-- what joins is followed by a character of words, which alone decides
joins-next : (a b c : ℕ) (cs ds : List ℕ) → joins a b (c ∷ cs) ≡ joins a b (c ∷ ds)
unfolding joins
joins-next a b c cs ds = refl

joins-none : (a b : ℕ) → joins a b [] ≡ true → ⊥
unfolding joins
joins-none a b h = cc

pub joins-word : (a b c : ℕ) (cs : List ℕ) → joins a b (c ∷ cs) ≡ true → is_word_character c ≡ true
unfolding joins
joins-word a b c cs h =
    ⊎_elim (λ k. (and_parts (b == 46) (is_word_character c) k).1)
    (λ k. digit_word c (and_parts (is_ascii_digit a) (is_ascii_digit c) (and_parts (b == 44) _ k).1).1)
    (or_cases _ _ h)

goes_on-nil : (a : ℕ) → goes_on a [] ≡ true → ⊥
unfolding goes_on
goes_on-nil a h = cc

pub goes_on-cases : (a b : ℕ) (bs : List ℕ) → goes_on a (b ∷ bs) ≡ (is_word_character b || joins a b bs)
unfolding goes_on
goes_on-cases a b bs = refl

pub goes_on-word : (a b : ℕ) (bs : List ℕ) → is_word_character b ≡ true → goes_on a (b ∷ bs) ≡ true
goes_on-word a b bs h = goes_on-cases a b bs ∙ ap (λ t. t || joins a b bs) h

-- more characters after change nothing
pub goes_on-more : (a b : ℕ) (bs more : List ℕ) → goes_on a (b ∷ bs) ≡ true → goes_on a (b ∷ (bs ++ more)) ≡ true
goes_on-more a b [] more h =
    ⊎_elim (λ k. goes_on-word a b more k) (λ k. absurd (joins-none a b k)) (or_cases (is_word_character b) (joins a b []) (sym (goes_on-cases a b []) ∙ h))
goes_on-more a b (c ∷ cs) more h =
    goes_on-cases a b (c ∷ (cs ++ more)) ∙ ap (λ t. is_word_character b || t) (joins-next a b c (cs ++ more) cs) ∙ sym (goes_on-cases a b (c ∷ cs)) ∙ h

-- how many characters go on, one further
more_yes : (a b : ℕ) (bs : List ℕ) → goes_on a (b ∷ bs) ≡ true → word_more a (b ∷ bs) ≡ suc (word_more b bs)
more_yes a b bs h = cond-true (goes_on a (b ∷ bs)) _ _ h ∙ omega arith

more_no : (a b : ℕ) (bs : List ℕ) → goes_on a (b ∷ bs) ≡ false → word_more a (b ∷ bs) ≡ 0
more_no a b bs h = cond-false (goes_on a (b ∷ bs)) _ _ h

pub word_more-le : (a : ℕ) (bs : List ℕ) → word_more a bs ≤ length bs
word_more-le a [] = omega arith
word_more-le a (b ∷ bs) =
    ⊎_elim (λ h. omega (arith, more_yes a b bs h, word_more-le b bs)) (λ h. omega (arith, more_no a b bs h)) (cases_Bool (goes_on a (b ∷ bs)))

-- a character that goes on does so with those that go on after it
goes_on-front : (a b : ℕ) (bs : List ℕ) → goes_on a (b ∷ bs) ≡ true → goes_on a (b ∷ take (word_more b bs) bs) ≡ true
goes_on-front a b [] h = h
goes_on-front a b (c ∷ cs) h =
    ⊎_elim (λ k. goes_on-word a b (take (word_more b (c ∷ cs)) (c ∷ cs)) k)
    (λ k. let on = goes_on-word b c cs (joins-word a b c cs k) in
    ap (λ n. goes_on a (b ∷ take n (c ∷ cs))) (more_yes b c cs on)
    ∙ goes_on-cases a b (c ∷ take (word_more c cs) cs)
    ∙ ap (λ t. is_word_character b || t) (joins-next a b c (take (word_more c cs) cs) cs)
    ∙ sym (goes_on-cases a b (c ∷ cs)) ∙ h)
    (or_cases (is_word_character b) (joins a b (c ∷ cs)) (sym (goes_on-cases a b (c ∷ cs)) ∙ h))

pub word_front : (a : ℕ) (bs : List ℕ) → all_go_on a (take (word_more a bs) bs) ≡ true
word_front a [] = refl
word_front a (b ∷ bs) =
    ⊎_elim (λ h. ap (λ n. all_go_on a (take n (b ∷ bs))) (more_yes a b bs h) ∙ and_from _ _ (goes_on-front a b bs h) (word_front b bs))
    (λ h. ap (λ n. all_go_on a (take n (b ∷ bs))) (more_no a b bs h))
    (cases_Bool (goes_on a (b ∷ bs)))

-- they can't be made longer
no_longer : (a b : ℕ) (bs more others : List ℕ) → goes_on a (b ∷ bs) ≡ false → b ∷ bs ≡ more ++ others → all_go_on a more ≡ true → more ≡ []
no_longer a b bs [] others f e h = refl
no_longer a b bs (m ∷ ms) others f e h =
    let on = goes_on-more a m ms others (and_parts (goes_on a (m ∷ ms)) (all_go_on m ms) h).0 in
    absurd (both_ways (goes_on a (b ∷ bs)) f (ap (goes_on a) e ∙ on))

append_none : (xs ys : List ℕ) → [] ≡ xs ++ ys → xs ≡ []
append_none [] ys e = refl
append_none (x ∷ xs) ys e = cc

pub word_longest : (a : ℕ) (bs more others : List ℕ) → drop (word_more a bs) bs ≡ more ++ others → all_go_on a (take (word_more a bs) bs ++ more) ≡ true → more ≡ []
word_longest a [] more others e h = append_none more others e
word_longest a (b ∷ bs) more others e h =
    ⊎_elim (λ on. let n = more_yes a b bs on in
    let rest : drop (word_more b bs) bs ≡ more ++ others = ap (λ k. drop k (b ∷ bs)) (sym n) ∙ e in
    let all : all_go_on a (b ∷ (take (word_more b bs) bs ++ more)) ≡ true = ap (λ k. all_go_on a (take k (b ∷ bs) ++ more)) (sym n) ∙ h in
    word_longest b bs more others rest (and_parts (goes_on a (b ∷ (take (word_more b bs) bs ++ more))) _ all).1)
    (λ off. let n = more_no a b bs off in
    no_longer a b bs more others off (ap (λ k. drop k (b ∷ bs)) (sym n) ∙ e) (ap (λ k. all_go_on a (take k (b ∷ bs) ++ more)) (sym n) ∙ h))
    (cases_Bool (goes_on a (b ∷ bs)))

-- a word that can't be made longer has all the characters that go on
pub word_more-longest : (a : ℕ) (xs rest : List ℕ) → all_go_on a xs ≡ true → ((more others : List ℕ) → rest ≡ more ++ others → all_go_on a (xs ++ more) ≡ true → more ≡ []) → word_more a (xs ++ rest) ≡ length xs
word_more-longest a [] rest h longest =
    let none = longest (take (word_more a rest) rest) (drop (word_more a rest) rest) (sym (take-append-drop (word_more a rest) rest)) (word_front a rest) in
    sym (length-take-le (word_more a rest) rest (word_more-le a rest)) ∙ ap length none
word_more-longest a (b ∷ xs) rest h longest =
    let both = and_parts (goes_on a (b ∷ xs)) (all_go_on b xs) h in
    let tail = word_more-longest b xs rest both.1 (λ more others e k. longest more others e (and_from _ _ (goes_on-more a b xs more both.0) k)) in
    more_yes a b (xs ++ rest) (goes_on-more a b xs rest both.0) ∙ ap suc tail
