-- The characters that are tokens by themselves.
use Rattle.std.proofs.Common.{◌≡◌, ◌==◌, ℕ, ◌<◌, true, false, List, Some, None, sym, refl, ◌∙◌, subst, ⊎_elim, arith}
use Rattle.std.proofs.lemmas.Bool.{cases_Bool, cond-true, cond-false, eqb-true}
use Rattle.le_layout.specs.declared.token.Kind.{Kind}
use Rattle.le_layout.specs.declared.token.Kind.TheVariants as kinds
use Rattle.unicode_ident.proofs.IdentLemmas.{is_xid_continue-ascii}
use Rattle.le_layout.specs.Characters.{is_ascii_sign, is_further_sign, is_word_character, kind_of}
use Rattle.le_layout.specs.Pieces.{ends_line}
use Rattle.le_layout.specs.Written.{IsSign, IsWrittenAs}
use Rattle.le_layout.specs.Layout.{first_byte}
use Rattle.le_layout.proofs.PieceLemmas.{mark_no_word}

is_it : (P : ℕ → Kind → Type 0) (c n : ℕ) (j k : Kind) → (c == n) ≡ true → Some j ≡ Some k → P n j → P c k
is_it P c n j k h e p = let s : j ≡ k = cc in subst (λ x. P c x) s (subst (λ d. P d j) (sym (eqb-true c n h)) p)

-- there are seven
pub kind_cases : (P : ℕ → Kind → Type 0) → P 44 kinds.Comma → P 58 kinds.Colon → P 42 kinds.Star → P 46 kinds.Stop → P 91 kinds.Open → P 93 kinds.Close → P 124 kinds.Bar → (c : ℕ) (k : Kind) → kind_of c ≡ Some k → P c k
unfolding kind_of
kind_cases P comma colon star stop opens closes bar c k e0 =
    ⊎_elim (λ h. is_it P c 44 kinds.Comma k h (sym (cond-true (c == 44) _ _ h) ∙ e0) comma)
    (λ h. let e1 = sym (cond-false (c == 44) _ _ h) ∙ e0 in
    ⊎_elim (λ i. is_it P c 58 kinds.Colon k i (sym (cond-true (c == 58) _ _ i) ∙ e1) colon)
    (λ i. let e2 = sym (cond-false (c == 58) _ _ i) ∙ e1 in
    ⊎_elim (λ j. is_it P c 42 kinds.Star k j (sym (cond-true (c == 42) _ _ j) ∙ e2) star)
    (λ j. let e3 = sym (cond-false (c == 42) _ _ j) ∙ e2 in
    ⊎_elim (λ l. is_it P c 46 kinds.Stop k l (sym (cond-true (c == 46) _ _ l) ∙ e3) stop)
    (λ l. let e4 = sym (cond-false (c == 46) _ _ l) ∙ e3 in
    ⊎_elim (λ m. is_it P c 91 kinds.Open k m (sym (cond-true (c == 91) _ _ m) ∙ e4) opens)
    (λ m. let e5 = sym (cond-false (c == 91) _ _ m) ∙ e4 in
    ⊎_elim (λ n. is_it P c 93 kinds.Close k n (sym (cond-true (c == 93) _ _ n) ∙ e5) closes)
    (λ n. let e6 = sym (cond-false (c == 93) _ _ n) ∙ e5 in
    ⊎_elim (λ o. is_it P c 124 kinds.Bar k o (sym (cond-true (c == 124) _ _ o) ∙ e6) bar)
    (λ o. let f : None ≡ Some k = sym (cond-false (c == 124) _ _ o) ∙ e6 in cc)
    (cases_Bool (c == 124)))
    (cases_Bool (c == 93)))
    (cases_Bool (c == 91)))
    (cases_Bool (c == 46)))
    (cases_Bool (c == 42)))
    (cases_Bool (c == 58)))
    (cases_Bool (c == 44))

-- what is known of such a character
pub record IsSignCharacter (c : ℕ) : Type 0 where
  pub small : c < 128
  pub no_word : is_word_character c ≡ false
  pub no_quote : (c == 34) ≡ false
  pub no_comment : (c == 37) ≡ false
  pub no_lf : (c == 10) ≡ false
  pub no_end : (rest : List ℕ) → ends_line c rest ≡ false

comma_sign : IsSignCharacter 44
unfolding ends_line is_ascii_sign is_further_sign
comma_sign = record { small = omega arith; no_word = mark_no_word 44 (is_xid_continue-ascii 44 (omega arith)) refl; no_quote = refl; no_comment = refl; no_lf = refl; no_end = λ rest. refl }

colon_sign : IsSignCharacter 58
unfolding ends_line is_ascii_sign is_further_sign
colon_sign = record { small = omega arith; no_word = mark_no_word 58 (is_xid_continue-ascii 58 (omega arith)) refl; no_quote = refl; no_comment = refl; no_lf = refl; no_end = λ rest. refl }

star_sign : IsSignCharacter 42
unfolding ends_line is_ascii_sign is_further_sign
star_sign = record { small = omega arith; no_word = mark_no_word 42 (is_xid_continue-ascii 42 (omega arith)) refl; no_quote = refl; no_comment = refl; no_lf = refl; no_end = λ rest. refl }

stop_sign : IsSignCharacter 46
unfolding ends_line is_ascii_sign is_further_sign
stop_sign = record { small = omega arith; no_word = mark_no_word 46 (is_xid_continue-ascii 46 (omega arith)) refl; no_quote = refl; no_comment = refl; no_lf = refl; no_end = λ rest. refl }

open_sign : IsSignCharacter 91
unfolding ends_line is_ascii_sign is_further_sign
open_sign = record { small = omega arith; no_word = mark_no_word 91 (is_xid_continue-ascii 91 (omega arith)) refl; no_quote = refl; no_comment = refl; no_lf = refl; no_end = λ rest. refl }

close_sign : IsSignCharacter 93
unfolding ends_line is_ascii_sign is_further_sign
close_sign = record { small = omega arith; no_word = mark_no_word 93 (is_xid_continue-ascii 93 (omega arith)) refl; no_quote = refl; no_comment = refl; no_lf = refl; no_end = λ rest. refl }

bar_sign : IsSignCharacter 124
unfolding ends_line is_ascii_sign is_further_sign
bar_sign = record { small = omega arith; no_word = mark_no_word 124 (is_xid_continue-ascii 124 (omega arith)) refl; no_quote = refl; no_comment = refl; no_lf = refl; no_end = λ rest. refl }

pub sign_character : (c : ℕ) (k : Kind) → kind_of c ≡ Some k → IsSignCharacter c
sign_character = kind_cases (λ c k. IsSignCharacter c) comma_sign colon_sign star_sign stop_sign open_sign close_sign bar_sign

-- such a token is written as its kind is, and its kind is no quoted text
pub sign_as : (c : ℕ) (k : Kind) → kind_of c ≡ Some k → (text : List ℕ) → IsSign k text → IsWrittenAs k text
sign_as = kind_cases (λ c k. (text : List ℕ) → IsSign k text → IsWrittenAs k text) (λ text s. s) (λ text s. s) (λ text s. s) (λ text s. s) (λ text s. s) (λ text s. s) (λ text s. s)

pub sign_first : (c : ℕ) (k : Kind) → kind_of c ≡ Some k → (from : ℕ) → first_byte k from ≡ from
sign_first = kind_cases (λ c k. (from : ℕ) → first_byte k from ≡ from) (λ n. refl) (λ n. refl) (λ n. refl) (λ n. refl) (λ n. refl) (λ n. refl) (λ n. refl)
