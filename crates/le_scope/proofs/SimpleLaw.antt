-- The lengths of the phrases at a token are all numbers from one to another.
use Rattle.std.proofs.Common.{◌≡◌, ℕ, zero, suc, ◌+◌, ◌<◌, ◌≤◌, min, Bool, true, false, cond, not, ◌&&◌, ◌||◌, nat_le, Option, Some, None, List, [], ◌∷◌, length, take, codes, sym, refl, ap, ◌∙◌, ◌⊎◌, ⊎_elim, inl, inr, arith}
use Rattle.std.specs.List.{list_all, list_any}
use Rattle.std.specs.Option.{is_some, option_or}
use Rattle.std.specs.Str.{bytes_eq}
use Rattle.std.proofs.lemmas.Bool.{leb-true, le-leb, lt-leb, cases_lt}
use Rattle.std.proofs.lemmas.List.{length-take-le}
use Rattle.le_layout.specs.declared.token.Kind.{Kind}
use Rattle.le_layout.specs.declared.token.Kind.TheVariants as kinds
use Rattle.le_layout.specs.declared.token.Token.{Token}
use Rattle.le_layout.specs.declared.layout.Layout.{Layout}
use Rattle.le_layout.specs.Words.{text_of, same_word, is_word, is_quote, is_this_word, not_the_case, the_case}
use Rattle.le_scope.specs.declared.phrase.PhraseForm.TheVariants.{Quote, A, The, Which}
use Rattle.le_scope.specs.Simple.{is_plain_word, is_plain, is_name, begins_with, is_determiner, begins_otherwise, is_indefinite, article, quote_form, article_form, name_form, constant_form, simple_form, is_simple_phrase}
use Rattle.le_scope.proofs.RunLemmas.{run_short}
use Rattle.le_scope.specs.Lengths.{plain_run, lengths, is_length, most_words, simple_lengths}

-- ---- tests

-- tests that hold together
pub same_test : (a b : Bool) → (a ≡ true → b ≡ true) → (b ≡ true → a ≡ true) → a ≡ b
same_test true b f g = sym (f refl)
same_test false true f g = g refl
same_test false false f g = refl

-- comparisons that hold together
pub same_le : (a b c d : ℕ) → (a ≤ b → c ≤ d) → (c ≤ d → a ≤ b) → nat_le a b ≡ nat_le c d
same_le a b c d f g =
    same_test (nat_le a b) (nat_le c d)
    (λ (e : nat_le a b ≡ true). le-leb c d (f (leb-true a b e)))
    (λ (e : nat_le c d ≡ true). le-leb a b (g (leb-true c d e)))

pub le_both : (n a b : ℕ) → (nat_le n a && nat_le n b) ≡ nat_le n (min a b)
le_both n a b = ⊎_elim
    (λ (h : a < n). ap (λ c. c && nat_le n b) (lt-leb n a h) ∙ sym (lt-leb n (min a b) (omega arith)))
    (λ (h : n ≤ a). ap (λ c. c && nat_le n b) (le-leb n a h) ∙ same_le n b n (min a b) (λ (k : n ≤ b). omega arith) (λ (k : n ≤ min a b). omega arith))
    (cases_lt a n)

-- ---- names at the front

-- the first tokens are plain words exactly where they are no more than the run
pub plain_front : (l : Layout) (ts : List Token) (n : ℕ) → n ≤ length ts → list_all (is_plain l) (take n ts) ≡ nat_le n (plain_run l ts)
plain_front l ts zero h = sym (le-leb 0 (plain_run l ts) (omega arith))
plain_front l [] (suc n) h = absurd (omega arith)
plain_front l (t ∷ ts) (suc n) h = ap (λ b. is_plain l t && b) (plain_front l ts n (omega arith)) ∙ cases (is_plain l t)
  where
    cases : (b : Bool) → (b && nat_le n (plain_run l ts)) ≡ nat_le (suc n) (cond b (plain_run l ts + 1) 0)
    cases true = same_le n (plain_run l ts) (suc n) (plain_run l ts + 1) (λ (k : n ≤ plain_run l ts). omega arith) (λ (k : suc n ≤ plain_run l ts + 1). omega arith)
    cases false = sym (lt-leb (suc n) 0 (omega arith))

pub name_front : (l : Layout) (ts : List Token) (n : ℕ) → n ≤ length ts → is_name l (take n ts) ≡ (nat_le 1 n && nat_le n (min 12 (plain_run l ts)))
unfolding is_name
name_front l ts n h =
    ap (λ k. nat_le 1 k && (nat_le k 12 && list_all (is_plain l) (take n ts))) (length-take-le n ts h)
    ∙ ap (λ b. nat_le 1 n && (nat_le n 12 && b)) (plain_front l ts n h)
    ∙ ap (λ b. nat_le 1 n && b) (le_both n 12 (plain_run l ts))

-- ---- the words that a constant doesn't begin with

neither : (b : Bool) → (b && false) ≡ false
neither true = refl
neither false = refl

begins_none : (l : Layout) (ws : List (List ℕ)) → begins_with l [] ws ≡ nat_le (length ws) 0
begins_none l [] = refl
begins_none l (w ∷ ws) = sym (lt-leb (length (w ∷ ws)) 0 (omega arith))

begins_always : (l : Layout) (ts : List Token) → begins_with l ts [] ≡ true
begins_always l [] = refl
begins_always l (t ∷ ts) = refl

pub begins_front : (l : Layout) (ts : List Token) (ws : List (List ℕ)) (n : ℕ) → n ≤ length ts → begins_with l (take n ts) ws ≡ (nat_le (length ws) n && begins_with l ts ws)
begins_front l ts [] n h = begins_always l (take n ts) ∙ sym (ap (λ b. nat_le 0 n && b) (begins_always l ts) ∙ ap (λ b. b && true) (le-leb 0 n (omega arith)))
begins_front l ts (w ∷ ws) zero h = sym (ap (λ b. b && begins_with l ts (w ∷ ws)) (lt-leb (length (w ∷ ws)) 0 (omega arith)))
begins_front l [] (w ∷ ws) (suc n) h = absurd (omega arith)
begins_front l (t ∷ ts) (w ∷ ws) (suc n) h =
    ap (λ b. is_this_word l w t && b) (begins_front l ts ws n (omega arith))
    ∙ swap (is_this_word l w t) (nat_le (length ws) n) (begins_with l ts ws)
    ∙ ap (λ b. b && (is_this_word l w t && begins_with l ts ws)) (same_le (length ws) n (length (w ∷ ws)) (suc n) (λ (k : length ws ≤ n). omega arith) (λ (k : length (w ∷ ws) ≤ suc n). omega arith))
  where
    swap : (a b c : Bool) → (a && (b && c)) ≡ (b && (a && c))
    swap true b c = refl
    swap false true c = refl
    swap false false c = refl

-- a constant's words: no more than those that are plain, and fewer than those that it doesn't begin with
words_front : (marks negates : Bool) (n r : ℕ) → (nat_le n (min 12 r) && not ((nat_le 6 n && negates) || (nat_le 5 n && marks))) ≡ nat_le n (min (cond marks 4 (cond negates 5 12)) r)
words_front true negates n r = ⊎_elim
    (λ (h : n < 5).
    ap (λ b. nat_le n (min 12 r) && not ((b && negates) || (nat_le 5 n && true))) (lt-leb 6 n (omega arith))
    ∙ ap (λ b. nat_le n (min 12 r) && not (b && true)) (lt-leb 5 n h)
    ∙ always (nat_le n (min 12 r))
    ∙ same_le n (min 12 r) n (min 4 r) (λ (k : n ≤ min 12 r). omega arith) (λ (k : n ≤ min 4 r). omega arith))
    (λ (h : 5 ≤ n).
    ap (λ b. nat_le n (min 12 r) && not ((nat_le 6 n && negates) || (b && true))) (le-leb 5 n h)
    ∙ ap (λ b. nat_le n (min 12 r) && not b) (any (nat_le 6 n && negates))
    ∙ neither (nat_le n (min 12 r))
    ∙ sym (lt-leb n (min 4 r) (omega arith)))
    (cases_lt n 5)
  where
    always : (b : Bool) → (b && true) ≡ b
    always true = refl
    always false = refl

    any : (b : Bool) → (b || true) ≡ true
    any true = refl
    any false = refl
words_front false true n r = ⊎_elim
    (λ (h : n < 6).
    ap (λ b. nat_le n (min 12 r) && not ((b && true) || (nat_le 5 n && false))) (lt-leb 6 n h)
    ∙ ap (λ b. nat_le n (min 12 r) && not b) (neither (nat_le 5 n))
    ∙ always (nat_le n (min 12 r))
    ∙ same_le n (min 12 r) n (min 5 r) (λ (k : n ≤ min 12 r). omega arith) (λ (k : n ≤ min 5 r). omega arith))
    (λ (h : 6 ≤ n).
    ap (λ b. nat_le n (min 12 r) && not ((b && true) || (nat_le 5 n && false))) (le-leb 6 n h)
    ∙ neither (nat_le n (min 12 r))
    ∙ sym (lt-leb n (min 5 r) (omega arith)))
    (cases_lt n 6)
  where
    always : (b : Bool) → (b && true) ≡ b
    always true = refl
    always false = refl
words_front false false n r =
    ap (λ b. nat_le n (min 12 r) && not (b || (nat_le 5 n && false))) (neither (nat_le 6 n))
    ∙ ap (λ b. nat_le n (min 12 r) && not b) (neither (nat_le 5 n))
    ∙ always (nat_le n (min 12 r))
  where
    always : (b : Bool) → (b && true) ≡ b
    always true = refl
    always false = refl

-- ---- kinds of first tokens

quote_word : (k : Kind) → is_quote k ≡ true → is_word k ≡ false
quote_word kinds.Quote e = refl
quote_word kinds.Word e = absurd (cc)
quote_word kinds.Open e = refl
quote_word kinds.Close e = refl
quote_word kinds.Bar e = refl
quote_word kinds.Comma e = refl
quote_word kinds.Colon e = refl
quote_word kinds.Star e = refl
quote_word kinds.Stop e = refl

quote_plain : (l : Layout) (t : Token) → is_quote t.kind ≡ true → is_plain l t ≡ false
unfolding is_plain
quote_plain l t e = ap (λ b. b && is_plain_word (text_of l t)) (quote_word t.kind e)

quote_article : (l : Layout) (t : Token) → is_quote t.kind ≡ true → is_some (article l t) ≡ false
unfolding article is_indefinite
quote_article l t e =
    let w = quote_word t.kind e in
    ap (λ b. is_some (cond ((b && same_word (text_of l t) (codes "a")) || (b && same_word (text_of l t) (codes "an"))) (Some A) (cond (b && same_word (text_of l t) (codes "the")) (Some The) (cond (b && same_word (text_of l t) (codes "which")) (Some Which) None)))) w

-- an article is a determiner, or the word `which`, which isn't plain
articles : (word the a an which : Bool) → is_some (cond ((word && a) || (word && an)) (Some A) (cond (word && the) (Some The) (cond (word && which) (Some Which) None))) ≡ true → ((word && (the || (a || an))) ≡ true) ⊎ (which ≡ true)
articles true true a an which e = inl refl
articles true false true an which e = inl refl
articles true false false true which e = inl refl
articles true false false false true e = inr refl
articles true false false false false e = absurd (cc)
articles false the a an which e = absurd (cc)

which_connects : (l : Layout) (t : Token) → same_word (text_of l t) (codes "which") ≡ true → is_plain l t ≡ false
unfolding is_plain is_plain_word
which_connects l t e =
    ap (λ b. is_word t.kind && (not (same_word (text_of l t) (codes "if") || (same_word (text_of l t) (codes "and") || (same_word (text_of l t) (codes "or") || (b || (same_word (text_of l t) (codes "each") || false))))) && not (list_any (bytes_eq (text_of l t)) (codes "+" ∷ codes "-" ∷ codes "/" ∷ codes "a" ∷ codes "an" ∷ [])))) e
    ∙ all (is_word t.kind) (same_word (text_of l t) (codes "if")) (same_word (text_of l t) (codes "and")) (same_word (text_of l t) (codes "or")) (same_word (text_of l t) (codes "each") || false) (not (list_any (bytes_eq (text_of l t)) (codes "+" ∷ codes "-" ∷ codes "/" ∷ codes "a" ∷ codes "an" ∷ [])))
  where
    all : (w a b c d e : Bool) → (w && (not (a || (b || (c || (true || d)))) && e)) ≡ false
    all false a b c d e = refl
    all true true b c d e = refl
    all true false true c d e = refl
    all true false false true d e = refl
    all true false false false d e = refl

determined : (l : Layout) (t : Token) → (is_word t.kind && (same_word (text_of l t) (codes "the") || (same_word (text_of l t) (codes "a") || same_word (text_of l t) (codes "an")))) ≡ true → is_determiner l t ≡ true
unfolding is_determiner
determined l t e =
    cases (is_word t.kind) (same_word (text_of l t) (codes "the")) (same_word (text_of l t) (codes "a")) (same_word (text_of l t) (codes "an"))
    (same_word (text_of l t) (codes "another") || (same_word (text_of l t) (codes "some") || (same_word (text_of l t) (codes "any") || (same_word (text_of l t) (codes "every") || false)))) e
  where
    cases : (w a b c d : Bool) → (w && (a || (b || c))) ≡ true → (w && (a || (b || (c || d)))) ≡ true
    cases true true b c d e = refl
    cases true false true c d e = refl
    cases true false false true d e = refl
    cases true false false false d e = absurd (cc)
    cases false a b c d e = absurd (cc)

-- after an article no constant begins
article_kind : (l : Layout) (t : Token) → is_some (article l t) ≡ true → (is_determiner l t ≡ true) ⊎ (is_plain l t ≡ false)
unfolding article is_indefinite
article_kind l t e = ⊎_elim
    (λ (h : (is_word t.kind && (same_word (text_of l t) (codes "the") || (same_word (text_of l t) (codes "a") || same_word (text_of l t) (codes "an")))) ≡ true). inl (determined l t h))
    (λ (h : same_word (text_of l t) (codes "which") ≡ true). inr (which_connects l t h))
    (articles (is_word t.kind) (same_word (text_of l t) (codes "the")) (same_word (text_of l t) (codes "a")) (same_word (text_of l t) (codes "an")) (same_word (text_of l t) (codes "which")) e)

-- an article is a word
pub article_word : (l : Layout) (t : Token) → is_some (article l t) ≡ true → is_word t.kind ≡ true
unfolding article is_indefinite
article_word l t e = cases (is_word t.kind) (same_word (text_of l t) (codes "the")) (same_word (text_of l t) (codes "a")) (same_word (text_of l t) (codes "an")) (same_word (text_of l t) (codes "which")) e
  where
    cases : (word the a an which : Bool) → is_some (cond ((word && a) || (word && an)) (Some A) (cond (word && the) (Some The) (cond (word && which) (Some Which) None))) ≡ true → word ≡ true
    cases true the a an which e = refl
    cases false the a an which e = absurd (cc)

-- ---- which form

some_or : {X : Type 0} (a b : Option X) → is_some (option_or a b) ≡ (is_some a || is_some b)
some_or (Some x) b = refl
some_or None b = refl

some_if : {X : Type 0} (b : Bool) (o : Option X) → is_some (cond b o None) ≡ (b && is_some o)
some_if true o = refl
some_if false o = refl

quote_some : (t : Token) (us : List Token) → is_some (quote_form (t ∷ us)) ≡ (is_quote t.kind && nat_le (length us) 0)
quote_some t [] = some_if (is_quote t.kind) (Some Quote)
quote_some t (u ∷ us) = sym (ap (λ b. is_quote t.kind && b) (lt-leb (length (u ∷ us)) 0 (omega arith)) ∙ neither (is_quote t.kind))

pub form_some : (l : Layout) (t : Token) (us : List Token) → is_simple_phrase l (t ∷ us) ≡ ((is_quote t.kind && nat_le (length us) 0) || ((is_name l us && is_some (article l t)) || (is_name l (t ∷ us) && not (begins_otherwise l (t ∷ us)))))
unfolding simple_form
form_some l t us =
    let C = constant_form l (t ∷ us) in
    let A' = article_form l (t ∷ us) in
    let N = is_name l (t ∷ us) && not (begins_otherwise l (t ∷ us)) in
    some_or (quote_form (t ∷ us)) (option_or A' C)
    ∙ ap (λ b. b || is_some (option_or A' C)) (quote_some t us)
    ∙ ap (λ b. (is_quote t.kind && nat_le (length us) 0) || b) (some_or A' C ∙ ap (λ b. b || is_some C) (some_if (is_name l us) (article l t)) ∙ ap (λ b. (is_name l us && is_some (article l t)) || b) (some_if N (Some (name_form l (t ∷ us))) ∙ always N))
  where
    always : (b : Bool) → (b && true) ≡ b
    always true = refl
    always false = refl

-- a word that isn't plain begins no name
no_name : (l : Layout) (t : Token) (us : List Token) → is_plain l t ≡ false → is_name l (t ∷ us) ≡ false
unfolding is_name
no_name l t us e =
    ap (λ b. nat_le 1 (length (t ∷ us)) && (nat_le (length (t ∷ us)) 12 && (b && list_all (is_plain l) us))) e
    ∙ ap (λ b. nat_le 1 (length (t ∷ us)) && b) (neither (nat_le (length (t ∷ us)) 12)) ∙ neither (nat_le 1 (length (t ∷ us)))

-- no constant stands where the first token is a determiner or isn't plain
no_constant : (l : Layout) (t : Token) (us : List Token) → (is_determiner l t ≡ true) ⊎ (is_plain l t ≡ false) → (is_name l (t ∷ us) && not (begins_otherwise l (t ∷ us))) ≡ false
unfolding begins_otherwise
no_constant l t us h = ⊎_elim
    (λ (d : is_determiner l t ≡ true). ap (λ b. is_name l (t ∷ us) && not (b || (begins_with l (t ∷ us) not_the_case || begins_with l (t ∷ us) the_case))) d ∙ neither (is_name l (t ∷ us)))
    (λ (p : is_plain l t ≡ false). ap (λ b. b && not (begins_otherwise l (t ∷ us))) (no_name l t us p))
    h

or_none : (b : Bool) → (b || false) ≡ b
or_none true = refl
or_none false = refl

and_all : (b : Bool) → (b && true) ≡ b
and_all true = refl
and_all false = refl

-- ---- the four cases

of_quote : (l : Layout) (t : Token) (ts : List Token) (m : ℕ) → m ≤ length ts → is_quote t.kind ≡ true → is_simple_phrase l (t ∷ take m ts) ≡ is_length (lengths 1 1) (suc m)
of_quote l t ts m h q =
    let us = take m ts in
    form_some l t us
    ∙ ap (λ b. (b && nat_le (length us) 0) || ((is_name l us && is_some (article l t)) || (is_name l (t ∷ us) && not (begins_otherwise l (t ∷ us))))) q
    ∙ ap (λ b. nat_le (length us) 0 || ((is_name l us && b) || (is_name l (t ∷ us) && not (begins_otherwise l (t ∷ us))))) (quote_article l t q)
    ∙ ap (λ b. nat_le (length us) 0 || (b || (is_name l (t ∷ us) && not (begins_otherwise l (t ∷ us))))) (neither (is_name l us))
    ∙ ap (λ b. nat_le (length us) 0 || b) (no_constant l t us (inr (quote_plain l t q)))
    ∙ or_none (nat_le (length us) 0)
    ∙ ap (λ k. nat_le k 0) (length-take-le m ts h)
    ∙ same_le m 0 (suc m) 1 (λ (k : m ≤ 0). omega arith) (λ (k : suc m ≤ 1). omega arith)
    ∙ sym (ap (λ b. b && nat_le (suc m) 1) (le-leb 1 (suc m) (omega arith)))

of_article : (l : Layout) (t : Token) (ts : List Token) (m : ℕ) → m ≤ length ts → is_quote t.kind ≡ false → is_some (article l t) ≡ true → is_simple_phrase l (t ∷ take m ts) ≡ is_length (lengths 2 (min 12 (plain_run l ts) + 1)) (suc m)
of_article l t ts m h q a =
    let us = take m ts in
    let r = plain_run l ts in
    form_some l t us
    ∙ ap (λ b. (b && nat_le (length us) 0) || ((is_name l us && is_some (article l t)) || (is_name l (t ∷ us) && not (begins_otherwise l (t ∷ us))))) q
    ∙ ap (λ b. (is_name l us && is_some (article l t)) || b) (no_constant l t us (article_kind l t a))
    ∙ or_none (is_name l us && is_some (article l t))
    ∙ ap (λ b. is_name l us && b) a
    ∙ and_all (is_name l us)
    ∙ name_front l ts m h
    ∙ ap (λ b. b && nat_le m (min 12 r)) (same_le 1 m 2 (suc m) (λ (k : 1 ≤ m). omega arith) (λ (k : 2 ≤ suc m). omega arith))
    ∙ ap (λ b. nat_le 2 (suc m) && b) (same_le m (min 12 r) (suc m) (min 12 r + 1) (λ (k : m ≤ min 12 r). omega arith) (λ (k : suc m ≤ min 12 r + 1). omega arith))

of_determiner : (l : Layout) (t : Token) (ts : List Token) (m : ℕ) → is_quote t.kind ≡ false → is_some (article l t) ≡ false → is_determiner l t ≡ true → is_simple_phrase l (t ∷ take m ts) ≡ is_length (lengths 1 0) (suc m)
of_determiner l t ts m q a d =
    let us = take m ts in
    form_some l t us
    ∙ ap (λ b. (b && nat_le (length us) 0) || ((is_name l us && is_some (article l t)) || (is_name l (t ∷ us) && not (begins_otherwise l (t ∷ us))))) q
    ∙ ap (λ b. (is_name l us && b) || (is_name l (t ∷ us) && not (begins_otherwise l (t ∷ us)))) a
    ∙ ap (λ b. b || (is_name l (t ∷ us) && not (begins_otherwise l (t ∷ us)))) (neither (is_name l us))
    ∙ no_constant l t us (inl d)
    ∙ sym (ap (λ b. nat_le 1 (suc m) && b) (lt-leb (suc m) 0 (omega arith)) ∙ neither (nat_le 1 (suc m)))

of_constant : (l : Layout) (t : Token) (ts : List Token) (m : ℕ) → m ≤ length ts → is_quote t.kind ≡ false → is_some (article l t) ≡ false → is_determiner l t ≡ false → is_simple_phrase l (t ∷ take m ts) ≡ is_length (lengths 1 (min (most_words l (t ∷ ts)) (plain_run l (t ∷ ts)))) (suc m)
unfolding begins_otherwise
of_constant l t ts m h q a d =
    let us = take m ts in
    let n = suc m in
    let r = plain_run l (t ∷ ts) in
    let B = begins_with l (t ∷ us) not_the_case || begins_with l (t ∷ us) the_case in
    form_some l t us
    ∙ ap (λ b. (b && nat_le (length us) 0) || ((is_name l us && is_some (article l t)) || (is_name l (t ∷ us) && not (is_determiner l t || B)))) q
    ∙ ap (λ b. (is_name l us && b) || (is_name l (t ∷ us) && not (is_determiner l t || B))) a
    ∙ ap (λ b. b || (is_name l (t ∷ us) && not (is_determiner l t || B))) (neither (is_name l us))
    ∙ ap (λ b. is_name l (t ∷ us) && not (b || B)) d
    ∙ ap (λ b. b && not B) (name_front l (t ∷ ts) n (omega arith))
    ∙ ap (λ b. (nat_le 1 n && nat_le n (min 12 r)) && not (b || begins_with l (t ∷ us) the_case)) (begins_front l (t ∷ ts) not_the_case n (omega arith))
    ∙ ap (λ b. (nat_le 1 n && nat_le n (min 12 r)) && not ((nat_le 6 n && begins_with l (t ∷ ts) not_the_case) || b)) (begins_front l (t ∷ ts) the_case n (omega arith))
    ∙ regroup (nat_le 1 n) (nat_le n (min 12 r)) (not ((nat_le 6 n && begins_with l (t ∷ ts) not_the_case) || (nat_le 5 n && begins_with l (t ∷ ts) the_case)))
    ∙ ap (λ b. nat_le 1 n && b) (words_front (begins_with l (t ∷ ts) the_case) (begins_with l (t ∷ ts) not_the_case) n r)
  where
    regroup : (a b c : Bool) → ((a && b) && c) ≡ (a && (b && c))
    regroup true b c = refl
    regroup false b c = refl

-- a phrase has at least one token
pub some_length : (l : Layout) (ts : List Token) → 0 < (simple_lengths l ts).least
unfolding simple_lengths
some_length l [] = omega arith
some_length l (t ∷ ts) = cases (is_quote t.kind) (is_some (article l t)) (is_determiner l t) (min 12 (plain_run l ts) + 1) (min (most_words l (t ∷ ts)) (plain_run l (t ∷ ts)))
  where
    cases : (x y z : Bool) (m n : ℕ) → 0 < (cond x (lengths 1 1) (cond y (lengths 2 m) (cond z (lengths 1 0) (lengths 1 n)))).least
    cases true y z m n = omega arith
    cases false true z m n = omega arith
    cases false false true m n = omega arith
    cases false false false m n = omega arith

-- and no more than there are
pub lengths_within : (l : Layout) (ts : List Token) → (simple_lengths l ts).most ≤ length ts
unfolding simple_lengths
lengths_within l [] = omega arith
lengths_within l (t ∷ ts) = cases (is_quote t.kind) (is_some (article l t)) (is_determiner l t) (plain_run l ts) (plain_run l (t ∷ ts)) (most_words l (t ∷ ts)) (run_short l ts) (run_short l (t ∷ ts))
  where
    cases : (x y z : Bool) (m n w : ℕ) → m ≤ length ts → n ≤ length (t ∷ ts) → (cond x (lengths 1 1) (cond y (lengths 2 (min 12 m + 1)) (cond z (lengths 1 0) (lengths 1 (min w n))))).most ≤ length (t ∷ ts)
    cases true y z m n w g h = omega arith
    cases false true z m n w g h = omega arith
    cases false false true m n w g h = omega arith
    cases false false false m n w g h = omega arith

-- The first n tokens are a phrase exactly where n is one of the lengths.
pub in_a_row : (l : Layout) (ts : List Token) (n : ℕ) → n ≤ length ts → is_simple_phrase l (take n ts) ≡ is_length (simple_lengths l ts) n
unfolding simple_form simple_lengths is_name
in_a_row l ts zero h = sym (ap (λ b. b && nat_le 0 (simple_lengths l ts).most) (lt-leb (simple_lengths l ts).least 0 (some_length l ts)))
in_a_row l [] (suc m) h = absurd (omega arith)
in_a_row l (t ∷ ts) (suc m) h =
    cases (is_quote t.kind) (is_some (article l t)) (is_determiner l t) refl refl refl
  where
    cases : (x y z : Bool) → is_quote t.kind ≡ x → is_some (article l t) ≡ y → is_determiner l t ≡ z → is_simple_phrase l (t ∷ take m ts) ≡ is_length (cond x (lengths 1 1) (cond y (lengths 2 (min 12 (plain_run l ts) + 1)) (cond z (lengths 1 0) (lengths 1 (min (most_words l (t ∷ ts)) (plain_run l (t ∷ ts))))))) (suc m)
    cases true y z q a d = of_quote l t ts m (omega arith) q
    cases false true z q a d = of_article l t ts m (omega arith) q a
    cases false false true q a d = of_determiner l t ts m q a d
    cases false false false q a d = of_constant l t ts m (omega arith) q a d
