-- The walk from the last token to the first finds each list, so at each token at most one length is a list.
use Rattle.std.proofs.Common.{◌≡◌, ℕ, zero, suc, ◌+◌, ◌==◌, ◌<◌, Bool, true, false, cond, not, ◌&&◌, ◌||◌, nat_le, List, [], ◌∷◌, ◌++◌, length, drop, get_or, sym, refl, ap, ◌∙◌, ⊎_elim, append_assoc, arith, ◌≤◌, take, ◌⊎◌, inl, inr}
use Rattle.std.specs.List.{list_all}
use Rattle.std.specs.Option.{is_some}
use Rattle.std.proofs.lemmas.Bool.{and_parts, cases_lt, cond-false, cond-true, leb-true, ne_eqb, or_cases}
use Rattle.std.proofs.lemmas.List.{append-nil, get_or_at, get_or_past, length-append, length-take-le, take-append-drop, take_at}
use Rattle.le_layout.specs.declared.token.Kind.{Kind}
use Rattle.le_layout.specs.declared.token.Kind.TheVariants as kinds
use Rattle.le_layout.specs.declared.token.Token.{Token}
use Rattle.le_layout.specs.declared.layout.Layout.{Layout}
use Rattle.le_layout.specs.Layout.{no_token}
use Rattle.le_layout.specs.Words.{text_of, is_word, is_quote}
use Rattle.le_scope.specs.Simple.{is_plain_word, is_plain, is_name, article, begins_otherwise, is_simple_phrase, simple_form}
use Rattle.le_scope.specs.declared.lists.ListLengths.{ListLengths}
use Rattle.le_scope.specs.Lists.{is_open, is_close, is_bar, is_comma, ends_item, Phrase, simple, empty, list, Items, last, more, tail, spelled, items_spelled, IsPhraseOf, AreItemsOf, no_lengths, at, until_end, onto, list_length, items_length, last_length, rows_of, first_row, is_list}
use Rattle.le_scope.proofs.SimpleLaw.{form_some, article_word}

pub rows_drop : (l : Layout) (ts : List Token) (n : ℕ) → at (rows_of l ts) n ≡ first_row l (drop n ts)
rows_drop l [] zero = refl
rows_drop l [] (suc n) = refl
rows_drop l (t ∷ ts) zero = refl
rows_drop l (t ∷ ts) (suc n) = rows_drop l ts n

-- ---- kinds

-- the tokens of a phrase without brackets
abbrev pub is_text : Kind → Bool
is_text k = is_word k || is_quote k

text_ends : (k : Kind) → is_text k ≡ true → ends_item k ≡ false
text_ends kinds.Word h = refl
text_ends kinds.Quote h = refl
text_ends kinds.Open h = refl
text_ends kinds.Close h = sym h
text_ends kinds.Bar h = sym h
text_ends kinds.Comma h = sym h
text_ends kinds.Colon h = refl
text_ends kinds.Star h = refl
text_ends kinds.Stop h = refl

pub text_open : (k : Kind) → is_text k ≡ true → is_open k ≡ false
text_open kinds.Word h = refl
text_open kinds.Quote h = refl
text_open kinds.Open h = sym h
text_open kinds.Close h = refl
text_open kinds.Bar h = refl
text_open kinds.Comma h = refl
text_open kinds.Colon h = refl
text_open kinds.Star h = refl
text_open kinds.Stop h = refl

pub text_close : (k : Kind) → is_text k ≡ true → is_close k ≡ false
text_close kinds.Word h = refl
text_close kinds.Quote h = refl
text_close kinds.Open h = refl
text_close kinds.Close h = sym h
text_close kinds.Bar h = refl
text_close kinds.Comma h = refl
text_close kinds.Colon h = refl
text_close kinds.Star h = refl
text_close kinds.Stop h = refl

pub open_close : (k : Kind) → is_open k ≡ true → is_close k ≡ false
open_close kinds.Open h = refl
open_close kinds.Word h = refl
open_close kinds.Quote h = refl
open_close kinds.Close h = sym h
open_close kinds.Bar h = refl
open_close kinds.Comma h = refl
open_close kinds.Colon h = refl
open_close kinds.Star h = refl
open_close kinds.Stop h = refl

pub close_ends : (k : Kind) (n : ℕ) (row : ListLengths) → is_close k ≡ true → (ends_item k ≡ true) × (items_length n k row ≡ n + 1) × (last_length n k ≡ n + 1)
close_ends kinds.Close n row h = (refl, refl, refl)
close_ends kinds.Word n row h = absurd (cc)
close_ends kinds.Quote n row h = absurd (cc)
close_ends kinds.Open n row h = absurd (cc)
close_ends kinds.Bar n row h = absurd (cc)
close_ends kinds.Comma n row h = absurd (cc)
close_ends kinds.Colon n row h = absurd (cc)
close_ends kinds.Star n row h = absurd (cc)
close_ends kinds.Stop n row h = absurd (cc)

pub comma_ends : (k : Kind) (n : ℕ) (row : ListLengths) → is_comma k ≡ true → (ends_item k ≡ true) × (items_length n k row ≡ onto (n + 1) row.items)
comma_ends kinds.Comma n row h = (refl, refl)
comma_ends kinds.Close n row h = absurd (cc)
comma_ends kinds.Word n row h = absurd (cc)
comma_ends kinds.Quote n row h = absurd (cc)
comma_ends kinds.Open n row h = absurd (cc)
comma_ends kinds.Bar n row h = absurd (cc)
comma_ends kinds.Colon n row h = absurd (cc)
comma_ends kinds.Star n row h = absurd (cc)
comma_ends kinds.Stop n row h = absurd (cc)

pub bar_ends : (k : Kind) (n : ℕ) (row : ListLengths) → is_bar k ≡ true → (ends_item k ≡ true) × (items_length n k row ≡ onto (n + 1) row.last)
bar_ends kinds.Bar n row h = (refl, refl)
bar_ends kinds.Comma n row h = absurd (cc)
bar_ends kinds.Close n row h = absurd (cc)
bar_ends kinds.Word n row h = absurd (cc)
bar_ends kinds.Quote n row h = absurd (cc)
bar_ends kinds.Open n row h = absurd (cc)
bar_ends kinds.Colon n row h = absurd (cc)
bar_ends kinds.Star n row h = absurd (cc)
bar_ends kinds.Stop n row h = absurd (cc)

-- ---- phrases without brackets

plain_text : (l : Layout) (t : Token) → is_plain l t ≡ true → is_text t.kind ≡ true
unfolding is_plain
plain_text l t h = ap (λ b. b || is_quote t.kind) ((and_parts (is_word t.kind) (is_plain_word (text_of l t)) h).0)

plain_texts : (l : Layout) (ts : List Token) → list_all (is_plain l) ts ≡ true → list_all (λ t. is_text t.kind) ts ≡ true
plain_texts l [] h = refl
plain_texts l (t ∷ ts) h =
    let p = and_parts (is_plain l t) (list_all (is_plain l) ts) h in
    ap (λ b. b && list_all (λ t. is_text t.kind) ts) (plain_text l t p.0) ∙ plain_texts l ts p.1

name_texts : (l : Layout) (ts : List Token) → is_name l ts ≡ true → list_all (λ t. is_text t.kind) ts ≡ true
unfolding is_name
name_texts l ts h =
    plain_texts l ts ((and_parts (nat_le (length ts) 12) (list_all (is_plain l) ts) ((and_parts (nat_le 1 (length ts)) (nat_le (length ts) 12 && list_all (is_plain l) ts) h).1)).1)

pub text_or : (a b : Bool) → (b ≡ true) → (a || b) ≡ true
text_or true b h = refl
text_or false b h = h

-- a phrase without brackets is words, or one quoted text
pub phrase_texts : (l : Layout) (t : Token) (us : List Token) → is_simple_phrase l (t ∷ us) ≡ true → list_all (λ t. is_text t.kind) (t ∷ us) ≡ true
phrase_texts l t us h =
    let N = is_name l (t ∷ us) && not (begins_otherwise l (t ∷ us)) in
    ⊎_elim
    (λ (q : (is_quote t.kind && nat_le (length us) 0) ≡ true).
    let p = and_parts (is_quote t.kind) (nat_le (length us) 0) q in
    one us p.1 (text_or (is_word t.kind) (is_quote t.kind) p.0))
    (λ (r : ((is_name l us && is_some (article l t)) || N) ≡ true). ⊎_elim
    (λ (a : (is_name l us && is_some (article l t)) ≡ true).
    let p = and_parts (is_name l us) (is_some (article l t)) a in
    ap (λ b. (b || is_quote t.kind) && list_all (λ t. is_text t.kind) us) (article_word l t p.1) ∙ name_texts l us p.0)
    (λ (n : N ≡ true). name_texts l (t ∷ us) ((and_parts (is_name l (t ∷ us)) (not (begins_otherwise l (t ∷ us))) n).0))
    (or_cases (is_name l us && is_some (article l t)) N r))
    (or_cases (is_quote t.kind && nat_le (length us) 0) ((is_name l us && is_some (article l t)) || N) (sym (form_some l t us) ∙ h))
  where
    one : (us : List Token) → nat_le (length us) 0 ≡ true → is_text t.kind ≡ true → list_all (λ t. is_text t.kind) (t ∷ us) ≡ true
    one [] e k = ap (λ b. b && true) k
    one (u ∷ us) e k = absurd (let g = leb-true (length (u ∷ us)) 0 e in omega (arith, g))

pub texts_end : (ts : List Token) (e : Token) (rest : List Token) → list_all (λ t. is_text t.kind) ts ≡ true → ends_item e.kind ≡ true → until_end (ts ++ e ∷ rest) ≡ length ts
texts_end [] e rest h k = ap (λ b. cond b 0 (until_end rest + 1)) k
texts_end (t ∷ ts) e rest h k =
    let p = and_parts (is_text t.kind) (list_all (λ t. is_text t.kind) ts) h in
    let r = texts_end ts e rest p.1 k in
    ap (λ b. cond b 0 (until_end (ts ++ e ∷ rest) + 1)) (text_ends t.kind p.0) ∙ (let g : until_end (ts ++ e ∷ rest) + 1 ≡ length (t ∷ ts) = omega (arith, r) in g)

pub no_phrase : (l : Layout) → is_simple_phrase l [] ≡ false
unfolding simple_form is_name
no_phrase l = refl

-- ---- what the walk finds

-- the items at a token whose phrase has so many tokens
items_by : (l : Layout) (ts : List Token) (n : ℕ) → (first_row l ts).phrase ≡ n → 0 < n → (first_row l ts).items ≡ items_length n (get_or ts n no_token).kind (first_row l (drop (suc n) ts))
items_by l [] n e some = absurd (omega (arith, e))
items_by l (t ∷ ts) n e some =
    let F : ℕ → ℕ = λ m. cond (m == 0) 0 (items_length m (get_or (t ∷ ts) m no_token).kind (at (rows_of l ts) m)) in
    let other : n ≡ 0 → ⊥ = λ (z : n ≡ 0). omega arith in
    ap F e ∙ cond-false (n == 0) 0 (items_length n (get_or (t ∷ ts) n no_token).kind (at (rows_of l ts) n)) (ne_eqb n 0 other)
    ∙ ap (items_length n (get_or (t ∷ ts) n no_token).kind) (rows_drop l ts n)

last_by : (l : Layout) (ts : List Token) (n : ℕ) → (first_row l ts).phrase ≡ n → 0 < n → (first_row l ts).last ≡ last_length n (get_or ts n no_token).kind
last_by l [] n e some = absurd (omega (arith, e))
last_by l (t ∷ ts) n e some =
    let F : ℕ → ℕ = λ m. cond (m == 0) 0 (last_length m (get_or (t ∷ ts) m no_token).kind) in
    let other : n ≡ 0 → ⊥ = λ (z : n ≡ 0). omega arith in
    ap F e ∙ cond-false (n == 0) 0 (last_length n (get_or (t ∷ ts) n no_token).kind) (ne_eqb n 0 other)

drop_past : (ps : List Token) (e : Token) (rest : List Token) → drop (suc (length ps)) (ps ++ e ∷ rest) ≡ rest
drop_past [] e rest = refl
drop_past (p ∷ ps) e rest = drop_past ps e rest

some_onto : (n m : ℕ) → 0 < m → onto n m ≡ n + m
some_onto n m h = let other : m ≡ 0 → ⊥ = λ (z : m ≡ 0). omega arith in cond-false (m == 0) 0 (n + m) (ne_eqb m 0 other)

list_from : (l : Layout) (ts : List Token) → is_close (get_or ts 0 no_token).kind ≡ false → list_length ts (rows_of l ts) ≡ onto 1 (first_row l ts).items
list_from l [] h = refl
list_from l (t ∷ ts) h = cond-false (is_close t.kind) 2 (onto 1 (first_row l (t ∷ ts)).items) h

-- a phrase has a token, and doesn't begin with a closing bracket
pub phrase_first : (l : Layout) (p : Phrase) (rest : List Token) → IsPhraseOf l p → (0 < length (spelled p)) × (is_close (get_or (spelled p ++ rest) 0 no_token).kind ≡ false)
phrase_first l (simple []) rest h = absurd (let e = no_phrase l in cc)
phrase_first l (simple (t ∷ ts)) rest h = (omega arith, text_close t.kind ((and_parts (is_text t.kind) (list_all (λ t. is_text t.kind) ts) (phrase_texts l t ts h)).0))
phrase_first l (empty opening closing) rest h = (omega arith, open_close opening.kind h.0)
phrase_first l (list opening items) rest h = (omega arith, open_close opening.kind h.0)

pub items_first : (l : Layout) (is : Items) (rest : List Token) → AreItemsOf l is → (0 < length (items_spelled is)) × (is_close (get_or (items_spelled is ++ rest) 0 no_token).kind ≡ false)
items_first l (last p closing) rest h =
    (let k = length-append (spelled p) (closing ∷ []) in omega (arith, k), ap (λ s. is_close (get_or s 0 no_token).kind) (append_assoc (spelled p) (closing ∷ []) rest) ∙ (phrase_first l p (closing ∷ rest) h.0).1)
items_first l (more p comma is) rest h =
    (let k = length-append (spelled p) (comma ∷ items_spelled is) in omega (arith, k), ap (λ s. is_close (get_or s 0 no_token).kind) (append_assoc (spelled p) (comma ∷ items_spelled is) rest) ∙ (phrase_first l p (comma ∷ (items_spelled is ++ rest)) h.0).1)
items_first l (tail p bar q closing) rest h =
    (let k = length-append (spelled p) (bar ∷ (spelled q ++ closing ∷ [])) in omega (arith, k), ap (λ s. is_close (get_or s 0 no_token).kind) (append_assoc (spelled p) (bar ∷ (spelled q ++ closing ∷ [])) rest) ∙ (phrase_first l p (bar ∷ ((spelled q ++ closing ∷ []) ++ rest)) h.0).1)

simple_found : (l : Layout) (ts : List Token) (e : Token) (rest : List Token) → is_simple_phrase l ts ≡ true → ends_item e.kind ≡ true → (first_row l (ts ++ e ∷ rest)).phrase ≡ length ts
simple_found l [] e rest h k = absurd (let g = no_phrase l in cc)
simple_found l (t ∷ us) e rest h k =
    let all = (t ∷ us) ++ e ∷ rest in
    let texts = phrase_texts l t us h in
    let n = until_end all in
    let count : n ≡ length (t ∷ us) = texts_end (t ∷ us) e rest texts k in
    let row : is_simple_phrase l (take n all) ≡ true = ap (is_simple_phrase l) (take_at (t ∷ us) (e ∷ rest) n (sym count)) ∙ h in
    cond-false (is_open t.kind) (list_length (us ++ e ∷ rest) (rows_of l (us ++ e ∷ rest))) (cond (is_simple_phrase l (take n all)) n 0) (text_open t.kind ((and_parts (is_text t.kind) (list_all (λ t. is_text t.kind) us) texts).0))
    ∙ cond-true (is_simple_phrase l (take n all)) n 0 row ∙ count

-- the items after a phrase
part : (l : Layout) (ps : List Token) (e : Token) (rest : List Token) → (first_row l (ps ++ e ∷ rest)).phrase ≡ length ps → 0 < length ps → (first_row l (ps ++ e ∷ rest)).items ≡ items_length (length ps) e.kind (first_row l rest)
part l ps e rest h some =
    let n = length ps in
    items_by l (ps ++ e ∷ rest) n h some
    ∙ ap (λ t. items_length n t.kind (first_row l (drop (suc n) (ps ++ e ∷ rest)))) (get_or_at ps e rest no_token n refl)
    ∙ ap (λ s. items_length n e.kind (first_row l s)) (drop_past ps e rest)

last_part : (l : Layout) (ps : List Token) (e : Token) (rest : List Token) → (first_row l (ps ++ e ∷ rest)).phrase ≡ length ps → 0 < length ps → (first_row l (ps ++ e ∷ rest)).last ≡ last_length (length ps) e.kind
last_part l ps e rest h some =
    let n = length ps in
    last_by l (ps ++ e ∷ rest) n h some ∙ ap (λ t. last_length n t.kind) (get_or_at ps e rest no_token n refl)

-- The walk finds each phrase before a token that ends an item, and all items with the bracket that closes them.
mutual
  pub phrase_found : (l : Layout) (p : Phrase) (rest : List Token) → IsPhraseOf l p → (is_list p || ends_item (get_or rest 0 no_token).kind) ≡ true → (first_row l (spelled p ++ rest)).phrase ≡ length (spelled p)
  phrase_found l (simple ts) [] h k = absurd (cc)
  phrase_found l (simple ts) (e ∷ rest) h k = simple_found l ts e rest h k
  phrase_found l (empty opening closing) rest h k =
      cond-true (is_open opening.kind) (list_length (closing ∷ rest) (rows_of l (closing ∷ rest))) (cond (is_simple_phrase l (take (until_end (opening ∷ closing ∷ rest)) (opening ∷ closing ∷ rest))) (until_end (opening ∷ closing ∷ rest)) 0) h.0
      ∙ cond-true (is_close closing.kind) 2 (onto 1 (at (rows_of l (closing ∷ rest)) 0).items) h.1
  phrase_found l (list opening items) rest h k =
      let ts = items_spelled items ++ rest in
      let first = items_first l items rest h.1 in
      let found = items_found l items rest h.1 in
      cond-true (is_open opening.kind) (list_length ts (rows_of l ts)) (cond (is_simple_phrase l (take (until_end (opening ∷ ts)) (opening ∷ ts))) (until_end (opening ∷ ts)) 0) h.0
      ∙ list_from l ts first.1
      ∙ ap (onto 1) found ∙ some_onto 1 (length (items_spelled items)) first.0
      ∙ (let g : 1 + length (items_spelled items) ≡ length (opening ∷ items_spelled items) = omega arith in g)

  pub items_found : (l : Layout) (is : Items) (rest : List Token) → AreItemsOf l is → (first_row l (items_spelled is ++ rest)).items ≡ length (items_spelled is)
  items_found l (last p closing) rest h =
      let n = length (spelled p) in
      let k = close_ends closing.kind n (first_row l rest) h.1 in
      let size = length-append (spelled p) (closing ∷ []) in
      ap (λ s. (first_row l s).items) (append_assoc (spelled p) (closing ∷ []) rest)
      ∙ part l (spelled p) closing rest (phrase_found l p (closing ∷ rest) h.0 (text_or (is_list p) (ends_item closing.kind) k.0)) (phrase_first l p rest h.0).0
      ∙ k.1 ∙ (let g : n + 1 ≡ length (spelled p ++ closing ∷ []) = omega (arith, size) in g)
  items_found l (more p comma is) rest h =
      let n = length (spelled p) in
      let ts = items_spelled is ++ rest in
      let k = comma_ends comma.kind n (first_row l ts) h.1 in
      let size = length-append (spelled p) (comma ∷ items_spelled is) in
      ap (λ s. (first_row l s).items) (append_assoc (spelled p) (comma ∷ items_spelled is) rest)
      ∙ part l (spelled p) comma ts (phrase_found l p (comma ∷ ts) h.0 (text_or (is_list p) (ends_item comma.kind) k.0)) (phrase_first l p rest h.0).0
      ∙ k.1 ∙ ap (onto (n + 1)) (items_found l is rest h.2) ∙ some_onto (n + 1) (length (items_spelled is)) (items_first l is rest h.2).0
      ∙ (let g : n + 1 + length (items_spelled is) ≡ length (spelled p ++ comma ∷ items_spelled is) = omega (arith, size) in g)
  items_found l (tail p bar q closing) rest h =
      let n = length (spelled p) in
      let m = length (spelled q) in
      let us = spelled q ++ closing ∷ rest in
      let same : (spelled q ++ closing ∷ []) ++ rest ≡ us = append_assoc (spelled q) (closing ∷ []) rest in
      let k = bar_ends bar.kind n (first_row l us) h.1 in
      let j = close_ends closing.kind m no_lengths h.3 in
      let size = length-append (spelled p) (bar ∷ (spelled q ++ closing ∷ [])) in
      let inner = length-append (spelled q) (closing ∷ []) in
      let final : (first_row l us).last ≡ m + 1 = last_part l (spelled q) closing rest (phrase_found l q (closing ∷ rest) h.2 (text_or (is_list q) (ends_item closing.kind) j.0)) (phrase_first l q rest h.2).0 ∙ j.2 in
      ap (λ s. (first_row l s).items) (append_assoc (spelled p) (bar ∷ (spelled q ++ closing ∷ [])) rest ∙ ap (λ s. spelled p ++ bar ∷ s) same)
      ∙ part l (spelled p) bar us (phrase_found l p (bar ∷ us) h.0 (text_or (is_list p) (ends_item bar.kind) k.0)) (phrase_first l p rest h.0).0
      ∙ k.1 ∙ ap (onto (n + 1)) final ∙ some_onto (n + 1) (m + 1) (omega arith)
      ∙ (let g : n + 1 + (m + 1) ≡ length (spelled p ++ bar ∷ (spelled q ++ closing ∷ [])) = omega (arith, size, inner) in g)

-- a list is found whatever follows it
pub list_found : (l : Layout) (p : Phrase) (rest : List Token) → IsPhraseOf l p → is_list p ≡ true → (first_row l (spelled p ++ rest)).phrase ≡ length (spelled p)
list_found l p rest h k = phrase_found l p rest h (ap (λ b. b || ends_item (get_or rest 0 no_token).kind) k)

-- At each token at most one length is a list.
pub one_list : (l : Layout) (p q : Phrase) (rest after : List Token) → IsPhraseOf l p → is_list p ≡ true → IsPhraseOf l q → is_list q ≡ true → spelled p ++ rest ≡ spelled q ++ after → length (spelled p) ≡ length (spelled q)
one_list l p q rest after h k i j e =
    sym (list_found l p rest h k) ∙ ap (λ s. (first_row l s).phrase) e ∙ list_found l q after i j

-- ---- what the walk finds is a phrase, items or a last phrase

-- a phrase that stands at the front of tokens
pub record PhraseAt (l : Layout) (ts : List Token) (n : ℕ) : Type 0 where
  pub phrase : Phrase
  pub rest : List Token
  pub valid : IsPhraseOf l phrase
  pub split : ts ≡ spelled phrase ++ rest
  pub size : n ≡ length (spelled phrase)

-- items that stand there
pub record ItemsAt (l : Layout) (ts : List Token) (n : ℕ) : Type 0 where
  pub items : Items
  pub rest : List Token
  pub valid : AreItemsOf l items
  pub split : ts ≡ items_spelled items ++ rest
  pub size : n ≡ length (items_spelled items)

-- a last phrase with its bracket
pub record LastAt (l : Layout) (ts : List Token) (n : ℕ) : Type 0 where
  pub phrase : Phrase
  pub closing : Token
  pub rest : List Token
  pub valid : IsPhraseOf l phrase
  pub closes : is_close closing.kind ≡ true
  pub split : ts ≡ spelled phrase ++ closing ∷ rest
  pub size : n ≡ length (spelled phrase) + 1

pub until_short : (ts : List Token) → until_end ts ≤ length ts
until_short [] = omega arith
until_short (t ∷ ts) = cases (ends_item t.kind) (until_short ts)
  where
    cases : (b : Bool) → until_end ts ≤ length ts → cond b 0 (until_end ts + 1) ≤ length (t ∷ ts)
    cases true h = omega arith
    cases false h = omega arith

some_if : (b : Bool) (n : ℕ) → 0 < cond b n 0 → (b ≡ true) × (cond b n 0 ≡ n)
some_if true n h = (refl, refl)
some_if false n h = absurd (omega arith)

onto_some : (n m : ℕ) → 0 < onto n m → (0 < m) × (onto n m ≡ n + m)
onto_some n zero h = absurd (omega arith)
onto_some n (suc m) h = (omega arith, some_onto n (suc m) (omega arith))

-- the phrase at a token, from the items at the tokens after it
phrase_at : (l : Layout) (ts : List Token) → ((us : List Token) → length us < length ts → 0 < (first_row l us).items → ItemsAt l us (first_row l us).items) → 0 < (first_row l ts).phrase → PhraseAt l ts (first_row l ts).phrase
phrase_at l [] ih h = absurd (omega arith)
phrase_at l (t ∷ ts) ih h = open_or (is_open t.kind) refl
  where
    n : ℕ
    n = until_end (t ∷ ts)

    lists : (us : List Token) → us ≡ ts → is_open t.kind ≡ true → 0 < list_length us (rows_of l us) → PhraseAt l (t ∷ us) (list_length us (rows_of l us))
    lists [] e o g = absurd (omega arith)
    lists (c ∷ us) e o g = ends (is_close c.kind) refl
      where
        ends : (b : Bool) → is_close c.kind ≡ b → PhraseAt l (t ∷ c ∷ us) (cond (is_close c.kind) 2 (onto 1 (first_row l (c ∷ us)).items))
        ends true k = record { phrase = empty t c; rest = us; valid = (o, k); split = refl; size = cond-true (is_close c.kind) 2 (onto 1 (first_row l (c ∷ us)).items) k }
        ends false k =
            let same = cond-false (is_close c.kind) 2 (onto 1 (first_row l (c ∷ us)).items) k in
            let some = onto_some 1 (first_row l (c ∷ us)).items (omega (arith, g, same)) in
            let short : length (c ∷ us) < length (t ∷ ts) = let f = ap length e in omega (arith, f) in
            let is = ih (c ∷ us) short some.0 in
            record { phrase = list t is.items; rest = is.rest; valid = (o, is.valid); split = ap (λ s. t ∷ s) is.split; size = same ∙ some.1 ∙ (let z = is.size in let f : 1 + (first_row l (c ∷ us)).items ≡ length (t ∷ items_spelled is.items) = omega (arith, z) in f) }

    open_or : (b : Bool) → is_open t.kind ≡ b → PhraseAt l (t ∷ ts) (cond (is_open t.kind) (list_length ts (rows_of l ts)) (cond (is_simple_phrase l (take n (t ∷ ts))) n 0))
    open_or true o =
        let same = cond-true (is_open t.kind) (list_length ts (rows_of l ts)) (cond (is_simple_phrase l (take n (t ∷ ts))) n 0) o in
        let found = lists ts refl o (omega (arith, h, same)) in
        record { phrase = found.phrase; rest = found.rest; valid = found.valid; split = found.split; size = same ∙ found.size }
    open_or false o =
        let same = cond-false (is_open t.kind) (list_length ts (rows_of l ts)) (cond (is_simple_phrase l (take n (t ∷ ts))) n 0) o in
        let some = some_if (is_simple_phrase l (take n (t ∷ ts))) n (omega (arith, h, same)) in
        let short = until_short (t ∷ ts) in
        record {
          phrase = simple (take n (t ∷ ts));
          rest = drop n (t ∷ ts);
          valid = some.0;
          split = sym (take-append-drop n (t ∷ ts));
          size = same ∙ some.1 ∙ sym (length-take-le n (t ∷ ts) short);
        }

-- where there is no phrase there are no items
no_items : (l : Layout) (ts : List Token) → (first_row l ts).phrase ≡ 0 → ((first_row l ts).items ≡ 0) × ((first_row l ts).last ≡ 0)
no_items l [] e = (refl, refl)
no_items l (t ∷ ts) e =
    (ap (λ m. cond (m == 0) 0 (items_length m (get_or (t ∷ ts) m no_token).kind (at (rows_of l ts) m))) e, ap (λ m. cond (m == 0) 0 (last_length m (get_or (t ∷ ts) m no_token).kind)) e)

some_phrase : (l : Layout) (ts : List Token) → (0 < (first_row l ts).items) ⊎ (0 < (first_row l ts).last) → 0 < (first_row l ts).phrase
some_phrase l ts h = ⊎_elim
    (λ (z : (first_row l ts).phrase < 1).
    let none = no_items l ts (omega (arith, z)) in
    ⊎_elim (λ (g : 0 < (first_row l ts).items). absurd (omega (arith, g, none.0))) (λ (g : 0 < (first_row l ts).last). absurd (omega (arith, g, none.1))) h)
    (λ (z : 1 ≤ (first_row l ts).phrase). omega (arith, z))
    (cases_lt (first_row l ts).phrase 1)

last_at : (l : Layout) (ts : List Token) → PhraseAt l ts (first_row l ts).phrase → 0 < (first_row l ts).phrase → 0 < (first_row l ts).last → LastAt l ts (first_row l ts).last
last_at l ts p some h = by p.rest p.split
  where
    by : (rest : List Token) → ts ≡ spelled p.phrase ++ rest → LastAt l ts (first_row l ts).last
    by [] e =
        let size = p.size in
        let none : last_length (first_row l ts).phrase (get_or ts (first_row l ts).phrase no_token).kind ≡ 0 =
        ap (λ x. last_length (first_row l ts).phrase x.kind) (get_or_past ts (first_row l ts).phrase no_token (let f = ap length (e ∙ append-nil (spelled p.phrase)) in omega (arith, f, size))) in
        absurd (let g = last_by l ts (first_row l ts).phrase refl some in omega (arith, h, g, none))
    by (c ∷ rest) e = kind c.kind refl
      where
        found : (first_row l ts).last ≡ last_length (first_row l ts).phrase c.kind
        found =
            last_by l ts (first_row l ts).phrase refl some
            ∙ ap (λ x. last_length (first_row l ts).phrase x.kind) (ap (λ s. get_or s (first_row l ts).phrase no_token) e ∙ get_or_at (spelled p.phrase) c rest no_token (first_row l ts).phrase (sym p.size))

        kind : (k : Kind) → k ≡ c.kind → LastAt l ts (first_row l ts).last
        kind kinds.Close f = record { phrase = p.phrase; closing = c; rest = rest; valid = p.valid; closes = sym (ap is_close f); split = e; size = found ∙ sym (ap (last_length (first_row l ts).phrase) f) ∙ ap (λ m. m + 1) p.size }
        kind kinds.Word f = absurd (let g = found ∙ sym (ap (last_length (first_row l ts).phrase) f) in omega (arith, g, h))
        kind kinds.Quote f = absurd (let g = found ∙ sym (ap (last_length (first_row l ts).phrase) f) in omega (arith, g, h))
        kind kinds.Open f = absurd (let g = found ∙ sym (ap (last_length (first_row l ts).phrase) f) in omega (arith, g, h))
        kind kinds.Bar f = absurd (let g = found ∙ sym (ap (last_length (first_row l ts).phrase) f) in omega (arith, g, h))
        kind kinds.Comma f = absurd (let g = found ∙ sym (ap (last_length (first_row l ts).phrase) f) in omega (arith, g, h))
        kind kinds.Colon f = absurd (let g = found ∙ sym (ap (last_length (first_row l ts).phrase) f) in omega (arith, g, h))
        kind kinds.Star f = absurd (let g = found ∙ sym (ap (last_length (first_row l ts).phrase) f) in omega (arith, g, h))
        kind kinds.Stop f = absurd (let g = found ∙ sym (ap (last_length (first_row l ts).phrase) f) in omega (arith, g, h))

items_step : (l : Layout) (ts : List Token) → PhraseAt l ts (first_row l ts).phrase → 0 < (first_row l ts).phrase → 0 < (first_row l ts).items → ((us : List Token) → length us < length ts → 0 < (first_row l us).items → ItemsAt l us (first_row l us).items) → ((us : List Token) → length us < length ts → 0 < (first_row l us).last → LastAt l us (first_row l us).last) → ItemsAt l ts (first_row l ts).items
items_step l ts p some h items_ih last_ih = by p.rest p.split
  where
    by : (rest : List Token) → ts ≡ spelled p.phrase ++ rest → ItemsAt l ts (first_row l ts).items
    by [] e =
        let n = (first_row l ts).phrase in
        let size = p.size in
        let none : items_length n (get_or ts n no_token).kind (first_row l (drop (suc n) ts)) ≡ 0 =
        ap (λ x. items_length n x.kind (first_row l (drop (suc n) ts))) (get_or_past ts n no_token (let f = ap length (e ∙ append-nil (spelled p.phrase)) in omega (arith, f, size))) in
        absurd (let g = items_by l ts n refl some in omega (arith, h, g, none))
    by (c ∷ rest) e = kind c.kind refl
      where
        n : ℕ
        n = (first_row l ts).phrase

        found : (first_row l ts).items ≡ items_length n c.kind (first_row l rest)
        found =
            items_by l ts n refl some
            ∙ ap (λ x. items_length n x.kind (first_row l (drop (suc n) ts))) (ap (λ s. get_or s n no_token) e ∙ get_or_at (spelled p.phrase) c rest no_token n (sym p.size))
            ∙ ap (λ s. items_length n c.kind (first_row l s)) (ap (λ s. drop (suc n) s) e ∙ ap (λ m. drop (suc m) (spelled p.phrase ++ c ∷ rest)) p.size ∙ drop_past (spelled p.phrase) c rest)

        short : length rest < length ts
        short = let f = ap length e in let g = length-append (spelled p.phrase) (c ∷ rest) in omega (arith, f, g)

        kind : (k : Kind) → k ≡ c.kind → ItemsAt l ts (first_row l ts).items
        kind kinds.Close f =
            let size = length-append (spelled p.phrase) (c ∷ []) in
            let all = found ∙ sym (ap (λ k. items_length n k (first_row l rest)) f) in
            let z = p.size in
            record { items = last p.phrase c; rest = rest; valid = (p.valid, sym (ap is_close f)); split = e ∙ sym (append_assoc (spelled p.phrase) (c ∷ []) rest); size = omega (arith, all, z, size) }
        kind kinds.Comma f =
            let all = found ∙ sym (ap (λ k. items_length n k (first_row l rest)) f) in
            let more_some = onto_some (n + 1) (first_row l rest).items (omega (arith, all, h)) in
            let is = items_ih rest short more_some.0 in
            let size = length-append (spelled p.phrase) (c ∷ items_spelled is.items) in
            let z = p.size in
            let w = is.size in
            let v = more_some.1 in
            record {
              items = more p.phrase c is.items;
              rest = is.rest;
              valid = (p.valid, sym (ap is_comma f), is.valid);
              split = e ∙ ap (λ s. spelled p.phrase ++ c ∷ s) is.split ∙ sym (append_assoc (spelled p.phrase) (c ∷ items_spelled is.items) is.rest);
              size = omega (arith, all, v, w, z, size);
            }
        kind kinds.Bar f =
            let all = found ∙ sym (ap (λ k. items_length n k (first_row l rest)) f) in
            let more_some = onto_some (n + 1) (first_row l rest).last (omega (arith, all, h)) in
            let q = last_ih rest short more_some.0 in
            let size = length-append (spelled p.phrase) (c ∷ (spelled q.phrase ++ q.closing ∷ [])) in
            let inner = length-append (spelled q.phrase) (q.closing ∷ []) in
            let z = p.size in
            let w = q.size in
            let v = more_some.1 in
            record {
              items = tail p.phrase c q.phrase q.closing;
              rest = q.rest;
              valid = (p.valid, sym (ap is_bar f), q.valid, q.closes);
              split = e ∙ ap (λ s. spelled p.phrase ++ c ∷ s) (q.split ∙ sym (append_assoc (spelled q.phrase) (q.closing ∷ []) q.rest)) ∙ sym (append_assoc (spelled p.phrase) (c ∷ (spelled q.phrase ++ q.closing ∷ [])) q.rest);
              size = omega (arith, all, v, w, z, size, inner);
            }
        kind kinds.Word f = absurd (let g = found ∙ sym (ap (λ k. items_length n k (first_row l rest)) f) in omega (arith, g, h))
        kind kinds.Quote f = absurd (let g = found ∙ sym (ap (λ k. items_length n k (first_row l rest)) f) in omega (arith, g, h))
        kind kinds.Open f = absurd (let g = found ∙ sym (ap (λ k. items_length n k (first_row l rest)) f) in omega (arith, g, h))
        kind kinds.Colon f = absurd (let g = found ∙ sym (ap (λ k. items_length n k (first_row l rest)) f) in omega (arith, g, h))
        kind kinds.Star f = absurd (let g = found ∙ sym (ap (λ k. items_length n k (first_row l rest)) f) in omega (arith, g, h))
        kind kinds.Stop f = absurd (let g = found ∙ sym (ap (λ k. items_length n k (first_row l rest)) f) in omega (arith, g, h))

items_at : (f : ℕ) (l : Layout) (ts : List Token) → length ts ≤ f → 0 < (first_row l ts).items → ItemsAt l ts (first_row l ts).items
items_at zero l [] few h = absurd (omega arith)
items_at zero l (t ∷ ts) few h = absurd (omega arith)
items_at (suc f) l ts few h =
    let some = some_phrase l ts (inl h) in
    items_step l ts (phrase_at l ts (λ us short g. items_at f l us (omega (arith, few, short)) g) some) some h
    (λ us short g. items_at f l us (omega (arith, few, short)) g)
    (λ us short g. let there = some_phrase l us (inr g) in last_at l us (phrase_at l us (λ vs less k. items_at f l vs (omega (arith, few, short, less)) k) there) there g)

-- What the walk finds at a token is a phrase that stands there.
pub phrase_is : (l : Layout) (ts : List Token) → 0 < (first_row l ts).phrase → PhraseAt l ts (first_row l ts).phrase
phrase_is l ts h = phrase_at l ts (λ us short g. items_at (length us) l us (omega arith) g) h

-- and where the token is an opening bracket it is a list
pub list_is : (l : Layout) (t : Token) (ts : List Token) (p : Phrase) (rest : List Token) → IsPhraseOf l p → t ∷ ts ≡ spelled p ++ rest → is_open t.kind ≡ true → is_list p ≡ true
list_is l t ts (empty opening closing) rest h e o = refl
list_is l t ts (list opening items) rest h e o = refl
list_is l t ts (simple []) rest h e o = absurd (let g = no_phrase l in cc)
list_is l t ts (simple (u ∷ us)) rest h e o =
    let texts = (and_parts (is_text u.kind) (list_all (λ t. is_text t.kind) us) (phrase_texts l u us h)).0 in
    let same : t ≡ u = cc in
    let none = text_open u.kind texts in
    absurd (let f = ap (λ x. is_open x.kind) same in cc)

-- ---- what the walk finds stands among the tokens

pub phrase_short : (l : Layout) (ts : List Token) → (first_row l ts).phrase ≤ length ts
phrase_short l ts = ⊎_elim
    (λ (h : (first_row l ts).phrase < 1). omega (arith, h))
    (λ (h : 1 ≤ (first_row l ts).phrase).
    let p = phrase_is l ts (omega (arith, h)) in
    let size = p.size in
    let whole = ap length p.split in
    let both = length-append (spelled p.phrase) p.rest in
    omega (arith, size, whole, both))
    (cases_lt (first_row l ts).phrase 1)

pub items_short : (l : Layout) (ts : List Token) → (first_row l ts).items ≤ length ts
items_short l ts = ⊎_elim
    (λ (h : (first_row l ts).items < 1). omega (arith, h))
    (λ (h : 1 ≤ (first_row l ts).items).
    let p = items_at (length ts) l ts (omega arith) (omega (arith, h)) in
    let size = p.size in
    let whole = ap length p.split in
    let both = length-append (items_spelled p.items) p.rest in
    omega (arith, size, whole, both))
    (cases_lt (first_row l ts).items 1)

pub last_short : (l : Layout) (ts : List Token) → (first_row l ts).last ≤ length ts
last_short l ts = ⊎_elim
    (λ (h : (first_row l ts).last < 1). omega (arith, h))
    (λ (h : 1 ≤ (first_row l ts).last).
    let there = some_phrase l ts (inr (omega (arith, h))) in
    let p = last_at l ts (phrase_is l ts there) there (omega (arith, h)) in
    let size = p.size in
    let whole = ap length p.split in
    let both = length-append (spelled p.phrase) (p.closing ∷ p.rest) in
    omega (arith, size, whole, both))
    (cases_lt (first_row l ts).last 1)
