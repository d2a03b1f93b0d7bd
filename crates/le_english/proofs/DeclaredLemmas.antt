-- Templates that are declared one after another have words that a document can have, and different skeletons.
use Rattle.std.proofs.Common.{◌≡◌, ℕ, zero, suc, ◌+◌, ◌-◌, ◌<◌, ◌≤◌, nat_lt, nat_le, Bool, true, false, not, ◌&&◌, ◌||◌, List, [], ◌∷◌, ◌++◌, map, flat_map, length, get_or, drop, All, Option, Some, None, Result, Ok, Err, sym, refl, ap, ◌∙◌, subst, ⊎_elim, arith, append_assoc, length-append}
use Rattle.std.specs.List.{list_all, list_any}
use Rattle.std.specs.Option.{option_map}
use Rattle.std.specs.Str.{bytes_eq}
use Rattle.std.proofs.lemmas.Bool.{cases_Bool, cases_lt, cond-true, cond-false, and_parts, both_ways, not-true, ltb-true, leb-true, false_from_ne_true}
use Rattle.std.proofs.lemmas.List.{get_or_append_left, get_or-append_right}
use Rattle.std.proofs.lemmas.List.Elements.{All-head, All-tail, All-take, All-drop}
use Rattle.std.proofs.lemmas.List.Folds.{list_any_at}
use Rattle.std.proofs.lemmas.Slice.Eq.{bytes_eq-Decides}
use Rattle.unicode_ident.proofs.Computing.{unicode_ident}
use Rattle.le_base.specs.declared.stop.Refusal.{Refusal}
use Rattle.le_layout.specs.declared.span.Span.{Span}
use Rattle.le_layout.specs.Characters.{is_word_character, is_ascii_sign, is_further_sign}
use Rattle.le_layout.specs.Pieces.{joins, goes_on, is_word as is_word_text}
use Rattle.le_layout.specs.Faults.{is_numeral, is_numerals, is_number_like, is_bad_number, is_bad_date}
use Rattle.le_layout.specs.declared.token.Token.{Token}
use Rattle.le_layout.specs.declared.layout.Layout.{Layout}
use Rattle.le_layout.specs.Layout.{IsTokenIn}
use Rattle.le_layout.specs.Words.{text_of, tokens_of, is_word, is_star}
use Rattle.le_layout.specs.Written.{IsWordText, IsWrittenAs}
use Rattle.le_templates.specs.declared.part.Part.{Part}
use Rattle.le_templates.specs.declared.part.Part.TheVariants.{Word, Slot}
use Rattle.le_templates.specs.declared.part.Template.{Template}
use Rattle.le_templates.specs.Form.{Opened, onto_phrase, closed, slot_first, outside, inside, is_phrase, is_template, checked, template_of}
use Rattle.le_templates.specs.Skeletons.{skeleton_part, skeleton, part_key, key_of, same_skeleton}
use Rattle.le_templates.specs.Table.{template, predefined, is_declared, in_use, first_token, declared_at, declaration}
use Rattle.le_templates.proofs.TableLemmas.{length-predefined}
use Rattle.le_match.specs.Readings.{parts_at}
use Rattle.le_english.specs.Sentences.{HasOneOfEach}
use Rattle.le_english.specs.Saying.{HasWords}
use Rattle.le_english.specs.Declarations.{IsDeclaredAfter, AreDeclaredAfter, AreDeclared}
use Rattle.le_english.proofs.AsciiLemmas.{all_small, ascii-word}
use Rattle.le_english.proofs.WordLemmas.{word-kind}

no_template : Template
no_template = template []

-- ---- what a declaration gives

some-eq : {X : Type 0} (a b : X) → Some a ≡ Some b → a ≡ b
some-eq a b e = cc

ok-eq : (t u : Template) → ◌≡◌ {A = Result Template Refusal} (Ok t) (Ok u) → t ≡ u
ok-eq t u e = cc

no_some : {X : Type 0} (a : X) → None ≡ Some a → ⊥
no_some a e = cc

no_ok : (r : Refusal) (t : Template) → ◌≡◌ {A = Result Template Refusal} (Err r) (Ok t) → ⊥
no_ok r t e = cc

-- the parts of a template that is declared, which isn't declared before
record Declares (before : List Template) (layout : Layout) (tokens : Span) (t : Template) : Type 0 where
  parts : outside layout (tokens_of layout tokens) ≡ Some t.parts
  fresh : is_declared before t.parts ≡ false

by_parts : (before : List Template) (first : Token) (ps : List Part) (t : Template) → declared_at before first (Some ps) ≡ Ok t → (ps ≡ t.parts) × (is_declared before t.parts ≡ false)
by_parts before first ps t e =
    ⊎_elim (λ d. absurd (no_ok _ t (sym (cond-true (is_declared before ps) _ _ d) ∙ e)))
    (λ d. let f = sym (cond-false (is_declared before ps) _ _ d) ∙ e in
    ⊎_elim (λ m. absurd (no_ok _ t (sym (cond-true (nat_le 1000 (length before)) _ _ m) ∙ f)))
    (λ m. let same : ps ≡ t.parts = ap (λ (x : Template). x.parts) (ok-eq (template ps) t (sym (cond-false (nat_le 1000 (length before)) _ _ m) ∙ f)) in
    (same, ap (is_declared before) (sym same) ∙ d))
    (cases_Bool (nat_le 1000 (length before))))
    (cases_Bool (is_declared before ps))

by_checked : (before : List Template) (first : Token) (o : Option (List Part)) (t : Template) → declared_at before first (checked o) ≡ Ok t → (o ≡ Some t.parts) × (is_declared before t.parts ≡ false)
by_checked before first None t e = absurd (no_ok _ t e)
by_checked before first (Some ps) t e =
    ⊎_elim (λ h. let both = by_parts before first ps t (sym (ap (declared_at before first) (cond-true (is_template ps) (Some ps) None h)) ∙ e) in (ap Some both.0, both.1))
    (λ h. absurd (no_ok _ t (sym (ap (declared_at before first) (cond-false (is_template ps) (Some ps) None h)) ∙ e)))
    (cases_Bool (is_template ps))

declares : (before : List Template) (layout : Layout) (tokens : Span) (t : Template) → declaration before layout tokens ≡ Ok t → Declares before layout tokens t
unfolding declaration template_of
declares before layout tokens t e =
    let both = by_checked before (first_token layout tokens) (outside layout (tokens_of layout tokens)) t e in
    record { parts = both.0; fresh = both.1 }

-- ---- its words

word-case : (w : List ℕ) (o : Option (List Part)) (parts : List Part) → option_map (λ ps. Word w ∷ ps) o ≡ Some parts → ((ps : List Part) → o ≡ Some ps → HasWords ps) → IsWordText w → HasWords parts
word-case w None parts e more h = absurd (no_some parts e)
word-case w (Some ps) parts e more h = subst HasWords (some-eq (Word w ∷ ps) parts e) (h, more ps refl)

slot-case : (o : Option Opened) (parts : List Part) → slot_first o ≡ Some parts → ((x : Opened) → o ≡ Some x → HasWords x.rest) → HasWords parts
slot-case None parts e more = absurd (no_some parts e)
slot-case (Some x) parts e more =
    ⊎_elim (λ h. subst HasWords (some-eq _ parts (sym (cond-true (is_phrase x.phrase) _ _ h) ∙ e)) (more x refl))
    (λ h. absurd (no_some parts (sym (cond-false (is_phrase x.phrase) _ _ h) ∙ e)))
    (cases_Bool (is_phrase x.phrase))

closed-case : (o : Option (List Part)) (x : Opened) → closed o ≡ Some x → ((ps : List Part) → o ≡ Some ps → HasWords ps) → HasWords x.rest
closed-case None x e more = absurd (no_some x e)
closed-case (Some ps) x e more = subst (λ (y : Opened). HasWords y.rest) (some-eq (record { phrase = []; rest = ps }) x e) (more ps refl)

onto-case : (ws : List (List ℕ)) (o : Option Opened) (x : Opened) → onto_phrase ws o ≡ Some x → ((y : Opened) → o ≡ Some y → HasWords y.rest) → HasWords x.rest
onto-case ws None x e more = absurd (no_some x e)
onto-case ws (Some y) x e more = subst (λ (z : Opened). HasWords z.rest) (some-eq (record { phrase = ws ++ y.phrase; rest = y.rest }) x e) (more y refl)

word-here : (layout : Layout) (t : Token) → IsTokenIn layout.text t → is_word t.kind ≡ true → IsWordText (text_of layout t)
word-here layout t i h = subst (λ k. IsWrittenAs k (text_of layout t)) (word-kind t.kind h) i.written

mutual
  outside-words : (layout : Layout) (ts : List Token) (parts : List Part) → All (IsTokenIn layout.text) ts → outside layout ts ≡ Some parts → HasWords parts
  outside-words layout [] parts a e = subst HasWords (some-eq [] parts e) tt
  outside-words layout (t ∷ ts) parts a e =
      let rest = All-tail (IsTokenIn layout.text) t ts a in
      ⊎_elim (λ h. word-case (text_of layout t) (outside layout ts) parts (sym (cond-true (is_word t.kind) _ _ h) ∙ e) (λ ps f. outside-words layout ts ps rest f) (word-here layout t (All-head (IsTokenIn layout.text) t ts a) h))
      (λ h. let g = sym (cond-false (is_word t.kind) _ _ h) ∙ e in
      ⊎_elim (λ k. slot-case (inside layout ts) parts (sym (cond-true (is_star t.kind) _ _ k) ∙ g) (λ x f. inside-words layout ts x rest f))
      (λ k. absurd (no_some parts (sym (cond-false (is_star t.kind) _ _ k) ∙ g)))
      (cases_Bool (is_star t.kind)))
      (cases_Bool (is_word t.kind))

  inside-words : (layout : Layout) (ts : List Token) (x : Opened) → All (IsTokenIn layout.text) ts → inside layout ts ≡ Some x → HasWords x.rest
  inside-words layout [] x a e = absurd (no_some x e)
  inside-words layout (t ∷ ts) x a e =
      let rest = All-tail (IsTokenIn layout.text) t ts a in
      ⊎_elim (λ h. closed-case (outside layout ts) x (sym (cond-true (is_star t.kind) _ _ h) ∙ e) (λ ps f. outside-words layout ts ps rest f))
      (λ h. let g = sym (cond-false (is_star t.kind) _ _ h) ∙ e in
      ⊎_elim (λ k. onto-case (text_of layout t ∷ []) (inside layout ts) x (sym (cond-true (is_word t.kind) _ _ k) ∙ g) (λ y f. inside-words layout ts y rest f))
      (λ k. absurd (no_some x (sym (cond-false (is_word t.kind) _ _ k) ∙ g)))
      (cases_Bool (is_word t.kind)))
      (cases_Bool (is_star t.kind))

one-words : (before : List Template) (t : Template) → IsDeclaredAfter before t → HasWords t.parts
one-words before t d =
    let all = All-take (IsTokenIn d.layout.text) (d.tokens.to - d.tokens.from) (drop d.tokens.from d.layout.tokens) (All-drop (IsTokenIn d.layout.text) d.tokens.from d.layout.tokens d.valid.tokens) in
    outside-words d.layout (tokens_of d.layout d.tokens) t.parts all (declares before d.layout d.tokens t d.declares).parts

user-words : (before ts : List Template) → AreDeclaredAfter before ts → (k : ℕ) → k < length ts → HasWords (get_or ts k (template [])).parts
user-words before [] d k h = absurd (omega arith)
user-words before (t ∷ ts) d zero h = one-words before t d.0
user-words before (t ∷ ts) d (suc k) h = user-words (before ++ t ∷ []) ts d.1 k (omega arith)

-- ---- the predefined templates

abbrev is_ascii_word : List ℕ → Bool
is_ascii_word w = list_all (λ c. nat_lt c 128) w && (is_word_text w && (not (is_bad_number w) && not (is_bad_date w)))

abbrev has_words : List Part → Bool
has_words [] = true
has_words (Word w ∷ parts) = is_ascii_word w && has_words parts
has_words (Slot s ∷ parts) = has_words parts

small-from : (w : List ℕ) → list_all (λ c. nat_lt c 128) w ≡ true → all_small w
small-from [] h = tt
small-from (c ∷ cs) h = let both = and_parts (nat_lt c 128) (list_all (λ d. nat_lt d 128) cs) h in (ltb-true c 128 both.0, small-from cs both.1)

word-from : (w : List ℕ) → is_ascii_word w ≡ true → IsWordText w
word-from w h =
    let both = and_parts (list_all (λ c. nat_lt c 128) w) (is_word_text w && (not (is_bad_number w) && not (is_bad_date w))) h in
    let two = and_parts (is_word_text w) (not (is_bad_number w) && not (is_bad_date w)) both.1 in
    let three = and_parts (not (is_bad_number w)) (not (is_bad_date w)) two.1 in
    ascii-word w (small-from w both.0) two.0 (not-true _ three.0) (not-true _ three.1)

words-from : (parts : List Part) → has_words parts ≡ true → HasWords parts
words-from [] h = tt
words-from (Word w ∷ parts) h = let both = and_parts (is_ascii_word w) (has_words parts) h in (word-from w both.0, words-from parts both.1)
words-from (Slot s ∷ parts) h = words-from parts h

predefined-words : list_all (λ (t : Template). has_words t.parts) predefined ≡ true
unfolding predefined is_word_character unicode_ident is_ascii_sign is_further_sign goes_on joins is_number_like is_numerals is_numeral is_bad_number is_bad_date
predefined-words = refl

all-words-at : (ts : List Template) (k : ℕ) → k < length ts → list_all (λ (t : Template). has_words t.parts) ts ≡ true → HasWords (get_or ts k (template [])).parts
all-words-at [] k h a = absurd (omega arith)
all-words-at (t ∷ ts) zero h a = words-from t.parts (and_parts (has_words t.parts) (list_all (λ (u : Template). has_words u.parts) ts) a).0
all-words-at (t ∷ ts) (suc k) h a = all-words-at ts k (omega arith) (and_parts (has_words t.parts) (list_all (λ (u : Template). has_words u.parts) ts) a).1

ready-at : (users : List Template) (p : ℕ) → p < 20 → parts_at users p ≡ (get_or predefined p (template [])).parts
ready-at users p h = ap (λ (t : Template). t.parts) (get_or_append_left predefined users (template []) p (omega (arith, h, length-predefined)))

user-at : (users : List Template) (p : ℕ) → 20 ≤ p → parts_at users p ≡ (get_or users (p - 20) (template [])).parts
user-at users p h = ap (λ (t : Template). t.parts) (get_or-append_right predefined users 20 p (template []) length-predefined h)

pub words-at : (users : List Template) → AreDeclared users → (pred : ℕ) → pred < 20 + length users → HasWords (parts_at users pred)
words-at users d pred low =
    ⊎_elim (λ (h : pred < 20). subst HasWords (sym (ready-at users pred h)) (all-words-at predefined pred (omega (arith, h, length-predefined)) predefined-words))
    (λ (h : 20 ≤ pred). subst HasWords (sym (user-at users pred h)) (user-words [] users d (pred - 20) (omega (arith, h, low))))
    (cases_lt pred 20)

-- ---- skeletons

key-is : (parts : List Part) → key_of parts ≡ flat_map part_key (skeleton parts)
unfolding key_of
key-is [] = refl
key-is (p ∷ ps) = ap (λ bs. part_key (skeleton_part p) ++ bs) (key-is ps)

same-skeleton : (a b : List Part) → skeleton a ≡ skeleton b → same_skeleton a b ≡ true
same-skeleton a b e = (bytes_eq-Decides (key_of a) (key_of b)).1 (key-is a ∙ ap (flat_map part_key) e ∙ sym (key-is b))

is-declared : (users : List Template) (k : ℕ) (parts : List Part) → k < length users → skeleton parts ≡ skeleton (get_or users k (template [])).parts → is_declared users parts ≡ true
is-declared users k parts low e = list_any_at (λ (t : Template). same_skeleton parts t.parts) users k (template []) low (same-skeleton parts (get_or users k (template [])).parts e)

-- a template differs from those before it
users-apart : (before ts : List Template) → AreDeclaredAfter before ts → (i j : ℕ) → j < length ts → i < length before + j → skeleton (get_or ts j (template [])).parts ≡ skeleton (get_or (before ++ ts) i (template [])).parts → ⊥
users-apart before [] d i j low high e = omega arith
users-apart before (t ∷ ts) d i zero low high e =
    let h : i < length before = omega (arith, high) in
    both_ways (is_declared before t.parts) (declares before d.0.layout d.0.tokens t d.0.declares).fresh
    (is-declared before i t.parts h (e ∙ ap (λ (u : Template). skeleton u.parts) (get_or_append_left before (t ∷ ts) (template []) i h)))
users-apart before (t ∷ ts) d i (suc j) low high e =
    users-apart (before ++ t ∷ []) ts d.1 i j (omega arith) (omega (arith, high, length-append before (t ∷ [])))
    (e ∙ ap (λ (us : List Template). skeleton (get_or us i (template [])).parts) (sym (append_assoc before (t ∷ []) ts)))

two-users : (users : List Template) → AreDeclared users → (i j : ℕ) → i < length users → j < length users → skeleton (get_or users i (template [])).parts ≡ skeleton (get_or users j (template [])).parts → i ≡ j
two-users users d i j hi hj e =
    ⊎_elim (λ (h : i < j). absurd (users-apart [] users d i j hj (omega (arith, h)) (sym e)))
    (λ (h : j ≤ i). ⊎_elim (λ (k : j < i). absurd (users-apart [] users d j i hi (omega (arith, k)) e)) (λ (k : i ≤ j). omega (arith, h, k)) (cases_lt j i))
    (cases_lt i j)

-- the keys of the predefined templates differ
abbrev keys_apart : List (List ℕ) → Bool
keys_apart [] = true
keys_apart (k ∷ ks) = not (list_any (bytes_eq k) ks) && keys_apart ks

predefined-apart : keys_apart (map (λ (t : Template). key_of t.parts) predefined) ≡ true
unfolding predefined key_of
predefined-apart = refl

abbrev key_at : List Template → ℕ → List ℕ
key_at ts k = key_of (get_or ts k (template [])).parts

key-any : (x : List ℕ) (ts : List Template) (k : ℕ) → k < length ts → x ≡ key_at ts k → list_any (bytes_eq x) (map (λ (t : Template). key_of t.parts) ts) ≡ true
key-any x [] k low e = absurd (omega arith)
key-any x (t ∷ ts) zero low e = ap (λ b. b || list_any (bytes_eq x) (map (λ (u : Template). key_of u.parts) ts)) ((bytes_eq-Decides x (key_of t.parts)).1 e)
key-any x (t ∷ ts) (suc k) low e = second (bytes_eq x (key_of t.parts)) (list_any (bytes_eq x) (map (λ (u : Template). key_of u.parts) ts)) (key-any x ts k (omega arith) e)
  where
    second : (a b : Bool) → b ≡ true → (a || b) ≡ true
    second true b h = refl
    second false b h = h

keys-differ : (ts : List Template) → keys_apart (map (λ (t : Template). key_of t.parts) ts) ≡ true → (i j : ℕ) → i < j → j < length ts → key_at ts i ≡ key_at ts j → ⊥
keys-differ [] a i j h low e = omega arith
keys-differ (t ∷ ts) a zero zero h low e = omega (arith, h)
keys-differ (t ∷ ts) a zero (suc j) h low e =
    let both = and_parts (not (list_any (bytes_eq (key_of t.parts)) (map (λ (u : Template). key_of u.parts) ts))) (keys_apart (map (λ (u : Template). key_of u.parts) ts)) a in
    both_ways (list_any (bytes_eq (key_of t.parts)) (map (λ (u : Template). key_of u.parts) ts)) (not-true _ both.0) (key-any (key_of t.parts) ts j (omega arith) e)
keys-differ (t ∷ ts) a (suc i) zero h low e = omega (arith, h)
keys-differ (t ∷ ts) a (suc i) (suc j) h low e =
    let both = and_parts (not (list_any (bytes_eq (key_of t.parts)) (map (λ (u : Template). key_of u.parts) ts))) (keys_apart (map (λ (u : Template). key_of u.parts) ts)) a in
    keys-differ ts both.1 i j (omega (arith, h)) (omega arith) e

two-ready : (i j : ℕ) → i < 20 → j < 20 → skeleton (get_or predefined i (template [])).parts ≡ skeleton (get_or predefined j (template [])).parts → i ≡ j
two-ready i j hi hj e =
    let same : key_at predefined i ≡ key_at predefined j = key-is _ ∙ ap (flat_map part_key) e ∙ sym (key-is _) in
    ⊎_elim (λ (h : i < j). absurd (keys-differ predefined predefined-apart i j h (omega (arith, hj, length-predefined)) same))
    (λ (h : j ≤ i). ⊎_elim (λ (k : j < i). absurd (keys-differ predefined predefined-apart j i k (omega (arith, hi, length-predefined)) (sym same))) (λ (k : i ≤ j). omega (arith, h, k)) (cases_lt j i))
    (cases_lt i j)

-- a predefined template in use has no user's skeleton
used-fresh : (users : List Template) (p : ℕ) → p < 20 → in_use users p ≡ true → is_declared users (get_or predefined p (template [])).parts ≡ false
used-fresh users p h u =
    let low : nat_le 20 p ≡ false = false_from_ne_true (nat_le 20 p) (λ k. let l : 20 ≤ p = leb-true 20 p k in omega (arith, h, l)) in
    not-true _ (sym (ap (λ b. b || not (is_declared users (get_or predefined p (template [])).parts)) low) ∙ u)

ready-user : (users : List Template) (p q : ℕ) → p < 20 → 20 ≤ q → q < 20 + length users → in_use users p ≡ true → skeleton (parts_at users p) ≡ skeleton (parts_at users q) → ⊥
ready-user users p q hp hq low u e =
    both_ways (is_declared users (get_or predefined p (template [])).parts) (used-fresh users p hp u)
    (is-declared users (q - 20) (get_or predefined p (template [])).parts (omega (arith, hq, low)) (ap skeleton (sym (ready-at users p hp)) ∙ e ∙ ap skeleton (user-at users q hq)))

pub one-of-each : (users : List Template) → AreDeclared users → HasOneOfEach users
one-of-each users d p q lp lq up uq e =
    ⊎_elim (λ (hp : p < 20).
    ⊎_elim (λ (hq : q < 20). two-ready p q hp hq (ap skeleton (sym (ready-at users p hp)) ∙ e ∙ ap skeleton (ready-at users q hq)))
    (λ (hq : 20 ≤ q). absurd (ready-user users p q hp hq lq up e))
    (cases_lt q 20))
    (λ (hp : 20 ≤ p).
    ⊎_elim (λ (hq : q < 20). absurd (ready-user users q p hq hp lp uq (sym e)))
    (λ (hq : 20 ≤ q).
    let same : p - 20 ≡ q - 20 = two-users users d (p - 20) (q - 20) (omega (arith, hp, lp)) (omega (arith, hq, lq)) (ap skeleton (sym (user-at users p hp)) ∙ e ∙ ap skeleton (user-at users q hq)) in
    omega (arith, hp, hq, same))
    (cases_lt q 20))
    (cases_lt p 20)

-- ---- one declaration more

more-after : (before ts : List Template) (t : Template) → AreDeclaredAfter before ts → IsDeclaredAfter (before ++ ts) t → AreDeclaredAfter before (ts ++ t ∷ [])
more-after before [] t d h = (subst (λ (us : List Template). IsDeclaredAfter us t) (nil-append before) h, tt)
  where
    nil-append : (us : List Template) → us ++ [] ≡ us
    nil-append [] = refl
    nil-append (u ∷ us) = ap (λ vs. u ∷ vs) (nil-append us)
more-after before (u ∷ ts) t d h = (d.0, more-after (before ++ u ∷ []) ts t d.1 (subst (λ (us : List Template). IsDeclaredAfter us t) (sym (append_assoc before (u ∷ []) ts)) h))

pub more-declared : (users : List Template) (t : Template) → AreDeclared users → IsDeclaredAfter users t → AreDeclared (users ++ t ∷ [])
more-declared users t d h = more-after [] users t d h
