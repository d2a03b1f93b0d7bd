-- What is written of a sentence, item by item.
use Rattle.std.proofs.Common.{◌≡◌, ℕ, ◌+◌, ◌-◌, ◌^◌, ◌<◌, ◌≤◌, min, Bool, true, false, cond, ◌||◌, List, [], ◌∷◌, ◌++◌, length, map, flat_map, sym, refl, ap, ap₂, ◌∙◌, ⊎_elim, arith, append_assoc, append-nil, Some, None, Result, Ok, Err, OnOk}
use Rattle.std.proofs.lemmas.Bool.{and_parts}
use Rattle.std.proofs.lemmas.List.{length-map, map-append}
use Rattle.le_layout.specs.Spellings.{Spelling, spellings}
use Rattle.le_layout.specs.Joined.{Item, opening, closing, plain, gap, item_text, glues, joined_from, joined}
use Rattle.le_layout.specs.Words.{is_word}
use Rattle.le_templates.specs.declared.part.Template.{Template}
use Rattle.le_scope.specs.declared.phrase.PhraseForm.TheVariants as forms
use Rattle.le_english.specs.declared.line.Line.{Line}
use Rattle.le_terms.specs.Tree.{Tree}
use Rattle.le_english.specs.Phrases.{scanned, is_plain_name, name_phrase, quoted, phrase_of, term_text}
use Rattle.le_english.specs.Sentences.{with_phrase}
use Rattle.le_english.specs.Lines.{with_item, with_items, with_tokens, empty_line, capped}
use Rattle.le_english.proofs.Forms.{name_of}
use Rattle.le_english.proofs.WordLemmas.{all_words, word-kind, form-words, form-some}
use Rattle.le_english.proofs.NameLemmas.{IsPlain, plain-is, scanned-is, name-plain, name-quoted}

pub with_items-append : (line : Line) (xs ys : List Item) → with_items line (xs ++ ys) ≡ with_items (with_items line xs) ys
with_items-append line [] ys = refl
with_items-append line (x ∷ xs) ys = with_items-append (with_item line x) xs ys

pub with_tokens-append : (line : Line) (xs ys : List Spelling) → with_tokens line (xs ++ ys) ≡ with_tokens (with_tokens line xs) ys
with_tokens-append line xs ys = ap (with_items line) (map-append plain xs ys) ∙ with_items-append line (map plain xs) (map plain ys)

-- the text is that of the joined items
pub with_items-text : (line : Line) (xs : List Item) → (with_items line xs).text ≡ line.text ++ joined_from line.glued xs
with_items-text line [] = sym (append-nil line.text)
with_items-text line (x ∷ xs) =
    with_items-text (with_item line x) xs
    ∙ append_assoc line.text (gap line.glued x ++ item_text x) (joined_from (glues x) xs)
    ∙ ap (λ t. line.text ++ t) (append_assoc (gap line.glued x) (item_text x) (joined_from (glues x) xs))

-- and the count has no part in it
pub with_items-same : (a b : Line) (xs : List Item) → a.text ≡ b.text → a.glued ≡ b.glued → (with_items a xs).text ≡ (with_items b xs).text
with_items-same a b xs t g = with_items-text a xs ∙ ap₂ (λ s h. s ++ joined_from h xs) t g ∙ sym (with_items-text b xs)

pub with_items-glued : (a b : Line) (xs : List Item) → a.glued ≡ b.glued → (with_items a xs).glued ≡ (with_items b xs).glued
with_items-glued a b [] g = g
with_items-glued a b (x ∷ xs) g = with_items-glued (with_item a x) (with_item b x) xs refl

-- the count rises by one for each item
pub with_items-tokens : (line : Line) (xs : List Item) → line.tokens ≤ 2 ^ 64 - 1 → (with_items line xs).tokens ≡ min (line.tokens + length xs) (2 ^ 64 - 1)
with_items-tokens line [] h = omega arith
with_items-tokens line (x ∷ xs) h =
    let more : (with_item line x).tokens ≤ 2 ^ 64 - 1 = omega arith in
    with_items-tokens (with_item line x) xs more ∙ omega arith

-- ---- a name that is printed as it is

-- the text of a name after those before
words-text : (ss : List Spelling) → all_words ss ≡ true → joined_from false (map plain ss) ≡ flat_map (λ v. 32 ∷ v) (map (λ (s : Spelling). s.text) ss)
words-text [] h = refl
words-text (s ∷ ss) h =
    let both = and_parts (is_word s.kind) (all_words ss) h in
    ap (λ k. joined_from false (plain (record { kind = k; text = s.text }) ∷ map plain ss)) (word-kind s.kind both.0)
    ∙ ap (λ t. 32 ∷ (s.text ++ t)) (words-text ss both.1)

first-text : (g : Bool) (s : Spelling) (ss : List Spelling) → all_words (s ∷ ss) ≡ true → joined_from g (map plain (s ∷ ss)) ≡ cond g [] (32 ∷ []) ++ (s.text ++ flat_map (λ v. 32 ∷ v) (map (λ (s : Spelling). s.text) ss))
first-text g s ss h =
    let both = and_parts (is_word s.kind) (all_words ss) h in
    ap (λ k. joined_from g (plain (record { kind = k; text = s.text }) ∷ map plain ss)) (word-kind s.kind both.0)
    ∙ ap (λ t. cond (g || false) [] (32 ∷ []) ++ (s.text ++ t)) (words-text ss both.1)
    ∙ ap (λ b. cond b [] (32 ∷ []) ++ (s.text ++ flat_map (λ v. 32 ∷ v) (map (λ (s : Spelling). s.text) ss))) (or_false g)
  where
    or_false : (b : Bool) → (b || false) ≡ b
    or_false true = refl
    or_false false = refl

pub name-text : (g : Bool) (ss : List Spelling) → all_words ss ≡ true → 0 < length ss → joined_from g (map plain ss) ≡ cond g [] (32 ∷ []) ++ name_of ss
unfolding name_of
name-text g [] h n = absurd (omega arith)
name-text g (s ∷ ss) h n = first-text g s ss h

words-glued : (line : Line) (ss : List Spelling) → all_words ss ≡ true → line.glued ≡ false → (with_tokens line ss).glued ≡ false
words-glued line [] h g = g
words-glued line (s ∷ ss) h g =
    let both = and_parts (is_word s.kind) (all_words ss) h in
    words-glued (with_item line (plain s)) ss both.1 (ap (λ k. glues (plain (record { kind = k; text = s.text }))) (word-kind s.kind both.0))

pub name-glued : (line : Line) (ss : List Spelling) → all_words ss ≡ true → 0 < length ss → (with_tokens line ss).glued ≡ false
name-glued line [] h n = absurd (omega arith)
name-glued line (s ∷ ss) h n =
    let both = and_parts (is_word s.kind) (all_words ss) h in
    words-glued (with_item line (plain s)) ss both.1 (ap (λ k. glues (plain (record { kind = k; text = s.text }))) (word-kind s.kind both.0))

-- the tokens of a plain name are words, at least one
pub record HasWordsOnly (ss : List Spelling) : Type 0 where
  pub words : all_words ss ≡ true
  pub some : 0 < length ss

pub plain-words : (users : List Template) (name : List ℕ) (p : IsPlain users name) → HasWordsOnly (spellings p.layout p.layout.tokens)
plain-words users name p =
    let ss = spellings p.layout p.layout.tokens in
    ⊎_elim (λ c. record { words = form-words ss forms.Constant c (λ e. cc); some = form-some ss forms.Constant c })
    (λ t. record { words = form-words ss forms.The t.form (λ e. cc); some = form-some ss forms.The t.form })
    p.form

line-of-words : (line : Line) (name : List ℕ) (ss : List Spelling) → HasWordsOnly ss → name_of ss ≡ name → line.tokens ≤ 2 ^ 64 - 1 → (cond line.glued [] (32 ∷ []) ++ name ≡ joined_from line.glued (map plain ss)) × (false ≡ (with_tokens line ss).glued) × (min (line.tokens + length ss) (2 ^ 64 - 1) ≡ (with_tokens line ss).tokens)
line-of-words line name ss w e h = (
  ap (λ t. cond line.glued [] (32 ∷ []) ++ t) (sym e) ∙ sym (name-text line.glued ss w.words w.some),
  sym (name-glued line ss w.words w.some),
  ap (λ n. min (line.tokens + n) (2 ^ 64 - 1)) (sym (length-map ss plain)) ∙ sym (with_items-tokens line (map plain ss) h),
)

-- a line of these parts
abbrev line_of : List ℕ → Bool → ℕ → Line
line_of t g n = record { text = t; glued = g; tokens = n }

pub plain-line : (users : List Template) (name : List ℕ) (line : Line) → is_plain_name users name ≡ true → line.tokens ≤ 2 ^ 64 - 1 → record { text = line.text ++ (cond line.glued [] (32 ∷ []) ++ name); glued = false; tokens = min (line.tokens + length (scanned name)) (2 ^ 64 - 1) } ≡ with_tokens line (name_phrase users name)
plain-line users name line h low =
    let p = plain-is users name h in
    let ss = spellings p.layout p.layout.tokens in
    let is = scanned-is users name p in
    let parts = line-of-words line name ss (plain-words users name p) p.said low in
    ap₂ (λ t n. line_of t false n) (ap (λ t. line.text ++ t) parts.0 ∙ sym (with_items-text line (map plain ss))) (ap (λ xs. min (line.tokens + length xs) (2 ^ 64 - 1)) is ∙ parts.2)
    ∙ ap (λ g. line_of (with_tokens line ss).text g (with_tokens line ss).tokens) parts.1
    ∙ ap (with_tokens line) (sym (name-plain users name h ∙ is))

pub quoted-line : (users : List Template) (name : List ℕ) (line : Line) → is_plain_name users name ≡ false → with_item line (plain (quoted name)) ≡ with_tokens line (name_phrase users name)
quoted-line users name line h = ap (with_tokens line) (sym (name-quoted users name h))

-- ---- by the answers of calls

pub some-plain : (b : Bool) (m n : ℕ) → cond b (Some m) None ≡ Some n → (b ≡ true) × (m ≡ n)
some-plain true m n e = (refl, cc)
some-plain false m n e = absurd (cc)

pub none-quoted : (b : Bool) (m : ℕ) → cond b (Some m) None ≡ None → b ≡ false
none-quoted true m e = absurd (cc)
none-quoted false m e = refl

pub ok-same : {X E : Type 0} (r : Result X E) (P Q : Type 0) → (P → Q) → OnOk r P → OnOk r Q
ok-same (Ok x) P Q f h = f h
ok-same (Err e) P Q f h = h

-- a last tail, item by item
pub last-line : (old first mid new : Line) (b c : Spelling) (ss : List Spelling) → first ≡ with_item old (plain b) → mid ≡ with_tokens first ss → new ≡ with_item mid (plain c) → new ≡ with_tokens old (b ∷ (ss ++ c ∷ []))
last-line old first mid new b c ss e f g =
    g ∙ ap (λ l. with_item l (plain c)) (f ∙ ap (λ l. with_tokens l ss) e) ∙ sym (with_tokens-append (with_item old (plain b)) ss (c ∷ []))

-- ---- whole lines

-- the text of a line that was empty before
pub whole-text : (line : Line) (xs : List Item) → line ≡ empty_line → (with_items line xs).text ≡ joined xs
unfolding joined
whole-text line xs e = ap (λ l. (with_items l xs).text) e ∙ with_items-text empty_line xs

pub phrase-text : (users : List Template) (names : List (List ℕ)) (tree : Tree) (line new : Line) → line ≡ empty_line → new ≡ with_tokens line (phrase_of users names [] tree) → new.text ≡ term_text users names tree
unfolding term_text
phrase-text users names tree line new e f = ap (λ (l : Line). l.text) f ∙ whole-text line (map plain (phrase_of users names [] tree)) e

-- ---- slots

-- the count begins anew
abbrev uncounted : Line → Line
uncounted line = record { text = line.text; glued = line.glued; tokens = 0 }

pub slot-plain : (marked : Bool) (line new : Line) (phrase : List Spelling) (rest : List Item) → marked ≡ false → new ≡ with_tokens (uncounted line) phrase → (with_items new rest).text ≡ (with_items line (with_phrase marked phrase rest)).text
slot-plain marked line new phrase rest m e =
    ap (λ l. (with_items l rest).text) e
    ∙ ap (λ (l : Line). l.text) (sym (with_items-append (uncounted line) (map plain phrase) rest))
    ∙ with_items-same (uncounted line) line (map plain phrase ++ rest) refl refl
    ∙ ap (λ b. (with_items line (with_phrase b phrase rest)).text) (sym m)

pub slot-marked : (marked : Bool) (line first mid new : Line) (phrase : List Spelling) (rest : List Item) → marked ≡ true → first ≡ with_item line opening → mid ≡ with_tokens (uncounted first) phrase → new ≡ with_item mid closing → (with_items new rest).text ≡ (with_items line (with_phrase marked phrase rest)).text
slot-marked marked line first mid new phrase rest m e f g =
    ap (λ l. (with_items l rest).text) g
    ∙ ap (λ l. (with_items l (closing ∷ rest)).text) f
    ∙ ap (λ (l : Line). l.text) (sym (with_items-append (uncounted first) (map plain phrase) (closing ∷ rest)))
    ∙ with_items-same (uncounted first) first (map plain phrase ++ closing ∷ rest) refl refl
    ∙ ap (λ l. (with_items l (map plain phrase ++ closing ∷ rest)).text) e
    ∙ ap (λ b. (with_items line (with_phrase b phrase rest)).text) (sym m)

pub phrase-count : (line new : Line) (phrase : List Spelling) → new ≡ with_tokens (uncounted line) phrase → new.tokens ≡ capped (length phrase)
phrase-count line new phrase e =
    let low : (uncounted line).tokens ≤ 2 ^ 64 - 1 = omega arith in
    ap (λ (l : Line). l.tokens) e ∙ with_items-tokens (uncounted line) (map plain phrase) low ∙ ap (λ n. min n (2 ^ 64 - 1)) (zero-plus (length (map plain phrase)) ∙ length-map phrase plain)
  where
    zero-plus : (n : ℕ) → 0 + n ≡ n
    zero-plus n = omega arith
