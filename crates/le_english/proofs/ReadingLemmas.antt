-- A marked sentence has one reading.
use Rattle.std.proofs.Common.{◌≡◌, ◌==◌, ◌⊎◌, ℕ, zero, suc, ◌+◌, ◌<◌, max, nat_lt, Bool, true, false, cond, not, ◌&&◌, ◌||◌, List, [], ◌∷◌, ◌++◌, map, length, take, drop, get_or, Some, None, sym, refl, ap, ap₂, ◌∙◌, inl, inr, ⊎_elim, arith, append_assoc, length-append}
use Rattle.std.specs.Char.{to_ascii_lowercase}
use Rattle.std.specs.List.{list_all}
use Rattle.std.specs.Str.{bytes_eq}
use Rattle.le_templates.specs.Table.{predefined}
use Rattle.le_templates.proofs.TableLemmas.{length-predefined}
use Rattle.std.proofs.lemmas.Bool.{cases_Bool, cond-true, cond-false, and_parts, and_from, eq-eqb, lt-ltb}
use Rattle.std.proofs.lemmas.List.{take-map, length-map, take_at, drop_at}
use Rattle.std.proofs.lemmas.Slice.Eq.{bytes_eq-Decides}
use Rattle.le_layout.specs.declared.token.Kind.TheVariants as kinds
use Rattle.le_layout.specs.declared.token.Token.{Token}
use Rattle.le_layout.specs.declared.layout.Layout.{Layout}
use Rattle.le_layout.specs.Words.{same_word, is_word, is_star, is_this_word}
use Rattle.le_templates.specs.declared.part.Part.{Part}
use Rattle.le_templates.specs.declared.part.Part.TheVariants.{Word, Slot}
use Rattle.le_templates.specs.declared.part.Template.{Template}
use Rattle.le_templates.specs.Skeletons.{skeleton}
use Rattle.le_templates.specs.Table.{template, table_of, in_use}
use Rattle.le_scope.specs.Phrases.{is_phrase}
use Rattle.le_match.specs.declared.readings.Reading.{Reading}
use Rattle.le_match.specs.declared.readings.BestReading.TheVariants as best
use Rattle.le_match.specs.Readings.{until_star, marked_length, marked_cuts, is_marked, ways, readings_by, readings_from, readings_of, parts_at, words_of, best_readings, first_two, best_of}
use Rattle.le_layout.specs.Spellings.{Spelling, spelling_of, spellings}
use Rattle.le_layout.specs.Joined.{Item, closing, plain, spelling_in}
use Rattle.le_english.specs.Phrases.{word_of}
use Rattle.le_english.specs.Sentences.{with_phrase, sentence, IsPhrase, Fills, has_slot, HasOneOfEach}

-- the tokens of a sentence
abbrev pub star : Spelling
star = record { kind = kinds.Star; text = 42 ∷ [] }

abbrev pub with_star : Bool → List Spelling → List Spelling
with_star true ss = star ∷ ss
with_star false ss = ss

abbrev pub said : Bool → List Part → List (List Spelling) → List Spelling
said marked [] phrases = []
said marked (Word w ∷ parts) phrases = word_of w ∷ said marked parts phrases
said marked (Slot s ∷ parts) [] = said marked parts []
said marked (Slot s ∷ parts) (phrase ∷ phrases) = with_star marked (phrase ++ with_star marked (said marked parts phrases))

items-plain : (phrase : List Spelling) (rest : List Item) → map spelling_in (map plain phrase ++ rest) ≡ phrase ++ map spelling_in rest
items-plain [] rest = refl
items-plain (s ∷ ss) rest = ap (λ xs. s ∷ xs) (items-plain ss rest)

items-phrase : (marked : Bool) (phrase : List Spelling) (rest : List Item) → map spelling_in (with_phrase marked phrase rest) ≡ with_star marked (phrase ++ with_star marked (map spelling_in rest))
items-phrase true phrase rest = ap (λ xs. star ∷ xs) (items-plain phrase (closing ∷ rest))
items-phrase false phrase rest = items-plain phrase rest

pub items-sentence : (marked : Bool) (parts : List Part) (phrases : List (List Spelling)) → map spelling_in (sentence marked parts phrases) ≡ said marked parts phrases
items-sentence marked [] phrases = refl
items-sentence marked (Word w ∷ parts) phrases = ap (λ xs. word_of w ∷ xs) (items-sentence marked parts phrases)
items-sentence marked (Slot s ∷ parts) [] = items-sentence marked parts []
items-sentence marked (Slot s ∷ parts) (phrase ∷ phrases) =
    items-phrase marked phrase (sentence marked parts phrases)
    ∙ ap (λ xs. with_star marked (phrase ++ with_star marked xs)) (items-sentence marked parts phrases)

-- tokens that spell a list spell its parts
pub spelled-head : (layout : Layout) (t : Token) (ts : List Token) (s : Spelling) (ss : List Spelling) → spellings layout (t ∷ ts) ≡ s ∷ ss → spelling_of layout t ≡ s
spelled-head layout t ts s ss e = ap (λ xs. get_or xs 0 s) e

pub spelled-tail : (layout : Layout) (t : Token) (ts : List Token) (s : Spelling) (ss : List Spelling) → spellings layout (t ∷ ts) ≡ s ∷ ss → spellings layout ts ≡ ss
spelled-tail layout t ts s ss e = ap (drop 1) e

drop-map : {X Y : Type 0} (f : X → Y) (n : ℕ) (xs : List X) → drop n (map f xs) ≡ map f (drop n xs)
drop-map f zero xs = refl
drop-map f (suc n) [] = refl
drop-map f (suc n) (x ∷ xs) = drop-map f n xs

pub spelled-front : (layout : Layout) (ts : List Token) (front back : List Spelling) → spellings layout ts ≡ front ++ back → spellings layout (take (length front) ts) ≡ front
spelled-front layout ts front back e = sym (take-map (spelling_of layout) (length front) ts) ∙ ap (take (length front)) e ∙ take_at front back (length front) refl

pub spelled-back : (layout : Layout) (ts : List Token) (front back : List Spelling) → spellings layout ts ≡ front ++ back → spellings layout (drop (length front) ts) ≡ back
spelled-back layout ts front back e = sym (drop-map (spelling_of layout) (length front) ts) ∙ ap (drop (length front)) e ∙ drop_at front back (length front) refl

pub spelled-length : (layout : Layout) (ts : List Token) (ss : List Spelling) → spellings layout ts ≡ ss → length ts ≡ length ss
spelled-length layout ts ss e = sym (length-map ts (spelling_of layout)) ∙ ap length e

-- a word, and an asterisk
pub word-here : (layout : Layout) (t : Token) (w v : List ℕ) → spelling_of layout t ≡ word_of w → is_this_word layout v t ≡ same_word w v
word-here layout t w v e = ap (λ (s : Spelling). is_word s.kind && same_word s.text v) e

star-no-word : (layout : Layout) (t : Token) (v : List ℕ) → spelling_of layout t ≡ star → is_this_word layout v t ≡ false
star-no-word layout t v e = ap (λ (s : Spelling). is_word s.kind && same_word s.text v) e

pub same-refl : (xs : List ℕ) → bytes_eq xs xs ≡ true
same-refl [] = refl
same-refl (x ∷ xs) = and_from _ _ (eq-eqb x x refl) (same-refl xs)

-- the marked slot
abbrev plain_of : Token → Bool
plain_of t = not (is_star t.kind)

pub not-true-is : (b : Bool) → not b ≡ true → b ≡ false
not-true-is true h = cc
not-true-is false h = refl

stars-none : (layout : Layout) (ts : List Token) (phrase rest : List Spelling) → spellings layout ts ≡ phrase ++ star ∷ rest → list_all (λ s. not (is_star s.kind)) phrase ≡ true → until_star ts ≡ length phrase
stars-none layout [] [] rest e h = cc
stars-none layout [] (s ∷ ss) rest e h = cc
stars-none layout (t ∷ ts) [] rest e h = cond-true (is_star t.kind) _ _ (ap (λ (s : Spelling). is_star s.kind) (spelled-head layout t ts star rest e))
stars-none layout (t ∷ ts) (s ∷ ss) rest e h =
    let both = and_parts (not (is_star s.kind)) (list_all (λ s. not (is_star s.kind)) ss) h in
    cond-false (is_star t.kind) _ _ (ap (λ (s : Spelling). is_star s.kind) (spelled-head layout t ts s (ss ++ star ∷ rest) e) ∙ not-true-is (is_star s.kind) both.0)
    ∙ omega (arith, stars-none layout ts ss rest (spelled-tail layout t ts s (ss ++ star ∷ rest) e) both.1)

marked-slot : (layout : Layout) (t : Token) (ts : List Token) (phrase rest : List Spelling) → IsPhrase phrase → spellings layout (t ∷ ts) ≡ star ∷ (phrase ++ star ∷ rest) → marked_length layout (t ∷ ts) ≡ Some (length phrase)
marked-slot layout t ts phrase rest p e =
    let tail = spelled-tail layout t ts star (phrase ++ star ∷ rest) e in
    let n = stars-none layout ts phrase rest tail p.no_star in
    let first : is_star t.kind ≡ true = ap (λ (s : Spelling). is_star s.kind) (spelled-head layout t ts star (phrase ++ star ∷ rest) e) in
    let long : length phrase < length ts = omega (arith, spelled-length layout ts (phrase ++ star ∷ rest) tail, length-append phrase (star ∷ rest)) in
    let form : is_phrase layout (take (length phrase) ts) ≡ true = p.form layout (take (length phrase) ts) (spelled-front layout ts phrase (star ∷ rest) tail) in
    ap (λ k. cond (is_star t.kind && (nat_lt k (length ts) && is_phrase layout (take k ts))) (Some k) None) n
    ∙ cond-true _ _ _ (and_from _ _ first (and_from _ _ (lt-ltb (length phrase) (length ts) long) form))

after-slot : (layout : Layout) (t : Token) (ts : List Token) (phrase rest : List Spelling) → spellings layout (t ∷ ts) ≡ star ∷ (phrase ++ star ∷ rest) → spellings layout (drop (length phrase + 2) (t ∷ ts)) ≡ rest
after-slot layout t ts phrase rest e =
    let count : length phrase + 2 ≡ length (star ∷ (phrase ++ star ∷ [])) = omega (arith, length-append phrase (star ∷ [])) in
    ap (λ k. spellings layout (drop k (t ∷ ts))) count
    ∙ spelled-back layout (t ∷ ts) (star ∷ (phrase ++ star ∷ [])) rest (e ∙ ap (λ xs. star ∷ xs) (sym (append_assoc phrase (star ∷ []) rest)))

-- by its own template a marked sentence has one reading
slot-cuts : (layout : Layout) (s : List ℕ) (parts : List Part) (ts : List Token) (n : ℕ) → marked_length layout ts ≡ Some n → marked_cuts layout (Slot s ∷ parts) ts ≡ map (λ ns. n ∷ ns) (marked_cuts layout parts (drop (n + 2) ts))
slot-cuts layout s parts ts n e = ap (λ o. elim o [ Some k ↦ map (λ ns. k ∷ ns) (marked_cuts layout parts (drop (k + 2) ts)) | None ↦ [] ]) e

slot-none : (layout : Layout) (s : List ℕ) (parts : List Part) (ts : List Token) → marked_length layout ts ≡ None → marked_cuts layout (Slot s ∷ parts) ts ≡ []
slot-none layout s parts ts e = ap (λ o. elim o [ Some k ↦ map (λ ns. k ∷ ns) (marked_cuts layout parts (drop (k + 2) ts)) | None ↦ [] ]) e

pub lengths_of : List (List Spelling) → List ℕ
lengths_of phrases = map length phrases

own-cuts : (layout : Layout) (parts : List Part) (phrases : List (List Spelling)) (ts : List Token) → Fills parts phrases → spellings layout ts ≡ said true parts phrases → marked_cuts layout parts ts ≡ map length phrases ∷ []
own-cuts layout [] [] [] f e = refl
own-cuts layout [] [] (t ∷ ts) f e = cc
own-cuts layout [] (phrase ∷ phrases) ts f e = absurd f
own-cuts layout (Word w ∷ parts) phrases [] f e = cc
own-cuts layout (Word w ∷ parts) phrases (t ∷ ts) f e =
    cond-true (is_this_word layout w t) _ _ (word-here layout t w w (spelled-head layout t ts (word_of w) (said true parts phrases) e) ∙ same-refl (map to_ascii_lowercase w))
    ∙ own-cuts layout parts phrases ts f (spelled-tail layout t ts (word_of w) (said true parts phrases) e)
own-cuts layout (Slot s ∷ parts) [] ts f e = absurd f
own-cuts layout (Slot s ∷ parts) (phrase ∷ phrases) [] f e = cc
own-cuts layout (Slot s ∷ parts) (phrase ∷ phrases) (t ∷ ts) f e =
    let rest = said true parts phrases in
    slot-cuts layout s parts (t ∷ ts) (length phrase) (marked-slot layout t ts phrase rest f.0 e)
    ∙ ap (map (λ ns. length phrase ∷ ns)) (own-cuts layout parts phrases (drop (length phrase + 2) (t ∷ ts)) f.1 (after-slot layout t ts phrase rest e))

-- by a template with another skeleton it has none
pub same-words : (w v : List ℕ) → same_word w v ≡ true → map to_ascii_lowercase v ≡ map to_ascii_lowercase w
same-words w v h = sym ((bytes_eq-Decides (map to_ascii_lowercase w) (map to_ascii_lowercase v)).0 h)

other-cuts : (layout : Layout) (others parts : List Part) (phrases : List (List Spelling)) (ts : List Token) → Fills parts phrases → spellings layout ts ≡ said true parts phrases → (marked_cuts layout others ts ≡ []) ⊎ (skeleton others ≡ skeleton parts)
other-cuts layout [] [] [] ts f e = inr refl
other-cuts layout [] [] (phrase ∷ phrases) ts f e = absurd f
other-cuts layout [] (Word w ∷ parts) phrases [] f e = cc
other-cuts layout [] (Word w ∷ parts) phrases (t ∷ ts) f e = inl refl
other-cuts layout [] (Slot s ∷ parts) [] ts f e = absurd f
other-cuts layout [] (Slot s ∷ parts) (phrase ∷ phrases) [] f e = cc
other-cuts layout [] (Slot s ∷ parts) (phrase ∷ phrases) (t ∷ ts) f e = inl refl
other-cuts layout (Word v ∷ others) parts phrases [] f e = inl refl
other-cuts layout (Word v ∷ others) [] [] (t ∷ ts) f e = cc
other-cuts layout (Word v ∷ others) [] (phrase ∷ phrases) (t ∷ ts) f e = absurd f
other-cuts layout (Word v ∷ others) (Word w ∷ parts) phrases (t ∷ ts) f e =
    let here = word-here layout t w v (spelled-head layout t ts (word_of w) (said true parts phrases) e) in
    ⊎_elim (λ k. ⊎_elim (λ none. inl (cond-true (is_this_word layout v t) _ _ (here ∙ k) ∙ none))
    (λ same. inr (ap₂ (λ x xs. Some x ∷ xs) (same-words w v k) same))
    (other-cuts layout others parts phrases ts f (spelled-tail layout t ts (word_of w) (said true parts phrases) e)))
    (λ k. inl (cond-false (is_this_word layout v t) _ _ (here ∙ k)))
    (cases_Bool (same_word w v))
other-cuts layout (Word v ∷ others) (Slot s ∷ parts) [] (t ∷ ts) f e = absurd f
other-cuts layout (Word v ∷ others) (Slot s ∷ parts) (phrase ∷ phrases) (t ∷ ts) f e =
    inl (cond-false (is_this_word layout v t) _ _ (star-no-word layout t v (spelled-head layout t ts star (phrase ++ star ∷ said true parts phrases) e)))
other-cuts layout (Slot r ∷ others) [] [] [] f e = inl refl
other-cuts layout (Slot r ∷ others) [] [] (t ∷ ts) f e = cc
other-cuts layout (Slot r ∷ others) [] (phrase ∷ phrases) ts f e = absurd f
other-cuts layout (Slot r ∷ others) (Word w ∷ parts) phrases [] f e = inl refl
other-cuts layout (Slot r ∷ others) (Word w ∷ parts) phrases (t ∷ ts) f e =
    let kind : is_star t.kind ≡ false = ap (λ (s : Spelling). is_star s.kind) (spelled-head layout t ts (word_of w) (said true parts phrases) e) in
    inl (slot-none layout r others (t ∷ ts) (cond-false _ _ _ (ap (λ b. b && (nat_lt (until_star ts) (length ts) && is_phrase layout (take (until_star ts) ts))) kind)))
other-cuts layout (Slot r ∷ others) (Slot s ∷ parts) [] ts f e = absurd f
other-cuts layout (Slot r ∷ others) (Slot s ∷ parts) (phrase ∷ phrases) [] f e = inl refl
other-cuts layout (Slot r ∷ others) (Slot s ∷ parts) (phrase ∷ phrases) (t ∷ ts) f e =
    let rest = said true parts phrases in
    let here = slot-cuts layout r others (t ∷ ts) (length phrase) (marked-slot layout t ts phrase rest f.0 e) in
    ⊎_elim (λ none. inl (here ∙ ap (map (λ ns. length phrase ∷ ns)) none))
    (λ same. inr (ap (λ xs. None ∷ xs) same))
    (other-cuts layout others parts phrases (drop (length phrase + 2) (t ∷ ts)) f.1 (after-slot layout t ts phrase rest e))

-- so a marked sentence has one reading
or_second : (x y : Bool) → y ≡ true → (x || y) ≡ true
or_second true y h = refl
or_second false y h = h

pub marked-is : (layout : Layout) (parts : List Part) (phrases : List (List Spelling)) (ts : List Token) → Fills parts phrases → has_slot parts ≡ true → spellings layout ts ≡ said true parts phrases → is_marked ts ≡ true
marked-is layout [] phrases ts f h e = cc
marked-is layout (Word w ∷ parts) phrases [] f h e = cc
marked-is layout (Word w ∷ parts) phrases (t ∷ ts) f h e = or_second (is_star t.kind) (is_marked ts) (marked-is layout parts phrases ts f h (spelled-tail layout t ts (word_of w) (said true parts phrases) e))
marked-is layout (Slot s ∷ parts) [] ts f h e = absurd f
marked-is layout (Slot s ∷ parts) (phrase ∷ phrases) [] f h e = cc
marked-is layout (Slot s ∷ parts) (phrase ∷ phrases) (t ∷ ts) f h e =
    ap (λ b. b || is_marked ts) (ap (λ (s : Spelling). is_star s.kind) (spelled-head layout t ts star (phrase ++ star ∷ said true parts phrases) e))

marked-ways : (layout : Layout) (parts : List Part) (ts : List Token) → is_marked ts ≡ true → ways layout parts ts ≡ marked_cuts layout parts ts
marked-ways layout parts ts h = cond-true (is_marked ts) _ _ h

abbrev pub parts_of : List Template → ℕ → List Part
parts_of templates k = (get_or templates k (template [])).parts

none-first : (users : List Template) (n : ℕ) (found : List (List ℕ)) → (in_use users n ≡ true → found ≡ []) → cond (in_use users n) (readings_by n found) [] ≡ []
none-first users n found h =
    ⊎_elim (λ u. cond-true (in_use users n) _ _ u ∙ ap (readings_by n) (h u)) (λ u. cond-false (in_use users n) _ _ u) (cases_Bool (in_use users n))

none-from : (users : List Template) (layout : Layout) (ts : List Token) (n : ℕ) (templates : List Template) → ((k : ℕ) → k < length templates → in_use users (n + k) ≡ true → ways layout (parts_of templates k) ts ≡ []) → readings_from users layout ts n templates ≡ []
none-from users layout ts n [] h = refl
none-from users layout ts n (t ∷ templates) h =
    ap₂ (λ xs ys. xs ++ ys)
    (none-first users n (ways layout t.parts ts) (λ u. let z : n + 0 ≡ n = omega arith in h 0 (omega arith) (ap (in_use users) z ∙ u)))
    (none-from users layout ts (n + 1) templates (λ k l u. let z : n + suc k ≡ n + 1 + k = omega arith in h (suc k) (omega arith) (ap (in_use users) z ∙ u)))

one-from : (users : List Template) (layout : Layout) (ts : List Token) (n k : ℕ) (templates : List Template) (lengths : List ℕ) → k < length templates → in_use users (n + k) ≡ true → ways layout (parts_of templates k) ts ≡ lengths ∷ [] → ((j : ℕ) → j < length templates → (j ≡ k → ⊥) → in_use users (n + j) ≡ true → ways layout (parts_of templates j) ts ≡ []) → readings_from users layout ts n templates ≡ record { pred = n + k; lengths = lengths } ∷ []
one-from users layout ts n k [] lengths l u own others = absurd (omega arith)
one-from users layout ts n zero (t ∷ templates) lengths l u own others =
    let z : n + 0 ≡ n = omega arith in
    let none = none-from users layout ts (n + 1) templates (λ k m v. let y : n + suc k ≡ n + 1 + k = omega arith in others (suc k) (omega arith) (λ (e : suc k ≡ 0). omega arith) (ap (in_use users) y ∙ v)) in
    ap₂ (λ xs ys. xs ++ ys) (cond-true (in_use users n) _ _ (ap (in_use users) (sym z) ∙ u) ∙ ap (readings_by n) own) none
    ∙ ap (λ p. record { pred = p; lengths = lengths } ∷ []) (sym z)
one-from users layout ts n (suc k) (t ∷ templates) lengths l u own others =
    let z : n + 0 ≡ n = omega arith in
    let y : n + suc k ≡ n + 1 + k = omega arith in
    ap₂ (λ xs ys. xs ++ ys)
    (none-first users n (ways layout t.parts ts) (λ v. others 0 (omega arith) (λ (e : 0 ≡ suc k). omega arith) (ap (in_use users) z ∙ v)))
    (one-from users layout ts (n + 1) k templates lengths (omega arith) (ap (in_use users) (sym y) ∙ u) own
    (λ j m ne v. let x : n + suc j ≡ n + 1 + j = omega arith in others (suc j) (omega arith) (λ (e : suc j ≡ suc k). ne (omega arith)) (ap (in_use users) x ∙ v)))
    ∙ ap (λ p. record { pred = p; lengths = lengths } ∷ []) (sym y)

pub table-length : (users : List Template) → length (table_of users) ≡ 20 + length users
table-length users = length-append predefined users ∙ ap (λ n. n + length users) length-predefined

pub readings-is : (users : List Template) (layout : Layout) (ts : List Token) → readings_of users layout ts ≡ readings_from users layout ts 0 (table_of users)
unfolding readings_of
readings-is users layout ts = refl

pub one-reading : (users : List Template) (pred : ℕ) (phrases : List (List Spelling)) (layout : Layout) (ts : List Token) → HasOneOfEach users → pred < 20 + length users → in_use users pred ≡ true → has_slot (parts_at users pred) ≡ true → Fills (parts_at users pred) phrases → spellings layout ts ≡ said true (parts_at users pred) phrases → readings_of users layout ts ≡ record { pred = pred; lengths = map length phrases } ∷ []
one-reading users pred phrases layout ts each low used slot f e =
    let mark = marked-is layout (parts_at users pred) phrases ts f slot e in
    let own = marked-ways layout (parts_at users pred) ts mark ∙ own-cuts layout (parts_at users pred) phrases ts f e in
    readings-is users layout ts
    ∙ one-from users layout ts 0 pred (table_of users) (map length phrases) (omega (arith, table-length users)) (ap (in_use users) (zero-plus pred) ∙ used) own
    (λ j l ne u. marked-ways layout (parts_at users j) ts mark
    ∙ ⊎_elim (λ none. none) (λ same. absurd (ne (each j pred (omega (arith, table-length users)) low (ap (in_use users) (sym (zero-plus j)) ∙ u) used same)))
    (other-cuts layout (parts_at users j) (parts_at users pred) phrases ts f e))
    ∙ ap (λ p. record { pred = p; lengths = map length phrases } ∷ []) (zero-plus pred)
  where
    zero-plus : (n : ℕ) → 0 + n ≡ n
    zero-plus n = omega arith

best-of-one : (users : List Template) (r : Reading) → best_readings users (r ∷ []) ≡ r ∷ []
best-of-one users r =
    let m : words_of users r ≡ max (words_of users r) 0 = omega arith in
    cond-true (words_of users r == max (words_of users r) 0) _ _ (eq-eqb (words_of users r) (max (words_of users r) 0) m)

pub best-is : (users : List Template) (layout : Layout) (ts : List Token) (r : Reading) → readings_of users layout ts ≡ r ∷ [] → best_of users layout ts ≡ best.One r
unfolding best_of
best-is users layout ts r e = ap (λ rs. first_two (best_readings users rs)) e ∙ ap first_two (best-of-one users r)

pub one_reading : (users : List Template) (pred : ℕ) (phrases : List (List Spelling)) (layout : Layout) (ts : List Token) → HasOneOfEach users → pred < 20 + length users → in_use users pred ≡ true → has_slot (parts_at users pred) ≡ true → Fills (parts_at users pred) phrases → spellings layout ts ≡ map spelling_in (sentence true (parts_at users pred) phrases) → best_of users layout ts ≡ best.One (record { pred = pred; lengths = map length phrases })
one_reading users pred phrases layout ts each low used slot f e =
    best-is users layout ts _ (one-reading users pred phrases layout ts each low used slot f (e ∙ items-sentence true (parts_at users pred) phrases))
