-- The steps of the walks over tokens and parts.
use Rattle.std.proofs.Common.{◌≡◌, ℕ, suc, ◌+◌, ◌-◌, ◌<◌, ◌≤◌, Bool, true, false, cond, ◌&&◌, List, [], ◌∷◌, ◌++◌, length, map, flat_map, get_or, take, drop, slice_range, Option, None, Some, sym, refl, ap, ◌∙◌, arith, nat_le, append_assoc, Bor, zero}
use Rattle.std.specs.Option.{option_map}
use Rattle.std.proofs.lemmas.List.{drop_all, drop_more, length-drop, length-take, append-nil, length-map, map-append, drop-drop}
use Rattle.le_layout.specs.declared.token.Token.{Token}
use Rattle.le_layout.specs.declared.layout.Layout.{Layout}
use Rattle.le_templates.specs.declared.part.Part.{Part}
use Rattle.le_templates.specs.declared.part.Part.TheVariants.{Word, Slot}
use Rattle.le_layout.specs.Layout.{no_token}
use Rattle.le_layout.specs.Words.{text_of, is_word, is_star, spaced}
use Rattle.le_layout.proofs.SpanLemmas.{slice_more, slice_none}
use Rattle.le_templates.specs.Form.{is_phrase, Opened, onto_phrase, closed, slot_first, outside, inside, is_spelled, begins_with}

-- the first items and the next one
take_push : {X : Type 0} (xs ys : List X) (n : ℕ) (x : X) → drop n xs ≡ x ∷ ys → take (suc n) xs ≡ take n xs ++ x ∷ []
take_push (a ∷ xs) ys zero x e = let same : a ≡ x = cc in ap (λ z. z ∷ []) same
take_push [] ys zero x e = absurd (let n : [] ≡ x ∷ ys = e in cc)
take_push [] ys (suc n) x e = absurd (let k : [] ≡ x ∷ ys = e in cc)
take_push (a ∷ xs) ys (suc n) x e = ap (λ zs. a ∷ zs) (take_push xs ys n x e)

pub slice_push : {X : Type 0} (xs : List X) (from at : ℕ) (d : X) → from ≤ at → at < length xs → slice_range xs from (at + 1) ≡ slice_range xs from at ++ get_or xs at d ∷ []
slice_push xs from at d low high =
    let e : at + 1 - from ≡ suc (at - from) = omega arith in
    let k : from + (at - from) ≡ at = omega arith in
    ap (λ n. take n (drop from xs)) e
    ∙ take_push (drop from xs) (drop (at + 1) xs) (at - from) (get_or xs at d)
    (drop-drop (at - from) from xs ∙ ap (λ n. drop n xs) k ∙ drop_more xs at d high)

-- ---- the words of a phrase

abbrev pub texts : Layout → ℕ → ℕ → List (List ℕ)
texts l from to = map (text_of l) (slice_range l.tokens from to)

abbrev pub text_at : Layout → ℕ → List ℕ
text_at l at = text_of l (get_or l.tokens at no_token)

-- ---- within a slot

inside_at : (l : Layout) (at to : ℕ) → at < to → to ≤ length l.tokens → inside l (slice_range l.tokens at to) ≡ inside l (get_or l.tokens at no_token ∷ slice_range l.tokens (at + 1) to)
inside_at l at to low high = ap (inside l) (slice_more l.tokens at to no_token low high)

outside_at : (l : Layout) (at to : ℕ) → at < to → to ≤ length l.tokens → outside l (slice_range l.tokens at to) ≡ outside l (get_or l.tokens at no_token ∷ slice_range l.tokens (at + 1) to)
outside_at l at to low high = ap (outside l) (slice_more l.tokens at to no_token low high)

onto_onto : (ws vs : List (List ℕ)) (o : Option Opened) → onto_phrase ws (onto_phrase vs o) ≡ onto_phrase (ws ++ vs) o
onto_onto ws vs None = refl
onto_onto ws vs (Some o) = ap (λ p. Some (record { phrase = p; rest = o.rest })) (sym (append_assoc ws vs o.phrase))

onto_none : (o : Option Opened) → onto_phrase [] o ≡ o
onto_none None = refl
onto_none (Some o) = refl

abbrev pub Inside : Layout → ℕ → ℕ → ℕ → Type 0
Inside l from at to = inside l (slice_range l.tokens from to) ≡ onto_phrase (texts l from at) (inside l (slice_range l.tokens at to))

pub inside_first : (l : Layout) (from to : ℕ) → Inside l from from to
inside_first l from to =
    sym (onto_none (inside l (slice_range l.tokens from to)))
    ∙ sym (ap (λ ts. onto_phrase (map (text_of l) ts) (inside l (slice_range l.tokens from to))) (slice_none l.tokens from from (omega arith)))

abbrev word_or_none : Layout → Token → List Token → Bool → Option Opened
word_or_none l t ts b = cond b (onto_phrase (text_of l t ∷ []) (inside l ts)) None

star_kind : (l : Layout) (t : Token) (ts : List Token) (star word : Bool) → is_star t.kind ≡ star → is_word t.kind ≡ word → inside l (t ∷ ts) ≡ cond star (closed (outside l ts)) (word_or_none l t ts word)
star_kind l t ts star word e f =
    ap (λ c. cond c (closed (outside l ts)) (word_or_none l t ts (is_word t.kind))) e
    ∙ ap (λ c. cond star (closed (outside l ts)) (word_or_none l t ts c)) f

pub inside_word : (l : Layout) (from at to : ℕ) → from ≤ at → at < to → to ≤ length l.tokens → is_star (get_or l.tokens at no_token).kind ≡ false → is_word (get_or l.tokens at no_token).kind ≡ true → Inside l from at to → Inside l from (at + 1) to
inside_word l from at to before low high star word h =
    h ∙ ap (onto_phrase (texts l from at)) (inside_at l at to low high ∙ star_kind l (get_or l.tokens at no_token) (slice_range l.tokens (at + 1) to) false true star word)
    ∙ onto_onto (texts l from at) (text_at l at ∷ []) (inside l (slice_range l.tokens (at + 1) to))
    ∙ sym (ap (λ ws. onto_phrase ws (inside l (slice_range l.tokens (at + 1) to)))
    (ap (map (text_of l)) (slice_push l.tokens from at no_token before (omega arith)) ∙ map-append (text_of l) (slice_range l.tokens from at) (get_or l.tokens at no_token ∷ [])))

onto_nothing : (ws : List (List ℕ)) (o : Option Opened) → o ≡ None → slot_first (onto_phrase ws o) ≡ None
onto_nothing ws o e = ap (λ p. slot_first (onto_phrase ws p)) e

-- a token that is no word and no asterisk, or the end
pub inside_other : (l : Layout) (from at to : ℕ) → at < to → to ≤ length l.tokens → is_star (get_or l.tokens at no_token).kind ≡ false → is_word (get_or l.tokens at no_token).kind ≡ false → Inside l from at to → slot_first (inside l (slice_range l.tokens from to)) ≡ None
inside_other l from at to low high star word h =
    ap slot_first h ∙ onto_nothing (texts l from at) (inside l (slice_range l.tokens at to)) (inside_at l at to low high ∙ star_kind l (get_or l.tokens at no_token) (slice_range l.tokens (at + 1) to) false false star word)

pub inside_end : (l : Layout) (from at to : ℕ) → to ≤ at → Inside l from at to → slot_first (inside l (slice_range l.tokens from to)) ≡ None
inside_end l from at to ended h =
    ap slot_first h ∙ onto_nothing (texts l from at) (inside l (slice_range l.tokens at to)) (ap (inside l) (slice_none l.tokens at to ended))

-- the closing asterisk
closed_slot : (ws : List (List ℕ)) (o : Option (List Part)) (b : Bool) → is_phrase ws ≡ b → slot_first (onto_phrase ws (closed o)) ≡ cond b (option_map (λ parts. Slot (spaced ws) ∷ parts) o) None
closed_slot ws None true e = refl
closed_slot ws None false e = refl
closed_slot ws (Some parts) b e =
    ap (λ vs. cond (is_phrase vs) (Some (Slot (spaced vs) ∷ parts)) None) (append-nil ws)
    ∙ ap (λ c. cond c (Some (Slot (spaced ws) ∷ parts)) None) e
    ∙ chosen b
  where
    chosen : (c : Bool) → cond c (Some (Slot (spaced ws) ∷ parts)) None ≡ cond c (option_map (λ ps. Slot (spaced ws) ∷ ps) (Some parts)) None
    chosen true = refl
    chosen false = refl

pub texts_count : (l : Layout) (from to : ℕ) → to ≤ length l.tokens → length (texts l from to) ≡ to - from
texts_count l from to high = length-map (slice_range l.tokens from to) (text_of l) ∙ omega (arith, length-take (to - from) (drop from l.tokens), length-drop from l.tokens)

pub inside_star : (l : Layout) (from at to : ℕ) (b : Bool) → at < to → to ≤ length l.tokens → is_star (get_or l.tokens at no_token).kind ≡ true → b ≡ (nat_le 1 (at - from) && nat_le (at - from) 12) → Inside l from at to
    → slot_first (inside l (slice_range l.tokens from to)) ≡ cond b (option_map (λ parts. Slot (spaced (texts l from at)) ∷ parts) (outside l (slice_range l.tokens (at + 1) to))) None
inside_star l from at to b low high star fits h =
    ap slot_first h
    ∙ ap (λ o. slot_first (onto_phrase (texts l from at) o)) (inside_at l at to low high ∙ star_kind l (get_or l.tokens at no_token) (slice_range l.tokens (at + 1) to) true _ star refl)
    ∙ closed_slot (texts l from at) (outside l (slice_range l.tokens (at + 1) to)) b
    (ap (λ n. nat_le 1 n && nat_le n 12) (texts_count l from at (omega arith)) ∙ sym fits)

pub chosen_true : {X : Type 0} (b : Bool) (x y z : X) → z ≡ cond b x y → b ≡ true → z ≡ x
chosen_true b x y z e h = e ∙ ap (λ c. cond c x y) h

pub chosen_false : {X : Type 0} (b : Bool) (x y z : X) → z ≡ cond b x y → b ≡ false → z ≡ y
chosen_false b x y z e h = e ∙ ap (λ c. cond c x y) h

-- ---- outside slots

-- the parts that are found in the end, with those found so far
abbrev pub walked : Layout → List Part → ℕ → ℕ → Option (List Part)
walked l parts at to = option_map (λ more. parts ++ more) (outside l (slice_range l.tokens at to))

part_pushed : (parts : List Part) (part : Part) (o : Option (List Part)) → option_map (λ more. parts ++ more) (option_map (λ more. part ∷ more) o) ≡ option_map (λ more. (parts ++ part ∷ []) ++ more) o
part_pushed parts part None = refl
part_pushed parts part (Some more) = ap Some (sym (append_assoc parts (part ∷ []) more))

abbrev slot_or_none : Layout → Token → List Token → Bool → Option (List Part)
slot_or_none l t ts b = cond b (slot_first (inside l ts)) None

outside_kind : (l : Layout) (t : Token) (ts : List Token) (word star : Bool) → is_word t.kind ≡ word → is_star t.kind ≡ star → outside l (t ∷ ts) ≡ cond word (option_map (λ parts. Word (text_of l t) ∷ parts) (outside l ts)) (slot_or_none l t ts star)
outside_kind l t ts word star e f =
    ap (λ c. cond c (option_map (λ parts. Word (text_of l t) ∷ parts) (outside l ts)) (slot_or_none l t ts (is_star t.kind))) e
    ∙ ap (λ c. cond word (option_map (λ parts. Word (text_of l t) ∷ parts) (outside l ts)) (slot_or_none l t ts c)) f

pub walk_word : (l : Layout) (old new : List Part) (word : List ℕ) (at to : ℕ) → at < to → to ≤ length l.tokens → is_word (get_or l.tokens at no_token).kind ≡ true → word ≡ text_at l at → new ≡ old ++ Word word ∷ [] → walked l new (at + 1) to ≡ walked l old at to
walk_word l old new word at to low high is w n =
    ap (λ ps. walked l ps (at + 1) to) (n ∙ ap (λ t. old ++ Word t ∷ []) w)
    ∙ sym (part_pushed old (Word (text_at l at)) (outside l (slice_range l.tokens (at + 1) to)))
    ∙ sym (ap (option_map (λ more. old ++ more)) (outside_at l at to low high ∙ outside_kind l (get_or l.tokens at no_token) (slice_range l.tokens (at + 1) to) true _ is refl))

pub walk_other : (l : Layout) (old : List Part) (at to : ℕ) → at < to → to ≤ length l.tokens → is_word (get_or l.tokens at no_token).kind ≡ false → is_star (get_or l.tokens at no_token).kind ≡ false → walked l old at to ≡ None
walk_other l old at to low high word star =
    ap (option_map (λ more. old ++ more)) (outside_at l at to low high ∙ outside_kind l (get_or l.tokens at no_token) (slice_range l.tokens (at + 1) to) false false word star)

walk_star : (l : Layout) (old : List Part) (at to : ℕ) → at < to → to ≤ length l.tokens → is_word (get_or l.tokens at no_token).kind ≡ false → is_star (get_or l.tokens at no_token).kind ≡ true → walked l old at to ≡ option_map (λ more. old ++ more) (slot_first (inside l (slice_range l.tokens (at + 1) to)))
walk_star l old at to low high word star =
    ap (option_map (λ more. old ++ more)) (outside_at l at to low high ∙ outside_kind l (get_or l.tokens at no_token) (slice_range l.tokens (at + 1) to) false true word star)

pub walk_open : (l : Layout) (old : List Part) (at to : ℕ) → at < to → to ≤ length l.tokens → is_word (get_or l.tokens at no_token).kind ≡ false → is_star (get_or l.tokens at no_token).kind ≡ true → slot_first (inside l (slice_range l.tokens (at + 1) to)) ≡ None → walked l old at to ≡ None
walk_open l old at to low high word star none = walk_star l old at to low high word star ∙ ap (option_map (λ more. old ++ more)) none

pub walk_slot : (l : Layout) (old new : List Part) (text : List ℕ) (at end to : ℕ) → at < to → to ≤ length l.tokens → is_word (get_or l.tokens at no_token).kind ≡ false → is_star (get_or l.tokens at no_token).kind ≡ true
    → slot_first (inside l (slice_range l.tokens (at + 1) to)) ≡ option_map (λ parts. Slot (spaced (texts l (at + 1) end)) ∷ parts) (outside l (slice_range l.tokens (end + 1) to))
    → text ≡ spaced (texts l (at + 1) end) → new ≡ old ++ Slot text ∷ [] → walked l new (end + 1) to ≡ walked l old at to
walk_slot l old new text at end to low high word star closes t n =
    ap (λ ps. walked l ps (end + 1) to) (n ∙ ap (λ s. old ++ Slot s ∷ []) t)
    ∙ sym (part_pushed old (Slot (spaced (texts l (at + 1) end))) (outside l (slice_range l.tokens (end + 1) to)))
    ∙ sym (ap (option_map (λ more. old ++ more)) closes)
    ∙ sym (walk_star l old at to low high word star)

pub walk_first : (l : Layout) (at to : ℕ) → walked l [] at to ≡ outside l (slice_range l.tokens at to)
walk_first l at to = by (outside l (slice_range l.tokens at to))
  where
    by : (o : Option (List Part)) → option_map (λ more. [] ++ more) o ≡ o
    by None = refl
    by (Some parts) = refl

pub walk_end : (l : Layout) (parts : List Part) (at to : ℕ) → to ≤ at → walked l parts at to ≡ Some parts
walk_end l parts at to ended =
    ap (λ ts. option_map (λ more. parts ++ more) (outside l ts)) (slice_none l.tokens at to ended) ∙ ap Some (append-nil parts)

-- ---- the first parts against words

abbrev pub now_of : List (Bor (List ℕ)) → List (List ℕ)
now_of ws = map (λ w. w.now) ws

abbrev pub no_text : Bor (List ℕ)
no_text = record { ref_ptr = (0, 0); now = [] }

abbrev pub Begun : List Part → List (Bor (List ℕ)) → ℕ → Type 0
Begun parts words i = begins_with (drop i parts) (now_of (drop i words)) ≡ begins_with parts (now_of words)

begin_at : (parts : List Part) (words : List (Bor (List ℕ))) (i : ℕ) (p : Part) → i < length parts → i < length words → get_or parts i p ≡ p → begins_with (drop i parts) (now_of (drop i words)) ≡ (is_spelled (get_or words i no_text).now p && begins_with (drop (i + 1) parts) (now_of (drop (i + 1) words)))
begin_at parts words i p h k is =
    ap (λ ws. begins_with (drop i parts) (now_of ws)) (drop_more words i no_text k)
    ∙ ap (λ ps. begins_with ps (now_of (get_or words i no_text ∷ drop (i + 1) words))) (drop_more parts i p h ∙ ap (λ q. q ∷ drop (i + 1) parts) is)

pub begin_short : (parts : List Part) (words : List (Bor (List ℕ))) (i : ℕ) → length parts ≤ i → i < length words → Begun parts words i → false ≡ begins_with parts (now_of words)
begin_short parts words i h k e =
    sym (ap (λ ws. begins_with (drop i parts) (now_of ws)) (drop_more words i no_text k)
    ∙ ap (λ ps. begins_with ps (now_of (get_or words i no_text ∷ drop (i + 1) words))) (drop_all i parts h)) ∙ e

pub begin_step : (parts : List Part) (words : List (Bor (List ℕ))) (i : ℕ) (p : Part) (b : Bool) → i < length parts → i < length words → get_or parts i p ≡ p → b ≡ is_spelled (get_or words i no_text).now p → Begun parts words i → (b && begins_with (drop (i + 1) parts) (now_of (drop (i + 1) words))) ≡ begins_with parts (now_of words)
begin_step parts words i p b h k is e begun =
    ap (λ c. c && begins_with (drop (i + 1) parts) (now_of (drop (i + 1) words))) e ∙ sym (begin_at parts words i p h k is) ∙ begun
