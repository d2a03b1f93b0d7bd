-- A sentence under way, part by part.
use Rattle.std.proofs.Common.{◌≡◌, ◌==◌, ℕ, zero, suc, ◌+◌, ◌^◌, ◌<◌, ◌≤◌, Bool, true, false, ◌&&◌, List, [], ◌∷◌, ◌++◌, length, map, take, drop, get_or, sym, refl, ap, ap₂, ◌∙◌, arith, append_assoc, append-nil, length-append}
use Rattle.std.specs.BTreeSet.{contains}
use Rattle.std.specs.Ordering.{nat_cmp}
use Rattle.std.specs.Str.{bytes_eq}
use Rattle.std.proofs.lemmas.Bool.{and_parts, eq-eqb, ne_eqb}
use Rattle.std.proofs.lemmas.List.{drop_more, drop_all, take_more, length-map}
use Rattle.le_layout.specs.Joined.{Item, joined}
use Rattle.le_templates.specs.declared.part.Part.{Part}
use Rattle.le_templates.specs.declared.part.Part.TheVariants.{Slot}
use Rattle.le_templates.specs.declared.part.Template.{Template}
use Rattle.le_terms.specs.Tree.{Tree}
use Rattle.le_terms.specs.Variables.{occurrences, all_occurrences}
use Rattle.le_english.specs.declared.draft.Draft.{Draft}
use Rattle.le_english.specs.Phrases.{is_seen, phrase_of, phrases_of}
use Rattle.le_english.specs.Sentences.{sentence, slot_lengths, with_phrase}
use Rattle.le_english.specs.Lines.{with_items, capped, phrases_from, Completes, empty_line}
use Rattle.le_english.proofs.LineLemmas.{whole-text}

occurrences-append : (xs ys : List Tree) → all_occurrences (xs ++ ys) ≡ all_occurrences xs ++ all_occurrences ys
occurrences-append [] ys = refl
occurrences-append (x ∷ xs) ys = ap (λ vs. occurrences x ++ vs) (occurrences-append xs ys) ∙ sym (append_assoc (occurrences x) (all_occurrences xs) (all_occurrences ys))

-- the variables of one argument more
occurrences-next : (args : List Tree) (n : ℕ) (d t : Tree) → n < length args → get_or args n d ≡ t → all_occurrences (take (n + 1) args) ≡ all_occurrences (take n args) ++ occurrences t
occurrences-next args n d t low e =
    ap all_occurrences (take_more args n d low)
    ∙ occurrences-append (take n args) (get_or args n d ∷ [])
    ∙ ap (λ vs. all_occurrences (take n args) ++ vs) (append-nil (occurrences (get_or args n d)) ∙ ap occurrences e)

phrases-next : (users : List Template) (names : List (List ℕ)) (args : List Tree) (n : ℕ) (d t : Tree) → n < length args → get_or args n d ≡ t → phrases_from users names args n ≡ phrase_of users names (all_occurrences (take n args)) t ∷ phrases_from users names args (n + 1)
phrases-next users names args n d t low e =
    ap (phrases_of users names (all_occurrences (take n args))) (drop_more args n d low ∙ ap (λ x. x ∷ drop (n + 1) args) e)
    ∙ ap (λ vs. phrase_of users names (all_occurrences (take n args)) t ∷ phrases_of users names vs (drop (n + 1) args)) (sym (occurrences-next args n d t low e))

-- one argument more
pub next-completes : (users : List Template) (names : List (List ℕ)) (args : List Tree) (marked : Bool) (draft new : Draft) (slot : List ℕ) (parts : List Part) (whole counts : List ℕ) (d t : Tree)
    → Completes users names args marked draft (Slot slot ∷ parts) whole counts
    → length draft.lengths.items < length args → get_or args (length draft.lengths.items) d ≡ t
    → ((rest : List Item) → (with_items new.line rest).text ≡ (with_items draft.line (with_phrase marked (phrase_of users names (all_occurrences (take (length draft.lengths.items) args)) t) rest)).text)
    → ((k : ℕ) → contains nat_cmp new.seen k ≡ is_seen (all_occurrences (take (length draft.lengths.items) args) ++ occurrences t) k)
    → new.lengths.items ≡ draft.lengths.items ++ capped (length (phrase_of users names (all_occurrences (take (length draft.lengths.items) args)) t)) ∷ []
    → Completes users names args marked new parts whole counts
next-completes users names args marked draft new slot parts whole counts d t h low at text seen lengths =
    let n = length draft.lengths.items in
    let phrase = phrase_of users names (all_occurrences (take n args)) t in
    let count : length new.lengths.items ≡ n + 1 = ap length lengths ∙ length-append draft.lengths.items (capped (length phrase) ∷ []) in
    let next = phrases-next users names args n d t low at in
    let rest = phrases_from users names args (n + 1) in
    record {
      printed = λ k. seen k ∙ ap (λ vs. is_seen vs k) (sym (occurrences-next args n d t low at)) ∙ ap (λ m. is_seen (all_occurrences (take m args)) k) (sym count);
      text = ap (λ m. (with_items new.line (sentence marked parts (phrases_from users names args m))).text) count
          ∙ text (sentence marked parts rest)
          ∙ ap (λ ps. (with_items draft.line (sentence marked (Slot slot ∷ parts) ps)).text) (sym next)
          ∙ h.text;
      count = ap₂ (λ ns m. ns ++ map capped (slot_lengths parts (phrases_from users names args m))) lengths count
          ∙ append_assoc draft.lengths.items (capped (length phrase) ∷ []) (map capped (slot_lengths parts rest))
          ∙ ap (λ ps. draft.lengths.items ++ map capped (slot_lengths (Slot slot ∷ parts) ps)) (sym next)
          ∙ h.count;
    }

-- where no argument is left a slot has no phrase
pub none-completes : (users : List Template) (names : List (List ℕ)) (args : List Tree) (marked : Bool) (draft : Draft) (slot : List ℕ) (parts : List Part) (whole counts : List ℕ) → Completes users names args marked draft (Slot slot ∷ parts) whole counts → length args ≤ length draft.lengths.items → Completes users names args marked draft parts whole counts
none-completes users names args marked draft slot parts whole counts h high =
    let n = length draft.lengths.items in
    let none : phrases_from users names args n ≡ [] = ap (phrases_of users names (all_occurrences (take n args))) (drop_all n args high) in
    record {
      printed = h.printed;
      text = ap (λ ps. (with_items draft.line (sentence marked parts ps)).text) none ∙ sym (ap (λ ps. (with_items draft.line (sentence marked (Slot slot ∷ parts) ps)).text) none) ∙ h.text;
      count = ap (λ ps. draft.lengths.items ++ map capped (slot_lengths parts ps)) none ∙ sym (ap (λ ps. draft.lengths.items ++ map capped (slot_lengths (Slot slot ∷ parts) ps)) none) ∙ h.count;
    }

-- one part more of a template
pub part-at : (parts : List Part) (i : ℕ) (d p : Part) → i < length parts → p ≡ get_or parts i d → drop i parts ≡ p ∷ drop (i + 1) parts
part-at parts i d p low e = drop_more parts i d low ∙ ap (λ x. x ∷ drop (i + 1) parts) (sym e)

-- the whole text and all lengths
abbrev pub whole_text : List Template → List (List ℕ) → List Tree → Bool → List Part → List ℕ
whole_text users names args marked parts = (with_items empty_line (sentence marked parts (phrases_of users names [] args))).text

abbrev pub all_counts : List Template → List (List ℕ) → List Tree → List Part → List ℕ
all_counts users names args parts = map capped (slot_lengths parts (phrases_of users names [] args))

pub end-text : (users : List Template) (names : List (List ℕ)) (args : List Tree) (marked : Bool) (draft : Draft) (parts : List Part) (i : ℕ) → length parts ≤ i → Completes users names args marked draft (drop i parts) (whole_text users names args marked parts) (all_counts users names args parts) → draft.line.text ≡ joined (sentence marked parts (phrases_of users names [] args))
end-text users names args marked draft parts i high h =
    ap (λ ps. (with_items draft.line (sentence marked ps (phrases_from users names args (length draft.lengths.items)))).text) (sym (drop_all i parts high))
    ∙ h.text
    ∙ whole-text empty_line (sentence marked parts (phrases_of users names [] args)) refl

pub end-counts : (users : List Template) (names : List (List ℕ)) (args : List Tree) (marked : Bool) (draft : Draft) (parts : List Part) (i : ℕ) (whole counts : List ℕ) → length parts ≤ i → Completes users names args marked draft (drop i parts) whole counts → draft.lengths.items ≡ counts
end-counts users names args marked draft parts i whole counts high h =
    sym (append-nil draft.lengths.items)
    ∙ ap (λ ps. draft.lengths.items ++ map capped (slot_lengths ps (phrases_from users names args (length draft.lengths.items)))) (sym (drop_all i parts high))
    ∙ h.count

-- ---- comparing lengths

capped-length : (ls : List ℕ) → length (map capped ls) ≡ length ls
capped-length ls = length-map ls capped

equal-length : (xs ys : List ℕ) → bytes_eq xs ys ≡ true → length xs ≡ length ys
equal-length [] [] h = refl
equal-length [] (y ∷ ys) h = cc
equal-length (x ∷ xs) [] h = cc
equal-length (x ∷ xs) (y ∷ ys) h = omega (arith, equal-length xs ys (and_parts (x == y) (bytes_eq xs ys) h).1)

false-unless : (b : Bool) → (b ≡ true → ⊥) → false ≡ b
false-unless true h = absurd (h refl)
false-unless false h = refl

pub other-length : (found lengths ls : List ℕ) → (length found ≡ length lengths → ⊥) → lengths ≡ map capped ls → false ≡ bytes_eq found ls
other-length found lengths ls ne e = false-unless (bytes_eq found ls) (λ h. ne (equal-length found ls h ∙ sym (capped-length ls) ∙ sym (ap length e)))

capped-at : (ls : List ℕ) (i : ℕ) → i < length ls → get_or (map capped ls) i 0 ≡ capped (get_or ls i 0)
capped-at [] i h = absurd (omega arith)
capped-at (l ∷ ls) zero h = refl
capped-at (l ∷ ls) (suc i) h = capped-at ls i (omega arith)

cell-eq : (found ls : List ℕ) (i : ℕ) → i < length found → i < length ls → bytes_eq (drop i found) (drop i ls) ≡ ((get_or found i 0 == get_or ls i 0) && bytes_eq (drop (i + 1) found) (drop (i + 1) ls))
cell-eq found ls i h k = ap₂ bytes_eq (drop_more found i 0 h) (drop_more ls i 0 k)

same-capped : (x l : ℕ) → x < 2 ^ 32 → x ≡ capped l → x ≡ l
same-capped x l low e = omega (arith, low, e)

pub other-at : (found lengths ls : List ℕ) (i : ℕ) → i < length found → length found ≡ length lengths → lengths ≡ map capped ls → (get_or found i 0 ≡ get_or lengths i 0 → ⊥) → get_or found i 0 < 2 ^ 32 → bytes_eq (drop i found) (drop i ls) ≡ bytes_eq found ls → false ≡ bytes_eq found ls
other-at found lengths ls i h long e ne low before =
    let size : length lengths ≡ length ls = ap length e ∙ capped-length ls in
    let inside : i < length ls = omega (arith, h, long, size) in
    let differ : (get_or found i 0 == get_or ls i 0) ≡ false = ne_eqb _ _ (λ (s : get_or found i 0 ≡ get_or ls i 0). ne (omega (arith, s, low, ap (λ xs. get_or xs i 0) e, capped-at ls i inside))) in
    sym (ap (λ b. b && bytes_eq (drop (i + 1) found) (drop (i + 1) ls)) differ) ∙ sym (cell-eq found ls i h inside) ∙ before

pub same-at : (found lengths ls : List ℕ) (i : ℕ) → i < length found → length found ≡ length lengths → lengths ≡ map capped ls → get_or found i 0 ≡ get_or lengths i 0 → get_or found i 0 < 2 ^ 32 → bytes_eq (drop i found) (drop i ls) ≡ bytes_eq found ls → bytes_eq (drop (i + 1) found) (drop (i + 1) ls) ≡ bytes_eq found ls
same-at found lengths ls i h long e at low before =
    let size : length lengths ≡ length ls = ap length e ∙ capped-length ls in
    let inside : i < length ls = omega (arith, h, long, size) in
    let same : get_or found i 0 ≡ get_or ls i 0 = omega (arith, at, low, ap (λ xs. get_or xs i 0) e, capped-at ls i inside) in
    sym (ap (λ b. b && bytes_eq (drop (i + 1) found) (drop (i + 1) ls)) (eq-eqb _ _ same)) ∙ sym (cell-eq found ls i h inside) ∙ before

pub equal-end : (found lengths ls : List ℕ) (i : ℕ) → length found ≤ i → length found ≡ length lengths → lengths ≡ map capped ls → bytes_eq (drop i found) (drop i ls) ≡ bytes_eq found ls → true ≡ bytes_eq found ls
equal-end found lengths ls i high long e before =
    let size : length lengths ≡ length ls = ap length e ∙ capped-length ls in
    sym (ap₂ bytes_eq (drop_all i found high) (drop_all i ls (omega (arith, high, long, size)))) ∙ before
