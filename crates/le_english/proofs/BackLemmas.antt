-- A sentence reads back.
use Rattle.std.proofs.Common.{◌≡◌, ◌==◌, ℕ, ◌+◌, nat_le, Bool, true, false, cond, not, ◌||◌, List, [], ◌∷◌, ◌++◌, map, length, take, drop, Result, Ok, Err, sym, refl, ap, ap₂, ◌∙◌, subst, ⊎_elim, arith, append_assoc, length-append}
use Rattle.std.specs.List.{list_all}
use Rattle.std.specs.Str.{bytes_eq}
use Rattle.std.proofs.lemmas.Bool.{cases_Bool, cond-true, cond-false, and_parts, eqb-true}
use Rattle.std.proofs.lemmas.Slice.Eq.{bytes_eq-Decides}
use Rattle.le_base.specs.declared.stop.Refusal.{Refusal}
use Rattle.le_layout.specs.declared.token.Token.{Token}
use Rattle.le_layout.specs.declared.layout.Layout.{Layout}
use Rattle.le_layout.specs.Layout.{layout_of}
use Rattle.le_layout.specs.Characters.{kind_of}
use Rattle.le_layout.specs.Words.{is_star}
use Rattle.le_templates.specs.declared.part.Part.{Part}
use Rattle.le_templates.specs.declared.part.Part.TheVariants.{Word, Slot}
use Rattle.le_templates.specs.declared.part.Template.{Template}
use Rattle.le_terms.specs.Tree.{Tree}
use Rattle.le_scope.specs.Scopes.{ScopeState}
use Rattle.le_match.specs.declared.readings.BestReading.{BestReading}
use Rattle.le_match.specs.declared.readings.BestReading.TheVariants as best
use Rattle.le_match.specs.Readings.{is_marked, parts_at, best_of}
use Rattle.le_match.specs.Shares.{shares, edge}
use Rattle.le_match.specs.Terms.{Found, onto_terms, terms_of, atom_found, by_best, atom_of}
use Rattle.le_layout.specs.Spellings.{Spelling, spellings, IsWritten}
use Rattle.le_layout.specs.Joined.{Item, closing, plain, spelling_in, joined, AllWritten}
use Rattle.le_english.specs.Phrases.{word_of}
use Rattle.le_english.specs.Sentences.{with_phrase, sentence, slot_lengths, Fills, has_slot}
use Rattle.le_english.specs.Saying.{ReadsAll, AllOf, AllPhrases, HasWords, is_one, is_read_as, reads_alone, sentence_text, ReadsBack, IsSayable}
use Rattle.le_layout.proofs.JoinLemmas.{scans_back_lem}
use Rattle.le_english.proofs.PlainLemmas.{plain-best}
use Rattle.le_english.proofs.ReadingLemmas.{star, with_star, said, items-sentence, spelled-head, spelled-tail, spelled-front, spelled-back, not-true-is, marked-is, one_reading}

-- an asterisk is a sign
closing_sign : IsWritten (spelling_in closing)
unfolding kind_of
closing_sign = record { sign = 42; only = refl; token = refl }

-- the items of a sentence are scanned as they are written
written-plain : (ss : List Spelling) (rest : List Item) → AllOf ss → AllWritten rest → AllWritten (map plain ss ++ rest)
written-plain [] rest h k = k
written-plain (s ∷ ss) rest h k = (h.0, written-plain ss rest h.1 k)

written-phrase : (marked : Bool) (ss : List Spelling) (rest : List Item) → AllOf ss → AllWritten rest → AllWritten (with_phrase marked ss rest)
written-phrase true ss rest h k = (closing_sign, written-plain ss (closing ∷ rest) h (closing_sign, k))
written-phrase false ss rest h k = written-plain ss rest h k

written-sentence : (marked : Bool) (parts : List Part) (phrases : List (List Spelling)) → HasWords parts → AllPhrases phrases → AllWritten (sentence marked parts phrases)
written-sentence marked [] phrases h k = tt
written-sentence marked (Word w ∷ parts) phrases h k = (h.0, written-sentence marked parts phrases h.1 k)
written-sentence marked (Slot s ∷ parts) [] h k = written-sentence marked parts [] h k
written-sentence marked (Slot s ∷ parts) (ss ∷ phrases) h k = written-phrase marked ss (sentence marked parts phrases) k.0 (written-sentence marked parts phrases h k.1)

-- how many asterisks stand on each side
abbrev stars : Bool → ℕ
stars true = 1
stars false = 0

-- the tokens of a slot's phrase, and those after it
phrase-spelled : (marked : Bool) (layout : Layout) (ts : List Token) (ss rest : List Spelling) → spellings layout ts ≡ with_star marked (ss ++ with_star marked rest) → spellings layout (take (length ss) (drop (stars marked) ts)) ≡ ss
phrase-spelled true layout [] ss rest e = cc
phrase-spelled true layout (t ∷ ts) ss rest e = spelled-front layout ts ss (star ∷ rest) (spelled-tail layout t ts star (ss ++ star ∷ rest) e)
phrase-spelled false layout ts ss rest e = spelled-front layout ts ss rest e

rest-spelled : (marked : Bool) (layout : Layout) (ts : List Token) (ss rest : List Spelling) → spellings layout ts ≡ with_star marked (ss ++ with_star marked rest) → spellings layout (drop (length ss + (stars marked + stars marked)) ts) ≡ rest
rest-spelled true layout ts ss rest e =
    let count : length ss + 2 ≡ length (star ∷ (ss ++ star ∷ [])) = omega (arith, length-append ss (star ∷ [])) in
    ap (λ k. spellings layout (drop k ts)) count
    ∙ spelled-back layout ts (star ∷ (ss ++ star ∷ [])) rest (e ∙ ap (λ xs. star ∷ xs) (sym (append_assoc ss (star ∷ []) rest)))
rest-spelled false layout ts ss rest e =
    let count : length ss + 0 ≡ length ss = omega arith in
    ap (λ k. spellings layout (drop k ts)) count ∙ spelled-back layout ts ss rest e

-- the terms of its slots
terms-back : (marked : Bool) (users : List Template) (names : List (List ℕ)) (scope after : ScopeState) (layout : Layout) (parts : List Part) (phrases : List (List Spelling)) (trees : List Tree) (ts : List Token) → Fills parts phrases → ReadsAll users names scope phrases trees after → spellings layout ts ≡ said marked parts phrases → terms_of users names scope false layout (shares (stars marked) parts (map length phrases) ts) ≡ Ok (record { value = trees; names = names; scope = after })
terms-back marked users names scope after layout [] [] [] ts f r e = ap (λ (s : ScopeState). Ok (record { value = []; names = names; scope = s })) r
terms-back marked users names scope after layout [] [] (tree ∷ trees) ts f r e = absurd r
terms-back marked users names scope after layout [] (ss ∷ phrases) trees ts f r e = absurd f
terms-back marked users names scope after layout (Word w ∷ parts) phrases trees [] f r e = cc
terms-back marked users names scope after layout (Word w ∷ parts) phrases trees (t ∷ ts) f r e =
    terms-back marked users names scope after layout parts phrases trees ts f r (spelled-tail layout t ts (word_of w) (said marked parts phrases) e)
terms-back marked users names scope after layout (Slot s ∷ parts) [] trees ts f r e = absurd f
terms-back marked users names scope after layout (Slot s ∷ parts) (ss ∷ phrases) [] ts f r e = absurd r
terms-back marked users names scope after layout (Slot s ∷ parts) (ss ∷ phrases) (tree ∷ trees) ts f r e =
    let rest = said marked parts phrases in
    let here = r.1 layout (take (length ss) (drop (stars marked) ts)) (phrase-spelled marked layout ts ss rest e) in
    let more = terms-back marked users names r.0 after layout parts phrases trees (drop (length ss + (stars marked + stars marked)) ts) f.1 r.2 (rest-spelled marked layout ts ss rest e) in
    let others = terms_of users names r.0 false layout (shares (stars marked) parts (map length phrases) (drop (length ss + (stars marked + stars marked)) ts)) in
    ap (λ (found : Result (Found Tree) Refusal). elim found [ Ok g ↦ onto_terms g.value (terms_of users g.names g.scope false layout (shares (stars marked) parts (map length phrases) (drop (length ss + (stars marked + stars marked)) ts))) | Err refusal ↦ Err refusal ]) here
    ∙ ap (onto_terms tree) more

-- a plain sentence has no asterisk
any-append : (layout : Layout) (ts : List Token) (ss rest : List Spelling) → spellings layout ts ≡ ss ++ rest → list_all (λ s. not (is_star s.kind)) ss ≡ true → is_marked (drop (length ss) ts) ≡ false → is_marked ts ≡ false
any-append layout ts [] rest e h k = k
any-append layout [] (s ∷ ss) rest e h k = cc
any-append layout (t ∷ ts) (s ∷ ss) rest e h k =
    let both = and_parts (not (is_star s.kind)) (list_all (λ s. not (is_star s.kind)) ss) h in
    ap₂ (λ x y. x || y) (ap (λ (s : Spelling). is_star s.kind) (spelled-head layout t ts s (ss ++ rest) e) ∙ not-true-is (is_star s.kind) both.0)
    (any-append layout ts ss rest (spelled-tail layout t ts s (ss ++ rest) e) both.1 k)

unmarked-is : (layout : Layout) (parts : List Part) (phrases : List (List Spelling)) (ts : List Token) → Fills parts phrases → spellings layout ts ≡ said false parts phrases → is_marked ts ≡ false
unmarked-is layout [] phrases [] f e = refl
unmarked-is layout [] phrases (t ∷ ts) f e = cc
unmarked-is layout (Word w ∷ parts) phrases [] f e = refl
unmarked-is layout (Word w ∷ parts) phrases (t ∷ ts) f e =
    ap₂ (λ x y. x || y) (ap (λ (s : Spelling). is_star s.kind) (spelled-head layout t ts (word_of w) (said false parts phrases) e))
    (unmarked-is layout parts phrases ts f (spelled-tail layout t ts (word_of w) (said false parts phrases) e))
unmarked-is layout (Slot s ∷ parts) [] ts f e = absurd f
unmarked-is layout (Slot s ∷ parts) (ss ∷ phrases) ts f e =
    any-append layout ts ss (said false parts phrases) e f.0.no_star (unmarked-is layout parts phrases (drop (length ss) ts) f.1 (spelled-back layout ts ss (said false parts phrases) e))

-- without a slot the marks make no difference
no-slot : (parts : List Part) (phrases : List (List Spelling)) → has_slot parts ≡ false → said true parts phrases ≡ said false parts phrases
no-slot [] phrases h = refl
no-slot (Word w ∷ parts) phrases h = ap (λ xs. word_of w ∷ xs) (no-slot parts phrases h)
no-slot (Slot s ∷ parts) phrases h = cc

-- the atom, where the sentence has the reading
edge-marked : (ts : List Token) → is_marked ts ≡ true → edge ts ≡ 1
edge-marked ts h = cond-true (is_marked ts) 1 0 h

edge-plain : (ts : List Token) → is_marked ts ≡ false → edge ts ≡ 0
edge-plain ts h = cond-false (is_marked ts) 1 0 h

atom-back : (marked : Bool) (users : List Template) (names : List (List ℕ)) (scope after : ScopeState) (layout : Layout) (pred : ℕ) (phrases : List (List Spelling)) (trees : List Tree) (ts : List Token) → Fills (parts_at users pred) phrases → ReadsAll users names scope phrases trees after → spellings layout ts ≡ said marked (parts_at users pred) phrases → edge ts ≡ stars marked → best_of users layout ts ≡ best.One (record { pred = pred; lengths = map length phrases }) → atom_of users names scope false layout ts ≡ Ok (record { value = record { pred = pred; args = trees }; names = names; scope = after })
unfolding atom_of
atom-back marked users names scope after layout pred phrases trees ts f r e n b =
    ap (by_best users names scope false layout ts) b
    ∙ ap (λ k. atom_found pred (terms_of users names scope false layout (shares k (parts_at users pred) (map length phrases) ts))) n
    ∙ ap (atom_found pred) (terms-back marked users names scope after layout (parts_at users pred) phrases trees ts f r e)

-- the plain sentence where it reads alone
one-is : (pred : ℕ) (lengths : List ℕ) (b : BestReading) → is_one pred lengths b ≡ true → b ≡ best.One (record { pred = pred; lengths = lengths })
one-is pred lengths best.None h = cc
one-is pred lengths (best.Two r s) h = cc
one-is pred lengths (best.One r) h =
    let both = and_parts (r.pred == pred) (bytes_eq r.lengths lengths) h in
    ap₂ (λ p ns. best.One (record { pred = p; lengths = ns })) (eqb-true r.pred pred both.0) ((bytes_eq-Decides r.lengths lengths).0 both.1)

reads-as : (users : List Template) (pred : ℕ) (lengths text : List ℕ) (layout : Layout) → reads_alone users pred lengths text ≡ true → layout_of text ≡ Ok layout → best_of users layout layout.tokens ≡ best.One (record { pred = pred; lengths = lengths })
unfolding reads_alone
reads-as users pred lengths text layout h e =
    let both = and_parts (nat_le (length text) 268435456) (is_read_as users pred lengths (layout_of text)) h in
    one-is pred lengths (best_of users layout layout.tokens) (ap (is_read_as users pred lengths) (sym e) ∙ both.1)

-- a sentence reads back
marked-back : (users : List Template) (names : List (List ℕ)) (scope : ScopeState) (pred : ℕ) (phrases : List (List Spelling)) (trees : List Tree) (after : ScopeState) → IsSayable users names scope pred phrases trees after → has_slot (parts_at users pred) ≡ true → ReadsBack users names scope pred phrases trees after (joined (sentence true (parts_at users pred) phrases))
marked-back users names scope pred phrases trees after s slot =
    let parts = parts_at users pred in
    let back = scans_back_lem (sentence true parts phrases) (written-sentence true parts phrases s.words s.written) in
    let spelled = back.2 ∙ items-sentence true parts phrases in
    let b = one_reading users pred phrases back.0 back.0.tokens s.each s.low s.used slot s.fills back.2 in (
      back.0,
      back.1,
      b,
      atom-back true users names scope after back.0 pred phrases trees back.0.tokens s.fills s.reads spelled (edge-marked back.0.tokens (marked-is back.0 parts phrases back.0.tokens s.fills slot spelled)) b,
    )

plain-back : (users : List Template) (names : List (List ℕ)) (scope : ScopeState) (pred : ℕ) (phrases : List (List Spelling)) (trees : List Tree) (after : ScopeState) → IsSayable users names scope pred phrases trees after → reads_alone users pred (map length phrases) (joined (sentence false (parts_at users pred) phrases)) ≡ true → ReadsBack users names scope pred phrases trees after (joined (sentence false (parts_at users pred) phrases))
plain-back users names scope pred phrases trees after s alone =
    let parts = parts_at users pred in
    let back = scans_back_lem (sentence false parts phrases) (written-sentence false parts phrases s.words s.written) in
    let spelled = back.2 ∙ items-sentence false parts phrases in
    let b = reads-as users pred (map length phrases) (joined (sentence false parts phrases)) back.0 alone back.1 in (
      back.0,
      back.1,
      b,
      atom-back false users names scope after back.0 pred phrases trees back.0.tokens s.fills s.reads spelled (edge-plain back.0.tokens (unmarked-is back.0 parts phrases back.0.tokens s.fills spelled)) b,
    )

no-phrases : (parts : List Part) (phrases : List (List Spelling)) → has_slot parts ≡ false → Fills parts phrases → map length phrases ≡ []
no-phrases [] [] n f = refl
no-phrases [] (ss ∷ phrases) n f = absurd f
no-phrases (Word w ∷ parts) phrases n f = no-phrases parts phrases n f
no-phrases (Slot s ∷ parts) phrases n f = cc

none-back : (users : List Template) (names : List (List ℕ)) (scope : ScopeState) (pred : ℕ) (phrases : List (List Spelling)) (trees : List Tree) (after : ScopeState) → IsSayable users names scope pred phrases trees after → has_slot (parts_at users pred) ≡ false → ReadsBack users names scope pred phrases trees after (joined (sentence true (parts_at users pred) phrases))
none-back users names scope pred phrases trees after s n =
    let parts = parts_at users pred in
    let back = scans_back_lem (sentence true parts phrases) (written-sentence true parts phrases s.words s.written) in
    let spelled = back.2 ∙ items-sentence true parts phrases ∙ no-slot parts phrases n in
    let plain = unmarked-is back.0 parts phrases back.0.tokens s.fills spelled in
    let b = plain-best users pred phrases back.0 back.0.tokens s.each s.low s.used n plain spelled ∙ ap (λ ns. best.One (record { pred = pred; lengths = ns })) (sym (no-phrases parts phrases n s.fills)) in (
      back.0,
      back.1,
      b,
      atom-back false users names scope after back.0 pred phrases trees back.0.tokens s.fills s.reads spelled (edge-plain back.0.tokens plain) b,
    )

-- the lengths of the phrases in the slots are those of all phrases
lengths-fill : (parts : List Part) (phrases : List (List Spelling)) → Fills parts phrases → slot_lengths parts phrases ≡ map length phrases
lengths-fill [] [] f = refl
lengths-fill [] (ss ∷ phrases) f = absurd f
lengths-fill (Word w ∷ parts) phrases f = lengths-fill parts phrases f
lengths-fill (Slot s ∷ parts) [] f = absurd f
lengths-fill (Slot s ∷ parts) (ss ∷ phrases) f = ap (λ ns. length ss ∷ ns) (lengths-fill parts phrases f.1)

sentence-is : (users : List Template) (pred : ℕ) (phrases : List (List Spelling)) → Fills (parts_at users pred) phrases → sentence_text users pred phrases ≡ cond (reads_alone users pred (map length phrases) (joined (sentence false (parts_at users pred) phrases))) (joined (sentence false (parts_at users pred) phrases)) (joined (sentence true (parts_at users pred) phrases))
unfolding sentence_text
sentence-is users pred phrases f = ap (λ ns. cond (reads_alone users pred ns (joined (sentence false (parts_at users pred) phrases))) (joined (sentence false (parts_at users pred) phrases)) (joined (sentence true (parts_at users pred) phrases))) (lengths-fill (parts_at users pred) phrases f)

pub reads-back : (users : List Template) (names : List (List ℕ)) (scope : ScopeState) (pred : ℕ) (phrases : List (List Spelling)) (trees : List Tree) (after : ScopeState) → IsSayable users names scope pred phrases trees after → ReadsBack users names scope pred phrases trees after (sentence_text users pred phrases)
reads-back users names scope pred phrases trees after s =
    let text = joined (sentence false (parts_at users pred) phrases) in
    let marked = joined (sentence true (parts_at users pred) phrases) in
    let P : List ℕ → Type 0 = ReadsBack users names scope pred phrases trees after in
    ⊎_elim (λ h. subst P (sym (sentence-is users pred phrases s.fills ∙ cond-true _ text marked h)) (plain-back users names scope pred phrases trees after s h))
    (λ h. subst P (sym (sentence-is users pred phrases s.fills ∙ cond-false _ text marked h)) (⊎_elim (λ slot. marked-back users names scope pred phrases trees after s slot) (λ n. none-back users names scope pred phrases trees after s n) (cases_Bool (has_slot (parts_at users pred)))))
    (cases_Bool (reads_alone users pred (map length phrases) text))
