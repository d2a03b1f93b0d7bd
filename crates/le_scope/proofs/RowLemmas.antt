-- The lengths in lists at each token, from the last token to the first.
use Rattle.std.proofs.Common.{◌≡◌, ℕ, zero, suc, ◌+◌, ◌-◌, ◌==◌, ◌<◌, ◌≤◌, Bool, true, false, cond, ◌&&◌, Option, Some, None, List, [], ◌∷◌, ◌++◌, length, reverse, take, drop, get_or, sym, refl, ap, ◌∙◌, arith}
use Rattle.std.specs.Option.{is_some, option_or}
use Rattle.std.proofs.lemmas.Bool.{cond-false, cond-true, ne_eqb}
use Rattle.std.proofs.lemmas.List.{get_or_past, get_or-take, get_or-drop, length-drop, reverse-reverse}
use Rattle.le_layout.specs.declared.token.Token.{Token}
use Rattle.le_layout.specs.declared.token.Kind.{Kind}
use Rattle.le_layout.specs.declared.layout.Layout.{Layout}
use Rattle.le_layout.specs.Layout.{no_token}
use Rattle.le_layout.specs.Words.{token_of}
use Rattle.le_scope.specs.declared.lengths.PhraseLengths.{PhraseLengths}
use Rattle.le_scope.specs.declared.lists.ListLengths.{ListLengths}
use Rattle.le_scope.specs.declared.phrase.PhraseForm.{PhraseForm}
use Rattle.le_scope.specs.declared.phrase.PhraseForm.TheVariants.{List as ListForm}
use Rattle.le_scope.specs.Simple.{is_name, is_simple_phrase, simple_form}
use Rattle.le_scope.specs.Lengths.{lengths, is_length, one_length, simple_lengths, phrase_lengths, lengths_from}
use Rattle.le_scope.specs.Lists.{is_open, is_close, ends_item, until_end, at, onto, list_length, items_length, last_length, lengths_by, rows_of, first_row}
use Rattle.le_scope.specs.Phrases.{phrase_form}
use Rattle.le_scope.proofs.SimpleLaw.{in_a_row as simple_in_a_row}
use Rattle.le_scope.proofs.ListsLaw.{until_short, rows_drop, items_short, last_short}
use Rattle.le_scope.proofs.LengthsLaw.{closed_lengths, open_lengths, no_simple, one_most}
use Rattle.le_scope.proofs.TokenLemmas.{span, span_more, span_none, length_span}
use Rattle.le_scope.proofs.RunLemmas.{onto_found}

-- ---- up to the next token that ends an item

pub until_step : (l : Layout) (from to count : ℕ) → from < to → to ≤ length l.tokens → count ≡ until_end (span l (from + 1) to) → cond (ends_item (token_of l from).kind) 0 (count + 1) ≡ until_end (span l from to)
until_step l from to count low high e =
    ap (λ n. cond (ends_item (token_of l from).kind) 0 (n + 1)) e ∙ sym (ap until_end (span_more l from to low high))

pub until_bound : (l : Layout) (from to count : ℕ) → to ≤ length l.tokens → count ≡ until_end (span l from to) → count ≤ to - from
until_bound l from to count high e = let h = until_short (span l from to) in let k = length_span l from to high in omega (arith, e, h, k)

-- ---- the lengths of phrases, lists among them

pub lengths_closed : (l : Layout) (from to : ℕ) → from < to → to ≤ length l.tokens → is_open (token_of l from).kind ≡ false → simple_lengths l (span l from to) ≡ phrase_lengths l (span l from to)
lengths_closed l from to low high o =
    let more = span_more l from to low high in
    ap (simple_lengths l) more ∙ sym (closed_lengths l (token_of l from) (span l (from + 1) to) o) ∙ sym (ap (phrase_lengths l) more)

pub lengths_open : (l : Layout) (from to count : ℕ) → from < to → to ≤ length l.tokens → is_open (token_of l from).kind ≡ true → count ≡ (first_row l (span l from to)).phrase → one_length count ≡ phrase_lengths l (span l from to)
lengths_open l from to count low high o e =
    let more = span_more l from to low high in
    ap one_length (e ∙ ap (λ s. (first_row l s).phrase) more) ∙ sym (open_lengths l (token_of l from) (span l (from + 1) to) o) ∙ sym (ap (phrase_lengths l) more)

pub one_some : (n : ℕ) → (n ≡ 0 → ⊥) → lengths n n ≡ one_length n
one_some zero h = absurd (h refl)
one_some (suc n) h = refl

-- ---- the length of a list and of a phrase in a list

pub list_step : (l : Layout) (from to : ℕ) (rows : List ListLengths) → from < to → to ≤ length l.tokens → list_length (span l from to) rows ≡ cond (is_close (token_of l from).kind) 2 (onto 1 (at rows 0).items)
list_step l from to rows low high = ap (λ s. list_length s rows) (span_more l from to low high)

pub items_bound : (l : Layout) (from to items : ℕ) → to ≤ length l.tokens → items ≡ (at (rows_of l (span l from to)) 0).items → items ≤ to - from
items_bound l from to items high e = let h = items_short l (span l from to) in let k = length_span l from to high in omega (arith, e, h, k)

pub open_row : (l : Layout) (from to : ℕ) → from < to → to ≤ length l.tokens → is_open (token_of l from).kind ≡ true → list_length (span l (from + 1) to) (rows_of l (span l (from + 1) to)) ≡ (first_row l (span l from to)).phrase
open_row l from to low high o =
    let t = token_of l from in
    let ts = span l (from + 1) to in
    sym (cond-true (is_open t.kind) (list_length ts (rows_of l ts)) (cond (is_simple_phrase l (take (until_end (t ∷ ts)) (t ∷ ts))) (until_end (t ∷ ts)) 0) o)
    ∙ sym (ap (λ s. (first_row l s).phrase) (span_more l from to low high))

closed_item : (l : Layout) (t : Token) (ts : List Token) → is_open t.kind ≡ false → cond (is_length (simple_lengths l (t ∷ ts)) (until_end (t ∷ ts))) (until_end (t ∷ ts)) 0 ≡ (first_row l (t ∷ ts)).phrase
closed_item l t ts o =
    let n = until_end (t ∷ ts) in
    ap (λ b. cond b n 0) (sym (simple_in_a_row l (t ∷ ts) n (until_short (t ∷ ts))))
    ∙ sym (cond-false (is_open t.kind) (list_length ts (rows_of l ts)) (cond (is_simple_phrase l (take n (t ∷ ts))) n 0) o)

pub closed_row : (l : Layout) (from to count : ℕ) (simple : PhraseLengths) → from < to → to ≤ length l.tokens → is_open (token_of l from).kind ≡ false → simple ≡ simple_lengths l (span l from to) → count ≡ until_end (span l from to) → cond (is_length simple count) count 0 ≡ (first_row l (span l from to)).phrase
closed_row l from to count simple low high o s e =
    let more = span_more l from to low high in
    ap (λ i. cond (is_length i count) count 0) (s ∙ ap (simple_lengths l) more)
    ∙ ap (λ n. cond (is_length (simple_lengths l (token_of l from ∷ span l (from + 1) to)) n) n 0) (e ∙ ap until_end more)
    ∙ closed_item l (token_of l from) (span l (from + 1) to) o
    ∙ sym (ap (λ s. (first_row l s).phrase) more)

-- ---- all lengths at a token

none_cond : (b : Bool) → let zero_or : ℕ = cond b 0 0 in zero_or ≡ 0
none_cond true = refl
none_cond false = refl

past_end : (n : ℕ) (t : Token) (ts : List Token) (rows : List ListLengths) → length (t ∷ ts) ≤ n → lengths_by n t ts rows ≡ record { phrase = n; items = 0; last = 0 }
past_end n t ts rows h =
    ap (λ k. record { phrase = n; items = cond (n == 0) 0 (items_length n k.kind (at rows n)); last = cond (n == 0) 0 (last_length n k.kind) }) (get_or_past (t ∷ ts) n no_token h)
    ∙ ap (λ m. record { phrase = n; items = m; last = m }) (none_cond (n == 0))

before_end : (n : ℕ) (t : Token) (ts : List Token) (rows : List ListLengths) → (n ≡ 0 → ⊥) → lengths_by n t ts rows ≡ record { phrase = n; items = items_length n (get_or (t ∷ ts) n no_token).kind (at rows n); last = last_length n (get_or (t ∷ ts) n no_token).kind }
before_end n t ts rows h =
    ap (λ b. record { phrase = n; items = cond b 0 (items_length n (get_or (t ∷ ts) n no_token).kind (at rows n)); last = cond b 0 (last_length n (get_or (t ∷ ts) n no_token).kind) }) (ne_eqb n 0 h)

-- a row by the length of its phrase
row_by : (l : Layout) (t : Token) (ts : List Token) (n : ℕ) → n ≡ (first_row l (t ∷ ts)).phrase → lengths_by n t ts (rows_of l ts) ≡ first_row l (t ∷ ts)
row_by l t ts n e = ap (λ m. lengths_by m t ts (rows_of l ts)) e

pub row_past : (l : Layout) (from to n : ℕ) → from < to → to ≤ length l.tokens → to - from ≤ n → n ≡ (first_row l (span l from to)).phrase → record { phrase = n; items = 0; last = 0 } ≡ first_row l (span l from to)
row_past l from to n low high h e =
    let more = span_more l from to low high in
    let t = token_of l from in
    let ts = span l (from + 1) to in
    let size = length_span l (from + 1) to high in
    sym (past_end n t ts (rows_of l ts) (omega (arith, size, h, low)))
    ∙ row_by l t ts n (e ∙ ap (λ s. (first_row l s).phrase) more)
    ∙ sym (ap (first_row l) more)

pub token_in : (l : Layout) (from to n : ℕ) → n < to - from → get_or (span l from to) n no_token ≡ token_of l (from + n)
token_in l from to n h = get_or-take (to - from) (drop from l.tokens) n no_token h ∙ get_or-drop from l.tokens n no_token

pub row_inside : (l : Layout) (from to n : ℕ) (next : Kind) (after : ListLengths) (rows : List ListLengths) → from < to → to ≤ length l.tokens → n < to - from → (n ≡ 0 → ⊥) → n ≡ (first_row l (span l from to)).phrase → next ≡ (token_of l (from + n)).kind → rows ≡ reverse (rows_of l (span l (from + 1) to)) → after ≡ at (reverse rows) n → record { phrase = n; items = items_length n next after; last = last_length n next } ≡ first_row l (span l from to)
row_inside l from to n next after rows low high inside other e k r a =
    let more = span_more l from to low high in
    let t = token_of l from in
    let ts = span l (from + 1) to in
    let kind : next ≡ (get_or (t ∷ ts) n no_token).kind = k ∙ ap (λ x. x.kind) (sym (token_in l from to n inside)) ∙ ap (λ s. (get_or s n no_token).kind) more in
    let row : after ≡ at (rows_of l ts) n = a ∙ ap (λ s. at s n) (ap reverse r ∙ reverse-reverse (rows_of l ts)) in
    ap (λ x. record { phrase = n; items = items_length n x after; last = last_length n x }) kind
    ∙ ap (λ x. record { phrase = n; items = items_length n (get_or (t ∷ ts) n no_token).kind x; last = last_length n (get_or (t ∷ ts) n no_token).kind }) row
    ∙ sym (before_end n t ts (rows_of l ts) other)
    ∙ row_by l t ts n (e ∙ ap (λ s. (first_row l s).phrase) more)
    ∙ sym (ap (first_row l) more)

after_row : (l : Layout) (from to n : ℕ) (after : ListLengths) (rows : List ListLengths) → rows ≡ reverse (rows_of l (span l (from + 1) to)) → after ≡ at (reverse rows) n → after ≡ first_row l (drop n (span l (from + 1) to))
after_row l from to n after rows r a =
    a ∙ ap (λ s. at s n) (ap reverse r ∙ reverse-reverse (rows_of l (span l (from + 1) to))) ∙ rows_drop l (span l (from + 1) to) n

length_rest : (l : Layout) (from to n : ℕ) → to ≤ length l.tokens → length (drop n (span l (from + 1) to)) ≡ to - (from + 1) - n
length_rest l from to n high = length-drop n (span l (from + 1) to) ∙ ap (λ k. k - n) (length_span l (from + 1) to high)

pub after_items : (l : Layout) (from to n : ℕ) (after : ListLengths) (rows : List ListLengths) → to ≤ length l.tokens → n < to - from → rows ≡ reverse (rows_of l (span l (from + 1) to)) → after ≡ at (reverse rows) n → n + 1 + after.items ≤ to
after_items l from to n after rows high inside r a =
    let row = ap (λ x. x.items) (after_row l from to n after rows r a) in
    let short = items_short l (drop n (span l (from + 1) to)) in
    let size = length_rest l from to n high in
    omega (arith, row, short, size, inside)

pub after_last : (l : Layout) (from to n : ℕ) (after : ListLengths) (rows : List ListLengths) → to ≤ length l.tokens → n < to - from → rows ≡ reverse (rows_of l (span l (from + 1) to)) → after ≡ at (reverse rows) n → n + 1 + after.last ≤ to
after_last l from to n after rows high inside r a =
    let row = ap (λ x. x.last) (after_row l from to n after rows r a) in
    let short = last_short l (drop n (span l (from + 1) to)) in
    let size = length_rest l from to n high in
    omega (arith, row, short, size, inside)

-- ---- from the last token to the first

pub rows_none : (l : Layout) (from to : ℕ) → to ≤ from → [] ≡ reverse (rows_of l (span l from to))
rows_none l from to h = sym (ap (λ s. reverse (rows_of l s)) (span_none l from to h))

pub until_none : (l : Layout) (from to : ℕ) → to ≤ from → 0 ≡ until_end (span l from to)
until_none l from to h = sym (ap until_end (span_none l from to h))

pub rows_more : (l : Layout) (from to : ℕ) (rows more : List ListLengths) (x : ListLengths) → from < to → to ≤ length l.tokens → rows ≡ reverse (rows_of l (span l (from + 1) to)) → x ≡ first_row l (span l from to) → more ≡ rows ++ x ∷ [] → more ≡ reverse (rows_of l (span l from to))
rows_more l from to rows more x low high e is m =
    onto_found rows more (rows_of l (span l (from + 1) to)) x e m
    ∙ ap (λ y. reverse (y ∷ rows_of l (span l (from + 1) to))) (is ∙ ap (first_row l) (span_more l from to low high))
    ∙ sym (ap (λ s. reverse (rows_of l s)) (span_more l from to low high))

-- ---- the form of tokens that begin with an opening bracket

pub none_is : {X : Type 0} (o : Option X) → is_some o ≡ false → o ≡ None
none_is None e = refl
none_is (Some x) e = absurd (cc)

pub open_form : (l : Layout) (t : Token) (ts : List Token) → is_open t.kind ≡ true → phrase_form l (t ∷ ts) ≡ cond ((phrase_lengths l (t ∷ ts)).most == length (t ∷ ts)) (Some ListForm) None
unfolding phrase_form
open_form l t ts o =
    let n = (first_row l (t ∷ ts)).phrase in
    ap (λ f. option_or f (cond (is_open t.kind && (n == length (t ∷ ts))) (Some ListForm) None)) (none_is (simple_form l (t ∷ ts)) (no_simple l t ts o))
    ∙ ap (λ b. cond (b && (n == length (t ∷ ts))) (Some ListForm) None) o
    ∙ ap (λ m. cond (m == length (t ∷ ts)) (Some ListForm) None) (sym (ap (λ i. i.most) (open_lengths l t ts o) ∙ one_most n))

pub closed_form : (l : Layout) (t : Token) (ts : List Token) → is_open t.kind ≡ false → simple_form l (t ∷ ts) ≡ phrase_form l (t ∷ ts)
unfolding phrase_form
closed_form l t ts o =
    let n = (first_row l (t ∷ ts)).phrase in
    sym (ap (λ b. option_or (simple_form l (t ∷ ts)) (cond (b && (n == length (t ∷ ts))) (Some ListForm) None)) o ∙ or_none (simple_form l (t ∷ ts)))
  where
    or_none : (o : Option PhraseForm) → option_or o None ≡ o
    or_none None = refl
    or_none (Some f) = refl

pub span_closed : (l : Layout) (from to : ℕ) → from < to → to ≤ length l.tokens → is_open (token_of l from).kind ≡ false → simple_form l (span l from to) ≡ phrase_form l (span l from to)
span_closed l from to low high o =
    let more = span_more l from to low high in
    ap (simple_form l) more ∙ closed_form l (token_of l from) (span l (from + 1) to) o ∙ sym (ap (phrase_form l) more)

-- the lengths at the first token decide whether the tokens are a list
pub span_open : (l : Layout) (from to : ℕ) (found : List PhraseLengths) (none : PhraseLengths) → from < to → to ≤ length l.tokens → is_open (token_of l from).kind ≡ true → found ≡ lengths_from l (span l from to) → phrase_form l (span l from to) ≡ cond ((get_or found 0 none).most == to - from) (Some ListForm) None
span_open l from to found none low high o e =
    let more = span_more l from to low high in
    let t = token_of l from in
    let ts = span l (from + 1) to in
    ap (phrase_form l) more ∙ open_form l t ts o
    ∙ ap (λ n. cond ((phrase_lengths l (t ∷ ts)).most == n) (Some ListForm) None) (sym (ap length more) ∙ length_span l from to high)
    ∙ ap (λ s. cond ((get_or s 0 none).most == to - from) (Some ListForm) None) (sym (e ∙ ap (lengths_from l) more))

pub found_some : (l : Layout) (from to : ℕ) (found : List PhraseLengths) → from < to → to ≤ length l.tokens → found ≡ lengths_from l (span l from to) → 0 < length found
found_some l from to found low high e =
    let size = ap length (e ∙ ap (lengths_from l) (span_more l from to low high)) in omega (arith, size)

pub empty_form : (l : Layout) (from to : ℕ) → to ≤ from → None ≡ phrase_form l (span l from to)
unfolding phrase_form simple_form is_name
empty_form l from to h = sym (ap (phrase_form l) (span_none l from to h))
