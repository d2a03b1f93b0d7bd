-- The symbols that the tokens of a list give are those of its tree.
use Rattle.std.proofs.Common.{◌≡◌, ℕ, ◌+◌, ◌-◌, ◌<◌, ◌≤◌, Bool, true, false, cond, not, ◌||◌, nat_le, Option, Some, None, List, [], ◌∷◌, ◌++◌, length, take, drop, get_or, slice_range, subst, sym, refl, ap, ◌∙◌, append_assoc, arith}
use Rattle.std.specs.List.{list_all, All}
use Rattle.std.proofs.lemmas.Bool.{and_parts, cond-true, le-leb}
use Rattle.std.proofs.lemmas.List.{append-nil, drop-drop, drop_at, length-append, length-drop, take-append-drop, take_at}
use Rattle.std.proofs.lemmas.List.Elements.{All-append, All-cons, All-nil}
use Rattle.le_layout.specs.declared.span.Span.{Span}
use Rattle.le_layout.specs.declared.token.Kind.{Kind}
use Rattle.le_layout.specs.declared.token.Kind.TheVariants as kinds
use Rattle.le_layout.specs.declared.token.Token.{Token}
use Rattle.le_layout.specs.declared.layout.Layout.{Layout}
use Rattle.le_layout.specs.Layout.{no_token}
use Rattle.le_layout.specs.Words.{tokens_of, token_of}
use Rattle.le_scope.specs.declared.parts.ListPart.{ListPart}
use Rattle.le_scope.specs.declared.parts.ListPart.TheVariants.{Cell, End, Item}
use Rattle.le_scope.specs.declared.phrase.PhraseForm.TheVariants.{List as ListForm}
use Rattle.le_scope.specs.Simple.{is_simple_phrase}
use Rattle.le_scope.specs.Lists.{is_open, is_close, is_bar, is_comma, ends_item, until_end, Phrase, simple, empty, list, Items, last, more, tail, spelled, items_spelled, IsPhraseOf, AreItemsOf, is_list}
use Rattle.le_scope.specs.Phrases.{phrase_form}
use Rattle.le_scope.specs.Parts.{parts_of_phrase, parts_of_items, passed, closes_next, part_at, opened_after, inside_after, with_part, parts_from, parts_of_list, one_more, paired, term_count, IsPartOf}
use Rattle.le_scope.proofs.ListForms.{form_tree}
use Rattle.le_scope.proofs.TokenLemmas.{span, span_more, span_none}
use Rattle.le_scope.proofs.ListsLaw.{is_text, phrase_texts, text_or, texts_end, close_ends, comma_ends, bar_ends, no_phrase, phrase_first, items_first}

-- ---- what a token gives, by its kind

-- what is known of a token of some kind
record Gives (k : Kind) (place : ℕ) (inside : Bool) (opened : List Bool) (ts : List Token) (part : Option ListPart) (then_inside : Bool) (then_opened : List Bool) : Type 0 where
  pub part_is : part_at k place inside (passed opened) ts ≡ part
  pub inside_is : inside_after k ≡ then_inside
  pub opened_is : opened_after k (closes_next ts) opened ≡ then_opened

step : (place : ℕ) (inside : Bool) (opened : List Bool) (t : Token) (ts : List Token) (part : Option ListPart) (i : Bool) (o : List Bool) → Gives t.kind place inside opened ts part i o → parts_from place inside opened (t ∷ ts) ≡ with_part part (parts_from (place + 1) i o ts)
step place inside opened t ts part i o g =
    ap (λ p. with_part p (parts_from (place + 1) (inside_after t.kind) (opened_after t.kind (closes_next ts) opened) ts)) g.part_is
    ∙ ap (λ b. with_part part (parts_from (place + 1) b (opened_after t.kind (closes_next ts) opened) ts)) g.inside_is
    ∙ ap (λ s. with_part part (parts_from (place + 1) i s ts)) g.opened_is

text_gives : (k : Kind) (place : ℕ) (inside : Bool) (opened : List Bool) (ts : List Token) → is_text k ≡ true → Gives k place inside opened ts (cond inside None (Some (Item (record { from = place; to = place + 1 + until_end ts })))) true opened
text_gives kinds.Word place inside opened ts h = record { part_is = refl; inside_is = refl; opened_is = refl }
text_gives kinds.Quote place inside opened ts h = record { part_is = refl; inside_is = refl; opened_is = refl }
text_gives kinds.Open place inside opened ts h = absurd (cc)
text_gives kinds.Close place inside opened ts h = absurd (cc)
text_gives kinds.Bar place inside opened ts h = absurd (cc)
text_gives kinds.Comma place inside opened ts h = absurd (cc)
text_gives kinds.Colon place inside opened ts h = absurd (cc)
text_gives kinds.Star place inside opened ts h = absurd (cc)
text_gives kinds.Stop place inside opened ts h = absurd (cc)

open_gives : (k : Kind) (place : ℕ) (inside : Bool) (opened : List Bool) (ts : List Token) → is_open k ≡ true → Gives k place inside opened ts (cond (closes_next ts) (Some End) (Some Cell)) false (closes_next ts ∷ opened)
open_gives kinds.Open place inside opened ts h = record { part_is = refl; inside_is = refl; opened_is = refl }
open_gives kinds.Word place inside opened ts h = absurd (cc)
open_gives kinds.Quote place inside opened ts h = absurd (cc)
open_gives kinds.Close place inside opened ts h = absurd (cc)
open_gives kinds.Bar place inside opened ts h = absurd (cc)
open_gives kinds.Comma place inside opened ts h = absurd (cc)
open_gives kinds.Colon place inside opened ts h = absurd (cc)
open_gives kinds.Star place inside opened ts h = absurd (cc)
open_gives kinds.Stop place inside opened ts h = absurd (cc)

close_gives : (k : Kind) (place : ℕ) (inside bar : Bool) (opened : List Bool) (ts : List Token) → is_close k ≡ true → Gives k place inside (bar ∷ opened) ts (cond bar None (Some End)) false opened
close_gives kinds.Close place inside bar opened ts h = record { part_is = refl; inside_is = refl; opened_is = refl }
close_gives kinds.Word place inside bar opened ts h = absurd (cc)
close_gives kinds.Quote place inside bar opened ts h = absurd (cc)
close_gives kinds.Open place inside bar opened ts h = absurd (cc)
close_gives kinds.Bar place inside bar opened ts h = absurd (cc)
close_gives kinds.Comma place inside bar opened ts h = absurd (cc)
close_gives kinds.Colon place inside bar opened ts h = absurd (cc)
close_gives kinds.Star place inside bar opened ts h = absurd (cc)
close_gives kinds.Stop place inside bar opened ts h = absurd (cc)

comma_gives : (k : Kind) (place : ℕ) (inside : Bool) (opened : List Bool) (ts : List Token) → is_comma k ≡ true → Gives k place inside opened ts (Some Cell) false opened
comma_gives kinds.Comma place inside opened ts h = record { part_is = refl; inside_is = refl; opened_is = refl }
comma_gives kinds.Word place inside opened ts h = absurd (cc)
comma_gives kinds.Quote place inside opened ts h = absurd (cc)
comma_gives kinds.Open place inside opened ts h = absurd (cc)
comma_gives kinds.Close place inside opened ts h = absurd (cc)
comma_gives kinds.Bar place inside opened ts h = absurd (cc)
comma_gives kinds.Colon place inside opened ts h = absurd (cc)
comma_gives kinds.Star place inside opened ts h = absurd (cc)
comma_gives kinds.Stop place inside opened ts h = absurd (cc)

bar_gives : (k : Kind) (place : ℕ) (inside bar : Bool) (opened : List Bool) (ts : List Token) → is_bar k ≡ true → Gives k place inside (bar ∷ opened) ts None false (true ∷ opened)
bar_gives kinds.Bar place inside bar opened ts h = record { part_is = refl; inside_is = refl; opened_is = refl }
bar_gives kinds.Word place inside bar opened ts h = absurd (cc)
bar_gives kinds.Quote place inside bar opened ts h = absurd (cc)
bar_gives kinds.Open place inside bar opened ts h = absurd (cc)
bar_gives kinds.Close place inside bar opened ts h = absurd (cc)
bar_gives kinds.Comma place inside bar opened ts h = absurd (cc)
bar_gives kinds.Colon place inside bar opened ts h = absurd (cc)
bar_gives kinds.Star place inside bar opened ts h = absurd (cc)
bar_gives kinds.Stop place inside bar opened ts h = absurd (cc)

-- ---- phrases without brackets

-- the other tokens of a phrase without brackets give nothing
walk_texts : (place : ℕ) (opened : List Bool) (ts rest : List Token) → list_all (λ t. is_text t.kind) ts ≡ true → parts_from place true opened (ts ++ rest) ≡ parts_from (place + length ts) true opened rest
walk_texts place opened [] rest h = ap (λ n. parts_from n true opened rest) (let g : place ≡ place + 0 = omega arith in g)
walk_texts place opened (t ∷ ts) rest h =
    let p = and_parts (is_text t.kind) (list_all (λ t. is_text t.kind) ts) h in
    step place true opened t (ts ++ rest) None true opened (text_gives t.kind place true opened (ts ++ rest) p.0)
    ∙ walk_texts (place + 1) opened ts rest p.1
    ∙ ap (λ n. parts_from n true opened rest) (let g : place + 1 + length ts ≡ place + length (t ∷ ts) = omega arith in g)

walk_simple : (l : Layout) (place : ℕ) (opened : List Bool) (ts : List Token) (e : Token) (rest : List Token) → is_simple_phrase l ts ≡ true → ends_item e.kind ≡ true → parts_from place false opened (ts ++ e ∷ rest) ≡ Item (record { from = place; to = place + length ts }) ∷ parts_from (place + length ts) true opened (e ∷ rest)
walk_simple l place opened [] e rest h k = absurd (let g = no_phrase l in cc)
walk_simple l place opened (t ∷ us) e rest h k =
    let p = and_parts (is_text t.kind) (list_all (λ t. is_text t.kind) us) (phrase_texts l t us h) in
    let count : until_end (us ++ e ∷ rest) ≡ length us = texts_end us e rest p.1 k in
    let to : place + 1 + until_end (us ++ e ∷ rest) ≡ place + length (t ∷ us) = omega (arith, count) in
    step place false opened t (us ++ e ∷ rest) (Some (Item (record { from = place; to = place + 1 + until_end (us ++ e ∷ rest) }))) true opened (text_gives t.kind place false opened (us ++ e ∷ rest) p.0)
    ∙ ap (λ s. Item (record { from = place; to = place + 1 + until_end (us ++ e ∷ rest) }) ∷ s) (walk_texts (place + 1) opened us (e ∷ rest) p.1)
    ∙ ap (λ n. Item (record { from = place; to = n }) ∷ parts_from (place + 1 + length us) true opened (e ∷ rest)) to
    ∙ ap (λ n. Item (record { from = place; to = place + length (t ∷ us) }) ∷ parts_from n true opened (e ∷ rest)) (let g : place + 1 + length us ≡ place + length (t ∷ us) = omega arith in g)

-- ---- the tokens of a tree give its symbols

not_closing : (ts : List Token) → is_close (get_or ts 0 no_token).kind ≡ false → closes_next ts ≡ false
not_closing [] h = refl
not_closing (t ∷ ts) h = h

mutual
  pub walk_phrase : (l : Layout) (p : Phrase) (place : ℕ) (opened : List Bool) (rest : List Token) → IsPhraseOf l p → (is_list p || ends_item (get_or rest 0 no_token).kind) ≡ true → parts_from place false opened (spelled p ++ rest) ≡ parts_of_phrase place p ++ parts_from (place + length (spelled p)) (not (is_list p)) opened rest
  walk_phrase l (simple ts) place opened [] h k = absurd (cc)
  walk_phrase l (simple ts) place opened (e ∷ rest) h k = walk_simple l place opened ts e rest h k
  walk_phrase l (empty opening closing) place opened rest h k =
      let first : Gives opening.kind place false opened (closing ∷ rest) (Some End) false (true ∷ opened) =
      subst (λ b. Gives opening.kind place false opened (closing ∷ rest) (cond b (Some End) (Some Cell)) false (b ∷ opened)) h.1 (open_gives opening.kind place false opened (closing ∷ rest) h.0) in
      step place false opened opening (closing ∷ rest) (Some End) false (true ∷ opened) first
      ∙ ap (λ s. End ∷ s) (step (place + 1) false (true ∷ opened) closing rest None false opened (close_gives closing.kind (place + 1) false true opened rest h.1)
      ∙ ap (λ n. parts_from n false opened rest) (let g : place + 1 + 1 ≡ place + length (opening ∷ closing ∷ []) = omega arith in g))
  walk_phrase l (list opening items) place opened rest h k =
      let ts = items_spelled items ++ rest in
      let none : closes_next ts ≡ false = not_closing ts (items_first l items rest h.1).1 in
      let first : Gives opening.kind place false opened ts (Some Cell) false (false ∷ opened) =
      subst (λ b. Gives opening.kind place false opened ts (cond b (Some End) (Some Cell)) false (b ∷ opened)) none (open_gives opening.kind place false opened ts h.0) in
      step place false opened opening ts (Some Cell) false (false ∷ opened) first
      ∙ ap (λ s. Cell ∷ s) (walk_items l items (place + 1) opened rest h.1
      ∙ ap (λ n. parts_of_items (place + 1) items ++ parts_from n false opened rest) (let g : place + 1 + length (items_spelled items) ≡ place + length (opening ∷ items_spelled items) = omega arith in g))

  pub walk_items : (l : Layout) (is : Items) (place : ℕ) (opened : List Bool) (rest : List Token) → AreItemsOf l is → parts_from place false (false ∷ opened) (items_spelled is ++ rest) ≡ parts_of_items place is ++ parts_from (place + length (items_spelled is)) false opened rest
  walk_items l (last p closing) place opened rest h =
      let k = close_ends closing.kind 0 (record { phrase = 0; items = 0; last = 0 }) h.1 in
      let n = place + length (spelled p) in
      let size = length-append (spelled p) (closing ∷ []) in
      ap (parts_from place false (false ∷ opened)) (append_assoc (spelled p) (closing ∷ []) rest)
      ∙ walk_phrase l p place (false ∷ opened) (closing ∷ rest) h.0 (text_or (is_list p) (ends_item closing.kind) k.0)
      ∙ ap (λ s. parts_of_phrase place p ++ s) (step n (not (is_list p)) (false ∷ opened) closing rest (Some End) false opened (close_gives closing.kind n (not (is_list p)) false opened rest h.1))
      ∙ sym (append_assoc (parts_of_phrase place p) (End ∷ []) (parts_from (n + 1) false opened rest))
      ∙ ap (λ m. (parts_of_phrase place p ++ End ∷ []) ++ parts_from m false opened rest) (let g : n + 1 ≡ place + length (spelled p ++ closing ∷ []) = omega (arith, size) in g)
  walk_items l (more p comma is) place opened rest h =
      let k = comma_ends comma.kind 0 (record { phrase = 0; items = 0; last = 0 }) h.1 in
      let n = place + length (spelled p) in
      let size = length-append (spelled p) (comma ∷ items_spelled is) in
      ap (parts_from place false (false ∷ opened)) (append_assoc (spelled p) (comma ∷ items_spelled is) rest)
      ∙ walk_phrase l p place (false ∷ opened) (comma ∷ (items_spelled is ++ rest)) h.0 (text_or (is_list p) (ends_item comma.kind) k.0)
      ∙ ap (λ s. parts_of_phrase place p ++ s) (step n (not (is_list p)) (false ∷ opened) comma (items_spelled is ++ rest) (Some Cell) false (false ∷ opened) (comma_gives comma.kind n (not (is_list p)) (false ∷ opened) (items_spelled is ++ rest) h.1)
      ∙ ap (λ s. Cell ∷ s) (walk_items l is (n + 1) opened rest h.2))
      ∙ sym (append_assoc (parts_of_phrase place p) (Cell ∷ parts_of_items (n + 1) is) (parts_from (n + 1 + length (items_spelled is)) false opened rest))
      ∙ ap (λ m. (parts_of_phrase place p ++ Cell ∷ parts_of_items (n + 1) is) ++ parts_from m false opened rest) (let g : n + 1 + length (items_spelled is) ≡ place + length (spelled p ++ comma ∷ items_spelled is) = omega (arith, size) in g)
  walk_items l (tail p bar q closing) place opened rest h =
      let k = bar_ends bar.kind 0 (record { phrase = 0; items = 0; last = 0 }) h.1 in
      let j = close_ends closing.kind 0 (record { phrase = 0; items = 0; last = 0 }) h.3 in
      let n = place + length (spelled p) in
      let m = n + 1 + length (spelled q) in
      let us = spelled q ++ closing ∷ rest in
      let same : (spelled q ++ closing ∷ []) ++ rest ≡ us = append_assoc (spelled q) (closing ∷ []) rest in
      let size = length-append (spelled p) (bar ∷ (spelled q ++ closing ∷ [])) in
      let inner = length-append (spelled q) (closing ∷ []) in
      ap (parts_from place false (false ∷ opened)) (append_assoc (spelled p) (bar ∷ (spelled q ++ closing ∷ [])) rest ∙ ap (λ s. spelled p ++ bar ∷ s) same)
      ∙ walk_phrase l p place (false ∷ opened) (bar ∷ us) h.0 (text_or (is_list p) (ends_item bar.kind) k.0)
      ∙ ap (λ s. parts_of_phrase place p ++ s) (step n (not (is_list p)) (false ∷ opened) bar us None false (true ∷ opened) (bar_gives bar.kind n (not (is_list p)) false opened us h.1)
      ∙ walk_phrase l q (n + 1) (true ∷ opened) (closing ∷ rest) h.2 (text_or (is_list q) (ends_item closing.kind) j.0)
      ∙ ap (λ s. parts_of_phrase (n + 1) q ++ s) (step m (not (is_list q)) (true ∷ opened) closing rest None false opened (close_gives closing.kind m (not (is_list q)) true opened rest h.3)))
      ∙ sym (append_assoc (parts_of_phrase place p) (parts_of_phrase (n + 1) q) (parts_from (m + 1) false opened rest))
      ∙ ap (λ x. (parts_of_phrase place p ++ parts_of_phrase (n + 1) q) ++ parts_from x false opened rest) (let g : m + 1 ≡ place + length (spelled p ++ bar ∷ (spelled q ++ closing ∷ [])) = omega (arith, size, inner) in g)

-- The symbols of a list are those of its tree.
pub tree_parts : (l : Layout) (tokens : Span) (p : Phrase) → IsPhraseOf l p → is_list p ≡ true → tokens_of l tokens ≡ spelled p → parts_of_list l tokens ≡ parts_of_phrase tokens.from p
unfolding parts_of_list
tree_parts l tokens p h k e =
    ap (parts_from tokens.from false []) (e ∙ sym (append-nil (spelled p)))
    ∙ walk_phrase l p tokens.from [] [] h (ap (λ b. b || false) k)
    ∙ append-nil (parts_of_phrase tokens.from p)

-- ---- such symbols are one term

pair_more : (o : Option ℕ) → paired (one_more (one_more o)) ≡ one_more o
pair_more None = refl
pair_more (Some n) =
    cond-true (nat_le 2 (n + 1 + 1)) (Some (n + 1 + 1 - 1)) None (le-leb 2 (n + 1 + 1) (omega arith))
    ∙ ap Some (let g : n + 1 + 1 - 1 ≡ n + 1 = omega arith in g)

mutual
  pub phrase_term : (p : Phrase) (place : ℕ) (rest : List ListPart) → term_count (parts_of_phrase place p ++ rest) ≡ one_more (term_count rest)
  phrase_term (simple ts) place rest = refl
  phrase_term (empty opening closing) place rest = refl
  phrase_term (list opening items) place rest = ap paired (items_term items (place + 1) rest) ∙ pair_more (term_count rest)

  items_term : (is : Items) (place : ℕ) (rest : List ListPart) → term_count (parts_of_items place is ++ rest) ≡ one_more (one_more (term_count rest))
  items_term (last p closing) place rest =
      ap term_count (append_assoc (parts_of_phrase place p) (End ∷ []) rest) ∙ phrase_term p place (End ∷ rest)
  items_term (more p comma is) place rest =
      let n = place + length (spelled p) + 1 in
      ap term_count (append_assoc (parts_of_phrase place p) (Cell ∷ parts_of_items n is) rest)
      ∙ phrase_term p place (Cell ∷ (parts_of_items n is ++ rest))
      ∙ ap one_more (ap paired (items_term is n rest) ∙ pair_more (term_count rest))
  items_term (tail p bar q closing) place rest =
      let n = place + length (spelled p) + 1 in
      ap term_count (append_assoc (parts_of_phrase place p) (parts_of_phrase n q) rest)
      ∙ phrase_term p place (parts_of_phrase n q ++ rest)
      ∙ ap one_more (phrase_term q n rest)

-- ---- each item is a phrase without brackets

drop_on : (l : Layout) (place : ℕ) (xs rest : List Token) → drop place l.tokens ≡ xs ++ rest → drop (place + length xs) l.tokens ≡ rest
drop_on l place xs rest e = sym (drop-drop (length xs) place l.tokens) ∙ ap (drop (length xs)) e ∙ drop_at xs rest (length xs) refl

mutual
  pub phrase_parts_fit : (l : Layout) (p : Phrase) (place : ℕ) (rest : List Token) → IsPhraseOf l p → drop place l.tokens ≡ spelled p ++ rest → All (IsPartOf l) (parts_of_phrase place p)
  phrase_parts_fit l (simple ts) place rest h e =
      let some = (phrase_first l (simple ts) rest h).0 in
      let size = ap length e in
      let all = length-append ts rest in
      let whole = length-drop place l.tokens in
      let width : place + length ts - place ≡ length ts = omega arith in
      let here : slice_range l.tokens place (place + length ts) ≡ ts = ap (λ n. take n (drop place l.tokens)) width ∙ ap (take (length ts)) e ∙ take_at ts rest (length ts) refl in
      All-cons (IsPartOf l) (Item (record { from = place; to = place + length ts })) [] (omega (arith, some), omega (arith, size, all, whole, some), ap (is_simple_phrase l) here ∙ h) (All-nil (IsPartOf l))
  phrase_parts_fit l (empty opening closing) place rest h e = All-cons (IsPartOf l) End [] tt (All-nil (IsPartOf l))
  phrase_parts_fit l (list opening items) place rest h e =
      All-cons (IsPartOf l) Cell (parts_of_items (place + 1) items) tt (items_parts_fit l items (place + 1) rest h.1 (drop_on l place (opening ∷ []) (items_spelled items ++ rest) e))

  items_parts_fit : (l : Layout) (is : Items) (place : ℕ) (rest : List Token) → AreItemsOf l is → drop place l.tokens ≡ items_spelled is ++ rest → All (IsPartOf l) (parts_of_items place is)
  items_parts_fit l (last p closing) place rest h e =
      All-append (IsPartOf l) (parts_of_phrase place p) (End ∷ [])
      (phrase_parts_fit l p place (closing ∷ rest) h.0 (e ∙ append_assoc (spelled p) (closing ∷ []) rest))
      (All-cons (IsPartOf l) End [] tt (All-nil (IsPartOf l)))
  items_parts_fit l (more p comma is) place rest h e =
      let n = place + length (spelled p) + 1 in
      let there = e ∙ append_assoc (spelled p) (comma ∷ items_spelled is) rest in
      All-append (IsPartOf l) (parts_of_phrase place p) (Cell ∷ parts_of_items n is)
      (phrase_parts_fit l p place (comma ∷ (items_spelled is ++ rest)) h.0 there)
      (All-cons (IsPartOf l) Cell (parts_of_items n is) tt (items_parts_fit l is n rest h.2 (drop_on l (place + length (spelled p)) (comma ∷ []) (items_spelled is ++ rest) (drop_on l place (spelled p) (comma ∷ (items_spelled is ++ rest)) there))))
  items_parts_fit l (tail p bar q closing) place rest h e =
      let n = place + length (spelled p) + 1 in
      let us = (spelled q ++ closing ∷ []) ++ rest in
      let there = e ∙ append_assoc (spelled p) (bar ∷ (spelled q ++ closing ∷ [])) rest in
      All-append (IsPartOf l) (parts_of_phrase place p) (parts_of_phrase n q)
      (phrase_parts_fit l p place (bar ∷ us) h.0 there)
      (phrase_parts_fit l q n (closing ∷ rest) h.2 (drop_on l (place + length (spelled p)) (bar ∷ []) us (drop_on l place (spelled p) (bar ∷ us) there) ∙ append_assoc (spelled q) (closing ∷ []) rest))

pub list_parts_fit : (l : Layout) (tokens : Span) → phrase_form l (tokens_of l tokens) ≡ Some ListForm → All (IsPartOf l) (parts_of_list l tokens)
list_parts_fit l tokens h =
    let tree = form_tree l (tokens_of l tokens) h in
    let count = tokens.to - tokens.from in
    let rest = drop count (drop tokens.from l.tokens) in
    let here : drop tokens.from l.tokens ≡ spelled tree.phrase ++ rest = sym (take-append-drop count (drop tokens.from l.tokens)) ∙ ap (λ s. s ++ rest) tree.whole in
    subst (λ s. All (IsPartOf l) s) (sym (tree_parts l tokens tree.phrase tree.valid tree.lists tree.whole)) (phrase_parts_fit l tree.phrase tokens.from rest tree.valid here)

pub list_parts_term : (l : Layout) (tokens : Span) → phrase_form l (tokens_of l tokens) ≡ Some ListForm → term_count (parts_of_list l tokens) ≡ Some 1
list_parts_term l tokens h =
    let tree = form_tree l (tokens_of l tokens) h in
    ap term_count (tree_parts l tokens tree.phrase tree.valid tree.lists tree.whole ∙ sym (append-nil (parts_of_phrase tokens.from tree.phrase)))
    ∙ phrase_term tree.phrase tokens.from []

-- ---- from token to token

pub closes_at : (l : Layout) (at to : ℕ) → at < to → to ≤ length l.tokens → is_close (token_of l at).kind ≡ closes_next (span l at to)
closes_at l at to low high = sym (ap closes_next (span_more l at to low high))

pub parts_step : (l : Layout) (at to : ℕ) (inside : Bool) (op : List Bool) (old new all : List ListPart) (bar closing : Bool) (part : Option ListPart) (i : Bool) (o : List Bool) → at < to → to ≤ length l.tokens → bar ≡ passed op → part ≡ part_at (token_of l at).kind at inside bar (span l (at + 1) to) → closing ≡ closes_next (span l (at + 1) to) → i ≡ inside_after (token_of l at).kind → o ≡ opened_after (token_of l at).kind closing op → ((rest : List ListPart) → new ++ rest ≡ old ++ with_part part rest) → old ++ parts_from at inside op (span l at to) ≡ all → new ++ parts_from (at + 1) i o (span l (at + 1) to) ≡ all
parts_step l at to inside op old new all bar closing part i o low high b p c ei eo pushed h =
    let t = token_of l at in
    let ts = span l (at + 1) to in
    let whole = part_at t.kind at inside (passed op) ts in
    pushed (parts_from (at + 1) i o ts)
    ∙ ap (λ x. old ++ with_part x (parts_from (at + 1) i o ts)) (p ∙ ap (λ x. part_at t.kind at inside x ts) b)
    ∙ ap (λ x. old ++ with_part whole (parts_from (at + 1) x o ts)) ei
    ∙ ap (λ x. old ++ with_part whole (parts_from (at + 1) (inside_after t.kind) x ts)) (eo ∙ ap (λ x. opened_after t.kind x op) c)
    ∙ sym (ap (λ s. old ++ parts_from at inside op s) (span_more l at to low high))
    ∙ h

pub parts_end : (l : Layout) (at to : ℕ) (inside : Bool) (op : List Bool) (parts all : List ListPart) → to ≤ at → parts ++ parts_from at inside op (span l at to) ≡ all → parts ≡ all
parts_end l at to inside op parts all h e =
    sym (append-nil parts) ∙ sym (ap (λ s. parts ++ parts_from at inside op s) (span_none l at to h)) ∙ e

pub push_some : (old new : List ListPart) (part : ListPart) (rest : List ListPart) → new ≡ old ++ part ∷ [] → new ++ rest ≡ old ++ part ∷ rest
push_some old new part rest e = ap (λ s. s ++ rest) e ∙ append_assoc old (part ∷ []) rest
