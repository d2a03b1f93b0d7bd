-- The term of a list is that of the tree of its tokens.
use Rattle.std.proofs.Common.{◌≡◌, ℕ, ◌+◌, ◌-◌, Bool, true, false, ◌||◌, Option, Some, None, Result, Ok, Err, List, [], ◌∷◌, ◌++◌, length, map, take, drop, slice_range, sym, refl, ap, ◌∙◌, arith, append_assoc, append-nil}
use Rattle.std.proofs.lemmas.List.{take_at, drop_at, drop-drop, map-append}
use Rattle.std.specs.Option.{option_or, is_some}
use Rattle.le_base.specs.declared.stop.Refusal.{Refusal}
use Rattle.le_layout.specs.declared.token.Token.{Token}
use Rattle.le_layout.specs.declared.layout.Layout.{Layout}
use Rattle.le_templates.specs.declared.part.Template.{Template}
use Rattle.le_terms.specs.Tree.{Tree, nil, flat, tree_of, tree_of-flat}
use Rattle.le_terms.specs.declared.term.Sym.{Sym}
use Rattle.le_terms.specs.declared.term.Sym.TheVariants.{Cons}
use Rattle.le_scope.specs.declared.phrase.PhraseForm.{PhraseForm}
use Rattle.le_scope.specs.declared.phrase.PhraseForm.TheVariants.{List as ListForm}
use Rattle.le_scope.specs.declared.parts.ListPart.{ListPart}
use Rattle.le_scope.specs.declared.parts.ListPart.TheVariants.{Cell, End}
use Rattle.le_scope.specs.Lists.{Phrase, simple, empty, list, Items, last, more, tail, spelled, items_spelled, IsPhraseOf, is_list}
use Rattle.le_scope.specs.Parts.{parts_of_phrase, parts_of_items, parts_from}
use Rattle.le_scope.specs.Scopes.{ScopeState}
use Rattle.le_scope.proofs.PartLemmas.{walk_phrase}
use Rattle.le_scope.proofs.ListForms.{form_tree, tree_form}
use Rattle.le_scope.proofs.LengthsLaw.{no_simple}
use Rattle.le_scope.specs.Phrases.{simple_form, is_simple_phrase, list_form, phrase_form}
use Rattle.le_match.specs.Terms.{Found, term_found, by_simple_form, simple_term, Member, item, list_end, member, members, symbols_found, onto_symbols, symbols_of, tree_found, term_of}
use Rattle.le_match.specs.Lists.{as_head, cell_found, tree_term, items_term}
use Rattle.le_match.proofs.TermLemmas.{by_form_is, other_form}
use Rattle.le_match.proofs.ListLemmas.{onto_more}

-- the symbols of a term that was found, and of what is found after it
abbrev pub symbols_then : Result (Found Tree) Refusal → (List (List ℕ) → ScopeState → Result (Found (List Sym)) Refusal) → Result (Found (List Sym)) Refusal
symbols_then (Ok f) rest = onto_symbols (flat f.value) (rest f.names f.scope)
symbols_then (Err refusal) rest = Err refusal

item_then : (r : Result (Found Tree) Refusal) (rest : List (List ℕ) → ScopeState → Result (Found (List Sym)) Refusal) → elim (symbols_found r) as (λ _. Result (Found (List Sym)) Refusal) [ Ok f ↦ onto_symbols f.value (rest f.names f.scope) | Err refusal ↦ Err refusal ] ≡ symbols_then r rest
item_then (Ok f) rest = refl
item_then (Err refusal) rest = refl

-- a cell before the symbols of its head and of its tail
head_then : (f : Found Tree) (r : Result (Found Tree) Refusal) (rest : List (List ℕ) → ScopeState → Result (Found (List Sym)) Refusal) → onto_symbols (Cons ∷ []) (onto_symbols (flat f.value) (symbols_then r rest)) ≡ symbols_then (as_head f.value r) rest
head_then f (Ok g) rest =
    let s = rest g.names g.scope in
    sym (onto_more (Cons ∷ []) (flat f.value) (Cons ∷ flat f.value) (onto_symbols (flat g.value) s) refl)
    ∙ sym (onto_more (Cons ∷ flat f.value) (flat g.value) (Cons ∷ (flat f.value ++ flat g.value)) s refl)
head_then f (Err refusal) rest = refl

cell_then : (r : Result (Found Tree) Refusal) (tail_of : List (List ℕ) → ScopeState → Result (Found Tree) Refusal) (symbols rest : List (List ℕ) → ScopeState → Result (Found (List Sym)) Refusal) → ((ns : List (List ℕ)) (s : ScopeState) → symbols ns s ≡ symbols_then (tail_of ns s) rest) → onto_symbols (Cons ∷ []) (symbols_then r symbols) ≡ symbols_then (cell_found r tail_of) rest
cell_then (Ok f) tail_of symbols rest e =
    ap (λ v. onto_symbols (Cons ∷ []) (onto_symbols (flat f.value) v)) (e f.names f.scope) ∙ head_then f (tail_of f.names f.scope) rest
cell_then (Err refusal) tail_of symbols rest e = refl

map_before : (all : List Token) (xs ys : List ListPart) (rest : List Member) → map (member all) (xs ++ ys) ++ rest ≡ map (member all) xs ++ (map (member all) ys ++ rest)
map_before all xs ys rest = ap (λ s. s ++ rest) (map-append (member all) xs ys) ∙ append_assoc (map (member all) xs) (map (member all) ys) rest

drop_on : (all : List Token) (place : ℕ) (xs rest : List Token) → drop place all ≡ xs ++ rest → drop (place + length xs) all ≡ rest
drop_on all place xs rest e = sym (drop-drop (length xs) place all) ∙ ap (drop (length xs)) e ∙ drop_at xs rest (length xs) refl

-- the symbols of the parts of a phrase among tokens are those of its term, before what is found for the parts that follow
mutual
  phrase_symbols : (us : List Template) (q : Bool) (l : Layout) (all : List Token) (p : Phrase) (names : List (List ℕ)) (scope : ScopeState) (place : ℕ) (after : List Token) (rest : List Member) → drop place all ≡ spelled p ++ after → symbols_of us names scope q l (map (member all) (parts_of_phrase place p) ++ rest) ≡ symbols_then (tree_term us names scope q l p) (λ ns s. symbols_of us ns s q l rest)
  phrase_symbols us q l all (simple ts) names scope place after rest e =
      let width : place + length ts - place ≡ length ts = omega arith in
      let here : slice_range all place (place + length ts) ≡ ts = ap (λ n. take n (drop place all)) width ∙ ap (take (length ts)) e ∙ take_at ts after (length ts) refl in
      ap (λ xs. symbols_of us names scope q l (item xs ∷ rest)) here ∙ item_then (simple_term us names scope q l ts) (λ ns s. symbols_of us ns s q l rest)
  phrase_symbols us q l all (empty opening closing) names scope place after rest e = refl
  phrase_symbols us q l all (list opening items) names scope place after rest e =
      items_symbols us q l all items names scope (place + 1) after rest (drop_on all place (opening ∷ []) (items_spelled items ++ after) e)

  items_symbols : (us : List Template) (q : Bool) (l : Layout) (all : List Token) (is : Items) (names : List (List ℕ)) (scope : ScopeState) (place : ℕ) (after : List Token) (rest : List Member) → drop place all ≡ items_spelled is ++ after → onto_symbols (Cons ∷ []) (symbols_of us names scope q l (map (member all) (parts_of_items place is) ++ rest)) ≡ symbols_then (items_term us names scope q l is) (λ ns s. symbols_of us ns s q l rest)
  items_symbols us q l all (last p closing) names scope place after rest e =
      ap (λ ms. onto_symbols (Cons ∷ []) (symbols_of us names scope q l ms)) (map_before all (parts_of_phrase place p) (End ∷ []) rest)
      ∙ ap (onto_symbols (Cons ∷ [])) (phrase_symbols us q l all p names scope place (closing ∷ after) (list_end ∷ rest) (e ∙ append_assoc (spelled p) (closing ∷ []) after))
      ∙ cell_then (tree_term us names scope q l p) (λ ns s. term_found ns s nil) (λ ns s. symbols_of us ns s q l (list_end ∷ rest)) (λ ns s. symbols_of us ns s q l rest) (λ ns s. refl)
  items_symbols us q l all (more p comma is) names scope place after rest e =
      let n = place + length (spelled p) + 1 in
      let there = e ∙ append_assoc (spelled p) (comma ∷ items_spelled is) after in
      let next = drop_on all (place + length (spelled p)) (comma ∷ []) (items_spelled is ++ after) (drop_on all place (spelled p) (comma ∷ (items_spelled is ++ after)) there) in
      let following = map (member all) (Cell ∷ parts_of_items n is) ++ rest in
      ap (λ ms. onto_symbols (Cons ∷ []) (symbols_of us names scope q l ms)) (map_before all (parts_of_phrase place p) (Cell ∷ parts_of_items n is) rest)
      ∙ ap (onto_symbols (Cons ∷ [])) (phrase_symbols us q l all p names scope place (comma ∷ (items_spelled is ++ after)) following there)
      ∙ cell_then (tree_term us names scope q l p) (λ ns s. items_term us ns s q l is) (λ ns s. symbols_of us ns s q l following) (λ ns s. symbols_of us ns s q l rest)
      (λ ns s. items_symbols us q l all is ns s n after rest next)
  items_symbols us q l all (tail p bar r closing) names scope place after rest e =
      let n = place + length (spelled p) + 1 in
      let us' = (spelled r ++ closing ∷ []) ++ after in
      let there = e ∙ append_assoc (spelled p) (bar ∷ (spelled r ++ closing ∷ [])) after in
      let next = drop_on all (place + length (spelled p)) (bar ∷ []) us' (drop_on all place (spelled p) (bar ∷ us') there) ∙ append_assoc (spelled r) (closing ∷ []) after in
      let following = map (member all) (parts_of_phrase n r) ++ rest in
      ap (λ ms. onto_symbols (Cons ∷ []) (symbols_of us names scope q l ms)) (map_before all (parts_of_phrase place p) (parts_of_phrase n r) rest)
      ∙ ap (onto_symbols (Cons ∷ [])) (phrase_symbols us q l all p names scope place (bar ∷ us') following there)
      ∙ cell_then (tree_term us names scope q l p) (λ ns s. tree_term us ns s q l r) (λ ns s. symbols_of us ns s q l following) (λ ns s. symbols_of us ns s q l rest)
      (λ ns s. phrase_symbols us q l all r ns s n (closing ∷ after) rest next)

-- the parts of a list's tokens are those of its tree
parts_are : (l : Layout) (p : Phrase) → IsPhraseOf l p → is_list p ≡ true → members (spelled p) ≡ map (member (spelled p)) (parts_of_phrase 0 p) ++ []
parts_are l p h k =
    ap (map (member (spelled p)))
    (ap (parts_from 0 false []) (sym (append-nil (spelled p))) ∙ walk_phrase l p 0 [] [] h (ap (λ b. b || false) k) ∙ append-nil (parts_of_phrase 0 p))
    ∙ sym (append-nil (map (member (spelled p)) (parts_of_phrase 0 p)))

whole : (r : Result (Found Tree) Refusal) → tree_found (symbols_then r (λ ns s. Ok (record { value = []; names = ns; scope = s }))) ≡ r
whole (Ok f) = ap (λ t. Ok (record { value = t; names = f.names; scope = f.scope })) (ap tree_of (append-nil (flat f.value)) ∙ tree_of-flat f.value)
whole (Err refusal) = refl

list_is_tree : (us : List Template) (names : List (List ℕ)) (scope : ScopeState) (q : Bool) (l : Layout) (p : Phrase) → IsPhraseOf l p → is_list p ≡ true → term_of us names scope q l (spelled p) ≡ tree_term us names scope q l p
list_is_tree us names scope q l p h k =
    by_form_is us names scope q l (spelled p) (Some ListForm) (tree_form l p h k)
    ∙ ap (λ ms. tree_found (symbols_of us names scope q l ms)) (parts_are l p h k)
    ∙ ap tree_found (phrase_symbols us q l (spelled p) p names scope 0 [] [] (sym (append-nil (spelled p))))
    ∙ whole (tree_term us names scope q l p)

-- ---- phrases without brackets

not_simple : (l : Layout) (p : Phrase) (ts : List Token) → IsPhraseOf l p → is_list p ≡ true → ts ≡ spelled p → is_simple_phrase l ts ≡ false
not_simple l (simple us) ts h k e = absurd (cc)
not_simple l (empty opening closing) ts h k e = ap (is_simple_phrase l) e ∙ no_simple l opening (closing ∷ []) h.0
not_simple l (list opening items) ts h k e = ap (is_simple_phrase l) e ∙ no_simple l opening (items_spelled items) h.0

simple_form_is : (l : Layout) (ts : List Token) (f : PhraseForm) → simple_form l ts ≡ Some f → phrase_form l ts ≡ Some f
unfolding phrase_form
simple_form_is l ts f e = ap (λ o. option_or o (list_form l ts)) e

simple_is_tree : (us : List Template) (names : List (List ℕ)) (scope : ScopeState) (q : Bool) (l : Layout) (ts : List Token) → is_simple_phrase l ts ≡ true → term_of us names scope q l ts ≡ simple_term us names scope q l ts
simple_is_tree us names scope q l ts h = cases (simple_form l ts) refl h
  where
    cases : (o : Option PhraseForm) → simple_form l ts ≡ o → is_some o ≡ true → term_of us names scope q l ts ≡ by_simple_form us names scope q l ts o
    cases None e k = absurd (cc)
    cases (Some f) e k =
        let form : phrase_form l ts ≡ Some f = simple_form_is l ts f e in
        by_form_is us names scope q l ts (Some f) form
        ∙ other_form us names scope q l ts f (λ g. (let t = form_tree l ts (form ∙ ap Some g) in let no = not_simple l t.phrase ts t.valid t.lists t.whole in cc))

-- the term of each phrase is that of its tree
pub phrase_is_tree : (us : List Template) (names : List (List ℕ)) (scope : ScopeState) (q : Bool) (l : Layout) (p : Phrase) → IsPhraseOf l p → term_of us names scope q l (spelled p) ≡ tree_term us names scope q l p
phrase_is_tree us names scope q l (simple ts) h = simple_is_tree us names scope q l ts h
phrase_is_tree us names scope q l (empty opening closing) h = list_is_tree us names scope q l (empty opening closing) h refl
phrase_is_tree us names scope q l (list opening items) h = list_is_tree us names scope q l (list opening items) h refl
