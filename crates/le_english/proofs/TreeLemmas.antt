-- The tokens of a term's phrase have a tree, by which they read as the term.
use Rattle.std.proofs.Common.{◌≡◌, ℕ, Bool, true, false, ◌||◌, List, [], ◌∷◌, ◌++◌, length, take, drop, Result, Ok, sym, refl, ap, ◌∙◌, take-append-drop}
use Rattle.le_base.specs.declared.stop.Refusal.{Refusal}
use Rattle.le_layout.specs.declared.token.Token.{Token}
use Rattle.le_layout.specs.declared.layout.Layout.{Layout}
use Rattle.le_layout.specs.Spellings.{Spelling, spellings}
use Rattle.le_templates.specs.declared.part.Template.{Template}
use Rattle.le_terms.specs.Tree.{Tree, nil, cell}
use Rattle.le_scope.specs.Lists.{is_open, is_close, is_comma, is_bar, Phrase, simple, empty, list, spelled, Items, last, more, tail, items_spelled, IsPhraseOf, AreItemsOf}
use Rattle.le_scope.specs.Phrases.{is_phrase, is_simple_phrase, is_list_phrase}
use Rattle.le_scope.specs.Scopes.{ScopeState}
use Rattle.le_scope.proofs.LengthsLaw.{phrase_or_list, tree_list}
use Rattle.le_match.specs.Terms.{Found, term_of, term_found}
use Rattle.le_match.specs.Lists.{as_head, cell_found, tree_term, items_term}
use Rattle.le_match.proofs.ListTerms.{phrase_is_tree}
use Rattle.le_english.specs.Phrases.{open_sign, close_sign, comma_sign, bar_sign}
use Rattle.le_english.specs.Saying.{Reads}
use Rattle.le_english.proofs.PhraseLemmas.{ReadsSimply}
use Rattle.le_english.proofs.ReadingLemmas.{spelled-head, spelled-tail, spelled-front, spelled-back}

-- a term that is found with these names
abbrev pub found : Tree → List (List ℕ) → ScopeState → Result (Found Tree) Refusal
found tree names scope = Ok (record { value = tree; names = names; scope = scope })

-- these tokens have a tree, by which they read as this term
pub record TreeAt (users : List Template) (names : List (List ℕ)) (scope : ScopeState) (term : Tree) (after : ScopeState) (layout : Layout) (ts : List Token) : Type 0 where
  pub phrase : Phrase
  pub valid : IsPhraseOf layout phrase
  pub whole : ts ≡ spelled phrase
  pub reads : tree_term users names scope false layout phrase ≡ found term names after

-- so do the tokens that say a phrase, wherever they stand
abbrev pub ReadsAsTree : List Template → List (List ℕ) → ScopeState → List Spelling → Tree → ScopeState → Type 0
ReadsAsTree users names scope ss term after = (layout : Layout) (ts : List Token) → spellings layout ts ≡ ss → TreeAt users names scope term after layout ts

-- a phrase with these tokens after it are the items of a list, and read as the cell of the phrase's term and this one
pub record ItemsFrom (users : List Template) (names : List (List ℕ)) (scope : ScopeState) (term : Tree) (after : ScopeState) (layout : Layout) (ts : List Token) (p : Phrase) : Type 0 where
  pub items : Items
  pub valid : AreItemsOf layout items
  pub whole : spelled p ++ ts ≡ items_spelled items
  pub reads : (start : ScopeState) (head : Tree) → tree_term users names start false layout p ≡ found head names scope → items_term users names start false layout items ≡ found (cell head term) names after

abbrev pub ReadsAsRest : List Template → List (List ℕ) → ScopeState → List Spelling → Tree → ScopeState → Type 0
ReadsAsRest users names scope ss term after = (layout : Layout) (ts : List Token) → spellings layout ts ≡ ss → (p : Phrase) → IsPhraseOf layout p → ItemsFrom users names scope term after layout ts p

-- what says this is a phrase without brackets, wherever it stands
abbrev pub IsSimple : List Spelling → Type 0
IsSimple ss = (layout : Layout) (ts : List Token) → spellings layout ts ≡ ss → is_simple_phrase layout ts ≡ true

kind-open : (layout : Layout) (t : Token) (ts : List Token) (ss : List Spelling) → spellings layout (t ∷ ts) ≡ open_sign ∷ ss → is_open t.kind ≡ true
kind-open layout t ts ss e = ap (λ (s : Spelling). is_open s.kind) (spelled-head layout t ts open_sign ss e)

kind-close : (layout : Layout) (t : Token) (ts : List Token) (ss : List Spelling) → spellings layout (t ∷ ts) ≡ close_sign ∷ ss → is_close t.kind ≡ true
kind-close layout t ts ss e = ap (λ (s : Spelling). is_close s.kind) (spelled-head layout t ts close_sign ss e)

kind-comma : (layout : Layout) (t : Token) (ts : List Token) (ss : List Spelling) → spellings layout (t ∷ ts) ≡ comma_sign ∷ ss → is_comma t.kind ≡ true
kind-comma layout t ts ss e = ap (λ (s : Spelling). is_comma s.kind) (spelled-head layout t ts comma_sign ss e)

kind-bar : (layout : Layout) (t : Token) (ts : List Token) (ss : List Spelling) → spellings layout (t ∷ ts) ≡ bar_sign ∷ ss → is_bar t.kind ≡ true
kind-bar layout t ts ss e = ap (λ (s : Spelling). is_bar s.kind) (spelled-head layout t ts bar_sign ss e)

-- the tokens of what says two things are those of the one and those of the other
parted : (layout : Layout) (ts : List Token) (front back : List Spelling) → spellings layout ts ≡ front ++ back → take (length front) ts ++ drop (length front) ts ≡ ts
parted layout ts front back e = take-append-drop (length front) ts

module _ (users : List Template) (names : List (List ℕ)) where
  pub leaf-tree : (scope after : ScopeState) (ss : List Spelling) (term : Tree) → IsSimple ss → ReadsSimply users names scope ss term after → ReadsAsTree users names scope ss term after
  leaf-tree scope after ss term s r layout ts e = record { phrase = simple ts; valid = s layout ts e; whole = refl; reads = r layout ts e }

  pub nil-tree : (scope : ScopeState) → ReadsAsTree users names scope (open_sign ∷ close_sign ∷ []) nil scope
  nil-tree scope layout [] e = cc
  nil-tree scope layout (t ∷ []) e = cc
  nil-tree scope layout (t ∷ u ∷ []) e =
      record {
        phrase = empty t u;
        valid = (kind-open layout t (u ∷ []) (close_sign ∷ []) e, kind-close layout u [] [] (spelled-tail layout t (u ∷ []) open_sign (close_sign ∷ []) e));
        whole = refl;
        reads = refl;
      }
  nil-tree scope layout (t ∷ u ∷ v ∷ ts) e = cc

  pub nil-rest : (scope : ScopeState) → ReadsAsRest users names scope (close_sign ∷ []) nil scope
  nil-rest scope layout [] e p h = cc
  nil-rest scope layout (t ∷ []) e p h =
      record {
        items = last p t;
        valid = (h, kind-close layout t [] [] e);
        whole = refl;
        reads = λ start head r. ap (λ f. cell_found f (λ ns s. term_found ns s nil)) r;
      }
  nil-rest scope layout (t ∷ u ∷ ts) e p h = cc

  -- the closing bracket after a last tail
  close-one : (layout : Layout) (ts : List Token) → spellings layout ts ≡ close_sign ∷ [] → (t : Token) × (ts ≡ t ∷ []) × (is_close t.kind ≡ true)
  close-one layout [] e = cc
  close-one layout (t ∷ []) e = (t, refl, kind-close layout t [] [] e)
  close-one layout (t ∷ u ∷ ts) e = cc

  pub leaf-rest : (scope after : ScopeState) (ss : List Spelling) (term : Tree) → IsSimple ss → ReadsSimply users names scope ss term after → ReadsAsRest users names scope (bar_sign ∷ (ss ++ close_sign ∷ [])) term after
  leaf-rest scope after ss term s r layout [] e p h = cc
  leaf-rest scope after ss term s r layout (t ∷ ts) e p h =
      let inner = spelled-tail layout t ts bar_sign (ss ++ close_sign ∷ []) e in
      let us = take (length ss) ts in
      let front = spelled-front layout ts ss (close_sign ∷ []) inner in
      let end = close-one layout (drop (length ss) ts) (spelled-back layout ts ss (close_sign ∷ []) inner) in
      record {
        items = tail p t (simple us) end.0;
        valid = (h, kind-bar layout t ts (ss ++ close_sign ∷ []) e, s layout us front, end.2);
        whole = ap (λ vs. spelled p ++ t ∷ vs) (sym (take-append-drop (length ss) ts) ∙ ap (λ vs. us ++ vs) end.1);
        reads = λ start head q. ap (λ f. cell_found f (λ ns s. tree_term users ns s false layout (simple us))) q ∙ ap (as_head head) (r layout us front);
      }

  pub cell-rest : (scope middle after : ScopeState) (ss rest : List Spelling) (one term : Tree) → ReadsAsTree users names scope ss one middle → ReadsAsRest users names middle rest term after → ReadsAsRest users names scope (comma_sign ∷ (ss ++ rest)) (cell one term) after
  cell-rest scope middle after ss rest one term a b layout [] e p h = cc
  cell-rest scope middle after ss rest one term a b layout (t ∷ ts) e p h =
      let inner = spelled-tail layout t ts comma_sign (ss ++ rest) e in
      let us = take (length ss) ts in
      let vs = drop (length ss) ts in
      let q = a layout us (spelled-front layout ts ss rest inner) in
      let i = b layout vs (spelled-back layout ts ss rest inner) q.phrase q.valid in
      record {
        items = more p t i.items;
        valid = (h, kind-comma layout t ts (ss ++ rest) e, i.valid);
        whole = ap (λ xs. spelled p ++ t ∷ xs) (sym (take-append-drop (length ss) ts) ∙ ap (λ xs. xs ++ vs) q.whole ∙ i.whole);
        reads = λ start head r. ap (λ f. cell_found f (λ ns s. items_term users ns s false layout i.items)) r ∙ ap (as_head head) (i.reads scope one q.reads);
      }

  pub cell-tree : (scope middle after : ScopeState) (ss rest : List Spelling) (one term : Tree) → ReadsAsTree users names scope ss one middle → ReadsAsRest users names middle rest term after → ReadsAsTree users names scope (open_sign ∷ (ss ++ rest)) (cell one term) after
  cell-tree scope middle after ss rest one term a b layout [] e = cc
  cell-tree scope middle after ss rest one term a b layout (t ∷ ts) e =
      let inner = spelled-tail layout t ts open_sign (ss ++ rest) e in
      let us = take (length ss) ts in
      let vs = drop (length ss) ts in
      let q = a layout us (spelled-front layout ts ss rest inner) in
      let i = b layout vs (spelled-back layout ts ss rest inner) q.phrase q.valid in
      record {
        phrase = list t i.items;
        valid = (kind-open layout t ts (ss ++ rest) e, i.valid);
        whole = ap (λ xs. t ∷ xs) (sym (take-append-drop (length ss) ts) ∙ ap (λ xs. xs ++ vs) q.whole ∙ i.whole);
        reads = i.reads scope one q.reads;
      }

  -- such tokens are a phrase, and its term is this one
  phrase-valid : (layout : Layout) (p : Phrase) → IsPhraseOf layout p → is_phrase layout (spelled p) ≡ true
  phrase-valid layout (simple ts) h = phrase_or_list layout ts ∙ ap (λ b. b || is_list_phrase layout ts) h
  phrase-valid layout (empty opening closing) h = phrase_or_list layout _ ∙ ap (λ b. is_simple_phrase layout (spelled (empty opening closing)) || b) (tree_list layout (empty opening closing) h refl) ∙ either (is_simple_phrase layout (spelled (empty opening closing)))
    where
      either : (b : Bool) → (b || true) ≡ true
      either true = refl
      either false = refl
  phrase-valid layout (list opening items) h = phrase_or_list layout _ ∙ ap (λ b. is_simple_phrase layout (spelled (list opening items)) || b) (tree_list layout (list opening items) h refl) ∙ either (is_simple_phrase layout (spelled (list opening items)))
    where
      either : (b : Bool) → (b || true) ≡ true
      either true = refl
      either false = refl

  pub tree-phrase : (scope after : ScopeState) (ss : List Spelling) (term : Tree) → ReadsAsTree users names scope ss term after → (layout : Layout) (ts : List Token) → spellings layout ts ≡ ss → is_phrase layout ts ≡ true
  tree-phrase scope after ss term a layout ts e =
      let t = a layout ts e in
      ap (is_phrase layout) t.whole ∙ phrase-valid layout t.phrase t.valid

  pub tree-reads : (scope after : ScopeState) (ss : List Spelling) (term : Tree) → ReadsAsTree users names scope ss term after → Reads users names scope ss term after
  tree-reads scope after ss term a layout ts e =
      let t = a layout ts e in
      ap (term_of users names scope false layout) t.whole ∙ phrase_is_tree users names scope false layout t.phrase t.valid ∙ t.reads
