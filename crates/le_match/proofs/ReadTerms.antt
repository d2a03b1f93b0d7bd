-- The terms of phrases and of sentences' slots can be said, and each slot of a sentence's template has one.
use Rattle.std.proofs.Common.{◌≡◌, ℕ, ◌+◌, ◌<◌, ◌≤◌, nat_lt, nat_le, Bool, true, false, cond, not, ◌||◌, ◌==◌, Option, Some, None, IfSome, Result, Ok, Err, IfOk, List, [], ◌∷◌, ◌++◌, length, take, drop, codes, refl, sym, ap, subst, ◌∙◌, arith, append_assoc, append-nil, length-append, take_at, drop_at}
use Rattle.std.specs.List.{All, AllByRecursion, list_any, position_or_len}
use Rattle.std.specs.Option.{is_some}
use Rattle.std.specs.Str.{bytes_eq}
use Rattle.std.proofs.lemmas.Bool.{leb-false, ltb-true}
use Rattle.std.proofs.lemmas.List.{get_or_append_left}
use Rattle.std.proofs.lemmas.List.Elements.{All-head, All-tail, All-take, All-drop, All-filter, All-from_recursion}
use Rattle.le_base.specs.declared.code.Code.TheVariants.{Dangling, WhichHere}
use Rattle.le_base.specs.declared.stop.Refusal.{Refusal}
use Rattle.le_layout.specs.declared.token.Token.{Token}
use Rattle.le_layout.specs.declared.layout.Layout.{Layout}
use Rattle.le_layout.specs.Layout.{IsTokenIn}
use Rattle.le_layout.specs.Words.{text_of, same_word}
use Rattle.le_layout.specs.Written.{IsQuotable}
use Rattle.le_templates.specs.declared.part.Part.{Part}
use Rattle.le_templates.specs.declared.part.Part.TheVariants.{Word, Slot}
use Rattle.le_templates.specs.declared.part.Template.{Template}
use Rattle.le_templates.specs.Table.{in_use, ends_slot}
use Rattle.le_terms.specs.Tree.{Tree, constant, number, date, variable, nil, cell}
use Rattle.le_terms.specs.Names.{is_named, number_of_name, entered}
use Rattle.le_terms.specs.Variables.{occurrences, all_occurrences}
use Rattle.le_terms.specs.declared.program.Atom.{Atom}
use Rattle.le_terms.proofs.NameLists.{missing_place, HasNoRepeats-push}
use Rattle.le_scope.specs.declared.phrase.PhraseForm.{PhraseForm}
use Rattle.le_scope.specs.declared.phrase.PhraseForm.TheVariants as forms
use Rattle.le_scope.specs.declared.scope.Intro.{Intro}
use Rattle.le_scope.specs.declared.scope.Intro.TheVariants as intro
use Rattle.le_scope.specs.Lists.{Phrase, simple, empty, list, Items, last, more, tail, spelled, items_spelled}
use Rattle.le_scope.specs.Phrases.{phrase_form, phrase_name}
use Rattle.le_scope.specs.Simple.{simple_form}
use Rattle.le_scope.specs.Scopes.{ScopeState, IsScope, place_of, introduction, after_introduction, after_asking, with_name, with_asked}
use Rattle.le_scope.proofs.AskedLemmas.{with_name_kept, with_asked_kept}
use Rattle.le_scope.proofs.ListForms.{is_list_form, form_tree, other_form}
use Rattle.le_match.specs.declared.readings.Reading.{Reading}
use Rattle.le_match.specs.declared.readings.BestReading.{BestReading}
use Rattle.le_match.specs.declared.readings.BestReading.TheVariants as best
use Rattle.le_match.specs.Lists.{as_head, cell_found, tree_term, items_term}
use Rattle.le_match.specs.Readings.{parts_at, words_of, most_words, best_readings, first_two, readings_of, best_of, IsInTable}
use Rattle.le_match.specs.Shares.{shares, shares_of, edge, Fits, IsReadBy}
use Rattle.le_match.specs.Terms.{Found, first_of, last_of, refused, constant_found, term_found, by_introduction, asking, by_place, by_simple_form, simple_term, by_form, term_of, onto_terms, terms_of, atom_found, by_best, atom_of}
use Rattle.le_match.specs.Sayable.{HasTerms, IsTermToSay, AreTermsToSay, AreNamesToSay, Grows, AreRead, TermsAreRead, AtomsAreRead}
use Rattle.le_match.proofs.TermLemmas.{by_form_is}
use Rattle.le_match.proofs.ReadLemmas.{atom_is}
use Rattle.le_match.proofs.OrderLemmas.{all_append, readings_used}
use Rattle.le_match.proofs.BestLemmas.{in_table}
use Rattle.le_match.proofs.FitsLemmas.{best_read}
use Rattle.le_match.proofs.ListTerms.{phrase_is_tree}
use Rattle.le_match.proofs.QuotableNames.{CanBeSaid, form_said, the_quotable}

-- ---- names with more names after them

abbrev IsBelow : ℕ → ℕ → Type 0
IsBelow bound v = v < bound

abbrev AllBelow : ℕ → List ℕ → Type 0
AllBelow bound vs = AllByRecursion (IsBelow bound) vs

term_kept : (names others : List (List ℕ)) (t : Tree) → IsTermToSay names t → IsTermToSay (names ++ others) t
term_kept names others (constant n) h =
    let low : n < length names = h.0 in
    let size = length-append names others in
    (omega (arith, low, size), subst IsQuotable (sym (get_or_append_left names others [] n low)) h.1)
term_kept names others (number z) h = h
term_kept names others (date d) h = h
term_kept names others (variable v) h = h
term_kept names others nil h = tt
term_kept names others (cell t u) h = (term_kept names others t h.0, term_kept names others u h.1)

terms_kept : (names others : List (List ℕ)) (ts : List Tree) → AreTermsToSay names ts → AreTermsToSay (names ++ others) ts
terms_kept names others [] h = tt
terms_kept names others (t ∷ ts) h = (term_kept names others t h.0, terms_kept names others ts h.1)

terms_grown : (before after : List (List ℕ)) (ts : List Tree) → Grows before after → AreTermsToSay before ts → AreTermsToSay after ts
terms_grown before after ts (others, e) h = let P : List (List ℕ) → Type 0 = λ ns. AreTermsToSay ns ts in subst P (sym e) (terms_kept before others ts h)

grown_twice : (a b c : List (List ℕ)) → Grows a b → Grows b c → Grows a c
grown_twice a b c (m, e) (n, f) = (m ++ n, f ∙ ap (λ x. x ++ n) e ∙ append_assoc a m n)

below_more : (m n : ℕ) (vs : List ℕ) → m ≤ n → AllBelow m vs → AllBelow n vs
below_more m n [] le h = tt
below_more m n (v ∷ vs) le h = let low : v < m = h.0 in (omega (arith, le, low), below_more m n vs le h.1)

below_nil : (n : ℕ) (vs : List ℕ) → AllBelow n (vs ++ []) → AllBelow n vs
below_nil n vs h = subst (AllBelow n) (append-nil vs) h

-- ---- what is read one after another

nothing_read : (names : List (List ℕ)) (scope : ScopeState) → AreNamesToSay names → IsScope scope → AreRead names scope names scope []
nothing_read names scope h k = record {
  names_ = h;
  grows = ([], sym (append-nil names));
  limit = refl;
  scope_ = k;
  more = omega arith;
  terms_ = tt;
  variables = tt;
}

-- a term that needs no new name
one_read : (names : List (List ℕ)) (scope : ScopeState) (t : Tree) → AreNamesToSay names → IsScope scope → IsTermToSay names t → AllBelow (length scope.names) (occurrences t) → AreRead names scope names scope (t ∷ [])
one_read names scope t h k said below = record {
  names_ = h;
  grows = ([], sym (append-nil names));
  limit = refl;
  scope_ = k;
  more = omega arith;
  terms_ = (said, tt);
  variables = all_append (IsBelow (length scope.names)) (occurrences t) [] below tt;
}

-- a term, and then further terms
both_read : (a b c : List (List ℕ)) (s t u : ScopeState) (x : Tree) (ys : List Tree) → AreRead a s b t (x ∷ []) → AreRead b t c u ys → AreRead a s c u (x ∷ ys)
both_read a b c s t u x ys h k =
    let few = h.more in
    let further = k.more in
    record {
      names_ = k.names_;
      grows = grown_twice a b c h.grows k.grows;
      limit = k.limit ∙ h.limit;
      scope_ = k.scope_;
      more = omega (arith, few, further);
      terms_ = ((terms_grown b c (x ∷ []) k.grows h.terms_).0, k.terms_);
      variables = all_append (IsBelow (length u.names)) (occurrences x) (all_occurrences ys) (below_more (length t.names) (length u.names) (occurrences x) further (below_nil (length t.names) (occurrences x) h.variables)) k.variables;
    }

-- two terms as one cell
cell_read : (a b : List (List ℕ)) (s t : ScopeState) (x y : Tree) → AreRead a s b t (x ∷ y ∷ []) → AreRead a s b t (cell x y ∷ [])
cell_read a b s t x y h = record {
  names_ = h.names_;
  grows = h.grows;
  limit = h.limit;
  scope_ = h.scope_;
  more = h.more;
  terms_ = ((h.terms_.0, h.terms_.1.0), tt);
  variables = subst (AllBelow (length t.names)) (sym (append_assoc (occurrences x) (occurrences y) [])) h.variables;
}

-- ---- constants

-- a name that is there has the number of one of them
there_low : (p : List ℕ → Bool) (xs : List (List ℕ)) → list_any p xs ≡ true → position_or_len p xs < length xs
there_low p [] h = absurd (cc)
there_low p (x ∷ xs) h = cases (p x) h (there_low p xs)
  where
    cases : (b : Bool) → (b || list_any p xs) ≡ true → (list_any p xs ≡ true → position_or_len p xs < length xs) → cond (not b) (1 + position_or_len p xs) 0 < length (x ∷ xs)
    cases true g later = omega arith
    cases false g later = let low = later g in omega (arith, low)

-- the names with this name, where it was there or wasn't
abbrev IsEntered : List (List ℕ) → List ℕ → List (List ℕ) → Type 0
IsEntered names name after = AreNamesToSay after × Grows names after × (number_of_name names name < length after)

entered_said : (names : List (List ℕ)) (name : List ℕ) → AreNamesToSay names → IsQuotable name → IsEntered names name (entered names name)
entered_said names name h said = cases (is_named names name) refl
  where
    cases : (b : Bool) → is_named names name ≡ b → IsEntered names name (cond b names (names ++ name ∷ []))
    cases true e = (h, ([], sym (append-nil names)), there_low (bytes_eq name) names e)
    cases false e =
        let last = missing_place (bytes_eq name) names e in
        let size = length-append names (name ∷ []) in
        let said_all : AreNamesToSay (names ++ name ∷ []) = record { distinct = HasNoRepeats-push names name h.distinct e; quotable = all_append IsQuotable names (name ∷ []) h.quotable (said, tt) } in
        (said_all, (name ∷ [], refl), omega (arith, last, size))

-- what is kept where a term was read; of a refusal it says nothing
abbrev IsTermRead : List (List ℕ) → ScopeState → Result (Found Tree) Refusal → Type 0
IsTermRead names scope result = IfOk result (λ f. AreRead names scope f.names f.scope (f.value ∷ []))

constant_read : (names : List (List ℕ)) (scope : ScopeState) (name : List ℕ) → AreNamesToSay names → IsScope scope → IsQuotable name → IsTermRead names scope (constant_found names scope name)
constant_read names scope name h k said =
    let e = entered_said names name h said in
    record {
      names_ = e.0;
      grows = e.1;
      limit = refl;
      scope_ = k;
      more = omega arith;
      terms_ = ((e.2, All-from_recursion IsQuotable (entered names name) e.0.quotable (number_of_name names name) [] e.2), tt);
      variables = tt;
    }

-- ---- variables

-- a variable of the scope
variable_read : (names : List (List ℕ)) (scope : ScopeState) (v : ℕ) → AreNamesToSay names → IsScope scope → v < length scope.names → AreRead names scope names scope (variable v ∷ [])
variable_read names scope v h k low =
    let few = k.few in
    let small = k.small in
    one_read names scope (variable v) h k (omega (arith, low, few, small)) (low, tt)

-- a new variable has the number of names before it, of which there are fewer than the limit
abbrev HasRoom : ScopeState → Intro → Type 0
HasRoom scope (intro.New n) = (length scope.names < scope.limit) × (n ≡ length scope.names)
HasRoom scope intro.Again = Unit {0}
HasRoom scope intro.Full = Unit {0}

has_room : (scope : ScopeState) (name : List ℕ) → HasRoom scope (introduction scope name)
unfolding introduction
has_room scope name = cases (is_some (place_of scope name)) (nat_le scope.limit (length scope.names)) refl
  where
    cases : (a b : Bool) → nat_le scope.limit (length scope.names) ≡ b → HasRoom scope (cond a intro.Again (cond b intro.Full (intro.New (length scope.names))))
    cases true b e = tt
    cases false true e = tt
    cases false false e = (leb-false scope.limit (length scope.names) e, refl)

-- a scope with one name more, which has the same limit
new_read : (names : List (List ℕ)) (scope after : ScopeState) (name : List ℕ) (n : ℕ) → AreNamesToSay names → IsScope after → n ≡ length scope.names → after.limit ≡ scope.limit → after.names ≡ scope.names ++ name ∷ [] → AreRead names scope names after (variable n ∷ [])
new_read names scope after name n h k is limit longer =
    let size : length after.names ≡ length scope.names + 1 = ap length longer ∙ length-append scope.names (name ∷ []) in
    let few = k.few in
    let small = k.small in
    record {
      names_ = h;
      grows = ([], sym (append-nil names));
      limit = limit;
      scope_ = k;
      more = omega (arith, size);
      terms_ = (omega (arith, is, size, few, small), tt);
      variables = (omega (arith, is, size), tt);
    }

introduced_read : (names : List (List ℕ)) (scope : ScopeState) (first : Token) (name : List ℕ) (i : Intro) → AreNamesToSay names → IsScope scope → HasRoom scope i → IsTermRead names scope (by_introduction names (after_introduction scope name i) first i)
introduced_read names scope first name (intro.New n) h k room =
    new_read names scope (with_name scope name) name n h (with_name_kept scope (with_name scope name) name k room.0 refl refl refl) room.1 refl refl
introduced_read names scope first name intro.Again h k room = tt
introduced_read names scope first name intro.Full h k room = tt

asked_read : (names : List (List ℕ)) (scope : ScopeState) (first : Token) (name : List ℕ) (i : Intro) → AreNamesToSay names → IsScope scope → HasRoom scope i → IsTermRead names scope (by_introduction names (after_asking scope name i) first i)
asked_read names scope first name (intro.New n) h k room =
    new_read names scope (with_asked scope name) name n h (with_asked_kept scope (with_asked scope name) name k room.0 refl refl refl) room.1 refl refl
asked_read names scope first name intro.Again h k room = tt
asked_read names scope first name intro.Full h k room = tt

-- the place of a name is one of the scope
place_below : (scope : ScopeState) (name : List ℕ) → IfSome (place_of scope name) (λ n. n < length scope.names)
place_below scope name = cases (nat_lt (position_or_len (same_word name) scope.names) (length scope.names)) refl
  where
    cases : (b : Bool) → nat_lt (position_or_len (same_word name) scope.names) (length scope.names) ≡ b → IfSome (cond b (Some (position_or_len (same_word name) scope.names)) None) (λ n. n < length scope.names)
    cases true e = ltb-true (position_or_len (same_word name) scope.names) (length scope.names) e
    cases false e = tt

place_read : (us : List Template) (names : List (List ℕ)) (scope : ScopeState) (first : Token) (last_word name : List ℕ) (o : Option ℕ) → AreNamesToSay names → IsScope scope → IsQuotable name → IfSome o (λ n. n < length scope.names) → IsTermRead names scope (by_place us names scope first last_word name o)
place_read us names scope first last_word name (Some n) h k said low = variable_read names scope n h k low
place_read us names scope first last_word name None h k said low = cases (ends_slot us last_word)
  where
    cases : (b : Bool) → IsTermRead names scope (cond b (refused Dangling first) (constant_found names scope (codes "the " ++ name)))
    cases true = tt
    cases false = constant_read names scope (codes "the " ++ name) h k (the_quotable name said)

-- ---- phrases without brackets

which_read : (names : List (List ℕ)) (scope : ScopeState) (query : Bool) (first : Token) (name : List ℕ) → AreNamesToSay names → IsScope scope → IsTermRead names scope (cond query (asking names scope first name) (refused WhichHere first))
which_read names scope true first name h k = asked_read names scope first name (introduction scope name) h k (has_room scope name)
which_read names scope false first name h k = tt

form_read : (us : List Template) (names : List (List ℕ)) (scope : ScopeState) (query : Bool) (l : Layout) (ts : List Token) (o : Option PhraseForm) → AreNamesToSay names → IsScope scope → IfSome o (CanBeSaid l ts) → IsTermRead names scope (by_simple_form us names scope query l ts o)
form_read us names scope query l ts None h k said = tt
form_read us names scope query l ts (Some (forms.Number n)) h k said = one_read names scope (number n) h k said tt
form_read us names scope query l ts (Some (forms.Day d)) h k said = one_read names scope (date d) h k said tt
form_read us names scope query l ts (Some forms.Quote) h k said = constant_read names scope (text_of l (first_of ts)) h k said
form_read us names scope query l ts (Some forms.List) h k said = tt
form_read us names scope query l ts (Some forms.A) h k said =
    let name = phrase_name l (drop 1 ts) in
    introduced_read names scope (first_of ts) name (introduction scope name) h k (has_room scope name)
form_read us names scope query l ts (Some forms.The) h k said =
    let name = phrase_name l (drop 1 ts) in
    place_read us names scope (first_of ts) (text_of l (last_of ts)) name (place_of scope name) h k said (place_below scope name)
form_read us names scope query l ts (Some forms.Which) h k said = which_read names scope query (first_of ts) (phrase_name l (drop 1 ts)) h k
form_read us names scope query l ts (Some forms.Constant) h k said = constant_read names scope (phrase_name l ts) h k said

simple_read : (us : List Template) (names : List (List ℕ)) (scope : ScopeState) (query : Bool) (l : Layout) (ts : List Token) → AreNamesToSay names → IsScope scope → All (IsTokenIn l.text) ts → IsTermRead names scope (simple_term us names scope query l ts)
simple_read us names scope query l ts h k tokens = form_read us names scope query l ts (simple_form l ts) h k (form_said l ts tokens)

-- ---- lists

front_all : {X : Type 0} (P : X → Type 0) (xs ys : List X) → All P (xs ++ ys) → All P xs
front_all P xs ys h = subst (All P) (take_at xs ys (length xs) refl) (All-take P (length xs) (xs ++ ys) h)

rest_all : {X : Type 0} (P : X → Type 0) (xs ys : List X) → All P (xs ++ ys) → All P ys
rest_all P xs ys h = subst (All P) (drop_at xs ys (length xs) refl) (All-drop P (length xs) (xs ++ ys) h)

head_read : (names : List (List ℕ)) (scope : ScopeState) (f : Found Tree) (r : Result (Found Tree) Refusal) → AreRead names scope f.names f.scope (f.value ∷ []) → IsTermRead f.names f.scope r → IsTermRead names scope (as_head f.value r)
head_read names scope f (Ok g) h k = cell_read names g.names scope g.scope f.value g.value (both_read names f.names g.names scope f.scope g.scope f.value (g.value ∷ []) h k)
head_read names scope f (Err refusal) h k = tt

-- the cell of a head, and of a tail that is read after it
cell_of_read : (names : List (List ℕ)) (scope : ScopeState) (r : Result (Found Tree) Refusal) (rest : List (List ℕ) → ScopeState → Result (Found Tree) Refusal) → IsTermRead names scope r → ((ns : List (List ℕ)) (s : ScopeState) → AreNamesToSay ns → IsScope s → IsTermRead ns s (rest ns s)) → IsTermRead names scope (cell_found r rest)
cell_of_read names scope (Ok f) rest h k = head_read names scope f (rest f.names f.scope) h (k f.names f.scope h.names_ h.scope_)
cell_of_read names scope (Err refusal) rest h k = tt

nil_read : (names : List (List ℕ)) (scope : ScopeState) → AreNamesToSay names → IsScope scope → IsTermRead names scope (term_found names scope nil)
nil_read names scope h k = one_read names scope nil h k tt tt

mutual
  tree_read : (us : List Template) (query : Bool) (l : Layout) (p : Phrase) (names : List (List ℕ)) (scope : ScopeState) → All (IsTokenIn l.text) (spelled p) → AreNamesToSay names → IsScope scope → IsTermRead names scope (tree_term us names scope query l p)
  tree_read us query l (simple ts) names scope tokens h k = simple_read us names scope query l ts h k tokens
  tree_read us query l (empty opening closing) names scope tokens h k = nil_read names scope h k
  tree_read us query l (list opening items) names scope tokens h k =
      items_read us query l items names scope (All-tail (IsTokenIn l.text) opening (items_spelled items) tokens) h k

  items_read : (us : List Template) (query : Bool) (l : Layout) (is : Items) (names : List (List ℕ)) (scope : ScopeState) → All (IsTokenIn l.text) (items_spelled is) → AreNamesToSay names → IsScope scope → IsTermRead names scope (items_term us names scope query l is)
  items_read us query l (last p closing) names scope tokens h k =
      cell_of_read names scope (tree_term us names scope query l p) (λ ns s. term_found ns s nil)
      (tree_read us query l p names scope (front_all (IsTokenIn l.text) (spelled p) (closing ∷ []) tokens) h k)
      nil_read
  items_read us query l (more p comma is) names scope tokens h k =
      let after = All-tail (IsTokenIn l.text) comma (items_spelled is) (rest_all (IsTokenIn l.text) (spelled p) (comma ∷ items_spelled is) tokens) in
      cell_of_read names scope (tree_term us names scope query l p) (λ ns s. items_term us ns s query l is)
      (tree_read us query l p names scope (front_all (IsTokenIn l.text) (spelled p) (comma ∷ items_spelled is) tokens) h k)
      (λ ns s m n. items_read us query l is ns s after m n)
  items_read us query l (tail p bar q closing) names scope tokens h k =
      let after = All-tail (IsTokenIn l.text) bar (spelled q ++ closing ∷ []) (rest_all (IsTokenIn l.text) (spelled p) (bar ∷ (spelled q ++ closing ∷ [])) tokens) in
      cell_of_read names scope (tree_term us names scope query l p) (λ ns s. tree_term us ns s query l q)
      (tree_read us query l p names scope (front_all (IsTokenIn l.text) (spelled p) (bar ∷ (spelled q ++ closing ∷ [])) tokens) h k)
      (λ ns s m n. tree_read us query l q ns s (front_all (IsTokenIn l.text) (spelled q) (closing ∷ []) after) m n)

-- ---- phrases

list_read : (us : List Template) (names : List (List ℕ)) (scope : ScopeState) (query : Bool) (l : Layout) (ts : List Token) → phrase_form l ts ≡ Some forms.List → All (IsTokenIn l.text) ts → AreNamesToSay names → IsScope scope → IsTermRead names scope (term_of us names scope query l ts)
list_read us names scope query l ts e tokens h k =
    let t = form_tree l ts e in
    let same : term_of us names scope query l ts ≡ tree_term us names scope query l t.phrase = ap (term_of us names scope query l) t.whole ∙ phrase_is_tree us names scope query l t.phrase t.valid in
    subst (IsTermRead names scope) (sym same) (tree_read us query l t.phrase names scope (subst (All (IsTokenIn l.text)) t.whole tokens) h k)

other_read : (us : List Template) (names : List (List ℕ)) (scope : ScopeState) (query : Bool) (l : Layout) (ts : List Token) (f : PhraseForm) → is_list_form (Some f) ≡ false → phrase_form l ts ≡ Some f → All (IsTokenIn l.text) ts → AreNamesToSay names → IsScope scope → IsTermRead names scope (by_simple_form us names scope query l ts (Some f))
other_read us names scope query l ts f other e tokens h k =
    let P : Option PhraseForm → Type 0 = λ o. IfSome o (CanBeSaid l ts) in
    form_read us names scope query l ts (Some f) h k (subst P (other_form l ts f other e) (form_said l ts tokens))

by_form_read : (us : List Template) (names : List (List ℕ)) (scope : ScopeState) (query : Bool) (l : Layout) (ts : List Token) (o : Option PhraseForm) → phrase_form l ts ≡ o → All (IsTokenIn l.text) ts → AreNamesToSay names → IsScope scope → IsTermRead names scope (by_form us names scope query l ts o)
by_form_read us names scope query l ts None e tokens h k = tt
by_form_read us names scope query l ts (Some forms.List) e tokens h k =
    subst (IsTermRead names scope) (by_form_is us names scope query l ts (Some forms.List) e) (list_read us names scope query l ts e tokens h k)
by_form_read us names scope query l ts (Some (forms.Number n)) e tokens h k = other_read us names scope query l ts (forms.Number n) refl e tokens h k
by_form_read us names scope query l ts (Some (forms.Day d)) e tokens h k = other_read us names scope query l ts (forms.Day d) refl e tokens h k
by_form_read us names scope query l ts (Some forms.Quote) e tokens h k = other_read us names scope query l ts forms.Quote refl e tokens h k
by_form_read us names scope query l ts (Some forms.A) e tokens h k = other_read us names scope query l ts forms.A refl e tokens h k
by_form_read us names scope query l ts (Some forms.The) e tokens h k = other_read us names scope query l ts forms.The refl e tokens h k
by_form_read us names scope query l ts (Some forms.Which) e tokens h k = other_read us names scope query l ts forms.Which refl e tokens h k
by_form_read us names scope query l ts (Some forms.Constant) e tokens h k = other_read us names scope query l ts forms.Constant refl e tokens h k

term_read : (us : List Template) (names : List (List ℕ)) (scope : ScopeState) (query : Bool) (l : Layout) (ts : List Token) → All (IsTokenIn l.text) ts → AreNamesToSay names → IsScope scope → IsTermRead names scope (term_of us names scope query l ts)
term_read us names scope query l ts tokens h k =
    subst (IsTermRead names scope) (sym (by_form_is us names scope query l ts (phrase_form l ts) refl)) (by_form_read us names scope query l ts (phrase_form l ts) refl tokens h k)

pub terms-are-read : TermsAreRead
terms-are-read us names scope query l ts f layout tokens h k e = subst (IsTermRead names scope) e (term_read us names scope query l ts tokens h k)

-- ---- the terms of a sentence's slots

-- what is kept where the terms of the slots of a template's parts were read, of which there is one for each slot
abbrev AreAllRead : List Part → List (List ℕ) → ScopeState → Result (Found (List Tree)) Refusal → Type 0
AreAllRead parts names scope result = IfOk result (λ f. HasTerms parts f.value × AreRead names scope f.names f.scope f.value)

onto_read : (s : List ℕ) (parts : List Part) (names : List (List ℕ)) (scope : ScopeState) (f : Found Tree) (r : Result (Found (List Tree)) Refusal) → AreRead names scope f.names f.scope (f.value ∷ []) → AreAllRead parts f.names f.scope r → AreAllRead (Slot s ∷ parts) names scope (onto_terms f.value r)
onto_read s parts names scope f (Ok g) h k = (k.0, both_read names f.names g.names scope f.scope g.scope f.value g.value h k.1)
onto_read s parts names scope f (Err refusal) h k = tt

-- a slot's term, and then those of the parts that follow
slot_read : (s : List ℕ) (parts : List Part) (names : List (List ℕ)) (scope : ScopeState) (r : Result (Found Tree) Refusal) (rest : List (List ℕ) → ScopeState → Result (Found (List Tree)) Refusal) → IsTermRead names scope r → ((ns : List (List ℕ)) (z : ScopeState) → AreNamesToSay ns → IsScope z → AreAllRead parts ns z (rest ns z)) → AreAllRead (Slot s ∷ parts) names scope (elim r as (λ _. Result (Found (List Tree)) Refusal) [ Ok f ↦ onto_terms f.value (rest f.names f.scope) | Err refusal ↦ Err refusal ])
slot_read s parts names scope (Ok f) rest h k = onto_read s parts names scope f (rest f.names f.scope) h (k f.names f.scope h.names_ h.scope_)
slot_read s parts names scope (Err refusal) rest h k = tt

shares_read : (us : List Template) (query : Bool) (l : Layout) (n : ℕ) (parts : List Part) (ts : List Token) (ks : List ℕ) (names : List (List ℕ)) (scope : ScopeState) → Fits l n parts ts ks → All (IsTokenIn l.text) ts → AreNamesToSay names → IsScope scope → AreAllRead parts names scope (terms_of us names scope query l (shares n parts ks ts))
shares_read us query l n [] ts ks names scope fits tokens h k = (tt, nothing_read names scope h k)
shares_read us query l n (Word w ∷ parts) [] ks names scope fits tokens h k = absurd fits
shares_read us query l n (Word w ∷ parts) (t ∷ ts) ks names scope fits tokens h k =
    shares_read us query l n parts ts ks names scope fits.1 (All-tail (IsTokenIn l.text) t ts tokens) h k
shares_read us query l n (Slot s ∷ parts) ts [] names scope fits tokens h k = absurd fits
shares_read us query l n (Slot s ∷ parts) ts (m ∷ ks) names scope fits tokens h k =
    let phrase_tokens = All-take (IsTokenIn l.text) m (drop n ts) (All-drop (IsTokenIn l.text) n ts tokens) in
    let after = All-drop (IsTokenIn l.text) (m + (n + n)) ts tokens in
    slot_read s parts names scope (term_of us names scope query l (take m (drop n ts)))
    (λ ns z. terms_of us ns z query l (shares n parts ks (drop (m + (n + n)) ts)))
    (term_read us names scope query l (take m (drop n ts)) phrase_tokens h k)
    (λ ns z i j. shares_read us query l n parts (drop (m + (n + n)) ts) ks ns z fits.3 after i j)

-- ---- sentences

-- the template of a single best reading is in use
abbrev IsOfUse : List Template → BestReading → Type 0
IsOfUse us best.None = Unit {0}
IsOfUse us (best.One r) = in_use us r.pred ≡ true
IsOfUse us (best.Two r s) = Unit {0}

one_of_use : (us : List Template) (rs : List Reading) → All (λ (r : Reading). (r.pred < 20 + length us) × (in_use us r.pred ≡ true)) rs → IsOfUse us (first_two rs)
one_of_use us [] h = tt
one_of_use us (r ∷ []) h = (All-head (λ (r : Reading). (r.pred < 20 + length us) × (in_use us r.pred ≡ true)) r [] h).1
one_of_use us (r ∷ s ∷ rs) h = tt

best_of_use : (us : List Template) (l : Layout) (ts : List Token) → IsOfUse us (best_of us l ts)
unfolding best_of
best_of_use us l ts =
    let rs = readings_of us l ts in
    one_of_use us (best_readings us rs)
    (All-filter (λ r. words_of us r == most_words us rs) (λ (r : Reading). (r.pred < 20 + length us) × (in_use us r.pred ≡ true)) rs (readings_used us l ts))

-- what is kept where an atom was read
abbrev IsAtomRead : List Template → List (List ℕ) → ScopeState → Result (Found Atom) Refusal → Type 0
IsAtomRead us names scope result =
    IfOk result (λ f. (f.value.pred < 20 + length us) × (in_use us f.value.pred ≡ true) × HasTerms (parts_at us f.value.pred) f.value.args × AreRead names scope f.names f.scope f.value.args)

found_read : (us : List Template) (names : List (List ℕ)) (scope : ScopeState) (pred : ℕ) (r : Result (Found (List Tree)) Refusal) → pred < 20 + length us → in_use us pred ≡ true → AreAllRead (parts_at us pred) names scope r → IsAtomRead us names scope (atom_found pred r)
found_read us names scope pred (Ok f) low used h = (low, used, h.0, h.1)
found_read us names scope pred (Err refusal) low used h = tt

best_atom_read : (us : List Template) (names : List (List ℕ)) (scope : ScopeState) (query : Bool) (l : Layout) (ts : List Token) (b : BestReading) → IsInTable us b → IsOfUse us b → IsReadBy us l ts b → All (IsTokenIn l.text) ts → AreNamesToSay names → IsScope scope → IsAtomRead us names scope (by_best us names scope query l ts b)
best_atom_read us names scope query l ts best.None low used read tokens h k = tt
best_atom_read us names scope query l ts (best.One r) low used read tokens h k =
    found_read us names scope r.pred (terms_of us names scope query l (shares_of us ts r)) low used
    (shares_read us query l (edge ts) (parts_at us r.pred) ts r.lengths names scope read tokens h k)
best_atom_read us names scope query l ts (best.Two r s) low used read tokens h k = tt

atom_read : (us : List Template) (names : List (List ℕ)) (scope : ScopeState) (query : Bool) (l : Layout) (ts : List Token) → All (IsTokenIn l.text) ts → AreNamesToSay names → IsScope scope → IsAtomRead us names scope (atom_of us names scope query l ts)
atom_read us names scope query l ts tokens h k =
    subst (IsAtomRead us names scope) (sym (atom_is us names scope query l ts (best_of us l ts) refl))
    (best_atom_read us names scope query l ts (best_of us l ts) (in_table us l ts) (best_of_use us l ts) (best_read us l ts) tokens h k)

pub atoms-are-read : AtomsAreRead
atoms-are-read us names scope query l ts f layout tokens h k e = subst (IsAtomRead us names scope) e (atom_read us names scope query l ts tokens h k)
