-- What the parts of conditions are read as can be said.
use Rattle.std.proofs.Common.{◌≡◌, ℕ, ◌+◌, ◌-◌, ◌<◌, Bool, true, false, cond, nat_le, Result, Ok, Err, IfOk, List, [], ◌∷◌, ◌++◌, length, drop, All, is_some, refl, subst, ◌∙◌, arith, append-nil, length-append, leb-false}
use Rattle.std.specs.List.{AllByRecursion}
use Rattle.std.proofs.lemmas.List.Elements.{All-take, All-drop}
use Rattle.le_base.specs.declared.stop.FoldKind.{FoldKind}
use Rattle.le_base.specs.declared.stop.Refusal.{Refusal}
use Rattle.le_layout.specs.declared.span.Span.{Span}
use Rattle.le_base.specs.declared.code.Code.TheVariants.{NoReading}
use Rattle.le_layout.specs.declared.token.Token.{Token}
use Rattle.le_layout.specs.declared.layout.Layout.{Layout}
use Rattle.le_layout.specs.Layout.{IsTokenIn, IsLayout}
use Rattle.le_layout.specs.Words.{tokens_of, token_of}
use Rattle.le_templates.specs.declared.part.Template.{Template}
use Rattle.le_templates.specs.Table.{in_use}
use Rattle.le_terms.specs.Tree.{Tree}
use Rattle.le_terms.specs.Variables.{occurrences, all_occurrences}
use Rattle.le_terms.specs.Program.{HasVariablesBelow}
use Rattle.le_terms.specs.declared.program.Atom.{Atom}
use Rattle.le_scope.specs.declared.scope.Intro.{Intro}
use Rattle.le_scope.specs.declared.scope.Intro.TheVariants as intro
use Rattle.le_scope.specs.Phrases.{phrase_name}
use Rattle.le_scope.specs.Scopes.{ScopeState, IsScope, place_of, introduction, after_introduction, with_name}
use Rattle.le_scope.proofs.AskedLemmas.{ascend_wider}
use Rattle.le_match.specs.Readings.{parts_at}
use Rattle.le_match.specs.Terms.{Found, refused, term_of, atom_of}
use Rattle.le_match.specs.Sayable.{HasTerms, IsTermToSay, AreTermsToSay, AreNamesToSay, Grows, AreRead}
use Rattle.le_match.proofs.ReadTerms.{terms-are-read, atoms-are-read}
use Rattle.le_conds.specs.declared.cond.CondKind.{CondKind}
use Rattle.le_conds.specs.declared.cond.CondKind.TheVariants as conds
use Rattle.le_conds.specs.declared.cond.Cond.{Cond}
use Rattle.le_clauses.specs.declared.part.Part.{Part}
use Rattle.le_clauses.specs.declared.part.Part.TheVariants as parts
use Rattle.le_clauses.specs.Rules.{sentence_part, value_part, named_part, is_gather, kind_part, onto_parts, parts_of}
use Rattle.le_clauses.proofs.SayableTerms.{all_weaker, terms_more, grows_none, grows_then}

-- an atom of a sentence: it has its template and its terms can be said, with variables of a scope of at most 64
pub record IsSentence (users : List Template) (names : List (List ℕ)) (atom : Atom) : Type 0 where
  pub low : atom.pred < 20 + length users
  pub used : in_use users atom.pred ≡ true
  pub slots : HasTerms (parts_at users atom.pred) atom.args
  pub terms : AreTermsToSay names atom.args
  pub below : HasVariablesBelow 64 atom.args

-- the result of a gather and the variable of its value
pub record IsTotal (names : List (List ℕ)) (total : Tree) (value : ℕ) : Type 0 where
  pub total_ : IsTermToSay names total
  pub below : AllByRecursion (λ v. v < 64) (occurrences total)
  pub value_ : value < 64

abbrev pub IsReadPart : List Template → List (List ℕ) → Part → Type 0
IsReadPart users names (parts.Sentence line atom) = IsSentence users names atom
IsReadPart users names (parts.And n) = Unit {0}
IsReadPart users names (parts.Or n) = Unit {0}
IsReadPart users names (parts.Not line) = Unit {0}
IsReadPart users names (parts.ForAll line) = Unit {0}
IsReadPart users names (parts.Gather line fold total value) = IsTotal names total value

-- names and a scope from which sentences are read
pub record AreReady (names : List (List ℕ)) (scope : ScopeState) : Type 0 where
  pub names_ : AreNamesToSay names
  pub scope_ : IsScope scope
  pub limit : scope.limit ≡ 64

-- more names, and a scope with more in it
pub record GoOn (names after : List (List ℕ)) (scope : ScopeState) : Type 0 where
  pub grows : Grows names after
  pub ready : AreReady after scope

pub record IsAtomFound (users : List Template) (names : List (List ℕ)) (f : Found Atom) : Type 0 where
  pub on : GoOn names f.names f.scope
  pub atom : IsSentence users f.names f.value

pub record IsTermFound (names : List (List ℕ)) (f : Found Tree) : Type 0 where
  pub on : GoOn names f.names f.scope
  pub terms : AreTermsToSay f.names (f.value ∷ [])
  pub below : AllByRecursion (λ v. v < 64) (occurrences f.value)

pub record IsPartFound (users : List Template) (names : List (List ℕ)) (f : Found Part) : Type 0 where
  pub on : GoOn names f.names f.scope
  pub part : IsReadPart users f.names f.value

pub record ArePartsFound (users : List Template) (names : List (List ℕ)) (f : Found (List Part)) : Type 0 where
  pub on : GoOn names f.names f.scope
  pub parts_ : AllByRecursion (IsReadPart users f.names) f.value

pub if_ok : {X E : Type 0} (P : X → Type 0) (r : Result X E) → ((x : X) → r ≡ Ok x → P x) → IfOk r P
if_ok P (Ok x) h = h x refl
if_ok P (Err e) h = tt

-- ---- more names

pub sentence_more : (users : List Template) (names after : List (List ℕ)) → Grows names after → (atom : Atom) → IsSentence users names atom → IsSentence users after atom
sentence_more users names after grows atom h = record { low = h.low; used = h.used; slots = h.slots; terms = terms_more names after grows atom.args h.terms; below = h.below }

part_more : (users : List Template) (names after : List (List ℕ)) → Grows names after → (p : Part) → IsReadPart users names p → IsReadPart users after p
part_more users names after grows (parts.Sentence line atom) h = sentence_more users names after grows atom h
part_more users names after grows (parts.And n) h = tt
part_more users names after grows (parts.Or n) h = tt
part_more users names after grows (parts.Not line) h = tt
part_more users names after grows (parts.ForAll line) h = tt
part_more users names after grows (parts.Gather line fold total value) h = record { total_ = (terms_more names after grows (total ∷ []) (h.total_, tt)).0; below = h.below; value_ = h.value_ }

-- ---- scopes

cut_by : (m n : ℕ) (b c : Bool) → cond b intro.Again (cond c intro.Full (intro.New m)) ≡ intro.New n → (c ≡ false) × (n ≡ m)
cut_by m n true c e = absurd cc
cut_by m n false true e = absurd cc
cut_by m n false false e = (refl, cc)

-- a new name's number is that of the names so far, of which there are fewer than the limit
new_name : (scope : ScopeState) (name : List ℕ) (n : ℕ) → introduction scope name ≡ intro.New n → (length scope.names < scope.limit) × (n ≡ length scope.names)
unfolding introduction
new_name scope name n e =
    let h = cut_by (length scope.names) n (is_some (place_of scope name)) (nat_le scope.limit (length scope.names)) e in
    (leb-false scope.limit (length scope.names) h.0, h.1)

named_scope : (scope : ScopeState) (name : List ℕ) → length scope.names < scope.limit → IsScope scope → IsScope (with_name scope name)
named_scope scope name low h =
    let more = length-append scope.names (name ∷ []) in
    record { few = omega (arith, more, low); small = h.small; noted = ascend_wider 0 (length scope.names) (length (scope.names ++ name ∷ [])) scope.asked (omega (arith, more)) h.noted }

-- ---- what is read

module _ (users : List Template) (layout : Layout) (valid : IsLayout layout) where
  tokens_in : (span : Span) → All (IsTokenIn layout.text) (tokens_of layout span)
  tokens_in span = All-take (IsTokenIn layout.text) (span.to - span.from) (drop span.from layout.tokens) (All-drop (IsTokenIn layout.text) span.from layout.tokens valid.tokens)

  goes_on : (names : List (List ℕ)) (scope : ScopeState) (after : List (List ℕ)) (scope_after : ScopeState) (trees : List Tree) → AreReady names scope → AreRead names scope after scope_after trees → GoOn names after scope_after
  goes_on names scope after scope_after trees ready h = record { grows = h.grows; ready = record { names_ = h.names_; scope_ = h.scope_; limit = h.limit ∙ ready.limit } }

  read_below : (names : List (List ℕ)) (scope : ScopeState) (after : List (List ℕ)) (scope_after : ScopeState) (trees : List Tree) → AreReady names scope → AreRead names scope after scope_after trees → HasVariablesBelow 64 trees
  read_below names scope after scope_after trees ready h =
      all_weaker (λ v. v < length scope_after.names) (λ v. v < 64) (λ v low. omega (arith, low, h.scope_.few, h.limit, ready.limit)) (all_occurrences trees) h.variables

  pub atom_found : (names : List (List ℕ)) (scope : ScopeState) (query : Bool) (span : Span) → AreReady names scope → IfOk (atom_of users names scope query layout (tokens_of layout span)) (IsAtomFound users names)
  atom_found names scope query span ready =
      if_ok (IsAtomFound users names) (atom_of users names scope query layout (tokens_of layout span)) (λ f e.
      let h = atoms-are-read users names scope query layout (tokens_of layout span) f valid (tokens_in span) ready.names_ ready.scope_ e in
      record {
        on = goes_on names scope f.names f.scope f.value.args ready h.3;
        atom = record { low = h.0; used = h.1; slots = h.2; terms = h.3.terms_; below = read_below names scope f.names f.scope f.value.args ready h.3 };
      })

  term_found : (names : List (List ℕ)) (scope : ScopeState) (query : Bool) (span : Span) → AreReady names scope → IfOk (term_of users names scope query layout (tokens_of layout span)) (IsTermFound names)
  term_found names scope query span ready =
      if_ok (IsTermFound names) (term_of users names scope query layout (tokens_of layout span)) (λ f e.
      let h = terms-are-read users names scope query layout (tokens_of layout span) f valid (tokens_in span) ready.names_ ready.scope_ e in
      record {
        on = goes_on names scope f.names f.scope (f.value ∷ []) ready h;
        terms = h.terms_;
        below = subst (AllByRecursion (λ v. v < 64)) (append-nil (occurrences f.value)) (read_below names scope f.names f.scope (f.value ∷ []) ready h);
      })

  sentence_found : (names : List (List ℕ)) (line : ℕ) (r : Result (Found Atom) Refusal) → IfOk r (IsAtomFound users names) → IfOk (sentence_part line r) (IsPartFound users names)
  sentence_found names line (Ok f) h = record { on = h.on; part = h.atom }
  sentence_found names line (Err r) h = tt

  value_found : (names : List (List ℕ)) (line : ℕ) (fold : FoldKind) (f : Found Tree) (each : Token) (name : List ℕ) (i : Intro) → introduction f.scope name ≡ i → IsTermFound names f → IfOk (value_part line fold f.value f.names (after_introduction f.scope name i) each i) (IsPartFound users names)
  value_found names line fold f each name (intro.New n) e h =
      let new = new_name f.scope name n e in
      let ready = h.on.ready in
      record {
        on = record { grows = h.on.grows; ready = record { names_ = ready.names_; scope_ = named_scope f.scope name new.0 ready.scope_; limit = ready.limit } };
        part = record { total_ = h.terms.0; below = h.below; value_ = omega (arith, new.0, new.1, ready.limit) };
      }
  value_found names line fold f each name intro.Again e h = tt
  value_found names line fold f each name intro.Full e h = tt

  named_found : (names : List (List ℕ)) (line : ℕ) (fold : FoldKind) (each : Token) (name : List ℕ) (r : Result (Found Tree) Refusal) → IfOk r (IsTermFound names) → IfOk (named_part line fold each name r) (IsPartFound users names)
  named_found names line fold each name (Ok f) h = value_found names line fold f each name (introduction f.scope name) refl h
  named_found names line fold each name (Err r) h = tt

  if_found : (names : List (List ℕ)) (b : Bool) (r : Result (Found Part) Refusal) (t : Token) → IfOk r (IsPartFound users names) → IfOk (cond b r (refused NoReading t)) (IsPartFound users names)
  if_found names true r t h = h
  if_found names false r t h = tt

  part_found : (names : List (List ℕ)) (scope : ScopeState) (query : Bool) (at : ℕ) (kind : CondKind) → AreReady names scope → IfOk (kind_part users names scope query layout at kind) (IsPartFound users names)
  part_found names scope query at (conds.Sentence span) ready = sentence_found names (token_of layout span.from).line (atom_of users names scope query layout (tokens_of layout span)) (atom_found names scope query span ready)
  part_found names scope query at (conds.And n) ready = record { on = record { grows = grows_none names; ready = ready }; part = tt }
  part_found names scope query at (conds.Or n) ready = record { on = record { grows = grows_none names; ready = ready }; part = tt }
  part_found names scope query at conds.Not ready = record { on = record { grows = grows_none names; ready = ready }; part = tt }
  part_found names scope query at conds.ForAll ready = record { on = record { grows = grows_none names; ready = ready }; part = tt }
  part_found names scope query at (conds.Gather fold total name) ready =
      let r = term_of users names scope query layout (tokens_of layout total) in
      let each = token_of layout (name.from - 1) in
      let text = phrase_name layout (tokens_of layout name) in
      if_found names (is_gather layout total name) (named_part (token_of layout at).line fold each text r) (token_of layout at)
      (named_found names (token_of layout at).line fold each text r (term_found names scope query total ready))

  onto_found : (names : List (List ℕ)) (f : Found Part) (r : Result (Found (List Part)) Refusal) → IsPartFound users names f → IfOk r (ArePartsFound users f.names) → IfOk (onto_parts f.value r) (ArePartsFound users names)
  onto_found names f (Ok g) h k = record {
    on = record { grows = grows_then names f.names g.names h.on.grows k.on.grows; ready = k.on.ready };
    parts_ = (part_more users f.names g.names k.on.grows f.value h.part, k.parts_);
  }
  onto_found names f (Err r) h k = tt

  first_found : (names : List (List ℕ)) (rest : Found Part → Result (Found (List Part)) Refusal) (r : Result (Found Part) Refusal) → IfOk r (IsPartFound users names) → ((f : Found Part) → AreReady f.names f.scope → IfOk (rest f) (ArePartsFound users f.names)) → IfOk (elim r [ Ok f ↦ onto_parts f.value (rest f) | Err e ↦ Err e ]) (ArePartsFound users names)
  first_found names rest (Ok f) h k = onto_found names f (rest f) h (k f h.on.ready)
  first_found names rest (Err r) h k = tt

  -- the parts of conditions can be said
  pub parts_found : (names : List (List ℕ)) (scope : ScopeState) (query : Bool) (cs : List Cond) → AreReady names scope → IfOk (parts_of users names scope query layout cs) (ArePartsFound users names)
  parts_found names scope query [] ready = record { on = record { grows = grows_none names; ready = ready }; parts_ = tt }
  parts_found names scope query (c ∷ cs) ready =
      first_found names (λ f. parts_of users f.names f.scope query layout cs) (kind_part users names scope query layout c.at c.kind)
      (part_found names scope query c.at c.kind ready) (λ f further. parts_found f.names f.scope query cs further)
