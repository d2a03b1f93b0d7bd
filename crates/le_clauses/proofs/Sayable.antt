-- Every program that is selected from a document can be said.
use Rattle.std.proofs.Common.{◌≡◌, ⊎_elim, ℕ, ◌+◌, ◌<◌, ◌≤◌, Bool, true, false, cond, nat_lt, Option, Some, None, IfSome, Result, Ok, Err, IfOk, List, [], ◌∷◌, ◌++◌, map, length, refl, sym, subst, arith}
use Rattle.std.specs.List.{AllByRecursion, find}
use Rattle.std.proofs.lemmas.Bool.{cases_lt}
use Rattle.le_base.specs.declared.code.Code.TheVariants.{TooMany, PredefinedHead, NoScenario}
use Rattle.le_layout.specs.declared.span.Span.{Span}
use Rattle.le_base.specs.declared.stop.Refusal.{Refusal}
use Rattle.le_base.specs.Stop.{refusal_at}
use Rattle.le_layout.specs.declared.token.Token.{Token}
use Rattle.le_layout.specs.declared.layout.Layout.{Layout}
use Rattle.le_layout.specs.Layout.{IsLayout}
use Rattle.le_layout.specs.Words.{tokens_of, token_of}
use Rattle.le_docs.specs.declared.doc.SectionKind.TheVariants as kinds
use Rattle.le_docs.specs.declared.doc.Section.{Section}
use Rattle.le_docs.specs.declared.doc.Doc.{Doc}
use Rattle.le_docs.specs.Kinds.{same_kind}
use Rattle.le_templates.specs.declared.part.Template.{Template}
use Rattle.le_templates.specs.Table.{predefined}
use Rattle.le_terms.specs.Variables.{all_occurrences, all_variables}
use Rattle.le_terms.specs.Program.{form_atom, form_terms, literals_terms, clause_terms}
use Rattle.le_terms.specs.declared.program.Atom.{Atom}
use Rattle.le_terms.specs.declared.program.Form.{Form}
use Rattle.le_terms.specs.declared.program.Form.TheVariants.{Pos, Neg, Calc, Gather}
use Rattle.le_terms.specs.declared.program.Literal.{Literal}
use Rattle.le_terms.specs.declared.program.Clause.{Clause}
use Rattle.le_terms.specs.declared.program.GroupKind.{GroupKind}
use Rattle.le_terms.proofs.Few.{length-all_variables-le}
use Rattle.le_scope.specs.Scopes.{ScopeState, Ascend}
use Rattle.le_scope.proofs.AskedLemmas.{ascend_within}
use Rattle.le_proofs.specs.Goals.{terms_under, literal_under, literals_under}
use Rattle.le_match.specs.Readings.{parts_at, best_of}
use Rattle.le_match.specs.Terms.{Found, refused, atom_of}
use Rattle.le_match.specs.Sayable.{HasTemplate, AreTermsToSay, IsLiteralToSay, IsClauseToSay, IsProgramToSay, AreNamesToSay, Grows}
use Rattle.le_conds.specs.declared.cond.Conds.{Conds}
use Rattle.le_conds.specs.Rules.{rule_of, conditions_of}
use Rattle.le_clauses.specs.declared.part.Part.{Part}
use Rattle.le_clauses.specs.declared.whole.Piece.{Piece}
use Rattle.le_clauses.specs.declared.whole.Whole.{Whole}
use Rattle.le_clauses.specs.Conditions.{condition_of}
use Rattle.le_clauses.specs.Numbers.{by_place}
use Rattle.le_clauses.specs.Groups.{literal, literals_of, numbered, rule_vars, rule_draft, written_clause}
use Rattle.le_clauses.specs.Rules.{new_scope, is_predefined, goes_before, head_of, parts_of, body_nodes}
use Rattle.le_clauses.specs.Pieces.{Read, next_pred, within_limit, rule_clauses, rule_read, clauses_of_parts, clauses_of_rule, onto_clauses, clauses_of, query_draft, query_vars, query_by, query_read, query_of, clauses_piece, piece_of_query, piece_of, onto_pieces, is_read, pieces_of, users_of, whole_by, program_of}
use Rattle.le_clauses.specs.Selection.{is_named, knowledge, prelude, program_over, clauses_under, selected}
use Rattle.le_clauses.specs.Saying.{ProgramsCanBeSaid}
use Rattle.le_clauses.specs.Documents.{IsPieceToSay}
use Rattle.le_clauses.proofs.RuleSteps.{head_low, head_high, head_err}
use Rattle.le_clauses.proofs.SayableTerms.{all_both, all_weaker, terms_both, terms_more, grows_none, grows_then, firsts_few, terms_numbered, slots_numbered}
use Rattle.le_clauses.proofs.SayableParts.{AreReady, IsAtomFound, ArePartsFound, sentence_more, atom_found, parts_found}
use Rattle.le_clauses.proofs.SayableDrafts.{condition_said, heads, IsDraftLiteral, IsDraftClause, body_below, clause_below, sentence_atom, literals_said, draft_said}

-- nothing more is so of the atoms of groups
abbrev NothingMore : Atom → Type 0
NothingMore atom = Unit {0}

nothing_more : (atoms : List Atom) → AllByRecursion NothingMore atoms
nothing_more [] = tt
nothing_more (atom ∷ atoms) = (tt, nothing_more atoms)

-- ---- variables with other numbers

module _ (users : List Template) (names : List (List ℕ)) (G : Atom → Type 0) (us : List ℕ) (few : length us ≤ 64) where
  template_numbered : (atom : Atom) → HasTemplate users atom → HasTemplate users (record { pred = atom.pred; args = terms_under (by_place us) atom.args })
  template_numbered atom h = λ low. ((h low).0, slots_numbered (parts_at users atom.pred) (by_place us) atom.args (h low).1)

  form_numbered : (line : ℕ) (form : Form) → IsDraftLiteral users names G (literal line form) → IsLiteralToSay users names (literal_under (by_place us) (literal line form))
  form_numbered line (Pos atom) h = record { template = template_numbered atom h.template; terms = terms_numbered names us few atom.args h.terms }
  form_numbered line (Neg atom) h = record { template = template_numbered atom h.template; terms = terms_numbered names us few atom.args h.terms }
  form_numbered line (Calc atom) h = record { template = template_numbered atom h.template; terms = terms_numbered names us few atom.args h.terms }
  form_numbered line (Gather fold total value atom) h = record { template = template_numbered atom h.template; terms = terms_numbered names us few (total ∷ value ∷ atom.args) h.terms }

  -- literals of a draft can be said with other numbers of their variables
  literals_numbered : (ls : List Literal) → AllByRecursion (IsDraftLiteral users names G) ls → AllByRecursion (IsLiteralToSay users names) (literals_under (by_place us) ls)
  literals_numbered [] h = tt
  literals_numbered (l ∷ ls) h = (form_numbered l.line l.form h.0, literals_numbered ls h.1)

terms_of_said : (users : List Template) (names : List (List ℕ)) (ls : List Literal) → AllByRecursion (IsLiteralToSay users names) ls → AreTermsToSay names (literals_terms ls)
terms_of_said users names [] h = tt
terms_of_said users names (l ∷ ls) h = terms_both names (form_terms l.form) (literals_terms ls) h.0.terms (terms_of_said users names ls h.1)

clause_numbered : (users : List Template) (names : List (List ℕ)) (G : Atom → Type 0) (clause : Clause) → IsDraftClause users names G clause → IsClauseToSay users names (numbered clause)
clause_numbered users names G clause h =
    let us = all_variables (clause_terms clause) in
    let few = length-all_variables-le 64 (clause_terms clause) (clause_below users names G clause h) in
    let said = literals_numbered users names G us few clause.body h.body_ in
    record {
      terms = terms_both names (terms_under (by_place us) clause.head.args) (literals_terms (literals_under (by_place us) clause.body)) (terms_numbered names us few clause.head.args h.head.terms) (terms_of_said users names (literals_under (by_place us) clause.body) said);
      body = λ used. all_weaker (IsLiteralToSay users names) (λ (l : Literal). HasTemplate users (form_atom l.form)) (λ l k. k.template) (literals_under (by_place us) clause.body) said;
    }

clauses_numbered : (users : List Template) (names : List (List ℕ)) (G : Atom → Type 0) (clauses : List Clause) → AllByRecursion (IsDraftClause users names G) clauses → AllByRecursion (IsClauseToSay users names) (map numbered clauses)
clauses_numbered users names G [] h = tt
clauses_numbered users names G (clause ∷ clauses) h = (clause_numbered users names G clause h.0, clauses_numbered users names G clauses h.1)

-- ---- more names

module _ (users : List Template) (names after : List (List ℕ)) (grows : Grows names after) where
  clause_more : (clause : Clause) → IsClauseToSay users names clause → IsClauseToSay users after clause
  clause_more clause h = record { terms = terms_more names after grows (clause_terms clause) h.terms; body = h.body }

  literal_more : (l : Literal) → IsLiteralToSay users names l → IsLiteralToSay users after l
  literal_more l h = record { template = h.template; terms = terms_more names after grows (form_terms l.form) h.terms }

piece_more : (users : List Template) (names after : List (List ℕ)) → Grows names after → (piece : Piece) → IsPieceToSay users names piece → IsPieceToSay users after piece
piece_more users names after grows piece h = record {
  clauses = all_weaker (IsClauseToSay users names) (IsClauseToSay users after) (clause_more users names after grows) piece.clauses h.clauses;
  query = all_weaker (IsLiteralToSay users names) (IsLiteralToSay users after) (literal_more users names after grows) piece.query h.query;
}

-- ---- what is read

record AreClausesRead (users : List Template) (names : List (List ℕ)) (f : Read (List Clause)) : Type 0 where
  pub names_ : AreNamesToSay f.names
  pub grows : Grows names f.names
  pub clauses : AllByRecursion (IsClauseToSay users f.names) f.value

record IsPieceRead (users : List Template) (names : List (List ℕ)) (f : Read Piece) : Type 0 where
  pub names_ : AreNamesToSay f.names
  pub grows : Grows names f.names
  pub piece : IsPieceToSay users f.names f.value

record ArePiecesRead (users : List Template) (names : List (List ℕ)) (f : Read (List Piece)) : Type 0 where
  pub names_ : AreNamesToSay f.names
  pub grows : Grows names f.names
  pub pieces : AllByRecursion (IsPieceToSay users f.names) f.value

limited : {X : Type 0} (P : Read X → Type 0) (count : ℕ) (groups : List GroupKind) (first : Token) (names : List (List ℕ)) (clauses : List Clause) (kinds : List GroupKind) (x : X) → P (record { value = x; names = names; count = count + length clauses; groups = groups ++ kinds }) → IfOk (within_limit count groups first names clauses kinds x) P
limited P count groups first names clauses kinds x h = by (nat_lt 50000 (count + length clauses))
  where
    by : (b : Bool) → IfOk (cond b (refused TooMany first) (Ok (record { value = x; names = names; count = count + length clauses; groups = groups ++ kinds }))) P
    by true = tt
    by false = h

pub new_ready : (names : List (List ℕ)) → AreNamesToSay names → AreReady names new_scope
new_ready names h = record { names_ = h; scope_ = record { few = omega arith; small = omega arith; noted = omega arith }; limit = refl }

asked_low : (least most : ℕ) (ns : List ℕ) → Ascend least ns most → AllByRecursion (λ n. n < most) ns
asked_low least most [] h = tt
asked_low least most (n ∷ ns) h = (omega (arith, ascend_within (n + 1) most ns h.1), asked_low (n + 1) most ns h.1)

pub asked_below : (names : List (List ℕ)) (scope : ScopeState) → AreReady names scope → AllByRecursion (λ v. v < 64) scope.asked
asked_below names scope h = all_weaker (λ v. v < length scope.names) (λ v. v < 64) (λ v low. omega (arith, low, h.scope_.few, h.limit)) scope.asked (asked_low 0 (length scope.names) scope.asked h.scope_.noted)

-- the head of a rule
pub record IsHeadFound (users : List Template) (names : List (List ℕ)) (f : Found Atom) : Type 0 where
  pub found : IsAtomFound users names f
  pub high : 20 ≤ f.value.pred

module _ (users : List Template) (layout : Layout) (valid : IsLayout layout) where
  two_refusals : (names : List (List ℕ)) (b g : Bool) (r s : Refusal) → IfOk (cond b (cond g (Err r) (Err s)) (Err r)) (IsHeadFound users names)
  two_refusals names true true r s = tt
  two_refusals names true false r s = tt
  two_refusals names false g r s = tt

  head_by : (names : List (List ℕ)) (span : Span) (r : Result (Found Atom) Refusal) → atom_of users names new_scope false layout (tokens_of layout span) ≡ r → IfOk r (IsAtomFound users names) → IfOk (head_of users names layout span) (IsHeadFound users names)
  head_by names span (Ok f) e h = ⊎_elim
      (λ (low : f.value.pred < 20). subst (λ x. IfOk x (IsHeadFound users names)) (sym (head_low users names layout span f e low)) tt)
      (λ (high : 20 ≤ f.value.pred). subst (λ x. IfOk x (IsHeadFound users names)) (sym (head_high users names layout span f e high)) (record { found = h; high = high }))
      (cases_lt f.value.pred 20)
  head_by names span (Err r) e h =
      let first = token_of layout span.from in
      let b = is_predefined (best_of users layout (tokens_of layout span)) in
      let g = goes_before r PredefinedHead first in
      subst (λ x. IfOk x (IsHeadFound users names)) (sym (head_err users names layout span r b g e refl refl)) (two_refusals names b g r (refusal_at PredefinedHead first.line first.column))

  pub head_found : (names : List (List ℕ)) (span : Span) → AreNamesToSay names → IfOk (head_of users names layout span) (IsHeadFound users names)
  head_found names span h =
      head_by names span (atom_of users names new_scope false layout (tokens_of layout span)) refl
      (atom_found users layout valid names new_scope false span (new_ready names h))

  rule_said : (names : List (List ℕ)) (count : ℕ) (groups : List GroupKind) (first : Token) (head : Found Atom) (r : Result (Found (List Part)) Refusal) → IsHeadFound users names head → IfOk r (ArePartsFound users head.names) → IfOk (rule_read users count groups first head.value r) (AreClausesRead users names)
  rule_said names count groups first head (Ok f) h k =
      let c = condition_of f.value in
      let pred = next_pred users groups in
      let rule = rule_vars (all_occurrences head.value.args) c in
      let d = rule_draft pred head.value c in
      let said = condition_said users f.names f.value k.parts_ in
      let draft = draft_said users f.names NothingMore c said false pred (omega arith) rule (nothing_more (heads false pred rule c)) in
      let sentence = sentence_more users head.names f.names k.on.grows head.value h.found.atom in
      let written : IsDraftClause users f.names NothingMore (written_clause first.line head.value d) = record {
        head = sentence_atom users f.names NothingMore head.value (omega (arith, h.high)) sentence;
        body_ = literals_said users f.names NothingMore d.bodies draft.bodies;
      } in
      limited (AreClausesRead users names) count groups first f.names (rule_clauses first.line head.value d) d.kinds (rule_clauses first.line head.value d)
      (record {
        names_ = k.on.ready.names_;
        grows = grows_then names head.names f.names h.found.on.grows k.on.grows;
        clauses = clauses_numbered users f.names NothingMore (written_clause first.line head.value d ∷ d.clauses) (written, draft.clauses);
      })
  rule_said names count groups first head (Err r) h k = tt

  parts_said : (names : List (List ℕ)) (count : ℕ) (groups : List GroupKind) (first : Token) (conds : Option Conds) (r : Result (Found Atom) Refusal) → IfOk r (IsHeadFound users names)
      → IfOk (elim r [ Ok head ↦ rule_read users count groups first head.value (parts_of users head.names head.scope false layout (body_nodes conds)) | Err e ↦ Err e ]) (AreClausesRead users names)
  parts_said names count groups first conds (Ok head) h =
      rule_said names count groups first head (parts_of users head.names head.scope false layout (body_nodes conds)) h
      (parts_found users layout valid head.names head.scope false (body_nodes conds) h.found.on.ready)
  parts_said names count groups first conds (Err r) h = tt

  cut_said : (names : List (List ℕ)) (count : ℕ) (groups : List GroupKind) (first : Token) → AreNamesToSay names → (r : Result (Span × Option Conds) Refusal)
      → IfOk (elim r [ Ok rule ↦ clauses_of_parts users names count groups layout first rule.0 rule.1 | Err e ↦ Err e ]) (AreClausesRead users names)
  cut_said names count groups first h (Ok rule) = parts_said names count groups first rule.1 (head_of users names layout rule.0) (head_found names rule.0 h)
  cut_said names count groups first h (Err r) = tt

  sentence_said : (names : List (List ℕ)) (count : ℕ) (groups : List GroupKind) (sentence : Span) → AreNamesToSay names → IfOk (clauses_of_rule users names count groups layout sentence) (AreClausesRead users names)
  unfolding clauses_of_rule
  sentence_said names count groups sentence h = cut_said names count groups (token_of layout sentence.from) h (rule_of layout sentence)

  onto_said : (names : List (List ℕ)) (f : Read (List Clause)) (r : Result (Read (List Clause)) Refusal) → AreClausesRead users names f → IfOk r (AreClausesRead users f.names) → IfOk (onto_clauses f.value r) (AreClausesRead users names)
  onto_said names f (Ok g) h k = record {
    names_ = k.names_;
    grows = grows_then names f.names g.names h.grows k.grows;
    clauses = all_both (IsClauseToSay users g.names) f.value g.value (all_weaker (IsClauseToSay users f.names) (IsClauseToSay users g.names) (clause_more users f.names g.names k.grows) f.value h.clauses) k.clauses;
  }
  onto_said names f (Err r) h k = tt

  then_said : (names : List (List ℕ)) (rest : Read (List Clause) → Result (Read (List Clause)) Refusal) (r : Result (Read (List Clause)) Refusal) → IfOk r (AreClausesRead users names) → ((f : Read (List Clause)) → AreNamesToSay f.names → IfOk (rest f) (AreClausesRead users f.names))
      → IfOk (elim r [ Ok f ↦ onto_clauses f.value (rest f) | Err e ↦ Err e ]) (AreClausesRead users names)
  then_said names rest (Ok f) h k = onto_said names f (rest f) h (k f h.names_)
  then_said names rest (Err r) h k = tt

  sentences_said : (names : List (List ℕ)) (count : ℕ) (groups : List GroupKind) (spans : List Span) → AreNamesToSay names → IfOk (clauses_of users names count groups layout spans) (AreClausesRead users names)
  sentences_said names count groups [] h = record { names_ = h; grows = grows_none names; clauses = tt }
  sentences_said names count groups (span ∷ spans) h =
      then_said names (λ f. clauses_of users f.names f.count f.groups layout spans) (clauses_of_rule users names count groups layout span)
      (sentence_said names count groups span h) (λ f k. sentences_said f.names f.count f.groups spans k)

  -- ---- queries

  query_said : (names : List (List ℕ)) (count : ℕ) (groups : List GroupKind) (s : Section) (first : Token) (r : Result (Found (List Part)) Refusal) → IfOk r (ArePartsFound users names) → IfOk (query_read users count groups s first r) (IsPieceRead users names)
  query_said names count groups s first (Ok f) h =
      let c = condition_of f.value in
      let pred = next_pred users groups in
      let rule = rule_vars f.scope.asked c in
      let d = query_draft pred f.scope.asked c in
      let said = condition_said users f.names f.value h.parts_ in
      let draft = draft_said users f.names NothingMore c said false pred (omega arith) rule (nothing_more (heads false pred rule c)) in
      let body = literals_said users f.names NothingMore d.bodies draft.bodies in
      let occurring = all_occurrences (literals_terms (literals_of d)) in
      let few = firsts_few 64 (occurring ++ f.scope.asked) (all_both (λ v. v < 64) occurring f.scope.asked (body_below users f.names NothingMore (literals_of d) body) (asked_below f.names f.scope h.on.ready)) in
      limited (IsPieceRead users names) count groups first f.names (map numbered d.clauses) d.kinds (query_by s d f.scope)
      (record {
        names_ = h.on.ready.names_;
        grows = h.on.grows;
        piece = record {
          clauses = clauses_numbered users f.names NothingMore d.clauses draft.clauses;
          query = literals_numbered users f.names NothingMore (query_vars d f.scope.asked) few (literals_of d) body;
        };
      })
  query_said names count groups s first (Err r) h = tt

  conds_said : (names : List (List ℕ)) (count : ℕ) (groups : List GroupKind) (s : Section) (first : Token) → AreNamesToSay names → (r : Result Conds Refusal)
      → IfOk (elim r [ Ok conds ↦ query_read users count groups s first (parts_of users names new_scope true layout conds.nodes) | Err e ↦ Err e ]) (IsPieceRead users names)
  conds_said names count groups s first h (Ok conds) =
      query_said names count groups s first (parts_of users names new_scope true layout conds.nodes)
      (parts_found users layout valid names new_scope true conds.nodes (new_ready names h))
  conds_said names count groups s first h (Err r) = tt

  asking_said : (names : List (List ℕ)) (count : ℕ) (groups : List GroupKind) (s : Section) (sentence : Span) → AreNamesToSay names → IfOk (query_of users names count groups layout s sentence) (IsPieceRead users names)
  unfolding query_of
  asking_said names count groups s sentence h = conds_said names count groups s (token_of layout sentence.from) h (conditions_of layout sentence)

  -- ---- pieces

  clauses_piece_said : (names : List (List ℕ)) (s : Section) (r : Result (Read (List Clause)) Refusal) → IfOk r (AreClausesRead users names) → IfOk (clauses_piece s r) (IsPieceRead users names)
  clauses_piece_said names s (Ok f) h = record { names_ = h.names_; grows = h.grows; piece = record { clauses = h.clauses; query = tt } }
  clauses_piece_said names s (Err r) h = tt

  query_piece_said : (names : List (List ℕ)) (count : ℕ) (groups : List GroupKind) (s : Section) (spans : List Span) → AreNamesToSay names → IfOk (piece_of_query users names count groups layout s spans) (IsPieceRead users names)
  query_piece_said names count groups s [] h = clauses_piece_said names s (clauses_of users names count groups layout []) (sentences_said names count groups [] h)
  query_piece_said names count groups s (span ∷ spans) h = asking_said names count groups s span h

  either_said : (names : List (List ℕ)) (b : Bool) (r t : Result (Read Piece) Refusal) → IfOk r (IsPieceRead users names) → IfOk t (IsPieceRead users names) → IfOk (cond b r t) (IsPieceRead users names)
  either_said names true r t h k = h
  either_said names false r t h k = k

  piece_said : (names : List (List ℕ)) (count : ℕ) (groups : List GroupKind) (s : Section) → AreNamesToSay names → IfOk (piece_of users names count groups layout s) (IsPieceRead users names)
  piece_said names count groups s h =
      either_said names (same_kind s.kind kinds.Query) (piece_of_query users names count groups layout s s.sentences) (clauses_piece s (clauses_of users names count groups layout s.sentences))
      (query_piece_said names count groups s s.sentences h)
      (clauses_piece_said names s (clauses_of users names count groups layout s.sentences) (sentences_said names count groups s.sentences h))

  onto_pieces_said : (names : List (List ℕ)) (f : Read Piece) (r : Result (Read (List Piece)) Refusal) → IsPieceRead users names f → IfOk r (ArePiecesRead users f.names) → IfOk (onto_pieces f.value r) (ArePiecesRead users names)
  onto_pieces_said names f (Ok g) h k = record {
    names_ = k.names_;
    grows = grows_then names f.names g.names h.grows k.grows;
    pieces = (piece_more users f.names g.names k.grows f.value h.piece, k.pieces);
  }
  onto_pieces_said names f (Err r) h k = tt

  then_pieces_said : (names : List (List ℕ)) (rest : Read Piece → Result (Read (List Piece)) Refusal) (r : Result (Read Piece) Refusal) → IfOk r (IsPieceRead users names) → ((f : Read Piece) → AreNamesToSay f.names → IfOk (rest f) (ArePiecesRead users f.names))
      → IfOk (elim r [ Ok f ↦ onto_pieces f.value (rest f) | Err e ↦ Err e ]) (ArePiecesRead users names)
  then_pieces_said names rest (Ok f) h k = onto_pieces_said names f (rest f) h (k f h.names_)
  then_pieces_said names rest (Err r) h k = tt

  if_read : (names : List (List ℕ)) (b : Bool) (r t : Result (Read (List Piece)) Refusal) → IfOk r (ArePiecesRead users names) → IfOk t (ArePiecesRead users names) → IfOk (cond b r t) (ArePiecesRead users names)
  if_read names true r t h k = h
  if_read names false r t h k = k

  pieces_said : (names : List (List ℕ)) (count : ℕ) (groups : List GroupKind) (sections : List Section) → AreNamesToSay names → IfOk (pieces_of users names count groups layout sections) (ArePiecesRead users names)
  pieces_said names count groups [] h = record { names_ = h; grows = grows_none names; pieces = tt }
  pieces_said names count groups (s ∷ sections) h =
      if_read names (is_read s) (elim (piece_of users names count groups layout s) [ Ok f ↦ onto_pieces f.value (pieces_of users f.names f.count f.groups layout sections) | Err e ↦ Err e ]) (pieces_of users names count groups layout sections)
      (then_pieces_said names (λ f. pieces_of users f.names f.count f.groups layout sections) (piece_of users names count groups layout s) (piece_said names count groups s h) (λ f k. pieces_said f.names f.count f.groups sections k))
      (pieces_said names count groups sections h)

-- ---- the whole

-- the pieces of a document can be said by its names
pub record IsWholeToSay (whole : Whole) : Type 0 where
  pub names_ : AreNamesToSay whole.names
  pub pieces : AllByRecursion (IsPieceToSay whole.templates whole.names) whole.pieces

whole_read : (users : List Template) (r : Result (Read (List Piece)) Refusal) → IfOk r (ArePiecesRead users []) → IfOk (whole_by users r) IsWholeToSay
whole_read users (Ok f) h = record { names_ = h.names_; pieces = h.pieces }
whole_read users (Err r) h = tt

users_read : (layout : Layout) (sections : List Section) → IsLayout layout → (r : Result (List Template) Refusal)
    → IfOk (elim r [ Ok users ↦ whole_by users (pieces_of users [] 0 [] layout sections) | Err e ↦ Err e ]) IsWholeToSay
users_read layout sections valid (Ok users) =
    whole_read users (pieces_of users [] 0 [] layout sections) (pieces_said users layout valid [] 0 [] sections (record { distinct = tt; quotable = tt }))
users_read layout sections valid (Err r) = tt

-- the whole of a document can be said
pub whole_said : (layout : Layout) (doc : Doc) → IsLayout layout → IfOk (program_of layout doc) IsWholeToSay
unfolding program_of
whole_said layout doc valid = users_read layout doc.sections valid (users_of layout doc)

-- ---- the selection

prelude_said : (users : List Template) (names : List (List ℕ)) → AllByRecursion (IsClauseToSay users names) prelude
unfolding prelude predefined
prelude_said users names = (
  record { terms = (omega arith, ((omega arith, omega arith), tt)); body = λ used. tt },
  (
    record { terms = (omega arith, ((omega arith, omega arith), (omega arith, (omega arith, tt)))); body = λ used. ((λ low. (used low, tt)), tt) },
    (
      record { terms = (tt, (omega arith, (omega arith, tt))); body = λ used. tt },
      (record { terms = ((omega arith, omega arith), (omega arith, ((omega arith, omega arith), (omega arith, (omega arith, (omega arith, tt)))))); body = λ used. ((λ low. (used low, tt)), tt) }, tt),
    ),
  ),
)

module _ (users : List Template) (names : List (List ℕ)) where
  either_clauses : (b : Bool) (cs : List Clause) → AllByRecursion (IsClauseToSay users names) cs → AllByRecursion (IsClauseToSay users names) (cond b cs [])
  either_clauses true cs h = h
  either_clauses false cs h = tt

  knowledge_said : (pieces : List Piece) → AllByRecursion (IsPieceToSay users names) pieces → AllByRecursion (IsClauseToSay users names) (knowledge pieces)
  unfolding knowledge
  knowledge_said [] h = tt
  knowledge_said (p ∷ pieces) h =
      let b = same_kind p.kind kinds.Knowledge in
      all_both (IsClauseToSay users names) (cond b p.clauses []) (knowledge pieces) (either_clauses b p.clauses h.0.clauses) (knowledge_said pieces h.1)

  first_found : (b : Bool) (p : Piece) (o : Option Piece) → IsPieceToSay users names p → IfSome o (IsPieceToSay users names) → IfSome (cond b (Some p) o) (IsPieceToSay users names)
  first_found true p o h k = h
  first_found false p o h k = k

  found_said : (test : Piece → Bool) (pieces : List Piece) → AllByRecursion (IsPieceToSay users names) pieces → IfSome (find test pieces) (IsPieceToSay users names)
  found_said test [] h = tt
  found_said test (p ∷ pieces) h = first_found (test p) p (find test pieces) h.0 (found_said test pieces h.1)

module _ (whole : Whole) (h : IsWholeToSay whole) where
  abbrev AreSaid : List Clause → Type 0
  AreSaid cs = AllByRecursion (IsClauseToSay whole.templates whole.names) cs

  under_by : (o : Option Piece) → IfSome o (IsPieceToSay whole.templates whole.names) → IfOk (elim o [ Some piece ↦ Ok (knowledge whole.pieces ++ piece.clauses) | None ↦ Err (refusal_at NoScenario 0 0) ]) AreSaid
  under_by (Some p) k = all_both (IsClauseToSay whole.templates whole.names) (knowledge whole.pieces) p.clauses (knowledge_said whole.templates whole.names whole.pieces h.pieces) k.clauses
  under_by None k = tt

  under_said : (scenario : Option (List ℕ)) → IfOk (clauses_under whole scenario) AreSaid
  under_said None = knowledge_said whole.templates whole.names whole.pieces h.pieces
  under_said (Some name) = under_by (find (is_named kinds.Scenario name) whole.pieces) (found_said whole.templates whole.names (is_named kinds.Scenario name) whole.pieces h.pieces)

  over_said : (cs : List Clause) (o : Option Piece) → AreSaid cs → IfSome o (IsPieceToSay whole.templates whole.names) → IfOk (program_over whole cs o) (IsProgramToSay whole.templates whole.names)
  over_said cs (Some q) said k =
      let P = IsClauseToSay whole.templates whole.names in
      record {
        distinct = h.names_.distinct;
        clauses = all_both P cs (q.clauses ++ prelude) said (all_both P q.clauses prelude k.clauses (prelude_said whole.templates whole.names));
        query = k.query;
      }
  over_said cs None said k = tt

  then_over : (query : List ℕ) (r : Result (List Clause) Refusal) → IfOk r AreSaid → IfOk (elim r [ Ok clauses ↦ program_over whole clauses (find (is_named kinds.Query query) whole.pieces) | Err e ↦ Err e ]) (IsProgramToSay whole.templates whole.names)
  then_over query (Ok cs) said = over_said cs (find (is_named kinds.Query query) whole.pieces) said (found_said whole.templates whole.names (is_named kinds.Query query) whole.pieces h.pieces)
  then_over query (Err e) said = tt

  -- each program of a document that can be said can be said
  pub selected_said : (scenario : Option (List ℕ)) (query : List ℕ) → IfOk (selected whole scenario query) (IsProgramToSay whole.templates whole.names)
  unfolding selected
  selected_said scenario query = then_over query (clauses_under whole scenario) (under_said scenario)

given_ok : {X E : Type 0} (P : X → Type 0) (r : Result X E) (x : X) → r ≡ Ok x → IfOk r P → P x
given_ok P r x e h = subst (λ s. IfOk s P) e h

-- Every program that is selected from a document can be said.
pub sayable : ProgramsCanBeSaid
sayable layout doc whole scenario query program valid e s =
    given_ok (IsProgramToSay whole.templates whole.names) (selected whole scenario query) program s
    (selected_said whole (given_ok IsWholeToSay (program_of layout doc) whole e (whole_said layout doc valid)) scenario query)
