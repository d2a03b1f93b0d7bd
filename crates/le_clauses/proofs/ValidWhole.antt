-- The whole of a document is valid.
use Rattle.std.proofs.Common.{◌≡◌, ℕ, suc, ◌+◌, ◌*◌, ◌==◌, ◌||◌, ◌<◌, ◌≤◌, ◌^◌, Bool, true, false, cond, nat_lt, Option, Some, Result, Ok, Err, IfOk, List, [], ◌∷◌, ◌++◌, map, length, get_or, slice_get, All, refl, sym, ap, subst, ◌∙◌, arith, append_assoc, length-append, true≢false, ltb-false}
use Rattle.std.specs.List.{AllByRecursion}
use Rattle.std.proofs.lemmas.Bool.{or_left, or_right, eq-eqb}
use Rattle.std.proofs.lemmas.List.{map-append, get_or_append_left, get_or-map, length-map}
use Rattle.std.proofs.lemmas.Option.{slice_get-get_or}
use Rattle.std.proofs.lemmas.List.Elements.{recursion_from_All}
use Rattle.le_base.specs.declared.code.Code.TheVariants.{TooMany}
use Rattle.le_layout.specs.declared.span.Span.{Span}
use Rattle.le_base.specs.declared.stop.Refusal.{Refusal}
use Rattle.le_layout.specs.declared.token.Token.{Token}
use Rattle.le_layout.specs.declared.layout.Layout.{Layout}
use Rattle.le_layout.specs.Layout.{IsLayout}
use Rattle.le_layout.specs.Words.{token_of}
use Rattle.le_docs.specs.declared.doc.SectionKind.TheVariants as kinds
use Rattle.le_docs.specs.declared.doc.Section.{Section}
use Rattle.le_docs.specs.declared.doc.Doc.{Doc}
use Rattle.le_docs.specs.Kinds.{same_kind}
use Rattle.le_docs.specs.Bounds.{IsSentenceOver, IsSectionOver}
use Rattle.le_templates.specs.declared.part.Template.{Template}
use Rattle.le_templates.specs.Table.{template, predefined, table_of}
use Rattle.le_terms.specs.Tree.{Tree, constant, number, date, variable, nil, cell}
use Rattle.le_terms.specs.Variables.{occurrences, all_occurrences, all_variables, firsts, replaced}
use Rattle.le_terms.specs.Program.{form_atom, form_terms, literals_terms, clause_terms, predefined_count, predefined_arities, HasArity, HasVariablesBelow, StandsInPlace, IsLiteral, IsProgramClause}
use Rattle.le_terms.specs.declared.program.Asked.{Asked}
use Rattle.le_terms.specs.declared.program.Atom.{Atom}
use Rattle.le_terms.specs.declared.program.Form.{Form}
use Rattle.le_terms.specs.declared.program.Form.TheVariants.{Pos, Neg, Calc, Gather}
use Rattle.le_terms.specs.declared.program.Literal.{Literal}
use Rattle.le_terms.specs.declared.program.Clause.{Clause}
use Rattle.le_terms.specs.declared.program.GroupKind.{GroupKind}
use Rattle.le_terms.proofs.Few.{length-all_variables-le}
use Rattle.le_proofs.specs.Goals.{atom_under, form_under, terms_under, literals_under}
use Rattle.le_match.specs.Terms.{Found, refused}
use Rattle.le_match.specs.Sayable.{AreNamesToSay}
use Rattle.le_conds.specs.declared.cond.Conds.{Conds}
use Rattle.le_conds.specs.Rules.{rule_of, conditions_of}
use Rattle.le_clauses.specs.declared.part.Part.{Part}
use Rattle.le_clauses.specs.declared.whole.Piece.{Piece}
use Rattle.le_clauses.specs.declared.whole.Whole.{Whole}
use Rattle.le_clauses.specs.Conditions.{condition_of}
use Rattle.le_clauses.specs.Numbers.{by_place}
use Rattle.le_clauses.specs.Groups.{has, number_in, literals_of, numbered, rule_vars, rule_draft, written_clause}
use Rattle.le_clauses.specs.Rules.{new_scope, head_of, parts_of, body_nodes}
use Rattle.le_clauses.specs.Pieces.{Read, next_pred, within_limit, rule_clauses, rule_read, clauses_of_parts, clauses_of_rule, onto_clauses, clauses_of, asked_by, query_draft, query_vars, query_by, query_read, query_of, clauses_piece, piece_of_query, piece_of, onto_pieces, is_read, pieces_of, users_of, whole_by, program_of}
use Rattle.le_clauses.specs.Validity.{IsPiece, all_clauses, IsWhole}
use Rattle.le_clauses.proofs.Sets.{has-firsts}
use Rattle.le_clauses.proofs.SayableTerms.{all_both, all_first, all_second, all_weaker, firsts_few}
use Rattle.le_clauses.proofs.SayableParts.{ArePartsFound, sentence_more, parts_found}
use Rattle.le_clauses.proofs.SayableDrafts.{condition_said, heads, IsDraftLiteral, IsDraftClause, body_below, clause_below, sentence_atom, literals_said, draft_said}
use Rattle.le_clauses.proofs.Sayable.{IsHeadFound, head_found, new_ready, asked_below}
use Rattle.le_clauses.proofs.Arities.{heads_of, HaveArities, arities_first, arities_second, argument_counts, counts_many, heads_arities, slot_count, FitTemplates, atom_arity, arities_behind}
use Rattle.le_clauses.proofs.DraftSizes.{size, condition_size, first_short, draft_short, query_few, rule_few, parts_many}

-- ---- the numbers of variables

place_below : (us : List ℕ) (v : ℕ) → has us v ≡ true → number_in us v < length us
place_below [] v e = absurd (true≢false (sym e))
place_below (u ∷ us) v e = by (u == v) e (place_below us v)
  where
    by : (b : Bool) → (b || has us v) ≡ true → (has us v ≡ true → number_in us v < length us) → cond b 0 (suc (number_in us v)) < suc (length us)
    by true e further = omega arith
    by false e further = omega (arith, further e)

tree_places : (us : List ℕ) (tree : Tree) → AllByRecursion (λ v. has us v ≡ true) (occurrences tree) → AllByRecursion (λ v. v < length us) (occurrences (replaced (by_place us) tree))
tree_places us (constant n) h = tt
tree_places us (number z) h = tt
tree_places us (date d) h = tt
tree_places us (variable v) h = (place_below us v h.0, tt)
tree_places us nil h = tt
tree_places us (cell head tail) h =
    all_both (λ v. v < length us) (occurrences (replaced (by_place us) head)) (occurrences (replaced (by_place us) tail))
    (tree_places us head (all_first (λ v. has us v ≡ true) (occurrences head) (occurrences tail) h)) (tree_places us tail (all_second (λ v. has us v ≡ true) (occurrences head) (occurrences tail) h))

trees_places : (us : List ℕ) (trees : List Tree) → AllByRecursion (λ v. has us v ≡ true) (all_occurrences trees) → HasVariablesBelow (length us) (terms_under (by_place us) trees)
trees_places us [] h = tt
trees_places us (tree ∷ trees) h =
    all_both (λ v. v < length us) (occurrences (replaced (by_place us) tree)) (all_occurrences (terms_under (by_place us) trees))
    (tree_places us tree (all_first (λ v. has us v ≡ true) (occurrences tree) (all_occurrences trees) h)) (trees_places us trees (all_second (λ v. has us v ≡ true) (occurrences tree) (all_occurrences trees) h))

all_in : (ns : List ℕ) → AllByRecursion (λ v. has ns v ≡ true) ns
all_in [] = tt
all_in (n ∷ ns) = (or_left (n == n) (has ns n) (eq-eqb n n refl), all_weaker (λ v. has ns v ≡ true) (λ v. has (n ∷ ns) v ≡ true) (λ v e. or_right (n == v) (has ns v) e) ns (all_in ns))

all_in_firsts : (ns : List ℕ) → AllByRecursion (λ v. has (firsts ns) v ≡ true) ns
all_in_firsts ns = all_weaker (λ v. has ns v ≡ true) (λ v. has (firsts ns) v ≡ true) (λ v e. has-firsts ns v ∙ e) ns (all_in ns)

form_terms_under : (by : ℕ → Tree) (form : Form) → form_terms (form_under by form) ≡ terms_under by (form_terms form)
form_terms_under by (Pos atom) = refl
form_terms_under by (Neg atom) = refl
form_terms_under by (Calc atom) = refl
form_terms_under by (Gather fold total value atom) = refl

body_terms_under : (by : ℕ → Tree) (ls : List Literal) → literals_terms (literals_under by ls) ≡ terms_under by (literals_terms ls)
body_terms_under by [] = refl
body_terms_under by (l ∷ ls) =
    ap (λ ts. ts ++ literals_terms (literals_under by ls)) (form_terms_under by l.form)
    ∙ ap (λ ts. terms_under by (form_terms l.form) ++ ts) (body_terms_under by ls)
    ∙ sym (map-append (replaced by) (form_terms l.form) (literals_terms ls))

clause_places : (clause : Clause) → HasVariablesBelow (length (all_variables (clause_terms clause))) (clause_terms (numbered clause))
clause_places clause =
    let us = all_variables (clause_terms clause) in
    let same : terms_under (by_place us) (clause_terms clause) ≡ clause_terms (numbered clause) =
    map-append (replaced (by_place us)) clause.head.args (literals_terms clause.body) ∙ ap (λ ts. terms_under (by_place us) clause.head.args ++ ts) (sym (body_terms_under (by_place us) clause.body)) in
    subst (HasVariablesBelow (length us)) same (trees_places us (clause_terms clause) (all_in_firsts (all_occurrences (clause_terms clause))))

-- ---- clauses and literals with other numbers of their variables

length_under : (by : ℕ → Tree) (trees : List Tree) → length (terms_under by trees) ≡ length trees
length_under by [] = refl
length_under by (tree ∷ trees) = ap suc (length_under by trees)

length_literals : (by : ℕ → Tree) (ls : List Literal) → length (literals_under by ls) ≡ length ls
length_literals by [] = refl
length_literals by (l ∷ ls) = ap suc (length_literals by ls)

module _ (users : List Template) (names : List (List ℕ)) (arity : ℕ → ℕ) (total : ℕ) (fit : FitTemplates users arity total) where
  abbrev G : Atom → Type 0
  G = HasArity arity total

  arity_under : (by : ℕ → Tree) (atom : Atom) → HasArity arity total atom → HasArity arity total (atom_under by atom)
  arity_under by atom h = (h.0, length_under by atom.args ∙ h.1)

  form_valid : (by : ℕ → Tree) (form : Form) → StandsInPlace form → HasArity arity total (form_atom form) → StandsInPlace (form_under by form) × HasArity arity total (form_atom (form_under by form))
  form_valid by (Pos atom) h k = (h, arity_under by atom k)
  form_valid by (Neg atom) h k = (h, arity_under by atom k)
  form_valid by (Calc atom) h k = (h, arity_under by atom k)
  form_valid by (Gather fold result value atom) h k = (h, arity_under by atom k)

  literals_valid : (by : ℕ → Tree) (ls : List Literal) → AllByRecursion (IsDraftLiteral users names (HasArity arity total)) ls → AllByRecursion (IsLiteral arity total) (literals_under by ls)
  literals_valid by [] h = tt
  literals_valid by (l ∷ ls) h = (form_valid by l.form h.0.place (atom_arity users arity total (form_atom l.form) fit h.0.template h.0.group), literals_valid by ls h.1)

  clause_valid : (clause : Clause) → IsDraftClause users names (HasArity arity total) clause → length clause.body < 2 ^ 31 → IsProgramClause arity total (numbered clause)
  clause_valid clause h low =
      let us = all_variables (clause_terms clause) in
      record {
        variables = record { variables = clause_places clause; few = length-all_variables-le 64 (clause_terms clause) (clause_below users names (HasArity arity total) clause h) };
        head = arity_under (by_place us) clause.head (atom_arity users arity total clause.head fit h.head.template h.head.group);
        not_computed = h.head.plain;
        body = literals_valid (by_place us) clause.body h.body_;
        short = omega (arith, low, length_literals (by_place us) clause.body);
      }

  clauses_valid : (clauses : List Clause) → AllByRecursion (IsDraftClause users names (HasArity arity total)) clauses → AllByRecursion (λ (c : Clause). length c.body < 2 ^ 31) clauses → AllByRecursion (IsProgramClause arity total) (map numbered clauses)
  clauses_valid [] h k = tt
  clauses_valid (clause ∷ clauses) h k = (clause_valid clause h.0 k.0, clauses_valid clauses h.1 k.1)

short_bodies : (n : ℕ) → n < 2 ^ 31 → (clauses : List Clause) → AllByRecursion (λ (c : Clause). length c.body ≤ n) clauses → AllByRecursion (λ (c : Clause). length c.body < 2 ^ 31) clauses
short_bodies n low clauses h = all_weaker (λ (c : Clause). length c.body ≤ n) (λ (c : Clause). length c.body < 2 ^ 31) (λ c k. omega (arith, k, low)) clauses h

asked_places : (scope_names : List (List ℕ)) (us asked : List ℕ) → AllByRecursion (λ v. has us v ≡ true) asked → AllByRecursion (λ (a : Asked). a.var < length us) (asked_by scope_names us asked)
asked_places scope_names us [] h = tt
asked_places scope_names us (v ∷ vs) h = (place_below us v h.0, asked_places scope_names us vs h.1)

-- ---- what is read

-- what was read after so many clauses and these groups is valid, where the predicates of its own groups have some numbers of arguments, and counts its clauses
record IsValidRead {X : Type 0} (users : List Template) (groups : List GroupKind) (count : ℕ) (P : (ℕ → ℕ) → ℕ → X → Type 0) (clauses : X → ℕ) (f : Read X) : Type 0 where
  pub names_ : AreNamesToSay f.names
  pub ns : List ℕ
  pub many : length f.groups ≡ length groups + length ns
  pub valid : (arity : ℕ → ℕ) (total : ℕ) → FitTemplates users arity total → HaveArities arity (20 + length users + length groups) ns → 20 + length users + length f.groups ≤ total → P arity total f.value
  pub counted : f.count ≡ count + clauses f.value
  pub few : count ≤ 50000 → f.count ≤ 50000

abbrev AreClauses : (ℕ → ℕ) → ℕ → List Clause → Type 0
AreClauses arity total clauses = AllByRecursion (IsProgramClause arity total) clauses

abbrev ArePieces : (ℕ → ℕ) → ℕ → List Piece → Type 0
ArePieces arity total pieces = AllByRecursion (IsPiece arity total) pieces

abbrev clause_count : List Clause → ℕ
clause_count clauses = length clauses

abbrev piece_clauses : Piece → ℕ
piece_clauses piece = length piece.clauses

abbrev pieces_clauses : List Piece → ℕ
pieces_clauses pieces = length (all_clauses pieces)

limited : {X : Type 0} (users : List Template) (P : (ℕ → ℕ) → ℕ → X → Type 0) (size_of : X → ℕ) (count : ℕ) (groups : List GroupKind) (first : Token) (names : List (List ℕ)) (clauses : List Clause) (kinds : List GroupKind) (x : X) (ns : List ℕ)
    → AreNamesToSay names → length kinds ≡ length ns → length clauses ≡ size_of x
    → ((arity : ℕ → ℕ) (total : ℕ) → FitTemplates users arity total → HaveArities arity (20 + length users + length groups) ns → 20 + length users + length (groups ++ kinds) ≤ total → P arity total x)
    → IfOk (within_limit count groups first names clauses kinds x) (IsValidRead users groups count P size_of)
limited users P size_of count groups first names clauses kinds x ns h many same valid = by (nat_lt 50000 (count + length clauses)) refl
  where
    by : (b : Bool) → nat_lt 50000 (count + length clauses) ≡ b → IfOk (cond b (refused TooMany first) (Ok (record { value = x; names = names; count = count + length clauses; groups = groups ++ kinds }))) (IsValidRead users groups count P size_of)
    by true e = tt
    by false e = record {
      names_ = h;
      ns = ns;
      many = omega (arith, length-append groups kinds, many);
      valid = valid;
      counted = ap (λ n. count + n) same;
      few = λ low. ltb-false 50000 (count + length clauses) e;
    }

abbrev AreRulesValid : List Template → List GroupKind → ℕ → Read (List Clause) → Type 0
AreRulesValid users groups count f = IsValidRead users groups count AreClauses clause_count f

abbrev IsPieceValid : List Template → List GroupKind → ℕ → Read Piece → Type 0
IsPieceValid users groups count f = IsValidRead users groups count IsPiece piece_clauses f

abbrev ArePiecesValid : List Template → List GroupKind → ℕ → Read (List Piece) → Type 0
ArePiecesValid users groups count f = IsValidRead users groups count ArePieces pieces_clauses f

-- a sentence's conditions are few
few_nodes : (layout : Layout) → IsLayout layout → (sentence : Span) → IsSentenceOver (length layout.tokens) sentence → (n : ℕ) → n ≤ 3 * sentence.to + 4 → n < 2 ^ 31
few_nodes layout valid sentence over n low = omega (arith, low, over.inside, valid.few, valid.short)

-- the sentences of a section lie among so many tokens
abbrev pub LiesOver : ℕ → Section → Type 0
LiesOver count s = AllByRecursion (IsSentenceOver count) s.sentences

module _ (users : List Template) (layout : Layout) (valid : IsLayout layout) where
  rule_valid : (names : List (List ℕ)) (count : ℕ) (groups : List GroupKind) (first : Token) (head : Found Atom) (n : ℕ) (r : Result (Found (List Part)) Refusal) → n < 2 ^ 31 → IsHeadFound users names head → IfOk r (ArePartsFound users head.names) → IfOk r (λ f. length f.value ≡ n)
      → IfOk (rule_read users count groups first head.value r) (AreRulesValid users groups count)
  rule_valid names count groups first head n (Ok f) low h k many =
      let c = condition_of f.value in
      let pred = next_pred users groups in
      let rule = rule_vars (all_occurrences head.value.args) c in
      let d = rule_draft pred head.value c in
      let atoms = heads false pred rule c in
      let hs = heads_of c false pred rule in
      let said = condition_said users f.names f.value k.parts_ in
      let small : size c < 2 ^ 31 = omega (arith, condition_size f.value, many, low) in
      let shorts = draft_short c (size c) (omega arith) false pred rule in
      let sentence = sentence_more users head.names f.names k.on.grows head.value h.found.atom in
      limited users AreClauses clause_count count groups first f.names (rule_clauses first.line head.value d) d.kinds (rule_clauses first.line head.value d) (argument_counts atoms)
      k.on.ready.names_ (omega (arith, hs.many, counts_many atoms)) refl
      (λ (arity : ℕ → ℕ) (total : ℕ) fit agree le.
      let draft = draft_said users f.names (HasArity arity total) c said false pred (omega arith) rule (heads_arities arity total pred atoms hs.numbered agree (omega (arith, le, hs.many, length-append groups d.kinds))) in
      let written : IsDraftClause users f.names (HasArity arity total) (written_clause first.line head.value d) = record {
        head = sentence_atom users f.names (HasArity arity total) head.value (omega (arith, h.high)) sentence;
        body_ = literals_said users f.names (HasArity arity total) d.bodies draft.bodies;
      } in
      clauses_valid users f.names arity total fit (written_clause first.line head.value d ∷ d.clauses) (written, draft.clauses)
      (omega (arith, small, first_short (size c) d.bodies shorts.bodies), short_bodies (size c) small d.clauses shorts.clauses))
  rule_valid names count groups first head n (Err r) low h k many = tt

  parts_valid : (names : List (List ℕ)) (count : ℕ) (groups : List GroupKind) (first : Token) (conds : Option Conds) (r : Result (Found Atom) Refusal) → length (body_nodes conds) < 2 ^ 31 → IfOk r (IsHeadFound users names)
      → IfOk (elim r [ Ok head ↦ rule_read users count groups first head.value (parts_of users head.names head.scope false layout (body_nodes conds)) | Err e ↦ Err e ]) (AreRulesValid users groups count)
  parts_valid names count groups first conds (Ok head) low h =
      rule_valid names count groups first head (length (body_nodes conds)) (parts_of users head.names head.scope false layout (body_nodes conds)) low h
      (parts_found users layout valid head.names head.scope false (body_nodes conds) h.found.on.ready)
      (parts_many users head.names head.scope false layout (body_nodes conds))
  parts_valid names count groups first conds (Err r) low h = tt

  cut_valid : (names : List (List ℕ)) (count : ℕ) (groups : List GroupKind) (first : Token) (sentence : Span) → IsSentenceOver (length layout.tokens) sentence → AreNamesToSay names → (r : Result (Span × Option Conds) Refusal) → IfOk r (λ rule. length (body_nodes rule.1) ≤ 3 * sentence.to + 4)
      → IfOk (elim r [ Ok rule ↦ clauses_of_parts users names count groups layout first rule.0 rule.1 | Err e ↦ Err e ]) (AreRulesValid users groups count)
  cut_valid names count groups first sentence over h (Ok rule) few =
      parts_valid names count groups first rule.1 (head_of users names layout rule.0) (few_nodes layout valid sentence over (length (body_nodes rule.1)) few) (head_found users layout valid names rule.0 h)
  cut_valid names count groups first sentence over h (Err r) few = tt

  sentence_valid : (names : List (List ℕ)) (count : ℕ) (groups : List GroupKind) (sentence : Span) → IsSentenceOver (length layout.tokens) sentence → AreNamesToSay names → IfOk (clauses_of_rule users names count groups layout sentence) (AreRulesValid users groups count)
  unfolding clauses_of_rule
  sentence_valid names count groups sentence over h = cut_valid names count groups (token_of layout sentence.from) sentence over h (rule_of layout sentence) (rule_few layout sentence)

  onto_valid : (count : ℕ) (groups : List GroupKind) (f : Read (List Clause)) (r : Result (Read (List Clause)) Refusal) → AreRulesValid users groups count f → IfOk r (AreRulesValid users f.groups f.count) → IfOk (onto_clauses f.value r) (AreRulesValid users groups count)
  onto_valid count groups f (Ok g) h k = record {
    names_ = k.names_;
    ns = h.ns ++ k.ns;
    many = omega (arith, length-append h.ns k.ns, h.many, k.many);
    valid = λ (arity : ℕ → ℕ) (total : ℕ) fit agree le.
        all_both (IsProgramClause arity total) f.value g.value
        (h.valid arity total fit (arities_first arity (20 + length users + length groups) h.ns k.ns agree) (omega (arith, le, k.many)))
        (k.valid arity total fit (arities_second arity (20 + length users + length groups) (20 + length users + length f.groups) h.ns k.ns (omega (arith, h.many)) agree) le);
    counted = omega (arith, h.counted, k.counted, length-append f.value g.value);
    few = λ low. k.few (h.few low);
  }
  onto_valid count groups f (Err r) h k = tt

  then_valid : (count : ℕ) (groups : List GroupKind) (rest : Read (List Clause) → Result (Read (List Clause)) Refusal) (r : Result (Read (List Clause)) Refusal) → IfOk r (AreRulesValid users groups count) → ((f : Read (List Clause)) → AreNamesToSay f.names → IfOk (rest f) (AreRulesValid users f.groups f.count))
      → IfOk (elim r [ Ok f ↦ onto_clauses f.value (rest f) | Err e ↦ Err e ]) (AreRulesValid users groups count)
  then_valid count groups rest (Ok f) h k = onto_valid count groups f (rest f) h (k f h.names_)
  then_valid count groups rest (Err r) h k = tt

  sentences_valid : (names : List (List ℕ)) (count : ℕ) (groups : List GroupKind) (spans : List Span) → AllByRecursion (IsSentenceOver (length layout.tokens)) spans → AreNamesToSay names → IfOk (clauses_of users names count groups layout spans) (AreRulesValid users groups count)
  sentences_valid names count groups [] over h = record { names_ = h; ns = []; many = omega arith; valid = λ arity total fit agree le. tt; counted = omega arith; few = λ low. low }
  sentences_valid names count groups (span ∷ spans) over h =
      then_valid count groups (λ f. clauses_of users f.names f.count f.groups layout spans) (clauses_of_rule users names count groups layout span)
      (sentence_valid names count groups span over.0 h) (λ f k. sentences_valid f.names f.count f.groups spans over.1 k)

  -- ---- queries

  query_valid : (names : List (List ℕ)) (count : ℕ) (groups : List GroupKind) (s : Section) (first : Token) (n : ℕ) (r : Result (Found (List Part)) Refusal) → n < 2 ^ 31 → IfOk r (ArePartsFound users names) → IfOk r (λ f. length f.value ≡ n) → IfOk (query_read users count groups s first r) (IsPieceValid users groups count)
  query_valid names count groups s first n (Ok f) low h many =
      let c = condition_of f.value in
      let pred = next_pred users groups in
      let asked = f.scope.asked in
      let rule = rule_vars asked c in
      let d = query_draft pred asked c in
      let atoms = heads false pred rule c in
      let hs = heads_of c false pred rule in
      let said = condition_said users f.names f.value h.parts_ in
      let small : size c < 2 ^ 31 = omega (arith, condition_size f.value, many, low) in
      let shorts = draft_short c (size c) (omega arith) false pred rule in
      let occurring = all_occurrences (literals_terms (literals_of d)) in
      let us = query_vars d asked in
      let there = all_in_firsts (occurring ++ asked) in
      limited users IsPiece piece_clauses count groups first f.names (map numbered d.clauses) d.kinds (query_by s d f.scope) (argument_counts atoms)
      h.on.ready.names_ (omega (arith, hs.many, counts_many atoms)) refl
      (λ (arity : ℕ → ℕ) (total : ℕ) fit agree le.
      let draft = draft_said users f.names (HasArity arity total) c said false pred (omega arith) rule (heads_arities arity total pred atoms hs.numbered agree (omega (arith, le, hs.many, length-append groups d.kinds))) in
      let body = literals_said users f.names (HasArity arity total) d.bodies draft.bodies in
      record {
        clauses = clauses_valid users f.names arity total fit d.clauses draft.clauses (short_bodies (size c) small d.clauses shorts.clauses);
        query = literals_valid users f.names arity total fit (by_place us) (literals_of d) body;
        query_variables = subst (HasVariablesBelow (length us)) (sym (body_terms_under (by_place us) (literals_of d))) (trees_places us (literals_terms (literals_of d)) (all_first (λ v. has us v ≡ true) occurring asked there));
        asked = asked_places f.scope.names us asked (all_second (λ v. has us v ≡ true) occurring asked there);
        few = firsts_few 64 (occurring ++ asked) (all_both (λ v. v < 64) occurring asked (body_below users f.names (HasArity arity total) (literals_of d) body) (asked_below f.names f.scope h.on.ready));
      })
  query_valid names count groups s first n (Err r) low h many = tt

  conds_valid : (names : List (List ℕ)) (count : ℕ) (groups : List GroupKind) (s : Section) (first : Token) (sentence : Span) → IsSentenceOver (length layout.tokens) sentence → AreNamesToSay names → (r : Result Conds Refusal) → IfOk r (λ c. length c.nodes ≤ 3 * sentence.to + 4)
      → IfOk (elim r [ Ok conds ↦ query_read users count groups s first (parts_of users names new_scope true layout conds.nodes) | Err e ↦ Err e ]) (IsPieceValid users groups count)
  conds_valid names count groups s first sentence over h (Ok conds) few =
      query_valid names count groups s first (length conds.nodes) (parts_of users names new_scope true layout conds.nodes) (few_nodes layout valid sentence over (length conds.nodes) few)
      (parts_found users layout valid names new_scope true conds.nodes (new_ready names h))
      (parts_many users names new_scope true layout conds.nodes)
  conds_valid names count groups s first sentence over h (Err r) few = tt

  asking_valid : (names : List (List ℕ)) (count : ℕ) (groups : List GroupKind) (s : Section) (sentence : Span) → IsSentenceOver (length layout.tokens) sentence → AreNamesToSay names → IfOk (query_of users names count groups layout s sentence) (IsPieceValid users groups count)
  unfolding query_of
  asking_valid names count groups s sentence over h = conds_valid names count groups s (token_of layout sentence.from) sentence over h (conditions_of layout sentence) (query_few layout sentence)

  -- ---- pieces

  clauses_piece_valid : (count : ℕ) (groups : List GroupKind) (s : Section) (r : Result (Read (List Clause)) Refusal) → IfOk r (AreRulesValid users groups count) → IfOk (clauses_piece s r) (IsPieceValid users groups count)
  clauses_piece_valid count groups s (Ok f) h = record {
    names_ = h.names_;
    ns = h.ns;
    many = h.many;
    valid = λ (arity : ℕ → ℕ) (total : ℕ) fit agree le. record { clauses = h.valid arity total fit agree le; query = tt; query_variables = tt; asked = tt; few = omega arith };
    counted = h.counted;
    few = h.few;
  }
  clauses_piece_valid count groups s (Err r) h = tt

  query_piece_valid : (names : List (List ℕ)) (count : ℕ) (groups : List GroupKind) (s : Section) (spans : List Span) → AllByRecursion (IsSentenceOver (length layout.tokens)) spans → AreNamesToSay names → IfOk (piece_of_query users names count groups layout s spans) (IsPieceValid users groups count)
  query_piece_valid names count groups s [] over h = clauses_piece_valid count groups s (clauses_of users names count groups layout []) (sentences_valid names count groups [] tt h)
  query_piece_valid names count groups s (span ∷ spans) over h = asking_valid names count groups s span over.0 h

  either_valid : (count : ℕ) (groups : List GroupKind) (b : Bool) (r t : Result (Read Piece) Refusal) → IfOk r (IsPieceValid users groups count) → IfOk t (IsPieceValid users groups count) → IfOk (cond b r t) (IsPieceValid users groups count)
  either_valid count groups true r t h k = h
  either_valid count groups false r t h k = k

  piece_valid : (names : List (List ℕ)) (count : ℕ) (groups : List GroupKind) (s : Section) → LiesOver (length layout.tokens) s → AreNamesToSay names → IfOk (piece_of users names count groups layout s) (IsPieceValid users groups count)
  piece_valid names count groups s over h =
      either_valid count groups (same_kind s.kind kinds.Query) (piece_of_query users names count groups layout s s.sentences) (clauses_piece s (clauses_of users names count groups layout s.sentences))
      (query_piece_valid names count groups s s.sentences over h)
      (clauses_piece_valid count groups s (clauses_of users names count groups layout s.sentences) (sentences_valid names count groups s.sentences over h))

  onto_pieces_valid : (count : ℕ) (groups : List GroupKind) (f : Read Piece) (r : Result (Read (List Piece)) Refusal) → IsPieceValid users groups count f → IfOk r (ArePiecesValid users f.groups f.count) → IfOk (onto_pieces f.value r) (ArePiecesValid users groups count)
  onto_pieces_valid count groups f (Ok g) h k = record {
    names_ = k.names_;
    ns = h.ns ++ k.ns;
    many = omega (arith, length-append h.ns k.ns, h.many, k.many);
    valid = λ (arity : ℕ → ℕ) (total : ℕ) fit agree le. (
      h.valid arity total fit (arities_first arity (20 + length users + length groups) h.ns k.ns agree) (omega (arith, le, k.many)),
      k.valid arity total fit (arities_second arity (20 + length users + length groups) (20 + length users + length f.groups) h.ns k.ns (omega (arith, h.many)) agree) le,
    );
    counted = omega (arith, h.counted, k.counted, length-append f.value.clauses (all_clauses g.value));
    few = λ low. k.few (h.few low);
  }
  onto_pieces_valid count groups f (Err r) h k = tt

  then_pieces_valid : (count : ℕ) (groups : List GroupKind) (rest : Read Piece → Result (Read (List Piece)) Refusal) (r : Result (Read Piece) Refusal) → IfOk r (IsPieceValid users groups count) → ((f : Read Piece) → AreNamesToSay f.names → IfOk (rest f) (ArePiecesValid users f.groups f.count))
      → IfOk (elim r [ Ok f ↦ onto_pieces f.value (rest f) | Err e ↦ Err e ]) (ArePiecesValid users groups count)
  then_pieces_valid count groups rest (Ok f) h k = onto_pieces_valid count groups f (rest f) h (k f h.names_)
  then_pieces_valid count groups rest (Err r) h k = tt

  if_read : (count : ℕ) (groups : List GroupKind) (b : Bool) (r t : Result (Read (List Piece)) Refusal) → IfOk r (ArePiecesValid users groups count) → IfOk t (ArePiecesValid users groups count) → IfOk (cond b r t) (ArePiecesValid users groups count)
  if_read count groups true r t h k = h
  if_read count groups false r t h k = k

  pieces_valid : (names : List (List ℕ)) (count : ℕ) (groups : List GroupKind) (sections : List Section) → AllByRecursion (LiesOver (length layout.tokens)) sections → AreNamesToSay names → IfOk (pieces_of users names count groups layout sections) (ArePiecesValid users groups count)
  pieces_valid names count groups [] over h = record { names_ = h; ns = []; many = omega arith; valid = λ arity total fit agree le. tt; counted = omega arith; few = λ low. low }
  pieces_valid names count groups (s ∷ sections) over h =
      if_read count groups (is_read s) (elim (piece_of users names count groups layout s) [ Ok f ↦ onto_pieces f.value (pieces_of users f.names f.count f.groups layout sections) | Err e ↦ Err e ]) (pieces_of users names count groups layout sections)
      (then_pieces_valid count groups (λ f. pieces_of users f.names f.count f.groups layout sections) (piece_of users names count groups layout s) (piece_valid names count groups s over.0 h) (λ f k. pieces_valid f.names f.count f.groups sections over.1 k))
      (pieces_valid names count groups sections over.1 h)

-- ---- the whole

abbrev slots_of : Template → ℕ
slots_of t = slot_count t.parts

-- the predefined templates have as many slots as their predicates have arguments
predefined_slots : map slots_of predefined ≡ predefined_arities
unfolding predefined
predefined_slots = refl

predefined_many : length predefined ≡ 20
unfolding predefined
predefined_many = refl

-- the numbers of arguments of a document's predicates, those of its groups last
abbrev arities_of : List Template → List ℕ → List ℕ
arities_of users ns = map slots_of (table_of users) ++ ns

slots_many : (users : List Template) → length (map slots_of (table_of users)) ≡ 20 + length users
slots_many users = omega (arith, length-map (table_of users) slots_of, length-append predefined users, predefined_many)

templates_fit : (users : List Template) (ns : List ℕ) (total : ℕ) → 20 + length users ≤ total → FitTemplates users (λ pred. get_or (arities_of users ns) pred 0) total
templates_fit users ns total le = record {
  slots = λ pred low.
      get_or_append_left (map slots_of (table_of users)) ns 0 pred (omega (arith, low, slots_many users))
      ∙ get_or-map slots_of (table_of users) pred (template []) 0 (omega (arith, low, length-append predefined users, predefined_many));
  many = le;
}

front_of : (users : List Template) (ns : List ℕ) → arities_of users ns ≡ predefined_arities ++ (map slots_of users ++ ns)
front_of users ns =
    ap (λ xs. xs ++ ns) (map-append slots_of predefined users ∙ ap (λ xs. xs ++ map slots_of users) predefined_slots)
    ∙ append_assoc predefined_arities (map slots_of users) ns

predefined_fit : (users : List Template) (ns : List ℕ) (pred : ℕ) → pred < predefined_count → slice_get predefined_arities pred ≡ Some (get_or (arities_of users ns) pred 0)
predefined_fit users ns pred low =
    slice_get-get_or predefined_arities pred 0 low
    ∙ ap Some (sym (ap (λ xs. get_or xs pred 0) (front_of users ns) ∙ get_or_append_left predefined_arities (map slots_of users ++ ns) 0 pred low))

whole_by_valid : (users : List Template) (r : Result (Read (List Piece)) Refusal) → IfOk r (ArePiecesValid users [] 0) → IfOk (whole_by users r) IsWhole
whole_by_valid users (Ok f) h =
    let arity : ℕ → ℕ = λ pred. get_or (arities_of users h.ns) pred 0 in
    let start : length (map slots_of (table_of users)) ≡ 20 + length users + 0 = omega (arith, slots_many users) in
    record {
      arity = arity;
      predefined = predefined_fit users h.ns;
      pieces = h.valid arity (20 + length users + length f.groups) (templates_fit users h.ns (20 + length users + length f.groups) (omega arith))
          (subst (λ n. HaveArities arity n h.ns) start (arities_behind (map slots_of (table_of users)) h.ns)) (omega arith);
      few = omega (arith, h.counted, h.few (omega arith));
    }
whole_by_valid users (Err r) h = tt

users_valid : (layout : Layout) (sections : List Section) → IsLayout layout → AllByRecursion (LiesOver (length layout.tokens)) sections → (r : Result (List Template) Refusal)
    → IfOk (elim r [ Ok users ↦ whole_by users (pieces_of users [] 0 [] layout sections) | Err e ↦ Err e ]) IsWhole
users_valid layout sections valid over (Ok users) =
    whole_by_valid users (pieces_of users [] 0 [] layout sections) (pieces_valid users layout valid [] 0 [] sections over (record { distinct = tt; quotable = tt }))
users_valid layout sections valid over (Err r) = tt

-- The whole of a document is valid.
pub whole_valid : (layout : Layout) (doc : Doc) → IsLayout layout → AllByRecursion (LiesOver (length layout.tokens)) doc.sections → IfOk (program_of layout doc) IsWhole
unfolding program_of
whole_valid layout doc valid over = users_valid layout doc.sections valid over (users_of layout doc)

given_ok : {X E : Type 0} (P : X → Type 0) (r : Result X E) (x : X) → r ≡ Ok x → IfOk r P → P x
given_ok P r x e h = subst (λ s. IfOk s P) e h

pub valid_if_read : (layout : Layout) (doc : Doc) (whole : Whole) → IsLayout layout → All (IsSectionOver (length layout.tokens)) doc.sections → program_of layout doc ≡ Ok whole → IsWhole whole
valid_if_read layout doc whole valid over e =
    let n = length layout.tokens in
    let lie = all_weaker (IsSectionOver n) (LiesOver n) (λ s h. recursion_from_All (IsSentenceOver n) s.sentences h.sentences) doc.sections (recursion_from_All (IsSectionOver n) doc.sections over) in
    given_ok IsWhole (program_of layout doc) whole e (whole_valid layout doc valid lie)
