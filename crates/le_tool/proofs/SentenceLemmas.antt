-- The sentences that a report shows of a document read back.
use Rattle.std.proofs.Common.{◌≡◌, ℕ, ◌^◌, ◌<◌, ◌≤◌, nat_lt, Bool, true, false, List, [], ◌∷◌, ◌++◌, length, flat_map, Option, None, Some, Result, Ok, Err, IfSome, IfOk, refl, sym, ap, subst, ◌∙◌, ⊎_elim, ◌⊎◌, inl, inr, arith, if◌then◌else◌}
use Rattle.std.proofs.lemmas.Bool.{cases_Bool, ltb-false}
use Rattle.std.proofs.lemmas.Str.{IsUtf8-from_is_utf8, is_utf8-from_IsUtf8}
use Rattle.std.specs.Str.{is_utf8}
use Rattle.std.specs.Str.Lossy.{utf8_valid_len}
use Rattle.std.specs.Prelude.{take}
use Rattle.std.proofs.lemmas.List.Elements.{All-from_recursion}
use Rattle.std.specs.List.{AllByRecursion}
use Rattle.le_base.specs.declared.code.Code.TheVariants.{TooLong}
use Rattle.le_base.specs.declared.stop.Refusal.{Refusal}
use Rattle.le_layout.specs.declared.span.Span.{Span}
use Rattle.le_base.specs.Stop.{refusal_at}
use Rattle.le_layout.specs.declared.layout.Layout.{Layout}
use Rattle.le_layout.specs.Layout.{IsLayout, layout_of, place_in}
use Rattle.le_layout.specs.Words.{IsSpan}
use Rattle.le_layout.proofs.ScanLemmas.{layout_of-utf8, layout_of-bad, layout_sound}
use Rattle.le_docs.specs.declared.doc.Doc.{Doc}
use Rattle.le_docs.specs.declared.doc.Section.{Section}
use Rattle.le_docs.specs.declared.doc.SectionKind.TheVariants as kinds
use Rattle.le_layout.specs.declared.fault.Fault.{Fault}
use Rattle.le_docs.specs.declared.headers.Head.{Head}
use Rattle.le_docs.specs.Bounds.{IsSectionOver}
use Rattle.le_docs.specs.Kinds.{same_kind}
use Rattle.le_docs.specs.Faults.{least_from}
use Rattle.le_docs.specs.Rule.{AreSentences, AreSectionsOf}
use Rattle.le_docs.specs.Headers.{heads_of}
use Rattle.le_docs.specs.Sections.{all_sections, all_faults, decided, sections_of}
use Rattle.le_docs.proofs.GovernLemmas.{sections_are}
use Rattle.le_templates.specs.declared.part.Template.{Template}
use Rattle.le_templates.specs.Table.{declaration}
use Rattle.le_terms.specs.Program.{IsProgram}
use Rattle.le_terms.specs.declared.program.Program.{Program}
use Rattle.le_clauses.specs.declared.whole.Piece.{Piece}
use Rattle.le_clauses.specs.declared.whole.Whole.{Whole}
use Rattle.le_clauses.specs.Pieces.{Read, declared_after, template_spans, users_of, pieces_of, whole_by, program_of}
use Rattle.le_clauses.specs.Selection.{selected}
use Rattle.le_clauses.specs.Validity.{IsWhole}
use Rattle.le_clauses.proofs.Selected.{selected_in}
use Rattle.le_clauses.proofs.ValidWhole.{valid_if_read}
use Rattle.le_proofs.specs.Search.{answers_of}
use Rattle.le_english.specs.Declarations.{AreDeclared}
use Rattle.le_english.specs.Nodes.{AnswerReadsBack}
use Rattle.le_english.proofs.DeclaredLemmas.{more-declared}
use Rattle.le_english.proofs.SaidNodes.{answers-back}
use Rattle.le_tool.specs.declared.jobs.Command.{Command}
use Rattle.le_tool.specs.declared.jobs.Command.TheVariants.{Answer, Explain, Certify, Clauses, Check}
use Rattle.le_tool.specs.declared.jobs.Task.{Task}
use Rattle.le_tool.specs.declared.asking.Detail.TheVariants.{Values, Reasons, Derivations}
use Rattle.le_tool.specs.Job.{job_of}
use Rattle.le_tool.specs.Documents.{most_bytes, whole_of_sections, whole_of_layout, document_by, document_of}
use Rattle.le_tool.specs.Report.{Question, question_of}
use Rattle.le_clauses.proofs.Sayable.{sayable}
use Rattle.le_tool.proofs.HeadLemmas.{SectionFits, sections_fit}
use Rattle.le_tool.proofs.LimitLemmas.{limits_of}
use Rattle.le_tool.proofs.PieceNames.{IsNamedSection, IsNamedPiece, program_named}
use Rattle.le_tool.specs.Sentences.{AreReadBack, CommandReadsBack, SentencesReadBack}

-- the layout of a text that isn't too long is valid
valid-layout : (bytes : List ℕ) (layout : Layout) → length bytes ≤ 2 ^ 28 → layout_of bytes ≡ Ok layout → IsLayout layout
valid-layout bytes layout short e =
    ⊎_elim (λ h. let utf8 = IsUtf8-from_is_utf8 bytes h in layout_sound bytes bytes (Ok layout) utf8 short refl (layout_of-utf8 bytes bytes utf8 refl ∙ e))
    (λ h. let bad = layout_of-bad bytes (utf8_valid_len bytes) (place_in (take (utf8_valid_len bytes) bytes)) (λ u. no_both (is_utf8 bytes) (is_utf8-from_IsUtf8 bytes u) h) refl refl in absurd (cc (sym bad ∙ e)))
    (cases_Bool (is_utf8 bytes))
  where
    no_both : (b : Bool) → b ≡ true → b ≡ false → ⊥
    no_both true yes_ no_ = cc
    no_both false yes_ no_ = cc

-- ---- the templates of a document are declared one after another

spans-within : (layout : Layout) (commas : Bool) (from to : ℕ) (spans : List Span) → to ≤ length layout.tokens → AreSentences layout commas from to spans → AllByRecursion (IsSpan layout) spans
spans-within layout commas from to [] inside are = tt
spans-within layout commas from to (s ∷ ss) inside are = by are.4 (λ rest. spans-within layout commas s.to to ss inside rest)
  where
    first : s.to ≤ to → IsSpan layout s
    first less = record { ordered = omega (arith, are.2); within = omega (arith, inside) }

    by : ((s.to ≡ to) × (ss ≡ [])) ⊎ ((s.to < to) × (Rattle.le_docs.specs.Rule.ends_at layout commas s.to ≡ true) × AreSentences layout commas s.to to ss) → (AreSentences layout commas s.to to ss → AllByRecursion (IsSpan layout) ss) → IsSpan layout s × AllByRecursion (IsSpan layout) ss
    by (inl (end, none)) more = (first (omega (arith, end)), subst (AllByRecursion (IsSpan layout)) (sym none) tt)
    by (inr (less, ends, rest)) more = (first (omega (arith, less)), more rest)

abbrev AreWithin : Layout → List Section → Type 0
AreWithin layout sections = AllByRecursion (λ (s : Section). AllByRecursion (IsSpan layout) s.sentences) sections

sections-within : (layout : Layout) (heads : List Head) (sections : List Section) → AreSectionsOf layout heads sections → AreWithin layout sections
sections-within layout [] [] are = tt
sections-within layout [] (section ∷ sections) are = absurd are
sections-within layout (head ∷ heads) [] are = absurd are
sections-within layout (head ∷ heads) (section ∷ sections) are =
    (spans-within layout (same_kind head.kind kinds.Templates) head.body are.0.to section.sentences are.0.inside are.0.sentences, sections-within layout heads sections are.1)

both : {X : Type 0} (P : X → Type 0) (xs ys : List X) → AllByRecursion P xs → AllByRecursion P ys → AllByRecursion P (xs ++ ys)
both P [] ys h k = k
both P (x ∷ xs) ys h k = (h.0, both P xs ys h.1 k)

templates-within : (layout : Layout) (sections : List Section) → AreWithin layout sections → AllByRecursion (IsSpan layout) (template_spans sections)
unfolding template_spans
templates-within layout [] h = tt
templates-within layout (s ∷ sections) h =
    both (IsSpan layout) (if same_kind s.kind kinds.Templates then s.sentences else []) (flat_map (λ (t : Section). if same_kind t.kind kinds.Templates then t.sentences else []) sections)
    (by (same_kind s.kind kinds.Templates)) (templates-within layout sections h.1)
  where
    by : (b : Bool) → AllByRecursion (IsSpan layout) (if b then s.sentences else [])
    by true = h.0
    by false = tt

are-declared : (layout : Layout) → IsLayout layout → (before users : List Template) (spans : List Span) → AllByRecursion (IsSpan layout) spans → AreDeclared before → declared_after layout before spans ≡ Ok users → AreDeclared users
are-declared layout valid before users [] within declared e = let same : before ≡ users = cc e in subst AreDeclared same declared
are-declared layout valid before users (span ∷ spans) within declared e =
    by (declaration before layout span) refl (λ t is more. are-declared layout valid (before ++ t ∷ []) users spans within.1 (more-declared before t declared (record { layout = layout; tokens = span; valid = valid; within = within.0; declares = is })) more) e
  where
    by : (r : Result Template Refusal) → declaration before layout span ≡ r
        → ((t : Template) → declaration before layout span ≡ Ok t → declared_after layout (before ++ t ∷ []) spans ≡ Ok users → AreDeclared users)
        → ◌≡◌ {A = Result (List Template) Refusal} (elim r [ Ok t ↦ declared_after layout (before ++ t ∷ []) spans | Err r ↦ Err r ]) (Ok users) → AreDeclared users
    by (Ok t) is more found = more t is found
    by (Err r) is more found = absurd (cc found)

doc-sections : (layout : Layout) (doc : Doc) → sections_of layout ≡ Ok doc → doc.sections ≡ all_sections layout
doc-sections layout doc e = by (least_from None (all_faults layout)) e
  where
    by : (o : Option Fault) → decided layout o (all_sections layout) ≡ Ok doc → doc.sections ≡ all_sections layout
    by None found = let same : record { sections = all_sections layout } ≡ doc = cc found in ap (λ (d : Doc). d.sections) (sym same)
    by (Some fault) found = absurd (cc found)

users-are : (r : Result (List Template) Refusal) (pieces : List Template → Result (Read (List Piece)) Refusal) (whole : Whole)
    → ◌≡◌ {A = Result Whole Refusal} (elim r [ Ok users ↦ whole_by users (pieces users) | Err r ↦ Err r ]) (Ok whole) → r ≡ Ok whole.templates
users-are (Ok users) pieces whole e = by (pieces users) e
  where
    by : (p : Result (Read (List Piece)) Refusal) → whole_by users p ≡ Ok whole → ◌≡◌ {A = Result (List Template) Refusal} (Ok users) (Ok whole.templates)
    by (Ok f) found = let same : record { templates = users; names = f.names; groups = f.groups; pieces = f.value } ≡ whole = cc found in ap (λ (w : Whole). Ok w.templates) same
    by (Err r) found = absurd (cc found)
users-are (Err r) pieces whole e = absurd (cc e)

whole-declared : (layout : Layout) (doc : Doc) (whole : Whole) → IsLayout layout → sections_of layout ≡ Ok doc → program_of layout doc ≡ Ok whole → AreDeclared whole.templates
unfolding program_of
whole-declared layout doc whole valid is e =
    let within : AreWithin layout (all_sections layout) = sections-within layout (heads_of layout layout.lines) (all_sections layout) (sections_are layout valid) in
    are-declared layout valid [] whole.templates (template_spans doc.sections)
    (templates-within layout doc.sections (subst (AreWithin layout) (sym (doc-sections layout doc is)) within)) tt
    (users-are (users_of layout doc) (λ users. pieces_of users [] 0 [] layout doc.sections) whole e)

-- ---- a document that is accepted

-- where a document comes from, and what it keeps
pub record Comes (whole : Whole) : Type 0 where
  pub layout : Layout
  pub doc : Doc
  pub valid : IsLayout layout
  pub comes : program_of layout doc ≡ Ok whole
  pub declared : AreDeclared whole.templates
  pub sound : IsWhole whole
  pub named : AllByRecursion IsNamedPiece whole.pieces

-- the sections of a document
sections-fit : (layout : Layout) (doc : Doc) → IsLayout layout → sections_of layout ≡ Ok doc → AllByRecursion (SectionFits layout) doc.sections
sections-fit layout doc valid is = subst (AllByRecursion (SectionFits layout)) (sym (doc-sections layout doc is)) (sections_fit layout valid)

all-over : (layout : Layout) (sections : List Section) → AllByRecursion (SectionFits layout) sections → AllByRecursion (IsSectionOver (length layout.tokens)) sections
all-over layout [] h = tt
all-over layout (s ∷ sections) h = (h.0.over, all-over layout sections h.1)

all-named : (layout : Layout) (sections : List Section) → AllByRecursion (SectionFits layout) sections → AllByRecursion IsNamedSection sections
all-named layout [] h = tt
all-named layout (s ∷ sections) h = (h.0.name, all-named layout sections h.1)

given : {X : Type 0} (P : X → Type 0) (r : Result X Refusal) (x : X) → r ≡ Ok x → IfOk r P → P x
given P r x e h = subst (λ s. IfOk s P) e h

comes-sections : (layout : Layout) → IsLayout layout → (r : Result Doc Refusal) → sections_of layout ≡ r → IfOk (whole_of_sections layout r) Comes
comes-sections layout valid (Err refusal) is = tt
comes-sections layout valid (Ok doc) is = by (program_of layout doc) refl
  where
    by : (r : Result Whole Refusal) → program_of layout doc ≡ r → IfOk r Comes
    by (Ok whole) e =
        let fits : AllByRecursion (SectionFits layout) doc.sections = sections-fit layout doc valid is in
        record {
          layout = layout;
          doc = doc;
          valid = valid;
          comes = e;
          declared = whole-declared layout doc whole valid is e;
          sound = valid_if_read layout doc whole valid (All-from_recursion (IsSectionOver (length layout.tokens)) doc.sections (all-over layout doc.sections fits)) e;
          named = given (λ w. AllByRecursion IsNamedPiece w.pieces) (program_of layout doc) whole e (program_named layout doc (all-named layout doc.sections fits));
        }
    by (Err refusal) e = tt

comes-layout : (bytes : List ℕ) → length bytes ≤ 2 ^ 28 → (r : Result Layout Refusal) → layout_of bytes ≡ r → IfOk (whole_of_layout r) Comes
comes-layout bytes short (Err refusal) e = tt
comes-layout bytes short (Ok layout) e = comes-sections layout (valid-layout bytes layout short e) (sections_of layout) refl

pub document-comes : (bytes : List ℕ) → IfOk (document_of bytes) Comes
unfolding document_by
document-comes bytes = by (nat_lt most_bytes (length bytes)) refl
  where
    by : (b : Bool) → nat_lt most_bytes (length bytes) ≡ b → IfOk (if b then Err (refusal_at TooLong 0 0) else whole_of_layout (layout_of bytes)) Comes
    by true test = tt
    by false test = let short : length bytes ≤ most_bytes = ltb-false most_bytes (length bytes) test in comes-layout bytes (omega (arith, short)) (layout_of bytes) refl

-- ---- what is shown reads back

-- the program that is selected from a document is valid
pub selected-valid : (whole : Whole) → Comes whole → (scenario : Option (List ℕ)) (query : List ℕ) (program : Program) → selected whole scenario query ≡ Ok program → IsProgram program
selected-valid whole is scenario query program e = given IsProgram (selected whole scenario query) program e (selected_in whole scenario query is.sound)

question-back : (q : Question) → q.budget ≤ 100000 → (found : Result Whole Refusal) → IfOk found Comes → AreReadBack q found
question-back q low (Err refusal) is = tt
question-back q low (Ok whole) is = by (selected whole q.scenario q.query) refl
  where
    by : (r : Result Program Refusal) → selected whole q.scenario q.query ≡ r → IfOk r (λ program. AllByRecursion (AnswerReadsBack whole.templates whole.names) (answers_of program q.budget))
    by (Ok program) e =
        answers-back whole.templates whole.names program q.budget is.declared (selected-valid whole is q.scenario q.query program e)
        (sayable is.layout is.doc whole q.scenario q.query program is.valid is.comes e) (omega (arith, low))
    by (Err refusal) e = tt

sentences-back : (words : List (List ℕ)) (bytes : List ℕ) → SentencesReadBack words bytes
sentences-back words bytes = by (job_of words) refl
  where
    by_command : (command : Command) (task : Task) → task.budget ≤ 100000 → CommandReadsBack command words bytes task
    by_command Answer task low = question-back (question_of Values words task) low (document_of bytes) (document-comes bytes)
    by_command Explain task low = question-back (question_of Reasons words task) low (document_of bytes) (document-comes bytes)
    by_command Certify task low = question-back (question_of Derivations words task) low (document_of bytes) (document-comes bytes)
    by_command Clauses task low = tt
    by_command Check task low = tt

    by : (o : Option Task) → job_of words ≡ o → IfSome o (λ task. CommandReadsBack task.command words bytes task)
    by None job = tt
    by (Some task) job = by_command task.command task (limits_of words task job).0.1

-- so does what is shown of a document whose bytes are known
pub known-back : (o : Option (List ℕ)) (words : List (List ℕ)) → IfSome o (λ bytes. SentencesReadBack words bytes)
known-back None words = tt
known-back (Some bytes) words = sentences-back words bytes
