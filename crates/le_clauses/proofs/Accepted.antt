-- Sections that are accepted have names apart, and each query's has exactly one sentence.
use Rattle.std.proofs.Common.{◌≡◌, ⊎_elim, ℕ, ◌≤◌, ◌&&◌, ◌||◌, Bool, true, false, List, [], ◌∷◌, ◌++◌, length, bytes_eq, refl, sym, ap, subst, ◌∙◌, arith}
use Rattle.std.specs.List.{AllByRecursion}
use Rattle.std.proofs.lemmas.Bool.{cond-true, or_right, eq-eqb, true≢false}
use Rattle.std.proofs.lemmas.Slice.Eq.{bytes_eq-Decides}
use Rattle.le_base.specs.declared.code.Code.TheVariants.{SameName}
use Rattle.le_layout.specs.declared.span.Span.{Span}
use Rattle.le_layout.specs.declared.layout.Layout.{Layout}
use Rattle.le_layout.specs.Layout.{IsLayout}
use Rattle.le_docs.specs.declared.doc.SectionKind.{SectionKind}
use Rattle.le_docs.specs.declared.doc.SectionKind.TheVariants as kinds
use Rattle.le_docs.specs.declared.doc.Section.{Section}
use Rattle.le_docs.specs.declared.headers.Head.{Head}
use Rattle.le_docs.specs.Bounds.{IsSentenceOver}
use Rattle.le_layout.specs.Fault.{fault_at}
use Rattle.le_docs.specs.Headers.{heads_of, lines_faults, first_faults}
use Rattle.le_docs.specs.Cuts.{spans_at, open_at}
use Rattle.le_docs.specs.Kinds.{kind_number, same_kind}
use Rattle.le_docs.specs.Rule.{AreSentences, AreSectionsOf}
use Rattle.le_docs.specs.Sections.{parts_under, section_at, target_faults, open_faults, count_faults, query_faults, section_faults, next_at, sections_under, faults_under, has_name, name_faults, names_faults, all_sections, all_faults}
use Rattle.le_docs.proofs.GovernLemmas.{sections_are}
use Rattle.le_conds.proofs.TreeLaws.{nil_left, nil_right}
use Rattle.le_clauses.proofs.ValidWhole.{LiesOver}
use Rattle.le_clauses.proofs.QueryLiterals.{not_nil}

pub same_is : (kind kind' : SectionKind) → kind ≡ kind' → same_kind kind kind' ≡ true
same_is kind kind' e = eq-eqb (kind_number kind) (kind_number kind') (ap kind_number e)

-- ---- names of sections

-- a section of this kind has another name than this
abbrev pub OtherName : SectionKind → List ℕ → Section → Type 0
OtherName kind name s = s.kind ≡ kind → s.name ≡ name → ⊥

abbrev pub NamesApart : SectionKind → List Section → Type 0
NamesApart kind [] = Unit {0}
NamesApart kind (s ∷ ss) = (s.kind ≡ kind → AllByRecursion (OtherName kind s.name) ss) × NamesApart kind ss

has_pushed : (kind : SectionKind) (name : List ℕ) (earlier : List Section) (s : Section) → has_name kind name earlier ≡ true → has_name kind name (earlier ++ s ∷ []) ≡ true
has_pushed kind name [] s h = absurd (true≢false (sym h))
has_pushed kind name (t ∷ earlier) s h = by (same_kind t.kind kind && bytes_eq t.name name) h (has_pushed kind name earlier s)
  where
    by : (b : Bool) → (b || has_name kind name earlier) ≡ true → (has_name kind name earlier ≡ true → has_name kind name (earlier ++ s ∷ []) ≡ true) → (b || has_name kind name (earlier ++ s ∷ [])) ≡ true
    by true e further = refl
    by false e further = further e

has_last : (kind : SectionKind) (name : List ℕ) (earlier : List Section) (s : Section) → same_kind s.kind kind ≡ true → bytes_eq s.name name ≡ true → has_name kind name (earlier ++ s ∷ []) ≡ true
has_last kind name [] s k n = ap (λ b. (b && bytes_eq s.name name) || false) k ∙ ap (λ b. b || false) n
has_last kind name (t ∷ earlier) s k n = or_right (same_kind t.kind kind && bytes_eq t.name name) (has_name kind name (earlier ++ s ∷ [])) (has_last kind name earlier s k n)

same_name : (xs ys : List ℕ) → xs ≡ ys → bytes_eq xs ys ≡ true
same_name xs ys e = (bytes_eq-Decides xs ys).1 e

other_by : (layout : Layout) (kind : SectionKind) (name : List ℕ) (earlier : List Section) (s : Section) → has_name kind name earlier ≡ true → name_faults layout kind earlier s ≡ [] → OtherName kind name s
other_by layout kind name earlier s h none k e =
    let both : (same_kind s.kind kind && has_name kind s.name earlier) ≡ true = ap (λ b. b && has_name kind s.name earlier) (same_is s.kind kind k) ∙ ap (λ n. has_name kind n earlier) e ∙ h in
    not_nil (fault_at SameName s.at) [] (sym (cond-true (same_kind s.kind kind && has_name kind s.name earlier) (fault_at SameName s.at ∷ []) [] both) ∙ none)

others_by : (layout : Layout) (kind : SectionKind) (name : List ℕ) (earlier later : List Section) → has_name kind name earlier ≡ true → names_faults layout kind earlier later ≡ [] → AllByRecursion (OtherName kind name) later
unfolding names_faults
others_by layout kind name earlier [] h none = tt
others_by layout kind name earlier (s ∷ later) h none =
    let here = name_faults layout kind earlier s in
    let behind = names_faults layout kind (earlier ++ s ∷ []) later in (
      other_by layout kind name earlier s h (nil_left here behind none),
      others_by layout kind name (earlier ++ s ∷ []) later (has_pushed kind name earlier s h) (nil_right here behind none),
    )

sections_apart : (layout : Layout) (kind : SectionKind) (earlier later : List Section) → names_faults layout kind earlier later ≡ [] → NamesApart kind later
unfolding names_faults
sections_apart layout kind earlier [] none = tt
sections_apart layout kind earlier (s ∷ later) none =
    let behind = nil_right (name_faults layout kind earlier s) (names_faults layout kind (earlier ++ s ∷ []) later) none in (
      λ k. others_by layout kind s.name (earlier ++ s ∷ []) later (has_last kind s.name earlier s (same_is s.kind kind k) (same_name s.name s.name refl)) behind,
      sections_apart layout kind (earlier ++ s ∷ []) later behind,
    )

-- ---- the sentences of sections

sentences_lie : (layout : Layout) (commas : Bool) (from to : ℕ) (spans : List Span) → to ≤ length layout.tokens → AreSentences layout commas from to spans → AllByRecursion (IsSentenceOver (length layout.tokens)) spans
sentences_lie layout commas from to [] within h = tt
sentences_lie layout commas from to (span ∷ spans) within h = (
  record { some = h.2; inside = ⊎_elim (λ last. omega (arith, last.0, within)) (λ more. omega (arith, more.0, within)) h.4 },
  ⊎_elim (λ last. subst (AllByRecursion (IsSentenceOver (length layout.tokens))) (sym last.1) tt) (λ more. sentences_lie layout commas span.to to spans within more.2) h.4,
)

each_lies : (layout : Layout) (heads : List Head) → AreSectionsOf layout heads (sections_under layout heads) → AllByRecursion (LiesOver (length layout.tokens)) (sections_under layout heads)
unfolding sections_under
each_lies layout [] h = tt
each_lies layout (head ∷ heads) h =
    let spans = (section_at layout head (next_at layout heads)).sentences in
    (sentences_lie layout (same_kind head.kind kinds.Templates) head.body h.0.to spans h.0.inside h.0.sentences, each_lies layout heads h.1)

-- ---- the sentence of a query's section

pub record HasOneSentence (spans : List Span) : Type 0 where
  pub only : Span
  pub is : spans ≡ only ∷ []

-- a query's section has one sentence
abbrev pub AsksOnce : Section → Type 0
AsksOnce s = same_kind s.kind kinds.Query ≡ true → HasOneSentence s.sentences

only_one : (layout : Layout) (at : ℕ) (spans : List Span) → count_faults layout at spans ≡ [] → HasOneSentence spans
only_one layout at [] none = absurd (not_nil _ _ none)
only_one layout at (span ∷ []) none = record { only = span; is = refl }
only_one layout at (span ∷ second ∷ spans) none = absurd (not_nil _ _ none)

one_asks : (layout : Layout) (head : Head) (to : ℕ) → section_faults layout head to ≡ [] → AsksOnce (section_at layout head to)
one_asks layout head to none asks =
    let spans = spans_at head.body (parts_under layout head to) in
    let unended = open_faults layout (open_at head.body (parts_under layout head to)) in
    let counted = nil_right unended (query_faults layout head spans) (nil_right (target_faults layout head to) (unended ++ query_faults layout head spans) none) in
    only_one layout head.at spans (sym (cond-true (same_kind head.kind kinds.Query) (count_faults layout head.at spans) [] asks) ∙ counted)

each_asks : (layout : Layout) (heads : List Head) → faults_under layout heads ≡ [] → AllByRecursion AsksOnce (sections_under layout heads)
unfolding sections_under faults_under
each_asks layout [] none = tt
each_asks layout (head ∷ heads) none =
    let here = section_faults layout head (next_at layout heads) in (
      one_asks layout head (next_at layout heads) (nil_left here (faults_under layout heads) none),
      each_asks layout heads (nil_right here (faults_under layout heads) none),
    )

-- sections that are accepted
pub record AreAccepted (count : ℕ) (sections : List Section) : Type 0 where
  pub scenarios : NamesApart kinds.Scenario sections
  pub queries : NamesApart kinds.Query sections
  pub lie : AllByRecursion (LiesOver count) sections
  pub ask : AllByRecursion AsksOnce sections

pub accepted : (layout : Layout) → IsLayout layout → all_faults layout ≡ [] → AreAccepted (length layout.tokens) (all_sections layout)
accepted layout valid none =
    let ss = all_sections layout in
    let heads = heads_of layout layout.lines in
    let first = first_faults layout layout.lines in
    let lines = lines_faults layout layout.lines in
    let under = faults_under layout heads in
    let scenarios = names_faults layout kinds.Scenario [] ss in
    let queries = names_faults layout kinds.Query [] ss in
    let sections_none = nil_right lines (under ++ (scenarios ++ queries)) (nil_right first (lines ++ (under ++ (scenarios ++ queries))) none) in
    let names_none = nil_right under (scenarios ++ queries) sections_none in
    record {
      scenarios = sections_apart layout kinds.Scenario [] ss (nil_left scenarios queries names_none);
      queries = sections_apart layout kinds.Query [] ss (nil_right scenarios queries names_none);
      lie = each_lies layout heads (sections_are layout valid);
      ask = each_asks layout heads (nil_left under (scenarios ++ queries) sections_none);
    }
