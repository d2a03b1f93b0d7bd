-- The rule of sections as relations, which the laws of this crate hold the definition to: this project's profile.
use Rattle.std.specs.Prelude.{◌≡◌, ℕ, ◌<◌, ◌≤◌, ◌==◌, ◌↔◌, ◌⊎◌, Bool, true, false, List, [], ◌∷◌, length, Some, Result, Ok, Err}
use Rattle.std.specs.List.{All, Contains, filter}
use Rattle.le_layout.specs.declared.span.Span.{Span}
use Rattle.le_base.specs.declared.stop.Refusal.{Refusal}
use Rattle.le_layout.specs.declared.layout.Layout.{Layout}
use Rattle.le_layout.specs.Words.{token_of}
use Rattle.le_docs.specs.declared.doc.SectionKind.TheVariants as kinds
use Rattle.le_docs.specs.declared.doc.Section.{Section}
use Rattle.le_docs.specs.declared.doc.Doc.{Doc}
use Rattle.le_layout.specs.declared.fault.Fault.{Fault}
use Rattle.le_docs.specs.declared.headers.Head.{Head}
use Rattle.le_docs.specs.Kinds.{same_kind, ends_sentence}
use Rattle.le_docs.specs.Cuts.{open_at}
use Rattle.le_layout.specs.Fault.{IsLeast, refusal_of}
use Rattle.le_docs.specs.Headers.{head_of}
use Rattle.le_docs.specs.Sections.{name_of, parts_under, all_sections, all_faults}

-- whether the token with this number ends a sentence; a comma does so where the section holds templates
abbrev pub ends_at : Layout → Bool → ℕ → Bool
ends_at layout commas k = ends_sentence commas (token_of layout k).kind

-- Each token from one place to another ends a sentence.
abbrev pub AllEnd : Layout → Bool → ℕ → ℕ → Type 0
AllEnd layout commas from to = (k : ℕ) → from ≤ k → k < to → ends_at layout commas k ≡ true

-- No token from one place to another ends a sentence.
abbrev pub NoneEnd : Layout → Bool → ℕ → ℕ → Type 0
NoneEnd layout commas from to = (k : ℕ) → from ≤ k → k < to → ends_at layout commas k ≡ false

-- The sentences among the tokens from one place to another, in order: only tokens that end one stand before each, it has at least one token and none that ends one, and it goes on to a token that ends one or to the last token.
abbrev pub AreSentences : Layout → Bool → ℕ → ℕ → List Span → Type 0
AreSentences layout commas from to [] = AllEnd layout commas from to
AreSentences layout commas from to (s ∷ ss) =
    (from ≤ s.from)
    × AllEnd layout commas from s.from
    × (s.from < s.to)
    × NoneEnd layout commas s.from s.to
    × (((s.to ≡ to) × (ss ≡ [])) ⊎ ((s.to < to) × (ends_at layout commas s.to ≡ true) × AreSentences layout commas s.to to ss))

-- A span holds the token with this number.
abbrev pub Holds : ℕ → Span → Type 0
Holds k span = (span.from ≤ k) × (k < span.to)

-- Exactly one of the spans holds it.
abbrev pub OneHolds : ℕ → List Span → Type 0
OneHolds k [] = ⊥
OneHolds k (s ∷ ss) = (Holds k s × All (λ other. Holds k other → ⊥) ss) ⊎ ((Holds k s → ⊥) × OneHolds k ss)

-- A header governs the token with this number: the token follows it, and no line with another header begins between the header's line and the token.
pub record Governs (layout : Layout) (head : Head) (k : ℕ) : Type 0 where
  pub after : head.body ≤ k
  pub last : All (λ line. (other : Head) → head_of layout line ≡ Some other → line.from ≤ k → line.from ≤ head.at) layout.lines

-- The section of a header: it has the header's kind and name, its tokens are those that the header governs, each of them that ends no sentence lies in exactly one of its sentences, and a sentence isn't ended where it reaches the section's end.
pub record IsSectionOf (layout : Layout) (head : Head) (section : Section) : Type 0 where
  pub kind : section.kind ≡ head.kind
  pub name : section.name ≡ name_of layout head.name
  pub at : section.at ≡ head.at
  pub to : ℕ
  pub inside : to ≤ length layout.tokens
  pub governed : (k : ℕ) → k < length layout.tokens → ((head.body ≤ k) × (k < to)) ↔ Governs layout head k
  pub sentences : AreSentences layout (same_kind head.kind kinds.Templates) head.body to section.sentences
  pub unended : open_at head.body (parts_under layout head to) ≡ filter (λ s. s.to == to) section.sentences
  pub once : (k : ℕ) → k < length layout.tokens → Governs layout head k → ends_at layout (same_kind head.kind kinds.Templates) k ≡ false → OneHolds k section.sentences

-- The sections are those of the headers, one for each and in their order.
abbrev pub AreSectionsOf : Layout → List Head → List Section → Type 0
AreSectionsOf layout [] [] = Unit {0}
AreSectionsOf layout [] (section ∷ sections) = ⊥
AreSectionsOf layout (head ∷ heads) [] = ⊥
AreSectionsOf layout (head ∷ heads) (section ∷ sections) = IsSectionOf layout head section × AreSectionsOf layout heads sections

-- A document without a fault has its sections. Of the others that fault is reported, with its place, that none precedes.
abbrev pub IsReported : Layout → Result Doc Refusal → Type 0
IsReported layout (Ok doc) = (all_faults layout ≡ []) × (doc.sections ≡ all_sections layout)
IsReported layout (Err refusal) = (fault : Fault) × IsLeast (all_faults layout) fault × (refusal ≡ refusal_of layout fault)
