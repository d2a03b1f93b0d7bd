-- The sections of a layout: this project's profile.
use Rattle.std.specs.Prelude.{ℕ, ◌+◌, ◌-◌, ◌==◌, ◌&&◌, Bool, not, if◌then◌else◌, List, [], ◌∷◌, ◌++◌, length, map, codes, Option, None, Some, Result, Ok, Err}
use Rattle.std.specs.List.{list_any}
use Rattle.std.specs.Str.{bytes_eq}
use Rattle.le_base.specs.declared.code.Code.TheVariants.{UnknownHeader, NoStop, SameName}
use Rattle.le_layout.specs.declared.span.Span.{Span}
use Rattle.le_base.specs.declared.stop.Refusal.{Refusal}
use Rattle.le_layout.specs.declared.token.Token.{Token}
use Rattle.le_layout.specs.declared.layout.Layout.{Layout}
use Rattle.le_layout.specs.Words.{text_of, tokens_of, token_of, spaced, is_stop, has_word}
use Rattle.le_docs.specs.declared.doc.SectionKind.{SectionKind}
use Rattle.le_docs.specs.declared.doc.SectionKind.TheVariants as kinds
use Rattle.le_docs.specs.declared.doc.Section.{Section}
use Rattle.le_docs.specs.declared.doc.Doc.{Doc}
use Rattle.le_layout.specs.declared.fault.Fault.{Fault}
use Rattle.le_docs.specs.declared.headers.Head.{Head}
use Rattle.le_docs.specs.Kinds.{same_kind}
use Rattle.le_layout.specs.Fault.{fault_at, refusal_of}
use Rattle.le_docs.specs.Faults.{least_from}
use Rattle.le_docs.specs.Headers.{heads_of, lines_faults, first_faults}
use Rattle.le_docs.specs.Cuts.{Parts, parts_in, spans_at, open_at}

-- the words of a span joined by one space
abbrev pub name_of : Layout → Span → List ℕ
name_of layout span = spaced (map (text_of layout) (tokens_of layout span))

-- the parts of the section of this header, which ends here; a comma ends a template
abbrev pub parts_under : Layout → Head → ℕ → Parts
parts_under layout head to = parts_in layout (same_kind head.kind kinds.Templates) head.body to

-- the section of this header, which ends here
abbrev pub section_at : Layout → Head → ℕ → Section
section_at layout head to = record { kind = head.kind; name = name_of layout head.name; at = head.at; sentences = spans_at head.body (parts_under layout head to) }

-- whether the tokens of a span are `prolog` and a full stop
abbrev pub is_prolog : Layout → ℕ → ℕ → Bool
is_prolog layout from to = (to - from == 2) && (has_word layout from (codes "prolog") && is_stop (token_of layout (from + 1)).kind)

-- a target is nothing but `prolog` and a full stop
abbrev pub target_faults : Layout → Head → ℕ → List Fault
target_faults layout head to = if same_kind head.kind kinds.Target && not (is_prolog layout head.body to) then fault_at UnknownHeader head.at ∷ [] else []

-- a sentence isn't ended
abbrev pub open_faults : Layout → List Span → List Fault
open_faults layout [] = []
open_faults layout (span ∷ spans) = fault_at NoStop span.from ∷ []

-- there is no sentence, or a second one
abbrev pub count_faults : Layout → ℕ → List Span → List Fault
count_faults layout at [] = fault_at NoStop at ∷ []
count_faults layout at (span ∷ []) = []
count_faults layout at (span ∷ second ∷ spans) = fault_at UnknownHeader second.from ∷ []

-- a query has exactly one sentence
abbrev pub query_faults : Layout → Head → List Span → List Fault
query_faults layout head spans = if same_kind head.kind kinds.Query then count_faults layout head.at spans else []

-- the faults of the section of this header, which ends here
abbrev pub section_faults : Layout → Head → ℕ → List Fault
section_faults layout head to =
    target_faults layout head to
    ++ (open_faults layout (open_at head.body (parts_under layout head to))
    ++ query_faults layout head (spans_at head.body (parts_under layout head to)))

-- where a section ends: at the next header, or at the end of the text
abbrev pub next_at : Layout → List Head → ℕ
next_at layout [] = length layout.tokens
next_at layout (head ∷ heads) = head.at

-- the sections of headers that follow each other
unfoldable pub sections_under : Layout → List Head → List Section
sections_under layout [] = []
sections_under layout (head ∷ heads) = section_at layout head (next_at layout heads) ∷ sections_under layout heads

-- and the faults of these sections
unfoldable pub faults_under : Layout → List Head → List Fault
faults_under layout [] = []
faults_under layout (head ∷ heads) = section_faults layout head (next_at layout heads) ++ faults_under layout heads

-- whether a section of this kind has this name
abbrev pub has_name : SectionKind → List ℕ → List Section → Bool
has_name kind name sections = list_any (λ s. same_kind s.kind kind && bytes_eq s.name name) sections

-- some earlier section of this kind has this section's name
abbrev pub name_faults : Layout → SectionKind → List Section → Section → List Fault
name_faults layout kind earlier s = if same_kind s.kind kind && has_name kind s.name earlier then fault_at SameName s.at ∷ [] else []

-- the faults of the names of this kind
unfoldable pub names_faults : Layout → SectionKind → List Section → List Section → List Fault
names_faults layout kind earlier [] = []
names_faults layout kind earlier (s ∷ later) = name_faults layout kind earlier s ++ names_faults layout kind (earlier ++ s ∷ []) later

-- the sections of a layout
abbrev pub all_sections : Layout → List Section
all_sections layout = sections_under layout (heads_of layout layout.lines)

-- all that is wrong with the sections of a layout
abbrev pub all_faults : Layout → List Fault
all_faults layout =
    first_faults layout layout.lines
    ++ (lines_faults layout layout.lines
    ++ (faults_under layout (heads_of layout layout.lines)
    ++ (names_faults layout kinds.Scenario [] (all_sections layout)
    ++ names_faults layout kinds.Query [] (all_sections layout))))

-- the sections, where nothing is wrong
abbrev pub decided : Layout → Option Fault → List Section → Result Doc Refusal
decided layout None sections = Ok (record { sections = sections })
decided layout (Some fault) sections = Err (refusal_of layout fault)

-- the sections of a layout, or the refusal of the fault that decides
abbrev pub sections_of : Layout → Result Doc Refusal
sections_of layout = decided layout (least_from None (all_faults layout)) (all_sections layout)
