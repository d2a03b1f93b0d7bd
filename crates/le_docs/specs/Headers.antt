-- The headers of a text: this project's profile.
use Rattle.std.specs.Prelude.{◌≡◌, ℕ, ◌+◌, ◌-◌, ◌≤◌, ◌==◌, ◌&&◌, Bool, if◌then◌else◌, nat_lt, nat_le, List, [], ◌∷◌, ◌++◌, codes, slice_range, Option, None, Some, is_some}
use Rattle.std.specs.Option.{option_to_list}
use Rattle.std.specs.List.{list_all}
use Rattle.le_base.specs.declared.code.Code.TheVariants.{UnknownHeader}
use Rattle.le_layout.specs.declared.token.Token.{Token}
use Rattle.le_layout.specs.declared.token.Line.{Line}
use Rattle.le_layout.specs.declared.layout.Layout.{Layout}
use Rattle.le_layout.specs.Words.{is_word, is_colon, has_word}
use Rattle.le_docs.specs.declared.doc.SectionKind.{SectionKind}
use Rattle.le_docs.specs.declared.doc.SectionKind.TheVariants as kinds
use Rattle.le_layout.specs.declared.fault.Fault.{Fault}
use Rattle.le_docs.specs.declared.headers.Head.{Head}
use Rattle.le_layout.specs.Fault.{fault_at}

-- the first colon of tokens that stand from this place on, or their end
abbrev pub colon_from : ℕ → List Token → ℕ
colon_from at [] = at
colon_from at (t ∷ ts) = if is_colon t.kind then at else colon_from (at + 1) ts

-- the first colon among the tokens of a span, or its end
abbrev pub first_colon : Layout → ℕ → ℕ → ℕ
first_colon layout from to = colon_from from (slice_range layout.tokens from to)

-- whether all tokens of a span are words
abbrev pub all_words : Layout → ℕ → ℕ → Bool
all_words layout from to = list_all (λ t. is_word t.kind) (slice_range layout.tokens from to)

-- `the target language is`
unfoldable pub is_target : Layout → ℕ → ℕ → Bool
is_target layout from to = (to - from == 4) && (has_word layout from (codes "the") && (has_word layout (from + 1) (codes "target") && (has_word layout (from + 2) (codes "language") && has_word layout (from + 3) (codes "is"))))

-- `the templates are`
unfoldable pub is_templates : Layout → ℕ → ℕ → Bool
is_templates layout from to = (to - from == 3) && (has_word layout from (codes "the") && (has_word layout (from + 1) (codes "templates") && has_word layout (from + 2) (codes "are")))

-- `the knowledge base`
unfoldable pub opens_knowledge : Layout → ℕ → Bool
opens_knowledge layout from = has_word layout from (codes "the") && (has_word layout (from + 1) (codes "knowledge") && has_word layout (from + 2) (codes "base"))

-- `the knowledge base`, at most 12 words, and `includes`
unfoldable pub is_knowledge : Layout → ℕ → ℕ → Bool
is_knowledge layout from to = nat_le 4 (to - from) && (nat_le (to - from) 16 && (opens_knowledge layout from && (has_word layout (to - 1) (codes "includes") && all_words layout (from + 3) (to - 1))))

-- this word, 1 to 12 words, and `is`
unfoldable pub is_named : Layout → List ℕ → ℕ → ℕ → Bool
is_named layout word from to = nat_le 3 (to - from) && (nat_le (to - from) 14 && (has_word layout from word && (has_word layout (to - 1) (codes "is") && all_words layout (from + 1) (to - 1))))

-- the header that begins and ends here, with its name's tokens
abbrev pub head_as : SectionKind → ℕ → ℕ → ℕ → ℕ → Head
head_as kind from colon first last = record { kind = kind; at = from; name = record { from = first; to = last }; body = colon + 1 }

-- the header that a span of tokens before a colon is
unfoldable pub head_in : Layout → ℕ → ℕ → Option Head
head_in layout from colon =
    if is_target layout from colon then Some (head_as kinds.Target from colon from from)
    else (if is_templates layout from colon then Some (head_as kinds.Templates from colon from from)
    else (if is_knowledge layout from colon then Some (head_as kinds.Knowledge from colon (from + 3) (colon - 1))
    else (if is_named layout (codes "scenario") from colon then Some (head_as kinds.Scenario from colon (from + 1) (colon - 1))
    else (if is_named layout (codes "query") from colon then Some (head_as kinds.Query from colon (from + 1) (colon - 1))
    else None))))

-- the header of a line: what stands before its first colon
abbrev pub head_of : Layout → Line → Option Head
head_of layout line = let colon = first_colon layout line.from line.to in if nat_lt colon line.to then head_in layout line.from colon else None

-- a header begins its line and ends in it
pub record IsHeadIn (line : Line) (head : Head) : Type 0 where
  pub begins : head.at ≡ line.from
  pub low : line.from ≤ head.body
  pub high : head.body ≤ line.to
  pub name : head.name.to ≤ line.to

-- the headers among lines
unfoldable pub heads_of : Layout → List Line → List Head
heads_of layout [] = []
heads_of layout (line ∷ lines) = option_to_list (head_of layout line) ++ heads_of layout lines

-- where the tokens of a line begin that are no header
abbrev pub rest_begin : Line → Option Head → ℕ
rest_begin line None = line.from
rest_begin line (Some head) = head.body

-- a line with this header has a colon that ends no header
abbrev pub line_faults : Layout → Line → Option Head → List Fault
line_faults layout line head = if nat_lt (first_colon layout (rest_begin line head) line.to) line.to then fault_at UnknownHeader line.from ∷ [] else []

-- the faults of lines
unfoldable pub lines_faults : Layout → List Line → List Fault
lines_faults layout [] = []
lines_faults layout (line ∷ lines) = line_faults layout line (head_of layout line) ++ lines_faults layout lines

-- the first line is no header
abbrev pub first_faults : Layout → List Line → List Fault
first_faults layout [] = []
first_faults layout (line ∷ lines) = if is_some (head_of layout line) then [] else fault_at UnknownHeader line.from ∷ []
