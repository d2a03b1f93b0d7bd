-- The layout of a text: this project's profile.
use Rattle.std.specs.Prelude.{◌≡◌, ℕ, ◌+◌, ◌-◌, ◌^◌, ◌<◌, ◌≤◌, if◌then◌else◌, Option, Some, None, Result, Err, List, [], ◌∷◌, ◌++◌, length, take, flat_map, slice_index, slice_index_or, slice_range, All, IsCharBoundary, chars}
use Rattle.std.specs.Str.{is_utf8}
use Rattle.std.specs.Str.Lossy.{utf8_valid_len}
use Rattle.le_base.specs.declared.code.Code.TheVariants.{NotUtf8}
use Rattle.le_base.specs.declared.stop.Refusal.{Refusal}
use Rattle.le_layout.specs.declared.token.Kind.{Kind}
use Rattle.le_layout.specs.declared.token.Kind.TheVariants as kinds
use Rattle.le_layout.specs.declared.token.Token.{Token}
use Rattle.le_layout.specs.declared.token.Line.{Line}
use Rattle.le_layout.specs.declared.layout.Layout.{Layout}
use Rattle.le_layout.specs.declared.place.Place.{Place}
use Rattle.le_layout.specs.declared.piece.Form.{Form}
use Rattle.le_layout.specs.declared.piece.Form.TheVariants as forms
use Rattle.le_layout.specs.Characters.{kind_of}
use Rattle.le_layout.specs.Places.{place_behind, without_mark, first_place, refused}
use Rattle.le_layout.specs.Lines.{lines_of}
use Rattle.le_layout.specs.Pieces.{Piece, pieces_of}
use Rattle.le_layout.specs.Faults.{faults_from, unless_faulty}
use Rattle.le_layout.specs.Written.{IsWrittenAs}

-- the token of this kind whose place this is and whose bytes are those from one to another
abbrev pub token : Kind → Place → ℕ → ℕ → Token
token kind place from to = record { kind = kind; from = from; to = to; line = place.line; column = place.column + 1 }

-- the token that a single character is
abbrev pub single_token : Option Kind → Place → ℕ → List Token
single_token None place to = []
single_token (Some kind) place to = token kind place place.byte to ∷ []

-- the token of a piece that begins at a place and ends before a byte; the bytes of a quoted text are those between its quotation marks
unfoldable pub token_at : Form → List ℕ → Place → ℕ → List Token
token_at forms.Word chars place to = token kinds.Word place place.byte to ∷ []
token_at forms.Quote chars place to = token kinds.Quote place (place.byte + 1) (to - 1) ∷ []
token_at forms.Single chars place to = single_token (kind_of (slice_index chars 0)) place to
token_at _ chars place to = []

-- a token or none, as a list
abbrev pub as_list : Option Token → List Token
as_list None = []
as_list (Some t) = t ∷ []

-- the tokens among pieces that stand one after another from a place on
unfoldable pub tokens_at : Place → List Piece → List Token
tokens_at place [] = []
tokens_at place (p ∷ ps) =
    let behind = place_behind place p.chars in
    token_at p.form p.chars place behind.byte ++ tokens_at behind ps

-- the tokens of each of the lines that follow each other from a place on
unfoldable pub rows_from : Place → List (List ℕ) → List (List Token)
rows_from place [] = []
rows_from place (line ∷ lines) = tokens_at place (pieces_of line) ∷ rows_from (place_behind place line) lines

-- the line of these tokens, before which so many stand; without a token there is none
abbrev pub line_of : ℕ → List Token → List Line
line_of count [] = []
line_of count (t ∷ ts) = record { number = t.line; indent = t.column - 1; from = count; to = count + length (t ∷ ts) } ∷ []

-- the lines that have a token, with their tokens counted on
unfoldable pub lines_from : ℕ → List (List Token) → List Line
lines_from count [] = []
lines_from count (row ∷ rows) = line_of count row ++ lines_from (count + length row) rows

-- the tokens of each line of these characters
abbrev pub rows_of : List ℕ → List (List Token)
rows_of cs = rows_from (first_place cs) (lines_of (without_mark cs))

-- the faults among these characters
abbrev pub faults_of : List ℕ → List Refusal
faults_of cs = faults_from (first_place cs) (lines_of (without_mark cs))

-- the text with the tokens of all its lines, and with its lines that have a token
unfoldable pub layout_in : List ℕ → Layout
layout_in text =
    let rows = rows_of (chars text) in
    record { text = text; tokens = flat_map (λ row. row) rows; lines = lines_from 0 rows }

-- the place after the first characters of a text
abbrev pub place_after : List ℕ → Place
place_after cs = place_behind (first_place cs) (without_mark cs)

-- and after those of its first bytes
unfoldable pub place_in : List ℕ → Place
place_in front = place_after (chars front)

-- the layout of a text, or its refusal: NotUtf8 at the first bad byte, or else the fault of the least place
unfoldable pub layout_of : List ℕ → Result Layout Refusal
layout_of bytes =
    if is_utf8 bytes then unless_faulty (layout_in bytes) (faults_of (chars bytes))
    else Err (refused NotUtf8 (place_in (take (utf8_valid_len bytes) bytes)))

-- what stands for a token that isn't there
abbrev pub no_token : Token
no_token = record { kind = kinds.Word; from = 0; to = 0; line = 0; column = 0 }

-- the bytes of the token with this number
abbrev pub token_text : Layout → ℕ → List ℕ
token_text layout k = let t = slice_index_or layout.tokens k no_token in slice_range layout.text t.from t.to

-- the first byte of a token of this kind: a quoted text's is its quotation mark, which stands before the bytes of the token
abbrev pub first_byte : Kind → ℕ → ℕ
first_byte kinds.Quote from = from - 1
first_byte _ from = from

-- A token's bytes lie in the text, from the beginning of a character to the beginning of one or the end; they are what its kind may have; and its line and column are those of the place that the text before it leads to.
pub record IsTokenIn (text : List ℕ) (t : Token) : Type 0 where
  pub ordered : t.from ≤ t.to
  pub inside : t.to ≤ length text
  pub begins : IsCharBoundary text t.from
  pub ends : IsCharBoundary text t.to
  pub written : IsWrittenAs t.kind (slice_range text t.from t.to)
  pub line : t.line ≡ (place_in (take (first_byte t.kind t.from) text)).line
  pub column : t.column ≡ (place_in (take (first_byte t.kind t.from) text)).column + 1

-- tokens are in order: none begins before the end of one before it
abbrev pub InOrder : ℕ → List Token → ℕ → Type 0
InOrder from [] to = from ≤ to
InOrder from (t ∷ ts) to = (from ≤ t.from) × (t.from ≤ t.to) × InOrder t.to ts to

-- a line has at least one of so many tokens
pub record IsLineOver (count : ℕ) (l : Line) : Type 0 where
  pub some : l.from < l.to
  pub inside : l.to ≤ count

-- lines follow each other over the tokens: each begins with the token that follows the last of the line before it
abbrev pub Follow : ℕ → List Line → ℕ → Type 0
Follow from [] to = from ≡ to
Follow from (l ∷ ls) to = (l.from ≡ from) × Follow l.to ls to

-- what every layout keeps
pub record IsLayout (layout : Layout) : Type 0 where
  pub short : length layout.text ≤ 2 ^ 28
  pub few : length layout.tokens ≤ length layout.text
  pub tokens : All (IsTokenIn layout.text) layout.tokens
  pub order : InOrder 0 layout.tokens (length layout.text)
  pub lines : All (IsLineOver (length layout.tokens)) layout.lines
  pub whole : Follow 0 layout.lines (length layout.tokens)
