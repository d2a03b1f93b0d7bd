-- How the tokens of a section are cut into sentences: this project's profile.
use Rattle.std.specs.Prelude.{ℕ, ◌+◌, ◌==◌, Bool, if◌then◌else◌, List, [], ◌∷◌, ◌++◌, slice_range}
use Rattle.le_layout.specs.declared.span.Span.{Span}
use Rattle.le_layout.specs.declared.token.Token.{Token}
use Rattle.le_layout.specs.declared.layout.Layout.{Layout}
use Rattle.le_docs.specs.Kinds.{ends_sentence}

-- the numbers of tokens in the parts of a section: its full stop or comma follows each part but the last
pub data Parts : Type 0 where
  last : ℕ → Parts
  part : ℕ → Parts → Parts

-- the first part with so many tokens put before it
abbrev pub longer : ℕ → Parts → Parts
longer n (last m) = last (n + m)
longer n (part m parts) = part (n + m) parts

-- the parts of tokens
unfoldable pub parts_of : Bool → List Token → Parts
parts_of commas [] = last 0
parts_of commas (t ∷ ts) = if ends_sentence commas t.kind then part 0 (parts_of commas ts) else longer 1 (parts_of commas ts)

-- a part that has tokens
abbrev pub some_at : ℕ → ℕ → List Span
some_at at n = if n == 0 then [] else record { from = at; to = at + n } ∷ []

-- the parts that have tokens, where the first begins here
abbrev pub spans_at : ℕ → Parts → List Span
spans_at at (last n) = some_at at n
spans_at at (part n parts) = some_at at n ++ spans_at (at + n + 1) parts

-- the last part, where it has tokens: it is a sentence that isn't ended
abbrev pub open_at : ℕ → Parts → List Span
open_at at (last n) = some_at at n
open_at at (part n parts) = open_at (at + n + 1) parts

-- the parts of the tokens of a span
abbrev pub parts_in : Layout → Bool → ℕ → ℕ → Parts
parts_in layout commas from to = parts_of commas (slice_range layout.tokens from to)
