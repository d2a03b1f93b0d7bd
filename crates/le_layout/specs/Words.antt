-- The words and the spans of a layout: this project's profile.
use Rattle.std.specs.Prelude.{ℕ, ◌+◌, ◌<◌, ◌≤◌, ◌&&◌, Bool, true, false, List, [], ◌∷◌, ◌++◌, length, map, flat_map, codes, slice_range, slice_index_or}
use Rattle.std.specs.Char.{to_ascii_lowercase}
use Rattle.std.specs.Str.{bytes_eq}
use Rattle.le_layout.specs.declared.span.Span.{Span}
use Rattle.le_layout.specs.declared.token.Kind.{Kind}
use Rattle.le_layout.specs.declared.token.Kind.TheVariants as kinds
use Rattle.le_layout.specs.declared.token.Token.{Token}
use Rattle.le_layout.specs.declared.layout.Layout.{Layout}
use Rattle.le_layout.specs.Layout.{no_token}

-- a span that lies among the tokens of a layout
pub record IsSpan (layout : Layout) (span : Span) : Type 0 where
  pub ordered : span.from ≤ span.to
  pub within : span.to ≤ length layout.tokens

-- a span that also has a token
pub record IsSomeSpan (layout : Layout) (span : Span) : Type 0 where
  pub some : span.from < span.to
  pub within : span.to ≤ length layout.tokens

-- the text of a token
abbrev pub text_of : Layout → Token → List ℕ
text_of layout t = slice_range layout.text t.from t.to

-- the tokens of a span
abbrev pub tokens_of : Layout → Span → List Token
tokens_of layout span = slice_range layout.tokens span.from span.to

-- texts joined by one space
abbrev pub spaced : List (List ℕ) → List ℕ
spaced [] = []
spaced (w ∷ ws) = w ++ flat_map (λ v. 32 ∷ v) ws

-- the token with this number
abbrev pub token_of : Layout → ℕ → Token
token_of layout k = slice_index_or layout.tokens k no_token

-- the same word, ASCII case ignored
abbrev pub same_word : List ℕ → List ℕ → Bool
same_word a b = bytes_eq (map to_ascii_lowercase a) (map to_ascii_lowercase b)

abbrev pub is_word : Kind → Bool
is_word kinds.Word = true
is_word _ = false

abbrev pub is_quote : Kind → Bool
is_quote kinds.Quote = true
is_quote _ = false

abbrev pub is_comma : Kind → Bool
is_comma kinds.Comma = true
is_comma _ = false

abbrev pub is_colon : Kind → Bool
is_colon kinds.Colon = true
is_colon _ = false

abbrev pub is_star : Kind → Bool
is_star kinds.Star = true
is_star _ = false

abbrev pub is_stop : Kind → Bool
is_stop kinds.Stop = true
is_stop _ = false

-- whether a token is this word, ASCII case ignored
abbrev pub is_this_word : Layout → List ℕ → Token → Bool
is_this_word layout word t = is_word t.kind && same_word (text_of layout t) word

-- whether the token with this number is this word, ASCII case ignored
unfoldable pub has_word : Layout → ℕ → List ℕ → Bool
has_word layout k word = is_this_word layout word (token_of layout k)

-- whether the tokens from this number on are these words, ASCII case ignored
unfoldable pub has_words : Layout → ℕ → List (List ℕ) → Bool
has_words layout k [] = true
has_words layout k (w ∷ ws) = has_word layout k w && has_words layout (k + 1) ws

-- the words that open a negation
abbrev pub not_the_case : List (List ℕ)
not_the_case = codes "it" ∷ codes "is" ∷ codes "not" ∷ codes "the" ∷ codes "case" ∷ codes "that" ∷ []

-- the words that mark the second block of a `for all`
abbrev pub the_case : List (List ℕ)
the_case = codes "it" ∷ codes "is" ∷ codes "the" ∷ codes "case" ∷ codes "that" ∷ []

-- the words that open a `for all`
abbrev pub all_cases : List (List ℕ)
all_cases = codes "for" ∷ codes "all" ∷ codes "cases" ∷ codes "in" ∷ codes "which" ∷ []
