-- The phrase of a term, as what its tokens say: this project's profile.
use Rattle.std.specs.Prelude.{ℕ, ◌-◌, ◌==◌, ◌&&◌, Bool, true, false, not, nat_le, nat_lt, if◌then◌else◌, Option, Some, Result, Ok, Err, List, [], ◌∷◌, ◌++◌, length, map, take, drop, slice_index_or, codes, decimal}
use Rattle.std.specs.Char.{is_ascii_digit}
use Rattle.std.specs.Fmt.{signed_decimal}
use Rattle.std.specs.List.{list_all, list_any}
use Rattle.std.specs.Str.{bytes_eq}
use Rattle.le_base.specs.declared.stop.Refusal.{Refusal}
use Rattle.le_layout.specs.declared.token.Kind.TheVariants as kinds
use Rattle.le_layout.specs.declared.token.Token.{Token}
use Rattle.le_layout.specs.declared.layout.Layout.{Layout}
use Rattle.le_layout.specs.Layout.{no_token, layout_of}
use Rattle.le_layout.specs.Words.{text_of, same_word}
use Rattle.le_layout.specs.Spellings.{Spelling, spellings}
use Rattle.le_layout.specs.Joined.{plain, joined}
use Rattle.le_templates.specs.declared.part.Template.{Template}
use Rattle.le_templates.specs.Table.{ends_slot}
use Rattle.le_terms.specs.Tree.{Tree, constant, number, date, variable, nil, cell}
use Rattle.le_terms.specs.Variables.{occurrences}
use Rattle.le_values.specs.Days.{day_text}
use Rattle.le_scope.specs.declared.phrase.PhraseForm.{PhraseForm}
use Rattle.le_scope.specs.declared.phrase.PhraseForm.TheVariants.{Constant, The}
use Rattle.le_scope.specs.Phrases.{phrase_form, phrase_name}

-- a word, a quoted text, and a sign, as a token says them
abbrev pub word_of : List ℕ → Spelling
word_of w = record { kind = kinds.Word; text = w }

abbrev pub quoted : List ℕ → Spelling
quoted text = record { kind = kinds.Quote; text = text }

abbrev pub open_sign : Spelling
open_sign = record { kind = kinds.Open; text = codes "[" }

abbrev pub close_sign : Spelling
close_sign = record { kind = kinds.Close; text = codes "]" }

abbrev pub comma_sign : Spelling
comma_sign = record { kind = kinds.Comma; text = codes "," }

abbrev pub bar_sign : Spelling
bar_sign = record { kind = kinds.Bar; text = codes "|" }

-- ---- names

-- what the tokens of a name say, where it is scanned; nothing where it can't be
abbrev pub scanned_by : Result Layout Refusal → List Spelling
scanned_by (Ok layout) = spellings layout layout.tokens
scanned_by (Err refusal) = []

abbrev pub scanned : List ℕ → List Spelling
scanned name = scanned_by (layout_of name)

-- whether a text is ASCII digits alone
abbrev pub is_digits : List ℕ → Bool
is_digits text = nat_lt 0 (length text) && list_all is_ascii_digit text

-- whether a name is `thing`, ASCII case ignored, a space and ASCII digits, as in the phrase of a variable
abbrev pub is_numbered_thing : List ℕ → Bool
is_numbered_thing name = same_word (take 6 name) (codes "thing ") && is_digits (drop 6 name)

-- the last of some tokens
abbrev pub last_token : List Token → Token
last_token ts = slice_index_or ts (length ts - 1) no_token

-- whether `the` and these tokens read as a constant wherever they stand, and are no phrase of a variable
unfoldable pub is_plain_the : List Template → Layout → List Token → Bool
is_plain_the users layout ts = not (ends_slot users (text_of layout (last_token ts))) && not (is_numbered_thing (phrase_name layout ts))

-- whether a name that is scanned so is, as a phrase of this form, the constant of that name, whatever its words are
abbrev pub is_constant_by : List Template → List ℕ → Layout → Option PhraseForm → Bool
is_constant_by users name layout (Some Constant) = true
is_constant_by users name layout (Some The) =
    bytes_eq (codes "the " ++ phrase_name layout (drop 1 layout.tokens)) name && is_plain_the users layout (drop 1 layout.tokens)
is_constant_by users name layout _ = false

-- and whether its words joined by one space are the name
abbrev pub is_plain_by : List Template → List ℕ → Layout → Option PhraseForm → Bool
is_plain_by users name layout form = bytes_eq (phrase_name layout layout.tokens) name && is_constant_by users name layout form

abbrev pub is_plain_in : List Template → List ℕ → Result Layout Refusal → Bool
is_plain_in users name (Ok layout) = is_plain_by users name layout (phrase_form layout layout.tokens)
is_plain_in users name (Err refusal) = false

-- whether a name, of at most 2^28 bytes, reads as a phrase as the constant of that name
unfoldable pub is_plain_name : List Template → List ℕ → Bool
is_plain_name users name = nat_le (length name) 268_435_456 && is_plain_in users name (layout_of name)

-- A name is printed as it is where that reads as the constant of the name, and else as a quoted text.
unfoldable pub name_phrase : List Template → List ℕ → List Spelling
name_phrase users name = if is_plain_name users name then scanned name else quoted name ∷ []

-- ---- terms

-- whether a variable was printed before
abbrev pub is_seen : List ℕ → ℕ → Bool
is_seen seen k = list_any (λ n. k == n) seen

-- A variable is `a thing k` at its first place in a text, and `the thing k` later.
unfoldable pub variable_phrase : List ℕ → ℕ → List Spelling
variable_phrase seen k = word_of (if is_seen seen k then codes "the" else codes "a") ∷ word_of (codes "thing") ∷ word_of (decimal k) ∷ []

-- The phrase of a term, where these variables were printed before in the text: a list is its items between brackets, with commas between them, and after `|` its last tail where that isn't the empty list.
abbrev mutual
  pub phrase_of : List Template → List (List ℕ) → List ℕ → Tree → List Spelling
  phrase_of users names seen (constant n) = name_phrase users (slice_index_or names n [])
  phrase_of users names seen (number z) = word_of (signed_decimal z) ∷ []
  phrase_of users names seen (date d) = word_of (day_text d) ∷ []
  phrase_of users names seen (variable k) = variable_phrase seen k
  phrase_of users names seen nil = open_sign ∷ close_sign ∷ []
  phrase_of users names seen (cell head tail) = open_sign ∷ (phrase_of users names seen head ++ rest_of users names (seen ++ occurrences head) tail)

  pub rest_of : List Template → List (List ℕ) → List ℕ → Tree → List Spelling
  rest_of users names seen (constant n) = bar_sign ∷ (name_phrase users (slice_index_or names n []) ++ close_sign ∷ [])
  rest_of users names seen (number z) = bar_sign ∷ word_of (signed_decimal z) ∷ close_sign ∷ []
  rest_of users names seen (date d) = bar_sign ∷ word_of (day_text d) ∷ close_sign ∷ []
  rest_of users names seen (variable k) = bar_sign ∷ (variable_phrase seen k ++ close_sign ∷ [])
  rest_of users names seen nil = close_sign ∷ []
  rest_of users names seen (cell head tail) = comma_sign ∷ (phrase_of users names seen head ++ rest_of users names (seen ++ occurrences head) tail)

-- the phrases of several terms in one text, from left to right
abbrev pub phrases_of : List Template → List (List ℕ) → List ℕ → List Tree → List (List Spelling)
phrases_of users names seen [] = []
phrases_of users names seen (tree ∷ trees) = phrase_of users names seen tree ∷ phrases_of users names (seen ++ occurrences tree) trees

-- The text of a term by itself: what its phrase says, joined as in a sentence.
unfoldable pub term_text : List Template → List (List ℕ) → Tree → List ℕ
term_text users names tree = joined (map plain (phrase_of users names [] tree))
