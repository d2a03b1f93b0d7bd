-- The words that open a scope, and the beginnings of lines: this project's profile.
use Rattle.std.specs.Prelude.{ℕ, zero, suc, ◌+◌, ◌-◌, ◌==◌, ◌&&◌, ◌||◌, Bool, true, false, not, if◌then◌else◌, nat_le, codes, List, [], ◌∷◌, Option, None, Some}
use Rattle.le_layout.specs.declared.layout.Layout.{Layout}
use Rattle.le_layout.specs.Words.{token_of, has_word, has_words, not_the_case, the_case, all_cases}

-- a token is the first of its line where it is the first of all, or the token before it has another line
unfoldable pub is_first : Layout → ℕ → Bool
is_first layout k = (k == 0) || not ((token_of layout (k - 1)).line == (token_of layout k).line)

-- the first token of the line of a token
unfoldable pub line_begin : Layout → ℕ → ℕ
line_begin layout zero = zero
line_begin layout (suc k) = if is_first layout (suc k) then suc k else line_begin layout k

-- the indent of the line of a token: the column, from 0, of the line's first token
abbrev pub indent : Layout → ℕ → ℕ
indent layout k = (token_of layout (line_begin layout k)).column - 1

-- `it is not the case that`
unfoldable pub says_negation : Layout → ℕ → Bool
says_negation layout k = has_words layout k not_the_case

-- `for all cases in which`
unfoldable pub says_for_all : Layout → ℕ → Bool
says_for_all layout k = has_words layout k all_cases

-- `it is the case that`
unfoldable pub says_marker : Layout → ℕ → Bool
says_marker layout k = has_words layout k the_case

-- the tokens of a span begin with the words of a negation
unfoldable pub opens_negation : Layout → ℕ → ℕ → Bool
opens_negation layout from to = nat_le 6 (to - from) && says_negation layout from

-- the tokens of a span begin with the words of a `for all`
unfoldable pub opens_for_all : Layout → ℕ → ℕ → Bool
opens_for_all layout from to = nat_le 5 (to - from) && says_for_all layout from

-- the tokens of a span begin with the words of a marker, which stand together on one line
unfoldable pub opens_marker : Layout → ℕ → ℕ → Bool
opens_marker layout from to = nat_le 5 (to - from) && (says_marker layout from && ((token_of layout from).line == (token_of layout (from + 4)).line))

-- `sum`, `number` or `greatest`
unfoldable pub is_fold_word : Layout → ℕ → Bool
is_fold_word layout k = has_word layout k (codes "sum") || (has_word layout k (codes "number") || has_word layout k (codes "greatest"))

-- `is the sum of each`, or `number` or `greatest` in place of `sum`
unfoldable pub says_each : Layout → ℕ → Bool
says_each layout k = has_words layout k (codes "is" ∷ codes "the" ∷ []) && (is_fold_word layout (k + 2) && has_words layout (k + 3) (codes "of" ∷ codes "each" ∷ []))

-- `such that`
unfoldable pub says_such_that : Layout → ℕ → Bool
says_such_that layout k = has_words layout k (codes "such" ∷ codes "that" ∷ [])

-- the place after the words `is the sum of each` of content that begins here
unfoldable pub ends_each : Layout → ℕ → ℕ → Bool
ends_each layout from k = nat_le 5 (k - from) && says_each layout (k - 5)

-- the place after the words `such that` that follow another place
unfoldable pub ends_such_that : Layout → ℕ → ℕ → Bool
ends_such_that layout from k = nat_le 2 (k - from) && says_such_that layout (k - 2)

-- the place that was found, or else this place where it is so
abbrev pub or_here : Option ℕ → Bool → ℕ → Option ℕ
or_here (Some found) is_so k = Some found
or_here None true k = Some k
or_here None false k = None

-- the first of so many places after a place where it is so
unfoldable pub first_after : (ℕ → Bool) → ℕ → ℕ → Option ℕ
first_after is_so from zero = None
first_after is_so from (suc n) = or_here (first_after is_so from n) (is_so (from + suc n)) (from + suc n)

-- the place after the first `is the sum of each` of a span
abbrev pub each_end : Layout → ℕ → ℕ → Option ℕ
each_end layout from to = first_after (ends_each layout from) from (to - from)

-- the place after the first `such that` between two places
abbrev pub such_that_end : Layout → Option ℕ → ℕ → Option ℕ
such_that_end layout None to = None
such_that_end layout (Some from) to = first_after (ends_such_that layout from) from (to - from)

-- The place after a gather's opener in a span: the first `is the sum of each`, and after it the first `such that`.
abbrev pub gather_end : Layout → ℕ → ℕ → Option ℕ
gather_end layout from to = such_that_end layout (each_end layout from to) to

-- whether this place was found
abbrev pub is_place : Option ℕ → ℕ → Bool
is_place None k = false
is_place (Some found) k = found == k
