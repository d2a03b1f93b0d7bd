-- A word that is a number: an optional minus sign, and then at least one ASCII digit, read in base ten. This project's profile.
use Rattle.std.specs.Prelude.{ℕ, ◌^◌, ◌==◌, ◌&&◌, Bool, nat_lt, nat_le, List, length, drop, slice_index, if◌then◌else◌, Option, Some, None, ℤ, pos, neg_ℤ, ◌≤ℤ◌, unsigned_abs}
use Rattle.std.specs.Char.{is_ascii_digit}
use Rattle.std.specs.List.{list_all}
use Rattle.std.specs.Str.Parse.{digits_value}

-- the greatest number; the least is its negative
abbrev pub greatest_number : ℕ
greatest_number = 10 ^ 18

-- whether it is one
abbrev pub is_number : ℤ → Bool
is_number n = nat_le (unsigned_abs n) greatest_number

-- whether the word begins with a minus sign
abbrev pub has_minus : List ℕ → Bool
has_minus word = slice_index word 0 == 45

-- the word after its minus sign, where it has one
abbrev pub after_minus : List ℕ → List ℕ
after_minus word = if has_minus word then drop 1 word else word

-- whether the word is an optional minus sign and then one digit or more, and nothing else
abbrev pub is_number_word : List ℕ → Bool
is_number_word word = nat_lt 0 (length (after_minus word)) && list_all is_ascii_digit (after_minus word)

-- the value of such a word, in which leading zeros have no effect
abbrev pub word_value : List ℕ → ℤ
word_value word = if has_minus word then neg_ℤ (pos (digits_value 10 (after_minus word))) else pos (digits_value 10 (after_minus word))

-- the number that the word is; none where it isn't of that form, or its value isn't from -10^18 to 10^18
unfoldable pub number_of : List ℕ → Option ℤ
number_of word = if is_number_word word && is_number (word_value word) then Some (word_value word) else None
