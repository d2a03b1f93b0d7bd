-- Worked examples of the definitions.
use Rattle.std.proofs.Common.{◌≡◌, ℕ, List, [], ◌∷◌, true, false, codes, refl}
use Rattle.unicode_ident.proofs.Computing.{unicode_ident}
use Rattle.le_values.specs.Numbers.{number_of}
use Rattle.le_values.specs.Days.{day_of}
use Rattle.le_layout.specs.declared.piece.Form.TheVariants as forms
use Rattle.le_layout.specs.Characters.{is_ascii_sign, is_further_sign, is_word_character}
use Rattle.le_layout.specs.Places.{next_place, place_behind}
use Rattle.le_layout.specs.Lines.{lines_of}
use Rattle.le_layout.specs.Pieces.{joins, goes_on, ends_line, piece, form_at, more_at, pieces_behind, pieces_of}
use Rattle.le_layout.specs.declared.token.Kind.TheVariants as kinds
use Rattle.le_layout.specs.Joined.{Item, opening, closing, plain, joined}
use Rattle.le_layout.specs.Faults.{is_numeral, is_numerals, is_number_like, is_bad_number, is_bad_date}

-- an empty line is a line, and the text after the last LF is one where there is any
blank_lines : lines_of (97 ∷ 10 ∷ 10 ∷ 98 ∷ 10 ∷ []) ≡ (97 ∷ 10 ∷ []) ∷ (10 ∷ []) ∷ (98 ∷ 10 ∷ []) ∷ []
unfolding lines_of
blank_lines = refl

-- a tab after two characters leads to column 4, one after four to column 8
tabs : place_behind (record { byte = 0; line = 1; column = 2 }) (9 ∷ 9 ∷ []) ≡ record { byte = 2; line = 1; column = 8 }
unfolding next_place
tabs = refl

-- `€` has three bytes and one column
euro : place_behind (record { byte = 0; line = 1; column = 0 }) (8364 ∷ []) ≡ record { byte = 3; line = 1; column = 1 }
unfolding next_place
euro = refl

-- numbers and dates by their look
number : is_number_like (codes "-5.5,2") ≡ true
unfolding is_number_like is_numerals is_numeral
number = refl

version : is_number_like (codes "2024-01") ≡ false
unfolding is_number_like is_numerals is_numeral
version = refl

-- a number-like word with a full stop is no number, one of digits is
bad_number : is_bad_number (codes "5.5") ≡ true
unfolding is_bad_number is_number_like is_numerals is_numeral number_of
bad_number = refl

good_number : is_bad_number (codes "-007") ≡ false
unfolding is_bad_number is_number_like is_numerals is_numeral number_of
good_number = refl

-- 29 February is a day of leap years alone
bad_date : is_bad_date (codes "2023-02-29") ≡ true
unfolding is_bad_date day_of
bad_date = refl

leap_day : is_bad_date (codes "2024-02-29") ≡ false
unfolding is_bad_date day_of
leap_day = refl

-- a full stop between words joins them, one at the end doesn't
word_then_stop : pieces_of (codes "a.b.") ≡ piece forms.Word (codes "a.b") ∷ piece forms.Single (codes ".") ∷ []
unfolding pieces_behind form_at more_at is_word_character unicode_ident is_ascii_sign is_further_sign goes_on joins ends_line
word_then_stop = refl

-- a quoted text, a space, and a comment up to the line's end
quote_then_comment : pieces_of (34 ∷ 97 ∷ 34 ∷ 32 ∷ 37 ∷ 98 ∷ 13 ∷ 10 ∷ []) ≡ piece forms.Quote (34 ∷ 97 ∷ 34 ∷ []) ∷ piece forms.Single (32 ∷ []) ∷ piece forms.Comment (37 ∷ 98 ∷ []) ∷ piece forms.LineEnd (13 ∷ 10 ∷ []) ∷ []
unfolding pieces_behind form_at more_at is_word_character unicode_ident is_ascii_sign is_further_sign goes_on joins ends_line
quote_then_comment = refl

-- no space stands after an opening asterisk and `[`, none before `]`, `,` and a closing asterisk
abbrev word : List ℕ → Item
word text = plain (record { kind = kinds.Word; text = text })

joined_items : joined (opening ∷ plain (record { kind = kinds.Open; text = codes "[" }) ∷ word (codes "a") ∷ plain (record { kind = kinds.Comma; text = codes "," }) ∷ word (codes "b") ∷ plain (record { kind = kinds.Bar; text = codes "|" }) ∷ word (codes "c") ∷ plain (record { kind = kinds.Close; text = codes "]" }) ∷ closing ∷ word (codes "is") ∷ plain (record { kind = kinds.Quote; text = codes "x" }) ∷ []) ≡ codes "*[a, b | c]* is \"x\""
unfolding joined
joined_items = refl
