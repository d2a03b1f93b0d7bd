-- Why a text has no layout, and where: this project's profile.
use Rattle.std.specs.Prelude.{◌≡◌, ℕ, ◌==◌, ◌<◌, ◌⊎◌, Bool, true, false, not, is_some, ◌&&◌, ◌||◌, if◌then◌else◌, Option, Some, None, Result, Ok, Err, List, [], ◌∷◌, ◌++◌, drop, slice_index, encode_utf8_all, All, Contains}
use Rattle.std.specs.Char.{is_ascii_digit}
use Rattle.std.specs.List.{list_all}
use Rattle.le_base.specs.declared.code.Code.TheVariants.{BadCharacter, OpenQuote, BadDate, BadNumber}
use Rattle.le_base.specs.declared.stop.Refusal.{Refusal}
use Rattle.le_base.specs.Code.{code_number}
use Rattle.le_values.specs.Numbers.{number_of}
use Rattle.le_values.specs.Days.{is_date_word, day_of}
use Rattle.le_layout.specs.declared.place.Place.{Place}
use Rattle.le_layout.specs.declared.piece.Form.{Form}
use Rattle.le_layout.specs.declared.piece.Form.TheVariants as forms
use Rattle.le_layout.specs.Characters.{is_space, kind_of, may_be_quoted, may_be_commented, begins_with}
use Rattle.le_layout.specs.Places.{next_place, place_behind, refused}
use Rattle.le_layout.specs.Pieces.{Piece, pieces_of}

-- a digit, a full stop or a comma
unfoldable pub is_numeral : ℕ → Bool
is_numeral c = is_ascii_digit c || ((c == 46) || (c == 44))

-- an ASCII digit and then any digits, full stops and commas
unfoldable pub is_numerals : List ℕ → Bool
is_numerals [] = false
is_numerals (c ∷ cs) = is_ascii_digit c && list_all is_numeral cs

-- a word is number-like where this follows an optional `-`
unfoldable pub is_number_like : List ℕ → Bool
is_number_like word = is_numerals (if begins_with 45 word then drop 1 word else word)

-- a number-like word that is no number: it has a full stop or a comma, or its value isn't from -10^18 to 10^18
unfoldable pub is_bad_number : List ℕ → Bool
is_bad_number word = is_number_like word && not (is_some (number_of word))

-- a word of the date form that is no date of the years 0001 to 9999
unfoldable pub is_bad_date : List ℕ → Bool
is_bad_date word = is_date_word word && not (is_some (day_of word))

-- the fault of a word with these bytes, at its place
unfoldable pub word_faults : Place → List ℕ → List Refusal
word_faults place word =
    if is_bad_number word then refused BadNumber place ∷ []
    else (if is_bad_date word then refused BadDate place ∷ [] else [])

-- the characters that don't pass a test
abbrev pub faults_among : (ℕ → Bool) → Place → List ℕ → List Refusal
faults_among may place [] = []
faults_among may place (c ∷ cs) =
    if may c then faults_among may (next_place place c) cs
    else refused BadCharacter place ∷ faults_among may (next_place place c) cs

-- a character by itself has to be a space or a token
unfoldable pub single_faults : Place → ℕ → List Refusal
single_faults place c = if is_space c || is_some (kind_of c) then [] else refused BadCharacter place ∷ []

-- the faults of a piece of this form
unfoldable pub own_faults : Place → Form → List ℕ → List Refusal
own_faults place forms.Word chars = word_faults place (encode_utf8_all chars)
own_faults place forms.Quote chars = faults_among may_be_quoted place chars
own_faults place forms.OpenQuote chars = refused OpenQuote place ∷ []
own_faults place forms.Comment chars = faults_among may_be_commented place chars
own_faults place forms.LineEnd chars = []
own_faults place forms.Single chars = single_faults place (slice_index chars 0)

abbrev pub is_word_form : Form → Bool
is_word_form forms.Word = true
is_word_form _ = false

abbrev pub is_comment_form : Form → Bool
is_comment_form forms.Comment = true
is_comment_form _ = false

-- whether the next piece is a comment
abbrev pub begins_comment : List Piece → Bool
begins_comment [] = false
begins_comment (p ∷ ps) = is_comment_form p.form

-- a comment directly after a word is refused
abbrev pub joined_faults : Place → Piece → List Piece → List Refusal
joined_faults place p ps = if is_word_form p.form && begins_comment ps then refused BadCharacter (place_behind place p.chars) ∷ [] else []

-- the faults among pieces that stand one after another from a place on, in the order of their places
unfoldable pub faults_at : Place → List Piece → List Refusal
faults_at place [] = []
faults_at place (p ∷ ps) = own_faults place p.form p.chars ++ (joined_faults place p ps ++ faults_at (place_behind place p.chars) ps)

-- the faults of lines that follow each other from a place on
unfoldable pub faults_from : Place → List (List ℕ) → List Refusal
faults_from place [] = []
faults_from place (line ∷ lines) = faults_at place (pieces_of line) ++ faults_from (place_behind place line) lines

-- the first of the faults, or else this value
abbrev pub unless_faulty : {X : Type 0} → X → List Refusal → Result X Refusal
unless_faulty x [] = Ok x
unless_faulty x (fault ∷ faults) = Err fault

-- the first of the faults
abbrev pub first_fault : List Refusal → Option Refusal
first_fault [] = None
first_fault (fault ∷ faults) = Some fault

-- one refusal goes before another by line, then by column, then by number
abbrev pub Precedes : Refusal → Refusal → Type 0
Precedes r s =
    (r.line < s.line) ⊎ ((r.line ≡ s.line) × ((r.column < s.column) ⊎ ((r.column ≡ s.column) × (code_number r.code < code_number s.code))))

-- it is one of these faults, and none of them precedes it
pub record IsLeastFault (faults : List Refusal) (fault : Refusal) : Type 0 where
  pub one : Contains faults fault
  pub least : All (λ other. Precedes other fault → ⊥) faults
