-- How a line is cut into pieces: this project's profile.
use Rattle.std.specs.Prelude.{◌≡◌, ℕ, zero, suc, ◌+◌, ◌==◌, Bool, true, false, not, nat_lt, ◌&&◌, ◌||◌, ◌⊎◌, if◌then◌else◌, List, [], ◌∷◌, ◌++◌, length, take, flat_map}
use Rattle.std.specs.Char.{is_ascii_digit}
use Rattle.std.specs.List.{list_all}
use Rattle.le_layout.specs.declared.piece.Form.{Form}
use Rattle.le_layout.specs.declared.piece.Form.TheVariants as forms
use Rattle.le_layout.specs.Characters.{is_word_character, begins_with}

-- whether b, which follows the character a of a word, joins it to what follows: a full stop before a character of words, or a comma between two ASCII digits
unfoldable pub joins : ℕ → ℕ → List ℕ → Bool
joins a b [] = false
joins a b (c ∷ cs) = ((b == 46) && is_word_character c) || ((b == 44) && (is_ascii_digit a && is_ascii_digit c))

-- whether a word goes on after its character a
unfoldable pub goes_on : ℕ → List ℕ → Bool
goes_on a [] = false
goes_on a (b ∷ bs) = is_word_character b || joins a b bs

-- whether all of these go on a word after its character a
abbrev pub all_go_on : ℕ → List ℕ → Bool
all_go_on a [] = true
all_go_on a (b ∷ bs) = goes_on a (b ∷ bs) && all_go_on b bs

-- a word is a run of characters of words, in which full stops between two of them and commas between two ASCII digits stand
abbrev pub is_word : List ℕ → Bool
is_word [] = false
is_word (a ∷ bs) = is_word_character a && all_go_on a bs

-- how many characters go on a word after its character a
abbrev pub word_more : ℕ → List ℕ → ℕ
word_more a [] = 0
word_more a (b ∷ bs) = if goes_on a (b ∷ bs) then word_more b bs + 1 else 0

-- how many characters stand before the next quotation mark
abbrev pub before_quote : List ℕ → ℕ
before_quote [] = 0
before_quote (c ∷ cs) = if c == 34 then 0 else before_quote cs + 1

-- whether there is one
abbrev pub has_quote : List ℕ → Bool
has_quote cs = nat_lt (before_quote cs) (length cs)

-- a line ends with LF, or with CR and LF
unfoldable pub ends_line : ℕ → List ℕ → Bool
ends_line c cs = (c == 10) || ((c == 13) && begins_with 10 cs)

-- how many characters stand before the line's end
abbrev pub before_end : List ℕ → ℕ
before_end [] = 0
before_end (c ∷ cs) = if ends_line c cs then 0 else before_end cs + 1

-- a piece of a line: its form and its characters
pub record Piece : Type 0 where
  pub form : Form
  pub chars : List ℕ

abbrev pub piece : Form → List ℕ → Piece
piece form chars = record { form = form; chars = chars }

-- the characters of pieces one after another
abbrev pub chars_of : List Piece → List ℕ
chars_of pieces = flat_map (λ p. p.chars) pieces

-- the form of the piece that begins with the character c of a line
unfoldable pub form_at : ℕ → List ℕ → Form
form_at c cs =
    if is_word_character c then forms.Word
    else (if c == 34 then (if has_quote cs then forms.Quote else forms.OpenQuote)
    else (if c == 37 then forms.Comment
    else (if ends_line c cs then forms.LineEnd
    else forms.Single)))

-- how many characters a piece of this form has after c
unfoldable pub more_at : Form → ℕ → List ℕ → ℕ
more_at forms.Word c cs = word_more c cs
more_at forms.Quote c cs = before_quote cs + 1
more_at forms.OpenQuote c cs = 0
more_at forms.Comment c cs = before_end cs
more_at forms.LineEnd c cs = if c == 13 then 1 else 0
more_at forms.Single c cs = 0

-- the pieces of a line after so many of its characters
unfoldable pub pieces_behind : ℕ → List ℕ → List Piece
pieces_behind n [] = []
pieces_behind zero (c ∷ cs) =
    let more = more_at (form_at c cs) c cs in
    piece (form_at c cs) (c ∷ take more cs) ∷ pieces_behind more cs
pieces_behind (suc n) (c ∷ cs) = pieces_behind n cs

-- the pieces of a line
abbrev pub pieces_of : List ℕ → List Piece
pieces_of line = pieces_behind 0 line

-- A piece before the rest of its line is a word that can't be made longer,
pub record IsLongestWord (p : Piece) (rest : List ℕ) : Type 0 where
  pub form : p.form ≡ forms.Word
  pub word : is_word p.chars ≡ true
  pub longest : (more others : List ℕ) → rest ≡ more ++ others → is_word (p.chars ++ more) ≡ true → more ≡ []

-- or a quoted text between two quotation marks,
pub record IsClosedQuote (p : Piece) : Type 0 where
  pub form : p.form ≡ forms.Quote
  pub content : List ℕ
  pub chars : p.chars ≡ 34 ∷ content ++ 34 ∷ []
  pub inner : list_all (λ c. not (c == 34)) content ≡ true

-- or a quotation mark that none follows on the line,
pub record IsOpenQuote (p : Piece) (rest : List ℕ) : Type 0 where
  pub form : p.form ≡ forms.OpenQuote
  pub chars : p.chars ≡ 34 ∷ []
  pub no_more : list_all (λ c. not (c == 34)) rest ≡ true

-- or a comment, from `%` to the line's end,
pub record IsComment (p : Piece) (rest : List ℕ) : Type 0 where
  pub form : p.form ≡ forms.Comment
  pub text : List ℕ
  pub chars : p.chars ≡ 37 ∷ text
  pub whole : before_end (text ++ rest) ≡ length text

-- or the line's end,
pub record IsLineEnd (p : Piece) : Type 0 where
  pub form : p.form ≡ forms.LineEnd
  pub chars : (p.chars ≡ 10 ∷ []) ⊎ (p.chars ≡ 13 ∷ 10 ∷ [])

-- or any other single character.
pub record IsSingle (p : Piece) (rest : List ℕ) : Type 0 where
  pub form : p.form ≡ forms.Single
  pub char : ℕ
  pub chars : p.chars ≡ char ∷ []
  pub no_word : is_word_character char ≡ false
  pub no_quote : (char == 34) ≡ false
  pub no_comment : (char == 37) ≡ false
  pub no_end : ends_line char rest ≡ false

-- a piece has one of these forms
abbrev pub IsPiece : Piece → List ℕ → Type 0
IsPiece p rest =
    IsLongestWord p rest ⊎ (IsClosedQuote p ⊎ (IsOpenQuote p rest ⊎ (IsComment p rest ⊎ (IsLineEnd p ⊎ IsSingle p rest))))

-- the line is cut into these pieces: the first is a piece before the rest of the line, which is cut into the others
abbrev pub Cuts : List ℕ → List Piece → Type 0
Cuts line [] = line ≡ []
Cuts line (p ∷ ps) = (rest : List ℕ) × (line ≡ p.chars ++ rest) × IsPiece p rest × Cuts rest ps
