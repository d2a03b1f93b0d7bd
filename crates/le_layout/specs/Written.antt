-- What the text of a token may be, by its kind: this project's profile.
use Rattle.std.specs.Prelude.{◌≡◌, ℕ, ◌==◌, Bool, true, false, not, ◌&&◌, Some, List, [], ◌∷◌, IsUtf8, chars}
use Rattle.std.specs.List.{list_all}
use Rattle.le_layout.specs.declared.token.Kind.{Kind}
use Rattle.le_layout.specs.declared.token.Kind.TheVariants as kinds
use Rattle.le_layout.specs.Characters.{kind_of, may_be_quoted}
use Rattle.le_layout.specs.Pieces.{is_word}
use Rattle.le_layout.specs.Faults.{is_bad_number, is_bad_date}

-- a character that the content of a quoted text may have
unfoldable pub is_quotable : ℕ → Bool
is_quotable c = may_be_quoted c && not (c == 34)

-- The text of a word is the UTF-8 of a word that isn't refused as a number or a date,
pub record IsWordText (text : List ℕ) : Type 0 where
  pub utf8 : IsUtf8 text
  pub word : is_word (chars text) ≡ true
  pub number : is_bad_number text ≡ false
  pub date : is_bad_date text ≡ false

-- that of a quoted text is the UTF-8 of characters that may be quoted,
pub record IsQuotable (text : List ℕ) : Type 0 where
  pub utf8 : IsUtf8 text
  pub inner : list_all is_quotable (chars text) ≡ true

-- and that of any other token is the character that is a token of its kind.
pub record IsSign (kind : Kind) (text : List ℕ) : Type 0 where
  pub sign : ℕ
  pub only : text ≡ sign ∷ []
  pub token : kind_of sign ≡ Some kind

-- the text is one that a token of this kind has
abbrev pub IsWrittenAs : Kind → List ℕ → Type 0
IsWrittenAs kinds.Word text = IsWordText text
IsWrittenAs kinds.Quote text = IsQuotable text
IsWrittenAs kinds.Open text = IsSign kinds.Open text
IsWrittenAs kinds.Close text = IsSign kinds.Close text
IsWrittenAs kinds.Bar text = IsSign kinds.Bar text
IsWrittenAs kinds.Comma text = IsSign kinds.Comma text
IsWrittenAs kinds.Colon text = IsSign kinds.Colon text
IsWrittenAs kinds.Star text = IsSign kinds.Star text
IsWrittenAs kinds.Stop text = IsSign kinds.Stop text
