-- That the numbers of places stay within 32 bits, and that their bytes are those of the text.
use Rattle.std.specs.Prelude.{◌≡◌, ◌+◌, ◌*◌, ◌^◌, ◌<◌, ℕ, List, ◌++◌, length, true, encode_utf8_all}
use Rattle.std.specs.Str.{all_scalars}
use Rattle.le_layout.specs.declared.place.Place.{Place}

-- so many characters may follow a place, each of at most four bytes and at most four columns
pub record HasRoom (place : Place) (n : ℕ) : Type 0 where
  pub bytes : place.byte + 4 * n < 2 ^ 32
  pub lines : place.line + n < 2 ^ 32
  pub columns : place.column + 4 * n + 1 < 2 ^ 32

-- these characters stand in the text from a place on: the place's byte is the number of bytes before them
pub record StandsIn (text : List ℕ) (place : Place) (cs : List ℕ) : Type 0 where
  pub front : List ℕ
  pub back : List ℕ
  pub text_is : encode_utf8_all (front ++ (cs ++ back)) ≡ text
  pub scalars : all_scalars (front ++ (cs ++ back)) ≡ true
  pub byte : place.byte ≡ length (encode_utf8_all front)
