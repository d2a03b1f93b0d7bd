-- Numbers in digits without a sign or a leading zero: this project's profile.
use Rattle.std.specs.Prelude.{ℕ, ◌==◌, ◌&&◌, ◌||◌, Bool, nat_le, if◌then◌else◌, List, slice_index, Option, None, Some, is_some, codes, ℤ, pos, negsuc}
use Rattle.std.specs.Str.{bytes_eq, is_utf8}
use Rattle.le_values.specs.Numbers.{number_of}

-- the number, where it is from 1 to this one
abbrev pub from_one : ℕ → Option ℤ → Option ℕ
from_one most None = None
from_one most (Some (negsuc n)) = None
from_one most (Some (pos n)) = if nat_le 1 n && nat_le n most then Some n else None

-- the number from 1 to this one that the word is, in digits without a sign or a leading zero
unfoldable pub count_up_to : ℕ → List ℕ → Option ℕ
count_up_to most word = if slice_index word 0 == 48 then None else from_one most (number_of word)

-- the same of bytes, which have to be a text
unfoldable pub number_up_to : ℕ → List ℕ → Option ℕ
number_up_to most bytes = if is_utf8 bytes then count_up_to most bytes else None

-- whether bytes are the number of a line, which may be 0 and is at most 4,294,967,295
unfoldable pub is_line_number : List ℕ → Bool
is_line_number bytes = bytes_eq bytes (codes "0") || is_some (number_up_to 4294967295 bytes)
