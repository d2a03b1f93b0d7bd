-- The plain scan of a list for the first item that passes a test: this project's profile.
use Rattle.std.specs.Prelude.{ℕ, ◌+◌, ◌/◌, ◌%◌, ◌^◌, ◌==◌, ◌||◌, Bool, not, List, [], ◌∷◌, drop, slice_index, Option, Some, None, if◌then◌else◌}

-- the place of the first item that passes, where the first of the items is at this place
abbrev pub first_from : (ℕ → Bool) → ℕ → List ℕ → Option ℕ
first_from passes place [] = None
first_from passes place (item ∷ items) = if passes item then Some place else first_from passes (place + 1) items

-- the least place at or after another whose item passes
abbrev pub next_of : (ℕ → Bool) → List ℕ → ℕ → Option ℕ
next_of passes items from = first_from passes from (drop from items)

-- an item doesn't pass
abbrev pub fails : (ℕ → Bool) → ℕ → Bool
fails passes item = not (passes item)

-- a key that may be met with another: it is 0, which stands for any, or the same
abbrev pub is_match : ℕ → ℕ → Bool
is_match key item = (item == 0) || (item == key)

-- a byte b of a class of bytes, which is 32 bytes of bits: bit b mod 8 of byte b / 8 is set
abbrev pub is_in : List ℕ → ℕ → Bool
is_in class byte = slice_index class (byte / 8) / 2 ^ (byte % 8) % 2 == 1
