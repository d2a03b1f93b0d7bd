-- Places in a text, as its characters lead from one to the next: this project's profile.
use Rattle.std.specs.Prelude.{ℕ, ◌+◌, ◌*◌, ◌/◌, ◌==◌, Bool, if◌then◌else◌, List, [], ◌∷◌, drop}
use Rattle.std.specs.Char.{len_utf8}
use Rattle.le_base.specs.declared.code.Code.{Code}
use Rattle.le_base.specs.declared.stop.Refusal.{Refusal}
use Rattle.le_base.specs.Stop.{refusal_at}
use Rattle.le_layout.specs.declared.place.Place.{Place}
use Rattle.le_layout.specs.Characters.{begins_with}

-- the column after a character: a tab leads to the next multiple of 4, any other character leads on by 1
abbrev pub next_column : ℕ → ℕ → ℕ
next_column column c = if c == 9 then (column / 4 + 1) * 4 else column + 1

-- the place after a character, which for LF is the beginning of the next line
unfoldable pub next_place : Place → ℕ → Place
next_place place c =
    if c == 10 then record { byte = place.byte + 1; line = place.line + 1; column = 0 }
    else record { byte = place.byte + len_utf8 c; line = place.line; column = next_column place.column c }

-- the place after characters that stand one after another
abbrev pub place_behind : Place → List ℕ → Place
place_behind place [] = place
place_behind place (c ∷ cs) = place_behind (next_place place c) cs

-- a byte order mark, U+FEFF, at the very start of a text is dropped
abbrev pub has_mark : List ℕ → Bool
has_mark cs = begins_with 65_279 cs

-- the characters after it
abbrev pub without_mark : List ℕ → List ℕ
without_mark cs = if has_mark cs then drop 1 cs else cs

-- the place of the first of them: the mark has three bytes and no column
abbrev pub first_place : List ℕ → Place
first_place cs = record { byte = if has_mark cs then 3 else 0; line = 1; column = 0 }

-- a refusal at a place, whose column counts from 1
abbrev pub refused : Code → Place → Refusal
refused code place = refusal_at code place.line (place.column + 1)
