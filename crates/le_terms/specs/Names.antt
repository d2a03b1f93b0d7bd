-- The names of constants, numbered from 0 in the order in which they came: this project's profile.
use Rattle.std.specs.Prelude.{◌≡◌, ℕ, ◌<◌, ◌^◌, Bool, false, List, [], ◌∷◌, ◌++◌, length, if◌then◌else◌}
use Rattle.std.specs.List.{list_any, position_or_len}
use Rattle.std.specs.Str.{bytes_eq}

-- whether a name is among some names
abbrev pub is_named : List (List ℕ) → List ℕ → Bool
is_named names name = list_any (bytes_eq name) names

-- the number of a name: its place among the names, or their count where it isn't there
abbrev pub number_of_name : List (List ℕ) → List ℕ → ℕ
number_of_name names name = position_or_len (bytes_eq name) names

-- the names once a name is entered: it stands at their end, unless it was there
abbrev pub entered : List (List ℕ) → List ℕ → List (List ℕ)
entered names name = if is_named names name then names else names ++ name ∷ []

-- no name is there twice
abbrev pub HasNoRepeats : List (List ℕ) → Type 0
HasNoRepeats [] = Unit {0}
HasNoRepeats (name ∷ names) = (is_named names name ≡ false) × HasNoRepeats names

-- names without repeats, so few that each number fits
pub record IsNames (names : List (List ℕ)) : Type 0 where
  pub small : length names < 2 ^ 32
  pub distinct : HasNoRepeats names
