-- The lines of a text: this project's profile.
use Rattle.std.specs.Prelude.{◌≡◌, ℕ, ◌==◌, ◌<◌, ◌⊎◌, Bool, true, not, if◌then◌else◌, List, [], ◌∷◌, ◌++◌, flat_map, length}
use Rattle.std.specs.List.{list_all}

-- a character put at the front of the first line
abbrev pub onto_first_line : ℕ → List (List ℕ) → List (List ℕ)
onto_first_line c [] = (c ∷ []) ∷ []
onto_first_line c (line ∷ lines) = (c ∷ line) ∷ lines

-- the lines of a text, each with the LF that ends it; the last may lack it
unfoldable pub lines_of : List ℕ → List (List ℕ)
lines_of [] = []
lines_of (c ∷ cs) = if c == 10 then (c ∷ []) ∷ lines_of cs else onto_first_line c (lines_of cs)

-- the text of such lines
abbrev pub text_of_lines : List (List ℕ) → List ℕ
text_of_lines lines = flat_map (λ line. line) lines

-- the first line, with its LF
unfoldable pub first_line : List ℕ → List ℕ
first_line [] = []
first_line (c ∷ cs) = if c == 10 then c ∷ [] else c ∷ first_line cs

-- characters without LF
abbrev pub has_no_end : List ℕ → Bool
has_no_end cs = list_all (λ c. not (c == 10)) cs

-- a line that is ended: characters without LF, and LF
abbrev pub IsEnded : List ℕ → Type 0
IsEnded line = (content : List ℕ) × (line ≡ content ++ 10 ∷ []) × (has_no_end content ≡ true)

-- a last line that isn't ended: at least one character, and none of them LF
abbrev pub IsUnended : List ℕ → Type 0
IsUnended line = (0 < length line) × (has_no_end line ≡ true)

-- Each line but the last ends with LF, which is its only one, and the last may lack it.
abbrev pub AreLines : List (List ℕ) → Type 0
AreLines [] = Unit {0}
AreLines (line ∷ []) = IsEnded line ⊎ IsUnended line
AreLines (line ∷ next ∷ lines) = IsEnded line × AreLines (next ∷ lines)
