-- What a bundle writes before its answers: this project's profile.
use Rattle.std.specs.Prelude.{ℕ, ◌-◌, ◌==◌, Bool, if◌then◌else◌, List, [], ◌∷◌, ◌++◌, length, slice_index, Option, None, Some, codes, decimal}

-- whether the last byte of a document is an LF
abbrev pub is_ended : List ℕ → Bool
is_ended bytes = slice_index bytes (length bytes - 1) == 10

-- a document with an LF where its last byte isn't one
abbrev pub ended : List ℕ → List ℕ
ended bytes = if is_ended bytes then bytes else bytes ++ (10 ∷ [])

-- the line of a scenario's name, where there is one
abbrev pub scenario_line : Option (List ℕ) → List ℕ
scenario_line None = []
scenario_line (Some name) = codes "scenario " ++ (name ++ codes "\n")

-- the marker, and the lines of the names and the limits of a search
unfoldable pub head_lines : List ℕ → Option (List ℕ) → ℕ → ℕ → List ℕ
head_lines query scenario budget most =
    codes "=== certificates ===\nquery " ++ (query ++ (codes "\n" ++ (scenario_line scenario
    ++ (codes "budget " ++ (decimal budget ++ (codes "\nanswers " ++ (decimal most ++ codes "\n")))))))

-- What stands before the answers of a bundle: the document, the marker, and the names and limits of the search.
abbrev pub head_text : List ℕ → List ℕ → Option (List ℕ) → ℕ → ℕ → List ℕ
head_text document query scenario budget most = ended document ++ head_lines query scenario budget most
