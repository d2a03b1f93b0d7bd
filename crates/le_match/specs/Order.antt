-- The order of the ways and of the readings of a sentence: this project's profile.
use Rattle.std.specs.Prelude.{◌≡◌, ◌⊎◌, ℕ, ◌<◌, List, [], ◌∷◌}
use Rattle.std.specs.List.{AllByRecursion}
use Rattle.le_match.specs.declared.readings.Reading.{Reading}

-- a list of numbers stands before another in dictionary order
abbrev pub IsBefore : List ℕ → List ℕ → Type 0
IsBefore [] [] = ⊥
IsBefore [] (n ∷ ns) = Unit {0}
IsBefore (m ∷ ms) [] = ⊥
IsBefore (m ∷ ms) (n ∷ ns) = (m < n) ⊎ ((m ≡ n) × IsBefore ms ns)

-- a reading stands before another: its template has a lesser number, or the same and its lengths stand before the other's in dictionary order
abbrev pub IsReadingBefore : Reading → Reading → Type 0
IsReadingBefore r s = (r.pred < s.pred) ⊎ ((r.pred ≡ s.pred) × IsBefore r.lengths s.lengths)

-- each item of a list stands before all that follow it, so none comes twice
abbrev pub InOrder : {X : Type 0} → (X → X → Type 0) → List X → Type 0
InOrder before [] = Unit {0}
InOrder before (x ∷ xs) = AllByRecursion (before x) xs × InOrder before xs
