-- How many ways there are to share out the tokens from each place on; callers don't need it.
use Rattle.std.specs.Prelude.{◌≡◌, ℕ, zero, suc, ◌+◌, ◌-◌, ◌<◌, ◌≤◌, min, Bool, true, false, if◌then◌else◌, List, [], ◌∷◌, length, drop, slice_index_or}
use Rattle.le_layout.specs.declared.token.Token.{Token}
use Rattle.le_layout.specs.declared.layout.Layout.{Layout}
use Rattle.le_templates.specs.declared.part.Part.{Part}
use Rattle.le_templates.specs.declared.part.Part.TheVariants.{Word, Slot}
use Rattle.le_match.specs.declared.cuts.Step.{Step}
use Rattle.le_match.specs.declared.cuts.Chosen.{Chosen}
use Rattle.le_match.specs.Readings.{cuts}

-- how many ways there are from each place on, the end included, of which two are counted at most
abbrev pub counts_of : Layout → List Part → List Token → List ℕ
counts_of layout parts [] = min 2 (length (cuts layout parts [])) ∷ []
counts_of layout parts (t ∷ ts) = min 2 (length (cuts layout parts (t ∷ ts))) ∷ counts_of layout parts ts

-- the counts for the parts from each place on that is no less than this one, the last first
abbrev pub IsTableOf : Layout → List Part → List Token → ℕ → List (List ℕ) → Type 0
IsTableOf layout parts ts low rows =
    (place : ℕ) → low ≤ place → place ≤ length parts → slice_index_or rows (length parts - place) [] ≡ counts_of layout (drop place parts) ts

-- the sum of so many counts from a place on
abbrev pub total : List ℕ → ℕ → ℕ → ℕ
total xs at zero = 0
total xs at (suc n) = slice_index_or xs at 0 + total xs (at + 1) n

-- the place at which a rank falls, where so many ways go on from each place, and its rank among those from there on
pub record IsChosen (below : List ℕ) (from to rank : ℕ) (chosen : Chosen) : Type 0 where
  pub low : from ≤ chosen.at
  pub high : chosen.at < to
  pub inside : chosen.rank < slice_index_or below chosen.at 0
  pub before : rank ≡ total below from (chosen.at - from) + chosen.rank

abbrev pub is_slot : Part → Bool
is_slot (Word w) = false
is_slot (Slot s) = true

-- the way of a rank
abbrev pub way_at : Layout → List Part → List Token → ℕ → List ℕ
way_at layout parts ts rank = slice_index_or (cuts layout parts ts) rank []

-- what a part takes, and the way of a rank that goes on after it
pub record IsWayOn (layout : Layout) (parts : List Part) (place : ℕ) (ts : List Token) (k rank : ℕ) (step : Step) : Type 0 where
  pub way : way_at layout (drop place parts) (drop k ts) rank ≡ (if is_slot (slice_index_or parts place (Word [])) then step.taken ∷ way_at layout (drop (place + 1) parts) (drop (k + step.taken) ts) step.rank else way_at layout (drop (place + 1) parts) (drop (k + step.taken) ts) step.rank)
  pub left : step.rank < min 2 (length (cuts layout (drop (place + 1) parts) (drop (k + step.taken) ts)))
  pub inside : k + step.taken ≤ length ts
