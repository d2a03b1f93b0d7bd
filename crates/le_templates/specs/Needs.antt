-- The words that a template needs: this project's profile.
use Rattle.std.specs.Prelude.{◌≡◌, ◌⊎◌, ℕ, ◌+◌, ◌<◌, ◌≤◌, Bool, true, false, not, List, [], length, slice_index_or}
use Rattle.std.specs.List.{list_any}
use Rattle.le_layout.specs.declared.token.Token.{Token}
use Rattle.le_layout.specs.declared.layout.Layout.{Layout}
use Rattle.le_layout.specs.Words.{is_this_word}
use Rattle.le_templates.specs.declared.part.Part.{Part}
use Rattle.le_templates.specs.declared.part.Part.TheVariants.{Word, Slot}
use Rattle.le_templates.specs.declared.part.Template.{Template}
use Rattle.le_templates.specs.Table.{template, table_of}

-- whether a part is a word that none of some tokens is, ASCII case ignored
abbrev pub is_missed : Layout → List Token → Part → Bool
is_missed layout ts (Word w) = not (list_any (is_this_word layout w) ts)
is_missed layout ts (Slot s) = false

-- whether a template has a word outside slots that none of some tokens is
abbrev pub lacks : Layout → List Token → List Part → Bool
lacks layout ts parts = list_any (is_missed layout ts) parts

-- whether the template of this number has a word outside slots that none of some tokens is
abbrev pub lacks_at : List Template → Layout → List Token → ℕ → Bool
lacks_at users layout ts pred = lacks layout ts (slice_index_or (table_of users) pred (template [])).parts

-- a number stands among some numbers, at a place or after it
pub record StandsFrom (xs : List ℕ) (i p : ℕ) : Type 0 where
  pub place : ℕ
  pub low : i ≤ place
  pub high : place < length xs
  pub is : slice_index_or xs place 0 ≡ p

-- each template from one number on is among those from a place on, or lacks a word
abbrev pub AreLeft : List Template → Layout → List Token → List ℕ → ℕ → ℕ → Type 0
AreLeft users layout ts xs i next = (p : ℕ) → next ≤ p → p < 20 + length users → StandsFrom xs i p ⊎ (lacks_at users layout ts p ≡ true)

-- numbers in ascending order
abbrev pub IsAscending : List ℕ → Type 0
IsAscending xs = (i j : ℕ) → i ≤ j → j < length xs → slice_index_or xs i 0 ≤ slice_index_or xs j 0
