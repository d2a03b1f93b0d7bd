-- The readings of a sentence by the templates of a document: this project's profile.
use Rattle.std.specs.Prelude.{ℕ, ◌+◌, ◌==◌, ◌<◌, max, Bool, ◌&&◌, nat_lt, if◌then◌else◌, Option, Some, None, List, [], ◌∷◌, ◌++◌, length, map, filter, flat_map, take, drop, slice_index_or}
use Rattle.std.specs.List.{list_any}
use Rattle.le_layout.specs.declared.token.Token.{Token}
use Rattle.le_layout.specs.declared.layout.Layout.{Layout}
use Rattle.le_layout.specs.Words.{is_star, is_this_word}
use Rattle.le_templates.specs.declared.part.Part.{Part}
use Rattle.le_templates.specs.declared.part.Part.TheVariants.{Word, Slot}
use Rattle.le_templates.specs.declared.part.Template.{Template}
use Rattle.le_templates.specs.Form.{word_count}
use Rattle.le_templates.specs.Table.{template, table_of, in_use}
use Rattle.le_scope.specs.Phrases.{is_phrase}
use Rattle.le_match.specs.declared.readings.Reading.{Reading}
use Rattle.le_match.specs.declared.readings.BestReading.{BestReading}
use Rattle.le_match.specs.declared.readings.BestReading.TheVariants as best

-- numbers from this one on, one for each item
abbrev pub count_from : {X : Type 0} → ℕ → List X → List ℕ
count_from n [] = []
count_from n (x ∷ xs) = n ∷ count_from (n + 1) xs

-- how many tokens from the first on are a phrase: each such number, in order
abbrev pub phrase_lengths : Layout → List Token → List ℕ
phrase_lengths layout ts = filter (λ n. is_phrase layout (take n ts)) (count_from 1 ts)

-- The ways to share tokens out among a template's words and slots in order, each as the list of the slots' lengths, in dictionary order: a word takes one token, which is that word, ASCII case ignored, and a slot takes tokens that are a phrase.
abbrev pub cuts : Layout → List Part → List Token → List (List ℕ)
cuts layout [] [] = [] ∷ []
cuts layout [] (t ∷ ts) = []
cuts layout (Word w ∷ parts) [] = []
cuts layout (Word w ∷ parts) (t ∷ ts) = if is_this_word layout w t then cuts layout parts ts else []
cuts layout (Slot s ∷ parts) ts = flat_map (λ n. map (λ ns. n ∷ ns) (cuts layout parts (drop n ts))) (phrase_lengths layout ts)

-- how many tokens stand before the first asterisk
abbrev pub until_star : List Token → ℕ
until_star [] = 0
until_star (t ∷ ts) = if is_star t.kind then 0 else until_star ts + 1

-- how many tokens stand between the asterisk at the front and the next one, where they are a phrase
abbrev pub marked_length : Layout → List Token → Option ℕ
marked_length layout [] = None
marked_length layout (t ∷ ts) =
    if is_star t.kind && (nat_lt (until_star ts) (length ts) && is_phrase layout (take (until_star ts) ts)) then Some (until_star ts) else None

-- The one way to share the tokens of a marked sentence out, or none: a word takes one token, which is that word, ASCII case ignored, and a slot takes an asterisk, a phrase, and the next asterisk.
abbrev pub marked_cuts : Layout → List Part → List Token → List (List ℕ)
marked_cuts layout [] [] = [] ∷ []
marked_cuts layout [] (t ∷ ts) = []
marked_cuts layout (Word w ∷ parts) [] = []
marked_cuts layout (Word w ∷ parts) (t ∷ ts) = if is_this_word layout w t then marked_cuts layout parts ts else []
marked_cuts layout (Slot s ∷ parts) ts =
    elim (marked_length layout ts) [
      | Some n ↦ map (λ ns. n ∷ ns) (marked_cuts layout parts (drop (n + 2) ts))
      | None ↦ []
    ]

-- A sentence with an asterisk is marked.
abbrev pub is_marked : List Token → Bool
is_marked ts = list_any (λ t. is_star t.kind) ts

-- the ways to share the tokens of a sentence out among a template's words and slots, by the marks where it is marked
abbrev pub ways : Layout → List Part → List Token → List (List ℕ)
ways layout parts ts = if is_marked ts then marked_cuts layout parts ts else cuts layout parts ts

-- the readings by the template of this number
abbrev pub readings_by : ℕ → List (List ℕ) → List Reading
readings_by pred found = map (λ ns. record { pred = pred; lengths = ns }) found

-- the readings by those of some templates, numbered from this number on, that are in use
abbrev pub readings_from : List Template → Layout → List Token → ℕ → List Template → List Reading
readings_from users layout ts pred [] = []
readings_from users layout ts pred (t ∷ templates) =
    (if in_use users pred then readings_by pred (ways layout t.parts ts) else []) ++ readings_from users layout ts (pred + 1) templates

-- The readings of a sentence: each is the number of a template in use and a list of slot lengths. They are ordered by the number, then by the lengths in dictionary order.
unfoldable pub readings_of : List Template → Layout → List Token → List Reading
readings_of users layout ts = readings_from users layout ts 0 (table_of users)

-- the parts of the template of this number
abbrev pub parts_at : List Template → ℕ → List Part
parts_at users pred = (slice_index_or (table_of users) pred (template [])).parts

-- how many words the template of a reading has outside slots
abbrev pub words_of : List Template → Reading → ℕ
words_of users r = word_count (parts_at users r.pred)

-- the most words that the template of one of some readings has
abbrev pub most_words : List Template → List Reading → ℕ
most_words users [] = 0
most_words users (r ∷ rs) = max (words_of users r) (most_words users rs)

-- The best readings are those whose template has most words outside slots.
abbrev pub best_readings : List Template → List Reading → List Reading
best_readings users rs = filter (λ r. words_of users r == most_words users rs) rs

-- one of some readings, or the first two of them
abbrev pub first_two : List Reading → BestReading
first_two [] = best.None
first_two (r ∷ []) = best.One r
first_two (r ∷ s ∷ rs) = best.Two r s

-- The best reading of a sentence, or the first two where there are more, or none.
unfoldable pub best_of : List Template → Layout → List Token → BestReading
best_of users layout ts = first_two (best_readings users (readings_of users layout ts))

-- the readings that are shown have templates of the table
abbrev pub IsInTable : List Template → BestReading → Type 0
IsInTable users best.None = Unit {0}
IsInTable users (best.One r) = r.pred < 20 + length users
IsInTable users (best.Two r s) = (r.pred < 20 + length users) × (s.pred < 20 + length users)
