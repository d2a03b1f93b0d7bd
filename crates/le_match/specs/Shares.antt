-- How a template's words and slots lie in the tokens of a sentence: this project's profile.
use Rattle.std.specs.Prelude.{◌≡◌, ℕ, ◌+◌, ◌<◌, ◌≤◌, true, if◌then◌else◌, List, [], ◌∷◌, length, take, drop, slice_index_or}
use Rattle.le_layout.specs.declared.token.Token.{Token}
use Rattle.le_layout.specs.declared.layout.Layout.{Layout}
use Rattle.le_layout.specs.Layout.{no_token}
use Rattle.le_layout.specs.Words.{is_this_word, is_star}
use Rattle.le_templates.specs.declared.part.Part.{Part}
use Rattle.le_templates.specs.declared.part.Part.TheVariants.{Word, Slot}
use Rattle.le_templates.specs.declared.part.Template.{Template}
use Rattle.le_scope.specs.Phrases.{is_phrase}
use Rattle.le_match.specs.declared.readings.Reading.{Reading}
use Rattle.le_match.specs.declared.readings.BestReading.{BestReading}
use Rattle.le_match.specs.declared.readings.BestReading.TheVariants as best
use Rattle.le_match.specs.Readings.{is_marked, parts_at}

-- how many asterisks stand on each side of a slot
abbrev pub edge : List Token → ℕ
edge ts = if is_marked ts then 1 else 0

-- what a part of a template takes of the tokens: a word, or a slot's phrase
pub data Share : Type 0 where
  word : Token → Share
  phrase : List Token → Share

-- What the parts of a template take of the tokens in order, where slots have these lengths and so many asterisks on each side.
abbrev pub shares : ℕ → List Part → List ℕ → List Token → List Share
shares n [] lengths ts = []
shares n (Word w ∷ parts) lengths [] = []
shares n (Word w ∷ parts) lengths (t ∷ ts) = word t ∷ shares n parts lengths ts
shares n (Slot s ∷ parts) [] ts = []
shares n (Slot s ∷ parts) (k ∷ lengths) ts = phrase (take k (drop n ts)) ∷ shares n parts lengths (drop (k + (n + n)) ts)

-- what the template of a reading takes of the tokens
abbrev pub shares_of : List Template → List Token → Reading → List Share
shares_of users ts r = shares (edge ts) (parts_at users r.pred) r.lengths ts

-- The tokens are the template's words and slots in order, where slots have these lengths and so many asterisks on each side: each word is the template's, ASCII case ignored, and each slot has a phrase.
abbrev pub Fits : Layout → ℕ → List Part → List Token → List ℕ → Type 0
Fits layout n [] [] [] = Unit {0}
Fits layout n [] [] (k ∷ lengths) = ⊥
Fits layout n [] (t ∷ ts) lengths = ⊥
Fits layout n (Word w ∷ parts) [] lengths = ⊥
Fits layout n (Word w ∷ parts) (t ∷ ts) lengths = (is_this_word layout w t ≡ true) × Fits layout n parts ts lengths
Fits layout n (Slot s ∷ parts) ts [] = ⊥
Fits layout n (Slot s ∷ parts) ts (k ∷ lengths) =
    (0 < k) × (k + (n + n) ≤ length ts) × (is_phrase layout (take k (drop n ts)) ≡ true) × Fits layout n parts (drop (k + (n + n)) ts) lengths

-- The tokens of a marked sentence are the template's words and slots in order, where slots have these lengths: each word is the template's, ASCII case ignored, and each slot is a phrase that stands between two asterisks.
abbrev pub FitsMarked : Layout → List Part → List Token → List ℕ → Type 0
FitsMarked layout [] [] [] = Unit {0}
FitsMarked layout [] [] (k ∷ lengths) = ⊥
FitsMarked layout [] (t ∷ ts) lengths = ⊥
FitsMarked layout (Word w ∷ parts) [] lengths = ⊥
FitsMarked layout (Word w ∷ parts) (t ∷ ts) lengths = (is_this_word layout w t ≡ true) × FitsMarked layout parts ts lengths
FitsMarked layout (Slot s ∷ parts) [] lengths = ⊥
FitsMarked layout (Slot s ∷ parts) (t ∷ ts) [] = ⊥
FitsMarked layout (Slot s ∷ parts) (t ∷ ts) (k ∷ lengths) =
    (is_star t.kind ≡ true) × (k < length ts) × (is_phrase layout (take k ts) ≡ true) × (is_star (slice_index_or ts k no_token).kind ≡ true) × FitsMarked layout parts (drop (k + 1) ts) lengths

-- the tokens are read so by the template
abbrev pub IsRead : List Template → Layout → List Token → Reading → Type 0
IsRead users layout ts r = Fits layout (edge ts) (parts_at users r.pred) ts r.lengths

-- each reading that is shown reads the tokens
abbrev pub IsReadBy : List Template → Layout → List Token → BestReading → Type 0
IsReadBy users layout ts best.None = Unit {0}
IsReadBy users layout ts (best.One r) = IsRead users layout ts r
IsReadBy users layout ts (best.Two r s) = IsRead users layout ts r × IsRead users layout ts s
