-- The items of an atom's sentence: this project's profile.
use Rattle.std.specs.Prelude.{◌≡◌, ℕ, ◌+◌, ◌<◌, Bool, true, false, not, List, [], ◌∷◌, ◌++◌, length, map}
use Rattle.std.specs.List.{list_all}
use Rattle.le_layout.specs.declared.token.Token.{Token}
use Rattle.le_layout.specs.declared.layout.Layout.{Layout}
use Rattle.le_layout.specs.Words.{is_star}
use Rattle.le_layout.specs.Spellings.{Spelling, spellings}
use Rattle.le_layout.specs.Joined.{Item, opening, closing, plain}
use Rattle.le_templates.specs.declared.part.Part.{Part}
use Rattle.le_templates.specs.declared.part.Part.TheVariants.{Word, Slot}
use Rattle.le_templates.specs.declared.part.Template.{Template}
use Rattle.le_templates.specs.Skeletons.{skeleton}
use Rattle.le_templates.specs.Table.{in_use}
use Rattle.le_scope.specs.Phrases.{is_phrase}
use Rattle.le_match.specs.Readings.{parts_at}
use Rattle.le_english.specs.Phrases.{word_of}

-- a slot's phrase before what follows, between asterisks where the sentence is marked
abbrev pub with_phrase : Bool → List Spelling → List Item → List Item
with_phrase true phrase rest = opening ∷ (map plain phrase ++ closing ∷ rest)
with_phrase false phrase rest = map plain phrase ++ rest

-- The items of a template with these phrases in its slots, marked or plain; a slot without a phrase has none.
abbrev pub sentence : Bool → List Part → List (List Spelling) → List Item
sentence marked [] phrases = []
sentence marked (Word w ∷ parts) phrases = plain (word_of w) ∷ sentence marked parts phrases
sentence marked (Slot s ∷ parts) [] = sentence marked parts []
sentence marked (Slot s ∷ parts) (phrase ∷ phrases) = with_phrase marked phrase (sentence marked parts phrases)

-- how many tokens the phrase of each slot has
abbrev pub slot_lengths : List Part → List (List Spelling) → List ℕ
slot_lengths [] phrases = []
slot_lengths (Word w ∷ parts) phrases = slot_lengths parts phrases
slot_lengths (Slot s ∷ parts) [] = slot_lengths parts []
slot_lengths (Slot s ∷ parts) (phrase ∷ phrases) = length phrase ∷ slot_lengths parts phrases

-- what says this is a phrase wherever it stands, and has no asterisk
pub record IsPhrase (phrase : List Spelling) : Type 0 where
  pub form : (layout : Layout) (ts : List Token) → spellings layout ts ≡ phrase → is_phrase layout ts ≡ true
  pub no_star : list_all (λ s. not (is_star s.kind)) phrase ≡ true

-- there is a phrase for each slot
abbrev pub Fills : List Part → List (List Spelling) → Type 0
Fills [] [] = Unit {0}
Fills [] (phrase ∷ phrases) = ⊥
Fills (Word w ∷ parts) phrases = Fills parts phrases
Fills (Slot s ∷ parts) [] = ⊥
Fills (Slot s ∷ parts) (phrase ∷ phrases) = IsPhrase phrase × Fills parts phrases

-- whether a template has a slot
abbrev pub has_slot : List Part → Bool
has_slot [] = false
has_slot (Word w ∷ parts) = has_slot parts
has_slot (Slot s ∷ parts) = true

-- templates in use have different skeletons
abbrev pub HasOneOfEach : List Template → Type 0
HasOneOfEach users = (p q : ℕ) → p < 20 + length users → q < 20 + length users → in_use users p ≡ true → in_use users q ≡ true → skeleton (parts_at users p) ≡ skeleton (parts_at users q) → p ≡ q
