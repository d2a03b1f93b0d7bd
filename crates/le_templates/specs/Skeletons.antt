-- Skeletons, and the last words of slots: this project's profile.
use Rattle.std.specs.Prelude.{ℕ, ◌==◌, Bool, false, if◌then◌else◌, Option, Some, None, List, [], ◌∷◌, map, flat_map}
use Rattle.std.specs.Char.{to_ascii_lowercase}
use Rattle.std.specs.List.{list_any}
use Rattle.std.specs.Str.{bytes_eq}
use Rattle.le_templates.specs.declared.part.Part.{Part}
use Rattle.le_templates.specs.declared.part.Part.TheVariants.{Word, Slot}
use Rattle.le_layout.specs.Words.{same_word}

-- a word in ASCII lower case, or a slot without its phrase
abbrev pub skeleton_part : Part → Option (List ℕ)
skeleton_part (Word w) = Some (map to_ascii_lowercase w)
skeleton_part (Slot s) = None

-- The skeleton of a template: its words in ASCII lower case, and its slots without their phrases, in order.
abbrev pub skeleton : List Part → List (Option (List ℕ))
skeleton parts = map skeleton_part parts

-- a word in a key: a 1 before each byte, and a 0 after the last
abbrev pub word_key : List ℕ → List ℕ
word_key [] = 0 ∷ []
word_key (b ∷ bs) = 1 ∷ b ∷ word_key bs

-- a slot in a key is a 2
abbrev pub part_key : Option (List ℕ) → List ℕ
part_key (Some w) = word_key w
part_key None = 2 ∷ []

-- The key of a template spells its skeleton in bytes, so that two templates have one key exactly where they have one skeleton.
unfoldable pub key_of : List Part → List ℕ
key_of parts = flat_map (λ part. part_key (skeleton_part part)) parts

-- whether two templates have one skeleton
abbrev pub same_skeleton : List Part → List Part → Bool
same_skeleton a b = bytes_eq (key_of a) (key_of b)

-- the last word of a phrase: what stands after its last space
abbrev pub last_word : List ℕ → List ℕ
last_word [] = []
last_word (b ∷ bs) = if list_any (λ c. c == 32) (b ∷ bs) then last_word bs else b ∷ bs

-- whether a part is a slot whose phrase has this last word, ASCII case ignored
abbrev pub slot_ends : List ℕ → Part → Bool
slot_ends word (Word w) = false
slot_ends word (Slot s) = same_word word (last_word s)
