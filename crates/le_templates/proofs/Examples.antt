-- Worked examples of templates, their skeletons and their last words.
use Rattle.std.proofs.Common.{◌≡◌, true, false, List, [], ◌∷◌, None, Some, codes, refl}
use Rattle.le_templates.specs.declared.part.Part.{Part}
use Rattle.le_templates.specs.declared.part.Part.TheVariants.{Word, Slot}
use Rattle.le_templates.specs.Form.{is_reserved, has_opening, is_template}
use Rattle.le_templates.specs.Skeletons.{key_of, skeleton, last_word}
use Rattle.le_templates.specs.Table.{predefined, template, in_use, ends_slot}

-- `*a person* IS happy`
abbrev happy : List Part
happy = Slot (codes "a person") ∷ Word (codes "IS") ∷ Word (codes "happy") ∷ []

happy_skeleton : skeleton happy ≡ None ∷ Some (codes "is") ∷ Some (codes "happy") ∷ []
happy_skeleton = refl

happy_is_template : is_template happy ≡ true
unfolding is_template is_reserved has_opening
happy_is_template = refl

-- a slot alone has no word
slot_is_none : is_template (Slot (codes "a person") ∷ []) ≡ false
unfolding is_template
slot_is_none = refl

-- `*a person* is happy if ready`
if_is_none : is_template (Slot (codes "a person") ∷ Word (codes "is") ∷ Word (codes "happy") ∷ Word (codes "if") ∷ Word (codes "ready") ∷ []) ≡ false
unfolding is_template is_reserved
if_is_none = refl

-- `it is the case that *a thing* holds`
opener_is_none : is_template (Word (codes "It") ∷ Word (codes "is") ∷ Word (codes "the") ∷ Word (codes "case") ∷ Word (codes "that") ∷ Slot (codes "a thing") ∷ Word (codes "holds") ∷ []) ≡ false
unfolding is_template is_reserved has_opening
opener_is_none = refl

person_last : last_word (codes "a person") ≡ codes "person"
person_last = refl

person_ends : ends_slot (template happy ∷ []) (codes "PERSON") ≡ true
person_ends = refl

-- `*a thing* is in *a place*` puts the predefined `*a thing* is in *a list*` out of use, and no other
place_replaces : in_use (template (Slot (codes "a thing") ∷ Word (codes "is") ∷ Word (codes "in") ∷ Slot (codes "a place") ∷ []) ∷ []) 18 ≡ false
unfolding predefined key_of
place_replaces = refl

place_leaves : in_use (template (Slot (codes "a thing") ∷ Word (codes "is") ∷ Word (codes "in") ∷ Slot (codes "a place") ∷ []) ∷ []) 0 ≡ true
unfolding predefined key_of
place_leaves = refl
