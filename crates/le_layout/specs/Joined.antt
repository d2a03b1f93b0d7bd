-- How the items of a sentence are joined to its text: this project's profile.
use Rattle.std.specs.Prelude.{ℕ, Bool, true, false, ◌||◌, if◌then◌else◌, List, [], ◌∷◌, ◌++◌}
use Rattle.le_layout.specs.declared.token.Kind.{Kind}
use Rattle.le_layout.specs.declared.token.Kind.TheVariants as kinds
use Rattle.le_layout.specs.Spellings.{Spelling, IsWritten}

-- what a sentence is made of: the asterisks around a marked slot, and what it says
pub data Item : Type 0 where
  opening : Item
  closing : Item
  plain : Spelling → Item

-- what the token of an item says
abbrev pub spelling_in : Item → Spelling
spelling_in opening = record { kind = kinds.Star; text = 42 ∷ [] }
spelling_in closing = record { kind = kinds.Star; text = 42 ∷ [] }
spelling_in (plain s) = s

-- the text of a token of this kind: a quoted text has its quotation marks
abbrev pub written : Kind → List ℕ → List ℕ
written kinds.Quote text = 34 ∷ text ++ 34 ∷ []
written _ text = text

abbrev pub item_text : Item → List ℕ
item_text p = written (spelling_in p).kind (spelling_in p).text

-- No space stands after an opening asterisk and `[`.
abbrev pub glues_kind : Kind → Bool
glues_kind kinds.Open = true
glues_kind _ = false

abbrev pub glues : Item → Bool
glues opening = true
glues closing = false
glues (plain s) = glues_kind s.kind

-- No space stands before a closing asterisk, `]` and a comma.
abbrev pub hugs_kind : Kind → Bool
hugs_kind kinds.Close = true
hugs_kind kinds.Comma = true
hugs_kind _ = false

abbrev pub hugs : Item → Bool
hugs opening = false
hugs closing = true
hugs (plain s) = hugs_kind s.kind

-- the space before an item, where the flag says that none stands after what goes before
abbrev pub gap : Bool → Item → List ℕ
gap glued p = if glued || hugs p then [] else 32 ∷ []

-- the text of items, with one space between two of them where one stands
abbrev pub joined_from : Bool → List Item → List ℕ
joined_from glued [] = []
joined_from glued (p ∷ ps) = gap glued p ++ (item_text p ++ joined_from (glues p) ps)

-- Items are joined by one space, except that none stands after `[` and an opening asterisk, and none before `]`, `,` and a closing asterisk.
unfoldable pub joined : List Item → List ℕ
joined items = joined_from true items

-- each item is one that a document can have
abbrev pub AllWritten : List Item → Type 0
AllWritten [] = Unit {0}
AllWritten (p ∷ ps) = IsWritten (spelling_in p) × AllWritten ps
