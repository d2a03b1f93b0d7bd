-- The table of templates: this project's profile.
use Rattle.std.specs.Prelude.{ℕ, ◌+◌, Bool, not, ◌||◌, nat_le, if◌then◌else◌, Option, Some, None, Result, Ok, Err, List, [], ◌∷◌, ◌++◌, length, slice_index_or, codes}
use Rattle.std.specs.List.{list_any}
use Rattle.le_base.specs.declared.code.Code.TheVariants.{BadTemplate, SameTemplate, TooMany}
use Rattle.le_layout.specs.declared.span.Span.{Span}
use Rattle.le_base.specs.declared.stop.Refusal.{Refusal}
use Rattle.le_base.specs.Stop.{refusal_at}
use Rattle.le_layout.specs.declared.token.Token.{Token}
use Rattle.le_layout.specs.declared.layout.Layout.{Layout}
use Rattle.le_layout.specs.Layout.{no_token}
use Rattle.le_templates.specs.declared.part.Part.{Part}
use Rattle.le_templates.specs.declared.part.Part.TheVariants.{Word, Slot}
use Rattle.le_templates.specs.declared.part.Template.{Template}
use Rattle.le_templates.specs.Form.{template_of}
use Rattle.le_templates.specs.Skeletons.{same_skeleton, slot_ends}

abbrev pub template : List Part → Template
template parts = record { parts = parts }

abbrev thing : Part
thing = Slot (codes "a thing")

abbrev number : Part
number = Slot (codes "a number")

abbrev date : Part
date = Slot (codes "a date")

abbrev list : Part
list = Slot (codes "a list")

abbrev is_ : Part
is_ = Word (codes "is")

-- The predefined templates, which are the predicates 0 to 19.
unfoldable pub predefined : List Template
predefined =
    template (thing ∷ is_ ∷ Word (codes "equal") ∷ Word (codes "to") ∷ thing ∷ [])
    ∷ template (thing ∷ is_ ∷ Word (codes "different") ∷ Word (codes "from") ∷ thing ∷ [])
    ∷ template (number ∷ is_ ∷ Word (codes "greater") ∷ Word (codes "than") ∷ number ∷ [])
    ∷ template (number ∷ is_ ∷ Word (codes "less") ∷ Word (codes "than") ∷ number ∷ [])
    ∷ template (number ∷ is_ ∷ Word (codes "at") ∷ Word (codes "least") ∷ number ∷ [])
    ∷ template (number ∷ is_ ∷ Word (codes "at") ∷ Word (codes "most") ∷ number ∷ [])
    ∷ template (date ∷ is_ ∷ Word (codes "before") ∷ date ∷ [])
    ∷ template (date ∷ is_ ∷ Word (codes "after") ∷ date ∷ [])
    ∷ template (date ∷ is_ ∷ Word (codes "on") ∷ Word (codes "or") ∷ Word (codes "before") ∷ date ∷ [])
    ∷ template (date ∷ is_ ∷ Word (codes "on") ∷ Word (codes "or") ∷ Word (codes "after") ∷ date ∷ [])
    ∷ template (number ∷ is_ ∷ number ∷ Word (codes "plus") ∷ number ∷ [])
    ∷ template (number ∷ is_ ∷ number ∷ Word (codes "minus") ∷ number ∷ [])
    ∷ template (number ∷ is_ ∷ number ∷ Word (codes "times") ∷ number ∷ [])
    ∷ template (number ∷ is_ ∷ number ∷ Word (codes "divided") ∷ Word (codes "by") ∷ number ∷ [])
    ∷ template (date ∷ is_ ∷ number ∷ Word (codes "days") ∷ Word (codes "after") ∷ date ∷ [])
    ∷ template (date ∷ is_ ∷ number ∷ Word (codes "months") ∷ Word (codes "after") ∷ date ∷ [])
    ∷ template (number ∷ is_ ∷ Word (codes "the") ∷ Word (codes "number") ∷ Word (codes "of") ∷ Word (codes "days") ∷ Word (codes "from") ∷ date ∷ Word (codes "to") ∷ date ∷ [])
    ∷ template (number ∷ is_ ∷ Word (codes "the") ∷ Word (codes "length") ∷ Word (codes "of") ∷ list ∷ [])
    ∷ template (thing ∷ is_ ∷ Word (codes "in") ∷ list ∷ [])
    ∷ template (list ∷ Word (codes "followed") ∷ Word (codes "by") ∷ list ∷ is_ ∷ list ∷ [])
    ∷ []

-- the table of a document's templates: the predefined ones, and then the user's in the order in which they were declared
abbrev pub table_of : List Template → List Template
table_of users = predefined ++ users

-- whether a user's template has this skeleton
abbrev pub is_declared : List Template → List Part → Bool
is_declared users parts = list_any (λ t. same_skeleton parts t.parts) users

-- Every template is in use but for a predefined one whose skeleton a user's template has.
abbrev pub in_use : List Template → ℕ → Bool
in_use users pred = nat_le 20 pred || not (is_declared users (slice_index_or predefined pred (template [])).parts)

-- whether the word, ASCII case ignored, is the last word of the phrase of some slot of a user's template
abbrev pub ends_slot : List Template → List ℕ → Bool
ends_slot users word = list_any (λ t. list_any (slot_ends word) t.parts) users

-- the first token of a span
abbrev pub first_token : Layout → Span → Token
first_token layout span = slice_index_or layout.tokens span.from no_token

-- what is declared by words and slots at a token: they are a template, no user's template has its skeleton, and there are fewer than 1,000
abbrev pub declared_at : List Template → Token → Option (List Part) → Result Template Refusal
declared_at users first None = Err (refusal_at BadTemplate first.line first.column)
declared_at users first (Some parts) =
    if is_declared users parts then Err (refusal_at SameTemplate first.line first.column)
    else (if nat_le 1000 (length users) then Err (refusal_at TooMany first.line first.column)
    else Ok (template parts))

-- The template that the tokens of a span declare, or its refusal at the first of them.
unfoldable pub declaration : List Template → Layout → Span → Result Template Refusal
declaration users layout span = declared_at users (first_token layout span) (template_of layout span)

-- the user's templates after a declaration
abbrev pub after_declaration : List Template → Result Template Refusal → List Template
after_declaration users (Ok t) = users ++ t ∷ []
after_declaration users (Err refusal) = users

-- the number of a declared template
abbrev pub declared_number : List Template → Result Template Refusal → Result ℕ Refusal
declared_number users (Ok t) = Ok (20 + length users)
declared_number users (Err refusal) = Err refusal
