-- The form of a template: this project's profile.
use Rattle.std.specs.Prelude.{ℕ, ◌+◌, Bool, true, false, not, ◌&&◌, ◌||◌, nat_le, if◌then◌else◌, Option, Some, None, List, [], ◌∷◌, ◌++◌, length, flat_map, codes}
use Rattle.std.specs.Option.{option_map}
use Rattle.std.specs.List.{list_any, count_by}
use Rattle.le_layout.specs.declared.span.Span.{Span}
use Rattle.le_layout.specs.declared.token.Token.{Token}
use Rattle.le_layout.specs.declared.layout.Layout.{Layout}
use Rattle.le_layout.specs.Words.{text_of, tokens_of, spaced, same_word, is_word, is_star, not_the_case, the_case, all_cases}
use Rattle.le_templates.specs.declared.part.Part.{Part}
use Rattle.le_templates.specs.declared.part.Part.TheVariants.{Word, Slot}

-- a slot's phrase has 1 to 12 words
abbrev pub is_phrase : List (List ℕ) → Bool
is_phrase ws = nat_le 1 (length ws) && nat_le (length ws) 12

-- what stands after an opening asterisk: the words up to the closing one, and the parts after that
pub record Opened : Type 0 where
  pub phrase : List (List ℕ)
  pub rest : List Part

-- words put at the front of a phrase
abbrev pub onto_phrase : List (List ℕ) → Option Opened → Option Opened
onto_phrase ws None = None
onto_phrase ws (Some o) = Some (record { phrase = ws ++ o.phrase; rest = o.rest })

-- a phrase that is closed here, with the parts after it
abbrev pub closed : Option (List Part) → Option Opened
closed None = None
closed (Some parts) = Some (record { phrase = []; rest = parts })

-- the slot and the parts after it, where the phrase has 1 to 12 words
abbrev pub slot_first : Option Opened → Option (List Part)
slot_first None = None
slot_first (Some o) = if is_phrase o.phrase then Some (Slot (spaced o.phrase) ∷ o.rest) else None

-- The words and slots that tokens spell, where each token is a word or an asterisk, each slot is closed, and each has 1 to 12 words: outside slots a word is a part of its own, and an asterisk opens a slot; within one a word is a word of its phrase, and an asterisk closes it.
abbrev mutual
  pub outside : Layout → List Token → Option (List Part)
  outside layout [] = Some []
  outside layout (t ∷ ts) =
      if is_word t.kind then option_map (λ parts. Word (text_of layout t) ∷ parts) (outside layout ts)
      else (if is_star t.kind then slot_first (inside layout ts) else None)

  pub inside : Layout → List Token → Option Opened
  inside layout [] = None
  inside layout (t ∷ ts) =
      if is_star t.kind then closed (outside layout ts)
      else (if is_word t.kind then onto_phrase (text_of layout t ∷ []) (inside layout ts) else None)

abbrev pub is_word_part : Part → Bool
is_word_part (Word w) = true
is_word_part (Slot s) = false

-- whether a part is this word outside slots
abbrev pub is_spelled : List ℕ → Part → Bool
is_spelled word (Word w) = same_word w word
is_spelled word (Slot s) = false

-- the words that no template has outside slots
unfoldable pub is_reserved : Part → Bool
is_reserved part = is_spelled (codes "if") part || is_spelled (codes "each") part

-- whether the first parts are these words
abbrev pub begins_with : List Part → List (List ℕ) → Bool
begins_with parts [] = true
begins_with [] (w ∷ ws) = false
begins_with (part ∷ parts) (w ∷ ws) = is_spelled w part && begins_with parts ws

-- whether a template begins with the words of a connective or of an opener
unfoldable pub has_opening : List Part → Bool
has_opening parts =
    begins_with parts (codes "and" ∷ [])
    || (begins_with parts (codes "or" ∷ [])
    || (begins_with parts not_the_case
    || (begins_with parts the_case
    || begins_with parts all_cases)))

-- how many words stand outside slots
abbrev pub word_count : List Part → ℕ
word_count parts = count_by is_word_part parts

-- 1 to 40 words outside slots, and at most 8 slots
abbrev pub has_counts : List Part → Bool
has_counts parts = nat_le 1 (word_count parts) && (nat_le (word_count parts) 40 && nat_le (length parts) (word_count parts + 8))

-- Words and slots are a template where there are 1 to 40 words and at most 8 slots, no word is `if` or `each`, and the first words aren't those of a connective or an opener.
unfoldable pub is_template : List Part → Bool
is_template parts = has_counts parts && (not (list_any is_reserved parts) && not (has_opening parts))

-- those parts that are a template
abbrev pub checked : Option (List Part) → Option (List Part)
checked None = None
checked (Some parts) = if is_template parts then Some parts else None

-- the words and slots of the template that the tokens of a span spell, or none where they spell none
unfoldable pub template_of : Layout → Span → Option (List Part)
template_of layout span = checked (outside layout (tokens_of layout span))
