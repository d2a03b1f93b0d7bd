-- The forms of phrases, and the names in them: this project's profile.
use Rattle.std.specs.Prelude.{ℕ, ◌==◌, Bool, false, ◌&&◌, if◌then◌else◌, Option, Some, None, List, [], ◌∷◌, ◌++◌, length, map, flat_map}
use Rattle.std.specs.Option.{option_or, is_some}
use Rattle.le_layout.specs.declared.token.Token.{Token}
use Rattle.le_layout.specs.declared.layout.Layout.{Layout}
use Rattle.le_layout.specs.Words.{text_of, spaced}
use Rattle.le_base.specs.Ranges.{IsNumber, IsDay}
use Rattle.le_scope.specs.declared.phrase.PhraseForm.{PhraseForm}
use Rattle.le_scope.specs.declared.phrase.PhraseForm.TheVariants.{Number, Day, List as ListForm}
use Rattle.le_scope.specs.Lists.{is_open, first_row}
unfoldable pub use Rattle.le_scope.specs.Simple.{connectives, particles, determiners, is_plain_word, is_plain, is_name, begins_with, is_determiner, has_determiner, begins_otherwise, is_indefinite, article, quote_form, article_form, value_form, word_form, name_form, constant_form, simple_form, is_simple_phrase}

-- whether the tokens are one list: the first of them is an opening bracket, and the list that begins there has all of them
abbrev pub is_list_phrase : Layout → List Token → Bool
is_list_phrase layout [] = false
is_list_phrase layout (t ∷ ts) = is_open t.kind && ((first_row layout (t ∷ ts)).phrase == length (t ∷ ts))

-- the form of a list
abbrev pub list_form : Layout → List Token → Option PhraseForm
list_form layout ts = if is_list_phrase layout ts then Some ListForm else None

-- The form of a phrase: that of a phrase without brackets, or a list, or none where the tokens are no phrase.
unfoldable pub phrase_form : Layout → List Token → Option PhraseForm
phrase_form layout ts = option_or (simple_form layout ts) (list_form layout ts)

-- whether the tokens are a phrase
abbrev pub is_phrase : Layout → List Token → Bool
is_phrase layout ts = is_some (phrase_form layout ts)

-- a number is from -10^18 to 10^18, and a day is of the years 0001 to 9999
abbrev pub IsFormInRange : PhraseForm → Type 0
IsFormInRange (Number n) = IsNumber n
IsFormInRange (Day day) = IsDay day
IsFormInRange _ = Unit {0}

-- the name that tokens spell: their texts joined by one space
unfoldable pub phrase_name : Layout → List Token → List ℕ
phrase_name layout ts = spaced (map (text_of layout) ts)
