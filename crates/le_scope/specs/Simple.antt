-- The forms of phrases without brackets: this project's profile.
use Rattle.std.specs.Prelude.{ℕ, Bool, true, false, not, ◌&&◌, ◌||◌, nat_le, if◌then◌else◌, Option, Some, None, List, [], ◌∷◌, length, codes, ℤ}
use Rattle.std.specs.List.{list_all, list_any}
use Rattle.std.specs.Option.{option_or, is_some}
use Rattle.std.specs.Str.{bytes_eq}
use Rattle.le_layout.specs.declared.token.Token.{Token}
use Rattle.le_layout.specs.declared.layout.Layout.{Layout}
use Rattle.le_layout.specs.Words.{text_of, same_word, is_word, is_quote, is_this_word, not_the_case, the_case}
use Rattle.le_scope.specs.declared.phrase.PhraseForm.{PhraseForm}
use Rattle.le_values.specs.Numbers.{number_of}
use Rattle.le_values.specs.Days.{day_of}
use Rattle.le_scope.specs.declared.phrase.PhraseForm.TheVariants.{Number, Day, Quote, A, The, Which, Constant}

-- the words that are never plain, ASCII case ignored
abbrev pub connectives : List (List ℕ)
connectives = codes "if" ∷ codes "and" ∷ codes "or" ∷ codes "which" ∷ codes "each" ∷ []

-- the words that aren't plain where they are spelled so
abbrev pub particles : List (List ℕ)
particles = codes "+" ∷ codes "-" ∷ codes "/" ∷ codes "a" ∷ codes "an" ∷ []

-- A plain word is none of `if`, `and`, `or`, `which` and `each`, ASCII case ignored, and none of `+`, `-`, `/`, `a` and `an`, case kept.
unfoldable pub is_plain_word : List ℕ → Bool
is_plain_word w = not (list_any (same_word w) connectives) && not (list_any (bytes_eq w) particles)

-- whether a token is a plain word
unfoldable pub is_plain : Layout → Token → Bool
is_plain layout t = is_word t.kind && is_plain_word (text_of layout t)

-- A name is 1 to 12 plain words.
unfoldable pub is_name : Layout → List Token → Bool
is_name layout ts = nat_le 1 (length ts) && (nat_le (length ts) 12 && list_all (is_plain layout) ts)

-- whether the first tokens are these words, ASCII case ignored
abbrev pub begins_with : Layout → List Token → List (List ℕ) → Bool
begins_with layout ts [] = true
begins_with layout [] (w ∷ ws) = false
begins_with layout (t ∷ ts) (w ∷ ws) = is_this_word layout w t && begins_with layout ts ws

-- the words that no constant begins with, ASCII case ignored
abbrev pub determiners : List (List ℕ)
determiners = codes "the" ∷ codes "a" ∷ codes "an" ∷ codes "another" ∷ codes "some" ∷ codes "any" ∷ codes "every" ∷ []

-- whether a token is one of these words
unfoldable pub is_determiner : Layout → Token → Bool
is_determiner layout t = is_word t.kind && list_any (same_word (text_of layout t)) determiners

-- whether the first token is one of these words
abbrev pub has_determiner : Layout → List Token → Bool
has_determiner layout [] = false
has_determiner layout (t ∷ ts) = is_determiner layout t

-- whether tokens begin as no constant does: with a determiner, or with the words `it is not the case that` or `it is the case that`
unfoldable pub begins_otherwise : Layout → List Token → Bool
begins_otherwise layout ts =
    has_determiner layout ts
    || (begins_with layout ts not_the_case || begins_with layout ts the_case)

-- whether a token is `a` or `an`, ASCII case ignored
unfoldable pub is_indefinite : Layout → Token → Bool
is_indefinite layout t = is_this_word layout (codes "a") t || is_this_word layout (codes "an") t

-- the form that a token gives to the name after it: `a` and `an`, `the`, and `which`, ASCII case ignored
unfoldable pub article : Layout → Token → Option PhraseForm
article layout t =
    if is_indefinite layout t then Some A
    else (if is_this_word layout (codes "the") t then Some The
    else (if is_this_word layout (codes "which") t then Some Which
    else None))

-- the form of one quoted text
abbrev pub quote_form : List Token → Option PhraseForm
quote_form (t ∷ []) = if is_quote t.kind then Some Quote else None
quote_form _ = None

-- the form of an article with a name after it
abbrev pub article_form : Layout → List Token → Option PhraseForm
article_form layout [] = None
article_form layout (t ∷ ts) = if is_name layout ts then article layout t else None

-- the form of one word by the number and the date that it is: a number, else a date, and a constant where it is neither
abbrev pub value_form : Option ℤ → Option ℤ → PhraseForm
value_form (Some n) day = Number n
value_form None (Some day) = Day day
value_form None None = Constant

-- the form of one word
unfoldable pub word_form : List ℕ → PhraseForm
word_form w = value_form (number_of w) (day_of w)

-- the form of a name that begins as a constant does: one word may be a number or a date, and all else is a constant
abbrev pub name_form : Layout → List Token → PhraseForm
name_form layout (t ∷ []) = word_form (text_of layout t)
name_form layout _ = Constant

-- the form of a name that begins as a constant does, or none
abbrev pub constant_form : Layout → List Token → Option PhraseForm
constant_form layout ts = if is_name layout ts && not (begins_otherwise layout ts) then Some (name_form layout ts) else None

-- The form of a phrase without brackets: a quoted text, an article with a name, or a name that is a number, a date or a constant, or none where the tokens are no such phrase.
unfoldable pub simple_form : Layout → List Token → Option PhraseForm
simple_form layout ts = option_or (quote_form ts) (option_or (article_form layout ts) (constant_form layout ts))

-- whether the tokens are a phrase without brackets
abbrev pub is_simple_phrase : Layout → List Token → Bool
is_simple_phrase layout ts = is_some (simple_form layout ts)
