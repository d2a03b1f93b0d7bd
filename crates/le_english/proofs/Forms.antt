-- The forms of phrases without brackets, over what their tokens say.
use Rattle.std.specs.Prelude.{ℕ, Bool, true, false, not, ◌&&◌, ◌||◌, nat_le, if◌then◌else◌, Option, Some, None, List, [], ◌∷◌, length, map, codes}
use Rattle.std.specs.List.{list_all, list_any}
use Rattle.std.specs.Option.{option_or}
use Rattle.le_layout.specs.Words.{spaced, same_word, is_word, is_quote, not_the_case, the_case}
use Rattle.le_scope.specs.declared.phrase.PhraseForm.{PhraseForm}
use Rattle.le_scope.specs.declared.phrase.PhraseForm.TheVariants.{Quote, A, The, Which, Constant}
use Rattle.le_scope.specs.Phrases.{is_plain_word, determiners, word_form}
use Rattle.le_layout.specs.Spellings.{Spelling}

abbrev pub says : List ℕ → Spelling → Bool
says word s = is_word s.kind && same_word s.text word

abbrev pub is_plain : Spelling → Bool
is_plain s = is_word s.kind && is_plain_word s.text

abbrev pub is_name : List Spelling → Bool
is_name ss = nat_le 1 (length ss) && (nat_le (length ss) 12 && list_all is_plain ss)

abbrev pub begins_with : List Spelling → List (List ℕ) → Bool
begins_with ss [] = true
begins_with [] (w ∷ ws) = false
begins_with (s ∷ ss) (w ∷ ws) = says w s && begins_with ss ws

abbrev pub is_determiner : Spelling → Bool
is_determiner s = is_word s.kind && list_any (same_word s.text) determiners

abbrev pub has_determiner : List Spelling → Bool
has_determiner [] = false
has_determiner (s ∷ ss) = is_determiner s

abbrev pub begins_otherwise : List Spelling → Bool
begins_otherwise ss = has_determiner ss || (begins_with ss not_the_case || begins_with ss the_case)

abbrev pub article : Spelling → Option PhraseForm
article s =
    if says (codes "a") s || says (codes "an") s then Some A
    else (if says (codes "the") s then Some The
    else (if says (codes "which") s then Some Which
    else None))

abbrev pub quote_form : List Spelling → Option PhraseForm
quote_form (s ∷ []) = if is_quote s.kind then Some Quote else None
quote_form _ = None

abbrev pub article_form : List Spelling → Option PhraseForm
article_form [] = None
article_form (s ∷ ss) = if is_name ss then article s else None

abbrev pub name_form : List Spelling → PhraseForm
name_form (s ∷ []) = word_form s.text
name_form _ = Constant

abbrev pub constant_form : List Spelling → Option PhraseForm
constant_form ss = if is_name ss && not (begins_otherwise ss) then Some (name_form ss) else None

unfoldable pub form_of : List Spelling → Option PhraseForm
form_of ss = option_or (quote_form ss) (option_or (article_form ss) (constant_form ss))

unfoldable pub name_of : List Spelling → List ℕ
name_of ss = spaced (map (λ s. s.text) ss)
