-- Worked examples of the sentences of atoms and the phrases of terms.
use Rattle.std.proofs.Common.{◌≡◌, ℕ, negsuc, List, [], ◌∷◌, codes, refl}
use Rattle.std.specs.Fmt.{digits}
use Rattle.std.specs.Str.{chars, is_utf8}
use lib.Utf8.{encode}
use Rattle.unicode_ident.proofs.Computing.{unicode_ident}
use Rattle.le_layout.specs.Characters.{is_word_character, is_ascii_sign, is_further_sign, is_space, kind_of, may_be_quoted, may_be_commented}
use Rattle.le_layout.specs.Places.{next_place}
use Rattle.le_layout.specs.Lines.{lines_of}
use Rattle.le_layout.specs.Pieces.{joins, goes_on, ends_line, form_at, more_at, pieces_behind}
use Rattle.le_layout.specs.Faults.{is_numeral, is_numerals, is_number_like, is_bad_number, is_bad_date, word_faults, single_faults, own_faults, faults_at, faults_from}
use Rattle.le_layout.specs.Joined.{joined}
use Rattle.le_layout.specs.Layout.{token_at, tokens_at, rows_from, lines_from, layout_in, layout_of}
use Rattle.le_values.specs.Numbers.{number_of}
use Rattle.le_values.specs.Days.{day_of}
use Rattle.le_templates.specs.declared.part.Part.TheVariants.{Word, Slot}
use Rattle.le_templates.specs.declared.part.Template.{Template}
use Rattle.le_templates.specs.Skeletons.{key_of}
use Rattle.le_templates.specs.Table.{template, predefined}
use Rattle.le_terms.specs.Tree.{constant, variable, nil, cell, number}
use Rattle.le_scope.specs.Phrases.{is_plain_word, is_plain, is_name, is_determiner, begins_otherwise, is_indefinite, article, word_form, simple_form, phrase_form, phrase_name}
use Rattle.le_match.specs.Readings.{readings_of, best_of}
use Rattle.le_english.specs.Phrases.{word_of, quoted, is_plain_the, is_plain_name, name_phrase, variable_phrase, term_text}
use Rattle.le_english.specs.Saying.{reads_alone, sentence_text}
use Rattle.le_english.specs.Atoms.{say_text}

-- a list whose last tail is a variable that was printed before
open_list : term_text [] [] (cell (variable 3) (cell (number (negsuc 6)) (variable 3))) ≡ codes "[a thing 3, -7 | the thing 3]"
unfolding term_text joined variable_phrase digits
open_list = refl

-- lists in a list
list_in_list : term_text [] [] (cell (cell (variable 1) nil) (cell nil nil)) ≡ codes "[[a thing 1], []]"
unfolding term_text joined variable_phrase digits
list_in_list = refl

users : List Template
users =
    template (Slot (codes "a person") ∷ Word (codes "is") ∷ Word (codes "happy") ∷ [])
    ∷ template (Slot (codes "a person") ∷ Word (codes "says") ∷ Slot (codes "a thing") ∷ [])
    ∷ []

names : List (List ℕ)
names = codes "Ann" ∷ codes "Bob is happy" ∷ codes "the person" ∷ []

-- a name that reads as its constant is written as it is
plain_name : name_phrase users (codes "Ann") ≡ word_of (codes "Ann") ∷ []
unfolding users name_phrase is_plain_name layout_of layout_in rows_from lines_from tokens_at token_at faults_from faults_at own_faults word_faults single_faults is_number_like is_numerals is_numeral is_bad_number is_bad_date number_of day_of pieces_behind form_at more_at goes_on joins ends_line lines_of next_place is_word_character unicode_ident is_ascii_sign is_further_sign is_space kind_of may_be_quoted may_be_commented chars is_utf8 encode is_plain_word is_plain is_name is_determiner begins_otherwise is_indefinite article word_form simple_form phrase_form phrase_name
plain_name = refl

-- `the` and a name whose last word ends a slot is quoted
quoted_name : name_phrase users (codes "the person") ≡ quoted (codes "the person") ∷ []
unfolding users name_phrase is_plain_name is_plain_the layout_of layout_in rows_from lines_from tokens_at token_at faults_from faults_at own_faults word_faults single_faults is_number_like is_numerals is_numeral is_bad_number is_bad_date number_of day_of pieces_behind form_at more_at goes_on joins ends_line lines_of next_place is_word_character unicode_ident is_ascii_sign is_further_sign is_space kind_of may_be_quoted may_be_commented chars is_utf8 encode is_plain_word is_plain is_name is_determiner begins_otherwise is_indefinite article word_form simple_form phrase_form phrase_name
quoted_name = refl

-- a sentence that another template reads is marked
marked : say_text users names 21 (constant 0 ∷ constant 1 ∷ []) ≡ codes "*Ann* says *Bob is happy*"
unfolding users names name_phrase is_plain_name layout_of layout_in rows_from lines_from tokens_at token_at faults_from faults_at own_faults word_faults single_faults is_number_like is_numerals is_numeral is_bad_number is_bad_date number_of day_of pieces_behind form_at more_at goes_on joins ends_line lines_of next_place is_word_character unicode_ident is_ascii_sign is_further_sign is_space kind_of may_be_quoted may_be_commented chars is_utf8 encode is_plain_word is_plain is_name is_determiner begins_otherwise is_indefinite article word_form simple_form phrase_form phrase_name key_of predefined readings_of best_of joined variable_phrase reads_alone sentence_text
marked = refl

-- a sentence that no other template reads is plain
plain_one : say_text users names 20 (constant 0 ∷ []) ≡ codes "Ann is happy"
unfolding users names name_phrase is_plain_name layout_of layout_in rows_from lines_from tokens_at token_at faults_from faults_at own_faults word_faults single_faults is_number_like is_numerals is_numeral is_bad_number is_bad_date number_of day_of pieces_behind form_at more_at goes_on joins ends_line lines_of next_place is_word_character unicode_ident is_ascii_sign is_further_sign is_space kind_of may_be_quoted may_be_commented chars is_utf8 encode is_plain_word is_plain is_name is_determiner begins_otherwise is_indefinite article word_form simple_form phrase_form phrase_name key_of predefined readings_of best_of joined variable_phrase reads_alone sentence_text
plain_one = refl
