-- Worked examples of phrases and scopes.
use Rattle.std.proofs.Common.{◌≡◌, ℕ, true, false, [], ◌∷◌, None, Some, codes, refl}
use Rattle.le_layout.specs.declared.token.Kind.TheVariants as kinds
use Rattle.le_layout.specs.declared.token.Token.{Token}
use Rattle.le_layout.specs.declared.layout.Layout.{Layout}
use Rattle.le_scope.specs.declared.phrase.PhraseForm.TheVariants.{A, The, Constant}
use Rattle.le_scope.specs.declared.scope.Intro.TheVariants.{Again, Full}
use Rattle.le_scope.specs.Phrases.{is_plain_word, is_plain, is_name, is_determiner, begins_otherwise, is_indefinite, article, simple_form, phrase_form, phrase_name}
use Rattle.le_scope.specs.declared.parts.ListPart.TheVariants.{Cell, Item}
use Rattle.le_scope.specs.Parts.{parts_of_list}
use Rattle.le_scope.specs.Scopes.{ScopeState, place_of, introduction, introduced_by_which}

-- the words are plain that aren't connectives or particles, and `A` is one
upper_a : is_plain_word (codes "A") ≡ true
unfolding is_plain_word
upper_a = refl

lower_a : is_plain_word (codes "a") ≡ false
unfolding is_plain_word
lower_a = refl

any_and : is_plain_word (codes "And") ≡ false
unfolding is_plain_word
any_and = refl

abbrev word : ℕ → ℕ → Token
word from to = record { kind = kinds.Word; from = from; to = to; line = 1; column = from }

-- `the A team`
abbrev team : Layout
team = record { text = codes "the A team"; tokens = word 0 3 ∷ word 4 5 ∷ word 6 10 ∷ []; lines = [] }

the_team : phrase_form team (word 0 3 ∷ word 4 5 ∷ word 6 10 ∷ []) ≡ Some The
unfolding phrase_form simple_form is_name is_plain is_plain_word article is_indefinite
the_team = refl

a_team : phrase_form team (word 4 5 ∷ word 6 10 ∷ []) ≡ Some A
unfolding phrase_form simple_form is_name is_plain is_plain_word article is_indefinite
a_team = refl

alone : phrase_form team (word 4 5 ∷ []) ≡ None
unfolding phrase_form simple_form is_name is_plain is_plain_word begins_otherwise is_determiner
alone = refl

constant : phrase_form team (word 6 10 ∷ word 4 5 ∷ []) ≡ Some Constant
unfolding phrase_form simple_form is_name is_plain is_plain_word article is_indefinite begins_otherwise is_determiner
constant = refl

name : phrase_name team (word 4 5 ∷ word 6 10 ∷ []) ≡ codes "A team"
unfolding phrase_name
name = refl

-- `[A, B | C]`
abbrev letters : Layout
letters = record {
  text = codes "[A, B | C]";
  tokens =
      record { kind = kinds.Open; from = 0; to = 1; line = 1; column = 0 }
      ∷ word 1 2
      ∷ record { kind = kinds.Comma; from = 2; to = 3; line = 1; column = 2 }
      ∷ word 4 5
      ∷ record { kind = kinds.Bar; from = 6; to = 7; line = 1; column = 6 }
      ∷ word 8 9
      ∷ record { kind = kinds.Close; from = 9; to = 10; line = 1; column = 9 }
      ∷ [];
  lines = [];
}

letters_parts : parts_of_list letters (record { from = 0; to = 7 }) ≡ Cell ∷ Item (record { from = 1; to = 2 }) ∷ Cell ∷ Item (record { from = 3; to = 4 }) ∷ Item (record { from = 5; to = 6 }) ∷ []
unfolding parts_of_list
letters_parts = refl

-- a scope that takes two names, and has two, of which `which` introduced the second
abbrev two : ScopeState
two = record { limit = 2; names = codes "Car" ∷ codes "big car" ∷ []; asked = 1 ∷ [] }

found : place_of two (codes "BIG car") ≡ Some 1
found = refl

again : introduction two (codes "cAR") ≡ Again
unfolding introduction
again = refl

full : introduction two (codes "cars") ≡ Full
unfolding introduction
full = refl

new : introduced_by_which (record { limit = 2; names = codes "Car" ∷ []; asked = [] }) (codes "big car") ≡ two
unfolding introduction
new = refl
