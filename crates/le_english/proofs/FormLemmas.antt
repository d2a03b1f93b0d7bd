-- The form of a phrase depends on what its tokens say.
use Rattle.std.proofs.Common.{◌≡◌, ℕ, cond, not, ◌&&◌, ◌||◌, nat_le, Some, None, List, [], ◌∷◌, map, is_some, sym, refl, ap, ap₂, ◌∙◌}
use Rattle.std.specs.List.{list_all}
use Rattle.std.specs.Option.{option_or}
use Rattle.std.proofs.lemmas.List.{length-map}
use Rattle.le_layout.specs.declared.token.Token.{Token}
use Rattle.le_layout.specs.declared.layout.Layout.{Layout}
use Rattle.le_layout.specs.Words.{text_of, spaced, is_this_word, not_the_case, the_case}
use Rattle.le_scope.specs.Phrases as scope
use Rattle.le_scope.specs.Phrases.{simple_form, is_simple_phrase, phrase_name}
use Rattle.le_layout.specs.Spellings.{Spelling, spelling_of, spellings}
use Rattle.le_english.proofs.Forms.{is_plain, is_name, begins_with, has_determiner, begins_otherwise, article, quote_form, article_form, name_form, constant_form, form_of, name_of}

plain-said : (layout : Layout) (t : Token) → scope.is_plain layout t ≡ is_plain (spelling_of layout t)
unfolding scope.is_plain
plain-said layout t = refl

all-said : (layout : Layout) (ts : List Token) → list_all (scope.is_plain layout) ts ≡ list_all is_plain (spellings layout ts)
all-said layout [] = refl
all-said layout (t ∷ ts) = ap₂ (λ x y. x && y) (plain-said layout t) (all-said layout ts)

name-said : (layout : Layout) (ts : List Token) → scope.is_name layout ts ≡ is_name (spellings layout ts)
unfolding scope.is_name
name-said layout ts = ap₂ (λ n b. nat_le 1 n && (nat_le n 12 && b)) (sym (length-map ts (spelling_of layout))) (all-said layout ts)

begins-said : (layout : Layout) (ts : List Token) (ws : List (List ℕ)) → scope.begins_with layout ts ws ≡ begins_with (spellings layout ts) ws
begins-said layout [] [] = refl
begins-said layout (t ∷ ts) [] = refl
begins-said layout [] (w ∷ ws) = refl
begins-said layout (t ∷ ts) (w ∷ ws) = ap (λ b. is_this_word layout w t && b) (begins-said layout ts ws)

determiner-said : (layout : Layout) (ts : List Token) → scope.has_determiner layout ts ≡ has_determiner (spellings layout ts)
unfolding scope.is_determiner
determiner-said layout [] = refl
determiner-said layout (t ∷ ts) = refl

otherwise-said : (layout : Layout) (ts : List Token) → scope.begins_otherwise layout ts ≡ begins_otherwise (spellings layout ts)
unfolding scope.begins_otherwise
otherwise-said layout ts = ap₂ (λ a b. a || b) (determiner-said layout ts) (ap₂ (λ a b. a || b) (begins-said layout ts not_the_case) (begins-said layout ts the_case))

article-said : (layout : Layout) (t : Token) → scope.article layout t ≡ article (spelling_of layout t)
unfolding scope.article scope.is_indefinite
article-said layout t = refl

quote-said : (layout : Layout) (ts : List Token) → scope.quote_form ts ≡ quote_form (spellings layout ts)
quote-said layout [] = refl
quote-said layout (t ∷ []) = refl
quote-said layout (t ∷ u ∷ ts) = refl

article_form-said : (layout : Layout) (ts : List Token) → scope.article_form layout ts ≡ article_form (spellings layout ts)
article_form-said layout [] = refl
article_form-said layout (t ∷ ts) = ap₂ (λ b o. cond b o None) (name-said layout ts) (article-said layout t)

name_form-said : (layout : Layout) (ts : List Token) → scope.name_form layout ts ≡ name_form (spellings layout ts)
name_form-said layout [] = refl
name_form-said layout (t ∷ []) = refl
name_form-said layout (t ∷ u ∷ ts) = refl

constant-said : (layout : Layout) (ts : List Token) → scope.constant_form layout ts ≡ constant_form (spellings layout ts)
constant-said layout ts =
    ap₂ (λ a b. cond (a && not b) (Some (scope.name_form layout ts)) None) (name-said layout ts) (otherwise-said layout ts)
    ∙ ap (λ f. cond (is_name (spellings layout ts) && not (begins_otherwise (spellings layout ts))) (Some f) None) (name_form-said layout ts)

pub form-said : (layout : Layout) (ts : List Token) → simple_form layout ts ≡ form_of (spellings layout ts)
unfolding scope.simple_form form_of
form-said layout ts = ap₂ (λ a b. option_or a b) (quote-said layout ts) (ap₂ (λ a b. option_or a b) (article_form-said layout ts) (constant-said layout ts))

texts-said : (layout : Layout) (ts : List Token) → map (text_of layout) ts ≡ map (λ (s : Spelling). s.text) (spellings layout ts)
texts-said layout [] = refl
texts-said layout (t ∷ ts) = ap (λ xs. text_of layout t ∷ xs) (texts-said layout ts)

pub name_of-said : (layout : Layout) (ts : List Token) → phrase_name layout ts ≡ name_of (spellings layout ts)
unfolding scope.phrase_name name_of
name_of-said layout ts = ap spaced (texts-said layout ts)

pub simple-said : (layout : Layout) (ts : List Token) (ss : List Spelling) → spellings layout ts ≡ ss → is_simple_phrase layout ts ≡ is_some (form_of ss)
simple-said layout ts ss e = ap is_some (form-said layout ts ∙ ap form_of e)
