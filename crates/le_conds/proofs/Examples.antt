-- Worked examples of items and of the places in a layout.
use Rattle.std.proofs.Common.{◌≡◌, ℕ, [], ◌∷◌, ◌==◌, Some, refl, codes}
use Rattle.le_layout.specs.declared.token.Kind.TheVariants as kinds
use Rattle.le_layout.specs.declared.token.Token.{Token}
use Rattle.le_layout.specs.declared.layout.Layout.{Layout}
use Rattle.le_layout.specs.Words.{has_word}
use Rattle.le_conds.specs.declared.item.Lead.TheVariants.{Plain, And}
use Rattle.le_conds.specs.Items.{span, is_bare, lead_of_line, lead_at, items_from, items_of}
use Rattle.le_conds.specs.Openers.{is_first, line_begin, indent, first_after, opens_marker, opens_negation, opens_for_all, ends_each}
use Rattle.le_conds.specs.Rules.{first_if}

token : ℕ → ℕ → ℕ → ℕ → Token
token from to line column = record { kind = kinds.Word; from = from; to = to; line = line; column = column }

-- `a if b and c`, and on a second line, two columns in, `and d`
rule : Layout
rule = record {
  text = codes "a if b and c\n  and d";
  tokens = token 0 1 1 1 ∷ token 2 4 1 3 ∷ token 5 6 1 6 ∷ token 7 10 1 8 ∷ token 11 12 1 12 ∷ token 15 18 2 3 ∷ token 19 20 2 7 ∷ [];
  lines = [];
}

-- the `if` is token 1, and the `and` within a line begins no item
where_if : first_if rule (span 0 7) ≡ 1
unfolding rule token
where_if = refl

two_items : items_of rule 2 7 ≡ record { lead = Plain; at = 2; content = span 2 5 } ∷ record { lead = And; at = 5; content = span 6 7 } ∷ []
unfolding rule token items_from lead_at lead_of_line is_first has_word opens_marker opens_negation opens_for_all is_bare first_after ends_each
two_items = refl

-- a line's indent is that of its first token
indents : indent rule 6 ≡ 2
unfolding rule token line_begin is_first
indents = refl

begins : indent rule 2 ≡ 0
unfolding rule token line_begin is_first
begins = refl

-- the place after the first that is so
places : first_after (λ k. k == 3) 1 5 ≡ Some 3
unfolding first_after
places = refl
