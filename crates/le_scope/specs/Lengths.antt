-- The lengths of the phrases that begin at a token: this project's profile.
use Rattle.std.specs.Prelude.{ℕ, zero, suc, ◌+◌, Bool, ◌&&◌, nat_le, min, if◌then◌else◌, List, [], ◌∷◌}
use Rattle.std.specs.Option.{is_some}
use Rattle.le_layout.specs.declared.token.Token.{Token}
use Rattle.le_layout.specs.declared.layout.Layout.{Layout}
use Rattle.le_layout.specs.Words.{is_quote, not_the_case, the_case}
use Rattle.le_scope.specs.declared.lengths.PhraseLengths.{PhraseLengths}
use Rattle.le_scope.specs.Simple.{is_plain, article, is_determiner, begins_with}
use Rattle.le_scope.specs.Lists.{is_open, first_row}

-- how many plain words stand at the front, one after another
abbrev pub plain_run : Layout → List Token → ℕ
plain_run layout [] = 0
plain_run layout (t ∷ ts) = if is_plain layout t then plain_run layout ts + 1 else 0

-- whether a number is one of the lengths
abbrev pub is_length : PhraseLengths → ℕ → Bool
is_length lengths n = nat_le lengths.least n && nat_le n lengths.most

-- the lengths from one number to another
abbrev pub lengths : ℕ → ℕ → PhraseLengths
lengths least most = record { least = least; most = most }

-- how many words a constant at the front of tokens has at most: fewer than the words that would open a negation or mark a block
abbrev pub most_words : Layout → List Token → ℕ
most_words layout ts =
    if begins_with layout ts the_case then 4
    else (if begins_with layout ts not_the_case then 5
    else 12)

-- The lengths of the phrases without brackets at the front of tokens, each number from a least to a greatest: one for a quoted text, after an article a name's words and the article, none for another determiner, and else a name's words.
unfoldable pub simple_lengths : Layout → List Token → PhraseLengths
simple_lengths layout [] = lengths 1 0
simple_lengths layout (t ∷ ts) =
    if is_quote t.kind then lengths 1 1
    else (if is_some (article layout t) then lengths 2 (min 12 (plain_run layout ts) + 1)
    else (if is_determiner layout t then lengths 1 0
    else lengths 1 (min (most_words layout (t ∷ ts)) (plain_run layout (t ∷ ts)))))

-- one length alone, or none where it is 0
abbrev pub one_length : ℕ → PhraseLengths
one_length zero = lengths 1 0
one_length (suc n) = lengths (suc n) (suc n)

-- The lengths of the phrases at the front of tokens, each number from a least to a greatest: at an opening bracket that of the list there alone, and else those of the phrases without brackets.
unfoldable pub phrase_lengths : Layout → List Token → PhraseLengths
phrase_lengths layout [] = lengths 1 0
phrase_lengths layout (t ∷ ts) =
    if is_open t.kind then one_length (first_row layout (t ∷ ts)).phrase
    else simple_lengths layout (t ∷ ts)

-- the lengths of the phrases at each token
abbrev pub lengths_from : Layout → List Token → List PhraseLengths
lengths_from layout [] = []
lengths_from layout (t ∷ ts) = phrase_lengths layout (t ∷ ts) ∷ lengths_from layout ts
