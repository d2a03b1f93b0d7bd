-- What the walks over a sentence's tokens find; callers don't need it.
use Rattle.std.specs.Prelude.{◌≡◌, ℕ, ◌+◌, ◌-◌, ◌<◌, ◌≤◌, nat_lt, Bool, true, false, ◌||◌, if◌then◌else◌, Option, Some, None, List, [], ◌∷◌, ◌++◌, length, map, take, drop}
use Rattle.le_layout.specs.declared.token.Token.{Token}
use Rattle.le_layout.specs.declared.layout.Layout.{Layout}
use Rattle.le_layout.specs.Words.{is_this_word}
use Rattle.le_templates.specs.declared.part.Part.{Part}
use Rattle.le_templates.specs.declared.part.Part.TheVariants.{Word, Slot}
use Rattle.le_templates.specs.declared.part.Template.{Template}
use Rattle.le_templates.specs.Table.{table_of}
use Rattle.le_layout.specs.Words.{IsSpan, IsSomeSpan, tokens_of, token_of}
use Rattle.le_match.specs.declared.sharing.Place.{Place}
use Rattle.le_match.specs.declared.sharing.Place.TheVariants as place
use Rattle.le_match.specs.Shares.{Share, word, phrase}
use Rattle.le_match.specs.Shown.{Piece, glues, text_from}
use Rattle.le_match.specs.declared.shown.Line.{Line}
use Rattle.le_scope.specs.Scopes.{ScopeState, first_names}
use Rattle.le_match.specs.declared.readings.Reading.{Reading}
use Rattle.le_match.specs.declared.choosing.Sentence.{Sentence}
use Rattle.le_match.specs.declared.choosing.Found.{Found}
use Rattle.le_match.specs.declared.marked.Taken.{Taken}
use Rattle.le_match.specs.declared.marked.Taken.TheVariants as taken
use Rattle.le_scope.specs.Lengths.{lengths_from}
use Rattle.le_scope.specs.declared.parts.ListPart.{ListPart}
use Rattle.le_scope.specs.declared.parts.ListPart.TheVariants.{Cell, End, Item}
use Rattle.le_terms.specs.Tree.{IsTerm}
use Rattle.le_terms.specs.declared.term.Sym.{Sym}
use Rattle.le_terms.specs.declared.term.Sym.TheVariants.{Nil, Cons}
use Rattle.le_match.specs.Readings.{marked_length, marked_cuts, is_marked, readings_by, readings_from, most_words, best_readings}

-- what stands after the first token that is this word
abbrev pub behind_word : Layout → List ℕ → List Token → Option (List Token)
behind_word layout w [] = None
behind_word layout w (t ∷ ts) = if is_this_word layout w t then Some ts else behind_word layout w ts

-- what stands after the first token, or after the first that is the part's word
abbrev pub behind_part : Layout → Part → List Token → Option (List Token)
behind_part layout (Word w) ts = behind_word layout w ts
behind_part layout (Slot s) [] = None
behind_part layout (Slot s) (t ∷ ts) = Some ts

-- whether a template's words stand among the tokens in order, with a token for each slot
abbrev pub may_fit : Layout → List Part → List Token → Bool
may_fit layout [] ts = true
may_fit layout (part ∷ parts) ts =
    elim (behind_part layout part ts) [
      | Some rest ↦ may_fit layout parts rest
      | None ↦ false
    ]

-- a slot of this length, or nothing
abbrev pub slot_taken : Option ℕ → Taken
slot_taken (Some n) = taken.Slot n
slot_taken None = taken.Nothing

-- what a part takes of the next tokens of a marked sentence
abbrev pub taken_by : Layout → Part → List Token → Taken
taken_by layout (Word w) [] = taken.Nothing
taken_by layout (Word w) (t ∷ ts) = if is_this_word layout w t then taken.Word else taken.Nothing
taken_by layout (Slot s) ts = slot_taken (marked_length layout ts)

-- how many tokens a part takes, its asterisks among them
abbrev pub taken_count : Taken → ℕ
taken_count taken.Nothing = 0
taken_count taken.Word = 1
taken_count (taken.Slot n) = n + 2

-- the ways to share out the tokens after those that a part takes
abbrev pub marked_behind : Layout → List Part → List Token → Taken → List (List ℕ)
marked_behind layout parts ts taken.Nothing = []
marked_behind layout parts ts taken.Word = marked_cuts layout parts (drop 1 ts)
marked_behind layout parts ts (taken.Slot n) = map (λ ns. n ∷ ns) (marked_cuts layout parts (drop (n + 2) ts))

-- what is kept of a sentence
pub record IsSentence (layout : Layout) (s : Sentence) : Type 0 where
  pub within : IsSpan layout s.tokens
  pub marked : s.marked ≡ is_marked (tokens_of layout s.tokens)
  pub phrases : s.phrases.items ≡ lengths_from layout (tokens_of layout s.tokens)

-- the readings by the templates with numbers below this one
abbrev pub readings_before : List Template → Layout → List Token → ℕ → List Reading
readings_before users layout ts n = readings_from users layout ts 0 (take n (table_of users))

-- what is found is the first two of the best of some readings, and how many words their template has
pub record IsBestOf (users : List Template) (rs : List Reading) (found : Found) : Type 0 where
  pub most : found.most ≡ most_words users rs
  pub readings : found.readings.items ≡ take 2 (best_readings users rs)

-- the most words, with those of a template that has some ways and no fewer words
abbrev pub most_with : ℕ → List (List ℕ) → ℕ → ℕ
most_with words [] most = most
most_with words (w ∷ ways) most = words

-- the first two of the best readings, with those of a template that has no fewer words
abbrev pub readings_with : ℕ → ℕ → List (List ℕ) → ℕ → List Reading → List Reading
readings_with pred words [] most found = found
readings_with pred words (w ∷ ways) most found = take 2 ((if nat_lt most words then [] else found) ++ readings_by pred (w ∷ ways))

-- names with at most one more after them
pub record IsLonger (before after : List (List ℕ)) : Type 0 where
  pub front : take (length before) after ≡ before
  pub few : length after ≤ length before + 1

-- names with at most so many more after them
pub record IsLongerBy (most : ℕ) (before after : List (List ℕ)) : Type 0 where
  pub front : take (length before) after ≡ before
  pub few : length after ≤ length before + most

-- a scope with names after those before, of which the same is noted
pub record IsLongerScope (before after : ScopeState) : Type 0 where
  pub front : first_names after (length before.names) ≡ first_names before (length before.names)

-- a part's share as it is seen by contracts
abbrev pub share_of : Layout → Place → Share
share_of layout (place.Word at) = word (token_of layout at)
share_of layout (place.Slot span) = phrase (tokens_of layout span)

-- a part's share lies among the tokens
abbrev pub IsPlace : Layout → Place → Type 0
IsPlace layout (place.Word at) = at < length layout.tokens
IsPlace layout (place.Slot span) = IsSomeSpan layout span

-- how many tokens a part's share has
abbrev pub place_size : Place → ℕ
place_size (place.Word at) = 1
place_size (place.Slot span) = span.to - span.from

-- how many tokens the shares of some parts have
abbrev pub total_size : List Place → ℕ
total_size [] = 0
total_size (p ∷ ps) = place_size p + total_size ps

-- the symbols of a part of a list: a cell, the empty list, or a term
abbrev pub IsPartSpelled : ListPart → List Sym → Type 0
IsPartSpelled Cell symbols = symbols ≡ Cons ∷ []
IsPartSpelled End symbols = symbols ≡ Nil ∷ []
IsPartSpelled (Item span) symbols = IsTerm symbols

-- symbols are those of some parts of a list, one part after another
abbrev pub AreSpelled : List ListPart → List Sym → Type 0
AreSpelled [] symbols = symbols ≡ []
AreSpelled (p ∷ ps) symbols = (front : List Sym) × (back : List Sym) × (symbols ≡ front ++ back) × IsPartSpelled p front × AreSpelled ps back

-- whether no space stands after pieces
abbrev pub glued_after : Bool → List Piece → Bool
glued_after glued [] = glued
glued_after glued (p ∷ ps) = glued_after (glues p) ps

-- the space before a text, unless none stands before or after
abbrev pub space : Bool → Bool → List ℕ
space glued hugs = if glued || hugs then [] else 32 ∷ []

-- a line with pieces after those before
pub record Writes (layout : Layout) (before after : Line) (pieces : List Piece) : Type 0 where
  pub text : after.text ≡ before.text ++ text_from layout before.glued pieces
  pub glued : after.glued ≡ glued_after before.glued pieces
