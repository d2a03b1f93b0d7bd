-- How a reading is shown, as a marked sentence: this project's profile.
use Rattle.std.specs.Prelude.{ℕ, Bool, true, false, ◌||◌, if◌then◌else◌, List, [], ◌∷◌, ◌++◌, map, flat_map, codes}
use Rattle.le_layout.specs.declared.token.Kind.{Kind}
use Rattle.le_layout.specs.declared.token.Kind.TheVariants as kinds
use Rattle.le_layout.specs.declared.token.Token.{Token}
use Rattle.le_layout.specs.declared.layout.Layout.{Layout}
use Rattle.le_layout.specs.Words.{text_of, is_quote}
use Rattle.le_templates.specs.declared.part.Template.{Template}
use Rattle.le_match.specs.declared.readings.Reading.{Reading}
use Rattle.le_match.specs.Shares.{Share, word, phrase, shares_of}

-- what a marked sentence is made of: the asterisks around slots, and tokens
pub data Piece : Type 0 where
  opening : Piece
  closing : Piece
  plain : Token → Piece

-- the pieces of what a part takes: a slot's phrase stands between asterisks
abbrev pub share_pieces : Share → List Piece
share_pieces (word t) = plain t ∷ []
share_pieces (phrase ts) = opening ∷ (map plain ts ++ closing ∷ [])

-- the text of a piece: a token as it is spelled, a quoted text with its quotation marks
abbrev pub piece_text : Layout → Piece → List ℕ
piece_text layout opening = codes "*"
piece_text layout closing = codes "*"
piece_text layout (plain t) = if is_quote t.kind then 34 ∷ text_of layout t ++ 34 ∷ [] else text_of layout t

-- after which tokens no space stands
abbrev pub is_open : Kind → Bool
is_open kinds.Open = true
is_open _ = false

-- before which tokens no space stands
abbrev pub is_close : Kind → Bool
is_close kinds.Close = true
is_close kinds.Comma = true
is_close _ = false

-- No space stands after an opening asterisk and `[`.
abbrev pub glues : Piece → Bool
glues opening = true
glues closing = false
glues (plain t) = is_open t.kind

-- No space stands before a closing asterisk, `]` and a comma.
abbrev pub hugs : Piece → Bool
hugs opening = false
hugs closing = true
hugs (plain t) = is_close t.kind

-- the space before a piece, where the flag says that none stands after what goes before
abbrev pub gap : Bool → Piece → List ℕ
gap glued p = if glued || hugs p then [] else 32 ∷ []

-- the text of pieces, one space between them where one stands
abbrev pub text_from : Layout → Bool → List Piece → List ℕ
text_from layout glued [] = []
text_from layout glued (p ∷ ps) = gap glued p ++ piece_text layout p ++ text_from layout (glues p) ps

-- A reading is shown as its marked sentence: the sentence's own tokens, with its slots between asterisks.
unfoldable pub shown : List Template → Layout → List Token → Reading → List ℕ
shown users layout ts r = text_from layout true (flat_map share_pieces (shares_of users ts r))
