-- What a token says, wherever it stands: its kind and its text. This project's profile.
use Rattle.std.specs.Prelude.{ℕ, List, map}
use Rattle.le_layout.specs.declared.token.Kind.{Kind}
use Rattle.le_layout.specs.declared.token.Token.{Token}
use Rattle.le_layout.specs.declared.layout.Layout.{Layout}
use Rattle.le_layout.specs.Words.{text_of}
use Rattle.le_layout.specs.Written.{IsWrittenAs}

-- the kind and the text of a token
pub record Spelling : Type 0 where
  pub kind : Kind
  pub text : List ℕ

abbrev pub spelling_of : Layout → Token → Spelling
spelling_of layout t = record { kind = t.kind; text = text_of layout t }

-- those of several tokens
abbrev pub spellings : Layout → List Token → List Spelling
spellings layout ts = map (spelling_of layout) ts

-- a text that a token of this kind has
abbrev pub IsWritten : Spelling → Type 0
IsWritten s = IsWrittenAs s.kind s.text
