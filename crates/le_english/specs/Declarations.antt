-- The templates of a document, as declarations make them: this project's profile.
use Rattle.std.specs.Prelude.{◌≡◌, Ok, List, [], ◌∷◌, ◌++◌}
use Rattle.le_layout.specs.declared.span.Span.{Span}
use Rattle.le_layout.specs.declared.layout.Layout.{Layout}
use Rattle.le_layout.specs.Layout.{IsLayout}
use Rattle.le_layout.specs.Words.{IsSpan}
use Rattle.le_templates.specs.declared.part.Template.{Template}
use Rattle.le_templates.specs.Table.{declaration}

-- some tokens of a layout declare this template after these
pub record IsDeclaredAfter (before : List Template) (t : Template) : Type 0 where
  pub layout : Layout
  pub tokens : Span
  pub valid : IsLayout layout
  pub within : IsSpan layout tokens
  pub declares : declaration before layout tokens ≡ Ok t

-- each of some templates is declared after these and those before it
abbrev pub AreDeclaredAfter : List Template → List Template → Type 0
AreDeclaredAfter before [] = Unit {0}
AreDeclaredAfter before (t ∷ ts) = IsDeclaredAfter before t × AreDeclaredAfter (before ++ t ∷ []) ts

-- The user's templates of a document: each is declared after those before it.
abbrev pub AreDeclared : List Template → Type 0
AreDeclared users = AreDeclaredAfter [] users
