-- The last sentence that was said: this project's profile.
use Rattle.std.specs.Prelude.{◌≡◌, ℕ, List, Option, IfSome}
use Rattle.le_templates.specs.declared.part.Template.{Template}
use Rattle.le_english.specs.declared.said.Said.{Said}
use Rattle.le_english.specs.Explanations.{sentence_of}

-- the last atom that was said, where there is one, has this sentence by the templates and names
abbrev pub IsKnown : List Template → List (List ℕ) → Option Said → Type 0
IsKnown templates names last = IfSome last (λ said. said.text ≡ sentence_of templates names said.atom)
