-- The kinds of section, and the tokens that divide a text: this project's profile.
use Rattle.std.specs.Prelude.{ℕ, ◌==◌, ◌||◌, ◌&&◌, Bool}
use Rattle.le_layout.specs.declared.token.Kind.{Kind}
use Rattle.le_layout.specs.Words.{is_comma, is_stop}
use Rattle.le_docs.specs.declared.doc.SectionKind.{SectionKind}
use Rattle.le_docs.specs.declared.doc.SectionKind.TheVariants.{Target, Templates, Knowledge, Scenario, Query}

-- the place of a kind of section in the list of kinds
abbrev pub kind_number : SectionKind → ℕ
kind_number Target = 0
kind_number Templates = 1
kind_number Knowledge = 2
kind_number Scenario = 3
kind_number Query = 4

-- whether two sections hold the same
abbrev pub same_kind : SectionKind → SectionKind → Bool
same_kind a b = kind_number a == kind_number b

-- whether a token ends a sentence; a comma does so where the section holds templates
abbrev pub ends_sentence : Bool → Kind → Bool
ends_sentence commas kind = is_stop kind || (commas && is_comma kind)
