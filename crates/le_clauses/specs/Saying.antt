-- That the programs of documents can be said: this project's profile.
use Rattle.std.specs.Prelude.{◌≡◌, ℕ, Option, Ok, List}
use Rattle.le_layout.specs.declared.layout.Layout.{Layout}
use Rattle.le_layout.specs.Layout.{IsLayout}
use Rattle.le_docs.specs.declared.doc.Doc.{Doc}
use Rattle.le_terms.specs.declared.program.Program.{Program}
use Rattle.le_match.specs.Sayable.{IsProgramToSay}
use Rattle.le_clauses.specs.declared.whole.Whole.{Whole}
use Rattle.le_clauses.specs.Pieces.{program_of}
use Rattle.le_clauses.specs.Selection.{selected}

-- Every program that is selected from a document can be said.
abbrev pub ProgramsCanBeSaid : Type 0
ProgramsCanBeSaid =
    (layout : Layout) (doc : Doc) (whole : Whole) (scenario : Option (List ℕ)) (query : List ℕ) (program : Program)
    → IsLayout layout → program_of layout doc ≡ Ok whole → selected whole scenario query ≡ Ok program
    → IsProgramToSay whole.templates whole.names program
