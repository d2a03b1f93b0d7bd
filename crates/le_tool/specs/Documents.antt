-- The document of some bytes: this project's profile.
use Rattle.std.specs.Prelude.{ℕ, nat_lt, if◌then◌else◌, List, length, Result, Ok, Err}
use Rattle.le_base.specs.declared.code.Code.TheVariants.{TooLong}
use Rattle.le_base.specs.declared.stop.Refusal.{Refusal}
use Rattle.le_base.specs.Stop.{refusal_at}
use Rattle.le_layout.specs.declared.layout.Layout.{Layout}
use Rattle.le_layout.specs.Layout.{layout_of}
use Rattle.le_docs.specs.declared.doc.Doc.{Doc}
use Rattle.le_docs.specs.Sections.{sections_of}
use Rattle.le_clauses.specs.declared.whole.Whole.{Whole}
use Rattle.le_clauses.specs.Pieces.{program_of}

-- the most bytes of a document
abbrev pub most_bytes : ℕ
most_bytes = 1048576

-- the document of some sections
abbrev pub whole_of_sections : Layout → Result Doc Refusal → Result Whole Refusal
whole_of_sections layout (Err refusal) = Err refusal
whole_of_sections layout (Ok doc) = program_of layout doc

-- the document of a layout
abbrev pub whole_of_layout : Result Layout Refusal → Result Whole Refusal
whole_of_layout (Err refusal) = Err refusal
whole_of_layout (Ok layout) = whole_of_sections layout (sections_of layout)

-- The document that some bytes are, where so many of them count for the limit: they are cut into tokens, then into sections, and then the templates and sentences are read, or the first refusal.
unfoldable pub document_by : ℕ → List ℕ → Result Whole Refusal
document_by count bytes = if nat_lt most_bytes count then Err (refusal_at TooLong 0 0) else whole_of_layout (layout_of bytes)

-- the document that some bytes are
abbrev pub document_of : List ℕ → Result Whole Refusal
document_of bytes = document_by (length bytes) bytes
