-- What contracts see of a document as it was read.
use Rattle.std.specs.Prelude.{◌≡◌, ℕ, List, IfOk}
use Rattle.le_tool.specs.declared.documents.Reading.{Reading}
use Rattle.le_tool.specs.Documents.{document_of}

-- What was read of these bytes is the document that they are, or its refusal, and the bytes where it is accepted.
pub record IsReading (reading : Reading) (bytes : List ℕ) : Type 0 where
  pub document : reading.document ≡ document_of bytes
  pub bytes_ : IfOk reading.document (λ whole. reading.bytes.items ≡ bytes)
