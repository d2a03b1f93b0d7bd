use Rattle.std.proofs.Common.{ap, Err}
use Rattle.le_tool.proofs.DocumentLemmas.{long_document}
use Rattle.le_tool.proofs.documents.read_document.Goals as goal

pub returns-in-Err-TooLong-clause-exact : goal.returns-in-Err-TooLong-clause-exact
returns-in-Err-TooLong-clause-exact g c =
    long_document _ _ _ (c.in-Err-TooLong.ensures.too_long (ap Err c.in-Err-TooLong.field-0-is)) (ap Err c.too_long.ensures)
