use Rattle.le_layout.proofs.ScanLemmas.{written_tokens_lem}
use Rattle.le_layout.proofs.laws.written_tokens.Goals as goal

pub returns : goal.returns
returns c = written_tokens_lem
