use Rattle.le_english.proofs.TermLemmas.{term-back}
use Rattle.le_english.proofs.laws.term_reads_back.Goals as goal

pub returns : goal.returns
returns c = term-back
