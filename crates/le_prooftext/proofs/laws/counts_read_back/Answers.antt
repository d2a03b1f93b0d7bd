use Rattle.std.proofs.Common.{ap, ◌∙◌, sym}
use Rattle.le_prooftext.specs.Reading.{count_of}
use Rattle.le_prooftext.proofs.Counts.{count_of-some, count_of-line}
use Rattle.le_prooftext.proofs.laws.counts_read_back.Goals as goal

pub returns : goal.returns
returns c = λ line n. (λ is. count_of-some line n is, λ spells. ap count_of (sym (spells.spelled)) ∙ count_of-line n spells.in_range)
