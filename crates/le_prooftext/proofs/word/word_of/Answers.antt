use Rattle.std.proofs.Common.{sym, ap, ◌∙◌}
use Rattle.std.proofs.lemmas.List.{nil_from_length}
use Rattle.le_prooftext.specs.Reading.{word_of}
use Rattle.le_prooftext.proofs.WordLemmas.{word_of-empty}
use Rattle.le_prooftext.proofs.word.word_of.Goals as goal

pub returns-in_default-split_first : goal.returns-in_default-split_first
returns-in_default-split_first c =
    sym (ap word_of (nil_from_length _ c.in_default-split_first.ensures.cases) ∙ word_of-empty)
