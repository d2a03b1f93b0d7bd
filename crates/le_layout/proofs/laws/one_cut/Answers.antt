use Rattle.le_layout.specs.Pieces.{pieces_of}
use Rattle.le_layout.proofs.CutLemmas.{cuts-pieces_of, one_cut_lem, cut_chars}
use Rattle.le_layout.proofs.laws.one_cut.Goals as goal

pub returns-clause-is_cut : goal.returns-clause-is_cut
returns-clause-is_cut c = cuts-pieces_of

pub returns-clause-one : goal.returns-clause-one
returns-clause-one c = one_cut_lem

pub returns-clause-whole : goal.returns-clause-whole
returns-clause-whole c = λ line. cut_chars line (pieces_of line) (cuts-pieces_of line)
