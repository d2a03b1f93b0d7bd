use Rattle.le_match.proofs.FitsLemmas.{ways_fit}
use Rattle.le_match.proofs.MarkedWays.{ways_fit_marks, ways_whole_marks}
use Rattle.le_match.proofs.WholeLemmas.{ways_whole}
use Rattle.le_match.proofs.OrderLemmas.{ways_order, ways_marked}
use Rattle.le_match.proofs.laws.every_way.Goals as goal

pub returns : goal.returns
returns c = record { fit = ways_fit; whole = ways_whole; order = ways_order; marked = ways_marked; marked_fit = ways_fit_marks; marked_whole = ways_whole_marks }
