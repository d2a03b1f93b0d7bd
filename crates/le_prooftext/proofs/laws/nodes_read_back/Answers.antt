use Rattle.std.proofs.Common.{ap, ◌∙◌, sym}
use Rattle.le_prooftext.specs.Laws.{SpellsNode}
use Rattle.le_prooftext.specs.Reading.{node_of}
use Rattle.le_prooftext.proofs.NodeLemmas.{node_of-spells, node_of-line}
use Rattle.le_prooftext.proofs.WordLemmas.{of_some}
use Rattle.le_prooftext.proofs.laws.nodes_read_back.Goals as goal

pub returns : goal.returns
returns c = λ line node. (
  λ is. of_some (SpellsNode line) (node_of line) node (node_of-spells line) is,
  λ spells. ap node_of (sym (spells.spelled)) ∙ node_of-line node spells.in_range,
)
