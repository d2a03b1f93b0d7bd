use Rattle.le_conds.proofs.BlockLaws.{found_by_rules}
use Rattle.le_conds.proofs.TreeLaws.{rules_found}
use Rattle.le_conds.proofs.Matched.{entries_matched}
use Rattle.le_conds.proofs.laws.one_tree.Goals as goal

pub returns-clause-found : goal.returns-clause-found
returns-clause-found c = found_by_rules

pub returns-clause-rules : goal.returns-clause-rules
returns-clause-rules c = rules_found

pub returns-clause-matched : goal.returns-clause-matched
returns-clause-matched c = entries_matched
