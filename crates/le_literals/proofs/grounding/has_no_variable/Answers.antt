use Rattle.le_terms.specs.Variables.{occurrences}
use Rattle.le_literals.proofs.Walks.{ground-is}
use Rattle.le_literals.proofs.grounding.has_no_variable.Goals as goal

pub returns : goal.returns
returns c = ground-is c.is_ground.result (occurrences c.args.term.now) c.is_ground.ensures
