use Rattle.le_conds.proofs.StepLemmas.{level_found}
use Rattle.le_conds.proofs.shape.level_fault.Goals as goal

pub returns : goal.returns
returns c = λ ms same. level_found ms c.args.members.now _ c.args.least c.members_fault.result same c.if-count-lt2.false c.members_fault.ensures
