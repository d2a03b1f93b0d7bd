use Rattle.le_builtins.proofs.SameTerms.{is_same-is}
use Rattle.le_check.proofs.comparing.same_term.Goals as goal

pub returns : goal.returns
returns c = is_same-is c.args.a.now c.args.b.now c.equals.result c.equals.ensures
