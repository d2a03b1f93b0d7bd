use Rattle.std.proofs.Common.{sym, ◌∙◌, rules}
use Rattle.le_check.proofs.Built.{arity-two}
use Rattle.le_check.proofs.tests.atom.Goals as goal

pub returns-clause-arity : goal.returns-clause-arity
returns-clause-arity c = (search rules, c.in_ok-pair.ensures.two ∙ sym (arity-two c.from.result))
