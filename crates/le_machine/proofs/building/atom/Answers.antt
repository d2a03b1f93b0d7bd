use Rattle.std.proofs.Common.{◌+◌, ◌<◌, rules}
use Rattle.le_machine.proofs.Built.{arity-two, pair-arity}
use Rattle.le_machine.proofs.building.atom.Goals as goal

pub returns-clause-arity : goal.returns-clause-arity
returns-clause-arity c =
    let low : 20 + c.from.result < 28 = search rules in
    pair-arity (20 + c.from.result) c.pair.result low (arity-two c.from.result) c.pair.ensures.pred c.pair.ensures.two
