use Rattle.std.proofs.Common.{rules}
use Rattle.le_builtins.proofs.Floors.{IsFloor-is}
use Rattle.le_builtins.proofs.arithmetic.floor_quotient.Goals as goal

pub returns-then-y-gt0-clause-floor : goal.returns-then-y-gt0-clause-floor
returns-then-y-gt0-clause-floor c = IsFloor-is c.args.x c.args.y _ c.requires.not_zero (search rules)

pub returns-else-y-gt0-clause-floor : goal.returns-else-y-gt0-clause-floor
returns-else-y-gt0-clause-floor c = IsFloor-is c.args.x c.args.y _ c.requires.not_zero (search rules)
