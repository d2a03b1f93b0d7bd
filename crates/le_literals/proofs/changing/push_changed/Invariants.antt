use Rattle.std.proofs.Common.{◌≡◌, ◌++◌, map, take}
use Rattle.le_proofs.specs.Goals.{literal_under}
use Rattle.le_literals.specs.Changing.{by_of}
use Rattle.le_literals.proofs.changing.push_changed.Given as goal

-- the literals so far stand changed after those that were there
abbrev pub invariant-loop-literal : goal.invariant-loop-literal
invariant-loop-literal l = l.changed.items ≡ l.initial.changed.items ++ map (literal_under (by_of l.change)) (take l.literal-index l.literals)
