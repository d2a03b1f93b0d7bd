use Rattle.std.proofs.Common.{◌≡◌, take}
use Rattle.le_proofs.specs.Goals.{literals_under}
use Rattle.le_clauses.specs.Numbers.{by_place}
use Rattle.le_clauses.proofs.numbering.literals_numbered.Given as goal

-- the literals so far are numbered
abbrev pub invariant-loop-literal : goal.invariant-loop-literal
invariant-loop-literal l = l.new.items ≡ literals_under (by_place l.vars) (take l.literal-index l.literals)
