use Rattle.std.proofs.Common.{◌≡◌, ◌+◌, drop}
use Rattle.le_clauses.specs.Groups.{number_in}
use Rattle.le_clauses.proofs.numbering.place.Given as goal

-- the place so far with that of what is left is the place among all
abbrev pub invariant-loop-other : goal.invariant-loop-other
invariant-loop-other l = record {
  all : l.place + number_in (drop l.other-index l.vars) l.var ≡ number_in l.vars l.var;
  here : l.place ≡ l.other-index;
}
