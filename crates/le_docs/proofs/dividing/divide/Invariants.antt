use Rattle.std.proofs.Common.{◌≡◌, ◌++◌, drop, length}
use Rattle.std.specs.List.{All}
use Rattle.le_docs.specs.Bounds.{IsSectionOver}
use Rattle.le_docs.specs.Faults.{least_from}
use Rattle.le_docs.specs.Sections.{sections_under, faults_under}
use Rattle.le_docs.proofs.dividing.divide.Given as goal

-- the sections so far and those of what is left are all, and the faults likewise
abbrev pub invariant-loop-k : goal.invariant-loop-k
invariant-loop-k l = record {
  within : All (IsSectionOver (length l.layout.tokens)) l.sections.items;
  sections : l.sections.items ++ sections_under l.layout (drop l.k l.heads) ≡ sections_under l.layout l.heads;
  least : least_from l.least (faults_under l.layout (drop l.k l.heads)) ≡ least_from l.fn.least (faults_under l.layout l.heads);
}
