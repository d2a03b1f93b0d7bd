use Rattle.std.proofs.Common.{◌≡◌, ℕ, List, [], take, drop}
use Rattle.std.specs.BTreeSet.{contains_text}
use Rattle.le_docs.specs.Faults.{least_from}
use Rattle.le_docs.specs.Sections.{has_name, names_faults}
use Rattle.le_docs.proofs.dividing.with_name_faults.Given as goal

-- the set has the names so far, and the faults so far with those of what is left are all
abbrev pub invariant-loop-section : goal.invariant-loop-section
invariant-loop-section l = record {
  names : (q : List ℕ) → contains_text l.names q ≡ has_name l.kind q (take l.section-index l.sections);
  least : least_from l.least (names_faults l.layout l.kind (take l.section-index l.sections) (drop l.section-index l.sections)) ≡ least_from l.fn.least (names_faults l.layout l.kind [] l.sections);
}
