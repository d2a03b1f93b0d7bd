use Rattle.std.proofs.Common.{◌≡◌, drop}
use Rattle.le_terms.specs.Walks.{all_noted}
use Rattle.le_derivations.specs.Numbers.{keys_of}
use Rattle.le_derivations.proofs.numbering.note_terms.Given as goal

-- what is noted so far, with the keys of the terms that are left, is what all of them make
abbrev pub invariant-loop-term : goal.invariant-loop-term
invariant-loop-term l = all_noted l.keys.keys (keys_of l.width l.scope (drop l.term-index l.terms)) ≡ all_noted l.fn.keys.keys (keys_of l.width l.scope l.terms)
