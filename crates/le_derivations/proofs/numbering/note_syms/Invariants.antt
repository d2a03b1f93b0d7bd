use Rattle.std.proofs.Common.{◌≡◌, drop, map}
use Rattle.le_terms.specs.Walks.{symbol_variables, all_noted}
use Rattle.le_derivations.specs.Numbers.{key}
use Rattle.le_derivations.proofs.numbering.note_syms.Given as goal

-- what is noted so far, with the keys that are left, is what all of them make
abbrev pub invariant-loop-sym : goal.invariant-loop-sym
invariant-loop-sym l = all_noted l.keys.keys (map (key l.width l.scope) (symbol_variables (drop l.sym-index l.syms))) ≡ all_noted l.fn.keys.keys (map (key l.width l.scope) (symbol_variables l.syms))
