use Rattle.std.proofs.Common.{◌≡◌, map, take}
use Rattle.le_terms.specs.Variables.{place_in}
use Rattle.le_derivations.specs.Numbers.{key, renamed_symbol}
use Rattle.le_derivations.proofs.changing.numbered_syms.Given as goal

-- the symbols so far are numbered
abbrev pub invariant-loop-sym : goal.invariant-loop-sym
invariant-loop-sym l = l.new.items ≡ map (renamed_symbol (λ v. place_in l.keys.keys (key l.width l.scope v))) (take l.sym-index l.syms)
