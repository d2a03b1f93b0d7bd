use Rattle.std.proofs.Common.{◌≡◌, ◌++◌, drop}
use Rattle.le_subst.specs.Symbols.{images, one_image}
use Rattle.le_subst.proofs.symbols.replace.Given as goal

-- what is replaced so far, with what is left replaced, is all of it replaced
abbrev pub invariant-loop-sym : goal.invariant-loop-sym
invariant-loop-sym l = l.new.items ++ images (one_image l.var l.term) (drop l.sym-index l.syms) ≡ images (one_image l.var l.term) l.syms
