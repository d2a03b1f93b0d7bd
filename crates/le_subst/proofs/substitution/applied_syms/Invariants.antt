use Rattle.std.proofs.Common.{◌≡◌, ◌++◌, drop}
use Rattle.le_subst.specs.Symbols.{AreSymbols, images, map_image}
use Rattle.le_subst.proofs.substitution.applied_syms.Given as goal

-- what is replaced so far, with what is left replaced, is all of it replaced
abbrev pub invariant-loop-sym : goal.invariant-loop-sym
invariant-loop-sym l = record {
  all : l.new.items ++ images (map_image l.map.entries) (drop l.sym-index l.syms) ≡ images (map_image l.map.entries) l.syms;
  made : AreSymbols l.new.items;
  left : AreSymbols (drop l.sym-index l.syms);
}
