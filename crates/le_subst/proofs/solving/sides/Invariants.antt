use Rattle.std.proofs.Common.{◌≡◌, ◌++◌, drop}
use Rattle.le_subst.specs.Symbols.{lefts, rights, AreSymbols}
use Rattle.le_subst.proofs.solving.sides.Given as goal

-- the symbols so far, with those of the equations that are left, are those of all equations
abbrev pub invariant-loop-equation : goal.invariant-loop-equation
invariant-loop-equation l = record {
  left : l.left.items ++ lefts (drop l.equation-index l.equations) ≡ lefts l.equations;
  right : l.right.items ++ rights (drop l.equation-index l.equations) ≡ rights l.equations;
  left_symbols : AreSymbols l.left.items;
  right_symbols : AreSymbols l.right.items;
}
