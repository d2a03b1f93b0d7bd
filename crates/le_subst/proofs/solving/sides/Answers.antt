use Rattle.std.proofs.Common.{◌++◌, ◌∙◌, ap, sym, subst}
use Rattle.le_terms.specs.Tree.{flat}
use Rattle.le_subst.specs.Symbols.{lefts, rights, AreSymbols}
use Rattle.le_subst.proofs.SideLists.{lefts-more, rights-more, lefts-all, rights-all}
use Rattle.le_subst.proofs.SymbolLists.{AreSymbols-append, AreSymbols-flat, AreSides-made, equations_of-same}
use Rattle.le_subst.proofs.solving.sides.Goals as goal

pub loop-equation-preserved : goal.loop-equation-preserved
loop-equation-preserved c =
    let equations = c.args.equations.now in
    let i = c.loop-equation.equation-index in
    let equation = c.equation-item.result in
    record {
      left = lefts-more equations i equation c.loop-equation.left.items c.extend_from_slice.new.self.items c.as_syms.result.now (lefts equations)
          c.loop-equation-test.true c.equation-item.is c.loop-equation.invariant.left c.in_ok-extend_from_slice.ensures.items c.as_syms.ensures.symbols;
      right = rights-more equations i equation c.loop-equation.right.items c.extend_from_slice-in-loop-equation.new.self.items c.as_syms-in-loop-equation.result.now (rights equations)
          c.loop-equation-test.true c.equation-item.is c.loop-equation.invariant.right c.in_ok-extend_from_slice-2.ensures.items c.as_syms-in-loop-equation.ensures.symbols;
      left_symbols = subst AreSymbols (sym (c.in_ok-extend_from_slice.ensures.items ∙ ap (λ symbols. c.loop-equation.left.items ++ symbols) c.as_syms.ensures.symbols))
          (AreSymbols-append c.loop-equation.left.items (flat equation.0) c.loop-equation.invariant.left_symbols (AreSymbols-flat equation.0 c.as_syms.ensures.in_range));
      right_symbols = subst AreSymbols (sym (c.in_ok-extend_from_slice-2.ensures.items ∙ ap (λ symbols. c.loop-equation.right.items ++ symbols) c.as_syms-in-loop-equation.ensures.symbols))
          (AreSymbols-append c.loop-equation.right.items (flat equation.1) c.loop-equation.invariant.right_symbols (AreSymbols-flat equation.1 c.as_syms-in-loop-equation.ensures.in_range));
    }

pub returns-clause-sides : goal.returns-clause-sides
returns-clause-sides c =
    let equations = c.args.equations.now in
    let i = c.loop-equation.equation-index in
    AreSides-made equations c.loop-equation.left.items c.loop-equation.right.items
    (lefts-all equations i c.loop-equation.left.items (lefts equations) c.loop-equation-test.false c.loop-equation.invariant.left)
    (rights-all equations i c.loop-equation.right.items (rights equations) c.loop-equation-test.false c.loop-equation.invariant.right)
    c.loop-equation.invariant.left_symbols c.loop-equation.invariant.right_symbols

pub returns-clause-equations : goal.returns-clause-equations
returns-clause-equations c =
    let equations = c.args.equations.now in
    let i = c.loop-equation.equation-index in
    equations_of-same equations c.loop-equation.left.items c.loop-equation.right.items
    (lefts-all equations i c.loop-equation.left.items (lefts equations) c.loop-equation-test.false c.loop-equation.invariant.left)
    (rights-all equations i c.loop-equation.right.items (rights equations) c.loop-equation-test.false c.loop-equation.invariant.right)
