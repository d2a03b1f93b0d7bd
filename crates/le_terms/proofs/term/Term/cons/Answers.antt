use Rattle.std.proofs.Common.{◌≡◌, ◌∙◌, ap}
use Rattle.le_terms.specs.Tree.{IsTerm-flat, tree_of, tree_of-flat, flat, cell}
use Rattle.le_terms.proofs.term.Term.cons.Goals as goal

pub invariant_of-result : goal.invariant_of-result
invariant_of-result c =
    let same : c.in_ok-syms.syms.items ≡ flat (cell c.args.head.now c.args.tail.now) = cc (c.in_ok-syms.ensures, c.as_syms.ensures.symbols, c.as_syms-2.ensures.symbols) in
    IsTerm-flat (cell c.args.head.now c.args.tail.now) c.in_ok-syms.syms.items same (c.as_syms.ensures.in_range, c.as_syms-2.ensures.in_range)

pub returns : goal.returns
returns c =
    let same : c.in_ok-syms.syms.items ≡ flat (cell c.args.head.now c.args.tail.now) = cc (c.in_ok-syms.ensures, c.as_syms.ensures.symbols, c.as_syms-2.ensures.symbols) in
    ap tree_of same ∙ tree_of-flat (cell c.args.head.now c.args.tail.now)
