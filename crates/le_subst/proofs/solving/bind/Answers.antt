use Rattle.std.proofs.Common.{◌≡◌, ◌∙◌, refl, ap, sym}
use Rattle.le_terms.specs.Tree.{tree_of}
use Rattle.le_subst.specs.Solution.{with_replaced}
use Rattle.le_subst.specs.Symbols.{AreSides, equations_of}
use Rattle.le_subst.proofs.SymbolLists.{replaced_sides}
use Rattle.le_subst.proofs.solving.bind.Goals as goal

pub returns : goal.returns
returns c =
    let term = c.args.term.now in
    let new_left = c.in_ok-new_left.new_left.items in
    let new_right = c.in_ok-new_right.new_right.items in
    let sides : AreSides new_left new_right × (equations_of new_left new_right ≡ with_replaced c.args.var (tree_of term) (equations_of c.args.left.now c.args.right.now)) =
    replaced_sides c.args.var term c.args.left.now c.args.right.now new_left new_right c.requires.term c.requires.sides c.in_ok-new_left.ensures c.in_ok-new_right.ensures in (
      sym (c.is_among.ensures (tree_of term) (sym c.requires.term.whole)) ∙ c.if-is_among.false,
      refl,
      c.from_syms.ensures.term ∙ ap tree_of c.in_ok-from_slice.ensures.items,
      sides.0,
      sides.1,
    )
