use Rattle.std.proofs.Common.{drop, sym, subst}
use Rattle.le_check.specs.Left.{TreeOn, TreeDone, tree_below}
use Rattle.le_check.proofs.walking.past.Goals as goal

pub returns : goal.returns
returns c = λ program nodes frames order whole number h.
    subst (λ g. TreeOn (TreeDone program nodes frames) c.args.grown.nodes.items c.args.grown.found.items order (tree_below program nodes c.args.walk.fuel c.args.walk.failed g (drop c.args.at nodes)) whole) (sym (c.in_ok-goal.ensures h.0)) h.1
