use Rattle.std.proofs.Common.{◌++◌, [], ◌∷◌, drop, sym, subst}
use Rattle.le_proofs.specs.declared.node.Node.TheVariants.{Dead}
use Rattle.le_proofs.specs.Search.{computing}
use Rattle.le_check.specs.Left.{FailsBy, TreeDone}
use Rattle.le_check.proofs.walking.dies.Goals as goal

pub returns-clause-means : goal.returns-clause-means
returns-clause-means g c = λ program nodes frames order whole line h.
    c.fails_by.ensures program nodes frames order whole (computing line c.args.atom) (c.in_ok-outcome.ensures.exact line)
    (subst (λ l. FailsBy (computing line c.args.atom) c.args.number (TreeDone program nodes frames l c.in_ok-more.more.found.items order (drop c.args.at nodes) whole) whole) (sym c.in_ok-more.ensures.nodes)
    (subst (λ f. FailsBy (computing line c.args.atom) c.args.number (TreeDone program nodes frames (c.args.grown.nodes.items ++ Dead ∷ []) f order (drop c.args.at nodes) whole) whole) (sym c.in_ok-more.ensures.found) h))
