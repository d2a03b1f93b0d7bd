use Rattle.std.proofs.Common.{◌++◌, [], ◌∷◌, drop, sym, subst}
use Rattle.le_proofs.specs.declared.node.Node.TheVariants.{Computed}
use Rattle.le_proofs.specs.Search.{computing}
use Rattle.le_check.specs.Left.{TreePast, TreeDone}
use Rattle.le_check.proofs.walking.computes.Goals as goal

pub returns-clause-means : goal.returns-clause-means
returns-clause-means g c = λ program nodes frames order whole line h.
    c.in_ok-turn.ensures program nodes frames order whole (computing line c.args.atom) (c.in_ok-outcome.ensures.exact line)
    (subst (λ l. TreePast program nodes (TreeDone program nodes frames) c.args.walk c.args.place c.args.number l c.in_ok-more.more.found.items order (drop c.args.at nodes) (computing line c.args.atom) whole) (sym c.in_ok-more.ensures.nodes)
    (subst (λ f. TreePast program nodes (TreeDone program nodes frames) c.args.walk c.args.place c.args.number (c.args.grown.nodes.items ++ Computed ∷ []) f order (drop c.args.at nodes) (computing line c.args.atom) whole) (sym c.in_ok-more.ensures.found) h))
