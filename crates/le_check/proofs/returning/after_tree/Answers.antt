use Rattle.std.proofs.Common.{◌∷◌, drop, subst}
use Rattle.le_check.specs.Left.{TreeDone}
use Rattle.le_check.proofs.returning.after_tree.Goals as goal

pub returns-in-Gather-clause-means : goal.returns-in-Gather-clause-means
returns-in-Gather-clause-means g c = λ frames order whole h.
    c.in_ok-gather_done-in-Gather.ensures.means c.args.program.now c.args.nodes.now frames order whole (drop c.args.at c.args.nodes.now)
    (subst (λ f. TreeDone c.args.program.now c.args.nodes.now (f ∷ frames) c.args.grown.nodes.items c.args.grown.found.items order (drop c.args.at c.args.nodes.now) whole) c.in-Gather.is h)
