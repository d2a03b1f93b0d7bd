use Rattle.std.proofs.Common.{◌∷◌, ◌++◌, sym, ap, ◌∙◌}
use Rattle.std.specs.Prelude.{slice_set}
use Rattle.le_proofs.specs.declared.node.Node.TheVariants.{Split}
use Rattle.le_cells.proofs.UnderWay.{set-there}
use Rattle.le_cells.proofs.returning.count_children.Goals as goal

pub returns-then-split-len-clause-nodes : goal.returns-then-split-len-clause-nodes
returns-then-split-len-clause-nodes c = λ keeps front shown behind same long.
    ap (λ ns. slice_set ns c.args.split (Split c.args.children)) same
    ∙ (ap (λ n. slice_set (front ++ (shown ∷ behind)) n (Split c.args.children)) (sym long) ∙ set-there front shown (Split c.args.children) behind)
