use Rattle.std.proofs.Common.{[]}
use Rattle.le_unify.specs.Unifying.{equations_in}
use Rattle.le_unify.proofs.General.{general-result}
use Rattle.le_unify.proofs.unifying.unify_pairs.Goals as goal

pub returns-clause-general : goal.returns-clause-general
returns-clause-general c =
    general-result c.args.store.now c.solve-answer.new.store (equations_in c.args.store.now.now c.args.pairs.now.items []) c.solve-answer.result c.solve-answer.ensures.unified
