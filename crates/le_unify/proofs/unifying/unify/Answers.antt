use Rattle.std.proofs.Common.{rules, [], ◌∷◌}
use Rattle.le_store.specs.Shown.{term_of}
use Rattle.le_unify.proofs.General.{general-result}
use Rattle.le_unify.proofs.unifying.unify.Goals as goal

pub returns-clause-general : goal.returns-clause-general
returns-clause-general c =
    general-result c.args.store.now c.unify_pairs.new.store ((term_of c.args.store.now c.args.a, term_of c.args.store.now c.args.b) ∷ []) c.unify_pairs.result (search rules)
