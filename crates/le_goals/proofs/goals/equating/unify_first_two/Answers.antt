use Rattle.std.proofs.Common.{List, Bool, subst}
use Rattle.std.proofs.lemmas.Result.{IfOk-weaker}
use Rattle.le_terms.specs.Tree.{Tree}
use Rattle.le_builtins.specs.Compute.{argument}
use Rattle.le_proofs.specs.Goals.{terms_under}
use Rattle.le_goals.specs.Frames.{cell_term}
use Rattle.le_goals.specs.Equations.{IsCellOf}
use Rattle.le_goals.proofs.Pairings.{terms-later}
use Rattle.le_goals.proofs.Equated.{unified-pair}
use Rattle.le_goals.proofs.goals.equating.unify_first_two.Goals as goal

pub returns-clause-unified : goal.returns-clause-unified
returns-clause-unified c =
    let second : IsCellOf c.build_argument-2.new.store (argument (terms_under (cell_term c.args.store.now.now c.args.base) c.args.args.now) 1) c.in_ok-second.second =
    subst (λ (ts : List Tree). IsCellOf c.build_argument-2.new.store (argument ts 1) c.in_ok-second.second) (terms-later c.args.store.now c.build_argument.new.store c.build_argument.ensures.extends c.args.base c.args.args.now c.requires) c.in_ok-second.ensures.cell in
    IfOk-weaker c.unify.result _ _
    (λ (equal : Bool) made. unified-pair c.args.store.now c.build_argument.new.store c.build_argument-2.new.store c.unify.new.store c.build_argument.ensures.extends c.build_argument-2.ensures.extends
    (argument (terms_under (cell_term c.args.store.now.now c.args.base) c.args.args.now) 0) (argument (terms_under (cell_term c.args.store.now.now c.args.base) c.args.args.now) 1)
    c.in_ok-first.first c.in_ok-second.second c.in_ok-first.ensures.cell second c.unify.ensures.same equal made)
    c.unify.ensures.unified
