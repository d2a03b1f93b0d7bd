use Rattle.std.proofs.lemmas.Result.{IfOk-weaker}
use Rattle.le_goals.proofs.Equated.{built-symbol}
use Rattle.le_goals.proofs.goals.equating.build_symbol.Goals as goal

pub returns-clause-cell : goal.returns-clause-cell
returns-clause-cell c =
    IfOk-weaker c.build.result _ _ (λ place has tree same. built-symbol c.args.store.now c.build.new.store c.args.sym c.requires c.in_ok-term.term c.in_ok-term.ensures.term place has tree same) c.build.ensures.cell
