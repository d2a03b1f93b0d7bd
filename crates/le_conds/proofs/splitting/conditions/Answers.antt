use Rattle.std.proofs.Common.{◌∙◌, sym, ap, arith, length}
use Rattle.le_conds.proofs.SoundLemmas.{conditions_tree}
use Rattle.le_conds.proofs.splitting.conditions.Goals as goal

pub returns-in-None-clause-conditions : goal.returns-in-None-clause-conditions
returns-in-None-clause-conditions c =
    let s = c.args.sentence in
    let nodes = ap length c.conds.ensures in
    conditions_tree c.args.layout.now s.from s.from s.to s.to c.conds.result (omega (arith, c.requires.sentence.some)) c.requires.sentence.within
    (sym c.in_ok-found.ensures.fault ∙ c.in-None.is) (c.conds.ensures ∙ c.in_ok-found.ensures.nodes) (omega (arith, nodes, c.in_ok-found.ensures.few))
