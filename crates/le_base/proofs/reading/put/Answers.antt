use Rattle.std.proofs.Common.{◌∙◌, rules, arith}
use Rattle.std.proofs.KnownBytes.{Appends-kept}
use Rattle.le_base.proofs.OutsideLemmas.{written_more, written_part}
use Rattle.le_base.proofs.reading.put.Goals as goal

pub loop-rest-preserved : goal.loop-rest-preserved
loop-rest-preserved g c =
    (written_more _ _ _ _ _ _ _ (omega arith) c.loop-rest.invariant.0 c.in-Bytes.ensures.content.2, c.in-Bytes.ensures.kept (λ e. search rules) ∙ c.loop-rest.invariant.1)

pub returns-in-Failed-clause-part : goal.returns-in-Failed-clause-part
returns-in-Failed-clause-part g c =
    let before = c.loop-rest.invariant.0 in
    written_part _ _ _ _ (before.0, before.1, Appends-kept _ _ _ _ before.2 c.in-Failed.ensures.content)

pub returns-clause-part : goal.returns-clause-part
returns-clause-part g c = written_part _ _ _ _ c.loop-rest.invariant.0
