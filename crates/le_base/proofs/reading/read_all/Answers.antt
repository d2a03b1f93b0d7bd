use Rattle.std.proofs.Common.{arith, refl}
use Rattle.std.proofs.lemmas.List.{length-take}
use Rattle.le_base.proofs.OutsideLemmas.{all_read, consumed_more}
use Rattle.le_base.proofs.reading.read_all.Goals as goal

pub returns-in-End-clause-all : goal.returns-in-End-clause-all
returns-in-End-clause-all g c = all_read _ _ _ _ c.loop-bytes.invariant.0 c.in-End.ensures.content.0 c.in-End.ensures.content.1

pub returns-then-count-limit-clause-too_long : goal.returns-then-count-limit-clause-too_long
returns-then-count-limit-clause-too_long g c =
    let k = c.in-Bytes.ensures.content in
    λ _. consumed_more _ _ _ _ _ _ _ c.loop-bytes.invariant.0 k.2 k.1
    (omega (arith, k.1, c.read.auto.buffer, length-take c.min-room.result c.loop-bytes.buffer))

pub returns-then-is_err-clause-stopped : goal.returns-then-is_err-clause-stopped
returns-then-is_err-clause-stopped g c =
    let k = c.in-Bytes.ensures.content in
    let all = consumed_more _ _ _ _ _ _ _ c.loop-bytes.invariant.0 k.2 k.1 refl in
    λ _. (all.0, omega (arith, all.1), all.2)
