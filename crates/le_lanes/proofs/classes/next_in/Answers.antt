use Rattle.std.proofs.Common.{◌+◌, ◌≤◌, sym, ◌∙◌, length, arith}
use Rattle.le_lanes.specs.Next.{is_in}
use Rattle.le_lanes.proofs.Scans.{next-found, next-past_all}
use Rattle.le_lanes.proofs.classes.next_in.Goals as goal

pub returns-then-passed-lt-LANES : goal.returns-then-passed-lt-LANES
returns-then-passed-lt-LANES c =
    let room : c.loop-at.at + 32 ≤ length c.args.bytes.now = omega (arith, c.loop-at-test.true, c.if-bytes-at-ge-LANES.true) in
    sym (next-found (is_in c.args.class.now) c.args.bytes.now c.loop-at.at 32 c.passed_bytes-passed.result room c.passed_bytes-passed.ensures c.if-passed-lt-LANES.true)
    ∙ c.loop-at.invariant

pub loop-at-preserved : goal.loop-at-preserved
loop-at-preserved c =
    let room : c.loop-at.at + 32 ≤ length c.args.bytes.now = omega (arith, c.loop-at-test.true, c.if-bytes-at-ge-LANES.true) in
    next-past_all (is_in c.args.class.now) c.args.bytes.now c.loop-at.at 32 c.passed_bytes-passed.result room c.passed_bytes-passed.ensures c.if-passed-lt-LANES.false
    ∙ c.loop-at.invariant
