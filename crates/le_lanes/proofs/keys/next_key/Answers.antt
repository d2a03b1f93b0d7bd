use Rattle.std.proofs.Common.{◌+◌, ◌≤◌, sym, ◌∙◌, length, arith}
use Rattle.le_lanes.specs.Next.{is_match}
use Rattle.le_lanes.proofs.Scans.{next-found, next-past_all}
use Rattle.le_lanes.proofs.keys.next_key.Goals as goal

pub returns-then-passed-lt-LANES : goal.returns-then-passed-lt-LANES
returns-then-passed-lt-LANES c =
    let room : c.loop-at.at + 16 ≤ length c.args.keys.now = omega (arith, c.loop-at-test.true, c.if-keys-at-ge-LANES.true) in
    sym (next-found (is_match c.args.key) c.args.keys.now c.loop-at.at 16 c.passed_keys-passed.result room c.passed_keys-passed.ensures c.if-passed-lt-LANES.true)
    ∙ c.loop-at.invariant

pub loop-at-preserved : goal.loop-at-preserved
loop-at-preserved c =
    let room : c.loop-at.at + 16 ≤ length c.args.keys.now = omega (arith, c.loop-at-test.true, c.if-keys-at-ge-LANES.true) in
    next-past_all (is_match c.args.key) c.args.keys.now c.loop-at.at 16 c.passed_keys-passed.result room c.passed_keys-passed.ensures c.if-passed-lt-LANES.false
    ∙ c.loop-at.invariant
