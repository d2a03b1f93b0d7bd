use Rattle.std.proofs.Common.{◌+◌, ◌-◌, ◌<◌, ◌≤◌, length, arith, rules}
use Rattle.le_machine.proofs.Built.{built-push}
use Rattle.le_machine.proofs.building.literals.Goals as goal

pub loop-at-preserved : goal.loop-at-preserved
loop-at-preserved c =
    let room : c.size_of-size.result ≤ length c.args.letters.now - c.loop-at.at = search rules in
    let more : c.loop-at.at < c.loop-at.at + c.size_of-size.result = omega (arith, c.size_of-size.ensures.least) in (
      built-push c.loop-at.literals.items c.push.new.self.items c.in_ok-form.field-0 c.loop-at.line c.loop-at.at (c.loop-at.at + c.size_of-size.result) c.loop-at.invariant.0 more (c.in_ok-form.ensures.literal c.loop-at.line) c.in_ok-form.ensures.variables c.in_ok-push.ensures.items,
      omega (arith, room, c.loop-at.invariant.1),
      omega (arith, more, c.loop-at.invariant.2),
    )
