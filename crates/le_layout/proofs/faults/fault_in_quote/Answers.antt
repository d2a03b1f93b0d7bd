use Rattle.std.proofs.Common.{◌+◌, ◌-◌, length, drop, sym, ap, ◌∙◌, subst, arith}
use Rattle.le_layout.specs.Characters.{may_be_quoted}
use Rattle.le_layout.specs.Room.{HasRoom}
use Rattle.le_layout.specs.Faults.{faults_among}
use Rattle.le_layout.proofs.WalkLemmas.{room_on, faults_more}
use Rattle.le_layout.proofs.faults.fault_in_quote.Goals as goal

pub loop-at-preserved : goal.loop-at-preserved
loop-at-preserved c =
    let chars = c.args.chars.now in
    let at = c.loop-at.at in
    let known = c.loop-at.invariant in
    let char = c.index-chars-at.result in
    let next = sym c.next_place-place.ensures in
    record {
      inside = omega arith;
      room = subst (λ p. HasRoom p (length chars - (at + 1))) next (room_on c.loop-at.place char (length chars) at c.loop-at-test.true known.room);
      faults = ap (λ p. faults_among may_be_quoted p (drop (at + 1) chars)) (sym next)
          ∙ sym (faults_more may_be_quoted c.loop-at.place chars at char c.loop-at-test.true c.index-chars-at.is (sym c.may_be_quoted.ensures ∙ c.if-not-may_be_quoted.false))
          ∙ known.faults;
    }
