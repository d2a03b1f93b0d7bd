use Rattle.std.proofs.Common.{◌+◌, ◌-◌, length, drop, sym, ap, ◌∙◌, subst, arith}
use Rattle.le_layout.specs.Places.{place_behind}
use Rattle.le_layout.specs.Room.{HasRoom}
use Rattle.le_layout.proofs.WalkLemmas.{room_on, place_more}
use Rattle.le_layout.proofs.place.place_behind.Goals as goal

pub loop-at-preserved : goal.loop-at-preserved
loop-at-preserved c =
    let chars = c.args.chars.now in
    let at = c.loop-at.at in
    let known = c.loop-at.invariant in
    let next = sym c.next_place-place.ensures in
    record {
      inside = omega arith;
      room = subst (λ p. HasRoom p (length chars - (at + 1))) next (room_on c.loop-at.place c.index-chars-at.result (length chars) at c.loop-at-test.true known.room);
      place = ap (λ p. place_behind p (drop (at + 1) chars)) (sym next) ∙ sym (place_more c.loop-at.place chars at c.index-chars-at.result c.loop-at-test.true c.index-chars-at.is) ∙ known.place;
    }
