use Rattle.std.proofs.Common.{◌∙◌, ap, length, sym, subst, IsUtf8, arith}
use Rattle.le_layout.proofs.ScanLemmas.{room_in, place_is, place_room}
use Rattle.le_layout.proofs.scanning.place_in.Goals as goal

pub place_behind-requires : goal.place_behind-requires
place_behind-requires c =
    let same = c.in-Ok.ensures.cases.0 in
    room_in c.in-Ok.text.now c.deref.result.now c.deref-2.result.now c.without_mark.result.now c.first_place-2.result (subst IsUtf8 (sym same) c.requires.utf8) (omega (arith, ap length same, c.requires.short))
    (c.deref.ensures.value ∙ c.in_ok-chars.ensures) (c.deref-2.ensures.value ∙ c.in_ok-chars.ensures) c.first_place-2.ensures c.without_mark.ensures

pub returns : goal.returns
returns c =
    let same = c.in-Ok.ensures.cases.0 in
    let chars = c.deref.ensures.value ∙ c.in_ok-chars.ensures in
    let chars2 = c.deref-2.ensures.value ∙ c.in_ok-chars.ensures in
    record {
      value = place_is c.in-Ok.text.now c.args.front.now c.deref.result.now c.deref-2.result.now c.without_mark.result.now c.first_place-2.result c.place_behind.result same
          chars chars2 c.first_place-2.ensures c.without_mark.ensures c.place_behind.ensures;
      room = place_room c.in-Ok.text.now c.deref.result.now c.deref-2.result.now c.without_mark.result.now c.first_place-2.result c.place_behind.result (subst IsUtf8 (sym same) c.requires.utf8) (omega (arith, ap length same, c.requires.short))
          chars chars2 c.first_place-2.ensures c.without_mark.ensures c.place_behind.ensures;
    }
