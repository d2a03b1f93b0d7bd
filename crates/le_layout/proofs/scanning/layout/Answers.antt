use Rattle.std.proofs.Common.{◌∙◌}
use Rattle.le_layout.proofs.ScanLemmas.{room_in, rest_short, stands_in, layout_is}
use Rattle.le_layout.proofs.scanning.layout.Goals as goal

pub scan_lines-requires-clause-room : goal.scan_lines-requires-clause-room
scan_lines-requires-clause-room c =
    room_in c.args.text.now c.deref-2.result.now c.deref.result.now c.without_mark.result.now c.first_place.result c.utf8.text c.requires
    (c.deref-2.ensures.value ∙ c.in_ok-chars.ensures) (c.deref.ensures.value ∙ c.in_ok-chars.ensures) c.first_place.ensures c.without_mark.ensures

pub scan_lines-requires-clause-short : goal.scan_lines-requires-clause-short
scan_lines-requires-clause-short c =
    rest_short c.args.text.now c.deref.result.now c.without_mark.result.now c.utf8.text c.requires (c.deref.ensures.value ∙ c.in_ok-chars.ensures) c.without_mark.ensures

pub scan_lines-requires-clause-lie : goal.scan_lines-requires-clause-lie
scan_lines-requires-clause-lie c =
    stands_in c.args.text.now c.deref-2.result.now c.deref.result.now c.without_mark.result.now c.first_place.result c.utf8.text
    (c.deref-2.ensures.value ∙ c.in_ok-chars.ensures) (c.deref.ensures.value ∙ c.in_ok-chars.ensures) c.first_place.ensures c.without_mark.ensures

pub returns : goal.returns
returns c =
    layout_is c.args.text.now c.in_ok-of.field-0 c.deref-2.result.now c.deref.result.now c.without_mark.result.now c.first_place.result _ c.from_vec.result _ c.from_vec-2.result c.in_ok-of.ensures
    (c.deref-2.ensures.value ∙ c.in_ok-chars.ensures) (c.deref.ensures.value ∙ c.in_ok-chars.ensures) c.first_place.ensures c.without_mark.ensures c.in_ok-tokens.ensures c.from_vec.ensures c.from_vec-2.ensures
