use Rattle.std.proofs.Common.{◌+◌, ◌++◌, map, drop, slice_range, ap, ◌∙◌}
use Rattle.le_match.specs.declared.sharing.Place.TheVariants as place
use Rattle.le_match.specs.Shown.{text_from}
use Rattle.le_match.specs.Walks.{share_of}
use Rattle.le_match.proofs.ShownLemmas.{place_pieces, shown_step, shown_end, shown_is}
use Rattle.le_match.proofs.shown.shown.Goals as goal
use Rattle.le_match.proofs.shown.shown.Goals.{in-Word+in_ok-put_token-in-Word, in-Slot+in_ok-put_slot-in-Slot}

pub loop-place-preserved : goal.loop-place-preserved
loop-place-preserved c =
    let l = c.args.layout.now in
    let places = c.deref-place-items.result.now in
    let i = c.loop-place.place-index in
    let rest = place_pieces l (drop (i + 1) places) in
    elim c.match-place.branch [
      | in-Word+in_ok-put_token-in-Word w ↦
          ap (λ v. v.text ++ text_from l v.glued rest) w.line-is
          ∙ shown_step l places i (place.Word 0) (place.Word w.in-Word.at) c.loop-place.line w.put_token.new.line c.loop-place-test.true w.in-Word.is w.in_ok-put_token-in-Word.ensures
      | in-Slot+in_ok-put_slot-in-Slot w ↦
          ap (λ v. v.text ++ text_from l v.glued rest) w.line-is
          ∙ shown_step l places i (place.Word 0) (place.Slot w.in-Slot.span) c.loop-place.line w.put_slot.new.line c.loop-place-test.true w.in-Slot.is w.in_ok-put_slot-in-Slot.ensures
    ]
    ∙ c.loop-place.invariant

pub returns : goal.returns
returns c =
    let l = c.args.layout.now in
    let ts = slice_range l.tokens c.args.tokens.from c.args.tokens.to in
    let places = c.deref-place-items.result.now in
    shown_end l places c.loop-place.place-index c.loop-place.line c.loop-place-test.false
    ∙ c.loop-place.invariant
    ∙ shown_is c.args.templates.now l ts c.args.reading.now places (ap (map (share_of l)) c.deref-place-items.ensures.value ∙ c.in_ok-places.ensures.exact)
