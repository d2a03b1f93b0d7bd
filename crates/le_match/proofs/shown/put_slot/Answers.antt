use Rattle.std.proofs.Common.{◌≡◌, true, false, [], ◌∷◌, ◌++◌, codes, map, slice_range, refl}
use Rattle.le_match.specs.declared.shown.Line.{Line}
use Rattle.le_match.specs.Shown.{opening, closing, plain}
use Rattle.le_match.specs.Walks.{Writes, space}
use Rattle.le_match.proofs.BestLemmas.{both_ok}
use Rattle.le_match.proofs.ShownLemmas.{writes_slot}
use Rattle.le_match.proofs.shown.put_slot.Goals as goal

pub returns : goal.returns
returns c =
    let l = c.args.layout.now in
    let a = c.args.line.now in
    let b : Line = record { text = c.put.new.line.text; glued = true } in
    let d = c.put_tokens.new.line in
    let e = c.put-2.new.line in
    let ps = map plain (slice_range l.tokens c.args.span.from c.args.span.to) in
    both_ok c.put-2.result (e.text ≡ d.text ++ space d.glued true ++ codes "*") (e.glued ≡ false) (Writes l a e (opening ∷ (ps ++ closing ∷ [])))
    c.put-2.ensures.text c.put-2.ensures.glued
    (writes_slot l a b d e ps c.in_ok-put.ensures.text refl c.in_ok-put_tokens.ensures)
