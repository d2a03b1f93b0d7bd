use Rattle.std.proofs.Common.{◌≡◌, ◌+◌, ◌∙◌, ◌++◌, ◌∷◌, [], false, length, length-append, append_assoc, sym, ap, arith}
use Rattle.std.specs.Str.{bytes_eq}
use Rattle.le_bundle.specs.Bundle.{marker}
use Rattle.le_bundle.proofs.ReadLemmas.{parted_more}
use Rattle.le_bundle.proofs.opening.document_part.Goals as goal

pub loop-line-preserved : goal.loop-line-preserved
loop-line-preserved c =
    let before = c.loop-line in
    let front = before.invariant.0 in
    let line = c.in-Some.line.now in
    let now = c.line.new.self in
    let new = front ++ (line ++ (10 ∷ [])) in
    let count : length new ≡ before.end + (length line + 1) = omega (arith, before.invariant.1, length-append front (line ++ (10 ∷ [])), length-append line (10 ∷ [])) in
    let text = append_assoc front (line ++ (10 ∷ [])) now.rest.now ∙ ap (λ xs. front ++ xs) (append_assoc line (10 ∷ []) now.rest.now) ∙ ap (λ xs. front ++ xs) (sym c.in-Some.ensures.text) ∙ before.invariant.2 in
    let other : bytes_eq line marker ≡ false = ap (bytes_eq line) (sym c.as_bytes.ensures.value) ∙ sym c.eq.ensures ∙ c.if-eq.false in
    (new, count, text, parted_more front line before.reader.rest.now now.rest.now before.reader.number now.number c.in-Some.ensures.lines c.in-Some.ensures.number other ∙ before.invariant.3)
