use Rattle.std.proofs.Common.{◌+◌, ◌-◌, ◌∷◌, ◌∙◌, length, drop, take, ap, sym, arith}
use Rattle.std.proofs.lemmas.List.{take_all, length-drop}
use Rattle.le_bundle.specs.Lines.{whole, lines_of}
use Rattle.le_bundle.proofs.LineLemmas.{cut_first, cut_nowhere}
use Rattle.le_bundle.proofs.reader.Reader.line.Goals as goal

pub returns-in_err-end-clause-last : goal.returns-in_err-end-clause-last
returns-in_err-end-clause-last c = rw c.from_residual.ensures (cut_nowhere c.args.self.now.rest.now c.in_err-end.ensures)

pub returns-clause-lines : goal.returns-clause-lines
returns-clause-lines c =
    let text = c.args.self.now.rest.now in
    let end = c.in_ok-end.end in
    let left = length text - (end + 1) in
    let cut = cut_first text end c.in_ok-end.ensures in
    cut.0 ∙ ap (λ xs. whole (take end text) ∷ lines_of xs) (sym (take_all left (drop (end + 1) text) (omega (arith, length-drop (end + 1) text))))
