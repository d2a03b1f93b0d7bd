use Rattle.std.proofs.Common.{slice_range, sym, ap, ◌∙◌}
use Rattle.le_match.specs.Walks.{behind_part}
use Rattle.le_match.proofs.FitLemmas.{behind_slot_is}
use Rattle.le_match.proofs.fitting.behind_part.Goals as goal

pub returns-then-from-to-clause-place : goal.returns-then-from-to-clause-place
returns-then-from-to-clause-place c =
    let l = c.args.layout.now in
    sym (ap (λ p. behind_part l p (slice_range l.tokens c.args.from c.args.to)) c.in-Slot.is ∙ behind_slot_is l c.in-Slot.field-0 c.args.from c.args.to c.if-from-to.true c.requires.within)
