use Rattle.std.proofs.Common.{◌≡◌, ◌∙◌, ◌∷◌, ℕ, List, OnOk, ap, subst}
use Rattle.le_terms.specs.Variables.{occurrences, all_occurrences}
use Rattle.le_terms.specs.Walks.{all_noted}
use Rattle.le_listing.proofs.NoteSteps.{gather_noted}
use Rattle.le_listing.proofs.variables.note_gather.Goals as goal

pub returns : goal.returns
returns c =
    let before = c.args.set.now.keys in
    let total = c.args.total.now in
    let value = c.args.value.now in
    let args = c.args.atom.now.args in
    let Noted : List ℕ → Type 0 = λ ns. OnOk c.note_terms.result (c.note_terms.new.set.keys ≡ ns) in
    let all : all_noted c.note_term-2.new.set.keys (all_occurrences c.as_slice.result.now) ≡ all_noted before (all_occurrences (total ∷ value ∷ args)) =
    ap (λ ts. all_noted c.note_term-2.new.set.keys (all_occurrences ts)) c.as_slice.ensures
    ∙ ap (λ ns. all_noted ns (all_occurrences args)) (c.in_ok-note_term-2.ensures ∙ ap (λ ns. all_noted ns (occurrences value)) c.in_ok-note_term.ensures)
    ∙ gather_noted before total value args in
    subst Noted all c.note_terms.ensures
