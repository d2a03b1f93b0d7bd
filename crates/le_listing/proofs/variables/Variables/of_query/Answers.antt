use Rattle.std.proofs.Common.{◌≡◌, ◌∙◌, [], ap}
use Rattle.le_terms.specs.Program.{literals_terms}
use Rattle.le_terms.specs.Variables.{all_occurrences}
use Rattle.le_terms.specs.Walks.{all_noted}
use Rattle.le_listing.specs.ClauseText.{asked_vars}
use Rattle.le_listing.proofs.NoteSteps.{both_noted}
use Rattle.le_listing.proofs.variables.Variables.of_query.Goals as goal

pub returns : goal.returns
returns c =
    let asked = asked_vars c.args.asked.now in
    let first : c.note_asked.new.set.keys ≡ all_noted [] asked =
    c.in_ok-note_asked.ensures ∙ ap (λ ns. all_noted ns asked) c.new-set.ensures.empty in
    both_noted asked (all_occurrences (literals_terms c.args.query.now)) c.note_asked.new.set.keys c.note_literals.new.set.keys first c.in_ok-note_literals.ensures
