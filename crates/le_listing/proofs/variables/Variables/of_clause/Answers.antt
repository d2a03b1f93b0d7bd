use Rattle.std.proofs.Common.{◌≡◌, ◌∙◌, [], ap, sym}
use Rattle.le_terms.specs.Program.{literals_terms}
use Rattle.le_terms.specs.Variables.{firsts, all_occurrences}
use Rattle.le_terms.specs.Walks.{all_noted}
use Rattle.le_listing.proofs.NoteSteps.{all_occurrences-append, both_noted}
use Rattle.le_listing.proofs.variables.Variables.of_clause.Goals as goal

pub returns : goal.returns
returns c =
    let head = c.args.clause.now.head.args in
    let body = literals_terms c.args.clause.now.body in
    let first : c.note_terms.new.set.keys ≡ all_noted [] (all_occurrences head) =
    c.in_ok-note_terms.ensures
    ∙ ap (λ ns. all_noted ns (all_occurrences c.as_slice.result.now)) c.new-set.ensures.empty
    ∙ ap (λ ts. all_noted [] (all_occurrences ts)) c.as_slice.ensures in
    let both : c.note_literals.new.set.keys ≡ all_noted c.note_terms.new.set.keys (all_occurrences body) =
    c.in_ok-note_literals.ensures ∙ ap (λ ls. all_noted c.note_terms.new.set.keys (all_occurrences (literals_terms ls))) c.as_slice-2.ensures in
    both_noted (all_occurrences head) (all_occurrences body) c.note_terms.new.set.keys c.note_literals.new.set.keys first both
    ∙ ap firsts (sym (all_occurrences-append head body))
