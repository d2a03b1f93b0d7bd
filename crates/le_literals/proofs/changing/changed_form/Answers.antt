use Rattle.std.proofs.Common.{◌++◌, subst}
use Rattle.le_terms.specs.Variables.{occurrences, all_occurrences}
use Rattle.le_terms.specs.Program.{form_terms}
use Rattle.le_literals.specs.Changing.{Allows}
use Rattle.le_literals.proofs.Items.{allows-left, allows-right}
use Rattle.le_literals.proofs.changing.changed_form.Goals as goal

pub changed_term-requires-in-Gather : goal.changed_term-requires-in-Gather
changed_term-requires-in-Gather c =
    let all : Allows c.args.change.now (occurrences c.in-Gather.result ++ (occurrences c.in-Gather.value ++ all_occurrences c.in-Gather.atom.args)) =
    subst (λ f. Allows c.args.change.now (all_occurrences (form_terms f))) c.in-Gather.is c.requires in
    allows-left c.args.change.now (occurrences c.in-Gather.value) (all_occurrences c.in-Gather.atom.args)
    (allows-right c.args.change.now (occurrences c.in-Gather.result) (occurrences c.in-Gather.value ++ all_occurrences c.in-Gather.atom.args) all)

pub changed_atom-requires-in-Gather : goal.changed_atom-requires-in-Gather
changed_atom-requires-in-Gather c =
    let all : Allows c.args.change.now (occurrences c.in-Gather.result ++ (occurrences c.in-Gather.value ++ all_occurrences c.in-Gather.atom.args)) =
    subst (λ f. Allows c.args.change.now (all_occurrences (form_terms f))) c.in-Gather.is c.requires in
    allows-right c.args.change.now (occurrences c.in-Gather.value) (all_occurrences c.in-Gather.atom.args)
    (allows-right c.args.change.now (occurrences c.in-Gather.result) (occurrences c.in-Gather.value ++ all_occurrences c.in-Gather.atom.args) all)
