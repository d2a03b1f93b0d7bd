use Rattle.std.proofs.Common.{◌+◌, ◌++◌, subst}
use Rattle.std.specs.List.{AllByRecursion}
use Rattle.le_terms.specs.Variables.{occurrences, all_occurrences}
use Rattle.le_terms.specs.Program.{form_terms}
use Rattle.le_terms.specs.declared.program.Form.{Form}
use Rattle.le_store.specs.Shown.{IsThere}
use Rattle.le_proofs.proofs.Alls.{all-left, all-right}
use Rattle.le_goals.specs.Unifying.{HasVariables}
use Rattle.le_goals.proofs.terms.shown_form.Goals as goal

pub shown_term-requires-in-Gather : goal.shown_term-requires-in-Gather
shown_term-requires-in-Gather c =
    let all : AllByRecursion (λ v. IsThere c.args.store.now (c.args.base + v)) (occurrences c.in-Gather.result ++ (occurrences c.in-Gather.value ++ all_occurrences c.in-Gather.atom.args)) =
    subst (λ (f : Form). HasVariables c.args.store.now c.args.base (form_terms f)) c.in-Gather.is c.requires in
    all-left (λ v. IsThere c.args.store.now (c.args.base + v)) (occurrences c.in-Gather.value) (all_occurrences c.in-Gather.atom.args)
    (all-right (λ v. IsThere c.args.store.now (c.args.base + v)) (occurrences c.in-Gather.result) (occurrences c.in-Gather.value ++ all_occurrences c.in-Gather.atom.args) all)

pub shown_atom-requires-in-Gather : goal.shown_atom-requires-in-Gather
shown_atom-requires-in-Gather c =
    let all : AllByRecursion (λ v. IsThere c.args.store.now (c.args.base + v)) (occurrences c.in-Gather.result ++ (occurrences c.in-Gather.value ++ all_occurrences c.in-Gather.atom.args)) =
    subst (λ (f : Form). HasVariables c.args.store.now c.args.base (form_terms f)) c.in-Gather.is c.requires in
    all-right (λ v. IsThere c.args.store.now (c.args.base + v)) (occurrences c.in-Gather.value) (all_occurrences c.in-Gather.atom.args)
    (all-right (λ v. IsThere c.args.store.now (c.args.base + v)) (occurrences c.in-Gather.result) (occurrences c.in-Gather.value ++ all_occurrences c.in-Gather.atom.args) all)
