use Rattle.std.proofs.Common.{◌+◌, ◌++◌, sym, subst, ap, ◌∙◌}
use Rattle.std.specs.List.{AllByRecursion}
use Rattle.le_terms.specs.Variables.{occurrences, all_occurrences}
use Rattle.le_terms.specs.Program.{form_terms}
use Rattle.le_terms.specs.declared.program.Atom.{Atom}
use Rattle.le_terms.specs.declared.program.Form.{Form}
use Rattle.le_store.specs.Shown.{IsThere}
use Rattle.le_proofs.proofs.Alls.{all-left}
use Rattle.le_goals.specs.Unifying.{HasVariables}
use Rattle.le_goals.proofs.Symbols.{atom-variables}
use Rattle.le_goals.proofs.goals.equating.build_result.Goals as goal

pub build_argument-requires : goal.build_argument-requires
build_argument-requires c =
    subst (HasVariables c.args.store.now c.args.base) (sym (c.as_slice-args.ensures ∙ ap (λ (a : Atom). a.args) c.atom_of.ensures))
    (atom-variables (λ v. IsThere c.args.store.now (c.args.base + v)) c.args.literal.now.form c.requires)

pub build-requires : goal.build-requires
build-requires c =
    let all : AllByRecursion (λ v. IsThere c.args.store.now (c.args.base + v)) (occurrences c.in-Gather.result ++ (occurrences c.in-Gather.value ++ all_occurrences c.in-Gather.atom.args)) =
    subst (λ (f : Form). HasVariables c.args.store.now c.args.base (form_terms f)) c.in-Gather.is c.requires in
    all-left (λ v. IsThere c.args.store.now (c.args.base + v)) (occurrences c.in-Gather.result) (occurrences c.in-Gather.value ++ all_occurrences c.in-Gather.atom.args) all
