use Rattle.std.proofs.Common.{◌+◌, sym, subst}
use Rattle.le_terms.specs.declared.program.Atom.{Atom}
use Rattle.le_store.specs.Shown.{IsThere}
use Rattle.le_goals.specs.Unifying.{HasVariables}
use Rattle.le_goals.proofs.Symbols.{atom-variables}
use Rattle.le_goals.proofs.goals.reading.shown_literal.Goals as goal

pub shown_atom-requires : goal.shown_atom-requires
shown_atom-requires c =
    subst (λ (a : Atom). HasVariables c.args.store.now c.args.base a.args) (sym c.atom_of.ensures)
    (atom-variables (λ v. IsThere c.args.store.now (c.args.base + v)) c.args.literal.now.form c.requires)
