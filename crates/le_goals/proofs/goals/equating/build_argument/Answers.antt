use Rattle.std.proofs.Common.{◌+◌, refl, sym}
use Rattle.std.proofs.lemmas.Result.{IfOk-weaker}
use Rattle.std.proofs.lemmas.Bool.{ltb-true}
use Rattle.le_terms.specs.Tree.{nil}
use Rattle.le_store.specs.Shown.{IsThere}
use Rattle.le_goals.specs.Frames.{cell_term}
use Rattle.le_goals.proofs.Equated.{argument-there, missing-argument}
use Rattle.le_goals.proofs.goals.equating.build_argument.Goals as goal

pub build-requires : goal.build-requires
build-requires c =
    argument-there (λ v. IsThere c.args.store.now (c.args.base + v)) c.args.args.now c.args.place c.in-Some.term.now (ltb-true _ _ (sym c.in-Some.ensures.lookup.0)) c.in-Some.ensures.lookup.1 c.requires

pub returns-in-None-clause-cell : goal.returns-in-None-clause-cell
returns-in-None-clause-cell c =
    IfOk-weaker c.build_symbol.result _ _ (λ at is. missing-argument c.build_symbol.new.store (cell_term c.args.store.now.now c.args.base) c.args.args.now c.args.place at c.in-None.ensures.lookup.3 (is nil refl)) c.build_symbol.ensures.cell
