use Rattle.std.proofs.Common.{◌≡◌, ◌+◌, ◌<◌, length, subst, sym, ap, ◌∙◌, arith}
use Rattle.std.specs.List.{AllByRecursion}
use Rattle.le_terms.specs.Variables.{occurrences}
use Rattle.le_subst.specs.Solution.{size}
use Rattle.le_store.specs.Shown.{Snapshot}
use Rattle.le_store.proofs.Building.{length-flat}
use Rattle.le_goals.proofs.unifying.build.Goals as goal

pub build-requires-clause-room : goal.build-requires-clause-room
build-requires-clause-room c =
    let symbols : length c.as_syms.result.now ≡ size c.args.term.now = ap length c.as_syms.ensures.symbols ∙ length-flat c.args.term.now in
    omega (arith, symbols, c.in_ok-reserve.ensures.room.cells_)

pub build-requires-clause-variables : goal.build-requires-clause-variables
build-requires-clause-variables c =
    subst (λ (s : Snapshot). AllByRecursion (λ v. c.args.base + v < length s.terms) (occurrences c.args.term.now)) (sym c.in_ok-reserve.ensures.now) c.requires
