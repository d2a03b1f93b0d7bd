use Rattle.std.proofs.Common.{◌+◌, sym, subst}
use Rattle.std.specs.List.{AllByRecursion}
use Rattle.le_terms.specs.Tree.{Tree}
use Rattle.le_terms.specs.Variables.{occurrences}
use Rattle.le_store.specs.Shown.{IsThere}
use Rattle.le_goals.proofs.Pairings.{one-there}
use Rattle.le_goals.proofs.terms.shown_terms.Goals as goal

pub shown_term-requires : goal.shown_term-requires
shown_term-requires c =
    subst (λ (t : Tree). AllByRecursion (λ v. IsThere c.args.store.now (c.args.base + v)) (occurrences t)) (sym c.term-item.is)
    (one-there (λ v. IsThere c.args.store.now (c.args.base + v)) c.args.terms.now c.loop-term.term-index _ c.loop-term-test.true c.requires)
