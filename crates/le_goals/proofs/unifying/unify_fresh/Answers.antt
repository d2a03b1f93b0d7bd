use Rattle.std.proofs.Common.{Bool, [], subst}
use Rattle.le_unify.specs.Unifying.{Unifies, equations_in}
use Rattle.le_goals.proofs.Heads.{old-there, new-there, unified, not-unified}
use Rattle.le_goals.proofs.unifying.unify_fresh.Goals as goal

pub build_pairs-requires-clause-lefts : goal.build_pairs-requires-clause-lefts
build_pairs-requires-clause-lefts c =
    new-there c.args.store.now c.reserve.new.self c.fresh-fresh.new.self c.args.store.now c.args.store.now c.args.vars c.fresh-fresh.result c.in_ok-reserve.ensures.now c.fresh-fresh.ensures.first c.fresh-fresh.ensures.terms c.fresh-fresh.ensures.variables c.args.lefts.now c.requires.lefts

pub build_pairs-requires-clause-rights : goal.build_pairs-requires-clause-rights
build_pairs-requires-clause-rights c =
    old-there c.args.store.now c.reserve.new.self c.fresh-fresh.new.self c.args.store.now c.args.store.now c.args.vars c.fresh-fresh.result c.in_ok-reserve.ensures.now c.fresh-fresh.ensures.first c.fresh-fresh.ensures.terms c.fresh-fresh.ensures.variables c.args.base c.args.rights.now c.requires.rights

pub returns-then-branch-clause-unified : goal.returns-then-branch-clause-unified
returns-then-branch-clause-unified c =
    let P : Bool → Type 0 = λ b. Unifies c.build_pairs.new.store c.unify_pairs.new.store (equations_in c.build_pairs.new.store.now c.build_pairs.new.pairs.items []) b in
    unified c.args.store.now c.reserve.new.self c.fresh-fresh.new.self c.build_pairs.new.store c.unify_pairs.new.store c.args.vars c.fresh-fresh.result c.in_ok-reserve.ensures.now c.fresh-fresh.ensures.first c.fresh-fresh.ensures.terms c.fresh-fresh.ensures.variables
    c.args.base c.args.lefts.now c.args.rights.now c.build_pairs.new.pairs.items c.requires.lefts c.requires.rights c.build_pairs.ensures.extends c.in_ok-build_pairs.ensures.equations
    (subst P c.if-branch.true c.in_ok-unify_pairs.ensures.unified) c.unify_pairs.ensures.same

pub returns-clause-unified : goal.returns-clause-unified
returns-clause-unified c =
    let P : Bool → Type 0 = λ b. Unifies c.build_pairs.new.store c.unify_pairs.new.store (equations_in c.build_pairs.new.store.now c.build_pairs.new.pairs.items []) b in
    not-unified c.args.store.now c.reserve.new.self c.fresh-fresh.new.self c.build_pairs.new.store c.unify_pairs.new.store c.args.vars c.fresh-fresh.result c.in_ok-reserve.ensures.now c.fresh-fresh.ensures.first c.fresh-fresh.ensures.terms c.fresh-fresh.ensures.variables
    c.args.base c.args.lefts.now c.args.rights.now c.build_pairs.new.pairs.items c.requires.lefts c.requires.rights c.build_pairs.ensures.extends c.in_ok-build_pairs.ensures.equations
    (subst P c.if-branch.false c.in_ok-unify_pairs.ensures.unified)
