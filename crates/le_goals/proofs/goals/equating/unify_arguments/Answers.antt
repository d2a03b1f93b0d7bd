use Rattle.std.proofs.Common.{Bool, List, length, subst}
use Rattle.std.proofs.lemmas.Result.{IfOk-weaker}
use Rattle.le_terms.specs.Tree.{Tree}
use Rattle.le_builtins.specs.Compute.{argument}
use Rattle.le_goals.specs.Equations.{UnifiesPair}
use Rattle.le_goals.proofs.ReadLiterals.{HasArguments, has-arguments}
use Rattle.le_goals.proofs.goals.equating.unify_arguments.Goals as goal

pub unify_first_two-requires : goal.unify_first_two-requires
unify_first_two-requires c =
    let has : HasArguments c.args.program.now c.args.store.now c.args.frames.now c.args.goal c.args.place c.in-Some.spot.part.base c.as_slice-args.result.now =
    has-arguments c.args.program.now c.requires.program c.args.store.now c.args.frames.now c.args.goal c.args.place c.in-Some.spot (c.in-Some.ensures c.args.program.now (length c.args.store.now.now.terms) c.requires.frames) c.literals_in.result.now c.index-literals_in-spot.result _ c.atom_of.result.now c.as_slice-args.result.now
    c.index-literals_in-spot.is c.literals_in.ensures c.atom_of.ensures c.as_slice-args.ensures in
    has.there

pub returns-clause-unified : goal.returns-clause-unified
returns-clause-unified c =
    let has : HasArguments c.args.program.now c.args.store.now c.args.frames.now c.args.goal c.args.place c.in-Some.spot.part.base c.as_slice-args.result.now =
    has-arguments c.args.program.now c.requires.program c.args.store.now c.args.frames.now c.args.goal c.args.place c.in-Some.spot (c.in-Some.ensures c.args.program.now (length c.args.store.now.now.terms) c.requires.frames) c.literals_in.result.now c.index-literals_in-spot.result _ c.atom_of.result.now c.as_slice-args.result.now
    c.index-literals_in-spot.is c.literals_in.ensures c.atom_of.ensures c.as_slice-args.ensures in
    IfOk-weaker c.unify_first_two.result _ _
    (λ (equal : Bool) made. subst (λ (ts : List Tree). UnifiesPair c.args.store.now c.unify_first_two.new.store (argument ts 0) (argument ts 1) equal) has.seen made)
    c.unify_first_two.ensures.unified
