use Rattle.std.proofs.Common.{◌==◌, Bool, List, length, ap, ◌∙◌}
use Rattle.std.proofs.lemmas.Result.{IfOk-weaker}
use Rattle.le_terms.specs.Tree.{Tree}
use Rattle.le_terms.specs.Variables.{all_occurrences}
use Rattle.le_goals.specs.Frames.{cell_term}
use Rattle.le_goals.proofs.ReadLiterals.{HasArguments, has-arguments}
use Rattle.le_goals.proofs.VariableFree.{none-terms}
use Rattle.le_goals.proofs.goals.grounding.is_ground_in.Goals as goal

pub are_ground-requires : goal.are_ground-requires
are_ground-requires c =
    let has : HasArguments c.args.program.now c.args.store.now c.args.frames.now c.args.goal c.args.place c.in-Some.spot.part.base c.as_slice-args.result.now =
    has-arguments c.args.program.now c.requires.program c.args.store.now c.args.frames.now c.args.goal c.args.place c.in-Some.spot (c.in-Some.ensures c.args.program.now (length c.args.store.now.now.terms) c.requires.frames) c.literals_in.result.now c.index-literals_in-spot.result _ c.atom_of.result.now c.as_slice-args.result.now
    c.index-literals_in-spot.is c.literals_in.ensures c.atom_of.ensures c.as_slice-args.ensures in
    has.there

pub returns : goal.returns
returns c =
    let has : HasArguments c.args.program.now c.args.store.now c.args.frames.now c.args.goal c.args.place c.in-Some.spot.part.base c.as_slice-args.result.now =
    has-arguments c.args.program.now c.requires.program c.args.store.now c.args.frames.now c.args.goal c.args.place c.in-Some.spot (c.in-Some.ensures c.args.program.now (length c.args.store.now.now.terms) c.requires.frames) c.literals_in.result.now c.index-literals_in-spot.result _ c.atom_of.result.now c.as_slice-args.result.now
    c.index-literals_in-spot.is c.literals_in.ensures c.atom_of.ensures c.as_slice-args.ensures in
    IfOk-weaker c.are_ground.result _ _
    (λ (answer : Bool) is. is ∙ (none-terms (cell_term c.args.store.now.now c.in-Some.spot.part.base) c.as_slice-args.result.now ∙ ap (λ (ts : List Tree). length (all_occurrences ts) == 0) has.seen))
    c.are_ground.ensures
