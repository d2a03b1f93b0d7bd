use Rattle.std.proofs.Common.{List, length, ap, ◌∙◌}
use Rattle.le_terms.specs.Tree.{Tree}
use Rattle.le_index.specs.Keys.{key_of_args}
use Rattle.le_goals.proofs.ReadLiterals.{HasArguments, has-arguments}
use Rattle.le_goals.proofs.goals.keys.key_in.Goals as goal

pub key_of_args-requires : goal.key_of_args-requires
key_of_args-requires c =
    let has : HasArguments c.args.program.now c.args.store.now c.args.frames.now c.args.goal c.args.place c.in-Some.spot.part.base c.as_slice-args.result.now =
    has-arguments c.args.program.now c.requires.program c.args.store.now c.args.frames.now c.args.goal c.args.place c.in-Some.spot (c.in-Some.ensures c.args.program.now (length c.args.store.now.now.terms) c.requires.frames) c.literals_in.result.now c.index-literals_in-spot.result _ c.atom_of.result.now c.as_slice-args.result.now
    c.index-literals_in-spot.is c.literals_in.ensures c.atom_of.ensures c.as_slice-args.ensures in
    has.there

pub returns : goal.returns
returns c =
    let has : HasArguments c.args.program.now c.args.store.now c.args.frames.now c.args.goal c.args.place c.in-Some.spot.part.base c.as_slice-args.result.now =
    has-arguments c.args.program.now c.requires.program c.args.store.now c.args.frames.now c.args.goal c.args.place c.in-Some.spot (c.in-Some.ensures c.args.program.now (length c.args.store.now.now.terms) c.requires.frames) c.literals_in.result.now c.index-literals_in-spot.result _ c.atom_of.result.now c.as_slice-args.result.now
    c.index-literals_in-spot.is c.literals_in.ensures c.atom_of.ensures c.as_slice-args.ensures in
    c.key_of_args.ensures ∙ ap (λ (ts : List Tree). key_of_args ts) has.seen
