use Rattle.std.proofs.Common.{◌∙◌, sym}
use Rattle.std.proofs.lemmas.Result.{IfOk-weaker}
use Rattle.std.proofs.lemmas.Bool.{ltb-true}
use Rattle.le_terms.specs.Tree.{Tree}
use Rattle.le_goals.specs.Frames.{cell_term, literals_in}
use Rattle.le_goals.proofs.LastFrames.{value-there, value-found, value-none}
use Rattle.le_goals.proofs.goals.answers.value_term.Goals as goal

pub shown_value-requires : goal.shown_value-requires
shown_value-requires c =
    value-there c.args.program.now c.requires.program c.args.store.now c.args.source c.args.base c.args.at c.literals_in.result.now c.in-Some.literal.now c.requires.cells c.literals_in.ensures (ltb-true _ _ (sym c.in-Some.ensures.lookup.0)) c.in-Some.ensures.lookup.1

pub returns-in-Some : goal.returns-in-Some
returns-in-Some c =
    IfOk-weaker c.shown_value.result _ _
    (λ (term : Tree) is. is ∙ value-found (literals_in c.args.program.now c.args.source) c.literals_in.result.now c.args.at c.in-Some.literal.now (cell_term c.args.store.now.now c.args.base) c.literals_in.ensures (ltb-true _ _ (sym c.in-Some.ensures.lookup.0)) c.in-Some.ensures.lookup.1)
    c.shown_value.ensures

pub returns-in-None : goal.returns-in-None
returns-in-None c =
    IfOk-weaker c.leaf.result _ _
    (λ (term : Tree) is. is ∙ value-none (literals_in c.args.program.now c.args.source) c.literals_in.result.now c.args.at (cell_term c.args.store.now.now c.args.base) c.literals_in.ensures c.in-None.ensures.lookup.3)
    c.leaf.ensures.term
