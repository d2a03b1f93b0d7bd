use Rattle.std.proofs.Common.{◌≡◌, ◌+◌, ◌∷◌, [], Bool, length, subst, sym}
use Rattle.std.proofs.lemmas.Result.{IfOk-weaker}
use Rattle.le_terms.specs.Tree.{Tree, tree_of}
use Rattle.le_terms.specs.declared.program.Literal.{Literal}
use Rattle.le_proofs.specs.Goals.{literal_under}
use Rattle.le_goals.specs.Frames.{cell_term, shaped, goal_of}
use Rattle.le_goals.specs.Shown.{literal_of, result_of}
use Rattle.le_goals.specs.Parting.{laid_at}
use Rattle.le_goals.specs.Equations.{UnifiesPair}
use Rattle.le_goals.proofs.Spots.{get-from, read-literal}
use Rattle.le_goals.proofs.ReadLiterals.{literal-there}
use Rattle.le_goals.proofs.Equated.{unified-pair, whole-flat}
use Rattle.le_goals.proofs.goals.equating.unify_result.Goals as goal

pub build_result-requires : goal.build_result-requires
build_result-requires c =
    literal-there c.args.program.now c.requires.program c.args.store.now c.args.frames.now c.args.goal c.args.place c.in-Some.spot (c.in-Some.ensures c.args.program.now (length c.args.store.now.now.terms) c.requires.frames) c.index-literals_in-spot.result _
    (get-from c.literals_in.result.now _ (c.in-Some.spot.part.from + c.in-Some.spot.left) c.index-literals_in-spot.result _ c.index-literals_in-spot.is c.literals_in.ensures)

pub unify-requires-clause-second : goal.unify-requires-clause-second
unify-requires-clause-second c = (c.in_ok-second.ensures.cell (tree_of (c.args.sym ∷ [])) (whole-flat c.args.sym c.requires.whole)).there

pub returns-clause-unified : goal.returns-clause-unified
returns-clause-unified c =
    let here = c.in-Some.ensures c.args.program.now (length c.args.store.now.now.terms) c.requires.frames in
    let literal = literal_under (cell_term c.args.store.now.now c.in-Some.spot.part.base) (shaped c.in-Some.spot.part.alone c.index-literals_in-spot.result) in
    let seen : literal ≡ literal_of (goal_of c.args.program.now c.args.store.now.now (laid_at c.args.program.now c.args.frames.now c.args.goal)) c.args.place =
    sym (read-literal c.args.program.now (length c.args.store.now.now.terms) c.args.frames.now c.args.goal c.args.place here.0 c.in-Some.spot here.1 c.args.store.now.now c.index-literals_in-spot.result _
    (get-from c.literals_in.result.now _ (c.in-Some.spot.part.from + c.in-Some.spot.left) c.index-literals_in-spot.result _ c.index-literals_in-spot.is c.literals_in.ensures)) in
    IfOk-weaker c.unify.result _ _
    (λ (equal : Bool) made (tree : Tree) same. subst (λ (l : Literal). UnifiesPair c.args.store.now c.unify.new.store (result_of l.form) tree equal) seen
    (unified-pair c.args.store.now c.build_result.new.store c.build_symbol.new.store c.unify.new.store c.build_result.ensures.extends c.build_symbol.ensures.extends
    (result_of literal.form) tree c.in_ok-first.first c.in_ok-second.second c.in_ok-first.ensures.cell (c.in_ok-second.ensures.cell tree same) c.unify.ensures.same equal made))
    c.unify.ensures.unified
