use Rattle.std.proofs.Common.{◌<◌, Bool, List, length, subst, sym}
use Rattle.std.proofs.lemmas.Result.{IfOk-weaker}
use Rattle.le_terms.specs.Tree.{Tree}
use Rattle.le_goals.specs.declared.frames.Frame.{Frame}
use Rattle.le_goals.proofs.Restings.{there}
use Rattle.le_goals.proofs.Resolvents.{more-cells}
use Rattle.le_goals.proofs.Equated.{equated-result}
use Rattle.le_goals.proofs.goals.Goals.equate_result.Goals as goal

pub unify_result-requires-clause-there : goal.unify_result-requires-clause-there
unify_result-requires-clause-there c =
    let low : c.args.goal < length c.self.inside.frames.items = (there c.self.inside.program.now c.self.inside.store c.self.inside.frames.items c.self.inside.kept.items c.self.invariant c.args.self.now c.args.goal c.args.place c.self.view_is c.requires.literal).0 in
    subst (λ (fs : List Frame). c.args.goal < length fs) (sym c.as_slice-frames.ensures.value) low

pub invariant_of-self : goal.invariant_of-self
invariant_of-self c = more-cells c.self.inside.program.now c.self.inside.store c.unify_result.new.store c.self.inside.frames.items c.self.inside.kept.items c.self.invariant c.unify_result.ensures.marks c.unify_result.ensures.more

pub returns-clause-equates : goal.returns-clause-equates
returns-clause-equates c =
    let low : c.args.goal < length c.self.inside.frames.items = (there c.self.inside.program.now c.self.inside.store c.self.inside.frames.items c.self.inside.kept.items c.self.invariant c.args.self.now c.args.goal c.args.place c.self.view_is c.requires.literal).0 in
    IfOk-weaker c.unify_result.result _ _
    (λ (equal : Bool) made (tree : Tree) same. equated-result c.self.inside.program.now c.self.invariant.program_ c.self.inside.store c.unify_result.new.store c.self.inside.frames.items c.as_slice-frames.result.now c.self.inside.kept.items c.args.self.now c.args.goal c.args.place c.self.view_is c.self.invariant.frames_ low c.as_slice-frames.ensures.value tree equal (made tree same))
    c.unify_result.ensures.unified
