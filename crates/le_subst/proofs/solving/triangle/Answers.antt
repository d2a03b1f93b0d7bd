use Rattle.std.proofs.Common.{◌≡◌, ◌∙◌, None, List, ap, sym, subst}
use Rattle.le_terms.specs.declared.term.Sym.{Sym}
use Rattle.le_subst.specs.Solution.{solve_of}
use Rattle.le_subst.specs.Symbols.{AreSides, equations_of}
use Rattle.le_subst.specs.Steps.{StepMeans, LeadsTo, bound_after}
use Rattle.le_subst.specs.declared.solving.Step.{Step}
use Rattle.le_subst.specs.declared.solving.Step.TheVariants.{Failed, Bound}
use Rattle.le_subst.proofs.Bindings.{bound_after-push, bound_after-none}
use Rattle.le_subst.proofs.solving.triangle.Goals as goal

-- what a step says of the equations whose symbols it was given
step_means : (step other : Step) (left right left_items right_items : List Sym) → step ≡ other → left ≡ left_items → right ≡ right_items
    → StepMeans step (equations_of left right) → StepMeans other (equations_of left_items right_items)
step_means step other left right left_items right_items is is_left is_right h =
    subst (λ s. StepMeans s (equations_of left_items right_items)) is
    (subst (λ symbols. StepMeans step (equations_of left_items symbols)) is_right
    (subst (λ symbols. StepMeans step (equations_of symbols right)) is_left h))

pub returns-in-Failed-clause-none : goal.returns-in-Failed-clause-none
returns-in-Failed-clause-none c =
    let left = c.loop-bindings.left.items in
    let right = c.loop-bindings.right.items in
    let bindings = c.loop-bindings.bindings.items in
    let failed : solve_of (equations_of left right) ≡ None =
    step_means c.in_ok-next_step.field-0 Failed c.deref.result.now c.deref-in-loop-bindings.result.now left right c.in-Failed.is c.deref.ensures.value c.deref-in-loop-bindings.ensures.value c.in_ok-next_step.ensures in
    sym c.loop-bindings.invariant.same ∙ (ap (bound_after bindings) failed ∙ bound_after-none bindings)

pub loop-bindings-preserved : goal.loop-bindings-preserved
loop-bindings-preserved c =
    let left = c.loop-bindings.left.items in
    let right = c.loop-bindings.right.items in
    let bindings = c.loop-bindings.bindings.items in
    let new_left = c.in-Bound.new_left.items in
    let new_right = c.in-Bound.new_right.items in
    let v = c.in-Bound.var in
    let tree = c.in-Bound.term in
    let means : AreSides new_left new_right × LeadsTo (equations_of left right) v tree (equations_of new_left new_right) =
    step_means c.in_ok-next_step.field-0 (Bound v tree c.in-Bound.new_left c.in-Bound.new_right) c.deref.result.now c.deref-in-loop-bindings.result.now left right c.in-Bound.is c.deref.ensures.value c.deref-in-loop-bindings.ensures.value c.in_ok-next_step.ensures in
    record {
      sides = means.0;
      same = ap (λ bs. bound_after bs (solve_of (equations_of new_left new_right))) c.in_ok-push-in-Bound.ensures.items
          ∙ (bound_after-push bindings v tree (solve_of (equations_of new_left new_right))
          ∙ (ap (bound_after bindings) (sym means.1.solution) ∙ c.loop-bindings.invariant.same));
    }
