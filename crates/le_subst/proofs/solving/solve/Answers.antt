use Rattle.std.proofs.Common.{◌≡◌, ◌∙◌, [], None, Some, IfNone, IfSome, ap, sym, subst}
use Rattle.le_subst.specs.Solution.{solve_of}
use Rattle.le_subst.specs.Symbols.{equations_of}
use Rattle.le_subst.specs.Steps.{bound_after}
use Rattle.le_subst.proofs.Mgu.{Solves, solves}
use Rattle.le_subst.proofs.solving.solve.Goals as goal

pub returns-in-None-clause-none : goal.returns-in-None-clause-none
returns-in-None-clause-none c =
    let equations = c.args.equations.now in
    let none : solve_of (equations_of c.in_ok-left.left.items c.in_ok-left.right.items) ≡ None =
    subst (λ answer. IfNone answer (solve_of (equations_of c.in_ok-left.left.items c.in_ok-left.right.items) ≡ None)) c.in-None.is c.in_ok-triangle.ensures.none in
    subst (λ answer. Solves answer equations) (ap solve_of (sym c.in_ok-left.ensures.equations) ∙ none) (solves equations)

pub returns-in_ok-closed-in-Some-clause-mgu : goal.returns-in_ok-closed-in-Some-clause-mgu
returns-in_ok-closed-in-Some-clause-mgu c =
    let equations = c.args.equations.now in
    let answer = solve_of (equations_of c.in_ok-left.left.items c.in_ok-left.right.items) in
    let found : bound_after c.in-Some.bindings.items (Some []) ≡ answer =
    subst (λ found. IfSome found (λ bindings. bound_after bindings.items (Some []) ≡ answer)) c.in-Some.is c.in_ok-triangle.ensures.found in
    subst (λ solution. Solves solution equations) (ap solve_of (sym c.in_ok-left.ensures.equations) ∙ (sym found ∙ sym c.in_ok-closed-in-Some.ensures)) (solves equations)
