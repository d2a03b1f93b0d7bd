-- The solution of equations is a most general unifier of them, and where there is none no substitution unifies them.
use Rattle.std.proofs.Common.{Bool, true, false, List, Result, Ok, Err, IfOk, subst}
use Rattle.le_subst.specs.Unifiers.{Equation}
use Rattle.le_subst.proofs.Mgu.{Solves, solves}
use Rattle.le_store.specs.Shown.{Shown}
use Rattle.le_unify.specs.Unifying.{Unifies, IsGeneral}

general : (old new : Shown) (equations : List Equation) (answer : Bool) → Unifies old new equations answer → IsGeneral old new equations answer
general old new equations true made = (made.0, subst (λ solution. Solves solution equations) made.1 (solves equations), made.2)
general old new equations false none = subst (λ solution. Solves solution equations) none (solves equations)

pub general-result : {E : Type 0} (old new : Shown) (equations : List Equation) (result : Result Bool E) → IfOk result (λ answer. Unifies old new equations answer) → IfOk result (λ answer. IsGeneral old new equations answer)
general-result old new equations (Ok answer) made = general old new equations answer made
general-result old new equations (Err e) made = tt
