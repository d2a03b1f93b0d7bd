-- What a machine answers is the next answer of the program, or its end.
use Rattle.std.proofs.Common.{◌≡◌, ℕ, ◌+◌, ◌-◌, ◌*◌, ◌^◌, ◌<◌, ◌≤◌, List, length, sym, ap, subst, ◌∙◌, mul-le-mul, arith}
use Rattle.std.specs.Prelude.{Some, option_map}
use Rattle.le_terms.specs.Tree.{Tree}
use Rattle.le_terms.specs.Program.{IsProgram, HasVariablesBelow}
use Rattle.le_terms.specs.Variables.{all_variables}
use Rattle.le_terms.specs.declared.program.Program.{Program}
use Rattle.le_terms.proofs.Few.{length-all_variables-le}
use Rattle.le_proofs.specs.Proofs.{Leaf}
use Rattle.le_proofs.specs.SearchTree.{empty_leaf}
use Rattle.le_proofs.specs.UnderWay.{leaf_along}
use Rattle.le_derivations.proofs.GoingUp.{along-terms}
use Rattle.le_proofs.specs.Search.{answers_of}
use Rattle.le_proofs.specs.declared.next.Next.TheVariants.{Answer, Done, Floundered, OutOfRange, Spent}
use Rattle.le_proofs.proofs.Counts.{answers-few}
use Rattle.le_proofs.proofs.LeavesBelow.{answers-below}
use Rattle.le_cells.specs.declared.goals.Searches.{Searches}
use Rattle.le_cells.specs.declared.phase.Phase.{Phase}
use Rattle.le_cells.specs.declared.phase.Phase.TheVariants.{Fresh, Told, Lost}
use Rattle.le_goals.specs.Shown.{Shown as Cells}
use Rattle.le_cells.specs.Keeping.{goal_now}
use Rattle.le_cells.specs.State.{Selections, IsAtLeaf, Stands}
use Rattle.le_cells.proofs.UnderWay.{along-left}
use Rattle.le_literals.proofs.Walks.{all-slice}

-- an answer has a number of 64 bits
pub given-fits : (program : Program) (budget given : ℕ) → IsProgram program → budget ≤ 1000000 → given < length (answers_of program budget) → given + 1 < 2 ^ 64
given-fits program budget given is small less =
    let few : length (answers_of program budget) ≤ 1 + budget * length program.clauses = answers-few program budget in
    let clauses : length program.clauses ≤ 2 ^ 31 = omega (arith, is.count) in
    let product : budget * length program.clauses ≤ 1000000 * 2 ^ 31 = mul-le-mul small clauses in
    omega arith

-- an answer's terms have few variables
pub values-few : (program : Program) (budget given left : ℕ) (cells : Cells) (searches : Searches) (number : ℕ) → IsProgram program → budget ≤ 1000000 → IsAtLeaf program budget given left cells searches number → length (all_variables (goal_now cells number).terms) < 2 ^ 32
values-few program budget given left cells searches number is small at =
    let terms : List Tree = (goal_now cells number).terms in
    let leaf : Leaf = leaf_along at.steps (empty_leaf terms left) in
    let one : HasVariablesBelow (64 + 64 * budget) leaf.terms = all-slice (λ (leaf : Leaf). HasVariablesBelow (64 + 64 * budget) leaf.terms) (answers_of program budget) (given - 1) leaf (answers-below program budget is) at.place in
    let few : length (all_variables terms) ≤ 64 + 64 * budget = length-all_variables-le (64 + 64 * budget) terms (subst (HasVariablesBelow (64 + 64 * budget)) (along-terms at.steps (empty_leaf terms left)) one) in
    omega arith

-- the selections up to what was answered
pub selections-are : (program : Program) (budget given : ℕ) (phase : Phase) (left : ℕ) (cells : Cells) (searches : Searches) (leaf : ℕ) → Stands phase program budget given left cells searches leaf
    → Selections (record { program = program; budget = budget; given = given; phase = phase }) phase (budget - left)
selections-are program budget given Fresh left cells searches leaf stands = let full : left ≡ budget = stands.1 in omega arith
selections-are program budget given (Told Answer) left cells searches leaf stands = ap (option_map (λ (leaf : Leaf). budget - leaf.left)) stands.place ∙ ap (λ n. Some (budget - n)) (along-left stands.steps (empty_leaf (goal_now cells leaf).terms left))
selections-are program budget given (Told Done) left cells searches leaf stands = ap (λ n. budget - n) (sym stands.selections)
selections-are program budget given (Told (Floundered line)) left cells searches leaf stands = ap (λ n. budget - n) (sym stands.selections)
selections-are program budget given (Told (OutOfRange line)) left cells searches leaf stands = ap (λ n. budget - n) (sym stands.selections)
selections-are program budget given (Told Spent) left cells searches leaf stands = ap (λ n. budget - n) (sym stands.selections)
selections-are program budget given Lost left cells searches leaf stands = tt
