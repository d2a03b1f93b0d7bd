use Rattle.std.proofs.Common.{◌≡◌, List, OnOk, reverse, subst}
use Rattle.le_clauses.specs.declared.draft.Done.{Done}
use Rattle.le_clauses.proofs.DraftSteps.{left_and, left_or}
use Rattle.le_clauses.proofs.drafting.made.Goals as goal

pub returns-in-And-clause-left : goal.returns-in-And-clause-left
returns-in-And-clause-left c =
    let Left : List Done → Type 0 = λ ds. OnOk c.conjunction.result (reverse c.conjunction.new.stack.items ≡ ds) in
    subst Left (left_and c.args.part.now c.in-And.count (reverse c.args.stack.now.items) c.in-And.is) c.conjunction.ensures.left

pub returns-in-Or-clause-left : goal.returns-in-Or-clause-left
returns-in-Or-clause-left c =
    let Left : List Done → Type 0 = λ ds. OnOk c.disjunction.result (reverse c.disjunction.new.stack.items ≡ ds) in
    subst Left (left_or c.args.part.now c.in-Or.count (reverse c.args.stack.now.items) c.in-Or.is) c.disjunction.ensures.left
