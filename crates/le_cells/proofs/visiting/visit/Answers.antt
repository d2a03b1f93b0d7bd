use Rattle.std.proofs.Common.{◌≡◌, ◌≢◌, ◌<◌, ℕ, suc, ◌-◌, ◌∷◌, List, get_or, length, reverse, Option, Some, None, rules, refl, sym, ap, subst, ◌∙◌, arith}
use Rattle.std.specs.Prelude.{option_map, slice_get}
use Rattle.le_terms.specs.declared.program.Literal.{Literal}
use Rattle.le_proofs.specs.declared.next.Next.TheVariants.{Floundered, Spent}
use Rattle.le_proofs.specs.Goals.{Goal, Picked, selected}
use Rattle.le_derivations.proofs.Stops.{spent-ends, unselected-ends}
use Rattle.le_cells.specs.Keeping.{goal_now, IsReadyAt}
use Rattle.le_cells.specs.State.{IsAtEnd}
use Rattle.le_cells.specs.Turns.{AreUnderWay}
use Rattle.le_cells.proofs.SelectedAt.{selects-at, some-first, literal-at}
use Rattle.le_cells.proofs.Turning.{ok-all, all-fewer}
use Rattle.le_cells.proofs.UnderWay.{under-way-ends}
use Rattle.le_cells.proofs.visiting.visit.Goals as goal

pub returns-then-left-eq0-clause-comes : goal.returns-then-left-eq0-clause-comes
returns-then-left-eq0-clause-comes c = λ budget given way.
    let cells = c.args.goals.now in
    let at : Goal = goal_now cells c.args.goal in
    let first = some-first at.literals c.requires.some in (
      λ h. absurd (cc h),
      subst (λ n. IsAtEnd cells.program budget given n Spent) (sym c.if-left-eq0.true)
          (under-way-ends cells.program budget given (reverse c.args.searches.now.waiting.items) cells c.args.searches.now.inner at 0 Spent 0 tt (spent-ends cells.program at first.0 first.1 first.2)
          (subst (AreUnderWay cells.program budget given cells c.args.searches.now (Some at)) c.if-left-eq0.true way)),
    )

-- a list that begins so has this first item
first-is : (literals : List Literal) (first : Literal) (rest : List Literal) → literals ≡ first ∷ rest → slice_get literals 0 ≡ Some first
first-is literals first rest h = ap (λ ls. slice_get ls 0) h

unpicked : (o : Option (Picked Literal)) → option_map (λ (picked : Picked Literal). length picked.before) o ≡ None → o ≡ None
unpicked None h = refl
unpicked (Some picked) h = absurd (cc h)

pub returns-in_default-clause-comes : goal.returns-in_default-clause-comes
returns-in_default-clause-comes c = λ budget given way.
    let cells = c.args.goals.now in
    let at : Goal = goal_now cells c.args.goal in
    let first = some-first at.literals c.requires.some in
    let line : c.line_of_first.result ≡ first.0.line = c.line_of_first.ensures first.0 (first-is at.literals first.0 first.1 first.2) in
    let none : option_map (λ (picked : Picked Literal). length picked.before) (selected cells.program.version at.literals) ≡ None =
    subst (λ v. option_map (λ (picked : Picked Literal). length picked.before) (selected v at.literals) ≡ None) c.requires.version (sym c.in_ok-place.ensures ∙ c.in_default.is) in
    let unselected : selected cells.program.version (first.0 ∷ first.1) ≡ None =
    unpicked (selected cells.program.version (first.0 ∷ first.1)) (ap (λ ls. option_map (λ (picked : Picked Literal). length picked.before) (selected cells.program.version ls)) (sym first.2) ∙ none) in
    let left = c.args.left.now in
    let some : left ≢ 0 = c.if-left-eq0.false in
    let one : left ≡ suc (left - 1) = omega arith in (
      λ h. absurd (cc h),
      subst (λ n. IsAtEnd cells.program budget given n (Floundered c.line_of_first.result)) (sym one)
          (subst (λ l. IsAtEnd cells.program budget given (suc (left - 1)) (Floundered l)) (sym line)
          (under-way-ends cells.program budget given (reverse c.args.searches.now.waiting.items) cells c.args.searches.now.inner at (suc (left - 1)) (Floundered first.0.line) (suc (left - 1)) tt
          (unselected-ends cells.program at first.0 first.1 (left - 1) first.2 unselected)
          (subst (AreUnderWay cells.program budget given cells c.args.searches.now (Some at)) one way))),
    )

pub selected-requires-clause-literal : goal.selected-requires-clause-literal
selected-requires-clause-literal c =
    let cells = c.args.goals.now in
    let at : Goal = goal_now cells c.args.goal in
    let found : option_map (λ (picked : Picked Literal). length picked.before) (selected cells.program.version at.literals) ≡ Some c.in-Some.place =
    subst (λ v. option_map (λ (picked : Picked Literal). length picked.before) (selected v at.literals) ≡ Some c.in-Some.place) c.requires.version (sym c.in_ok-place.ensures ∙ c.in-Some.is) in
    record { goal = c.requires.ready.there; literal = (selects-at cells.program at.literals c.in-Some.place found).0 }

pub returns-clause-comes : goal.returns-clause-comes
returns-clause-comes c =
    let cells = c.args.goals.now in
    let at : Goal = goal_now cells c.args.goal in
    let found : option_map (λ (picked : Picked Literal). length picked.before) (selected cells.program.version at.literals) ≡ Some c.in-Some.place =
    subst (λ v. option_map (λ (picked : Picked Literal). length picked.before) (selected v at.literals) ≡ Some c.in-Some.place) c.requires.version (sym c.in_ok-place.ensures ∙ c.in-Some.is) in
    let selects = selects-at cells.program at.literals c.in-Some.place found in
    let there = literal-at at.literals c.in-Some.place selects.0 in
    let left = c.args.left.now in
    let some : left ≢ 0 = c.if-left-eq0.false in
    let one : left ≡ suc (left - 1) = omega arith in
    ok-all _ _
    (λ turn comes budget given way.
    comes cells.program budget given (left - 1) there.0 (selects.1 there.0 there.1) (subst (AreUnderWay cells.program budget given cells c.args.searches.now (Some at)) one way)) c.selected.result c.selected.ensures.comes

pub returns-clause-opens : goal.returns-clause-opens
returns-clause-opens c =
    let cells = c.args.goals.now in
    let at : Goal = goal_now cells c.args.goal in
    let found : option_map (λ (picked : Picked Literal). length picked.before) (selected cells.program.version at.literals) ≡ Some c.in-Some.place =
    subst (λ v. option_map (λ (picked : Picked Literal). length picked.before) (selected v at.literals) ≡ Some c.in-Some.place) c.requires.version (sym c.in_ok-place.ensures ∙ c.in-Some.is) in
    let left = c.args.left.now in
    let some : left ≢ 0 = c.if-left-eq0.false in
    let one : left ≡ suc (left - 1) = omega arith in
    ok-all _ _
    (λ turn opens. opens (left - 1) (record { ready = subst (λ n. IsReadyAt n cells.now c.args.goal) one c.requires.ready; inside = (selects-at cells.program at.literals c.in-Some.place found).0 })
    (all-fewer left (left - 1) cells.marks c.args.searches.now (omega arith) c.requires.opens)) c.selected.result c.selected.ensures.opens
