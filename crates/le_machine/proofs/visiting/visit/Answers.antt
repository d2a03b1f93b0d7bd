use Rattle.std.proofs.Common.{◌≡◌, ◌≢◌, suc, ◌-◌, ◌∷◌, get_or, length, reverse, Option, Some, None, rules, refl, sym, ap, subst, ◌∙◌, arith}
use Rattle.std.specs.Prelude.{option_map}
use Rattle.le_terms.specs.declared.program.Literal.{Literal}
use Rattle.le_proofs.specs.declared.next.Next.TheVariants.{Floundered, Spent}
use Rattle.le_proofs.specs.Goals.{Picked, selected}
use Rattle.le_derivations.proofs.Stops.{spent-ends, unselected-ends}
use Rattle.le_machine.specs.Keeping.{goal_of, IsReady}
use Rattle.le_machine.specs.State.{IsAtEnd}
use Rattle.le_machine.specs.Turns.{AreUnderWay}
use Rattle.le_machine.proofs.SelectedAt.{selects-at, some-first, literal-at}
use Rattle.le_machine.proofs.Turning.{ok-all, all-fewer}
use Rattle.le_machine.proofs.UnderWay.{under-way-ends}
use Rattle.le_machine.proofs.visiting.visit.Goals as goal

pub returns-then-left-eq0-clause-comes : goal.returns-then-left-eq0-clause-comes
returns-then-left-eq0-clause-comes c = λ budget given way.
    let first = some-first c.args.goal.literals.items c.requires.some in (
      λ h. absurd (cc h),
      subst (λ n. IsAtEnd c.args.program.now budget given n Spent) (sym c.if-left-eq0.true)
          (under-way-ends c.args.program.now budget given (reverse c.args.searches.now.waiting.items) c.args.searches.now.inner (goal_of c.args.goal) 0 Spent 0 tt (spent-ends c.args.program.now (goal_of c.args.goal) first.0 first.1 first.2)
          (subst (AreUnderWay c.args.program.now budget given c.args.searches.now (Some (goal_of c.args.goal))) c.if-left-eq0.true way)),
    )

pub returns-in_default-clause-comes : goal.returns-in_default-clause-comes
returns-in_default-clause-comes c = λ budget given way.
    let literals = c.args.goal.literals.items in
    let first = some-first literals c.requires.some in
    let read : c.index.result.now ≡ get_or literals 0 c.index.result.now = search rules in
    let same : c.index.result.now ≡ first.0 = read ∙ ap (λ ls. get_or ls 0 c.index.result.now) first.2 in
    let none : option_map (λ (picked : Picked Literal). length picked.before) (selected c.args.program.now.version literals) ≡ None =
    subst (λ ls. option_map (λ (picked : Picked Literal). length picked.before) (selected c.args.program.now.version ls) ≡ None) c.deref.ensures.value (sym c.select.ensures ∙ c.in_default.is) in
    let unselected : selected c.args.program.now.version (first.0 ∷ first.1) ≡ None = unpicked (selected c.args.program.now.version (first.0 ∷ first.1)) (ap (λ ls. option_map (λ (picked : Picked Literal). length picked.before) (selected c.args.program.now.version ls)) (sym first.2) ∙ none) in
    let left = c.args.left.now in
    let some : left ≢ 0 = c.if-left-eq0.false in
    let one : left ≡ suc (left - 1) = omega arith in (
      λ h. absurd (cc h),
      subst (λ n. IsAtEnd c.args.program.now budget given n (Floundered c.index.result.now.line)) (sym one)
          (subst (λ l. IsAtEnd c.args.program.now budget given (suc (left - 1)) (Floundered l.line)) (sym same)
          (under-way-ends c.args.program.now budget given (reverse c.args.searches.now.waiting.items) c.args.searches.now.inner (goal_of c.args.goal) (suc (left - 1)) (Floundered first.0.line) (suc (left - 1)) tt
          (unselected-ends c.args.program.now (goal_of c.args.goal) first.0 first.1 (left - 1) first.2 unselected)
          (subst (AreUnderWay c.args.program.now budget given c.args.searches.now (Some (goal_of c.args.goal))) one way))),
    )
  where
    unpicked : (o : Option (Picked Literal)) → option_map (λ (picked : Picked Literal). length picked.before) o ≡ None → o ≡ None
    unpicked None h = refl
    unpicked (Some picked) h = absurd (cc h)

pub selected-requires-clause-inside : goal.selected-requires-clause-inside
selected-requires-clause-inside c =
    let at : option_map (λ (picked : Picked Literal). length picked.before) (selected c.args.program.now.version c.args.goal.literals.items) ≡ Some c.in-Some.place =
    subst (λ ls. option_map (λ (picked : Picked Literal). length picked.before) (selected c.args.program.now.version ls) ≡ Some c.in-Some.place) c.deref.ensures.value (sym c.select.ensures ∙ c.in-Some.is) in
    (selects-at c.args.program.now c.args.goal.literals.items c.in-Some.place at).0

pub returns-clause-comes : goal.returns-clause-comes
returns-clause-comes c =
    let literals = c.args.goal.literals.items in
    let at : option_map (λ (picked : Picked Literal). length picked.before) (selected c.args.program.now.version literals) ≡ Some c.in-Some.place =
    subst (λ ls. option_map (λ (picked : Picked Literal). length picked.before) (selected c.args.program.now.version ls) ≡ Some c.in-Some.place) c.deref.ensures.value (sym c.select.ensures ∙ c.in-Some.is) in
    let selects = selects-at c.args.program.now literals c.in-Some.place at in
    let there = literal-at literals c.in-Some.place selects.0 in
    let left = c.args.left.now in
    let some : left ≢ 0 = c.if-left-eq0.false in
    let one : left ≡ suc (left - 1) = omega arith in
    ok-all _ _
    (λ turn comes budget given way.
    comes c.args.program.now budget given (left - 1) there.0 (selects.1 there.0 there.1) (subst (AreUnderWay c.args.program.now budget given c.args.searches.now (Some (goal_of c.args.goal))) one way)) c.selected.result c.selected.ensures.comes

pub returns-clause-opens : goal.returns-clause-opens
returns-clause-opens c =
    let literals = c.args.goal.literals.items in
    let at : option_map (λ (picked : Picked Literal). length picked.before) (selected c.args.program.now.version literals) ≡ Some c.in-Some.place =
    subst (λ ls. option_map (λ (picked : Picked Literal). length picked.before) (selected c.args.program.now.version ls) ≡ Some c.in-Some.place) c.deref.ensures.value (sym c.select.ensures ∙ c.in-Some.is) in
    let left = c.args.left.now in
    let some : left ≢ 0 = c.if-left-eq0.false in
    let one : left ≡ suc (left - 1) = omega arith in
    ok-all _ _
    (λ turn opens. opens (left - 1) (record { ready = subst (λ n. IsReady n c.args.goal) one c.requires.ready; inside = (selects-at c.args.program.now literals c.in-Some.place at).0 })
    (all-fewer left (left - 1) c.args.searches.now (omega arith) c.requires.opens)) c.selected.result c.selected.ensures.opens
