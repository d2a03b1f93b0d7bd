use Rattle.std.proofs.Common.{rules, ◌≡◌, ℕ, suc, ◌+◌, ◌-◌, ◌<◌, length, Some, true, false, refl, sym, ap, subst, ◌∙◌, add-one, arith}
use Rattle.std.specs.Prelude.{IfOk, slice_get}
use Rattle.le_terms.specs.declared.program.Literal.{Literal}
use Rattle.le_proofs.specs.Goals.{is_delayed}
use Rattle.le_goals.specs.Shown.{shape_of, literal_of, no_literal}
use Rattle.le_cells.specs.Keeping.{goal_now}
use Rattle.le_cells.proofs.Picking.{place_from, place-first, place-none, place-here, place-later, shape-some, shape-none, get-some}
use Rattle.le_cells.proofs.selecting.select.Goals as goal

pub loop-shape-init : goal.loop-shape-init
loop-shape-init c = sym (place-first c.args.version (goal_now c.args.goals.now c.args.goal).literals)

pub is_delayed-requires : goal.is_delayed-requires
is_delayed-requires c =
    let literals = (goal_now c.args.goals.now c.args.goal).literals in
    let at = shape-some shape_of (slice_get literals c.loop-shape.place) c.in-Some.shape (sym c.shape_at.ensures ∙ c.in-Some.is) in
    record { goal = c.requires.there; literal = (get-some literals c.loop-shape.place at.0 no_literal at.1).0 }

-- the literal that is looked at, and whether it is passed over
pub returns-then-not-branch : goal.returns-then-not-branch
returns-then-not-branch c =
    let literals = (goal_now c.args.goals.now c.args.goal).literals in
    let at = shape-some shape_of (slice_get literals c.loop-shape.place) c.in-Some.shape (sym c.shape_at.ensures ∙ c.in-Some.is) in
    let same : c.in_ok-is_delayed.field-0 ≡ is_delayed c.args.version at.0 = c.in_ok-is_delayed.ensures at.0 (get-some literals c.loop-shape.place at.0 no_literal at.1).1 (sym (ap (λ s. s.kind) at.2)) in
    sym (c.loop-shape.invariant ∙ place-here c.args.version literals c.loop-shape.place at.0 at.1 (sym same ∙ c.if-not-branch.true))

pub loop-shape-smaller : goal.loop-shape-smaller
loop-shape-smaller c =
    let literals = (goal_now c.args.goals.now c.args.goal).literals in
    let at = shape-some shape_of (slice_get literals c.loop-shape.place) c.in-Some.shape (sym c.shape_at.ensures ∙ c.in-Some.is) in
    let inside : c.loop-shape.place < length literals = (get-some literals c.loop-shape.place at.0 no_literal at.1).0 in
    let next : c.in-Some-checked_add.next ≡ c.loop-shape.place + 1 = search rules in
    omega (arith, inside, next)

pub loop-shape-preserved : goal.loop-shape-preserved
loop-shape-preserved c =
    let literals = (goal_now c.args.goals.now c.args.goal).literals in
    let at = shape-some shape_of (slice_get literals c.loop-shape.place) c.in-Some.shape (sym c.shape_at.ensures ∙ c.in-Some.is) in
    let same : c.in_ok-is_delayed.field-0 ≡ is_delayed c.args.version at.0 = c.in_ok-is_delayed.ensures at.0 (get-some literals c.loop-shape.place at.0 no_literal at.1).1 (sym (ap (λ s. s.kind) at.2)) in
    let next : c.in-Some-checked_add.next ≡ c.loop-shape.place + 1 = search rules in
    c.loop-shape.invariant ∙ (place-later c.args.version literals c.loop-shape.place at.0 at.1 (sym same ∙ c.if-not-branch.false) ∙ ap (place_from c.args.version literals) (sym (next ∙ add-one c.loop-shape.place)))

pub returns : goal.returns
returns c =
    let literals = (goal_now c.args.goals.now c.args.goal).literals in
    sym (c.loop-shape.invariant ∙ place-none c.args.version literals c.loop-shape.place (shape-none shape_of (slice_get literals c.loop-shape.place) (sym c.shape_at.ensures ∙ c.in_default.is)))
