use Rattle.std.proofs.Common.{rules, ◌≡◌, ◌∷◌, ◌++◌, ◌<◌, [], ℕ, List, suc, length, map, Option, Some, None, get_or, reverse, refl, sym, ap, subst, ◌∙◌}
use Rattle.std.specs.Prelude.{Result, Ok, Err, IfOk, option_map, slice_get}
use Rattle.le_terms.specs.declared.program.Atom.{Atom}
use Rattle.le_terms.specs.declared.program.Form.{Form}
use Rattle.le_terms.specs.declared.program.Form.TheVariants.{Pos, Neg, Calc, Gather}
use Rattle.le_terms.specs.declared.program.Literal.{Literal}
use Rattle.le_proofs.specs.Goals.{Goal}
use Rattle.le_goals.specs.declared.reading.Kind.TheVariants as kinds
use Rattle.le_goals.specs.declared.reading.Shape.{Shape}
use Rattle.le_cells.specs.declared.goals.OpenGoal.{OpenGoal}
use Rattle.le_goals.specs.Shown.{kind_of, shape_of}
use Rattle.le_cells.specs.declared.goals.Searches.{Searches}
use Rattle.le_cells.specs.Keeping.{goal_now, IsSearched, open_marks, waiting_marks}
use Rattle.le_cells.specs.Turns.{opened}
use Rattle.le_cells.proofs.Turning.{SameAt, ok-all, same-more, same-behind}
use Rattle.le_cells.proofs.UnderWay.{within, comes-by, found-there, same-self}
use Rattle.le_cells.proofs.Undone.{opened-ready}
use Rattle.le_cells.proofs.Resting.{calc-form}
use Rattle.le_cells.proofs.visiting.selected.Goals as goal

-- a form of a kind is of that kind
atomic : (form : Form) → kind_of form ≡ kinds.Atom → (atom : Atom) × (form ≡ Pos atom)
atomic (Pos atom) is = (atom, refl)
atomic (Neg atom) is = absurd (cc is)
atomic (Calc atom) is = absurd (cc is)
atomic (Gather fold result value atom) is = absurd (cc is)

searched-by : (form : Form) → (kind_of form ≡ kinds.Atom → ⊥) → (kind_of form ≡ kinds.Computed → ⊥) → IsSearched form
searched-by (Pos atom) un other = un refl
searched-by (Neg atom) un other = tt
searched-by (Calc atom) un other = other refl
searched-by (Gather fold result value atom) un other = tt

-- the shape of the literal that is selected
shape-is : (literals : List Literal) (place : ℕ) (literal : Literal) (o : Option Shape) (shape : Shape) → place < length literals → literal ≡ get_or literals place literal → o ≡ option_map shape_of (slice_get literals place) → o ≡ Some shape → shape ≡ shape_of literal
shape-is literals place literal o shape inside read is some = cc (sym some ∙ (is ∙ ap (option_map shape_of) (found-there literals place literal inside read)))

pub returns-in_ok-split-in-Atom-clause-comes : goal.returns-in_ok-split-in-Atom-clause-comes
returns-in_ok-split-in-Atom-clause-comes c = λ program budget given left literal selects way.
    let cells = c.args.goals.now in
    let inner = c.args.searches.now.inner in
    let around = reverse c.args.searches.now.waiting.items in
    let at : Goal = goal_now cells c.args.goal in
    let same : c.in-Some.shape ≡ shape_of literal = shape-is at.literals c.args.place literal c.shape_at.result c.in-Some.shape c.requires.literal.literal selects.1 c.shape_at.ensures c.in-Some.is in
    let is = atomic literal.form (sym (ap (λ s. s.kind) same) ∙ c.in-Atom.is) in
    let ns : List ℕ = open_marks inner.opens.items (waiting_marks around) in
    let all : SameAt cells.marks c.split.new.goals.marks ns = subst (λ ms. SameAt cells.marks ms ns) (sym c.in_ok-split-in-Atom.ensures.marks) (same-more cells.marks (cells.now ∷ []) ns c.requires.marked) in
    within program budget given around cells c.split.new.goals inner c.split.new.search (Some at) None (suc left) left
    (same-behind cells.marks c.split.new.goals.marks (map (λ (kept : OpenGoal). kept.mark) (reverse inner.opens.items)) (waiting_marks around) all) c.in_ok-split-in-Atom.ensures.keeps
    (c.in_ok-split-in-Atom.ensures.leads left program literal is.0 selects is.1) way

pub returns-in_ok-split-in-Atom-clause-opens : goal.returns-in_ok-split-in-Atom-clause-opens
returns-in_ok-split-in-Atom-clause-opens c = λ left open_ ready.
    let cells = c.args.goals.now in
    let after : Searches = record { inner = c.split.new.search; waiting = c.args.searches.now.waiting } in
    let kept : OpenGoal = opened cells c.args.searches.now.inner c.args.goal c.args.place in
    opened-ready left cells.marks c.split.new.goals.marks cells.now c.args.searches.now after kept c.in_ok-split-in-Atom.ensures.marks refl c.in_ok-split-in-Atom.ensures.opens refl open_ ready

pub returns-in-Computed-clause-comes : goal.returns-in-Computed-clause-comes
returns-in-Computed-clause-comes c =
    let cells = c.args.goals.now in
    let around = reverse c.args.searches.now.waiting.items in
    let at : Goal = goal_now cells c.args.goal in
    let after : Searches = record { inner = c.computed_literal.new.search; waiting = c.args.searches.now.waiting } in
    ok-three _ _ _ _
    (λ turn leads keeps marks program budget given left literal selects way.
    let same : c.in-Some.shape ≡ shape_of literal = shape-is at.literals c.args.place literal c.shape_at.result c.in-Some.shape c.requires.literal.literal selects.1 c.shape_at.ensures c.in-Some.is in
    let is = calc-form literal.form (sym (ap (λ s. s.kind) same) ∙ c.in-Computed.is) in
    comes-by program budget given around cells c.computed_literal.new.goals c.args.searches.now.inner after at (suc left) left turn refl
    (subst (λ ms. SameAt cells.marks ms (waiting_marks around)) (sym marks) (same-self cells.marks (waiting_marks around))) keeps (leads left program literal is.0 selects is.1) way)
    c.computed_literal.result c.computed_literal.ensures.leads c.computed_literal.ensures.keeps c.computed_literal.ensures.marks
  where
    ok-three : {X E : Type 0} (P Q R : X → Type 0) (M : Type 0) → ((x : X) → P x → Q x → M → R x) → (r : Result X E) → IfOk r P → IfOk r Q → M → IfOk r R
    ok-three P Q R M give (Ok x) p q m = give x p q m
    ok-three P Q R M give (Err e) p q m = tt

pub returns-in_default-kind-clause-comes : goal.returns-in_default-kind-clause-comes
returns-in_default-kind-clause-comes c =
    let at : Goal = goal_now c.args.goals.now c.args.goal in
    ok-all _ _
    (λ turn comes program budget given left literal selects way.
    let same : c.in-Some.shape ≡ shape_of literal = shape-is at.literals c.args.place literal c.shape_at.result c.in-Some.shape c.requires.literal.literal selects.1 c.shape_at.ensures c.in-Some.is in
    let kind : c.in-Some.shape.kind ≡ kind_of literal.form = ap (λ s. s.kind) same in
    comes program budget given left literal selects (searched-by literal.form (λ h. c.in_default-kind.not-Atom (kind ∙ h)) (λ h. c.in_default-kind.not-Computed (kind ∙ h))) (sym (ap (λ s. s.line) same)) way) c.begin.result c.begin.ensures.comes
