-- What becomes of kept steps when the goals change.
use Rattle.std.proofs.Common.{◌≡◌, ℕ, zero, suc, ◌+◌, ◌<◌, ◌≤◌, List, [], ◌∷◌, ◌++◌, length, map, get_or, take, reverse, refl, sym, ap, subst, ◌∙◌, length-append, arith}
use Rattle.std.specs.List.{AllByRecursion}
use Rattle.std.proofs.Math.ListN as lists
use Rattle.std.proofs.lemmas.List.{get_or_append_left, get_or-map, length-map, length-take-le, reverse-append}
use Rattle.le_base.specs.declared.stop.FoldKind.{FoldKind}
use Rattle.le_terms.specs.Tree.{Tree, variable}
use Rattle.le_terms.specs.Variables.{all_occurrences, replaced}
use Rattle.le_terms.specs.Program.{form_terms}
use Rattle.le_terms.specs.declared.program.Atom.{Atom}
use Rattle.le_terms.specs.declared.program.Form.{Form}
use Rattle.le_terms.specs.declared.program.Form.TheVariants.{Pos, Neg, Calc, Gather}
use Rattle.le_terms.specs.declared.program.Literal.{Literal}
use Rattle.le_subst.specs.Unifiers.{Bindings, value_at}
use Rattle.le_subst.proofs.Replacing.{replaced-agree, replaced-replaced}
use Rattle.le_proofs.specs.Goals.{Goal, Picked, Child, atom_under, form_under, literal_under}
use Rattle.le_proofs.specs.Proofs.{Step, WholeTree, value_computed, failure_shown, cases_gathered, then_by, step_to, step_past}
use Rattle.le_proofs.specs.Derivations.{tree_nodes}
use Rattle.le_proofs.proofs.Instances.{form-there, form-twice, after_by}
use Rattle.le_proofs.proofs.Numbering.{atom-none}
use Rattle.le_proofs.proofs.Trees.{replaced-same}
use Rattle.le_proofs.specs.declared.node.Node.TheVariants as nodes
use Rattle.le_derivations.specs.Paths.{Shows, count_of}
use Rattle.le_goals.specs.Shown.{Snapshot, HasLiteral, Keeps, KeepsUnder, goal_at, goal_under, literal_of, no_goal, no_literal}
use Rattle.le_goals.proofs.Bindings.{agree-all}
use Rattle.le_paths.specs.declared.step.CellStep.{CellStep}
use Rattle.le_paths.specs.Paths.{node_by, node_at, IsMade, IsStepUnder, LeadUnder, LeadHere}

-- ---- literals under substitutions

pub literal-agree : (by with : ℕ → Tree) → ((v : ℕ) → by v ≡ with v) → (literal : Literal) → literal_under by literal ≡ literal_under with literal
literal-agree by with same literal =
    ap (λ f. let l : Literal = record { line = literal.line; form = f } in l) (form-there by with literal.form (agree-all by with same (all_occurrences (form_terms literal.form))))

literal-twice : (by then_by : ℕ → Tree) (literal : Literal) → literal_under then_by (literal_under by literal) ≡ literal_under (after_by by then_by) literal
literal-twice by then_by literal = ap (λ f. let l : Literal = record { line = literal.line; form = f } in l) (form-twice by then_by literal.form)

form-none : (form : Form) → form_under variable form ≡ form
form-none (Pos atom) = ap Pos (atom-none atom)
form-none (Neg atom) = ap Neg (atom-none atom)
form-none (Calc atom) = ap Calc (atom-none atom)
form-none (Gather fold result value atom) =
    ap (λ t. Gather fold t (replaced variable value) (atom_under variable atom)) (replaced-same result)
    ∙ (ap (λ t. Gather fold result t (atom_under variable atom)) (replaced-same value) ∙ ap (Gather fold result value) (atom-none atom))

pub literal-none : (literal : Literal) → literal_under variable literal ≡ literal
literal-none literal = ap (λ f. let l : Literal = record { line = literal.line; form = f } in l) (form-none literal.form)

-- ---- goals that are kept, and under a unifier

-- a goal with a literal at a place is there
goal-there : (goals : List Goal) (number place : ℕ) → place < length (get_or goals number no_goal).literals → number < length goals
goal-there [] number place inside = absurd (omega (arith, inside))
goal-there (goal ∷ goals) zero place inside = omega arith
goal-there (goal ∷ goals) (suc number) place inside = let more : number < length goals = goal-there goals number place inside in omega (arith, more)

pub goal-kept : (old new : Snapshot) (number : ℕ) → Keeps old new → number < length old.goals → goal_at new number ≡ goal_at old number
goal-kept old new number keeps low = ap (λ gs. get_or gs number no_goal) keeps.goals_ ∙ get_or_append_left old.goals keeps.more no_goal number low

pub goal-bound : (bindings : Bindings) (next : ℕ) (old new : Snapshot) (number : ℕ) → KeepsUnder bindings next old new → number < length old.goals → goal_at new number ≡ goal_under bindings next (goal_at old number)
goal-bound bindings next old new number keeps low =
    let long : length (map (goal_under bindings next) old.goals) ≡ length old.goals = length-map old.goals (goal_under bindings next) in
    ap (λ gs. get_or gs number no_goal) keeps.goals_
    ∙ (get_or_append_left (map (goal_under bindings next) old.goals) keeps.more no_goal number (omega (arith, long, low))
    ∙ get_or-map (goal_under bindings next) old.goals number no_goal no_goal low)

literal-bound : (bindings : Bindings) (next : ℕ) (old new : Snapshot) (number place : ℕ) → KeepsUnder bindings next old new → number < length old.goals
    → literal_of (goal_at new number) place ≡ literal_under (value_at bindings) (literal_of (goal_at old number) place)
literal-bound bindings next old new number place keeps low =
    ap (λ g. get_or g.literals place no_literal) (goal-bound bindings next old new number keeps low)
    ∙ lists.get_or-map (literal_under (value_at bindings)) (goal_at old number).literals place no_literal

inside-bound : (bindings : Bindings) (next : ℕ) (old new : Snapshot) (number place : ℕ) → KeepsUnder bindings next old new → number < length old.goals
    → place < length (goal_at old number).literals → place < length (goal_at new number).literals
inside-bound bindings next old new number place keeps low inside =
    let same : length (goal_at new number).literals ≡ length (goal_at old number).literals =
    ap (λ g. length g.literals) (goal-bound bindings next old new number keeps low) ∙ length-map (goal_at old number).literals (literal_under (value_at bindings)) in
    omega (arith, same, inside)

-- ---- what kept steps are depends on their goals' literals and on the values of `by` alone

-- the goal of a kept step has the same literals
abbrev pub HasSameLiterals : Snapshot → Snapshot → CellStep → Type 0
HasSameLiterals old new kept = (goal_at new kept.goal).literals ≡ (goal_at old kept.goal).literals

pub step-same : (old new : Snapshot) (by with : ℕ → Tree) (kept : CellStep) (step : Step) → HasSameLiterals old new kept → ((v : ℕ) → by v ≡ with v) → IsStepUnder old by kept step → IsStepUnder new with kept step
step-same old new by with kept step literals same is = record {
  literal = is.literal;
  inside = subst (λ ls. kept.place < length ls) (sym literals) is.inside;
  now_ = ap (λ ls. get_or ls kept.place no_literal) literals
      ∙ (is.now_ ∙ literal-agree (then_by step.unifier by) (then_by step.unifier with) (λ v. replaced-agree by with same (value_at step.unifier v)) is.literal);
  place_ = is.place_;
  count_ = is.count_;
  reason_ = is.reason_;
}

pub lead-same : (old new : Snapshot) (by with : ℕ → Tree) (keeps : List CellStep) (steps : List Step) → AllByRecursion (HasSameLiterals old new) keeps → ((v : ℕ) → by v ≡ with v)
    → LeadUnder old by keeps steps → LeadUnder new with keeps steps
lead-same old new by with [] [] literals same lead = tt
lead-same old new by with [] (step ∷ steps) literals same lead = lead
lead-same old new by with (kept ∷ keeps) [] literals same lead = lead
lead-same old new by with (kept ∷ keeps) (step ∷ steps) literals same lead = (
  step-same old new by with kept step literals.0 same lead.0,
  lead-same old new (then_by step.unifier by) (then_by step.unifier with) keeps steps literals.1 (λ v. replaced-agree by with same (value_at step.unifier v)) lead.1,
)

same-literals : (snapshot : Snapshot) (keeps : List CellStep) → AllByRecursion (HasSameLiterals snapshot snapshot) keeps
same-literals snapshot [] = tt
same-literals snapshot (kept ∷ keeps) = (refl, same-literals snapshot keeps)

-- the same goals
pub lead-agree : (snapshot : Snapshot) (by with : ℕ → Tree) (keeps : List CellStep) (steps : List Step) → ((v : ℕ) → by v ≡ with v) → LeadUnder snapshot by keeps steps → LeadUnder snapshot with keeps steps
lead-agree snapshot by with keeps steps same lead = lead-same snapshot snapshot by with keeps steps (same-literals snapshot keeps) same lead

-- goals were only added
kept-literals : (old new : Snapshot) (by : ℕ → Tree) (keeps : List CellStep) (steps : List Step) → Keeps old new → LeadUnder old by keeps steps → AllByRecursion (HasSameLiterals old new) keeps
kept-literals old new by [] steps more lead = tt
kept-literals old new by (kept ∷ keeps) [] more lead = absurd lead
kept-literals old new by (kept ∷ keeps) (step ∷ steps) more lead = (
  ap (λ g. g.literals) (goal-kept old new kept.goal more (goal-there old.goals kept.goal kept.place lead.0.inside)),
  kept-literals old new (then_by step.unifier by) keeps steps more lead.1,
)

pub lead-kept : (old new : Snapshot) (by : ℕ → Tree) (keeps : List CellStep) (steps : List Step) → Keeps old new → LeadUnder old by keeps steps → LeadUnder new by keeps steps
lead-kept old new by keeps steps more lead = lead-same old new by by keeps steps (kept-literals old new by keeps steps more lead) (λ v. refl) lead

-- ---- all goals were put under a unifier

step-under : (bindings : Bindings) (next : ℕ) (old new : Snapshot) (by : ℕ → Tree) (kept : CellStep) (step : Step) → KeepsUnder bindings next old new → IsStepUnder old by kept step → IsStepUnder new (after_by by (value_at bindings)) kept step
step-under bindings next old new by kept step under is =
    let low : kept.goal < length old.goals = goal-there old.goals kept.goal kept.place is.inside in
    record {
      literal = is.literal;
      inside = inside-bound bindings next old new kept.goal kept.place under low is.inside;
      now_ = literal-bound bindings next old new kept.goal kept.place under low
          ∙ (ap (literal_under (value_at bindings)) is.now_
          ∙ (literal-twice (then_by step.unifier by) (value_at bindings) is.literal
          ∙ literal-agree (after_by (then_by step.unifier by) (value_at bindings)) (then_by step.unifier (after_by by (value_at bindings))) (λ v. replaced-replaced by (value_at bindings) (value_at step.unifier v)) is.literal));
      place_ = is.place_;
      count_ = is.count_;
      reason_ = is.reason_;
    }

pub lead-under : (bindings : Bindings) (next : ℕ) (old new : Snapshot) (by : ℕ → Tree) (keeps : List CellStep) (steps : List Step) → KeepsUnder bindings next old new
    → LeadUnder old by keeps steps → LeadUnder new (λ v. replaced (value_at bindings) (by v)) keeps steps
lead-under bindings next old new by [] [] under lead = tt
lead-under bindings next old new by [] (step ∷ steps) under lead = lead
lead-under bindings next old new by (kept ∷ keeps) [] under lead = lead
lead-under bindings next old new by (kept ∷ keeps) (step ∷ steps) under lead = (
  step-under bindings next old new by kept step under lead.0,
  lead-agree new (after_by (then_by step.unifier by) (value_at bindings)) (then_by step.unifier (after_by by (value_at bindings))) keeps steps (λ v. replaced-replaced by (value_at bindings) (value_at step.unifier v))
      (lead-under bindings next old new (then_by step.unifier by) keeps steps under lead.1),
)

-- steps that led to a goal whose variables were as they are
pub here-under : (bindings : Bindings) (next : ℕ) (old new : Snapshot) (keeps : List CellStep) (steps : List Step) → KeepsUnder bindings next old new → LeadHere old keeps steps → LeadUnder new (value_at bindings) keeps steps
here-under bindings next old new keeps steps under lead = lead-under bindings next old new variable keeps steps under lead

-- ---- one step more

-- a step with its unifier, under which all goals are then
pub lead-step : (next : ℕ) (old new : Snapshot) (kept : CellStep) (step : Step) (keeps : List CellStep) (steps : List Step) → IsMade old kept step → KeepsUnder step.unifier next old new
    → LeadHere old keeps steps → LeadHere new (kept ∷ keeps) (step ∷ steps)
lead-step next old new kept step keeps steps made under lead =
    let same : (v : ℕ) → value_at step.unifier v ≡ then_by step.unifier variable v = λ v. sym (replaced-same (value_at step.unifier v)) in
    let literal : Literal = literal_of (goal_at old kept.goal) kept.place in
    let is : IsStepUnder new variable kept step = record {
      literal = literal;
      inside = inside-bound step.unifier next old new kept.goal kept.place under made.literal.goal made.literal.literal;
      now_ = literal-bound step.unifier next old new kept.goal kept.place under made.literal.goal ∙ literal-agree (value_at step.unifier) (then_by step.unifier variable) same literal;
      place_ = made.place_;
      count_ = made.count_;
      reason_ = made.reason_;
    } in
    (is, lead-agree new (value_at step.unifier) (then_by step.unifier variable) keeps steps same (here-under step.unifier next old new keeps steps under lead))

step-rest : (old new : Snapshot) → Keeps old new → (kept : CellStep) (step : Step) → step.unifier ≡ [] → IsMade old kept step → IsStepUnder new variable kept step
step-rest old new more kept step none made =
    let literal : Literal = literal_of (goal_at old kept.goal) kept.place in
    let goals : goal_at new kept.goal ≡ goal_at old kept.goal = goal-kept old new kept.goal more made.literal.goal in
    let same : (v : ℕ) → variable v ≡ then_by step.unifier variable v = λ v. ap (λ u. then_by u variable v) (sym none) in
    record {
      literal = literal;
      inside = subst (λ g. kept.place < length g.literals) (sym goals) made.literal.literal;
      now_ = ap (λ g. literal_of g kept.place) goals ∙ (sym (literal-none literal) ∙ literal-agree variable (then_by step.unifier variable) same literal);
      place_ = made.place_;
      count_ = made.count_;
      reason_ = made.reason_;
    }

-- a step without a unifier, as that of a negation that holds
pub lead-rest : (old new : Snapshot) (kept : CellStep) (step : Step) (keeps : List CellStep) (steps : List Step) → step.unifier ≡ [] → IsMade old kept step → Keeps old new → LeadHere old keeps steps → LeadHere new (kept ∷ keeps) (step ∷ steps)
lead-rest old new kept step keeps steps none made more lead = (
  step-rest old new more kept step none made,
  subst (λ u. LeadUnder new (then_by u variable) keeps steps) (sym none) (lead-kept old new variable keeps steps more lead),
)

-- a step stays made where goals are only added
pub made-kept : (old new : Snapshot) (kept : CellStep) (step : Step) → Keeps old new → IsMade old kept step → IsMade new kept step
made-kept old new kept step more made =
    let goals : goal_at new kept.goal ≡ goal_at old kept.goal = goal-kept old new kept.goal more made.literal.goal in
    let long : length new.goals ≡ length old.goals + length more.more = ap length more.goals_ ∙ length-append old.goals more.more in
    let node : node_at new kept ≡ node_at old kept = ap (λ g. node_by (literal_of g kept.place).form kept.clause kept.count) goals in
    record {
      literal = record { goal = omega (arith, long, made.literal.goal); literal = subst (λ g. kept.place < length g.literals) (sym goals) made.literal.literal };
      place_ = made.place_;
      count_ = made.count_ ∙ ap count_of (sym node);
      reason_ = subst (λ n. Shows step.reason n kept.below) (sym node) made.reason_;
    }

-- a path with one step more, the last step first
pub lead-pushed : (snapshot : Snapshot) (by : ℕ → Tree) (path : List CellStep) (kept : CellStep) (steps : List Step) → LeadUnder snapshot by (kept ∷ reverse path) steps → LeadUnder snapshot by (reverse (path ++ kept ∷ [])) steps
lead-pushed snapshot by path kept steps lead = subst (λ ks. LeadUnder snapshot by ks steps) (sym (reverse-append path (kept ∷ []))) lead

-- ---- steps that are made, by the form of the literal
module _ (snapshot : Snapshot) (kept : CellStep) (there : HasLiteral snapshot kept.goal kept.place) where
  abbrev pub form_at : Form
  form_at = (literal_of (goal_at snapshot kept.goal) kept.place).form

  -- the literals before a kept step's literal are as many as its place
  pub front-length : (before : List Literal) → before ≡ take kept.place (goal_at snapshot kept.goal).literals → length before ≡ kept.place
  front-length before front =
      let inside : kept.place ≤ length (goal_at snapshot kept.goal).literals = omega (arith, there.literal) in
      ap length front ∙ length-take-le kept.place (goal_at snapshot kept.goal).literals inside

  node-is : (form : Form) → form_at ≡ form → node_at snapshot kept ≡ node_by form kept.clause kept.count
  node-is form is = ap (λ f. node_by f kept.clause kept.count) is

  -- an atom, by a clause
  pub made-clause : (picked : Picked Literal) (atom : Atom) (child : Child) → picked.before ≡ take kept.place (goal_at snapshot kept.goal).literals → form_at ≡ Pos atom
      → child.clause ≡ kept.clause → child.count ≡ kept.count → kept.below ≡ [] → IsMade snapshot kept (step_to (length picked.before) atom child)
  made-clause picked atom child front is clause count below =
      let node : node_at snapshot kept ≡ nodes.Use kept.clause kept.count atom = node-is (Pos atom) is in
      let many : child.count ≡ count_of (node_at snapshot kept) = count ∙ sym (ap count_of node) in
      record {
        literal = there;
        place_ = front-length picked.before front;
        count_ = many;
        reason_ = (node ∙ (ap (λ k. nodes.Use k kept.count atom) (sym clause) ∙ ap (λ n. nodes.Use child.clause n atom) (sym count ∙ many)), below);
      }

  -- a computed literal
  pub made-computed : (picked : Picked Literal) (bindings : Bindings) (atom : Atom) → picked.before ≡ take kept.place (goal_at snapshot kept.goal).literals → form_at ≡ Calc atom
      → kept.below ≡ [] → IsMade snapshot kept (step_past picked bindings (value_computed atom))
  made-computed picked bindings atom front is below = record {
    literal = there;
    place_ = front-length picked.before front;
    count_ = sym (ap count_of (node-is (Calc atom) is));
    reason_ = (node-is (Calc atom) is, below);
  }

  -- a negation that holds
  pub made-lacking : (picked : Picked Literal) (atom : Atom) (tree : WholeTree) → picked.before ≡ take kept.place (goal_at snapshot kept.goal).literals → form_at ≡ Neg atom
      → kept.below ≡ tree_nodes tree → IsMade snapshot kept (step_past picked [] (failure_shown atom tree))
  made-lacking picked atom tree front is below = record {
    literal = there;
    place_ = front-length picked.before front;
    count_ = sym (ap count_of (node-is (Neg atom) is));
    reason_ = (node-is (Neg atom) is, below);
  }

  -- a gather whose result fits
  pub made-gathered : (picked : Picked Literal) (bindings : Bindings) (fold : FoldKind) (result value : Tree) (atom : Atom) (tree : WholeTree) → picked.before ≡ take kept.place (goal_at snapshot kept.goal).literals
      → form_at ≡ Gather fold result value atom → kept.below ≡ tree_nodes tree → IsMade snapshot kept (step_past picked bindings (cases_gathered fold result value atom tree))
  made-gathered picked bindings fold result value atom tree front is below = record {
    literal = there;
    place_ = front-length picked.before front;
    count_ = sym (ap count_of (node-is (Gather fold result value atom) is));
    reason_ = (node-is (Gather fold result value atom) is, below);
  }
