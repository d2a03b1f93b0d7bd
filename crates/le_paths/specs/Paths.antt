-- Steps of a path as they are kept where goals are in cells: each by its goal and the place of its literal, whose terms the cells show as they are now, under all unifiers since.
use Rattle.std.specs.Prelude.{◌≡◌, ℕ, ◌<◌, List, [], ◌∷◌, length}
use Rattle.le_terms.specs.Tree.{Tree, variable}
use Rattle.le_terms.specs.declared.program.Form.{Form}
use Rattle.le_terms.specs.declared.program.Form.TheVariants.{Pos, Neg, Calc, Gather as Gathering}
use Rattle.le_terms.specs.declared.program.Literal.{Literal}
use Rattle.le_proofs.specs.declared.node.Node.{Node}
use Rattle.le_proofs.specs.declared.node.Node.TheVariants.{Use, Compute, Absent, Gather}
use Rattle.le_proofs.specs.Goals.{literal_under}
use Rattle.le_proofs.specs.Proofs.{Step, then_by}
use Rattle.le_derivations.specs.Paths.{Shows, count_of}
use Rattle.le_derivations.specs.declared.path.PathStep.{PathStep}
use Rattle.le_goals.specs.Shown.{Snapshot, HasLiteral, goal_at, literal_of}
use Rattle.le_paths.specs.declared.step.CellStep.{CellStep}

-- the node of the proof of a literal of this form, by a clause of this number with so many literals where it is an atom
abbrev pub node_by : Form → ℕ → ℕ → Node
node_by (Pos atom) clause count = Use clause count atom
node_by (Neg atom) clause count = Absent atom
node_by (Calc atom) clause count = Compute atom
node_by (Gathering fold result value atom) clause count = Gather fold result value atom

-- the node of a kept step's literal, with its terms as they are now
abbrev pub node_at : Snapshot → CellStep → Node
node_at snapshot kept = node_by (literal_of (goal_at snapshot kept.goal) kept.place).form kept.clause kept.count

-- a step is made at a literal of these goals, and kept so
pub record IsMade (snapshot : Snapshot) (kept : CellStep) (step : Step) : Type 0 where
  pub literal : HasLiteral snapshot kept.goal kept.place
  pub place_ : step.place ≡ kept.place
  pub count_ : step.count ≡ count_of (node_at snapshot kept)
  pub reason_ : Shows step.reason (node_at snapshot kept) kept.below

-- a step as it is kept is this step, where the variables of the goal after it became the terms `by` gives
pub record IsStepUnder (snapshot : Snapshot) (by : ℕ → Tree) (kept : CellStep) (step : Step) : Type 0 where
  -- the literal as it was when it was selected
  pub literal : Literal
  pub inside : kept.place < length (goal_at snapshot kept.goal).literals
  pub now_ : literal_of (goal_at snapshot kept.goal) kept.place ≡ literal_under (then_by step.unifier by) literal
  pub place_ : step.place ≡ kept.place
  pub count_ : step.count ≡ count_of (node_by literal.form kept.clause kept.count)
  pub reason_ : Shows step.reason (node_by literal.form kept.clause kept.count) kept.below

-- steps as they are kept, the last one first, are these steps, where the variables of the goal after them became the terms `by` gives
abbrev pub LeadUnder : Snapshot → (ℕ → Tree) → List CellStep → List Step → Type 0
LeadUnder snapshot by [] [] = Unit {0}
LeadUnder snapshot by [] (step ∷ steps) = ⊥
LeadUnder snapshot by (kept ∷ keeps) [] = ⊥
LeadUnder snapshot by (kept ∷ keeps) (step ∷ steps) = IsStepUnder snapshot by kept step × LeadUnder snapshot (then_by step.unifier by) keeps steps

-- they lead to a goal whose variables are as they are
abbrev pub LeadHere : Snapshot → List CellStep → List Step → Type 0
LeadHere snapshot keeps steps = LeadUnder snapshot variable keeps steps

-- a kept step with the terms of its literal as they are now, so that no unifier is left to apply
abbrev pub step_now : Snapshot → CellStep → PathStep
step_now snapshot kept = record { place = kept.place; unifier = []; node = node_at snapshot kept; below = kept.below }
