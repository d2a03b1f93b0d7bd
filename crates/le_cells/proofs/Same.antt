-- Open goals stay so where the marks in use show the same.
use Rattle.std.proofs.Common.{◌≡◌, ℕ, List, [], ◌∷◌, take, length, map, reverse, refl, sym, ap, subst, ◌∙◌}
use Rattle.le_terms.specs.declared.program.Program.{Program}
use Rattle.le_derivations.specs.Walks.{Choice}
use Rattle.le_goals.specs.Shown.{Snapshot, goal_at}
use Rattle.le_paths.specs.declared.step.CellStep.{CellStep}
use Rattle.le_paths.specs.Paths.{LeadHere}
use Rattle.le_cells.specs.declared.goals.OpenGoal.{OpenGoal}
use Rattle.le_cells.specs.Keeping.{snapshot_at, goal_of, Selects, children_from, IsOpenGoal, AreOpenGoals}
use Rattle.le_cells.proofs.Turning.{SameAt}

open-goal-same : (program : Program) (marks marks' : List Snapshot) (kept : OpenGoal) (choice : Choice) (front : List CellStep) → snapshot_at marks' kept.mark ≡ snapshot_at marks kept.mark → IsOpenGoal program marks kept choice front → IsOpenGoal program marks' kept choice front
open-goal-same program marks marks' kept choice front same h = record {
  literal = h.literal;
  selects = subst (λ s. Selects program (goal_at s kept.goal).literals kept.place h.literal) (sym same) h.selects;
  form = h.form;
  place_ = h.place_ ∙ ap (λ s. length (take kept.place (goal_at s kept.goal).literals)) (sym same);
  others_ = h.others_ ∙ ap (λ s. children_from (goal_at s kept.goal) kept.place h.literal choice.atom program.clauses kept.from) (sym same);
  steps_ = subst (λ s. LeadHere s (reverse front) choice.path) (sym same) h.steps_;
}

pub open-goals-same : (program : Program) (marks marks' : List Snapshot) (choices : List Choice) (opens : List OpenGoal) (path : List CellStep) → SameAt marks marks' (map (λ (kept : OpenGoal). kept.mark) opens) → AreOpenGoals program marks choices opens path → AreOpenGoals program marks' choices opens path
open-goals-same program marks marks' [] opens path same h = h
open-goals-same program marks marks' (choice ∷ choices) [] path same h = h
open-goals-same program marks marks' (choice ∷ choices) (kept ∷ opens) path same h = (
  h.0,
  open-goal-same program marks marks' kept choice (take kept.steps path) same.0 h.1,
  open-goals-same program marks marks' choices opens (take kept.steps path) same.1 h.2,
)
