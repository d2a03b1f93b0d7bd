-- What becomes of a gather, by the shape of its literal.
use Rattle.std.proofs.Common.{◌≡◌, ℕ, ◌<◌, List, length, map, get_or, slice_get, Some, refl, sym, ap, subst, ◌∙◌}
use Rattle.std.specs.Prelude.{option_map}
use Rattle.std.proofs.lemmas.Option.{slice_get-get_or}
use Rattle.le_base.specs.declared.stop.FoldKind.{FoldKind}
use Rattle.le_gather.specs.Folds.{fold_of}
use Rattle.le_terms.specs.Tree.{Tree}
use Rattle.le_terms.specs.declared.program.Atom.{Atom}
use Rattle.le_terms.specs.declared.program.Form.TheVariants.{Gather}
use Rattle.le_terms.specs.declared.program.Literal.{Literal}
use Rattle.le_terms.specs.declared.program.Program.{Program}
use Rattle.le_proofs.specs.Goals.{Goal}
use Rattle.le_proofs.specs.Proofs.{Leaf}
use Rattle.le_proofs.specs.Search.{by_fold, folding, value_of}
use Rattle.le_goals.specs.declared.reading.Kind.TheVariants as kinds
use Rattle.le_goals.specs.declared.reading.Shape.{Shape}
use Rattle.le_goals.specs.Shown.{Snapshot, kind_of, shape_of, literal_of, no_literal}
use Rattle.le_cells.specs.declared.goals.Outcome as code_outcome
use Rattle.le_cells.specs.Keeping.{Selects, Becomes}
use Rattle.le_cells.proofs.Resting.{selected-there, gather-form}

-- the shape of a literal that is there
pub shape-there : (goal : Goal) (place : ℕ) (shape : Shape) → place < length goal.literals → option_map shape_of (slice_get goal.literals place) ≡ Some shape → shape ≡ shape_of (literal_of goal place)
shape-there goal place shape inside is =
    let both : Some shape ≡ Some (shape_of (literal_of goal place)) = sym is ∙ ap (option_map shape_of) (slice_get-get_or goal.literals place no_literal inside) in
    cc both

module _ (goal : Goal) (place : ℕ) (shape : Shape) (fold : FoldKind) (inside : place < length goal.literals) (shape_is : shape ≡ shape_of (literal_of goal place)) (fold_is : shape.kind ≡ kinds.Gather fold) (values : List Tree) (old mid : Snapshot)
    (said : code_outcome.Outcome) (becomes : (target value : Tree) (atom : Atom) → (literal_of goal place).form ≡ Gather fold target value atom → Becomes old mid said (by_fold shape.line target (fold_of fold values))) where
  -- for some result
  pub some-becomes : (target : Tree) × Becomes old mid said (by_fold shape.line target (fold_of fold values))
  some-becomes =
      let is = gather-form (literal_of goal place).form fold (sym (ap (λ s. s.kind) shape_is) ∙ fold_is) in
      (is.0, becomes is.0 is.1 is.2 is.3)

  -- for the selected literal's
  pub folding-becomes : (program : Program) (literal : Literal) (kind : FoldKind) (target value : Tree) (atom : Atom) (found : List Leaf) → Selects program goal.literals place literal → literal.form ≡ Gather kind target value atom → values ≡ map value_of found
      → Becomes old mid said (folding literal.line kind target found)
  folding-becomes program literal kind target value atom found selects form same_values =
      let same : literal_of goal place ≡ literal = selected-there program goal place literal inside selects in
      let form_ : (literal_of goal place).form ≡ Gather kind target value atom = ap (λ l. l.form) same ∙ form in
      let both : kinds.Gather fold ≡ kinds.Gather kind = sym fold_is ∙ (ap (λ s. s.kind) shape_is ∙ ap kind_of form_) in
      let folds : fold ≡ kind = cc both in
      let line : shape.line ≡ literal.line = ap (λ s. s.line) shape_is ∙ ap (λ l. l.line) same in
      let outcome : by_fold shape.line target (fold_of fold values) ≡ folding literal.line kind target found =
      ap (λ n. by_fold n target (fold_of fold values)) line
      ∙ (ap (λ k. by_fold literal.line target (fold_of k values)) folds
      ∙ ap (λ vs. by_fold literal.line target (fold_of kind vs)) same_values) in
      subst (Becomes old mid said) outcome (becomes target value atom (form_ ∙ ap (λ k. Gather k target value atom) (sym folds)))
