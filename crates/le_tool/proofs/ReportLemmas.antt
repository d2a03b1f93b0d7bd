-- The lines of a report, taken one by one.
use Rattle.std.proofs.Common.{◌≡◌, ℕ, ◌≤◌, ◌++◌, List, [], ◌∷◌, length, drop, refl, ap, ◌∙◌, append-nil}
use Rattle.std.proofs.lemmas.List.{drop_all}
use Rattle.le_terms.specs.Tree.{Tree}
use Rattle.le_terms.specs.declared.program.Asked.{Asked}
use Rattle.le_clauses.specs.declared.whole.Whole.{Whole}
use Rattle.le_tool.specs.Lines.{value_lines}

no_values : (whole : Whole) (asked : List Asked) → value_lines whole asked [] ≡ []
no_values whole [] = refl
no_values whole (a ∷ asked) = refl

-- where no value is left, no line is
pub values_end : (whole : Whole) (asked : List Asked) (trees : List Tree) (text : List ℕ) (at : ℕ) → length trees ≤ at → text ++ value_lines whole asked (drop at trees) ≡ text
values_end whole asked trees text at h =
    ap (λ ts. text ++ value_lines whole asked ts) (drop_all at trees h) ∙ ap (λ ts. text ++ ts) (no_values whole asked) ∙ append-nil text
