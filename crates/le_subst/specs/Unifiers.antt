-- Substitutions, unifiers and most general unifiers (Lloyd, Foundations of Logic Programming, chapter 1, section 4).
use Rattle.std.specs.Prelude.{◌≡◌, ℕ, ◌==◌, List, [], ◌∷◌, if◌then◌else◌}
use Rattle.le_terms.specs.Tree.{Tree, variable}
use Rattle.le_terms.specs.Variables.{replaced}

-- an equation: two terms that are to be made equal
abbrev pub Equation : Type 0
Equation = Tree × Tree

-- a finite map from variables to terms, as the list of its pairs
abbrev pub Bindings : Type 0
Bindings = List (ℕ × Tree)

-- what a finite map has for a variable: its term, or the variable itself where the map hasn't got it
abbrev pub value_at : Bindings → ℕ → Tree
value_at [] v = variable v
value_at (binding ∷ bindings) v = if v == binding.0 then binding.1 else value_at bindings v

-- a term with each variable of the map replaced by its term, all at once
abbrev pub apply : Bindings → Tree → Tree
apply bindings tree = replaced (value_at bindings) tree

-- the map with a variable mapped to a term
abbrev pub mapped : Bindings → ℕ → Tree → Bindings
mapped [] v tree = (v, tree) ∷ []
mapped (binding ∷ bindings) v tree = if v == binding.0 then (binding.0, tree) ∷ bindings else binding ∷ mapped bindings v tree

-- the pairs of a map with their terms under another one
abbrev pub images_by : Bindings → Bindings → Bindings
images_by bindings [] = []
images_by bindings (binding ∷ first) = (binding.0, apply bindings binding.1) ∷ images_by bindings first

-- what pairs have for a variable, and a map where they have nothing
abbrev pub overridden : Bindings → Bindings → ℕ → Tree
overridden bindings [] v = value_at bindings v
overridden bindings (image ∷ images) v = if v == image.0 then image.1 else overridden bindings images v

-- a substitution, as a function from variables, makes the sides of each equation equal
abbrev pub Unifies : (ℕ → Tree) → List Equation → Type 0
Unifies by [] = Unit {0}
Unifies by (equation ∷ equations) = (replaced by equation.0 ≡ replaced by equation.1) × Unifies by equations

-- a substitution is a map followed by another substitution
abbrev pub Factors : (ℕ → Tree) → Bindings → (ℕ → Tree) → Type 0
Factors by bindings then_by = (v : ℕ) → by v ≡ replaced then_by (value_at bindings v)

-- a most general unifier: it unifies the equations, and every substitution that does so is this one followed by some substitution
pub record IsMgu (bindings : Bindings) (equations : List Equation) : Type 0 where
  pub unifies : Unifies (value_at bindings) equations
  pub most_general : (by : ℕ → Tree) → Unifies by equations → (then_by : ℕ → Tree) × Factors by bindings then_by
