-- A term whose variables are renamed, symbol by symbol.
use Rattle.std.proofs.Common.{◌≡◌, ℕ, ◌++◌, ◌∷◌, map, refl, ap, ap₂, ◌∙◌}
use Rattle.std.proofs.lemmas.List.{map-append}
use Rattle.le_terms.specs.declared.term.Sym.TheVariants.{Cons}
use Rattle.le_terms.specs.Tree.{Tree, constant, number, date, variable, nil, cell, flat}
use Rattle.le_terms.specs.Variables.{replaced}
use Rattle.le_derivations.specs.Numbers.{renamed_symbol}

pub map_renamed-flat : (rename : ℕ → ℕ) (tree : Tree) → map (renamed_symbol rename) (flat tree) ≡ flat (replaced (λ v. variable (rename v)) tree)
map_renamed-flat rename (constant n) = refl
map_renamed-flat rename (number z) = refl
map_renamed-flat rename (date d) = refl
map_renamed-flat rename (variable v) = refl
map_renamed-flat rename nil = refl
map_renamed-flat rename (cell head tail) =
    ap (λ syms. Cons ∷ syms) (map-append (renamed_symbol rename) (flat head) (flat tail) ∙ ap₂ ◌++◌ (map_renamed-flat rename head) (map_renamed-flat rename tail))
