-- A term whose variables' numbers are raised, symbol by symbol.
use Rattle.std.proofs.Common.{◌≡◌, ℕ, ◌+◌, ◌++◌, ◌∷◌, map, refl, ap, ap₂, ◌∙◌}
use Rattle.std.proofs.lemmas.List.{map-append}
use Rattle.le_terms.specs.declared.term.Sym.TheVariants.{Cons}
use Rattle.le_terms.specs.Tree.{Tree, constant, number, date, variable, nil, cell, flat, IsInRange}
use Rattle.le_terms.specs.Variables.{replaced}
use Rattle.le_terms.proofs.Preorder.{IsInRange-renamed}
use Rattle.le_proofs.specs.Goals.{raised}
use Rattle.le_literals.specs.Changing.{raised_symbol}

pub map_raised-flat : (next : ℕ) (tree : Tree) → map (raised_symbol next) (flat tree) ≡ flat (replaced (raised next) tree)
map_raised-flat next (constant n) = refl
map_raised-flat next (number z) = refl
map_raised-flat next (date d) = refl
map_raised-flat next (variable v) = refl
map_raised-flat next nil = refl
map_raised-flat next (cell head tail) =
    ap (λ syms. Cons ∷ syms) (map-append (raised_symbol next) (flat head) (flat tail) ∙ ap₂ ◌++◌ (map_raised-flat next head) (map_raised-flat next tail))

pub IsInRange-raised : (next : ℕ) (tree : Tree) → IsInRange tree → IsInRange (replaced (raised next) tree)
IsInRange-raised next = IsInRange-renamed (λ v. next + v)
