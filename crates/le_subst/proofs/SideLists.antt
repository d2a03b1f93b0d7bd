-- The walk over equations that collects the symbols of their sides.
use Rattle.std.proofs.Common.{◌≡◌, ℕ, ◌+◌, ◌<◌, ◌≤◌, List, ◌++◌, length, drop, get_or, sym, ap, ◌∙◌, append_assoc, append-nil, drop_of_length-le}
use Rattle.le_terms.specs.declared.term.Sym.{Sym}
use Rattle.le_terms.specs.Tree.{flat}
use Rattle.le_terms.proofs.Preorder.{drop-item}
use Rattle.le_subst.specs.Unifiers.{Equation}
use Rattle.le_subst.specs.Symbols.{lefts, rights}

-- one equation more
pub lefts-more : (equations : List Equation) (i : ℕ) (equation : Equation) (old new symbols all : List Sym) → i < length equations → equation ≡ get_or equations i equation
    → old ++ lefts (drop i equations) ≡ all → new ≡ old ++ symbols → symbols ≡ flat equation.0 → new ++ lefts (drop (i + 1) equations) ≡ all
lefts-more equations i equation old new symbols all within read before pushed is =
    ap (λ front. front ++ lefts (drop (i + 1) equations)) (pushed ∙ ap (λ front. old ++ front) is)
    ∙ (append_assoc old (flat equation.0) (lefts (drop (i + 1) equations))
    ∙ (ap (λ others. old ++ lefts others) (sym (drop-item equations i equation within read)) ∙ before))

pub rights-more : (equations : List Equation) (i : ℕ) (equation : Equation) (old new symbols all : List Sym) → i < length equations → equation ≡ get_or equations i equation
    → old ++ rights (drop i equations) ≡ all → new ≡ old ++ symbols → symbols ≡ flat equation.1 → new ++ rights (drop (i + 1) equations) ≡ all
rights-more equations i equation old new symbols all within read before pushed is =
    ap (λ front. front ++ rights (drop (i + 1) equations)) (pushed ∙ ap (λ front. old ++ front) is)
    ∙ (append_assoc old (flat equation.1) (rights (drop (i + 1) equations))
    ∙ (ap (λ others. old ++ rights others) (sym (drop-item equations i equation within read)) ∙ before))

-- all equations
pub lefts-all : (equations : List Equation) (i : ℕ) (symbols all : List Sym) → length equations ≤ i → symbols ++ lefts (drop i equations) ≡ all → symbols ≡ all
lefts-all equations i symbols all past before = sym (append-nil symbols) ∙ (ap (λ others. symbols ++ lefts others) (sym (drop_of_length-le equations past)) ∙ before)

pub rights-all : (equations : List Equation) (i : ℕ) (symbols all : List Sym) → length equations ≤ i → symbols ++ rights (drop i equations) ≡ all → symbols ≡ all
rights-all equations i symbols all past before = sym (append-nil symbols) ∙ (ap (λ others. symbols ++ rights others) (sym (drop_of_length-le equations past)) ∙ before)
