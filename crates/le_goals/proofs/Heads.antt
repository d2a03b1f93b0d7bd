-- A clause's head, renamed apart, against an atom.
use Rattle.std.proofs.Common.{◌≡◌, ℕ, ◌+◌, ◌<◌, ◌≤◌, true, false, List, [], ◌++◌, length, map, get_or, zip, Some, None, sym, ap, ◌∙◌, append_assoc, append-nil, length-append, arith}
use Rattle.std.proofs.lemmas.List.{get_or_append_left, get_or-append-add}
use Rattle.le_terms.specs.Tree.{Tree, nil}
use Rattle.le_terms.specs.Variables.{all_occurrences}
use Rattle.le_terms.specs.Program.{HasVariablesBelow}
use Rattle.le_subst.specs.Unifiers.{apply}
use Rattle.le_subst.specs.Solution.{solve_of}
use Rattle.le_store.specs.Shown.{Snapshot, Shown, IsThere, new_variables, places_from}
use Rattle.le_store.proofs.Views.{length-new_variables, length-places_from}
use Rattle.le_unify.specs.Unifying.{Unifies, equations_in, HasSameCells}
use Rattle.le_proofs.specs.Goals.{terms_under, raised}
use Rattle.le_proofs.proofs.Alls.{all-weaken}
use Rattle.le_proofs.proofs.Variants.{terms-there}
use Rattle.le_goals.specs.Frames.{cell_term}
use Rattle.le_goals.specs.Unifying.{Extends, HasVariables, sides, UnifiesTerms}
use Rattle.le_goals.proofs.Beginning.{new-at}
use Rattle.le_goals.proofs.Pairings.{extends-length}

-- the terms of new variables, where cells stand before them and after them
pub fresh-term : (cells : Snapshot) (old more : List Tree) (next vars fresh : ℕ) → cells.terms ≡ old ++ (new_variables next vars ++ more) → fresh ≡ length old → (v : ℕ) → v < vars → cell_term cells fresh v ≡ raised next v
fresh-term cells old more next vars fresh terms first v less =
    let inside : v < length (new_variables next vars) = let count : length (new_variables next vars) ≡ vars = length-new_variables next vars in omega (arith, count, less) in
    ap (λ ts. get_or ts (fresh + v) nil) terms
    ∙ (ap (λ n. get_or (old ++ (new_variables next vars ++ more)) (n + v) nil) first
    ∙ (get_or-append-add old (new_variables next vars ++ more) v nil
    ∙ (get_or_append_left (new_variables next vars) more nil v inside
    ∙ new-at next vars v less)))

module _ (old reserved freshed built new : Shown) (vars fresh : ℕ)
    (same : reserved.now ≡ old.now) (first : fresh ≡ length reserved.now.terms)
    (terms_ : freshed.now.terms ≡ reserved.now.terms ++ new_variables (length reserved.now.variables) vars)
    (variables_ : freshed.now.variables ≡ reserved.now.variables ++ places_from (length reserved.now.terms) vars) where
  fresh-terms : freshed.now.terms ≡ old.now.terms ++ new_variables (length old.now.variables) vars
  fresh-terms = terms_ ∙ ap (λ (s : Snapshot). s.terms ++ new_variables (length s.variables) vars) same

  first-old : fresh ≡ length old.now.terms
  first-old = first ∙ ap (λ (s : Snapshot). length s.terms) same

  fresh-count : length freshed.now.variables ≡ length old.now.variables + vars
  fresh-count =
      ap length (variables_ ∙ ap (λ (s : Snapshot). s.variables ++ places_from (length s.terms) vars) same)
      ∙ (length-append old.now.variables (places_from (length old.now.terms) vars)
      ∙ ap (λ n. length old.now.variables + n) (length-places_from (length old.now.terms) vars))

  pub count-fresh : length freshed.now.terms ≡ length old.now.terms + vars
  count-fresh = ap length fresh-terms ∙ (length-append old.now.terms (new_variables (length old.now.variables) vars) ∙ ap (λ n. length old.now.terms + n) (length-new_variables (length old.now.variables) vars))

  -- the old cells are there, and the new ones
  pub old-there : (base : ℕ) (rights : List Tree) → HasVariables old base rights → HasVariables freshed base rights
  old-there base rights there = all-weaken (λ v. IsThere old (base + v)) (λ v. IsThere freshed (base + v)) (λ v (here : base + v < length old.now.terms). let count : length freshed.now.terms ≡ length old.now.terms + vars = count-fresh in omega (arith, here, count)) (all_occurrences rights) there

  pub new-there : (lefts : List Tree) → HasVariablesBelow vars lefts → HasVariables freshed fresh lefts
  new-there lefts below = all-weaken (λ v. v < vars) (λ v. IsThere freshed (fresh + v)) (λ v (less : v < vars). let count : length freshed.now.terms ≡ length old.now.terms + vars = count-fresh in let at : fresh ≡ length old.now.terms = first-old in omega (arith, less, count, at)) (all_occurrences lefts) below

  old-terms : (base : ℕ) (rights : List Tree) → HasVariables old base rights → terms_under (cell_term freshed.now base) rights ≡ terms_under (cell_term old.now base) rights
  old-terms base rights there =
      terms-there (cell_term freshed.now base) (cell_term old.now base) rights
      (all-weaken (λ v. IsThere old (base + v)) (λ v. cell_term freshed.now base v ≡ cell_term old.now base v)
      (λ v (here : base + v < length old.now.terms). ap (λ ts. get_or ts (base + v) nil) fresh-terms ∙ get_or_append_left old.now.terms (new_variables (length old.now.variables) vars) nil (base + v) here)
      (all_occurrences rights) there)

  new-terms : (lefts : List Tree) → HasVariablesBelow vars lefts → terms_under (cell_term freshed.now fresh) lefts ≡ terms_under (raised (length old.now.variables)) lefts
  new-terms lefts below =
      let terms : freshed.now.terms ≡ old.now.terms ++ (new_variables (length old.now.variables) vars ++ []) = fresh-terms ∙ ap (λ ts. old.now.terms ++ ts) (sym (append-nil (new_variables (length old.now.variables) vars))) in
      terms-there (cell_term freshed.now fresh) (raised (length old.now.variables)) lefts
      (all-weaken (λ v. v < vars) (λ v. cell_term freshed.now fresh v ≡ raised (length old.now.variables) v)
      (λ v less. fresh-term freshed.now old.now.terms [] (length old.now.variables) vars fresh terms first-old v less)
      (all_occurrences lefts) below)

  -- the equations are those of the head and the atom
  head-sides : (base : ℕ) (lefts rights : List Tree) → HasVariablesBelow vars lefts → HasVariables old base rights
      → sides freshed fresh lefts base rights ≡ zip (terms_under (raised (length old.now.variables)) lefts) (terms_under (cell_term old.now base) rights)
  head-sides base lefts rights below there =
      ap (λ ts. zip ts (terms_under (cell_term freshed.now base) rights)) (new-terms lefts below)
      ∙ ap (zip (terms_under (raised (length old.now.variables)) lefts)) (old-terms base rights there)

  module _ (base : ℕ) (lefts rights : List Tree) (pairs : List (ℕ × ℕ)) (below : HasVariablesBelow vars lefts) (there : HasVariables old base rights)
      (extends : Extends freshed built) (equations : equations_in built.now pairs [] ≡ sides freshed fresh lefts base rights) where
    pub unified : Unifies built new (equations_in built.now pairs []) true → HasSameCells built new → UnifiesTerms old new vars lefts base rights (Some fresh)
    unified made cells = (
      made.0,
      ap solve_of (sym (head-sides base lefts rights below there)) ∙ (ap solve_of (sym equations) ∙ made.1),
      record {
        first = first-old;
        more = extends.more;
        terms_ = made.2 ∙ ap (map (apply made.0)) (extends.terms_ ∙ (ap (λ ts. ts ++ extends.more) fresh-terms ∙ append_assoc old.now.terms (new_variables (length old.now.variables) vars) extends.more));
        count = ap length (cells.variables ∙ extends.variables_) ∙ fresh-count;
      },
    )

    pub not-unified : Unifies built new (equations_in built.now pairs []) false → UnifiesTerms old new vars lefts base rights None
    not-unified none = ap solve_of (sym (head-sides base lefts rights below there)) ∙ (ap solve_of (sym equations) ∙ none)

    pub more-cells : HasSameCells built new → length old.now.terms ≤ length new.now.terms
    more-cells cells =
        let count : length new.now.terms ≡ length built.now.terms = cells.count in
        let more : length freshed.now.terms ≤ length built.now.terms = extends-length freshed built extends in
        let fresh_ : length freshed.now.terms ≡ length old.now.terms + vars = count-fresh in
        omega (arith, count, more, fresh_)
