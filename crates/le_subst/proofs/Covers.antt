-- Lists that hold the variables of terms and of equations, and what a replacement takes from them.
use Rattle.std.proofs.Common.{◌≡◌, ℕ, suc, ◌<◌, ◌≤◌, Bool, true, false, cond, ◌==◌, List, [], ◌∷◌, ◌++◌, length, refl, sym, ap, subst, ◌∙◌, arith, true≢false, inl, inr, ◌⊎◌}
use Rattle.std.proofs.lemmas.Bool.Decides.{Decides-eqb}
use Rattle.std.proofs.lemmas.Cmp.{nat_eq_equiv}
use Rattle.le_terms.specs.Tree.{Tree, constant, number, date, variable, nil, cell}
use Rattle.le_terms.specs.Variables.{replaced, occurrences}
use Rattle.le_subst.specs.Unifiers.{Equation}
use Rattle.le_subst.specs.Solution.{occurs, one, with_replaced, variable_places}
use Rattle.le_subst.proofs.Moves.{Binds, neither}

-- a variable is in a list
abbrev pub In : ℕ → List ℕ → Type 0
In v [] = ⊥
In v (w ∷ ws) = (v ≡ w) ⊎ In v ws

-- a list without a variable
abbrev pub without : ℕ → List ℕ → List ℕ
without v [] = []
without v (w ∷ ws) = cond (w == v) (without v ws) (w ∷ without v ws)

-- it isn't longer
pub length-without : (v : ℕ) (ws : List ℕ) → length (without v ws) ≤ length ws
length-without v [] = omega arith
length-without v (w ∷ ws) = one_more (w == v) (without v ws) (length-without v ws)
  where
    one_more : (b : Bool) (us : List ℕ) → length us ≤ length ws → length (cond b us (w ∷ us)) ≤ suc (length ws)
    one_more true us h = omega arith
    one_more false us h = omega arith

-- and it is shorter where the variable was in it
pub length-without-In : (v : ℕ) (ws : List ℕ) → In v ws → length (without v ws) < length ws
length-without-In v [] h = absurd h
length-without-In v (w ∷ ws) (inl same) = found (w == v) ((Decides-eqb w v).1 (sym same)) (without v ws) (length-without v ws)
  where
    found : (b : Bool) → b ≡ true → (us : List ℕ) → length us ≤ length ws → length (cond b us (w ∷ us)) < suc (length ws)
    found true e us h = omega arith
    found false e us h = absurd (true≢false (sym e))
length-without-In v (w ∷ ws) (inr more) = one_more (w == v) (without v ws) (length-without-In v ws more)
  where
    one_more : (b : Bool) (us : List ℕ) → length us < length ws → length (cond b us (w ∷ us)) < suc (length ws)
    one_more true us h = omega arith
    one_more false us h = omega arith

-- the other variables stay in it
pub In-without : (v u : ℕ) (ws : List ℕ) → In u ws → (u == v) ≡ false → In u (without v ws)
In-without v u [] h other = absurd h
In-without v u (w ∷ ws) (inl same) other = kept (w == v) (ap (λ k. k == v) (sym same) ∙ other)
  where
    kept : (b : Bool) → b ≡ false → In u (cond b (without v ws) (w ∷ without v ws))
    kept true e = absurd (true≢false e)
    kept false e = inl same
In-without v u (w ∷ ws) (inr more) other = kept (w == v) (In-without v u ws more other)
  where
    kept : (b : Bool) → In u (without v ws) → In u (cond b (without v ws) (w ∷ without v ws))
    kept true h = h
    kept false h = inr h

-- the variables of a tree are in a list
abbrev pub CoversTree : List ℕ → Tree → Type 0
CoversTree vs (constant n) = Unit {0}
CoversTree vs (number z) = Unit {0}
CoversTree vs (date d) = Unit {0}
CoversTree vs (variable v) = In v vs
CoversTree vs nil = Unit {0}
CoversTree vs (cell head tail) = CoversTree vs head × CoversTree vs tail

-- the variables of equations are in a list
abbrev pub Covers : List ℕ → List Equation → Type 0
Covers vs [] = Unit {0}
Covers vs (equation ∷ equations) = CoversTree vs equation.0 × CoversTree vs equation.1 × Covers vs equations

-- a tree in which a variable doesn't occur
pub CoversTree-without : (v : ℕ) (vs : List ℕ) (tree : Tree) → CoversTree vs tree → occurs v tree ≡ false → CoversTree (without v vs) tree
CoversTree-without v vs (constant n) h apart = h
CoversTree-without v vs (number z) h apart = h
CoversTree-without v vs (date d) h apart = h
CoversTree-without v vs (variable w) h apart = In-without v w vs h (nat_eq_equiv.symm w v ∙ apart)
CoversTree-without v vs nil h apart = h
CoversTree-without v vs (cell head tail) h apart =
    let parts : (occurs v head ≡ false) × (occurs v tail ≡ false) = neither (occurs v head) (occurs v tail) apart in
    (CoversTree-without v vs head h.0 parts.0, CoversTree-without v vs tail h.1 parts.1)

-- a tree with the variable replaced by such a tree
pub CoversTree-replaced : (v : ℕ) (vs : List ℕ) (by tree : Tree) → CoversTree (without v vs) by → CoversTree vs tree → CoversTree (without v vs) (replaced (one v by) tree)
CoversTree-replaced v vs by (constant n) h g = g
CoversTree-replaced v vs by (number z) h g = g
CoversTree-replaced v vs by (date d) h g = g
CoversTree-replaced v vs by (variable w) h g = by_test (w == v) refl
  where
    by_test : (b : Bool) → (w == v) ≡ b → CoversTree (without v vs) (cond b by (variable w))
    by_test true e = h
    by_test false e = In-without v w vs g e
CoversTree-replaced v vs by nil h g = g
CoversTree-replaced v vs by (cell head tail) h g = (CoversTree-replaced v vs by head h g.0, CoversTree-replaced v vs by tail h g.1)

-- equations with the variable replaced by such a tree
pub Covers-with_replaced : (v : ℕ) (vs : List ℕ) (by : Tree) (equations : List Equation) → CoversTree (without v vs) by → Covers vs equations → Covers (without v vs) (with_replaced v by equations)
Covers-with_replaced v vs by [] h g = g
Covers-with_replaced v vs by (equation ∷ equations) h g =
    (CoversTree-replaced v vs by equation.0 h g.0, CoversTree-replaced v vs by equation.1 h g.1, Covers-with_replaced v vs by equations h g.2)

-- a binding's variable is in the list, and those of its term
pub covers-binding : (left right : Tree) (v : ℕ) (tree : Tree) (vs : List ℕ) → Binds left right v tree → CoversTree vs left → CoversTree vs right → In v vs × CoversTree (without v vs) tree
covers-binding left right v tree vs binds in_left in_right = cases binds.sides
  where
    cases : ((left ≡ variable v) × (right ≡ tree)) ⊎ ((right ≡ variable v) × (left ≡ tree)) → In v vs × CoversTree (without v vs) tree
    cases (inl (is_left, is_right)) = (subst (CoversTree vs) is_left in_left, CoversTree-without v vs tree (subst (CoversTree vs) is_right in_right) binds.apart)
    cases (inr (is_right, is_left)) = (subst (CoversTree vs) is_right in_right, CoversTree-without v vs tree (subst (CoversTree vs) is_left in_left) binds.apart)

-- a longer list holds what a part of it does
pub In-left : (v : ℕ) (vs ws : List ℕ) → In v vs → In v (vs ++ ws)
In-left v [] ws h = absurd h
In-left v (w ∷ vs) ws (inl same) = inl same
In-left v (w ∷ vs) ws (inr more) = inr (In-left v vs ws more)

pub In-right : (v : ℕ) (vs ws : List ℕ) → In v ws → In v (vs ++ ws)
In-right v [] ws h = h
In-right v (w ∷ vs) ws h = inr (In-right v vs ws h)

pub CoversTree-more : (vs ws : List ℕ) (tree : Tree) → ((v : ℕ) → In v vs → In v ws) → CoversTree vs tree → CoversTree ws tree
CoversTree-more vs ws (constant n) more h = h
CoversTree-more vs ws (number z) more h = h
CoversTree-more vs ws (date d) more h = h
CoversTree-more vs ws (variable v) more h = more v h
CoversTree-more vs ws nil more h = h
CoversTree-more vs ws (cell head tail) more h = (CoversTree-more vs ws head more h.0, CoversTree-more vs ws tail more h.1)

pub Covers-more : (vs ws : List ℕ) (equations : List Equation) → ((v : ℕ) → In v vs → In v ws) → Covers vs equations → Covers ws equations
Covers-more vs ws [] more h = h
Covers-more vs ws (equation ∷ equations) more h = (CoversTree-more vs ws equation.0 more h.0, CoversTree-more vs ws equation.1 more h.1, Covers-more vs ws equations more h.2)

-- the places of variables hold the variables
pub CoversTree-occurrences : (tree : Tree) → CoversTree (occurrences tree) tree
CoversTree-occurrences (constant n) = tt
CoversTree-occurrences (number z) = tt
CoversTree-occurrences (date d) = tt
CoversTree-occurrences (variable v) = inl refl
CoversTree-occurrences nil = tt
CoversTree-occurrences (cell head tail) = (
  CoversTree-more (occurrences head) (occurrences head ++ occurrences tail) head (λ v. In-left v (occurrences head) (occurrences tail)) (CoversTree-occurrences head),
  CoversTree-more (occurrences tail) (occurrences head ++ occurrences tail) tail (λ v. In-right v (occurrences head) (occurrences tail)) (CoversTree-occurrences tail),
)

pub Covers-variable_places : (equations : List Equation) → Covers (variable_places equations) equations
Covers-variable_places [] = tt
Covers-variable_places (equation ∷ equations) =
    let behind : List ℕ = occurrences equation.1 ++ variable_places equations in
    let all : List ℕ = occurrences equation.0 ++ behind in
    let later : (v : ℕ) → In v behind → In v all = λ v. In-right v (occurrences equation.0) behind in (
      CoversTree-more (occurrences equation.0) all equation.0 (λ v. In-left v (occurrences equation.0) behind) (CoversTree-occurrences equation.0),
      CoversTree-more (occurrences equation.1) all equation.1 (λ v h. later v (In-left v (occurrences equation.1) (variable_places equations) h)) (CoversTree-occurrences equation.1),
      Covers-more (variable_places equations) all equations (λ v h. later v (In-right v (occurrences equation.1) (variable_places equations) h)) (Covers-variable_places equations),
    )
