-- Induction over the moves of equations, and the run of a solver, one move at a time: enough fuel doesn't matter.
use Rattle.std.proofs.Common.{◌≡◌, ℕ, zero, suc, ◌+◌, ◌<◌, ◌≤◌, List, [], ◌∷◌, length, refl, sym, ap, subst, ◌∙◌, arith}
use Rattle.le_terms.specs.Tree.{Tree, cell}
use Rattle.le_subst.specs.Unifiers.{Equation}
use Rattle.le_subst.specs.Solution.{Move, dropped, split, bound, contradictory, move, size, left_size, with_replaced, variable_places, Solver, after, within, by_bindings, run}
use Rattle.le_subst.proofs.Moves.{Means, means, size-positive}
use Rattle.le_subst.proofs.Covers.{In, without, Covers, CoversTree, length-without-In, Covers-with_replaced, covers-binding, Covers-variable_places}

-- what holds of the equations that are left after a move
abbrev pub Next : (List Equation → Type 0) → Move → List Equation → Type 0
Next P dropped rest = P rest
Next P (split heads tails) rest = P (heads ∷ tails ∷ rest)
Next P (bound v tree) rest = P (with_replaced v tree rest)
Next P contradictory rest = Unit {0}

-- what holds of all equations holds of those
pub next : (P : List Equation → Type 0) → ((equations : List Equation) → P equations) → (m : Move) (rest : List Equation) → Next P m rest
next P all dropped rest = all rest
next P all (split heads tails) rest = all (heads ∷ tails ∷ rest)
next P all (bound v tree) rest = all (with_replaced v tree rest)
next P all contradictory rest = tt

-- what an induction needs to know of fewer variables
abbrev Fewer : (List Equation → Type 0) → ℕ → Type 0
Fewer P n = (equations : List Equation) (vs : List ℕ) → length vs < n → Covers vs equations → P equations

-- the moves before the next binding take symbols away from the left sides
smaller : (P : List Equation → Type 0) (n : ℕ) (moves : ℕ) (left right : Tree) (rest : List Equation) (vs : List ℕ)
    → Fewer P n
    → ((equations : List Equation) → left_size equations ≤ moves → Covers vs equations → P equations)
    → size left + left_size rest ≤ suc moves → length vs ≤ n → Covers vs ((left, right) ∷ rest)
    → (m : Move) → Means m left right → Next P m rest
smaller P n moves left right rest vs fewer same fits few covers dropped meant =
    same rest (omega (arith, size-positive left)) covers.2
smaller P n moves left right rest vs fewer same fits few covers (split heads tails) meant =
    let one_more : size left ≡ suc (size heads.0 + size tails.0) = ap size meant.0 in
    let in_left : CoversTree vs (cell heads.0 tails.0) = subst (CoversTree vs) meant.0 covers.0 in
    let in_right : CoversTree vs (cell heads.1 tails.1) = subst (CoversTree vs) meant.1 covers.1 in
    same (heads ∷ tails ∷ rest) (omega arith) (in_left.0, in_right.0, (in_left.1, in_right.1, covers.2))
smaller P n moves left right rest vs fewer same fits few covers (bound v tree) meant =
    let parts : In v vs × CoversTree (without v vs) tree = covers-binding left right v tree vs meant covers.0 covers.1 in
    let shorter : length (without v vs) < length vs = length-without-In v vs parts.0 in
    fewer (with_replaced v tree rest) (without v vs) (omega arith) (Covers-with_replaced v vs tree rest parts.1 covers.2)
smaller P n moves left right rest vs fewer same fits few covers contradictory meant = tt

by_size : (P : List Equation → Type 0) → P [] → ((left right : Tree) (rest : List Equation) → Next P (move left right) rest → P ((left, right) ∷ rest))
    → (n : ℕ) → Fewer P n → (vs : List ℕ) → length vs ≤ n
    → (moves : ℕ) (equations : List Equation) → left_size equations ≤ moves → Covers vs equations → P equations
by_size P none step n fewer vs few moves [] fits covers = none
by_size P none step n fewer vs few zero (equation ∷ equations) fits covers = absurd (omega (arith, size-positive equation.0))
by_size P none step n fewer vs few (suc moves) (equation ∷ equations) fits covers =
    step equation.0 equation.1 equations
    (smaller P n moves equation.0 equation.1 equations vs fewer (by_size P none step n fewer vs few moves) fits few covers (move equation.0 equation.1) (means equation.0 equation.1))

by_count : (P : List Equation → Type 0) → P [] → ((left right : Tree) (rest : List Equation) → Next P (move left right) rest → P ((left, right) ∷ rest))
    → (n : ℕ) (equations : List Equation) (vs : List ℕ) → length vs < n → Covers vs equations → P equations
by_count P none step zero equations vs few covers = absurd (omega arith)
by_count P none step (suc n) equations vs few covers =
    by_size P none step n (by_count P none step n) vs (omega arith) (left_size equations) equations (omega arith) covers

-- induction over moves: what holds of no equations, and of equations where it holds of those left after the first one's move, holds of all equations
pub by_moves : (P : List Equation → Type 0) → P [] → ((left right : Tree) (rest : List Equation) → Next P (move left right) rest → P ((left, right) ∷ rest)) → (equations : List Equation) → P equations
by_moves P none step equations =
    by_count P none step (suc (length (variable_places equations))) equations (variable_places equations) (omega arith) (Covers-variable_places equations)

module _ {X : Type 0} (solver : Solver X) where
  -- with enough fuel, a run is what it is with its own
  abbrev Settles : List Equation → Type 0
  Settles equations = (n : ℕ) (vs : List ℕ) (moves : ℕ) → length vs ≤ n → Covers vs equations → left_size equations ≤ moves → within solver (by_bindings solver n) moves equations ≡ run solver equations

  settles-after : (left right : Tree) (rest : List Equation) (m : Move) → Means m left right → Next Settles m rest
      → (n : ℕ) (vs : List ℕ) (moves : ℕ) → length vs ≤ n → Covers vs ((left, right) ∷ rest) → size left + left_size rest ≤ suc moves
      → after solver (within solver (by_bindings solver n) moves) (by_bindings solver n) m rest ≡ after solver (run solver) (run solver) m rest
  settles-after left right rest dropped meant settles n vs moves few covers fits =
      settles n vs moves few covers.2 (omega (arith, size-positive left))
  settles-after left right rest (split heads tails) meant settles n vs moves few covers fits =
      let one_more : size left ≡ suc (size heads.0 + size tails.0) = ap size meant.0 in
      let in_left : CoversTree vs (cell heads.0 tails.0) = subst (CoversTree vs) meant.0 covers.0 in
      let in_right : CoversTree vs (cell heads.1 tails.1) = subst (CoversTree vs) meant.1 covers.1 in
      settles n vs moves few (in_left.0, in_right.0, (in_left.1, in_right.1, covers.2)) (omega arith)
  settles-after left right rest (bound v tree) meant settles zero vs moves few covers fits =
      let parts : In v vs × CoversTree (without v vs) tree = covers-binding left right v tree vs meant covers.0 covers.1 in
      let shorter : length (without v vs) < length vs = length-without-In v vs parts.0 in
      absurd (omega arith)
  settles-after left right rest (bound v tree) meant settles (suc n) vs moves few covers fits =
      let parts : In v vs × CoversTree (without v vs) tree = covers-binding left right v tree vs meant covers.0 covers.1 in
      let shorter : length (without v vs) < length vs = length-without-In v vs parts.0 in
      ap (solver.binds v tree) (settles n (without v vs) (left_size (with_replaced v tree rest)) (omega arith) (Covers-with_replaced v vs tree rest parts.1 covers.2) (omega arith))
  settles-after left right rest contradictory meant settles n vs moves few covers fits = refl

  settles-step : (left right : Tree) (rest : List Equation) → Next Settles (move left right) rest
      → (n : ℕ) (vs : List ℕ) (moves : ℕ) → length vs ≤ n → Covers vs ((left, right) ∷ rest) → size left + left_size rest ≤ moves
      → within solver (by_bindings solver n) moves ((left, right) ∷ rest) ≡ after solver (run solver) (run solver) (move left right) rest
  settles-step left right rest settles n vs zero few covers fits = absurd (omega (arith, size-positive left))
  settles-step left right rest settles n vs (suc moves) few covers fits =
      settles-after left right rest (move left right) (means left right) settles n vs moves few covers fits

  -- the run's own fuel is enough
  settles-own : (left right : Tree) (rest : List Equation) → Next Settles (move left right) rest → run solver ((left, right) ∷ rest) ≡ after solver (run solver) (run solver) (move left right) rest
  unfolding run
  settles-own left right rest settles =
      settles-step left right rest settles (length (variable_places ((left, right) ∷ rest))) (variable_places ((left, right) ∷ rest)) (left_size ((left, right) ∷ rest))
      (omega arith) (Covers-variable_places ((left, right) ∷ rest)) (omega arith)

  -- of no equations
  pub run-none : run solver [] ≡ solver.solved
  unfolding run
  run-none = refl

  settles-none : Settles []
  settles-none n vs moves few covers fits = none moves ∙ sym run-none
    where
      none : (k : ℕ) → within solver (by_bindings solver n) k [] ≡ solver.solved
      none zero = refl
      none (suc k) = refl

  settles : (equations : List Equation) → Settles equations
  settles = by_moves Settles settles-none (λ left right rest behind n vs moves few covers fits.
      settles-step left right rest behind n vs moves few covers fits ∙ sym (settles-own left right rest behind))

  -- of equations: the first one's move, and then the run of those left
  pub run-move : (left right : Tree) (rest : List Equation) → run solver ((left, right) ∷ rest) ≡ after solver (run solver) (run solver) (move left right) rest
  run-move left right rest = settles-own left right rest (next Settles settles (move left right) rest)
