-- The equations of a stack of pairs of cells, over one pair and over one binding.
use Rattle.std.proofs.Common.{◌≡◌, ℕ, ◌+◌, true, false, cond, List, [], ◌∷◌, ◌++◌, length, map, get_or, Some, None, refl, ap, ◌∙◌, arith}
use Rattle.std.proofs.lemmas.List.{get_or-map, length-map}
use Rattle.le_terms.specs.Tree.{Tree, variable, nil}
use Rattle.le_terms.specs.Variables.{replaced}
use Rattle.le_subst.specs.Unifiers.{Equation, Bindings, apply, mapped}
use Rattle.le_subst.specs.Solution.{Move, bound, contradictory, move, against, occurs, one, with_replaced, after, Solver, run, to_map, size, left_size}
use Rattle.le_subst.specs.Steps.{bound_after}
use Rattle.le_subst.proofs.Induction.{run-move}
use Rattle.le_subst.proofs.Replacing.{apply-extended}
use Rattle.le_store.specs.Shown.{Snapshot, Shown, term_in, term_of, IsThere}
use Rattle.le_unify.specs.Unifying.{equations_in, AreThere}

pub equations_in-push : (snapshot : Snapshot) (pairs : List (ℕ × ℕ)) (last : ℕ × ℕ) (following : List Equation) → equations_in snapshot (pairs ++ last ∷ []) following ≡ (term_in snapshot last.0, term_in snapshot last.1) ∷ equations_in snapshot pairs following
equations_in-push snapshot [] last following = refl
equations_in-push snapshot (pair ∷ pairs) last following = equations_in-push snapshot pairs last ((term_in snapshot pair.0, term_in snapshot pair.1) ∷ following)

-- pairs of cells that are there
pub there-push : (shown : Shown) (pairs : List (ℕ × ℕ)) (last : ℕ × ℕ) → AreThere shown pairs → IsThere shown last.0 → IsThere shown last.1 → AreThere shown (pairs ++ last ∷ [])
there-push shown [] last are left right = ((left, right), tt)
there-push shown (pair ∷ pairs) last are left right = (are.0, there-push shown pairs last are.1 left right)

pub there-pop : (shown : Shown) (pairs : List (ℕ × ℕ)) (last : ℕ × ℕ) → AreThere shown (pairs ++ last ∷ []) → AreThere shown pairs × (IsThere shown last.0 × IsThere shown last.1)
there-pop shown [] last are = (tt, are.0)
there-pop shown (pair ∷ pairs) last are = let more : AreThere shown pairs × (IsThere shown last.0 × IsThere shown last.1) = there-pop shown pairs last are.1 in ((are.0, more.0), more.1)

-- the last pair is the first equation
pub run-pair : {X : Type 0} (solver : Solver X) (snapshot : Snapshot) (pairs rest : List (ℕ × ℕ)) (left right : ℕ) (m : Move) → pairs ≡ rest ++ (left, right) ∷ [] → move (term_in snapshot left) (term_in snapshot right) ≡ m
    → run solver (equations_in snapshot pairs []) ≡ after solver (run solver) (run solver) m (equations_in snapshot rest [])
run-pair solver snapshot pairs rest left right m split_ is_move =
    ap (λ ps. run solver (equations_in snapshot ps [])) split_
    ∙ (ap (run solver) (equations_in-push snapshot rest (left, right) [])
    ∙ (run-move solver (term_in snapshot left) (term_in snapshot right) (equations_in snapshot rest [])
    ∙ ap (λ n. after solver (run solver) (run solver) n (equations_in snapshot rest [])) is_move))

pub size-pair : (snapshot : Snapshot) (pairs rest : List (ℕ × ℕ)) (left right : ℕ) → pairs ≡ rest ++ (left, right) ∷ [] → left_size (equations_in snapshot pairs []) ≡ size (term_in snapshot left) + left_size (equations_in snapshot rest [])
size-pair snapshot pairs rest left right split_ = ap (λ ps. left_size (equations_in snapshot ps [])) split_ ∙ ap left_size (equations_in-push snapshot rest (left, right) [])

-- two pairs more
pub parts-pushed : (snapshot : Snapshot) (rest with_tail new : List (ℕ × ℕ)) (head other_head tail other_tail : ℕ) → with_tail ≡ rest ++ (tail, other_tail) ∷ [] → new ≡ with_tail ++ (head, other_head) ∷ []
    → equations_in snapshot new [] ≡ (term_in snapshot head, term_in snapshot other_head) ∷ (term_in snapshot tail, term_in snapshot other_tail) ∷ equations_in snapshot rest []
parts-pushed snapshot rest with_tail new head other_head tail other_tail is_tail is_new =
    ap (λ ps. equations_in snapshot ps []) is_new
    ∙ (equations_in-push snapshot with_tail (head, other_head) []
    ∙ ap (λ es. (term_in snapshot head, term_in snapshot other_head) ∷ es) (ap (λ ps. equations_in snapshot ps []) is_tail ∙ equations_in-push snapshot rest (tail, other_tail) []))

-- a binding replaces the variable in all equations
term-bound : (old new : Shown) (v : ℕ) (tree : Tree) (place : ℕ) → new.now.terms ≡ map (replaced (one v tree)) old.now.terms → IsThere old place → term_of new place ≡ replaced (one v tree) (term_of old place)
term-bound old new v tree place bound_ there = ap (λ ts. get_or ts place nil) bound_ ∙ get_or-map (replaced (one v tree)) old.now.terms place nil nil there

pub equations_in-bound : (old new : Shown) (v : ℕ) (tree : Tree) (pairs : List (ℕ × ℕ)) (following : List Equation) → new.now.terms ≡ map (replaced (one v tree)) old.now.terms → AreThere old pairs
    → equations_in new.now pairs (with_replaced v tree following) ≡ with_replaced v tree (equations_in old.now pairs following)
equations_in-bound old new v tree [] following bound_ are = refl
equations_in-bound old new v tree (pair ∷ pairs) following bound_ are =
    ap (λ e. equations_in new.now pairs (e ∷ with_replaced v tree following))
    (ap (λ t. (t, term_of new pair.1)) (term-bound old new v tree pair.0 bound_ are.0.0) ∙ ap (λ t. (replaced (one v tree) (term_of old pair.0), t)) (term-bound old new v tree pair.1 bound_ are.0.1))
    ∙ equations_in-bound old new v tree pairs ((term_of old pair.0, term_of old pair.1) ∷ following) bound_ are.1

-- a term after some bindings, the first of which was made first
abbrev pub through : List (ℕ × Tree) → Tree → Tree
through [] tree = tree
through (binding ∷ bindings) tree = through bindings (replaced (one binding.0 binding.1) tree)

pub through-push : (bindings : List (ℕ × Tree)) (last : ℕ × Tree) (tree : Tree) → through (bindings ++ last ∷ []) tree ≡ replaced (one last.0 last.1) (through bindings tree)
through-push [] last tree = refl
through-push (binding ∷ bindings) last tree = through-push bindings last (replaced (one binding.0 binding.1) tree)

pub map-through-push : (bindings : List (ℕ × Tree)) (last : ℕ × Tree) (trees : List Tree) → map (through (bindings ++ last ∷ [])) trees ≡ map (replaced (one last.0 last.1)) (map (through bindings) trees)
map-through-push bindings last [] = refl
map-through-push bindings last (tree ∷ trees) = ap (λ t. t ∷ map (through (bindings ++ last ∷ [])) trees) (through-push bindings last tree) ∙ ap (λ ts. replaced (one last.0 last.1) (through bindings tree) ∷ ts) (map-through-push bindings last trees)

-- the map that they make does the same
pub record HasMap (bindings : List (ℕ × Tree)) : Type 0 where
  pub answer : Bindings
  pub made : bound_after bindings (Some []) ≡ Some answer
  pub same : (tree : Tree) → apply answer tree ≡ through bindings tree

replaced-none : (tree : Tree) → apply [] tree ≡ tree
replaced-none (Rattle.le_terms.specs.Tree.constant n) = refl
replaced-none (Rattle.le_terms.specs.Tree.number z) = refl
replaced-none (Rattle.le_terms.specs.Tree.date d) = refl
replaced-none (variable v) = refl
replaced-none nil = refl
replaced-none (Rattle.le_terms.specs.Tree.cell head tail) = ap (λ h. Rattle.le_terms.specs.Tree.cell h (apply [] tail)) (replaced-none head) ∙ ap (Rattle.le_terms.specs.Tree.cell head) (replaced-none tail)

pub has_map : (bindings : List (ℕ × Tree)) → HasMap bindings
has_map [] = record { answer = []; made = refl; same = replaced-none }
has_map (binding ∷ bindings) =
    let more : HasMap bindings = has_map bindings in
    record {
      answer = mapped more.answer binding.0 (apply more.answer binding.1);
      made = ap (to_map.binds binding.0 binding.1) more.made;
      same = λ tree. apply-extended more.answer binding.0 binding.1 tree ∙ more.same (replaced (one binding.0 binding.1) tree);
    }

pub map-same : (by with : Tree → Tree) → ((tree : Tree) → by tree ≡ with tree) → (trees : List Tree) → map by trees ≡ map with trees
map-same by with same [] = refl
map-same by with same (tree ∷ trees) = ap (λ t. t ∷ map by trees) (same tree) ∙ ap (λ ts. with tree ∷ ts) (map-same by with same trees)

pub map-through-none : (trees : List Tree) → trees ≡ map (through []) trees
map-through-none [] = refl
map-through-none (tree ∷ trees) = ap (λ ts. tree ∷ ts) (map-through-none trees)

-- a binding that was made, where room was made first
pub bound_step : (old mid new : Shown) (v var to : ℕ) → mid.now ≡ old.now → term_of old var ≡ variable v
    → ((w : ℕ) → term_of mid var ≡ variable w → new.now.terms ≡ map (replaced (one w (term_of mid to))) mid.now.terms)
    → new.now.terms ≡ map (replaced (one v (term_of old to))) old.now.terms
bound_step old mid new v var to same free bind =
    bind v (ap (λ s. term_in s var) same ∙ free) ∙ ap (λ s. map (replaced (one v (term_in s to))) s.terms) same

-- a variable against a term in which it doesn't occur
pub against-bound : {X : Type 0} (solver : Solver X) (v : ℕ) (tree : Tree) (rest : List Equation) → occurs v tree ≡ false → after solver (run solver) (run solver) (against v tree) rest ≡ solver.binds v tree (run solver (with_replaced v tree rest))
against-bound solver v tree rest apart = ap (λ b. after solver (run solver) (run solver) (cond b contradictory (bound v tree)) rest) apart

pub against-failed : (v : ℕ) (tree : Tree) (rest : List Equation) → occurs v tree ≡ true → after to_map (run to_map) (run to_map) (against v tree) rest ≡ None
against-failed v tree rest inside = ap (λ b. after to_map (run to_map) (run to_map) (cond b contradictory (bound v tree)) rest) inside

-- pairs stay there
pub there-bound : (old new : Shown) (pairs : List (ℕ × ℕ)) → length new.now.terms ≡ length old.now.terms → AreThere old pairs → AreThere new pairs
there-bound old new [] same are = tt
there-bound old new (pair ∷ pairs) same are = ((omega (arith, are.0.0), omega (arith, are.0.1)), there-bound old new pairs same are.1)

pub length-bound : (old new : Shown) (by : Tree → Tree) → new.now.terms ≡ map by old.now.terms → length new.now.terms ≡ length old.now.terms
length-bound old new by same = ap length same ∙ length-map old.now.terms by
