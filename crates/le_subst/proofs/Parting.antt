-- The first equation of two lists of symbols, and its binding where its first symbols differ.
use Rattle.std.proofs.Common.{rules, ◌≡◌, ◌≢◌, ◌==◌, ℕ, suc, ◌+◌, ◌-◌, ◌<◌, ◌≤◌, true, false, true≢false, cond, Result, Ok, Err, IfOk, IsSome, List, [], ◌∷◌, ◌++◌, length, take, drop, get_or, slice_get, Option, Some, None, refl, sym, ap, subst, ◌∙◌, arith, zero, length-drop}
use Rattle.std.proofs.Math.Seq.{take-append_seam, drop-append_seam}
use Rattle.le_terms.specs.declared.term.Sym.{Sym}
use Rattle.le_terms.specs.Tree.{Tree, variable, flat, root, tree_of, tree_of-flat, IsTerm, BeginsWith}
use Rattle.le_subst.specs.Unifiers.{Equation}
use Rattle.le_subst.specs.Solution.{occurs, bound, contradictory, against, move, with_replaced, Solver, after, run, to_map, solve_of}
use Rattle.le_subst.specs.Symbols.{lefts, rights, equations_of, AreSides, AreSymbols}
use Rattle.le_subst.specs.Steps.{choice_of, to_count, LeadsTo, StepMeans, BindMeans}
use Rattle.le_subst.specs.declared.solving.Step.{Step}
use Rattle.le_subst.specs.declared.solving.Step.TheVariants.{Solved, Failed, Bound}
use Rattle.le_subst.specs.declared.solving.Choice.TheVariants.{Left, Right, Neither}
use Rattle.le_subst.proofs.Induction.{run-none, run-move}
use Rattle.le_subst.proofs.SymbolLists.{AreSymbols-left, AreSymbols-drop, IsTerm-symbols, AreSides-made, equations_of-same}
use Rattle.le_subst.proofs.Walk.{Alike, Onward, walked, lefts-root, rights-root, lefts-none, ChoiceMeans, chosen}

-- the first equation of two lists of symbols
pub record First (left right : List Sym) : Type 0 where
  pub s : Tree
  pub t : Tree
  pub rest : List Equation
  pub equations_is : equations_of left right ≡ (s, t) ∷ rest
  pub left_is : left ≡ flat s ++ lefts rest
  pub right_is : right ≡ flat t ++ rights rest

first_of : (left right : List Sym) (equations : List Equation) → equations_of left right ≡ equations → lefts equations ≡ left → rights equations ≡ right → 0 < length left → First left right
first_of left right [] is is_left is_right some = absurd (omega (arith, ap length is_left))
first_of left right (equation ∷ rest) is is_left is_right some = record {
  s = equation.0;
  t = equation.1;
  rest = rest;
  equations_is = is;
  left_is = sym is_left;
  right_is = sym is_right;
}

-- there is one where symbols are left
pub first : (left right : List Sym) → AreSides left right → 0 < length left → First left right
first left right sides some = first_of left right (equations_of left right) refl sides.left_whole sides.right_whole some

-- the symbols of the right side are there, too
pub right-some : (left right : List Sym) → First left right → 0 < length right
right-some left right f = omega (arith, ap length (f.right_is ∙ rights-root f.s f.t f.rest))

-- the first symbols are the roots
pub left-root : (left right : List Sym) (f : First left right) (d : Sym) → get_or left 0 d ≡ root f.s
left-root left right f d = ap (λ symbols. get_or symbols 0 d) (f.left_is ∙ lefts-root f.s f.t f.rest)

pub right-root : (left right : List Sym) (f : First left right) (d : Sym) → get_or right 0 d ≡ root f.t
right-root left right f d = ap (λ symbols. get_or symbols 0 d) (f.right_is ∙ rights-root f.s f.t f.rest)

-- first symbols that differ
pub roots-differ : (left right : List Sym) (f : First left right) → 0 < length left → (0 < length left → 0 < length right → slice_get left 0 ≢ slice_get right 0) → root f.s ≢ root f.t
roots-differ left right f some differ same =
    differ some (right-some left right f)
    (ap (λ symbols. slice_get symbols 0) (f.left_is ∙ lefts-root f.s f.t f.rest)
    ∙ (ap Some same ∙ sym (ap (λ symbols. slice_get symbols 0) (f.right_is ∙ rights-root f.s f.t f.rest))))

-- what the choice between the first symbols says of the first equation
pub first-chosen : (left right : List Sym) (f : First left right) (d : Sym) → root f.s ≢ root f.t → ChoiceMeans (choice_of (get_or left 0 d) (get_or right 0 d)) f.s f.t
first-chosen left right f d differ =
    subst (λ x. ChoiceMeans (choice_of x (get_or right 0 d)) f.s f.t) (sym (left-root left right f d))
    (subst (λ y. ChoiceMeans (choice_of (root f.s) y) f.s f.t) (sym (right-root left right f d)) (chosen f.s f.t differ))

-- no equations are left
pub solved-none : (left right : List Sym) → AreSides left right → length left ≡ 0 → solve_of (equations_of left right) ≡ Some []
solved-none left right sides none = ap solve_of (lefts-none (equations_of left right) (sides.left_whole ∙ empty left none)) ∙ run-none to_map
  where
    empty : (xs : List Sym) → length xs ≡ 0 → xs ≡ []
    empty [] is = refl
    empty (x ∷ xs) is = absurd (omega arith)

-- a contradiction
pub failed-first : (left right : List Sym) (f : First left right) → move f.s f.t ≡ contradictory → solve_of (equations_of left right) ≡ None
failed-first left right f is =
    ap solve_of f.equations_is ∙ (run-move to_map f.s f.t f.rest ∙ ap (λ m. after to_map (run to_map) (run to_map) m f.rest) is)

against-bound : (v : ℕ) (tree : Tree) → occurs v tree ≡ false → against v tree ≡ bound v tree
against-bound v tree is = ap (λ b. cond b contradictory (bound v tree)) is

against-contradictory : (v : ℕ) (tree : Tree) → occurs v tree ≡ true → against v tree ≡ contradictory
against-contradictory v tree is = ap (λ b. cond b contradictory (bound v tree)) is

-- the run over an equation that binds a variable
binds : {X : Type 0} (solver : Solver X) (s t : Tree) (rest : List Equation) (v : ℕ) (tree : Tree) → move s t ≡ bound v tree → run solver ((s, t) ∷ rest) ≡ solver.binds v tree (run solver (with_replaced v tree rest))
binds solver s t rest v tree is = run-move solver s t rest ∙ ap (λ m. after solver (run solver) (run solver) m rest) is

-- what a step says of the binding of the first equation
step-first : (s t : Tree) (rest : List Equation) (v : ℕ) (tree : Tree) → move s t ≡ against v tree → (step : Step) → BindMeans step v tree rest → StepMeans step ((s, t) ∷ rest)
step-first s t rest v tree is Solved h = absurd h
step-first s t rest v tree is Failed h =
    run-move to_map s t rest ∙ ap (λ m. after to_map (run to_map) (run to_map) m rest) (is ∙ against-contradictory v tree h)
step-first s t rest v tree is (Bound w other left right) h =
    let moved : move s t ≡ bound v tree = is ∙ against-bound v tree h.0 in
    let Leads : List Equation → Type 0 = λ others. LeadsTo ((s, t) ∷ rest) w other others in
    let here : LeadsTo ((s, t) ∷ rest) v tree (with_replaced v tree rest) = record { solution = binds to_map s t rest v tree moved; count = binds to_count s t rest v tree moved } in
    (h.3, subst Leads (sym h.4) (subst (λ u. LeadsTo ((s, t) ∷ rest) u other (with_replaced v tree rest)) (sym h.1) (subst (λ u. LeadsTo ((s, t) ∷ rest) v u (with_replaced v tree rest)) (sym h.2) here)))

-- a part of a list that goes to its end
take-past : (m : ℕ) (xs : List Sym) → length xs ≤ m → take m xs ≡ xs
take-past zero [] fits = refl
take-past zero (x ∷ xs) fits = absurd (omega arith)
take-past (suc m) [] fits = refl
take-past (suc m) (x ∷ xs) fits = ap (λ others. x ∷ others) (take-past m xs (omega arith))

pub to_end : (m n : ℕ) (xs : List Sym) → length xs ≤ m + n → take m (drop n xs) ≡ drop n xs
to_end m n xs fits = take-past m (drop n xs) (omega (arith, length-drop n xs))

-- the first item after some others
pub slice_get-drop : (n : ℕ) (xs : List Sym) → slice_get (drop n xs) 0 ≡ slice_get xs n
slice_get-drop zero xs = refl
slice_get-drop (suc n) [] = refl
slice_get-drop (suc n) (x ∷ xs) = slice_get-drop n xs

-- the binding of a variable to the term that begins on the other side: what is known of its symbols and of those after it
pub record Parts (left right image rest_left rest_right : List Sym) (v : ℕ) : Type 0 where
  pub term : IsTerm image
  pub sides : AreSides rest_left rest_right
  pub means : (step : Step) → BindMeans step v (tree_of image) (equations_of rest_left rest_right) → StepMeans step (equations_of left right)

parts-made : (left right image rest_left rest_right : List Sym) (f : First left right) (v : ℕ) (tree : Tree)
    → image ≡ flat tree → rest_left ≡ lefts f.rest → rest_right ≡ rights f.rest → AreSymbols image → AreSymbols rest_left → AreSymbols rest_right
    → move f.s f.t ≡ against v tree → Parts left right image rest_left rest_right v
parts-made left right image rest_left rest_right f v tree is_image is_left is_right image_symbols left_symbols right_symbols moved = record {
  term = IsTerm-symbols tree image is_image image_symbols;
  sides = AreSides-made f.rest rest_left rest_right is_left is_right left_symbols right_symbols;
  means = λ step h.
      subst (StepMeans step) (sym f.equations_is)
      (step-first f.s f.t f.rest v tree moved step
      (subst (BindMeans step v tree) (equations_of-same f.rest rest_left rest_right is_left is_right)
      (subst (λ u. BindMeans step v u (equations_of rest_left rest_right)) (ap tree_of is_image ∙ tree_of-flat tree) h)));
}

-- symbols that begin with a term's
seam-take : (xs all ys : List Sym) (n : ℕ) → all ≡ xs ++ ys → n ≡ length xs → take n all ≡ xs
seam-take xs all ys n is long = ap (λ k. take k all) long ∙ (ap (take (length xs)) is ∙ take-append_seam xs ys)

seam-drop : (xs all ys : List Sym) (n : ℕ) → all ≡ xs ++ ys → n ≡ length xs → drop n all ≡ ys
seam-drop xs all ys n is long = ap (λ k. drop k all) long ∙ (ap (drop (length xs)) is ∙ drop-append_seam xs ys)

-- a variable on the left
pub parts-left : (left right : List Sym) (f : First left right) (sides : AreSides left right) (v n : ℕ) → (f.s ≡ variable v) × (move f.s f.t ≡ against v f.t) → n ≡ length (flat f.t)
    → Parts left right (take n right) (drop 1 left) (drop n right) v
parts-left left right f sides v n h long =
    let is_image : take n right ≡ flat f.t = seam-take (flat f.t) right (rights f.rest) n f.right_is long in
    let is_left : drop 1 left ≡ lefts f.rest = seam-drop (flat f.s) left (lefts f.rest) 1 f.left_is (ap (λ tree. length (flat tree)) (sym h.0)) in
    let is_right : drop n right ≡ rights f.rest = seam-drop (flat f.t) right (rights f.rest) n f.right_is long in
    parts-made left right (take n right) (drop 1 left) (drop n right) f v f.t is_image is_left is_right
    (subst AreSymbols (sym is_image) (AreSymbols-left (flat f.t) (rights f.rest) (subst AreSymbols f.right_is sides.right_symbols)))
    (AreSymbols-drop 1 left sides.left_symbols) (AreSymbols-drop n right sides.right_symbols) h.1

-- a variable on the right
pub parts-right : (left right : List Sym) (f : First left right) (sides : AreSides left right) (v n : ℕ) → (f.t ≡ variable v) × (move f.s f.t ≡ against v f.s) → n ≡ length (flat f.s)
    → Parts left right (take n left) (drop n left) (drop 1 right) v
parts-right left right f sides v n h long =
    let is_image : take n left ≡ flat f.s = seam-take (flat f.s) left (lefts f.rest) n f.left_is long in
    let is_left : drop n left ≡ lefts f.rest = seam-drop (flat f.s) left (lefts f.rest) n f.left_is long in
    let is_right : drop 1 right ≡ rights f.rest = seam-drop (flat f.t) right (rights f.rest) 1 f.right_is (ap (λ tree. length (flat tree)) (sym h.0)) in
    parts-made left right (take n left) (drop n left) (drop 1 right) f v f.s is_image is_left is_right
    (subst AreSymbols (sym is_image) (AreSymbols-left (flat f.s) (lefts f.rest) (subst AreSymbols f.left_is sides.left_symbols)))
    (AreSymbols-drop n left sides.left_symbols) (AreSymbols-drop 1 right sides.right_symbols) h.1

-- the equations after what two lists have in common
pub record Behind (left right rest_left rest_right : List Sym) : Type 0 where
  pub sides : AreSides rest_left rest_right
  pub means : (step : Step) → StepMeans step (equations_of rest_left rest_right) → StepMeans step (equations_of left right)

alike-means : (equations others : List Equation) → Alike equations others → (step : Step) → StepMeans step others → StepMeans step equations
alike-means equations others alike Solved h = alike.solution ∙ h
alike-means equations others alike Failed h = alike.solution ∙ h
alike-means equations others alike (Bound v tree left right) h = (h.0, record { solution = alike.solution ∙ h.1.solution; count = alike.count ∙ h.1.count })

pub behind : (left right : List Sym) (n : ℕ) → AreSides left right → take n left ≡ take n right → n ≤ length left → Behind left right (drop n left) (drop n right)
behind left right n sides same within =
    let equations : List Equation = equations_of left right in
    let onward : Onward equations (drop n (lefts equations)) (drop n (rights equations)) =
    walked n equations (ap (take n) sides.left_whole ∙ (same ∙ ap (take n) (sym sides.right_whole))) (subst (λ symbols. n ≤ length symbols) (sym sides.left_whole) within) in
    let is_left : drop n left ≡ lefts onward.others = ap (drop n) (sym sides.left_whole) ∙ onward.left_is in
    let is_right : drop n right ≡ rights onward.others = ap (drop n) (sym sides.right_whole) ∙ onward.right_is in
    record {
      sides = AreSides-made onward.others (drop n left) (drop n right) is_left is_right (AreSymbols-drop n left sides.left_symbols) (AreSymbols-drop n right sides.right_symbols);
      means = λ step h. alike-means equations onward.others onward.alike step (subst (StepMeans step) (equations_of-same onward.others (drop n left) (drop n right) is_left is_right) h);
    }

-- a number that isn't 0
pub positive : (n : ℕ) → false ≡ (n == 0) → 0 < n
positive zero is = absurd (true≢false (sym is))
positive (suc n) is = omega arith

-- what follows of each answer follows of an answer
pub if_ok : {X E : Type 0} (result : Result X E) (P Q : X → Type 0) → ((x : X) → P x → Q x) → IfOk result P → IfOk result Q
if_ok (Ok x) P Q more h = more x h
if_ok (Err e) P Q more h = h

-- the length of the first term that some symbols begin with
begins-long : (tree : Tree) (symbols : List Sym) (found : Option ℕ) (n : ℕ) → BeginsWith tree symbols → ((other : Tree) → BeginsWith other symbols → found ≡ Some (length (flat other))) → found ≡ Some n → n ≡ length (flat tree)
begins-long tree symbols found n begins every is =
    let same : Some n ≡ Some (length (flat tree)) = sym is ∙ every tree begins in
    let inner : n ≡ length (flat tree) = (cc same) in inner

-- the parts are those of slices
sliced : (left right image : List Sym) (k m : ℕ) (v : ℕ) → Parts left right image (drop k left) (drop m right) v → Parts left right image (take (length left - k) (drop k left)) (take (length right - m) (drop m right)) v
sliced left right image k m v parts =
    let WithLeft : List Sym → Type 0 = λ symbols. Parts left right image symbols (take (length right - m) (drop m right)) v in
    let WithRight : List Sym → Type 0 = λ symbols. Parts left right image (drop k left) symbols v in
    subst WithLeft (sym (to_end (length left - k) k left (omega arith))) (subst WithRight (sym (to_end (length right - m) m right (omega arith))) parts)

-- the variable on the left is bound
pub bound-left : (left right : List Sym) → AreSides left right → 0 < length left → (0 < length left → 0 < length right → slice_get left 0 ≢ slice_get right 0)
    → (d : Sym) (v n : ℕ) (found : Option ℕ) → Left v ≡ choice_of (get_or left 0 d) (get_or right 0 d)
    → ((tree : Tree) → BeginsWith tree right → found ≡ Some (length (flat tree))) → found ≡ Some n
    → Parts left right (take n right) (take (length left - 1) (drop 1 left)) (take (length right - n) (drop n right)) v
bound-left left right sides some differ d v n found choice every is =
    let f : First left right = first left right sides some in
    let means : ChoiceMeans (Left v) f.s f.t = subst (λ c. ChoiceMeans c f.s f.t) (sym choice) (first-chosen left right f d (roots-differ left right f some differ)) in
    sliced left right (take n right) 1 n v (parts-left left right f sides v n means (begins-long f.t right found n (rights f.rest, f.right_is) every is))

-- the variable on the right is bound
pub bound-right : (left right : List Sym) → AreSides left right → 0 < length left → (0 < length left → 0 < length right → slice_get left 0 ≢ slice_get right 0)
    → (d : Sym) (v n : ℕ) (found : Option ℕ) → Right v ≡ choice_of (get_or left 0 d) (get_or right 0 d)
    → ((tree : Tree) → BeginsWith tree left → found ≡ Some (length (flat tree))) → found ≡ Some n
    → Parts left right (take n left) (take (length left - n) (drop n left)) (take (length right - 1) (drop 1 right)) v
bound-right left right sides some differ d v n found choice every is =
    let f : First left right = first left right sides some in
    let means : ChoiceMeans (Right v) f.s f.t = subst (λ c. ChoiceMeans c f.s f.t) (sym choice) (first-chosen left right f d (roots-differ left right f some differ)) in
    sliced left right (take n left) n 1 v (parts-right left right f sides v n means (begins-long f.s left found n (lefts f.rest, f.left_is) every is))

-- neither is bound
pub bound-neither : (left right : List Sym) → AreSides left right → 0 < length left → (0 < length left → 0 < length right → slice_get left 0 ≢ slice_get right 0)
    → (d : Sym) → Neither ≡ choice_of (get_or left 0 d) (get_or right 0 d) → solve_of (equations_of left right) ≡ None
bound-neither left right sides some differ d choice =
    let f : First left right = first left right sides some in
    let means : ChoiceMeans Neither f.s f.t = subst (λ c. ChoiceMeans c f.s f.t) (sym choice) (first-chosen left right f d (roots-differ left right f some differ)) in
    failed-first left right f means

-- some symbols begin with a term
pub left-begins : (left right : List Sym) → AreSides left right → 0 < length left → (found : Option ℕ) → ((tree : Tree) → BeginsWith tree left → found ≡ Some (length (flat tree))) → IsSome found
left-begins left right sides some found every =
    let f : First left right = first left right sides some in
    let is : found ≡ Some (length (flat f.s)) = every f.s (lefts f.rest, f.left_is) in
    subst (λ r. IsSome r) (sym is) (search rules)

pub right-begins : (left right : List Sym) → AreSides left right → 0 < length left → (found : Option ℕ) → ((tree : Tree) → BeginsWith tree right → found ≡ Some (length (flat tree))) → IsSome found
right-begins left right sides some found every =
    let f : First left right = first left right sides some in
    let is : found ≡ Some (length (flat f.t)) = every f.t (rights f.rest, f.right_is) in
    subst (λ r. IsSome r) (sym is) (search rules)

-- the first symbols after what two lists have in common differ
pub behind-differ : (left right : List Sym) (n : ℕ) → (n < length left → n < length right → slice_get left n ≢ slice_get right n)
    → (rest_left rest_right : List Sym) → rest_left ≡ drop n left → rest_right ≡ drop n right → 0 < length rest_left → 0 < length rest_right → slice_get rest_left 0 ≢ slice_get rest_right 0
behind-differ left right n differ rest_left rest_right is_left is_right some_left some_right same =
    let within_left : n < length left = omega (arith, ap length is_left, length-drop n left) in
    let within_right : n < length right = omega (arith, ap length is_right, length-drop n right) in
    differ within_left within_right
    (sym (slice_get-drop n left)
    ∙ (ap (λ symbols. slice_get symbols 0) (sym is_left)
    ∙ (same ∙ (ap (λ symbols. slice_get symbols 0) is_right ∙ slice_get-drop n right))))

pub behind-sliced : (left right : List Sym) (n : ℕ) → AreSides left right → take n left ≡ take n right → n ≤ length left → Behind left right (take (length left - n) (drop n left)) (take (length right - n) (drop n right))
behind-sliced left right n sides same within =
    let WithLeft : List Sym → Type 0 = λ symbols. Behind left right symbols (take (length right - n) (drop n right)) in
    let WithRight : List Sym → Type 0 = λ symbols. Behind left right (drop n left) symbols in
    subst WithLeft (sym (to_end (length left - n) n left (omega arith))) (subst WithRight (sym (to_end (length right - n) n right (omega arith))) (behind left right n sides same within))
