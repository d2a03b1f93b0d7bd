-- Two lists of symbols that begin alike: what they have in common decides nothing of the solution, and the first symbols that differ decide the next move.
use Rattle.std.proofs.Common.{◌≡◌, ◌≢◌, ℕ, zero, suc, ◌≤◌, Bool, true, false, cond, ◌==◌, nat_lt, List, [], ◌∷◌, ◌++◌, length, take, drop, refl, sym, ap, subst, ◌∙◌, arith, append_assoc, true≢false}
use Rattle.std.specs.Ordering.{int_eq}
use Rattle.std.proofs.lemmas.Bool.Decides.{Decides-eqb, Decides-int_eq}
use Rattle.std.proofs.lemmas.Cmp.{nat_eq_equiv}
use Rattle.le_terms.specs.declared.term.Sym.{Sym}
use Rattle.le_terms.specs.declared.term.Sym.TheVariants.{Name, Num, Day, Var}
use Rattle.le_terms.specs.Tree.{Tree, constant, number, date, variable, nil, cell, flat, root}
use Rattle.le_subst.specs.Unifiers.{Equation}
use Rattle.le_subst.specs.Solution.{Move, dropped, bound, contradictory, against, move, after, run, to_map, solve_of}
use Rattle.le_subst.specs.Symbols.{lefts, rights}
use Rattle.le_subst.specs.Steps.{choice_of, to_count, bindings_count}
use Rattle.le_subst.specs.declared.solving.Choice.{Choice}
use Rattle.le_subst.specs.declared.solving.Choice.TheVariants.{Left, Right, Neither}
use Rattle.le_subst.proofs.Induction.{run-move}

-- equations with one solution and as many bindings
pub record Alike (equations others : List Equation) : Type 0 where
  pub solution : solve_of equations ≡ solve_of others
  pub count : bindings_count equations ≡ bindings_count others

-- the equations whose sides are two lists of symbols without their first symbols
pub record Onward (equations : List Equation) (left right : List Sym) : Type 0 where
  pub others : List Equation
  pub left_is : left ≡ lefts others
  pub right_is : right ≡ rights others
  pub alike : Alike equations others

-- a leaf against the same leaf
alike-dropped : (left right : Tree) (rest : List Equation) → move left right ≡ dropped → Alike ((left, right) ∷ rest) rest
alike-dropped left right rest is = record {
  solution = run-move to_map left right rest ∙ ap (λ m. after to_map (run to_map) (run to_map) m rest) is;
  count = run-move to_count left right rest ∙ ap (λ m. after to_count (run to_count) (run to_count) m rest) is;
}

-- a cell against a cell
alike-split : (head tail other_head other_tail : Tree) (rest : List Equation) → Alike ((cell head tail, cell other_head other_tail) ∷ rest) ((head, other_head) ∷ (tail, other_tail) ∷ rest)
alike-split head tail other_head other_tail rest = record {
  solution = run-move to_map (cell head tail) (cell other_head other_tail) rest;
  count = run-move to_count (cell head tail) (cell other_head other_tail) rest;
}

test-same : (b : Bool) (m : Move) → b ≡ true → cond b dropped m ≡ dropped
test-same true m is = refl
test-same false m is = absurd (true≢false (sym is))

-- one symbol in common
onward : (s t : Tree) (rest : List Equation) → root s ≡ root t → Onward ((s, t) ∷ rest) (drop 1 (lefts ((s, t) ∷ rest))) (drop 1 (rights ((s, t) ∷ rest)))
onward (constant m) (constant n) rest same = record { others = rest; left_is = refl; right_is = refl; alike = alike-dropped (constant m) (constant n) rest (test-same (m == n) contradictory ((Decides-eqb m n).1 (let inner : m ≡ n = (cc same) in inner))) }
onward (number m) (number n) rest same = record { others = rest; left_is = refl; right_is = refl; alike = alike-dropped (number m) (number n) rest (test-same (int_eq m n) contradictory ((Decides-int_eq m n).1 (let inner : m ≡ n = (cc same) in inner))) }
onward (date m) (date n) rest same = record { others = rest; left_is = refl; right_is = refl; alike = alike-dropped (date m) (date n) rest (test-same (int_eq m n) contradictory ((Decides-int_eq m n).1 (let inner : m ≡ n = (cc same) in inner))) }
onward (variable m) (variable n) rest same = record { others = rest; left_is = refl; right_is = refl; alike = alike-dropped (variable m) (variable n) rest (test-same (m == n) (cond (nat_lt m n) (bound n (variable m)) (bound m (variable n))) ((Decides-eqb m n).1 (let inner : m ≡ n = (cc same) in inner))) }
onward nil nil rest same = record { others = rest; left_is = refl; right_is = refl; alike = alike-dropped nil nil rest refl }
onward (cell head tail) (cell other_head other_tail) rest same = record {
  others = (head, other_head) ∷ (tail, other_tail) ∷ rest;
  left_is = append_assoc (flat head) (flat tail) (lefts rest);
  right_is = append_assoc (flat other_head) (flat other_tail) (rights rest);
  alike = alike-split head tail other_head other_tail rest;
}
onward (constant m) (number n) rest same = absurd (cc same)
onward (constant m) (date n) rest same = absurd (cc same)
onward (constant m) (variable n) rest same = absurd (cc same)
onward (constant m) nil rest same = absurd (cc same)
onward (constant m) (cell head tail) rest same = absurd (cc same)
onward (number m) (constant n) rest same = absurd (cc same)
onward (number m) (date n) rest same = absurd (cc same)
onward (number m) (variable n) rest same = absurd (cc same)
onward (number m) nil rest same = absurd (cc same)
onward (number m) (cell head tail) rest same = absurd (cc same)
onward (date m) (constant n) rest same = absurd (cc same)
onward (date m) (number n) rest same = absurd (cc same)
onward (date m) (variable n) rest same = absurd (cc same)
onward (date m) nil rest same = absurd (cc same)
onward (date m) (cell head tail) rest same = absurd (cc same)
onward (variable m) (constant n) rest same = absurd (cc same)
onward (variable m) (number n) rest same = absurd (cc same)
onward (variable m) (date n) rest same = absurd (cc same)
onward (variable m) nil rest same = absurd (cc same)
onward (variable m) (cell head tail) rest same = absurd (cc same)
onward nil (constant n) rest same = absurd (cc same)
onward nil (number n) rest same = absurd (cc same)
onward nil (date n) rest same = absurd (cc same)
onward nil (variable n) rest same = absurd (cc same)
onward nil (cell head tail) rest same = absurd (cc same)
onward (cell head tail) (constant n) rest same = absurd (cc same)
onward (cell head tail) (number n) rest same = absurd (cc same)
onward (cell head tail) (date n) rest same = absurd (cc same)
onward (cell head tail) (variable n) rest same = absurd (cc same)
onward (cell head tail) nil rest same = absurd (cc same)

-- the symbols after the first one of a tree
abbrev pub below : Tree → List Sym
below tree = drop 1 (flat tree)

-- a tree's symbols begin with its root
pub flat-root : (tree : Tree) → flat tree ≡ root tree ∷ below tree
flat-root (constant n) = refl
flat-root (number z) = refl
flat-root (date d) = refl
flat-root (variable v) = refl
flat-root nil = refl
flat-root (cell head tail) = refl

pub lefts-root : (s t : Tree) (rest : List Equation) → lefts ((s, t) ∷ rest) ≡ root s ∷ (below s ++ lefts rest)
lefts-root s t rest = ap (λ symbols. symbols ++ lefts rest) (flat-root s)

pub rights-root : (s t : Tree) (rest : List Equation) → rights ((s, t) ∷ rest) ≡ root t ∷ (below t ++ rights rest)
rights-root s t rest = ap (λ symbols. symbols ++ rights rest) (flat-root t)

-- the first symbols and those after the first
drop-suc : (n : ℕ) (xs : List Sym) → drop (suc n) xs ≡ drop n (drop 1 xs)
drop-suc zero [] = refl
drop-suc (suc n) [] = refl
drop-suc n (x ∷ xs) = refl

take-rest : (n : ℕ) (xs ys : List Sym) → take (suc n) xs ≡ take (suc n) ys → take n (drop 1 xs) ≡ take n (drop 1 ys)
take-rest n [] [] same = refl
take-rest n [] (y ∷ ys) same = absurd (cc same)
take-rest n (x ∷ xs) [] same = absurd (cc same)
take-rest n (x ∷ xs) (y ∷ ys) same = let inner : take n xs ≡ take n ys = (cc same) in inner

take-first : (n : ℕ) (x y : Sym) (xs ys : List Sym) → take (suc n) (x ∷ xs) ≡ take (suc n) (y ∷ ys) → x ≡ y
take-first n x y xs ys same = let inner : x ≡ y = (cc same) in inner

length-rest : (n : ℕ) (xs : List Sym) → suc n ≤ length xs → n ≤ length (drop 1 xs)
length-rest n [] h = absurd (omega arith)
length-rest n (x ∷ xs) h = omega arith

-- two steps after one another
onward-twice : (equations : List Equation) (n : ℕ) (left right : List Sym) (one : Onward equations (drop 1 left) (drop 1 right))
    → Onward one.others (drop n (lefts one.others)) (drop n (rights one.others)) → Onward equations (drop (suc n) left) (drop (suc n) right)
onward-twice equations n left right one more = record {
  others = more.others;
  left_is = drop-suc n left ∙ (ap (drop n) one.left_is ∙ more.left_is);
  right_is = drop-suc n right ∙ (ap (drop n) one.right_is ∙ more.right_is);
  alike = record { solution = one.alike.solution ∙ more.alike.solution; count = one.alike.count ∙ more.alike.count };
}

-- the common symbols that two lists begin with
pub walked : (n : ℕ) (equations : List Equation) → take n (lefts equations) ≡ take n (rights equations) → n ≤ length (lefts equations) → Onward equations (drop n (lefts equations)) (drop n (rights equations))
walked zero equations same within = record { others = equations; left_is = refl; right_is = refl; alike = record { solution = refl; count = refl } }
walked (suc n) [] same within = absurd (omega arith)
walked (suc n) (equation ∷ equations) same within =
    let left : List Sym = lefts (equation ∷ equations) in
    let right : List Sym = rights (equation ∷ equations) in
    let first : root equation.0 ≡ root equation.1 =
    take-first n (root equation.0) (root equation.1) (below equation.0 ++ lefts equations) (below equation.1 ++ rights equations)
    (ap (take (suc n)) (sym (lefts-root equation.0 equation.1 equations)) ∙ (same ∙ ap (take (suc n)) (rights-root equation.0 equation.1 equations))) in
    let one : Onward (equation ∷ equations) (drop 1 left) (drop 1 right) = onward equation.0 equation.1 equations first in
    onward-twice (equation ∷ equations) n left right one
    (walked n one.others
    (ap (take n) (sym one.left_is) ∙ (take-rest n left right same ∙ ap (take n) one.right_is))
    (subst (λ symbols. n ≤ length symbols) one.left_is (length-rest n left within)))

-- no symbols are left
pub lefts-none : (equations : List Equation) → lefts equations ≡ [] → equations ≡ []
lefts-none [] none = refl
lefts-none (equation ∷ equations) none = absurd (cc (sym (lefts-root equation.0 equation.1 equations) ∙ none))

-- what the choice between two different first symbols says of the terms
abbrev pub ChoiceMeans : Choice → Tree → Tree → Type 0
ChoiceMeans (Left v) left right = (left ≡ variable v) × (move left right ≡ against v right)
ChoiceMeans (Right v) left right = (right ≡ variable v) × (move left right ≡ against v left)
ChoiceMeans Neither left right = move left right ≡ contradictory

test-other : (b : Bool) (m other : Move) → b ≡ false → cond b m other ≡ other
test-other true m other is = absurd (true≢false is)
test-other false m other is = refl

fails : (b : Bool) → (b ≡ true → ⊥) → b ≡ false
fails true never = absurd (never refl)
fails false never = refl

chosen-variables : (v w : ℕ) → (v == w) ≡ false → (b : Bool) → nat_lt v w ≡ b → ChoiceMeans (cond b (Right w) (Left v)) (variable v) (variable w)
chosen-variables v w other true less = (
  refl,
  test-other (v == w) dropped (cond (nat_lt v w) (bound w (variable v)) (bound v (variable w))) other
      ∙ (ap (λ b. cond b (bound w (variable v)) (bound v (variable w))) less
      ∙ sym (test-other (w == v) contradictory (bound w (variable v)) (nat_eq_equiv.symm w v ∙ other))),
)
chosen-variables v w other false less = (
  refl,
  test-other (v == w) dropped (cond (nat_lt v w) (bound w (variable v)) (bound v (variable w))) other
      ∙ (ap (λ b. cond b (bound w (variable v)) (bound v (variable w))) less
      ∙ sym (test-other (v == w) contradictory (bound v (variable w)) other)),
)

pub chosen : (s t : Tree) → root s ≢ root t → ChoiceMeans (choice_of (root s) (root t)) s t
chosen (variable m) (variable n) differ = chosen-variables m n (fails (m == n) (λ same. differ (ap Var ((Decides-eqb m n).0 same)))) (nat_lt m n) refl
chosen (constant m) (constant n) differ = test-other (m == n) dropped contradictory (fails (m == n) (λ same. differ (ap Name ((Decides-eqb m n).0 same))))
chosen (number m) (number n) differ = test-other (int_eq m n) dropped contradictory (fails (int_eq m n) (λ same. differ (ap Num ((Decides-int_eq m n).0 same))))
chosen (date m) (date n) differ = test-other (int_eq m n) dropped contradictory (fails (int_eq m n) (λ same. differ (ap Day ((Decides-int_eq m n).0 same))))
chosen nil nil differ = absurd (differ refl)
chosen (cell head tail) (cell other_head other_tail) differ = absurd (differ refl)
chosen (variable m) (constant n) differ = (refl, refl)
chosen (variable m) (number n) differ = (refl, refl)
chosen (variable m) (date n) differ = (refl, refl)
chosen (variable m) nil differ = (refl, refl)
chosen (variable m) (cell head tail) differ = (refl, refl)
chosen (constant m) (variable n) differ = (refl, refl)
chosen (number m) (variable n) differ = (refl, refl)
chosen (date m) (variable n) differ = (refl, refl)
chosen nil (variable n) differ = (refl, refl)
chosen (cell head tail) (variable n) differ = (refl, refl)
chosen (constant m) (number n) differ = refl
chosen (constant m) (date n) differ = refl
chosen (constant m) nil differ = refl
chosen (constant m) (cell head tail) differ = refl
chosen (number m) (constant n) differ = refl
chosen (number m) (date n) differ = refl
chosen (number m) nil differ = refl
chosen (number m) (cell head tail) differ = refl
chosen (date m) (constant n) differ = refl
chosen (date m) (number n) differ = refl
chosen (date m) nil differ = refl
chosen (date m) (cell head tail) differ = refl
chosen nil (constant n) differ = refl
chosen nil (number n) differ = refl
chosen nil (date n) differ = refl
chosen nil (cell head tail) differ = refl
chosen (cell head tail) (constant n) differ = refl
chosen (cell head tail) (number n) differ = refl
chosen (cell head tail) (date n) differ = refl
chosen (cell head tail) nil differ = refl
