-- Symbols of terms and of equations: that they are in range, what a replacement makes of them, and the way back to the equations.
use Rattle.std.proofs.Common.{◌≡◌, ℕ, zero, suc, Bool, true, false, cond, ◌==◌, List, [], ◌∷◌, ◌++◌, drop, refl, sym, ap, subst, ◌∙◌, append_assoc, append-nil}
use Rattle.le_terms.specs.declared.term.Sym.{Sym}
use Rattle.le_terms.specs.declared.term.Sym.TheVariants.{Name, Num, Day, Var, Nil, Cons}
use Rattle.le_terms.specs.Tree.{Tree, constant, number, date, variable, nil, cell, flat, trees_of, trees_of-flat, tree_of, IsInRange, IsTerm, IsTerm-flat}
use Rattle.le_terms.specs.Variables.{replaced}
use Rattle.le_subst.specs.Unifiers.{Equation}
use Rattle.le_subst.specs.Solution.{one, with_replaced}
use Rattle.le_subst.specs.Symbols.{lefts, rights, joined, equations_of, IsSymbol, AreSymbols, AreSides, symbol_image, images, one_image}

-- parts of symbols in range
pub AreSymbols-append : (xs ys : List Sym) → AreSymbols xs → AreSymbols ys → AreSymbols (xs ++ ys)
AreSymbols-append [] ys h g = g
AreSymbols-append (x ∷ xs) ys h g = (h.0, AreSymbols-append xs ys h.1 g)

pub AreSymbols-left : (xs ys : List Sym) → AreSymbols (xs ++ ys) → AreSymbols xs
AreSymbols-left [] ys h = tt
AreSymbols-left (x ∷ xs) ys h = (h.0, AreSymbols-left xs ys h.1)

pub AreSymbols-right : (xs ys : List Sym) → AreSymbols (xs ++ ys) → AreSymbols ys
AreSymbols-right [] ys h = h
AreSymbols-right (x ∷ xs) ys h = AreSymbols-right xs ys h.1

pub AreSymbols-drop : (n : ℕ) (xs : List Sym) → AreSymbols xs → AreSymbols (drop n xs)
AreSymbols-drop zero xs h = h
AreSymbols-drop (suc n) [] h = tt
AreSymbols-drop (suc n) (x ∷ xs) h = AreSymbols-drop n xs h.1

-- a term in range has symbols in range
pub AreSymbols-flat : (tree : Tree) → IsInRange tree → AreSymbols (flat tree)
AreSymbols-flat (constant n) h = (h, tt)
AreSymbols-flat (number z) h = (h, tt)
AreSymbols-flat (date d) h = (h, tt)
AreSymbols-flat (variable v) h = (h, tt)
AreSymbols-flat nil h = (h, tt)
AreSymbols-flat (cell head tail) h = (tt, AreSymbols-append (flat head) (flat tail) (AreSymbols-flat head h.0) (AreSymbols-flat tail h.1))

-- and a term whose symbols are in range is in range
pub IsInRange-flat : (tree : Tree) → AreSymbols (flat tree) → IsInRange tree
IsInRange-flat (constant n) h = h.0
IsInRange-flat (number z) h = h.0
IsInRange-flat (date d) h = h.0
IsInRange-flat (variable v) h = h.0
IsInRange-flat nil h = h.0
IsInRange-flat (cell head tail) h = (IsInRange-flat head (AreSymbols-left (flat head) (flat tail) h.1), IsInRange-flat tail (AreSymbols-right (flat head) (flat tail) h.1))

-- the symbols of a tree, in range, are one term
pub IsTerm-symbols : (tree : Tree) (symbols : List Sym) → symbols ≡ flat tree → AreSymbols symbols → IsTerm symbols
IsTerm-symbols tree symbols same h = IsTerm-flat tree symbols same (IsInRange-flat tree (subst AreSymbols same h))

pub AreSymbols-IsTerm : (symbols : List Sym) → IsTerm symbols → AreSymbols symbols
AreSymbols-IsTerm symbols h = subst AreSymbols h.whole (AreSymbols-flat (tree_of symbols) h.in_range)

-- symbols in range stay so where the variables' symbols are in range
pub AreSymbols-image : (by : ℕ → List Sym) → ((v : ℕ) → AreSymbols (by v)) → (symbol : Sym) → IsSymbol symbol → AreSymbols (symbol_image by symbol)
AreSymbols-image by ranges (Name n) h = (h, tt)
AreSymbols-image by ranges (Num z) h = (h, tt)
AreSymbols-image by ranges (Day d) h = (h, tt)
AreSymbols-image by ranges (Var v) h = ranges v
AreSymbols-image by ranges Nil h = (h, tt)
AreSymbols-image by ranges Cons h = (h, tt)

pub AreSymbols-images : (by : ℕ → List Sym) → ((v : ℕ) → AreSymbols (by v)) → (symbols : List Sym) → AreSymbols symbols → AreSymbols (images by symbols)
AreSymbols-images by ranges [] h = tt
AreSymbols-images by ranges (symbol ∷ symbols) h =
    AreSymbols-append (symbol_image by symbol) (images by symbols) (AreSymbols-image by ranges symbol h.0) (AreSymbols-images by ranges symbols h.1)

pub AreSymbols-one_image : (v : ℕ) (image : List Sym) → AreSymbols image → (w : ℕ) → AreSymbols (one_image v image w)
AreSymbols-one_image v image h w = by_test (w == v)
  where
    by_test : (b : Bool) → AreSymbols (cond b image (Var w ∷ []))
    by_test true = h
    by_test false = (tt, tt)

-- a replacement of two lists, one after the other
pub images-append : (by : ℕ → List Sym) (xs ys : List Sym) → images by (xs ++ ys) ≡ images by xs ++ images by ys
images-append by [] ys = refl
images-append by (x ∷ xs) ys = ap (λ symbols. symbol_image by x ++ symbols) (images-append by xs ys) ∙ sym (append_assoc (symbol_image by x) (images by xs) (images by ys))

-- a tree's symbols, replaced, are those of the replaced tree
pub images-flat : (by : ℕ → List Sym) (trees : ℕ → Tree) → ((v : ℕ) → by v ≡ flat (trees v)) → (tree : Tree) → images by (flat tree) ≡ flat (replaced trees tree)
images-flat by trees agree (constant n) = refl
images-flat by trees agree (number z) = refl
images-flat by trees agree (date d) = refl
images-flat by trees agree (variable v) = append-nil (by v) ∙ agree v
images-flat by trees agree nil = refl
images-flat by trees agree (cell head tail) =
    ap (λ symbols. Cons ∷ symbols)
    (images-append by (flat head) (flat tail)
    ∙ (ap (λ symbols. symbols ++ images by (flat tail)) (images-flat by trees agree head)
    ∙ ap (λ symbols. flat (replaced trees head) ++ symbols) (images-flat by trees agree tail)))

-- one variable's symbols are those of its one replacement
pub one_image-flat : (v : ℕ) (image : List Sym) (tree : Tree) → image ≡ flat tree → (w : ℕ) → one_image v image w ≡ flat (one v tree w)
one_image-flat v image tree same w = by_test (w == v)
  where
    by_test : (b : Bool) → cond b image (Var w ∷ []) ≡ flat (cond b tree (variable w))
    by_test true = same
    by_test false = refl

-- the left sides, replaced, are those of the replaced equations, and so are the right sides
pub images-lefts : (v : ℕ) (image : List Sym) (tree : Tree) → image ≡ flat tree → (equations : List Equation) → images (one_image v image) (lefts equations) ≡ lefts (with_replaced v tree equations)
images-lefts v image tree same [] = refl
images-lefts v image tree same (equation ∷ equations) =
    images-append (one_image v image) (flat equation.0) (lefts equations)
    ∙ (ap (λ symbols. symbols ++ images (one_image v image) (lefts equations)) (images-flat (one_image v image) (one v tree) (one_image-flat v image tree same) equation.0)
    ∙ ap (λ symbols. flat (replaced (one v tree) equation.0) ++ symbols) (images-lefts v image tree same equations))

pub images-rights : (v : ℕ) (image : List Sym) (tree : Tree) → image ≡ flat tree → (equations : List Equation) → images (one_image v image) (rights equations) ≡ rights (with_replaced v tree equations)
images-rights v image tree same [] = refl
images-rights v image tree same (equation ∷ equations) =
    images-append (one_image v image) (flat equation.1) (rights equations)
    ∙ (ap (λ symbols. symbols ++ images (one_image v image) (rights equations)) (images-flat (one_image v image) (one v tree) (one_image-flat v image tree same) equation.1)
    ∙ ap (λ symbols. flat (replaced (one v tree) equation.1) ++ symbols) (images-rights v image tree same equations))

-- the equations of the sides' symbols are the equations
pub equations_of-sides : (equations : List Equation) → equations_of (lefts equations) (rights equations) ≡ equations
equations_of-sides [] = refl
equations_of-sides (equation ∷ equations) =
    ap (λ trees. joined trees (trees_of (rights (equation ∷ equations)))) (trees_of-flat equation.0 (lefts equations))
    ∙ (ap (joined (equation.0 ∷ trees_of (lefts equations))) (trees_of-flat equation.1 (rights equations))
    ∙ ap (λ others. equation ∷ others) (equations_of-sides equations))

pub equations_of-same : (equations : List Equation) (left right : List Sym) → left ≡ lefts equations → right ≡ rights equations → equations_of left right ≡ equations
equations_of-same equations left right is_left is_right =
    ap (λ symbols. equations_of symbols right) is_left ∙ (ap (equations_of (lefts equations)) is_right ∙ equations_of-sides equations)

-- symbols of the sides of equations, in range
pub AreSides-made : (equations : List Equation) (left right : List Sym) → left ≡ lefts equations → right ≡ rights equations → AreSymbols left → AreSymbols right → AreSides left right
AreSides-made equations left right is_left is_right left_symbols right_symbols = record {
  left_whole = ap lefts (equations_of-same equations left right is_left is_right) ∙ sym is_left;
  right_whole = ap rights (equations_of-same equations left right is_left is_right) ∙ sym is_right;
  left_symbols = left_symbols;
  right_symbols = right_symbols;
}

-- the sides with a variable replaced by a term
pub replaced_sides : (v : ℕ) (image left right new_left new_right : List Sym) → IsTerm image → AreSides left right
    → new_left ≡ images (one_image v image) left → new_right ≡ images (one_image v image) right
    → AreSides new_left new_right × (equations_of new_left new_right ≡ with_replaced v (tree_of image) (equations_of left right))
replaced_sides v image left right new_left new_right term sides made_left made_right =
    let tree : Tree = tree_of image in
    let equations : List Equation = equations_of left right in
    let is_left : new_left ≡ lefts (with_replaced v tree equations) =
    made_left ∙ (ap (images (one_image v image)) (sym sides.left_whole) ∙ images-lefts v image tree (sym term.whole) equations) in
    let is_right : new_right ≡ rights (with_replaced v tree equations) =
    made_right ∙ (ap (images (one_image v image)) (sym sides.right_whole) ∙ images-rights v image tree (sym term.whole) equations) in
    let ranges : (w : ℕ) → AreSymbols (one_image v image w) = AreSymbols-one_image v image (AreSymbols-IsTerm image term) in (
      AreSides-made (with_replaced v tree equations) new_left new_right is_left is_right
          (subst AreSymbols (sym made_left) (AreSymbols-images (one_image v image) ranges left sides.left_symbols))
          (subst AreSymbols (sym made_right) (AreSymbols-images (one_image v image) ranges right sides.right_symbols)),
      equations_of-same (with_replaced v tree equations) new_left new_right is_left is_right,
    )
