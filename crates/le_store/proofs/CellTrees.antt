-- The trees of cells, and what variables stand for, once there is a cell or a binding more.
use Rattle.std.proofs.Common.{◌≡◌, ℕ, zero, suc, Bool, true, false, cond, ◌==◌, ◌+◌, ◌<◌, List, [], ◌∷◌, ◌++◌, length, map, get_or, take, refl, sym, ap, subst, ◌∙◌, append_assoc, append-nil, arith}
use Rattle.std.specs.List.{AllByRecursion}
use Rattle.std.proofs.lemmas.List.{get_or_append_left, get_or-append-add, length_push}
use Rattle.std.proofs.lemmas.Bool.Decides.{Decides-eqb}
use Rattle.le_terms.specs.Tree.{Tree, variable, nil}
use Rattle.le_terms.specs.Variables.{replaced}
use Rattle.le_subst.specs.Solution.{occurs, one}
use Rattle.le_subst.proofs.Replacing.{replaced-replaced}
use Rattle.le_store.specs.declared.cells.Cell.{Cell}
use Rattle.le_store.specs.declared.cells.Cell.TheVariants.{Nil}
use Rattle.le_store.specs.declared.cells.Entry.{Entry}
use Rattle.le_store.specs.Cells.{tree_after, trees_from, trees_in, extended, values_from}
use Rattle.le_store.specs.State.{AreApart}

-- what holds of each of some things
pub all_map : {X : Type 0} (P Q : X → Type 0) → ((x : X) → P x → Q x) → (xs : List X) → AllByRecursion P xs → AllByRecursion Q xs
all_map P Q f [] h = tt
all_map P Q f (x ∷ xs) h = (f x h.0, all_map P Q f xs h.1)

pub all_push : {X : Type 0} (P : X → Type 0) (xs : List X) (x : X) → AllByRecursion P xs → P x → AllByRecursion P (xs ++ x ∷ [])
all_push P [] x h last = (last, tt)
all_push P (y ∷ xs) x h last = (h.0, all_push P xs x h.1 last)

pub all_take : {X : Type 0} (P : X → Type 0) (n : ℕ) (xs : List X) → AllByRecursion P xs → AllByRecursion P (take n xs)
all_take P zero xs h = tt
all_take P (suc n) [] h = tt
all_take P (suc n) (x ∷ xs) h = (h.0, all_take P n xs h.1)

-- one cell more
pub trees_from-push : (trees : List Tree) (cells : List Cell) (last : Cell) → trees_from trees (cells ++ last ∷ []) ≡ trees_from trees cells ++ tree_after (trees_from trees cells) last ∷ []
trees_from-push trees [] last = refl
trees_from-push trees (one_cell ∷ cells) last = trees_from-push (trees ++ tree_after trees one_cell ∷ []) cells last

-- as many trees as cells
pub length-trees_from : (trees : List Tree) (cells : List Cell) → length (trees_from trees cells) ≡ length trees + length cells
length-trees_from trees [] = omega arith
length-trees_from trees (one_cell ∷ cells) =
    let more : length (trees_from (trees ++ tree_after trees one_cell ∷ []) cells) ≡ length (trees ++ tree_after trees one_cell ∷ []) + length cells = length-trees_from (trees ++ tree_after trees one_cell ∷ []) cells in
    let pushed : length (trees ++ tree_after trees one_cell ∷ []) ≡ length trees + 1 = length_push trees (tree_after trees one_cell) in
    omega arith

-- bindings to earlier trees don't see later ones
pub values_from-more : (trees more : List Tree) (by : ℕ → Tree) (entries : List Entry) → AllByRecursion (λ entry. entry.to < length trees) entries → values_from (trees ++ more) by entries ≡ values_from trees by entries
values_from-more trees more by [] within = refl
values_from-more trees more by (entry ∷ entries) within =
    ap (λ tree. values_from (trees ++ more) (extended by entry.number (replaced by tree)) entries) (get_or_append_left trees more nil entry.to within.0)
    ∙ values_from-more trees more (extended by entry.number (replaced by (get_or trees entry.to nil))) entries within.1

pub AreApart-more : (trees more : List Tree) (by : ℕ → Tree) (entries : List Entry) → AllByRecursion (λ entry. entry.to < length trees) entries → AreApart trees by entries → AreApart (trees ++ more) by entries
AreApart-more trees more by [] within h = tt
AreApart-more trees more by (entry ∷ entries) within h =
    let P : Tree → Type 0 = λ tree. (by entry.number ≡ variable entry.number) × (occurs entry.number (replaced by tree) ≡ false) × AreApart (trees ++ more) (extended by entry.number (replaced by tree)) entries in
    subst P (sym (get_or_append_left trees more nil entry.to within.0))
    (h.0, h.1, AreApart-more trees more (extended by entry.number (replaced by (get_or trees entry.to nil))) entries within.1 h.2)

-- one binding more
pub values_from-push : (trees : List Tree) (by : ℕ → Tree) (entries : List Entry) (entry : Entry)
    → values_from trees by (entries ++ entry ∷ []) ≡ extended (values_from trees by entries) entry.number (replaced (values_from trees by entries) (get_or trees entry.to nil))
values_from-push trees by [] entry = refl
values_from-push trees by (first ∷ entries) entry = values_from-push trees (extended by first.number (replaced by (get_or trees first.to nil))) entries entry

pub AreApart-push : (trees : List Tree) (by : ℕ → Tree) (entries : List Entry) (entry : Entry)
    → AreApart trees by entries
    → values_from trees by entries entry.number ≡ variable entry.number
    → occurs entry.number (replaced (values_from trees by entries) (get_or trees entry.to nil)) ≡ false
    → AreApart trees by (entries ++ entry ∷ [])
AreApart-push trees by [] entry h free apart = (free, apart, tt)
AreApart-push trees by (first ∷ entries) entry h free apart = (h.0, h.1, AreApart-push trees (extended by first.number (replaced by (get_or trees first.to nil))) entries entry h.2 free apart)

-- the terms under one binding more
pub terms-bound : (by : ℕ → Tree) (v : ℕ) (tree : Tree) (trees : List Tree) → map (replaced (extended by v tree)) trees ≡ map (replaced (one v tree)) (map (replaced by) trees)
terms-bound by v tree [] = refl
terms-bound by v tree (first ∷ trees) =
    ap (λ new. new ∷ map (replaced (extended by v tree)) trees) (sym (replaced-replaced by (one v tree) first))
    ∙ ap (λ news. replaced (one v tree) (replaced by first) ∷ news) (terms-bound by v tree trees)

-- a variable that isn't bound stands for itself
pub values_from-free : (trees : List Tree) (v : ℕ) (by : ℕ → Tree) (entries : List Entry) → AllByRecursion (λ entry. entry.number < v) entries → by v ≡ variable v → values_from trees by entries v ≡ variable v
values_from-free trees v by [] below free = free
values_from-free trees v by (entry ∷ entries) below free =
    values_from-free trees v (extended by entry.number (replaced by (get_or trees entry.to nil))) entries below.1
    (ap (replaced (one entry.number (replaced by (get_or trees entry.to nil)))) free ∙ other_variable)
  where
    other_variable : one entry.number (replaced by (get_or trees entry.to nil)) v ≡ variable v
    other_variable = by_test (v == entry.number) refl
      where
        by_test : (b : Bool) → (v == entry.number) ≡ b → cond b (replaced by (get_or trees entry.to nil)) (variable v) ≡ variable v
        by_test true h = let same : v ≡ entry.number = (Decides-eqb v entry.number).0 h in absurd (omega (arith, below.0))
        by_test false h = refl

-- the trees that were there stay in front
pub trees_from-front : (trees : List Tree) (cells : List Cell) → (more : List Tree) × (trees_from trees cells ≡ trees ++ more)
trees_from-front trees [] = ([], sym (append-nil trees))
trees_from-front trees (one_cell ∷ cells) =
    let following : (more : List Tree) × (trees_from (trees ++ tree_after trees one_cell ∷ []) cells ≡ (trees ++ tree_after trees one_cell ∷ []) ++ more) = trees_from-front (trees ++ tree_after trees one_cell ∷ []) cells in
    (tree_after trees one_cell ∷ following.0, following.1 ∙ append_assoc trees (tree_after trees one_cell ∷ []) following.0)

-- the tree of a cell, by the trees of the cells before it
tree_from-at : (trees : List Tree) (cells : List Cell) (at : ℕ) → at < length cells
    → get_or (trees_from trees cells) (length trees + at) nil ≡ tree_after (trees_from trees (take at cells)) (get_or cells at Nil)
tree_from-at trees [] at within = absurd (omega arith)
tree_from-at trees (one_cell ∷ cells) zero within =
    let following : (more : List Tree) × (trees_from (trees ++ tree_after trees one_cell ∷ []) cells ≡ (trees ++ tree_after trees one_cell ∷ []) ++ more) = trees_from-front (trees ++ tree_after trees one_cell ∷ []) cells in
    ap (λ ts. get_or ts (length trees + 0) nil) (following.1 ∙ append_assoc trees (tree_after trees one_cell ∷ []) following.0)
    ∙ get_or-append-add trees (tree_after trees one_cell ∷ following.0) 0 nil
tree_from-at trees (one_cell ∷ cells) (suc at) within =
    ap (λ n. get_or (trees_from (trees ++ tree_after trees one_cell ∷ []) cells) n nil) (omega (arith, length_push trees (tree_after trees one_cell)))
    ∙ tree_from-at (trees ++ tree_after trees one_cell ∷ []) cells at (omega arith)

pub tree_at : (cells : List Cell) (at : ℕ) → at < length cells → get_or (trees_in cells) at nil ≡ tree_after (trees_in (take at cells)) (get_or cells at Nil)
tree_at cells at within = ap (λ n. get_or (trees_in cells) n nil) (omega arith) ∙ tree_from-at [] cells at within
