-- The cells of a term that is being built, from its last symbol to its first.
use Rattle.std.proofs.Common.{◌≡◌, ℕ, zero, suc, ◌+◌, ◌-◌, ◌<◌, ◌≤◌, List, [], ◌∷◌, ◌++◌, length, map, get_or, drop, refl, sym, ap, subst, ◌∙◌, arith, append_assoc, append-nil, length-append}
use Rattle.std.specs.List.{AllByRecursion}
use Rattle.std.proofs.lemmas.List.{get_or_append_left, get_or_push, length_push, drop_more, drop_all}
use Rattle.le_terms.specs.declared.term.Sym.{Sym}
use Rattle.le_terms.specs.declared.term.Sym.TheVariants as symbol
use Rattle.le_terms.specs.Tree.{Tree, constant, number, date, variable, nil, cell, with_symbol, paired, trees_of, flat, trees_of-flat, IsInRange}
use Rattle.le_terms.specs.Variables.{replaced, occurrences}
use Rattle.le_subst.specs.Solution.{size}
use Rattle.le_store.specs.declared.cells.Cell.{Cell}
use Rattle.le_store.specs.declared.cells.Cell.TheVariants.{Name, Num, Day, Nil, Cons, Link}
use Rattle.le_store.specs.Cells.{tree_after, trees_in}
use Rattle.le_store.specs.Building.{end_from, end_at, Holds, IsPlain, ArePlain, Grown, FitsCells, forest_size, IsWhole, by_cells, cell_of, IsReady}
use Rattle.le_store.proofs.CellTrees.{trees_from-push, length-trees_from}

-- one cell more after them changes nothing
pub Holds-more : (cells : List Cell) (last : Cell) (from top : ℕ) (trees : List Tree) → Holds cells from top trees → Holds (cells ++ last ∷ []) from top trees
Holds-more cells last from top [] h = h
Holds-more cells last from top (tree ∷ trees) h =
    let within : top - 1 < length cells = omega (arith, h.0, h.1) in
    let same_cell : get_or (cells ++ last ∷ []) (top - 1) Nil ≡ get_or cells (top - 1) Nil = get_or_append_left cells (last ∷ []) Nil (top - 1) within in
    let same_end : end_at (cells ++ last ∷ []) (top - 1) ≡ end_at cells (top - 1) = ap (end_from (top - 1)) same_cell in
    let same_tree : get_or (trees_in (cells ++ last ∷ [])) (top - 1) nil ≡ get_or (trees_in cells) (top - 1) nil =
    ap (λ ts. get_or ts (top - 1) nil) (trees_from-push [] cells last) ∙ get_or_append_left (trees_in cells) (tree_after (trees_in cells) last ∷ []) nil (top - 1) (omega (arith, within, length-trees_from [] cells)) in
    let P : ℕ → Type 0 = λ e. Holds (cells ++ last ∷ []) from e trees in
    (h.0, omega (arith, h.1, length_push cells last), same_tree ∙ h.2, omega (arith, h.3, same_end), subst P (sym same_end) (Holds-more cells last from (end_at cells (top - 1)) trees h.4))

-- a new last cell
top_tree : (cells : List Cell) (last : Cell) → get_or (trees_in (cells ++ last ∷ [])) (length (cells ++ last ∷ []) - 1) nil ≡ tree_after (trees_in cells) last
top_tree cells last =
    let at_top : length (cells ++ last ∷ []) - 1 ≡ length cells = omega (arith, length_push cells last) in
    let long : length (trees_in cells) ≡ length cells = length-trees_from [] cells ∙ (omega arith) in
    ap (λ n. get_or (trees_in (cells ++ last ∷ [])) n nil) at_top ∙ (ap (λ ts. get_or ts (length cells) nil) (trees_from-push [] cells last) ∙ get_or_push (trees_in cells) (tree_after (trees_in cells) last) nil (length cells) long)

-- a symbol that is a term alone
pub Holds-leaf : (cells : List Cell) (last : Cell) (from : ℕ) (tree : Tree) (trees : List Tree) → from ≤ length cells → Holds cells from (length cells) trees → tree_after (trees_in cells) last ≡ tree → end_from (length cells) last ≡ length cells
    → Holds (cells ++ last ∷ []) from (length (cells ++ last ∷ [])) (tree ∷ trees)
Holds-leaf cells last from tree trees fits h is_tree is_end =
    let at_top : length (cells ++ last ∷ []) - 1 ≡ length cells = omega (arith, length_push cells last) in
    let end_ : end_at (cells ++ last ∷ []) (length (cells ++ last ∷ []) - 1) ≡ length cells = ap (end_at (cells ++ last ∷ [])) at_top ∙ (ap (end_from (length cells)) (get_or_push cells last Nil (length cells) refl) ∙ is_end) in
    let P : ℕ → Type 0 = λ e. Holds (cells ++ last ∷ []) from e trees in
    (omega (arith, length_push cells last), omega arith, top_tree cells last ∙ is_tree, omega (arith, end_, length_push cells last), subst P (sym end_) (Holds-more cells last from (length cells) trees h))

-- the cell of a list over the terms of its head and its tail
pub Holds-list : (cells : List Cell) (from : ℕ) (head tail : Tree) (trees : List Tree) → Holds cells from (length cells) (head ∷ tail ∷ trees)
    → Holds (cells ++ Cons (end_at cells (length cells - 1) - 1) (end_at cells (end_at cells (length cells - 1) - 1)) ∷ []) from (length (cells ++ Cons (end_at cells (length cells - 1) - 1) (end_at cells (end_at cells (length cells - 1) - 1)) ∷ [])) (cell head tail ∷ trees)
Holds-list cells from head tail trees h =
    let second : ℕ = end_at cells (length cells - 1) - 1 in
    let last : Cell = Cons second (end_at cells second) in
    let at_top : length (cells ++ last ∷ []) - 1 ≡ length cells = omega (arith, length_push cells last) in
    let long : length (trees_in cells) ≡ length cells = length-trees_from [] cells ∙ (omega arith) in
    let is_tree : tree_after (trees_in cells) last ≡ cell head tail =
    ap (λ n. cell (get_or (trees_in cells) (n - 1) nil) (get_or (trees_in cells) second nil)) long
    ∙ (ap (λ t. cell t (get_or (trees_in cells) second nil)) h.2 ∙ ap (cell head) h.4.2) in
    let end_ : end_at (cells ++ last ∷ []) (length (cells ++ last ∷ []) - 1) ≡ end_at cells second = ap (end_at (cells ++ last ∷ [])) at_top ∙ ap (end_from (length cells)) (get_or_push cells last Nil (length cells) refl) in
    let P : ℕ → Type 0 = λ e. Holds (cells ++ last ∷ []) from e trees in
    (omega (arith, h.0, length_push cells last), omega arith, top_tree cells last ∙ is_tree, omega (arith, end_, h.3, h.4.3, h.4.1, length_push cells last), subst P (sym end_) (Holds-more cells last from (end_at cells second) trees h.4.4))

-- a list's symbol has two trees after it, and is the only symbol that has none less
size_with : (sym : Sym) (trees : List Tree) → forest_size (with_symbol sym trees) ≤ suc (forest_size trees)
size_with (symbol.Name n) trees = omega arith
size_with (symbol.Num z) trees = omega arith
size_with (symbol.Day d) trees = omega arith
size_with (symbol.Var v) trees = omega arith
size_with symbol.Nil trees = omega arith
size_with symbol.Cons [] = omega arith
size_with symbol.Cons (tree ∷ []) = omega arith
size_with symbol.Cons (head ∷ tail ∷ trees) = omega arith

size_within : (syms : List Sym) → forest_size (trees_of syms) ≤ length syms
size_within [] = omega arith
size_within (sym ∷ syms) = omega (arith, size_with sym (trees_of syms), size_within syms)

whole_rest : (sym : Sym) (syms : List Sym) → IsWhole (sym ∷ syms) → IsWhole syms
whole_rest sym syms whole = omega (arith, whole, size_with sym (trees_of syms), size_within syms)

whole_drop : (at : ℕ) (syms : List Sym) → IsWhole syms → IsWhole (drop at syms)
whole_drop zero syms whole = whole
whole_drop (suc at) [] whole = whole
whole_drop (suc at) (sym ∷ syms) whole = whole_drop at syms (whole_rest sym syms whole)

pub length-flat : (tree : Tree) → length (flat tree) ≡ size tree
length-flat (constant n) = refl
length-flat (number z) = refl
length-flat (date d) = refl
length-flat (variable v) = refl
length-flat nil = refl
length-flat (cell head tail) = let both : length (flat head ++ flat tail) ≡ length (flat head) + length (flat tail) = length-append (flat head) (flat tail) in omega (arith, both, length-flat head, length-flat tail)

pub trees-flat : (tree : Tree) → trees_of (flat tree) ≡ tree ∷ []
trees-flat tree = ap trees_of (sym (append-nil (flat tree))) ∙ trees_of-flat tree []

pub whole-flat : (tree : Tree) → IsWhole (flat tree)
whole-flat tree = let one_tree : forest_size (trees_of (flat tree)) ≡ size tree + 0 = ap forest_size (trees-flat tree) in omega (arith, one_tree, length-flat tree)

-- the symbols of a term whose variables have cells
fits_append : (base count : ℕ) (xs ys : List Sym) → AllByRecursion (FitsCells base count) xs → AllByRecursion (FitsCells base count) ys → AllByRecursion (FitsCells base count) (xs ++ ys)
fits_append base count [] ys h more = more
fits_append base count (x ∷ xs) ys h more = (h.0, fits_append base count xs ys h.1 more)

split_all : (P : ℕ → Type 0) (xs ys : List ℕ) → AllByRecursion P (xs ++ ys) → AllByRecursion P xs × AllByRecursion P ys
split_all P [] ys h = (tt, h)
split_all P (x ∷ xs) ys h = let more : AllByRecursion P xs × AllByRecursion P ys = split_all P xs ys h.1 in ((h.0, more.0), more.1)

pub fits-flat : (base count : ℕ) (tree : Tree) → IsInRange tree → AllByRecursion (λ v. base + v < count) (occurrences tree) → AllByRecursion (FitsCells base count) (flat tree)
fits-flat base count (constant n) range fit = (tt, tt)
fits-flat base count (number z) range fit = (range, tt)
fits-flat base count (date d) range fit = (range, tt)
fits-flat base count (variable v) range fit = (fit.0, tt)
fits-flat base count nil range fit = (tt, tt)
fits-flat base count (cell head tail) range fit =
    let parts : AllByRecursion (λ v. base + v < count) (occurrences head) × AllByRecursion (λ v. base + v < count) (occurrences tail) = split_all (λ v. base + v < count) (occurrences head) (occurrences tail) fit in
    (tt, fits_append base count (flat head) (flat tail) (fits-flat base count head range.0 parts.0) (fits-flat base count tail range.1 parts.1))

fits_at : (base count : ℕ) (syms : List Sym) (at : ℕ) (d : Sym) → at < length syms → AllByRecursion (FitsCells base count) syms → FitsCells base count (get_or syms at d)
fits_at base count [] at d within h = absurd (omega arith)
fits_at base count (sym ∷ syms) zero d within h = h.0
fits_at base count (sym ∷ syms) (suc at) d within h = fits_at base count syms at d (omega arith) h.1

-- plain cells, one more
plain_push : (at : ℕ) (cells : List Cell) (last : Cell) → ArePlain at cells → IsPlain (at + length cells) last → ArePlain at (cells ++ last ∷ [])
plain_push at [] last are is_plain = let P : ℕ → Type 0 = λ n. IsPlain n last in let same : at + 0 ≡ at = omega arith in (subst P same is_plain, tt)
plain_push at (c ∷ cells) last are is_plain =
    let P : ℕ → Type 0 = λ n. IsPlain n last in
    let same : at + suc (length cells) ≡ suc at + length cells = omega arith in
    (are.0, plain_push (suc at) cells last are.1 (subst P same is_plain))

grown_push : (old cells : List Cell) (count : ℕ) (last : Cell) → Grown old cells count → IsPlain (length cells) last → Grown old (cells ++ last ∷ []) (count + 1)
grown_push old cells count last h is_plain =
    let long : length cells ≡ length old + length h.more = ap length h.is ∙ length-append old h.more in
    let P : ℕ → Type 0 = λ n. IsPlain n last in
    record {
      more = h.more ++ last ∷ [];
      is = ap (λ cs. cs ++ last ∷ []) h.is ∙ append_assoc old h.more (last ∷ []);
      few = omega (arith, h.few, length_push h.more last);
      plain = plain_push (length old) h.more last h.plain (subst P long is_plain);
    }

no_fewer : (old cells : List Cell) (count : ℕ) → Grown old cells count → length old ≤ length cells
no_fewer old cells count h = let long : length cells ≡ length old + length h.more = ap length h.is ∙ length-append old h.more in omega arith

-- the trees of the first cells stay
trees_front : (cells more : List Cell) (to : ℕ) → to < length cells → get_or (trees_in (cells ++ more)) to nil ≡ get_or (trees_in cells) to nil
trees_front cells [] to within = ap (λ cs. get_or (trees_in cs) to nil) (append-nil cells)
trees_front cells (c ∷ more) to within =
    ap (λ cs. get_or (trees_in cs) to nil) (sym (append_assoc cells (c ∷ []) more))
    ∙ (trees_front (cells ++ c ∷ []) more to (omega (arith, length_push cells c))
    ∙ (ap (λ ts. get_or ts to nil) (trees_from-push [] cells c)
    ∙ get_or_append_left (trees_in cells) (tree_after (trees_in cells) c ∷ []) nil to (omega (arith, length-trees_from [] cells))))

-- what is known once the symbols from a place on have their cells
pub record Built (old cells : List Cell) (syms : List Sym) (base at : ℕ) : Type 0 where
  pub within : at ≤ length syms
  pub grown : Grown old cells (length syms - at)
  pub holds : Holds cells (length old) (length cells) (map (replaced (by_cells old base)) (trees_of (drop at syms)))

-- the next symbol's cell
record IsStep (old cells : List Cell) (base : ℕ) (next : Sym) (rest : List Sym) : Type 0 where
  ready : IsReady cells base next
  plain : IsPlain (length cells) (cell_of cells base next)
  holds : Holds (cells ++ cell_of cells base next ∷ []) (length old) (length (cells ++ cell_of cells base next ∷ [])) (map (replaced (by_cells old base)) (trees_of (next ∷ rest)))

list_step : (old cells : List Cell) (base n : ℕ) (trees : List Tree) → forest_size (paired trees) ≡ suc n → Holds cells (length old) (length cells) (map (replaced (by_cells old base)) trees)
    → IsReady cells base symbol.Cons × IsPlain (length cells) (cell_of cells base symbol.Cons)
    × Holds (cells ++ cell_of cells base symbol.Cons ∷ []) (length old) (length (cells ++ cell_of cells base symbol.Cons ∷ [])) (map (replaced (by_cells old base)) (paired trees))
list_step old cells base n [] whole h = absurd (omega (arith, whole))
list_step old cells base n (tree ∷ []) whole h = absurd (omega (arith, whole))
list_step old cells base n (head ∷ tail ∷ trees) whole h = (
  (omega (arith, h.0), omega (arith, h.4.0), omega (arith, h.3)),
  (omega (arith, h.3, h.4.0), omega (arith, h.4.3, h.4.0)),
  Holds-list cells (length old) (replaced (by_cells old base) head) (replaced (by_cells old base) tail) (map (replaced (by_cells old base)) trees) h,
)

one_step : (old cells : List Cell) (base : ℕ) (next : Sym) (rest : List Sym) (count : ℕ) → Grown old cells count → FitsCells base (length old) next → IsWhole (next ∷ rest)
    → Holds cells (length old) (length cells) (map (replaced (by_cells old base)) (trees_of rest)) → IsStep old cells base next rest
one_step old cells base (symbol.Name n) rest count grown fit whole h = record {
  ready = tt;
  plain = tt;
  holds = Holds-leaf cells (Name n) (length old) (constant n) (map (replaced (by_cells old base)) (trees_of rest)) (no_fewer old cells count grown) h refl refl;
}
one_step old cells base (symbol.Num z) rest count grown fit whole h = record {
  ready = tt;
  plain = fit;
  holds = Holds-leaf cells (Num z) (length old) (number z) (map (replaced (by_cells old base)) (trees_of rest)) (no_fewer old cells count grown) h refl refl;
}
one_step old cells base (symbol.Day d) rest count grown fit whole h = record {
  ready = tt;
  plain = fit;
  holds = Holds-leaf cells (Day d) (length old) (date d) (map (replaced (by_cells old base)) (trees_of rest)) (no_fewer old cells count grown) h refl refl;
}
one_step old cells base (symbol.Var v) rest count grown fit whole h =
    let there : base + v < length cells = omega (arith, fit, no_fewer old cells count grown) in
    let tree_ : get_or (trees_in cells) (base + v) nil ≡ by_cells old base v = ap (λ cs. get_or (trees_in cs) (base + v) nil) grown.is ∙ trees_front old grown.more (base + v) fit in
    record { ready = there; plain = there; holds = Holds-leaf cells (Link (base + v)) (length old) (by_cells old base v) (map (replaced (by_cells old base)) (trees_of rest)) (no_fewer old cells count grown) h tree_ refl }
one_step old cells base symbol.Nil rest count grown fit whole h = record {
  ready = tt;
  plain = tt;
  holds = Holds-leaf cells Nil (length old) nil (map (replaced (by_cells old base)) (trees_of rest)) (no_fewer old cells count grown) h refl refl;
}
one_step old cells base symbol.Cons rest count grown fit whole h =
    let step = list_step old cells base (length rest) (trees_of rest) whole h in
    record { ready = step.0; plain = step.1; holds = step.2 }

-- one turn of the loop
pub record IsTurn (old cells new : List Cell) (syms : List Sym) (base at : ℕ) (next : Sym) : Type 0 where
  pub ready : IsReady cells base next
  pub built : new ≡ cells ++ cell_of cells base next ∷ [] → Built old new syms base at

pub turn : (old cells new : List Cell) (syms : List Sym) (base at before : ℕ) (d next : Sym) → at + 1 ≡ before → IsWhole syms → AllByRecursion (FitsCells base (length old)) syms
    → next ≡ get_or syms at d → Built old cells syms base before → IsTurn old cells new syms base at next
turn old cells new syms base at before d next one_less whole fit is_next h =
    let within : at < length syms = omega (arith, h.within) in
    let first : drop at syms ≡ get_or syms at d ∷ drop (at + 1) syms = drop_more syms at d within in
    let front : drop at syms ≡ next ∷ drop before syms = first ∙ (ap (λ s. s ∷ drop (at + 1) syms) (sym is_next) ∙ ap (λ n. next ∷ drop n syms) one_less) in
    let fits_next : FitsCells base (length old) next = let P : Sym → Type 0 = λ s. FitsCells base (length old) s in subst P (sym is_next) (fits_at base (length old) syms at d within fit) in
    let step : IsStep old cells base next (drop before syms) = one_step old cells base next (drop before syms) (length syms - before) h.grown fits_next (subst IsWhole front (whole_drop at syms whole)) h.holds in
    let counted : length syms - before + 1 ≡ length syms - at = omega (arith, h.within) in
    record {
      ready = step.ready;
      built = λ pushed.
          let P : List Cell → Type 0 = λ cs. Built old cs syms base at in
          let Q : ℕ → Type 0 = λ n. Grown old (cells ++ cell_of cells base next ∷ []) n in
          let R : List Sym → Type 0 = λ ss. Holds (cells ++ cell_of cells base next ∷ []) (length old) (length (cells ++ cell_of cells base next ∷ [])) (map (replaced (by_cells old base)) (trees_of ss)) in
          subst P (sym pushed) (record {
            within = omega arith;
            grown = subst Q counted (grown_push old cells (length syms - before) (cell_of cells base next) h.grown step.plain);
            holds = subst R (sym front) step.holds;
          });
    }

-- before the first turn
pub nothing_built : (old : List Cell) (syms : List Sym) (base at : ℕ) → at ≡ length syms → Built old old syms base at
nothing_built old syms base at is_all =
    let none : drop at syms ≡ [] = drop_all at syms (omega arith) in
    let P : List Sym → Type 0 = λ ss. Holds old (length old) (length old) (map (replaced (by_cells old base)) (trees_of ss)) in
    record {
      within = omega arith;
      grown = record { more = []; is = sym (append-nil old); few = omega arith; plain = tt };
      holds = subst P (sym none) refl;
    }

-- a term has a cell
pub some_cell : (cells : List Cell) (from : ℕ) (by : ℕ → Tree) (syms : List Sym) (tree : Tree) → syms ≡ flat tree → Holds cells from (length cells) (map (replaced by) (trees_of syms)) → from < length cells
some_cell cells from by syms tree is_flat holds =
    let P : List Tree → Type 0 = λ ts. Holds cells from (length cells) (map (replaced by) ts) in
    let held : Holds cells from (length cells) (replaced by tree ∷ []) = subst P (ap trees_of is_flat ∙ trees-flat tree) holds in
    held.0

pub grown_length : (old new : List Cell) (count : ℕ) → Grown old new count → length new ≡ length old + count
grown_length old new count h = ap length h.is ∙ (length-append old h.more ∙ ap (λ n. length old + n) h.few)
