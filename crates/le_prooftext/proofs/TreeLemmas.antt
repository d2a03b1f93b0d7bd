-- Terms as symbols one after another, read and spelled.
use Rattle.std.proofs.Common.{◌≡◌, ℕ, ◌+◌, ◌<◌, ◌≤◌, List, [], ◌∷◌, ◌++◌, map, length, take, drop, Option, Some, None, refl, sym, ap, subst, ◌∙◌, arith, IfSome, append_assoc, append-nil, length-append, take-append-drop, length-drop}
use Rattle.std.proofs.lemmas.List.{map-append, take_all, take_at, drop_at, drop-drop}
use Rattle.std.specs.List.{AllByRecursion}
use Rattle.le_terms.specs.declared.term.Sym.{Sym}
use Rattle.le_terms.specs.declared.term.Sym.TheVariants.{Name, Num, Day, Var, Nil, Cons}
use Rattle.le_terms.specs.Tree.{Tree, constant, number, date, variable, nil, cell, flat, IsInRange, BeginsWith}
use Rattle.le_proofs.proofs.Alls.{all-left, all-right}
use Rattle.le_prooftext.specs.declared.word.Word.{Word}
use Rattle.le_prooftext.specs.declared.word.Word.TheVariants as word
use Rattle.le_prooftext.specs.Words.{IsSymbol, IsWord}
use Rattle.le_prooftext.specs.Lines.{term_words, terms_words}
use Rattle.le_prooftext.specs.Reading.{put_symbol, symbols_from, put_tree, put_cell, trees_from}
use Rattle.le_prooftext.proofs.Numbers.{not_some}

-- items before what is read after them
abbrev pub puts : {X : Type 0} → List X → Option (List X) → Option (List X)
puts xs None = None
puts xs (Some ys) = Some (xs ++ ys)

pub puts-nil : {X : Type 0} (o : Option (List X)) → puts [] o ≡ o
puts-nil None = refl
puts-nil (Some ys) = refl

pub puts-end : {X : Type 0} (xs : List X) → puts xs (Some []) ≡ Some xs
puts-end xs = ap Some (append-nil xs)

pub puts-symbol : (xs : List Sym) (s : Sym) (o : Option (List Sym)) → puts xs (put_symbol s o) ≡ puts (xs ++ (s ∷ [])) o
puts-symbol xs s None = refl
puts-symbol xs s (Some ys) = ap Some (sym (append_assoc xs (s ∷ []) ys))

pub puts-tree : (xs : List Tree) (t : Tree) (o : Option (List Tree)) → puts xs (put_tree t o) ≡ puts (xs ++ (t ∷ [])) o
puts-tree xs t None = refl
puts-tree xs t (Some ys) = ap Some (sym (append_assoc xs (t ∷ []) ys))

-- the symbols of trees one after another
abbrev pub flats : List Tree → List Sym
flats [] = []
flats (tree ∷ trees) = flat tree ++ flats trees

put_cells : (head tail : Tree) (o : Option (List Tree)) → put_cell (put_tree head (put_tree tail o)) ≡ put_tree (cell head tail) o
put_cells head tail None = refl
put_cells head tail (Some trees) = refl

pub trees_from-flat : (tree : Tree) (rest : List Sym) → trees_from (flat tree ++ rest) ≡ put_tree tree (trees_from rest)
trees_from-flat (constant n) rest = refl
trees_from-flat (number z) rest = refl
trees_from-flat (date d) rest = refl
trees_from-flat (variable v) rest = refl
trees_from-flat nil rest = refl
trees_from-flat (cell head tail) rest =
    ap (λ symbols. put_cell (trees_from symbols)) (append_assoc (flat head) (flat tail) rest)
    ∙ (ap put_cell (trees_from-flat head (flat tail ++ rest) ∙ ap (put_tree head) (trees_from-flat tail rest))
    ∙ put_cells head tail (trees_from rest))

pub trees_from-flats : (trees : List Tree) → trees_from (flats trees) ≡ Some trees
trees_from-flats [] = refl
trees_from-flats (tree ∷ trees) = trees_from-flat tree (flats trees) ∙ ap (put_tree tree) (trees_from-flats trees)

put_tree-spells : (tree : Tree) (symbols : List Sym) (o : Option (List Tree)) → IfSome o (λ trees. flats trees ≡ symbols) → IfSome (put_tree tree o) (λ trees. flats trees ≡ flat tree ++ symbols)
put_tree-spells tree symbols None h = tt
put_tree-spells tree symbols (Some trees) h = ap (λ more. flat tree ++ more) h

put_cell-spells : (symbols : List Sym) (o : Option (List Tree)) → IfSome o (λ trees. flats trees ≡ symbols) → IfSome (put_cell o) (λ trees. flats trees ≡ Cons ∷ symbols)
put_cell-spells symbols None h = tt
put_cell-spells symbols (Some []) h = tt
put_cell-spells symbols (Some (tree ∷ [])) h = tt
put_cell-spells symbols (Some (head ∷ tail ∷ trees)) h = ap (λ more. Cons ∷ more) (append_assoc (flat head) (flat tail) (flats trees) ∙ h)

pub trees_from-spells : (symbols : List Sym) → IfSome (trees_from symbols) (λ trees. flats trees ≡ symbols)
trees_from-spells [] = refl
trees_from-spells (Name n ∷ symbols) = put_tree-spells (constant n) symbols (trees_from symbols) (trees_from-spells symbols)
trees_from-spells (Num z ∷ symbols) = put_tree-spells (number z) symbols (trees_from symbols) (trees_from-spells symbols)
trees_from-spells (Day d ∷ symbols) = put_tree-spells (date d) symbols (trees_from symbols) (trees_from-spells symbols)
trees_from-spells (Var v ∷ symbols) = put_tree-spells (variable v) symbols (trees_from symbols) (trees_from-spells symbols)
trees_from-spells (Nil ∷ symbols) = put_tree-spells nil symbols (trees_from symbols) (trees_from-spells symbols)
trees_from-spells (Cons ∷ symbols) = put_cell-spells symbols (trees_from symbols) (trees_from-spells symbols)

begun : (symbols : List Sym) (trees : List Tree) → flats trees ≡ symbols → 0 < length symbols → ((tree : Tree) → BeginsWith tree symbols → ⊥) → ⊥
begun symbols [] same some never = omega (arith, ap length same)
begun symbols (tree ∷ trees) same some never = never tree (flats trees, sym same)

-- where symbols begin with no tree they aren't those of some
pub trees_from-none : (symbols : List Sym) → 0 < length symbols → ((tree : Tree) → BeginsWith tree symbols → ⊥) → trees_from symbols ≡ None
trees_from-none symbols some never =
    not_some (trees_from symbols) (λ trees is.
    let P : Option (List Tree) → Type 0 = λ o. IfSome o (λ found. flats found ≡ symbols) in
    begun symbols trees (subst P is (trees_from-spells symbols)) some never)

-- the words of terms are the symbols of the terms
pub terms_words-flats : (trees : List Tree) → terms_words trees ≡ map (λ s. word.Symbol s) (flats trees)
terms_words-flats [] = refl
terms_words-flats (tree ∷ trees) =
    ap (λ ws. term_words tree ++ ws) (terms_words-flats trees) ∙ sym (map-append (λ s. word.Symbol s) (flat tree) (flats trees))

pub symbols_from-words : (symbols : List Sym) → symbols_from (map (λ s. word.Symbol s) symbols) ≡ Some symbols
symbols_from-words [] = refl
symbols_from-words (s ∷ symbols) = ap (put_symbol s) (symbols_from-words symbols)

put_symbol-spells : (s : Sym) (words : List Word) (o : Option (List Sym)) → IfSome o (λ symbols. map (λ x. word.Symbol x) symbols ≡ words) → IfSome (put_symbol s o) (λ symbols. map (λ x. word.Symbol x) symbols ≡ word.Symbol s ∷ words)
put_symbol-spells s words None h = tt
put_symbol-spells s words (Some symbols) h = ap (λ ws. word.Symbol s ∷ ws) h

pub symbols_from-spells : (words : List Word) → IfSome (symbols_from words) (λ symbols. map (λ x. word.Symbol x) symbols ≡ words)
symbols_from-spells [] = refl
symbols_from-spells (word.Symbol s ∷ words) = put_symbol-spells s words (symbols_from words) (symbols_from-spells words)
symbols_from-spells (word.Kind k ∷ words) = tt
symbols_from-spells (word.Fold f ∷ words) = tt
symbols_from-spells (word.Count n ∷ words) = tt
symbols_from-spells (word.Pred p ∷ words) = tt

-- a word that is no symbol ends them
pub symbols_from-other : (w : Word) (words : List Word) → ((s : Sym) → w ≡ word.Symbol s → ⊥) → symbols_from (w ∷ words) ≡ None
symbols_from-other (word.Symbol s) words never = absurd (never s refl)
symbols_from-other (word.Kind k) words never = refl
symbols_from-other (word.Fold f) words never = refl
symbols_from-other (word.Count n) words never = refl
symbols_from-other (word.Pred p) words never = refl

-- symbols in range are those of a tree in range
pub in_range-flat : (tree : Tree) → AllByRecursion IsSymbol (flat tree) → IsInRange tree
in_range-flat (constant n) h = tt
in_range-flat (number z) h = h.0
in_range-flat (date d) h = h.0
in_range-flat (variable v) h = tt
in_range-flat nil h = tt
in_range-flat (cell head tail) h =
    (in_range-flat head (all-left IsSymbol (flat head) (flat tail) h.1), in_range-flat tail (all-right IsSymbol (flat head) (flat tail) h.1))

pub all-drop : {X : Type 0} (P : X → Type 0) (n : ℕ) (xs : List X) → AllByRecursion P xs → AllByRecursion P (drop n xs)
all-drop P n xs h = all-right P (take n xs) (drop n xs) (subst (AllByRecursion P) (sym (take-append-drop n xs)) h)

pub all-take : {X : Type 0} (P : X → Type 0) (n : ℕ) (xs : List X) → AllByRecursion P xs → AllByRecursion P (take n xs)
all-take P n xs h = all-left P (take n xs) (drop n xs) (subst (AllByRecursion P) (sym (take-append-drop n xs)) h)

-- the symbols among words in range are in range
pub symbols-in_range : (symbols : List Sym) → AllByRecursion IsWord (map (λ s. word.Symbol s) symbols) → AllByRecursion IsSymbol symbols
symbols-in_range [] h = tt
symbols-in_range (s ∷ symbols) h = (h.0, symbols-in_range symbols h.1)

-- what is left after a place, in the form in which a slice to the end has it
pub to_end : {X : Type 0} (xs : List X) (at m : ℕ) → length xs ≤ m + at → take m (drop at xs) ≡ drop at xs
to_end xs at m h = take_all m (drop at xs) (omega (arith, length-drop at xs))

pub own_symbols : (tree : Tree) (symbols rest : List Sym) (count : ℕ) → symbols ≡ flat tree ++ rest → count ≡ length (flat tree) → take count symbols ≡ flat tree
own_symbols tree symbols rest count same size = ap (take count) same ∙ take_at (flat tree) rest count (sym size)

-- the terms of some symbols that begin with one term
pub record Stepped (symbols : List Sym) (at next : ℕ) (tree : Tree) : Type 0 where
  pub read : trees_from (drop at symbols) ≡ put_tree tree (trees_from (drop next symbols))
  pub within : next ≤ length symbols

pub tree_step : (symbols : List Sym) (at next : ℕ) (tree : Tree) → BeginsWith tree (drop at symbols) → next ≡ at + length (flat tree) → at ≤ length symbols → Stepped symbols at next tree
tree_step symbols at next tree begins is within =
    let rest : List Sym = begins.0 in
    let left : drop next symbols ≡ rest =
    ap (λ n. drop n symbols) is ∙ (sym (drop-drop (length (flat tree)) at symbols) ∙ (ap (drop (length (flat tree))) begins.1 ∙ drop_at (flat tree) rest _ refl)) in
    record {
      read = ap trees_from begins.1 ∙ (trees_from-flat tree rest ∙ ap (λ symbols. put_tree tree (trees_from symbols)) (sym left));
      within = omega (arith, length-drop at symbols, ap length begins.1, length-append (flat tree) rest);
    }

pub symbols-of_words : (words : List Word) (symbols : List Sym) → symbols_from words ≡ Some symbols → AllByRecursion IsWord words → AllByRecursion IsSymbol symbols
symbols-of_words words symbols is all =
    let P : Option (List Sym) → Type 0 = λ o. IfSome o (λ found. map (λ x. word.Symbol x) found ≡ words) in
    symbols-in_range symbols (subst (AllByRecursion IsWord) (sym (subst P is (symbols_from-spells words))) all)
