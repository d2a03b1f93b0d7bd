-- Terms as trees, and the list of a tree's symbols in preorder: first-order terms (Lloyd, Foundations of Logic Programming, chapter 1), whose one function symbol is the cell of a list.
use Rattle.std.specs.Prelude.{◌≡◌, ℕ, ◌==◌, cond, ℤ, pos, negsuc, List, [], ◌∷◌, ◌++◌, refl}
use Rattle.std.proofs.Common.{append_assoc, append-nil, ap, sym, subst, ◌∙◌}
use Rattle.std.specs.Coded.{Coded, code_by, coded×, coded_ℕ, coded_ℤ, coded_list}
use Rattle.le_terms.specs.declared.term.Sym.{Sym}
use Rattle.le_terms.specs.declared.term.Sym.TheVariants.{Name, Num, Day, Var, Nil, Cons}
use Rattle.le_base.specs.Ranges.{IsNumber, IsDay}

-- a term: a constant, a number, a date, a variable, the empty list, or a list's cell with its head and its tail
pub data Tree : Type 0 where
  constant : ℕ → Tree
  number : ℤ → Tree
  date : ℤ → Tree
  variable : ℕ → Tree
  nil : Tree
  cell : Tree → Tree → Tree

-- the symbols of a tree, its first symbol before those of its parts
abbrev pub flat : Tree → List Sym
flat (constant n) = Name n ∷ []
flat (number z) = Num z ∷ []
flat (date d) = Day d ∷ []
flat (variable v) = Var v ∷ []
flat nil = Nil ∷ []
flat (cell head tail) = Cons ∷ (flat head ++ flat tail)

-- the first symbol of a tree
abbrev pub root : Tree → Sym
root (constant n) = Name n
root (number z) = Num z
root (date d) = Day d
root (variable v) = Var v
root nil = Nil
root (cell head tail) = Cons

-- the first two trees as one cell; fewer than two make none
abbrev pub paired : List Tree → List Tree
paired (head ∷ tail ∷ trees) = cell head tail ∷ trees
paired (tree ∷ []) = []
paired [] = []

-- a symbol before the trees that stand after it
abbrev pub with_symbol : Sym → List Tree → List Tree
with_symbol (Name n) trees = constant n ∷ trees
with_symbol (Num z) trees = number z ∷ trees
with_symbol (Day d) trees = date d ∷ trees
with_symbol (Var v) trees = variable v ∷ trees
with_symbol Nil trees = nil ∷ trees
with_symbol Cons trees = paired trees

-- the trees whose symbols a list has, one tree after another
abbrev pub trees_of : List Sym → List Tree
trees_of [] = []
trees_of (symbol ∷ symbols) = with_symbol symbol (trees_of symbols)

-- the first of some trees
abbrev pub first_tree : List Tree → Tree
first_tree [] = nil
first_tree (tree ∷ trees) = tree

-- the tree that a list of symbols begins with
abbrev pub tree_of : List Sym → Tree
tree_of symbols = first_tree (trees_of symbols)

-- each number and each day of a tree is one that a term may have
abbrev pub IsInRange : Tree → Type 0
IsInRange (constant n) = Unit {0}
IsInRange (number z) = IsNumber z
IsInRange (date d) = IsDay d
IsInRange (variable v) = Unit {0}
IsInRange nil = Unit {0}
IsInRange (cell head tail) = IsInRange head × IsInRange tail

-- a list of symbols is one term in preorder
pub record IsTerm (symbols : List Sym) : Type 0 where
  pub whole : flat (tree_of symbols) ≡ symbols
  pub in_range : IsInRange (tree_of symbols)

-- some symbols begin with those of a tree
abbrev pub BeginsWith : Tree → List Sym → Type 0
BeginsWith tree symbols = (rest : List Sym) × (symbols ≡ flat tree ++ rest)

-- a symbol that is a term alone
abbrev pub IsLeaf : Sym → Type 0
IsLeaf (Name n) = Unit {0}
IsLeaf (Num z) = IsNumber z
IsLeaf (Day d) = IsDay d
IsLeaf (Var v) = Unit {0}
IsLeaf Nil = Unit {0}
IsLeaf Cons = ⊥

-- the trees of some trees' symbols, with trees after them, are these trees
pub trees_of-flat : (tree : Tree) (rest : List Sym) → trees_of (flat tree ++ rest) ≡ tree ∷ trees_of rest
trees_of-flat (constant n) rest = refl
trees_of-flat (number z) rest = refl
trees_of-flat (date d) rest = refl
trees_of-flat (variable v) rest = refl
trees_of-flat nil rest = refl
trees_of-flat (cell head tail) rest =
    ap (λ symbols. paired (trees_of symbols)) (append_assoc (flat head) (flat tail) rest)
    ∙ ap paired (trees_of-flat head (flat tail ++ rest) ∙ ap (λ trees. head ∷ trees) (trees_of-flat tail rest))

-- the tree of a tree's symbols is the tree
pub tree_of-flat : (tree : Tree) → tree_of (flat tree) ≡ tree
tree_of-flat tree = ap tree_of (sym (append-nil (flat tree))) ∙ ap first_tree (trees_of-flat tree [])

-- the symbols of a tree in range are one term
pub IsTerm-flat : (tree : Tree) (symbols : List Sym) → symbols ≡ flat tree → IsInRange tree → IsTerm symbols
IsTerm-flat tree symbols same in_range =
    let back : tree_of symbols ≡ tree = ap tree_of same ∙ tree_of-flat tree in
    record { whole = ap flat back ∙ sym same; in_range = subst IsInRange (sym back) in_range }

-- how a proof tells symbols and trees apart
abbrev symbol_to_pair : Sym → ℕ × ℤ
symbol_to_pair (Name n) = (0, pos n)
symbol_to_pair (Num z) = (1, z)
symbol_to_pair (Day d) = (2, d)
symbol_to_pair (Var v) = (3, pos v)
symbol_to_pair Nil = (4, pos 0)
symbol_to_pair Cons = (5, pos 0)

abbrev magnitude : ℤ → ℕ
magnitude (pos n) = n
magnitude (negsuc n) = n

abbrev symbol_from_pair : ℕ × ℤ → Sym
symbol_from_pair p = cond (p.0 == 0) (Name (magnitude p.1)) (cond (p.0 == 1) (Num p.1) (cond (p.0 == 2) (Day p.1) (cond (p.0 == 3) (Var (magnitude p.1)) (cond (p.0 == 4) Nil Cons))))

pub symbol_from_pair-symbol_to_pair : (symbol : Sym) → symbol_from_pair (symbol_to_pair symbol) ≡ symbol
symbol_from_pair-symbol_to_pair (Name n) = refl
symbol_from_pair-symbol_to_pair (Num z) = refl
symbol_from_pair-symbol_to_pair (Day d) = refl
symbol_from_pair-symbol_to_pair (Var v) = refl
symbol_from_pair-symbol_to_pair Nil = refl
symbol_from_pair-symbol_to_pair Cons = refl

abbrev pub symbol_code : Coded Sym
symbol_code = code_by (ℕ × ℤ) (coded× coded_ℕ coded_ℤ) symbol_to_pair symbol_from_pair symbol_from_pair-symbol_to_pair

abbrev pub tree_code : Coded Tree
tree_code = code_by (List Sym) (coded_list symbol_code) flat tree_of tree_of-flat
