-- What contracts see of a store: the term of each cell, the cells of the variables, the marks, and the spare room. This project's profile; terms, substitutions and bindings are those of Lloyd, Foundations of Logic Programming, chapter 1, section 4.
use Rattle.std.specs.Prelude.{◌≡◌, ℕ, suc, zero, ◌+◌, ◌<◌, ◌≤◌, List, [], ◌∷◌, ◌++◌, length, get_or, slice_get, Some}
use Rattle.le_terms.specs.Tree.{Tree, constant, number, date, variable, nil, cell}
use Rattle.le_store.specs.declared.store.Look.{Look}
use Rattle.le_store.specs.declared.store.Look.TheVariants.{Name, Num, Day, Nil, Cons, Unbound}

-- the cells of a store at one moment: the term of each cell under the bindings, and the cell of each variable, in the order of the cells
pub record Snapshot : Type 0 where
  pub terms : List Tree
  pub variables : List ℕ

-- how many more cells, bindings and marks have room
pub record Room : Type 0 where
  pub cells : ℕ
  pub trail : ℕ
  pub marks : ℕ

-- a store: its cells now, what they were at each mark that stands, the first mark first, and its spare room
pub record Shown : Type 0 where
  pub now : Snapshot
  pub marks : List Snapshot
  pub room : Room

-- the term of a cell
abbrev pub term_in : Snapshot → ℕ → Tree
term_in snapshot place = get_or snapshot.terms place nil

abbrev pub term_of : Shown → ℕ → Tree
term_of shown place = term_in shown.now place

-- a cell is there
abbrev pub IsThere : Shown → ℕ → Type 0
IsThere shown place = place < length shown.now.terms

-- a cell is the own cell of the variable of this number, which is not bound
pub record IsUnbound (shown : Shown) (var v : ℕ) : Type 0 where
  pub own : slice_get shown.now.variables v ≡ Some var
  pub free : term_of shown var ≡ variable v

-- new variables one after another, and their cells
abbrev pub new_variables : ℕ → ℕ → List Tree
new_variables v zero = []
new_variables v (suc n) = variable v ∷ new_variables (suc v) n

abbrev pub places_from : ℕ → ℕ → List ℕ
places_from place zero = []
places_from place (suc n) = place ∷ places_from (suc place) n

-- at most so much room was used
pub record Uses (old new : Room) (cells trail marks : ℕ) : Type 0 where
  pub cells_ : old.cells ≤ new.cells + cells
  pub trail_ : old.trail ≤ new.trail + trail
  pub marks_ : old.marks ≤ new.marks + marks

-- some room is there
pub record HasRoom (room : Room) (cells trail marks : ℕ) : Type 0 where
  pub cells_ : cells ≤ room.cells
  pub trail_ : trail ≤ room.trail
  pub marks_ : marks ≤ room.marks

-- a term was put after the cells: no other cell changed, it takes no more cells than it has symbols, and this is its cell
pub record Builds (old new : Shown) (term : Tree) (count result : ℕ) : Type 0 where
  pub more : List Tree
  pub terms : new.now.terms ≡ old.now.terms ++ more
  pub few : length more ≤ count
  pub variables : new.now.variables ≡ old.now.variables
  pub there : result < length new.now.terms
  pub term_ : term_of new result ≡ term

-- the first symbol of a cell's term: of a list it shows the cells of head and tail, of a variable its own cell
abbrev pub Shows : Shown → Tree → Look → Type 0
Shows shown tree (Name n) = tree ≡ constant n
Shows shown tree (Num z) = tree ≡ number z
Shows shown tree (Day d) = tree ≡ date d
Shows shown tree Nil = tree ≡ nil
Shows shown tree (Cons head tail) = IsThere shown head × IsThere shown tail × (tree ≡ cell (term_of shown head) (term_of shown tail))
Shows shown tree (Unbound var) = (v : ℕ) × (tree ≡ variable v) × IsUnbound shown var v

-- numbers from this one on, each greater than the one before it
abbrev pub AreRising : ℕ → List ℕ → Type 0
AreRising low [] = Unit {0}
AreRising low (n ∷ ns) = (low ≤ n) × AreRising (suc n) ns

-- a first symbol that is a whole term
abbrev pub IsNoList : Look → Type 0
IsNoList (Name n) = Unit {0}
IsNoList (Num z) = Unit {0}
IsNoList (Day d) = Unit {0}
IsNoList Nil = Unit {0}
IsNoList (Cons head tail) = ⊥
IsNoList (Unbound var) = Unit {0}
