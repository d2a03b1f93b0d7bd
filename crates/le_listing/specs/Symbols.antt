-- What a walk over the symbols of a term writes, one symbol after another. Callers don't need it.
use Rattle.std.specs.Prelude.{ℕ, Bool, true, false, if◌then◌else◌, List, [], ◌∷◌, ◌++◌, slice_index_or, codes}
use Rattle.std.specs.Fmt.{signed_decimal}
use Rattle.le_terms.specs.declared.term.Sym.{Sym}
use Rattle.le_terms.specs.declared.term.Sym.TheVariants.{Name, Num, Day, Var, Nil, Cons}
use Rattle.le_base.specs.Ranges.{IsDay}
use Rattle.le_values.specs.Days.{day_text}
use Rattle.le_listing.specs.ClauseText.{quoted, variable_text}

-- what a symbol writes where an item of a list begins, or the term
abbrev pub at_item : List (List ℕ) → List ℕ → Sym → List ℕ
at_item names vars (Name n) = quoted (slice_index_or names n [])
at_item names vars (Num z) = signed_decimal z
at_item names vars (Day d) = day_text d
at_item names vars (Var v) = variable_text vars v
at_item names vars Nil = codes "[]"
at_item names vars Cons = codes "["

-- what a last tail that isn't the empty list writes
abbrev pub last_text : List (List ℕ) → List ℕ → Sym → List ℕ
last_text names vars symbol = codes " | " ++ (at_item names vars symbol ++ codes "]")

-- what a symbol writes where the tail of a list begins
abbrev pub at_tail : List (List ℕ) → List ℕ → Sym → List ℕ
at_tail names vars (Name n) = last_text names vars (Name n)
at_tail names vars (Num z) = last_text names vars (Num z)
at_tail names vars (Day d) = last_text names vars (Day d)
at_tail names vars (Var v) = last_text names vars (Var v)
at_tail names vars Nil = codes "]"
at_tail names vars Cons = codes ", "

-- what a symbol writes, by whether an item begins with it
abbrev pub symbol_text : List (List ℕ) → List ℕ → Bool → Sym → List ℕ
symbol_text names vars is_item symbol = if is_item then at_item names vars symbol else at_tail names vars symbol

-- whether an item begins after a symbol, and else the tail of a list
abbrev pub is_cell : Sym → Bool
is_cell (Name n) = false
is_cell (Num z) = false
is_cell (Day d) = false
is_cell (Var v) = false
is_cell Nil = false
is_cell Cons = true

-- what symbols write one after another
abbrev pub symbols_text : List (List ℕ) → List ℕ → Bool → List Sym → List ℕ
symbols_text names vars is_item [] = []
symbols_text names vars is_item (symbol ∷ symbols) = symbol_text names vars is_item symbol ++ symbols_text names vars (is_cell symbol) symbols

-- a symbol whose day, if it is one, is one that a term may have
abbrev pub HasDay : Sym → Type 0
HasDay (Name n) = Unit {0}
HasDay (Num z) = Unit {0}
HasDay (Day d) = IsDay d
HasDay (Var v) = Unit {0}
HasDay Nil = Unit {0}
HasDay Cons = Unit {0}
