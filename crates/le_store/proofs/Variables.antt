-- The cells of the variables.
use Rattle.std.proofs.Common.{◌≡◌, ℕ, zero, suc, ◌+◌, ◌<◌, ◌≤◌, List, [], ◌∷◌, ◌++◌, length, get_or, take, drop, slice_get, Some, refl, sym, ap, ◌∙◌, arith, length-append}
use Rattle.std.proofs.lemmas.List.{take-append-drop, drop_more}
use Rattle.le_store.specs.declared.cells.Cell.{Cell}
use Rattle.le_store.specs.declared.cells.Cell.TheVariants.{Name, Num, Day, Nil, Cons, Link, Var, Bound}
use Rattle.le_store.specs.Cells.{variable_cells}
use Rattle.le_store.specs.Shown.{AreRising}

-- those of some cells with others after them
pub variable_cells-append : (at : ℕ) (cells more : List Cell) → variable_cells at (cells ++ more) ≡ variable_cells at cells ++ variable_cells (at + length cells) more
variable_cells-append at [] more = ap (λ k. variable_cells k more) (omega arith)
variable_cells-append at (Name n ∷ cells) more = variable_cells-append (suc at) cells more ∙ ap (λ k. variable_cells (suc at) cells ++ variable_cells k more) (omega arith)
variable_cells-append at (Num z ∷ cells) more = variable_cells-append (suc at) cells more ∙ ap (λ k. variable_cells (suc at) cells ++ variable_cells k more) (omega arith)
variable_cells-append at (Day d ∷ cells) more = variable_cells-append (suc at) cells more ∙ ap (λ k. variable_cells (suc at) cells ++ variable_cells k more) (omega arith)
variable_cells-append at (Nil ∷ cells) more = variable_cells-append (suc at) cells more ∙ ap (λ k. variable_cells (suc at) cells ++ variable_cells k more) (omega arith)
variable_cells-append at (Cons tail end ∷ cells) more = variable_cells-append (suc at) cells more ∙ ap (λ k. variable_cells (suc at) cells ++ variable_cells k more) (omega arith)
variable_cells-append at (Link to ∷ cells) more = variable_cells-append (suc at) cells more ∙ ap (λ k. variable_cells (suc at) cells ++ variable_cells k more) (omega arith)
variable_cells-append at (Var n ∷ cells) more = ap (λ ns. at ∷ ns) (variable_cells-append (suc at) cells more ∙ ap (λ k. variable_cells (suc at) cells ++ variable_cells k more) (omega arith))
variable_cells-append at (Bound n to ∷ cells) more = ap (λ ns. at ∷ ns) (variable_cells-append (suc at) cells more ∙ ap (λ k. variable_cells (suc at) cells ++ variable_cells k more) (omega arith))

-- a cell that is a variable's, bound or not
abbrev pub IsVariable : Cell → Type 0
IsVariable (Name n) = ⊥
IsVariable (Num z) = ⊥
IsVariable (Day d) = ⊥
IsVariable Nil = ⊥
IsVariable (Cons tail end) = ⊥
IsVariable (Link to) = ⊥
IsVariable (Var n) = Unit {0}
IsVariable (Bound n to) = Unit {0}

-- the place of the variable of this number
pub record IsPlace (at : ℕ) (cells : List Cell) (v place : ℕ) : Type 0 where
  pub index : ℕ
  pub place_ : place ≡ at + index
  pub within : index < length cells
  pub before : length (variable_cells 0 (take index cells)) ≡ v
  pub variable_ : IsVariable (get_or cells index Nil)

-- how many variables there are doesn't depend on where the cells begin
pub count-shift : (at from : ℕ) (cells : List Cell) → length (variable_cells at cells) ≡ length (variable_cells from cells)
count-shift at from [] = refl
count-shift at from (Name n ∷ cells) = count-shift (suc at) (suc from) cells
count-shift at from (Num z ∷ cells) = count-shift (suc at) (suc from) cells
count-shift at from (Day d ∷ cells) = count-shift (suc at) (suc from) cells
count-shift at from (Nil ∷ cells) = count-shift (suc at) (suc from) cells
count-shift at from (Cons tail end ∷ cells) = count-shift (suc at) (suc from) cells
count-shift at from (Link to ∷ cells) = count-shift (suc at) (suc from) cells
count-shift at from (Var n ∷ cells) = ap suc (count-shift (suc at) (suc from) cells)
count-shift at from (Bound n to ∷ cells) = ap suc (count-shift (suc at) (suc from) cells)

-- a cell more in front
following : (at : ℕ) (first : Cell) (cells : List Cell) (v w place : ℕ) → ((n : ℕ) → length (variable_cells 0 (first ∷ take n cells)) ≡ v → length (variable_cells 0 (first ∷ take n cells)) ≡ v)
    → ((n : ℕ) → length (variable_cells 0 (take n cells)) ≡ w → length (variable_cells 0 (first ∷ take n cells)) ≡ v)
    → IsPlace (suc at) cells w place → IsPlace at (first ∷ cells) v place
following at first cells v w place same counts h = record {
  index = suc h.index;
  place_ = omega (arith, h.place_);
  within = omega (arith, h.within);
  before = counts h.index h.before;
  variable_ = h.variable_;
}

-- the variable of each number has its place
pub place_of : (at : ℕ) (cells : List Cell) (v place : ℕ) → slice_get (variable_cells at cells) v ≡ Some place → IsPlace at cells v place
place_of at [] v place found = absurd (cc found)
place_of at (Name n ∷ cells) v place found = following at (Name n) cells v v place (λ k h. h) (λ k h. count-shift 1 0 (take k cells) ∙ h) (place_of (suc at) cells v place found)
place_of at (Num z ∷ cells) v place found = following at (Num z) cells v v place (λ k h. h) (λ k h. count-shift 1 0 (take k cells) ∙ h) (place_of (suc at) cells v place found)
place_of at (Day d ∷ cells) v place found = following at (Day d) cells v v place (λ k h. h) (λ k h. count-shift 1 0 (take k cells) ∙ h) (place_of (suc at) cells v place found)
place_of at (Nil ∷ cells) v place found = following at Nil cells v v place (λ k h. h) (λ k h. count-shift 1 0 (take k cells) ∙ h) (place_of (suc at) cells v place found)
place_of at (Cons tail end ∷ cells) v place found = following at (Cons tail end) cells v v place (λ k h. h) (λ k h. count-shift 1 0 (take k cells) ∙ h) (place_of (suc at) cells v place found)
place_of at (Link to ∷ cells) v place found = following at (Link to) cells v v place (λ k h. h) (λ k h. count-shift 1 0 (take k cells) ∙ h) (place_of (suc at) cells v place found)
place_of at (Var n ∷ cells) zero place found = let same : at ≡ place = (cc found) in record { index = 0; place_ = omega arith; within = omega arith; before = refl; variable_ = tt }
place_of at (Var n ∷ cells) (suc v) place found = following at (Var n) cells (suc v) v place (λ k h. h) (λ k h. ap suc (count-shift 1 0 (take k cells) ∙ h)) (place_of (suc at) cells v place found)
place_of at (Bound n to ∷ cells) zero place found = let same : at ≡ place = (cc found) in record { index = 0; place_ = omega arith; within = omega arith; before = refl; variable_ = tt }
place_of at (Bound n to ∷ cells) (suc v) place found = following at (Bound n to) cells (suc v) v place (λ k h. h) (λ k h. ap suc (count-shift 1 0 (take k cells) ∙ h)) (place_of (suc at) cells v place found)

-- after a variable's cell there are more variables than before it
pub count-below : (cells : List Cell) (index : ℕ) → index < length cells → IsVariable (get_or cells index Nil) → length (variable_cells 0 (take index cells)) < length (variable_cells 0 cells)
count-below cells index within is_variable =
    let split : take index cells ++ drop index cells ≡ cells = take-append-drop index cells in
    let first : drop index cells ≡ get_or cells index Nil ∷ drop (index + 1) cells = drop_more cells index Nil within in
    let parts : variable_cells 0 (take index cells ++ (get_or cells index Nil ∷ drop (index + 1) cells)) ≡ variable_cells 0 (take index cells) ++ variable_cells (0 + length (take index cells)) (get_or cells index Nil ∷ drop (index + 1) cells) =
    variable_cells-append 0 (take index cells) (get_or cells index Nil ∷ drop (index + 1) cells) in
    let whole : length (variable_cells 0 cells) ≡ length (variable_cells 0 (take index cells)) + length (variable_cells (0 + length (take index cells)) (get_or cells index Nil ∷ drop (index + 1) cells)) =
    ap (λ cs. length (variable_cells 0 cs)) (sym split ∙ ap (λ cs. take index cells ++ cs) first) ∙ (ap length parts ∙ length-append (variable_cells 0 (take index cells)) (variable_cells (0 + length (take index cells)) (get_or cells index Nil ∷ drop (index + 1) cells))) in
    let some : 0 < length (variable_cells (0 + length (take index cells)) (get_or cells index Nil ∷ drop (index + 1) cells)) = one_more (0 + length (take index cells)) (get_or cells index Nil) (drop (index + 1) cells) is_variable in
    omega arith
  where
    one_more : (at : ℕ) (x : Cell) (rest : List Cell) → IsVariable x → 0 < length (variable_cells at (x ∷ rest))
    one_more at (Var n) rest h = omega arith
    one_more at (Bound n to) rest h = omega arith
    one_more at (Name n) rest h = absurd h
    one_more at (Num z) rest h = absurd h
    one_more at (Day d) rest h = absurd h
    one_more at Nil rest h = absurd h
    one_more at (Cons tail end) rest h = absurd h
    one_more at (Link to) rest h = absurd h

-- numbers that rise from a number on rise from a lower one on
rising-lower : (low from : ℕ) (ns : List ℕ) → low ≤ from → AreRising from ns → AreRising low ns
rising-lower low from [] below h = tt
rising-lower low from (n ∷ ns) below h = (omega (arith, h.0), h.1)

-- the cells of the variables rise
pub variable_cells-rising : (at : ℕ) (cells : List Cell) → AreRising at (variable_cells at cells)
variable_cells-rising at [] = tt
variable_cells-rising at (Name n ∷ cells) = rising-lower at (suc at) (variable_cells (suc at) cells) (omega arith) (variable_cells-rising (suc at) cells)
variable_cells-rising at (Num z ∷ cells) = rising-lower at (suc at) (variable_cells (suc at) cells) (omega arith) (variable_cells-rising (suc at) cells)
variable_cells-rising at (Day d ∷ cells) = rising-lower at (suc at) (variable_cells (suc at) cells) (omega arith) (variable_cells-rising (suc at) cells)
variable_cells-rising at (Nil ∷ cells) = rising-lower at (suc at) (variable_cells (suc at) cells) (omega arith) (variable_cells-rising (suc at) cells)
variable_cells-rising at (Cons tail end ∷ cells) = rising-lower at (suc at) (variable_cells (suc at) cells) (omega arith) (variable_cells-rising (suc at) cells)
variable_cells-rising at (Link to ∷ cells) = rising-lower at (suc at) (variable_cells (suc at) cells) (omega arith) (variable_cells-rising (suc at) cells)
variable_cells-rising at (Var n ∷ cells) = (omega arith, variable_cells-rising (suc at) cells)
variable_cells-rising at (Bound n to ∷ cells) = (omega arith, variable_cells-rising (suc at) cells)
