-- Terms of cells that have no variable.
use Rattle.std.proofs.Common.{◌≡◌, ℕ, suc, ◌+◌, ◌<◌, ◌==◌, ◌&&◌, Bool, true, false, List, [], ◌∷◌, ◌++◌, length, get_or, drop, refl, sym, ap, ap₂, ◌∙◌, arith}
use Rattle.std.proofs.lemmas.Bool.Decides.{Decides-eqb}
use Rattle.le_terms.specs.Tree.{Tree, constant, number, date, variable, nil, cell}
use Rattle.le_terms.specs.declared.term.Sym.{Sym}
use Rattle.le_terms.specs.Variables.{replaced, occurrences, all_occurrences}
use Rattle.le_terms.specs.Walks.{symbol_variables}
use Rattle.le_terms.proofs.Preorder.{symbol_variables-append, drop-item}
use Rattle.le_proofs.specs.Goals.{terms_under}
use Rattle.le_store.specs.declared.store.Look.{Look}
use Rattle.le_store.specs.declared.store.Look.TheVariants.{Name, Num, Day, Nil, Cons, Unbound}
use Rattle.le_store.specs.Shown.{Shown, term_of, Shows}
use Rattle.le_goals.specs.NoVariables.{has_no_variable, have_no_variable}

and_assoc : (a b c : Bool) → (a && (b && c)) ≡ ((a && b) && c)
and_assoc true b c = refl
and_assoc false b c = refl

and_true : (a : Bool) → (a && true) ≡ a
and_true true = refl
and_true false = refl

and_swap : (a b c : Bool) → (a && (b && c)) ≡ (b && (a && c))
and_swap true b c = refl
and_swap false true c = refl
and_swap false false c = refl

suc-none : (n : ℕ) → (suc n == 0) ≡ false
suc-none n = by (suc n == 0) refl
  where
    by : (b : Bool) → (suc n == 0) ≡ b → (suc n == 0) ≡ false
    by true same = let none : suc n ≡ 0 = (Decides-eqb (suc n) 0).0 same in absurd (omega (arith, none))
    by false same = same

none-append : (xs ys : List ℕ) → (length (xs ++ ys) == 0) ≡ ((length xs == 0) && (length ys == 0))
none-append [] ys = refl
none-append (x ∷ xs) ys = suc-none (length (xs ++ ys)) ∙ sym (ap (λ b. b && (length ys == 0)) (suc-none (length xs)))

have-append : (by : ℕ → Tree) (xs ys : List ℕ) → have_no_variable by (xs ++ ys) ≡ (have_no_variable by xs && have_no_variable by ys)
have-append by [] ys = refl
have-append by (x ∷ xs) ys = ap (λ b. has_no_variable (by x) && b) (have-append by xs ys) ∙ and_assoc (has_no_variable (by x)) (have_no_variable by xs) (have_no_variable by ys)

-- a term whose variables are replaced
pub none-replaced : (by : ℕ → Tree) (term : Tree) → has_no_variable (replaced by term) ≡ have_no_variable by (occurrences term)
none-replaced by (constant n) = refl
none-replaced by (number z) = refl
none-replaced by (date d) = refl
none-replaced by (variable v) = sym (and_true (has_no_variable (by v)))
none-replaced by nil = refl
none-replaced by (cell head tail) =
    none-append (occurrences (replaced by head)) (occurrences (replaced by tail))
    ∙ (ap₂ (λ a b. a && b) (none-replaced by head) (none-replaced by tail)
    ∙ sym (have-append by (occurrences head) (occurrences tail)))

pub none-terms : (by : ℕ → Tree) (terms : List Tree) → have_no_variable by (all_occurrences terms) ≡ (length (all_occurrences (terms_under by terms)) == 0)
none-terms by [] = refl
none-terms by (term ∷ terms) =
    have-append by (occurrences term) (all_occurrences terms)
    ∙ (ap₂ (λ a b. a && b) (sym (none-replaced by term)) (none-terms by terms)
    ∙ sym (none-append (occurrences (replaced by term)) (all_occurrences (terms_under by terms))))

-- ---- one item of some after another

goes-on : (by : ℕ → Tree) (all part rest : List ℕ) → all ≡ part ++ rest → have_no_variable by part ≡ true → have_no_variable by all ≡ have_no_variable by rest
goes-on by all part rest split_ none = ap (have_no_variable by) split_ ∙ (have-append by part rest ∙ ap (λ b. b && have_no_variable by rest) none)

stops : (by : ℕ → Tree) (all part rest : List ℕ) → all ≡ part ++ rest → have_no_variable by part ≡ false → have_no_variable by all ≡ false
stops by all part rest split_ some = ap (have_no_variable by) split_ ∙ (have-append by part rest ∙ ap (λ b. b && have_no_variable by rest) some)

module _ (syms : List Sym) (i : ℕ) (x : Sym) (low : i < length syms) (read : x ≡ get_or syms i x) where
  parted-syms : symbol_variables (drop i syms) ≡ symbol_variables (x ∷ []) ++ symbol_variables (drop (i + 1) syms)
  parted-syms = ap symbol_variables (drop-item syms i x low read) ∙ symbol_variables-append (x ∷ []) (drop (i + 1) syms)

  pub next-symbol : (by : ℕ → Tree) → have_no_variable by (symbol_variables (x ∷ [])) ≡ true → have_no_variable by (symbol_variables (drop i syms)) ≡ have_no_variable by (symbol_variables (drop (i + 1) syms))
  next-symbol by none = goes-on by (symbol_variables (drop i syms)) (symbol_variables (x ∷ [])) (symbol_variables (drop (i + 1) syms)) parted-syms none

  pub last-symbol : (by : ℕ → Tree) → have_no_variable by (symbol_variables (x ∷ [])) ≡ false → have_no_variable by (symbol_variables (drop i syms)) ≡ false
  last-symbol by some = stops by (symbol_variables (drop i syms)) (symbol_variables (x ∷ [])) (symbol_variables (drop (i + 1) syms)) parted-syms some

module _ (terms : List Tree) (i : ℕ) (x : Tree) (low : i < length terms) (read : x ≡ get_or terms i x) where
  parted-terms : all_occurrences (drop i terms) ≡ occurrences x ++ all_occurrences (drop (i + 1) terms)
  parted-terms = ap all_occurrences (drop-item terms i x low read)

  pub next-term : (by : ℕ → Tree) → have_no_variable by (occurrences x) ≡ true → have_no_variable by (all_occurrences (drop i terms)) ≡ have_no_variable by (all_occurrences (drop (i + 1) terms))
  next-term by none = goes-on by (all_occurrences (drop i terms)) (occurrences x) (all_occurrences (drop (i + 1) terms)) parted-terms none

  pub last-term : (by : ℕ → Tree) → have_no_variable by (occurrences x) ≡ false → have_no_variable by (all_occurrences (drop i terms)) ≡ false
  last-term by some = stops by (all_occurrences (drop i terms)) (occurrences x) (all_occurrences (drop (i + 1) terms)) parted-terms some

-- ---- a stack of cells

abbrev pub none_among : Shown → List ℕ → Bool
none_among shown [] = true
none_among shown (place ∷ places) = has_no_variable (term_of shown place) && none_among shown places

none-push : (shown : Shown) (places : List ℕ) (last : ℕ) → none_among shown (places ++ last ∷ []) ≡ (has_no_variable (term_of shown last) && none_among shown places)
none-push shown [] last = refl
none-push shown (place ∷ places) last = ap (λ b. has_no_variable (term_of shown place) && b) (none-push shown places last) ∙ and_swap (has_no_variable (term_of shown place)) (has_no_variable (term_of shown last)) (none_among shown places)

none-split : (shown : Shown) (places rest : List ℕ) (last : ℕ) → places ≡ rest ++ last ∷ [] → none_among shown places ≡ (has_no_variable (term_of shown last) && none_among shown rest)
none-split shown places rest last split_ = ap (none_among shown) split_ ∙ none-push shown rest last

-- a variable
pub variable-left : (shown : Shown) (places rest : List ℕ) (last v : ℕ) → places ≡ rest ++ last ∷ [] → term_of shown last ≡ variable v → none_among shown places ≡ false
variable-left shown places rest last v split_ is = none-split shown places rest last split_ ∙ ap (λ t. has_no_variable t && none_among shown rest) is

-- a leaf that isn't a variable
pub leaf-left : (shown : Shown) (look : Look) (places rest : List ℕ) (last : ℕ) → places ≡ rest ++ last ∷ [] → ((head tail : ℕ) → look ≡ Cons head tail → ⊥) → ((var : ℕ) → look ≡ Unbound var → ⊥) → Shows shown (term_of shown last) look
    → none_among shown places ≡ none_among shown rest
leaf-left shown look places rest last split_ no_list no_var shows = none-split shown places rest last split_ ∙ ap (λ b. b && none_among shown rest) (by look (term_of shown last) no_list no_var shows)
  where
    by : (l : Look) (tree : Tree) → ((head tail : ℕ) → l ≡ Cons head tail → ⊥) → ((var : ℕ) → l ≡ Unbound var → ⊥) → Shows shown tree l → has_no_variable tree ≡ true
    by (Name n) tree list var is = ap has_no_variable is
    by (Num z) tree list var is = ap has_no_variable is
    by (Day d) tree list var is = ap has_no_variable is
    by Nil tree list var is = ap has_no_variable is
    by (Cons head tail) tree list var is = absurd (list head tail refl)
    by (Unbound own) tree list var is = absurd (var own refl)

-- a list
pub list-left : (shown : Shown) (places rest with_tail new : List ℕ) (last head tail : ℕ) → places ≡ rest ++ last ∷ [] → with_tail ≡ rest ++ tail ∷ [] → new ≡ with_tail ++ head ∷ [] → term_of shown last ≡ cell (term_of shown head) (term_of shown tail)
    → none_among shown places ≡ none_among shown new
list-left shown places rest with_tail new last head tail split_ is_tail is_new is_list =
    none-split shown places rest last split_
    ∙ (ap (λ t. has_no_variable t && none_among shown rest) is_list
    ∙ (ap (λ b. b && none_among shown rest) (none-append (occurrences (term_of shown head)) (occurrences (term_of shown tail)))
    ∙ (sym (and_assoc (has_no_variable (term_of shown head)) (has_no_variable (term_of shown tail)) (none_among shown rest))
    ∙ (ap (λ b. has_no_variable (term_of shown head) && b) (sym (none-split shown with_tail rest tail is_tail))
    ∙ sym (none-split shown new with_tail head is_new)))))
