-- The symbols of the terms of a stack of cells, the last cell first.
use Rattle.std.proofs.Common.{◌≡◌, ℕ, ◌+◌, ◌<◌, List, [], ◌∷◌, ◌++◌, refl, sym, ap, ◌∙◌, append_assoc, arith}
use Rattle.le_terms.specs.declared.term.Sym.{Sym}
use Rattle.le_terms.specs.Tree.{flat}
use Rattle.le_subst.specs.Solution.{size}
use Rattle.std.specs.List.{AllByRecursion}
use Rattle.le_terms.specs.declared.term.Sym.TheVariants.{Cons}
use Rattle.le_terms.specs.Tree.{cell}
use Rattle.le_subst.proofs.Moves.{size-positive}
use Rattle.le_store.specs.declared.store.Look.{Look}
use Rattle.le_store.specs.declared.store.Look.TheVariants as TheVariants
use Rattle.le_store.specs.Shown.{Shown, term_of, IsThere, IsNoList}

abbrev pub flats : Shown → List ℕ → List Sym → List Sym
flats shown [] following = following
flats shown (place ∷ places) following = flats shown places (flat (term_of shown place) ++ following)

abbrev pub sizes : Shown → List ℕ → ℕ
sizes shown [] = 0
sizes shown (place ∷ places) = size (term_of shown place) + sizes shown places

pub flats-push : (shown : Shown) (places : List ℕ) (last : ℕ) (following : List Sym) → flats shown (places ++ last ∷ []) following ≡ flat (term_of shown last) ++ flats shown places following
flats-push shown [] last following = refl
flats-push shown (place ∷ places) last following = flats-push shown places last (flat (term_of shown place) ++ following)

pub sizes-push : (shown : Shown) (places : List ℕ) (last : ℕ) → sizes shown (places ++ last ∷ []) ≡ sizes shown places + size (term_of shown last)
sizes-push shown [] last = omega arith
sizes-push shown (place ∷ places) last = omega (arith, sizes-push shown places last)

pub all_pop : (shown : Shown) (places : List ℕ) (last : ℕ) → AllByRecursion (IsThere shown) (places ++ last ∷ []) → AllByRecursion (IsThere shown) places × IsThere shown last
all_pop shown [] last are = (tt, are.0)
all_pop shown (place ∷ places) last are = let more : AllByRecursion (IsThere shown) places × IsThere shown last = all_pop shown places last are.1 in ((are.0, more.0), more.1)

pub all_push : (shown : Shown) (places : List ℕ) (last : ℕ) → AllByRecursion (IsThere shown) places → IsThere shown last → AllByRecursion (IsThere shown) (places ++ last ∷ [])
all_push shown [] last are there = (there, tt)
all_push shown (place ∷ places) last are there = (are.0, all_push shown places last are.1 there)

pub fewer : (shown : Shown) (places rest : List ℕ) (last : ℕ) → places ≡ rest ++ last ∷ [] → sizes shown rest < sizes shown places
fewer shown places rest last split_ = let same : sizes shown places ≡ sizes shown rest + size (term_of shown last) = ap (sizes shown) split_ ∙ sizes-push shown rest last in omega (arith, size-positive (term_of shown last))

-- a term of one symbol is written
pub written_leaf : (shown : Shown) (places rest : List ℕ) (last : ℕ) (symbol : Sym) (syms new : List Sym) (all : List Sym) → places ≡ rest ++ last ∷ [] → flat (term_of shown last) ≡ symbol ∷ [] → new ≡ syms ++ symbol ∷ []
    → syms ++ flats shown places [] ≡ all → new ++ flats shown rest [] ≡ all
written_leaf shown places rest last symbol syms new all split_ is_leaf is_new whole =
    ap (λ xs. xs ++ flats shown rest []) is_new ∙ (append_assoc syms (symbol ∷ []) (flats shown rest [])
    ∙ (ap (λ xs. syms ++ (xs ++ flats shown rest [])) (sym is_leaf)
    ∙ (ap (λ xs. syms ++ xs) (sym (ap (λ ps. flats shown ps []) split_ ∙ flats-push shown rest last [])) ∙ whole)))

-- a list is written as its first symbol, its head and its tail
pub written_list : (shown : Shown) (places rest with_tail new : List ℕ) (last head tail : ℕ) (syms more : List Sym) (all : List Sym) → places ≡ rest ++ last ∷ [] → with_tail ≡ rest ++ tail ∷ [] → new ≡ with_tail ++ head ∷ []
    → term_of shown last ≡ cell (term_of shown head) (term_of shown tail) → more ≡ syms ++ Cons ∷ [] → syms ++ flats shown places [] ≡ all
    → (more ++ flats shown new [] ≡ all) × (sizes shown new < sizes shown places)
written_list shown places rest with_tail new last head tail syms more all split_ is_tail is_new is_list is_more whole = (
  ap (λ xs. xs ++ flats shown new []) is_more ∙ (append_assoc syms (Cons ∷ []) (flats shown new [])
      ∙ (ap (λ xs. syms ++ (Cons ∷ xs)) (ap (λ ps. flats shown ps []) is_new ∙ (flats-push shown with_tail head [] ∙ (ap (λ xs. flat (term_of shown head) ++ xs) (ap (λ ps. flats shown ps []) is_tail ∙ flats-push shown rest tail []) ∙ sym (append_assoc (flat (term_of shown head)) (flat (term_of shown tail)) (flats shown rest [])))))
      ∙ (ap (λ t. syms ++ (flat t ++ flats shown rest [])) (sym is_list)
      ∙ (ap (λ xs. syms ++ xs) (sym (ap (λ ps. flats shown ps []) split_ ∙ flats-push shown rest last [])) ∙ whole)))),
  (let a : sizes shown places ≡ sizes shown rest + size (term_of shown last) = ap (sizes shown) split_ ∙ sizes-push shown rest last in
      let b : sizes shown with_tail ≡ sizes shown rest + size (term_of shown tail) = ap (sizes shown) is_tail ∙ sizes-push shown rest tail in
      let d : sizes shown new ≡ sizes shown with_tail + size (term_of shown head) = ap (sizes shown) is_new ∙ sizes-push shown with_tail head in
      let e : size (term_of shown last) ≡ size (cell (term_of shown head) (term_of shown tail)) = ap size is_list in
      omega arith),
)

-- a first symbol other than a list's
pub no_list : (look : Look) → ((head tail : ℕ) → look ≡ TheVariants.Cons head tail → ⊥) → IsNoList look
no_list (TheVariants.Name n) other = tt
no_list (TheVariants.Num z) other = tt
no_list (TheVariants.Day d) other = tt
no_list TheVariants.Nil other = tt
no_list (TheVariants.Cons head tail) other = absurd (other head tail refl)
no_list (TheVariants.Unbound var) other = tt
