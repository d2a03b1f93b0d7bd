-- What the walk over a term's symbols writes is the term's text.
use Rattle.std.proofs.Common.{◌≡◌, ℕ, ◌+◌, ◌<◌, Bool, true, false, cond, List, [], ◌++◌, All, codes, length, get_or, drop, refl, sym, ap, ◌∙◌, append_assoc, append-nil}
use Rattle.std.proofs.lemmas.List.{drop_more}
use Rattle.std.proofs.lemmas.List.Elements.{All-nil, All-cons, All-append}
use Rattle.le_terms.specs.declared.term.Sym.{Sym}
use Rattle.le_terms.specs.declared.term.Sym.TheVariants.{Name, Num, Day, Var, Nil, Cons}
use Rattle.le_terms.specs.Tree.{Tree, constant, number, date, variable, nil, cell, flat, IsInRange}
use Rattle.le_listing.specs.ClauseText.{term_text, tail_text}
use Rattle.le_listing.specs.Symbols.{symbol_text, symbols_text, is_cell, HasDay}

-- each day among a tree's symbols is one that a term may have
pub days : (tree : Tree) → IsInRange tree → All HasDay (flat tree)
days (constant n) h = All-cons HasDay (Name n) [] tt (All-nil HasDay)
days (number z) h = All-cons HasDay (Num z) [] tt (All-nil HasDay)
days (date d) h = All-cons HasDay (Day d) [] h (All-nil HasDay)
days (variable v) h = All-cons HasDay (Var v) [] tt (All-nil HasDay)
days nil h = All-cons HasDay Nil [] tt (All-nil HasDay)
days (cell head tail) h = All-cons HasDay Cons (flat head ++ flat tail) tt (All-append HasDay (flat head) (flat tail) (days head h.0) (days tail h.1))

module _ (names : List (List ℕ)) (vars : List ℕ) where
  -- the text of a tree where an item begins, or the rest of a list of which it is the tail
  abbrev part_text : Bool → Tree → List ℕ
  part_text is_item tree = cond is_item (term_text names vars tree) (tail_text names vars tree)

  -- a cell, whatever its mark, where its head and its tail are written so
  cell_text : (mark : List ℕ) (head tail : Tree) (rest : List Sym)
      → symbols_text names vars true (flat head ++ (flat tail ++ rest)) ≡ term_text names vars head ++ symbols_text names vars false (flat tail ++ rest)
      → symbols_text names vars false (flat tail ++ rest) ≡ tail_text names vars tail ++ symbols_text names vars false rest
      → mark ++ symbols_text names vars true ((flat head ++ flat tail) ++ rest)
      ≡ (mark ++ (term_text names vars head ++ tail_text names vars tail)) ++ symbols_text names vars false rest
  cell_text mark head tail rest head_is tail_is =
      let head_text = term_text names vars head in
      let rest_text = tail_text names vars tail in
      let behind = symbols_text names vars false rest in
      ap (λ s. mark ++ symbols_text names vars true s) (append_assoc (flat head) (flat tail) rest)
      ∙ ap (λ t. mark ++ t) (head_is ∙ ap (λ t. head_text ++ t) tail_is ∙ sym (append_assoc head_text rest_text behind))
      ∙ sym (append_assoc mark (head_text ++ rest_text) behind)

  -- the symbols of a tree write its text, and then what stands after them
  tree_text : (is_item : Bool) (tree : Tree) (rest : List Sym)
      → symbols_text names vars is_item (flat tree ++ rest) ≡ part_text is_item tree ++ symbols_text names vars false rest
  tree_text true (constant n) rest = refl
  tree_text true (number z) rest = refl
  tree_text true (date d) rest = refl
  tree_text true (variable v) rest = refl
  tree_text true nil rest = refl
  tree_text true (cell head tail) rest = cell_text (codes "[") head tail rest (tree_text true head (flat tail ++ rest)) (tree_text false tail rest)
  tree_text false (constant n) rest = refl
  tree_text false (number z) rest = refl
  tree_text false (date d) rest = refl
  tree_text false (variable v) rest = refl
  tree_text false nil rest = refl
  tree_text false (cell head tail) rest = cell_text (codes ", ") head tail rest (tree_text true head (flat tail ++ rest)) (tree_text false tail rest)

  -- a term's symbols write its text
  pub term_symbols : (tree : Tree) → symbols_text names vars true (flat tree) ≡ term_text names vars tree
  term_symbols tree =
      ap (symbols_text names vars true) (sym (append-nil (flat tree)))
      ∙ tree_text true tree []
      ∙ append-nil (term_text names vars tree)

  -- one more symbol
  pub symbol_step : (is_item : Bool) (ss : List Sym) (i : ℕ) (d : Sym) (old new all : List ℕ) → i < length ss
      → new ≡ old ++ symbol_text names vars is_item (get_or ss i d)
      → old ++ symbols_text names vars is_item (drop i ss) ≡ all
      → new ++ symbols_text names vars (is_cell (get_or ss i d)) (drop (i + 1) ss) ≡ all
  symbol_step is_item ss i d old new all within pushed before =
      let s = get_or ss i d in
      let rest = symbols_text names vars (is_cell s) (drop (i + 1) ss) in
      ap (λ t. t ++ rest) pushed
      ∙ append_assoc old (symbol_text names vars is_item s) rest
      ∙ sym (ap (λ ts. old ++ symbols_text names vars is_item ts) (drop_more ss i d within))
      ∙ before
