-- The symbols of a term say its phrase.
use Rattle.std.proofs.Common.{◌≡◌, ◌==◌, ℕ, ◌+◌, ◌<◌, ◌≤◌, Bool, true, false, cond, ◌||◌, List, [], ◌∷◌, ◌++◌, length, drop, get_or, All, sym, refl, ap, ◌∙◌, arith, append_assoc, append-nil}
use Rattle.std.specs.BTreeSet.{BTreeSet, contains, Updates}
use Rattle.std.specs.BTreeMap.{is_at}
use Rattle.std.specs.Ordering.{nat_cmp}
use Rattle.std.proofs.lemmas.List.{drop_more, drop_all}
use Rattle.std.proofs.lemmas.List.Elements.{All-nil, All-cons, All-append}
use Rattle.std.proofs.lemmas.List.Folds.{list_any-append}
use Rattle.le_layout.specs.Spellings.{Spelling}
use Rattle.le_templates.specs.declared.part.Template.{Template}
use Rattle.le_terms.specs.declared.term.Sym.{Sym}
use Rattle.le_terms.specs.declared.term.Sym.TheVariants.{Name, Num, Day, Var, Nil, Cons}
use Rattle.le_terms.specs.Tree.{Tree, constant, number, date, variable, nil, cell, flat, IsInRange}
use Rattle.le_terms.specs.Variables.{occurrences}
use Rattle.le_english.specs.declared.line.Line.{Line}
use Rattle.le_english.specs.Phrases.{open_sign, close_sign, comma_sign, bar_sign, is_seen, variable_phrase, phrase_of, rest_of}
use Rattle.le_english.specs.Lines.{thing_phrase, symbol_phrase, seen_after, seen_after_all, is_cell, symbols_phrase, HasDay, with_tokens}
use Rattle.le_english.proofs.LineLemmas.{with_tokens-append}

-- ---- the variables that were printed

-- two tests of which variables were printed agree
abbrev pub Agrees : (ℕ → Bool) → (ℕ → Bool) → Type 0
Agrees p q = (k : ℕ) → p k ≡ q k

seen_after-agree : (p q : ℕ → Bool) → Agrees p q → (s : Sym) → Agrees (seen_after p s) (seen_after q s)
seen_after-agree p q same (Name n) k = same k
seen_after-agree p q same (Num z) k = same k
seen_after-agree p q same (Day d) k = same k
seen_after-agree p q same (Var v) k = ap (λ b. (k == v) || b) (same k)
seen_after-agree p q same Nil k = same k
seen_after-agree p q same Cons k = same k

pub seen_after_all-agree : (p q : ℕ → Bool) → Agrees p q → (ss : List Sym) → Agrees (seen_after_all p ss) (seen_after_all q ss)
seen_after_all-agree p q same [] k = same k
seen_after_all-agree p q same (s ∷ ss) k = seen_after_all-agree (seen_after p s) (seen_after q s) (seen_after-agree p q same s) ss k

seen_after_all-append : (p : ℕ → Bool) (xs ys : List Sym) → Agrees (seen_after_all p (xs ++ ys)) (seen_after_all (seen_after_all p xs) ys)
seen_after_all-append p [] ys k = seen_after_all-agree p (seen_after_all p []) (λ i. refl) ys k
seen_after_all-append p (x ∷ xs) ys k =
    seen_after_all-append (seen_after p x) xs ys k
    ∙ seen_after_all-agree (seen_after_all (seen_after p x) xs) (seen_after_all p (x ∷ xs)) (λ i. refl) ys k

is_seen-none : (seen : List ℕ) → Agrees (is_seen seen) (is_seen (seen ++ []))
is_seen-none seen k = ap (λ ks. is_seen ks k) (sym (append-nil seen))

is_seen-one : (seen : List ℕ) (v : ℕ) → Agrees (seen_after (is_seen seen) (Var v)) (is_seen (seen ++ v ∷ []))
is_seen-one seen v k = turned (k == v) (is_seen seen k) ∙ sym (list_any-append (λ n. k == n) seen (v ∷ []))
  where
    turned : (a b : Bool) → (a || b) ≡ (b || (a || false))
    turned true true = refl
    turned true false = refl
    turned false true = refl
    turned false false = refl

-- the symbols of a tree print its variables
pub tree_seen : (seen : List ℕ) (tree : Tree) → Agrees (seen_after_all (is_seen seen) (flat tree)) (is_seen (seen ++ occurrences tree))
tree_seen seen (constant n) k = is_seen-none seen k
tree_seen seen (number z) k = is_seen-none seen k
tree_seen seen (date d) k = is_seen-none seen k
tree_seen seen (variable v) k = is_seen-one seen v k
tree_seen seen nil k = is_seen-none seen k
tree_seen seen (cell head tail) k =
    seen_after_all-agree (seen_after (is_seen seen) Cons) (is_seen seen) (λ i. refl) (flat head ++ flat tail) k
    ∙ seen_after_all-append (is_seen seen) (flat head) (flat tail) k
    ∙ seen_after_all-agree (seen_after_all (is_seen seen) (flat head)) (is_seen (seen ++ occurrences head)) (tree_seen seen head) (flat tail) k
    ∙ tree_seen (seen ++ occurrences head) tail k
    ∙ ap (λ ks. is_seen ks k) (append_assoc seen (occurrences head) (occurrences tail))

-- where the order of numbers says that two are the same
is_at-eq : (v k : ℕ) → is_at (nat_cmp v) k ≡ (k == v)
is_at-eq v k = grind (arith)

pub noted : (old new : BTreeSet ℕ) (v : ℕ) → Updates nat_cmp old new v true → Agrees (contains nat_cmp new) (seen_after (contains nat_cmp old) (Var v))
noted old new v u k = u.0 k ∙ either (is_at (nat_cmp v) k) (contains nat_cmp old k) ∙ ap (λ b. b || contains nat_cmp old k) (is_at-eq v k)
  where
    either : (a b : Bool) → cond a true b ≡ (a || b)
    either true b = refl
    either false b = refl

-- ---- days

-- each day among a tree's symbols is one that a term may have
pub days : (tree : Tree) → IsInRange tree → All HasDay (flat tree)
days (constant n) h = All-cons HasDay (Name n) [] tt (All-nil HasDay)
days (number z) h = All-cons HasDay (Num z) [] tt (All-nil HasDay)
days (date d) h = All-cons HasDay (Day d) [] h (All-nil HasDay)
days (variable v) h = All-cons HasDay (Var v) [] tt (All-nil HasDay)
days nil h = All-cons HasDay Nil [] tt (All-nil HasDay)
days (cell head tail) h = All-cons HasDay Cons (flat head ++ flat tail) tt (All-append HasDay (flat head) (flat tail) (days head h.0) (days tail h.1))

-- ---- the walk

module _ (users : List Template) (names : List (List ℕ)) where
  symbol_phrase-agree : (p q : ℕ → Bool) → Agrees p q → (is_item : Bool) (s : Sym) → symbol_phrase users names p is_item s ≡ symbol_phrase users names q is_item s
  symbol_phrase-agree p q same true (Name n) = refl
  symbol_phrase-agree p q same true (Num z) = refl
  symbol_phrase-agree p q same true (Day d) = refl
  symbol_phrase-agree p q same true (Var v) = ap (λ b. thing_phrase b v) (same v)
  symbol_phrase-agree p q same true Nil = refl
  symbol_phrase-agree p q same true Cons = refl
  symbol_phrase-agree p q same false (Name n) = refl
  symbol_phrase-agree p q same false (Num z) = refl
  symbol_phrase-agree p q same false (Day d) = refl
  symbol_phrase-agree p q same false (Var v) = ap (λ b. bar_sign ∷ (thing_phrase b v ++ close_sign ∷ [])) (same v)
  symbol_phrase-agree p q same false Nil = refl
  symbol_phrase-agree p q same false Cons = refl

  symbols_phrase-agree : (p q : ℕ → Bool) → Agrees p q → (is_item : Bool) (ss : List Sym) → symbols_phrase users names p is_item ss ≡ symbols_phrase users names q is_item ss
  symbols_phrase-agree p q same is_item [] = refl
  symbols_phrase-agree p q same is_item (s ∷ ss) =
      ap (λ t. t ++ symbols_phrase users names (seen_after p s) (is_cell s) ss) (symbol_phrase-agree p q same is_item s)
      ∙ ap (λ t. symbol_phrase users names q is_item s ++ t) (symbols_phrase-agree (seen_after p s) (seen_after q s) (seen_after-agree p q same s) (is_cell s) ss)

  -- the phrase of a tree where an item begins, or the rest of a list of which it is the tail
  abbrev pub part_phrase : Bool → List ℕ → Tree → List Spelling
  part_phrase is_item seen tree = cond is_item (phrase_of users names seen tree) (rest_of users names seen tree)

  -- what a symbol says, and what stands after it, by the variables of its tree
  after : (is_item : Bool) (seen vars : List ℕ) (s : Sym) (rest : List Sym) → Agrees (seen_after (is_seen seen) s) (is_seen (seen ++ vars))
      → symbols_phrase users names (is_seen seen) is_item (s ∷ rest) ≡ symbol_phrase users names (is_seen seen) is_item s ++ symbols_phrase users names (is_seen (seen ++ vars)) (is_cell s) rest
  after is_item seen vars s rest same = ap (λ t. symbol_phrase users names (is_seen seen) is_item s ++ t) (symbols_phrase-agree (seen_after (is_seen seen) s) (is_seen (seen ++ vars)) same (is_cell s) rest)

  -- a cell, whatever its mark, where its head and its tail are said so
  cell_phrase : (mark : Spelling) (seen : List ℕ) (head tail : Tree) (rest : List Sym)
      → symbols_phrase users names (is_seen seen) true (flat head ++ (flat tail ++ rest)) ≡ phrase_of users names seen head ++ symbols_phrase users names (is_seen (seen ++ occurrences head)) false (flat tail ++ rest)
      → symbols_phrase users names (is_seen (seen ++ occurrences head)) false (flat tail ++ rest) ≡ rest_of users names (seen ++ occurrences head) tail ++ symbols_phrase users names (is_seen ((seen ++ occurrences head) ++ occurrences tail)) false rest
      → mark ∷ symbols_phrase users names (seen_after (is_seen seen) Cons) true ((flat head ++ flat tail) ++ rest)
      ≡ (mark ∷ (phrase_of users names seen head ++ rest_of users names (seen ++ occurrences head) tail)) ++ symbols_phrase users names (is_seen (seen ++ (occurrences head ++ occurrences tail))) false rest
  cell_phrase mark seen head tail rest head_is tail_is =
      let after_head = seen ++ occurrences head in
      let after_tail = symbols_phrase users names (is_seen (after_head ++ occurrences tail)) false rest in
      let own = phrase_of users names seen head in
      let others = rest_of users names after_head tail in
      ap (λ t. mark ∷ t) (
      symbols_phrase-agree (seen_after (is_seen seen) Cons) (is_seen seen) (λ k. refl) true ((flat head ++ flat tail) ++ rest)
      ∙ ap (symbols_phrase users names (is_seen seen) true) (append_assoc (flat head) (flat tail) rest)
      ∙ head_is
      ∙ ap (λ t. own ++ t) tail_is
      ∙ sym (append_assoc own others after_tail))
      ∙ ap (λ ks. (mark ∷ (own ++ others)) ++ symbols_phrase users names (is_seen ks) false rest) (append_assoc seen (occurrences head) (occurrences tail))

  -- the symbols of a tree say its phrase, and then what stands after them
  tree_phrase : (is_item : Bool) (seen : List ℕ) (tree : Tree) (rest : List Sym)
      → symbols_phrase users names (is_seen seen) is_item (flat tree ++ rest) ≡ part_phrase is_item seen tree ++ symbols_phrase users names (is_seen (seen ++ occurrences tree)) false rest
  unfolding variable_phrase
  tree_phrase true seen (constant n) rest = after true seen [] (Name n) rest (is_seen-none seen)
  tree_phrase true seen (number z) rest = after true seen [] (Num z) rest (is_seen-none seen)
  tree_phrase true seen (date d) rest = after true seen [] (Day d) rest (is_seen-none seen)
  tree_phrase true seen (variable v) rest = after true seen (v ∷ []) (Var v) rest (is_seen-one seen v)
  tree_phrase true seen nil rest = after true seen [] Nil rest (is_seen-none seen)
  tree_phrase true seen (cell head tail) rest =
      cell_phrase open_sign seen head tail rest (tree_phrase true seen head (flat tail ++ rest)) (tree_phrase false (seen ++ occurrences head) tail rest)
  tree_phrase false seen (constant n) rest = after false seen [] (Name n) rest (is_seen-none seen)
  tree_phrase false seen (number z) rest = after false seen [] (Num z) rest (is_seen-none seen)
  tree_phrase false seen (date d) rest = after false seen [] (Day d) rest (is_seen-none seen)
  tree_phrase false seen (variable v) rest = after false seen (v ∷ []) (Var v) rest (is_seen-one seen v)
  tree_phrase false seen nil rest = after false seen [] Nil rest (is_seen-none seen)
  tree_phrase false seen (cell head tail) rest =
      cell_phrase comma_sign seen head tail rest (tree_phrase true seen head (flat tail ++ rest)) (tree_phrase false (seen ++ occurrences head) tail rest)

  -- a term's symbols say its phrase
  pub term_symbols : (p : ℕ → Bool) (seen : List ℕ) (tree : Tree) → Agrees p (is_seen seen) → symbols_phrase users names p true (flat tree) ≡ phrase_of users names seen tree
  term_symbols p seen tree same =
      symbols_phrase-agree p (is_seen seen) same true (flat tree)
      ∙ ap (symbols_phrase users names (is_seen seen) true) (sym (append-nil (flat tree)))
      ∙ tree_phrase true seen tree []
      ∙ append-nil (phrase_of users names seen tree)

  -- one more symbol
  pub symbol_step : (p q : ℕ → Bool) (is_item : Bool) (ss : List Sym) (i : ℕ) (d : Sym) (old new all : Line) → i < length ss
      → new ≡ with_tokens old (symbol_phrase users names p is_item (get_or ss i d)) → Agrees q (seen_after p (get_or ss i d))
      → with_tokens old (symbols_phrase users names p is_item (drop i ss)) ≡ all
      → with_tokens new (symbols_phrase users names q (is_cell (get_or ss i d)) (drop (i + 1) ss)) ≡ all
  symbol_step p q is_item ss i d old new all within pushed same before =
      let s = get_or ss i d in
      let rest = symbols_phrase users names (seen_after p s) (is_cell s) (drop (i + 1) ss) in
      ap (with_tokens new) (symbols_phrase-agree q (seen_after p s) same (is_cell s) (drop (i + 1) ss))
      ∙ ap (λ l. with_tokens l rest) pushed
      ∙ sym (with_tokens-append old (symbol_phrase users names p is_item s) rest)
      ∙ sym (ap (λ ts. with_tokens old (symbols_phrase users names p is_item ts)) (drop_more ss i d within))
      ∙ before

-- and the variables that it prints
pub seen_step : (p q : ℕ → Bool) (ss : List Sym) (i : ℕ) (d : Sym) (all : ℕ → Bool) → i < length ss → Agrees q (seen_after p (get_or ss i d)) → Agrees (seen_after_all p (drop i ss)) all → Agrees (seen_after_all q (drop (i + 1) ss)) all
seen_step p q ss i d all within same before k =
    seen_after_all-agree q (seen_after p (get_or ss i d)) same (drop (i + 1) ss) k
    ∙ sym (ap (λ ts. seen_after_all p ts k) (drop_more ss i d within))
    ∙ before k

-- after the last symbol
pub symbols_end : (users : List Template) (names : List (List ℕ)) (p : ℕ → Bool) (is_item : Bool) (ss : List Sym) (i : ℕ) (line all : Line) → length ss ≤ i → with_tokens line (symbols_phrase users names p is_item (drop i ss)) ≡ all → line ≡ all
symbols_end users names p is_item ss i line all h e = ap (λ ts. with_tokens line (symbols_phrase users names p is_item ts)) (sym (drop_all i ss h)) ∙ e

pub seen_end : (p : ℕ → Bool) (ss : List Sym) (i : ℕ) (all : ℕ → Bool) → length ss ≤ i → Agrees (seen_after_all p (drop i ss)) all → Agrees p all
seen_end p ss i all h e k = ap (λ ts. seen_after_all p ts k) (sym (drop_all i ss h)) ∙ e k
