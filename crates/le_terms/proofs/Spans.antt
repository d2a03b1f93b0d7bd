-- How many symbols the first trees of some symbols have.
use Rattle.std.proofs.Common.{◌≡◌, ℕ, zero, suc, ◌+◌, ◌-◌, ◌<◌, ◌≤◌, get_or, add-one, drop-cons, List, [], ◌∷◌, ◌++◌, length, drop, Option, Some, None, refl, sym, ap, subst, ◌∙◌, arith, append_assoc, length-append, append-nil}
use Rattle.std.specs.Option.{option_map}
use Rattle.le_terms.specs.declared.term.Sym.{Sym}
use Rattle.le_terms.specs.declared.term.Sym.TheVariants.{Name, Num, Day, Var, Nil, Cons}
use Rattle.le_terms.specs.Tree.{Tree, constant, number, date, variable, nil, cell, flat, BeginsWith}
use Rattle.le_terms.specs.Walks.{wanted_after}

-- how many symbols the first so many trees have
abbrev pub span : ℕ → List Sym → Option ℕ
span zero symbols = Some 0
span (suc more) [] = None
span (suc more) (symbol ∷ symbols) = option_map (λ n. 1 + n) (span (wanted_after symbol more) symbols)

-- the symbols of some trees
abbrev pub all_flat : List Tree → List Sym
all_flat [] = []
all_flat (tree ∷ trees) = flat tree ++ all_flat trees

added-twice : (a b : ℕ) (o : Option ℕ) → option_map (λ n. 1 + n) (option_map (λ n. a + n) (option_map (λ n. b + n) o)) ≡ option_map (λ n. (1 + (a + b)) + n) o
added-twice a b None = refl
added-twice a b (Some n) = ap Some (omega arith)

-- the first tree's symbols, and then those of the other trees
pub span-flat : (tree : Tree) (rest : List Sym) (more : ℕ) → span (suc more) (flat tree ++ rest) ≡ option_map (λ n. length (flat tree) + n) (span more rest)
span-flat (constant k) rest more = refl
span-flat (number z) rest more = refl
span-flat (date d) rest more = refl
span-flat (variable v) rest more = refl
span-flat nil rest more = refl
span-flat (cell head tail) rest more =
    ap (λ symbols. option_map (λ n. 1 + n) (span (suc (suc more)) symbols)) (append_assoc (flat head) (flat tail) rest)
    ∙ (ap (option_map (λ n. 1 + n)) (span-flat head (flat tail ++ rest) (suc more) ∙ ap (option_map (λ n. length (flat head) + n)) (span-flat tail rest more))
    ∙ (added-twice (length (flat head)) (length (flat tail)) (span more rest)
    ∙ ap (λ m. option_map (λ n. m + n) (span more rest)) (let both : length (flat head ++ flat tail) ≡ length (flat head) + length (flat tail) = length-append (flat head) (flat tail) in omega arith)))

-- symbols that begin with a tree have its span
pub span-begins : (tree : Tree) (symbols : List Sym) → BeginsWith tree symbols → span 1 symbols ≡ Some (length (flat tree))
span-begins tree symbols h = ap (span 1) h.1 ∙ (span-flat tree h.0 0 ∙ ap Some (omega arith))

-- a span has so many trees
pub record Spans (trees : ℕ) (symbols : List Sym) (n : ℕ) : Type 0 where
  pub forest : List Tree
  pub rest : List Sym
  pub many : length forest ≡ trees
  pub begins : symbols ≡ all_flat forest ++ rest
  pub long : n ≡ length (all_flat forest)

-- one symbol more, which is a tree
spans-leaf : (tree : Tree) (symbol : Sym) (symbols : List Sym) (trees n : ℕ) → flat tree ≡ symbol ∷ [] → Spans trees symbols n → Spans (suc trees) (symbol ∷ symbols) (1 + n)
spans-leaf tree symbol symbols trees n same h = record {
  forest = tree ∷ h.forest;
  rest = h.rest;
  many = (let many : length h.forest ≡ trees = h.many in omega arith);
  begins = ap (λ ss. symbol ∷ ss) h.begins ∙ ap (λ ss. (ss ++ all_flat h.forest) ++ h.rest) (sym same);
  long = omega (arith, h.long, length-append (flat tree) (all_flat h.forest), ap length same);
}

-- one symbol more, which makes a cell of the first two trees
spans-cell : (forest : List Tree) (rest symbols : List Sym) (trees n : ℕ) → length forest ≡ suc (suc trees) → symbols ≡ all_flat forest ++ rest → n ≡ length (all_flat forest) → Spans (suc trees) (Cons ∷ symbols) (1 + n)
spans-cell [] rest symbols trees n many begins long = absurd (omega arith)
spans-cell (tree ∷ []) rest symbols trees n many begins long = absurd (omega arith)
spans-cell (head ∷ tail ∷ forest) rest symbols trees n many begins long =
    let grouped : (flat head ++ flat tail) ++ all_flat forest ≡ flat head ++ (flat tail ++ all_flat forest) = append_assoc (flat head) (flat tail) (all_flat forest) in
    record {
      forest = cell head tail ∷ forest;
      rest = rest;
      many = omega arith;
      begins = ap (λ ss. Cons ∷ ss) (begins ∙ ap (λ ss. ss ++ rest) (sym grouped));
      long = omega (arith, ap length grouped);
    }

-- one symbol more
spans-symbol : (symbol : Sym) (symbols : List Sym) (trees n : ℕ) → Spans (wanted_after symbol trees) symbols n → Spans (suc trees) (symbol ∷ symbols) (1 + n)
spans-symbol (Name k) symbols trees n h = spans-leaf (constant k) (Name k) symbols trees n refl h
spans-symbol (Num z) symbols trees n h = spans-leaf (number z) (Num z) symbols trees n refl h
spans-symbol (Day d) symbols trees n h = spans-leaf (date d) (Day d) symbols trees n refl h
spans-symbol (Var v) symbols trees n h = spans-leaf (variable v) (Var v) symbols trees n refl h
spans-symbol Nil symbols trees n h = spans-leaf nil Nil symbols trees n refl h
spans-symbol Cons symbols trees n h = spans-cell h.forest h.rest symbols trees n h.many h.begins h.long

-- a span of the symbols after the first, with the first
spans-more : (symbol : Sym) (symbols : List Sym) (trees n : ℕ) (o : Option ℕ) → option_map (λ m. 1 + m) o ≡ Some n → ((m : ℕ) → o ≡ Some m → Spans (wanted_after symbol trees) symbols m) → Spans (suc trees) (symbol ∷ symbols) n
spans-more symbol symbols trees n None e behind = absurd (let none : None ≡ Some n = e in cc)
spans-more symbol symbols trees n (Some m) e behind =
    let same : 1 + m ≡ n = cc in
    subst (Spans (suc trees) (symbol ∷ symbols)) same (spans-symbol symbol symbols trees m (behind m refl))

-- a span is that of so many trees
pub spans : (symbols : List Sym) (trees n : ℕ) → span trees symbols ≡ Some n → Spans trees symbols n
spans symbols zero n e = record { forest = []; rest = symbols; many = refl; begins = refl; long = (let same : Some 0 ≡ Some n = e in cc) }
spans [] (suc trees) n e = absurd (let none : None ≡ Some n = e in cc)
spans (symbol ∷ symbols) (suc trees) n e = spans-more symbol symbols trees n (span (wanted_after symbol trees) symbols) e (λ m. spans symbols (wanted_after symbol trees) m)

-- the span of one tree
begins-one : (forest : List Tree) (rest symbols : List Sym) (n : ℕ) → length forest ≡ 1 → symbols ≡ all_flat forest ++ rest → n ≡ length (all_flat forest) → (tree : Tree) × BeginsWith tree symbols × (n ≡ length (flat tree))
begins-one [] rest symbols n many begins long = absurd (omega arith)
begins-one (tree ∷ []) rest symbols n many begins long =
    (tree, (rest, begins ∙ ap (λ ss. ss ++ rest) (append-nil (flat tree))), long ∙ ap length (append-nil (flat tree)))
begins-one (tree ∷ other ∷ forest) rest symbols n many begins long = absurd (omega arith)

-- symbols with a span of one tree begin with that tree
pub begins-span : (symbols : List Sym) (n : ℕ) → span 1 symbols ≡ Some n → (tree : Tree) × BeginsWith tree symbols × (n ≡ length (flat tree))
begins-span symbols n e = let h = spans symbols 1 n e in begins-one h.forest h.rest symbols n h.many h.begins h.long

span-after : (wanted : ℕ) (symbol : Sym) (symbols : List Sym) → 0 < wanted → span wanted (symbol ∷ symbols) ≡ option_map (λ n. 1 + n) (span (wanted_after symbol (wanted - 1)) symbols)
span-after zero symbol symbols some = absurd (omega arith)
span-after (suc more) symbol symbols some = ap (λ m. option_map (λ n. 1 + n) (span (wanted_after symbol m) symbols)) (let same : more ≡ suc more - 1 = omega arith in same)

added-behind : (i : ℕ) (o : Option ℕ) → option_map (λ n. i + n) (option_map (λ n. 1 + n) o) ≡ option_map (λ n. (i + 1) + n) o
added-behind i None = refl
added-behind i (Some n) = ap Some (omega arith)

-- one step of a walk
pub span-step : (symbols : List Sym) (i wanted next : ℕ) (d : Sym) → i < length symbols → 0 < wanted → next ≡ wanted_after (get_or symbols i d) (wanted - 1)
    → option_map (λ n. i + n) (span wanted (drop i symbols)) ≡ option_map (λ n. (i + 1) + n) (span next (drop (i + 1) symbols))
span-step symbols i wanted next d within some same =
    ap (λ ss. option_map (λ n. i + n) (span wanted ss)) (drop-item symbols i d within)
    ∙ (ap (option_map (λ n. i + n)) (span-after wanted (get_or symbols i d) (drop (i + 1) symbols) some)
    ∙ (added-behind i (span (wanted_after (get_or symbols i d) (wanted - 1)) (drop (i + 1) symbols))
    ∙ ap (λ m. option_map (λ n. (i + 1) + n) (span m (drop (i + 1) symbols))) (sym same)))
  where
    drop-item : (xs : List Sym) (k : ℕ) (x : Sym) → k < length xs → drop k xs ≡ get_or xs k x ∷ drop (k + 1) xs
    drop-item xs k x h = drop-cons xs k x h ∙ ap (λ n. get_or xs k x ∷ drop n xs) (sym (add-one k))

-- at most so many trees are wanted after a symbol
pub wanted_after-le : (symbol : Sym) (more : ℕ) → wanted_after symbol more ≤ more + 2
wanted_after-le (Name n) more = omega arith
wanted_after-le (Num z) more = omega arith
wanted_after-le (Day d) more = omega arith
wanted_after-le (Var v) more = omega arith
wanted_after-le Nil more = omega arith
wanted_after-le Cons more = omega arith

-- no symbols are left, and some tree is wanted
pub span-end : (wanted : ℕ) → 0 < wanted → span wanted [] ≡ None
span-end zero some = absurd (omega arith)
span-end (suc more) some = refl
