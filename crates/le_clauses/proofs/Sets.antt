-- Numbers in lists, and what literals depend on.
use Rattle.std.proofs.Common.{◌≡◌, ◌≤◌, ◌<◌, ℕ, ◌==◌, ◌&&◌, ◌||◌, ◌⊎◌, inl, inr, Bool, true, false, not, cond, List, [], ◌∷◌, ◌++◌, map, filter, refl, sym, ap, ◌∙◌, subst, arith, append_assoc}
use Rattle.std.proofs.lemmas.Bool.{cases_Bool, or_left, or_right, eqb-true, eq-eqb, ne_eqb}
use Rattle.std.proofs.lemmas.List.Folds.{list_any-append}
use Rattle.le_terms.specs.Tree.{Tree, constant, number, date, variable, nil, cell}
use Rattle.le_terms.specs.Variables.{occurrences, all_occurrences, firsts, replaced}
use Rattle.le_terms.specs.Program.{form_atom, form_terms, literals_terms}
use Rattle.le_terms.specs.declared.program.Atom.{Atom}
use Rattle.le_terms.specs.declared.program.Form.{Form}
use Rattle.le_terms.specs.declared.program.Form.TheVariants.{Pos, Neg, Calc, Gather}
use Rattle.le_terms.specs.declared.program.Literal.{Literal}
use Rattle.le_terms.specs.declared.program.Clause.{Clause}
use Rattle.le_proofs.specs.Goals.{atom_under, terms_under}
use Rattle.le_clauses.specs.Groups.{has}
use Rattle.le_clauses.specs.Truth.{is_literal_true, is_body_true, gives, meant}

pub has-append : (xs ys : List ℕ) (v : ℕ) → has (xs ++ ys) v ≡ (has xs v || has ys v)
has-append xs ys v = list_any-append (λ m. m == v) xs ys

filter_step : (p : ℕ → Bool) (x v : ℕ) (xs : List ℕ) → has (filter p xs) v ≡ (p v && has xs v) → (b : Bool) → p x ≡ b → ((x == v) ≡ true) ⊎ ((x == v) ≡ false) → has (cond b (x ∷ filter p xs) (filter p xs)) v ≡ (p v && ((x == v) || has xs v))
filter_step p x v xs ih true is (inl here) =
    ap (λ b. b || has (filter p xs) v) here ∙ sym (ap (λ b. b && ((x == v) || has xs v)) (ap p (sym (eqb-true x v here)) ∙ is) ∙ ap (λ b. b || has xs v) here)
filter_step p x v xs ih true is (inr there) =
    ap (λ b. b || has (filter p xs) v) there ∙ ih ∙ sym (ap (λ b. p v && (b || has xs v)) there)
filter_step p x v xs ih false is (inl here) =
    let not_so : p v ≡ false = ap p (sym (eqb-true x v here)) ∙ is in
    ih ∙ ap (λ b. b && has xs v) not_so ∙ sym (ap (λ b. b && ((x == v) || has xs v)) not_so)
filter_step p x v xs ih false is (inr there) = ih ∙ sym (ap (λ b. p v && (b || has xs v)) there)

pub has-filter : (p : ℕ → Bool) (xs : List ℕ) (v : ℕ) → has (filter p xs) v ≡ (p v && has xs v)
has-filter p [] v = and_false (p v)
  where
    and_false : (b : Bool) → false ≡ (b && false)
    and_false true = refl
    and_false false = refl
has-filter p (x ∷ xs) v = filter_step p x v xs (has-filter p xs v) (p x) refl (cases_Bool (x == v))

firsts_step : (b c : Bool) → (b || (not b && c)) ≡ (b || c)
firsts_step true c = refl
firsts_step false c = refl

pub has-firsts : (xs : List ℕ) (v : ℕ) → has (firsts xs) v ≡ has xs v
has-firsts [] v = refl
has-firsts (x ∷ xs) v =
    ap (λ b. (x == v) || b) (has-filter (λ m. not (x == m)) (firsts xs) v ∙ ap (λ b. not (x == v) && b) (has-firsts xs v))
    ∙ firsts_step (x == v) (has xs v)

-- two assignments agree on these variables
abbrev pub AgreeOn : List ℕ → (ℕ → Tree) → (ℕ → Tree) → Type 0
AgreeOn vars a b = (v : ℕ) → has vars v ≡ true → a v ≡ b v

pub agree_left : (xs ys : List ℕ) (a b : ℕ → Tree) → AgreeOn (xs ++ ys) a b → AgreeOn xs a b
agree_left xs ys a b h = λ v e. h v (has-append xs ys v ∙ or_left (has xs v) (has ys v) e)

pub agree_right : (xs ys : List ℕ) (a b : ℕ → Tree) → AgreeOn (xs ++ ys) a b → AgreeOn ys a b
agree_right xs ys a b h = λ v e. h v (has-append xs ys v ∙ or_right (has xs v) (has ys v) e)

pub replaced_on : (tree : Tree) (a b : ℕ → Tree) → AgreeOn (occurrences tree) a b → replaced a tree ≡ replaced b tree
replaced_on (constant n) a b h = refl
replaced_on (number z) a b h = refl
replaced_on (date d) a b h = refl
replaced_on (variable v) a b h = h v (or_left (v == v) false (eq-eqb v v refl))
replaced_on nil a b h = refl
replaced_on (cell head tail) a b h =
    ap (λ t. cell t (replaced a tail)) (replaced_on head a b (agree_left (occurrences head) (occurrences tail) a b h))
    ∙ ap (cell (replaced b head)) (replaced_on tail a b (agree_right (occurrences head) (occurrences tail) a b h))

pub terms_on : (trees : List Tree) (a b : ℕ → Tree) → AgreeOn (all_occurrences trees) a b → terms_under a trees ≡ terms_under b trees
terms_on [] a b h = refl
terms_on (t ∷ ts) a b h =
    ap (λ u. u ∷ terms_under a ts) (replaced_on t a b (agree_left (occurrences t) (all_occurrences ts) a b h))
    ∙ ap (λ us. replaced b t ∷ us) (terms_on ts a b (agree_right (occurrences t) (all_occurrences ts) a b h))

pub atom_on : (atom : Atom) (a b : ℕ → Tree) → AgreeOn (all_occurrences atom.args) a b → atom_under a atom ≡ atom_under b atom
atom_on atom a b h = ap (λ args. record { pred = atom.pred; args = args }) (terms_on atom.args a b h)

pub literal_on : (set : Atom → Bool) (form : Form) (a b : ℕ → Tree) → AgreeOn (all_occurrences (form_terms form)) a b → is_literal_true set a form ≡ is_literal_true set b form
literal_on set (Pos atom) a b h = ap set (atom_on atom a b h)
literal_on set (Neg atom) a b h = ap (λ t. not (set t)) (atom_on atom a b h)
literal_on set (Calc atom) a b h = ap set (atom_on atom a b h)
literal_on set (Gather fold result value atom) a b h = refl

pub all_occurrences-append : (xs ys : List Tree) → all_occurrences (xs ++ ys) ≡ all_occurrences xs ++ all_occurrences ys
all_occurrences-append [] ys = refl
all_occurrences-append (t ∷ ts) ys = ap (λ vs. occurrences t ++ vs) (all_occurrences-append ts ys) ∙ sym (append_assoc (occurrences t) (all_occurrences ts) (all_occurrences ys))

-- the variables of literals
abbrev pub body_vars : List Literal → List ℕ
body_vars literals = all_occurrences (literals_terms literals)

-- A body's truth depends on its variables alone.
pub body_on : (set : Atom → Bool) (literals : List Literal) (a b : ℕ → Tree) → AgreeOn (body_vars literals) a b → is_body_true set a literals ≡ is_body_true set b literals
body_on set [] a b h = refl
body_on set (l ∷ ls) a b h =
    let terms = form_terms l.form in
    let h2 = subst (λ vs. AgreeOn vs a b) (all_occurrences-append terms (literals_terms ls)) h in
    ap (λ x. x && is_body_true set a ls) (literal_on set l.form a b (agree_left (all_occurrences terms) (body_vars ls) a b h2))
    ∙ ap (λ x. is_literal_true set b l.form && x) (body_on set ls a b (agree_right (all_occurrences terms) (body_vars ls) a b h2))

pub and_assoc : (x y z : Bool) → ((x && y) && z) ≡ (x && (y && z))
and_assoc true y z = refl
and_assoc false y z = refl

-- literals one after another are true where both are
pub body-append : (set : Atom → Bool) (by : ℕ → Tree) (xs ys : List Literal) → is_body_true set by (xs ++ ys) ≡ (is_body_true set by xs && is_body_true set by ys)
body-append set by [] ys = refl
body-append set by (l ∷ ls) ys =
    ap (λ x. is_literal_true set by l.form && x) (body-append set by ls ys)
    ∙ sym (and_assoc (is_literal_true set by l.form) (is_body_true set by ls) (is_body_true set by ys))

-- a predicate of a template, or one of those from one number on and below another
abbrev pub IsOf : ℕ → ℕ → ℕ → ℕ → Type 0
IsOf base from to pred = (pred < base) ⊎ ((from ≤ pred) × (pred < to))

-- literals of such predicates alone
abbrev pub SpeakOf : ℕ → ℕ → ℕ → List Literal → Type 0
SpeakOf base from to [] = Unit {0}
SpeakOf base from to (l ∷ ls) = IsOf base from to (form_atom l.form).pred × SpeakOf base from to ls

pub speak-append : (base from to : ℕ) (xs ys : List Literal) → SpeakOf base from to xs → SpeakOf base from to ys → SpeakOf base from to (xs ++ ys)
speak-append base from to [] ys h k = k
speak-append base from to (l ∷ ls) ys h k = (h.0, speak-append base from to ls ys h.1 k)

pub is_of_wider : (base from to from2 to2 pred : ℕ) → from2 ≤ from → to ≤ to2 → IsOf base from to pred → IsOf base from2 to2 pred
is_of_wider base from to from2 to2 pred low high (inl h) = inl h
is_of_wider base from to from2 to2 pred low high (inr h) = inr (omega (arith, h.0), omega (arith, h.1))

pub speak_wider : (base from to from2 to2 : ℕ) (ls : List Literal) → from2 ≤ from → to ≤ to2 → SpeakOf base from to ls → SpeakOf base from2 to2 ls
speak_wider base from to from2 to2 [] low high h = tt
speak_wider base from to from2 to2 (l ∷ ls) low high h = (is_of_wider base from to from2 to2 (form_atom l.form).pred low high h.0, speak_wider base from to from2 to2 ls low high h.1)

-- two sets agree on the atoms of such predicates
abbrev pub SameOn : ℕ → ℕ → ℕ → (Atom → Bool) → (Atom → Bool) → Type 0
SameOn base from to set other = (atom : Atom) → IsOf base from to atom.pred → set atom ≡ other atom

pub literal_in : (set other : Atom → Bool) (by : ℕ → Tree) (base from to : ℕ) (form : Form) → IsOf base from to (form_atom form).pred → SameOn base from to set other → is_literal_true set by form ≡ is_literal_true other by form
literal_in set other by base from to (Pos atom) is_of same = same (atom_under by atom) is_of
literal_in set other by base from to (Neg atom) is_of same = ap not (same (atom_under by atom) is_of)
literal_in set other by base from to (Calc atom) is_of same = same (atom_under by atom) is_of
literal_in set other by base from to (Gather fold result value atom) is_of same = refl

-- A body's truth depends on the atoms of its predicates alone.
pub body_in : (set other : Atom → Bool) (by : ℕ → Tree) (base from to : ℕ) (ls : List Literal) → SpeakOf base from to ls → SameOn base from to set other → is_body_true set by ls ≡ is_body_true other by ls
body_in set other by base from to [] speak same = refl
body_in set other by base from to (l ∷ ls) speak same =
    ap (λ x. x && is_body_true set by ls) (literal_in set other by base from to l.form speak.0 same)
    ∙ ap (λ x. is_literal_true other by l.form && x) (body_in set other by base from to ls speak.1 same)

-- the arguments of a head are variables
abbrev pub HasVariables : Clause → Type 0
HasVariables c = (vars : List ℕ) × (c.head.args ≡ map variable vars)

-- the heads of clauses are of predicates from one number on and below another, and their arguments are variables
abbrev pub HeadsIn : ℕ → ℕ → List Clause → Type 0
HeadsIn from to [] = Unit {0}
HeadsIn from to (c ∷ cs) = ((from ≤ c.head.pred) × (c.head.pred < to) × HasVariables c) × HeadsIn from to cs

pub heads-append : (from to : ℕ) (xs ys : List Clause) → HeadsIn from to xs → HeadsIn from to ys → HeadsIn from to (xs ++ ys)
heads-append from to [] ys h k = k
heads-append from to (c ∷ cs) ys h k = (h.0, heads-append from to cs ys h.1 k)

pub heads_wider : (from to from2 to2 : ℕ) (cs : List Clause) → from2 ≤ from → to ≤ to2 → HeadsIn from to cs → HeadsIn from2 to2 cs
heads_wider from to from2 to2 [] low high h = tt
heads_wider from to from2 to2 (c ∷ cs) low high h = ((omega (arith, h.0.0), omega (arith, h.0.1), h.0.2), heads_wider from to from2 to2 cs low high h.1)

-- clauses say nothing of the predicates that they haven't
pub meant_outside : (values : List Tree) (set : Atom → Bool) (from to : ℕ) (cs : List Clause) (atom : Atom) → HeadsIn from to cs → (atom.pred < from) ⊎ (to ≤ atom.pred) → meant values set cs atom ≡ set atom
meant_outside values set from to [] atom heads out = refl
meant_outside values set from to (c ∷ cs) atom heads out =
    ap (λ b. (b && gives values (meant values set cs) c atom.args) || meant values set cs atom) (ne_eqb c.head.pred atom.pred (λ same. differs out same))
    ∙ meant_outside values set from to cs atom heads.1 out
  where
    differs : (atom.pred < from) ⊎ (to ≤ atom.pred) → c.head.pred ≡ atom.pred → ⊥
    differs (inl low) same = omega (arith, heads.0.0, low, same)
    differs (inr high) same = omega (arith, heads.0.1, high, same)

-- what clauses mean after others
pub meant-append : (values : List Tree) (set : Atom → Bool) (xs ys : List Clause) → meant values set (xs ++ ys) ≡ meant values (meant values set ys) xs
meant-append values set [] ys = refl
meant-append values set (c ∷ cs) ys = ap (λ (other : Atom → Bool). λ (atom : Atom). ((c.head.pred == atom.pred) && gives values other c atom.args) || other atom) (meant-append values set cs ys)
