-- Bodies and atoms that are true where conditions are, and how they are put together.
use Rattle.std.proofs.Common.{◌≡◌, ◌≤◌, ◌<◌, ℕ, ◌+◌, ◌&&◌, ◌||◌, ◌⊎◌, inl, inr, Bool, true, false, not, List, [], ◌∷◌, ◌++◌, map, refl, sym, ap, ◌∙◌, arith, append-nil, append_assoc}
use Rattle.std.proofs.lemmas.Bool.{or_cases, or_left, or_right, and_parts}
use Rattle.le_terms.specs.Program.{form_terms, literals_terms}
use Rattle.le_terms.specs.Tree.{Tree, variable}
use Rattle.le_terms.specs.Variables.{all_occurrences}
use Rattle.le_terms.specs.declared.program.Atom.{Atom}
use Rattle.le_terms.specs.declared.program.Form.TheVariants.{Pos, Neg}
use Rattle.le_terms.specs.declared.program.Literal.{Literal}
use Rattle.le_terms.specs.declared.program.Clause.{Clause}
use Rattle.le_proofs.specs.Goals.{atom_under}
use Rattle.le_clauses.specs.declared.draft.Body.{Body}
use Rattle.le_clauses.specs.Conditions.{Condition, occurring}
use Rattle.le_clauses.specs.Groups.{has, is_outside, shared, own, group_atom, body, literal, branch_clause}
use Rattle.le_clauses.specs.Truth.{for_some, is_body_true, meant}
use Rattle.le_clauses.proofs.ForSome.{In, for_some_alike}
use Rattle.le_clauses.proofs.Sets.{has-append, all_occurrences-append, body_vars, body-append, body_in, SpeakOf, speak-append, speak_wider, IsOf, HeadsIn, heads-append, heads_wider, meant_outside, meant-append}
use Rattle.le_clauses.proofs.GroupLemmas.{Within, AreInside, is_some_body_true, branch_heads, meant_group, has-shared, all_occurrences-variables}

-- a set that has a given set's atoms of templates, and no atom of the groups from one number on and below another
pub record IsClean (set : Atom → Bool) (base from to : ℕ) (env : Atom → Bool) : Type 0 where
  pub templates : (atom : Atom) → atom.pred < base → env atom ≡ set atom
  pub clean : (atom : Atom) → from ≤ atom.pred → atom.pred < to → env atom ≡ false

-- literals that are true where something is so, with the clauses of the groups inside
pub record IsKeptBody (values : List Tree) (set : Atom → Bool) (base from to : ℕ) (vars : List ℕ) (literals : List Literal) (clauses : List Clause) (is_so : (ℕ → Tree) → Bool) : Type 0 where
  pub heads : HeadsIn from to clauses
  pub within : Within vars literals
  pub speak : SpeakOf base from to literals
  pub truth : (env : Atom → Bool) → IsClean set base from to env → (by : ℕ → Tree) → is_body_true (meant values env clauses) by literals ≡ is_so by

-- bodies one of which is
pub record AreKept (values : List Tree) (set : Atom → Bool) (base from to : ℕ) (vars : List ℕ) (bodies : List Body) (clauses : List Clause) (is_so : (ℕ → Tree) → Bool) : Type 0 where
  pub heads : HeadsIn from to clauses
  pub inside : AreInside vars base from to bodies
  pub truth : (env : Atom → Bool) → IsClean set base from to env → (by : ℕ → Tree) → is_some_body_true (meant values env clauses) bodies by ≡ is_so by

-- an atom that is
pub record IsKeptAtom (values : List Tree) (set : Atom → Bool) (base from to : ℕ) (vars : List ℕ) (atom : Atom) (clauses : List Clause) (is_so : (ℕ → Tree) → Bool) : Type 0 where
  pub heads : HeadsIn from to clauses
  pub within : (v : ℕ) → has (all_occurrences atom.args) v ≡ true → has vars v ≡ true
  pub of : IsOf base from to atom.pred
  pub truth : (env : Atom → Bool) → IsClean set base from to env → (by : ℕ → Tree) → meant values env clauses (atom_under by atom) ≡ is_so by

-- what is so alike
pub body_alike : (values : List Tree) (set : Atom → Bool) (base from to : ℕ) (vars : List ℕ) (ls : List Literal) (cs : List Clause) (p q : (ℕ → Tree) → Bool) → ((by : ℕ → Tree) → p by ≡ q by) → IsKeptBody values set base from to vars ls cs p → IsKeptBody values set base from to vars ls cs q
body_alike values set base from to vars ls cs p q h k = record { heads = k.heads; within = k.within; speak = k.speak; truth = λ env clean by. k.truth env clean by ∙ h by }

pub atom_alike : (values : List Tree) (set : Atom → Bool) (base from to : ℕ) (vars : List ℕ) (atom : Atom) (cs : List Clause) (p q : (ℕ → Tree) → Bool) → ((by : ℕ → Tree) → p by ≡ q by) → IsKeptAtom values set base from to vars atom cs p → IsKeptAtom values set base from to vars atom cs q
atom_alike values set base from to vars atom cs p q h k = record { heads = k.heads; within = k.within; of = k.of; truth = λ env clean by. k.truth env clean by ∙ h by }

or_false : (b : Bool) → (b || false) ≡ b
or_false true = refl
or_false false = refl

and_true : (b : Bool) → (b && true) ≡ b
and_true true = refl
and_true false = refl

-- one body is one of one
pub as_bodies : (values : List Tree) (set : Atom → Bool) (base from to : ℕ) (vars : List ℕ) (line : ℕ) (ls : List Literal) (cs : List Clause) (p : (ℕ → Tree) → Bool) → IsKeptBody values set base from to vars ls cs p → AreKept values set base from to vars (body line ls ∷ []) cs p
as_bodies values set base from to vars line ls cs p k = record {
  heads = k.heads;
  inside = (k.within, k.speak, tt);
  truth = λ env clean by. or_false (is_body_true (meant values env cs) by ls) ∙ k.truth env clean by;
}

-- the variables of a single literal
single_within : (vars : List ℕ) (terms : List Tree) → ((v : ℕ) → has (all_occurrences terms) v ≡ true → has vars v ≡ true) → (v : ℕ) → has (all_occurrences (terms ++ [])) v ≡ true → has vars v ≡ true
single_within vars terms h v e = h v (ap (λ ts. has (all_occurrences ts) v) (sym (append-nil terms)) ∙ e)

-- the literal of an atom, and of its negation
pub positive : (values : List Tree) (set : Atom → Bool) (base from to : ℕ) (vars : List ℕ) (line : ℕ) (atom : Atom) (cs : List Clause) (p : (ℕ → Tree) → Bool) → IsKeptAtom values set base from to vars atom cs p → IsKeptBody values set base from to vars (literal line (Pos atom) ∷ []) cs p
positive values set base from to vars line atom cs p k = record {
  heads = k.heads;
  within = single_within vars atom.args k.within;
  speak = (k.of, tt);
  truth = λ env clean by. and_true (meant values env cs (atom_under by atom)) ∙ k.truth env clean by;
}

pub negative : (values : List Tree) (set : Atom → Bool) (base from to : ℕ) (vars : List ℕ) (line : ℕ) (atom : Atom) (cs : List Clause) (p : (ℕ → Tree) → Bool) → IsKeptAtom values set base from to vars atom cs p → IsKeptBody values set base from to vars (literal line (Neg atom) ∷ []) cs (λ by. not (p by))
negative values set base from to vars line atom cs p k = record {
  heads = k.heads;
  within = single_within vars atom.args k.within;
  speak = (k.of, tt);
  truth = λ env clean by. and_true (not (meant values env cs (atom_under by atom))) ∙ ap not (k.truth env clean by);
}

-- a set stays clean after the clauses of other groups
clean_behind : (values : List Tree) (set : Atom → Bool) (base from middle to : ℕ) → base ≤ from → from ≤ middle → middle ≤ to → (cs : List Clause) → HeadsIn middle to cs → (env : Atom → Bool) → IsClean set base from to env → IsClean set base from middle (meant values env cs)
clean_behind values set base from middle to low order high cs heads env clean = record {
  templates = λ atom is_low. meant_outside values env middle to cs atom heads (inl (omega (arith, is_low, low, order))) ∙ clean.templates atom is_low;
  clean = λ atom above below. meant_outside values env middle to cs atom heads (inl below) ∙ clean.clean atom above (omega (arith, below, high));
}

clean_part : (set : Atom → Bool) (base from middle to : ℕ) → from ≤ middle → (env : Atom → Bool) → IsClean set base from to env → IsClean set base middle to env
clean_part set base from middle to order env clean = record {
  templates = clean.templates;
  clean = λ atom above below. clean.clean atom (omega (arith, above, order)) below;
}

apart_from : (base from middle to p : ℕ) → base ≤ from → IsOf base middle to p → (p < from) ⊎ (middle ≤ p)
apart_from base from middle to p low (inl h) = inl (omega (arith, h, low))
apart_from base from middle to p low (inr h) = inr h.0

body_vars-append : (ls ms : List Literal) → body_vars (ls ++ ms) ≡ body_vars ls ++ body_vars ms
body_vars-append [] ms = refl
body_vars-append (l ∷ ls) ms =
    all_occurrences-append (form_terms l.form) (literals_terms (ls ++ ms))
    ∙ ap (λ vs. all_occurrences (form_terms l.form) ++ vs) (body_vars-append ls ms)
    ∙ sym (append_assoc (all_occurrences (form_terms l.form)) (body_vars ls) (body_vars ms))
    ∙ ap (λ vs. vs ++ body_vars ms) (sym (all_occurrences-append (form_terms l.form) (literals_terms ls)))

in_either : (xs ys : List ℕ) (ls ms : List Literal) (v : ℕ) → Within xs ls → Within ys ms → (has (body_vars ls) v ≡ true) ⊎ (has (body_vars ms) v ≡ true) → has (xs ++ ys) v ≡ true
in_either xs ys ls ms v h k (inl e) = has-append xs ys v ∙ or_left (has xs v) (has ys v) (h v e)
in_either xs ys ls ms v h k (inr e) = has-append xs ys v ∙ or_right (has xs v) (has ys v) (k v e)

within_either : (xs ys : List ℕ) (ls ms : List Literal) → Within xs ls → Within ys ms → Within (xs ++ ys) (ls ++ ms)
within_either xs ys ls ms h k v e =
    in_either xs ys ls ms v h k (or_cases (has (body_vars ls) v) (has (body_vars ms) v)
    (sym (has-append (body_vars ls) (body_vars ms) v) ∙ ap (λ vs. has vs v) (sym (body_vars-append ls ms)) ∙ e))

-- the literals of two conditions together, where the groups of the second are numbered after those of the first
pub both : (values : List Tree) (set : Atom → Bool) (base from middle to : ℕ) → base ≤ from → from ≤ middle → middle ≤ to → (xs ys : List ℕ) (ls ms : List Literal) (cs ds : List Clause) (p q : (ℕ → Tree) → Bool)
    → IsKeptBody values set base from middle xs ls cs p → IsKeptBody values set base middle to ys ms ds q → IsKeptBody values set base from to (xs ++ ys) (ls ++ ms) (cs ++ ds) (λ by. p by && q by)
both values set base from middle to low order high xs ys ls ms cs ds p q k l = record {
  heads = heads-append from to cs ds (heads_wider from middle from to cs (omega arith) high k.heads) (heads_wider middle to from to ds order (omega arith) l.heads);
  within = within_either xs ys ls ms k.within l.within;
  speak = speak-append base from to ls ms (speak_wider base from middle from to ls (omega arith) high k.speak) (speak_wider base middle to from to ms order (omega arith) l.speak);
  truth = λ env clean by.
      let behind = meant values env ds in
      ap (λ (s : Atom → Bool). is_body_true s by (ls ++ ms)) (meant-append values env cs ds)
      ∙ body-append (meant values behind cs) by ls ms
      ∙ ap (λ b. b && is_body_true (meant values behind cs) by ms) (k.truth behind (clean_behind values set base from middle to low order high ds l.heads env clean) by)
      ∙ ap (λ b. p by && b)
      (body_in (meant values behind cs) behind by base middle to ms l.speak (λ atom is_of. meant_outside values behind from middle cs atom k.heads (apart_from base from middle to atom.pred low is_of))
      ∙ l.truth env (clean_part set base from middle to order env clean) by);
}

wider_inside : (vars wide : List ℕ) (base from to from2 to2 : ℕ) → from2 ≤ from → to ≤ to2 → ((v : ℕ) → has vars v ≡ true → has wide v ≡ true) → (bs : List Body) → AreInside vars base from to bs → AreInside wide base from2 to2 bs
wider_inside vars wide base from to from2 to2 low high wider [] h = tt
wider_inside vars wide base from to from2 to2 low high wider (b ∷ bs) h = ((λ v e. wider v (h.0 v e)), speak_wider base from to from2 to2 b.literals low high h.1, wider_inside vars wide base from to from2 to2 low high wider bs h.2)

-- bodies speak alike in sets that agree on their predicates
bodies_in : (set other : Atom → Bool) (by : ℕ → Tree) (vars : List ℕ) (base from to : ℕ) (bs : List Body) → AreInside vars base from to bs → ((atom : Atom) → IsOf base from to atom.pred → set atom ≡ other atom) → is_some_body_true set bs by ≡ is_some_body_true other bs by
bodies_in set other by vars base from to [] h same = refl
bodies_in set other by vars base from to (b ∷ bs) h same =
    ap (λ x. x || is_some_body_true set bs by) (body_in set other by base from to b.literals h.1 same)
    ∙ ap (λ x. is_body_true other by b.literals || x) (bodies_in set other by vars base from to bs h.2 same)

-- one body more
pub either : (values : List Tree) (set : Atom → Bool) (base from middle to : ℕ) → base ≤ from → from ≤ middle → middle ≤ to → (xs ys : List ℕ) (line : ℕ) (ls : List Literal) (bs : List Body) (cs ds : List Clause) (p q : (ℕ → Tree) → Bool)
    → IsKeptBody values set base from middle xs ls cs p → AreKept values set base middle to ys bs ds q → AreKept values set base from to (xs ++ ys) (body line ls ∷ bs) (cs ++ ds) (λ by. p by || q by)
either values set base from middle to low order high xs ys line ls bs cs ds p q k l = record {
  heads = heads-append from to cs ds (heads_wider from middle from to cs (omega arith) high k.heads) (heads_wider middle to from to ds order (omega arith) l.heads);
  inside = (
    (λ v e. has-append xs ys v ∙ or_left (has xs v) (has ys v) (k.within v e)),
    speak_wider base from middle from to ls (omega arith) high k.speak,
    wider_inside ys (xs ++ ys) base middle to from to order (omega arith) (λ v e. has-append xs ys v ∙ or_right (has xs v) (has ys v) e) bs l.inside,
  );
  truth = λ env clean by.
      let behind = meant values env ds in
      ap (λ (s : Atom → Bool). is_some_body_true s (body line ls ∷ bs) by) (meant-append values env cs ds)
      ∙ ap (λ b. b || is_some_body_true (meant values behind cs) bs by) (k.truth behind (clean_behind values set base from middle to low order high ds l.heads env clean) by)
      ∙ ap (λ b. p by || b)
      (bodies_in (meant values behind cs) behind by ys base middle to bs l.inside (λ atom is_of. meant_outside values behind from middle cs atom k.heads (apart_from base from middle to atom.pred low is_of))
      ∙ l.truth env (clean_part set base from middle to order env clean) by);
}

shared_within : (rule : List ℕ) (c : Condition) (v : ℕ) → has (all_occurrences (map variable (shared rule c))) v ≡ true → has (occurring c) v ≡ true
shared_within rule c v e =
    (and_parts (is_outside rule c v) (has (occurring c) v) (sym (has-shared rule c v) ∙ ap (λ vs. has vs v) (sym (all_occurrences-variables (shared rule c))) ∙ e)).1

-- The atom of a group, where one of its bodies is true for some values of its own variables.
pub group : (values : List Tree) (x : Tree) → In x values → (set : Atom → Bool) (base pred to : ℕ) → base ≤ pred → pred + 1 ≤ to → (rule : List ℕ) (c : Condition) (bs : List Body) (cs : List Clause) (p : (ℕ → Tree) → Bool)
    → AreKept values set base (pred + 1) to (occurring c) bs cs p
    → IsKeptAtom values set base pred to (occurring c) (group_atom pred (shared rule c)) (map (branch_clause (group_atom pred (shared rule c))) bs ++ cs) (for_some values (own rule c) p)
group values x inside set base pred to low high rule c bs cs p k = record {
  heads = heads-append pred to (map (branch_clause (group_atom pred (shared rule c))) bs) cs
      (heads_wider pred (pred + 1) pred to (map (branch_clause (group_atom pred (shared rule c))) bs) (omega arith) high (branch_heads pred rule c bs))
      (heads_wider (pred + 1) to pred to cs (omega arith) (omega arith) k.heads);
  within = shared_within rule c;
  of = inr (omega arith, omega arith);
  truth = λ env clean by.
      let head = group_atom pred (shared rule c) in
      let behind = meant values env cs in
      ap (λ (s : Atom → Bool). s (atom_under by head)) (meant-append values env (map (branch_clause head) bs) cs)
      ∙ meant_group values x inside behind pred base to low rule c bs by k.inside
      ∙ ap (λ b. for_some values (own rule c) (is_some_body_true behind bs) by || b)
      (meant_outside values env (pred + 1) to cs (atom_under by head) k.heads (inl (omega arith)) ∙ clean.clean (atom_under by head) (omega arith) (omega arith))
      ∙ or_false (for_some values (own rule c) (is_some_body_true behind bs) by)
      ∙ for_some_alike values (own rule c) (is_some_body_true behind bs) p by (k.truth env (clean_part set base pred (pred + 1) to (omega arith) env clean));
}
