-- What the clauses of a group mean.
use Rattle.std.proofs.Common.{◌≡◌, ◌≤◌, ◌<◌, ℕ, ◌+◌, ◌==◌, ◌&&◌, ◌||◌, ◌⊎◌, inl, inr, Bool, true, false, not, List, [], ◌∷◌, map, refl, sym, ap, ◌∙◌, arith}
use Rattle.std.specs.List.{list_any}
use Rattle.std.proofs.lemmas.Bool.{cases_Bool, eqb-true, eq-eqb, true≢false}
use Rattle.le_terms.specs.Tree.{Tree, variable}
use Rattle.le_terms.specs.Variables.{all_occurrences, firsts}
use Rattle.le_terms.specs.declared.program.Atom.{Atom}
use Rattle.le_terms.specs.declared.program.Literal.{Literal}
use Rattle.le_proofs.specs.Goals.{atom_under, terms_under}
use Rattle.le_clauses.specs.declared.draft.Body.{Body}
use Rattle.le_clauses.specs.Conditions.{Condition, occurring}
use Rattle.le_clauses.specs.Groups.{has, is_outside, shared, own, group_atom, branch_clause}
use Rattle.le_clauses.specs.Truth.{with_value, for_some, is_body_true, assigned, others, gives, meant}
use Rattle.le_clauses.proofs.ForSome.{In, value_here, value_there, for_some_alike, for_some_either, for_some_never, for_some_moved}
use Rattle.le_clauses.proofs.Sets.{has-filter, has-firsts, body_vars, body_on, body_in, SpeakOf, IsOf, HeadsIn, meant_outside}

-- the variables of arguments that are variables
pub all_occurrences-variables : (vars : List ℕ) → all_occurrences (map variable vars) ≡ vars
all_occurrences-variables [] = refl
all_occurrences-variables (v ∷ vs) = ap (λ ws. v ∷ ws) (all_occurrences-variables vs)

assigned_step : (u : ℕ) (us : List ℕ) (by : ℕ → Tree) (v : ℕ) → (has us v ≡ true → assigned (map variable us) (terms_under by (map variable us)) v ≡ by v) → ((u == v) || has us v) ≡ true → ((u == v) ≡ true) ⊎ ((u == v) ≡ false) → with_value u (by u) (assigned (map variable us) (terms_under by (map variable us))) v ≡ by v
assigned_step u us by v more e (inl here) = value_here u v (by u) (assigned (map variable us) (terms_under by (map variable us))) here ∙ ap by (eqb-true u v here)
assigned_step u us by v more e (inr there) = value_there u v (by u) (assigned (map variable us) (terms_under by (map variable us))) there ∙ more (sym (ap (λ b. b || has us v) there) ∙ e)

-- arguments are assigned what they are
pub assigned_at : (vars : List ℕ) (by : ℕ → Tree) (v : ℕ) → has vars v ≡ true → assigned (map variable vars) (terms_under by (map variable vars)) v ≡ by v
assigned_at [] by v e = absurd (true≢false (sym e))
assigned_at (u ∷ us) by v e = assigned_step u us by v (assigned_at us by v) e (cases_Bool (u == v))

-- which variables of a group are shared, and which its own
pub has-shared : (rule : List ℕ) (c : Condition) (v : ℕ) → has (shared rule c) v ≡ (is_outside rule c v && has (occurring c) v)
has-shared rule c v = has-filter (is_outside rule c) (firsts (occurring c)) v ∙ ap (λ b. is_outside rule c v && b) (has-firsts (occurring c) v)

pub has-own : (rule : List ℕ) (c : Condition) (v : ℕ) → has (own rule c) v ≡ (not (is_outside rule c v) && has (occurring c) v)
has-own rule c v = has-filter (λ w. not (is_outside rule c w)) (firsts (occurring c)) v ∙ ap (λ b. not (is_outside rule c v) && b) (has-firsts (occurring c) v)

-- the variables of these literals are among these
abbrev pub Within : List ℕ → List Literal → Type 0
Within vars literals = (v : ℕ) → has (body_vars literals) v ≡ true → has vars v ≡ true

and_true : (b : Bool) → (b && true) ≡ b
and_true true = refl
and_true false = refl

head_of : ℕ → List ℕ → Condition → Atom
head_of pred rule c = group_atom pred (shared rule c)

-- the other variables of a group's clause are the group's own ones that its body has
same_variables : (pred : ℕ) (rule : List ℕ) (c : Condition) (b : Body) → Within (occurring c) b.literals → (v : ℕ) → has (body_vars b.literals) v ≡ true → has (others (branch_clause (group_atom pred (shared rule c)) b)) v ≡ has (own rule c) v
same_variables pred rule c b within v is_in =
    has-filter (λ w. not (has (all_occurrences (map variable (shared rule c))) w)) (firsts (body_vars b.literals)) v
    ∙ ap (λ x. not (has (all_occurrences (map variable (shared rule c))) v) && x) (has-firsts (body_vars b.literals) v ∙ is_in)
    ∙ and_true (not (has (all_occurrences (map variable (shared rule c))) v))
    ∙ ap (λ vs. not (has vs v)) (all_occurrences-variables (shared rule c))
    ∙ ap not (has-shared rule c v ∙ ap (λ x. is_outside rule c v && x) (within v is_in) ∙ and_true (is_outside rule c v))
    ∙ sym (has-own rule c v ∙ ap (λ x. not (is_outside rule c v) && x) (within v is_in) ∙ and_true (not (is_outside rule c v)))

not_not : (b : Bool) → not b ≡ false → b ≡ true
not_not true e = refl
not_not false e = absurd (true≢false e)

-- a shared variable keeps its value
same_values : (rule : List ℕ) (c : Condition) (ls : List Literal) (by : ℕ → Tree) → Within (occurring c) ls → (v : ℕ) → has (body_vars ls) v ≡ true → has (own rule c) v ≡ false → assigned (map variable (shared rule c)) (terms_under by (map variable (shared rule c))) v ≡ by v
same_values rule c ls by within v is_in not_own =
    let is_outside : is_outside rule c v ≡ true = not_not (is_outside rule c v) (sym (and_true (not (is_outside rule c v))) ∙ ap (λ x. not (is_outside rule c v) && x) (sym (within v is_in)) ∙ sym (has-own rule c v) ∙ not_own) in
    assigned_at (shared rule c) by v (has-shared rule c v ∙ ap (λ x. x && has (occurring c) v) is_outside ∙ within v is_in)

-- A clause of a group gives the group's atom where its body is true for some values of the group's own variables.
pub gives_branch : (values : List Tree) (x : Tree) → In x values → (set other : Atom → Bool) (pred base to : ℕ) → base ≤ pred → (rule : List ℕ) (c : Condition) (b : Body) (by : ℕ → Tree)
    → Within (occurring c) b.literals → SpeakOf base (pred + 1) to b.literals → ((atom : Atom) → IsOf base (pred + 1) to atom.pred → other atom ≡ set atom)
    → gives values other (branch_clause (group_atom pred (shared rule c)) b) (terms_under by (map variable (shared rule c))) ≡ for_some values (own rule c) (λ a. is_body_true set a b.literals) by
gives_branch values x inside set other pred base to low rule c b by within speak same =
    let clause = branch_clause (group_atom pred (shared rule c)) b in
    let args = map variable (shared rule c) in
    for_some_alike values (others clause) (λ a. is_body_true other a b.literals) (λ a. is_body_true set a b.literals) (assigned args (terms_under by args)) (λ a. body_in other set a base (pred + 1) to b.literals speak same)
    ∙ for_some_moved values x inside (has (body_vars b.literals)) (λ a. is_body_true set a b.literals) (λ a d agree. body_on set b.literals a d agree)
    (others clause) (own rule c) (assigned args (terms_under by args)) by
    (same_variables pred rule c b within)
    (same_values rule c b.literals by within)

-- one of some bodies is true
abbrev pub is_some_body_true : (Atom → Bool) → List Body → (ℕ → Tree) → Bool
is_some_body_true set bodies by = list_any (λ (b : Body). is_body_true set by b.literals) bodies

-- the bodies of a group: their variables are the group's, and they speak of groups inside it
abbrev pub AreInside : List ℕ → ℕ → ℕ → ℕ → List Body → Type 0
AreInside vars base from to [] = Unit {0}
AreInside vars base from to (b ∷ bs) = Within vars b.literals × SpeakOf base from to b.literals × AreInside vars base from to bs

or_assoc : (x y z : Bool) → ((x || y) || z) ≡ (x || (y || z))
or_assoc true y z = refl
or_assoc false y z = refl

pub branch_heads : (pred : ℕ) (rule : List ℕ) (c : Condition) (bs : List Body) → HeadsIn pred (pred + 1) (map (branch_clause (group_atom pred (shared rule c))) bs)
branch_heads pred rule c [] = tt
branch_heads pred rule c (b ∷ bs) = ((omega arith, omega arith, (shared rule c, refl)), branch_heads pred rule c bs)

apart : (base pred to p : ℕ) → base ≤ pred → IsOf base (pred + 1) to p → (p < pred) ⊎ (pred + 1 ≤ p)
apart base pred to p low (inl h) = inl (omega (arith, h, low))
apart base pred to p low (inr h) = inr h.0

-- The atom of a group is true where, for some values of its own variables, one of its bodies is.
pub meant_group : (values : List Tree) (x : Tree) → In x values → (set : Atom → Bool) (pred base to : ℕ) → base ≤ pred → (rule : List ℕ) (c : Condition) (bs : List Body) (by : ℕ → Tree)
    → AreInside (occurring c) base (pred + 1) to bs
    → meant values set (map (branch_clause (group_atom pred (shared rule c))) bs) (atom_under by (group_atom pred (shared rule c))) ≡ (for_some values (own rule c) (is_some_body_true set bs) by || set (atom_under by (group_atom pred (shared rule c))))
meant_group values x inside set pred base to low rule c [] by are_inside =
    sym (ap (λ b. b || set (atom_under by (group_atom pred (shared rule c)))) (for_some_never values (own rule c) by))
meant_group values x inside set pred base to low rule c (b ∷ bs) by are_inside =
    let head = group_atom pred (shared rule c) in
    let more = meant values set (map (branch_clause head) bs) in
    let first = for_some values (own rule c) (λ a. is_body_true set a b.literals) by in
    let rest = for_some values (own rule c) (is_some_body_true set bs) by in
    let at = set (atom_under by head) in
    ap (λ t. (t && gives values more (branch_clause head b) (terms_under by (map variable (shared rule c)))) || more (atom_under by head)) (eq-eqb pred pred refl)
    ∙ ap (λ t. t || more (atom_under by head)) (gives_branch values x inside set more pred base to low rule c b by are_inside.0 are_inside.1
    (λ atom is_of. meant_outside values set pred (pred + 1) (map (branch_clause head) bs) atom (branch_heads pred rule c bs) (apart base pred to atom.pred low is_of)))
    ∙ ap (λ t. first || t) (meant_group values x inside set pred base to low rule c bs by are_inside.2)
    ∙ sym (or_assoc first rest at)
    ∙ sym (ap (λ t. t || at) (for_some_either values (own rule c) (λ a. is_body_true set a b.literals) (is_some_body_true set bs) by))
