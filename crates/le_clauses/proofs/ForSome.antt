-- Values for variables: what holds for some values of them.
use Rattle.std.proofs.Common.{◌≡◌, ℕ, ◌==◌, ◌&&◌, ◌||◌, ◌⊎◌, inl, inr, Bool, true, false, not, cond, List, [], ◌∷◌, refl, sym, ap, ◌∙◌, subst, ⊎_elim}
use Rattle.std.specs.List.{list_any, list_all}
use Rattle.std.proofs.lemmas.Bool.{cases_Bool, or_cases, or_parts, or_from, or_left, or_right, eqb-true, eq-eqb, true≢false}
use Rattle.le_terms.specs.Tree.{Tree}
use Rattle.le_clauses.specs.Groups.{has}
use Rattle.le_clauses.specs.Truth.{with_value, for_some, for_each}

-- two tests are the same where each is true where the other is
pub same_tests : (x y : Bool) → (x ≡ true → y ≡ true) → (y ≡ true → x ≡ true) → x ≡ y
same_tests true y f g = sym (f refl)
same_tests false true f g = g refl
same_tests false false f g = refl

-- functions that agree everywhere are one
pub same_functions : {X Y : Type 0} {f g : X → Y} → ((x : X) → f x ≡ g x) → f ≡ g
same_functions h = λ i x. h x i

-- a value is one of some values
abbrev pub In : Tree → List Tree → Type 0
In x [] = ⊥
In x (y ∷ ys) = (y ≡ x) ⊎ In x ys

pub picked : (p : Tree → Bool) (values : List Tree) → list_any p values ≡ true → (x : Tree) × In x values × (p x ≡ true)
picked p [] h = absurd (true≢false (sym h))
picked p (y ∷ ys) h = picked_at p y ys (or_cases (p y) (list_any p ys) h) (picked p ys)
  where
    picked_at : (p : Tree → Bool) (y : Tree) (ys : List Tree) → (p y ≡ true) ⊎ (list_any p ys ≡ true) → (list_any p ys ≡ true → (x : Tree) × In x ys × (p x ≡ true)) → (x : Tree) × In x (y ∷ ys) × (p x ≡ true)
    picked_at p y ys (inl first) more = (y, inl refl, first)
    picked_at p y ys (inr later) more = let found = more later in (found.0, inr found.1, found.2)

pub put : (p : Tree → Bool) (values : List Tree) (x : Tree) → In x values → p x ≡ true → list_any p values ≡ true
put p [] x at h = absurd at
put p (y ∷ ys) x (inl same) h = or_left (p y) (list_any p ys) (ap p same ∙ h)
put p (y ∷ ys) x (inr later) h = or_right (p y) (list_any p ys) (put p ys x later h)

-- what `with_value` gives, by the test of its variable
pub value_here : (v w : ℕ) (x : Tree) (by : ℕ → Tree) → (v == w) ≡ true → with_value v x by w ≡ x
value_here v w x by h = ap (λ b. cond b x (by w)) h

pub value_there : (v w : ℕ) (x : Tree) (by : ℕ → Tree) → (v == w) ≡ false → with_value v x by w ≡ by w
value_there v w x by h = ap (λ b. cond b x (by w)) h

-- an assignment that has values for these variables, and agrees with another one on all others
pub record IsChoice (values : List Tree) (vars : List ℕ) (by a : ℕ → Tree) : Type 0 where
  pub chosen : (w : ℕ) → has vars w ≡ true → In (a w) values
  pub kept : (w : ℕ) → has vars w ≡ false → a w ≡ by w

at_chosen : (values : List Tree) (v : ℕ) (vars : List ℕ) (x : Tree) (by a : ℕ → Tree) (w : ℕ) → In x values → IsChoice values vars (with_value v x by) a → ((v == w) ≡ true) ⊎ (has vars w ≡ true) → (has vars w ≡ true) ⊎ (has vars w ≡ false) → In (a w) values
at_chosen values v vars x by a w inside c e (inl later) = c.chosen w later
at_chosen values v vars x by a w inside c (inr later) (inr not_later) = absurd (true≢false (sym later ∙ not_later))
at_chosen values v vars x by a w inside c (inl here) (inr not_later) = subst (λ y. In y values) (sym (c.kept w not_later ∙ value_here v w x by here)) inside

-- something that is so for some values is so for a choice
pub choice_of : (values : List Tree) (vars : List ℕ) (is_so : (ℕ → Tree) → Bool) (by : ℕ → Tree) → for_some values vars is_so by ≡ true → (a : ℕ → Tree) × IsChoice values vars by a × (is_so a ≡ true)
choice_of values [] is_so by h = (by, record { chosen = λ w e. absurd (true≢false (sym e)); kept = λ w e. refl }, h)
choice_of values (v ∷ vars) is_so by h =
    let first = picked (λ x. for_some values vars is_so (with_value v x by)) values h in
    let rest = choice_of values vars is_so (with_value v first.0 by) first.2 in (
      rest.0,
      record {
        chosen = λ w e. at_chosen values v vars first.0 by rest.0 w first.1 rest.1 (or_cases (v == w) (has vars w) e) (cases_Bool (has vars w));
        kept = λ w e. let parts = or_parts (v == w) (has vars w) e in rest.1.kept w parts.1 ∙ value_there v w first.0 by parts.0;
      },
      rest.2,
    )

at_kept : (v : ℕ) (vars : List ℕ) (by a : ℕ → Tree) (w : ℕ) → (has (v ∷ vars) w ≡ false → a w ≡ by w) → has vars w ≡ false → ((v == w) ≡ true) ⊎ ((v == w) ≡ false) → a w ≡ with_value v (a v) by w
at_kept v vars by a w kept e (inl here) = sym (value_here v w (a v) by here ∙ ap a (eqb-true v w here))
at_kept v vars by a w kept e (inr there) = kept (or_from (v == w) (has vars w) there e) ∙ sym (value_there v w (a v) by there)

-- and the other way round
pub from_choice : (values : List Tree) (vars : List ℕ) (is_so : (ℕ → Tree) → Bool) (by a : ℕ → Tree) → IsChoice values vars by a → is_so a ≡ true → for_some values vars is_so by ≡ true
from_choice values [] is_so by a c h = ap is_so (sym (same_functions (λ w. c.kept w refl))) ∙ h
from_choice values (v ∷ vars) is_so by a c h =
    put (λ x. for_some values vars is_so (with_value v x by)) values (a v) (c.chosen v (or_left (v == v) (has vars v) (eq-eqb v v refl)))
    (from_choice values vars is_so (with_value v (a v) by) a
    (record { chosen = λ w e. c.chosen w (or_right (v == w) (has vars w) e); kept = λ w e. at_kept v vars by a w (c.kept w) e (cases_Bool (v == w)) })
    h)

-- what is so everywhere alike is so alike for some values
pub for_some_alike : (values : List Tree) (vars : List ℕ) (p q : (ℕ → Tree) → Bool) (by : ℕ → Tree) → ((a : ℕ → Tree) → p a ≡ q a) → for_some values vars p by ≡ for_some values vars q by
for_some_alike values vars p q by h = ap (λ f. for_some values vars f by) (same_functions h)

-- For some values twice is for some values once.
pub for_some_twice : (values : List Tree) (vars : List ℕ) (p : (ℕ → Tree) → Bool) (by : ℕ → Tree) → for_some values vars (for_some values vars p) by ≡ for_some values vars p by
for_some_twice values vars p by = same_tests (for_some values vars (for_some values vars p) by) (for_some values vars p by)
    (λ h. let outer = choice_of values vars (for_some values vars p) by h in
    let inner = choice_of values vars p outer.0 outer.2 in
    from_choice values vars p by inner.0 (record { chosen = inner.1.chosen; kept = λ w e. inner.1.kept w e ∙ outer.1.kept w e }) inner.2)
    (λ h. let once = choice_of values vars p by h in
    from_choice values vars (for_some values vars p) by once.0 once.1
    (from_choice values vars p once.0 once.0 (record { chosen = once.1.chosen; kept = λ w e. refl }) once.2))

-- One or the other is so for some values where one is, or the other.
pub for_some_either : (values : List Tree) (vars : List ℕ) (p q : (ℕ → Tree) → Bool) (by : ℕ → Tree) → for_some values vars (λ a. p a || q a) by ≡ (for_some values vars p by || for_some values vars q by)
for_some_either values vars p q by = same_tests (for_some values vars (λ a. p a || q a) by) (for_some values vars p by || for_some values vars q by)
    (λ h. let found = choice_of values vars (λ a. p a || q a) by h in
    ⊎_elim
    (λ (one : p found.0 ≡ true). or_left (for_some values vars p by) (for_some values vars q by) (from_choice values vars p by found.0 found.1 one))
    (λ (other : q found.0 ≡ true). or_right (for_some values vars p by) (for_some values vars q by) (from_choice values vars q by found.0 found.1 other))
    (or_cases (p found.0) (q found.0) found.2))
    (λ h. ⊎_elim
    (λ (one : for_some values vars p by ≡ true). let found = choice_of values vars p by one in from_choice values vars (λ a. p a || q a) by found.0 found.1 (or_left (p found.0) (q found.0) found.2))
    (λ (other : for_some values vars q by ≡ true). let found = choice_of values vars q by other in from_choice values vars (λ a. p a || q a) by found.0 found.1 (or_right (p found.0) (q found.0) found.2))
    (or_cases (for_some values vars p by) (for_some values vars q by) h))

-- nothing is so for no values
pub for_some_never : (values : List Tree) (vars : List ℕ) (by : ℕ → Tree) → for_some values vars (λ a. false) by ≡ false
for_some_never values vars by = same_tests (for_some values vars (λ a. false) by) false
    (λ h. (choice_of values vars (λ a. false) by h).2)
    (λ h. absurd (true≢false (sym h)))

-- a test that depends on these variables alone
abbrev pub DependsOn : (ℕ → Bool) → ((ℕ → Tree) → Bool) → Type 0
DependsOn on p = (a b : ℕ → Tree) → ((v : ℕ) → on v ≡ true → a v ≡ b v) → p a ≡ p b

-- the assignment that takes a choice's values for its variables, any value for further ones, and is another one elsewhere
moved : Tree → List ℕ → List ℕ → (ℕ → Tree) → (ℕ → Tree) → ℕ → Tree
moved x vars wanted a other w = cond (has wanted w) (cond (has vars w) (a w) x) (other w)

one_inside : (values : List Tree) (x : Tree) → In x values → (b : Bool) (t : Tree) → (b ≡ true → In t values) → In (cond b t x) values
one_inside values x inside true t h = h refl
one_inside values x inside false t h = inside

at_move : (values : List Tree) (x : Tree) (vars wanted : List ℕ) (by other a : ℕ → Tree) (v : ℕ) → has vars v ≡ has wanted v → (has wanted v ≡ false → by v ≡ other v) → (has vars v ≡ false → a v ≡ by v) → (has wanted v ≡ true) ⊎ (has wanted v ≡ false) → moved x vars wanted a other v ≡ a v
unfolding moved
at_move values x vars wanted by other a v same agree kept (inl is_wanted) =
    ap (λ b. cond b (cond (has vars v) (a v) x) (other v)) is_wanted ∙ ap (λ b. cond b (a v) x) (same ∙ is_wanted)
at_move values x vars wanted by other a v same agree kept (inr not_wanted) =
    ap (λ b. cond b (cond (has vars v) (a v) x) (other v)) not_wanted ∙ sym (kept (same ∙ not_wanted) ∙ agree not_wanted)

-- What depends on some variables is so for some values of these variables where it is so for some values of those, if both have the same among the variables that it depends on and the assignments agree on the others: V isn't empty.
move_choice : (values : List Tree) (x : Tree) → In x values → (on : ℕ → Bool) (p : (ℕ → Tree) → Bool) → DependsOn on p → (vars wanted : List ℕ) (by other : ℕ → Tree)
    → ((v : ℕ) → on v ≡ true → has vars v ≡ has wanted v) → ((v : ℕ) → on v ≡ true → has wanted v ≡ false → by v ≡ other v)
    → for_some values vars p by ≡ true → for_some values wanted p other ≡ true
unfolding moved
move_choice values x inside on p depends vars wanted by other same agree h =
    let found = choice_of values vars p by h in
    let a = found.0 in
    from_choice values wanted p other (moved x vars wanted a other)
    (record {
      chosen = λ w e. subst (λ t. In t values) (sym (ap (λ b. cond b (cond (has vars w) (a w) x) (other w)) e)) (one_inside values x inside (has vars w) (a w) (λ e2. found.1.chosen w e2));
      kept = λ w e. ap (λ b. cond b (cond (has vars w) (a w) x) (other w)) e;
    })
    (depends (moved x vars wanted a other) a (λ v is_on. at_move values x vars wanted by other a v (same v is_on) (agree v is_on) (found.1.kept v) (cases_Bool (has wanted v))) ∙ found.2)

-- both ways
pub for_some_moved : (values : List Tree) (x : Tree) → In x values → (on : ℕ → Bool) (p : (ℕ → Tree) → Bool) → DependsOn on p → (vars wanted : List ℕ) (by other : ℕ → Tree)
    → ((v : ℕ) → on v ≡ true → has vars v ≡ has wanted v) → ((v : ℕ) → on v ≡ true → has wanted v ≡ false → by v ≡ other v)
    → for_some values vars p by ≡ for_some values wanted p other
for_some_moved values x inside on p depends vars wanted by other same agree = same_tests (for_some values vars p by) (for_some values wanted p other)
    (move_choice values x inside on p depends vars wanted by other same agree)
    (move_choice values x inside on p depends wanted vars other by (λ v is_on. sym (same v is_on)) (λ v is_on e. sym (agree v is_on (sym (same v is_on) ∙ e))))

not_each : (p : Tree → Bool) (values : List Tree) → list_all (λ x. not (p x)) values ≡ not (list_any p values)
not_each p [] = refl
not_each p (y ∷ ys) = ap (λ b. not (p y) && b) (not_each p ys) ∙ and_not (p y) (list_any p ys)
  where
    and_not : (x y : Bool) → (not x && not y) ≡ not (x || y)
    and_not true y = refl
    and_not false y = refl

-- something is so for all values where its opposite is so for none
pub for_each_not : (values : List Tree) (vars : List ℕ) (p : (ℕ → Tree) → Bool) (by : ℕ → Tree) → for_each values vars (λ a. not (p a)) by ≡ not (for_some values vars p by)
for_each_not values [] p by = refl
for_each_not values (v ∷ vars) p by =
    ap (λ f. list_all f values) (same_functions {f = λ x. for_each values vars (λ a. not (p a)) (with_value v x by)} {g = λ x. not (for_some values vars p (with_value v x by))} (λ x. for_each_not values vars p (with_value v x by)))
    ∙ not_each (λ x. for_some values vars p (with_value v x by)) values
