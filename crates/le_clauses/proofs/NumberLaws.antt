-- Numbering the variables of clauses anew changes nothing of what they mean.
use Rattle.std.proofs.Common.{◌≡◌, ℕ, suc, ◌==◌, ◌&&◌, ◌||◌, ◌⊎◌, inl, inr, Bool, true, false, not, cond, List, [], ◌∷◌, ◌++◌, map, refl, sym, ap, ◌∙◌, subst}
use Rattle.std.proofs.lemmas.Bool.{cases_Bool, or_cases, or_left, or_right, and_parts, eqb-true, eq-eqb, true≢false}
use Rattle.le_terms.specs.Tree.{Tree, constant, number, date, variable, nil, cell}
use Rattle.le_terms.specs.Variables.{occurrences, all_occurrences, firsts, replaced, all_variables}
use Rattle.le_terms.specs.Program.{form_terms, literals_terms, clause_terms}
use Rattle.le_terms.specs.declared.program.Atom.{Atom}
use Rattle.le_terms.specs.declared.program.Form.{Form}
use Rattle.le_terms.specs.declared.program.Form.TheVariants.{Pos, Neg, Calc, Gather}
use Rattle.le_terms.specs.declared.program.Literal.{Literal}
use Rattle.le_terms.specs.declared.program.Clause.{Clause}
use Rattle.le_proofs.specs.Goals.{atom_under, terms_under, form_under, literals_under}
use Rattle.le_clauses.specs.Groups.{has, number_in, numbered, at_place}
use Rattle.le_clauses.specs.Truth.{for_some, is_literal_true, is_body_true, assigned, others, gives, meant}
use Rattle.le_clauses.proofs.ForSome.{same_tests, same_functions, In, IsChoice, choice_of, from_choice}
use Rattle.le_clauses.proofs.Sets.{has-append, has-filter, has-firsts, body_vars, body_on, all_occurrences-append, HeadsIn}
use Rattle.le_clauses.proofs.GroupLemmas.{all_occurrences-variables}

place_step : (u : ℕ) (us : List ℕ) (v : ℕ) → (has us v ≡ true → at_place us (number_in us v) ≡ v) → ((u == v) || has us v) ≡ true → ((u == v) ≡ true) ⊎ ((u == v) ≡ false) → at_place (u ∷ us) (number_in (u ∷ us) v) ≡ v
place_step u us v further e (inl here) = ap (λ b. at_place (u ∷ us) (cond b 0 (suc (number_in us v)))) here ∙ eqb-true u v here
place_step u us v further e (inr there) = ap (λ b. at_place (u ∷ us) (cond b 0 (suc (number_in us v)))) there ∙ further (sym (ap (λ b. b || has us v) there) ∙ e)

-- a number stands at its place
at_number : (us : List ℕ) (v : ℕ) → has us v ≡ true → at_place us (number_in us v) ≡ v
at_number [] v e = absurd (true≢false (sym e))
at_number (u ∷ us) v e = place_step u us v (at_number us v) e (cases_Bool (u == v))

-- so two numbers of a list have two places
apart_numbers : (us : List ℕ) (v w : ℕ) → has us v ≡ true → has us w ≡ true → (number_in us v == number_in us w) ≡ (v == w)
apart_numbers us v w in_v in_w = same_tests (number_in us v == number_in us w) (v == w)
    (λ h. eq-eqb v w (sym (at_number us v in_v) ∙ ap (at_place us) (eqb-true (number_in us v) (number_in us w) h) ∙ at_number us w in_w))
    (λ h. eq-eqb (number_in us v) (number_in us w) (ap (number_in us) (eqb-true v w h)))

-- numbers that stand among others
abbrev pub Among : List ℕ → List ℕ → Type 0
Among us vs = (v : ℕ) → has vs v ≡ true → has us v ≡ true

-- a number is among some exactly where its place is among theirs
has_places : (us vs : List ℕ) (v : ℕ) → Among us vs → has us v ≡ true → has (map (number_in us) vs) (number_in us v) ≡ has vs v
has_places us [] v among in_v = refl
has_places us (w ∷ vs) v among in_v =
    ap (λ b. b || has (map (number_in us) vs) (number_in us v)) (apart_numbers us w v (among w (or_left (w == w) (has vs w) (eq-eqb w w refl))) in_v)
    ∙ ap (λ b. (w == v) || b) (has_places us vs v (λ x e. among x (or_right (w == x) (has vs x) e)) in_v)

-- a place among those of some numbers is the place of one of them
place_from : (us vs : List ℕ) (k : ℕ) → has (map (number_in us) vs) k ≡ true → (v : ℕ) × (has vs v ≡ true) × (number_in us v ≡ k)
place_from us [] k e = absurd (true≢false (sym e))
place_from us (w ∷ vs) k e = by_case us w vs k (or_cases (number_in us w == k) (has (map (number_in us) vs) k) e) (λ h. place_from us vs k h)
  where
    by_case : (us : List ℕ) (w : ℕ) (vs : List ℕ) (k : ℕ) → ((number_in us w == k) ≡ true) ⊎ (has (map (number_in us) vs) k ≡ true) → (has (map (number_in us) vs) k ≡ true → (v : ℕ) × (has vs v ≡ true) × (number_in us v ≡ k)) → (v : ℕ) × (has (w ∷ vs) v ≡ true) × (number_in us v ≡ k)
    by_case us w vs k (inl here) further = (w, or_left (w == w) (has vs w) (eq-eqb w w refl), eqb-true (number_in us w) k here)
    by_case us w vs k (inr later) further = let found = further later in (found.0, or_right (w == found.0) (has vs found.0) found.1, found.2)

-- variables with other numbers
abbrev renamed : (ℕ → ℕ) → ℕ → Tree
renamed n v = variable (n v)

map-append : (n : ℕ → ℕ) (xs ys : List ℕ) → map n (xs ++ ys) ≡ map n xs ++ map n ys
map-append n [] ys = refl
map-append n (x ∷ xs) ys = ap (λ zs. n x ∷ zs) (map-append n xs ys)

occurrences_renamed : (n : ℕ → ℕ) (tree : Tree) → occurrences (replaced (renamed n) tree) ≡ map n (occurrences tree)
occurrences_renamed n (constant k) = refl
occurrences_renamed n (number z) = refl
occurrences_renamed n (date d) = refl
occurrences_renamed n (variable v) = refl
occurrences_renamed n nil = refl
occurrences_renamed n (cell head tail) =
    ap (λ xs. xs ++ occurrences (replaced (renamed n) tail)) (occurrences_renamed n head)
    ∙ ap (λ xs. map n (occurrences head) ++ xs) (occurrences_renamed n tail)
    ∙ sym (map-append n (occurrences head) (occurrences tail))

terms_renamed : (n : ℕ → ℕ) (trees : List Tree) → all_occurrences (terms_under (renamed n) trees) ≡ map n (all_occurrences trees)
terms_renamed n [] = refl
terms_renamed n (t ∷ ts) =
    ap (λ xs. xs ++ all_occurrences (terms_under (renamed n) ts)) (occurrences_renamed n t)
    ∙ ap (λ xs. map n (occurrences t) ++ xs) (terms_renamed n ts)
    ∙ sym (map-append n (occurrences t) (all_occurrences ts))

form_renamed : (n : ℕ → ℕ) (form : Form) → form_terms (form_under (renamed n) form) ≡ terms_under (renamed n) (form_terms form)
form_renamed n (Pos atom) = refl
form_renamed n (Neg atom) = refl
form_renamed n (Calc atom) = refl
form_renamed n (Gather fold result value atom) = refl

body_renamed : (n : ℕ → ℕ) (ls : List Literal) → body_vars (literals_under (renamed n) ls) ≡ map n (body_vars ls)
body_renamed n [] = refl
body_renamed n (l ∷ ls) =
    all_occurrences-append (form_terms (form_under (renamed n) l.form)) (literals_terms (literals_under (renamed n) ls))
    ∙ ap (λ xs. xs ++ body_vars (literals_under (renamed n) ls)) (ap all_occurrences (form_renamed n l.form) ∙ terms_renamed n (form_terms l.form))
    ∙ ap (λ xs. map n (all_occurrences (form_terms l.form)) ++ xs) (body_renamed n ls)
    ∙ sym (map-append n (all_occurrences (form_terms l.form)) (body_vars ls))
    ∙ ap (map n) (sym (all_occurrences-append (form_terms l.form) (literals_terms ls)))

-- values after other numbers
replaced_renamed : (n : ℕ → ℕ) (a : ℕ → Tree) (tree : Tree) → replaced a (replaced (renamed n) tree) ≡ replaced (λ v. a (n v)) tree
replaced_renamed n a (constant k) = refl
replaced_renamed n a (number z) = refl
replaced_renamed n a (date d) = refl
replaced_renamed n a (variable v) = refl
replaced_renamed n a nil = refl
replaced_renamed n a (cell head tail) = ap (λ t. cell t (replaced a (replaced (renamed n) tail))) (replaced_renamed n a head) ∙ ap (cell (replaced (λ v. a (n v)) head)) (replaced_renamed n a tail)

terms_values : (n : ℕ → ℕ) (a : ℕ → Tree) (trees : List Tree) → terms_under a (terms_under (renamed n) trees) ≡ terms_under (λ v. a (n v)) trees
terms_values n a [] = refl
terms_values n a (t ∷ ts) = ap (λ u. u ∷ terms_under a (terms_under (renamed n) ts)) (replaced_renamed n a t) ∙ ap (λ us. replaced (λ v. a (n v)) t ∷ us) (terms_values n a ts)

atom_values : (n : ℕ → ℕ) (a : ℕ → Tree) (atom : Atom) → atom_under a (atom_under (renamed n) atom) ≡ atom_under (λ v. a (n v)) atom
atom_values n a atom = ap (λ args. record { pred = atom.pred; args = args }) (terms_values n a atom.args)

literal_values : (set : Atom → Bool) (n : ℕ → ℕ) (a : ℕ → Tree) (form : Form) → is_literal_true set a (form_under (renamed n) form) ≡ is_literal_true set (λ v. a (n v)) form
literal_values set n a (Pos atom) = ap set (atom_values n a atom)
literal_values set n a (Neg atom) = ap (λ t. not (set t)) (atom_values n a atom)
literal_values set n a (Calc atom) = ap set (atom_values n a atom)
literal_values set n a (Gather fold result value atom) = refl

pub body_values : (set : Atom → Bool) (n : ℕ → ℕ) (a : ℕ → Tree) (ls : List Literal) → is_body_true set a (literals_under (renamed n) ls) ≡ is_body_true set (λ v. a (n v)) ls
body_values set n a [] = refl
body_values set n a (l ∷ ls) = ap (λ b. b && is_body_true set a (literals_under (renamed n) ls)) (literal_values set n a l.form) ∙ ap (λ b. is_literal_true set (λ v. a (n v)) l.form && b) (body_values set n a ls)

-- arguments at other numbers are assigned the same values
assigned_renamed : (us hs : List ℕ) (args : List Tree) (v : ℕ) → Among us hs → has us v ≡ true → assigned (terms_under (renamed (number_in us)) (map variable hs)) args (number_in us v) ≡ assigned (map variable hs) args v
assigned_renamed us [] args v among in_v = refl
assigned_renamed us (h ∷ hs) [] v among in_v = refl
assigned_renamed us (h ∷ hs) (t ∷ ts) v among in_v =
    ap (λ b. cond b t (assigned (terms_under (renamed (number_in us)) (map variable hs)) ts (number_in us v))) (apart_numbers us h v (among h (or_left (h == h) (has hs h) (eq-eqb h h refl))) in_v)
    ∙ ap (λ x. cond (h == v) t x) (assigned_renamed us hs ts v (λ x e. among x (or_right (h == x) (has hs x) e)) in_v)

-- a body that is true for some values of these variables is true at other numbers for some values of theirs
module _ (values : List Tree) (set : Atom → Bool) (us own owned : List ℕ) (ls : List Literal) (base moved : ℕ → Tree)
    (among : Among us (body_vars ls))
    (same : (v : ℕ) → has us v ≡ true → has owned (number_in us v) ≡ has own v)
    (own_in : (v : ℕ) → has own v ≡ true → has (body_vars ls) v ≡ true)
    (owned_in : (k : ℕ) → has owned k ≡ true → has (map (number_in us) (body_vars ls)) k ≡ true)
    (values_same : (v : ℕ) → has us v ≡ true → moved (number_in us v) ≡ base v) where
  back : (ℕ → Tree) → ℕ → Tree
  back a v = cond (has own v) (a (number_in us v)) (base v)

  forth : (ℕ → Tree) → ℕ → Tree
  forth a k = cond (has owned k) (a (at_place us k)) (moved k)

  back_agrees : (a : ℕ → Tree) → IsChoice values owned moved a → (v : ℕ) → has us v ≡ true → (has own v ≡ true) ⊎ (has own v ≡ false) → back a v ≡ a (number_in us v)
  unfolding back
  back_agrees a c v in_v (inl e) = ap (λ b. cond b (a (number_in us v)) (base v)) e
  back_agrees a c v in_v (inr e) = ap (λ b. cond b (a (number_in us v)) (base v)) e ∙ sym (c.kept (number_in us v) (same v in_v ∙ e) ∙ values_same v in_v)

  forth_agrees : (a : ℕ → Tree) → IsChoice values own base a → (v : ℕ) → has us v ≡ true → (has own v ≡ true) ⊎ (has own v ≡ false) → forth a (number_in us v) ≡ a v
  unfolding forth
  forth_agrees a c v in_v (inl e) = ap (λ b. cond b (a (at_place us (number_in us v))) (moved (number_in us v))) (same v in_v ∙ e) ∙ ap a (at_number us v in_v)
  forth_agrees a c v in_v (inr e) = ap (λ b. cond b (a (at_place us (number_in us v))) (moved (number_in us v))) (same v in_v ∙ e) ∙ values_same v in_v ∙ sym (c.kept v e)

  forth_chosen : (a : ℕ → Tree) → IsChoice values own base a → (k : ℕ) → has owned k ≡ true → In (forth a k) values
  unfolding forth
  forth_chosen a c k e =
      let found = place_from us (body_vars ls) k (owned_in k e) in
      let in_v = among found.0 found.1 in
      subst (λ t. In t values) (sym (ap (λ b. cond b (a (at_place us k)) (moved k)) e ∙ ap a (ap (at_place us) (sym found.2) ∙ at_number us found.0 in_v)))
      (c.chosen found.0 (sym (same found.0 in_v) ∙ ap (has owned) found.2 ∙ e))

  for_some_renamed : for_some values owned (λ a. is_body_true set a (literals_under (renamed (number_in us)) ls)) moved ≡ for_some values own (λ a. is_body_true set a ls) base
  unfolding back forth
  for_some_renamed = same_tests (for_some values owned (λ a. is_body_true set a (literals_under (renamed (number_in us)) ls)) moved) (for_some values own (λ a. is_body_true set a ls) base)
      (λ h. let found = choice_of values owned (λ a. is_body_true set a (literals_under (renamed (number_in us)) ls)) moved h in
      from_choice values own (λ a. is_body_true set a ls) base (back found.0)
      (record {
        chosen = λ w e. subst (λ t. In t values) (sym (ap (λ b. cond b (found.0 (number_in us w)) (base w)) e)) (found.1.chosen (number_in us w) (same w (among w (own_in w e)) ∙ e));
        kept = λ w e. ap (λ b. cond b (found.0 (number_in us w)) (base w)) e;
      })
      (body_on set ls (back found.0) (λ v. found.0 (number_in us v)) (λ v e. back_agrees found.0 found.1 v (among v e) (cases_Bool (has own v)))
      ∙ sym (body_values set (number_in us) found.0 ls) ∙ found.2))
      (λ h. let found = choice_of values own (λ a. is_body_true set a ls) base h in
      from_choice values owned (λ a. is_body_true set a (literals_under (renamed (number_in us)) ls)) moved (forth found.0)
      (record {
        chosen = λ k e. forth_chosen found.0 found.1 k e;
        kept = λ k e. ap (λ b. cond b (found.0 (at_place us k)) (moved k)) e;
      })
      (body_values set (number_in us) (forth found.0) ls
      ∙ body_on set ls (λ v. forth found.0 (number_in us v)) found.0 (λ v e. forth_agrees found.0 found.1 v (among v e) (cases_Bool (has own v)))
      ∙ found.2))

-- the variables of a clause
unfoldable pub clause_vars : Clause → List ℕ
clause_vars c = all_variables (clause_terms c)

in_clause : (c : Clause) (v : ℕ) → has (clause_vars c) v ≡ (has (all_occurrences c.head.args) v || has (body_vars c.body) v)
unfolding clause_vars
in_clause c v =
    has-firsts (all_occurrences (clause_terms c)) v
    ∙ ap (λ xs. has xs v) (all_occurrences-append c.head.args (literals_terms c.body))
    ∙ has-append (all_occurrences c.head.args) (body_vars c.body) v

has-others : (c : Clause) (v : ℕ) → has (others c) v ≡ (not (has (all_occurrences c.head.args) v) && has (body_vars c.body) v)
has-others c v = has-filter (λ w. not (has (all_occurrences c.head.args) w)) (firsts (body_vars c.body)) v ∙ ap (λ b. not (has (all_occurrences c.head.args) v) && b) (has-firsts (body_vars c.body) v)

-- A clause numbered anew gives what it gave.
gives_numbered : (values : List Tree) (set : Atom → Bool) (c : Clause) (vars : List ℕ) → c.head.args ≡ map variable vars → (args : List Tree) → gives values set (numbered c) args ≡ gives values set c args
unfolding clause_vars
gives_numbered values set c vars e args =
    let us = clause_vars c in
    let n = number_in us in
    let head_in : Among us (all_occurrences c.head.args) = λ v h. in_clause c v ∙ or_left (has (all_occurrences c.head.args) v) (has (body_vars c.body) v) h in
    let body_in_vars : Among us (body_vars c.body) = λ v h. in_clause c v ∙ or_right (has (all_occurrences c.head.args) v) (has (body_vars c.body) v) h in
    let vars_in : Among us vars = λ v h. head_in v (ap (λ xs. has (all_occurrences xs) v) e ∙ ap (λ xs. has xs v) (all_occurrences-variables vars) ∙ h) in
    for_some_renamed values set us (others c) (others (numbered c)) c.body (assigned c.head.args args) (assigned (terms_under (renamed n) c.head.args) args)
    body_in_vars
    (λ v in_v. has-others (numbered c) (n v)
    ∙ ap (λ xs. not (has xs (n v)) && has (body_vars (literals_under (renamed n) c.body)) (n v)) (terms_renamed n c.head.args)
    ∙ ap (λ xs. not (has (map n (all_occurrences c.head.args)) (n v)) && has xs (n v)) (body_renamed n c.body)
    ∙ ap (λ b. not b && has (map n (body_vars c.body)) (n v)) (has_places us (all_occurrences c.head.args) v head_in in_v)
    ∙ ap (λ b. not (has (all_occurrences c.head.args) v) && b) (has_places us (body_vars c.body) v body_in_vars in_v)
    ∙ sym (has-others c v))
    (λ v h. (and_parts (not (has (all_occurrences c.head.args) v)) (has (body_vars c.body) v) (sym (has-others c v) ∙ h)).1)
    (λ k h. ap (λ xs. has xs k) (sym (body_renamed n c.body)) ∙ (and_parts (not (has (all_occurrences (terms_under (renamed n) c.head.args)) k)) (has (body_vars (literals_under (renamed n) c.body)) k) (sym (has-others (numbered c) k) ∙ h)).1)
    (λ v in_v. ap (λ xs. assigned (terms_under (renamed n) xs) args (n v)) e ∙ assigned_renamed us vars args v vars_in in_v ∙ sym (ap (λ xs. assigned xs args v) e))

-- Clauses numbered anew mean what they meant.
pub meant_numbered : (values : List Tree) (set : Atom → Bool) (from to : ℕ) (cs : List Clause) → HeadsIn from to cs → meant values set (map numbered cs) ≡ meant values set cs
meant_numbered values set from to [] heads = refl
meant_numbered values set from to (c ∷ cs) heads =
    ap (λ (other : Atom → Bool). λ (atom : Atom). ((c.head.pred == atom.pred) && gives values other (numbered c) atom.args) || other atom) (meant_numbered values set from to cs heads.1)
    ∙ same_functions (λ (atom : Atom). ap (λ b. ((c.head.pred == atom.pred) && b) || meant values set cs atom) (gives_numbered values (meant values set cs) c heads.0.2.0 heads.0.2.1 atom.args))

-- Literals whose variables are numbered by their places among some are true where they were.
pub literals_numbered : (set : Atom → Bool) (us : List ℕ) (ls : List Literal) (by : ℕ → Tree) → Among us (body_vars ls) → is_body_true set (λ k. by (at_place us k)) (literals_under (λ v. variable (number_in us v)) ls) ≡ is_body_true set by ls
literals_numbered set us ls by among =
    body_values set (number_in us) (λ k. by (at_place us k)) ls
    ∙ body_on set ls (λ v. by (at_place us (number_in us v))) by (λ v h. ap by (at_number us v (among v h)))

-- The body of a clause numbered anew is true where its body was.
pub body_numbered : (set : Atom → Bool) (c : Clause) (by : ℕ → Tree) → is_body_true set (λ k. by (at_place (clause_vars c) k)) (numbered c).body ≡ is_body_true set by c.body
unfolding clause_vars
body_numbered set c by = literals_numbered set (clause_vars c) c.body by (λ v h. in_clause c v ∙ or_right (has (all_occurrences c.head.args) v) (has (body_vars c.body) v) h)
