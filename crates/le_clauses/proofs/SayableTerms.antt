-- Terms that can be said, with more names and with other numbers of their variables, and the terms of several literals.
use Rattle.std.proofs.Common.{ℕ, suc, ◌==◌, ◌<◌, ◌≤◌, ◌^◌, Bool, true, false, cond, List, [], ◌∷◌, ◌++◌, map, filter, length, sym, ap, subst, ◌∙◌, arith, append_assoc, append-nil, length-append}
use Rattle.std.specs.List.{AllByRecursion}
use Rattle.std.proofs.lemmas.List.{get_or_append_left}
use Rattle.std.proofs.lemmas.Map.Steps.{length-le_from_distinct_below}
use Rattle.le_layout.specs.Written.{IsQuotable}
use Rattle.le_templates.specs.declared.part.Part.{Part}
use Rattle.le_templates.specs.declared.part.Part.TheVariants.{Word, Slot}
use Rattle.le_terms.specs.Tree.{Tree, constant, number, date, variable, nil, cell}
use Rattle.le_terms.specs.Variables.{all_occurrences, firsts, replaced}
use Rattle.le_terms.specs.Program.{HasVariablesBelow}
use Rattle.le_terms.proofs.Few.{firsts-distinct, all-firsts, all-there}
use Rattle.le_proofs.specs.Goals.{terms_under}
use Rattle.le_match.specs.Sayable.{HasTerms, IsTermToSay, AreTermsToSay, Grows}
use Rattle.le_clauses.specs.Groups.{number_in}
use Rattle.le_clauses.specs.Numbers.{by_place}
use Rattle.le_clauses.proofs.Sets.{all_occurrences-append}
use Rattle.le_clauses.proofs.GroupLemmas.{all_occurrences-variables}

-- ---- lists

pub all_both : {X : Type 0} (P : X → Type 0) (xs ys : List X) → AllByRecursion P xs → AllByRecursion P ys → AllByRecursion P (xs ++ ys)
all_both P [] ys h k = k
all_both P (x ∷ xs) ys h k = (h.0, all_both P xs ys h.1 k)

pub all_first : {X : Type 0} (P : X → Type 0) (xs ys : List X) → AllByRecursion P (xs ++ ys) → AllByRecursion P xs
all_first P [] ys h = tt
all_first P (x ∷ xs) ys h = (h.0, all_first P xs ys h.1)

pub all_second : {X : Type 0} (P : X → Type 0) (xs ys : List X) → AllByRecursion P (xs ++ ys) → AllByRecursion P ys
all_second P [] ys h = h
all_second P (x ∷ xs) ys h = all_second P xs ys h.1

pub all_weaker : {X : Type 0} (P Q : X → Type 0) → ((x : X) → P x → Q x) → (xs : List X) → AllByRecursion P xs → AllByRecursion Q xs
all_weaker P Q f [] h = tt
all_weaker P Q f (x ∷ xs) h = (f x h.0, all_weaker P Q f xs h.1)

pub all_kept : {X : Type 0} (P : X → Type 0) (p : X → Bool) (xs : List X) → AllByRecursion P xs → AllByRecursion P (filter p xs)
all_kept P p [] h = tt
all_kept P p (x ∷ xs) h = by (p x) (all_kept P p xs h.1)
  where
    by : (b : Bool) → AllByRecursion P (filter p xs) → AllByRecursion P (cond b (x ∷ filter p xs) (filter p xs))
    by true rest = (h.0, rest)
    by false rest = rest

-- ---- names

term_grown : (names more : List (List ℕ)) (tree : Tree) → IsTermToSay names tree → IsTermToSay (names ++ more) tree
term_grown names more (constant n) h = (omega (arith, length-append names more, h.0), subst IsQuotable (sym (get_or_append_left names more [] n h.0)) h.1)
term_grown names more (number z) h = h
term_grown names more (date d) h = h
term_grown names more (variable v) h = h
term_grown names more nil h = tt
term_grown names more (cell head tail) h = (term_grown names more head h.0, term_grown names more tail h.1)

terms_grown : (names more : List (List ℕ)) (trees : List Tree) → AreTermsToSay names trees → AreTermsToSay (names ++ more) trees
terms_grown names more [] h = tt
terms_grown names more (tree ∷ trees) h = (term_grown names more tree h.0, terms_grown names more trees h.1)

-- terms that can be said can be said with more names
pub terms_more : (before after : List (List ℕ)) → Grows before after → (trees : List Tree) → AreTermsToSay before trees → AreTermsToSay after trees
terms_more before after grows trees h = subst (λ names. AreTermsToSay names trees) (sym grows.1) (terms_grown before grows.0 trees h)

pub grows_none : (names : List (List ℕ)) → Grows names names
grows_none names = ([], sym (append-nil names))

pub grows_then : (names after last : List (List ℕ)) → Grows names after → Grows after last → Grows names last
grows_then names after last g h = (g.0 ++ h.0, h.1 ∙ ap (λ ns. ns ++ h.0) g.1 ∙ append_assoc names g.0 h.0)

-- ---- several terms

pub terms_both : (names : List (List ℕ)) (xs ys : List Tree) → AreTermsToSay names xs → AreTermsToSay names ys → AreTermsToSay names (xs ++ ys)
terms_both names [] ys h k = k
terms_both names (x ∷ xs) ys h k = (h.0, terms_both names xs ys h.1 k)

pub below_both : (n : ℕ) (xs ys : List Tree) → HasVariablesBelow n xs → HasVariablesBelow n ys → HasVariablesBelow n (xs ++ ys)
below_both n xs ys h k = subst (AllByRecursion (λ v. v < n)) (sym (all_occurrences-append xs ys)) (all_both (λ v. v < n) (all_occurrences xs) (all_occurrences ys) h k)

-- ---- numbers of variables

number_within : (us : List ℕ) (v : ℕ) → number_in us v ≤ length us
number_within [] v = omega arith
number_within (u ∷ us) v = by (u == v) (number_within us v)
  where
    by : (b : Bool) → number_in us v ≤ length us → cond b 0 (suc (number_in us v)) ≤ suc (length us)
    by true h = omega arith
    by false h = omega (arith, h)

-- numbers below a bound are at most so many different ones
pub firsts_few : (bound : ℕ) (ns : List ℕ) → AllByRecursion (λ v. v < bound) ns → length (firsts ns) ≤ bound
firsts_few bound ns h =
    length-le_from_distinct_below (firsts ns) bound (firsts-distinct ns)
    (λ q there. all-there (λ v. v < bound) (firsts ns) q (all-firsts (λ v. v < bound) ns h) there)

-- the numbers that variables get are small
pub number_small : (us : List ℕ) → length us ≤ 64 → (v : ℕ) → number_in us v < 2 ^ 32
number_small us few v = omega (arith, few, number_within us v)

term_numbered : (names : List (List ℕ)) (us : List ℕ) → length us ≤ 64 → (tree : Tree) → IsTermToSay names tree → IsTermToSay names (replaced (by_place us) tree)
term_numbered names us few (constant n) h = h
term_numbered names us few (number z) h = h
term_numbered names us few (date d) h = h
term_numbered names us few (variable v) h = number_small us few v
term_numbered names us few nil h = tt
term_numbered names us few (cell head tail) h = (term_numbered names us few head h.0, term_numbered names us few tail h.1)

-- terms that can be said can be said with other numbers of their variables
pub terms_numbered : (names : List (List ℕ)) (us : List ℕ) → length us ≤ 64 → (trees : List Tree) → AreTermsToSay names trees → AreTermsToSay names (terms_under (by_place us) trees)
terms_numbered names us few [] h = tt
terms_numbered names us few (tree ∷ trees) h = (term_numbered names us few tree h.0, terms_numbered names us few trees h.1)

-- there are as many terms as before
pub slots_numbered : (parts : List Part) (by : ℕ → Tree) (trees : List Tree) → HasTerms parts trees → HasTerms parts (terms_under by trees)
slots_numbered [] by [] h = tt
slots_numbered [] by (tree ∷ trees) h = h
slots_numbered (Word w ∷ parts) by [] h = slots_numbered parts by [] h
slots_numbered (Word w ∷ parts) by (tree ∷ trees) h = slots_numbered parts by (tree ∷ trees) h
slots_numbered (Slot s ∷ parts) by [] h = h
slots_numbered (Slot s ∷ parts) by (tree ∷ trees) h = slots_numbered parts by trees h

-- ---- variables as terms

pub variables_said : (names : List (List ℕ)) (vs : List ℕ) → AllByRecursion (λ v. v < 64) vs → AreTermsToSay names (map variable vs)
variables_said names [] h = tt
variables_said names (v ∷ vs) h = (omega (arith, h.0), variables_said names vs h.1)

pub variables_below : (vs : List ℕ) → AllByRecursion (λ v. v < 64) vs → HasVariablesBelow 64 (map variable vs)
variables_below vs h = subst (AllByRecursion (λ v. v < 64)) (sym (all_occurrences-variables vs)) h
