-- The values of an answer's certificate are its leaf's terms, with the variables numbered over these terms alone.
use Rattle.std.proofs.Common.{◌≡◌, ℕ, suc, ◌+◌, ◌*◌, ◌<◌, ◌≤◌, ◌==◌, ◌||◌, Bool, true, false, cond, not, List, [], ◌∷◌, ◌++◌, filter, length, length-append, append-nil, Some, None, refl, sym, ap, subst, ◌∙◌, true≢false, arith}
use Rattle.std.specs.Prelude.{nat_lt, ◌/◌}
use Rattle.std.specs.List.{AllByRecursion, prefix_len}
use Rattle.std.proofs.Math.Nat.{mul-add-div_right, div-eq_of_lt}
use Rattle.std.proofs.lemmas.Bool.{lt-ltb}
use Rattle.std.proofs.lemmas.Bool.Decides.{Decides-eqb}
use Rattle.le_terms.specs.Tree.{Tree, variable}
use Rattle.le_terms.specs.Variables.{all_occurrences, replaced, firsts, place_in, place_after, canonical_of}
use Rattle.le_terms.specs.Program.{IsProgram}
use Rattle.le_terms.specs.declared.program.Program.{Program}
use Rattle.le_proofs.specs.Goals.{terms_under}
use Rattle.le_proofs.specs.Proofs.{Leaf, packed}
use Rattle.le_proofs.specs.Derivations.{Certificate, nodes_terms, numbered, numbered_over, told_apart, scoped, times, proofs_nodes, certificate, certificate_of}
use Rattle.le_proofs.specs.declared.node.Node.{Node}
use Rattle.le_proofs.specs.Lloyd.{Admits}
use Rattle.le_proofs.specs.Search.{answers_of}
use Rattle.le_proofs.proofs.Alls.{all-weaken}
use Rattle.le_proofs.proofs.Answers.{answers-admitted}
use Rattle.le_proofs.proofs.Below.{all_occurrences-append}
use Rattle.le_proofs.proofs.Numbering.{Fixed, numbered-over-same}
use Rattle.le_proofs.proofs.Variants.{terms-there}

-- a number is one of some numbers
abbrev is_there : ℕ → List ℕ → Bool
is_there v [] = false
is_there v (m ∷ ms) = (v == m) || is_there v ms

or-right : (a b : Bool) → b ≡ true → (a || b) ≡ true
or-right true b h = refl
or-right false b h = h

-- each of some numbers is one of them
all-there : (ms : List ℕ) → AllByRecursion (λ v. is_there v ms ≡ true) ms
all-there [] = tt
all-there (m ∷ ms) =
    (ap (λ b. b || is_there m ms) ((Decides-eqb m m).1 refl), all-weaken (λ v. is_there v ms ≡ true) (λ v. is_there v (m ∷ ms) ≡ true) (λ v h. or-right (v == m) (is_there v ms) h) ms (all-there ms))

-- a number that isn't this one is kept where this one is left out
filter-there : (v n : ℕ) → (v == n) ≡ false → (ms : List ℕ) → is_there v ms ≡ true → is_there v (filter (λ m. not (n == m)) ms) ≡ true
filter-there v n apart [] h = h
filter-there v n apart (m ∷ ms) h = by (filter-there v n apart ms) (n == m) (v == m) refl refl h
  where
    by : (rest : is_there v ms ≡ true → is_there v (filter (λ k. not (n == k)) ms) ≡ true) (b c : Bool) → (n == m) ≡ b → (v == m) ≡ c → (c || is_there v ms) ≡ true
        → is_there v (cond (not b) (m ∷ filter (λ k. not (n == k)) ms) (filter (λ k. not (n == k)) ms)) ≡ true
    by rest true true is also kept = absurd (true≢false (sym ((Decides-eqb v n).1 ((Decides-eqb v m).0 also ∙ sym ((Decides-eqb n m).0 is))) ∙ apart))
    by rest true false is also kept = rest kept
    by rest false true is also kept = ap (λ b. b || is_there v (filter (λ k. not (n == k)) ms)) also
    by rest false false is also kept = or-right (v == m) (is_there v (filter (λ k. not (n == k)) ms)) (rest kept)

-- a number of a list is one of its firsts
firsts-there : (v : ℕ) (ms : List ℕ) → is_there v ms ≡ true → is_there v (firsts ms) ≡ true
firsts-there v [] h = h
firsts-there v (m ∷ ms) h = by (firsts-there v ms) (v == m) refl h
  where
    by : (is_there v ms ≡ true → is_there v (firsts ms) ≡ true) → (b : Bool) → (v == m) ≡ b → (b || is_there v ms) ≡ true → (b || is_there v (filter (λ k. not (m == k)) (firsts ms))) ≡ true
    by rest true is there = refl
    by rest false is there = filter-there v m is (firsts ms) (rest there)

filter-append : (p : ℕ → Bool) (xs ys : List ℕ) → filter p (xs ++ ys) ≡ filter p xs ++ filter p ys
filter-append p [] ys = refl
filter-append p (x ∷ xs) ys = by (filter-append p xs ys) (p x)
  where
    by : filter p (xs ++ ys) ≡ filter p xs ++ filter p ys → (b : Bool) → cond b (x ∷ filter p (xs ++ ys)) (filter p (xs ++ ys)) ≡ cond b (x ∷ filter p xs) (filter p xs) ++ filter p ys
    by rest true = ap (λ zs. x ∷ zs) rest
    by rest false = rest

-- the firsts of a longer list begin with those of the shorter one
firsts-front : (ms ns : List ℕ) → (rest : List ℕ) × (firsts (ms ++ ns) ≡ firsts ms ++ rest)
firsts-front [] ns = (firsts ns, refl)
firsts-front (m ∷ ms) ns =
    let more = firsts-front ms ns in
    (filter (λ k. not (m == k)) more.0, ap (λ ks. m ∷ filter (λ k. not (m == k)) ks) more.1 ∙ ap (λ ks. m ∷ ks) (filter-append (λ k. not (m == k)) (firsts ms) more.0))

-- a number that is there is found at a place of the list, whatever follows
found : (v : ℕ) (ms rest : List ℕ) → is_there v ms ≡ true → (prefix_len (λ m. not (v == m)) ms < length ms) × (prefix_len (λ m. not (v == m)) (ms ++ rest) ≡ prefix_len (λ m. not (v == m)) ms)
found v [] rest h = absurd (true≢false (sym h))
found v (m ∷ ms) rest h = by (found v ms rest) (v == m) h
  where
    by : (is_there v ms ≡ true → (prefix_len (λ k. not (v == k)) ms < length ms) × (prefix_len (λ k. not (v == k)) (ms ++ rest) ≡ prefix_len (λ k. not (v == k)) ms))
        → (b : Bool) → (b || is_there v ms) ≡ true
        → (cond (not b) (1 + prefix_len (λ k. not (v == k)) ms) 0 < suc (length ms))
        × (cond (not b) (1 + prefix_len (λ k. not (v == k)) (ms ++ rest)) 0 ≡ cond (not b) (1 + prefix_len (λ k. not (v == k)) ms) 0)
    by more true there = (omega arith, refl)
    by more false there =
        let before = more there in
        (omega (arith, before.0), ap (λ n. 1 + n) before.1)

place-front : (v : ℕ) (ms rest : List ℕ) → is_there v ms ≡ true → place_in (ms ++ rest) v ≡ place_in ms v
place-front v ms rest h =
    let at : ℕ = prefix_len (λ m. not (v == m)) ms in
    let is = found v ms rest h in
    let longer : length ms ≤ length (ms ++ rest) = omega (arith, length-append ms rest) in
    let within : nat_lt at (length (ms ++ rest)) ≡ true = lt-ltb at (length (ms ++ rest)) (omega (arith, is.0, longer)) in
    let also : nat_lt at (length ms) ≡ true = lt-ltb at (length ms) is.0 in
    ap (λ n. place_after (cond (nat_lt n (length (ms ++ rest))) (Some n) None)) is.1
    ∙ (ap (λ b. place_after (cond b (Some at) None)) within ∙ sym (ap (λ b. place_after (cond b (Some at) None)) also))

-- a variable of some terms has the same number where further terms follow
numbered-front : (ts us : List Tree) (v : ℕ) → is_there v (all_occurrences ts) ≡ true → numbered (ts ++ us) v ≡ numbered ts v
numbered-front ts us v h =
    let more = firsts-front (all_occurrences ts) (all_occurrences us) in
    ap (λ os. variable (place_in (firsts os) v)) (all_occurrences-append ts us)
    ∙ (ap (λ ms. variable (place_in ms v)) more.1 ∙ ap variable (place-front v (firsts (all_occurrences ts)) more.0 (firsts-there v (all_occurrences ts) h)))

-- the values alone are numbered as they are before nodes
values-alone : (terms : List Tree) (nodes : List Node) → (numbered_over terms nodes).values ≡ terms_under (numbered terms) terms
values-alone terms nodes =
    terms-there (numbered (terms ++ nodes_terms nodes)) (numbered terms) terms
    (all-weaken (λ v. is_there v (all_occurrences terms) ≡ true) (λ v. numbered (terms ++ nodes_terms nodes) v ≡ numbered terms v) (λ v h. numbered-front terms (nodes_terms nodes) v h) (all_occurrences terms) (all-there (all_occurrences terms)))

-- a variable told apart, as the variable that it was
abbrev as_it_was : ℕ → ℕ → Tree
as_it_was count v = variable (v / suc count)

comes-back : (count : ℕ) (v : ℕ) → replaced (as_it_was count) (told_apart count 0 v) ≡ variable v
comes-back count v =
    let quotient : (v * suc count + 0) / suc count ≡ v + 0 / suc count = mul-add-div_right (let low : 0 < suc count = omega arith in low) v 0 in
    let none_ : 0 / suc count ≡ 0 = div-eq_of_lt (let low : 0 < suc count = omega arith in low) in
    ap variable (quotient ∙ (ap (λ k. v + k) none_ ∙ (let same : v + 0 ≡ v = omega arith in same)))

all-fixed : (count : ℕ) (vs : List ℕ) → AllByRecursion (Fixed (told_apart count 0) (as_it_was count)) vs
all-fixed count [] = tt
all-fixed count (v ∷ vs) = (comes-back count v, all-fixed count vs)

-- Terms that are variants of others have the same canonical form.
pub canonical-same : (to back : ℕ → Tree) (terms : List Tree) → AllByRecursion (Fixed to back) (all_occurrences terms) → canonical_of (terms_under to terms) ≡ canonical_of terms
canonical-same to back terms fixed =
    let same : numbered_over (terms_under to terms) [] ≡ numbered_over terms [] = numbered-over-same to back terms [] (subst (λ ts. AllByRecursion (Fixed to back) (all_occurrences ts)) (sym (append-nil terms)) fixed) in
    sym (values-alone (terms_under to terms) []) ∙ (ap (λ (c : Certificate). c.values) same ∙ values-alone terms [])

-- The values of a certificate are its terms, their variables numbered from 1 by first occurrence.
pub certificate-values : (terms : List Tree) (parts : ℕ) (nodes : List Node) → (certificate terms parts nodes).values ≡ canonical_of terms
certificate-values terms parts nodes =
    let count : ℕ = length nodes in
    values-alone (terms_under (told_apart count 0) terms) (scoped count 1 (times parts 0 []) nodes) ∙ canonical-same (told_apart count 0) (as_it_was count) terms (all-fixed count (all_occurrences terms))

pub printed-values : (leaf : Leaf) → (certificate_of leaf).values ≡ canonical_of leaf.terms
printed-values leaf = certificate-values leaf.terms (length leaf.proofs) (proofs_nodes (packed leaf.proofs))

-- each answer is admitted with the derivation of its leaf and with the values that are written
pub printed-admitted : (program : Program) (budget : ℕ) → IsProgram program → AllByRecursion (λ leaf. Admits program (certificate_of leaf).nodes (canonical_of leaf.terms)) (answers_of program budget)
printed-admitted program budget is =
    all-weaken (λ leaf. Admits program (certificate_of leaf).nodes (certificate_of leaf).values) (λ leaf. Admits program (certificate_of leaf).nodes (canonical_of leaf.terms))
    (λ leaf h. subst (Admits program (certificate_of leaf).nodes) (printed-values leaf) h) (answers_of program budget) (answers-admitted program budget is)
