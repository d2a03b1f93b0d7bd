-- The variables of a proof that are of its own search, and how many those of the searches below it have.
use Rattle.std.proofs.Common.{◌≡◌, ℕ, zero, suc, ◌+◌, ◌-◌, ◌<◌, ◌≤◌, ◌==◌, Bool, true, false, ◌||◌, not, cond, List, [], ◌∷◌, ◌++◌, length, take, drop, filter, refl, sym, ap, subst, ◌∙◌, ◌⊎◌, inl, inr, arith}
use Rattle.std.specs.List.{AllByRecursion, list_any}
use Rattle.std.proofs.lemmas.Bool.Decides.{Decides-eqb}
use Rattle.std.proofs.lemmas.Bool.{eqb-true, true≢false, cases_lt}
use Rattle.std.proofs.lemmas.Cmp.{nat_eq_equiv}
use Rattle.std.proofs.lemmas.Map.Made.{length-le_from_is_member}
use Rattle.le_terms.specs.Tree.{Tree}
use Rattle.le_terms.specs.Variables.{firsts, all_occurrences, all_variables}
use Rattle.le_terms.proofs.Few.{firsts-distinct, all-firsts, all-there}
use Rattle.le_proofs.specs.Proofs.{Proof, by_clause, by_computing, by_failure, by_gathering, Proofs, none, first, packed, WholeTree, success, split, computed, dead, lacking, present, gathered, ungathered, WholeBranches, no_branch, branch}
use Rattle.le_proofs.proofs.Closed.{AllHave, both-have}

abbrev mutual
  -- the terms of a proof, without those of the trees in it
  pub own_proof : Proof → List Tree
  own_proof (by_clause number atom proofs) = atom.args ++ own_proofs proofs
  own_proof (by_computing atom) = atom.args
  own_proof (by_failure atom t) = atom.args
  own_proof (by_gathering fold result value atom t) = result ∷ value ∷ atom.args

  pub own_proofs : Proofs → List Tree
  own_proofs none = []
  own_proofs (first proof proofs) = own_proof proof ++ own_proofs proofs

abbrev mutual
  -- how many variables the proofs in the trees of a proof have, each proof in a tree with variables of its own
  pub inner_proof : Proof → ℕ
  inner_proof (by_clause number atom proofs) = inner_proofs proofs
  inner_proof (by_computing atom) = 0
  inner_proof (by_failure atom t) = inner_tree t
  inner_proof (by_gathering fold result value atom t) = inner_tree t

  pub inner_proofs : Proofs → ℕ
  inner_proofs none = 0
  inner_proofs (first proof proofs) = inner_proof proof + inner_proofs proofs

  pub inner_tree : WholeTree → ℕ
  inner_tree success = 0
  inner_tree (split branches) = inner_branches branches
  inner_tree (computed t) = inner_tree t
  inner_tree dead = 0
  inner_tree (lacking sub t) = inner_tree sub + inner_tree t
  inner_tree (present proof) = length (all_variables (own_proof proof)) + inner_proof proof
  inner_tree (gathered sub t) = inner_tree sub + inner_tree t
  inner_tree (ungathered sub) = inner_tree sub

  pub inner_branches : WholeBranches → ℕ
  inner_branches no_branch = 0
  inner_branches (branch clause t branches) = inner_tree t + inner_branches branches

-- those of a list of proofs
abbrev pub inner_listed : List Proof → ℕ
inner_listed [] = 0
inner_listed (proof ∷ proofs) = inner_proof proof + inner_listed proofs

pub inner-packed : (proofs : List Proof) → inner_proofs (packed proofs) ≡ inner_listed proofs
inner-packed [] = refl
inner-packed (proof ∷ proofs) = ap (λ n. inner_proof proof + n) (inner-packed proofs)

pub inner-append : (xs ys : List Proof) → inner_listed (xs ++ ys) ≡ inner_listed xs + inner_listed ys
inner-append [] ys = omega arith
inner-append (x ∷ xs) ys = let rest : inner_listed (xs ++ ys) ≡ inner_listed xs + inner_listed ys = inner-append xs ys in omega arith

pub inner-cut : (n : ℕ) (proofs : List Proof) → inner_listed (take n proofs) + inner_listed (drop n proofs) ≡ inner_listed proofs
inner-cut zero proofs = omega arith
inner-cut (suc n) [] = omega arith
inner-cut (suc n) (proof ∷ proofs) = let rest : inner_listed (take n proofs) + inner_listed (drop n proofs) ≡ inner_listed proofs = inner-cut n proofs in omega arith

pub own-packed : (Q : ℕ → Type 0) (proofs : List Proof) → AllByRecursion (λ proof. AllHave Q (own_proof proof)) proofs → AllHave Q (own_proofs (packed proofs))
own-packed Q [] all = tt
own-packed Q (proof ∷ proofs) all = both-have Q (own_proof proof) (own_proofs (packed proofs)) all.0 (own-packed Q proofs all.1)

-- ---- how many numbers there are

abbrev pub Among : List ℕ → ℕ → Type 0
Among ns v = list_any (λ m. v == m) ns ≡ true

among-later : (v n : ℕ) (ns : List ℕ) → Among ns v → Among (n ∷ ns) v
among-later v n ns is = ap (λ b. (v == n) || b) is ∙ or-true (v == n)
  where
    or-true : (b : Bool) → (b || true) ≡ true
    or-true true = refl
    or-true false = refl

pub among-all : (ns : List ℕ) → AllByRecursion (Among ns) ns
among-all [] = tt
among-all (n ∷ ns) = (ap (λ b. b || list_any (λ m. n == m) ns) ((Decides-eqb n n).1 refl), later ns (among-all ns))
  where
    later : (ms : List ℕ) → AllByRecursion (Among ns) ms → AllByRecursion (Among (n ∷ ns)) ms
    later [] all = tt
    later (m ∷ ms) all = (among-later m n ns all.0, later ms all.1)

-- numbers each of which is among others have at most as many different ones
pub few-among : (ns others : List ℕ) → AllByRecursion (Among others) ns → length (firsts ns) ≤ length others
few-among ns others all =
    length-le_from_is_member nat_eq_equiv (firsts ns) others (firsts-distinct ns) (λ q there. all-there (Among others) (firsts ns) q (all-firsts (Among others) ns all) there)

-- numbers from one on, so many
abbrev counted : ℕ → ℕ → List ℕ
counted low zero = []
counted low (suc n) = low ∷ counted (suc low) n

counted-length : (low n : ℕ) → length (counted low n) ≡ n
counted-length low zero = refl
counted-length low (suc n) = ap suc (counted-length (suc low) n)

counted-all : (low n v : ℕ) → low ≤ v → v < low + n → Among (counted low n) v
counted-all low zero v from to = absurd (omega arith)
counted-all low (suc n) v from to = by (λ (above : suc low ≤ v). counted-all (suc low) n v above (omega arith)) (v == low) refl
  where
    later : (suc low ≤ v → Among (counted (suc low) n) v) → (v ≡ low → ⊥) → (low < v) ⊎ (v ≤ low) → Among (counted (suc low) n) v
    later rest other (inl less) = rest (omega arith)
    later rest other (inr most) = absurd (other (omega arith))

    by : (suc low ≤ v → Among (counted (suc low) n) v) → (b : Bool) → (v == low) ≡ b → (b || list_any (λ m. v == m) (counted (suc low) n)) ≡ true
    by rest true is = refl
    by rest false is = later rest (λ same. true≢false (sym ((Decides-eqb v low).1 same) ∙ is)) (cases_lt low v)

-- from a number on, and below another
abbrev pub From : ℕ → ℕ → ℕ → Type 0
From low high v = (low ≤ v) × (v < high)

pub few-from : (low high : ℕ) → low ≤ high → (trees : List Tree) → AllHave (From low high) trees → length (all_variables trees) + low ≤ high
few-from low high less trees h =
    let few : length (all_variables trees) ≤ length (counted low (high - low)) = few-among (all_occurrences trees) (counted low (high - low)) (each (all_occurrences trees) h) in
    let many : length (counted low (high - low)) ≡ high - low = counted-length low (high - low) in
    omega arith
  where
    each : (vs : List ℕ) → AllByRecursion (From low high) vs → AllByRecursion (Among (counted low (high - low))) vs
    each [] all = tt
    each (v ∷ vs) all = (counted-all low (high - low) v all.0.0 (let to : v < high = all.0.1 in omega arith), each vs all.1)

unfiltered : (P : ℕ → Type 0) (n : ℕ) → P n → (ms : List ℕ) → AllByRecursion P (filter (λ m. not (n == m)) ms) → AllByRecursion P ms
unfiltered P n h [] all = tt
unfiltered P n h (m ∷ ms) all = by (n == m) refl (unfiltered P n h ms) all
  where
    by : (b : Bool) → (n == m) ≡ b → (AllByRecursion P (filter (λ k. not (n == k)) ms) → AllByRecursion P ms) → AllByRecursion P (cond (not b) (m ∷ filter (λ k. not (n == k)) ms) (filter (λ k. not (n == k)) ms)) → AllByRecursion P (m ∷ ms)
    by true same more rest = (subst P (eqb-true n m same) h, more rest)
    by false same more rest = (rest.0, more rest.1)

-- what holds of each number where it first occurs holds of each
pub all-back : (P : ℕ → Type 0) (ns : List ℕ) → AllByRecursion P (firsts ns) → AllByRecursion P ns
all-back P [] h = tt
all-back P (n ∷ ns) h = (h.0, all-back P ns (unfiltered P n h.0 (firsts ns) h.1))
