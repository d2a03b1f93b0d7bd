-- Terms with different keys, neither of them 0, have no unifier, so a clause that is passed over has a head that doesn't unify.
use Rattle.std.proofs.Common.{◌≡◌, ℕ, zero, suc, Bool, true, false, cond, ◌==◌, ◌&&◌, ◌||◌, ◌+◌, ◌-◌, ◌*◌, ◌<◌, ◌≤◌, pos, List, [], ◌∷◌, map, zip, Option, Some, None, refl, sym, ap, ◌∙◌, true≢false, arith}
use Rattle.std.specs.Prelude.{nat_le, slice_get}
use Rattle.std.specs.Ordering.{int_eq}
use Rattle.std.proofs.lemmas.Bool.{leb-false}
use Rattle.std.proofs.lemmas.Bool.Decides.{Decides-eqb, Decides-int_eq}
use Rattle.le_terms.specs.Tree.{Tree, constant, number, date, variable, nil, cell, root}
use Rattle.le_terms.specs.Variables.{replaced}
use Rattle.le_terms.specs.declared.program.Clause.{Clause}
use Rattle.le_subst.specs.Solution.{move, contradictory, dropped, after, run, to_map, solve_of}
use Rattle.le_subst.proofs.Induction.{run-move}
use Rattle.le_index.specs.Keys.{remainder, key_of_symbol, key_of_args, key_of}
use Rattle.le_index.specs.Candidates.{may_meet, is_candidate, candidate_from, candidate_of}
use Rattle.le_index.specs.Laws.{IsBefore, PassedClausesNeverUnify}

-- the key of a term
abbrev key_of_tree : Tree → ℕ
key_of_tree tree = key_of_symbol (root tree)

tested : (b : Bool) → (b ≡ true → ⊥) → cond b dropped contradictory ≡ contradictory
tested true differs = absurd (differs refl)
tested false differs = refl

-- different keys, neither of them a variable's: the equation contradicts
keys-contradict : (x y : Tree) → 0 < key_of_tree x → 0 < key_of_tree y → (key_of_tree x ≡ key_of_tree y → ⊥) → move x y ≡ contradictory
keys-contradict (variable v) y some other differ = absurd (omega (arith, some))
keys-contradict (constant m) (variable w) some other differ = absurd (omega (arith, other))
keys-contradict (constant m) (constant n) some other differ = tested (m == n) (λ h. differ (ap (λ k. 3 + 3 * remainder (pos k)) ((Decides-eqb m n).0 h)))
keys-contradict (constant m) (number z) some other differ = refl
keys-contradict (constant m) (date d) some other differ = refl
keys-contradict (constant m) nil some other differ = refl
keys-contradict (constant m) (cell head tail) some other differ = refl
keys-contradict (number y) (variable w) some other differ = absurd (omega (arith, other))
keys-contradict (number y) (constant n) some other differ = refl
keys-contradict (number y) (number z) some other differ = tested (int_eq y z) (λ h. differ (ap (λ k. 4 + 3 * remainder k) ((Decides-int_eq y z).0 h)))
keys-contradict (number y) (date d) some other differ = refl
keys-contradict (number y) nil some other differ = refl
keys-contradict (number y) (cell head tail) some other differ = refl
keys-contradict (date c) (variable w) some other differ = absurd (omega (arith, other))
keys-contradict (date c) (constant n) some other differ = refl
keys-contradict (date c) (number z) some other differ = refl
keys-contradict (date c) (date d) some other differ = tested (int_eq c d) (λ h. differ (ap (λ k. 5 + 3 * remainder k) ((Decides-int_eq c d).0 h)))
keys-contradict (date c) nil some other differ = refl
keys-contradict (date c) (cell head tail) some other differ = refl
keys-contradict nil (variable w) some other differ = absurd (omega (arith, other))
keys-contradict nil (constant n) some other differ = refl
keys-contradict nil (number z) some other differ = refl
keys-contradict nil (date d) some other differ = refl
keys-contradict nil nil some other differ = absurd (differ refl)
keys-contradict nil (cell head tail) some other differ = refl
keys-contradict (cell head tail) (variable w) some other differ = absurd (omega (arith, other))
keys-contradict (cell head tail) (constant n) some other differ = refl
keys-contradict (cell head tail) (number z) some other differ = refl
keys-contradict (cell head tail) (date d) some other differ = refl
keys-contradict (cell head tail) nil some other differ = refl
keys-contradict (cell head tail) (cell other_head other_tail) some other differ = absurd (differ refl)

-- a term under a substitution has the same key, unless it is a variable
key-under : (by : ℕ → Tree) (tree : Tree) → 0 < key_of_tree tree → key_of_tree (replaced by tree) ≡ key_of_tree tree
key-under by (variable v) some = absurd (omega (arith, some))
key-under by nil some = refl
key-under by (cell head tail) some = refl
key-under by (constant n) some = refl
key-under by (number z) some = refl
key-under by (date d) some = refl

-- so atoms with different keys have no unifier
solve-keys : (by : ℕ → Tree) (heads args : List Tree) → 0 < key_of_args heads → 0 < key_of_args args → (key_of_args heads ≡ key_of_args args → ⊥) → solve_of (zip (map (replaced by) heads) args) ≡ None
solve-keys by [] args some other differ = absurd (omega (arith, some))
solve-keys by (head ∷ heads) [] some other differ = absurd (omega (arith, other))
solve-keys by (head ∷ heads) (arg ∷ args) some other differ =
    let same : key_of_tree (replaced by head) ≡ key_of_tree head = key-under by head some in
    let clash : move (replaced by head) arg ≡ contradictory = keys-contradict (replaced by head) arg (omega (arith, same, some)) other (λ h. differ (sym same ∙ h)) in
    run-move to_map (replaced by head) arg (zip (map (replaced by) heads) args)
    ∙ ap (λ m. after to_map (run to_map) (run to_map) m (zip (map (replaced by) heads) args)) clash

-- and no instances that are equal
equal-keys : (of_clause of_atom : ℕ → Tree) (heads args : List Tree) → 0 < key_of_args heads → 0 < key_of_args args → map (replaced of_clause) heads ≡ map (replaced of_atom) args → key_of_args heads ≡ key_of_args args
equal-keys of_clause of_atom [] args some other same = absurd (omega (arith, some))
equal-keys of_clause of_atom (head ∷ heads) [] some other same = absurd (omega (arith, other))
equal-keys of_clause of_atom (head ∷ heads) (arg ∷ args) some other same =
    sym (key-under of_clause head some) ∙ (ap key_of_args same ∙ key-under of_atom arg other)

-- a clause that is passed over is no candidate
passed : (pred key from m : ℕ) (clauses : List Clause) (place : ℕ) (clause : Clause) → slice_get clauses place ≡ Some clause → from ≤ m + place
    → IsBefore (m + place) (candidate_from pred key from m clauses) → is_candidate pred key clause ≡ false
passed pred key from m [] zero clause there reached before = absurd (cc there)
passed pred key from m [] (suc place) clause there reached before = absurd (cc there)
passed pred key from m (first ∷ clauses) zero clause there reached before =
    ap (is_candidate pred key) (sym (same there)) ∙ by (nat_le from m) (is_candidate pred key first) refl before
  where
    same : Some first ≡ Some clause → first ≡ clause
    same e = cc e

    by : (low b : Bool) → nat_le from m ≡ low → IsBefore (m + 0) (cond (low && b) (Some m) (candidate_from pred key from (m + 1) clauses)) → b ≡ false
    by low false is less = refl
    by true true is less = absurd (omega (arith, less))
    by false true is less = let under : m < from = leb-false from m is in absurd (omega (arith, under, reached))
passed pred key from m (first ∷ clauses) (suc place) clause there reached before =
    passed pred key from (m + 1) clauses place clause there (omega (arith, reached)) (by (nat_le from m && is_candidate pred key first) before)
  where
    by : (b : Bool) → IsBefore (m + suc place) (cond b (Some m) (candidate_from pred key from (m + 1) clauses)) → IsBefore (m + 1 + place) (candidate_from pred key from (m + 1) clauses)
    by true less = absurd (omega (arith, less))
    by false less = later (candidate_from pred key from (m + 1) clauses) less
      where
        later : (found : Option ℕ) → IsBefore (m + suc place) found → IsBefore (m + 1 + place) found
        later None less = tt
        later (Some n) less = omega (arith, less)

-- keys that don't meet differ, and neither is 0
record Apart (key other : ℕ) : Type 0 where
  some : 0 < key
  also : 0 < other
  differ : other ≡ key → ⊥

apart : (key other : ℕ) → may_meet key other ≡ false → Apart key other
apart key other never = by (key == 0) (other == 0) (other == key) refl refl refl never
  where
    some_number : (n : ℕ) → (n == 0) ≡ false → 0 < n
    some_number zero is = absurd (true≢false is)
    some_number (suc n) is = omega arith

    by : (a b c : Bool) → (key == 0) ≡ a → (other == 0) ≡ b → (other == key) ≡ c → (a || (b || c)) ≡ false → Apart key other
    by true b c first second third is = absurd (true≢false is)
    by false true c first second third is = absurd (true≢false is)
    by false false true first second third is = absurd (true≢false is)
    by false false false first second third is = record { some = some_number key first; also = some_number other second; differ = λ h. true≢false (sym ((Decides-eqb other key).1 h) ∙ third) }

-- a clause that is passed over has no unifier with the atom, and no instances of its head and of the atom are equal
pub passed-clauses : PassedClausesNeverUnify
passed-clauses clauses atom from n clause counted there reached before =
    let never : is_candidate atom.pred (key_of atom) clause ≡ false =
    passed atom.pred (key_of atom) from 1 clauses (n - 1) clause there (omega (arith, reached, counted)) (moved (candidate_of clauses atom.pred (key_of atom) from) before) in (
      λ next. unifier next (clause.head.pred == atom.pred) never,
      λ of_clause of_atom same_pred same.
          let met : may_meet (key_of atom) (key_of clause.head) ≡ false = sym (ap (λ b. b && may_meet (key_of atom) (key_of clause.head)) ((Decides-eqb clause.head.pred atom.pred).1 same_pred)) ∙ never in
          let keys = apart (key_of atom) (key_of clause.head) met in
          keys.differ (equal-keys of_clause of_atom clause.head.args atom.args keys.also keys.some same),
    )
  where
    moved : (found : Option ℕ) → IsBefore n found → IsBefore (1 + (n - 1)) found
    moved None less = tt
    moved (Some m) less = omega (arith, less, counted)

    unifier : (next : ℕ) (b : Bool) → (b && may_meet (key_of atom) (key_of clause.head)) ≡ false → cond b (solve_of (zip (map (replaced (λ v. variable (next + v))) clause.head.args) atom.args)) None ≡ None
    unifier next true never =
        let keys = apart (key_of atom) (key_of clause.head) never in
        solve-keys (λ v. variable (next + v)) clause.head.args atom.args keys.also keys.some keys.differ
    unifier next false never = refl
