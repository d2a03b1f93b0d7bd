-- The proofs of a refutation are by clauses of the program, with a proof for each literal of a body.
use Rattle.std.proofs.Common.{◌≡◌, ℕ, zero, suc, Option, Some, None, List, [], ◌∷◌, ◌++◌, length, zip, refl, sym, ap, subst, ◌∙◌, arith}
use Rattle.std.specs.List.{AllByRecursion}
use Rattle.std.specs.Option.{IsSomeAnd}
use Rattle.std.proofs.lemmas.List.{length-map}
use Rattle.le_terms.specs.Tree.{Tree}
use Rattle.le_terms.specs.declared.program.Form.{Form}
use Rattle.le_terms.specs.declared.program.Form.TheVariants.{Pos, Neg, Calc, Gather}
use Rattle.le_terms.specs.declared.program.Literal.{Literal}
use Rattle.le_terms.specs.declared.program.Program.{Program}
use Rattle.le_subst.specs.Unifiers.{value_at}
use Rattle.le_proofs.specs.Goals.{Picked, pick, is_delayed, literal_under, literals_under, put_in_place}
use Rattle.le_proofs.specs.Proofs.{Proof, by_clause, by_computing, by_failure, by_gathering, Proofs, none, first, listed, packed}
use Rattle.le_proofs.specs.Lloyd.{Pair, pairs_under, named, Trees, Proves, Runs, IsRefutation}
use Rattle.le_proofs.proofs.Picks.{IsPicked, pick-means}
use Rattle.le_proofs.proofs.Alls.{all-left, all-right, all-both}
use Rattle.le_english.specs.Proofs.{IsByProgram, AreByProgram}

module _ (program : Program) where
  abbrev Fits : Pair → Type 0
  Fits pair = IsByProgram program pair.1

  fits-under : (by : ℕ → Tree) (pairs : List Pair) → AllByRecursion Fits (pairs_under by pairs) → AllByRecursion Fits pairs
  fits-under by [] all = tt
  fits-under by (pair ∷ pairs) all = (all.0, fits-under by pairs all.1)

  -- proofs that are zipped with as many literals as a body has
  zipped : (body literals : List Literal) (proofs : Proofs) → length literals ≡ length body → length (listed proofs) ≡ length body → AllByRecursion Fits (zip literals (listed proofs)) → AreByProgram program body proofs
  zipped [] literals none a b all = tt
  zipped [] literals (first proof proofs) a b all = absurd (omega (arith, b))
  zipped (l ∷ body) literals none a b all = absurd (omega (arith, b))
  zipped (l ∷ body) [] (first proof proofs) a b all = absurd (omega (arith, a))
  zipped (l ∷ body) (m ∷ literals) (first proof proofs) a b all = (all.0, zipped body literals proofs (omega (arith, a)) (omega (arith, b)) all.1)

  -- the parts of what stands in place of a literal
  parts : (picked : Picked Pair) (new : List Pair) → AllByRecursion Fits (put_in_place picked new) → AllByRecursion Fits picked.before × AllByRecursion Fits new × AllByRecursion Fits picked.behind
  parts picked new all =
      let after : AllByRecursion Fits (new ++ picked.behind) = all-right Fits picked.before (new ++ picked.behind) all in
      (all-left Fits picked.before (new ++ picked.behind) all, all-left Fits new picked.behind after, all-right Fits new picked.behind after)

  -- the selected literal's proof, and those around it
  abbrev Around : Picked Pair → Proof → Type 0
  Around picked proof = AllByRecursion Fits picked.before × IsByProgram program proof × AllByRecursion Fits picked.behind

  module _ (trees : Trees) (steps : ℕ) (below : (seen : List ℕ) (pairs : List Pair) (by : ℕ → Tree) → Runs program trees steps seen pairs by → AllByRecursion Fits pairs) where
    gone : (picked : Picked Pair) (proof : Proof) → IsByProgram program proof → AllByRecursion Fits (put_in_place picked []) → Around picked proof
    gone picked proof is all = let p = parts picked [] all in (p.0, is, p.2)

    proved : (seen : List ℕ) (picked : Picked Pair) (by : ℕ → Tree) (line : ℕ) (form : Form) (proof : Proof) → Proves program trees (Runs program trees steps) seen picked by line form proof → Around picked proof
    proved seen picked by line (Pos atom) (by_clause number shown proofs) is =
        let pairs : List Pair = zip (literals_under (named is.names) is.clause.body) (listed proofs) in
        let all : AllByRecursion Fits (put_in_place picked pairs) = fits-under (value_at is.unifier) (put_in_place picked pairs) (below _ _ _ is.rest) in
        let p = parts picked pairs all in
        (p.0, (is.clause, is.resolves.clause_.1, zipped is.clause.body (literals_under (named is.names) is.clause.body) proofs (length-map is.clause.body (literal_under (named is.names))) is.count p.1), p.2)
    proved seen picked by line (Calc atom) (by_computing shown) is = gone picked (by_computing shown) tt (fits-under (value_at is.unifier) (put_in_place picked []) (below _ _ _ is.rest))
    proved seen picked by line (Neg atom) (by_failure shown tree) is = gone picked (by_failure shown tree) tt (below _ _ _ is.rest)
    proved seen picked by line (Gather fold result value atom) (by_gathering fold' result' value' atom' tree) is =
        gone picked (by_gathering fold' result' value' atom' tree) tt (fits-under (value_at is.4.unifier) (put_in_place picked []) (below _ _ _ is.4.rest))
    proved seen picked by line form proof is = absurd is

    step : (seen : List ℕ) (pairs : List Pair) (by : ℕ → Tree) (found : Option (Picked Pair)) → pick (λ pair. is_delayed program.version pair.0) pairs ≡ found
        → IsSomeAnd found (λ picked. Proves program trees (Runs program trees steps) seen picked by picked.chosen.0.line picked.chosen.0.form picked.chosen.1) → AllByRecursion Fits pairs
    step seen pairs by None same is = absurd is
    step seen pairs by (Some picked) same is =
        let means : IsPicked (λ pair. is_delayed program.version pair.0) pairs picked = pick-means (λ pair. is_delayed program.version pair.0) pairs picked same in
        let around : Around picked picked.chosen.1 = proved seen picked by picked.chosen.0.line picked.chosen.0.form picked.chosen.1 is in
        subst (AllByRecursion Fits) (sym means.all) (all-both Fits picked.before (picked.chosen ∷ picked.behind) around.0 (around.1, around.2))

  runs-fit : (trees : Trees) (steps : ℕ) (seen : List ℕ) (pairs : List Pair) (by : ℕ → Tree) → Runs program trees steps seen pairs by → AllByRecursion Fits pairs
  runs-fit trees zero seen pairs by is = subst (AllByRecursion Fits) (sym is.0) tt
  runs-fit trees (suc steps) seen pairs by is = step trees steps (runs-fit trees steps) seen pairs by (pick (λ pair. is_delayed program.version pair.0) pairs) refl is

  listed-packed : (proofs : List Proof) → listed (packed proofs) ≡ proofs
  listed-packed [] = refl
  listed-packed (proof ∷ proofs) = ap (λ ps. proof ∷ ps) (listed-packed proofs)

  -- the proofs of a refutation of a goal
  pub refuted : (trees : Trees) (seen : List ℕ) (goal : List Literal) (proofs : List Proof) (by : ℕ → Tree) → IsRefutation program trees seen goal proofs by → AreByProgram program goal (packed proofs)
  refuted trees seen goal proofs by is =
      zipped goal goal (packed proofs) refl (ap length (listed-packed proofs) ∙ is.count)
      (subst (λ ps. AllByRecursion Fits (zip goal ps)) (sym (listed-packed proofs)) (runs-fit trees is.steps seen (zip goal proofs) by is.runs))
