-- What the nodes and the values of a derivation should be, and the verdict by it.
use Rattle.std.proofs.Common.{◌≡◌, ℕ, suc, ◌+◌, ◌-◌, ◌<◌, ◌≤◌, nat_lt, Bool, true, false, ◌&&◌, List, [], ◌∷◌, drop, length, reverse, Option, refl, sym, ap, ap₂, ◌∙◌, arith}
use Rattle.std.specs.List.{AllByRecursion, list_all}
use Rattle.std.proofs.lemmas.List.{length-drop}
use Rattle.std.proofs.lemmas.Bool.Decides.{Decides-ltb}
use Rattle.le_terms.specs.Tree.{Tree}
use Rattle.le_terms.specs.Variables.{all_occurrences, all_variables, canonical_of}
use Rattle.le_terms.proofs.Few.{length-all_variables-le}
use Rattle.le_proofs.specs.declared.node.Node.{Node}
use Rattle.le_proofs.specs.Proofs.{Step, Leaf}
use Rattle.le_proofs.specs.SearchTree.{empty_leaf}
use Rattle.le_proofs.specs.UnderWay.{leaf_along}
use Rattle.le_proofs.specs.Derivations.{certificate_of}
use Rattle.le_proofs.specs.Replay.{Verdict, Proven, Fault, accepted, refused, compared, other_at, first_other, same_nodes, verdict_by}
use Rattle.le_proofs.proofs.Printed.{printed-values}
use Rattle.le_derivations.specs.Paths.{AreSteps}
use Rattle.le_derivations.proofs.GoingUp.{along-terms}
use Rattle.le_check.specs.declared.replaying.Proven as code
use Rattle.le_check.specs.Replays.{IsProven}
use Rattle.le_check.specs.declared.verdict.Verdict as code_verdict
use Rattle.le_check.specs.Verdicts.{verdict_by as said}
use Rattle.std.specs.Prelude.{Result, Ok, Err, IfOk}

both-true : (a b : Bool) → (a && b) ≡ true → (a ≡ true) × (b ≡ true)
both-true true b h = (refl, h)
both-true false b h = absurd (cc h)

-- terms whose variables are low have few of them
pub few-variables : (terms : List Tree) → list_all (λ v. nat_lt v 4000000000) (all_occurrences terms) ≡ true → length (all_variables terms) < 4294967296
few-variables terms low =
    let few : length (all_variables terms) ≤ 4000000000 = length-all_variables-le 4000000000 terms (by (all_occurrences terms) low) in
    omega (arith, few)
  where
    by : (vs : List ℕ) → list_all (λ v. nat_lt v 4000000000) vs ≡ true → AllByRecursion (λ v. v < 4000000000) vs
    by [] h = tt
    by (v ∷ vs) h =
        let both : (nat_lt v 4000000000 ≡ true) × (list_all (λ w. nat_lt w 4000000000) vs ≡ true) = both-true (nat_lt v 4000000000) (list_all (λ w. nat_lt w 4000000000) vs) h in
        ((Decides-ltb v 4000000000).0 both.0, by vs both.1)

module _ (kept : code.Proven) (p : Proven) (is : IsProven kept p) where
  nodes-are : (expected : List Node) → ((steps : List Step) (left : ℕ) → AreSteps (reverse kept.path.items) steps → expected ≡ (certificate_of (leaf_along steps (empty_leaf kept.terms.items left))).nodes) → expected ≡ (certificate_of p.leaf).nodes
  nodes-are expected given = given is.steps 0 is.are ∙ ap (λ leaf. (certificate_of leaf).nodes) (sym is.leaf)

  values-are : (values : List Tree) → values ≡ canonical_of kept.terms.items → values ≡ (certificate_of p.leaf).values
  values-are values given =
      let terms : p.leaf.terms ≡ kept.terms.items = ap (λ (leaf : Leaf). leaf.terms) is.leaf ∙ along-terms is.steps (empty_leaf kept.terms.items 0) in
      given ∙ (ap canonical_of (sym terms) ∙ sym (printed-values p.leaf))

  pub accepted-is : (nodes expected : List Node) (verdict : Verdict) → ((steps : List Step) (left : ℕ) → AreSteps (reverse kept.path.items) steps → expected ≡ (certificate_of (leaf_along steps (empty_leaf kept.terms.items left))).nodes)
      → verdict ≡ accepted (canonical_of kept.terms.items) → same_nodes expected nodes ≡ true → verdict ≡ compared nodes [] p
  accepted-is nodes expected verdict given are same =
      are
      ∙ (ap accepted (values-are (canonical_of kept.terms.items) refl)
      ∙ ap (λ b. verdict_by b (certificate_of p.leaf).values (first_other (certificate_of p.leaf).nodes nodes p.order)) (sym (sym (ap (λ ns. same_nodes ns nodes) (nodes-are expected given)) ∙ same)))

  pub refused-is : (nodes expected : List Node) (other : Option Fault) → ((steps : List Step) (left : ℕ) → AreSteps (reverse kept.path.items) steps → expected ≡ (certificate_of (leaf_along steps (empty_leaf kept.terms.items left))).nodes)
      → other ≡ first_other expected nodes kept.order.items → same_nodes expected nodes ≡ false → other_at other ≡ compared nodes [] p
  refused-is nodes expected other given are same =
      ap other_at (are ∙ ap₂ (λ ns ks. first_other ns nodes ks) (nodes-are expected given) (sym is.order))
      ∙ ap (λ b. verdict_by b (certificate_of p.leaf).values (first_other (certificate_of p.leaf).nodes nodes p.order)) (sym (sym (ap (λ ns. same_nodes ns nodes) (nodes-are expected given)) ∙ same))

-- nodes are left
pub left-over : (nodes rest : List Node) (place : ℕ) (p : Proven) → place < length nodes → drop place nodes ≡ rest → refused (place + 1) 10 ≡ compared nodes rest p
left-over nodes [] place p within same =
    let long : length (drop place nodes) ≡ length nodes - place = length-drop place nodes in
    let none : length (drop place nodes) ≡ length {A = Node} [] = ap length same in
    absurd (omega arith)
left-over nodes (node ∷ rest) place p within same =
    let long : length (drop place nodes) ≡ length nodes - place = length-drop place nodes in
    let some : length (drop place nodes) ≡ length (node ∷ rest) = ap length same in
    let number : place + 1 ≡ suc (length nodes) - length (node ∷ rest) = omega arith in
    ap (λ n. refused n 10) number

-- the verdict where the nodes are those that they should be
pub if-accepted : {E : Type 0} (kept : code.Proven) (nodes expected : List Node) (result : Result code_verdict.Verdict E)
    → ((steps : List Step) (left : ℕ) → AreSteps (reverse kept.path.items) steps → expected ≡ (certificate_of (leaf_along steps (empty_leaf kept.terms.items left))).nodes) → same_nodes expected nodes ≡ true
    → IfOk result (λ verdict. said verdict ≡ accepted (canonical_of kept.terms.items)) → IfOk result (λ verdict. (p : Proven) → IsProven kept p → said verdict ≡ compared nodes [] p)
if-accepted kept nodes expected (Ok verdict) given same are = λ p is. accepted-is kept p is nodes expected (said verdict) given are same
if-accepted kept nodes expected (Err error) given same are = tt
