-- The variables of an answer's values and of its derivation have numbers of at most 64 for each selection, and 64 for the query.
use Rattle.std.proofs.Common.{◌≡◌, ℕ, suc, ◌+◌, ◌*◌, ◌<◌, ◌≤◌, ◌==◌, Bool, true, false, cond, not, List, [], ◌∷◌, ◌++◌, map, length, length-append, Some, None, refl, sym, ap, subst, ◌∙◌, arith, append-nil}
use Rattle.std.specs.Prelude.{nat_lt}
use Rattle.std.specs.List.{AllByRecursion, prefix_len}
use Rattle.std.proofs.lemmas.Bool.{ltb-true}
use Rattle.std.proofs.lemmas.List.{length-map}
use Rattle.le_terms.specs.Tree.{Tree}
use Rattle.le_terms.specs.Variables.{all_occurrences, all_variables, place_in, place_after, canonical_of}
use Rattle.le_terms.specs.Program.{HasVariablesBelow}
use Rattle.le_proofs.specs.declared.node.Node.{Node}
use Rattle.le_proofs.specs.Goals.{root_of, terms_under}
use Rattle.le_proofs.specs.Proofs.{Proofs, packed, Leaf, listed}
use Rattle.le_proofs.specs.Derivations.{proofs_nodes, nodes_terms, numbered, told_apart, times, scoped, certificate_of}
use Rattle.le_proofs.specs.Laws.{FewVariables}
use Rattle.le_proofs.specs.Search.{answers_of, tree, grow_within}
use Rattle.le_proofs.proofs.Alls.{all-left, all-right, all-weaken}
use Rattle.le_proofs.proofs.Answers.{program-clauses, asked-below}
use Rattle.le_proofs.proofs.Closed.{AllHave, terms-have, both-have, front-has, back-has}
use Rattle.le_proofs.proofs.Numbering.{nodes-terms-under}
use Rattle.le_proofs.proofs.OwnVariables.{own_proofs, inner_proofs, inner_listed, inner-packed, own-packed, Among, among-all, few-among, From, few-from, all-back}
use Rattle.le_proofs.proofs.SearchVariables.{Since, LeafFew, Fits, fits-within}
use Rattle.le_proofs.proofs.Sound.{listed-packed}
use Rattle.le_proofs.proofs.ToldApart.{told, told_proofs, told-proofs, IsTold, Chunk, proofs-chunk, told-all}

-- a number by place is at most the number of places
place-most : (ns : List ℕ) (v : ℕ) → place_in ns v ≤ length ns
place-most ns v = by (prefix_len (λ m. not (v == m)) ns) (nat_lt (prefix_len (λ m. not (v == m)) ns) (length ns)) refl
  where
    by : (n : ℕ) (b : Bool) → nat_lt n (length ns) ≡ b → place_after (cond b (Some n) None) ≤ length ns
    by n true test = let less : n < length ns = ltb-true n (length ns) test in omega arith
    by n false test = omega arith

all-known : (vs : List ℕ) → AllByRecursion (λ v. Unit {0}) vs
all-known [] = tt
all-known (v ∷ vs) = (tt, all-known vs)

-- terms numbered by the variables of others
numbered-below : (most : ℕ) (over : List Tree) → length (all_variables over) < most → (terms : List Tree) → HasVariablesBelow most (terms_under (numbered over) terms)
numbered-below most over few terms =
    terms-have (λ v. Unit {0}) (λ v. v < most) (numbered over) (λ v known. (let place : place_in (all_variables over) v ≤ length (all_variables over) = place-most (all_variables over) v in omega (arith, few), tt)) terms (all-known (all_occurrences terms))

-- the terms of a certificate, over which its variables are numbered
abbrev certificate_terms : List Tree → ℕ → Proofs → List Tree
certificate_terms terms parts proofs =
    let nodes : List Node = proofs_nodes proofs in
    terms_under (told_apart (length nodes) 0) terms ++ nodes_terms (scoped (length nodes) 1 (times parts 0 []) nodes)

certificate-few : (high : ℕ) (terms : List Tree) (proofs : Proofs) → AllHave (From 0 high) terms → AllHave (From 0 high) (own_proofs proofs) → length (all_variables (certificate_terms terms (length (listed proofs)) proofs)) ≤ high + inner_proofs proofs
certificate-few high terms proofs in_terms in_proofs =
    let nodes : List Node = proofs_nodes proofs in
    let count : ℕ = length nodes in
    let own : List Tree = terms ++ own_proofs proofs in
    let outer : List ℕ = map (told count 0) (all_variables own) in
    let inner : List ℕ = told_proofs count 1 proofs in
    let Q : ℕ → Type 0 = Among (outer ++ inner) in
    let all : AllByRecursion Q (outer ++ inner) = among-all (outer ++ inner) in
    let each : AllHave (IsTold count Q 0) own = all-back (IsTold count Q 0) (all_occurrences own) (told-all count Q 0 (all_variables own) (all-left Q outer inner all)) in
    let chunk : Chunk count Q 0 1 (length (listed proofs)) nodes = proofs-chunk count Q 0 1 proofs (back-has (IsTold count Q 0) terms (own_proofs proofs) each) (all-right Q outer inner all) in
    let done : AllHave Q (nodes_terms (chunk.done ++ [])) = subst (λ ns. AllHave Q (nodes_terms ns)) (sym (append-nil chunk.done)) chunk.all in
    let same : chunk.done ++ [] ≡ scoped count 1 (times (length (listed proofs)) 0 []) nodes = ends count (1 + count) chunk.done ∙ (sym (chunk.is [] []) ∙ ap (scoped count 1 (times (length (listed proofs)) 0 [])) (append-nil nodes)) in
    let in_nodes : AllHave Q (nodes_terms (scoped count 1 (times (length (listed proofs)) 0 []) nodes)) = subst (λ ns. AllHave Q (nodes_terms ns)) same done in
    let in_values : AllHave Q (terms_under (told_apart count 0) terms) = terms-have (IsTold count Q 0) Q (told_apart count 0) (λ v h. (h, tt)) terms (front-has (IsTold count Q 0) terms (own_proofs proofs) each) in
    let few : length (all_variables (certificate_terms terms (length (listed proofs)) proofs)) ≤ length (outer ++ inner) = few-among (all_occurrences (certificate_terms terms (length (listed proofs)) proofs)) (outer ++ inner) (both-have Q (terms_under (told_apart count 0) terms) (nodes_terms (scoped count 1 (times (length (listed proofs)) 0 []) nodes)) in_values in_nodes) in
    let sum : length (outer ++ inner) ≡ length outer + length inner = length-append outer inner in
    let in_outer : length outer ≡ length (all_variables own) = length-map (all_variables own) (told count 0) in
    let in_inner : length inner ≡ inner_proofs proofs = told-proofs count 1 proofs in
    let many : length (all_variables own) + 0 ≤ high = few-from 0 high (omega arith) own (both-have (From 0 high) terms (own_proofs proofs) in_terms in_proofs) in
    omega arith
  where
    ends : (count number : ℕ) (done : List Node) → done ++ [] ≡ done ++ scoped count number [] []
    ends count number done = refl

-- the variables of a leaf of a query
leaf-few : (vars budget : ℕ) → vars ≤ 64 → (leaf : Leaf) → LeafFew 0 vars budget leaf
    → HasVariablesBelow (65 + 64 * budget) (canonical_of leaf.terms) × HasVariablesBelow (65 + 64 * budget) (certificate_of leaf).values × HasVariablesBelow (65 + 64 * budget) (nodes_terms (certificate_of leaf).nodes)
leaf-few vars budget few leaf h =
    let most : ℕ = 65 + 64 * budget in
    let proofs : Proofs = packed leaf.proofs in
    let nodes : List Node = proofs_nodes proofs in
    let parts : ℕ = length leaf.proofs in
    let apart : List Node = scoped (length nodes) 1 (times parts 0 []) nodes in
    let told_terms : List Tree = terms_under (told_apart (length nodes) 0) leaf.terms in
    let over : List Tree = told_terms ++ nodes_terms apart in
    let room : h.high + inner_listed leaf.proofs + 64 * leaf.left ≤ vars + 64 * budget = h.room in
    let inner : inner_proofs proofs ≡ inner_listed leaf.proofs = inner-packed leaf.proofs in
    let own : AllHave (From 0 h.high) (own_proofs proofs) = own-packed (From 0 h.high) leaf.proofs h.owns in
    let all : length (all_variables (certificate_terms leaf.terms (length (listed proofs)) proofs)) ≤ h.high + inner_proofs proofs = certificate-few h.high leaf.terms proofs h.terms own in
    let counted : length (all_variables over) ≤ h.high + inner_proofs proofs = subst (λ n. length (all_variables (certificate_terms leaf.terms n proofs)) ≤ h.high + inner_proofs proofs) (ap length (listed-packed leaf.proofs)) all in
    let low : length (all_variables over) < most = omega arith in
    let alone : length (all_variables leaf.terms) + 0 ≤ h.high = few-from 0 h.high (omega arith) leaf.terms h.terms in
    let low_alone : length (all_variables leaf.terms) < most = omega arith in (
      numbered-below most leaf.terms low_alone leaf.terms,
      numbered-below most over low told_terms,
      subst (HasVariablesBelow most) (sym (nodes-terms-under (numbered over) apart)) (numbered-below most over low (nodes_terms apart)),
    )

from-zero : (n : ℕ) (vs : List ℕ) → AllByRecursion (λ v. v < n) vs → AllByRecursion (From 0 n) vs
from-zero n vs all = all-weaken (λ v. v < n) (From 0 n) (λ v (less : v < n). (omega arith, less)) vs all

pub few-variables : FewVariables
unfolding tree
few-variables program budget is =
    let since : Since 0 (root_of program) = record { from = omega arith; literals = from-zero program.vars _ is.query_variables; terms = from-zero program.vars _ (asked-below program.vars program.asked is.asked) } in
    let all : Fits 0 program.vars budget (grow_within (suc budget) program (root_of program) budget) = fits-within program (program-clauses program is) (suc budget) 0 (root_of program) budget since in
    each (answers_of program budget) all.each
  where
    each : (ls : List Leaf) → AllByRecursion (LeafFew 0 program.vars budget) ls
        → AllByRecursion (λ leaf. HasVariablesBelow (65 + 64 * budget) (canonical_of leaf.terms) × HasVariablesBelow (65 + 64 * budget) (certificate_of leaf).values × HasVariablesBelow (65 + 64 * budget) (nodes_terms (certificate_of leaf).nodes)) ls
    each [] all = tt
    each (leaf ∷ ls) all = (leaf-few program.vars budget is.few leaf all.0, each ls all.1)
