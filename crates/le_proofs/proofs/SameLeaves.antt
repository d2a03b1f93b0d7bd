-- All whole trees of a program's query have the same leaves, and each derivation that is admitted has the values of one of them.
use Rattle.std.proofs.Common.{◌≡◌, ℕ, suc, ◌+◌, List, [], ◌∷◌, map, zip, length, Some, refl, sym, ap, ◌∙◌, subst, inl, inr}
use Rattle.std.specs.Prelude.{slice_get}
use Rattle.std.specs.List.{AllByRecursion}
use Rattle.std.proofs.lemmas.Slice.Zip.{firsts-zip}
use Rattle.le_terms.specs.Tree.{Tree}
use Rattle.le_terms.specs.Variables.{occurrences, all_occurrences, replaced, canonical_of}
use Rattle.le_terms.specs.Program.{IsProgram, predefined_count}
use Rattle.le_terms.specs.declared.program.Program.{Program}
use Rattle.le_subst.proofs.Replacing.{replaced-replaced}
use Rattle.le_proofs.specs.declared.next.Next.TheVariants.{Done}
use Rattle.le_proofs.specs.declared.node.Node.{Node}
use Rattle.le_proofs.specs.Goals.{terms_under, root_of, asked_terms}
use Rattle.le_proofs.specs.Proofs.{WholeTree, Leaf, packed}
use Rattle.le_proofs.specs.Derivations.{Certificate, proofs_nodes}
use Rattle.le_proofs.specs.Search.{answers_of, end_of}
use Rattle.le_proofs.specs.Lloyd.{Whole, Admits, goal_variables}
use Rattle.le_proofs.proofs.Admitted.{query-alike}
use Rattle.le_proofs.proofs.Alike.{Alike, fixed-inside}
use Rattle.le_proofs.proofs.Alls.{all-both}
use Rattle.le_proofs.proofs.Answers.{search-whole}
use Rattle.le_proofs.proofs.Coming.{AreFound, lits}
use Rattle.le_proofs.proofs.Instances.{after_by}
use Rattle.le_proofs.proofs.Numbering.{Fixed}
use Rattle.le_proofs.proofs.Printed.{canonical-same, certificate-values}
use Rattle.le_proofs.proofs.Trees.{terms_at}
use Rattle.le_proofs.proofs.WholeTrees.{AreRenamed, EndsAt, trees-meet, refutation-ends}

-- variables of terms that come back do so
fixed-terms : (to back : ℕ → Tree) (ts : List Tree) → terms_under back (terms_under to ts) ≡ ts → AllByRecursion (Fixed to back) (all_occurrences ts)
fixed-terms to back [] same = tt
fixed-terms to back (t ∷ ts) same =
    let here : replaced back (replaced to t) ≡ t = cc same in
    let rest : terms_under back (terms_under to ts) ≡ ts = cc same in
    all-both (Fixed to back) (occurrences t) (all_occurrences ts) (fixed-inside (after_by to back) t (sym (replaced-replaced to back t) ∙ here)) (fixed-terms to back ts rest)

-- terms that are the same but for the names of variables are written alike
canonical-renamed : (ts us : List Tree) → AreRenamed ts us → canonical_of us ≡ canonical_of ts
canonical-renamed ts us are = ap canonical_of are.2 ∙ canonical-same are.0 are.1 ts (fixed-terms are.0 are.1 ts (ap (terms_under are.1) (sym are.2) ∙ are.3))

canonical-found : (found others : List (List Tree)) → AreFound found others → map canonical_of found ≡ map canonical_of others
canonical-found [] [] are = refl
canonical-found (ts ∷ found) (us ∷ others) are = ap (λ vs. vs ∷ map canonical_of found) (sym (canonical-renamed ts us are.0)) ∙ ap (λ vss. canonical_of us ∷ vss) (canonical-found found others are.1)
canonical-found [] (us ∷ others) are = absurd are
canonical-found (ts ∷ found) [] are = absurd are

place-of : (ts : List Tree) (found : List (List Tree)) → EndsAt ts found → (place : ℕ) × (slice_get (map canonical_of found) place ≡ Some (canonical_of ts))
place-of ts [] ends = absurd ends
place-of ts (us ∷ found) (inl are) = (0, ap Some (canonical-renamed ts us are))
place-of ts (us ∷ found) (inr ends) =
    let rest : (place : ℕ) × (slice_get (map canonical_of found) place ≡ Some (canonical_of ts)) = place-of ts found ends in
    (suc rest.0, rest.1)

-- all whole trees of a query have the same leaves
pub trees-agree : (program : Program) (rank other_rank : ℕ) (t other : WholeTree) (leaves others : List (List Tree)) → IsProgram program → Whole rank program program.query (asked_terms program.asked) t leaves
    → Whole other_rank program program.query (asked_terms program.asked) other others → map canonical_of leaves ≡ map canonical_of others
trees-agree program rank other_rank t other leaves others is one also =
    let asked : List Tree = asked_terms program.asked in
    let seen : List ℕ = goal_variables program.query asked in
    let alike : Alike is.arity (predefined_count + program.users + length program.groups) seen program.query asked (root_of program) = query-alike program is in
    canonical-found leaves others (trees-meet program is.arity (predefined_count + program.users + length program.groups) is.clauses rank other_rank t other seen seen program.query program.query asked asked leaves others (root_of program, alike, alike) one also)

-- each derivation that is admitted has the values of one of the leaves
pub admitted-at-leaf : (program : Program) (rank : ℕ) (t : WholeTree) (leaves : List (List Tree)) (nodes : List Node) (values : List Tree) → IsProgram program → Whole rank program program.query (asked_terms program.asked) t leaves
    → Admits program nodes values → (place : ℕ) × (slice_get (map canonical_of leaves) place ≡ Some values)
admitted-at-leaf program rank t leaves nodes values is whole admits =
    let asked : List Tree = asked_terms program.asked in
    let predicates : ℕ = predefined_count + program.users + length program.groups in
    let seen : List ℕ = goal_variables program.query asked in
    let alike : Alike is.arity predicates seen program.query asked (root_of program) = query-alike program is in
    let firsts : lits (zip program.query admits.proofs) ≡ program.query = firsts-zip program.query admits.proofs admits.refutes.count in
    let at : (place : ℕ) × (slice_get (map canonical_of leaves) place ≡ Some (canonical_of (terms_under admits.by asked))) =
    place-of (terms_under admits.by asked) leaves
    (refutation-ends program is.arity predicates is.clauses admits.rank rank admits.refutes.steps seen seen (zip program.query admits.proofs) program.query asked asked admits.by t leaves
    (root_of program, subst (λ ls. Alike is.arity predicates seen ls asked (root_of program)) (sym firsts) alike, alike) admits.refutes.runs whole) in
    let is_values : canonical_of (terms_under admits.by asked) ≡ values = sym (certificate-values (terms_under admits.by asked) (length admits.proofs) (proofs_nodes (packed admits.proofs))) ∙ ap (λ (c : Certificate). c.values) admits.same in
    (at.0, at.1 ∙ ap Some is_values)

canonical-leaves : (leaves : List Leaf) → map canonical_of (terms_at leaves) ≡ map (λ (leaf : Leaf). canonical_of leaf.terms) leaves
canonical-leaves [] = refl
canonical-leaves (leaf ∷ leaves) = ap (λ tss. canonical_of leaf.terms ∷ tss) (canonical-leaves leaves)

-- where a search is done, it has one of the answers'
pub done-has-all : (program : Program) (budget : ℕ) (nodes : List Node) (values : List Tree) → IsProgram program → end_of program budget ≡ Done → Admits program nodes values
    → (place : ℕ) × (slice_get (map (λ (leaf : Leaf). canonical_of leaf.terms) (answers_of program budget)) place ≡ Some values)
done-has-all program budget nodes values is done admits =
    let whole : (rank : ℕ) × (t : WholeTree) × Whole rank program program.query (asked_terms program.asked) t (terms_at (answers_of program budget)) = search-whole program budget is done in
    let at : (place : ℕ) × (slice_get (map canonical_of (terms_at (answers_of program budget))) place ≡ Some values) = admitted-at-leaf program whole.0 whole.1 (terms_at (answers_of program budget)) nodes values is whole.2 admits in
    (at.0, ap (λ tss. slice_get tss at.0) (sym (canonical-leaves (answers_of program budget))) ∙ at.1)
