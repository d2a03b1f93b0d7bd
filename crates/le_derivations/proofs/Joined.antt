-- Going up a step of a path: the proofs of what came in the selected literal's place become one proof of it.
use Rattle.std.proofs.Common.{◌≡◌, ℕ, zero, suc, List, [], ◌∷◌, ◌++◌, take, drop, length, refl, sym, ap, ap₂, subst, ◌∙◌, append_assoc}
use Rattle.std.proofs.lemmas.List.{take-append-drop}
use Rattle.le_terms.specs.Tree.{Tree}
use Rattle.le_terms.specs.Variables.{replaced}
use Rattle.le_subst.proofs.Replacing.{replaced-agree}
use Rattle.le_terms.specs.declared.program.Atom.{Atom}
use Rattle.le_proofs.specs.declared.node.Node.{Node}
use Rattle.le_proofs.specs.declared.node.Node.TheVariants.{Use, Compute, Absent, Gather, Split, Branch, Computed, Lacking, Present, Gathered, Ungathered, Success, Dead}
use Rattle.le_proofs.specs.Goals.{terms_under, atom_under}
use Rattle.le_proofs.specs.Proofs.{Proof, Reason, clause_used, value_computed, failure_shown, cases_gathered, Step, joined_proofs, proof_by, packed}
use Rattle.le_proofs.specs.Derivations.{proof_nodes, proofs_nodes, tree_nodes, node_under}
use Rattle.le_proofs.specs.Replay.{behind}
use Rattle.le_proofs.proofs.Sound.{listed-packed}
use Rattle.le_derivations.specs.declared.path.PathStep.{PathStep}
use Rattle.le_derivations.specs.Paths.{count_of, with_count, Shows, IsStep}
use Rattle.le_derivations.proofs.Places.{behind-proof}

-- the nodes of proofs one after another
abbrev pub nodes_of : List Proof → List Node
nodes_of proofs = proofs_nodes (packed proofs)

nodes-append : (ps qs : List Proof) → nodes_of (ps ++ qs) ≡ nodes_of ps ++ nodes_of qs
nodes-append [] qs = refl
nodes-append (p ∷ ps) qs = ap (λ ns. proof_nodes p ++ ns) (nodes-append ps qs) ∙ sym (append_assoc (proof_nodes p) (nodes_of ps) (nodes_of qs))

pub nodes-split : (place : ℕ) (ps : List Proof) → nodes_of (take place ps) ++ nodes_of (drop place ps) ≡ nodes_of ps
nodes-split place ps = sym (nodes-append (take place ps) (drop place ps)) ∙ ap nodes_of (take-append-drop place ps)

-- what stands after the first proofs
pub nodes-behind : (place : ℕ) (ps : List Proof) → behind place (nodes_of ps) ≡ nodes_of (drop place ps)
nodes-behind zero ps = refl
nodes-behind (suc place) [] = refl
nodes-behind (suc place) (p ∷ ps) = behind-proof p place (nodes_of ps) ∙ nodes-behind place ps

-- replacements that agree do so at nodes
terms-agree : (by with : ℕ → Tree) → ((v : ℕ) → by v ≡ with v) → (trees : List Tree) → terms_under by trees ≡ terms_under with trees
terms-agree by with agree [] = refl
terms-agree by with agree (t ∷ ts) = ap₂ (λ u us. u ∷ us) (replaced-agree by with agree t) (terms-agree by with agree ts)

atom-agree : (by with : ℕ → Tree) → ((v : ℕ) → by v ≡ with v) → (atom : Atom) → atom_under by atom ≡ atom_under with atom
atom-agree by with agree atom = ap (λ ts. let a : Atom = record { pred = atom.pred; args = ts } in a) (terms-agree by with agree atom.args)

pub node-agree : (by with : ℕ → Tree) → ((v : ℕ) → by v ≡ with v) → (node : Node) → node_under by node ≡ node_under with node
node-agree by with agree (Use clause count atom) = ap (Use clause count) (atom-agree by with agree atom)
node-agree by with agree (Compute atom) = ap Compute (atom-agree by with agree atom)
node-agree by with agree (Absent atom) = ap Absent (atom-agree by with agree atom)
node-agree by with agree (Gather fold result value atom) =
    ap₂ (λ r u. Gather fold r u (atom_under by atom)) (replaced-agree by with agree result) (replaced-agree by with agree value)
    ∙ ap (Gather fold (replaced with result) (replaced with value)) (atom-agree by with agree atom)
node-agree by with agree (Split count) = refl
node-agree by with agree (Branch clause) = refl
node-agree by with agree Computed = refl
node-agree by with agree Lacking = refl
node-agree by with agree Present = refl
node-agree by with agree Gathered = refl
node-agree by with agree Ungathered = refl
node-agree by with agree Success = refl
node-agree by with agree Dead = refl

-- the proof that a step gives, before those after it
module _ (by : ℕ → Tree) (ps : List Proof) where
  abbrev Joins : Reason → Node → List Node → Type 0
  Joins reason node below =
      proof_nodes (proof_by by (take (count_of node) ps) reason) ++ nodes_of (drop (count_of node) ps) ≡ with_count (length (take (count_of node) ps)) (node_under by node) ∷ (below ++ nodes_of ps)

  clause-joins : (clause n : ℕ) (atom : Atom) → Joins (clause_used clause atom) (Use clause n atom) []
  clause-joins clause n atom =
      ap₂ (λ k ns. Use clause k (atom_under by atom) ∷ ns) (ap length (listed-packed (take n ps))) (nodes-split n ps)

  joins : (reason : Reason) (node : Node) (below : List Node) → Shows reason node below → Joins reason node below
  joins (clause_used clause atom) node below shows =
      subst (Joins (clause_used clause atom) node) (sym shows.1) (subst (λ m. Joins (clause_used clause atom) m []) (sym shows.0) (clause-joins clause (count_of node) atom))
  joins (value_computed atom) node below shows =
      subst (Joins (value_computed atom) node) (sym shows.1) (subst (λ m. Joins (value_computed atom) m []) (sym shows.0) refl)
  joins (failure_shown atom tree) node below shows =
      subst (Joins (failure_shown atom tree) node) (sym shows.1) (subst (λ m. Joins (failure_shown atom tree) m (tree_nodes tree)) (sym shows.0) refl)
  joins (cases_gathered fold result value atom tree) node below shows =
      subst (Joins (cases_gathered fold result value atom tree) node) (sym shows.1) (subst (λ m. Joins (cases_gathered fold result value atom tree) m (tree_nodes tree)) (sym shows.0) refl)

-- the nodes once a step is made
pub joined-nodes : (kept : PathStep) (step : Step) (by : ℕ → Tree) (ps : List Proof) → IsStep kept step
    → nodes_of (joined_proofs step.place step.count (λ below. proof_by by below step.reason) ps)
    ≡ nodes_of (take kept.place ps) ++ (with_count (length (take (count_of kept.node) (drop kept.place ps))) (node_under by kept.node) ∷ (kept.below ++ nodes_of (drop kept.place ps)))
joined-nodes kept step by ps is =
    ap₂ (λ p c. nodes_of (joined_proofs p c (λ below. proof_by by below step.reason) ps)) is.place_ is.count_
    ∙ (nodes-append (take kept.place ps) (proof_by by (take (count_of kept.node) (drop kept.place ps)) step.reason ∷ drop (count_of kept.node) (drop kept.place ps))
    ∙ ap (λ ns. nodes_of (take kept.place ps) ++ ns) (joins by (drop kept.place ps) step.reason kept.node kept.below is.reason_))
