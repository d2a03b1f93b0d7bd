-- Nodes with their variables told apart and numbered, one after another, are those of a certificate.
use Rattle.std.proofs.Common.{◌≡◌, ℕ, zero, suc, ◌+◌, ◌<◌, ◌≤◌, List, [], ◌∷◌, ◌++◌, map, length, refl, sym, ap, ap₂, ◌∙◌, arith}
use Rattle.std.proofs.lemmas.List.{map-append}
use Rattle.std.specs.List.{AllByRecursion}
use Rattle.le_terms.specs.Tree.{Tree, constant, number, date, variable, nil, cell}
use Rattle.le_terms.specs.Variables.{occurrences, all_occurrences, all_variables, replaced, firsts}
use Rattle.le_terms.specs.Walks.{all_noted}
use Rattle.le_terms.proofs.Firsts.{all_noted-firsts}
use Rattle.le_subst.proofs.Replacing.{replaced-replaced}
use Rattle.le_proofs.specs.declared.node.Node.{Node}
use Rattle.le_proofs.specs.declared.node.Node.TheVariants.{Use, Compute, Absent, Gather, Split, Branch, Computed, Lacking, Present, Gathered, Ungathered, Success, Dead}
use Rattle.le_proofs.specs.Goals.{terms_under, atom_under}
use Rattle.le_proofs.specs.Derivations.{node_terms, nodes_terms, node_under, parts_of, times, scope_below, told_apart, scoped, numbered, certificate}
use Rattle.le_proofs.proofs.Below.{all_occurrences-append}
use Rattle.le_proofs.proofs.Variants.{terms-terms}
use Rattle.le_derivations.specs.Numbers.{key, keys_of, nodes_keys, scopes_of, told, numbered_nodes}

-- the searches beside nodes, where each node has one, tell them apart
pub told-scoped : (count from : ℕ) (scopes : List ℕ) (nodes : List Node) → length (scopes_of from scopes nodes) ≡ length nodes → told count (scopes_of from scopes nodes) nodes ≡ scoped count from scopes nodes
told-scoped count from scopes [] same = refl
told-scoped count from [] (node ∷ nodes) same = absurd (cc same)
told-scoped count from (scope ∷ scopes) (node ∷ nodes) same =
    ap (λ ns. node_under (told_apart count scope) node ∷ ns) (told-scoped count (suc from) (times (parts_of node) (scope_below from scope node) scopes) nodes (omega (arith, same)))

-- each search has a number no higher than that of the last node
abbrev pub AreLow : ℕ → List ℕ → Type 0
AreLow width scopes = AllByRecursion (λ scope. scope < width) scopes

low-below : (width from scope : ℕ) (node : Node) → from < width → scope < width → scope_below from scope node < width
low-below width from scope (Use clause count atom) inside low = low
low-below width from scope (Compute atom) inside low = low
low-below width from scope (Absent atom) inside low = low
low-below width from scope (Gather fold result value atom) inside low = low
low-below width from scope (Split count) inside low = low
low-below width from scope (Branch clause) inside low = low
low-below width from scope Computed inside low = low
low-below width from scope Lacking inside low = low
low-below width from scope Present inside low = inside
low-below width from scope Gathered inside low = low
low-below width from scope Ungathered inside low = low
low-below width from scope Success inside low = low
low-below width from scope Dead inside low = low

pub low-times : (width : ℕ) (count scope : ℕ) (scopes : List ℕ) → scope < width → AreLow width scopes → AreLow width (times count scope scopes)
low-times width zero scope scopes low all = all
low-times width (suc count) scope scopes low all = (low, low-times width count scope scopes low all)

pub low-scopes : (width from : ℕ) (scopes : List ℕ) (nodes : List Node) → from + length nodes ≤ width → AreLow width scopes → AreLow width (scopes_of from scopes nodes)
low-scopes width from scopes [] inside all = tt
low-scopes width from [] (node ∷ nodes) inside all = tt
low-scopes width from (scope ∷ scopes) (node ∷ nodes) inside all =
    let low : from < width = omega (arith, inside) in
    (all.0, low-scopes width (suc from) (times (parts_of node) (scope_below from scope node) scopes) nodes (omega (arith, inside)) (low-times width (parts_of node) (scope_below from scope node) scopes (low-below width from scope node low all.0) all.1))

-- one replacement of a node's variables after another
pub node-node : (by then_by : ℕ → Tree) (node : Node) → node_under then_by (node_under by node) ≡ node_under (λ v. replaced then_by (by v)) node
node-node by then_by (Use clause count atom) = ap (λ ts. Use clause count (record { pred = atom.pred; args = ts })) (terms-terms by then_by atom.args)
node-node by then_by (Compute atom) = ap (λ ts. Compute (record { pred = atom.pred; args = ts })) (terms-terms by then_by atom.args)
node-node by then_by (Absent atom) = ap (λ ts. Absent (record { pred = atom.pred; args = ts })) (terms-terms by then_by atom.args)
node-node by then_by (Gather fold result value atom) =
    ap (λ r. Gather fold r (replaced then_by (replaced by value)) (atom_under then_by (atom_under by atom))) (replaced-replaced by then_by result)
    ∙ (ap (λ u. Gather fold (replaced (λ v. replaced then_by (by v)) result) u (atom_under then_by (atom_under by atom))) (replaced-replaced by then_by value)
    ∙ ap (λ ts. Gather fold (replaced (λ v. replaced then_by (by v)) result) (replaced (λ v. replaced then_by (by v)) value) (record { pred = atom.pred; args = ts })) (terms-terms by then_by atom.args))
node-node by then_by (Split count) = refl
node-node by then_by (Branch clause) = refl
node-node by then_by Computed = refl
node-node by then_by Lacking = refl
node-node by then_by Present = refl
node-node by then_by Gathered = refl
node-node by then_by Ungathered = refl
node-node by then_by Success = refl
node-node by then_by Dead = refl

-- the terms of a node with its variables replaced
node-terms : (by : ℕ → Tree) (node : Node) → node_terms (node_under by node) ≡ terms_under by (node_terms node)
node-terms by (Use clause count atom) = refl
node-terms by (Compute atom) = refl
node-terms by (Absent atom) = refl
node-terms by (Gather fold result value atom) = refl
node-terms by (Split count) = refl
node-terms by (Branch clause) = refl
node-terms by Computed = refl
node-terms by Lacking = refl
node-terms by Present = refl
node-terms by Gathered = refl
node-terms by Ungathered = refl
node-terms by Success = refl
node-terms by Dead = refl

-- the numbers of variables told apart
told-occurrences : (count scope : ℕ) (tree : Tree) → occurrences (replaced (told_apart count scope) tree) ≡ map (key (suc count) scope) (occurrences tree)
told-occurrences count scope (constant n) = refl
told-occurrences count scope (number z) = refl
told-occurrences count scope (date d) = refl
told-occurrences count scope (variable v) = refl
told-occurrences count scope nil = refl
told-occurrences count scope (cell head tail) =
    ap₂ ◌++◌ (told-occurrences count scope head) (told-occurrences count scope tail) ∙ sym (map-append (key (suc count) scope) (occurrences head) (occurrences tail))

told-keys : (count scope : ℕ) (trees : List Tree) → all_occurrences (terms_under (told_apart count scope) trees) ≡ keys_of (suc count) scope trees
told-keys count scope [] = refl
told-keys count scope (tree ∷ trees) =
    ap₂ ◌++◌ (told-occurrences count scope tree) (told-keys count scope trees) ∙ sym (map-append (key (suc count) scope) (occurrences tree) (all_occurrences trees))

told-nodes : (count : ℕ) (scopes : List ℕ) (nodes : List Node) → all_occurrences (nodes_terms (told count scopes nodes)) ≡ nodes_keys (suc count) scopes nodes
told-nodes count [] nodes = refl
told-nodes count (scope ∷ scopes) [] = refl
told-nodes count (scope ∷ scopes) (node ∷ nodes) =
    all_occurrences-append (node_terms (node_under (told_apart count scope) node)) (nodes_terms (told count scopes nodes))
    ∙ ap₂ ◌++◌ (ap all_occurrences (node-terms (told_apart count scope) node) ∙ told-keys count scope (node_terms node)) (told-nodes count scopes nodes)

-- numbering what is told apart
numbered-told : (count : ℕ) (terms : List Tree) (scopes : List ℕ) (nodes : List Node) → map (node_under (numbered terms)) (told count scopes nodes) ≡ numbered_nodes (all_variables terms) (suc count) scopes nodes
numbered-told count terms [] nodes = refl
numbered-told count terms (scope ∷ scopes) [] = refl
numbered-told count terms (scope ∷ scopes) (node ∷ nodes) =
    ap₂ (λ n ns. n ∷ ns) (node-node (told_apart count scope) (numbered terms) node) (numbered-told count terms scopes nodes)

-- the nodes of a certificate
pub certificate-nodes : (terms : List Tree) (proofs : ℕ) (nodes : List Node) (scopes : List ℕ) → scopes ≡ scopes_of 1 (times proofs 0 []) nodes → length scopes ≡ length nodes
    → numbered_nodes (all_noted [] (keys_of (suc (length nodes)) 0 terms ++ nodes_keys (suc (length nodes)) scopes nodes)) (suc (length nodes)) scopes nodes ≡ (certificate terms proofs nodes).nodes
certificate-nodes terms proofs nodes scopes are all =
    let count : ℕ = length nodes in
    let first : List Tree = terms_under (told_apart count 0) terms in
    let apart : told count scopes nodes ≡ scoped count 1 (times proofs 0 []) nodes =
    ap (λ ss. told count ss nodes) are ∙ told-scoped count 1 (times proofs 0 []) nodes (ap length (sym are) ∙ all) in
    let keys : all_variables (first ++ nodes_terms (told count scopes nodes)) ≡ all_noted [] (keys_of (suc count) 0 terms ++ nodes_keys (suc count) scopes nodes) =
    ap firsts (all_occurrences-append first (nodes_terms (told count scopes nodes)) ∙ ap₂ ◌++◌ (told-keys count 0 terms) (told-nodes count scopes nodes))
    ∙ sym (all_noted-firsts (keys_of (suc count) 0 terms ++ nodes_keys (suc count) scopes nodes)) in
    ap (λ ks. numbered_nodes ks (suc count) scopes nodes) (sym keys)
    ∙ (sym (numbered-told count (first ++ nodes_terms (told count scopes nodes)) scopes nodes)
    ∙ ap (λ ns. map (node_under (numbered (first ++ nodes_terms ns))) ns) apart)
