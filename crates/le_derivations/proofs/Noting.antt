-- Noting keys, and numbering nodes, one after another.
use Rattle.std.proofs.Common.{◌≡◌, ℕ, zero, suc, ◌+◌, ◌<◌, List, [], ◌∷◌, ◌++◌, length, map, drop, get_or, sym, ap, ap₂, subst, ◌∙◌, append_assoc, add-one, arith}
use Rattle.std.proofs.lemmas.List.{map-append}
use Rattle.std.specs.List.{AllByRecursion}
use Rattle.le_terms.specs.Tree.{Tree}
use Rattle.le_terms.specs.Variables.{all_occurrences}
use Rattle.le_terms.specs.declared.term.Sym.{Sym}
use Rattle.le_terms.specs.Walks.{symbol_variables, all_noted}
use Rattle.le_terms.proofs.Firsts.{all_noted-append}
use Rattle.le_terms.proofs.Preorder.{drop-item, symbol_variables-append}
use Rattle.le_proofs.specs.declared.node.Node.{Node}
use Rattle.le_proofs.specs.Derivations.{node_terms, node_under, parts_of, scope_below, times}
use Rattle.le_proofs.proofs.Below.{all_occurrences-append}
use Rattle.le_derivations.specs.Numbers.{key, keys_of, nodes_keys, scopes_of, numbered_by, numbered_nodes}

keys-append : (width scope : ℕ) (xs ys : List Tree) → keys_of width scope (xs ++ ys) ≡ keys_of width scope xs ++ keys_of width scope ys
keys-append width scope xs ys = ap (map (key width scope)) (all_occurrences-append xs ys) ∙ map-append (key width scope) (all_occurrences xs) (all_occurrences ys)

-- one symbol more
pub noted-sym : (width scope : ℕ) (syms : List Sym) (i : ℕ) (one : Sym) (old new : List ℕ) → i < length syms → one ≡ get_or syms i one → new ≡ all_noted old (map (key width scope) (symbol_variables (one ∷ [])))
    → all_noted new (map (key width scope) (symbol_variables (drop (i + 1) syms))) ≡ all_noted old (map (key width scope) (symbol_variables (drop i syms)))
noted-sym width scope syms i one old new inside read is =
    let rest : List Sym = drop (i + 1) syms in
    ap (λ ns. all_noted ns (map (key width scope) (symbol_variables rest))) is
    ∙ (sym (all_noted-append old (map (key width scope) (symbol_variables (one ∷ []))) (map (key width scope) (symbol_variables rest)))
    ∙ ap (all_noted old) (sym (map-append (key width scope) (symbol_variables (one ∷ [])) (symbol_variables rest))
    ∙ ap (map (key width scope)) (sym (symbol_variables-append (one ∷ []) rest) ∙ ap symbol_variables (sym (drop-item syms i one inside read)))))

-- noting terms after others
pub noted-both : (width scope : ℕ) (old new : List ℕ) (xs ys : List Tree) → new ≡ all_noted old (keys_of width scope xs) → all_noted new (keys_of width scope ys) ≡ all_noted old (keys_of width scope (xs ++ ys))
noted-both width scope old new xs ys is =
    ap (λ ns. all_noted ns (keys_of width scope ys)) is
    ∙ (sym (all_noted-append old (keys_of width scope xs) (keys_of width scope ys)) ∙ ap (all_noted old) (sym (keys-append width scope xs ys)))

-- one term more
pub noted-term : (width scope : ℕ) (terms : List Tree) (i : ℕ) (term : Tree) (old new : List ℕ) → i < length terms → term ≡ get_or terms i term → new ≡ all_noted old (keys_of width scope (term ∷ []))
    → all_noted new (keys_of width scope (drop (i + 1) terms)) ≡ all_noted old (keys_of width scope (drop i terms))
noted-term width scope terms i term old new inside read is =
    noted-both width scope old new (term ∷ []) (drop (i + 1) terms) is ∙ ap (λ ts. all_noted old (keys_of width scope ts)) (sym (drop-item terms i term inside read))

-- one node more
pub noted-node : (width : ℕ) (scopes : List ℕ) (nodes : List Node) (i scope : ℕ) (node : Node) (old new : List ℕ) → i < length scopes → scope ≡ get_or scopes i scope → i < length nodes → node ≡ get_or nodes i node
    → new ≡ all_noted old (keys_of width scope (node_terms node)) → all_noted new (nodes_keys width (drop (i + 1) scopes) (drop (i + 1) nodes)) ≡ all_noted old (nodes_keys width (drop i scopes) (drop i nodes))
noted-node width scopes nodes i scope node old new inside read within look is =
    ap (λ ns. all_noted ns (nodes_keys width (drop (i + 1) scopes) (drop (i + 1) nodes))) is
    ∙ (sym (all_noted-append old (keys_of width scope (node_terms node)) (nodes_keys width (drop (i + 1) scopes) (drop (i + 1) nodes)))
    ∙ ap₂ (λ ss ns. all_noted old (nodes_keys width ss ns)) (sym (drop-item scopes i scope inside read)) (sym (drop-item nodes i node within look)))

-- one node more is numbered
pub numbered-node : (keys : List ℕ) (width : ℕ) (scopes : List ℕ) (nodes : List Node) (i scope : ℕ) (node : Node) (old new : List Node) (numbered : Node) → i < length scopes → scope ≡ get_or scopes i scope → i < length nodes → node ≡ get_or nodes i node
    → new ≡ old ++ numbered ∷ [] → numbered ≡ node_under (numbered_by keys width scope) node
    → new ++ numbered_nodes keys width (drop (i + 1) scopes) (drop (i + 1) nodes) ≡ old ++ numbered_nodes keys width (drop i scopes) (drop i nodes)
numbered-node keys width scopes nodes i scope node old new numbered inside read within look pushed is =
    let rest : List Node = numbered_nodes keys width (drop (i + 1) scopes) (drop (i + 1) nodes) in
    ap (λ ns. ns ++ rest) (pushed ∙ ap (λ n. old ++ n ∷ []) is)
    ∙ (append_assoc old (node_under (numbered_by keys width scope) node ∷ []) rest
    ∙ ap₂ (λ ss ns. old ++ numbered_nodes keys width ss ns) (sym (drop-item scopes i scope inside read)) (sym (drop-item nodes i node within look)))

-- the scope of one node more
pub scope-more : (from : ℕ) (waiting rest more : List ℕ) (nodes : List Node) (i scope : ℕ) (node : Node) (old new : List ℕ) → i < length nodes → node ≡ get_or nodes i node
    → waiting ≡ scope ∷ rest → more ≡ times (parts_of node) (scope_below from scope node) rest → new ≡ old ++ scope ∷ []
    → new ++ scopes_of (suc from) more (drop (i + 1) nodes) ≡ old ++ scopes_of from waiting (drop i nodes)
scope-more from waiting rest more nodes i scope node old new within look top below pushed =
    ap₂ (λ ns ms. ns ++ scopes_of (suc from) ms (drop (i + 1) nodes)) pushed below
    ∙ (append_assoc old (scope ∷ []) (scopes_of (suc from) (times (parts_of node) (scope_below from scope node) rest) (drop (i + 1) nodes))
    ∙ ap₂ (λ ss ns. old ++ scopes_of from ss ns) (sym top) (sym (drop-item nodes i node within look)))

-- one scope more
pub times-more : (count scope : ℕ) (scopes : List ℕ) → times (count + 1) scope scopes ≡ scope ∷ times count scope scopes
times-more count scope scopes = ap (λ n. times n scope scopes) (add-one count)

-- what holds of all holds of one
pub all-at : (P : ℕ → Type 0) (ns : List ℕ) (i n : ℕ) → i < length ns → n ≡ get_or ns i n → AllByRecursion P ns → P n
all-at P [] i n inside read all = absurd (omega arith)
all-at P (m ∷ ns) zero n inside read all = subst P (sym read) all.0
all-at P (m ∷ ns) (suc i) n inside read all = all-at P ns i n (omega arith) read all.1
