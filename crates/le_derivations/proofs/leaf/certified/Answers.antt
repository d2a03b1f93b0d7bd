use Rattle.std.proofs.Common.{rules, ◌≡◌, ◌+◌, ◌<◌, ◌++◌, ◌∙◌, ℕ, List, [], length, sym, ap, subst, add-one, arith}
use Rattle.le_terms.specs.Walks.{all_noted}
use Rattle.le_proofs.specs.Derivations.{times}
use Rattle.le_derivations.specs.Numbers.{keys_of, nodes_keys, numbered_nodes}
use Rattle.le_derivations.proofs.Certificates.{AreLow, low-times, low-scopes, certificate-nodes}
use Rattle.le_derivations.proofs.leaf.certified.Goals as goal

pub numbered_nodes-requires-clause-scopes : goal.numbered_nodes-requires-clause-scopes
numbered_nodes-requires-clause-scopes c =
    let width : ℕ = length c.args.nodes.now + 1 in
    let some : 0 < width = omega arith in
    let same : c.deref.result.now ≡ c.in_ok-scopes.scopes.items = search rules in
    subst (AreLow width) (sym (same ∙ c.in_ok-scopes.ensures.scopes))
    (low-scopes width 1 (times c.args.proofs 0 []) c.args.nodes.now (omega arith) (low-times width c.args.proofs 0 [] some tt))

pub returns : goal.returns
returns c =
    let nodes = c.args.nodes.now in
    let scopes : List ℕ = c.in_ok-scopes.scopes.items in
    let same : c.deref.result.now ≡ scopes = search rules in
    c.in_ok-numbered.ensures
    ∙ (ap (λ ss. numbered_nodes (all_noted [] (keys_of (length nodes + 1) 0 c.args.terms.now ++ nodes_keys (length nodes + 1) ss nodes)) (length nodes + 1) ss nodes) same
    ∙ (ap (λ w. numbered_nodes (all_noted [] (keys_of w 0 c.args.terms.now ++ nodes_keys w scopes nodes)) w scopes nodes) (add-one (length nodes))
    ∙ certificate-nodes c.args.terms.now c.args.proofs nodes scopes c.in_ok-scopes.ensures.scopes c.in_ok-scopes.ensures.all))
