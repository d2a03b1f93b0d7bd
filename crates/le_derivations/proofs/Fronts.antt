-- Nodes that stand the last first.
use Rattle.std.proofs.Common.{◌≡◌, ℕ, suc, ◌+◌, ◌<◌, List, [], ◌∷◌, ◌++◌, length, take, get_or, reverse, sym, ap, ap₂, ◌∙◌, arith}
use Rattle.std.proofs.Math.Seq.{take-suc}
use Rattle.std.proofs.lemmas.List.{reverse-append}
use Rattle.le_proofs.specs.declared.node.Node.{Node}
use Rattle.le_proofs.specs.Derivations.{parts_of}
use Rattle.le_proofs.specs.Replay.{behind}

-- the last of some items comes first the other way round
pub last-first : {X : Type 0} (xs : List X) (x : X) → reverse (xs ++ x ∷ []) ≡ x ∷ reverse xs
last-first xs x = reverse-append xs (x ∷ [])

-- what is after some parts, and after those that are left once one node is passed
pub front-less : (nodes : List Node) (at k parts p more : ℕ) (node : Node) → at ≡ suc k → parts ≡ suc p → k < length nodes → node ≡ get_or nodes k node → more ≡ p + parts_of node
    → behind more (reverse (take k nodes)) ≡ behind parts (reverse (take at nodes))
front-less nodes at k parts p more node place count inside read rest =
    let turned : reverse (take (suc k) nodes) ≡ node ∷ reverse (take k nodes) =
    ap reverse (take-suc nodes k node inside ∙ ap (λ n. take k nodes ++ n ∷ []) (sym read)) ∙ last-first (take k nodes) node in
    let same : more ≡ parts_of node + p = rest ∙ (omega arith) in
    ap (λ m. behind m (reverse (take k nodes))) same
    ∙ (ap (behind (suc p)) (sym turned) ∙ ap₂ (λ n a. behind n (reverse (take a nodes))) (sym count) (sym place))

-- a node and those below it, put in
pub put-in : (old nodes below front : List Node) (node : Node) (all : List Node) → reverse nodes ≡ below ++ reverse old → all ≡ (nodes ++ node ∷ []) ++ front → reverse all ≡ reverse front ++ (node ∷ (below ++ reverse old))
put-in old nodes below front node all is whole =
    ap reverse whole
    ∙ (reverse-append (nodes ++ node ∷ []) front
    ∙ ap (λ ns. reverse front ++ ns) (last-first nodes node ∙ ap (λ ns. node ∷ ns) is))
