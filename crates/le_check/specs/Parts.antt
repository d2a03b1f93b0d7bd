-- Where the parts of a derivation begin and end.
use Rattle.std.specs.Prelude.{◌≡◌, ℕ, ◌<◌, ◌≤◌, List, get_or, drop, length, map}
use Rattle.std.specs.List.{AllByRecursion}
use Rattle.le_proofs.specs.declared.node.Node.{Node}
use Rattle.le_proofs.specs.Replay.{behind}

-- a place is where the part that begins at another one ends
pub record IsPartEnd (nodes : List Node) (from at : ℕ) : Type 0 where
  pub inside : at ≤ length nodes
  pub rest : drop at nodes ≡ behind 1 (drop from nodes)

-- for each node the place where the part that begins with it ends
pub record ArePartEnds (nodes : List Node) (ends : List ℕ) : Type 0 where
  pub all : length ends ≡ length nodes
  pub each : (from : ℕ) → from < length nodes → IsPartEnd nodes from (get_or ends from 0)

-- so it is for each node from a place on
pub record EndFrom (nodes : List Node) (ends : List ℕ) (place : ℕ) : Type 0 where
  pub all : length ends ≡ length nodes
  pub each : (from : ℕ) → place ≤ from → from < length nodes → IsPartEnd nodes from (get_or ends from 0)

-- places as the nodes from them on
abbrev pub nodes_from : List Node → List ℕ → List (List Node)
nodes_from nodes places = map (λ place. drop place nodes) places

-- each of some places is a node's, or the end
abbrev pub AreInside : List Node → List ℕ → Type 0
AreInside nodes places = AllByRecursion (λ place. place ≤ length nodes) places
