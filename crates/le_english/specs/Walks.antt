-- The walk over parts of a derivation that aren't shown, a node at a time: this project's profile.
use Rattle.std.specs.Prelude.{ℕ, ◌+◌, ◌-◌, ◌==◌, if◌then◌else◌}
use Rattle.le_proofs.specs.declared.node.Node.{Node}
use Rattle.le_proofs.specs.Derivations.{parts_of}
use Rattle.le_english.specs.Explanations.{own_leaf, own_parts}

-- 1 for a success leaf, where no part of another tree or proof is still to be passed
abbrev pub leaf_at : ℕ → Node → ℕ
leaf_at others node = if others == 0 then own_leaf node else 0

-- how many parts of others are still to be passed after a node
abbrev pub others_after : ℕ → Node → ℕ
others_after others node = if others == 0 then parts_of node - own_parts node else parts_of node + (others - 1)

-- and how many of the trees whose leaves are counted
abbrev pub own_after : ℕ → ℕ → Node → ℕ
own_after others own node = if others == 0 then own_parts node + (own - 1) else own
