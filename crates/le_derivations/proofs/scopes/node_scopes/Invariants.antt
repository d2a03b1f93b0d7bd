use Rattle.std.proofs.Common.{◌≡◌, ◌+◌, ◌++◌, [], drop, length, reverse}
use Rattle.le_proofs.specs.Derivations.{times}
use Rattle.le_derivations.specs.Numbers.{scopes_of}
use Rattle.le_derivations.proofs.scopes.node_scopes.Given as goal

-- the scopes so far, with those of the nodes that are left, are all of them
abbrev pub invariant-loop-place : goal.invariant-loop-place
invariant-loop-place l = record {
  all : l.scopes.items ++ scopes_of (l.place + 1) (reverse l.waiting.items) (drop l.place l.nodes) ≡ scopes_of 1 (times l.proofs 0 []) l.nodes;
  many : length l.scopes.items ≡ l.place;
}
