use Rattle.std.proofs.Common.{◌≡◌, drop}
use Rattle.le_clauses.specs.Rules.{parts_of}
use Rattle.le_clauses.proofs.RuleSteps.{after_parts}
use Rattle.le_clauses.proofs.reading.parts.Given as goal

-- the parts so far with those of what is left are all
abbrev pub invariant-loop-node : goal.invariant-loop-node
invariant-loop-node l = after_parts l.parts.items (parts_of l.templates l.names l.scope l.query l.layout (drop l.node-index l.nodes)) ≡ parts_of l.templates l.fn.names l.fn.scope l.query l.layout l.nodes
