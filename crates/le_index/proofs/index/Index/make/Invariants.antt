use Rattle.std.proofs.Common.{take}
use Rattle.le_index.specs.Listing.{Lists}
use Rattle.le_index.proofs.index.Index.make.Given as goal

-- the clauses so far are listed
abbrev pub invariant-loop-place : goal.invariant-loop-place
invariant-loop-place l = Lists l.lists (take l.place l.clauses)
