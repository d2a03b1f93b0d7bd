use Rattle.std.proofs.Common.{◌≡◌, ◌≤◌, ◌-◌, length, drop, flat_map}
use Rattle.le_conds.specs.Faults.{part_faults, least_onto}
use Rattle.le_conds.proofs.splitting.parts_fault.Given as goal

-- the fault that decides among those of the last so many items
abbrev pub invariant-loop-k : goal.invariant-loop-k
invariant-loop-k l = record {
  high : l.k ≤ length l.entries;
  found : l.fault ≡ least_onto (flat_map (part_faults l.layout) (drop (length l.entries - l.k) l.entries)) l.fn.least;
}
