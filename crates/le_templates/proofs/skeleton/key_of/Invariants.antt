use Rattle.std.proofs.Common.{◌≡◌, flat_map, take}
use Rattle.le_templates.specs.Skeletons.{part_key, skeleton_part}
use Rattle.le_templates.proofs.skeleton.key_of.Given as goal

-- the key of the parts so far
abbrev pub invariant-loop-part : goal.invariant-loop-part
invariant-loop-part l = l.key.items ≡ flat_map (λ part. part_key (skeleton_part part)) (take l.part-index l.parts)
