use Rattle.std.proofs.Common.{◌≡◌, map, take}
use Rattle.le_templates.specs.Walks.{keys_of}
use Rattle.le_templates.proofs.table.keys_of.Given as goal

-- the keys so far
abbrev pub invariant-loop-template : goal.invariant-loop-template
invariant-loop-template l = map (λ v. v.items) l.keys.items ≡ keys_of (take l.template-index l.templates)
