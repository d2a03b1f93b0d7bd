use Rattle.std.proofs.Common.{◌≡◌, ◌≤◌, take}
use Rattle.std.specs.List.{count_by}
use Rattle.le_templates.specs.Form.{is_word_part}
use Rattle.le_match.proofs.choosing.word_count.Given as goal

-- the words among the parts so far
abbrev pub invariant-loop-part : goal.invariant-loop-part
invariant-loop-part l = (l.count ≤ l.part-index) × (l.count ≡ count_by is_word_part (take l.part-index l.parts))
