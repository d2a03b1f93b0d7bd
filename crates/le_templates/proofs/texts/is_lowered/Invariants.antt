use Rattle.std.proofs.Common.{◌≡◌, map, drop}
use Rattle.std.specs.Char.{to_ascii_lowercase}
use Rattle.std.specs.Str.{bytes_eq}
use Rattle.le_templates.proofs.texts.is_lowered.Given as goal

-- what is left decides
abbrev pub invariant-loop-i : goal.invariant-loop-i
invariant-loop-i l = bytes_eq (map to_ascii_lowercase (drop l.i l.word)) (drop l.i l.text) ≡ bytes_eq (map to_ascii_lowercase l.word) l.text
