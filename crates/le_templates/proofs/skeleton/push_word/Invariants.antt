use Rattle.std.proofs.Common.{◌≡◌, ◌++◌, map, drop}
use Rattle.std.specs.Char.{to_ascii_lowercase}
use Rattle.le_templates.specs.Skeletons.{word_key}
use Rattle.le_templates.proofs.skeleton.push_word.Given as goal

-- what is pushed so far, with what the rest of the word gives, is what the word gives
abbrev pub invariant-loop-byte : goal.invariant-loop-byte
invariant-loop-byte l = l.key.items ++ word_key (map to_ascii_lowercase (drop l.byte-index l.word)) ≡ l.initial.key.items ++ word_key (map to_ascii_lowercase l.word)
