use Rattle.std.proofs.Common.{◌≡◌, map, take, false}
use Rattle.std.specs.Char.{to_ascii_lowercase}
use Rattle.le_templates.specs.Walks.{has}
use Rattle.le_templates.proofs.texts.any_is_lowered.Given as goal

-- none of the texts so far is the word
abbrev pub invariant-loop-text : goal.invariant-loop-text
invariant-loop-text l = has (map (λ v. v.items) (take l.text-index l.texts)) (map to_ascii_lowercase l.word) ≡ false
