use Rattle.std.proofs.Common.{◌≡◌, length, take, drop}
use Rattle.le_templates.specs.Walks.{parts_entered}
use Rattle.le_templates.proofs.last_words.enter_last_words.Given as goal

-- the words so far, with those of the parts that are left, are all words
abbrev pub invariant-loop-part : goal.invariant-loop-part
invariant-loop-part l = record {
  all : parts_entered l.words (drop l.part-index l.parts) ≡ parts_entered l.initial.words l.parts;
  kept : take (length l.initial.words) l.words ≡ l.initial.words;
}
