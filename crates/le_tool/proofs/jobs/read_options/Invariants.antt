use Rattle.std.proofs.Common.{length, ◌-◌, ◌≡◌, map, string_bytes, drop}
use Rattle.le_tool.specs.Job.{no_options, options_from, AreOptions}
use Rattle.le_tool.proofs.jobs.read_options.Given as goal

-- the options so far, with those of the words still to come, are those of all words
abbrev pub invariant-loop-at : goal.invariant-loop-at
invariant-loop-at l =
    (options_from l.at l.options (map string_bytes (drop l.at l.words)) ≡ options_from 1 no_options (map string_bytes (drop 1 l.words)))
    × AreOptions (length l.words) l.options

abbrev pub decreases-loop-at : goal.decreases-loop-at
decreases-loop-at l = length l.words - l.at
