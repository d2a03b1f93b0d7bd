use Rattle.std.proofs.Common.{drop}
use Rattle.le_english.specs.Lines.{Completes}
use Rattle.le_english.proofs.DraftLemmas.{whole_text, all_counts}
use Rattle.le_english.proofs.draft.compose.Given as goal

-- the parts that are left complete the draft to the whole text and all lengths
abbrev pub invariant-loop-part : goal.invariant-loop-part
invariant-loop-part l = Completes l.templates l.names l.args l.marked l.draft (drop l.part-index l.parts) (whole_text l.templates l.names l.args l.marked l.parts) (all_counts l.templates l.names l.args l.parts)
