-- What contracts see of a verdict.
use Rattle.le_proofs.specs.Replay.{Verdict as Said, accepted, refused}
use Rattle.le_check.specs.declared.verdict.Verdict.{Verdict}
use Rattle.le_check.specs.declared.verdict.Verdict.TheVariants.{Accepted, Refused}

-- a verdict as what the replay says
abbrev pub verdict_by : Verdict → Said
verdict_by (Accepted values) = accepted values
verdict_by (Refused node why) = refused node why
