-- Literals with the nodes that claim them, as they are kept.
use Rattle.le_proofs.specs.Replay as spec
use Rattle.le_check.specs.declared.meeting.Meeting.{Meeting}
use Rattle.le_check.specs.declared.meeting.Meeting.TheVariants.{ByClause, ByComputing, ByFailure, ByGathering, Unfit}
use Rattle.le_check.specs.declared.meeting.Kind.{Kind}
use Rattle.le_check.specs.declared.meeting.Kind.TheVariants.{Splits, Computes, Dies, Lacks, Presents, Gathers, Misses, Other}

-- a literal with the node that claims its proof, as it is kept
abbrev pub meeting_of : Meeting → spec.Meeting
meeting_of (ByClause atom clause count) = spec.of_atom atom clause count
meeting_of (ByComputing atom) = spec.of_computed atom
meeting_of (ByFailure atom) = spec.of_negation atom
meeting_of (ByGathering fold result value atom) = spec.of_gather fold result value atom
meeting_of Unfit = spec.of_none

-- a literal with the node of a tree, as it is kept
abbrev pub kind_by : Kind → spec.Kind
kind_by (Splits atom count) = spec.splits atom count
kind_by (Computes atom) = spec.computes atom
kind_by (Dies atom) = spec.dies atom
kind_by (Lacks atom) = spec.lacks atom
kind_by (Presents atom) = spec.presents atom
kind_by (Gathers fold result value atom) = spec.gathers fold result value atom
kind_by (Misses fold result value atom) = spec.misses fold result value atom
kind_by Other = spec.unfit
