-- What contracts see of a replay.
use Rattle.std.specs.Prelude.{◌≡◌, List, reverse, Result, Ok, Err}
use Rattle.le_proofs.specs.Proofs.{Step}
use Rattle.le_proofs.specs.SearchTree.{empty_leaf}
use Rattle.le_proofs.specs.UnderWay.{leaf_along}
use Rattle.le_proofs.specs.Replay as spec
use Rattle.le_derivations.specs.Paths.{AreSteps}
use Rattle.le_check.specs.declared.replaying.Proven.{Proven}
use Rattle.le_check.specs.declared.replaying.Fault.{Fault}
use Rattle.le_check.specs.declared.replaying.Replay.{Replay}
use Rattle.le_check.specs.declared.replaying.Replay.TheVariants.{Through, Stopped}

-- a fault as it is kept
abbrev pub fault_of : Fault → spec.Fault
fault_of fault = record { node = fault.node; why = fault.why }

-- a path and terms as they are kept are those of a replay that came through
pub record IsProven (kept : Proven) (proven : spec.Proven) : Type 0 where
  pub steps : List Step
  pub are : AreSteps (reverse kept.path.items) steps
  pub leaf : proven.leaf ≡ leaf_along steps (empty_leaf kept.terms.items 0)
  pub order : proven.order ≡ kept.order.items

-- what a replay came to, as it is kept
abbrev pub IsReplay : Replay → Result spec.Proven spec.Fault → Type 0
IsReplay (Through kept) answer = (proven : spec.Proven) × (answer ≡ Ok proven) × IsProven kept proven
IsReplay (Stopped fault) answer = answer ≡ Err (fault_of fault)
