-- Which of the causes to refuse a document decides: this project's profile.
use Rattle.std.specs.Prelude.{List, [], ◌∷◌, Option, None, Some}
use Rattle.le_layout.specs.declared.fault.Fault.{Fault}
use Rattle.le_layout.specs.Fault as faults

-- the fault of two that decides
abbrev pub sooner : Option Fault → Fault → Option Fault
sooner None fault = Some fault
sooner (Some found) fault = faults.sooner found (Some fault)

-- the fault that decides among these and one that was found before
abbrev pub least_from : Option Fault → List Fault → Option Fault
least_from least [] = least
least_from least (fault ∷ faults) = least_from (sooner least fault) faults
