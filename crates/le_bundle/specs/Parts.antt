-- What contracts see of the parts of a bundle.
use Rattle.std.specs.Prelude.{ℕ, ◌≤◌, List, length}
use Rattle.le_proofs.specs.declared.derivation.Derivation.{Derivation}
use Rattle.std.specs.Option.{option_map}
use Rattle.le_bundle.specs.declared.parts.Limits.{Limits}
use Rattle.le_bundle.specs.declared.parts.Parts.{Parts}
use Rattle.le_bundle.specs.declared.reader.Reader.{Reader}
use Rattle.le_bundle.specs.Bundle.{Asked, Bundle, Parted}
use Rattle.le_bundle.specs.Lines.{lines_of}

abbrev pub bundle_by : Parts → Bundle
bundle_by p = record {
  document = p.document.now;
  query = p.query.now;
  scenario = option_map (λ s. s.now) p.scenario;
  budget = p.budget;
  most = p.most;
  derivations = p.derivations.items;
  ending = p.ending.now;
}

-- what is asked, by the names and limits that were read
abbrev pub asked_by : Limits → Asked
asked_by l = record { query = l.query.now; scenario = option_map (λ s. s.now) l.scenario; budget = l.budget; most = l.most }

-- a document part, where a reader stands after its marker
abbrev pub parted_by : List ℕ → Reader → Parted
parted_by document reader = record { document = document; number = reader.number; lines = lines_of reader.rest.now }

-- a derivation with few enough nodes to be checked
abbrev pub IsShort : Derivation → Type 0
IsShort derivation = length derivation.nodes ≤ 60000000
