-- Parts of a derivation that are still to come, by their roles.
use Rattle.std.specs.Prelude.{List, [], ◌∷◌}
use Rattle.le_proofs.specs.Derivations.{times}
use Rattle.le_proofs.specs.Replay.{Role as SpecRole, proof, tree, branch}
use Rattle.le_check.specs.declared.cutting.Parts.{Parts}
use Rattle.le_check.specs.declared.cutting.Role.{Role}
use Rattle.le_check.specs.declared.cutting.Role.TheVariants.{Proof, Tree, Branch}

-- a role as it is kept
abbrev pub role_by : Role → SpecRole
role_by Proof = proof
role_by Tree = tree
role_by Branch = branch

-- the roles of parts that are kept by counts, the next ones first
abbrev pub roles_of : List Parts → List SpecRole
roles_of [] = []
roles_of (parts ∷ others) = times parts.count (role_by parts.role) (roles_of others)
