-- Parts that are still to come, one role after another.
use Rattle.std.proofs.Common.{◌≡◌, suc, ◌-◌, ◌<◌, List, [], ◌∷◌, ◌++◌, reverse, sym, ap, ◌∙◌, arith}
use Rattle.le_derivations.proofs.Fronts.{last-first}
use Rattle.le_proofs.specs.Derivations.{times}
use Rattle.le_proofs.specs.Replay.{Role as SpecRole}
use Rattle.le_check.specs.declared.cutting.Parts.{Parts}
use Rattle.le_check.specs.Roles.{role_by, roles_of}

-- the next role is that of the newest parts
pub role-taken : (whole : List SpecRole) (old rest more : List Parts) (parts : Parts) → roles_of (reverse old) ≡ whole → old ≡ rest ++ parts ∷ [] → 0 < parts.count → more ≡ rest ++ (let p : Parts = record { role = parts.role; count = parts.count - 1 } in p) ∷ []
    → whole ≡ role_by parts.role ∷ roles_of (reverse more)
role-taken whole old rest more parts before popped some pushed =
    let one : parts.count ≡ suc (parts.count - 1) = omega arith in
    sym before
    ∙ (ap (λ ps. roles_of (reverse ps)) popped
    ∙ (ap roles_of (last-first rest parts)
    ∙ (ap (λ n. times n (role_by parts.role) (roles_of (reverse rest))) one
    ∙ ap (λ rs. role_by parts.role ∷ rs) (sym (ap (λ ps. roles_of (reverse ps)) pushed ∙ ap roles_of (last-first rest (let p : Parts = record { role = parts.role; count = parts.count - 1 } in p)))))))
