use Rattle.std.proofs.Common.{rules, ◌≡◌, ap, ◌∙◌}
use Rattle.std.specs.List.{flat_map}
use Rattle.le_clauses.specs.declared.draft.Body.{Body}
use Rattle.le_clauses.proofs.DraftSteps.{joint_same}
use Rattle.le_clauses.proofs.drafting.joined.Goals as goal

pub returns : goal.returns
returns c =
    let vars : c.vars.inside.items.items ≡ c.in_ok-branches.branches.vars = search rules in
    joint_same c.in_ok-branches.branches c.vars.inside.items.items c.in_ok-literals.literals c.in_ok-one_body.field-0 c.args.taken.items c.in_ok-branches.ensures vars
    (c.in_ok-literals.ensures ∙ ap (λ bodies. flat_map (λ (b : Body). b.literals) bodies) c.into_vec.ensures) c.in_ok-one_body.ensures
