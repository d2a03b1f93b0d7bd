use Rattle.std.proofs.Common.{rules, ◌≡◌, ◌++◌, [], length, refl, ap, ◌∙◌}
use Rattle.le_store.specs.Shown.{new_variables, places_from}
use Rattle.le_store.proofs.Views.{length-places_from}
use Rattle.std.specs.List.{slice_get}
use Rattle.le_goals.specs.Frames.{goals_of}
use Rattle.le_goals.proofs.Beginning.{begun, query-goal}
use Rattle.le_goals.proofs.goals.Goals.start.Goals as goal

pub invariant_of-result : goal.invariant_of-result
invariant_of-result c =
    let empty : c.reserve.new.self.now ≡ record { terms = []; variables = [] } = c.in_ok-reserve.ensures.now ∙ c.new-store.ensures.cells in
    let fresh : c.fresh.new.self.now.terms ≡ new_variables 0 c.args.program.now.vars =
    c.fresh.ensures.terms ∙ ap (λ s. s.terms ++ new_variables (length s.variables) c.args.program.now.vars) empty in
    begun c.args.program.now c.requires.program c.fresh.new.self c.in_ok-frames.frames.items c.new.result.items c.args.program.now.vars _ fresh
    (c.fresh.ensures.marks ∙ (c.in_ok-reserve.ensures.marks ∙ c.new-store.ensures.marks)) refl (search rules) c.in_ok-frames.ensures c.new.ensures.items

pub returns-clause-query : goal.returns-clause-query
returns-clause-query c =
    let empty : c.reserve.new.self.now ≡ record { terms = []; variables = [] } = c.in_ok-reserve.ensures.now ∙ c.new-store.ensures.cells in
    let fresh : c.fresh.new.self.now.terms ≡ new_variables 0 c.args.program.now.vars =
    c.fresh.ensures.terms ∙ ap (λ s. s.terms ++ new_variables (length s.variables) c.args.program.now.vars) empty in
    let next : length c.fresh.new.self.now.variables ≡ c.args.program.now.vars =
    ap length (c.fresh.ensures.variables ∙ ap (λ s. s.variables ++ places_from (length s.terms) c.args.program.now.vars) empty) ∙ length-places_from 0 c.args.program.now.vars in
    ap (λ fs. slice_get (goals_of c.args.program.now c.fresh.new.self.now fs) 1) c.in_ok-frames.ensures
    ∙ query-goal c.fresh.new.self.now c.args.program.now.vars fresh c.args.program.now c.requires.program refl next (length c.as_slice.result.now) (search rules)

pub returns-clause-next : goal.returns-clause-next
returns-clause-next c =
    let empty : c.reserve.new.self.now ≡ record { terms = []; variables = [] } = c.in_ok-reserve.ensures.now ∙ c.new-store.ensures.cells in
    ap length (c.fresh.ensures.variables ∙ ap (λ s. s.variables ++ places_from (length s.terms) c.args.program.now.vars) empty) ∙ length-places_from 0 c.args.program.now.vars
