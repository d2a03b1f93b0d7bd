use Rattle.std.proofs.Common.{◌≡◌, [], ◌∷◌, true, drop, sym, ap, ◌∙◌}
use Rattle.le_proofs.specs.Goals.{sub_goal, is_ground_atom}
use Rattle.le_check.specs.declared.levels.LackingFrame.{LackingFrame}
use Rattle.le_check.specs.declared.levels.Frame.TheVariants.{Lacking}
use Rattle.le_check.specs.Goals.{goal_of, placed}
use Rattle.le_check.proofs.Resuming.{walks-on}
use Rattle.le_check.proofs.Growing.{lacking-opens}
use Rattle.le_check.proofs.walking.lacks.Goals as goal

pub returns : goal.returns
returns c = λ program nodes frames order whole literal h.
    let walk = c.args.walk in
    let more = c.in_ok-more.more in
    let f : LackingFrame = record { walk = record { fuel = walk.fuel; failed = walk.failed; goal = c.rest.result }; found = more.found } in
    let ground : is_ground_atom c.args.atom ≡ true = sym c.is_ground_atom.ensures ∙ c.if-not-is_ground_atom.false in
    let sub : goal_of c.in_ok-sub.sub ≡ sub_goal (goal_of c.args.walk.goal) c.args.line c.args.atom [] = c.in_ok-sub.ensures ∙ ap (λ ts. sub_goal (goal_of c.args.walk.goal) c.args.line c.args.atom ts) c.new.ensures.items in
    walks-on program nodes (Lacking f ∷ frames) order whole walk.fuel true _ _ (drop c.args.at nodes) _ _ _ _ c.in_ok-more.ensures.nodes c.new-2.ensures.items sub
    (lacking-opens program nodes frames c.args.grown.nodes.items c.args.grown.found.items order whole (goal_of walk.goal) (placed walk.goal.literals.items c.args.place literal) c.args.atom c.args.line c.args.number (drop c.args.at nodes) f
    ground (c.rest.ensures literal) c.in_ok-more.ensures.found h)
