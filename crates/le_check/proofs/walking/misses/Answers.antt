use Rattle.std.proofs.Common.{◌≡◌, [], ◌∷◌, true, false, drop, sym, ap, ◌∙◌}
use Rattle.le_proofs.specs.Goals.{sub_goal}
use Rattle.le_proofs.specs.Search.{is_covered}
use Rattle.le_check.specs.declared.levels.UngatheredFrame.{UngatheredFrame}
use Rattle.le_check.specs.declared.levels.Frame.TheVariants.{Ungathered}
use Rattle.le_check.specs.Goals.{goal_of}
use Rattle.le_check.proofs.Resuming.{walks-on}
use Rattle.le_check.proofs.Growing.{ungathered-opens}
use Rattle.le_check.proofs.walking.misses.Goals as goal

pub returns : goal.returns
returns c = λ program nodes frames order whole picked h.
    let walk = c.args.walk in
    let more = c.in_ok-more.more in
    let f : UngatheredFrame = record { number = c.args.number; fold = c.args.fold; result = c.args.target; found = more.found } in
    let covers : is_covered c.args.value c.args.atom ≡ true = sym c.is_covered.ensures ∙ c.if-not-is_covered.false in
    let sub : goal_of c.in_ok-sub.sub ≡ sub_goal (goal_of c.args.walk.goal) c.args.line c.args.atom (c.args.value ∷ []) = c.in_ok-sub.ensures ∙ ap (λ ts. sub_goal (goal_of c.args.walk.goal) c.args.line c.args.atom ts) c.in_ok-asked.ensures in
    walks-on program nodes (Ungathered f ∷ frames) order whole walk.fuel false _ _ (drop c.args.at nodes) _ _ _ _ c.in_ok-more.ensures.nodes c.new.ensures.items sub
    (ungathered-opens program nodes frames c.args.grown.nodes.items c.args.grown.found.items order whole walk.fuel walk.failed (goal_of walk.goal) picked c.args.value c.args.atom c.args.line (drop c.args.at nodes) f covers c.in_ok-more.ensures.found h)
