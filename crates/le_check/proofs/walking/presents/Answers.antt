use Rattle.std.proofs.Common.{◌≡◌, [], ◌∷◌, true, drop, rules, sym, ap, ◌∙◌}
use Rattle.le_proofs.specs.Goals.{sub_goal, is_ground_atom}
use Rattle.le_check.specs.declared.levels.PresentFrame.{PresentFrame}
use Rattle.le_check.specs.declared.levels.Frame.TheVariants.{Present}
use Rattle.le_check.specs.Goals.{goal_of}
use Rattle.le_check.specs.Parts.{nodes_from}
use Rattle.le_check.proofs.Growing.{present-opens, proof-begins}
use Rattle.le_check.proofs.walking.presents.Goals as goal

pub returns : goal.returns
returns c = λ program nodes frames order whole picked ends h.
    let walk = c.args.walk in
    let f : PresentFrame = record { grown = c.in_ok-with_node.field-0; after = c.end_of.result } in
    let ground : is_ground_atom c.args.atom ≡ true = sym c.is_ground_atom.ensures ∙ c.if-not-is_ground_atom.false in
    let sub : goal_of c.in_ok-sub.sub ≡ sub_goal (goal_of c.args.walk.goal) c.args.line c.args.atom [] = c.in_ok-sub.ensures ∙ ap (λ ts. sub_goal (goal_of c.args.walk.goal) c.args.line c.args.atom ts) c.new.ensures.items in
    let one : c.push.new.self.items ≡ c.args.at ∷ [] = search rules in
    proof-begins program nodes (Present f ∷ frames) order whole walk.fuel _ _ (drop c.args.at nodes ∷ []) _ _ c.new-2.ensures.items sub (ap (nodes_from nodes) one)
    (present-opens program nodes frames c.args.grown.nodes.items c.args.grown.found.items order whole walk.fuel walk.failed (goal_of walk.goal) picked c.args.atom c.args.line c.args.number (drop c.args.at nodes) f
    ground c.in_ok-with_node.ensures.nodes c.in_ok-with_node.ensures.found (c.end_of.ensures nodes ends) h)
