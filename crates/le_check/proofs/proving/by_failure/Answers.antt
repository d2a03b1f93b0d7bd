use Rattle.std.proofs.Common.{◌≡◌, ◌++◌, [], ◌∷◌, true, drop, refl, sym, ap, ◌∙◌}
use Rattle.le_proofs.specs.Goals.{sub_goal, rest_goal, is_ground_atom}
use Rattle.le_check.specs.declared.levels.AbsentFrame.{AbsentFrame}
use Rattle.le_check.specs.declared.levels.Frame.TheVariants.{Absent}
use Rattle.le_check.specs.Goals.{goal_of, placed}
use Rattle.le_check.specs.Parts.{nodes_from}
use Rattle.le_check.proofs.Resuming.{absent-opens, walks-from}
use Rattle.le_check.proofs.proving.by_failure.Goals as goal

pub returns : goal.returns
returns c =
    let proof = c.args.proof in
    let skipped = c.in_ok-skipped.skipped in
    let f : AbsentFrame = record { proof = record { fuel = skipped.fuel; goal = c.rest.result; places = skipped.places; path = skipped.path }; place = c.args.place; atom = c.args.atom } in
    let ground : is_ground_atom c.args.atom ≡ true = sym c.is_ground_atom.ensures ∙ c.if-not-is_ground_atom.false in
    let sub : goal_of c.in_ok-sub.sub ≡ sub_goal (goal_of proof.goal) c.args.line c.args.atom [] =
    c.in_ok-sub.ensures ∙ ap (λ ts. sub_goal (goal_of proof.goal) c.args.line c.args.atom ts) c.new.ensures.items in
    λ program nodes frames order whole literal h.
    walks-from program nodes (Absent f ∷ frames) (order ++ c.args.number ∷ []) whole proof.fuel true (sub_goal (goal_of proof.goal) c.args.line c.args.atom []) _ (drop c.args.at nodes) _ _ c.nothing_grown.ensures.nodes c.nothing_grown.ensures.found sub
    (absent-opens program nodes frames proof.path.items order whole proof.fuel (goal_of proof.goal) (nodes_from nodes proof.places.items) c.args.place literal c.args.atom c.args.line c.args.number (drop c.args.at nodes) f
    c.requires.inside ground c.in_ok-skipped.ensures.fuel (ap (λ p. p.items) c.in_ok-skipped.ensures.path)
    (c.rest.ensures literal ∙ ap (λ g. rest_goal (goal_of g) (placed g.literals.items c.args.place literal)) c.in_ok-skipped.ensures.goal)
    (c.in_ok-skipped.ensures.places nodes) refl refl h)
