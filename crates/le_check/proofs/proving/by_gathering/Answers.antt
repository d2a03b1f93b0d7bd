use Rattle.std.proofs.Common.{◌≡◌, ◌<◌, ◌++◌, length, [], ◌∷◌, true, false, drop, sym, ap, ◌∙◌, subst}
use Rattle.le_proofs.specs.Goals.{sub_goal}
use Rattle.le_proofs.specs.Replay.{prove, of_gather, proofs_within, tree_within}
use Rattle.le_proofs.specs.Search.{is_covered}
use Rattle.le_check.specs.declared.goal.Goal as code
use Rattle.le_check.specs.declared.levels.GatherFrame.{GatherFrame}
use Rattle.le_check.specs.declared.levels.Frame.TheVariants.{Gather}
use Rattle.le_check.specs.Goals.{goal_of, placed}
use Rattle.le_check.specs.Parts.{nodes_from}
use Rattle.le_check.specs.Left.{ProofGives}
use Rattle.le_check.proofs.Resuming.{gather-opens, walks-from, same-proof}
use Rattle.le_check.proofs.proving.by_gathering.Goals as goal

pub returns : goal.returns
returns c =
    let proof = c.args.proof in
    let skipped = c.in_ok-skipped.skipped in
    let f : GatherFrame = record { proof = skipped; place = c.args.place; number = c.args.number; fold = c.args.fold; result = c.args.target; value = c.args.value; atom = c.args.atom } in
    let covers : is_covered c.args.value c.args.atom ≡ true = sym c.is_covered.ensures ∙ c.if-not-is_covered.false in
    let sub : goal_of c.in_ok-sub.sub ≡ sub_goal (goal_of skipped.goal) c.args.line c.args.atom (c.args.value ∷ []) =
    c.in_ok-sub.ensures ∙ (ap (λ ts. sub_goal (goal_of proof.goal) c.args.line c.args.atom ts) c.in_ok-asked.ensures ∙ ap (λ g. sub_goal (goal_of g) c.args.line c.args.atom (c.args.value ∷ [])) (sym c.in_ok-skipped.ensures.goal)) in
    λ program nodes frames order whole literal h.
    walks-from program nodes (Gather f ∷ frames) (order ++ c.args.number ∷ []) whole skipped.fuel false (sub_goal (goal_of skipped.goal) c.args.line c.args.atom (c.args.value ∷ [])) _ (drop c.args.at nodes) _ _ c.nothing_grown.ensures.nodes c.nothing_grown.ensures.found sub
    (gather-opens program nodes frames order whole (nodes_from nodes proof.places.items) literal c.args.line (drop c.args.at nodes) f
    (subst (λ g. c.args.place < length g.literals.items) (sym c.in_ok-skipped.ensures.goal) c.requires.inside) covers (c.in_ok-skipped.ensures.places nodes)
    (same-proof (λ n (g : code.Goal) path. ProofGives program nodes frames path order (prove program (length nodes) (proofs_within program (length nodes) n) (tree_within program (length nodes) n) (goal_of g) (nodes_from nodes proof.places.items) (placed g.literals.items c.args.place literal) c.args.line c.args.number (drop c.args.at nodes) (of_gather c.args.fold c.args.target c.args.value c.args.atom)) whole) proof skipped c.in_ok-skipped.ensures.fuel c.in_ok-skipped.ensures.goal c.in_ok-skipped.ensures.path h))
