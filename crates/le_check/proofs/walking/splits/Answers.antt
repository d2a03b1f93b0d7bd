use Rattle.std.proofs.Common.{◌≡◌, List, length, reverse, drop, rules, sym, ap, ◌∙◌}
use Rattle.std.proofs.lemmas.List.{reverse-reverse}
use Rattle.le_proofs.specs.Goals.{Child, children}
use Rattle.le_check.specs.declared.levels.SplitFrame.{SplitFrame}
use Rattle.le_check.specs.Goals.{goal_of, placed}
use Rattle.le_check.proofs.Branching.{split-opens, images-length}
use Rattle.le_check.proofs.walking.splits.Goals as goal

pub returns-clause-means : goal.returns-clause-means
returns-clause-means g c = λ nodes frames order whole literal h.
    let walk = c.args.walk in
    let f : SplitFrame = record { walk = walk; place = c.args.place; atom = c.args.atom; left = c.reverse.new.self } in
    let all : List Child = children (goal_of c.args.walk.goal) (placed c.args.walk.goal.literals.items c.args.place literal) c.args.atom 1 c.args.program.now.clauses in
    let counts : c.args.count ≡ length c.in_ok-left.left.items = search rules in
    split-opens c.args.program.now nodes frames c.args.grown.nodes.items c.in_ok-more.more.nodes.items c.args.grown.found.items c.in_ok-more.more.found.items order whole literal c.args.number c.args.count (drop c.args.at nodes) f
    (counts ∙ (ap length (sym (c.in_ok-left.ensures.exact literal)) ∙ images-length (λ (child : Child). child.clause) all))
    (c.in_ok-left.ensures.exact literal ∙ (sym (reverse-reverse c.in_ok-left.left.items) ∙ ap reverse (sym c.reverse.ensures.items)))
    c.in_ok-more.ensures.nodes c.in_ok-more.ensures.found h
