use Rattle.std.proofs.Common.{◌≤◌, ◌+◌, drop, length, sym, le_refl, subst, arith}
use Rattle.std.specs.Prelude.{IfOk}
use Rattle.le_proofs.specs.Replay.{clauses_of, proofs_within, tree_within}
use Rattle.le_check.specs.Goals.{goal_of, placed}
use Rattle.le_check.specs.declared.levels.Opening.TheVariants.{Goes}
use Rattle.le_check.specs.Meetings.{kind_by}
use Rattle.le_check.specs.Left.{Opened, split_below}
use Rattle.le_check.proofs.Resuming.{ok-all}
use Rattle.le_check.proofs.Growing.{left-none, Grows, grows-computed, grows-dead, tree-faulty}
use Rattle.le_check.proofs.Branching.{uncounted}
use Rattle.le_check.proofs.walking.by_kind.Goals as goal

pub returns-in-Splits : goal.returns-in-Splits
returns-in-Splits g c = record {
  means = λ nodes frames order whole literal ends h.
      let program = c.args.program.now in
      let walk = c.args.walk in
      let h' = subst (λ k. Grows program nodes frames c.args.grown order walk c.args.place literal c.args.line c.args.number (drop c.args.at nodes) whole (kind_by k)) c.in-Splits.is h in
      let u = uncounted program nodes frames c.args.grown.nodes.items c.args.grown.found.items order whole (clauses_of program c.in-Splits.atom.pred) (split_below program nodes walk.fuel walk.failed (goal_of walk.goal) (placed walk.goal.literals.items c.args.place literal) c.args.number (drop c.args.at nodes) c.in-Splits.atom c.in-Splits.count) (proofs_within program (length nodes) walk.fuel) (tree_within program (length nodes) walk.fuel) h' in
      let steps : c.splits.new.steps + c.args.allowed.now ≤ (c.args.steps.now + c.args.allowed.now) + clauses_of c.args.program.now c.in-Splits.atom.pred = omega (arith, c.splits.ensures.steps) in
      (clauses_of program c.in-Splits.atom.pred, u.0, u.1, u.2, steps, ok-all _ _ (λ opening f. f nodes frames order u.0 literal u.3) c.splits.result c.splits.ensures.means);
}

pub returns-in-Computes : goal.returns-in-Computes
returns-in-Computes g c = record {
  means = λ nodes frames order whole literal ends h.
      let program = c.args.program.now in
      let h' = subst (λ k. Grows program nodes frames c.args.grown order c.args.walk c.args.place literal c.args.line c.args.number (drop c.args.at nodes) whole (kind_by k)) c.in-Computes.is h in
      left-none _ _ (λ rest. IfOk c.computes.result (λ opening. Opened program nodes frames order opening rest)) whole c.computes.ensures.steps
      (ok-all _ _ (λ opening f. f program nodes frames order whole c.args.line (grows-computed program nodes frames c.args.grown order c.args.walk c.args.place literal c.args.line c.args.number (drop c.args.at nodes) whole c.in-Computes.atom h')) c.computes.result c.computes.ensures.means);
}

pub returns-in-Dies : goal.returns-in-Dies
returns-in-Dies g c = record {
  means = λ nodes frames order whole literal ends h.
      let program = c.args.program.now in
      let h' = subst (λ k. Grows program nodes frames c.args.grown order c.args.walk c.args.place literal c.args.line c.args.number (drop c.args.at nodes) whole (kind_by k)) c.in-Dies.is h in
      left-none _ _ (λ rest. IfOk c.dies.result (λ opening. Opened program nodes frames order opening rest)) whole c.dies.ensures.steps
      (ok-all _ _ (λ opening f. f program nodes frames order whole c.args.line (grows-dead program nodes frames c.args.grown order c.args.walk c.args.place literal c.args.line c.args.number (drop c.args.at nodes) whole c.in-Dies.atom h')) c.dies.result c.dies.ensures.means);
}

pub returns-in-Lacks : goal.returns-in-Lacks
returns-in-Lacks g c = record {
  means = λ nodes frames order whole literal ends h.
      let program = c.args.program.now in
      let h' = subst (λ k. Grows program nodes frames c.args.grown order c.args.walk c.args.place literal c.args.line c.args.number (drop c.args.at nodes) whole (kind_by k)) c.in-Lacks.is h in
      left-none _ _ (λ rest. IfOk c.lacks.result (λ opening. Opened program nodes frames order opening rest)) whole (le_refl _)
      (ok-all _ _ (λ opening f. f program nodes frames order whole literal h') c.lacks.result c.lacks.ensures);
}

pub returns-in-Presents : goal.returns-in-Presents
returns-in-Presents g c = record {
  means = λ nodes frames order whole literal ends h.
      let program = c.args.program.now in
      let h' = subst (λ k. Grows program nodes frames c.args.grown order c.args.walk c.args.place literal c.args.line c.args.number (drop c.args.at nodes) whole (kind_by k)) c.in-Presents.is h in
      left-none _ _ (λ rest. IfOk c.presents.result (λ opening. Opened program nodes frames order opening rest)) whole (le_refl _)
      (ok-all _ _ (λ opening f. f program nodes frames order whole (placed c.args.walk.goal.literals.items c.args.place literal) ends h') c.presents.result c.presents.ensures);
}

pub returns-in-Gathers : goal.returns-in-Gathers
returns-in-Gathers g c = record {
  means = λ nodes frames order whole literal ends h.
      let program = c.args.program.now in
      let h' = subst (λ k. Grows program nodes frames c.args.grown order c.args.walk c.args.place literal c.args.line c.args.number (drop c.args.at nodes) whole (kind_by k)) c.in-Gathers.is h in
      left-none _ _ (λ rest. IfOk c.gathers.result (λ opening. Opened program nodes frames order opening rest)) whole (le_refl _)
      (ok-all _ _ (λ opening f. f program nodes frames order whole literal h') c.gathers.result c.gathers.ensures);
}

pub returns-in-Misses : goal.returns-in-Misses
returns-in-Misses g c = record {
  means = λ nodes frames order whole literal ends h.
      let program = c.args.program.now in
      let h' = subst (λ k. Grows program nodes frames c.args.grown order c.args.walk c.args.place literal c.args.line c.args.number (drop c.args.at nodes) whole (kind_by k)) c.in-Misses.is h in
      left-none _ _ (λ rest. IfOk c.misses.result (λ opening. Opened program nodes frames order opening rest)) whole (le_refl _)
      (ok-all _ _ (λ opening f. f program nodes frames order whole (placed c.args.walk.goal.literals.items c.args.place literal) h') c.misses.result c.misses.ensures);
}

pub returns-in-Other : goal.returns-in-Other
returns-in-Other g c = record {
  means = λ nodes frames order whole literal ends h.
      let program = c.args.program.now in
      let h' = subst (λ k. Grows program nodes frames c.args.grown order c.args.walk c.args.place literal c.args.line c.args.number (drop c.args.at nodes) whole (kind_by k)) c.in-Other.is h in
      left-none _ _ (λ rest. Opened program nodes frames order (Goes c.stopped.result) rest) whole (le_refl _)
      (subst (λ r. Opened program nodes frames order (Goes c.stopped.result) r) (sym (tree-faulty program nodes frames c.args.grown.nodes.items c.args.grown.found.items order c.args.number 3 whole h')) (c.stopped.ensures program nodes frames order));
}
