use Rattle.std.proofs.Common.{◌≡◌, [], Some, sym, subst, reverse}
use Rattle.le_proofs.specs.Goals.{Goal, root_of}
use Rattle.le_goals.specs.Shown.{no_goal}
use Rattle.le_cells.specs.declared.phase.Phase.{Phase}
use Rattle.le_cells.specs.declared.phase.Phase.TheVariants.{Fresh}
use Rattle.le_cells.specs.Keeping.{goal_now, IsUnderWay}
use Rattle.le_cells.specs.State.{Stands, IsFresh}
use Rattle.le_cells.proofs.Turning.{ok-all}
use Rattle.le_cells.proofs.UnderWay.{main-begins, get-found}
use Rattle.le_cells.proofs.machine.advance.Goals as goal

pub returns-in-Fresh-clause-found : goal.returns-in-Fresh-clause-found
returns-in-Fresh-clause-found c =
    ok-all _ _
    (λ found comes budget given leaf small stands.
    let cells = c.args.goals.now in
    let s = c.args.searches.now in
    let p = c.args.program.now in
    let at : Stands Fresh p budget given c.args.left.now cells s leaf = subst (λ (phase : Phase). Stands phase p budget given c.args.left.now cells s leaf) c.in-Fresh.is stands in
    let fresh : IsFresh p cells s = at.2 in
    let first : Goal = goal_now cells 1 in
    let same : first ≡ root_of p = get-found cells.now.goals 1 (root_of p) no_goal fresh.query in
    comes budget given
    (subst (λ ws. IsUnderWay p budget given cells (reverse ws) s.inner (Some first) c.args.left.now) (sym fresh.alone)
    (subst (λ k. IsUnderWay p budget k cells [] s.inner (Some first) c.args.left.now) (sym at.0)
    (subst (λ n. IsUnderWay p budget 0 cells [] s.inner (Some first) n) (sym at.1)
    (main-begins p budget cells s.inner first same fresh.keeps_ fresh.path_ fresh.opens_))))) c.find.result c.find.ensures.found
