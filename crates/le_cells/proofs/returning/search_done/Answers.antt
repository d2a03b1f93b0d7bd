use Rattle.std.proofs.Common.{◌≡◌, ℕ, suc, ◌+◌, ◌<◌, [], ◌∷◌, map, take, reverse, sym, ap, subst, ◌∙◌, arith}
use Rattle.le_proofs.specs.Goals.{sub_goal}
use Rattle.le_proofs.specs.Search.{tree}
use Rattle.le_proofs.specs.declared.next.Next.TheVariants.{Done}
use Rattle.le_derivations.specs.Walks.{Walk, walk_of}
use Rattle.le_goals.specs.Shown.{goal_at, HasLiteral}
use Rattle.le_cells.specs.declared.goals.OpenGoal.{OpenGoal}
use Rattle.le_cells.specs.declared.goals.SubSearch.TheVariants.{Negation, Gather as Gathering}
use Rattle.le_cells.specs.Keeping.{snapshot_at, no_snapshot, at_mark, waiting_goal, Selects, IsFor, IsReadyAt}
use Rattle.le_cells.specs.Turns.{LeadsBy}
use Rattle.le_cells.proofs.Turning.{SameAt, ok-all, same-taken, same-front}
use Rattle.le_cells.proofs.UnderWay.{get-found, leads-same}
use Rattle.le_cells.proofs.Walking.{walked}
use Rattle.le_cells.proofs.returning.search_done.Goals as goal

pub returns-in-Negation-clause-comes : goal.returns-in-Negation-clause-comes
returns-in-Negation-clause-comes c =
    let cells = c.args.goals.now in
    let back = c.undo_to.new.self in
    let w = c.args.waiting in
    let snap : snapshot_at cells.marks w.mark ≡ back.now = get-found cells.marks w.mark back.now no_snapshot c.undo_to.ensures.now in
    let marks : SameAt cells.marks back.marks (map (λ (kept : OpenGoal). kept.mark) (reverse w.search.opens.items)) =
    subst (λ ms. SameAt cells.marks ms (map (λ (kept : OpenGoal). kept.mark) (reverse w.search.opens.items))) (sym c.undo_to.ensures.marks)
    (same-front cells.marks (take (w.mark + 1) cells.marks) (map (λ (kept : OpenGoal). kept.mark) (reverse w.search.opens.items)) c.requires.marked.0
    (same-taken cells.marks (w.mark + 1) w.mark _ (omega arith) c.requires.marked.1)) in
    ok-all _ _
    (λ turn leads program left spare literal atom terms found none keeps selects purpose walks.
    let is : IsFor Negation literal.form atom terms found = subst (λ s. IsFor s literal.form atom terms found) c.in-Negation.is purpose in
    let done_ = walked program cells c.args.inner.now (sub_goal (waiting_goal cells.marks w) literal.line atom terms) spare left found none walks in
    let nodes : done_.0 ≡ c.replace-done.result.nodes.items = sym (done_.2 keeps) ∙ ap (λ s. s.nodes.items) (sym c.replace-done.ensures.value) in
    let same : walk_of (tree program (sub_goal (waiting_goal cells.marks w) literal.line atom []) spare) ≡ (let w : Walk = record { leaves = []; nodes = c.replace-done.result.nodes.items; ending = Done; left = left } in w) =
    ap (λ ts. walk_of (tree program (sub_goal (waiting_goal cells.marks w) literal.line atom ts) spare)) (sym is.2)
    ∙ (done_.1 ∙ (ap (λ ls. let w : Walk = record { leaves = ls; nodes = done_.0; ending = Done; left = left } in w) is.3 ∙ ap (λ ns. let w : Walk = record { leaves = []; nodes = ns; ending = Done; left = left } in w) nodes)) in
    leads-same program (at_mark cells w.mark) back c.lacking.new.goals w.search c.lacking.new.search (waiting_goal cells.marks w) (suc spare) turn left (sym snap) marks
    (subst (λ s. LeadsBy program back s (waiting_goal cells.marks w) (suc spare) c.lacking.new.goals c.lacking.new.search turn left) c.replace-done.ensures.after
    (subst (λ s. LeadsBy program back c.replace-done.new.dest (goal_at s w.goal) (suc spare) c.lacking.new.goals c.lacking.new.search turn left) (sym snap)
    (leads program spare left literal atom (subst (λ s. Selects program (goal_at s w.goal).literals w.place literal) snap selects) is.0 is.1
    (subst (λ s. walk_of (tree program (sub_goal (goal_at s w.goal) literal.line atom []) spare) ≡ (let w : Walk = record { leaves = []; nodes = c.replace-done.result.nodes.items; ending = Done; left = left } in w)) snap same))))) c.lacking.result c.lacking.ensures.leads

pub returns-in-Negation-clause-ready : goal.returns-in-Negation-clause-ready
returns-in-Negation-clause-ready c =
    let cells = c.args.goals.now in
    let w = c.args.waiting in
    let snap : snapshot_at cells.marks w.mark ≡ c.undo_to.new.self.now = get-found cells.marks w.mark c.undo_to.new.self.now no_snapshot c.undo_to.ensures.now in
    ok-all _ _ (λ turn ready left is. ready left (subst (λ s. IsReadyAt left s w.goal) snap is)) c.lacking.result c.lacking.ensures.ready

pub folded-requires-clause-literal : goal.folded-requires-clause-literal
folded-requires-clause-literal c =
    let cells = c.args.goals.now in
    let w = c.args.waiting in
    subst (λ s. HasLiteral s w.goal w.place) (get-found cells.marks w.mark c.undo_to.new.self.now no_snapshot c.undo_to.ensures.now) c.requires.inside

pub folded-requires-clause-next : goal.folded-requires-clause-next
folded-requires-clause-next c =
    let cells = c.args.goals.now in
    let w = c.args.waiting in
    subst (λ s. (goal_at s w.goal).next ≡ s.next) (get-found cells.marks w.mark c.undo_to.new.self.now no_snapshot c.undo_to.ensures.now) c.requires.next

pub returns-clause-comes : goal.returns-clause-comes
returns-clause-comes c =
    let cells = c.args.goals.now in
    let back = c.undo_to.new.self in
    let w = c.args.waiting in
    let snap : snapshot_at cells.marks w.mark ≡ back.now = get-found cells.marks w.mark back.now no_snapshot c.undo_to.ensures.now in
    let marks : SameAt cells.marks back.marks (map (λ (kept : OpenGoal). kept.mark) (reverse w.search.opens.items)) =
    subst (λ ms. SameAt cells.marks ms (map (λ (kept : OpenGoal). kept.mark) (reverse w.search.opens.items))) (sym c.undo_to.ensures.marks)
    (same-front cells.marks (take (w.mark + 1) cells.marks) (map (λ (kept : OpenGoal). kept.mark) (reverse w.search.opens.items)) c.requires.marked.0
    (same-taken cells.marks (w.mark + 1) w.mark _ (omega arith) c.requires.marked.1)) in
    ok-all _ _
    (λ turn leads program left spare literal atom terms found none keeps selects purpose walks.
    let is : IsFor (Gathering c.in-Gather.values) literal.form atom terms found = subst (λ s. IsFor s literal.form atom terms found) c.in-Gather.is purpose in
    let done_ = walked program cells c.args.inner.now (sub_goal (waiting_goal cells.marks w) literal.line atom terms) spare left found none walks in
    let nodes : done_.0 ≡ c.replace-done.result.nodes.items = sym (done_.2 keeps) ∙ ap (λ s. s.nodes.items) (sym c.replace-done.ensures.value) in
    let same : walk_of (tree program (sub_goal (waiting_goal cells.marks w) literal.line atom (is.2 ∷ [])) spare) ≡ (let w : Walk = record { leaves = found; nodes = c.replace-done.result.nodes.items; ending = Done; left = left } in w) =
    ap (λ ts. walk_of (tree program (sub_goal (waiting_goal cells.marks w) literal.line atom ts) spare)) (sym is.5)
    ∙ (done_.1 ∙ ap (λ ns. let w : Walk = record { leaves = found; nodes = ns; ending = Done; left = left } in w) nodes) in
    leads-same program (at_mark cells w.mark) back c.folded.new.goals w.search c.folded.new.search (waiting_goal cells.marks w) (suc spare) turn left (sym snap) marks
    (subst (λ s. LeadsBy program back s (waiting_goal cells.marks w) (suc spare) c.folded.new.goals c.folded.new.search turn left) c.replace-done.ensures.after
    (subst (λ s. LeadsBy program back c.replace-done.new.dest (goal_at s w.goal) (suc spare) c.folded.new.goals c.folded.new.search turn left) (sym snap)
    (leads program spare left literal is.0 is.1 is.2 atom found (subst (λ s. Selects program (goal_at s w.goal).literals w.place literal) snap selects) is.3 is.4 (c.deref.ensures.value ∙ is.6)
    (subst (λ s. walk_of (tree program (sub_goal (goal_at s w.goal) literal.line atom (is.2 ∷ [])) spare) ≡ (let w : Walk = record { leaves = found; nodes = c.replace-done.result.nodes.items; ending = Done; left = left } in w)) snap same))))) c.folded.result c.folded.ensures.leads

pub returns-clause-ready : goal.returns-clause-ready
returns-clause-ready c =
    let cells = c.args.goals.now in
    let w = c.args.waiting in
    let snap : snapshot_at cells.marks w.mark ≡ c.undo_to.new.self.now = get-found cells.marks w.mark c.undo_to.new.self.now no_snapshot c.undo_to.ensures.now in
    ok-all _ _ (λ turn ready left is. ready left (subst (λ s. IsReadyAt left s w.goal) snap is)) c.folded.result c.folded.ensures.ready
