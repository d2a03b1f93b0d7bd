use Rattle.std.proofs.Common.{◌≡◌, suc, [], ◌∷◌, sym, ap, subst, ◌∙◌}
use Rattle.le_proofs.specs.Goals.{sub_goal}
use Rattle.le_proofs.specs.Search.{tree}
use Rattle.le_proofs.specs.declared.next.Next.TheVariants.{Done}
use Rattle.le_derivations.specs.Walks.{Walk, walk_of}
use Rattle.le_machine.specs.declared.goals.SubSearch.TheVariants.{Negation, Gather as Gathering}
use Rattle.le_machine.specs.Keeping.{goal_of, IsFor}
use Rattle.le_machine.specs.Turns.{LeadsBy}
use Rattle.le_machine.proofs.Turning.{ok-all}
use Rattle.le_machine.proofs.Walking.{walked}
use Rattle.le_machine.proofs.returning.search_done.Goals as goal

pub returns-in-Negation-clause-comes : goal.returns-in-Negation-clause-comes
returns-in-Negation-clause-comes c =
    let g = c.args.waiting.goal in
    ok-all _ _
    (λ turn leads program left spare literal atom terms found none keeps selects purpose walks.
    let is : IsFor Negation literal.form atom terms found = subst (λ s. IsFor s literal.form atom terms found) c.in-Negation.is purpose in
    let done_ = walked program c.args.inner.now (sub_goal (goal_of g) literal.line atom terms) spare left found none walks in
    let nodes : done_.0 ≡ c.replace-done.result.nodes.items = sym (done_.2 keeps) ∙ ap (λ s. s.nodes.items) (sym c.replace-done.ensures.value) in
    let same : walk_of (tree program (sub_goal (goal_of g) literal.line atom []) spare) ≡ (let w : Walk = record { leaves = []; nodes = c.replace-done.result.nodes.items; ending = Done; left = left } in w) =
    ap (λ ts. walk_of (tree program (sub_goal (goal_of g) literal.line atom ts) spare)) (sym is.2)
    ∙ (done_.1 ∙ (ap (λ ls. let w : Walk = record { leaves = ls; nodes = done_.0; ending = Done; left = left } in w) is.3 ∙ ap (λ ns. let w : Walk = record { leaves = []; nodes = ns; ending = Done; left = left } in w) nodes)) in
    subst (λ s. LeadsBy program s (goal_of g) (suc spare) c.lacking.new.search turn left) c.replace-done.ensures.after (leads program spare left literal atom selects is.0 is.1 same)) c.lacking.result c.lacking.ensures.leads

pub returns-in-Gather-clause-comes : goal.returns-in-Gather-clause-comes
returns-in-Gather-clause-comes c =
    let g = c.args.waiting.goal in
    ok-all _ _
    (λ turn leads program left spare literal atom terms found none keeps selects purpose walks.
    let is : IsFor (Gathering c.in-Gather.values) literal.form atom terms found = subst (λ s. IsFor s literal.form atom terms found) c.in-Gather.is purpose in
    let done_ = walked program c.args.inner.now (sub_goal (goal_of g) literal.line atom terms) spare left found none walks in
    let nodes : done_.0 ≡ c.replace-done.result.nodes.items = sym (done_.2 keeps) ∙ ap (λ s. s.nodes.items) (sym c.replace-done.ensures.value) in
    let same : walk_of (tree program (sub_goal (goal_of g) literal.line atom (is.2 ∷ [])) spare) ≡ (let w : Walk = record { leaves = found; nodes = c.replace-done.result.nodes.items; ending = Done; left = left } in w) =
    ap (λ ts. walk_of (tree program (sub_goal (goal_of g) literal.line atom ts) spare)) (sym is.5)
    ∙ (done_.1 ∙ ap (λ ns. let w : Walk = record { leaves = found; nodes = ns; ending = Done; left = left } in w) nodes) in
    subst (λ s. LeadsBy program s (goal_of g) (suc spare) c.folded.new.search turn left) c.replace-done.ensures.after
    (leads program spare left literal is.0 is.1 is.2 atom found selects is.3 is.4 (c.deref.ensures.value ∙ is.6) same)) c.folded.result c.folded.ensures.leads
