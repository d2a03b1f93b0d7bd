use Rattle.std.proofs.Common.{rules, ◌≡◌, ◌∷◌, ◌++◌, [], List, length, ap, ap₂, ◌∙◌, append-nil}
use Rattle.le_machine.specs.declared.goals.OpenGoal.{OpenGoal}
use Rattle.le_machine.specs.declared.goals.Search.{Search}
use Rattle.le_machine.proofs.Walking.{opened, split-leads}
use Rattle.le_machine.proofs.searching.split.Goals as goal

pub returns-clause-leads : goal.returns-clause-leads
returns-clause-leads c = λ program left literal atom selects is.
    let before : Search = c.args.search.now in
    let ext = c.in_ok-note.ensures in
    let after : Search = record { keeps = c.note.new.search.keeps; path = c.note.new.search.path; nodes = c.note.new.search.nodes; opens = c.push.new.self } in
    let path : c.note.new.search.path.items ≡ before.path.items = ext.path_ ∙ append-nil before.path.items in
    let long : c.len.result ≡ length c.note.new.search.path.items = search rules in
    let steps : c.len.result ≡ length before.path.items = long ∙ ap length path in
    let split : c.len-split.result ≡ length before.nodes.items = search rules in
    let of : List OpenGoal → OpenGoal → List OpenGoal = λ os k. os ++ k ∷ [] in
    let kept : (let k : OpenGoal = record { goal = c.args.goal; place = c.args.place; from = 0; steps = c.len.result; split = c.len-split.result; children = 0 } in k) ≡ opened before c.args.goal c.args.place =
    ap₂ (λ m n. let k : OpenGoal = record { goal = c.args.goal; place = c.args.place; from = 0; steps = m; split = n; children = 0 } in k) steps split in
    split-leads program before after c.args.goal c.args.place literal atom left selects is ext.keeps_ path (c.in_ok-push.ensures.items ∙ ap₂ of ext.opens_ kept) ext.nodes_
