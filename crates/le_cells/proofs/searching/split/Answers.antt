use Rattle.std.proofs.Common.{rules, ◌≡◌, ◌∷◌, ◌++◌, [], List, ℕ, length, ap, ap₂, ◌∙◌, append-nil}
use Rattle.le_cells.specs.declared.goals.OpenGoal.{OpenGoal}
use Rattle.le_cells.specs.declared.goals.Search.{Search}
use Rattle.le_cells.specs.Turns.{opened}
use Rattle.le_cells.proofs.Walking.{split-leads}
use Rattle.le_cells.proofs.searching.split.Goals as goal

pub returns-clause-leads : goal.returns-clause-leads
returns-clause-leads c = λ left program literal atom selects is.
    let before : Search = c.args.search.now in
    let ext = c.in_ok-note.ensures in
    let after : Search = record { keeps = c.note.new.search.keeps; path = c.note.new.search.path; nodes = c.note.new.search.nodes; opens = c.push.new.self } in
    let path : c.note.new.search.path.items ≡ before.path.items = ext.path_ ∙ append-nil before.path.items in
    let long : c.len.result ≡ length c.note.new.search.path.items = search rules in
    let steps : c.len.result ≡ length before.path.items = long ∙ ap length path in
    let split : c.len-split.result ≡ length before.nodes.items = search rules in
    let number : c.in_ok-mark.mark ≡ length c.args.goals.now.marks = c.in_ok-mark.ensures.number in
    let of : List OpenGoal → OpenGoal → List OpenGoal = λ os k. os ++ k ∷ [] in
    let kept : (let k : OpenGoal = record { mark = c.in_ok-mark.mark; goal = c.args.goal; place = c.args.place; from = 0; steps = c.len.result; split = c.len-split.result; children = 0 } in k) ≡ opened c.args.goals.now before c.args.goal c.args.place =
    ap (λ n. let k : OpenGoal = record { mark = n; goal = c.args.goal; place = c.args.place; from = 0; steps = c.len.result; split = c.len-split.result; children = 0 } in k) number
    ∙ ap₂ (λ m n. let k : OpenGoal = record { mark = length c.args.goals.now.marks; goal = c.args.goal; place = c.args.place; from = 0; steps = m; split = n; children = 0 } in k) steps split in
    split-leads program c.args.goals.now c.mark.new.self before after c.args.goal c.args.place literal atom left c.requires.marked.0 c.requires.marked.1 c.in_ok-mark.ensures.marks selects is ext.keeps_ path
    (c.in_ok-push.ensures.items ∙ ap₂ of ext.opens_ kept) ext.nodes_
