use Rattle.std.proofs.Common.{ap, sym, reverse, ◌∙◌}
use Rattle.le_clauses.proofs.DraftSteps.{dones_onto, dones_last, dones_all, reverse_last}
use Rattle.le_clauses.proofs.drafting.translated.Goals as goal

pub loop-mark-init : goal.loop-mark-init
loop-mark-init c =
    ap (λ xs. dones_onto c.args.rule.now c.args.marks.items (reverse xs)) c.new-stack.ensures.items ∙ dones_all c.args.rule.now c.args.marks.items

pub loop-mark-preserved-in_ok-push : goal.loop-mark-preserved-in_ok-push
loop-mark-preserved-in_ok-push c =
    let rule = c.args.rule.now in
    let rest = c.pop.new.self.items in
    let stack = c.loop-mark.stack.items in
    ap (λ xs. dones_onto rule rest (reverse xs)) c.in_ok-push.ensures.items
    ∙ ap (dones_onto rule rest) (reverse_last c.done.new.stack.items c.in_ok-done.done ∙ c.in_ok-done.ensures)
    ∙ sym (dones_last rule rest c.in-Some.mark (reverse stack))
    ∙ ap (λ ms. dones_onto rule ms (reverse stack)) (sym c.in-Some.ensures.items)
    ∙ c.loop-mark.invariant

pub loop-mark-preserved-in_ok-push-2 : goal.loop-mark-preserved-in_ok-push-2
loop-mark-preserved-in_ok-push-2 c =
    let rule = c.args.rule.now in
    let rest = c.pop.new.self.items in
    let stack = c.loop-mark.stack.items in
    ap (λ xs. dones_onto rule rest (reverse xs)) c.in_ok-push.ensures.items
    ∙ ap (dones_onto rule rest) (reverse_last c.done.new.stack.items c.in_ok-done.done ∙ c.in_ok-done.ensures)
    ∙ sym (dones_last rule rest c.in-Some.mark (reverse stack))
    ∙ ap (λ ms. dones_onto rule ms (reverse stack)) (sym c.in-Some.ensures.items)
    ∙ c.loop-mark.invariant

pub loop-mark-preserved : goal.loop-mark-preserved
loop-mark-preserved c =
    let rule = c.args.rule.now in
    let rest = c.pop.new.self.items in
    let stack = c.loop-mark.stack.items in
    ap (λ xs. dones_onto rule rest (reverse xs)) c.in_ok-push.ensures.items
    ∙ ap (dones_onto rule rest) (reverse_last c.done.new.stack.items c.in_ok-done.done ∙ c.in_ok-done.ensures)
    ∙ sym (dones_last rule rest c.in-Some.mark (reverse stack))
    ∙ ap (λ ms. dones_onto rule ms (reverse stack)) (sym c.in-Some.ensures.items)
    ∙ c.loop-mark.invariant
