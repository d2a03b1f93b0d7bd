use Rattle.std.proofs.Common.{◌∙◌, sym, ap, length}
use Rattle.le_conds.specs.Members.{inside, before_marker, from_marker}
use Rattle.le_conds.specs.Faults.{marker_faults, for_all_faults, opener_faults, least_onto}
use Rattle.le_conds.specs.Stack.{stacked, scope_of}
use Rattle.le_conds.proofs.StackLaws.{before_from}
use Rattle.le_conds.proofs.StackLemmas.{least-append}
use Rattle.le_conds.proofs.StepLemmas.{scope_split, last_part, first_part}
use Rattle.le_conds.proofs.shape.item_fault.Goals as goal

pub returns-in-Nothing : goal.returns-in-Nothing
returns-in-Nothing c = λ ms same counted.
    let e = c.args.entry in
    let o = e.opens in
    c.headed_fault.ensures (inside e.column ms) (c.split_at.ensures.back ∙ last_part (scope_of o e ms) _ ms c.args.waiting.now c.args.count same (scope_split o e ms) counted ∙ ap (λ x. stacked (scope_of x e ms)) c.in-Nothing.is)
    ∙ ap (λ x. least_onto (opener_faults x e ms) c.args.least) (sym c.in-Nothing.is)

pub returns-in-Negation : goal.returns-in-Negation
returns-in-Negation c = λ ms same counted.
    let e = c.args.entry in
    let o = e.opens in
    c.negation_fault.ensures _ (c.split_at.ensures.back ∙ last_part (scope_of o e ms) _ ms c.args.waiting.now c.args.count same (scope_split o e ms) counted ∙ ap (λ x. stacked (scope_of x e ms)) c.in-Negation.is)
    ∙ ap (λ x. least_onto (opener_faults x e ms) c.args.least) (sym c.in-Negation.is)

pub returns-in-Second : goal.returns-in-Second
returns-in-Second c = λ ms same counted.
    let e = c.args.entry in
    let o = e.opens in
    c.scope_fault.ensures _ (c.split_at.ensures.back ∙ last_part (scope_of o e ms) _ ms c.args.waiting.now c.args.count same (scope_split o e ms) counted ∙ ap (λ x. stacked (scope_of x e ms)) c.in-Second.is)
    ∙ ap (λ x. least_onto (opener_faults x e ms) c.args.least) (sym c.in-Second.is)

pub returns-in-Gather : goal.returns-in-Gather
returns-in-Gather c = λ ms same counted.
    let e = c.args.entry in
    let o = e.opens in
    c.scope_fault-in-Gather.ensures _ (c.split_at.ensures.back ∙ last_part (scope_of o e ms) _ ms c.args.waiting.now c.args.count same (scope_split o e ms) counted ∙ ap (λ x. stacked (scope_of x e ms)) c.in-Gather.is)
    ∙ ap (λ x. least_onto (opener_faults x e ms) c.args.least) (sym c.in-Gather.is)

pub returns-in-ForAll : goal.returns-in-ForAll
returns-in-ForAll c = λ ms same counted.
    let e = c.args.entry in
    let o = e.opens in
    let items = c.args.waiting.now in
    let before = counted ∙ ap (λ x. length (scope_of x e ms)) c.in-ForAll.is in
    c.marker_fault.ensures (from_marker ms) (c.split_at.ensures.front ∙ first_part (before_marker ms) (from_marker ms) ms items c.args.count same (before_from ms) before)
    ∙ ap (least_onto (marker_faults e (from_marker ms)))
    (c.for_all_fault.ensures (before_marker ms) (c.split_at.ensures.back ∙ last_part (before_marker ms) (from_marker ms) ms items c.args.count same (before_from ms) before))
    ∙ sym (least-append (marker_faults e (from_marker ms)) (for_all_faults e (before_marker ms)) c.args.least)
    ∙ ap (λ x. least_onto (opener_faults x e ms) c.args.least) (sym c.in-ForAll.is)
