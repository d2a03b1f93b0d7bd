use Rattle.std.proofs.Common.{◌≡◌, ◌-◌, [], ◌∷◌, ◌++◌, ◌∙◌, sym, ap, arith, vec_len, length, subst}
use Rattle.le_conds.specs.Bounds.{AreItemsOver}
use Rattle.le_conds.specs.Openers.{each_end, gather_end}
use Rattle.le_conds.specs.Items.{items_from}
use Rattle.le_conds.proofs.GatherLemmas.{no_each, no_gather}
use Rattle.le_conds.proofs.ItemLemmas.{content_low, content_high, last_one, one_more, same_items, items_over}
use Rattle.le_conds.proofs.cutting.items.Goals as goal
use Rattle.le_conds.proofs.cutting.items.Goals.{in-Some+in_ok-push, in_default}

pub loop-k-init : goal.loop-k-init
loop-k-init c =
    let l = c.args.layout.now in
    let from = c.args.from in
    let e : c.opened-item.result.content.from ≡ from = ap (λ i. i.content.from) c.opened-item.ensures in
    record {
      low = omega arith;
      high = omega arith;
      begun = omega (arith, e);
      each = c.nothing-seen.ensures.each ∙ sym (no_each l c.opened-item.result.content.from from (omega (arith, e)));
      such_that = c.nothing-seen.ensures.such_that ∙ sym (no_gather l c.opened-item.result.content.from from (omega (arith, e)));
      few = omega (arith, c.new-items.ensures.len);
      all = ap (λ xs. xs ++ items_from l c.args.to c.opened-item.result from (c.args.to - from)) c.new-items.ensures.items ∙ ap (λ i. items_from l c.args.to i from (c.args.to - from)) c.opened-item.ensures;
    }

pub further-seen-requires-clause-each : goal.further-seen-requires-clause-each
further-seen-requires-clause-each c =
    let l = c.args.layout.now in
    let k = c.loop-k.k in
    elim c.match-lead_at.branch [
      | in-Some+in_ok-push w ↦
          let e = ap (λ i. i.content.from) (w.item-is ∙ w.opened-item-in-Some.ensures) in
          ap (λ s. s.each) w.seen-is ∙ w.nothing-seen-in-Some.ensures.each ∙ sym (no_each l c.match-lead_at.item.content.from k (omega (arith, e, content_low w.in-Some.lead k)))
      | in_default w ↦ ap (λ s. s.each) w.seen-is ∙ c.loop-k.invariant.each ∙ ap (λ i. each_end l i.content.from k) (sym w.item-is)
    ]

pub further-seen-requires-clause-such_that : goal.further-seen-requires-clause-such_that
further-seen-requires-clause-such_that c =
    let l = c.args.layout.now in
    let k = c.loop-k.k in
    elim c.match-lead_at.branch [
      | in-Some+in_ok-push w ↦
          let e = ap (λ i. i.content.from) (w.item-is ∙ w.opened-item-in-Some.ensures) in
          ap (λ s. s.such_that) w.seen-is ∙ w.nothing-seen-in-Some.ensures.such_that ∙ sym (no_gather l c.match-lead_at.item.content.from k (omega (arith, e, content_low w.in-Some.lead k)))
      | in_default w ↦ ap (λ s. s.such_that) w.seen-is ∙ c.loop-k.invariant.such_that ∙ ap (λ i. gather_end l i.content.from k) (sym w.item-is)
    ]

pub loop-k-preserved : goal.loop-k-preserved
loop-k-preserved c =
    let l = c.args.layout.now in
    let k = c.loop-k.k in
    let to = c.args.to in
    record {
      low = omega arith;
      high = omega arith;
      begun = elim c.match-lead_at.branch [
        | in-Some+in_ok-push w ↦ omega (arith, ap (λ i. i.content.from) (w.item-is ∙ w.opened-item-in-Some.ensures), content_high w.in-Some.lead k)
        | in_default w ↦ omega (arith, ap (λ i. i.content.from) w.item-is)
      ];
      each = c.further-seen.ensures.each;
      such_that = c.further-seen.ensures.such_that;
      few = elim c.match-lead_at.branch [
        | in-Some+in_ok-push w ↦ omega (arith, ap vec_len w.items-is, w.in_ok-push.ensures.len, c.loop-k.invariant.few)
        | in_default w ↦ omega (arith, ap vec_len w.items-is, c.loop-k.invariant.few)
      ];
      all = elim c.match-lead_at.branch [
        | in-Some+in_ok-push w ↦
            one_more l to c.loop-k.item c.match-lead_at.item k w.in-Some.lead c.loop-k.items.items c.match-lead_at.items.items _ c.loop-k-test.true
            (sym c.lead_at.ensures ∙ w.in-Some.is)
            (w.item-is ∙ w.opened-item-in-Some.ensures)
            (ap (λ v. v.items) w.items-is ∙ w.in_ok-push.ensures.items ∙ ap (λ i. c.loop-k.items.items ++ i ∷ []) w.closed.ensures)
            c.loop-k.invariant.all
        | in_default w ↦
            same_items l to c.loop-k.item c.match-lead_at.item k c.loop-k.items.items c.match-lead_at.items.items _ c.loop-k-test.true
            (sym c.lead_at.ensures ∙ w.in_default.is)
            w.item-is
            (ap (λ v. v.items) w.items-is)
            c.loop-k.invariant.all
      ];
    }

pub returns-clause-exact : goal.returns-clause-exact
returns-clause-exact c =
    last_one c.args.layout.now c.args.to c.loop-k.item c.loop-k.k c.loop-k.items.items c.push-2.new.self.items _ (omega arith)
    (c.in_ok-push-2.ensures.items ∙ ap (λ i. c.loop-k.items.items ++ i ∷ []) c.closed-2.ensures)
    c.loop-k.invariant.all

pub returns-clause-over : goal.returns-clause-over
returns-clause-over c =
    let count = length c.args.layout.now.tokens in
    subst (AreItemsOver count) (sym (returns-clause-exact c)) (items_over c.args.layout.now c.args.from c.args.to count c.requires.ordered c.requires.inside)
