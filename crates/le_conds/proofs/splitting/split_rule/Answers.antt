use Rattle.std.proofs.Common.{◌+◌, ◌++◌, ◌∙◌, sym, ap, arith, length, Some, None, Ok, Err, List, Option}
use Rattle.le_conds.specs.declared.cond.Cond.{Cond}
use Rattle.le_layout.specs.declared.fault.Fault.{Fault}
use Rattle.le_conds.specs.Items.{span}
use Rattle.le_conds.specs.Faults.{conclusion_faults, condition_faults, least_onto, least_of}
use Rattle.le_conds.specs.Rules.{unless_fault, conditions_among, conds_of}
use Rattle.le_conds.proofs.StackLemmas.{least-append}
use Rattle.le_conds.proofs.TreeLaws.{nil_left, nil_right}
use Rattle.le_conds.proofs.RuleLemmas.{rule_here}
use Rattle.le_conds.proofs.SoundLemmas.{least_none, conclusion_part, conditions_tree}
use Rattle.le_conds.proofs.splitting.split_rule.Goals as goal

pub returns-in-Some-conclusion_fault-clause-exact : goal.returns-in-Some-conclusion_fault-clause-exact
returns-in-Some-conclusion_fault-clause-exact c =
    let l = c.args.layout.now in
    let s = c.args.sentence in
    let k = c.first_if-end.result in
    let es = conditions_among l k (k + 1) s.to in
    let conclusion = span s.from k in
    rule_here l s k c.first_if-end.ensures.exact (omega (arith, c.if-end-sentence.false, c.first_if-end.ensures.high))
    ∙ ap (λ (f : Option Fault). unless_fault l f (conclusion, Some (conds_of es)))
    (least-append (conclusion_faults l conclusion) (condition_faults l es) None ∙ ap (least_onto (conclusion_faults l conclusion)) (sym c.in_ok-found.ensures.fault) ∙ sym c.conclusion_fault-2.ensures ∙ c.in-Some-conclusion_fault.is)
    ∙ ap Err (sym c.refusal-in-Some-conclusion_fault.ensures)

pub returns-in-None-conclusion_fault-clause-exact : goal.returns-in-None-conclusion_fault-clause-exact
returns-in-None-conclusion_fault-clause-exact c =
    let l = c.args.layout.now in
    let s = c.args.sentence in
    let k = c.first_if-end.result in
    let es = conditions_among l k (k + 1) s.to in
    let conclusion = span s.from k in
    rule_here l s k c.first_if-end.ensures.exact (omega (arith, c.if-end-sentence.false, c.first_if-end.ensures.high))
    ∙ ap (λ (f : Option Fault). unless_fault l f (conclusion, Some (conds_of es)))
    (least-append (conclusion_faults l conclusion) (condition_faults l es) None ∙ ap (least_onto (conclusion_faults l conclusion)) (sym c.in_ok-found.ensures.fault) ∙ sym c.conclusion_fault-2.ensures ∙ c.in-None-conclusion_fault.is)
    ∙ ap (λ (ns : List Cond). Ok (conclusion, Some (record { nodes = ns }))) (sym (c.conds.ensures ∙ c.in_ok-found.ensures.nodes))

pub returns-in-None-conclusion_fault-clause-conclusion : goal.returns-in-None-conclusion_fault-clause-conclusion
returns-in-None-conclusion_fault-clause-conclusion c =
    let l = c.args.layout.now in
    let s = c.args.sentence in
    let k = c.first_if-end.result in
    let es = conditions_among l k (k + 1) s.to in
    let conclusion = span s.from k in
    conclusion_part l conclusion (omega (arith, c.first_if-end.ensures.high, c.requires.sentence.within))
    (nil_left (conclusion_faults l conclusion) (condition_faults l es)
    (least_none (conclusion_faults l conclusion ++ condition_faults l es)
    (least-append (conclusion_faults l conclusion) (condition_faults l es) None ∙ ap (least_onto (conclusion_faults l conclusion)) (sym c.in_ok-found.ensures.fault) ∙ sym c.conclusion_fault-2.ensures ∙ c.in-None-conclusion_fault.is)))

pub returns-in-None-conclusion_fault-clause-conditions : goal.returns-in-None-conclusion_fault-clause-conditions
returns-in-None-conclusion_fault-clause-conditions c =
    let l = c.args.layout.now in
    let s = c.args.sentence in
    let k = c.first_if-end.result in
    let es = conditions_among l k (k + 1) s.to in
    let conclusion = span s.from k in
    let none_wrong = nil_right (conclusion_faults l conclusion) (condition_faults l es)
    (least_none (conclusion_faults l conclusion ++ condition_faults l es)
    (least-append (conclusion_faults l conclusion) (condition_faults l es) None ∙ ap (least_onto (conclusion_faults l conclusion)) (sym c.in_ok-found.ensures.fault) ∙ sym c.conclusion_fault-2.ensures ∙ c.in-None-conclusion_fault.is)) in
    let nodes = ap length c.conds.ensures in
    conditions_tree l k (k + 1) s.to s.to c.conds.result (omega (arith, c.if-end-sentence.false, c.first_if-end.ensures.high)) c.requires.sentence.within
    (ap least_of none_wrong) (c.conds.ensures ∙ c.in_ok-found.ensures.nodes) (omega (arith, nodes, c.in_ok-found.ensures.few))
