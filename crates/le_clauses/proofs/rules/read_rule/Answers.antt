use Rattle.le_clauses.proofs.ReadSteps.{rule_counted}
use Rattle.le_clauses.proofs.rules.read_rule.Goals as goal

pub returns : goal.returns
returns c =
    let a = c.args in
    record { exact = λ names. rw (rule_counted a.templates.now a.count.now a.groups.now.items c.deref.result.now a.begin a.head names a.parts.items c.in_ok-pred.pred c.in_ok-rule.rule.clauses c.in_ok-rule.rule.kinds c.deref.ensures.value c.in_ok-pred.ensures c.in_ok-rule.ensures.clauses c.in_ok-rule.ensures.kinds) (c.counted_rule.ensures.exact names) }
