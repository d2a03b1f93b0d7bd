use Rattle.std.proofs.Common.{rules, ◌≡◌, ◌++◌}
use Rattle.le_listing.specs.ClauseText.{joint}
use Rattle.le_listing.proofs.Steps.{literal_step}
use Rattle.le_listing.proofs.atoms.push_body.Goals as goal

pub loop-literal-preserved : goal.loop-literal-preserved
loop-literal-preserved c =
    let written : c.push_str.new.self ≡ c.loop-literal.text ++ joint c.loop-literal.is_first = search rules in
    literal_step c.args.whole.now c.args.vars.now c.loop-literal.is_first c.args.literals.now c.loop-literal.literal-index c.literal-item.result c.loop-literal.text c.push_str.new.self c.push_form.new.text _
    c.loop-literal-test.true c.literal-item.is written c.in_ok-push_form.ensures c.loop-literal.invariant
