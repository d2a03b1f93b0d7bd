use Rattle.std.proofs.Common.{◌≡◌, ◌+◌, ◌<◌, length, Some, ap, sym, ◌∙◌, arith}
use Rattle.std.specs.ControlFlow.{continue_value}
use Rattle.le_tool.proofs.JobLemmas.{options_more, options_odd}
use Rattle.le_tool.proofs.jobs.read_options.Goals as goal

pub returns-then-at-words-clause-exact : goal.returns-then-at-words-clause-exact
returns-then-at-words-clause-exact c =
    sym (options_odd c.args.words.now c.loop-at.at c.loop-at.options c.if-at-words.true) ∙ c.loop-at.invariant.0

pub loop-at-preserved : goal.loop-at-preserved
loop-at-preserved c =
    let some : c.with_option.result ≡ Some c.in_ok-options.options = c.branch-options.ensures ∙ ap continue_value c.in_ok-options.is in
    let low : c.loop-at.at + 1 < length c.args.words.now = omega (arith, c.if-at-words.false, c.loop-at-test.true) in
    let more = options_more c.args.words.now c.loop-at.at c.loop-at.options c.in_ok-options.options _ _ _ _ low c.index-words-at.is c.index-words-at-in-loop-at.is c.as_str.ensures.value c.as_str-in-loop-at.ensures.value (sym c.with_option.ensures.exact ∙ some) in
    (sym more ∙ c.loop-at.invariant.0, rw some at (c.with_option.ensures.within (length c.args.words.now) low c.loop-at.invariant.1))
