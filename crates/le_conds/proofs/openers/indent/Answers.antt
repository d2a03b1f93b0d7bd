use Rattle.std.proofs.Common.{◌≡◌, ◌-◌, ◌∙◌, sym, ap, arith}
use Rattle.le_layout.specs.Words.{token_of}
use Rattle.le_conds.specs.Openers.{line_begin}
use Rattle.le_conds.proofs.LineLemmas.{begin_back, begin_here, begin_zero}
use Rattle.le_conds.proofs.openers.indent.Goals as goal
use Rattle.le_conds.proofs.openers.indent.Goals.{then-loop-begin-test+else-not-is_first, else-loop-begin-test}

pub loop-begin-preserved : goal.loop-begin-preserved
loop-begin-preserved c = record {
  inside = omega arith;
  begin = begin_back c.args.layout.now c.loop-begin.begin c.loop-begin-test.true (sym c.is_first.ensures ∙ c.if-not-is_first.true) ∙ c.loop-begin.invariant.begin;
}

pub returns : goal.returns
returns c =
    let l = c.args.layout.now in
    let here : line_begin l c.loop-begin.begin ≡ c.loop-begin.begin = elim c.loop-begin-test.branch [
      | then-loop-begin-test+else-not-is_first w ↦ begin_here l c.loop-begin.begin w.loop-begin-test.true (sym w.is_first.ensures ∙ w.if-not-is_first.false)
      | else-loop-begin-test w ↦ begin_zero l c.loop-begin.begin (omega (arith, w.loop-begin-test.false))
    ] in
    c.saturating_sub.ensures ∙ ap (λ t. t.column - 1) c.token.ensures ∙ ap (λ k. (token_of l k).column - 1) (sym here ∙ c.loop-begin.invariant.begin)
