use Rattle.std.proofs.Common.{◌==◌, ◌≤◌, length, sym, ◌∙◌, arith}
use Rattle.std.specs.List.{list_any}
use Rattle.le_terms.specs.Walks.{symbol_variables}
use Rattle.le_literals.proofs.Walks.{any-here, any-other, past-item, at-end}
use Rattle.le_literals.proofs.covering.has_variable.Goals.{in-Var+else-var-other, in_default}
use Rattle.le_literals.proofs.covering.has_variable.Goals as goal

pub returns-then-var-other : goal.returns-then-var-other
returns-then-var-other c = sym (c.loop-sym.invariant ∙ any-here c.args.var c.args.among.now c.loop-sym.sym-index _ c.loop-sym-test.true c.in-Var.other c.in-Var.is c.if-var-other.true)

pub loop-sym-preserved : goal.loop-sym-preserved
loop-sym-preserved c = elim c.match-sym.branch [
  | in-Var+else-var-other w ↦ c.loop-sym.invariant ∙ any-other c.args.var c.args.among.now c.loop-sym.sym-index _ c.loop-sym-test.true w.in-Var.other w.in-Var.is w.if-var-other.false
  | in_default w ↦ c.loop-sym.invariant ∙ past-item (list_any (λ w'. c.args.var == w')) c.args.among.now c.loop-sym.sym-index _ c.loop-sym-test.true w.in_default.not-Var
]

pub returns : goal.returns
returns c =
    let past : length c.args.among.now ≤ c.loop-sym.sym-index = omega (arith, c.loop-sym-test.false) in
    sym (c.loop-sym.invariant ∙ at-end (λ s. list_any (λ w. c.args.var == w) (symbol_variables s)) c.args.among.now c.loop-sym.sym-index past)
