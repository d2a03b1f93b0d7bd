use Rattle.std.proofs.Common.{◌≡◌, ◌≤◌, ◌-◌, length, drop, sym, ap, ◌∙◌, arith, take_all, length-drop}
use Rattle.std.proofs.lemmas.Bool.{not-true, not-false}
use Rattle.le_prooftext.specs.Reading.{natural_of, count_of}
use Rattle.le_prooftext.proofs.Counts.{count_of-short, count_of-other, count_of-begins, reads_count}
use Rattle.le_prooftext.proofs.line.count_of.Goals as goal
use Rattle.le_prooftext.proofs.line.count_of.Goals.{After-natural_of}

pub returns-then-line-clause-value : goal.returns-then-line-clause-value
returns-then-line-clause-value c = sym (count_of-short c.args.line.now (omega arith))

pub returns-then-ne-clause-value : goal.returns-then-ne-clause-value
returns-then-ne-clause-value c = sym (count_of-other c.args.line.now (not-true _ (sym c.ne.ensures ∙ c.if-ne.true)))

value : (c : After-natural_of) → c.natural_of.result ≡ count_of c.args.line.now
value c =
    let all : length (drop 11 c.args.line.now) ≤ length c.args.line.now - 11 = omega (arith, length-drop 11 c.args.line.now) in
    c.natural_of.ensures ∙ (ap natural_of (take_all _ _ all) ∙ sym (count_of-begins c.args.line.now (not-false _ (sym c.ne.ensures ∙ c.if-ne.false))))

pub returns-clause-value : goal.returns-clause-value
returns-clause-value c = value c

pub returns-clause-exact : goal.returns-clause-exact
returns-clause-exact c = reads_count c.args.line.now _ (value c)
