use Rattle.std.proofs.Common.{◌<◌, ◌∙◌, length, sym, arith}
use Rattle.std.proofs.lemmas.Bool.{eqb-false}
use Rattle.le_bundle.specs.Lines.{lines_of}
use Rattle.le_bundle.proofs.ReadLemmas.{ending_more}
use Rattle.le_bundle.proofs.opening.ending.Goals as goal

pub returns-then-not-is_empty : goal.returns-then-not-is_empty
returns-then-not-is_empty c =
    let now = c.ending_line.new.reader in
    let some : 0 < length now.rest.now = omega (arith, eqb-false (length now.rest.now) 0 (sym c.is_empty.ensures ∙ c.if-not-is_empty.true)) in
    ending_more c.args.budget c.args.most c.args.reader.now.number (lines_of c.args.reader.now.rest.now) c.in_ok-line.line.now now.rest.now now.number some c.in_ok-line.ensures
