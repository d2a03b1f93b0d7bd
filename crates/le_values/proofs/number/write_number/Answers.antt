use Rattle.std.proofs.Common.{◌≡◌, ◌∙◌, ap, FitsSigned, w64}
use Rattle.std.specs.Fmt.{signed_decimal}
use Rattle.std.proofs.lemmas.Result.{IfOk-weaker}
use Rattle.std.proofs.lemmas.Int.{to_z-of_z}
use Rattle.le_values.specs.Numbers.{number_of}
use Rattle.le_values.proofs.NumberLemmas.{written}
use Rattle.le_values.proofs.number.write_number.Goals as goal

pub returns-clause-reads_back : goal.returns-clause-reads_back
returns-clause-reads_back c =
    let fits : FitsSigned w64 c.args.n = c.ranges.n in
    let text : c.format.result.now ≡ signed_decimal c.args.n = simp to_z-of_z at c.format.ensures.text in
    IfOk-weaker c.of.result _ _ (λ t e. ap number_of (e ∙ text) ∙ written c.args.n c.requires) c.of.ensures
