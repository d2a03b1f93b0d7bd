use Rattle.std.proofs.Common.{◌∷◌, [], codes}
use Rattle.std.specs.Fmt.{decimal}
use Rattle.le_prooftext.proofs.WrittenLines.{three_written}
use Rattle.le_prooftext.proofs.text.push_count.Goals as goal

pub returns : goal.returns
returns c =
    three_written c.push_str-2.result (codes "derivation ") (decimal c.args.count) (10 ∷ []) c.args.text.now c.push_str.new.self c.push_natural.new.text c.push_str-2.new.self c.in_ok-push_str.ensures.ok c.in_ok-push_natural.ensures c.push_str-2.ensures.ok
