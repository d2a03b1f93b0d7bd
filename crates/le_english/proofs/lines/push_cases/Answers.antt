use Rattle.std.proofs.Common.{◌∙◌, ap, ◌++◌}
use Rattle.le_english.proofs.LineSteps.{six}
use Rattle.le_english.proofs.lines.push_cases.Goals as goal

pub returns : goal.returns
returns c =
    six _ _ _ _ _ _ _ _ _ _ _ _ _ c.in_ok-push_str.ensures.ok
    (c.in_ok-push_str-2.ensures.ok ∙ ap (λ t. c.push_str.new.self ++ t) c.fold_word.ensures)
    c.in_ok-push_str-3.ensures.ok c.in_ok-push_number.ensures c.in_ok-push_str-4.ensures.ok c.in_ok-push_number-2.ensures
