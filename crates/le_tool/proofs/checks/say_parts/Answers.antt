use Rattle.std.proofs.Common.{ap, sym, ◌∙◌}
use Rattle.le_bundle.specs.Parts.{bundle_by}
use Rattle.le_tool.specs.Checks.{parts_report}
use Rattle.le_tool.specs.Documents.{document_by}
use Rattle.le_tool.proofs.ChecksLemmas.{same_part}
use Rattle.le_tool.proofs.checks.say_parts.Goals as goal

pub returns-in-Ok-clause-part : goal.returns-in-Ok-clause-part
returns-in-Ok-clause-part g c =
    same_part _ _ _ _ (ap (parts_report (bundle_by c.args.parts.now)) (sym (ap (λ n. document_by n c.args.parts.now.document.now) (sym c.part_length.ensures.exact) ∙ c.in-Ok.ensures.exact))) c.say_checked.ensures.part
