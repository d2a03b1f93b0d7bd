use Rattle.std.specs.Option.{option_to_list}
use Rattle.std.proofs.Common.{◌∙◌}
use Rattle.le_docs.proofs.SectionLemmas.{section_least}
use Rattle.le_docs.proofs.cutting.section.Goals as goal

pub returns-clause-least : goal.returns-clause-least
returns-clause-least c =
    section_least c.args.layout.now c.args.head c.args.to c.args.least c.with_target_fault-least.result c.with_open_fault-least.result c.with_query_fault-least.result c.is.result c.as_slice.result.now (option_to_list c.in_ok-cut.cut.unended)
    c.is.ensures (c.as_slice.ensures.value ∙ c.in_ok-cut.ensures.sentences) c.in_ok-cut.ensures.unended c.with_target_fault-least.ensures c.with_open_fault-least.ensures c.with_query_fault-least.ensures
