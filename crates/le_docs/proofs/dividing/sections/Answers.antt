use Rattle.std.proofs.Common.{List, length, subst, Some, None, Result, Ok, Err, sym, ap, ◌∙◌}
use Rattle.std.specs.List.{All}
use Rattle.le_docs.specs.Bounds.{IsSectionOver}
use Rattle.le_base.specs.declared.stop.Refusal.{Refusal}
use Rattle.le_docs.specs.declared.doc.Section.{Section}
use Rattle.le_docs.specs.declared.doc.Doc.{Doc}
use Rattle.le_docs.proofs.SectionLemmas.{all_least, decided_as}
use Rattle.le_docs.proofs.dividing.sections.Goals as goal

pub returns-in-None : goal.returns-in-None
returns-in-None c =
    let l = c.args.layout.now in
    let ok : List Section → Result Doc Refusal = λ xs. Ok (record { sections = xs }) in
    let heads = c.as_slice.result.now in
    let secs = c.as_slice-sections.result.now in
    let all = all_least l heads secs c.in_ok-found.found.least c.in_ok-divided.divided.least c.in_ok-least.least c.in_ok-least-2.least
    (c.as_slice.ensures.value ∙ c.in_ok-found.ensures.heads) (c.as_slice-sections.ensures.value ∙ c.in_ok-divided.ensures.sections)
    c.in_ok-found.ensures.least c.in_ok-divided.ensures.least c.in_ok-least.ensures c.in_ok-least-2.ensures in
    record { exact = decided_as l None c.in_ok-least-2.least secs all c.in-None.is ∙ ap ok (c.as_slice-sections.ensures.value ∙ sym c.from_vec.ensures); within = subst (All (IsSectionOver (length l.tokens))) (sym c.from_vec.ensures) c.in_ok-divided.ensures.within }

pub returns : goal.returns
returns c =
    let l = c.args.layout.now in
    let heads = c.as_slice.result.now in
    let secs = c.as_slice-sections.result.now in
    let all = all_least l heads secs c.in_ok-found.found.least c.in_ok-divided.divided.least c.in_ok-least.least c.in_ok-least-2.least
    (c.as_slice.ensures.value ∙ c.in_ok-found.ensures.heads) (c.as_slice-sections.ensures.value ∙ c.in_ok-divided.ensures.sections)
    c.in_ok-found.ensures.least c.in_ok-divided.ensures.least c.in_ok-least.ensures c.in_ok-least-2.ensures in
    record { exact = decided_as l (Some c.in-Some.fault) c.in_ok-least-2.least secs all c.in-Some.is ∙ ap Err (sym c.refusal.ensures); within = tt }
