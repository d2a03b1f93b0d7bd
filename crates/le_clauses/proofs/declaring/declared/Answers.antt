use Rattle.std.proofs.Common.{◌+◌, [], drop, sym, ap, ◌∙◌}
use Rattle.std.proofs.lemmas.Result.{err_from_is_err_and}
use Rattle.le_clauses.specs.Pieces.{declared_after, template_spans}
use Rattle.le_clauses.proofs.Exits.{handed_on}
use Rattle.le_clauses.proofs.DeclareSteps.{section_more, section_other, section_stop, sections_end}
use Rattle.le_clauses.proofs.declaring.declared.Goals as goal
use Rattle.le_clauses.proofs.declaring.declared.Goals.{then-is+in_ok-declare_each, else-is}

pub returns-in_err-declare_each : goal.returns-in_err-declare_each
returns-in_err-declare_each c =
    let l = c.args.layout.now in
    let p = err_from_is_err_and c.from_residual-in_err-declare_each.result c.from_residual-in_err-declare_each.ensures.1 in
    record {
      exact = rw (p.1, p.2) (handed_on (declared_after l c.loop-section.templates c.as_slice.result.now) (declared_after l [] (template_spans c.args.sections.now)) c.in_err-declare_each.field-0.0 c.in_err-declare_each.ensures.exact
          (λ e h. sym c.loop-section.invariant ∙ section_stop l c.loop-section.templates c.args.sections.now c.loop-section.section-index c.section-item.result e c.loop-section-test.true c.section-item.is
          (sym c.is.ensures ∙ c.if-is.true) (ap (declared_after l c.loop-section.templates) (sym c.as_slice.ensures) ∙ h)));
    }

pub loop-section-preserved : goal.loop-section-preserved
loop-section-preserved c =
    let l = c.args.layout.now in
    let rest = template_spans (drop (c.loop-section.section-index + 1) c.args.sections.now) in
    elim c.if-is.branch [
      | then-is+in_ok-declare_each w ↦
          ap (λ us. declared_after l us rest) w.templates-is
          ∙ section_more l c.loop-section.templates _ c.args.sections.now c.loop-section.section-index c.section-item.result c.loop-section-test.true c.section-item.is
          (sym c.is.ensures ∙ w.if-is.true) (ap (declared_after l c.loop-section.templates) (sym w.as_slice.ensures) ∙ w.in_ok-declare_each.ensures.exact)
          ∙ c.loop-section.invariant
      | else-is w ↦
          ap (λ us. declared_after l us rest) w.templates-is
          ∙ section_other l c.loop-section.templates c.args.sections.now c.loop-section.section-index c.section-item.result c.loop-section-test.true c.section-item.is
          (sym c.is.ensures ∙ w.if-is.false)
          ∙ c.loop-section.invariant
    ]

pub returns : goal.returns
returns c =
    record { exact = sym c.loop-section.invariant ∙ sections_end c.args.layout.now c.loop-section.templates c.args.sections.now c.loop-section.section-index c.loop-section-test.false }
