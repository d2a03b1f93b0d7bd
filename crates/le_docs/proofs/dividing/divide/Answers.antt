use Rattle.std.proofs.Common.{◌+◌, ◌++◌, ◌∷◌, get_or, drop, sym, ap, ◌∙◌, length, subst}
use Rattle.std.proofs.lemmas.List.{append-nil, drop_all}
use Rattle.std.specs.List.{All}
use Rattle.std.proofs.lemmas.List.Elements.{All-push}
use Rattle.le_docs.specs.Bounds.{IsSectionOver}
use Rattle.le_docs.specs.Faults.{least_from}
use Rattle.le_docs.specs.Sections.{section_at, section_faults, sections_under, faults_under}
use Rattle.le_docs.proofs.SectionLemmas.{no_head, sections_step, sections_end, faults_step, faults_end, more_sections}
use Rattle.le_docs.proofs.dividing.divide.Goals as goal

pub loop-k-preserved : goal.loop-k-preserved
loop-k-preserved c =
    let l = c.args.layout.now in
    let heads = c.args.heads.now in
    let k = c.loop-k.k in
    let head = get_or heads k no_head in
    let rest = sections_under l (drop (k + 1) heads) in
    let made = c.in_ok-checked.ensures.section ∙ ap (section_at l head) c.next_at-to.ensures.exact in
    let fault = c.in_ok-checked.ensures.least ∙ ap (λ to. least_from c.loop-k.least (section_faults l head to)) c.next_at-to.ensures.exact in
    record {
      within = subst (All (IsSectionOver (length l.tokens))) (sym c.in_ok-push.ensures.items) (All-push (IsSectionOver (length l.tokens)) c.loop-k.sections.items _ c.loop-k.invariant.within c.in_ok-checked.ensures.within);
      sections = more_sections c.loop-k.sections.items c.push.new.self.items rest _ c.in_ok-checked.checked.section c.in_ok-push.ensures.items
          (ap (λ s. c.loop-k.sections.items ++ (s ∷ rest)) made
          ∙ ap (λ xs. c.loop-k.sections.items ++ xs) (sym (sections_step l heads k no_head c.loop-k-test.true))
          ∙ c.loop-k.invariant.sections);
      least = ap (λ x. least_from x (faults_under l (drop (k + 1) heads))) fault ∙ sym (faults_step l heads k no_head c.loop-k.least c.loop-k-test.true) ∙ c.loop-k.invariant.least;
    }

pub returns-clause-sections : goal.returns-clause-sections
returns-clause-sections c =
    sym (append-nil c.loop-k.sections.items)
    ∙ ap (λ xs. c.loop-k.sections.items ++ xs) (sym (sections_end c.args.layout.now (drop c.loop-k.k c.args.heads.now) (drop_all c.loop-k.k c.args.heads.now c.loop-k-test.false)))
    ∙ c.loop-k.invariant.sections

pub returns-clause-least : goal.returns-clause-least
returns-clause-least c =
    sym (faults_end c.args.layout.now (drop c.loop-k.k c.args.heads.now) c.loop-k.least (drop_all c.loop-k.k c.args.heads.now c.loop-k-test.false)) ∙ c.loop-k.invariant.least
