use Rattle.std.proofs.Common.{◌≡◌, ◌+◌, ◌||◌, true, false, take, drop, refl, sym, ap, ◌∙◌}
use Rattle.std.specs.Str.{bytes_eq}
use Rattle.std.specs.String.{string_bytes}
use Rattle.std.specs.BTreeSet.{contains_text}
use Rattle.std.proofs.lemmas.List.{drop_all}
use Rattle.std.proofs.lemmas.Map.Text.{btree_set_updates_text}
use Rattle.le_docs.specs.Kinds.{same_kind}
use Rattle.le_docs.specs.Faults.{sooner, least_from}
use Rattle.le_docs.specs.Sections.{has_name, name_faults, names_faults}
use Rattle.le_docs.proofs.SectionLemmas.{names_step, names_end, name_fault_is, has_name_more, flip, or_cond}
use Rattle.le_docs.proofs.dividing.with_name_faults.Goals as goal
use Rattle.le_docs.proofs.dividing.with_name_faults.Goals.{then-not-branch, else-not-branch}

pub loop-section-preserved-then-not-is : goal.loop-section-preserved-then-not-is
loop-section-preserved-then-not-is c =
    let ss = c.args.sections.now in
    let i = c.loop-section.section-index in
    let s = c.section-item.result in
    let other : same_kind s.kind c.args.kind ≡ false = sym c.is.ensures ∙ c.if-not-is.true in
    record {
      names = λ q. c.loop-section.invariant.names q ∙ sym (has_name_more c.args.kind q ss i s false c.loop-section-test.true c.section-item.is other);
      least = ap (λ fs. least_from (least_from c.loop-section.least fs) (names_faults c.args.layout.now c.args.kind (take (i + 1) ss) (drop (i + 1) ss))) (sym (name_fault_is c.args.layout.now c.args.kind (take i ss) s false (has_name c.args.kind s.name (take i ss)) other refl))
          ∙ sym (names_step c.args.layout.now c.args.kind ss i s c.loop-section.least c.loop-section-test.true c.section-item.is) ∙ c.loop-section.invariant.least;
    }

pub loop-section-preserved : goal.loop-section-preserved
loop-section-preserved c =
    let l = c.args.layout.now in
    let ss = c.args.sections.now in
    let i = c.loop-section.section-index in
    let s = c.section-item.result in
    let name = c.in_ok-name.name in
    let same : same_kind s.kind c.args.kind ≡ true = sym c.is.ensures ∙ c.if-not-is.false in
    let text : string_bytes name ≡ s.name = c.in_ok-name.ensures.ok ∙ c.as_str.ensures in
    let known : contains_text c.loop-section.names (string_bytes name) ≡ has_name c.args.kind s.name (take i ss) = c.loop-section.invariant.names (string_bytes name) ∙ ap (λ q. has_name c.args.kind q (take i ss)) text in
    let least : c.if-not-branch.least ≡ least_from c.loop-section.least (name_faults l c.args.kind (take i ss) s) =
    elim c.if-not-branch.branch [
      | then-not-branch w ↦
          w.least-is ∙ w.sooner-least.ensures ∙ ap (sooner c.loop-section.least) w.at.ensures
          ∙ ap (least_from c.loop-section.least) (sym (name_fault_is l c.args.kind (take i ss) s true true same (sym known ∙ flip _ _ false c.in_ok-insert.ensures.added w.if-not-branch.true)))
      | else-not-branch w ↦
          w.least-is
          ∙ ap (least_from c.loop-section.least) (sym (name_fault_is l c.args.kind (take i ss) s true false same (sym known ∙ flip _ _ true c.in_ok-insert.ensures.added w.if-not-branch.false)))
    ] in
    record {
      names = λ q. btree_set_updates_text (string_bytes name) c.loop-section.names c.insert.new.self true c.in_ok-insert.ensures.updates q
          ∙ or_cond (bytes_eq (string_bytes name) q) (contains_text c.loop-section.names q)
          ∙ ap (λ b. b || contains_text c.loop-section.names q) (ap (λ t. bytes_eq t q) text)
          ∙ ap (λ b. bytes_eq s.name q || b) (c.loop-section.invariant.names q)
          ∙ sym (has_name_more c.args.kind q ss i s true c.loop-section-test.true c.section-item.is same);
      least = ap (λ x. least_from x (names_faults l c.args.kind (take (i + 1) ss) (drop (i + 1) ss))) least
          ∙ sym (names_step l c.args.kind ss i s c.loop-section.least c.loop-section-test.true c.section-item.is) ∙ c.loop-section.invariant.least;
    }

pub returns : goal.returns
returns c =
    let ss = c.args.sections.now in
    let i = c.loop-section.section-index in
    sym (names_end c.args.layout.now c.args.kind (take i ss) (drop i ss) c.loop-section.least (drop_all i ss c.loop-section-test.false)) ∙ c.loop-section.invariant.least
