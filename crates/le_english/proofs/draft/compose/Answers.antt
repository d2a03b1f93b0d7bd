use Rattle.std.proofs.Common.{◌+◌, drop, subst, List}
use Rattle.le_templates.specs.declared.part.Part.{Part}
use Rattle.le_english.specs.Lines.{Completes}
use Rattle.le_english.proofs.DraftLemmas.{whole_text, all_counts, part-at, end-text}
use Rattle.le_english.proofs.draft.compose.Goals as goal

pub loop-part-preserved : goal.loop-part-preserved
loop-part-preserved c =
    let users = c.args.templates.now in
    let names = c.args.names.now in
    let args = c.args.args.now in
    let parts = c.args.parts.now in
    let i = c.loop-part.part-index in
    let part = c.part-item.result in
    let P : List Part → Type 0 = λ ps. Completes users names args c.args.marked c.loop-part.draft ps (whole_text users names args c.args.marked parts) (all_counts users names args parts) in
    c.in_ok-push_part.ensures (drop (i + 1) parts) _ _ (subst P (part-at parts i _ part c.loop-part-test.true c.part-item.is) c.loop-part.invariant)

pub returns-clause-text : goal.returns-clause-text
returns-clause-text c = end-text c.args.templates.now c.args.names.now c.args.args.now c.args.marked c.loop-part.draft c.args.parts.now c.loop-part.part-index c.loop-part-test.false c.loop-part.invariant
