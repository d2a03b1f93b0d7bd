use Rattle.std.proofs.Common.{◌∙◌, ◌++◌, false, reverse, subst, sym, ap}
use Rattle.std.specs.List.{All}
use Rattle.le_scope.specs.Parts.{passed, opened_after, inside_after, parts_from, parts_of_list, IsPartOf}
use Rattle.le_scope.proofs.TokenLemmas.{span}
use Rattle.le_scope.proofs.PartLemmas.{parts_step, parts_end, list_parts_fit}
use Rattle.le_scope.proofs.parts.list_parts.Goals as goal

pub loop-at-init : goal.loop-at-init
unfolding parts_of_list
loop-at-init c =
    let tokens = c.args.tokens in
    let here = span c.args.layout.now tokens.from tokens.to in
    ap (λ s. s ++ parts_from tokens.from false (reverse c.new-opened.result.items) here) c.new-parts.ensures.items
    ∙ ap (λ s. parts_from tokens.from false (reverse s) here) c.new-opened.ensures.items

pub loop-at-preserved : goal.loop-at-preserved
loop-at-preserved c =
    let l = c.args.layout.now in
    let lists = reverse c.loop-at.opened.items in
    let closing = c.closes-closing.result in
    parts_step l c.loop-at.at c.args.tokens.to c.loop-at.inside lists c.loop-at.parts.items c.push_part.new.parts.items (parts_of_list l c.args.tokens)
    c.passed-bar.result closing c.part_at-part.result c.inside_after-inside.result (reverse c.open_lists.new.opened.items)
    c.loop-at-test.true c.requires.tokens.within
    (c.passed-bar.ensures ∙ ap (λ s. passed (reverse s)) c.as_slice.ensures.value)
    c.part_at-part.ensures
    c.closes-closing.ensures
    (c.inside_after-inside.ensures ∙ ap (λ t. inside_after t.kind) c.token-kind.ensures)
    (c.in_ok-open_lists.ensures ∙ ap (λ t. opened_after t.kind closing lists) c.token-kind.ensures)
    c.in_ok-push_part.ensures
    c.loop-at.invariant

pub returns-clause-within : goal.returns-clause-within
returns-clause-within c =
    let l = c.args.layout.now in
    let same = parts_end l c.loop-at.at c.args.tokens.to c.loop-at.inside (reverse c.loop-at.opened.items) c.loop-at.parts.items (parts_of_list l c.args.tokens) c.loop-at-test.false c.loop-at.invariant in
    subst (λ s. All (IsPartOf l) s) (sym same) (list_parts_fit l c.args.tokens c.requires.list)
