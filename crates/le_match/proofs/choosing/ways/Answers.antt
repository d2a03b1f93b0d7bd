use Rattle.std.proofs.Common.{◌≡◌, ℕ, cond, List, take, slice_range, IfOk, subst, sym, ap, ◌∙◌}
use Rattle.le_match.specs.Readings.{marked_cuts, cuts}
use Rattle.le_match.proofs.MarkedLemmas.{two_marked}
use Rattle.le_match.proofs.FitLemmas.{none_fits}
use Rattle.le_match.proofs.choosing.ways.Goals as goal

pub returns-then-sentence : goal.returns-then-sentence
returns-then-sentence c =
    let l = c.args.layout.now in
    let ps = c.args.parts.now in
    let ts = slice_range l.tokens c.args.sentence.now.tokens.from c.args.sentence.now.tokens.to in
    let P : List (List ℕ) → Type 0 = λ xs. IfOk c.marked_cut.result (λ found. found ≡ xs) in
    subst P (two_marked l ps ts ∙ ap (λ b. take 2 (cond b (marked_cuts l ps ts) (cuts l ps ts))) (sym c.if-sentence.true ∙ c.requires.sentence.marked)) c.marked_cut.ensures

pub returns-then-not-may_fit : goal.returns-then-not-may_fit
returns-then-not-may_fit c =
    let l = c.args.layout.now in
    let ps = c.args.parts.now in
    let ts = slice_range l.tokens c.args.sentence.now.tokens.from c.args.sentence.now.tokens.to in
    c.from_vec.ensures ∙ c.new.ensures.items
    ∙ ap (take 2) (sym (none_fits l ps ts (sym c.may_fit.ensures ∙ c.if-not-may_fit.true)))
    ∙ ap (λ b. take 2 (cond b (marked_cuts l ps ts) (cuts l ps ts))) (sym c.if-sentence.false ∙ c.requires.sentence.marked)
