use Rattle.std.proofs.Common.{◌+◌, [], ◌∷◌, ◌++◌, drop, slice_range, sym, ap, ◌∙◌, arith}
use Rattle.std.proofs.lemmas.List.{drop_all}
use Rattle.le_match.specs.Readings.{marked_cuts}
use Rattle.le_match.specs.Walks.{marked_behind, taken_count}
use Rattle.le_match.proofs.CutLemmas.{parts_more}
use Rattle.le_match.proofs.MarkedLemmas.{onto, onto_none, onto_more, marked_walk, behind_word_is, behind_slot_is, ended_all, ended_early}
use Rattle.le_match.proofs.marked.marked_cut.Goals as goal
use Rattle.le_match.proofs.marked.marked_cut.Goals.{in-Word, in-Slot+in_ok-push-in-Slot, then-at-tokens+in_ok-push, else-at-tokens}

pub loop-part-init : goal.loop-part-init
loop-part-init c =
    let l = c.args.layout.now in
    record {
      inside = c.requires.tokens.ordered;
      ways = onto_none c.new-lengths.result.items (marked_cuts l c.args.parts.now (slice_range l.tokens c.args.tokens.from c.args.tokens.to)) c.new-lengths.ensures.items;
    }

pub returns-in-Nothing : goal.returns-in-Nothing
returns-in-Nothing c =
    let l = c.args.layout.now in
    let i = c.loop-part.part-index in
    let ps = c.args.parts.now in
    let here = slice_range l.tokens c.loop-part.at c.args.tokens.to in
    let walk = marked_walk l c.part-item.result (drop i ps) (drop (i + 1) ps) here c.in_ok-marked_part.field-0 (parts_more ps i c.part-item.result c.loop-part-test.true c.part-item.is) c.in_ok-marked_part.ensures.exact in
    c.from_vec.ensures ∙ c.new.ensures.items
    ∙ sym (ap (onto c.loop-part.lengths.items) (walk ∙ ap (marked_behind l (drop (i + 1) ps) here) c.in-Nothing.is))
    ∙ c.loop-part.invariant.ways

pub loop-part-preserved : goal.loop-part-preserved
loop-part-preserved c =
    let l = c.args.layout.now in
    let i = c.loop-part.part-index in
    let ps = c.args.parts.now in
    let rest = drop (i + 1) ps in
    let at = c.loop-part.at in
    let to = c.args.tokens.to in
    let done = c.loop-part.lengths.items in
    let here = slice_range l.tokens at to in
    let walk = marked_walk l c.part-item.result (drop i ps) rest here c.in_ok-marked_part.field-0 (parts_more ps i c.part-item.result c.loop-part-test.true c.part-item.is) c.in_ok-marked_part.ensures.exact in
    let inside = c.in_ok-marked_part.ensures.inside in
    elim c.match-branch-2.branch [
      | in-Word w ↦
          let count = ap taken_count w.in-Word.is in
          record {
            inside = omega (arith, w.at-is);
            ways = ap (λ v. onto v.items (marked_cuts l rest (slice_range l.tokens c.match-branch-2.at to))) w.lengths-is
                ∙ ap (λ k. onto done (marked_cuts l rest (slice_range l.tokens k to))) w.at-is
                ∙ ap (onto done) (sym (walk ∙ ap (marked_behind l rest here) w.in-Word.is ∙ behind_word_is l rest at to (omega arith)))
                ∙ c.loop-part.invariant.ways;
          }
      | in-Slot+in_ok-push-in-Slot w ↦
          let n = w.in-Slot.n in
          let count = ap taken_count w.in-Slot.is in
          record {
            inside = omega (arith, w.at-is);
            ways = ap (λ v. onto v.items (marked_cuts l rest (slice_range l.tokens c.match-branch-2.at to))) w.lengths-is
                ∙ ap (λ k. onto w.push.new.self.items (marked_cuts l rest (slice_range l.tokens k to))) w.at-is
                ∙ onto_more done w.push.new.self.items n (marked_cuts l rest (slice_range l.tokens (at + (n + 2)) to)) w.in_ok-push-in-Slot.ensures.items
                ∙ ap (onto done) (sym (walk ∙ ap (marked_behind l rest here) w.in-Slot.is ∙ behind_slot_is l rest at to n (omega arith)))
                ∙ c.loop-part.invariant.ways;
          }
    ]

pub returns : goal.returns
returns c =
    let l = c.args.layout.now in
    let ps = c.args.parts.now in
    let at = c.loop-part.at in
    let to = c.args.tokens.to in
    let done = c.loop-part.lengths.items in
    let none = drop_all c.loop-part.part-index ps c.loop-part-test.false in
    c.from_vec-2.ensures
    ∙ elim c.if-at-tokens.branch [
      | then-at-tokens+in_ok-push w ↦
          ap (λ v. v.items) w.ways-is ∙ w.in_ok-push.ensures.items ∙ ap (λ xs. xs ++ w.from_vec-then-at-tokens.result ∷ []) c.new-ways.ensures.items
          ∙ ap (λ x. x ∷ []) w.from_vec-then-at-tokens.ensures
          ∙ sym (ended_all l (drop c.loop-part.part-index ps) at to done none (omega (arith, w.if-at-tokens.true)))
      | else-at-tokens w ↦
          ap (λ v. v.items) w.ways-is ∙ c.new-ways.ensures.items
          ∙ sym (ended_early l (drop c.loop-part.part-index ps) at to done none (omega (arith, w.if-at-tokens.false, c.loop-part.invariant.inside)) c.requires.tokens.within)
    ]
    ∙ c.loop-part.invariant.ways
