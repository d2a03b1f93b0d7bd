use Rattle.std.proofs.Common.{◌≡◌, ◌++◌, [], ◌∷◌, ◌∙◌, ap, arith, refl, reverse, get_or, List, ℕ}
use Rattle.le_conds.specs.declared.entry.Entry.{Entry}
use Rattle.le_conds.specs.Openers.{indent}
use Rattle.le_conds.specs.Entries.{entry, unmarked, opens_of}
use Rattle.le_conds.proofs.EntryLemmas.{no_item, further_step, further_all}
use Rattle.le_conds.proofs.entries.push_further.Goals as goal

pub loop-k-init : goal.loop-k-init
loop-k-init c = record { low = omega arith; all = refl }

pub loop-k-preserved : goal.loop-k-preserved
loop-k-preserved c =
    let l = c.args.layout.now in
    let columns = reverse c.loop-k.columns.items in
    let item = get_or c.args.items.now c.loop-k.k no_item in
    let next : c.entry_after-next.result ≡ entry item.at (indent l item.at) item (opens_of l columns item) =
    c.entry_after-next.ensures
    ∙ ap (λ (xs : List ℕ). entry item.at c.indent-column.result item (opens_of l (reverse xs) item)) c.as_slice.ensures.value
    ∙ ap (λ (n : ℕ). entry item.at n item (opens_of l columns item)) c.indent-column.ensures in
    record {
      low = omega arith;
      all = further_step l columns _ c.args.items.now no_item c.loop-k.k c.loop-k.entries.items _ _ c.loop-k-test.true
          (c.in_ok-mark.ensures ∙ ap (λ (n : ℕ). unmarked n columns c.entry_after-next.result.opens) c.indent-column.ensures ∙ ap (λ (e : Entry). unmarked (indent l item.at) columns e.opens) next)
          (c.in_ok-push.ensures.items ∙ ap (λ (e : Entry). c.loop-k.entries.items ++ e ∷ []) next)
          c.loop-k.invariant.all;
    }

pub returns : goal.returns
returns c = further_all c.args.layout.now _ c.args.items.now c.loop-k.k c.loop-k.entries.items _ (omega (arith, c.loop-k-test.false)) c.loop-k.invariant.all
