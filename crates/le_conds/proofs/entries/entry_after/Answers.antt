use Rattle.std.proofs.Common.{ap, arith, reverse}
use Rattle.le_conds.specs.Entries.{opener_end}
use Rattle.le_conds.proofs.EntryLemmas.{opens_within}
use Rattle.le_conds.proofs.entries.entry_after.Goals as goal

pub entry-requires : goal.entry-requires
entry-requires c =
    let item = c.args.item in
    let bound = (opens_within c.args.layout.now (reverse c.args.columns.now) item).0.1 in
    omega (arith, ap (opener_end item.content.from) c.opens_of.ensures, bound, c.requires.layout.short, c.requires.layout.few, c.requires.item.inside, c.requires.item.ordered)
