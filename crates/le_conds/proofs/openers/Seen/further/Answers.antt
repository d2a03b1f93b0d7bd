use Rattle.std.proofs.Common.{◌∙◌, sym}
use Rattle.le_conds.proofs.GatherLemmas.{each_kept, gather_more, each_found, gather_none}
use Rattle.le_conds.proofs.openers.Seen.further.Goals as goal

pub returns-in-Some-clause-each : goal.returns-in-Some-clause-each
returns-in-Some-clause-each c = c.in-Some.is ∙ each_kept c.args.layout.now c.args.from c.args.k c.in-Some.each (sym c.in-Some.is ∙ c.requires.each)

pub returns-in-Some-clause-such_that : goal.returns-in-Some-clause-such_that
returns-in-Some-clause-such_that c =
    let l = c.args.layout.now in
    rw c.or_here.ensures (rw c.ends_such_that.ensures (gather_more l c.args.from c.args.k c.in-Some.each c.args.self.such_that (sym c.in-Some.is ∙ c.requires.each) c.requires.such_that))

pub returns-in-None-clause-each : goal.returns-in-None-clause-each
returns-in-None-clause-each c =
    rw c.or_here-in-None.ensures (rw c.ends_each.ensures (each_found c.args.layout.now c.args.from c.args.k (sym c.in-None.is ∙ c.requires.each)))

pub returns-in-None-clause-such_that : goal.returns-in-None-clause-such_that
returns-in-None-clause-such_that c = gather_none c.args.layout.now c.args.from c.args.k (sym c.in-None.is ∙ c.requires.each)
