use Rattle.std.proofs.Common.{rules}
use Rattle.le_goals.proofs.Parts.{grows-push, puts-push}
use Rattle.le_goals.proofs.parting.put_before.Goals as goal

pub returns-clause-grows : goal.returns-clause-grows
returns-clause-grows c = λ program cells fits is low. grows-push program cells c.args.frames.now.items c.push.new.self.items c.args.part c.args.rest fits is low c.in_ok-push.ensures.items

pub returns-clause-put : goal.returns-clause-put
returns-clause-put c = λ program cells fits is low. puts-push program cells c.args.frames.now.items c.push.new.self.items c.args.part c.args.rest c.len-number.result fits c.in_ok-push.ensures.items (search rules)
