use Rattle.std.proofs.Common.{◌∙◌, ap, length, arith}
use Rattle.le_templates.proofs.TableLemmas.{length-predefined, get_ready, get_user}
use Rattle.le_templates.proofs.table.Templates.get.Goals as goal

pub index-requires : goal.index-requires
index-requires c = omega (arith, c.if-pred-lt20.true, ap length c.self.invariant.given ∙ length-predefined)

pub returns-then-pred-lt20 : goal.returns-then-pred-lt20
returns-then-pred-lt20 c = get_ready c.self.inside.ready.items c.args.self.now c.args.pred c.index.result.now c.self.invariant.given c.if-pred-lt20.true c.index.ensures

pub returns-else-pred-lt20 : goal.returns-else-pred-lt20
returns-else-pred-lt20 c = get_user c.self.inside.users.items c.args.self.now c.args.pred c.index-else-pred-lt20.result.now c.self.view_is c.if-pred-lt20.false c.requires c.index-else-pred-lt20.ensures
