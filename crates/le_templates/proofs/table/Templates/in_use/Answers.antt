use Rattle.std.proofs.Common.{◌∙◌, ap, List, ℕ, arith}
use Rattle.le_templates.specs.Walks.{has}
use Rattle.le_templates.proofs.TableLemmas.{length-ready, in_use_is}
use Rattle.le_templates.proofs.table.Templates.in_use.Goals as goal

pub index-requires : goal.index-requires
index-requires c = omega (arith, c.if-pred-ge20.false, length-ready (λ v. v.items) c.self.inside.ready_keys.items c.self.invariant.given_keys)

pub returns-else-pred-ge20 : goal.returns-else-pred-ge20
returns-else-pred-ge20 c =
    in_use_is (λ v. v.items) c.self.inside.ready_keys.items c.args.pred c.index.result.now c.self.inside.users.items c.args.self.now c.self.inside.keys c.has.result
    c.self.invariant.given_keys c.if-pred-ge20.false c.index.ensures c.self.invariant.own_keys c.self.view_is
    (c.has.ensures ∙ ap (λ (t : List ℕ). has c.self.inside.keys t) c.deref.ensures.value)
