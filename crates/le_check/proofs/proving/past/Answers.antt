use Rattle.std.proofs.Common.{sym, refl, subst}
use Rattle.le_derivations.specs.Paths.{Shows}
use Rattle.le_check.proofs.Resuming.{goes-past}
use Rattle.le_check.proofs.proving.past.Goals as goal

pub returns : goal.returns
returns c = λ program nodes frames order whole number reason shows none h.
    let kept : Shows reason c.args.node c.from_vec.result = subst (Shows reason c.args.node) (sym c.from_vec.ensures) shows in
    goes-past program nodes frames order whole c.args.proof c.args.place number c.args.unifier reason _ c.push.new.self.items _ c.in_ok-push.ensures.items (record { place_ = refl; count_ = sym none; unifier_ = refl; reason_ = kept }) c.in_ok-goal.ensures h
