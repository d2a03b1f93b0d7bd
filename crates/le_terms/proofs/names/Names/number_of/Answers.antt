use Rattle.std.proofs.Common.{◌-◌, ◌^◌, ◌<◌, length, map, sym, ap, subst, string_bytes, arith}
use Rattle.le_terms.specs.Names.{IsNames}
use Rattle.le_terms.proofs.NameLists.{IsNames-entered, number_of_name-le}
use Rattle.le_terms.proofs.names.Names.number_of.Goals as goal

pub overflow_cast-result : goal.overflow_cast-result
overflow_cast-result c =
    omega (arith, c.in_ok-place.ensures.place, ap length c.self.view_is, number_of_name-le (map string_bytes c.self.inside.texts.keys) c.args.name.now)

pub invariant_of-self-2 : goal.invariant_of-self-2
invariant_of-self-2 c =
    subst IsNames (sym c.in_ok-place.ensures.texts)
    (IsNames-entered (map string_bytes c.self.inside.texts.keys) c.args.name.now c.self.invariant (subst (λ names. length names < 2 ^ 32 - 1) (sym c.self.view_is) c.requires))
