use Rattle.std.proofs.Common.{◌∙◌, sym, ap, subst, map, take, string_bytes}
use Rattle.std.proofs.lemmas.List.{take-map}
use Rattle.le_terms.specs.Names.{IsNames}
use Rattle.le_terms.proofs.NameLists.{IsNames-take}
use Rattle.le_terms.proofs.names.Names.truncate.Goals as goal

pub invariant_of-self : goal.invariant_of-self
invariant_of-self c =
    subst IsNames (take-map string_bytes c.args.n c.self.inside.texts.keys ∙ ap (map string_bytes) (sym c.truncate.ensures.keys))
    (IsNames-take (map string_bytes c.self.inside.texts.keys) c.args.n c.self.invariant)

pub returns : goal.returns
returns c =
    ap (map string_bytes) c.truncate.ensures.keys
    ∙ (sym (take-map string_bytes c.args.n c.self.inside.texts.keys) ∙ ap (take c.args.n) c.self.view_is)
