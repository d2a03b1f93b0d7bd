use Rattle.std.proofs.Common.{◌∙◌, sym, ap, map, take}
use Rattle.std.proofs.lemmas.List.{take-map}
use Rattle.le_templates.proofs.texts.Texts.truncate.Goals as goal

pub returns : goal.returns
returns c =
    ap (map (λ v. v.items)) c.truncate.ensures.keys
    ∙ (sym (take-map (λ v. v.items) c.args.count c.self.inside.set.keys) ∙ ap (take c.args.count) c.self.view_is)
