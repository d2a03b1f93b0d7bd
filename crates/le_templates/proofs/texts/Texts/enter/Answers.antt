use Rattle.std.proofs.Common.{◌∙◌, ap, map, List, ℕ}
use Rattle.le_templates.specs.Walks.{entered}
use Rattle.le_templates.proofs.TextLemmas.{entered-map}
use Rattle.le_templates.proofs.texts.Texts.enter.Goals as goal

pub returns-clause-ok : goal.returns-clause-ok
returns-clause-ok c =
    ap (map (λ v. v.items)) c.in_ok-insert.ensures.keys
    ∙ (entered-map (λ v. v.items) c.self.inside.set.keys c.args.text
    ∙ ap (λ (ts : List (List ℕ)). entered ts c.args.text.items) c.self.view_is)
