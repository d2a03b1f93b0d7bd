use Rattle.std.proofs.Common.{◌∙◌, sym, ap, List, ℕ}
use Rattle.std.specs.Str.{bytes_eq}
use Rattle.le_templates.specs.Walks.{has}
use Rattle.le_templates.proofs.TextLemmas.{any-map}
use Rattle.le_templates.proofs.texts.Texts.has.Goals as goal

pub returns : goal.returns
returns c =
    c.contains.ensures
    ∙ (sym (any-map (bytes_eq c.args.text.now) (λ v. v.items) c.self.inside.set.keys)
    ∙ ap (λ (ts : List (List ℕ)). has ts c.args.text.now) c.self.view_is)
