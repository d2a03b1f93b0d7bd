use Rattle.std.proofs.Common.{◌∙◌, ap, map, List, ℕ}
use Rattle.std.specs.Char.{to_ascii_lowercase}
use Rattle.le_templates.specs.Walks.{has}
use Rattle.le_templates.proofs.TableLemmas.{ends_is}
use Rattle.le_templates.proofs.table.Templates.ends_slot.Goals as goal

pub returns : goal.returns
returns c =
    c.has_lowered.ensures
    ∙ ap (λ (w : List ℕ). has c.self.inside.words (map to_ascii_lowercase w)) c.as_bytes.ensures.value
    ∙ ends_is c.self.inside.users.items c.args.self.now c.self.inside.words c.args.word.now c.self.invariant.last_words c.self.view_is
