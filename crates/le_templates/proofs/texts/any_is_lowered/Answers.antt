use Rattle.std.proofs.Common.{◌≡◌, ◌∙◌, ap, sym, map, true, List, ℕ}
use Rattle.std.specs.Char.{to_ascii_lowercase}
use Rattle.std.specs.Str.{bytes_eq}
use Rattle.le_templates.proofs.TextLemmas.{has_at}
use Rattle.le_templates.proofs.texts.any_is_lowered.Goals as goal

pub returns-then-is_lowered : goal.returns-then-is_lowered
returns-then-is_lowered c =
    let same : bytes_eq (map to_ascii_lowercase c.args.word.now) c.text-item.result.items ≡ true = ap (λ (t : List ℕ). bytes_eq (map to_ascii_lowercase c.args.word.now) t) (sym c.deref.ensures.value) ∙ sym c.is_lowered.ensures ∙ c.if-is_lowered.true in
    sym (has_at (λ v. v.items) c.args.texts.now c.loop-text.text-index c.text-item.result (map to_ascii_lowercase c.args.word.now) c.loop-text-test.true c.text-item.is same)
