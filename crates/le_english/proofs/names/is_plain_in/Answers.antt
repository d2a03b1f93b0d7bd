use Rattle.std.proofs.Common.{◌∙◌, sym, ap, Some}
use Rattle.le_english.proofs.NameLemmas.{the_in_span}
use Rattle.le_english.proofs.names.is_plain_in.Goals as goal

pub is_plain_the-requires-clause-some : goal.is_plain_the-requires-clause-some
is_plain_the-requires-clause-some c = the_in_span c.args.layout.now _ (sym c.in_ok-shape.ensures.form ∙ c.in-Some-The.is ∙ ap Some c.in-Some-The.field-0-is)
