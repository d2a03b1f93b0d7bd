use Rattle.std.proofs.Common.{◌∙◌, ap, sym, []}
use Rattle.std.proofs.lemmas.Option.{get_or_from_slice_get}
use Rattle.le_templates.specs.declared.part.Template.{Template}
use Rattle.le_templates.specs.Table.{table_of, template}
use Rattle.le_listing.proofs.atoms.template_parts.Goals as goal

pub returns : goal.returns
returns c =
    c.as_slice.ensures ∙ ap (λ (t : Template). t.parts) (sym (get_or_from_slice_get (table_of c.args.whole.now.templates) c.args.pred c.get.result.now (template []) c.get.ensures))
