use Rattle.std.proofs.Common.{Err, ◌∙◌, ap, sym, subst}
use Rattle.le_base.specs.Stop.{Gives}
use Rattle.le_layout.proofs.ScanLemmas.{layout_of-utf8, layout_of-bad, layout_sound}
use Rattle.le_layout.proofs.scanning.scan.Goals as goal

pub refused-requires : goal.refused-requires
refused-requires c = c.in_ok-place-in-Err.ensures.room

pub returns-in-Ok-clause-exact : goal.returns-in-Ok-clause-exact
returns-in-Ok-clause-exact c =
    subst (Gives (λ layout. layout) c.layout.result) (layout_of-utf8 c.args.bytes.now c.in-Ok.text.now c.in-Ok.ensures.cases.1 c.in-Ok.ensures.cases.0) c.layout.ensures

pub returns-in-Ok-clause-sound : goal.returns-in-Ok-clause-sound
returns-in-Ok-clause-sound c =
    layout_sound c.args.bytes.now c.in-Ok.text.now c.layout.result c.in-Ok.ensures.cases.1 c.requires c.in-Ok.ensures.cases.0 c.layout.ensures

pub returns-in_ok-place-in-Err-clause-exact : goal.returns-in_ok-place-in-Err-clause-exact
returns-in_ok-place-in-Err-clause-exact c =
    layout_of-bad c.args.bytes.now _ c.in_ok-place-in-Err.place c.in-Err.ensures.cases.0 (c.valid_up_to.ensures ∙ c.in-Err.ensures.valid_len) c.in_ok-place-in-Err.ensures.value ∙ ap Err (sym c.refused.ensures)
