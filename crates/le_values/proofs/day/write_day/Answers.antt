use Rattle.std.proofs.Common.{◌≡◌, ◌∙◌, ap, FitsSigned, w32}
use Rattle.std.proofs.lemmas.Int.{to_z-of_z}
use Rattle.std.proofs.lemmas.Result.{IfOk-weaker}
use Rattle.jiff_core.specs.Date.{epoch_day}
use Rattle.jiff_fmt.specs.Text.{date_text}
use Rattle.le_values.specs.Days.{day_of, day_text}
use Rattle.le_values.proofs.TextLemmas.{date_text-is, day_of-day_text}
use Rattle.le_values.proofs.day.write_day.Goals as goal

pub returns-clause-text : goal.returns-clause-text
returns-clause-text c =
    let fits : FitsSigned w32 c.args.day = c.ranges.day in
    let number : epoch_day c.date_at.result ≡ c.args.day = simp to_z-of_z at c.date_at.ensures.number in
    let text : c.as_str.result.now ≡ day_text c.args.day =
    c.as_str.ensures.value ∙ c.in_ok-text.ensures.ok ∙ ap date_text c.from_plain-date.ensures
    ∙ date_text-is c.date_at.result c.args.day number c.requires in
    IfOk-weaker c.of.result _ _ (λ t e. e ∙ text) c.of.ensures

pub returns-clause-reads_back : goal.returns-clause-reads_back
returns-clause-reads_back c =
    let fits : FitsSigned w32 c.args.day = c.ranges.day in
    let number : epoch_day c.date_at.result ≡ c.args.day = simp to_z-of_z at c.date_at.ensures.number in
    let text : c.as_str.result.now ≡ day_text c.args.day =
    c.as_str.ensures.value ∙ c.in_ok-text.ensures.ok ∙ ap date_text c.from_plain-date.ensures
    ∙ date_text-is c.date_at.result c.args.day number c.requires in
    let read = day_of-day_text c.date_at.result c.args.day number c.requires in
    IfOk-weaker c.of.result _ _ (λ t e. ap day_of (e ∙ text) ∙ read) c.of.ensures
