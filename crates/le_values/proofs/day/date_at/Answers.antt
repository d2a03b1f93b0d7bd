use Rattle.std.proofs.Common.{◌≡◌, rules}
use Rattle.jiff_core.specs.Date.{epoch_day}
use Rattle.le_values.proofs.DayLemmas.{date_parts}
use Rattle.le_values.proofs.day.date_at.Goals as goal

pub returns-clause-year : goal.returns-clause-year
returns-clause-year c =
    let number : epoch_day c.unwrap.result ≡ c.args.day = search rules in
    (date_parts c.unwrap.result c.args.day number c.requires).0

pub returns-clause-month : goal.returns-clause-month
returns-clause-month c =
    let number : epoch_day c.unwrap.result ≡ c.args.day = search rules in
    (date_parts c.unwrap.result c.args.day number c.requires).1

pub returns-clause-day : goal.returns-clause-day
returns-clause-day c =
    let number : epoch_day c.unwrap.result ≡ c.args.day = search rules in
    (date_parts c.unwrap.result c.args.day number c.requires).2
