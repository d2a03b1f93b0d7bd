use Rattle.std.proofs.Common.{◌∙◌, sym, ap, map, string_bytes}
use Rattle.le_terms.proofs.NameLists.{is_named-map, number_of_name-found, number_of_name-missing, entered-there, entered-inserted}
use Rattle.le_terms.proofs.names.enter.Goals as goal

pub returns-in-Some-clause-place : goal.returns-in-Some-clause-place
returns-in-Some-clause-place c = sym (number_of_name-found string_bytes c.args.texts.now.keys c.args.name.now c.in-Some.place (sym c.in-Some.ensures.index))

pub returns-in-Some-clause-texts : goal.returns-in-Some-clause-texts
returns-in-Some-clause-texts c =
    sym (entered-there (map string_bytes c.args.texts.now.keys) c.args.name.now (is_named-map string_bytes c.args.texts.now.keys c.args.name.now ∙ sym c.in-Some.ensures.found))

pub returns-clause-place : goal.returns-clause-place
returns-clause-place c = c.len-place.ensures.len ∙ sym (number_of_name-missing string_bytes c.args.texts.now.keys c.args.name.now (sym c.in_default.ensures.found))

pub returns-clause-texts : goal.returns-clause-texts
returns-clause-texts c =
    ap (map string_bytes) c.in_ok-insert.ensures.keys
    ∙ entered-inserted string_bytes c.args.texts.now.keys c.in_ok-owned.owned c.args.name.now c.in_ok-owned.ensures.ok (sym c.in_default.ensures.found)
