use Rattle.std.proofs.Common.{◌≡◌, ◌<◌, ◌∙◌, refl, sym, ap, subst, length, Some, slice_get, string_bytes, arith}
use Rattle.std.proofs.lemmas.List.{length-map}
use Rattle.std.proofs.lemmas.Option.{slice_get_read, slice_get-map}
use Rattle.std.specs.Option.{option_map}
use Rattle.le_terms.specs.Names.{HasNoRepeats}
use Rattle.le_terms.proofs.NameLists.{number_of_name-at}
use Rattle.le_terms.proofs.names.Names.name.Goals as goal

pub returns-clause-number : goal.returns-clause-number
returns-clause-number c =
    let keys = c.self.inside.texts.keys in
    let within : c.args.n < length c.as_slice.result.now = omega (arith, c.requires, ap length c.self.view_is, length-map keys string_bytes, ap length c.as_slice.ensures.keys) in
    let read : slice_get c.as_slice.result.now c.args.n ≡ Some c.index-as_slice-n.result =
    slice_get_read c.as_slice.result.now (length c.as_slice.result.now) c.args.n c.index-as_slice-n.result refl within c.index-as_slice-n.is in
    let named : slice_get c.args.self.now c.args.n ≡ Some c.as_str.result.now =
    ap (λ names. slice_get names c.args.n) (sym c.self.view_is)
    ∙ (slice_get-map string_bytes keys c.args.n
    ∙ (ap (option_map string_bytes) (ap (λ ks. slice_get ks c.args.n) (sym c.as_slice.ensures.keys) ∙ read)
    ∙ ap Some (sym c.as_str.ensures.value))) in
    number_of_name-at c.args.self.now c.args.n c.as_str.result.now (subst HasNoRepeats c.self.view_is c.self.invariant.distinct) named
