use Rattle.std.proofs.Common.{◌≡◌, ap, sym, ◌∙◌}
use Rattle.std.specs.Prelude.{slice_get}
use Rattle.le_index.specs.Candidates.{candidate_among}
use Rattle.le_index.proofs.Searching.{number_by, among-by_key, among-any, not-zero}
use Rattle.le_index.proofs.listed.candidate_among.Goals as goal

pub returns-then-key-eq0 : goal.returns-then-key-eq0
returns-then-key-eq0 c = λ rising same.
    let first = c.first_from-first.ensures.parted rising in
    c.number_at.ensures
    ∙ (sym (among-any c.args.from c.first_from-first.result c.args.numbers.now c.args.keys.now same c.first_from-first.ensures.within first.0 first.1)
    ∙ ap (λ key. candidate_among key c.args.from c.args.numbers.now c.args.keys.now) (sym c.if-key-eq0.true))

pub returns-in-Some : goal.returns-in-Some
returns-in-Some c = λ rising same.
    let first = c.first_from-first.ensures.parted rising in
    let found : slice_get c.args.numbers.now c.in-Some.place ≡ candidate_among c.args.key c.args.from c.args.numbers.now c.args.keys.now =
    ap (number_by c.args.numbers.now) c.in-Some.ensures
    ∙ sym (among-by_key c.args.key c.args.from c.first_from-first.result c.args.numbers.now c.args.keys.now (not-zero c.args.key c.if-key-eq0.false) same c.first_from-first.ensures.within first.0 first.1) in
    c.number_at-in-Some.ensures ∙ found

pub returns-in-None : goal.returns-in-None
returns-in-None c = λ rising same.
    let first = c.first_from-first.ensures.parted rising in
    ap (number_by c.args.numbers.now) c.in-None.ensures
    ∙ sym (among-by_key c.args.key c.args.from c.first_from-first.result c.args.numbers.now c.args.keys.now (not-zero c.args.key c.if-key-eq0.false) same c.first_from-first.ensures.within first.0 first.1)
