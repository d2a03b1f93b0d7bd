use Rattle.std.proofs.Common.{refl}
use Rattle.std.proofs.lemmas.List.{take_rest}
use Rattle.le_layout.proofs.PieceLemmas.{first_cut}
use Rattle.le_layout.proofs.piece.first_piece.Goals as goal

pub returns-clause-cut : goal.returns-clause-cut
returns-clause-cut c =
    first_cut c.args.rest.now _ c.index-rest-0.result _ c.more_at.result c.form_at-form.result c.requires.some c.index-rest-0.is (take_rest c.args.rest.now 1) c.form_at-form.ensures c.more_at.ensures.value refl
