use Rattle.std.proofs.Common.{◌≡◌, [], List, Ok, Err, ap, ◌∙◌}
use Rattle.std.proofs.lemmas.Result.{err_from_is_err_and}
use Rattle.le_clauses.specs.declared.whole.Piece.{Piece}
use Rattle.le_clauses.specs.declared.whole.Whole.{Whole}
use Rattle.le_clauses.specs.Pieces.{Read, declared_after, template_spans, pieces_of, program_of}
use Rattle.le_clauses.proofs.Exits.{handed_on}
use Rattle.le_clauses.proofs.PieceSteps.{program_after, program_with, whole_made}
use Rattle.le_clauses.proofs.ValidWhole.{valid_if_read}
use Rattle.le_clauses.proofs.translating.program.Goals as goal

pub returns-in_err-templates-clause-exact : goal.returns-in_err-templates-clause-exact
returns-in_err-templates-clause-exact c =
    let l = c.args.layout.now in
    let sections = c.as_slice-sections.result.now in
    let p = err_from_is_err_and c.from_residual.result c.from_residual.ensures.1 in
    rw (p.1, p.2) (handed_on (declared_after l [] (template_spans sections)) (program_of l c.args.doc.now) c.in_err-templates.field-0.0 c.in_err-templates.ensures.exact
    (λ e h. program_after l c.args.doc.now sections (Err e) c.as_slice-sections.ensures h))

pub returns-in_err-pieces-clause-exact : goal.returns-in_err-pieces-clause-exact
returns-in_err-pieces-clause-exact c =
    let l = c.args.layout.now in
    let sections = c.as_slice-sections.result.now in
    let p = err_from_is_err_and c.from_residual-in_err-pieces.result c.from_residual-in_err-pieces.ensures.1 in
    rw (p.1, p.2) (handed_on (pieces_of c.in_ok-templates.templates c.new-names.result 0 c.new-groups.result.items l sections) (program_of l c.args.doc.now) c.in_err-pieces.field-0.0 c.in_err-pieces.ensures.exact
    (λ e h. program_with l c.args.doc.now sections c.in_ok-templates.templates c.new-names.result c.new-groups.result.items (Err e) c.as_slice-sections.ensures c.in_ok-templates.ensures.exact c.new-names.ensures c.new-groups.ensures.items h))

pub returns : goal.returns
returns c =
    let l = c.args.layout.now in
    let sections = c.as_slice-sections.result.now in
    let users = c.in_ok-templates.templates in
    let f : Read (List Piece) = record { value = c.in_ok-pieces.pieces.items; names = c.pieces.new.names; count = c.pieces.new.count; groups = c.pieces.new.groups.items } in
    let whole : Whole = record { templates = users; names = c.pieces.new.names; groups = c.from_vec.result; pieces = c.from_vec-2.result } in
    let made : whole ≡ record { templates = users; names = f.names; groups = f.groups; pieces = f.value } =
    ap (λ gs. record { templates = users; names = f.names; groups = gs; pieces = c.from_vec-2.result }) c.from_vec.ensures
    ∙ ap (λ ps. record { templates = users; names = f.names; groups = f.groups; pieces = ps }) c.from_vec-2.ensures in
    let exact : program_of l c.args.doc.now ≡ Ok whole =
    program_with l c.args.doc.now sections users c.new-names.result c.new-groups.result.items (Ok f) c.as_slice-sections.ensures c.in_ok-templates.ensures.exact c.new-names.ensures c.new-groups.ensures.items c.in_ok-pieces.ensures.exact
    ∙ whole_made users f whole made in
    record { exact = exact; sound = valid_if_read l c.args.doc.now whole c.requires.layout c.requires.doc exact }
