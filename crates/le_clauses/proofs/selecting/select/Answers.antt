use Rattle.std.proofs.Common.{◌≡◌, ◌++◌, ℕ, Some, None, Ok, Err, List, Bor, sym, ap, append_assoc, ◌∙◌}
use Rattle.std.specs.Option.{option_map, option_copied}
use Rattle.std.proofs.lemmas.Result.{err_from_is_err_and, IfOk-at_ok}
use Rattle.le_terms.specs.declared.program.Program.{Program}
use Rattle.le_terms.specs.Program.{IsProgram}
use Rattle.le_clauses.specs.Selection.{prelude, clauses_under, selected}
use Rattle.le_clauses.proofs.Exits.{handed_on}
use Rattle.le_clauses.proofs.Selected.{selected_in}
use Rattle.le_clauses.proofs.SelectSteps.{select_under, select_with, made_over}
use Rattle.le_clauses.proofs.selecting.select.Goals as goal

pub returns-in_err-clauses-clause-exact : goal.returns-in_err-clauses-clause-exact
returns-in_err-clauses-clause-exact c =
    let a = c.args in
    let scenario = option_map {T = Bor (List ℕ)} {U = List ℕ} (λ s. s.now) a.scenario in
    let p = err_from_is_err_and c.from_residual.result c.from_residual.ensures.1 in
    rw (p.1, p.2) (handed_on (clauses_under a.whole.now scenario) (selected a.whole.now scenario a.query.now) c.in_err-clauses.field-0.0 c.in_err-clauses.ensures.exact (λ e h. select_under a.whole.now scenario a.query.now (Err e) h))

pub returns-in_default-clause-exact : goal.returns-in_default-clause-exact
returns-in_default-clause-exact c =
    let a = c.args in
    let scenario = option_map {T = Bor (List ℕ)} {U = List ℕ} (λ s. s.now) a.scenario in
    let found = ap option_copied (sym c.in_default.is) ∙ c.named.ensures in
    select_with a.whole.now scenario a.query.now c.in_ok-clauses.clauses.items c.as_slice.result.now None c.in_ok-clauses.ensures.exact c.as_slice.ensures found
    ∙ ap Err (sym c.at.ensures)

pub returns : goal.returns
returns c =
    let a = c.args in
    let scenario = option_map {T = Bor (List ℕ)} {U = List ℕ} (λ s. s.now) a.scenario in
    let found = ap option_copied (sym c.in-Some.is) ∙ c.named.ensures in
    let piece = c.in-Some.piece.now in
    let all : c.append.new.self.items ≡ c.in_ok-clauses.clauses.items ++ (piece.clauses ++ prelude) =
    c.in_ok-append.ensures.items ∙ ap (λ xs. xs ++ c.in_ok-prelude.prelude.items) (c.in_ok-add.ensures ∙ ap (λ xs. c.in_ok-clauses.clauses.items ++ xs) c.as_slice-2.ensures)
    ∙ ap (λ xs. (c.in_ok-clauses.clauses.items ++ piece.clauses) ++ xs) c.in_ok-prelude.ensures
    ∙ append_assoc c.in_ok-clauses.clauses.items piece.clauses prelude in
    let program : Program = record { clauses = c.from_vec.result; query = c.in_ok-copy.field-0; asked = c.in_ok-copy-2.field-0; vars = piece.vars; users = c.users.result; groups = c.in_ok-copy-3.field-0; version = 1 } in
    let exact : selected a.whole.now scenario a.query.now ≡ Ok program =
    select_with a.whole.now scenario a.query.now c.in_ok-clauses.clauses.items c.as_slice.result.now (Some piece) c.in_ok-clauses.ensures.exact c.as_slice.ensures found
    ∙ made_over a.whole.now c.in_ok-clauses.clauses.items c.from_vec.result piece c.in_ok-copy.field-0 c.in_ok-copy-2.field-0 c.users.result c.in_ok-copy-3.field-0
    (c.from_vec.ensures ∙ all) c.in_ok-copy.ensures c.in_ok-copy-2.ensures c.users.ensures.count c.in_ok-copy-3.ensures in
    record { exact = exact; sound = IfOk-at_ok IsProgram exact (selected_in a.whole.now scenario a.query.now c.requires) }
