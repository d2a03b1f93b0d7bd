-- How the program of a query is made of its clauses and its piece.
use Rattle.std.proofs.Common.{◌≡◌, ℕ, ◌++◌, Option, Some, Result, Ok, Err, List, length, find, sym, ap, ◌∙◌}
use Rattle.le_base.specs.declared.stop.Refusal.{Refusal}
use Rattle.le_docs.specs.declared.doc.SectionKind.TheVariants.{Query}
use Rattle.le_terms.specs.declared.program.Asked.{Asked}
use Rattle.le_terms.specs.declared.program.Clause.{Clause}
use Rattle.le_terms.specs.declared.program.GroupKind.{GroupKind}
use Rattle.le_terms.specs.declared.program.Literal.{Literal}
use Rattle.le_terms.specs.declared.program.Program.{Program}
use Rattle.le_clauses.specs.declared.whole.Piece.{Piece}
use Rattle.le_clauses.specs.declared.whole.Whole.{Whole}
use Rattle.le_clauses.specs.Selection.{prelude, is_named, program_over, clauses_under, selected}

abbrev then_program : Whole → Option Piece → Result (List Clause) Refusal → Result Program Refusal
then_program whole o (Ok clauses) = program_over whole clauses o
then_program whole o (Err r) = Err r

pub select_under : (whole : Whole) (scenario : Option (List ℕ)) (query : List ℕ) (r : Result (List Clause) Refusal) → clauses_under whole scenario ≡ r → selected whole scenario query ≡ then_program whole (find (is_named Query query) whole.pieces) r
unfolding selected
select_under whole scenario query r e = ap (then_program whole (find (is_named Query query) whole.pieces)) e

pub select_with : (whole : Whole) (scenario : Option (List ℕ)) (query : List ℕ) (clauses : List Clause) (pieces : List Piece) (o : Option Piece) → clauses_under whole scenario ≡ Ok clauses → pieces ≡ whole.pieces → o ≡ find (is_named Query query) pieces → selected whole scenario query ≡ program_over whole clauses o
select_with whole scenario query clauses pieces o e p f =
    select_under whole scenario query (Ok clauses) e
    ∙ ap (program_over whole clauses) (sym (f ∙ ap (find (is_named Query query)) p))

pub made_over : (whole : Whole) (clauses clauses' : List Clause) (q : Piece) (query : List Literal) (asked : List Asked) (users : ℕ) (groups : List GroupKind) → clauses' ≡ clauses ++ (q.clauses ++ prelude) → query ≡ q.query → asked ≡ q.asked → users ≡ length whole.templates → groups ≡ whole.groups → program_over whole clauses (Some q) ≡ Ok (record { clauses = clauses'; query = query; asked = asked; vars = q.vars; users = users; groups = groups; version = 1 })
made_over whole clauses clauses' q query asked users groups ec eq ea eu eg =
    ap (λ x. Ok (record { clauses = x; query = q.query; asked = q.asked; vars = q.vars; users = length whole.templates; groups = whole.groups; version = 1 })) (sym ec)
    ∙ ap (λ x. Ok (record { clauses = clauses'; query = x; asked = q.asked; vars = q.vars; users = length whole.templates; groups = whole.groups; version = 1 })) (sym eq)
    ∙ ap (λ x. Ok (record { clauses = clauses'; query = query; asked = x; vars = q.vars; users = length whole.templates; groups = whole.groups; version = 1 })) (sym ea)
    ∙ ap (λ x. Ok (record { clauses = clauses'; query = query; asked = asked; vars = q.vars; users = x; groups = whole.groups; version = 1 })) (sym eu)
    ∙ ap (λ x. Ok (record { clauses = clauses'; query = query; asked = asked; vars = q.vars; users = users; groups = x; version = 1 })) (sym eg)
