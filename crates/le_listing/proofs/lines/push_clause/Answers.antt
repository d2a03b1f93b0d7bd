use Rattle.std.proofs.Common.{◌≡◌, ◌∙◌, ◌++◌, ℕ, List, OnOk, ap, subst}
use Rattle.std.specs.Prelude.{decimal}
use Rattle.le_terms.specs.Program.{clause_terms}
use Rattle.le_terms.specs.Variables.{all_variables}
use Rattle.le_listing.specs.ClauseText.{atom_text, body_text}
use Rattle.le_listing.proofs.Steps.{line_written}
use Rattle.le_listing.proofs.lines.push_clause.Goals as goal

pub returns : goal.returns
returns c =
    let whole = c.args.whole.now in
    let clause = c.args.clause.now in
    let vars = all_variables (clause_terms clause) in
    let headed : c.push_atom.new.text ≡ c.push_str.new.self ++ atom_text whole vars clause.head =
    c.in_ok-push_atom.ensures ∙ ap (λ vs. c.push_str.new.self ++ atom_text whole vs clause.head) c.in_ok-vars.ensures in
    let bodied : c.push_body.new.text ≡ c.push_atom.new.text ++ body_text whole vars clause.body =
    c.in_ok-push_body.ensures
    ∙ ap (λ vs. c.push_atom.new.text ++ body_text whole vs c.as_slice.result.now) c.in_ok-vars.ensures
    ∙ ap (λ ls. c.push_atom.new.text ++ body_text whole vars ls) c.as_slice.ensures in
    let Written : List ℕ → Type 0 = λ t. OnOk c.push_str-2.result (c.push_str-2.new.self ≡ t) in
    subst Written
    (line_written c.args.text.now (decimal clause.line) (atom_text whole vars clause.head) (body_text whole vars clause.body) c.push_number.new.text c.push_str.new.self c.push_atom.new.text c.push_body.new.text
    c.in_ok-push_number.ensures c.in_ok-push_str.ensures.ok headed bodied)
    c.push_str-2.ensures.ok
