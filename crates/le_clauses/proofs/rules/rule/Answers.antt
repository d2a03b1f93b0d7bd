use Rattle.std.proofs.Common.{Ok, Err, List, sym, ap, ◌∙◌}
use Rattle.std.proofs.lemmas.Result.{err_from_is_err_and}
use Rattle.le_layout.specs.declared.token.Token.{Token}
use Rattle.le_terms.specs.declared.program.Atom.{Atom}
use Rattle.le_match.specs.Terms.{Found}
use Rattle.le_conds.specs.Rules.{rule_of}
use Rattle.le_clauses.specs.declared.part.Part.{Part}
use Rattle.le_clauses.specs.Rules.{head_of, parts_of, body_nodes}
use Rattle.le_clauses.specs.Pieces.{rule_read, clauses_of_rule}
use Rattle.le_clauses.proofs.Exits.{handed_on}
use Rattle.le_clauses.proofs.ReadSteps.{readable, rule_cut, rule_head, rule_body}
use Rattle.le_clauses.proofs.rules.rule.Goals as goal

pub body_parts-requires-clause-conds : goal.body_parts-requires-clause-conds
body_parts-requires-clause-conds c = readable c.args.layout.now c.args.sentence.to c.in_ok-first.conds c.in_ok-first.ensures.conditions

pub returns-in_err-first : goal.returns-in_err-first
returns-in_err-first c =
    let a = c.args in
    let p = err_from_is_err_and c.from_residual.result c.from_residual.ensures.1 in
    record {
      exact = rw (p.1, p.2) (handed_on (rule_of a.layout.now a.sentence) (clauses_of_rule a.templates.now a.names.now a.count.now a.groups.now.items a.layout.now a.sentence) c.in_err-first.field-0.0 c.in_err-first.ensures.exact
          (λ e h. rule_cut a.templates.now a.names.now a.count.now a.groups.now.items a.layout.now a.sentence (Err e) h));
    }

pub returns-in_err-head : goal.returns-in_err-head
returns-in_err-head c =
    let a = c.args in
    let p = err_from_is_err_and c.from_residual-in_err-head.result c.from_residual-in_err-head.ensures.1 in
    record {
      exact = rw (p.1, p.2) (handed_on (head_of a.templates.now a.names.now a.layout.now c.in_ok-first.first) (clauses_of_rule a.templates.now a.names.now a.count.now a.groups.now.items a.layout.now a.sentence) c.in_err-head.field-0.0 c.in_err-head.ensures.exact
          (λ e h. rule_head a.templates.now a.names.now a.count.now a.groups.now.items a.layout.now a.sentence c.in_ok-first.first c.in_ok-first.conds (Err e) c.in_ok-first.ensures.exact h));
    }

pub returns-in_err-parts : goal.returns-in_err-parts
returns-in_err-parts c =
    let a = c.args in
    let head : Found Atom = record { value = c.in_ok-head.head; names = c.conclusion.new.names; scope = c.conclusion.new.scope } in
    let p = err_from_is_err_and c.from_residual-in_err-parts.result c.from_residual-in_err-parts.ensures.1 in
    record {
      exact = rw (p.1, p.2) (handed_on (parts_of a.templates.now head.names head.scope Rattle.std.proofs.Common.false a.layout.now (body_nodes c.in_ok-first.conds)) (clauses_of_rule a.templates.now a.names.now a.count.now a.groups.now.items a.layout.now a.sentence) c.in_err-parts.field-0.0 c.in_err-parts.ensures.exact
          (λ e h. rule_body a.templates.now a.names.now a.count.now a.groups.now.items a.layout.now a.sentence c.in_ok-first.first c.in_ok-first.conds head (Err e) c.in_ok-first.ensures.exact c.in_ok-head.ensures.exact h));
    }

pub returns : goal.returns
returns c =
    let a = c.args in
    let head : Found Atom = record { value = c.in_ok-head.head; names = c.conclusion.new.names; scope = c.conclusion.new.scope } in
    let f : Found (List Part) = record { value = c.in_ok-parts.parts.items; names = c.body_parts.new.names; scope = c.body_parts.new.scope } in
    let is = rule_body a.templates.now a.names.now a.count.now a.groups.now.items a.layout.now a.sentence c.in_ok-first.first c.in_ok-first.conds head (Ok f) c.in_ok-first.ensures.exact c.in_ok-head.ensures.exact c.in_ok-parts.ensures.exact
    ∙ ap (λ (t : Token). rule_read a.templates.now a.count.now a.groups.now.items t c.in_ok-head.head (Ok f)) (sym c.token-begin.ensures) in
    record { exact = rw is (c.read_rule.ensures.exact c.body_parts.new.names) }
