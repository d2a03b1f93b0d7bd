use Rattle.std.proofs.Common.{Ok, Err, List, sym, ap, subst, ◌∙◌}
use Rattle.std.proofs.lemmas.Result.{err_from_is_err_and}
use Rattle.le_layout.specs.declared.token.Token.{Token}
use Rattle.le_match.specs.Terms.{Found}
use Rattle.le_conds.specs.Rules.{conditions_of}
use Rattle.le_clauses.specs.declared.part.Part.{Part}
use Rattle.le_clauses.specs.Rules.{parts_of}
use Rattle.le_clauses.specs.Shapes.{NodesFit}
use Rattle.le_clauses.specs.Pieces.{query_read, query_of}
use Rattle.le_clauses.proofs.Exits.{handed_on}
use Rattle.le_clauses.proofs.ReadSteps.{one_tree_fits, query_cut, query_body}
use Rattle.le_clauses.proofs.queries.query.Goals as goal

pub tree_parts-requires-clause-fit : goal.tree_parts-requires-clause-fit
tree_parts-requires-clause-fit c = subst (NodesFit 1) (sym c.as_slice-nodes.ensures) (one_tree_fits c.in_ok-conds.conds.nodes c.in_ok-conds.ensures.conditions.whole)

pub returns-in_err-conds : goal.returns-in_err-conds
returns-in_err-conds c =
    let a = c.args in
    let p = err_from_is_err_and c.from_residual.result c.from_residual.ensures.1 in
    record {
      exact = rw (p.1, p.2) (handed_on (conditions_of a.layout.now a.sentence) (query_of a.templates.now a.names.now a.count.now a.groups.now.items a.layout.now a.section.now a.sentence) c.in_err-conds.field-0.0 c.in_err-conds.ensures.exact
          (λ e h. query_cut a.templates.now a.names.now a.count.now a.groups.now.items a.layout.now a.section.now a.sentence (Err e) h));
    }

pub returns-in_err-parts : goal.returns-in_err-parts
returns-in_err-parts c =
    let a = c.args in
    let p = err_from_is_err_and c.from_residual-in_err-parts.result c.from_residual-in_err-parts.ensures.1 in
    record {
      exact = rw (p.1, p.2) (handed_on (parts_of a.templates.now a.names.now c.with_limit-scope.result Rattle.std.proofs.Common.true a.layout.now c.as_slice-nodes.result.now) (query_of a.templates.now a.names.now a.count.now a.groups.now.items a.layout.now a.section.now a.sentence) c.in_err-parts.field-0.0 c.in_err-parts.ensures.exact
          (λ e h. query_body a.templates.now a.names.now a.count.now a.groups.now.items a.layout.now a.section.now a.sentence c.in_ok-conds.conds c.as_slice-nodes.result.now c.with_limit-scope.result (Err e) c.in_ok-conds.ensures.exact c.as_slice-nodes.ensures c.with_limit-scope.ensures h));
    }

pub returns : goal.returns
returns c =
    let a = c.args in
    let f : Found (List Part) = record { value = c.in_ok-parts.parts.items; names = c.tree_parts.new.names; scope = c.tree_parts.new.scope } in
    let is = query_body a.templates.now a.names.now a.count.now a.groups.now.items a.layout.now a.section.now a.sentence c.in_ok-conds.conds c.as_slice-nodes.result.now c.with_limit-scope.result (Ok f) c.in_ok-conds.ensures.exact c.as_slice-nodes.ensures c.with_limit-scope.ensures c.in_ok-parts.ensures.exact
    ∙ ap (λ (t : Token). query_read a.templates.now a.count.now a.groups.now.items a.section.now t (Ok f)) (sym c.token-begin.ensures) in
    record { exact = rw is (c.read_query.ensures.exact c.tree_parts.new.names) }
