use Rattle.std.proofs.Common.{List}
use Rattle.le_clauses.specs.declared.part.Part.{Part}
use Rattle.le_match.specs.Terms.{Found}
use Rattle.le_clauses.specs.Rules.{parts_of}
use Rattle.le_clauses.specs.Shapes.{IsShape}
use Rattle.le_clauses.proofs.Exits.{gives_ok}
use Rattle.le_clauses.proofs.ReadSteps.{shape_read}
use Rattle.le_clauses.proofs.rules.tree_parts.Goals as goal

pub returns-clause-shape : goal.returns-clause-shape
returns-clause-shape c =
    let a = c.args in
    gives_ok _ (λ (f : Found (List Part)). IsShape f.value) c.parts.result (parts_of a.templates.now a.names.now a.scope.now a.query a.layout.now a.nodes.now) c.parts.ensures.exact
    (shape_read a.templates.now a.names.now a.scope.now a.query a.layout.now a.nodes.now c.requires.fit)
