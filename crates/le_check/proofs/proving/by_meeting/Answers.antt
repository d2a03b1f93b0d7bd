use Rattle.std.proofs.Common.{◌++◌, [], ◌∷◌, drop, subst}
use Rattle.le_check.specs.Parts.{nodes_from}
use Rattle.le_check.specs.Meetings.{meeting_of}
use Rattle.le_check.proofs.Resuming.{ok-all, Proves, proves-computed}
use Rattle.le_check.proofs.proving.by_meeting.Goals as goal

pub returns-in_ok-by_clause-in-ByClause-clause-means : goal.returns-in_ok-by_clause-in-ByClause-clause-means
returns-in_ok-by_clause-in-ByClause-clause-means g c = λ frames order whole literal h.
    c.in_ok-by_clause-in-ByClause.ensures.means frames order whole literal
    (subst (λ m. Proves c.args.program.now c.args.nodes.now frames c.args.proof.fuel c.args.proof.goal c.args.proof.path.items (nodes_from c.args.nodes.now c.args.proof.places.items) c.args.place literal c.args.line c.args.number (drop c.args.at c.args.nodes.now) order (meeting_of m) whole) c.in-ByClause.is h)

pub returns-in_ok-by_computing-in-ByComputing-clause-means : goal.returns-in_ok-by_computing-in-ByComputing-clause-means
returns-in_ok-by_computing-in-ByComputing-clause-means g c = λ frames order whole literal h.
    let skip = c.in_ok-behind-in-ByComputing in
    c.in_ok-by_computing-in-ByComputing.ensures.means c.args.program.now c.args.nodes.now frames (order ++ c.args.number ∷ []) whole c.args.line
    (proves-computed c.args.program.now c.args.nodes.now frames c.args.proof skip.behind c.args.place literal c.args.line c.args.number (drop c.args.at c.args.nodes.now) order c.in-ByComputing.atom whole
    c.requires.inside skip.ensures.fuel skip.ensures.goal skip.ensures.path (skip.ensures.places c.args.nodes.now)
    (subst (λ m. Proves c.args.program.now c.args.nodes.now frames c.args.proof.fuel c.args.proof.goal c.args.proof.path.items (nodes_from c.args.nodes.now c.args.proof.places.items) c.args.place literal c.args.line c.args.number (drop c.args.at c.args.nodes.now) order (meeting_of m) whole) c.in-ByComputing.is h))

pub returns-in-ByFailure-clause-means : goal.returns-in-ByFailure-clause-means
returns-in-ByFailure-clause-means g c =
    ok-all _ _
    (λ opening opens frames order whole literal h.
    opens c.args.program.now c.args.nodes.now frames order whole literal
    (subst (λ m. Proves c.args.program.now c.args.nodes.now frames c.args.proof.fuel c.args.proof.goal c.args.proof.path.items (nodes_from c.args.nodes.now c.args.proof.places.items) c.args.place literal c.args.line c.args.number (drop c.args.at c.args.nodes.now) order (meeting_of m) whole) c.in-ByFailure.is h)) c.by_failure.result c.by_failure.ensures

pub returns-in-ByGathering-clause-means : goal.returns-in-ByGathering-clause-means
returns-in-ByGathering-clause-means g c =
    ok-all _ _
    (λ opening opens frames order whole literal h.
    opens c.args.program.now c.args.nodes.now frames order whole literal
    (subst (λ m. Proves c.args.program.now c.args.nodes.now frames c.args.proof.fuel c.args.proof.goal c.args.proof.path.items (nodes_from c.args.nodes.now c.args.proof.places.items) c.args.place literal c.args.line c.args.number (drop c.args.at c.args.nodes.now) order (meeting_of m) whole) c.in-ByGathering.is h)) c.by_gathering.result c.by_gathering.ensures
