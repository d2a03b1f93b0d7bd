use Rattle.std.proofs.Common.{◌≡◌, ◌++◌, ◌∷◌, [], ◌∙◌, ap, sym, rules, length, take, drop, ◌-◌, ◌+◌, reverse}
use Rattle.le_proofs.specs.Replay.{behind}
use Rattle.le_english.specs.Explanations.{leaves, lines_of}
use Rattle.le_english.proofs.LineSteps.{proof-at}
use Rattle.le_english.proofs.explaining.Explained.explain_proof.Goals as goal

pub returns-clause-rest : goal.returns-clause-rest
returns-clause-rest c =
    let split : c.args.self.now.pending.items ≡ c.pop.new.self.items ++ c.unwrap-at.result ∷ [] = search rules in
    let text : c.push_str.new.self ≡ c.args.self.now.text ++ c.in_ok-line.line = search rules in
    ap (λ t. t ++ lines_of c.args.templates.now c.args.names.now c.args.program.now 0 (reverse c.push_below.new.pending.items) (drop (1 + c.in_ok-passed.passed.len) c.args.nodes.now)) text
    ∙ proof-at c.args.templates.now c.args.names.now c.args.program.now c.args.self.now.text c.in_ok-line.line c.in_ok-passed.passed.leaves c.in_ok-passed.passed.len c.unwrap-at.result c.args.self.now.pending.items c.pop.new.self.items c.push_below.new.pending.items c.index-nodes-0.result _ c.args.nodes.now
    c.requires.nodes (sym c.index-nodes-0.is) split c.in_ok-line.ensures.text
    (c.in_ok-passed.ensures.leaves ∙ ap (λ n. leaves 0 n (take (length c.args.nodes.now - 1) (drop 1 c.args.nodes.now))) c.unshown_below.ensures)
    (c.in_ok-passed.ensures.rest ∙ ap (λ n. behind n (take (length c.args.nodes.now - 1) (drop 1 c.args.nodes.now))) c.unshown_below.ensures)
    c.in_ok-push_below.ensures
