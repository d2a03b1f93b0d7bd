use Rattle.std.proofs.Common.{◌≡◌, ◌≢◌, ◌<◌, ◌≤◌, ◌-◌, ◌+◌, ◌∷◌, suc, length, drop, get_or, rules, sym, ap, ◌∙◌, subst, arith}
use Rattle.le_terms.specs.declared.program.Literal.{Literal}
use Rattle.le_proofs.specs.declared.node.Node.{Node}
use Rattle.le_proofs.specs.Replay.{nodes_at, faulty}
use Rattle.le_check.specs.Goals.{goal_of, Chooses}
use Rattle.le_check.specs.Parts.{nodes_from}
use Rattle.le_check.specs.Left.{Opened, Means}
use Rattle.le_check.proofs.Resuming.{no-fuel, selects, selects-none, meets, drop-some, Proves}
use Rattle.le_check.proofs.proving.prove_next.Goals as goal

pub returns-then-proof-eq0-clause-means : goal.returns-then-proof-eq0-clause-means
returns-then-proof-eq0-clause-means g c = λ frames whole h.
    let program = c.args.program.now in
    let nodes = c.args.nodes.now in
    let none : c.args.proof.fuel ≡ 0 = c.if-proof-eq0.true in
    let last : suc (length c.args.nodes.now) - 0 ≡ length c.args.nodes.now + 1 = omega arith in
    subst (Means program nodes frames c.args.order.now.items c.stopped.result) (sym (no-fuel program nodes frames c.args.proof.path.items c.args.order.now.items whole c.args.proof.fuel (goal_of c.args.proof.goal) (nodes_from nodes c.args.proof.places.items) none h ∙ ap (λ n. faulty n 9) last))
    (c.stopped.ensures program nodes frames c.args.order.now.items)

pub returns-then-at-nodes-clause-means : goal.returns-then-at-nodes-clause-means
returns-then-at-nodes-clause-means g c = λ frames whole h.
    let program = c.args.program.now in
    let nodes = c.args.nodes.now in
    let proof = c.args.proof in
    let place = c.in-Some.place in
    let some : c.args.proof.fuel ≢ 0 = c.if-proof-eq0.false in
    let one : c.args.proof.fuel ≡ suc (c.args.proof.fuel - 1) = omega arith in
    let last : suc (length c.args.nodes.now) - 0 ≡ length c.args.nodes.now + 1 = omega arith in
    let chosen : (c.in-Some.place < length c.args.proof.goal.literals.items) × Chooses c.args.program.now.version c.args.proof.goal.literals.items c.in-Some.place =
    subst (λ ls. (c.in-Some.place < length ls) × Chooses c.args.program.now.version ls c.in-Some.place) c.deref.ensures.value c.in-Some.ensures.place in
    let begins : drop c.place_at-at.result c.args.nodes.now ≡ nodes_at c.in-Some.place (nodes_from c.args.nodes.now c.args.proof.places.items) =
    c.place_at-at.ensures ∙ ap (λ ps. nodes_at c.in-Some.place (nodes_from c.args.nodes.now ps)) c.deref-2.ensures.value in
    let high : length c.args.nodes.now ≤ c.place_at-at.result = omega (arith, c.if-at-nodes.true) in
    subst (Means program nodes frames c.args.order.now.items c.stopped-then-at-nodes.result)
    (sym (selects-none program nodes frames proof.path.items c.args.order.now.items whole proof.fuel (proof.fuel - 1) (goal_of proof.goal) (nodes_from nodes proof.places.items) place c.place_at-at.result one chosen.1 chosen.0 begins high h ∙ ap (λ n. faulty n 9) last))
    (c.stopped-then-at-nodes.ensures program nodes frames c.args.order.now.items)

pub returns-clause-means : goal.returns-clause-means
returns-clause-means g c = λ frames whole h.
    let program = c.args.program.now in
    let nodes = c.args.nodes.now in
    let proof = c.args.proof in
    let place = c.in-Some.place in
    let at = c.place_at-at.result in
    let some : c.args.proof.fuel ≢ 0 = c.if-proof-eq0.false in
    let one : c.args.proof.fuel ≡ suc (c.args.proof.fuel - 1) = omega arith in
    let literal : Literal = c.index-literal.result.now in
    let chosen : (c.in-Some.place < length c.args.proof.goal.literals.items) × Chooses c.args.program.now.version c.args.proof.goal.literals.items c.in-Some.place =
    subst (λ ls. (c.in-Some.place < length ls) × Chooses c.args.program.now.version ls c.in-Some.place) c.deref.ensures.value c.in-Some.ensures.place in
    let read : c.index-literal.result.now ≡ get_or c.args.proof.goal.literals.items c.in-Some.place c.index-literal.result.now = search rules in
    let low : c.place_at-at.result < length c.args.nodes.now = omega (arith, c.if-at-nodes.false) in
    let node : Node = c.index-nodes-at.result in
    let begins : drop c.place_at-at.result c.args.nodes.now ≡ nodes_at c.in-Some.place (nodes_from c.args.nodes.now c.args.proof.places.items) =
    c.place_at-at.ensures ∙ ap (λ ps. nodes_at c.in-Some.place (nodes_from c.args.nodes.now ps)) c.deref-2.ensures.value in
    let is : drop c.place_at-at.result c.args.nodes.now ≡ c.index-nodes-at.result ∷ drop (c.place_at-at.result + 1) c.args.nodes.now =
    let got : get_or c.args.nodes.now c.place_at-at.result c.index-nodes-at.result ≡ c.index-nodes-at.result = search rules in
    drop-some c.args.nodes.now c.place_at-at.result c.index-nodes-at.result low ∙ ap (λ n. n ∷ drop (c.place_at-at.result + 1) c.args.nodes.now) got in
    subst (λ o. Opened program nodes frames o c.in_ok-opening.opening whole) (sym c.in_ok-push.ensures.items)
    (c.in_ok-opening.ensures.means frames c.args.order.now.items whole literal
    (subst (λ m. Proves program nodes frames (proof.fuel - 1) proof.goal proof.path.items (nodes_from nodes proof.places.items) place literal literal.line (at + 1) (drop (at + 1) nodes) c.args.order.now.items m whole) (sym c.in_ok-meeting.ensures)
    (meets program nodes frames proof.path.items c.args.order.now.items whole (proof.fuel - 1) (goal_of proof.goal) (nodes_from nodes proof.places.items) place literal at node low is
    (selects program nodes frames proof.path.items c.args.order.now.items whole proof.fuel (proof.fuel - 1) (goal_of proof.goal) (nodes_from nodes proof.places.items) place literal (drop at nodes) one (chosen.1 literal read) chosen.0 begins h))))
