use Rattle.std.proofs.Common.{◌≡◌, ◌+◌, ◌-◌, ◌<◌, ◌≤◌, ◌==◌, ℕ, List, position, take, drop, length, Option, Some, None, sym, ap, ◌∙◌, subst, arith, length-drop}
use Rattle.std.proofs.lemmas.List.{drop-drop}
use Rattle.le_prooftext.specs.Reading.{node_of, nodes_from}
use Rattle.le_prooftext.proofs.TreeLemmas.{to_end}
use Rattle.le_prooftext.proofs.TextLemmas.{puts_nodes, nodes_more, nodes_cut, nodes_stop}
use Rattle.le_prooftext.proofs.text.nodes_from.Goals as goal

-- where the rest of the bytes has an LF, and the first line of the rest
lf_at : (bytes : List ℕ) (at : ℕ) (o : Option ℕ) → at ≤ length bytes → o ≡ position (λ b. b == 10) (take (length bytes - at) (drop at bytes)) → o ≡ position (λ b. b == 10) (drop at bytes)
lf_at bytes at o within is = is ∙ ap (position (λ b. b == 10)) (to_end bytes at (length bytes - at) (omega arith))

line_at : (bytes : List ℕ) (at k : ℕ) → node_of (take (at + k - at) (drop at bytes)) ≡ node_of (take k (drop at bytes))
line_at bytes at k = let same : at + k - at ≡ k = omega arith in ap (λ n. node_of (take n (drop at bytes))) same

pub returns-in_default-clause-value : goal.returns-in_default-clause-value
returns-in_default-clause-value c =
    sym (c.loop-done.invariant.all
    ∙ nodes_cut (drop c.loop-done.at c.args.bytes.now) (c.args.count - c.loop-done.done) (c.args.count - (c.loop-done.done + 1)) c.loop-done.at c.loop-done.nodes.items (omega arith)
    (lf_at c.args.bytes.now c.loop-done.at None c.loop-done.invariant.within c.in_default.ensures.place))

pub returns-in_default-2-clause-value : goal.returns-in_default-2-clause-value
returns-in_default-2-clause-value c =
    sym (c.loop-done.invariant.all
    ∙ nodes_stop (drop c.loop-done.at c.args.bytes.now) (c.args.count - c.loop-done.done) (c.args.count - (c.loop-done.done + 1)) c.in-Some.place c.loop-done.at c.loop-done.nodes.items (omega arith)
    (lf_at c.args.bytes.now c.loop-done.at (Some c.in-Some.place) c.loop-done.invariant.within c.in-Some.ensures.place)
    (sym c.in_default-2.is ∙ (c.in_ok-node.ensures.value ∙ line_at c.args.bytes.now c.loop-done.at c.in-Some.place)))

pub loop-done-preserved : goal.loop-done-preserved
loop-done-preserved c =
    let left = to_end c.args.bytes.now c.loop-done.at (length c.args.bytes.now - c.loop-done.at) (omega arith) in
    let short : c.in-Some.place < length (drop c.loop-done.at c.args.bytes.now) = subst (λ (bytes : List ℕ). c.in-Some.place < length bytes) left c.in-Some.ensures.within in
    record {
      within = omega (arith, length-drop c.loop-done.at c.args.bytes.now);
      all = c.loop-done.invariant.all
          ∙ (nodes_more (drop c.loop-done.at c.args.bytes.now) (c.args.count - c.loop-done.done) (c.args.count - (c.loop-done.done + 1)) c.in-Some.place c.loop-done.at c.loop-done.nodes.items c.in-Some-2.node (omega arith)
          (lf_at c.args.bytes.now c.loop-done.at (Some c.in-Some.place) c.loop-done.invariant.within c.in-Some.ensures.place)
          short
          (sym c.in-Some-2.is ∙ (c.in_ok-node.ensures.value ∙ line_at c.args.bytes.now c.loop-done.at c.in-Some.place))
          ∙ (ap (λ items. puts_nodes items (c.loop-done.at + (c.in-Some.place + 1)) (nodes_from (c.args.count - (c.loop-done.done + 1)) (drop (c.in-Some.place + 1) (drop c.loop-done.at c.args.bytes.now)))) (sym c.in_ok-push.ensures.items)
          ∙ ap (λ bytes. puts_nodes c.push.new.self.items (c.loop-done.at + (c.in-Some.place + 1)) (nodes_from (c.args.count - (c.loop-done.done + 1)) bytes)) (drop-drop (c.in-Some.place + 1) c.loop-done.at c.args.bytes.now)));
    }
