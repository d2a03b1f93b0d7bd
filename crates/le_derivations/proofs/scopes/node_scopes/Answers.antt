use Rattle.std.proofs.Common.{rules, ◌≡◌, ◌+◌, ◌++◌, ◌∷◌, ◌∙◌, ℕ, List, drop, reverse, ap, ap₂, add-one}
use Rattle.le_proofs.specs.Derivations.{parts_of, scope_below, times}
use Rattle.le_derivations.specs.Numbers.{scopes_of}
use Rattle.le_derivations.proofs.Fronts.{last-first}
use Rattle.le_derivations.proofs.Noting.{scope-more}
use Rattle.le_derivations.proofs.scopes.node_scopes.Goals as goal

pub loop-place-preserved : goal.loop-place-preserved
loop-place-preserved c =
    let place = c.loop-place.place in
    let scope = c.in-Some.scope in
    let rest : List ℕ = reverse c.pop.new.self.items in
    let top : reverse c.loop-place.waiting.items ≡ scope ∷ rest = ap reverse c.in-Some.ensures.items ∙ last-first c.pop.new.self.items scope in
    let more : List ℕ = reverse c.push_times-in-loop-place.new.waiting.items in
    let node = c.index-nodes-place.result in
    let below : more ≡ times (parts_of node) (scope_below (place + 1) scope node) rest =
    c.in_ok-push_times-2.ensures ∙ ap₂ (λ n s. times n s rest) c.parts_of.ensures.parts c.scope_below-below.ensures in
    record {
      all = ap (λ k. c.push.new.self.items ++ scopes_of k more (drop (place + 1) c.args.nodes.now)) (add-one (place + 1))
          ∙ (scope-more (place + 1) (reverse c.loop-place.waiting.items) rest more c.args.nodes.now place scope node c.loop-place.scopes.items c.push.new.self.items
          c.loop-place-test.true c.index-nodes-place.is top below c.in_ok-push.ensures.items
          ∙ c.loop-place.invariant.all);
      many = search rules;
    }
