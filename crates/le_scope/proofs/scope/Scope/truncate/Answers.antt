use Rattle.std.proofs.Common.{rules, ◌≡◌, ℕ, List, take, ap, ◌∙◌, refl}
use Rattle.std.proofs.lemmas.Fn.{filter_same}
use Rattle.le_scope.specs.Scopes.{ScopeState, first_names, numbers_below}
use Rattle.le_scope.proofs.AskedLemmas.{first_kept}
use Rattle.le_scope.proofs.scope.Scope.truncate.Goals as goal

pub invariant_of-self : goal.invariant_of-self
invariant_of-self c =
    let before : ScopeState = record { limit = c.self.inside.limit; names = c.self.inside.names.items; asked = c.self.inside.asked.items } in
    let after : ScopeState = record { limit = c.self.inside.limit; names = c.truncate.new.self.items; asked = c.retain.new.self.items } in
    let names : after.names ≡ take c.args.n before.names = search rules in
    let asked : after.asked ≡ numbers_below c.args.n before.asked = filter_same _ _ _ (λ x b f' k. search rules) _ _ c.retain.ensures.filtered in
    first_kept before after c.args.n c.self.invariant refl names asked

pub returns : goal.returns
returns c =
    let names : c.truncate.new.self.items ≡ take c.args.n c.self.inside.names.items = search rules in
    let asked : c.retain.new.self.items ≡ numbers_below c.args.n c.self.inside.asked.items = filter_same _ _ _ (λ x b f' k. search rules) _ _ c.retain.ensures.filtered in
    let made : List (List ℕ) → List ℕ → ScopeState = λ ns ms. record { limit = c.self.inside.limit; names = ns; asked = ms } in
    ap (λ ns. made ns c.retain.new.self.items) names ∙ ap (made (take c.args.n c.self.inside.names.items)) asked ∙ ap (λ s. first_names s c.args.n) c.self.view_is
