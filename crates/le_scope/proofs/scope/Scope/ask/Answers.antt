use Rattle.std.proofs.Common.{rules, ◌≡◌, ◌∷◌, [], ◌++◌, length, refl}
use Rattle.le_scope.specs.Scopes.{ScopeState}
use Rattle.le_scope.proofs.AskedLemmas.{with_asked_kept}
use Rattle.le_scope.proofs.scope.Scope.ask.Goals as goal

pub invariant_of-self-in-New : goal.invariant_of-self-in-New
invariant_of-self-in-New c =
    let before : ScopeState = record { limit = c.self.inside.limit; names = c.self.inside.names.items; asked = c.self.inside.asked.items } in
    let after : ScopeState = record { limit = c.self.inside.limit; names = c.push-in-New.new.self.items; asked = c.push.new.self.items } in
    let names : after.names ≡ before.names ++ c.in_ok-text.text ∷ [] = search rules in
    let asked : after.asked ≡ before.asked ++ length before.names ∷ [] = search rules in
    with_asked_kept before after c.in_ok-text.text c.self.invariant (search rules) refl names asked
