use Rattle.std.proofs.Common.{rules, ◌≡◌, ◌∷◌, [], ◌++◌, refl}
use Rattle.le_scope.specs.Scopes.{ScopeState}
use Rattle.le_scope.proofs.AskedLemmas.{with_name_kept}
use Rattle.le_scope.proofs.scope.Scope.introduce.Goals as goal

pub invariant_of-self-in_ok-push : goal.invariant_of-self-in_ok-push
invariant_of-self-in_ok-push c =
    let before : ScopeState = record { limit = c.self.inside.limit; names = c.self.inside.names.items; asked = c.self.inside.asked.items } in
    let after : ScopeState = record { limit = c.self.inside.limit; names = c.push.new.self.items; asked = c.self.inside.asked.items } in
    let names : after.names ≡ before.names ++ c.in_ok-of.field-0 ∷ [] = search rules in
    with_name_kept before after c.in_ok-of.field-0 c.self.invariant (search rules) refl names refl
