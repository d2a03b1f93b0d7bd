use Rattle.std.proofs.Common.{rules, ◌≡◌, length, subst}
use Rattle.le_scope.specs.Scopes.{ScopeState, first_names}
use Rattle.le_scope.proofs.AskedLemmas.{whole_scope}
use Rattle.le_scope.proofs.scope.Scope.count.Goals as goal

pub returns-clause-whole : goal.returns-clause-whole
returns-clause-whole c =
    let s : ScopeState = record { limit = c.self.inside.limit; names = c.self.inside.names.items; asked = c.self.inside.asked.items } in
    let P : ScopeState → Type 0 = λ v. first_names v (length v.names) ≡ v in
    let whole : P c.args.self.now = subst P c.self.view_is (whole_scope s c.self.invariant) in
    search rules
