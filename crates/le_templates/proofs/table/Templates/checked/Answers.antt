use Rattle.std.proofs.Common.{◌≡◌, ◌∙◌, ◌<◌, ◌≤◌, ap, List, length, arith}
use Rattle.le_templates.specs.declared.part.Part.{Part}
use Rattle.le_templates.specs.Skeletons.{key_of}
use Rattle.le_templates.specs.Table.{is_declared}
use Rattle.le_templates.proofs.TableLemmas.{declared_is, declared_none, declared_same, declared_many, declared_new}
use Rattle.le_templates.proofs.table.Templates.checked.Goals as goal

pub returns-in_default-clause-exact : goal.returns-in_default-clause-exact
returns-in_default-clause-exact c =
    rw c.refused.ensures (rw c.first_token-first.ensures (declared_none c.args.self.now c.args.layout.now c.args.tokens c.in_ok-template.field-0 c.in_ok-template.ensures c.in_default.is))

pub returns-then-has-clause-exact : goal.returns-then-has-clause-exact
returns-then-has-clause-exact c =
    let key : c.deref.result.now ≡ key_of c.in-Some.template.parts = c.deref.ensures.value ∙ c.in_ok-key.ensures ∙ ap (λ (ps : List Part). key_of ps) c.as_slice.ensures in
    let is : is_declared c.args.self.now c.in-Some.template.parts ≡ c.has.result = declared_is c.self.inside.users.items c.args.self.now c.self.inside.keys c.in-Some.template.parts c.deref.result.now c.has.result c.self.invariant.own_keys c.self.view_is key c.has.ensures in
    rw c.refused-then-has.ensures (rw c.first_token-first.ensures (declared_same c.args.self.now c.args.layout.now c.args.tokens c.in_ok-template.field-0 c.in-Some.template c.has.result c.in_ok-template.ensures c.in-Some.is is c.if-has.true))

pub returns-then-len-ge-MOST_TEMPLATES-clause-exact : goal.returns-then-len-ge-MOST_TEMPLATES-clause-exact
returns-then-len-ge-MOST_TEMPLATES-clause-exact c =
    let key : c.deref.result.now ≡ key_of c.in-Some.template.parts = c.deref.ensures.value ∙ c.in_ok-key.ensures ∙ ap (λ (ps : List Part). key_of ps) c.as_slice.ensures in
    let is : is_declared c.args.self.now c.in-Some.template.parts ≡ c.has.result = declared_is c.self.inside.users.items c.args.self.now c.self.inside.keys c.in-Some.template.parts c.deref.result.now c.has.result c.self.invariant.own_keys c.self.view_is key c.has.ensures in
    let high : 1000 ≤ length c.args.self.now = omega (arith, c.if-len-ge-MOST_TEMPLATES.true, c.len.ensures, ap length c.self.view_is) in
    rw c.refused-then-len-ge-MOST_TEMPLATES.ensures (rw c.first_token-first.ensures (declared_many c.args.self.now c.args.layout.now c.args.tokens c.in_ok-template.field-0 c.in-Some.template c.has.result c.in_ok-template.ensures c.in-Some.is is c.if-has.false high))

pub returns-clause-exact : goal.returns-clause-exact
returns-clause-exact c =
    let key : c.deref.result.now ≡ key_of c.in-Some.template.parts = c.deref.ensures.value ∙ c.in_ok-key.ensures ∙ ap (λ (ps : List Part). key_of ps) c.as_slice.ensures in
    let is : is_declared c.args.self.now c.in-Some.template.parts ≡ c.has.result = declared_is c.self.inside.users.items c.args.self.now c.self.inside.keys c.in-Some.template.parts c.deref.result.now c.has.result c.self.invariant.own_keys c.self.view_is key c.has.ensures in
    let low : length c.args.self.now < 1000 = omega (arith, c.if-len-ge-MOST_TEMPLATES.false, c.len.ensures, ap length c.self.view_is) in
    declared_new c.args.self.now c.args.layout.now c.args.tokens c.in_ok-template.field-0 c.in-Some.template c.has.result c.in_ok-template.ensures c.in-Some.is is c.if-has.false low

pub returns-clause-fresh : goal.returns-clause-fresh
returns-clause-fresh c =
    let key : c.deref.result.now ≡ key_of c.in-Some.template.parts = c.deref.ensures.value ∙ c.in_ok-key.ensures ∙ ap (λ (ps : List Part). key_of ps) c.as_slice.ensures in
    declared_is c.self.inside.users.items c.args.self.now c.self.inside.keys c.in-Some.template.parts c.deref.result.now c.has.result c.self.invariant.own_keys c.self.view_is key c.has.ensures ∙ c.if-has.false
