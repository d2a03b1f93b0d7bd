use Rattle.std.proofs.Common.{◌≡◌, true, false, Ok, Err, Result, sym, ap, ◌∙◌}
use Rattle.le_base.specs.declared.code.Code.TheVariants.{PredefinedHead}
use Rattle.le_base.specs.Stop.{refusal_at}
use Rattle.le_layout.specs.declared.token.Token.{Token}
use Rattle.le_layout.specs.Words.{tokens_of, token_of}
use Rattle.le_match.specs.Terms.{Found, atom_of}
use Rattle.le_terms.specs.declared.program.Atom.{Atom}
use Rattle.le_clauses.specs.Rules.{new_scope, is_predefined, goes_before}
use Rattle.le_clauses.proofs.RuleSteps.{head_low, head_high, head_err}
use Rattle.le_clauses.proofs.conclusions.conclusion.Goals as goal
use Rattle.le_clauses.proofs.conclusions.conclusion.Goals.{else-predefined-via-then-predefined+else-not-goes_before, else-predefined-via-else-predefined}

pub returns-then-not-goes_before : goal.returns-then-not-goes_before
returns-then-not-goes_before c =
    let a = c.args in
    let ts = tokens_of a.layout.now a.tokens in
    let r = c.in-Err-Refused.refusal in
    let e : atom_of a.templates.now a.names.now new_scope false a.layout.now ts ≡ Err r = ap (λ s. atom_of a.templates.now a.names.now s false a.layout.now ts) (sym c.requires.scope) ∙ (rw c.in-Err-Refused.field-0-is at c.in-Err-Refused.ensures.exact) in
    let p = ap is_predefined (sym c.in_ok-best-in-Err-Refused.ensures.exact) ∙ sym c.is_predefined-predefined.ensures ∙ c.if-predefined.true in
    let g = ap (goes_before r PredefinedHead) (sym c.token-first.ensures) ∙ sym c.goes_before.ensures ∙ c.if-not-goes_before.true in
    record {
      exact = rw c.refused-then-not-goes_before.ensures
          (head_err a.templates.now a.names.now a.layout.now a.tokens r true false e p g ∙ ap (λ (t : Token). Err (refusal_at PredefinedHead t.line t.column)) (sym c.token-first.ensures));
    }

pub returns-in-Ok : goal.returns-in-Ok
returns-in-Ok c =
    let a = c.args in
    let ts = tokens_of a.layout.now a.tokens in
    let f : Found Atom = record { value = c.in-Ok.atom; names = c.atom.new.names; scope = c.atom.new.scope } in
    let e : atom_of a.templates.now a.names.now new_scope false a.layout.now ts ≡ Ok f = ap (λ s. atom_of a.templates.now a.names.now s false a.layout.now ts) (sym c.requires.scope) ∙ c.in-Ok.ensures.exact in
    record {
      exact = rw c.refused.ensures
          (head_low a.templates.now a.names.now a.layout.now a.tokens f e c.if-atom-lt20.true ∙ ap (λ (t : Token). Err (refusal_at PredefinedHead t.line t.column)) (sym c.token-first.ensures));
    }

pub returns-in-Ok-2 : goal.returns-in-Ok-2
returns-in-Ok-2 c =
    let a = c.args in
    let ts = tokens_of a.layout.now a.tokens in
    let f : Found Atom = record { value = c.in-Ok.atom; names = c.atom.new.names; scope = c.atom.new.scope } in
    let e : atom_of a.templates.now a.names.now new_scope false a.layout.now ts ≡ Ok f = ap (λ s. atom_of a.templates.now a.names.now s false a.layout.now ts) (sym c.requires.scope) ∙ c.in-Ok.ensures.exact in
    record { exact = head_high a.templates.now a.names.now a.layout.now a.tokens f e c.if-atom-lt20.false }

pub returns-else-predefined : goal.returns-else-predefined
returns-else-predefined c =
    let a = c.args in
    let ts = tokens_of a.layout.now a.tokens in
    let r = c.in-Err-Refused.refusal in
    let e : atom_of a.templates.now a.names.now new_scope false a.layout.now ts ≡ Err r = ap (λ s. atom_of a.templates.now a.names.now s false a.layout.now ts) (sym c.requires.scope) ∙ (rw c.in-Err-Refused.field-0-is at c.in-Err-Refused.ensures.exact) in
    let p = ap is_predefined (sym c.in_ok-best-in-Err-Refused.ensures.exact) ∙ sym c.is_predefined-predefined.ensures in
    record {
      exact = elim c.else-predefined.branch [
        | else-predefined-via-then-predefined+else-not-goes_before w ↦
            head_err a.templates.now a.names.now a.layout.now a.tokens r true true e (p ∙ w.if-predefined.true)
            (ap (goes_before r PredefinedHead) (sym c.token-first.ensures) ∙ sym w.goes_before.ensures ∙ w.if-not-goes_before.false)
        | else-predefined-via-else-predefined w ↦
            head_err a.templates.now a.names.now a.layout.now a.tokens r false (goes_before r PredefinedHead (token_of a.layout.now a.tokens.from)) e (p ∙ w.if-predefined.false) Rattle.std.proofs.Common.refl
      ];
    }
