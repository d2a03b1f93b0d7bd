use Rattle.std.proofs.Common.{◌≡◌, ◌+◌, ◌∷◌, ◌++◌, [], reverse, None, refl, sym, ap, subst, ◌∙◌, arith}
use Rattle.le_builtins.specs.Compute.{argument}
use Rattle.le_proofs.specs.declared.node.Node.TheVariants.{Present}
use Rattle.le_proofs.specs.Derivations.{proof_nodes}
use Rattle.le_proofs.specs.SearchTree.{empty_leaf, first_proof}
use Rattle.le_proofs.specs.UnderWay.{leaf_along}
use Rattle.le_derivations.specs.Paths.{AreSteps}
use Rattle.le_machine.specs.declared.goals.Waiting.{Waiting}
use Rattle.le_machine.specs.declared.goals.SubSearch.TheVariants.{Gather as Gathering}
use Rattle.le_machine.specs.Keeping.{IsUnderWay}
use Rattle.le_machine.specs.Turns.{Extends, opens_weight, waiting_weight}
use Rattle.le_machine.proofs.Turning.{newest, waiting-push}
use Rattle.le_machine.proofs.UnderWay.{leaf-refutes, leaf-gathers, gather-with}
use Rattle.le_machine.proofs.returning.sub_leaf.Goals as goal

pub returns-in_ok-note_present-in-Negation-clause-comes : goal.returns-in_ok-note_present-in-Negation-clause-comes
returns-in_ok-note_present-in-Negation-clause-comes c = λ program budget given left goal' none same way.
    let path : c.deref.result.now ≡ c.args.searches.now.inner.path.items = c.deref.ensures.value ∙ ap (λ s. s.path.items) c.replace-found.ensures.value in
    leaf-refutes program budget given left (reverse c.args.searches.now.waiting.items) c.args.waiting c.args.searches.now.inner c.note_present.new.search goal' none c.in-Negation.is
    (λ steps are.
    subst (λ s. Extends s c.note_present.new.search [] (Present ∷ proof_nodes (first_proof (leaf_along steps (empty_leaf goal'.terms left))))) c.replace-found.ensures.after
    (c.in_ok-note_present-in-Negation.ensures.present steps goal'.terms left (subst (λ ps. AreSteps (reverse ps) steps) (sym path) are))) way

pub returns-in_ok-push-in-Gather-clause-comes : goal.returns-in_ok-push-in-Gather-clause-comes
returns-in_ok-push-in-Gather-clause-comes c = λ program budget given left goal' none same way.
    let more = c.in_ok-with_value-in-Gather.field-0 in
    let noted : Waiting = record { search = c.args.waiting.search; goal = c.args.waiting.goal; place = c.args.waiting.place; sub = Gathering more } in
    let pushed : c.push.new.self.items ≡ c.args.searches.now.waiting.items ++ noted ∷ [] = c.in_ok-push-in-Gather.ensures.items in
    let values : more.items ≡ c.in-Gather.values.items ++ argument goal'.terms 0 ∷ [] = c.in_ok-with_value-in-Gather.ensures ∙ ap (λ ts. c.in-Gather.values.items ++ argument ts 0 ∷ []) (sym same) in
    subst (λ ws. IsUnderWay program budget given ws c.note.new.search None left) (sym (ap reverse pushed ∙ newest c.args.searches.now.waiting.items noted))
    (leaf-gathers program budget given left (reverse c.args.searches.now.waiting.items) c.args.waiting noted c.in-Gather.values.items more.items c.args.searches.now.inner c.note.new.search goal' none
    (gather-with c.args.waiting noted c.in-Gather.values more c.in-Gather.is refl refl refl refl) values c.in_ok-note-in-Gather.ensures way)

pub returns-in_ok-push-in-Gather-clause-lighter : goal.returns-in_ok-push-in-Gather-clause-lighter
returns-in_ok-push-in-Gather-clause-lighter c = λ clauses.
    let more = c.in_ok-with_value-in-Gather.field-0 in
    let noted : Waiting = record { search = c.args.waiting.search; goal = c.args.waiting.goal; place = c.args.waiting.place; sub = Gathering more } in
    let pushed : c.push.new.self.items ≡ c.args.searches.now.waiting.items ++ noted ∷ [] = c.in_ok-push-in-Gather.ensures.items in
    let all : waiting_weight clauses c.push.new.self.items ≡ (2 + opens_weight clauses c.args.waiting.search.opens.items) + waiting_weight clauses c.args.searches.now.waiting.items =
    ap (waiting_weight clauses) pushed ∙ waiting-push clauses c.args.searches.now.waiting.items noted in
    let same : opens_weight clauses c.note.new.search.opens.items ≡ opens_weight clauses c.args.searches.now.inner.opens.items = ap (opens_weight clauses) c.in_ok-note-in-Gather.ensures.opens_ in
    omega (arith, all, same)
