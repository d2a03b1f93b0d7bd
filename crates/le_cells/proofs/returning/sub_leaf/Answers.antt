use Rattle.std.proofs.Common.{◌≡◌, ◌+◌, ◌<◌, ◌∷◌, ◌++◌, [], ℕ, List, length, reverse, None, refl, sym, ap, subst, ◌∙◌, arith}
use Rattle.le_builtins.specs.Compute.{argument}
use Rattle.le_proofs.specs.declared.node.Node.TheVariants.{Present}
use Rattle.le_proofs.specs.Derivations.{proof_nodes}
use Rattle.le_proofs.specs.SearchTree.{empty_leaf, first_proof}
use Rattle.le_proofs.specs.UnderWay.{leaf_along}
use Rattle.le_paths.specs.Paths.{LeadHere}
use Rattle.le_cells.specs.declared.goals.Waiting.{Waiting}
use Rattle.le_cells.specs.declared.goals.SubSearch.TheVariants.{Gather as Gathering}
use Rattle.le_cells.specs.Keeping.{goal_now, IsUnderWay, AreOpen, AreFalling, open_marks, waiting_marks}
use Rattle.le_cells.specs.Turns.{Extends, opens_weight, waiting_weight}
use Rattle.le_cells.proofs.Turning.{newest, waiting-push, waiting-both, falling-higher}
use Rattle.le_cells.proofs.UnderWay.{leaf-refutes, leaf-gathers, gather-with, falling-opens}
use Rattle.le_cells.proofs.returning.sub_leaf.Goals as goal

pub returns-in_ok-note_present-in-Negation-clause-comes : goal.returns-in_ok-note_present-in-Negation-clause-comes
returns-in_ok-note_present-in-Negation-clause-comes c = λ program budget given left none way.
    let cells = c.args.goals.now in
    let terms = (goal_now cells c.args.leaf).terms in
    let path : c.deref.result.now ≡ c.args.searches.now.inner.path.items = c.deref.ensures.value ∙ ap (λ s. s.path.items) c.replace-found.ensures.value in
    leaf-refutes program budget given left cells (reverse c.args.searches.now.waiting.items) c.args.waiting c.args.searches.now.inner c.note_present.new.search (goal_now cells c.args.leaf) none c.in-Negation.is
    (λ steps are.
    subst (λ s. Extends s c.note_present.new.search [] (Present ∷ proof_nodes (first_proof (leaf_along steps (empty_leaf terms left))))) c.replace-found.ensures.after
    (c.in_ok-note_present-in-Negation.ensures.present steps terms left (subst (λ ps. LeadHere cells.now (reverse ps) steps) (sym path) are))) way

pub returns-in_ok-note_present-in-Negation-clause-opens : goal.returns-in_ok-note_present-in-Negation-clause-opens
returns-in_ok-note_present-in-Negation-clause-opens c = λ left can falling opens rest.
    let marks = c.args.goals.now.marks in
    let same : c.note_present.new.search.opens.items ≡ c.args.waiting.search.opens.items = c.in_ok-note_present-in-Negation.ensures.opens ∙ ap (λ s. s.opens.items) c.replace-found.ensures.after in
    let behind : AreFalling (length marks) (c.args.waiting.mark ∷ open_marks c.args.waiting.search.opens.items (waiting_marks (reverse c.args.searches.now.waiting.items))) =
    falling-opens (length marks) c.args.searches.now.inner.opens.items (c.args.waiting.mark ∷ open_marks c.args.waiting.search.opens.items (waiting_marks (reverse c.args.searches.now.waiting.items))) falling in
    record {
      marked = subst (λ os. AreFalling (length marks) (open_marks os (waiting_marks (reverse c.args.searches.now.waiting.items)))) (sym same)
          (falling-higher c.args.waiting.mark (length marks) (open_marks c.args.waiting.search.opens.items (waiting_marks (reverse c.args.searches.now.waiting.items))) (let low : c.args.waiting.mark < length marks = behind.0 in omega (arith, low)) behind.1);
      opens = subst (AreOpen left marks) (sym same) can.opens;
      waiting = rest;
    }

pub returns-in_ok-push-in-Gather-clause-comes : goal.returns-in_ok-push-in-Gather-clause-comes
returns-in_ok-push-in-Gather-clause-comes c = λ program budget given left none way.
    let cells = c.args.goals.now in
    let goal' = goal_now cells c.args.leaf in
    let more = c.in_ok-with_value-in-Gather.field-0 in
    let noted : Waiting = record { search = c.args.waiting.search; mark = c.args.waiting.mark; goal = c.args.waiting.goal; place = c.args.waiting.place; sub = Gathering more } in
    let pushed : c.push.new.self.items ≡ c.args.searches.now.waiting.items ++ noted ∷ [] = c.in_ok-push-in-Gather.ensures.items in
    let terms : c.deref-in-Gather.result.now ≡ goal'.terms = c.deref-in-Gather.ensures.value ∙ c.in_ok-terms-in-Gather.ensures in
    let values : more.items ≡ c.in-Gather.values.items ++ argument goal'.terms 0 ∷ [] = c.in_ok-with_value-in-Gather.ensures ∙ ap (λ ts. c.in-Gather.values.items ++ argument ts 0 ∷ []) terms in
    subst (λ ws. IsUnderWay program budget given cells ws c.note.new.search None left) (sym (ap reverse pushed ∙ newest c.args.searches.now.waiting.items noted))
    (leaf-gathers program budget given left cells (reverse c.args.searches.now.waiting.items) c.args.waiting noted c.in-Gather.values.items more.items c.args.searches.now.inner c.note.new.search goal' none
    (gather-with c.args.waiting noted c.in-Gather.values more c.in-Gather.is refl refl refl refl refl) values c.in_ok-note-in-Gather.ensures way)

pub returns-in_ok-push-in-Gather-clause-lighter : goal.returns-in_ok-push-in-Gather-clause-lighter
returns-in_ok-push-in-Gather-clause-lighter c = λ clauses.
    let more = c.in_ok-with_value-in-Gather.field-0 in
    let noted : Waiting = record { search = c.args.waiting.search; mark = c.args.waiting.mark; goal = c.args.waiting.goal; place = c.args.waiting.place; sub = Gathering more } in
    let pushed : c.push.new.self.items ≡ c.args.searches.now.waiting.items ++ noted ∷ [] = c.in_ok-push-in-Gather.ensures.items in
    let all : waiting_weight clauses c.push.new.self.items ≡ (2 + opens_weight clauses c.args.waiting.search.opens.items) + waiting_weight clauses c.args.searches.now.waiting.items =
    ap (waiting_weight clauses) pushed ∙ waiting-push clauses c.args.searches.now.waiting.items noted in
    let same : opens_weight clauses c.note.new.search.opens.items ≡ opens_weight clauses c.args.searches.now.inner.opens.items = ap (opens_weight clauses) c.in_ok-note-in-Gather.ensures.opens_ in
    omega (arith, all, same)
