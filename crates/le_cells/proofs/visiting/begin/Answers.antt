use Rattle.std.proofs.Common.{rules, ◌≡◌, ◌+◌, ◌*◌, ◌<◌, ◌≤◌, ◌∷◌, ◌++◌, [], ℕ, List, suc, length, true, Some, get_or, slice_get, reverse, IfSome, IsNone, refl, sym, ap, subst, ◌∙◌}
use Rattle.le_terms.specs.Program.{form_atom}
use Rattle.le_terms.specs.declared.program.Literal.{Literal}
use Rattle.le_proofs.specs.declared.next.Next.TheVariants.{Floundered}
use Rattle.le_proofs.specs.Goals.{Goal, sub_goal}
use Rattle.le_goals.specs.Shown.{no_goal, no_literal, goal_at, literal_of, sub_goal_at, sub_terms}
use Rattle.le_cells.specs.declared.goals.Searches.{Searches}
use Rattle.le_cells.specs.declared.goals.Waiting.{Waiting}
use Rattle.le_cells.specs.Keeping.{snapshot_at, goal_now, IsSearched, IsUnderWay, AreComputable, AreFalling, open_marks, waiting_marks}
use Rattle.le_cells.specs.State.{IsAtEnd}
use Rattle.le_cells.specs.Turns.{BeginsBy, CannotBegin}
use Rattle.le_cells.proofs.Turning.{SameAt, newest, same-more}
use Rattle.le_cells.proofs.UnderWay.{get-any, get-found, found-inside, found-there, cannot-begin, search-begins}
use Rattle.le_cells.proofs.Undone.{snapshot-newest, begun-ready}
use Rattle.le_cells.proofs.visiting.begin.Goals as goal

-- the literal that is selected
there-is : (goal : Goal) (place : ℕ) (literal : Literal) → place < length goal.literals → literal ≡ get_or goal.literals place literal → literal_of goal place ≡ literal
there-is goal place literal inside same = get-any goal.literals place no_literal literal inside ∙ sym same

pub returns-in_default-clause-comes : goal.returns-in_default-clause-comes
returns-in_default-clause-comes c = λ program budget given left literal selects searched line way.
    let cells = c.args.goals.now in
    let at : Goal = goal_now cells c.args.goal in
    let read : c.in_ok-literal_at.field-0 ≡ Some literal = c.in_ok-literal_at.ensures ∙ found-there at.literals c.args.place literal c.requires.literal.literal selects.1 in
    let none : IsNone c.sub_search.result = search rules in
    let cannot : CannotBegin literal.form = c.sub_search.ensures.none none literal read searched in (
      λ h. absurd (cc h),
      subst (λ l. IsAtEnd program budget given left (Floundered l)) line
          (cannot-begin program budget given left cells (reverse c.args.searches.now.waiting.items) c.args.searches.now.inner at c.args.place literal selects cannot way),
    )

pub returns-clause-comes : goal.returns-clause-comes
returns-clause-comes c = λ program budget given left literal selects searched line way.
    let cells = c.args.goals.now in
    let new = c.sub_goal.new.self in
    let at : Goal = goal_now cells c.args.goal in
    let around = reverse c.args.searches.now.waiting.items in
    let waiting : Waiting = record { search = c.replace-search.result; mark = c.in_ok-mark.mark; goal = c.args.goal; place = c.args.place; sub = c.in-Some.sub } in
    let read : c.in_ok-literal_at.field-0 ≡ Some literal = c.in_ok-literal_at.ensures ∙ found-there at.literals c.args.place literal c.requires.literal.literal selects.1 in
    let begins : BeginsBy literal.form c.in-Some.sub =
    subst (λ o. IfSome o (λ sub. (one : Literal) → c.in_ok-literal_at.field-0 ≡ Some one → IsSearched one.form → BeginsBy one.form sub)) c.in-Some.is c.sub_search.ensures.begins literal read searched in
    let pushed : c.push.new.self.items ≡ c.args.searches.now.waiting.items ++ waiting ∷ [] = c.in_ok-push.ensures.items in
    let grown : new.marks ≡ cells.marks ++ cells.now ∷ [] = c.in_ok-first.ensures.marks ∙ c.in_ok-mark.ensures.marks in
    let mark : snapshot_at new.marks waiting.mark ≡ cells.now =
    ap (λ ms. snapshot_at ms waiting.mark) grown ∙ (ap (snapshot_at (cells.marks ++ cells.now ∷ [])) c.in_ok-mark.ensures.number ∙ snapshot-newest cells.marks cells.now) in
    let search_ : waiting.search ≡ c.args.searches.now.inner = c.replace-search.ensures.value in
    let ns : List ℕ = open_marks c.args.searches.now.inner.opens.items (waiting_marks around) in
    let marks : SameAt cells.marks new.marks (open_marks waiting.search.opens.items (waiting_marks around)) =
    subst (λ s. SameAt cells.marks new.marks (open_marks s.opens.items (waiting_marks around))) (sym search_) (subst (λ ms. SameAt cells.marks ms ns) (sym grown) (same-more cells.marks (cells.now ∷ []) ns c.requires.marked)) in
    let sub : goal_now new c.in_ok-first.first ≡ sub_goal at literal.line (form_atom literal.form) (sub_terms literal.form) =
    get-found new.now.goals c.in_ok-first.first (sub_goal_at (goal_at c.mark.new.self.now c.args.goal) c.args.place) no_goal c.in_ok-first.ensures.sub
    ∙ (ap (λ s. sub_goal_at (goal_at s c.args.goal) c.args.place) c.in_ok-mark.ensures.now
    ∙ ap (λ l. sub_goal at l.line (form_atom l.form) (sub_terms l.form)) (there-is at c.args.place literal c.requires.literal.literal selects.1)) in
    let fresh = c.replace-search.new.dest in
    let dest = c.replace-search.ensures.after in
    let keeps : fresh.keeps ≡ true = search rules in
    let path : fresh.path.items ≡ [] = search rules in
    let nodes : fresh.nodes.items ≡ [] = search rules in
    let opens : fresh.opens.items ≡ [] = search rules in
    subst (λ ws. IsUnderWay program budget given new ws fresh (Some (goal_now new c.in_ok-first.first)) left) (sym (ap reverse pushed ∙ newest c.args.searches.now.waiting.items waiting))
    (search-begins program budget given left cells new around fresh waiting literal c.in_ok-first.first selects mark marks begins sub keeps path nodes opens
    (subst (λ s. IsUnderWay program budget given cells around s (Some at) (suc left)) (sym search_) way))

pub returns-clause-ready : goal.returns-clause-ready
returns-clause-ready c = λ left ready.
    let cells = c.args.goals.now in
    let new = c.sub_goal.new.self in
    let sub : goal_now new c.in_ok-first.first ≡ sub_goal_at (goal_now cells c.args.goal) c.args.place =
    get-found new.now.goals c.in_ok-first.first (sub_goal_at (goal_at c.mark.new.self.now c.args.goal) c.args.place) no_goal c.in_ok-first.ensures.sub
    ∙ ap (λ s. sub_goal_at (goal_at s c.args.goal) c.args.place) c.in_ok-mark.ensures.now in
    let next : (goal_now new c.in_ok-first.first).next ≡ (goal_now cells c.args.goal).next = ap (λ g. g.next) sub in
    record {
      there = found-inside new.now.goals c.in_ok-first.first (sub_goal_at (goal_at c.mark.new.self.now c.args.goal) c.args.place) c.in_ok-first.ensures.sub;
      next_ = next ∙ (ready.next_ ∙ sym (c.in_ok-first.ensures.others.next_ ∙ ap (λ s. s.next) c.in_ok-mark.ensures.now));
      ready = record {
        low = subst (λ n. n + 64 * left ≤ 64000064) (sym next) ready.ready.low;
        computable = subst (λ g. AreComputable g.literals) (sym sub) (tt, tt);
      };
    }

pub returns-clause-opens : goal.returns-clause-opens
returns-clause-opens c = λ left open_ ready.
    let cells = c.args.goals.now in
    let new = c.sub_goal.new.self in
    let waiting : Waiting = record { search = c.replace-search.result; mark = c.in_ok-mark.mark; goal = c.args.goal; place = c.args.place; sub = c.in-Some.sub } in
    let after : Searches = record { inner = c.replace-search.new.dest; waiting = c.push.new.self } in
    let pushed : c.push.new.self.items ≡ c.args.searches.now.waiting.items ++ waiting ∷ [] = c.in_ok-push.ensures.items in
    let grown : new.marks ≡ cells.marks ++ cells.now ∷ [] = c.in_ok-first.ensures.marks ∙ c.in_ok-mark.ensures.marks in
    let same : waiting.search.opens.items ≡ c.args.searches.now.inner.opens.items = ap (λ s. s.opens.items) c.replace-search.ensures.value in
    let dest = c.replace-search.ensures.after in
    let none : after.inner.opens.items ≡ [] = search rules in
    begun-ready left cells.marks new.marks cells.now c.args.searches.now after waiting grown c.in_ok-mark.ensures.number same none pushed open_ ready
