use Rattle.std.proofs.Common.{rules, ◌≡◌, ◌∷◌, ◌++◌, [], suc, true, Some, get_or, reverse, IfSome, IsNone, sym, ap, subst, ◌∙◌}
use Rattle.le_proofs.specs.declared.next.Next.TheVariants.{Floundered}
use Rattle.le_machine.specs.declared.goals.Kind.TheVariants.{Searched}
use Rattle.le_machine.specs.declared.goals.Waiting.{Waiting}
use Rattle.le_machine.specs.Keeping.{goal_of, kind_of, IsUnderWay}
use Rattle.le_machine.specs.State.{IsAtEnd}
use Rattle.le_machine.specs.Turns.{BeginsBy, CannotBegin}
use Rattle.le_machine.proofs.SelectedAt.{same-at}
use Rattle.le_machine.proofs.Turning.{newest}
use Rattle.le_machine.proofs.UnderWay.{cannot-begin, search-begins}
use Rattle.le_machine.proofs.visiting.begin.Goals as goal

pub returns-in_default-clause-comes : goal.returns-in_default-clause-comes
returns-in_default-clause-comes c = λ program budget given left literal selects kind way.
    let there : c.index-literal.result.now ≡ get_or c.args.goal.literals.items c.args.place c.index-literal.result.now = search rules in
    let same : literal ≡ c.index-literal.result.now = same-at c.args.goal.literals.items c.args.place literal c.index-literal.result.now c.requires.inside selects.1 there in
    let none : IsNone c.in_ok-sub.field-0 = search rules in
    let cannot : CannotBegin literal.form = subst (λ l. CannotBegin l.form) (sym same) (c.in_ok-sub.ensures.none none (ap (λ l. kind_of l.form) (sym same) ∙ kind)) in (
      λ h. absurd (cc h),
      subst (λ l. IsAtEnd program budget given left (Floundered l.line)) same
          (cannot-begin program budget given left (reverse c.args.searches.now.waiting.items) c.args.searches.now.inner c.args.goal c.args.place literal selects cannot way),
    )

pub returns-clause-comes : goal.returns-clause-comes
returns-clause-comes c = λ program budget given left literal selects kind way.
    let there : c.index-literal.result.now ≡ get_or c.args.goal.literals.items c.args.place c.index-literal.result.now = search rules in
    let same : literal ≡ c.index-literal.result.now = same-at c.args.goal.literals.items c.args.place literal c.index-literal.result.now c.requires.inside selects.1 there in
    let waiting : Waiting = record { search = c.replace-search.result; goal = c.args.goal; place = c.args.place; sub = c.in-Some.sub } in
    let begins : BeginsBy c.args.goal.next c.index-literal.result.now c.in-Some.sub c.in-Some.first =
    subst (λ o. IfSome o (λ pair. kind_of c.index-literal.result.now.form ≡ Searched → BeginsBy c.args.goal.next c.index-literal.result.now pair.0 pair.1)) c.in-Some.is c.in_ok-sub.ensures.begins (ap (λ l. kind_of l.form) (sym same) ∙ kind) in
    let pushed : c.push.new.self.items ≡ c.args.searches.now.waiting.items ++ waiting ∷ [] = c.in_ok-push.ensures.items in
    let fresh = c.replace-search.new.dest in
    let dest = c.replace-search.ensures.after in
    let keeps : fresh.keeps ≡ true = search rules in
    let path : fresh.path.items ≡ [] = search rules in
    let nodes : fresh.nodes.items ≡ [] = search rules in
    let opens : fresh.opens.items ≡ [] = search rules in
    subst (λ ws. IsUnderWay program budget given ws fresh (Some (goal_of c.in-Some.first)) left) (sym (ap reverse pushed ∙ newest c.args.searches.now.waiting.items waiting))
    (search-begins program budget given left (reverse c.args.searches.now.waiting.items) fresh waiting literal c.in-Some.first selects (subst (λ l. BeginsBy c.args.goal.next l c.in-Some.sub c.in-Some.first) (sym same) begins) keeps path nodes opens
    (subst (λ s. IsUnderWay program budget given (reverse c.args.searches.now.waiting.items) s (Some (goal_of c.args.goal)) (suc left)) (sym c.replace-search.ensures.value) way))
