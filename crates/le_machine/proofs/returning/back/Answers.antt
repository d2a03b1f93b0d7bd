use Rattle.std.proofs.Common.{rules, ◌≡◌, ◌+◌, ◌-◌, ◌*◌, ◌∷◌, ◌++◌, [], suc, length, reverse, None, refl, sym, ap, subst, ◌∙◌, arith}
use Rattle.le_proofs.specs.Goals.{sub_goal}
use Rattle.le_machine.specs.declared.goals.Search.{Search}
use Rattle.le_machine.specs.declared.goals.Searches.{Searches}
use Rattle.le_machine.specs.Keeping.{goal_of, IsWalk, IsAsked, IsUnderWay, AreOpen, CanWait, CanWaitAll}
use Rattle.le_machine.specs.Turns.{opens_weight, waiting_weight}
use Rattle.le_machine.proofs.Turning.{newest, ok-all, ok-both, ready-fewer, waiting-front, waiting-last, weight-push, waiting-push}
use Rattle.le_machine.proofs.UnderWay.{main-done, opens-on, comes-by}
use Rattle.le_machine.proofs.returning.back.Goals as goal

pub returns-in-Some-clause-comes : goal.returns-in-Some-clause-comes
returns-in-Some-clause-comes c =
    let after : Searches = record { inner = c.next_child.new.search; waiting = c.args.searches.now.waiting } in
    ok-both _ _ _
    (λ turn comes keeps budget given way.
    opens-on c.args.program.now budget given c.args.left (reverse c.args.searches.now.waiting.items) c.args.searches.now.inner c.pop.new.self.items c.in-Some.pending after turn refl c.in-Some.ensures.items keeps comes way) c.next_child.result c.next_child.ensures.comes c.next_child.ensures.keeps

pub returns-in-Some-clause-lighter : goal.returns-in-Some-clause-lighter
returns-in-Some-clause-lighter c =
    let clauses = length c.args.program.now.clauses in
    let pushed : opens_weight clauses c.args.searches.now.inner.opens.items ≡ (2 * (clauses - c.in-Some.pending.from) + 2) + opens_weight clauses c.pop.new.self.items =
    ap (opens_weight clauses) c.in-Some.ensures.items ∙ weight-push clauses c.pop.new.self.items c.in-Some.pending in
    ok-all _ _ (λ turn lighter. omega (arith, lighter, pushed)) c.next_child.result c.next_child.ensures.lighter

pub search_done-requires : goal.search_done-requires
search_done-requires c =
    let can : CanWait c.args.left c.in-Some-pop.waiting = waiting-last c.args.left c.pop-2.new.self.items c.in-Some-pop.waiting (subst (CanWaitAll c.args.left) c.in-Some-pop.ensures.items c.requires.opens.waiting) in
    record { inside = can.goal.inside }

pub returns-in-None-clause-comes : goal.returns-in-None-clause-comes
returns-in-None-clause-comes c =
    let opens : c.args.searches.now.inner.opens.items ≡ [] = search rules in
    let alone : c.args.searches.now.waiting.items ≡ [] = search rules in
    λ budget given way. (
      λ same. absurd (cc same),
      main-done c.args.program.now budget given c.args.left c.args.searches.now.inner opens
          (subst (λ ws. IsUnderWay c.args.program.now budget given (reverse ws) c.args.searches.now.inner None c.args.left) alone way),
    )

pub returns-in-Some-pop-clause-comes : goal.returns-in-Some-pop-clause-comes
returns-in-Some-pop-clause-comes c =
    let p = c.args.program.now in
    let before : Search = c.args.searches.now.inner in
    let waiting = c.in-Some-pop.waiting in
    let opens : before.opens.items ≡ [] = search rules in
    let popped : c.pop.new.self.items ≡ [] = search rules in
    let turned : reverse c.args.searches.now.waiting.items ≡ waiting ∷ reverse c.pop-2.new.self.items = ap reverse c.in-Some-pop.ensures.items ∙ newest c.pop-2.new.self.items waiting in
    let after : Searches = record { inner = c.search_done.new.inner; waiting = c.pop-2.new.self } in
    ok-both _ _ _
    (λ turn comes keeps budget given way.
    let way' : IsUnderWay p budget given (waiting ∷ reverse c.pop-2.new.self.items) before None c.args.left = subst (λ ws. IsUnderWay p budget given ws before None c.args.left) turned way in
    let asked : IsAsked p waiting before None c.args.left = way'.0 in
    comes-by p budget given (reverse c.pop-2.new.self.items) waiting.search after (goal_of waiting.goal) (suc asked.spare) c.args.left turn refl keeps
    (comes p c.args.left asked.spare asked.literal asked.atom asked.terms asked.found popped asked.keeps asked.selects asked.purpose
    (subst (λ os. IsWalk p before.keeps before.path.items before.nodes.items (reverse os) (sub_goal (goal_of waiting.goal) asked.literal.line asked.atom asked.terms) asked.spare None c.args.left asked.found) (opens ∙ sym popped) asked.inner)) way'.1)
    c.search_done.result c.search_done.ensures.comes c.search_done.ensures.keeps

pub returns-in-Some-pop-clause-ready : goal.returns-in-Some-pop-clause-ready
returns-in-Some-pop-clause-ready c =
    let can : CanWait c.args.left c.in-Some-pop.waiting = waiting-last c.args.left c.pop-2.new.self.items c.in-Some-pop.waiting (subst (CanWaitAll c.args.left) c.in-Some-pop.ensures.items c.requires.opens.waiting) in
    ok-all _ _ (λ turn ready. ready c.args.left (ready-fewer (suc c.args.left) c.args.left c.in-Some-pop.waiting.goal (omega arith) can.goal.ready)) c.search_done.result c.search_done.ensures.ready

pub returns-in-Some-pop-clause-opens : goal.returns-in-Some-pop-clause-opens
returns-in-Some-pop-clause-opens c =
    let all : CanWaitAll c.args.left (c.pop-2.new.self.items ++ c.in-Some-pop.waiting ∷ []) = subst (CanWaitAll c.args.left) c.in-Some-pop.ensures.items c.requires.opens.waiting in
    let can : CanWait c.args.left c.in-Some-pop.waiting = waiting-last c.args.left c.pop-2.new.self.items c.in-Some-pop.waiting all in
    ok-all _ _ (λ turn opens. record { opens = subst (AreOpen c.args.left) (sym opens) can.opens; waiting = waiting-front c.args.left c.pop-2.new.self.items c.in-Some-pop.waiting all }) c.search_done.result c.search_done.ensures.opens

pub returns-in-Some-pop-clause-lighter : goal.returns-in-Some-pop-clause-lighter
returns-in-Some-pop-clause-lighter c =
    let clauses = length c.args.program.now.clauses in
    let w = c.in-Some-pop.waiting in
    let pushed : waiting_weight clauses c.args.searches.now.waiting.items ≡ (2 + opens_weight clauses w.search.opens.items) + waiting_weight clauses c.pop-2.new.self.items =
    ap (waiting_weight clauses) c.in-Some-pop.ensures.items ∙ waiting-push clauses c.pop-2.new.self.items w in
    ok-both _ _ _ (λ turn light opens. let same : opens_weight clauses c.search_done.new.inner.opens.items ≡ opens_weight clauses w.search.opens.items = ap (opens_weight clauses) opens in omega (arith, light, pushed, same)) c.search_done.result c.search_done.ensures.lighter c.search_done.ensures.opens
