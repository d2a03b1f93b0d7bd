use Rattle.std.proofs.Common.{rules, ◌≡◌, ◌+◌, ◌-◌, ◌*◌, ◌<◌, ◌∷◌, ◌++◌, [], ℕ, suc, List, length, take, reverse, None, refl, sym, ap, subst, ◌∙◌, arith}
use Rattle.le_proofs.specs.Goals.{sub_goal}
use Rattle.le_goals.specs.Shown.{goal_at}
use Rattle.le_cells.specs.declared.goals.Search.{Search}
use Rattle.le_cells.specs.declared.goals.Searches.{Searches}
use Rattle.le_cells.specs.Keeping.{snapshot_at, at_mark, waiting_goal, IsWalk, IsAsked, IsUnderWay, AreOpen, CanWait, CanWaitAll, AreFalling, open_marks, waiting_marks}
use Rattle.le_cells.specs.Turns.{opens_weight, waiting_weight}
use Rattle.le_cells.proofs.Turning.{SameAt, newest, ok-all, ok-both, open-fewer, ready-at-fewer, opens-front, opens-last, waiting-front, waiting-last, weight-push, waiting-push}
use Rattle.le_cells.proofs.UnderWay.{main-done, opens-on, comes-by}
use Rattle.le_cells.proofs.Undone.{same-undone, undone-ready, returned-ready, falling-open}
use Rattle.le_cells.proofs.returning.back.Goals as goal

pub returns-in-Some-clause-comes : goal.returns-in-Some-clause-comes
returns-in-Some-clause-comes c =
    let cells = c.args.goals.now in
    let around = reverse c.args.searches.now.waiting.items in
    let p = c.in-Some.pending in
    let after : Searches = record { inner = c.next_child.new.search; waiting = c.args.searches.now.waiting } in
    let falling : AreFalling (length cells.marks) (p.mark ∷ open_marks c.pop.new.self.items (waiting_marks around)) =
    falling-open (length cells.marks) c.args.searches.now.inner.opens.items c.pop.new.self.items p (waiting_marks around) c.in-Some.ensures.items c.requires.opens.marked in
    let marks : SameAt cells.marks c.next_child.new.goals.marks (waiting_marks around) =
    subst (λ ms. SameAt cells.marks ms (waiting_marks around)) (sym c.next_child.ensures.marks) (same-undone cells.marks p.mark c.pop.new.self.items (waiting_marks around) falling.1) in
    ok-both _ _ _
    (λ turn comes keeps budget given way.
    opens-on cells.program budget given c.args.left around cells c.next_child.new.goals c.args.searches.now.inner c.pop.new.self.items p after turn refl c.in-Some.ensures.items keeps marks comes way) c.next_child.result c.next_child.ensures.comes c.next_child.ensures.keeps

pub returns-in-Some-clause-opens : goal.returns-in-Some-clause-opens
returns-in-Some-clause-opens c =
    let cells = c.args.goals.now in
    let around = reverse c.args.searches.now.waiting.items in
    let p = c.in-Some.pending in
    let after : Searches = record { inner = c.next_child.new.search; waiting = c.args.searches.now.waiting } in
    let falling : AreFalling (length cells.marks) (p.mark ∷ open_marks c.pop.new.self.items (waiting_marks around)) =
    falling-open (length cells.marks) c.args.searches.now.inner.opens.items c.pop.new.self.items p (waiting_marks around) c.in-Some.ensures.items c.requires.opens.marked in
    let all : AreOpen c.args.left cells.marks (c.pop.new.self.items ++ p ∷ []) = subst (AreOpen c.args.left cells.marks) c.in-Some.ensures.items c.requires.opens.opens in
    ok-all _ _
    (λ turn by. returned-ready c.args.left cells.marks c.next_child.new.goals.marks p c.pop.new.self.items turn after c.next_child.ensures.marks by falling
    (opens-last c.args.left cells.marks c.pop.new.self.items p all) (opens-front c.args.left cells.marks c.pop.new.self.items p all) c.requires.opens.waiting) c.next_child.result c.next_child.ensures.opens

pub returns-in-Some-clause-lighter : goal.returns-in-Some-clause-lighter
returns-in-Some-clause-lighter c =
    let clauses = length c.args.clauses.now in
    let pushed : opens_weight clauses c.args.searches.now.inner.opens.items ≡ (2 * (clauses - c.in-Some.pending.from) + 2) + opens_weight clauses c.pop.new.self.items =
    ap (opens_weight clauses) c.in-Some.ensures.items ∙ weight-push clauses c.pop.new.self.items c.in-Some.pending in
    ok-all _ _ (λ turn lighter. omega (arith, lighter, pushed)) c.next_child.result c.next_child.ensures.lighter

pub search_done-requires-clause-inside : goal.search_done-requires-clause-inside
search_done-requires-clause-inside c =
    let marks = c.args.goals.now.marks in
    let can : CanWait c.args.left marks c.in-Some-pop.waiting = waiting-last c.args.left marks c.pop-2.new.self.items c.in-Some-pop.waiting (subst (CanWaitAll c.args.left marks) c.in-Some-pop.ensures.items c.requires.opens.waiting) in
    record { goal = can.goal.ready.there; literal = can.goal.inside }

pub search_done-requires-clause-next : goal.search_done-requires-clause-next
search_done-requires-clause-next c =
    let marks = c.args.goals.now.marks in
    let can : CanWait c.args.left marks c.in-Some-pop.waiting = waiting-last c.args.left marks c.pop-2.new.self.items c.in-Some-pop.waiting (subst (CanWaitAll c.args.left marks) c.in-Some-pop.ensures.items c.requires.opens.waiting) in
    can.goal.ready.next_

pub returns-in-None-clause-comes : goal.returns-in-None-clause-comes
returns-in-None-clause-comes c =
    let p = c.args.goals.now.program in
    let opens : c.args.searches.now.inner.opens.items ≡ [] = search rules in
    let alone : c.args.searches.now.waiting.items ≡ [] = search rules in
    λ budget given way. (
      λ same. absurd (cc same),
      main-done p budget given c.args.left c.args.goals.now c.args.searches.now.inner opens
          (subst (λ ws. IsUnderWay p budget given c.args.goals.now (reverse ws) c.args.searches.now.inner None c.args.left) alone way),
    )

pub returns-in-Some-pop-clause-comes : goal.returns-in-Some-pop-clause-comes
returns-in-Some-pop-clause-comes c =
    let cells = c.args.goals.now in
    let p = cells.program in
    let before : Search = c.args.searches.now.inner in
    let waiting = c.in-Some-pop.waiting in
    let rest = reverse c.pop-2.new.self.items in
    let opens : before.opens.items ≡ [] = search rules in
    let popped : c.pop.new.self.items ≡ [] = search rules in
    let turned : reverse c.args.searches.now.waiting.items ≡ waiting ∷ rest = ap reverse c.in-Some-pop.ensures.items ∙ newest c.pop-2.new.self.items waiting in
    let after : Searches = record { inner = c.search_done.new.inner; waiting = c.pop-2.new.self } in
    let falling : AreFalling (length cells.marks) (waiting_marks (waiting ∷ rest)) =
    subst (λ os. AreFalling (length cells.marks) (open_marks os (waiting_marks (waiting ∷ rest)))) opens (subst (λ ws. AreFalling (length cells.marks) (open_marks before.opens.items (waiting_marks ws))) turned c.requires.opens.marked) in
    let marks : SameAt cells.marks c.search_done.new.goals.marks (waiting_marks rest) =
    subst (λ ms. SameAt cells.marks ms (waiting_marks rest)) (sym c.search_done.ensures.marks) (same-undone cells.marks waiting.mark waiting.search.opens.items (waiting_marks rest) falling.1) in
    ok-both _ _ _
    (λ turn comes keeps budget given way.
    let way' : IsUnderWay p budget given cells (waiting ∷ rest) before None c.args.left = subst (λ ws. IsUnderWay p budget given cells ws before None c.args.left) turned way in
    let asked : IsAsked p cells waiting before None c.args.left = way'.0 in
    comes-by p budget given rest (at_mark cells waiting.mark) c.search_done.new.goals waiting.search after (waiting_goal cells.marks waiting) (suc asked.spare) c.args.left turn refl marks keeps
    (comes p c.args.left asked.spare asked.literal asked.atom asked.terms asked.found popped asked.keeps asked.selects asked.purpose
    (subst (λ os. IsWalk p cells before.keeps before.path.items before.nodes.items (reverse os) (sub_goal (waiting_goal cells.marks waiting) asked.literal.line asked.atom asked.terms) asked.spare None c.args.left asked.found) (opens ∙ sym popped) asked.inner)) way'.1)
    c.search_done.result c.search_done.ensures.comes c.search_done.ensures.keeps

pub returns-in-Some-pop-clause-ready : goal.returns-in-Some-pop-clause-ready
returns-in-Some-pop-clause-ready c =
    let marks = c.args.goals.now.marks in
    let w = c.in-Some-pop.waiting in
    let can : CanWait c.args.left marks w = waiting-last c.args.left marks c.pop-2.new.self.items w (subst (CanWaitAll c.args.left marks) c.in-Some-pop.ensures.items c.requires.opens.waiting) in
    ok-all _ _ (λ turn ready. ready c.args.left (ready-at-fewer (suc c.args.left) c.args.left (snapshot_at marks w.mark) w.goal (omega arith) can.goal.ready)) c.search_done.result c.search_done.ensures.ready

pub returns-in-Some-pop-clause-opens : goal.returns-in-Some-pop-clause-opens
returns-in-Some-pop-clause-opens c =
    let cells = c.args.goals.now in
    let w = c.in-Some-pop.waiting in
    let rest = reverse c.pop-2.new.self.items in
    let before : Search = c.args.searches.now.inner in
    let opens : before.opens.items ≡ [] = search rules in
    let turned : reverse c.args.searches.now.waiting.items ≡ w ∷ rest = ap reverse c.in-Some-pop.ensures.items ∙ newest c.pop-2.new.self.items w in
    let after : Searches = record { inner = c.search_done.new.inner; waiting = c.pop-2.new.self } in
    let falling : AreFalling (length cells.marks) (waiting_marks (w ∷ rest)) =
    subst (λ os. AreFalling (length cells.marks) (open_marks os (waiting_marks (w ∷ rest)))) opens (subst (λ ws. AreFalling (length cells.marks) (open_marks before.opens.items (waiting_marks ws))) turned c.requires.opens.marked) in
    let all : CanWaitAll c.args.left cells.marks (c.pop-2.new.self.items ++ w ∷ []) = subst (CanWaitAll c.args.left cells.marks) c.in-Some-pop.ensures.items c.requires.opens.waiting in
    let can : CanWait c.args.left cells.marks w = waiting-last c.args.left cells.marks c.pop-2.new.self.items w all in
    ok-all _ _
    (λ turn same. undone-ready c.args.left cells.marks c.search_done.new.goals.marks w.mark w.search.opens.items after c.search_done.ensures.marks same falling can.opens
    (waiting-front c.args.left cells.marks c.pop-2.new.self.items w all)) c.search_done.result c.search_done.ensures.opens

pub returns-in-Some-pop-clause-lighter : goal.returns-in-Some-pop-clause-lighter
returns-in-Some-pop-clause-lighter c =
    let clauses = length c.args.clauses.now in
    let w = c.in-Some-pop.waiting in
    let pushed : waiting_weight clauses c.args.searches.now.waiting.items ≡ (2 + opens_weight clauses w.search.opens.items) + waiting_weight clauses c.pop-2.new.self.items =
    ap (waiting_weight clauses) c.in-Some-pop.ensures.items ∙ waiting-push clauses c.pop-2.new.self.items w in
    ok-both _ _ _ (λ turn light opens. let same : opens_weight clauses c.search_done.new.inner.opens.items ≡ opens_weight clauses w.search.opens.items = ap (opens_weight clauses) opens in omega (arith, light, pushed, same)) c.search_done.result c.search_done.ensures.lighter c.search_done.ensures.opens
