-- Searches stay ready where later marks went.
use Rattle.std.specs.List.{AllByRecursion}
use Rattle.std.specs.Prelude.{reverse}
use Rattle.std.proofs.Common.{◌≡◌, ℕ, suc, ◌+◌, ◌<◌, ◌≤◌, List, [], ◌∷◌, ◌++◌, map, take, length, length-append, refl, sym, ap, subst, ◌∙◌, arith}
use Rattle.std.proofs.lemmas.List.{reverse-append, reverse-reverse, length-take}
use Rattle.le_proofs.proofs.Alls.{all-both}
use Rattle.le_goals.specs.Shown.{Snapshot}
use Rattle.le_cells.specs.declared.goals.OpenGoal.{OpenGoal}
use Rattle.le_cells.specs.declared.goals.Searches.{Searches}
use Rattle.le_cells.specs.declared.goals.Turn.{Turn}
use Rattle.le_cells.specs.declared.goals.Turn.TheVariants.{Visit, Back, Found}
use Rattle.le_cells.specs.declared.goals.Waiting.{Waiting}
use Rattle.le_cells.specs.Keeping.{no_snapshot, snapshot_at, IsOpen, AreOpen, CanWait, CanWaitAll, AreReady, AreFalling, open_marks, waiting_marks}
use Rattle.le_cells.specs.Turns.{OpensBy}
use Rattle.le_cells.proofs.Turning.{SameAt, same-taken, same-front, same-behind, same-more, snapshot-taken, falling-higher, marks-newest, newest, opens-both, waiting-both}
use Rattle.le_cells.proofs.UnderWay.{get-there, get-found}

-- what holds of all holds of all the other way round
all-turned : {X : Type 0} (P : X → Type 0) (xs : List X) → AllByRecursion P xs → AllByRecursion P (reverse xs)
all-turned P [] h = tt
all-turned P (x ∷ xs) h = subst (AllByRecursion P) (sym (reverse-append (x ∷ []) xs)) (all-both P (reverse xs) (x ∷ []) (all-turned P xs h.1) (h.0, tt))

all-back : {X : Type 0} (P : X → Type 0) (xs : List X) → AllByRecursion P (reverse xs) → AllByRecursion P xs
all-back P xs h = subst (AllByRecursion P) (reverse-reverse xs) (all-turned P (reverse xs) h)

-- open goals are ready where their marks show the same
pub opens-same : (left : ℕ) (marks marks' : List Snapshot) (opens : List OpenGoal) → SameAt marks marks' (map (λ (kept : OpenGoal). kept.mark) (reverse opens)) → AreOpen left marks opens → AreOpen left marks' opens
opens-same left marks marks' opens same h =
    all-back (λ kept. IsOpen left (snapshot_at marks' kept.mark) kept.goal kept.place) opens (by (reverse opens) same (all-turned (λ kept. IsOpen left (snapshot_at marks kept.mark) kept.goal kept.place) opens h))
  where
    by : (ks : List OpenGoal) → SameAt marks marks' (map (λ (kept : OpenGoal). kept.mark) ks) → AreOpen left marks ks → AreOpen left marks' ks
    by [] is all = tt
    by (kept ∷ ks) is all = (subst (λ s. IsOpen left s kept.goal kept.place) (sym is.0) all.0, by ks is.1 all.1)

-- so are searches that wait
pub waiting-same : (left : ℕ) (marks marks' : List Snapshot) (around : List Waiting) → SameAt marks marks' (waiting_marks (reverse around)) → CanWaitAll left marks around → CanWaitAll left marks' around
waiting-same left marks marks' around same h = all-back (CanWait left marks') around (by (reverse around) same (all-turned (CanWait left marks) around h))
  where
    by : (ws : List Waiting) → SameAt marks marks' (waiting_marks ws) → CanWaitAll left marks ws → CanWaitAll left marks' ws
    by [] is all = tt
    by (waiting ∷ ws) is all = (
      record {
        goal = subst (λ s. IsOpen left s waiting.goal waiting.place) (sym is.0) all.0.goal;
        opens = opens-same left marks marks' waiting.search.opens.items (same-front marks marks' (map (λ (kept : OpenGoal). kept.mark) (reverse waiting.search.opens.items)) (waiting_marks ws) is.1) all.0.opens;
      },
      by ws (same-behind marks marks' (map (λ (kept : OpenGoal). kept.mark) (reverse waiting.search.opens.items)) (waiting_marks ws) is.1) all.1,
    )

-- so are all searches
pub all-same : (left : ℕ) (marks marks' : List Snapshot) (opens : List OpenGoal) (around : List Waiting) → SameAt marks marks' (open_marks opens (waiting_marks (reverse around))) → AreOpen left marks opens → CanWaitAll left marks around
    → AreOpen left marks' opens × CanWaitAll left marks' around
all-same left marks marks' opens around same ready can = (
  opens-same left marks marks' opens (same-front marks marks' (map (λ (kept : OpenGoal). kept.mark) (reverse opens)) (waiting_marks (reverse around)) same) ready,
  waiting-same left marks marks' around (same-behind marks marks' (map (λ (kept : OpenGoal). kept.mark) (reverse opens)) (waiting_marks (reverse around)) same) can,
)

-- marks up to one that stands
taken-long : (marks : List Snapshot) (mark : ℕ) → mark < length marks → length (take (mark + 1) marks) ≡ mark + 1
taken-long marks mark low = length-take (mark + 1) marks ∙ (omega (arith, low))

-- the marks of what waits around open goals whose marks are lower show the same where later ones went
pub same-undone : (marks : List Snapshot) (mark : ℕ) (opens : List OpenGoal) (others : List ℕ) → AreFalling mark (open_marks opens others) → SameAt marks (take (mark + 1) marks) others
same-undone marks mark opens others falling =
    same-behind marks (take (mark + 1) marks) (map (λ (kept : OpenGoal). kept.mark) (reverse opens)) others (same-taken marks (mark + 1) mark (open_marks opens others) (omega arith) falling)

-- searches are ready after the marks after one went
pub undone-ready : (left : ℕ) (marks new : List Snapshot) (mark : ℕ) (opens : List OpenGoal) (after : Searches) → new ≡ take (mark + 1) marks → after.inner.opens.items ≡ opens
    → AreFalling (length marks) (mark ∷ open_marks opens (waiting_marks (reverse after.waiting.items))) → AreOpen left marks opens → CanWaitAll left marks after.waiting.items → AreReady left new after
undone-ready left marks new mark opens after is same falling ready can =
    let others : List ℕ = waiting_marks (reverse after.waiting.items) in
    let long : length new ≡ mark + 1 = ap length is ∙ taken-long marks mark falling.0 in
    let all = all-same left marks (take (mark + 1) marks) opens after.waiting.items (same-taken marks (mark + 1) mark (open_marks opens others) (omega arith) falling.1) ready can in
    record {
      marked = subst (λ os. AreFalling (length new) (open_marks os others)) (sym same) (falling-higher mark (length new) (open_marks opens others) (omega (arith, long)) falling.1);
      opens = subst (λ ms. AreOpen left ms after.inner.opens.items) (sym is) (subst (AreOpen left (take (mark + 1) marks)) (sym same) all.0);
      waiting = subst (λ ms. CanWaitAll left ms after.waiting.items) (sym is) all.1;
    }

-- so they are where an open goal was left open again, or went
pub returned-ready : (left : ℕ) (marks new : List Snapshot) (pending : OpenGoal) (opens : List OpenGoal) (turn : Turn) (after : Searches) → new ≡ take (pending.mark + 1) marks → OpensBy pending opens turn after.inner.opens.items
    → AreFalling (length marks) (pending.mark ∷ open_marks opens (waiting_marks (reverse after.waiting.items))) → IsOpen left (snapshot_at marks pending.mark) pending.goal pending.place → AreOpen left marks opens → CanWaitAll left marks after.waiting.items
    → AreReady left new after
returned-ready left marks new pending opens (Visit next) after is by falling ready all can =
    let others : List ℕ = waiting_marks (reverse after.waiting.items) in
    let kept : OpenGoal = by.0 in
    let taken : List Snapshot = take (pending.mark + 1) marks in
    let long : length new ≡ pending.mark + 1 = ap length is ∙ taken-long marks pending.mark falling.0 in
    let mark : kept.mark ≡ pending.mark = by.2.mark_ in
    let shown : snapshot_at taken kept.mark ≡ snapshot_at marks pending.mark = ap (snapshot_at taken) mark ∙ snapshot-taken marks (pending.mark + 1) pending.mark (omega arith) in
    let both = all-same left marks taken opens after.waiting.items (same-taken marks (pending.mark + 1) pending.mark (open_marks opens others) (omega arith) falling.1) all can in
    let last : IsOpen left (snapshot_at taken kept.mark) kept.goal kept.place =
    subst (λ s. IsOpen left s kept.goal kept.place) (sym shown) (subst (λ g. IsOpen left (snapshot_at marks pending.mark) g kept.place) (sym by.2.goal_) (subst (λ p. IsOpen left (snapshot_at marks pending.mark) pending.goal p) (sym by.2.place_) ready)) in
    record {
      marked = subst (λ os. AreFalling (length new) (open_marks os others)) (sym by.1)
          (subst (AreFalling (length new)) (sym (marks-newest opens kept others)) (let low : kept.mark < length new = omega (arith, long, mark) in low, subst (λ m. AreFalling m (open_marks opens others)) (sym mark) falling.1));
      opens = subst (λ ms. AreOpen left ms after.inner.opens.items) (sym is) (subst (AreOpen left taken) (sym by.1) (opens-both left taken opens kept both.0 last));
      waiting = subst (λ ms. CanWaitAll left ms after.waiting.items) (sym is) both.1;
    }
returned-ready left marks new pending opens Back after is by falling ready all can = undone-ready left marks new pending.mark opens after is by falling all can
returned-ready left marks new pending opens (Found found) after is by falling ready all can = absurd by

-- the marks of searches, the newest open goal first
pub falling-open : (high : ℕ) (all opens : List OpenGoal) (kept : OpenGoal) (others : List ℕ) → all ≡ opens ++ kept ∷ [] → AreFalling high (open_marks all others) → AreFalling high (kept.mark ∷ open_marks opens others)
falling-open high all opens kept others is falling = subst (AreFalling high) (marks-newest opens kept others) (subst (λ os. AreFalling high (open_marks os others)) is falling)

-- the newest mark
pub snapshot-newest : (marks : List Snapshot) (now : Snapshot) → snapshot_at (marks ++ now ∷ []) (length marks) ≡ now
snapshot-newest marks now = get-found (marks ++ now ∷ []) (length marks) now no_snapshot (get-there marks now [])

-- searches are ready after the search of an atom began, at a new mark
pub begun-ready : (left : ℕ) (marks new : List Snapshot) (now : Snapshot) (before after : Searches) (waiting : Waiting) → new ≡ marks ++ now ∷ [] → waiting.mark ≡ length marks → waiting.search.opens.items ≡ before.inner.opens.items
    → after.inner.opens.items ≡ [] → after.waiting.items ≡ before.waiting.items ++ waiting ∷ [] → IsOpen left now waiting.goal waiting.place → AreReady left marks before → AreReady left new after
begun-ready left marks new now before after waiting is mark opens none items goal ready =
    let others : List ℕ = waiting_marks (reverse before.waiting.items) in
    let ns : List ℕ = open_marks before.inner.opens.items others in
    let grown : List Snapshot = marks ++ now ∷ [] in
    let both = all-same left marks grown before.inner.opens.items before.waiting.items (same-more marks (now ∷ []) ns ready.marked) ready.opens ready.waiting in
    let long : length new ≡ length marks + 1 = ap length is ∙ length-append marks (now ∷ []) in
    let shown : snapshot_at grown waiting.mark ≡ now = ap (snapshot_at grown) mark ∙ snapshot-newest marks now in
    let turned : reverse after.waiting.items ≡ waiting ∷ reverse before.waiting.items = ap reverse items ∙ newest before.waiting.items waiting in
    let falls : AreFalling (length new) (waiting_marks (waiting ∷ reverse before.waiting.items)) = (
      let low : waiting.mark < length new = omega (arith, long, mark) in low,
      subst (λ os. AreFalling waiting.mark (open_marks os others)) (sym opens) (subst (λ m. AreFalling m ns) (sym mark) ready.marked),
    ) in
    record {
      marked = subst (λ os. AreFalling (length new) (open_marks os (waiting_marks (reverse after.waiting.items)))) (sym none) (subst (λ ws. AreFalling (length new) (waiting_marks ws)) (sym turned) falls);
      opens = subst (λ os. AreOpen left new os) (sym none) tt;
      waiting = subst (λ ms. CanWaitAll left ms after.waiting.items) (sym is)
          (subst (CanWaitAll left grown) (sym items)
          (waiting-both left grown before.waiting.items waiting both.1 (record { goal = subst (λ s. IsOpen left s waiting.goal waiting.place) (sym shown) goal; opens = subst (AreOpen left grown) (sym opens) both.0 })));
    }

-- and after a goal was left open, at a new mark
pub opened-ready : (left : ℕ) (marks new : List Snapshot) (now : Snapshot) (before after : Searches) (kept : OpenGoal) → new ≡ marks ++ now ∷ [] → kept.mark ≡ length marks → after.inner.opens.items ≡ before.inner.opens.items ++ kept ∷ []
    → after.waiting.items ≡ before.waiting.items → IsOpen left now kept.goal kept.place → AreReady left marks before → AreReady left new after
opened-ready left marks new now before after kept is mark opens items goal ready =
    let others : List ℕ = waiting_marks (reverse before.waiting.items) in
    let ns : List ℕ = open_marks before.inner.opens.items others in
    let grown : List Snapshot = marks ++ now ∷ [] in
    let both = all-same left marks grown before.inner.opens.items before.waiting.items (same-more marks (now ∷ []) ns ready.marked) ready.opens ready.waiting in
    let long : length new ≡ length marks + 1 = ap length is ∙ length-append marks (now ∷ []) in
    let shown : snapshot_at grown kept.mark ≡ now = ap (snapshot_at grown) mark ∙ snapshot-newest marks now in
    let falls : AreFalling (length new) (kept.mark ∷ ns) = (let low : kept.mark < length new = omega (arith, long, mark) in low, subst (λ m. AreFalling m ns) (sym mark) ready.marked) in
    record {
      marked = subst (λ os. AreFalling (length new) (open_marks os (waiting_marks (reverse after.waiting.items)))) (sym opens)
          (subst (λ ws. AreFalling (length new) (open_marks (before.inner.opens.items ++ kept ∷ []) (waiting_marks (reverse ws)))) (sym items) (subst (AreFalling (length new)) (sym (marks-newest before.inner.opens.items kept others)) falls));
      opens = subst (λ ms. AreOpen left ms after.inner.opens.items) (sym is)
          (subst (AreOpen left grown) (sym opens) (opens-both left grown before.inner.opens.items kept both.0 (subst (λ s. IsOpen left s kept.goal kept.place) (sym shown) goal)));
      waiting = subst (λ ms. CanWaitAll left ms after.waiting.items) (sym is) (subst (CanWaitAll left grown) (sym items) both.1);
    }
