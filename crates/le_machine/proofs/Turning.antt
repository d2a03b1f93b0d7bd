-- What a machine's turns keep.
use Rattle.std.specs.List.{AllByRecursion}
use Rattle.std.specs.Prelude.{Result, Ok, Err, IfOk, reverse, slice_get}
use Rattle.std.proofs.Common.{◌≡◌, ℕ, zero, suc, ◌+◌, ◌-◌, ◌*◌, ◌<◌, ◌≤◌, List, [], ◌∷◌, ◌++◌, take, drop, length, Some, refl, sym, ap, subst, ◌∙◌, mul-le-mul, le_refl, arith}
use Rattle.std.proofs.lemmas.List.{reverse-append, length-take}
use Rattle.le_subst.specs.Solution.{run, solve_of}
use Rattle.le_subst.specs.Unifiers.{Bindings, value_at}
use Rattle.le_terms.specs.Tree.{Tree}
use Rattle.le_terms.specs.Program.{predefined_arities}
use Rattle.le_terms.specs.declared.program.Form.{Form}
use Rattle.le_terms.specs.declared.program.Form.TheVariants.{Pos, Neg, Calc, Gather}
use Rattle.le_terms.specs.declared.program.Literal.{Literal}
use Rattle.le_proofs.specs.Goals.{Goal, form_under, literals_under, terms_under}
use Rattle.le_proofs.specs.Search.{goes_on, by_solution}
use Rattle.le_proofs.proofs.Alls.{all-both, all-left, all-right}
use Rattle.le_machine.specs.declared.goals.Goal as code
use Rattle.le_machine.specs.declared.goals.OpenGoal.{OpenGoal}
use Rattle.le_machine.specs.declared.goals.Searches.{Searches}
use Rattle.le_machine.specs.declared.goals.Waiting.{Waiting}
use Rattle.le_machine.specs.Keeping.{goal_of, put_at, goal_with, IsComputable, AreComputable, IsReady, IsOpen, AreOpen, CanWait, CanWaitAll, AreReady}
use Rattle.le_machine.specs.Turns.{opens_weight, waiting_weight}

-- computed literals stay so under a substitution
length-under : (by : ℕ → Tree) (trees : List Tree) → length (terms_under by trees) ≡ length trees
length-under by [] = refl
length-under by (t ∷ trees) = ap suc (length-under by trees)

form-computable : (by : ℕ → Tree) (form : Form) → IsComputable form → IsComputable (form_under by form)
form-computable by (Pos atom) h = tt
form-computable by (Neg atom) h = tt
form-computable by (Calc atom) h = (h.0, h.1 ∙ ap Some (sym (length-under by atom.args)))
form-computable by (Gather fold result value atom) h = tt

pub under-computable : (by : ℕ → Tree) (literals : List Literal) → AreComputable literals → AreComputable (literals_under by literals)
under-computable by [] h = tt
under-computable by (literal ∷ literals) h = (form-computable by literal.form h.0, under-computable by literals h.1)

take-computable : (n : ℕ) (literals : List Literal) → AreComputable literals → AreComputable (take n literals)
take-computable zero literals h = tt
take-computable (suc n) [] h = tt
take-computable (suc n) (literal ∷ literals) h = (h.0, take-computable n literals h.1)

drop-computable : (n : ℕ) (literals : List Literal) → AreComputable literals → AreComputable (drop n literals)
drop-computable zero literals h = h
drop-computable (suc n) [] h = tt
drop-computable (suc n) (literal ∷ literals) h = drop-computable n literals h.1

pub put-computable : (literals : List Literal) (place : ℕ) (new : List Literal) → AreComputable literals → AreComputable new → AreComputable (put_at literals place new)
put-computable literals place new h more =
    all-both (λ literal. IsComputable literal.form) (take place literals) (new ++ drop (place + 1) literals) (take-computable place literals h)
    (all-both (λ literal. IsComputable literal.form) new (drop (place + 1) literals) more (drop-computable (place + 1) literals h))

pub with-computable : (goal : Goal) (place next : ℕ) (new : List Literal) (bindings : Bindings) → AreComputable goal.literals → AreComputable new → AreComputable (goal_with goal place next new bindings).literals
with-computable goal place next new bindings h more = under-computable (value_at bindings) (put_at goal.literals place new) (put-computable goal.literals place new h more)

-- a goal without a literal, under a unifier, is ready where it was
pub rest-ready : (left : ℕ) (goal rest : code.Goal) (place : ℕ) (bindings : Bindings) → goal_of rest ≡ goal_with (goal_of goal) place goal.next [] bindings → IsReady left goal → IsReady left rest
rest-ready left goal rest place bindings same ready =
    let next : rest.next ≡ goal.next = ap (λ g. g.next) same in
    record {
      low = let low_ : goal.next + 64 * left ≤ 64000064 = ready.low in omega arith;
      computable = subst AreComputable (sym (ap (λ g. g.literals) same)) (with-computable (goal_of goal) place goal.next [] bindings ready.computable tt);
    }

-- a place of some literals has that many literals before it
pub place-long : (literals : List Literal) (place : ℕ) → place < length literals → length (take place literals) ≡ place
place-long literals place inside = length-take place literals ∙ (omega (arith, inside))

pub ready-fewer : (left less : ℕ) (goal : code.Goal) → less ≤ left → IsReady left goal → IsReady less goal
ready-fewer left less goal fewer ready = record {
  low = let more : 64 * less ≤ 64 * left = mul-le-mul (le_refl 64) fewer in let low_ : goal.next + 64 * left ≤ 64000064 = ready.low in omega arith;
  computable = ready.computable;
}

pub open-fewer : (left less : ℕ) (goal : code.Goal) (place : ℕ) → less ≤ left → IsOpen left goal place → IsOpen less goal place
open-fewer left less goal place fewer h = record { ready = ready-fewer (suc left) (suc less) goal (omega arith) h.ready; inside = h.inside }

pub opens-fewer : (left less : ℕ) (opens : List OpenGoal) → less ≤ left → AreOpen left opens → AreOpen less opens
opens-fewer left less [] fewer h = tt
opens-fewer left less (kept ∷ opens) fewer h = (open-fewer left less kept.goal kept.place fewer h.0, opens-fewer left less opens fewer h.1)

waiting-fewer : (left less : ℕ) (around : List Waiting) → less ≤ left → CanWaitAll left around → CanWaitAll less around
waiting-fewer left less [] fewer h = tt
waiting-fewer left less (waiting ∷ around) fewer h = (
  record { goal = open-fewer left less waiting.goal waiting.place fewer h.0.goal; opens = opens-fewer left less waiting.search.opens.items fewer h.0.opens },
  waiting-fewer left less around fewer h.1,
)

pub all-fewer : (left less : ℕ) (searches : Searches) → less ≤ left → AreReady left searches → AreReady less searches
all-fewer left less searches fewer h = record { opens = opens-fewer left less searches.inner.opens.items fewer h.opens; waiting = waiting-fewer left less searches.waiting.items fewer h.waiting }

-- of open goals and searches that wait, the newest last
pub opens-front : (left : ℕ) (opens : List OpenGoal) (kept : OpenGoal) → AreOpen left (opens ++ kept ∷ []) → AreOpen left opens
opens-front left opens kept h = all-left (λ k. IsOpen left k.goal k.place) opens (kept ∷ []) h

pub opens-last : (left : ℕ) (opens : List OpenGoal) (kept : OpenGoal) → AreOpen left (opens ++ kept ∷ []) → IsOpen left kept.goal kept.place
opens-last left opens kept h = (all-right (λ k. IsOpen left k.goal k.place) opens (kept ∷ []) h).0

pub waiting-front : (left : ℕ) (around : List Waiting) (waiting : Waiting) → CanWaitAll left (around ++ waiting ∷ []) → CanWaitAll left around
waiting-front left around waiting h = all-left (CanWait left) around (waiting ∷ []) h

pub waiting-last : (left : ℕ) (around : List Waiting) (waiting : Waiting) → CanWaitAll left (around ++ waiting ∷ []) → CanWait left waiting
waiting-last left around waiting h = (all-right (CanWait left) around (waiting ∷ []) h).0

pub weight-push : (clauses : ℕ) (opens : List OpenGoal) (kept : OpenGoal) → opens_weight clauses (opens ++ kept ∷ []) ≡ (2 * (clauses - kept.from) + 2) + opens_weight clauses opens
weight-push clauses [] kept = refl
weight-push clauses (first ∷ opens) kept = let rest : opens_weight clauses (opens ++ kept ∷ []) ≡ (2 * (clauses - kept.from) + 2) + opens_weight clauses opens = weight-push clauses opens kept in omega arith

pub waiting-push : (clauses : ℕ) (around : List Waiting) (waiting : Waiting) → waiting_weight clauses (around ++ waiting ∷ []) ≡ (2 + opens_weight clauses waiting.search.opens.items) + waiting_weight clauses around
waiting-push clauses [] waiting = refl
waiting-push clauses (first ∷ around) waiting = let rest : waiting_weight clauses (around ++ waiting ∷ []) ≡ (2 + opens_weight clauses waiting.search.opens.items) + waiting_weight clauses around = waiting-push clauses around waiting in omega arith

pub newest : {X : Type 0} (xs : List X) (x : X) → reverse (xs ++ x ∷ []) ≡ x ∷ reverse xs
newest xs x = reverse-append xs (x ∷ [])

-- facts on Ok
pub ok-all : {X E : Type 0} (P Q : X → Type 0) → ((x : X) → P x → Q x) → (r : Result X E) → IfOk r P → IfOk r Q
ok-all P Q give (Ok x) h = give x h
ok-all P Q give (Err e) h = tt

pub ok-any : {X E : Type 0} (P : X → Type 0) → ((x : X) → P x) → (r : Result X E) → IfOk r P
ok-any P give (Ok x) = give x
ok-any P give (Err e) = tt

pub ok-both : {X E : Type 0} (P Q R : X → Type 0) → ((x : X) → P x → Q x → R x) → (r : Result X E) → IfOk r P → IfOk r Q → IfOk r R
ok-both P Q R give (Ok x) p q = give x p q
ok-both P Q R give (Err e) p q = tt

-- a computed literal that holds goes on without a unifier, as by no equations
pub by-none : by_solution (solve_of []) ≡ goes_on []
unfolding run
by-none = refl

-- a computed predicate has arguments
all-get : (ns : List ℕ) (i n : ℕ) → AllByRecursion (λ k. 0 < k) ns → slice_get ns i ≡ Some n → 0 < n
all-get [] i n all h = absurd (cc h)
all-get (k ∷ ns) zero n all h = let same : k ≡ n = cc h in let low : 0 < k = all.0 in omega arith
all-get (k ∷ ns) (suc i) n all h = all-get ns i n all.1 h

pub some-arguments : (pred n : ℕ) → slice_get predefined_arities pred ≡ Some n → 0 < n
some-arguments pred n h =
    let two : 0 < 2 = omega arith in
    let three : 0 < 3 = omega arith in
    all-get predefined_arities pred n
    (two, (two, (two, (two, (two, (two, (two, (two, (two, (two, (three, (three, (three, (three, (three, (three, (three, (two, (two, (three, tt)))))))))))))))))))) h
