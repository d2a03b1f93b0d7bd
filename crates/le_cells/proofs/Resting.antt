-- A goal without a literal, after its literal was done: what it is, that it is ready, and the step to it.
use Rattle.std.proofs.Common.{◌≡◌, ℕ, zero, suc, ◌+◌, ◌*◌, ◌<◌, ◌≤◌, List, [], ◌∷◌, ◌++◌, take, drop, length, get_or, slice_get, map, reverse, Some, length-append, refl, sym, ap, ap₂, subst, ◌∙◌, arith}
use Rattle.std.proofs.lemmas.List.{map-append, take-map, length-map}
use Rattle.std.proofs.lemmas.Option.{get_or_from_slice_get, slice_get_within}
use Rattle.le_terms.specs.Tree.{Tree, variable}
use Rattle.le_base.specs.declared.stop.FoldKind.{FoldKind}
use Rattle.le_terms.specs.declared.program.Atom.{Atom}
use Rattle.le_terms.specs.declared.program.Form.{Form}
use Rattle.le_terms.specs.declared.program.Form.TheVariants.{Pos, Neg, Calc, Gather}
use Rattle.le_terms.specs.declared.program.Literal.{Literal}
use Rattle.le_terms.specs.declared.program.Program.{Program}
use Rattle.le_subst.specs.Unifiers.{Bindings, value_at}
use Rattle.le_proofs.specs.Goals.{Goal, Picked, literal_under, literals_under, terms_under, rest_by, rest_goal}
use Rattle.le_proofs.specs.Proofs.{Step}
use Rattle.le_proofs.proofs.Trees.{replaced-same}
use Rattle.le_goals.specs.declared.reading.Kind.TheVariants as kinds
use Rattle.le_goals.specs.Shown.{kind_of, Snapshot, Shown, HasLiteral, Keeps, KeepsUnder, goal_at, goal_under, literal_of, picked_at, no_goal, no_literal}
use Rattle.le_paths.specs.declared.step.CellStep.{CellStep}
use Rattle.le_paths.specs.Paths.{IsMade, LeadHere}
use Rattle.le_paths.proofs.Leads.{literal-none, goal-bound, lead-step, lead-rest, lead-kept, lead-pushed}
use Rattle.le_cells.specs.Keeping.{Selects, IsUnder, bound, unchanged, IsReady, IsReadyAt, placed, goal_now}
use Rattle.le_cells.proofs.SelectedAt.{same-at}
use Rattle.le_cells.proofs.Turning.{rest-ready}

drop-map : {X Y : Type 0} (f : X → Y) (n : ℕ) (xs : List X) → drop n (map f xs) ≡ map f (drop n xs)
drop-map f zero xs = refl
drop-map f (suc n) [] = refl
drop-map f (suc n) (x ∷ xs) = drop-map f n xs

literals-none : (literals : List Literal) → literals_under variable literals ≡ literals
literals-none [] = refl
literals-none (literal ∷ literals) = ap₂ (λ l ls. l ∷ ls) (literal-none literal) (literals-none literals)

terms-none : (trees : List Tree) → terms_under variable trees ≡ trees
terms-none [] = refl
terms-none (tree ∷ trees) = ap₂ (λ t ts. t ∷ ts) (replaced-same tree) (terms-none trees)

-- a selected literal is the one at its place
pub selected-there : (program : Program) (goal : Goal) (place : ℕ) (literal : Literal) → place < length goal.literals → Selects program goal.literals place literal → literal_of goal place ≡ literal
selected-there program goal place literal inside selects = sym (by goal.literals place inside selects.1)
  where
    by : (ls : List Literal) (n : ℕ) → n < length ls → literal ≡ get_or ls n literal → literal ≡ get_or ls n no_literal
    by [] n low same = absurd (omega (arith, low))
    by (l ∷ ls) zero low same = same
    by (l ∷ ls) (suc n) low same = by ls n (omega (arith, low)) same

-- the form of a literal of a kind
pub calc-form : (form : Form) → kind_of form ≡ kinds.Computed → (atom : Atom) × (form ≡ Calc atom)
calc-form (Pos atom) h = absurd (cc h)
calc-form (Neg atom) h = absurd (cc h)
calc-form (Calc atom) h = (atom, refl)
calc-form (Gather fold result value atom) h = absurd (cc h)

pub gather-form : (form : Form) (kind : FoldKind) → kind_of form ≡ kinds.Gather kind → (result : Tree) × (value : Tree) × (atom : Atom) × (form ≡ Gather kind result value atom)
gather-form (Pos atom) kind h = absurd (cc h)
gather-form (Neg atom) kind h = absurd (cc h)
gather-form (Calc atom) kind h = absurd (cc h)
gather-form (Gather fold result value atom) kind h = let same : fold ≡ kind = cc h in (result, value, atom, ap (λ f. Gather f result value atom) same)

-- a goal's literal is there under a unifier
pub there-under : (bindings : Bindings) (old mid : Snapshot) (goal place : ℕ) → IsUnder bindings old mid → HasLiteral old goal place → HasLiteral mid goal place
there-under bindings old mid goal place (bound keeps) there =
    let long : length mid.goals ≡ length old.goals + length keeps.more =
    ap length keeps.goals_ ∙ (length-append (map (goal_under bindings old.next) old.goals) keeps.more ∙ ap (λ n. n + length keeps.more) (length-map old.goals (goal_under bindings old.next))) in
    let literals : length (goal_at mid goal).literals ≡ length (goal_at old goal).literals =
    ap (λ g. length g.literals) (goal-bound bindings old.next old mid goal keeps there.goal) ∙ length-map (goal_at old goal).literals (literal_under (value_at bindings)) in
    record { goal = omega (arith, long, there.goal); literal = omega (arith, literals, there.literal) }
there-under bindings old mid goal place (unchanged none same) there = subst (λ s. HasLiteral s goal place) (sym same) there

-- a goal under a unifier without a literal is the goal without it under the unifier
bound-rest : (bindings : Bindings) (next : ℕ) (goal : Goal) (place : ℕ) → goal.next ≡ next → rest_goal (goal_under bindings next goal) (picked_at (goal_under bindings next goal) place) ≡ rest_by goal (picked_at goal place) bindings
bound-rest bindings next goal place same =
    let by : ℕ → Tree = value_at bindings in
    let front : take place (literals_under by goal.literals) ≡ literals_under by (take place goal.literals) = take-map (literal_under by) place goal.literals in
    let behind : drop (place + 1) (literals_under by goal.literals) ≡ literals_under by (drop (place + 1) goal.literals) = drop-map (literal_under by) (place + 1) goal.literals in
    let both : take place (literals_under by goal.literals) ++ drop (place + 1) (literals_under by goal.literals) ≡ literals_under by (take place goal.literals ++ drop (place + 1) goal.literals) =
    ap₂ (λ a b. a ++ b) front behind ∙ sym (map-append (literal_under by) (take place goal.literals) (drop (place + 1) goal.literals)) in
    ap (λ n. let g : Goal = record { next = n; literals = take place (literals_under by goal.literals) ++ drop (place + 1) (literals_under by goal.literals); terms = terms_under by goal.terms } in g) (sym same)
    ∙ ap (λ ls. let g : Goal = record { next = goal.next; literals = ls; terms = terms_under by goal.terms } in g) both

none-rest : (goal : Goal) (place : ℕ) → rest_goal goal (picked_at goal place) ≡ rest_by goal (picked_at goal place) []
none-rest goal place =
    let ls : List Literal = take place goal.literals ++ drop (place + 1) goal.literals in
    ap (λ l. let g : Goal = record { next = goal.next; literals = l; terms = goal.terms } in g) (sym (literals-none ls))
    ∙ ap (λ t. let g : Goal = record { next = goal.next; literals = literals_under variable ls; terms = t } in g) (sym (terms-none goal.terms))

module _ (old mid new : Snapshot) (goal place : ℕ) (there : HasLiteral old goal place) (bindings : Bindings) (under : IsUnder bindings old mid) (rest : ℕ)
    (rests : slice_get new.goals rest ≡ Some (rest_goal (goal_at mid goal) (picked_at (goal_at mid goal) place))) where
  -- what is left of the goal
  pub rest-is : (goal_at old goal).next ≡ old.next → goal_at new rest ≡ rest_by (goal_at old goal) (picked_at (goal_at old goal) place) bindings
  rest-is next = get_or_from_slice_get new.goals rest (rest_goal (goal_at mid goal) (picked_at (goal_at mid goal) place)) no_goal rests ∙ by under
    where
      by : IsUnder bindings old mid → rest_goal (goal_at mid goal) (picked_at (goal_at mid goal) place) ≡ rest_by (goal_at old goal) (picked_at (goal_at old goal) place) bindings
      by (bound keeps) = ap (λ g. rest_goal g (picked_at g place)) (goal-bound bindings old.next old mid goal keeps there.goal) ∙ bound-rest bindings old.next (goal_at old goal) place next
      by (unchanged none same) =
          ap (λ s. rest_goal (goal_at s goal) (picked_at (goal_at s goal) place)) same
          ∙ (none-rest (goal_at old goal) place ∙ ap (rest_by (goal_at old goal) (picked_at (goal_at old goal) place)) (sym none))

  -- it is ready where the goal was
  pub rest-ready-at : (left : ℕ) → Keeps mid new → IsReadyAt left old goal → IsReadyAt left new rest
  rest-ready-at left more ready =
      let is : goal_at new rest ≡ rest_by (goal_at old goal) (picked_at (goal_at old goal) place) bindings = rest-is ready.next_ in
      let mids : mid.next ≡ old.next = by under in
      record {
        there = slice_get_within new.goals rest (rest_goal (goal_at mid goal) (picked_at (goal_at mid goal) place)) rests;
        next_ = ap (λ g. g.next) is ∙ (ready.next_ ∙ sym (more.next_ ∙ mids));
        ready = rest-ready left (goal_at old goal) (goal_at new rest) place bindings is ready.ready;
      }
    where
      by : IsUnder bindings old mid → mid.next ≡ old.next
      by (bound keeps) = keeps.next_
      by (unchanged none same) = ap (λ s. s.next) same

-- the step to it
pub step-leads : (old mid new : Snapshot) (path : List CellStep) (kept : CellStep) (step : Step) (steps : List Step) → IsMade old kept step → IsUnder step.unifier old mid → Keeps mid new
    → LeadHere old (reverse path) steps → LeadHere new (reverse (path ++ kept ∷ [])) (step ∷ steps)
step-leads old mid new path kept step steps made under more lead = lead-pushed new variable path kept (step ∷ steps) (by under)
  where
    by : IsUnder step.unifier old mid → LeadHere new (kept ∷ reverse path) (step ∷ steps)
    by (bound keeps) = lead-kept mid new variable (kept ∷ reverse path) (step ∷ steps) more (lead-step old.next old mid kept step (reverse path) steps made keeps lead)
    by (unchanged none same) = lead-rest old new kept step (reverse path) steps none made (subst (λ s. Keeps s new) same more) lead
