-- Two terms of the cells that are made equal.
use Rattle.std.proofs.Common.{◌≡◌, ℕ, ◌<◌, ◌≤◌, Bool, true, false, List, [], ◌∷◌, ◌++◌, length, map, get_or, refl, sym, ap, subst, ◌∙◌, append-nil, arith}
use Rattle.std.specs.List.{AllByRecursion}
use Rattle.std.proofs.lemmas.List.{length-map, get_or_past}
use Rattle.le_terms.specs.Tree.{Tree, nil, flat, tree_of, tree_of-flat}
use Rattle.le_terms.specs.Variables.{replaced, occurrences, all_occurrences}
use Rattle.le_terms.specs.Program.{form_atom, IsProgram}
use Rattle.le_terms.specs.declared.term.Sym.{Sym}
use Rattle.le_terms.specs.declared.term.Sym.TheVariants.{Name, Num, Day, Var, Nil, Cons}
use Rattle.le_terms.specs.declared.program.Program.{Program}
use Rattle.le_subst.specs.Unifiers.{Equation, Bindings, apply}
use Rattle.le_subst.specs.Solution.{solve_of}
use Rattle.le_builtins.specs.Compute.{argument}
use Rattle.le_store.specs.Shown as store
use Rattle.le_unify.specs.Unifying.{Unifies, HasSameCells}
use Rattle.le_proofs.specs.Goals.{Goal, terms_under}
use Rattle.le_goals.specs.declared.frames.Frame.{Frame}
use Rattle.le_goals.specs.declared.frames.Kept.{Kept}
use Rattle.le_goals.specs.Frames.{Laid, laid_from, cell_term, goal_of, goals_of}
use Rattle.le_goals.specs.Shown.{Shown, goal_at, literal_of, goal_under, KeepsUnder, argument_at, result_of, Equates, IsWholeSymbol}
use Rattle.le_goals.specs.State.{snapshot_of, shown, AreFrames}
use Rattle.le_goals.specs.Parting.{laid_at}
use Rattle.le_goals.specs.Unifying.{Extends, HasTerm}
use Rattle.le_goals.specs.Equations.{IsCellOf, UnifiesCells, UnifiesPair}
use Rattle.le_goals.proofs.Bindings.{goal-bound}
use Rattle.le_goals.proofs.Inside.{LiesInside, LieInside, frames-inside, goal-kept}
use Rattle.le_goals.proofs.Pairings.{extends-then, term-later, one-there}
use Rattle.le_goals.proofs.ReadLiterals.{goal-shown}

-- ---- a symbol that is a whole term

whole-replaced : (by : ℕ → Tree) (symbol : Sym) → IsWholeSymbol symbol → replaced by (tree_of (symbol ∷ [])) ≡ tree_of (symbol ∷ [])
whole-replaced by (Name n) h = refl
whole-replaced by (Num z) h = refl
whole-replaced by (Day d) h = refl
whole-replaced by (Var v) h = absurd h
whole-replaced by Nil h = refl
whole-replaced by Cons h = absurd h

pub whole-flat : (symbol : Sym) → IsWholeSymbol symbol → flat (tree_of (symbol ∷ [])) ≡ symbol ∷ []
whole-flat (Name n) h = refl
whole-flat (Num z) h = refl
whole-flat (Day d) h = refl
whole-flat (Var v) h = refl
whole-flat Nil h = refl
whole-flat Cons h = absurd h

pub built-symbol : (old new : store.Shown) (symbol : Sym) → IsWholeSymbol symbol → (term : Tree) → term ≡ tree_of (symbol ∷ []) → (place : ℕ) → HasTerm old new 0 term place → (tree : Tree) → flat tree ≡ symbol ∷ [] → IsCellOf new tree place
built-symbol old new symbol whole term is place has tree same = record {
  there = has.there;
  term_ = has.term_ ∙ (ap (replaced (cell_term old.now 0)) is ∙ (whole-replaced (cell_term old.now 0) symbol whole ∙ (ap tree_of (sym same) ∙ tree_of-flat tree)));
}

-- ---- arguments

pub argument-there : (P : ℕ → Type 0) (args : List Tree) (place : ℕ) (term : Tree) → place < length args → term ≡ get_or args place term → AllByRecursion P (all_occurrences args) → AllByRecursion P (occurrences term)
argument-there P args place term low is all = subst (λ (t : Tree). AllByRecursion P (occurrences t)) (sym is) (one-there P args place term low all)

pub missing-argument : (new : store.Shown) (by : ℕ → Tree) (args : List Tree) (place at : ℕ) → length args ≤ place → IsCellOf new nil at → IsCellOf new (argument (terms_under by args) place) at
missing-argument new by args place at past is =
    let count : length (terms_under by args) ≡ length args = length-map args (replaced by) in
    let none : argument (terms_under by args) place ≡ nil = get_or_past (terms_under by args) place nil (omega (arith, past, count)) in
    record { there = is.there; term_ = is.term_ ∙ sym none }

-- ---- two cells

pub unified-pair : (old mid built new : store.Shown) → Extends old mid → Extends mid built → (left right : Tree) (first second : ℕ) → IsCellOf mid left first → IsCellOf built right second → HasSameCells built new → (equal : Bool)
    → Unifies built new ((store.term_of built first, store.term_of built second) ∷ []) equal → UnifiesPair old new left right equal
unified-pair old mid built new one two left right first second is_first is_second cells equal made = by equal made
  where
    same : ◌≡◌ {A = List Equation} ((store.term_of built first, store.term_of built second) ∷ []) ((left, right) ∷ [])
    same =
        ap (λ (t : Tree). let es : List Equation = (t, store.term_of built second) ∷ [] in es) (term-later mid built two first is_first.there ∙ is_first.term_)
        ∙ ap (λ (t : Tree). let es : List Equation = (left, t) ∷ [] in es) is_second.term_

    by : (b : Bool) → Unifies built new ((store.term_of built first, store.term_of built second) ∷ []) b → UnifiesPair old new left right b
    by false none = ap solve_of (sym same) ∙ none
    by true found = (
      found.0,
      ap solve_of (sym same) ∙ found.1,
      record {
        more = (extends-then old mid built one two).more;
        terms_ = found.2 ∙ ap (map (apply found.0)) (extends-then old mid built one two).terms_;
        variables_ = cells.variables ∙ (extends-then old mid built one two).variables_;
      },
    )

-- ---- all goals

module _ (program : Program) (is : IsProgram program) (old new : store.Shown) (bindings : Bindings) (made : UnifiesCells old new bindings) where
  -- the cells before the unifier
  abbrev between : store.Snapshot
  between = record { terms = old.now.terms ++ made.more; variables = new.now.variables }

  goal-after : (laid : Laid) → LiesInside program (length old.now.terms) laid → goal_of program new.now laid ≡ goal_under bindings (length new.now.variables) (goal_of program old.now laid)
  goal-after laid inside = goal-bound between new.now bindings made.terms_ program laid ∙ ap (goal_under bindings (length new.now.variables)) (goal-kept old.now between made.more refl program is laid inside)

  goals-after : (laid : List Laid) → LieInside program (length old.now.terms) laid → map (goal_of program new.now) laid ≡ map (goal_under bindings (length new.now.variables)) (map (goal_of program old.now) laid)
  goals-after [] inside = refl
  goals-after (one ∷ laid) inside =
      ap (λ g. g ∷ map (goal_of program new.now) laid) (goal-after one inside.0)
      ∙ ap (λ gs. goal_under bindings (length new.now.variables) (goal_of program old.now one) ∷ gs) (goals-after laid inside.1)

  pub all-under : (frames : List Frame) → AreFrames program (length old.now.terms) 0 frames → KeepsUnder bindings (length old.now.variables) (snapshot_of program old.now frames) (snapshot_of program new.now frames)
  all-under frames fits = record {
    next_ = ap length made.variables_;
    more = [];
    goals_ =
        goals-after (laid_from program [] frames) (frames-inside program is (length old.now.terms) [] tt 0 frames fits)
        ∙ (ap (λ n. map (goal_under bindings n) (goals_of program old.now frames)) (ap length made.variables_)
        ∙ sym (append-nil (map (goal_under bindings (length old.now.variables)) (goals_of program old.now frames))));
  }

pub equated : (program : Program) → IsProgram program → (old new : store.Shown) (frames : List Frame) (kept : List Kept) (before : Shown) → ◌≡◌ {A = Shown} (shown program old frames kept) before → AreFrames program (length old.now.terms) 0 frames
    → (left right : Tree) (equal : Bool) → UnifiesPair old new left right equal → Equates before.now (snapshot_of program new.now frames) left right equal
equated program is old new frames kept before view fits left right equal pair = subst (λ (v : Shown). Equates v.now (snapshot_of program new.now frames) left right equal) view (by equal pair)
  where
    by : (b : Bool) → UnifiesPair old new left right b → Equates (snapshot_of program old.now frames) (snapshot_of program new.now frames) left right b
    by false none = none
    by true made = (made.0, made.1, all-under program is old new made.0 made.2 frames fits)

pub equated-arguments : (program : Program) → IsProgram program → (old new : store.Shown) (frames items : List Frame) (kept : List Kept) (before : Shown) (goal place : ℕ) → ◌≡◌ {A = Shown} (shown program old frames kept) before
    → AreFrames program (length old.now.terms) 0 frames → goal < length frames → items ≡ frames → (equal : Bool)
    → UnifiesPair old new (argument (form_atom (literal_of (goal_of program old.now (laid_at program items goal)) place).form).args 0) (argument (form_atom (literal_of (goal_of program old.now (laid_at program items goal)) place).form).args 1) equal
    → Equates before.now (snapshot_of program new.now frames) (argument_at before.now goal place 0) (argument_at before.now goal place 1) equal
equated-arguments program is old new frames items kept before goal place view fits low same equal pair =
    let seen : goal_of program old.now (laid_at program items goal) ≡ goal_at before.now goal = ap (λ (fs : List Frame). goal_of program old.now (laid_at program fs goal)) same ∙ goal-shown program old frames kept before goal view low in
    subst (λ (g : Goal). Equates before.now (snapshot_of program new.now frames) (argument (form_atom (literal_of g place).form).args 0) (argument (form_atom (literal_of g place).form).args 1) equal) seen
    (equated program is old new frames kept before view fits (argument (form_atom (literal_of (goal_of program old.now (laid_at program items goal)) place).form).args 0) (argument (form_atom (literal_of (goal_of program old.now (laid_at program items goal)) place).form).args 1) equal pair)

pub equated-result : (program : Program) → IsProgram program → (old new : store.Shown) (frames items : List Frame) (kept : List Kept) (before : Shown) (goal place : ℕ) → ◌≡◌ {A = Shown} (shown program old frames kept) before
    → AreFrames program (length old.now.terms) 0 frames → goal < length frames → items ≡ frames → (tree : Tree) (equal : Bool)
    → UnifiesPair old new (result_of (literal_of (goal_of program old.now (laid_at program items goal)) place).form) tree equal
    → Equates before.now (snapshot_of program new.now frames) (result_of (literal_of (goal_at before.now goal) place).form) tree equal
equated-result program is old new frames items kept before goal place view fits low same tree equal pair =
    let seen : goal_of program old.now (laid_at program items goal) ≡ goal_at before.now goal = ap (λ (fs : List Frame). goal_of program old.now (laid_at program fs goal)) same ∙ goal-shown program old frames kept before goal view low in
    subst (λ (g : Goal). Equates before.now (snapshot_of program new.now frames) (result_of (literal_of g place).form) tree equal) seen
    (equated program is old new frames kept before view fits (result_of (literal_of (goal_of program old.now (laid_at program items goal)) place).form) tree equal pair)
