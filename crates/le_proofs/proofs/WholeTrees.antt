-- Whole trees of one goal have the same leaves but for the names of variables, and each refutation of it ends at one of them, whichever variants and most general unifiers are chosen: by induction on the ranks, on the trees and on the steps.
use Rattle.std.proofs.Common.{◌≡◌, ◌⊎◌, ℕ, zero, suc, ◌+◌, ◌-◌, ◌<◌, ◌≤◌, Bool, true, false, List, [], ◌∷◌, ◌++◌, zip, length, Option, Some, None, refl, sym, ap, ◌∙◌, subst, arith, IsTrue, inl, inr}
use Rattle.std.specs.Prelude.{IsSomeAnd, nat_lt}
use Rattle.std.specs.List.{AllByRecursion}
use Rattle.std.proofs.lemmas.Bool.{ltb-true, ltb-false}
use Rattle.std.proofs.lemmas.List.{length-map}
use Rattle.std.proofs.lemmas.Slice.Zip.{firsts-zip}
use Rattle.le_base.specs.declared.stop.FoldKind.{FoldKind}
use Rattle.le_terms.specs.Tree.{Tree, variable}
use Rattle.le_terms.specs.Variables.{occurrences, all_occurrences, replaced}
use Rattle.le_terms.specs.Program.{IsProgramClause, form_terms}
use Rattle.le_terms.specs.declared.program.Atom.{Atom}
use Rattle.le_terms.specs.declared.program.Clause.{Clause}
use Rattle.le_terms.specs.declared.program.Form.{Form}
use Rattle.le_terms.specs.declared.program.Form.TheVariants.{Pos, Neg, Calc, Gather}
use Rattle.le_terms.specs.declared.program.Literal.{Literal}
use Rattle.le_terms.specs.declared.program.Program.{Program}
use Rattle.le_subst.specs.Unifiers.{Bindings, value_at, Factors}
use Rattle.le_builtins.specs.Compute.{compute}
use Rattle.le_builtins.proofs.Results.{results}
use Rattle.le_builtins.proofs.Variants.{rounds, compute-same}
use Rattle.le_gather.specs.declared.folding.FoldAnswer.{FoldAnswer}
use Rattle.le_gather.specs.Folds.{fold_of}
use Rattle.le_gather.proofs.Variants.{fold-same}
use Rattle.le_proofs.specs.Goals.{Goal, Picked, pick, is_delayed, selected, put_in_place, rest_of, sub_goal, terms_under, atom_under, form_under, literal_under, literals_under, raised, head_solution, is_ground_atom}
use Rattle.le_proofs.specs.Proofs.{Proof, by_clause, by_computing, by_failure, by_gathering, WholeTree, success, split, computed, dead, lacking, present, gathered, ungathered, WholeBranches, no_branch, branch, listed, then_by}
use Rattle.le_proofs.specs.Search.{goes_on, fails, computing, by_answer, by_fold}
use Rattle.le_proofs.specs.Lloyd.{IsClauseOf, HeadUnifies, Resolves, Pair, pairs_under, named, seen_by, map_variables, only, values_at, goal_variables, Computes, ComputesNothing, FitsBy, MissesBy, Trees, Refutations, OfAtom, OfComputed, OfNegation, OfGather, GoesOn, Lacks, Gathers, Misses, IsWhole, AreWhole, ByClause, ByComputing, ByFailure, ByGathering, Proves, Runs, WholeBelow, RefutableBelow}
use Rattle.le_proofs.proofs.Alls.{all-both, all-left, all-right}
use Rattle.le_proofs.proofs.Alike.{Tied, Alike, dropped-only}
use Rattle.le_proofs.proofs.Picks.{pick-means}
use Rattle.le_proofs.proofs.Instances.{after_by, picked_map, pick-map}
use Rattle.le_proofs.proofs.Sound.{terms-then}
use Rattle.le_proofs.proofs.Trees.{terms-same}
use Rattle.le_proofs.proofs.Variants.{terms-agree, terms-terms}
use Rattle.le_proofs.proofs.Steps.{tied-rounds, tied-low, form-tied, form-right, unifies-too, has-solution, clause-step, Past, past-step, past-computed, past-folded, never-computed, never-folded}
use Rattle.le_proofs.proofs.Coming.{AreFound, found-values, lits, lits-under, three-map, clause-is, selected-same, sub-alike}
use Rattle.le_proofs.proofs.Walking.{forget, found-join, slice-below}

-- terms are variants of others
abbrev pub AreRenamed : List Tree → List Tree → Type 0
AreRenamed ts us = (to : ℕ → Tree) × (back : ℕ → Tree) × (us ≡ terms_under to ts) × (terms_under back us ≡ ts)

found-back : (found others : List (List Tree)) → AreFound found others → AreFound others found
found-back [] [] are = tt
found-back (ts ∷ found) (us ∷ others) are = ((are.0.1, are.0.0, sym are.0.3, sym are.0.2), found-back found others are.1)
found-back [] (us ∷ others) are = absurd are
found-back (ts ∷ found) [] are = absurd are

found-none : (found others : List (List Tree)) → found ≡ [] → others ≡ [] → AreFound found others
found-none found others none also = subst (λ f. AreFound f others) (sym none) (subst (AreFound []) (sym also) tt)

-- terms are those of a leaf, but for the names of variables
abbrev pub EndsAt : List Tree → List (List Tree) → Type 0
EndsAt ts [] = ⊥
EndsAt ts (us ∷ found) = AreRenamed ts us ⊎ EndsAt ts found

ends-first : (ts : List Tree) (here there : List (List Tree)) → EndsAt ts here → EndsAt ts (here ++ there)
ends-first ts [] there h = absurd h
ends-first ts (us ∷ here) there (inl h) = inl h
ends-first ts (us ∷ here) there (inr h) = inr (ends-first ts here there h)

ends-later : (ts : List Tree) (here there : List (List Tree)) → EndsAt ts there → EndsAt ts (here ++ there)
ends-later ts [] there h = h
ends-later ts (us ∷ here) there h = inr (ends-later ts here there h)

-- two states of the relation that are alike to one goal
abbrev pub Together : (ℕ → ℕ) → ℕ → List ℕ → List ℕ → List Literal → List Literal → List Tree → List Tree → Type 0
Together arity predicates seen seen' literals literals' kept kept' = (goal : Goal) × Alike arity predicates seen literals kept goal × Alike arity predicates seen' literals' kept' goal

-- trees of variants of an atom have the same leaves
abbrev pub TreesMeet : (ℕ → ℕ) → ℕ → Trees → Trees → Type 0
TreesMeet arity predicates One Other =
    (line line' : ℕ) (atom atom' : Atom) (terms terms' : List Tree) (t t' : WholeTree) (found found' : List (List Tree))
    → Together arity predicates (goal_variables (only line atom) terms) (goal_variables (only line' atom') terms') (only line atom) (only line' atom') terms terms'
    → One (only line atom) terms t found → Other (only line' atom') terms' t' found' → AreFound found found'

-- an atom with a failed tree has no variant with a proof
abbrev pub Excludes : (ℕ → ℕ) → ℕ → Trees → Refutations → Type 0
Excludes arity predicates One OtherRefuted =
    (line line' : ℕ) (atom atom' : Atom) (t : WholeTree) (proof : Proof)
    → Together arity predicates (goal_variables (only line atom) []) (goal_variables (only line' atom') []) (only line atom) (only line' atom') [] []
    → One (only line atom) [] t [] → OtherRefuted (only line' atom') (proof ∷ []) → ⊥

-- what a whole tree says of a goal whose selected literal has this form
abbrev AtForm : Program → Trees → Refutations → WholeTree → Form → List ℕ → Picked Literal → List Tree → List (List Tree) → Type 0
AtForm program One Refuted (split branches) (Pos atom) seen picked terms found = AreWhole program One Refuted branches seen picked atom terms 1 found
AtForm program One Refuted (computed t) (Calc atom) seen picked terms found = GoesOn program One Refuted (IsWhole program One Refuted t) seen picked atom terms found
AtForm program One Refuted dead (Calc atom) seen picked terms found = ComputesNothing atom × (found ≡ [])
AtForm program One Refuted (lacking sub t) (Neg atom) seen picked terms found = Lacks program One Refuted (IsWhole program One Refuted t) seen picked atom terms sub found
AtForm program One Refuted (present proof) (Neg atom) seen picked terms found = IsTrue (is_ground_atom atom) × Refuted (only picked.chosen.line atom) (proof ∷ []) × (found ≡ [])
AtForm program One Refuted (gathered sub t) (Gather fold result value atom) seen picked terms found = Gathers program One Refuted (IsWhole program One Refuted t) seen picked fold result value atom terms sub found
AtForm program One Refuted (ungathered sub) (Gather fold result value atom) seen picked terms found = Misses program One Refuted picked.chosen.line fold result value atom sub × (found ≡ [])
AtForm program One Refuted t form seen picked terms found = ⊥

-- a whole tree's goal is empty, or has a selected literal
abbrev Stands : Program → Trees → Refutations → WholeTree → List ℕ → List Literal → List Tree → List (List Tree) → Type 0
Stands program One Refuted t seen goal terms found =
    ((goal ≡ []) × (found ≡ terms ∷ [])) ⊎ ((picked : Picked Literal) × (selected program.version goal ≡ Some picked) × AtForm program One Refuted t picked.chosen.form seen picked terms found)

stands : (program : Program) (One : Trees) (Refuted : Refutations) (t : WholeTree) (seen : List ℕ) (goal : List Literal) (terms : List Tree) (found : List (List Tree)) → IsWhole program One Refuted t seen goal terms found → Stands program One Refuted t seen goal terms found
stands program One Refuted t seen goal terms found is = by t is
  where
    Here : WholeTree → Type 0
    Here tree = Stands program One Refuted tree seen goal terms found

    by_picked : (tree : WholeTree) (P : Picked Literal → Type 0) → ((picked : Picked Literal) → P picked → AtForm program One Refuted tree picked.chosen.form seen picked terms found) → (o : Option (Picked Literal)) → selected program.version goal ≡ o → IsSomeAnd o P → Here tree
    by_picked tree P give None one step = absurd step
    by_picked tree P give (Some picked) one step = inr (picked, one, give picked step)

    of-atom : (picked : Picked Literal) (branches : WholeBranches) (form : Form) → OfAtom form (λ atom. AreWhole program One Refuted branches seen picked atom terms 1 found) → AtForm program One Refuted (split branches) form seen picked terms found
    of-atom picked branches (Pos atom) h = h
    of-atom picked branches form h = absurd h

    of-computed : (picked : Picked Literal) (sub : WholeTree) (form : Form) → OfComputed form (λ atom. GoesOn program One Refuted (IsWhole program One Refuted sub) seen picked atom terms found) → AtForm program One Refuted (computed sub) form seen picked terms found
    of-computed picked sub (Calc atom) h = h
    of-computed picked sub form h = absurd h

    of-dead : (picked : Picked Literal) (form : Form) → OfComputed form (λ atom. ComputesNothing atom × (found ≡ [])) → AtForm program One Refuted dead form seen picked terms found
    of-dead picked (Calc atom) h = h
    of-dead picked form h = absurd h

    of-lacking : (picked : Picked Literal) (sub rest : WholeTree) (form : Form) → OfNegation form (λ atom. Lacks program One Refuted (IsWhole program One Refuted rest) seen picked atom terms sub found) → AtForm program One Refuted (lacking sub rest) form seen picked terms found
    of-lacking picked sub rest (Neg atom) h = h
    of-lacking picked sub rest form h = absurd h

    of-present : (picked : Picked Literal) (proof : Proof) (form : Form) → OfNegation form (λ atom. IsTrue (is_ground_atom atom) × Refuted (only picked.chosen.line atom) (proof ∷ []) × (found ≡ [])) → AtForm program One Refuted (present proof) form seen picked terms found
    of-present picked proof (Neg atom) h = h
    of-present picked proof form h = absurd h

    of-gathered : (picked : Picked Literal) (sub rest : WholeTree) (form : Form) → OfGather form (λ fold result value atom. Gathers program One Refuted (IsWhole program One Refuted rest) seen picked fold result value atom terms sub found) → AtForm program One Refuted (gathered sub rest) form seen picked terms found
    of-gathered picked sub rest (Gather fold result value atom) h = h
    of-gathered picked sub rest form h = absurd h

    of-ungathered : (picked : Picked Literal) (sub : WholeTree) (form : Form) → OfGather form (λ fold result value atom. Misses program One Refuted picked.chosen.line fold result value atom sub × (found ≡ [])) → AtForm program One Refuted (ungathered sub) form seen picked terms found
    of-ungathered picked sub (Gather fold result value atom) h = h
    of-ungathered picked sub form h = absurd h

    by : (tree : WholeTree) → IsWhole program One Refuted tree seen goal terms found → Here tree
    by success is = inl is
    by (split branches) is = by_picked (split branches) (λ picked. OfAtom picked.chosen.form (λ atom. AreWhole program One Refuted branches seen picked atom terms 1 found)) (λ picked h. of-atom picked branches picked.chosen.form h) (selected program.version goal) refl is
    by (computed sub) is = by_picked (computed sub) (λ picked. OfComputed picked.chosen.form (λ atom. GoesOn program One Refuted (IsWhole program One Refuted sub) seen picked atom terms found)) (λ picked h. of-computed picked sub picked.chosen.form h) (selected program.version goal) refl is
    by dead is = by_picked dead (λ picked. OfComputed picked.chosen.form (λ atom. ComputesNothing atom × (found ≡ []))) (λ picked h. of-dead picked picked.chosen.form h) (selected program.version goal) refl is
    by (lacking sub rest) is = by_picked (lacking sub rest) (λ picked. OfNegation picked.chosen.form (λ atom. Lacks program One Refuted (IsWhole program One Refuted rest) seen picked atom terms sub found)) (λ picked h. of-lacking picked sub rest picked.chosen.form h) (selected program.version goal) refl is
    by (present proof) is = by_picked (present proof) (λ picked. OfNegation picked.chosen.form (λ atom. IsTrue (is_ground_atom atom) × Refuted (only picked.chosen.line atom) (proof ∷ []) × (found ≡ []))) (λ picked h. of-present picked proof picked.chosen.form h) (selected program.version goal) refl is
    by (gathered sub rest) is = by_picked (gathered sub rest) (λ picked. OfGather picked.chosen.form (λ fold result value atom. Gathers program One Refuted (IsWhole program One Refuted rest) seen picked fold result value atom terms sub found)) (λ picked h. of-gathered picked sub rest picked.chosen.form h) (selected program.version goal) refl is
    by (ungathered sub) is = by_picked (ungathered sub) (λ picked. OfGather picked.chosen.form (λ fold result value atom. Misses program One Refuted picked.chosen.line fold result value atom sub × (found ≡ []))) (λ picked h. of-ungathered picked sub picked.chosen.form h) (selected program.version goal) refl is

-- forms that are the same under substitutions are of one kind
pos-too : (to other : ℕ → Tree) (atom : Atom) (form : Form) → Pos (atom_under to atom) ≡ form_under other form → (atom' : Atom) × (form ≡ Pos atom') × (atom_under to atom ≡ atom_under other atom')
pos-too to other atom (Pos atom') same = (atom', refl, cc same)
pos-too to other atom (Neg atom') same = absurd (cc same)
pos-too to other atom (Calc atom') same = absurd (cc same)
pos-too to other atom (Gather fold' result' value' atom') same = absurd (cc same)

neg-too : (to other : ℕ → Tree) (atom : Atom) (form : Form) → Neg (atom_under to atom) ≡ form_under other form → (atom' : Atom) × (form ≡ Neg atom') × (atom_under to atom ≡ atom_under other atom')
neg-too to other atom (Neg atom') same = (atom', refl, cc same)
neg-too to other atom (Pos atom') same = absurd (cc same)
neg-too to other atom (Calc atom') same = absurd (cc same)
neg-too to other atom (Gather fold' result' value' atom') same = absurd (cc same)

calc-too : (to other : ℕ → Tree) (atom : Atom) (form : Form) → Calc (atom_under to atom) ≡ form_under other form → (atom' : Atom) × (form ≡ Calc atom') × (atom_under to atom ≡ atom_under other atom')
calc-too to other atom (Calc atom') same = (atom', refl, cc same)
calc-too to other atom (Pos atom') same = absurd (cc same)
calc-too to other atom (Neg atom') same = absurd (cc same)
calc-too to other atom (Gather fold' result' value' atom') same = absurd (cc same)

-- a gather that is the same as another one under substitutions
record GatherToo (to other : ℕ → Tree) (fold : FoldKind) (result value : Tree) (atom : Atom) (form : Form) : Type 0 where
  fold' : FoldKind
  result' : Tree
  value' : Tree
  atom' : Atom
  is : form ≡ Gather fold' result' value' atom'
  folds : fold ≡ fold'
  results_ : replaced to result ≡ replaced other result'
  values : replaced to value ≡ replaced other value'
  atoms : atom_under to atom ≡ atom_under other atom'

gather-too : (to other : ℕ → Tree) (fold : FoldKind) (result value : Tree) (atom : Atom) (form : Form) → Gather fold (replaced to result) (replaced to value) (atom_under to atom) ≡ form_under other form → GatherToo to other fold result value atom form
gather-too to other fold result value atom (Gather fold' result' value' atom') same = record {
  fold' = fold';
  result' = result';
  value' = value';
  atom' = atom';
  is = refl;
  folds = cc same;
  results_ = cc same;
  values = cc same;
  atoms = cc same;
}
gather-too to other fold result value atom (Pos atom') same = absurd (cc same)
gather-too to other fold result value atom (Neg atom') same = absurd (cc same)
gather-too to other fold result value atom (Calc atom') same = absurd (cc same)

module _ (program : Program) (arity : ℕ → ℕ) (predicates : ℕ) (valid : AllByRecursion (IsProgramClause arity predicates) program.clauses) where
  -- one state
  module _ (seen : List ℕ) (literals : List Literal) (kept : List Tree) (goal : Goal) (alike : Alike arity predicates seen literals kept goal) (picked : Picked Literal) (parts : literals ≡ picked.before ++ picked.chosen ∷ picked.behind) where
    abbrev Ties : ℕ → Type 0
    Ties = Tied seen alike.to alike.back goal.next

    computes-same : (atom : Atom) → picked.chosen.form ≡ Calc atom → compute atom.pred (terms_under alike.to atom.args) ≡ compute atom.pred atom.args
    computes-same atom form = compute-same alike.to alike.back atom.pred atom.args (tied-rounds seen alike.to alike.back goal.next atom.args (form-tied arity predicates seen literals kept goal alike picked parts (Calc atom) form))

    -- a computed literal that holds
    goes : (line : ℕ) (atom : Atom) → picked.chosen.form ≡ Calc atom → (unifier : Bindings) → Computes atom unifier → (other : Bindings) × (computing line (atom_under alike.to atom) ≡ goes_on other) × Past arity predicates seen literals kept goal alike picked parts unifier other
    goes line atom form unifier computes =
        let past : (other : Bindings) × (by_answer line (terms_under alike.to atom.args) (compute atom.pred atom.args) ≡ goes_on other) × Past arity predicates seen literals kept goal alike picked parts unifier other =
        past-computed arity predicates seen literals kept goal alike picked parts line atom.args (form-tied arity predicates seen literals kept goal alike picked parts (Calc atom) form) unifier (compute atom.pred atom.args) (results atom.pred atom.args) computes in
        (past.0, ap (by_answer line (terms_under alike.to atom.args)) (computes-same atom form) ∙ past.1, past.2)

    -- and one that doesn't
    stops : (line : ℕ) (atom : Atom) → picked.chosen.form ≡ Calc atom → ComputesNothing atom → computing line (atom_under alike.to atom) ≡ fails
    stops line atom form nothing =
        ap (by_answer line (terms_under alike.to atom.args)) (computes-same atom form)
        ∙ never-computed arity predicates seen literals kept goal alike picked parts line atom.args (compute atom.pred atom.args) (results atom.pred atom.args) nothing

    -- a gather whose result fits
    fits : (line : ℕ) (fold : FoldKind) (result value : Tree) (atom : Atom) → picked.chosen.form ≡ Gather fold result value atom → (unifier : Bindings) (answer : FoldAnswer) → FitsBy result unifier answer
        → (other : Bindings) × (by_fold line (replaced alike.to result) answer ≡ goes_on other) × Past arity predicates seen literals kept goal alike picked parts unifier other
    fits line fold result value atom form unifier answer fit =
        past-folded arity predicates seen literals kept goal alike picked parts line result
        (all-left Ties (occurrences result) (all_occurrences (value ∷ atom.args)) (form-tied arity predicates seen literals kept goal alike picked parts (Gather fold result value atom) form)) unifier answer fit

    -- the state of the search of a negation's atom, and of a gather's
    below-negation : (atom : Atom) → picked.chosen.form ≡ Neg atom → Alike arity predicates (goal_variables (only picked.chosen.line atom) []) (only picked.chosen.line atom) [] (sub_goal goal picked.chosen.line (atom_under alike.to atom) [])
    below-negation atom form =
        sub-alike arity predicates seen alike.to alike.back goal picked.chosen.line atom [] (form-tied arity predicates seen literals kept goal alike picked parts (Neg atom) form) tt (form-right arity predicates seen literals kept goal alike picked parts (Neg atom) form)

    below-gather : (fold : FoldKind) (result value : Tree) (atom : Atom) → picked.chosen.form ≡ Gather fold result value atom
        → Alike arity predicates (goal_variables (only picked.chosen.line atom) (value ∷ [])) (only picked.chosen.line atom) (value ∷ []) (sub_goal goal picked.chosen.line (atom_under alike.to atom) (replaced alike.to value ∷ []))
    below-gather fold result value atom form =
        let tied : AllByRecursion Ties (all_occurrences (result ∷ value ∷ atom.args)) = form-tied arity predicates seen literals kept goal alike picked parts (Gather fold result value atom) form in
        let rest : AllByRecursion Ties (all_occurrences (value ∷ atom.args)) = all-right Ties (occurrences result) (all_occurrences (value ∷ atom.args)) tied in
        sub-alike arity predicates seen alike.to alike.back goal picked.chosen.line atom (value ∷ []) (all-right Ties (occurrences value) (all_occurrences atom.args) rest)
        (all-both Ties (occurrences value) [] (all-left Ties (occurrences value) (all_occurrences atom.args) rest) tt) (form-right arity predicates seen literals kept goal alike picked parts (Gather fold result value atom) form)

  -- two states that are alike to one goal, and their selected literals
  module _ (seen seen' : List ℕ) (literals literals' : List Literal) (kept kept' : List Tree) (goal : Goal) (alike : Alike arity predicates seen literals kept goal) (alike' : Alike arity predicates seen' literals' kept' goal)
      (picked picked' : Picked Literal) (one : selected program.version literals ≡ Some picked) (one' : selected program.version literals' ≡ Some picked') where
    parts : literals ≡ picked.before ++ picked.chosen ∷ picked.behind
    parts = (pick-means (is_delayed program.version) literals picked one).all

    parts' : literals' ≡ picked'.before ++ picked'.chosen ∷ picked'.behind
    parts' = (pick-means (is_delayed program.version) literals' picked' one').all

    abbrev chosen : Picked Literal
    chosen = picked_map (literal_under alike.to) picked

    abbrev chosen' : Picked Literal
    chosen' = picked_map (literal_under alike'.to) picked'

    chosen-same : chosen ≡ chosen'
    chosen-same =
        let same : Some chosen ≡ Some chosen' = sym (selected-same arity predicates program.version seen literals kept goal alike picked one) ∙ selected-same arity predicates program.version seen' literals' kept' goal alike' picked' one' in
        cc same

    forms : (form : Form) → picked.chosen.form ≡ form → form_under alike.to form ≡ form_under alike'.to picked'.chosen.form
    forms form is = ap (form_under alike.to) (sym is) ∙ ap (λ (p : Picked Literal). p.chosen.form) chosen-same

    -- a head that unifies with the one's atom unifies with the other's
    unifies-across : (atom atom' : Atom) → picked.chosen.form ≡ Pos atom → atom_under alike.to atom ≡ atom_under alike'.to atom' → (number : ℕ) (clause : Clause) (names : ℕ → ℕ) (unifier : Bindings) → IsProgramClause arity predicates clause
        → Resolves program seen atom number clause names unifier → HeadUnifies clause atom'
    unifies-across atom atom' form same number clause names unifier is step =
        let there : HeadUnifies clause (atom_under alike'.to atom') = subst (HeadUnifies clause) same (unifies-too arity predicates seen literals kept goal alike picked parts program atom form number clause names unifier is step) in
        (there.0, there.1, after_by alike'.to there.2, there.3 ∙ terms-terms alike'.to there.2 atom'.args)

    -- the states after steps by one clause
    after-clause : (atom atom' : Atom) → picked.chosen.form ≡ Pos atom → picked'.chosen.form ≡ Pos atom' → atom_under alike.to atom ≡ atom_under alike'.to atom' → (number : ℕ) (clause : Clause) → IsProgramClause arity predicates clause
        → (names names' : ℕ → ℕ) (unifier unifier' : Bindings) → Resolves program seen atom number clause names unifier → Resolves program seen' atom' number clause names' unifier'
        → Together arity predicates (seen_by seen clause names unifier) (seen_by seen' clause names' unifier') (literals_under (value_at unifier) (put_in_place picked (literals_under (named names) clause.body)))
        (literals_under (value_at unifier') (put_in_place picked' (literals_under (named names') clause.body))) (terms_under (value_at unifier) kept) (terms_under (value_at unifier') kept')
    after-clause atom atom' form form' same number clause is names names' unifier unifier' step step' =
        let solution : (other : Bindings) × (head_solution goal.next clause (atom_under alike.to atom) ≡ Some other) =
        has-solution goal.next clause (atom_under alike.to atom) (tied-low seen alike.to alike.back goal.next atom.args (form-tied arity predicates seen literals kept goal alike picked parts (Pos atom) form))
        (unifies-too arity predicates seen literals kept goal alike picked parts program atom form number clause names unifier is step) in
        let other : Bindings = solution.0 in
        let at : Picked Literal → Goal = λ p. let g : Goal = record { next = goal.next + clause.vars; literals = literals_under (value_at other) (put_in_place p (literals_under (raised goal.next) clause.body)); terms = terms_under (value_at other) goal.terms } in g in
        let after : Alike arity predicates (seen_by seen clause names unifier) (literals_under (value_at unifier) (put_in_place picked (literals_under (named names) clause.body))) (terms_under (value_at unifier) kept) (at chosen) =
        forget arity predicates (seen_by seen clause names unifier) (literals_under (value_at unifier) (put_in_place picked (literals_under (named names) clause.body))) (goal.next + clause.vars) (literals_under (value_at other) (put_in_place chosen (literals_under (raised goal.next) clause.body)))
        (value_at unifier) (value_at other) (form_terms picked.chosen.form) (terms_under alike.to (form_terms picked.chosen.form)) kept goal.terms (length-map (form_terms picked.chosen.form) (replaced alike.to))
        (clause-step arity predicates seen literals kept goal alike picked parts program atom form number clause names unifier is step other solution.1) in
        let after' : Alike arity predicates (seen_by seen' clause names' unifier') (literals_under (value_at unifier') (put_in_place picked' (literals_under (named names') clause.body))) (terms_under (value_at unifier') kept') (at chosen') =
        forget arity predicates (seen_by seen' clause names' unifier') (literals_under (value_at unifier') (put_in_place picked' (literals_under (named names') clause.body))) (goal.next + clause.vars) (literals_under (value_at other) (put_in_place chosen' (literals_under (raised goal.next) clause.body)))
        (value_at unifier') (value_at other) (form_terms picked'.chosen.form) (terms_under alike'.to (form_terms picked'.chosen.form)) kept' goal.terms (length-map (form_terms picked'.chosen.form) (replaced alike'.to))
        (clause-step arity predicates seen' literals' kept' goal alike' picked' parts' program atom' form' number clause names' unifier' is step' other (ap (head_solution goal.next clause) (sym same) ∙ solution.1)) in
        (at chosen, after, subst (λ p. Alike arity predicates (seen_by seen' clause names' unifier') (literals_under (value_at unifier') (put_in_place picked' (literals_under (named names') clause.body))) (terms_under (value_at unifier') kept') (at p)) (sym chosen-same) after')

    -- the states past the selected literals, with unifiers and without
    after-past : (unifier unifier' other other' : Bindings) → other ≡ other' → Past arity predicates seen literals kept goal alike picked parts unifier other → Past arity predicates seen' literals' kept' goal alike' picked' parts' unifier' other'
        → Together arity predicates (map_variables unifier ++ seen) (map_variables unifier' ++ seen') (literals_under (value_at unifier) (rest_of picked)) (literals_under (value_at unifier') (rest_of picked')) (terms_under (value_at unifier) kept) (terms_under (value_at unifier') kept')
    after-past unifier unifier' other other' same past past' =
        let at : Picked Literal → Bindings → Goal = λ p bindings. let g : Goal = record { next = goal.next; literals = literals_under (value_at bindings) (put_in_place p []); terms = terms_under (value_at bindings) goal.terms } in g in
        let after : Alike arity predicates (map_variables unifier ++ seen) (literals_under (value_at unifier) (rest_of picked)) (terms_under (value_at unifier) kept) (at chosen other) =
        forget arity predicates (map_variables unifier ++ seen) (literals_under (value_at unifier) (rest_of picked)) goal.next (literals_under (value_at other) (rest_of chosen)) (value_at unifier) (value_at other) (form_terms picked.chosen.form) (terms_under alike.to (form_terms picked.chosen.form)) kept goal.terms
        (length-map (form_terms picked.chosen.form) (replaced alike.to)) (past-step arity predicates seen literals kept goal alike picked parts unifier other past) in
        let after' : Alike arity predicates (map_variables unifier' ++ seen') (literals_under (value_at unifier') (rest_of picked')) (terms_under (value_at unifier') kept') (at chosen' other') =
        forget arity predicates (map_variables unifier' ++ seen') (literals_under (value_at unifier') (rest_of picked')) goal.next (literals_under (value_at other') (rest_of chosen')) (value_at unifier') (value_at other') (form_terms picked'.chosen.form) (terms_under alike'.to (form_terms picked'.chosen.form)) kept' goal.terms
        (length-map (form_terms picked'.chosen.form) (replaced alike'.to)) (past-step arity predicates seen' literals' kept' goal alike' picked' parts' unifier' other' past') in
        let Then : Goal → Type 0 = λ g. Alike arity predicates (map_variables unifier' ++ seen') (literals_under (value_at unifier') (rest_of picked')) (terms_under (value_at unifier') kept') g in
        (at chosen other, after, subst (λ bindings. Then (at chosen bindings)) (sym same) (subst (λ p. Then (at p other')) (sym chosen-same) after'))

    after-dropped : Together arity predicates seen seen' (rest_of picked) (rest_of picked') kept kept'
    after-dropped =
        let at : Picked Literal → Goal = λ p. let g : Goal = record { next = goal.next; literals = put_in_place p []; terms = goal.terms } in g in
        (at chosen, dropped-only arity predicates seen literals kept goal alike picked parts, subst (λ p. Alike arity predicates seen' (rest_of picked') kept' (at p)) (sym chosen-same) (dropped-only arity predicates seen' literals' kept' goal alike' picked' parts'))

    -- computed literals give the same
    computing-same : (atom atom' : Atom) → atom_under alike.to atom ≡ atom_under alike'.to atom' → computing picked.chosen.line (atom_under alike.to atom) ≡ computing picked'.chosen.line (atom_under alike'.to atom')
    computing-same atom atom' same = ap (λ (p : Picked Literal). computing p.chosen.line (atom_under alike.to atom)) chosen-same ∙ ap (computing picked'.chosen.line) same

    after-computed : (atom atom' : Atom) → picked.chosen.form ≡ Calc atom → picked'.chosen.form ≡ Calc atom' → atom_under alike.to atom ≡ atom_under alike'.to atom' → (unifier unifier' : Bindings) → Computes atom unifier → Computes atom' unifier'
        → Together arity predicates (map_variables unifier ++ seen) (map_variables unifier' ++ seen') (literals_under (value_at unifier) (rest_of picked)) (literals_under (value_at unifier') (rest_of picked')) (terms_under (value_at unifier) kept) (terms_under (value_at unifier') kept')
    after-computed atom atom' form form' same unifier unifier' computes computes' =
        let first : (other : Bindings) × (computing picked.chosen.line (atom_under alike.to atom) ≡ goes_on other) × Past arity predicates seen literals kept goal alike picked parts unifier other = goes seen literals kept goal alike picked parts picked.chosen.line atom form unifier computes in
        let second : (other : Bindings) × (computing picked'.chosen.line (atom_under alike'.to atom') ≡ goes_on other) × Past arity predicates seen' literals' kept' goal alike' picked' parts' unifier' other =
        goes seen' literals' kept' goal alike' picked' parts' picked'.chosen.line atom' form' unifier' computes' in
        let both : goes_on first.0 ≡ goes_on second.0 = sym first.1 ∙ (computing-same atom atom' same ∙ second.1) in
        after-past unifier unifier' first.0 second.0 (cc both) first.2 second.2

    -- one of them can't hold where the other doesn't
    computed-once : (atom atom' : Atom) → picked.chosen.form ≡ Calc atom → picked'.chosen.form ≡ Calc atom' → atom_under alike.to atom ≡ atom_under alike'.to atom' → (unifier : Bindings) → Computes atom unifier → ComputesNothing atom' → ⊥
    computed-once atom atom' form form' same unifier computes nothing =
        let first : (other : Bindings) × (computing picked.chosen.line (atom_under alike.to atom) ≡ goes_on other) × Past arity predicates seen literals kept goal alike picked parts unifier other = goes seen literals kept goal alike picked parts picked.chosen.line atom form unifier computes in
        let both : goes_on first.0 ≡ fails = sym first.1 ∙ (computing-same atom atom' same ∙ stops seen' literals' kept' goal alike' picked' parts' picked'.chosen.line atom' form' nothing) in
        absurd (cc both)

    -- the states of the searches of negations' atoms
    negations : (atom atom' : Atom) → picked.chosen.form ≡ Neg atom → picked'.chosen.form ≡ Neg atom' → atom_under alike.to atom ≡ atom_under alike'.to atom'
        → Together arity predicates (goal_variables (only picked.chosen.line atom) []) (goal_variables (only picked'.chosen.line atom') []) (only picked.chosen.line atom) (only picked'.chosen.line atom') [] []
    negations atom atom' form form' same = (
      sub_goal goal picked.chosen.line (atom_under alike.to atom) [],
      below-negation seen literals kept goal alike picked parts atom form,
      subst (λ g. Alike arity predicates (goal_variables (only picked'.chosen.line atom') []) (only picked'.chosen.line atom') [] g)
          (sym (ap (λ (p : Picked Literal). sub_goal goal p.chosen.line (atom_under alike.to atom) []) chosen-same ∙ ap (λ a. sub_goal goal picked'.chosen.line a []) same))
          (below-negation seen' literals' kept' goal alike' picked' parts' atom' form'),
    )

    -- gathers
    module _ (fold : FoldKind) (result value : Tree) (atom : Atom) (form : picked.chosen.form ≡ Gather fold result value atom) (too : GatherToo alike.to alike'.to fold result value atom picked'.chosen.form) where
      gathers : Together arity predicates (goal_variables (only picked.chosen.line atom) (value ∷ [])) (goal_variables (only picked'.chosen.line too.atom') (too.value' ∷ [])) (only picked.chosen.line atom) (only picked'.chosen.line too.atom') (value ∷ []) (too.value' ∷ [])
      gathers = (
        sub_goal goal picked.chosen.line (atom_under alike.to atom) (replaced alike.to value ∷ []),
        below-gather seen literals kept goal alike picked parts fold result value atom form,
        subst (λ g. Alike arity predicates (goal_variables (only picked'.chosen.line too.atom') (too.value' ∷ [])) (only picked'.chosen.line too.atom') (too.value' ∷ []) g)
            (sym (ap (λ (p : Picked Literal). sub_goal goal p.chosen.line (atom_under alike.to atom) (replaced alike.to value ∷ [])) chosen-same
            ∙ (ap (λ a. sub_goal goal picked'.chosen.line a (replaced alike.to value ∷ [])) too.atoms ∙ ap (λ t. sub_goal goal picked'.chosen.line (atom_under alike'.to too.atom') (t ∷ [])) too.values)))
            (below-gather seen' literals' kept' goal alike' picked' parts' too.fold' too.result' too.value' too.atom' too.is),
      )

      module _ (cases cases' : List (List Tree)) (are : AreFound cases cases') where
        folding-same : by_fold picked.chosen.line (replaced alike.to result) (fold_of fold (values_at cases)) ≡ by_fold picked'.chosen.line (replaced alike'.to too.result') (fold_of too.fold' (values_at cases'))
        folding-same =
            ap (λ (p : Picked Literal). by_fold p.chosen.line (replaced alike.to result) (fold_of fold (values_at cases))) chosen-same
            ∙ (ap (λ t. by_fold picked'.chosen.line t (fold_of fold (values_at cases))) too.results_
            ∙ (ap (by_fold picked'.chosen.line (replaced alike'.to too.result')) (sym (fold-same fold (values_at cases) (values_at cases') (found-values cases cases' are)))
            ∙ ap (λ f. by_fold picked'.chosen.line (replaced alike'.to too.result') (fold_of f (values_at cases'))) too.folds))

        after-gathered : (unifier unifier' : Bindings) → FitsBy result unifier (fold_of fold (values_at cases)) → FitsBy too.result' unifier' (fold_of too.fold' (values_at cases'))
            → Together arity predicates (map_variables unifier ++ seen) (map_variables unifier' ++ seen') (literals_under (value_at unifier) (rest_of picked)) (literals_under (value_at unifier') (rest_of picked')) (terms_under (value_at unifier) kept) (terms_under (value_at unifier') kept')
        after-gathered unifier unifier' fit fit' =
            let first : (other : Bindings) × (by_fold picked.chosen.line (replaced alike.to result) (fold_of fold (values_at cases)) ≡ goes_on other) × Past arity predicates seen literals kept goal alike picked parts unifier other =
            fits seen literals kept goal alike picked parts picked.chosen.line fold result value atom form unifier (fold_of fold (values_at cases)) fit in
            let second : (other : Bindings) × (by_fold picked'.chosen.line (replaced alike'.to too.result') (fold_of too.fold' (values_at cases')) ≡ goes_on other) × Past arity predicates seen' literals' kept' goal alike' picked' parts' unifier' other =
            fits seen' literals' kept' goal alike' picked' parts' picked'.chosen.line too.fold' too.result' too.value' too.atom' too.is unifier' (fold_of too.fold' (values_at cases')) fit' in
            let both : goes_on first.0 ≡ goes_on second.0 = sym first.1 ∙ (folding-same ∙ second.1) in
            after-past unifier unifier' first.0 second.0 (cc both) first.2 second.2

        -- the result can't fit where the other doesn't
        gathered-once : (unifier : Bindings) → FitsBy result unifier (fold_of fold (values_at cases)) → MissesBy too.result' (fold_of too.fold' (values_at cases')) → ⊥
        gathered-once unifier fit miss =
            let first : (other : Bindings) × (by_fold picked.chosen.line (replaced alike.to result) (fold_of fold (values_at cases)) ≡ goes_on other) × Past arity predicates seen literals kept goal alike picked parts unifier other =
            fits seen literals kept goal alike picked parts picked.chosen.line fold result value atom form unifier (fold_of fold (values_at cases)) fit in
            let both : goes_on first.0 ≡ fails = sym first.1 ∙ (folding-same ∙ never-folded arity predicates seen' literals' kept' goal alike' picked' parts' picked'.chosen.line too.result' (fold_of too.fold' (values_at cases')) miss) in
            absurd (cc both)

        missed-once : (unifier : Bindings) → MissesBy result (fold_of fold (values_at cases)) → FitsBy too.result' unifier (fold_of too.fold' (values_at cases')) → ⊥
        missed-once unifier miss fit =
            let second : (other : Bindings) × (by_fold picked'.chosen.line (replaced alike'.to too.result') (fold_of too.fold' (values_at cases')) ≡ goes_on other) × Past arity predicates seen' literals' kept' goal alike' picked' parts' unifier other =
            fits seen' literals' kept' goal alike' picked' parts' picked'.chosen.line too.fold' too.result' too.value' too.atom' too.is unifier (fold_of too.fold' (values_at cases')) fit in
            let both : goes_on second.0 ≡ fails = sym second.1 ∙ (sym folding-same ∙ never-folded arity predicates seen literals kept goal alike picked parts picked.chosen.line result (fold_of fold (values_at cases)) miss) in
            absurd (cc both)

  -- trees and refutations of two ranks, where those of the ranks below agree
  module _ (One Other : Trees) (OneRefuted OtherRefuted : Refutations) (meet : TreesMeet arity predicates One Other) (one-excludes : Excludes arity predicates One OtherRefuted) (other-excludes : Excludes arity predicates Other OneRefuted) where
    -- whole trees of states that are alike have the same leaves
    abbrev Meets : WholeTree → Type 0
    Meets t = (t' : WholeTree) (seen seen' : List ℕ) (literals literals' : List Literal) (kept kept' : List Tree) (found found' : List (List Tree)) → Together arity predicates seen seen' literals literals' kept kept'
        → IsWhole program One OneRefuted t seen literals kept found → IsWhole program Other OtherRefuted t' seen' literals' kept' found' → AreFound found found'

    -- those with a selected literal
    abbrev StepsMeet : WholeTree → Type 0
    StepsMeet t = (t' : WholeTree) (seen seen' : List ℕ) (literals literals' : List Literal) (kept kept' : List Tree) (goal : Goal) (alike : Alike arity predicates seen literals kept goal) (alike' : Alike arity predicates seen' literals' kept' goal)
        (picked picked' : Picked Literal) → selected program.version literals ≡ Some picked → selected program.version literals' ≡ Some picked' → (found found' : List (List Tree))
        → AtForm program One OneRefuted t picked.chosen.form seen picked kept found → AtForm program Other OtherRefuted t' picked'.chosen.form seen' picked' kept' found' → AreFound found found'

    -- an empty goal has no selected literal
    none-selected : (seen seen' : List ℕ) (literals literals' : List Literal) (kept kept' : List Tree) (goal : Goal) → Alike arity predicates seen literals kept goal → Alike arity predicates seen' literals' kept' goal
        → literals ≡ [] → (picked' : Picked Literal) → selected program.version literals' ≡ Some picked' → ⊥
    none-selected seen seen' literals literals' kept kept' goal alike alike' empty picked' one' =
        let none : goal.literals ≡ [] = alike.same ∙ ap (literals_under alike.to) empty in
        let some : selected program.version [] ≡ Some (picked_map (literal_under alike'.to) picked') = ap (selected program.version) (sym none) ∙ selected-same arity predicates program.version seen' literals' kept' goal alike' picked' one' in
        absurd (cc some)

    -- what two states keep is the same but for the names of variables
    kept-renamed : (seen seen' : List ℕ) (literals literals' : List Literal) (kept kept' : List Tree) (goal : Goal) → Alike arity predicates seen literals kept goal → Alike arity predicates seen' literals' kept' goal → AreRenamed kept kept'
    kept-renamed seen seen' literals literals' kept kept' goal alike alike' =
        let one : terms_under alike.back goal.terms ≡ kept = ap (terms_under alike.back) alike.same_kept ∙ rounds alike.to alike.back kept (tied-rounds seen alike.to alike.back goal.next kept alike.tied_kept) in
        let other : terms_under alike'.back goal.terms ≡ kept' = ap (terms_under alike'.back) alike'.same_kept ∙ rounds alike'.to alike'.back kept' (tied-rounds seen' alike'.to alike'.back goal.next kept' alike'.tied_kept) in (
          after_by alike.to alike'.back,
          after_by alike'.to alike.back,
          sym other ∙ (ap (terms_under alike'.back) alike.same_kept ∙ terms-terms alike.to alike'.back kept),
          sym (terms-terms alike'.to alike.back kept') ∙ (ap (terms_under alike.back) (sym alike'.same_kept) ∙ one),
        )

    meets-by : (t : WholeTree) → StepsMeet t → Meets t
    meets-by t step t' seen seen' literals literals' kept kept' found found' together is is' =
        by (stands program One OneRefuted t seen literals kept found is) (stands program Other OtherRefuted t' seen' literals' kept' found' is')
      where
        by : Stands program One OneRefuted t seen literals kept found → Stands program Other OtherRefuted t' seen' literals' kept' found' → AreFound found found'
        by (inl here) (inl there) = subst (λ f. AreFound f found') (sym here.1) (subst (AreFound (kept ∷ [])) (sym there.1) (kept-renamed seen seen' literals literals' kept kept' together.0 together.1 together.2, tt))
        by (inl here) (inr there) = absurd (none-selected seen seen' literals literals' kept kept' together.0 together.1 together.2 here.0 there.0 there.1)
        by (inr here) (inl there) = absurd (none-selected seen' seen literals' literals kept' kept together.0 together.2 together.1 there.0 here.0 here.1)
        by (inr here) (inr there) = step t' seen seen' literals literals' kept kept' together.0 together.1 together.2 here.0 there.0 here.1 there.1 found found' here.2 there.2

    success-meets : StepsMeet success
    success-meets t' seen seen' literals literals' kept kept' goal alike alike' picked picked' one one' found found' here there = by picked.chosen.form here
      where
        by : (form : Form) → AtForm program One OneRefuted success form seen picked kept found → AreFound found found'
        by form h = absurd h

    computed-meets : (sub : WholeTree) → Meets sub → StepsMeet (computed sub)
    computed-meets sub onward t' seen seen' literals literals' kept kept' goal alike alike' picked picked' one one' found found' here there = by picked.chosen.form refl here
      where
        by_tree : (atom atom' : Atom) → picked.chosen.form ≡ Calc atom → picked'.chosen.form ≡ Calc atom' → atom_under alike.to atom ≡ atom_under alike'.to atom' → AtForm program One OneRefuted (computed sub) (Calc atom) seen picked kept found
            → (tree : WholeTree) → AtForm program Other OtherRefuted tree (Calc atom') seen' picked' kept' found' → AreFound found found'
        by_tree atom atom' form form' same h (computed sub') h' =
            onward sub' (map_variables h.unifier ++ seen) (map_variables h'.unifier ++ seen') (literals_under (value_at h.unifier) (rest_of picked)) (literals_under (value_at h'.unifier) (rest_of picked')) (terms_under (value_at h.unifier) kept) (terms_under (value_at h'.unifier) kept') found found'
            (after-computed seen seen' literals literals' kept kept' goal alike alike' picked picked' one one' atom atom' form form' same h.unifier h'.unifier h.computes h'.computes) h.rest h'.rest
        by_tree atom atom' form form' same h dead h' = absurd (computed-once seen seen' literals literals' kept kept' goal alike alike' picked picked' one one' atom atom' form form' same h.unifier h.computes h'.0)
        by_tree atom atom' form form' same h tree h' = absurd h'

        by : (form : Form) → picked.chosen.form ≡ form → AtForm program One OneRefuted (computed sub) form seen picked kept found → AreFound found found'
        by (Calc atom) form h =
            let too : (atom' : Atom) × (picked'.chosen.form ≡ Calc atom') × (atom_under alike.to atom ≡ atom_under alike'.to atom') =
            calc-too alike.to alike'.to atom picked'.chosen.form (forms seen seen' literals literals' kept kept' goal alike alike' picked picked' one one' (Calc atom) form) in
            by_tree atom too.0 form too.1 too.2 h t' (subst (λ f. AtForm program Other OtherRefuted t' f seen' picked' kept' found') too.1 there)
        by form is h = absurd h

    dead-meets : StepsMeet dead
    dead-meets t' seen seen' literals literals' kept kept' goal alike alike' picked picked' one one' found found' here there = by picked.chosen.form refl here
      where
        by_tree : (atom atom' : Atom) → picked.chosen.form ≡ Calc atom → picked'.chosen.form ≡ Calc atom' → atom_under alike.to atom ≡ atom_under alike'.to atom' → AtForm program One OneRefuted dead (Calc atom) seen picked kept found
            → (tree : WholeTree) → AtForm program Other OtherRefuted tree (Calc atom') seen' picked' kept' found' → AreFound found found'
        by_tree atom atom' form form' same h (computed sub') h' = absurd (computed-once seen' seen literals' literals kept' kept goal alike' alike picked' picked one' one atom' atom form' form (sym same) h'.unifier h'.computes h.0)
        by_tree atom atom' form form' same h dead h' = found-none found found' h.1 h'.1
        by_tree atom atom' form form' same h tree h' = absurd h'

        by : (form : Form) → picked.chosen.form ≡ form → AtForm program One OneRefuted dead form seen picked kept found → AreFound found found'
        by (Calc atom) form h =
            let too : (atom' : Atom) × (picked'.chosen.form ≡ Calc atom') × (atom_under alike.to atom ≡ atom_under alike'.to atom') =
            calc-too alike.to alike'.to atom picked'.chosen.form (forms seen seen' literals literals' kept kept' goal alike alike' picked picked' one one' (Calc atom) form) in
            by_tree atom too.0 form too.1 too.2 h t' (subst (λ f. AtForm program Other OtherRefuted t' f seen' picked' kept' found') too.1 there)
        by form is h = absurd h

    lacking-meets : (sub rest : WholeTree) → Meets rest → StepsMeet (lacking sub rest)
    lacking-meets sub rest onward t' seen seen' literals literals' kept kept' goal alike alike' picked picked' one one' found found' here there = by picked.chosen.form refl here
      where
        by_tree : (atom atom' : Atom) → picked.chosen.form ≡ Neg atom → picked'.chosen.form ≡ Neg atom' → atom_under alike.to atom ≡ atom_under alike'.to atom' → AtForm program One OneRefuted (lacking sub rest) (Neg atom) seen picked kept found
            → (tree : WholeTree) → AtForm program Other OtherRefuted tree (Neg atom') seen' picked' kept' found' → AreFound found found'
        by_tree atom atom' form form' same h (lacking sub' rest') h' =
            onward rest' seen seen' (rest_of picked) (rest_of picked') kept kept' found found' (after-dropped seen seen' literals literals' kept kept' goal alike alike' picked picked' one one') h.rest h'.rest
        by_tree atom atom' form form' same h (present proof) h' =
            absurd (one-excludes picked.chosen.line picked'.chosen.line atom atom' sub proof (negations seen seen' literals literals' kept kept' goal alike alike' picked picked' one one' atom atom' form form' same) h.fails h'.1)
        by_tree atom atom' form form' same h tree h' = absurd h'

        by : (form : Form) → picked.chosen.form ≡ form → AtForm program One OneRefuted (lacking sub rest) form seen picked kept found → AreFound found found'
        by (Neg atom) form h =
            let too : (atom' : Atom) × (picked'.chosen.form ≡ Neg atom') × (atom_under alike.to atom ≡ atom_under alike'.to atom') =
            neg-too alike.to alike'.to atom picked'.chosen.form (forms seen seen' literals literals' kept kept' goal alike alike' picked picked' one one' (Neg atom) form) in
            by_tree atom too.0 form too.1 too.2 h t' (subst (λ f. AtForm program Other OtherRefuted t' f seen' picked' kept' found') too.1 there)
        by form is h = absurd h

    present-meets : (proof : Proof) → StepsMeet (present proof)
    present-meets proof t' seen seen' literals literals' kept kept' goal alike alike' picked picked' one one' found found' here there = by picked.chosen.form refl here
      where
        by_tree : (atom atom' : Atom) → picked.chosen.form ≡ Neg atom → picked'.chosen.form ≡ Neg atom' → atom_under alike.to atom ≡ atom_under alike'.to atom' → AtForm program One OneRefuted (present proof) (Neg atom) seen picked kept found
            → (tree : WholeTree) → AtForm program Other OtherRefuted tree (Neg atom') seen' picked' kept' found' → AreFound found found'
        by_tree atom atom' form form' same h (lacking sub' rest') h' =
            absurd (other-excludes picked'.chosen.line picked.chosen.line atom' atom sub' proof (negations seen' seen literals' literals kept' kept goal alike' alike picked' picked one' one atom' atom form' form (sym same)) h'.fails h.1)
        by_tree atom atom' form form' same h (present proof') h' = found-none found found' h.2 h'.2
        by_tree atom atom' form form' same h tree h' = absurd h'

        by : (form : Form) → picked.chosen.form ≡ form → AtForm program One OneRefuted (present proof) form seen picked kept found → AreFound found found'
        by (Neg atom) form h =
            let too : (atom' : Atom) × (picked'.chosen.form ≡ Neg atom') × (atom_under alike.to atom ≡ atom_under alike'.to atom') =
            neg-too alike.to alike'.to atom picked'.chosen.form (forms seen seen' literals literals' kept kept' goal alike alike' picked picked' one one' (Neg atom) form) in
            by_tree atom too.0 form too.1 too.2 h t' (subst (λ f. AtForm program Other OtherRefuted t' f seen' picked' kept' found') too.1 there)
        by form is h = absurd h

    gathered-meets : (sub rest : WholeTree) → Meets rest → StepsMeet (gathered sub rest)
    gathered-meets sub rest onward t' seen seen' literals literals' kept kept' goal alike alike' picked picked' one one' found found' here there = by picked.chosen.form refl here
      where
        by_tree : (fold : FoldKind) (result value : Tree) (atom : Atom) → picked.chosen.form ≡ Gather fold result value atom → (too : GatherToo alike.to alike'.to fold result value atom picked'.chosen.form) → AtForm program One OneRefuted (gathered sub rest) (Gather fold result value atom) seen picked kept found
            → (tree : WholeTree) → AtForm program Other OtherRefuted tree (Gather too.fold' too.result' too.value' too.atom') seen' picked' kept' found' → AreFound found found'
        by_tree fold result value atom form too h (gathered sub' rest') h' =
            let are : AreFound h.cases h'.cases = meet picked.chosen.line picked'.chosen.line atom too.atom' (value ∷ []) (too.value' ∷ []) sub sub' h.cases h'.cases (gathers seen seen' literals literals' kept kept' goal alike alike' picked picked' one one' fold result value atom form too) h.whole h'.whole in
            onward rest' (map_variables h.unifier ++ seen) (map_variables h'.unifier ++ seen') (literals_under (value_at h.unifier) (rest_of picked)) (literals_under (value_at h'.unifier) (rest_of picked')) (terms_under (value_at h.unifier) kept) (terms_under (value_at h'.unifier) kept') found found'
            (after-gathered seen seen' literals literals' kept kept' goal alike alike' picked picked' one one' fold result value atom form too h.cases h'.cases are h.unifier h'.unifier h.fits h'.fits) h.rest h'.rest
        by_tree fold result value atom form too h (ungathered sub') h' =
            let are : AreFound h.cases h'.0.cases = meet picked.chosen.line picked'.chosen.line atom too.atom' (value ∷ []) (too.value' ∷ []) sub sub' h.cases h'.0.cases (gathers seen seen' literals literals' kept kept' goal alike alike' picked picked' one one' fold result value atom form too) h.whole h'.0.whole in
            absurd (gathered-once seen seen' literals literals' kept kept' goal alike alike' picked picked' one one' fold result value atom form too h.cases h'.0.cases are h.unifier h.fits h'.0.misses)
        by_tree fold result value atom form too h tree h' = absurd h'

        by : (form : Form) → picked.chosen.form ≡ form → AtForm program One OneRefuted (gathered sub rest) form seen picked kept found → AreFound found found'
        by (Gather fold result value atom) form h =
            let too : GatherToo alike.to alike'.to fold result value atom picked'.chosen.form =
            gather-too alike.to alike'.to fold result value atom picked'.chosen.form (forms seen seen' literals literals' kept kept' goal alike alike' picked picked' one one' (Gather fold result value atom) form) in
            by_tree fold result value atom form too h t' (subst (λ f. AtForm program Other OtherRefuted t' f seen' picked' kept' found') too.is there)
        by form is h = absurd h

    ungathered-meets : (sub : WholeTree) → StepsMeet (ungathered sub)
    ungathered-meets sub t' seen seen' literals literals' kept kept' goal alike alike' picked picked' one one' found found' here there = by picked.chosen.form refl here
      where
        by_tree : (fold : FoldKind) (result value : Tree) (atom : Atom) → picked.chosen.form ≡ Gather fold result value atom → (too : GatherToo alike.to alike'.to fold result value atom picked'.chosen.form) → AtForm program One OneRefuted (ungathered sub) (Gather fold result value atom) seen picked kept found
            → (tree : WholeTree) → AtForm program Other OtherRefuted tree (Gather too.fold' too.result' too.value' too.atom') seen' picked' kept' found' → AreFound found found'
        by_tree fold result value atom form too h (gathered sub' rest') h' =
            let are : AreFound h.0.cases h'.cases = meet picked.chosen.line picked'.chosen.line atom too.atom' (value ∷ []) (too.value' ∷ []) sub sub' h.0.cases h'.cases (gathers seen seen' literals literals' kept kept' goal alike alike' picked picked' one one' fold result value atom form too) h.0.whole h'.whole in
            absurd (missed-once seen seen' literals literals' kept kept' goal alike alike' picked picked' one one' fold result value atom form too h.0.cases h'.cases are h'.unifier h.0.misses h'.fits)
        by_tree fold result value atom form too h (ungathered sub') h' = found-none found found' h.1 h'.1
        by_tree fold result value atom form too h tree h' = absurd h'

        by : (form : Form) → picked.chosen.form ≡ form → AtForm program One OneRefuted (ungathered sub) form seen picked kept found → AreFound found found'
        by (Gather fold result value atom) form h =
            let too : GatherToo alike.to alike'.to fold result value atom picked'.chosen.form =
            gather-too alike.to alike'.to fold result value atom picked'.chosen.form (forms seen seen' literals literals' kept kept' goal alike alike' picked picked' one one' (Gather fold result value atom) form) in
            by_tree fold result value atom form too h t' (subst (λ f. AtForm program Other OtherRefuted t' f seen' picked' kept' found') too.is there)
        by form is h = absurd h

    -- the branches of an atom, from a number on
    abbrev BranchesMeet : WholeBranches → Type 0
    BranchesMeet branches = (branches' : WholeBranches) (seen seen' : List ℕ) (literals literals' : List Literal) (kept kept' : List Tree) (goal : Goal) (alike : Alike arity predicates seen literals kept goal) (alike' : Alike arity predicates seen' literals' kept' goal)
        (picked picked' : Picked Literal) → selected program.version literals ≡ Some picked → selected program.version literals' ≡ Some picked' → (found found' : List (List Tree)) (atom atom' : Atom) (from : ℕ)
        → picked.chosen.form ≡ Pos atom → picked'.chosen.form ≡ Pos atom' → atom_under alike.to atom ≡ atom_under alike'.to atom'
        → AreWhole program One OneRefuted branches seen picked atom kept from found → AreWhole program Other OtherRefuted branches' seen' picked' atom' kept' from found' → AreFound found found'

    -- a clause is one of the program's, and has a number that isn't above their count
    is-valid : (number : ℕ) (clause : Clause) → IsClauseOf program number clause → IsProgramClause arity predicates clause
    is-valid number clause is = clause-is (IsProgramClause arity predicates) program.clauses (number - 1) clause valid is.1

    is-within : (number : ℕ) (clause : Clause) → IsClauseOf program number clause → number < suc (length program.clauses)
    is-within number clause is =
        let low : 1 ≤ number = is.0 in
        let there : number - 1 < length program.clauses = slice-below program.clauses (number - 1) clause is.1 in
        omega arith

    same-clause : (number : ℕ) (clause it : Clause) → IsClauseOf program number clause → IsClauseOf program number it → clause ≡ it
    same-clause number clause it is also = let same : Some clause ≡ Some it = sym is.1 ∙ also.1 in cc same

    none-meet : BranchesMeet no_branch
    none-meet no_branch seen seen' literals literals' kept kept' goal alike alike' picked picked' one one' found found' atom atom' from form form' same h h' = found-none found found' h.1 h'.1
    none-meet (branch n t' branches') seen seen' literals literals' kept kept' goal alike alike' picked picked' one one' found found' atom atom' from form form' same h h' =
        absurd (h.0 n h'.3.clause h'.3.in_order (is-within n h'.3.clause h'.3.resolves.clause_) h'.3.resolves.clause_
        (unifies-across seen' seen literals' literals kept' kept goal alike' alike picked' picked one' one atom' atom form' (sym same) n h'.3.clause h'.3.names h'.3.unifier (is-valid n h'.3.clause h'.3.resolves.clause_) h'.3.resolves))

    branch-meet : (n : ℕ) (t : WholeTree) (branches : WholeBranches) → Meets t → BranchesMeet branches → BranchesMeet (branch n t branches)
    branch-meet n t branches onward others no_branch seen seen' literals literals' kept kept' goal alike alike' picked picked' one one' found found' atom atom' from form form' same h h' =
        absurd (h'.0 n h.3.clause h.3.in_order (is-within n h.3.clause h.3.resolves.clause_) h.3.resolves.clause_
        (unifies-across seen seen' literals literals' kept kept' goal alike alike' picked picked' one one' atom atom' form same n h.3.clause h.3.names h.3.unifier (is-valid n h.3.clause h.3.resolves.clause_) h.3.resolves))
    branch-meet n t branches onward others (branch n' t' branches') seen seen' literals literals' kept kept' goal alike alike' picked picked' one one' found found' atom atom' from form form' same h h' = by_less (nat_lt n n') (nat_lt n' n) refl refl
      where
        by_less : (b c : Bool) → nat_lt n n' ≡ b → nat_lt n' n ≡ c → AreFound found found'
        by_less true c less also =
            absurd (h'.3.others n h.3.clause h.3.in_order (ltb-true n n' less) h.3.resolves.clause_
            (unifies-across seen seen' literals literals' kept kept' goal alike alike' picked picked' one one' atom atom' form same n h.3.clause h.3.names h.3.unifier (is-valid n h.3.clause h.3.resolves.clause_) h.3.resolves))
        by_less false true less also =
            absurd (h.3.others n' h'.3.clause h'.3.in_order (ltb-true n' n also) h'.3.resolves.clause_
            (unifies-across seen' seen literals' literals kept' kept goal alike' alike picked' picked one' one atom' atom form' (sym same) n' h'.3.clause h'.3.names h'.3.unifier (is-valid n' h'.3.clause h'.3.resolves.clause_) h'.3.resolves))
        by_less false false less also =
            let low : n' ≤ n = ltb-false n n' less in
            let high : n ≤ n' = ltb-false n' n also in
            let equal : n' ≡ n = omega (arith, low, high) in
            let it_is : h'.3.clause ≡ h.3.clause = same-clause n h'.3.clause h.3.clause (subst (λ k. IsClauseOf program k h'.3.clause) equal h'.3.resolves.clause_) h.3.resolves.clause_ in
            let resolves' : Resolves program seen' atom' n h.3.clause h'.3.names h'.3.unifier = subst (λ c. Resolves program seen' atom' n c h'.3.names h'.3.unifier) it_is (subst (λ k. Resolves program seen' atom' k h'.3.clause h'.3.names h'.3.unifier) equal h'.3.resolves) in
            let whole' : IsWhole program Other OtherRefuted t' (seen_by seen' h.3.clause h'.3.names h'.3.unifier) (literals_under (value_at h'.3.unifier) (put_in_place picked' (literals_under (named h'.3.names) h.3.clause.body))) (terms_under (value_at h'.3.unifier) kept') h'.0 =
            subst (λ (c : Clause). IsWhole program Other OtherRefuted t' (seen_by seen' c h'.3.names h'.3.unifier) (literals_under (value_at h'.3.unifier) (put_in_place picked' (literals_under (named h'.3.names) c.body))) (terms_under (value_at h'.3.unifier) kept') h'.0) it_is h'.3.tree in
            let first : AreFound h.0 h'.0 =
            onward t' (seen_by seen h.3.clause h.3.names h.3.unifier) (seen_by seen' h.3.clause h'.3.names h'.3.unifier) (literals_under (value_at h.3.unifier) (put_in_place picked (literals_under (named h.3.names) h.3.clause.body)))
            (literals_under (value_at h'.3.unifier) (put_in_place picked' (literals_under (named h'.3.names) h.3.clause.body))) (terms_under (value_at h.3.unifier) kept) (terms_under (value_at h'.3.unifier) kept') h.0 h'.0
            (after-clause seen seen' literals literals' kept kept' goal alike alike' picked picked' one one' atom atom' form form' same n h.3.clause (is-valid n h.3.clause h.3.resolves.clause_) h.3.names h'.3.names h.3.unifier h'.3.unifier h.3.resolves resolves') h.3.tree whole' in
            let rest : AreFound h.1 h'.1 =
            others branches' seen seen' literals literals' kept kept' goal alike alike' picked picked' one one' h.1 h'.1 atom atom' (suc n) form form' same h.4 (subst (λ k. AreWhole program Other OtherRefuted branches' seen' picked' atom' kept' (suc k) h'.1) equal h'.4) in
            subst (λ f. AreFound f found') (sym h.2) (subst (AreFound (h.0 ++ h.1)) (sym h'.2) (found-join h.0 h.1 h'.0 h'.1 first rest))

    split-meets : (branches : WholeBranches) → BranchesMeet branches → StepsMeet (split branches)
    split-meets branches each t' seen seen' literals literals' kept kept' goal alike alike' picked picked' one one' found found' here there = by picked.chosen.form refl here
      where
        by_tree : (atom atom' : Atom) → picked.chosen.form ≡ Pos atom → picked'.chosen.form ≡ Pos atom' → atom_under alike.to atom ≡ atom_under alike'.to atom' → AtForm program One OneRefuted (split branches) (Pos atom) seen picked kept found
            → (tree : WholeTree) → AtForm program Other OtherRefuted tree (Pos atom') seen' picked' kept' found' → AreFound found found'
        by_tree atom atom' form form' same h (split branches') h' = each branches' seen seen' literals literals' kept kept' goal alike alike' picked picked' one one' found found' atom atom' 1 form form' same h h'
        by_tree atom atom' form form' same h tree h' = absurd h'

        by : (form : Form) → picked.chosen.form ≡ form → AtForm program One OneRefuted (split branches) form seen picked kept found → AreFound found found'
        by (Pos atom) form h =
            let too : (atom' : Atom) × (picked'.chosen.form ≡ Pos atom') × (atom_under alike.to atom ≡ atom_under alike'.to atom') =
            pos-too alike.to alike'.to atom picked'.chosen.form (forms seen seen' literals literals' kept kept' goal alike alike' picked picked' one one' (Pos atom) form) in
            by_tree atom too.0 form too.1 too.2 h t' (subst (λ f. AtForm program Other OtherRefuted t' f seen' picked' kept' found') too.1 there)
        by form is h = absurd h

    mutual
      meets : (t : WholeTree) → Meets t
      meets success = meets-by success success-meets
      meets (split branches) = meets-by (split branches) (split-meets branches (each-meets branches))
      meets (computed sub) = meets-by (computed sub) (computed-meets sub (meets sub))
      meets dead = meets-by dead dead-meets
      meets (lacking sub rest) = meets-by (lacking sub rest) (lacking-meets sub rest (meets rest))
      meets (present proof) = meets-by (present proof) (present-meets proof)
      meets (gathered sub rest) = meets-by (gathered sub rest) (gathered-meets sub rest (meets rest))
      meets (ungathered sub) = meets-by (ungathered sub) (ungathered-meets sub)

      each-meets : (branches : WholeBranches) → BranchesMeet branches
      each-meets no_branch = none-meet
      each-meets (branch n t branches) = branch-meet n t branches (meets t) (each-meets branches)

    -- a refutation of a state ends at a leaf of each whole tree of a state that is alike
    abbrev Ends : ℕ → Type 0
    Ends steps = (seen seen' : List ℕ) (pairs : List Pair) (literals' : List Literal) (kept kept' : List Tree) (by : ℕ → Tree) (t' : WholeTree) (found' : List (List Tree)) → Together arity predicates seen seen' (lits pairs) literals' kept kept'
        → Runs program One steps seen pairs by → IsWhole program Other OtherRefuted t' seen' literals' kept' found' → EndsAt (terms_under by kept) found'

    empty-ends : Ends zero
    empty-ends seen seen' pairs literals' kept kept' by t' found' together runs is' = by_goal (stands program Other OtherRefuted t' seen' literals' kept' found' is')
      where
        by_goal : Stands program Other OtherRefuted t' seen' literals' kept' found' → EndsAt (terms_under by kept) found'
        by_goal (inl there) =
            subst (EndsAt (terms_under by kept)) (sym there.1)
            (subst (λ ts. EndsAt ts (kept' ∷ [])) (sym (terms-agree by variable kept runs.1 ∙ terms-same kept)) (inl (kept-renamed seen seen' (lits pairs) literals' kept kept' together.0 together.1 together.2)))
        by_goal (inr there) = absurd (none-selected seen seen' (lits pairs) literals' kept kept' together.0 together.1 together.2 (ap lits runs.0) there.0 there.1)

    lits-put : (by : ℕ → Tree) (picked : Picked Pair) (body : List Literal) (proofs : List Proof) → length proofs ≡ length body → lits (pairs_under by (put_in_place picked (zip body proofs))) ≡ literals_under by (put_in_place (picked_map (λ (p : Pair). p.0) picked) body)
    lits-put by picked body proofs same =
        lits-under by (put_in_place picked (zip body proofs))
        ∙ ap (literals_under by) (three-map (λ (p : Pair). p.0) picked.before (zip body proofs) picked.behind ∙ ap (λ ls. lits picked.before ++ (ls ++ lits picked.behind)) (firsts-zip body proofs same))

    lits-rest : (by : ℕ → Tree) (picked : Picked Pair) → lits (pairs_under by (put_in_place picked [])) ≡ literals_under by (rest_of (picked_map (λ (p : Pair). p.0) picked))
    lits-rest by picked = lits-under by (put_in_place picked []) ∙ ap (literals_under by) (three-map (λ (p : Pair). p.0) picked.before [] picked.behind)

    -- a step, and what comes after it
    module _ (steps : ℕ) (onward : Ends steps) (seen seen' : List ℕ) (pairs : List Pair) (literals' : List Literal) (kept kept' : List Tree) (by : ℕ → Tree) (t' : WholeTree) (found' : List (List Tree)) (goal : Goal)
        (alike : Alike arity predicates seen (lits pairs) kept goal) (alike' : Alike arity predicates seen' literals' kept' goal) (pair : Picked Pair) (one : selected program.version (lits pairs) ≡ Some (picked_map (λ (p : Pair). p.0) pair))
        (picked' : Picked Literal) (one' : selected program.version literals' ≡ Some picked') (there : AtForm program Other OtherRefuted t' picked'.chosen.form seen' picked' kept' found') where
      abbrev picked : Picked Literal
      picked = picked_map (λ (p : Pair). p.0) pair

      -- what comes after a step with a unifier ends where the whole does
      composed-ends : (unifier : Bindings) (rest_by : ℕ → Tree) → Factors by unifier rest_by → (found : List (List Tree)) → EndsAt (terms_under rest_by (terms_under (value_at unifier) kept)) found → EndsAt (terms_under by kept) found
      composed-ends unifier rest_by composed found h = subst (λ ts. EndsAt ts found) (sym (terms-agree by (then_by unifier rest_by) kept composed ∙ sym (terms-then unifier rest_by kept))) h

      clause-ends : (atom atom' : Atom) → picked.chosen.form ≡ Pos atom → picked'.chosen.form ≡ Pos atom' → atom_under alike.to atom ≡ atom_under alike'.to atom' → (number : ℕ) (shown : Atom) (proofs : List Proof) → ByClause program One (Runs program One steps) seen pair by picked.chosen.line atom number shown proofs
          → (branches' : WholeBranches) (from : ℕ) (found : List (List Tree)) → from ≤ number → AreWhole program Other OtherRefuted branches' seen' picked' atom' kept' from found → EndsAt (terms_under by kept) found
      clause-ends atom atom' form form' same number shown proofs step no_branch from found low h' =
          absurd (h'.0 number step.clause low (is-within number step.clause step.resolves.clause_) step.resolves.clause_
          (unifies-across seen seen' (lits pairs) literals' kept kept' goal alike alike' picked picked' one one' atom atom' form same number step.clause step.names step.unifier (is-valid number step.clause step.resolves.clause_) step.resolves))
      clause-ends atom atom' form form' same number shown proofs step (branch n t branches') from found low h' = by_less (nat_lt number n) (nat_lt n number) refl refl (λ less. clause-ends atom atom' form form' same number shown proofs step branches' (suc n) h'.1 less h'.4)
        where
          by_less : (b c : Bool) → nat_lt number n ≡ b → nat_lt n number ≡ c → (suc n ≤ number → EndsAt (terms_under by kept) h'.1) → EndsAt (terms_under by kept) found
          by_less true c less also later =
              absurd (h'.3.others number step.clause low (ltb-true number n less) step.resolves.clause_
              (unifies-across seen seen' (lits pairs) literals' kept kept' goal alike alike' picked picked' one one' atom atom' form same number step.clause step.names step.unifier (is-valid number step.clause step.resolves.clause_) step.resolves))
          by_less false true less also later = let below : n < number = ltb-true n number also in subst (EndsAt (terms_under by kept)) (sym h'.2) (ends-later (terms_under by kept) h'.0 h'.1 (later (omega arith)))
          by_less false false less also later =
              let below : n ≤ number = ltb-false number n less in
              let above : number ≤ n = ltb-false n number also in
              let equal : n ≡ number = omega (arith, below, above) in
              let it_is : h'.3.clause ≡ step.clause = same-clause number h'.3.clause step.clause (subst (λ k. IsClauseOf program k h'.3.clause) equal h'.3.resolves.clause_) step.resolves.clause_ in
              let resolves' : Resolves program seen' atom' number step.clause h'.3.names h'.3.unifier =
              subst (λ c. Resolves program seen' atom' number c h'.3.names h'.3.unifier) it_is (subst (λ k. Resolves program seen' atom' k h'.3.clause h'.3.names h'.3.unifier) equal h'.3.resolves) in
              let whole' : IsWhole program Other OtherRefuted t (seen_by seen' step.clause h'.3.names h'.3.unifier) (literals_under (value_at h'.3.unifier) (put_in_place picked' (literals_under (named h'.3.names) step.clause.body))) (terms_under (value_at h'.3.unifier) kept') h'.0 =
              subst (λ (c : Clause). IsWhole program Other OtherRefuted t (seen_by seen' c h'.3.names h'.3.unifier) (literals_under (value_at h'.3.unifier) (put_in_place picked' (literals_under (named h'.3.names) c.body))) (terms_under (value_at h'.3.unifier) kept') h'.0) it_is h'.3.tree in
              let body : List Literal = literals_under (named step.names) step.clause.body in
              let new_pairs : List Pair = pairs_under (value_at step.unifier) (put_in_place pair (zip body proofs)) in
              let new_lits : lits new_pairs ≡ literals_under (value_at step.unifier) (put_in_place picked body) = lits-put (value_at step.unifier) pair body proofs (step.count ∙ sym (length-map step.clause.body (literal_under (named step.names)))) in
              let first : EndsAt (terms_under step.rest_by (terms_under (value_at step.unifier) kept)) h'.0 =
              onward (seen_by seen step.clause step.names step.unifier) (seen_by seen' step.clause h'.3.names h'.3.unifier) new_pairs (literals_under (value_at h'.3.unifier) (put_in_place picked' (literals_under (named h'.3.names) step.clause.body)))
              (terms_under (value_at step.unifier) kept) (terms_under (value_at h'.3.unifier) kept') step.rest_by t h'.0
              (subst (λ ls. Together arity predicates (seen_by seen step.clause step.names step.unifier) (seen_by seen' step.clause h'.3.names h'.3.unifier) ls (literals_under (value_at h'.3.unifier) (put_in_place picked' (literals_under (named h'.3.names) step.clause.body)))
              (terms_under (value_at step.unifier) kept) (terms_under (value_at h'.3.unifier) kept')) (sym new_lits)
              (after-clause seen seen' (lits pairs) literals' kept kept' goal alike alike' picked picked' one one' atom atom' form form' same number step.clause (is-valid number step.clause step.resolves.clause_) step.names h'.3.names step.unifier h'.3.unifier step.resolves resolves'))
              step.rest whole' in
              subst (EndsAt (terms_under by kept)) (sym h'.2) (ends-first (terms_under by kept) h'.0 h'.1 (composed-ends step.unifier step.rest_by step.composed h'.0 first))

      -- what comes after a literal that goes, with a unifier
      past-ends : (unifier unifier' : Bindings) (rest_by : ℕ → Tree) → Factors by unifier rest_by → Runs program One steps (map_variables unifier ++ seen) (pairs_under (value_at unifier) (put_in_place pair [])) rest_by → (sub' : WholeTree)
          → IsWhole program Other OtherRefuted sub' (map_variables unifier' ++ seen') (literals_under (value_at unifier') (rest_of picked')) (terms_under (value_at unifier') kept') found'
          → Together arity predicates (map_variables unifier ++ seen) (map_variables unifier' ++ seen') (literals_under (value_at unifier) (rest_of picked)) (literals_under (value_at unifier') (rest_of picked')) (terms_under (value_at unifier) kept) (terms_under (value_at unifier') kept')
          → EndsAt (terms_under by kept) found'
      past-ends unifier unifier' rest_by composed runs sub' whole' together =
          composed-ends unifier rest_by composed found'
          (onward (map_variables unifier ++ seen) (map_variables unifier' ++ seen') (pairs_under (value_at unifier) (put_in_place pair [])) (literals_under (value_at unifier') (rest_of picked')) (terms_under (value_at unifier) kept) (terms_under (value_at unifier') kept') rest_by sub' found'
          (subst (λ ls. Together arity predicates (map_variables unifier ++ seen) (map_variables unifier' ++ seen') ls (literals_under (value_at unifier') (rest_of picked')) (terms_under (value_at unifier) kept) (terms_under (value_at unifier') kept')) (sym (lits-rest (value_at unifier) pair)) together)
          runs whole')

      computed-ends : (atom atom' : Atom) → picked.chosen.form ≡ Calc atom → picked'.chosen.form ≡ Calc atom' → atom_under alike.to atom ≡ atom_under alike'.to atom' → (shown : Atom) → ByComputing program One (Runs program One steps) seen pair by picked.chosen.line atom shown
          → (tree : WholeTree) → AtForm program Other OtherRefuted tree (Calc atom') seen' picked' kept' found' → EndsAt (terms_under by kept) found'
      computed-ends atom atom' form form' same shown step (computed sub') h' =
          past-ends step.unifier h'.unifier step.rest_by step.composed step.rest sub' h'.rest (after-computed seen seen' (lits pairs) literals' kept kept' goal alike alike' picked picked' one one' atom atom' form form' same step.unifier h'.unifier step.computes h'.computes)
      computed-ends atom atom' form form' same shown step dead h' = absurd (computed-once seen seen' (lits pairs) literals' kept kept' goal alike alike' picked picked' one one' atom atom' form form' same step.unifier step.computes h'.0)
      computed-ends atom atom' form form' same shown step tree h' = absurd h'

      negation-ends : (atom atom' : Atom) → picked.chosen.form ≡ Neg atom → picked'.chosen.form ≡ Neg atom' → atom_under alike.to atom ≡ atom_under alike'.to atom' → (shown : Atom) (sub : WholeTree) → ByFailure program One (Runs program One steps) seen pair by picked.chosen.line atom shown sub
          → (tree : WholeTree) → AtForm program Other OtherRefuted tree (Neg atom') seen' picked' kept' found' → EndsAt (terms_under by kept) found'
      negation-ends atom atom' form form' same shown sub step (lacking sub' rest') h' =
          onward seen seen' (put_in_place pair []) (rest_of picked') kept kept' by rest' found'
          (subst (λ ls. Together arity predicates seen seen' ls (rest_of picked') kept kept') (sym (three-map (λ (p : Pair). p.0) pair.before [] pair.behind)) (after-dropped seen seen' (lits pairs) literals' kept kept' goal alike alike' picked picked' one one')) step.rest h'.rest
      negation-ends atom atom' form form' same shown sub step (present proof) h' =
          absurd (one-excludes picked.chosen.line picked'.chosen.line atom atom' sub proof (negations seen seen' (lits pairs) literals' kept kept' goal alike alike' picked picked' one one' atom atom' form form' same) step.fails h'.1)
      negation-ends atom atom' form form' same shown sub step tree h' = absurd h'

      gather-ends : (fold : FoldKind) (result value : Tree) (atom : Atom) → picked.chosen.form ≡ Gather fold result value atom → (too : GatherToo alike.to alike'.to fold result value atom picked'.chosen.form) → (sub : WholeTree)
          → ByGathering program One (Runs program One steps) seen pair by picked.chosen.line fold result value atom sub → (tree : WholeTree) → AtForm program Other OtherRefuted tree (Gather too.fold' too.result' too.value' too.atom') seen' picked' kept' found' → EndsAt (terms_under by kept) found'
      gather-ends fold result value atom form too sub step (gathered sub' rest') h' =
          let are : AreFound step.found h'.cases = meet picked.chosen.line picked'.chosen.line atom too.atom' (value ∷ []) (too.value' ∷ []) sub sub' step.found h'.cases (gathers seen seen' (lits pairs) literals' kept kept' goal alike alike' picked picked' one one' fold result value atom form too) step.whole h'.whole in
          past-ends step.unifier h'.unifier step.rest_by step.composed step.rest rest' h'.rest (after-gathered seen seen' (lits pairs) literals' kept kept' goal alike alike' picked picked' one one' fold result value atom form too step.found h'.cases are step.unifier h'.unifier step.fits h'.fits)
      gather-ends fold result value atom form too sub step (ungathered sub') h' =
          let are : AreFound step.found h'.0.cases = meet picked.chosen.line picked'.chosen.line atom too.atom' (value ∷ []) (too.value' ∷ []) sub sub' step.found h'.0.cases (gathers seen seen' (lits pairs) literals' kept kept' goal alike alike' picked picked' one one' fold result value atom form too) step.whole h'.0.whole in
          absurd (gathered-once seen seen' (lits pairs) literals' kept kept' goal alike alike' picked picked' one one' fold result value atom form too step.found h'.0.cases are step.unifier step.fits h'.0.misses)
      gather-ends fold result value atom form too sub step tree h' = absurd h'

      abbrev the_forms : (form : Form) → picked.chosen.form ≡ form → form_under alike.to form ≡ form_under alike'.to picked'.chosen.form
      the_forms form is = forms seen seen' (lits pairs) literals' kept kept' goal alike alike' picked picked' one one' form is

      tree-for : (form : Form) → picked'.chosen.form ≡ form → AtForm program Other OtherRefuted t' form seen' picked' kept' found'
      tree-for form is = subst (λ f. AtForm program Other OtherRefuted t' f seen' picked' kept' found') is there

      split-ends : (atom atom' : Atom) → picked.chosen.form ≡ Pos atom → picked'.chosen.form ≡ Pos atom' → atom_under alike.to atom ≡ atom_under alike'.to atom' → (number : ℕ) (shown : Atom) (proofs : List Proof) → ByClause program One (Runs program One steps) seen pair by picked.chosen.line atom number shown proofs
          → (tree : WholeTree) → AtForm program Other OtherRefuted tree (Pos atom') seen' picked' kept' found' → EndsAt (terms_under by kept) found'
      split-ends atom atom' form form' same number shown proofs step (split branches') h' = clause-ends atom atom' form form' same number shown proofs step branches' 1 found' step.resolves.clause_.0 h'
      split-ends atom atom' form form' same number shown proofs step tree h' = absurd h'

      proof-ends : (form : Form) (proof : Proof) → picked.chosen.form ≡ form → Proves program One (Runs program One steps) seen pair by picked.chosen.line form proof → EndsAt (terms_under by kept) found'
      proof-ends (Pos atom) (by_clause number shown proofs) form step =
          let too : (atom' : Atom) × (picked'.chosen.form ≡ Pos atom') × (atom_under alike.to atom ≡ atom_under alike'.to atom') = pos-too alike.to alike'.to atom picked'.chosen.form (the_forms (Pos atom) form) in
          split-ends atom too.0 form too.1 too.2 number shown (listed proofs) step t' (tree-for (Pos too.0) too.1)
      proof-ends (Calc atom) (by_computing shown) form step =
          let too : (atom' : Atom) × (picked'.chosen.form ≡ Calc atom') × (atom_under alike.to atom ≡ atom_under alike'.to atom') = calc-too alike.to alike'.to atom picked'.chosen.form (the_forms (Calc atom) form) in
          computed-ends atom too.0 form too.1 too.2 shown step t' (tree-for (Calc too.0) too.1)
      proof-ends (Neg atom) (by_failure shown sub) form step =
          let too : (atom' : Atom) × (picked'.chosen.form ≡ Neg atom') × (atom_under alike.to atom ≡ atom_under alike'.to atom') = neg-too alike.to alike'.to atom picked'.chosen.form (the_forms (Neg atom) form) in
          negation-ends atom too.0 form too.1 too.2 shown sub step t' (tree-for (Neg too.0) too.1)
      proof-ends (Gather fold result value atom) (by_gathering fold_ result_ value_ atom_ sub) form step =
          let too : GatherToo alike.to alike'.to fold result value atom picked'.chosen.form = gather-too alike.to alike'.to fold result value atom picked'.chosen.form (the_forms (Gather fold result value atom) form) in
          gather-ends fold result value atom form too sub step.4 t' (tree-for (Gather too.fold' too.result' too.value' too.atom') too.is)
      proof-ends form proof is step = absurd step

    lits-selected : (pairs : List Pair) (pair : Picked Pair) → pick (λ (p : Pair). is_delayed program.version p.0) pairs ≡ Some pair → selected program.version (lits pairs) ≡ Some (picked_map (λ (p : Pair). p.0) pair)
    lits-selected pairs pair one = pick-map (λ (p : Pair). p.0) (λ (p : Pair). is_delayed program.version p.0) (is_delayed program.version) pairs (same pairs) pair one
      where
        same : (ps : List Pair) → AllByRecursion (λ (p : Pair). is_delayed program.version p.0 ≡ is_delayed program.version p.0) ps
        same [] = tt
        same (p ∷ ps) = (refl, same ps)

    step-ends : (steps : ℕ) → Ends steps → Ends (suc steps)
    step-ends steps onward seen seen' pairs literals' kept kept' by t' found' together runs is' = by_pick (pick (λ (p : Pair). is_delayed program.version p.0) pairs) refl runs
      where
        by_goal : (pair : Picked Pair) → selected program.version (lits pairs) ≡ Some (picked_map (λ (p : Pair). p.0) pair) → Proves program One (Runs program One steps) seen pair by pair.chosen.0.line pair.chosen.0.form pair.chosen.1
            → Stands program Other OtherRefuted t' seen' literals' kept' found' → EndsAt (terms_under by kept) found'
        by_goal pair one step (inl there) = absurd (none-selected seen' seen literals' (lits pairs) kept' kept together.0 together.2 together.1 there.0 (picked_map (λ (p : Pair). p.0) pair) one)
        by_goal pair one step (inr there) =
            proof-ends steps onward seen seen' pairs literals' kept kept' by t' found' together.0 together.1 together.2 pair one there.0 there.1 there.2 pair.chosen.0.form pair.chosen.1 refl step

        by_pick : (o : Option (Picked Pair)) → pick (λ (p : Pair). is_delayed program.version p.0) pairs ≡ o → IsSomeAnd o (λ pair. Proves program One (Runs program One steps) seen pair by pair.chosen.0.line pair.chosen.0.form pair.chosen.1) → EndsAt (terms_under by kept) found'
        by_pick None one step = absurd step
        by_pick (Some pair) one step = by_goal pair (lits-selected pairs pair one) step (stands program Other OtherRefuted t' seen' literals' kept' found' is')

    ends : (steps : ℕ) → Ends steps
    ends zero = empty-ends
    ends (suc steps) = step-ends steps (ends steps)

  -- what holds of the trees and refutations of two ranks
  record Agree (rank other_rank : ℕ) : Type 0 where
    trees : TreesMeet arity predicates (WholeBelow rank program) (WholeBelow other_rank program)
    one_excludes : Excludes arity predicates (WholeBelow rank program) (RefutableBelow other_rank program)
    other_excludes : Excludes arity predicates (WholeBelow other_rank program) (RefutableBelow rank program)

  turned : (One Other : Trees) → TreesMeet arity predicates One Other → TreesMeet arity predicates Other One
  turned One Other meet line line' atom atom' terms terms' t t' found found' together one other = found-back found' found (meet line' line atom' atom terms' terms t' t found' found (together.0, together.2, together.1) other one)

  agree : (rank other_rank : ℕ) → Agree rank other_rank
  agree zero other_rank = record {
    trees = λ line line' atom atom' terms terms' t t' found found' together one other. absurd one;
    one_excludes = λ line line' atom atom' t proof together one refuted. absurd one;
    other_excludes = λ line line' atom atom' t proof together other refuted. absurd refuted;
  }
  agree (suc rank) zero = record {
    trees = λ line line' atom atom' terms terms' t t' found found' together one other. absurd other;
    one_excludes = λ line line' atom atom' t proof together one refuted. absurd refuted;
    other_excludes = λ line line' atom atom' t proof together other refuted. absurd other;
  }
  agree (suc rank) (suc other_rank) =
      let below : Agree rank other_rank = agree rank other_rank in
      record {
        trees = λ line line' atom atom' terms terms' t t' found found' together one other.
            meets (WholeBelow rank program) (WholeBelow other_rank program) (RefutableBelow rank program) (RefutableBelow other_rank program) below.trees below.one_excludes below.other_excludes t t'
            (goal_variables (only line atom) terms) (goal_variables (only line' atom') terms') (only line atom) (only line' atom') terms terms' found found' together one other;
        one_excludes = λ line line' atom atom' t proof together one refuted.
            ends (WholeBelow other_rank program) (WholeBelow rank program) (RefutableBelow other_rank program) (RefutableBelow rank program) (turned (WholeBelow rank program) (WholeBelow other_rank program) below.trees) below.other_excludes below.one_excludes refuted.1.steps
            (goal_variables (only line' atom') []) (goal_variables (only line atom) []) (zip (only line' atom') (proof ∷ [])) (only line atom) [] [] refuted.0 t [] (together.0, together.2, together.1) refuted.1.runs one;
        other_excludes = λ line line' atom atom' t proof together other refuted.
            ends (WholeBelow rank program) (WholeBelow other_rank program) (RefutableBelow rank program) (RefutableBelow other_rank program) below.trees below.one_excludes below.other_excludes refuted.1.steps
            (goal_variables (only line' atom') []) (goal_variables (only line atom) []) (zip (only line' atom') (proof ∷ [])) (only line atom) [] [] refuted.0 t [] (together.0, together.2, together.1) refuted.1.runs other;
      }

  -- whole trees of two ranks, of states that are alike, have the same leaves
  pub trees-meet : (rank other_rank : ℕ) (t t' : WholeTree) (seen seen' : List ℕ) (literals literals' : List Literal) (kept kept' : List Tree) (found found' : List (List Tree)) → Together arity predicates seen seen' literals literals' kept kept'
      → IsWhole program (WholeBelow rank program) (RefutableBelow rank program) t seen literals kept found → IsWhole program (WholeBelow other_rank program) (RefutableBelow other_rank program) t' seen' literals' kept' found' → AreFound found found'
  trees-meet rank other_rank t t' seen seen' literals literals' kept kept' found found' together one other =
      let below : Agree rank other_rank = agree rank other_rank in
      meets (WholeBelow rank program) (WholeBelow other_rank program) (RefutableBelow rank program) (RefutableBelow other_rank program) below.trees below.one_excludes below.other_excludes t t' seen seen' literals literals' kept kept' found found' together one other

  -- a refutation of one rank ends at a leaf of a whole tree of another one
  pub refutation-ends : (rank other_rank steps : ℕ) (seen seen' : List ℕ) (pairs : List Pair) (literals' : List Literal) (kept kept' : List Tree) (by : ℕ → Tree) (t' : WholeTree) (found' : List (List Tree)) → Together arity predicates seen seen' (lits pairs) literals' kept kept'
      → Runs program (WholeBelow rank program) steps seen pairs by → IsWhole program (WholeBelow other_rank program) (RefutableBelow other_rank program) t' seen' literals' kept' found' → EndsAt (terms_under by kept) found'
  refutation-ends rank other_rank steps seen seen' pairs literals' kept kept' by t' found' together runs whole' =
      let below : Agree rank other_rank = agree rank other_rank in
      ends (WholeBelow rank program) (WholeBelow other_rank program) (RefutableBelow rank program) (RefutableBelow other_rank program) below.trees below.one_excludes below.other_excludes steps seen seen' pairs literals' kept kept' by t' found' together runs whole'
