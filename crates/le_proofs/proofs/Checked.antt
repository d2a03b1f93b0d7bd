-- What the replay comes through is proved: a derivation that is accepted is admitted.
use Rattle.std.proofs.Common.{◌≡◌, ℕ, zero, suc, ◌+◌, ◌-◌, ◌<◌, ◌≤◌, ◌==◌, ◌&&◌, Bool, true, false, not, List, [], ◌∷◌, ◌++◌, length, slice_get, Option, Some, None, option_map, refl, sym, ap, ◌∙◌, subst, le_refl, arith, if◌then◌else◌, IsTrue, true≢false}
use Rattle.std.specs.Prelude.{IsSomeAnd, nat_lt, Result, Ok, Err}
use Rattle.std.specs.List.{AllByRecursion, cons_option}
use Rattle.std.proofs.lemmas.Bool.{ltb-true, ltb-false}
use Rattle.std.proofs.lemmas.Bool.Decides.{Decides-eqb}
use Rattle.le_base.specs.declared.stop.FoldKind.{FoldKind}
use Rattle.le_terms.specs.Tree.{Tree}
use Rattle.le_terms.specs.Variables.{occurrences, all_occurrences}
use Rattle.le_terms.specs.Program.{HasVariablesBelow, IsClause, form_terms, literals_terms}
use Rattle.le_terms.specs.declared.program.Atom.{Atom}
use Rattle.le_terms.specs.declared.program.Clause.{Clause}
use Rattle.le_terms.specs.declared.program.Form.{Form}
use Rattle.le_terms.specs.declared.program.Form.TheVariants.{Pos, Neg, Calc, Gather}
use Rattle.le_terms.specs.declared.program.Literal.{Literal}
use Rattle.le_terms.specs.declared.program.Program.{Program}
use Rattle.le_subst.specs.Unifiers.{Bindings}
use Rattle.le_builtins.specs.Compute.{compute}
use Rattle.le_builtins.proofs.Results.{results}
use Rattle.le_proofs.specs.declared.node.Node.{Node}
use Rattle.le_proofs.specs.declared.node.Node.TheVariants.{Use, Compute, Absent, Gather as Gathering, Split, Branch, Computed, Lacking, Present, Gathered, Ungathered, Dead}
use Rattle.le_gather.specs.Folds.{fold_of}
use Rattle.le_proofs.specs.Goals.{Goal, Picked, pick, is_delayed, is_open_negation, selected, Child, children, child_by, rest_by, rest_goal, sub_goal, head_solution, is_ground_atom}
use Rattle.le_proofs.specs.Proofs.{Reason, Leaf, WholeTree, WholeBranches, from_above, step_to, step_past, value_computed, failure_shown, cases_gathered}
use Rattle.le_proofs.specs.SearchTree.{first_proof}
use Rattle.le_proofs.specs.Search.{Outcome, goes_on, fails, ends, by_fold, computing, is_covered}
use Rattle.le_proofs.specs.Lloyd.{IsClauseOf, HeadUnifies, NoneUnifies, seen_by, map_variables, only, Computes, ComputesNothing, FitsBy, MissesBy, values_at, GoesOn, Lacks, Gathers, Misses, OfAtom, OfComputed, OfNegation, OfGather, Selects, IsRefutation, IsWhole, AreWhole, WholeBelow, RefutableBelow, goal_variables}
use Rattle.le_proofs.specs.Replay.{Fault, Replayed, gives, then_on, and_on, unless, Proven, Walked, WalkedEach, met, kind_of, clause_at, number_at, onward, use_clause, use_one, computed_on, prove, above, branch_before, branch_unifies, branch_fault, branch_on, branch_at, branches_at, split_of, computed_tree, dead_tree, tree_of_kind, put_places, beginnings, behind}
use Rattle.le_proofs.proofs.Alls.{all-both, all-left, all-right}
use Rattle.le_proofs.proofs.Apart.{Seen, resolves, never-unifies}
use Rattle.le_proofs.proofs.Below.{Below, IsBelow, BindsBelow, AnswerBelow, both-below, solution-below, around-below, resolvent-below, rest-below, rest_goal-below}
use Rattle.le_proofs.proofs.Picks.{IsPicked, pick-means}
use Rattle.le_proofs.proofs.Sound.{IsProved, clause-proves, computed-proves, gather-proves, negation-proves}
use Rattle.le_proofs.proofs.Trees.{Means, by-calc, by-folded, one-proof, seen-after, Numbered}

-- what comes through came through its parts
ok-then : {X Y : Type 0} (tried : ℕ) (r : Result X Fault) (more : X → Replayed Y) (y : Y) → (then_on tried r more).answer ≡ Ok y → (x : X) × (r ≡ Ok x) × ((more x).answer ≡ Ok y)
ok-then tried (Ok x) more y is = (x, refl, is)
ok-then tried (Err fault) more y is = absurd (cc is)

ok-and : {X Y : Type 0} (r : Replayed X) (more : X → Replayed Y) (y : Y) → (and_on r more).answer ≡ Ok y → (x : X) × (r.answer ≡ Ok x) × ((more x).answer ≡ Ok y)
ok-and r more y is = ok-then r.tried r.answer more y is

pub ok-unless : {X : Type 0} (b : Bool) (node why : ℕ) (more : Replayed X) (x : X) → (unless b node why more).answer ≡ Ok x → (b ≡ false) × (more.answer ≡ Ok x)
ok-unless true node why more x is = absurd (cc is)
ok-unless false node why more x is = (refl, is)

not-false : (b : Bool) → not b ≡ false → b ≡ true
not-false true is = refl
not-false false is = absurd (true≢false is)

-- where no literal is selected each is a negation whose atom holds a variable
pub none-selected : (version : ℕ) (literal : Literal) (literals : List Literal) → selected version (literal ∷ literals) ≡ None → is_open_negation literal.form ≡ true
none-selected version literal literals is = by (version == 2) (is_open_negation literal.form) refl refl
  where
    by : (b c : Bool) → (version == 2) ≡ b → is_open_negation literal.form ≡ c → c ≡ true
    by true true same open_ = refl
    by true false same open_ = absurd (picked (ap (λ x. x && is_open_negation literal.form) same ∙ open_))
      where
        picked : is_delayed version literal ≡ false → ⊥
        picked stays = chosen (is_delayed version literal) stays is
          where
            chosen : (d : Bool) → d ≡ false → (if d then option_map (λ (p : Picked Literal). let q : Picked Literal = record { before = literal ∷ p.before; chosen = p.chosen; behind = p.behind } in q) (pick (is_delayed version) literals) else Some (record { before = []; chosen = literal; behind = literals })) ≡ None → ⊥
            chosen true off is = true≢false off
            chosen false off is = cc is
    by false c same open_ = absurd (picked (ap (λ x. x && is_open_negation literal.form) same))
      where
        picked : is_delayed version literal ≡ false → ⊥
        picked stays = chosen (is_delayed version literal) stays is
          where
            chosen : (d : Bool) → d ≡ false → (if d then option_map (λ (p : Picked Literal). let q : Picked Literal = record { before = literal ∷ p.before; chosen = p.chosen; behind = p.behind } in q) (pick (is_delayed version) literals) else Some (record { before = []; chosen = literal; behind = literals })) ≡ None → ⊥
            chosen true off is = true≢false off
            chosen false off is = cc is

-- a tree that was walked: it is whole, and has no leaf where it may not
pub record IsWalked (program : Program) (rank : ℕ) (seen : List ℕ) (goal : Goal) (failed : Bool) (walked : Walked) : Type 0 where
  pub whole : IsWhole program (WholeBelow rank program) (RefutableBelow rank program) walked.tree seen goal.literals goal.terms walked.found
  pub none : failed ≡ true → walked.found ≡ []

module _ (program : Program) (are : AllByRecursion IsClause program.clauses) (total rank : ℕ)
    (proofs : Goal → List (List Node) → Replayed Proven) (walk : Bool → Goal → List Node → Replayed Walked)
    (proofs_right : (goal : Goal) (places : List (List Node)) (seen : List ℕ) → IsBelow goal → Seen goal.next seen → (proven : Proven) → (proofs goal places).answer ≡ Ok proven → IsProved program (suc rank) seen goal.literals goal.terms proven.leaf)
    (proofs_below : (goal : Goal) (places : List (List Node)) (seen : List ℕ) → IsBelow goal → Seen goal.next seen → (proven : Proven) → (proofs goal places).answer ≡ Ok proven → IsProved program rank seen goal.literals goal.terms proven.leaf)
    (walk_right : (failed : Bool) (goal : Goal) (nodes : List Node) (seen : List ℕ) → IsBelow goal → Seen goal.next seen → (walked : Walked) → (walk failed goal nodes).answer ≡ Ok walked → IsWalked program (suc rank) seen goal failed walked)
    (walk_below : (failed : Bool) (goal : Goal) (nodes : List Node) (seen : List ℕ) → IsBelow goal → Seen goal.next seen → (walked : Walked) → (walk failed goal nodes).answer ≡ Ok walked → IsWalked program rank seen goal failed walked)
    (goal : Goal) (seen : List ℕ) (below : IsBelow goal) (low : Seen goal.next seen) (picked : Picked Literal) (one : selected program.version goal.literals ≡ Some picked) where
  means : IsPicked (is_delayed program.version) goal.literals picked
  means = pick-means (is_delayed program.version) goal.literals picked one

  form-low : (form : Form) → picked.chosen.form ≡ form → HasVariablesBelow goal.next (form_terms form)
  form-low form is = subst (λ f. HasVariablesBelow goal.next (form_terms f)) is (around-below goal.next picked (subst (λ ls. HasVariablesBelow goal.next (literals_terms ls)) means.all below.literals)).1

  abbrev Proved : Leaf → Type 0
  Proved leaf = IsProved program (suc rank) seen goal.literals goal.terms leaf

  seen-more : (bindings : Bindings) → BindsBelow goal.next bindings → Seen goal.next (map_variables bindings ++ seen)
  seen-more bindings binds = all-both (λ v. v < goal.next) (map_variables bindings) seen binds.variables low

  -- a proof by a clause
  clause-right : (places : List (List Node)) (atom : Atom) (form : picked.chosen.form ≡ Pos atom) (number clause count : ℕ) (nodes : List Node) (it : Clause) → IsClause it → IsClauseOf program clause it → (o : Option Bindings) → head_solution goal.next it atom ≡ o
      → (proven : Proven) → (use_clause program total proofs walk goal places picked atom number clause nodes it o).answer ≡ Ok proven → Proved proven.leaf
  clause-right places atom form number clause count nodes it is is_clause None solved proven came = absurd (cc came)
  clause-right places atom form number clause count nodes it is is_clause (Some bindings) solved proven came =
      let child : Child = child_by goal picked clause it bindings in
      let binds : BindsBelow (goal.next + it.vars) bindings = subst (AnswerBelow (goal.next + it.vars)) solved (solution-below goal.next it atom is (form-low (Pos atom) form)) in
      let parts : (x : Proven) × ((proofs child.goal (put_places (length picked.before) (beginnings child.count nodes) places)).answer ≡ Ok x) × (Ok (record { leaf = from_above (step_to (length picked.before) atom child) x.leaf; order = number ∷ ([] ++ x.order) }) ≡ Ok proven) =
      ok-and (proofs child.goal (put_places (length picked.before) (beginnings child.count nodes) places)) (λ rest. gives (record { leaf = from_above (step_to (length picked.before) atom child) rest.leaf; order = number ∷ ([] ++ rest.order) })) proven came in
      let inner : IsProved program (suc rank) (seen_by seen it (λ v. goal.next + v) bindings) child.goal.literals child.goal.terms parts.0.leaf =
      proofs_right child.goal (put_places (length picked.before) (beginnings child.count nodes) places) (seen_by seen it (λ v. goal.next + v) bindings) (resolvent-below goal picked it bindings is below means.all binds) (seen-after goal.next seen it bindings is low binds) parts.0 parts.1 in
      let same : record { leaf = from_above (step_to (length picked.before) atom child) parts.0.leaf; order = number ∷ ([] ++ parts.0.order) } ≡ proven = cc parts.2 in
      subst (λ (p : Proven). Proved p.leaf) same (clause-proves program (suc rank) seen goal picked atom clause it bindings is_clause low one form solved parts.0.leaf inner)

  -- a computed literal, or a gather after its tree
  past-right : (places : List (List Node)) (reason : Reason) (before : List ℕ) (number : ℕ) (outcome : Outcome) (Fits : Bindings → Type 0) (Missed : Type 0) → Means goal.next Fits Missed outcome
      → ((bindings : Bindings) (leaf : Leaf) → Fits bindings → IsProved program (suc rank) (map_variables bindings ++ seen) (rest_by goal picked bindings).literals (rest_by goal picked bindings).terms leaf → Proved (from_above (step_past picked bindings reason) leaf))
      → (proven : Proven) → (computed_on program total proofs walk goal places picked reason before number outcome).answer ≡ Ok proven → Proved proven.leaf
  past-right places reason before number (goes_on bindings) Fits Missed meant step proven came =
      let parts : (x : Proven) × ((proofs (rest_by goal picked bindings) (put_places (length picked.before) [] places)).answer ≡ Ok x) × (Ok (record { leaf = from_above (step_past picked bindings reason) x.leaf; order = number ∷ (before ++ x.order) }) ≡ Ok proven) =
      ok-and (proofs (rest_by goal picked bindings) (put_places (length picked.before) [] places)) (λ rest. gives (record { leaf = from_above (step_past picked bindings reason) rest.leaf; order = number ∷ (before ++ rest.order) })) proven came in
      let inner : IsProved program (suc rank) (map_variables bindings ++ seen) (rest_by goal picked bindings).literals (rest_by goal picked bindings).terms parts.0.leaf =
      proofs_right (rest_by goal picked bindings) (put_places (length picked.before) [] places) (map_variables bindings ++ seen) (rest-below goal picked bindings below means.all meant.1) (seen-more bindings meant.1) parts.0 parts.1 in
      let same : record { leaf = from_above (step_past picked bindings reason) parts.0.leaf; order = number ∷ (before ++ parts.0.order) } ≡ proven = cc parts.2 in
      subst (λ (p : Proven). Proved p.leaf) same (step bindings parts.0.leaf meant.0 inner)
  past-right places reason before number fails Fits Missed meant step proven came = absurd (cc came)
  past-right places reason before number (ends e) Fits Missed meant step proven came = absurd (cc came)

  sub-below : (atom : Atom) (terms : List Tree) → HasVariablesBelow goal.next atom.args → HasVariablesBelow goal.next terms → IsBelow (sub_goal goal picked.chosen.line atom terms) × Seen goal.next (goal_variables (only picked.chosen.line atom) terms)
  sub-below atom terms low_atom low_terms =
      let all : HasVariablesBelow goal.next (atom.args ++ []) = both-below goal.next atom.args [] low_atom tt in
      (record { literals = all; terms = low_terms }, both-below goal.next (atom.args ++ []) terms all low_terms)

  -- a gather's terms
  value-low : (fold : FoldKind) (result value : Tree) (atom : Atom) → picked.chosen.form ≡ Gather fold result value atom → Below goal.next result × HasVariablesBelow goal.next (value ∷ []) × HasVariablesBelow goal.next atom.args
  value-low fold result value atom form =
      let all : HasVariablesBelow goal.next (result ∷ value ∷ atom.args) = form-low (Gather fold result value atom) form in
      let rest : HasVariablesBelow goal.next (value ∷ atom.args) = all-right (λ v. v < goal.next) (occurrences result) (all_occurrences (value ∷ atom.args)) all in (
        all-left (λ v. v < goal.next) (occurrences result) (all_occurrences (value ∷ atom.args)) all,
        all-both (λ v. v < goal.next) (occurrences value) [] (all-left (λ v. v < goal.next) (occurrences value) (all_occurrences atom.args) rest) tt,
        all-right (λ v. v < goal.next) (occurrences value) (all_occurrences atom.args) rest,
      )

  -- the clause of a number
  clause-of : (number : ℕ) (it : Clause) → clause_at program number ≡ Some it → IsClauseOf program number it
  clause-of zero it is = absurd (cc is)
  clause-of (suc place) it is = (omega arith, ap (slice_get program.clauses) (let same : suc place - 1 ≡ place = omega arith in same) ∙ is)

  clause-is : (clauses : List Clause) → AllByRecursion IsClause clauses → (place : ℕ) (it : Clause) → slice_get clauses place ≡ Some it → IsClause it
  clause-is [] all place it is = absurd (cc is)
  clause-is (c ∷ clauses) all zero it is = let same : c ≡ it = cc is in subst IsClause same all.0
  clause-is (c ∷ clauses) all (suc place) it is = clause-is clauses all.1 place it is

  -- a proof
  pub prove-right : (places : List (List Node)) (number : ℕ) (nodes : List Node) (form : Form) (node : Node) → picked.chosen.form ≡ form → (proven : Proven)
      → (prove program total proofs walk goal places picked picked.chosen.line number nodes (met form node)).answer ≡ Ok proven → Proved proven.leaf
  prove-right places number nodes (Pos atom) (Use clause count shown) form proven came = by (clause_at program clause) refl came
    where
      by : (o : Option Clause) → clause_at program clause ≡ o → (use_one program total proofs walk goal places picked atom number clause count nodes o).answer ≡ Ok proven → Proved proven.leaf
      by None is came = absurd (cc came)
      by (Some it) is came =
          let of : IsClauseOf program clause it = clause-of clause it is in
          clause-right places atom form number clause count nodes it (clause-is program.clauses are (clause - 1) it of.1) of (head_solution goal.next it atom) refl proven
          (ok-unless (not (count == length it.body)) number 3 (use_clause program total proofs walk goal places picked atom number clause nodes it (head_solution goal.next it atom)) proven came).1
  prove-right places number nodes (Calc atom) (Compute shown) form proven came =
      past-right places (value_computed atom) [] number (computing picked.chosen.line atom) (Computes atom) (ComputesNothing atom) (by-calc goal.next picked.chosen.line atom.args (compute atom.pred atom.args) (results atom.pred atom.args) (form-low (Calc atom) form))
      (λ bindings leaf fits inner. computed-proves program (suc rank) seen goal picked atom bindings one form fits leaf inner) proven came
  prove-right places number nodes (Neg atom) (Absent shown) form proven came =
      let outer : (not (is_ground_atom atom) ≡ false) × ((and_on (walk true (sub_goal goal picked.chosen.line atom []) nodes) (λ sub. onward program total proofs walk number (step_past picked [] (failure_shown atom sub.tree)) sub.order (rest_goal goal picked) (put_places (length picked.before) [] places))).answer ≡ Ok proven) =
      ok-unless (not (is_ground_atom atom)) number 4 (and_on (walk true (sub_goal goal picked.chosen.line atom []) nodes) (λ sub. onward program total proofs walk number (step_past picked [] (failure_shown atom sub.tree)) sub.order (rest_goal goal picked) (put_places (length picked.before) [] places))) proven came in
      let ground : IsTrue (is_ground_atom atom) = not-false (is_ground_atom atom) outer.0 in
      let sub : (x : Walked) × ((walk true (sub_goal goal picked.chosen.line atom []) nodes).answer ≡ Ok x) × ((onward program total proofs walk number (step_past picked [] (failure_shown atom x.tree)) x.order (rest_goal goal picked) (put_places (length picked.before) [] places)).answer ≡ Ok proven) =
      ok-and (walk true (sub_goal goal picked.chosen.line atom []) nodes) (λ sub. onward program total proofs walk number (step_past picked [] (failure_shown atom sub.tree)) sub.order (rest_goal goal picked) (put_places (length picked.before) [] places)) proven outer.1 in
      let lows : IsBelow (sub_goal goal picked.chosen.line atom []) × Seen goal.next (goal_variables (only picked.chosen.line atom) []) = sub-below atom [] (form-low (Neg atom) form) tt in
      let tree : IsWalked program rank (goal_variables (only picked.chosen.line atom) []) (sub_goal goal picked.chosen.line atom []) true sub.0 =
      walk_below true (sub_goal goal picked.chosen.line atom []) nodes (goal_variables (only picked.chosen.line atom) []) lows.0 lows.1 sub.0 sub.1 in
      let fails_ : WholeBelow (suc rank) program (only picked.chosen.line atom) [] sub.0.tree [] = subst (WholeBelow (suc rank) program (only picked.chosen.line atom) [] sub.0.tree) (tree.none refl) tree.whole in
      let parts : (x : Proven) × ((proofs (rest_goal goal picked) (put_places (length picked.before) [] places)).answer ≡ Ok x) × (Ok (record { leaf = from_above (step_past picked [] (failure_shown atom sub.0.tree)) x.leaf; order = number ∷ (sub.0.order ++ x.order) }) ≡ Ok proven) =
      ok-and (proofs (rest_goal goal picked) (put_places (length picked.before) [] places)) (λ rest. gives (record { leaf = from_above (step_past picked [] (failure_shown atom sub.0.tree)) rest.leaf; order = number ∷ (sub.0.order ++ rest.order) })) proven sub.2 in
      let inner : IsProved program (suc rank) seen (rest_goal goal picked).literals goal.terms parts.0.leaf = proofs_right (rest_goal goal picked) (put_places (length picked.before) [] places) seen (rest_goal-below goal picked below means.all) low parts.0 parts.1 in
      let same : record { leaf = from_above (step_past picked [] (failure_shown atom sub.0.tree)) parts.0.leaf; order = number ∷ (sub.0.order ++ parts.0.order) } ≡ proven = cc parts.2 in
      subst (λ (p : Proven). Proved p.leaf) same (negation-proves program (suc rank) seen goal picked atom sub.0.tree one form ground fails_ parts.0.leaf inner)
  prove-right places number nodes (Gather fold result value atom) (Gathering fold' result' value' atom') form proven came =
      let more : Walked → Replayed Proven = λ sub. computed_on program total proofs walk goal places picked (cases_gathered fold result value atom sub.tree) sub.order number (by_fold picked.chosen.line result (fold_of fold (values_at sub.found))) in
      let outer : (not (is_covered value atom) ≡ false) × ((and_on (walk false (sub_goal goal picked.chosen.line atom (value ∷ [])) nodes) more).answer ≡ Ok proven) = ok-unless (not (is_covered value atom)) number 4 (and_on (walk false (sub_goal goal picked.chosen.line atom (value ∷ [])) nodes) more) proven came in
      let covered : IsTrue (is_covered value atom) = not-false (is_covered value atom) outer.0 in
      let sub : (x : Walked) × ((walk false (sub_goal goal picked.chosen.line atom (value ∷ [])) nodes).answer ≡ Ok x) × ((more x).answer ≡ Ok proven) = ok-and (walk false (sub_goal goal picked.chosen.line atom (value ∷ [])) nodes) more proven outer.1 in
      let low_terms : Below goal.next result × HasVariablesBelow goal.next (value ∷ []) × HasVariablesBelow goal.next atom.args = value-low fold result value atom form in
      let lows : IsBelow (sub_goal goal picked.chosen.line atom (value ∷ [])) × Seen goal.next (goal_variables (only picked.chosen.line atom) (value ∷ [])) = sub-below atom (value ∷ []) low_terms.2 low_terms.1 in
      let tree : IsWalked program rank (goal_variables (only picked.chosen.line atom) (value ∷ [])) (sub_goal goal picked.chosen.line atom (value ∷ [])) false sub.0 =
      walk_below false (sub_goal goal picked.chosen.line atom (value ∷ [])) nodes (goal_variables (only picked.chosen.line atom) (value ∷ [])) lows.0 lows.1 sub.0 sub.1 in
      past-right places (cases_gathered fold result value atom sub.0.tree) sub.0.order number (by_fold picked.chosen.line result (fold_of fold (values_at sub.0.found)))
      (λ bindings. FitsBy result bindings (fold_of fold (values_at sub.0.found))) (MissesBy result (fold_of fold (values_at sub.0.found))) (by-folded goal.next picked.chosen.line result (fold_of fold (values_at sub.0.found)) low_terms.0)
      (λ bindings leaf fits inner. gather-proves program (suc rank) seen goal picked fold result value atom bindings sub.0.tree sub.0.found one form covered tree.whole fits leaf inner) proven sub.2
  prove-right places number nodes f node form proven came = absurd (cc came)

  -- a walked tree, by its selected literal
  selects : (P : Picked Literal → Type 0) → P picked → Selects program.version goal.literals P
  selects P h = subst (λ o. IsSomeAnd o P) (sym one) h

  abbrev Whole_ : WholeTree → List (List Tree) → Type 0
  Whole_ t all = IsWhole program (WholeBelow (suc rank) program) (RefutableBelow (suc rank) program) t seen goal.literals goal.terms all

  -- branches
  module _ (atom : Atom) (form : picked.chosen.form ≡ Pos atom) (failed : Bool) where
    pub record AreWalked (from : ℕ) (each : WalkedEach) : Type 0 where
      pub whole : AreWhole program (WholeBelow (suc rank) program) (RefutableBelow (suc rank) program) each.branches seen picked atom goal.terms from each.found
      pub none : failed ≡ true → each.found ≡ []

    numbered-first : (place : ℕ) (clause : Clause) (clauses : List Clause) → 1 ≤ place → Numbered program place (clause ∷ clauses) → IsClauseOf program place clause
    numbered-first place clause clauses positive numbered = (positive, sym (numbered 0 ∙ ap (slice_get program.clauses) (let same : (place - 1) + 0 ≡ place - 1 = omega arith in same)))

    numbered-rest : (place : ℕ) (clause : Clause) (clauses : List Clause) → 1 ≤ place → Numbered program place (clause ∷ clauses) → Numbered program (suc place) clauses
    numbered-rest place clause clauses positive numbered c = numbered (suc c) ∙ ap (slice_get program.clauses) (let same : (place - 1) + suc c ≡ (suc place - 1) + c = omega arith in same)

    none-left : (place from number : ℕ) (clause : Clause) → 1 ≤ place → Numbered program place [] → NoneUnifies program atom from place → from ≤ number → IsClauseOf program number clause → HeadUnifies clause atom → ⊥
    none-left place from number clause positive numbered none from_low is unifies = by (nat_lt number place) refl
      where
        by : (b : Bool) → nat_lt number place ≡ b → ⊥
        by true test = none number clause from_low (ltb-true number place test) is unifies
        by false test =
            let high : place ≤ number = ltb-false number place test in
            let there : None ≡ Some clause = numbered (number - place) ∙ (ap (slice_get program.clauses) (let same : (place - 1) + (number - place) ≡ number - 1 = omega (arith, is.0) in same) ∙ is.1) in
            absurd (cc there)

    none-more : (place from : ℕ) (clause : Clause) → IsClauseOf program place clause → head_solution goal.next clause atom ≡ None → NoneUnifies program atom from place → NoneUnifies program atom from (suc place)
    none-more place from clause is unsolved none number other from_low to_low is_other unifies = by (nat_lt number place) refl
      where
        by : (b : Bool) → nat_lt number place ≡ b → ⊥
        by true test = none number other from_low (ltb-true number place test) is_other unifies
        by false test =
            let high : place ≤ number = ltb-false number place test in
            let same_place : number - 1 ≡ place - 1 = omega arith in
            let same : Some other ≡ Some clause = sym is_other.1 ∙ (ap (slice_get program.clauses) same_place ∙ is.1) in
            let equal : other ≡ clause = cc same in
            never-unifies goal.next clause atom (form-low (Pos atom) form) unsolved (subst (λ c. HeadUnifies c atom) equal unifies)

    -- a branch that has no fault is the child's
    right-branch : (clause : ℕ) (child : Child) (o : Option Clause) → branch_fault program total proofs walk goal atom clause child o ≡ None → clause ≡ child.clause
    right-branch clause child None is = absurd (cc is)
    right-branch clause child (Some it) is = by (head_solution goal.next it atom) is
      where
        same : (b : Bool) → (clause == child.clause) ≡ b → ◌≡◌ {A = Option ℕ} (if b then None else Some 6) None → clause ≡ child.clause
        same true test is = (Decides-eqb clause child.clause).0 test
        same false test is = absurd (cc is)

        by : (u : Option Bindings) → branch_unifies program total proofs walk goal atom clause child u ≡ None → clause ≡ child.clause
        by None is = absurd (cc is)
        by (Some unifier) is = same (clause == child.clause) refl is

    child-walked : (place from clause : ℕ) (it : Clause) (bindings : Bindings) (nodes : List Node) (more : List Node → Replayed WalkedEach) (number : ℕ) → IsClause it → IsClauseOf program place it → head_solution goal.next it atom ≡ Some bindings → from ≤ place → NoneUnifies program atom from place
        → ((rest : List Node) (each : WalkedEach) → (more rest).answer ≡ Ok each → AreWalked (suc place) each)
        → (o : Option ℕ) → branch_fault program total proofs walk goal atom clause (child_by goal picked place it bindings) (clause_at program clause) ≡ o
        → (each : WalkedEach) → (branch_on program total proofs walk failed clause (child_by goal picked place it bindings) number nodes more o).answer ≡ Ok each → AreWalked from each
    child-walked place from clause it bindings nodes more number is_clause is solved less none others (Some why) fault each came = absurd (cc came)
    child-walked place from clause it bindings nodes more number is_clause is solved less none others None fault each came =
        let child : Child = child_by goal picked place it bindings in
        let binds : BindsBelow (goal.next + it.vars) bindings = subst (AnswerBelow (goal.next + it.vars)) solved (solution-below goal.next it atom is_clause (form-low (Pos atom) form)) in
        let parts : (x : Walked) × ((walk failed child.goal nodes).answer ≡ Ok x) × ((branch_before program total proofs walk clause x (more x.rest)).answer ≡ Ok each) = ok-and (walk failed child.goal nodes) (λ first. branch_before program total proofs walk clause first (more first.rest)) each came in
        let here : IsWalked program (suc rank) (seen_by seen it (λ v. goal.next + v) bindings) child.goal failed parts.0 =
        walk_right failed child.goal nodes (seen_by seen it (λ v. goal.next + v) bindings) (resolvent-below goal picked it bindings is_clause below means.all binds) (seen-after goal.next seen it bindings is_clause low binds) parts.0 parts.1 in
        let behind_ : (x : WalkedEach) × ((more parts.0.rest).answer ≡ Ok x) × (Ok (record { found = parts.0.found ++ x.found; branches = WholeBranches.branch clause parts.0.tree x.branches; order = parts.0.order ++ x.order; rest = x.rest }) ≡ Ok each) =
        ok-and (more parts.0.rest) (λ (others : WalkedEach). let w : WalkedEach = record { found = parts.0.found ++ others.found; branches = WholeBranches.branch clause parts.0.tree others.branches; order = parts.0.order ++ others.order; rest = others.rest } in gives w) each parts.2 in
        let there : AreWalked (suc place) behind_.0 = others parts.0.rest behind_.0 behind_.1 in
        let same : record { found = parts.0.found ++ behind_.0.found; branches = WholeBranches.branch clause parts.0.tree behind_.0.branches; order = parts.0.order ++ behind_.0.order; rest = behind_.0.rest } ≡ each = cc behind_.2 in
        let same_number : clause ≡ place = right-branch clause child (clause_at program clause) fault in
        subst (AreWalked from) same (record {
          whole = subst (λ n. AreWhole program (WholeBelow (suc rank) program) (RefutableBelow (suc rank) program) (WholeBranches.branch n parts.0.tree behind_.0.branches) seen picked atom goal.terms from (parts.0.found ++ behind_.0.found)) (sym same_number) (
            parts.0.found,
            behind_.0.found,
            refl,
            record {
              in_order = less;
              others = none;
              clause = it;
              names = λ v. goal.next + v;
              unifier = bindings;
              resolves = resolves program seen goal.next place it atom bindings is low solved;
              tree = here.whole;
            },
            there.whole,
          );
          none = λ quiet. ap (λ ls. ls ++ behind_.0.found) (here.none quiet) ∙ there.none quiet;
        })

    each-walked : (clauses : List Clause) (place from : ℕ) → AllByRecursion IsClause clauses → 1 ≤ place → Numbered program place clauses → from ≤ place → NoneUnifies program atom from place
        → (nodes : List Node) (each : WalkedEach) → (branches_at program total proofs walk failed goal atom (children goal picked atom place clauses) nodes).answer ≡ Ok each → AreWalked from each
    each-walked [] place from is positive numbered less none nodes each came =
        let same : record { found = []; branches = WholeBranches.no_branch; order = []; rest = nodes } ≡ each = cc came in
        subst (AreWalked from) same (record { whole = (λ number clause from_low to_low is_clause unifies. none-left place from number clause positive numbered none from_low is_clause unifies, refl); none = λ quiet. refl })
    each-walked (clause ∷ clauses) place from is positive numbered less none nodes each came =
        by (head_solution goal.next clause atom) refl (λ from' less' none' nodes' each' came'. each-walked clauses (suc place) from' is.1 (omega arith) (numbered-rest place clause clauses positive numbered) less' none' nodes' each' came') nodes came
      where
        first : IsClauseOf program place clause
        first = numbered-first place clause clauses positive numbered

        by : (o : Option Bindings) → head_solution goal.next clause atom ≡ o
            → ((from' : ℕ) → from' ≤ suc place → NoneUnifies program atom from' (suc place) → (nodes' : List Node) (each' : WalkedEach) → (branches_at program total proofs walk failed goal atom (children goal picked atom (suc place) clauses) nodes').answer ≡ Ok each' → AreWalked from' each')
            → (nodes : List Node) → (branches_at program total proofs walk failed goal atom (cons_option (option_map (child_by goal picked place clause) o) (children goal picked atom (suc place) clauses)) nodes).answer ≡ Ok each → AreWalked from each
        by None unsolved rest nodes came = rest from (omega arith) (none-more place from clause first unsolved none) nodes each came
        by (Some bindings) solved rest [] came = absurd (cc came)
        by (Some bindings) solved rest (node ∷ nodes) came = by_node node came
          where
            by_node : (node : Node) → (branch_at program total proofs walk failed goal atom (child_by goal picked place clause bindings) (number_at program total (node ∷ nodes)) nodes (branches_at program total proofs walk failed goal atom (children goal picked atom (suc place) clauses)) node).answer ≡ Ok each → AreWalked from each
            by_node (Branch n) came =
                child-walked place from n clause bindings nodes (branches_at program total proofs walk failed goal atom (children goal picked atom (suc place) clauses)) (number_at program total (Branch n ∷ nodes)) is.0 first solved less none
                (λ rest_nodes each' came'. rest (suc place) (le_refl (suc place)) (λ number other (from_low : suc place ≤ number) (to_low : number < suc place) is_other unifies. absurd (omega arith)) rest_nodes each' came')
                (branch_fault program total proofs walk goal atom n (child_by goal picked place clause bindings) (clause_at program n)) refl each came
            by_node node came = absurd (cc came)

  -- a tree by the kind of its node
  abbrev Walked_ : Bool → Walked → Type 0
  Walked_ failed walked = IsWalked program (suc rank) seen goal failed walked

  split-walked : (failed : Bool) (atom : Atom) → picked.chosen.form ≡ Pos atom → (nodes : List Node) (walked : Walked)
      → (split_of program total proofs walk (branches_at program total proofs walk failed goal atom (children goal picked atom 1 program.clauses) nodes)).answer ≡ Ok walked → Walked_ failed walked
  split-walked failed atom form nodes walked came =
      let parts : (x : WalkedEach) × ((branches_at program total proofs walk failed goal atom (children goal picked atom 1 program.clauses) nodes).answer ≡ Ok x) × (Ok (record { found = x.found; tree = WholeTree.split x.branches; order = x.order; rest = x.rest }) ≡ Ok walked) =
      ok-and (branches_at program total proofs walk failed goal atom (children goal picked atom 1 program.clauses) nodes) (λ (all : WalkedEach). let w : Walked = record { found = all.found; tree = WholeTree.split all.branches; order = all.order; rest = all.rest } in gives w) walked came in
      let all : AreWalked atom form failed 1 parts.0 =
      each-walked atom form failed program.clauses 1 1 are (le_refl 1) (λ c. ap (slice_get program.clauses) (let same : c ≡ (1 - 1) + c = omega arith in same)) (le_refl 1) (λ number other (from_low : 1 ≤ number) (to_low : number < 1) is_other unifies. absurd (omega arith)) nodes parts.0 parts.1 in
      let same : record { found = parts.0.found; tree = WholeTree.split parts.0.branches; order = parts.0.order; rest = parts.0.rest } ≡ walked = cc parts.2 in
      let P : Picked Literal → Atom → Type 0 = λ p a. AreWhole program (WholeBelow (suc rank) program) (RefutableBelow (suc rank) program) parts.0.branches seen p a goal.terms 1 parts.0.found in
      subst (Walked_ failed) same (record { whole = selects (λ p. OfAtom p.chosen.form (P p)) (subst (λ f. OfAtom f (P picked)) (sym form) all.whole); none = all.none })

  -- the tree of the rest, after a computed literal or a gather
  rest-walked : (failed : Bool) (make : WholeTree → WholeTree) (number : ℕ) (nodes : List Node) (before : List ℕ) (outcome : Outcome) (Fits : Bindings → Type 0) (Missed : Type 0) → Means goal.next Fits Missed outcome
      → ((bindings : Bindings) (t : WholeTree) (all : List (List Tree)) → Fits bindings → IsWhole program (WholeBelow (suc rank) program) (RefutableBelow (suc rank) program) t (map_variables bindings ++ seen) (rest_by goal picked bindings).literals (rest_by goal picked bindings).terms all → Whole_ (make t) all)
      → (walked : Walked) → (computed_tree program total proofs walk failed goal picked make number nodes before outcome).answer ≡ Ok walked → Walked_ failed walked
  rest-walked failed make number nodes before (goes_on bindings) Fits Missed meant whole walked came =
      let parts : (x : Walked) × ((walk failed (rest_by goal picked bindings) nodes).answer ≡ Ok x) × (Ok (record { found = x.found; tree = make x.tree; order = before ++ x.order; rest = x.rest }) ≡ Ok walked) =
      ok-and (walk failed (rest_by goal picked bindings) nodes) (λ (rest : Walked). let w : Walked = record { found = rest.found; tree = make rest.tree; order = before ++ rest.order; rest = rest.rest } in gives w) walked came in
      let here : IsWalked program (suc rank) (map_variables bindings ++ seen) (rest_by goal picked bindings) failed parts.0 =
      walk_right failed (rest_by goal picked bindings) nodes (map_variables bindings ++ seen) (rest-below goal picked bindings below means.all meant.1) (seen-more bindings meant.1) parts.0 parts.1 in
      let same : record { found = parts.0.found; tree = make parts.0.tree; order = before ++ parts.0.order; rest = parts.0.rest } ≡ walked = cc parts.2 in
      subst (Walked_ failed) same (record { whole = whole bindings parts.0.tree parts.0.found meant.0 here.whole; none = here.none })
  rest-walked failed make number nodes before fails Fits Missed meant whole walked came = absurd (cc came)
  rest-walked failed make number nodes before (ends e) Fits Missed meant whole walked came = absurd (cc came)

  -- a computed literal or a gather that fails
  missed-walked : (failed : Bool) (t : WholeTree) (number : ℕ) (nodes : List Node) (before : List ℕ) (outcome : Outcome) (Fits : Bindings → Type 0) (Missed : Type 0) → Means goal.next Fits Missed outcome → (Missed → Whole_ t [])
      → (walked : Walked) → (dead_tree program total proofs walk t number nodes before outcome).answer ≡ Ok walked → Walked_ failed walked
  missed-walked failed t number nodes before (goes_on bindings) Fits Missed meant whole walked came = absurd (cc came)
  missed-walked failed t number nodes before fails Fits Missed meant whole walked came =
      let same : record { found = []; tree = t; order = before; rest = nodes } ≡ walked = cc came in
      subst (Walked_ failed) same (record { whole = whole meant; none = λ quiet. refl })
  missed-walked failed t number nodes before (ends e) Fits Missed meant whole walked came = absurd (cc came)

  computed-means : (atom : Atom) → picked.chosen.form ≡ Calc atom → Means goal.next (Computes atom) (ComputesNothing atom) (computing picked.chosen.line atom)
  computed-means atom form = by-calc goal.next picked.chosen.line atom.args (compute atom.pred atom.args) (results atom.pred atom.args) (form-low (Calc atom) form)

  -- the tree of a gather's atom
  module _ (fold : FoldKind) (result value : Tree) (atom : Atom) (form : picked.chosen.form ≡ Gather fold result value atom) (nodes : List Node) (sub : Walked) (came : (walk false (sub_goal goal picked.chosen.line atom (value ∷ [])) nodes).answer ≡ Ok sub) where
    cases-whole : WholeBelow (suc rank) program (only picked.chosen.line atom) (value ∷ []) sub.tree sub.found
    cases-whole =
        let low_terms : Below goal.next result × HasVariablesBelow goal.next (value ∷ []) × HasVariablesBelow goal.next atom.args = value-low fold result value atom form in
        let lows : IsBelow (sub_goal goal picked.chosen.line atom (value ∷ [])) × Seen goal.next (goal_variables (only picked.chosen.line atom) (value ∷ [])) = sub-below atom (value ∷ []) low_terms.2 low_terms.1 in
        let w : IsWalked program rank (goal_variables (only picked.chosen.line atom) (value ∷ [])) (sub_goal goal picked.chosen.line atom (value ∷ [])) false sub = walk_below false (sub_goal goal picked.chosen.line atom (value ∷ [])) nodes (goal_variables (only picked.chosen.line atom) (value ∷ [])) lows.0 lows.1 sub came in
        w.whole

    fold-means : Means goal.next (λ bindings. FitsBy result bindings (fold_of fold (values_at sub.found))) (MissesBy result (fold_of fold (values_at sub.found))) (by_fold picked.chosen.line result (fold_of fold (values_at sub.found)))
    fold-means = by-folded goal.next picked.chosen.line result (fold_of fold (values_at sub.found)) (value-low fold result value atom form).0

    selects-gather : (P : Picked Literal → FoldKind → Tree → Tree → Atom → Type 0) → P picked fold result value atom → Selects program.version goal.literals (λ p. OfGather p.chosen.form (P p))
    selects-gather P h = selects (λ p. OfGather p.chosen.form (P p)) (subst (λ f. OfGather f (P picked)) (sym form) h)

  selects-negation : (atom : Atom) → picked.chosen.form ≡ Neg atom → (P : Picked Literal → Atom → Type 0) → P picked atom → Selects program.version goal.literals (λ p. OfNegation p.chosen.form (P p))
  selects-negation atom form P h = selects (λ p. OfNegation p.chosen.form (P p)) (subst (λ f. OfNegation f (P picked)) (sym form) h)

  selects-computed : (atom : Atom) → picked.chosen.form ≡ Calc atom → (P : Picked Literal → Atom → Type 0) → P picked atom → Selects program.version goal.literals (λ p. OfComputed p.chosen.form (P p))
  selects-computed atom form P h = selects (λ p. OfComputed p.chosen.form (P p)) (subst (λ f. OfComputed f (P picked)) (sym form) h)

  pub kind-walked : (failed : Bool) (number : ℕ) (nodes : List Node) (form : Form) (node : Node) → picked.chosen.form ≡ form → (walked : Walked)
      → (tree_of_kind program total proofs walk failed goal picked picked.chosen.line number nodes (kind_of form node)).answer ≡ Ok walked → Walked_ failed walked
  kind-walked failed number nodes (Pos atom) (Split count) form walked came =
      split-walked failed atom form nodes walked (ok-unless (not (count == length (children goal picked atom 1 program.clauses))) number 6 (split_of program total proofs walk (branches_at program total proofs walk failed goal atom (children goal picked atom 1 program.clauses) nodes)) walked came).1
  kind-walked failed number nodes (Calc atom) Computed form walked came =
      rest-walked failed WholeTree.computed number nodes [] (computing picked.chosen.line atom) (Computes atom) (ComputesNothing atom) (computed-means atom form)
      (λ bindings t all fits whole. selects-computed atom form (λ p a. GoesOn program (WholeBelow (suc rank) program) (RefutableBelow (suc rank) program) (IsWhole program (WholeBelow (suc rank) program) (RefutableBelow (suc rank) program) t) seen p a goal.terms all) (record { unifier = bindings; computes = fits; rest = whole })) walked came
  kind-walked failed number nodes (Calc atom) Dead form walked came =
      missed-walked failed WholeTree.dead number nodes [] (computing picked.chosen.line atom) (Computes atom) (ComputesNothing atom) (computed-means atom form)
      (λ missed. selects-computed atom form (λ p a. ComputesNothing a × ◌≡◌ {A = List (List Tree)} [] []) (missed, refl)) walked came
  kind-walked failed number nodes (Neg atom) Lacking form walked came =
      let more : Walked → Replayed Walked = λ sub. above program total proofs walk (WholeTree.lacking sub.tree) sub.order (walk failed (rest_goal goal picked) sub.rest) in
      let outer : (not (is_ground_atom atom) ≡ false) × ((and_on (walk true (sub_goal goal picked.chosen.line atom []) nodes) more).answer ≡ Ok walked) = ok-unless (not (is_ground_atom atom)) number 4 (and_on (walk true (sub_goal goal picked.chosen.line atom []) nodes) more) walked came in
      let sub : (x : Walked) × ((walk true (sub_goal goal picked.chosen.line atom []) nodes).answer ≡ Ok x) × ((more x).answer ≡ Ok walked) = ok-and (walk true (sub_goal goal picked.chosen.line atom []) nodes) more walked outer.1 in
      let lows : IsBelow (sub_goal goal picked.chosen.line atom []) × Seen goal.next (goal_variables (only picked.chosen.line atom) []) = sub-below atom [] (form-low (Neg atom) form) tt in
      let tree : IsWalked program rank (goal_variables (only picked.chosen.line atom) []) (sub_goal goal picked.chosen.line atom []) true sub.0 = walk_below true (sub_goal goal picked.chosen.line atom []) nodes (goal_variables (only picked.chosen.line atom) []) lows.0 lows.1 sub.0 sub.1 in
      let fails_ : WholeBelow (suc rank) program (only picked.chosen.line atom) [] sub.0.tree [] = subst (WholeBelow (suc rank) program (only picked.chosen.line atom) [] sub.0.tree) (tree.none refl) tree.whole in
      let parts : (x : Walked) × ((walk failed (rest_goal goal picked) sub.0.rest).answer ≡ Ok x) × (Ok (record { found = x.found; tree = WholeTree.lacking sub.0.tree x.tree; order = sub.0.order ++ x.order; rest = x.rest }) ≡ Ok walked) =
      ok-and (walk failed (rest_goal goal picked) sub.0.rest) (λ (rest : Walked). let w : Walked = record { found = rest.found; tree = WholeTree.lacking sub.0.tree rest.tree; order = sub.0.order ++ rest.order; rest = rest.rest } in gives w) walked sub.2 in
      let here : IsWalked program (suc rank) seen (rest_goal goal picked) failed parts.0 = walk_right failed (rest_goal goal picked) sub.0.rest seen (rest_goal-below goal picked below means.all) low parts.0 parts.1 in
      let same : record { found = parts.0.found; tree = WholeTree.lacking sub.0.tree parts.0.tree; order = sub.0.order ++ parts.0.order; rest = parts.0.rest } ≡ walked = cc parts.2 in
      subst (Walked_ failed) same (record {
        whole = selects-negation atom form (λ p a. Lacks program (WholeBelow (suc rank) program) (RefutableBelow (suc rank) program) (IsWhole program (WholeBelow (suc rank) program) (RefutableBelow (suc rank) program) parts.0.tree) seen p a goal.terms sub.0.tree parts.0.found)
            (record { ground = not-false (is_ground_atom atom) outer.0; fails = fails_; rest = here.whole });
        none = here.none;
      })
  kind-walked failed number nodes (Neg atom) Present form walked came =
      let more : Proven → Replayed Walked = λ proof. gives (record { found = []; tree = WholeTree.present (first_proof proof.leaf); order = proof.order; rest = behind 1 nodes }) in
      let outer : (not (is_ground_atom atom) ≡ false) × ((and_on (proofs (sub_goal goal picked.chosen.line atom []) (nodes ∷ [])) more).answer ≡ Ok walked) = ok-unless (not (is_ground_atom atom)) number 4 (and_on (proofs (sub_goal goal picked.chosen.line atom []) (nodes ∷ [])) more) walked came in
      let parts : (x : Proven) × ((proofs (sub_goal goal picked.chosen.line atom []) (nodes ∷ [])).answer ≡ Ok x) × ((more x).answer ≡ Ok walked) = ok-and (proofs (sub_goal goal picked.chosen.line atom []) (nodes ∷ [])) more walked outer.1 in
      let lows : IsBelow (sub_goal goal picked.chosen.line atom []) × Seen goal.next (goal_variables (only picked.chosen.line atom) []) = sub-below atom [] (form-low (Neg atom) form) tt in
      let first : IsProved program rank (goal_variables (only picked.chosen.line atom) []) (only picked.chosen.line atom) [] parts.0.leaf = proofs_below (sub_goal goal picked.chosen.line atom []) (nodes ∷ []) (goal_variables (only picked.chosen.line atom) []) lows.0 lows.1 parts.0 parts.1 in
      let same : record { found = []; tree = WholeTree.present (first_proof parts.0.leaf); order = parts.0.order; rest = behind 1 nodes } ≡ walked = cc parts.2 in
      subst (Walked_ failed) same (record {
        whole = selects-negation atom form (λ p a. IsTrue (is_ground_atom a) × RefutableBelow (suc rank) program (only p.chosen.line a) (first_proof parts.0.leaf ∷ []) × ◌≡◌ {A = List (List Tree)} [] [])
            (not-false (is_ground_atom atom) outer.0, (parts.0.leaf.by, subst (λ ps. IsRefutation program (WholeBelow rank program) (goal_variables (only picked.chosen.line atom) []) (only picked.chosen.line atom) ps parts.0.leaf.by) (sym (one-proof parts.0.leaf first.count)) (record { count = first.count; steps = first.steps; runs = first.runs })), refl);
        none = λ quiet. refl;
      })
  kind-walked failed number nodes (Gather fold result value atom) Gathered form walked came =
      let more : Walked → Replayed Walked = λ sub. computed_tree program total proofs walk failed goal picked (WholeTree.gathered sub.tree) number sub.rest sub.order (by_fold picked.chosen.line result (fold_of fold (values_at sub.found))) in
      let outer : (not (is_covered value atom) ≡ false) × ((and_on (walk false (sub_goal goal picked.chosen.line atom (value ∷ [])) nodes) more).answer ≡ Ok walked) = ok-unless (not (is_covered value atom)) number 4 (and_on (walk false (sub_goal goal picked.chosen.line atom (value ∷ [])) nodes) more) walked came in
      let sub : (x : Walked) × ((walk false (sub_goal goal picked.chosen.line atom (value ∷ [])) nodes).answer ≡ Ok x) × ((more x).answer ≡ Ok walked) = ok-and (walk false (sub_goal goal picked.chosen.line atom (value ∷ [])) nodes) more walked outer.1 in
      rest-walked failed (WholeTree.gathered sub.0.tree) number sub.0.rest sub.0.order (by_fold picked.chosen.line result (fold_of fold (values_at sub.0.found))) (λ bindings. FitsBy result bindings (fold_of fold (values_at sub.0.found))) (MissesBy result (fold_of fold (values_at sub.0.found)))
      (fold-means fold result value atom form nodes sub.0 sub.1)
      (λ bindings t all fits whole. selects-gather fold result value atom form nodes sub.0 sub.1 (λ p f r v a. Gathers program (WholeBelow (suc rank) program) (RefutableBelow (suc rank) program) (IsWhole program (WholeBelow (suc rank) program) (RefutableBelow (suc rank) program) t) seen p f r v a goal.terms sub.0.tree all)
      (record { covered = not-false (is_covered value atom) outer.0; cases = sub.0.found; whole = cases-whole fold result value atom form nodes sub.0 sub.1; unifier = bindings; fits = fits; rest = whole })) walked sub.2
  kind-walked failed number nodes (Gather fold result value atom) Ungathered form walked came =
      let more : Walked → Replayed Walked = λ sub. dead_tree program total proofs walk (WholeTree.ungathered sub.tree) number sub.rest sub.order (by_fold picked.chosen.line result (fold_of fold (values_at sub.found))) in
      let outer : (not (is_covered value atom) ≡ false) × ((and_on (walk false (sub_goal goal picked.chosen.line atom (value ∷ [])) nodes) more).answer ≡ Ok walked) = ok-unless (not (is_covered value atom)) number 4 (and_on (walk false (sub_goal goal picked.chosen.line atom (value ∷ [])) nodes) more) walked came in
      let sub : (x : Walked) × ((walk false (sub_goal goal picked.chosen.line atom (value ∷ [])) nodes).answer ≡ Ok x) × ((more x).answer ≡ Ok walked) = ok-and (walk false (sub_goal goal picked.chosen.line atom (value ∷ [])) nodes) more walked outer.1 in
      missed-walked failed (WholeTree.ungathered sub.0.tree) number sub.0.rest sub.0.order (by_fold picked.chosen.line result (fold_of fold (values_at sub.0.found))) (λ bindings. FitsBy result bindings (fold_of fold (values_at sub.0.found))) (MissesBy result (fold_of fold (values_at sub.0.found)))
      (fold-means fold result value atom form nodes sub.0 sub.1)
      (λ missed. selects-gather fold result value atom form nodes sub.0 sub.1 (λ p f r v a. Misses program (WholeBelow (suc rank) program) (RefutableBelow (suc rank) program) p.chosen.line f r v a sub.0.tree × ◌≡◌ {A = List (List Tree)} [] [])
      (record { covered = not-false (is_covered value atom) outer.0; cases = sub.0.found; whole = cases-whole fold result value atom form nodes sub.0 sub.1; misses = missed }, refl)) walked sub.2
  kind-walked failed number nodes f node form walked came = absurd (cc came)
