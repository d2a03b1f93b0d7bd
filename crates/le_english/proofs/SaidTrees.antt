-- The trees and leaves of a search whose goals and clauses can be said hold only atoms that can be said.
use Rattle.std.proofs.Common.{◌≡◌, ℕ, zero, suc, ◌+◌, ◌*◌, ◌^◌, ◌<◌, ◌≤◌, ◌==◌, le_trans, mul-le-mul, arith, Bool, true, false, List, [], ◌∷◌, ◌++◌, map, length, take, drop, Option, Some, None, option_map, refl, sym, ap, subst, ◌∙◌, if◌then◌else◌}
use Rattle.std.proofs.lemmas.Bool.{eqb-true}
use Rattle.std.specs.List.{AllByRecursion, cons_option}
use Rattle.le_base.specs.declared.stop.FoldKind.{FoldKind}
use Rattle.le_templates.specs.declared.part.Template.{Template}
use Rattle.le_terms.specs.Tree.{Tree}
use Rattle.le_terms.specs.declared.program.Asked.{Asked}
use Rattle.le_terms.specs.declared.program.Atom.{Atom}
use Rattle.le_terms.specs.declared.program.Clause.{Clause}
use Rattle.le_terms.specs.declared.program.Form.{Form}
use Rattle.le_terms.specs.declared.program.Form.TheVariants.{Pos, Neg, Calc, Gather}
use Rattle.le_terms.specs.declared.program.Literal.{Literal}
use Rattle.le_terms.specs.declared.program.Program.{Program}
use Rattle.le_subst.specs.Unifiers.{Bindings, value_at}
use Rattle.le_subst.specs.Solution.{solve_of}
use Rattle.le_match.specs.Sayable.{IsClauseToSay, IsProgramToSay}
use Rattle.le_proofs.specs.Goals.{Goal, Picked, Child, is_delayed, selected, children, child_by, head_equations, head_solution, sub_goal, rest_by, rest_goal, is_ground_atom, root_of, asked_terms}
use Rattle.le_proofs.specs.Proofs.{Proof, by_clause, by_computing, by_failure, by_gathering, Proofs, none, first, packed, WholeTree, success, split, computed, dead, lacking, present, gathered, ungathered, WholeBranches, no_branch, branch, Reason, clause_used, value_computed, failure_shown, cases_gathered, Step, Leaf, from_above, step_to, step_past, proof_by, then_by}
use Rattle.le_proofs.specs.SearchTree.{SearchTree, Branches, Event, stopped, up_to_first, leaves_of, seen_above, seen_outside, leaves, course_of, course_each, whole_of, whole_each, first_proof}
use Rattle.le_proofs.specs.Search.{Outcome, goes_on, fails, ends, computing, folding, is_covered, branch_before, grow_each, grow_computed, grow_lacking, grow_negation, grow_folded, grow_gather, grow_form, grow_picked, grow_at, grow_within, answers_of}
use Rattle.le_proofs.specs.Search as search_of
use Rattle.le_proofs.specs.declared.next.Next.{Next}
use Rattle.le_proofs.specs.declared.next.Next.TheVariants.{Answer, Done, Floundered, OutOfRange, Spent}
use Rattle.le_proofs.proofs.Alls.{all-both, all-weaken}
use Rattle.le_proofs.proofs.Counts.{few-within}
use Rattle.le_proofs.proofs.Courses.{leaves-append, leaves-outside, leaves-above}
use Rattle.le_proofs.proofs.Growing.{Falls, within-falls}
use Rattle.le_proofs.proofs.Picks.{pick-means}
use Rattle.le_english.proofs.NamedTerms.{IsNamed, AreNamed, MapsNamed, AnswerNamed, OutcomeNamed, replaced-named, head-named, computing-named, folding-named}
use Rattle.le_english.proofs.SaidLiterals.{AtomFits, FormFits, AllFit, GoalFits, AroundFits, atom-under, around, resolvent-fits, rest-fits, rest_goal-fits, sub-fits, query-fits, head-fits, body-fits}

all-take : {X : Type 0} (P : X → Type 0) (n : ℕ) (xs : List X) → AllByRecursion P xs → AllByRecursion P (take n xs)
all-take P zero xs h = tt
all-take P (suc n) [] h = tt
all-take P (suc n) (x ∷ xs) h = (h.0, all-take P n xs h.1)

all-drop : {X : Type 0} (P : X → Type 0) (n : ℕ) (xs : List X) → AllByRecursion P xs → AllByRecursion P (drop n xs)
all-drop P zero xs h = h
all-drop P (suc n) [] h = tt
all-drop P (suc n) (x ∷ xs) h = all-drop P n xs h.1

-- a clause whose head unifies with an atom has its predicate
same-predicate : (next : ℕ) (clause : Clause) (atom : Atom) (bindings : Bindings) → head_solution next clause atom ≡ Some bindings → clause.head.pred ≡ atom.pred
same-predicate next clause atom bindings is = by (clause.head.pred == atom.pred) refl is
  where
    by : (b : Bool) → (clause.head.pred == atom.pred) ≡ b → (if b then solve_of (head_equations next clause atom) else None) ≡ Some bindings → clause.head.pred ≡ atom.pred
    by true test solved = eqb-true clause.head.pred atom.pred test
    by false test solved = absurd (cc solved)

-- there is a literal, and there is a proof
abbrev pub HasLiteral : List Literal → Type 0
HasLiteral [] = ⊥
HasLiteral (literal ∷ literals) = Unit {0}

abbrev pub HasProof : List Proof → Type 0
HasProof [] = ⊥
HasProof (proof ∷ proofs) = Unit {0}

proof-there : (before : List Proof) (proof : Proof) (behind : List Proof) → HasProof (before ++ (proof ∷ behind))
proof-there [] proof behind = tt
proof-there (p ∷ before) proof behind = tt

module _ (users : List Template) (names : List (List ℕ)) where
  -- each atom of a proof or of a tree has its template, and its constants have names
  abbrev mutual
    pub ProofFits : Proof → Type 0
    ProofFits (by_clause number atom proofs) = AtomFits users names atom × ProofsFit proofs
    ProofFits (by_computing atom) = AtomFits users names atom
    ProofFits (by_failure atom t) = AtomFits users names atom × TreeFits t
    ProofFits (by_gathering fold result value atom t) = AtomFits users names atom × (IsNamed names result × IsNamed names value) × TreeFits t

    pub ProofsFit : Proofs → Type 0
    ProofsFit none = Unit {0}
    ProofsFit (first proof proofs) = ProofFits proof × ProofsFit proofs

    pub TreeFits : WholeTree → Type 0
    TreeFits success = Unit {0}
    TreeFits (split branches) = BranchesFit branches
    TreeFits (computed t) = TreeFits t
    TreeFits dead = Unit {0}
    TreeFits (lacking sub t) = TreeFits sub × TreeFits t
    TreeFits (present proof) = ProofFits proof
    TreeFits (gathered sub t) = TreeFits sub × TreeFits t
    TreeFits (ungathered sub) = TreeFits sub

    pub BranchesFit : WholeBranches → Type 0
    BranchesFit no_branch = Unit {0}
    BranchesFit (branch clause t branches) = TreeFits t × BranchesFit branches

  abbrev ReasonFits : Reason → Type 0
  ReasonFits (clause_used number atom) = AtomFits users names atom
  ReasonFits (value_computed atom) = AtomFits users names atom
  ReasonFits (failure_shown atom t) = AtomFits users names atom × TreeFits t
  ReasonFits (cases_gathered fold result value atom t) = AtomFits users names atom × (IsNamed names result × IsNamed names value) × TreeFits t

  abbrev StepFits : Step → Type 0
  StepFits step = MapsNamed names (value_at step.unifier) × ReasonFits step.reason

  pub packed-fits : (proofs : List Proof) → AllByRecursion ProofFits proofs → ProofsFit (packed proofs)
  packed-fits [] h = tt
  packed-fits (proof ∷ proofs) h = (h.0, packed-fits proofs h.1)

  proof-fits : (by : ℕ → Tree) → MapsNamed names by → (below : List Proof) → AllByRecursion ProofFits below → (reason : Reason) → ReasonFits reason → ProofFits (proof_by by below reason)
  proof-fits by maps below all (clause_used number atom) h = (atom-under users names by maps atom h, packed-fits below all)
  proof-fits by maps below all (value_computed atom) h = atom-under users names by maps atom h
  proof-fits by maps below all (failure_shown atom t) h = (atom-under users names by maps atom h.0, h.1)
  proof-fits by maps below all (cases_gathered fold result value atom t) h =
      (atom-under users names by maps atom h.0, (replaced-named names by maps result h.1.0, replaced-named names by maps value h.1.1), h.2)

  -- a leaf of a goal with these literals
  pub record LeafFits (literals : List Literal) (leaf : Leaf) : Type 0 where
    pub terms : AreNamed names leaf.terms
    pub maps : MapsNamed names leaf.by
    pub proofs : AllByRecursion ProofFits leaf.proofs
    pub proved : HasLiteral literals → HasProof leaf.proofs

  abbrev LeavesFit : List Literal → List Leaf → Type 0
  LeavesFit literals ls = AllByRecursion (LeafFits literals) ls

  leaf-above : (literals others : List Literal) (step : Step) → StepFits step → (leaf : Leaf) → LeafFits others leaf → LeafFits literals (from_above step leaf)
  leaf-above literals others step fits leaf h =
      let maps : MapsNamed names (then_by step.unifier leaf.by) = λ v. replaced-named names leaf.by h.maps (value_at step.unifier v) (fits.0 v) in
      let new : List Proof = take step.count (drop step.place leaf.proofs) in
      let proof : Proof = proof_by (then_by step.unifier leaf.by) new step.reason in
      let behind : AllByRecursion ProofFits (drop step.place leaf.proofs) = all-drop ProofFits step.place leaf.proofs h.proofs in
      record {
        terms = h.terms;
        maps = maps;
        proofs = all-both ProofFits (take step.place leaf.proofs) (proof ∷ drop step.count (drop step.place leaf.proofs)) (all-take ProofFits step.place leaf.proofs h.proofs)
            (proof-fits (then_by step.unifier leaf.by) maps new (all-take ProofFits step.count (drop step.place leaf.proofs) behind) step.reason fits.1, all-drop ProofFits step.count (drop step.place leaf.proofs) behind);
        proved = λ one. proof-there (take step.place leaf.proofs) proof (drop step.count (drop step.place leaf.proofs));
      }

  leaves-map : (literals others : List Literal) (step : Step) → StepFits step → (ls : List Leaf) → LeavesFit others ls → LeavesFit literals (map (from_above step) ls)
  leaves-map literals others step fits [] h = tt
  leaves-map literals others step fits (leaf ∷ ls) h = (leaf-above literals others step fits leaf h.0, leaves-map literals others step fits ls h.1)

  fit-above : (literals others : List Literal) (step : Step) → StepFits step → (events : List Event) → LeavesFit others (leaves_of events) → LeavesFit literals (leaves_of (map (seen_above step) events))
  fit-above literals others step fits events h = subst (LeavesFit literals) (sym (leaves-above step events)) (leaves-map literals others step fits (leaves_of events) h)

  fit-behind : (literals : List Literal) (events others : List Event) → LeavesFit literals (leaves_of others) → LeavesFit literals (leaves_of (map seen_outside events ++ others))
  fit-behind literals events others h = subst (LeavesFit literals) (sym (leaves-append (map seen_outside events) others ∙ ap (λ ls. ls ++ leaves_of others) (leaves-outside events))) h

  first-fits : (literals : List Literal) → HasLiteral literals → (leaf : Leaf) → LeafFits literals leaf → ProofFits (first_proof leaf)
  first-fits literals one leaf h = by leaf.proofs h.proofs (h.proved one)
    where
      by : (ps : List Proof) → AllByRecursion ProofFits ps → HasProof ps → ProofFits (first_proof (record { terms = leaf.terms; left = leaf.left; by = leaf.by; proofs = ps }))
      by [] all is = absurd is
      by (p ∷ ps) all is = all.0

  -- a grown tree of a goal with these literals
  pub record Fits (literals : List Literal) (t : SearchTree) : Type 0 where
    pub each : LeavesFit literals (leaves (course_of t))
    pub whole : TreeFits (whole_of t)

  record AllFits (literals : List Literal) (branches : Branches) : Type 0 where
    each : LeavesFit literals (leaves (course_each branches))
    whole : BranchesFit (whole_each branches)

  -- a grown tree has no more leaves than the greatest number, where it may take so many selections at most
  abbrev IsFew : (Goal → ℕ → SearchTree) → ℕ → Type 0
  IsFew grow most = (goal : Goal) (left : ℕ) → left ≤ most → length (leaves (course_of (grow goal left))) ≤ 10 ^ 18

  module _ (grow : Goal → ℕ → SearchTree) (most : ℕ) (falls : Falls grow) (few : IsFew grow most) (keeps : (goal : Goal) (left : ℕ) → left ≤ most → GoalFits users names goal → Fits goal.literals (grow goal left)) where
    abbrev ChildFits : Child → Type 0
    ChildFits child = MapsNamed names (value_at child.unifier) × GoalFits users names child.goal

    fits-branch : (literals : List Literal) (e : Next) (child : Child) (step : Step) (t : SearchTree) (more : ℕ → Branches) → StepFits step → Fits child.goal.literals t → AllFits literals (more (course_of t).left) → AllFits literals (branch_before e child step t more)
    fits-branch literals Done child step t more fits here there = record {
      each = subst (LeavesFit literals) (sym (leaves-append (map (seen_above step) (course_of t).events) (course_each (more (course_of t).left)).events))
          (all-both (LeafFits literals) (leaves_of (map (seen_above step) (course_of t).events)) (leaves (course_each (more (course_of t).left))) (fit-above literals child.goal.literals step fits (course_of t).events here.each) there.each);
      whole = (here.whole, there.whole);
    }
    fits-branch literals Answer child step t more fits here there = record { each = fit-above literals child.goal.literals step fits (course_of t).events here.each; whole = tt }
    fits-branch literals (Floundered line) child step t more fits here there = record { each = fit-above literals child.goal.literals step fits (course_of t).events here.each; whole = tt }
    fits-branch literals (OutOfRange line) child step t more fits here there = record { each = fit-above literals child.goal.literals step fits (course_of t).events here.each; whole = tt }
    fits-branch literals Spent child step t more fits here there = record { each = fit-above literals child.goal.literals step fits (course_of t).events here.each; whole = tt }

    fits-each : (literals : List Literal) (place : ℕ) (atom : Atom) → AtomFits users names atom → (others : List Child) → AllByRecursion ChildFits others → (left : ℕ) → left ≤ most → AllFits literals (grow_each grow place atom others left)
    fits-each literals place atom is [] all left low = record { each = tt; whole = tt }
    fits-each literals place atom is (child ∷ others) all left low =
        fits-branch literals (course_of (grow child.goal left)).ending child (step_to place atom child) (grow child.goal left) (grow_each grow place atom others) (all.0.0, is) (keeps child.goal left low all.0.1)
        (fits-each literals place atom is others all.1 (course_of (grow child.goal left)).left (le_trans (falls child.goal left).end low))

    module _ (goal : Goal) (left : ℕ) (low : left ≤ most) (terms : AreNamed names goal.terms) (picked : Picked Literal) (h : AroundFits users names picked) where
      children-fit : (atom : Atom) → AtomFits users names atom → (place : ℕ) (clauses : List Clause) → AllByRecursion (IsClauseToSay users names) clauses → AllByRecursion ChildFits (children goal picked atom place clauses)
      children-fit atom is place [] all = tt
      children-fit atom is place (clause ∷ clauses) all = by (head_solution goal.next clause atom) refl (head-named names goal.next clause atom (head-fits users names clause all.0) is.1) (children-fit atom is (suc place) clauses all.1)
        where
          by : (o : Option Bindings) → head_solution goal.next clause atom ≡ o → AnswerNamed names o → AllByRecursion ChildFits (children goal picked atom (suc place) clauses)
              → AllByRecursion ChildFits (cons_option (option_map (child_by goal picked place clause) o) (children goal picked atom (suc place) clauses))
          by (Some bindings) solved maps rest =
              ((maps, resolvent-fits users names goal picked clause bindings h terms (body-fits users names clause atom all.0 (same-predicate goal.next clause atom bindings solved) is.0) maps), rest)
          by None solved maps rest = rest

      fits-rest : (bindings : Bindings) → MapsNamed names (value_at bindings) → (k : ℕ) → k ≤ most → Fits (rest_by goal picked bindings).literals (grow (rest_by goal picked bindings) k)
      fits-rest bindings maps k less = keeps (rest_by goal picked bindings) k less (rest-fits users names goal picked bindings h terms maps)

      fits-computed : (literals : List Literal) (atom : Atom) → AtomFits users names atom → (outcome : Outcome) → OutcomeNamed names outcome → Fits literals (grow_computed grow goal picked atom left outcome)
      fits-computed literals atom is (goes_on bindings) maps =
          let here : Fits (rest_by goal picked bindings).literals (grow (rest_by goal picked bindings) left) = fits-rest bindings maps left low in
          record {
            each = fit-above literals (rest_by goal picked bindings).literals (step_past picked bindings (value_computed atom)) (maps, is) (course_of (grow (rest_by goal picked bindings) left)).events here.each;
            whole = here.whole;
          }
      fits-computed literals atom is fails maps = record { each = tt; whole = tt }
      fits-computed literals atom is (ends e) maps = record { each = tt; whole = tt }

      fits-lacking : (literals others : List Literal) (atom : Atom) → AtomFits users names atom → (sub : SearchTree) → (course_of sub).left ≤ most → Fits others sub → (e : Next) → Fits literals (grow_lacking grow goal picked atom sub e)
      fits-lacking literals others atom is sub less below Done =
          let step : Step = step_past picked [] (failure_shown atom (whole_of sub)) in
          let inner : SearchTree = grow (rest_goal goal picked) (course_of sub).left in
          let here : Fits (rest_goal goal picked).literals inner = keeps (rest_goal goal picked) (course_of sub).left less (rest_goal-fits users names goal picked h terms) in
          record {
            each = fit-behind literals (course_of sub).events (map (seen_above step) (course_of inner).events) (fit-above literals (rest_goal goal picked).literals step ((λ v. tt), (is, below.whole)) (course_of inner).events here.each);
            whole = (below.whole, here.whole);
          }
      fits-lacking literals others atom is sub less below Answer = record { each = fit-behind literals (course_of sub).events [] tt; whole = tt }
      fits-lacking literals others atom is sub less below (Floundered line) = record { each = fit-behind literals (course_of sub).events [] tt; whole = tt }
      fits-lacking literals others atom is sub less below (OutOfRange line) = record { each = fit-behind literals (course_of sub).events [] tt; whole = tt }
      fits-lacking literals others atom is sub less below Spent = record { each = fit-behind literals (course_of sub).events [] tt; whole = tt }

      fits-negation : (literals others : List Literal) → HasLiteral others → (atom : Atom) → AtomFits users names atom → (sub : SearchTree) → (course_of sub).left ≤ most → Fits others sub → (ls : List Leaf) → LeavesFit others ls → Fits literals (grow_negation grow goal picked atom sub ls)
      fits-negation literals others one atom is sub less below [] all = fits-lacking literals others atom is sub less below (course_of sub).ending
      fits-negation literals others one atom is sub less below (leaf ∷ ls) all = record {
        each = subst (LeavesFit literals) (sym (leaves-outside (up_to_first (course_of sub).events))) tt;
        whole = first-fits others one leaf all.0;
      }

      fits-folded : (literals others : List Literal) (fold : FoldKind) (result value : Tree) (atom : Atom) → AtomFits users names atom → IsNamed names result → IsNamed names value → (sub : SearchTree) → (course_of sub).left ≤ most → Fits others sub → (outcome : Outcome) → OutcomeNamed names outcome
          → Fits literals (grow_folded grow goal picked (Gather fold result value atom) sub outcome)
      fits-folded literals others fold result value atom is one two sub less below (goes_on bindings) maps =
          let step : Step = step_past picked bindings (cases_gathered fold result value atom (whole_of sub)) in
          let inner : SearchTree = grow (rest_by goal picked bindings) (course_of sub).left in
          let here : Fits (rest_by goal picked bindings).literals inner = fits-rest bindings maps (course_of sub).left less in
          record {
            each = fit-behind literals (course_of sub).events (map (seen_above step) (course_of inner).events) (fit-above literals (rest_by goal picked bindings).literals step (maps, (is, (one, two), below.whole)) (course_of inner).events here.each);
            whole = (below.whole, here.whole);
          }
      fits-folded literals others fold result value atom is one two sub less below fails maps = record { each = fit-behind literals (course_of sub).events [] tt; whole = below.whole }
      fits-folded literals others fold result value atom is one two sub less below (ends e) maps = record { each = fit-behind literals (course_of sub).events (stopped ∷ []) tt; whole = tt }

      fits-gather : (literals others : List Literal) (fold : FoldKind) (result value : Tree) (atom : Atom) → AtomFits users names atom → IsNamed names result → IsNamed names value → (sub : SearchTree) → (course_of sub).left ≤ most → Fits others sub → (outcome : Outcome) → OutcomeNamed names outcome → (e : Next)
          → Fits literals (grow_gather grow goal picked (Gather fold result value atom) sub outcome e)
      fits-gather literals others fold result value atom is one two sub less below outcome maps Done = fits-folded literals others fold result value atom is one two sub less below outcome maps
      fits-gather literals others fold result value atom is one two sub less below outcome maps Answer = record { each = fit-behind literals (course_of sub).events [] tt; whole = tt }
      fits-gather literals others fold result value atom is one two sub less below outcome maps (Floundered line) = record { each = fit-behind literals (course_of sub).events [] tt; whole = tt }
      fits-gather literals others fold result value atom is one two sub less below outcome maps (OutOfRange line) = record { each = fit-behind literals (course_of sub).events [] tt; whole = tt }
      fits-gather literals others fold result value atom is one two sub less below outcome maps Spent = record { each = fit-behind literals (course_of sub).events [] tt; whole = tt }

      fits-form : (literals : List Literal) (clauses : List Clause) → AllByRecursion (IsClauseToSay users names) clauses → (line : ℕ) (form : Form) → FormFits users names form → Fits literals (grow_form grow clauses goal picked left line form)
      fits-form literals clauses all line (Pos atom) is =
          let branches : AllFits literals (grow_each grow (length picked.before) atom (children goal picked atom 1 clauses) left) = fits-each literals (length picked.before) atom is (children goal picked atom 1 clauses) (children-fit atom is 1 clauses all) left low in
          record { each = branches.each; whole = branches.whole }
      fits-form literals clauses all line (Calc atom) is = fits-computed literals atom is (computing line atom) (computing-named names line atom is.1)
      fits-form literals clauses all line (Neg atom) is = by (is_ground_atom atom)
        where
          by : (b : Bool) → Fits literals (if b then grow_negation grow goal picked atom (grow (sub_goal goal line atom []) left) (leaves (course_of (grow (sub_goal goal line atom []) left))) else SearchTree.halted (Floundered line) left)
          by true =
              let sub : SearchTree = grow (sub_goal goal line atom []) left in
              let below : Fits (sub_goal goal line atom []).literals sub = keeps (sub_goal goal line atom []) left low (sub-fits users names goal line atom [] is tt) in
              fits-negation literals (sub_goal goal line atom []).literals tt atom is sub (le_trans (falls (sub_goal goal line atom []) left).end low) below (leaves (course_of sub)) below.each
          by false = record { each = tt; whole = tt }
      fits-form literals clauses all line (Gather fold result value atom) is = by (is_covered value atom)
        where
          by : (b : Bool) → Fits literals (if b then grow_gather grow goal picked (Gather fold result value atom) (grow (sub_goal goal line atom (value ∷ [])) left) (folding line fold result (leaves (course_of (grow (sub_goal goal line atom (value ∷ [])) left)))) (course_of (grow (sub_goal goal line atom (value ∷ [])) left)).ending else SearchTree.halted (Floundered line) left)
          by true =
              let sub : SearchTree = grow (sub_goal goal line atom (value ∷ [])) left in
              let fits : AtomFits users names atom = (is.0, is.1.1.1) in
              let below : Fits (sub_goal goal line atom (value ∷ [])).literals sub = keeps (sub_goal goal line atom (value ∷ [])) left low (sub-fits users names goal line atom (value ∷ []) fits (is.1.1.0, tt)) in
              fits-gather literals (sub_goal goal line atom (value ∷ [])).literals fold result value atom fits is.1.0 is.1.1.0 sub (le_trans (falls (sub_goal goal line atom (value ∷ [])) left).end low) below (folding line fold result (leaves (course_of sub)))
              (folding-named names line fold result (leaves (course_of sub)) (all-weaken (LeafFits (sub_goal goal line atom (value ∷ [])).literals) (λ leaf. AreNamed names leaf.terms) (λ leaf h. h.terms) (leaves (course_of sub)) below.each)
              (few (sub_goal goal line atom (value ∷ [])) left low) is.1.0) (course_of sub).ending
          by false = record { each = tt; whole = tt }

    fits-at : (program : Program) → AllByRecursion (IsClauseToSay users names) program.clauses → (goal : Goal) → AreNamed names goal.terms → (literals : List Literal) → AllFit users names literals → (left : ℕ) → left ≤ most → Fits literals (grow_at grow program goal literals left)
    fits-at program all goal terms [] h left low = record { each = (record { terms = terms; maps = λ v. tt; proofs = tt; proved = λ one. one }, tt); whole = tt }
    fits-at program all goal terms (literal ∷ literals) h zero low = record { each = tt; whole = tt }
    fits-at program all goal terms (literal ∷ literals) h (suc left) low = by (selected program.version (literal ∷ literals)) refl
      where
        by : (o : Option (Picked Literal)) → selected program.version (literal ∷ literals) ≡ o → Fits (literal ∷ literals) (grow_picked grow program.clauses goal literal left o)
        by None one = record { each = tt; whole = tt }
        by (Some picked) one =
            let parts : AroundFits users names picked = around users names picked (subst (AllFit users names) (pick-means (is_delayed program.version) (literal ∷ literals) picked one).all h) in
            fits-form goal left (omega (arith, low)) terms picked parts (literal ∷ literals) program.clauses all picked.chosen.line picked.chosen.form parts.chosen

  -- the leaves of a search of at most 1,000,000 selections are few
  few-leaves : (program : Program) → length program.clauses < 2 ^ 31 → (depth : ℕ) → IsFew (grow_within depth program) 1000000
  few-leaves program short depth goal left low =
      let few : length (leaves (course_of (grow_within depth program goal left))) + (course_of (grow_within depth program goal left)).left * length program.clauses ≤ 1 + left * length program.clauses = few-within program depth goal left in
      let more : left * length program.clauses ≤ 1000000 * 2 ^ 31 = mul-le-mul low (let less : length program.clauses ≤ 2 ^ 31 = omega arith in less) in
      omega arith

  fits-within : (program : Program) → length program.clauses < 2 ^ 31 → AllByRecursion (IsClauseToSay users names) program.clauses → (depth : ℕ) (goal : Goal) (left : ℕ) → left ≤ 1000000 → GoalFits users names goal → Fits goal.literals (grow_within depth program goal left)
  fits-within program short all zero goal left low h = record { each = tt; whole = tt }
  fits-within program short all (suc depth) goal left low h =
      fits-at (grow_within depth program) 1000000 (within-falls program depth) (few-leaves program short depth) (fits-within program short all depth) program all goal h.terms goal.literals h.literals left low

  asked-named : (asked : List Asked) → AreNamed names (asked_terms asked)
  asked-named [] = tt
  asked-named (one ∷ asked) = (tt, asked-named asked)

  -- the leaves of a program's answers
  pub answers-fit : (program : Program) (budget : ℕ) → length program.clauses < 2 ^ 31 → budget ≤ 1000000 → IsProgramToSay users names program → AllByRecursion (LeafFits program.query) (answers_of program budget)
  unfolding search_of.tree
  answers-fit program budget short low is =
      let all : Fits program.query (grow_within (suc budget) program (root_of program) budget) =
      fits-within program short is.clauses (suc budget) (root_of program) budget low (record { literals = query-fits users names program.query is.query; terms = asked-named program.asked }) in
      all.each
