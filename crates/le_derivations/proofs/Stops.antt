-- Walks that end before their trees are done.
use Rattle.std.proofs.Common.{◌≡◌, ℕ, suc, false, true, Bool, List, [], ◌∷◌, ◌++◌, map, Some, None, refl, sym, ap, subst, ◌∙◌, append-nil, if◌then◌else◌}
use Rattle.le_base.specs.declared.stop.FoldKind.{FoldKind}
use Rattle.le_terms.specs.Tree.{Tree}
use Rattle.le_terms.specs.declared.program.Atom.{Atom}
use Rattle.le_terms.specs.declared.program.Form.{Form}
use Rattle.le_terms.specs.declared.program.Form.TheVariants.{Neg, Calc, Gather as Gathering}
use Rattle.le_terms.specs.declared.program.Literal.{Literal}
use Rattle.le_terms.specs.declared.program.Program.{Program}
use Rattle.le_proofs.specs.declared.node.Node.{Node}
use Rattle.le_proofs.specs.declared.next.Next.{Next}
use Rattle.le_proofs.specs.declared.next.Next.TheVariants.{Answer, Done, Floundered, OutOfRange, Spent}
use Rattle.le_proofs.specs.Goals.{Goal, Picked, selected, sub_goal, is_ground_atom}
use Rattle.le_proofs.specs.Proofs.{Step, Leaf}
use Rattle.le_proofs.specs.SearchTree.{SearchTree, Event, tried, folded, stopped, leaves_of, leaves, begun, course_of}
use Rattle.le_proofs.specs.SearchTree as search
use Rattle.le_proofs.specs.Search.{Outcome, ends, computing, folding, is_covered, grow_computed, grow_negation, grow_lacking, grow_gather, grow_folded, grow_picked, grow_at, tree}
use Rattle.le_proofs.specs.UnderWay.{leaf_along, IsStop}
use Rattle.le_proofs.proofs.Growing.{tree-grows}
use Rattle.le_derivations.specs.Walks.{Walk, walk_of, EndsWith, prefixed, along, thens, Choice, choice_walk, choices_walk, walk_under_way}
use Rattle.le_derivations.proofs.WalkLaws.{tree-picked, tried-leaves, folded-leaves}

-- after an end other than Done nothing is walked
thens-stop : (e : Next) (walk : Walk) (more : ℕ → Walk) → IsStop e → thens e walk more ≡ walk
thens-stop Done walk more stop = absurd stop
thens-stop Answer walk more stop = absurd stop
thens-stop (Floundered line) walk more stop = refl
thens-stop (OutOfRange line) walk more stop = refl
thens-stop Spent walk more stop = refl

choices-stop : (program : Program) (choices : List Choice) (walk : Walk) → IsStop walk.ending → choices_walk program choices walk ≡ walk
choices-stop program [] walk stop = refl
choices-stop program (choice ∷ choices) walk stop =
    let same : thens walk.ending walk (choice_walk program choice) ≡ walk = thens-stop walk.ending walk (choice_walk program choice) stop in
    ap (choices_walk program choices) same ∙ choices-stop program choices walk stop

-- a walk under way ends as the tree of the goal that is visited next does
pub walk-halts : (program : Program) (choices : List Choice) (found : List Leaf) (nodes : List Node) (path : List Step) (goal : Goal) (left : ℕ) (e : Next) (less : ℕ) → IsStop e → EndsWith (walk_of (tree program goal left)) [] e less
    → EndsWith (walk_under_way program choices found nodes path (Some goal) left) found e less
walk-halts program choices found nodes path goal left e less stop h =
    let walk : Walk = prefixed found nodes (along path (walk_of (tree program goal left))) in
    let same : choices_walk program choices walk ≡ walk = choices-stop program choices walk (subst IsStop (sym h.ending_) stop) in
    record {
      leaves_ = ap (λ w. w.leaves) same ∙ (ap (λ ls. found ++ map (leaf_along path) ls) h.leaves_ ∙ append-nil found);
      ending_ = ap (λ w. w.ending) same ∙ h.ending_;
      left_ = ap (λ w. w.left) same ∙ h.left_;
    }

module _ (program : Program) where
  -- no selection is left
  pub spent-ends : (goal : Goal) (literal : Literal) (literals : List Literal) → goal.literals ≡ literal ∷ literals → EndsWith (walk_of (tree program goal 0)) [] Spent 0
  spent-ends goal literal literals are =
      subst (λ t. EndsWith (walk_of t) [] Spent 0) (sym (tree-grows program goal 0 ∙ ap (λ ls. grow_at (tree program) program goal ls 0) are)) (record { leaves_ = refl; ending_ = refl; left_ = refl })

  -- no literal can be selected
  pub unselected-ends : (goal : Goal) (literal : Literal) (literals : List Literal) (left : ℕ) → goal.literals ≡ literal ∷ literals → selected program.version (literal ∷ literals) ≡ None
      → EndsWith (walk_of (tree program goal (suc left))) [] (Floundered literal.line) (suc left)
  unselected-ends goal literal literals left are none =
      subst (λ t. EndsWith (walk_of t) [] (Floundered literal.line) (suc left))
      (sym (tree-grows program goal (suc left) ∙ (ap (λ ls. grow_at (tree program) program goal ls (suc left)) are ∙ ap (grow_picked (tree program) program.clauses goal literal left) none)))
      (record { leaves_ = refl; ending_ = refl; left_ = refl })

  module _ (goal : Goal) (literal : Literal) (literals : List Literal) (are : goal.literals ≡ literal ∷ literals) (picked : Picked Literal) (one : selected program.version (literal ∷ literals) ≡ Some picked) (left : ℕ) where
    -- a computed literal ends the visit
    pub computed-ends : (atom : Atom) (e : Next) → picked.chosen.form ≡ Calc atom → computing picked.chosen.line atom ≡ ends e → EndsWith (walk_of (tree program goal (suc left))) [] e left
    computed-ends atom e is outcome =
        subst (λ t. EndsWith (walk_of t) [] e left) (sym (tree-picked program goal literal literals picked (Calc atom) left are one is ∙ ap (grow_computed (tree program) goal picked atom left) outcome))
        (record { leaves_ = refl; ending_ = refl; left_ = refl })

    module _ (atom : Atom) (is : picked.chosen.form ≡ Neg atom) where
      abbrev negation_sub : SearchTree
      negation_sub = tree program (sub_goal goal picked.chosen.line atom []) left

      by_ground : (b : Bool) → is_ground_atom atom ≡ b
          → tree program goal (suc left) ≡ (if b then grow_negation (tree program) goal picked atom negation_sub (leaves (course_of negation_sub)) else search.halted (Floundered picked.chosen.line) left)
      by_ground b ground =
          tree-picked program goal literal literals picked (Neg atom) left are one is
          ∙ ap (λ x. if x then grow_negation (tree program) goal picked atom negation_sub (leaves (course_of negation_sub)) else search.halted (Floundered picked.chosen.line) left) ground

      -- a negation whose atom holds a variable ends it
      pub nonground-ends : is_ground_atom atom ≡ false → EndsWith (walk_of (tree program goal (suc left))) [] (Floundered picked.chosen.line) left
      nonground-ends ground = subst (λ t. EndsWith (walk_of t) [] (Floundered picked.chosen.line) left) (sym (by_ground false ground)) (record { leaves_ = refl; ending_ = refl; left_ = refl })

      trying-is : (e : Next) → IsStop e → grow_lacking (tree program) goal picked atom negation_sub e ≡ search.trying negation_sub
      trying-is Done stop = absurd stop
      trying-is Answer stop = absurd stop
      trying-is (Floundered line) stop = refl
      trying-is (OutOfRange line) stop = refl
      trying-is Spent stop = refl

      -- so does one whose atom's visit ends
      pub negation-ends : is_ground_atom atom ≡ true → (e : Next) (less : ℕ) → IsStop e → EndsWith (walk_of (tree program (sub_goal goal picked.chosen.line atom []) left)) [] e less → EndsWith (walk_of (tree program goal (suc left))) [] e less
      negation-ends ground e less stop h =
          let same : tree program goal (suc left) ≡ search.trying negation_sub =
          by_ground true ground
          ∙ (ap (grow_negation (tree program) goal picked atom negation_sub) h.leaves_
          ∙ (ap (grow_lacking (tree program) goal picked atom negation_sub) h.ending_ ∙ trying-is e stop)) in
          subst (λ t. EndsWith (walk_of t) [] e less) (sym same) (record { leaves_ = tried-leaves (course_of negation_sub).events []; ending_ = h.ending_; left_ = h.left_ })

    module _ (fold : FoldKind) (result value : Tree) (atom : Atom) (is : picked.chosen.form ≡ Gathering fold result value atom) where
      abbrev gather_sub : SearchTree
      gather_sub = tree program (sub_goal goal picked.chosen.line atom (value ∷ [])) left

      abbrev gather_form : Form
      gather_form = Gathering fold result value atom

      by_covered : (b : Bool) → is_covered value atom ≡ b
          → tree program goal (suc left) ≡ (if b then grow_gather (tree program) goal picked gather_form gather_sub (folding picked.chosen.line fold result (leaves (course_of gather_sub))) (course_of gather_sub).ending else search.halted (Floundered picked.chosen.line) left)
      by_covered b covered =
          tree-picked program goal literal literals picked gather_form left are one is
          ∙ ap (λ x. if x then grow_gather (tree program) goal picked gather_form gather_sub (folding picked.chosen.line fold result (leaves (course_of gather_sub))) (course_of gather_sub).ending else search.halted (Floundered picked.chosen.line) left) covered

      -- a gather whose atom holds a variable that its value doesn't hold ends it
      pub uncovered-ends : is_covered value atom ≡ false → EndsWith (walk_of (tree program goal (suc left))) [] (Floundered picked.chosen.line) left
      uncovered-ends covered = subst (λ t. EndsWith (walk_of t) [] (Floundered picked.chosen.line) left) (sym (by_covered false covered)) (record { leaves_ = refl; ending_ = refl; left_ = refl })

      gathering-is : (o : Outcome) (e : Next) → IsStop e → grow_gather (tree program) goal picked gather_form gather_sub o e ≡ search.gathering gather_sub
      gathering-is o Done stop = absurd stop
      gathering-is o Answer stop = absurd stop
      gathering-is o (Floundered line) stop = refl
      gathering-is o (OutOfRange line) stop = refl
      gathering-is o Spent stop = refl

      -- so does one whose atom's visit ends
      pub gather-ends : is_covered value atom ≡ true → (found : List Leaf) (e : Next) (less : ℕ) → IsStop e → EndsWith (walk_of (tree program (sub_goal goal picked.chosen.line atom (value ∷ [])) left)) found e less → EndsWith (walk_of (tree program goal (suc left))) [] e less
      gather-ends covered found e less stop h =
          let o : Outcome = folding picked.chosen.line fold result (leaves (course_of gather_sub)) in
          let same : tree program goal (suc left) ≡ search.gathering gather_sub =
          by_covered true covered ∙ (ap (grow_gather (tree program) goal picked gather_form gather_sub o) h.ending_ ∙ gathering-is o e stop) in
          subst (λ t. EndsWith (walk_of t) [] e less) (sym same) (record { leaves_ = folded-leaves (course_of gather_sub).events []; ending_ = h.ending_; left_ = h.left_ })

      -- and one whose values have no result
      pub folded-ends : is_covered value atom ≡ true → (found : List Leaf) (e : Next) (less : ℕ) → EndsWith (walk_of (tree program (sub_goal goal picked.chosen.line atom (value ∷ [])) left)) found Done less → folding picked.chosen.line fold result found ≡ ends e
          → EndsWith (walk_of (tree program goal (suc left))) [] e less
      folded-ends covered found e less h outcome =
          let o : Outcome = folding picked.chosen.line fold result (leaves (course_of gather_sub)) in
          let result_is : o ≡ ends e = ap (folding picked.chosen.line fold result) h.leaves_ ∙ outcome in
          let same : tree program goal (suc left) ≡ search.unfolded gather_sub e =
          by_covered true covered ∙ (ap (grow_gather (tree program) goal picked gather_form gather_sub o) h.ending_ ∙ ap (grow_folded (tree program) goal picked gather_form gather_sub) result_is) in
          subst (λ t. EndsWith (walk_of t) [] e less) (sym same) (record { leaves_ = folded-leaves (course_of gather_sub).events (stopped ∷ []); ending_ = refl; left_ = h.left_ })
