-- What a walk under way comes to, step by step.
use Rattle.std.proofs.Common.{◌≡◌, ℕ, suc, true, List, [], ◌∷◌, ◌++◌, map, length, Option, Some, None, refl, sym, ap, ap₂, ◌∙◌, append_assoc, append-nil, if◌then◌else◌}
use Rattle.std.proofs.lemmas.List.{map-append}
use Rattle.le_base.specs.declared.stop.FoldKind.{FoldKind}
use Rattle.le_terms.specs.Tree.{Tree}
use Rattle.le_terms.specs.declared.program.Atom.{Atom}
use Rattle.le_terms.specs.declared.program.Form.{Form}
use Rattle.le_terms.specs.declared.program.Form.TheVariants.{Pos, Neg, Calc, Gather as Gathering}
use Rattle.le_terms.specs.declared.program.Literal.{Literal}
use Rattle.le_terms.specs.declared.program.Program.{Program}
use Rattle.le_subst.specs.Unifiers.{Bindings}
use Rattle.le_proofs.specs.declared.node.Node.{Node}
use Rattle.le_proofs.specs.declared.node.Node.TheVariants.{Split, Branch, Computed, Lacking, Present, Gathered, Ungathered, Success, Dead}
use Rattle.le_proofs.specs.declared.next.Next.{Next}
use Rattle.le_proofs.specs.declared.next.Next.TheVariants.{Answer, Done, Floundered, OutOfRange, Spent}
use Rattle.le_proofs.specs.Goals.{Goal, Picked, Child, selected, children, rest_by, rest_goal, sub_goal, is_ground_atom}
use Rattle.le_proofs.specs.Proofs.{Step, Leaf, from_above, step_to, step_past, value_computed, failure_shown, cases_gathered}
use Rattle.le_proofs.specs.SearchTree.{SearchTree, Branches, Event, tried, folded, leaves_of, leaves, begun, seen_outside, seen_above, up_to_first, course_of, course_each, empty_leaf, first_proof, whole_of}
use Rattle.le_proofs.specs.SearchTree as search
use Rattle.le_proofs.specs.Derivations.{proof_nodes}
use Rattle.le_proofs.specs.Search.{goes_on, fails, computing, folding, is_covered, branch_before, grow_each, grow_computed, grow_negation, grow_lacking, grow_gather, grow_folded, grow_form, grow_picked, grow_at, tree}
use Rattle.le_proofs.specs.UnderWay.{leaf_along}
use Rattle.le_proofs.proofs.Courses.{leaves-append, leaves-outside, leaves-above}
use Rattle.le_proofs.proofs.Growing.{tree-grows}
use Rattle.le_derivations.specs.Walks.{visit_nodes, visit_each, Walk, walk_of, walk_each, done, prefixed, along, thens, Choice, choice_walk, choices_walk, here, walk_under_way}

-- walks are equal where their leaves and nodes are
pub walks : (ls ms : List Leaf) (ns os : List Node) (e : Next) (left : ℕ) → ls ≡ ms → ns ≡ os
    → (let w : Walk = record { leaves = ls; nodes = ns; ending = e; left = left } in w) ≡ (let w : Walk = record { leaves = ms; nodes = os; ending = e; left = left } in w)
walks ls ms ns os e left leaves_ nodes_ = ap₂ (λ l n. let w : Walk = record { leaves = l; nodes = n; ending = e; left = left } in w) leaves_ nodes_

-- leaves and nodes before others
prefixed-prefixed : (found more : List Leaf) (nodes extra : List Node) (walk : Walk) → prefixed found nodes (prefixed more extra walk) ≡ prefixed (found ++ more) (nodes ++ extra) walk
prefixed-prefixed found more nodes extra walk =
    walks (found ++ (more ++ walk.leaves)) ((found ++ more) ++ walk.leaves) (nodes ++ (extra ++ walk.nodes)) ((nodes ++ extra) ++ walk.nodes) walk.ending walk.left
    (sym (append_assoc found more walk.leaves)) (sym (append_assoc nodes extra walk.nodes))

prefixed-thens : (found : List Leaf) (nodes : List Node) (e : Next) (walk : Walk) (more : ℕ → Walk) → prefixed found nodes (thens e walk more) ≡ thens e (prefixed found nodes walk) more
prefixed-thens found nodes Done walk more = prefixed-prefixed found walk.leaves nodes walk.nodes (more walk.left)
prefixed-thens found nodes Answer walk more = refl
prefixed-thens found nodes (Floundered line) walk more = refl
prefixed-thens found nodes (OutOfRange line) walk more = refl
prefixed-thens found nodes Spent walk more = refl

along-thens : (path : List Step) (e : Next) (walk : Walk) (more : ℕ → Walk) → along path (thens e walk more) ≡ thens e (along path walk) (λ k. along path (more k))
along-thens path Done walk more =
    let rest : Walk = more walk.left in
    walks (map (leaf_along path) (walk.leaves ++ rest.leaves)) (map (leaf_along path) walk.leaves ++ map (leaf_along path) rest.leaves) (walk.nodes ++ rest.nodes) (walk.nodes ++ rest.nodes) rest.ending rest.left
    (map-append (leaf_along path) walk.leaves rest.leaves) refl
along-thens path Answer walk more = refl
along-thens path (Floundered line) walk more = refl
along-thens path (OutOfRange line) walk more = refl
along-thens path Spent walk more = refl

-- leaves below one step more
below-step : (path : List Step) (step : Step) (ls : List Leaf) → map (leaf_along path) (map (from_above step) ls) ≡ map (leaf_along (step ∷ path)) ls
below-step path step [] = refl
below-step path step (leaf ∷ ls) = ap (λ ms. leaf_along path (from_above step leaf) ∷ ms) (below-step path step ls)

step-leaves : (path : List Step) (step : Step) (events : List Event) → map (leaf_along path) (leaves_of (map (seen_above step) events)) ≡ map (leaf_along (step ∷ path)) (leaves_of events)
step-leaves path step events = ap (map (leaf_along path)) (leaves-above step events) ∙ below-step path step (leaves_of events)

-- a subsidiary visit that was begun has no leaves for the visit around it
pub tried-leaves : (events more : List Event) → leaves_of (begun tried events ++ more) ≡ leaves_of more
tried-leaves events more = leaves-append (begun tried events) more ∙ ap (λ ls. ls ++ leaves_of more) (leaves-outside events)

pub folded-leaves : (events more : List Event) → leaves_of (begun folded events ++ more) ≡ leaves_of more
folded-leaves events more = leaves-append (begun folded events) more ∙ ap (λ ls. ls ++ leaves_of more) (leaves-outside events)

-- a tree below a step
abbrev pub below : List Step → Step → SearchTree → Walk
below path step t = along (step ∷ path) (walk_of t)

computed-walk : (path : List Step) (step : Step) (t : SearchTree) → along path (walk_of (search.computed step t)) ≡ prefixed [] (Computed ∷ []) (below path step t)
computed-walk path step t =
    let c = course_of t in
    walks (map (leaf_along path) (leaves_of (map (seen_above step) c.events))) (map (leaf_along (step ∷ path)) (leaves_of c.events)) (Computed ∷ visit_nodes t) (Computed ∷ visit_nodes t) c.ending c.left (step-leaves path step c.events) refl

lacking-walk : (path : List Step) (sub : SearchTree) (step : Step) (t : SearchTree) → along path (walk_of (search.lacking sub step t)) ≡ prefixed [] (Lacking ∷ visit_nodes sub) (below path step t)
lacking-walk path sub step t =
    let c = course_of t in
    walks (map (leaf_along path) (leaves_of (begun tried (course_of sub).events ++ map (seen_above step) c.events))) (map (leaf_along (step ∷ path)) (leaves_of c.events)) (Lacking ∷ (visit_nodes sub ++ visit_nodes t)) (Lacking ∷ (visit_nodes sub ++ visit_nodes t)) c.ending c.left
    (ap (map (leaf_along path)) (tried-leaves (course_of sub).events (map (seen_above step) c.events)) ∙ step-leaves path step c.events) refl

present-walk : (path : List Step) (sub : SearchTree) (leaf : Leaf) → along path (walk_of (search.present sub leaf)) ≡ prefixed [] (Present ∷ proof_nodes (first_proof leaf)) (done leaf.left)
present-walk path sub leaf =
    walks (map (leaf_along path) (leaves_of (begun tried (up_to_first (course_of sub).events)))) [] (Present ∷ proof_nodes (first_proof leaf)) ((Present ∷ proof_nodes (first_proof leaf)) ++ []) Done leaf.left
    (ap (map (leaf_along path)) (leaves-outside (up_to_first (course_of sub).events))) (sym (append-nil (Present ∷ proof_nodes (first_proof leaf))))

gathered-walk : (path : List Step) (sub : SearchTree) (step : Step) (t : SearchTree) → along path (walk_of (search.gathered sub step t)) ≡ prefixed [] (Gathered ∷ visit_nodes sub) (below path step t)
gathered-walk path sub step t =
    let c = course_of t in
    walks (map (leaf_along path) (leaves_of (begun folded (course_of sub).events ++ map (seen_above step) c.events))) (map (leaf_along (step ∷ path)) (leaves_of c.events)) (Gathered ∷ (visit_nodes sub ++ visit_nodes t)) (Gathered ∷ (visit_nodes sub ++ visit_nodes t)) c.ending c.left
    (ap (map (leaf_along path)) (folded-leaves (course_of sub).events (map (seen_above step) c.events)) ∙ step-leaves path step c.events) refl

ungathered-walk : (path : List Step) (sub : SearchTree) → along path (walk_of (search.ungathered sub)) ≡ prefixed [] (Ungathered ∷ visit_nodes sub) (done (course_of sub).left)
ungathered-walk path sub =
    walks (map (leaf_along path) (leaves_of (begun folded (course_of sub).events ++ []))) [] (Ungathered ∷ visit_nodes sub) ((Ungathered ∷ visit_nodes sub) ++ []) Done (course_of sub).left
    (ap (map (leaf_along path)) (folded-leaves (course_of sub).events [])) (sym (append-nil (Ungathered ∷ visit_nodes sub)))

-- a branch and those after it
each-walk : (path : List Step) (child : Child) (step : Step) (t : SearchTree) (more : ℕ → Branches) (e : Next) → e ≡ (course_of t).ending
    → along path (walk_each (branch_before e child step t more)) ≡ thens e (prefixed [] (Branch child.clause ∷ []) (below path step t)) (λ k. along path (walk_each (more k)))
each-walk path child step t more Done same =
    let c = course_of t in
    let rest = course_each (more c.left) in
    walks (map (leaf_along path) (leaves_of (map (seen_above step) c.events ++ rest.events))) (map (leaf_along (step ∷ path)) (leaves_of c.events) ++ map (leaf_along path) (leaves_of rest.events))
    (Branch child.clause ∷ (visit_nodes t ++ visit_each (more c.left))) (Branch child.clause ∷ (visit_nodes t ++ visit_each (more c.left))) rest.ending rest.left
    (ap (map (leaf_along path)) (leaves-append (map (seen_above step) c.events) rest.events) ∙ (map-append (leaf_along path) (leaves_of (map (seen_above step) c.events)) (leaves_of rest.events)
    ∙ ap (λ ls. ls ++ map (leaf_along path) (leaves_of rest.events)) (step-leaves path step c.events))) refl
each-walk path child step t more Answer same = let c = course_of t in walks (map (leaf_along path) (leaves_of (map (seen_above step) c.events))) (map (leaf_along (step ∷ path)) (leaves_of c.events)) (Branch child.clause ∷ visit_nodes t) (Branch child.clause ∷ visit_nodes t) c.ending c.left (step-leaves path step c.events) refl
each-walk path child step t more (Floundered line) same = let c = course_of t in walks (map (leaf_along path) (leaves_of (map (seen_above step) c.events))) (map (leaf_along (step ∷ path)) (leaves_of c.events)) (Branch child.clause ∷ visit_nodes t) (Branch child.clause ∷ visit_nodes t) c.ending c.left (step-leaves path step c.events) refl
each-walk path child step t more (OutOfRange line) same = let c = course_of t in walks (map (leaf_along path) (leaves_of (map (seen_above step) c.events))) (map (leaf_along (step ∷ path)) (leaves_of c.events)) (Branch child.clause ∷ visit_nodes t) (Branch child.clause ∷ visit_nodes t) c.ending c.left (step-leaves path step c.events) refl
each-walk path child step t more Spent same = let c = course_of t in walks (map (leaf_along path) (leaves_of (map (seen_above step) c.events))) (map (leaf_along (step ∷ path)) (leaves_of c.events)) (Branch child.clause ∷ visit_nodes t) (Branch child.clause ∷ visit_nodes t) c.ending c.left (step-leaves path step c.events) refl

-- what was found, and then nothing
found-done : (found : List Leaf) (nodes : List Node) (left : ℕ) → prefixed found nodes (done left) ≡ (let w : Walk = record { leaves = found; nodes = nodes; ending = Done; left = left } in w)
found-done found nodes left = walks (found ++ []) found (nodes ++ []) nodes Done left (append-nil found) (append-nil nodes)

-- what was found, nothing, and then a walk
done-then : (found : List Leaf) (nodes : List Node) (left : ℕ) (more : ℕ → Walk) → thens Done (prefixed found nodes (done left)) more ≡ prefixed found nodes (more left)
done-then found nodes left more = ap₂ (λ ls ns. prefixed ls ns (more left)) (append-nil found) (append-nil nodes)

module _ (program : Program) where
  -- the tree of a goal without literals
  pub tree-empty : (goal : Goal) (left : ℕ) → goal.literals ≡ [] → tree program goal left ≡ search.success goal.terms left
  tree-empty goal left none = tree-grows program goal left ∙ ap (λ ls. grow_at (tree program) program goal ls left) none

  -- the tree of a goal by its selected literal
  pub tree-picked : (goal : Goal) (literal : Literal) (literals : List Literal) (picked : Picked Literal) (form : Form) (left : ℕ) → goal.literals ≡ literal ∷ literals → selected program.version (literal ∷ literals) ≡ Some picked → picked.chosen.form ≡ form
      → tree program goal (suc left) ≡ grow_form (tree program) program.clauses goal picked left picked.chosen.line form
  tree-picked goal literal literals picked form left are one is =
      tree-grows program goal (suc left)
      ∙ (ap (λ ls. grow_at (tree program) program goal ls (suc left)) are
      ∙ (ap (λ o. grow_picked (tree program) program.clauses goal literal left o) one
      ∙ ap (λ f. grow_form (tree program) program.clauses goal picked left picked.chosen.line f) is))

  module _ (choices : List Choice) (found : List Leaf) (nodes : List Node) where
    -- a goal whose tree comes to this
    comes : (path : List Step) (goal : Goal) (left less : ℕ) (more : List Leaf) (extra : List Node) (after : List Step) (next : Option Goal) → along path (walk_of (tree program goal left)) ≡ prefixed more extra (here program after next less)
        → walk_under_way program choices found nodes path (Some goal) left ≡ walk_under_way program choices (found ++ more) (nodes ++ extra) after next less
    comes path goal left less more extra after next law =
        ap (choices_walk program choices) (ap (prefixed found nodes) law ∙ prefixed-prefixed found more nodes extra (here program after next less))

    -- the same, where it finds no leaf
    comes-to : (path : List Step) (goal : Goal) (left less : ℕ) (extra : List Node) (after : List Step) (next : Option Goal) → along path (walk_of (tree program goal left)) ≡ prefixed [] extra (here program after next less)
        → walk_under_way program choices found nodes path (Some goal) left ≡ walk_under_way program choices found (nodes ++ extra) after next less
    comes-to path goal left less extra after next law =
        comes path goal left less [] extra after next law ∙ ap (λ ls. walk_under_way program choices ls (nodes ++ extra) after next less) (append-nil found)

    -- a success leaf
    pub walk-leaf : (path : List Step) (goal : Goal) (left : ℕ) → goal.literals ≡ []
        → walk_under_way program choices found nodes path (Some goal) left ≡ walk_under_way program choices (found ++ leaf_along path (empty_leaf goal.terms left) ∷ []) (nodes ++ Success ∷ []) [] None left
    walk-leaf path goal left none =
        comes path goal left left (leaf_along path (empty_leaf goal.terms left) ∷ []) (Success ∷ []) [] None (ap (λ t. along path (walk_of t)) (tree-empty goal left none))

    -- no child is left
    pub walk-no-child : (path before after : List Step) (place : ℕ) (atom : Atom) (left : ℕ)
        → walk_under_way program (record { path = path; place = place; atom = atom; others = [] } ∷ choices) found nodes before None left ≡ walk_under_way program choices found nodes after None left
    walk-no-child path before after place atom left = ap (choices_walk program choices) (done-then found nodes left (λ k. done k))

    -- the next child is visited
    pub walk-child : (path before : List Step) (place : ℕ) (atom : Atom) (child : Child) (others : List Child) (left : ℕ)
        → walk_under_way program (record { path = path; place = place; atom = atom; others = child ∷ others } ∷ choices) found nodes before None left
        ≡ walk_under_way program (record { path = path; place = place; atom = atom; others = others } ∷ choices) found (nodes ++ Branch child.clause ∷ []) (step_to place atom child ∷ path) (Some child.goal) left
    walk-child path before place atom child others left =
        let step : Step = step_to place atom child in
        let t : SearchTree = tree program child.goal left in
        let e : Next = (course_of t).ending in
        let more : ℕ → Walk = λ k. along path (walk_each (grow_each (tree program) place atom others k)) in
        let branch_ : Walk = prefixed [] (Branch child.clause ∷ []) (below path step t) in
        ap (choices_walk program choices)
        (done-then found nodes left (choice_walk program (record { path = path; place = place; atom = atom; others = child ∷ others }))
        ∙ (ap (prefixed found nodes) (each-walk path child step t (grow_each (tree program) place atom others) e refl)
        ∙ (prefixed-thens found nodes e branch_ more
        ∙ ap (λ w. thens e w more) (prefixed-prefixed found [] nodes (Branch child.clause ∷ []) (below path step t)
        ∙ ap (λ ls. prefixed ls (nodes ++ Branch child.clause ∷ []) (below path step t)) (append-nil found)))))

    -- nothing is left
    pub walk-done : (path : List Step) (left : ℕ) → walk_under_way program [] found nodes path None left ≡ (let w : Walk = record { leaves = found; nodes = nodes; ending = Done; left = left } in w)
    walk-done path left = found-done found nodes left

    module _ (path : List Step) (goal : Goal) (literal : Literal) (literals : List Literal) (are : goal.literals ≡ literal ∷ literals) (picked : Picked Literal) (one : selected program.version (literal ∷ literals) ≡ Some picked) (left : ℕ) where
      abbrev grown : Form → SearchTree
      grown form = grow_form (tree program) program.clauses goal picked left picked.chosen.line form

      by_form : (form : Form) → picked.chosen.form ≡ form → along path (walk_of (tree program goal (suc left))) ≡ along path (walk_of (grown form))
      by_form form is = ap (λ t. along path (walk_of t)) (tree-picked goal literal literals picked form left are one is)

      -- an atom: its children are left open
      pub walk-atom : (atom : Atom) → picked.chosen.form ≡ Pos atom
          → walk_under_way program choices found nodes path (Some goal) (suc left)
          ≡ walk_under_way program (record { path = path; place = length picked.before; atom = atom; others = children goal picked atom 1 program.clauses } ∷ choices) found (nodes ++ Split (length (children goal picked atom 1 program.clauses)) ∷ []) [] None left
      walk-atom atom is =
          let all : List Child = children goal picked atom 1 program.clauses in
          let choice : Choice = record { path = path; place = length picked.before; atom = atom; others = all } in
          ap (choices_walk program choices)
          (ap (prefixed found nodes) (by_form (Pos atom) is)
          ∙ (prefixed-prefixed found [] nodes (Split (length all) ∷ []) (choice_walk program choice left)
          ∙ (ap (λ ls. prefixed ls (nodes ++ Split (length all) ∷ []) (choice_walk program choice left)) (append-nil found)
          ∙ sym (done-then found (nodes ++ Split (length all) ∷ []) left (choice_walk program choice)))))

      -- a computed literal
      pub walk-computed : (atom : Atom) (bindings : Bindings) → picked.chosen.form ≡ Calc atom → computing picked.chosen.line atom ≡ goes_on bindings
          → walk_under_way program choices found nodes path (Some goal) (suc left) ≡ walk_under_way program choices found (nodes ++ Computed ∷ []) (step_past picked bindings (value_computed atom) ∷ path) (Some (rest_by goal picked bindings)) left
      walk-computed atom bindings is outcome =
          comes-to path goal (suc left) left (Computed ∷ []) (step_past picked bindings (value_computed atom) ∷ path) (Some (rest_by goal picked bindings))
          (by_form (Calc atom) is ∙ (ap (λ o. along path (walk_of (grow_computed (tree program) goal picked atom left o))) outcome ∙ computed-walk path (step_past picked bindings (value_computed atom)) (tree program (rest_by goal picked bindings) left)))

      pub walk-dead : (atom : Atom) → picked.chosen.form ≡ Calc atom → computing picked.chosen.line atom ≡ fails
          → walk_under_way program choices found nodes path (Some goal) (suc left) ≡ walk_under_way program choices found (nodes ++ Dead ∷ []) [] None left
      walk-dead atom is outcome =
          comes-to path goal (suc left) left (Dead ∷ []) [] None (by_form (Calc atom) is ∙ ap (λ o. along path (walk_of (grow_computed (tree program) goal picked atom left o))) outcome)

      -- a negation whose atom's tree is this
      module _ (atom : Atom) (is : picked.chosen.form ≡ Neg atom) (ground : is_ground_atom atom ≡ true) where
        abbrev pub sub_tree : SearchTree
        sub_tree = tree program (sub_goal goal picked.chosen.line atom []) left

        by_leaves : along path (walk_of (tree program goal (suc left))) ≡ along path (walk_of (grow_negation (tree program) goal picked atom sub_tree (leaves (course_of sub_tree))))
        by_leaves = by_form (Neg atom) is ∙ ap (λ b. along path (walk_of (if b then grow_negation (tree program) goal picked atom sub_tree (leaves (course_of sub_tree)) else search.halted (Floundered picked.chosen.line) left))) ground

        -- it is done without a success leaf
        pub walk-lacking : (sub : List Node) (less : ℕ) → walk_of sub_tree ≡ (let w : Walk = record { leaves = []; nodes = sub; ending = Done; left = less } in w)
            → walk_under_way program choices found nodes path (Some goal) (suc left)
            ≡ walk_under_way program choices found (nodes ++ Lacking ∷ sub) (step_past picked [] (failure_shown atom (whole_of sub_tree)) ∷ path) (Some (rest_goal goal picked)) less
        walk-lacking sub less same =
            let step : Step = step_past picked [] (failure_shown atom (whole_of sub_tree)) in
            comes-to path goal (suc left) less (Lacking ∷ sub) (step ∷ path) (Some (rest_goal goal picked))
            (by_leaves
            ∙ (ap (λ ls. along path (walk_of (grow_negation (tree program) goal picked atom sub_tree ls))) (ap (λ w. w.leaves) same)
            ∙ (ap (λ e. along path (walk_of (grow_lacking (tree program) goal picked atom sub_tree e))) (ap (λ w. w.ending) same)
            ∙ (lacking-walk path sub_tree step (tree program (rest_goal goal picked) (course_of sub_tree).left)
            ∙ ap₂ (λ ns k. prefixed [] (Lacking ∷ ns) (below path step (tree program (rest_goal goal picked) k))) (ap (λ w. w.nodes) same) (ap (λ w. w.left) same)))))

        -- it has a success leaf
        pub walk-present : (leaf : Leaf) (others : List Leaf) → (walk_of sub_tree).leaves ≡ leaf ∷ others
            → walk_under_way program choices found nodes path (Some goal) (suc left) ≡ walk_under_way program choices found (nodes ++ Present ∷ proof_nodes (first_proof leaf)) [] None leaf.left
        walk-present leaf others same =
            comes-to path goal (suc left) leaf.left (Present ∷ proof_nodes (first_proof leaf)) [] None
            (by_leaves ∙ (ap (λ ls. along path (walk_of (grow_negation (tree program) goal picked atom sub_tree ls))) same ∙ present-walk path sub_tree leaf))

      -- a gather whose atom's tree is this, and is done
      module _ (fold : FoldKind) (result value : Tree) (atom : Atom) (is : picked.chosen.form ≡ Gathering fold result value atom) (covered : is_covered value atom ≡ true) where
        abbrev pub case_tree : SearchTree
        case_tree = tree program (sub_goal goal picked.chosen.line atom (value ∷ [])) left

        by_folding : (ls : List Leaf) (sub : List Node) (less : ℕ) → walk_of case_tree ≡ (let w : Walk = record { leaves = ls; nodes = sub; ending = Done; left = less } in w)
            → along path (walk_of (tree program goal (suc left))) ≡ along path (walk_of (grow_folded (tree program) goal picked (Gathering fold result value atom) case_tree (folding picked.chosen.line fold result ls)))
        by_folding ls sub less same =
            by_form (Gathering fold result value atom) is
            ∙ (ap (λ b. along path (walk_of (if b then grow_gather (tree program) goal picked (Gathering fold result value atom) case_tree (folding picked.chosen.line fold result (leaves (course_of case_tree))) (course_of case_tree).ending else search.halted (Floundered picked.chosen.line) left))) covered
            ∙ ap₂ (λ ms e. along path (walk_of (grow_gather (tree program) goal picked (Gathering fold result value atom) case_tree (folding picked.chosen.line fold result ms) e))) (ap (λ w. w.leaves) same) (ap (λ w. w.ending) same))

        pub walk-gathered : (ls : List Leaf) (sub : List Node) (less : ℕ) (bindings : Bindings) → walk_of case_tree ≡ (let w : Walk = record { leaves = ls; nodes = sub; ending = Done; left = less } in w) → folding picked.chosen.line fold result ls ≡ goes_on bindings
            → walk_under_way program choices found nodes path (Some goal) (suc left)
            ≡ walk_under_way program choices found (nodes ++ Gathered ∷ sub) (step_past picked bindings (cases_gathered fold result value atom (whole_of case_tree)) ∷ path) (Some (rest_by goal picked bindings)) less
        walk-gathered ls sub less bindings same outcome =
            let step : Step = step_past picked bindings (cases_gathered fold result value atom (whole_of case_tree)) in
            comes-to path goal (suc left) less (Gathered ∷ sub) (step ∷ path) (Some (rest_by goal picked bindings))
            (by_folding ls sub less same
            ∙ (ap (λ o. along path (walk_of (grow_folded (tree program) goal picked (Gathering fold result value atom) case_tree o))) outcome
            ∙ (gathered-walk path case_tree step (tree program (rest_by goal picked bindings) (course_of case_tree).left)
            ∙ ap₂ (λ ns k. prefixed [] (Gathered ∷ ns) (below path step (tree program (rest_by goal picked bindings) k))) (ap (λ w. w.nodes) same) (ap (λ w. w.left) same))))

        pub walk-ungathered : (ls : List Leaf) (sub : List Node) (less : ℕ) → walk_of case_tree ≡ (let w : Walk = record { leaves = ls; nodes = sub; ending = Done; left = less } in w) → folding picked.chosen.line fold result ls ≡ fails
            → walk_under_way program choices found nodes path (Some goal) (suc left) ≡ walk_under_way program choices found (nodes ++ Ungathered ∷ sub) [] None less
        walk-ungathered ls sub less same outcome =
            comes-to path goal (suc left) less (Ungathered ∷ sub) [] None
            (by_folding ls sub less same
            ∙ (ap (λ o. along path (walk_of (grow_folded (tree program) goal picked (Gathering fold result value atom) case_tree o))) outcome
            ∙ (ungathered-walk path case_tree ∙ ap₂ (λ ns k. prefixed [] (Ungathered ∷ ns) (done k)) (ap (λ w. w.nodes) same) (ap (λ w. w.left) same))))

-- a walk under way begins with what was found
pub walk-begins : (program : Program) (choices : List Choice) (found : List Leaf) (nodes : List Node) (walk : Walk) → (more : List Leaf) × ((choices_walk program choices (prefixed found nodes walk)).leaves ≡ found ++ more)
walk-begins program [] found nodes walk = (walk.leaves, refl)
walk-begins program (choice ∷ choices) found nodes walk =
    let rest : (more : List Leaf) × ((choices_walk program choices (prefixed found nodes (thens walk.ending walk (choice_walk program choice)))).leaves ≡ found ++ more) =
    walk-begins program choices found nodes (thens walk.ending walk (choice_walk program choice)) in
    (rest.0, ap (λ w. (choices_walk program choices w).leaves) (sym (prefixed-thens found nodes walk.ending walk (choice_walk program choice))) ∙ rest.1)
