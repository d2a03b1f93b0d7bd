-- What the turns of a machine keep: its searches stay the search of the query under way.
use Rattle.le_terms.specs.declared.term.Term.{Term}
use Rattle.std.proofs.Common.{Vec, Global, ◌≡◌, ◌≢◌, true, false, ℕ, suc, ◌+◌, ◌-◌, ◌<◌, List, [], ◌∷◌, ◌++◌, map, length, reverse, Option, Some, None, refl, sym, ap, ap₂, subst, ◌∙◌, append_assoc, append-nil, length-append, true≢false, arith}
use Rattle.std.specs.Prelude.{slice_get, slice_set}
use Rattle.std.proofs.lemmas.List.{map-append}
use Rattle.le_builtins.specs.Compute.{argument}
use Rattle.le_terms.specs.Tree.{Tree}
use Rattle.le_terms.specs.declared.program.Atom.{Atom}
use Rattle.le_terms.specs.declared.program.Form.{Form}
use Rattle.le_terms.specs.declared.program.Form.TheVariants.{Pos, Neg, Calc, Gather}
use Rattle.le_terms.specs.declared.program.Literal.{Literal}
use Rattle.le_terms.specs.declared.program.Program.{Program}
use Rattle.le_proofs.specs.declared.node.Node.TheVariants.{Present, Success}
use Rattle.le_proofs.specs.declared.next.Next.{Next}
use Rattle.le_proofs.specs.declared.next.Next.TheVariants.{Answer, Done, Floundered, OutOfRange, Spent}
use Rattle.le_proofs.specs.Goals.{Goal, sub_goal, root_of}
use Rattle.le_proofs.specs.Proofs.{Step, Leaf, from_above}
use Rattle.le_proofs.specs.SearchTree.{empty_leaf, first_proof}
use Rattle.le_proofs.specs.Derivations.{proof_nodes}
use Rattle.le_proofs.specs.Search.{answers_of, tree, value_of}
use Rattle.le_proofs.specs.UnderWay.{leaf_along, IsStop}
use Rattle.le_derivations.specs.Paths.{AreSteps}
use Rattle.le_derivations.specs.Walks.{Walk, walk_of, here, prefixed, along, EndsWith}
use Rattle.le_derivations.proofs.GoingUp.{along-terms}
use Rattle.le_derivations.proofs.WalkLaws.{walk-leaf, walk-begins}
use Rattle.le_derivations.proofs.Stops.{walk-halts, nonground-ends, negation-ends, uncovered-ends, gather-ends}
use Rattle.le_machine.specs.declared.goals.Goal as code
use Rattle.le_machine.specs.declared.goals.Search.{Search}
use Rattle.le_machine.specs.declared.goals.Searches.{Searches}
use Rattle.le_machine.specs.declared.goals.SubSearch.{SubSearch}
use Rattle.le_machine.specs.declared.goals.SubSearch.TheVariants.{Negation, Gather as Gathering}
use Rattle.le_machine.specs.declared.goals.Waiting.{Waiting}
use Rattle.le_machine.specs.declared.goals.Turn.{Turn}
use Rattle.le_machine.specs.declared.goals.Turn.TheVariants.{Visit, Back, Found}
use Rattle.le_machine.specs.declared.goals.Found.TheVariants.{Leaf as Found_leaf, End}
use Rattle.le_machine.specs.declared.goals.OpenGoal.{OpenGoal}
use Rattle.le_machine.specs.Keeping.{goal_of, AreOpenGoals, AreNodes, Selects, placed, IsWalk, Walks, IsFor, IsMain, IsAsked, IsUnderWay}
use Rattle.le_machine.specs.State.{IsAtLeaf, IsAtEnd}
use Rattle.le_machine.specs.Turns.{Extends, Leads, LeadsBy, WalksBy, Comes, CannotBegin, BeginsBy}
use Rattle.le_machine.proofs.SelectedAt.{selects-first}
use Rattle.le_machine.proofs.Turning.{newest}
use Rattle.le_machine.proofs.Walking.{opens-more, nodes-more, present-leads, walked}

-- an item put in the place of one
pub set-there : {X : Type 0} (front : List X) (x y : X) (back : List X) → slice_set (front ++ (x ∷ back)) (length front) y ≡ front ++ (y ∷ back)
set-there [] x y back = refl
set-there (z ∷ front) x y back = ap (λ xs. z ∷ xs) (set-there front x y back)

pub get-there : {X : Type 0} (front : List X) (x : X) (back : List X) → slice_get (front ++ (x ∷ back)) (length front) ≡ Some x
get-there [] x back = refl
get-there (z ∷ front) x back = get-there front x back

-- a leaf seen from above has the same selections left
pub along-left : (path : List Step) (leaf : Leaf) → (leaf_along path leaf).left ≡ leaf.left
along-left [] leaf = refl
along-left (step ∷ path) leaf = along-left path (from_above step leaf)

module _ (program : Program) (budget given : ℕ) where
  -- only the innermost search changes
  pub within : (around : List Waiting) (before after : Search) (current next : Option Goal) (left less : ℕ) → after.keeps ≡ before.keeps → Leads program before current left after next less → IsUnderWay program budget given around before current left
      → IsUnderWay program budget given around after next less
  within [] before after current next left less keeps leads main = record { found = main.found; inner = leads (root_of program) budget main.found main.inner; count = main.count; keeps = keeps ∙ main.keeps }
  within (waiting ∷ around) before after current next left less keeps leads h =
      let asked = h.0 in (
        record {
          literal = asked.literal;
          atom = asked.atom;
          terms = asked.terms;
          found = asked.found;
          spare = asked.spare;
          selects = asked.selects;
          purpose = asked.purpose;
          inner = leads (sub_goal (goal_of waiting.goal) asked.literal.line asked.atom asked.terms) asked.spare asked.found asked.inner;
          keeps = keeps ∙ asked.keeps;
        },
        h.1,
      )

  -- a goal whose tree ends the visit
  pub under-way-ends : (around : List Waiting) (within_ : Search) (goal : Goal) (left : ℕ) (e : Next) (less : ℕ) → IsStop e → EndsWith (walk_of (tree program goal left)) [] e less → IsUnderWay program budget given around within_ (Some goal) left → IsAtEnd program budget given less e
  under-way-ends [] within_ goal left e less stop ends main =
      let h : EndsWith (walk_of (tree program (root_of program) budget)) main.found e less =
      subst (λ w. EndsWith w main.found e less) main.inner.walk (walk-halts program main.inner.choices main.found main.inner.nodes main.inner.steps goal left e less stop ends) in
      record { count = ap length h.leaves_ ∙ main.count; ending = h.ending_; selections = h.left_ }
  under-way-ends (waiting ∷ around) within_ goal left e less stop ends h =
      let asked : IsAsked program waiting within_ (Some goal) left = h.0 in
      let sub : EndsWith (walk_of (tree program (sub_goal (goal_of waiting.goal) asked.literal.line asked.atom asked.terms) asked.spare)) asked.found e less =
      subst (λ w. EndsWith w asked.found e less) asked.inner.walk (walk-halts program asked.inner.choices asked.found asked.inner.nodes asked.inner.steps goal left e less stop ends) in
      under-way-ends around waiting.search (goal_of waiting.goal) (suc asked.spare) e less stop (by waiting.sub asked.terms asked.found asked.purpose sub) h.1
    where
      by : (sub : SubSearch) (terms : List Tree) (found : List Leaf) → IsFor sub h.0.literal.form h.0.atom terms found → EndsWith (walk_of (tree program (sub_goal (goal_of waiting.goal) h.0.literal.line h.0.atom terms) h.0.spare)) found e less
          → EndsWith (walk_of (tree program (goal_of waiting.goal) (suc h.0.spare))) [] e less
      by Negation terms found is walk =
          let first = selects-first program waiting.goal.literals.items waiting.place h.0.literal h.0.selects in
          negation-ends program (goal_of waiting.goal) first.0 first.1 first.2 (placed waiting.goal.literals.items waiting.place h.0.literal) first.3 h.0.spare h.0.atom is.0 is.1 e less stop
          (subst (λ ts. EndsWith (walk_of (tree program (sub_goal (goal_of waiting.goal) h.0.literal.line h.0.atom ts) h.0.spare)) [] e less) is.2
          (subst (λ ls. EndsWith (walk_of (tree program (sub_goal (goal_of waiting.goal) h.0.literal.line h.0.atom terms) h.0.spare)) ls e less) is.3 walk))
      by (Gathering values) terms found is walk =
          let first = selects-first program waiting.goal.literals.items waiting.place h.0.literal h.0.selects in
          gather-ends program (goal_of waiting.goal) first.0 first.1 first.2 (placed waiting.goal.literals.items waiting.place h.0.literal) first.3 h.0.spare is.0 is.1 is.2 h.0.atom is.3 is.4 found e less stop
          (subst (λ ts. EndsWith (walk_of (tree program (sub_goal (goal_of waiting.goal) h.0.literal.line h.0.atom ts) h.0.spare)) found e less) is.5 walk)

-- no end is an answer
pub stop-no-answer : (e : Next) → IsStop e → e ≢ Answer
stop-no-answer Answer stop = λ same. stop
stop-no-answer Done stop = λ same. stop
stop-no-answer (Floundered line) stop = λ same. absurd (cc same)
stop-no-answer (OutOfRange line) stop = λ same. absurd (cc same)
stop-no-answer Spent stop = λ same. absurd (cc same)

-- what is done next where a goal was visited and only its search changed
pub comes-by : (program : Program) (budget given : ℕ) (around : List Waiting) (before : Search) (searches : Searches) (goal : Goal) (left less : ℕ) (turn : Turn) → around ≡ reverse searches.waiting.items → searches.inner.keeps ≡ before.keeps
    → LeadsBy program before goal left searches.inner turn less → IsUnderWay program budget given around before (Some goal) left → Comes program budget given searches turn less
comes-by program budget given around before searches goal left less (Visit next) same keeps leads way =
    within program budget given (reverse searches.waiting.items) before searches.inner (Some goal) (Some (goal_of next)) left less keeps leads (subst (λ ws. IsUnderWay program budget given ws before (Some goal) left) same way)
comes-by program budget given around before searches goal left less Back same keeps leads way =
    within program budget given (reverse searches.waiting.items) before searches.inner (Some goal) None left less keeps leads (subst (λ ws. IsUnderWay program budget given ws before (Some goal) left) same way)
comes-by program budget given around before searches goal left less (Found (End e)) same keeps leads way = (stop-no-answer e leads.0, under-way-ends program budget given around before goal left e less leads.0 leads.1 way)
comes-by program budget given around before searches goal left less (Found (Found_leaf terms)) same keeps leads way = absurd leads

-- a search that waits, and the same with other values of the gather that it waits for
pub record IsGatherWith (waiting noted : Waiting) (values more : List Tree) : Type 0 where
  pub search_ : noted.search ≡ waiting.search
  pub goal_ : noted.goal ≡ waiting.goal
  pub place_ : noted.place ≡ waiting.place
  pub noted_ : (form : Form) (atom : Atom) (terms : List Tree) (found others : List Leaf) → (values ≡ map value_of found → more ≡ map value_of others) → IsFor waiting.sub form atom terms found → IsFor noted.sub form atom terms others

pub gather-with : (waiting noted : Waiting) (values more : Vec Term Global) → waiting.sub ≡ Gathering values → noted.sub ≡ Gathering more → noted.search ≡ waiting.search → noted.goal ≡ waiting.goal → noted.place ≡ waiting.place → IsGatherWith waiting noted values.items more.items
gather-with waiting noted values more is now search_ goal_ place_ = record {
  search_ = search_;
  goal_ = goal_;
  place_ = place_;
  noted_ = λ form atom terms found others same purpose.
      let h : IsFor (Gathering values) form atom terms found = subst (λ s. IsFor s form atom terms found) is purpose in
      subst (λ s. IsFor s form atom terms others) (sym now) (h.0, h.1, h.2, h.3, h.4, h.5, same h.6);
}

-- below no step a walk is the walk
pub along-nothing : (walk : Walk) → prefixed [] [] (along [] walk) ≡ walk
along-nothing walk = ap (λ ls. let w : Walk = record { leaves = ls; nodes = walk.nodes; ending = walk.ending; left = walk.left } in w) (same walk.leaves)
  where
    same : (ls : List Leaf) → map (leaf_along []) ls ≡ ls
    same [] = refl
    same (leaf ∷ ls) = ap (λ ms. leaf ∷ ms) (same ls)

-- a leaf that a search finds
pub finds : (program : Program) (before after : Search) (root : Goal) (total : ℕ) (goal : Goal) (left : ℕ) (found : List Leaf) (walk : Walks program before root total (Some goal) left found) → goal.literals ≡ [] → Extends before after [] (Success ∷ [])
    → Walks program after root total None left (found ++ leaf_along walk.steps (empty_leaf goal.terms left) ∷ [])
finds program before after root total goal left found walk none ext = record {
  choices = walk.choices;
  nodes = walk.nodes ++ Success ∷ [];
  steps = [];
  walk = sym (walk-leaf program walk.choices found walk.nodes walk.steps goal left none) ∙ walk.walk;
  opens_ = subst (λ os. AreOpenGoals program walk.choices (reverse os) after.path.items) (sym ext.opens_)
      (subst (AreOpenGoals program walk.choices (reverse before.opens.items)) (sym ext.path_) (opens-more program walk.choices (reverse before.opens.items) before.path.items [] walk.opens_));
  nodes_ = λ k.
      let kept : before.keeps ≡ true = sym ext.keeps_ ∙ k in
      subst (λ os. AreNodes walk.choices (reverse os) after.nodes.items (walk.nodes ++ Success ∷ [])) (sym ext.opens_)
      (subst (λ ns. AreNodes walk.choices (reverse before.opens.items) ns (walk.nodes ++ Success ∷ [])) (sym (ext.nodes_ kept)) (nodes-more walk.choices (reverse before.opens.items) before.nodes.items walk.nodes (Success ∷ []) (walk.nodes_ kept)));
  steps_ = tt;
}

-- so the leaves of its tree begin with those that it had and this one
pub finds-first : (program : Program) (before : Search) (root : Goal) (total : ℕ) (goal : Goal) (left : ℕ) (found : List Leaf) (walk : Walks program before root total (Some goal) left found) → goal.literals ≡ []
    → (more : List Leaf) × ((walk_of (tree program root total)).leaves ≡ (found ++ leaf_along walk.steps (empty_leaf goal.terms left) ∷ []) ++ more)
finds-first program before root total goal left found walk none =
    let leaf : Leaf = leaf_along walk.steps (empty_leaf goal.terms left) in
    let first = walk-begins program walk.choices (found ++ leaf ∷ []) (walk.nodes ++ Success ∷ []) (here program [] None left) in
    (first.0, ap (λ w. w.leaves) (sym walk.walk ∙ walk-leaf program walk.choices found walk.nodes walk.steps goal left none) ∙ first.1)

-- the leaf of the query's search is the next answer
pub leaf-answers : (program : Program) (budget given left : ℕ) (searches : Searches) (goal : Goal) (terms : List Tree) → searches.waiting.items ≡ [] → goal.literals ≡ [] → goal.terms ≡ terms → IsMain program budget given searches.inner (Some goal) left
    → (given < length (answers_of program budget)) × IsAtLeaf program budget (given + 1) left searches terms
leaf-answers program budget given left searches goal terms alone none same main =
    let walk = main.inner in
    let leaf : Leaf = leaf_along walk.steps (empty_leaf goal.terms left) in
    let first : (more : List Leaf) × (answers_of program budget ≡ (main.found ++ leaf ∷ []) ++ more) = finds-first program searches.inner (root_of program) budget goal left main.found walk none in
    let all : answers_of program budget ≡ main.found ++ (leaf ∷ first.0) = first.1 ∙ append_assoc main.found (leaf ∷ []) first.0 in
    let long : length (answers_of program budget) ≡ length main.found + length (leaf ∷ first.0) = ap length all ∙ length-append main.found (leaf ∷ first.0) in
    let count : length main.found ≡ given = main.count in
    let place : (given + 1) - 1 ≡ length main.found = omega arith in
    let more : length (main.found ++ leaf ∷ []) ≡ length main.found + 1 = length-append main.found (leaf ∷ []) in
    let nothing : Extends searches.inner searches.inner [] [] = record { keeps_ = refl; opens_ = refl; path_ = sym (append-nil searches.inner.path.items); nodes_ = λ k. sym (append-nil searches.inner.nodes.items) } in
    let bare : searches.inner.keeps ≡ true → ⊥ = λ k. true≢false (sym k ∙ main.keeps) in (
      omega (arith, long, count),
      record {
        alone = alone;
        way = record {
          found = main.found ++ leaf ∷ [];
          inner = record {
            choices = walk.choices;
            nodes = walk.nodes ++ Success ∷ [];
            steps = [];
            walk = sym (walk-leaf program walk.choices main.found walk.nodes walk.steps goal left none) ∙ walk.walk;
            opens_ = walk.opens_;
            nodes_ = λ k. absurd (bare k);
            steps_ = tt;
          };
          count = omega (arith, more, count);
          keeps = main.keeps;
        };
        steps = walk.steps;
        steps_ = walk.steps_;
        place = ap₂ slice_get all place ∙ (get-there main.found leaf first.0 ∙ ap (λ ts. Some (leaf_along walk.steps (empty_leaf ts left))) same);
      },
    )

-- the leaf of a negation's search: the negation doesn't hold
pub leaf-refutes : (program : Program) (budget given left : ℕ) (around : List Waiting) (waiting : Waiting) (before after : Search) (goal : Goal) → goal.literals ≡ [] → waiting.sub ≡ Negation
    → ((steps : List Step) → AreSteps (reverse before.path.items) steps → Extends waiting.search after [] (Present ∷ proof_nodes (first_proof (leaf_along steps (empty_leaf goal.terms left)))))
    → IsUnderWay program budget given (waiting ∷ around) before (Some goal) left → IsUnderWay program budget given around after None left
leaf-refutes program budget given left around waiting before after goal none is ext h =
    let asked : IsAsked program waiting before (Some goal) left = h.0 in
    let walk = asked.inner in
    let leaf : Leaf = leaf_along walk.steps (empty_leaf goal.terms left) in
    let purpose : IsFor Negation asked.literal.form asked.atom asked.terms asked.found = subst (λ s. IsFor s asked.literal.form asked.atom asked.terms asked.found) is asked.purpose in
    let root : List Tree → Goal = λ ts. sub_goal (goal_of waiting.goal) asked.literal.line asked.atom ts in
    let first = finds-first program before (root asked.terms) asked.spare goal left asked.found walk none in
    let leaves_ : (walk_of (tree program (root []) asked.spare)).leaves ≡ leaf ∷ first.0 =
    ap (λ ts. (walk_of (tree program (root ts) asked.spare)).leaves) (sym purpose.2) ∙ (first.1 ∙ ap (λ ls. (ls ++ leaf ∷ []) ++ first.0) purpose.3) in
    within program budget given around waiting.search after (Some (goal_of waiting.goal)) None (suc asked.spare) left (ext walk.steps walk.steps_).keeps_
    (present-leads program waiting.search after waiting.goal waiting.place asked.literal asked.selects asked.atom asked.spare left leaf first.0 purpose.0 purpose.1 leaves_ (along-left walk.steps (empty_leaf goal.terms left)) (ext walk.steps walk.steps_)) h.1

-- the leaf of a gather's search: its value is noted
pub leaf-gathers : (program : Program) (budget given left : ℕ) (around : List Waiting) (waiting noted : Waiting) (values more : List Tree) (before after : Search) (goal : Goal) → goal.literals ≡ []
    → IsGatherWith waiting noted values more → more ≡ values ++ argument goal.terms 0 ∷ [] → Extends before after [] (Success ∷ [])
    → IsUnderWay program budget given (waiting ∷ around) before (Some goal) left → IsUnderWay program budget given (noted ∷ around) after None left
leaf-gathers program budget given left around waiting noted values more before after goal none with_ more_ ext h =
    let asked : IsAsked program waiting before (Some goal) left = h.0 in
    let walk = asked.inner in
    let leaf : Leaf = leaf_along walk.steps (empty_leaf goal.terms left) in
    let value : value_of leaf ≡ argument goal.terms 0 = ap (λ ts. argument ts 0) (along-terms walk.steps (empty_leaf goal.terms left)) in
    let made : IsAsked program noted after None left = record {
      literal = asked.literal;
      atom = asked.atom;
      terms = asked.terms;
      found = asked.found ++ leaf ∷ [];
      spare = asked.spare;
      selects = subst (λ g. Selects program g.literals.items noted.place asked.literal) (sym with_.goal_) (subst (λ p. Selects program waiting.goal.literals.items p asked.literal) (sym with_.place_) asked.selects);
      purpose = with_.noted_ asked.literal.form asked.atom asked.terms asked.found (asked.found ++ leaf ∷ [])
          (λ same. more_ ∙ (ap₂ (λ vs v. vs ++ v ∷ []) same (sym value) ∙ sym (map-append value_of asked.found (leaf ∷ [])))) asked.purpose;
      inner = subst (λ g. Walks program after (sub_goal (goal_of g) asked.literal.line asked.atom asked.terms) asked.spare None left (asked.found ++ leaf ∷ [])) (sym with_.goal_)
          (finds program before after (sub_goal (goal_of waiting.goal) asked.literal.line asked.atom asked.terms) asked.spare goal left asked.found walk none ext);
      keeps = ext.keeps_ ∙ asked.keeps;
    } in
    (made, subst (λ s. IsUnderWay program budget given around s (Some (goal_of noted.goal)) (suc asked.spare)) (sym with_.search_) (subst (λ g. IsUnderWay program budget given around waiting.search (Some (goal_of g)) (suc asked.spare)) (sym with_.goal_) h.1))

-- the atom of a negation or a gather can't be searched: the search ends
pub cannot-begin : (program : Program) (budget given left : ℕ) (around : List Waiting) (before : Search) (goal : code.Goal) (place : ℕ) (literal : Literal) → Selects program goal.literals.items place literal → CannotBegin literal.form
    → IsUnderWay program budget given around before (Some (goal_of goal)) (suc left) → IsAtEnd program budget given left (Floundered literal.line)
cannot-begin program budget given left around before goal place literal selects cannot way =
    under-way-ends program budget given around before (goal_of goal) (suc left) (Floundered literal.line) left tt (by literal.form refl cannot) way
  where
    by : (form : Form) → literal.form ≡ form → CannotBegin form → EndsWith (walk_of (tree program (goal_of goal) (suc left))) [] (Floundered literal.line) left
    by (Pos atom) is h = absurd h
    by (Neg atom) is h = let first = selects-first program goal.literals.items place literal selects in nonground-ends program (goal_of goal) first.0 first.1 first.2 (placed goal.literals.items place literal) first.3 left atom is h
    by (Calc atom) is h = absurd h
    by (Gather fold result value atom) is h =
        let first = selects-first program goal.literals.items place literal selects in uncovered-ends program (goal_of goal) first.0 first.1 first.2 (placed goal.literals.items place literal) first.3 left fold result value atom is h

-- it can: its search begins
pub search-begins : (program : Program) (budget given left : ℕ) (around : List Waiting) (fresh : Search) (waiting : Waiting) (literal : Literal) (first : code.Goal) → Selects program waiting.goal.literals.items waiting.place literal
    → BeginsBy waiting.goal.next literal waiting.sub first → fresh.keeps ≡ true → fresh.path.items ≡ [] → fresh.nodes.items ≡ [] → fresh.opens.items ≡ []
    → IsUnderWay program budget given around waiting.search (Some (goal_of waiting.goal)) (suc left) → IsUnderWay program budget given (waiting ∷ around) fresh (Some (goal_of first)) left
search-begins program budget given left around fresh waiting literal first selects begins keeps path nodes opens way =
    let root : Goal = sub_goal (goal_of waiting.goal) literal.line begins.atom begins.terms in
    let walk : Walks program fresh root left (Some root) left [] = record {
      choices = [];
      nodes = [];
      steps = [];
      walk = along-nothing (walk_of (tree program root left));
      opens_ = ap reverse opens;
      nodes_ = λ k. nodes;
      steps_ = subst (λ ps. AreSteps (reverse ps) []) (sym path) tt;
    } in (
      record {
        literal = literal;
        atom = begins.atom;
        terms = begins.terms;
        found = [];
        spare = left;
        selects = selects;
        purpose = begins.purpose;
        inner = subst (λ g. Walks program fresh root left (Some g) left []) (sym begins.goal) walk;
        keeps = keeps;
      },
      way,
    )

-- the walk of the query before its first goal
pub main-begins : (program : Program) (budget : ℕ) (fresh : Search) (goal : Goal) → goal ≡ root_of program → fresh.keeps ≡ false → fresh.path.items ≡ [] → fresh.opens.items ≡ [] → IsMain program budget 0 fresh (Some goal) budget
main-begins program budget fresh goal same keeps path opens = record {
  found = [];
  inner = record {
    choices = [];
    nodes = [];
    steps = [];
    walk = ap (λ g. prefixed [] [] (here program [] (Some g) budget)) same ∙ along-nothing (walk_of (tree program (root_of program) budget));
    opens_ = ap reverse opens;
    nodes_ = λ k. absurd (true≢false (sym k ∙ keeps));
    steps_ = subst (λ ps. AreSteps (reverse ps) []) (sym path) tt;
  };
  count = refl;
  keeps = keeps;
}

-- the query's search has no open goal left: it is done
pub main-done : (program : Program) (budget given left : ℕ) (within_ : Search) → within_.opens.items ≡ [] → IsMain program budget given within_ None left → IsAtEnd program budget given left Done
main-done program budget given left within_ none main =
    let done_ = walked program within_ (root_of program) budget left main.found none main.inner in
    record { count = ap (λ w. length w.leaves) done_.1 ∙ main.count; ending = ap (λ w. w.ending) done_.1; selections = ap (λ w. w.left) done_.1 }

-- an open goal of a search goes on
pub opens-on : (program : Program) (budget given left : ℕ) (around : List Waiting) (before : Search) (opens : List OpenGoal) (pending : OpenGoal) (searches : Searches) (turn : Turn) → around ≡ reverse searches.waiting.items → before.opens.items ≡ opens ++ pending ∷ []
    → searches.inner.keeps ≡ before.keeps
    → ((root : Goal) (total less : ℕ) (found : List Leaf) → IsWalk program before.keeps before.path.items before.nodes.items (pending ∷ reverse opens) root total None less found → WalksBy program searches.inner root total turn less found)
    → IsUnderWay program budget given around before None left → Comes program budget given searches turn left
opens-on program budget given left around before opens pending searches turn same items keeps walks way = by turn walks
  where
    turned : reverse before.opens.items ≡ pending ∷ reverse opens
    turned = ap reverse items ∙ newest opens pending

    way' : IsUnderWay program budget given (reverse searches.waiting.items) before None left
    way' = subst (λ ws. IsUnderWay program budget given ws before None left) same way

    by : (turn : Turn) → ((root : Goal) (total less : ℕ) (found : List Leaf) → IsWalk program before.keeps before.path.items before.nodes.items (pending ∷ reverse opens) root total None less found → WalksBy program searches.inner root total turn less found)
        → Comes program budget given searches turn left
    by (Visit next) lead =
        within program budget given (reverse searches.waiting.items) before searches.inner None (Some (goal_of next)) left left keeps
        (λ root total found walk. lead root total left found (subst (λ os. IsWalk program before.keeps before.path.items before.nodes.items os root total None left found) turned walk)) way'
    by Back lead =
        within program budget given (reverse searches.waiting.items) before searches.inner None None left left keeps
        (λ root total found walk. lead root total left found (subst (λ os. IsWalk program before.keeps before.path.items before.nodes.items os root total None left found) turned walk)) way'
    by (Found answer) lead = absurd (none (reverse searches.waiting.items) way')
      where
        none : (ws : List Waiting) → IsUnderWay program budget given ws before None left → ⊥
        none [] main = lead (root_of program) budget left main.found (subst (λ os. IsWalk program before.keeps before.path.items before.nodes.items os (root_of program) budget None left main.found) turned main.inner)
        none (w ∷ ws) h =
            lead (sub_goal (goal_of w.goal) h.0.literal.line h.0.atom h.0.terms) h.0.spare left h.0.found
            (subst (λ os. IsWalk program before.keeps before.path.items before.nodes.items os (sub_goal (goal_of w.goal) h.0.literal.line h.0.atom h.0.terms) h.0.spare None left h.0.found) turned h.0.inner)
