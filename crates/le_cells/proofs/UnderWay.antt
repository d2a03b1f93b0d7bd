-- What the turns of a machine keep: its searches stay the search of the query under way.
use Rattle.le_terms.specs.declared.term.Term.{Term}
use Rattle.std.proofs.Common.{Vec, Global, ◌≡◌, ◌≢◌, true, false, ℕ, zero, suc, ◌+◌, ◌-◌, ◌<◌, List, [], ◌∷◌, ◌++◌, map, length, reverse, get_or, Option, Some, None, refl, sym, ap, ap₂, subst, ◌∙◌, append_assoc, append-nil, length-append, true≢false, arith}
use Rattle.std.specs.Prelude.{slice_get, slice_set}
use Rattle.std.proofs.lemmas.List.{map-append}
use Rattle.le_builtins.specs.Compute.{argument}
use Rattle.le_terms.specs.Tree.{Tree}
use Rattle.le_terms.specs.Program.{form_atom}
use Rattle.le_terms.specs.declared.program.Atom.{Atom}
use Rattle.le_terms.specs.declared.program.Form.{Form}
use Rattle.le_terms.specs.declared.program.Form.TheVariants.{Pos, Neg, Calc, Gather}
use Rattle.le_terms.specs.declared.program.Literal.{Literal}
use Rattle.le_terms.specs.declared.program.Program.{Program}
use Rattle.le_proofs.specs.declared.node.Node.{Node}
use Rattle.le_proofs.specs.declared.node.Node.TheVariants.{Present, Success}
use Rattle.le_proofs.specs.declared.next.Next.{Next}
use Rattle.le_proofs.specs.declared.next.Next.TheVariants.{Answer, Done, Floundered, OutOfRange, Spent}
use Rattle.le_proofs.specs.Goals.{Goal, sub_goal, root_of, is_ground_atom}
use Rattle.le_proofs.specs.Proofs.{Step, Leaf, from_above}
use Rattle.le_proofs.specs.SearchTree.{empty_leaf, first_proof}
use Rattle.le_proofs.specs.Derivations.{proof_nodes}
use Rattle.le_proofs.specs.Search.{answers_of, tree, value_of}
use Rattle.le_proofs.specs.UnderWay.{leaf_along, IsStop}
use Rattle.le_derivations.specs.Walks.{Walk, walk_of, walk_under_way, here, prefixed, along, EndsWith}
use Rattle.le_derivations.proofs.GoingUp.{along-terms}
use Rattle.le_derivations.proofs.WalkLaws.{walk-leaf, walk-begins, walk-present}
use Rattle.le_derivations.proofs.Stops.{walk-halts, nonground-ends, negation-ends, uncovered-ends, gather-ends}
use Rattle.le_goals.specs.Shown.{Snapshot, Shown, goal_at, sub_terms}
use Rattle.le_paths.specs.Paths.{LeadHere}
use Rattle.le_cells.specs.declared.goals.Search.{Search}
use Rattle.le_cells.specs.declared.goals.Searches.{Searches}
use Rattle.le_cells.specs.declared.goals.SubSearch.{SubSearch}
use Rattle.le_cells.specs.declared.goals.SubSearch.TheVariants.{Negation, Gather as Gathering}
use Rattle.le_cells.specs.declared.goals.Waiting.{Waiting}
use Rattle.le_cells.specs.declared.goals.Turn.{Turn}
use Rattle.le_cells.specs.declared.goals.Turn.TheVariants.{Visit, Back, Found}
use Rattle.le_cells.specs.declared.goals.Found.TheVariants.{Leaf as Found_leaf, End}
use Rattle.le_cells.specs.declared.goals.OpenGoal.{OpenGoal}
use Rattle.le_cells.specs.Keeping.{snapshot_at, at_mark, goal_now, waiting_goal, AreOpenGoals, AreNodes, Selects, placed, IsWalk, Walks, IsFor, IsMain, IsAsked, IsUnderWay, LeadTo, AreFalling, open_marks, waiting_marks}
use Rattle.le_cells.specs.State.{IsAtLeaf, IsAtEnd}
use Rattle.le_cells.specs.Turns.{Extends, Leads, LeadsBy, WalksBy, Comes, CannotBegin, BeginsBy}
use Rattle.le_cells.proofs.Same.{open-goals-same}
use Rattle.le_cells.proofs.SelectedAt.{selects-first}
use Rattle.le_cells.proofs.Turning.{SameAt, newest, falling-behind, same-front, same-behind}
use Rattle.le_cells.proofs.Walking.{opens-more, nodes-more, walked}

-- an item put in the place of one
pub set-there : {X : Type 0} (front : List X) (x y : X) (back : List X) → slice_set (front ++ (x ∷ back)) (length front) y ≡ front ++ (y ∷ back)
set-there [] x y back = refl
set-there (z ∷ front) x y back = ap (λ xs. z ∷ xs) (set-there front x y back)

pub get-there : {X : Type 0} (front : List X) (x : X) (back : List X) → slice_get (front ++ (x ∷ back)) (length front) ≡ Some x
get-there [] x back = refl
get-there (z ∷ front) x back = get-there front x back

-- an item within a list is there, whatever stands for those outside
pub get-any : {X : Type 0} (xs : List X) (n : ℕ) (d e : X) → n < length xs → get_or xs n d ≡ get_or xs n e
get-any [] n d e less = absurd (omega (arith, less))
get-any (x ∷ xs) zero d e less = refl
get-any (x ∷ xs) (suc n) d e less = get-any xs n d e (omega (arith, less))

-- an item that was found is the one at its place
pub get-found : {X : Type 0} (xs : List X) (n : ℕ) (x d : X) → slice_get xs n ≡ Some x → get_or xs n d ≡ x
get-found [] n x d h = absurd (cc h)
get-found (y ∷ xs) zero x d h = cc h
get-found (y ∷ xs) (suc n) x d h = get-found xs n x d h

-- and it is within the list
pub found-inside : {X : Type 0} (xs : List X) (n : ℕ) (x : X) → slice_get xs n ≡ Some x → n < length xs
found-inside [] n x h = absurd (cc h)
found-inside (y ∷ xs) zero x h = omega arith
found-inside (y ∷ xs) (suc n) x h = let low : n < length xs = found-inside xs n x h in omega (arith, low)

-- an item that stands at a place is found there
pub found-there : {X : Type 0} (xs : List X) (n : ℕ) (x : X) → n < length xs → x ≡ get_or xs n x → slice_get xs n ≡ Some x
found-there [] n x less same = absurd (omega (arith, less))
found-there (y ∷ xs) zero x less same = ap Some (sym same)
found-there (y ∷ xs) (suc n) x less same = found-there xs n x (omega (arith, less)) same

-- marks that are the same show the same
pub same-self : (marks : List Snapshot) (ns : List ℕ) → SameAt marks marks ns
same-self marks [] = tt
same-self marks (n ∷ ns) = (refl, same-self marks ns)

-- numbers that fall after the marks of open goals
pub falling-opens : (high : ℕ) (opens : List OpenGoal) (others : List ℕ) → AreFalling high (open_marks opens others) → AreFalling high others
falling-opens high opens others falling = falling-behind high (map (λ (kept : OpenGoal). kept.mark) (reverse opens)) others falling

-- a leaf seen from above has the same selections left
pub along-left : (path : List Step) (leaf : Leaf) → (leaf_along path leaf).left ≡ leaf.left
along-left [] leaf = refl
along-left (step ∷ path) leaf = along-left path (from_above step leaf)

-- a walk stays so where the marks in use show the same
pub walk-same : (program : Program) (cells cells' : Shown) (search : Search) (root : Goal) (total : ℕ) (current : Option Goal) (left : ℕ) (found : List Leaf) → cells'.now ≡ cells.now → SameAt cells.marks cells'.marks (map (λ (kept : OpenGoal). kept.mark) (reverse search.opens.items))
    → Walks program cells search root total current left found → Walks program cells' search root total current left found
walk-same program cells cells' search root total current left found now same walk = record {
  choices = walk.choices;
  nodes = walk.nodes;
  steps = walk.steps;
  walk = walk.walk;
  opens_ = open-goals-same program cells.marks cells'.marks walk.choices (reverse search.opens.items) search.path.items same walk.opens_;
  nodes_ = walk.nodes_;
  steps_ = subst (λ s. LeadTo s current search.path.items walk.steps) (sym now) walk.steps_;
}

-- so does what is done next of it
pub leads-same : (program : Program) (cells cells' new : Shown) (before after : Search) (goal : Goal) (left : ℕ) (turn : Turn) (less : ℕ) → cells'.now ≡ cells.now → SameAt cells.marks cells'.marks (map (λ (kept : OpenGoal). kept.mark) (reverse before.opens.items))
    → LeadsBy program cells' before goal left new after turn less → LeadsBy program cells before goal left new after turn less
leads-same program cells cells' new before after goal left (Visit next) less now same leads = λ root total found walk. leads root total found (walk-same program cells cells' before root total (Some goal) left found now same walk)
leads-same program cells cells' new before after goal left Back less now same leads = λ root total found walk. leads root total found (walk-same program cells cells' before root total (Some goal) left found now same walk)
leads-same program cells cells' new before after goal left (Found (End e)) less now same leads = leads
leads-same program cells cells' new before after goal left (Found (Found_leaf number)) less now same leads = leads

-- so does what waits for another search
pub asked-same : (program : Program) (cells cells' : Shown) (waiting : Waiting) (search after : Search) (current next : Option Goal) (left less : ℕ) → snapshot_at cells'.marks waiting.mark ≡ snapshot_at cells.marks waiting.mark → after.keeps ≡ search.keeps
    → ((root : Goal) (total : ℕ) (found : List Leaf) → Walks program cells search root total current left found → Walks program cells' after root total next less found)
    → (asked : IsAsked program cells waiting search current left) → (new : IsAsked program cells' waiting after next less) × (new.spare ≡ asked.spare)
asked-same program cells cells' waiting search after current next left less same keeps leads asked = (
  record {
    literal = asked.literal;
    atom = asked.atom;
    terms = asked.terms;
    found = asked.found;
    spare = asked.spare;
    selects = subst (λ s. Selects program (goal_at s waiting.goal).literals waiting.place asked.literal) (sym same) asked.selects;
    purpose = asked.purpose;
    inner = subst (λ s. Walks program cells' after (sub_goal (goal_at s waiting.goal) asked.literal.line asked.atom asked.terms) asked.spare next less asked.found) (sym same)
        (leads (sub_goal (waiting_goal cells.marks waiting) asked.literal.line asked.atom asked.terms) asked.spare asked.found asked.inner);
    keeps = keeps ∙ asked.keeps;
  },
  refl,
)

-- searches stay under way where the marks in use show the same
pub under-way-same : (program : Program) (budget given : ℕ) (around : List Waiting) (cells cells' : Shown) (search : Search) (current : Option Goal) (left : ℕ) → cells'.now ≡ cells.now → SameAt cells.marks cells'.marks (open_marks search.opens.items (waiting_marks around))
    → IsUnderWay program budget given cells around search current left → IsUnderWay program budget given cells' around search current left
unfolding asked-same
under-way-same program budget given [] cells cells' search current left now same main = record {
  found = main.found;
  inner = walk-same program cells cells' search (root_of program) budget current left main.found now (same-front cells.marks cells'.marks (map (λ (kept : OpenGoal). kept.mark) (reverse search.opens.items)) [] same) main.inner;
  count = main.count;
  keeps = main.keeps;
}
under-way-same program budget given (waiting ∷ around) cells cells' search current left now same h =
    let opens : List ℕ = map (λ (kept : OpenGoal). kept.mark) (reverse search.opens.items) in
    let behind : SameAt cells.marks cells'.marks (waiting_marks (waiting ∷ around)) = same-behind cells.marks cells'.marks opens (waiting_marks (waiting ∷ around)) same in
    let front : SameAt cells.marks cells'.marks opens = same-front cells.marks cells'.marks opens (waiting_marks (waiting ∷ around)) same in
    let new = asked-same program cells cells' waiting search search current current left left behind.0 refl (λ root total found walk. walk-same program cells cells' search root total current left found now front walk) h.0 in (
      new.0,
      subst (λ s. IsUnderWay program budget given (at_mark cells' waiting.mark) around waiting.search (Some (goal_at s waiting.goal)) (suc new.0.spare)) (sym behind.0)
          (under-way-same program budget given around (at_mark cells waiting.mark) (at_mark cells' waiting.mark) waiting.search (Some (waiting_goal cells.marks waiting)) (suc h.0.spare) behind.0 behind.1 h.1),
    )

module _ (program : Program) (budget given : ℕ) where
  -- only the innermost search changes
  pub within : (around : List Waiting) (cells cells' : Shown) (before after : Search) (current next : Option Goal) (left less : ℕ) → SameAt cells.marks cells'.marks (waiting_marks around) → after.keeps ≡ before.keeps → Leads program cells before current left cells' after next less
      → IsUnderWay program budget given cells around before current left → IsUnderWay program budget given cells' around after next less
  unfolding asked-same
  within [] cells cells' before after current next left less same keeps leads main = record { found = main.found; inner = leads (root_of program) budget main.found main.inner; count = main.count; keeps = keeps ∙ main.keeps }
  within (waiting ∷ around) cells cells' before after current next left less same keeps leads h =
      let new = asked-same program cells cells' waiting before after current next left less same.0 keeps leads h.0 in (
        new.0,
        subst (λ s. IsUnderWay program budget given (at_mark cells' waiting.mark) around waiting.search (Some (goal_at s waiting.goal)) (suc new.0.spare)) (sym same.0)
            (under-way-same program budget given around (at_mark cells waiting.mark) (at_mark cells' waiting.mark) waiting.search (Some (waiting_goal cells.marks waiting)) (suc h.0.spare) same.0 same.1 h.1),
      )

  -- a goal whose tree ends the visit
  pub under-way-ends : (around : List Waiting) (cells : Shown) (within_ : Search) (goal : Goal) (left : ℕ) (e : Next) (less : ℕ) → IsStop e → EndsWith (walk_of (tree program goal left)) [] e less → IsUnderWay program budget given cells around within_ (Some goal) left → IsAtEnd program budget given less e
  under-way-ends [] cells within_ goal left e less stop ends main =
      let h : EndsWith (walk_of (tree program (root_of program) budget)) main.found e less =
      subst (λ w. EndsWith w main.found e less) main.inner.walk (walk-halts program main.inner.choices main.found main.inner.nodes main.inner.steps goal left e less stop ends) in
      record { count = ap length h.leaves_ ∙ main.count; ending = h.ending_; selections = h.left_ }
  under-way-ends (waiting ∷ around) cells within_ goal left e less stop ends h =
      let asked : IsAsked program cells waiting within_ (Some goal) left = h.0 in
      let sub : EndsWith (walk_of (tree program (sub_goal (waiting_goal cells.marks waiting) asked.literal.line asked.atom asked.terms) asked.spare)) asked.found e less =
      subst (λ w. EndsWith w asked.found e less) asked.inner.walk (walk-halts program asked.inner.choices asked.found asked.inner.nodes asked.inner.steps goal left e less stop ends) in
      under-way-ends around (at_mark cells waiting.mark) waiting.search (waiting_goal cells.marks waiting) (suc asked.spare) e less stop (by waiting.sub asked.terms asked.found asked.purpose sub) h.1
    where
      by : (sub : SubSearch) (terms : List Tree) (found : List Leaf) → IsFor sub h.0.literal.form h.0.atom terms found → EndsWith (walk_of (tree program (sub_goal (waiting_goal cells.marks waiting) h.0.literal.line h.0.atom terms) h.0.spare)) found e less
          → EndsWith (walk_of (tree program (waiting_goal cells.marks waiting) (suc h.0.spare))) [] e less
      by Negation terms found is walk =
          let first = selects-first program (waiting_goal cells.marks waiting).literals waiting.place h.0.literal h.0.selects in
          negation-ends program (waiting_goal cells.marks waiting) first.0 first.1 first.2 (placed (waiting_goal cells.marks waiting).literals waiting.place h.0.literal) first.3 h.0.spare h.0.atom is.0 is.1 e less stop
          (subst (λ ts. EndsWith (walk_of (tree program (sub_goal (waiting_goal cells.marks waiting) h.0.literal.line h.0.atom ts) h.0.spare)) [] e less) is.2
          (subst (λ ls. EndsWith (walk_of (tree program (sub_goal (waiting_goal cells.marks waiting) h.0.literal.line h.0.atom terms) h.0.spare)) ls e less) is.3 walk))
      by (Gathering values) terms found is walk =
          let first = selects-first program (waiting_goal cells.marks waiting).literals waiting.place h.0.literal h.0.selects in
          gather-ends program (waiting_goal cells.marks waiting) first.0 first.1 first.2 (placed (waiting_goal cells.marks waiting).literals waiting.place h.0.literal) first.3 h.0.spare is.0 is.1 is.2 h.0.atom is.3 is.4 found e less stop
          (subst (λ ts. EndsWith (walk_of (tree program (sub_goal (waiting_goal cells.marks waiting) h.0.literal.line h.0.atom ts) h.0.spare)) found e less) is.5 walk)

-- no end is an answer
pub stop-no-answer : (e : Next) → IsStop e → e ≢ Answer
stop-no-answer Answer stop = λ same. stop
stop-no-answer Done stop = λ same. stop
stop-no-answer (Floundered line) stop = λ same. absurd (cc same)
stop-no-answer (OutOfRange line) stop = λ same. absurd (cc same)
stop-no-answer Spent stop = λ same. absurd (cc same)

-- what is done next where a goal was visited and only its search changed
pub comes-by : (program : Program) (budget given : ℕ) (around : List Waiting) (cells cells' : Shown) (before : Search) (searches : Searches) (goal : Goal) (left less : ℕ) (turn : Turn) → around ≡ reverse searches.waiting.items → SameAt cells.marks cells'.marks (waiting_marks around) → searches.inner.keeps ≡ before.keeps
    → LeadsBy program cells before goal left cells' searches.inner turn less → IsUnderWay program budget given cells around before (Some goal) left → Comes program budget given cells' searches turn less
comes-by program budget given around cells cells' before searches goal left less (Visit next) same marks keeps leads way =
    subst (λ ws. IsUnderWay program budget given cells' ws searches.inner (Some (goal_now cells' next)) less) same (within program budget given around cells cells' before searches.inner (Some goal) (Some (goal_now cells' next)) left less marks keeps leads way)
comes-by program budget given around cells cells' before searches goal left less Back same marks keeps leads way =
    subst (λ ws. IsUnderWay program budget given cells' ws searches.inner None less) same (within program budget given around cells cells' before searches.inner (Some goal) None left less marks keeps leads way)
comes-by program budget given around cells cells' before searches goal left less (Found (End e)) same marks keeps leads way = (stop-no-answer e leads.0, under-way-ends program budget given around cells before goal left e less leads.0 leads.1 way)
comes-by program budget given around cells cells' before searches goal left less (Found (Found_leaf number)) same marks keeps leads way = absurd leads

-- a search that waits, and the same with other values of the gather that it waits for
pub record IsGatherWith (waiting noted : Waiting) (values more : List Tree) : Type 0 where
  pub search_ : noted.search ≡ waiting.search
  pub mark_ : noted.mark ≡ waiting.mark
  pub goal_ : noted.goal ≡ waiting.goal
  pub place_ : noted.place ≡ waiting.place
  pub noted_ : (form : Form) (atom : Atom) (terms : List Tree) (found others : List Leaf) → (values ≡ map value_of found → more ≡ map value_of others) → IsFor waiting.sub form atom terms found → IsFor noted.sub form atom terms others

pub gather-with : (waiting noted : Waiting) (values more : Vec Term Global) → waiting.sub ≡ Gathering values → noted.sub ≡ Gathering more → noted.search ≡ waiting.search → noted.mark ≡ waiting.mark → noted.goal ≡ waiting.goal → noted.place ≡ waiting.place
    → IsGatherWith waiting noted values.items more.items
gather-with waiting noted values more is now search_ mark_ goal_ place_ = record {
  search_ = search_;
  mark_ = mark_;
  goal_ = goal_;
  place_ = place_;
  noted_ = λ form atom terms found others same purpose.
      let h : IsFor (Gathering values) form atom terms found = subst (λ s. IsFor s form atom terms found) is purpose in
      subst (λ s. IsFor s form atom terms others) (sym now) (h.0, h.1, h.2, h.3, h.4, h.5, same h.6);
}

-- below no step a walk is the walk
pub along-nothing : (walk : Walk) → prefixed [] [] (along [] walk) ≡ walk
along-nothing walk = ap (λ ls. let w : Walk = record { leaves = ls; nodes = walk.nodes; ending = walk.ending; left = walk.left } in w) (same walk.leaves)
  where
    same : (ls : List Leaf) → map (leaf_along []) ls ≡ ls
    same [] = refl
    same (leaf ∷ ls) = ap (λ ms. leaf ∷ ms) (same ls)

-- the leaves of the tree of a search that finds one begin with those that it had and this one
pub finds-first : (program : Program) (cells : Shown) (before : Search) (root : Goal) (total : ℕ) (goal : Goal) (left : ℕ) (found : List Leaf) (walk : Walks program cells before root total (Some goal) left found) → goal.literals ≡ []
    → (more : List Leaf) × ((walk_of (tree program root total)).leaves ≡ (found ++ leaf_along walk.steps (empty_leaf goal.terms left) ∷ []) ++ more)
finds-first program cells before root total goal left found walk none =
    let leaf : Leaf = leaf_along walk.steps (empty_leaf goal.terms left) in
    let first = walk-begins program walk.choices (found ++ leaf ∷ []) (walk.nodes ++ Success ∷ []) (here program [] None left) in
    (first.0, ap (λ w. w.leaves) (sym walk.walk ∙ walk-leaf program walk.choices found walk.nodes walk.steps goal left none) ∙ first.1)

-- the leaf of the query's search is the next answer
pub leaf-answers : (program : Program) (budget given left : ℕ) (cells : Shown) (searches : Searches) (number : ℕ) → searches.waiting.items ≡ [] → (goal_now cells number).literals ≡ [] → IsMain program budget given cells searches.inner (Some (goal_now cells number)) left
    → (given < length (answers_of program budget)) × IsAtLeaf program budget (given + 1) left cells searches number
leaf-answers program budget given left cells searches number alone none main =
    let goal : Goal = goal_now cells number in
    let walk = main.inner in
    let leaf : Leaf = leaf_along walk.steps (empty_leaf goal.terms left) in
    let first : (more : List Leaf) × (answers_of program budget ≡ (main.found ++ leaf ∷ []) ++ more) = finds-first program cells searches.inner (root_of program) budget goal left main.found walk none in
    let all : answers_of program budget ≡ main.found ++ (leaf ∷ first.0) = first.1 ∙ append_assoc main.found (leaf ∷ []) first.0 in
    let long : length (answers_of program budget) ≡ length main.found + length (leaf ∷ first.0) = ap length all ∙ length-append main.found (leaf ∷ first.0) in
    let count : length main.found ≡ given = main.count in
    let place : (given + 1) - 1 ≡ length main.found = omega arith in
    let more : length (main.found ++ leaf ∷ []) ≡ length main.found + 1 = length-append main.found (leaf ∷ []) in
    let bare : searches.inner.keeps ≡ true → ⊥ = λ k. true≢false (sym k ∙ main.keeps) in (
      omega (arith, long, count),
      record {
        alone = alone;
        way = record {
          found = main.found ++ leaf ∷ [];
          inner = record {
            choices = walk.choices;
            nodes = walk.nodes ++ Success ∷ [];
            steps = [];
            walk = sym (walk-leaf program walk.choices main.found walk.nodes walk.steps goal left none) ∙ walk.walk;
            opens_ = walk.opens_;
            nodes_ = λ k. absurd (bare k);
            steps_ = tt;
          };
          count = omega (arith, more, count);
          keeps = main.keeps;
        };
        steps = walk.steps;
        steps_ = walk.steps_;
        place = ap₂ slice_get all place ∙ get-there main.found leaf first.0;
      },
    )

-- the atom of a negation or a gather can't be searched: the search ends
pub cannot-begin : (program : Program) (budget given left : ℕ) (cells : Shown) (around : List Waiting) (before : Search) (goal : Goal) (place : ℕ) (literal : Literal) → Selects program goal.literals place literal → CannotBegin literal.form
    → IsUnderWay program budget given cells around before (Some goal) (suc left) → IsAtEnd program budget given left (Floundered literal.line)
cannot-begin program budget given left cells around before goal place literal selects cannot way =
    under-way-ends program budget given around cells before goal (suc left) (Floundered literal.line) left tt (by literal.form refl cannot) way
  where
    by : (form : Form) → literal.form ≡ form → CannotBegin form → EndsWith (walk_of (tree program goal (suc left))) [] (Floundered literal.line) left
    by (Pos atom) is h = absurd h
    by (Neg atom) is h = let first = selects-first program goal.literals place literal selects in nonground-ends program goal first.0 first.1 first.2 (placed goal.literals place literal) first.3 left atom is h
    by (Calc atom) is h = absurd h
    by (Gather fold result value atom) is h =
        let first = selects-first program goal.literals place literal selects in uncovered-ends program goal first.0 first.1 first.2 (placed goal.literals place literal) first.3 left fold result value atom is h

-- the walk of a goal before it is visited
pub walk-first : (program : Program) (cells : Shown) (fresh : Search) (root : Goal) (total : ℕ) → fresh.path.items ≡ [] → (fresh.keeps ≡ true → fresh.nodes.items ≡ []) → fresh.opens.items ≡ [] → Walks program cells fresh root total (Some root) total []
walk-first program cells fresh root total path nodes opens = record {
  choices = [];
  nodes = [];
  steps = [];
  walk = along-nothing (walk_of (tree program root total));
  opens_ = ap reverse opens;
  nodes_ = nodes;
  steps_ = subst (λ ps. LeadHere cells.now (reverse ps) []) (sym path) tt;
}

-- it can: its search begins
pub search-begins : (program : Program) (budget given left : ℕ) (cells cells' : Shown) (around : List Waiting) (fresh : Search) (waiting : Waiting) (literal : Literal) (first : ℕ) → Selects program (goal_now cells waiting.goal).literals waiting.place literal
    → snapshot_at cells'.marks waiting.mark ≡ cells.now → SameAt cells.marks cells'.marks (open_marks waiting.search.opens.items (waiting_marks around)) → BeginsBy literal.form waiting.sub
    → goal_now cells' first ≡ sub_goal (goal_now cells waiting.goal) literal.line (form_atom literal.form) (sub_terms literal.form) → fresh.keeps ≡ true → fresh.path.items ≡ [] → fresh.nodes.items ≡ [] → fresh.opens.items ≡ []
    → IsUnderWay program budget given cells around waiting.search (Some (goal_now cells waiting.goal)) (suc left) → IsUnderWay program budget given cells' (waiting ∷ around) fresh (Some (goal_now cells' first)) left
search-begins program budget given left cells cells' around fresh waiting literal first selects mark marks begins goal keeps path nodes opens way =
    let root : Goal = sub_goal (goal_now cells waiting.goal) literal.line (form_atom literal.form) (sub_terms literal.form) in
    let there : sub_goal (waiting_goal cells'.marks waiting) literal.line (form_atom literal.form) (sub_terms literal.form) ≡ root = ap (λ s. sub_goal (goal_at s waiting.goal) literal.line (form_atom literal.form) (sub_terms literal.form)) mark in (
      record {
        literal = literal;
        atom = form_atom literal.form;
        terms = sub_terms literal.form;
        found = [];
        spare = left;
        selects = subst (λ s. Selects program (goal_at s waiting.goal).literals waiting.place literal) (sym mark) selects;
        purpose = begins;
        inner = subst (λ g. Walks program cells' fresh g left (Some (goal_now cells' first)) left []) (goal ∙ sym there) (walk-first program cells' fresh (goal_now cells' first) left path (λ k. nodes) opens);
        keeps = keeps;
      },
      subst (λ s. IsUnderWay program budget given (at_mark cells' waiting.mark) around waiting.search (Some (goal_at s waiting.goal)) (suc left)) (sym mark)
          (under-way-same program budget given around cells (at_mark cells' waiting.mark) waiting.search (Some (goal_now cells waiting.goal)) (suc left) mark marks way),
    )

-- the walk of the query before its first goal
pub main-begins : (program : Program) (budget : ℕ) (cells : Shown) (fresh : Search) (goal : Goal) → goal ≡ root_of program → fresh.keeps ≡ false → fresh.path.items ≡ [] → fresh.opens.items ≡ [] → IsMain program budget 0 cells fresh (Some goal) budget
main-begins program budget cells fresh goal same keeps path opens = record {
  found = [];
  inner = subst (λ g. Walks program cells fresh g budget (Some goal) budget []) same (walk-first program cells fresh goal budget path (λ k. absurd (true≢false (sym k ∙ keeps))) opens);
  count = refl;
  keeps = keeps;
}

-- an open goal of a search goes on
pub opens-on : (program : Program) (budget given left : ℕ) (around : List Waiting) (cells cells' : Shown) (before : Search) (opens : List OpenGoal) (pending : OpenGoal) (searches : Searches) (turn : Turn) → around ≡ reverse searches.waiting.items → before.opens.items ≡ opens ++ pending ∷ []
    → searches.inner.keeps ≡ before.keeps → SameAt cells.marks cells'.marks (waiting_marks around)
    → ((root : Goal) (total less : ℕ) (found : List Leaf) → IsWalk program cells before.keeps before.path.items before.nodes.items (pending ∷ reverse opens) root total None less found → WalksBy program cells' searches.inner root total turn less found)
    → IsUnderWay program budget given cells around before None left → Comes program budget given cells' searches turn left
opens-on program budget given left around cells cells' before opens pending searches turn same items keeps marks walks way = by turn walks
  where
    turned : reverse before.opens.items ≡ pending ∷ reverse opens
    turned = ap reverse items ∙ newest opens pending

    by : (turn : Turn) → ((root : Goal) (total less : ℕ) (found : List Leaf) → IsWalk program cells before.keeps before.path.items before.nodes.items (pending ∷ reverse opens) root total None less found → WalksBy program cells' searches.inner root total turn less found)
        → Comes program budget given cells' searches turn left
    by (Visit next) lead =
        subst (λ ws. IsUnderWay program budget given cells' ws searches.inner (Some (goal_now cells' next)) left) same
        (within program budget given around cells cells' before searches.inner None (Some (goal_now cells' next)) left left marks keeps
        (λ root total found walk. lead root total left found (subst (λ os. IsWalk program cells before.keeps before.path.items before.nodes.items os root total None left found) turned walk)) way)
    by Back lead =
        subst (λ ws. IsUnderWay program budget given cells' ws searches.inner None left) same
        (within program budget given around cells cells' before searches.inner None None left left marks keeps
        (λ root total found walk. lead root total left found (subst (λ os. IsWalk program cells before.keeps before.path.items before.nodes.items os root total None left found) turned walk)) way)
    by (Found answer) lead = absurd (none around way)
      where
        none : (ws : List Waiting) → IsUnderWay program budget given cells ws before None left → ⊥
        none [] main = lead (root_of program) budget left main.found (subst (λ os. IsWalk program cells before.keeps before.path.items before.nodes.items os (root_of program) budget None left main.found) turned main.inner)
        none (w ∷ ws) h =
            lead (sub_goal (waiting_goal cells.marks w) h.0.literal.line h.0.atom h.0.terms) h.0.spare left h.0.found
            (subst (λ os. IsWalk program cells before.keeps before.path.items before.nodes.items os (sub_goal (waiting_goal cells.marks w) h.0.literal.line h.0.atom h.0.terms) h.0.spare None left h.0.found) turned h.0.inner)

-- a leaf that a search finds
pub finds : (program : Program) (cells : Shown) (before after : Search) (root : Goal) (total : ℕ) (goal : Goal) (left : ℕ) (found : List Leaf) (walk : Walks program cells before root total (Some goal) left found) → goal.literals ≡ [] → Extends before after [] (Success ∷ [])
    → Walks program cells after root total None left (found ++ leaf_along walk.steps (empty_leaf goal.terms left) ∷ [])
finds program cells before after root total goal left found walk none ext = record {
  choices = walk.choices;
  nodes = walk.nodes ++ Success ∷ [];
  steps = [];
  walk = sym (walk-leaf program walk.choices found walk.nodes walk.steps goal left none) ∙ walk.walk;
  opens_ = subst (λ os. AreOpenGoals program cells.marks walk.choices (reverse os) after.path.items) (sym ext.opens_)
      (subst (AreOpenGoals program cells.marks walk.choices (reverse before.opens.items)) (sym ext.path_) (opens-more program cells.marks walk.choices (reverse before.opens.items) before.path.items [] walk.opens_));
  nodes_ = λ k.
      let kept : before.keeps ≡ true = sym ext.keeps_ ∙ k in
      subst (λ os. AreNodes walk.choices (reverse os) after.nodes.items (walk.nodes ++ Success ∷ [])) (sym ext.opens_)
      (subst (λ ns. AreNodes walk.choices (reverse before.opens.items) ns (walk.nodes ++ Success ∷ [])) (sym (ext.nodes_ kept)) (nodes-more walk.choices (reverse before.opens.items) before.nodes.items walk.nodes (Success ∷ []) (walk.nodes_ kept)));
  steps_ = tt;
}

-- a leaf of a negation's atom: its search goes back, whatever the goals are now
pub refuted : (program : Program) (cells cells' : Shown) (before after : Search) (goal : Goal) (place : ℕ) (literal : Literal) → Selects program goal.literals place literal → cells'.marks ≡ cells.marks → (atom : Atom) (spare left : ℕ) (leaf : Leaf) (others : List Leaf) → literal.form ≡ Neg atom → is_ground_atom atom ≡ true
    → (walk_of (tree program (sub_goal goal literal.line atom []) spare)).leaves ≡ leaf ∷ others → leaf.left ≡ left → Extends before after [] (Present ∷ proof_nodes (first_proof leaf)) → Leads program cells before (Some goal) (suc spare) cells' after None left
refuted program cells cells' before after goal place literal selects marks atom spare left leaf others is ground leaves same ext = λ root total found walk.
    let first = selects-first program goal.literals place literal selects in
    let more : List Node = Present ∷ proof_nodes (first_proof leaf) in
    let law : walk_under_way program walk.choices found walk.nodes walk.steps (Some goal) (suc spare) ≡ walk_under_way program walk.choices found (walk.nodes ++ more) [] None left =
    walk-present program walk.choices found walk.nodes walk.steps goal first.0 first.1 first.2 (placed goal.literals place literal) first.3 spare atom is ground leaf others leaves ∙ ap (walk_under_way program walk.choices found (walk.nodes ++ more) [] None) same in
    record {
      choices = walk.choices;
      nodes = walk.nodes ++ more;
      steps = [];
      walk = sym law ∙ walk.walk;
      opens_ = subst (λ ms. AreOpenGoals program ms walk.choices (reverse after.opens.items) after.path.items) (sym marks)
          (subst (λ os. AreOpenGoals program cells.marks walk.choices (reverse os) after.path.items) (sym ext.opens_)
          (subst (AreOpenGoals program cells.marks walk.choices (reverse before.opens.items)) (sym ext.path_) (opens-more program cells.marks walk.choices (reverse before.opens.items) before.path.items [] walk.opens_)));
      nodes_ = λ k.
          let kept : before.keeps ≡ true = sym ext.keeps_ ∙ k in
          subst (λ os. AreNodes walk.choices (reverse os) after.nodes.items (walk.nodes ++ more)) (sym ext.opens_)
          (subst (λ ns. AreNodes walk.choices (reverse before.opens.items) ns (walk.nodes ++ more)) (sym (ext.nodes_ kept)) (nodes-more walk.choices (reverse before.opens.items) before.nodes.items walk.nodes more (walk.nodes_ kept)));
      steps_ = tt;
    }

-- the leaf of a negation's search: the negation doesn't hold
pub leaf-refutes : (program : Program) (budget given left : ℕ) (cells : Shown) (around : List Waiting) (waiting : Waiting) (before after : Search) (goal : Goal) → goal.literals ≡ [] → waiting.sub ≡ Negation
    → ((steps : List Step) → LeadHere cells.now (reverse before.path.items) steps → Extends waiting.search after [] (Present ∷ proof_nodes (first_proof (leaf_along steps (empty_leaf goal.terms left)))))
    → IsUnderWay program budget given cells (waiting ∷ around) before (Some goal) left → IsUnderWay program budget given cells around after None left
leaf-refutes program budget given left cells around waiting before after goal none is ext h =
    let asked : IsAsked program cells waiting before (Some goal) left = h.0 in
    let walk = asked.inner in
    let leaf : Leaf = leaf_along walk.steps (empty_leaf goal.terms left) in
    let purpose : IsFor Negation asked.literal.form asked.atom asked.terms asked.found = subst (λ s. IsFor s asked.literal.form asked.atom asked.terms asked.found) is asked.purpose in
    let root : List Tree → Goal = λ ts. sub_goal (waiting_goal cells.marks waiting) asked.literal.line asked.atom ts in
    let first = finds-first program cells before (root asked.terms) asked.spare goal left asked.found walk none in
    let leaves_ : (walk_of (tree program (root []) asked.spare)).leaves ≡ leaf ∷ first.0 =
    ap (λ ts. (walk_of (tree program (root ts) asked.spare)).leaves) (sym purpose.2) ∙ (first.1 ∙ ap (λ ls. (ls ++ leaf ∷ []) ++ first.0) purpose.3) in
    within program budget given around (at_mark cells waiting.mark) cells waiting.search after (Some (waiting_goal cells.marks waiting)) None (suc asked.spare) left (same-self cells.marks (waiting_marks around)) (ext walk.steps walk.steps_).keeps_
    (refuted program (at_mark cells waiting.mark) cells waiting.search after (waiting_goal cells.marks waiting) waiting.place asked.literal asked.selects refl asked.atom asked.spare left leaf first.0 purpose.0 purpose.1 leaves_ (along-left walk.steps (empty_leaf goal.terms left))
    (ext walk.steps walk.steps_)) h.1

-- the leaf of a gather's search: its value is noted
pub leaf-gathers : (program : Program) (budget given left : ℕ) (cells : Shown) (around : List Waiting) (waiting noted : Waiting) (values more : List Tree) (before after : Search) (goal : Goal) → goal.literals ≡ []
    → IsGatherWith waiting noted values more → more ≡ values ++ argument goal.terms 0 ∷ [] → Extends before after [] (Success ∷ [])
    → IsUnderWay program budget given cells (waiting ∷ around) before (Some goal) left → IsUnderWay program budget given cells (noted ∷ around) after None left
leaf-gathers program budget given left cells around waiting noted values more before after goal none with_ more_ ext h =
    let asked : IsAsked program cells waiting before (Some goal) left = h.0 in
    let walk = asked.inner in
    let leaf : Leaf = leaf_along walk.steps (empty_leaf goal.terms left) in
    let value : value_of leaf ≡ argument goal.terms 0 = ap (λ ts. argument ts 0) (along-terms walk.steps (empty_leaf goal.terms left)) in
    let same : waiting_goal cells.marks noted ≡ waiting_goal cells.marks waiting = ap₂ (λ m n. goal_at (snapshot_at cells.marks m) n) with_.mark_ with_.goal_ in
    let made : IsAsked program cells noted after None left = record {
      literal = asked.literal;
      atom = asked.atom;
      terms = asked.terms;
      found = asked.found ++ leaf ∷ [];
      spare = asked.spare;
      selects = subst (λ g. Selects program g.literals noted.place asked.literal) (sym same) (subst (λ p. Selects program (waiting_goal cells.marks waiting).literals p asked.literal) (sym with_.place_) asked.selects);
      purpose = with_.noted_ asked.literal.form asked.atom asked.terms asked.found (asked.found ++ leaf ∷ [])
          (λ same. more_ ∙ (ap₂ (λ vs v. vs ++ v ∷ []) same (sym value) ∙ sym (map-append value_of asked.found (leaf ∷ [])))) asked.purpose;
      inner = subst (λ g. Walks program cells after (sub_goal g asked.literal.line asked.atom asked.terms) asked.spare None left (asked.found ++ leaf ∷ [])) (sym same)
          (finds program cells before after (sub_goal (waiting_goal cells.marks waiting) asked.literal.line asked.atom asked.terms) asked.spare goal left asked.found walk none ext);
      keeps = ext.keeps_ ∙ asked.keeps;
    } in (
      made,
      subst (λ m. IsUnderWay program budget given (at_mark cells m) around noted.search (Some (waiting_goal cells.marks noted)) (suc asked.spare)) (sym with_.mark_)
          (subst (λ s. IsUnderWay program budget given (at_mark cells waiting.mark) around s (Some (waiting_goal cells.marks noted)) (suc asked.spare)) (sym with_.search_)
          (subst (λ g. IsUnderWay program budget given (at_mark cells waiting.mark) around waiting.search (Some g) (suc asked.spare)) (sym same) h.1)),
    )

-- the query's search has no open goal left: it is done
pub main-done : (program : Program) (budget given left : ℕ) (cells : Shown) (within_ : Search) → within_.opens.items ≡ [] → IsMain program budget given cells within_ None left → IsAtEnd program budget given left Done
main-done program budget given left cells within_ none main =
    let done_ = walked program cells within_ (root_of program) budget left main.found none main.inner in
    record { count = ap (λ w. length w.leaves) done_.1 ∙ main.count; ending = ap (λ w. w.ending) done_.1; selections = ap (λ w. w.left) done_.1 }
