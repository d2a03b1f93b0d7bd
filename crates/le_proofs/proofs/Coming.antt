-- The replay of proofs comes through where the relation has a derivation: one step, over what comes through with less fuel.
use Rattle.std.proofs.Common.{◌≡◌, ℕ, zero, suc, ◌+◌, ◌-◌, ◌<◌, ◌≤◌, ◌==◌, ◌&&◌, Bool, true, false, not, List, [], ◌∷◌, ◌++◌, map, zip, take, drop, length, Some, refl, sym, ap, ◌∙◌, subst, true≢false, arith}
use Rattle.std.specs.Prelude.{Result, Ok, slice_get}
use Rattle.std.specs.List.{AllByRecursion}
use Rattle.std.proofs.lemmas.List.{map-append, length-map}
use Rattle.std.proofs.lemmas.Slice.Zip.{firsts-zip, seconds-zip}
use Rattle.std.proofs.lemmas.Bool.Decides.{Decides-eqb}
use Rattle.le_base.specs.declared.stop.FoldKind.{FoldKind}
use Rattle.le_base.specs.declared.stop.FoldKind.TheVariants.{Sum}
use Rattle.le_terms.specs.Tree.{Tree, nil}
use Rattle.le_terms.specs.Variables.{occurrences, all_occurrences, replaced}
use Rattle.le_terms.specs.Program.{IsLiteral, IsProgramClause, form_terms, literals_terms}
use Rattle.le_terms.specs.declared.program.Atom.{Atom}
use Rattle.le_terms.specs.declared.program.Clause.{Clause}
use Rattle.le_terms.specs.declared.program.Form.{Form}
use Rattle.le_terms.specs.declared.program.Form.TheVariants.{Pos, Neg, Calc, Gather}
use Rattle.le_terms.specs.declared.program.Literal.{Literal}
use Rattle.le_terms.specs.declared.program.Program.{Program}
use Rattle.le_subst.specs.Unifiers.{Bindings, value_at, Factors}
use Rattle.le_builtins.specs.Compute.{compute, argument}
use Rattle.le_builtins.proofs.Results.{results}
use Rattle.le_builtins.proofs.Variants.{ground-same, compute-same, argument-under}
use Rattle.le_proofs.specs.declared.node.Node.{Node}
use Rattle.le_proofs.specs.declared.node.Node.TheVariants.{Use, Compute, Absent, Gather as Gathering}
use Rattle.le_gather.specs.Folds.{fold_of}
use Rattle.le_proofs.specs.Goals.{Goal, Picked, Child, pick, is_delayed, is_open_negation, selected, put_in_place, child_by, rest_by, rest_goal, sub_goal, terms_under, atom_under, form_under, literal_under, literals_under, raised, head_solution, is_ground_atom}
use Rattle.le_proofs.specs.Proofs.{Proof, Proofs, by_clause, by_computing, by_failure, by_gathering, WholeTree, Reason, Step, from_above, step_to, step_past, then_by, proof_by, clause_used, value_computed, failure_shown, cases_gathered, listed}
use Rattle.le_proofs.specs.Search.{Outcome, goes_on, computing, by_answer, by_fold, is_covered}
use Rattle.le_proofs.specs.Derivations.{proof_nodes, proofs_nodes, tree_nodes}
use Rattle.le_proofs.specs.Lloyd.{IsClauseOf, Pair, pairs_under, named, seen_by, map_variables, only, values_at, ByClause, ByComputing, ByFailure, ByGathering, Proves, Runs, IsWhole, WholeBelow, RefutableBelow, goal_variables}
use Rattle.le_proofs.specs.Replay.{Fault, Replayed, gives, then_on, and_on, unless, Proven, Walked, or_first, met, of_atom, of_computed, of_negation, of_gather, clause_at, number_at, onward, use_clause, use_one, computed_on, prove, proof_nodes_at, put_places, beginnings, nodes_at}
use Rattle.le_proofs.proofs.Alls.{all-both, all-left, all-right}
use Rattle.le_proofs.proofs.Variants.{terms-agree, in-itself}
use Rattle.le_proofs.proofs.Picks.{pick-means}
use Rattle.le_proofs.proofs.Sound.{terms-then}
use Rattle.le_proofs.proofs.Shapes.{no_atom, bare, under_then, Begun, begun, met-bare}
use Rattle.le_proofs.proofs.Same.{SameAtom, SameProof, SameTree, AreSame, same-packed, joined-same, Begins, Stand, beginnings-stand, stand-at, stand-put, node_count, node_count-append, node_count-listed}
use Rattle.le_proofs.proofs.Instances.{picked_map, pick-map, terms-split, terms-join}
use Rattle.le_gather.proofs.Variants.{AreVaried, fold-same}
use Rattle.le_proofs.proofs.Invariant.{covered-under}
use Rattle.le_proofs.proofs.Alike.{In, Tied, Alike, dropped}
use Rattle.le_proofs.proofs.Steps.{tied-rounds, tied-low, form-tied, form-right, unifies-too, has-solution, clause-step, Past, past-step, past-computed, past-folded}

-- the literals of pairs, and their proofs
abbrev pub lits : List Pair → List Literal
lits pairs = map (λ (p : Pair). p.0) pairs

abbrev pub prfs : List Pair → List Proof
prfs pairs = map (λ (p : Pair). p.1) pairs

pub lits-under : (by : ℕ → Tree) (pairs : List Pair) → lits (pairs_under by pairs) ≡ literals_under by (lits pairs)
lits-under by [] = refl
lits-under by (p ∷ pairs) = ap (λ ls. literal_under by p.0 ∷ ls) (lits-under by pairs)

pub prfs-under : (by : ℕ → Tree) (pairs : List Pair) → prfs (pairs_under by pairs) ≡ prfs pairs
prfs-under by [] = refl
prfs-under by (p ∷ pairs) = ap (λ ps. p.1 ∷ ps) (prfs-under by pairs)

pub three-map : {X Y : Type 0} (f : X → Y) (xs ys zs : List X) → map f (xs ++ (ys ++ zs)) ≡ map f xs ++ (map f ys ++ map f zs)
three-map f xs ys zs = map-append f xs (ys ++ zs) ∙ ap (λ ls. map f xs ++ ls) (map-append f ys zs)

-- a goal with other terms
abbrev pub with_terms : Goal → List Tree → Goal
with_terms goal terms = record { next = goal.next; literals = goal.literals; terms = terms }

-- the replay of a goal's proofs comes through, and its leaf is the one that the relation has, but for the names of variables
pub record IsCome (goal : Goal) (terms kept : List Tree) (by : ℕ → Tree) (shown : List Proof) (answer : Result Proven Fault) : Type 0 where
  pub proven : Proven
  pub came : answer ≡ Ok proven
  pub to : ℕ → Tree
  pub back : ℕ → Tree
  pub there : terms_under proven.leaf.by goal.terms ≡ terms_under to (terms_under by kept)
  pub again : terms_under by kept ≡ terms_under back (terms_under proven.leaf.by goal.terms)
  pub values : proven.leaf.terms ≡ terms_under proven.leaf.by terms
  pub same : AreSame to back shown proven.leaf.proofs

-- leaves' terms, each a variant by substitutions of its own
abbrev pub AreFound : List (List Tree) → List (List Tree) → Type 0
AreFound [] [] = Unit {0}
AreFound (ts ∷ found) (us ∷ others) = ((to : ℕ → Tree) × (back : ℕ → Tree) × (us ≡ terms_under to ts) × (terms_under back us ≡ ts)) × AreFound found others
AreFound found others = ⊥

pub found-values : (found others : List (List Tree)) → AreFound found others → AreVaried (values_at found) (values_at others)
found-values [] [] are = tt
found-values (ts ∷ found) (us ∷ others) are = (
  (are.0.0, are.0.1, ap (λ vs. argument vs 0) are.0.2 ∙ (argument-under are.0.0 are.0.1 ts).0, sym (argument-under are.0.1 are.0.0 us).0 ∙ ap (λ vs. argument vs 0) are.0.3),
  found-values found others are.1,
)
found-values [] (us ∷ others) are = absurd are
found-values (ts ∷ found) [] are = absurd are

-- and that of a goal's tree
pub record IsWalkedOut (tree : WholeTree) (found : List (List Tree)) (more : List Node) (answer : Result Walked Fault) : Type 0 where
  pub walked : Walked
  pub came : answer ≡ Ok walked
  pub same : SameTree tree walked.tree
  pub rest : map bare walked.rest ≡ more
  pub varied : AreFound found walked.found

-- what comes through with so much fuel
abbrev pub ProofsCome : Program → (ℕ → ℕ) → ℕ → ℕ → (Goal → List (List Node) → Replayed Proven) → Type 0
ProofsCome program arity predicates fuel proofs =
    (rank steps : ℕ) (seen : List ℕ) (pairs : List Pair) (kept : List Tree) (by : ℕ → Tree) (goal : Goal) (terms : List Tree) (places : List (List Node)) → Alike arity predicates seen (lits pairs) kept goal
    → Runs program (WholeBelow rank program) steps seen pairs by → Stand places (prfs pairs) → node_count (prfs pairs) < fuel → IsCome goal terms kept by (prfs pairs) (proofs (with_terms goal terms) places).answer

abbrev pub TreesCome : Program → (ℕ → ℕ) → ℕ → ℕ → (Bool → Goal → List Node → Replayed Walked) → Type 0
TreesCome program arity predicates fuel walk =
    (rank : ℕ) (tree : WholeTree) (seen : List ℕ) (literals : List Literal) (kept : List Tree) (goal : Goal) (failed : Bool) (nodes more : List Node) (found : List (List Tree)) → Alike arity predicates seen literals kept goal
    → IsWhole program (WholeBelow rank program) (RefutableBelow rank program) tree seen literals kept found → map bare nodes ≡ under_then (tree_nodes tree) more → length (tree_nodes tree) < fuel → (failed ≡ true → found ≡ [])
    → IsWalkedOut tree found more (walk failed goal nodes).answer

-- what comes through comes through on
pub came-and : {X Y : Type 0} (r : Replayed X) (more : X → Replayed Y) (x : X) (y : Y) → r.answer ≡ Ok x → (more x).answer ≡ Ok y → (and_on r more).answer ≡ Ok y
came-and r more x y is then_is = ap (λ a. (then_on r.tried a more).answer) is ∙ then_is

pub came-unless : {X : Type 0} (b : Bool) (node why : ℕ) (more : Replayed X) → b ≡ false → (unless b node why more).answer ≡ more.answer
came-unless true node why more is = absurd (true≢false is)
came-unless false node why more is = refl

pub split-same : {X : Type 0} (xs ys zs ws : List X) → length xs ≡ length zs → xs ++ ys ≡ zs ++ ws → (xs ≡ zs) × (ys ≡ ws)
split-same [] ys [] ws lengths same = (refl, same)
split-same [] ys (z ∷ zs) ws lengths same = absurd (cc lengths)
split-same (x ∷ xs) ys [] ws lengths same = absurd (cc lengths)
split-same (x ∷ xs) ys (z ∷ zs) ws lengths same =
    let rest : (xs ≡ zs) × (ys ≡ ws) = split-same xs ys zs ws (cc lengths) (cc same) in
    let here : x ≡ z = cc same in
    (ap (λ y. y ∷ xs) here ∙ ap (λ ls. z ∷ ls) rest.0, rest.1)

pub under-split : (f g h : ℕ → Tree) (firsts others behind_ behinds : List Tree) → length firsts ≡ length others → terms_under f (firsts ++ behind_) ≡ terms_under g (terms_under h (others ++ behinds))
    → (terms_under f firsts ≡ terms_under g (terms_under h others)) × (terms_under f behind_ ≡ terms_under g (terms_under h behinds))
under-split f g h firsts others behind_ behinds lengths same =
    split-same (terms_under f firsts) (terms_under f behind_) (terms_under g (terms_under h others)) (terms_under g (terms_under h behinds))
    (length-map firsts (replaced f) ∙ (lengths ∙ sym (length-map (terms_under h others) (replaced g) ∙ length-map others (replaced h))))
    (sym (map-append (replaced f) firsts behind_) ∙ (same ∙ (ap (terms_under g) (map-append (replaced h) others behinds) ∙ map-append (replaced g) (terms_under h others) (terms_under h behinds))))

-- an atom that is shown, and that of the replay
pub same-atom : (to back by other_by there : ℕ → Tree) (atom shown : Atom) → shown ≡ atom_under by atom → terms_under other_by (terms_under there atom.args) ≡ terms_under to (terms_under by atom.args)
    → terms_under by atom.args ≡ terms_under back (terms_under other_by (terms_under there atom.args)) → SameAtom to back shown (atom_under other_by (atom_under there atom))
same-atom to back by other_by there atom shown is forth again = (
  ap (λ ts. let a : Atom = record { pred = atom.pred; args = ts } in a) forth ∙ ap (atom_under to) (sym is),
  is ∙ ap (λ ts. let a : Atom = record { pred = atom.pred; args = ts } in a) again,
)

-- a literal of a state is passed over as its variant is
pub delay-same : (seen : List ℕ) (to back : ℕ → Tree) (next version : ℕ) (literals : List Literal) → AllByRecursion (Tied seen to back next) (all_occurrences (literals_terms literals)) → AllByRecursion (λ literal. is_delayed version (literal_under to literal) ≡ is_delayed version literal) literals
delay-same seen to back next version [] tied = tt
delay-same seen to back next version (literal ∷ literals) tied =
    let both : AllByRecursion (Tied seen to back next) (all_occurrences (form_terms literal.form)) × AllByRecursion (Tied seen to back next) (all_occurrences (literals_terms literals)) = terms-split (Tied seen to back next) (form_terms literal.form) (literals_terms literals) tied in
    (ap (λ b. version == 2 && b) (by literal.form both.0), delay-same seen to back next version literals both.1)
  where
    by : (form : Form) → AllByRecursion (Tied seen to back next) (all_occurrences (form_terms form)) → is_open_negation (form_under to form) ≡ is_open_negation form
    by (Pos atom) all = refl
    by (Neg atom) all = ap not (ground-same to back atom.args (tied-rounds seen to back next atom.args all))
    by (Calc atom) all = refl
    by (Gather fold result value atom) all = refl

pub selected-same : (arity : ℕ → ℕ) (predicates version : ℕ) (seen : List ℕ) (literals : List Literal) (kept : List Tree) (goal : Goal) (alike : Alike arity predicates seen literals kept goal) (picked : Picked Literal) → selected version literals ≡ Some picked
    → selected version goal.literals ≡ Some (picked_map (literal_under alike.to) picked)
selected-same arity predicates version seen literals kept goal alike picked is =
    ap (selected version) alike.same
    ∙ pick-map (literal_under alike.to) (is_delayed version) (is_delayed version) literals (delay-same seen alike.to alike.back goal.next version literals alike.tied) picked is

pub or-first-some : {X : Type 0} (passes : X → Bool) (xs : List X) (picked : Picked X) → pick passes xs ≡ Some picked → or_first xs (pick passes xs) ≡ Some picked
or-first-some passes [] picked is = absurd (cc is)
or-first-some {X = X} passes (x ∷ xs) picked is = ap (or_first (x ∷ xs)) is

pub clause-there : (program : Program) (number : ℕ) (clause : Clause) → IsClauseOf program number clause → clause_at program number ≡ Some clause
clause-there program zero clause is = absurd (let bad : 1 ≤ 0 = is.0 in omega arith)
clause-there program (suc place) clause is = ap (slice_get program.clauses) (let same : place ≡ suc place - 1 = omega arith in same) ∙ is.1

numbers-same : (m n : ℕ) → m ≡ n → not (m == n) ≡ false
numbers-same m n same = ap not ((Decides-eqb m n).1 same)

-- a clause of a program is one of its clauses
pub clause-is : (P : Clause → Type 0) (clauses : List Clause) (place : ℕ) (clause : Clause) → AllByRecursion P clauses → slice_get clauses place ≡ Some clause → P clause
clause-is P [] place clause all is = absurd (cc is)
clause-is P (c ∷ clauses) zero clause all is = let same : c ≡ clause = cc is in subst P same all.0
clause-is P (c ∷ clauses) (suc place) clause all is = clause-is P clauses place clause all.1 is

-- the state of the search of one atom of a selected literal
pub sub-alike : (arity : ℕ → ℕ) (predicates : ℕ) (seen : List ℕ) (to back : ℕ → Tree) (goal : Goal) (line : ℕ) (atom : Atom) (terms : List Tree) → AllByRecursion (Tied seen to back goal.next) (all_occurrences atom.args) → AllByRecursion (Tied seen to back goal.next) (all_occurrences terms)
    → IsLiteral arity predicates (record { line = line; form = Pos atom }) → Alike arity predicates (goal_variables (only line atom) terms) (only line atom) terms (sub_goal goal line (atom_under to atom) (terms_under to terms))
sub-alike arity predicates seen to back goal line atom terms tied_atom tied_terms right =
    let own : List ℕ = goal_variables (only line atom) terms in
    let inside : AllByRecursion (In own) (all_occurrences (atom.args ++ [])) × AllByRecursion (In own) (all_occurrences terms) = terms-split (In own) (atom.args ++ []) terms (in-itself (In own) own (λ v h. h)) in
    record {
      to = to;
      back = back;
      same = refl;
      same_kept = refl;
      tied = again own (all_occurrences (atom.args ++ [])) inside.0 (terms-join (Tied seen to back goal.next) atom.args [] tied_atom tt);
      tied_kept = again own (all_occurrences terms) inside.1 tied_terms;
      right = (right, tt);
    }
  where
    again : (own vs : List ℕ) → AllByRecursion (In own) vs → AllByRecursion (Tied seen to back goal.next) vs → AllByRecursion (Tied own to back goal.next) vs
    again own [] a b = tt
    again own (v ∷ vs) a b = (record { there = a.0; round = b.0.round; low = b.0.low }, again own vs a.1 b.1)

module _ (program : Program) (arity : ℕ → ℕ) (predicates : ℕ) (valid : AllByRecursion (IsProgramClause arity predicates) program.clauses) (total fuel : ℕ)
    (proofs : Goal → List (List Node) → Replayed Proven) (walk : Bool → Goal → List Node → Replayed Walked) (proofs_come : ProofsCome program arity predicates fuel proofs) (trees_come : TreesCome program arity predicates fuel walk) where
  -- a step, and what comes after it
  onward-comes : (goal : Goal) (terms kept : List Tree) (by : ℕ → Tree) (firsts others : List Tree) → length others ≡ length firsts → (before middle behind_ : List Proof) (p : Proof) (number : ℕ) (step : Step) (orders : List ℕ) (new_goal : Goal) (new_places : List (List Node)) (proven : Proven)
      → (proofs new_goal new_places).answer ≡ Ok proven → (to back : ℕ → Tree)
      → terms_under (then_by step.unifier proven.leaf.by) (others ++ goal.terms) ≡ terms_under to (terms_under by (firsts ++ kept))
      → terms_under by (firsts ++ kept) ≡ terms_under back (terms_under (then_by step.unifier proven.leaf.by) (others ++ goal.terms))
      → proven.leaf.terms ≡ terms_under (then_by step.unifier proven.leaf.by) terms → step.place ≡ length before → step.count ≡ length middle → AreSame to back (before ++ (middle ++ behind_)) proven.leaf.proofs
      → (terms_under (then_by step.unifier proven.leaf.by) others ≡ terms_under to (terms_under by firsts) → terms_under by firsts ≡ terms_under back (terms_under (then_by step.unifier proven.leaf.by) others)
      → (ms : List Proof) → AreSame to back middle ms → SameProof to back p (proof_by (then_by step.unifier proven.leaf.by) ms step.reason))
      → IsCome goal terms kept by (before ++ p ∷ behind_) (onward program total proofs walk number step orders new_goal new_places).answer
  onward-comes goal terms kept by firsts others lengths before middle behind_ p number step orders new_goal new_places proven came to back there again values place count same make =
      let forth : (terms_under (then_by step.unifier proven.leaf.by) others ≡ terms_under to (terms_under by firsts)) × (terms_under (then_by step.unifier proven.leaf.by) goal.terms ≡ terms_under to (terms_under by kept)) =
      under-split (then_by step.unifier proven.leaf.by) to by others firsts goal.terms kept lengths there in
      let home : (terms_under by firsts ≡ terms_under back (terms_under (then_by step.unifier proven.leaf.by) others)) × (terms_under by kept ≡ terms_under back (terms_under (then_by step.unifier proven.leaf.by) goal.terms)) =
      under-split by back (then_by step.unifier proven.leaf.by) firsts others kept goal.terms (sym lengths) again in
      record {
        proven = record { leaf = from_above step proven.leaf; order = number ∷ (orders ++ proven.order) };
        came = came-and (proofs new_goal new_places) (λ rest. gives (record { leaf = from_above step rest.leaf; order = number ∷ (orders ++ rest.order) })) proven (record { leaf = from_above step proven.leaf; order = number ∷ (orders ++ proven.order) }) came refl;
        to = to;
        back = back;
        there = forth.1;
        again = home.1;
        values = values;
        same = joined-same to back before middle behind_ p proven.leaf.proofs step.place step.count (λ below. proof_by (then_by step.unifier proven.leaf.by) below step.reason) place count same (make forth.0 home.0);
      }

  -- with unifiers
  unified-comes : (goal : Goal) (terms kept : List Tree) (by : ℕ → Tree) (firsts others : List Tree) → length others ≡ length firsts → (before middle behind_ : List Proof) (p : Proof) (number : ℕ) (step : Step) (orders : List ℕ) (new_goal : Goal) (new_places : List (List Node))
      → (unifier : Bindings) (rest_by : ℕ → Tree) → Factors by unifier rest_by → (shown : List Proof) → shown ≡ before ++ (middle ++ behind_)
      → (come : IsCome (with_terms new_goal (terms_under (value_at step.unifier) (others ++ goal.terms))) (terms_under (value_at step.unifier) terms) (terms_under (value_at unifier) (firsts ++ kept)) rest_by shown (proofs new_goal new_places).answer)
      → step.place ≡ length before → step.count ≡ length middle
      → (terms_under (then_by step.unifier come.proven.leaf.by) others ≡ terms_under come.to (terms_under by firsts) → terms_under by firsts ≡ terms_under come.back (terms_under (then_by step.unifier come.proven.leaf.by) others)
      → (ms : List Proof) → AreSame come.to come.back middle ms → SameProof come.to come.back p (proof_by (then_by step.unifier come.proven.leaf.by) ms step.reason))
      → IsCome goal terms kept by (before ++ p ∷ behind_) (onward program total proofs walk number step orders new_goal new_places).answer
  unified-comes goal terms kept by firsts others lengths before middle behind_ p number step orders new_goal new_places unifier rest_by composed shown is_shown come place count make =
      let whole : terms_under by (firsts ++ kept) ≡ terms_under rest_by (terms_under (value_at unifier) (firsts ++ kept)) = terms-agree by (then_by unifier rest_by) (firsts ++ kept) composed ∙ sym (terms-then unifier rest_by (firsts ++ kept)) in
      let then_is : terms_under come.proven.leaf.by (terms_under (value_at step.unifier) (others ++ goal.terms)) ≡ terms_under (then_by step.unifier come.proven.leaf.by) (others ++ goal.terms) = terms-then step.unifier come.proven.leaf.by (others ++ goal.terms) in
      onward-comes goal terms kept by firsts others lengths before middle behind_ p number step orders new_goal new_places come.proven come.came come.to come.back
      (sym then_is ∙ (come.there ∙ ap (terms_under come.to) (sym whole)))
      (whole ∙ (come.again ∙ ap (terms_under come.back) then_is))
      (come.values ∙ terms-then step.unifier come.proven.leaf.by terms) place count (subst (λ ps. AreSame come.to come.back ps come.proven.leaf.proofs) is_shown come.same) make

  module _ (rank steps : ℕ) (seen : List ℕ) (pairs : List Pair) (kept : List Tree) (by : ℕ → Tree) (goal : Goal) (terms : List Tree) (places : List (List Node)) (alike : Alike arity predicates seen (lits pairs) kept goal)
      (stand : Stand places (prfs pairs)) (enough : node_count (prfs pairs) < suc fuel) (picked : Picked Pair) (one : pick (λ (pair : Pair). is_delayed program.version pair.0) pairs ≡ Some picked) where
    all : pairs ≡ picked.before ++ picked.chosen ∷ picked.behind
    all = (pick-means (λ (pair : Pair). is_delayed program.version pair.0) pairs picked one).all

    abbrev chosen_literal : Picked Literal
    chosen_literal = picked_map (λ (p : Pair). p.0) picked

    abbrev chosen : Picked Literal
    chosen = picked_map (literal_under alike.to) chosen_literal

    literals-all : lits pairs ≡ chosen_literal.before ++ chosen_literal.chosen ∷ chosen_literal.behind
    literals-all = ap lits all ∙ map-append (λ (p : Pair). p.0) picked.before (picked.chosen ∷ picked.behind)

    proofs-all : prfs pairs ≡ prfs picked.before ++ picked.chosen.1 ∷ prfs picked.behind
    proofs-all = ap prfs all ∙ map-append (λ (p : Pair). p.1) picked.before (picked.chosen ∷ picked.behind)

    pub is-selected : selected program.version goal.literals ≡ Some chosen
    is-selected = selected-same arity predicates program.version seen (lits pairs) kept goal alike chosen_literal
        (pick-map (λ (p : Pair). p.0) (λ (pair : Pair). is_delayed program.version pair.0) (is_delayed program.version) pairs (same pairs) picked one)
      where
        same : (ps : List Pair) → AllByRecursion (λ (p : Pair). is_delayed program.version p.0 ≡ is_delayed program.version p.0) ps
        same [] = tt
        same (p ∷ ps) = (refl, same ps)

    before-length : length chosen.before ≡ length (prfs picked.before)
    before-length = length-map chosen_literal.before (literal_under alike.to) ∙ (length-map picked.before (λ (p : Pair). p.0) ∙ sym (length-map picked.before (λ (p : Pair). p.1)))

    standing : Stand places (prfs picked.before ++ picked.chosen.1 ∷ prfs picked.behind)
    standing = subst (Stand places) proofs-all stand

    abbrev firsts : List Tree
    firsts = form_terms picked.chosen.0.form

    -- the nodes of the proofs that come in the chosen one's place are fewer
    fewer : (middle : List Proof) → node_count middle < length (proof_nodes picked.chosen.1) → node_count (prfs picked.before ++ (middle ++ prfs picked.behind)) < fuel
    fewer middle less =
        let whole : node_count (prfs pairs) ≡ node_count (prfs picked.before) + (length (proof_nodes picked.chosen.1) + node_count (prfs picked.behind)) = ap node_count proofs-all ∙ node_count-append (prfs picked.before) (picked.chosen.1 ∷ prfs picked.behind) in
        let outer : node_count (prfs picked.before ++ (middle ++ prfs picked.behind)) ≡ node_count (prfs picked.before) + node_count (middle ++ prfs picked.behind) = node_count-append (prfs picked.before) (middle ++ prfs picked.behind) in
        let inner : node_count (middle ++ prfs picked.behind) ≡ node_count middle + node_count (prfs picked.behind) = node_count-append middle (prfs picked.behind) in
        let small : node_count middle < length (proof_nodes picked.chosen.1) = less in
        let all_of : node_count (prfs pairs) < suc fuel = enough in
        omega arith

    fits : length (proof_nodes picked.chosen.1) < suc fuel
    fits =
        let whole : node_count (prfs pairs) ≡ node_count (prfs picked.before) + (length (proof_nodes picked.chosen.1) + node_count (prfs picked.behind)) = ap node_count proofs-all ∙ node_count-append (prfs picked.before) (picked.chosen.1 ∷ prfs picked.behind) in
        let all_of : node_count (prfs pairs) < suc fuel = enough in
        omega arith

    abbrev Here : Replayed Proven → Type 0
    Here r = IsCome goal terms kept by (prfs pairs) r.answer

    here : (r : Replayed Proven) → IsCome goal terms kept by (prfs picked.before ++ picked.chosen.1 ∷ prfs picked.behind) r.answer → Here r
    here r come = subst (λ ps. IsCome goal terms kept by ps r.answer) (sym proofs-all) come

    -- at a node whose shape is known
    at-node : (place : List Node) (node : Node) (more : List Node) (form : Form) → picked.chosen.0.form ≡ form → map bare place ≡ node ∷ more
        → ((below : List Node) (number : ℕ) → map bare below ≡ more → Here (prove program total proofs walk (with_terms goal terms) places chosen chosen.chosen.line number below (met (form_under alike.to form) node)))
        → Here (proof_nodes_at program total proofs walk (with_terms goal terms) places chosen place)
    at-node place node more form is begins make =
        let at : Begun place node more = begun place node more begins in
        subst (λ ns. Here (proof_nodes_at program total proofs walk (with_terms goal terms) places chosen ns)) (sym at.all)
        (subst (λ m. Here (prove program total proofs walk (with_terms goal terms) places chosen chosen.chosen.line (number_at program total (at.it ∷ at.below)) at.below m))
        (sym (met-bare (form_under alike.to picked.chosen.0.form) at.it ∙ (ap (met (form_under alike.to picked.chosen.0.form)) at.is ∙ ap (λ f. met (form_under alike.to f) node) is)))
        (make at.below (number_at program total (at.it ∷ at.below)) at.rest))

    length-firsts : (form : Form) → length (terms_under alike.to (form_terms form)) ≡ length (form_terms form)
    length-firsts form = length-map (form_terms form) (replaced alike.to)

    -- an atom by a clause
    clause-comes : (atom : Atom) → picked.chosen.0.form ≡ Pos atom → (number : ℕ) (shown : Atom) (inner : Proofs) → picked.chosen.1 ≡ by_clause number shown inner
        → ByClause program (WholeBelow rank program) (Runs program (WholeBelow rank program) steps) seen picked by picked.chosen.0.line atom number shown (listed inner)
        → (more : List Node) (below : List Node) (at : ℕ) → map bare below ≡ under_then (proofs_nodes inner) more
        → Here (prove program total proofs walk (with_terms goal terms) places chosen chosen.chosen.line at below (of_atom (atom_under alike.to atom) number (length (listed inner))))
    clause-comes atom form number shown inner is_proof step more below at begins =
        let clause : Clause = step.clause in
        let is : IsProgramClause arity predicates clause = clause-is (IsProgramClause arity predicates) program.clauses (number - 1) clause valid step.resolves.clause_.1 in
        let atom' : Atom = atom_under alike.to atom in
        let solution : (other : Bindings) × (head_solution goal.next clause atom' ≡ Some other) = has-solution goal.next clause atom'
        (tied-low seen alike.to alike.back goal.next atom.args (form-tied arity predicates seen (lits pairs) kept goal alike chosen_literal literals-all (Pos atom) form))
        (unifies-too arity predicates seen (lits pairs) kept goal alike chosen_literal literals-all program atom form number clause step.names step.unifier is step.resolves) in
        let other : Bindings = solution.0 in
        let child : Child = child_by (with_terms goal terms) chosen number clause other in
        let new_places : List (List Node) = put_places (length chosen.before) (beginnings child.count below) places in
        let new_pairs : List Pair = pairs_under (value_at step.unifier) (put_in_place picked (zip (literals_under (named step.names) clause.body) (listed inner))) in
        let lengths : length (listed inner) ≡ length (literals_under (named step.names) clause.body) = step.count ∙ sym (length-map clause.body (literal_under (named step.names))) in
        let new_lits : lits new_pairs ≡ literals_under (value_at step.unifier) (put_in_place chosen_literal (literals_under (named step.names) clause.body)) =
        lits-under (value_at step.unifier) (put_in_place picked (zip (literals_under (named step.names) clause.body) (listed inner)))
        ∙ ap (literals_under (value_at step.unifier)) (three-map (λ (p : Pair). p.0) picked.before (zip (literals_under (named step.names) clause.body) (listed inner)) picked.behind
        ∙ ap (λ ls. lits picked.before ++ (ls ++ lits picked.behind)) (firsts-zip (literals_under (named step.names) clause.body) (listed inner) lengths)) in
        let new_proofs : prfs new_pairs ≡ prfs picked.before ++ (listed inner ++ prfs picked.behind) =
        prfs-under (value_at step.unifier) (put_in_place picked (zip (literals_under (named step.names) clause.body) (listed inner)))
        ∙ (three-map (λ (p : Pair). p.1) picked.before (zip (literals_under (named step.names) clause.body) (listed inner)) picked.behind
        ∙ ap (λ ps. prfs picked.before ++ (ps ++ prfs picked.behind)) (seconds-zip (literals_under (named step.names) clause.body) (listed inner) lengths)) in
        let new_alike : Alike arity predicates (seen_by seen clause step.names step.unifier) (literals_under (value_at step.unifier) (put_in_place chosen_literal (literals_under (named step.names) clause.body))) (terms_under (value_at step.unifier) (firsts ++ kept))
        (record { next = goal.next + clause.vars; literals = literals_under (value_at other) (put_in_place chosen (literals_under (raised goal.next) clause.body)); terms = terms_under (value_at other) (terms_under alike.to firsts ++ goal.terms) }) =
        clause-step arity predicates seen (lits pairs) kept goal alike chosen_literal literals-all program atom form number clause step.names step.unifier is step.resolves other solution.1 in
        let new_stand : Stand new_places (prfs picked.before ++ (listed inner ++ prfs picked.behind)) =
        subst (λ n. Stand (put_places n (beginnings child.count below) places) (prfs picked.before ++ (listed inner ++ prfs picked.behind))) (sym before-length)
        (stand-put places (beginnings child.count below) (prfs picked.before) (listed inner) picked.chosen.1 (prfs picked.behind) standing
        (subst (λ n. Stand (beginnings n below) (listed inner)) step.count (beginnings-stand inner below more begins))) in
        let less : node_count (listed inner) < length (proof_nodes picked.chosen.1) =
        (let counted : node_count (listed inner) ≡ length (proofs_nodes inner) = node_count-listed inner in let sized : length (proof_nodes picked.chosen.1) ≡ suc (length (proofs_nodes inner)) = ap (λ p. length (proof_nodes p)) is_proof in omega arith) in
        let come : IsCome (with_terms child.goal (terms_under (value_at other) (terms_under alike.to firsts ++ goal.terms))) (terms_under (value_at other) terms) (terms_under (value_at step.unifier) (firsts ++ kept)) step.rest_by (prfs new_pairs) (proofs child.goal new_places).answer =
        proofs_come rank steps (seen_by seen clause step.names step.unifier) new_pairs (terms_under (value_at step.unifier) (firsts ++ kept)) step.rest_by
        (record { next = goal.next + clause.vars; literals = literals_under (value_at other) (put_in_place chosen (literals_under (raised goal.next) clause.body)); terms = terms_under (value_at other) (terms_under alike.to firsts ++ goal.terms) })
        (terms_under (value_at other) terms) new_places
        (subst (λ ls. Alike arity predicates (seen_by seen clause step.names step.unifier) ls (terms_under (value_at step.unifier) (firsts ++ kept))
        (record { next = goal.next + clause.vars; literals = literals_under (value_at other) (put_in_place chosen (literals_under (raised goal.next) clause.body)); terms = terms_under (value_at other) (terms_under alike.to firsts ++ goal.terms) })) (sym new_lits) new_alike)
        step.rest (subst (Stand new_places) (sym new_proofs) new_stand) (subst (λ ps. node_count ps < fuel) (sym new_proofs) (fewer (listed inner) less)) in
        let P : Replayed Proven → Type 0 = Here in
        subst (λ o. Here (use_one program total proofs walk (with_terms goal terms) places chosen atom' at number (length (listed inner)) below o)) (sym (clause-there program number clause step.resolves.clause_))
        (subst (λ a. IsCome goal terms kept by (prfs pairs) a)
        (sym (came-unless (not (length (listed inner) == length clause.body)) at 3 (use_clause program total proofs walk (with_terms goal terms) places chosen atom' at number below clause (head_solution goal.next clause atom')) (numbers-same (length (listed inner)) (length clause.body) step.count)))
        (subst (λ o. Here (use_clause program total proofs walk (with_terms goal terms) places chosen atom' at number below clause o)) (sym solution.1)
        (here (use_clause program total proofs walk (with_terms goal terms) places chosen atom' at number below clause (Some other))
        (unified-comes goal terms kept by firsts (terms_under alike.to firsts) (length-firsts picked.chosen.0.form) (prfs picked.before) (listed inner) (prfs picked.behind) picked.chosen.1 at (step_to (length chosen.before) atom' child) [] child.goal new_places step.unifier step.rest_by step.composed
        (prfs new_pairs) new_proofs come before-length (sym step.count)
        (λ forth home ms same. subst (λ p. SameProof come.to come.back p (proof_by (then_by other come.proven.leaf.by) ms (clause_used number atom'))) (sym is_proof) (
          refl,
          same-atom come.to come.back by (then_by other come.proven.leaf.by) alike.to atom shown step.instance
              (subst (λ f. terms_under (then_by other come.proven.leaf.by) (terms_under alike.to (form_terms f)) ≡ terms_under come.to (terms_under by (form_terms f))) form forth)
              (subst (λ f. terms_under by (form_terms f) ≡ terms_under come.back (terms_under (then_by other come.proven.leaf.by) (terms_under alike.to (form_terms f)))) form home),
          same-packed come.to come.back inner ms same,
        ))))))

    -- the rest after a literal that goes, with unifiers
    past-comes : (form : Form) → picked.chosen.0.form ≡ form → (unifier other : Bindings) → Past arity predicates seen (lits pairs) kept goal alike chosen_literal literals-all unifier other
        → (then_sub : ℕ → Tree) → Factors by unifier then_sub → Runs program (WholeBelow rank program) steps (map_variables unifier ++ seen) (pairs_under (value_at unifier) (put_in_place picked [])) then_sub
        → (reason : Reason) (orders : List ℕ) (at : ℕ)
        → ((to back leaf_by : ℕ → Tree) → terms_under (then_by other leaf_by) (terms_under alike.to (form_terms form)) ≡ terms_under to (terms_under by (form_terms form)) → terms_under by (form_terms form) ≡ terms_under back (terms_under (then_by other leaf_by) (terms_under alike.to (form_terms form)))
        → SameProof to back picked.chosen.1 (proof_by (then_by other leaf_by) [] reason))
        → length (proof_nodes picked.chosen.1) ≡ suc (length (proof_nodes picked.chosen.1) - 1)
        → (outcome : Outcome) → outcome ≡ goes_on other → Here (computed_on program total proofs walk (with_terms goal terms) places chosen reason orders at outcome)
    past-comes form is unifier other past then_sub composed runs reason orders at make some outcome goes =
        let new_places : List (List Node) = put_places (length chosen.before) [] places in
        let new_pairs : List Pair = pairs_under (value_at unifier) (put_in_place picked []) in
        let new_goal : Goal = record { next = goal.next; literals = literals_under (value_at other) (put_in_place chosen []); terms = terms_under (value_at other) (terms_under alike.to firsts ++ goal.terms) } in
        let new_lits : lits new_pairs ≡ literals_under (value_at unifier) (put_in_place chosen_literal []) =
        lits-under (value_at unifier) (put_in_place picked []) ∙ ap (literals_under (value_at unifier)) (three-map (λ (p : Pair). p.0) picked.before [] picked.behind) in
        let new_proofs : prfs new_pairs ≡ prfs picked.before ++ ([] ++ prfs picked.behind) = prfs-under (value_at unifier) (put_in_place picked []) ∙ three-map (λ (p : Pair). p.1) picked.before [] picked.behind in
        let new_alike : Alike arity predicates (map_variables unifier ++ seen) (literals_under (value_at unifier) (put_in_place chosen_literal [])) (terms_under (value_at unifier) (firsts ++ kept)) new_goal =
        past-step arity predicates seen (lits pairs) kept goal alike chosen_literal literals-all unifier other past in
        let new_stand : Stand new_places (prfs picked.before ++ ([] ++ prfs picked.behind)) =
        subst (λ n. Stand (put_places n [] places) (prfs picked.before ++ ([] ++ prfs picked.behind))) (sym before-length) (stand-put places [] (prfs picked.before) [] picked.chosen.1 (prfs picked.behind) standing tt) in
        let less : node_count [] < length (proof_nodes picked.chosen.1) = (let sized : length (proof_nodes picked.chosen.1) ≡ suc (length (proof_nodes picked.chosen.1) - 1) = some in omega arith) in
        let come : IsCome (with_terms (rest_by_goal other) (terms_under (value_at other) (terms_under alike.to firsts ++ goal.terms))) (terms_under (value_at other) terms) (terms_under (value_at unifier) (firsts ++ kept)) then_sub (prfs new_pairs) (proofs (rest_by_goal other) new_places).answer =
        proofs_come rank steps (map_variables unifier ++ seen) new_pairs (terms_under (value_at unifier) (firsts ++ kept)) then_sub new_goal (terms_under (value_at other) terms) new_places
        (subst (λ ls. Alike arity predicates (map_variables unifier ++ seen) ls (terms_under (value_at unifier) (firsts ++ kept)) new_goal) (sym new_lits) new_alike)
        runs (subst (Stand new_places) (sym new_proofs) new_stand) (subst (λ ps. node_count ps < fuel) (sym new_proofs) (fewer [] less)) in
        subst (λ o. Here (computed_on program total proofs walk (with_terms goal terms) places chosen reason orders at o)) (sym goes)
        (here (computed_on program total proofs walk (with_terms goal terms) places chosen reason orders at (goes_on other))
        (unified-comes goal terms kept by firsts (terms_under alike.to firsts) (length-firsts picked.chosen.0.form) (prfs picked.before) [] (prfs picked.behind) picked.chosen.1 at (step_past chosen other reason) orders (rest_by_goal other) new_places unifier then_sub composed
        (prfs new_pairs) new_proofs come before-length refl
        (λ forth home ms same. none-below come.to come.back (λ ns. proof_by (then_by other come.proven.leaf.by) ns reason) ms same
        (make come.to come.back come.proven.leaf.by
        (subst (λ f. terms_under (then_by other come.proven.leaf.by) (terms_under alike.to (form_terms f)) ≡ terms_under come.to (terms_under by (form_terms f))) is forth)
        (subst (λ f. terms_under by (form_terms f) ≡ terms_under come.back (terms_under (then_by other come.proven.leaf.by) (terms_under alike.to (form_terms f)))) is home)))))
      where
        rest_by_goal : Bindings → Goal
        rest_by_goal bindings = rest_by (with_terms goal terms) chosen bindings

        none-below : (to back : ℕ → Tree) (make : List Proof → Proof) (ms : List Proof) → AreSame to back [] ms → SameProof to back picked.chosen.1 (make []) → SameProof to back picked.chosen.1 (make ms)
        none-below to back make [] same is = is
        none-below to back make (m ∷ ms) same is = absurd same

    -- a computed literal
    computed-comes : (atom : Atom) → picked.chosen.0.form ≡ Calc atom → (shown : Atom) → picked.chosen.1 ≡ by_computing shown → ByComputing program (WholeBelow rank program) (Runs program (WholeBelow rank program) steps) seen picked by picked.chosen.0.line atom shown
        → (below : List Node) (at : ℕ) → Here (prove program total proofs walk (with_terms goal terms) places chosen chosen.chosen.line at below (of_computed (atom_under alike.to atom)))
    computed-comes atom form shown is_proof step below at =
        let tied : AllByRecursion (Tied seen alike.to alike.back goal.next) (all_occurrences atom.args) = form-tied arity predicates seen (lits pairs) kept goal alike chosen_literal literals-all (Calc atom) form in
        let same : compute atom.pred (terms_under alike.to atom.args) ≡ compute atom.pred atom.args = compute-same alike.to alike.back atom.pred atom.args (tied-rounds seen alike.to alike.back goal.next atom.args tied) in
        let past : (other : Bindings) × (by_answer chosen.chosen.line (terms_under alike.to atom.args) (compute atom.pred atom.args) ≡ goes_on other) × Past arity predicates seen (lits pairs) kept goal alike chosen_literal literals-all step.unifier other =
        past-computed arity predicates seen (lits pairs) kept goal alike chosen_literal literals-all chosen.chosen.line atom.args tied step.unifier (compute atom.pred atom.args) (results atom.pred atom.args) step.computes in
        past-comes (Calc atom) form step.unifier past.0 past.2 step.rest_by step.composed step.rest (value_computed (atom_under alike.to atom)) [] at
        (λ to back leaf_by forth home. subst (λ p. SameProof to back p (by_computing (atom_under (then_by past.0 leaf_by) (atom_under alike.to atom)))) (sym is_proof) (same-atom to back by (then_by past.0 leaf_by) alike.to atom shown step.instance forth home))
        (ap (λ p. length (proof_nodes p)) is_proof ∙ ap (λ p. suc (length (proof_nodes p) - 1)) (sym is_proof))
        (computing chosen.chosen.line (atom_under alike.to atom))
        (ap (by_answer chosen.chosen.line (terms_under alike.to atom.args)) same ∙ past.1)

    -- the tree of an atom, of the rank below
    below-comes : (line : ℕ) (atom : Atom) (terms_ : List Tree) (tree : WholeTree) (found : List (List Tree)) (failed : Bool) (nodes more : List Node) → AllByRecursion (Tied seen alike.to alike.back goal.next) (all_occurrences atom.args)
        → AllByRecursion (Tied seen alike.to alike.back goal.next) (all_occurrences terms_) → IsLiteral arity predicates (record { line = line; form = Pos atom }) → WholeBelow rank program (only line atom) terms_ tree found
        → map bare nodes ≡ under_then (tree_nodes tree) more → length (tree_nodes tree) < fuel → (failed ≡ true → found ≡ []) → IsWalkedOut tree found more (walk failed (sub_goal (with_terms goal terms) line (atom_under alike.to atom) (terms_under alike.to terms_)) nodes).answer
    below-comes line atom terms_ tree found failed nodes more tied tied_terms right whole begins less none = by_rank rank whole
      where
        by_rank : (r : ℕ) → WholeBelow r program (only line atom) terms_ tree found → IsWalkedOut tree found more (walk failed (sub_goal (with_terms goal terms) line (atom_under alike.to atom) (terms_under alike.to terms_)) nodes).answer
        by_rank zero is = absurd is
        by_rank (suc r) is =
            trees_come r tree (goal_variables (only line atom) terms_) (only line atom) terms_ (sub_goal (with_terms goal terms) line (atom_under alike.to atom) (terms_under alike.to terms_)) failed nodes more found
            (sub-alike arity predicates seen alike.to alike.back (with_terms goal terms) line atom terms_ tied tied_terms right) is begins less none

    -- a negation
    negation-comes : (atom : Atom) → picked.chosen.0.form ≡ Neg atom → (shown : Atom) (tree : WholeTree) → picked.chosen.1 ≡ by_failure shown tree → ByFailure program (WholeBelow rank program) (Runs program (WholeBelow rank program) steps) seen picked by picked.chosen.0.line atom shown tree
        → (more : List Node) (below : List Node) (at : ℕ) → map bare below ≡ under_then (tree_nodes tree) more → Here (prove program total proofs walk (with_terms goal terms) places chosen chosen.chosen.line at below (of_negation (atom_under alike.to atom)))
    negation-comes atom form shown tree is_proof step more below at begins =
        let atom' : Atom = atom_under alike.to atom in
        let line : ℕ = picked.chosen.0.line in
        let tied : AllByRecursion (Tied seen alike.to alike.back goal.next) (all_occurrences atom.args) = form-tied arity predicates seen (lits pairs) kept goal alike chosen_literal literals-all (Neg atom) form in
        let ground : is_ground_atom atom' ≡ true = ground-same alike.to alike.back atom.args (tied-rounds seen alike.to alike.back goal.next atom.args tied) ∙ step.ground in
        let sized : length (proof_nodes picked.chosen.1) ≡ suc (length (tree_nodes tree)) = ap (λ p. length (proof_nodes p)) is_proof in
        let sub : IsWalkedOut tree [] more (walk true (sub_goal (with_terms goal terms) line atom' []) below).answer =
        below-comes line atom [] tree [] true below more tied tt (form-right arity predicates seen (lits pairs) kept goal alike chosen_literal literals-all (Neg atom) form) step.fails begins (let small : length (proof_nodes picked.chosen.1) < suc fuel = fits in omega arith) (λ h. refl) in
        let new_places : List (List Node) = put_places (length chosen.before) [] places in
        let new_pairs : List Pair = put_in_place picked [] in
        let new_goal : Goal = record { next = goal.next; literals = put_in_place chosen []; terms = terms_under alike.to firsts ++ goal.terms } in
        let new_lits : lits new_pairs ≡ put_in_place chosen_literal [] = three-map (λ (p : Pair). p.0) picked.before [] picked.behind in
        let new_proofs : prfs new_pairs ≡ prfs picked.before ++ ([] ++ prfs picked.behind) = three-map (λ (p : Pair). p.1) picked.before [] picked.behind in
        let new_alike : Alike arity predicates seen (put_in_place chosen_literal []) (firsts ++ kept) new_goal = dropped arity predicates seen (lits pairs) kept goal alike chosen_literal literals-all in
        let new_stand : Stand new_places (prfs picked.before ++ ([] ++ prfs picked.behind)) =
        subst (λ n. Stand (put_places n [] places) (prfs picked.before ++ ([] ++ prfs picked.behind))) (sym before-length) (stand-put places [] (prfs picked.before) [] picked.chosen.1 (prfs picked.behind) standing tt) in
        let come : IsCome new_goal terms (firsts ++ kept) by (prfs new_pairs) (proofs (rest_goal (with_terms goal terms) chosen) new_places).answer =
        proofs_come rank steps seen new_pairs (firsts ++ kept) by new_goal terms new_places (subst (λ ls. Alike arity predicates seen ls (firsts ++ kept) new_goal) (sym new_lits) new_alike) step.rest
        (subst (Stand new_places) (sym new_proofs) new_stand) (subst (λ ps. node_count ps < fuel) (sym new_proofs) (fewer [] (let s : length (proof_nodes picked.chosen.1) ≡ suc (length (tree_nodes tree)) = sized in omega arith))) in
        let step_ : Step = step_past chosen [] (failure_shown atom' sub.walked.tree) in
        let inner : Here (onward program total proofs walk at step_ sub.walked.order (rest_goal (with_terms goal terms) chosen) new_places) =
        here (onward program total proofs walk at step_ sub.walked.order (rest_goal (with_terms goal terms) chosen) new_places)
        (onward-comes goal terms kept by firsts (terms_under alike.to firsts) (length-firsts picked.chosen.0.form) (prfs picked.before) [] (prfs picked.behind) picked.chosen.1 at step_ sub.walked.order (rest_goal (with_terms goal terms) chosen) new_places come.proven come.came come.to come.back
        come.there come.again come.values before-length refl (subst (λ ps. AreSame come.to come.back ps come.proven.leaf.proofs) new_proofs come.same)
        (λ forth home ms same. subst (λ p. SameProof come.to come.back p (by_failure (atom_under come.proven.leaf.by atom') sub.walked.tree)) (sym is_proof) (
          same-atom come.to come.back by come.proven.leaf.by alike.to atom shown step.instance
              (subst (λ f. terms_under come.proven.leaf.by (terms_under alike.to (form_terms f)) ≡ terms_under come.to (terms_under by (form_terms f))) form forth)
              (subst (λ f. terms_under by (form_terms f) ≡ terms_under come.back (terms_under come.proven.leaf.by (terms_under alike.to (form_terms f)))) form home),
          sub.same,
        ))) in
        let then_more : Walked → Replayed Proven = λ w. onward program total proofs walk at (step_past chosen [] (failure_shown atom' w.tree)) w.order (rest_goal (with_terms goal terms) chosen) new_places in
        subst (λ a. IsCome goal terms kept by (prfs pairs) a)
        (sym (came-unless (not (is_ground_atom atom')) at 4 (and_on (walk true (sub_goal (with_terms goal terms) line atom' []) below) then_more) (ap not ground)
        ∙ ap (λ a. (then_on (walk true (sub_goal (with_terms goal terms) line atom' []) below).tried a then_more).answer) sub.came)) inner

    -- a gather
    gather-comes : (fold : FoldKind) (result value : Tree) (atom : Atom) → picked.chosen.0.form ≡ Gather fold result value atom → (fold' : FoldKind) (result' value' : Tree) (atom' : Atom) (tree : WholeTree) → picked.chosen.1 ≡ by_gathering fold' result' value' atom' tree
        → fold' ≡ fold → result' ≡ replaced by result → value' ≡ replaced by value → atom' ≡ atom_under by atom → ByGathering program (WholeBelow rank program) (Runs program (WholeBelow rank program) steps) seen picked by picked.chosen.0.line fold result value atom tree
        → (more : List Node) (below : List Node) (at : ℕ) → map bare below ≡ under_then (tree_nodes tree) more
        → Here (prove program total proofs walk (with_terms goal terms) places chosen chosen.chosen.line at below (of_gather fold (replaced alike.to result) (replaced alike.to value) (atom_under alike.to atom)))
    gather-comes fold result value atom form fold' result' value' atom' tree is_proof is_fold is_result is_value is_atom step more below at begins =
        let line : ℕ = picked.chosen.0.line in
        let Ties : ℕ → Type 0 = Tied seen alike.to alike.back goal.next in
        let tied : AllByRecursion Ties (all_occurrences (result ∷ value ∷ atom.args)) = form-tied arity predicates seen (lits pairs) kept goal alike chosen_literal literals-all (Gather fold result value atom) form in
        let tied_result : AllByRecursion Ties (occurrences result) = all-left Ties (occurrences result) (all_occurrences (value ∷ atom.args)) tied in
        let tied_rest : AllByRecursion Ties (all_occurrences (value ∷ atom.args)) = all-right Ties (occurrences result) (all_occurrences (value ∷ atom.args)) tied in
        let tied_value : AllByRecursion Ties (all_occurrences (value ∷ [])) = all-both Ties (occurrences value) [] (all-left Ties (occurrences value) (all_occurrences atom.args) tied_rest) tt in
        let tied_atom : AllByRecursion Ties (all_occurrences atom.args) = all-right Ties (occurrences value) (all_occurrences atom.args) tied_rest in
        let covered : is_covered (replaced alike.to value) (atom_under alike.to atom) ≡ true = covered-under alike.to value atom step.covered in
        let sized : length (proof_nodes picked.chosen.1) ≡ suc (length (tree_nodes tree)) = ap (λ p. length (proof_nodes p)) is_proof in
        let sub_goal_ : Goal = sub_goal (with_terms goal terms) line (atom_under alike.to atom) (replaced alike.to value ∷ []) in
        let sub : IsWalkedOut tree step.found more (walk false sub_goal_ below).answer =
        below-comes line atom (value ∷ []) tree step.found false below more tied_atom tied_value (form-right arity predicates seen (lits pairs) kept goal alike chosen_literal literals-all (Gather fold result value atom) form) step.whole begins
        (let small : length (proof_nodes picked.chosen.1) < suc fuel = fits in omega arith) (λ h. absurd (true≢false (sym h))) in
        let same : fold_of fold (values_at sub.walked.found) ≡ fold_of fold (values_at step.found) = fold-same fold (values_at step.found) (values_at sub.walked.found) (found-values step.found sub.walked.found sub.varied) in
        let past : (other : Bindings) × (by_fold line (replaced alike.to result) (fold_of fold (values_at step.found)) ≡ goes_on other) × Past arity predicates seen (lits pairs) kept goal alike chosen_literal literals-all step.unifier other =
        past-folded arity predicates seen (lits pairs) kept goal alike chosen_literal literals-all line result tied_result step.unifier (fold_of fold (values_at step.found)) step.fits in
        let other : Bindings = past.0 in
        let then_more : Walked → Replayed Proven = λ w. computed_on program total proofs walk (with_terms goal terms) places chosen (cases_gathered fold (replaced alike.to result) (replaced alike.to value) (atom_under alike.to atom) w.tree) w.order at (by_fold line (replaced alike.to result) (fold_of fold (values_at w.found))) in
        let inner : Here (then_more sub.walked) =
        past-comes (Gather fold result value atom) form step.unifier other past.2 step.rest_by step.composed step.rest (cases_gathered fold (replaced alike.to result) (replaced alike.to value) (atom_under alike.to atom) sub.walked.tree) sub.walked.order at
        (λ to back leaf_by forth home. subst (λ p. SameProof to back p (by_gathering fold (replaced (then_by other leaf_by) (replaced alike.to result)) (replaced (then_by other leaf_by) (replaced alike.to value)) (atom_under (then_by other leaf_by) (atom_under alike.to atom)) sub.walked.tree)) (sym is_proof)
        (let forth_args : terms_under (then_by other leaf_by) (terms_under alike.to atom.args) ≡ terms_under to (terms_under by atom.args) = cc forth in
        let home_args : terms_under by atom.args ≡ terms_under back (terms_under (then_by other leaf_by) (terms_under alike.to atom.args)) = cc home in
        let forth_result : replaced (then_by other leaf_by) (replaced alike.to result) ≡ replaced to (replaced by result) = cc forth in
        let forth_value : replaced (then_by other leaf_by) (replaced alike.to value) ≡ replaced to (replaced by value) = cc forth in
        let home_result : replaced by result ≡ replaced back (replaced (then_by other leaf_by) (replaced alike.to result)) = cc home in
        let home_value : replaced by value ≡ replaced back (replaced (then_by other leaf_by) (replaced alike.to value)) = cc home in
        (is_fold, (forth_result ∙ ap (replaced to) (sym is_result), is_result ∙ home_result), (forth_value ∙ ap (replaced to) (sym is_value), is_value ∙ home_value), same-atom to back by (then_by other leaf_by) alike.to atom atom' is_atom forth_args home_args, sub.same)))
        (let s : length (proof_nodes picked.chosen.1) ≡ suc (length (tree_nodes tree)) = sized in omega arith)
        (by_fold line (replaced alike.to result) (fold_of fold (values_at sub.walked.found)))
        (ap (by_fold line (replaced alike.to result)) same ∙ past.1) in
        subst (λ a. IsCome goal terms kept by (prfs pairs) a)
        (sym (came-unless (not (is_covered (replaced alike.to value) (atom_under alike.to atom))) at 4 (and_on (walk false sub_goal_ below) then_more) (ap not covered)
        ∙ ap (λ a. (then_on (walk false sub_goal_ below).tried a then_more).answer) sub.came)) inner

    -- whatever the literal is
    proof-comes : (form : Form) (proof : Proof) → picked.chosen.0.form ≡ form → picked.chosen.1 ≡ proof → Proves program (WholeBelow rank program) (Runs program (WholeBelow rank program) steps) seen picked by picked.chosen.0.line form proof
        → (place more : List Node) → map bare place ≡ under_then (proof_nodes proof) more → Here (proof_nodes_at program total proofs walk (with_terms goal terms) places chosen place)
    proof-comes (Pos atom) (by_clause number shown inner) form is step place more begins =
        at-node place (Use number (length (listed inner)) no_atom) (under_then (proofs_nodes inner) more) (Pos atom) form begins (λ below at rest. clause-comes atom form number shown inner is step more below at rest)
    proof-comes (Calc atom) (by_computing shown) form is step place more begins = at-node place (Compute no_atom) more (Calc atom) form begins (λ below at rest. computed-comes atom form shown is step below at)
    proof-comes (Neg atom) (by_failure shown tree) form is step place more begins =
        at-node place (Absent no_atom) (under_then (tree_nodes tree) more) (Neg atom) form begins (λ below at rest. negation-comes atom form shown tree is step more below at rest)
    proof-comes (Gather fold result value atom) (by_gathering fold' result' value' atom' tree) form is step place more begins =
        at-node place (Gathering Sum nil nil no_atom) (under_then (tree_nodes tree) more) (Gather fold result value atom) form begins
        (λ below at rest. gather-comes fold result value atom form fold' result' value' atom' tree is step.0 step.1 step.2 step.3 step.4 more below at rest)
    proof-comes form proof is also step place more begins = absurd step

    pub picked-comes : Proves program (WholeBelow rank program) (Runs program (WholeBelow rank program) steps) seen picked by picked.chosen.0.line picked.chosen.0.form picked.chosen.1
        → Here (proof_nodes_at program total proofs walk (with_terms goal terms) places chosen (nodes_at (length chosen.before) places))
    picked-comes step =
        let at : Stand (take (length (prfs picked.before)) places) (prfs picked.before) × Begins (nodes_at (length (prfs picked.before)) places) picked.chosen.1 × Stand (drop (suc (length (prfs picked.before))) places) (prfs picked.behind) =
        stand-at places (prfs picked.before) picked.chosen.1 (prfs picked.behind) standing in
        subst (λ n. Here (proof_nodes_at program total proofs walk (with_terms goal terms) places chosen (nodes_at n places))) (sym before-length)
        (proof-comes picked.chosen.0.form picked.chosen.1 refl refl step (nodes_at (length (prfs picked.before)) places) at.1.0 at.1.1)
