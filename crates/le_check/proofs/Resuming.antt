-- What a replay's parts give, one after the other.
use Rattle.std.proofs.Common.{◌≡◌, ℕ, zero, suc, ◌+◌, ◌<◌, ◌≤◌, Bool, true, false, List, [], ◌∷◌, ◌++◌, take, drop, length, reverse, get_or, ◌-◌, not, ◌==◌, Some, refl, sym, ap, ap₂, subst, ◌∙◌, append_assoc, arith}
use Rattle.std.specs.Prelude.{Result, Ok, Err, IfOk}
use Rattle.le_terms.specs.Tree.{Tree}
use Rattle.le_proofs.specs.declared.node.Node.{Node}
use Rattle.le_proofs.specs.Proofs.{Step, from_above}
use Rattle.le_proofs.specs.Replay.{Replayed, Fault, Proven, Walked, gives, faulty, then_on, and_on, unless, put_places, beginnings, nodes_at, or_first, met, proofs_at, proof_nodes_at, onward, computed_on, prove, of_negation, of_gather, use_one, use_clause, proofs_within, tree_within}
use Rattle.std.proofs.lemmas.Bool.{eq-eqb}
use Rattle.std.proofs.lemmas.List.{reverse-append, length-drop}
use Rattle.le_terms.specs.declared.program.Literal.{Literal}
use Rattle.le_terms.specs.declared.program.Program.{Program}
use Rattle.le_subst.specs.Unifiers.{Bindings}
use Rattle.le_terms.specs.declared.program.Atom.{Atom}
use Rattle.le_terms.specs.declared.program.Clause.{Clause}
use Rattle.le_proofs.specs.UnderWay.{leaf_along}
use Rattle.le_proofs.specs.Goals.{Goal, Child, Picked, selected, sub_goal, is_ground_atom, rest_goal, rest_by, child_by, resolvent_by, head_solution}
use Rattle.le_proofs.specs.Proofs.{Reason, step_to, step_past, value_computed, failure_shown, cases_gathered}
use Rattle.le_proofs.specs.Search.{Outcome, goes_on, fails, ends, computing, by_fold, is_covered}
use Rattle.le_gather.specs.Folds.{fold_of}
use Rattle.le_proofs.specs.Lloyd.{values_at}
use Rattle.le_check.specs.declared.levels.AbsentFrame.{AbsentFrame}
use Rattle.le_check.specs.declared.levels.GatherFrame.{GatherFrame}
use Rattle.le_check.specs.declared.levels.Frame.TheVariants.{Absent, Gather}
use Rattle.le_check.specs.declared.goal.Outcome as kept
use Rattle.le_check.specs.declared.goal.Outcome.TheVariants.{GoesOn}
use Rattle.le_derivations.specs.declared.path.PathStep.{PathStep}
use Rattle.le_derivations.specs.Paths.{IsStep, AreSteps}
use Rattle.le_proofs.specs.Replay as spec
use Rattle.le_check.specs.declared.goal.Goal as code
use Rattle.le_check.specs.declared.levels.Frame.{Frame}
use Rattle.le_check.specs.declared.levels.Proof.{Proof}
use Rattle.le_terms.specs.declared.program.Form.TheVariants.{Pos}
use Rattle.le_check.specs.Goals.{goal_of, placed, IsOutcome, Chooses}
use Rattle.le_check.specs.Parts.{nodes_from}
use Rattle.le_check.specs.Left.{ProofOn, TreeOn, past, ProofPast, ProofDone, ProofGives, ProofOnward, TreeDone, proof_below, tree_below}

-- what comes after what comes after
then-on-on : {X Y Z : Type 0} (tried : ℕ) (answer : Result X Fault) (f : X → Replayed Y) (g : Y → Replayed Z) → and_on (then_on tried answer f) g ≡ then_on tried answer (λ x. and_on (f x) g)
then-on-on tried (Err fault) f g = refl
then-on-on {Y = Y} {Z = Z} tried (Ok x) f g = by (f x).tried (f x).answer
  where
    by : (more : ℕ) (answer : Result Y Fault) → then_on (tried + more) answer g ≡ record { tried = tried + (then_on more answer g).tried; answer = (then_on more answer g).answer }
    by more (Err fault) = refl
    by more (Ok y) = ap (λ n. record { tried = n; answer = (g y).answer }) (omega arith)

pub and-on-on : {X Y Z : Type 0} (first : Replayed X) (f : X → Replayed Y) (g : Y → Replayed Z) → and_on (and_on first f) g ≡ and_on first (λ x. and_on (f x) g)
and-on-on first f g = then-on-on first.tried first.answer f g

pub and-on-gives : {X Y : Type 0} (x : X) (f : X → Replayed Y) → and_on (gives x) f ≡ f x
and-on-gives x f =
    let same : 0 + (f x).tried ≡ (f x).tried = omega arith in
    ap (λ n. record { tried = n; answer = (f x).answer }) same

-- what comes after, by what it is for each
pub and-on-same : {X Y : Type 0} (first : Replayed X) (f g : X → Replayed Y) → ((x : X) → f x ≡ g x) → and_on first f ≡ and_on first g
and-on-same {X = X} {Y = Y} first f g same = by first.answer
  where
    by : (answer : Result X Fault) → then_on first.tried answer f ≡ then_on first.tried answer g
    by (Err fault) = refl
    by (Ok x) = ap (λ (r : Replayed Y). record { tried = first.tried + r.tried; answer = r.answer }) (same x)

-- a list with one item more, from its end
pub newest : {X : Type 0} (xs : List X) (x : X) → reverse (xs ++ x ∷ []) ≡ x ∷ reverse xs
newest xs x = reverse-append xs (x ∷ [])

-- a path with one step more
pub longer-path : (path longer : List PathStep) (kept : PathStep) (step : Step) (steps : List Step) → longer ≡ path ++ kept ∷ [] → IsStep kept step → AreSteps (reverse path) steps → AreSteps (reverse longer) (step ∷ steps)
longer-path path longer kept step steps same is are = subst (λ ks. AreSteps ks (step ∷ steps)) (sym (ap reverse same ∙ newest path kept)) (is, are)

-- a proof goes on past a literal
pub goes-past : (program : Program) (nodes : List Node) (frames : List Frame) (order : List ℕ) (whole : Replayed Proven) (proof : Proof) (place number : ℕ) (unifier : Bindings) (reason : Reason) (kept : PathStep) (longer : List PathStep) (goal : Goal)
    → longer ≡ proof.path.items ++ kept ∷ [] → IsStep kept (past place unifier reason) → ((literal : Literal) → goal ≡ rest_by (goal_of proof.goal) (placed proof.goal.literals.items place literal) unifier)
    → ProofPast program nodes (ProofDone program nodes frames) proof place number reason order (goes_on unifier) whole
    → ProofGives program nodes frames longer order (proof_below program nodes proof.fuel goal (nodes_from nodes proof.places.items)) whole
goes-past program nodes frames order whole proof place number unifier reason kept longer goal same is goal-is (literal, (steps, are, on)) = (
  past place unifier reason ∷ steps,
  longer-path proof.path.items longer kept (past place unifier reason) steps same is are,
  subst (λ g. ProofOn (ProofDone program nodes frames) (past place unifier reason ∷ steps) order (proof_below program nodes proof.fuel g (nodes_from nodes proof.places.items)) whole) (sym (goal-is literal)) on,
)

-- what holds of an answer, from what holds of it
pub ok-all : {X E : Type 0} (P Q : X → Type 0) → ((x : X) → P x → Q x) → (r : Result X E) → IfOk r P → IfOk r Q
ok-all P Q give (Ok x) h = give x h
ok-all P Q give (Err e) h = tt

-- by which outcome a proof goes on
pub outcome-goes : (kept : kept.Outcome) (unifier : Bindings) (said : Outcome) → kept ≡ GoesOn unifier → IsOutcome kept said → said ≡ goes_on unifier
outcome-goes kept unifier said is h = subst (λ o. IsOutcome o said) is h

-- places with others in the place of one
drop-next : {X : Type 0} (p : ℕ) (xs : List X) → drop 1 (drop p xs) ≡ drop (suc p) xs
drop-next zero xs = refl
drop-next (suc p) [] = refl
drop-next (suc p) (x ∷ xs) = drop-next p xs

pub put-in : (p : ℕ) (xs new : List ℕ) → (take p xs ++ new) ++ drop 1 (drop p xs) ≡ take p xs ++ (new ++ drop (suc p) xs)
put-in p xs new = append_assoc (take p xs) new (drop 1 (drop p xs)) ∙ ap (λ r. take p xs ++ (new ++ r)) (drop-next p xs)

-- a proof goes on after a step
pub goes-onward : (program : Program) (nodes : List Node) (frames : List Frame) (order : List ℕ) (whole : Replayed Proven) (fuel : ℕ) (path longer : List PathStep) (kept : PathStep) (step : Step) (goal next : Goal) (places others : List (List Node))
    → longer ≡ path ++ kept ∷ [] → IsStep kept step → next ≡ goal → others ≡ places
    → ProofOnward program nodes (ProofDone program nodes frames) path step order (proof_below program nodes fuel goal places) whole
    → ProofGives program nodes frames longer order (proof_below program nodes fuel next others) whole
goes-onward program nodes frames order whole fuel path longer kept step goal next places others same is goal-is places-are (steps, are, on) = (
  step ∷ steps,
  longer-path path longer kept step steps same is are,
  subst (λ g. ProofOn (ProofDone program nodes frames) (step ∷ steps) order (proof_below program nodes fuel g others) whole) (sym goal-is)
      (subst (λ ps. ProofOn (ProofDone program nodes frames) (step ∷ steps) order (proof_below program nodes fuel goal ps) whole) (sym places-are) on),
)

-- the nodes from places on, with others in the place of one
take-from : (nodes : List Node) (p : ℕ) (xs : List ℕ) → nodes_from nodes (take p xs) ≡ take p (nodes_from nodes xs)
take-from nodes zero xs = refl
take-from nodes (suc p) [] = refl
take-from nodes (suc p) (x ∷ xs) = ap (λ ns. drop x nodes ∷ ns) (take-from nodes p xs)

drop-from : (nodes : List Node) (p : ℕ) (xs : List ℕ) → nodes_from nodes (drop p xs) ≡ drop p (nodes_from nodes xs)
drop-from nodes zero xs = refl
drop-from nodes (suc p) [] = refl
drop-from nodes (suc p) (x ∷ xs) = drop-from nodes p xs

pub append-from : (nodes : List Node) (xs ys : List ℕ) → nodes_from nodes (xs ++ ys) ≡ nodes_from nodes xs ++ nodes_from nodes ys
append-from nodes [] ys = refl
append-from nodes (x ∷ xs) ys = ap (λ ns. drop x nodes ∷ ns) (append-from nodes xs ys)

pub put-from : (nodes : List Node) (p : ℕ) (xs new all : List ℕ) → all ≡ take p xs ++ (new ++ drop (suc p) xs) → nodes_from nodes all ≡ put_places p (nodes_from nodes new) (nodes_from nodes xs)
put-from nodes p xs new all is =
    ap (nodes_from nodes) is
    ∙ (append-from nodes (take p xs) (new ++ drop (suc p) xs)
    ∙ ap₂ (λ a b. a ++ b) (take-from nodes p xs) (append-from nodes new (drop (suc p) xs) ∙ ap (λ d. nodes_from nodes new ++ d) (drop-from nodes (suc p) xs)))

-- what stands before a place
pub before-place : (lits : List Literal) (place : ℕ) → place < length lits → length (take place lits) ≡ place
before-place [] place h = absurd (omega (arith, h))
before-place (l ∷ lits) zero h = refl
before-place (l ∷ lits) (suc place) h = let h' : place < length lits = omega (arith, h) in ap suc (before-place lits place h')

-- a faulty part of a proof is the fault of the whole
pub proof-faulty : (program : Program) (nodes : List Node) (frames : List Frame) (path : List PathStep) (order : List ℕ) (number why : ℕ) (whole : Replayed Proven) → ProofGives program nodes frames path order (faulty number why) whole → whole ≡ faulty number why
proof-faulty program nodes frames path order number why whole (steps, are, (more, done, eq)) = eq

-- a proof after a step and its number
pub onward-on : (program : Program) (nodes : List Node) (frames : List Frame) (path : List PathStep) (order : List ℕ) (whole : Replayed Proven) (fuel number : ℕ) (step : Step) (before : List ℕ) (goal : Goal) (places : List (List Node))
    → ProofGives program nodes frames path order (onward program (length nodes) (proofs_within program (length nodes) fuel) (tree_within program (length nodes) fuel) number step before goal places) whole
    → ProofOnward program nodes (ProofDone program nodes frames) path step (order ++ number ∷ before) (proof_below program nodes fuel goal places) whole
onward-on program nodes frames path order whole fuel number step before goal places (steps, are, (more, done, eq)) = (
  steps,
  are,
  (
    λ rest. more (record { leaf = from_above step rest.leaf; order = number ∷ (before ++ rest.order) }),
    λ rest. subst (λ o. ProofDone program nodes frames (leaf_along steps (from_above step rest.leaf)) o (more (record { leaf = from_above step rest.leaf; order = number ∷ (before ++ rest.order) })))
        (sym (append_assoc order (number ∷ before) rest.order)) (done (record { leaf = from_above step rest.leaf; order = number ∷ (before ++ rest.order) })),
    eq ∙ (and-on-on (proof_below program nodes fuel goal places) (λ rest. gives (record { leaf = from_above step rest.leaf; order = number ∷ (before ++ rest.order) })) more
        ∙ and-on-same (proof_below program nodes fuel goal places) (λ rest. and_on (gives (record { leaf = from_above step rest.leaf; order = number ∷ (before ++ rest.order) })) more) (λ rest. more (record { leaf = from_above step rest.leaf; order = number ∷ (before ++ rest.order) }))
        (λ rest. and-on-gives (record { leaf = from_above step rest.leaf; order = number ∷ (before ++ rest.order) }) more)),
  ),
)

-- the proof of an atom by a clause
pub use-one-goes : (program : Program) (nodes : List Node) (frames : List Frame) (path : List PathStep) (order : List ℕ) (whole : Replayed Proven) (fuel : ℕ) (goal : Goal) (places : List (List Node)) (place : ℕ) (literal : Literal) (atom : Atom) (number clause count : ℕ) (below : List Node) (it : Clause) (unifier : Bindings)
    → place < length goal.literals → count ≡ length it.body → head_solution goal.next it atom ≡ Some unifier
    → ProofGives program nodes frames path order (use_one program (length nodes) (proofs_within program (length nodes) fuel) (tree_within program (length nodes) fuel) goal places (placed goal.literals place literal) atom number clause count below (Some it)) whole
    → ProofOnward program nodes (ProofDone program nodes frames) path (step_to place atom (child_by goal (placed goal.literals place literal) clause it unifier)) (order ++ number ∷ []) (proof_below program nodes fuel (resolvent_by goal (placed goal.literals place literal) it unifier) (put_places place (beginnings count below) places)) whole
use-one-goes program nodes frames path order whole fuel goal places place literal atom number clause count below it unifier inside counts solves gives_ =
    let yes_ : (count == length it.body) ≡ true = eq-eqb count (length it.body) counts in
    let one : ProofGives program nodes frames path order (use_clause program (length nodes) (proofs_within program (length nodes) fuel) (tree_within program (length nodes) fuel) goal places (placed goal.literals place literal) atom number clause below it (head_solution goal.next it atom)) whole =
    subst (λ b. ProofGives program nodes frames path order (unless (not b) number 3 (use_clause program (length nodes) (proofs_within program (length nodes) fuel) (tree_within program (length nodes) fuel) goal places (placed goal.literals place literal) atom number clause below it (head_solution goal.next it atom))) whole) yes_ gives_ in
    let two : ProofGives program nodes frames path order (use_clause program (length nodes) (proofs_within program (length nodes) fuel) (tree_within program (length nodes) fuel) goal places (placed goal.literals place literal) atom number clause below it (Some unifier)) whole =
    subst (λ s. ProofGives program nodes frames path order (use_clause program (length nodes) (proofs_within program (length nodes) fuel) (tree_within program (length nodes) fuel) goal places (placed goal.literals place literal) atom number clause below it s) whole) solves one in
    let child : Child = child_by goal (placed goal.literals place literal) clause it unifier in
    let three : ProofOnward program nodes (ProofDone program nodes frames) path (step_to (length (take place goal.literals)) atom child) (order ++ number ∷ []) (proof_below program nodes fuel child.goal (put_places (length (take place goal.literals)) (beginnings (length it.body) below) places)) whole =
    onward-on program nodes frames path order whole fuel number (step_to (length (take place goal.literals)) atom child) [] child.goal (put_places (length (take place goal.literals)) (beginnings (length it.body) below) places) two in
    subst (λ n. ProofOnward program nodes (ProofDone program nodes frames) path (step_to place atom child) (order ++ number ∷ []) (proof_below program nodes fuel child.goal (put_places place (beginnings n below) places)) whole) (sym counts)
    (subst (λ k. ProofOnward program nodes (ProofDone program nodes frames) path (step_to k atom child) (order ++ number ∷ []) (proof_below program nodes fuel child.goal (put_places k (beginnings (length it.body) below) places)) whole) (before-place goal.literals place inside) three)

-- the proof of a literal that is computed or gathered
pub computed-past : (program : Program) (nodes : List Node) (frames : List Frame) (order : List ℕ) (whole : Replayed Proven) (proof : Proof) (places : List (List Node)) (place number : ℕ) (literal : Literal) (reason : Reason) (before : List ℕ) (outcome : Outcome)
    → place < length proof.goal.literals.items → nodes_from nodes proof.places.items ≡ put_places place [] places
    → ProofGives program nodes frames proof.path.items order (computed_on program (length nodes) (proofs_within program (length nodes) proof.fuel) (tree_within program (length nodes) proof.fuel) (goal_of proof.goal) places (placed proof.goal.literals.items place literal) reason before number outcome) whole
    → ProofPast program nodes (ProofDone program nodes frames) proof place number reason (order ++ number ∷ before) outcome whole
computed-past program nodes frames order whole proof places place number literal reason before (goes_on unifier) inside put gives_ =
    let next : Goal = rest_by (goal_of proof.goal) (placed proof.goal.literals.items place literal) unifier in
    let one : ProofOnward program nodes (ProofDone program nodes frames) proof.path.items (past (length (take place proof.goal.literals.items)) unifier reason) (order ++ number ∷ before) (proof_below program nodes proof.fuel next (put_places (length (take place proof.goal.literals.items)) [] places)) whole =
    onward-on program nodes frames proof.path.items order whole proof.fuel number (past (length (take place proof.goal.literals.items)) unifier reason) before next (put_places (length (take place proof.goal.literals.items)) [] places) gives_ in (
      literal,
      subst (λ ps. ProofOnward program nodes (ProofDone program nodes frames) proof.path.items (past place unifier reason) (order ++ number ∷ before) (proof_below program nodes proof.fuel next ps) whole) (sym put)
          (subst (λ k. ProofOnward program nodes (ProofDone program nodes frames) proof.path.items (past k unifier reason) (order ++ number ∷ before) (proof_below program nodes proof.fuel next (put_places k [] places)) whole) (before-place proof.goal.literals.items place inside) one),
    )
computed-past program nodes frames order whole proof places place number literal reason before fails inside put gives_ = (literal, proof-faulty program nodes frames proof.path.items order number 7 whole gives_)
computed-past program nodes frames order whole proof places place number literal reason before (ends e) inside put gives_ = (literal, proof-faulty program nodes frames proof.path.items order number 7 whole gives_)

-- a negation in a proof leaves its proof open
pub absent-opens : (program : Program) (nodes : List Node) (frames : List Frame) (path : List PathStep) (order : List ℕ) (whole : Replayed Proven) (fuel : ℕ) (goal : Goal) (places : List (List Node)) (place : ℕ) (literal : Literal) (atom : Atom) (line number : ℕ) (below : List Node) (f : AbsentFrame)
    → place < length goal.literals → is_ground_atom atom ≡ true → f.proof.fuel ≡ fuel → f.proof.path.items ≡ path → goal_of f.proof.goal ≡ rest_goal goal (placed goal.literals place literal) → nodes_from nodes f.proof.places.items ≡ put_places place [] places → f.place ≡ place → f.atom ≡ atom
    → ProofGives program nodes frames path order (prove program (length nodes) (proofs_within program (length nodes) fuel) (tree_within program (length nodes) fuel) goal places (placed goal.literals place literal) line number below (of_negation atom)) whole
    → TreeOn (TreeDone program nodes (Absent f ∷ frames)) [] [] (order ++ number ∷ []) (tree_below program nodes fuel true (sub_goal goal line atom []) below) whole
absent-opens program nodes frames path order whole fuel goal places place literal atom line number below f inside ground fuel-is path-is goal-is places-are place-is atom-is gives_ =
    opens (subst (λ b. ProofGives program nodes frames path order (unless (not b) number 4 (and_on (tree_below program nodes fuel true (sub_goal goal line atom []) below) onward_)) whole) ground gives_)
  where
    picked : Picked Literal
    picked = placed goal.literals place literal

    onward_ : Walked → Replayed Proven
    onward_ sub = onward program (length nodes) (proofs_within program (length nodes) fuel) (tree_within program (length nodes) fuel) number (step_past picked [] (failure_shown atom sub.tree)) sub.order (rest_goal goal picked) (put_places (length picked.before) [] places)

    one : (sub : Walked) (w : Replayed Proven) → ProofGives program nodes frames path order (onward_ sub) w → ProofOnward program nodes (ProofDone program nodes frames) f.proof.path.items (past f.place [] (failure_shown f.atom sub.tree)) ((order ++ number ∷ []) ++ sub.order) (proof_below program nodes f.proof.fuel (goal_of f.proof.goal) (nodes_from nodes f.proof.places.items)) w
    one sub w h =
        subst (λ o. ProofOnward program nodes (ProofDone program nodes frames) f.proof.path.items (past f.place [] (failure_shown f.atom sub.tree)) o (proof_below program nodes f.proof.fuel (goal_of f.proof.goal) (nodes_from nodes f.proof.places.items)) w) (sym (append_assoc order (number ∷ []) sub.order))
        (subst (λ a. ProofOnward program nodes (ProofDone program nodes frames) f.proof.path.items (past f.place [] (failure_shown a sub.tree)) (order ++ number ∷ sub.order) (proof_below program nodes f.proof.fuel (goal_of f.proof.goal) (nodes_from nodes f.proof.places.items)) w) (sym atom-is)
        (subst (λ k. ProofOnward program nodes (ProofDone program nodes frames) f.proof.path.items (past k [] (failure_shown atom sub.tree)) (order ++ number ∷ sub.order) (proof_below program nodes f.proof.fuel (goal_of f.proof.goal) (nodes_from nodes f.proof.places.items)) w) (sym place-is)
        (subst (λ ps. ProofOnward program nodes (ProofDone program nodes frames) f.proof.path.items (past place [] (failure_shown atom sub.tree)) (order ++ number ∷ sub.order) (proof_below program nodes f.proof.fuel (goal_of f.proof.goal) ps) w) (sym places-are)
        (subst (λ g. ProofOnward program nodes (ProofDone program nodes frames) f.proof.path.items (past place [] (failure_shown atom sub.tree)) (order ++ number ∷ sub.order) (proof_below program nodes f.proof.fuel g (put_places place [] places)) w) (sym goal-is)
        (subst (λ n. ProofOnward program nodes (ProofDone program nodes frames) f.proof.path.items (past place [] (failure_shown atom sub.tree)) (order ++ number ∷ sub.order) (proof_below program nodes n (rest_goal goal picked) (put_places place [] places)) w) (sym fuel-is)
        (subst (λ ks. ProofOnward program nodes (ProofDone program nodes frames) ks (past place [] (failure_shown atom sub.tree)) (order ++ number ∷ sub.order) (proof_below program nodes fuel (rest_goal goal picked) (put_places place [] places)) w) (sym path-is)
        (subst (λ k. ProofOnward program nodes (ProofDone program nodes frames) path (past k [] (failure_shown atom sub.tree)) (order ++ number ∷ sub.order) (proof_below program nodes fuel (rest_goal goal picked) (put_places k [] places)) w) (before-place goal.literals place inside)
        (onward-on program nodes frames path order w fuel number (step_past picked [] (failure_shown atom sub.tree)) sub.order (rest_goal goal picked) (put_places (length picked.before) [] places) h))))))))

    opens : ProofGives program nodes frames path order (and_on (tree_below program nodes fuel true (sub_goal goal line atom []) below) onward_) whole → TreeOn (TreeDone program nodes (Absent f ∷ frames)) [] [] (order ++ number ∷ []) (tree_below program nodes fuel true (sub_goal goal line atom []) below) whole
    opens (steps, are, (more, done, eq)) = (
      (λ sub. and_on (onward_ sub) more),
      (λ sub. (sub.tree, refl, one sub (and_on (onward_ sub) more) (steps, are, (more, done, refl)))),
      eq ∙ and-on-on (tree_below program nodes fuel true (sub_goal goal line atom []) below) onward_ more,
    )

-- a gather in a proof leaves its proof open
pub gather-opens : (program : Program) (nodes : List Node) (frames : List Frame) (order : List ℕ) (whole : Replayed Proven) (places : List (List Node)) (literal : Literal) (line : ℕ) (below : List Node) (f : GatherFrame)
    → f.place < length f.proof.goal.literals.items → is_covered f.value f.atom ≡ true → nodes_from nodes f.proof.places.items ≡ put_places f.place [] places
    → ProofGives program nodes frames f.proof.path.items order (prove program (length nodes) (proofs_within program (length nodes) f.proof.fuel) (tree_within program (length nodes) f.proof.fuel) (goal_of f.proof.goal) places (placed f.proof.goal.literals.items f.place literal) line f.number below (of_gather f.fold f.result f.value f.atom)) whole
    → TreeOn (TreeDone program nodes (Gather f ∷ frames)) [] [] (order ++ f.number ∷ []) (tree_below program nodes f.proof.fuel false (sub_goal (goal_of f.proof.goal) line f.atom (f.value ∷ [])) below) whole
gather-opens program nodes frames order whole places literal line below f inside covers put gives_ =
    opens (subst (λ b. ProofGives program nodes frames f.proof.path.items order (unless (not b) f.number 4 (and_on (tree_below program nodes f.proof.fuel false (sub_goal (goal_of f.proof.goal) line f.atom (f.value ∷ [])) below) onward_)) whole) covers gives_)
  where
    onward_ : Walked → Replayed Proven
    onward_ sub = computed_on program (length nodes) (proofs_within program (length nodes) f.proof.fuel) (tree_within program (length nodes) f.proof.fuel) (goal_of f.proof.goal) places (placed f.proof.goal.literals.items f.place literal) (cases_gathered f.fold f.result f.value f.atom sub.tree) sub.order f.number (by_fold line f.result (fold_of f.fold (values_at sub.found)))

    one : (sub : Walked) (w : Replayed Proven) → ProofGives program nodes frames f.proof.path.items order (onward_ sub) w → ProofPast program nodes (ProofDone program nodes frames) f.proof f.place f.number (cases_gathered f.fold f.result f.value f.atom sub.tree) ((order ++ f.number ∷ []) ++ sub.order) (by_fold line f.result (fold_of f.fold (values_at sub.found))) w
    one sub w h =
        subst (λ o. ProofPast program nodes (ProofDone program nodes frames) f.proof f.place f.number (cases_gathered f.fold f.result f.value f.atom sub.tree) o (by_fold line f.result (fold_of f.fold (values_at sub.found))) w) (sym (append_assoc order (f.number ∷ []) sub.order))
        (computed-past program nodes frames order w f.proof places f.place f.number literal (cases_gathered f.fold f.result f.value f.atom sub.tree) sub.order (by_fold line f.result (fold_of f.fold (values_at sub.found))) inside put h)

    opens : ProofGives program nodes frames f.proof.path.items order (and_on (tree_below program nodes f.proof.fuel false (sub_goal (goal_of f.proof.goal) line f.atom (f.value ∷ [])) below) onward_) whole → TreeOn (TreeDone program nodes (Gather f ∷ frames)) [] [] (order ++ f.number ∷ []) (tree_below program nodes f.proof.fuel false (sub_goal (goal_of f.proof.goal) line f.atom (f.value ∷ [])) below) whole
    opens (steps, are, (more, done, eq)) = (
      (λ sub. and_on (onward_ sub) more),
      (λ sub. (sub.tree, refl, line, one sub (and_on (onward_ sub) more) (steps, are, (more, done, refl)))),
      eq ∙ and-on-on (tree_below program nodes f.proof.fuel false (sub_goal (goal_of f.proof.goal) line f.atom (f.value ∷ [])) below) onward_ more,
    )

-- a tree's walk from its beginning
pub walks-from : (program : Program) (nodes : List Node) (frames : List Frame) (order : List ℕ) (whole : Replayed Proven) (fuel : ℕ) (failed : Bool) (goal next : Goal) (below log : List Node) (found : List Tree) → log ≡ [] → found ≡ [] → next ≡ goal
    → TreeOn (TreeDone program nodes frames) [] [] order (tree_below program nodes fuel failed goal below) whole → TreeOn (TreeDone program nodes frames) log found order (tree_below program nodes fuel failed next below) whole
walks-from program nodes frames order whole fuel failed goal next below log found log-is found-is goal-is on =
    subst (λ l. TreeOn (TreeDone program nodes frames) l found order (tree_below program nodes fuel failed next below) whole) (sym log-is)
    (subst (λ f. TreeOn (TreeDone program nodes frames) [] f order (tree_below program nodes fuel failed next below) whole) (sym found-is)
    (subst (λ g. TreeOn (TreeDone program nodes frames) [] [] order (tree_below program nodes fuel failed g below) whole) (sym goal-is) on))

-- what holds of two proofs with the same goal, path and count of nodes
pub same-proof : (P : ℕ → code.Goal → List PathStep → Type 0) (proof other : Proof) → other.fuel ≡ proof.fuel → other.goal ≡ proof.goal → other.path ≡ proof.path → P proof.fuel proof.goal proof.path.items → P other.fuel other.goal other.path.items
same-proof P proof other fuel goal path h =
    subst (λ n. P n other.goal other.path.items) (sym fuel) (subst (λ g. P proof.fuel g other.path.items) (sym goal) (subst (λ p. P proof.fuel proof.goal p.items) (sym path) h))

-- the proof of a literal with a node gives this
abbrev pub Proves : Program → List Node → List Frame → ℕ → code.Goal → List PathStep → List (List Node) → ℕ → Literal → ℕ → ℕ → List Node → List ℕ → spec.Meeting → Replayed Proven → Type 0
Proves program nodes frames fuel goal path places place literal line number below order meeting whole =
    ProofGives program nodes frames path order (prove program (length nodes) (proofs_within program (length nodes) fuel) (tree_within program (length nodes) fuel) (goal_of goal) places (placed goal.literals.items place literal) line number below meeting) whole

pub proves-computed : (program : Program) (nodes : List Node) (frames : List Frame) (proof behind : Proof) (place : ℕ) (literal : Literal) (line number : ℕ) (below : List Node) (order : List ℕ) (atom : Atom) (whole : Replayed Proven)
    → place < length proof.goal.literals.items → behind.fuel ≡ proof.fuel → behind.goal ≡ proof.goal → behind.path ≡ proof.path → nodes_from nodes behind.places.items ≡ put_places place [] (nodes_from nodes proof.places.items)
    → Proves program nodes frames proof.fuel proof.goal proof.path.items (nodes_from nodes proof.places.items) place literal line number below order (spec.of_computed atom) whole
    → ProofPast program nodes (ProofDone program nodes frames) behind place number (value_computed atom) (order ++ number ∷ []) (computing line atom) whole
proves-computed program nodes frames proof behind place literal line number below order atom whole inside fuel goal path put h =
    computed-past program nodes frames order whole behind (nodes_from nodes proof.places.items) place number literal (value_computed atom) [] (computing line atom)
    (subst (λ (g : code.Goal). place < length g.literals.items) (sym goal) inside) put
    (same-proof (λ n g path_. Proves program nodes frames n g path_ (nodes_from nodes proof.places.items) place literal line number below order (spec.of_computed atom) whole) proof behind fuel goal path h)

-- where no node may be read any more
pub no-fuel : (program : Program) (nodes : List Node) (frames : List Frame) (path : List PathStep) (order : List ℕ) (whole : Replayed Proven) (fuel : ℕ) (goal : Goal) (places : List (List Node))
    → fuel ≡ 0 → ProofGives program nodes frames path order (proof_below program nodes fuel goal places) whole → whole ≡ faulty (suc (length nodes) - 0) 9
no-fuel program nodes frames path order whole fuel goal places none h =
    proof-faulty program nodes frames path order (suc (length nodes) - 0) 9 whole (subst (λ n. ProofGives program nodes frames path order (proof_below program nodes n goal places) whole) none h)

-- where a literal is selected, the nodes from its proof on
pub selects : (program : Program) (nodes : List Node) (frames : List Frame) (path : List PathStep) (order : List ℕ) (whole : Replayed Proven) (fuel less : ℕ) (goal : Goal) (places : List (List Node)) (place : ℕ) (literal : Literal) (at : List Node)
    → fuel ≡ suc less → or_first goal.literals (selected program.version goal.literals) ≡ Some (placed goal.literals place literal) → place < length goal.literals → at ≡ nodes_at place places
    → ProofGives program nodes frames path order (proof_below program nodes fuel goal places) whole
    → ProofGives program nodes frames path order (proof_nodes_at program (length nodes) (proofs_within program (length nodes) less) (tree_within program (length nodes) less) goal places (placed goal.literals place literal) at) whole
selects program nodes frames path order whole fuel less goal places place literal at one chooses inside at-is h =
    let two : ProofGives program nodes frames path order (proof_below program nodes (suc less) goal places) whole = subst (λ n. ProofGives program nodes frames path order (proof_below program nodes n goal places) whole) one h in
    let three : ProofGives program nodes frames path order (proofs_at program (length nodes) (proofs_within program (length nodes) less) (tree_within program (length nodes) less) goal places (Some (placed goal.literals place literal))) whole =
    subst (λ o. ProofGives program nodes frames path order (proofs_at program (length nodes) (proofs_within program (length nodes) less) (tree_within program (length nodes) less) goal places o) whole) chooses two in
    subst (λ ns. ProofGives program nodes frames path order (proof_nodes_at program (length nodes) (proofs_within program (length nodes) less) (tree_within program (length nodes) less) goal places (placed goal.literals place literal) ns) whole) (sym at-is)
    (subst (λ k. ProofGives program nodes frames path order (proof_nodes_at program (length nodes) (proofs_within program (length nodes) less) (tree_within program (length nodes) less) goal places (placed goal.literals place literal) (nodes_at k places)) whole) (before-place goal.literals place inside) three)

-- the nodes from a place on
pub drop-end : (nodes : List Node) (at : ℕ) → length nodes ≤ at → drop at nodes ≡ []
drop-end [] zero h = refl
drop-end [] (suc at) h = refl
drop-end (n ∷ nodes) zero h = absurd (omega (arith, h))
drop-end (n ∷ nodes) (suc at) h = let h' : length nodes ≤ at = omega (arith, h) in drop-end nodes at h'

pub drop-some : (nodes : List Node) (at : ℕ) (default : Node) → at < length nodes → drop at nodes ≡ get_or nodes at default ∷ drop (at + 1) nodes
drop-some [] at default h = absurd (omega (arith, h))
drop-some (n ∷ nodes) zero default h =
    let next : zero + 1 ≡ suc zero = omega arith in
    ap (λ k. n ∷ drop k (n ∷ nodes)) (sym next)
drop-some (n ∷ nodes) (suc at) default h =
    let h' : at < length nodes = omega (arith, h) in
    let next : suc at + 1 ≡ suc (at + 1) = omega arith in
    drop-some nodes at default h' ∙ ap (λ k. get_or nodes at default ∷ drop k (n ∷ nodes)) (sym next)

pub number-is : (nodes : List Node) (at : ℕ) → at < length nodes → suc (length nodes) - length (drop at nodes) ≡ at + 1
number-is nodes at h = let all : length (drop at nodes) ≡ length nodes - at = length-drop at nodes in omega (arith, all, h)

-- the node that a proof begins with
pub meets : (program : Program) (nodes : List Node) (frames : List Frame) (path : List PathStep) (order : List ℕ) (whole : Replayed Proven) (fuel : ℕ) (goal : Goal) (places : List (List Node)) (place : ℕ) (literal : Literal) (at : ℕ) (node : Node)
    → at < length nodes → drop at nodes ≡ node ∷ drop (at + 1) nodes
    → ProofGives program nodes frames path order (proof_nodes_at program (length nodes) (proofs_within program (length nodes) fuel) (tree_within program (length nodes) fuel) goal places (placed goal.literals place literal) (drop at nodes)) whole
    → ProofGives program nodes frames path order (prove program (length nodes) (proofs_within program (length nodes) fuel) (tree_within program (length nodes) fuel) goal places (placed goal.literals place literal) literal.line (at + 1) (drop (at + 1) nodes) (met literal.form node)) whole
meets program nodes frames path order whole fuel goal places place literal at node low is h =
    let number : suc (length nodes) - length (node ∷ drop (at + 1) nodes) ≡ at + 1 = ap (λ (ns : List Node). suc (length nodes) - length ns) (sym is) ∙ number-is nodes at low in
    subst (λ n. ProofGives program nodes frames path order (prove program (length nodes) (proofs_within program (length nodes) fuel) (tree_within program (length nodes) fuel) goal places (placed goal.literals place literal) literal.line n (drop (at + 1) nodes) (met literal.form node)) whole) number
    (subst (λ ns. ProofGives program nodes frames path order (proof_nodes_at program (length nodes) (proofs_within program (length nodes) fuel) (tree_within program (length nodes) fuel) goal places (placed goal.literals place literal) ns) whole) is h)

-- an item of a list is the same for each default
pub get-same : {X : Type 0} (xs : List X) (p : ℕ) (d e : X) → p < length xs → get_or xs p d ≡ get_or xs p e
get-same [] p d e h = absurd (omega (arith, h))
get-same (x ∷ xs) zero d e h = refl
get-same (x ∷ xs) (suc p) d e h = let h' : p < length xs = omega (arith, h) in get-same xs p d e h'

pub any-literal : Literal
any-literal = record { line = 0; form = Pos (record { pred = 0; args = [] }) }

-- where a literal is selected, and there is no node for its proof
pub selects-none : (program : Program) (nodes : List Node) (frames : List Frame) (path : List PathStep) (order : List ℕ) (whole : Replayed Proven) (fuel less : ℕ) (goal : Goal) (places : List (List Node)) (place at : ℕ)
    → fuel ≡ suc less → Chooses program.version goal.literals place → place < length goal.literals → drop at nodes ≡ nodes_at place places → length nodes ≤ at
    → ProofGives program nodes frames path order (proof_below program nodes fuel goal places) whole
    → whole ≡ faulty (suc (length nodes) - 0) 9
selects-none program nodes frames path order whole fuel less goal places place at one chooses inside at-is high h =
    let literal : Literal = get_or goal.literals place any-literal in
    proof-faulty program nodes frames path order (suc (length nodes) - 0) 9 whole
    (subst (λ ns. ProofGives program nodes frames path order (proof_nodes_at program (length nodes) (proofs_within program (length nodes) less) (tree_within program (length nodes) less) goal places (placed goal.literals place literal) ns) whole) (drop-end nodes at high)
    (selects program nodes frames path order whole fuel less goal places place literal (drop at nodes) one (chooses literal (get-same goal.literals place any-literal literal inside)) inside at-is h))

-- a tree's walk that goes on
pub walks-on : (program : Program) (nodes : List Node) (frames : List Frame) (order : List ℕ) (whole : Replayed Proven) (fuel : ℕ) (failed : Bool) (goal next : Goal) (below log more : List Node) (found others : List Tree) → more ≡ log → others ≡ found → next ≡ goal
    → TreeOn (TreeDone program nodes frames) log found order (tree_below program nodes fuel failed goal below) whole → TreeOn (TreeDone program nodes frames) more others order (tree_below program nodes fuel failed next below) whole
walks-on program nodes frames order whole fuel failed goal next below log more found others log-is found-is goal-is on =
    subst (λ l. TreeOn (TreeDone program nodes frames) l others order (tree_below program nodes fuel failed next below) whole) (sym log-is)
    (subst (λ f. TreeOn (TreeDone program nodes frames) log f order (tree_below program nodes fuel failed next below) whole) (sym found-is)
    (subst (λ g. TreeOn (TreeDone program nodes frames) log found order (tree_below program nodes fuel failed g below) whole) (sym goal-is) on))
