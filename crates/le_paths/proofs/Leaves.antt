-- The leaf that kept steps lead to, read off the goals as they are now: its proofs and terms are those of the leaf that Lloyd's steps lead to.
use Rattle.std.proofs.Common.{◌≡◌, ℕ, List, [], ◌∷◌, ◌++◌, length, map, take, drop, reverse, refl, sym, ap, ap₂, subst, ◌∙◌}
use Rattle.std.proofs.lemmas.List.{map-append, reverse-append}
use Rattle.le_terms.specs.Tree.{Tree, variable}
use Rattle.le_terms.specs.Variables.{replaced}
use Rattle.le_terms.specs.declared.program.Form.{Form}
use Rattle.le_terms.specs.declared.program.Form.TheVariants.{Pos, Neg, Calc, Gather as Gathering}
use Rattle.le_proofs.specs.declared.node.Node.{Node}
use Rattle.le_proofs.specs.declared.node.Node.TheVariants.{Use}
use Rattle.le_proofs.specs.Goals.{atom_under, form_under}
use Rattle.le_proofs.specs.Proofs.{Proof, by_clause, by_computing, by_failure, by_gathering, Reason, clause_used, value_computed, failure_shown, cases_gathered, Step, Leaf, packed, joined_proofs, proof_by, then_by}
use Rattle.le_proofs.specs.SearchTree.{empty_leaf, first_proof}
use Rattle.le_proofs.specs.UnderWay.{leaf_along}
use Rattle.le_proofs.specs.Derivations.{node_under, certificate, certificate_of, proof_nodes, proofs_nodes}
use Rattle.le_proofs.proofs.Trees.{replaced-same}
use Rattle.le_proofs.proofs.Numbering.{atom-none}
use Rattle.le_derivations.specs.declared.path.PathStep.{PathStep}
use Rattle.le_derivations.specs.Paths.{count_of, Shows, IsStep, AreSteps}
use Rattle.le_derivations.proofs.GoingUp.{along-terms}
use Rattle.le_goals.specs.Shown.{Snapshot}
use Rattle.le_paths.specs.declared.step.CellStep.{CellStep}
use Rattle.le_paths.specs.Paths.{node_by, node_at, step_now, IsStepUnder, LeadUnder, LeadHere}

-- ---- steps with their unifiers carried into their reasons

-- a reason with its atom and terms under a substitution
abbrev pub reason_under : (ℕ → Tree) → Reason → Reason
reason_under by (clause_used clause atom) = clause_used clause (atom_under by atom)
reason_under by (value_computed atom) = value_computed (atom_under by atom)
reason_under by (failure_shown atom tree) = failure_shown (atom_under by atom) tree
reason_under by (cases_gathered fold result value atom tree) = cases_gathered fold (replaced by result) (replaced by value) (atom_under by atom) tree

-- steps whose reasons are under all unifiers since, where this is what became of the variables of the goal after them
abbrev pub steps_under : (ℕ → Tree) → List Step → List Step
steps_under by [] = []
steps_under by (step ∷ steps) =
    record { place = step.place; count = step.count; unifier = []; reason = reason_under (then_by step.unifier by) step.reason }
    ∷ steps_under (then_by step.unifier by) steps

proof-under : (by : ℕ → Tree) (below : List Proof) (reason : Reason) → proof_by variable below (reason_under by reason) ≡ proof_by by below reason
proof-under by below (clause_used clause atom) = ap (λ a. by_clause clause a (packed below)) (atom-none (atom_under by atom))
proof-under by below (value_computed atom) = ap by_computing (atom-none (atom_under by atom))
proof-under by below (failure_shown atom tree) = ap (λ a. by_failure a tree) (atom-none (atom_under by atom))
proof-under by below (cases_gathered fold result value atom tree) =
    ap (λ r. by_gathering fold r (replaced variable (replaced by value)) (atom_under variable (atom_under by atom)) tree) (replaced-same (replaced by result))
    ∙ ap₂ (λ v a. by_gathering fold (replaced by result) v a tree) (replaced-same (replaced by value)) (atom-none (atom_under by atom))

-- a leaf seen from above has the same proofs
proofs-under : (steps : List Step) (by : ℕ → Tree) (terms : List Tree) (left : ℕ) (proofs : List Proof)
    → (leaf_along (steps_under by steps) (record { terms = terms; left = left; by = variable; proofs = proofs })).proofs ≡ (leaf_along steps (record { terms = terms; left = left; by = by; proofs = proofs })).proofs
proofs-under [] by terms left proofs = refl
proofs-under (step ∷ steps) by terms left proofs =
    let above : ℕ → Tree = then_by step.unifier by in
    let rest : List Proof = drop step.place proofs in
    let own : List Proof → List Proof = λ ps. (leaf_along (steps_under above steps) (record { terms = terms; left = left; by = variable; proofs = ps })).proofs in
    ap (λ p. own (take step.place proofs ++ (p ∷ drop step.count rest))) (proof-under above (take step.count rest) step.reason)
    ∙ proofs-under steps above terms left (joined_proofs step.place step.count (λ below. proof_by above below step.reason) proofs)

pub leaf-proofs : (steps : List Step) (terms : List Tree) (left : ℕ) → (leaf_along (steps_under variable steps) (empty_leaf terms left)).proofs ≡ (leaf_along steps (empty_leaf terms left)).proofs
leaf-proofs steps terms left = proofs-under steps variable terms left []

-- ---- kept steps as they are now are those steps

node-form : (by : ℕ → Tree) (form : Form) (clause count : ℕ) → node_under by (node_by form clause count) ≡ node_by (form_under by form) clause count
node-form by (Pos atom) clause count = refl
node-form by (Neg atom) clause count = refl
node-form by (Calc atom) clause count = refl
node-form by (Gathering fold result value atom) clause count = refl

count-form : (by : ℕ → Tree) (form : Form) (clause count : ℕ) → count_of (node_by (form_under by form) clause count) ≡ count_of (node_by form clause count)
count-form by (Pos atom) clause count = refl
count-form by (Neg atom) clause count = refl
count-form by (Calc atom) clause count = refl
count-form by (Gathering fold result value atom) clause count = refl

shows-under : (by : ℕ → Tree) (reason : Reason) (form : Form) (clause count : ℕ) (below : List Node) → Shows reason (node_by form clause count) below → Shows (reason_under by reason) (node_by (form_under by form) clause count) below
shows-under by (clause_used number atom) form clause count below shows = (
  sym (node-form by form clause count) ∙ (ap (node_under by) shows.0 ∙ ap (λ n. Use number n (atom_under by atom)) (sym (count-form by form clause count))),
  shows.1,
)
shows-under by (value_computed atom) form clause count below shows = (sym (node-form by form clause count) ∙ ap (node_under by) shows.0, shows.1)
shows-under by (failure_shown atom tree) form clause count below shows = (sym (node-form by form clause count) ∙ ap (node_under by) shows.0, shows.1)
shows-under by (cases_gathered fold result value atom tree) form clause count below shows = (sym (node-form by form clause count) ∙ ap (node_under by) shows.0, shows.1)

is-step : (snapshot : Snapshot) (by : ℕ → Tree) (kept : CellStep) (step : Step) → IsStepUnder snapshot by kept step
    → IsStep (step_now snapshot kept) (record { place = step.place; count = step.count; unifier = []; reason = reason_under (then_by step.unifier by) step.reason })
is-step snapshot by kept step is =
    let above : ℕ → Tree = then_by step.unifier by in
    let node : node_at snapshot kept ≡ node_by (form_under above is.literal.form) kept.clause kept.count = ap (λ l. node_by l.form kept.clause kept.count) is.now_ in
    record {
      place_ = is.place_;
      count_ = is.count_ ∙ (sym (count-form above is.literal.form kept.clause kept.count) ∙ ap count_of (sym node));
      unifier_ = refl;
      reason_ = subst (λ n. Shows (reason_under above step.reason) n kept.below) (sym node) (shows-under above step.reason is.literal.form kept.clause kept.count kept.below is.reason_);
    }

pub are-steps : (snapshot : Snapshot) (by : ℕ → Tree) (keeps : List CellStep) (steps : List Step) → LeadUnder snapshot by keeps steps → AreSteps (map (step_now snapshot) keeps) (steps_under by steps)
are-steps snapshot by [] [] lead = tt
are-steps snapshot by [] (step ∷ steps) lead = lead
are-steps snapshot by (kept ∷ keeps) [] lead = lead
are-steps snapshot by (kept ∷ keeps) (step ∷ steps) lead = (is-step snapshot by kept step lead.0, are-steps snapshot (then_by step.unifier by) keeps steps lead.1)

reverse-map : {X Y : Type 0} (f : X → Y) (xs : List X) → reverse (map f xs) ≡ map f (reverse xs)
reverse-map f [] = refl
reverse-map f (x ∷ xs) =
    reverse-append (f x ∷ []) (map f xs)
    ∙ (ap (λ ys. ys ++ f x ∷ []) (reverse-map f xs)
    ∙ (sym (map-append f (reverse xs) (x ∷ [])) ∙ ap (map f) (sym (reverse-append (x ∷ []) xs))))

-- a path as it is read, the last step first
pub path-steps : (snapshot : Snapshot) (path : List CellStep) (read : List PathStep) (steps : List Step) → read ≡ map (step_now snapshot) path → LeadHere snapshot (reverse path) steps → AreSteps (reverse read) (steps_under variable steps)
path-steps snapshot path read steps are lead =
    subst (λ ps. AreSteps ps (steps_under variable steps)) (sym (ap reverse are ∙ reverse-map (step_now snapshot) path)) (are-steps snapshot variable (reverse path) steps lead)

-- ---- what is read off such a leaf

pub certificate-under : (steps : List Step) (terms : List Tree) (left : ℕ)
    → (certificate_of (leaf_along (steps_under variable steps) (empty_leaf terms left))).nodes ≡ (certificate_of (leaf_along steps (empty_leaf terms left))).nodes
certificate-under steps terms left =
    ap₂ (λ ts ps. (certificate ts (length ps) (proofs_nodes (packed ps))).nodes)
    (along-terms (steps_under variable steps) (empty_leaf terms left) ∙ sym (along-terms steps (empty_leaf terms left)))
    (leaf-proofs steps terms left)

first-same : (one other : Leaf) → one.proofs ≡ other.proofs → first_proof one ≡ first_proof other
first-same one other same = by one.proofs other.proofs same
  where
    by : (ps qs : List Proof) → ps ≡ qs → first_proof (record { terms = one.terms; left = one.left; by = one.by; proofs = ps }) ≡ first_proof (record { terms = other.terms; left = other.left; by = other.by; proofs = qs })
    by [] [] is = refl
    by [] (q ∷ qs) is = absurd (cc is)
    by (p ∷ ps) [] is = absurd (cc is)
    by (p ∷ ps) (q ∷ qs) is = let first : p ≡ q = cc is in first

pub first-under : (steps : List Step) (terms : List Tree) (left : ℕ)
    → proof_nodes (first_proof (leaf_along (steps_under variable steps) (empty_leaf terms left))) ≡ proof_nodes (first_proof (leaf_along steps (empty_leaf terms left)))
first-under steps terms left =
    ap proof_nodes (first-same (leaf_along (steps_under variable steps) (empty_leaf terms left)) (leaf_along steps (empty_leaf terms left)) (leaf-proofs steps terms left))

-- nodes that are those of the path as it is read are those of Lloyd's steps
module _ (snapshot : Snapshot) (path : List CellStep) (read : List PathStep) (are : read ≡ map (step_now snapshot) path) (nodes : List Node) where
  pub certificate-along : (terms own : List Tree) → terms ≡ own
      → ((steps : List Step) (left : ℕ) → AreSteps (reverse read) steps → nodes ≡ (certificate_of (leaf_along steps (empty_leaf terms left))).nodes)
      → (steps : List Step) (left : ℕ) → LeadHere snapshot (reverse path) steps → nodes ≡ (certificate_of (leaf_along steps (empty_leaf own left))).nodes
  certificate-along terms own same certified steps left lead =
      certified (steps_under variable steps) left (path-steps snapshot path read steps are lead)
      ∙ (certificate-under steps terms left ∙ ap (λ ts. (certificate_of (leaf_along steps (empty_leaf ts left))).nodes) same)

  pub proof-along : ((steps : List Step) (terms : List Tree) (left : ℕ) → AreSteps (reverse read) steps → nodes ≡ proof_nodes (first_proof (leaf_along steps (empty_leaf terms left))))
      → (steps : List Step) (terms : List Tree) (left : ℕ) → LeadHere snapshot (reverse path) steps → nodes ≡ proof_nodes (first_proof (leaf_along steps (empty_leaf terms left)))
  proof-along proved steps terms left lead = proved (steps_under variable steps) terms left (path-steps snapshot path read steps are lead) ∙ first-under steps terms left
