-- Where the visit of a goal's tree is done, its nodes are those of the whole tree.
use Rattle.std.proofs.Common.{◌≡◌, ℕ, zero, suc, true, false, Bool, List, [], ◌∷◌, ◌++◌, length, Option, Some, None, refl, sym, ap, ap₂, if◌then◌else◌}
use Rattle.le_base.specs.declared.stop.FoldKind.{FoldKind}
use Rattle.le_terms.specs.Tree.{Tree}
use Rattle.le_terms.specs.declared.program.Atom.{Atom}
use Rattle.le_terms.specs.declared.program.Clause.{Clause}
use Rattle.le_terms.specs.declared.program.Form.{Form}
use Rattle.le_terms.specs.declared.program.Form.TheVariants.{Pos, Neg, Calc, Gather as Gathering}
use Rattle.le_terms.specs.declared.program.Literal.{Literal}
use Rattle.le_terms.specs.declared.program.Program.{Program}
use Rattle.le_proofs.specs.declared.node.Node.TheVariants.{Split, Branch, Computed, Lacking, Gathered, Ungathered}
use Rattle.le_proofs.specs.declared.next.Next.{Next}
use Rattle.le_proofs.specs.declared.next.Next.TheVariants.{Answer, Done, Floundered, OutOfRange, Spent}
use Rattle.le_proofs.specs.Goals.{Goal, Picked, Child, selected, children, rest_by, rest_goal, sub_goal, is_ground_atom}
use Rattle.le_proofs.specs.Proofs.{Step, Leaf, step_to}
use Rattle.le_proofs.specs.SearchTree.{SearchTree, Branches, leaves, course_of, course_each, whole_of, whole_each}
use Rattle.le_proofs.specs.SearchTree as search
use Rattle.le_proofs.specs.Derivations.{tree_nodes, branches_nodes, branch_count}
use Rattle.le_proofs.specs.Search.{Outcome, goes_on, fails, ends, computing, folding, is_covered, branch_before, grow_each, grow_computed, grow_negation, grow_lacking, grow_gather, grow_folded, grow_form, grow_picked, grow_at, grow_within, tree}
use Rattle.le_derivations.specs.Walks.{visit_nodes, visit_each}

abbrev IsExact : SearchTree → Type 0
IsExact t = (course_of t).ending ≡ Done → visit_nodes t ≡ tree_nodes (whole_of t)

abbrev AreExact : ℕ → Branches → Type 0
AreExact count b = (course_each b).ending ≡ Done → (visit_each b ≡ branches_nodes (whole_each b)) × (branch_count (whole_each b) ≡ count)

module _ (grow : Goal → ℕ → SearchTree) (below : (goal : Goal) (left : ℕ) → IsExact (grow goal left)) where
  branch-exact : (count : ℕ) (e : Next) (child : Child) (step : Step) (t : SearchTree) (more : ℕ → Branches) → e ≡ (course_of t).ending → IsExact t → ((k : ℕ) → AreExact count (more k)) → AreExact (suc count) (branch_before e child step t more)
  branch-exact count Done child step t more same first rest is =
      let others = rest (course_of t).left is in
      (ap₂ (λ ns ms. Branch child.clause ∷ (ns ++ ms)) (first (sym same)) others.0, ap suc others.1)
  branch-exact count Answer child step t more same first rest is = absurd (cc (same, is))
  branch-exact count (Floundered line) child step t more same first rest is = absurd (cc (same, is))
  branch-exact count (OutOfRange line) child step t more same first rest is = absurd (cc (same, is))
  branch-exact count Spent child step t more same first rest is = absurd (cc (same, is))

  each-exact : (place : ℕ) (atom : Atom) (all : List Child) (left : ℕ) → AreExact (length all) (grow_each grow place atom all left)
  each-exact place atom [] left is = (refl, refl)
  each-exact place atom (child ∷ others) left is =
      branch-exact (length others) (course_of (grow child.goal left)).ending child (step_to place atom child) (grow child.goal left) (grow_each grow place atom others) refl (below child.goal left) (each-exact place atom others) is

  split-exact : (place : ℕ) (atom : Atom) (all : List Child) (left : ℕ) → IsExact (search.split atom (length all) (grow_each grow place atom all left))
  split-exact place atom all left is =
      let each = each-exact place atom all left is in
      ap₂ (λ n ns. Split n ∷ ns) (sym each.1) each.0

  computed-exact : (goal : Goal) (picked : Picked Literal) (atom : Atom) (left : ℕ) (o : Outcome) → IsExact (grow_computed grow goal picked atom left o)
  computed-exact goal picked atom left (goes_on bindings) is = ap (λ ns. Computed ∷ ns) (below (rest_by goal picked bindings) left is)
  computed-exact goal picked atom left fails is = refl
  computed-exact goal picked atom left (ends e) is = refl

  lacking-exact : (goal : Goal) (picked : Picked Literal) (atom : Atom) (sub : SearchTree) (e : Next) → e ≡ (course_of sub).ending → IsExact sub → IsExact (grow_lacking grow goal picked atom sub e)
  lacking-exact goal picked atom sub Done same first is = ap₂ (λ ns ms. Lacking ∷ (ns ++ ms)) (first (sym same)) (below (rest_goal goal picked) (course_of sub).left is)
  lacking-exact goal picked atom sub Answer same first is = refl
  lacking-exact goal picked atom sub (Floundered line) same first is = refl
  lacking-exact goal picked atom sub (OutOfRange line) same first is = refl
  lacking-exact goal picked atom sub Spent same first is = refl

  negation-exact : (goal : Goal) (picked : Picked Literal) (atom : Atom) (sub : SearchTree) (ls : List Leaf) → IsExact sub → IsExact (grow_negation grow goal picked atom sub ls)
  negation-exact goal picked atom sub [] first is = lacking-exact goal picked atom sub (course_of sub).ending refl first is
  negation-exact goal picked atom sub (leaf ∷ others) first is = refl

  folded-exact : (goal : Goal) (picked : Picked Literal) (fold : FoldKind) (result value : Tree) (atom : Atom) (sub : SearchTree) (o : Outcome) → visit_nodes sub ≡ tree_nodes (whole_of sub) → IsExact (grow_folded grow goal picked (Gathering fold result value atom) sub o)
  folded-exact goal picked fold result value atom sub (goes_on bindings) first is = ap₂ (λ ns ms. Gathered ∷ (ns ++ ms)) first (below (rest_by goal picked bindings) (course_of sub).left is)
  folded-exact goal picked fold result value atom sub fails first is = ap (λ ns. Ungathered ∷ ns) first
  folded-exact goal picked fold result value atom sub (ends e) first is = refl

  gather-exact : (goal : Goal) (picked : Picked Literal) (fold : FoldKind) (result value : Tree) (atom : Atom) (sub : SearchTree) (o : Outcome) (e : Next) → e ≡ (course_of sub).ending → IsExact sub → IsExact (grow_gather grow goal picked (Gathering fold result value atom) sub o e)
  gather-exact goal picked fold result value atom sub o Done same first is = folded-exact goal picked fold result value atom sub o (first (sym same)) is
  gather-exact goal picked fold result value atom sub o Answer same first is = refl
  gather-exact goal picked fold result value atom sub o (Floundered line) same first is = refl
  gather-exact goal picked fold result value atom sub o (OutOfRange line) same first is = refl
  gather-exact goal picked fold result value atom sub o Spent same first is = refl

  if-exact : (b : Bool) (t u : SearchTree) → IsExact t → IsExact u → IsExact (if b then t else u)
  if-exact true t u first second is = first is
  if-exact false t u first second is = second is

  form-exact : (clauses : List Clause) (goal : Goal) (picked : Picked Literal) (left line : ℕ) (form : Form) → IsExact (grow_form grow clauses goal picked left line form)
  form-exact clauses goal picked left line (Pos atom) is = split-exact (length picked.before) atom (children goal picked atom 1 clauses) left is
  form-exact clauses goal picked left line (Calc atom) is = computed-exact goal picked atom left (computing line atom) is
  form-exact clauses goal picked left line (Neg atom) is =
      let sub : SearchTree = grow (sub_goal goal line atom []) left in
      if-exact (is_ground_atom atom) (grow_negation grow goal picked atom sub (leaves (course_of sub))) (search.halted (Floundered line) left)
      (negation-exact goal picked atom sub (leaves (course_of sub)) (below (sub_goal goal line atom []) left)) (λ h. refl) is
  form-exact clauses goal picked left line (Gathering fold result value atom) is =
      let sub : SearchTree = grow (sub_goal goal line atom (value ∷ [])) left in
      let o : Outcome = folding line fold result (leaves (course_of sub)) in
      if-exact (is_covered value atom) (grow_gather grow goal picked (Gathering fold result value atom) sub o (course_of sub).ending) (search.halted (Floundered line) left)
      (gather-exact goal picked fold result value atom sub o (course_of sub).ending refl (below (sub_goal goal line atom (value ∷ [])) left)) (λ h. refl) is

  picked-exact : (clauses : List Clause) (goal : Goal) (first : Literal) (left : ℕ) (o : Option (Picked Literal)) → IsExact (grow_picked grow clauses goal first left o)
  picked-exact clauses goal first left None is = refl
  picked-exact clauses goal first left (Some picked) is = form-exact clauses goal picked left picked.chosen.line picked.chosen.form is

  at-exact : (program : Program) (goal : Goal) (literals : List Literal) (left : ℕ) → IsExact (grow_at grow program goal literals left)
  at-exact program goal [] left is = refl
  at-exact program goal (literal ∷ literals) zero is = refl
  at-exact program goal (literal ∷ literals) (suc left) is = picked-exact program.clauses goal literal left (selected program.version (literal ∷ literals)) is

within-exact : (depth : ℕ) (program : Program) (goal : Goal) (left : ℕ) → IsExact (grow_within depth program goal left)
within-exact zero program goal left is = refl
within-exact (suc depth) program goal left is = at-exact (grow_within depth program) (within-exact depth program) program goal goal.literals left is

pub tree-exact : (program : Program) (goal : Goal) (left : ℕ) → (course_of (tree program goal left)).ending ≡ Done → visit_nodes (tree program goal left) ≡ tree_nodes (whole_of (tree program goal left))
unfolding tree
tree-exact program goal left is = within-exact (suc left) program goal left is
