-- Nodes with the shape of proofs are the nodes of proofs with the same clauses.
use Rattle.std.proofs.Common.{◌≡◌, ℕ, suc, List, [], ◌∷◌, ◌++◌, length, map, refl, sym, ap, subst, ◌∙◌, append_assoc}
use Rattle.std.proofs.lemmas.List.{map-append}
use Rattle.le_base.specs.declared.stop.FoldKind.{FoldKind}
use Rattle.le_base.specs.declared.stop.FoldKind.TheVariants.{Sum}
use Rattle.le_terms.specs.Tree.{Tree, nil}
use Rattle.le_terms.specs.declared.program.Atom.{Atom}
use Rattle.le_terms.specs.declared.program.Literal.{Literal}
use Rattle.le_terms.specs.declared.program.Program.{Program}
use Rattle.le_proofs.specs.declared.node.Node.{Node}
use Rattle.le_proofs.specs.declared.node.Node.TheVariants.{Use, Compute, Absent, Gather, Split, Branch, Computed, Lacking, Present, Gathered, Ungathered, Success, Dead}
use Rattle.le_proofs.specs.Proofs.{Proof, by_clause, by_computing, by_failure, by_gathering, Proofs, none, first, WholeTree, success, split, computed, dead, lacking, present, gathered, ungathered, WholeBranches, no_branch, branch, listed}
use Rattle.le_proofs.specs.Derivations.{branch_count, proof_nodes, proofs_nodes, tree_nodes, branches_nodes}
use Rattle.le_proofs.proofs.Shapes.{no_atom, bare, Begun, begun}
use Rattle.le_english.specs.Proofs.{IsByProgram, AreByProgram}

-- a node of a tree holds no term
abbrev IsOfTree : Node → Type 0
IsOfTree (Use clause count atom) = ⊥
IsOfTree (Compute atom) = ⊥
IsOfTree (Absent atom) = ⊥
IsOfTree (Gather fold result value atom) = ⊥
IsOfTree node = Unit {0}

same-bare : (it node : Node) → IsOfTree node → bare it ≡ node → it ≡ node
same-bare (Use clause count atom) node is same = absurd (subst IsOfTree (sym same) is)
same-bare (Compute atom) node is same = absurd (subst IsOfTree (sym same) is)
same-bare (Absent atom) node is same = absurd (subst IsOfTree (sym same) is)
same-bare (Gather fold result value atom) node is same = absurd (subst IsOfTree (sym same) is)
same-bare (Split count) node is same = same
same-bare (Branch clause) node is same = same
same-bare Computed node is same = same
same-bare Lacking node is same = same
same-bare Present node is same = same
same-bare Gathered node is same = same
same-bare Ungathered node is same = same
same-bare Success node is same = same
same-bare Dead node is same = same

-- a node of a proof, by its shape
use-of : (it : Node) (clause count : ℕ) → bare it ≡ Use clause count no_atom → (atom : Atom) × (it ≡ Use clause count atom)
use-of (Use c n atom) clause count same = (atom, let a : c ≡ clause = cc same in let b : n ≡ count = cc same in ap (λ k. Use k n atom) a ∙ ap (λ k. Use clause k atom) b)
use-of it clause count same = absurd (cc same)

compute-of : (it : Node) → bare it ≡ Compute no_atom → (atom : Atom) × (it ≡ Compute atom)
compute-of (Compute atom) same = (atom, refl)
compute-of it same = absurd (cc same)

absent-of : (it : Node) → bare it ≡ Absent no_atom → (atom : Atom) × (it ≡ Absent atom)
absent-of (Absent atom) same = (atom, refl)
absent-of it same = absurd (cc same)

pub record Gathers (it : Node) : Type 0 where
  pub fold : FoldKind
  pub result : Tree
  pub value : Tree
  pub atom : Atom
  pub is : it ≡ Gather fold result value atom

gather-of : (it : Node) → bare it ≡ Gather Sum nil nil no_atom → Gathers it
gather-of (Gather fold result value atom) same = record { fold = fold; result = result; value = value; atom = atom; is = refl }
gather-of it same = absurd (cc same)

-- nodes that begin with those of a proof, of proofs, of a tree or of branches of this shape
pub record LikeProof (proof : Proof) (nodes more : List Node) : Type 0 where
  pub it : Proof
  pub rest : List Node
  pub all : nodes ≡ proof_nodes it ++ rest
  pub left : map bare rest ≡ more
  pub fits : (program : Program) → IsByProgram program proof → IsByProgram program it

pub record LikeProofs (proofs : Proofs) (nodes more : List Node) : Type 0 where
  pub them : Proofs
  pub rest : List Node
  pub all : nodes ≡ proofs_nodes them ++ rest
  pub left : map bare rest ≡ more
  pub count : length (listed them) ≡ length (listed proofs)
  pub fits : (program : Program) (literals : List Literal) → AreByProgram program literals proofs → AreByProgram program literals them

pub record LikeTree (nodes more : List Node) : Type 0 where
  pub it : WholeTree
  pub rest : List Node
  pub all : nodes ≡ tree_nodes it ++ rest
  pub left : map bare rest ≡ more

pub record LikeBranches (branches : WholeBranches) (nodes more : List Node) : Type 0 where
  pub them : WholeBranches
  pub rest : List Node
  pub all : nodes ≡ branches_nodes them ++ rest
  pub left : map bare rest ≡ more
  pub count : branch_count them ≡ branch_count branches

-- the shape of two parts, one after the other
apart : (nodes xs ys more : List Node) → map bare nodes ≡ map bare (xs ++ ys) ++ more → map bare nodes ≡ map bare xs ++ (map bare ys ++ more)
apart nodes xs ys more same = same ∙ (ap (λ ns. ns ++ more) (map-append bare xs ys) ∙ append_assoc (map bare xs) (map bare ys) more)

-- a node before nodes
onto : (nodes below below' : List Node) (it node : Node) → nodes ≡ it ∷ below → it ≡ node → below ≡ below' → nodes ≡ node ∷ below'
onto nodes below below' it node all is same = all ∙ (ap (λ n. n ∷ below) is ∙ ap (λ ns. node ∷ ns) same)

-- nodes of two parts
both : (nodes xs ys rest behind : List Node) → nodes ≡ xs ++ rest → rest ≡ ys ++ behind → nodes ≡ (xs ++ ys) ++ behind
both nodes xs ys rest behind a b = a ∙ (ap (λ ns. xs ++ ns) b ∙ sym (append_assoc xs ys behind))

-- a leaf of a tree
alone : (nodes more : List Node) (tree : WholeTree) (node : Node) (b : Begun nodes node more) → tree_nodes tree ≡ node ∷ [] → b.it ≡ node → LikeTree nodes more
alone nodes more tree node b is same = record { it = tree; rest = b.below; all = onto nodes b.below b.below b.it node b.all same refl ∙ ap (λ ns. ns ++ b.below) (sym is); left = b.rest }

-- proofs by the program, one and then others
one : (program : Program) (literals : List Literal) (proof : Proof) (proofs : Proofs) (it : Proof) (them : Proofs) → (IsByProgram program proof → IsByProgram program it) → ((ls : List Literal) → AreByProgram program ls proofs → AreByProgram program ls them)
    → AreByProgram program literals (first proof proofs) → AreByProgram program literals (first it them)
one program [] proof proofs it them f g is = absurd is
one program (literal ∷ literals) proof proofs it them f g is = (f is.0, g literals is.1)

mutual
  pub like-proof : (proof : Proof) (nodes more : List Node) → map bare nodes ≡ map bare (proof_nodes proof) ++ more → LikeProof proof nodes more
  like-proof (by_clause clause atom proofs) nodes more same =
      let b : Begun nodes (Use clause (length (listed proofs)) no_atom) (map bare (proofs_nodes proofs) ++ more) = begun nodes _ _ same in
      let u : (a : Atom) × (b.it ≡ Use clause (length (listed proofs)) a) = use-of b.it clause (length (listed proofs)) b.is in
      let ps : LikeProofs proofs b.below more = like-proofs proofs b.below more b.rest in
      record {
        it = by_clause clause u.0 ps.them;
        rest = ps.rest;
        all = onto nodes b.below (proofs_nodes ps.them ++ ps.rest) b.it (Use clause (length (listed ps.them)) u.0) b.all (u.1 ∙ ap (λ n. Use clause n u.0) (sym ps.count)) ps.all;
        left = ps.left;
        fits = λ program is. (is.0, is.1, ps.fits program is.0.body is.2);
      }
  like-proof (by_computing atom) nodes more same =
      let b : Begun nodes (Compute no_atom) more = begun nodes _ _ same in
      let u : (a : Atom) × (b.it ≡ Compute a) = compute-of b.it b.is in
      record { it = by_computing u.0; rest = b.below; all = onto nodes b.below b.below b.it (Compute u.0) b.all u.1 refl; left = b.rest; fits = λ program is. is }
  like-proof (by_failure atom tree) nodes more same =
      let b : Begun nodes (Absent no_atom) (map bare (tree_nodes tree) ++ more) = begun nodes _ _ same in
      let u : (a : Atom) × (b.it ≡ Absent a) = absent-of b.it b.is in
      let t : LikeTree b.below more = like-tree tree b.below more b.rest in
      record { it = by_failure u.0 t.it; rest = t.rest; all = onto nodes b.below (tree_nodes t.it ++ t.rest) b.it (Absent u.0) b.all u.1 t.all; left = t.left; fits = λ program is. is }
  like-proof (by_gathering fold result value atom tree) nodes more same =
      let b : Begun nodes (Gather Sum nil nil no_atom) (map bare (tree_nodes tree) ++ more) = begun nodes _ _ same in
      let u : Gathers b.it = gather-of b.it b.is in
      let t : LikeTree b.below more = like-tree tree b.below more b.rest in
      record { it = by_gathering u.fold u.result u.value u.atom t.it; rest = t.rest; all = onto nodes b.below (tree_nodes t.it ++ t.rest) b.it (Gather u.fold u.result u.value u.atom) b.all u.is t.all; left = t.left; fits = λ program is. is }

  pub like-proofs : (proofs : Proofs) (nodes more : List Node) → map bare nodes ≡ map bare (proofs_nodes proofs) ++ more → LikeProofs proofs nodes more
  like-proofs none nodes more same = record { them = none; rest = nodes; all = refl; left = same; count = refl; fits = λ program literals is. is }
  like-proofs (first proof proofs) nodes more same =
      let p : LikeProof proof nodes (map bare (proofs_nodes proofs) ++ more) = like-proof proof nodes (map bare (proofs_nodes proofs) ++ more) (apart nodes (proof_nodes proof) (proofs_nodes proofs) more same) in
      let ps : LikeProofs proofs p.rest more = like-proofs proofs p.rest more p.left in
      record {
        them = first p.it ps.them;
        rest = ps.rest;
        all = both nodes (proof_nodes p.it) (proofs_nodes ps.them) p.rest ps.rest p.all ps.all;
        left = ps.left;
        count = ap suc ps.count;
        fits = λ program literals is. one program literals proof proofs p.it ps.them (p.fits program) (ps.fits program) is;
      }

  pub like-tree : (tree : WholeTree) (nodes more : List Node) → map bare nodes ≡ map bare (tree_nodes tree) ++ more → LikeTree nodes more
  like-tree success nodes more same = let b : Begun nodes Success more = begun nodes _ _ same in alone nodes more success Success b refl (same-bare b.it Success tt b.is)
  like-tree (split branches) nodes more same =
      let b : Begun nodes (Split (branch_count branches)) (map bare (branches_nodes branches) ++ more) = begun nodes _ _ same in
      let bs : LikeBranches branches b.below more = like-branches branches b.below more b.rest in
      record { it = split bs.them; rest = bs.rest; all = onto nodes b.below (branches_nodes bs.them ++ bs.rest) b.it (Split (branch_count bs.them)) b.all (same-bare b.it (Split (branch_count branches)) tt b.is ∙ ap Split (sym bs.count)) bs.all; left = bs.left }
  like-tree (computed tree) nodes more same =
      let b : Begun nodes Computed (map bare (tree_nodes tree) ++ more) = begun nodes _ _ same in
      let t : LikeTree b.below more = like-tree tree b.below more b.rest in
      record { it = computed t.it; rest = t.rest; all = onto nodes b.below (tree_nodes t.it ++ t.rest) b.it Computed b.all (same-bare b.it Computed tt b.is) t.all; left = t.left }
  like-tree dead nodes more same = let b : Begun nodes Dead more = begun nodes _ _ same in alone nodes more dead Dead b refl (same-bare b.it Dead tt b.is)
  like-tree (lacking sub tree) nodes more same =
      let b : Begun nodes Lacking (map bare (tree_nodes sub ++ tree_nodes tree) ++ more) = begun nodes _ _ same in
      let s : LikeTree b.below (map bare (tree_nodes tree) ++ more) = like-tree sub b.below (map bare (tree_nodes tree) ++ more) (apart b.below (tree_nodes sub) (tree_nodes tree) more b.rest) in
      let t : LikeTree s.rest more = like-tree tree s.rest more s.left in
      record { it = lacking s.it t.it; rest = t.rest; all = onto nodes b.below ((tree_nodes s.it ++ tree_nodes t.it) ++ t.rest) b.it Lacking b.all (same-bare b.it Lacking tt b.is) (both b.below (tree_nodes s.it) (tree_nodes t.it) s.rest t.rest s.all t.all); left = t.left }
  like-tree (present proof) nodes more same =
      let b : Begun nodes Present (map bare (proof_nodes proof) ++ more) = begun nodes _ _ same in
      let p : LikeProof proof b.below more = like-proof proof b.below more b.rest in
      record { it = present p.it; rest = p.rest; all = onto nodes b.below (proof_nodes p.it ++ p.rest) b.it Present b.all (same-bare b.it Present tt b.is) p.all; left = p.left }
  like-tree (gathered sub tree) nodes more same =
      let b : Begun nodes Gathered (map bare (tree_nodes sub ++ tree_nodes tree) ++ more) = begun nodes _ _ same in
      let s : LikeTree b.below (map bare (tree_nodes tree) ++ more) = like-tree sub b.below (map bare (tree_nodes tree) ++ more) (apart b.below (tree_nodes sub) (tree_nodes tree) more b.rest) in
      let t : LikeTree s.rest more = like-tree tree s.rest more s.left in
      record { it = gathered s.it t.it; rest = t.rest; all = onto nodes b.below ((tree_nodes s.it ++ tree_nodes t.it) ++ t.rest) b.it Gathered b.all (same-bare b.it Gathered tt b.is) (both b.below (tree_nodes s.it) (tree_nodes t.it) s.rest t.rest s.all t.all); left = t.left }
  like-tree (ungathered sub) nodes more same =
      let b : Begun nodes Ungathered (map bare (tree_nodes sub) ++ more) = begun nodes _ _ same in
      let t : LikeTree b.below more = like-tree sub b.below more b.rest in
      record { it = ungathered t.it; rest = t.rest; all = onto nodes b.below (tree_nodes t.it ++ t.rest) b.it Ungathered b.all (same-bare b.it Ungathered tt b.is) t.all; left = t.left }

  pub like-branches : (branches : WholeBranches) (nodes more : List Node) → map bare nodes ≡ map bare (branches_nodes branches) ++ more → LikeBranches branches nodes more
  like-branches no_branch nodes more same = record { them = no_branch; rest = nodes; all = refl; left = same; count = refl }
  like-branches (branch clause tree branches) nodes more same =
      let b : Begun nodes (Branch clause) (map bare (tree_nodes tree ++ branches_nodes branches) ++ more) = begun nodes _ _ same in
      let t : LikeTree b.below (map bare (branches_nodes branches) ++ more) = like-tree tree b.below (map bare (branches_nodes branches) ++ more) (apart b.below (tree_nodes tree) (branches_nodes branches) more b.rest) in
      let bs : LikeBranches branches t.rest more = like-branches branches t.rest more t.left in
      record {
        them = branch clause t.it bs.them;
        rest = bs.rest;
        all = onto nodes b.below ((tree_nodes t.it ++ branches_nodes bs.them) ++ bs.rest) b.it (Branch clause) b.all (same-bare b.it (Branch clause) tt b.is) (both b.below (tree_nodes t.it) (branches_nodes bs.them) t.rest bs.rest t.all bs.all);
        left = bs.left;
        count = ap suc bs.count;
      }
