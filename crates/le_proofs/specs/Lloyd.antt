-- Refutations and whole trees (Lloyd, Foundations of Logic Programming, chapter 2, section 7, and chapter 3, sections 14 and 15): any variant of a clause that shares no variable with what came before, and any most general unifier. The computed and gathered cases, and which literal is selected, are this project's.
use Rattle.std.specs.Prelude.{◌≡◌, ℕ, zero, suc, ◌-◌, ◌<◌, ◌≤◌, ◌==◌, false, IsTrue, List, [], ◌∷◌, ◌++◌, length, map, zip, slice_get, Some, IsSomeAnd}
use Rattle.std.specs.List.{list_any}
use Rattle.le_base.specs.declared.stop.FoldKind.{FoldKind}
use Rattle.le_terms.specs.Tree.{Tree, variable, number as numeral, tree_of}
use Rattle.le_terms.specs.Variables.{occurrences, all_occurrences, replaced}
use Rattle.le_terms.specs.Program.{clause_terms, literals_terms}
use Rattle.le_terms.specs.declared.program.Atom.{Atom}
use Rattle.le_terms.specs.declared.program.Clause.{Clause}
use Rattle.le_terms.specs.declared.program.Form.{Form}
use Rattle.le_terms.specs.declared.program.Form.TheVariants.{Pos, Neg, Calc, Gather}
use Rattle.le_terms.specs.declared.program.Literal.{Literal}
use Rattle.le_terms.specs.declared.program.Program.{Program}
use Rattle.le_subst.specs.Unifiers.{Bindings, value_at, Factors, IsMgu}
use Rattle.le_builtins.specs.declared.computing.Calc as computing_of
use Rattle.le_builtins.specs.declared.computing.Calc.TheVariants.{Same, Gives, Holds, No, Unbound, Range}
use Rattle.le_builtins.specs.Compute.{compute, argument}
use Rattle.le_gather.specs.declared.folding.FoldAnswer.TheVariants as folds
use Rattle.le_gather.specs.declared.folding.FoldAnswer.{FoldAnswer}
use Rattle.le_gather.specs.Folds.{fold_of}
use Rattle.le_proofs.specs.declared.node.Node.{Node}
use Rattle.le_proofs.specs.Goals.{Picked, pick, is_delayed, selected, put_in_place, rest_of, terms_under, atom_under, literal_under, literals_under, is_ground_atom, asked_terms}
use Rattle.le_proofs.specs.Proofs.{Proof, by_clause, by_computing, by_failure, by_gathering, WholeTree, success, split, computed, dead, lacking, present, gathered, ungathered, WholeBranches, no_branch, branch, listed, packed}
use Rattle.le_proofs.specs.Search.{is_covered}
use Rattle.le_proofs.specs.Derivations.{certificate, proofs_nodes}

-- a clause's variables under other names
abbrev pub named : (ℕ → ℕ) → ℕ → Tree
named names v = variable (names v)

-- the variables of a substitution that is a finite map
abbrev pub map_variables : Bindings → List ℕ
map_variables [] = []
map_variables (binding ∷ bindings) = binding.0 ∷ (occurrences binding.1 ++ map_variables bindings)

-- names give a variant of a clause that shares no variable with those seen before
pub record IsVariant (names : ℕ → ℕ) (clause : Clause) (seen : List ℕ) : Type 0 where
  pub distinct : (v w : ℕ) → v < clause.vars → w < clause.vars → names v ≡ names w → v ≡ w
  pub apart : (v : ℕ) → v < clause.vars → list_any (λ w. names v == w) seen ≡ false

-- the clause of a number, counted from 1
abbrev pub IsClauseOf : Program → ℕ → Clause → Type 0
IsClauseOf program number clause = (1 ≤ number) × (slice_get program.clauses (number - 1) ≡ Some clause)

-- a variant of a clause, and a most general unifier of its head and an atom
pub record Resolves (program : Program) (seen : List ℕ) (atom : Atom) (number : ℕ) (clause : Clause) (names : ℕ → ℕ) (unifier : Bindings) : Type 0 where
  pub clause_ : IsClauseOf program number clause
  pub variant : IsVariant names clause seen
  pub predicate : clause.head.pred ≡ atom.pred
  pub unifier_ : IsMgu unifier (zip (terms_under (named names) clause.head.args) atom.args)

-- the variables seen once such a step is made
abbrev pub seen_by : List ℕ → Clause → (ℕ → ℕ) → Bindings → List ℕ
seen_by seen clause names unifier = all_occurrences (terms_under (named names) (clause_terms clause)) ++ (map_variables unifier ++ seen)

-- a clause's head unifies with an atom, once they share no variable: an instance of one is an instance of the other
abbrev pub HeadUnifies : Clause → Atom → Type 0
HeadUnifies clause atom = (clause.head.pred ≡ atom.pred) × (head_by : ℕ → Tree) × (atom_by : ℕ → Tree) × (terms_under head_by clause.head.args ≡ terms_under atom_by atom.args)

-- no head of the clauses from a number on, up to another, unifies with an atom
abbrev pub NoneUnifies : Program → Atom → ℕ → ℕ → Type 0
NoneUnifies program atom from to = (number : ℕ) (clause : Clause) → from ≤ number → number < to → IsClauseOf program number clause → HeadUnifies clause atom → ⊥

-- a computed literal holds, and what is applied
abbrev pub HoldsBy : List Tree → Bindings → computing_of.Calc → Type 0
HoldsBy terms unifier Same = IsMgu unifier ((argument terms 0, argument terms 1) ∷ [])
HoldsBy terms unifier (Gives symbol) = IsMgu unifier ((argument terms 0, tree_of (symbol ∷ [])) ∷ [])
HoldsBy terms unifier Holds = unifier ≡ []
HoldsBy terms unifier No = ⊥
HoldsBy terms unifier Unbound = ⊥
HoldsBy terms unifier Range = ⊥

abbrev pub Computes : Atom → Bindings → Type 0
Computes atom unifier = HoldsBy atom.args unifier (compute atom.pred atom.args)

-- nothing unifies two terms
abbrev pub NeverEqual : Tree → Tree → Type 0
NeverEqual left right = (by : ℕ → Tree) → replaced by left ≡ replaced by right → ⊥

-- a computed literal doesn't hold
abbrev pub FailsBy : List Tree → computing_of.Calc → Type 0
FailsBy terms Same = NeverEqual (argument terms 0) (argument terms 1)
FailsBy terms (Gives symbol) = NeverEqual (argument terms 0) (tree_of (symbol ∷ []))
FailsBy terms Holds = ⊥
FailsBy terms No = Unit {0}
FailsBy terms Unbound = ⊥
FailsBy terms Range = ⊥

abbrev pub ComputesNothing : Atom → Type 0
ComputesNothing atom = FailsBy atom.args (compute atom.pred atom.args)

-- what is made of the values at all cases is a number that the result fits, and what is applied
abbrev pub FitsBy : Tree → Bindings → FoldAnswer → Type 0
FitsBy result unifier (folds.Value n) = IsMgu unifier ((result, numeral n) ∷ [])
FitsBy result unifier folds.No = ⊥
FitsBy result unifier folds.Unbound = ⊥
FitsBy result unifier folds.Range = ⊥

-- it is none, or one that the result doesn't fit
abbrev pub MissesBy : Tree → FoldAnswer → Type 0
MissesBy result (folds.Value n) = NeverEqual result (numeral n)
MissesBy result folds.No = Unit {0}
MissesBy result folds.Unbound = ⊥
MissesBy result folds.Range = ⊥

-- the value at each case: the only term of each leaf
abbrev pub values_at : List (List Tree) → List Tree
values_at found = map (λ terms. argument terms 0) found

-- a literal with its proof
abbrev pub Pair : Type 0
Pair = Literal × Proof

-- pairs, with a substitution applied to their literals
abbrev pub pairs_under : (ℕ → Tree) → List Pair → List Pair
pairs_under by pairs = map (λ pair. (literal_under by pair.0, pair.1)) pairs

-- the goal of one atom
abbrev pub only : ℕ → Atom → List Literal
only line atom = record { line = line; form = Pos atom } ∷ []

-- what is known of goals, their answer terms, trees and leaves; and of goals and their proofs
abbrev pub Trees : Type 1
Trees = List Literal → List Tree → WholeTree → List (List Tree) → Type 0

abbrev pub Refutations : Type 1
Refutations = List Literal → List Proof → Type 0

module _ (program : Program) (TreesBelow : Trees) where
  module _ (Rest : List ℕ → List Pair → (ℕ → Tree) → Type 0) (seen : List ℕ) (picked : Picked Pair) (by : ℕ → Tree) (line : ℕ) where
    -- the selected atom is proved by a clause
    pub record ByClause (atom : Atom) (number : ℕ) (shown : Atom) (proofs : List Proof) : Type 0 where
      pub clause : Clause
      pub names : ℕ → ℕ
      pub unifier : Bindings
      pub rest_by : ℕ → Tree
      pub resolves : Resolves program seen atom number clause names unifier
      pub count : length proofs ≡ length clause.body
      pub instance : shown ≡ atom_under by atom
      pub composed : Factors by unifier rest_by
      pub rest : Rest (seen_by seen clause names unifier) (pairs_under (value_at unifier) (put_in_place picked (zip (literals_under (named names) clause.body) proofs))) rest_by

    -- the selected literal is computed
    pub record ByComputing (atom shown : Atom) : Type 0 where
      pub unifier : Bindings
      pub rest_by : ℕ → Tree
      pub computes : Computes atom unifier
      pub instance : shown ≡ atom_under by atom
      pub composed : Factors by unifier rest_by
      pub rest : Rest (map_variables unifier ++ seen) (pairs_under (value_at unifier) (put_in_place picked [])) rest_by

    -- the selected negation is proved by the failed tree of its atom
    pub record ByFailure (atom shown : Atom) (tree : WholeTree) : Type 0 where
      pub ground : IsTrue (is_ground_atom atom)
      pub instance : shown ≡ atom_under by atom
      pub fails : TreesBelow (only line atom) [] tree []
      pub rest : Rest seen (put_in_place picked []) by

    -- the selected gather is proved by the whole tree of its atom
    pub record ByGathering (fold : FoldKind) (result value : Tree) (atom : Atom) (tree : WholeTree) : Type 0 where
      pub covered : IsTrue (is_covered value atom)
      pub found : List (List Tree)
      pub whole : TreesBelow (only line atom) (value ∷ []) tree found
      pub unifier : Bindings
      pub rest_by : ℕ → Tree
      pub fits : FitsBy result unifier (fold_of fold (values_at found))
      pub composed : Factors by unifier rest_by
      pub rest : Rest (map_variables unifier ++ seen) (pairs_under (value_at unifier) (put_in_place picked [])) rest_by

    -- the selected literal of this form has this proof
    abbrev pub Proves : Form → Proof → Type 0
    Proves (Pos atom) (by_clause number shown proofs) = ByClause atom number shown (listed proofs)
    Proves (Calc atom) (by_computing shown) = ByComputing atom shown
    Proves (Neg atom) (by_failure shown tree) = ByFailure atom shown tree
    Proves (Gather fold result value atom) (by_gathering fold' result' value' atom' tree) =
        (fold' ≡ fold) × (result' ≡ replaced by result) × (value' ≡ replaced by value) × (atom' ≡ atom_under by atom) × ByGathering fold result value atom tree
    Proves form proof = ⊥

  -- a derivation of so many steps from pairs of literals and their proofs, with the variables seen before and the substitution that its steps compose to
  abbrev pub Runs : ℕ → List ℕ → List Pair → (ℕ → Tree) → Type 0
  Runs zero seen pairs by = (pairs ≡ []) × ((v : ℕ) → by v ≡ variable v)
  Runs (suc steps) seen pairs by =
      IsSomeAnd (pick (λ pair. is_delayed program.version pair.0) pairs) (λ picked. Proves (Runs steps) seen picked by picked.chosen.0.line picked.chosen.0.form picked.chosen.1)

  -- a refutation of a goal: one proof for each literal, and a derivation that makes them
  pub record IsRefutation (seen : List ℕ) (goal : List Literal) (proofs : List Proof) (by : ℕ → Tree) : Type 0 where
    pub count : length proofs ≡ length goal
    pub steps : ℕ
    pub runs : Runs steps seen (zip goal proofs) by

-- the selected literal is an atom, a computed literal, a negation or a gather of which this holds
abbrev pub OfAtom : Form → (Atom → Type 0) → Type 0
OfAtom (Pos atom) P = P atom
OfAtom form P = ⊥

abbrev pub OfComputed : Form → (Atom → Type 0) → Type 0
OfComputed (Calc atom) P = P atom
OfComputed form P = ⊥

abbrev pub OfNegation : Form → (Atom → Type 0) → Type 0
OfNegation (Neg atom) P = P atom
OfNegation form P = ⊥

abbrev pub OfGather : Form → (FoldKind → Tree → Tree → Atom → Type 0) → Type 0
OfGather (Gather fold result value atom) P = P fold result value atom
OfGather form P = ⊥

-- the selected literal of a goal is one of which this holds
abbrev pub Selects : ℕ → List Literal → (Picked Literal → Type 0) → Type 0
Selects version goal P = IsSomeAnd (selected version goal) P

module _ (program : Program) (TreesBelow : Trees) (RefutationsBelow : Refutations) where
  module _ (IsTree : List ℕ → List Literal → List Tree → List (List Tree) → Type 0) where
    -- a computed literal that holds, and the tree of the rest
    pub record GoesOn (seen : List ℕ) (picked : Picked Literal) (atom : Atom) (terms : List Tree) (found : List (List Tree)) : Type 0 where
      pub unifier : Bindings
      pub computes : Computes atom unifier
      pub rest : IsTree (map_variables unifier ++ seen) (literals_under (value_at unifier) (rest_of picked)) (terms_under (value_at unifier) terms) found

    -- a negation whose atom has a failed tree, and the tree of the rest
    pub record Lacks (seen : List ℕ) (picked : Picked Literal) (atom : Atom) (terms : List Tree) (sub : WholeTree) (found : List (List Tree)) : Type 0 where
      pub ground : IsTrue (is_ground_atom atom)
      pub fails : TreesBelow (only picked.chosen.line atom) [] sub []
      pub rest : IsTree seen (rest_of picked) terms found

    -- a gather whose result fits what the whole tree of its atom gives, and the tree of the rest
    pub record Gathers (seen : List ℕ) (picked : Picked Literal) (fold : FoldKind) (result value : Tree) (atom : Atom) (terms : List Tree) (sub : WholeTree) (found : List (List Tree)) : Type 0 where
      pub covered : IsTrue (is_covered value atom)
      pub cases : List (List Tree)
      pub whole : TreesBelow (only picked.chosen.line atom) (value ∷ []) sub cases
      pub unifier : Bindings
      pub fits : FitsBy result unifier (fold_of fold (values_at cases))
      pub rest : IsTree (map_variables unifier ++ seen) (literals_under (value_at unifier) (rest_of picked)) (terms_under (value_at unifier) terms) found

    -- a branch: no head between the branch before and this one unifies, and the resolvent has this tree
    pub record Branches (seen : List ℕ) (picked : Picked Literal) (atom : Atom) (terms : List Tree) (from number : ℕ) (found : List (List Tree)) : Type 0 where
      pub in_order : from ≤ number
      pub others : NoneUnifies program atom from number
      pub clause : Clause
      pub names : ℕ → ℕ
      pub unifier : Bindings
      pub resolves : Resolves program seen atom number clause names unifier
      pub tree : IsTree (seen_by seen clause names unifier) (literals_under (value_at unifier) (put_in_place picked (literals_under (named names) clause.body))) (terms_under (value_at unifier) terms) found

  -- a gather that fails
  pub record Misses (line : ℕ) (fold : FoldKind) (result value : Tree) (atom : Atom) (sub : WholeTree) : Type 0 where
    pub covered : IsTrue (is_covered value atom)
    pub cases : List (List Tree)
    pub whole : TreesBelow (only line atom) (value ∷ []) sub cases
    pub misses : MissesBy result (fold_of fold (values_at cases))

  abbrev mutual
    -- a goal with these answer terms has this whole tree, with these terms at its success leaves
    pub IsWhole : WholeTree → List ℕ → List Literal → List Tree → List (List Tree) → Type 0
    IsWhole success seen goal terms found = (goal ≡ []) × (found ≡ terms ∷ [])
    IsWhole (split branches) seen goal terms found = Selects program.version goal (λ picked. OfAtom picked.chosen.form (λ atom. AreWhole branches seen picked atom terms 1 found))
    IsWhole (computed tree) seen goal terms found = Selects program.version goal (λ picked. OfComputed picked.chosen.form (λ atom. GoesOn (IsWhole tree) seen picked atom terms found))
    IsWhole dead seen goal terms found = Selects program.version goal (λ picked. OfComputed picked.chosen.form (λ atom. ComputesNothing atom × (found ≡ [])))
    IsWhole (lacking sub tree) seen goal terms found = Selects program.version goal (λ picked. OfNegation picked.chosen.form (λ atom. Lacks (IsWhole tree) seen picked atom terms sub found))
    IsWhole (present proof) seen goal terms found = Selects program.version goal (λ picked. OfNegation picked.chosen.form (λ atom. IsTrue (is_ground_atom atom) × RefutationsBelow (only picked.chosen.line atom) (proof ∷ []) × (found ≡ [])))
    IsWhole (gathered sub tree) seen goal terms found = Selects program.version goal (λ picked. OfGather picked.chosen.form (λ fold result value atom. Gathers (IsWhole tree) seen picked fold result value atom terms sub found))
    IsWhole (ungathered sub) seen goal terms found = Selects program.version goal (λ picked. OfGather picked.chosen.form (λ fold result value atom. Misses picked.chosen.line fold result value atom sub × (found ≡ [])))

    -- the branches of an atom by the clauses from this number on
    pub AreWhole : WholeBranches → List ℕ → Picked Literal → Atom → List Tree → ℕ → List (List Tree) → Type 0
    AreWhole no_branch seen picked atom terms from found = NoneUnifies program atom from (suc (length program.clauses)) × (found ≡ [])
    AreWhole (branch number tree branches) seen picked atom terms from found =
        (here : List (List Tree)) × (there : List (List Tree)) × (found ≡ here ++ there)
        × Branches (IsWhole tree) seen picked atom terms from number here × AreWhole branches seen picked atom terms (suc number) there

-- the variables of a goal and of its answer terms
abbrev pub goal_variables : List Literal → List Tree → List ℕ
goal_variables goal terms = all_occurrences (literals_terms goal ++ terms)

abbrev mutual
  -- the whole trees of the rank before this one, of which there is none before rank 0: negations and gathers in them are by trees and refutations of the rank before theirs
  pub WholeBelow : ℕ → Program → Trees
  WholeBelow zero program goal terms tree found = ⊥
  WholeBelow (suc rank) program goal terms tree found = IsWhole program (WholeBelow rank program) (RefutableBelow rank program) tree (goal_variables goal terms) goal terms found

  -- the refutations of the rank before this one
  pub RefutableBelow : ℕ → Program → Refutations
  RefutableBelow zero program goal proofs = ⊥
  RefutableBelow (suc rank) program goal proofs = (by : ℕ → Tree) × IsRefutation program (WholeBelow rank program) (goal_variables goal []) goal proofs by

-- the whole trees of a rank; a failed tree is one without leaves
abbrev pub Whole : ℕ → Program → Trees
Whole rank program = WholeBelow (suc rank) program

abbrev pub Fails : ℕ → Program → List Literal → WholeTree → Type 0
Fails rank program goal tree = Whole rank program goal [] tree []

-- a refutation of a program's query, of some rank, whose substitution gives these values and whose nodes are these, their variables numbered over both
pub record Admits (program : Program) (nodes : List Node) (values : List Tree) : Type 0 where
  pub rank : ℕ
  pub proofs : List Proof
  pub by : ℕ → Tree
  pub refutes : IsRefutation program (WholeBelow rank program) (goal_variables program.query (asked_terms program.asked)) program.query proofs by
  pub same : certificate (terms_under by (asked_terms program.asked)) (length proofs) (proofs_nodes (packed proofs)) ≡ record { values = values; nodes = nodes }
