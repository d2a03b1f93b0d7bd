-- Explanations of answers: what the proofs of a derivation say, a line for each that is shown. This project's profile.
use Rattle.std.specs.Prelude.{ℕ, zero, suc, ◌+◌, ◌-◌, nat_lt, Bool, if◌then◌else◌, Option, Some, None, List, [], ◌∷◌, ◌++◌, length, slice_get, codes, decimal}
use Rattle.le_base.specs.declared.stop.FoldKind.{FoldKind}
use Rattle.le_base.specs.declared.stop.FoldKind.TheVariants.{Sum, Number, Greatest}
use Rattle.le_templates.specs.declared.part.Template.{Template}
use Rattle.le_terms.specs.Tree.{Tree}
use Rattle.le_terms.specs.declared.program.Atom.{Atom}
use Rattle.le_terms.specs.declared.program.Clause.{Clause}
use Rattle.le_terms.specs.declared.program.ClauseKind.{ClauseKind}
use Rattle.le_terms.specs.declared.program.ClauseKind.TheVariants.{Written, Branch as Auxiliary, Prelude}
use Rattle.le_terms.specs.declared.program.GroupKind.{GroupKind}
use Rattle.le_terms.specs.declared.program.GroupKind.TheVariants as groups
use Rattle.le_terms.specs.declared.program.Literal.{Literal}
use Rattle.le_terms.specs.declared.program.Program.{Program}
use Rattle.le_proofs.specs.declared.node.Node.{Node}
use Rattle.le_proofs.specs.declared.node.Node.TheVariants.{Use, Compute, Absent, Gather, Split, Branch, Computed, Lacking, Gathered, Success}
use Rattle.le_proofs.specs.Derivations.{parts_of}
use Rattle.le_english.specs.declared.pending.Pending.{Pending}
use Rattle.le_english.specs.Atoms.{say_text}
use Rattle.le_english.specs.Phrases.{term_text}

-- four spaces for each step of depth
abbrev pub indent : ℕ → List ℕ
indent zero = []
indent (suc depth) = codes "    " ++ indent depth

-- A line of an explanation: its indent, a text, a full stop, a space and a tag.
abbrev pub tagged : ℕ → List ℕ → List ℕ → List ℕ
tagged depth text tag = indent depth ++ (text ++ (codes ". % " ++ (tag ++ codes "\n")))

-- whether a predicate is that of a template
abbrev pub is_template : List Template → ℕ → Bool
is_template users pred = nat_lt pred (20 + length users)

-- the sentence of an atom; one that is of no template has none
unfoldable pub sentence_of : List Template → List (List ℕ) → Atom → List ℕ
sentence_of users names atom = if is_template users atom.pred then say_text users names atom.pred atom.args else []

-- how a written clause is called, and its line: one without a body is a fact, another one a rule
abbrev pub written_tag : List Literal → ℕ → List ℕ
written_tag [] line = codes "fact, line " ++ decimal line
written_tag (literal ∷ literals) line = codes "rule, line " ++ decimal line

-- The line of an atom that is proved by a clause: its sentence, with the clause's own line. A clause of an auxiliary predicate has none.
abbrev pub use_line : List ℕ → ℕ → ClauseKind → List Literal → ℕ → List ℕ
use_line sentence depth Written body line = tagged depth sentence (written_tag body line)
use_line sentence depth Auxiliary body line = []
use_line sentence depth Prelude body line = tagged depth sentence (codes "predefined")

-- that of the use of a clause; a clause that isn't there has none
abbrev pub clause_line : List ℕ → ℕ → Option Clause → List ℕ
clause_line sentence depth (Some c) = use_line sentence depth c.kind c.body c.line
clause_line sentence depth None = []

-- the depth of what stands below the use of a clause at a depth: one deeper, but below a clause of an auxiliary predicate the same
abbrev pub depth_below : ClauseKind → ℕ → ℕ
depth_below Written depth = suc depth
depth_below Auxiliary depth = depth
depth_below Prelude depth = suc depth

-- the clause of a number, counted from 1
abbrev pub clause_at : Program → ℕ → Option Clause
clause_at program number = slice_get program.clauses (number - 1)

-- that there is no way to prove an atom, for a literal of this line: of a template by its sentence, of a group by the line, where the group of a `for all` stands for its cases
abbrev pub group_line : Option GroupKind → ℕ → ℕ → List ℕ
group_line (Some groups.Case) depth line = tagged depth (codes "the condition at line " ++ (decimal line ++ codes " is met in every case")) (codes "all cases")
group_line _ depth line = tagged depth (codes "the condition at line " ++ (decimal line ++ codes " is never met")) (codes "no way")

unfoldable pub absent_line : List Template → List (List ℕ) → Program → ℕ → ℕ → Atom → List ℕ
absent_line users names program depth line atom =
    if is_template users atom.pred then tagged depth (codes "it is not the case that " ++ sentence_of users names atom) (codes "no way")
    else group_line (slice_get program.groups (atom.pred - (20 + length users))) depth line

-- the word for what is made of the values
abbrev pub fold_word : FoldKind → List ℕ
fold_word Sum = codes "sum"
fold_word Number = codes "number"
fold_word Greatest = codes "greatest"

-- what is said of a gather after its result: what is made of the values, over so many cases, for a literal of this line
abbrev pub cases_text : FoldKind → ℕ → ℕ → List ℕ
cases_text fold cases line = codes " is the " ++ (fold_word fold ++ (codes " over " ++ (decimal cases ++ (codes " cases at line " ++ decimal line))))

-- the line of a gather with this result
abbrev pub gather_line : List Template → List (List ℕ) → ℕ → ℕ → FoldKind → Tree → ℕ → List ℕ
gather_line users names depth line fold result cases = tagged depth (term_text users names result ++ cases_text fold cases line) (codes "all cases")

-- whether a node is a success leaf: 1 where it is
abbrev pub own_leaf : Node → ℕ
own_leaf Success = 1
own_leaf _ = 0

-- how many parts of the same tree stand below a node of a tree
abbrev pub own_parts : Node → ℕ
own_parts (Split count) = count
own_parts (Branch clause) = 1
own_parts Computed = 1
own_parts Lacking = 1
own_parts Gathered = 1
own_parts _ = 0

-- how many success leaves trees have that begin a list of nodes: so many parts of other trees or proofs, and after them so many of these trees; leaves below a negation or a gather in them are those of other trees
abbrev pub leaves : ℕ → ℕ → List Node → ℕ
leaves others own [] = 0
leaves (suc others) own (node ∷ nodes) = leaves (parts_of node + others) own nodes
leaves zero zero (node ∷ nodes) = 0
leaves zero (suc own) (node ∷ nodes) = own_leaf node + leaves (parts_of node - own_parts node) (own_parts node + own) nodes

-- the line of a node that proves a literal of this depth and line, over so many cases where it is a gather
abbrev pub node_line : List Template → List (List ℕ) → Program → Pending → Node → ℕ → List ℕ
node_line users names program at (Use clause count atom) cases = clause_line (sentence_of users names atom) at.depth (clause_at program clause)
node_line users names program at (Compute atom) cases = tagged at.depth (sentence_of users names atom) (codes "computed")
node_line users names program at (Absent atom) cases = absent_line users names program at.depth at.line atom
node_line users names program at (Gather fold result value atom) cases = gather_line users names at.depth at.line fold result cases
node_line users names program at _ cases = []

-- literals, each at this depth, before others
abbrev pub pending_at : ℕ → List Literal → List Pending → List Pending
pending_at depth [] rest = rest
pending_at depth (literal ∷ literals) rest = record { depth = depth; line = literal.line } ∷ pending_at depth literals rest

-- those of the body of a clause that is used at a depth
abbrev pub body_pending : ℕ → Option Clause → List Pending → List Pending
body_pending depth (Some c) rest = pending_at (depth_below c.kind depth) c.body rest
body_pending depth None rest = rest

-- the literals that the proofs below a node prove, before others: those of its clause's body
abbrev pub pending_below : Program → ℕ → Node → List Pending → List Pending
pending_below program depth (Use clause count atom) rest = body_pending depth (clause_at program clause) rest
pending_below program depth _ rest = rest

-- how many parts below a node aren't shown: the tree of a negation or of a gather
abbrev pub unshown_below : Node → ℕ
unshown_below (Use clause count atom) = 0
unshown_below node = parts_of node

-- The lines of nodes in preorder: after so many parts that aren't shown come the proofs of these literals, one after another. Each proof has its line, and then those of the proofs below it. The cases of a gather are the success leaves of its tree.
abbrev pub lines_of : List Template → List (List ℕ) → Program → ℕ → List Pending → List Node → List ℕ
lines_of users names program unshown pending [] = []
lines_of users names program (suc unshown) pending (node ∷ nodes) = lines_of users names program (parts_of node + unshown) pending nodes
lines_of users names program zero [] (node ∷ nodes) = []
lines_of users names program zero (at ∷ pending) (node ∷ nodes) =
    node_line users names program at node (leaves 0 (unshown_below node) nodes) ++ lines_of users names program (unshown_below node) (pending_below program at.depth node pending) nodes

-- The explanation of an answer: the lines of its derivation, in which the literals of the query have depth 1.
unfoldable pub explanation : List Template → List (List ℕ) → Program → List Node → List ℕ
explanation users names program nodes = lines_of users names program 0 (pending_at 1 program.query []) nodes
