-- The text of a derivation, from the words of its nodes to its lines: this project's profile.
use Rattle.std.specs.Prelude.{ℕ, ◌^◌, ◌<◌, List, [], ◌∷◌, ◌++◌, length, map, codes}
use Rattle.std.specs.Fmt.{decimal}
use Rattle.std.specs.List.{AllByRecursion, join_with_byte}
use Rattle.le_terms.specs.declared.program.Atom.{Atom}
use Rattle.le_terms.specs.Tree.{Tree, flat}
use Rattle.le_proofs.specs.declared.node.Node.{Node}
use Rattle.le_proofs.specs.declared.node.Node.TheVariants.{Use, Compute, Absent, Gather, Split, Branch, Computed, Lacking, Present, Gathered, Ungathered, Success, Dead}
use Rattle.le_prooftext.specs.declared.word.NodeKind.TheVariants as kind
use Rattle.le_prooftext.specs.declared.word.Word.{Word}
use Rattle.le_prooftext.specs.declared.word.Word.TheVariants as word
use Rattle.le_prooftext.specs.Words.{word_text, IsWord}

-- the words of a term: its symbols, a cell before its head and its tail
abbrev pub term_words : Tree → List Word
term_words tree = map (λ s. word.Symbol s) (flat tree)

-- the words of terms one after another
abbrev pub terms_words : List Tree → List Word
terms_words [] = []
terms_words (tree ∷ trees) = term_words tree ++ terms_words trees

-- the words of an atom: its predicate and its terms
abbrev pub atom_words : Atom → List Word
atom_words atom = word.Pred atom.pred ∷ terms_words atom.args

-- the words of a node: its kind, and then its numbers, terms and atom; of a gather the fold, the result, the value and the atom
abbrev pub node_words : Node → List Word
node_words (Use clause count atom) = word.Kind kind.Use ∷ word.Count clause ∷ word.Count count ∷ atom_words atom
node_words (Compute atom) = word.Kind kind.Compute ∷ atom_words atom
node_words (Absent atom) = word.Kind kind.Absent ∷ atom_words atom
node_words (Gather fold result value atom) = word.Kind kind.Gather ∷ word.Fold fold ∷ (term_words result ++ (term_words value ++ atom_words atom))
node_words (Split count) = word.Kind kind.Split ∷ word.Count count ∷ []
node_words (Branch clause) = word.Kind kind.Branch ∷ word.Count clause ∷ []
node_words Computed = word.Kind kind.Computed ∷ []
node_words Lacking = word.Kind kind.Lacking ∷ []
node_words Present = word.Kind kind.Present ∷ []
node_words Gathered = word.Kind kind.Gathered ∷ []
node_words Ungathered = word.Kind kind.Ungathered ∷ []
node_words Success = word.Kind kind.Success ∷ []
node_words Dead = word.Kind kind.Dead ∷ []

-- words as a line, with one space between each two, without the LF at its end
abbrev pub words_line : List Word → List ℕ
words_line words = join_with_byte 32 (map word_text words)

-- the line of a node, without the LF at its end
abbrev pub node_line : Node → List ℕ
node_line node = words_line (node_words node)

-- the lines of nodes, each with the LF at its end
abbrev pub nodes_text : List Node → List ℕ
nodes_text [] = []
nodes_text (node ∷ nodes) = node_line node ++ (10 ∷ nodes_text nodes)

-- the line with the number of nodes, without the LF at its end
abbrev pub count_line : ℕ → List ℕ
count_line n = codes "derivation " ++ decimal n

-- the text of a derivation: the number of its nodes, and a line for each node
abbrev pub derivation_text : List Node → List ℕ
derivation_text nodes = count_line (length nodes) ++ (10 ∷ nodes_text nodes)

-- a node whose numbers are in the ranges of its words, as those of each node in memory are
abbrev pub IsSpellable : Node → Type 0
IsSpellable node = AllByRecursion IsWord (node_words node)

-- nodes that have a spelling, fewer than 2^64
abbrev pub AreSpellable : List Node → Type 0
AreSpellable nodes = (length nodes < 2 ^ 64) × AllByRecursion IsSpellable nodes
