-- Reading the text of a derivation: the word, the node and the derivation that some bytes spell, or none. Laws say that each reading gives what is spelled so, and nothing else.
use Rattle.std.specs.Prelude.{ℕ, zero, suc, ◌+◌, ◌^◌, ◌==◌, ◌&&◌, Bool, true, false, nat_le, nat_lt, List, [], ◌∷◌, length, take, drop, slice_index, if◌then◌else◌, Option, Some, None, option_and_then, option_map, ℤ, pos, negsuc, find, position, codes}
use Rattle.std.specs.Char.{is_ascii_digit}
use Rattle.std.specs.Fmt.{decimal, signed_decimal}
use Rattle.std.specs.List.{list_all, slice_split}
use Rattle.std.specs.Str.{bytes_eq}
use Rattle.std.specs.Str.Parse.{digits_value}
use Rattle.le_base.specs.declared.stop.FoldKind.{FoldKind}
use Rattle.le_base.specs.declared.stop.FoldKind.TheVariants.{Sum, Number, Greatest}
use Rattle.le_terms.specs.declared.program.Atom.{Atom}
use Rattle.le_terms.specs.declared.term.Sym.{Sym}
use Rattle.le_terms.specs.declared.term.Sym.TheVariants.{Name, Num, Day, Var, Nil, Cons}
use Rattle.le_terms.specs.Tree.{Tree, constant, number, date, variable, nil, cell}
use Rattle.le_values.specs.Numbers.{number_of}
use Rattle.le_proofs.specs.declared.derivation.Derivation.{Derivation}
use Rattle.le_proofs.specs.declared.node.Node.{Node}
use Rattle.le_proofs.specs.declared.node.Node.TheVariants.{Use, Compute, Absent, Gather, Split, Branch, Computed, Lacking, Present, Gathered, Ungathered, Success, Dead}
use Rattle.le_prooftext.specs.declared.word.NodeKind.{NodeKind}
use Rattle.le_prooftext.specs.declared.word.NodeKind.TheVariants as kind
use Rattle.le_prooftext.specs.declared.word.Word.{Word}
use Rattle.le_prooftext.specs.declared.word.Word.TheVariants as word
use Rattle.le_prooftext.specs.Words.{kind_text, fold_text, greatest_small}

-- whether some bytes are the digits of a number below 2^64, without leading zeros
abbrev pub is_natural : List ℕ → Bool
is_natural bytes = list_all is_ascii_digit bytes && nat_lt (digits_value 10 bytes) (2 ^ 64) && bytes_eq (decimal (digits_value 10 bytes)) bytes

-- the number below 2^64 that some bytes spell
unfoldable pub natural_of : List ℕ → Option ℕ
natural_of bytes = if is_natural bytes then Some (digits_value 10 bytes) else None

abbrev pub if_small : ℕ → Option ℕ
if_small n = if nat_le n greatest_small then Some n else None

-- the number that some bytes spell, where it is at most 4,294,967,295
unfoldable pub small_of : List ℕ → Option ℕ
small_of bytes = option_and_then if_small (natural_of bytes)

abbrev pub if_spelled : List ℕ → ℤ → Option ℤ
if_spelled bytes z = if bytes_eq (signed_decimal z) bytes then Some z else None

-- the whole number from -10^18 to 10^18 that some bytes spell
unfoldable pub whole_of : List ℕ → Option ℤ
whole_of bytes = option_and_then (if_spelled bytes) (number_of bytes)

-- whether a whole number is a day of the years 0001 to 9999
abbrev pub is_day : ℤ → Bool
is_day (pos n) = nat_le n 2932896
is_day (negsuc n) = nat_lt n 719162

abbrev pub if_day : ℤ → Option ℤ
if_day z = if is_day z then Some z else None

-- the day that some bytes spell
unfoldable pub day_of : List ℕ → Option ℤ
day_of bytes = option_and_then if_day (whole_of bytes)

-- the word of a letter and a number
unfoldable pub lettered : ℕ → List ℕ → Option Word
lettered letter bytes =
    if letter == 110 then option_map (λ n. word.Symbol (Name n)) (small_of bytes)
    else (if letter == 105 then option_map (λ z. word.Symbol (Num z)) (whole_of bytes)
    else (if letter == 100 then option_map (λ d. word.Symbol (Day d)) (day_of bytes)
    else (if letter == 118 then option_map (λ v. word.Symbol (Var v)) (small_of bytes)
    else (if letter == 112 then option_map (λ p. word.Pred p) (small_of bytes)
    else None))))

-- the kinds of node
abbrev pub all_kinds : List NodeKind
all_kinds =
    kind.Use ∷ kind.Compute ∷ kind.Absent ∷ kind.Gather ∷ kind.Split ∷ kind.Branch ∷ kind.Computed
    ∷ kind.Lacking ∷ kind.Present ∷ kind.Gathered ∷ kind.Ungathered ∷ kind.Success ∷ kind.Dead ∷ []

-- the kind of node that some bytes spell
unfoldable pub kind_of : List ℕ → Option NodeKind
kind_of bytes = find (λ k. bytes_eq (kind_text k) bytes) all_kinds

-- the fold that some bytes spell
unfoldable pub fold_of : List ℕ → Option FoldKind
fold_of bytes = find (λ f. bytes_eq (fold_text f) bytes) (Sum ∷ Number ∷ Greatest ∷ [])

-- the empty list or the cell that some bytes spell
unfoldable pub list_symbol : List ℕ → Option Word
list_symbol bytes = if bytes_eq bytes (codes "e") then Some (word.Symbol Nil) else (if bytes_eq bytes (codes "c") then Some (word.Symbol Cons) else None)

abbrev pub or_else : Option Word → Option Word → Option Word
or_else None other = other
or_else (Some w) other = Some w

-- the word without a number that some bytes spell
unfoldable pub fixed_of : List ℕ → Option Word
fixed_of bytes = or_else (list_symbol bytes) (or_else (option_map (λ k. word.Kind k) (kind_of bytes)) (option_map (λ f. word.Fold f) (fold_of bytes)))

-- the word that some bytes spell
unfoldable pub word_of : List ℕ → Option Word
word_of bytes = or_else (option_map (λ n. word.Count n) (small_of bytes)) (or_else (lettered (slice_index bytes 0) (drop 1 bytes)) (fixed_of bytes))

abbrev pub followed : Option Word → Option (List Word) → Option (List Word)
followed None words = None
followed (Some w) None = None
followed (Some w) (Some words) = Some (w ∷ words)

-- the words that some pieces spell, where each spells one
abbrev pub words_from : List (List ℕ) → Option (List Word)
words_from [] = Some []
words_from (piece ∷ pieces) = followed (word_of piece) (words_from pieces)

-- the words of a line, one space between each two
abbrev pub line_words : List ℕ → Option (List Word)
line_words line = words_from (slice_split (λ b. b == 32) line)

-- the symbols that some words are, where each is one
abbrev pub put_symbol : Sym → Option (List Sym) → Option (List Sym)
put_symbol s None = None
put_symbol s (Some symbols) = Some (s ∷ symbols)

abbrev pub symbols_from : List Word → Option (List Sym)
symbols_from [] = Some []
symbols_from (word.Symbol s ∷ words) = put_symbol s (symbols_from words)
symbols_from (word.Kind k ∷ words) = None
symbols_from (word.Fold f ∷ words) = None
symbols_from (word.Count n ∷ words) = None
symbols_from (word.Pred p ∷ words) = None

abbrev pub put_tree : Tree → Option (List Tree) → Option (List Tree)
put_tree tree None = None
put_tree tree (Some trees) = Some (tree ∷ trees)

-- the first two trees as one cell, where there are two
abbrev pub put_cell : Option (List Tree) → Option (List Tree)
put_cell None = None
put_cell (Some []) = None
put_cell (Some (tree ∷ [])) = None
put_cell (Some (head ∷ tail ∷ trees)) = Some (cell head tail ∷ trees)

-- the trees whose symbols these are, one tree after another, where they are whole
abbrev pub trees_from : List Sym → Option (List Tree)
trees_from [] = Some []
trees_from (Name n ∷ symbols) = put_tree (constant n) (trees_from symbols)
trees_from (Num z ∷ symbols) = put_tree (number z) (trees_from symbols)
trees_from (Day d ∷ symbols) = put_tree (date d) (trees_from symbols)
trees_from (Var v ∷ symbols) = put_tree (variable v) (trees_from symbols)
trees_from (Nil ∷ symbols) = put_tree nil (trees_from symbols)
trees_from (Cons ∷ symbols) = put_cell (trees_from symbols)

-- the terms of some words
abbrev pub terms_from : List Word → Option (List Tree)
terms_from words = option_and_then trees_from (symbols_from words)

-- an atom of a predicate's number and its terms
abbrev pub atom_with : ℕ → List Tree → Atom
atom_with pred args = record { pred = pred; args = args }

-- the atom of some words: the predicate, and then its terms
abbrev pub atom_from : List Word → Option Atom
atom_from [] = None
atom_from (word.Pred p ∷ words) = option_map (atom_with p) (terms_from words)
atom_from (word.Kind k ∷ words) = None
atom_from (word.Fold f ∷ words) = None
atom_from (word.Count n ∷ words) = None
atom_from (word.Symbol s ∷ words) = None

-- the number that some words are
abbrev pub one_count : List Word → Option ℕ
one_count [] = None
one_count (word.Count n ∷ []) = Some n
one_count (word.Count n ∷ w ∷ words) = None
one_count (word.Kind k ∷ words) = None
one_count (word.Fold f ∷ words) = None
one_count (word.Pred p ∷ words) = None
one_count (word.Symbol s ∷ words) = None

-- the use of a clause, from the words that follow the first
abbrev pub use_counted : ℕ → List Word → Option Node
use_counted clause [] = None
use_counted clause (word.Count n ∷ words) = option_map (λ atom. Use clause n atom) (atom_from words)
use_counted clause (word.Kind k ∷ words) = None
use_counted clause (word.Fold f ∷ words) = None
use_counted clause (word.Pred p ∷ words) = None
use_counted clause (word.Symbol s ∷ words) = None

abbrev pub use_from : List Word → Option Node
use_from [] = None
use_from (word.Count n ∷ words) = use_counted n words
use_from (word.Kind k ∷ words) = None
use_from (word.Fold f ∷ words) = None
use_from (word.Pred p ∷ words) = None
use_from (word.Symbol s ∷ words) = None

-- whether a word is a predicate
abbrev pub is_pred : Word → Bool
is_pred (word.Pred p) = true
is_pred (word.Kind k) = false
is_pred (word.Fold f) = false
is_pred (word.Count n) = false
is_pred (word.Symbol s) = false

-- a gather of two terms and an atom
abbrev pub gather_of : FoldKind → Option (List Tree) → Option Atom → Option Node
gather_of fold None atom = None
gather_of fold (Some []) atom = None
gather_of fold (Some (result ∷ [])) atom = None
gather_of fold (Some (result ∷ value ∷ [])) atom = option_map (λ a. Gather fold result value a) atom
gather_of fold (Some (result ∷ value ∷ tree ∷ trees)) atom = None

-- the same, where the terms end before this place
abbrev pub gather_at : FoldKind → List Word → Option ℕ → Option Node
gather_at fold words None = None
gather_at fold words (Some k) = gather_of fold (terms_from (take k words)) (atom_from (drop k words))

-- a gather, from the words that follow the first
abbrev pub gather_from : List Word → Option Node
gather_from [] = None
gather_from (word.Fold f ∷ words) = gather_at f words (position is_pred words)
gather_from (word.Kind k ∷ words) = None
gather_from (word.Count n ∷ words) = None
gather_from (word.Pred p ∷ words) = None
gather_from (word.Symbol s ∷ words) = None

-- a node that has no word but its kind
abbrev pub alone : Node → List Word → Option Node
alone node [] = Some node
alone node (w ∷ words) = None

-- a node of a kind, from the words that follow it
abbrev pub kind_from : NodeKind → List Word → Option Node
kind_from kind.Use words = use_from words
kind_from kind.Compute words = option_map (λ atom. Compute atom) (atom_from words)
kind_from kind.Absent words = option_map (λ atom. Absent atom) (atom_from words)
kind_from kind.Gather words = gather_from words
kind_from kind.Split words = option_map (λ n. Split n) (one_count words)
kind_from kind.Branch words = option_map (λ n. Branch n) (one_count words)
kind_from kind.Computed words = alone Computed words
kind_from kind.Lacking words = alone Lacking words
kind_from kind.Present words = alone Present words
kind_from kind.Gathered words = alone Gathered words
kind_from kind.Ungathered words = alone Ungathered words
kind_from kind.Success words = alone Success words
kind_from kind.Dead words = alone Dead words

-- the node of some words
abbrev pub node_from : List Word → Option Node
node_from [] = None
node_from (word.Kind k ∷ words) = kind_from k words
node_from (word.Fold f ∷ words) = None
node_from (word.Count n ∷ words) = None
node_from (word.Pred p ∷ words) = None
node_from (word.Symbol s ∷ words) = None

-- the node that a line spells, where the line is without its LF
unfoldable pub node_of : List ℕ → Option Node
node_of line = option_and_then node_from (line_words line)

-- the number of nodes that a line `derivation N` gives, where the line is without its LF
unfoldable pub count_of : List ℕ → Option ℕ
count_of line = if bytes_eq (take 11 line) (codes "derivation ") then natural_of (drop 11 line) else None

-- the first line of some bytes, without its LF; none where no LF ends it
unfoldable pub first_line : List ℕ → Option (List ℕ)
first_line bytes = option_map (λ k. take k bytes) (position (λ b. b == 10) bytes)

-- a node that was read from a line, before those that were read after it, with the number of bytes of their lines
abbrev pub put_node : ℕ → Option Node → Option (List Node × ℕ) → Option (List Node × ℕ)
put_node bytes None others = None
put_node bytes (Some node) None = None
put_node bytes (Some node) (Some others) = Some (node ∷ others.0, bytes + others.1)

abbrev pub nodes_by : Option (List ℕ) → (List ℕ → Option (List Node × ℕ)) → Option (List Node × ℕ)
nodes_by None others = None
nodes_by (Some line) others = put_node (length line + 1) (node_of line) (others line)

-- so many nodes, one from each line, and how many bytes their lines have
abbrev pub nodes_from : ℕ → List ℕ → Option (List Node × ℕ)
nodes_from zero bytes = Some ([], 0)
nodes_from (suc n) bytes = nodes_by (first_line bytes) (λ line. nodes_from n (drop (length line + 1) bytes))

-- a derivation and the number of bytes that it takes, of nodes that follow a first line of so many bytes
abbrev pub derivation_after : ℕ → List Node × ℕ → Derivation × ℕ
derivation_after bytes read = (record { nodes = read.0 }, bytes + read.1)

-- the derivation whose first line this is
abbrev pub derivation_by : List ℕ → List ℕ → Option (Derivation × ℕ)
derivation_by bytes line = option_and_then (λ n. option_map (derivation_after (length line + 1)) (nodes_from n (drop (length line + 1) bytes))) (count_of line)

-- the derivation whose text some bytes begin with, and the number of bytes of that text
unfoldable pub derivation_of : List ℕ → Option (Derivation × ℕ)
derivation_of bytes = option_and_then (derivation_by bytes) (first_line bytes)
