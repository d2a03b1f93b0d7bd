-- Each node's line reads back, and what is read is spelled so.
use Rattle.std.proofs.Common.{⊎_elim, ◌≡◌, ℕ, ◌+◌, ◌<◌, ◌≤◌, Bool, false, ◌==◌, List, [], ◌∷◌, ◌++◌, map, length, take, drop, Option, Some, None, option_map, option_and_then, position, refl, sym, ap, subst, ◌∙◌, arith, IfSome, append_assoc, append-nil, take-append-drop, length-append}
use Rattle.std.proofs.lemmas.Bool.{lt-ltb, ltb-true, cases_lt, cases_Bool}
use Rattle.std.proofs.lemmas.Option.{cond_some}
use Rattle.std.proofs.lemmas.List.{map-append, take_at, drop_at, length-map}
use Rattle.std.proofs.lemmas.List.Splits.{join_with_byte-slice_split, slice_split_first, slice_split-cons_no}
use Rattle.std.specs.List.{AllByRecursion, slice_split, join_with_byte, position_or_len, onto_first}
use Rattle.le_base.specs.declared.stop.FoldKind.{FoldKind}
use Rattle.le_terms.specs.declared.program.Atom.{Atom}
use Rattle.le_terms.specs.declared.term.Sym.{Sym}
use Rattle.le_terms.specs.Tree.{Tree, flat}
use Rattle.le_proofs.specs.declared.node.Node.{Node}
use Rattle.le_proofs.specs.declared.node.Node.TheVariants.{Use, Compute, Absent, Gather, Split, Branch, Computed, Lacking, Present, Gathered, Ungathered, Success, Dead}
use Rattle.le_prooftext.specs.declared.word.NodeKind.{NodeKind}
use Rattle.le_prooftext.specs.declared.word.NodeKind.TheVariants as kind
use Rattle.le_prooftext.specs.declared.word.Word.{Word}
use Rattle.le_prooftext.specs.declared.word.Word.TheVariants as word
use Rattle.le_prooftext.specs.Laws.{SpellsNode, ReadsNode}
use Rattle.le_prooftext.specs.Lines.{term_words, terms_words, atom_words, node_words, words_line, node_line, IsSpellable}
use Rattle.le_prooftext.specs.Reading.{symbols_from, trees_from, terms_from, atom_with, atom_from, one_count, use_counted, use_from, is_pred, gather_of, gather_at, gather_from, alone, kind_from, node_from, line_words, words_from, node_of, followed, word_of}
use Rattle.le_prooftext.specs.Words.{IsWord}
use Rattle.le_prooftext.proofs.TreeLemmas.{flats, trees_from-flats, trees_from-spells, terms_words-flats, symbols_from-words, symbols_from-spells, puts}
use Rattle.le_prooftext.proofs.WordLemmas.{of_some, mapped, split_words, words_from-texts, words_from-spells, SpellWords}

-- what follows from one reading and then another
pub chained : {X Y : Type 0} {P : X → Type 0} (Q : Y → Type 0) (f : X → Option Y) (o : Option X) → IfSome o P → ((x : X) → P x → IfSome (f x) Q) → IfSome (option_and_then f o) Q
chained Q f None h step = tt
chained Q f (Some x) h step = step x h

pub terms_from-words : (trees : List Tree) → terms_from (terms_words trees) ≡ Some trees
terms_from-words trees =
    ap (option_and_then trees_from) (ap symbols_from (terms_words-flats trees) ∙ symbols_from-words (flats trees)) ∙ trees_from-flats trees

pub terms_from-spells : (words : List Word) → IfSome (terms_from words) (λ trees. terms_words trees ≡ words)
terms_from-spells words =
    chained (λ trees. terms_words trees ≡ words) trees_from (symbols_from words) (symbols_from-spells words) (λ symbols same.
    mapped_fact symbols same (trees_from symbols) (trees_from-spells symbols))
  where
    mapped_fact : (symbols : List Sym) → map (λ x. word.Symbol x) symbols ≡ words → (o : Option (List Tree)) → IfSome o (λ trees. flats trees ≡ symbols) → IfSome o (λ trees. terms_words trees ≡ words)
    mapped_fact symbols same None h = tt
    mapped_fact symbols same (Some trees) h = terms_words-flats trees ∙ (ap (map (λ x. word.Symbol x)) h ∙ same)

pub atom_from-words : (atom : Atom) → atom_from (atom_words atom) ≡ Some atom
atom_from-words atom = ap (option_map (atom_with atom.pred)) (terms_from-words atom.args)

pub atom_from-spells : (words : List Word) → IfSome (atom_from words) (λ atom. atom_words atom ≡ words)
atom_from-spells [] = tt
atom_from-spells (word.Pred p ∷ words) =
    mapped (λ atom. atom_words atom ≡ word.Pred p ∷ words) (atom_with p) (terms_from words) (terms_from-spells words) (λ trees same. ap (λ ws. word.Pred p ∷ ws) same)
atom_from-spells (word.Kind k ∷ words) = tt
atom_from-spells (word.Fold f ∷ words) = tt
atom_from-spells (word.Count n ∷ words) = tt
atom_from-spells (word.Symbol s ∷ words) = tt

one_count-spells : (words : List Word) → IfSome (one_count words) (λ n. word.Count n ∷ [] ≡ words)
one_count-spells [] = tt
one_count-spells (word.Count n ∷ []) = refl
one_count-spells (word.Count n ∷ w ∷ words) = tt
one_count-spells (word.Kind k ∷ words) = tt
one_count-spells (word.Fold f ∷ words) = tt
one_count-spells (word.Pred p ∷ words) = tt
one_count-spells (word.Symbol s ∷ words) = tt

use_counted-spells : (clause : ℕ) (words : List Word) → IfSome (use_counted clause words) (λ node. node_words node ≡ word.Kind kind.Use ∷ word.Count clause ∷ words)
use_counted-spells clause [] = tt
use_counted-spells clause (word.Count n ∷ words) =
    mapped (λ node. node_words node ≡ word.Kind kind.Use ∷ word.Count clause ∷ word.Count n ∷ words) (λ atom. Use clause n atom) (atom_from words) (atom_from-spells words)
    (λ atom same. ap (λ ws. word.Kind kind.Use ∷ word.Count clause ∷ word.Count n ∷ ws) same)
use_counted-spells clause (word.Kind k ∷ words) = tt
use_counted-spells clause (word.Fold f ∷ words) = tt
use_counted-spells clause (word.Pred p ∷ words) = tt
use_counted-spells clause (word.Symbol s ∷ words) = tt

use_from-spells : (words : List Word) → IfSome (use_from words) (λ node. node_words node ≡ word.Kind kind.Use ∷ words)
use_from-spells [] = tt
use_from-spells (word.Count n ∷ words) = use_counted-spells n words
use_from-spells (word.Kind k ∷ words) = tt
use_from-spells (word.Fold f ∷ words) = tt
use_from-spells (word.Pred p ∷ words) = tt
use_from-spells (word.Symbol s ∷ words) = tt

gather_of-spells : (fold : FoldKind) (front behind : List Word) (terms : Option (List Tree)) (atom : Option Atom) → IfSome terms (λ trees. terms_words trees ≡ front) → IfSome atom (λ a. atom_words a ≡ behind) → IfSome (gather_of fold terms atom) (λ node. node_words node ≡ word.Kind kind.Gather ∷ word.Fold fold ∷ (front ++ behind))
gather_of-spells fold front behind None atom h k = tt
gather_of-spells fold front behind (Some []) atom h k = tt
gather_of-spells fold front behind (Some (result ∷ [])) atom h k = tt
gather_of-spells fold front behind (Some (result ∷ value ∷ [])) None h k = tt
gather_of-spells fold front behind (Some (result ∷ value ∷ [])) (Some a) h k =
    ap (λ ws. word.Kind kind.Gather ∷ word.Fold fold ∷ ws)
    (sym (append_assoc (term_words result) (term_words value) (atom_words a))
    ∙ (ap (λ ws. ws ++ atom_words a) (ap (λ ws. term_words result ++ ws) (sym (append-nil (term_words value))) ∙ h)
    ∙ ap (λ ws. front ++ ws) k))
gather_of-spells fold front behind (Some (result ∷ value ∷ tree ∷ trees)) atom h k = tt

gather_at-spells : (fold : FoldKind) (words : List Word) (place : Option ℕ) → IfSome (gather_at fold words place) (λ node. node_words node ≡ word.Kind kind.Gather ∷ word.Fold fold ∷ words)
gather_at-spells fold words None = tt
gather_at-spells fold words (Some k) =
    let P : List Word → Type 0 = λ ws. IfSome (gather_at fold words (Some k)) (λ node. node_words node ≡ word.Kind kind.Gather ∷ word.Fold fold ∷ ws) in
    subst P (take-append-drop k words) (gather_of-spells fold (take k words) (drop k words) (terms_from (take k words)) (atom_from (drop k words)) (terms_from-spells (take k words)) (atom_from-spells (drop k words)))

gather_from-spells : (words : List Word) → IfSome (gather_from words) (λ node. node_words node ≡ word.Kind kind.Gather ∷ words)
gather_from-spells [] = tt
gather_from-spells (word.Fold f ∷ words) = gather_at-spells f words (position is_pred words)
gather_from-spells (word.Kind k ∷ words) = tt
gather_from-spells (word.Count n ∷ words) = tt
gather_from-spells (word.Pred p ∷ words) = tt
gather_from-spells (word.Symbol s ∷ words) = tt

alone-spells : (node : Node) (k : NodeKind) (words : List Word) → node_words node ≡ word.Kind k ∷ [] → IfSome (alone node words) (λ found. node_words found ≡ word.Kind k ∷ words)
alone-spells node k [] h = h
alone-spells node k (w ∷ words) h = tt

kind_from-spells : (k : NodeKind) (words : List Word) → IfSome (kind_from k words) (λ node. node_words node ≡ word.Kind k ∷ words)
kind_from-spells kind.Use words = use_from-spells words
kind_from-spells kind.Compute words = mapped (λ node. node_words node ≡ word.Kind kind.Compute ∷ words) (λ atom. Compute atom) (atom_from words) (atom_from-spells words) (λ atom same. ap (λ ws. word.Kind kind.Compute ∷ ws) same)
kind_from-spells kind.Absent words = mapped (λ node. node_words node ≡ word.Kind kind.Absent ∷ words) (λ atom. Absent atom) (atom_from words) (atom_from-spells words) (λ atom same. ap (λ ws. word.Kind kind.Absent ∷ ws) same)
kind_from-spells kind.Gather words = gather_from-spells words
kind_from-spells kind.Split words = mapped (λ node. node_words node ≡ word.Kind kind.Split ∷ words) (λ n. Split n) (one_count words) (one_count-spells words) (λ n same. ap (λ ws. word.Kind kind.Split ∷ ws) same)
kind_from-spells kind.Branch words = mapped (λ node. node_words node ≡ word.Kind kind.Branch ∷ words) (λ n. Branch n) (one_count words) (one_count-spells words) (λ n same. ap (λ ws. word.Kind kind.Branch ∷ ws) same)
kind_from-spells kind.Computed words = alone-spells Computed kind.Computed words refl
kind_from-spells kind.Lacking words = alone-spells Lacking kind.Lacking words refl
kind_from-spells kind.Present words = alone-spells Present kind.Present words refl
kind_from-spells kind.Gathered words = alone-spells Gathered kind.Gathered words refl
kind_from-spells kind.Ungathered words = alone-spells Ungathered kind.Ungathered words refl
kind_from-spells kind.Success words = alone-spells Success kind.Success words refl
kind_from-spells kind.Dead words = alone-spells Dead kind.Dead words refl

pub node_from-spells : (words : List Word) → IfSome (node_from words) (λ node. node_words node ≡ words)
node_from-spells [] = tt
node_from-spells (word.Kind k ∷ words) = kind_from-spells k words
node_from-spells (word.Fold f ∷ words) = tt
node_from-spells (word.Count n ∷ words) = tt
node_from-spells (word.Pred p ∷ words) = tt
node_from-spells (word.Symbol s ∷ words) = tt

-- the first place at which a test passes
pub position_is : {X : Type 0} (p : X → Bool) (xs : List X) (n : ℕ) → position_or_len p xs ≡ n → n < length xs → position p xs ≡ Some n
position_is p xs n is within = rw is (rw (lt-ltb n (length xs) within) refl)

-- where no place is found, none is before the end
pub no_place : {X : Type 0} (p : X → Bool) (xs : List X) → None ≡ position p xs → length xs ≤ position_or_len p xs
no_place p xs is =
    ⊎_elim (λ (within : position_or_len p xs < length xs). absurd (cc (is, position_is p xs (position_or_len p xs) refl within)))
    (λ (past : length xs ≤ position_or_len p xs). past)
    (cases_lt (position_or_len p xs) (length xs))

-- the first predicate among words follows the symbols before it
symbols_before : (symbols : List Sym) (p : ℕ) (words : List Word) → position is_pred (map (λ s. word.Symbol s) symbols ++ (word.Pred p ∷ words)) ≡ Some (length symbols)
symbols_before symbols p words =
    position_is is_pred _ _ (place symbols) (omega (arith, length-append (map (λ s. word.Symbol s) symbols) (word.Pred p ∷ words), length-map symbols (λ s. word.Symbol s)))
  where
    place : (ss : List Sym) → position_or_len is_pred (map (λ s. word.Symbol s) ss ++ (word.Pred p ∷ words)) ≡ length ss
    place [] = refl
    place (s ∷ ss) = omega (arith, place ss)

-- a gather of the terms that some symbols are
gather_at-symbols : (fold : FoldKind) (symbols : List Sym) (terms : List Tree) (atom : Atom) → terms_words terms ≡ map (λ s. word.Symbol s) symbols → gather_at fold (map (λ s. word.Symbol s) symbols ++ atom_words atom) (Some (length symbols)) ≡ gather_of fold (Some terms) (Some atom)
gather_at-symbols fold symbols terms atom same =
    let front = take_at (map (λ s. word.Symbol s) symbols) (atom_words atom) (length symbols) (length-map symbols (λ s. word.Symbol s)) in
    let behind = drop_at (map (λ s. word.Symbol s) symbols) (atom_words atom) (length symbols) (length-map symbols (λ s. word.Symbol s)) in
    ap (λ ws. gather_of fold (terms_from ws) (atom_from (drop (length symbols) (map (λ s. word.Symbol s) symbols ++ atom_words atom)))) (front ∙ sym same)
    ∙ (ap (λ ts. gather_of fold ts (atom_from (drop (length symbols) (map (λ s. word.Symbol s) symbols ++ atom_words atom)))) (terms_from-words terms)
    ∙ (ap (λ ws. gather_of fold (Some terms) (atom_from ws)) behind
    ∙ ap (gather_of fold (Some terms)) (atom_from-words atom)))

gather_from-words : (fold : FoldKind) (result value : Tree) (atom : Atom) → gather_from (word.Fold fold ∷ (term_words result ++ (term_words value ++ atom_words atom))) ≡ Some (Gather fold result value atom)
gather_from-words fold result value atom =
    let symbols : List Sym = flat result ++ flat value in
    let both : term_words result ++ term_words value ≡ map (λ s. word.Symbol s) symbols = sym (map-append (λ s. word.Symbol s) (flat result) (flat value)) in
    let joined : term_words result ++ (term_words value ++ atom_words atom) ≡ map (λ s. word.Symbol s) symbols ++ atom_words atom =
    sym (append_assoc (term_words result) (term_words value) (atom_words atom)) ∙ ap (λ ws. ws ++ atom_words atom) both in
    ap (λ ws. gather_at fold ws (position is_pred ws)) joined
    ∙ (ap (gather_at fold (map (λ s. word.Symbol s) symbols ++ atom_words atom)) (symbols_before symbols atom.pred (terms_words atom.args))
    ∙ gather_at-symbols fold symbols (result ∷ value ∷ []) atom (ap (λ ws. term_words result ++ ws) (append-nil (term_words value)) ∙ both))

pub node_from-words : (node : Node) → node_from (node_words node) ≡ Some node
node_from-words (Use clause count atom) = ap (option_map (λ a. Use clause count a)) (atom_from-words atom)
node_from-words (Compute atom) = ap (option_map (λ a. Compute a)) (atom_from-words atom)
node_from-words (Absent atom) = ap (option_map (λ a. Absent a)) (atom_from-words atom)
node_from-words (Gather fold result value atom) = gather_from-words fold result value atom
node_from-words (Split count) = refl
node_from-words (Branch clause) = refl
node_from-words Computed = refl
node_from-words Lacking = refl
node_from-words Present = refl
node_from-words Gathered = refl
node_from-words Ungathered = refl
node_from-words Success = refl
node_from-words Dead = refl

-- a node has at least one word
by_words : (P : List Word → Type 0) → ((w : Word) (ws : List Word) → P (w ∷ ws)) → (node : Node) → P (node_words node)
by_words P step (Use clause count atom) = step _ _
by_words P step (Compute atom) = step _ _
by_words P step (Absent atom) = step _ _
by_words P step (Gather fold result value atom) = step _ _
by_words P step (Split count) = step _ _
by_words P step (Branch clause) = step _ _
by_words P step Computed = step _ _
by_words P step Lacking = step _ _
by_words P step Present = step _ _
by_words P step Gathered = step _ _
by_words P step Ungathered = step _ _
by_words P step Success = step _ _
by_words P step Dead = step _ _

line_words-line : (node : Node) → IsSpellable node → line_words (node_line node) ≡ Some (node_words node)
line_words-line node =
    by_words (λ ws. AllByRecursion IsWord ws → words_from (slice_split (λ b. b == 32) (words_line ws)) ≡ Some ws)
    (λ w ws all. ap words_from (split_words w ws all) ∙ words_from-texts (w ∷ ws) all) node

pub node_of-line : (node : Node) → IsSpellable node → node_of (node_line node) ≡ Some node
unfolding node_of
node_of-line node all = ap (option_and_then node_from) (line_words-line node all) ∙ node_from-words node

spells : (line : List ℕ) (words : List Word) → SpellWords (slice_split (λ b. b == 32) line) words → (o : Option Node) → IfSome o (λ node. node_words node ≡ words) → IfSome o (SpellsNode line)
spells line words found None h = tt
spells line words found (Some node) h = record {
  spelled = ap words_line h ∙ (ap (join_with_byte 32) found.spelled ∙ join_with_byte-slice_split 32 line);
  in_range = subst (AllByRecursion IsWord) (sym h) found.in_range;
}

pub node_of-spells : (line : List ℕ) → IfSome (node_of line) (SpellsNode line)
unfolding node_of
node_of-spells line =
    chained (SpellsNode line) node_from (line_words line) (words_from-spells (slice_split (λ b. b == 32) line))
    (λ words found. spells line words found (node_from words) (node_from-spells words))

-- what is read is what the line spells
pub reads_node : (line : List ℕ) (o : Option Node) → o ≡ node_of line → ReadsNode line o
reads_node line (Some node) is = of_some (SpellsNode line) (node_of line) node (node_of-spells line) (sym is)
reads_node line None is = λ node spelled. cc (is, ap node_of (spelled.spelled), node_of-line node spelled.in_range)

-- the words of a line that is read are in their ranges
pub line_words-in_range : (line : List ℕ) (words : List Word) → line_words line ≡ Some words → AllByRecursion IsWord words
line_words-in_range line words is = of_some (λ ws. AllByRecursion IsWord ws) (line_words line) words (weaker (line_words line) (words_from-spells (slice_split (λ b. b == 32) line))) is
  where
    weaker : (o : Option (List Word)) → IfSome o (SpellWords (slice_split (λ b. b == 32) line)) → IfSome o (λ ws. AllByRecursion IsWord ws)
    weaker None h = tt
    weaker (Some ws) h = h.in_range

pub node_of-words : (line : List ℕ) (words : List Word) → line_words line ≡ Some words → node_from words ≡ node_of line
unfolding node_of
node_of-words line words is = sym (ap (option_and_then node_from) is)

pub node_of-no_words : (line : List ℕ) → line_words line ≡ None → None ≡ node_of line
unfolding node_of
node_of-no_words line is = sym (ap (option_and_then node_from) is)

-- the words of the pieces from a place on
puts-word : (xs : List Word) (w : Word) (o : Option (List Word)) → puts xs (followed (Some w) o) ≡ puts (xs ++ (w ∷ [])) o
puts-word xs w None = refl
puts-word xs w (Some ys) = ap Some (sym (append_assoc xs (w ∷ []) ys))

-- the pieces of bytes that have a space, and of bytes that have none
pub pieces_at : (bytes : List ℕ) (k : ℕ) → Some k ≡ position (λ b. b == 32) bytes → slice_split (λ b. b == 32) bytes ≡ take k bytes ∷ slice_split (λ b. b == 32) (drop (k + 1) bytes)
pieces_at bytes k is =
    let found = cond_some _ (position_or_len (λ b. b == 32) bytes) k (sym is) in
    let within : position_or_len (λ b. b == 32) bytes < length bytes = ltb-true _ _ found.0 in
    let P : ℕ → Type 0 = λ n. slice_split (λ b. b == 32) bytes ≡ take n bytes ∷ slice_split (λ b. b == 32) (drop (n + 1) bytes) in
    subst P found.1 (slice_split_first (λ b. b == 32) bytes 0 within)

whole_piece : (p : ℕ → Bool) (bytes : List ℕ) → length bytes ≤ position_or_len p bytes → slice_split p bytes ≡ bytes ∷ []
whole_piece p [] h = refl
whole_piece p (b ∷ bytes) h =
    ⊎_elim (λ passes. absurd (omega (arith, rw passes at h)))
    (λ (fails : p b ≡ false). slice_split-cons_no p b bytes fails ∙ ap (onto_first b) (whole_piece p bytes (omega (arith, rw fails at h))))
    (cases_Bool (p b))

pub piece_alone : (bytes : List ℕ) → None ≡ position (λ b. b == 32) bytes → slice_split (λ b. b == 32) bytes ≡ bytes ∷ []
piece_alone bytes is = whole_piece (λ b. b == 32) bytes (no_place (λ b. b == 32) bytes is)

-- the words from a place on, by its first piece
pub words_more : (bytes : List ℕ) (k : ℕ) (xs : List Word) (w : Word) → Some k ≡ position (λ b. b == 32) bytes → Some w ≡ word_of (take k bytes) → puts xs (line_words bytes) ≡ puts (xs ++ (w ∷ [])) (line_words (drop (k + 1) bytes))
words_more bytes k xs w at is =
    ap (λ ps. puts xs (words_from ps)) (pieces_at bytes k at)
    ∙ (ap (λ o. puts xs (followed o (line_words (drop (k + 1) bytes)))) (sym is) ∙ puts-word xs w _)

pub words_stop : (bytes : List ℕ) (k : ℕ) (xs : List Word) → Some k ≡ position (λ b. b == 32) bytes → None ≡ word_of (take k bytes) → puts xs (line_words bytes) ≡ None
words_stop bytes k xs at is =
    ap (λ ps. puts xs (words_from ps)) (pieces_at bytes k at) ∙ ap (λ o. puts xs (followed o (line_words (drop (k + 1) bytes)))) (sym is)

pub words_last : (bytes : List ℕ) (xs : List Word) (w : Word) → None ≡ position (λ b. b == 32) bytes → Some w ≡ word_of bytes → puts xs (line_words bytes) ≡ Some (xs ++ (w ∷ []))
words_last bytes xs w at is =
    ap (λ ps. puts xs (words_from ps)) (piece_alone bytes at) ∙ ap (λ o. puts xs (followed o (Some []))) (sym is)

pub words_none : (bytes : List ℕ) (xs : List Word) → None ≡ position (λ b. b == 32) bytes → None ≡ word_of bytes → puts xs (line_words bytes) ≡ None
words_none bytes xs at is =
    ap (λ ps. puts xs (words_from ps)) (piece_alone bytes at) ∙ ap (λ o. puts xs (followed o (Some []))) (sym is)
