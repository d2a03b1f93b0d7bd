-- The text of a derivation line by line, read and spelled.
use Rattle.std.proofs.Common.{⊎_elim, ◌≡◌, ℕ, zero, suc, ◌+◌, ◌^◌, ◌<◌, Bool, true, false, ◌==◌, nat_lt, List, [], ◌∷◌, ◌++◌, length, take, drop, Option, Some, None, option_map, option_and_then, position, refl, sym, ap, ◌∙◌, arith, IfSome, codes, append_assoc, append-nil, length-append}
use Rattle.std.proofs.lemmas.Bool.{cases_Bool, and_parts, and_from, lt-ltb, ltb-true, ne_eqb, eqb-true}
use Rattle.std.proofs.lemmas.List.{take_at, drop_at, drop-drop, length-take-le, nil_from_length}
use Rattle.std.proofs.lemmas.List.Folds.{list_all-append}
use Rattle.std.proofs.lemmas.Option.{cond_some}
use Rattle.std.specs.Fmt.{decimal}
use Rattle.std.specs.List.{AllByRecursion, list_all, position_or_len}
use Rattle.le_proofs.specs.declared.derivation.Derivation.{Derivation}
use Rattle.le_proofs.specs.declared.node.Node.{Node}
use Rattle.le_prooftext.specs.declared.word.Word.{Word}
use Rattle.le_prooftext.specs.Laws.{SpellsCount, SpellsNode, BeginsWithText, ReadsDerivation, TextsArePrefixFree}
use Rattle.le_prooftext.specs.Lines.{node_words, words_line, node_line, nodes_text, count_line, derivation_text, IsSpellable, AreSpellable}
use Rattle.le_prooftext.specs.Reading.{node_of, count_of, first_line, put_node, nodes_by, nodes_from, derivation_after, derivation_by, derivation_of}
use Rattle.le_prooftext.specs.Words.{word_text, IsWord}
use Rattle.le_prooftext.proofs.Counts.{count_of-some, count_of-line}
use Rattle.le_prooftext.proofs.NodeLemmas.{chained, node_of-line, node_of-spells, position_is}
use Rattle.le_prooftext.proofs.WordLemmas.{of_some, if_some, mapped, are_dark, dark-word, dark-decimal}

-- nodes and bytes before what is read after them
abbrev pub puts_nodes : List Node → ℕ → Option (List Node × ℕ) → Option (List Node × ℕ)
puts_nodes nodes bytes None = None
puts_nodes nodes bytes (Some read) = Some (nodes ++ read.0, bytes + read.1)

pub puts_nodes-start : (o : Option (List Node × ℕ)) → puts_nodes [] 0 o ≡ o
puts_nodes-start None = refl
puts_nodes-start (Some read) = let same : 0 + read.1 ≡ read.1 = omega arith in ap (λ n. Some (read.0, n)) same

pub puts_nodes-end : (nodes : List Node) (bytes : ℕ) → puts_nodes nodes bytes (Some ([], 0)) ≡ Some (nodes, bytes)
puts_nodes-end nodes bytes = let same : bytes + 0 ≡ bytes = omega arith in ap (λ ns. Some (ns, bytes + 0)) (append-nil nodes) ∙ ap (λ n. Some (nodes, n)) same

puts_nodes-put : (nodes : List Node) (bytes more : ℕ) (node : Node) (o : Option (List Node × ℕ)) → puts_nodes nodes bytes (put_node more (Some node) o) ≡ puts_nodes (nodes ++ (node ∷ [])) (bytes + more) o
puts_nodes-put nodes bytes more node None = refl
puts_nodes-put nodes bytes more node (Some read) =
    let same : bytes + (more + read.1) ≡ (bytes + more) + read.1 = omega arith in
    ap (λ ns. Some (ns, bytes + (more + read.1))) (sym (append_assoc nodes (node ∷ []) read.0)) ∙ ap (λ n. Some ((nodes ++ (node ∷ [])) ++ read.0, n)) same

pub first_line-at : (bytes : List ℕ) (k : ℕ) → Some k ≡ position (λ b. b == 10) bytes → first_line bytes ≡ Some (take k bytes)
unfolding first_line
first_line-at bytes k is = ap (option_map (λ n. take n bytes)) (sym is)

pub first_line-none : (bytes : List ℕ) → None ≡ position (λ b. b == 10) bytes → first_line bytes ≡ None
unfolding first_line
first_line-none bytes is = ap (option_map (λ n. take n bytes)) (sym is)

-- so many nodes, by the first of them
pub nodes_more : (bytes : List ℕ) (n m k at : ℕ) (nodes : List Node) (node : Node) → n ≡ suc m → Some k ≡ position (λ b. b == 10) bytes → k < length bytes → Some node ≡ node_of (take k bytes) → puts_nodes nodes at (nodes_from n bytes) ≡ puts_nodes (nodes ++ (node ∷ [])) (at + (k + 1)) (nodes_from m (drop (k + 1) bytes))
nodes_more bytes n m k at nodes node more here within is =
    let size : length (take k bytes) + 1 ≡ k + 1 = omega (arith, length-take-le k bytes (omega arith)) in
    ap (λ count. puts_nodes nodes at (nodes_from count bytes)) more
    ∙ (ap (λ line. puts_nodes nodes at (nodes_by line (λ l. nodes_from m (drop (length l + 1) bytes)))) (first_line-at bytes k here)
    ∙ (ap (λ o. puts_nodes nodes at (put_node (length (take k bytes) + 1) o (nodes_from m (drop (length (take k bytes) + 1) bytes)))) (sym is)
    ∙ (ap (λ count. puts_nodes nodes at (put_node count (Some node) (nodes_from m (drop count bytes)))) size
    ∙ puts_nodes-put nodes at (k + 1) node _)))

pub nodes_cut : (bytes : List ℕ) (n m at : ℕ) (nodes : List Node) → n ≡ suc m → None ≡ position (λ b. b == 10) bytes → puts_nodes nodes at (nodes_from n bytes) ≡ None
nodes_cut bytes n m at nodes more here =
    ap (λ count. puts_nodes nodes at (nodes_from count bytes)) more
    ∙ ap (λ line. puts_nodes nodes at (nodes_by line (λ l. nodes_from m (drop (length l + 1) bytes)))) (first_line-none bytes here)

pub nodes_stop : (bytes : List ℕ) (n m k at : ℕ) (nodes : List Node) → n ≡ suc m → Some k ≡ position (λ b. b == 10) bytes → None ≡ node_of (take k bytes) → puts_nodes nodes at (nodes_from n bytes) ≡ None
nodes_stop bytes n m k at nodes more here is =
    ap (λ count. puts_nodes nodes at (nodes_from count bytes)) more
    ∙ (ap (λ line. puts_nodes nodes at (nodes_by line (λ l. nodes_from m (drop (length l + 1) bytes)))) (first_line-at bytes k here)
    ∙ ap (λ o. puts_nodes nodes at (put_node (length (take k bytes) + 1) o (nodes_from m (drop (length (take k bytes) + 1) bytes)))) (sym is))

pub nodes_done : (bytes : List ℕ) (n at : ℕ) (nodes : List Node) → n ≡ 0 → puts_nodes nodes at (nodes_from n bytes) ≡ Some (nodes, at)
nodes_done bytes n at nodes none = ap (λ count. puts_nodes nodes at (nodes_from count bytes)) none ∙ puts_nodes-end nodes at

-- the derivation, by its first line
pub derivation_line : (bytes : List ℕ) (k : ℕ) → Some k ≡ position (λ b. b == 10) bytes → derivation_of bytes ≡ derivation_by bytes (take k bytes)
unfolding derivation_of
derivation_line bytes k here = ap (option_and_then (derivation_by bytes)) (first_line-at bytes k here)

pub derivation_cut : (bytes : List ℕ) → None ≡ position (λ b. b == 10) bytes → derivation_of bytes ≡ None
unfolding derivation_of
derivation_cut bytes here = ap (option_and_then (derivation_by bytes)) (first_line-none bytes here)

abbrev counted : ℕ → List ℕ → ℕ → Option (Derivation × ℕ)
counted size bytes n = option_map (derivation_after size) (nodes_from n (drop size bytes))

pub derivation_uncounted : (bytes : List ℕ) (k : ℕ) → Some k ≡ position (λ b. b == 10) bytes → None ≡ count_of (take k bytes) → derivation_of bytes ≡ None
derivation_uncounted bytes k here is =
    derivation_line bytes k here ∙ ap (option_and_then (counted (length (take k bytes) + 1) bytes)) (sym is)

pub derivation_counted : (bytes : List ℕ) (k n : ℕ) (read : Option (List Node × ℕ)) → Some k ≡ position (λ b. b == 10) bytes → k < length bytes → Some n ≡ count_of (take k bytes) → read ≡ nodes_from n (drop (k + 1) bytes) → derivation_of bytes ≡ option_map (derivation_after (k + 1)) read
derivation_counted bytes k n read here within is nodes =
    let size : length (take k bytes) + 1 ≡ k + 1 = omega (arith, length-take-le k bytes (omega arith)) in
    derivation_line bytes k here
    ∙ (ap (option_and_then (counted (length (take k bytes) + 1) bytes)) (sym is)
    ∙ (ap (λ count. counted count bytes n) size ∙ ap (option_map (derivation_after (k + 1))) (sym nodes)))

-- each byte is above an LF
abbrev are_above : List ℕ → Bool
are_above bytes = list_all (nat_lt 10) bytes

above-dark : (bytes : List ℕ) → are_dark bytes ≡ true → are_above bytes ≡ true
above-dark [] h = refl
above-dark (c ∷ cs) h =
    let parts = and_parts _ _ h in
    let above : 32 < c = ltb-true 32 c parts.0 in
    and_from _ _ (lt-ltb 10 c (omega arith)) (above-dark cs parts.1)

above-append : (xs ys : List ℕ) → are_above xs ≡ true → are_above ys ≡ true → are_above (xs ++ ys) ≡ true
above-append xs ys h k = list_all-append (nat_lt 10) xs ys ∙ and_from _ _ h k

above-words : (ws : List Word) → AllByRecursion IsWord ws → are_above (words_line ws) ≡ true
above-words [] h = refl
above-words (w ∷ []) h = above-dark (word_text w) (dark-word w h.0)
above-words (w ∷ v ∷ vs) h = above-append (word_text w) (32 ∷ words_line (v ∷ vs)) (above-dark (word_text w) (dark-word w h.0)) (above-words (v ∷ vs) h.1)

above-count : (n : ℕ) → n < 2 ^ 64 → are_above (count_line n) ≡ true
above-count n h = above-append (codes "derivation ") (decimal n) refl (above-dark (decimal n) (dark-decimal n h))

lf_place : (line rest : List ℕ) → are_above line ≡ true → position_or_len (λ b. b == 10) (line ++ (10 ∷ rest)) ≡ length line
lf_place [] rest h = refl
lf_place (c ∷ cs) rest h =
    let parts = and_parts _ _ h in
    let above : 10 < c = ltb-true 10 c parts.0 in
    let differs : (c == 10) ≡ false = ne_eqb c 10 (λ (e : c ≡ 10). omega arith) in
    rw differs (omega (arith, lf_place cs rest parts.1))

-- the first line of a text is the one before its first LF
pub first_line-is : (line rest : List ℕ) → are_above line ≡ true → first_line (line ++ (10 ∷ rest)) ≡ Some line
first_line-is line rest h =
    first_line-at (line ++ (10 ∷ rest)) (length line) (sym (position_is (λ b. b == 10) (line ++ (10 ∷ rest)) (length line) (lf_place line rest h) (omega (arith, length-append line (10 ∷ rest)))))
    ∙ ap Some (take_at line (10 ∷ rest) (length line) refl)

pub after_line : (line rest : List ℕ) → drop (length line + 1) (line ++ (10 ∷ rest)) ≡ rest
after_line line rest = sym (drop-drop 1 (length line) (line ++ (10 ∷ rest))) ∙ ap (drop 1) (drop_at line (10 ∷ rest) (length line) refl)

-- the lines of nodes read back, whatever follows
pub nodes_from-text : (nodes : List Node) (rest : List ℕ) → AllByRecursion IsSpellable nodes → nodes_from (length nodes) (nodes_text nodes ++ rest) ≡ Some (nodes, length (nodes_text nodes))
nodes_from-text [] rest h = refl
nodes_from-text (node ∷ nodes) rest h =
    let line = node_line node in
    let behind = nodes_text nodes ++ rest in
    let size : (length (node_line node) + 1) + length (nodes_text nodes) ≡ length (node_line node ++ (10 ∷ nodes_text nodes)) = omega (arith, length-append (node_line node) (10 ∷ nodes_text nodes)) in
    ap (nodes_from (suc (length nodes))) (append_assoc line (10 ∷ nodes_text nodes) rest)
    ∙ (ap (λ o. nodes_by o (λ l. nodes_from (length nodes) (drop (length l + 1) (line ++ (10 ∷ behind))))) (first_line-is line behind (above-words (node_words node) h.0))
    ∙ (ap (λ o. put_node (length line + 1) o (nodes_from (length nodes) (drop (length line + 1) (line ++ (10 ∷ behind))))) (node_of-line node h.0)
    ∙ (ap (λ bytes. put_node (length line + 1) (Some node) (nodes_from (length nodes) bytes)) (after_line line behind)
    ∙ (ap (put_node (length line + 1) (Some node)) (nodes_from-text nodes rest h.1)
    ∙ ap (λ n. Some (node ∷ nodes, n)) size))))

pub derivation_of-text : (derivation : Derivation) (rest : List ℕ) → AreSpellable derivation.nodes → derivation_of (derivation_text derivation.nodes ++ rest) ≡ Some (derivation, length (derivation_text derivation.nodes))
unfolding derivation_of
derivation_of-text derivation rest h =
    let nodes = derivation.nodes in
    let line = count_line (length derivation.nodes) in
    let behind = nodes_text nodes ++ rest in
    let size : (length (count_line (length derivation.nodes)) + 1) + length (nodes_text derivation.nodes) ≡ length (derivation_text derivation.nodes) = omega (arith, length-append (count_line (length derivation.nodes)) (10 ∷ nodes_text derivation.nodes)) in
    ap derivation_of (append_assoc line (10 ∷ nodes_text nodes) rest)
    ∙ (ap (option_and_then (derivation_by (line ++ (10 ∷ behind)))) (first_line-is line behind (above-count (length nodes) h.0))
    ∙ (ap (option_and_then (counted (length line + 1) (line ++ (10 ∷ behind)))) (count_of-line (length nodes) h.0)
    ∙ (ap (λ bytes. option_map (derivation_after (length line + 1)) (nodes_from (length nodes) bytes)) (after_line line behind)
    ∙ (ap (option_map (derivation_after (length line + 1))) (nodes_from-text nodes rest h.1)
    ∙ ap (λ n. Some (derivation, n)) size))))

-- some bytes are a line, an LF and what follows
cut_at : (bytes : List ℕ) (n : ℕ) → position_or_len (λ b. b == 10) bytes ≡ n → n < length bytes → bytes ≡ take n bytes ++ (10 ∷ drop (suc n) bytes)
cut_at [] n is h = absurd (omega arith)
cut_at (b ∷ bytes) zero is h =
    ⊎_elim (λ (passes : (b == 10) ≡ true). ap (λ x. x ∷ bytes) (eqb-true b 10 passes))
    (λ (fails : (b == 10) ≡ false). absurd (omega (arith, rw fails at is)))
    (cases_Bool (b == 10))
cut_at (b ∷ bytes) (suc n) is h =
    ⊎_elim (λ (passes : (b == 10) ≡ true). absurd (omega (arith, rw passes at is)))
    (λ (fails : (b == 10) ≡ false). ap (λ bs. b ∷ bs) (cut_at bytes n (omega (arith, rw fails at is)) (omega arith)))
    (cases_Bool (b == 10))

abbrev IsCut : List ℕ → List ℕ → Type 0
IsCut bytes line = bytes ≡ line ++ (10 ∷ drop (length line + 1) bytes)

cut : (bytes : List ℕ) (k : ℕ) → position (λ b. b == 10) bytes ≡ Some k → IsCut bytes (take k bytes)
cut bytes k is =
    let found = cond_some _ (position_or_len (λ b. b == 10) bytes) k is in
    let within : position_or_len (λ b. b == 10) bytes < length bytes = ltb-true _ _ found.0 in
    let short : k < length bytes = omega (arith, found.1) in
    let size : suc k ≡ length (take k bytes) + 1 = omega (arith, length-take-le k bytes (omega arith)) in
    cut_at bytes k found.1 short ∙ ap (λ n. take k bytes ++ (10 ∷ drop n bytes)) size

first_line-cut : (bytes : List ℕ) → IfSome (first_line bytes) (IsCut bytes)
unfolding first_line
first_line-cut bytes = mapped (IsCut bytes) (λ k. take k bytes) (position (λ b. b == 10) bytes) (if_some (position (λ b. b == 10) bytes) (λ k is. is)) (λ k is. cut bytes k is)

-- some bytes begin with the lines of so many nodes
record NodesBegin (n : ℕ) (bytes : List ℕ) (read : List Node × ℕ) : Type 0 where
  rest : List ℕ
  spelled : nodes_text read.0 ++ rest ≡ bytes
  count : length read.0 ≡ n
  size : length (nodes_text read.0) ≡ read.1
  in_range : AllByRecursion IsSpellable read.0

put_begin : (n : ℕ) (bytes line behind : List ℕ) → bytes ≡ line ++ (10 ∷ behind) → (o : Option Node) → IfSome o (SpellsNode line) → (r : Option (List Node × ℕ)) → IfSome r (NodesBegin n behind) → IfSome (put_node (length line + 1) o r) (NodesBegin (suc n) bytes)
put_begin n bytes line behind is None h r k = tt
put_begin n bytes line behind is (Some node) h None k = tt
put_begin n bytes line behind is (Some node) h (Some read) k = record {
  rest = k.rest;
  spelled = append_assoc (node_line node) (10 ∷ nodes_text read.0) k.rest ∙ (ap (λ bs. node_line node ++ (10 ∷ bs)) k.spelled ∙ (ap (λ l. l ++ (10 ∷ behind)) h.spelled ∙ sym is));
  count = ap suc k.count;
  size = omega (arith, length-append (node_line node) (10 ∷ nodes_text read.0), k.size, ap length h.spelled);
  in_range = (h.in_range, k.in_range);
}

by_begin : (n : ℕ) (bytes : List ℕ) (others : List ℕ → Option (List Node × ℕ)) → ((line : List ℕ) → IfSome (others line) (NodesBegin n (drop (length line + 1) bytes))) → (o : Option (List ℕ)) → IfSome o (IsCut bytes) → IfSome (nodes_by o others) (NodesBegin (suc n) bytes)
by_begin n bytes others below None h = tt
by_begin n bytes others below (Some line) h = put_begin n bytes line (drop (length line + 1) bytes) h (node_of line) (node_of-spells line) (others line) (below line)

nodes_begin : (n : ℕ) (bytes : List ℕ) → IfSome (nodes_from n bytes) (NodesBegin n bytes)
nodes_begin zero bytes = record { rest = bytes; spelled = refl; count = refl; size = refl; in_range = tt }
nodes_begin (suc n) bytes =
    by_begin n bytes (λ line. nodes_from n (drop (length line + 1) bytes)) (λ line. nodes_begin n (drop (length line + 1) bytes)) (first_line bytes) (first_line-cut bytes)

begins : (bytes line : List ℕ) (n : ℕ) (read : List Node × ℕ) → IsCut bytes line → SpellsCount line n → NodesBegin n (drop (length line + 1) bytes) read → BeginsWithText bytes (derivation_after (length line + 1) read)
begins bytes line n read cut_off counted_line found =
    let same : count_line (length read.0) ≡ line = ap count_line found.count ∙ counted_line.spelled in
    record {
      rest = found.rest;
      spelled = append_assoc (count_line (length read.0)) (10 ∷ nodes_text read.0) found.rest
          ∙ (ap (λ bs. count_line (length read.0) ++ (10 ∷ bs)) found.spelled
          ∙ (ap (λ l. l ++ (10 ∷ drop (length line + 1) bytes)) same ∙ sym cut_off));
      size = omega (arith, length-append (count_line (length read.0)) (10 ∷ nodes_text read.0), found.size, ap length same);
      in_range = (omega (arith, found.count, counted_line.in_range), found.in_range);
    }

derivation_begins : (bytes : List ℕ) → IfSome (derivation_of bytes) (BeginsWithText bytes)
unfolding derivation_of
derivation_begins bytes =
    chained (BeginsWithText bytes) (derivation_by bytes) (first_line bytes) (first_line-cut bytes) (λ line cut_off.
    chained (BeginsWithText bytes) (counted (length line + 1) bytes) (count_of line) (if_some (count_of line) (count_of-some line)) (λ n counted_line.
    mapped (BeginsWithText bytes) (derivation_after (length line + 1)) (nodes_from n (drop (length line + 1) bytes)) (nodes_begin n (drop (length line + 1) bytes))
    (λ read found. begins bytes line n read cut_off counted_line found)))

pub derivation_of-begins : (bytes : List ℕ) (read : Derivation × ℕ) → derivation_of bytes ≡ Some read → BeginsWithText bytes read
derivation_of-begins bytes read is = of_some (BeginsWithText bytes) (derivation_of bytes) read (derivation_begins bytes) is

pub begins-derivation_of : (bytes : List ℕ) (read : Derivation × ℕ) → BeginsWithText bytes read → derivation_of bytes ≡ Some read
begins-derivation_of bytes read found =
    ap derivation_of (sym (found.spelled)) ∙ (derivation_of-text read.0 found.rest found.in_range ∙ ap (λ n. Some (read.0, n)) found.size)

-- what is read is what the bytes begin with
pub reads_derivation : (bytes : List ℕ) (o : Option (Derivation × ℕ)) → o ≡ derivation_of bytes → ReadsDerivation bytes o
reads_derivation bytes (Some read) is = derivation_of-begins bytes read (sym is)
reads_derivation bytes None is = λ read found. cc (is, begins-derivation_of bytes read found)

same_read : (nodes others : List Node) (rest : List ℕ) → AreSpellable nodes → AreSpellable others → derivation_text nodes ++ rest ≡ derivation_text others → nodes ≡ others
same_read nodes others rest h k same =
    let one : Derivation = record { nodes = nodes } in
    let other : Derivation = record { nodes = others } in
    let first = derivation_of-text one rest h in
    let second = derivation_of-text other [] k in
    let both : derivation_text nodes ++ rest ≡ derivation_text others ++ [] = same ∙ sym (append-nil (derivation_text others)) in
    let equal : Some (one, length (derivation_text nodes)) ≡ Some (other, length (derivation_text others)) = sym first ∙ (ap derivation_of both ∙ second) in
    let read : Option (Derivation × ℕ) → List Node = λ o. nodes_of o in
    ap read equal
  where
    nodes_of : Option (Derivation × ℕ) → List Node
    nodes_of None = []
    nodes_of (Some found) = found.0.nodes

pub prefix_free : TextsArePrefixFree
prefix_free = record {
  same = same_read;
  nothing_left = λ nodes others rest h k same.
      nil_from_length rest (omega (arith, length-append (derivation_text nodes) rest, ap length same, ap (λ ns. length (derivation_text ns)) (same_read nodes others rest h k same)));
}
