-- Each word's text reads back, what is read is spelled so, and no text of a word has a space or an LF.
use Rattle.std.proofs.Common.{◌≡◌, ℕ, suc, ◌^◌, ◌<◌, ◌≤◌, Bool, true, false, ◌==◌, nat_lt, List, [], ◌∷◌, ◌++◌, map, length, Option, Some, None, option_map, ℤ, pos, negsuc, refl, sym, ap, subst, ◌∙◌, arith, IfSome, codes, slice_index, drop, find}
use Rattle.std.proofs.lemmas.Bool.{cond_both, and_parts, and_from, eqb-true, lt-ltb, ltb-true, leb-true, ne_eqb}
use Rattle.std.proofs.lemmas.Fmt.{digits_decimal, decimal_nonempty}
use Rattle.std.proofs.lemmas.List.Splits.{slice_split-cons_no}
use Rattle.std.specs.Char.{is_ascii_digit}
use Rattle.std.specs.Fmt.{decimal, signed_decimal}
use Rattle.std.specs.List.{list_all, slice_split, onto_first, join_with_byte, AllByRecursion}
use Rattle.std.specs.Str.{bytes_eq}
use Rattle.le_base.specs.declared.stop.FoldKind.{FoldKind}
use Rattle.le_base.specs.declared.stop.FoldKind.TheVariants.{Sum, Number, Greatest}
use Rattle.le_terms.specs.declared.term.Sym.{Sym}
use Rattle.le_terms.specs.declared.term.Sym.TheVariants.{Name, Num, Day, Var, Nil, Cons}
use Rattle.le_base.specs.Ranges.{IsNumber, IsDay}
use Rattle.le_values.proofs.NumberLemmas.{numerals}
use Rattle.le_values.specs.Numbers.{number_of}
use Rattle.std.proofs.lemmas.Int.{ints}
use Rattle.le_prooftext.specs.declared.word.NodeKind.{NodeKind}
use Rattle.le_prooftext.specs.declared.word.NodeKind.TheVariants as kind
use Rattle.le_prooftext.specs.declared.word.Word.{Word}
use Rattle.le_prooftext.specs.declared.word.Word.TheVariants as word
use Rattle.le_prooftext.specs.Words.{kind_text, fold_text, symbol_text, word_text, greatest_small, IsSymbol, IsWord}
use Rattle.le_prooftext.specs.Reading.{natural_of, small_of, whole_of, day_of, lettered, kind_of, fold_of, list_symbol, fixed_of, word_of, or_else, all_kinds, followed, words_from}
use Rattle.le_prooftext.proofs.Numbers.{not_some, same_bytes, small_of-decimal, small_of-some, whole_of-decimal, whole_of-some, day_of-decimal, day_of-some}

-- a fact of what is there
pub if_some : {X : Type 0} {P : X → Type 0} (o : Option X) → ((x : X) → o ≡ Some x → P x) → IfSome o P
if_some None h = tt
if_some (Some x) h = h x refl

pub of_some : {X : Type 0} (P : X → Type 0) (o : Option X) (x : X) → IfSome o P → o ≡ Some x → P x
of_some P o x h is = let Q : Option _ → Type 0 = λ p. IfSome p P in subst Q is h

pub mapped : {X Y : Type 0} {P : X → Type 0} (Q : Y → Type 0) (f : X → Y) (o : Option X) → IfSome o P → ((x : X) → P x → Q (f x)) → IfSome (option_map f o) Q
mapped Q f None h step = tt
mapped Q f (Some x) h step = step x h

either : (P : Word → Type 0) (a b : Option Word) → IfSome a P → IfSome b P → IfSome (or_else a b) P
either P None b h k = k
either P (Some w) b h k = h

-- the first that passes passes
find_passes : {X : Type 0} (p : X → Bool) (xs : List X) → IfSome (find p xs) (λ x. p x ≡ true)
find_passes p [] = tt
find_passes p (x ∷ xs) = cond_both (p x) (Some x) (find p xs) (λ o. IfSome o (λ y. p y ≡ true)) (λ passes. passes) (λ fails. find_passes p xs)

-- a word is spelled by some bytes
pub record SpellsWord (bytes : List ℕ) (w : Word) : Type 0 where
  pub spelled : word_text w ≡ bytes
  pub in_range : IsWord w

small : (bytes : List ℕ) → IfSome (small_of bytes) (λ n. (decimal n ≡ bytes) × (n ≤ greatest_small))
small bytes = if_some (small_of bytes) (small_of-some bytes)

whole : (bytes : List ℕ) → IfSome (whole_of bytes) (λ z. (signed_decimal z ≡ bytes) × IsNumber z)
whole bytes = if_some (whole_of bytes) (whole_of-some bytes)

day : (bytes : List ℕ) → IfSome (day_of bytes) (λ z. (signed_decimal z ≡ bytes) × IsDay z)
day bytes = if_some (day_of bytes) (day_of-some bytes)

behind : (n : ℕ) (letter : ℕ) (digits bytes : List ℕ) → (letter == n) ≡ true → digits ≡ bytes → n ∷ digits ≡ letter ∷ bytes
behind n letter digits bytes is same = let e : letter ≡ n = eqb-true letter n is in cc

lettered_spells : (letter : ℕ) (bytes : List ℕ) → IfSome (lettered letter bytes) (SpellsWord (letter ∷ bytes))
unfolding lettered
lettered_spells letter bytes =
    let P : Option Word → Type 0 = λ o. IfSome o (SpellsWord (letter ∷ bytes)) in
    cond_both (letter == 110) _ _ P (λ is. mapped (SpellsWord (letter ∷ bytes)) _ _ (small bytes) (λ n found. record { spelled = behind 110 letter (decimal n) bytes is found.0; in_range = found.1 }))
    (λ _. cond_both (letter == 105) _ _ P (λ is. mapped (SpellsWord (letter ∷ bytes)) _ _ (whole bytes) (λ z found. record { spelled = behind 105 letter (signed_decimal z) bytes is found.0; in_range = found.1 }))
    (λ _. cond_both (letter == 100) _ _ P (λ is. mapped (SpellsWord (letter ∷ bytes)) _ _ (day bytes) (λ z found. record { spelled = behind 100 letter (signed_decimal z) bytes is found.0; in_range = found.1 }))
    (λ _. cond_both (letter == 118) _ _ P (λ is. mapped (SpellsWord (letter ∷ bytes)) _ _ (small bytes) (λ n found. record { spelled = behind 118 letter (decimal n) bytes is found.0; in_range = found.1 }))
    (λ _. cond_both (letter == 112) _ _ P (λ is. mapped (SpellsWord (letter ∷ bytes)) _ _ (small bytes) (λ n found. record { spelled = behind 112 letter (decimal n) bytes is found.0; in_range = found.1 }))
    (λ _. tt)))))

fixed_spells : (bytes : List ℕ) → IfSome (fixed_of bytes) (SpellsWord bytes)
unfolding fixed_of kind_of fold_of list_symbol
fixed_spells bytes =
    let P : Option Word → Type 0 = λ o. IfSome o (SpellsWord bytes) in
    either (SpellsWord bytes) _ _
    (cond_both (bytes_eq bytes (codes "e")) _ _ P (λ is. record { spelled = sym (same_bytes bytes (codes "e") is); in_range = tt })
    (λ _. cond_both (bytes_eq bytes (codes "c")) _ _ P (λ is. record { spelled = sym (same_bytes bytes (codes "c") is); in_range = tt }) (λ _. tt)))
    (either (SpellsWord bytes) _ _
    (mapped (SpellsWord bytes) _ _ (find_passes (λ k. bytes_eq (kind_text k) bytes) all_kinds) (λ k passes. record { spelled = same_bytes _ _ passes; in_range = tt }))
    (mapped (SpellsWord bytes) _ _ (find_passes (λ f. bytes_eq (fold_text f) bytes) (Sum ∷ Number ∷ Greatest ∷ [])) (λ f passes. record { spelled = same_bytes _ _ passes; in_range = tt })))

letters : (bytes : List ℕ) → IfSome (lettered (slice_index bytes 0) (drop 1 bytes)) (SpellsWord bytes)
unfolding lettered
letters [] = tt
letters (c ∷ cs) = lettered_spells c cs

pub word_of-spells : (bytes : List ℕ) → IfSome (word_of bytes) (SpellsWord bytes)
unfolding word_of
word_of-spells bytes =
    either (SpellsWord bytes) _ _ (mapped (SpellsWord bytes) _ _ (small bytes) (λ n found. record { spelled = found.0; in_range = found.1 }))
    (either (SpellsWord bytes) _ _ (letters bytes) (fixed_spells bytes))

-- a number doesn't begin with a letter
small_of-letter : (c : ℕ) (cs : List ℕ) → is_ascii_digit c ≡ false → small_of (c ∷ cs) ≡ None
unfolding small_of natural_of
small_of-letter c cs h = rw h refl

word_of-kind : (k : NodeKind) → word_of (kind_text k) ≡ Some (word.Kind k)
unfolding word_of lettered fixed_of kind_of fold_of list_symbol small_of natural_of whole_of day_of number_of
word_of-kind kind.Use = refl
word_of-kind kind.Compute = refl
word_of-kind kind.Absent = refl
word_of-kind kind.Gather = refl
word_of-kind kind.Split = refl
word_of-kind kind.Branch = refl
word_of-kind kind.Computed = refl
word_of-kind kind.Lacking = refl
word_of-kind kind.Present = refl
word_of-kind kind.Gathered = refl
word_of-kind kind.Ungathered = refl
word_of-kind kind.Success = refl
word_of-kind kind.Dead = refl

word_of-fold : (f : FoldKind) → word_of (fold_text f) ≡ Some (word.Fold f)
unfolding word_of lettered fixed_of kind_of fold_of list_symbol small_of natural_of whole_of day_of number_of
word_of-fold Sum = refl
word_of-fold Number = refl
word_of-fold Greatest = refl

word_of-symbol : (s : Sym) → IsSymbol s → word_of (symbol_text s) ≡ Some (word.Symbol s)
unfolding word_of lettered fixed_of kind_of fold_of list_symbol
word_of-symbol (Name n) h = rw (small_of-letter 110 (decimal n) refl, small_of-decimal n h) refl
word_of-symbol (Num z) h = rw (small_of-letter 105 (signed_decimal z) refl, whole_of-decimal z h) refl
word_of-symbol (Day d) h = rw (small_of-letter 100 (signed_decimal d) refl, day_of-decimal d h) refl
word_of-symbol (Var v) h = rw (small_of-letter 118 (decimal v) refl, small_of-decimal v h) refl
word_of-symbol Nil h = rw (small_of-letter 101 [] refl) refl
word_of-symbol Cons h = rw (small_of-letter 99 [] refl) refl

small_of-empty : small_of [] ≡ None
small_of-empty = not_some (small_of []) (λ n is. let found = small_of-some [] n is in let some = decimal_nonempty n (omega arith) in absurd (omega (arith, ap length found.0)))

pub word_of-empty : word_of [] ≡ None
unfolding word_of lettered fixed_of kind_of fold_of list_symbol
word_of-empty = rw small_of-empty refl

pub word_of-text : (w : Word) → IsWord w → word_of (word_text w) ≡ Some w
unfolding word_of lettered
word_of-text (word.Kind k) h = word_of-kind k
word_of-text (word.Fold f) h = word_of-fold f
word_of-text (word.Count n) h = rw (small_of-decimal n h) refl
word_of-text (word.Pred p) h = rw (small_of-letter 112 (decimal p) refl, small_of-decimal p h) refl
word_of-text (word.Symbol s) h = word_of-symbol s h

-- each byte is above a space
abbrev pub are_dark : List ℕ → Bool
are_dark bytes = list_all (nat_lt 32) bytes

dark-digits : (ds : List ℕ) → list_all is_ascii_digit ds ≡ true → are_dark ds ≡ true
dark-digits [] h = refl
dark-digits (c ∷ cs) h =
    let parts = and_parts _ _ h in
    let low : 48 ≤ c = leb-true _ _ (and_parts _ _ parts.0).0 in
    and_from _ _ (lt-ltb 32 c (omega arith)) (dark-digits cs parts.1)

pub dark-decimal : (n : ℕ) → n < 2 ^ 64 → are_dark (decimal n) ≡ true
dark-decimal n h = dark-digits (decimal n) (digits_decimal numerals n h)

dark-signed : (z : ℤ) → IsNumber z → are_dark (signed_decimal z) ≡ true
dark-signed (pos n) h = dark-decimal n (omega (arith, ints))
dark-signed (negsuc n) h = dark-decimal (suc n) (omega (arith, ints))

dark-kind : (k : NodeKind) → are_dark (kind_text k) ≡ true
dark-kind kind.Use = refl
dark-kind kind.Compute = refl
dark-kind kind.Absent = refl
dark-kind kind.Gather = refl
dark-kind kind.Split = refl
dark-kind kind.Branch = refl
dark-kind kind.Computed = refl
dark-kind kind.Lacking = refl
dark-kind kind.Present = refl
dark-kind kind.Gathered = refl
dark-kind kind.Ungathered = refl
dark-kind kind.Success = refl
dark-kind kind.Dead = refl

dark-fold : (f : FoldKind) → are_dark (fold_text f) ≡ true
dark-fold Sum = refl
dark-fold Number = refl
dark-fold Greatest = refl

dark-symbol : (s : Sym) → IsSymbol s → are_dark (symbol_text s) ≡ true
dark-symbol (Name n) h = dark-decimal n (omega arith)
dark-symbol (Num z) h = dark-signed z h
dark-symbol (Day d) h = dark-signed d (omega (arith, ints, h.0), omega (arith, ints, h.1))
dark-symbol (Var v) h = dark-decimal v (omega arith)
dark-symbol Nil h = refl
dark-symbol Cons h = refl

pub dark-word : (w : Word) → IsWord w → are_dark (word_text w) ≡ true
dark-word (word.Kind k) h = dark-kind k
dark-word (word.Fold f) h = dark-fold f
dark-word (word.Count n) h = dark-decimal n (omega arith)
dark-word (word.Pred p) h = dark-decimal p (omega arith)
dark-word (word.Symbol s) h = dark-symbol s h

abbrev is_space : ℕ → Bool
is_space b = b == 32

not_space : (c : ℕ) → nat_lt 32 c ≡ true → (c == 32) ≡ false
not_space c h = let above : 32 < c = ltb-true 32 c h in ne_eqb c 32 (λ (e : c ≡ 32). omega arith)

split_alone : (text : List ℕ) → are_dark text ≡ true → slice_split is_space text ≡ text ∷ []
split_alone [] h = refl
split_alone (c ∷ cs) h =
    let parts = and_parts _ _ h in
    slice_split-cons_no is_space c cs (not_space c parts.0) ∙ ap (onto_first c) (split_alone cs parts.1)

split_before : (text rest : List ℕ) → are_dark text ≡ true → slice_split is_space (text ++ (32 ∷ rest)) ≡ text ∷ slice_split is_space rest
split_before [] rest h = refl
split_before (c ∷ cs) rest h =
    let parts = and_parts _ _ h in
    slice_split-cons_no is_space c (cs ++ (32 ∷ rest)) (not_space c parts.0) ∙ ap (onto_first c) (split_before cs rest parts.1)

-- a line of words is cut into the words' texts
pub split_words : (w : Word) (ws : List Word) → AllByRecursion IsWord (w ∷ ws) → slice_split (λ b. b == 32) (join_with_byte 32 (map word_text (w ∷ ws))) ≡ map word_text (w ∷ ws)
split_words w [] h = split_alone (word_text w) (dark-word w h.0)
split_words w (v ∷ vs) h =
    split_before (word_text w) (join_with_byte 32 (map word_text (v ∷ vs))) (dark-word w h.0)
    ∙ ap (λ texts. word_text w ∷ texts) (split_words v vs h.1)

pub words_from-texts : (ws : List Word) → AllByRecursion IsWord ws → words_from (map word_text ws) ≡ Some ws
words_from-texts [] h = refl
words_from-texts (w ∷ ws) h = rw (word_of-text w h.0, words_from-texts ws h.1) refl

-- pieces are the texts of words in their ranges
pub record SpellWords (pieces : List (List ℕ)) (ws : List Word) : Type 0 where
  pub spelled : map word_text ws ≡ pieces
  pub in_range : AllByRecursion IsWord ws

followed_spells : (piece : List ℕ) (pieces : List (List ℕ)) (o : Option Word) (p : Option (List Word)) → IfSome o (SpellsWord piece) → IfSome p (SpellWords pieces) → IfSome (followed o p) (SpellWords (piece ∷ pieces))
followed_spells piece pieces None p h k = tt
followed_spells piece pieces (Some w) None h k = tt
followed_spells piece pieces (Some w) (Some ws) h k = record {
  spelled = ap (λ text. text ∷ map word_text ws) h.spelled ∙ ap (λ texts. piece ∷ texts) k.spelled;
  in_range = (h.in_range, k.in_range);
}

pub words_from-spells : (pieces : List (List ℕ)) → IfSome (words_from pieces) (SpellWords pieces)
words_from-spells [] = record { spelled = refl; in_range = tt }
words_from-spells (piece ∷ pieces) = followed_spells piece pieces (word_of piece) (words_from pieces) (word_of-spells piece) (words_from-spells pieces)
