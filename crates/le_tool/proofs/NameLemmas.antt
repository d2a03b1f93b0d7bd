-- The names of scenarios and queries are texts of one line: words joined by spaces.
use Rattle.std.proofs.Common.{◌≡◌, ℕ, ◌+◌, ◌-◌, ◌<◌, ◌≤◌, ◌==◌, ◌&&◌, ◌||◌, zero, suc, min, Bool, true, false, not, List, [], ◌∷◌, ◌++◌, map, flat_map, length, length-append, length-take, drop, take, chars, slice_index, IsUtf8, refl, sym, ap, subst, ◌∙◌, true≢false, arith}
use Rattle.std.specs.Char.{encode_utf8}
use Rattle.std.specs.Str.{encode_utf8_all}
use Rattle.std.specs.List.{AllByRecursion, list_all}
use Rattle.std.specs.Char.{is_ascii_digit}
use Rattle.std.proofs.lemmas.Bool.{and_parts, ne_eqb}
use Rattle.std.proofs.lemmas.List.{length-drop}
use Rattle.std.proofs.lemmas.Str.{IsUtf8-append, IsUtf8-from_ascii, IsUtf8-nil, encodes-chars}
use Rattle.le_layout.specs.declared.span.Span.{Span}
use Rattle.le_layout.specs.declared.token.Kind.{Kind}
use Rattle.le_layout.specs.declared.token.Kind.TheVariants as kinds
use Rattle.le_layout.specs.declared.token.Token.{Token}
use Rattle.le_layout.specs.declared.layout.Layout.{Layout}
use Rattle.le_layout.specs.Characters.{is_word_character}
use Rattle.le_layout.specs.Layout.{IsTokenIn}
use Rattle.le_layout.specs.Pieces.{is_word as is_word_of, all_go_on, goes_on, joins}
use Rattle.le_layout.specs.Words.{is_word, text_of, tokens_of, spaced}
use Rattle.le_layout.specs.Written.{IsWordText, IsWrittenAs}
use Rattle.le_layout.proofs.PieceLemmas.{lf_no_word}
use Rattle.le_layout.proofs.WordLemmas.{goes_on-cases}
use Rattle.le_bundle.specs.Written.{is_line, IsName}
use Rattle.le_tool.proofs.UnmarkedLemmas.{NoEnd, no_end, encoded}

-- ---- a word has no LF

first_no_lf : (a : ℕ) → is_word_character a ≡ true → a ≡ 10 → ⊥
first_no_lf a test e = true≢false (sym test ∙ (ap is_word_character e ∙ lf_no_word))

join_no_lf : (a b : ℕ) (bs : List ℕ) → joins a b bs ≡ true → b ≡ 10 → ⊥
unfolding joins
join_no_lf a b [] test e = true≢false (sym test)
join_no_lf a b (c ∷ cs) test e = true≢false (sym test ∙ ap (λ d. ((d == 46) && is_word_character c) || ((d == 44) && (is_ascii_digit a && is_ascii_digit c))) e)

next_no_lf : (a b : ℕ) (bs : List ℕ) → goes_on a (b ∷ bs) ≡ true → b ≡ 10 → ⊥
next_no_lf a b bs test e = by (is_word_character b) refl (sym (goes_on-cases a b bs) ∙ test)
  where
    by : (x : Bool) → is_word_character b ≡ x → (x || joins a b bs) ≡ true → ⊥
    by true word any = first_no_lf b word e
    by false other any = join_no_lf a b bs any e

rest_no_lf : (a : ℕ) (bs : List ℕ) → all_go_on a bs ≡ true → AllByRecursion (λ c. c ≡ 10 → ⊥) bs
rest_no_lf a [] test = tt
rest_no_lf a (b ∷ bs) test = let both = and_parts (goes_on a (b ∷ bs)) (all_go_on b bs) test in (next_no_lf a b bs both.0, rest_no_lf b bs both.1)

word_no_lf : (cs : List ℕ) → is_word_of cs ≡ true → AllByRecursion (λ c. c ≡ 10 → ⊥) cs
word_no_lf [] test = absurd (true≢false (sym test))
word_no_lf (a ∷ bs) test = let both = and_parts (is_word_character a) (all_go_on a bs) test in (first_no_lf a both.0, rest_no_lf a bs both.1)

-- ---- bytes

both_no_end : (xs ys : List ℕ) → NoEnd xs → NoEnd ys → NoEnd (xs ++ ys)
both_no_end [] ys h k = k
both_no_end (x ∷ xs) ys h k = (h.0, both_no_end xs ys h.1 k)

encoded_no_end : (cs : List ℕ) → AllByRecursion (λ c. c ≡ 10 → ⊥) cs → NoEnd (encode_utf8_all cs)
encoded_no_end [] h = tt
encoded_no_end (c ∷ cs) h = both_no_end (encode_utf8 c) (encode_utf8_all cs) (no_end c h.0) (encoded_no_end cs h.1)

encoded_some : (cs : List ℕ) → is_word_of cs ≡ true → 0 < length (encode_utf8_all cs)
encoded_some [] test = absurd (true≢false (sym test))
encoded_some (c ∷ cs) test = omega (arith, encoded c, length-append (encode_utf8 c) (encode_utf8_all cs))

line_is : (bytes : List ℕ) → NoEnd bytes → is_line bytes ≡ true
line_is [] h = refl
line_is (b ∷ bytes) h = ap (λ t. not t && list_all (λ c. not (c == 10)) bytes) (ne_eqb b 10 h.0) ∙ line_is bytes h.1

-- a text of one line, and one that isn't empty
record IsPlain (bytes : List ℕ) : Type 0 where
  utf8 : IsUtf8 bytes
  line : NoEnd bytes

word_plain : (text : List ℕ) → IsWordText text → IsPlain text × (0 < length text)
word_plain text h =
    let same : encode_utf8_all (chars text) ≡ text = encodes-chars text h.utf8 in
    (record { utf8 = h.utf8; line = subst NoEnd same (encoded_no_end (chars text) (word_no_lf (chars text) h.word)) }, subst (λ t. 0 < length t) same (encoded_some (chars text) h.word))

-- ---- words joined by spaces

-- a token that is a word, with a text that it may have
abbrev pub IsWordIn : Layout → Token → Type 0
IsWordIn layout t = IsWordText (text_of layout t)

written_word : (kind : Kind) (text : List ℕ) → is_word kind ≡ true → IsWrittenAs kind text → IsWordText text
written_word kinds.Word text test h = h
written_word kinds.Quote text test h = absurd (true≢false (sym test))
written_word kinds.Open text test h = absurd (true≢false (sym test))
written_word kinds.Close text test h = absurd (true≢false (sym test))
written_word kinds.Bar text test h = absurd (true≢false (sym test))
written_word kinds.Comma text test h = absurd (true≢false (sym test))
written_word kinds.Colon text test h = absurd (true≢false (sym test))
written_word kinds.Star text test h = absurd (true≢false (sym test))
written_word kinds.Stop text test h = absurd (true≢false (sym test))

words_in : (layout : Layout) (ts : List Token) → AllByRecursion (IsTokenIn layout.text) ts → list_all (λ t. is_word t.kind) ts ≡ true → AllByRecursion (IsWordIn layout) ts
words_in layout [] all test = tt
words_in layout (t ∷ ts) all test =
    let both = and_parts (is_word t.kind) (list_all (λ u. is_word u.kind) ts) test in
    (written_word t.kind (text_of layout t) both.0 all.0.written, words_in layout ts all.1 both.1)

both_plain : (xs ys : List ℕ) → IsPlain xs → IsPlain ys → IsPlain (xs ++ ys)
both_plain xs ys h k = record { utf8 = IsUtf8-append xs ys h.utf8 k.utf8; line = both_no_end xs ys h.line k.line }

space_ascii : (i : ℕ) → slice_index (32 ∷ []) i < 128
space_ascii zero = omega arith
space_ascii (suc i) = omega arith

space_plain : IsPlain (32 ∷ [])
space_plain = record { utf8 = IsUtf8-from_ascii (32 ∷ []) space_ascii; line = (λ e. omega (arith, e), tt) }

-- the texts of tokens with a space before each
abbrev texts_after : Layout → List Token → List ℕ
texts_after layout ts = flat_map (λ v. 32 ∷ v) (map (text_of layout) ts)

spaced_plain : (layout : Layout) (ts : List Token) → AllByRecursion (IsWordIn layout) ts → IsPlain (texts_after layout ts)
spaced_plain layout [] h = record { utf8 = IsUtf8-nil; line = tt }
spaced_plain layout (t ∷ ts) h =
    both_plain (32 ∷ text_of layout t) (texts_after layout ts)
    (both_plain (32 ∷ []) (text_of layout t) space_plain (word_plain (text_of layout t) h.0).0)
    (spaced_plain layout ts h.1)

-- words joined by spaces are a name
joined_name : (layout : Layout) (ts : List Token) → 0 < length ts → AllByRecursion (IsWordIn layout) ts → IsName (spaced (map (text_of layout) ts))
joined_name layout [] some h = absurd (omega (arith, some))
joined_name layout (t ∷ ts) some h =
    let first = word_plain (text_of layout t) h.0 in
    let all : IsPlain (text_of layout t ++ texts_after layout ts) = both_plain (text_of layout t) (texts_after layout ts) first.0 (spaced_plain layout ts h.1) in
    record { some = omega (arith, first.1, length-append (text_of layout t) (texts_after layout ts)); text = all.utf8; line = line_is (text_of layout t ++ texts_after layout ts) all.line }

-- ---- those of a span

all_dropped : {X : Type 0} (P : X → Type 0) (n : ℕ) (xs : List X) → AllByRecursion P xs → AllByRecursion P (drop n xs)
all_dropped P zero xs h = h
all_dropped P (suc n) [] h = tt
all_dropped P (suc n) (x ∷ xs) h = all_dropped P n xs h.1

all_first : {X : Type 0} (P : X → Type 0) (n : ℕ) (xs : List X) → AllByRecursion P xs → AllByRecursion P (take n xs)
all_first P zero xs h = tt
all_first P (suc n) [] h = tt
all_first P (suc n) (x ∷ xs) h = (h.0, all_first P n xs h.1)

-- the words of a span of tokens, joined by spaces, are a name
pub span_name : (layout : Layout) (span : Span) → AllByRecursion (IsTokenIn layout.text) layout.tokens → span.from < span.to → span.to ≤ length layout.tokens → list_all (λ t. is_word t.kind) (tokens_of layout span) ≡ true → IsName (spaced (map (text_of layout) (tokens_of layout span)))
span_name layout span all some inside test =
    let rest = drop span.from layout.tokens in
    let many : length (take (span.to - span.from) rest) ≡ min (span.to - span.from) (length rest) = length-take (span.to - span.from) rest in
    let left : length rest ≡ length layout.tokens - span.from = length-drop span.from layout.tokens in
    joined_name layout (tokens_of layout span) (omega (arith, many, left, some, inside))
    (words_in layout (tokens_of layout span) (all_first (IsTokenIn layout.text) (span.to - span.from) rest (all_dropped (IsTokenIn layout.text) span.from layout.tokens all)) test)
