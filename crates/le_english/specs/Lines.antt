-- What is written of a sentence so far, item by item; callers don't need it.
use Rattle.std.specs.Prelude.{◌≡◌, ℕ, ◌+◌, ◌-◌, ◌^◌, ◌==◌, min, Bool, true, false, ◌||◌, if◌then◌else◌, List, [], ◌∷◌, ◌++◌, length, take, drop, slice_index_or, codes, decimal, map}
use Rattle.std.specs.BTreeSet.{contains}
use Rattle.std.specs.Ordering.{nat_cmp}
use Rattle.std.specs.Fmt.{signed_decimal}
use Rattle.le_layout.specs.Spellings.{Spelling}
use Rattle.le_layout.specs.Joined.{Item, plain, gap, item_text, glues}
use Rattle.le_templates.specs.declared.part.Template.{Template}
use Rattle.le_terms.specs.declared.term.Sym.{Sym}
use Rattle.le_terms.specs.declared.term.Sym.TheVariants.{Name, Num, Day, Var, Nil, Cons}
use Rattle.le_base.specs.Ranges.{IsDay}
use Rattle.le_terms.specs.Tree.{Tree}
use Rattle.le_terms.specs.Variables.{all_occurrences}
use Rattle.le_templates.specs.declared.part.Part.{Part}
use Rattle.le_values.specs.Days.{day_text}
use Rattle.le_english.specs.declared.line.Line.{Line}
use Rattle.le_english.specs.declared.draft.Draft.{Draft}
use Rattle.le_english.specs.Phrases.{word_of, open_sign, close_sign, comma_sign, bar_sign, name_phrase, is_seen, phrases_of}
use Rattle.le_english.specs.Sentences.{sentence, slot_lengths}

-- one more item, counted up to the greatest number of 64 bits
abbrev pub with_item : Line → Item → Line
with_item line item =
    record { text = line.text ++ (gap line.glued item ++ item_text item); glued = glues item; tokens = min (line.tokens + 1) (2 ^ 64 - 1) }

-- a line with items after those before
abbrev pub with_items : Line → List Item → Line
with_items line [] = line
with_items line (item ∷ items) = with_items (with_item line item) items

-- a line with what tokens say after what was there
abbrev pub with_tokens : Line → List Spelling → Line
with_tokens line phrase = with_items line (map plain phrase)

-- ---- the phrase of a term, symbol by symbol

-- a variable's phrase, by whether it was printed before
abbrev pub thing_phrase : Bool → ℕ → List Spelling
thing_phrase seen k = word_of (if seen then codes "the" else codes "a") ∷ word_of (codes "thing") ∷ word_of (decimal k) ∷ []

-- what a symbol says where an item of a list begins, or the term
abbrev pub at_item : List Template → List (List ℕ) → (ℕ → Bool) → Sym → List Spelling
at_item users names seen (Name n) = name_phrase users (slice_index_or names n [])
at_item users names seen (Num z) = word_of (signed_decimal z) ∷ []
at_item users names seen (Day d) = word_of (day_text d) ∷ []
at_item users names seen (Var k) = thing_phrase (seen k) k
at_item users names seen Nil = open_sign ∷ close_sign ∷ []
at_item users names seen Cons = open_sign ∷ []

-- what a last tail that isn't the empty list says
abbrev pub last_tail : List Template → List (List ℕ) → (ℕ → Bool) → Sym → List Spelling
last_tail users names seen symbol = bar_sign ∷ (at_item users names seen symbol ++ close_sign ∷ [])

-- what a symbol says where the tail of a list begins
abbrev pub at_tail : List Template → List (List ℕ) → (ℕ → Bool) → Sym → List Spelling
at_tail users names seen (Name n) = last_tail users names seen (Name n)
at_tail users names seen (Num z) = last_tail users names seen (Num z)
at_tail users names seen (Day d) = last_tail users names seen (Day d)
at_tail users names seen (Var k) = last_tail users names seen (Var k)
at_tail users names seen Nil = close_sign ∷ []
at_tail users names seen Cons = comma_sign ∷ []

-- what a symbol says, by whether an item begins with it
abbrev pub symbol_phrase : List Template → List (List ℕ) → (ℕ → Bool) → Bool → Sym → List Spelling
symbol_phrase users names seen is_item symbol = if is_item then at_item users names seen symbol else at_tail users names seen symbol

-- the variables that are printed once a symbol is
abbrev pub seen_after : (ℕ → Bool) → Sym → ℕ → Bool
seen_after seen (Name n) k = seen k
seen_after seen (Num z) k = seen k
seen_after seen (Day d) k = seen k
seen_after seen (Var v) k = (k == v) || seen k
seen_after seen Nil k = seen k
seen_after seen Cons k = seen k

-- the variables that are printed once several symbols are
abbrev pub seen_after_all : (ℕ → Bool) → List Sym → ℕ → Bool
seen_after_all seen [] k = seen k
seen_after_all seen (symbol ∷ symbols) k = seen_after_all (seen_after seen symbol) symbols k

-- whether an item begins after a symbol, and else the tail of a list
abbrev pub is_cell : Sym → Bool
is_cell (Name n) = false
is_cell (Num z) = false
is_cell (Day d) = false
is_cell (Var k) = false
is_cell Nil = false
is_cell Cons = true

-- what symbols say one after another
abbrev pub symbols_phrase : List Template → List (List ℕ) → (ℕ → Bool) → Bool → List Sym → List Spelling
symbols_phrase users names seen is_item [] = []
symbols_phrase users names seen is_item (symbol ∷ symbols) =
    symbol_phrase users names seen is_item symbol ++ symbols_phrase users names (seen_after seen symbol) (is_cell symbol) symbols

-- a symbol whose day, if it is one, is one that a term may have
abbrev pub HasDay : Sym → Type 0
HasDay (Name n) = Unit {0}
HasDay (Num z) = Unit {0}
HasDay (Day d) = IsDay d
HasDay (Var k) = Unit {0}
HasDay Nil = Unit {0}
HasDay Cons = Unit {0}

-- ---- the sentence, part by part

-- a count of at most the greatest number of 64 bits
abbrev pub capped : ℕ → ℕ
capped n = min n (2 ^ 64 - 1)

-- the phrases of the arguments from one of this number on, after those of the arguments before it
abbrev pub phrases_from : List Template → List (List ℕ) → List Tree → ℕ → List (List Spelling)
phrases_from users names args n = phrases_of users names (all_occurrences (take n args)) (drop n args)

-- A draft is completed to this text and these lengths by the parts that are still to come, whose slots take the arguments after those that have a length.
pub record Completes (users : List Template) (names : List (List ℕ)) (args : List Tree) (marked : Bool) (draft : Draft) (parts : List Part) (whole : List ℕ) (counts : List ℕ) : Type 0 where
  pub printed : (k : ℕ) → contains nat_cmp draft.seen k ≡ is_seen (all_occurrences (take (length draft.lengths.items) args)) k
  pub text : (with_items draft.line (sentence marked parts (phrases_from users names args (length draft.lengths.items)))).text ≡ whole
  pub count : draft.lengths.items ++ map capped (slot_lengths parts (phrases_from users names args (length draft.lengths.items))) ≡ counts

-- a line without items
abbrev pub empty_line : Line
empty_line = record { text = []; glued = true; tokens = 0 }
