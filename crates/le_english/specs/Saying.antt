-- Whether a sentence is plain or marked, and what it means that phrases read back: this project's profile.
use Rattle.std.specs.Prelude.{◌≡◌, ℕ, ◌+◌, ◌<◌, ◌==◌, nat_le, Bool, true, false, ◌&&◌, if◌then◌else◌, Result, Ok, Err, List, [], ◌∷◌, length, map}
use Rattle.std.specs.Str.{bytes_eq}
use Rattle.le_base.specs.declared.stop.Refusal.{Refusal}
use Rattle.le_layout.specs.declared.token.Token.{Token}
use Rattle.le_layout.specs.declared.layout.Layout.{Layout}
use Rattle.le_layout.specs.Layout.{layout_of}
use Rattle.le_layout.specs.Written.{IsWordText}
use Rattle.le_layout.specs.Spellings.{Spelling, spellings, IsWritten}
use Rattle.le_layout.specs.Joined.{joined}
use Rattle.le_templates.specs.declared.part.Part.{Part}
use Rattle.le_templates.specs.declared.part.Part.TheVariants.{Word, Slot}
use Rattle.le_templates.specs.declared.part.Template.{Template}
use Rattle.le_templates.specs.Table.{in_use}
use Rattle.le_terms.specs.Tree.{Tree}
use Rattle.le_scope.specs.Scopes.{ScopeState}
use Rattle.le_match.specs.declared.readings.BestReading.{BestReading}
use Rattle.le_match.specs.declared.readings.BestReading.TheVariants as best
use Rattle.le_match.specs.Readings.{best_of, parts_at}
use Rattle.le_match.specs.Terms.{term_of, atom_of}
use Rattle.le_english.specs.Sentences.{sentence, slot_lengths, Fills, HasOneOfEach}

-- ---- plain or marked

-- whether this is the one best reading
abbrev pub is_one : ℕ → List ℕ → BestReading → Bool
is_one pred lengths (best.One r) = (r.pred == pred) && bytes_eq r.lengths lengths
is_one pred lengths _ = false

abbrev pub is_read_as : List Template → ℕ → List ℕ → Result Layout Refusal → Bool
is_read_as users pred lengths (Ok layout) = is_one pred lengths (best_of users layout layout.tokens)
is_read_as users pred lengths (Err refusal) = false

-- whether a text, of at most 2^28 bytes, has this as its single best reading
unfoldable pub reads_alone : List Template → ℕ → List ℕ → List ℕ → Bool
reads_alone users pred lengths text = nat_le (length text) 268_435_456 && is_read_as users pred lengths (layout_of text)

-- The sentence of a predicate with these phrases: plain where that text has this as its single best reading, else marked.
unfoldable pub sentence_text : List Template → ℕ → List (List Spelling) → List ℕ
sentence_text users pred phrases =
    let plain = joined (sentence false (parts_at users pred) phrases) in
    if reads_alone users pred (slot_lengths (parts_at users pred) phrases) plain then plain
    else joined (sentence true (parts_at users pred) phrases)

-- ---- reading back

-- In this scope what says the phrase reads as this term, wherever it stands, and leaves this scope.
abbrev pub Reads : List Template → List (List ℕ) → ScopeState → List Spelling → Tree → ScopeState → Type 0
Reads users names scope phrase tree after =
    (layout : Layout) (ts : List Token) → spellings layout ts ≡ phrase → term_of users names scope false layout ts ≡ Ok (record { value = tree; names = names; scope = after })

-- so do phrases one after another
abbrev pub ReadsAll : List Template → List (List ℕ) → ScopeState → List (List Spelling) → List Tree → ScopeState → Type 0
ReadsAll users names scope [] [] after = scope ≡ after
ReadsAll users names scope (phrase ∷ phrases) (tree ∷ trees) after = (next : ScopeState) × Reads users names scope phrase tree next × ReadsAll users names next phrases trees after
ReadsAll users names scope [] (tree ∷ trees) after = ⊥
ReadsAll users names scope (phrase ∷ phrases) [] after = ⊥

-- each token of a phrase is one that a document can have
abbrev pub AllOf : List Spelling → Type 0
AllOf [] = Unit {0}
AllOf (s ∷ ss) = IsWritten s × AllOf ss

abbrev pub AllPhrases : List (List Spelling) → Type 0
AllPhrases [] = Unit {0}
AllPhrases (phrase ∷ phrases) = AllOf phrase × AllPhrases phrases

-- each word of a template is a word that a document can have
abbrev pub HasWords : List Part → Type 0
HasWords [] = Unit {0}
HasWords (Word w ∷ parts) = IsWordText w × HasWords parts
HasWords (Slot s ∷ parts) = HasWords parts

-- Scanned, the text has this as its single best reading, and reads as this atom, with no new name.
abbrev pub ReadsBack : List Template → List (List ℕ) → ScopeState → ℕ → List (List Spelling) → List Tree → ScopeState → List ℕ → Type 0
ReadsBack users names scope pred phrases trees after text =
    (layout : Layout) × (layout_of text ≡ Ok layout)
    × (best_of users layout layout.tokens ≡ best.One (record { pred = pred; lengths = map length phrases }))
    × (atom_of users names scope false layout layout.tokens ≡ Ok (record { value = record { pred = pred; args = trees }; names = names; scope = after }))

-- what an atom, by its phrases and their terms, needs to read back
pub record IsSayable (users : List Template) (names : List (List ℕ)) (scope : ScopeState) (pred : ℕ) (phrases : List (List Spelling)) (trees : List Tree) (after : ScopeState) : Type 0 where
  pub each : HasOneOfEach users
  pub low : pred < 20 + length users
  pub used : in_use users pred ≡ true
  pub words : HasWords (parts_at users pred)
  pub fills : Fills (parts_at users pred) phrases
  pub written : AllPhrases phrases
  pub reads : ReadsAll users names scope phrases trees after
