-- The text of a bundle, and which bundles have one: this project's profile.
use Rattle.std.specs.Prelude.{◌≡◌, ◌⊎◌, ℕ, ◌+◌, ◌<◌, ◌≤◌, ◌==◌, Bool, true, not, List, [], ◌∷◌, ◌++◌, length, IfSome, IsUtf8, Ok}
use Rattle.std.specs.List.{AllByRecursion, list_all}
use Rattle.le_proofs.specs.declared.derivation.Derivation.{Derivation}
use Rattle.le_proofs.specs.declared.next.Next.{Next}
use Rattle.le_proofs.specs.declared.next.Next.TheVariants.{Answer, Done, Floundered, OutOfRange, Spent}
use Rattle.le_prooftext.specs.Lines.{derivation_text, AreSpellable}
use Rattle.le_bundle.specs.Bundle.{Bundle, bundle_of, answer_words, marker}
use Rattle.le_bundle.specs.Endings.{end_words, stopped_words}
use Rattle.le_bundle.specs.Head.{head_lines}
use Rattle.le_bundle.specs.Lines.{Line, whole, cut, lines_of}

-- ---- what is written

-- the lines of the answers with these derivations, the first of which has this number
abbrev pub answers_lines : ℕ → List Derivation → List ℕ
answers_lines k [] = []
answers_lines k (derivation ∷ derivations) = answer_words k ++ (10 ∷ (derivation_text derivation.nodes ++ answers_lines (k + 1) derivations))

-- The text of a bundle: the document part, the marker, the names and limits of the search, the answers, and the last line.
abbrev pub bundle_text : Bundle → List ℕ
bundle_text b = b.document ++ (head_lines b.query b.scenario b.budget b.most ++ (answers_lines 1 b.derivations ++ (b.ending ++ (10 ∷ []))))

-- ---- which bundles have a text

-- bytes without an LF
abbrev pub is_line : List ℕ → Bool
is_line bytes = list_all (λ b. not (b == 10)) bytes

-- a name: one or more characters of UTF-8, none of them LF
pub record IsName (name : List ℕ) : Type 0 where
  pub some : 0 < length name
  pub text : IsUtf8 name
  pub line : is_line name ≡ true

-- whole lines, none of which is the marker
abbrev pub AreUnmarked : List Line → Type 0
AreUnmarked [] = Unit {0}
AreUnmarked (cut line ∷ lines) = ⊥
AreUnmarked (whole line ∷ lines) = (line ≡ marker → ⊥) × AreUnmarked lines

-- a search ends so; an answer is no end, and the number of a line is at most 4,294,967,295
abbrev pub IsEnd : Next → Type 0
IsEnd Answer = ⊥
IsEnd Done = Unit {0}
IsEnd (Floundered line) = line ≤ 4294967295
IsEnd (OutOfRange line) = line ≤ 4294967295
IsEnd Spent = Unit {0}

-- the last line says that as many answers were found as were asked for, or how the search ended
abbrev pub IsEnding : ℕ → ℕ → List ℕ → Type 0
IsEnding budget most ending = (ending ≡ stopped_words most) ⊎ ((next : Next) × IsEnd next × (ending ≡ end_words budget next))

-- A bundle that has a text: its document part is whole lines without the marker, its names are names, its limits are in their ranges, its derivations aren't more than the answers that were asked for and have a spelling, and its last line says how the search ended.
pub record IsBundle (b : Bundle) : Type 0 where
  pub unmarked : AreUnmarked (lines_of b.document)
  pub named : IsName b.query
  pub under : IfSome b.scenario IsName
  pub limited : (1 ≤ b.budget) × (b.budget ≤ 1000000)
  pub asked : (1 ≤ b.most) × (b.most ≤ 1000)
  pub few : length b.derivations ≤ b.most
  pub spelled : AllByRecursion (λ d. AreSpellable d.nodes) b.derivations
  pub ended : IsEnding b.budget b.most b.ending

-- the text of a bundle reads back as this bundle
abbrev pub BundlesReadBack : Type 0
BundlesReadBack = (b : Bundle) → IsBundle b → bundle_of (bundle_text b) ≡ Ok b
