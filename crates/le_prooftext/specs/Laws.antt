-- What the readings mean: they give what is spelled so, and nothing else.
use Rattle.std.specs.Prelude.{◌≡◌, ◌↔◌, ℕ, ◌^◌, ◌<◌, List, [], ◌++◌, length, Option, Some, None}
use Rattle.le_proofs.specs.declared.derivation.Derivation.{Derivation}
use Rattle.le_proofs.specs.declared.node.Node.{Node}
use Rattle.le_prooftext.specs.Lines.{node_line, count_line, derivation_text, IsSpellable, AreSpellable}
use Rattle.le_prooftext.specs.Reading.{node_of, count_of, derivation_of}

-- a line is that of a node whose numbers are in range
pub record SpellsNode (line : List ℕ) (node : Node) : Type 0 where
  pub spelled : node_line node ≡ line
  pub in_range : IsSpellable node

-- the node that a line spells, and none only where no node is spelled so
abbrev pub ReadsNode : List ℕ → Option Node → Type 0
ReadsNode line (Some node) = SpellsNode line node
ReadsNode line None = (node : Node) → SpellsNode line node → ⊥

-- a line gives a number of nodes
pub record SpellsCount (line : List ℕ) (n : ℕ) : Type 0 where
  pub spelled : count_line n ≡ line
  pub in_range : n < 2 ^ 64

-- the number of nodes that a line gives, and none only where it gives none
abbrev pub ReadsCount : List ℕ → Option ℕ → Type 0
ReadsCount line (Some n) = SpellsCount line n
ReadsCount line None = (n : ℕ) → SpellsCount line n → ⊥

-- some bytes begin with the text of a derivation, of this length
pub record BeginsWithText (bytes : List ℕ) (read : Derivation × ℕ) : Type 0 where
  pub rest : List ℕ
  pub spelled : derivation_text read.0.nodes ++ rest ≡ bytes
  pub size : length (derivation_text read.0.nodes) ≡ read.1
  pub in_range : AreSpellable read.0.nodes

-- the derivation whose text some bytes begin with, and none only where they begin with no derivation's text
abbrev pub ReadsDerivation : List ℕ → Option (Derivation × ℕ) → Type 0
ReadsDerivation bytes (Some read) = BeginsWithText bytes read
ReadsDerivation bytes None = (read : Derivation × ℕ) → BeginsWithText bytes read → ⊥

-- reading a line gives a node exactly where the line is that node's
abbrev pub NodesReadBack : Type 0
NodesReadBack = (line : List ℕ) (node : Node) → (node_of line ≡ Some node) ↔ SpellsNode line node

-- reading a line gives a number of nodes exactly where the line is that number's
abbrev pub CountsReadBack : Type 0
CountsReadBack = (line : List ℕ) (n : ℕ) → (count_of line ≡ Some n) ↔ SpellsCount line n

-- reading bytes gives a derivation exactly where they begin with its text
abbrev pub DerivationsReadBack : Type 0
DerivationsReadBack = (bytes : List ℕ) (read : Derivation × ℕ) → (derivation_of bytes ≡ Some read) ↔ BeginsWithText bytes read

-- whatever follows it, the text of a derivation reads back as that derivation
abbrev pub TextsReadBack : Type 0
TextsReadBack = (derivation : Derivation) (rest : List ℕ) → AreSpellable derivation.nodes → derivation_of (derivation_text derivation.nodes ++ rest) ≡ Some (derivation, length (derivation_text derivation.nodes))

-- where the text of a derivation is that of another with some bytes after it, the two are one and there are no such bytes: so no text is a proper prefix of another, and none is that of two derivations
pub record TextsArePrefixFree : Type 0 where
  pub same : (nodes others : List Node) (rest : List ℕ) → AreSpellable nodes → AreSpellable others → derivation_text nodes ++ rest ≡ derivation_text others → nodes ≡ others
  pub nothing_left : (nodes others : List Node) (rest : List ℕ) → AreSpellable nodes → AreSpellable others → derivation_text nodes ++ rest ≡ derivation_text others → rest ≡ []
