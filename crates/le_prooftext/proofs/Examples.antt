-- Worked examples of the definitions.
use Rattle.std.proofs.Common.{◌≡◌, [], ◌∷◌, pos, refl, Some, None}
use Rattle.le_base.specs.declared.stop.FoldKind.TheVariants.{Sum}
use Rattle.le_terms.specs.Tree.{constant, number, variable, nil, cell}
use Rattle.le_terms.specs.declared.term.Sym.TheVariants.{Name, Var, Nil, Cons}
use Rattle.le_proofs.specs.declared.node.Node.TheVariants.{Gather}
use Rattle.le_prooftext.specs.declared.word.NodeKind.TheVariants as kind
use Rattle.le_prooftext.specs.declared.word.Word.TheVariants as word
use Rattle.le_prooftext.specs.Lines.{node_words, terms_words}
use Rattle.le_prooftext.specs.Reading.{atom_with, node_from, terms_from}

-- a list's cell stands before its head and its tail
pub words_of_a_list : terms_words (cell (constant 3) nil ∷ variable 1 ∷ []) ≡ word.Symbol Cons ∷ word.Symbol (Name 3) ∷ word.Symbol Nil ∷ word.Symbol (Var 1) ∷ []
words_of_a_list = refl

-- they read back as the two terms, and fewer symbols as none
pub read_list : terms_from (terms_words (cell (constant 3) nil ∷ variable 1 ∷ [])) ≡ Some (cell (constant 3) nil ∷ variable 1 ∷ [])
read_list = refl

pub read_cut_list : terms_from (word.Symbol Cons ∷ word.Symbol (Name 3) ∷ []) ≡ None
read_cut_list = refl

-- a gather has two terms before its atom
pub read_gather : node_from (node_words (Gather Sum (number (pos 10)) (variable 1) (atom_with 22 (constant 0 ∷ variable 1 ∷ [])))) ≡ Some (Gather Sum (number (pos 10)) (variable 1) (atom_with 22 (constant 0 ∷ variable 1 ∷ [])))
read_gather = refl

pub read_short_gather : node_from (word.Kind kind.Gather ∷ word.Fold Sum ∷ word.Symbol (Name 3) ∷ word.Pred 22 ∷ []) ≡ None
read_short_gather = refl
