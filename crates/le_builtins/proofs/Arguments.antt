-- The arguments of a predefined sentence are as many as what it asks of them.
use Rattle.std.proofs.Common.{◌≡◌, ℕ, zero, suc, ◌<◌, List, [], ◌∷◌, ◌++◌, length, map, get_or, slice_get, Some, refl, sym, ap, ◌∙◌, arith}
use Rattle.le_terms.specs.Tree.{Tree, nil}
use Rattle.le_terms.specs.Program.{predefined_arities}
use Rattle.le_builtins.specs.declared.sentences.Sentence.{Sentence}
use Rattle.le_builtins.specs.declared.sentences.Sentence.TheVariants.{EqualTo}
use Rattle.le_builtins.specs.Sentences.{sentences, sentence_of, needs}
use Rattle.le_builtins.specs.Compute.{says, answered, compute}

arity_at : (xs : List Sentence) (rest : List ℕ) (n : ℕ) → n < length xs → slice_get (map (λ s. length (needs s)) xs ++ rest) n ≡ Some (length (needs (get_or xs n EqualTo)))
arity_at [] rest n h = absurd (omega arith)
arity_at (x ∷ xs) rest zero h = refl
arity_at (x ∷ xs) rest (suc n) h = arity_at xs rest n (omega arith)

-- a predicate has one argument for each thing that its sentence asks
pub arity_of : (pred n : ℕ) (sentence : Sentence) → pred < 18 → slice_get predefined_arities pred ≡ Some n → sentence ≡ sentence_of pred → n ≡ length (needs sentence)
arity_of pred n sentence small arity is =
    let at : slice_get predefined_arities pred ≡ Some (length (needs (sentence_of pred))) = arity_at sentences (2 ∷ 3 ∷ []) pred small in
    let same : Some n ≡ Some (length (needs (sentence_of pred))) = sym arity ∙ at in
    let inner : n ≡ length (needs (sentence_of pred)) = cc in
    inner ∙ ap (λ s. length (needs s)) (sym is)

-- two arguments
pub two : (terms : List Tree) (a b : Tree) → length terms ≡ 2 → a ≡ get_or terms 0 a → b ≡ get_or terms 1 b → terms ≡ a ∷ b ∷ []
two [] a b many first second = absurd (omega arith)
two (x ∷ []) a b many first second = absurd (omega arith)
two (x ∷ y ∷ []) a b many first second = ap (λ t. t ∷ y ∷ []) (sym first) ∙ ap (λ t. a ∷ t ∷ []) (sym second)
two (x ∷ y ∷ z ∷ terms) a b many first second = absurd (omega arith)

-- three arguments, of which the first may be anything
pub three : (terms : List Tree) (b c : Tree) → length terms ≡ 3 → b ≡ get_or terms 1 b → c ≡ get_or terms 2 c → terms ≡ get_or terms 0 nil ∷ b ∷ c ∷ []
three [] b c many second third = absurd (omega arith)
three (x ∷ []) b c many second third = absurd (omega arith)
three (x ∷ y ∷ []) b c many second third = absurd (omega arith)
three (x ∷ y ∷ z ∷ []) b c many second third = ap (λ t. x ∷ t ∷ z ∷ []) (sym second) ∙ ap (λ t. x ∷ b ∷ t ∷ []) (sym third)
three (x ∷ y ∷ z ∷ w ∷ terms) b c many second third = absurd (omega arith)

-- the answer in the words of the sentence and of the arguments one by one
pub compute-is : (pred : ℕ) (all terms : List Tree) (sentence : Sentence) → sentence ≡ sentence_of pred → all ≡ terms → answered (needs sentence) terms (says sentence terms) ≡ compute pred all
unfolding compute
compute-is pred all terms sentence is shape =
    ap (λ s. answered (needs s) terms (says s terms)) is ∙ ap (λ ts. compute pred ts) (sym shape)
