-- The words of which the lines of a derivation's text are made, and how each is spelled: this project's profile.
use Rattle.std.specs.Prelude.{ℕ, ◌≤◌, List, ◌∷◌, codes}
use Rattle.std.specs.Fmt.{decimal, signed_decimal}
use Rattle.le_base.specs.declared.stop.FoldKind.{FoldKind}
use Rattle.le_base.specs.declared.stop.FoldKind.TheVariants.{Sum, Number, Greatest}
use Rattle.le_terms.specs.declared.term.Sym.{Sym}
use Rattle.le_terms.specs.declared.term.Sym.TheVariants.{Name, Num, Day, Var, Nil, Cons}
use Rattle.le_base.specs.Ranges.{IsNumber, IsDay}
use Rattle.le_prooftext.specs.declared.word.NodeKind.{NodeKind}
use Rattle.le_prooftext.specs.declared.word.NodeKind.TheVariants as kind
use Rattle.le_prooftext.specs.declared.word.Word.{Word}
use Rattle.le_prooftext.specs.declared.word.Word.TheVariants as word

-- the word that the line of a node begins with
abbrev pub kind_text : NodeKind → List ℕ
kind_text kind.Use = codes "use"
kind_text kind.Compute = codes "compute"
kind_text kind.Absent = codes "absent"
kind_text kind.Gather = codes "gather"
kind_text kind.Split = codes "split"
kind_text kind.Branch = codes "branch"
kind_text kind.Computed = codes "computed"
kind_text kind.Lacking = codes "lacking"
kind_text kind.Present = codes "present"
kind_text kind.Gathered = codes "gathered"
kind_text kind.Ungathered = codes "ungathered"
kind_text kind.Success = codes "success"
kind_text kind.Dead = codes "dead"

-- the word for what is made of the values at all cases
abbrev pub fold_text : FoldKind → List ℕ
fold_text Sum = codes "sum"
fold_text Number = codes "number"
fold_text Greatest = codes "greatest"

-- a symbol of a term: `n` and the number of a name, `i` and a whole number, `d` and a day, `v` and the number of a variable, `e` for the empty list, and `c` for a list's cell; numbers are in decimal digits without leading zeros, with a `-` before a negative one
abbrev pub symbol_text : Sym → List ℕ
symbol_text (Name n) = 110 ∷ decimal n
symbol_text (Num z) = 105 ∷ signed_decimal z
symbol_text (Day d) = 100 ∷ signed_decimal d
symbol_text (Var v) = 118 ∷ decimal v
symbol_text Nil = codes "e"
symbol_text Cons = codes "c"

-- a word: that of a kind of node or of a fold, a number, `p` and the number of a predicate, or a symbol
abbrev pub word_text : Word → List ℕ
word_text (word.Kind k) = kind_text k
word_text (word.Fold f) = fold_text f
word_text (word.Count n) = decimal n
word_text (word.Pred p) = 112 ∷ decimal p
word_text (word.Symbol s) = symbol_text s

-- the greatest number of a name, a variable, a predicate or a clause, and the greatest count
abbrev pub greatest_small : ℕ
greatest_small = 4294967295

-- a symbol whose number is one that a term may have
abbrev pub IsSymbol : Sym → Type 0
IsSymbol (Name n) = n ≤ greatest_small
IsSymbol (Num z) = IsNumber z
IsSymbol (Day d) = IsDay d
IsSymbol (Var v) = v ≤ greatest_small
IsSymbol Nil = Unit {0}
IsSymbol Cons = Unit {0}

-- a word whose number is in its range
abbrev pub IsWord : Word → Type 0
IsWord (word.Kind k) = Unit {0}
IsWord (word.Fold f) = Unit {0}
IsWord (word.Count n) = n ≤ greatest_small
IsWord (word.Pred p) = p ≤ greatest_small
IsWord (word.Symbol s) = IsSymbol s
