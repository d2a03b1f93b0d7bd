-- The first symbol of a term.
use Rattle.std.proofs.Common.{◌≡◌, ℕ, ap}
use Rattle.le_terms.specs.Tree.{Tree, constant, number, date, variable, nil, cell, root}
use Rattle.le_terms.specs.declared.term.Sym.TheVariants.{Var}

pub root-variable : (term : Tree) (v : ℕ) → root term ≡ Var v → term ≡ variable v
root-variable (constant n) v is = absurd (cc is)
root-variable (number z) v is = absurd (cc is)
root-variable (date d) v is = absurd (cc is)
root-variable (variable w) v is = let same : w ≡ v = (cc is) in ap variable same
root-variable nil v is = absurd (cc is)
root-variable (cell head tail) v is = absurd (cc is)
