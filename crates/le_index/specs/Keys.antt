-- The key of an atom, by which the heads that it may meet are found: this project's profile.
use Rattle.std.specs.Prelude.{ℕ, ◌+◌, ◌*◌, ◌^◌, ℤ, pos, unsigned_abs, List, [], ◌∷◌}
use Rattle.std.specs.Int.{int_rem_euclid}
use Rattle.le_terms.specs.declared.term.Sym.{Sym}
use Rattle.le_terms.specs.declared.term.Sym.TheVariants.{Name, Num, Day, Var, Nil, Cons}
use Rattle.le_terms.specs.declared.program.Atom.{Atom}
use Rattle.le_terms.specs.Tree.{Tree, root}

-- the remainder of a number by 10^9, from 0 to 10^9 - 1
abbrev pub remainder : ℤ → ℕ
remainder z = unsigned_abs (int_rem_euclid z (pos (10 ^ 9)))

-- the key of a first symbol: 0 for a variable, which stands for any key, 1 for the empty list, 2 for a cell of a list, and else one of three classes by the remainder of the number
abbrev pub key_of_symbol : Sym → ℕ
key_of_symbol (Name n) = 3 + 3 * remainder (pos n)
key_of_symbol (Num z) = 4 + 3 * remainder z
key_of_symbol (Day d) = 5 + 3 * remainder d
key_of_symbol (Var v) = 0
key_of_symbol Nil = 1
key_of_symbol Cons = 2

-- the key of arguments: that of the first symbol of the first one, and 0 where there is none
abbrev pub key_of_args : List Tree → ℕ
key_of_args [] = 0
key_of_args (first ∷ others) = key_of_symbol (root first)

-- the key of an atom
abbrev pub key_of : Atom → ℕ
key_of atom = key_of_args atom.args
