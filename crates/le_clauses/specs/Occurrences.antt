-- The occurrences of variables in a rule as the code counts them. Callers don't need it.
use Rattle.std.specs.Prelude.{◌≡◌, ℕ, Bool, ◌&&◌, not, nat_lt, List, [], ◌∷◌, ◌++◌, flat_map, get_or}
use Rattle.std.specs.List.{list_all}
use Rattle.le_terms.specs.Variables.{occurrences, all_occurrences}
use Rattle.le_terms.specs.declared.program.Atom.{Atom}
use Rattle.le_clauses.specs.declared.part.Part.{Part}
use Rattle.le_clauses.specs.declared.part.Part.TheVariants as parts
use Rattle.le_clauses.specs.Groups.{count_in, is_computed}

-- these are the numbers of times that each variable occurs
abbrev pub AreTimes : List ℕ → List ℕ → Type 0
AreTimes all times = (v : ℕ) → get_or times v 0 ≡ count_in all v

-- the variables of a part, without those of the parts below it
abbrev pub part_vars : Part → List ℕ
part_vars (parts.Sentence line atom) = all_occurrences atom.args
part_vars (parts.Gather line fold result value) = occurrences result ++ value ∷ []
part_vars _ = []

-- those of several parts
abbrev pub parts_vars : List Part → List ℕ
parts_vars ps = flat_map part_vars ps

-- an atom isn't computed, and each of its variables also occurs outside it
abbrev pub is_alone_atom : List ℕ → Atom → Bool
is_alone_atom rule atom = not (is_computed atom) && list_all (λ v. nat_lt (count_in (all_occurrences atom.args) v) (count_in rule v)) (all_occurrences atom.args)
