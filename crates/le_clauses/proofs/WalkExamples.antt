-- The two walks give what the definition of the translation gives.
use Rattle.std.proofs.Common.{◌≡◌, ℕ, false, List, [], ◌∷◌, None, refl, map}
use Rattle.le_base.specs.declared.stop.FoldKind.TheVariants.{Sum}
use Rattle.le_terms.specs.Tree.{variable}
use Rattle.le_terms.specs.declared.program.Atom.{Atom}
use Rattle.le_terms.specs.declared.program.GroupKind.TheVariants as groups
use Rattle.le_clauses.specs.declared.draft.Done.{Done}
use Rattle.le_clauses.specs.declared.part.Part.{Part}
use Rattle.le_clauses.specs.declared.part.Part.TheVariants as parts
use Rattle.le_clauses.specs.Conditions.{Condition, condition_of, line_of, occurring}
use Rattle.le_clauses.specs.Groups.{group_atom, drafted, literals_of, rule_vars}
use Rattle.le_clauses.specs.Walks.{marked, dones}

atom : ℕ → List ℕ → Atom
atom pred vars = record { pred = pred; args = map variable vars }

-- what the tree gives, as it is done
tree_done : ℕ → List ℕ → Condition → Done
tree_done pred head c =
    let d = drafted false pred (rule_vars head c) c in
    record { line = line_of c; vars = occurring c; literals = literals_of d; atom = group_atom 0 []; clauses = d.clauses; kinds = d.kinds }

-- what the walks give
walks_done : ℕ → List ℕ → List Part → List Done
walks_done pred head ps = let rule = rule_vars head (condition_of ps) in dones rule (marked rule (None ∷ []) pred ps)

-- a conjunction with a disjunction, one of whose branches is a negation with a variable of its own, and a sum
some_parts : List Part
some_parts = parts.And 2
    ∷ parts.Or 2 ∷ parts.Sentence 2 (atom 20 (0 ∷ [])) ∷ parts.Not 3 ∷ parts.Sentence 3 (atom 21 (0 ∷ 5 ∷ []))
    ∷ parts.Gather 8 Sum (variable 3) 6 ∷ parts.Sentence 9 (atom 20 (0 ∷ 6 ∷ []))
    ∷ []

some_same : walks_done 23 (0 ∷ 3 ∷ []) some_parts ≡ tree_done 23 (0 ∷ 3 ∷ []) (condition_of some_parts) ∷ []
unfolding some_parts tree_done walks_done atom
some_same = refl

-- a `for all` that is the whole inside of a negation, and whose second block is a disjunction
for_all_parts : List Part
for_all_parts = parts.Not 4 ∷ parts.ForAll 4 ∷ parts.Sentence 5 (atom 20 (0 ∷ 1 ∷ [])) ∷ parts.Or 2 ∷ parts.Sentence 6 (atom 21 (1 ∷ 2 ∷ [])) ∷ parts.Sentence 7 (atom 22 (1 ∷ [])) ∷ []

for_all_same : walks_done 23 (0 ∷ []) for_all_parts ≡ tree_done 23 (0 ∷ []) (condition_of for_all_parts) ∷ []
unfolding for_all_parts tree_done walks_done atom
for_all_same = refl

for_all_kinds : (drafted false 23 (rule_vars (0 ∷ []) (condition_of for_all_parts)) (condition_of for_all_parts)).kinds ≡ groups.Not ∷ groups.Case ∷ groups.Not ∷ []
unfolding for_all_parts atom
for_all_kinds = refl
