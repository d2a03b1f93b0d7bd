-- Worked examples of the definitions.
use Rattle.std.proofs.Common.{◌≡◌, pos, [], ◌∷◌, length, refl, codes, arith}
use Rattle.le_terms.specs.declared.term.Sym.TheVariants.{Name, Num, Var, Cons}
use Rattle.le_terms.specs.Tree.{constant, number, variable, nil, cell, flat, tree_of}
use Rattle.le_terms.specs.Variables.{variables, canonical_of}
use Rattle.le_terms.specs.Names.{number_of_name, entered}
use Rattle.le_terms.specs.Program.{IsClause, predefined_arities, predefined_count}
use Rattle.le_terms.specs.declared.program.ClauseKind.TheVariants.{Written}
use Rattle.le_terms.specs.declared.program.Form.TheVariants.{Pos}

-- the list [n4, 7 | v2] in preorder, and back
pub list_in_preorder : flat (cell (constant 4) (cell (number (pos 7)) (variable 2))) ≡ Cons ∷ Name 4 ∷ Cons ∷ Num (pos 7) ∷ Var 2 ∷ []
list_in_preorder = refl

pub list_from_preorder : tree_of (Cons ∷ Name 4 ∷ Cons ∷ Num (pos 7) ∷ Var 2 ∷ []) ≡ cell (constant 4) (cell (number (pos 7)) (variable 2))
list_from_preorder = refl

-- a variable counts once, where it first occurs
pub variables_in_order : variables (cell (variable 5) (cell (variable 3) (cell (variable 5) nil))) ≡ 5 ∷ 3 ∷ []
variables_in_order = refl

-- two terms are renumbered together
pub renumbered_together : canonical_of (cell (variable 9) (variable 4) ∷ variable 4 ∷ variable 0 ∷ []) ≡ cell (variable 1) (variable 2) ∷ variable 2 ∷ variable 3 ∷ []
renumbered_together = refl

-- a name that is there keeps its number, and a new one gets the next
pub names_in_order : entered (codes "Ann" ∷ codes "Bob" ∷ []) (codes "Carl") ≡ codes "Ann" ∷ codes "Bob" ∷ codes "Carl" ∷ []
names_in_order = refl

pub number_of_bob : number_of_name (codes "Ann" ∷ codes "Bob" ∷ []) (codes "Bob") ≡ 1
number_of_bob = refl

-- there are twenty predefined predicates
pub predefined_predicates : length predefined_arities ≡ predefined_count
predefined_predicates = refl

-- `a person is happy if the person is rich` is a clause of one variable
pub rich_and_happy : IsClause (record {
  head = record { pred = 20; args = variable 0 ∷ [] };
  body = record { line = 4; form = Pos (record { pred = 21; args = variable 0 ∷ [] }) } ∷ [];
  vars = 1;
  line = 4;
  kind = Written;
})
rich_and_happy = record { variables = (omega arith, (omega arith, tt)); few = omega arith }
