-- Worked examples of the definitions.
use Rattle.std.proofs.Common.{◌≡◌, ℕ, Bool, true, false, ◌&&◌, ◌==◌, List, [], ◌∷◌, refl, map}
use Rattle.le_base.specs.declared.stop.FoldKind.TheVariants.{Sum}
use Rattle.le_terms.specs.Tree.{Tree, variable, constant}
use Rattle.le_terms.specs.declared.program.Atom.{Atom}
use Rattle.le_terms.specs.declared.program.Form.TheVariants.{Pos, Neg, Gather}
use Rattle.le_terms.specs.declared.program.ClauseKind.TheVariants.{Branch}
use Rattle.le_terms.specs.declared.program.GroupKind.TheVariants as groups
use Rattle.le_clauses.specs.declared.part.Part.TheVariants as parts
use Rattle.le_clauses.specs.Conditions.{Condition, sentence, all, some, negation, for_all, gather, none, more, condition_of}
use Rattle.le_clauses.specs.Groups.{rule_vars, body, literal, drafted, numbered, literals_of}
use Rattle.le_clauses.specs.Truth.{is_true, is_body_true, meant}

atom : ℕ → List ℕ → Atom
atom pred vars = record { pred = pred; args = map variable vars }

-- `if A`, `and B`, deeper `or C`, `and D`: the disjunction is a group of its own
moods : Condition
moods = condition_of (parts.And 3 ∷ parts.Sentence 9 (atom 20 (0 ∷ [])) ∷ parts.Or 2 ∷ parts.Sentence 10 (atom 21 (0 ∷ [])) ∷ parts.Sentence 11 (atom 22 (0 ∷ [])) ∷ parts.Sentence 12 (atom 23 (0 ∷ [])) ∷ [])

moods_tree : moods ≡ all (more (sentence 9 (atom 20 (0 ∷ []))) (more (some (more (sentence 10 (atom 21 (0 ∷ []))) (more (sentence 11 (atom 22 (0 ∷ []))) none))) (more (sentence 12 (atom 23 (0 ∷ []))) none)))
unfolding moods atom
moods_tree = refl

moods_draft : drafted false 25 (rule_vars (0 ∷ []) moods) moods ≡ record {
  bodies = body 9 (literal 9 (Pos (atom 20 (0 ∷ []))) ∷ literal 10 (Pos (atom 25 (0 ∷ []))) ∷ literal 12 (Pos (atom 23 (0 ∷ []))) ∷ []) ∷ [];
  clauses =
      record { head = atom 25 (0 ∷ []); body = literal 10 (Pos (atom 21 (0 ∷ []))) ∷ []; vars = 0; line = 10; kind = Branch }
      ∷ record { head = atom 25 (0 ∷ []); body = literal 11 (Pos (atom 22 (0 ∷ []))) ∷ []; vars = 0; line = 11; kind = Branch } ∷ [];
  kinds = groups.Or ∷ [];
}
unfolding moods atom
moods_draft = refl

-- `it is not the case that A`, whose variable stands in the conclusion: no group
poor : drafted false 22 (0 ∷ 0 ∷ []) (negation 5 (sentence 5 (atom 21 (0 ∷ [])))) ≡ record { bodies = body 5 (literal 5 (Neg (atom 21 (0 ∷ []))) ∷ []) ∷ []; clauses = []; kinds = [] }
unfolding atom
poor = refl

-- the same with a variable of its own: a group
poor_own : drafted false 22 (0 ∷ 0 ∷ 1 ∷ []) (negation 5 (sentence 5 (atom 21 (0 ∷ 1 ∷ [])))) ≡ record {
  bodies = body 5 (literal 5 (Neg (atom 22 (0 ∷ []))) ∷ []) ∷ [];
  clauses = record { head = atom 22 (0 ∷ []); body = literal 5 (Pos (atom 21 (0 ∷ 1 ∷ []))) ∷ []; vars = 0; line = 5; kind = Branch } ∷ [];
  kinds = groups.Not ∷ [];
}
unfolding atom
poor_own = refl

-- a `for all` whose second block is an atom alone
careful : Condition
careful = for_all 7 (sentence 8 (atom 21 (0 ∷ 1 ∷ []))) (sentence 10 (atom 22 (1 ∷ [])))

careful_draft : drafted false 23 (rule_vars (0 ∷ []) careful) careful ≡ record {
  bodies = body 7 (literal 7 (Neg (atom 23 (0 ∷ []))) ∷ []) ∷ [];
  clauses = record { head = atom 23 (0 ∷ []); body = literal 8 (Pos (atom 21 (0 ∷ 1 ∷ []))) ∷ literal 10 (Neg (atom 22 (1 ∷ []))) ∷ []; vars = 0; line = 8; kind = Branch } ∷ [];
  kinds = groups.Case ∷ [];
}
unfolding careful atom
careful_draft = refl

-- a sum: the variable of its value is an argument of its group
owes : drafted false 22 (0 ∷ 1 ∷ 1 ∷ 2 ∷ 0 ∷ 2 ∷ 3 ∷ []) (gather 6 Sum (variable 1) 2 (sentence 7 (atom 20 (0 ∷ 2 ∷ 3 ∷ [])))) ≡ record {
  bodies = body 6 (literal 6 (Gather Sum (variable 1) (variable 2) (atom 22 (0 ∷ 2 ∷ []))) ∷ []) ∷ [];
  clauses = record { head = atom 22 (0 ∷ 2 ∷ []); body = literal 7 (Pos (atom 20 (0 ∷ 2 ∷ 3 ∷ []))) ∷ []; vars = 0; line = 7; kind = Branch } ∷ [];
  kinds = groups.Value ∷ [];
}
unfolding atom
owes = refl

-- the group's clause with its variables numbered from 0
owes_numbered : numbered (record { head = atom 22 (0 ∷ 2 ∷ []); body = literal 7 (Pos (atom 20 (0 ∷ 2 ∷ 3 ∷ []))) ∷ []; vars = 0; line = 7; kind = Branch })
    ≡ record { head = atom 22 (0 ∷ 1 ∷ []); body = literal 7 (Pos (atom 20 (0 ∷ 1 ∷ 2 ∷ []))) ∷ []; vars = 3; line = 7; kind = Branch }
unfolding atom
owes_numbered = refl

-- over two values, of which the first owns the second and nothing is insured, the first isn't careful and the second is
is_value : ℕ → Tree → Bool
is_value n (constant m) = n == m
is_value n _ = false

is_pair : ℕ → ℕ → List Tree → Bool
is_pair m n (t ∷ u ∷ []) = is_value m t && is_value n u
is_pair m n _ = false

owned : Atom → Bool
owned a = (a.pred == 21) && is_pair 0 1 a.args

values : List Tree
values = constant 0 ∷ constant 1 ∷ []

first_not_careful : is_true values owned (rule_vars (0 ∷ []) careful) careful (λ v. constant 0) ≡ false
unfolding values owned is_pair is_value careful atom
first_not_careful = refl

second_careful : is_true values owned (rule_vars (0 ∷ []) careful) careful (λ v. constant 1) ≡ true
unfolding values owned is_pair is_value careful atom
second_careful = refl

body_first : is_body_true (meant values owned (drafted false 23 (rule_vars (0 ∷ []) careful) careful).clauses) (λ v. constant 0) (literals_of (drafted false 23 (rule_vars (0 ∷ []) careful) careful)) ≡ false
unfolding values owned is_pair is_value careful atom
body_first = refl

body_second : is_body_true (meant values owned (drafted false 23 (rule_vars (0 ∷ []) careful) careful).clauses) (λ v. constant 1) (literals_of (drafted false 23 (rule_vars (0 ∷ []) careful) careful)) ≡ true
unfolding values owned is_pair is_value careful atom
body_second = refl
