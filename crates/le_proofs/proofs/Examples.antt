-- Worked examples of the definitions.
use Rattle.std.proofs.Common.{◌≡◌, ℕ, List, [], ◌∷◌, refl, pos, map, Some}
use Rattle.le_base.specs.declared.stop.FoldKind.TheVariants.{Sum}
use Rattle.le_terms.specs.Tree.{Tree, constant, number, variable, cell, nil}
use Rattle.le_terms.specs.declared.program.Atom.{Atom}
use Rattle.le_terms.specs.declared.program.Clause.{Clause}
use Rattle.le_terms.specs.declared.program.ClauseKind.TheVariants.{Written}
use Rattle.le_terms.specs.declared.program.Form.{Form}
use Rattle.le_terms.specs.declared.program.Form.TheVariants.{Pos, Neg, Calc, Gather}
use Rattle.le_terms.specs.declared.program.Literal.{Literal}
use Rattle.le_terms.specs.declared.program.Program.{Program}
use Rattle.le_subst.specs.Solution.{run}
use Rattle.le_builtins.specs.Compute.{compute}
use Rattle.le_proofs.specs.declared.node.Node.TheVariants.{Use, Compute, Absent, Split, Branch, Present, Success}
use Rattle.le_proofs.specs.declared.node.Node.TheVariants.{Gather as Gather_node}
use Rattle.le_proofs.specs.Search.{tree, answers_of, end_of, used_of}
use Rattle.le_proofs.specs.Derivations.{Certificate, certificate_of}
use Rattle.le_proofs.specs.Visits.{visits_of, dead_of, first_difference}
use Rattle.le_proofs.specs.Visits as visits
use Rattle.le_proofs.specs.Replay.{Verdict, accepted, refused, verdict_of}
use Rattle.le_proofs.specs.declared.next.Next.TheVariants.{Done, Spent, Floundered, OutOfRange}

abbrev atom : ℕ → List Tree → Atom
atom pred args = record { pred = pred; args = args }

abbrev literal : ℕ → Form → Literal
literal line form = record { line = line; form = form }

abbrev clause : Atom → List Literal → Clause
clause head body = record { head = head; body = body; vars = 2; line = 1; kind = Written }

abbrev x : Tree
x = variable 0

abbrev y : Tree
y = variable 1

-- a program whose query asks for its first variable
abbrev program : ℕ → List Clause → List Literal → Program
program version clauses query = record { clauses = clauses; query = query; asked = record { name = []; var = 0 } ∷ []; vars = 1; users = 3; groups = []; version = version }

-- the same, and it asks for none
abbrev closed : ℕ → List Clause → List Literal → Program
closed version clauses query = record { clauses = clauses; query = query; asked = []; vars = 1; users = 3; groups = []; version = version }

-- K: happy(X) if rich(X) and calm(X); rich(Bob); calm(Bob); calm(Ann)
abbrev document_K : Program
document_K = program 1
    (clause (atom 20 (x ∷ [])) (literal 7 (Pos (atom 21 (x ∷ []))) ∷ literal 8 (Pos (atom 22 (x ∷ []))) ∷ [])
    ∷ clause (atom 21 (constant 0 ∷ [])) [] ∷ clause (atom 22 (constant 0 ∷ [])) [] ∷ clause (atom 22 (constant 1 ∷ [])) [] ∷ [])
    (literal 13 (Pos (atom 20 (x ∷ []))) ∷ [])

pub K_certificates : map certificate_of (answers_of document_K 10) ≡ record { values = constant 0 ∷ []; nodes = Use 1 2 (atom 20 (constant 0 ∷ [])) ∷ Use 2 0 (atom 21 (constant 0 ∷ [])) ∷ Use 3 0 (atom 22 (constant 0 ∷ [])) ∷ [] } ∷ []
unfolding tree run
K_certificates = refl

pub K_visits : visits_of document_K 10 100 ≡ visits.Split 1 ∷ visits.Branch 1 ∷ visits.Split 1 ∷ visits.Branch 2 ∷ visits.Split 1 ∷ visits.Branch 3 ∷ visits.Success ∷ []
unfolding tree run
K_visits = refl

pub K_end : end_of document_K 10 ≡ Done
unfolding tree run
K_end = refl

pub K_used : used_of document_K 10 ≡ 3
unfolding tree run
K_used = refl

-- lucky(X) if lucky(X), with five selections
abbrev lucky : Program
lucky = closed 1 (clause (atom 20 (x ∷ [])) (literal 4 (Pos (atom 20 (x ∷ []))) ∷ []) ∷ []) (literal 6 (Pos (atom 20 (constant 0 ∷ []))) ∷ [])

pub lucky_visits : visits_of lucky 5 100 ≡ visits.Split 1 ∷ visits.Branch 1 ∷ visits.Split 1 ∷ visits.Branch 1 ∷ visits.Split 1 ∷ visits.Branch 1 ∷ visits.Split 1 ∷ visits.Branch 1 ∷ visits.Split 1 ∷ visits.Branch 1 ∷ visits.Halt ∷ []
unfolding tree run
lucky_visits = refl

pub lucky_end : end_of lucky 5 ≡ Spent
unfolding tree run
lucky_end = refl

-- H: careful(X) if not uncovered(X); uncovered(X) if owns(X, Y) and not insured(Y)
abbrev document_H : Program
document_H = closed 1
    (clause (atom 20 (x ∷ [])) (literal 7 (Neg (atom 23 (x ∷ []))) ∷ [])
    ∷ clause (atom 23 (x ∷ [])) (literal 8 (Pos (atom 21 (x ∷ y ∷ []))) ∷ literal 10 (Neg (atom 22 (y ∷ []))) ∷ [])
    ∷ clause (atom 21 (constant 0 ∷ constant 1 ∷ [])) [] ∷ clause (atom 22 (constant 1 ∷ [])) [] ∷ [])
    (literal 15 (Pos (atom 20 (constant 2 ∷ []))) ∷ [])

pub H_certificates : map certificate_of (answers_of document_H 100) ≡ record { values = []; nodes = Use 1 1 (atom 20 (constant 2 ∷ [])) ∷ Absent (atom 23 (constant 2 ∷ [])) ∷ Split 1 ∷ Branch 2 ∷ Split 0 ∷ [] } ∷ []
unfolding tree run
H_certificates = refl

pub H_used : used_of document_H 100 ≡ 4
unfolding tree run
H_used = refl

-- J: owes(X, T) if T is the sum of each A such that group(X, A); group(X, A) if pays(X, A, Y)
abbrev document_J : Program
document_J = program 1
    (record { head = atom 21 (x ∷ y ∷ []); body = literal 6 (Gather Sum y (variable 2) (atom 22 (x ∷ variable 2 ∷ []))) ∷ []; vars = 3; line = 5; kind = Written }
    ∷ record { head = atom 22 (x ∷ y ∷ []); body = literal 7 (Pos (atom 20 (x ∷ y ∷ variable 2 ∷ []))) ∷ []; vars = 3; line = 7; kind = Written }
    ∷ clause (atom 20 (constant 0 ∷ number (pos 5) ∷ constant 1 ∷ [])) [] ∷ clause (atom 20 (constant 0 ∷ number (pos 5) ∷ constant 2 ∷ [])) [] ∷ [])
    (literal 11 (Pos (atom 21 (constant 0 ∷ x ∷ []))) ∷ [])

pub J_visits : visits_of document_J 100 100 ≡ visits.Split 1 ∷ visits.Branch 1 ∷ visits.Folded ∷ visits.Split 1 ∷ visits.Branch 2 ∷ visits.Split 2 ∷ visits.Branch 3 ∷ visits.Success ∷ visits.Branch 4 ∷ visits.Success ∷ visits.Success ∷ []
unfolding tree run
J_visits = refl

-- the atom holds a variable that the value lacks: X is bound there, so J goes on; its certificate
pub J_certificates : map certificate_of (answers_of document_J 100) ≡ record {
  values = number (pos 10) ∷ [];
  nodes =
      Use 1 1 (atom 21 (constant 0 ∷ number (pos 10) ∷ [])) ∷ Gather_node Sum (number (pos 10)) (variable 1) (atom 22 (constant 0 ∷ variable 1 ∷ []))
      ∷ Split 1 ∷ Branch 2 ∷ Split 2 ∷ Branch 3 ∷ Success ∷ Branch 4 ∷ Success ∷ [];
} ∷ []
unfolding tree run
J_certificates = refl

-- M: poor(X) if not rich(X) and known(X); known(Bob); known(Ann); rich(Bob)
abbrev document_M : ℕ → Program
document_M version = program version
    (clause (atom 20 (x ∷ [])) (literal 8 (Neg (atom 21 (x ∷ []))) ∷ literal 9 (Pos (atom 22 (x ∷ []))) ∷ [])
    ∷ clause (atom 22 (constant 0 ∷ [])) [] ∷ clause (atom 22 (constant 1 ∷ [])) [] ∷ clause (atom 21 (constant 0 ∷ [])) [] ∷ [])
    (literal 14 (Pos (atom 20 (x ∷ []))) ∷ [])

pub M_certificates : map certificate_of (answers_of (document_M 2) 100) ≡ record {
  values = constant 1 ∷ [];
  nodes =
      Use 1 2 (atom 20 (constant 1 ∷ [])) ∷ Absent (atom 21 (constant 1 ∷ [])) ∷ Split 0 ∷ Use 3 0 (atom 22 (constant 1 ∷ [])) ∷ [];
} ∷ []
unfolding tree run
M_certificates = refl

pub M_used : used_of (document_M 2) 100 ≡ 6
unfolding tree run
M_used = refl

pub M_first_version : end_of (document_M 1) 100 ≡ Floundered 8
unfolding tree run
M_first_version = refl

-- F in version 2: poor(X) if not rich(X)
abbrev document_F : Program
document_F = program 2 (clause (atom 20 (x ∷ [])) (literal 6 (Neg (atom 21 (x ∷ []))) ∷ []) ∷ []) (literal 8 (Pos (atom 20 (x ∷ []))) ∷ [])

pub F_flounders : end_of document_F 100 ≡ Floundered 6
unfolding tree run
F_flounders = refl

pub F_used : used_of document_F 100 ≡ 1
unfolding tree run
F_used = refl

-- X is 999999999999999999 plus 1, and 10^18 plus 1
abbrev sum_of : ℕ → Program
sum_of n = program 1 [] (literal 2 (Calc (atom 10 (x ∷ number (pos n) ∷ number (pos 1) ∷ []))) ∷ [])

pub in_range : map certificate_of (answers_of (sum_of 999999999999999999) 9) ≡ record { values = number (pos 1000000000000000000) ∷ []; nodes = Compute (atom 10 (number (pos 1000000000000000000) ∷ number (pos 999999999999999999) ∷ number (pos 1) ∷ [])) ∷ [] } ∷ []
unfolding tree run compute
in_range = refl

pub out_of_range : end_of (sum_of 1000000000000000000) 9 ≡ OutOfRange 2
unfolding tree run compute
out_of_range = refl

-- the row of the checker: lucky(X) if lucky(X), and lucky(Bob)
abbrev lucky_Bob : Program
lucky_Bob = closed 1 (clause (atom 20 (x ∷ [])) (literal 4 (Pos (atom 20 (x ∷ []))) ∷ []) ∷ clause (atom 20 (constant 0 ∷ [])) [] ∷ []) (literal 7 (Pos (atom 20 (constant 0 ∷ []))) ∷ [])

abbrev Bob : Atom
Bob = atom 20 (constant 0 ∷ [])

pub row_accepted : verdict_of lucky_Bob (Use 1 1 Bob ∷ Use 2 0 Bob ∷ []) ≡ accepted []
unfolding verdict_of run
row_accepted = refl

pub row_no_clause : verdict_of lucky_Bob (Use 1 1 Bob ∷ Use 7 0 Bob ∷ []) ≡ refused 2 1
unfolding verdict_of run
row_no_clause = refl

pub row_ended : verdict_of lucky_Bob (Use 1 1 Bob ∷ []) ≡ refused 2 9
unfolding verdict_of run
row_ended = refl

pub row_left : verdict_of lucky_Bob (Use 2 0 Bob ∷ Use 2 0 Bob ∷ []) ≡ refused 2 10
unfolding verdict_of run
row_left = refl

pub row_count : verdict_of lucky_Bob (Use 1 0 Bob ∷ []) ≡ refused 1 3
unfolding verdict_of run
row_count = refl

-- a head that doesn't unify; and a literal that isn't the instance
pub K_head : verdict_of document_K (Use 1 2 (atom 20 (constant 0 ∷ [])) ∷ Use 2 0 (atom 21 (constant 0 ∷ [])) ∷ Use 4 0 (atom 22 (constant 0 ∷ [])) ∷ []) ≡ refused 3 2
unfolding verdict_of run
K_head = refl

pub K_other : verdict_of document_K (Use 1 2 (atom 20 (constant 0 ∷ [])) ∷ Use 2 0 (atom 21 (constant 1 ∷ [])) ∷ Use 3 0 (atom 22 (constant 0 ∷ [])) ∷ []) ≡ refused 2 8
unfolding verdict_of run
K_other = refl

-- what the search gives is accepted
abbrev checks : Program → Certificate → Verdict
checks program answer = verdict_of program answer.nodes

pub K_checked : map (checks document_K) (map certificate_of (answers_of document_K 10)) ≡ accepted (constant 0 ∷ []) ∷ []
unfolding verdict_of tree run
K_checked = refl

pub H_checked : map (checks document_H) (map certificate_of (answers_of document_H 10)) ≡ accepted [] ∷ []
unfolding verdict_of tree run
H_checked = refl

pub J_checked : map (checks document_J) (map certificate_of (answers_of document_J 10)) ≡ accepted (number (pos 10) ∷ []) ∷ []
unfolding verdict_of tree run
J_checked = refl

pub M_checked : map (checks (document_M 2)) (map certificate_of (answers_of (document_M 2) 10)) ≡ accepted (constant 1 ∷ []) ∷ []
unfolding verdict_of tree run
M_checked = refl

-- version 1 would refuse it at the negation, whose atom isn't ground yet
pub M_not_first : map (checks (document_M 1)) (map certificate_of (answers_of (document_M 2) 10)) ≡ refused 2 4 ∷ []
unfolding verdict_of tree run
M_not_first = refl

-- the search of K, with a wrong count, and with one node less
pub K_search : first_difference 1 (visits.Split 1 ∷ visits.Branch 1 ∷ visits.Split 1 ∷ visits.Branch 2 ∷ visits.Split 0 ∷ visits.Branch 3 ∷ visits.Success ∷ []) (visits_of document_K 10 100) ≡ Some (5, 6)
unfolding tree run
K_search = refl

-- the atom that is asked for
pub K_dead : dead_of (program 1 (clause (atom 20 (x ∷ [])) (literal 7 (Pos (atom 21 (x ∷ []))) ∷ literal 8 (Pos (atom 22 (x ∷ []))) ∷ []) ∷ clause (atom 21 (constant 0 ∷ [])) [] ∷ clause (atom 22 (constant 1 ∷ [])) [] ∷ []) (literal 13 (Pos (atom 20 (x ∷ []))) ∷ [])) 10 100
    ≡ atom 22 (constant 0 ∷ []) ∷ []
unfolding tree run
K_dead = refl

-- p(X) if not q and w(X); q if not r(Bob); r(X) if u(Y, X); u([X], Y); w([X]): the variable of a proof below `Present` is another than that of the answer, though both have the same number in their searches
abbrev two_searches : Program
two_searches = program 1
    (clause (atom 20 (x ∷ [])) (literal 1 (Neg (atom 21 [])) ∷ literal 2 (Pos (atom 24 (x ∷ []))) ∷ [])
    ∷ clause (atom 21 []) (literal 3 (Neg (atom 22 (constant 0 ∷ []))) ∷ [])
    ∷ clause (atom 22 (x ∷ [])) (literal 4 (Pos (atom 23 (y ∷ x ∷ []))) ∷ [])
    ∷ clause (atom 23 (cell x nil ∷ y ∷ [])) [] ∷ clause (atom 24 (cell x nil ∷ [])) [] ∷ [])
    (literal 5 (Pos (atom 20 (x ∷ []))) ∷ [])

pub two_searches_certificate : map certificate_of (answers_of two_searches 100) ≡ record {
  values = cell (variable 1) nil ∷ [];
  nodes =
      Use 1 2 (atom 20 (cell (variable 1) nil ∷ [])) ∷ Absent (atom 21 []) ∷ Split 1 ∷ Branch 2 ∷ Present ∷ Use 3 1 (atom 22 (constant 0 ∷ [])) ∷ Use 4 0 (atom 23 (cell (variable 2) nil ∷ constant 0 ∷ []))
      ∷ Use 5 0 (atom 24 (cell (variable 1) nil ∷ [])) ∷ [];
} ∷ []
unfolding tree run
two_searches_certificate = refl

pub two_searches_checked : map (checks two_searches) (map certificate_of (answers_of two_searches 100)) ≡ accepted (cell (variable 1) nil ∷ []) ∷ []
unfolding verdict_of tree run
two_searches_checked = refl

-- a split that doesn't list a clause whose head unifies
pub H_split : verdict_of document_H (Use 1 1 (atom 20 (constant 2 ∷ [])) ∷ Absent (atom 23 (constant 2 ∷ [])) ∷ Split 0 ∷ []) ≡ refused 3 6
unfolding verdict_of run
H_split = refl

-- p if not q, and q: a success leaf in the failed tree
pub a_leaf : verdict_of (closed 1 (clause (atom 20 []) (literal 1 (Neg (atom 21 [])) ∷ []) ∷ clause (atom 21 []) [] ∷ []) (literal 2 (Pos (atom 20 [])) ∷ [])) (Use 1 1 (atom 20 []) ∷ Absent (atom 21 []) ∷ Split 1 ∷ Branch 2 ∷ Success ∷ []) ≡ refused 5 5
unfolding verdict_of run
a_leaf = refl

-- 1 is greater than 2
pub no_computation : verdict_of (closed 1 [] (literal 1 (Calc (atom 2 (number (pos 1) ∷ number (pos 2) ∷ []))) ∷ [])) (Compute (atom 2 (number (pos 1) ∷ number (pos 2) ∷ [])) ∷ []) ≡ refused 1 7
unfolding verdict_of run compute
no_computation = refl

-- in version 2 the cut comes first: a node of another role goes before a clause that doesn't unify
pub M_cut : verdict_of (document_M 2) (Use 2 2 (atom 20 (constant 1 ∷ [])) ∷ Split 0 ∷ []) ≡ refused 2 3
unfolding verdict_of run
M_cut = refl

pub M_ended : verdict_of (document_M 2) (Use 1 2 (atom 20 (constant 1 ∷ [])) ∷ Absent (atom 21 (constant 1 ∷ [])) ∷ Split 0 ∷ []) ≡ refused 4 9
unfolding verdict_of run
M_ended = refl
