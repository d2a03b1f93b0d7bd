-- Conditions as literals and clauses: each group of conditions has an auxiliary predicate (after Lloyd and Topor, Making Prolog more expressive, 1984). The groups, their arguments and their numbers are this project's profile.
use Rattle.std.specs.Prelude.{ℕ, zero, suc, ◌+◌, ◌==◌, ◌&&◌, Bool, true, false, not, if◌then◌else◌, nat_lt, List, [], ◌∷◌, ◌++◌, map, filter, length}
use Rattle.std.specs.List.{list_all, list_any}
use Rattle.le_terms.specs.Tree.{Tree, variable}
use Rattle.le_terms.specs.Variables.{firsts, all_occurrences, all_variables}
use Rattle.le_terms.specs.Program.{clause_terms, computed_count}
use Rattle.le_terms.specs.declared.program.Atom.{Atom}
use Rattle.le_terms.specs.declared.program.Form.{Form}
use Rattle.le_terms.specs.declared.program.Form.TheVariants.{Pos, Neg, Calc, Gather}
use Rattle.le_terms.specs.declared.program.Literal.{Literal}
use Rattle.le_terms.specs.declared.program.Clause.{Clause}
use Rattle.le_terms.specs.declared.program.ClauseKind.TheVariants.{Written, Branch}
use Rattle.le_terms.specs.declared.program.GroupKind.{GroupKind}
use Rattle.le_terms.specs.declared.program.GroupKind.TheVariants as groups
use Rattle.le_proofs.specs.Goals.{atom_under, literals_under}
use Rattle.le_clauses.specs.declared.draft.Body.{Body}
use Rattle.le_clauses.specs.declared.draft.Draft.{Draft}
use Rattle.le_clauses.specs.Conditions.{Condition, Conditions, sentence, all, some, negation, for_all, gather, none, more, line_of, line_of_first, occurring}

-- whether a number is in a list
abbrev pub has : List ℕ → ℕ → Bool
has ns n = list_any (λ m. m == n) ns

-- how often a number stands in a list
abbrev pub count_in : List ℕ → ℕ → ℕ
count_in [] n = 0
count_in (m ∷ ms) n = if m == n then suc (count_in ms n) else count_in ms n

-- a variable of a group also occurs outside it where it occurs more often in the rule, of whose variables each occurrence is listed
abbrev pub is_outside : List ℕ → Condition → ℕ → Bool
is_outside rule c v = nat_lt (count_in (occurring c) v) (count_in rule v)

-- the variables of a group that also occur outside it, in order of first occurrence in the group: the arguments of its predicate
abbrev pub shared : List ℕ → Condition → List ℕ
shared rule c = filter (is_outside rule c) (firsts (occurring c))

-- the own variables of a group: those with no occurrence outside it
abbrev pub own : List ℕ → Condition → List ℕ
own rule c = filter (λ v. not (is_outside rule c v)) (firsts (occurring c))

-- the atom of an auxiliary predicate
abbrev pub group_atom : ℕ → List ℕ → Atom
group_atom pred vars = record { pred = pred; args = map variable vars }

abbrev pub is_computed : Atom → Bool
is_computed atom = nat_lt atom.pred computed_count

-- a group that is one sentence of a predicate that isn't computed, each of whose variables also occurs outside, has no auxiliary predicate: its atom is used
abbrev pub is_atom_alone : List ℕ → Condition → Bool
is_atom_alone rule (sentence line atom) = not (is_computed atom) && list_all (is_outside rule (sentence line atom)) (all_occurrences atom.args)
is_atom_alone rule _ = false

-- the atom that stands for a group, whose auxiliary predicate would be this one
abbrev pub group_target : ℕ → List ℕ → Condition → Atom
group_target pred rule (sentence line atom) = if is_atom_alone rule (sentence line atom) then atom else group_atom pred (shared rule (sentence line atom))
group_target pred rule c = group_atom pred (shared rule c)

abbrev pub body : ℕ → List Literal → Body
body line literals = record { line = line; literals = literals }

abbrev pub literal : ℕ → Form → Literal
literal line form = record { line = line; form = form }

-- a single body of literals
abbrev pub one_body : ℕ → List Literal → List Clause → List GroupKind → Draft
one_body line literals clauses kinds = record { bodies = body line literals ∷ []; clauses = clauses; kinds = kinds }

-- the literals of what has one body
abbrev pub literals_in : List Body → List Literal
literals_in [] = []
literals_in (b ∷ bs) = b.literals

abbrev pub literals_of : Draft → List Literal
literals_of d = literals_in d.bodies

-- a clause of an auxiliary predicate, whose variables are those of the rule
abbrev pub branch_clause : Atom → Body → Clause
branch_clause head b = record { head = head; body = b.literals; vars = 0; line = b.line; kind = Branch }

-- the clauses of an auxiliary predicate, one for each body
abbrev pub group_clauses : Atom → Draft → List Clause
group_clauses head d = map (branch_clause head) d.bodies

-- the group of an inside or of a second block: the atom that stands for it, and its clauses and kinds
pub record Group : Type 0 where
  pub atom : Atom
  pub clauses : List Clause
  pub kinds : List GroupKind

abbrev pub group_by : GroupKind → ℕ → List ℕ → Condition → Draft → Group
group_by kind pred rule c d =
    if is_atom_alone rule c then record { atom = group_target pred rule c; clauses = []; kinds = [] }
    else record { atom = group_target pred rule c; clauses = group_clauses (group_atom pred (shared rule c)) d ++ d.clauses; kinds = kind ∷ d.kinds }

-- the literal of an atom of a sentence
abbrev pub sentence_form : Atom → Form
sentence_form atom = if is_computed atom then Calc atom else Pos atom

-- What a condition is translated to, where the next group's predicate is this one and these are the occurrences of variables in the rule.
-- Where it is the whole of a group, a disjunction is that group and no further one.
abbrev mutual
  pub drafted : Bool → ℕ → List ℕ → Condition → Draft
  drafted whole pred rule (sentence line atom) = one_body line (literal line (sentence_form atom) ∷ []) [] []
  drafted whole pred rule (all cs) = members_drafted pred rule cs
  drafted whole pred rule (some cs) =
      if whole then branches_drafted pred rule cs
      else (let head = group_atom pred (shared rule (some cs)) in
      let d = branches_drafted (pred + 1) rule cs in
      one_body (line_of_first cs) (literal (line_of_first cs) (Pos head) ∷ []) (group_clauses head d ++ d.clauses) (groups.Or ∷ d.kinds))
  drafted whole pred rule (negation line c) =
      let g = group_by groups.Not pred rule c (drafted true (pred + 1) rule c) in
      one_body line (literal line (Neg g.atom) ∷ []) g.clauses g.kinds
  drafted whole pred rule (for_all line c d) =
      let head = group_atom pred (shared rule (for_all line c d)) in
      let first = drafted false (pred + 1) rule c in
      let next = pred + 1 + length first.kinds in
      let second = group_by groups.Not next rule d (drafted true (next + 1) rule d) in
      one_body line (literal line (Neg head) ∷ [])
      (branch_clause head (body (line_of c) (literals_of first ++ literal (line_of d) (Neg second.atom) ∷ [])) ∷ (first.clauses ++ second.clauses))
      (groups.Case ∷ (first.kinds ++ second.kinds))
  drafted whole pred rule (gather line fold result value c) =
      let g = group_by groups.Value pred rule c (drafted true (pred + 1) rule c) in
      one_body line (literal line (Gather fold result (variable value) g.atom) ∷ []) g.clauses g.kinds

  -- the literals of the members of a conjunction, one after another
  pub members_drafted : ℕ → List ℕ → Conditions → Draft
  members_drafted pred rule none = one_body 0 [] [] []
  members_drafted pred rule (more c cs) =
      let first = drafted false pred rule c in
      let rest = members_drafted (pred + length first.kinds) rule cs in
      one_body (line_of c) (literals_of first ++ literals_of rest) (first.clauses ++ rest.clauses) (first.kinds ++ rest.kinds)

  -- the bodies of the branches of a disjunction
  pub branches_drafted : ℕ → List ℕ → Conditions → Draft
  branches_drafted pred rule none = record { bodies = []; clauses = []; kinds = [] }
  branches_drafted pred rule (more c cs) =
      let first = drafted false pred rule c in
      let rest = branches_drafted (pred + length first.kinds) rule cs in
      record { bodies = body (line_of c) (literals_of first) ∷ rest.bodies; clauses = first.clauses ++ rest.clauses; kinds = first.kinds ++ rest.kinds }

-- the place of a number in a list, from 0
abbrev pub number_in : List ℕ → ℕ → ℕ
number_in [] v = 0
number_in (u ∷ us) v = if u == v then 0 else suc (number_in us v)

-- a clause whose variables are numbered from 0 in order of first occurrence in head and body
abbrev pub numbered : Clause → Clause
numbered clause =
    let vars = all_variables (clause_terms clause) in
    let by : ℕ → Tree = λ v. variable (number_in vars v) in
    record { head = atom_under by clause.head; body = literals_under by clause.body; vars = length vars; line = clause.line; kind = clause.kind }

-- the number at a place of a list, from 0
abbrev pub at_place : List ℕ → ℕ → ℕ
at_place [] k = 0
at_place (u ∷ us) zero = u
at_place (u ∷ us) (suc k) = at_place us k

-- each occurrence of a variable in a rule; in a query those that it asks for stand for the head's
abbrev pub rule_vars : List ℕ → Condition → List ℕ
rule_vars head c = head ++ occurring c

-- what a rule's conditions are translated to
abbrev pub rule_draft : ℕ → Atom → Condition → Draft
rule_draft pred head c = drafted false pred (rule_vars (all_occurrences head.args) c) c

-- the written clause of a rule, before its variables are numbered
abbrev pub written_clause : ℕ → Atom → Draft → Clause
written_clause line head d = record { head = head; body = literals_of d; vars = 0; line = line; kind = Written }
