-- The translation of conditions as two walks over their parts do it: one from the first to the last, which finds how each part stands and the predicate of the next group, and one from the last to the first, which translates. Callers don't need it.
use Rattle.std.specs.Prelude.{ℕ, zero, suc, ◌+◌, Bool, true, false, not, if◌then◌else◌, nat_lt, Option, None, Some, List, [], ◌∷◌, ◌++◌, map, filter, flat_map, length}
use Rattle.le_terms.specs.Tree.{variable}
use Rattle.le_terms.specs.Variables.{firsts, occurrences, all_occurrences}
use Rattle.le_terms.specs.declared.program.Atom.{Atom}
use Rattle.le_terms.specs.declared.program.Form.TheVariants.{Pos, Neg, Gather}
use Rattle.le_terms.specs.declared.program.Clause.{Clause}
use Rattle.le_terms.specs.declared.program.GroupKind.{GroupKind}
use Rattle.le_terms.specs.declared.program.GroupKind.TheVariants as groups
use Rattle.le_clauses.specs.declared.part.Part.{Part}
use Rattle.le_clauses.specs.declared.part.Part.TheVariants as parts
use Rattle.le_clauses.specs.declared.draft.Draft.{Draft}
use Rattle.le_clauses.specs.declared.draft.Mark.{Mark}
use Rattle.le_clauses.specs.declared.draft.Done.{Done}
use Rattle.le_clauses.specs.Conditions.{sentence}
use Rattle.le_clauses.specs.Groups.{count_in, is_atom_alone, group_atom, body, literal, one_body, literals_of, branch_clause, group_clauses, sentence_form}

-- so many members
abbrev pub members : ℕ → List (Option GroupKind)
members zero = []
members (suc n) = None ∷ members n

-- how the conditions below a part stand: as members, or as the whole of a group
abbrev pub below : Part → List (Option GroupKind)
below p = elim p [
  | parts.Sentence line atom ↦ []
  | parts.And n ↦ members n
  | parts.Or n ↦ members n
  | parts.Not line ↦ Some groups.Not ∷ []
  | parts.ForAll line ↦ None ∷ Some groups.Not ∷ []
  | parts.Gather line fold result value ↦ Some groups.Value ∷ []
]

-- whether a part is an atom that stands for its group
abbrev pub is_alone : List ℕ → Part → Bool
is_alone rule (parts.Sentence line atom) = is_atom_alone rule (sentence line atom)
is_alone rule _ = false

-- whether a part that stands so is the whole of a group with a predicate
abbrev pub begins_group : List ℕ → Option GroupKind → Part → Bool
begins_group rule None p = false
begins_group rule (Some kind) p = not (is_alone rule p)

abbrev pub one_if : Bool → ℕ
one_if b = if b then 1 else 0

abbrev pub is_whole : Option GroupKind → Bool
is_whole None = false
is_whole (Some kind) = true

-- how many further groups a part is: a `for all` is one, and so is a disjunction that isn't the whole of one
abbrev pub own_groups : Bool → Part → ℕ
own_groups whole (parts.ForAll line) = 1
own_groups whole (parts.Or n) = one_if (not whole)
own_groups whole _ = 0

-- the marks of parts, the next of which stand so
abbrev pub marked : List ℕ → List (Option GroupKind) → ℕ → List Part → List Mark
marked rule modes pred [] = []
marked rule [] pred (p ∷ ps) = []
marked rule (mode ∷ modes) pred (p ∷ ps) =
    record { part = p; mode = mode; pred = pred }
    ∷ marked rule (below p ++ modes) (pred + one_if (begins_group rule mode p) + own_groups (is_whole mode) p) ps

abbrev pub nothing : Done
nothing = record { line = 0; vars = []; literals = []; atom = group_atom 0 []; clauses = []; kinds = [] }

abbrev pub first_done : List Done → Done
first_done [] = nothing
first_done (d ∷ ds) = d

abbrev pub rest_done : List Done → List Done
rest_done [] = []
rest_done (d ∷ ds) = ds

abbrev pub take_done : ℕ → List Done → List Done
take_done zero ds = []
take_done (suc n) ds = first_done ds ∷ take_done n (rest_done ds)

abbrev pub drop_done : ℕ → List Done → List Done
drop_done zero ds = ds
drop_done (suc n) ds = drop_done n (rest_done ds)

-- the variables of a part and of what stands below it
abbrev pub vars_by : Part → List Done → List ℕ
vars_by (parts.Sentence line atom) ds = all_occurrences atom.args
vars_by (parts.And n) ds = flat_map (λ (d : Done). d.vars) (take_done n ds)
vars_by (parts.Or n) ds = flat_map (λ (d : Done). d.vars) (take_done n ds)
vars_by (parts.Not line) ds = (first_done ds).vars
vars_by (parts.ForAll line) ds = (first_done ds).vars ++ (first_done (rest_done ds)).vars
vars_by (parts.Gather line fold result value) ds = occurrences result ++ value ∷ (first_done ds).vars

abbrev pub line_by : Part → List Done → ℕ
line_by (parts.Sentence line atom) ds = line
line_by (parts.And n) ds = (first_done (take_done n ds)).line
line_by (parts.Or n) ds = (first_done (take_done n ds)).line
line_by (parts.Not line) ds = line
line_by (parts.ForAll line) ds = line
line_by (parts.Gather line fold result value) ds = line

-- the atom of a group with these variables
abbrev pub head_by : List ℕ → ℕ → List ℕ → Atom
head_by rule pred vars = group_atom pred (filter (λ v. nat_lt (count_in vars v) (count_in rule v)) (firsts vars))

abbrev pub clauses_in : List Done → List Clause
clauses_in ds = flat_map (λ (d : Done). d.clauses) ds

abbrev pub kinds_in : List Done → List GroupKind
kinds_in ds = flat_map (λ (d : Done). d.kinds) ds

-- what is made of a part and of what stands below it, where the next group inside has this predicate
abbrev pub draft_by : List ℕ → Bool → ℕ → Part → List Done → Draft
draft_by rule whole pred (parts.Sentence line atom) ds = one_body line (literal line (sentence_form atom) ∷ []) [] []
draft_by rule whole pred (parts.And n) ds =
    let taken = take_done n ds in
    one_body (first_done taken).line (flat_map (λ (d : Done). d.literals) taken) (clauses_in taken) (kinds_in taken)
draft_by rule whole pred (parts.Or n) ds =
    let taken = take_done n ds in
    let d : Draft = record { bodies = map (λ (x : Done). body x.line x.literals) taken; clauses = clauses_in taken; kinds = kinds_in taken } in
    let head = head_by rule pred (vars_by (parts.Or n) ds) in
    if whole then d
    else one_body (first_done taken).line (literal (first_done taken).line (Pos head) ∷ []) (group_clauses head d ++ d.clauses) (groups.Or ∷ d.kinds)
draft_by rule whole pred (parts.Not line) ds =
    let g = first_done ds in
    one_body line (literal line (Neg g.atom) ∷ []) g.clauses g.kinds
draft_by rule whole pred (parts.ForAll line) ds =
    let first = first_done ds in
    let second = first_done (rest_done ds) in
    let head = head_by rule pred (vars_by (parts.ForAll line) ds) in
    one_body line (literal line (Neg head) ∷ [])
    (branch_clause head (body first.line (first.literals ++ literal second.line (Neg second.atom) ∷ [])) ∷ (first.clauses ++ second.clauses))
    (groups.Case ∷ (first.kinds ++ second.kinds))
draft_by rule whole pred (parts.Gather line fold result value) ds =
    let g = first_done ds in
    one_body line (literal line (Gather fold result (variable value) g.atom) ∷ []) g.clauses g.kinds

-- the atom of a part that stands for its group
abbrev pub alone_atom : Part → Atom
alone_atom (parts.Sentence line atom) = atom
alone_atom _ = group_atom 0 []

-- a condition done, as it stands
abbrev pub done_by : Option GroupKind → Bool → Atom → Part → ℕ → List ℕ → Draft → Done
done_by None begins head p line vars d = record { line = line; vars = vars; literals = literals_of d; atom = group_atom 0 []; clauses = d.clauses; kinds = d.kinds }
done_by (Some kind) begins head p line vars d =
    if begins then record { line = line; vars = vars; literals = []; atom = head; clauses = group_clauses head d ++ d.clauses; kinds = kind ∷ d.kinds }
    else record { line = line; vars = vars; literals = []; atom = alone_atom p; clauses = []; kinds = [] }

abbrev pub left_by : Part → List Done → List Done
left_by p ds = drop_done (length (below p)) ds

-- a part before the conditions that are done after it
abbrev pub with_mark : List ℕ → Mark → List Done → List Done
with_mark rule m ds =
    let begins = begins_group rule m.mode m.part in
    done_by m.mode begins (head_by rule m.pred (vars_by m.part ds)) m.part (line_by m.part ds) (vars_by m.part ds)
    (draft_by rule (is_whole m.mode) (m.pred + one_if begins) m.part ds)
    ∷ left_by m.part ds

-- the conditions of marked parts, done
abbrev pub dones : List ℕ → List Mark → List Done
dones rule [] = []
dones rule (m ∷ ms) = with_mark rule m (dones rule ms)
