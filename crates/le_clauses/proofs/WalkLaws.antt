-- The two walks over the parts of a condition translate it as its definition does.
use Rattle.std.proofs.Common.{◌≡◌, ℕ, zero, suc, ◌+◌, Bool, true, false, not, cond, Option, Some, None, List, [], ◌∷◌, ◌++◌, map, flat_map, length, refl, sym, ap, ◌∙◌, arith, append_assoc, append-nil, length-append}
use Rattle.le_terms.specs.Variables.{all_occurrences}
use Rattle.le_terms.specs.declared.program.Atom.{Atom}
use Rattle.le_terms.specs.declared.program.Form.TheVariants.{Pos}
use Rattle.le_terms.specs.declared.program.GroupKind.{GroupKind}
use Rattle.le_terms.specs.declared.program.GroupKind.TheVariants as groups
use Rattle.le_clauses.specs.declared.draft.Draft.{Draft}
use Rattle.le_clauses.specs.declared.draft.Mark.{Mark}
use Rattle.le_clauses.specs.declared.draft.Done.{Done}
use Rattle.le_clauses.specs.declared.part.Part.{Part}
use Rattle.le_clauses.specs.declared.part.Part.TheVariants as parts
use Rattle.le_clauses.specs.Conditions.{Condition, Conditions, sentence, all, some, negation, for_all, gather, none, more, line_of, line_of_first, occurring, all_occurring, first_of, taken, left, with_part, conditions_of, condition_of}
use Rattle.le_clauses.specs.Groups.{is_atom_alone, group_atom, shared, group_by, Group, body, literal, one_body, literals_of, group_clauses, drafted, members_drafted, branches_drafted}
use Rattle.le_clauses.specs.Walks.{members, begins_group, one_if, is_whole, marked, first_done, take_done, drop_done, vars_by, line_by, head_by, clauses_in, kinds_in, draft_by, done_by, left_by, with_mark, dones}

-- how many conditions there are
abbrev pub count_of : Conditions → ℕ
count_of none = 0
count_of (more c cs) = suc (count_of cs)

-- the parts of a condition in preorder
abbrev mutual
  pub parts_of : Condition → List Part
  parts_of (sentence line atom) = parts.Sentence line atom ∷ []
  parts_of (all cs) = parts.And (count_of cs) ∷ parts_each cs
  parts_of (some cs) = parts.Or (count_of cs) ∷ parts_each cs
  parts_of (negation line c) = parts.Not line ∷ parts_of c
  parts_of (for_all line c d) = parts.ForAll line ∷ (parts_of c ++ parts_of d)
  parts_of (gather line fold result value c) = parts.Gather line fold result value ∷ parts_of c

  pub parts_each : Conditions → List Part
  parts_each none = []
  parts_each (more c cs) = parts_of c ++ parts_each cs

-- what a condition that stands so is done to
abbrev pub done_of : List ℕ → Option GroupKind → ℕ → Condition → Done
done_of rule None pred c =
    let d = drafted false pred rule c in
    record { line = line_of c; vars = occurring c; literals = literals_of d; atom = group_atom 0 []; clauses = d.clauses; kinds = d.kinds }
done_of rule (Some kind) pred c =
    let g = group_by kind pred rule c (drafted true (pred + 1) rule c) in
    record { line = line_of c; vars = occurring c; literals = []; atom = g.atom; clauses = g.clauses; kinds = g.kinds }

-- members, one after another
abbrev pub dones_each : List ℕ → ℕ → Conditions → List Done
dones_each rule pred none = []
dones_each rule pred (more c cs) =
    let d = done_of rule None pred c in
    d ∷ dones_each rule (pred + length d.kinds) cs

taken_all : (rule : List ℕ) (pred : ℕ) (cs : Conditions) (ds : List Done) → take_done (count_of cs) (dones_each rule pred cs ++ ds) ≡ dones_each rule pred cs
taken_all rule pred none ds = refl
taken_all rule pred (more c cs) ds = ap (λ xs. done_of rule None pred c ∷ xs) (taken_all rule (pred + length (drafted false pred rule c).kinds) cs ds)

dropped_all : (rule : List ℕ) (pred : ℕ) (cs : Conditions) (ds : List Done) → drop_done (count_of cs) (dones_each rule pred cs ++ ds) ≡ ds
dropped_all rule pred none ds = refl
dropped_all rule pred (more c cs) ds = dropped_all rule (pred + length (drafted false pred rule c).kinds) cs ds

members_length : (n : ℕ) → length (members n) ≡ n
members_length zero = refl
members_length (suc n) = ap suc (members_length n)

vars_each : (rule : List ℕ) (pred : ℕ) (cs : Conditions) → flat_map (λ (d : Done). d.vars) (dones_each rule pred cs) ≡ all_occurring cs
vars_each rule pred none = refl
vars_each rule pred (more c cs) = ap (λ vs. occurring c ++ vs) (vars_each rule (pred + length (drafted false pred rule c).kinds) cs)

line_each : (rule : List ℕ) (pred : ℕ) (cs : Conditions) → (first_done (dones_each rule pred cs)).line ≡ line_of_first cs
line_each rule pred none = refl
line_each rule pred (more c cs) = refl

-- the draft that members make, and the one that branches make
joined : List Done → Draft
joined ds = one_body (first_done ds).line (flat_map (λ (d : Done). d.literals) ds) (clauses_in ds) (kinds_in ds)

branched : List Done → Draft
branched ds = record { bodies = map (λ (x : Done). body x.line x.literals) ds; clauses = clauses_in ds; kinds = kinds_in ds }

members_same : (rule : List ℕ) (pred : ℕ) (cs : Conditions) → joined (dones_each rule pred cs) ≡ members_drafted pred rule cs
unfolding joined
members_same rule pred none = refl
members_same rule pred (more c cs) =
    let first = drafted false pred rule c in
    ap (λ (rest : Draft). one_body (line_of c) (literals_of first ++ literals_of rest) (first.clauses ++ rest.clauses) (first.kinds ++ rest.kinds))
    (members_same rule (pred + length first.kinds) cs)

branches_same : (rule : List ℕ) (pred : ℕ) (cs : Conditions) → branched (dones_each rule pred cs) ≡ branches_drafted pred rule cs
unfolding branched
branches_same rule pred none = refl
branches_same rule pred (more c cs) =
    let first = drafted false pred rule c in
    let next : Draft → Draft = λ rest. record { bodies = body (line_of c) (literals_of first) ∷ rest.bodies; clauses = first.clauses ++ rest.clauses; kinds = first.kinds ++ rest.kinds } in
    ap next (branches_same rule (pred + length first.kinds) cs)

kinds_members : (rule : List ℕ) (pred : ℕ) (cs : Conditions) → kinds_in (dones_each rule pred cs) ≡ (members_drafted pred rule cs).kinds
unfolding joined
kinds_members rule pred cs = ap (λ (d : Draft). d.kinds) (members_same rule pred cs)

kinds_branches : (rule : List ℕ) (pred : ℕ) (cs : Conditions) → kinds_in (dones_each rule pred cs) ≡ (branches_drafted pred rule cs).kinds
unfolding branched
kinds_branches rule pred cs = ap (λ (d : Draft). d.kinds) (branches_same rule pred cs)

-- a part before what is done after it, where the next group inside has this predicate
abbrev with_pred : List ℕ → Mark → ℕ → List Done → List Done
with_pred rule m n ds =
    done_by m.mode (begins_group rule m.mode m.part) (head_by rule m.pred (vars_by m.part ds)) m.part (line_by m.part ds) (vars_by m.part ds)
    (draft_by rule (is_whole m.mode) n m.part ds)
    ∷ left_by m.part ds

with_mark_at : (rule : List ℕ) (m : Mark) (n : ℕ) (ds es : List Done) → m.pred + one_if (begins_group rule m.mode m.part) ≡ n → ds ≡ es → with_mark rule m ds ≡ with_pred rule m n es
with_mark_at rule m n ds es e f = ap (λ k. with_pred rule m k ds) e ∙ ap (with_pred rule m n) f

at_pred : (rule : List ℕ) (modes : List (Option GroupKind)) (n m : ℕ) (ps : List Part) → n ≡ m → dones rule (marked rule modes n ps) ≡ dones rule (marked rule modes m ps)
at_pred rule modes n m ps e = ap (λ k. dones rule (marked rule modes k ps)) e

-- what is done of several as a member, by their draft
several_done : ℕ → List ℕ → Draft → Done
several_done line vars d = record { line = line; vars = vars; literals = literals_of d; atom = group_atom 0 []; clauses = d.clauses; kinds = d.kinds }

-- and as the whole of a group
whole_done : GroupKind → List ℕ → ℕ → ℕ → List ℕ → Draft → Done
whole_done kind rule pred line vars d = record { line = line; vars = vars; literals = []; atom = head_by rule pred vars; clauses = group_clauses (head_by rule pred vars) d ++ d.clauses; kinds = kind ∷ d.kinds }

-- the group of a sentence, by whether its atom is used
sentence_group : List ℕ → GroupKind → ℕ → ℕ → Atom → Draft → Bool → Group
sentence_group rule kind pred line atom d b =
    cond b (record { atom = cond b atom (group_atom pred (shared rule (sentence line atom))); clauses = []; kinds = [] })
    (record { atom = cond b atom (group_atom pred (shared rule (sentence line atom))); clauses = group_clauses (group_atom pred (shared rule (sentence line atom))) d ++ d.clauses; kinds = kind ∷ d.kinds })

group_done : ℕ → List ℕ → Group → Done
group_done line vars g = record { line = line; vars = vars; literals = []; atom = g.atom; clauses = g.clauses; kinds = g.kinds }

sentence_whole : (rule : List ℕ) (kind : GroupKind) (modes : List (Option GroupKind)) (pred line : ℕ) (atom : Atom) (rest : List Part) (d : Draft) (b : Bool) → d.kinds ≡ []
    → done_by (Some kind) (not b) (head_by rule pred (all_occurrences atom.args)) (parts.Sentence line atom) line (all_occurrences atom.args) d ∷ dones rule (marked rule modes (pred + one_if (not b) + 0) rest)
    ≡ group_done line (all_occurrences atom.args) (sentence_group rule kind pred line atom d b) ∷ dones rule (marked rule modes (pred + length (sentence_group rule kind pred line atom d b).kinds) rest)
unfolding sentence_group group_done
sentence_whole rule kind modes pred line atom rest d true e = ap (λ xs. group_done line (all_occurrences atom.args) (sentence_group rule kind pred line atom d true) ∷ xs) (at_pred rule modes (pred + 0 + 0) (pred + 0) rest (omega arith))
sentence_whole rule kind modes pred line atom rest d false e = ap (λ xs. group_done line (all_occurrences atom.args) (sentence_group rule kind pred line atom d false) ∷ xs) (at_pred rule modes (pred + 1 + 0) (pred + length (kind ∷ d.kinds)) rest (omega (arith, ap length e)))

-- what is done of a disjunction as a member
or_done : List ℕ → ℕ → ℕ → List ℕ → Draft → Done
or_done rule pred line vars d = record { line = line; vars = vars; literals = literal line (Pos (head_by rule pred vars)) ∷ []; atom = group_atom 0 []; clauses = group_clauses (head_by rule pred vars) d ++ d.clauses; kinds = groups.Or ∷ d.kinds }

-- something made of several that are done, before the rest
made : (ℕ → List ℕ → Draft → Done) → (List Done → Draft) → List Done → List Done → List Done
made make draft taken left = make (first_done taken).line (flat_map (λ (d : Done). d.vars) taken) (draft taken) ∷ left

made_same : (make : ℕ → List ℕ → Draft → Done) (draft : List Done → Draft) (rule : List ℕ) (pred : ℕ) (cs : Conditions) (ds : List Done) (d : Draft) → draft (dones_each rule pred cs) ≡ d
    → made make draft (take_done (count_of cs) (dones_each rule pred cs ++ ds)) (drop_done (length (members (count_of cs))) (dones_each rule pred cs ++ ds)) ≡ make (line_of_first cs) (all_occurring cs) d ∷ ds
unfolding made
made_same make draft rule pred cs ds d e =
    let each = dones_each rule pred cs in
    ap (λ ts. made make draft ts (drop_done (length (members (count_of cs))) (each ++ ds))) (taken_all rule pred cs ds)
    ∙ ap (made make draft each) (ap (λ k. drop_done k (each ++ ds)) (members_length (count_of cs)) ∙ dropped_all rule pred cs ds)
    ∙ ap (λ l. make l (flat_map (λ (x : Done). x.vars) each) (draft each) ∷ ds) (line_each rule pred cs)
    ∙ ap (λ vs. make (line_of_first cs) vs (draft each) ∷ ds) (vars_each rule pred cs)
    ∙ ap (λ x. make (line_of_first cs) (all_occurring cs) x ∷ ds) e

mutual
  unfolding joined branched several_done whole_done or_done made sentence_group group_done

  walk : (rule : List ℕ) (c : Condition) (mode : Option GroupKind) (modes : List (Option GroupKind)) (pred : ℕ) (rest : List Part) → dones rule (marked rule (mode ∷ modes) pred (parts_of c ++ rest)) ≡ done_of rule mode pred c ∷ dones rule (marked rule modes (pred + length (done_of rule mode pred c).kinds) rest)
  walk rule (sentence line atom) None modes pred rest = ap (λ xs. done_of rule None pred (sentence line atom) ∷ xs) (at_pred rule modes (pred + 0 + 0) (pred + 0) rest (omega arith))
  walk rule (sentence line atom) (Some kind) modes pred rest = sentence_whole rule kind modes pred line atom rest (drafted true (pred + 1) rule (sentence line atom)) (is_atom_alone rule (sentence line atom)) refl
  walk rule (all cs) None modes pred rest =
      let d = members_drafted pred rule cs in
      with_mark_at rule (record { part = parts.And (count_of cs); mode = None; pred = pred }) pred (dones rule (marked rule (members (count_of cs) ++ modes) (pred + 0 + 0) (parts_each cs ++ rest))) _ (omega arith)
      (at_pred rule (members (count_of cs) ++ modes) (pred + 0 + 0) pred (parts_each cs ++ rest) (omega arith) ∙ walk_each rule cs modes pred rest)
      ∙ made_same several_done joined rule pred cs (dones rule (marked rule modes (pred + length (kinds_in (dones_each rule pred cs))) rest)) d (members_same rule pred cs)
      ∙ ap (λ xs. done_of rule None pred (all cs) ∷ xs) (at_pred rule modes (pred + length (kinds_in (dones_each rule pred cs))) (pred + length d.kinds) rest (ap (λ ks. pred + length ks) (kinds_members rule pred cs)))
  walk rule (all cs) (Some kind) modes pred rest =
      let d = members_drafted (pred + 1) rule cs in
      let e : length (kinds_in (dones_each rule (pred + 1) cs)) ≡ length d.kinds = ap (λ (ks : List GroupKind). length ks) (kinds_members rule (pred + 1) cs) in
      with_mark_at rule (record { part = parts.And (count_of cs); mode = Some kind; pred = pred }) (pred + 1) (dones rule (marked rule (members (count_of cs) ++ modes) (pred + 1 + 0) (parts_each cs ++ rest))) _ (omega arith)
      (at_pred rule (members (count_of cs) ++ modes) (pred + 1 + 0) (pred + 1) (parts_each cs ++ rest) (omega arith) ∙ walk_each rule cs modes (pred + 1) rest)
      ∙ made_same (whole_done kind rule pred) joined rule (pred + 1) cs (dones rule (marked rule modes (pred + 1 + length (kinds_in (dones_each rule (pred + 1) cs))) rest)) d (members_same rule (pred + 1) cs)
      ∙ ap (λ xs. done_of rule (Some kind) pred (all cs) ∷ xs) (at_pred rule modes (pred + 1 + length (kinds_in (dones_each rule (pred + 1) cs))) (pred + length (kind ∷ d.kinds)) rest (omega (arith, e)))
  walk rule (some cs) None modes pred rest =
      let d = branches_drafted (pred + 1) rule cs in
      let e : length (kinds_in (dones_each rule (pred + 1) cs)) ≡ length d.kinds = ap (λ (ks : List GroupKind). length ks) (kinds_branches rule (pred + 1) cs) in
      with_mark_at rule (record { part = parts.Or (count_of cs); mode = None; pred = pred }) pred (dones rule (marked rule (members (count_of cs) ++ modes) (pred + 0 + 1) (parts_each cs ++ rest))) _ (omega arith)
      (at_pred rule (members (count_of cs) ++ modes) (pred + 0 + 1) (pred + 1) (parts_each cs ++ rest) (omega arith) ∙ walk_each rule cs modes (pred + 1) rest)
      ∙ made_same (or_done rule pred) branched rule (pred + 1) cs (dones rule (marked rule modes (pred + 1 + length (kinds_in (dones_each rule (pred + 1) cs))) rest)) d (branches_same rule (pred + 1) cs)
      ∙ ap (λ xs. done_of rule None pred (some cs) ∷ xs) (at_pred rule modes (pred + 1 + length (kinds_in (dones_each rule (pred + 1) cs))) (pred + length (groups.Or ∷ d.kinds)) rest (omega (arith, e)))
  walk rule (some cs) (Some kind) modes pred rest =
      let d = branches_drafted (pred + 1) rule cs in
      let e : length (kinds_in (dones_each rule (pred + 1) cs)) ≡ length d.kinds = ap (λ (ks : List GroupKind). length ks) (kinds_branches rule (pred + 1) cs) in
      with_mark_at rule (record { part = parts.Or (count_of cs); mode = Some kind; pred = pred }) (pred + 1) (dones rule (marked rule (members (count_of cs) ++ modes) (pred + 1 + 0) (parts_each cs ++ rest))) _ (omega arith)
      (at_pred rule (members (count_of cs) ++ modes) (pred + 1 + 0) (pred + 1) (parts_each cs ++ rest) (omega arith) ∙ walk_each rule cs modes (pred + 1) rest)
      ∙ made_same (whole_done kind rule pred) branched rule (pred + 1) cs (dones rule (marked rule modes (pred + 1 + length (kinds_in (dones_each rule (pred + 1) cs))) rest)) d (branches_same rule (pred + 1) cs)
      ∙ ap (λ xs. done_of rule (Some kind) pred (some cs) ∷ xs) (at_pred rule modes (pred + 1 + length (kinds_in (dones_each rule (pred + 1) cs))) (pred + length (kind ∷ d.kinds)) rest (omega (arith, e)))
  walk rule (negation line c) None modes pred rest =
      with_mark_at rule (record { part = parts.Not line; mode = None; pred = pred }) pred (dones rule (marked rule (Some groups.Not ∷ modes) (pred + 0 + 0) (parts_of c ++ rest))) _ (omega arith)
      (at_pred rule (Some groups.Not ∷ modes) (pred + 0 + 0) pred (parts_of c ++ rest) (omega arith) ∙ walk rule c (Some groups.Not) modes pred rest)
  walk rule (negation line c) (Some kind) modes pred rest =
      with_mark_at rule (record { part = parts.Not line; mode = Some kind; pred = pred }) (pred + 1) (dones rule (marked rule (Some groups.Not ∷ modes) (pred + 1 + 0) (parts_of c ++ rest))) _ (omega arith)
      (at_pred rule (Some groups.Not ∷ modes) (pred + 1 + 0) (pred + 1) (parts_of c ++ rest) (omega arith) ∙ walk rule c (Some groups.Not) modes (pred + 1) rest)
      ∙ ap (λ xs. done_of rule (Some kind) pred (negation line c) ∷ xs) (at_pred rule modes (pred + 1 + length (done_of rule (Some groups.Not) (pred + 1) c).kinds) (pred + length (kind ∷ (done_of rule (Some groups.Not) (pred + 1) c).kinds)) rest (omega arith))
  walk rule (for_all line c d) None modes pred rest =
      let k1 = (drafted false (pred + 1) rule c).kinds in
      let next = pred + 1 + length k1 in
      let k2 = (done_of rule (Some groups.Not) next d).kinds in
      with_mark_at rule (record { part = parts.ForAll line; mode = None; pred = pred }) pred (dones rule (marked rule (None ∷ Some groups.Not ∷ modes) (pred + 0 + 1) ((parts_of c ++ parts_of d) ++ rest))) _ (omega arith)
      (at_pred rule (None ∷ Some groups.Not ∷ modes) (pred + 0 + 1) (pred + 1) ((parts_of c ++ parts_of d) ++ rest) (omega arith)
      ∙ ap (λ ps. dones rule (marked rule (None ∷ Some groups.Not ∷ modes) (pred + 1) ps)) (append_assoc (parts_of c) (parts_of d) rest)
      ∙ walk rule c None (Some groups.Not ∷ modes) (pred + 1) (parts_of d ++ rest)
      ∙ ap (λ xs. done_of rule None (pred + 1) c ∷ xs) (walk rule d (Some groups.Not) modes next rest))
      ∙ ap (λ xs. done_of rule None pred (for_all line c d) ∷ xs) (at_pred rule modes (next + length k2) (pred + length (groups.Case ∷ (k1 ++ k2))) rest (omega (arith, length-append k1 k2)))
  walk rule (for_all line c d) (Some kind) modes pred rest =
      let k1 = (drafted false (pred + 1 + 1) rule c).kinds in
      let next = pred + 1 + 1 + length k1 in
      let k2 = (done_of rule (Some groups.Not) next d).kinds in
      with_mark_at rule (record { part = parts.ForAll line; mode = Some kind; pred = pred }) (pred + 1) (dones rule (marked rule (None ∷ Some groups.Not ∷ modes) (pred + 1 + 1) ((parts_of c ++ parts_of d) ++ rest))) _ (omega arith)
      (ap (λ ps. dones rule (marked rule (None ∷ Some groups.Not ∷ modes) (pred + 1 + 1) ps)) (append_assoc (parts_of c) (parts_of d) rest)
      ∙ walk rule c None (Some groups.Not ∷ modes) (pred + 1 + 1) (parts_of d ++ rest)
      ∙ ap (λ xs. done_of rule None (pred + 1 + 1) c ∷ xs) (walk rule d (Some groups.Not) modes next rest))
      ∙ ap (λ xs. done_of rule (Some kind) pred (for_all line c d) ∷ xs) (at_pred rule modes (next + length k2) (pred + length (kind ∷ groups.Case ∷ (k1 ++ k2))) rest (omega (arith, length-append k1 k2)))
  walk rule (gather line fold result value c) None modes pred rest =
      with_mark_at rule (record { part = parts.Gather line fold result value; mode = None; pred = pred }) pred (dones rule (marked rule (Some groups.Value ∷ modes) (pred + 0 + 0) (parts_of c ++ rest))) _ (omega arith)
      (at_pred rule (Some groups.Value ∷ modes) (pred + 0 + 0) pred (parts_of c ++ rest) (omega arith) ∙ walk rule c (Some groups.Value) modes pred rest)
  walk rule (gather line fold result value c) (Some kind) modes pred rest =
      with_mark_at rule (record { part = parts.Gather line fold result value; mode = Some kind; pred = pred }) (pred + 1) (dones rule (marked rule (Some groups.Value ∷ modes) (pred + 1 + 0) (parts_of c ++ rest))) _ (omega arith)
      (at_pred rule (Some groups.Value ∷ modes) (pred + 1 + 0) (pred + 1) (parts_of c ++ rest) (omega arith) ∙ walk rule c (Some groups.Value) modes (pred + 1) rest)
      ∙ ap (λ xs. done_of rule (Some kind) pred (gather line fold result value c) ∷ xs) (at_pred rule modes (pred + 1 + length (done_of rule (Some groups.Value) (pred + 1) c).kinds) (pred + length (kind ∷ (done_of rule (Some groups.Value) (pred + 1) c).kinds)) rest (omega arith))

  walk_each : (rule : List ℕ) (cs : Conditions) (modes : List (Option GroupKind)) (pred : ℕ) (rest : List Part) → dones rule (marked rule (members (count_of cs) ++ modes) pred (parts_each cs ++ rest)) ≡ dones_each rule pred cs ++ dones rule (marked rule modes (pred + length (kinds_in (dones_each rule pred cs))) rest)
  walk_each rule none modes pred rest = at_pred rule modes pred (pred + 0) rest (omega arith)
  walk_each rule (more c cs) modes pred rest =
      let k = (drafted false pred rule c).kinds in
      let ks = kinds_in (dones_each rule (pred + length k) cs) in
      ap (λ ps. dones rule (marked rule (None ∷ (members (count_of cs) ++ modes)) pred ps)) (append_assoc (parts_of c) (parts_each cs) rest)
      ∙ walk rule c None (members (count_of cs) ++ modes) pred (parts_each cs ++ rest)
      ∙ ap (λ xs. done_of rule None pred c ∷ xs)
      (walk_each rule cs modes (pred + length k) rest
      ∙ ap (λ xs. dones_each rule (pred + length k) cs ++ xs) (at_pred rule modes (pred + length k + length ks) (pred + length (k ++ ks)) rest (omega (arith, length-append k ks))))

-- conditions before others
in_front : Conditions → List Condition → List Condition
in_front none ds = ds
in_front (more c cs) ds = c ∷ in_front cs ds

taken_back : (cs : Conditions) (ds : List Condition) → taken (count_of cs) (in_front cs ds) ≡ cs
unfolding in_front
taken_back none ds = refl
taken_back (more c cs) ds = ap (more c) (taken_back cs ds)

left_back : (cs : Conditions) (ds : List Condition) → left (count_of cs) (in_front cs ds) ≡ ds
unfolding in_front
left_back none ds = refl
left_back (more c cs) ds = left_back cs ds

-- The parts of a condition are read back as the condition.
mutual
  unfolding in_front

  read_back : (c : Condition) (rest : List Part) → conditions_of (parts_of c ++ rest) ≡ c ∷ conditions_of rest
  read_back (sentence line atom) rest = refl
  read_back (all cs) rest = ap (with_part (parts.And (count_of cs))) (each_back cs rest) ∙ ap (λ xs. all xs ∷ left (count_of cs) (in_front cs (conditions_of rest))) (taken_back cs (conditions_of rest)) ∙ ap (λ xs. all cs ∷ xs) (left_back cs (conditions_of rest))
  read_back (some cs) rest = ap (with_part (parts.Or (count_of cs))) (each_back cs rest) ∙ ap (λ xs. some xs ∷ left (count_of cs) (in_front cs (conditions_of rest))) (taken_back cs (conditions_of rest)) ∙ ap (λ xs. some cs ∷ xs) (left_back cs (conditions_of rest))
  read_back (negation line c) rest = ap (with_part (parts.Not line)) (read_back c rest)
  read_back (for_all line c d) rest = ap (λ ps. with_part (parts.ForAll line) (conditions_of ps)) (append_assoc (parts_of c) (parts_of d) rest) ∙ ap (with_part (parts.ForAll line)) (read_back c (parts_of d ++ rest) ∙ ap (λ xs. c ∷ xs) (read_back d rest))
  read_back (gather line fold result value c) rest = ap (with_part (parts.Gather line fold result value)) (read_back c rest)

  each_back : (cs : Conditions) (rest : List Part) → conditions_of (parts_each cs ++ rest) ≡ in_front cs (conditions_of rest)
  each_back none rest = refl
  each_back (more c cs) rest = ap conditions_of (append_assoc (parts_of c) (parts_each cs) rest) ∙ read_back c (parts_each cs ++ rest) ∙ ap (λ xs. c ∷ xs) (each_back cs rest)

-- The walks over the parts of a condition give what the condition is translated to.
pub walks_right : (rule : List ℕ) (pred : ℕ) (c : Condition) → dones rule (marked rule (None ∷ []) pred (parts_of c)) ≡ done_of rule None pred c ∷ []
walks_right rule pred c =
    ap (λ ps. dones rule (marked rule (None ∷ []) pred ps)) (sym (append-nil (parts_of c)))
    ∙ walk rule c None [] pred []

-- and these parts are those of the condition that they are read as
pub parts_read : (c : Condition) → condition_of (parts_of c) ≡ c
parts_read c = ap (λ ps. first_of (conditions_of ps)) (sym (append-nil (parts_of c))) ∙ ap first_of (read_back c [])
