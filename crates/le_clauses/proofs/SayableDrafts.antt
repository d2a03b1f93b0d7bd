-- What conditions are translated to can be said, where the conditions can.
use Rattle.std.proofs.Common.{◌≡◌, ℕ, zero, suc, true≢false, ◌+◌, ◌<◌, ◌≤◌, ◌&&◌, Bool, true, false, not, cond, List, [], ◌∷◌, ◌++◌, map, length, refl, sym, arith, ltb-true, ltb-false}
use Rattle.std.specs.List.{AllByRecursion, list_all}
use Rattle.le_base.specs.declared.stop.FoldKind.{FoldKind}
use Rattle.le_templates.specs.declared.part.Template.{Template}
use Rattle.le_terms.specs.Tree.{Tree, variable}
use Rattle.le_terms.specs.Variables.{occurrences, all_occurrences, firsts}
use Rattle.le_terms.specs.Program.{form_atom, form_terms, literals_terms, clause_terms, computed_count, HasVariablesBelow, StandsInPlace}
use Rattle.le_terms.specs.declared.program.Atom.{Atom}
use Rattle.le_terms.specs.declared.program.Form.TheVariants.{Pos, Neg, Calc, Gather}
use Rattle.le_terms.specs.declared.program.Literal.{Literal}
use Rattle.le_terms.specs.declared.program.Clause.{Clause}
use Rattle.le_terms.specs.declared.program.GroupKind.{GroupKind}
use Rattle.le_terms.specs.declared.program.GroupKind.TheVariants as groups
use Rattle.le_terms.proofs.Few.{all-firsts}
use Rattle.le_match.specs.Sayable.{HasTemplate, AreTermsToSay}
use Rattle.le_clauses.specs.declared.part.Part.{Part}
use Rattle.le_clauses.specs.declared.part.Part.TheVariants as parts
use Rattle.le_clauses.specs.declared.draft.Body.{Body}
use Rattle.le_clauses.specs.declared.draft.Draft.{Draft}
use Rattle.le_clauses.specs.Conditions.{Condition, Conditions, sentence, all, some, negation, for_all, gather, none, more, line_of, line_of_first, occurring, all_occurring, first_of, without_first, taken, left, with_part, conditions_of, condition_of}
use Rattle.le_clauses.specs.Groups.{shared, is_outside, group_atom, is_computed, is_atom_alone, body, literal, one_body, literals_in, literals_of, branch_clause, group_clauses, Group, group_by, sentence_form, drafted, members_drafted, branches_drafted}
use Rattle.le_clauses.proofs.SayableTerms.{all_both, all_first, all_second, all_kept, terms_both, below_both, variables_said, variables_below}
use Rattle.le_clauses.proofs.SayableParts.{IsSentence, IsTotal, IsReadPart}

-- ---- conditions

-- each atom of a condition can be said, and each result of a gather
abbrev mutual
  pub CanBeSaid : List Template → List (List ℕ) → Condition → Type 0
  CanBeSaid users names (sentence line atom) = IsSentence users names atom
  CanBeSaid users names (all cs) = CanEachBeSaid users names cs
  CanBeSaid users names (some cs) = CanEachBeSaid users names cs
  CanBeSaid users names (negation line c) = CanBeSaid users names c
  CanBeSaid users names (for_all line c d) = CanBeSaid users names c × CanBeSaid users names d
  CanBeSaid users names (gather line fold total value c) = IsTotal names total value × CanBeSaid users names c

  pub CanEachBeSaid : List Template → List (List ℕ) → Conditions → Type 0
  CanEachBeSaid users names none = Unit {0}
  CanEachBeSaid users names (more c cs) = CanBeSaid users names c × CanEachBeSaid users names cs

module _ (users : List Template) (names : List (List ℕ)) where
  first_said : (cs : List Condition) → AllByRecursion (CanBeSaid users names) cs → CanBeSaid users names (first_of cs)
  first_said [] h = tt
  first_said (c ∷ cs) h = h.0

  rest_said : (cs : List Condition) → AllByRecursion (CanBeSaid users names) cs → AllByRecursion (CanBeSaid users names) (without_first cs)
  rest_said [] h = tt
  rest_said (c ∷ cs) h = h.1

  taken_said : (n : ℕ) (cs : List Condition) → AllByRecursion (CanBeSaid users names) cs → CanEachBeSaid users names (taken n cs)
  taken_said zero cs h = tt
  taken_said (suc n) cs h = (first_said cs h, taken_said n (without_first cs) (rest_said cs h))

  left_said : (n : ℕ) (cs : List Condition) → AllByRecursion (CanBeSaid users names) cs → AllByRecursion (CanBeSaid users names) (left n cs)
  left_said zero cs h = h
  left_said (suc n) cs h = left_said n (without_first cs) (rest_said cs h)

  with_said : (p : Part) (cs : List Condition) → IsReadPart users names p → AllByRecursion (CanBeSaid users names) cs → AllByRecursion (CanBeSaid users names) (with_part p cs)
  with_said (parts.Sentence line atom) cs h k = (h, k)
  with_said (parts.And n) cs h k = (taken_said n cs k, left_said n cs k)
  with_said (parts.Or n) cs h k = (taken_said n cs k, left_said n cs k)
  with_said (parts.Not line) cs h k = (first_said cs k, rest_said cs k)
  with_said (parts.ForAll line) cs h k = ((first_said cs k, first_said (without_first cs) (rest_said cs k)), rest_said (without_first cs) (rest_said cs k))
  with_said (parts.Gather line fold total value) cs h k = ((h, first_said cs k), rest_said cs k)

  conditions_said : (ps : List Part) → AllByRecursion (IsReadPart users names) ps → AllByRecursion (CanBeSaid users names) (conditions_of ps)
  conditions_said [] h = tt
  conditions_said (p ∷ ps) h = with_said p (conditions_of ps) h.0 (conditions_said ps h.1)

  -- the condition of parts that can be said
  pub condition_said : (ps : List Part) → AllByRecursion (IsReadPart users names) ps → CanBeSaid users names (condition_of ps)
  condition_said ps h = first_said (conditions_of ps) (conditions_said ps h)

  mutual
    -- the variables of a condition are those of a scope
    pub occurring_below : (c : Condition) → CanBeSaid users names c → AllByRecursion (λ v. v < 64) (occurring c)
    occurring_below (sentence line atom) h = h.below
    occurring_below (all cs) h = each_below cs h
    occurring_below (some cs) h = each_below cs h
    occurring_below (negation line c) h = occurring_below c h
    occurring_below (for_all line c d) h = all_both (λ v. v < 64) (occurring c) (occurring d) (occurring_below c h.0) (occurring_below d h.1)
    occurring_below (gather line fold total value c) h = all_both (λ v. v < 64) (occurrences total) (value ∷ occurring c) h.0.below (h.0.value_, occurring_below c h.1)

    each_below : (cs : Conditions) → CanEachBeSaid users names cs → AllByRecursion (λ v. v < 64) (all_occurring cs)
    each_below none h = tt
    each_below (more c cs) h = all_both (λ v. v < 64) (occurring c) (all_occurring cs) (occurring_below c h.0) (each_below cs h.1)

  shared_below : (rule : List ℕ) (c : Condition) → CanBeSaid users names c → AllByRecursion (λ v. v < 64) (shared rule c)
  shared_below rule c h = all_kept (λ v. v < 64) (is_outside rule c) (firsts (occurring c)) (all-firsts (λ v. v < 64) (occurring c) (occurring_below c h))

-- ---- the heads of groups

-- the head of the group that a condition is the whole of, before those of the groups inside it
abbrev pub group_heads : ℕ → List ℕ → Condition → List Atom → List Atom
group_heads pred rule c inside = cond (is_atom_alone rule c) [] (group_atom pred (shared rule c) ∷ inside)

-- the heads of the groups of a condition, in the order of their numbers
abbrev mutual
  pub heads : Bool → ℕ → List ℕ → Condition → List Atom
  heads whole pred rule (sentence line atom) = []
  heads whole pred rule (all cs) = members_heads pred rule cs
  heads whole pred rule (some cs) = cond whole (members_heads pred rule cs) (group_atom pred (shared rule (some cs)) ∷ members_heads (pred + 1) rule cs)
  heads whole pred rule (negation line c) = group_heads pred rule c (heads true (pred + 1) rule c)
  heads whole pred rule (for_all line c d) =
      let next = pred + 1 + length (drafted false (pred + 1) rule c).kinds in
      group_atom pred (shared rule (for_all line c d)) ∷ (heads false (pred + 1) rule c ++ group_heads next rule d (heads true (next + 1) rule d))
  heads whole pred rule (gather line fold total value c) = group_heads pred rule c (heads true (pred + 1) rule c)

  pub members_heads : ℕ → List ℕ → Conditions → List Atom
  members_heads pred rule none = []
  members_heads pred rule (more c cs) = heads false pred rule c ++ members_heads (pred + length (drafted false pred rule c).kinds) rule cs

-- ---- drafts

-- An atom of a draft that isn't computed: one of a template has it, its terms can be said, with variables of a scope of at most 64, and of one of a group something more is so.
pub record IsDraftAtom (users : List Template) (names : List (List ℕ)) (G : Atom → Type 0) (atom : Atom) : Type 0 where
  pub plain : computed_count ≤ atom.pred
  pub template : HasTemplate users atom
  pub terms : AreTermsToSay names atom.args
  pub below : HasVariablesBelow 64 atom.args
  pub group : 20 + length users ≤ atom.pred → G atom

-- a literal of a draft
pub record IsDraftLiteral (users : List Template) (names : List (List ℕ)) (G : Atom → Type 0) (l : Literal) : Type 0 where
  pub place : StandsInPlace l.form
  pub template : HasTemplate users (form_atom l.form)
  pub terms : AreTermsToSay names (form_terms l.form)
  pub below : HasVariablesBelow 64 (form_terms l.form)
  pub group : 20 + length users ≤ (form_atom l.form).pred → G (form_atom l.form)

-- a clause, before its variables are numbered
pub record IsDraftClause (users : List Template) (names : List (List ℕ)) (G : Atom → Type 0) (clause : Clause) : Type 0 where
  pub head : IsDraftAtom users names G clause.head
  pub body_ : AllByRecursion (IsDraftLiteral users names G) clause.body

pub record IsDraft (users : List Template) (names : List (List ℕ)) (G : Atom → Type 0) (d : Draft) : Type 0 where
  pub bodies : AllByRecursion (λ (b : Body). AllByRecursion (IsDraftLiteral users names G) b.literals) d.bodies
  pub clauses : AllByRecursion (IsDraftClause users names G) d.clauses

pub record IsDraftGroup (users : List Template) (names : List (List ℕ)) (G : Atom → Type 0) (g : Group) : Type 0 where
  pub atom : IsDraftAtom users names G g.atom
  pub clauses : AllByRecursion (IsDraftClause users names G) g.clauses

module _ (users : List Template) (names : List (List ℕ)) (G : Atom → Type 0) where
  pub body_terms_said : (ls : List Literal) → AllByRecursion (IsDraftLiteral users names G) ls → AreTermsToSay names (literals_terms ls)
  body_terms_said [] h = tt
  body_terms_said (l ∷ ls) h = terms_both names (form_terms l.form) (literals_terms ls) h.0.terms (body_terms_said ls h.1)

  pub body_below : (ls : List Literal) → AllByRecursion (IsDraftLiteral users names G) ls → HasVariablesBelow 64 (literals_terms ls)
  body_below [] h = tt
  body_below (l ∷ ls) h = below_both 64 (form_terms l.form) (literals_terms ls) h.0.below (body_below ls h.1)

  -- the variables of a clause are those of a scope
  pub clause_below : (clause : Clause) → IsDraftClause users names G clause → HasVariablesBelow 64 (clause_terms clause)
  clause_below clause h = below_both 64 clause.head.args (literals_terms clause.body) h.head.below (body_below clause.body h.body_)

  -- ---- atoms and literals

  low_template : (atom : Atom) → IsSentence users names atom → 20 + length users ≤ atom.pred → G atom
  low_template atom h = λ (high : 20 + length users ≤ atom.pred). absurd (omega (arith, h.low, high))

  -- an atom of a sentence that isn't computed
  pub sentence_atom : (atom : Atom) → computed_count ≤ atom.pred → IsSentence users names atom → IsDraftAtom users names G atom
  sentence_atom atom high h = record { plain = high; template = λ low. (h.used, h.slots); terms = h.terms; below = h.below; group = low_template atom h }

  sentence_literal : (line : ℕ) (atom : Atom) (b : Bool) → is_computed atom ≡ b → IsSentence users names atom → IsDraftLiteral users names G (literal line (cond b (Calc atom) (Pos atom)))
  sentence_literal line atom true e h = record { place = ltb-true atom.pred computed_count e; template = λ low. (h.used, h.slots); terms = h.terms; below = h.below; group = low_template atom h }
  sentence_literal line atom false e h = record { place = ltb-false atom.pred computed_count e; template = λ low. (h.used, h.slots); terms = h.terms; below = h.below; group = low_template atom h }

  above_templates : (pred : ℕ) (args : List Tree) → 20 + length users ≤ pred → HasTemplate users (record { pred = pred; args = args })
  above_templates pred args high = λ (low : pred < 20 + length users). absurd (omega (arith, low, high))

  group_atom_said : (pred : ℕ) → 20 + length users ≤ pred → (vars : List ℕ) → AllByRecursion (λ v. v < 64) vars → G (group_atom pred vars) → IsDraftAtom users names G (group_atom pred vars)
  group_atom_said pred high vars below g = record { plain = omega (arith, high); template = above_templates pred (map variable vars) high; terms = variables_said names vars below; below = variables_below vars below; group = λ h. g }

  positive : (line : ℕ) (atom : Atom) → IsDraftAtom users names G atom → IsDraftLiteral users names G (literal line (Pos atom))
  positive line atom h = record { place = h.plain; template = h.template; terms = h.terms; below = h.below; group = h.group }

  negative : (line : ℕ) (atom : Atom) → IsDraftAtom users names G atom → IsDraftLiteral users names G (literal line (Neg atom))
  negative line atom h = record { place = h.plain; template = h.template; terms = h.terms; below = h.below; group = h.group }

  gathered : (line : ℕ) (fold : FoldKind) (total : Tree) (value : ℕ) (atom : Atom) → IsTotal names total value → IsDraftAtom users names G atom → IsDraftLiteral users names G (literal line (Gather fold total (variable value) atom))
  gathered line fold total value atom t h = record {
    place = h.plain;
    template = h.template;
    terms = (t.total_, (omega (arith, t.value_), h.terms));
    below = all_both (λ v. v < 64) (occurrences total) (value ∷ all_occurrences atom.args) t.below (t.value_, h.below);
    group = h.group;
  }

  -- ---- clauses

  branches_said : (head : Atom) → IsDraftAtom users names G head → (bs : List Body) → AllByRecursion (λ (b : Body). AllByRecursion (IsDraftLiteral users names G) b.literals) bs → AllByRecursion (IsDraftClause users names G) (map (branch_clause head) bs)
  branches_said head h [] k = tt
  branches_said head h (b ∷ bs) k = (record { head = h; body_ = k.0 }, branches_said head h bs k.1)

  pub literals_said : (bs : List Body) → AllByRecursion (λ (b : Body). AllByRecursion (IsDraftLiteral users names G) b.literals) bs → AllByRecursion (IsDraftLiteral users names G) (literals_in bs)
  literals_said [] h = tt
  literals_said (b ∷ bs) h = h.0

  -- the clauses of a group and of those inside it
  group_clauses_said : (head : Atom) → IsDraftAtom users names G head → (d : Draft) → IsDraft users names G d → AllByRecursion (IsDraftClause users names G) (group_clauses head d ++ d.clauses)
  group_clauses_said head h d k = all_both (IsDraftClause users names G) (group_clauses head d) d.clauses (branches_said head h d.bodies k.bodies) k.clauses

  with_group : (pred : ℕ) → 20 + length users ≤ pred → (rule : List ℕ) (c : Condition) (kind : GroupKind) (d : Draft) → CanBeSaid users names c → G (group_atom pred (shared rule c)) → IsDraft users names G d
      → IsDraftGroup users names G (record { atom = group_atom pred (shared rule c); clauses = group_clauses (group_atom pred (shared rule c)) d ++ d.clauses; kinds = kind ∷ d.kinds })
  with_group pred high rule c kind d h g k =
      let head = group_atom_said pred high (shared rule c) (shared_below users names rule c h) g in
      record { atom = head; clauses = group_clauses_said (group_atom pred (shared rule c)) head d k }

  sentence_group : (pred : ℕ) → 20 + length users ≤ pred → (rule : List ℕ) (line : ℕ) (atom : Atom) (kind : GroupKind) (d : Draft) (b : Bool) → (b ≡ true → is_computed atom ≡ false) → IsSentence users names atom → AllByRecursion G (cond b [] (group_atom pred (shared rule (sentence line atom)) ∷ [])) → IsDraft users names G d
      → IsDraftGroup users names G (cond b (record { atom = cond b atom (group_atom pred (shared rule (sentence line atom))); clauses = []; kinds = [] }) (record { atom = cond b atom (group_atom pred (shared rule (sentence line atom))); clauses = group_clauses (group_atom pred (shared rule (sentence line atom))) d ++ d.clauses; kinds = kind ∷ d.kinds }))
  sentence_group pred high rule line atom kind d true plain h g k = record { atom = sentence_atom atom (ltb-false atom.pred computed_count (plain refl)) h; clauses = tt }
  sentence_group pred high rule line atom kind d false plain h g k = with_group pred high rule (sentence line atom) kind d h g.0 k

  not_true : (a b : Bool) → (not a && b) ≡ true → a ≡ false
  not_true true b e = absurd (true≢false (sym e))
  not_true false b e = refl

  -- the group of a condition and of what it is translated to
  group_said : (pred : ℕ) → 20 + length users ≤ pred → (kind : GroupKind) (rule : List ℕ) (c : Condition) (d : Draft) → CanBeSaid users names c → AllByRecursion G (group_heads pred rule c (heads true (pred + 1) rule c)) → IsDraft users names G d → IsDraftGroup users names G (group_by kind pred rule c d)
  group_said pred high kind rule (sentence line atom) d h g k =
      sentence_group pred high rule line atom kind d (is_atom_alone rule (sentence line atom)) (not_true (is_computed atom) (list_all (is_outside rule (sentence line atom)) (all_occurrences atom.args))) h g k
  group_said pred high kind rule (all cs) d h g k = with_group pred high rule (all cs) kind d h g.0 k
  group_said pred high kind rule (some cs) d h g k = with_group pred high rule (some cs) kind d h g.0 k
  group_said pred high kind rule (negation line c) d h g k = with_group pred high rule (negation line c) kind d h g.0 k
  group_said pred high kind rule (for_all line c e) d h g k = with_group pred high rule (for_all line c e) kind d h g.0 k
  group_said pred high kind rule (gather line fold total value c) d h g k = with_group pred high rule (gather line fold total value c) kind d h g.0 k

  -- what holds of a group's head and of those inside it holds of these
  heads_inside : (pred : ℕ) (rule : List ℕ) (c : Condition) → AllByRecursion G (group_heads pred rule c (heads true (pred + 1) rule c)) → AllByRecursion G (heads true (pred + 1) rule c)
  heads_inside pred rule (sentence line atom) g = tt
  heads_inside pred rule (all cs) g = g.1
  heads_inside pred rule (some cs) g = g.1
  heads_inside pred rule (negation line c) g = g.1
  heads_inside pred rule (for_all line c d) g = g.1
  heads_inside pred rule (gather line fold total value c) g = g.1

  one_said : (line : ℕ) (ls : List Literal) (cs : List Clause) (kinds : List GroupKind) → AllByRecursion (IsDraftLiteral users names G) ls → AllByRecursion (IsDraftClause users names G) cs → IsDraft users names G (one_body line ls cs kinds)
  one_said line ls cs kinds h k = record { bodies = (h, tt); clauses = k }

  mutual
    -- what a condition that can be said is translated to
    pub draft_said : (c : Condition) → CanBeSaid users names c → (whole : Bool) (pred : ℕ) → 20 + length users ≤ pred → (rule : List ℕ) → AllByRecursion G (heads whole pred rule c) → IsDraft users names G (drafted whole pred rule c)
    draft_said (sentence line atom) h whole pred high rule g =
        one_said line (literal line (sentence_form atom) ∷ []) [] [] (sentence_literal line atom (is_computed atom) refl h, tt) tt
    draft_said (all cs) h whole pred high rule g = members_said cs h pred high rule g
    draft_said (some cs) h true pred high rule g = branches_drafted_said cs h pred high rule g
    draft_said (some cs) h false pred high rule g =
        let head = group_atom pred (shared rule (some cs)) in
        let d = branches_drafted (pred + 1) rule cs in
        let k = group_atom_said pred high (shared rule (some cs)) (shared_below users names rule (some cs) h) g.0 in
        one_said (line_of_first cs) (literal (line_of_first cs) (Pos head) ∷ []) (group_clauses head d ++ d.clauses) (groups.Or ∷ d.kinds)
        (positive (line_of_first cs) head k, tt) (group_clauses_said head k d (branches_drafted_said cs h (pred + 1) (omega (arith, high)) rule g.1))
    draft_said (negation line c) h whole pred high rule g =
        let d = drafted true (pred + 1) rule c in
        let b = group_by groups.Not pred rule c d in
        let k = group_said pred high groups.Not rule c d h g (draft_said c h true (pred + 1) (omega (arith, high)) rule (heads_inside pred rule c g)) in
        one_said line (literal line (Neg b.atom) ∷ []) b.clauses b.kinds (negative line b.atom k.atom, tt) k.clauses
    draft_said (for_all line c e) h whole pred high rule g =
        let head = group_atom pred (shared rule (for_all line c e)) in
        let first = drafted false (pred + 1) rule c in
        let next = pred + 1 + length first.kinds in
        let d = drafted true (next + 1) rule e in
        let second = group_by groups.Not next rule e d in
        let g1 = all_first G (heads false (pred + 1) rule c) (group_heads next rule e (heads true (next + 1) rule e)) g.1 in
        let g2 = all_second G (heads false (pred + 1) rule c) (group_heads next rule e (heads true (next + 1) rule e)) g.1 in
        let k1 = draft_said c h.0 false (pred + 1) (omega (arith, high)) rule g1 in
        let k2 = group_said next (omega (arith, high)) groups.Not rule e d h.1 g2 (draft_said e h.1 true (next + 1) (omega (arith, high)) rule (heads_inside next rule e g2)) in
        let k = group_atom_said pred high (shared rule (for_all line c e)) (shared_below users names rule (for_all line c e) h) g.0 in
        let ls = literals_of first ++ literal (line_of e) (Neg second.atom) ∷ [] in
        one_said line (literal line (Neg head) ∷ []) (branch_clause head (body (line_of c) ls) ∷ (first.clauses ++ second.clauses)) (groups.Case ∷ (first.kinds ++ second.kinds))
        (negative line head k, tt) (
          record { head = k; body_ = all_both (IsDraftLiteral users names G) (literals_of first) (literal (line_of e) (Neg second.atom) ∷ []) (literals_said first.bodies k1.bodies) (negative (line_of e) second.atom k2.atom, tt) },
          all_both (IsDraftClause users names G) first.clauses second.clauses k1.clauses k2.clauses,
        )
    draft_said (gather line fold total value c) h whole pred high rule g =
        let d = drafted true (pred + 1) rule c in
        let b = group_by groups.Value pred rule c d in
        let k = group_said pred high groups.Value rule c d h.1 g (draft_said c h.1 true (pred + 1) (omega (arith, high)) rule (heads_inside pred rule c g)) in
        one_said line (literal line (Gather fold total (variable value) b.atom) ∷ []) b.clauses b.kinds (gathered line fold total value b.atom h.0 k.atom, tt) k.clauses

    members_said : (cs : Conditions) → CanEachBeSaid users names cs → (pred : ℕ) → 20 + length users ≤ pred → (rule : List ℕ) → AllByRecursion G (members_heads pred rule cs) → IsDraft users names G (members_drafted pred rule cs)
    members_said none h pred high rule g = one_said 0 [] [] [] tt tt
    members_said (more c cs) h pred high rule g =
        let first = drafted false pred rule c in
        let next = pred + length first.kinds in
        let rest = members_drafted next rule cs in
        let k1 = draft_said c h.0 false pred high rule (all_first G (heads false pred rule c) (members_heads next rule cs) g) in
        let k2 = members_said cs h.1 next (omega (arith, high)) rule (all_second G (heads false pred rule c) (members_heads next rule cs) g) in
        one_said (line_of c) (literals_of first ++ literals_of rest) (first.clauses ++ rest.clauses) (first.kinds ++ rest.kinds)
        (all_both (IsDraftLiteral users names G) (literals_of first) (literals_of rest) (literals_said first.bodies k1.bodies) (literals_said rest.bodies k2.bodies))
        (all_both (IsDraftClause users names G) first.clauses rest.clauses k1.clauses k2.clauses)

    branches_drafted_said : (cs : Conditions) → CanEachBeSaid users names cs → (pred : ℕ) → 20 + length users ≤ pred → (rule : List ℕ) → AllByRecursion G (members_heads pred rule cs) → IsDraft users names G (branches_drafted pred rule cs)
    branches_drafted_said none h pred high rule g = record { bodies = tt; clauses = tt }
    branches_drafted_said (more c cs) h pred high rule g =
        let first = drafted false pred rule c in
        let next = pred + length first.kinds in
        let rest = branches_drafted next rule cs in
        let k1 = draft_said c h.0 false pred high rule (all_first G (heads false pred rule c) (members_heads next rule cs) g) in
        let k2 = branches_drafted_said cs h.1 next (omega (arith, high)) rule (all_second G (heads false pred rule c) (members_heads next rule cs) g) in
        record { bodies = (literals_said first.bodies k1.bodies, k2.bodies); clauses = all_both (IsDraftClause users names G) first.clauses rest.clauses k1.clauses k2.clauses }
