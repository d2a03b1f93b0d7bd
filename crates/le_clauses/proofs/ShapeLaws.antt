-- Parts that are those of one tree in preorder are read back, and translated as their condition is.
use Rattle.std.proofs.Common.{◌≡◌, inl, inr, ℕ, zero, suc, ◌+◌, false, None, List, [], ◌∷◌, ◌++◌, length, flat_map, refl, sym, ap, subst, ◌∙◌, arith, append_assoc, append-nil}
use Rattle.le_terms.specs.Variables.{occurrences, all_occurrences}
use Rattle.le_clauses.specs.declared.draft.Mark.{Mark}
use Rattle.le_clauses.specs.declared.draft.Done.{Done}
use Rattle.le_clauses.specs.Makings.{IsDone}
use Rattle.le_clauses.specs.declared.part.Part.{Part}
use Rattle.le_clauses.specs.declared.part.Part.TheVariants as parts
use Rattle.le_clauses.specs.Conditions.{Condition, Conditions, sentence, all, some, negation, for_all, gather, none, more, occurring, all_occurring, first_of, without_first, taken, left, with_part, conditions_of, condition_of}
use Rattle.le_clauses.specs.Groups.{drafted, rule_vars}
use Rattle.le_clauses.specs.Walks.{members, below, marked, first_done, dones}
use Rattle.le_clauses.specs.Occurrences.{part_vars, parts_vars}
use Rattle.le_clauses.specs.Shapes.{PartsFit, IsShape}
use Rattle.le_clauses.proofs.WalkLaws.{count_of, parts_of, parts_each, done_of, walks_right}

-- ---- the variables of parts are those of their condition

vars_append : (ps qs : List Part) → parts_vars (ps ++ qs) ≡ parts_vars ps ++ parts_vars qs
vars_append [] qs = refl
vars_append (p ∷ ps) qs = ap (λ vs. part_vars p ++ vs) (vars_append ps qs) ∙ sym (append_assoc (part_vars p) (parts_vars ps) (parts_vars qs))

mutual
  vars_same : (c : Condition) → parts_vars (parts_of c) ≡ occurring c
  vars_same (sentence line atom) = append-nil (all_occurrences atom.args)
  vars_same (all cs) = vars_each cs
  vars_same (some cs) = vars_each cs
  vars_same (negation line c) = vars_same c
  vars_same (for_all line c d) = vars_append (parts_of c) (parts_of d) ∙ ap (λ vs. vs ++ parts_vars (parts_of d)) (vars_same c) ∙ ap (λ vs. occurring c ++ vs) (vars_same d)
  vars_same (gather line fold total value c) = append_assoc (occurrences total) (value ∷ []) (parts_vars (parts_of c)) ∙ ap (λ vs. occurrences total ++ value ∷ vs) (vars_same c)

  vars_each : (cs : Conditions) → parts_vars (parts_each cs) ≡ all_occurring cs
  vars_each none = refl
  vars_each (more c cs) = vars_append (parts_of c) (parts_each cs) ∙ ap (λ vs. vs ++ parts_vars (parts_each cs)) (vars_same c) ∙ ap (λ vs. occurring c ++ vs) (vars_each cs)

-- ---- parts that fit are those of the conditions that they are read as

abbrev parts_list : List Condition → List Part
parts_list cs = flat_map parts_of cs

members_length : (n : ℕ) → length (members n) ≡ n
members_length zero = refl
members_length (suc n) = ap suc (members_length n)

taken_count : (n : ℕ) (cs : List Condition) → count_of (taken n cs) ≡ n
taken_count zero cs = refl
taken_count (suc n) cs = ap suc (taken_count n (without_first cs))

taken_parts : (n m : ℕ) (cs : List Condition) → length cs ≡ n + m → parts_each (taken n cs) ++ parts_list (left n cs) ≡ parts_list cs
taken_parts zero m cs e = refl
taken_parts (suc n) m [] e = absurd (omega (arith, e))
taken_parts (suc n) m (c ∷ cs) e = append_assoc (parts_of c) (parts_each (taken n cs)) (parts_list (left n cs)) ∙ ap (λ ps. parts_of c ++ ps) (taken_parts n m cs (omega (arith, e)))

left_length : (n m : ℕ) (cs : List Condition) → length cs ≡ n + m → length (left n cs) ≡ m
left_length zero m cs e = omega (arith, e)
left_length (suc n) m [] e = absurd (omega (arith, e))
left_length (suc n) m (c ∷ cs) e = left_length n m cs (omega (arith, e))

one_below : (p : Part) (make : Condition → Condition) (n : ℕ) (ps : List Part) (cs : List Condition) → ((c : Condition) → parts_of (make c) ≡ p ∷ parts_of c) → parts_list cs ≡ ps → length cs ≡ n + 1 → (parts_list (make (first_of cs) ∷ without_first cs) ≡ p ∷ ps) × (length (make (first_of cs) ∷ without_first cs) ≡ suc n)
one_below p make n ps [] flat h e = absurd (omega (arith, e))
one_below p make n ps (c ∷ cs) flat h e = (ap (λ qs. qs ++ parts_list cs) (flat c) ∙ ap (λ qs. p ∷ qs) h, omega (arith, e))

two_below : (line n : ℕ) (ps : List Part) (cs : List Condition) → parts_list cs ≡ ps → length cs ≡ n + 2 → (parts_list (for_all line (first_of cs) (first_of (without_first cs)) ∷ without_first (without_first cs)) ≡ parts.ForAll line ∷ ps) × (length (for_all line (first_of cs) (first_of (without_first cs)) ∷ without_first (without_first cs)) ≡ suc n)
two_below line n ps [] h e = absurd (omega (arith, e))
two_below line n ps (c ∷ []) h e = absurd (omega (arith, e))
two_below line n ps (c ∷ d ∷ cs) h e = (ap (λ qs. parts.ForAll line ∷ qs) (append_assoc (parts_of c) (parts_of d) (parts_list cs) ∙ h), omega (arith, e))

with_rebuilt : (p : Part) (n : ℕ) (ps : List Part) (cs : List Condition) → parts_list cs ≡ ps → length cs ≡ n + length (below p) → (parts_list (with_part p cs) ≡ p ∷ ps) × (length (with_part p cs) ≡ suc n)
with_rebuilt (parts.Sentence line atom) n ps cs h e =
    let e0 : length cs ≡ n + 0 = e in
    let e' : length cs ≡ n = omega (arith, e0) in
    (ap (λ qs. parts.Sentence line atom ∷ qs) h, ap suc e')
with_rebuilt (parts.And k) n ps cs h e =
    let e0 : length cs ≡ n + length (members k) = e in
    let e' : length cs ≡ k + n = omega (arith, e0, members_length k) in
    (ap (λ m. parts.And m ∷ (parts_each (taken k cs) ++ parts_list (left k cs))) (taken_count k cs) ∙ ap (λ qs. parts.And k ∷ qs) (taken_parts k n cs e' ∙ h), ap suc (left_length k n cs e'))
with_rebuilt (parts.Or k) n ps cs h e =
    let e0 : length cs ≡ n + length (members k) = e in
    let e' : length cs ≡ k + n = omega (arith, e0, members_length k) in
    (ap (λ m. parts.Or m ∷ (parts_each (taken k cs) ++ parts_list (left k cs))) (taken_count k cs) ∙ ap (λ qs. parts.Or k ∷ qs) (taken_parts k n cs e' ∙ h), ap suc (left_length k n cs e'))
with_rebuilt (parts.Not line) n ps cs h e = one_below (parts.Not line) (negation line) n ps cs (λ c. refl) h e
with_rebuilt (parts.ForAll line) n ps cs h e = two_below line n ps cs h e
with_rebuilt (parts.Gather line fold total value) n ps cs h e = one_below (parts.Gather line fold total value) (gather line fold total value) n ps cs (λ c. refl) h e

rebuilt : (n : ℕ) (ps : List Part) → PartsFit n ps → (parts_list (conditions_of ps) ≡ ps) × (length (conditions_of ps) ≡ n)
rebuilt zero [] h = (refl, refl)
rebuilt zero (p ∷ ps) h = absurd h
rebuilt (suc n) [] h = absurd h
rebuilt (suc n) (p ∷ ps) h =
    let r = rebuilt (n + length (below p)) ps h in
    with_rebuilt p n ps (conditions_of ps) r.0 r.1

only_one : (ps : List Part) (cs : List Condition) → parts_list cs ≡ ps → length cs ≡ 1 → parts_of (first_of cs) ≡ ps
only_one ps [] h e = absurd (omega (arith, e))
only_one ps (c ∷ []) h e = sym (append-nil (parts_of c)) ∙ h
only_one ps (c ∷ d ∷ cs) h e = absurd (omega (arith, e))

one_condition : (ps : List Part) → PartsFit 1 ps → parts_of (condition_of ps) ≡ ps
one_condition ps h =
    let r = rebuilt 1 ps h in
    only_one ps (conditions_of ps) r.0 r.1

-- what the walks over parts that are those of one condition, or none, give
pub shape_done : (head : List ℕ) (pred : ℕ) (ps : List Part) → IsShape ps → first_done (dones (head ++ parts_vars ps) (marked (head ++ parts_vars ps) (None ∷ []) pred ps)) ≡ done_of (rule_vars head (condition_of ps)) None pred (condition_of ps)
shape_done head pred ps (inl e) =
    subst (λ (qs : List Part). first_done (dones (head ++ parts_vars qs) (marked (head ++ parts_vars qs) (None ∷ []) pred qs)) ≡ done_of (rule_vars head (condition_of qs)) None pred (condition_of qs)) (sym e) refl
shape_done head pred ps (inr h) =
    let c = condition_of ps in
    let e : parts_of c ≡ ps = one_condition ps h in
    let vars : head ++ parts_vars ps ≡ rule_vars head c = ap (λ vs. head ++ vs) (ap parts_vars (sym e) ∙ vars_same c) in
    ap (λ rule. first_done (dones rule (marked rule (None ∷ []) pred ps))) vars
    ∙ ap (λ qs. first_done (dones (rule_vars head c) (marked (rule_vars head c) (None ∷ []) pred qs))) (sym e)
    ∙ ap first_done (walks_right (rule_vars head c) pred c)

pub is_done : (rule : List ℕ) (pred : ℕ) (c : Condition) (d : Done) → d ≡ done_of rule None pred c → IsDone (drafted false pred rule c) d
is_done rule pred c d e = record { literals = ap (λ (x : Done). x.literals) e; clauses = ap (λ (x : Done). x.clauses) e; kinds = ap (λ (x : Done). x.kinds) e }

pub translated_done : (head : List ℕ) (pred : ℕ) (ps : List Part) (rule : List ℕ) (marks : List Mark) (stack : List Done) (d : Done) → IsShape ps → rule ≡ head ++ parts_vars ps → marks ≡ marked rule (None ∷ []) pred ps → stack ≡ dones rule marks → d ≡ first_done stack → IsDone (drafted false pred (rule_vars head (condition_of ps)) (condition_of ps)) d
translated_done head pred ps rule marks stack d shape er em es ed =
    is_done (rule_vars head (condition_of ps)) pred (condition_of ps) d
    (ed ∙ ap first_done (es ∙ ap (dones rule) em ∙ ap (λ vs. dones vs (marked vs (None ∷ []) pred ps)) er) ∙ shape_done head pred ps shape)
