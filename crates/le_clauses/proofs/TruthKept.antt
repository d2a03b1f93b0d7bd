-- The literals that conditions are translated to are true exactly where the conditions are.
use Rattle.std.proofs.Common.{◌≡◌, ◌≤◌, ◌<◌, ℕ, ◌+◌, ◌==◌, ◌&&◌, ◌||◌, ◌⊎◌, inl, inr, Bool, true, false, not, cond, List, [], ◌∷◌, ◌++◌, map, length, refl, sym, ap, ◌∙◌, subst, arith, length-append}
use Rattle.std.specs.List.{list_all}
use Rattle.std.proofs.lemmas.Bool.{or_cases, or_left, eqb-true, ltb-true, lt-ltb, le-ltb, true≢false, and_parts}
use Rattle.le_terms.specs.Tree.{Tree}
use Rattle.le_terms.specs.Variables.{all_occurrences}
use Rattle.le_terms.specs.Program.{literals_terms}
use Rattle.le_terms.specs.declared.program.Atom.{Atom}
use Rattle.le_terms.specs.declared.program.Form.TheVariants.{Pos, Neg, Calc}
use Rattle.le_terms.specs.declared.program.Literal.{Literal}
use Rattle.le_terms.specs.declared.program.Clause.{Clause}
use Rattle.le_terms.specs.declared.program.GroupKind.{GroupKind}
use Rattle.le_terms.specs.declared.program.GroupKind.TheVariants as groups
use Rattle.le_proofs.specs.Goals.{atom_under}
use Rattle.le_clauses.specs.declared.draft.Draft.{Draft}
use Rattle.le_clauses.specs.declared.draft.Body.{Body}
use Rattle.le_clauses.specs.Conditions.{Condition, Conditions, sentence, all, some, negation, for_all, gather, none, more, line_of, line_of_first, occurring, all_occurring}
use Rattle.le_clauses.specs.Groups.{has, shared, own, group_atom, is_computed, is_atom_alone, body, literal, literals_of, branch_clause, group_clauses, Group, group_by, sentence_form, drafted, members_drafted, branches_drafted, numbered, is_outside, rule_vars, rule_draft, written_clause}
use Rattle.le_clauses.specs.Truth.{for_some, for_each, is_true, are_true, is_one_true, is_body_true, meant, of_templates, by_place, by_number, IsPlain, ArePlain}
use Rattle.le_docs.specs.declared.doc.Section.{Section}
use Rattle.le_scope.specs.Scopes.{ScopeState}
use Rattle.le_clauses.specs.Pieces.{query_draft, query_vars, query_by}
use Rattle.le_clauses.proofs.Sets.{has-firsts, has-append}
use Rattle.le_clauses.proofs.NumberLaws.{clause_vars, meant_numbered, literals_numbered, body_numbered}
use Rattle.le_clauses.proofs.ForSome.{In, for_some_twice, for_some_moved, for_each_not, same_functions}
use Rattle.le_clauses.proofs.GroupLemmas.{has-own}
use Rattle.le_clauses.proofs.Kept.{IsClean, IsKeptBody, AreKept, IsKeptAtom, body_alike, atom_alike, as_bodies, positive, negative, both, either, group}

-- one end for another
body_to : (values : List Tree) (set : Atom → Bool) (base from to to2 : ℕ) (vars : List ℕ) (ls : List Literal) (cs : List Clause) (p : (ℕ → Tree) → Bool) → to ≡ to2 → IsKeptBody values set base from to vars ls cs p → IsKeptBody values set base from to2 vars ls cs p
body_to values set base from to to2 vars ls cs p e k = subst (λ t. IsKeptBody values set base from t vars ls cs p) e k

bodies_to : (values : List Tree) (set : Atom → Bool) (base from to to2 : ℕ) (vars : List ℕ) (bs : List Body) (cs : List Clause) (p : (ℕ → Tree) → Bool) → to ≡ to2 → AreKept values set base from to vars bs cs p → AreKept values set base from to2 vars bs cs p
bodies_to values set base from to to2 vars bs cs p e k = subst (λ t. AreKept values set base from t vars bs cs p) e k

atom_to : (values : List Tree) (set : Atom → Bool) (base from to to2 : ℕ) (vars : List ℕ) (atom : Atom) (cs : List Clause) (p : (ℕ → Tree) → Bool) → to ≡ to2 → IsKeptAtom values set base from to vars atom cs p → IsKeptAtom values set base from to2 vars atom cs p
atom_to values set base from to to2 vars atom cs p e k = subst (λ t. IsKeptAtom values set base from t vars atom cs p) e k

-- the whole of a group: of a disjunction, one of its members
abbrev whole_true : List Tree → (Atom → Bool) → List ℕ → Condition → (ℕ → Tree) → Bool
whole_true values set rule (sentence line atom) by = is_true values set rule (sentence line atom) by
whole_true values set rule (all cs) by = is_true values set rule (all cs) by
whole_true values set rule (some cs) by = is_one_true values set rule cs by
whole_true values set rule (negation line c) by = is_true values set rule (negation line c) by
whole_true values set rule (for_all line c d) by = is_true values set rule (for_all line c d) by
whole_true values set rule (gather line fold result value c) by = is_true values set rule (gather line fold result value c) by

-- for some values of a group's own variables it is true where its whole is
whole_same : (values : List Tree) (set : Atom → Bool) (rule : List ℕ) (c : Condition) (by : ℕ → Tree) → for_some values (own rule c) (whole_true values set rule c) by ≡ for_some values (own rule c) (is_true values set rule c) by
whole_same values set rule (sentence line atom) by = refl
whole_same values set rule (all cs) by = refl
whole_same values set rule (some cs) by = sym (for_some_twice values (own rule (some cs)) (is_one_true values set rule cs) by)
whole_same values set rule (negation line c) by = refl
whole_same values set rule (for_all line c d) by = refl
whole_same values set rule (gather line fold result value c) by = refl

-- the atom of a sentence
plain_atom : (values : List Tree) (set : Atom → Bool) (base from : ℕ) (atom : Atom) → atom.pred < base → IsKeptAtom values set base from from (all_occurrences atom.args) atom [] (λ by. set (atom_under by atom))
plain_atom values set base from atom low = record {
  heads = tt;
  within = λ v e. e;
  of = inl low;
  truth = λ env clean by. clean.templates (atom_under by atom) low;
}

-- the literal of a sentence, computed or not
sentence_kept : (values : List Tree) (set : Atom → Bool) (base from : ℕ) (line : ℕ) (atom : Atom) → atom.pred < base → (b : Bool) → IsKeptBody values set base from from (all_occurrences atom.args) (literal line (cond b (Calc atom) (Pos atom)) ∷ []) [] (λ by. set (atom_under by atom))
sentence_kept values set base from line atom low false = positive values set base from from (all_occurrences atom.args) line atom [] (λ by. set (atom_under by atom)) (plain_atom values set base from atom low)
sentence_kept values set base from line atom low true =
    let k = positive values set base from from (all_occurrences atom.args) line atom [] (λ by. set (atom_under by atom)) (plain_atom values set base from atom low) in
    record { heads = k.heads; within = k.within; speak = k.speak; truth = k.truth }

has_step : (p : ℕ → Bool) (us : List ℕ) (u v : ℕ) → p u ≡ true → (has us v ≡ true → p v ≡ true) → ((u == v) ≡ true) ⊎ (has us v ≡ true) → p v ≡ true
has_step p us u v first further (inl here) = ap p (sym (eqb-true u v here)) ∙ first
has_step p us u v first further (inr later) = further later

all_has : (p : ℕ → Bool) (vars : List ℕ) (v : ℕ) → list_all p vars ≡ true → has vars v ≡ true → p v ≡ true
all_has p [] v h e = absurd (true≢false (sym e))
all_has p (u ∷ us) v h e =
    let parts = and_parts (p u) (list_all p us) h in
    has_step p us u v parts.0 (λ later. all_has p us v parts.1 later) (or_cases (u == v) (has us v) e)

not_own : (x y : Bool) → (y ≡ true → x ≡ true) → (not x && y) ≡ false
not_own true y h = refl
not_own false true h = sym (h refl)
not_own false false h = refl

-- a group all of whose variables occur outside has none of its own
pub nothing_own : (values : List Tree) (x : Tree) → In x values → (rule : List ℕ) (c : Condition) (p : (ℕ → Tree) → Bool) (by : ℕ → Tree) → list_all (is_outside rule c) (occurring c) ≡ true → for_some values (own rule c) p by ≡ p by
nothing_own values x inside rule c p by h =
    for_some_moved values x inside (λ v. true) p (λ a b agree. ap p (same_functions (λ v. agree v refl))) (own rule c) [] by by
    (λ v is_on. has-own rule c v ∙ not_own (is_outside rule c v) (has (occurring c) v) (λ e. all_has (is_outside rule c) (occurring c) v h e))
    (λ v is_on e. refl)

-- The atom that stands for a group, with its clauses.
abbrev IsKeptGroup : List Tree → (Atom → Bool) → ℕ → ℕ → List ℕ → Condition → Group → Type 0
IsKeptGroup values set base pred rule c g = IsKeptAtom values set base pred (pred + length g.kinds) (occurring c) g.atom g.clauses (for_some values (own rule c) (is_true values set rule c))

with_group : (values : List Tree) (x : Tree) → In x values → (set : Atom → Bool) (base pred : ℕ) → base ≤ pred → (kind : GroupKind) (rule : List ℕ) (c : Condition) (d : Draft)
    → AreKept values set base (pred + 1) (pred + 1 + length d.kinds) (occurring c) d.bodies d.clauses (whole_true values set rule c)
    → IsKeptGroup values set base pred rule c (record { atom = group_atom pred (shared rule c); clauses = group_clauses (group_atom pred (shared rule c)) d ++ d.clauses; kinds = kind ∷ d.kinds })
with_group values x inside set base pred low kind rule c d k =
    atom_to values set base pred (pred + 1 + length d.kinds) (pred + length (kind ∷ d.kinds)) (occurring c) (group_atom pred (shared rule c)) (group_clauses (group_atom pred (shared rule c)) d ++ d.clauses) (for_some values (own rule c) (is_true values set rule c))
    (omega arith)
    (atom_alike values set base pred (pred + 1 + length d.kinds) (occurring c) (group_atom pred (shared rule c)) (group_clauses (group_atom pred (shared rule c)) d ++ d.clauses) (for_some values (own rule c) (whole_true values set rule c)) (for_some values (own rule c) (is_true values set rule c))
    (whole_same values set rule c)
    (group values x inside set base pred (pred + 1 + length d.kinds) low (omega arith) rule c d.bodies d.clauses (whole_true values set rule c) k))

-- a group that is one sentence, by whether its atom is used
sentence_group : (values : List Tree) (x : Tree) → In x values → (set : Atom → Bool) (base pred : ℕ) → base ≤ pred → (kind : GroupKind) (rule : List ℕ) (line : ℕ) (atom : Atom) (d : Draft) → atom.pred < base
    → AreKept values set base (pred + 1) (pred + 1 + length d.kinds) (all_occurrences atom.args) d.bodies d.clauses (whole_true values set rule (sentence line atom))
    → (b : Bool) → (b ≡ true → list_all (is_outside rule (sentence line atom)) (all_occurrences atom.args) ≡ true)
    → IsKeptGroup values set base pred rule (sentence line atom)
    (cond b (record { atom = cond b atom (group_atom pred (shared rule (sentence line atom))); clauses = []; kinds = [] })
    (record { atom = cond b atom (group_atom pred (shared rule (sentence line atom))); clauses = group_clauses (group_atom pred (shared rule (sentence line atom))) d ++ d.clauses; kinds = kind ∷ d.kinds }))
sentence_group values x inside set base pred low kind rule line atom d plain k false h = with_group values x inside set base pred low kind rule (sentence line atom) d k
sentence_group values x inside set base pred low kind rule line atom d plain k true h =
    atom_to values set base pred pred (pred + 0) (all_occurrences atom.args) atom [] (for_some values (own rule (sentence line atom)) (is_true values set rule (sentence line atom)))
    (omega arith)
    (atom_alike values set base pred pred (all_occurrences atom.args) atom [] (λ by. set (atom_under by atom)) (for_some values (own rule (sentence line atom)) (is_true values set rule (sentence line atom)))
    (λ by. sym (nothing_own values x inside rule (sentence line atom) (is_true values set rule (sentence line atom)) by (h refl)))
    (plain_atom values set base pred atom plain))

group_kept : (values : List Tree) (x : Tree) → In x values → (set : Atom → Bool) (base pred : ℕ) → base ≤ pred → (kind : GroupKind) (rule : List ℕ) (c : Condition) (d : Draft) → IsPlain base c
    → AreKept values set base (pred + 1) (pred + 1 + length d.kinds) (occurring c) d.bodies d.clauses (whole_true values set rule c)
    → IsKeptGroup values set base pred rule c (group_by kind pred rule c d)
group_kept values x inside set base pred low kind rule (sentence line atom) d plain k =
    sentence_group values x inside set base pred low kind rule line atom d (ltb-true atom.pred base plain) k (is_atom_alone rule (sentence line atom)) (λ h. (and_parts (not (is_computed atom)) (list_all (is_outside rule (sentence line atom)) (all_occurrences atom.args)) h).1)
group_kept values x inside set base pred low kind rule (all cs) d plain k = with_group values x inside set base pred low kind rule (all cs) d k
group_kept values x inside set base pred low kind rule (some cs) d plain k = with_group values x inside set base pred low kind rule (some cs) d k
group_kept values x inside set base pred low kind rule (negation line c) d plain k = with_group values x inside set base pred low kind rule (negation line c) d k
group_kept values x inside set base pred low kind rule (for_all line c e) d plain k = with_group values x inside set base pred low kind rule (for_all line c e) d k
group_kept values x inside set base pred low kind rule (gather line fold result value c) d plain k = absurd plain

-- both ways to translate a condition
pub record IsKept (values : List Tree) (set : Atom → Bool) (base pred : ℕ) (rule : List ℕ) (c : Condition) : Type 0 where
  pub alone : IsKeptBody values set base pred (pred + length (drafted false pred rule c).kinds) (occurring c) (literals_of (drafted false pred rule c)) (drafted false pred rule c).clauses (is_true values set rule c)
  pub whole : AreKept values set base pred (pred + length (drafted true pred rule c).kinds) (occurring c) (drafted true pred rule c).bodies (drafted true pred rule c).clauses (whole_true values set rule c)

pub record AreKeptMembers (values : List Tree) (set : Atom → Bool) (base pred : ℕ) (rule : List ℕ) (cs : Conditions) : Type 0 where
  pub members : IsKeptBody values set base pred (pred + length (members_drafted pred rule cs).kinds) (all_occurring cs) (literals_of (members_drafted pred rule cs)) (members_drafted pred rule cs).clauses (are_true values set rule cs)
  pub branches : AreKept values set base pred (pred + length (branches_drafted pred rule cs).kinds) (all_occurring cs) (branches_drafted pred rule cs).bodies (branches_drafted pred rule cs).clauses (is_one_true values set rule cs)

length_both : {X : Type 0} (pred : ℕ) (xs ys : List X) → pred + length xs + length ys ≡ pred + length (xs ++ ys)
length_both pred xs ys = omega (arith, length-append xs ys)

implied : (x y : Bool) → not (x && not y) ≡ (not x || y)
implied true true = refl
implied true false = refl
implied false y = refl

not_some : (values : List Tree) (vars : List ℕ) (p q : (ℕ → Tree) → Bool) (by : ℕ → Tree) → not (for_some values vars (λ a. p a && not (q a)) by) ≡ for_each values vars (λ a. not (p a) || q a) by
not_some values vars p q by =
    sym (for_each_not values vars (λ a. p a && not (q a)) by)
    ∙ ap (λ f. for_each values vars f by) (same_functions {f = λ a. not (p a && not (q a))} {g = λ a. not (p a) || q a} (λ a. implied (p a) (q a)))

-- a conjunction has one body
members_whole : (values : List Tree) (set : Atom → Bool) (base pred : ℕ) (rule : List ℕ) (cs : Conditions)
    → IsKeptBody values set base pred (pred + length (members_drafted pred rule cs).kinds) (all_occurring cs) (literals_of (members_drafted pred rule cs)) (members_drafted pred rule cs).clauses (are_true values set rule cs)
    → AreKept values set base pred (pred + length (members_drafted pred rule cs).kinds) (all_occurring cs) (members_drafted pred rule cs).bodies (members_drafted pred rule cs).clauses (whole_true values set rule (all cs))
members_whole values set base pred rule none k = as_bodies values set base pred (pred + 0) [] 0 [] [] (λ by. true) k
members_whole values set base pred rule (more c cs) k =
    let d = members_drafted pred rule (more c cs) in
    as_bodies values set base pred (pred + length d.kinds) (all_occurring (more c cs)) (line_of c) (literals_of d) d.clauses (are_true values set rule (more c cs)) k

-- what has one body, both ways
both_ways : (values : List Tree) (set : Atom → Bool) (base from to : ℕ) (vars : List ℕ) (line : ℕ) (ls : List Literal) (cs : List Clause) (p : (ℕ → Tree) → Bool) → IsKeptBody values set base from to vars ls cs p → AreKept values set base from to vars (body line ls ∷ []) cs p
both_ways values set base from to vars line ls cs p k = as_bodies values set base from to vars line ls cs p k

mutual
  pub kept : (values : List Tree) (x : Tree) → In x values → (set : Atom → Bool) (base : ℕ) (c : Condition) → IsPlain base c → (pred : ℕ) → base ≤ pred → (rule : List ℕ) → IsKept values set base pred rule c
  kept values x inside set base (sentence line atom) plain pred low rule =
      let k = body_to values set base pred pred (pred + 0) (all_occurrences atom.args) (literal line (sentence_form atom) ∷ []) [] (λ by. set (atom_under by atom)) (omega arith) (sentence_kept values set base pred line atom (ltb-true atom.pred base plain) (is_computed atom)) in
      record { alone = k; whole = as_bodies values set base pred (pred + 0) (all_occurrences atom.args) line (literal line (sentence_form atom) ∷ []) [] (λ by. set (atom_under by atom)) k }
  kept values x inside set base (all cs) plain pred low rule =
      let k = (kept_members values x inside set base cs plain pred low rule).members in
      record { alone = k; whole = members_whole values set base pred rule cs k }
  kept values x inside set base (some cs) plain pred low rule =
      let k = (kept_members values x inside set base cs plain (pred + 1) (omega arith) rule).branches in
      let head = group_atom pred (shared rule (some cs)) in
      let d = branches_drafted (pred + 1) rule cs in
      record {
        alone = positive values set base pred (pred + length (groups.Or ∷ d.kinds)) (all_occurring cs) (line_of_first cs) head (group_clauses head d ++ d.clauses) (is_true values set rule (some cs))
            (atom_to values set base pred (pred + 1 + length d.kinds) (pred + length (groups.Or ∷ d.kinds)) (all_occurring cs) head (group_clauses head d ++ d.clauses) (is_true values set rule (some cs)) (omega arith)
            (group values x inside set base pred (pred + 1 + length d.kinds) low (omega arith) rule (some cs) d.bodies d.clauses (is_one_true values set rule cs) k));
        whole = (kept_members values x inside set base cs plain pred low rule).branches;
      }
  kept values x inside set base (negation line c) plain pred low rule =
      let d = drafted true (pred + 1) rule c in
      let g = group_by groups.Not pred rule c d in
      let k = negative values set base pred (pred + length g.kinds) (occurring c) line g.atom g.clauses (for_some values (own rule c) (is_true values set rule c))
      (group_kept values x inside set base pred low groups.Not rule c d plain (kept values x inside set base c plain (pred + 1) (omega arith) rule).whole) in
      record { alone = k; whole = as_bodies values set base pred (pred + length g.kinds) (occurring c) line (literal line (Neg g.atom) ∷ []) g.clauses (is_true values set rule (negation line c)) k }
  kept values x inside set base (for_all line c e) plain pred low rule =
      let head = group_atom pred (shared rule (for_all line c e)) in
      let first = drafted false (pred + 1) rule c in
      let next = pred + 1 + length first.kinds in
      let d = drafted true (next + 1) rule e in
      let second = group_by groups.Not next rule e d in
      let p = is_true values set rule c in
      let q = for_some values (own rule e) (is_true values set rule e) in
      let k1 = (kept values x inside set base c plain.0 (pred + 1) (omega arith) rule).alone in
      let k2 = negative values set base next (next + length second.kinds) (occurring e) (line_of e) second.atom second.clauses q
      (group_kept values x inside set base next (omega arith) groups.Not rule e d plain.1 (kept values x inside set base e plain.1 (next + 1) (omega arith) rule).whole) in
      let ls = literals_of first ++ literal (line_of e) (Neg second.atom) ∷ [] in
      let cs = first.clauses ++ second.clauses in
      let clauses = branch_clause head (body (line_of c) ls) ∷ cs in
      let to = next + length second.kinds in
      let end = pred + length (groups.Case ∷ (first.kinds ++ second.kinds)) in
      let r = is_true values set rule (for_all line c e) in
      let k = body_alike values set base pred end (occurring c ++ occurring e) (literal line (Neg head) ∷ []) clauses (λ by. not (for_some values (own rule (for_all line c e)) (λ a. p a && not (q a)) by)) r
      (not_some values (own rule (for_all line c e)) p q)
      (negative values set base pred end (occurring c ++ occurring e) line head clauses (for_some values (own rule (for_all line c e)) (λ a. p a && not (q a)))
      (atom_to values set base pred to end (occurring c ++ occurring e) head clauses (for_some values (own rule (for_all line c e)) (λ a. p a && not (q a)))
      (omega (arith, length-append first.kinds second.kinds))
      (group values x inside set base pred to low (omega arith) rule (for_all line c e) (body (line_of c) ls ∷ []) cs (λ a. p a && not (q a))
      (as_bodies values set base (pred + 1) to (occurring c ++ occurring e) (line_of c) ls cs (λ a. p a && not (q a))
      (both values set base (pred + 1) next to (omega arith) (omega arith) (omega arith) (occurring c) (occurring e) (literals_of first) (literal (line_of e) (Neg second.atom) ∷ []) first.clauses second.clauses p (λ a. not (q a)) k1 k2))))) in
      record { alone = k; whole = as_bodies values set base pred end (occurring c ++ occurring e) line (literal line (Neg head) ∷ []) clauses r k }
  kept values x inside set base (gather line fold result value c) plain pred low rule = absurd plain

  pub kept_members : (values : List Tree) (x : Tree) → In x values → (set : Atom → Bool) (base : ℕ) (cs : Conditions) → ArePlain base cs → (pred : ℕ) → base ≤ pred → (rule : List ℕ) → AreKeptMembers values set base pred rule cs
  kept_members values x inside set base none plain pred low rule = record {
    members = record { heads = tt; within = λ v e. e; speak = tt; truth = λ env clean by. refl };
    branches = record { heads = tt; inside = tt; truth = λ env clean by. refl };
  }
  kept_members values x inside set base (more c cs) plain pred low rule =
      let first = drafted false pred rule c in
      let next = pred + length first.kinds in
      let k = (kept values x inside set base c plain.0 pred low rule).alone in
      let rest = kept_members values x inside set base cs plain.1 next (omega arith) rule in
      let m = members_drafted next rule cs in
      let b = branches_drafted next rule cs in
      let p = is_true values set rule c in
      record {
        members = body_to values set base pred (next + length m.kinds) (pred + length (first.kinds ++ m.kinds)) (occurring c ++ all_occurring cs) (literals_of first ++ literals_of m) (first.clauses ++ m.clauses) (are_true values set rule (more c cs))
            (length_both pred first.kinds m.kinds)
            (both values set base pred next (next + length m.kinds) low (omega arith) (omega arith) (occurring c) (all_occurring cs) (literals_of first) (literals_of m) first.clauses m.clauses p (are_true values set rule cs) k rest.members);
        branches = bodies_to values set base pred (next + length b.kinds) (pred + length (first.kinds ++ b.kinds)) (occurring c ++ all_occurring cs) (body (line_of c) (literals_of first) ∷ b.bodies) (first.clauses ++ b.clauses) (is_one_true values set rule (more c cs))
            (length_both pred first.kinds b.kinds)
            (either values set base pred next (next + length b.kinds) low (omega arith) (omega arith) (occurring c) (all_occurring cs) (line_of c) (literals_of first) b.bodies first.clauses b.clauses p (is_one_true values set rule cs) k rest.branches);
      }

templates_clean : (set : Atom → Bool) (base pred to : ℕ) → base ≤ pred → IsClean set base pred to (of_templates base set)
templates_clean set base pred to low = record {
  templates = λ atom is_low. ap (λ b. b && set atom) (lt-ltb atom.pred base is_low);
  clean = λ atom above below. ap (λ b. b && set atom) (le-ltb atom.pred base (omega (arith, above, low)));
}

-- The literals of conditions, with the clauses of their groups, are true exactly where the conditions are.
pub truth_kept : (values : List Tree) (x : Tree) → In x values → (set : Atom → Bool) (base : ℕ) (c : Condition) → IsPlain base c → (pred : ℕ) → base ≤ pred → (rule : List ℕ) (by : ℕ → Tree)
    → is_body_true (meant values (of_templates base set) (drafted false pred rule c).clauses) by (literals_of (drafted false pred rule c)) ≡ is_true values set rule c by
truth_kept values x inside set base c plain pred low rule by =
    (kept values x inside set base c plain pred low rule).alone.truth (of_templates base set) (templates_clean set base pred (pred + length (drafted false pred rule c).kinds) low) by

-- The clauses of a rule, their variables numbered anew, are true exactly where its conditions are.
pub rule_kept : (values : List Tree) (x : Tree) → In x values → (set : Atom → Bool) (base : ℕ) (c : Condition) → IsPlain base c → (pred : ℕ) → base ≤ pred → (line : ℕ) (head : Atom) (by : ℕ → Tree)
    → is_body_true (meant values (of_templates base set) (map numbered (rule_draft pred head c).clauses)) (by_number (written_clause line head (rule_draft pred head c)) by) (numbered (written_clause line head (rule_draft pred head c))).body ≡ is_true values set (rule_vars (all_occurrences head.args) c) c by
unfolding clause_vars
rule_kept values x inside set base c plain pred low line head by =
    let d = rule_draft pred head c in
    let clause = written_clause line head d in
    let k = (kept values x inside set base c plain pred low (rule_vars (all_occurrences head.args) c)).alone in
    ap (λ (s : Atom → Bool). is_body_true s (by_number clause by) (numbered clause).body) (meant_numbered values (of_templates base set) pred (pred + length d.kinds) d.clauses k.heads)
    ∙ body_numbered (meant values (of_templates base set) d.clauses) clause by
    ∙ truth_kept values x inside set base c plain pred low (rule_vars (all_occurrences head.args) c) by

-- The literals of a query, their variables numbered anew, are true exactly where its conditions are.
pub query_kept : (values : List Tree) (x : Tree) → In x values → (set : Atom → Bool) (base : ℕ) (c : Condition) → IsPlain base c → (pred : ℕ) → base ≤ pred → (s : Section) (scope : ScopeState) (by : ℕ → Tree)
    → is_body_true (meant values (of_templates base set) (query_by s (query_draft pred scope.asked c) scope).clauses) (by_place (query_vars (query_draft pred scope.asked c) scope.asked) by) (query_by s (query_draft pred scope.asked c) scope).query ≡ is_true values set (rule_vars scope.asked c) c by
query_kept values x inside set base c plain pred low s scope by =
    let d = query_draft pred scope.asked c in
    let vars = query_vars d scope.asked in
    let occur = all_occurrences (literals_terms (literals_of d)) in
    let k = (kept values x inside set base c plain pred low (rule_vars scope.asked c)).alone in
    ap (λ (m : Atom → Bool). is_body_true m (by_place vars by) (query_by s d scope).query) (meant_numbered values (of_templates base set) pred (pred + length d.kinds) d.clauses k.heads)
    ∙ literals_numbered (meant values (of_templates base set) d.clauses) vars (literals_of d) by
    (λ v h. has-firsts (occur ++ scope.asked) v ∙ has-append occur scope.asked v ∙ or_left (has occur v) (has scope.asked v) h)
    ∙ truth_kept values x inside set base c plain pred low (rule_vars scope.asked c) by
