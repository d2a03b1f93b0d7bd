-- Each predicate of what conditions are translated to has one number of arguments.
use Rattle.std.proofs.Common.{◌≡◌, ℕ, suc, ◌+◌, ◌<◌, ◌≤◌, ⊎_elim, Bool, true, false, cond, List, [], ◌∷◌, ◌++◌, map, length, get_or, refl, sym, ap, subst, ◌∙◌, arith, append_assoc, length-append}
use Rattle.std.specs.List.{AllByRecursion}
use Rattle.std.proofs.lemmas.Bool.{cases_lt}
use Rattle.std.proofs.lemmas.List.{get_or_at}
use Rattle.le_templates.specs.declared.part.Part.{Part}
use Rattle.le_templates.specs.declared.part.Part.TheVariants.{Word, Slot}
use Rattle.le_templates.specs.declared.part.Template.{Template}
use Rattle.le_terms.specs.Tree.{Tree}
use Rattle.le_terms.specs.Program.{HasArity}
use Rattle.le_terms.specs.declared.program.Atom.{Atom}
use Rattle.le_terms.specs.declared.program.GroupKind.{GroupKind}
use Rattle.le_terms.specs.declared.program.GroupKind.TheVariants as groups
use Rattle.le_match.specs.Readings.{parts_at}
use Rattle.le_match.specs.Sayable.{HasTerms, HasTemplate}
use Rattle.le_clauses.specs.declared.draft.Draft.{Draft}
use Rattle.le_clauses.specs.Conditions.{Condition, Conditions, sentence, all, some, negation, for_all, gather, none, more}
use Rattle.le_clauses.specs.Groups.{shared, group_atom, is_atom_alone, group_target, group_clauses, Group, group_by, drafted, members_drafted, branches_drafted}
use Rattle.le_clauses.proofs.SayableDrafts.{group_heads, heads, members_heads}

-- ---- the heads of groups

-- atoms whose predicates are numbered one after another from this one on
abbrev pub AreNumbered : ℕ → List Atom → Type 0
AreNumbered pred [] = Unit {0}
AreNumbered pred (atom ∷ atoms) = (atom.pred ≡ pred) × AreNumbered (pred + 1) atoms

numbered_both : (pred next : ℕ) (xs ys : List Atom) → next ≡ pred + length xs → AreNumbered pred xs → AreNumbered next ys → AreNumbered pred (xs ++ ys)
numbered_both pred next [] ys e h k = let same : next ≡ pred = omega (arith, e) in subst (λ n. AreNumbered n ys) same k
numbered_both pred next (x ∷ xs) ys e h k = (h.0, numbered_both (pred + 1) next xs ys (omega (arith, e)) h.1 k)

-- the heads of groups, one for each kind
pub record AreHeads (pred : ℕ) (atoms : List Atom) (kinds : List GroupKind) : Type 0 where
  pub numbered : AreNumbered pred atoms
  pub many : length atoms ≡ length kinds

heads_both : (pred next : ℕ) (xs ys : List Atom) (kinds more_kinds : List GroupKind) → next ≡ pred + length kinds → AreHeads pred xs kinds → AreHeads next ys more_kinds → AreHeads pred (xs ++ ys) (kinds ++ more_kinds)
heads_both pred next xs ys kinds more_kinds e h k = record {
  numbered = numbered_both pred next xs ys (omega (arith, e, h.many)) h.numbered k.numbered;
  many = omega (arith, h.many, k.many, length-append xs ys, length-append kinds more_kinds);
}

one_more : (pred : ℕ) (kind : GroupKind) (vars : List ℕ) (atoms : List Atom) (kinds : List GroupKind) → AreHeads (pred + 1) atoms kinds → AreHeads pred (group_atom pred vars ∷ atoms) (kind ∷ kinds)
one_more pred kind vars atoms kinds h = record { numbered = (refl, h.numbered); many = ap suc h.many }

group_heads_of : (pred : ℕ) (kind : GroupKind) (rule : List ℕ) (c : Condition) (d : Draft) (atoms : List Atom) → AreHeads (pred + 1) atoms d.kinds → AreHeads pred (group_heads pred rule c atoms) (group_by kind pred rule c d).kinds
group_heads_of pred kind rule c d atoms h = by (is_atom_alone rule c)
  where
    by : (b : Bool) → AreHeads pred (cond b [] (group_atom pred (shared rule c) ∷ atoms)) (cond {A = Group} b (record { atom = group_target pred rule c; clauses = []; kinds = [] }) (record { atom = group_target pred rule c; clauses = group_clauses (group_atom pred (shared rule c)) d ++ d.clauses; kinds = kind ∷ d.kinds })).kinds
    by true = record { numbered = tt; many = refl }
    by false = one_more pred kind (shared rule c) atoms d.kinds h

mutual
  -- the heads of the groups of a condition are one for each kind
  pub heads_of : (c : Condition) (whole : Bool) (pred : ℕ) (rule : List ℕ) → AreHeads pred (heads whole pred rule c) (drafted whole pred rule c).kinds
  heads_of (sentence line atom) whole pred rule = record { numbered = tt; many = refl }
  heads_of (all cs) whole pred rule = members_of cs pred rule
  heads_of (some cs) true pred rule = branches_of cs pred rule
  heads_of (some cs) false pred rule = one_more pred groups.Or (shared rule (some cs)) (members_heads (pred + 1) rule cs) (branches_drafted (pred + 1) rule cs).kinds (branches_of cs (pred + 1) rule)
  heads_of (negation line c) whole pred rule = group_heads_of pred groups.Not rule c (drafted true (pred + 1) rule c) (heads true (pred + 1) rule c) (heads_of c true (pred + 1) rule)
  heads_of (for_all line c e) whole pred rule =
      let first = drafted false (pred + 1) rule c in
      let next = pred + 1 + length first.kinds in
      let d = drafted true (next + 1) rule e in
      let inside = group_heads next rule e (heads true (next + 1) rule e) in
      let second = group_by groups.Not next rule e d in
      one_more pred groups.Case (shared rule (for_all line c e)) (heads false (pred + 1) rule c ++ inside) (first.kinds ++ second.kinds)
      (heads_both (pred + 1) next (heads false (pred + 1) rule c) inside first.kinds second.kinds refl (heads_of c false (pred + 1) rule)
      (group_heads_of next groups.Not rule e d (heads true (next + 1) rule e) (heads_of e true (next + 1) rule)))
  heads_of (gather line fold total value c) whole pred rule = group_heads_of pred groups.Value rule c (drafted true (pred + 1) rule c) (heads true (pred + 1) rule c) (heads_of c true (pred + 1) rule)

  members_of : (cs : Conditions) (pred : ℕ) (rule : List ℕ) → AreHeads pred (members_heads pred rule cs) (members_drafted pred rule cs).kinds
  members_of none pred rule = record { numbered = tt; many = refl }
  members_of (more c cs) pred rule =
      let first = drafted false pred rule c in
      let next = pred + length first.kinds in
      heads_both pred next (heads false pred rule c) (members_heads next rule cs) first.kinds (members_drafted next rule cs).kinds refl (heads_of c false pred rule) (members_of cs next rule)

  branches_of : (cs : Conditions) (pred : ℕ) (rule : List ℕ) → AreHeads pred (members_heads pred rule cs) (branches_drafted pred rule cs).kinds
  branches_of none pred rule = record { numbered = tt; many = refl }
  branches_of (more c cs) pred rule =
      let first = drafted false pred rule c in
      let next = pred + length first.kinds in
      heads_both pred next (heads false pred rule c) (members_heads next rule cs) first.kinds (branches_drafted next rule cs).kinds refl (heads_of c false pred rule) (branches_of cs next rule)

-- ---- numbers of arguments

-- predicates from this one on have these numbers of arguments
abbrev pub HaveArities : (ℕ → ℕ) → ℕ → List ℕ → Type 0
HaveArities arity pred [] = Unit {0}
HaveArities arity pred (n ∷ ns) = (arity pred ≡ n) × HaveArities arity (pred + 1) ns

pub arities_first : (arity : ℕ → ℕ) (pred : ℕ) (ns ms : List ℕ) → HaveArities arity pred (ns ++ ms) → HaveArities arity pred ns
arities_first arity pred [] ms h = tt
arities_first arity pred (n ∷ ns) ms h = (h.0, arities_first arity (pred + 1) ns ms h.1)

pub arities_second : (arity : ℕ → ℕ) (pred next : ℕ) (ns ms : List ℕ) → next ≡ pred + length ns → HaveArities arity pred (ns ++ ms) → HaveArities arity next ms
arities_second arity pred next [] ms e h = let same : pred ≡ next = omega (arith, e) in subst (λ n. HaveArities arity n ms) same h
arities_second arity pred next (n ∷ ns) ms e h = arities_second arity (pred + 1) next ns ms (omega (arith, e)) h.1

-- how many arguments atoms have
abbrev pub argument_counts : List Atom → List ℕ
argument_counts atoms = map (λ (atom : Atom). length atom.args) atoms

pub counts_many : (atoms : List Atom) → length (argument_counts atoms) ≡ length atoms
counts_many [] = refl
counts_many (atom ∷ atoms) = ap suc (counts_many atoms)

pub heads_arities : (arity : ℕ → ℕ) (count pred : ℕ) (atoms : List Atom) → AreNumbered pred atoms → HaveArities arity pred (argument_counts atoms) → pred + length atoms ≤ count → AllByRecursion (HasArity arity count) atoms
heads_arities arity count pred [] h k low = tt
heads_arities arity count pred (atom ∷ atoms) h k low =
    ((omega (arith, low, h.0), sym (ap arity h.0 ∙ k.0)), heads_arities arity count (pred + 1) atoms h.1 k.1 (omega (arith, low)))

-- ---- templates

-- how many slots a template has
abbrev pub slot_count : List Part → ℕ
slot_count [] = 0
slot_count (Word w ∷ parts) = slot_count parts
slot_count (Slot s ∷ parts) = suc (slot_count parts)

terms_many : (parts : List Part) (trees : List Tree) → HasTerms parts trees → length trees ≡ slot_count parts
terms_many [] [] h = refl
terms_many [] (tree ∷ trees) h = absurd h
terms_many (Word w ∷ parts) [] h = terms_many parts [] h
terms_many (Word w ∷ parts) (tree ∷ trees) h = terms_many parts (tree ∷ trees) h
terms_many (Slot s ∷ parts) [] h = absurd h
terms_many (Slot s ∷ parts) (tree ∷ trees) h = ap suc (terms_many parts trees h)

-- the predicates of templates have as many arguments as their templates have slots, and there are so many predicates
pub record FitTemplates (users : List Template) (arity : ℕ → ℕ) (count : ℕ) : Type 0 where
  pub slots : (pred : ℕ) → pred < 20 + length users → arity pred ≡ slot_count (parts_at users pred)
  pub many : 20 + length users ≤ count

-- an atom of a template, or of a group with its number of arguments, has its number of arguments
pub atom_arity : (users : List Template) (arity : ℕ → ℕ) (count : ℕ) (atom : Atom) → FitTemplates users arity count → HasTemplate users atom → (20 + length users ≤ atom.pred → HasArity arity count atom) → HasArity arity count atom
atom_arity users arity count atom fit template group = ⊎_elim
    (λ (low : atom.pred < 20 + length users). (omega (arith, low, fit.many), terms_many (parts_at users atom.pred) atom.args (template low).1 ∙ sym (fit.slots atom.pred low)))
    (λ (high : 20 + length users ≤ atom.pred). group high)
    (cases_lt atom.pred (20 + length users))

-- the numbers of arguments that a list has after others
pub arities_behind : (front ns : List ℕ) → HaveArities (λ pred. get_or (front ++ ns) pred 0) (length front) ns
arities_behind front [] = tt
arities_behind front (n ∷ ns) =
    let both = append_assoc front (n ∷ []) ns in (
      get_or_at front n ns 0 (length front) refl,
      subst (λ k. HaveArities (λ pred. get_or (front ++ n ∷ ns) pred 0) k ns) (let e = length-append front (n ∷ []) in omega (arith, e))
          (subst (λ xs. HaveArities (λ pred. get_or xs pred 0) (length (front ++ n ∷ [])) ns) both (arities_behind (front ++ n ∷ []) ns)),
    )
