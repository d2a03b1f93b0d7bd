-- What the tests build is a program.
use Rattle.std.proofs.Common.{◌≡◌, ℕ, suc, ◌+◌, ◌^◌, ◌<◌, ◌≤◌, List, [], ◌∷◌, ◌++◌, length, get_or, refl, sym, ap, subst, ◌∙◌, append_assoc, append-nil, length-append, inl, zero, arith}
use Rattle.std.specs.Prelude.{slice_get, Some, Result, Ok, Err, IfOk}
use Rattle.std.specs.List.{AllByRecursion}
use Rattle.std.proofs.lemmas.List.{get_or_past}
use Rattle.le_terms.specs.declared.program.Atom.{Atom}
use Rattle.le_terms.specs.declared.program.Clause.{Clause}
use Rattle.le_terms.specs.declared.program.Literal.{Literal}
use Rattle.le_terms.specs.declared.program.Program.{Program}
use Rattle.le_terms.specs.Program.{HasVariablesBelow, HasArity, IsLiteral, IsProgramClause, IsProgram, form_terms, literals_terms, clause_terms, predefined_arities, predefined_count}
use Rattle.le_terms.specs.declared.program.Form.{Form}
use Rattle.le_proofs.proofs.Alls.{all-both}
use Rattle.le_proofs.proofs.Below.{both-below}

-- predicates that aren't predefined have two arguments
abbrev pub arity : ℕ → ℕ
arity pred = get_or predefined_arities pred 2

pub arity-two : (k : ℕ) → arity (20 + k) ≡ 2
arity-two k = get_or_past predefined_arities (20 + k) 2 (omega arith)

-- an atom of two arguments
pub pair-arity : {E : Type 0} (pred : ℕ) (r : Result Atom E) → pred < 28 → arity pred ≡ 2 → IfOk r (λ atom. atom.pred ≡ pred) → IfOk r (λ atom. length atom.args ≡ 2) → IfOk r (HasArity arity 28)
pair-arity pred (Ok atom) low two is has = (omega (arith, low, is), has ∙ (sym two ∙ ap arity (sym is)))
pair-arity pred (Err e) low two is has = tt

there : (ns : List ℕ) (i : ℕ) → i < length ns → slice_get ns i ≡ Some (get_or ns i 2)
there [] i less = absurd (omega arith)
there (n ∷ ns) zero less = refl
there (n ∷ ns) (suc i) less = there ns i (omega arith)

pub all-push : {X : Type 0} (P : X → Type 0) (xs : List X) (x : X) → AllByRecursion P xs → P x → AllByRecursion P (xs ++ x ∷ [])
all-push P xs x h one = all-both P xs (x ∷ []) h (one, tt)

literals_terms-push : (literals : List Literal) (literal : Literal) → literals_terms (literals ++ literal ∷ []) ≡ literals_terms literals ++ form_terms literal.form
literals_terms-push [] literal = append-nil (form_terms literal.form)
literals_terms-push (first ∷ literals) literal =
    ap (λ ts. form_terms first.form ++ ts) (literals_terms-push literals literal) ∙ sym (append_assoc (form_terms first.form) (literals_terms literals) (form_terms literal.form))

-- literals that the tests build
pub record AreBuilt (literals : List Literal) (most : ℕ) : Type 0 where
  pub literals_ : AllByRecursion (IsLiteral arity 28) literals
  pub variables : HasVariablesBelow 4 (literals_terms literals)
  pub few : length literals ≤ most

pub built-push : (literals pushed : List Literal) (form : Form) (line most more : ℕ) → AreBuilt literals most → most < more → IsLiteral arity 28 (record { line = line; form = form }) → HasVariablesBelow 4 (form_terms form)
    → pushed ≡ literals ++ record { line = line; form = form } ∷ [] → AreBuilt pushed more
built-push literals pushed form line most more built less is below are =
    let literal : Literal = record { line = line; form = form } in
    let long : length (literals ++ literal ∷ []) ≡ length literals + length (literal ∷ []) = length-append literals (literal ∷ []) in
    subst (λ ls. AreBuilt ls more) (sym are) (record {
      literals_ = all-push (IsLiteral arity 28) literals literal built.literals_ is;
      variables = subst (HasVariablesBelow 4) (sym (literals_terms-push literals literal)) (both-below 4 (literals_terms literals) (form_terms form) built.variables below);
      few = omega (arith, built.few, less, long);
    })

-- clauses that the tests build
pub record AreBuiltClauses (clauses : List Clause) (most : ℕ) : Type 0 where
  pub clauses_ : AllByRecursion (IsProgramClause arity 28) clauses
  pub few : length clauses ≤ most

pub clauses-push : (clauses pushed : List Clause) (clause : Clause) (most : ℕ) → AreBuiltClauses clauses most → IsProgramClause arity 28 clause → pushed ≡ clauses ++ clause ∷ [] → AreBuiltClauses pushed (suc most)
clauses-push clauses pushed clause most built is are =
    let long : length (clauses ++ clause ∷ []) ≡ length clauses + length (clause ∷ []) = length-append clauses (clause ∷ []) in
    subst (λ cs. AreBuiltClauses cs (suc most)) (sym are) (record {
      clauses_ = all-push (IsProgramClause arity 28) clauses clause built.clauses_ is;
      few = omega (arith, built.few);
    })

pub clause-built : (clause : Clause) (most : ℕ) → most < 2 ^ 31 → 20 ≤ clause.head.pred → HasArity arity 28 clause.head → HasVariablesBelow 4 clause.head.args → AreBuilt clause.body most → clause.vars ≡ 4 → IsProgramClause arity 28 clause
clause-built clause most small place has below built four = record {
  variables = record {
    variables = subst (λ n. HasVariablesBelow n (clause_terms clause)) (sym four) (both-below 4 clause.head.args (literals_terms clause.body) below built.variables);
    few = omega arith;
  };
  head = has;
  not_computed = omega arith;
  body = built.literals_;
  short = omega (arith, built.few);
}

pub program-built : (program : Program) (most many : ℕ) → most < 2 ^ 31 → AreBuiltClauses program.clauses most → AreBuilt program.query many → AllByRecursion (λ one. one.var < 4) program.asked → program.vars ≡ 4 → program.users ≡ 8 → program.groups ≡ [] → program.version ≡ 1
    → IsProgram program
program-built program most many small clauses query asked vars users groups version =
    let predicates : 28 ≡ predefined_count + program.users + length program.groups = sym (ap (λ n. predefined_count + n + length program.groups) users ∙ ap (λ gs. predefined_count + 8 + length gs) groups) in
    record {
      arity = arity;
      predefined = λ pred less. there predefined_arities pred less;
      clauses = subst (λ n. AllByRecursion (IsProgramClause arity n) program.clauses) predicates clauses.clauses_;
      count = omega (arith, clauses.few);
      query = subst (λ n. AllByRecursion (IsLiteral arity n) program.query) predicates query.literals_;
      query_variables = subst (λ n. HasVariablesBelow n (literals_terms program.query)) (sym vars) query.variables;
      asked = subst (λ n. AllByRecursion (λ one. one.var < n) program.asked) (sym vars) asked;
      few = omega arith;
      version = inl version;
    }
