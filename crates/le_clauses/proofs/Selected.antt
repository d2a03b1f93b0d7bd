-- What the program of a query keeps.
use Rattle.std.proofs.Common.{◌≡◌, ℕ, ◌<◌, ◌≤◌, Bool, true, false, cond, Option, Some, None, IfSome, Result, Ok, Err, IfOk, List, [], ◌∷◌, ◌++◌, length, refl, inl, arith, length-append}
use Rattle.std.specs.List.{AllByRecursion, slice_get, find}
use Rattle.le_docs.specs.declared.doc.SectionKind.TheVariants as kinds
use Rattle.le_docs.specs.Kinds.{same_kind}
use Rattle.le_base.specs.declared.stop.Refusal.{Refusal}
use Rattle.le_terms.specs.declared.program.Clause.{Clause}
use Rattle.le_terms.specs.Program.{predefined_count, predefined_arities, IsProgramClause, IsProgram}
use Rattle.le_clauses.specs.declared.whole.Piece.{Piece}
use Rattle.le_clauses.specs.declared.whole.Whole.{Whole}
use Rattle.le_clauses.specs.Selection.{prelude, is_named, knowledge, program_over, clauses_under, selected}
use Rattle.le_clauses.specs.Validity.{IsPiece, all_clauses, predicates_of, IsWhole}

-- ---- lists

both : {X : Type 0} (P : X → Type 0) (xs ys : List X) → AllByRecursion P xs → AllByRecursion P ys → AllByRecursion P (xs ++ ys)
both P [] ys h k = k
both P (x ∷ xs) ys h k = (h.0, both P xs ys h.1 k)

-- ---- the prelude

some_same : (m n : ℕ) → ◌≡◌ {A = Option ℕ} (Some m) (Some n) → m ≡ n
some_same m n e = cc

prelude_valid : (arity : ℕ → ℕ) (n : ℕ) → 20 ≤ n → ((pred : ℕ) → pred < predefined_count → slice_get predefined_arities pred ≡ Some (arity pred)) → AllByRecursion (IsProgramClause arity n) prelude
unfolding prelude
prelude_valid arity n many h =
    let two : 2 ≡ arity 18 = some_same 2 (arity 18) (h 18 (omega arith)) in
    let three : 3 ≡ arity 19 = some_same 3 (arity 19) (h 19 (omega arith)) in
    (record { variables = record { variables = (omega arith, (omega arith, (omega arith, tt))); few = omega arith }; head = (omega arith, two); not_computed = omega arith; body = tt; short = omega arith }, (record { variables = record { variables = (omega arith, (omega arith, (omega arith, (omega arith, (omega arith, tt))))); few = omega arith }; head = (omega arith, two); not_computed = omega arith; body = ((omega arith, (omega arith, two)), tt); short = omega arith }, (record { variables = record { variables = (omega arith, (omega arith, tt)); few = omega arith }; head = (omega arith, three); not_computed = omega arith; body = tt; short = omega arith }, (record { variables = record { variables = (omega arith, (omega arith, (omega arith, (omega arith, (omega arith, (omega arith, (omega arith, (omega arith, tt)))))))); few = omega arith }; head = (omega arith, three); not_computed = omega arith; body = ((omega arith, (omega arith, three)), tt); short = omega arith }, tt))))

prelude_few : length prelude ≡ 4
unfolding prelude
prelude_few = refl

-- ---- which clauses are selected

either_clauses : (arity : ℕ → ℕ) (n : ℕ) (b : Bool) (cs : List Clause) → AllByRecursion (IsProgramClause arity n) cs → AllByRecursion (IsProgramClause arity n) (cond b cs [])
either_clauses arity n true cs h = h
either_clauses arity n false cs h = tt

either_fewer : (b : Bool) (cs : List Clause) → length (cond b cs []) ≤ length cs
either_fewer true cs = omega arith
either_fewer false cs = omega arith

knowledge_valid : (arity : ℕ → ℕ) (n : ℕ) (pieces : List Piece) → AllByRecursion (IsPiece arity n) pieces → AllByRecursion (IsProgramClause arity n) (knowledge pieces)
unfolding knowledge
knowledge_valid arity n [] h = tt
knowledge_valid arity n (p ∷ pieces) h =
    let b = same_kind p.kind kinds.Knowledge in
    both (IsProgramClause arity n) (cond b p.clauses []) (knowledge pieces) (either_clauses arity n b p.clauses h.0.clauses) (knowledge_valid arity n pieces h.1)

knowledge_few : (pieces : List Piece) → length (knowledge pieces) ≤ length (all_clauses pieces)
unfolding knowledge
knowledge_few [] = omega arith
knowledge_few (p ∷ pieces) =
    omega (arith, length-append p.clauses (all_clauses pieces), length-append (cond (same_kind p.kind kinds.Knowledge) p.clauses []) (knowledge pieces), either_fewer (same_kind p.kind kinds.Knowledge) p.clauses, knowledge_few pieces)

-- a piece of a document with so many clauses
record IsAmong (arity : ℕ → ℕ) (n many : ℕ) (p : Piece) : Type 0 where
  pub sound : IsPiece arity n p
  pub few : length p.clauses ≤ many

first_found : (P : Piece → Type 0) (b : Bool) (p : Piece) (o : Option Piece) → P p → IfSome o P → IfSome (cond b (Some p) o) P
first_found P true p o h k = h
first_found P false p o h k = k

higher : (arity : ℕ → ℕ) (n m k : ℕ) (o : Option Piece) → m ≤ k → IfSome o (IsAmong arity n m) → IfSome o (IsAmong arity n k)
higher arity n m k (Some p) le h = record { sound = h.sound; few = omega (arith, h.few, le) }
higher arity n m k None le h = tt

found_among : (arity : ℕ → ℕ) (n : ℕ) (test : Piece → Bool) (pieces : List Piece) → AllByRecursion (IsPiece arity n) pieces → IfSome (find test pieces) (IsAmong arity n (length (all_clauses pieces)))
found_among arity n test [] h = tt
found_among arity n test (p ∷ pieces) h =
    let many = length (all_clauses (p ∷ pieces)) in
    let split = length-append p.clauses (all_clauses pieces) in
    first_found (IsAmong arity n many) (test p) p (find test pieces) (record { sound = h.0; few = omega (arith, split) })
    (higher arity n (length (all_clauses pieces)) many (find test pieces) (omega (arith, split)) (found_among arity n test pieces h.1))

-- clauses that are selected
record AreSelected (arity : ℕ → ℕ) (n : ℕ) (cs : List Clause) : Type 0 where
  pub valid : AllByRecursion (IsProgramClause arity n) cs
  pub few : length cs ≤ 100000

under_by : (whole : Whole) (w : IsWhole whole) (o : Option Piece) → IfSome o (IsAmong w.arity (predicates_of whole) (length (all_clauses whole.pieces))) → IfOk (elim o [ Some piece ↦ Ok (knowledge whole.pieces ++ piece.clauses) | None ↦ Err (Rattle.le_base.specs.Stop.refusal_at Rattle.le_base.specs.declared.code.Code.TheVariants.NoScenario 0 0) ]) (AreSelected w.arity (predicates_of whole))
under_by whole w (Some p) h = record {
  valid = both (IsProgramClause w.arity (predicates_of whole)) (knowledge whole.pieces) p.clauses (knowledge_valid w.arity (predicates_of whole) whole.pieces w.pieces) h.sound.clauses;
  few = omega (arith, length-append (knowledge whole.pieces) p.clauses, knowledge_few whole.pieces, h.few, w.few);
}
under_by whole w None h = tt

under_in : (whole : Whole) (w : IsWhole whole) (scenario : Option (List ℕ)) → IfOk (clauses_under whole scenario) (AreSelected w.arity (predicates_of whole))
under_in whole w None = record { valid = knowledge_valid w.arity (predicates_of whole) whole.pieces w.pieces; few = omega (arith, knowledge_few whole.pieces, w.few) }
under_in whole w (Some name) = under_by whole w (find (is_named kinds.Scenario name) whole.pieces) (found_among w.arity (predicates_of whole) (is_named kinds.Scenario name) whole.pieces w.pieces)

over_in : (whole : Whole) (w : IsWhole whole) (cs : List Clause) (o : Option Piece) → AreSelected w.arity (predicates_of whole) cs → IfSome o (IsAmong w.arity (predicates_of whole) (length (all_clauses whole.pieces))) → IfOk (program_over whole cs o) IsProgram
over_in whole w cs (Some q) h k =
    let n = predicates_of whole in
    let P = IsProgramClause w.arity n in
    record {
      arity = w.arity;
      predefined = w.predefined;
      clauses = both P cs (q.clauses ++ prelude) h.valid (both P q.clauses prelude k.sound.clauses (prelude_valid w.arity n (omega arith) w.predefined));
      count = omega (arith, length-append cs (q.clauses ++ prelude), length-append q.clauses prelude, prelude_few, h.few, k.few, w.few);
      query = k.sound.query;
      query_variables = k.sound.query_variables;
      asked = k.sound.asked;
      few = k.sound.few;
      version = inl refl;
    }
over_in whole w cs None h k = tt

then_in : (whole : Whole) (w : IsWhole whole) (query : List ℕ) (r : Result (List Clause) Refusal) → IfOk r (AreSelected w.arity (predicates_of whole)) → IfOk (elim r [ Ok clauses ↦ program_over whole clauses (find (is_named kinds.Query query) whole.pieces) | Err e ↦ Err e ]) IsProgram
then_in whole w query (Ok cs) h = over_in whole w cs (find (is_named kinds.Query query) whole.pieces) h (found_among w.arity (predicates_of whole) (is_named kinds.Query query) whole.pieces w.pieces)
then_in whole w query (Err e) h = tt

pub selected_in : (whole : Whole) (scenario : Option (List ℕ)) (query : List ℕ) → IsWhole whole → IfOk (selected whole scenario query) IsProgram
unfolding selected
selected_in whole scenario query w = then_in whole w query (clauses_under whole scenario) (under_in whole w scenario)
