-- Worked examples of the definitions.
use Rattle.std.proofs.Common.{◌≡◌, ℕ, true, false, Some, None, Ok, Err, List, [], ◌∷◌, refl}
use Rattle.le_base.specs.declared.code.Code.TheVariants.{Dangling, PredefinedHead, TooMany, NoScenario, NoQuery}
use Rattle.le_base.specs.Stop.{refusal_at}
use Rattle.le_layout.specs.declared.token.Token.{Token}
use Rattle.le_layout.specs.declared.token.Kind.TheVariants.{Word}
use Rattle.le_docs.specs.declared.doc.SectionKind.{SectionKind}
use Rattle.le_docs.specs.declared.doc.SectionKind.TheVariants.{Knowledge, Scenario, Query}
use Rattle.le_terms.specs.declared.program.Clause.{Clause}
use Rattle.le_terms.specs.declared.program.ClauseKind.TheVariants.{Written}
use Rattle.le_match.specs.declared.readings.BestReading.TheVariants as best
use Rattle.le_clauses.specs.declared.whole.Piece.{Piece}
use Rattle.le_clauses.specs.declared.whole.Whole.{Whole}
use Rattle.le_clauses.specs.Rules.{is_predefined, goes_before}
use Rattle.le_clauses.specs.Selection.{knowledge, clauses_under, selected}

-- the predicates below 20 are predefined
predefined : is_predefined (best.One (record { pred = 19; lengths = [] })) ≡ true
predefined = refl

users : is_predefined (best.One (record { pred = 20; lengths = [] })) ≡ false
users = refl

-- at the conclusion's first token a lesser number goes before, and a greater one or a later place doesn't
token : Token
token = record { kind = Word; from = 0; to = 3; line = 4; column = 1 }

lesser : goes_before (refusal_at Dangling 4 1) PredefinedHead token ≡ true
unfolding token
lesser = refl

greater : goes_before (refusal_at TooMany 4 1) PredefinedHead token ≡ false
unfolding token
greater = refl

later : goes_before (refusal_at Dangling 4 9) PredefinedHead token ≡ false
unfolding token
later = refl

-- a knowledge base with a fact, a scenario `s` with another, and a query `q`
fact : ℕ → Clause
fact pred = record { head = record { pred = pred; args = [] }; body = []; vars = 0; line = 1; kind = Written }

piece : SectionKind → List ℕ → List Clause → Piece
piece kind name clauses = record { kind = kind; name = name; clauses = clauses; query = []; asked = []; vars = 0 }

whole : Whole
whole = record { templates = []; names = []; groups = []; pieces = piece Scenario (115 ∷ []) (fact 21 ∷ []) ∷ piece Knowledge [] (fact 20 ∷ []) ∷ piece Query (113 ∷ []) [] ∷ [] }

-- the clauses of the knowledge base come first, and those of the scenario where it is asked for
without : clauses_under whole None ≡ Ok (fact 20 ∷ [])
unfolding whole piece fact knowledge
without = refl

under : clauses_under whole (Some (115 ∷ [])) ≡ Ok (fact 20 ∷ fact 21 ∷ [])
unfolding whole piece fact knowledge
under = refl

-- a query isn't a scenario, and a scenario isn't a query
no_scenario : selected whole (Some (113 ∷ [])) (113 ∷ []) ≡ Err (refusal_at NoScenario 0 0)
unfolding whole piece fact knowledge selected
no_scenario = refl

no_query : selected whole None (115 ∷ []) ≡ Err (refusal_at NoQuery 0 0)
unfolding whole piece fact knowledge selected
no_query = refl
