-- Worked examples.
use Rattle.std.proofs.Common.{◌≡◌, refl, [], ◌∷◌, codes, List}
use Rattle.std.specs.Prelude.{ℕ, negsuc}
use Rattle.std.specs.Fmt.{digits}
use Rattle.le_base.specs.declared.stop.FoldKind.TheVariants.{Sum}
use Rattle.le_docs.specs.declared.doc.SectionKind.TheVariants.{Query}
use Rattle.le_templates.specs.declared.part.Part.TheVariants.{Word, Slot}
use Rattle.le_templates.specs.declared.part.Template.{Template}
use Rattle.le_templates.specs.Table.{predefined, template}
use Rattle.le_terms.specs.Tree.{Tree, constant, number, variable, nil, cell}
use Rattle.le_terms.specs.declared.program.Atom.{Atom}
use Rattle.le_terms.specs.declared.program.Form.TheVariants.{Pos, Neg, Calc, Gather}
use Rattle.le_terms.specs.declared.program.Literal.{Literal}
use Rattle.le_terms.specs.declared.program.Clause.{Clause}
use Rattle.le_terms.specs.declared.program.ClauseKind.TheVariants.{Written}
use Rattle.le_terms.specs.declared.program.GroupKind.TheVariants.{Value}
use Rattle.le_clauses.specs.declared.whole.Piece.{Piece}
use Rattle.le_clauses.specs.declared.whole.Whole.{Whole}
use Rattle.le_listing.specs.ClauseText.{term_text, clause_line, clauses_text}

-- the template `*a person* owes *an amount*`
abbrev owes : Template
owes = template (Slot (codes "a person") ∷ Word (codes "owes") ∷ Slot (codes "an amount") ∷ [])

abbrev atom : ℕ → List Tree → Atom
atom pred args = record { pred = pred; args = args }

abbrev literal : Atom → Literal
literal a = record { line = 9; form = Pos a }

-- `Bob owes which total.`, asked as variable 3
abbrev query : Piece
query = record {
  kind = Query;
  name = codes "one";
  clauses = [];
  query = literal (atom 20 (constant 0 ∷ variable 3 ∷ [])) ∷ [];
  asked = record { name = codes "total"; var = 3 } ∷ [];
  vars = 4;
}

abbrev whole : Whole
whole = record { templates = owes ∷ []; names = codes "Bob" ∷ []; groups = Value ∷ []; pieces = query ∷ [] }

-- a list whose last tail is a variable
pub list_text : term_text (codes "Bob" ∷ []) (7 ∷ []) (cell (constant 0) (cell nil (variable 7))) ≡ codes "[\"Bob\", [] | V1]"
unfolding digits
list_text = refl

abbrev clause : List Tree → List Literal → Clause
clause args body = record { head = atom 20 args; body = body; vars = 64; line = 5; kind = Written }

-- a fact has no `if`
pub fact_line : clause_line whole (clause (constant 0 ∷ number (negsuc 6) ∷ []) []) ≡ codes "5: *\"Bob\"* owes *-7*\n"
unfolding predefined digits
fact_line = refl

-- a rule with a gather, whose variables are numbered anew, and a negation of a group
pub rule_line :
    clause_line whole (clause (variable 4 ∷ variable 2 ∷ []) (
    record { line = 6; form = Gather Sum (variable 2) (variable 9) (atom 21 (variable 4 ∷ variable 9 ∷ [])) }
    ∷ record { line = 7; form = Neg (atom 22 []) }
    ∷ record { line = 8; form = Calc (atom 1 (variable 4 ∷ nil ∷ [])) }
    ∷ []))
    ≡ codes "5: *V1* owes *V2* if *V2* is the sum of each *V3* such that group 1 *V1* *V3* and not group 2 and *V1* is different from *[]*\n"
unfolding predefined digits
rule_line = refl

-- a document with a query alone
pub query_text : clauses_text whole ≡ codes "query one\n9: answer *V1* if *\"Bob\"* owes *V1*\nend of clauses\n"
unfolding clauses_text predefined digits
query_text = refl
