-- How the clauses of a document are listed, one line for each clause: this project's profile.
use Rattle.std.specs.Prelude.{ℕ, ◌+◌, ◌-◌, Bool, true, false, nat_lt, if◌then◌else◌, List, [], ◌∷◌, ◌++◌, length, map, slice_index_or, codes, decimal}
use Rattle.std.specs.Fmt.{signed_decimal}
use Rattle.le_base.specs.declared.stop.FoldKind.{FoldKind}
use Rattle.le_base.specs.declared.stop.FoldKind.TheVariants.{Sum, Number, Greatest}
use Rattle.le_values.specs.Days.{day_text}
use Rattle.le_docs.specs.declared.doc.SectionKind.{SectionKind}
use Rattle.le_docs.specs.declared.doc.SectionKind.TheVariants as kinds
use Rattle.le_templates.specs.declared.part.Part.{Part}
use Rattle.le_templates.specs.declared.part.Part.TheVariants.{Word, Slot}
use Rattle.le_templates.specs.Table.{table_of, template}
use Rattle.le_terms.specs.Tree.{Tree, constant, number, date, variable, nil, cell}
use Rattle.le_terms.specs.Variables.{firsts, all_occurrences, all_variables, place_in}
use Rattle.le_terms.specs.Program.{literals_terms, clause_terms}
use Rattle.le_terms.specs.declared.program.Asked.{Asked}
use Rattle.le_terms.specs.declared.program.Atom.{Atom}
use Rattle.le_terms.specs.declared.program.Form.{Form}
use Rattle.le_terms.specs.declared.program.Form.TheVariants.{Pos, Neg, Calc, Gather}
use Rattle.le_terms.specs.declared.program.Literal.{Literal}
use Rattle.le_terms.specs.declared.program.Clause.{Clause}
use Rattle.le_clauses.specs.declared.whole.Piece.{Piece}
use Rattle.le_clauses.specs.declared.whole.Whole.{Whole}

-- A name always stands between quotation marks.
abbrev pub quoted : List ℕ → List ℕ
quoted name = codes "\"" ++ (name ++ codes "\"")

-- A variable is `V` and its place among the variables of its line, from 1.
abbrev pub variable_text : List ℕ → ℕ → List ℕ
variable_text vars v = codes "V" ++ decimal (place_in vars v)

-- A term, where these are the variables of its line: a list is written between brackets, its items with a comma and a space between them, and its last tail after ` | ` where that isn't the empty list.
abbrev mutual
  pub term_text : List (List ℕ) → List ℕ → Tree → List ℕ
  term_text names vars (constant n) = quoted (slice_index_or names n [])
  term_text names vars (number z) = signed_decimal z
  term_text names vars (date d) = day_text d
  term_text names vars (variable v) = variable_text vars v
  term_text names vars nil = codes "[]"
  term_text names vars (cell head tail) = codes "[" ++ (term_text names vars head ++ tail_text names vars tail)

  -- the rest of a list, after an item
  pub tail_text : List (List ℕ) → List ℕ → Tree → List ℕ
  tail_text names vars (constant n) = codes " | " ++ (quoted (slice_index_or names n []) ++ codes "]")
  tail_text names vars (number z) = codes " | " ++ (signed_decimal z ++ codes "]")
  tail_text names vars (date d) = codes " | " ++ (day_text d ++ codes "]")
  tail_text names vars (variable v) = codes " | " ++ (variable_text vars v ++ codes "]")
  tail_text names vars nil = codes "]"
  tail_text names vars (cell head tail) = codes ", " ++ (term_text names vars head ++ tail_text names vars tail)

-- In a line a term stands between asterisks, after one space.
abbrev pub marked : List (List ℕ) → List ℕ → Tree → List ℕ
marked names vars tree = codes " *" ++ (term_text names vars tree ++ codes "*")

-- some terms, one after another
abbrev pub all_marked : List (List ℕ) → List ℕ → List Tree → List ℕ
all_marked names vars [] = []
all_marked names vars (tree ∷ trees) = marked names vars tree ++ all_marked names vars trees

-- A template's words as they are declared, each after one space, with terms in its slots. A slot without a term has its own phrase.
abbrev pub filled : List (List ℕ) → List ℕ → List Part → List Tree → List ℕ
filled names vars [] trees = []
filled names vars (Word w ∷ parts) trees = codes " " ++ (w ++ filled names vars parts trees)
filled names vars (Slot s ∷ parts) [] = codes " *" ++ (s ++ (codes "*" ++ filled names vars parts []))
filled names vars (Slot s ∷ parts) (tree ∷ trees) = marked names vars tree ++ filled names vars parts trees

-- how many predicates have a template
abbrev pub template_count : Whole → ℕ
template_count whole = 20 + length whole.templates

-- the words and slots of a predicate's template
abbrev pub parts_of : Whole → ℕ → List Part
parts_of whole pred = (slice_index_or (table_of whole.templates) pred (template [])).parts

-- An atom of a template is the template with the atom's arguments in its slots. The other predicates are those of the groups, numbered from 1: such an atom is its group and its arguments.
abbrev pub atom_text : Whole → List ℕ → Atom → List ℕ
atom_text whole vars atom =
    if nat_lt atom.pred (template_count whole) then filled whole.names vars (parts_of whole atom.pred) atom.args
    else codes " group " ++ (decimal (atom.pred - template_count whole + 1) ++ all_marked whole.names vars atom.args)

-- what a gather makes of the values
abbrev pub fold_text : FoldKind → List ℕ
fold_text Sum = codes "sum"
fold_text Number = codes "number"
fold_text Greatest = codes "greatest"

-- A literal is its atom, with `not` before it where it is negative. A gather begins with its result, what is made of the values, and the value.
abbrev pub form_text : Whole → List ℕ → Form → List ℕ
form_text whole vars (Pos atom) = atom_text whole vars atom
form_text whole vars (Neg atom) = codes " not" ++ atom_text whole vars atom
form_text whole vars (Calc atom) = atom_text whole vars atom
form_text whole vars (Gather fold total value atom) =
    marked whole.names vars total ++ (codes " is the " ++ (fold_text fold ++ (codes " of each" ++ (marked whole.names vars value ++ (codes " such that" ++ atom_text whole vars atom)))))

-- the word before a literal: `if` before the first of a body, and `and` before each other
abbrev pub joint : Bool → List ℕ
joint is_first = if is_first then codes " if" else codes " and"

-- some literals of a body, each with the word before it
abbrev pub literals_text : Whole → List ℕ → Bool → List Literal → List ℕ
literals_text whole vars is_first [] = []
literals_text whole vars is_first (literal ∷ literals) = joint is_first ++ (form_text whole vars literal.form ++ literals_text whole vars false literals)

-- a body; that of a fact is empty
abbrev pub body_text : Whole → List ℕ → List Literal → List ℕ
body_text whole vars literals = literals_text whole vars true literals

-- a line: the number of a line of the document, a colon, a head and a body
abbrev pub line_text : ℕ → List ℕ → List ℕ → List ℕ
line_text line head body = decimal line ++ (codes ":" ++ (head ++ (body ++ codes "\n")))

-- A clause is a line, whose variables are numbered in order of first occurrence in it.
abbrev pub clause_line : Whole → Clause → List ℕ
clause_line whole clause =
    let vars = all_variables (clause_terms clause) in
    line_text clause.line (atom_text whole vars clause.head) (body_text whole vars clause.body)

-- the lines of some clauses
abbrev pub clause_lines : Whole → List Clause → List ℕ
clause_lines whole [] = []
clause_lines whole (clause ∷ clauses) = clause_line whole clause ++ clause_lines whole clauses

-- the variables that a query asks for
abbrev pub asked_vars : List Asked → List ℕ
asked_vars asked = map (λ (a : Asked). a.var) asked

-- each of some variables between asterisks, after one space
abbrev pub vars_text : List ℕ → List ℕ → List ℕ
vars_text vars [] = []
vars_text vars (v ∷ vs) = codes " *" ++ (variable_text vars v ++ (codes "*" ++ vars_text vars vs))

-- the line of the first of some literals, or 0 where there is none
abbrev pub first_line : List Literal → ℕ
first_line [] = 0
first_line (literal ∷ literals) = literal.line

-- A query is a line as a clause with the head `answer` and the variables that it asks for, in that order.
abbrev pub query_line : Whole → Piece → List ℕ
query_line whole piece =
    let vars = firsts (asked_vars piece.asked ++ all_occurrences (literals_terms piece.query)) in
    line_text (first_line piece.query) (codes " answer" ++ vars_text vars (asked_vars piece.asked)) (body_text whole vars piece.query)

-- the line of a piece's query, where it is one
abbrev pub query_lines : Whole → SectionKind → Piece → List ℕ
query_lines whole kinds.Query piece = query_line whole piece
query_lines whole _ piece = []

-- what a piece is; none is one of the last two
abbrev pub kind_text : SectionKind → List ℕ
kind_text kinds.Knowledge = codes "knowledge base"
kind_text kinds.Scenario = codes "scenario"
kind_text kinds.Query = codes "query"
kind_text kinds.Target = codes "target language"
kind_text kinds.Templates = codes "templates"

-- a name after one space, where there is one
abbrev pub name_text : List ℕ → List ℕ
name_text [] = []
name_text (c ∷ name) = codes " " ++ c ∷ name

-- A piece is listed as a line with its kind and name, then the line of its query, then those of its clauses.
abbrev pub piece_text : Whole → Piece → List ℕ
piece_text whole piece =
    kind_text piece.kind ++ (name_text piece.name ++ (codes "\n" ++ (query_lines whole piece.kind piece ++ clause_lines whole piece.clauses)))

-- some pieces, one after another
abbrev pub pieces_text : Whole → List Piece → List ℕ
pieces_text whole [] = []
pieces_text whole (piece ∷ pieces) = piece_text whole piece ++ pieces_text whole pieces

-- The clauses of a document are listed by knowledge bases, scenarios and queries in the order of the text, and a last line.
unfoldable pub clauses_text : Whole → List ℕ
clauses_text whole = pieces_text whole whole.pieces ++ codes "end of clauses\n"
