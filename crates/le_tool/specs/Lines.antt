-- The lines of refusals and values in a report: this project's profile.
use Rattle.std.specs.Prelude.{ℕ, Bool, true, false, if◌then◌else◌, List, [], ◌∷◌, ◌++◌, codes, decimal}
use Rattle.le_base.specs.declared.code.Code.{Code}
use Rattle.le_base.specs.declared.code.Code.TheVariants.{Ambiguous}
use Rattle.le_base.specs.declared.stop.Refusal.{Refusal}
use Rattle.le_base.specs.Code.{code_number, code_name}
use Rattle.le_terms.specs.Tree.{Tree}
use Rattle.le_terms.specs.declared.program.Asked.{Asked}
use Rattle.le_clauses.specs.declared.whole.Whole.{Whole}
use Rattle.le_english.specs.Phrases.{term_text}
use Rattle.le_tool.specs.declared.report.Report.{Report}

-- whether a refusal of this cause shows two readings
abbrev pub is_ambiguous : Code → Bool
is_ambiguous Ambiguous = true
is_ambiguous _ = false

-- the lines that show two readings
abbrev pub both_text : List ℕ → List ℕ → List ℕ
both_text first second = codes "reading 1: " ++ (first ++ (codes "\nreading 2: " ++ (second ++ codes "\n")))

-- the lines that show the two readings of an ambiguous sentence
abbrev pub readings_text : Refusal → List ℕ
readings_text r = if is_ambiguous r.code then both_text r.first r.second else []

-- the lines of a refusal
abbrev pub refusal_text : Refusal → List ℕ
refusal_text r =
    codes "refused " ++ (decimal (code_number r.code) ++ (codes " " ++ (code_name r.code
    ++ (codes " at line " ++ (decimal r.line ++ (codes " column " ++ (decimal r.column ++ (codes "\n" ++ readings_text r))))))))

abbrev pub refused_report : Refusal → Report
refused_report r = record { text = refusal_text r; status = 1 }

-- the line of a value: the name of the variable that is asked for, and its term
abbrev pub value_line : Whole → Asked → Tree → List ℕ
value_line whole asked tree = asked.name ++ (codes ": " ++ (term_text whole.templates whole.names tree ++ codes "\n"))

-- the lines of the values of an answer
abbrev pub value_lines : Whole → List Asked → List Tree → List ℕ
value_lines whole [] trees = []
value_lines whole (asked ∷ more) [] = []
value_lines whole (asked ∷ more) (tree ∷ trees) = value_line whole asked tree ++ value_lines whole more trees

-- what an answer says: its values, or `yes` where none is asked for
abbrev pub answer_lines : Whole → List Asked → List Tree → List ℕ
answer_lines whole [] trees = codes "yes\n"
answer_lines whole (asked ∷ more) trees = value_lines whole (asked ∷ more) trees
