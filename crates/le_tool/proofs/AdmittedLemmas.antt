-- What is said of the answers of a search that a document's words ask for.
use Rattle.std.proofs.Common.{ℕ, List, Option, None, Some, Result, Ok, Err, IfSome, IfOk, subst}
use Rattle.le_base.specs.declared.stop.Refusal.{Refusal}
use Rattle.le_terms.specs.declared.program.Program.{Program}
use Rattle.le_terms.specs.Program.{IsProgram}
use Rattle.le_clauses.specs.declared.whole.Whole.{Whole}
use Rattle.le_clauses.specs.Selection.{selected}
use Rattle.le_clauses.specs.Validity.{IsWhole}
use Rattle.le_clauses.proofs.Selected.{selected_in}
use Rattle.le_proofs.proofs.Answers.{search-whole}
use Rattle.le_proofs.proofs.Printed.{printed-admitted}
use Rattle.le_tool.specs.declared.asking.Detail.{Detail}
use Rattle.le_tool.specs.declared.documents.Reading.{Reading}
use Rattle.le_tool.specs.Readings.{IsReading}
use Rattle.le_tool.specs.declared.jobs.Task.{Task}
use Rattle.le_tool.specs.Report.{Question, question_of}
use Rattle.le_tool.specs.Admitted.{search_by, search_in, task_search, IsShown}

-- a search of a well formed program
shown_by : (budget : ℕ) (r : Result Program Refusal) → IfOk r IsProgram → IfSome (search_by budget r) IsShown
shown_by budget (Ok program) is = record { admitted = printed-admitted program budget is; complete = search-whole program budget is }
shown_by budget (Err refusal) is = tt

-- the search for a question in a document
shown_in : (q : Question) (found : Result Whole Refusal) → IfOk found IsWhole → IfSome (search_in q found) IsShown
shown_in q (Ok whole) is = shown_by q.budget (selected whole q.scenario q.query) (selected_in whole q.scenario q.query is)
shown_in q (Err refusal) is = tt

-- the search of a task in the document that the bytes are, where these are known
pub shown_of : (o : Option (List ℕ)) (detail : Detail) (words : List (List ℕ)) (task : Task) (reading : Reading) → IfOk reading.document IsWhole → IfSome o (IsReading reading) → IfSome o (λ bytes. IfSome (task_search detail words bytes task) IsShown)
shown_of None detail words task reading is e = tt
shown_of (Some bytes) detail words task reading is e = subst (λ d. IfSome (search_in (question_of detail words task) d) IsShown) e.document (shown_in (question_of detail words task) reading.document is)
