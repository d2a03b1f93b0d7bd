-- What is said of the answers that a report shows (Lloyd, Foundations of Logic Programming, chapter 3, section 15).
use Rattle.std.specs.Prelude.{◌≡◌, ℕ, List, map, Option, None, Some, Result, Ok, Err}
use Rattle.std.specs.List.{AllByRecursion}
use Rattle.le_base.specs.declared.stop.Refusal.{Refusal}
use Rattle.le_terms.specs.declared.program.Program.{Program}
use Rattle.le_terms.specs.Variables.{canonical_of}
use Rattle.le_clauses.specs.declared.whole.Whole.{Whole}
use Rattle.le_clauses.specs.Selection.{selected}
use Rattle.le_proofs.specs.declared.next.Next.TheVariants.{Done}
use Rattle.le_proofs.specs.Goals.{asked_terms}
use Rattle.le_proofs.specs.Proofs.{WholeTree}
use Rattle.le_proofs.specs.Search.{answers_of, end_of}
use Rattle.le_proofs.specs.Derivations.{certificate_of}
use Rattle.le_proofs.specs.Lloyd.{Admits, Whole as IsWholeTree}
use Rattle.le_tool.specs.declared.jobs.Command.{Command}
use Rattle.le_tool.specs.declared.jobs.Command.TheVariants.{Answer, Explain, Certify, Clauses, Check}
use Rattle.le_tool.specs.declared.jobs.Task.{Task}
use Rattle.le_tool.specs.declared.asking.Detail.{Detail}
use Rattle.le_tool.specs.declared.asking.Detail.TheVariants.{Values, Reasons, Derivations}
use Rattle.le_tool.specs.Job.{job_of}
use Rattle.le_tool.specs.Documents.{document_of}
use Rattle.le_tool.specs.Report.{Question, question_of}

-- a search: its program and its budget of selections
pub record Search : Type 0 where
  pub program : Program
  pub budget : ℕ

abbrev pub search_by : ℕ → Result Program Refusal → Option Search
search_by budget (Ok program) = Some (record { program = program; budget = budget })
search_by budget (Err refusal) = None

-- the search for a question in a document, where the document and the names are accepted
abbrev pub search_in : Question → Result Whole Refusal → Option Search
search_in q (Ok whole) = search_by q.budget (selected whole q.scenario q.query)
search_in q (Err refusal) = None

-- the search of a task in a document
abbrev pub task_search : Detail → List (List ℕ) → List ℕ → Task → Option Search
task_search detail words bytes task = search_in (question_of detail words task) (document_of bytes)

-- the search of a command in a document; the clauses of a document and the check of a bundle ask for none
abbrev pub command_search : Command → List (List ℕ) → List ℕ → Task → Option Search
command_search Answer words bytes task = task_search Values words bytes task
command_search Explain words bytes task = task_search Reasons words bytes task
command_search Certify words bytes task = task_search Derivations words bytes task
command_search Clauses words bytes task = None
command_search Check words bytes task = None

abbrev pub search_for : List (List ℕ) → List ℕ → Option Task → Option Search
search_for words bytes None = None
search_for words bytes (Some task) = command_search task.command words bytes task

-- The search that a list of words asks for in a document.
abbrev pub search_asked : List (List ℕ) → List ℕ → Option Search
search_asked words bytes = search_for words bytes (job_of words)

-- Each answer is admitted with its derivation: there is a refutation of the query, of some rank, whose substitution gives the values that are written and whose nodes these are.
abbrev pub AreAdmitted : Search → Type 0
AreAdmitted s = AllByRecursion (λ leaf. Admits s.program (certificate_of leaf).nodes (canonical_of leaf.terms)) (answers_of s.program s.budget)

-- Where a search is done, the query has a whole tree of some rank, whose leaves are the answers: there is no other.
abbrev pub IsComplete : Search → Type 0
IsComplete s = end_of s.program s.budget ≡ Done
    → (rank : ℕ) × (t : WholeTree) × IsWholeTree rank s.program s.program.query (asked_terms s.program.asked) t (map (λ leaf. leaf.terms) (answers_of s.program s.budget))

-- what is said of the answers of a search
pub record IsShown (s : Search) : Type 0 where
  pub admitted : AreAdmitted s
  pub complete : IsComplete s
