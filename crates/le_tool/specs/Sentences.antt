-- What is said of the sentences that a report shows: this project's profile.
use Rattle.std.specs.Prelude.{ℕ, List, Result, IfSome, IfOk}
use Rattle.std.specs.List.{AllByRecursion}
use Rattle.le_base.specs.declared.stop.Refusal.{Refusal}
use Rattle.le_clauses.specs.declared.whole.Whole.{Whole}
use Rattle.le_clauses.specs.Selection.{selected}
use Rattle.le_proofs.specs.Search.{answers_of}
use Rattle.le_english.specs.Nodes.{AnswerReadsBack}
use Rattle.le_tool.specs.declared.jobs.Command.{Command}
use Rattle.le_tool.specs.declared.jobs.Command.TheVariants.{Answer, Explain, Certify, Clauses, Check}
use Rattle.le_tool.specs.declared.jobs.Task.{Task}
use Rattle.le_tool.specs.declared.asking.Detail.{Detail}
use Rattle.le_tool.specs.declared.asking.Detail.TheVariants.{Values, Reasons, Derivations}
use Rattle.le_tool.specs.Job.{job_of}
use Rattle.le_tool.specs.Documents.{document_of}
use Rattle.le_tool.specs.Report.{Question, question_of}

-- the answers to a question in a document, where the document and the names are accepted: the values of each and the lines of its explanation read back by the document's own templates and names
abbrev pub AreReadBack : Question → Result Whole Refusal → Type 0
AreReadBack q found = IfOk found (λ whole. IfOk (selected whole q.scenario q.query) (λ program. AllByRecursion (AnswerReadsBack whole.templates whole.names) (answers_of program q.budget)))

abbrev pub TaskReadsBack : Detail → List (List ℕ) → List ℕ → Task → Type 0
TaskReadsBack detail words bytes task = AreReadBack (question_of detail words task) (document_of bytes)

-- the answers that a command shows; the clauses of a document and the check of a bundle show none
abbrev pub CommandReadsBack : Command → List (List ℕ) → List ℕ → Task → Type 0
CommandReadsBack Answer words bytes task = TaskReadsBack Values words bytes task
CommandReadsBack Explain words bytes task = TaskReadsBack Reasons words bytes task
CommandReadsBack Certify words bytes task = TaskReadsBack Derivations words bytes task
CommandReadsBack Clauses words bytes task = Unit {0}
CommandReadsBack Check words bytes task = Unit {0}

-- What a list of words shows of a document reads back.
abbrev pub SentencesReadBack : List (List ℕ) → List ℕ → Type 0
SentencesReadBack words bytes = IfSome (job_of words) (λ task. CommandReadsBack task.command words bytes task)
