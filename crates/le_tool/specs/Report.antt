-- The report: this project's profile.
use Rattle.std.specs.Prelude.{ℕ, ◌+◌, nat_le, if◌then◌else◌, List, [], ◌∷◌, ◌++◌, length, take, slice_index_or, Option, None, Some, Result, Ok, Err, codes, decimal}
use Rattle.std.specs.Option.{option_map}
use Rattle.le_base.specs.declared.stop.Refusal.{Refusal}
use Rattle.le_terms.specs.Variables.{canonical_of}
use Rattle.le_terms.specs.declared.program.Program.{Program}
use Rattle.le_clauses.specs.declared.whole.Whole.{Whole}
use Rattle.le_clauses.specs.Selection.{selected}
use Rattle.le_listing.specs.ClauseText.{clauses_text}
use Rattle.le_english.specs.Explanations.{explanation}
use Rattle.le_prooftext.specs.Lines.{derivation_text}
use Rattle.le_bundle.specs.Endings.{end_words, stopped_words}
use Rattle.le_bundle.specs.Head.{head_text}
use Rattle.le_proofs.specs.declared.next.Next.{Next}
use Rattle.le_proofs.specs.declared.next.Next.TheVariants.{Answer, Done, Floundered, OutOfRange, Spent}
use Rattle.le_proofs.specs.Derivations.{certificate_of}
use Rattle.le_proofs.specs.Proofs.{Leaf}
use Rattle.le_proofs.specs.Search.{answers_of, end_of}
use Rattle.le_tool.specs.declared.jobs.Command.{Command}
use Rattle.le_tool.specs.declared.jobs.Command.TheVariants.{Answer as Answering, Explain, Certify, Clauses, Check}
use Rattle.le_tool.specs.declared.jobs.Task.{Task}
use Rattle.le_tool.specs.declared.report.Report.{Report}
use Rattle.le_tool.specs.declared.asking.Detail.{Detail}
use Rattle.le_tool.specs.declared.asking.Detail.TheVariants.{Values, Reasons, Derivations}
use Rattle.le_tool.specs.declared.asking.Asking.{Asking}
use Rattle.le_tool.specs.Documents.{document_of}
use Rattle.le_tool.specs.Lines.{refused_report, answer_lines}
use Rattle.le_tool.specs.Checks.{check_report}
use Rattle.le_tool.specs.Job.{job_of}

-- what an answer at a leaf says after its number, whose variables are numbered from 1: its values; its values and its explanation; or the text of its derivation
abbrev pub answer_body : Detail → Whole → Program → Leaf → List ℕ
answer_body Values whole program leaf = answer_lines whole program.asked (canonical_of leaf.terms)
answer_body Reasons whole program leaf =
    answer_lines whole program.asked (canonical_of leaf.terms)
    ++ (codes "because\n" ++ explanation whole.templates whole.names program (certificate_of leaf).nodes)
answer_body Derivations whole program leaf = derivation_text (certificate_of leaf).nodes

-- the lines of the answer of this number at a leaf
abbrev pub answer_text : Detail → Whole → Program → ℕ → Leaf → List ℕ
answer_text detail whole program k leaf = codes "answer " ++ (decimal k ++ (codes "\n" ++ answer_body detail whole program leaf))

-- the lines of an answer where there is one
abbrev pub said_text : Detail → Whole → Program → ℕ → Option Leaf → List ℕ
said_text detail whole program k None = []
said_text detail whole program k (Some leaf) = answer_text detail whole program k leaf

-- the lines of the answers at some leaves, where so many were given before
abbrev pub answers_text : Detail → Whole → Program → ℕ → List Leaf → List ℕ
answers_text detail whole program before [] = []
answers_text detail whole program before (leaf ∷ leaves) =
    answer_text detail whole program (before + 1) leaf ++ answers_text detail whole program (before + 1) leaves

-- the line of a search's end, with its budget
abbrev pub end_line : ℕ → Next → List ℕ
end_line budget next = end_words budget next ++ codes "\n"

abbrev pub end_status : Next → ℕ
end_status Done = 0
end_status (Floundered line) = 3
end_status (OutOfRange line) = 9
end_status Spent = 4
end_status Answer = 0

-- the last line where as many answers were found as were asked for
abbrev pub stopped_line : ℕ → List ℕ
stopped_line most = stopped_words most ++ codes "\n"

-- what follows the answers, where the search has so many and ends so
abbrev pub last_line : ℕ → ℕ → ℕ → Next → List ℕ
last_line most budget count ending = if nat_le most count then stopped_line most else end_line budget ending

abbrev pub last_status : ℕ → ℕ → Next → ℕ
last_status most count ending = if nat_le most count then 0 else end_status ending

-- The report of a search: its answers in order, none skipped, up to the number asked for, and then its one end, or that the number was reached.
unfoldable pub search_report : Detail → Whole → ℕ → ℕ → Program → Report
search_report detail whole most budget program =
    let leaves = answers_of program budget in
    record {
      text = answers_text detail whole program 0 (take most leaves) ++ last_line most budget (length leaves) (end_of program budget);
      status = last_status most (length leaves) (end_of program budget);
    }

-- what a task asks of a document: what is said of each answer, the names of its query and its scenario, and its limits
pub record Question : Type 0 where
  pub detail : Detail
  pub query : List ℕ
  pub scenario : Option (List ℕ)
  pub budget : ℕ
  pub most : ℕ

-- what stands before the answers: where derivations are asked for, the document, the marker, and the names and limits of the search
abbrev pub opening_by : Detail → List ℕ → Question → List ℕ
opening_by Values bytes q = []
opening_by Reasons bytes q = []
opening_by Derivations bytes q = head_text bytes q.query q.scenario q.budget q.most

abbrev pub opening : List ℕ → Question → List ℕ
opening bytes q = opening_by q.detail bytes q

-- the report of the search of a program that the document of these bytes asks for
abbrev pub answers_report : List ℕ → Question → Whole → Program → Report
answers_report bytes q whole program =
    let r = search_report q.detail whole q.most q.budget program in
    record { text = opening bytes q ++ r.text; status = r.status }

-- the report of a query, or the refusal of a name
abbrev pub query_report : List ℕ → Question → Whole → Result Program Refusal → Report
query_report bytes q whole (Ok program) = answers_report bytes q whole program
query_report bytes q whole (Err refusal) = refused_report refusal

-- the answers to a question on the document of these bytes, or the document's refusal
abbrev pub document_report : List ℕ → Question → Result Whole Refusal → Report
document_report bytes q (Ok whole) = query_report bytes q whole (selected whole q.scenario q.query)
document_report bytes q (Err refusal) = refused_report refusal

-- the word at a place
abbrev pub word_at : List (List ℕ) → ℕ → List ℕ
word_at words place = slice_index_or words place []

-- the name of a task's query
abbrev pub query_name : List (List ℕ) → Option ℕ → List ℕ
query_name words None = []
query_name words (Some place) = word_at words place

-- the question of a task
abbrev pub question_of : Detail → List (List ℕ) → Task → Question
question_of detail words task = record {
  detail = detail;
  query = query_name words task.query;
  scenario = option_map (word_at words) task.scenario;
  budget = task.budget;
  most = task.answers;
}

-- the question as it is kept
abbrev pub question_by : Asking → Question
question_by q = record { detail = q.detail; query = q.query.now; scenario = option_map (λ s. s.now) q.scenario; budget = q.budget; most = q.most }

-- the clauses of a document, or its refusal
abbrev pub clauses_report : Result Whole Refusal → Report
clauses_report (Ok whole) = record { text = clauses_text whole; status = 0 }
clauses_report (Err refusal) = refused_report refusal

-- the report of a task that searches the document of these bytes
abbrev pub asked_report : Detail → List (List ℕ) → Task → List ℕ → Report
asked_report detail words task bytes = document_report bytes (question_of detail words task) (document_of bytes)

-- the report of a command on a document or a bundle: the answers to its question, with what the command says of each, the document's clauses, or the check of the bundle
abbrev pub command_report : Command → List (List ℕ) → Task → List ℕ → Report
command_report Answering words task bytes = asked_report Values words task bytes
command_report Explain words task bytes = asked_report Reasons words task bytes
command_report Certify words task bytes = asked_report Derivations words task bytes
command_report Clauses words task bytes = clauses_report (document_of bytes)
command_report Check words task bytes = check_report bytes

-- the report of a task on a document
abbrev pub task_report : List (List ℕ) → Task → List ℕ → Report
task_report words task bytes = command_report task.command words task bytes

-- the line that says how the program is called
abbrev pub usage_text : List ℕ
usage_text = codes "usage: le answer|explain|certify --query NAME [--scenario NAME] [--budget N] [--answers K] | clauses | check | trial N\n"

-- the report of these words on this document: the usage line where the command line isn't valid
abbrev pub report_by : List (List ℕ) → List ℕ → Option Task → Report
report_by words bytes None = record { text = usage_text; status = 2 }
report_by words bytes (Some task) = task_report words task bytes

abbrev pub report : List (List ℕ) → List ℕ → Report
report words bytes = report_by words bytes (job_of words)
