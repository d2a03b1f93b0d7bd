-- A document with too many bytes, and the report of words.
use Rattle.std.proofs.Common.{◌≡◌, ℕ, ◌+◌, ◌<◌, cond, List, length, Option, None, Some, Result, Ok, Err, IfSome, IfOk, refl, subst, ap, sym, ◌∙◌, length-append, arith, lt-ltb}
use Rattle.std.specs.Io.KnownBytes.{Appends}
use Rattle.le_base.specs.declared.code.Code.TheVariants.{TooLong}
use Rattle.le_base.specs.declared.stop.Refusal.{Refusal}
use Rattle.le_base.specs.Stop.{refusal_at}
use Rattle.le_base.specs.Outside.{ConsumesExactly, AppendsPrefix}
use Rattle.le_layout.specs.Layout.{layout_of}
use Rattle.le_clauses.specs.declared.whole.Whole.{Whole}
use Rattle.le_tool.specs.declared.asking.Detail.{Detail}
use Rattle.le_tool.specs.declared.documents.Reading.{Reading}
use Rattle.le_tool.specs.Readings.{IsReading}
use Rattle.le_tool.specs.declared.jobs.Task.{Task}
use Rattle.le_tool.specs.declared.report.Report.{Report}
use Rattle.le_tool.specs.Job.{job_of}
use Rattle.le_tool.specs.Documents.{most_bytes, whole_of_layout, document_by, document_of}
use Rattle.le_tool.specs.Report.{usage_text, Question, document_report, clauses_report, asked_report, question_of, task_report, report_by, report}

-- a document of more bytes than the most isn't read
pub too_long : (bytes : List ℕ) → most_bytes < length bytes → document_of bytes ≡ Err (refusal_at TooLong 0 0)
unfolding document_by
too_long bytes long = ap (λ b. cond b (Err (refusal_at TooLong 0 0)) (whole_of_layout (layout_of bytes))) (lt-ltb most_bytes (length bytes) long)

-- so it is where one byte more than the most was read
pub long_document : (a b : Option (List ℕ)) (reading : Reading) → ConsumesExactly a b (most_bytes + 1) → reading.document ≡ Err (refusal_at TooLong 0 0) → IfSome a (IsReading reading)
long_document None b reading taken e = tt
long_document (Some xs) None reading taken e = absurd taken.2
long_document (Some xs) (Some ys) reading taken e =
    record {
      document = e ∙ sym (too_long xs (omega (arith, taken.1, ap length taken.2, length-append taken.0 ys)));
      bytes_ = subst (λ (d : Result Whole Refusal). IfOk d (λ whole. reading.bytes.items ≡ xs)) (sym e) tt;
    }

-- ---- the report of words that are no command line

abbrev Said : Option (List ℕ) → Option (List ℕ) → ℕ → Report → Type 0
Said a b status r = Appends a b r.text × (status ≡ r.status)

usage_is : (ws : List (List ℕ)) (bytes : List ℕ) → (let none : Option Task = None in none ≡ job_of ws) → (let r : Report = record { text = usage_text; status = 2 } in r ≡ report ws bytes)
usage_is ws bytes e = ap (report_by ws bytes) e

pub usage_part : (o a b : Option (List ℕ)) (ws : List (List ℕ)) → (let none : Option Task = None in none ≡ job_of ws) → AppendsPrefix a b usage_text → IfSome o (λ bytes. AppendsPrefix a b (report ws bytes).text)
usage_part None a b ws e h = tt
usage_part (Some bytes) a b ws e h = subst (λ (r : Report). AppendsPrefix a b r.text) (usage_is ws bytes e) h

pub usage_whole : (o a b : Option (List ℕ)) (ws : List (List ℕ)) (status : ℕ) → (let none : Option Task = None in none ≡ job_of ws) → Appends a b usage_text → status ≡ 2 → IfSome o (λ bytes. Said a b status (report ws bytes))
usage_whole None a b ws status e h s = tt
usage_whole (Some bytes) a b ws status e h s = subst (Said a b status) (usage_is ws bytes e) (h, s)

-- ---- the report of a task

task_is : (ws : List (List ℕ)) (bytes : List ℕ) (task : Task) → Some task ≡ job_of ws → task_report ws task bytes ≡ report ws bytes
task_is ws bytes task e = ap (report_by ws bytes) e

pub task_part : (o a b : Option (List ℕ)) (ws : List (List ℕ)) (task : Task) → Some task ≡ job_of ws → IfSome o (λ bytes. AppendsPrefix a b (task_report ws task bytes).text) → IfSome o (λ bytes. AppendsPrefix a b (report ws bytes).text)
task_part None a b ws task e h = tt
task_part (Some bytes) a b ws task e h = subst (λ (r : Report). AppendsPrefix a b r.text) (task_is ws bytes task e) h

pub task_whole : (o a b : Option (List ℕ)) (ws : List (List ℕ)) (task : Task) (status : ℕ) → Some task ≡ job_of ws → IfSome o (λ bytes. Said a b status (task_report ws task bytes)) → IfSome o (λ bytes. Said a b status (report ws bytes))
task_whole None a b ws task status e h = tt
task_whole (Some bytes) a b ws task status e h = subst (Said a b status) (task_is ws bytes task e) h

-- ---- the report of a task on a document

-- the report of a question on what was read is the report on the bytes
report_is : (q : Question) (found : Result Whole Refusal) (read bytes : List ℕ) → IfOk found (λ whole. read ≡ bytes) → document_report read q found ≡ document_report bytes q found
report_is q (Ok whole) read bytes same = ap (λ bs. document_report bs q (Ok whole)) same
report_is q (Err refusal) read bytes same = refl

-- the answers to a task's question on what the source holds are its report
question_is : (detail : Detail) (words : List (List ℕ)) (task : Task) (q : Question) (reading : Reading) (bytes : List ℕ) → q ≡ question_of detail words task → IsReading reading bytes → document_report reading.bytes.items q reading.document ≡ asked_report detail words task bytes
question_is detail words task q reading bytes names is =
    report_is q reading.document reading.bytes.items bytes is.bytes_
    ∙ ap (λ p. document_report bytes p reading.document) names ∙ ap (document_report bytes (question_of detail words task)) is.document

pub question_part : (o a b : Option (List ℕ)) (detail : Detail) (words : List (List ℕ)) (task : Task) (q : Question) (reading : Reading) → q ≡ question_of detail words task → IfSome o (IsReading reading) →
    AppendsPrefix a b (document_report reading.bytes.items q reading.document).text → IfSome o (λ bytes. AppendsPrefix a b (asked_report detail words task bytes).text)
question_part None a b detail words task q reading names e h = tt
question_part (Some bytes) a b detail words task q reading names e h = subst (λ (r : Report). AppendsPrefix a b r.text) (question_is detail words task q reading bytes names e) h

pub question_whole : (o a b : Option (List ℕ)) (detail : Detail) (words : List (List ℕ)) (task : Task) (q : Question) (reading : Reading) (status : ℕ) → q ≡ question_of detail words task → IfSome o (IsReading reading) →
    Said a b status (document_report reading.bytes.items q reading.document) → IfSome o (λ bytes. Said a b status (asked_report detail words task bytes))
question_whole None a b detail words task q reading status names e h = tt
question_whole (Some bytes) a b detail words task q reading status names e h = subst (Said a b status) (question_is detail words task q reading bytes names e) h

-- the clauses of what the source holds are the report
pub clauses_part : (o a b : Option (List ℕ)) (reading : Reading) → IfSome o (IsReading reading) →
    AppendsPrefix a b (clauses_report reading.document).text → IfSome o (λ bytes. AppendsPrefix a b (clauses_report (document_of bytes)).text)
clauses_part None a b reading e h = tt
clauses_part (Some bytes) a b reading e h = subst (λ d. AppendsPrefix a b (clauses_report d).text) e.document h

pub clauses_whole : (o a b : Option (List ℕ)) (reading : Reading) (status : ℕ) → IfSome o (IsReading reading) →
    Said a b status (clauses_report reading.document) → IfSome o (λ bytes. Said a b status (clauses_report (document_of bytes)))
clauses_whole None a b reading status e h = tt
clauses_whole (Some bytes) a b reading status e h = subst (λ d. Said a b status (clauses_report d)) e.document h
