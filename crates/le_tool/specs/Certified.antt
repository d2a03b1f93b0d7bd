-- What `check` says of a bundle that `certify` wrote: this project's profile.
use Rattle.std.specs.Prelude.{◌≡◌, ℕ, ◌+◌, ◌^◌, ◌≤◌, nat_le, if◌then◌else◌, true, List, length, map, take, Some, Ok}
use Rattle.le_terms.specs.Program.{predefined_count}
use Rattle.le_terms.specs.declared.program.Program.{Program}
use Rattle.le_clauses.specs.declared.whole.Whole.{Whole}
use Rattle.le_clauses.specs.Selection.{selected}
use Rattle.le_proofs.specs.declared.derivation.Derivation.{Derivation}
use Rattle.le_proofs.specs.declared.next.Next.{Next}
use Rattle.le_proofs.specs.Derivations.{certificate_of}
use Rattle.le_proofs.specs.Proofs.{Leaf}
use Rattle.le_proofs.specs.Search.{answers_of, end_of}
use Rattle.le_bundle.specs.Bundle.{Bundle, bundle_of}
use Rattle.le_bundle.specs.Endings.{end_words, stopped_words}
use Rattle.le_bundle.specs.Head.{is_ended}
use Rattle.le_bundle.specs.Written.{IsEnd}
use Rattle.le_tool.specs.declared.asking.Detail.TheVariants.{Derivations}
use Rattle.le_tool.specs.declared.jobs.Command.TheVariants.{Certify}
use Rattle.le_tool.specs.declared.jobs.Task.{Task}
use Rattle.le_tool.specs.declared.report.Report.{Report}
use Rattle.le_tool.specs.Checks.{most_bundle_bytes, certificates_report, check_report}
use Rattle.le_tool.specs.Documents.{document_of}
use Rattle.le_tool.specs.Job.{job_of}
use Rattle.le_tool.specs.Report.{Question, question_of, document_report, report}

-- the report of `certify` on the document of some bytes
abbrev pub certified : List ℕ → Question → Report
certified bytes q = document_report bytes q (document_of bytes)

-- the derivation of the answer at a leaf
abbrev pub derivation_at : Leaf → Derivation
derivation_at leaf = record { nodes = (certificate_of leaf).nodes }

-- the derivations of the answers that are written, which are at most so many
abbrev pub written_derivations : Program → ℕ → ℕ → List Derivation
written_derivations program budget most = map derivation_at (take most (answers_of program budget))

-- the last line, where the search has so many answers and ends so
abbrev pub ending_words : ℕ → ℕ → ℕ → Next → List ℕ
ending_words budget most count ending = if nat_le most count then stopped_words most else end_words budget ending

-- the bundle of a question on the document of some bytes
abbrev pub bundle_for : List ℕ → Question → Program → Bundle
bundle_for bytes q program = record {
  document = bytes;
  query = q.query;
  scenario = q.scenario;
  budget = q.budget;
  most = q.most;
  derivations = written_derivations program q.budget q.most;
  ending = ending_words q.budget q.most (length (answers_of program q.budget)) (end_of program q.budget);
}

-- A question on a document of whole lines that is accepted with its names: the program is the one that they select, there are at most 2^32 constants and predicates, the number of the line at which the search ends has 32 bits, and the bundle isn't too long.
pub record IsCertified (bytes : List ℕ) (q : Question) (whole : Whole) (program : Program) : Type 0 where
  pub document : document_of bytes ≡ Ok whole
  pub selects : selected whole q.scenario q.query ≡ Ok program
  pub ended : is_ended bytes ≡ true
  pub names : length whole.names ≤ 2 ^ 32
  pub predicates : predefined_count + program.users + length program.groups ≤ 2 ^ 32
  pub ends : IsEnd (end_of program q.budget)
  pub short : length (certified bytes q).text ≤ most_bundle_bytes

-- a report is a bundle with this document, these names and limits and the derivations of the answers, and the check of it accepts each of them: what is said of it is the report on these derivations, and its status is 0
pub record IsAccepted (text bytes : List ℕ) (q : Question) (whole : Whole) (program : Program) : Type 0 where
  pub bundle : bundle_of text ≡ Ok (bundle_for bytes q program)
  pub checked : check_report text ≡ certificates_report whole program 0 (written_derivations program q.budget q.most)
  pub status : (check_report text).status ≡ 0

-- What `certify` writes, `check` accepts.
abbrev pub CertifiedAccepted : Type 0
CertifiedAccepted =
    (words : List (List ℕ)) (bytes : List ℕ) (task : Task) (whole : Whole) (program : Program)
    → job_of words ≡ Some task → task.command ≡ Certify → IsCertified bytes (question_of Derivations words task) whole program
    → IsAccepted (report words bytes).text bytes (question_of Derivations words task) whole program
