-- The check of a bundle: this project's profile.
use Rattle.std.specs.Prelude.{◌≡◌, ℕ, ◌+◌, ◌-◌, Bool, true, false, nat_lt, if◌then◌else◌, List, [], ◌∷◌, ◌++◌, length, Option, None, Some, Result, Ok, Err, codes, decimal}
use Rattle.std.specs.List.{AllByRecursion}
use Rattle.le_base.specs.declared.code.Code.TheVariants.{TooLong}
use Rattle.le_base.specs.declared.stop.Refusal.{Refusal}
use Rattle.le_base.specs.Stop.{refusal_at}
use Rattle.le_terms.specs.Tree.{Tree}
use Rattle.le_terms.specs.declared.program.Program.{Program}
use Rattle.le_clauses.specs.declared.whole.Whole.{Whole}
use Rattle.le_clauses.specs.Selection.{selected}
use Rattle.le_proofs.specs.declared.derivation.Derivation.{Derivation}
use Rattle.le_proofs.specs.Lloyd.{Admits}
use Rattle.le_proofs.specs.Replay.{Verdict, accepted, refused, verdict_of}
use Rattle.le_bundle.specs.Bundle.{Bundle, bundle_of}
use Rattle.le_bundle.specs.Head.{is_ended}
use Rattle.le_tool.specs.declared.jobs.Command.{Command}
use Rattle.le_tool.specs.declared.jobs.Command.TheVariants.{Answer, Explain, Certify, Clauses, Check}
use Rattle.le_tool.specs.declared.jobs.Task.{Task}
use Rattle.le_tool.specs.declared.report.Report.{Report}
use Rattle.le_tool.specs.Job.{job_of}
use Rattle.le_tool.specs.Documents.{document_by}
use Rattle.le_tool.specs.Lines.{refused_report, answer_lines}

-- the most bytes of a bundle
abbrev pub most_bundle_bytes : ℕ
most_bundle_bytes = 268435456

-- how many bytes the document part of a bundle has, without its last LF
abbrev pub part_length : List ℕ → ℕ
part_length part = if is_ended part then length part - 1 else length part

-- The document of the document part of a bundle, or its refusal. The limit on a document's bytes holds for the part without its last LF.
abbrev pub part_document : List ℕ → Result Whole Refusal
part_document part = document_by (part_length part) part

-- the node where a derivation is refused, and why
abbrev pub fault_text : ℕ → ℕ → List ℕ
fault_text node why = decimal node ++ (codes ": why " ++ (decimal why ++ codes "\n"))

-- that the derivation of this number is refused at this node, and why
abbrev pub refused_text : ℕ → ℕ → ℕ → List ℕ
refused_text k node why = codes "certificate " ++ (decimal k ++ (codes " refused at node " ++ fault_text node why))

-- what is said of the derivation of this number: that it is accepted, with its values, or the first node at which it is refused, and why
abbrev pub verdict_text : Whole → Program → ℕ → Verdict → List ℕ
verdict_text whole program k (accepted values) = codes "certificate " ++ (decimal k ++ (codes " accepted\n" ++ answer_lines whole program.asked values))
verdict_text whole program k (refused node why) = refused_text k node why

-- whether a derivation with this verdict is accepted
abbrev pub is_accepted : Verdict → Bool
is_accepted (accepted values) = true
is_accepted (refused node why) = false

-- how many derivations are accepted
abbrev pub all_accepted_line : ℕ → List ℕ
all_accepted_line count = decimal count ++ codes " certificates accepted\n"

-- what is said of a derivation, and then the report where it is accepted, and nothing where it is refused
abbrev pub after_verdict : List ℕ → Bool → Report → Report
after_verdict text true rest = record { text = text ++ rest.text; status = rest.status }
after_verdict text false rest = record { text = text; status = 8 }

-- The report on derivations, where so many before them were accepted: what is said of each in order up to the first that is refused, or how many are accepted.
abbrev pub certificates_report : Whole → Program → ℕ → List Derivation → Report
certificates_report whole program before [] = record { text = all_accepted_line before; status = 0 }
certificates_report whole program before (derivation ∷ derivations) =
    after_verdict (verdict_text whole program (before + 1) (verdict_of program derivation.nodes)) (is_accepted (verdict_of program derivation.nodes))
    (certificates_report whole program (before + 1) derivations)

-- the report on the derivations of a query, or the refusal of a name
abbrev pub derivations_report : Whole → List Derivation → Result Program Refusal → Report
derivations_report whole derivations (Ok program) = certificates_report whole program 0 derivations
derivations_report whole derivations (Err refusal) = refused_report refusal

-- the report on the derivations of a bundle with this document, or the document's refusal
abbrev pub parts_report : Bundle → Result Whole Refusal → Report
parts_report bundle (Ok whole) = derivations_report whole bundle.derivations (selected whole bundle.scenario bundle.query)
parts_report bundle (Err refusal) = refused_report refusal

-- that a line of a bundle doesn't fit
abbrev pub unfit_line : ℕ → List ℕ
unfit_line line = codes "bundle refused at line " ++ (decimal line ++ codes "\n")

-- the report on a bundle, or that a line of it doesn't fit
abbrev pub bundle_report : Result Bundle ℕ → Report
bundle_report (Ok bundle) = parts_report bundle (part_document bundle.document)
bundle_report (Err line) = record { text = unfit_line line; status = 8 }

-- The report of `check` on some bytes: the length is tested first, then the grammar of bundles, then the document and the names, then the derivations.
unfoldable pub check_report : List ℕ → Report
check_report bytes = if nat_lt most_bundle_bytes (length bytes) then refused_report (refusal_at TooLong 0 0) else bundle_report (bundle_of bytes)

-- ---- what is said of the derivations that are checked

-- the derivations of a bundle, and the program whose query they are to answer
pub record Checking : Type 0 where
  pub program : Program
  pub derivations : List Derivation

-- the derivations of a bundle, where its names are those of the document
abbrev pub checks_by : List Derivation → Result Program Refusal → Option Checking
checks_by derivations (Ok program) = Some (record { program = program; derivations = derivations })
checks_by derivations (Err refusal) = None

abbrev pub checks_in : Bundle → Result Whole Refusal → Option Checking
checks_in bundle (Ok whole) = checks_by bundle.derivations (selected whole bundle.scenario bundle.query)
checks_in bundle (Err refusal) = None

-- the derivations of a bundle, where its lines fit and its document is accepted
abbrev pub bundle_checks : Result Bundle ℕ → Option Checking
bundle_checks (Ok bundle) = checks_in bundle (part_document bundle.document)
bundle_checks (Err line) = None

-- the derivations that some bytes hold, where these aren't too many
unfoldable pub checks_of : List ℕ → Option Checking
checks_of bytes = if nat_lt most_bundle_bytes (length bytes) then None else bundle_checks (bundle_of bytes)

-- what a command checks of some bytes: the derivations of a bundle; the other commands check none
abbrev pub command_checks : Command → List ℕ → Option Checking
command_checks Answer bytes = None
command_checks Explain bytes = None
command_checks Certify bytes = None
command_checks Clauses bytes = None
command_checks Check bytes = checks_of bytes

abbrev pub checks_for : List ℕ → Option Task → Option Checking
checks_for bytes None = None
checks_for bytes (Some task) = command_checks task.command bytes

-- The derivations that a list of words asks to be checked.
abbrev pub checks_asked : List (List ℕ) → List ℕ → Option Checking
checks_asked words bytes = checks_for bytes (job_of words)

-- Each derivation is accepted with values exactly where it is admitted with them: where there is a refutation of the query, of some rank, whose substitution gives these values and whose nodes these are.
abbrev pub AreJudged : Checking → Type 0
AreJudged c = AllByRecursion (λ d. (values : List Tree) → (Admits c.program d.nodes values → verdict_of c.program d.nodes ≡ accepted values) × (verdict_of c.program d.nodes ≡ accepted values → Admits c.program d.nodes values)) c.derivations
