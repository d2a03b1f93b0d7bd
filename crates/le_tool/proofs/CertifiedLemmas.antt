-- What `certify` writes is a bundle, and the check of it accepts its derivations.
use Rattle.std.proofs.Common.{◌≡◌, ℕ, zero, suc, ◌+◌, ◌-◌, ◌≤◌, Bool, true, false, cond, nat_le, nat_lt, List, [], ◌∷◌, ◌++◌, length, map, take, Option, Some, Result, Ok, Err, IfOk, inl, inr, codes, decimal, ⊎_elim, refl, subst, ap, sym, ◌∙◌, append_assoc, arith}
use Rattle.std.proofs.lemmas.Bool.{cases_Bool, le-ltb, ltb-false}
use Rattle.std.specs.List.{AllByRecursion}
use Rattle.le_base.specs.declared.code.Code.TheVariants.{TooLong}
use Rattle.le_base.specs.declared.stop.Refusal.{Refusal}
use Rattle.le_base.specs.Stop.{refusal_at}
use Rattle.le_terms.specs.declared.program.Program.{Program}
use Rattle.le_layout.specs.declared.layout.Layout.{Layout}
use Rattle.le_layout.specs.Layout.{layout_of}
use Rattle.le_clauses.specs.declared.whole.Whole.{Whole}
use Rattle.le_proofs.specs.declared.derivation.Derivation.{Derivation}
use Rattle.le_proofs.specs.declared.next.Next.{Next}
use Rattle.le_proofs.specs.Derivations.{certificate_of}
use Rattle.le_proofs.specs.Proofs.{Leaf}
use Rattle.le_proofs.specs.Replay.{accepted, verdict_of}
use Rattle.le_proofs.specs.Search.{answers_of, end_of}
use Rattle.le_proofs.proofs.Admitted.{answers-accepted}
use Rattle.le_prooftext.specs.Lines.{derivation_text, AreSpellable}
use Rattle.le_bundle.specs.Bundle.{bundle_of}
use Rattle.le_bundle.specs.Endings.{end_words, stopped_words}
use Rattle.le_bundle.specs.Head.{is_ended, head_lines}
use Rattle.le_bundle.specs.Lines.{lines_of}
use Rattle.le_bundle.specs.Written.{answers_lines, bundle_text, AreUnmarked, IsEnd, IsEnding, IsBundle}
use Rattle.le_bundle.proofs.WrittenLemmas.{reads_back}
use Rattle.le_tool.specs.declared.asking.Detail.TheVariants.{Derivations}
use Rattle.le_tool.specs.declared.jobs.Command.TheVariants.{Certify}
use Rattle.le_tool.specs.declared.jobs.Task.{Task}
use Rattle.le_tool.specs.declared.report.Report.{Report}
use Rattle.le_tool.specs.Certified.{certified, derivation_at, written_derivations, ending_words, bundle_for, IsCertified, IsAccepted}
use Rattle.le_tool.specs.Checks.{part_document, verdict_text, is_accepted, after_verdict, certificates_report, derivations_report, parts_report, bundle_report, check_report}
use Rattle.le_tool.specs.Documents.{most_bytes, whole_of_layout, document_by, document_of}
use Rattle.le_tool.specs.Job.{job_of}
use Rattle.le_tool.specs.Report.{Question, question_of, answers_text, last_line, search_report, answers_report, query_report, document_report, command_report, report_by, report}
use Rattle.le_tool.proofs.ChecksLemmas.{short_is}
use Rattle.le_tool.proofs.LimitLemmas.{Within, limits_of}
use Rattle.le_tool.proofs.PieceNames.{selected_named}
use Rattle.le_tool.proofs.SentenceLemmas.{Comes, document-comes, selected-valid}
use Rattle.le_tool.proofs.SpellingLemmas.{answers-spelled}
use Rattle.le_tool.proofs.UnmarkedLemmas.{unmarked}

-- the question of `certify`
abbrev certifying : List ℕ → Option (List ℕ) → ℕ → ℕ → Question
certifying query scenario budget most = record { detail = Derivations; query = query; scenario = scenario; budget = budget; most = most }

-- ---- the document

-- an accepted document has few enough bytes, and is that of its layout
within_limit : (n : ℕ) (bytes : List ℕ) (whole : Whole) → document_by n bytes ≡ Ok whole → (n ≤ most_bytes) × (whole_of_layout (layout_of bytes) ≡ Ok whole)
unfolding document_by
within_limit n bytes whole is =
    ⊎_elim (λ (long : nat_lt most_bytes n ≡ true). absurd (cc (rw long at is)))
    (λ (within : nat_lt most_bytes n ≡ false). (ltb-false most_bytes n within, sym (ap (λ b. cond b (Err (refusal_at TooLong 0 0)) (whole_of_layout (layout_of bytes))) within) ∙ is))
    (cases_Bool (nat_lt most_bytes n))

-- what it keeps
document_is : (bytes : List ℕ) (whole : Whole) → document_of bytes ≡ Ok whole → Comes whole
document_is bytes whole is = by (document_of bytes) is (document-comes bytes)
  where
    by : (r : Result Whole Refusal) → r ≡ Ok whole → IfOk r Comes → Comes whole
    by r e h = subst (λ s. IfOk s Comes) e h

-- it has a layout
laid : (r : Result Layout Refusal) (whole : Whole) → whole_of_layout r ≡ Ok whole → (layout : Layout) × (r ≡ Ok layout)
laid (Ok layout) whole is = (layout, refl)
laid (Err refusal) whole is = absurd (cc is)

-- no line of it is the marker
document_unmarked : (bytes : List ℕ) (whole : Whole) → is_ended bytes ≡ true → document_of bytes ≡ Ok whole → AreUnmarked (lines_of bytes)
document_unmarked bytes whole last is =
    let found = laid (layout_of bytes) whole (within_limit (length bytes) bytes whole is).1 in
    unmarked bytes found.0 last found.1

-- ---- the text

-- the lines of the answers are those of their derivations
answers_are : (whole : Whole) (program : Program) (before : ℕ) (leaves : List Leaf) → answers_text Derivations whole program before leaves ≡ answers_lines (before + 1) (map derivation_at leaves)
answers_are whole program before [] = refl
answers_are whole program before (leaf ∷ leaves) =
    let text = derivation_text (certificate_of leaf).nodes in
    let rest = answers_text Derivations whole program (before + 1) leaves in
    ap (λ t. codes "answer " ++ t) (append_assoc (decimal (before + 1)) (codes "\n" ++ text) rest)
    ∙ ap (λ t. codes "answer " ++ (decimal (before + 1) ++ (10 ∷ (text ++ t)))) (answers_are whole program (before + 1) leaves)

-- the last line with its LF
last_by : (b : Bool) (x y : List ℕ) → cond b (x ++ codes "\n") (y ++ codes "\n") ≡ cond b x y ++ (10 ∷ [])
last_by true x y = refl
last_by false x y = refl

search_text : (whole : Whole) (program : Program) (budget most : ℕ) →
    (search_report Derivations whole most budget program).text
    ≡ answers_lines 1 (written_derivations program budget most) ++ (ending_words budget most (length (answers_of program budget)) (end_of program budget) ++ (10 ∷ []))
unfolding search_report
search_text whole program budget most =
    let leaves = answers_of program budget in
    let ending = end_of program budget in
    ap (λ t. t ++ last_line most budget (length leaves) ending) (answers_are whole program 0 (take most leaves))
    ∙ ap (λ t. answers_lines 1 (written_derivations program budget most) ++ t) (last_by (nat_le most (length leaves)) (stopped_words most) (end_words budget ending))

-- the report of a search is the text of its bundle
report_text : (bytes query : List ℕ) (scenario : Option (List ℕ)) (budget most : ℕ) (whole : Whole) (program : Program) → is_ended bytes ≡ true →
    (answers_report bytes (certifying query scenario budget most) whole program).text ≡ bundle_text (bundle_for bytes (certifying query scenario budget most) program)
report_text bytes query scenario budget most whole program last =
    let head = head_lines query scenario budget most in
    let found = (search_report Derivations whole most budget program).text in
    ap (λ b. (cond b bytes (bytes ++ (10 ∷ [])) ++ head) ++ found) last
    ∙ append_assoc bytes head found
    ∙ ap (λ t. bytes ++ (head ++ t)) (search_text whole program budget most)

-- and so is the report of the document
certified_text : (bytes query : List ℕ) (scenario : Option (List ℕ)) (budget most : ℕ) (whole : Whole) (program : Program) → IsCertified bytes (certifying query scenario budget most) whole program →
    (certified bytes (certifying query scenario budget most)).text ≡ bundle_text (bundle_for bytes (certifying query scenario budget most) program)
certified_text bytes query scenario budget most whole program is =
    let q = certifying query scenario budget most in
    ap (λ d. (document_report bytes q d).text) is.document
    ∙ ap (λ p. (query_report bytes q whole p).text) is.selects
    ∙ report_text bytes query scenario budget most whole program is.ended

-- ---- it is a bundle

all_taken : {X Y : Type 0} (P : Y → Type 0) (f : X → Y) (n : ℕ) (xs : List X) → AllByRecursion (λ x. P (f x)) xs → AllByRecursion P (map f (take n xs))
all_taken P f zero xs h = tt
all_taken P f (suc n) [] h = tt
all_taken P f (suc n) (x ∷ xs) h = (h.0, all_taken P f n xs h.1)

few_taken : {X Y : Type 0} (f : X → Y) (n : ℕ) (xs : List X) → length (map f (take n xs)) ≤ n
few_taken f zero xs = omega arith
few_taken f (suc n) [] = omega arith
few_taken f (suc n) (x ∷ xs) = omega (arith, few_taken f n xs)

ending_by : (b : Bool) (budget most : ℕ) (next : Next) → IsEnd next → IsEnding budget most (cond b (stopped_words most) (end_words budget next))
ending_by true budget most next is = inl refl
ending_by false budget most next is = inr (next, is, refl)

bundle_is : (bytes query : List ℕ) (scenario : Option (List ℕ)) (budget most : ℕ) (whole : Whole) (program : Program) → Within 100000 budget → Within 1000 most → IsCertified bytes (certifying query scenario budget most) whole program →
    IsBundle (bundle_for bytes (certifying query scenario budget most) program)
bundle_is bytes query scenario budget most whole program limited asked is =
    let leaves = answers_of program budget in
    let comes : Comes whole = document_is bytes whole is.document in
    let names = selected_named whole scenario query program comes.named is.selects in
    record {
      unmarked = document_unmarked bytes whole is.ended is.document;
      named = names.0;
      under = names.1;
      limited = (limited.0, omega (arith, limited.1));
      asked = asked;
      few = few_taken derivation_at most leaves;
      spelled = all_taken (λ d. AreSpellable d.nodes) derivation_at most leaves (answers-spelled whole comes scenario query program budget (omega (arith, limited.1)) is.selects is.names is.predicates);
      ended = ending_by (nat_le most (length leaves)) budget most (end_of program budget) is.ends;
    }

-- ---- it is accepted

abbrev Accepts : Program → Derivation → Type 0
Accepts program d = is_accepted (verdict_of program d.nodes) ≡ true

-- where each derivation is accepted, the status is 0
all_status : (whole : Whole) (program : Program) (before : ℕ) (ds : List Derivation) → AllByRecursion (Accepts program) ds → (certificates_report whole program before ds).status ≡ 0
all_status whole program before [] h = refl
all_status whole program before (d ∷ ds) h =
    let text = verdict_text whole program (before + 1) (verdict_of program d.nodes) in
    let rest = certificates_report whole program (before + 1) ds in
    ap (λ b. (after_verdict text b rest).status) h.0 ∙ all_status whole program (before + 1) ds h.1

leaves_accepted : (program : Program) (leaves : List Leaf) → AllByRecursion (λ leaf. verdict_of program (certificate_of leaf).nodes ≡ accepted (certificate_of leaf).values) leaves → AllByRecursion (λ leaf. Accepts program (derivation_at leaf)) leaves
leaves_accepted program [] h = tt
leaves_accepted program (leaf ∷ leaves) h = (ap is_accepted h.0, leaves_accepted program leaves h.1)

-- a document is the same where fewer bytes count for the limit
fewer_count : (n m : ℕ) (bytes : List ℕ) (whole : Whole) → m ≤ n → document_by n bytes ≡ Ok whole → document_by m bytes ≡ Ok whole
unfolding document_by
fewer_count n m bytes whole less is =
    let within = within_limit n bytes whole is in
    let fits : nat_lt most_bytes m ≡ false = le-ltb most_bytes m (omega (arith, within.0, less)) in
    ap (λ b. cond b (Err (refusal_at TooLong 0 0)) (whole_of_layout (layout_of bytes))) fits ∙ within.1

part_is : (bytes : List ℕ) (whole : Whole) → is_ended bytes ≡ true → document_of bytes ≡ Ok whole → part_document bytes ≡ Ok whole
part_is bytes whole last is =
    ap (λ b. document_by (cond b (length bytes - 1) (length bytes)) bytes) last ∙ fewer_count (length bytes) (length bytes - 1) bytes whole (omega arith) is

-- what is written reads back, and is accepted
certified_is : (bytes query : List ℕ) (scenario : Option (List ℕ)) (budget most : ℕ) (whole : Whole) (program : Program) → Within 100000 budget → Within 1000 most → IsCertified bytes (certifying query scenario budget most) whole program →
    IsAccepted (certified bytes (certifying query scenario budget most)).text bytes (certifying query scenario budget most) whole program
certified_is bytes query scenario budget most whole program limited asked is =
    let q = certifying query scenario budget most in
    let b = bundle_for bytes q program in
    let text = (certified bytes q).text in
    let ds = written_derivations program budget most in
    let read : bundle_of text ≡ Ok b = ap bundle_of (certified_text bytes query scenario budget most whole program is) ∙ reads_back b (bundle_is bytes query scenario budget most whole program limited asked is) in
    let report : check_report text ≡ certificates_report whole program 0 ds =
    sym (short_is text is.short) ∙ ap bundle_report read ∙ ap (parts_report b) (part_is bytes whole is.ended is.document) ∙ ap (derivations_report whole ds) is.selects in
    let accepts = all_taken (Accepts program) derivation_at most (answers_of program budget) (leaves_accepted program (answers_of program budget) (answers-accepted program budget (selected-valid whole (document_is bytes whole is.document) scenario query program is.selects))) in
    record {
      bundle = read;
      checked = report;
      status = ap (λ (r : Report). r.status) report ∙ all_status whole program 0 ds accepts;
    }

-- the report of the words of `certify` is what it writes of the document
pub certified_accepted : (words : List (List ℕ)) (bytes : List ℕ) (task : Task) (whole : Whole) (program : Program) → job_of words ≡ Some task → task.command ≡ Certify → IsCertified bytes (question_of Derivations words task) whole program →
    IsAccepted (report words bytes).text bytes (question_of Derivations words task) whole program
certified_accepted words bytes task whole program job command is =
    let q = question_of Derivations words task in
    let limits = limits_of words task job in
    let said : report words bytes ≡ certified bytes q = ap (report_by words bytes) job ∙ ap (λ c. command_report c words task bytes) command in
    subst (λ (r : Report). IsAccepted r.text bytes q whole program) (sym said) (certified_is bytes q.query q.scenario q.budget q.most whole program limits.0 limits.1 is)
