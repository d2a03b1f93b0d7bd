-- The report of a check, written derivation by derivation.
use Rattle.std.proofs.Common.{◌≡◌, ℕ, ◌+◌, ◌<◌, ◌≤◌, Bool, true, false, cond, List, [], ◌∷◌, ◌++◌, length, drop, get_or, nat_lt, Option, None, Some, Result, Ok, Err, IfOk, IfSome, inl, inr, refl, subst, ap, sym, ◌∙◌, append_assoc, length-append, arith, lt-ltb}
use Rattle.std.specs.Io.KnownBytes.{Appends}
use Rattle.std.proofs.KnownBytes.{Appends-trans}
use Rattle.std.proofs.lemmas.Bool.{le-ltb}
use Rattle.std.proofs.lemmas.List.{drop_more, drop_all}
use Rattle.le_base.specs.declared.code.Code.TheVariants.{TooLong}
use Rattle.le_base.specs.declared.stop.Refusal.{Refusal}
use Rattle.le_base.specs.Outside.{AppendsPrefix, ConsumesExactly, ReadsAll}
use Rattle.le_base.specs.Stop.{refusal_at}
use Rattle.le_base.proofs.OutsideLemmas.{written_part}
use Rattle.le_terms.specs.Program.{IsProgram}
use Rattle.le_terms.specs.declared.program.Program.{Program}
use Rattle.le_clauses.specs.declared.whole.Whole.{Whole}
use Rattle.le_clauses.specs.Selection.{selected}
use Rattle.le_clauses.specs.Validity.{IsWhole}
use Rattle.le_clauses.proofs.Selected.{selected_in}
use Rattle.le_proofs.specs.declared.derivation.Derivation.{Derivation}
use Rattle.le_proofs.specs.Replay.{verdict_of}
use Rattle.le_proofs.proofs.Admitted.{accepted-exactly}
use Rattle.le_bundle.specs.Bundle.{Bundle, bundle_of}
use Rattle.le_tool.specs.declared.report.Report.{Report}
use Rattle.le_tool.specs.Checks.{most_bundle_bytes, part_document, verdict_text, is_accepted, after_verdict, all_accepted_line, certificates_report, derivations_report, parts_report, bundle_report, check_report, checks_by, checks_in, bundle_checks, checks_of, AreJudged}
use Rattle.le_tool.specs.Lines.{refused_report}
use Rattle.le_tool.specs.Statuses.{IsCheckStatus}
use Rattle.le_tool.proofs.SearchLemmas.{part_more, part_end, nothing_more}

-- what was written is the front of a report, of which this is the rest
pub record IsFront (a b : Option (List ℕ)) (all rest : Report) : Type 0 where
  pub front : List ℕ
  pub written : Appends a b front
  pub text_ : all.text ≡ front ++ rest.text
  pub status_ : all.status ≡ rest.status

-- nothing is written yet
pub front_start : (a : Option (List ℕ)) (r : Report) → IsFront a a r r
front_start a r = record { front = []; written = nothing_more a; text_ = refl; status_ = refl }

-- it is a prefix of the report
pub front_part : (a b : Option (List ℕ)) (all rest : Report) → IsFront a b all rest → AppendsPrefix a b all.text
front_part a b all rest f = written_part a b all.text rest.text (f.front, f.text_, f.written)

-- a prefix of what is said of a derivation gives one of the report
front_more : (a b c : Option (List ℕ)) (all rest : Report) (text : List ℕ) (yes : Bool) → IsFront a b all (after_verdict text yes rest) → AppendsPrefix b c text → AppendsPrefix a c all.text
front_more a b c all rest text true f part = subst (AppendsPrefix a c) (sym f.text_) (part_more a b c f.front text rest.text f.written part)
front_more a b c all rest text false f part = subst (AppendsPrefix a c) (sym f.text_) (part_end a b c f.front text f.written part)

-- where it is accepted the report goes on
front_next : (a b c : Option (List ℕ)) (all rest : Report) (text : List ℕ) → IsFront a b all (after_verdict text true rest) → Appends b c text → IsFront a c all rest
front_next a b c all rest text f more =
    record {
      front = f.front ++ text;
      written = Appends-trans a b c f.front text f.written more;
      text_ = f.text_ ∙ sym (append_assoc f.front text rest.text);
      status_ = f.status_;
    }

-- where the last line is written, the whole report is
front_all : (a b c : Option (List ℕ)) (all last : Report) → IsFront a b all last → Appends b c last.text → Appends a c all.text
front_all a b c all last f more = subst (Appends a c) (sym f.text_) (Appends-trans a b c f.front last.text f.written more)

-- ---- the report from a place on

abbrev pub report_from : Whole → Program → ℕ → List Derivation → Report
report_from whole program at ds = certificates_report whole program at (drop at ds)

abbrev said_of : Whole → Program → ℕ → Derivation → List ℕ
said_of whole program at d = verdict_text whole program (at + 1) (verdict_of program d.nodes)

abbrev accepts : Program → Derivation → Bool
accepts program d = is_accepted (verdict_of program d.nodes)

here : (whole : Whole) (program : Program) (ds : List Derivation) (at : ℕ) (d : Derivation) → at < length ds → d ≡ get_or ds at d →
    report_from whole program at ds ≡ after_verdict (said_of whole program at d) (accepts program d) (report_from whole program (at + 1) ds)
here whole program ds at d low is =
    ap (certificates_report whole program at) (drop_more ds at d low ∙ ap (λ x. x ∷ drop (at + 1) ds) (sym is))

-- a prefix of what is said of the derivation at a place
pub verdict_part : (a b c : Option (List ℕ)) (whole : Whole) (program : Program) (ds : List Derivation) (at : ℕ) (d : Derivation) (all : Report) → at < length ds → d ≡ get_or ds at d →
    IsFront a b all (report_from whole program at ds) → AppendsPrefix b c (said_of whole program at d) → AppendsPrefix a c all.text
verdict_part a b c whole program ds at d all low is f part =
    front_more a b c all (report_from whole program (at + 1) ds) (said_of whole program at d) (accepts program d) (subst (IsFront a b all) (here whole program ds at d low is) f) part

-- the derivation at a place is accepted
pub verdict_next : (a b c : Option (List ℕ)) (whole : Whole) (program : Program) (ds : List Derivation) (at : ℕ) (d : Derivation) (all : Report) → at < length ds → d ≡ get_or ds at d →
    accepts program d ≡ true → IsFront a b all (report_from whole program at ds) → Appends b c (said_of whole program at d) → IsFront a c all (report_from whole program (at + 1) ds)
verdict_next a b c whole program ds at d all low is said f more =
    let rest = report_from whole program (at + 1) ds in
    let t = said_of whole program at d in
    front_next a b c all rest t (subst (IsFront a b all) (here whole program ds at d low is ∙ ap (λ y. after_verdict t y rest) said) f) more

-- it is refused
pub verdict_last : (a b c : Option (List ℕ)) (whole : Whole) (program : Program) (ds : List Derivation) (at : ℕ) (d : Derivation) (all : Report) → at < length ds → d ≡ get_or ds at d →
    accepts program d ≡ false → IsFront a b all (report_from whole program at ds) → Appends b c (said_of whole program at d) → Appends a c all.text × ((let eight : ℕ = 8 in eight) ≡ all.status)
verdict_last a b c whole program ds at d all low is said f more =
    let rest = report_from whole program (at + 1) ds in
    let t = said_of whole program at d in
    let g = subst (IsFront a b all) (here whole program ds at d low is ∙ ap (λ y. after_verdict t y rest) said) f in
    (front_all a b c all (after_verdict t false rest) g more, sym g.status_)

-- ---- after the last derivation

last_is : (whole : Whole) (program : Program) (ds : List Derivation) (at : ℕ) → length ds ≤ at → report_from whole program at ds ≡ (record { text = all_accepted_line at; status = 0 })
last_is whole program ds at h = ap (certificates_report whole program at) (drop_all at ds h)

pub all_part : (a b c : Option (List ℕ)) (whole : Whole) (program : Program) (ds : List Derivation) (at : ℕ) (all : Report) → length ds ≤ at →
    IsFront a b all (report_from whole program at ds) → AppendsPrefix b c (all_accepted_line at) → AppendsPrefix a c all.text
all_part a b c whole program ds at all h f part =
    let g = subst (IsFront a b all) (last_is whole program ds at h) f in
    subst (AppendsPrefix a c) (sym g.text_) (part_end a b c g.front (all_accepted_line at) g.written part)

pub all_whole : (a b c : Option (List ℕ)) (whole : Whole) (program : Program) (ds : List Derivation) (at : ℕ) (all : Report) → length ds ≤ at →
    IsFront a b all (report_from whole program at ds) → Appends b c (all_accepted_line at) → Appends a c all.text × ((let zero : ℕ = 0 in zero) ≡ all.status)
all_whole a b c whole program ds at all h f more =
    let g = subst (IsFront a b all) (last_is whole program ds at h) f in
    (front_all a b c all (record { text = all_accepted_line at; status = 0 }) g more, sym g.status_)

-- ---- the report on what the source holds

-- the same of a report that is equal
pub same_part : (a b : Option (List ℕ)) (r q : Report) → r ≡ q → AppendsPrefix a b r.text → AppendsPrefix a b q.text
same_part a b r q e h = subst (λ (p : Report). AppendsPrefix a b p.text) e h

pub same_whole : (a b : Option (List ℕ)) (r q : Report) (status : ℕ) → r ≡ q → (Appends a b r.text × (status ≡ r.status)) → Appends a b q.text × (status ≡ q.status)
same_whole a b r q status e h = subst (λ (p : Report). Appends a b p.text × (status ≡ p.status)) e h

pub report_part : (o a b : Option (List ℕ)) (r : Report) → IfSome o (λ bytes. r ≡ check_report bytes) → AppendsPrefix a b r.text → IfSome o (λ bytes. AppendsPrefix a b (check_report bytes).text)
report_part None a b r e h = tt
report_part (Some bytes) a b r e h = subst (λ (q : Report). AppendsPrefix a b q.text) e h

pub report_whole : (o a b : Option (List ℕ)) (r : Report) (status : ℕ) → IfSome o (λ bytes. r ≡ check_report bytes) → (Appends a b r.text × (status ≡ r.status)) → IfSome o (λ bytes. Appends a b (check_report bytes).text × (status ≡ (check_report bytes).status))
report_whole None a b r status e h = tt
report_whole (Some bytes) a b r status e h = subst (λ (q : Report). Appends a b q.text × (status ≡ q.status)) e h

-- more bytes than the most
long_is : (bytes : List ℕ) → most_bundle_bytes < length bytes → refused_report (refusal_at TooLong 0 0) ≡ check_report bytes
unfolding check_report
long_is bytes long = sym (ap (λ b. cond b (refused_report (refusal_at TooLong 0 0)) (bundle_report (bundle_of bytes))) (lt-ltb most_bundle_bytes (length bytes) long))

pub short_is : (bytes : List ℕ) → length bytes ≤ most_bundle_bytes → bundle_report (bundle_of bytes) ≡ check_report bytes
unfolding check_report
short_is bytes short = sym (ap (λ b. cond b (refused_report (refusal_at TooLong 0 0)) (bundle_report (bundle_of bytes))) (le-ltb most_bundle_bytes (length bytes) short))

long_length : (xs ys taken : List ℕ) → xs ≡ taken ++ ys → length taken ≡ most_bundle_bytes + 1 → most_bundle_bytes < length xs
long_length xs ys taken is count = omega (arith, count, ap length is, length-append taken ys)

pub long_bundle : (a b : Option (List ℕ)) (r : Refusal) → ConsumesExactly a b (most_bundle_bytes + 1) → r ≡ refusal_at TooLong 0 0 → IfSome a (λ bytes. refused_report r ≡ check_report bytes)
long_bundle None b r taken e = tt
long_bundle (Some xs) None r taken e = absurd taken.2
long_bundle (Some xs) (Some ys) r taken e = ap refused_report e ∙ long_is xs (long_length xs ys taken.0 taken.2 taken.1)

-- bytes that were all read
pub all_read : (o b : Option (List ℕ)) (read bytes : List ℕ) → read ≡ bytes → ReadsAll o b bytes → IfSome o (λ left. check_report read ≡ check_report left)
all_read None b read bytes same all = tt
all_read (Some left) b read bytes same all = ap check_report (same ∙ all.0)

-- ---- what is said of the derivations

judged_all : (program : Program) (ds : List Derivation) → IsProgram program → AreJudged (record { program = program; derivations = ds })
judged_all program [] is = tt
judged_all program (d ∷ ds) is = ((λ values. accepted-exactly program d.nodes values is), judged_all program ds is)

judged_by : (ds : List Derivation) (r : Result Program Refusal) → IfOk r IsProgram → IfSome (checks_by ds r) AreJudged
judged_by ds (Ok program) is = judged_all program ds is
judged_by ds (Err refusal) is = tt

-- the derivations of a bundle with this document
pub judged_in : (bundle : Bundle) (found : Result Whole Refusal) → IfOk found IsWhole → IfSome (checks_in bundle found) AreJudged
judged_in bundle (Ok whole) is = judged_by bundle.derivations (selected whole bundle.scenario bundle.query) (selected_in whole bundle.scenario bundle.query is)
judged_in bundle (Err refusal) is = tt

pub short_judged : (bytes : List ℕ) → length bytes ≤ most_bundle_bytes → IfSome (bundle_checks (bundle_of bytes)) AreJudged → IfSome (checks_of bytes) AreJudged
unfolding checks_of
short_judged bytes short h = subst (λ b. IfSome (cond b None (bundle_checks (bundle_of bytes))) AreJudged) (sym (le-ltb most_bundle_bytes (length bytes) short)) h

long_judged : (bytes : List ℕ) → most_bundle_bytes < length bytes → IfSome (checks_of bytes) AreJudged
unfolding checks_of
long_judged bytes long = subst (λ b. IfSome (cond b None (bundle_checks (bundle_of bytes))) AreJudged) (sym (lt-ltb most_bundle_bytes (length bytes) long)) tt

pub none_judged : (a b : Option (List ℕ)) → ConsumesExactly a b (most_bundle_bytes + 1) → IfSome a (λ bytes. IfSome (checks_of bytes) AreJudged)
none_judged None b taken = tt
none_judged (Some xs) None taken = absurd taken.2
none_judged (Some xs) (Some ys) taken = long_judged xs (long_length xs ys taken.0 taken.2 taken.1)

pub judged_left : (o b : Option (List ℕ)) (read bytes : List ℕ) → read ≡ bytes → ReadsAll o b bytes → IfSome (checks_of read) AreJudged → IfSome o (λ left. IfSome (checks_of left) AreJudged)
judged_left None b read bytes same all h = tt
judged_left (Some left) b read bytes same all h = subst (λ xs. IfSome (checks_of xs) AreJudged) (same ∙ all.0) h

-- ---- statuses

after_status : (text : List ℕ) (yes : Bool) (rest : Report) → IsCheckStatus rest.status → IsCheckStatus (after_verdict text yes rest).status
after_status text true rest h = h
after_status text false rest h = inr (inr refl)

certificates_status : (whole : Whole) (program : Program) (before : ℕ) (ds : List Derivation) → IsCheckStatus (certificates_report whole program before ds).status
certificates_status whole program before [] = inl refl
certificates_status whole program before (d ∷ ds) =
    after_status (said_of whole program before d) (accepts program d) (certificates_report whole program (before + 1) ds) (certificates_status whole program (before + 1) ds)

derivations_status : (whole : Whole) (ds : List Derivation) (r : Result Program Refusal) → IsCheckStatus (derivations_report whole ds r).status
derivations_status whole ds (Ok program) = certificates_status whole program 0 ds
derivations_status whole ds (Err refusal) = inr (inl refl)

parts_status : (bundle : Bundle) (found : Result Whole Refusal) → IsCheckStatus (parts_report bundle found).status
parts_status bundle (Ok whole) = derivations_status whole bundle.derivations (selected whole bundle.scenario bundle.query)
parts_status bundle (Err refusal) = inr (inl refl)

-- the status of the report on a bundle
pub bundle_status : (found : Result Bundle ℕ) → IsCheckStatus (bundle_report found).status
bundle_status (Ok bundle) = parts_status bundle (part_document bundle.document)
bundle_status (Err line) = inr (inr refl)

-- the status of the report of a check
pub check_status : (bytes : List ℕ) → IsCheckStatus (check_report bytes).status
unfolding check_report
check_status bytes = by (nat_lt most_bundle_bytes (length bytes)) bytes
  where
    by : (long : Bool) (bytes : List ℕ) → IsCheckStatus (cond long (refused_report (refusal_at TooLong 0 0)) (bundle_report (bundle_of bytes))).status
    by true bytes = inr (inl refl)
    by false bytes = bundle_status (bundle_of bytes)
