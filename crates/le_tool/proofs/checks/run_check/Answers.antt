use Rattle.std.proofs.Common.{ap, Err, sym, subst}
use Rattle.std.proofs.lemmas.Result.{IfOk-weaker}
use Rattle.le_tool.specs.Checks.{check_report}
use Rattle.le_tool.specs.Lines.{refused_report}
use Rattle.le_tool.specs.Statuses.{IsCheckStatus}
use Rattle.le_tool.proofs.ChecksLemmas.{report_part, report_whole, long_bundle, all_read, none_judged, judged_left, check_status}
use Rattle.le_tool.proofs.checks.run_check.Goals as goal

pub returns-in-Ok-clause-done : goal.returns-in-Ok-clause-done
returns-in-Ok-clause-done g c =
    IfOk-weaker c.say_short.result _ _ (λ status h. report_whole _ _ _ (check_report c.deref.result.now) status (all_read _ _ c.deref.result.now c.in-Ok.bytes.items c.deref.ensures.value c.in-Ok.ensures.all) h) c.say_short.ensures.done

pub returns-in-Ok-clause-part : goal.returns-in-Ok-clause-part
returns-in-Ok-clause-part g c =
    report_part _ _ _ (check_report c.deref.result.now) (all_read _ _ c.deref.result.now c.in-Ok.bytes.items c.deref.ensures.value c.in-Ok.ensures.all) c.say_short.ensures.part

pub returns-in-Ok-clause-accepted : goal.returns-in-Ok-clause-accepted
returns-in-Ok-clause-accepted g c =
    IfOk-weaker c.say_short.result _ _ (λ status h. judged_left _ _ c.deref.result.now c.in-Ok.bytes.items c.deref.ensures.value c.in-Ok.ensures.all h) c.say_short.ensures.accepted

pub returns-in-Ok-clause-statuses : goal.returns-in-Ok-clause-statuses
returns-in-Ok-clause-statuses g c =
    IfOk-weaker c.say_short.result _ _ (λ status h. subst IsCheckStatus (sym h.1) (check_status c.deref.result.now)) c.say_short.ensures.done

pub returns-in-Err-TooLong-clause-done : goal.returns-in-Err-TooLong-clause-done
returns-in-Err-TooLong-clause-done g c =
    IfOk-weaker c.say_refusal.result _ _ (λ status h. report_whole _ _ _ (refused_report c.too_long.result) status (long_bundle _ _ c.too_long.result (c.in-Err-TooLong.ensures.too_long (ap Err c.in-Err-TooLong.field-0-is)) c.too_long.ensures) h) c.say_refusal.ensures.done

pub returns-in-Err-TooLong-clause-part : goal.returns-in-Err-TooLong-clause-part
returns-in-Err-TooLong-clause-part g c =
    report_part _ _ _ (refused_report c.too_long.result) (long_bundle _ _ c.too_long.result (c.in-Err-TooLong.ensures.too_long (ap Err c.in-Err-TooLong.field-0-is)) c.too_long.ensures) c.say_refusal.ensures.part

pub returns-in-Err-TooLong-clause-accepted : goal.returns-in-Err-TooLong-clause-accepted
returns-in-Err-TooLong-clause-accepted g c =
    IfOk-weaker c.say_refusal.result _ _ (λ status h. none_judged _ _ (c.in-Err-TooLong.ensures.too_long (ap Err c.in-Err-TooLong.field-0-is))) c.say_refusal.ensures.done
