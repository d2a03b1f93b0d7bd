use Rattle.std.proofs.Common.{sym, subst, ◌∙◌, arith}
use Rattle.std.proofs.lemmas.Result.{IfOk-weaker}
use Rattle.std.specs.Io.KnownBytes.{Appends}
use Rattle.std.proofs.KnownBytes.{Appends-trans}
use Rattle.le_base.specs.Outside.{AppendsPrefix}
use Rattle.le_tool.proofs.SearchLemmas.{so_far, next_part, next_whole, at_end, at_stop, part_end, past, told_next}
use Rattle.le_tool.proofs.answers.say_answers.Goals as goal

pub returns-in_err-next-clause-part : goal.returns-in_err-next-clause-part
returns-in_err-next-clause-part g c =
    let inv = c.loop-given.invariant in
    so_far _ _ c.args.detail c.args.whole.now c.args.program.now c.args.budget c.args.most c.loop-given.given inv.3 inv.5

pub returns-then-not-is_answer-clause-done : goal.returns-then-not-is_answer-clause-done
returns-then-not-is_answer-clause-done g c =
    let inv = c.loop-given.invariant in
    let end = at_end c.args.detail c.args.whole.now c.args.program.now c.args.budget c.args.most c.loop-given.given c.in_ok-next.next (told_next c.loop-given.machine c.args.program.now c.args.budget c.loop-given.given c.in_ok-next.next inv.0 inv.1 inv.2 c.in_ok-next.ensures.next) (sym c.is_answer.ensures ∙ c.if-not-is_answer.true) c.loop-given-test.true inv.4 in
    IfOk-weaker c.say_end.result _ _ (λ status h. (subst (Appends _ _) (sym end.0) (Appends-trans _ _ _ _ _ inv.5 h.0), h.1 ∙ end.1)) c.say_end.ensures.done

pub returns-then-not-is_answer-clause-part : goal.returns-then-not-is_answer-clause-part
returns-then-not-is_answer-clause-part g c =
    let inv = c.loop-given.invariant in
    let end = at_end c.args.detail c.args.whole.now c.args.program.now c.args.budget c.args.most c.loop-given.given c.in_ok-next.next (told_next c.loop-given.machine c.args.program.now c.args.budget c.loop-given.given c.in_ok-next.next inv.0 inv.1 inv.2 c.in_ok-next.ensures.next) (sym c.is_answer.ensures ∙ c.if-not-is_answer.true) c.loop-given-test.true inv.4 in
    subst (AppendsPrefix _ _) (sym end.0) (part_end _ _ _ _ _ inv.5 c.say_end.ensures.part)

pub returns-in_err-say_answer-clause-part : goal.returns-in_err-say_answer-clause-part
returns-in_err-say_answer-clause-part g c =
    let inv = c.loop-given.invariant in
    let p = past c.loop-given.machine c.next.new.self c.args.program.now c.args.budget c.loop-given.given c.in_ok-next.next inv.0 inv.1 inv.2 c.in_ok-next.ensures.next c.in_ok-next.ensures.machine (sym c.is_answer.ensures ∙ c.if-not-is_answer.false) in
    next_part _ _ _ c.args.detail c.args.whole.now c.next.new.self c.args.program.now c.args.budget c.args.most c.loop-given.given p c.loop-given-test.true inv.4 inv.5 c.say_answer.ensures.part

pub loop-given-preserved : goal.loop-given-preserved
loop-given-preserved g c =
    let inv = c.loop-given.invariant in
    let p = past c.loop-given.machine c.next.new.self c.args.program.now c.args.budget c.loop-given.given c.in_ok-next.next inv.0 inv.1 inv.2 c.in_ok-next.ensures.next c.in_ok-next.ensures.machine (sym c.is_answer.ensures ∙ c.if-not-is_answer.false) in
    let more = next_whole _ _ _ c.args.detail c.args.whole.now c.next.new.self c.args.program.now c.args.budget c.loop-given.given p c.in_ok-say_answer.ensures.some inv.4 inv.5 c.in_ok-say_answer.ensures.done in
    (p.program_, p.budget_, p.given, omega (arith, c.loop-given-test.true), more.0, more.1, omega (arith, inv.6, c.say_answer.ensures.count))

pub returns-clause-done : goal.returns-clause-done
returns-clause-done g c =
    let inv = c.loop-given.invariant in
    let stop = at_stop c.args.detail c.args.whole.now c.args.program.now c.args.budget c.args.most c.loop-given.given c.loop-given-test.false inv.3 inv.4 in
    IfOk-weaker c.say_stopped.result _ _ (λ status h. (subst (Appends _ _) (sym stop.0) (Appends-trans _ _ _ _ _ inv.5 h.0), h.1 ∙ stop.1)) c.say_stopped.ensures.done

pub returns-clause-part : goal.returns-clause-part
returns-clause-part g c =
    let inv = c.loop-given.invariant in
    let stop = at_stop c.args.detail c.args.whole.now c.args.program.now c.args.budget c.args.most c.loop-given.given c.loop-given-test.false inv.3 inv.4 in
    subst (AppendsPrefix _ _) (sym stop.0) (part_end _ _ _ _ _ inv.5 c.say_stopped.ensures.part)
