use Rattle.std.proofs.Common.{map, string_bytes, Global, sym, subst}
use Rattle.std.proofs.lemmas.Result.{IfOk-weaker}
use Rattle.le_tool.specs.Report.{question_by}
use Rattle.le_tool.specs.Statuses.{IsSearchStatus}
use Rattle.le_tool.proofs.AdmittedLemmas.{shown_of}
use Rattle.le_tool.proofs.DocumentLemmas.{question_part, question_whole}
use Rattle.le_tool.proofs.SearchLemmas.{document_done}
use Rattle.le_tool.proofs.answers.run_search.Goals as goal

pub returns-clause-done : goal.returns-clause-done
returns-clause-done g c =
    IfOk-weaker c.say_query.result _ _ (λ status h. question_whole _ _ _ c.args.detail (map (string_bytes {Z = Global}) c.args.words.now) c.args.task.now _ c.in_ok-reading.reading status c.asking_of-asking.ensures.exact c.in_ok-reading.ensures.exact h) c.say_query.ensures.done

pub returns-clause-part : goal.returns-clause-part
returns-clause-part g c =
    question_part _ _ _ c.args.detail (map (string_bytes {Z = Global}) c.args.words.now) c.args.task.now _ c.in_ok-reading.reading c.asking_of-asking.ensures.exact c.in_ok-reading.ensures.exact c.say_query.ensures.part

pub returns-clause-statuses : goal.returns-clause-statuses
returns-clause-statuses g c =
    IfOk-weaker c.say_query.result _ _ (λ status h. subst IsSearchStatus (sym h.1) (document_done c.in_ok-reading.reading.bytes.items (question_by c.asking_of-asking.result) c.in_ok-reading.reading.document)) c.say_query.ensures.done

pub returns-clause-answers : goal.returns-clause-answers
returns-clause-answers g c =
    IfOk-weaker c.say_query.result _ _ (λ status h. shown_of _ c.args.detail (map (string_bytes {Z = Global}) c.args.words.now) c.args.task.now c.in_ok-reading.reading c.in_ok-reading.ensures.sound c.in_ok-reading.ensures.exact) c.say_query.ensures.done
