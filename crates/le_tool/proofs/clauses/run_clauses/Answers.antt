use Rattle.std.proofs.Common.{sym, subst}
use Rattle.std.proofs.lemmas.Result.{IfOk-weaker}
use Rattle.le_tool.specs.Statuses.{IsClausesStatus}
use Rattle.le_tool.proofs.DocumentLemmas.{clauses_part, clauses_whole}
use Rattle.le_tool.proofs.SearchLemmas.{clauses_done}
use Rattle.le_tool.proofs.clauses.run_clauses.Goals as goal

pub returns-clause-done : goal.returns-clause-done
returns-clause-done g c =
    IfOk-weaker c.say_clauses.result _ _ (λ status h. clauses_whole _ _ _ c.in_ok-reading.reading status c.in_ok-reading.ensures.exact h) c.say_clauses.ensures.done

pub returns-clause-part : goal.returns-clause-part
returns-clause-part g c = clauses_part _ _ _ c.in_ok-reading.reading c.in_ok-reading.ensures.exact c.say_clauses.ensures.part

pub returns-clause-statuses : goal.returns-clause-statuses
returns-clause-statuses g c =
    IfOk-weaker c.say_clauses.result _ _ (λ status h. subst IsClausesStatus (sym h.1) (clauses_done c.in_ok-reading.reading.document)) c.say_clauses.ensures.done
