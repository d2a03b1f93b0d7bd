use Rattle.le_tool.specs.Report.{opening, question_by}
use Rattle.le_tool.proofs.SearchLemmas.{part_front, part_end}
use Rattle.le_tool.proofs.answers.say_search.Goals as goal

pub returns-in_err-say_opening-clause-part : goal.returns-in_err-say_opening-clause-part
returns-in_err-say_opening-clause-part g c = part_front _ _ (opening c.args.bytes.now (question_by c.args.asking)) _ c.say_opening.ensures.part

pub returns-clause-part : goal.returns-clause-part
returns-clause-part g c = part_end _ _ _ (opening c.args.bytes.now (question_by c.args.asking)) _ c.in_ok-say_opening.ensures.done c.say_answers.ensures.part
