use Rattle.std.proofs.Common.{◌∙◌}
use Rattle.le_builtins.specs.declared.sentences.Sentence.TheVariants.{Numbers, Dates, Arithmetic, DaysAfter, MonthsAfter, DaysFromTo}
use Rattle.le_builtins.proofs.Arguments.{arity_of, two, three, compute-is}
use Rattle.le_builtins.proofs.computing.compute.Goals as goal

pub returns-in-Numbers-clause-answer : goal.returns-in-Numbers-clause-answer
returns-in-Numbers-clause-answer c =
    let terms = c.args.args.now in
    let sentence = c.in-Numbers.ensures in
    let many = arity_of c.args.pred _ (Numbers c.in-Numbers.comparison) c.requires.computed c.requires.arity sentence in
    c.compare_numbers.ensures.answer ∙ compute-is c.args.pred terms _ (Numbers c.in-Numbers.comparison) sentence (two terms c.index-args-0-in-Numbers.result c.index-args-1-in-Numbers.result many c.index-args-0-in-Numbers.is c.index-args-1-in-Numbers.is)

pub returns-in-Dates-clause-answer : goal.returns-in-Dates-clause-answer
returns-in-Dates-clause-answer c =
    let terms = c.args.args.now in
    let sentence = c.in-Dates.ensures in
    let many = arity_of c.args.pred _ (Dates c.in-Dates.comparison) c.requires.computed c.requires.arity sentence in
    c.compare_dates.ensures.answer ∙ compute-is c.args.pred terms _ (Dates c.in-Dates.comparison) sentence (two terms c.index-args-0-in-Dates.result c.index-args-1-in-Dates.result many c.index-args-0-in-Dates.is c.index-args-1-in-Dates.is)

pub returns-in-Arithmetic-clause-answer : goal.returns-in-Arithmetic-clause-answer
returns-in-Arithmetic-clause-answer c =
    let terms = c.args.args.now in
    let sentence = c.in-Arithmetic.ensures in
    let many = arity_of c.args.pred _ (Arithmetic c.in-Arithmetic.operation) c.requires.computed c.requires.arity sentence in
    c.calculate.ensures.answer ∙ compute-is c.args.pred terms _ (Arithmetic c.in-Arithmetic.operation) sentence (three terms c.index-args-1-in-Arithmetic.result c.index-args-2.result many c.index-args-1-in-Arithmetic.is c.index-args-2.is)

pub returns-in-DaysAfter-clause-answer : goal.returns-in-DaysAfter-clause-answer
returns-in-DaysAfter-clause-answer c =
    let terms = c.args.args.now in
    let sentence = c.in-DaysAfter.ensures in
    let many = arity_of c.args.pred _ DaysAfter c.requires.computed c.requires.arity sentence in
    c.days_after.ensures.answer ∙ compute-is c.args.pred terms _ DaysAfter sentence (three terms c.index-args-1-in-DaysAfter.result c.index-args-2-in-DaysAfter.result many c.index-args-1-in-DaysAfter.is c.index-args-2-in-DaysAfter.is)

pub returns-in-MonthsAfter-clause-answer : goal.returns-in-MonthsAfter-clause-answer
returns-in-MonthsAfter-clause-answer c =
    let terms = c.args.args.now in
    let sentence = c.in-MonthsAfter.ensures in
    let many = arity_of c.args.pred _ MonthsAfter c.requires.computed c.requires.arity sentence in
    c.months_after.ensures.answer ∙ compute-is c.args.pred terms _ MonthsAfter sentence (three terms c.index-args-1-in-MonthsAfter.result c.index-args-2-in-MonthsAfter.result many c.index-args-1-in-MonthsAfter.is c.index-args-2-in-MonthsAfter.is)

pub returns-in-DaysFromTo-clause-answer : goal.returns-in-DaysFromTo-clause-answer
returns-in-DaysFromTo-clause-answer c =
    let terms = c.args.args.now in
    let sentence = c.in-DaysFromTo.ensures in
    let many = arity_of c.args.pred _ DaysFromTo c.requires.computed c.requires.arity sentence in
    c.days_from_to.ensures.answer ∙ compute-is c.args.pred terms _ DaysFromTo sentence (three terms c.index-args-1-in-DaysFromTo.result c.index-args-2-in-DaysFromTo.result many c.index-args-1-in-DaysFromTo.is c.index-args-2-in-DaysFromTo.is)
