use Rattle.le_layout.proofs.LineLemmas.{text_of_lines-lines_of, are_lines-lines_of, lines_of-lines}
use Rattle.le_layout.proofs.laws.whole_lines.Goals as goal

pub returns-clause-whole : goal.returns-clause-whole
returns-clause-whole c = text_of_lines-lines_of

pub returns-clause-are_lines : goal.returns-clause-are_lines
returns-clause-are_lines c = are_lines-lines_of

pub returns-clause-one : goal.returns-clause-one
returns-clause-one c = lines_of-lines
